-- SPDX-License-Identifier: Apache-2.0 OR MIT
-- A row that is read is the one that was written, and what was written is read again.
use Rattle.std.proofs.Common.{◌≡◌, ℕ, zero, suc, List, [], ◌∷◌, ◌++◌, length, Option, Some, None, refl, sym, ap, subst}
use Rattle.std.proofs.Common.{◌∙◌, append_assoc, arith}
use Rattle.std.specs.List.{flat_map}
use Rattle.std.specs.Option.{IfNone}
use Rattle.std.specs.Prelude.{IfSome}
use Rattle.std.proofs.lemmas.List.Concat.{flat_map-cons}
use Rattle.cr_base.specs.declared.row.Row.{Row}
use Rattle.cr_journal.specs.Grammar.{AreNumbers, FitsRow, field, number, numbers_of, row_text}
use Rattle.cr_journal.specs.Reading.{◌>>=◌, Finds, field_at, number_at, numbers_at, row_at, row_of}
use Rattle.cr_journal.proofs.Numbers.{IsBytes, Takes, Takes-then, bind_some, some_is, number_takes, number_again}
use Rattle.cr_journal.proofs.Numbers.{field_takes, field_again}

numbers_take : (n : ℕ) (bytes : List ℕ) (x : List ℕ × List ℕ) → IsBytes bytes → numbers_at n bytes ≡ Some x
    → Takes bytes (flat_map number x.0) x.1 × (length x.0 ≡ n) × AreNumbers x.0
unfolding numbers_at
numbers_take zero bytes x fits e =
    subst (λ (y : List ℕ × List ℕ). Takes bytes (flat_map number y.0) y.1 × (length y.0 ≡ 0) × AreNumbers y.0)
    (some_is ([], bytes) x e) (record { parts = refl; rest_fits = fits }, refl, tt)
numbers_take (suc n) bytes x fits e =
    let a =
    bind_some (number_at bytes) (λ first. numbers_at n first.1 >>= λ others. Some (first.0 ∷ others.0, others.1)) x
    e in
    let b = bind_some (numbers_at n a.0.1) (λ others. Some (a.0.0 ∷ others.0, others.1)) x a.2 in
    let first = number_takes bytes a.0.0 a.0.1 fits a.1 in
    let second = numbers_take n a.0.1 b.0 first.0.rest_fits b.1 in
    let both = Takes-then bytes (number a.0.0) a.0.1 (flat_map number b.0.0) b.0.1 first.0 second.0 in
    let made : List ℕ × List ℕ = (a.0.0 ∷ b.0.0, b.0.1) in
    subst (λ (y : List ℕ × List ℕ). Takes bytes (flat_map number y.0) y.1 × (length y.0 ≡ suc n) × AreNumbers y.0)
    (some_is made x b.2) (rw flat_map-cons both, ap suc second.1, (first.1, second.2))

numbers_again : (ns rest : List ℕ) → AreNumbers ns
    → numbers_at (length ns) (flat_map number ns ++ rest) ≡ Some (ns, rest)
unfolding numbers_at
numbers_again [] rest fits = refl
numbers_again (n ∷ ns) rest fits =
    let regrouped : flat_map number (n ∷ ns) ++ rest ≡ number n ++ (flat_map number ns ++ rest) =
    ap (λ (x : List ℕ). x ++ rest) (flat_map-cons number n ns) ∙ append_assoc (number n) (flat_map number ns) rest in
    ap (numbers_at (suc (length ns))) regrouped
    ∙ rw (number_again n (flat_map number ns ++ rest) fits.0, numbers_again ns rest fits.1) refl

-- ten numbers are those of their row
ten : (ns mark b1 b2 : List ℕ) → length ns ≡ 10 → numbers_of (row_of ns mark b1 b2) ≡ ns
ten (a ∷ b ∷ c ∷ d ∷ e ∷ f ∷ g ∷ h ∷ i ∷ j ∷ []) mark b1 b2 len = refl
ten [] mark b1 b2 len = absurd (omega (arith, len))
ten (a ∷ []) mark b1 b2 len = absurd (omega (arith, len))
ten (a ∷ b ∷ []) mark b1 b2 len = absurd (omega (arith, len))
ten (a ∷ b ∷ c ∷ []) mark b1 b2 len = absurd (omega (arith, len))
ten (a ∷ b ∷ c ∷ d ∷ []) mark b1 b2 len = absurd (omega (arith, len))
ten (a ∷ b ∷ c ∷ d ∷ e ∷ []) mark b1 b2 len = absurd (omega (arith, len))
ten (a ∷ b ∷ c ∷ d ∷ e ∷ f ∷ []) mark b1 b2 len = absurd (omega (arith, len))
ten (a ∷ b ∷ c ∷ d ∷ e ∷ f ∷ g ∷ []) mark b1 b2 len = absurd (omega (arith, len))
ten (a ∷ b ∷ c ∷ d ∷ e ∷ f ∷ g ∷ h ∷ []) mark b1 b2 len = absurd (omega (arith, len))
ten (a ∷ b ∷ c ∷ d ∷ e ∷ f ∷ g ∷ h ∷ i ∷ []) mark b1 b2 len = absurd (omega (arith, len))
ten (a ∷ b ∷ c ∷ d ∷ e ∷ f ∷ g ∷ h ∷ i ∷ j ∷ k ∷ ns) mark b1 b2 len = absurd (omega (arith, len))

pub row_takes : (bytes : List ℕ) (x : Row × List ℕ) → IsBytes bytes → row_at bytes ≡ Some x
    → Takes bytes (row_text x.0) x.1 × FitsRow x.0
unfolding row_at
row_takes bytes x fits e =
    let a =
    bind_some (numbers_at 10 bytes) (λ ns. field_at ns.1 >>= λ mark. field_at mark.1 >>= λ b1. field_at b1.1 >>= λ b2.
    Some (row_of ns.0 mark.0 b1.0 b2.0, b2.1)) x e in
    let b =
    bind_some (field_at a.0.1) (λ mark. field_at mark.1 >>= λ b1. field_at b1.1 >>= λ b2.
    Some (row_of a.0.0 mark.0 b1.0 b2.0, b2.1)) x a.2 in
    let c =
    bind_some (field_at b.0.1) (λ b1. field_at b1.1 >>= λ b2. Some (row_of a.0.0 b.0.0 b1.0 b2.0, b2.1)) x b.2 in
    let d = bind_some (field_at c.0.1) (λ b2. Some (row_of a.0.0 b.0.0 c.0.0 b2.0, b2.1)) x c.2 in
    let t0 = numbers_take 10 bytes a.0 fits a.1 in
    let t1 = field_takes a.0.1 b.0.0 b.0.1 t0.0.rest_fits b.1 in
    let t2 = field_takes b.0.1 c.0.0 c.0.1 t1.0.rest_fits c.1 in
    let t3 = field_takes c.0.1 d.0.0 d.0.1 t2.0.rest_fits d.1 in
    let e23 = Takes-then b.0.1 (field c.0.0) c.0.1 (field d.0.0) d.0.1 t2.0 t3.0 in
    let e13 = Takes-then a.0.1 (field b.0.0) b.0.1 (field c.0.0 ++ field d.0.0) d.0.1 t1.0 e23 in
    let e03 =
    Takes-then bytes (flat_map number a.0.0) a.0.1 (field b.0.0 ++ (field c.0.0 ++ field d.0.0)) d.0.1 t0.0 e13 in
    let same : numbers_of (row_of a.0.0 b.0.0 c.0.0 d.0.0) ≡ a.0.0 = ten a.0.0 b.0.0 c.0.0 d.0.0 t0.1 in
    let made : Row × List ℕ = (row_of a.0.0 b.0.0 c.0.0 d.0.0, d.0.1) in
    subst (λ (y : Row × List ℕ). Takes bytes (row_text y.0) y.1 × FitsRow y.0) (some_is made x d.2) (
      subst (λ (ns : List ℕ). Takes bytes (flat_map number ns ++ (field b.0.0 ++ (field c.0.0 ++ field d.0.0))) d.0.1)
          (sym same) e03,
      record { numbers = subst AreNumbers (sym same) t0.2; mark = t1.1; b1 = t2.1; b2 = t3.1 },
    )

pub row_again : (r : Row) (rest : List ℕ) → FitsRow r → row_at (row_text r ++ rest) ≡ Some (r, rest)
unfolding row_at
row_again r rest fits =
    let ns : List ℕ = flat_map number (numbers_of r) in
    let regrouped : row_text r ++ rest ≡ ns ++ (field r.mark ++ (field r.b1 ++ (field r.b2 ++ rest))) =
    append_assoc ns (field r.mark ++ (field r.b1 ++ field r.b2)) rest
    ∙ ap (λ (l : List ℕ). ns ++ l) (append_assoc (field r.mark) (field r.b1 ++ field r.b2) rest
    ∙ ap (λ (l : List ℕ). field r.mark ++ l) (append_assoc (field r.b1) (field r.b2) rest)) in
    let first : numbers_at 10 (ns ++ (field r.mark ++ (field r.b1 ++ (field r.b2 ++ rest))))
    ≡ Some (numbers_of r, field r.mark ++ (field r.b1 ++ (field r.b2 ++ rest))) =
    numbers_again (numbers_of r) (field r.mark ++ (field r.b1 ++ (field r.b2 ++ rest))) fits.numbers in
    ap row_at regrouped
    ∙ rw (
      first,
      field_again r.mark (field r.b1 ++ (field r.b2 ++ rest)) fits.mark,
      field_again r.b1 (field r.b2 ++ rest) fits.b1,
      field_again r.b2 rest fits.b2,
    ) refl

-- ---- what a reader found

pub found_of : {X : Type 0} (row : X → Row) (rest : X → List ℕ) (bytes : List ℕ) (o : Option X) → IsBytes bytes
    → Finds (λ x. (row x, rest x)) o (row_at bytes)
    → IfSome o (λ x. (bytes ≡ row_text (row x) ++ rest x) × FitsRow (row x))
found_of row rest bytes (Some x) fits e = let t = row_takes bytes (row x, rest x) fits e in (t.0.parts, t.1)
found_of row rest bytes None fits e = tt

pub none_of : {X : Type 0} (row : X → Row) (rest : X → List ℕ) (bytes : List ℕ) (o : Option X)
    → Finds (λ x. (row x, rest x)) o (row_at bytes)
    → IfNone o ((r : Row) (l : List ℕ) → FitsRow r → bytes ≡ row_text r ++ l → ⊥)
none_of row rest bytes (Some x) e = tt
none_of row rest bytes None e = λ r l fits is. absurd (cc (e, ap row_at is ∙ row_again r l fits))
