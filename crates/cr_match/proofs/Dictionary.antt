-- SPDX-License-Identifier: Apache-2.0 OR MIT
-- From choices of pairs to lists of pairs in dictionary order.
use Rattle.cr_match.proofs.Common.{Bool, IsAscending, IsPlan, IsProblem, List, Pair, Problem, ap, arith, false, get_or}
use Rattle.cr_match.proofs.Common.{inl, inr, ints, kept, length, map, refl, subst, suc, sym, total_weight, true, zero}
use Rattle.cr_match.proofs.Common.{ℕ, ◌<◌, ◌∙◌, ◌∷◌, ◌≡◌, ◌⊎◌, ◌≤ℤ◌, []}
use Rattle.cr_match.specs.Answer.{Ascends, ComesAfter, IsBefore, IsFirst}
use Rattle.cr_match.specs.Settle.{NoneBefore, SameTo, nth}
use Rattle.cr_match.proofs.Rivals.{as_many}

comes_trans : (e f g : Pair) → ComesAfter e f → ComesAfter f g → ComesAfter e g
comes_trans e f g h k = elim h [
  | inl a ↦ elim k [ inl b ↦ inl (omega (arith, a, b)) | inr b ↦ inl (omega (arith, a, b.0)) ]
  | inr a ↦ elim k [ inl b ↦ inl (omega (arith, a.0, b)) | inr b ↦ inr (a.0 ∙ b.0, omega (arith, a.1, b.1)) ]
]

pub ascends_past : (e g : Pair) (gs : List Pair) → ComesAfter e g → Ascends g gs → Ascends e gs
ascends_past e g [] c h = tt
ascends_past e g (f ∷ fs) c h = (comes_trans e g f c h.0, h.1)

pub ascends_rest : (e : Pair) (es : List Pair) → Ascends e es → IsAscending es
ascends_rest e [] h = tt
ascends_rest e (f ∷ fs) h = h.1

pub kept_nothing : (bs : List Bool) → kept {X = Pair} bs [] ≡ []
kept_nothing [] = refl
kept_nothing (b ∷ bs) = refl

some_length : (e : Pair) (es : List Pair) → length (e ∷ es) ≡ suc (length es)
some_length e es = refl

none_length : length {A = Pair} [] ≡ 0
none_length = refl

-- the first of those that are kept comes after what comes before all
pub kept_after : (e : Pair) (es : List Pair) (bs : List Bool) (f : Pair) (fs : List Pair) → Ascends e es
    → kept bs es ≡ f ∷ fs → ComesAfter e f
kept_after e [] bs f fs h is =
    absurd (omega (arith, ap (λ (x : List Pair). length x) (sym (kept_nothing bs) ∙ is), some_length f fs, none_length))
kept_after e (g ∷ gs) [] f fs h is =
    absurd (omega (arith, ap (λ (x : List Pair). length x) is, some_length f fs, none_length))
kept_after e (g ∷ gs) (true ∷ bs) f fs h is =
    let same : g ≡ f = ap (λ (x : List Pair). first_of g x) is in subst (λ (p : Pair). ComesAfter e p) same h.0
  where
    first_of : Pair → List Pair → Pair
    first_of d [] = d
    first_of d (x ∷ xs) = x
kept_after e (g ∷ gs) (false ∷ bs) f fs h is = kept_after e gs bs f fs (ascends_past e g gs h.0 h.1) is

parts_here : (e : Pair) (es xs ys : List Pair) (bs : List Bool) → Ascends e es → kept bs es ≡ ys
    → length (e ∷ xs) ≡ length ys → IsBefore (e ∷ xs) ys
parts_here e es xs [] bs h is l = absurd (omega (arith, l, some_length e xs, none_length))
parts_here e es xs (f ∷ fs) bs h is l = inl (kept_after e es bs f fs h is)

-- where the marks part first, the plan has the pair
abbrev NoLater : (Pair → Bool) → List Pair → List Bool → Type 0
NoLater h es cs = (i : ℕ) → i < length es → SameTo h es cs i → get_or cs i false ≡ true → h (nth es i) ≡ true

later_rest : (h : Pair → Bool) (e : Pair) (es : List Pair) (c : Bool) (cs : List Bool) → c ≡ h e
    → NoLater h (e ∷ es) (c ∷ cs) → NoLater h es cs
later_rest h e es c cs same none i lt before has = none (suc i) (omega (arith, lt, some_length e es)) sooner has
  where
    sooner : SameTo h (e ∷ es) (c ∷ cs) (suc i)
    sooner zero lj = same
    sooner (suc j) lj = before j (omega (arith, lj))

-- so it comes first, or is the same, as a list of as many
order_case : (h : Pair → Bool) (e : Pair) (es : List Pair) (b c : Bool) (cs : List Bool) → Ascends e es
    → (c ≡ true → b ≡ true) → (c ≡ b → length (kept (map h es) es) ≡ length (kept cs es)
    → (kept cs es ≡ kept (map h es) es) ⊎ IsBefore (kept (map h es) es) (kept cs es))
    → length (kept (b ∷ map h es) (e ∷ es)) ≡ length (kept (c ∷ cs) (e ∷ es))
    → (kept (c ∷ cs) (e ∷ es) ≡ kept (b ∷ map h es) (e ∷ es))
    ⊎ IsBefore (kept (b ∷ map h es) (e ∷ es)) (kept (c ∷ cs) (e ∷ es))
order_case h e es true true cs asc has rest l = elim (rest refl
    (omega (arith, l, some_length e (kept (map h es) es), some_length e (kept cs es)))) [
      | inl same ↦ inl (ap (λ (x : List Pair). e ∷ x) same)
      | inr before ↦ inr (inr (refl, refl, before))
    ]
order_case h e es true false cs asc has rest l = inr (parts_here e es (kept (map h es) es) (kept cs es) cs asc refl l)
order_case h e es false true cs asc has rest l = absurd (let x = has refl in cc)
order_case h e es false false cs asc has rest l = rest refl l

pub in_order : (h : Pair → Bool) (es : List Pair) (cs : List Bool) → IsAscending es → NoLater h es cs
    → length (kept (map h es) es) ≡ length (kept cs es)
    → (kept cs es ≡ kept (map h es) es) ⊎ IsBefore (kept (map h es) es) (kept cs es)
in_order h [] cs asc none l = inl (kept_nothing cs)
in_order h (e ∷ es) [] asc none l = inl (sym (nothing (kept (map h (e ∷ es)) (e ∷ es)) l))
  where
    nothing : (xs : List Pair) → length xs ≡ length {A = Pair} [] → xs ≡ []
    nothing [] l = refl
    nothing (x ∷ xs) l = absurd (omega (arith, l, some_length x xs, none_length))
in_order h (e ∷ es) (c ∷ cs) asc none l = order_case h e es (h e) c cs asc
    (none 0 (omega (arith, some_length e es)) (λ j lj. absurd (omega (arith, lj))))
    (λ same less. in_order h es cs (ascends_rest e es asc) (later_rest h e es c cs same none) less) l

pub is_first : (problem : Problem) (h : Pair → Bool) → IsProblem problem
    → IsPlan problem.papers problem.per_paper problem.load (kept (map h problem.pairs.items) problem.pairs.items)
    → NoneBefore problem.papers problem.per_paper problem.load problem.pairs.items h (length problem.pairs.items)
    → IsAscending problem.pairs.items → IsFirst problem (kept (map h problem.pairs.items) problem.pairs.items)
is_first problem h fine plan none asc other rival same =
    let fits : IsPlan problem.papers problem.per_paper problem.load (kept rival.marks problem.pairs.items) =
    subst (IsPlan problem.papers problem.per_paper problem.load) rival.some rival.fits in
    let le : total_weight (kept (map h problem.pairs.items) problem.pairs.items)
    ≤ℤ total_weight (kept rival.marks problem.pairs.items) =
    omega (arith, ints, same, ap total_weight rival.some) in
    elim (in_order h problem.pairs.items rival.marks asc
    (λ i li before has. none i li rival.marks fits le before has)
    (as_many problem.papers problem.members problem.per_paper problem.load problem.pairs.items h fine.inside plan
    rival.marks fits)) [
      | inl e ↦ inl (rival.some ∙ e)
      | inr before ↦ inr (subst (IsBefore (kept (map h problem.pairs.items) problem.pairs.items))
          (sym rival.some) before)
    ]
