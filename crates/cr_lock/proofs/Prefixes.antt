-- SPDX-License-Identifier: Apache-2.0 OR MIT
-- Beginnings of one list.
use Rattle.std.proofs.Common.{◌≡◌, ◌≤◌, ◌⊎◌, inl, inr, List, [], ◌∷◌, ◌++◌, length, drop, refl, ap, sym, ◌∙◌, arith}
use Rattle.std.proofs.Common.{append_assoc, length-append}
use mathlib.Core.Logic.{dite}
use native.Mathlib.Decide.{dec_le}
use mathlib.Core.List.{IsPrefix}
use Rattle.cr_lock.specs.declared.pass_state.Turn.{Turn}
use Rattle.cr_lock.specs.Counts.{Every}
use Rattle.cr_lock.specs.Turns.{StandsIn}

pub prefix_self : {A : Type 0} (xs : List A) → IsPrefix xs xs
prefix_self [] = ([], refl)
prefix_self (x ∷ xs) = (let r = prefix_self xs in r.0, ap (λ ys. x ∷ ys) (prefix_self xs).1)

pub prefix_trans : {A : Type 0} (xs ys zs : List A) → IsPrefix xs ys → IsPrefix ys zs → IsPrefix xs zs
prefix_trans xs ys zs p q = (p.0 ++ q.0, sym (append_assoc xs p.0 q.0) ∙ (ap (λ w. w ++ q.0) p.1 ∙ q.1))

-- of two beginnings of one list the shorter begins the longer
pub prefix_shorter : {A : Type 0} (xs ys zs : List A) → IsPrefix xs zs → IsPrefix ys zs → length xs ≤ length ys
    → IsPrefix xs ys
prefix_shorter [] ys zs p q le = (ys, refl)
prefix_shorter (x ∷ xs) [] zs p q le = absurd (omega arith)
prefix_shorter (x ∷ xs) (y ∷ ys) [] p q le = absurd (cc (p.1))
prefix_shorter (x ∷ xs) (y ∷ ys) (z ∷ zs) p q le =
    let heads : x ≡ y = cc (p.1, q.1) in
    let rest = prefix_shorter xs ys zs (p.0, cc (p.1)) (q.0, cc (q.1)) (omega arith) in
    (rest.0, cc (heads, rest.1))

pub prefix_length : {A : Type 0} (xs ys : List A) → IsPrefix xs ys → length xs ≤ length ys
prefix_length xs ys p = omega (arith, sym (ap length p.1) ∙ length-append xs p.0)

pub prefix_either : {A : Type 0} (xs ys zs : List A) → IsPrefix xs zs → IsPrefix ys zs → IsPrefix xs ys ⊎ IsPrefix ys xs
prefix_either xs ys zs p q = dite (dec_le (length xs) (length ys)) (λ le. inl (prefix_shorter xs ys zs p q le))
    (λ more. inr (prefix_shorter ys xs zs q p (omega arith)))

-- the list goes on with what is left of the longer one
pub prefix_drop : {A : Type 0} (xs ys : List A) → IsPrefix xs ys → xs ++ drop (length xs) ys ≡ ys
prefix_drop [] ys p = refl
prefix_drop (x ∷ xs) [] p = absurd (cc (p.1))
prefix_drop (x ∷ xs) (y ∷ ys) p = let rest : xs ++ drop (length xs) ys ≡ ys =
    prefix_drop xs ys (p.0, cc (p.1)) in cc (p.1, rest)

pub stands_longer : {T E : Type 0} (log more : List E) (t : Turn T E) → IsPrefix log more → StandsIn log t → StandsIn more t
stands_longer log more t p s = (s.0, s.1, prefix_trans (s.0 ++ t.group) log more s.2 p)

pub every_longer : {T E : Type 0} (log more : List E) (ts : List (Turn T E)) → IsPrefix log more → Every (StandsIn log) ts
    → Every (StandsIn more) ts
every_longer log more [] p e = tt
every_longer log more (t ∷ ts) p e = (stands_longer log more t p e.0, every_longer log more ts p e.1)

pub every_snoc : {X : Type 0} (P : X → Type 0) (ts : List X) (t : X) → Every P ts → P t → Every P (ts ++ t ∷ [])
every_snoc P [] t e p = (p, tt)
every_snoc P (u ∷ us) t e p = (e.0, every_snoc P us t e.1 p)

-- a beginning as long as the whole is the whole
pub prefix_whole : {A : Type 0} (xs ys : List A) → IsPrefix xs ys → length ys ≤ length xs → xs ≡ ys
prefix_whole [] [] p le = refl
prefix_whole [] (y ∷ ys) p le = absurd (omega arith)
prefix_whole (x ∷ xs) [] p le = absurd (cc (p.1))
prefix_whole (x ∷ xs) (y ∷ ys) p le =
    let rest = prefix_whole xs ys (p.0, cc (p.1)) (omega arith) in cc (p.1, rest)
