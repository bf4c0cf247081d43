-- SPDX-License-Identifier: Apache-2.0 OR MIT
-- Where a fact of a history comes from: the entry that tells it, between those before it and those behind it.
use Rattle.std.proofs.Common.{Bool, true, false, ◌≡◌, List, [], ◌∷◌, ◌++◌, refl, sym, ap, subst, ◌∙◌, ◌||◌, Option}
use Rattle.std.proofs.Common.{Some}
use Rattle.std.proofs.Common.{None, append_assoc, append-nil}
use Rattle.std.specs.Prelude.{unwrap_or}
use Rattle.std.specs.List.{flat_map, list_any}
use Rattle.std.proofs.lemmas.List.Folds.{list_any-append}
use Rattle.cr_base.specs.declared.entry.Stamped.{Stamped}
use Rattle.cr_base.specs.History.{History}
use Rattle.cr_base.specs.Lists.{given, is_nothing, last, last_from}
use Rattle.cr_history.specs.Invariants.{InTurn}

-- ---- the last that is told

nothing-is : {A : Type 0} (xs : List A) → is_nothing xs ≡ true → xs ≡ []
nothing-is [] none = refl
nothing-is (x ∷ xs) none = cc

last-ahead : {A : Type 0} (o o' : Option A) (xs ys : List A) → is_nothing ys ≡ false
    → last_from o (xs ++ ys) ≡ last_from o' ys
last-ahead o o' [] [] some = cc
last-ahead o o' [] (y ∷ ys) some = refl
last-ahead o o' (x ∷ xs) ys some = last-ahead (Some x) o' xs ys some

append-none : {A : Type 0} (xs ys : List A) → ys ≡ [] → xs ++ ys ≡ xs
append-none xs ys none = ap (λ zs. xs ++ zs) none ∙ append-nil xs

-- an entry whose last is the value, and behind which nothing is told
pub record LastTold {A : Type 0} (told : Stamped → List A) (H : History) (x : A) : Type 0 where
  pub before : History
  pub entry : Stamped
  pub after : History
  pub there : H ≡ before ++ entry ∷ after
  pub tells : last (told entry) ≡ Some x
  pub since : flat_map told after ≡ []

pub last-told : {A : Type 0} (told : Stamped → List A) (H : History) (x : A) → last (flat_map told H) ≡ Some x
    → LastTold told H x
last-told told [] x is = cc
last-told told (e ∷ H) x is = by (is_nothing (flat_map told H)) refl (last-told told H x)
  where
    by : (b : Bool) → is_nothing (flat_map told H) ≡ b → (last (flat_map told H) ≡ Some x → LastTold told H x)
        → LastTold told (e ∷ H) x
    by true none rest =
        let empty = nothing-is (flat_map told H) none in
        record {
          before = [];
          entry = e;
          after = H;
          there = refl;
          tells = sym (ap last (append-none (told e) (flat_map told H) empty)) ∙ is;
          since = empty;
        }
    by false some rest =
        let k = rest (sym (last-ahead None None (told e) (flat_map told H) some) ∙ is) in
        record {
          before = e ∷ k.before;
          entry = k.entry;
          after = k.after;
          there = ap (λ (G : History). e ∷ G) k.there;
          tells = k.tells;
          since = k.since;
        }

-- ---- one that is told

pub record OneTold {A : Type 0} (told : Stamped → List A) (test : A → Bool) (H : History) : Type 0 where
  pub before : History
  pub entry : Stamped
  pub after : History
  pub there : H ≡ before ++ entry ∷ after
  pub tells : list_any test (told entry) ≡ true

pub one-told : {A : Type 0} (told : Stamped → List A) (test : A → Bool) (H : History)
    → list_any test (flat_map told H) ≡ true → OneTold told test H
one-told told test [] is = cc
one-told told test (e ∷ H) is =
    by (list_any test (told e)) refl (sym (list_any-append test (told e) (flat_map told H)) ∙ is) (one-told told test H)
  where
    by : (b : Bool) → list_any test (told e) ≡ b
        → (list_any test (told e) || list_any test (flat_map told H)) ≡ true
        → (list_any test (flat_map told H) ≡ true → OneTold told test H) → OneTold told test (e ∷ H)
    by true tells is rest = record { before = []; entry = e; after = H; there = refl; tells = tells }
    by false tells is rest =
        let k = rest (sym (ap (λ b. b || list_any test (flat_map told H)) tells) ∙ is) in
        record {
          before = e ∷ k.before;
          entry = k.entry;
          after = k.after;
          there = ap (λ (G : History). e ∷ G) k.there;
          tells = k.tells;
        }

-- ---- what is given where a test holds

pub given-some : {A : Type 0} (b : Bool) (x y : A) → last (given b x) ≡ Some y → (b ≡ true) × (x ≡ y)
given-some true x y is = (refl, cc)
given-some false x y is = cc

pub given-any : {A : Type 0} (test : A → Bool) (b : Bool) (x : A) → list_any test (given b x) ≡ true
    → (b ≡ true) × (test x ≡ true)
given-any test true x is = (refl, by (test x) is)
  where
    by : (c : Bool) → (c || false) ≡ true → c ≡ true
    by true h = refl
    by false h = h
given-any test false x is = cc

-- a value that isn't the one without an entry was told
pub told-else : {A : Type 0} (else x : A) (o : Option A) → unwrap_or o else ≡ x → (else ≡ x → ⊥) → o ≡ Some x
told-else else x None is other = absurd (other is)
told-else else x (Some y) is other = ap (λ z. Some z) is

-- ---- what is so of each entry in its turn

turn-from : (P : History → Stamped → Type 0) (first before : History) (e : Stamped) (after : History)
    → InTurn P first (before ++ e ∷ after) → P (first ++ before) e
turn-from P first [] e after turn = subst (λ (G : History). P G e) (sym (append-nil first)) turn.0
turn-from P first (d ∷ before) e after turn =
    subst (λ (G : History). P G e) (append_assoc first (d ∷ []) before)
    (turn-from P (first ++ d ∷ []) before e after turn.1)

pub in-turn : (P : History → Stamped → Type 0) (H before : History) (e : Stamped) (after : History)
    → H ≡ before ++ e ∷ after → InTurn P [] H → P before e
in-turn P H before e after there turn = turn-from P [] before e after (subst (InTurn P []) there turn)

-- of what stands ahead too
pub turn-before : (P : History → Stamped → Type 0) (first before later : History) → InTurn P first (before ++ later)
    → InTurn P first before
turn-before P first [] later turn = tt
turn-before P first (e ∷ before) later turn = (turn.0, turn-before P (first ++ e ∷ []) before later turn.1)
