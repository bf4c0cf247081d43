-- SPDX-License-Identifier: Apache-2.0 OR MIT
-- From what each entry shows to a fold over the view.
use Rattle.std.proofs.Common.{◌≡◌, ℕ, Bool, true, false, List, [], ◌∷◌, ◌++◌, refl, sym, ap, ◌∙◌, append-nil, ◌||◌}
use Rattle.std.proofs.Common.{◌&&◌, Option, Some, None}
use Rattle.std.specs.Prelude.{map, filter}
use Rattle.std.specs.Option.{option_map}
use Rattle.std.specs.List.{flat_map, list_any}
use Rattle.std.proofs.lemmas.Bool.{or_parts, true≢false}
use Rattle.std.proofs.lemmas.List.{map-append}
use Rattle.std.proofs.lemmas.List.Concat.{flat_map-append}
use Rattle.std.proofs.lemmas.List.Elements.{filter-append}
use Rattle.std.proofs.lemmas.List.Folds.{list_any-append}
use Rattle.cr_base.specs.declared.entry.Stamped.{Stamped}
use Rattle.cr_base.specs.Lists.{given, is_number, last, last_from, is_nothing, listed}
use Rattle.cr_base.specs.History.{History}
use Rattle.cr_base.proofs.LastLaws.{last_from-map, listed-map}
use Rattle.cr_policy.specs.Sighting.{Sighting}
use Rattle.cr_policy.specs.Triggers.{Reader, Around}
use Rattle.cr_policy.specs.View.{sight, sights}
use Rattle.cr_policy.specs.ViewFacts.{only}

pub only-true : {A : Type 0} (xs : List A) → only true xs ≡ xs
only-true [] = refl
only-true (x ∷ xs) = refl

pub only-false : {A : Type 0} (xs : List A) → only false xs ≡ []
only-false [] = refl
only-false (x ∷ xs) = refl

-- what a sighting tells that may not be there
pub flat_map-given : {X A : Type 0} (f : X → List A) (b : Bool) (x : X) → flat_map f (given b x) ≡ only b (f x)
flat_map-given f true x = append-nil (f x) ∙ sym (only-true (f x))
flat_map-given f false x = sym (only-false (f x))

-- what is made of each value that is told
pub map-flat_map : {X A B : Type 0} (f : A → B) (g : X → List A) (xs : List X)
    → map f (flat_map g xs) ≡ flat_map (λ x. map f (g x)) xs
map-flat_map f g [] = refl
map-flat_map f g (x ∷ xs) = map-append f (g x) (flat_map g xs) ∙ ap (λ ys. map f (g x) ++ ys) (map-flat_map f g xs)

pub map-only : {A B : Type 0} (f : A → B) (b : Bool) (xs : List A) → map f (only b xs) ≡ only b (map f xs)
map-only f b [] = refl
map-only f true (x ∷ xs) = refl
map-only f false (x ∷ xs) = refl

-- and of each that passes a test
pub filter-flat_map : {X A : Type 0} (test : A → Bool) (g : X → List A) (xs : List X)
    → filter test (flat_map g xs) ≡ flat_map (λ x. filter test (g x)) xs
filter-flat_map test g [] = refl
filter-flat_map test g (x ∷ xs) =
    filter-append test (g x) (flat_map g xs) ∙ ap (λ ys. filter test (g x) ++ ys) (filter-flat_map test g xs)

-- ---- facts of which each entry shows all that it tells

-- what each entry shows, told by `seen`, is what the entry tells
abbrev pub TellsAll : {A : Type 0} → Reader → (Sighting → List A) → (Stamped → List A) → Type 0
TellsAll r seen told = (at : Around) (e : Stamped) → flat_map seen (sight r at e) ≡ told e

-- where it is so of each entry, it is so of the histories
pub sights-all : {A : Type 0} (r : Reader) (seen : Sighting → List A) (told : Stamped → List A) → TellsAll r seen told
    → (before H : History)
    → flat_map seen (sights r before H) ≡ flat_map told H
sights-all r seen told tells before [] = refl
sights-all r seen told tells before (e ∷ after) =
    let at : Around = record { before = before; after = after } in
    flat_map-append seen (sight r at e) (sights r (before ++ e ∷ []) after)
    ∙ (ap (λ xs. xs ++ flat_map seen (sights r (before ++ e ∷ []) after)) (tells at e)
    ∙ ap (λ ys. told e ++ ys) (sights-all r seen told tells (before ++ e ∷ []) after))

-- ---- facts of which some entries show what they tell, and others nothing

-- what each entry shows, told by `seen`, is what it tells, where it passes
abbrev pub Tells : {A : Type 0} → Reader → (Sighting → List A) → (Stamped → List A) → (Around → Stamped → Bool) → Type 0
Tells r seen told passes = (at : Around) (e : Stamped) → flat_map seen (sight r at e) ≡ only (passes at e) (told e)

-- the values told by the entries that pass
abbrev pub kept : {A : Type 0} → (Around → Stamped → Bool) → (Stamped → List A) → History → History → List A
kept passes told before [] = []
kept passes told before (e ∷ after) =
    only (passes (record { before = before; after = after }) e) (told e) ++ kept passes told (before ++ e ∷ []) after

pub sights-kept : {A : Type 0} (r : Reader) (seen : Sighting → List A) (told : Stamped → List A)
    (passes : Around → Stamped → Bool)
    → Tells r seen told passes → (before H : History) → flat_map seen (sights r before H) ≡ kept passes told before H
sights-kept r seen told passes tells before [] = refl
sights-kept r seen told passes tells before (e ∷ after) =
    let at : Around = record { before = before; after = after } in
    flat_map-append seen (sight r at e) (sights r (before ++ e ∷ []) after)
    ∙ (ap (λ xs. xs ++ flat_map seen (sights r (before ++ e ∷ []) after)) (tells at e)
    ∙ ap (λ ys. only (passes at e) (told e) ++ ys) (sights-kept r seen told passes tells (before ++ e ∷ []) after))

-- what is made of the values that are kept
pub kept-map : {A B : Type 0} (m : A → B) (passes : Around → Stamped → Bool) (told : Stamped → List A)
    (before H : History)
    → kept passes (λ e. map m (told e)) before H ≡ map m (kept passes told before H)
kept-map m passes told before [] = refl
kept-map m passes told before (e ∷ after) =
    let at : Around = record { before = before; after = after } in
    ap (λ xs. xs ++ kept passes (λ e. map m (told e)) (before ++ e ∷ []) after)
    (sym (map-only m (passes at e) (told e)))
    ∙ ap (λ ys. map m (only (passes at e) (told e)) ++ ys) (kept-map m passes told (before ++ e ∷ []) after)
    ∙ sym (map-append m (only (passes at e) (told e)) (kept passes told (before ++ e ∷ []) after))

-- what each entry shows is what it tells, where it passes, for one who is told `m` of it
abbrev pub TellsAs : {A B : Type 0} → (A → B) → Reader → (Sighting → List A) → (Stamped → List A)
    → (Around → Stamped → Bool) → Type 0
TellsAs m r seen told passes = Tells r (λ s. map m (seen s)) (λ e. map m (told e)) passes

pub sights-as : {A B : Type 0} (m : A → B) (r : Reader) (seen : Sighting → List A) (told : Stamped → List A)
    (passes : Around → Stamped → Bool)
    → TellsAs m r seen told passes → (before H : History)
    → map m (flat_map seen (sights r before H)) ≡ map m (kept passes told before H)
sights-as m r seen told passes tells before H =
    map-flat_map m seen (sights r before H)
    ∙ sights-kept r (λ s. map m (seen s)) (λ e. map m (told e)) passes tells before H
    ∙ kept-map m passes told before H

-- nobody is none of any users
pub list_any-nobody : (xs : List ℕ) → list_any (is_number None) xs ≡ false
list_any-nobody [] = refl
list_any-nobody (x ∷ xs) = list_any-nobody xs

list_any-only : {A : Type 0} (test : A → Bool) (b : Bool) (xs : List A) → list_any test xs ≡ false
    → list_any test (only b xs) ≡ false
list_any-only test true xs h = ap (list_any test) (only-true xs) ∙ h
list_any-only test false xs h = ap (list_any test) (only-false xs)

-- a test that no value told passes, none that is kept does
pub list_any-kept : {A : Type 0} (test : A → Bool) (passes : Around → Stamped → Bool) (told : Stamped → List A)
    (before H : History)
    → list_any test (flat_map told H) ≡ false → list_any test (kept passes told before H) ≡ false
list_any-kept test passes told before [] h = refl
list_any-kept test passes told before (e ∷ after) h =
    let at : Around = record { before = before; after = after } in
    let rest = kept passes told (before ++ e ∷ []) after in
    let parts = or_parts (list_any test (told e)) (list_any test (flat_map told after))
    (sym (list_any-append test (told e) (flat_map told after)) ∙ h) in
    list_any-append test (only (passes at e) (told e)) rest
    ∙ (ap (λ b. b || list_any test rest) (list_any-only test (passes at e) (told e) parts.0)
    ∙ list_any-kept test passes told (before ++ e ∷ []) after parts.1)

-- where each value told passes that stands behind entries of which this holds, all are kept that do
pub kept-all : {A : Type 0} (Holds : History → Type 0) (passes : Around → Stamped → Bool) (told : Stamped → List A)
    → ((before : History) (e : Stamped) → Holds before → Holds (before ++ e ∷ []))
    → ((at : Around) (e : Stamped) → Holds at.before → only (passes at e) (told e) ≡ told e)
    → (before H : History) → Holds before → kept passes told before H ≡ flat_map told H
kept-all Holds passes told grows all before [] h = refl
kept-all Holds passes told grows all before (e ∷ after) h =
    ap (λ xs. xs ++ kept passes told (before ++ e ∷ []) after) (all (record { before = before; after = after }) e h)
    ∙ ap (λ ys. told e ++ ys) (kept-all Holds passes told grows all (before ++ e ∷ []) after (grows before e h))

-- where none passes, none is kept
pub kept-none : {A : Type 0} (passes : Around → Stamped → Bool) (told : Stamped → List A)
    → ((at : Around) (e : Stamped) → only (passes at e) (told e) ≡ []) → (before H : History)
    → kept passes told before H ≡ []
kept-none passes told none before [] = refl
kept-none passes told none before (e ∷ after) =
    ap (λ xs. xs ++ kept passes told (before ++ e ∷ []) after) (none (record { before = before; after = after }) e)
    ∙ kept-none passes told none (before ++ e ∷ []) after

-- the values seen are those told, where each passes
pub fold_all : {A : Type 0} (r : Reader) (seen : Sighting → List A) (told : Stamped → List A)
    (passes : Around → Stamped → Bool) → Tells r seen told passes
    → ((at : Around) (e : Stamped) → only (passes at e) (told e) ≡ told e) → (before H : History)
    → flat_map seen (sights r before H) ≡ flat_map told H
fold_all r seen told passes tells all before H =
    sights-kept r seen told passes tells before H
    ∙ kept-all (λ _. Unit {0}) passes told (λ _ _ _. tt) (λ at e _. all at e) before H tt

-- ---- whether there is a value

pub is_nothing-append : {A : Type 0} (xs ys : List A) → is_nothing (xs ++ ys) ≡ (is_nothing xs && is_nothing ys)
is_nothing-append [] ys = refl
is_nothing-append (x ∷ xs) ys = refl

-- where the value that is told first passes, some are kept exactly where some are told
pub is_nothing-kept : {A : Type 0} (passes : Around → Stamped → Bool) (told : Stamped → List A)
    → ((at : Around) (e : Stamped) → is_nothing (flat_map told at.before) ≡ true → only (passes at e) (told e) ≡ told e)
    → (before H : History) → is_nothing (flat_map told before) ≡ true
    → is_nothing (kept passes told before H) ≡ is_nothing (flat_map told H)
is_nothing-kept passes told first_passes before [] none = refl
is_nothing-kept passes told first_passes before (e ∷ after) none =
    let at : Around = record { before = before; after = after } in
    let rest : Bool = is_nothing (kept passes told (before ++ e ∷ []) after) in
    is_nothing-append (only (passes at e) (told e)) (kept passes told (before ++ e ∷ []) after)
    ∙ ap (λ xs. is_nothing xs && rest) (first_passes at e none)
    ∙ by (is_nothing (told e)) rest (is_nothing (flat_map told after))
    (λ is. is_nothing-kept passes told first_passes (before ++ e ∷ []) after (still is))
    ∙ sym (is_nothing-append (told e) (flat_map told after))
  where
    by : (b rest after : Bool) → (b ≡ true → rest ≡ after) → (b && rest) ≡ (b && after)
    by true rest after h = h refl
    by false rest after h = refl

    still : is_nothing (told e) ≡ true → is_nothing (flat_map told (before ++ e ∷ [])) ≡ true
    still is =
        ap is_nothing (flat_map-append told before (e ∷ []))
        ∙ is_nothing-append (flat_map told before) (told e ++ [])
        ∙ ap (λ b. b && is_nothing (told e ++ [])) none
        ∙ ap is_nothing (append-nil (told e))
        ∙ is

-- ---- the last value

pub last_from-append : {A : Type 0} (o : Option A) (xs ys : List A)
    → last_from o (xs ++ ys) ≡ last_from (last_from o xs) ys
last_from-append o [] ys = refl
last_from-append o (x ∷ xs) ys = last_from-append (Some x) xs ys

-- values of which the same is made have last ones of which it is, also where others have the same last one
pub last-same : {A B : Type 0} (m : A → B) (xs ys zs : List A) → map m xs ≡ map m ys → last ys ≡ last zs
    → map m (listed (last xs)) ≡ map m (listed (last zs))
last-same m xs ys zs made same =
    sym (listed-map m (last xs))
    ∙ ap listed (sym (last_from-map m None xs) ∙ ap last made ∙ last_from-map m None ys ∙ ap (option_map m) same)
    ∙ listed-map m (last zs)

-- what stands before a last value doesn't matter
last_from-any : {A : Type 0} (o other : Option A) (xs : List A) → is_nothing xs ≡ false
    → last_from o xs ≡ last_from other xs
last_from-any o other [] h = absurd (true≢false h)
last_from-any o other (x ∷ xs) h = refl

-- nor does what stands there where it is the same
pub last_from-same : {A : Type 0} (o : Option A) (xs ys later : List A) → (is_nothing later ≡ true → xs ≡ ys)
    → last_from (last_from o xs) later
    ≡ last_from (last_from o ys) later
last_from-same {A} o xs ys later h = by (is_nothing later) refl
  where
    by : (b : Bool) → is_nothing later ≡ b → last_from (last_from o xs) later ≡ last_from (last_from o ys) later
    by true e = ap (λ zs. last_from (last_from o zs) later) (h e)
    by false e = last_from-any _ _ later e

-- the value that is told last passes: an entry passes where no later one tells anything
abbrev pub LastPasses : {A : Type 0} → (Around → Stamped → Bool) → (Stamped → List A) → Type 0
LastPasses passes told = (at : Around) (e : Stamped) → is_nothing (flat_map told at.after) ≡ true
    → only (passes at e) (told e) ≡ told e

-- it is the last one kept then
pub last_from-kept : {A : Type 0} (passes : Around → Stamped → Bool) (told : Stamped → List A) → LastPasses passes told
    → (o : Option A) (before H : History) → last_from o (kept passes told before H) ≡ last_from o (flat_map told H)
last_from-kept passes told last_passes o before [] = refl
last_from-kept passes told last_passes o before (e ∷ after) =
    let at : Around = record { before = before; after = after } in
    let mine = only (passes at e) (told e) in
    last_from-append o mine (kept passes told (before ++ e ∷ []) after)
    ∙ (last_from-kept passes told last_passes (last_from o mine) (before ++ e ∷ []) after
    ∙ (last_from-same o mine (told e) (flat_map told after) (last_passes at e)
    ∙ sym (last_from-append o (told e) (flat_map told after))))

-- the last value seen is the last told, where that passes
pub fold_last : {A : Type 0} (r : Reader) (seen : Sighting → List A) (told : Stamped → List A)
    (passes : Around → Stamped → Bool) → Tells r seen told passes
    → LastPasses passes told → (before H : History) → last (flat_map seen (sights r before H)) ≡ last (flat_map told H)
fold_last r seen told passes tells last_passes before H = ap last (sights-kept r seen told passes tells before H)
    ∙ last_from-kept passes told last_passes None before H

-- and so it is of what is made of it
pub last_as : {A B : Type 0} (m : A → B) (r : Reader) (seen : Sighting → List A) (told : Stamped → List A)
    (passes : Around → Stamped → Bool)
    → TellsAs m r seen told passes → LastPasses passes told → (before H : History)
    → map m (listed (last (flat_map seen (sights r before H)))) ≡ map m (listed (last (flat_map told H)))
last_as m r seen told passes tells last_passes before H =
    last-same m (flat_map seen (sights r before H)) (kept passes told before H) (flat_map told H)
    (sights-as m r seen told passes tells before H)
    (last_from-kept passes told last_passes None before H)
