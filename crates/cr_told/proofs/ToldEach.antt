-- SPDX-License-Identifier: Apache-2.0 OR MIT
-- A sighting of a view, and what the last or a list of what the view shows has of it.
use Rattle.std.proofs.Common.{◌≡◌, ℕ, Bool, true, false, List, [], ◌∷◌, ◌++◌, refl, sym, ap, ◌∙◌, ◌||◌, Option, Some}
use Rattle.std.proofs.Common.{None, append_assoc}
use Rattle.std.specs.Prelude.{All, not, unwrap_or, is_some}
use Rattle.std.specs.List.{flat_map, list_any, AllByRecursion}
use Rattle.std.proofs.lemmas.Bool.{or_left, or_right, true≢false}
use Rattle.std.proofs.lemmas.List.Concat.{flat_map-append}
use Rattle.std.proofs.lemmas.List.Elements.{All-head, All-tail, All-same, All-nil, All-cons, All-append}
use Rattle.std.proofs.lemmas.List.Folds.{list_any-append}
use Rattle.cr_base.specs.declared.entry.Entry.{Entry}
use Rattle.cr_base.specs.declared.entry.Stamp.{Stamp}
use Rattle.cr_base.specs.declared.entry.Stamped.{Stamped}
use Rattle.cr_base.specs.Lists.{given, is_nothing, last, last_from, last_or}
use Rattle.cr_base.specs.Drawn.{stamped}
use Rattle.cr_base.specs.History.{History}
use Rattle.cr_policy.specs.Sighting.{Sighting}
use Rattle.cr_policy.specs.View.{View, view}
use Rattle.cr_policy.proofs.Walk.{last_from-append}
use Rattle.cr_bounds.specs.ShownTo.{is_told, each_told, where_known}
use Rattle.cr_bounds.proofs.BoundsWalk.{shown_to, view-told}
use Rattle.cr_told.specs.ToldParts.{agree}

-- ---- one of the sightings

-- what is so of all is so of one of them
all-at : {X : Type 0} (P : X → Type 0) (before : List X) (x : X) (after : List X) → All P (before ++ x ∷ after) → P x
all-at P [] x after all = All-head P x after all
all-at {X} P (y ∷ before) x after all = all-at P before x after (All-tail P y (before ++ x ∷ after) all)

-- what is so of each entry that the user is told of, as she is shown it there, is so of one sighting
module _
    (u : Option ℕ) (H : History) (P : Sighting → Type 0) (Q : Stamped → Type 0)
    (each : (earlier later : History) (stamp : Stamp) (more : Bool) (e : Entry)
    → earlier ++ stamped stamp more e ∷ later ≡ H → Q (stamped stamp more e)
    → is_told u H earlier later stamp.maker e ≡ true → P (shown_to u H earlier later stamp e))
  where
    all-placed : (earlier G : History) → earlier ++ G ≡ H → AllByRecursion Q G
        → All P (each_told u H (shown_to u H) earlier G)
    all-placed earlier [] whole h = All-nil P
    all-placed earlier (e ∷ G) whole h =
        All-append P (given (is_told u H earlier G e.stamp.maker e.entry) (shown_to u H earlier G e.stamp e.entry))
        (each_told u H (shown_to u H) (earlier ++ e ∷ []) G)
        (by (is_told u H earlier G e.stamp.maker e.entry) (each earlier G e.stamp e.more e.entry whole h.0))
        (all-placed (earlier ++ e ∷ []) G (append_assoc earlier (e ∷ []) G ∙ whole) h.1)
      where
        by : (told : Bool) → (told ≡ true → P (shown_to u H earlier G e.stamp e.entry))
            → All P (given told (shown_to u H earlier G e.stamp e.entry))
        by true one = All-cons P (shown_to u H earlier G e.stamp e.entry) [] (one refl) (All-nil P)
        by false one = All-nil P

    -- so it is of all sightings
    pub all-sightings : AllByRecursion Q H → All P (view u H)
    all-sightings holds =
        All-same P (view u H) (each_told u H (shown_to u H) [] H) (view-told u H) (all-placed [] H refl holds)

    pub at-sighting : (before : View) (s : Sighting) (after : View) → view u H ≡ before ++ s ∷ after
        → AllByRecursion Q H → P s
    at-sighting before s after is holds =
        all-at P before s after
        (All-same P (before ++ s ∷ after) (each_told u H (shown_to u H) [] H) (sym is ∙ view-told u H)
        (all-placed [] H refl holds))

-- ---- the last of what is shown

-- it is this one's, where no later one shows any
pub last-here : {X A : Type 0} (f : X → List A) (before after : List X) (s : X) (x : A) → f s ≡ x ∷ []
    → is_nothing (flat_map f after) ≡ true
    → last (flat_map f (before ++ s ∷ after)) ≡ Some x
last-here f before after s x is none =
    ap last (flat_map-append f before (s ∷ after))
    ∙ last_from-append None (flat_map f before) (f s ++ flat_map f after)
    ∙ ap (λ ys. last_from (last_from None (flat_map f before)) (ys ++ flat_map f after)) is
    ∙ nothing (flat_map f after) none
  where
    nothing : {A : Type 0} {x : A} (ys : List A) → is_nothing ys ≡ true → last_from (Some x) ys ≡ Some x
    nothing [] none = refl
    nothing (y ∷ ys) none = absurd (true≢false (sym none))

pub last-told : {X A : Type 0} (same : A → A → Bool) (f : X → List A) (before after : List X) (s : X) (x : A)
    → same x x ≡ true → f s ≡ x ∷ []
    → (key : Option A) → key ≡ last (flat_map f (before ++ s ∷ after))
    → (agree same (Some x) key || not (is_nothing (flat_map f after))) ≡ true
last-told same f before after s x reflexive is key tells = by (is_nothing (flat_map f after)) refl
  where
    by : (b : Bool) → is_nothing (flat_map f after) ≡ b → (agree same (Some x) key || not b) ≡ true
    by true none =
        ap (λ key. agree same (Some x) key || false) (tells ∙ last-here f before after s x is none)
        ∙ ap (λ b. b || false) reflexive
    by false some = or_right (agree same (Some x) key) true refl

pub last-or-told : {X A : Type 0} (same : A → A → Bool) (f : X → List A) (before after : List X) (s : X) (x a : A)
    → same x x ≡ true → f s ≡ x ∷ [] → (value : A) → value ≡ last_or a (flat_map f (before ++ s ∷ after))
    → (same x value || not (is_nothing (flat_map f after))) ≡ true
last-or-told same f before after s x a reflexive is value tells = by (is_nothing (flat_map f after)) refl
  where
    by : (b : Bool) → is_nothing (flat_map f after) ≡ b → (same x value || not b) ≡ true
    by true none =
        ap (λ value. same x value || false) (tells ∙ ap (λ o. unwrap_or o a) (last-here f before after s x is none))
        ∙ ap (λ b. b || false) reflexive
    by false some = or_right (same x value) true refl

-- there is a last where this one shows something
pub last-there : {X A : Type 0} (f : X → List A) (before after : List X) (s : X) (x : A) → f s ≡ x ∷ []
    → is_some (last (flat_map f (before ++ s ∷ after))) ≡ true
last-there f before after s x is =
    ap (λ xs. is_some (last xs)) (flat_map-append f before (s ∷ after))
    ∙ ap is_some (last_from-append None (flat_map f before) (f s ++ flat_map f after))
    ∙ ap (λ ys. is_some (last_from (last_from None (flat_map f before)) (ys ++ flat_map f after))) is
    ∙ some x (flat_map f after)
  where
    some : {A : Type 0} (x : A) (ys : List A) → is_some (last_from (Some x) ys) ≡ true
    some x [] = refl
    some x (y ∷ ys) = some y ys

-- ---- what is listed

-- one of those that are shown passes, where one of this sighting's does
pub listed-here : {X A : Type 0} (test : A → Bool) (f : X → List A) (before after : List X) (s : X)
    → list_any test (f s) ≡ true
    → list_any test (flat_map f (before ++ s ∷ after)) ≡ true
listed-here test f before after s is =
    ap (list_any test) (flat_map-append f before (s ∷ after))
    ∙ list_any-append test (flat_map f before) (f s ++ flat_map f after)
    ∙ ap (λ b. list_any test (flat_map f before) || b)
    (list_any-append test (f s) (flat_map f after)
    ∙ or_left (list_any test (f s)) (list_any test (flat_map f after)) is)
    ∙ or_right (list_any test (flat_map f before)) true refl

-- a part that is shown is there
pub known : {A : Type 0} (k : Bool) (x : A) → is_some (where_known k x) ≡ true → where_known k x ≡ Some x
known true x h = refl
known false x h = absurd (true≢false (sym h))
