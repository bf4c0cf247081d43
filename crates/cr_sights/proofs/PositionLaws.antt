-- SPDX-License-Identifier: Apache-2.0 OR MIT
-- Where an entry stands among those of its series, by the places that are noted.
use Rattle.std.proofs.Common.{◌≡◌, ◌∙◌, ℕ, ◌+◌, ◌<◌, ◌≤◌, Bool, true, false, List, [], ◌∷◌, ◌++◌, length, take, drop}
use Rattle.std.proofs.Common.{get_or, refl, sym, ap, subst, arith, zero, suc}
use Rattle.std.specs.Prelude.{not, ◌&&◌, ◌||◌, Option, Some, None, IfSome, nat_lt, if◌then◌else◌}
use Rattle.std.specs.List.{list_any}
use Rattle.std.proofs.lemmas.Bool.Decides.{nat_tests}
use Rattle.std.proofs.lemmas.List.{length-take-le}
use Rattle.std.proofs.lemmas.Option.{slice_get-get_or}
use Rattle.cr_base.specs.declared.entry.Entry.{Entry}
use Rattle.cr_base.specs.declared.entry.Entry.TheVariants.{PhaseSet}
use Rattle.cr_base.specs.declared.entry.Stamped.{Stamped}
use Rattle.cr_base.specs.declared.words.Phase.{Phase}
use Rattle.cr_base.specs.declared.words.Phase.TheVariants.{Response}
use Rattle.cr_base.specs.Lists.{is_number, until}
use Rattle.cr_base.specs.History.{History, opens, opens_discussion, opens_response}
use Rattle.cr_base.specs.Phases.{committee_reads_from}
use Rattle.cr_base.proofs.Small.{eqb-self}
use Rattle.cr_policy.specs.Triggers.{Around, Position, none_alike, position_of}
use Rattle.cr_sights.specs.Series.{AreLast, is_last_at, is_of, none_of}
use Rattle.cr_sights.specs.Positions.{IsPositionIn}
use Rattle.cr_sights.proofs.Around.{split_here}
use Rattle.cr_sights.proofs.PlaceLaws.{none-behind, none-passed}

-- ---- the first that passes a test

module _ {A : Type 0} (test : A → Bool) where
  -- those before it are so many first elements
  pub take-until : (xs : List A) → take (length (until test xs)) xs ≡ until test xs
  take-until [] = refl
  take-until (x ∷ xs) = by (test x) (take-until xs)
    where
      by : (b : Bool) → take (length (until test xs)) xs ≡ until test xs
          → take (length (if b then [] else x ∷ until test xs)) (x ∷ xs) ≡ (if b then [] else x ∷ until test xs)
      by true rest = refl
      by false rest = ap (λ (ys : List A). x ∷ ys) rest

  -- it stands before a place where one before that passes
  pub passed-before : (xs : List A) (at : ℕ) → at ≤ length xs
      → list_any test (take at xs) ≡ nat_lt (length (until test xs)) at
  passed-before xs zero within = let none : false ≡ nat_lt (length (until test xs)) zero =
      grind (arith, nat_tests) in none
  passed-before [] (suc at) within = absurd (omega (arith, within))
  passed-before (x ∷ xs) (suc at) within = by (test x) (passed-before xs at (omega (arith, within)))
    where
      by : (b : Bool) → list_any test (take at xs) ≡ nat_lt (length (until test xs)) at
          → b || list_any test (take at xs) ≡ nat_lt (length (if b then [] else x ∷ until test xs)) (suc at)
      by true rest = let first : true ≡ nat_lt 0 (suc at) = grind (arith, nat_tests) in first
      by false rest =
          rest
          ∙ (let next : nat_lt (length (until test xs)) at ≡ nat_lt (length (x ∷ until test xs)) (suc at) = grind
          (arith, nat_tests) in next)

  -- those before it, where neither some elements pass nor the next
  until-behind : (before : List A) (x : A) (after : List A) → list_any test before ≡ false → test x ≡ false
      → until test (before ++ x ∷ after) ≡ before ++ x ∷ until test after
  until-behind [] x after none not_here = ap (λ b. if b then [] else x ∷ until test after) not_here
  until-behind (y ∷ before) x after none not_here = by (test y) none (until-behind before x after)
    where
      by : (b : Bool) → b || list_any test before ≡ false
          → (list_any test before ≡ false → test x ≡ false → until test (before ++ x ∷ after) ≡ before ++ x
          ∷ until test after)
          → (if b then [] else y ∷ until test (before ++ x ∷ after)) ≡ y ∷ (before ++ x ∷ until test after)
      by true none rest = cc
      by false none rest = ap (λ (ys : List A). y ∷ ys) (rest none not_here)

-- the entry opens the phase
abbrev opens_it : Phase → Stamped → Bool
opens_it phase e = opens phase e.entry

-- an entry of a series opens no phase
opens-none : (phase : Phase) (k : ℕ) (e : Entry) → is_of k e ≡ true → opens phase e ≡ false
opens-none phase k (PhaseSet other) of = cc
opens-none phase k _ of = refl

-- ---- the entry at a place of a history

module _ (log : History) (at : ℕ) (d : Stamped) (within : at < length log) where
  abbrev here : Stamped
  here = get_or log at d

  at-length : length (take at log) ≡ at
  at-length = length-take-le at log (omega (arith, within))

  -- none behind it before the phase
  early-behind : (phase : Phase) (early : List ℕ) (series : Option ℕ)
      → ((k : ℕ) → is_of k here.entry ≡ is_number series k)
      → list_any (opens_it phase) (take at log) ≡ false → AreLast early (until (opens_it phase) log)
      → none_of series (until (opens_it phase) (drop (at + 1) log)) ≡ is_last_at early series (at + 1)
  early-behind phase early None of none last = refl
  early-behind phase early (Some k) of none last =
      none-behind early (take at log) here (until (opens_it phase) (drop (at + 1) log)) (Some k) of
      (subst (AreLast early)
      (ap (until (opens_it phase)) (split_here log at d within)
      ∙ until-behind (opens_it phase) (take at log) here (drop (at + 1) log) none
      (opens-none phase k here.entry (of k ∙ eqb-self k))) last)
      ∙ ap (λ (n : ℕ). is_last_at early (Some k) (n + 1)) at-length

  -- the phase was opened before it
  from-here : (phase : Phase) (n : ℕ) → n ≡ length (until (opens_it phase) log)
      → list_any (opens_it phase) (take at log) ≡ nat_lt n at
  from-here phase n is =
      passed-before (opens_it phase) log at (omega (arith, within)) ∙ ap (λ (m : ℕ). nat_lt m at) (sym is)

  module _ (series : Option ℕ)
      (of : (k : ℕ) → is_of k here.entry ≡ is_number series k)
      (alike : (H : History) → none_alike here.entry H ≡ none_of series H) where
    first-here : (passed : List ℕ) → AreLast passed (take at log)
        → none_alike here.entry (take at log) ≡ is_last_at passed series 0
    first-here passed last = alike (take at log) ∙ none-passed passed (take at log) series last

    last-here : (all : List ℕ) → AreLast all log
        → none_alike here.entry (drop (at + 1) log) ≡ is_last_at all series (at + 1)
    last-here all last =
        alike (drop (at + 1) log)
        ∙ none-behind all (take at log) here (drop (at + 1) log) series of
        (subst (AreLast all) (split_here log at d within) last)
        ∙ ap (λ (n : ℕ). is_last_at all series (n + 1)) at-length

    early-here : (phase : Phase) (early : List ℕ) (opened : Bool) → list_any (opens_it phase) (take at log) ≡ opened
        → AreLast early (until (opens_it phase) log)
        → (not opened && none_alike here.entry (until (opens_it phase) (drop (at + 1) log)))
        ≡ (not opened && is_last_at early series (at + 1))
    early-here phase early true some last = refl
    early-here phase early false none last =
        alike (until (opens_it phase) (drop (at + 1) log)) ∙ early-behind phase early series of none last

    -- it is the last before the phase
    before-here : (phase : Phase) (early : List ℕ) (n : ℕ) (last : Bool) → AreLast early (until (opens_it phase) log)
        → n ≡ length (until (opens_it phase) log) → last ≡ (not (nat_lt n at) && is_last_at early series (at + 1))
        → (not (list_any (opens_it phase) (take at log)) && none_alike here.entry
        (until (opens_it phase) (drop (at + 1) log))) ≡ last
    before-here phase early n last ends is told =
        ap (λ b. not b && none_alike here.entry (until (opens_it phase) (drop (at + 1) log))) (from-here phase n is)
        ∙ early-here phase early (nat_lt n at) (from-here phase n is) ends ∙ sym told

    pub stands_so : (passed all before_response before_discussion : List ℕ) (m n : ℕ)
        → AreLast passed (take at log) → AreLast all log
        → AreLast before_response (until opens_response log) → m ≡ length (until opens_response log)
        → AreLast before_discussion (until opens_discussion log) → n ≡ length (until opens_discussion log)
        → (position : Position) → position.first ≡ is_last_at passed series 0
        → position.last ≡ is_last_at all series (at + 1)
        → position.last_before_response ≡ (not (nat_lt m at) && is_last_at before_response series (at + 1))
        → position.last_before_discussion ≡ (not (nat_lt n at) && is_last_at before_discussion series (at + 1))
        → position.from_discussion ≡ nat_lt n at
        → IsPositionIn log at position
    stands_so passed all before_response before_discussion m n passes ends ends_response response_at ends_discussion
        discussion_at position first last last_response last_discussion from =
        subst (λ (o : Option Stamped). IfSome o (λ e. position_of place e.entry ≡ position))
        (sym (slice_get-get_or log at d within)) same
      where
        place : Around
        place = record { before = take at log; after = drop (at + 1) log }

        response-is : (not (list_any opens_response place.before) && none_alike here.entry
            (until opens_response place.after)) ≡ position.last_before_response
        response-is =
            before-here Response before_response m position.last_before_response ends_response response_at last_response

        discussion-is : (not (list_any opens_discussion place.before) && none_alike here.entry
            (until opens_discussion place.after)) ≡ position.last_before_discussion
        discussion-is =
            before-here committee_reads_from before_discussion n position.last_before_discussion ends_discussion
            discussion_at last_discussion

        from-is : list_any opens_discussion place.before ≡ position.from_discussion
        from-is = from-here committee_reads_from n discussion_at ∙ sym from

        same : position_of place here.entry ≡ position
        same = rw (
          first-here passed passes ∙ sym first,
          last-here all ends ∙ sym last,
          response-is,
          discussion-is,
          from-is,
        ) refl
