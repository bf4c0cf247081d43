-- SPDX-License-Identifier: Apache-2.0 OR MIT
-- Names that are told, one by one.
use Rattle.std.proofs.Common.{ℕ, Bool, true, false, cond, ◌≡◌, ◌||◌, ◌&&◌, List, [], ◌∷◌, ◌++◌, Option, Some, None}
use Rattle.std.proofs.Common.{refl, sym, ap, ◌∙◌}
use Rattle.std.specs.Prelude.{map, filter, not, unwrap_or}
use Rattle.std.specs.List.{list_any}
use Rattle.std.specs.Option.{option_map}
use Rattle.cr_base.specs.declared.entry.Account.{Account}
use Rattle.cr_base.specs.declared.page.Reviewer.{Reviewer}
use Rattle.cr_base.specs.declared.pairs.Tie.{Tie}
use Rattle.cr_base.specs.declared.seat.Seat.{Seat}
use Rattle.cr_base.specs.declared.standing.Standing.{Standing}
use Rattle.cr_base.specs.Accounts.{account_at, lines_of}
use Rattle.cr_base.specs.Answering.{reviewer_told}
use Rattle.cr_base.specs.Lists.{listed}
use Rattle.cr_base.specs.Page.{gets_reviewers, is_clear_member, shows_reviewer, where_told}
use Rattle.cr_base.specs.Phases.{members_see_reviewers}
use Rattle.cr_base.specs.Searching.{contains, name_has, reviewer_has, text_has}
use Rattle.cr_base.specs.Seats.{told_seat}
use Rattle.cr_base.specs.Sources.{name_in}
use Rattle.cr_base.specs.Tables.{Tables}
use Rattle.cr_base.specs.Ties.{BareTies}
use Rattle.cr_base.proofs.ListLaws.{name_in-lines_of}
use Rattle.cr_view.specs.Replies.{names_of, holder_name, seated}

-- ---- ties

-- a name that is there has it, before others
listed-has : (value : List ℕ) (name : Option (List ℕ)) (names : List (List ℕ))
    → list_any (contains value) (listed name ++ names) ≡ (text_has value name || list_any (contains value) names)
listed-has value None names = refl
listed-has value (Some name) names = refl

-- one of the names of those who are tied has it
pub tied-has : (t : Tables) (value : List ℕ) (ties : BareTies)
    → list_any (λ (tie : Tie (Unit {0})). text_has value
    (option_map (λ (a : Account). a.name) (account_at t.accounts tie.pair.user))) ties
    ≡ list_any (contains value) (names_of t ties)
tied-has t value [] = refl
tied-has t value (tie ∷ ties) =
    ap (λ (b : Bool). text_has value (option_map (λ (a : Account). a.name) (account_at t.accounts tie.pair.user)) || b)
    (tied-has t value ties)
    ∙ ap (λ (name : Option (List ℕ)). text_has value name || list_any (contains value) (names_of t ties))
    (sym (name_in-lines_of t.accounts tie.pair.user))
    ∙ sym (listed-has value (name_in (lines_of t.accounts) tie.pair.user) (names_of t ties))

-- where names are told or aren't
pub told-has : (value : List ℕ) (told : Bool) (names : List (List ℕ))
    → list_any (contains value) (unwrap_or (where_told told (Some names)) [])
    ≡ name_has value (where_told told (Some names))
told-has value true names = refl
told-has value false names = refl

-- ---- seats

module _ (t : Tables) (by : Standing) (written : ℕ → Bool) (value : List ℕ) where
  abbrev seat_has : Tie Seat → Bool
  seat_has seat = text_has value (holder_name t by seat)

  abbrev has : Reviewer → Bool
  has reviewer = text_has value reviewer.user

  abbrev told : List (Tie Seat) → List Reviewer
  told seats = map (reviewer_told by (lines_of t.accounts) written) (seated seats)

  -- who has left a seat isn't told
  seats-have : (seats : List (Tie Seat)) → list_any seat_has seats ≡ list_any has (told seats)
  seats-have [] = refl
  seats-have (seat ∷ seats) = split seat.value.vacated (seats-have seats)
    where
      kept : List (Tie Seat)
      kept = filter (λ (s : Tie Seat). not s.value.vacated) seats

      split : (left : Bool) → list_any seat_has seats ≡ list_any has (told seats)
          → (text_has value (where_told (not left && shows_reviewer by) (name_in (lines_of t.accounts) seat.pair.user))
          || list_any seat_has seats)
          ≡ list_any has (map (reviewer_told by (lines_of t.accounts) written)
          (map told_seat (cond (not left) (seat ∷ kept) kept)))
      split true h = h
      split false h =
          ap
          (λ (b : Bool). text_has value (where_told (shows_reviewer by)
          (name_in (lines_of t.accounts) seat.pair.user)) || b) h

  -- where no name is shown, none has it
  unshown : (shows : Bool) → shows ≡ shows_reviewer by → shows ≡ false → (seats : List (Tie Seat))
      → list_any seat_has seats ≡ false
  unshown shows is hidden [] = refl
  unshown shows is hidden (seat ∷ seats) =
      ap
      (λ (b : Bool). text_has value (where_told (not seat.value.vacated && b)
      (name_in (lines_of t.accounts) seat.pair.user)) || list_any seat_has seats)
      (sym is ∙ hidden)
      ∙ none (not seat.value.vacated) (unshown shows is hidden seats)
    where
      none : (there : Bool) → list_any seat_has seats ≡ false
          → (text_has value (where_told (there && false) (name_in (lines_of t.accounts) seat.pair.user))
          || list_any seat_has seats) ≡ false
      none true h = h
      none false h = h

  -- the reviewers of a page
  pub reviewers-have : (seats : List (Tie Seat))
      → list_any seat_has (cond (shows_reviewer by) seats [])
      ≡ reviewer_has value (where_told (gets_reviewers by) (Some (told seats)))
  reviewers-have seats = split (shows_reviewer by) refl
    where
      hidden : (gets : Bool) → list_any has (told seats) ≡ false
          → false ≡ reviewer_has value (where_told gets (Some (told seats)))
      hidden true h = sym h
      hidden false h = refl

      split : (shows : Bool) → shows ≡ shows_reviewer by
          → list_any seat_has (cond shows seats [])
          ≡ reviewer_has value (where_told (shows || (is_clear_member by && members_see_reviewers by.phase))
          (Some (told seats)))
      split true is = seats-have seats
      split false is =
          hidden (is_clear_member by && members_see_reviewers by.phase)
          (sym (seats-have seats) ∙ unshown false is refl seats)
