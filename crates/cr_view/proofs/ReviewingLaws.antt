-- SPDX-License-Identifier: Apache-2.0 OR MIT
-- What a page tells of bids and reviewers, by reads of the tables.
use Rattle.std.proofs.Common.{ℕ, Bool, true, false, cond, ◌≡◌, ◌+◌, ◌<◌, List, ◌∷◌, ◌++◌, length, drop, get_or, refl}
use Rattle.std.proofs.Common.{sym, ap, ◌∙◌, Option, Some, None}
use Rattle.std.specs.Prelude.{map, filter, not, ◌&&◌}
use Rattle.std.specs.Option.{option_map}
use Rattle.cr_base.specs.declared.entry.Account.{Account}
use Rattle.cr_base.specs.declared.page.Bidder.{Bidder}
use Rattle.cr_base.specs.declared.page.Reviewer.{Reviewer}
use Rattle.cr_base.specs.declared.pairs.Tie.{Tie}
use Rattle.cr_base.specs.declared.seat.Seat.{Seat}
use Rattle.cr_base.specs.declared.standing.Standing.{Standing}
use Rattle.cr_base.specs.Accounts.{account_at, lines_of}
use Rattle.cr_base.specs.Answering.{bidder_told, reviewer_told}
use Rattle.cr_base.specs.History.{SeatTold}
use Rattle.cr_base.specs.Lists.{listed}
use Rattle.cr_base.specs.Page.{is_clear_chair, is_clear_member, shows_reviewer, where_told}
use Rattle.cr_base.specs.Seats.{told_seat}
use Rattle.cr_base.specs.Sources.{name_in}
use Rattle.cr_base.specs.Tables.{Tables}
use Rattle.cr_base.proofs.ListLaws.{name_in-lines_of}
use Rattle.cr_view.specs.Replies.{bid_of, bidders_of, seated, reviewers_of, holder_name, reviewer_of}
use Rattle.cr_view.proofs.AnswerLaws.{name-told, walk-step}

-- ---- bids

-- a bid, with the name that is found
pub bidder-is : (accounts : List Account) (tie : Tie ℕ) (found : Option (List ℕ))
    → found ≡ option_map (λ (a : Account). a.name) (account_at accounts tie.pair.user)
    → ◌≡◌ {A = Option Bidder} (option_map (λ (name : List ℕ). record { bid = tie.value; user = name }) found)
    (bidder_told (lines_of accounts) (bid_of tie))
bidder-is accounts tie found is =
    ap (λ (o : Option (List ℕ)). option_map (λ (name : List ℕ). record { bid = tie.value; user = name }) o)
    (is ∙ sym (name_in-lines_of accounts tie.pair.user))

-- one more bid
pub bidders-step : (t : Tables) (ties : List (Tie ℕ)) (i : ℕ) (other : Tie ℕ) (before after wanted : List Bidder)
    → i < length ties → after ≡ before ++ listed (bidder_told (lines_of t.accounts) (bid_of (get_or ties i other)))
    → before ++ bidders_of t (map bid_of (drop i ties)) ≡ wanted
    → after ++ bidders_of t (map bid_of (drop (i + 1) ties)) ≡ wanted
bidders-step t ties i other before after wanted within pushed told =
    let first : Option Bidder = bidder_told (lines_of t.accounts) (bid_of (get_or ties i other)) in
    walk-step (λ (ts : List (Tie ℕ)). bidders_of t (map bid_of ts)) (listed first) ties i other before after wanted
    within (λ rest. refl) pushed told

-- ---- reviewers

-- the name that is found, where it is asked for
pub seat-name-is : (t : Tables) (by : Standing) (seat : Tie Seat) (found : Option (List ℕ)) → seat.value.vacated ≡ false
    → shows_reviewer by ≡ true
    → found ≡ option_map (λ (a : Account). a.name) (account_at t.accounts seat.pair.user)
    → found ≡ holder_name t by seat
seat-name-is t by seat found stays shows is =
    name-told t.accounts seat.pair.user (not seat.value.vacated && shows_reviewer by) found
    (ap (λ (b : Bool). not b && shows_reviewer by) stays ∙ shows) is

-- who has the first of these seats comes first, unless she has left it
reviewer-first : (t : Tables) (by : Standing) (written : ℕ → Bool) (seat : Tie Seat) (rest : List (Tie Seat))
    → reviewers_of t by written (seated (seat ∷ rest))
    ≡ listed (reviewer_of by seat (written seat.value.ordinal) (holder_name t by seat)) ++ reviewers_of t by written
    (seated rest)
reviewer-first t by written seat rest = split seat.value.vacated
  where
    kept : List (Tie Seat)
    kept = filter (λ (s : Tie Seat). not s.value.vacated) rest

    told : Bool → Reviewer
    told left = record {
      done = where_told (is_clear_chair by) (Some (written seat.value.ordinal));
      kind = where_told (is_clear_member by) (Some seat.value.kind);
      label = seat.value.ordinal;
      user = where_told (not left && shows_reviewer by) (name_in (lines_of t.accounts) seat.pair.user);
    }

    split : (left : Bool) → map (reviewer_told by (lines_of t.accounts) written)
        (map told_seat (cond (not left) (seat ∷ kept) kept))
        ≡ listed (cond left None (Some (told left))) ++ map (reviewer_told by (lines_of t.accounts) written)
        (map told_seat kept)
    split true = refl
    split false = refl

-- one more reviewer
pub reviewers-step : (t : Tables) (by : Standing) (written : ℕ → Bool) (seats : List (Tie Seat)) (i : ℕ)
    (other : Tie Seat)
    (before after wanted : List Reviewer) → i < length seats
    → after ≡ before ++ listed (reviewer_of by (get_or seats i other) (written (get_or seats i other).value.ordinal)
    (holder_name t by (get_or seats i other)))
    → before ++ reviewers_of t by written (seated (drop i seats)) ≡ wanted
    → after ++ reviewers_of t by written (seated (drop (i + 1) seats)) ≡ wanted
reviewers-step t by written seats i other before after wanted within pushed told =
    let seat : Tie Seat = get_or seats i other in
    let first : Option Reviewer = reviewer_of by seat (written seat.value.ordinal) (holder_name t by seat) in
    walk-step (λ (ts : List (Tie Seat)). reviewers_of t by written (seated ts)) (listed first) seats i other before
    after wanted within
    (reviewer-first t by written seat) pushed told

-- those of whom a set tells who has written are those of whom the forms do
pub reviewers-written : (t : Tables) (by : Standing) (has written : ℕ → Bool) (seats : List SeatTold)
    → ((o : ℕ) → has o ≡ written o)
    → reviewers_of t by has seats ≡ reviewers_of t by written seats
reviewers-written t by has written seats same = ap (λ (w : ℕ → Bool). reviewers_of t by w seats) (λ i o. same o i)
