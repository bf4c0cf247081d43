-- SPDX-License-Identifier: Apache-2.0 OR MIT
-- What a view says of a paper's bids and of its reviewers is what the history says, where the reader's standing tells
-- them.
use Rattle.std.proofs.Common.{◌≡◌, ℕ, Bool, true, false, List, [], ◌∷◌, refl, sym, ap, ◌∙◌, ◌||◌, ◌&&◌, Option, Some}
use Rattle.std.proofs.Common.{None, cond, length, arith}
use Rattle.std.specs.Prelude.{map, not, filter, find, ◌==◌}
use Rattle.std.specs.Cmp.Derive.{both_true}
use Rattle.std.specs.List.{flat_map, list_any}
use Rattle.std.specs.Option.{option_and_then}
use Rattle.std.proofs.lemmas.Bool.{and_parts, or_left, or_right, true≢false}
use Rattle.std.proofs.lemmas.List.{length-map, map-id}
use Rattle.cr_base.specs.declared.entry.Entry.TheVariants.{Assigned}
use Rattle.cr_base.specs.declared.entry.Stamped.{Stamped}
use Rattle.cr_base.specs.declared.page.Reviewer.{Reviewer}
use Rattle.cr_base.specs.declared.reply.AccountLine.{AccountLine}
use Rattle.cr_base.specs.declared.standing.Standing.{Standing}
use Rattle.cr_base.specs.declared.words.Role.{Role}
use Rattle.cr_base.specs.declared.words.Role.TheVariants.{Account, Member, Chair}
use Rattle.cr_base.specs.Answering.{reviewer_told}
use Rattle.cr_base.specs.Lists.{last}
use Rattle.cr_base.specs.Drawn.{stamped}
use Rattle.cr_base.specs.History.{History, SeatTold, bid_told, assigned_told, unassigned_told}
use Rattle.cr_base.specs.HistoryFacts.{phase_of, standing_of, is_conflict_on, is_invited, bid_of, ordinal_of, seats_of}
use Rattle.cr_base.specs.HistoryFacts.{seats_left, reviewers_of, assigned_under}
use Rattle.cr_base.specs.Page.{is_clear_member, is_clear_chair, gets_bids, gets_conflicts, gets_reviewers}
use Rattle.cr_base.specs.Page.{shows_reviewer, where_told}
use Rattle.cr_base.specs.Phases.{chairs_see_conflicts, chairs_see_reviewers, members_see_reviewers}
use Rattle.cr_base.specs.Phases.{authors_see_reviewers}
use Rattle.cr_base.specs.Sources.{name_in}
use Rattle.cr_base.specs.Words.{is_overt, is_chair, is_member}
use Rattle.cr_policy.specs.Part as part
use Rattle.cr_policy.specs.Sighting.{Sighting, where_shown}
use Rattle.cr_policy.specs.Triggers.{reader, Around, user_named, standing_to, unless_anonymous}
use Rattle.cr_policy.specs.View.{view}
use Rattle.cr_policy.specs.ViewFacts.{bid_seen, assigned_seen, unassigned_seen, bid_in_view, ordinal_in_view}
use Rattle.cr_policy.specs.ViewFacts.{is_invited_in_view, seats_in_view, reviewers_in_view}
use Rattle.cr_policy.proofs.Walk.{map-flat_map, sights-all, fold_all}
use Rattle.cr_policy.proofs.Tells.{passes, passes_both}
use Rattle.cr_policy.proofs.SeatTells.{bid_tells, bid_value, unassigned_tells, unassigned_value, ShowsAssigned}
use Rattle.cr_policy.proofs.SeatTells.{assigned_tells}
use Rattle.cr_policy.proofs.StandingLaws.{invited-seen_where, seat-seen_where}

-- ---- bids

-- a clear chair sees each bid on the paper from the bidding on
pub bid-seen : (u v : Option ℕ) (p : ℕ) (H : History) → gets_bids (standing_of u (Some p) H) ≡ true
    → bid_in_view v p (view u H) ≡ bid_of v p H
bid-seen u v p H told =
    ap last
    (fold_all (reader u H) (bid_seen v p) (λ (e : Stamped). bid_told v p e.stamp.maker e.entry)
    (passes_both part.by part.value (reader u H))
    (bid_tells (reader u H) v p) (λ at e. bid_value (reader u H) at v p
    (λ stamp more value. both_true (clear _) (clear _)) e) [] H)
  where
    clear : (rest : Bool) → (gets_bids (standing_of u (Some p) H) || rest) ≡ true
    clear rest = or_left (gets_bids (standing_of u (Some p) H)) rest told

-- ---- seats

-- and each entry by which anybody is assigned to it, or unassigned from it
pub seat-seen_by_chair : (u v : Option ℕ) (p : ℕ) (H : History) → gets_conflicts (standing_of u (Some p) H) ≡ true
    → ordinal_in_view v p (view u H) ≡ ordinal_of v p H
seat-seen_by_chair u v p H told = seat-seen_where u v p H (λ at. record {
  assigned = λ stamp more user kind ordinal hers. both_true (clear (user_named (reader u H) user) _)
      (clear (user_named (reader u H) user) _);
  unassigned = λ stamp more user ordinal hers. both_true (clear (user_named (reader u H) user) _)
      (clear (user_named (reader u H) user) _);
})
  where
    chair : Bool
    chair = is_clear_chair (standing_to (reader u H) p)

    clear : (named rest : Bool) → (named || (chair || rest)) ≡ true
    clear named rest =
        or_right named (chair || rest) (or_left chair rest (and_parts chair (chairs_see_conflicts (phase_of H)) told).0)

-- ---- invitations

-- and each by which anybody is invited to it, or is no longer
pub invited-seen_by_chair : (u v : Option ℕ) (p : ℕ) (H : History) → gets_conflicts (standing_of u (Some p) H) ≡ true
    → is_invited_in_view v p (view u H) ≡ is_invited v p H
invited-seen_by_chair u v p H told = invited-seen_where u v p H (λ at. record {
  invited = λ stamp more user hers. clear (user_named (reader u H) user) _;
  uninvited = λ stamp more user hers. clear (user_named (reader u H) user) _;
})
  where
    chair : Bool
    chair = is_clear_chair (standing_to (reader u H) p)

    clear : (named rest : Bool) → (named || (chair || rest)) ≡ true
    clear named rest =
        or_right named (chair || rest) (or_left chair rest (and_parts chair (chairs_see_conflicts (phase_of H)) told).0)

-- ---- reviewers

-- a part that is told holds the same, where it is the same if it is told
pub same_key : {A : Type 0} (told : Bool) (x y : Option A) → (told ≡ true → x ≡ y)
    → where_told told x ≡ where_told told y
same_key true x y h = h refl
same_key false x y h = refl

-- the seats that are left are told as those are told whose label is left
told-left : (told : SeatTold → Reviewer) → ((seat : SeatTold) → (told seat).label ≡ seat.ordinal)
    → (gone : List ℕ) (seats : List SeatTold)
    → map told (seats_left gone seats) ≡ filter (λ (r : Reviewer). not (list_any (λ o. o == r.label) gone))
    (map told seats)
told-left told label gone [] = refl
told-left told label gone (seat ∷ seats) =
    by (not (list_any (λ o. o == seat.ordinal) gone)) (not (list_any (λ o. o == (told seat).label) gone))
    (ap (λ n. not (list_any (λ o. o == n) gone)) (sym (label seat))) (told-left told label gone seats)
  where
    rest : List Reviewer
    rest = filter (λ (r : Reviewer). not (list_any (λ o. o == r.label) gone)) (map told seats)

    by : (b c : Bool) → b ≡ c → map told (seats_left gone seats) ≡ rest
        → map told (cond b (seat ∷ seats_left gone seats) (seats_left gone seats)) ≡ cond c (told seat ∷ rest) rest
    by true true same later = ap (λ rs. told seat ∷ rs) later
    by true false same later = absurd (cc)
    by false true same later = absurd (cc)
    by false false same later = later

-- a seat without what its reviewer is to the paper
abbrev named_alone : SeatTold → SeatTold
named_alone seat = record { ordinal = seat.ordinal; kind = None; user = seat.user }

under-named : (o : ℕ) (seats : List SeatTold) → assigned_under o (map named_alone seats) ≡ assigned_under o seats
under-named o [] = refl
under-named o (seat ∷ seats) = by (seat.ordinal == o) (under-named o seats)
  where
    found : SeatTold → Bool
    found seat = seat.ordinal == o

    user : Option SeatTold → Option ℕ
    user seat = option_and_then (λ (seat : SeatTold). seat.user) seat

    by : (b : Bool) → assigned_under o (map named_alone seats) ≡ assigned_under o seats
        → user (cond b (Some (named_alone seat)) (find found (map named_alone seats)))
        ≡ user (cond b (Some seat) (find found seats))
    by true later = refl
    by false later = later

-- one who is told of reviewers sees the label of each, what she is to the paper as far as the standing tells that,
-- and who she is
module _ (u : Option ℕ) (p : ℕ) (H : History) (accounts : List AccountLine) (written : ℕ → Bool)
    (told : gets_reviewers (standing_of u (Some p) H) ≡ true) where
  abbrev by : Standing
  by = standing_of u (Some p) H

  abbrev chair : Bool
  chair = is_clear_chair by

  abbrev member : Bool
  member = is_clear_member by

  abbrev discussed : Bool
  discussed = members_see_reviewers by.phase

  abbrev notified : Bool
  notified = authors_see_reviewers by.phase

  abbrev tell : SeatTold → Reviewer
  tell = reviewer_told by accounts written

  abbrev shown_label : Bool → Bool → Bool
  shown_label named own =
      named || (chair || ((member && discussed) || ((by.author && is_overt by.mode && notified) || (own || false))))

  label_shown : (named own : Bool) → shown_label named own ≡ true
  label_shown named own =
      shown chair (chairs_see_reviewers by.phase) member (unless_anonymous (reader u H)) discussed by.author
      (is_overt by.mode) notified named own told
    where
      shown : (c b m n d a o f named own : Bool) → (((c && b) || (m && n && d) || (a && o && f)) || (m && d)) ≡ true
          → (named || (c || ((m && d) || ((a && o && f) || (own || false))))) ≡ true
      shown c b m n d a o f named own h = grind arith

  kind_shown : (named own : Bool) → member ≡ true
      → (named || (chair || ((member && discussed) || (own || false)))) ≡ true
  kind_shown named own clear =
      shown chair (chairs_see_reviewers by.phase) member (unless_anonymous (reader u H)) discussed by.author
      (is_overt by.mode) notified named own clear
      (no_author (is_member by.role) by.author (is_conflict_on u p H) clear) told
    where
      no_author : (serves a d : Bool) → (serves && not (a || d)) ≡ true → a ≡ false
      no_author serves a d h = grind arith

      shown : (c b m n d a o f named own : Bool) → m ≡ true → a ≡ false
          → (((c && b) || (m && n && d) || (a && o && f)) || (m && d)) ≡ true
          → (named || (c || ((m && d) || (own || false)))) ≡ true
      shown c b m n d a o f named own hm ha h = grind arith

  user_shown : (named own : Bool) → shows_reviewer by ≡ true
      →
      (named
      ||
      (chair || ((member && unless_anonymous (reader u H) && discussed)
      || ((by.author && is_overt by.mode && notified) || (own || false))))) ≡ true
  user_shown named own h =
      shown chair (chairs_see_reviewers by.phase) (member && unless_anonymous (reader u H) && discussed)
      (by.author && is_overt by.mode && notified) named own h
    where
      shown : (c b m a named own : Bool) → ((c && b) || m || a) ≡ true
          → (named || (c || (m || (a || (own || false))))) ≡ true
      shown c b m a named own h = grind arith

  assigned-shown : (at : Around) → ShowsAssigned tell (reader u H) at p
  assigned-shown at stamp more user kind ordinal =
      let named : Bool = user_named (reader u H) user in
      let own : Bool = user_named (reader u H) stamp.maker in
      let e : Stamped = stamped stamp more (Assigned p user kind ordinal) in
      let shown_kind = where_shown (passes part.review_kind (reader u H) at e) (Some kind) in
      let shown_user = where_shown (passes part.user (reader u H) at e) (Some user) in
      let name : Option ℕ → Option (List ℕ) = option_and_then (name_in accounts) in
      let kinds = same_key member shown_kind (Some kind)
      (λ clear. ap (λ b. where_shown b (Some kind)) (kind_shown named own clear)) in
      let names = same_key (shows_reviewer by) (name shown_user) (name (Some user))
      (λ h. ap (λ b. name (where_shown b (Some user))) (user_shown named own h)) in (
        label_shown named own,
        λ i. record {
          done = where_told chair (Some (written ordinal));
          kind = kinds i;
          label = ordinal;
          user = names i;
        },
      )

  seats-as : {B : Type 0} (m : SeatTold → B) → ((at : Around) → ShowsAssigned m (reader u H) at p)
      → map m (seats_in_view p (view u H)) ≡ map m (seats_of p H)
  seats-as m shown =
      map-flat_map m (assigned_seen p) (view u H)
      ∙ sights-all (reader u H) (λ (s : Sighting). map m (assigned_seen p s))
      (λ (e : Stamped). map m (assigned_told p e.entry))
      (assigned_tells m (reader u H) p shown) [] H
      ∙ sym (map-flat_map m (λ (e : Stamped). assigned_told p e.entry) H)

  seats-seen : map tell (seats_in_view p (view u H)) ≡ map tell (seats_of p H)
  seats-seen = seats-as tell assigned-shown

  gone-seen : flat_map (unassigned_seen p) (view u H) ≡ flat_map (λ (e : Stamped). unassigned_told p e.entry) H
  gone-seen =
      fold_all (reader u H) (unassigned_seen p) (λ (e : Stamped). unassigned_told p e.entry)
      (passes part.ordinal (reader u H))
      (unassigned_tells (reader u H) p)
      (λ at e. unassigned_value (reader u H) at u p
      (λ stamp more user ordinal. label_shown (user_named (reader u H) user) (user_named (reader u H) stamp.maker)) e)
      [] H

  pub reviewers-seen : map tell (reviewers_in_view p (view u H)) ≡ map tell (reviewers_of p H)
  reviewers-seen =
      let left : List ℕ → List Reviewer → List Reviewer =
      λ gone rs. filter (λ (r : Reviewer). not (list_any (λ o. o == r.label) gone)) rs in
      told-left tell (λ seat. refl) (flat_map (unassigned_seen p) (view u H)) (seats_in_view p (view u H))
      ∙ ap (λ gone. left gone (map tell (seats_in_view p (view u H)))) gone-seen
      ∙ ap (left (flat_map (λ (e : Stamped). unassigned_told p e.entry) H)) seats-seen
      ∙ sym (told-left tell (λ seat. refl) (flat_map (λ (e : Stamped). unassigned_told p e.entry) H) (seats_of p H))

  labels-seen_where : length (seats_in_view p (view u H)) ≡ length (seats_of p H)
  labels-seen_where =
      sym (length-map (seats_in_view p (view u H)) tell) ∙ ap length seats-seen ∙ length-map (seats_of p H) tell

  -- who has a label, or has had it, where reviewers are told by name
  assigned-seen_where : shows_reviewer by ≡ true → (o : ℕ)
      → assigned_under o (seats_in_view p (view u H)) ≡ assigned_under o (seats_of p H)
  assigned-seen_where names o =
      sym (under-named o (seats_in_view p (view u H)))
      ∙ ap (assigned_under o) (seats-as named_alone shown)
      ∙ under-named o (seats_of p H)
    where
      shown : (at : Around) → ShowsAssigned named_alone (reader u H) at p
      shown at stamp more user kind ordinal =
          let named : Bool = user_named (reader u H) user in
          let own : Bool = user_named (reader u H) stamp.maker in (
            label_shown named own,
            ap (λ b. record { ordinal = ordinal; kind = None; user = where_shown b (Some user) })
                (user_shown named own names),
          )

  -- a clear member who is told who reviews the paper sees all of each seat
  module _ (names : shows_reviewer by ≡ true) (clear : member ≡ true) where
    seat-shown : (at : Around) → ShowsAssigned (λ (seat : SeatTold). seat) (reader u H) at p
    seat-shown at stamp more user kind ordinal =
        let named : Bool = user_named (reader u H) user in
        let own : Bool = user_named (reader u H) stamp.maker in
        let kinds = ap (λ b. where_shown b (Some kind)) (kind_shown named own clear) in
        let users = ap (λ b. where_shown b (Some user)) (user_shown named own names) in
        (label_shown named own, λ i. record { ordinal = ordinal; kind = kinds i; user = users i })

    reviewers-seen_whole : reviewers_in_view p (view u H) ≡ reviewers_of p H
    reviewers-seen_whole =
        let seats = sym (map-id (seats_in_view p (view u H))) ∙ seats-as (λ (seat : SeatTold). seat) seat-shown
        ∙ map-id (seats_of p H) in
        ap (λ gone. seats_left gone (seats_in_view p (view u H))) gone-seen
        ∙ ap (seats_left (flat_map (λ (e : Stamped). unassigned_told p e.entry) H)) seats

pub assigned-seen : (u : Option ℕ) (p : ℕ) (H : History) → shows_reviewer (standing_of u (Some p) H) ≡ true
    → (o : ℕ) → assigned_under o (seats_in_view p (view u H)) ≡ assigned_under o (seats_of p H)
assigned-seen u p H names o =
    assigned-seen_where u p H [] (λ _. false) (or_left (shows_reviewer (standing_of u (Some p) H)) _ names) names o

-- so a clear chair sees how many labels were given from the bidding on
pub labels-seen : (u : Option ℕ) (p : ℕ) (H : History) → gets_conflicts (standing_of u (Some p) H) ≡ true
    → length (seats_in_view p (view u H)) ≡ length (seats_of p H)
labels-seen u p H told = labels-seen_where u p H [] (λ _. false)
    (or_left (shows_reviewer (standing_of u (Some p) H)) _
    (or_left _ _ (or_left (gets_conflicts (standing_of u (Some p) H)) _ told)))

-- and all of each reviewer
pub reviewers-seen_by_chair : (u : Option ℕ) (p : ℕ) (H : History) → gets_conflicts (standing_of u (Some p) H) ≡ true
    → reviewers_in_view p (view u H) ≡ reviewers_of p H
reviewers-seen_by_chair u p H told =
    let by : Standing = standing_of u (Some p) H in
    let names = or_left (shows_reviewer by) _ (or_left _ _ (or_left (gets_conflicts by) _ told)) in
    reviewers-seen_whole u p H [] (λ _. false) names (or_left _ _ (or_left (gets_conflicts by) _ told))
    (chair_clear by.role by.conflicted (and_parts (is_clear_chair by) (chairs_see_reviewers by.phase) told).0)
  where
    chair_clear : (role : Role) (c : Bool) → (is_chair role && not c) ≡ true → (is_member role && not c) ≡ true
    chair_clear Account c h = absurd (true≢false (sym h))
    chair_clear Member c h = absurd (true≢false (sym h))
    chair_clear Chair c h = h
