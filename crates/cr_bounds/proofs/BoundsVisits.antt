-- SPDX-License-Identifier: Apache-2.0 OR MIT
-- What the bounds leave for externals, of the papers that they read as such.
use Rattle.std.proofs.Common.{◌≡◌, ℕ, Bool, true, false, cond, ap, subst, ◌∙◌, arith, ◌||◌, ◌&&◌, Option, Some, None}
use Rattle.std.specs.Prelude.{not}
use Rattle.std.proofs.lemmas.Bool.{eqb-true, or_parts, false≢true}
use Rattle.cr_base.specs.declared.entry.Entry.{Entry}
use Rattle.cr_base.specs.declared.entry.Entry.TheVariants.{Submitted, Coauthor, Revised, Uploaded, Withdrawn}
use Rattle.cr_base.specs.declared.entry.Entry.TheVariants.{Conflict}
use Rattle.cr_base.specs.declared.entry.Entry.TheVariants.{Bid, Assigned, Unassigned, Invited, Uninvited}
use Rattle.cr_base.specs.declared.entry.Entry.TheVariants.{Reviewed, Commented, Tagged, Decided, Responded}
use Rattle.cr_base.specs.declared.entry.Stamp.{Stamp}
use Rattle.cr_base.specs.Lists.{is_number}
use Rattle.cr_base.specs.History.{History}
use Rattle.cr_base.specs.HistoryFacts.{mode_of, phase_of, role_of, is_author, is_conflict_on, is_invited}
use Rattle.cr_policy.specs.Sighting.{Sighting}
use Rattle.cr_policy.specs.ViewFacts.{is_user}
use Rattle.cr_bounds.specs.ShownTo.{is_on_committee, chairs_committee, is_past_submission, hides_authors}
use Rattle.cr_bounds.specs.ShownTo.{serves, is_eligible, reads_to_judge, reads_visiting}
use Rattle.cr_bounds.specs.ShownTo.{is_in_programme, is_told, where_known, paper_for, user_for}
use Rattle.cr_bounds.specs.ViewBounds.{ExternalsShown, IsVisitors, visit}
use Rattle.cr_bounds.proofs.BoundsWalk.{shown_to, each-view}
use Rattle.cr_bounds.proofs.BoundsLeft.{known-alone, maker_known}
use Rattle.cr_bounds.proofs.BoundsPublic.{IsUnwritten, IsUntold, unhandled, untold-one, decided-one, unserving}
use Rattle.cr_bounds.proofs.BoundsPublic.{unnamed-one}

-- whoever reads a paper as an external isn't on the committee and didn't write it. `c` is that she is on it, `i` that
-- she is invited to the paper, `a` and `k` that she wrote it or is declared in conflict with it
visitor-account : (c i a k past : Bool) → ((not c && i) && not (a || k) && past) ≡ true → c ≡ false
visitor-account c i a k past h = grind (arith, h)

visitor-wrote : (c i a k past : Bool) → ((not c && i) && not (a || k) && past) ≡ true → a ≡ false
visitor-wrote c i a k past h = grind (arith, h)

-- she is told who wrote it where authors are named, and everyone where it is in the programme. `h` is that she is
-- eligible for the paper, `b` that it is before her
maker-unnamed : (a h leads b hides p : Bool) → a ≡ false → h ≡ false → (not hides || p) ≡ false
    → (a || (h && leads) || (b && not hides) || p) ≡ false
maker-unnamed a h leads b hides p ha hh hp = grind (arith, ha, hh, hp)

coauthor-named : (own a h leads b hides p : Bool) → own ≡ false → a ≡ false → h ≡ false
    → ((own || a) || (h && leads) || (b && not hides) || p) ≡ true → (not hides || p) ≡ true
coauthor-named own a h leads b hides p ho ha hh told = grind (arith, ho, ha, hh, told)

module _ (u : Option ℕ) (H : History) where
  -- of an entry that is on a paper which she reads as an external, and that neither is her own nor names her
  abbrev VisitedAt : Sighting → Option ℕ → Type 0
  VisitedAt s None = Unit {0}
  VisitedAt s (Some paper) =
      reads_visiting u paper H ≡ true → (s.mine || is_user u s.user) ≡ false → IsVisitors (visit paper H) s.kind s

  module _ (paper : ℕ) (reads : reads_visiting u paper H ≡ true) where
    account : is_on_committee (role_of u H) ≡ false
    account =
        visitor-account (is_on_committee (role_of u H)) (is_invited u paper H) (is_author u paper H)
        (is_conflict_on u paper H) (is_past_submission (phase_of H)) reads

    unwritten : is_author u paper H ≡ false
    unwritten =
        visitor-wrote (is_on_committee (role_of u H)) (is_invited u paper H) (is_author u paper H)
        (is_conflict_on u paper H) (is_past_submission (phase_of H)) reads

    serving : serves u H ≡ false
    serving = unserving u H account

    handled : is_eligible u paper H ≡ false
    handled = unhandled u H serving paper

    abbrev is_named : Bool
    is_named = not (hides_authors (mode_of H)) || is_in_programme paper H

    maker-visited : (maker : ℕ) → where_known (maker_known u H paper unwritten handled) maker
        ≡ cond is_named (where_known (maker_known u H paper unwritten handled) maker) None
    maker-visited maker =
        known-alone (maker_known u H paper unwritten handled) is_named maker
        (maker-unnamed (is_author u paper H) (is_eligible u paper H) (chairs_committee (role_of u H))
        (reads_to_judge u paper H) (hides_authors (mode_of H)) (is_in_programme paper H) unwritten handled)

    module _ (before later : History) (stamp : Stamp) (e : Entry) where
      own-not : (is_number u stamp.maker || is_user u (user_for u H before later stamp e)) ≡ false
          → is_number u stamp.maker ≡ false
      own-not other = (or_parts (is_number u stamp.maker) (is_user u (user_for u H before later stamp e)) other).0

      -- of all that the committee does with the paper she is told of nothing of others, but of the decision
      untold-other : is_told u H before later stamp.maker e ≡ true
          → (is_number u stamp.maker || is_user u (user_for u H before later stamp e)) ≡ false
          → IsUnwritten u H (paper_for u H before later stamp e) → IsUntold e
      untold-other told other wrote =
          let parts = or_parts (is_number u stamp.maker) (is_user u (user_for u H before later stamp e)) other in
          untold-one u H serving before later stamp e (unnamed-one u H account before later stamp e parts.1) wrote told
          parts.0

  visitor-one : (before later : History) (stamp : Stamp) (e : Entry) → is_told u H before later stamp.maker e ≡ true
      → VisitedAt (shown_to u H before later stamp e) (paper_for u H before later stamp e)
  visitor-one before later stamp (Submitted paper title abstract) told = λ reads other.
      let own = own-not paper reads before later stamp (Submitted paper title abstract) other in
      λ i. record (shown_to u H before later stamp (Submitted paper title abstract)) {
        mine = own i;
        at = where_known (own i) stamp.at;
        key = where_known (own i) stamp.key;
        by = maker-visited paper reads stamp.maker i;
      }
  visitor-one before later stamp (Coauthor paper user) told = λ reads other.
      let own = own-not paper reads before later stamp (Coauthor paper user) other in (
        coauthor-named (is_number u stamp.maker) (is_author u paper H) (is_eligible u paper H)
            (chairs_committee (role_of u H)) (reads_to_judge u paper H) (hides_authors (mode_of H))
            (is_in_programme paper H) own (unwritten paper reads) (handled paper reads) told,
        λ i. record (shown_to u H before later stamp (Coauthor paper user)) {
          mine = own i;
          at = where_known (own i) stamp.at;
          key = where_known (own i) stamp.key;
        },
      )
  visitor-one before later stamp (Revised paper title abstract) told = λ reads other.
      let own = own-not paper reads before later stamp (Revised paper title abstract) other in
      λ i. record (shown_to u H before later stamp (Revised paper title abstract)) {
        mine = own i;
        at = where_known (own i) stamp.at;
        key = where_known (own i) stamp.key;
      }
  visitor-one before later stamp (Uploaded paper version content) told = λ reads other.
      let own = own-not paper reads before later stamp (Uploaded paper version content) other in
      λ i. record (shown_to u H before later stamp (Uploaded paper version content)) {
        mine = own i;
        at = where_known (own i) stamp.at;
        key = where_known (own i) stamp.key;
      }
  visitor-one before later stamp (Withdrawn paper) told = λ reads other.
      let own = own-not paper reads before later stamp (Withdrawn paper) other in
      λ i. record (shown_to u H before later stamp (Withdrawn paper)) {
        mine = own i;
        at = where_known (own i) stamp.at;
        key = where_known (own i) stamp.key;
      }
  visitor-one before later stamp (Decided paper decision) told = λ reads other.
      decided-one u H (serving paper reads) before later stamp paper decision (unwritten paper reads) told
      (own-not paper reads before later stamp (Decided paper decision) other)
  visitor-one before later stamp (Conflict paper user on) told = λ reads other.
      untold-other paper reads before later stamp (Conflict paper user on) told other (unwritten paper reads)
  visitor-one before later stamp (Bid paper value) told = λ reads other.
      untold-other paper reads before later stamp (Bid paper value) told other (unwritten paper reads)
  visitor-one before later stamp (Assigned paper user review_kind ordinal) told = λ reads other.
      untold-other paper reads before later stamp (Assigned paper user review_kind ordinal) told other
      (unwritten paper reads)
  visitor-one before later stamp (Unassigned paper user ordinal) told = λ reads other.
      untold-other paper reads before later stamp (Unassigned paper user ordinal) told other (unwritten paper reads)
  visitor-one before later stamp (Invited paper user) told = λ reads other.
      untold-other paper reads before later stamp (Invited paper user) told other (unwritten paper reads)
  visitor-one before later stamp (Uninvited paper user) told = λ reads other.
      untold-other paper reads before later stamp (Uninvited paper user) told other (unwritten paper reads)
  visitor-one before later stamp (Reviewed paper ordinal version form) told = λ reads other.
      untold-other paper reads before later stamp (Reviewed paper ordinal version form) told other
      (unwritten paper reads)
  visitor-one before later stamp (Commented paper n ordinal text) told = λ reads other.
      untold-other paper reads before later stamp (Commented paper n ordinal text) told other (unwritten paper reads)
  visitor-one before later stamp (Responded paper text) told = λ reads other.
      untold-other paper reads before later stamp (Responded paper text) told other (unwritten paper reads)
  visitor-one before later stamp (Tagged paper tag on) told = λ reads other.
      untold-other paper reads before later stamp (Tagged paper tag on) told other (unwritten paper reads)
  visitor-one before later stamp e told = tt

pub externals-shown : ExternalsShown
externals-shown u p H reads =
    each-view u H IsShown (λ before later stamp e told.
    on-paper (shown_to u H before later stamp e) (paper_for u H before later stamp e)
    (visitor-one u H before later stamp e told))
  where
    IsShown : Sighting → Type 0
    IsShown s = is_number s.paper p ≡ true → (s.mine || is_user u s.user) ≡ false → IsVisitors (visit p H) s.kind s

    on-paper : (s : Sighting) (paper : Option ℕ) → VisitedAt u H s paper → is_number paper p ≡ true
        → (s.mine || is_user u s.user) ≡ false → IsVisitors (visit p H) s.kind s
    on-paper s None shown on_it other = absurd (false≢true on_it)
    on-paper s (Some paper) shown on_it other =
        let same : paper ≡ p = eqb-true paper p on_it in
        subst (λ n. IsVisitors (visit n H) s.kind s) same (shown (ap (λ n. reads_visiting u n H) same ∙ reads) other)
