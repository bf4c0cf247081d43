-- SPDX-License-Identifier: Apache-2.0 OR MIT
-- Two small conferences that differ only in decisions look the same to those who aren't told them: each looks as if
-- nothing but what is told had been decided.
use Rattle.std.proofs.Common.{ℕ, List, ◌≡◌, refl, sym, ap, ◌∙◌, Option, Some, None, if◌then◌else◌}
use Rattle.std.specs.Prelude.{◌==◌}
use Rattle.std.specs.List.{list_any}
use Rattle.cr_base.specs.declared.words.Decision.{Decision}
use Rattle.cr_base.specs.declared.words.Decision.TheVariants.{Accept, Reject}
use Rattle.cr_base.specs.declared.words.Mode.{Mode}
use Rattle.cr_policy.specs.View.{View}
use Rattle.cr_conference.specs.Conference.{bob, carol, dave, erin, fay, gus, Digests, Asides, Verdicts, in_discussion}
use Rattle.cr_conference.specs.ConferenceLaws.{outside_of, seen_in_discussion, seen_from_notification, accepted_with}
use Rattle.cr_conference.specs.ConferenceLaws.{outcome_with, SameEarly, SameLate, VerdictsHidden}
use Rattle.cr_conference.specs.ConferenceOutcomes.{Outside}

-- ---- decisions as one is told them

-- these decisions: on paper 2, and twice on paper 1
abbrev deciding : Option Decision → Option Decision → Option Decision → Verdicts
deciding other first last = record { other = other; first = first; last = last }

-- a paper is decided so, if it is among the accepted
abbrev if_accepted : ℕ → List ℕ → Option Decision
if_accepted paper accepted = if list_any (λ p. p == paper) accepted then Some Accept else None

-- everyone is told once of each accepted paper; who may know the decision on paper 2, or the last one on paper 1, is
-- told that besides, and of the other paper that it is accepted
abbrev to_everyone : List ℕ → Verdicts
to_everyone accepted = deciding (if_accepted 2 accepted) None (if_accepted 1 accepted)

abbrev with_other : Option Decision → List ℕ → Verdicts
with_other other accepted = deciding other None (if_accepted 1 accepted)

abbrev with_outcome : Option Decision → List ℕ → Verdicts
with_outcome outcome accepted = deciding (if_accepted 2 accepted) None outcome

abbrev with_both : Option Decision → Option Decision → Verdicts
with_both other outcome = deciding other None outcome

module _ (d : Digests) (mode : Mode) (a : Asides) where
  -- ---- before the notification

  -- what is seen by who isn't on the committee, and by a member and a chair in conflict with paper 1
  record EarlyInConflict : Type 0 where
    member : View
    chair : View

  abbrev early : Verdicts → Outside
  early v = outside_of (in_discussion d mode a dave v)

  abbrev early_in_conflict : Verdicts → EarlyInConflict
  early_in_conflict v =
      record { member = seen_in_discussion (Some carol) d mode a v; chair = seen_in_discussion (Some fay) d mode a v }

  -- as if nothing were decided, and as if nothing were of paper 1
  record IsEarly (v : Verdicts) : Type 0 where
    outside : early v ≡ early (deciding None None None)
    in_conflict : early_in_conflict v ≡ early_in_conflict (deciding v.other None None)

  is_early : (other first last : Option Decision) → IsEarly (deciding other first last)
  is_early None None None = record { outside = refl; in_conflict = refl }
  is_early None (Some Accept) None = record { outside = refl; in_conflict = refl }
  is_early None (Some Reject) None = record { outside = refl; in_conflict = refl }
  is_early None None (Some Accept) = record { outside = refl; in_conflict = refl }
  is_early None (Some first) (Some Accept) = record { outside = refl; in_conflict = refl }
  is_early None None (Some Reject) = record { outside = refl; in_conflict = refl }
  is_early None (Some first) (Some Reject) = record { outside = refl; in_conflict = refl }
  is_early (Some Accept) None None = record { outside = refl; in_conflict = refl }
  is_early (Some Accept) (Some Accept) None = record { outside = refl; in_conflict = refl }
  is_early (Some Accept) (Some Reject) None = record { outside = refl; in_conflict = refl }
  is_early (Some Accept) None (Some Accept) = record { outside = refl; in_conflict = refl }
  is_early (Some Accept) (Some first) (Some Accept) = record { outside = refl; in_conflict = refl }
  is_early (Some Accept) None (Some Reject) = record { outside = refl; in_conflict = refl }
  is_early (Some Accept) (Some first) (Some Reject) = record { outside = refl; in_conflict = refl }
  is_early (Some Reject) None None = record { outside = refl; in_conflict = refl }
  is_early (Some Reject) (Some Accept) None = record { outside = refl; in_conflict = refl }
  is_early (Some Reject) (Some Reject) None = record { outside = refl; in_conflict = refl }
  is_early (Some Reject) None (Some Accept) = record { outside = refl; in_conflict = refl }
  is_early (Some Reject) (Some first) (Some Accept) = record { outside = refl; in_conflict = refl }
  is_early (Some Reject) None (Some Reject) = record { outside = refl; in_conflict = refl }
  is_early (Some Reject) (Some first) (Some Reject) = record { outside = refl; in_conflict = refl }

  same_early : (v w : Verdicts) → SameEarly d mode a v w
  same_early v w =
      let of_v = is_early v.other v.first v.last in
      let of_w = is_early w.other w.first w.last in
      let outside = of_v.outside ∙ sym of_w.outside in
      let in_conflict = λ (same : v.other ≡ w.other).
      of_v.in_conflict ∙ ap (λ (other : Option Decision). early_in_conflict (deciding other None None)) same
      ∙ sym of_w.in_conflict in
      record {
        nobody = ap (λ (seen : Outside). seen.nobody) outside;
        account = ap (λ (seen : Outside). seen.account) outside;
        author = ap (λ (seen : Outside). seen.author) outside;
        coauthor = ap (λ (seen : Outside). seen.coauthor) outside;
        conflicted_member = λ same. ap (λ (seen : EarlyInConflict). seen.member) (in_conflict same);
        conflicted_chair = λ same. ap (λ (seen : EarlyInConflict). seen.chair) (in_conflict same);
      }

  -- ---- from the notification on

  -- what is seen by who wrote none of the papers and isn't on the committee, by a member and a chair in conflict with
  -- paper 1, and by authors
  record Late : Type 0 where
    nobody : List View
    account : List View

  record LateInConflict : Type 0 where
    member : List View
    chair : List View

  abbrev late : Verdicts → Late
  late v =
      record {
        nobody = seen_from_notification None d mode a v;
        account = seen_from_notification (Some erin) d mode a v;
      }

  abbrev late_in_conflict : Verdicts → LateInConflict
  late_in_conflict v = record {
    member = seen_from_notification (Some carol) d mode a v;
    chair = seen_from_notification (Some fay) d mode a v;
  }

  abbrev late_to_author : Verdicts → List View
  late_to_author v = seen_from_notification (Some bob) d mode a v

  abbrev late_to_coauthor : Verdicts → List View
  late_to_coauthor v = seen_from_notification (Some gus) d mode a v

  -- which papers are accepted with these decisions, and the last decision on a paper
  abbrev accepted : Verdicts → List ℕ
  accepted v = accepted_with d mode a v

  abbrev outcome : ℕ → Verdicts → Option Decision
  outcome paper v = outcome_with paper d mode a v

  -- as if no more were decided than they are told
  record IsLate (v : Verdicts) : Type 0 where
    outside : late v ≡ late (to_everyone (accepted v))
    in_conflict : late_in_conflict v ≡ late_in_conflict (with_other v.other (accepted v))
    author : late_to_author v ≡ late_to_author (with_outcome (outcome 1 v) (accepted v))
    coauthor : late_to_coauthor v ≡ late_to_coauthor (with_both (outcome 2 v) (outcome 1 v))

  is_late : (other first last : Option Decision) → IsLate (deciding other first last)
  is_late None None None = record { outside = refl; in_conflict = refl; author = refl; coauthor = refl }
  is_late None (Some Accept) None = record { outside = refl; in_conflict = refl; author = refl; coauthor = refl }
  is_late None (Some Reject) None = record { outside = refl; in_conflict = refl; author = refl; coauthor = refl }
  is_late None None (Some Accept) = record { outside = refl; in_conflict = refl; author = refl; coauthor = refl }
  is_late None (Some first) (Some Accept) =
      record { outside = refl; in_conflict = refl; author = refl; coauthor = refl }
  is_late None None (Some Reject) = record { outside = refl; in_conflict = refl; author = refl; coauthor = refl }
  is_late None (Some first) (Some Reject) =
      record { outside = refl; in_conflict = refl; author = refl; coauthor = refl }
  is_late (Some Accept) None None = record { outside = refl; in_conflict = refl; author = refl; coauthor = refl }
  is_late (Some Accept) (Some Accept) None =
      record { outside = refl; in_conflict = refl; author = refl; coauthor = refl }
  is_late (Some Accept) (Some Reject) None =
      record { outside = refl; in_conflict = refl; author = refl; coauthor = refl }
  is_late (Some Accept) None (Some Accept) =
      record { outside = refl; in_conflict = refl; author = refl; coauthor = refl }
  is_late (Some Accept) (Some first) (Some Accept) =
      record { outside = refl; in_conflict = refl; author = refl; coauthor = refl }
  is_late (Some Accept) None (Some Reject) =
      record { outside = refl; in_conflict = refl; author = refl; coauthor = refl }
  is_late (Some Accept) (Some first) (Some Reject) =
      record { outside = refl; in_conflict = refl; author = refl; coauthor = refl }
  is_late (Some Reject) None None = record { outside = refl; in_conflict = refl; author = refl; coauthor = refl }
  is_late (Some Reject) (Some Accept) None =
      record { outside = refl; in_conflict = refl; author = refl; coauthor = refl }
  is_late (Some Reject) (Some Reject) None =
      record { outside = refl; in_conflict = refl; author = refl; coauthor = refl }
  is_late (Some Reject) None (Some Accept) =
      record { outside = refl; in_conflict = refl; author = refl; coauthor = refl }
  is_late (Some Reject) (Some first) (Some Accept) =
      record { outside = refl; in_conflict = refl; author = refl; coauthor = refl }
  is_late (Some Reject) None (Some Reject) =
      record { outside = refl; in_conflict = refl; author = refl; coauthor = refl }
  is_late (Some Reject) (Some first) (Some Reject) =
      record { outside = refl; in_conflict = refl; author = refl; coauthor = refl }

  -- what looks as if two things alone were decided is the same where both are
  as_both : {A B C : Type 0} (f : A → B → C) {x y : A} {z t : B} → x ≡ y → z ≡ t → f x z ≡ f y t
  as_both f {x} {y} {z} {t} same alike = ap (λ x. f x z) same ∙ ap (λ z. f y z) alike

  same_late : (v w : Verdicts) → accepted v ≡ accepted w → SameLate d mode a v w
  same_late v w same =
      let of_v = is_late v.other v.first v.last in
      let of_w = is_late w.other w.first w.last in
      let outside = of_v.outside ∙ ap (λ papers. late (to_everyone papers)) same ∙ sym of_w.outside in
      let in_conflict = λ (other : v.other ≡ w.other).
      of_v.in_conflict ∙ as_both (λ other papers. late_in_conflict (with_other other papers)) other same
      ∙ sym of_w.in_conflict in
      record {
        nobody = ap (λ (seen : Late). seen.nobody) outside;
        account = ap (λ (seen : Late). seen.account) outside;
        author = λ one.
            of_v.author ∙ as_both (λ outcome papers. late_to_author (with_outcome outcome papers)) one same
            ∙ sym of_w.author;
        coauthor = λ one two.
            of_v.coauthor ∙ as_both (λ other outcome. late_to_coauthor (with_both other outcome)) two one
            ∙ sym of_w.coauthor;
        conflicted_member = λ other. ap (λ (seen : LateInConflict). seen.member) (in_conflict other);
        conflicted_chair = λ other. ap (λ (seen : LateInConflict). seen.chair) (in_conflict other);
      }

pub verdicts-hidden : VerdictsHidden
verdicts-hidden d mode a v w = record { early = same_early d mode a v w; late = same_late d mode a v w }
