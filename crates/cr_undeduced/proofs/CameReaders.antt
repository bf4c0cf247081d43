-- SPDX-License-Identifier: Apache-2.0 OR MIT
-- Whoever is shown another's form on a paper came to be somebody who reads or learns of it.
use Rattle.std.proofs.Common.{ℕ, Bool, true, false, ◌≡◌, refl, sym, ap, ◌∙◌, ◌||◌, ◌&&◌, Some, eqb, subst}
use Rattle.std.specs.Prelude.{not, IsTrue}
use Rattle.std.proofs.lemmas.Bool.{and_parts, eqb-true, true≢false}
use Rattle.cr_base.specs.declared.entry.Entry.{Entry}
use Rattle.cr_base.specs.declared.entry.Entry.TheVariants as entries
use Rattle.cr_base.specs.declared.entry.EntryKind.TheVariants as kinds
use Rattle.cr_base.specs.declared.entry.Stamp.{Stamp}
use Rattle.cr_base.specs.declared.words.Phase.{Phase}
use Rattle.cr_base.specs.declared.words.Phase.TheVariants.{Setup, Notification, Closed}
use Rattle.cr_base.specs.declared.words.Role.{Role}
use Rattle.cr_base.specs.declared.words.Role.TheVariants.{Account, Member, Chair}
use Rattle.cr_base.specs.History.{History}
use Rattle.cr_base.specs.HistoryFacts.{phase_of, role_of, is_author}
use Rattle.cr_base.specs.Lists.{is_number}
use Rattle.cr_policy.specs.Legal.{Legal}
use Rattle.cr_policy.specs.Sentences.{is_members, is_chairs}
use Rattle.cr_bounds.specs.ShownTo.{is_told, is_on_committee, chairs_committee, is_past_discussion, is_past_reviewing}
use Rattle.cr_bounds.specs.ShownTo.{is_response_or_later, serves, is_eligible, administers, discusses, is_notified}
use Rattle.cr_bounds.specs.ShownTo.{is_author_since_response, has_conflict, is_discussed, is_reviewed, is_responded_to}
use Rattle.cr_policy.specs.Sighting.{Sighting}
use Rattle.cr_bounds.specs.ViewBounds.{is_others}
use Rattle.cr_bounds.proofs.BoundsWalk.{shown_to, each-view}
use Rattle.cr_undeduced.specs.HowOneCame.{ReadsAs, author, member, chair, FormReadersCame}
use Rattle.cr_undeduced.proofs.CameLaws.{committee-came, authors_came}

-- ---- words

committee-is : (r : Role) → is_on_committee r ≡ is_members r
committee-is Account = refl
committee-is Member = refl
committee-is Chair = refl

chair-is : (r : Role) → chairs_committee r ≡ is_chairs r
chair-is Account = refl
chair-is Member = refl
chair-is Chair = refl

chair-serves : (r : Role) → chairs_committee r ≡ true → is_members r ≡ true
chair-serves Account is = absurd (true≢false (sym is))
chair-serves Member is = refl
chair-serves Chair is = refl

-- it is the response or later where it is the notification or later
later-heard : (phase : Phase) → is_past_discussion phase ≡ true → is_response_or_later phase ≡ true
later-heard Notification is = refl
later-heard Closed is = refl
later-heard Setup is = absurd (true≢false (sym is))
later-heard phase is = absurd (true≢false (sym is))

-- ---- one form

module _ (u p : ℕ) (H : History) (legal : Legal H) where
  as_author : IsTrue (is_author_since_response (Some u) p H) → ReadsAs u p H
  as_author since =
      let wrote = (and_parts (is_author (Some u) p H) (is_response_or_later (phase_of H)) since).0 in
      author since (authors_came u p H legal wrote)

  as_member : IsTrue (discusses (Some u) p H) → ReadsAs u p H
  as_member is =
      let eligible = (and_parts (is_eligible (Some u) p H) (is_past_reviewing (phase_of H)) is).0 in
      let serving = (and_parts (serves (Some u) H) (not (has_conflict (Some u) p H)) eligible).0 in
      member is (committee-came u H legal
      (sym (committee-is (role_of (Some u) H)) ∙ (and_parts (is_on_committee (role_of (Some u) H)) _ serving).0))

  as_chair : IsTrue (administers (Some u) p H) → ReadsAs u p H
  as_chair is =
      let role : Role = role_of (Some u) H in
      let leads = (and_parts (chairs_committee role) (not (has_conflict (Some u) p H)) is).0 in
      chair (ap (λ b. b && not (has_conflict (Some u) p H)) (sym (chair-is role)) ∙ is)
      (committee-came u H legal (chair-serves role leads))

  -- `d` is that she discusses the paper, `a` that she administers it, `r` that she is an author since the response, `n`
  -- one who is notified
  which : (d a r n own dd first rr last : Bool) → (d ≡ true → ReadsAs u p H) → (a ≡ true → ReadsAs u p H)
      → (r ≡ true → ReadsAs u p H) → (n ≡ true → r ≡ true) → own ≡ false
      → ((own || (d && dd)) || (a && first) || ((r && rr) || (n && last))) ≡ true → ReadsAs u p H
  which true a r n own dd first rr last one two three heard other told = one refl
  which false true r n own dd first rr last one two three heard other told = two refl
  which false false true n own dd first rr last one two three heard other told = three refl
  which false false false true own dd first rr last one two three heard other told = three (heard refl)
  which false false false false own dd first rr last one two three heard other told =
      absurd (true≢false (sym told
      ∙ ap (λ b. (b || (false && dd)) || (false && first) || ((false && rr) || (false && last))) other))

  -- who is notified is an author since the response
  heard : is_notified (Some u) p H ≡ true → is_author_since_response (Some u) p H ≡ true
  heard notified =
      let parts = and_parts (is_author (Some u) p H) (is_past_discussion (phase_of H)) notified in
      (λ i. parts.0 i && later-heard (phase_of H) parts.1 i)

  others-false : (a b : Bool) → (a && not b) ≡ true → b ≡ false
  others-false true true h = absurd (true≢false (sym h))
  others-false true false h = refl
  others-false false b h = absurd (true≢false (sym h))

  of-entry : (before later : History) (stamp : Stamp) (e : Entry)
      → is_told (Some u) H before later stamp.maker e ≡ true
      → IsTrue (is_others kinds.Reviewed p (shown_to (Some u) H before later stamp e)) → ReadsAs u p H
  of-entry before later stamp (entries.Reviewed paper ordinal version form) told others =
      let parts = and_parts (eqb paper p) (not (is_number (Some u) stamp.maker)) others in
      which (discusses (Some u) p H) (administers (Some u) p H) (is_author_since_response (Some u) p H)
      (is_notified (Some u) p H) (is_number (Some u) stamp.maker) (is_discussed p ordinal before later)
      (not (is_reviewed p ordinal before)) (is_responded_to p ordinal before later) (not (is_reviewed p ordinal later))
      as_member as_chair as_author heard (others-false true (is_number (Some u) stamp.maker) parts.1)
      (subst
      (λ q. is_told (Some u) H before later stamp.maker (entries.Reviewed q ordinal version form) ≡ true)
      (eqb-true paper p parts.0) told)
  of-entry before later stamp (entries.Registered user name digest) told others = absurd (true≢false (sym others))
  of-entry before later stamp e told others = absurd (true≢false (sym others))

pub form_readers_came : FormReadersCame
form_readers_came u p H legal =
    each-view (Some u) H (λ (s : Sighting). IsTrue (is_others kinds.Reviewed p s) → ReadsAs u p H)
    (λ before later stamp e told. of-entry u p H legal before later stamp e told)
