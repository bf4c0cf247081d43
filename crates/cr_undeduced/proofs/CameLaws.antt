-- SPDX-License-Identifier: Apache-2.0 OR MIT
-- Of each legal history, how somebody came to be what lets her see or do.
use Rattle.std.proofs.Common.{ℕ, Bool, true, false, ◌≡◌, List, [], ◌∷◌, ◌++◌, length, refl, sym, ap, subst, ◌∙◌, ◌||◌}
use Rattle.std.proofs.Common.{◌&&◌}
use Rattle.std.proofs.Common.{Option, Some, None, eqb, arith, cond}
use Rattle.std.specs.Prelude.{not, unwrap_or, IsTrue, IsFalse}
use Rattle.std.specs.List.{list_any}
use Rattle.std.proofs.lemmas.Bool.{and_parts, eqb-true, true≢false}
use Rattle.cr_base.specs.declared.entry.Entry.{Entry}
use Rattle.cr_base.specs.declared.entry.Entry.TheVariants as entries
use Rattle.cr_base.specs.declared.entry.Stamped.{Stamped}
use Rattle.cr_base.specs.declared.words.Decision.{Decision}
use Rattle.cr_base.specs.declared.words.Decision.TheVariants.{Accept, Reject}
use Rattle.cr_base.specs.declared.words.Phase.{Phase}
use Rattle.cr_base.specs.declared.words.Phase.TheVariants.{Submission, Bidding, Discussion, Notification}
use Rattle.cr_base.specs.declared.words.Role.{Role}
use Rattle.cr_base.specs.declared.words.Role.TheVariants.{Account}
use Rattle.cr_base.specs.History.{History, all_told, role_told, author_told, conflict_told, ordinal_told, invite_told}
use Rattle.cr_base.specs.History.{decision_told}
use Rattle.cr_base.specs.HistoryFacts.{phase_of, role_of, is_author, is_conflicted, is_invited}
use Rattle.cr_base.specs.HistoryFacts.{is_withdrawn, decision_of}
use Rattle.cr_base.specs.Lists.{is_number, last}
use Rattle.cr_base.specs.Phases.{is_phase, is_from, committee_works, papers_may_be_accepted}
use Rattle.cr_base.specs.Words.{is_member, is_chair, is_accept}
use Rattle.cr_base.proofs.Small.{and_not_from}
use Rattle.cr_history.specs.Invariants.{IsInOrder, IsByChair, IsByRight, IsInPhase, IsOfMember, IsSeated, is_of_paper}
use Rattle.cr_history.specs.Invariants.{may_turn}
use Rattle.cr_policy.specs.Legal.{Legal}
use Rattle.cr_policy.specs.Sentences.{now, committee_at_work, before_bidding, chairs, on_committee}
use Rattle.cr_policy.specs.Sentences.{administers, is_members, has_part}
use Rattle.cr_policy.proofs.LegalLaws.{legal_invariants}
use Rattle.cr_permissions.proofs.SentenceLaws.{phase-same, member-same, chair-same, in_committee-same, over-same}
use Rattle.cr_permissions.proofs.SentenceLaws.{begun-same}
use Rattle.cr_undeduced.specs.HowOneCame.{Came, NamedTo, CameToCommittee, MembersCame, MadeAuthor, AuthorsCame}
use Rattle.cr_undeduced.specs.HowOneCame.{MadeReviewer, ReviewersCame, MadeExternal, ExternalsCame, MadeConflicted}
use Rattle.cr_undeduced.specs.HowOneCame.{ConflictsCame, MadeAccepted, AcceptedCame}
use Rattle.cr_undeduced.proofs.Splits.{LastTold, last-told, OneTold, one-told, in-turn, given-some, given-any}
use Rattle.cr_undeduced.proofs.Splits.{told-else}

-- each entry of a legal history is in order on those before it
in_order : (H before : History) (e : Stamped) (after : History) → Legal H → H ≡ before ++ e ∷ after → IsInOrder before e
in_order H before e after legal there = in-turn IsInOrder H before e after there (legal_invariants H legal).in_order

-- ---- who it is

number-is : (u v : ℕ) → is_number (Some u) v ≡ true → v ≡ u
number-is u v is = sym (eqb-true u v is)

-- the paper and the user of an entry that passes for them
pair-is : (paper p user u : ℕ) → (eqb paper p && is_number (Some u) user) ≡ true → (paper ≡ p) × (user ≡ u)
pair-is paper p user u is =
    let parts = and_parts (eqb paper p) (is_number (Some u) user) is in
    (eqb-true paper p parts.0, number-is u user parts.1)

-- ---- the words of the rules and those of the sentences

administers-is : (before : History) (maker paper : ℕ) → IsTrue (is_chair (role_of (Some maker) before))
    → IsFalse (is_conflicted (Some maker) paper before) → IsTrue (administers maker paper before)
administers-is before maker paper chair clear =
    and_not_from (chairs maker before) (is_conflicted (Some maker) paper before)
    (sym (chair-same (role_of (Some maker) before)) ∙ chair) clear

at_work-is : (before : History) → IsTrue (committee_works (phase_of before)) → IsTrue (committee_at_work before)
at_work-is before works = sym (in_committee-same (phase_of before)) ∙ works

now-is : (phase : Phase) (before : History) → IsTrue (is_phase (phase_of before) phase) → IsTrue (now phase before)
now-is phase before is = sym (phase-same phase (phase_of before)) ∙ is

-- ---- the committee

module _ (u : ℕ) (H : History) (legal : Legal H) where
  abbrev role_at : Stamped → List Role
  role_at e = role_told (Some u) e.entry

  named-made : (before : History) (maker : ℕ) (role : Role) → role ≡ role_of (Some u) H → is_members role ≡ true
      → (e : Entry) → last (role_told (Some u) e) ≡ Some role → IsByChair before maker e → IsInPhase before e
      → NamedTo u H before maker e
  named-made before maker role same member (entries.Named user role') tells chair phase =
      let given = given-some (is_number (Some u) user) role' role tells in (
        number-is u user given.0,
        given.1 ∙ same,
        ap (λ b. b || eqb (length before) 1) (sym (chair-same (role_of (Some maker) before))) ∙ chair,
        sym (over-same (phase_of before)) ∙ phase,
      )
  named-made before maker role same member (entries.Dismissed user) tells chair phase =
      let given = given-some (is_number (Some u) user) Account role tells in
      absurd (true≢false (sym member ∙ ap is_members (sym given.1)))
  named-made before maker role same member (entries.Registered user name digest) tells chair phase = cc
  named-made before maker role same member e tells chair phase = cc

  pub committee-came : IsTrue (on_committee u H) → CameToCommittee u H
  committee-came member = by (last (all_told (role_told (Some u)) H)) refl
    where
      by : (o : Option Role) → last (all_told (role_told (Some u)) H) ≡ o → CameToCommittee u H
      by None none = absurd (true≢false (sym member ∙ ap (λ o. is_members (unwrap_or o Account)) none))
      by (Some role) told =
          let k : LastTold role_at H role = last-told role_at H role told in
          let order = in_order H k.before k.entry k.after legal k.there in
          let same : role_of (Some u) H ≡ role = ap (λ o. unwrap_or o Account) told in
          record {
            before = k.before;
            entry = k.entry;
            after = k.after;
            there = k.there;
            made = named-made k.before k.entry.stamp.maker role (sym same) (ap is_members (sym same) ∙ member)
                k.entry.entry k.tells order.chair order.phase;
            since = k.since;
          }

pub members_came : MembersCame
members_came u H legal member = committee-came u H legal member

-- ---- authors

author-made : (u p : ℕ) (before : History) (maker : ℕ) (e : Entry)
    → list_any (is_number (Some u)) (author_told p maker e) ≡ true → IsByRight before maker e → IsInPhase before e
    → MadeAuthor u p before maker e
author-made u p before maker (entries.Submitted paper title abstract) tells right phase =
    let given = given-any (is_number (Some u)) (eqb paper p) maker tells in
    (eqb-true paper p given.0, number-is u maker given.1, now-is Submission before phase)
author-made u p before maker (entries.Coauthor paper user) tells right phase =
    let given = given-any (is_number (Some u)) (eqb paper p) user tells in
    (eqb-true paper p given.0, number-is u user given.1, right, now-is Submission before phase)
author-made u p before maker (entries.Registered user name digest) tells right phase = cc
author-made u p before maker e tells right phase = cc

pub authors_came : AuthorsCame
authors_came u p H legal author =
    let at = λ (e : Stamped). author_told p e.stamp.maker e.entry in
    let k : OneTold at (is_number (Some u)) H = one-told at (is_number (Some u)) H author in
    let order = in_order H k.before k.entry k.after legal k.there in
    record {
      before = k.before;
      entry = k.entry;
      after = k.after;
      there = k.there;
      made = author-made u p k.before k.entry.stamp.maker k.entry.entry k.tells order.right order.phase;
      since = tt;
    }

-- ---- who reviews

has_part-is : (before : History) (user paper : ℕ) → IsTrue (is_of_paper before user paper)
    → IsTrue (has_part user paper before)
has_part-is before user paper is =
    (λ i. sym (member-same (role_of (Some user) before)) i
    || (not (sym (member-same (role_of (Some user) before)) i) && is_invited (Some user) paper before)) ∙ is

reviewer-made : (u p o : ℕ) (before : History) (maker : ℕ) (e : Entry)
    → last (ordinal_told (Some u) p e) ≡ Some (Some o) → IsByChair before maker e → IsByRight before maker e
    → IsInPhase before e → IsOfMember before e → IsSeated before maker e → MadeReviewer u p o before maker e
reviewer-made u p o before maker (entries.Assigned paper user kind ordinal) tells chair right phase member seat =
    let given = given-some (eqb paper p && is_number (Some u) user) (Some ordinal) (Some o) tells in
    let pair = pair-is paper p user u given.0 in
    let label : Some ordinal ≡ Some o = given.1 in (
      pair.0,
      pair.1,
      cc,
      administers-is before maker paper chair right,
      at_work-is before phase,
      and_not_from (has_part user paper before) (is_conflicted (Some user) paper before)
          (has_part-is before user paper member) seat.0,
    )
reviewer-made u p o before maker (entries.Unassigned paper user ordinal) tells chair right phase member seat =
    let given = given-some (eqb paper p && is_number (Some u) user) None (Some o) tells in
    let none : ◌≡◌ {A = Option ℕ} None (Some o) = given.1 in cc
reviewer-made u p o before maker (entries.Registered user name digest) tells chair right phase member seat = cc
reviewer-made u p o before maker e tells chair right phase member seat = cc

pub reviewers_came : ReviewersCame
reviewers_came u p o H legal reviews =
    let at = λ (e : Stamped). ordinal_told (Some u) p e.entry in
    let k : LastTold at H (Some o) =
    last-told at H (Some o)
    (told-else None (Some o) (last (all_told (ordinal_told (Some u) p) H)) reviews (λ none. cc)) in
    let order = in_order H k.before k.entry k.after legal k.there in
    record {
      before = k.before;
      entry = k.entry;
      after = k.after;
      there = k.there;
      made = reviewer-made u p o k.before k.entry.stamp.maker k.entry.entry k.tells order.chair order.right order.phase
          order.member order.seat;
      since = k.since;
    }

-- ---- externals

external-made : (u p : ℕ) (before : History) (maker : ℕ) (e : Entry) → last (invite_told (Some u) p e) ≡ Some true
    → IsByChair before maker e → IsByRight before maker e → IsInPhase before e → IsOfMember before e
    → IsSeated before maker e → MadeExternal u p before maker e
external-made u p before maker (entries.Invited paper user) tells chair right phase member seat =
    let given = given-some (eqb paper p && is_number (Some u) user) true true tells in
    let pair = pair-is paper p user u given.0 in (
      pair.0,
      pair.1,
      administers-is before maker paper chair right,
      at_work-is before phase,
      sym (member-same (role_of (Some user) before)) ∙ member,
      seat.0,
    )
external-made u p before maker (entries.Uninvited paper user) tells chair right phase member seat =
    let given = given-some (eqb paper p && is_number (Some u) user) false true tells in
    absurd (true≢false (sym given.1))
external-made u p before maker (entries.Registered user name digest) tells chair right phase member seat = cc
external-made u p before maker e tells chair right phase member seat = cc

pub externals_came : ExternalsCame
externals_came u p H legal invited =
    let at = λ (e : Stamped). invite_told (Some u) p e.entry in
    let k : LastTold at H true =
    last-told at H true
    (told-else false true (last (all_told (invite_told (Some u) p) H)) invited (λ none. true≢false (sym none))) in
    let order = in_order H k.before k.entry k.after legal k.there in
    record {
      before = k.before;
      entry = k.entry;
      after = k.after;
      there = k.there;
      made = external-made u p k.before k.entry.stamp.maker k.entry.entry k.tells order.chair order.right order.phase
          order.member order.seat;
      since = k.since;
    }

-- ---- conflicts

-- `b` is that the bidding has begun, `n` that it is the notification or later, `w` that the maker is an author, `s`
-- that she declares herself, `m` that she is a member, `c` a chair in no conflict
turned-is : (b n w s m c early work m' c' : Bool) → cond b ((s && (true && m)) || c) (w && true) ≡ true → n ≡ false
    → b ≡ not early → (b && not n) ≡ work → m ≡ m' → c ≡ c' → ((early && w) || (work && ((s && m') || c'))) ≡ true
turned-is b n w s m c true work m' c' h k eb ew em ec = grind (arith, h, k, eb, ew, em, ec)
turned-is b n w s m c false work m' c' h k eb ew em ec = grind (arith, h, k, eb, ew, em, ec)

conflict-made : (u p : ℕ) (before : History) (maker : ℕ) (e : Entry) → last (conflict_told (Some u) p e) ≡ Some true
    → IsByRight before maker e → IsInPhase before e → MadeConflicted u p before maker e
conflict-made u p before maker (entries.Conflict paper user on) tells right phase =
    let given = given-some (eqb paper p && is_number (Some u) user) on true tells in
    let pair = pair-is paper p user u given.0 in
    let a : Phase = phase_of before in
    let role : Role = role_of (Some maker) before in (
      pair.0,
      pair.1,
      given.1,
      turned-is (is_from Bidding a) (is_from Notification a) (is_author (Some maker) paper before) (eqb user maker)
          (is_member role) (is_chair role && not (is_conflicted (Some maker) paper before)) (before_bidding before)
          (committee_at_work before) (on_committee maker before) (administers maker paper before)
          (subst (λ b. IsTrue (may_turn before maker paper user b)) given.1 right) phase (begun-same a)
          (in_committee-same a) (member-same role)
          (ap (λ b. b && not (is_conflicted (Some maker) paper before)) (chair-same role)),
    )
conflict-made u p before maker (entries.Registered user name digest) tells right phase = cc
conflict-made u p before maker e tells right phase = cc

pub conflicts_came : ConflictsCame
conflicts_came u p H legal conflicted =
    let at = λ (e : Stamped). conflict_told (Some u) p e.entry in
    let k : LastTold at H true =
    last-told at H true
    (told-else false true (last (all_told (conflict_told (Some u) p) H)) conflicted (λ none. true≢false (sym none))) in
    let order = in_order H k.before k.entry k.after legal k.there in
    record {
      before = k.before;
      entry = k.entry;
      after = k.after;
      there = k.there;
      made = conflict-made u p k.before k.entry.stamp.maker k.entry.entry k.tells order.right order.phase;
      since = k.since;
    }

-- ---- accepted papers

accepted-made : (p : ℕ) (before : History) (maker : ℕ) (e : Entry) → last (decision_told p e) ≡ Some Accept
    → IsByChair before maker e → IsByRight before maker e → IsInPhase before e → MadeAccepted p before maker e
accepted-made p before maker (entries.Decided paper decision) tells chair right phase =
    let given = given-some (eqb paper p) decision Accept tells in (
      eqb-true paper p given.0,
      given.1,
      administers-is before maker paper chair right,
      now-is Discussion before phase,
    )
accepted-made p before maker (entries.Registered user name digest) tells chair right phase = cc
accepted-made p before maker e tells chair right phase = cc

pub accepted_came : AcceptedCame
accepted_came p H legal accepted =
    let counts = (and_parts (is_accept (decision_of p H) && not (is_withdrawn p H))
    (papers_may_be_accepted (phase_of H)) accepted).0 in
    by (decision_of p H) refl (and_parts (is_accept (decision_of p H)) (not (is_withdrawn p H)) counts).0
  where
    by : (o : Option Decision) → decision_of p H ≡ o → is_accept o ≡ true
        → Came H (MadeAccepted p) (λ after. all_told (decision_told p) after ≡ [])
    by None told is = absurd (true≢false (sym is))
    by (Some Reject) told is = absurd (true≢false (sym is))
    by (Some Accept) told is =
        let k : LastTold (λ (e : Stamped). decision_told p e.entry) H Accept =
        last-told (λ (e : Stamped). decision_told p e.entry) H Accept told in
        let order = in_order H k.before k.entry k.after legal k.there in
        record {
          before = k.before;
          entry = k.entry;
          after = k.after;
          there = k.there;
          made = accepted-made p k.before k.entry.stamp.maker k.entry.entry k.tells order.chair order.right order.phase;
          since = k.since;
        }
