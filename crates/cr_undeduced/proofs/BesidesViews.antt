-- SPDX-License-Identifier: Apache-2.0 OR MIT
-- Who is told of none of the entries that stand besides sees the same without them.
use Rattle.std.proofs.Common.{ℕ, Bool, true, false, ◌≡◌, List, [], ◌∷◌, ◌++◌, refl, sym, ap, subst, ◌∙◌, append_assoc}
use Rattle.std.proofs.Common.{append-nil, Option, Some, None, ◌||◌, ◌&&◌}
use Rattle.std.specs.Prelude.{not, IsFalse}
use Rattle.std.specs.List.{list_any, AllByRecursion}
use Rattle.std.proofs.lemmas.List.Concat.{flat_map-append}
use Rattle.cr_base.specs.declared.entry.Entry.{Entry}
use Rattle.cr_base.specs.declared.entry.Entry.TheVariants as entries
use Rattle.cr_base.specs.declared.entry.Stamped.{Stamped}
use Rattle.cr_base.specs.declared.words.Decision.{Decision}
use Rattle.cr_base.specs.History.{History, all_told, decision_told}
use Rattle.cr_base.specs.HistoryFacts.{phase_of, is_author, is_withdrawn, decision_of, is_accepted}
use Rattle.cr_base.specs.Lists.{given, is_number, is_nothing, last, last_from}
use Rattle.cr_base.specs.Phases.{papers_may_be_accepted}
use Rattle.cr_base.specs.Words.{is_accept}
use Rattle.cr_policy.specs.HiddenPayload.{AcceptedAlike}
use Rattle.cr_bounds.specs.ShownTo.{is_told, is_in_programme, is_on_committee, is_past_submission, is_past_reviewing}
use Rattle.cr_bounds.specs.ShownTo.{is_past_discussion, serves, is_eligible, oversees, discusses, has_conflict}
use Rattle.cr_bounds.specs.ShownTo.{reads_visiting, is_notified, chairs_committee, is_replaced, is_decided_again}
use Rattle.cr_bounds.specs.ShownTo.{is_committees, is_chairs}
use Rattle.cr_policy.specs.Triggers.{reader, Around}
use Rattle.cr_policy.specs.View.{sight, view, joined}
use Rattle.cr_bounds.proofs.BoundsParts.{IsWithin, seen-told}
use Rattle.cr_bounds.proofs.BoundsWords.{phase-words, accept-takes}
use Rattle.cr_policy.proofs.RemovedLaws.{removal}
use Rattle.cr_undeduced.specs.MayHaveBeen.{IsUnread, IsBeside, IsToldOfNone, BesidesUnseen}
use Rattle.cr_undeduced.proofs.BesidesFacts.{SameTold, besides-same, phase-also, role-also, authors-also, conflict-also}
use Rattle.cr_undeduced.proofs.BesidesFacts.{invited-also, withdrawn-also}

-- ---- who is told of such an entry

module _ (A B : History) (same : SameTold A B) (accepted : AcceptedAlike A B) (u : Option ℕ) where
  serves-also : serves u A ≡ serves u B
  serves-also = λ i. is_on_committee (role-also A B same u i) && is_past_submission (phase-also A B same i)

  author-also : (p : ℕ) → is_author u p A ≡ is_author u p B
  author-also p = λ i. list_any (is_number u) (authors-also A B same p i)

  in_conflict-also : (p : ℕ) → has_conflict u p A ≡ has_conflict u p B
  in_conflict-also p = λ i. author-also p i || conflict-also A B same u p i

  eligible-also : (p : ℕ) → is_eligible u p A ≡ is_eligible u p B
  eligible-also p = λ i. serves-also i && not (in_conflict-also p i)

  oversees-also : (p : ℕ) → oversees u p A ≡ oversees u p B
  oversees-also p = λ i. eligible-also p i && chairs_committee (role-also A B same u i)

  discusses-also : (p : ℕ) → discusses u p A ≡ discusses u p B
  discusses-also p = λ i. eligible-also p i && is_past_reviewing (phase-also A B same i)

  visiting-also : (p : ℕ) → reads_visiting u p A ≡ reads_visiting u p B
  visiting-also p =
      λ i. (not (is_on_committee (role-also A B same u i)) && invited-also A B same u p i)
      && not (in_conflict-also p i) && is_past_submission (phase-also A B same i)

  notified-also : (p : ℕ) → is_notified u p A ≡ is_notified u p B
  notified-also p = λ i. author-also p i && is_past_discussion (phase-also A B same i)

  programme : (H : History) (p : ℕ) → is_accepted p H ≡ is_in_programme p H
  programme H p =
      λ i. accept-takes (decision_of p H) i && not (is_withdrawn p H) && (phase-words (phase_of H)).notification i

  programme-also : (p : ℕ) → is_in_programme p A ≡ is_in_programme p B
  programme-also p = sym (programme A p) ∙ accepted p ∙ programme B p

  -- wherever it stands, where the same follows
  pub told-also : (before before' later : History) (maker : ℕ) (e : Entry) → IsUnread e
      → is_told u A before later maker e ≡ is_told u B before' later maker e
  told-also before before' later maker (entries.Revised paper title abstract) is =
      λ i. (is_number u maker || author-also paper i)
      || (not (is_replaced paper later) && (serves-also i || visiting-also paper i || programme-also paper i))
  told-also before before' later maker (entries.Bid paper value) is = λ i. is_number u maker || oversees-also paper i
  told-also before before' later maker (entries.Tagged paper tag on) is =
      λ i. is_number u maker
      || ((is_committees tag && eligible-also paper i) || (is_chairs tag && oversees-also paper i))
  told-also before before' later maker (entries.Decided paper decision) is =
      λ i. (is_number u maker || discusses-also paper i)
      || (not (is_decided_again paper later) && notified-also paper i)
      || (not (is_decided_again paper later) && programme-also paper i)
  told-also before before' later maker e is = absurd is

  none-also : (before before' besides after : History) → AllByRecursion IsBeside besides
      → IsToldOfNone u A before besides after → IsToldOfNone u B before' besides after
  none-also before before' [] after all none = tt
  none-also before before' (e ∷ besides) after all none = (
    sym (told-also before before' (besides ++ after) e.stamp.maker e.entry all.0.unread) ∙ none.0,
    none-also (before ++ e ∷ []) (before' ++ e ∷ []) besides after all.1 none.1,
  )

-- ---- one entry is taken out

-- it shows nothing
pub unseen-one : (u : Option ℕ) (before later : History) (e : Stamped) → IsUnread e.entry
    → IsFalse (is_told u (before ++ e ∷ later) before later e.stamp.maker e.entry)
    → sight (reader u (before ++ e ∷ later)) (record { before = before; after = later }) e ≡ []
unseen-one u before later e unread none =
    ap (λ b. given b (joined (reader u (before ++ e ∷ later)) at e))
    (seen-told u (before ++ e ∷ later) at e.stamp e.more e.entry (within e.entry unread) ∙ none)
  where
    at : Around
    at = record { before = before; after = later }

    within : (entry : Entry) → IsUnread entry
        → IsWithin (before ++ e ∷ later) (record { before = before; after = later }) entry
    within (entries.Reviewed paper ordinal version form) is = absurd is
    within (entries.Registered user name digest) is = absurd is
    within entry is = tt

-- ---- the same papers stay accepted

abbrev decisions : ℕ → History → List Decision
decisions p H = all_told (decision_told p) H

decisions-append : (p : ℕ) (H g : History) → decisions p (H ++ g) ≡ decisions p H ++ decisions p g
decisions-append p H g = flat_map-append (λ (e : Stamped). decision_told p e.entry) H g

nothing-left : {A : Type 0} (xs ys : List A) → is_nothing (xs ++ ys) ≡ true → ys ≡ []
nothing-left [] [] none = refl
nothing-left [] (y ∷ ys) none = cc
nothing-left (x ∷ xs) ys none = cc

-- behind some the last is one of these, whatever stood before
last-behind : {A : Type 0} (o o' : Option A) (xs xs' more : List A) → is_nothing more ≡ false
    → last_from o (xs ++ more) ≡ last_from o' (xs' ++ more)
last-behind o o' [] [] [] some = cc
last-behind o o' [] [] (y ∷ more) some = refl
last-behind o o' [] (x' ∷ xs') more some = last-behind o (Some x') [] xs' more some
last-behind o o' (x ∷ xs) xs' more some = last-behind (Some x) o' xs xs' more some

pub accepted-from : (A B : History) → SameTold A B → (p : ℕ) → decision_of p A ≡ decision_of p B
    → is_accepted p A ≡ is_accepted p B
accepted-from A B same p decided =
    λ i. is_accept (decided i) && not (withdrawn-also A B same p i) && papers_may_be_accepted (phase-also A B same i)

-- taking out the first of them leaves the papers accepted that are so with none of them
module _ (before besides after : History) (e : Stamped) (first : IsBeside e)
    (all : AllByRecursion IsBeside besides) where
  abbrev with_all : History
  with_all = (before ++ (e ∷ besides)) ++ after

  abbrev with_rest : History
  with_rest = (before ++ besides) ++ after

  same-rest : SameTold with_all with_rest
  same-rest X told silent =
      besides-same before (e ∷ besides) after (first, all) X told silent
      ∙ sym (besides-same before besides after all X told silent)

  same-none : SameTold with_rest (before ++ after)
  same-none = besides-same before besides after all

  accepted-rest : AcceptedAlike with_all (before ++ after) → AcceptedAlike with_all with_rest
  accepted-rest accepted p = by (is_nothing (decisions p (besides ++ after))) refl
    where
      later : History
      later = besides ++ after

      told_all : decisions p with_all ≡ (decisions p before ++ decision_told p e.entry) ++ decisions p later
      told_all =
          ap (decisions p) (append_assoc before (e ∷ besides) after)
          ∙ decisions-append p before (e ∷ later)
          ∙ sym (append_assoc (decisions p before) (decision_told p e.entry) (decisions p later))

      told_rest : decisions p with_rest ≡ decisions p before ++ decisions p later
      told_rest = ap (decisions p) (append_assoc before besides after) ∙ decisions-append p before later

      by : (b : Bool) → is_nothing (decisions p (besides ++ after)) ≡ b
          → is_accepted p with_all ≡ is_accepted p with_rest
      by true none =
          let left : decisions p after ≡ [] =
          nothing-left (decisions p besides) (decisions p after)
          (ap is_nothing (sym (decisions-append p besides after)) ∙ none) in
          let gone : decisions p besides ++ decisions p after ≡ [] = nothing-left [] _
          (ap is_nothing (sym (decisions-append p besides after)) ∙ none) in
          accepted p
          ∙ sym (accepted-from with_rest (before ++ after) same-none p
          (ap last (told_rest
          ∙ ap (λ ds. decisions p before ++ ds) (decisions-append p besides after ∙ gone ∙ sym left)
          ∙ sym (decisions-append p before after))))
      by false some =
          accepted-from with_all with_rest same-rest p
          (ap last told_all
          ∙ last-behind None None (decisions p before ++ decision_told p e.entry) (decisions p before)
          (decisions p later)
          some
          ∙ ap last (sym told_rest))

-- ---- all of them

pub besides_unseen : BesidesUnseen
besides_unseen u before [] after all none accepted =
    ap (λ (H : History). view u (H ++ after)) (sym (append-nil before))
besides_unseen u before (e ∷ besides) after all none accepted =
    besides_unseen u before besides after all.1
    (none-also whole rest (same-rest before besides after e all.0 all.1) alike u (before ++ e ∷ []) before besides after
    all.1 none.1)
    (λ p. sym (alike p) ∙ accepted p)
    ∙ ap (view u) (append_assoc before besides after)
    ∙ removal u before (besides ++ after) e
    (unseen-one u before (besides ++ after) e all.0.unread
    (subst (λ (H : History). IsFalse (is_told u H before (besides ++ after) e.stamp.maker e.entry)) split none.0))
    (λ p. ap (is_accepted p) (sym split) ∙ alike p ∙ ap (is_accepted p) (append_assoc before besides after))
    ∙ ap (view u) (sym split)
  where
    whole : History
    whole = (before ++ (e ∷ besides)) ++ after

    rest : History
    rest = (before ++ besides) ++ after

    split : whole ≡ before ++ e ∷ (besides ++ after)
    split = append_assoc before (e ∷ besides) after

    alike : AcceptedAlike whole rest
    alike = accepted-rest before besides after e all.0 all.1 accepted
