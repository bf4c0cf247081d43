-- SPDX-License-Identifier: Apache-2.0 OR MIT
-- The parts of a legal history's entries are within the bounds of commands, so what mixes them with other parts that
-- are so is within these.
use Rattle.std.proofs.Common.{ℕ, Bool, true, false, ◌≡◌, suc, zero, List, [], ◌∷◌, ◌++◌, length, refl, sym, subst}
use Rattle.std.proofs.Common.{arith, Some, Result, Ok, Err, ◌+◌, ◌≤◌}
use Rattle.std.specs.Prelude.{map}
use Rattle.std.specs.List.{AllByRecursion}
use Rattle.cr_base.specs.declared.bulk.Broken.{Broken}
use Rattle.cr_base.specs.declared.bulk.BulkRow.{BulkRow}
use Rattle.cr_base.specs.declared.entry.Entry.{Entry}
use Rattle.cr_base.specs.declared.entry.Entry.TheVariants as entries
use Rattle.cr_base.specs.declared.entry.Stamp.{Stamp}
use Rattle.cr_base.specs.declared.entry.Stamped.{Stamped}
use Rattle.cr_base.specs.declared.form.Form.{Form}
use Rattle.cr_base.specs.declared.reply.Rule.{Rule}
use Rattle.cr_base.specs.Bounds.{IsGrade, IsForm}
use Rattle.cr_base.specs.Drawn.{Drawn, stamped, grouped, besides}
use Rattle.cr_base.specs.History.{History}
use Rattle.cr_base.specs.Keys.{IsKeyOrNone}
use Rattle.cr_base.specs.Moments.{IsMoment}
use Rattle.cr_base.specs.TagTexts.{is_tag}
use Rattle.cr_base.specs.Texts.{IsTitle, IsAbstract, IsContent, IsReviewText, IsCommentText}
use Rattle.cr_history.specs.Groups.{HasTexts, Adds, single, submitted, first_user, Grows, adds, goes_on}
use Rattle.cr_policy.specs.Judge.{judge, judge_bulk}
use Rattle.cr_policy.specs.Legal.{Move, calls, bulks, IsMoveAllowed, moved, LeadsTo, Legal, followed_by}
use Rattle.cr_policy.specs.View.{view}
use Rattle.cr_policy.proofs.AcceptedLaws.{accepted-adds}
use Rattle.cr_policy.proofs.BulkLaws.{seen, IsReady, AreAccepted, rows-accepted, no_rows, next-ready, BulkDraws}
use Rattle.cr_policy.proofs.BulkLaws.{bulk-draws}
use Rattle.cr_policy.proofs.LegalLaws.{Legal-moved, legal_invariants, given-bounded}
use Rattle.cr_undeduced.specs.Payload.{Payload, IsBoundedPayload, IsNoLonger, NoneLonger, Known, own_if}
use Rattle.cr_undeduced.specs.Undeducible.{Looking, past_one, known_of}
use Rattle.cr_undeduced.proofs.Fill.{mixed, mixed_behind}

-- ---- texts of a legal history

abbrev pub AllHaveTexts : History → Type 0
AllHaveTexts H = AllByRecursion (λ (e : Stamped). HasTexts e.entry) H

texts-append : (H g : History) → AllHaveTexts H → AllHaveTexts g → AllHaveTexts (H ++ g)
texts-append [] g all more = more
texts-append (e ∷ H) g all more = (all.0, texts-append H g all.1 more)

coauthor-texts : (stamp : Stamp) (paper : ℕ) (users : List ℕ)
    → AllHaveTexts (grouped stamp (map (λ (user : ℕ). entries.Coauthor paper user) users))
coauthor-texts stamp paper [] = tt
coauthor-texts stamp paper (u ∷ []) = (tt, tt)
coauthor-texts stamp paper (u ∷ v ∷ users) = (tt, coauthor-texts stamp paper (v ∷ users))

submission-texts : (stamp : Stamp) (e : Entry) (paper : ℕ) (users : List ℕ) → HasTexts e
    → AllHaveTexts (grouped stamp (e ∷ map (λ (user : ℕ). entries.Coauthor paper user) users))
submission-texts stamp e paper [] texts = (texts, tt)
submission-texts stamp e paper (u ∷ users) texts = (texts, coauthor-texts stamp paper (u ∷ users))

added-texts : (H g : History) → Adds H g → AllHaveTexts g
added-texts H g (single stamp e bounds made alone ruled) = (ruled.texts, tt)
added-texts H g (submitted stamp paper title abstract users bounds made ruled registered) =
    submission-texts stamp (entries.Submitted paper title abstract) paper (besides (stamp.maker ∷ []) users) ruled.texts
added-texts H g (first_user stamp name digest bounds is texts) = (texts, (tt, tt))

grown-texts : (H g : History) → Grows H g → AllHaveTexts g
grown-texts H g (adds g' added) = added-texts H g' added
grown-texts H g (goes_on stamp e bounds made row ruled) = (ruled.texts, tt)

module _ (stamp : Stamp) where
  rows-texts : (rows : List BulkRow) (n : ℕ) (H : History) (es : List Entry) → IsReady stamp H
      → seen stamp H n rows ≡ Ok es → AllByRecursion HasTexts es
  rows-texts [] n H es ready accepted = subst (AllByRecursion HasTexts) (no_rows stamp es accepted) tt
  rows-texts (row ∷ rows) n H es ready accepted =
      let all : AreAccepted stamp H n row rows es = rows-accepted stamp H n row rows es ready accepted in
      subst (AllByRecursion HasTexts) (sym all.all) (
        (grown-texts H _ (all.first.grows true)).0,
        rows-texts rows (n + 1) (H ++ stamped stamp true all.first.entry ∷ []) all.more
            (next-ready stamp H all.drawn ready all.first true) (all.rest true),
      )

  group-texts : (es : List Entry) → AllByRecursion HasTexts es → AllHaveTexts (grouped stamp es)
  group-texts [] all = tt
  group-texts (e ∷ []) all = (all.0, tt)
  group-texts (e ∷ next ∷ es) all = (all.0, group-texts (next ∷ es) all.1)

move-texts : (H : History) (move : Move) → Legal H → IsMoveAllowed H move → AllHaveTexts H → AllHaveTexts (moved H move)
move-texts H (calls call) legal allowed all = by (judge (view call.caller H) call) refl
  where
    by : (r : Result Drawn Rule) → judge (view call.caller H) call ≡ r → AllHaveTexts (followed_by H r)
    by (Err rule) is = all
    by (Ok drawn) is =
        texts-append H drawn.group all
        (added-texts H drawn.group (accepted-adds H call drawn allowed.given is))
move-texts H (bulks bulk) legal allowed all = by (judge_bulk (view (Some bulk.stamp.maker) H) bulk) refl
  where
    ready : IsReady bulk.stamp H
    ready = record {
      kept = legal_invariants H legal;
      registered = allowed.given.caller;
      bounds = given-bounded H bulk allowed.given;
    }

    by : (r : Result Drawn Broken) → judge_bulk (view (Some bulk.stamp.maker) H) bulk ≡ r
        → AllHaveTexts (followed_by H r)
    by (Err refusal) is = all
    by (Ok drawn) is =
        let draws : BulkDraws bulk.stamp H bulk.rows drawn = bulk-draws bulk.stamp H bulk.rows drawn is in
        texts-append H drawn.group all
        (subst (λ (d : Drawn). AllHaveTexts d.group) draws.drawn_is
        (group-texts bulk.stamp draws.entries (rows-texts bulk.stamp bulk.rows 1 H draws.entries ready draws.accepted)))

lead-texts : (from to : History) (moves : List Move) → Legal from → AllHaveTexts from → LeadsTo from moves to
    → AllHaveTexts to
lead-texts from to [] legal all leads = subst AllHaveTexts leads all
lead-texts from to (move ∷ moves) legal all leads =
    lead-texts (moved from move) to moves (Legal-moved from move legal leads.0)
    (move-texts from move legal leads.0 all) leads.1

pub legal-texts : (H : History) → Legal H → AllHaveTexts H
legal-texts H legal = lead-texts [] H legal.0 ([], refl) tt legal.1

-- ---- mixed with others

-- either of two that are so is
either : {A : Type 0} (P : A → Type 0) (known : Bool) (own other : A) → P own → P other → P (own_if known own other)
either P true own other p q = p
either P false own other p q = q

all-bounded : (x : Payload) → length x.digest ≡ 32 → IsTitle x.title → IsAbstract x.abstract_ → IsContent x.content
    → x.value ≤ 40 → IsForm x.form → IsCommentText x.text → is_tag x.tag ≡ true → IsMoment x.at → IsKeyOrNone x.key
    → IsBoundedPayload x
all-bounded x digest title abstract content value form text tag moment key = record {
  digest = digest;
  title = title;
  abstract_ = abstract;
  content = content;
  value = value;
  form = form;
  text = text;
  tag = tag;
  moment = moment;
  key = key;
}

form-mixed : (known : Known) (own other : Form) → IsForm own → IsForm other → IsForm (record {
  score = own_if known.score own.score other.score;
  confidence = own_if known.confidence own.confidence other.confidence;
  to_authors = own_if known.to_authors own.to_authors other.to_authors;
  to_pc = own_if known.to_pc own.to_pc other.to_pc;
})
form-mixed known own other is is' = record {
  score = either IsGrade known.score own.score other.score is.score is'.score;
  confidence = either IsGrade known.confidence own.confidence other.confidence is.confidence is'.confidence;
  to_authors =
      either IsReviewText known.to_authors own.to_authors other.to_authors is.to_authors is'.to_authors;
  to_pc = either IsReviewText known.to_pc own.to_pc other.to_pc is.to_pc is'.to_pc;
}

mixed-bounded : (known : Known) (e : Entry) (x : Payload) → HasTexts e → IsBoundedPayload x
    → IsBoundedPayload (mixed known e x)
mixed-bounded known (entries.Registered user name digest) x texts bounded =
    all-bounded (mixed known (entries.Registered user name digest) x)
    (either (λ (d : List ℕ). length d ≡ 32) known.digest digest x.digest texts.1 bounded.digest) bounded.title
    bounded.abstract_ bounded.content bounded.value bounded.form bounded.text bounded.tag bounded.moment bounded.key
mixed-bounded known (entries.Submitted paper title abstract) x texts bounded =
    all-bounded (mixed known (entries.Submitted paper title abstract) x)
    bounded.digest (either IsTitle known.title title x.title texts.0 bounded.title)
    (either IsAbstract known.abstract_ abstract x.abstract_ texts.1 bounded.abstract_) bounded.content
    bounded.value bounded.form bounded.text bounded.tag bounded.moment bounded.key
mixed-bounded known (entries.Revised paper title abstract) x texts bounded =
    all-bounded (mixed known (entries.Revised paper title abstract) x)
    bounded.digest (either IsTitle known.title title x.title texts.0 bounded.title)
    (either IsAbstract known.abstract_ abstract x.abstract_ texts.1 bounded.abstract_) bounded.content
    bounded.value bounded.form bounded.text bounded.tag bounded.moment bounded.key
mixed-bounded known (entries.Uploaded paper version content) x texts bounded =
    all-bounded (mixed known (entries.Uploaded paper version content) x)
    bounded.digest bounded.title bounded.abstract_
    (either (λ (c : List ℕ). IsContent c) known.content content x.content texts bounded.content) bounded.value
    bounded.form bounded.text bounded.tag bounded.moment bounded.key
mixed-bounded known (entries.Bid paper value) x texts bounded =
    all-bounded (mixed known (entries.Bid paper value) x)
    bounded.digest bounded.title bounded.abstract_ bounded.content
    (either (λ n. n ≤ 40) known.value value x.value texts bounded.value) bounded.form bounded.text bounded.tag
    bounded.moment bounded.key
mixed-bounded known (entries.Assigned paper user review_kind ordinal) x texts bounded =
    all-bounded (mixed known (entries.Assigned paper user review_kind ordinal) x)
    bounded.digest bounded.title bounded.abstract_ bounded.content bounded.value bounded.form bounded.text
    bounded.tag bounded.moment bounded.key
mixed-bounded known (entries.Reviewed paper ordinal version form) x texts bounded =
    all-bounded (mixed known (entries.Reviewed paper ordinal version form) x)
    bounded.digest bounded.title bounded.abstract_ bounded.content bounded.value
    (form-mixed known form x.form texts bounded.form) bounded.text bounded.tag bounded.moment bounded.key
mixed-bounded known (entries.Commented paper n ordinal text) x texts bounded =
    all-bounded (mixed known (entries.Commented paper n ordinal text) x)
    bounded.digest bounded.title bounded.abstract_ bounded.content bounded.value bounded.form
    (either IsCommentText known.text text x.text texts bounded.text) bounded.tag bounded.moment bounded.key
mixed-bounded known (entries.Tagged paper tag on) x texts bounded =
    all-bounded (mixed known (entries.Tagged paper tag on) x)
    bounded.digest bounded.title bounded.abstract_ bounded.content bounded.value bounded.form bounded.text
    (either (λ (t : List ℕ). is_tag t ≡ true) known.tag tag x.tag texts bounded.tag) bounded.moment bounded.key
mixed-bounded known (entries.Decided paper decision) x texts bounded =
    all-bounded (mixed known (entries.Decided paper decision) x)
    bounded.digest bounded.title bounded.abstract_ bounded.content bounded.value bounded.form bounded.text
    bounded.tag bounded.moment bounded.key
mixed-bounded known (entries.Responded paper text) x texts bounded =
    all-bounded (mixed known (entries.Responded paper text) x)
    bounded.digest bounded.title bounded.abstract_ bounded.content bounded.value bounded.form
    (either IsCommentText known.text text x.text texts bounded.text) bounded.tag bounded.moment bounded.key
mixed-bounded known e x texts bounded = bounded

pub mixed_behind-bounded : (looks : List Looking) (before : History) (xs : ℕ → Payload) (H : History)
    → AllHaveTexts H → ((n : ℕ) → IsBoundedPayload (xs n)) → (n : ℕ)
    → IsBoundedPayload (mixed_behind looks before xs H n)
mixed_behind-bounded looks before xs [] texts bounded n = bounded n
mixed_behind-bounded looks before xs (e ∷ later) texts bounded zero =
    mixed-bounded (known_of looks before e) e.entry (xs 0) texts.0 (bounded 0)
mixed_behind-bounded looks before xs (e ∷ later) texts bounded (suc n) =
    mixed_behind-bounded (map past_one looks) (before ++ e ∷ []) (λ n. xs (suc n)) later texts.1
    (λ n. bounded (suc n)) n

-- a content is its own, or one that is no longer
mixed-no_longer : (known : Known) (e : Entry) (x : Payload) → IsNoLonger x e → IsNoLonger (mixed known e x) e
mixed-no_longer known (entries.Uploaded paper version content) x shorter =
    either (λ (c : List ℕ). length c ≤ length content) known.content content x.content (omega arith) shorter
mixed-no_longer known (entries.Registered user name digest) x shorter = tt
mixed-no_longer known e x shorter = tt

pub mixed-shorter : (looks : List Looking) (before : History) (xs : ℕ → Payload) (H : History) → NoneLonger xs H
    → NoneLonger (mixed_behind looks before xs H) H
mixed-shorter looks before xs [] shorter = tt
mixed-shorter looks before xs (e ∷ later) shorter = (
  mixed-no_longer (known_of looks before e) e.entry (xs 0) shorter.0,
  mixed-shorter (map past_one looks) (before ++ e ∷ []) (λ n. xs (suc n)) later shorter.1,
)
