-- SPDX-License-Identifier: Apache-2.0 OR MIT
-- No rule reads what is filled in: the facts that judgement reads are those of the history before.
use Rattle.std.proofs.Common.{ℕ, Bool, true, false, ◌≡◌, ◌+◌, suc, List, [], ◌∷◌, ◌++◌, length, refl, sym, ap, ◌∙◌}
use Rattle.std.proofs.Common.{Option, Some, None, length-append}
use Rattle.std.specs.Prelude.{map, is_some, not}
use Rattle.cr_base.specs.declared.entry.Entry.{Entry}
use Rattle.cr_base.specs.declared.entry.Entry.TheVariants as entries
use Rattle.cr_base.specs.declared.entry.Stamped.{Stamped}
use Rattle.cr_base.specs.declared.words.Phase.{Phase}
use Rattle.cr_base.specs.declared.words.Phase.TheVariants.{Setup}
use Rattle.cr_base.specs.declared.words.Mode.TheVariants.{Blind}
use Rattle.cr_base.specs.declared.words.Role.TheVariants.{Account}
use Rattle.cr_base.specs.History.{History, Registration, all_told, all_told_by, phase_told, mode_told, deadline_told}
use Rattle.cr_base.specs.History.{paper_told, own_paper_told, author_told, conflict_told, ordinal_told, invite_told}
use Rattle.cr_base.specs.History.{assigned_told, form_told, own_form_told, comment_told, own_comment_told}
use Rattle.cr_base.specs.History.{response_told, upload_told, withdrawal_told, registration_told, role_told}
use Rattle.cr_base.specs.History.{decision_told}
use Rattle.cr_base.specs.HistoryFacts.{standing_of, deadline_of, accounts_of, papers_of, own_papers_of}
use Rattle.cr_base.specs.HistoryFacts.{authors_of, ordinal_of, seats_of, forms_of, own_forms_of, comments_of}
use Rattle.cr_base.specs.HistoryFacts.{own_comments_of, uploads_of, is_withdrawn, is_invited}
use Rattle.cr_base.specs.HistoryFacts.{phase_of, mode_of, role_of, is_conflict_on}
use Rattle.cr_base.specs.Lists.{given, is_number, is_nothing, last, last_or, last_from}
use Rattle.cr_base.specs.Tables.{Tables, tables_after, tables_from}
use Rattle.cr_base.specs.Words.{is_member}
use Rattle.cr_undeduced.specs.Payload.{Payload}
use Rattle.cr_undeduced.proofs.Fill.{fill, refilled}

-- ---- what is told place by place

module _ {A : Type 0} (told : ℕ → Entry → List A) where
  -- what is filled in tells nothing else
  abbrev pub Untouched : Type 0
  Untouched = (x : Payload) (m : ℕ) (e : Entry) → told m (fill x e) ≡ told m e

  pub told-refilled : Untouched → (xs : ℕ → Payload) (H : History)
      → all_told_by told (refilled xs H) ≡ all_told_by told H
  told-refilled each xs [] = refl
  told-refilled each xs (e ∷ H) =
      λ i. each (xs 0) e.stamp.maker e.entry i ++ told-refilled each (λ n. xs (suc n)) H i

  -- or as much
  abbrev pub AsMany : Type 0
  AsMany = (x : Payload) (m : ℕ) (e : Entry) → length (told m (fill x e)) ≡ length (told m e)

  pub count-refilled : AsMany → (xs : ℕ → Payload) (H : History)
      → length (all_told_by told (refilled xs H)) ≡ length (all_told_by told H)
  count-refilled each xs [] = refl
  count-refilled each xs (e ∷ H) =
      length-append (told e.stamp.maker (fill (xs 0) e.entry)) (all_told_by told (refilled (λ n. xs (suc n)) H))
      ∙ (λ i. each (xs 0) e.stamp.maker e.entry i + count-refilled each (λ n. xs (suc n)) H i)
      ∙ sym (length-append (told e.stamp.maker e.entry) (all_told_by told H))

-- ---- each fact, of one entry

phase-untouched : Untouched (λ m e. phase_told e)
phase-untouched x m (entries.PhaseSet phase) = refl
phase-untouched x m e = refl

mode-untouched : Untouched (λ m e. mode_told e)
mode-untouched x m (entries.ModeSet mode) = refl
mode-untouched x m e = refl

deadline-untouched : (phase : Phase) → Untouched (λ m e. deadline_told phase e)
deadline-untouched phase x m (entries.DeadlineSet set until) = refl
deadline-untouched phase x m e = refl

pub registration-untouched : Untouched (λ m e. registration_told e)
registration-untouched x m (entries.Registered user name digest) = refl
registration-untouched x m e = refl

role-untouched : (u : Option ℕ) → Untouched (λ m e. role_told u e)
role-untouched u x m (entries.Named user role) = refl
role-untouched u x m e = refl

paper-untouched : Untouched (λ m e. paper_told e)
paper-untouched x m (entries.Submitted paper title abstract) = refl
paper-untouched x m e = refl

own_paper-untouched : (u : Option ℕ) → Untouched (own_paper_told u)
own_paper-untouched u x m (entries.Submitted paper title abstract) = refl
own_paper-untouched u x m e = refl

author-untouched : (p : ℕ) → Untouched (author_told p)
author-untouched p x m (entries.Submitted paper title abstract) = refl
author-untouched p x m e = refl

conflict-untouched : (u : Option ℕ) (p : ℕ) → Untouched (λ m e. conflict_told u p e)
conflict-untouched u p x m (entries.Conflict paper user on) = refl
conflict-untouched u p x m e = refl

ordinal-untouched : (u : Option ℕ) (p : ℕ) → Untouched (λ m e. ordinal_told u p e)
ordinal-untouched u p x m (entries.Assigned paper user kind ordinal) = refl
ordinal-untouched u p x m e = refl

invite-untouched : (u : Option ℕ) (p : ℕ) → Untouched (λ m e. invite_told u p e)
invite-untouched u p x m (entries.Invited paper user) = refl
invite-untouched u p x m e = refl

withdrawal-untouched : (p : ℕ) → Untouched (λ m e. withdrawal_told p e)
withdrawal-untouched p x m (entries.Withdrawn paper) = refl
withdrawal-untouched p x m e = refl

own_comment-untouched : (u : Option ℕ) → Untouched (own_comment_told u)
own_comment-untouched u x m (entries.Commented paper n ordinal text) = refl
own_comment-untouched u x m e = refl

-- ---- and of some how many there are

given-many : {A : Type 0} (b : Bool) (x y : A) → length (given b x) ≡ length (given b y)
given-many true x y = refl
given-many false x y = refl

labels-many : (p : ℕ) → AsMany (λ m e. assigned_told p e)
labels-many p x m (entries.Assigned paper user kind ordinal) = given-many _ _ _
labels-many p x m e = refl

forms-many : (p o : ℕ) → AsMany (λ m e. form_told p o e)
forms-many p o x m (entries.Reviewed paper ordinal version form) = given-many _ _ _
forms-many p o x m e = refl

own_forms-many : (u : Option ℕ) (p : ℕ) → AsMany (own_form_told u p)
own_forms-many u p x m (entries.Reviewed paper ordinal version form) = given-many _ _ _
own_forms-many u p x m e = refl

comments-many : (p : ℕ) → AsMany (comment_told p)
comments-many p x m (entries.Commented paper n ordinal text) = given-many _ _ _
comments-many p x m e = refl

responses-many : (p : ℕ) → AsMany (λ m e. response_told p e)
responses-many p x m (entries.Responded paper text) = given-many _ _ _
responses-many p x m e = refl

uploads-many : (p : ℕ) → AsMany (λ m e. upload_told p e)
uploads-many p x m (entries.Uploaded paper version content) = given-many _ _ _
uploads-many p x m e = refl

decisions-many : (p : ℕ) → AsMany (λ m e. decision_told p e)
decisions-many p x m (entries.Decided paper decision) = given-many _ _ _
decisions-many p x m e = refl

-- ---- the facts of the history

module _ (xs : ℕ → Payload) (H : History) where
  abbrev H' : History
  H' = refilled xs H

  pub phase-refilled : phase_of H' ≡ phase_of H
  phase-refilled = ap (last_or Setup) (told-refilled (λ m e. phase_told e) phase-untouched xs H)

  pub role-refilled : (u : Option ℕ) → role_of u H' ≡ role_of u H
  role-refilled u = ap (last_or Account) (told-refilled (λ m e. role_told u e) (role-untouched u) xs H)

  pub authors-refilled : (p : ℕ) → authors_of p H' ≡ authors_of p H
  authors-refilled p = told-refilled (author_told p) (author-untouched p) xs H

  pub ordinal-refilled : (u : Option ℕ) (p : ℕ) → ordinal_of u p H' ≡ ordinal_of u p H
  ordinal-refilled u p = ap (last_or None) (told-refilled (λ m e. ordinal_told u p e) (ordinal-untouched u p) xs H)

  pub invited-refilled : (u : Option ℕ) (p : ℕ) → is_invited u p H' ≡ is_invited u p H
  invited-refilled u p = ap (last_or false) (told-refilled (λ m e. invite_told u p e) (invite-untouched u p) xs H)

  pub conflict-refilled : (u : Option ℕ) (p : ℕ) → is_conflict_on u p H' ≡ is_conflict_on u p H
  conflict-refilled u p =
      ap (last_or false) (told-refilled (λ m e. conflict_told u p e) (conflict-untouched u p) xs H)

  mode-refilled : mode_of H' ≡ mode_of H
  mode-refilled = ap (last_or Blind) (told-refilled (λ m e. mode_told e) mode-untouched xs H)

  pub standing-refilled : (u paper : Option ℕ) → standing_of u paper H' ≡ standing_of u paper H
  standing-refilled u None = λ i. record {
    phase = phase-refilled i;
    mode = mode-refilled i;
    role = role-refilled u i;
    author = false;
    conflicted = false;
    reviewer = false;
    external = false;
  }
  standing-refilled u (Some p) = λ i. record {
    phase = phase-refilled i;
    mode = mode-refilled i;
    role = role-refilled u i;
    author = Rattle.std.specs.List.list_any (is_number u) (authors-refilled p i);
    conflicted = Rattle.std.specs.Prelude.◌||◌ (Rattle.std.specs.List.list_any (is_number u) (authors-refilled p i))
        (conflict-refilled u p i);
    reviewer = is_some (ordinal-refilled u p i);
    external = Rattle.std.specs.Prelude.◌&&◌ (not (is_member (role-refilled u i))) (invited-refilled u p i);
  }

  pub registered-refilled : all_told registration_told H' ≡ all_told registration_told H
  registered-refilled = told-refilled (λ m e. registration_told e) registration-untouched xs H

  pub accounts-refilled : accounts_of H' ≡ accounts_of H
  accounts-refilled = λ i. map
      (λ (r : Registration). record { user = r.user; name = r.name; role = role-refilled (Some r.user) i })
      (registered-refilled i)

  pub papers-refilled : papers_of H' ≡ papers_of H
  papers-refilled = told-refilled (λ m e. paper_told e) paper-untouched xs H

  pub own_papers-refilled : (u : Option ℕ) → own_papers_of u H' ≡ own_papers_of u H
  own_papers-refilled u = ap length (told-refilled (own_paper_told u) (own_paper-untouched u) xs H)

  pub own_comments-refilled : (u : Option ℕ) → own_comments_of u H' ≡ own_comments_of u H
  own_comments-refilled u = ap length (told-refilled (own_comment_told u) (own_comment-untouched u) xs H)

  pub deadline-refilled : (phase : Phase) → deadline_of phase H' ≡ deadline_of phase H
  deadline-refilled phase =
      ap (last_or None) (told-refilled (λ m e. deadline_told phase e) (deadline-untouched phase) xs H)

  pub withdrawn-refilled : (p : ℕ) → is_withdrawn p H' ≡ is_withdrawn p H
  withdrawn-refilled p =
      ap (last_or false) (told-refilled (λ m e. withdrawal_told p e) (withdrawal-untouched p) xs H)

  pub labels-refilled : (p : ℕ) → length (seats_of p H') ≡ length (seats_of p H)
  labels-refilled p = count-refilled (λ m e. assigned_told p e) (labels-many p) xs H

  pub forms-refilled : (p o : ℕ) → length (forms_of p o H') ≡ length (forms_of p o H)
  forms-refilled p o = count-refilled (λ m e. form_told p o e) (forms-many p o) xs H

  pub own_forms-refilled : (u : Option ℕ) (p : ℕ) → length (own_forms_of u p H') ≡ length (own_forms_of u p H)
  own_forms-refilled u p = count-refilled (own_form_told u p) (own_forms-many u p) xs H

  pub comments-refilled : (p : ℕ) → length (comments_of p H') ≡ length (comments_of p H)
  comments-refilled p = count-refilled (comment_told p) (comments-many p) xs H

  pub responses-refilled : (p : ℕ)
      → length (all_told (response_told p) H') ≡ length (all_told (response_told p) H)
  responses-refilled p = count-refilled (λ m e. response_told p e) (responses-many p) xs H

  pub decisions-refilled : (p : ℕ)
      → length (all_told (decision_told p) H') ≡ length (all_told (decision_told p) H)
  decisions-refilled p = count-refilled (λ m e. decision_told p e) (decisions-many p) xs H

  pub uploads-refilled : (p : ℕ) → length (uploads_of p H') ≡ length (uploads_of p H)
  uploads-refilled p = count-refilled (λ m e. upload_told p e) (uploads-many p) xs H

-- whether there is one
pub nothing-many : {A B : Type 0} (xs : List A) (ys : List B) → length xs ≡ length ys → is_nothing xs ≡ is_nothing ys
nothing-many [] [] h = refl
nothing-many [] (y ∷ ys) h = cc
nothing-many (x ∷ xs) [] h = cc
nothing-many (x ∷ xs) (y ∷ ys) h = refl

last_from-some : {A : Type 0} (x : A) (xs : List A) → is_some (last_from (Some x) xs) ≡ true
last_from-some x [] = refl
last_from-some x (y ∷ xs) = last_from-some y xs

pub some-last : {A : Type 0} (xs : List A) → is_some (last xs) ≡ not (is_nothing xs)
some-last [] = refl
some-last (x ∷ xs) = last_from-some x xs

-- ---- conflicts, as the tables keep them

conflicts-after : (x : Payload) (s : Stamped) (t t' : Tables) → t'.ties.conflicts ≡ t.ties.conflicts
    → (tables_after t' (record { stamp = s.stamp; more = s.more; entry = fill x s.entry })).ties.conflicts
    ≡ (tables_after t s).ties.conflicts
conflicts-after x s t t' same = by s.entry
  where
    by : (e : Entry)
        → (tables_after t' (record { stamp = s.stamp; more = s.more; entry = fill x e })).ties.conflicts
        ≡ (tables_after t (record { stamp = s.stamp; more = s.more; entry = e })).ties.conflicts
    by (entries.Conflict paper user on) = ap (Rattle.cr_base.specs.Ties.switched on paper user) same
    by e = same

pub conflicts-refilled : (xs : ℕ → Payload) (t t' : Tables) (H : History) → t'.ties.conflicts ≡ t.ties.conflicts
    → (tables_from t' (refilled xs H)).ties.conflicts ≡ (tables_from t H).ties.conflicts
conflicts-refilled xs t t' [] same = same
conflicts-refilled xs t t' (e ∷ H) same =
    conflicts-refilled (λ n. xs (suc n)) (tables_after t e)
    (tables_after t' (record { stamp = e.stamp; more = e.more; entry = fill (xs 0) e.entry })) H
    (conflicts-after (xs 0) e t t' same)
