-- SPDX-License-Identifier: Apache-2.0 OR MIT
-- What each entry shows of one fact: one lemma a fact, one line a kind of entry that tells of it.
use Rattle.std.proofs.Common.{◌≡◌, ℕ, Bool, true, false, List, [], ◌∷◌, length, refl, sym, ap, ◌∙◌, ◌||◌, ◌&&◌, Option}
use Rattle.std.proofs.Common.{Some, append-nil, eqb, arith}
use Rattle.std.specs.Prelude.{map}
use Rattle.std.specs.List.{flat_map}
use Rattle.std.specs.Str.{bytes_eq}
use Rattle.std.proofs.lemmas.Bool.{eqb-true, or_parts, and_parts, or_left, or_right, true≢false}
use Rattle.std.proofs.lemmas.List.Folds.{list_any-append}
use Rattle.cr_base.specs.declared.entry.Entry.{Entry}
use Rattle.cr_base.specs.declared.entry.Entry.TheVariants.{Registered, Named, Dismissed, PhaseSet, ModeSet, Submitted}
use Rattle.cr_base.specs.declared.entry.Entry.TheVariants.{Coauthor, Revised, Uploaded, Withdrawn, Conflict, Commented}
use Rattle.cr_base.specs.declared.entry.Entry.TheVariants.{DeadlineSet}
use Rattle.cr_base.specs.declared.entry.Stamp.{Stamp}
use Rattle.cr_base.specs.declared.entry.Stamped.{Stamped}
use Rattle.cr_base.specs.Lists.{given, listed, is_number}
use Rattle.cr_base.specs.Drawn.{stamped}
use Rattle.cr_base.specs.declared.words.Phase.{Phase}
use Rattle.cr_base.specs.declared.words.Role.TheVariants.{Account}
use Rattle.cr_base.specs.History.{phase_told, mode_told, deadline_given, deadline_told, paper_told, own_paper_told}
use Rattle.cr_base.specs.History.{own_bytes_told, own_comment_told, author_told, conflict_told, title_told}
use Rattle.cr_base.specs.History.{abstract_told, upload_told, withdrawal_told, registration_told, role_told}
use Rattle.cr_base.specs.History.{number_told}
use Rattle.cr_policy.specs.Part as part
use Rattle.cr_policy.specs.Part.{Part, own_parts}
use Rattle.cr_policy.specs.Sighting.{Sighting, where_shown}
use Rattle.cr_policy.specs.Triggers.{Reader, Around, TriggerRow, position_of, rows, ◌see◌, applies_any, shows}
use Rattle.cr_policy.specs.View.{sight, is_seen, joined, rows_at}
use Rattle.cr_policy.specs.ViewFacts.{only, is_user, phase_seen, mode_seen, deadline_seen, paper_seen, own_paper_seen}
use Rattle.cr_policy.specs.ViewFacts.{author_seen, conflict_seen, title_seen, abstract_seen, upload_shown, upload_seen}
use Rattle.cr_policy.specs.ViewFacts.{own_bytes_seen, own_comment_seen, withdrawal_seen, registration_seen, role_seen}
use Rattle.cr_policy.specs.ViewFacts.{number_seen}
use Rattle.cr_policy.proofs.Walk.{only-true, only-false, flat_map-given, Tells, TellsAll}

-- whether a part of an entry is shown
abbrev pub passes : Part → Reader → Around → Stamped → Bool
passes p r at e = shows (rows_at r at e) p

-- whether two are
abbrev pub passes_both : Part → Part → Reader → Around → Stamped → Bool
passes_both p q r at e = passes p r at e && passes q r at e

-- the part that names the author whom an entry gives a paper: who made a submission, or else the user
abbrev pub author_part : Entry → Part
author_part (Coauthor paper user) = part.user
author_part _ = part.by

-- whether it is shown
abbrev pub names_author : Reader → Around → Stamped → Bool
names_author r at e = passes (author_part e.entry) r at e

-- what is told of a paper, where it is shown
pub paper_value : {A : Type 0} (a c : Bool) (x : A) → only a (listed (where_shown c (Some x))) ≡ only c (given a x)
paper_value true true x = refl
paper_value true false x = refl
paper_value false true x = refl
paper_value false false x = refl

-- what is uploaded to a paper, where it is shown: its number and its content are shown together
upload_pair : (a c : Bool) (version : ℕ) (content : List ℕ)
    → only a (upload_shown (where_shown c (Some version)) (where_shown c (Some content)))
    ≡ only c (given a (record { version = version; content = content }))
upload_pair true true version content = refl
upload_pair true false version content = refl
upload_pair false true version content = refl
upload_pair false false version content = refl

-- what the reader's own entry tells of a paper, or of nothing but herself: where it is hers it is shown her whole
pub own_value : {A : Type 0} (seen same own : Bool) (x : A) (shown : List A) → (own ≡ true → shown ≡ x ∷ [])
    → (own ≡ true → seen ≡ true)
    → only seen (only (same && own) shown) ≡ given (same && own) x
own_value seen same true x shown is hers =
    ap (λ b. only b (only (same && true) shown)) (hers refl)
    ∙ ap (λ xs. only true (only (same && true) xs)) (is refl)
    ∙ by (same && true)
  where
    by : (b : Bool) → only true (only b (x ∷ [])) ≡ given b x
    by true = refl
    by false = refl
own_value seen true false x shown is hers = ap (only seen) (only-false shown)
own_value seen false false x shown is hers = ap (only seen) (only-false shown)

-- what is told of a user and a paper, where the user (c) and the value (d) are shown
pub pair_value : {A : Type 0} (a c d : Bool) (u : Option ℕ) (v : ℕ) (x : A) (shown : Bool → List A)
    → shown true ≡ x ∷ [] → shown false ≡ []
    → only (a && is_user u (where_shown c (Some v))) (shown d) ≡ only (c && d) (given (a && is_number u v) x)
pair_value a true true u v x shown is none = ap (only (a && is_number u v)) is ∙ by (a && is_number u v)
  where
    by : (b : Bool) → only b (x ∷ []) ≡ only true (given b x)
    by true = refl
    by false = refl
pair_value a true false u v x shown is none =
    ap (only (a && is_number u v)) none ∙ sym (only-false (given (a && is_number u v) x))
pair_value true false d u v x shown is none = only-false (shown d) ∙ sym (only-false (given (is_number u v) x))
pair_value false false d u v x shown is none = only-false (shown d)

-- the same, where both are shown together
user_value : {A : Type 0} (a c : Bool) (u : Option ℕ) (v : ℕ) (x : A)
    → only (a && is_user u (where_shown c (Some v))) (listed (where_shown c (Some x)))
    ≡ only c (given (a && is_number u v) x)
user_value a c u v x =
    pair_value a c c u v x (λ b. listed (where_shown b (Some x))) refl refl
    ∙ ap (λ b. only b (given (a && is_number u v) x)) (twice c)
  where
    twice : (c : Bool) → (c && c) ≡ c
    twice true = refl
    twice false = refl

-- where no row applies, none shows a part
hidden : (rows : List TriggerRow) (p : Part) → applies_any rows ≡ false → shows rows p ≡ false
hidden [] p h = refl
hidden (row ∷ rows) p h =
    let parts = or_parts row.applies (applies_any rows) h in
    neither (row.parts p) row.applies (shows rows p) parts.0 (hidden rows p parts.1)
  where
    neither : (n a rest : Bool) → a ≡ false → rest ≡ false → ((n && a) || rest) ≡ false
    neither n a rest ha hr = grind arith

-- a part that is shown is one of an entry that is seen
pub seen_where : (r : Reader) (at : Around) (p : Part) (e : Stamped) → passes p r at e ≡ true → is_seen r at e ≡ true
seen_where r at p e h = by (is_seen r at e) refl
  where
    by : (b : Bool) → is_seen r at e ≡ b → b ≡ true
    by true is = refl
    by false is = absurd (true≢false (sym h ∙ hidden (rows_at r at e) p is))

-- what the reader made is seen, whatever the other rows say
pub own_seen : (r : Reader) (at : Around) (stamp : Stamp) (more : Bool) (e : Entry)
    → is_number r.number stamp.maker ≡ true
    → is_seen r at (stamped stamp more e) ≡ true
own_seen r at stamp more e own =
    let others : List TriggerRow = rows r (position_of at e) stamp.maker e in
    list_any-append (λ (row : TriggerRow). row.applies) others (is_number r.number stamp.maker see own_parts ∷ [])
    ∙ or_right (applies_any others) _ (or_left (is_number r.number stamp.maker) false own)

module _ (r : Reader) (at : Around) (stamp : Stamp) (more : Bool) where
  -- a sighting that tells nothing tells nothing, whether it is there or not
  pub silent : {A : Type 0} (f : Sighting → List A) (e : Entry) → f (joined r at (stamped stamp more e)) ≡ []
      → flat_map f (sight r at (stamped stamp more e)) ≡ []
  silent f e h = flat_map-given f (is_seen r at (stamped stamp more e)) (joined r at (stamped stamp more e))
      ∙ ap (only (is_seen r at (stamped stamp more e))) h

  -- what a sighting tells where this holds, of an entry that may show nothing: it doesn't hold then
  pub told_if : {A : Type 0} (f : Sighting → List A) (c : Bool) (e : Entry) (xs : List A)
      → (is_seen r at (stamped stamp more e) ≡ false → c ≡ false)
      → f (joined r at (stamped stamp more e)) ≡ only c xs → flat_map f (sight r at (stamped stamp more e)) ≡ only c xs
  told_if {A} f c e xs none h =
      flat_map-given f (is_seen r at (stamped stamp more e)) (joined r at (stamped stamp more e))
      ∙ ap (only (is_seen r at (stamped stamp more e))) h
      ∙ by (is_seen r at (stamped stamp more e)) c none
    where
      by : (seen c : Bool) → (seen ≡ false → c ≡ false) → only seen (only c xs) ≡ only c xs
      by true c none = only-true (only c xs)
      by false c none = only-false (only c xs) ∙ sym (ap (λ b. only b xs) (none refl) ∙ only-false xs)

  -- the same where a part is shown
  pub told_where : {A : Type 0} (f : Sighting → List A) (p : Part) (e : Entry) (xs : List A)
      → f (joined r at (stamped stamp more e)) ≡ only (passes p r at (stamped stamp more e)) xs
      → flat_map f (sight r at (stamped stamp more e)) ≡ only (passes p r at (stamped stamp more e)) xs
  told_where f p e xs h =
      told_if f (passes p r at (stamped stamp more e)) e xs (hidden (rows_at r at (stamped stamp more e)) p) h

  -- and where two are
  pub told_both : {A : Type 0} (f : Sighting → List A) (p q : Part) (e : Entry) (xs : List A)
      → f (joined r at (stamped stamp more e)) ≡ only (passes_both p q r at (stamped stamp more e)) xs
      → flat_map f (sight r at (stamped stamp more e)) ≡ only (passes_both p q r at (stamped stamp more e)) xs
  told_both f p q e xs h =
      told_if f (passes_both p q r at (stamped stamp more e)) e xs
      (λ none. ap (λ b. b && passes q r at (stamped stamp more e))
      (hidden (rows_at r at (stamped stamp more e)) p none)) h

  -- ---- what everyone is shown

  phase_at : (e : Entry) → flat_map phase_seen (sight r at (stamped stamp more e)) ≡ phase_told e
  phase_at (PhaseSet phase) = refl
  phase_at e = silent phase_seen e refl

  mode_at : (e : Entry) → flat_map mode_seen (sight r at (stamped stamp more e)) ≡ mode_told e
  mode_at (ModeSet mode) = refl
  mode_at e = silent mode_seen e refl

  deadline_at : (phase : Phase) (e : Entry)
      → flat_map (deadline_seen phase) (sight r at (stamped stamp more e)) ≡ deadline_told phase e
  deadline_at phase (DeadlineSet set until) = append-nil (deadline_given phase set until)
  deadline_at phase e = silent (deadline_seen phase) e refl

  paper_at : (e : Entry) → flat_map paper_seen (sight r at (stamped stamp more e)) ≡ paper_told e
  paper_at (Submitted paper title abstract) = refl
  paper_at e = silent paper_seen e refl

  registration_at : (e : Entry) → flat_map registration_seen (sight r at (stamped stamp more e)) ≡ registration_told e
  registration_at (Registered user name digest) = refl
  registration_at e = silent registration_seen e refl

  role_at : (u : Option ℕ) (e : Entry) → flat_map (role_seen u) (sight r at (stamped stamp more e)) ≡ role_told u e
  role_at u (Named user role) = append-nil (given (is_number u user) role)
  role_at u (Dismissed user) = append-nil (given (is_number u user) Account)
  role_at u e = silent (role_seen u) e refl

  number_at : (name : List ℕ) (e : Entry) → flat_map (number_seen name) (sight r at (stamped stamp more e))
      ≡ number_told name e
  number_at name (Registered user name' digest) = append-nil (given (bytes_eq name' name) user)
  number_at name e = silent (number_seen name) e refl

  -- ---- what the maker is shown

  own_paper_at : (e : Entry) → flat_map own_paper_seen (sight r at (stamped stamp more e)) ≡ own_paper_told r.number
      stamp.maker e
  own_paper_at (Submitted paper title abstract) = append-nil (given (is_number r.number stamp.maker) paper)
  own_paper_at e = silent own_paper_seen e refl

  own_bytes_at : (e : Entry) → flat_map own_bytes_seen (sight r at (stamped stamp more e)) ≡ own_bytes_told r.number
      stamp.maker e
  own_bytes_at (Uploaded paper version content) =
      flat_map-given own_bytes_seen (is_seen r at (stamped stamp more (Uploaded paper version content)))
      (joined r at (stamped stamp more (Uploaded paper version content)))
      ∙ own_value (is_seen r at (stamped stamp more (Uploaded paper version content))) true
      (is_number r.number stamp.maker) (length content) _
      (λ own. ap (λ b. map length (listed (where_shown b (Some content)))) (hers own)) hers
    where
      hers : is_number r.number stamp.maker ≡ true
          → is_seen r at (stamped stamp more (Uploaded paper version content)) ≡ true
      hers own = own_seen r at stamp more (Uploaded paper version content) own
  own_bytes_at e = silent own_bytes_seen e refl

  own_comment_at : (e : Entry) → flat_map own_comment_seen (sight r at (stamped stamp more e))
      ≡ own_comment_told r.number stamp.maker e
  own_comment_at (Commented paper n ordinal text) =
      flat_map-given own_comment_seen (is_seen r at e) (joined r at e)
      ∙ own_value (is_seen r at e) true (is_number r.number stamp.maker) n _
      (λ own. ap (λ b. listed (where_shown b (Some n))) (numbered own)) (λ own. seen_where r at part.n e (numbered own))
    where
      e : Stamped
      e = stamped stamp more (Commented paper n ordinal text)

      numbered : is_number r.number stamp.maker ≡ true → passes part.n r at e ≡ true
      numbered own = or_right _ _ (or_left (is_number r.number stamp.maker) false own)
  own_comment_at e = silent own_comment_seen e refl

  -- ---- what is shown to some

  author_at : (p : ℕ) (e : Entry) → flat_map (author_seen p) (sight r at (stamped stamp more e))
      ≡ only (names_author r at (stamped stamp more e)) (author_told p stamp.maker e)
  author_at p (Submitted paper title abstract) = append-nil _ ∙ paper_value (eqb paper p) _ stamp.maker
  author_at p (Coauthor paper user) = told_where (author_seen p) part.user (Coauthor paper user)
      (author_told p stamp.maker (Coauthor paper user)) (paper_value (eqb paper p) _ user)
  author_at p e = silent (author_seen p) e refl

  title_at : (p : ℕ) (e : Entry) → flat_map (title_seen p) (sight r at (stamped stamp more e))
      ≡ only (passes part.title r at (stamped stamp more e)) (title_told p e)
  title_at p (Submitted paper title abstract) = append-nil _ ∙ paper_value (eqb paper p) _ title
  title_at p (Revised paper title abstract) = told_where (title_seen p) part.title (Revised paper title abstract)
      (title_told p (Revised paper title abstract)) (paper_value (eqb paper p) _ title)
  title_at p e = silent (title_seen p) e refl

  abstract_at : (p : ℕ) (e : Entry) → flat_map (abstract_seen p) (sight r at (stamped stamp more e))
      ≡ only (passes part.abstract r at (stamped stamp more e)) (abstract_told p e)
  abstract_at p (Submitted paper title abstract) = append-nil _ ∙ paper_value (eqb paper p) _ abstract
  abstract_at p (Revised paper title abstract) =
      told_where (abstract_seen p) part.abstract (Revised paper title abstract)
      (abstract_told p (Revised paper title abstract)) (paper_value (eqb paper p) _ abstract)
  abstract_at p e = silent (abstract_seen p) e refl

  upload_at : (p : ℕ) (e : Entry) → flat_map (upload_seen p) (sight r at (stamped stamp more e))
      ≡ only (passes part.content r at (stamped stamp more e)) (upload_told p e)
  upload_at p (Uploaded paper version content) =
      told_where (upload_seen p) part.content (Uploaded paper version content)
      (upload_told p (Uploaded paper version content)) (upload_pair (eqb paper p) _ version content)
  upload_at p e = silent (upload_seen p) e refl

  -- a withdrawal has no part beside its paper
  withdrawal_at : (p : ℕ) (e : Entry) → flat_map (withdrawal_seen p) (sight r at (stamped stamp more e))
      ≡ only (is_seen r at (stamped stamp more e)) (withdrawal_told p e)
  withdrawal_at p (Withdrawn paper) =
      flat_map-given (withdrawal_seen p) (is_seen r at (stamped stamp more (Withdrawn paper)))
      (joined r at (stamped stamp more (Withdrawn paper)))
      ∙ ap (only (is_seen r at (stamped stamp more (Withdrawn paper)))) (by (eqb paper p))
    where
      by : (b : Bool) → only b (true ∷ []) ≡ given b true
      by true = refl
      by false = refl
  withdrawal_at p e = silent (withdrawal_seen p) e refl

  conflict_at : (u : Option ℕ) (p : ℕ) (e : Entry) → flat_map (conflict_seen u p) (sight r at (stamped stamp more e))
      ≡ only (passes part.on r at (stamped stamp more e)) (conflict_told u p e)
  conflict_at u p (Conflict paper user on) = told_where (conflict_seen u p) part.on (Conflict paper user on)
      (conflict_told u p (Conflict paper user on)) (user_value (eqb paper p) _ u user on)
  conflict_at u p e = silent (conflict_seen u p) e refl

pub phase_tells : (r : Reader) → TellsAll r phase_seen (λ (e : Stamped). phase_told e.entry)
phase_tells r at e = phase_at r at e.stamp e.more e.entry

pub mode_tells : (r : Reader) → TellsAll r mode_seen (λ (e : Stamped). mode_told e.entry)
mode_tells r at e = mode_at r at e.stamp e.more e.entry

pub deadline_tells : (r : Reader) (phase : Phase)
    → TellsAll r (deadline_seen phase) (λ (e : Stamped). deadline_told phase e.entry)
deadline_tells r phase at e = deadline_at r at e.stamp e.more phase e.entry

pub paper_tells : (r : Reader) → TellsAll r paper_seen (λ (e : Stamped). paper_told e.entry)
paper_tells r at e = paper_at r at e.stamp e.more e.entry

pub registration_tells : (r : Reader) → TellsAll r registration_seen (λ (e : Stamped). registration_told e.entry)
registration_tells r at e = registration_at r at e.stamp e.more e.entry

pub role_tells : (r : Reader) (u : Option ℕ) → TellsAll r (role_seen u) (λ (e : Stamped). role_told u e.entry)
role_tells r u at e = role_at r at e.stamp e.more u e.entry

pub number_tells : (r : Reader) (name : List ℕ)
    → TellsAll r (number_seen name) (λ (e : Stamped). number_told name e.entry)
number_tells r name at e = number_at r at e.stamp e.more name e.entry

pub own_paper_tells : (r : Reader) → TellsAll r own_paper_seen
    (λ (e : Stamped). own_paper_told r.number e.stamp.maker e.entry)
own_paper_tells r at e = own_paper_at r at e.stamp e.more e.entry

pub own_bytes_tells : (r : Reader) → TellsAll r own_bytes_seen
    (λ (e : Stamped). own_bytes_told r.number e.stamp.maker e.entry)
own_bytes_tells r at e = own_bytes_at r at e.stamp e.more e.entry

pub own_comment_tells : (r : Reader) → TellsAll r own_comment_seen
    (λ (e : Stamped). own_comment_told r.number e.stamp.maker e.entry)
own_comment_tells r at e = own_comment_at r at e.stamp e.more e.entry

pub author_tells : (r : Reader) (p : ℕ) → Tells r (author_seen p) (λ (e : Stamped). author_told p e.stamp.maker e.entry)
    (names_author r)
author_tells r p at e = author_at r at e.stamp e.more p e.entry

pub title_tells : (r : Reader) (p : ℕ) → Tells r (title_seen p) (λ (e : Stamped). title_told p e.entry)
    (passes part.title r)
title_tells r p at e = title_at r at e.stamp e.more p e.entry

pub abstract_tells : (r : Reader) (p : ℕ)
    → Tells r (abstract_seen p) (λ (e : Stamped). abstract_told p e.entry) (passes part.abstract r)
abstract_tells r p at e = abstract_at r at e.stamp e.more p e.entry

pub upload_tells : (r : Reader) (p : ℕ) → Tells r (upload_seen p) (λ (e : Stamped). upload_told p e.entry)
    (passes part.content r)
upload_tells r p at e = upload_at r at e.stamp e.more p e.entry

pub withdrawal_tells : (r : Reader) (p : ℕ)
    → Tells r (withdrawal_seen p) (λ (e : Stamped). withdrawal_told p e.entry) (is_seen r)
withdrawal_tells r p at e = withdrawal_at r at e.stamp e.more p e.entry

pub conflict_tells : (r : Reader) (u : Option ℕ) (p : ℕ)
    → Tells r (conflict_seen u p) (λ (e : Stamped). conflict_told u p e.entry) (passes part.on r)
conflict_tells r u p at e = conflict_at r at e.stamp e.more u p e.entry

-- ---- who is shown a part of a paper

-- a value that is told of a number is shown, where the number's is
pub shown_value : {A : Type 0} (c same : Bool) (x : A) → (same ≡ true → c ≡ true) → only c (given same x) ≡ given same x
shown_value c true x h = ap (λ b. only b (x ∷ [])) (h refl)
shown_value c false x h = refl

-- a value that is told of paper p is kept, where such an entry on p passes
pub of_paper : {A : Type 0} (passing : ℕ → Bool) (paper p : ℕ) (x : A) → passing p ≡ true
    → only (passing paper) (given (eqb paper p) x) ≡ given (eqb paper p) x
of_paper passing paper p x h =
    shown_value (passing paper) (eqb paper p) x (λ same. ap passing (eqb-true paper p same) ∙ h)

-- whoever made them, the entries that give paper p authors name them
pub record NamesAuthors (r : Reader) (at : Around) (p : ℕ) : Type 0 where
  pub submitted : (stamp : Stamp) (more : Bool) (title abstract : List ℕ)
      → passes part.by r at (stamped stamp more (Submitted p title abstract)) ≡ true
  pub coauthor : (stamp : Stamp) (more : Bool) (user : ℕ)
      → passes part.user r at (stamped stamp more (Coauthor p user)) ≡ true

-- and those that give it texts show this one
pub record ShowsText (which : Part) (r : Reader) (at : Around) (p : ℕ) : Type 0 where
  pub submitted : (stamp : Stamp) (more : Bool) (title abstract : List ℕ)
      → passes which r at (stamped stamp more (Submitted p title abstract)) ≡ true
  pub revised : (stamp : Stamp) (more : Bool) (title abstract : List ℕ)
      → passes which r at (stamped stamp more (Revised p title abstract)) ≡ true

-- those that give it content show that
abbrev pub ShowsUpload : Reader → Around → ℕ → Type 0
ShowsUpload r at p = (stamp : Stamp) (more : Bool) (version : ℕ) (content : List ℕ)
    → passes part.content r at (stamped stamp more (Uploaded p version content))
    ≡ true

-- those that withdraw it are seen
abbrev pub ShowsWithdrawal : Reader → Around → ℕ → Type 0
ShowsWithdrawal r at p = (stamp : Stamp) (more : Bool) → is_seen r at (stamped stamp more (Withdrawn p)) ≡ true

module _ (r : Reader) (at : Around) (p : ℕ) where
  author_kept : NamesAuthors r at p → (stamp : Stamp) (more : Bool) (e : Entry)
      → only (names_author r at (stamped stamp more e)) (author_told p stamp.maker e)
      ≡ author_told p stamp.maker e
  author_kept shown stamp more (Submitted paper title abstract) =
      of_paper (λ n. passes part.by r at (stamped stamp more (Submitted n title abstract))) paper p stamp.maker
      (shown.submitted stamp more title abstract)
  author_kept shown stamp more (Coauthor paper user) =
      of_paper (λ n. passes part.user r at (stamped stamp more (Coauthor n user))) paper p user
      (shown.coauthor stamp more user)
  author_kept shown stamp more e = refl

  title_kept : ShowsText part.title r at p → (stamp : Stamp) (more : Bool) (e : Entry)
      → only (passes part.title r at (stamped stamp more e)) (title_told p e)
      ≡ title_told p e
  title_kept shown stamp more (Submitted paper title abstract) =
      of_paper (λ n. passes part.title r at (stamped stamp more (Submitted n title abstract))) paper p title
      (shown.submitted stamp more title abstract)
  title_kept shown stamp more (Revised paper title abstract) =
      of_paper (λ n. passes part.title r at (stamped stamp more (Revised n title abstract))) paper p title
      (shown.revised stamp more title abstract)
  title_kept shown stamp more e = refl

  abstract_kept : ShowsText part.abstract r at p → (stamp : Stamp) (more : Bool) (e : Entry)
      → only (passes part.abstract r at (stamped stamp more e)) (abstract_told p e) ≡ abstract_told p e
  abstract_kept shown stamp more (Submitted paper title abstract) =
      of_paper (λ n. passes part.abstract r at (stamped stamp more (Submitted n title abstract))) paper p abstract
      (shown.submitted stamp more title abstract)
  abstract_kept shown stamp more (Revised paper title abstract) =
      of_paper (λ n. passes part.abstract r at (stamped stamp more (Revised n title abstract))) paper p abstract
      (shown.revised stamp more title abstract)
  abstract_kept shown stamp more e = refl

  upload_kept : ShowsUpload r at p → (stamp : Stamp) (more : Bool) (e : Entry)
      → only (passes part.content r at (stamped stamp more e)) (upload_told p e)
      ≡ upload_told p e
  upload_kept shown stamp more (Uploaded paper version content) =
      of_paper (λ n. passes part.content r at (stamped stamp more (Uploaded n version content))) paper p
      (record { version = version; content = content }) (shown stamp more version content)
  upload_kept shown stamp more e = refl

  withdrawal_kept : ShowsWithdrawal r at p → (stamp : Stamp) (more : Bool) (e : Entry)
      → only (is_seen r at (stamped stamp more e)) (withdrawal_told p e)
      ≡ withdrawal_told p e
  withdrawal_kept shown stamp more (Withdrawn paper) =
      of_paper (λ n. is_seen r at (stamped stamp more (Withdrawn n))) paper p true (shown stamp more)
  withdrawal_kept shown stamp more e = refl

  -- so what is told of paper p is kept
  pub author_value : NamesAuthors r at p → (e : Stamped)
      → only (names_author r at e) (author_told p e.stamp.maker e.entry) ≡ author_told p e.stamp.maker e.entry
  author_value shown e = author_kept shown e.stamp e.more e.entry

  pub title_value : ShowsText part.title r at p → (e : Stamped)
      → only (passes part.title r at e) (title_told p e.entry) ≡ title_told p e.entry
  title_value shown e = title_kept shown e.stamp e.more e.entry

  pub abstract_value : ShowsText part.abstract r at p → (e : Stamped)
      → only (passes part.abstract r at e) (abstract_told p e.entry) ≡ abstract_told p e.entry
  abstract_value shown e = abstract_kept shown e.stamp e.more e.entry

  pub upload_value : ShowsUpload r at p → (e : Stamped)
      → only (passes part.content r at e) (upload_told p e.entry) ≡ upload_told p e.entry
  upload_value shown e = upload_kept shown e.stamp e.more e.entry

  pub withdrawal_value : ShowsWithdrawal r at p → (e : Stamped)
      → only (is_seen r at e) (withdrawal_told p e.entry) ≡ withdrawal_told p e.entry
  withdrawal_value shown e = withdrawal_kept shown e.stamp e.more e.entry

-- ---- who is shown a conflict

-- where each conflict of the user with the paper is shown, what is told of them is kept
pub conflict_value : (r : Reader) (at : Around) (u : Option ℕ) (p : ℕ) (e : Stamped)
    → ((stamp : Stamp) (more : Bool) (user : ℕ) (on : Bool) → is_number u user ≡ true
    → passes part.on r at (stamped stamp more (Conflict p user on)) ≡ true)
    → only (passes part.on r at e) (conflict_told u p e.entry) ≡ conflict_told u p e.entry
conflict_value r at u p e h = by e.stamp e.more e.entry
  where
    by : (stamp : Stamp) (more : Bool) (e : Entry)
        → only (passes part.on r at (stamped stamp more e)) (conflict_told u p e) ≡ conflict_told u p e
    by stamp more (Conflict paper user on) =
        shown_value _ (eqb paper p && is_number u user) on (λ same.
        let parts = and_parts (eqb paper p) (is_number u user) same in
        ap (λ n. passes part.on r at (stamped stamp more (Conflict n user on))) (eqb-true paper p parts.0)
        ∙ h stamp more user on parts.1)
    by stamp more e = refl
