-- SPDX-License-Identifier: Apache-2.0 OR MIT
-- Where each entry fits in its turn, what a history tells of its papers is what the table of papers has, and what it
-- tells of authors is what the table of ties has.
use Rattle.std.proofs.Common.{ℕ, Bool, true, false, cond, ◌≡◌, ◌+◌, List, [], ◌∷◌, ◌++◌, length, eqb, refl, sym, ap}
use Rattle.std.proofs.Common.{◌∙◌, arith, append_assoc, append-nil, length-append, Option, Some, None, add-zero}
use Rattle.std.specs.List.{list_any}
use Rattle.std.specs.Option.{option_map, option_map_or}
use Rattle.std.proofs.lemmas.Bool.{eqb-true}
use Rattle.cr_base.specs.declared.entry.Entry.{Entry}
use Rattle.cr_base.specs.declared.entry.Entry.TheVariants.{Submitted, Coauthor, Revised, Uploaded, Withdrawn, Conflict}
use Rattle.cr_base.specs.declared.entry.Stamped.{Stamped}
use Rattle.cr_base.specs.declared.filed.Filed.{Filed}
use Rattle.cr_base.specs.declared.paper.Paper.{Paper}
use Rattle.cr_base.specs.Filed.{filed}
use Rattle.cr_base.specs.Lists.{given, last, last_from, last_or, total, is_number, numbered}
use Rattle.cr_base.specs.History.{History, Upload, all_told, paper_told, own_paper_told, author_told, title_told}
use Rattle.cr_base.specs.History.{abstract_told, upload_told, own_bytes_told, withdrawal_told}
use Rattle.cr_base.specs.HistoryFacts.{papers_of, own_papers_of, own_bytes_of, authors_of, is_author, title_of}
use Rattle.cr_base.specs.HistoryFacts.{abstract_of, uploads_of, is_withdrawn}
use Rattle.cr_base.specs.Papers.{PapersState, new_paper, with_texts, as_withdrawn, papers_after, paper_numbers, text_at}
use Rattle.cr_base.specs.Papers.{title_at, abstract_at, is_withdrawn_at, uploads_at, own_count, own_bytes, PapersFit}
use Rattle.cr_base.specs.Ties.{TiesState, ties_after, authors_in, is_author_in}
use Rattle.cr_base.specs.Tables.{Tables, no_tables, tables_of, FitInTurn}
use Rattle.cr_base.proofs.PaperLaws.{read-changed, read-kept, numbers_from-with_paper}
use Rattle.cr_base.proofs.FiledLaws.{filed_of-with_filed}
use Rattle.cr_base.proofs.LastLaws.{last_from-given, last_or-given}
use Rattle.cr_base.proofs.ListLaws.{numbered-nil, numbered-none, numbered-push, numbers_from-push}
use Rattle.cr_base.proofs.TieLaws.{users_tied_to-push}
use Rattle.cr_base.proofs.Small.{total-append, eqb-swap}
use Rattle.cr_history.proofs.CountAgreement.{sum_at, sum-with_more, sum-with_one, sum-tables}
use Rattle.cr_history.proofs.Folds.{told-always, told-fitting}

-- ---- the numbers of the papers

numbers-entry : (state : PapersState) (maker : ℕ) (e : Entry) → PapersFit state maker e → (rest : List ℕ)
    → paper_numbers state ++ (paper_told e ++ rest)
    ≡ paper_numbers (papers_after state maker e) ++ rest
numbers-entry state maker (Submitted paper title abstract) fits rest =
    let is : paper ≡ 1 + length state.papers = let n = fits.0 in omega (arith, n) in
    sym (ap (λ ns. ns ++ rest) (numbers_from-push 1 paper state.papers (new_paper title abstract) is)
    ∙ append_assoc (paper_numbers state) (paper ∷ []) rest)
numbers-entry state maker (Revised paper title abstract) fits rest =
    ap (λ ns. ns ++ rest) (sym (numbers_from-with_paper 1 paper (with_texts title abstract) state.papers))
numbers-entry state maker (Withdrawn paper) fits rest =
    ap (λ ns. ns ++ rest) (sym (numbers_from-with_paper 1 paper as_withdrawn state.papers))
numbers-entry state maker e fits rest = refl

-- the papers of a history are numbered from 1
pub papers_of-tables : (H : History) → FitInTurn no_tables H → papers_of H ≡ paper_numbers (tables_of H).papers
papers_of-tables H fits = told-fitting ◌++◌ append-nil (λ (t : Tables). paper_numbers t.papers)
    (λ (s : Stamped). paper_told s.entry) (λ t s fit. numbers-entry t.papers s.stamp.maker s.entry fit.papers) no_tables
    H fits

-- ---- how many papers are the user's own

own-entry : (u : Option ℕ) (state : PapersState) (maker : ℕ) (e : Entry) (n : ℕ)
    → sum_at state.submitted u + (length (own_paper_told u maker e) + n) ≡ sum_at (papers_after state maker e).submitted
    u + n
own-entry u state maker (Submitted paper title abstract) n = sum-with_one u maker paper n state.submitted
own-entry u state maker e n = omega arith

-- a user's own papers are those that she submitted
pub own_papers_of-tables : (u : Option ℕ) (H : History) → own_papers_of u H ≡ own_count (tables_of H).papers u
own_papers_of-tables u H =
    sum-tables length refl length-append (λ (t : Tables). t.papers.submitted) refl u (own_paper_told u)
    (λ t s n. own-entry u t.papers s.stamp.maker s.entry n) H
    ∙ read u (tables_of H).papers
  where
    read : (u : Option ℕ) (state : PapersState) → sum_at state.submitted u ≡ own_count state u
    read None state = refl
    read (Some v) state = refl

-- ---- how many bytes the user has uploaded

bytes-entry : (u : Option ℕ) (state : PapersState) (maker : ℕ) (e : Entry) (n : ℕ)
    → sum_at state.uploaded u + (total (own_bytes_told u maker e) + n) ≡ sum_at (papers_after state maker e).uploaded u
    + n
bytes-entry u state maker (Uploaded paper version content) n =
    sum-with_more u maker (length content) (total (given (is_number u maker) (length content))) n state.uploaded
    (by (is_number u maker))
  where
    by : (b : Bool) → total (given b (length content)) ≡ cond b (length content) 0
    by true = add-zero (length content)
    by false = refl
bytes-entry u state maker e n = omega arith

-- a user's bytes are those of all that she uploaded
pub own_bytes_of-tables : (u : Option ℕ) (H : History) → own_bytes_of u H ≡ own_bytes (tables_of H).papers u
own_bytes_of-tables u H =
    sum-tables total refl total-append (λ (t : Tables). t.papers.uploaded) refl u (own_bytes_told u)
    (λ t s n. bytes-entry u t.papers s.stamp.maker s.entry n) H
    ∙ read u (tables_of H).papers
  where
    read : (u : Option ℕ) (state : PapersState) → sum_at state.uploaded u ≡ own_bytes state u
    read None state = refl
    read (Some v) state = refl

-- ---- the texts of a paper

-- a text that the entry gives paper p
abbrev text_told : (Paper → List ℕ) → ℕ → Entry → List (List ℕ)
text_told part p (Submitted paper title abstract) = given (eqb paper p) (part (new_paper title abstract))
text_told part p (Revised paper title abstract) = given (eqb paper p) (part (new_paper title abstract))
text_told part p _ = []

title-text : (p : ℕ) (e : Entry) → title_told p e ≡ text_told (λ (paper : Paper). paper.title) p e
title-text p (Submitted paper title abstract) = refl
title-text p (Revised paper title abstract) = refl
title-text p e = refl

abstract-text : (p : ℕ) (e : Entry) → abstract_told p e ≡ text_told (λ (paper : Paper). paper.abstract_) p e
abstract-text p (Submitted paper title abstract) = refl
abstract-text p (Revised paper title abstract) = refl
abstract-text p e = refl

-- a part of a paper that a revision gives anew and a withdrawal leaves
module _ (part : Paper → List ℕ) (anew : (title abstract : List ℕ) (y : Paper) → part (with_texts title abstract y)
    ≡ part (new_paper title abstract)) (left : (y : Paper) → part (as_withdrawn y) ≡ part y) (p : ℕ) where
  -- the table after an entry has the text that it tells, or else the one from before
  text-entry : (state : PapersState) (maker : ℕ) (e : Entry) → PapersFit state maker e → (rest : List (List ℕ))
      → last_from (text_at part state p) (text_told part p e ++ rest)
      ≡ last_from (text_at part (papers_after state maker e) p) rest
  text-entry state maker (Submitted paper title abstract) fits rest =
      let x = new_paper title abstract in
      last_from-given (eqb paper p) (part x) (text_at part state p) rest
      ∙ ap (λ o. last_from o rest)
      (by (eqb paper p) (numbered state.papers p) x
      ∙ ap (λ b. option_map part (cond b (Some x) (numbered state.papers p)))
      (ap (λ n. eqb n p) fits.0 ∙ eqb-swap (length state.papers + 1) p)
      ∙ ap (option_map part) (sym (numbered-push state.papers x p)))
    where
      by : (b : Bool) (o : Option Paper) (x : Paper)
          → cond b (Some (part x)) (option_map part o) ≡ option_map part (cond b (Some x) o)
      by true o x = refl
      by false o x = refl
  text-entry state maker (Revised paper title abstract) fits rest =
      let x = part (new_paper title abstract) in
      last_from-given (eqb paper p) x (text_at part state p) rest
      ∙ ap (λ o. last_from o rest)
      (sym (read-changed (option_map part) (with_texts title abstract) state.papers paper p (Some x) fits.0 fits.1
      (λ y. ap Some (anew title abstract y))))
  text-entry state maker (Withdrawn paper) fits rest =
      ap (λ o. last_from o rest)
      (sym (read-kept (option_map part) as_withdrawn state.papers paper p fits.0 (λ y. ap Some (left y))))
  text-entry state maker e fits rest = refl

  -- the last text that is told of the paper is the one that the table has
  text-tables : (told : Entry → List (List ℕ)) → ((e : Entry) → told e ≡ text_told part p e) → (H : History)
      → FitInTurn no_tables H
      → last (all_told told H) ≡ text_at part (tables_of H).papers p
  text-tables told same H fits =
      ap (λ (told : Entry → List (List ℕ)). last (all_told told H)) (λ i e. same e i)
      ∙ ap (λ (o : Option Paper). last_from (option_map part o) (all_told (text_told part p) H)) (sym (numbered-nil p))
      ∙ told-fitting last_from (λ _. refl) (λ (t : Tables). text_at part t.papers p)
      (λ (s : Stamped). text_told part p s.entry) (λ t s fit. text-entry t.papers s.stamp.maker s.entry fit.papers)
      no_tables H fits

pub title_of-tables : (p : ℕ) (H : History) → FitInTurn no_tables H → title_of p H ≡ title_at (tables_of H).papers p
title_of-tables p H fits = text-tables (λ (paper : Paper). paper.title) (λ title abstract y. refl) (λ y. refl) p
    (title_told p) (title-text p) H fits

pub abstract_of-tables : (p : ℕ) (H : History) → FitInTurn no_tables H
    → abstract_of p H ≡ abstract_at (tables_of H).papers p
abstract_of-tables p H fits = text-tables (λ (paper : Paper). paper.abstract_) (λ title abstract y. refl) (λ y. refl) p
    (abstract_told p) (abstract-text p) H fits

-- ---- whether a paper is withdrawn

abbrev is_withdrawn_in : Option Paper → Bool
is_withdrawn_in o = option_map_or (λ (paper : Paper). paper.withdrawn) o false

-- a new paper isn't, and none was there
withdrawn-push : (o : Option Paper) (b : Bool) (title abstract : List ℕ) → (b ≡ true → o ≡ None)
    → is_withdrawn_in (cond b (Some (new_paper title abstract)) o) ≡ is_withdrawn_in o
withdrawn-push o true title abstract none = sym (ap is_withdrawn_in (none refl))
withdrawn-push o false title abstract none = refl

withdrawn-entry : (p : ℕ) (state : PapersState) (maker : ℕ) (e : Entry) → PapersFit state maker e → (rest : List Bool)
    → last_or (is_withdrawn_at state p) (withdrawal_told p e ++ rest)
    ≡ last_or (is_withdrawn_at (papers_after state maker e) p) rest
withdrawn-entry p state maker (Submitted paper title abstract) fits rest =
    let last : ℕ = length state.papers + 1 in
    let none : eqb p last ≡ true → numbered state.papers p ≡ None = λ same. let e : p
    ≡ last = eqb-true p last same in numbered-none state.papers p (omega (arith, e)) in
    ap (λ b. last_or b rest) (sym (ap is_withdrawn_in (numbered-push state.papers (new_paper title abstract) p)
    ∙ withdrawn-push (numbered state.papers p) (eqb p last) title abstract none))
withdrawn-entry p state maker (Revised paper title abstract) fits rest =
    ap (λ b. last_or b rest)
    (sym (read-kept is_withdrawn_in (with_texts title abstract) state.papers paper p fits.0 (λ y. refl)))
withdrawn-entry p state maker (Withdrawn paper) fits rest =
    last_or-given (eqb paper p) (is_withdrawn_at state p) true rest
    ∙ ap (λ b. last_or b rest)
    (sym (read-changed is_withdrawn_in as_withdrawn state.papers paper p true fits.0 fits.1 (λ y. refl)))
withdrawn-entry p state maker e fits rest = refl

-- a paper is withdrawn where the table says so
pub is_withdrawn-tables : (p : ℕ) (H : History) → FitInTurn no_tables H
    → is_withdrawn p H ≡ is_withdrawn_at (tables_of H).papers p
is_withdrawn-tables p H fits =
    ap (λ (o : Option Paper). last_or (is_withdrawn_in o) (all_told (withdrawal_told p) H)) (sym (numbered-nil p))
    ∙ told-fitting last_or (λ _. refl) (λ (t : Tables). is_withdrawn_at t.papers p)
    (λ (s : Stamped). withdrawal_told p s.entry)
    (λ t s fit. withdrawn-entry p t.papers s.stamp.maker s.entry fit.papers) no_tables H fits

-- ---- what was uploaded to a paper

uploads-entry : (p : ℕ) (state : PapersState) (maker : ℕ) (e : Entry)
    → uploads_at state p ++ upload_told p e ≡ uploads_at (papers_after state maker e) p
uploads-entry p state maker (Uploaded paper version content) =
    let made : Filed Upload = filed paper (record { version = version; content = content }) in
    ap (λ b. uploads_at state p ++ given b made.value) (eqb-swap paper p)
    ∙ sym (filed_of-with_filed p made state.uploads)
uploads-entry p state maker e = append-nil (uploads_at state p)

-- the uploads to a paper are those that the table has, in the same order
pub uploads_of-tables : (p : ℕ) (H : History) → uploads_of p H ≡ uploads_at (tables_of H).papers p
uploads_of-tables p H =
    told-always ◌++◌ append-nil (λ (t : Tables). uploads_at t.papers p) (λ (s : Stamped). upload_told p s.entry)
    (λ t s rest. sym (append_assoc (uploads_at t.papers p) (upload_told p s.entry) rest)
    ∙ ap (λ us. us ++ rest) (uploads-entry p t.papers s.stamp.maker s.entry)) no_tables H

-- ---- the authors of a paper

authors-entry : (p : ℕ) (ties : TiesState) (maker : ℕ) (e : Entry)
    → authors_in ties p ++ author_told p maker e ≡ authors_in (ties_after ties maker e) p
authors-entry p ties maker (Submitted paper title abstract) =
    ap (λ b. authors_in ties p ++ given b maker) (eqb-swap paper p)
    ∙ sym (users_tied_to-push p ties.authors paper maker)
authors-entry p ties maker (Coauthor paper user) = ap (λ b. authors_in ties p ++ given b user) (eqb-swap paper p)
    ∙ sym (users_tied_to-push p ties.authors paper user)
authors-entry p ties maker (Conflict paper user on) = append-nil (authors_in ties p)
authors-entry p ties maker e = append-nil (authors_in ties p)

pub authors_of-tables : (p : ℕ) (H : History) → authors_of p H ≡ authors_in (tables_of H).ties p
authors_of-tables p H =
    told-always ◌++◌ append-nil (λ (t : Tables). authors_in t.ties p)
    (λ (s : Stamped). author_told p s.stamp.maker s.entry)
    (λ t s rest. sym (append_assoc (authors_in t.ties p) (author_told p s.stamp.maker s.entry) rest)
    ∙ ap (λ xs. xs ++ rest) (authors-entry p t.ties s.stamp.maker s.entry)) no_tables H

pub is_author-tables : (u : Option ℕ) (p : ℕ) (H : History) → is_author u p H ≡ is_author_in (tables_of H).ties u p
is_author-tables u p H = ap (list_any (is_number u)) (authors_of-tables p H)
