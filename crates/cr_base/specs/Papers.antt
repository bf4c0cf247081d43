-- SPDX-License-Identifier: Apache-2.0 OR MIT
-- The table of papers: what an entry makes of it, and what is read from it.
use Rattle.std.specs.Prelude.{ℕ, Bool, true, false, ◌≡◌, ◌≤◌, ◌<◌, ◌+◌, ◌-◌}
use Rattle.std.specs.Prelude.{List, [], ◌∷◌, ◌++◌, length, zero, suc}
use Rattle.std.specs.Prelude.{slice_index, slice_set, Option, Some, None}
use Rattle.std.specs.Option.{option_map, option_map_or}
use Rattle.cr_base.specs.declared.entry.Entry.{Entry}
use Rattle.cr_base.specs.declared.entry.Entry.TheVariants.{Submitted, Coauthor, Revised, Uploaded, Withdrawn}
use Rattle.cr_base.specs.declared.filed.Filed.{Filed}
use Rattle.cr_base.specs.declared.paper.Paper.{Paper}
use Rattle.cr_base.specs.Filed.{filed, with_filed, filed_of}
use Rattle.cr_base.specs.History.{Upload, paper_about}
use Rattle.cr_base.specs.Lists.{AtSome, numbered, numbers_from}

-- ---- the state

-- what is kept of each paper, number n at index n - 1; the uploads, paper by paper, and those of a paper in order; how
-- many papers each user has submitted, and how many bytes they have uploaded, with the user's number as index: a user
-- past the end has none
pub record PapersState : Type 0 where
  pub papers : List Paper
  pub uploads : List (Filed Upload)
  pub submitted : List ℕ
  pub uploaded : List ℕ

-- no papers
abbrev pub no_papers : PapersState
no_papers = record { papers = []; uploads = []; submitted = []; uploaded = [] }

-- the sums with this much more at this index, with 0 at indices before it that aren't there yet
abbrev pub with_more : ℕ → ℕ → List ℕ → List ℕ
with_more zero more [] = more ∷ []
with_more zero more (n ∷ sums) = (n + more) ∷ sums
with_more (suc i) more [] = 0 ∷ with_more i more []
with_more (suc i) more (n ∷ sums) = n ∷ with_more i more sums

-- the papers with the one of this number changed, if it is there
abbrev pub with_paper : ℕ → (Paper → Paper) → List Paper → List Paper
with_paper p change papers =
    option_map_or (λ (paper : Paper). slice_set papers (p - 1) (change paper)) (numbered papers p) papers

-- a paper as it is submitted
abbrev pub new_paper : List ℕ → List ℕ → Paper
new_paper title abstract = record { title = title; abstract_ = abstract; withdrawn = false }

-- the paper with this title and abstract
abbrev pub with_texts : List ℕ → List ℕ → Paper → Paper
with_texts title abstract paper = record { title = title; abstract_ = abstract; withdrawn = paper.withdrawn }

-- the paper, withdrawn
abbrev pub as_withdrawn : Paper → Paper
as_withdrawn paper = record { title = paper.title; abstract_ = paper.abstract_; withdrawn = true }

-- the papers after one more entry, by this maker
abbrev pub papers_after : PapersState → ℕ → Entry → PapersState
papers_after state maker (Submitted paper title abstract) = record state {
  papers = state.papers ++ new_paper title abstract ∷ [];
  submitted = with_more maker 1 state.submitted;
}
papers_after state maker (Revised paper title abstract) =
    record state { papers = with_paper paper (with_texts title abstract) state.papers }
papers_after state maker (Uploaded paper version content) = record state {
  uploads = with_filed (filed paper (record { version = version; content = content })) state.uploads;
  uploaded = with_more maker (length content) state.uploaded;
}
papers_after state maker (Withdrawn paper) = record state { papers = with_paper paper as_withdrawn state.papers }
papers_after state maker _ = state

-- ---- what is read

-- how many papers there are
abbrev pub paper_count : PapersState → ℕ
paper_count state = length state.papers

-- the numbers of all papers
abbrev pub paper_numbers : PapersState → List ℕ
paper_numbers state = numbers_from 1 state.papers

-- what a paper's texts are by its number: a part of what is kept of it
abbrev pub text_at : (Paper → List ℕ) → PapersState → ℕ → Option (List ℕ)
text_at part state p = option_map part (numbered state.papers p)

-- the paper's title
abbrev pub title_at : PapersState → ℕ → Option (List ℕ)
title_at state p = text_at (λ (paper : Paper). paper.title) state p

-- the paper's abstract
abbrev pub abstract_at : PapersState → ℕ → Option (List ℕ)
abstract_at state p = text_at (λ (paper : Paper). paper.abstract_) state p

-- whether the paper is withdrawn
abbrev pub is_withdrawn_at : PapersState → ℕ → Bool
is_withdrawn_at state p = option_map_or (λ (paper : Paper). paper.withdrawn) (numbered state.papers p) false

-- what was uploaded to the paper, in order
abbrev pub uploads_at : PapersState → ℕ → List Upload
uploads_at state p = filed_of p state.uploads

-- how many papers the user has submitted
abbrev pub own_count : PapersState → Option ℕ → ℕ
own_count state None = 0
own_count state (Some user) = slice_index state.submitted user

-- how many bytes the user has uploaded, in all versions of all papers
abbrev pub own_bytes : PapersState → Option ℕ → ℕ
own_bytes state None = 0
own_bytes state (Some user) = slice_index state.uploaded user

-- ---- which entry may come next

-- the paper is there
abbrev pub IsPaper : PapersState → ℕ → Type 0
IsPaper state paper = (1 ≤ paper) × (paper ≤ paper_count state)

-- an entry fits: the number drawn is the next one, and its maker hasn't submitted 20
-- papers, nor uploaded too many bytes;
-- the paper is there, and co-authors are told of the last one
abbrev pub PapersFit : PapersState → ℕ → Entry → Type 0
PapersFit state maker (Submitted paper title abstract) =
    (paper ≡ paper_count state + 1) × (paper ≤ 9999) × (own_count state (Some maker) < 20)
PapersFit state maker (Coauthor paper user) = (1 ≤ paper) × (paper ≡ paper_count state)
PapersFit state maker (Uploaded paper version content) =
    IsPaper state paper × (version ≡ length (uploads_at state paper) + 1)
    × (own_bytes state (Some maker) + length content ≤ 67108864)
PapersFit state maker e = AtSome (IsPaper state) (paper_about e)
