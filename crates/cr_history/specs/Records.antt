-- SPDX-License-Identifier: Apache-2.0 OR MIT
-- How many records the tables keep of one paper (form: src/schema.sql of HotCRP, where a conflict or an author, a
-- preference, a review, a document and a tag are rows with their paper's number), and how many entries of a history
-- are on it.
use Rattle.std.specs.Prelude.{ℕ, Bool, ◌==◌, ◌+◌, length, filter}
use Rattle.cr_base.specs.declared.entry.Entry.{Entry}
use Rattle.cr_base.specs.declared.entry.Entry.TheVariants.{Submitted}
use Rattle.cr_base.specs.declared.entry.Stamped.{Stamped}
use Rattle.cr_base.specs.declared.pairs.Order.TheVariants.{ByPaper}
use Rattle.cr_base.specs.Filed.{filed_of}
use Rattle.cr_base.specs.History.{History, paper_about}
use Rattle.cr_base.specs.Lists.{at_some}
use Rattle.cr_base.specs.Pairs.{ties_of, users_tied_to}
use Rattle.cr_base.specs.Papers.{uploads_at}
use Rattle.cr_base.specs.Tables.{Tables}
use Rattle.cr_base.specs.Ties.{BareTies, authors_in, bids_in}

-- ---- entries

-- the entry names the paper, or makes it
abbrev pub is_on : ℕ → Entry → Bool
is_on p (Submitted paper title abstract) = p == paper
is_on p e = at_some (λ paper. p == paper) (paper_about e)

-- how many of the history's are
abbrev pub entries_on : ℕ → History → ℕ
entries_on p H = length (filter (λ (s : Stamped). is_on p s.entry) H)

-- ---- records

-- how many the tables keep of the paper: its authors, and those who are tied to it by the ties at hand, its seats,
-- its invitations, the bids on it, its forms, its uploads, and its tags
abbrev pub records_with : BareTies → ℕ → Tables → ℕ
records_with ties p t =
    length (authors_in t.ties p) + length (users_tied_to p ties) + length (ties_of ByPaper p t.seats)
    + length (users_tied_to p t.invites)
    + length (bids_in t.ties p) + length (filed_of p t.reviews.forms) + length (uploads_at t.papers p)
    + length (filed_of p t.tags)

-- with those who are in conflict with it
abbrev pub records_on : ℕ → Tables → ℕ
records_on p t = records_with t.ties.conflicts p t

-- and with those whom its authors have declared, in their place: an entry that turns a conflict on may add to both
abbrev pub records_declared : ℕ → Tables → ℕ
records_declared p t = records_with t.ties.declared p t
