-- SPDX-License-Identifier: Apache-2.0 OR MIT
-- What is planned stands by its numbers: papers rise, and so do the users of members.
use Rattle.std.proofs.Common.{ℕ, Bool, true, false, cond, ◌≡◌, ◌<◌, ◌+◌, List, [], ◌∷◌, map, refl, arith, Option}
use Rattle.std.specs.Prelude.{filter, nat_lt, not}
use Rattle.std.specs.List.{list_all}
use Rattle.std.proofs.lemmas.Bool.{and_from, lt-ltb}
use Rattle.cr_base.specs.declared.entry.Account.{Account}
use Rattle.cr_base.specs.declared.reply.AccountLine.{AccountLine}
use Rattle.cr_base.specs.Accounts.{lines_from}
use Rattle.cr_base.specs.Lists.{IsRising}
use Rattle.cr_base.specs.Papers.{paper_numbers}
use Rattle.cr_base.specs.Plans.{has_labels_for, planned_papers}
use Rattle.cr_base.specs.Reports.{clear_papers, is_clear_of, open_papers}
use Rattle.cr_base.specs.Sources.{Facts, Shown, facts_of_tables, shown_in_tables}
use Rattle.cr_base.specs.Tables.{Tables}
use Rattle.cr_base.proofs.RisingLists.{rising-numbers_from}
use Rattle.cr_base.proofs.SortedLists.{sorted-filter}

pub papers-rise : (t : Tables) (user : Option ℕ) (per_paper : ℕ)
    → IsRising (planned_papers (facts_of_tables t user) (shown_in_tables t) per_paper)
papers-rise t user per_paper =
    let facts : Facts = facts_of_tables t user in
    let shown : Shown = shown_in_tables t in
    sorted-filter nat_lt (has_labels_for shown per_paper) (open_papers facts shown)
    (sorted-filter nat_lt (λ (p : ℕ). not (shown.withdrawn p)) (clear_papers facts)
    (sorted-filter nat_lt (is_clear_of facts) (paper_numbers t.papers) (rising-numbers_from 1 t.papers.papers)))

abbrev pub users : List AccountLine → List ℕ
users lines = map (λ (a : AccountLine). a.user) lines

users-above : (test : AccountLine → Bool) (m n : ℕ) (accounts : List Account) → m < n
    → list_all (nat_lt m) (users (filter test (lines_from n accounts))) ≡ true
users-above test m n [] low = refl
users-above test m n (a ∷ accounts) low =
    by (test line) (users-above test m (n + 1) accounts (omega (arith, low)))
  where
    line : AccountLine
    line = record { user = n; name = a.name; role = a.role }

    rest : List AccountLine
    rest = filter test (lines_from (n + 1) accounts)

    by : (b : Bool) → list_all (nat_lt m) (users rest) ≡ true
        → list_all (nat_lt m) (users (cond b (line ∷ rest) rest)) ≡ true
    by true h = and_from (nat_lt m n) (list_all (nat_lt m) (users rest)) (lt-ltb m n low) h
    by false h = h

pub users-rise : (test : AccountLine → Bool) (n : ℕ) (accounts : List Account)
    → IsRising (users (filter test (lines_from n accounts)))
users-rise test n [] = tt
users-rise test n (a ∷ accounts) =
    by (test line) (users-above test n (n + 1) accounts (omega arith)) (users-rise test (n + 1) accounts)
  where
    line : AccountLine
    line = record { user = n; name = a.name; role = a.role }

    rest : List AccountLine
    rest = filter test (lines_from (n + 1) accounts)

    by : (b : Bool) → list_all (nat_lt n) (users rest) ≡ true → IsRising (users rest)
        → IsRising (users (cond b (line ∷ rest) rest))
    by true above h = (above, h)
    by false above h = h
