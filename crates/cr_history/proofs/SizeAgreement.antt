-- SPDX-License-Identifier: Apache-2.0 OR MIT
-- Where each entry fits in its turn, the tables hold no more accounts and papers than rows can number, and ties and
-- seats at no others.
use Rattle.std.proofs.Common.{ℕ, ◌≤◌, ◌-◌, List, [], ◌∷◌, length, refl, arith, length-append, IsTrue}
use Rattle.cr_base.specs.declared.entry.Account.{Account}
use Rattle.cr_base.specs.declared.entry.Entry.{Entry}
use Rattle.cr_base.specs.declared.entry.Entry.TheVariants.{Registered, Named, Submitted, Revised, Withdrawn, Dismissed}
use Rattle.cr_base.specs.declared.words.Role.TheVariants as role
use Rattle.cr_base.specs.Accounts.{accounts_after, AccountsFit}
use Rattle.cr_base.specs.Papers.{PapersState, new_paper, with_texts, as_withdrawn, papers_after, paper_count, PapersFit}
use Rattle.cr_base.specs.Ties.{are_within, AreWithin}
use Rattle.cr_base.specs.History.{History}
use Rattle.cr_base.specs.Tables.{Tables, no_tables, tables_after, tables_from, tables_of, FitInTurn}
use Rattle.cr_base.proofs.AccountLaws.{length-with_role}
use Rattle.cr_base.proofs.PaperLaws.{length-with_paper}
use Rattle.cr_base.proofs.SeatLaws.{seats-within}
use Rattle.cr_base.proofs.TieLaws.{within-after}

-- accounts and papers are few, and what users are tied to, or assigned to, is one of the papers
pub record IsSized (t : Tables) : Type 0 where
  pub accounts : length t.accounts ≤ 9999
  pub papers : paper_count t.papers ≤ 9999
  pub ties : AreWithin (paper_count t.papers) t.ties
  pub seats : IsTrue (are_within (paper_count t.papers) t.seats)

accounts-few : (accounts : List Account) (e : Entry) → AccountsFit accounts e → length accounts ≤ 9999
    → length (accounts_after accounts e) ≤ 9999
accounts-few accounts (Registered user name digest) fits h =
    let a : Account = record { name = name; digest = digest; role = role.Account } in
    let n = length-append accounts (a ∷ []) in
    let next = fits.0 in
    let few = fits.1 in
    omega (arith, n, next, few)
accounts-few accounts (Named user role') fits h = let n =
    length-with_role accounts (user - 1) role' in omega (arith, n, h)
accounts-few accounts (Dismissed user) fits h = let n =
    length-with_role accounts (user - 1) role.Account in omega (arith, n, h)
accounts-few accounts e fits h = h

papers-few : (state : PapersState) (maker : ℕ) (e : Entry) → PapersFit state maker e → paper_count state ≤ 9999
    → paper_count (papers_after state maker e) ≤ 9999
papers-few state maker (Submitted paper title abstract) fits h =
    let n = length-append state.papers (new_paper title abstract ∷ []) in
    let next = fits.0 in
    let few = fits.1 in
    omega (arith, n, next, few)
papers-few state maker (Revised paper title abstract) fits h = let n =
    length-with_paper paper (with_texts title abstract) state.papers in omega (arith, n, h)
papers-few state maker (Withdrawn paper) fits h = let n =
    length-with_paper paper as_withdrawn state.papers in omega (arith, n, h)
papers-few state maker e fits h = h

sized-from : (t : Tables) (H : History) → FitInTurn t H → IsSized t → IsSized (tables_from t H)
sized-from t [] fits sized = sized
sized-from t (s ∷ H) fits sized =
    sized-from (tables_after t s) H fits.1 (record {
      accounts = accounts-few t.accounts s.entry fits.0.accounts sized.accounts;
      papers = papers-few t.papers s.stamp.maker s.entry fits.0.papers sized.papers;
      ties = within-after t.papers t.ties s.stamp.maker s.entry fits.0.papers sized.ties;
      seats = seats-within t.papers t.seats s.stamp.maker s.entry fits.0.papers sized.seats;
    })

pub sized-tables : (H : History) → FitInTurn no_tables H → IsSized (tables_of H)
sized-tables H fits = sized-from no_tables H fits
    (record {
      accounts = omega arith;
      papers = omega arith;
      ties = record { authors = refl; conflicts = refl };
      seats = refl;
    })
