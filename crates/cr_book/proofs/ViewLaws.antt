-- SPDX-License-Identifier: Apache-2.0 OR MIT
-- What the trigger table asks of a reader is what the tables of a legal history tell.
use Rattle.std.proofs.Common.{ℕ, ◌≡◌, ap, sym, ◌∙◌, List, [], Option, Some, None}
use Rattle.cr_base.specs.declared.row.Row.{Row}
use Rattle.cr_base.specs.declared.standing.Standing.{Standing}
use Rattle.cr_base.specs.History.{History}
use Rattle.cr_base.specs.HistoryFacts.{standing_of}
use Rattle.cr_base.specs.Sources.{standing_at}
use Rattle.cr_base.specs.Tables.{Tables, tables_of}
use Rattle.cr_policy.specs.Legal.{Legal}
use Rattle.cr_policy.specs.Triggers.{Reader, reader}
use Rattle.cr_policy.specs.View.{sights, view}
use Rattle.cr_policy.proofs.LegalLaws.{Legal-fits}
use Rattle.cr_history.proofs.DecisionAgreement.{is_accepted-tables}
use Rattle.cr_history.proofs.StageAgreement.{had_response-tables}
use Rattle.cr_history.proofs.TableAgreement.{standing_of-tables}
use Rattle.cr_sights.specs.Readers.{reader_in}
use Rattle.cr_book.specs.Sound.{IsSound}

module _ (H : History) (legal : Legal H) where
  same : (u paper : Option ℕ) → standing_of u paper H ≡ standing_at (tables_of H) u paper
  same u paper = standing_of-tables u paper H (Legal-fits H legal)

  reader-tables : (u : Option ℕ) → reader u H ≡ reader_in (tables_of H) u
  reader-tables u = λ i. record {
    number = u;
    now = ap (λ (s : Standing). s.phase) (same u None) i;
    mode = ap (λ (s : Standing). s.mode) (same u None) i;
    rank = ap (λ (s : Standing). s.role) (same u None) i;
    author = λ p. ap (λ (s : Standing). s.author) (same u (Some p)) i;
    conflicted = λ p. ap (λ (s : Standing). s.conflicted) (same u (Some p)) i;
    external = λ p. ap (λ (s : Standing). s.external) (same u (Some p)) i;
    wrote = λ v p. ap (λ (s : Standing). s.author) (same (Some v) (Some p)) i;
    accepted = λ p. is_accepted-tables p H (Legal-fits H legal) i;
    had_response = had_response-tables H i;
  }

-- what a book's tables and entries show a user is her view of its history
pub view-by_tables : {K : Type 0} (rows : K → Option (List Row)) (h : History) (t : Tables) (keeper : K) (u : Option ℕ)
    → IsSound rows h t keeper → sights (reader_in t u) [] h ≡ view u h
view-by_tables rows h t keeper u sound =
    ap (λ (x : Tables). sights (reader_in x u) [] h) sound.same
    ∙ ap (λ (r : Reader). sights r [] h) (sym (reader-tables h sound.legal u))
