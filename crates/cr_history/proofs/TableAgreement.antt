-- SPDX-License-Identifier: Apache-2.0 OR MIT
-- The tables and rows of more entries; and where each fits in its turn, how a user stands by a history is how she
-- stands by its tables.
use Rattle.std.proofs.Common.{ℕ, Bool, ◌≡◌, [], ◌∷◌, ◌++◌, ap, Option}
use Rattle.std.specs.Prelude.{is_some}
use Rattle.std.proofs.lemmas.List.{map-append}
use Rattle.std.proofs.lemmas.List.Sums.{fold-append}
use Rattle.cr_base.specs.Lists.{at_some}
use Rattle.cr_base.specs.History.{History}
use Rattle.cr_base.specs.HistoryFacts.{standing_of}
use Rattle.cr_base.specs.Rows.{row_of, rows_of}
use Rattle.cr_base.specs.Tables.{Tables, no_tables, tables_after, tables_from, tables_of, FitInTurn}
use Rattle.cr_base.specs.Sources.{standing_at}
use Rattle.cr_history.proofs.ConflictAgreement.{is_conflicted-tables}
use Rattle.cr_history.proofs.InviteAgreement.{is_external-tables}
use Rattle.cr_history.proofs.StageAgreement.{phase_of-tables, mode_of-tables}
use Rattle.cr_history.proofs.RoleAgreement.{role_of-tables}
use Rattle.cr_history.proofs.PaperAgreement.{is_author-tables}
use Rattle.cr_history.proofs.SeatAgreement.{ordinal_of-tables}

-- ---- more entries

-- the tables of more entries go on from those before
pub tables_of-append : (H g : History) → tables_of (H ++ g) ≡ tables_from (tables_of H) g
tables_of-append H g = fold-append tables_after no_tables H g

-- the rows of more entries come behind those before
pub rows_of-append : (H g : History) → rows_of (H ++ g) ≡ rows_of H ++ rows_of g
rows_of-append H g = map-append row_of H g

-- entries that fit in their turn, and more that fit behind them
pub FitInTurn-append : (t : Tables) (H g : History) → FitInTurn t H → FitInTurn (tables_from t H) g
    → FitInTurn t (H ++ g)
FitInTurn-append t [] g first then = then
FitInTurn-append t (s ∷ H) g first then = (first.0, FitInTurn-append (tables_after t s) H g first.1 then)

-- the later ones of those that fit in their turn fit behind the earlier ones
pub FitInTurn-behind : (t : Tables) (H g : History) → FitInTurn t (H ++ g) → FitInTurn (tables_from t H) g
FitInTurn-behind t [] g fits = fits
FitInTurn-behind t (s ∷ H) g fits = FitInTurn-behind (tables_after t s) H g fits.1

-- ---- the facts

-- how a user stands by a history is how she stands by its tables
pub standing_of-tables : (u paper : Option ℕ) (H : History) → FitInTurn no_tables H
    → standing_of u paper H ≡ standing_at (tables_of H) u paper
standing_of-tables u paper H fits =
    let author = ap (λ (says : ℕ → Bool). at_some says paper) (λ i p. is_author-tables u p H i) in
    let conflicted = ap (λ (says : ℕ → Bool). at_some says paper) (λ i p. is_conflicted-tables u p H i) in
    let reviewer = ap (λ (says : ℕ → Bool). at_some says paper) (λ i p. is_some (ordinal_of-tables u p H fits i)) in
    let external = ap (λ (says : ℕ → Bool). at_some says paper) (λ i p. is_external-tables u p H fits i) in
    λ i. record {
      phase = phase_of-tables H i;
      mode = mode_of-tables H i;
      role = role_of-tables u H fits i;
      author = author i;
      conflicted = conflicted i;
      reviewer = reviewer i;
      external = external i;
    }
