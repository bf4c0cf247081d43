-- SPDX-License-Identifier: Apache-2.0 OR MIT
-- The decisions that a history tells are those that the table of decisions has.
use Rattle.std.proofs.Common.{ℕ, Bool, ◌≡◌, List, ◌++◌, append_assoc, append-nil, sym, ap, ◌∙◌, Option}
use Rattle.cr_base.specs.declared.entry.Entry.{Entry}
use Rattle.cr_base.specs.declared.entry.Entry.TheVariants.{Decided}
use Rattle.cr_base.specs.declared.entry.Stamped.{Stamped}
use Rattle.cr_base.specs.declared.words.Decision.{Decision}
use Rattle.cr_base.specs.declared.words.Phase.{Phase}
use Rattle.cr_base.specs.Decisions.{DecisionsState, decisions_after, decision_in, is_accepted_when}
use Rattle.cr_base.specs.Filed.{filed, filed_of}
use Rattle.cr_base.specs.History.{History, decision_told}
use Rattle.cr_base.specs.HistoryFacts.{is_withdrawn, decision_of, is_accepted}
use Rattle.cr_base.specs.Lists.{given, last}
use Rattle.cr_base.specs.Papers.{is_withdrawn_at}
use Rattle.cr_base.specs.Sources.{is_accepted_in}
use Rattle.cr_base.specs.Tables.{Tables, no_tables, tables_of, FitInTurn}
use Rattle.cr_base.proofs.FiledLaws.{filed_of-with_filed}
use Rattle.cr_base.proofs.Small.{eqb-swap}
use Rattle.cr_history.proofs.Folds.{told-always}
use Rattle.cr_history.proofs.PaperAgreement.{is_withdrawn-tables}
use Rattle.cr_history.proofs.StageAgreement.{phase_of-tables}

decisions-entry : (p : ℕ) (decisions : DecisionsState) (e : Entry)
    → filed_of p decisions ++ decision_told p e ≡ filed_of p (decisions_after decisions e)
decisions-entry p decisions (Decided paper decision) =
    ap (λ b. filed_of p decisions ++ given b decision) (eqb-swap paper p)
    ∙ sym (filed_of-with_filed p (filed paper decision) decisions)
decisions-entry p decisions e = append-nil (filed_of p decisions)

-- the last decision on a paper is the last that the table has
pub decision_of-tables : (p : ℕ) (H : History) → decision_of p H ≡ decision_in (tables_of H).decisions p
decision_of-tables p H =
    ap last (told-always ◌++◌ append-nil (λ (t : Tables). filed_of p t.decisions)
    (λ (s : Stamped). decision_told p s.entry)
    (λ t s rest.
    sym (append_assoc (filed_of p t.decisions) (decision_told p s.entry) rest)
    ∙ ap (λ (ds : List Decision). ds ++ rest) (decisions-entry p t.decisions s.entry)) no_tables H)

-- a paper is accepted where the tables say so
pub is_accepted-tables : (p : ℕ) (H : History) → FitInTurn no_tables H
    → is_accepted p H ≡ is_accepted_in (tables_of H) p
is_accepted-tables p H fits =
    let t : Tables = tables_of H in
    ap (λ (now : Phase). is_accepted_when now (is_withdrawn p H) (decision_of p H)) (phase_of-tables H)
    ∙ ap (λ (gone : Bool). is_accepted_when t.stage.phase gone (decision_of p H)) (is_withdrawn-tables p H fits)
    ∙ ap (λ (o : Option Decision). is_accepted_when t.stage.phase (is_withdrawn_at t.papers p) o)
    (decision_of-tables p H)
