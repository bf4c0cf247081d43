-- SPDX-License-Identifier: Apache-2.0 OR MIT
use Rattle.std.proofs.Common.{◌≡◌, ◌∙◌, List, ℕ, Option, ap, subst}
use Rattle.std.specs.Prelude.{OnOk}
use Rattle.cr_base.specs.declared.words.Decision.{Decision}
use Rattle.cr_base.specs.Reports.{decision_word}
use Rattle.cr_view.specs.PaperSeen.{PaperSeen, decision_seen}
use Rattle.cr_reports.specs.ReportLines.{titled}
use Rattle.cr_reports.proofs.LetterLaws.{letter-is}
use Rattle.cr_reports.proofs.letter_lines.append_letter.Goals as goal

pub returns : goal.returns
returns c =
    let t = c.args.live.now.tables in
    let seen = c.facts-facts.ensures.facts in
    subst (λ (l : List ℕ). OnOk c.append_forms.result (c.append_forms.new.into.items ≡ l))
    (letter-is t c.args.user c.args.paper c.args.into.now.items c.append_named.new.into.items
    c.append_decided.new.into.items
    c.title.result.now c.decision_word.result.now c.by.result.now
    c.in_ok-append_named.ensures (c.title.ensures ∙ ap (λ (s : PaperSeen). titled s) seen)
    c.in_ok-append_decided.ensures
    (c.decision_word.ensures ∙ ap (λ (d : Option Decision). decision_word d) c.decision.ensures
    ∙ ap (λ (s : PaperSeen). decision_word (decision_seen s)) seen)
    (c.by.ensures ∙ ap (λ (s : PaperSeen). s.by) seen))
    c.append_forms.ensures
