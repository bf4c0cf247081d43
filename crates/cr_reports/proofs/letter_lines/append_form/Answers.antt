-- SPDX-License-Identifier: Apache-2.0 OR MIT
use Rattle.std.proofs.Common.{◌≡◌, ◌∙◌, List, ℕ, subst}
use Rattle.std.specs.Prelude.{OnOk}
use Rattle.cr_base.specs.Reviews.{written_told}
use Rattle.cr_reports.proofs.LetterLaws.{form-appended}
use Rattle.cr_reports.proofs.letter_lines.append_form.Goals as goal

pub returns : goal.returns
returns c =
    subst (λ (l : List ℕ). OnOk c.end_line.result (c.end_line.new.into.items ≡ l))
    (form-appended c.args.label c.args.writer.now (written_told c.args.written.now) c.args.into.now.items
    c.append_heading.new.into.items
    c.append_grades.new.into.items c.append.new.into.items c.as_bytes.result.now
    c.in_ok-append_heading.ensures c.in_ok-append_grades.ensures c.in_ok-append.ensures
    (c.as_bytes.ensures.value ∙ c.as_str.ensures))
    c.end_line.ensures
