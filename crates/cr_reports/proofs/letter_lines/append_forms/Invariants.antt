-- SPDX-License-Identifier: Apache-2.0 OR MIT
use Rattle.std.proofs.Common.{◌≡◌, ◌++◌}
use Rattle.cr_base.specs.Labels.{by_labels}
use Rattle.cr_reports.specs.ReportLines.{forms_under}
use Rattle.cr_reports.proofs.letter_lines.append_forms.Given as goal

abbrev pub invariant-loop-before : goal.invariant-loop-before
invariant-loop-before l =
    l.into.items ≡ l.initial.into.items ++ by_labels (forms_under l.live.tables l.by l.fn.paper) l.before
