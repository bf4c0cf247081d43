-- SPDX-License-Identifier: Apache-2.0 OR MIT
use Rattle.std.proofs.Common.{◌≡◌, ◌++◌, drop}
use Rattle.cr_view.specs.Comments.{lines_told}
use Rattle.cr_view.proofs.live.Live.comment_lines.Given as goal

abbrev pub invariant-loop-comment : goal.invariant-loop-comment
invariant-loop-comment l =
    l.lines.items ++ lines_told l.self.tables l.by (drop l.comment-index l.comments) ≡ lines_told l.self.tables l.by
    l.comments
