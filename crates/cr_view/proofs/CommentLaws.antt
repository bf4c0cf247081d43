-- SPDX-License-Identifier: Apache-2.0 OR MIT
-- What a caller is told of the comments on a paper, by reads of the tables.
use Rattle.std.proofs.Common.{ℕ, ◌≡◌, ◌<◌, ◌+◌, List, [], ◌∷◌, ◌++◌, length, drop, get_or, refl}
use Rattle.cr_base.specs.declared.comment.Comment.{Comment}
use Rattle.cr_base.specs.declared.comment.CommentLine.{CommentLine}
use Rattle.cr_base.specs.declared.standing.Standing.{Standing}
use Rattle.cr_base.specs.Accounts.{lines_of}
use Rattle.cr_base.specs.Answering.{comment_line}
use Rattle.cr_base.specs.Tables.{Tables}
use Rattle.cr_base.specs.Talk.{comment_as_told}
use Rattle.cr_view.specs.Comments.{lines_told}
use Rattle.cr_view.proofs.AnswerLaws.{walk-step}

-- one more comment
pub comments-step : (t : Tables) (by : Standing) (comments : List Comment) (i : ℕ) (other : Comment)
    (before after wanted : List CommentLine)
    → i < length comments → after ≡ before ++ comment_line by (lines_of t.accounts)
    (comment_as_told (get_or comments i other)) ∷ []
    → before ++ lines_told t by (drop i comments) ≡ wanted
    → after ++ lines_told t by (drop (i + 1) comments) ≡ wanted
comments-step t by comments i other before after wanted within pushed told =
    let first : List CommentLine =
    comment_line by (lines_of t.accounts) (comment_as_told (get_or comments i other)) ∷ [] in
    walk-step (lines_told t by) first comments i other before after wanted within (λ rest. refl) pushed told
