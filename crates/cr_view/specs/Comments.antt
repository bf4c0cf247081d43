-- SPDX-License-Identifier: Apache-2.0 OR MIT
-- What a caller is told of the comments on a paper, by the tables.
use Rattle.std.specs.Prelude.{ℕ, not, List, map, Option, Result}
use Rattle.cr_base.specs.declared.command.Query.TheVariants as queries
use Rattle.cr_base.specs.declared.comment.Comment.{Comment}
use Rattle.cr_base.specs.declared.comment.CommentLine.{CommentLine}
use Rattle.cr_base.specs.declared.reply.Rule.{Rule}
use Rattle.cr_base.specs.declared.standing.Standing.{Standing}
use Rattle.cr_base.specs.Accounts.{lines_of}
use Rattle.cr_base.specs.Answering.{comment_line, comments_by}
use Rattle.cr_base.specs.Page.{shows_writer, where_told}
use Rattle.cr_base.specs.Sources.{shown_in_tables, name_in}
use Rattle.cr_base.specs.Tables.{Tables}
use Rattle.cr_base.specs.Talk.{comment_as_told}
use Rattle.cr_view.specs.Replies.{facts_at, due_at}

-- the name of the user who wrote a comment, if a caller with this standing is told it
abbrev pub writer_name : Tables → Standing → ℕ → Option (List ℕ)
writer_name t by writer = where_told (shows_writer by) (name_in (lines_of t.accounts) writer)

-- the label under which the writer of a comment reviews the paper, if a caller with this standing is told it
abbrev pub writer_label : Standing → Option ℕ → Option ℕ
writer_label by ordinal = where_told (not (shows_writer by)) ordinal

-- the comments, as a caller with this standing at their paper is told them
abbrev pub lines_told : Tables → Standing → List Comment → List CommentLine
lines_told t by comments = map (comment_line by (lines_of t.accounts)) (map comment_as_told comments)

-- the comments on the paper that a user with this standing at it is told
abbrev pub comments_at : Tables → Option ℕ → Standing → ℕ → List CommentLine
comments_at t user by p = comments_by (facts_at t user by) (shown_in_tables t) p

-- the comments on the paper that are due to a user, or the first broken rule
abbrev pub comments_due : Tables → Option ℕ → Option ℕ → Result (List CommentLine) Rule
comments_due t user paper = due_at queries.Comments comments_by t user paper
