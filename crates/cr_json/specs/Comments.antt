-- SPDX-License-Identifier: Apache-2.0 OR MIT
-- A comment, as the comments on a paper tell it.
use Rattle.std.specs.Prelude.{ℕ, List, ◌++◌, Some, codes, decimal}
use Rattle.std.specs.Option.{option_map}
use Rattle.json.specs.Print.{quoted}
use Rattle.cr_base.specs.declared.comment.CommentLine.{CommentLine}
use Rattle.cr_json.specs.Json.{Member, label_text, member_of, object_text}

-- the keys of a comment in the order of their bytes, label and user where they are told
unfoldable pub comment_members : CommentLine → List Member
comment_members comment =
    member_of (codes "label") (option_map label_text comment.label)
    ++ member_of (codes "n") (Some (decimal comment.n))
    ++ member_of (codes "text") (Some (quoted comment.text))
    ++ member_of (codes "user") (option_map quoted comment.user)

-- the JSON object of a comment
abbrev pub comment_text : CommentLine → List ℕ
comment_text comment = object_text (comment_members comment)
