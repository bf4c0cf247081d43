-- SPDX-License-Identifier: Apache-2.0 OR MIT
-- A second statement of who may send a bulk: a chair, while the committee works, who may do what each row asks for,
-- after the rows before it.
use Rattle.std.specs.Prelude.{ℕ, Bool, true, false, not, ◌&&◌, ◌==◌, ◌≡◌, List, [], ◌∷◌, ◌++◌, map, Some}
use Rattle.std.specs.Prelude.{Result, Ok, Err, is_ok, codes}
use Rattle.std.specs.List.{list_any}
use Rattle.std.specs.Str.{bytes_eq}
use Rattle.cr_base.specs.declared.bulk.BulkRow.{BulkRow}
use Rattle.cr_base.specs.declared.command.Command.{Command}
use Rattle.cr_base.specs.declared.command.Command.TheVariants as commands
use Rattle.cr_base.specs.declared.entry.Entry.{Entry}
use Rattle.cr_base.specs.declared.entry.Stamp.{Stamp}
use Rattle.cr_base.specs.declared.reply.Rule.{Rule}
use Rattle.cr_base.specs.declared.reply.Rule.TheVariants as rules
use Rattle.cr_base.specs.declared.words.Kind.TheVariants.{Primary, Secondary, Pc}
use Rattle.cr_base.specs.Bulk.{row_command}
use Rattle.cr_base.specs.Calls.{BulkCall}
use Rattle.cr_base.specs.Drawn.{stamped}
use Rattle.cr_base.specs.History.{History}
use Rattle.cr_base.specs.Parse.{parse_paper, parse_name}
use Rattle.cr_base.specs.TagTexts.{is_tag}
use Rattle.cr_policy.specs.Added.{added}
use Rattle.cr_policy.specs.Judge.{judge_bulk}
use Rattle.cr_policy.specs.Legal.{unnumbered, IsBulkAllowed, Legal}
use Rattle.cr_policy.specs.Sentences.{committee_at_work, chairs, of_some, user_named, a_row}
use Rattle.cr_policy.specs.View.{view}
use Rattle.cr_permissions.specs.MayDo.{may_do}

-- ---- what a row asks for

-- the eight words that a row may have in its column `action`
abbrev pub actions : List (List ℕ)
actions =
    codes "primary" ∷ codes "secondary" ∷ codes "pcreview" ∷ codes "clearreview"
    ∷ codes "conflict" ∷ codes "clearconflict" ∷ codes "tag" ∷ codes "cleartag" ∷ []

-- RowsAsSaid: which command each of the eight words asks for, of the paper and of the user or the tag in its row. Every
-- other word is a bad action, and a tag that isn't valid is a bad tag.
pub record RowsAsSaid : Type 0 where
  pub primary :
      (p u t : List ℕ)
      → row_command (a_row p (codes "primary") u t) ≡ Ok (commands.Assign (parse_paper p) (parse_name u) Primary)
  pub secondary :
      (p u t : List ℕ)
      → row_command (a_row p (codes "secondary") u t) ≡ Ok (commands.Assign (parse_paper p) (parse_name u) Secondary)
  pub pcreview :
      (p u t : List ℕ)
      → row_command (a_row p (codes "pcreview") u t) ≡ Ok (commands.Assign (parse_paper p) (parse_name u) Pc)
  pub clearreview :
      (p u t : List ℕ)
      → row_command (a_row p (codes "clearreview") u t) ≡ Ok (commands.Unassign (parse_paper p) (parse_name u))
  pub conflict :
      (p u t : List ℕ)
      → row_command (a_row p (codes "conflict") u t) ≡ Ok (commands.SetConflict (parse_paper p) (parse_name u) true)
  pub clearconflict : (p u t : List ℕ)
      → row_command (a_row p (codes "clearconflict") u t)
      ≡ Ok (commands.SetConflict (parse_paper p) (parse_name u) false)
  pub tag :
      (p u t : List ℕ)
      → is_tag t ≡ true → row_command (a_row p (codes "tag") u t) ≡ Ok (commands.Tag (parse_paper p) t true)
  pub cleartag :
      (p u t : List ℕ)
      → is_tag t ≡ true → row_command (a_row p (codes "cleartag") u t) ≡ Ok (commands.Tag (parse_paper p) t false)
  pub bad_tag : (p u t : List ℕ) → is_tag t ≡ false → row_command (a_row p (codes "tag") u t) ≡ Err rules.BadTag
  pub bad_cleared_tag :
      (p u t : List ℕ) → is_tag t ≡ false → row_command (a_row p (codes "cleartag") u t) ≡ Err rules.BadTag
  pub bad_action :
      (p a u t : List ℕ) → list_any (bytes_eq a) actions ≡ false → row_command (a_row p a u t) ≡ Err rules.BadAction

-- ---- who may

-- the command turns a conflict of the user `u` on or off
abbrev pub is_of_herself : ℕ → History → Command → Bool
is_of_herself u H (commands.SetConflict paper name on) = of_some (user_named name H) (λ v. v == u)
is_of_herself u H _ = false

-- the actor may do what the row asks for, and it turns no conflict of the actor's own on or off
abbrev pub may_row : Stamp → History → Result Command Rule → Bool
may_row stamp H (Err rule) = false
may_row stamp H (Ok command) =
    not (is_of_herself stamp.maker H command) && may_do (Some stamp.maker) stamp.at H command

-- the history followed by what the row asks for; the history itself if it asks for nothing
abbrev pub with_row : Stamp → History → Result Command Rule → History
with_row stamp H (Err rule) = H
with_row stamp H (Ok command) = H ++ map (λ (e : Entry). stamped stamp false e) (added (Some stamp.maker) H command)

-- the actor may do what each row asks for, on the history followed by what the rows before it ask for
abbrev pub may_rows : Stamp → History → List BulkRow → Bool
may_rows stamp H [] = true
may_rows stamp H (row ∷ rows) =
    may_row stamp H (row_command row) && may_rows stamp (with_row stamp H (row_command row)) rows

-- a chair may send a bulk while the committee works, if `may_rows` holds of its rows; the bulk's number doesn't matter
abbrev pub may_bulk : History → BulkCall → Bool
may_bulk H bulk =
    chairs bulk.stamp.maker H && committee_at_work H && may_rows (unnumbered bulk.stamp) H bulk.rows

-- BulksAsSaid: on a legal history a user's bulk is accepted if and only if `may_bulk` holds
abbrev pub BulksAsSaid : Type 0
BulksAsSaid = (H : History) (bulk : BulkCall) → Legal H → IsBulkAllowed H bulk
    → is_ok (judge_bulk (view (Some bulk.stamp.maker) H) bulk) ≡ may_bulk H bulk
