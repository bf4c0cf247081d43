-- SPDX-License-Identifier: Apache-2.0 OR MIT
-- The rows of a bulk that spell given commands.
use Rattle.std.proofs.Common.{ℕ, Bool, true, false, ◌≡◌, ◌≤◌, List, [], ap, ◌∙◌, Option, Some, None, Result, Ok, Err}
use Rattle.std.proofs.Common.{cond}
use Rattle.std.specs.Prelude.{codes}
use Rattle.std.specs.Fmt.{decimal}
use Rattle.cr_base.specs.declared.bulk.BulkRow.{BulkRow}
use Rattle.cr_base.specs.declared.command.Command.{Command}
use Rattle.cr_base.specs.declared.command.Command.TheVariants as commands
use Rattle.cr_base.specs.declared.reply.Rule.{Rule}
use Rattle.cr_base.specs.declared.reply.Rule.TheVariants as rules
use Rattle.cr_base.specs.declared.words.Kind.{Kind}
use Rattle.cr_base.specs.declared.words.Kind.TheVariants.{Primary, Secondary, Pc}
use Rattle.cr_base.specs.Bulk.{row_command}
use Rattle.cr_base.specs.Parse.{parse_paper, parse_name}
use Rattle.cr_base.specs.TagTexts.{is_tag}
use Rattle.cr_base.specs.Texts.{is_name}
use Rattle.cr_base.proofs.SpelledNumbers.{paper-spelt}

-- ---- rows

-- a row that says what is done of a user
abbrev of_user : List ℕ → ℕ → List ℕ → BulkRow
of_user action p name = record { paper = decimal p; action = action; user = name; tag = [] }

abbrev of_tag : List ℕ → ℕ → List ℕ → BulkRow
of_tag action p tag = record { paper = decimal p; action = action; user = []; tag = tag }

-- a row that tells the command
abbrev pub Spelled : Command → Type 0
Spelled command = (row : BulkRow) × (row_command row ≡ Ok command)

module _ (p : ℕ) (low : 1 ≤ p) (high : p ≤ 9999) where
  module _ (name : List ℕ) (is : is_name name ≡ true) where
    told : (made : Option ℕ → Option (List ℕ) → Command)
        → ◌≡◌ {A = Result Command Rule} (Ok (made (parse_paper (decimal p)) (parse_name name)))
        (Ok (made (Some p) (Some name)))
    told made =
        ap (λ (o : Option ℕ). Ok (made o (parse_name name))) (paper-spelt p low high)
        ∙ ap (λ (b : Bool). Ok (made (Some p) (cond b (Some name) None))) is

    pub assign-spelled : (kind : Kind) → Spelled (commands.Assign (Some p) (Some name) kind)
    unfolding row_command
    assign-spelled Primary = (of_user (codes "primary") p name, told (λ paper user. commands.Assign paper user Primary))
    assign-spelled Secondary =
        (of_user (codes "secondary") p name, told (λ paper user. commands.Assign paper user Secondary))
    assign-spelled Pc = (of_user (codes "pcreview") p name, told (λ paper user. commands.Assign paper user Pc))

    pub unassign-spelled : Spelled (commands.Unassign (Some p) (Some name))
    unfolding row_command
    unassign-spelled = (of_user (codes "clearreview") p name, told commands.Unassign)

    pub conflict-spelled : (on : Bool) → Spelled (commands.SetConflict (Some p) (Some name) on)
    unfolding row_command
    conflict-spelled true =
        (of_user (codes "conflict") p name, told (λ paper user. commands.SetConflict paper user true))
    conflict-spelled false =
        (of_user (codes "clearconflict") p name, told (λ paper user. commands.SetConflict paper user false))

  tagged : (tag : List ℕ) (on : Bool) → is_tag tag ≡ true
      → ◌≡◌ {A = Result Command Rule} (cond (is_tag tag) (Ok (commands.Tag (parse_paper (decimal p)) tag on))
      (Err rules.BadTag)) (Ok (commands.Tag (Some p) tag on))
  tagged tag on is =
      ap (λ (b : Bool). cond b (Ok (commands.Tag (parse_paper (decimal p)) tag on)) (Err rules.BadTag)) is
      ∙ ap (λ (o : Option ℕ). Ok (commands.Tag o tag on)) (paper-spelt p low high)

  pub tag-spelled : (tag : List ℕ) (on : Bool) → is_tag tag ≡ true → Spelled (commands.Tag (Some p) tag on)
  unfolding row_command
  tag-spelled tag true is = (of_tag (codes "tag") p tag, tagged tag true is)
  tag-spelled tag false is = (of_tag (codes "cleartag") p tag, tagged tag false is)
