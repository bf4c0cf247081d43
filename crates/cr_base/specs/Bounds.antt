-- SPDX-License-Identifier: Apache-2.0 OR MIT
-- The bounds on one command: what a body has to be within, so that no entry is added that no row
-- spells. A bid is kept plus 20.
use Rattle.std.specs.Prelude.{ℕ, ◌≡◌, ◌≤◌, length, IsTrue}
use Rattle.cr_base.specs.declared.command.Command.{Command}
use Rattle.cr_base.specs.declared.command.Command.TheVariants.{Register, Submit, Revise, Upload}
use Rattle.cr_base.specs.declared.command.Command.TheVariants.{Name, Bid, Review, Respond, Comment, Tag, SetDeadline}
use Rattle.cr_base.specs.declared.form.Form.{Form}
use Rattle.cr_base.specs.Deadlines.{IsDeadlineOrNone}
use Rattle.cr_base.specs.Phases.{may_have_deadline}
use Rattle.cr_base.specs.TagTexts.{is_tag}
use Rattle.cr_base.specs.Texts.{IsName, IsTitle, IsAbstract, IsContent, IsReviewText, IsCommentText}
use Rattle.cr_base.specs.Words.{is_member}

-- a score, or a confidence
abbrev pub IsGrade : ℕ → Type 0
IsGrade n = (1 ≤ n) × (n ≤ 5)

-- what a form has is within its bounds
pub record IsForm (form : Form) : Type 0 where
  pub score : IsGrade form.score
  pub confidence : IsGrade form.confidence
  pub to_authors : IsReviewText form.to_authors
  pub to_pc : IsReviewText form.to_pc

-- the texts and numbers of a command are within their bounds
abbrev pub IsBoundedCommand : Command → Type 0
IsBoundedCommand (Register name digest) = IsName name × (length digest ≡ 32)
IsBoundedCommand (Submit title abstract authors) = IsTitle title × IsAbstract abstract × (length authors ≤ 19)
IsBoundedCommand (Revise paper title abstract) = IsTitle title × IsAbstract abstract
IsBoundedCommand (Upload paper content) = IsContent content
IsBoundedCommand (Name user role) = IsTrue (is_member role)
IsBoundedCommand (Bid paper value) = value ≤ 40
IsBoundedCommand (Review paper form) = IsForm form
IsBoundedCommand (Respond paper text) = IsCommentText text
IsBoundedCommand (Comment paper text) = IsCommentText text
IsBoundedCommand (Tag paper tag on) = IsTrue (is_tag tag)
IsBoundedCommand (SetDeadline phase until) = IsTrue (may_have_deadline phase) × IsDeadlineOrNone until
IsBoundedCommand _ = Unit {0}
