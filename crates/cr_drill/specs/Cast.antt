-- SPDX-License-Identifier: Apache-2.0 OR MIT
-- Who takes part in a drill, and the commands that its steps make up.
use Rattle.std.specs.Prelude.{ℕ, ◌+◌, ◌%◌, ◌==◌, Bool, true, false, List, []}
use Rattle.std.specs.Prelude.{◌∷◌, ◌++◌, Some, codes, decimal, if◌then◌else◌}
use Rattle.sha2.specs.Sha256.{sha256}
use Rattle.cr_base.specs.declared.command.Command.{Command}
use Rattle.cr_base.specs.declared.command.Command.TheVariants as commands
use Rattle.cr_base.specs.declared.form.Form.{Form}
use Rattle.cr_base.specs.declared.words.Decision.{Decision}
use Rattle.cr_base.specs.declared.words.Decision.TheVariants.{Accept, Reject}
use Rattle.cr_base.specs.declared.words.Kind.TheVariants as seats
use Rattle.cr_base.specs.declared.words.Phase.{Phase}
use Rattle.cr_base.specs.declared.words.Phase.TheVariants as phases
use Rattle.cr_drill.specs.declared.dice.Roll.{Roll}
use Rattle.cr_drill.specs.declared.drill_commands.Operation.{Operation}
use Rattle.cr_drill.specs.declared.drill_commands.Operation.TheVariants as operations

-- ---- users

-- the users of a drill by their numbers, in the order of their registration
abbrev pub cast : List ℕ
cast = 1 ∷ 2 ∷ 3 ∷ 4 ∷ 5 ∷ 6 ∷ 7 ∷ 8 ∷ []

-- how many users there are
abbrev pub cast_size : ℕ
cast_size = 8

-- the user who appoints the others and moves the phase on
abbrev pub first_chair : ℕ
first_chair = 1

-- the user whom the first chair appoints a chair
abbrev pub second_chair : ℕ
second_chair = 2

-- the first of the users who are appointed members
abbrev pub first_member : ℕ
first_member = 3

-- how many users, from the first member on, are appointed members
abbrev pub member_count : ℕ
member_count = 4

-- a user's name: `u` and the digit of the user's number
abbrev pub cast_name : ℕ → List ℕ
cast_name user = 117 ∷ (48 + user) ∷ []

-- the digest of a user's secret
unfoldable pub cast_digest : ℕ → List ℕ
cast_digest user = sha256 (cast_name user ++ codes "-secret-000001")

-- ---- operations

-- one of four values, by the number drawn
abbrev pub one_of_four : {A : Type 0} → A → A → A → A → ℕ → A
one_of_four a b c d n = if n == 0 then a else (if n == 1 then b else (if n == 2 then c else d))

-- what a step in this phase does, by the number drawn
abbrev pub operation_in : Phase → ℕ → Operation
operation_in phases.Submission = one_of_four operations.Declare operations.Upload operations.Submit operations.Submit
operation_in phases.Bidding = one_of_four operations.Bid operations.Tag operations.Assign operations.Assign
operation_in phases.Reviewing = one_of_four operations.Assign operations.Unassign operations.Review operations.Review
operation_in _ = one_of_four operations.Comment operations.Review operations.Decide operations.Clear

-- the operation is a chair's: assigning, unassigning, deciding or clearing; all others are done by the user drawn
abbrev pub is_chairs : Operation → Bool
is_chairs operations.Assign = true
is_chairs operations.Unassign = true
is_chairs operations.Decide = true
is_chairs operations.Clear = true
is_chairs _ = false

-- the number is even
abbrev pub is_even : ℕ → Bool
is_even n = n % 2 == 0

-- the chair who acts for the user drawn: the first if the user's number is even, else the second
abbrev pub chair_for : ℕ → ℕ
chair_for user = if is_even user then first_chair else second_chair

-- the user who does the operation, by the user drawn
abbrev pub actor_of : Operation → ℕ → ℕ
actor_of operation user = if is_chairs operation then chair_for user else user

-- ---- commands

-- the title of a submission: `T` and the number of its step
abbrev pub step_title : ℕ → List ℕ
step_title step = codes "T" ++ decimal step

-- the submission of a step: without an abstract and without co-authors
abbrev pub submission_at : ℕ → Command
submission_at step = commands.Submit (step_title step) [] []

-- the decision, by the number drawn
abbrev pub decision_of : ℕ → Decision
decision_of n = if is_even n then Accept else Reject

-- the form of a review, by the number drawn
abbrev pub form_of : ℕ → Form
form_of n = record { score = 1 + n % 5; confidence = 3; to_authors = codes "a"; to_pc = codes "b" }

-- the command of an operation, by the number of its step and what was drawn; a bid is kept plus 20
abbrev pub command_of : Operation → ℕ → Roll → Command
command_of operations.Declare step roll = commands.SetConflict (Some roll.paper) (Some (cast_name roll.other)) true
command_of operations.Clear step roll = commands.SetConflict (Some roll.paper) (Some (cast_name roll.other)) false
command_of operations.Upload step roll = commands.Upload (Some roll.paper) (codes "x")
command_of operations.Submit step roll = submission_at step
command_of operations.Bid step roll = commands.Bid (Some roll.paper) (16 + roll.other)
command_of operations.Tag step roll = commands.Tag (Some roll.paper) (codes "hot") true
command_of operations.Assign step roll = commands.Assign (Some roll.paper) (Some (cast_name roll.other)) seats.Pc
command_of operations.Unassign step roll = commands.Unassign (Some roll.paper) (Some (cast_name roll.other))
command_of operations.Review step roll = commands.Review (Some roll.paper) (form_of roll.other)
command_of operations.Comment step roll = commands.Comment (Some roll.paper) (codes "c")
command_of operations.Decide step roll = commands.Decide (Some roll.paper) (decision_of roll.other)
