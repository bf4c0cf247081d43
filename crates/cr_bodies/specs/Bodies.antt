-- SPDX-License-Identifier: Apache-2.0 OR MIT
-- The one table of bodies: which members the body of each request must have, and which command they tell. It is the
-- server's own (docs/API.md).
use Rattle.std.specs.Prelude.{ℕ, List, Option, Some, None, codes}
use Rattle.serde_json.specs.Data.{Data}
use Rattle.cr_base.specs.declared.command.Command.{Command}
use Rattle.cr_base.specs.declared.command.Command.TheVariants as commands
use Rattle.cr_bodies.specs.Field.{◌>>=◌, abstract_under, bid_under, comment_under, decision_under}
use Rattle.cr_bodies.specs.Field.{digest_under, flag_under, grade_under, kind_under}
use Rattle.cr_bodies.specs.Field.{mode_under, name_under, names_under, phase_under}
use Rattle.cr_bodies.specs.Field.{review_text_under, role_under, title_under, user_under}
use Rattle.cr_bodies.specs.Json.{json_of}
use Rattle.cr_bodies.specs.Until.{deadline_phase_under, until_under}
use Rattle.cr_base.specs.declared.ask.Task.{Task}
use Rattle.cr_base.specs.declared.ask.Task.TheVariants as tasks

-- the command that a JSON value tells a request for this task, with the paper that its path tells: a line for each
-- member that must be there, or may be. `None` is a bad body. The last tasks are told by no JSON value.
abbrev pub command_in : Task → Option ℕ → Data → Option Command
command_in tasks.Register paper d = do
  name ← name_under (codes "name") d
  digest ← digest_under (codes "secret") d
  Some (commands.Register name digest)
command_in tasks.Name paper d = do
  user ← user_under (codes "name") d
  role ← role_under (codes "role") d
  Some (commands.Name user role)
command_in tasks.SetMode paper d = do
  mode ← mode_under (codes "mode") d
  Some (commands.SetMode mode)
command_in tasks.SetPhase paper d = do
  phase ← phase_under (codes "phase") d
  Some (commands.SetPhase phase)
command_in tasks.SetDeadline paper d = do
  phase ← deadline_phase_under (codes "phase") d
  until ← until_under (codes "until") d
  Some (commands.SetDeadline phase until)
command_in tasks.Submit paper d = do
  title ← title_under (codes "title") d
  abstract ← abstract_under (codes "abstract") d
  authors ← names_under (codes "authors") d
  Some (commands.Submit title abstract authors)
command_in tasks.Revise paper d = do
  title ← title_under (codes "title") d
  abstract ← abstract_under (codes "abstract") d
  Some (commands.Revise paper title abstract)
command_in tasks.SetConflict paper d = do
  on ← flag_under (codes "on") d
  user ← user_under (codes "user") d
  Some (commands.SetConflict paper user on)
command_in tasks.Bid paper d = do
  bid ← bid_under (codes "bid") d
  Some (commands.Bid paper bid)
command_in tasks.Assign paper d = do
  kind ← kind_under (codes "kind") d
  user ← user_under (codes "user") d
  Some (commands.Assign paper user kind)
command_in tasks.Invite paper d = do
  user ← user_under (codes "user") d
  Some (commands.Invite paper user)
command_in tasks.Review paper d = do
  score ← grade_under (codes "score") d
  confidence ← grade_under (codes "confidence") d
  to_authors ← review_text_under (codes "to_authors") d
  to_pc ← review_text_under (codes "to_pc") d
  Some (commands.Review paper
      (record { score = score; confidence = confidence; to_authors = to_authors; to_pc = to_pc }))
command_in tasks.Respond paper d = do
  text ← comment_under (codes "text") d
  Some (commands.Respond paper text)
command_in tasks.Comment paper d = do
  text ← comment_under (codes "text") d
  Some (commands.Comment paper text)
command_in tasks.Decide paper d = do
  decision ← decision_under (codes "decision") d
  Some (commands.Decide paper decision)
command_in task paper d = None

-- the command that the bytes of a body, as JSON, tell a request for this task; `None` is a bad body
abbrev pub command_read : Task → Option ℕ → List ℕ → Option Command
command_read task paper body = json_of body >>= command_in task paper
