-- SPDX-License-Identifier: Apache-2.0 OR MIT
-- A drill: the history that Step gives for commands that are made up from a seed, and its summary (docs/API.md, the
-- appendix).
use Rattle.std.specs.Prelude.{ℕ, zero, suc, ◌+◌, ◌*◌, ◌/◌, ◌==◌, not, ◌&&◌, Bool}
use Rattle.std.specs.Prelude.{List, [], ◌∷◌, ◌++◌, Option, Some, None, fold, length}
use Rattle.std.specs.Prelude.{codes, decimal, is_ok, if◌then◌else◌}
use Rattle.std.specs.List.{flat_map}
use Rattle.cr_base.specs.declared.command.Call.{Call}
use Rattle.cr_base.specs.declared.command.Command.{Command}
use Rattle.cr_base.specs.declared.command.Command.TheVariants.{Register, Name, SetPhase}
use Rattle.cr_base.specs.declared.entry.EntryKind.{EntryKind}
use Rattle.cr_base.specs.declared.entry.EntryKind.TheVariants as kinds
use Rattle.cr_base.specs.declared.words.Phase.{Phase}
use Rattle.cr_base.specs.declared.words.Phase.TheVariants.{Submission, Bidding, Reviewing}
use Rattle.cr_base.specs.declared.words.Phase.TheVariants.{Discussion, Notification, Closed}
use Rattle.cr_base.specs.declared.words.Role.{Role}
use Rattle.cr_base.specs.declared.words.Role.TheVariants.{Member, Chair}
use Rattle.cr_base.specs.Calls.{call_of}
use Rattle.cr_base.specs.History.{History}
use Rattle.cr_base.specs.HistoryFacts.{phase_of, papers_of}
use Rattle.cr_base.specs.Phases.{is_from}
use Rattle.cr_book.specs.Kinds.{count_of_kind}
use Rattle.cr_policy.specs.Judge.{judge}
use Rattle.cr_policy.specs.Legal.{step}
use Rattle.cr_policy.specs.View.{view}
use Rattle.cr_drill.specs.Cast.{cast, cast_size, first_chair, second_chair}
use Rattle.cr_drill.specs.Cast.{first_member, member_count, cast_name, cast_digest}
use Rattle.cr_drill.specs.Cast.{operation_in, actor_of, command_of}
use Rattle.cr_drill.specs.Dice.{roll_of, after_roll}

-- ---- calls

-- the command of this caller in a drill, where all requests come at the first moment, and no command has a number
abbrev pub drill_call : Option ℕ → Command → Call
drill_call caller command = call_of caller 0 None command

-- Judge accepts the call
abbrev pub is_accepted : History → Call → Bool
is_accepted H call = is_ok (judge (view call.caller H) call)

-- ---- phases

-- the phases to which a drill's conference moves on, in order: it skips the response
abbrev pub later_phases : List Phase
later_phases = Submission ∷ Bidding ∷ Reviewing ∷ Discussion ∷ Notification ∷ Closed ∷ []

-- this phase is after the current one, and is the wanted one or before it
abbrev pub is_on_way : Phase → History → Phase → Bool
is_on_way wanted H phase = not (is_from phase (phase_of H)) && is_from phase wanted

-- the history after one move to this phase, if it is on the way to the wanted one; else the history itself
abbrev pub moved_on : Phase → History → Phase → History
moved_on wanted H phase =
    if is_on_way wanted H phase then step H (drill_call (Some first_chair) (SetPhase phase)) else H

-- the history after the moves to those of these phases that are on the way to the wanted one
abbrev pub moved_through : Phase → History → List Phase → History
moved_through wanted H phases = fold (moved_on wanted) H phases

-- the history after the first chair has moved the conference on to the wanted phase
unfoldable pub moved_to : Phase → History → History
moved_to wanted H = moved_through wanted H later_phases

-- ---- before the steps

-- the first n users register, with digests by their numbers
abbrev pub registered_first : (ℕ → List ℕ) → ℕ → History
registered_first digest zero = []
registered_first digest (suc n) =
    step (registered_first digest n) (drill_call None (Register (cast_name (suc n)) (digest (suc n))))

-- the history after the first chair has appointed a user to this role
abbrev pub named : Role → ℕ → History → History
named role user H = step H (drill_call (Some first_chair) (Name (Some (cast_name user)) role))

-- the history after the first chair has appointed the first n members
abbrev pub members_named : ℕ → History → History
members_named zero H = H
members_named (suc n) H = named Member (first_member + n) (members_named n H)

-- the history in which all users of the cast have registered
unfoldable pub all_registered : History
all_registered = registered_first cast_digest cast_size

-- the history from which the steps begin: users are registered, the second chair and the members are appointed, and the
-- phase is the submission
unfoldable pub opened : History
opened = moved_to Submission (members_named member_count (named Chair second_chair all_registered))

-- ---- the steps

-- what a drill has come to: what its generator holds, the history, and how many steps were accepted and refused
pub record Drilled : Type 0 where
  pub seed : ℕ
  pub history : History
  pub accepted : ℕ
  pub refused : ℕ

-- the phase of each quarter of a drill
abbrev pub phase_in_quarter : ℕ → Phase
phase_in_quarter n =
    if n == 0 then Submission else (if n == 1 then Bidding else (if n == 2 then Reviewing else Discussion))

-- the phase of step s of this many
unfoldable pub phase_at : ℕ → ℕ → Phase
phase_at steps s = phase_in_quarter (4 * s / steps)

-- the call of step s in a phase, on this history, by what the generator holds
abbrev pub call_at : Phase → ℕ → History → ℕ → Call
call_at phase s H seed =
    let roll = roll_of (length (papers_of H)) seed in
    let operation = operation_in phase roll.operation in
    drill_call (Some (actor_of operation roll.user)) (command_of operation s roll)

-- the drill after this call
abbrev pub asked : Drilled → Call → Drilled
asked d call = record {
  seed = after_roll d.seed;
  history = step d.history call;
  accepted = d.accepted + (if is_accepted d.history call then 1 else 0);
  refused = d.refused + (if is_accepted d.history call then 0 else 1);
}

-- the drill after a step in this phase, to which the conference has moved on
abbrev pub stepped_in : Phase → ℕ → Drilled → Drilled
stepped_in phase s d =
    let moved = record d { history = moved_to phase d.history } in
    asked moved (call_at phase s moved.history moved.seed)

-- the drill after step s of this many
unfoldable pub stepped : ℕ → ℕ → Drilled → Drilled
stepped steps s d = stepped_in (phase_at steps s) s d

-- the drill after the first n of this many steps
abbrev pub drilled_for : ℕ → ℕ → ℕ → Drilled
drilled_for seed steps zero = record { seed = seed; history = opened; accepted = 0; refused = 0 }
drilled_for seed steps (suc n) = stepped steps n (drilled_for seed steps n)

-- the drill after all its steps and with the conference closed
unfoldable pub drilled : ℕ → ℕ → Drilled
drilled seed steps = let d = drilled_for seed steps steps in record d { history = moved_to Closed d.history }

-- ---- the summary

-- the kinds of entries in the order of their numbers
abbrev pub every_kind : List EntryKind
every_kind =
    kinds.Registered ∷ kinds.Named ∷ kinds.PhaseSet ∷ kinds.ModeSet ∷ kinds.Submitted ∷ kinds.Coauthor ∷ kinds.Revised
    ∷ kinds.Uploaded ∷ kinds.Withdrawn ∷ kinds.Conflict ∷ kinds.Bid ∷ kinds.Assigned
    ∷ kinds.Unassigned ∷ kinds.Reviewed
    ∷ kinds.Commented ∷ kinds.Tagged ∷ kinds.Decided ∷ kinds.DeadlineSet
    ∷ kinds.Dismissed ∷ kinds.Invited ∷ kinds.Uninvited ∷ kinds.Responded ∷ []

-- a word and a number after it
abbrev pub counted : List ℕ → ℕ → List ℕ
counted word n = word ++ decimal n

-- the line on the steps: how many there were, were accepted, and were refused
unfoldable pub steps_line : ℕ → ℕ → ℕ → List ℕ
steps_line steps accepted refused =
    counted (codes "steps ") steps ++ counted (codes ", accepted ") accepted
    ++ counted (codes ", refused ") refused ++ codes "\n"

-- the line on how many entries there are, as in the last line of `serve`
unfoldable pub entries_line : ℕ → List ℕ
entries_line entries = codes "entries " ++ decimal entries ++ codes "\n"

-- how many entries are of each kind
abbrev pub kinds_text : History → List EntryKind → List ℕ
kinds_text H kinds = flat_map (λ (kind : EntryKind). counted (codes " ") (count_of_kind kind H)) kinds

-- the line on how many entries are of each kind
unfoldable pub kinds_line : History → List ℕ
kinds_line H = codes "kinds" ++ kinds_text H every_kind ++ codes "\n"

-- how many sightings each user's view has
abbrev pub views_text : History → List ℕ → List ℕ
views_text H users = flat_map (λ (user : ℕ). counted (codes " ") (length (view (Some user) H))) users

-- the line on how many sightings each user's view has
unfoldable pub views_line : History → List ℕ
views_line H = codes "views" ++ views_text H cast ++ codes "\n"

-- the summary of a drill
unfoldable pub summary : ℕ → Drilled → List ℕ
summary steps d =
    steps_line steps d.accepted d.refused ++ entries_line (length d.history)
    ++ kinds_line d.history ++ views_line d.history
