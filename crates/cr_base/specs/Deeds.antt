-- SPDX-License-Identifier: Apache-2.0 OR MIT
-- What a command asks and does, whatever its stamp; its users are told by number.
use Rattle.std.specs.Prelude.{ℕ, Bool, true, not, ◌+◌, List, [], ◌∷◌, length, Option, Some, None, is_some, unwrap_or}
use Rattle.std.specs.Prelude.{Result}
use Rattle.std.specs.List.{list_all}
use Rattle.std.specs.Option.{option_map, option_map_or}
use Rattle.cr_base.specs.declared.entry.Entry.{Entry}
use Rattle.cr_base.specs.declared.entry.Entry.TheVariants as entries
use Rattle.cr_base.specs.declared.entry.Stamp.{Stamp}
use Rattle.cr_base.specs.declared.reply.AccountLine.{AccountLine}
use Rattle.cr_base.specs.declared.reply.Rule.{Rule}
use Rattle.cr_base.specs.declared.resolved.ResolvedCommand.{ResolvedCommand}
use Rattle.cr_base.specs.declared.resolved.ResolvedCommand.TheVariants.{Register, SetPhase, Submit, Revise, Upload}
use Rattle.cr_base.specs.declared.resolved.ResolvedCommand.TheVariants.{Withdraw, Name, SetMode, SetConflict, Bid}
use Rattle.cr_base.specs.declared.resolved.ResolvedCommand.TheVariants.{Assign, Unassign, Review, Comment, Tag}
use Rattle.cr_base.specs.declared.resolved.ResolvedCommand.TheVariants.{Decide, SetDeadline, Dismiss, Invite}
use Rattle.cr_base.specs.declared.resolved.ResolvedCommand.TheVariants.{Uninvite, Respond}
use Rattle.cr_base.specs.declared.target.Target.{Target}
use Rattle.cr_base.specs.Accounts.{chair_count}
use Rattle.cr_base.specs.Checks.{Check, judged, of_role, register_checks, phase_checks, deadline_checks, submit_checks}
use Rattle.cr_base.specs.Checks.{revise_checks, upload_checks, name_checks, mode_checks, conflict_checks, bid_checks}
use Rattle.cr_base.specs.Checks.{assign_checks, unassign_checks, review_checks, respond_checks, comment_checks}
use Rattle.cr_base.specs.Checks.{tag_checks, decide_checks, dismiss_checks, invite_checks, uninvite_checks}
use Rattle.cr_base.specs.Drawn.{Drawn, grouped, receipt_of, coauthor_entries, behind_registration}
use Rattle.cr_base.specs.Lists.{at_some}
use Rattle.cr_base.specs.Sources.{Facts, Shown, number_in, role_among, is_there, name_told_by, paper_named}
use Rattle.cr_base.specs.Sources.{target_named, is_late}
use Rattle.cr_base.specs.TagTexts.{is_for_chairs}

-- what a command asks and does, whatever its stamp: its rules, the actor of its entries, the first of these, by which
-- it is answered, and those after it
pub record Deed : Type 0 where
  pub checks : List Check
  pub maker : ℕ
  pub first : Entry
  pub behind : List Entry

-- a deed of one entry
abbrev pub one : ℕ → List Check → Entry → Deed
one maker checks entry = record { checks = checks; maker = maker; first = entry; behind = [] }

-- a user, who may not be there, of whom a rule asks only the role
abbrev pub role_asked : Facts → Option ℕ → Option Target
role_asked facts user = option_map of_role (role_among facts.accounts user)

-- a co-author isn't there: one of the names told, or one of the numbers, is no user's
abbrev pub is_missing : List AccountLine → Option (List ℕ) → Bool
is_missing accounts users = option_map_or (λ (us : List ℕ). not (list_all (is_there accounts) us)) users true

-- a line for each command; `late` says that it is too late for what the phase opens
abbrev pub deed : Facts → Shown → ℕ → Bool → ResolvedCommand → Deed
deed facts shown maker late (Register name digest) =
    let user = length facts.accounts + 1 in
    record {
      checks = register_checks (is_some (number_in facts.accounts name)) (length facts.accounts);
      maker = user;
      first = entries.Registered user name digest;
      behind = behind_registration user;
    }
deed facts shown maker late (SetPhase to) =
    one maker (phase_checks (facts.standing None) (facts.standing None).phase to) (entries.PhaseSet to)
deed facts shown maker late (Submit title abstract authors) =
    let paper = length facts.papers + 1 in
    record {
      checks =
          submit_checks (is_missing facts.accounts authors) (facts.standing None) (length facts.papers) facts.own_papers
          late;
      maker = maker;
      first = entries.Submitted paper title abstract;
      behind = coauthor_entries maker paper (unwrap_or authors []);
    }
deed facts shown maker late (Revise paper title abstract) =
    one maker (revise_checks (facts.standing paper) (paper_named facts shown paper) late)
    (entries.Revised (unwrap_or paper 0) title abstract)
deed facts shown maker late (Upload paper content) =
    one maker
    (upload_checks (facts.standing paper) (paper_named facts shown paper) facts.own_bytes (length content) late)
    (entries.Uploaded (unwrap_or paper 0) (length (shown.uploads (unwrap_or paper 0)) + 1) content)
deed facts shown maker late (Withdraw paper) =
    one maker (revise_checks (facts.standing paper) (paper_named facts shown paper) late)
    (entries.Withdrawn (unwrap_or paper 0))
deed facts shown maker late (Name target role) =
    one maker
    (name_checks (facts.standing None) (role_asked facts target) role)
    (entries.Named (unwrap_or target 0) role)
deed facts shown maker late (SetMode to) =
    one maker (mode_checks (facts.standing None) (facts.standing None).phase) (entries.ModeSet to)
deed facts shown maker late (SetConflict paper target on) =
    one maker
    (conflict_checks (facts.standing paper) (paper_named facts shown paper)
    (target_named facts shown (Some maker) paper target) on late)
    (entries.Conflict (unwrap_or paper 0) (unwrap_or target 0) on)
deed facts shown maker late (Bid paper value) =
    one maker (bid_checks (facts.standing paper) (paper_named facts shown paper) late)
    (entries.Bid (unwrap_or paper 0) value)
deed facts shown maker late (Assign paper target kind) =
    let labels = shown.labels (unwrap_or paper 0) in
    one maker
    (assign_checks (facts.standing paper) (paper_named facts shown paper)
    (target_named facts shown (Some maker) paper target) labels)
    (entries.Assigned (unwrap_or paper 0) (unwrap_or target 0) kind (labels + 1))
deed facts shown maker late (Unassign paper target) =
    let p = unwrap_or paper 0 in
    let ordinal = shown.ordinal target p in
    one maker
    (unassign_checks (facts.standing paper) (paper_named facts shown paper)
    (target_named facts shown (Some maker) paper target) (at_some (shown.written p) ordinal))
    (entries.Unassigned p (unwrap_or target 0) (unwrap_or ordinal 0))
deed facts shown maker late (Review paper form) =
    let p = unwrap_or paper 0 in
    one maker (review_checks (facts.standing paper) (paper_named facts shown paper) late)
    (entries.Reviewed p (unwrap_or (facts.own_ordinal p) 0) (length (facts.own_forms p) + 1) form)
deed facts shown maker late (Comment paper text) =
    let p = unwrap_or paper 0 in
    one maker (comment_checks (facts.standing paper) (paper_named facts shown paper) facts.own_comments late)
    (entries.Commented p (length (shown.comments p) + 1) (facts.own_ordinal p) text)
deed facts shown maker late (Tag paper tag on) =
    one maker (tag_checks (facts.standing paper) (paper_named facts shown paper) (is_for_chairs tag))
    (entries.Tagged (unwrap_or paper 0) tag on)
deed facts shown maker late (Decide paper decision) =
    one maker (decide_checks (facts.standing paper) (paper_named facts shown paper))
    (entries.Decided (unwrap_or paper 0) decision)
deed facts shown maker late (SetDeadline phase until) =
    one maker (deadline_checks (facts.standing None) (facts.standing None).phase phase)
    (entries.DeadlineSet phase until)
deed facts shown maker late (Dismiss target) =
    one maker
    (dismiss_checks (facts.standing None) (role_asked facts target)
    (chair_count facts.accounts))
    (entries.Dismissed (unwrap_or target 0))
deed facts shown maker late (Invite paper target) =
    one maker
    (invite_checks (facts.standing paper) (paper_named facts shown paper)
    (target_named facts shown (Some maker) paper target) (at_some (shown.invited target) paper))
    (entries.Invited (unwrap_or paper 0) (unwrap_or target 0))
deed facts shown maker late (Uninvite paper target) =
    one maker
    (uninvite_checks (facts.standing paper) (paper_named facts shown paper)
    (target_named facts shown (Some maker) paper target) (at_some (shown.invited target) paper))
    (entries.Uninvited (unwrap_or paper 0) (unwrap_or target 0))
deed facts shown maker late (Respond paper text) =
    let p = unwrap_or paper 0 in
    one maker (respond_checks (facts.standing paper) (paper_named facts shown paper) (is_some (shown.response p)) late)
    (entries.Responded p text)

-- what it draws under a stamp, with the accounts that tell the name which its receipt has; and the judgement
abbrev pub drawn_by : List AccountLine → Stamp → Deed → Drawn
drawn_by accounts stamp d = record {
  group = grouped (record stamp { maker = d.maker }) (d.first ∷ d.behind);
  receipt = receipt_of (name_told_by accounts d.first) d.first;
}

-- the judgement of a deed under this stamp: the first broken rule, or what it draws
abbrev pub judged_by : List AccountLine → Stamp → Deed → Result Drawn Rule
judged_by accounts stamp d = judged d.checks (drawn_by accounts stamp d)

-- what a resolved command asks and does, by these facts
abbrev pub deed_at : Facts → Shown → Stamp → ResolvedCommand → Deed
deed_at facts shown stamp command = deed facts shown stamp.maker (is_late facts stamp.at) command
