-- SPDX-License-Identifier: Apache-2.0 OR MIT
-- A second statement of who may do what: for each command one sentence, as a committee says it, written from
-- docs/API.md and not from the lists of checks. If a paper or a user that a command names isn't there, no user may. `u`
-- is the caller, `at` the timestamp of the request, `p` the paper named and `v` the user named.
use Rattle.std.specs.Prelude.{ℕ, Bool, true, false, not, ◌&&◌, ◌||◌, ◌+◌, ◌==◌, ◌≡◌, nat_le, nat_lt, List, length}
use Rattle.std.specs.Prelude.{Option, Some, is_none, is_some, is_ok}
use Rattle.std.specs.List.{list_all}
use Rattle.cr_base.specs.declared.command.Call.{Call}
use Rattle.cr_base.specs.declared.command.Command.{Command}
use Rattle.cr_base.specs.declared.command.Command.TheVariants as commands
use Rattle.cr_base.specs.declared.words.Phase.{Phase}
use Rattle.cr_base.specs.declared.words.Phase.TheVariants.{Setup, Submission, Bidding, Reviewing, Response}
use Rattle.cr_base.specs.declared.words.Phase.TheVariants.{Discussion}
use Rattle.cr_base.specs.declared.words.Role.{Role}
use Rattle.cr_base.specs.History.{History}
use Rattle.cr_base.specs.HistoryFacts.{phase_of, role_of, accounts_of, papers_of, number_of, ordinal_of, seats_of}
use Rattle.cr_base.specs.HistoryFacts.{is_invited, is_written, own_papers_of, own_bytes_of, own_comments_of}
use Rattle.cr_base.specs.HistoryFacts.{response_of}
use Rattle.cr_base.specs.Logins.{command_wants_login}
use Rattle.cr_policy.specs.Judge.{judge}
use Rattle.cr_policy.specs.Legal.{Legal}
use Rattle.cr_policy.specs.Sentences.{now, comes_behind, before_bidding, committee_at_work, is_over, is_above}
use Rattle.cr_policy.specs.Sentences.{in_time, lasts_or_comes}
use Rattle.cr_policy.specs.Sentences.{on_committee, chairs, has_two_chairs, is_live, in_conflict, has_part}
use Rattle.cr_policy.specs.Sentences.{may_have_it}
use Rattle.cr_policy.specs.Sentences.{wrote, is_eligible, administers, reviews, of_some, user_named, is_somebody}
use Rattle.cr_policy.specs.Sentences.{is_for_chairs_alone}
use Rattle.cr_policy.specs.View.{view}

-- ---- accounts and the conference

-- every caller may register a name that no user has registered, while fewer than 9,999 are registered
abbrev pub may_register : History → List ℕ → Bool
may_register H name = is_none (number_of name H) && nat_lt (length (accounts_of H)) 9999

-- a chair may appoint a user to a role above the one that they have, until the discussion is over
abbrev pub may_name : ℕ → History → Role → ℕ → Bool
may_name u H role v = chairs u H && not (is_over H) && is_above role (role_of (Some v) H)

-- a chair may dismiss a member until the discussion is over; a chair only while there are at least two
abbrev pub may_dismiss : ℕ → History → ℕ → Bool
may_dismiss u H v = chairs u H && not (is_over H) && on_committee v H && (not (chairs v H) || has_two_chairs H)

-- a chair may set the mode, in setup
abbrev pub may_set_mode : ℕ → History → Bool
may_set_mode u H = chairs u H && now Setup H

-- a chair may move the conference to a phase that may come next
abbrev pub may_open : ℕ → History → Phase → Bool
may_open u H to = chairs u H && comes_behind (phase_of H) to

-- a chair may set the deadline of a phase that lasts or is yet to come, or take it away
abbrev pub may_set_deadline : ℕ → History → Phase → Bool
may_set_deadline u H phase = chairs u H && lasts_or_comes phase H

-- ---- what authors do

-- a user may submit a paper, with co-authors who have registered, in the submission until its deadline, while fewer
-- than 9,999 were submitted, and fewer than 20 by the user
abbrev pub may_submit : ℕ → ℕ → History → List (Option (List ℕ)) → Bool
may_submit u at H names =
    now Submission H && in_time at H && list_all (λ name. is_somebody name H) names
    && nat_lt (length (papers_of H)) 9999 && nat_lt (own_papers_of (Some u) H) 20

-- an author may revise the paper, or withdraw it, in the submission until its deadline, unless it is withdrawn
abbrev pub may_change : ℕ → ℕ → History → ℕ → Bool
may_change u at H p = is_live p H && wrote u p H && now Submission H && in_time at H

-- an author may upload a version of the paper's content, in the submission until its deadline, unless it is withdrawn,
-- if all that the author has uploaded is then at most 64 MiB
abbrev pub may_upload : ℕ → ℕ → History → ℕ → ℕ → Bool
may_upload u at H bytes p = may_change u at H p && nat_le (own_bytes_of (Some u) H + bytes) 67108864

-- ---- conflicts

-- a paper that isn't withdrawn and a member may be declared in conflict: before the bidding by an author of the paper,
-- until the deadline of the submission; while the committee works by the member, or by a chair in no conflict with the
-- paper. That chair may also declare an external of the paper.
abbrev pub may_declare : ℕ → ℕ → History → ℕ → ℕ → Bool
may_declare u at H p v =
    is_live p H
    && ((before_bidding H && in_time at H && wrote u p H && on_committee v H)
    || (committee_at_work H && ((v == u && on_committee v H) || (administers u p H && has_part v p H))))

-- while the committee works, a chair in no conflict with a paper that isn't withdrawn may turn off a conflict of a
-- member or an external of the paper who is no author of it
abbrev pub may_take_back : ℕ → History → ℕ → ℕ → Bool
may_take_back u H p v = is_live p H && administers u p H && committee_at_work H && has_part v p H && not (wrote v p H)

-- ---- bids, and who reviews

-- a member in no conflict with a paper that isn't withdrawn may bid on it, in the bidding until its deadline
abbrev pub may_bid : ℕ → ℕ → History → ℕ → Bool
may_bid u at H p = is_live p H && is_eligible u p H && now Bidding H && in_time at H

-- while the committee works, a chair in no conflict with a paper that isn't withdrawn may assign it to a member, or an
-- external of it, who is in no conflict with it and doesn't review it, while fewer than 26 of its labels are given
abbrev pub may_assign : ℕ → History → ℕ → ℕ → Bool
may_assign u H p v =
    is_live p H && administers u p H && committee_at_work H && may_have_it v p H && not (reviews v p H)
    && nat_lt (length (seats_of p H)) 26

-- there is a form under the label under which the user reviews the paper
abbrev pub has_written : ℕ → ℕ → History → Bool
has_written v p H = of_some (ordinal_of (Some v) p H) (λ o. is_written p o H)

-- while the committee works, a chair in no conflict with a paper that isn't withdrawn may unassign a reviewer under
-- whose label there is no form
abbrev pub may_unassign : ℕ → History → ℕ → ℕ → Bool
may_unassign u H p v =
    is_live p H && administers u p H && committee_at_work H && reviews v p H && not (has_written v p H)

-- while the committee works, a chair in no conflict with a paper that isn't withdrawn may invite a user to it who isn't
-- on the committee, is in no conflict with it, and isn't invited to it
abbrev pub may_invite : ℕ → History → ℕ → ℕ → Bool
may_invite u H p v =
    is_live p H && administers u p H && committee_at_work H && not (on_committee v H) && not (in_conflict v p H)
    && not (is_invited (Some v) p H)

-- while the committee works, a chair in no conflict with a paper that isn't withdrawn may end the invitation of a user
-- who is invited to it and doesn't review it
abbrev pub may_uninvite : ℕ → History → ℕ → ℕ → Bool
may_uninvite u H p v =
    is_live p H && administers u p H && committee_at_work H && is_invited (Some v) p H && not (reviews v p H)

-- ---- reviews, responses, comments, tags and decisions

-- a reviewer of a paper that isn't withdrawn, who is a member or an external of it and in no conflict with it, may
-- write a form, in the reviewing and in the discussion, in each until its deadline
abbrev pub may_review : ℕ → ℕ → History → ℕ → Bool
may_review u at H p =
    is_live p H && may_have_it u p H && reviews u p H && (now Reviewing H || now Discussion H) && in_time at H

-- an author of a paper that isn't withdrawn may respond to its reviews, in the response until its deadline, if none of
-- its authors has
abbrev pub may_respond : ℕ → ℕ → History → ℕ → Bool
may_respond u at H p = is_live p H && wrote u p H && now Response H && in_time at H && is_none (response_of p H)

-- a member in no conflict with a paper that isn't withdrawn may comment on it, in the discussion until its deadline,
-- while the member has written fewer than 1,000 comments
abbrev pub may_comment : ℕ → ℕ → History → ℕ → Bool
may_comment u at H p =
    is_live p H && is_eligible u p H && now Discussion H && in_time at H && nat_lt (own_comments_of (Some u) H) 1000

-- while the committee works, a member in no conflict with a paper that isn't withdrawn may turn its tags on and off,
-- those for chairs only if the member is one
abbrev pub may_tag : ℕ → History → List ℕ → ℕ → Bool
may_tag u H tag p =
    is_live p H && is_eligible u p H && committee_at_work H && (chairs u H || not (is_for_chairs_alone tag))

-- a chair in no conflict with a paper that isn't withdrawn may decide on it, in the discussion
abbrev pub may_decide : ℕ → History → ℕ → Bool
may_decide u H p = is_live p H && administers u p H && now Discussion H

-- ---- all of them

-- the caller may give the command at this timestamp: every caller may register; all else only a user may do, on the
-- paper and to the user that the command names
abbrev pub may_do : Option ℕ → ℕ → History → Command → Bool
may_do caller at H (commands.Register name digest) = may_register H name
may_do caller at H (commands.SetPhase to) = of_some caller (λ u. may_open u H to)
may_do caller at H (commands.SetDeadline phase until) = of_some caller (λ u. may_set_deadline u H phase)
may_do caller at H (commands.Submit title abstract names) = of_some caller (λ u. may_submit u at H names)
may_do caller at H (commands.Revise paper title abstract) = of_some caller (λ u. of_some paper (may_change u at H))
may_do caller at H (commands.Upload paper content) =
    of_some caller (λ u. of_some paper (may_upload u at H (length content)))
may_do caller at H (commands.Withdraw paper) = of_some caller (λ u. of_some paper (may_change u at H))
may_do caller at H (commands.Name name role) = of_some caller (λ u. of_some (user_named name H) (may_name u H role))
may_do caller at H (commands.SetMode to) = of_some caller (λ u. may_set_mode u H)
may_do caller at H (commands.SetConflict paper name true) =
    of_some caller (λ u. of_some paper (λ p. of_some (user_named name H) (may_declare u at H p)))
may_do caller at H (commands.SetConflict paper name false) =
    of_some caller (λ u. of_some paper (λ p. of_some (user_named name H) (may_take_back u H p)))
may_do caller at H (commands.Bid paper value) = of_some caller (λ u. of_some paper (may_bid u at H))
may_do caller at H (commands.Assign paper name kind) =
    of_some caller (λ u. of_some paper (λ p. of_some (user_named name H) (may_assign u H p)))
may_do caller at H (commands.Unassign paper name) =
    of_some caller (λ u. of_some paper (λ p. of_some (user_named name H) (may_unassign u H p)))
may_do caller at H (commands.Dismiss name) = of_some caller (λ u. of_some (user_named name H) (may_dismiss u H))
may_do caller at H (commands.Invite paper name) =
    of_some caller (λ u. of_some paper (λ p. of_some (user_named name H) (may_invite u H p)))
may_do caller at H (commands.Uninvite paper name) =
    of_some caller (λ u. of_some paper (λ p. of_some (user_named name H) (may_uninvite u H p)))
may_do caller at H (commands.Review paper form) = of_some caller (λ u. of_some paper (may_review u at H))
may_do caller at H (commands.Respond paper text) = of_some caller (λ u. of_some paper (may_respond u at H))
may_do caller at H (commands.Comment paper text) = of_some caller (λ u. of_some paper (may_comment u at H))
may_do caller at H (commands.Tag paper tag on) = of_some caller (λ u. of_some paper (may_tag u H tag))
may_do caller at H (commands.Decide paper decision) = of_some caller (λ u. of_some paper (may_decide u H))

-- ---- the law

-- a caller's command is accepted: somebody calls, where a login is wanted for it, and no rule is broken
abbrev pub is_accepted_from : History → Call → Bool
is_accepted_from H call =
    (is_some call.caller || not (command_wants_login call.command)) && is_ok (judge (view call.caller H) call)

-- PermissionsAsSaid: on a legal history a command of any caller at any timestamp is accepted if and only if its
-- sentence holds
abbrev pub PermissionsAsSaid : Type 0
PermissionsAsSaid =
    (H : History) (call : Call) → Legal H → is_accepted_from H call ≡ may_do call.caller call.at H call.command
