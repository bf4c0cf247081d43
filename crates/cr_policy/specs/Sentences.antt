-- SPDX-License-Identifier: Apache-2.0 OR MIT
-- The terms in which MayDo and MayRead say who may do what, as a committee says it: of a history, and of the timestamp
-- of the request. They rest on facts of the history only: not on the lists of checks (Checks), nor on what these lists
-- read of phases, of roles, and of when a paper is accepted.
use Rattle.std.specs.Prelude.{ℕ, Bool, true, false, not, ◌&&◌, ◌||◌, ◌==◌, nat_le, List, [], ◌∷◌, Option, Some, None}
use Rattle.std.specs.Prelude.{count_by}
use Rattle.std.specs.List.{list_any}
use Rattle.cr_base.specs.declared.bulk.BulkRow.{BulkRow}
use Rattle.cr_base.specs.declared.reply.AccountLine.{AccountLine}
use Rattle.cr_base.specs.declared.words.Decision.{Decision}
use Rattle.cr_base.specs.declared.words.Decision.TheVariants.{Accept, Reject}
use Rattle.cr_base.specs.declared.words.Phase.{Phase}
use Rattle.cr_base.specs.declared.words.Phase.TheVariants.{Setup, Submission, Bidding, Reviewing, Discussion}
use Rattle.cr_base.specs.declared.words.Phase.TheVariants.{Response, Notification, Closed}
use Rattle.cr_base.specs.declared.words.Role.{Role}
use Rattle.cr_base.specs.declared.words.Role.TheVariants.{Account, Member, Chair}
use Rattle.cr_base.specs.History.{History}
use Rattle.cr_base.specs.HistoryFacts.{phase_of, deadline_of, role_of, papers_of, number_of}
use Rattle.cr_base.specs.HistoryFacts.{is_author, is_conflict_on}
use Rattle.cr_base.specs.HistoryFacts.{is_reviewer, is_invited, is_withdrawn, decision_of, accounts_of}

-- ---- phases

-- the two phases are equal
abbrev pub is_it : Phase → Phase → Bool
is_it Setup Setup = true
is_it Submission Submission = true
is_it Bidding Bidding = true
is_it Reviewing Reviewing = true
is_it Response Response = true
is_it Discussion Discussion = true
is_it Notification Notification = true
is_it Closed Closed = true
is_it _ _ = false

-- the second phase may come right after the first: they come in this order, in which the response may be left out
abbrev pub comes_behind : Phase → Phase → Bool
comes_behind Setup to = is_it Submission to
comes_behind Submission to = is_it Bidding to
comes_behind Bidding to = is_it Reviewing to
comes_behind Reviewing to = is_it Response to || is_it Discussion to
comes_behind Response to = is_it Discussion to
comes_behind Discussion to = is_it Notification to
comes_behind Notification to = is_it Closed to
comes_behind Closed to = false

-- the current phase is this one
abbrev pub now : Phase → History → Bool
now phase H = is_it phase (phase_of H)

-- the bidding hasn't begun
abbrev pub before_bidding : History → Bool
before_bidding H = now Setup H || now Submission H

-- the committee works: it bids, reviews, waits for responses, or discusses
abbrev pub committee_at_work : History → Bool
committee_at_work H = now Bidding H || now Reviewing H || now Response H || now Discussion H

-- the notification went out, and the committee's work is over
abbrev pub is_over : History → Bool
is_over H = now Notification H || now Closed H

-- reviews are being written, or responses are awaited
abbrev pub before_discussion : History → Bool
before_discussion H = now Reviewing H || now Response H

-- the committee reviews or discusses, or has done so
abbrev pub from_reviewing : History → Bool
from_reviewing H = before_discussion H || now Discussion H || is_over H

-- the committee discusses, or has done so
abbrev pub from_discussion : History → Bool
from_discussion H = now Discussion H || is_over H

-- ---- deadlines

-- the timestamp is the deadline's or earlier; without a deadline every timestamp is in time
abbrev pub meets : ℕ → Option ℕ → Bool
meets at None = true
meets at (Some deadline) = nat_le at deadline

-- what is done in the current phase isn't too late at this timestamp
abbrev pub in_time : ℕ → History → Bool
in_time at H = meets at (deadline_of (phase_of H) H)

-- the first phase lasts or is yet to come in the second, the current one: that is the first phase, or an earlier one
abbrev pub lasts_or_comes_in : Phase → Phase → Bool
lasts_or_comes_in Setup current = is_it Setup current
lasts_or_comes_in Submission current = is_it Setup current || is_it Submission current
lasts_or_comes_in Bidding current = is_it Setup current || is_it Submission current || is_it Bidding current
lasts_or_comes_in Reviewing current =
    is_it Setup current || is_it Submission current || is_it Bidding current || is_it Reviewing current
lasts_or_comes_in Response current =
    is_it Setup current || is_it Submission current || is_it Bidding current || is_it Reviewing current
    || is_it Response current
lasts_or_comes_in Discussion current = not (is_it Notification current || is_it Closed current)
lasts_or_comes_in Notification current = not (is_it Closed current)
lasts_or_comes_in Closed current = true

-- the phase lasts or is yet to come
abbrev pub lasts_or_comes : Phase → History → Bool
lasts_or_comes phase H = lasts_or_comes_in phase (phase_of H)

-- ---- roles

-- a user of this role is on the committee; a chair is a member
abbrev pub is_members : Role → Bool
is_members Account = false
is_members Member = true
is_members Chair = true

-- a user of this role is a chair
abbrev pub is_chairs : Role → Bool
is_chairs Account = false
is_chairs Member = false
is_chairs Chair = true

-- the first role is above the second
abbrev pub is_above : Role → Role → Bool
is_above Member Account = true
is_above Chair Account = true
is_above Chair Member = true
is_above _ _ = false

-- the user is on the committee
abbrev pub on_committee : ℕ → History → Bool
on_committee u H = is_members (role_of (Some u) H)

-- the user is a chair
abbrev pub chairs : ℕ → History → Bool
chairs u H = is_chairs (role_of (Some u) H)

-- there are at least two chairs
abbrev pub has_two_chairs : History → Bool
has_two_chairs H = nat_le 2 (count_by (λ (a : AccountLine). is_chairs a.role) (accounts_of H))

-- ---- papers

-- a paper of this number was submitted
abbrev pub is_paper : ℕ → History → Bool
is_paper p H = list_any (λ q. q == p) (papers_of H)

-- the paper was submitted, and isn't withdrawn
abbrev pub is_live : ℕ → History → Bool
is_live p H = is_paper p H && not (is_withdrawn p H)

-- the decision is to accept; no decision isn't
abbrev pub accepts : Option Decision → Bool
accepts None = false
accepts (Some Accept) = true
accepts (Some Reject) = false

-- the paper is in: the notification went out, the last decision on it is to accept it, and it isn't withdrawn
abbrev pub is_in : ℕ → History → Bool
is_in p H = is_over H && accepts (decision_of p H) && not (is_withdrawn p H)

-- the paper is published: it is in, and the conference is closed
abbrev pub is_public : ℕ → History → Bool
is_public p H = is_in p H && now Closed H

-- ---- users and papers

-- the user is an author of the paper
abbrev pub wrote : ℕ → ℕ → History → Bool
wrote u p H = is_author (Some u) p H

-- the user is in conflict with the paper: is an author of it, or is declared in conflict with it
abbrev pub in_conflict : ℕ → ℕ → History → Bool
in_conflict u p H = wrote u p H || is_conflict_on (Some u) p H

-- the user is a member in no conflict with the paper
abbrev pub is_eligible : ℕ → ℕ → History → Bool
is_eligible u p H = on_committee u H && not (in_conflict u p H)

-- the user is a chair in no conflict with the paper
abbrev pub administers : ℕ → ℕ → History → Bool
administers u p H = chairs u H && not (in_conflict u p H)

-- the user is an external of the paper: not on the committee, and invited to the paper
abbrev pub is_external_of : ℕ → ℕ → History → Bool
is_external_of u p H = not (on_committee u H) && is_invited (Some u) p H

-- the user may have part in judging the paper, if there is no conflict: is on the committee, or is an external of the
-- paper
abbrev pub has_part : ℕ → ℕ → History → Bool
has_part u p H = on_committee u H || is_external_of u p H

-- the user has part in judging the paper (`has_part`), and is in no conflict with it
abbrev pub may_have_it : ℕ → ℕ → History → Bool
may_have_it u p H = has_part u p H && not (in_conflict u p H)

-- the user reviews the paper
abbrev pub reviews : ℕ → ℕ → History → Bool
reviews u p H = is_reviewer (Some u) p H

-- ---- what is told of a paper or of a user

-- this holds of the number, if there is one: of a paper's, of a user's, or of the caller's; false if there is none
abbrev pub of_some : Option ℕ → (ℕ → Bool) → Bool
of_some None says = false
of_some (Some n) says = says n

-- the user who registered the name; `None` if no user did, or if the request has no valid name
abbrev pub user_named : Option (List ℕ) → History → Option ℕ
user_named None H = None
user_named (Some name) H = number_of name H

-- a user registered the name
abbrev pub is_somebody : Option (List ℕ) → History → Bool
is_somebody name H = of_some (user_named name H) (λ v. true)

-- the tag is only for chairs: it begins with `~~`
abbrev pub is_for_chairs_alone : List ℕ → Bool
is_for_chairs_alone [] = false
is_for_chairs_alone (b ∷ []) = false
is_for_chairs_alone (b ∷ c ∷ rest) = b == 126 && c == 126

-- a row of a bulk's file with these four columns
abbrev pub a_row : List ℕ → List ℕ → List ℕ → List ℕ → BulkRow
a_row paper action user tag = record { paper = paper; action = action; user = user; tag = tag }
