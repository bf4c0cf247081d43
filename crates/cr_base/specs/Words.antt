-- SPDX-License-Identifier: Apache-2.0 OR MIT
-- The words and the numbers of phases, modes, roles, assignments and decisions, and of bids: CoCon's phases
-- and roles, the HotCRP manual's anonymity, its kinds of review (primary, secondary, pc), its review
-- preferences and its decisions.
use Rattle.std.specs.Prelude.{ℕ, ℤ, pos, negsuc, Bool, true, false, List, [], ◌∷◌, Option, Some}
use Rattle.std.specs.Prelude.{None, find, codes, ◌==◌, ◌+◌, ◌-◌, nat_le, nat_lt, ◌&&◌, if◌then◌else◌}
use Rattle.std.specs.Str.{bytes_eq}
use Rattle.cr_base.specs.declared.words.Phase.{Phase}
use Rattle.cr_base.specs.declared.words.Phase.TheVariants.{Setup, Submission, Bidding, Reviewing}
use Rattle.cr_base.specs.declared.words.Phase.TheVariants.{Response, Discussion, Notification, Closed}
use Rattle.cr_base.specs.declared.words.Mode.{Mode}
use Rattle.cr_base.specs.declared.words.Mode.TheVariants.{Overt, Blind, Anonymous}
use Rattle.cr_base.specs.declared.words.Kind.{Kind}
use Rattle.cr_base.specs.declared.words.Kind.TheVariants.{Primary, Secondary, Pc}
use Rattle.cr_base.specs.declared.words.Decision.{Decision}
use Rattle.cr_base.specs.declared.words.Decision.TheVariants.{Accept, Reject}
use Rattle.cr_base.specs.declared.words.Role.{Role}
use Rattle.cr_base.specs.declared.words.Role.TheVariants.{Account, Member, Chair}

-- ---- phases

-- the word for a phase
abbrev pub phase_name : Phase → List ℕ
phase_name Setup = codes "setup"
phase_name Submission = codes "submission"
phase_name Bidding = codes "bidding"
phase_name Reviewing = codes "reviewing"
phase_name Response = codes "response"
phase_name Discussion = codes "discussion"
phase_name Notification = codes "notification"
phase_name Closed = codes "closed"

-- the phases, in their order
abbrev pub phases : List Phase
phases = Setup ∷ Submission ∷ Bidding ∷ Reviewing ∷ Response ∷ Discussion ∷ Notification ∷ Closed ∷ []

-- the phase of a word
abbrev pub phase_named : List ℕ → Option Phase
phase_named name = find (λ phase. bytes_eq name (phase_name phase)) phases

-- a phase by its number in rows, which doesn't say which phase comes first: the response came into the server last
abbrev pub phase_number : Phase → ℕ
phase_number Setup = 0
phase_number Submission = 1
phase_number Bidding = 2
phase_number Reviewing = 3
phase_number Discussion = 4
phase_number Notification = 5
phase_number Closed = 6
phase_number Response = 7

-- the phase of a number in rows
abbrev pub phase_numbered : ℕ → Option Phase
phase_numbered n = find (λ phase. n == phase_number phase) phases

-- ---- modes

-- the word for a mode
abbrev pub mode_name : Mode → List ℕ
mode_name Overt = codes "open"
mode_name Blind = codes "blind"
mode_name Anonymous = codes "anonymous"

-- the modes
abbrev pub modes : List Mode
modes = Overt ∷ Blind ∷ Anonymous ∷ []

-- the mode of a word
abbrev pub mode_named : List ℕ → Option Mode
mode_named name = find (λ mode. bytes_eq name (mode_name mode)) modes

-- a mode by its number in rows
abbrev pub mode_number : Mode → ℕ
mode_number Overt = 0
mode_number Blind = 1
mode_number Anonymous = 2

-- the mode of a number in rows
abbrev pub mode_numbered : ℕ → Option Mode
mode_numbered n = find (λ mode. n == mode_number mode) modes

-- externals, and members other than chairs, don't see who wrote
abbrev pub is_anonymous : Mode → Bool
is_anonymous Overt = false
is_anonymous Blind = false
is_anonymous Anonymous = true

-- authors see who reviewed them
abbrev pub is_overt : Mode → Bool
is_overt Overt = true
is_overt Blind = false
is_overt Anonymous = false

-- ---- assignments and bids

-- the word for a kind of assignment
abbrev pub review_kind_name : Kind → List ℕ
review_kind_name Primary = codes "primary"
review_kind_name Secondary = codes "secondary"
review_kind_name Pc = codes "pc"

-- the kinds of assignment
abbrev pub review_kinds : List Kind
review_kinds = Primary ∷ Secondary ∷ Pc ∷ []

-- the kind of assignment of a word
abbrev pub review_kind_named : List ℕ → Option Kind
review_kind_named name = find (λ kind. bytes_eq name (review_kind_name kind)) review_kinds

-- a kind of assignment by its number in rows
abbrev pub review_kind_number : Kind → ℕ
review_kind_number Primary = 1
review_kind_number Secondary = 2
review_kind_number Pc = 3

-- the kind of assignment of a number in rows
abbrev pub review_kind_numbered : ℕ → Option Kind
review_kind_numbered n = find (λ kind. n == review_kind_number kind) review_kinds

-- a bid is kept plus 20; who has told none has bid 0
abbrev pub no_bid : ℕ
no_bid = 20

-- the bid that a whole number is: one from -20 to 20; `negsuc n` is the number less than 0 that n + 1 is with a minus
abbrev pub bid_of_value : ℤ → Option ℕ
bid_of_value (pos n) = if nat_le n 20 then Some (n + 20) else None
bid_of_value (negsuc n) = if nat_lt n 20 then Some (19 - n) else None

-- a bid without its sign
abbrev pub bid_size : ℕ → ℕ
bid_size raised = if nat_lt raised no_bid then no_bid - raised else raised - no_bid

-- ---- grades

-- the score or the confidence that a whole number is: one from 1 to 5
abbrev pub grade_of_value : ℤ → Option ℕ
grade_of_value (pos n) = if nat_le 1 n && nat_le n 5 then Some n else None
grade_of_value (negsuc n) = None

-- ---- decisions

-- the word for a decision
abbrev pub decision_name : Decision → List ℕ
decision_name Accept = codes "accept"
decision_name Reject = codes "reject"

-- the decisions
abbrev pub decisions : List Decision
decisions = Accept ∷ Reject ∷ []

-- the decision of a word
abbrev pub decision_named : List ℕ → Option Decision
decision_named name = find (λ decision. bytes_eq name (decision_name decision)) decisions

-- a decision by its number in rows
abbrev pub decision_number : Decision → ℕ
decision_number Accept = 1
decision_number Reject = 2

-- the decision of a number in rows
abbrev pub decision_numbered : ℕ → Option Decision
decision_numbered n = find (λ decision. n == decision_number decision) decisions

-- the decision, if there is one, is to accept the paper
abbrev pub is_accept : Option Decision → Bool
is_accept None = false
is_accept (Some Accept) = true
is_accept (Some Reject) = false

-- ---- roles

-- the word for a role
abbrev pub role_name : Role → List ℕ
role_name Account = codes "account"
role_name Member = codes "member"
role_name Chair = codes "chair"

-- the roles that somebody may be named to
abbrev pub named_roles : List Role
named_roles = Member ∷ Chair ∷ []

-- the role of a word
abbrev pub role_named : List ℕ → Option Role
role_named name = find (λ role. bytes_eq name (role_name role)) named_roles

-- a role by its number in rows; a role is at least another if its number is
abbrev pub role_number : Role → ℕ
role_number Account = 0
role_number Member = 1
role_number Chair = 2

-- the role that a row names a user to
abbrev pub role_numbered : ℕ → Option Role
role_numbered n = find (λ role. n == role_number role) named_roles

-- a chair is a member
abbrev pub is_member : Role → Bool
is_member Account = false
is_member Member = true
is_member Chair = true

-- the role is a chair's
abbrev pub is_chair : Role → Bool
is_chair Account = false
is_chair Member = false
is_chair Chair = true
