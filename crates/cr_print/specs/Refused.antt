-- SPDX-License-Identifier: Apache-2.0 OR MIT
-- The name, the status and the content of each refusal: the table of errors in docs/API.md.
use Rattle.std.specs.Prelude.{ℕ, List, [], ◌++◌, Some, codes, decimal}
use Rattle.json.specs.Print.{quoted}
use Rattle.cr_base.specs.declared.reply.Rule.{Rule as BaseRule}
use Rattle.cr_base.specs.declared.reply.Rule.TheVariants.{NameTaken, FullAccounts, NotChair}
use Rattle.cr_base.specs.declared.reply.Rule.TheVariants.{WrongPhase, FullPapers, QuotaPapers, NoPaper}
use Rattle.cr_base.specs.declared.reply.Rule.TheVariants.{NotMember, NoUser, AlreadyNamed, NotAuthor}
use Rattle.cr_base.specs.declared.reply.Rule.TheVariants.{NotAMember, Conflict, Withdrawn, QuotaBytes}
use Rattle.cr_base.specs.declared.reply.Rule.TheVariants.{NoContent, AuthorConflict, TargetConflict}
use Rattle.cr_base.specs.declared.reply.Rule.TheVariants.{AlreadyAssigned, LabelsSpent, NotAssigned}
use Rattle.cr_base.specs.declared.reply.Rule.TheVariants.{HasReview, NotReviewer, QuotaComments}
use Rattle.cr_base.specs.declared.reply.Rule.TheVariants.{BadAction, BadTag, BulkSelf, Late, NumberUsed}
use Rattle.cr_base.specs.declared.reply.Rule.TheVariants.{PlanTooLarge, NoPlan, LastChair, IsMember}
use Rattle.cr_base.specs.declared.reply.Rule.TheVariants.{AlreadyInvited, NotInvited, StillAssigned}
use Rattle.cr_base.specs.declared.reply.Rule.TheVariants.{AlreadyResponded, NoResponse}
use Rattle.cr_http.specs.declared.refusal.Refusal.{Refusal}
use Rattle.cr_http.specs.declared.refusal.Refusal.TheVariants.{HeadTooLarge, BadHttp, NoHost}
use Rattle.cr_http.specs.declared.refusal.Refusal.TheVariants.{LengthRequired, BadLength, TooLarge}
use Rattle.cr_print.specs.declared.refused.Refused.{Refused}
use Rattle.cr_print.specs.declared.refused.Refused.TheVariants.{Closing, NoRoute, WrongMethod, Unauthorized}
use Rattle.cr_print.specs.declared.refused.Refused.TheVariants.{BadNumber, BadBody, BadQuery, Rule, Row}
use Rattle.cr_print.specs.declared.refused.Refused.TheVariants.{KeeperFault, NoMemory}
use Rattle.cr_print.specs.declared.head.Extra.{Extra}
use Rattle.cr_print.specs.declared.head.Extra.TheVariants.{Nothing, Challenge, Allow}
use Rattle.cr_print.specs.declared.status.Status.{Status}
use Rattle.cr_print.specs.declared.status.Status.TheVariants as statuses
use Rattle.cr_json.specs.Json.{Member, member_of, object_text}

-- the name of a refusal of what is no request, after which the connection closes
unfoldable pub closing_name : Refusal → List ℕ
closing_name HeadTooLarge = codes "head_too_large"
closing_name BadHttp = codes "bad_http"
closing_name NoHost = codes "no_host"
closing_name LengthRequired = codes "length_required"
closing_name BadLength = codes "bad_length"
closing_name TooLarge = codes "too_large"

-- the name of a broken rule
unfoldable pub rule_name : BaseRule → List ℕ
rule_name NameTaken = codes "name_taken"
rule_name FullAccounts = codes "full_accounts"
rule_name NotChair = codes "not_chair"
rule_name WrongPhase = codes "wrong_phase"
rule_name FullPapers = codes "full_papers"
rule_name QuotaPapers = codes "quota_papers"
rule_name NoPaper = codes "no_paper"
rule_name NotMember = codes "not_member"
rule_name NoUser = codes "no_user"
rule_name AlreadyNamed = codes "already_named"
rule_name NotAuthor = codes "not_author"
rule_name NotAMember = codes "not_a_member"
rule_name Conflict = codes "conflict"
rule_name Withdrawn = codes "withdrawn"
rule_name QuotaBytes = codes "quota_bytes"
rule_name NoContent = codes "no_content"
rule_name AuthorConflict = codes "author_conflict"
rule_name TargetConflict = codes "target_conflict"
rule_name AlreadyAssigned = codes "already_assigned"
rule_name LabelsSpent = codes "labels_spent"
rule_name NotAssigned = codes "not_assigned"
rule_name HasReview = codes "has_review"
rule_name NotReviewer = codes "not_reviewer"
rule_name QuotaComments = codes "quota_comments"
rule_name BadAction = codes "bad_action"
rule_name BadTag = codes "bad_tag"
rule_name BulkSelf = codes "bulk_self"
rule_name Late = codes "late"
rule_name NumberUsed = codes "number_used"
rule_name PlanTooLarge = codes "plan_too_large"
rule_name NoPlan = codes "no_plan"
rule_name LastChair = codes "last_chair"
rule_name IsMember = codes "is_member"
rule_name AlreadyInvited = codes "already_invited"
rule_name NotInvited = codes "not_invited"
rule_name StillAssigned = codes "still_assigned"
rule_name AlreadyResponded = codes "already_responded"
rule_name NoResponse = codes "no_response"

-- the name of a refusal
unfoldable pub refused_name : Refused → List ℕ
refused_name (Closing refusal) = closing_name refusal
refused_name NoRoute = codes "no_route"
refused_name (WrongMethod resource) = codes "wrong_method"
refused_name Unauthorized = codes "unauthorized"
refused_name BadNumber = codes "bad_number"
refused_name BadBody = codes "bad_body"
refused_name (BadQuery offset) = codes "bad_query"
refused_name (Rule rule) = rule_name rule
refused_name (Row row rule) = codes "bulk_row"
refused_name KeeperFault = codes "keeper_fault"
refused_name NoMemory = codes "no_memory"

-- the status of a refusal of what is no request
unfoldable pub closing_status : Refusal → Status
closing_status HeadTooLarge = statuses.HeaderFieldsTooLarge
closing_status BadHttp = statuses.BadRequest
closing_status NoHost = statuses.BadRequest
closing_status LengthRequired = statuses.LengthRequired
closing_status BadLength = statuses.BadRequest
closing_status TooLarge = statuses.ContentTooLarge

-- the status of an answer that names a broken rule
unfoldable pub rule_status : BaseRule → Status
rule_status NameTaken = statuses.Conflict
rule_status FullAccounts = statuses.Conflict
rule_status NotChair = statuses.Forbidden
rule_status WrongPhase = statuses.Conflict
rule_status FullPapers = statuses.Conflict
rule_status QuotaPapers = statuses.Conflict
rule_status NoPaper = statuses.NotFound
rule_status NotMember = statuses.Forbidden
rule_status NoUser = statuses.NotFound
rule_status AlreadyNamed = statuses.Conflict
rule_status NotAuthor = statuses.Forbidden
rule_status NotAMember = statuses.Conflict
rule_status Conflict = statuses.Forbidden
rule_status Withdrawn = statuses.Conflict
rule_status QuotaBytes = statuses.Conflict
rule_status NoContent = statuses.NotFound
rule_status AuthorConflict = statuses.Conflict
rule_status TargetConflict = statuses.Conflict
rule_status AlreadyAssigned = statuses.Conflict
rule_status LabelsSpent = statuses.Conflict
rule_status NotAssigned = statuses.Conflict
rule_status HasReview = statuses.Conflict
rule_status NotReviewer = statuses.Forbidden
rule_status QuotaComments = statuses.Conflict
rule_status BadAction = statuses.Conflict
rule_status BadTag = statuses.Conflict
rule_status BulkSelf = statuses.Conflict
rule_status Late = statuses.Conflict
rule_status NumberUsed = statuses.Conflict
rule_status PlanTooLarge = statuses.Conflict
rule_status NoPlan = statuses.Conflict
rule_status LastChair = statuses.Conflict
rule_status IsMember = statuses.Conflict
rule_status AlreadyInvited = statuses.Conflict
rule_status NotInvited = statuses.Conflict
rule_status StillAssigned = statuses.Conflict
rule_status AlreadyResponded = statuses.Conflict
rule_status NoResponse = statuses.NotFound

-- the status of a refusal
unfoldable pub refused_status : Refused → Status
refused_status (Closing refusal) = closing_status refusal
refused_status NoRoute = statuses.NotFound
refused_status (WrongMethod resource) = statuses.MethodNotAllowed
refused_status Unauthorized = statuses.Unauthorized
refused_status BadNumber = statuses.BadRequest
refused_status BadBody = statuses.BadRequest
refused_status (BadQuery offset) = statuses.BadRequest
refused_status (Rule rule) = rule_status rule
refused_status (Row row rule) = statuses.Conflict
refused_status KeeperFault = statuses.ServiceUnavailable
refused_status NoMemory = statuses.InsufficientStorage

-- the field that only this refusal has
unfoldable pub extra_of : Refused → Extra
extra_of (Closing refusal) = Nothing
extra_of NoRoute = Nothing
extra_of (WrongMethod resource) = Allow resource
extra_of Unauthorized = Challenge
extra_of BadNumber = Nothing
extra_of BadBody = Nothing
extra_of (BadQuery offset) = Nothing
extra_of (Rule rule) = Nothing
extra_of (Row row rule) = Nothing
extra_of KeeperFault = Nothing
extra_of NoMemory = Nothing

-- what a refusal tells besides its name: of a search where it is wrong, of a bulk which row breaks which rule
unfoldable pub further_members : Refused → List Member
further_members (Closing refusal) = []
further_members NoRoute = []
further_members (WrongMethod resource) = []
further_members Unauthorized = []
further_members BadNumber = []
further_members BadBody = []
further_members (BadQuery offset) = member_of (codes "place") (Some (decimal offset))
further_members (Rule rule) = []
further_members (Row row rule) =
    member_of (codes "row") (Some (decimal row)) ++ member_of (codes "rule") (Some (quoted (rule_name rule)))
further_members KeeperFault = []
further_members NoMemory = []

-- why it was refused, before all else that it tells
unfoldable pub refusal_members : Refused → List Member
refusal_members refused = member_of (codes "error") (Some (quoted (refused_name refused))) ++ further_members refused

-- the JSON object of a refusal
unfoldable pub refusal_content : Refused → List ℕ
refusal_content refused = object_text (refusal_members refused)
