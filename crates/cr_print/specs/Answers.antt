-- SPDX-License-Identifier: Apache-2.0 OR MIT
-- The bytes of whole answers, each sent as its request wants.
use Rattle.std.specs.Prelude.{ℕ, List, [], ◌++◌, Bool, true, if◌then◌else◌, codes, length, map}
use Rattle.cr_base.specs.declared.accepted.AcceptedPaper.{AcceptedPaper}
use Rattle.cr_base.specs.declared.comment.CommentLine.{CommentLine}
use Rattle.cr_base.specs.declared.deadline.PhaseDeadline.{PhaseDeadline}
use Rattle.cr_base.specs.declared.found.FoundPaper.{FoundPaper}
use Rattle.cr_base.specs.declared.me.Me.{Me}
use Rattle.cr_base.specs.declared.page.Page.{Page}
use Rattle.cr_base.specs.declared.reply.AccountLine.{AccountLine}
use Rattle.cr_base.specs.declared.reply.Conference.{Conference}
use Rattle.cr_base.specs.declared.reply.Receipt.{Receipt}
use Rattle.cr_base.specs.declared.reply.Reply.{Reply}
use Rattle.cr_base.specs.declared.reply.Reply.TheVariants as replies
use Rattle.cr_base.specs.declared.review.ReviewLine.{ReviewLine}
use Rattle.cr_http.specs.declared.refusal.Refusal.{Refusal}
use Rattle.cr_print.specs.declared.head.Extra.{Extra}
use Rattle.cr_print.specs.declared.head.Extra.TheVariants.{Nothing}
use Rattle.cr_print.specs.declared.head.AnswerHead.{AnswerHead}
use Rattle.cr_print.specs.declared.head.MediaType.TheVariants.{Json, PlainText, OctetStream}
use Rattle.cr_print.specs.declared.status.Status.{Status}
use Rattle.cr_print.specs.declared.status.Status.TheVariants.{Okay}
use Rattle.cr_print.specs.declared.sending.Sending.{Sending}
use Rattle.cr_print.specs.declared.refused.Refused.{Refused}
use Rattle.cr_print.specs.declared.refused.Refused.TheVariants.{Closing, NoMemory, Row, Rule}
use Rattle.cr_print.specs.Head.{head_text}
use Rattle.cr_print.specs.Refused.{refused_status, extra_of, refusal_content}
use Rattle.cr_print.specs.Receipt.{receipt_status, receipt_content}
use Rattle.cr_print.specs.Conference.{conference_content}
use Rattle.cr_json.specs.Json.{list_alone}
use Rattle.cr_json.specs.Accounts.{account_text}
use Rattle.cr_json.specs.Accepted.{accepted_text}
use Rattle.cr_json.specs.Reviews.{review_text}
use Rattle.cr_json.specs.Comments.{comment_text}
use Rattle.cr_json.specs.Deadlines.{phase_deadline_text}
use Rattle.cr_print.specs.Found.{found_content, count_content}
use Rattle.cr_print.specs.Page.{page_content}
use Rattle.cr_print.specs.Me.{me_content}
use Rattle.cr_print.specs.Response.{response_content}

-- the content, unless the request is one to HEAD, whose answer ends after its head (RFC 9110, section 9.3.2)
abbrev pub unless_head : Bool → List ℕ → List ℕ
unless_head is_head content = if is_head then [] else content

-- the answer with this head and content; the head tells the content's length also if the content doesn't follow
abbrev pub answer_text : AnswerHead → List ℕ → Sending → List ℕ
answer_text head content sending =
    head_text head (length content) sending ++ unless_head sending.is_head content

-- the head of an answer whose content is JSON
abbrev pub json_head : Status → Extra → AnswerHead
json_head status extra = record { status = status; media_type = Json; extra = extra }

-- the answer to a query that is served, in JSON
abbrev pub served_text : List ℕ → Sending → List ℕ
served_text content sending = answer_text (json_head Okay Nothing) content sending

-- the answer to a refused request
unfoldable pub refusal_text : Refused → Sending → List ℕ
refusal_text refused sending =
    answer_text (json_head (refused_status refused) (extra_of refused)) (refusal_content refused) sending

-- how an answer of this moment is sent after which the connection closes
abbrev pub closing : Bool → ℕ → Sending
closing is_head at = record { is_head = is_head; closes = true; date = at }

-- what ends the connection before a whole request was read, at this moment
abbrev pub closing_text : Refusal → Bool → ℕ → List ℕ
closing_text refusal is_head at = refusal_text (Closing refusal) (closing is_head at)

-- the answer to an accepted command
unfoldable pub receipt_text : Receipt → Sending → List ℕ
receipt_text receipt sending =
    answer_text (json_head (receipt_status receipt) Nothing) (receipt_content receipt) sending

-- the answer with what everyone may know of the conference
unfoldable pub conference_text : Conference → Sending → List ℕ
conference_text conference sending = served_text (conference_content conference) sending

-- a list of any values, by their texts
unfoldable pub list_text : List ℕ → List (List ℕ) → Sending → List ℕ
list_text key texts sending = served_text (list_alone key texts) sending

-- the answer with the accounts
unfoldable pub accounts_text : List AccountLine → Sending → List ℕ
accounts_text accounts sending = list_text (codes "accounts") (map account_text accounts) sending

-- the answer with the deadlines of the phases
unfoldable pub deadlines_text : List PhaseDeadline → Sending → List ℕ
deadlines_text deadlines sending = list_text (codes "deadlines") (map phase_deadline_text deadlines) sending

-- the answer with the accepted papers
unfoldable pub papers_text : List AcceptedPaper → Sending → List ℕ
papers_text papers sending = list_text (codes "papers") (map accepted_text papers) sending

-- the answer with the reviews of a paper
unfoldable pub reviews_text : List ReviewLine → Sending → List ℕ
reviews_text reviews sending = list_text (codes "reviews") (map review_text reviews) sending

-- the answer with the comments on a paper
unfoldable pub comments_text : List CommentLine → Sending → List ℕ
comments_text comments sending = list_text (codes "comments") (map comment_text comments) sending

-- the answer with the papers that a search finds
unfoldable pub found_text : List FoundPaper → Sending → List ℕ
found_text papers sending = served_text (found_content papers) sending

-- the answer with how many papers a search finds
unfoldable pub count_text : ℕ → Sending → List ℕ
count_text n sending = served_text (count_content n) sending

-- the answer with a paper's page
unfoldable pub page_text : Page → Sending → List ℕ
page_text page sending = served_text (page_content page) sending

-- the answer with what a user is told of themselves
unfoldable pub me_text : Me → Sending → List ℕ
me_text me sending = served_text (me_content me) sending

-- the answer with what a paper's authors responded
unfoldable pub response_text : List ℕ → Sending → List ℕ
response_text text sending = served_text (response_content text) sending

-- the head of an answer whose content is bytes as they are
abbrev pub bytes_head : AnswerHead
bytes_head = record { status = Okay; media_type = OctetStream; extra = Nothing }

-- the head before a content of so many bytes, which is sent unchanged
unfoldable pub content_front : ℕ → Sending → List ℕ
content_front n sending = head_text bytes_head n sending

-- the head of an answer whose content is text
abbrev pub text_head : AnswerHead
text_head = record { status = Okay; media_type = PlainText; extra = Nothing }

-- the head before a report of so many bytes
unfoldable pub report_front : ℕ → Sending → List ℕ
report_front n sending = head_text text_head n sending

-- what is printed of a reply: of a content and of a report its head, and else the whole answer
abbrev pub front_text : Sending → Reply → List ℕ
front_text sending (replies.Accepted receipt) = receipt_text receipt sending
front_text sending (replies.Refused rule) = refusal_text (Rule rule) sending
front_text sending (replies.RowRefused row rule) = refusal_text (Row row rule) sending
front_text sending (replies.Accounts accounts) = accounts_text accounts sending
front_text sending (replies.Deadlines deadlines) = deadlines_text deadlines sending
front_text sending (replies.AcceptedPapers papers) = papers_text papers sending
front_text sending (replies.Reviews reviews) = reviews_text reviews sending
front_text sending (replies.Response text) = response_text text sending
front_text sending (replies.Comments comments) = comments_text comments sending
front_text sending (replies.Found papers) = found_text papers sending
front_text sending (replies.Count n) = count_text n sending
front_text sending (replies.Conference conference) = conference_text conference sending
front_text sending (replies.Page page) = page_text page sending
front_text sending (replies.Me me) = me_text me sending
front_text sending (replies.Content content) = content_front (length content) sending
front_text sending (replies.Report text) = report_front (length text) sending

-- what is written after that, as it is kept: the bytes of a content or of a report
abbrev pub block_text : Sending → Reply → List ℕ
block_text sending (replies.Content content) = unless_head sending.is_head content
block_text sending (replies.Report text) = unless_head sending.is_head text
block_text sending _ = []

-- the answer with a reply
abbrev pub reply_text : Reply → Sending → List ℕ
reply_text reply sending = front_text sending reply ++ block_text sending reply

-- out of memory at this moment, which ends the connection
abbrev pub no_memory_text : Bool → ℕ → List ℕ
no_memory_text is_head at = refusal_text NoMemory (closing is_head at)

-- a reply of which so little is printed that any answer room takes it
abbrev pub IsBrief : Reply → Type 0
IsBrief (replies.Accepted receipt) = Unit {0}
IsBrief (replies.Refused rule) = Unit {0}
IsBrief (replies.RowRefused row rule) = Unit {0}
IsBrief (replies.Accounts accounts) = ⊥
IsBrief (replies.Deadlines deadlines) = ⊥
IsBrief (replies.AcceptedPapers papers) = ⊥
IsBrief (replies.Reviews reviews) = ⊥
IsBrief (replies.Response text) = ⊥
IsBrief (replies.Comments comments) = ⊥
IsBrief (replies.Found papers) = ⊥
IsBrief (replies.Count n) = Unit {0}
IsBrief (replies.Conference conference) = Unit {0}
IsBrief (replies.Page page) = ⊥
IsBrief (replies.Me me) = ⊥
IsBrief (replies.Content content) = Unit {0}
IsBrief (replies.Report text) = Unit {0}
