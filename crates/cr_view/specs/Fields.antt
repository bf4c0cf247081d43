-- SPDX-License-Identifier: Apache-2.0 OR MIT
-- What single fields tell of a paper, by the tables.
use Rattle.std.specs.Prelude.{ℕ, Bool, false, not, ◌||◌, zero, suc, List, [], Option, Some, None, is_some}
use Rattle.std.specs.Prelude.{unwrap_or}
use Rattle.std.specs.Option.{option_map_or}
use Rattle.cr_base.specs.declared.comment.CommentLine.{CommentLine}
use Rattle.cr_base.specs.declared.reply.Reply.TheVariants as replies
use Rattle.cr_base.specs.declared.review.ReviewLine.{ReviewLine}
use Rattle.cr_base.specs.declared.standing.Standing.{Standing}
use Rattle.cr_base.specs.Accounts.{lines_of}
use Rattle.cr_base.specs.Answering.{comments_answered, reply_or_rule, reviews_answered, tells_response}
use Rattle.cr_base.specs.Checks.{comments_checks, judged, of_there, response_checks, reviews_checks}
use Rattle.cr_base.specs.Lists.{is_nothing}
use Rattle.cr_base.specs.Page.{shows_author, where_told}
use Rattle.cr_base.specs.Sources.{facts_of_tables, has_paper, names_in}
use Rattle.cr_base.specs.Tables.{Tables}
use Rattle.cr_base.specs.Talk.{response_in}
use Rattle.cr_base.specs.Ties.{authors_in}
use Rattle.cr_view.specs.Comments.{comments_at}
use Rattle.cr_view.specs.Reviews.{reviews_at}

-- there is a list, and it isn't empty
abbrev pub tells_some : {A : Type 0} → Option (List A) → Bool
tells_some told = option_map_or (λ xs. not (is_nothing xs)) told false

-- the names of a paper's authors, if a caller with this standing at it is told them; the `Bool` says whether the paper
-- is accepted
abbrev pub authors_named : Tables → Standing → Bool → ℕ → List (List ℕ)
authors_named t by accepted p =
    unwrap_or (where_told (shows_author by accepted) (Some (names_in (lines_of t.accounts) (authors_in t.ties p)))) []

-- this holds of one of the first labels
abbrev pub some_label : (ℕ → Bool) → ℕ → Bool
some_label written zero = false
some_label written (suc n) = some_label written n || written (suc n)

-- the reviews that a user with this standing at the paper is answered; none if a rule is broken
abbrev pub reviews_told : Tables → Option ℕ → Standing → ℕ → List ReviewLine
reviews_told t user by p =
    let there = has_paper (facts_of_tables t None) (Some p) in
    reviews_answered
    (reply_or_rule
    (judged (reviews_checks by t.stage.had_response (of_there there)) (replies.Reviews (reviews_at t user by p))))

-- the comments that a user with this standing at the paper is answered; none if a rule is broken
abbrev pub comments_told : Tables → Standing → ℕ → List CommentLine
comments_told t by p =
    let there = has_paper (facts_of_tables t None) (Some p) in
    comments_answered
    (reply_or_rule (judged (comments_checks by (of_there there)) (replies.Comments (comments_at t None by p))))

-- a user with this standing at the paper is answered its authors' response
abbrev pub response_told : Tables → Standing → ℕ → Bool
response_told t by p =
    let there = has_paper (facts_of_tables t None) (Some p) in
    tells_response
    (reply_or_rule (judged (response_checks by (of_there there) (is_some (response_in t.talk p)))
    (replies.Response (unwrap_or (response_in t.talk p) []))))
