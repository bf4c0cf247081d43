-- SPDX-License-Identifier: Apache-2.0 OR MIT
-- What a query is answered by reads of the tables.
use Rattle.std.proofs.Common.{ℕ, Bool, true, ◌≡◌, ◌<◌, ◌+◌, List, [], ◌∷◌, ◌++◌, length, drop, get_or}
use Rattle.std.proofs.Common.{append_assoc, refl, sym, ap, subst, ◌∙◌, Option, Some, None, Result, Ok, Err}
use Rattle.std.specs.Option.{option_map}
use Rattle.std.specs.Prelude.{map, unwrap_or, IsOk, IsErrAnd, IsSome}
use Rattle.std.proofs.lemmas.Bool.{true≢false}
use Rattle.std.proofs.lemmas.List.{at_drop_more}
use Rattle.cr_base.specs.declared.entry.Account.{Account}
use Rattle.cr_base.specs.declared.comment.CommentLine.{CommentLine}
use Rattle.cr_base.specs.declared.page.Page.{Page}
use Rattle.cr_base.specs.declared.pairs.Tie.{Tie}
use Rattle.cr_base.specs.declared.command.Query.{Query}
use Rattle.cr_base.specs.declared.command.Query.TheVariants as queries
use Rattle.cr_base.specs.declared.reply.Conference.{Conference}
use Rattle.cr_base.specs.declared.reply.Reply.{Reply}
use Rattle.cr_base.specs.declared.reply.Reply.TheVariants as replies
use Rattle.cr_base.specs.declared.reply.Rule.{Rule}
use Rattle.cr_base.specs.declared.review.ReviewLine.{ReviewLine}
use Rattle.cr_base.specs.declared.standing.Standing.{Standing}
use Rattle.cr_base.specs.Accounts.{account_at, lines_of}
use Rattle.cr_base.specs.Checks.{Check, judged}
use Rattle.cr_base.specs.Answering.{query_checks, page_by, content_by, content_asked, reviews_by, comments_by}
use Rattle.cr_base.specs.Answering.{response_by, reply_or_rule, answer_by_role}
use Rattle.cr_base.specs.Sources.{Facts, Shown, names_in, name_in, standing_at, facts_of_tables, shown_in_tables}
use Rattle.cr_base.specs.Lists.{listed}
use Rattle.cr_base.specs.Page.{where_told}
use Rattle.cr_base.specs.Papers.{paper_count}
use Rattle.cr_base.specs.Tables.{Tables}
use Rattle.cr_base.specs.Ties.{BareTies}
use Rattle.cr_base.specs.Words.{is_member}
use Rattle.cr_base.proofs.CheckLaws.{judged-Ok}
use Rattle.cr_base.proofs.ListLaws.{length-numbers_from, name_in-lines_of}
use Rattle.cr_view.specs.declared.queries.AnswerError.{AnswerError}
use Rattle.cr_view.specs.declared.queries.AnswerError.TheVariants as errors
use Rattle.cr_view.specs.Comments.{comments_due}
use Rattle.cr_view.specs.Replies.{IsNoRefusal, AnswersAsDue, AnswersOrPlans, ShowsAsDue, reader_at, due_at, facts_at}
use Rattle.cr_view.specs.Replies.{page_due, content_due, content_reply_at}
use Rattle.cr_view.specs.Responses.{response_due}
use Rattle.cr_view.specs.Reviews.{reviews_due}
use Rattle.cr_view.proofs.JudgeLaws.{refused, passed}

-- ---- walks

-- one step of a walk over a list, where what is made of it begins with what is made of its first element
pub walk-step : {A B : Type 0} (made : List A → List B) (piece : List B) (xs : List A) (i : ℕ) (other : A)
    (before after wanted : List B)
    → i < length xs → ((rest : List A) → made (get_or xs i other ∷ rest) ≡ piece ++ made rest) → after ≡ before ++ piece
    → before ++ made (drop i xs) ≡ wanted
    → after ++ made (drop (i + 1) xs) ≡ wanted
walk-step {A} {B} made piece xs i other before after wanted within begins pushed told =
    let rest : List A = drop (i + 1) xs in
    ap (λ (l : List B). l ++ made rest) pushed
    ∙ append_assoc before piece (made rest)
    ∙ ap (λ (l : List B). before ++ l) (sym (begins rest))
    ∙ sym (at_drop_more (λ (ys : List A). before ++ made ys) xs i other within)
    ∙ told

-- ---- names

-- the name found, where it is told
pub name-told : (accounts : List Account) (user : ℕ) (told : Bool) (found : Option (List ℕ)) → told ≡ true
    → found ≡ option_map (λ (a : Account). a.name) (account_at accounts user)
    → found ≡ where_told told (name_in (lines_of accounts) user)
name-told accounts user told found shows is =
    is ∙ sym (name_in-lines_of accounts user)
    ∙ sym (ap (λ (b : Bool). where_told b (name_in (lines_of accounts) user)) shows)

-- the name found comes first
name_first : (accounts : List Account) (user : ℕ) (found : Option (List ℕ)) (rest : List ℕ)
    → found ≡ option_map (λ (a : Account). a.name) (account_at accounts user)
    → names_in (lines_of accounts) (user ∷ rest) ≡ listed found ++ names_in (lines_of accounts) rest
name_first accounts user found rest is = ap (λ (o : Option (List ℕ)). listed o ++ names_in (lines_of accounts) rest)
    (name_in-lines_of accounts user ∙ sym is)

-- one more name of the users of ties
pub names-step : (accounts : List Account) (ties : BareTies) (i : ℕ) (other : Tie (Unit {0}))
    (before after wanted : List (List ℕ)) (found : Option (List ℕ))
    → i < length ties → found ≡ option_map (λ (a : Account). a.name)
    (account_at accounts (get_or ties i other).pair.user) → after ≡ before ++ listed found
    → before ++ names_in (lines_of accounts) (map (λ (t : Tie (Unit {0})). t.pair.user) (drop i ties)) ≡ wanted
    → after ++ names_in (lines_of accounts) (map (λ (t : Tie (Unit {0})). t.pair.user) (drop (i + 1) ties)) ≡ wanted
names-step accounts ties i other before after wanted found within is pushed told =
    walk-step (λ (ts : BareTies). names_in (lines_of accounts) (map (λ (t : Tie (Unit {0})). t.pair.user) ts))
    (listed found) ties i other before after wanted within
    (λ rest. name_first accounts (get_or ties i other).pair.user found (map (λ (t : Tie (Unit {0})). t.pair.user) rest)
    is) pushed told

-- ---- what is told of a paper

-- where none is broken, the reader stands as she does
pub reader-is : {A : Type 0} (checks : List Check) (x given : A) → ◌≡◌ {A = Result A Rule} (Ok given) (judged checks x)
    → given ≡ x
reader-is checks x given h = sym (judged-Ok checks x given (sym h)).1

-- members are users
pub member-known : (t : Tables) (user paper : Option ℕ) → is_member (standing_at t user paper).role ≡ true → IsSome user
member-known t None paper h = absurd (true≢false (sym h))
member-known t (Some user) paper h = refl

-- what is shown, or isn't, as the answer
abbrev pub as_reply : {A : Type 0} → (A → Reply) → Result A AnswerError → Result Reply AnswerError
as_reply made (Ok shown) = Ok (made shown)
as_reply made (Err error) = Err error

-- what is told of a paper to one who stands so to it is what is due
module _ {A : Type 0} (asked : Option ℕ → Query) (told : Facts → Shown → ℕ → A) (t : Tables)
    (user paper : Option ℕ) where
  abbrev wanted : A
  wanted = told (facts_of_tables t user) (shown_in_tables t) (unwrap_or paper 0)

  abbrev checks : List Check
  checks = query_checks (facts_of_tables t user) (shown_in_tables t) (asked paper)

  pub due-refused : (rule : Rule) → ◌≡◌ {A = Result Standing Rule} (Err rule) (reader_at asked t user paper)
      → due_at asked told t user paper ≡ Err rule
  due-refused rule h = sym (refused checks (standing_at t user paper) wanted rule h)

  pub due-told : ((n : ℕ) → told (facts_at t user (standing_at t user (Some n))) (shown_in_tables t) n
      ≡ told (facts_of_tables t user) (shown_in_tables t) n)
      → (by : Standing) → ◌≡◌ {A = Result Standing Rule} (Ok by) (reader_at asked t user paper) → (number : ℕ)
      → paper ≡ Some number
      → (given : A) → given ≡ told (facts_at t user by) (shown_in_tables t) number
      → due_at asked told t user paper ≡ Ok given
  due-told same by reads number is given h =
      let here : Option ℕ → Standing = standing_at t user in
      sym
      (ap (λ (a : A). Ok a)
      (h
      ∙ ap (λ (s : Standing). told (facts_at t user s) (shown_in_tables t) number)
      (reader-is checks (here paper) by reads)
      ∙ ap (λ (p : Option ℕ). told (facts_at t user (here p)) (shown_in_tables t) number) is
      ∙ same number
      ∙ sym (ap (λ (p : Option ℕ). told (facts_of_tables t user) (shown_in_tables t) (unwrap_or p 0)) is))
      ∙ passed checks (λ (s : Standing). wanted) (here paper) by reads)

  -- and where memory runs out, no rule is broken
  pub due-unserved : (by : Standing) → ◌≡◌ {A = Result Standing Rule} (Ok by) (reader_at asked t user paper)
      → (r : Result A AnswerError)
      → IsErrAnd r (λ (e : AnswerError). e ≡ errors.OutOfMemory) → ShowsAsDue r (due_at asked told t user paper)
  due-unserved by reads (Ok given) out = absurd out
  due-unserved by reads (Err error) out =
      let due : Result A Rule = due_at asked told t user paper in
      subst (λ (e : AnswerError). ShowsAsDue {A = A} (Err e) due) (sym out)
      (subst (λ (r : Result A Rule). IsOk r) (passed checks (λ (s : Standing). wanted) (standing_at t user paper) by
      reads) refl)

module _ {A : Type 0} (checks : List Check) (x : A) (made : A → Reply) (serves : (a : A) → IsNoRefusal (made a)) where
  abbrev due : Reply
  due = reply_or_rule (judged checks (made x))

  shown-due : (given : A) → judged checks x ≡ Ok given → due ≡ made given
  shown-due given h = ap reply_or_rule (sym (passed checks made x given (sym h)))

  shown-served : (judgement : Result A Rule) → judged checks x ≡ judgement → IsOk judgement → IsNoRefusal due
  shown-served (Ok given) h ok = λ rule e. serves given rule (sym (shown-due given h) ∙ e)
  shown-served (Err rule) h ok = cc

  -- what is shown is what is answered
  pub shown-answered : (r : Result A AnswerError) → ShowsAsDue r (judged checks x) → AnswersAsDue (as_reply made r) due
  shown-answered (Ok given) h = (sym (shown-due given h), shown-served (Ok given) h refl)
  shown-answered (Err (errors.Rule rule)) h = ap reply_or_rule (sym (refused checks x (made x) rule (sym h)))
  shown-answered (Err errors.OutOfMemory) h = shown-served (judged checks x) refl h

-- what is answered so is answered so where it may be a plan, too
pub or-plans : (r : Result Reply AnswerError) (due : Reply) → AnswersAsDue r due → AnswersOrPlans r due
or-plans (Ok reply) due h = h
or-plans (Err (errors.Rule rule)) due h = h
or-plans (Err errors.OutOfMemory) due h = λ rule other. h rule

-- so it is with what is told of a paper: a page, reviews and comments
told-answered : {A : Type 0} (asked : Option ℕ → Query) (told : Facts → Shown → ℕ → A) (made : A → Reply)
    (serves : (a : A) → IsNoRefusal (made a))
    (t : Tables) (caller paper : Option ℕ) (r : Result A AnswerError) → ShowsAsDue r (due_at asked told t caller paper)
    → AnswersAsDue (as_reply made r)
    (reply_or_rule (judged (query_checks (facts_of_tables t caller) (shown_in_tables t) (asked paper))
    (made (told (facts_of_tables t caller) (shown_in_tables t) (unwrap_or paper 0)))))
told-answered asked told made serves t caller paper r h =
    let facts : Facts = facts_of_tables t caller in
    shown-answered (query_checks facts (shown_in_tables t) (asked paper))
    (told facts (shown_in_tables t) (unwrap_or paper 0)) made serves r h

pub page-answered : (t : Tables) (caller paper : Option ℕ) (r : Result Page AnswerError)
    → ShowsAsDue r (page_due t caller paper)
    → AnswersAsDue (as_reply (λ (p : Page). replies.Page p) r) (answer_by_role t caller (queries.Page paper))
page-answered t caller paper r h =
    told-answered queries.Page (λ (facts : Facts) (shown : Shown). page_by facts shown caller)
    (λ (p : Page). replies.Page p) (λ p rule e. cc) t caller paper r h

pub reviews-answered : (t : Tables) (caller paper : Option ℕ) (r : Result (List ReviewLine) AnswerError)
    → ShowsAsDue r (reviews_due t caller paper)
    → AnswersAsDue (as_reply (λ (l : List ReviewLine). replies.Reviews l) r)
    (answer_by_role t caller (queries.Reviews paper))
reviews-answered t caller paper r h = told-answered queries.Reviews reviews_by
    (λ (l : List ReviewLine). replies.Reviews l) (λ l rule e. cc) t caller paper r h

pub comments-answered : (t : Tables) (caller paper : Option ℕ) (r : Result (List CommentLine) AnswerError)
    → ShowsAsDue r (comments_due t caller paper)
    → AnswersAsDue (as_reply (λ (l : List CommentLine). replies.Comments l) r)
    (answer_by_role t caller (queries.Comments paper))
comments-answered t caller paper r h = told-answered queries.Comments comments_by
    (λ (l : List CommentLine). replies.Comments l) (λ l rule e. cc) t caller paper r h

-- and with a content
pub content-answered : (t : Tables) (caller paper version : Option ℕ) (r : Result (List ℕ) AnswerError)
    → ShowsAsDue r (content_due t caller paper version)
    → AnswersAsDue (as_reply (λ (c : List ℕ). replies.Content c) r) (content_reply_at t caller paper version)
content-answered t caller paper version r h =
    let facts : Facts = facts_of_tables t caller in
    shown-answered
    (content_asked facts (shown_in_tables t) paper version)
    (unwrap_or (content_by facts (shown_in_tables t) paper version) [])
    (λ (c : List ℕ). replies.Content c) (λ c rule e. cc) r h

-- and with a response
pub response-answered : (t : Tables) (caller paper : Option ℕ) (r : Result (List ℕ) AnswerError)
    → ShowsAsDue r (response_due t caller paper)
    → AnswersAsDue (as_reply (λ (text : List ℕ). replies.Response text) r)
    (answer_by_role t caller (queries.Response paper))
response-answered t caller paper r h =
    shown-answered (query_checks (facts_of_tables t caller) (shown_in_tables t) (queries.Response paper))
    (response_by (shown_in_tables t) paper)
    (λ (text : List ℕ). replies.Response text) (λ text rule e. cc) r h

pub conference-told : (t : Tables) (caller : Option ℕ) (query : Query) (conference : Conference)
    → conference ≡ record { mode = t.stage.mode; papers = paper_count t.papers; phase = t.stage.phase }
    → query ≡ queries.Phase → replies.Conference conference ≡ answer_by_role t caller query
conference-told t caller query conference is asked =
    ap (λ (c : Conference). replies.Conference c) is
    ∙ ap (λ n. replies.Conference (record { mode = t.stage.mode; papers = n; phase = t.stage.phase }))
    (sym (length-numbers_from 1 t.papers.papers))
    ∙ sym (ap (answer_by_role t caller) asked)
