-- SPDX-License-Identifier: Apache-2.0 OR MIT
-- A paper's page, of what is asked of it once and of its lists.
use Rattle.std.proofs.Common.{ℕ, Bool, true, false, ◌≡◌, ◌∙◌, List, refl, sym, ap, subst, Option, Some, Result, Ok, Err}
use Rattle.std.specs.Prelude.{IsOk, IsErrAnd, unwrap_or}
use Rattle.std.specs.Option.{option_map}
use Rattle.cr_base.specs.declared.command.Query.TheVariants as queries
use Rattle.cr_base.specs.declared.page.Page.{Page}
use Rattle.cr_base.specs.declared.reply.Rule.{Rule}
use Rattle.cr_base.specs.Accounts.{lines_of}
use Rattle.cr_base.specs.Answering.{query_checks}
use Rattle.cr_base.specs.Checks.{Check, judged}
use Rattle.cr_base.specs.Page.{gets_abstract, gets_bids, gets_conflict, gets_conflicts, gets_decision, gets_declared}
use Rattle.cr_base.specs.Page.{gets_label, gets_tags, gets_title, gets_versions, gets_withdrawn, shows_author}
use Rattle.cr_base.specs.Page.{where_told}
use Rattle.cr_base.specs.Pairs.{users_tied_to}
use Rattle.cr_base.specs.Sources.{facts_of_tables, names_in, shown_in_tables}
use Rattle.cr_base.specs.Tables.{Tables}
use Rattle.cr_base.specs.Tags.{tags_in}
use Rattle.cr_base.specs.Ties.{authors_in, bids_in}
use Rattle.cr_base.specs.Words.{is_chair}
use Rattle.cr_view.specs.declared.queries.AnswerError.{AnswerError}
use Rattle.cr_view.specs.declared.queries.AnswerError.TheVariants as errors
use Rattle.cr_view.specs.PaperSeen.{PaperSeen, ListsSeen, paper_seen_at, lists_seen_at, page_seen, page_listed}
use Rattle.cr_view.specs.PaperSeen.{reviewers_read, reviewers_told, accepted_seen, title_seen, abstract_seen}
use Rattle.cr_view.specs.PaperSeen.{decision_seen, withdrawn_seen}
use Rattle.cr_view.specs.Replies.{ShowsAsDue, bidders_of, page_due, versions_at}
use Rattle.cr_view.proofs.JudgeLaws.{refused, passed}

-- what is made of a value, where it is told
told-map : {A B : Type 0} (make : A → B) (told : Bool) (x : A)
    → option_map make (where_told told (Some x)) ≡ where_told told (Some (make x))
told-map make true x = refl
told-map make false x = refl

-- the page of these lists, versions and tags
pub page-is : (t : Tables) (user : Option ℕ) (s : PaperSeen) (lists : ListsSeen) (versions : Option (List ℕ))
    (tags : Option (List (List ℕ)))
    → lists ≡ lists_seen_at t user s lists.reviewers
    → option_map (reviewers_read t s.by) lists.reviewers ≡ reviewers_told t s
    → versions ≡ where_told (gets_versions s.by (accepted_seen s)) (Some (versions_at t s.by.author s.paper))
    → tags ≡ where_told (gets_tags s.by) (Some (tags_in t.tags user (is_chair s.by.role) s.paper))
    → page_listed t s lists versions tags ≡ page_seen t user s
page-is t user s lists versions tags is reviewers numbers set =
    let names = names_in (lines_of t.accounts) in
    ap (λ (l : ListsSeen). page_listed t s l versions tags) is
    ∙ (λ i. record {
      paper = s.paper;
      abstract_ = where_told (gets_abstract s.by (accepted_seen s)) (abstract_seen s);
      authors = told-map names (shows_author s.by (accepted_seen s)) (authors_in t.ties s.paper) i;
      bid = (lists_seen_at t user s lists.reviewers).bid;
      bids = told-map (bidders_of t) (gets_bids s.by) (bids_in t.ties s.paper) i;
      conflict = where_told (gets_conflict s.by) (Some s.by.conflicted);
      conflicts = told-map names (gets_conflicts s.by) (users_tied_to s.paper t.ties.conflicts) i;
      decision = where_told (gets_decision s.by (accepted_seen s)) (Some (decision_seen s));
      declared = told-map names (gets_declared s.by) (users_tied_to s.paper t.ties.declared) i;
      label = where_told (gets_label s.by) s.label;
      reviewers = reviewers i;
      tags = set i;
      title = where_told (gets_title s.by (accepted_seen s)) (title_seen s);
      versions = numbers i;
      withdrawn = where_told (gets_withdrawn s.by) (Some (withdrawn_seen s));
    })

-- ---- what is due

module _ (t : Tables) (user paper : Option ℕ) where
  abbrev checks : List Check
  checks = query_checks (facts_of_tables t user) (shown_in_tables t) (queries.Page paper)

  abbrev asked : PaperSeen
  asked = paper_seen_at t user (unwrap_or paper 0)

  -- the first broken rule
  pub page-refused : (rule : Rule) → ◌≡◌ {A = Result PaperSeen Rule} (Err rule) (judged checks asked)
      → page_due t user paper ≡ Err rule
  page-refused rule h = sym (refused checks asked (page_seen t user asked) rule h)

  -- the page of what was asked
  pub page-told : (s : PaperSeen) → ◌≡◌ {A = Result PaperSeen Rule} (Ok s) (judged checks asked) → (page : Page)
      → page ≡ page_seen t user s
      → page_due t user paper ≡ Ok page
  page-told s h page is = sym (ap (λ (p : Page). Ok p) is ∙ passed checks (page_seen t user) asked s h)

  -- and where memory runs out, no rule is broken
  pub page-unserved : (s : PaperSeen) → ◌≡◌ {A = Result PaperSeen Rule} (Ok s) (judged checks asked)
      → (r : Result Page AnswerError)
      → IsErrAnd r (λ (e : AnswerError). e ≡ errors.OutOfMemory) → ShowsAsDue r (page_due t user paper)
  page-unserved s h (Ok page) out = absurd out
  page-unserved s h (Err error) out =
      let due : Result Page Rule = page_due t user paper in
      subst (λ (e : AnswerError). ShowsAsDue {A = Page} (Err e) due) (sym out)
      (subst (λ (r : Result Page Rule). IsOk r) (passed checks (page_seen t user) asked s h) refl)
