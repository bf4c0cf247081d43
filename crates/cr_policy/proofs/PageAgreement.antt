-- SPDX-License-Identifier: Apache-2.0 OR MIT
-- Where the tables tell what a history tells and conflicts are declared in time, answers by a view are those by the
-- tables.
use Rattle.std.proofs.Common.{ℕ, Bool, true, false, ◌≡◌, List, [], ◌∷◌, ◌||◌, ◌&&◌, refl, ap, ◌∙◌, arith, Option, Some}
use Rattle.std.proofs.Common.{None, Result, Ok}
use Rattle.std.specs.Prelude.{◌==◌, unwrap_or, not, is_some, map, length}
use Rattle.std.specs.List.{flat_map, list_any, filter}
use Rattle.std.specs.Option.{option_map}
use Rattle.std.proofs.lemmas.Bool.{not-false}
use Rattle.cr_base.specs.declared.accepted.AcceptedPaper.{AcceptedPaper}
use Rattle.cr_base.specs.declared.command.Query.{Query}
use Rattle.cr_base.specs.declared.command.Query.TheVariants as queries
use Rattle.cr_base.specs.declared.comment.CommentLine.{CommentLine}
use Rattle.cr_base.specs.declared.found.FoundPaper.{FoundPaper}
use Rattle.cr_base.specs.declared.page.Bidder.{Bidder}
use Rattle.cr_base.specs.declared.page.Page.{Page}
use Rattle.cr_base.specs.declared.reply.AccountLine.{AccountLine}
use Rattle.cr_base.specs.declared.reply.Reply.{Reply}
use Rattle.cr_base.specs.declared.reply.Reply.TheVariants as replies
use Rattle.cr_base.specs.declared.reply.Rule.{Rule}
use Rattle.cr_base.specs.declared.reply.Rule.TheVariants as rules
use Rattle.cr_base.specs.declared.search.Node.{Node}
use Rattle.cr_base.specs.declared.standing.Standing.{Standing}
use Rattle.cr_base.specs.Accounts.{lines_of}
use Rattle.cr_base.specs.Checks.{Check, ◌breaks◌, judged, reads_freely}
use Rattle.cr_base.specs.Decisions.{is_published}
use Rattle.cr_base.specs.History.{History, Upload, BidTold}
use Rattle.cr_base.specs.HistoryFacts.{standing_of}
use Rattle.cr_base.specs.Lists.{listed}
use Rattle.cr_base.specs.Page.{PaperTexts, page_of, where_told, is_admitted, is_clear_external, is_clear_chair}
use Rattle.cr_base.specs.Page.{reads_paper, gets_title, gets_abstract, shows_author, gets_conflict, gets_conflicts}
use Rattle.cr_base.specs.Page.{gets_declared, gets_versions, gets_withdrawn, gets_bid, gets_bids, gets_label}
use Rattle.cr_base.specs.Page.{gets_reviewers, gets_tags, gets_decision}
use Rattle.cr_base.specs.Phases.{members_see_papers, committee_sees_authors, members_read_comments}
use Rattle.cr_base.specs.Phases.{members_read_responses}
use Rattle.cr_base.specs.Tables.{Tables, no_tables, tables_of, FitInTurn}
use Rattle.cr_base.specs.Answering.{uploads_told, upload_of, content_by, content_asked, query_checks, bidder_told}
use Rattle.cr_base.specs.Answering.{reviewer_told, page_by, told_of_paper, found_by, search_told, reviews_answered}
use Rattle.cr_base.specs.Answering.{comments_answered, tells_response, accepted_paper, accepted_by, comments_by}
use Rattle.cr_base.specs.Answering.{response_by, reply_or_rule, answer_by, answer_by_role}
use Rattle.cr_base.specs.Searching.{is_found, found_paper}
use Rattle.cr_base.specs.Sources.{Facts, Shown, decision_by, has_paper, facts_of_tables, shown_in_tables, names_in}
use Rattle.cr_base.specs.Words.{is_anonymous, is_chair, is_member, no_bid}
use Rattle.cr_base.proofs.CheckLaws.{judged-behind}
use Rattle.cr_history.specs.Laws.{AreTold, AreFormsTold}
use Rattle.cr_policy.specs.View.{view}
use Rattle.cr_policy.specs.ViewFacts.{is_conflict_on_in_view, declared_in_view, users_where, shown_in_view}
use Rattle.cr_policy.specs.Judge.{answer}
use Rattle.cr_policy.proofs.DeclaredLaws.{declared-seen_by_author}
use Rattle.cr_history.specs.Invariants.{DeclaresInTime, Invariants}
use Rattle.cr_history.proofs.OrderAgreement.{has_order-tables, users-tied_to}
use Rattle.cr_policy.proofs.StandingLaws.{accounts-seen}
use Rattle.cr_policy.proofs.BidAgreement.{bids-tables}
use Rattle.cr_policy.proofs.ReviewerTells.{same_key}
use Rattle.cr_policy.proofs.PageTells.{conflicts-seen}
use Rattle.cr_policy.proofs.FactAgreement.{facts_in_view-tables, title-tables, abstract-tables, authors-tables}
use Rattle.cr_policy.proofs.FactAgreement.{withdrawn-tables, uploads-tables, decision_by-tables}
use Rattle.cr_policy.proofs.ReportAgreement.{passed, map-same, report-tables}
use Rattle.cr_base.specs.Plans.{best_plan, planned_papers}
use Rattle.cr_policy.proofs.PlanAgreement.{best-same, papers-same, plan-tables}
use Rattle.cr_policy.proofs.ReviewAgreement.{reviewers-tables, reviews-tables}
use Rattle.cr_policy.proofs.TalkAgreement.{comments-tables, response-tables, tags-tables}

-- ---- users by number

-- of the accounts that a view shows, those of whom something holds are those of the tables
users-tables : (u : Option ℕ) (H : History) (test : ℕ → Bool) → AreTold H
    → users_where test (view u H) ≡ filter test (map (λ (a : AccountLine). a.user) (lines_of (tables_of H).accounts))
users-tables u H test told = ap (λ (lines : List AccountLine). filter test (map (λ (a : AccountLine). a.user) lines))
    (accounts-seen u H ∙ told.accounts)

-- who is declared in conflict with a paper, as the view of one who is told shows it
pub conflicts-tables : (u : Option ℕ) (H : History) (p : ℕ) → FitInTurn no_tables H → AreTold H
    → gets_conflicts (standing_of u (Some p) H) ≡ true
    → (shown_in_view u (view u H)).conflicts p ≡ (shown_in_tables (tables_of H)).conflicts p
conflicts-tables u H p fits told may =
    let t : Tables = tables_of H in
    let test : ℕ → Bool = λ v. is_conflict_on_in_view (Some v) p (view u H) in
    users-tables u H test told
    ∙ users-tied_to test p t.accounts t.ties.conflicts (has_order-tables H fits).conflicts
    (λ v. conflicts-seen u p H may (Some v) ∙ told.conflict (Some v) p)

-- whom the paper's authors declared, as the view of one of them shows it
declared-tables : (u : Option ℕ) (H : History) (p : ℕ) → FitInTurn no_tables H → AreTold H → DeclaresInTime H
    → gets_declared (standing_of u (Some p) H) ≡ true
    → (shown_in_view u (view u H)).declared p ≡ (shown_in_tables (tables_of H)).declared p
declared-tables u H p fits told in_time may =
    let t : Tables = tables_of H in
    let among : ℕ → List ℕ → Bool = λ v users. list_any (λ w. w == v) users in
    let test : ℕ → Bool = λ v. among v (declared_in_view u p (view u H)) in
    users-tables u H test told
    ∙ users-tied_to test p t.accounts t.ties.declared (has_order-tables H fits).declared
    (λ v. ap (among v) (declared-seen_by_author u p H in_time may)
    ∙ told.declared p v)

-- ---- pages

-- texts of a paper, which is accepted or isn't, that agree where a standing tells them; a reader's own bid and label
-- agree always
record AgreeWhereTold (by : Standing) (accepted : Bool) (x y : PaperTexts) : Type 0 where
  bid : x.bid ≡ y.bid
  label : x.label ≡ y.label
  title : gets_title by accepted ≡ true → x.title ≡ y.title
  abstract_ : gets_abstract by accepted ≡ true → x.abstract_ ≡ y.abstract_
  authors : shows_author by accepted ≡ true → x.authors ≡ y.authors
  decision : gets_decision by accepted ≡ true → x.decision ≡ y.decision
  conflicts : gets_conflicts by ≡ true → x.conflicts ≡ y.conflicts
  declared : gets_declared by ≡ true → x.declared ≡ y.declared
  bids : gets_bids by ≡ true → x.bids ≡ y.bids
  reviewers : gets_reviewers by ≡ true → x.reviewers ≡ y.reviewers
  tags : gets_tags by ≡ true → x.tags ≡ y.tags
  versions : gets_versions by accepted ≡ true → x.versions ≡ y.versions
  withdrawn : gets_withdrawn by ≡ true → x.withdrawn ≡ y.withdrawn

-- they make the same page
page_of-same : (by : Standing) (accepted : Bool) (p : ℕ) (x y : PaperTexts) → AgreeWhereTold by accepted x y
    → page_of by accepted p x ≡ page_of by accepted p y
page_of-same by accepted p x y agree = λ i. record {
  paper = p;
  abstract_ = same_key (gets_abstract by accepted) x.abstract_ y.abstract_ agree.abstract_ i;
  authors =
      same_key (shows_author by accepted) (Some x.authors) (Some y.authors) (λ told. ap Some (agree.authors told)) i;
  bid = where_told (gets_bid by) (Some (unwrap_or (agree.bid i) no_bid));
  bids = same_key (gets_bids by) (Some x.bids) (Some y.bids) (λ told. ap Some (agree.bids told)) i;
  conflict = where_told (gets_conflict by) (Some by.conflicted);
  conflicts =
      same_key (gets_conflicts by) (Some x.conflicts) (Some y.conflicts) (λ told. ap Some (agree.conflicts told)) i;
  decision =
      same_key (gets_decision by accepted) (Some x.decision) (Some y.decision) (λ told. ap Some (agree.decision told))
      i;
  declared = same_key (gets_declared by) (Some x.declared) (Some y.declared) (λ told. ap Some (agree.declared told)) i;
  label = where_told (gets_label by) (agree.label i);
  reviewers =
      same_key (gets_reviewers by) (Some x.reviewers) (Some y.reviewers) (λ told. ap Some (agree.reviewers told)) i;
  tags = same_key (gets_tags by) (Some x.tags) (Some y.tags) (λ told. ap Some (agree.tags told)) i;
  title = same_key (gets_title by accepted) x.title y.title agree.title i;
  versions =
      same_key (gets_versions by accepted) (Some x.versions) (Some y.versions) (λ told. ap Some (agree.versions told))
      i;
  withdrawn =
      same_key (gets_withdrawn by) (Some x.withdrawn) (Some y.withdrawn) (λ told. ap Some (agree.withdrawn told)) i;
}

module _ (u : Option ℕ) (H : History) (kept : Invariants H) (told : AreTold H) (forms : AreFormsTold H) where
  abbrev facts : Facts
  facts = facts_of_tables (tables_of H) u

  abbrev shown : Shown
  shown = shown_in_view u (view u H)

  abbrev tabled : Shown
  tabled = shown_in_tables (tables_of H)

  -- the page of any paper by any user's view is the one by the tables
  page-tables : (p : ℕ) → page_by facts shown u p ≡ page_by facts tabled u p
  page-tables p =
      let by : Standing = facts.standing (Some p) in
      let names : List ℕ → List (List ℕ) = names_in facts.accounts in
      let numbers : List Upload → List ℕ = map (λ (upload : Upload). upload.version) in
      let bidders : List BidTold → List Bidder =
      λ bids. flat_map (λ (bid : BidTold). listed (bidder_told facts.accounts bid)) bids in
      let texts : Shown → PaperTexts = λ from. record {
        title = from.title p;
        abstract_ = from.abstract_ p;
        authors = names (from.authors p);
        bid = facts.own_bid p;
        bids = bidders (from.bids p);
        conflicts = names (from.conflicts p);
        decision = decision_by facts from p;
        declared = names (from.declared p);
        label = facts.own_ordinal p;
        reviewers = map (reviewer_told by facts.accounts (from.written p)) (from.reviewers p);
        tags = from.tags u (is_chair by.role) p;
        versions = numbers (uploads_told by.author (from.uploads p));
        withdrawn = from.withdrawn p;
      } in
      let stands = told.standing u (Some p) in
      page_of-same by (facts.accepted p) p (texts shown) (texts tabled) (record {
        bid = refl;
        label = refl;
        title = λ may. title-tables u H told p may;
        abstract_ = λ may. abstract-tables u H told p may;
        authors = λ may. ap names (authors-tables u H told p may);
        conflicts = λ may. ap names (conflicts-tables u H p kept.fits told (ap gets_conflicts stands ∙ may));
        decision = λ may. decision_by-tables u H told p may;
        declared =
            λ may. ap names (declared-tables u H p kept.fits told kept.declared_in_time
            (ap gets_declared stands ∙ may));
        bids = λ may. ap bidders (bids-tables u H told kept.in_order p may);
        reviewers = λ may. reviewers-tables u H told p facts.accounts may;
        tags = λ may. tags-tables u H told p may;
        versions = λ may. ap numbers (uploads-tables u H told p may);
        withdrawn = λ may. withdrawn-tables u H told p may;
      })

  -- ---- contents

  -- a paper's content by any user's view is the one by the tables: whether there is any is asked only behind the rules
  -- that have let through one who is told of it
  content-tables : (paper version : Option ℕ)
      → judged (content_asked facts shown paper version)
      (replies.Content (unwrap_or (content_by facts shown paper version) []))
      ≡ judged (content_asked facts tabled paper version)
      (replies.Content (unwrap_or (content_by facts tabled paper version) []))
  content-tables None version = refl
  content-tables (Some p) version =
      judged-behind before (behind (content_by facts shown (Some p) version))
      (behind (content_by facts tabled (Some p) version))
      (reply (content_by facts shown (Some p) version)) (reply (content_by facts tabled (Some p) version))
      (λ none. ap (λ (uploads : List Upload). answered
      (option_map (λ (upload : Upload). upload.content) (upload_of version uploads)))
      (uploads-tables u H told p
      (reads by.author (is_published by.phase (facts.accepted p)) (is_member by.role) by.external by.conflicted
      (members_see_papers by.phase)
      none.1.0 none.1.1.0 none.1.1.1.0)))
    where
      by : Standing
      by = facts.standing (Some p)

      free : Bool
      free = reads_freely by (facts.accepted p)

      before : List Check
      before =
          not (has_paper facts (Some p)) breaks rules.NoPaper
          ∷ not (free || is_admitted by) breaks rules.NotMember
          ∷ (not free && by.conflicted) breaks rules.Conflict
          ∷ not (free || members_see_papers by.phase) breaks rules.WrongPhase
          ∷ []

      behind : Option (List ℕ) → List Check
      behind content = not (is_some content) breaks rules.NoContent ∷ []

      reply : Option (List ℕ) → Reply
      reply content = replies.Content (unwrap_or content [])

      answered : Option (List ℕ) → Result Reply Rule
      answered content = judged (behind content) (reply content)

      reads : (author out member outside clash begun : Bool) → not ((author || out) || (member || outside)) ≡ false
          → (not (author || out) && clash) ≡ false → not ((author || out) || begun) ≡ false
          → (author || (((member && not clash) || (outside && not clash)) && begun) || out) ≡ true
      reads author out member outside clash begun h1 h2 h3 = grind arith

  -- ---- comments

  -- they matter only where she may ask for them
  comments-same : (paper : Option ℕ)
      → judged (query_checks facts shown (queries.Comments paper))
      (replies.Comments (comments_by facts shown (unwrap_or paper 0)))
      ≡ judged (query_checks facts tabled (queries.Comments paper))
      (replies.Comments (comments_by facts tabled (unwrap_or paper 0)))
  comments-same None = refl
  comments-same (Some p) =
      judged-behind (query_checks facts shown (queries.Comments (Some p))) [] []
      (replies.Comments (comments_by facts shown p)) (replies.Comments (comments_by facts tabled p))
      (λ none. ap answered
      (comments-tables u H told p facts.accounts kept.bounded
      (clear (is_member by.role) by.conflicted none.1.0 none.1.1.0)
      (not-false (members_read_comments by.phase) none.1.1.1.0)))
    where
      by : Standing
      by = facts.standing (Some p)

      answered : List CommentLine → Result Reply Rule
      answered lines = Ok (replies.Comments lines)

      clear : (k c : Bool) → not k ≡ false → c ≡ false → (k && not c) ≡ true
      clear k c hk hc = grind arith

  -- ---- responses

  -- whether there is one is asked only behind the rules that have let through one who is told it
  response-same : (paper : Option ℕ)
      → judged (query_checks facts shown (queries.Response paper)) (replies.Response (response_by shown paper))
      ≡ judged (query_checks facts tabled (queries.Response paper)) (replies.Response (response_by tabled paper))
  response-same None = refl
  response-same (Some p) =
      judged-behind before (behind (shown.response p)) (behind (tabled.response p)) (reply (shown.response p))
      (reply (tabled.response p))
      (λ none.
      ap (λ (response : Option (List ℕ)). judged (behind response) (reply response))
      (response-tables u H told p
      (reads by.author (is_member by.role) by.conflicted (members_read_responses by.phase) none.1.0 none.1.1.0
      none.1.1.1.0)))
    where
      by : Standing
      by = facts.standing (Some p)

      before : List Check
      before =
          not (has_paper facts (Some p)) breaks rules.NoPaper
          ∷ not (by.author || is_member by.role) breaks rules.NotMember
          ∷ (not by.author && by.conflicted) breaks rules.Conflict
          ∷ not (by.author || members_read_responses by.phase) breaks rules.WrongPhase
          ∷ []

      behind : Option (List ℕ) → List Check
      behind response = not (is_some response) breaks rules.NoResponse ∷ []

      reply : Option (List ℕ) → Reply
      reply response = replies.Response (unwrap_or response [])

      reads : (a k c d : Bool) → not (a || k) ≡ false → (not a && c) ≡ false → not (a || d) ≡ false
          → (a || ((k && not c) && d)) ≡ true
      reads a k c d h1 h2 h3 = grind (arith, h1, h2, h3)

  -- ---- accepted papers

  -- everyone is told who wrote a paper that is accepted, and its title
  accepted_paper-same : (p : ℕ) → facts.accepted p ≡ true → accepted_paper facts shown p ≡ accepted_paper facts tabled p
  accepted_paper-same p is =
      let by : Standing = facts.standing (Some p) in
      let authors = authors-tables u H told p
      (named by.author (is_clear_chair by && committee_sees_authors by.phase)
      (reads_paper by && not (is_anonymous by.mode) && committee_sees_authors by.phase)
      (facts.accepted p) is) in
      let title = title-tables u H told p (titled by.author (is_member by.role && members_see_papers by.phase)
      (is_clear_external by && members_see_papers by.phase) (facts.accepted p) is) in
      λ i. record { authors = names_in facts.accounts (authors i); paper = p; title = unwrap_or (title i) [] }
    where
      named : (a c m accepted : Bool) → accepted ≡ true → (a || c || m || accepted) ≡ true
      named a c m accepted h = grind arith

      titled : (a m e accepted : Bool) → accepted ≡ true → (a || m || e || accepted) ≡ true
      titled a m e accepted h = grind arith

  accepted-tables : accepted_by facts shown ≡ accepted_by facts tabled
  accepted-tables =
      map-same (λ p. facts.accepted p ≡ true) (accepted_paper facts shown) (accepted_paper facts tabled)
      accepted_paper-same (filter facts.accepted facts.papers)
      (passed facts.accepted facts.papers)

  -- ---- searches

  told-same : (p : ℕ) → told_of_paper facts shown u p ≡ told_of_paper facts tabled u p
  told-same p = λ i. record {
    page = page-tables p i;
    accepted = facts.accepted p;
    conflicted = (facts.standing (Some p)).conflicted;
    reviews = reviews_answered (reply_or_rule (reviews-tables u H told p forms kept.responded i));
    comments = comments_answered (reply_or_rule (comments-same (Some p) i));
    responded = tells_response (reply_or_rule (response-same (Some p) i));
  }

  found-same : (search : List Node) → found_by facts shown u search ≡ found_by facts tabled u search
  found-same search = λ i. map (λ (p : ℕ). found_paper p (told-same p i))
      (filter (λ (p : ℕ). is_found (told-same p i) search) facts.papers)

  search-same : (search : List Node) (only_count : Bool)
      → search_told facts shown u search only_count ≡ search_told facts tabled u search only_count
  search-same search true = ap (λ (found : List FoundPaper). replies.Count (length found)) (found-same search)
  search-same search false = ap (λ (found : List FoundPaper). replies.Found found) (found-same search)

  -- ---- answers

  answer-shown : (query : Query) → answer_by facts shown u query ≡ answer_by_role (tables_of H) u query
  answer-shown queries.Me = refl
  answer-shown queries.Accounts = refl
  answer-shown queries.Phase = refl
  answer-shown queries.Deadlines = refl
  answer-shown queries.AcceptedPapers =
      ap (λ (papers : List AcceptedPaper). replies.AcceptedPapers papers) accepted-tables
  answer-shown (queries.Page paper) =
      ap (λ (page : Page). reply_or_rule (judged (query_checks facts shown (queries.Page paper)) (replies.Page page)))
      (page-tables (unwrap_or paper 0))
  answer-shown (queries.Content paper) = ap reply_or_rule (content-tables paper None)
  answer-shown (queries.Version paper version) = ap reply_or_rule (content-tables paper (Some version))
  answer-shown (queries.Reviews None) = refl
  answer-shown (queries.Reviews (Some p)) = ap reply_or_rule (reviews-tables u H told p forms kept.responded)
  answer-shown (queries.Comments paper) = ap reply_or_rule (comments-same paper)
  answer-shown (queries.Response paper) = ap reply_or_rule (response-same paper)
  answer-shown (queries.Search search only_count) = search-same search only_count
  answer-shown (queries.Report report) = ap reply_or_rule (report-tables u H told forms report)
  answer-shown (queries.Plan per_paper load) =
      ap reply_or_rule
      (plan-tables u H told forms (λ p may. conflicts-tables u H p kept.fits told
      (ap gets_conflicts (told.standing u (Some p)) ∙ may))
      (λ p may. bids-tables u H told kept.in_order p may) per_paper load)

  -- and the plan is the same for a chair, from the bidding on
  pub papers-tables : (per_paper : ℕ) → is_chair (facts.standing None).role ≡ true
      → members_see_papers (facts.standing None).phase ≡ true
      → planned_papers facts shown per_paper ≡ planned_papers facts tabled per_paper
  papers-tables per_paper serves begun =
      papers-same u H told forms (λ p may. conflicts-tables u H p kept.fits told
      (ap gets_conflicts (told.standing u (Some p)) ∙ may))
      (λ p may. bids-tables u H told kept.in_order p may) serves begun per_paper

  pub best-tables : (per_paper load : ℕ) → is_chair (facts.standing None).role ≡ true
      → members_see_papers (facts.standing None).phase ≡ true
      → best_plan facts shown per_paper load ≡ best_plan facts tabled per_paper load
  best-tables per_paper load serves begun =
      best-same u H told forms (λ p may. conflicts-tables u H p kept.fits told
      (ap gets_conflicts (told.standing u (Some p)) ∙ may))
      (λ p may. bids-tables u H told kept.in_order p may) serves begun per_paper load

  -- and so is the answer
  pub answer-tables : (query : Query) → answer u (view u H) query ≡ answer_by_role (tables_of H) u query
  answer-tables query = ap (λ (facts : Facts). answer_by facts shown u query) (facts_in_view-tables u H told forms)
      ∙ answer-shown query
