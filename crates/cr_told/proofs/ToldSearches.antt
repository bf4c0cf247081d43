-- SPDX-License-Identifier: Apache-2.0 OR MIT
-- A search tells what the page, the reviews and the comments tell.
use Rattle.std.proofs.Common.{◌≡◌, ℕ, Bool, true, false, List, [], ◌∷◌, refl, sym, ap, ◌∙◌, ◌||◌, Option, Some, eqb}
use Rattle.std.proofs.Common.{length}
use Rattle.std.specs.Prelude.{not, map, filter, ◌==◌, is_some, unwrap_or, if◌then◌else◌}
use Rattle.std.specs.List.{flat_map, list_any}
use Rattle.std.proofs.lemmas.Bool.{true≢false, eq-eqb, or_left, or_right}
use Rattle.cr_base.specs.declared.command.Query.TheVariants as queries
use Rattle.cr_base.specs.declared.found.FoundPaper.{FoundPaper}
use Rattle.cr_base.specs.declared.page.Page.{Page}
use Rattle.cr_base.specs.declared.reply.Reply.{Reply}
use Rattle.cr_base.specs.declared.reply.Reply.TheVariants as replies
use Rattle.cr_base.specs.declared.reply.Rule.TheVariants as rules
use Rattle.cr_base.specs.declared.search.Node.{Node}
use Rattle.cr_base.specs.declared.standing.Standing.{Standing}
use Rattle.cr_base.specs.declared.words.Mode.{Mode}
use Rattle.cr_base.specs.declared.words.Phase.{Phase}
use Rattle.cr_base.specs.declared.words.Role.{Role}
use Rattle.cr_base.specs.declared.words.Role.TheVariants.{Account, Member, Chair}
use Rattle.cr_base.specs.Answering.{bidder_told, reviewer_told, uploads_told, page_by, reply_or_rule, told_of_paper}
use Rattle.cr_base.specs.Answering.{reviews_answered as reviews_read, comments_answered as comments_read}
use Rattle.cr_base.specs.Answering.{tells_response}
use Rattle.cr_base.specs.Checks.{judged, ◌breaks◌}
use Rattle.cr_base.specs.History.{History, BidTold, Upload}
use Rattle.cr_base.specs.Lists.{listed}
use Rattle.cr_base.specs.Page.{is_admitted, page_of, PaperTexts}
use Rattle.cr_base.specs.Searching.{PaperTold, is_found, found_paper}
use Rattle.cr_base.specs.Sources.{Facts, Shown, has_paper, names_in, decision_by}
use Rattle.cr_base.specs.Words.{is_member, is_chair}
use Rattle.cr_policy.specs.Judge.{answer}
use Rattle.cr_policy.specs.View.{View, view}
use Rattle.cr_policy.specs.ViewFacts.{facts_in_view, shown_in_view, papers_in_view, standing_in_view}
use Rattle.cr_policy.specs.ViewFacts.{is_accepted_in_view}
use Rattle.cr_told.specs.ToldPages.{page_answered}
use Rattle.cr_told.specs.ToldLists.{comments_answered, response_answered}
use Rattle.cr_told.specs.ToldReviews.{reviews_answered}
use Rattle.cr_told.specs.ToldSearches.{no_page, told_in_answers, papers_found, SearchesTold}
use Rattle.cr_told.proofs.ToldReports.{conflicted}
use Rattle.cr_told.proofs.ToldShown as reads

-- ---- the page

-- who may not have the page is told nothing by it
hidden : (phase : Phase) (mode : Mode) (role : Role) (author conflicted reviewer external accepted : Bool) (p : ℕ)
    (texts : PaperTexts)
    → ((is_member role || external) || author || accepted) ≡ false
    → page_of (record {
      phase = phase;
      mode = mode;
      role = role;
      author = author;
      conflicted = conflicted;
      reviewer = reviewer;
      external = external;
    }) accepted p texts
    ≡ no_page p
hidden phase mode Account false conflicted reviewer false false p texts h = refl
hidden phase mode Account false conflicted reviewer false true p texts h = absurd (true≢false h)
hidden phase mode Account true conflicted reviewer false accepted p texts h = absurd (true≢false h)
hidden phase mode Account author conflicted reviewer true accepted p texts h = absurd (true≢false h)
hidden phase mode Member author conflicted reviewer external accepted p texts h = absurd (true≢false h)
hidden phase mode Chair author conflicted reviewer external accepted p texts h = absurd (true≢false h)

gate : (there ok : Bool) (page none : Page) → there ≡ true → (ok ≡ false → page ≡ none)
    → page
    ≡ unwrap_or
    (page_answered
    (reply_or_rule (judged (not there breaks rules.NoPaper ∷ not ok breaks rules.NotMember ∷ [])
    (replies.Page page)))) none
gate false ok page none h refused = absurd (true≢false (sym h))
gate true true page none h refused = refl
gate true false page none h refused = refused refl

-- ---- the lines

reviews-read : (reply : Reply) → reviews_read reply ≡ unwrap_or (reviews_answered reply) []
reviews-read (replies.Reviews lines) = refl
reviews-read reply = refl

comments-read : (reply : Reply) → comments_read reply ≡ unwrap_or (comments_answered reply) []
comments-read (replies.Comments lines) = refl
comments-read reply = refl

response-read : (reply : Reply) → tells_response reply ≡ is_some (response_answered reply)
response-read (replies.Response text) = refl
response-read reply = refl

-- ---- the papers

-- what is found is the same, where the same is told of each paper that is there
same-found : (f g : ℕ → PaperTold) (search : List Node) (ps : List ℕ)
    → ((p : ℕ) → list_any (λ q. q == p) ps ≡ true → f p ≡ g p)
    → map (λ (p : ℕ). found_paper p (f p)) (filter (λ (p : ℕ). is_found (f p) search) ps)
    ≡ map (λ (p : ℕ). found_paper p (g p)) (filter (λ (p : ℕ). is_found (g p) search) ps)
same-found f g search [] same = refl
same-found f g search (q ∷ ps) same =
    ap (λ b. map (λ (p : ℕ). found_paper p (f p))
    (if b then q ∷ filter (λ (p : ℕ). is_found (f p) search) ps else filter (λ (p : ℕ). is_found (f p) search) ps))
    (ap (λ t. is_found t search) here)
    ∙ by (is_found (g q) search) (same-found f g search ps
    (λ p is. same p (or_right (eqb q p) (list_any (λ q. q == p) ps) is)))
  where
    here : f q ≡ g q
    here = same q (or_left (eqb q q) (list_any (λ r. r == q) ps) (eq-eqb q q refl))

    by : (b : Bool)
        → map (λ (p : ℕ). found_paper p (f p)) (filter (λ (p : ℕ). is_found (f p) search) ps)
        ≡ map (λ (p : ℕ). found_paper p (g p)) (filter (λ (p : ℕ). is_found (g p) search) ps)
        → map (λ (p : ℕ). found_paper p (f p)) (if b then q ∷ filter (λ (p : ℕ). is_found (f p) search) ps else filter
        (λ (p : ℕ). is_found (f p) search) ps)
        ≡ map (λ (p : ℕ). found_paper p (g p)) (if b then q ∷ filter (λ (p : ℕ). is_found (g p) search) ps else filter
        (λ (p : ℕ). is_found (g p) search) ps)
    by true rest = λ i. found_paper q (here i) ∷ rest i
    by false rest = rest

module _ (u : Option ℕ) (H : History) where
  abbrev V : View
  V = view u H

  abbrev F : Facts
  F = facts_in_view u V

  abbrev S : Shown
  S = shown_in_view u V

  told-same : (p : ℕ) → list_any (λ q. q == p) (papers_in_view V) ≡ true → told_of_paper F S u p ≡ told_in_answers u H p
  told-same p there = λ i. record {
    page = page-same i;
    accepted = reads.accepted u p H i;
    conflicted = conflicted u H p i;
    reviews = reviews-read (answer u V (queries.Reviews (Some p))) i;
    comments = comments-read (answer u V (queries.Comments (Some p))) i;
    responded = response-read (answer u V (queries.Response (Some p))) i;
  }
    where
      by : Standing
      by = standing_in_view u (Some p) V

      texts : PaperTexts
      texts = record {
        title = S.title p;
        abstract_ = S.abstract_ p;
        authors = names_in F.accounts (S.authors p);
        bid = F.own_bid p;
        bids = flat_map (λ (bid : BidTold). listed (bidder_told F.accounts bid)) (S.bids p);
        conflicts = names_in F.accounts (S.conflicts p);
        decision = decision_by F S p;
        declared = names_in F.accounts (S.declared p);
        label = F.own_ordinal p;
        reviewers = map (reviewer_told (F.standing (Some p)) F.accounts (S.written p)) (S.reviewers p);
        tags = S.tags u (is_chair (F.standing (Some p)).role) p;
        versions = map (λ (upload : Upload). upload.version) (uploads_told (F.standing (Some p)).author (S.uploads p));
        withdrawn = S.withdrawn p;
      }

      page-same : page_by F S u p ≡ unwrap_or (page_answered (answer u V (queries.Page (Some p)))) (no_page p)
      page-same =
          gate (has_paper F (Some p)) (is_admitted by || by.author || is_accepted_in_view p V) (page_by F S u p)
          (no_page p) there
          (hidden by.phase by.mode by.role by.author by.conflicted by.reviewer by.external (is_accepted_in_view p V) p
          texts)

  found-same : (search : List Node)
      → map (λ (p : ℕ). found_paper p (told_of_paper F S u p))
      (filter (λ (p : ℕ). is_found (told_of_paper F S u p) search) (papers_in_view V)) ≡ papers_found u H search
  found-same search = same-found (λ p. told_of_paper F S u p) (told_in_answers u H) search (papers_in_view V) told-same

pub searches_told : SearchesTold
searches_told u H search = record {
  found = ap (λ (papers : List FoundPaper). replies.Found papers) (found-same u H search);
  counted = ap (λ (papers : List FoundPaper). replies.Count (length papers)) (found-same u H search);
}
