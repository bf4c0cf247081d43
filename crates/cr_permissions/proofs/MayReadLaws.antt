-- SPDX-License-Identifier: Apache-2.0 OR MIT
-- A query is answered exactly where its sentence holds.
use Rattle.std.proofs.Common.{ℕ, Bool, true, false, cond, ◌≡◌, ◌*◌, length, List, [], ◌∷◌, eqb, refl, sym, ap, ◌∙◌}
use Rattle.std.proofs.Common.{◌||◌, ◌&&◌, arith, Option, Some, None}
use Rattle.std.specs.Prelude.{not, is_some, find, nat_le, nat_lt}
use Rattle.std.specs.List.{list_any}
use Rattle.std.specs.Option.{option_map}
use Rattle.std.proofs.lemmas.Bool.Decides.{nat_tests}
use Rattle.std.specs.Option.{option_map_or}
use Rattle.std.proofs.Math.Bool.{or-false}
use Rattle.cr_base.specs.declared.command.Query.{Query}
use Rattle.cr_base.specs.declared.command.Query.TheVariants as queries
use Rattle.cr_base.specs.declared.report.Report.{Report}
use Rattle.cr_base.specs.declared.report.Report.TheVariants as reports
use Rattle.cr_base.specs.declared.words.Decision.{Decision}
use Rattle.cr_base.specs.declared.words.Phase.{Phase}
use Rattle.cr_base.specs.declared.words.Phase.TheVariants.{Setup, Submission, Bidding, Reviewing, Response}
use Rattle.cr_base.specs.declared.words.Phase.TheVariants.{Discussion}
use Rattle.cr_base.specs.declared.words.Phase.TheVariants.{Notification, Closed}
use Rattle.cr_base.specs.Answering.{upload_of, uploads_told, content_by, content_asked, plan_asked}
use Rattle.cr_base.specs.Lists.{is_number}
use Rattle.cr_base.specs.History.{History, Upload}
use Rattle.cr_base.specs.HistoryFacts.{phase_of, role_of, is_conflicted, is_withdrawn, is_author, is_reviewer}
use Rattle.cr_base.specs.HistoryFacts.{authors_of, uploads_of, is_accepted, is_conflict_on, is_external, is_invited}
use Rattle.cr_base.specs.HistoryFacts.{had_response_of, response_of}
use Rattle.cr_base.specs.Plans.{PlanPair, planned_papers, planned_members, best_plan, plan_reply}
use Rattle.cr_base.specs.Sources.{Facts, Shown}
use Rattle.cr_base.specs.Phases.{committee_works, members_see_papers, chairs_see_reviewers, reviewers_read_own}
use Rattle.cr_base.specs.Phases.{externals_read_own, members_read_reviews, members_read_comments}
use Rattle.cr_base.specs.Phases.{members_read_responses, members_read_decisions, authors_read_reviews}
use Rattle.cr_base.specs.Phases.{letters_are_sent}
use Rattle.cr_base.specs.Phases.{papers_may_be_accepted, papers_are_published}
use Rattle.cr_base.specs.Words.{is_member, is_chair}
use Rattle.cr_base.specs.Answering.{login_wanted}
use Rattle.cr_base.specs.Decisions.{is_published}
use Rattle.cr_base.specs.HistoryFacts.{decision_of}
use Rattle.cr_base.specs.Words.{is_accept}
use Rattle.cr_base.specs.Lists.{last, last_from, listed, is_nothing}
use Rattle.cr_base.specs.declared.words.Decision.TheVariants.{Accept, Reject}
use Rattle.cr_history.proofs.RuleFacts.{facts_of}
use Rattle.cr_policy.specs.Legal.{Legal}
use Rattle.cr_policy.specs.View.{view}
use Rattle.cr_policy.specs.ViewFacts.{facts_in_view, shown_in_view}
use Rattle.cr_policy.specs.Judge.{answer, needs_login}
use Rattle.cr_policy.specs.Sentences.{now, chairs, committee_at_work, before_bidding, is_over, from_discussion}
use Rattle.cr_policy.specs.Sentences.{is_members, is_chairs, is_paper, accepts, is_in, is_public, before_discussion}
use Rattle.cr_policy.specs.Sentences.{from_reviewing, has_part, wrote, of_some}
use Rattle.cr_policy.proofs.JudgedByHistory.{shown_of, facts-same}
use Rattle.cr_policy.proofs.LegalLaws.{Legal-needs_login}
use Rattle.cr_permissions.specs.MayRead.{has_version, may_read_reviews, may_read_comments, may_read_response}
use Rattle.cr_permissions.specs.MayRead.{may_report}
use Rattle.cr_permissions.specs.MayRead.{may_plan, reads_content, is_told, is_answered_to, ReadingAsSaid}
use Rattle.cr_permissions.proofs.SentenceLaws.{both-said, none_broken, judged-both, member-same, chair-same}
use Rattle.cr_permissions.proofs.SentenceLaws.{in_committee-same, over-same, discussed-same, reviewed-same, own-same}
use Rattle.cr_permissions.proofs.SentenceLaws.{closed-same, begun-same, answered-as, answered-checks, facts-seen}

-- ---- words

accepts-same : (d : Option Decision) → is_accept d ≡ accepts d
accepts-same None = refl
accepts-same (Some Accept) = refl
accepts-same (Some Reject) = refl

-- a paper that is accepted is in
in-same : (p : ℕ) (H : History) → is_accepted p H ≡ is_in p H
in-same p H = said (is_accept (decision_of p H)) (accepts (decision_of p H)) (is_withdrawn p H)
    (papers_may_be_accepted (phase_of H)) (is_over H)
    (accepts-same (decision_of p H)) (over-same (phase_of H))
  where
    said : (a a' w o o' : Bool) → a ≡ a' → o ≡ o' → (a && not w && o) ≡ (o' && a' && not w)
    said a a' w o o' ha ho = grind arith

-- some, where there is a first
some-last : (x : Upload) (xs : List Upload) → is_some (last_from (Some x) xs) ≡ true
some-last x [] = refl
some-last x (y ∷ xs) = some-last y xs

found-any : (version : ℕ) (xs : List Upload)
    → is_some (find (λ (u : Upload). eqb u.version version) xs) ≡ list_any (λ (u : Upload). eqb u.version version) xs
found-any version [] = refl
found-any version (x ∷ xs) = by (eqb x.version version) (found-any version xs)
  where
    by : (b : Bool) → is_some (find (λ (u : Upload). eqb u.version version) xs)
        ≡ list_any (λ (u : Upload). eqb u.version version) xs
        → is_some (cond b (Some x) (find (λ (u : Upload). eqb u.version version) xs))
        ≡ (b || list_any (λ (u : Upload). eqb u.version version) xs)
    by true rest = refl
    by false rest = rest

-- the version that is asked for is one of those that are told
version-same : (author : Bool) (version : Option ℕ) (us : List Upload)
    → is_some (upload_of version (uploads_told author us)) ≡ has_version author version us
version-same true None [] = refl
version-same true None (x ∷ xs) = some-last x xs
version-same false None us = by (last us) refl
  where
    any : (us : List Upload) → is_some (last us) ≡ not (is_nothing us)
    any [] = refl
    any (x ∷ xs) = some-last x xs

    by : (o : Option Upload) → last us ≡ o → is_some (last (listed o)) ≡ not (is_nothing us)
    by None is = sym (ap (λ (o : Option Upload). is_some o) is) ∙ any us
    by (Some x) is = sym (ap (λ (o : Option Upload). is_some o) is) ∙ any us
version-same true (Some version) us = found-any version us
version-same false (Some version) us = by (last us)
  where
    by : (o : Option Upload) → is_some (find (λ (u : Upload). eqb u.version version) (listed o))
        ≡ option_map_or (λ (u : Upload). eqb u.version version) o false
    by None = refl
    by (Some x) = found-any version (x ∷ []) ∙ or-false (eqb x.version version)

-- ---- what is read by whoever calls, where no login is asked for

module _ (u : Option ℕ) (H : History) (legal : Legal H) where
  -- she is on the committee, or an external of the paper
  abbrev has_part_in : ℕ → Bool
  has_part_in p = is_members (role_of u H) || (not (is_members (role_of u H)) && is_invited u p H)

  part-same : (p : ℕ) → (is_member (role_of u H) || is_external u p H) ≡ has_part_in p
  part-same p = λ i. member-same (role_of u H) i || (not (member-same (role_of u H) i) && is_invited u p H)

  -- a page: whether she has part in the paper, and whether she is an author
  pages-read : (p : ℕ) → is_told (answer u (view u H) (queries.Page (Some p)))
      ≡ (is_paper p H && (has_part_in p || is_author u p H || is_in p H))
  pages-read p =
      answered-checks u H legal (queries.Page (Some p)) refl
      ∙ said (is_paper p H) (is_member (role_of u H) || is_external u p H) (has_part_in p) (is_author u p H)
      (is_accepted p H) (is_in p H)
      (part-same p) (in-same p H)
    where
      said : (t m m' a x x' : Bool) → m ≡ m' → x ≡ x'
          → (not (not t) && (not (not (m || a || x)) && true)) ≡ (t && (m' || a || x'))
      said t m m' a x x' hm hx = grind arith

  -- a content
  content-said : (t a x x' l l' m m' c b b' f f' : Bool) → x ≡ x' → l ≡ l' → m ≡ m' → b ≡ b' → f ≡ f'
      →
      (not (not t) && (not (not ((a || (x && l)) || m))
      && (not (not (a || (x && l)) && c) && (not (not ((a || (x && l)) || b)) && (not (not f) && true)))))
      ≡ (t && ((x' && l') || (a || ((m' && not c) && b'))) && f')
  content-said t a x x' l l' m m' c b b' f f' hx hl hm hb hf = grind arith

  some-content : (o : Option Upload) → is_some (option_map (λ (x : Upload). x.content) o) ≡ is_some o
  some-content None = refl
  some-content (Some x) = refl

  content-checked : (p : ℕ) (version : Option ℕ)
      → none_broken (content_asked (facts_of u H) (shown_of H) (Some p) version)
      ≡
      (is_paper p H
      &&
      (is_public p H
      || (is_author u p H || ((has_part_in p && not (is_conflicted u p H)) && not (before_bidding H))))
      && has_version (is_author u p H) version (uploads_of p H))
  content-checked p version =
      content-said (is_paper p H) (is_author u p H) (is_accepted p H) (is_in p H) (papers_are_published (phase_of H))
      (now Closed H)
      (is_member (role_of u H) || is_external u p H) (has_part_in p) (is_conflicted u p H)
      (members_see_papers (phase_of H)) (not (before_bidding H))
      (is_some (content_by (facts_of u H) (shown_of H) (Some p) version))
      (has_version (is_author u p H) version (uploads_of p H))
      (in-same p H) (closed-same (phase_of H)) (part-same p) (begun-same (phase_of H))
      (some-content (upload_of version (uploads_told (is_author u p H) (uploads_of p H)))
      ∙ version-same (is_author u p H) version (uploads_of p H))

  contents-read : (p : ℕ) → is_told (answer u (view u H) (queries.Content (Some p)))
      ≡ none_broken (content_asked (facts_of u H) (shown_of H) (Some p) None)
  contents-read p = answered-checks u H legal (queries.Content (Some p)) refl

  versions-read : (p version : ℕ) → is_told (answer u (view u H) (queries.Version (Some p) version))
      ≡ none_broken (content_asked (facts_of u H) (shown_of H) (Some p) (Some version))
  versions-read p version = answered-checks u H legal (queries.Version (Some p) version) refl

-- ---- users

module _ (w : ℕ) (H : History) (legal : Legal H) where
  abbrev u : Option ℕ
  u = Some w

  reviews-read : (paper : Option ℕ) → is_told (answer u (view u H) (queries.Reviews paper))
      ≡ of_some paper (λ p. is_paper p H && may_read_reviews w H p)
  reviews-read None = answered-as u H legal (queries.Reviews None)
  reviews-read (Some p) =
      answered-checks u H legal (queries.Reviews (Some p)) refl
      ∙ said (is_paper p H) (is_author u p H) (is_conflict_on u p H) (is_member (role_of u H))
      (is_members (role_of u H)) (is_invited u p H) (is_reviewer u p H)
      (had_response_of H) (authors_read_reviews (phase_of H)) (is_over H) (members_read_reviews (phase_of H))
      (from_discussion H)
      (reviewers_read_own (phase_of H)) (before_discussion H) (externals_read_own (phase_of H)) (from_reviewing H)
      (member-same (role_of u H)) (over-same (phase_of H)) (discussed-same (phase_of H)) (own-same (phase_of H))
      (reviewed-same (phase_of H)) (own-then (phase_of H))
    where
      -- who reads her own forms in the reviewing does from then on
      own-then : (phase : Phase) → (reviewers_read_own phase && not (externals_read_own phase)) ≡ false
      own-then Setup = refl
      own-then Submission = refl
      own-then Bidding = refl
      own-then Reviewing = refl
      own-then Response = refl
      own-then Discussion = refl
      own-then Notification = refl
      own-then Closed = refl

      said : (t a k m m' e r h o o' d d' g g' s s' : Bool) → m ≡ m' → o ≡ o' → d ≡ d' → g ≡ g' → s ≡ s'
          → (g && not s) ≡ false
          →
          (not (not t) && (not (a && not (o || h))
          && (not (not (a || (m || (not m && e)))) && (not (not a && (a || k))
          && (not (not (a || (m && d) || (r && (g || ((not m && e) && s))))) && true)))))
          ≡
          (t && ((a && (o' || h)) || ((m' && not (a || k)) && (d' || (r && g')))
          || ((not m' && e) && not (a || k) && r && s')))
      said t a k m m' e r h o o' d d' g g' s s' hm ho hd hg hs hr = grind arith

  comments-read : (paper : Option ℕ) → is_told (answer u (view u H) (queries.Comments paper))
      ≡ of_some paper (λ p. is_paper p H && may_read_comments w H p)
  comments-read None = answered-as u H legal (queries.Comments None)
  comments-read (Some p) =
      answered-checks u H legal (queries.Comments (Some p)) refl
      ∙ said (is_paper p H) (is_member (role_of u H)) (is_members (role_of u H)) (is_conflicted u p H)
      (members_read_comments (phase_of H))
      (from_discussion H) (member-same (role_of u H)) (discussed-same (phase_of H))
    where
      said : (t m m' c d d' : Bool) → m ≡ m' → d ≡ d'
          → (not (not t) && (not (not m) && (not c && (not (not d) && true)))) ≡ (t && ((m' && not c) && d'))
      said t m m' c d d' hm hd = grind arith

  response-read : (paper : Option ℕ) → is_told (answer u (view u H) (queries.Response paper))
      ≡ of_some paper (λ p. is_paper p H && may_read_response w H p)
  response-read None = answered-as u H legal (queries.Response None)
  response-read (Some p) =
      answered-checks u H legal (queries.Response (Some p)) refl
      ∙ said (is_paper p H) (is_author u p H) (is_conflict_on u p H) (is_member (role_of u H))
      (is_members (role_of u H)) (members_read_responses (phase_of H))
      (from_discussion H) (is_some (response_of p H)) (member-same (role_of u H)) (discussed-same (phase_of H))
    where
      said : (t a k m m' d d' r : Bool) → m ≡ m' → d ≡ d'
          →
          (not (not t)
          && (not (not (a || m)) && (not (not a && (a || k)) && (not (not (a || d)) && (not (not r) && true)))))
          ≡ (t && (r && (a || ((m' && not (a || k)) && d'))))
      said t a k m m' d d' r hm hd = grind arith

  reports-read : (report : Report) → is_told (answer u (view u H) (queries.Report report)) ≡ may_report w H report
  reports-read reports.Papers =
      answered-checks u H legal (queries.Report reports.Papers) refl
      ∙ both-said (is_member (role_of u H)) (is_members (role_of u H)) (members_see_papers (phase_of H))
      (not (before_bidding H))
      (member-same (role_of u H)) (begun-same (phase_of H))
  reports-read reports.Scores =
      answered-checks u H legal (queries.Report reports.Scores) refl
      ∙ both-said (is_member (role_of u H)) (is_members (role_of u H)) (members_read_reviews (phase_of H))
      (from_discussion H)
      (member-same (role_of u H)) (discussed-same (phase_of H))
  reports-read reports.Load =
      answered-checks u H legal (queries.Report reports.Load) refl
      ∙ both-said (is_chair (role_of u H)) (is_chairs (role_of u H)) (chairs_see_reviewers (phase_of H))
      (not (before_bidding H))
      (chair-same (role_of u H)) (begun-same (phase_of H))
  reports-read reports.Decisions =
      answered-checks u H legal (queries.Report reports.Decisions) refl
      ∙ both-said (is_member (role_of u H)) (is_members (role_of u H)) (members_read_decisions (phase_of H))
      (from_discussion H)
      (member-same (role_of u H)) (discussed-same (phase_of H))
  reports-read (reports.Letter None) = answered-as u H legal (queries.Report (reports.Letter None))
  reports-read (reports.Letter (Some p)) =
      answered-checks u H legal (queries.Report (reports.Letter (Some p))) refl
      ∙ said (is_paper p H) (is_author u p H) (letters_are_sent (phase_of H)) (is_over H) (over-same (phase_of H))
    where
      said : (t a o o' : Bool) → o ≡ o' → (not (not t) && (not (not a) && (not (not o) && true))) ≡ (t && a && o')
      said t a o o' ho = grind arith

  -- a plan: a role, the phases, its size, and whether there is one
  plan-said : (k k' w w' l1 l2 s1 s2 p : Bool) → k ≡ k' → w ≡ w' → l1 ≡ not s1 → l2 ≡ not s2
      → ((not (not k) && (not (not w) && (not (l1 || l2) && true))) && p) ≡ (k' && w' && (s1 && s2 && p))
  plan-said k k' w w' l1 l2 s1 s2 p hk hw h1 h2 = grind arith

  is-more : (most n : ℕ) → nat_lt most n ≡ not (nat_le n most)
  is-more most n = grind (arith, nat_tests)

  told-plan : (plan : Option (List PlanPair)) → is_told (plan_reply plan) ≡ is_some plan
  told-plan None = refl
  told-plan (Some plan) = refl

  plans-read : (per_paper load : ℕ) → is_told (answer u (view u H) (queries.Plan per_paper load))
      ≡ may_plan w H per_paper load
  plans-read per_paper load =
      let facts : Facts = facts_in_view u (view u H) in
      let shown : Shown = shown_in_view u (view u H) in
      let papers : ℕ = length (planned_papers facts shown per_paper) in
      let members : ℕ = length (planned_members facts) in
      let role : role_of u H ≡ (facts.standing None).role =
      ap (λ (f : Facts). (f.standing None).role) (sym (facts-seen u H legal)) in
      let phase : phase_of H ≡ (facts.standing None).phase =
      ap (λ (f : Facts). (f.standing None).phase) (sym (facts-seen u H legal)) in
      judged-both (plan_asked facts shown per_paper) (plan_reply (best_plan facts shown per_paper load))
      ∙ ap (λ (b : Bool). none_broken (plan_asked facts shown per_paper) && b)
      (told-plan (best_plan facts shown per_paper load))
      ∙ plan-said (is_chair (facts.standing None).role) (chairs w H) (committee_works (facts.standing None).phase)
      (committee_at_work H)
      (nat_lt 512 (per_paper * papers)) (nat_lt 4096 (papers * members)) (nat_le (per_paper * papers) 512)
      (nat_le (papers * members) 4096)
      (is_some (best_plan facts shown per_paper load))
      (sym (ap is_chair role) ∙ chair-same (role_of u H))
      (sym (ap committee_works phase) ∙ in_committee-same (phase_of H))
      (is-more 512 (per_paper * papers)) (is-more 4096 (papers * members))

-- ---- nobody

-- what nobody is asked for a login of: the page and the content of a published paper
module _ (H : History) (legal : Legal H) where
  is_published-same : (p : ℕ) → is_published (phase_of H) (is_accepted p H) ≡ is_public p H
  is_published-same p = said (is_accepted p H) (is_in p H) (papers_are_published (phase_of H)) (now Closed H)
      (in-same p H) (closed-same (phase_of H))
    where
      said : (x x' l l' : Bool) → x ≡ x' → l ≡ l' → (x && l) ≡ (x' && l')
      said x x' l l' hx hl = grind arith

  open-to_all : (query : Query) → not (needs_login (view None H) query) ≡ not (login_wanted (facts_of None H) query)
  open-to_all query =
      ap not (Legal-needs_login H query legal ∙ sym (λ i. login_wanted (facts-same None H legal i) query))

  -- nobody is answered what wants a login always
  never : (query : Query) → login_wanted (facts_of None H) query ≡ true → is_answered_to None H query ≡ false
  never query wanted =
      ap (λ (b : Bool). b && is_told (answer None (view None H) query)) (open-to_all query ∙ ap not wanted)

  -- and else where no rule is broken
  sometimes : (query : Query) (b may : Bool) → not (login_wanted (facts_of None H) query) ≡ b
      → is_told (answer None (view None H) query) ≡ may
      → is_answered_to None H query ≡ (b && may)
  sometimes query b may opened told = λ i. (open-to_all query ∙ opened) i && told i

  for_nobody : (p : ℕ) → not (true && not (is_published (phase_of H) (is_accepted p H))) ≡ is_public p H
  for_nobody p = twice (is_published (phase_of H) (is_accepted p H)) ∙ is_published-same p
    where
      twice : (b : Bool) → not (true && not b) ≡ b
      twice true = refl
      twice false = refl

  no_author : (p : ℕ) → is_author None p H ≡ false
  no_author p = none (authors_of p H)
    where
      none : (us : List ℕ) → list_any (is_number None) us ≡ false
      none [] = refl
      none (u ∷ us) = none us

  page-to_all : (p : ℕ) → is_answered_to None H (queries.Page (Some p)) ≡ (is_paper p H && (is_public p H || false))
  page-to_all p =
      sometimes (queries.Page (Some p)) (is_public p H)
      (is_paper p H && (has_part_in None H legal p || is_author None p H || is_in p H))
      (for_nobody p) (pages-read None H legal p)
      ∙ said (is_paper p H) (is_in p H) (now Closed H) (has_part_in None H legal p) (is_author None p H)
    where
      said : (t x l m a : Bool) → ((x && l) && (t && (m || a || x))) ≡ (t && ((x && l) || false))
      said t x l m a = grind arith

  content-to_all : (query : Query) (p : ℕ) (version : Option ℕ)
      → not (login_wanted (facts_of None H) query) ≡ is_public p H
      → is_told (answer None (view None H) query)
      ≡ none_broken (content_asked (facts_of None H) (shown_of H) (Some p) version)
      → is_answered_to None H query ≡ reads_content None H version p
  content-to_all query p version opened told =
      sometimes query (is_public p H) (none_broken (content_asked (facts_of None H) (shown_of H) (Some p) version))
      opened told
      ∙ ap (λ (b : Bool). is_public p H && b) (content-checked None H legal p version)
      ∙ said (is_paper p H) (is_public p H) (is_author None p H
      || ((has_part_in None H legal p && not (is_conflicted None p H)) && not (before_bidding H)))
      (has_version (is_author None p H) version (uploads_of p H)) (has_version false version (uploads_of p H))
      (ap (λ (a : Bool). has_version a version (uploads_of p H)) (no_author p))
    where
      said : (t x y f f' : Bool) → f ≡ f' → (x && (t && (x || y) && f)) ≡ (t && (x || false) && f')
      said t x y f f' hf = grind arith

-- no paper, or none that is read, is published to nobody
never_some : (H : History) → (true && not (is_published (phase_of H) false)) ≡ true
never_some H = refl

-- what is published is in
published-too : (t m a x l : Bool) → (t && (m || a || x)) ≡ (t && ((x && l) || (m || a || x)))
published-too t m a x l = grind arith

-- ---- the law

pub reading_as_said : ReadingAsSaid
reading_as_said None H queries.Me legal = never H legal queries.Me refl
reading_as_said None H queries.Accounts legal =
    sometimes H legal queries.Accounts true true refl (answered-as None H legal queries.Accounts)
reading_as_said None H queries.Phase legal =
    sometimes H legal queries.Phase true true refl (answered-as None H legal queries.Phase)
reading_as_said None H queries.Deadlines legal =
    sometimes H legal queries.Deadlines true true refl (answered-as None H legal queries.Deadlines)
reading_as_said None H queries.AcceptedPapers legal =
    sometimes H legal queries.AcceptedPapers true true refl (answered-as None H legal queries.AcceptedPapers)
reading_as_said None H (queries.Page None) legal = never H legal (queries.Page None) (never_some H)
reading_as_said None H (queries.Page (Some p)) legal = page-to_all H legal p
reading_as_said None H (queries.Content None) legal = never H legal (queries.Content None) (never_some H)
reading_as_said None H (queries.Content (Some p)) legal =
    content-to_all H legal (queries.Content (Some p)) p None (for_nobody H legal p) (contents-read None H legal p)
reading_as_said None H (queries.Version None version) legal =
    never H legal (queries.Version None version) (never_some H)
reading_as_said None H (queries.Version (Some p) version) legal =
    content-to_all H legal (queries.Version (Some p) version) p (Some version) (for_nobody H legal p)
    (versions-read None H legal p version)
reading_as_said None H (queries.Reviews paper) legal = never H legal (queries.Reviews paper) (never_some H)
reading_as_said None H (queries.Comments paper) legal = never H legal (queries.Comments paper) (never_some H)
reading_as_said None H (queries.Response paper) legal = never H legal (queries.Response paper) (never_some H)
reading_as_said None H (queries.Search search only_count) legal =
    never H legal (queries.Search search only_count) (never_some H)
reading_as_said None H (queries.Report reports.Papers) legal =
    never H legal (queries.Report reports.Papers) (never_some H)
reading_as_said None H (queries.Report reports.Scores) legal =
    never H legal (queries.Report reports.Scores) (never_some H)
reading_as_said None H (queries.Report reports.Load) legal = never H legal (queries.Report reports.Load) (never_some H)
reading_as_said None H (queries.Report reports.Decisions) legal =
    never H legal (queries.Report reports.Decisions) (never_some H)
reading_as_said None H (queries.Report (reports.Letter paper)) legal =
    never H legal (queries.Report (reports.Letter paper)) (never_some H)
reading_as_said None H (queries.Plan per_paper load) legal = never H legal (queries.Plan per_paper load) (never_some H)
reading_as_said (Some w) H queries.Me legal = answered-as (Some w) H legal queries.Me
reading_as_said (Some w) H queries.Accounts legal = answered-as (Some w) H legal queries.Accounts
reading_as_said (Some w) H queries.Phase legal = answered-as (Some w) H legal queries.Phase
reading_as_said (Some w) H queries.Deadlines legal = answered-as (Some w) H legal queries.Deadlines
reading_as_said (Some w) H queries.AcceptedPapers legal = answered-as (Some w) H legal queries.AcceptedPapers
reading_as_said (Some w) H (queries.Page None) legal = answered-as (Some w) H legal (queries.Page None)
reading_as_said (Some w) H (queries.Page (Some p)) legal =
    pages-read (Some w) H legal p ∙ published-too (is_paper p H) (has_part w p H) (wrote w p H) (is_in p H)
    (now Closed H)
reading_as_said (Some w) H (queries.Content None) legal = answered-as (Some w) H legal (queries.Content None)
reading_as_said (Some w) H (queries.Content (Some p)) legal =
    contents-read (Some w) H legal p ∙ content-checked (Some w) H legal p None
reading_as_said (Some w) H (queries.Version None version) legal =
    answered-as (Some w) H legal (queries.Version None version)
reading_as_said (Some w) H (queries.Version (Some p) version) legal =
    versions-read (Some w) H legal p version ∙ content-checked (Some w) H legal p (Some version)
reading_as_said (Some w) H (queries.Reviews paper) legal = reviews-read w H legal paper
reading_as_said (Some w) H (queries.Comments paper) legal = comments-read w H legal paper
reading_as_said (Some w) H (queries.Response paper) legal = response-read w H legal paper
reading_as_said (Some w) H (queries.Search search true) legal =
    answered-as (Some w) H legal (queries.Search search true)
reading_as_said (Some w) H (queries.Search search false) legal =
    answered-as (Some w) H legal (queries.Search search false)
reading_as_said (Some w) H (queries.Report report) legal = reports-read w H legal report
reading_as_said (Some w) H (queries.Plan per_paper load) legal = plans-read w H legal per_paper load
