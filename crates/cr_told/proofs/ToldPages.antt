-- SPDX-License-Identifier: Apache-2.0 OR MIT
-- What a paper's page tells is what the view shows of the paper: a lemma a key.
use Rattle.std.proofs.Common.{◌≡◌, ℕ, Bool, true, false, List, [], ◌∷◌, refl, sym, ap, subst, ◌∙◌, ◌||◌, ◌&&◌, Option}
use Rattle.std.proofs.Common.{Some, None, eqb, arith, length, ◌≤◌}
use Rattle.std.specs.Prelude.{not, ◌==◌, map, is_some, unwrap_or, if◌then◌else◌}
use Rattle.std.specs.List.{flat_map, list_any}
use Rattle.std.proofs.lemmas.Bool.{eqb-true, eq-eqb, true≢false, or_parts, and_parts}
use Rattle.std.proofs.Math.Bool.{or-false, and-false}
use Rattle.std.proofs.lemmas.List.{length-map}
use Rattle.std.proofs.lemmas.List.Folds.{list_any-append}
use Rattle.cr_base.specs.declared.entry.Entry.{Entry}
use Rattle.cr_base.specs.declared.entry.Entry.TheVariants.{Submitted, Uploaded}
use Rattle.cr_base.specs.declared.entry.Stamp.{Stamp}
use Rattle.cr_base.specs.declared.entry.Stamped.{Stamped}
use Rattle.cr_base.specs.declared.page.Page.{Page}
use Rattle.cr_base.specs.declared.reply.Reply.TheVariants as replies
use Rattle.cr_base.specs.declared.reply.Rule.TheVariants as rules
use Rattle.cr_base.specs.declared.entry.EntryKind.TheVariants as kinds
use Rattle.cr_base.specs.declared.standing.Standing.{Standing}
use Rattle.cr_base.specs.declared.words.Decision.TheVariants.{Accept}
use Rattle.cr_base.specs.declared.words.Phase.TheVariants.{Bidding, Discussion, Notification, Closed}
use Rattle.cr_base.specs.Answering.{page_by, reply_or_rule, uploads_told}
use Rattle.cr_base.specs.Checks.{judged, ◌breaks◌}
use Rattle.cr_base.specs.Decisions.{is_published}
use Rattle.cr_base.specs.Drawn.{stamped}
use Rattle.cr_base.specs.History.{History, Upload, all_told, paper_told, author_told, abstract_told}
use Rattle.cr_base.specs.HistoryFacts.{standing_of, phase_of, mode_of, role_of, is_author, is_conflicted, is_external}
use Rattle.cr_base.specs.HistoryFacts.{is_accepted, is_reviewer, ordinal_of, papers_of, declared_by_authors}
use Rattle.cr_base.specs.HistoryFacts.{decision_of, is_withdrawn}
use Rattle.cr_base.specs.Lists.{given, is_nothing, last, last_from, listed, is_number}
use Rattle.cr_base.specs.Page.{is_admitted, where_told, gets_title, gets_abstract, shows_author, gets_conflict}
use Rattle.cr_base.specs.Page.{gets_conflicts, gets_declared, gets_versions, gets_withdrawn, gets_bid, gets_label}
use Rattle.cr_base.specs.Page.{gets_decision}
use Rattle.cr_base.specs.Phases.{is_from}
use Rattle.cr_base.specs.Sources.{has_paper}
use Rattle.cr_base.specs.Words.{is_member, is_chair, is_anonymous}
use Rattle.cr_history.specs.Invariants.{IsSubmitted, IsInOrder, InTurn}
use Rattle.cr_policy.specs.Legal.{Legal}
use Rattle.cr_policy.specs.Sighting.{Sighting}
use Rattle.cr_policy.specs.View.{View, view}
use Rattle.cr_policy.specs.ViewFacts.{facts_in_view, shown_in_view, standing_in_view, is_accepted_in_view}
use Rattle.cr_policy.specs.ViewFacts.{title_in_view, abstract_in_view, authors_in_view, is_withdrawn_in_view}
use Rattle.cr_policy.specs.ViewFacts.{uploads_in_view, is_author_in_view, declared_in_view, own_bid_in_view}
use Rattle.cr_policy.specs.ViewFacts.{ordinal_in_view, is_conflict_on_in_view, decision_in_view, only, upload_seen}
use Rattle.cr_policy.specs.ViewFacts.{upload_shown}
use Rattle.cr_policy.proofs.DecisionTells.{accepted-seen}
use Rattle.cr_policy.proofs.LegalLaws.{Legal-declared, legal_invariants}
use Rattle.cr_policy.proofs.PageTells.{abstract-seen, authors-seen}
use Rattle.cr_policy.proofs.ReviewerTells.{same_key}
use Rattle.cr_policy.proofs.StandingLaws.{papers-seen, standing_from_view, seat-seen}
use Rattle.cr_policy.proofs.Walk.{is_nothing-append, map-flat_map}
use Rattle.cr_bounds.specs.ShownTo.{is_on_committee, is_past_submission, hides_authors, has_conflict, visits}
use Rattle.cr_bounds.specs.ShownTo.{reads_visiting, reads_to_judge, is_told, serves, is_eligible, oversees, discusses}
use Rattle.cr_bounds.specs.ShownTo.{is_notified, is_in_programme, appears, where_known}
use Rattle.cr_bounds.specs.ViewBounds.{part_shown}
use Rattle.cr_bounds.proofs.BoundsWords.{phase-words, mode-words}
use Rattle.cr_bounds.proofs.BoundsTexts.{one-content}
use Rattle.cr_bounds.proofs.BoundsWalk.{shown_to, all-view}
use Rattle.cr_told.specs.ToldPages.{PagesTold, PageTold, page_told, key_in, page_answered, shown_on, shown_by}
use Rattle.cr_told.specs.ToldPages.{is_shown}
use Rattle.cr_told.specs.ToldPages.{writers_shown, is_shown_in_conflict, label_shown_of, own_bids_shown}
use Rattle.cr_told.specs.ToldPages.{is_shown_accepted, names_shown, users_shown, is_clear, some_names}
use Rattle.cr_told.proofs.ToldWords.{member-committee, chair-leads, chair-committee, accept-takes, visits-same}
use Rattle.cr_told.proofs.ToldMakers.{IsByAuthor, by-authors, not-own}
use Rattle.cr_told.proofs.ToldShown as reads
use Rattle.cr_told.proofs.ToldShown.{flat_map-same}
use Rattle.cr_told.proofs.ToldTexts.{titles-none, abstracts-none, writers-none}

-- ---- the page

-- a key of the page, where the page is answered and has it
keyed : {A : Type 0} (key : Page → Option A) (there ok gets said : Bool) (page : Page) (value : Option A) → there ≡ true
    → key page ≡ where_told gets value
    → (ok && gets) ≡ said
    → key_in key
    (page_answered
    (reply_or_rule (judged (not there breaks rules.NoPaper ∷ not ok breaks rules.NotMember ∷ [])
    (replies.Page page))))
    ≡ where_told said value
keyed key false ok gets said page value h is words = absurd (true≢false (sym h))
keyed key true true gets said page value h is words = is ∙ ap (λ b. where_told b value) words
keyed key true false gets said page value h is words = ap (λ b. where_told b value) words

-- who isn't told a value has none anyway
told-free : {A : Type 0} (said : Bool) (x : Option A) → (said ≡ false → x ≡ None) → where_told said x ≡ x
told-free true x none = refl
told-free false x none = sym (none refl)

-- there is a last value where there is one
last-some : {A : Type 0} (xs : List A) → is_some (last xs) ≡ not (is_nothing xs)
last-some [] = refl
last-some {A} (x ∷ xs) = from x xs
  where
    from : (x : A) (xs : List A) → is_some (last_from (Some x) xs) ≡ true
    from x [] = refl
    from x (y ∷ xs) = from y xs

module _ (u : Option ℕ) (p : ℕ) (H : History) (there : IsSubmitted H p) (order : InTurn IsInOrder [] H) where
  abbrev pub V : View
  V = view u H

  abbrev pub stands : Standing
  stands = standing_of u (Some p) H

  -- to whom the page is answered
  abbrev pub may : Standing → Bool → Bool
  may by accepted = is_admitted by || by.author || accepted

  abbrev pub page : Page
  page = page_by (facts_in_view u V) (shown_in_view u V) u p

  pub told-key : {A : Type 0} (key : Page → Option A) (gets : Standing → Bool → Bool) (said : Bool) (value : Option A)
      → key page ≡ where_told (gets (standing_in_view u (Some p) V) (is_accepted_in_view p V)) value
      → (may stands (is_accepted p H) && gets stands (is_accepted p H)) ≡ said
      → page_told key u p H ≡ where_told said value
  told-key key gets said value is words =
      let seen : Standing = standing_in_view u (Some p) V in
      let mark : Bool = is_accepted_in_view p V in
      keyed key (has_paper (facts_in_view u V) (Some p)) (may seen mark) (gets seen mark) said page value
      (ap (λ (papers : List ℕ). list_any (λ q. q == p) papers) (papers-seen u H) ∙ there) is
      ((λ i. may (standing_from_view u (Some p) H i) (accepted-seen u p H i) && gets (standing_from_view u (Some p) H i)
      (accepted-seen u p H i)) ∙ words)

  -- ---- who is told

  abbrev pub author : Bool
  author = is_author u p H

  abbrev pub accepted : Bool
  accepted = is_accepted p H

  pub programme : accepted ≡ is_in_programme p H
  programme =
      (λ i. accept-takes (decision_of p H) i && not (is_withdrawn p H) && (phase-words (phase_of H)).notification i)

  -- she is an external of it
  abbrev external : Bool
  external = is_external u p H

  abbrev visiting : external ≡ visits u p H
  visiting = visits-same u p H

  everyone : (may stands accepted && true)
      ≡ (is_on_committee (role_of u H) || visits u p H || author || is_shown_accepted p V)
  everyone = to (is_member (role_of u H)) _ external _ author accepted _ (member-committee (role_of u H)) visiting
      (sym (accepted-seen u p H) ∙ reads.accepted u p H)
    where
      to : (m m' e e' a o o' : Bool) → m ≡ m' → e ≡ e' → o ≡ o' → (((m || e) || a || o) && true) ≡ (m' || e' || a || o')
      to m m' e e' a o o' hm he ho = grind (arith, hm, he, ho)

  titled : (may stands accepted && gets_title stands accepted)
      ≡ (author || (serves u H || reads_visiting u p H || accepted))
  titled =
      to (is_member (role_of u H)) _ external _ (is_from Bidding (phase_of H)) _ author (is_conflicted u p H) accepted
      (member-committee (role_of u H)) visiting (phase-words (phase_of H)).bidding
    where
      to : (m m' e e' b b' a c o : Bool) → m ≡ m' → e ≡ e' → b ≡ b'
          → (((m || e) || a || o) && (a || (m && b) || ((e && not c) && b) || o))
          ≡ (a || ((m' && b') || ((e' && not c) && b') || o))
      to m m' e e' b b' a c o hm he hb = grind (arith, hm, he, hb)

  abstracted : (may stands accepted && gets_abstract stands accepted)
      ≡ (author || (reads_to_judge u p H || is_published (phase_of H) accepted))
  abstracted =
      to (is_member (role_of u H)) _ external _ (is_from Bidding (phase_of H)) _ author (is_conflicted u p H) accepted
      (is_from Closed (phase_of H))
      (member-committee (role_of u H)) visiting (phase-words (phase_of H)).bidding
    where
      to : (m m' e e' b b' a c o x : Bool) → m ≡ m' → e ≡ e' → b ≡ b'
          → (((m || e) || a || o) && (a || (((m && not c) || (e && not c)) && b) || (o && x)))
          ≡ (a || ((((m' && b') && not c) || ((e' && not c) && b')) || (o && x)))
      to m m' e e' b b' a c o x hm he hb = grind (arith, hm, he, hb)

  authored : (may stands accepted && shows_author stands accepted)
      ≡ (author || oversees u p H || (reads_to_judge u p H && not (hides_authors (mode_of H))) || accepted)
  authored =
      to (is_member (role_of u H)) _ external _ (is_chair (role_of u H)) _ (is_from Bidding (phase_of H)) _
      (is_anonymous (mode_of H)) _ author (is_conflicted u p H)
      accepted (member-committee (role_of u H)) visiting (chair-leads (role_of u H)) (chair-committee (role_of u H))
      (phase-words (phase_of H)).bidding
      (mode-words (mode_of H)).authors
    where
      to : (m m' e e' k k' b b' h h' a c o : Bool) → m ≡ m' → e ≡ e' → k ≡ k' → (m' && k) ≡ k → b ≡ b' → h ≡ h'
          → (((m || e) || a || o) && (a || ((k && not c) && b) || (((m && not c) || (e && not c)) && not h && b) || o))
          ≡ (a || (((m' && b') && not c) && k') || ((((m' && b') && not c) || ((e' && not c) && b')) && not h') || o)
      to m m' e e' k k' b b' h h' a c o hm he hk hmk hb hh = grind (arith, hm, he, hk, hmk, hb, hh)

  withdrawn_to : (may stands accepted && gets_withdrawn stands) ≡ (author || serves u H || reads_visiting u p H)
  withdrawn_to =
      to (is_member (role_of u H)) _ external _ (is_from Bidding (phase_of H)) _ author (is_conflicted u p H) accepted
      (member-committee (role_of u H)) visiting (phase-words (phase_of H)).bidding
    where
      to : (m m' e e' b b' a c o : Bool) → m ≡ m' → e ≡ e' → b ≡ b'
          → (((m || e) || a || o) && (a || (m && b) || ((e && not c) && b)))
          ≡ (a || (m' && b') || ((e' && not c) && b'))
      to m m' e e' b b' a c o hm he hb = grind (arith, hm, he, hb)

  decided_to : (may stands accepted && gets_decision stands accepted)
      ≡ (discusses u p H || is_notified u p H || is_shown_accepted p V)
  decided_to =
      to (is_member (role_of u H)) _ external (is_past_submission (phase_of H)) (is_from Discussion (phase_of H)) _
      (is_from Notification (phase_of H)) _ author
      (is_conflicted u p H) accepted _ (member-committee (role_of u H)) (phase-words (phase_of H)).discussion
      (phase-words (phase_of H)).notification (phase-words (phase_of H)).discussion_later
      (sym (accepted-seen u p H) ∙ reads.accepted u p H)
    where
      to : (m m' e s d d' n n' a c o o' : Bool) → m ≡ m' → d ≡ d' → n ≡ n' → (s && d') ≡ d' → o ≡ o'
          → (((m || e) || a || o) && (((m && not c) && d) || (a && n) || o))
          ≡ ((((m' && s) && not c) && d') || (a && n') || o')
      to m m' e s d d' n n' a c o o' hm hd hn hs ho = grind (arith, hm, hd, hn, hs, ho)

  conflict_to : (may stands accepted && gets_conflict stands)
      ≡ (is_on_committee (role_of u H) || visits u p H || author)
  conflict_to = to (is_member (role_of u H)) _ external _ author accepted (member-committee (role_of u H)) visiting
    where
      to : (m m' e e' a o : Bool) → m ≡ m' → e ≡ e' → (((m || e) || a || o) && ((m || e) || a)) ≡ (m' || e' || a)
      to m m' e e' a o hm he = grind (arith, hm, he)

  pub overseen : (may stands accepted && gets_conflicts stands) ≡ oversees u p H
  overseen =
      to (is_member (role_of u H)) _ external (is_chair (role_of u H)) _ (is_from Bidding (phase_of H)) _ author
      (is_conflicted u p H) accepted
      (member-committee (role_of u H)) (chair-leads (role_of u H)) (chair-committee (role_of u H))
      (phase-words (phase_of H)).bidding
    where
      to : (m m' e k k' b b' a c o : Bool) → m ≡ m' → k ≡ k' → (m' && k) ≡ k → b ≡ b'
          → (((m || e) || a || o) && ((k && not c) && b)) ≡ (((m' && b') && not c) && k')
      to m m' e k k' b b' a c o hm hk hmk hb = grind (arith, hm, hk, hmk, hb)

  declared_to : (may stands accepted && gets_declared stands) ≡ author
  declared_to = to (is_member (role_of u H) || external) author accepted
    where
      to : (m a o : Bool) → ((m || a || o) && a) ≡ a
      to m a o = grind arith

  pub handled : (may stands accepted && gets_bid stands) ≡ is_eligible u p H
  handled =
      to (is_member (role_of u H)) _ external (is_from Bidding (phase_of H)) _ author (is_conflicted u p H) accepted
      (member-committee (role_of u H))
      (phase-words (phase_of H)).bidding
    where
      to : (m m' e b b' a c o : Bool) → m ≡ m' → b ≡ b'
          → (((m || e) || a || o) && ((m && not c) && b)) ≡ ((m' && b') && not c)
      to m m' e b b' a c o hm hb = grind (arith, hm, hb)

  -- who has a label, where she reviews it: members and externals in no conflict with it
  abbrev pub has_label : Bool
  has_label = is_clear u p H || (visits u p H && not (has_conflict u p H))

  labelled : (may stands accepted && gets_label stands) ≡ (has_label && is_reviewer u p H)
  labelled = to (is_member (role_of u H)) _ external _ author (is_conflicted u p H) (is_reviewer u p H) accepted
      (member-committee (role_of u H)) visiting
    where
      to : (m m' e e' a c r o : Bool) → m ≡ m' → e ≡ e'
          → (((m || e) || a || o) && (((m && not c) || (e && not c)) && r)) ≡ (((m' && not c) || (e' && not c)) && r)
      to m m' e e' a c r o hm he = grind (arith, hm, he)

  -- ---- keys that say what is so of any

  paper-told : page_told (λ page. Some page.paper) u p H
      ≡ where_known (is_on_committee (role_of u H) || visits u p H || author || is_shown_accepted p V) p
  paper-told = told-key (λ page. Some page.paper) (λ by accepted. true) _ (Some p) refl everyone

  withdrawn-told : page_told (λ page. page.withdrawn) u p H ≡ where_known (author || serves u H || reads_visiting u p H)
      (is_shown kinds.Withdrawn p V)
  withdrawn-told =
      told-key (λ page. page.withdrawn) (λ by accepted. gets_withdrawn by)
      (author || serves u H || reads_visiting u p H) (Some (is_withdrawn_in_view p V)) refl
      withdrawn_to
      ∙ ap (where_known (author || serves u H || reads_visiting u p H)) (reads.withdrawn u p H)

  decision-told : page_told (λ page. page.decision) u p H
      ≡ where_known (discusses u p H || is_notified u p H || is_shown_accepted p V)
      (if is_shown_accepted p V then Some Accept else last (shown_on p (λ (s : Sighting). s.decision) V))
  decision-told =
      told-key (λ page. page.decision) gets_decision (discusses u p H || is_notified u p H || is_shown_accepted p V)
      (Some (if is_accepted_in_view p V then Some Accept else decision_in_view p V)) refl decided_to
      ∙ (λ i. where_known (discusses u p H || is_notified u p H || is_shown_accepted p V)
      (if reads.accepted u p H i then Some Accept else last (reads.decisions u p H i)))

  conflict-told : page_told (λ page. page.conflict) u p H
      ≡ where_known (is_on_committee (role_of u H) || visits u p H || author)
      (list_any (is_number u) (writers_shown p V) || is_shown_in_conflict u p V)
  conflict-told =
      told-key (λ page. page.conflict) (λ by accepted. gets_conflict by) _
      (Some (standing_in_view u (Some p) V).conflicted) refl conflict_to
      ∙ (λ i. where_known (is_on_committee (role_of u H) || visits u p H || author)
      (list_any (is_number u) (reads.writers u p H i) || reads.in_conflict u p H u i))

  conflicts-told : page_told (λ page. page.conflicts) u p H
      ≡ where_known (oversees u p H) (names_shown (users_shown (λ v. is_shown_in_conflict (Some v) p V) V) V)
  conflicts-told =
      told-key (λ page. page.conflicts) (λ by accepted. gets_conflicts by) (oversees u p H)
      (Some (names_shown (users_shown (λ v. is_conflict_on_in_view (Some v) p V) V) V)) refl overseen
      ∙ (λ i. where_known (oversees u p H) (names_shown (users_shown (λ v. reads.in_conflict u p H (Some v) i) V) V))

  bid-told : page_told (λ page. page.bid) u p H ≡ where_known (is_eligible u p H)
      (unwrap_or (last (own_bids_shown p V)) 20)
  bid-told =
      told-key (λ page. page.bid) (λ by accepted. gets_bid by) (is_eligible u p H)
      (Some (unwrap_or (own_bid_in_view p V) 20)) refl handled
      ∙ (λ i. where_known (is_eligible u p H) (unwrap_or (last (reads.own_bids u p H i)) 20))

  label-told : page_told (λ page. page.label) u p H ≡ (if has_label then label_shown_of u p V else None)
  label-told =
      told-key (λ page. page.label) (λ by accepted. gets_label by) (has_label && is_reviewer u p H)
      (ordinal_in_view u p V) refl labelled
      ∙ where-any has_label (ordinal_of u p H) (ordinal_in_view u p V) (seat-seen u p H)
      ∙ ap (λ (label : Option ℕ). if has_label then label else None) (reads.labels u p H u)
    where
      where-any : (c : Bool) (seat label : Option ℕ) → label ≡ seat
          → where_told (c && is_some seat) label ≡ (if c then label else None)
      where-any false seat label is = refl
      where-any true None label is = sym is
      where-any true (Some o) label is = refl

  -- ---- keys that are told where the view shows them

  -- what a submission of the paper tells, the history tells
  submitted : {A : Type 0} (told : Stamped → List A)
      → ((stamp : Stamp) (more : Bool) (title abstract : List ℕ)
      → is_nothing (told (stamped stamp more (Submitted p title abstract))) ≡ false)
      → is_nothing (flat_map told H) ≡ false
  submitted told tells = any H there
    where
      one : (stamp : Stamp) (more : Bool) (e : Entry) → list_any (λ q. q == p) (paper_told e) ≡ true
          → is_nothing (told (stamped stamp more e)) ≡ false
      one stamp more (Submitted paper title abstract) is =
          let e : paper ≡ p = eqb-true paper p (sym (or-false (eqb paper p)) ∙ is) in
          ap (λ n. is_nothing (told (stamped stamp more (Submitted n title abstract)))) e
          ∙ tells stamp more title abstract
      one stamp more e is = absurd (true≢false (sym is))

      any : (G : History) → list_any (λ q. q == p) (papers_of G) ≡ true → is_nothing (flat_map told G) ≡ false
      any [] is = absurd (true≢false (sym is))
      any (e ∷ G) is =
          is_nothing-append (told e) (flat_map told G)
          ∙ by (list_any (λ q. q == p) (paper_told e.entry)) (is_nothing (told e)) (is_nothing (flat_map told G))
          (one e.stamp e.more e.entry) (any G) (sym (list_any-append (λ q. q == p) (paper_told e.entry) (papers_of G))
          ∙ is)
        where
          by : (here nothing rest : Bool) {later : Bool} → (here ≡ true → nothing ≡ false)
              → (later ≡ true → rest ≡ false)
              → (here || later) ≡ true → (nothing && rest) ≡ false
          by true nothing rest now others h = ap (λ b. b && rest) (now refl)
          by false nothing rest now others h = ap (λ b. nothing && b) (others h) ∙ and-false nothing

  title-told : page_told (λ page. page.title) u p H ≡ last (shown_on p (λ (s : Sighting). s.title) V)
  title-told =
      told-key (λ page. page.title) gets_title (author || (serves u H || reads_visiting u p H || accepted))
      (title_in_view p V) refl titled
      ∙ told-free (author || (serves u H || reads_visiting u p H || accepted)) (title_in_view p V) none
      ∙ ap last (reads.titles u p H)
    where
      none : (author || (serves u H || reads_visiting u p H || accepted)) ≡ false → title_in_view p V ≡ None
      none h =
          let parts = or_parts author (serves u H || reads_visiting u p H || accepted) h in
          ap last (reads.titles u p H ∙ titles-none u p H order parts.0
          (ap (λ b. serves u H || reads_visiting u p H || b) (sym programme) ∙ parts.1))

  -- who is told of the abstract
  abbrev pub reads_it : Bool
  reads_it = author || (reads_to_judge u p H || is_published (phase_of H) accepted)

  pub public : is_published (phase_of H) accepted ≡ appears p H
  public = λ i. programme i && (phase-words (phase_of H)).closed i

  no-abstract : reads_it ≡ false → abstract_in_view p V ≡ None
  no-abstract h =
      let parts = or_parts author (reads_to_judge u p H || is_published (phase_of H) accepted) h in
      ap last (reads.abstracts u p H ∙ abstracts-none u p H order parts.0
      (ap (λ b. reads_to_judge u p H || b) (sym public) ∙ parts.1))

  abstract-told : page_told (λ page. page.abstract_) u p H ≡ last (shown_on p (λ (s : Sighting). s.abstract) V)
  abstract-told =
      told-key (λ page. page.abstract_) gets_abstract reads_it (abstract_in_view p V) refl abstracted
      ∙ told-free reads_it (abstract_in_view p V) no-abstract
      ∙ ap last (reads.abstracts u p H)

  -- who is told of it, is shown one
  pub abstract-some : reads_it ≡ is_some (last (shown_on p (λ (s : Sighting). s.abstract) V))
  abstract-some = by reads_it refl ∙ ap (λ xs. is_some (last xs)) (reads.abstracts u p H)
    where
      by : (b : Bool) → reads_it ≡ b → b ≡ is_some (abstract_in_view p V)
      by true is =
          sym
          (ap is_some
          (abstract-seen u p H (and_parts (may stands accepted) (gets_abstract stands accepted)
          (abstracted ∙ is)).1)
          ∙ last-some (all_told (abstract_told p) H)
          ∙ ap not (submitted (λ (e : Stamped). abstract_told p e.entry)
          (λ stamp more title abstract. ap (λ b. is_nothing (given b abstract)) (eq-eqb p p refl))))
      by false is = sym (ap is_some (no-abstract is))

  authors-told : page_told (λ page. page.authors) u p H ≡ some_names (writers_shown p V) V
  authors-told =
      told-key (λ page. page.authors) shows_author said (Some (names_shown (authors_in_view p V) V)) refl authored
      ∙ ap (λ users. where_told said (Some (names_shown users V))) (reads.writers u p H)
      ∙ named said (writers_shown p V)
      (λ is. ap is_nothing (sym (reads.writers u p H)
      ∙ authors-seen u p H (and_parts (may stands accepted) (shows_author stands accepted) (authored ∙ is)).1)
      ∙ submitted (λ (e : Stamped). author_told p e.stamp.maker e.entry)
      (λ stamp more title abstract. ap (λ b. is_nothing (given b stamp.maker)) (eq-eqb p p refl)))
      (λ isnt. writers-none u p H order (stranger isnt)
      (ap (λ b. author || oversees u p H || (reads_to_judge u p H && not (hides_authors (mode_of H))) || b)
      (sym programme) ∙ isnt))
    where
      said : Bool
      said = author || oversees u p H || (reads_to_judge u p H && not (hides_authors (mode_of H))) || accepted

      stranger : said ≡ false → author ≡ false
      stranger = by author (oversees u p H) (reads_to_judge u p H && not (hides_authors (mode_of H))) accepted
        where
          by : (a o h x : Bool) → (a || o || h || x) ≡ false → a ≡ false
          by true o h x is = is
          by false o h x is = refl

      named : (said : Bool) (users : List ℕ) → (said ≡ true → is_nothing users ≡ false) → (said ≡ false → users ≡ [])
          → where_told said (Some (names_shown users V)) ≡ some_names users V
      named true [] some none = absurd (true≢false (some refl))
      named true (v ∷ users) some none = refl
      named false users some none = sym (ap (λ users. some_names users V) (none refl))

  declared-told : Legal H → page_told (λ page. page.declared) u p H
      ≡ where_known author (names_shown (users_shown (λ v. list_any (λ w. w == v) (declared_by_authors p H)) V) V)
  declared-told legal =
      told-key (λ page. page.declared) (λ by accepted. gets_declared by) author (names (declared_in_view u p V)) refl
      declared_to
      ∙ same_key author (names (declared_in_view u p V)) (names (declared_by_authors p H))
      (λ is. ap names (Legal-declared u p H legal is))
    where
      names : List ℕ → Option (List (List ℕ))
      names users = Some (names_shown (users_shown (λ v. list_any (λ w. w == v) users) V) V)

  -- ---- uploads

  -- others than the authors are shown one upload at most
  one-upload : author ≡ false → length (uploads_in_view p V) ≤ 1
  one-upload stranger = subst (λ n. n ≤ 1) (sym (sym (length-map (uploads_in_view p V) content) ∙ ap length same))
      (one-content u p H stranger)
    where
      content : Upload → List ℕ
      content upload = upload.content

      both : (same mine known : Bool) (version : ℕ) (content' : List ℕ) → (same ≡ true → mine ≡ false)
          → map content (only same (upload_shown (where_known known version) (where_known known content')))
          ≡ only (same && not mine) (listed (where_known known content'))
      both true true known version content' h = absurd (true≢false (h refl))
      both true false true version content' h = refl
      both true false false version content' h = refl
      both false mine true version content' h = refl
      both false mine false version content' h = refl

      each : (before later : History) (stamp : Stamp) (more : Bool) (e : Entry) → IsByAuthor H stamp.maker e
          → is_told u H before later stamp.maker e ≡ true
          → map content (upload_seen p (shown_to u H before later stamp e)) ≡ part_shown (λ (s : Sighting). s.content) p
          (shown_to u H before later stamp e)
      each before later stamp more (Uploaded paper version content') right told =
          both (eqb paper p) (is_number u stamp.maker) _ version content'
          (λ same. not-own H u paper stamp.maker right (ap (λ n. is_author u n H) (eqb-true paper p same) ∙ stranger))
      each before later stamp more e right told = refl

      same : map content (uploads_in_view p V) ≡ flat_map (part_shown (λ (s : Sighting). s.content) p) V
      same =
          map-flat_map content (upload_seen p) V
          ∙ flat_map-same (λ s. map content (upload_seen p s)) (part_shown (λ (s : Sighting). s.content) p) V
          (all-view u H (λ (s : Sighting). map content (upload_seen p s) ≡ part_shown (λ (s : Sighting). s.content) p s)
          (λ (e : Stamped). IsByAuthor H e.stamp.maker e.entry) each (by-authors H order))

  -- so all that she is shown are told her
  pub every-upload : uploads_told (is_author_in_view u p V) (uploads_in_view p V) ≡ uploads_in_view p V
  every-upload = ap (λ (by : Standing). uploads_told by.author (uploads_in_view p V)) (standing_from_view u (Some p) H)
      ∙ by author refl
    where
      one : {A : Type 0} (xs : List A) → length xs ≤ 1 → listed (last xs) ≡ xs
      one [] few = refl
      one (x ∷ []) few = refl
      one (x ∷ y ∷ xs) few = absurd (omega (arith, few))

      by : (b : Bool) → author ≡ b → uploads_told b (uploads_in_view p V) ≡ uploads_in_view p V
      by true is = refl
      by false is = one (uploads_in_view p V) (one-upload is)

  versions-told : page_told (λ page. page.versions) u p H
      ≡ where_known (is_some (last (shown_on p (λ (s : Sighting). s.abstract) V)))
      (shown_by kinds.Uploaded p (λ (s : Sighting). s.version) V)
  versions-told =
      told-key (λ page. page.versions) gets_versions reads_it
      (Some (numbers (uploads_told (is_author_in_view u p V) (uploads_in_view p V)))) refl abstracted
      ∙ (λ i. where_known (abstract-some i) (numbers (every-upload i)))
      ∙ ap (where_known (is_some (last (shown_on p (λ (s : Sighting). s.abstract) V)))) (reads.versions u p H)
    where
      numbers : List Upload → List ℕ
      numbers uploads = map (λ (upload : Upload). upload.version) uploads

  -- ---- the page

  pub page-told : Legal H → PageTold u p H
  page-told legal = record {
    paper = paper-told;
    title = title-told;
    abstract_ = abstract-told;
    authors = authors-told;
    withdrawn = withdrawn-told;
    versions = versions-told;
    decision = decision-told;
    conflict = conflict-told;
    conflicts = conflicts-told;
    declared = declared-told legal;
    bid = bid-told;
    label = label-told;
  }

pub pages_told : PagesTold
pages_told u p H legal there = page-told u p H there (legal_invariants H legal).in_order legal
