-- SPDX-License-Identifier: Apache-2.0 OR MIT
-- Where the tables tell what a history tells, what a report tells one who may have it is by her view what it is by
-- the tables.
use Rattle.std.proofs.Common.{ℕ, Bool, true, false, cond, ◌≡◌, List, [], ◌∷◌, ◌++◌, length, ◌||◌, ◌&&◌, refl, sym, ap}
use Rattle.std.proofs.Common.{◌∙◌, arith, Option, Some, None, Result, Ok}
use Rattle.std.specs.Prelude.{map, filter, not, nat_le, unwrap_or}
use Rattle.std.specs.List.{flat_map, AllByRecursion}
use Rattle.std.specs.Option.{option_map, option_and_then}
use Rattle.std.proofs.lemmas.Bool.{not-false, and_from}
use Rattle.std.proofs.lemmas.Bool.Decides.{nat_tests}
use Rattle.cr_base.specs.declared.reply.AccountLine.{AccountLine}
use Rattle.cr_base.specs.declared.reply.Reply.{Reply}
use Rattle.cr_base.specs.declared.reply.Reply.TheVariants as replies
use Rattle.cr_base.specs.declared.reply.Rule.{Rule}
use Rattle.cr_base.specs.declared.report.Report.{Report}
use Rattle.cr_base.specs.declared.report.Report.TheVariants as reports
use Rattle.cr_base.specs.declared.review.ReviewLine.{ReviewLine}
use Rattle.cr_base.specs.declared.standing.Standing.{Standing}
use Rattle.cr_base.specs.declared.words.Decision.{Decision}
use Rattle.cr_base.specs.declared.words.Kind.TheVariants.{Primary, Secondary, Pc}
use Rattle.cr_base.specs.Answering.{review_told}
use Rattle.cr_base.specs.Checks.{judged}
use Rattle.cr_base.specs.History.{History, SeatTold, FormTold}
use Rattle.cr_base.specs.Labels.{by_labels, most_labels}
use Rattle.cr_base.specs.Lists.{listed, last, is_number, total}
use Rattle.cr_base.specs.Page.{is_clear_member, is_clear_chair, is_clear_external, shows_reviewer, where_told}
use Rattle.cr_base.specs.Phases.{phase_rank, members_see_papers, chairs_see_reviewers, letters_are_sent}
use Rattle.cr_base.specs.Phases.{members_read_reviews, members_read_decisions, authors_read_decisions}
use Rattle.cr_base.specs.Reports.{report_checks, report_told, is_clear_of, clear_papers, open_papers, title_by, space}
use Rattle.cr_base.specs.Reports.{line_end, in_four, to_left, paper_mark, papers_end, papers_told, last_scores}
use Rattle.cr_base.specs.Reports.{scores_line, scores_told, held, is_seat_of_kind, load_line, load_told, decision_word}
use Rattle.cr_base.specs.Reports.{decision_line, decided, decisions_end, decisions_told, is_accepting, is_rejecting}
use Rattle.cr_base.specs.Reports.{is_undecided, paper_named_line, decision_named_line, letter_form, letter_forms}
use Rattle.cr_base.specs.Reports.{letter_told}
use Rattle.cr_base.specs.Sources.{Facts, Shown, decision_by, name_in, facts_of_tables, shown_in_tables}
use Rattle.cr_base.specs.Tables.{tables_of}
use Rattle.cr_base.specs.Words.{is_member, is_chair}
use Rattle.cr_base.proofs.CheckLaws.{judged-behind}
use Rattle.cr_base.proofs.LastLaws.{last_from-map}
use Rattle.cr_history.specs.Laws.{AreTold, AreFormsTold}
use Rattle.cr_history.proofs.ListCuts.{AllByRecursion-filter}
use Rattle.cr_policy.specs.View.{view}
use Rattle.cr_policy.specs.ViewFacts.{shown_in_view}
use Rattle.cr_policy.proofs.FactAgreement.{title-tables, withdrawn-tables, decision_by-tables}
use Rattle.cr_policy.proofs.ReviewAgreement.{assigned-tables, seats-tables, written-tables, last_form-tables}
use Rattle.cr_policy.proofs.ReviewAgreement.{discussed-tables}
use Rattle.cr_policy.proofs.ReviewerTells.{same_key}

-- ---- lists of those that pass a test

-- each that is left passes
pub passed : {A : Type 0} (test : A → Bool) (xs : List A) → AllByRecursion (λ x. test x ≡ true) (filter test xs)
passed test [] = tt
passed {A} test (x ∷ xs) = by (test x) refl (passed test xs)
  where
    by : (b : Bool) → test x ≡ b → AllByRecursion (λ y. test y ≡ true) (filter test xs)
        → AllByRecursion (λ y. test y ≡ true) (cond b (x ∷ filter test xs) (filter test xs))
    by true is rest = (is, rest)
    by false is rest = rest

-- what is made of each is the same, where it is the same of all of which this holds
pub map-same : {A B : Type 0} (P : A → Type 0) (f g : A → B) → ((x : A) → P x → f x ≡ g x) → (xs : List A)
    → AllByRecursion P xs → map f xs ≡ map g xs
map-same P f g same [] all = refl
map-same P f g same (x ∷ xs) all = let rest = map-same P f g same xs all.1 in λ i. same x all.0 i ∷ rest i

pub flat_map-same : {A B : Type 0} (P : A → Type 0) (f g : A → List B) → ((x : A) → P x → f x ≡ g x) → (xs : List A)
    → AllByRecursion P xs
    → flat_map f xs ≡ flat_map g xs
flat_map-same P f g same [] all = refl
flat_map-same P f g same (x ∷ xs) all = let rest = flat_map-same P f g same xs all.1 in λ i. same x all.0 i ++ rest i

pub filter-same : {A : Type 0} (P : A → Type 0) (f g : A → Bool) → ((x : A) → P x → f x ≡ g x) → (xs : List A)
    → AllByRecursion P xs → filter f xs ≡ filter g xs
filter-same P f g same [] all = refl
filter-same P f g same (x ∷ xs) all = let rest =
    filter-same P f g same xs all.1 in λ i. cond (same x all.0 i) (x ∷ rest i) (rest i)

-- ---- what is told of forms

-- the score of the last form is that of the last one as it is told
last-graded : (tell : FormTold → ReviewLine) → ((form : FormTold) → (tell form).score ≡ form.score)
    → (forms : List FormTold)
    → map (λ (form : FormTold). form.score) (listed (last forms)) ≡ map (λ (line : ReviewLine). line.score)
    (listed (last (map tell forms)))
last-graded tell graded forms = of (last forms)
    ∙ ap (λ (line : Option ReviewLine). map (λ (line : ReviewLine). line.score) (listed line))
    (sym (last_from-map tell None forms))
  where
    of : (form : Option FormTold) → map (λ (form : FormTold). form.score) (listed form)
        ≡ map (λ (line : ReviewLine). line.score) (listed (option_map tell form))
    of None = refl
    of (Some form) = ap (λ n. n ∷ []) (sym (graded form))

-- a form of which is kept what an author is told
abbrev form_of_line : ReviewLine → FormTold
form_of_line line =
    record {
      version = None;
      score = line.score;
      confidence = line.confidence;
      to_authors = line.to_authors;
      to_pc = None;
    }

-- the letter needs no more of it
letter-of_line : (by : Standing) (accounts : List AccountLine) (named : Bool) (user : Option ℕ) (o : ℕ)
    (writer : Option (List ℕ)) (form : Option FormTold)
    → flat_map (letter_form o writer) (listed form)
    ≡ flat_map (λ (line : ReviewLine). letter_form o writer (form_of_line line))
    (map (review_told by accounts named user o) (listed form))
unfolding letter_form
letter-of_line by accounts named user o writer None = refl
letter-of_line by accounts named user o writer (Some form) = refl

module _ (u : Option ℕ) (H : History) (told : AreTold H) (forms : AreFormsTold H) where
  abbrev facts : Facts
  facts = facts_of_tables (tables_of H) u

  abbrev shown : Shown
  shown = shown_in_view u (view u H)

  abbrev tabled : Shown
  tabled = shown_in_tables (tables_of H)

  -- how she stands to a paper
  abbrev to : ℕ → Standing
  to p = facts.standing (Some p)

  -- how she stands to the conference
  abbrev here : Standing
  here = facts.standing None

  -- she is in no conflict with the paper
  abbrev pub IsClear : ℕ → Type 0
  IsClear p = is_clear_of facts p ≡ true

  clear-clear : AllByRecursion IsClear (clear_papers facts)
  clear-clear = passed (is_clear_of facts) facts.papers

  pub open-clear : AllByRecursion IsClear (open_papers facts tabled)
  open-clear = AllByRecursion-filter IsClear (λ (p : ℕ). not (tabled.withdrawn p)) (clear_papers facts) clear-clear

  -- ---- what members are told from the bidding on of every paper

  module _ (serves : is_member here.role ≡ true) (begun : members_see_papers here.phase ≡ true) where
    withdrawn-same : (p : ℕ) → shown.withdrawn p ≡ tabled.withdrawn p
    withdrawn-same p = withdrawn-tables u H told p
        (gets (to p).author (is_member here.role) (members_see_papers here.phase) (is_clear_external (to p)) serves
        begun)
      where
        gets : (a m b e : Bool) → m ≡ true → b ≡ true → (a || (m && b) || (e && b)) ≡ true
        gets a m b e hm hb = grind arith

    title-same : (p : ℕ) → title_by shown p ≡ title_by tabled p
    title-same p =
        ap (λ (title : Option (List ℕ)). unwrap_or title [])
        (title-tables u H told p (gets (to p).author (is_member here.role) (members_see_papers here.phase)
        (is_clear_external (to p)) (facts.accepted p) serves begun))
      where
        gets : (a m b e accepted : Bool) → m ≡ true → b ≡ true → (a || (m && b) || (e && b) || accepted) ≡ true
        gets a m b e accepted hm hb = grind arith

    pub open-same : open_papers facts shown ≡ open_papers facts tabled
    open-same = λ i. filter (λ (p : ℕ). not (withdrawn-same p i)) (clear_papers facts)

    papers-same : papers_told facts shown ≡ papers_told facts tabled
    papers-same = λ i.
        flat_map
        (λ (p : ℕ). in_four p ++ space ++ paper_mark (withdrawn-same p i) (to p).conflicted ++ space ++ title-same p i
        ++ line_end)
        facts.papers
        ++ papers_end (length facts.papers)

    -- ---- what those in no conflict with a paper are told from the discussion on

    module _ (discussed : members_read_reviews here.phase ≡ true) where
      scores-of : (p : ℕ) → IsClear p → last_scores shown p ≡ last_scores tabled p
      scores-of p clear = let each = of in λ i. by_labels (λ (o : ℕ). each o i) most_labels
        where
          tell : ℕ → FormTold → ReviewLine
          tell o = review_told (to p) [] false None o

          graded : ReviewLine → ℕ
          graded line = line.score

          score : FormTold → ℕ
          score form = form.score

          clear_member : (m c : Bool) → m ≡ true → not c ≡ true → (m && not c) ≡ true
          clear_member m c hm hc = grind arith

          of : (o : ℕ) → map score (listed (last (shown.forms_discussed p o)))
              ≡ map score (listed (last (tabled.forms_discussed p o)))
          of o =
              last-graded (tell o) (λ form. refl) (shown.forms_discussed p o)
              ∙ ap (λ (lines : List ReviewLine). map graded (listed (last lines)))
              (discussed-tables u H told p [] false None o forms
              (clear_member (is_member here.role) (to p).conflicted serves clear) discussed)
              ∙ sym (last-graded (tell o) (λ form. refl) (tabled.forms_discussed p o))

      scores-same : scores_told facts shown ≡ scores_told facts tabled
      scores-same =
          ap (flat_map (line shown)) open-same ∙ flat_map-same IsClear (line shown) (line tabled) same
          (open_papers facts tabled) open-clear
        where
          line : Shown → ℕ → List ℕ
          line from p = scores_line p (last_scores from p) (title_by from p)

          same : (p : ℕ) → IsClear p → line shown p ≡ line tabled p
          same p clear = let scores = scores-of p clear in λ i. scores_line p (scores i) (title-same p i)

    module _ (decided_told : members_read_decisions here.phase ≡ true) where
      decision-same : (p : ℕ) → IsClear p → decision_by facts shown p ≡ decision_by facts tabled p
      decision-same p clear =
          decision_by-tables u H told p
          (gets (is_member here.role) (to p).conflicted (members_read_decisions here.phase)
          ((to p).author && authors_read_decisions here.phase) (facts.accepted p)
          serves clear decided_told)
        where
          gets : (m c d a accepted : Bool) → m ≡ true → not c ≡ true → d ≡ true
              → (((m && not c) && d) || a || accepted) ≡ true
          gets m c d a accepted hm hc hd = grind arith

      decided-same : (test : Option Decision → Bool) → decided facts shown test ≡ decided facts tabled test
      decided-same test =
          ap length
          (ap (filter (passes shown)) open-same
          ∙ filter-same IsClear (passes shown) (passes tabled) (λ p clear. ap test (decision-same p clear))
          (open_papers facts tabled) open-clear)
        where
          passes : Shown → ℕ → Bool
          passes from p = test (decision_by facts from p)

      decisions-same : decisions_told facts shown ≡ decisions_told facts tabled
      decisions-same =
          let lines = ap (flat_map (decision_line facts shown)) open-same
          ∙ flat_map-same IsClear (decision_line facts shown) (decision_line facts tabled) same
          (open_papers facts tabled) open-clear in
          let accepted = decided-same is_accepting in
          let rejected = decided-same is_rejecting in
          let undecided = decided-same is_undecided in
          λ i. lines i ++ decisions_end (accepted i) (rejected i) (undecided i)
        where
          same : (p : ℕ) → IsClear p → decision_line facts shown p ≡ decision_line facts tabled p
          same p clear =
              let decision = decision-same p clear in
              λ i. in_four p ++ space ++ to_left 6 (decision_word (decision i)) ++ space ++ title-same p i ++ line_end

  -- ---- what chairs in no conflict with a paper are told from the bidding on

  module _ (serves : is_chair here.role ≡ true) (begun : chairs_see_reviewers here.phase ≡ true) where
    pub clear_chair : (p : ℕ) → IsClear p → is_clear_chair (to p) ≡ true
    clear_chair p clear = both (is_chair here.role) (to p).conflicted serves clear
      where
        both : (k c : Bool) → k ≡ true → not c ≡ true → (k && not c) ≡ true
        both k c hk hc = grind arith

    written-same : (p : ℕ) → IsClear p → (o : ℕ) → shown.written p o ≡ tabled.written p o
    written-same p clear o = written-tables u H told p (clear_chair p clear) o

    seats-same : (p : ℕ) → IsClear p → shown.reviewers p ≡ tabled.reviewers p
    seats-same p clear =
        seats-tables u H told p (and_from (is_clear_chair (to p)) (chairs_see_reviewers here.phase) (clear_chair p clear)
        begun)

    held-same : (user : ℕ) (test test' : ℕ → SeatTold → Bool)
        → ((p : ℕ) → IsClear p → (seat : SeatTold) → test p seat ≡ test' p seat)
        → held facts shown user test ≡ held facts tabled user test'
    held-same user test test' same =
        ap total (map-same IsClear (count shown test) (count tabled test') counted (clear_papers facts) clear-clear)
      where
        count : Shown → (ℕ → SeatTold → Bool) → ℕ → ℕ
        count from passes p =
            length (filter (λ (seat : SeatTold). is_number seat.user user && passes p seat) (from.reviewers p))

        counted : (p : ℕ) → IsClear p → count shown test p ≡ count tabled test' p
        counted p clear =
            let seats = seats-same p clear in
            let tests = same p clear in
            λ i. length (filter (λ (seat : SeatTold). is_number seat.user user && tests seat i) (seats i))

    load-same : load_told facts shown ≡ load_told facts tabled
    load-same = let each = line in λ i. flat_map (λ (a : AccountLine). each a i)
        (filter (λ (a : AccountLine). is_member a.role) facts.accounts)
      where
        line : (a : AccountLine) → load_line facts shown a ≡ load_line facts tabled a
        line a =
            let primary = held-same a.user (λ p seat. is_seat_of_kind Primary seat)
            (λ p seat. is_seat_of_kind Primary seat) (λ p clear seat. refl) in
            let secondary = held-same a.user (λ p seat. is_seat_of_kind Secondary seat)
            (λ p seat. is_seat_of_kind Secondary seat) (λ p clear seat. refl) in
            let others = held-same a.user (λ p seat. is_seat_of_kind Pc seat) (λ p seat. is_seat_of_kind Pc seat)
            (λ p clear seat. refl) in
            let written =
            held-same a.user (λ p seat. shown.written p seat.ordinal) (λ p seat. tabled.written p seat.ordinal)
            (λ p clear seat. written-same p clear seat.ordinal) in
            λ i.
            to_left 32 a.name
            ++ space ++ in_four (primary i)
            ++ space ++ in_four (secondary i)
            ++ space ++ in_four (others i)
            ++ space ++ in_four (written i)
            ++ line_end

  -- ---- what a paper's authors are told from the notification on

  module _ (p : ℕ) (author : (to p).author ≡ true) (notified : letters_are_sent here.phase ≡ true) where
    letter_title : title_by shown p ≡ title_by tabled p
    letter_title =
        ap (λ (title : Option (List ℕ)). unwrap_or title [])
        (title-tables u H told p
        (gets (to p).author (is_member here.role && members_see_papers here.phase)
        (is_clear_external (to p) && members_see_papers here.phase) (facts.accepted p) author))
      where
        gets : (a m e accepted : Bool) → a ≡ true → (a || m || e || accepted) ≡ true
        gets a m e accepted ha = grind arith

    letter_decision : decision_by facts shown p ≡ decision_by facts tabled p
    letter_decision =
        decision_by-tables u H told p
        (gets (is_clear_member (to p) && members_read_decisions here.phase) (to p).author
        (authors_read_decisions here.phase)
        (facts.accepted p) author notified)
      where
        gets : (m a n accepted : Bool) → a ≡ true → n ≡ true → (m || (a && n) || accepted) ≡ true
        gets m a n accepted ha hn = grind arith

    -- the forms, and in the open mode whose they are
    forms-same : letter_forms facts shown p ≡ letter_forms facts tabled p
    forms-same = let each = of in λ i. by_labels (λ (o : ℕ). each o i) most_labels
      where
        name : Option ℕ → Option (List ℕ)
        name = option_and_then (name_in facts.accounts)

        writer : Shown → ℕ → Option (List ℕ)
        writer from o = where_told (shows_reviewer (to p)) (name (from.assigned p o))

        writer-same : (o : ℕ) → writer shown o ≡ writer tabled o
        writer-same o =
            same_key (shows_reviewer (to p)) (name (shown.assigned p o)) (name (tabled.assigned p o))
            (λ names. ap name (assigned-tables u H told p names o))

        tell : ℕ → FormTold → ReviewLine
        tell o = review_told (to p) [] false None o

        of : (o : ℕ) → flat_map (letter_form o (writer shown o)) (listed (shown.last_form p o))
            ≡ flat_map (letter_form o (writer tabled o)) (listed (tabled.last_form p o))
        of o =
            let by_lines : List ReviewLine → List ℕ =
            flat_map (λ (line : ReviewLine). letter_form o (writer shown o) (form_of_line line)) in
            letter-of_line (to p) [] false None o (writer shown o) (shown.last_form p o)
            ∙ ap by_lines (last_form-tables u H told p [] false None o author notified)
            ∙ sym (letter-of_line (to p) [] false None o (writer shown o) (tabled.last_form p o))
            ∙ ap (λ (writer : Option (List ℕ)). flat_map (letter_form o writer) (listed (tabled.last_form p o)))
            (writer-same o)

    letter-same : letter_told facts shown p ≡ letter_told facts tabled p
    letter-same = λ i. paper_named_line p (letter_title i) ++ decision_named_line (decision_word (letter_decision i))
        ++ forms-same i

  -- ---- reports

  abbrev answered : List ℕ → Result Reply Rule
  answered text = Ok (replies.Report text)

  -- a later phase comes behind the bidding, and a chair is a member
  begun_by : (first n : ℕ) → nat_le 2 first ≡ true → nat_le first n ≡ true → nat_le 2 n ≡ true
  begun_by first n behind h = grind (arith, nat_tests)

  -- each report by any user's view is the one by the tables, where she may have it
  pub report-tables : (report : Report)
      → judged (report_checks facts report) (replies.Report (report_told facts shown report))
      ≡ judged (report_checks facts report) (replies.Report (report_told facts tabled report))
  report-tables reports.Papers =
      judged-behind (report_checks facts reports.Papers) [] [] (replies.Report (papers_told facts shown))
      (replies.Report (papers_told facts tabled))
      (λ none. ap answered (papers-same (not-false (is_member here.role) none.0)
      (not-false (members_see_papers here.phase) none.1.0)))
  report-tables reports.Scores =
      judged-behind (report_checks facts reports.Scores) [] [] (replies.Report (scores_told facts shown))
      (replies.Report (scores_told facts tabled))
      (λ none.
      let discussed = not-false (members_read_reviews here.phase) none.1.0 in
      ap answered (scores-same (not-false (is_member here.role) none.0)
      (begun_by _ (phase_rank here.phase) refl discussed) discussed))
  report-tables reports.Load =
      judged-behind (report_checks facts reports.Load) [] [] (replies.Report (load_told facts shown))
      (replies.Report (load_told facts tabled))
      (λ none. ap answered (load-same (not-false (is_chair here.role) none.0)
      (not-false (chairs_see_reviewers here.phase) none.1.0)))
  report-tables reports.Decisions =
      judged-behind (report_checks facts reports.Decisions) [] [] (replies.Report (decisions_told facts shown))
      (replies.Report (decisions_told facts tabled))
      (λ none.
      let decided_told = not-false (members_read_decisions here.phase) none.1.0 in
      ap answered (decisions-same (not-false (is_member here.role) none.0)
      (begun_by _ (phase_rank here.phase) refl decided_told) decided_told))
  report-tables (reports.Letter None) = refl
  report-tables (reports.Letter (Some p)) =
      judged-behind (report_checks facts (reports.Letter (Some p))) [] [] (replies.Report (letter_told facts shown p))
      (replies.Report (letter_told facts tabled p))
      (λ none. ap answered (letter-same p (not-false (to p).author none.1.0)
      (not-false (letters_are_sent here.phase) none.1.1.0)))
