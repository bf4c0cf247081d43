-- SPDX-License-Identifier: Apache-2.0 OR MIT
-- The papers that are told line by line, and what is counted of them.
use Rattle.std.proofs.Common.{ℕ, Bool, true, false, cond, ◌≡◌, ◌≤◌, ◌+◌, ◌&&◌, List, [], ◌∷◌, ◌++◌, length}
use Rattle.std.proofs.Common.{length-append, refl, sym, ap, ◌∙◌, arith, Option, Some, suc}
use Rattle.std.specs.Prelude.{filter, not}
use Rattle.std.specs.List.{flat_map}
use Rattle.std.proofs.lemmas.List.Elements.{filter-append}
use Rattle.cr_base.specs.declared.words.Decision.{Decision}
use Rattle.cr_base.specs.Papers.{paper_numbers}
use Rattle.cr_base.specs.Reports.{decisions_end, decisions_told, is_accepting, is_clear_of, is_undecided, is_rejecting}
use Rattle.cr_base.specs.Reports.{open_papers, scores_line}
use Rattle.cr_base.specs.Sources.{facts_of_tables, shown_in_tables}
use Rattle.cr_base.specs.Tables.{Tables}
use Rattle.cr_base.proofs.FiledLaws.{filter-filter}
use Rattle.cr_view.specs.Reports.{score_sum}
use Rattle.cr_view.specs.declared.reports.ScoreSum.{ScoreSum}
use Rattle.cr_reports.specs.ReportLines.{decided, decision_line_at, is_open_to, one, scored_line}
use Rattle.cr_reports.proofs.WalkLaws.{first, first-all, where_so, flat_map-filter}

module _ (t : Tables) (user : ℕ) where
  -- those that the reports list
  pub open-papers : filter (is_open_to t user) (paper_numbers t.papers) ≡ open_papers (facts_of_tables t (Some user))
      (shown_in_tables t)
  open-papers =
      filter-filter (is_clear_of (facts_of_tables t (Some user))) (λ (p : ℕ). not ((shown_in_tables t).withdrawn p))
      (paper_numbers t.papers)

  pub open-told : (line : ℕ → List ℕ)
      → flat_map (where_so (is_open_to t user) line) (paper_numbers t.papers)
      ≡ flat_map line (open_papers (facts_of_tables t (Some user)) (shown_in_tables t))
  open-told line = flat_map-filter (is_open_to t user) line (paper_numbers t.papers) ∙ ap (flat_map line) open-papers

  -- how many of them pass a test
  pub open-counted : (test : ℕ → Bool) → length
      (filter (λ (p : ℕ). is_open_to t user p && test p) (paper_numbers t.papers))
      ≡ length (filter test (open_papers (facts_of_tables t (Some user)) (shown_in_tables t)))
  open-counted test =
      ap (λ (ps : List ℕ). length ps) (filter-filter (is_open_to t user) test (paper_numbers t.papers))
      ∙ ap (λ (ps : List ℕ). length (filter test ps)) open-papers

-- one more paper counted, or not
pub count-step : {B : Type 0} (papers : List B) (test : ℕ → Bool) (i n old new : ℕ)
    → first papers (i + 1) ≡ first papers i ++ n ∷ []
    → new ≡ old + one (test n) → old ≡ length (filter test (first papers i))
    → new ≡ length (filter test (first papers (i + 1)))
count-step papers test i n old new next is h =
    is ∙ ap (λ (k : ℕ). k + one (test n)) h
    ∙ ap (λ (k : ℕ). length (filter test (first papers i)) + k) (one-length (test n))
    ∙ sym (length-append (filter test (first papers i)) (filter test (n ∷ [])))
    ∙ sym (ap (λ (ps : List ℕ). length ps) (filter-append test (first papers i) (n ∷ [])))
    ∙ sym (ap (λ (ps : List ℕ). length (filter test ps)) next)
  where
    one-length : (b : Bool) → one b ≡ length (cond b (n ∷ []) [])
    one-length true = refl
    one-length false = refl

-- ---- a paper's scores

-- the line of a paper with scores, and of one without
pub scores_some : (p : ℕ) (scores title : List ℕ) (s : ScoreSum) → s ≡ score_sum scores → (s.count ≡ 0 → ⊥)
    → scored_line p s title ≡ scores_line p scores title
scores_some p [] title s is some = absurd (some (ap (λ (r : ScoreSum). r.count) is))
scores_some p (score ∷ scores) title s is some = ap (λ (r : ScoreSum). scored_line p r title) is

pub scores_none : (p : ℕ) (scores title : List ℕ) (s : ScoreSum) → s ≡ score_sum scores → s.count ≡ 0
    → [] ≡ scores_line p scores title
scores_none p [] title s is none = refl
scores_none p (score ∷ scores) title s is none =
    absurd (never (length scores) (sym (ap (λ (r : ScoreSum). r.count) is) ∙ none))
  where
    never : (n : ℕ) → suc n ≡ 0 → ⊥
    never n h = omega (arith, h)

-- ---- decisions

-- how many of the papers up to one are told and pass a test
abbrev pub passing : Tables → ℕ → (ℕ → Bool) → ℕ → ℕ
passing t user test i = length (filter (λ (p : ℕ). is_open_to t user p && test p) (first t.papers.papers i))

-- one more, or not
pub few-more : (old new i : ℕ) (b : Bool) → new ≡ old + one b → old ≤ i → new ≤ i + 1
few-more old new i true is low = omega (arith, is, low)
few-more old new i false is low = omega (arith, is, low)

-- all of them
pub passing-all : (t : Tables) (user : ℕ) (test : ℕ → Bool) (i n : ℕ) → length t.papers.papers ≤ i
    → n ≡ passing t user test i
    → n ≡ length (filter test (open_papers (facts_of_tables t (Some user)) (shown_in_tables t)))
passing-all t user test i n past h =
    h ∙ ap (λ (ps : List ℕ). length (filter (λ (p : ℕ). is_open_to t user p && test p) ps))
    (first-all t.papers.papers i past)
    ∙ open-counted t user test

-- the last line counts them
pub decided-all : (t : Tables) (user : ℕ) (start : List ℕ) (accepted rejected undecided i : ℕ)
    → length t.papers.papers ≤ i
    → accepted ≡ passing t user (λ p. is_accepting (decided t p)) i
    → rejected ≡ passing t user (λ p. is_rejecting (decided t p)) i
    → undecided ≡ passing t user (λ p. is_undecided (decided t p)) i
    → start ++ (flat_map (decision_line_at t) (open_papers (facts_of_tables t (Some user)) (shown_in_tables t))
    ++ decisions_end accepted rejected undecided)
    ≡ start ++ decisions_told (facts_of_tables t (Some user)) (shown_in_tables t)
decided-all t user start accepted rejected undecided i past are were left =
    let told : ℕ → ℕ → ℕ → List ℕ =
    λ a r u. start ++ (flat_map (decision_line_at t) (open_papers (facts_of_tables t (Some user)) (shown_in_tables t))
    ++ decisions_end a r u) in
    ap (λ (n : ℕ). told n rejected undecided) (passing-all t user (λ p. is_accepting (decided t p)) i accepted past are)
    ∙ ap (λ (n : ℕ). told (all is_accepting) n undecided)
    (passing-all t user (λ p. is_rejecting (decided t p)) i rejected past were)
    ∙ ap (λ (n : ℕ). told (all is_accepting) (all is_rejecting) n)
    (passing-all t user (λ p. is_undecided (decided t p)) i undecided past left)
  where
    all : (Option Decision → Bool) → ℕ
    all test =
        length (filter (λ (p : ℕ). test (decided t p))
        (open_papers (facts_of_tables t (Some user)) (shown_in_tables t)))
