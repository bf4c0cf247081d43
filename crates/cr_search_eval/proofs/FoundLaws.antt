-- SPDX-License-Identifier: Apache-2.0 OR MIT
-- A walk over the papers that tells of those that are found.
use Rattle.std.proofs.Common.{ℕ, Bool, true, false, cond, ◌≡◌, ◌&&◌, List, [], ◌∷◌, Option, Some}
use Rattle.std.proofs.Common.{refl, sym, ap, ◌∙◌}
use Rattle.std.specs.Prelude.{filter, is_some, map, unwrap_or}
use Rattle.std.proofs.lemmas.Bool.{true≢false}
use Rattle.cr_base.specs.declared.found.FoundPaper.{FoundPaper}
use Rattle.cr_base.specs.declared.search.Node.{Node}
use Rattle.cr_base.specs.Answering.{found_by}
use Rattle.cr_base.specs.Page.{gets_title, where_told}
use Rattle.cr_base.specs.Papers.{paper_numbers, title_at}
use Rattle.cr_base.specs.Searching.{found_paper, is_found, search_holds, term_holds}
use Rattle.cr_base.specs.Sources.{facts_of_tables, is_accepted_in, shown_in_tables, standing_at}
use Rattle.cr_base.specs.Tables.{Tables}
use Rattle.cr_search_eval.specs.declared.asked.Asked.{Asked}
use Rattle.cr_search_eval.specs.Asked.{asked_of, told_at}
use Rattle.cr_search_eval.specs.Found.{papers_found, titled, told_to}

-- where two are the same of each that passes a test, they are the same of all that do
those-same : {A : Type 0} (test : ℕ → Bool) (one other : ℕ → A) → ((p : ℕ) → test p ≡ true → one p ≡ other p)
    → (ps : List ℕ) → map one (filter test ps) ≡ map other (filter test ps)
those-same test one other same [] = refl
those-same {A} test one other same (p ∷ ps) = by (test p) refl (those-same test one other same ps)
  where
    by : (b : Bool) → test p ≡ b → map one (filter test ps) ≡ map other (filter test ps)
        → map one (cond b (p ∷ filter test ps) (filter test ps))
        ≡ map other (cond b (p ∷ filter test ps) (filter test ps))
    by true is rest = λ i. same p is i ∷ rest i
    by false is rest = rest

-- ---- one paper

module _ (t : Tables) (user p : ℕ) (asked : Asked) (is : asked ≡ asked_of t user p) (search : List Node) where
  -- what is said of it as it is asked of
  found-at : (found : Bool) → found ≡ is_found (told_at t asked) search → found ≡ is_found (told_to t user p) search
  found-at found h = h ∙ ap (λ (a : Asked). is_found (told_at t a) search) is

  -- she is told its title, so the search decides
  pub found-where : (title : List ℕ) (holds : Bool) → Some title ≡ (told_at t asked).page.title
      → holds ≡ search_holds (term_holds (told_at t asked)) search → holds ≡ is_found (told_to t user p) search
  found-where title holds told h =
      found-at holds (h
      ∙ ap (λ (o : Option (List ℕ)). is_some o && search_holds (term_holds (told_at t asked)) search) told)

-- ---- all of them

module _ (t : Tables) (user : ℕ) (search : List Node) where
  -- of a paper that is found the last title is told
  found-titled : (p : ℕ) → is_found (told_to t user p) search ≡ true → titled t p ≡ found_paper p (told_to t user p)
  found-titled p is =
      by (gets_title (standing_at t (Some user) (Some p)) (is_accepted_in t p)) (title_at t.papers p)
      (search_holds (term_holds (told_to t user p)) search) is
    where
      by : (told : Bool) (title : Option (List ℕ)) (holds : Bool) → (is_some (where_told told title) && holds) ≡ true
          → ◌≡◌ {A = FoundPaper} (record { paper = p; title = unwrap_or title [] })
          (record { paper = p; title = unwrap_or (where_told told title) [] })
      by true title holds is = refl
      by false title holds is = absurd (true≢false (sym is))

  pub all-titled : map (titled t) (papers_found t user search)
      ≡ found_by (facts_of_tables t (Some user)) (shown_in_tables t) (Some user) search
  all-titled =
      those-same (λ p. is_found (told_to t user p) search) (titled t) (λ p. found_paper p (told_to t user p))
      found-titled (paper_numbers t.papers)
