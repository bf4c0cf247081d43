-- SPDX-License-Identifier: Apache-2.0 OR MIT
-- How many records of a paper are read for its page.
use Rattle.std.proofs.Common.{ℕ, Bool, true, false, cond, ◌≡◌, ◌≤◌, ◌+◌, ◌-◌, ◌*◌, ◌&&◌, List, length, sym, subst}
use Rattle.std.proofs.Common.{arith, Option, Some, Result, Ok}
use Rattle.std.specs.Prelude.{not, unwrap_or, ◌||◌}
use Rattle.cr_base.specs.declared.pairs.Order.TheVariants.{ByPaper}
use Rattle.cr_base.specs.declared.reply.Rule.{Rule}
use Rattle.cr_base.specs.declared.standing.Standing.{Standing}
use Rattle.cr_base.specs.Checks.{Check, judged}
use Rattle.cr_base.specs.Filed.{filed_of}
use Rattle.cr_base.specs.History.{History}
use Rattle.cr_base.specs.Page.{gets_conflicts, gets_declared}
use Rattle.cr_base.specs.Pairs.{ties_of, users_tied_to}
use Rattle.cr_base.specs.Papers.{uploads_at}
use Rattle.cr_base.specs.Phases.{chairs_see_conflicts}
use Rattle.cr_base.specs.Sources.{standing_at}
use Rattle.cr_base.specs.Steps.{TakesAtMost}
use Rattle.cr_base.specs.Tables.{Tables, tables_of}
use Rattle.cr_base.specs.Ties.{authors_in, bids_in, is_author_in, is_conflict_on_in}
use Rattle.cr_base.specs.Words.{is_chair}
use Rattle.cr_base.proofs.CheckLaws.{judged-Ok}
use Rattle.cr_base.proofs.StepLaws.{at_most-at_most, at_most-more}
use Rattle.cr_history.specs.Records.{entries_on, records_on, records_declared}
use Rattle.cr_history.proofs.RecordLaws.{records-few, records-declared-few}
use Rattle.cr_view.specs.PaperSeen.{PaperSeen, TakesFew, facts_reads, page_reads, paper_seen_at}

-- ---- one after another

pub three : (a b c : ℕ) (s t u v : Option ℕ) → TakesAtMost a s t → TakesAtMost b t u → TakesAtMost c u v
    → TakesAtMost (a + b + c) s v
three a b c s t u v h k l = at_most-at_most (a + b) c s u v (at_most-at_most a b s t u h k) l

pub four : (a b c d : ℕ) (s t u v w : Option ℕ) → TakesAtMost a s t → TakesAtMost b t u → TakesAtMost c u v
    → TakesAtMost d v w
    → TakesAtMost (a + b + c + d) s w
four a b c d s t u v w h k l m = at_most-at_most (a + b + c) d s v w (three a b c s t u v h k l) m

-- ---- the bound

-- the last list is read by authors alone, the one before by chairs in no conflict, whom no author is
either : (author declared chair late : Bool) (c d n : ℕ) → c ≤ n → d ≤ n
    → cond (chair && not (author || declared) && late) c 0 + cond author d 0 ≤ n
either true declared true late c d n h k = omega (arith, k)
either true declared false late c d n h k = omega (arith, k)
either false declared chair late c d n h k = by (chair && not declared && late)
  where
    by : (b : Bool) → cond b c 0 + 0 ≤ n
    by true = omega (arith, h)
    by false = omega arith

-- each list twice at most
sums : (a c d s i b f v g x y n : ℕ) → a + c + s + i + b + f + v + g ≤ n → a + d + s + i + b + f + v + g ≤ n
    → x + y ≤ n - (a + s + i + b + f + v + g)
    → (a + c + s + i + 4) + ((a + x + y + b + b + (s + f)) + (v + 1) + g) ≤ 2 * n + 16
sums a c d s i b f v g x y n kept named lists = omega (arith, kept, named, lists)

module _ (t : Tables) (user : Option ℕ) (p : ℕ) (H : History) (is : t ≡ tables_of H) where
  abbrev by : Standing
  by = standing_at t user (Some p)

  abbrev n : ℕ
  n = entries_on p H

  kept : records_on p t ≤ n
  kept = subst (λ (s : Tables). records_on p s ≤ n) (sym is) (records-few p H)

  named : records_declared p t ≤ n
  named = subst (λ (s : Tables). records_declared p s ≤ n) (sym is) (records-declared-few p H)

  few-facts : facts_reads t p ≤ 2 * n + 16
  few-facts = omega (arith, kept)

  few-page : facts_reads t p + page_reads t by p ≤ 2 * n + 16
  few-page =
      let a : ℕ = length (authors_in t.ties p) in
      let c : ℕ = length (users_tied_to p t.ties.conflicts) in
      let d : ℕ = length (users_tied_to p t.ties.declared) in
      let s : ℕ = length (ties_of ByPaper p t.seats) in
      let i : ℕ = length (users_tied_to p t.invites) in
      let b : ℕ = length (bids_in t.ties p) in
      let f : ℕ = length (filed_of p t.reviews.forms) in
      let v : ℕ = length (uploads_at t.papers p) in
      let g : ℕ = length (filed_of p t.tags) in
      let x : ℕ = cond (gets_conflicts by) c 0 in
      let y : ℕ = cond (gets_declared by) d 0 in
      sums a c d s i b f v g x y n kept named
      (either (is_author_in t.ties user p) (is_conflict_on_in t.ties user p) (is_chair by.role)
      (chairs_see_conflicts by.phase) c d (n - (a + s + i + b + f + v + g)) (omega (arith, kept))
      (omega (arith, named)))

pub few-read : (t : Tables) (user : Option ℕ) (p : ℕ) (s u : Option ℕ) → TakesAtMost (facts_reads t p) s u
    → TakesFew t p s u
few-read t user p s u h H is = at_most-more (facts_reads t p) (2 * entries_on p H + 16) s u (few-facts t user p H is) h

module _ (t : Tables) (user paper : Option ℕ) where
  abbrev asked : PaperSeen
  asked = paper_seen_at t user (unwrap_or paper 0)

  -- the page of what was asked takes few steps
  pub few-shown : (checks : List Check) (s : PaperSeen) → ◌≡◌ {A = Result PaperSeen Rule} (Ok s) (judged checks asked)
      → (x y z : Option ℕ)
      → TakesAtMost (facts_reads t (unwrap_or paper 0)) x y → TakesAtMost (page_reads t s.by s.paper) y z
      → TakesFew t (unwrap_or paper 0) x z
  few-shown checks s h x y z first then H is =
      let p : ℕ = unwrap_or paper 0 in
      let same : s ≡ asked = sym (judged-Ok checks asked s (sym h)).1 in
      let page = subst (λ (r : PaperSeen). TakesAtMost (page_reads t r.by r.paper) y z) same then in
      at_most-more (facts_reads t p + page_reads t (standing_at t user (Some p)) p) (2 * entries_on p H + 16) x z
      (few-page t user p H is)
      (at_most-at_most (facts_reads t p) (page_reads t (standing_at t user (Some p)) p) x y z first page)
