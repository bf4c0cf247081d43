-- SPDX-License-Identifier: Apache-2.0 OR MIT
-- The paper that a command names goes on as an option, so each rule is tested by the table that has it.
use Rattle.std.proofs.Common.{ℕ, Bool, true, false, cond, ◌≡◌, ◌==◌, List, refl, sym, ap, ◌∙◌, Option, Some, None}
use Rattle.std.proofs.Common.{Result, Ok, Err}
use Rattle.std.specs.Prelude.{IsSome, is_some, unwrap_or}
use Rattle.std.specs.List.{list_any}
use Rattle.cr_base.specs.declared.reply.Rule.{Rule}
use Rattle.cr_base.specs.declared.reply.Rule.TheVariants as rules
use Rattle.cr_base.specs.declared.standing.Standing.{Standing}
use Rattle.cr_base.specs.Checks.{Check, NamedPaper, judged}
use Rattle.cr_base.specs.Drawn.{Drawn}
use Rattle.cr_base.specs.Lists.{at_some}
use Rattle.cr_base.specs.Papers.{PapersState, paper_numbers, is_withdrawn_at}
use Rattle.cr_base.specs.Sources.{standing_at}
use Rattle.cr_base.specs.Tables.{Tables}
use Rattle.cr_papers.specs.Named.{named_in}
use Rattle.cr_view.proofs.JudgeLaws.{made_of, judged-made}
use Rattle.cr_judge.specs.declared.named.Named.{Named}
use Rattle.cr_judge.specs.Named.{there_in, named_at, asked_of}

no-rule : {A : Type 0} (x : A) (rule : Rule) → ◌≡◌ {A = Result A Rule} (Ok x) (Err rule) → ⊥
no-rule x rule e = cc (e)

-- ---- what is told of none

-- what is asked of a paper that is there, and so of none, where it isn't, is what the rules ask of the one told, if
-- the first of them is that it isn't there
pub there-judged : {A : Type 0} (papers : PapersState) (asked : Option ℕ → Result A Rule)
    (due : Bool → Option ℕ → Result A Rule)
    → asked None ≡ Err rules.NoPaper → ((paper : Option ℕ) → due false paper ≡ Err rules.NoPaper)
    → ((p : ℕ) → asked (Some p) ≡ due true (Some p))
    → (paper : Option ℕ) → asked (there_in papers paper)
    ≡ due (at_some (λ p. list_any (λ q. q == p) (paper_numbers papers)) paper) paper
there-judged papers asked due none missing some None = none ∙ sym (missing None)
there-judged papers asked due none missing some (Some p) = by (list_any (λ q. q == p) (paper_numbers papers))
  where
    by : (b : Bool) → asked (cond b (Some p) None) ≡ due b (Some p)
    by true = some p
    by false = none ∙ sym (missing (Some p))

-- where that rule isn't broken, it is there
pub is-there : {A : Type 0} (checks : NamedPaper → List Check)
    → ((withdrawn : Bool) (x : A) → judged (checks (record { there = false; withdrawn = withdrawn })) x
    ≡ Err rules.NoPaper)
    → (paper : Option ℕ) (withdrawn : Bool) (x given : A)
    → ◌≡◌ {A = Result A Rule} (Ok given) (judged (checks (record { there = is_some paper; withdrawn = withdrawn })) x)
    → IsSome paper
is-there checks missing None withdrawn x given h = absurd (no-rule given rules.NoPaper (h ∙ missing withdrawn x))
is-there checks missing (Some p) withdrawn x given h = refl

-- the same where the table finds out whether it is there
pub is-told : {A : Type 0} (papers : PapersState) (checks : NamedPaper → List Check)
    → ((withdrawn : Bool) (x : A) → judged (checks (record { there = false; withdrawn = withdrawn })) x
    ≡ Err rules.NoPaper)
    → (paper : Option ℕ) (x given : A) → ◌≡◌ {A = Result A Rule} (Ok given) (judged (checks (named_in papers paper)) x)
    → IsSome paper
is-told papers checks missing None x given h = absurd (no-rule given rules.NoPaper (h ∙ missing false x))
is-told papers checks missing (Some p) x given h = refl

-- the paper of this number, where it is there
pub there-some : (papers seen : PapersState) → seen ≡ papers → (paper : Option ℕ) (number : ℕ) (has : Bool)
    → paper ≡ Some number
    → has ≡ list_any (λ p. p == number) (paper_numbers seen) → cond has (Some number) None ≡ there_in papers paper
there-some papers seen same paper number has is told =
    ap (λ (b : Bool). cond b (Some number) None)
    (told ∙ ap (λ (x : PapersState). list_any (λ p. p == number) (paper_numbers x)) same)
    ∙ sym (ap (there_in papers) is)

-- ---- what is drawn

module _ (t : Tables) (maker : ℕ) (paper : Option ℕ) (named : Named)
    (given : named ≡ named_at t maker (there_in t.papers paper)) where
  -- as the tables are asked of it
  abbrev told : NamedPaper
  told = record { there = is_some named.paper; withdrawn = named.withdrawn }

  -- where its table tells a number, of which a group is made
  pub numbered-drawn : {A : Type 0} (checks : Standing → NamedPaper → List Check)
      → ((s : Standing) (withdrawn : Bool) (x : Drawn)
      → judged (checks s (record { there = false; withdrawn = withdrawn })) x ≡ Err rules.NoPaper)
      → (made : Option ℕ → A → Drawn) (next : Option ℕ → A) (due : Option ℕ → Drawn)
      → ((p : ℕ) → made (Some p) (next (Some p)) ≡ due (Some p))
      → (r : Result A Rule) → r ≡ judged (checks named.by told) (next named.paper)
      → made_of (made named.paper) r ≡ judged (checks (standing_at t (Some maker) paper) (asked_of t paper)) (due paper)
  numbered-drawn checks missing made next due same r judges =
      judged-made (checks named.by told) (made named.paper) (next named.paper) r judges
      ∙ ap (λ (n : Named). judged (checks n.by (record { there = is_some n.paper; withdrawn = n.withdrawn }))
      (made n.paper (next n.paper))) given
      ∙ there-judged t.papers asked wanted (missing (standing_at t (Some maker) None) false (made None (next None)))
      (λ (at : Option ℕ). missing (standing_at t (Some maker) at) (at_some (is_withdrawn_at t.papers) at) (due at))
      (λ (p : ℕ).
      ap
      (λ (x : Drawn). judged (checks (standing_at t (Some maker) (Some p))
      (record { there = true; withdrawn = is_withdrawn_at t.papers p })) x) (same p))
      paper
    where
      asked : Option ℕ → Result Drawn Rule
      asked at =
          judged (checks (standing_at t (Some maker) at)
          (record { there = is_some at; withdrawn = at_some (is_withdrawn_at t.papers) at })) (made at (next at))

      wanted : Bool → Option ℕ → Result Drawn Rule
      wanted there at =
          judged (checks (standing_at t (Some maker) at)
          (record { there = there; withdrawn = at_some (is_withdrawn_at t.papers) at })) (due at)

  -- where it tells no more than whether a rule is broken
  pub paper-drawn : (checks : Standing → NamedPaper → List Check)
      → ((s : Standing) (withdrawn : Bool) (x : Drawn)
      → judged (checks s (record { there = false; withdrawn = withdrawn })) x ≡ Err rules.NoPaper)
      → (draw : ℕ → Drawn) (kept : Result (Unit {0}) Rule) → kept ≡ judged (checks named.by told) tt
      → made_of (λ (done : Unit {0}). draw (unwrap_or named.paper 0)) kept
      ≡ judged (checks (standing_at t (Some maker) paper) (asked_of t paper)) (draw (unwrap_or paper 0))
  paper-drawn checks missing draw kept judges =
      numbered-drawn checks missing (λ (at : Option ℕ) (done : Unit {0}). draw (unwrap_or at 0)) (λ (at : Option ℕ). tt)
      (λ (at : Option ℕ). draw (unwrap_or at 0)) (λ (p : ℕ). refl) kept judges

  -- and where it may be too late
  pub late-drawn : (late due : Bool) → late ≡ due → (checks : Standing → NamedPaper → Bool → List Check)
      → ((s : Standing) (withdrawn b : Bool) (x : Drawn)
      → judged (checks s (record { there = false; withdrawn = withdrawn }) b) x ≡ Err rules.NoPaper)
      → (draw : ℕ → Drawn) (kept : Result (Unit {0}) Rule) → kept ≡ judged (checks named.by told late) tt
      → made_of (λ (done : Unit {0}). draw (unwrap_or named.paper 0)) kept
      ≡ judged (checks (standing_at t (Some maker) paper) (asked_of t paper) due) (draw (unwrap_or paper 0))
  late-drawn late due when checks missing draw kept judges =
      paper-drawn (λ (s : Standing) (p : NamedPaper). checks s p late)
      (λ (s : Standing) (w : Bool) (x : Drawn). missing s w late x) draw kept judges
      ∙ ap (λ (b : Bool). judged (checks (standing_at t (Some maker) paper) (asked_of t paper) b)
      (draw (unwrap_or paper 0))) when
