-- SPDX-License-Identifier: Apache-2.0 OR MIT
-- The papers where one of them is changed.
use Rattle.std.proofs.Common.{ℕ, Bool, true, false, cond, ◌≡◌, ◌≤◌, ◌-◌, List, length, eqb, refl, ap, ◌∙◌, arith, zero}
use Rattle.std.proofs.Common.{suc, Option, Some, None}
use Rattle.std.specs.Prelude.{slice_set}
use Rattle.std.specs.List.{slice_get}
use Rattle.std.specs.Option.{option_map, option_map_or}
use Rattle.std.proofs.lemmas.Bool.{eqb-true}
use Rattle.std.proofs.lemmas.List.{length-set}
use Rattle.cr_base.specs.declared.paper.Paper.{Paper}
use Rattle.cr_base.specs.Lists.{numbered, numbers_from}
use Rattle.cr_base.specs.Papers.{with_paper}
use Rattle.cr_base.proofs.ChangeLaws.{changed_at, where_changed, numbered-changed_at, numbers_from-changed_at}
use Rattle.cr_base.proofs.ListLaws.{numbered-some}

-- there are as many as before
pub length-with_paper : (p : ℕ) (change : Paper → Paper) (papers : List Paper)
    → length (with_paper p change papers) ≡ length papers
length-with_paper p change papers = by (numbered papers p)
  where
    by : (found : Option Paper)
        → length (option_map_or (λ (paper : Paper). slice_set papers (p - 1) (change paper)) found papers)
        ≡ length papers
    by None = refl
    by (Some paper) = length-set papers (p - 1) (change paper)

with_paper-suc : (k : ℕ) (change : Paper → Paper) (papers : List Paper)
    → with_paper (suc k) change papers ≡ changed_at change papers (suc k - 1)
with_paper-suc k change papers =
    let e : k ≡ suc k - 1 = omega arith in
    ap (λ (at : ℕ). option_map_or (λ (x : Paper). slice_set papers (suc k - 1) (change x)) (slice_get papers at) papers)
    e

-- the numbers are the same
pub numbers_from-with_paper : (n p : ℕ) (change : Paper → Paper) (papers : List Paper)
    → numbers_from n (with_paper p change papers) ≡ numbers_from n papers
numbers_from-with_paper n zero change papers = refl
numbers_from-with_paper n (suc k) change papers =
    ap (numbers_from n) (with_paper-suc k change papers) ∙ numbers_from-changed_at change n papers (suc k - 1)

-- one paper is changed, and every other is as it was
pub numbered-with_paper : (p q : ℕ) (change : Paper → Paper) (papers : List Paper) → 1 ≤ p
    → numbered (with_paper p change papers) q ≡ where_changed change (eqb p q) (numbered papers q)
numbered-with_paper zero q change papers low = absurd (omega arith)
numbered-with_paper (suc k) q change papers low = ap (λ (ys : List Paper). numbered ys q)
    (with_paper-suc k change papers) ∙ numbered-changed_at change papers (suc k) q low

-- ---- what is read of a paper

module _ {X : Type 0} (read : Option Paper → X) (change : Paper → Paper) (papers : List Paper) where
  -- what the change makes alike in every paper is read of the one changed, where it is there
  pub read-changed : (paper p : ℕ) (x : X) → 1 ≤ paper → paper ≤ length papers
      → ((y : Paper) → read (Some (change y)) ≡ x)
      → read (numbered (with_paper paper change papers) p) ≡ cond (eqb paper p) x (read (numbered papers p))
  read-changed paper p x low high made = ap read (numbered-with_paper paper p change papers low) ∙ by (eqb paper p) refl
    where
      by : (b : Bool) → eqb paper p ≡ b → read (where_changed change b (numbered papers p))
          ≡ cond b x (read (numbered papers p))
      by true same =
          let e : paper ≡ p = eqb-true paper p same in
          let there = numbered-some papers p (omega (arith, e, low)) (omega (arith, e, high)) in
          ap (λ (o : Option Paper). read (option_map change o)) there.1 ∙ made there.0
      by false same = refl

  -- what the change leaves in every paper is read as before
  pub read-kept : (paper p : ℕ) → 1 ≤ paper → ((y : Paper) → read (Some (change y)) ≡ read (Some y))
      → read (numbered (with_paper paper change papers) p) ≡ read (numbered papers p)
  read-kept paper p low kept =
      ap read (numbered-with_paper paper p change papers low) ∙ by (eqb paper p) (numbered papers p)
    where
      by : (b : Bool) (o : Option Paper) → read (where_changed change b o) ≡ read o
      by true None = refl
      by true (Some y) = kept y
      by false o = refl
