-- SPDX-License-Identifier: Apache-2.0 OR MIT
-- The list of seats where one is left, by its index among those of its paper.
use Rattle.std.proofs.Common.{ℕ, Bool, true, false, cond, ◌≡◌, ◌<◌, ◌+◌, List, [], ◌∷◌, length, get_or, eqb, refl, sym}
use Rattle.std.proofs.Common.{ap, ◌∙◌, arith, zero, suc, ◌&&◌}
use Rattle.std.specs.Prelude.{map}
use Rattle.std.specs.List.{list_all}
use Rattle.std.proofs.lemmas.Bool.{and_parts, eqb-true, eq-eqb}
use Rattle.std.proofs.lemmas.Bool.Decides.{nat_tests}
use Rattle.cr_base.specs.declared.filed.Filed.{Filed}
use Rattle.cr_base.specs.declared.pairs.Order.TheVariants.{ByPaper}
use Rattle.cr_base.specs.declared.pairs.Tie.{Tie}
use Rattle.cr_base.specs.declared.seat.Seat.{Seat}
use Rattle.cr_base.specs.Filed.{filed}
use Rattle.cr_base.specs.Lists.{numbers_from}
use Rattle.cr_base.specs.Pairs.{ties_of}
use Rattle.cr_base.specs.Seats.{SeatsState, vacated}
use Rattle.cr_base.proofs.SeatLaws.{left_at}
use Rattle.cr_kept.specs.Drawers.{with_changed}
use Rattle.cr_kept.specs.Own.{values_in, AreOwn}

-- the paper of a seat
abbrev pub paper_of : Tie Seat → ℕ
paper_of t = t.pair.paper

module _ (paper ordinal : ℕ) where
  abbrev left : Tie Seat → Tie Seat
  left = left_at paper ordinal

  abbrev ordinals : SeatsState → List ℕ
  ordinals ts = map (λ (t : Tie Seat). t.value.ordinal) ts

  -- the seats of the paper are numbered from n
  abbrev AreFrom : ℕ → SeatsState → Type 0
  AreFrom n ts = ordinals (ties_of ByPaper paper ts) ≡ numbers_from n (ties_of ByPaper paper ts)

  -- a seat of another paper, or of another ordinal, stays
  other-paper : (t : Tie Seat) → eqb paper t.pair.paper ≡ false → left t ≡ t
  other-paper t other = ap (λ b. cond (b && eqb ordinal t.value.ordinal) (vacated t) t) other

  other-ordinal : (t : Tie Seat) → eqb ordinal t.value.ordinal ≡ false → left t ≡ t
  other-ordinal t other = ap (λ b. cond (eqb paper t.pair.paper && b) (vacated t) t) other ∙ by (eqb paper t.pair.paper)
    where
      by : (b : Bool) → cond (b && false) (vacated t) t ≡ t
      by true = refl
      by false = refl

  -- where all of the paper's have higher ordinals, all stay
  all-stay : (n : ℕ) (ts : SeatsState) → ordinal < n → AreFrom n ts → map left ts ≡ ts
  all-stay n [] h from = refl
  all-stay n (t ∷ ts) h from =
      by (eqb paper t.pair.paper) refl from (all-stay (n + 1) ts (omega arith)) (all-stay n ts h)
    where
      unlike : (o m n : ℕ) → m ≡ n → o < n → eqb o m ≡ false
      unlike o m n e h = grind (arith, nat_tests, e, h)

      of : SeatsState
      of = ties_of ByPaper paper ts

      by : (b : Bool) → eqb paper t.pair.paper ≡ b → ordinals (cond b (t ∷ of) of) ≡ numbers_from n (cond b (t ∷ of) of)
          → (AreFrom (n + 1) ts → map left ts ≡ ts) → (AreFrom n ts → map left ts ≡ ts) → left t ∷ map left ts ≡ t ∷ ts
      by true is from next same =
          let first : t.value.ordinal ≡ n = cc in
          let rest : AreFrom (n + 1) ts = cc in
          ap (λ (us : SeatsState). left t ∷ us) (next rest)
          ∙ ap (λ (s : Tie Seat). s ∷ ts) (other-ordinal t (unlike ordinal t.value.ordinal n first h))
      by false is from next same =
          ap (λ (us : SeatsState). left t ∷ us) (same from) ∙ ap (λ (s : Tie Seat). s ∷ ts) (other-paper t is)

  -- so where the one at an index is left, of seats numbered from n, it is the one with the ordinal so far behind n
  pub changed-left : (n k : ℕ) (s d : Tie Seat) (xs : List (Filed (Tie Seat))) → AreOwn paper_of xs
      → AreFrom n (values_in xs)
      → ordinal ≡ n + k → k < length (ties_of ByPaper paper (values_in xs))
      → s ≡ vacated (get_or (ties_of ByPaper paper (values_in xs)) k d)
      → values_in (with_changed paper k s xs) ≡ map left (values_in xs)
  changed-left n k s d [] own from is lt at = absurd (omega (arith, lt))
  changed-left n zero s d (x ∷ xs) own from is lt at =
      ap (λ (b : Bool). values_in (cond b (filed paper s ∷ xs) (x ∷ with_changed paper 0 s xs))) here
      ∙ by (eqb paper t.pair.paper) refl from lt at (changed-left n 0 s d xs parts.1)
    where
      t : Tie Seat
      t = x.value

      of : SeatsState
      of = ties_of ByPaper paper (values_in xs)

      parts : (eqb x.paper t.pair.paper ≡ true) × AreOwn paper_of xs
      parts = and_parts (eqb x.paper t.pair.paper)
          (list_all (λ (y : Filed (Tie Seat)). eqb y.paper (paper_of y.value)) xs) own

      here : eqb paper x.paper ≡ eqb paper t.pair.paper
      here = ap (eqb paper) (eqb-true x.paper t.pair.paper parts.0)

      by : (b : Bool) → eqb paper t.pair.paper ≡ b → ordinals (cond b (t ∷ of) of) ≡ numbers_from n (cond b (t ∷ of) of)
          → 0 < length (cond b (t ∷ of) of) → s ≡ vacated (get_or (cond b (t ∷ of) of) 0 d)
          → (AreFrom n (values_in xs) → ordinal ≡ n + 0 → 0 < length of → s ≡ vacated (get_or of 0 d)
          → values_in (with_changed paper 0 s xs) ≡ map left (values_in xs))
          → values_in (cond b (filed paper s ∷ xs) (x ∷ with_changed paper 0 s xs)) ≡ left t ∷ map left (values_in xs)
      by true mine from lt at behind =
          let first : t.value.ordinal ≡ n = cc in
          let rest : AreFrom (n + 1) (values_in xs) = cc in
          let gone : left t ≡ vacated t = ap (λ b. cond (b && eqb ordinal t.value.ordinal) (vacated t) t) mine
          ∙ ap (λ b. cond b (vacated t) t) (eq-eqb ordinal t.value.ordinal (omega (arith, first, is))) in
          ap (λ (u : Tie Seat). u ∷ values_in xs) (at ∙ sym gone)
          ∙ ap (λ (us : SeatsState). left t ∷ us) (sym (all-stay (n + 1) (values_in xs) (omega (arith, is)) rest))
      by false other from lt at behind =
          ap (λ (us : SeatsState). t ∷ us) (behind from is lt at)
          ∙ ap (λ (u : Tie Seat). u ∷ map left (values_in xs)) (sym (other-paper t other))
  changed-left n (suc k) s d (x ∷ xs) own from is lt at =
      ap (λ (b : Bool). t ∷ values_in (cond b (with_changed paper k s xs) (with_changed paper (suc k) s xs))) here
      ∙ by (eqb paper t.pair.paper) refl from lt at (changed-left (n + 1) k s d xs parts.1)
      (changed-left n (suc k) s d xs parts.1)
    where
      t : Tie Seat
      t = x.value

      of : SeatsState
      of = ties_of ByPaper paper (values_in xs)

      parts : (eqb x.paper t.pair.paper ≡ true) × AreOwn paper_of xs
      parts = and_parts (eqb x.paper t.pair.paper)
          (list_all (λ (y : Filed (Tie Seat)). eqb y.paper (paper_of y.value)) xs) own

      here : eqb paper x.paper ≡ eqb paper t.pair.paper
      here = ap (eqb paper) (eqb-true x.paper t.pair.paper parts.0)

      unlike : (o m n k : ℕ) → m ≡ n → o ≡ n + suc k → eqb o m ≡ false
      unlike o m n k e h = grind (arith, nat_tests, e, h)

      -- what is so of the seats behind the first, numbered from m on
      Behind : ℕ → ℕ → Type 0
      Behind m j = AreFrom m (values_in xs) → ordinal ≡ m + j → j < length of → s ≡ vacated (get_or of j d)
          → values_in (with_changed paper j s xs) ≡ map left (values_in xs)

      by : (b : Bool) → eqb paper t.pair.paper ≡ b → ordinals (cond b (t ∷ of) of) ≡ numbers_from n (cond b (t ∷ of) of)
          → suc k < length (cond b (t ∷ of) of) → s ≡ vacated (get_or (cond b (t ∷ of) of) (suc k) d) → Behind (n + 1) k
          → Behind n (suc k)
          → t ∷ values_in (cond b (with_changed paper k s xs) (with_changed paper (suc k) s xs)) ≡ left t
          ∷ map left (values_in xs)
      by true mine from lt at next same =
          let first : t.value.ordinal ≡ n = cc in
          let rest : AreFrom (n + 1) (values_in xs) = cc in
          ap (λ (us : SeatsState). t ∷ us) (next rest (omega (arith, is)) (omega (arith, lt)) at)
          ∙ ap (λ (u : Tie Seat). u ∷ map left (values_in xs))
          (sym (other-ordinal t (unlike ordinal t.value.ordinal n k first is)))
      by false other from lt at next same =
          ap (λ (us : SeatsState). t ∷ us) (same from is lt at)
          ∙ ap (λ (u : Tie Seat). u ∷ map left (values_in xs)) (sym (other-paper t other))
