-- SPDX-License-Identifier: Apache-2.0 OR MIT
-- At which place of some entries the last of a series stands.
use Rattle.std.proofs.Common.{◌≡◌, ◌∙◌, ℕ, ◌+◌, ◌<◌, ◌≤◌, Bool, true, false, cond, List, [], ◌∷◌, ◌++◌, length, take}
use Rattle.std.proofs.Common.{get_or, eqb, refl, sym, ap, subst, arith}
use Rattle.std.specs.Prelude.{not, ◌||◌, slice_index, Option, Some, None}
use Rattle.std.proofs.lemmas.Bool.{ne_eqb}
use Rattle.std.proofs.lemmas.List.{length-take-le}
use Rattle.cr_base.specs.declared.entry.Stamped.{Stamped}
use Rattle.cr_base.specs.Lists.{is_number}
use Rattle.cr_base.specs.History.{History}
use Rattle.cr_base.proofs.Small.{eqb-self}
use Rattle.cr_sights.specs.Series.{is_of, some_of, none_of, last_place, AreLast, is_last_at}
use Rattle.cr_sights.proofs.Around.{one_more}

-- ---- the last of a series

module _ (k : ℕ) where
  -- behind some entries come more
  last_place-append : (d n : ℕ) (xs ys : History)
      → last_place k d n (xs ++ ys) ≡ last_place k (last_place k d n xs) (n + length xs) ys
  last_place-append d n [] ys = ap (λ (m : ℕ). last_place k d m ys) (let e : n ≡ n + 0 = omega arith in e)
  last_place-append d n (e ∷ xs) ys =
      last_place-append (cond (is_of k e.entry) n d) (n + 1) xs ys
      ∙ ap (λ (m : ℕ). last_place k (last_place k (cond (is_of k e.entry) n d) (n + 1) xs) m ys)
      (let s : n + 1 + length xs ≡ n + length (e ∷ xs) = omega arith in s)

  -- one more entry is the last where it is of the series
  last_place-push : (H : History) (e : Stamped)
      → last_place k 0 1 (H ++ e ∷ []) ≡ cond (is_of k e.entry) (length H + 1) (last_place k 0 1 H)
  last_place-push H e =
      last_place-append 0 1 H (e ∷ [])
      ∙ ap (λ (m : ℕ). last_place k (last_place k 0 1 H) m (e ∷ []))
      (let z : 1 + length H ≡ length H + 1 = omega arith in z)

  kept-step : (d n : ℕ) (H : History) (b : Bool) → (some_of k H ≡ false → last_place k d (n + 1) H ≡ d)
      → b || some_of k H ≡ false
      → last_place k (cond b n d) (n + 1) H ≡ d
  kept-step d n H true rest none = cc
  kept-step d n H false rest none = rest none

  -- entries of other series leave the place
  kept : (d n : ℕ) (H : History) → some_of k H ≡ false → last_place k d n H ≡ d
  kept d n [] none = refl
  kept d n (e ∷ H) none = kept-step d n H (is_of k e.entry) (kept d (n + 1) H) none

  module _ (n : ℕ) (H : History) (further : (d : ℕ) → some_of k H ≡ true → n + 1 ≤ last_place k d (n + 1) H) where
    from_here : (b : Bool) → some_of k H ≡ b → n ≤ last_place k n (n + 1) H
    from_here false none = let h = kept n (n + 1) H none in omega (arith, h)
    from_here true some = let h = further n some in omega (arith, h)

    moved-step : (d : ℕ) (b : Bool) → b || some_of k H ≡ true → n ≤ last_place k (cond b n d) (n + 1) H
    moved-step d true some = from_here (some_of k H) refl
    moved-step d false some = let h = further d some in omega (arith, h)

  -- entries of the series move it on
  moved : (d n : ℕ) (H : History) → some_of k H ≡ true → n ≤ last_place k d n H
  moved d n [] some = cc
  moved d n (e ∷ H) some = moved-step n H (λ d' s. moved d' (n + 1) H s) d (is_of k e.entry) some

  -- a place that stands before the entries is the last one still where none of them is of the series
  still-last : (d n : ℕ) (H : History) → d < n → eqb (last_place k d n H) d ≡ not (some_of k H)
  still-last d n H below = by (some_of k H) refl
    where
      by : (b : Bool) → some_of k H ≡ b → eqb (last_place k d n H) d ≡ not (some_of k H)
      by false none = ap (λ (m : ℕ). eqb m d) (kept d n H none) ∙ eqb-self d ∙ sym (ap not none)
      by true some = ne_eqb (last_place k d n H) d (let h = moved d n H some in λ e. omega (arith, e, h))
          ∙ sym (ap not some)

  -- the place of an entry of the series is the last one where none behind it is
  last-here : (before : History) (e : Stamped) (after : History) → is_of k e.entry ≡ true
      → eqb (last_place k 0 1 (before ++ e ∷ after)) (length before + 1) ≡ not (some_of k after)
  last-here before e after of =
      ap (λ (m : ℕ). eqb m n)
      (last_place-append 0 1 before (e ∷ after)
      ∙ ap (λ (m : ℕ). last_place k (last_place k 0 1 before) m (e ∷ after))
      (let z : 1 + length before ≡ n = omega arith in z)
      ∙ ap (λ b. last_place k (cond b n (last_place k 0 1 before)) (n + 1) after) of)
      ∙ still-last n (n + 1) after (omega arith)
    where
      n : ℕ
      n = length before + 1

-- ---- places that are noted

-- of no entries
pub none-noted : AreLast [] []
none-noted k = refl

-- by the places of a series, none of these entries is of it; so where there is no series
pub none-passed : (places : List ℕ) (H : History) (series : Option ℕ) → AreLast places H
    → none_of series H ≡ is_last_at places series 0
none-passed places H None last = refl
none-passed places H (Some k) last = sym (ap (λ (n : ℕ). eqb n 0) (last k) ∙ still-last k 0 1 H (omega arith))

-- none behind an entry is of its series
pub none-behind : (places : List ℕ) (before : History) (e : Stamped) (after : History) (series : Option ℕ)
    → ((k : ℕ) → is_of k e.entry ≡ is_number series k)
    → AreLast places (before ++ e ∷ after) → none_of series after ≡ is_last_at places series (length before + 1)
none-behind places before e after None of last = refl
none-behind places before e after (Some k) of last =
    sym (ap (λ (n : ℕ). eqb n (length before + 1)) (last k) ∙ last-here k before e after (of k ∙ eqb-self k))

-- one more entry is noted
pub noted : (old new : List ℕ) (H : History) (e : Stamped) (series : Option ℕ)
    → ((k : ℕ) → is_of k e.entry ≡ is_number series k)
    → ((k : ℕ) → slice_index new k ≡ cond (is_number series k) (length H + 1) (slice_index old k)) → AreLast old H
    → AreLast new (H ++ e ∷ [])
noted old new H e series of now was k =
    now k
    ∙ ap (cond (is_number series k) (length H + 1)) (was k)
    ∙ ap (λ b. cond b (length H + 1) (last_place k 0 1 H)) (sym (of k))
    ∙ sym (last_place-push k H e)

-- ---- the entry at a place of a history

module _ (log : History) (at : ℕ) (d : Stamped) (within : at < length log) where
  at-length : length (take at log) ≡ at
  at-length = length-take-le at log (omega (arith, within))

  -- it is noted behind those before it
  pub noted-here : (old new : List ℕ) (series : Option ℕ)
      → ((k : ℕ) → is_of k (get_or log at d).entry ≡ is_number series k)
      → ((k : ℕ) → slice_index new k ≡ cond (is_number series k) (at + 1) (slice_index old k))
      → AreLast old (take at log) → AreLast new (take (at + 1) log)
  noted-here old new series of now was =
      subst (AreLast new) (sym (one_more log at d within))
      (noted old new (take at log) (get_or log at d) series of
      (λ k. now k ∙ ap (λ (n : ℕ). cond (is_number series k) (n + 1) (slice_index old k)) (sym at-length)) was)
