-- SPDX-License-Identifier: Apache-2.0 OR MIT
-- The flat list out of drawers, where one paper has other values than it had.
use Rattle.std.proofs.Common.{ℕ, Bool, ◌≡◌, ◌<◌, ◌+◌, List, [], ◌∷◌, ◌++◌, length, set, sym, ap, ◌∙◌}
use Rattle.std.proofs.Common.{arith, zero, suc}
use Rattle.std.specs.Prelude.{nat_lt, map, filter}
use Rattle.std.proofs.lemmas.List.{append_assoc}
use Rattle.std.proofs.lemmas.List.Elements.{filter-append}
use Rattle.std.proofs.lemmas.Bool.{lt-ltb, le-ltb}
use Rattle.cr_base.specs.declared.filed.Filed.{Filed}
use Rattle.cr_base.specs.Filed.{filed}
use Rattle.cr_kept.specs.Seen.{SeenDrawer}
use Rattle.cr_kept.specs.Drawers.{files_from, with_values}
use Rattle.cr_kept.proofs.DrawerLaws.{block-all, block-none, all-from, none-from}

module _ {V : Type 0} (p : ℕ) (vs : List V) where
  abbrev is_low : Filed V → Bool
  is_low x = nat_lt x.paper p

  abbrev is_high : Filed V → Bool
  is_high x = nat_lt p x.paper

  abbrev own : List (Filed V)
  own = map (filed p) vs

  -- the drawer of the paper has these values
  pub with-drawer : (n i : ℕ) (ds : List (SeenDrawer V)) (e : SeenDrawer V) → p ≡ n + i → i < length ds → e.values ≡ vs
      → files_from n (set ds i e) ≡ with_values p vs (files_from n ds)
  with-drawer n i [] e is lt put = absurd (omega (arith, lt))
  with-drawer n zero (d ∷ ds) e is lt put =
      let here : n ≡ p = omega (arith, is) in
      let rest : List (Filed V) = files_from (n + 1) ds in
      ap (λ (ys : List V). map (filed n) ys ++ rest) put
      ∙ ap (λ (m : ℕ). map (filed m) vs ++ rest) here
      ∙ sym
      (ap (λ (ys : List (Filed V)). ys ++ own ++ filter is_high (map (filed n) d.values ++ rest))
      (none-from (λ m. nat_lt m p) n (d ∷ ds) (λ m le. le-ltb m p (omega (arith, here, le))))
      ∙ ap (λ (ys : List (Filed V)). own ++ ys)
      (filter-append is_high (map (filed n) d.values) rest
      ∙ ap (λ (ys : List (Filed V)). ys ++ filter is_high rest)
      (block-none (λ m. nat_lt p m) n d.values (le-ltb p n (omega (arith, here))))
      ∙ all-from (λ m. nat_lt p m) (n + 1) ds (λ m le. lt-ltb p m (omega (arith, here, le)))))
  with-drawer n (suc i) (d ∷ ds) e is lt put =
      let block : List (Filed V) = map (filed n) d.values in
      let rest : List (Filed V) = files_from (n + 1) ds in
      let below : n < p = omega (arith, is) in
      ap (λ (ys : List (Filed V)). block ++ ys) (with-drawer (n + 1) i ds e (omega (arith, is)) (omega (arith, lt)) put)
      ∙ sym
      (ap (λ (ys : List (Filed V)). ys ++ own ++ filter is_high (block ++ rest))
      (filter-append is_low block rest ∙ ap (λ (ys : List (Filed V)). ys ++ filter is_low rest)
      (block-all (λ m. nat_lt m p) n d.values (lt-ltb n p below)))
      ∙ ap (λ (ys : List (Filed V)). block ++ filter is_low rest ++ own ++ ys)
      (filter-append is_high block rest ∙ ap (λ (ys : List (Filed V)). ys ++ filter is_high rest)
      (block-none (λ m. nat_lt p m) n d.values (le-ltb p n (omega (arith, below)))))
      ∙ ap (λ (ys : List (Filed V)). ys ++ filter is_high rest) (append_assoc block (filter is_low rest) own)
      ∙ append_assoc block (filter is_low rest ++ own) (filter is_high rest))
