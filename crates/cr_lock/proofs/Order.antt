-- SPDX-License-Identifier: Apache-2.0 OR MIT
-- Turns in order, whose groups have each entry from `start` on once, give the list from there on.
use Rattle.std.proofs.Common.{◌≡◌, inl, inr, ℕ, ◌+◌, ◌<◌, ◌≤◌, Bool, true, false, if◌then◌else◌, nat_lt, ◌||◌, ◌&&◌}
use Rattle.std.proofs.Common.{◌==◌, List, [], ◌∷◌, ◌++◌, length, drop, refl, ap, sym, ◌∙◌, arith, append_assoc}
use Rattle.std.proofs.Common.{length-append}
use Rattle.std.proofs.lemmas.Bool.Decides.{nat_tests}
use mathlib.Core.Logic.{dite}
use native.Mathlib.Decide.{ℕ_discrete, dec_le}
use Rattle.cr_lock.specs.declared.pass_state.Turn.{Turn}
use Rattle.cr_lock.specs.Counts.{within, Every}
use Rattle.cr_lock.specs.Turns.{groups_with, end_of, StandsIn, From, InOrder, groups_of, insert_turn, merged}
use Rattle.cr_lock.specs.Turns.{comes_after}
use Rattle.cr_lock.proofs.Prefixes.{prefix_length, every_snoc}
use Rattle.cr_lock.proofs.Sums.{every_insert, within_join, within_in, within_out, within_is}

late : (a b c d : ℕ) → (nat_lt b a || (a == b && nat_lt d c)) ≡ true → b ≤ a
late a b c d e = dite (dec_le b a) (λ le. le) (λ gt. absurd (grind (arith, nat_tests)))

soon : (a b c d : ℕ) → (nat_lt b a || (a == b && nat_lt d c)) ≡ false → a ≤ b
soon a b c d e = dite (dec_le a b) (λ le. le) (λ gt. absurd (grind (arith, nat_tests)))

drop_append : {E : Type 0} (xs ys : List E) → drop (length xs) (xs ++ ys) ≡ ys
drop_append [] ys = refl
drop_append (x ∷ xs) ys = drop_append xs ys

drop_whole : {E : Type 0} (xs : List E) → drop (length xs) xs ≡ []
drop_whole [] = refl
drop_whole (x ∷ xs) = drop_whole xs

no_group : {E : Type 0} (g : List E) → length g ≡ 0 → g ≡ []
no_group [] e = refl
no_group (x ∷ xs) e = absurd (omega arith)

module _ {T E : Type 0} where
  no_groups_with : (p k : ℕ) (ts : List (Turn T E)) → From p ts → k < p → groups_with k ts ≡ 0
  no_groups_with p k [] f lt = refl
  no_groups_with p k (t ∷ ts) f lt = let r : groups_with k ts ≡ 0 = no_groups_with p k ts f.1 lt in let a = f.0 in
      let o : within t.place (end_of t) k ≡ 0 = within_out t.place (end_of t) k (inr (omega arith)) in omega arith

  one_group : (seen : List E) (t : Turn T E) → StandsIn seen t → drop t.place seen ≡ t.group ++ drop (end_of t) seen
  one_group seen t s =
      let before = s.0 in let rest = s.2.0 in
      let whole : (before ++ t.group) ++ rest ≡ seen = s.2.1 in
      let a : drop (length before) (before ++ (t.group ++ rest)) ≡ t.group ++ rest =
      drop_append before (t.group ++ rest) in
      let b : drop (length (before ++ t.group)) ((before ++ t.group) ++ rest) ≡ rest =
      drop_append (before ++ t.group) rest in
      let len : length (before ++ t.group) ≡ end_of t =
      length-append before t.group ∙ ap (λ (n : ℕ). n + length t.group) s.1 in
      let left : drop t.place seen ≡ t.group ++ rest = ap (λ (z : ℕ × List E). drop z.0 z.1)
      (λ i. (sym s.1 i, (sym whole ∙ append_assoc before t.group rest) i)) ∙ a in
      let right : drop (end_of t) seen ≡ rest =
      ap (λ (z : ℕ × List E). drop z.0 z.1) (λ i. (sym len i, sym whole i)) ∙ b in
      left ∙ ap (λ r. t.group ++ r) (sym right)

  begins_here : (start n : ℕ) (t : Turn T E) (ts : List (Turn T E)) → From t.place ts
      → ((k : ℕ) → groups_with k (t ∷ ts) ≡ within start n k) → 0 < length t.group
      → t.place ≡ start
  begins_here start n t ts from counted some_group =
      let one : within t.place (end_of t) t.place ≡ 1 =
      within_in t.place (end_of t) t.place (omega arith) (omega arith) in
      let c = counted t.place in
      let inside = within_is start n t.place (omega arith) in
      dite (ℕ_discrete t.place start) (λ e. e) (λ ne.
      let before : start < t.place = (let a = inside.0 in grind arith) in
      let i = inside.1 in
      let d = counted start in
      let h : within start n start ≡ 1 = within_in start n start (omega arith) (omega arith) in
      let z : groups_with start ts ≡ 0 = no_groups_with t.place start ts from before in
      let o : within t.place (end_of t) start ≡ 0 =
      within_out t.place (end_of t) start (inr before) in absurd (omega arith))

  pub follows : (seen : List E) (ts : List (Turn T E)) (start n : ℕ) → InOrder ts → Every (StandsIn seen) ts
      → length seen ≡ n → start ≤ n
      → ((k : ℕ) → groups_with k ts ≡ within start n k) → drop start seen ≡ groups_of ts
  follows seen [] start n o e len le counted =
      let end : start ≡ length seen = dite (ℕ_discrete start n) (λ eq. eq ∙ sym len) (λ ne. let c = counted start in
      let one : within start n start ≡ 1 = within_in start n start (omega arith) (grind arith) in absurd
      (omega arith)) in
      ap (λ (k : ℕ). drop k seen) end ∙ drop_whole seen
  follows seen (t ∷ ts) start n o e len le counted = dite (ℕ_discrete (length t.group) 0)
      (λ empty. let g : t.group ≡ [] = no_group t.group empty in
      let r : drop start seen ≡ groups_of ts = follows seen ts start n o.1 e.1 len le
      (λ k. (let c = counted k in let z : within t.place (end_of t) k ≡ 0 =
      within_out t.place (end_of t) k (dite (dec_le t.place k) (λ a. inl (omega arith))
      (λ a. inr (omega arith))) in omega arith)) in
      r ∙ ap (λ z. z ++ groups_of ts) (sym g))
      (λ some_group. let at : t.place ≡ start = begins_here start n t ts o.0 counted (grind arith) in
      let s = e.0 in let p : length (s.0 ++ t.group) ≤ length seen = prefix_length (s.0 ++ t.group) seen s.2 in
      let q : length (s.0 ++ t.group) ≡ length s.0 + length t.group = length-append s.0 t.group in
      let w = s.1 in
      let end : end_of t ≤ n = omega arith in
      let r : drop (end_of t) seen ≡ groups_of ts =
      follows seen ts (end_of t) n o.1 e.1 len end (λ k. (let c = counted k in
      let j : within start (end_of t) k + within (end_of t) n k ≡ within start n k =
      within_join start (end_of t) n k (omega arith) end in
      let i : within t.place (end_of t) k ≡ within start (end_of t) k = ap (λ (z : ℕ). within z (end_of t) k)
      at in omega arith)) in
      ap (λ (z : ℕ). drop z seen) (sym at) ∙ (one_group seen t s ∙ ap (λ z. t.group ++ z) r))

  from_less : (p q : ℕ) (ts : List (Turn T E)) → p ≤ q → From q ts → From p ts
  from_less p q [] le f = tt
  from_less p q (t ∷ ts) le f = (let a = f.0 in omega arith, from_less p q ts le f.1)

  pick : (t u : Turn T E) (us : List (Turn T E)) → InOrder (u ∷ us) → InOrder (insert_turn t us) → (b : Bool)
      → (b ≡ true → u.place ≤ t.place)
      → (b ≡ false → t.place ≤ u.place) → InOrder (if b then u ∷ insert_turn t us else t ∷ u ∷ us)
  pick t u us o r true up down = (every_insert (λ z. u.place ≤ z.place) t us (up refl) o.0, r)
  pick t u us o r false up down = ((down refl, from_less t.place u.place us (down refl) o.0), o)

  insert_in_order : (t : Turn T E) (us : List (Turn T E)) → InOrder us → InOrder (insert_turn t us)
  insert_in_order t [] o = (tt, tt)
  insert_in_order t (u ∷ us) o =
      let up : comes_after t u ≡ true → u.place ≤ t.place = λ e. late t.place u.place (end_of t) (end_of u) e in
      let down : comes_after t u ≡ false → t.place ≤ u.place = λ e. soon t.place u.place (end_of t) (end_of u) e in
      pick t u us o (insert_in_order t us o.1) (comes_after t u) up down

  pub merged_in_order : (ts us : List (Turn T E)) → InOrder us → InOrder (merged ts us)
  merged_in_order [] us o = o
  merged_in_order (t ∷ ts) us o = insert_in_order t (merged ts us) (merged_in_order ts us o)

  pub snoc_in_order : (ts : List (Turn T E)) (t : Turn T E) → InOrder ts → Every (λ u. u.place ≤ t.place) ts
      → InOrder (ts ++ t ∷ [])
  snoc_in_order [] t o e = (tt, tt)
  snoc_in_order (u ∷ us) t o e = (every_snoc (λ z. u.place ≤ z.place) us t o.0 e.0, snoc_in_order us t o.1 e.1)

  pub places_below : (seen : List E) (ts : List (Turn T E)) → Every (StandsIn seen) ts
      → Every (λ u. u.place ≤ length seen) ts
  places_below seen [] e = tt
  places_below seen (t ∷ ts) e = (
    let s = e.0 in let p : length (s.0 ++ t.group) ≤ length seen = prefix_length (s.0 ++ t.group) seen s.2 in
        let q : length (s.0 ++ t.group) ≡ length s.0 + length t.group = length-append s.0 t.group in let w =
        s.1 in omega arith,
    places_below seen ts e.1,
  )
