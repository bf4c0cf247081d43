-- SPDX-License-Identifier: Apache-2.0 OR MIT
-- Where one pass took all the turns of its lock, no other turn came between two of them: so its turns are Replay.
use Rattle.std.proofs.Common.{◌≡◌, ◌∙◌, ◌≤◌, ◌<◌, ◌^◌, ◌-◌, ◌⊎◌, inl, inr, ℕ, zero, suc, ◌+◌, List, [], ◌∷◌, ◌++◌}
use Rattle.std.proofs.Common.{length, drop, Bool, true, false, cond, refl, Option, Some, IfSome, sym, ap, subst}
use Rattle.std.proofs.Common.{arith, append-nil, append_assoc, length-append}
use mathlib.Core.List.{IsPrefix}
use Rattle.cr_base.specs.declared.entry.Stamped.{Stamped}
use Rattle.cr_base.specs.History.{History}
use Rattle.cr_lock.specs.declared.pass_state.Turn.{Turn}
use Rattle.cr_lock.specs.Closing.{Closes}
use Rattle.cr_lock.specs.Counts.{last_count}
use Rattle.cr_lock.specs.Passes.{IsAsLeft}
use Rattle.cr_lock.specs.Turns.{turn_at, groups_of, rises, marks}
use Rattle.cr_lock.proofs.Prefixes.{prefix_self, prefix_length, prefix_drop, prefix_whole}
use Rattle.cr_session.specs.Replay.{JudgedWish, Ledger, Turned, CountsLoss, history_after, Replays, lost_count}
use Rattle.cr_book.specs.Seen.{SeenBook}
use Rattle.cr_session.specs.Tries.{Tries, Nothing, TriesWish, TriesAlong}
use Rattle.cr_session.specs.Passing.{BookTurn, KnownPass, TakesTurn, TakesTurns}
use Rattle.cr_session.specs.Turning.{TurnsInVain}
use Rattle.cr_wire.specs.declared.what.Wish.{Wish}
use Rattle.cr_session.proofs.Passes.{after-begins, marks-snoc, marked_losses}

-- ---- no entry came between

-- how many entries the groups of the pass have
abbrev grown : {K : Type 0} → KnownPass K → ℕ
grown p = length (groups_of p.mine)

groups-snoc : {T : Type 0} (ts : List (Turn T Stamped)) (t : Turn T Stamped)
    → groups_of (ts ++ t ∷ []) ≡ groups_of ts ++ t.group
groups-snoc [] t = append-nil t.group
groups-snoc (u ∷ us) t = ap (λ g. u.group ++ g) (groups-snoc us t) ∙ sym (append_assoc u.group (groups_of us) t.group)

module _ {K : Type 0} (tries : Tries K) where
  -- over one turn: the groups grow by what it adds, behind the history that it saw
  grows-turn : (j : JudgedWish) (p q : KnownPass K) → TakesTurn tries j p q
      → (grown q + length j.seen ≡ grown p + length q.seen) × (length j.seen ≤ length q.seen)
  grows-turn j p q t =
      let group : History = drop (length j.seen) (history_after j) in
      let a : grown q ≡ length (groups_of p.mine ++ group) =
      ap (λ (x : KnownPass K). grown x) t.turn
      ∙ ap length (groups-snoc p.mine (turn_at (length j.seen) group t.faults t.faults' t.found t.leaves)) in
      let b : length (groups_of p.mine ++ group) ≡ grown p + length group = length-append (groups_of p.mine) group in
      let c : length (j.seen ++ group) ≡ length (history_after j) =
      ap length (prefix_drop j.seen (history_after j) (after-begins j)) in
      let d : length (j.seen ++ group) ≡ length j.seen + length group = length-append j.seen group in
      let e : length q.seen ≡ length (history_after j) = ap (λ (x : KnownPass K). length x.seen) t.turn in
      (omega (arith, a, b, c, d, e), omega (arith, c, d, e))

  -- what was seen grows by the groups at least
  grows-all : (js : List JudgedWish) (p q : KnownPass K) → TakesTurns tries js p q
      → length p.seen + grown q ≤ length q.seen + grown p
  grows-all [] p q r =
      let a = ap (λ (x : KnownPass K). length x.seen) r in
      let b = ap (λ (x : KnownPass K). grown x) r in
      omega (arith, a, b)
  grows-all (j ∷ js) p q r =
      let one = grows-turn j p r.0 r.1 in
      let saw = prefix_length p.seen j.seen r.1.saw in
      let rest = grows-all js r.0 q r.2 in
      let sum = one.0 in
      omega (arith, sum, saw, rest)

-- ---- the count of faults

-- what a count did over turns of which so many were lost
record Counts (lost f g : ℕ) : Type 0 where
  later : f ≤ g
  still : lost ≡ 0 → g ≡ f
  many : (f + lost ≤ g) ⊎ (last_count ≤ g)

-- the same over the first of them, and over the others
record CountsBoth (lost : Bool) (others f g : ℕ) : Type 0 where
  between : ℕ
  first : CountsLoss lost f between
  rest : Counts others between g

last-not_below : (f g : ℕ) → last_count ≤ g → g < 2 ^ 64 - 1 → f < g
last-not_below f g le below = absurd (grind arith)

counts-lost : (n f g : ℕ) → Counts (1 + n) f g → CountsBoth true n f g
counts-lost zero f g c = record {
  between = g;
  first = (c.later, λ below. by c.many below);
  rest = record { later = omega arith; still = λ _. refl; many = inl (omega arith) };
}
  where
    by : (f + (1 + 0) ≤ g) ⊎ (last_count ≤ g) → g < 2 ^ 64 - 1 → f < g
    by (inl le) below = omega (arith, le)
    by (inr le) below = last-not_below f g le below
counts-lost (suc n) f g c = by c.many
  where
    by : (f + (1 + suc n) ≤ g) ⊎ (last_count ≤ g) → CountsBoth true (suc n) f g
    by (inl le) = record {
      between = f + 1;
      first = (omega arith, λ below. omega arith);
      rest =
          record { later = omega (arith, le); still = λ e. absurd (omega (arith, e)); many = inl (omega (arith, le)) };
    }
    by (inr le) = record {
      between = g;
      first = (c.later, λ below. last-not_below f g le below);
      rest = record { later = omega arith; still = λ _. refl; many = inr le };
    }

counts-first : (lost : Bool) (n f g : ℕ) → Counts (cond lost 1 0 + n) f g → CountsBoth lost n f g
counts-first true n f g c = counts-lost n f g c
counts-first false n f g c = record {
  between = f;
  first = refl;
  rest = record { later = c.later; still = λ e. c.still (omega (arith, e)); many = by c.many };
}
  where
    by : (f + (0 + n) ≤ g) ⊎ (last_count ≤ g) → (f + n ≤ g) ⊎ (last_count ≤ g)
    by (inl le) = inl (omega (arith, le))
    by (inr le) = inr le

-- where nothing is lost, nothing rises
rises-turn : (lost : Bool) (f g n : ℕ) → CountsLoss lost f g → cond lost 1 0 + n ≡ 0 → (g - f ≡ 0) × (n ≡ 0)
rises-turn true f g n c e = absurd (omega (arith, e))
rises-turn false f g n c e = (omega (arith, c), omega (arith, e))

pub rises-snoc : {T : Type 0} (ts : List (Turn T Stamped)) (t : Turn T Stamped)
    → rises (ts ++ t ∷ []) ≡ rises ts + t.rise
rises-snoc [] t = omega arith
rises-snoc (u ∷ us) t = let i = rises-snoc us t in omega (arith, i)

module _ {K : Type 0} (tries : Tries K) where
  none-rises : (js : List JudgedWish) (p q : KnownPass K) → TakesTurns tries js p q → lost_count js ≡ 0
      → rises q.mine ≡ rises p.mine
  none-rises [] p q r none = ap (λ (x : KnownPass K). rises x.mine) r
  none-rises (j ∷ js) p q r none =
      let t = r.1 in
      let one = rises-turn j.lost t.faults t.faults' (lost_count js) t.counted none in
      let here : rises r.0.mine ≡ rises p.mine + (t.faults' - t.faults) =
      ap (λ (x : KnownPass K). rises x.mine) t.turn
      ∙ rises-snoc p.mine
      (turn_at (length j.seen) (drop (length j.seen) (history_after j)) t.faults t.faults' t.found t.leaves) in
      let rest = none-rises js r.0 q r.2 one.1 in
      let zero_rise = one.0 in
      omega (arith, here, rest, zero_rise)

-- ---- Replay

module _ {K : Type 0} where
  abbrev ledger : KnownPass K → ℕ → Ledger
  ledger p faults = record { history = p.seen; faults = faults }

  same-ledger : (p q : KnownPass K) (f g : ℕ) → q ≡ p → g ≡ f → ledger q g ≡ ledger p f
  same-ledger p q f g a b = ap (λ (x : KnownPass K). ledger x g) a ∙ ap (ledger p) b

module _ {K : Type 0} (tries : Tries K) where
  turned-alone : (j : JudgedWish) (p q : KnownPass K) (f g : ℕ) (t : TakesTurn tries j p q)
      → length j.seen ≤ length p.seen → CountsLoss j.lost f g
      → Turned j (ledger p f) (ledger q g)
  turned-alone j p q f g t none c = record {
    seen = sym (prefix_whole p.seen j.seen t.saw none);
    lost = t.lost;
    history = ap (λ (x : KnownPass K). x.seen) t.turn;
    counted = c;
  }

  -- where what was seen grew by the groups alone
  replays-alone : (js : List JudgedWish) (p q : KnownPass K) (f g : ℕ) → TakesTurns tries js p q
      → length q.seen + grown p ≤ length p.seen + grown q
      → Counts (lost_count js) f g
      → Replays js (ledger p f) (ledger q g)
  replays-alone [] p q f g r alone c = same-ledger p q f g r (c.still refl)
  replays-alone (j ∷ js) p q f g r alone c =
      let one = grows-turn tries j p r.0 r.1 in
      let saw = prefix_length p.seen j.seen r.1.saw in
      let rest = grows-all tries js r.0 q r.2 in
      let sum = one.0 in
      let both = counts-first j.lost (lost_count js) f g c in (
        ledger r.0 both.between,
        turned-alone j p r.0 f both.between r.1 (omega (arith, alone, rest, sum)) both.first,
        replays-alone js r.0 q both.between g r.2 (omega (arith, alone, saw, sum)) both.rest,
      )

-- ---- the books that the turns found and left

module _ {K : Type 0} (tries : Tries K) where
  -- the value that was left, of a pass that has the whole share, is the one that is found
  found-left : (p : KnownPass K) (x found : SeenBook K) → p.share ≡ 64 → p.left ≡ Some x → IsAsLeft p found → found ≡ x
  found-left p x found share left is =
      subst (λ (o : Option (SeenBook K)). IfSome o (λ value. found ≡ value)) left (is share)

  -- each turn is over the book that the turn before left
  pub tries-alone : (js : List JudgedWish) (p q : KnownPass K) (x : SeenBook K) → p.share ≡ 64 → p.left ≡ Some x
      → TakesTurns tries js p q
      → (q.share ≡ 64) × (y : SeenBook K) × (q.left ≡ Some y) × TriesAlong tries js x.keeper y.keeper
  tries-alone [] p q x share left r =
      (ap (λ (k : KnownPass K). k.share) r ∙ share, x, ap (λ (k : KnownPass K). k.left) r ∙ left, refl)
  tries-alone (j ∷ js) p q x share left r =
      let t = r.1 in
      let rest = tries-alone js r.0 q t.leaves (ap (λ (k : KnownPass K). k.share) t.turn ∙ share)
      (ap (λ (k : KnownPass K). k.left) t.turn) r.2 in (
        rest.0,
        rest.1,
        rest.2,
        (
          t.leaves.keeper,
          subst (λ (b : SeenBook K). TriesWish tries j b.keeper t.leaves.keeper)
              (found-left p x t.found share left t.as_left) t.tried,
          rest.3,
        ),
      )

  -- and so is one in which memory ran out
  pub tries-vain : (w : Wish) (p q : KnownPass K) (x : SeenBook K) → p.share ≡ 64 → p.left ≡ Some x
      → (v : TurnsInVain tries w p q)
      → (y : SeenBook K) × (q.left ≡ Some y) × tries v.seen Nothing x.keeper y.keeper
  tries-vain w p q x share left v = (
    v.leaves,
    ap (λ (k : KnownPass K). k.left) v.turn,
    subst (λ (b : SeenBook K). tries v.seen Nothing b.keeper v.leaves.keeper)
        (found-left p x v.found share left v.as_left) v.tried,
  )

-- ---- a lock that is closed

-- behind the turns of the wishes the pass took none, or one that added nothing and let no count rise
pub record StaysBehind {K : Type 0} (q p : KnownPass K) : Type 0 where
  saw : IsPrefix q.seen p.seen
  group : grown p ≡ grown q
  rise : rises p.mine ≡ rises q.mine
  mark : marks q.mine ≤ marks p.mine

module _ {K : Type 0} where
  pub behind-none : (q p : KnownPass K) → p ≡ q → StaysBehind q p
  behind-none q p same = record {
    saw = subst (λ (x : KnownPass K). IsPrefix q.seen x.seen) (sym same) (prefix_self q.seen);
    group = ap (λ (x : KnownPass K). grown x) same;
    rise = ap (λ (x : KnownPass K). rises x.mine) same;
    mark = (let e = ap (λ (x : KnownPass K). marks x.mine) same in omega (arith, e));
  }

drop-all : (H : History) → drop (length H) H ≡ []
drop-all [] = refl
drop-all (e ∷ es) = drop-all es

module _ {K : Type 0} (tries : Tries K) where
  pub behind-vain : (w : Wish) (q p : KnownPass K) → TurnsInVain tries w q p → StaysBehind q p
  behind-vain w q p v = record {
    saw = subst (λ (H : History). IsPrefix q.seen H) (sym (ap (λ (x : KnownPass K). x.seen) v.turn)) v.saw;
    group = ap (λ (x : KnownPass K). grown x) v.turn ∙ ap length
        (groups-snoc q.mine turn ∙ ap (λ g. groups_of q.mine ++ g) (drop-all v.seen) ∙ append-nil (groups_of q.mine));
    rise = (let e = ap (λ (x : KnownPass K). rises x.mine) v.turn ∙ rises-snoc q.mine turn in omega (arith, e));
    mark = (let e = ap (λ (x : KnownPass K). marks x.mine) v.turn ∙ marks-snoc q.mine turn in omega (arith, e));
  }
    where
      turn : BookTurn K
      turn = turn_at (length v.seen) (drop (length v.seen) v.seen) v.faults v.faults v.found v.leaves

-- the one pass of a lock that is closed, which had no turn at first, and whose turns for wishes led to q
module _ {K Root : Type 0} (tries : Tries K) (list : SeenBook K → List Stamped) (faults : SeenBook K → ℕ)
    (root : SeenBook K → Root) (first x : SeenBook K)
    (start q p : KnownPass K) (opens : start.seen ≡ list first) (bare : start.mine ≡ [])
    (closes : Closes list faults root first p x) (behind : StaysBehind q p) (js : List JudgedWish)
    (r : TakesTurns tries js start q) where
  counts-closed : Counts (lost_count js) (faults first) (faults x)
  counts-closed = record {
    later = (let c = closes.count in omega (arith, c));
    still =
        λ none. (let c = closes.count in let n = none-rises tries js start q r none in let e =
        behind.rise in let zero_rise = ap rises bare in
        omega (arith, c, n, e, zero_rise));
    many = by closes.marks;
  }
    where
      by : (faults first + marks p.mine ≤ faults x) ⊎ (last_count ≤ faults x)
          → (faults first + lost_count js ≤ faults x) ⊎ (last_count ≤ faults x)
      by (inl le) = inl (let m = marked_losses tries js start q r in let e = behind.mark in omega (arith, le, m, e))
      by (inr le) = inr le

  -- nobody else added anything
  whole : length p.seen + grown start ≡ length start.seen + grown p
  whole =
      let w : length p.seen ≡ length (list first) + grown p =
      ap length (sym closes.stands ∙ closes.whole) ∙ length-append (list first) (groups_of p.mine) in
      let o = ap length opens in
      let n = ap (λ (ts : List (BookTurn K)). length (groups_of ts)) bare in
      omega (arith, w, o, n)

  pub seen-closed : q.seen ≡ list x
  seen-closed =
      let w = whole in
      let g = grows-all tries js start q r in
      let e = behind.group in
      prefix_whole q.seen p.seen behind.saw (omega (arith, w, g, e)) ∙ sym closes.stands

  -- its turns lead from the first ledger to the last
  pub replays-closed : Replays js (record { history = list first; faults = faults first })
      (record { history = list x; faults = faults x })
  replays-closed =
      let w = whole in
      let l = prefix_length q.seen p.seen behind.saw in
      let e = behind.group in
      subst (λ (H : History). Replays js (record { history = list first; faults = faults first })
      (record { history = H; faults = faults x })) seen-closed
      (subst (λ (H : History). Replays js (record { history = H; faults = faults first }) (ledger q (faults x))) opens
      (replays-alone tries js start q (faults first) (faults x) r (omega (arith, w, l, e)) counts-closed))
