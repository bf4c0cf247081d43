-- SPDX-License-Identifier: Apache-2.0 OR MIT
-- Splits, joins and the end keep the rule.
use Rattle.std.proofs.Common.{◌≡◌, ◌≢◌, ◌⊎◌, inl, inr, ⊎_elim, ℕ, ◌+◌, ◌-◌, ◌*◌, ◌/◌, ◌<◌, ◌≤◌, Bool, true, false}
use Rattle.std.proofs.Common.{nat_lt, if◌then◌else◌, Option, Some, None, List, [], ◌∷◌, ◌++◌, length, get_or, set, max}
use Rattle.std.proofs.Common.{refl, ap, sym, ◌∙◌, subst, arith, add-mul, mul-le-mul_left, length-append}
use Rattle.std.proofs.lemmas.Bool.Decides.{nat_tests}
use mathlib.Core.Logic.{dite}
use mathlib.Core.List.{IsPrefix}
use mathlib.Core.Option.{some, none, some-injective}
use native.Mathlib.Decide.{ℕ_discrete, dec_le}
use lib.ListN.{get_elem?}
use lib.Seq.{set-get_or}
use Rattle.atomic_table.specs.Seated.{TableId}
use Rattle.atomic_table.specs.Table.{State, Me, step, keeps, Allows, Splits, Joins, Final, Seen}
use Rattle.atomic_table.proofs.Lists.{at_set, at_snoc, set_else}
use Rattle.cr_lock.specs.declared.pass_state.Turn.{Turn}
use Rattle.cr_lock.specs.declared.pass_state.Activity.{Activity}
use Rattle.cr_lock.specs.declared.pass_state.Activity.TheVariants.{Idle, Holding, Joined}
use Rattle.cr_lock.specs.declared.pass_state.PassState.{PassState}
use Rattle.cr_lock.specs.Counts.{last_count, within, total, Every, Among}
use Rattle.cr_lock.specs.Turns.{InOrder, end_of, groups_with, marks, rises, StandsIn, longer, InCommon}
use Rattle.cr_lock.specs.PassStates.{left_half, right_half, joining, spent_state}
use Rattle.cr_lock.specs.Passes.{Known}
use Rattle.cr_lock.specs.Closing.{Closes}
use Rattle.cr_lock.specs.Rule.{holds_ticket, has_value, FitsActivity, FitsLock, IsMade, IsOutside, LeftHome, Home}
use Rattle.cr_lock.specs.Rule.{Away}
use Rattle.cr_lock.specs.Steps.{LookedAfterJoin}
use Rattle.cr_lock.proofs.Prefixes.{prefix_self, prefix_shorter, prefix_length, prefix_either, prefix_whole}
use Rattle.cr_lock.proofs.Prefixes.{prefix_drop, every_longer}
use Rattle.cr_lock.proofs.Order.{follows, merged_in_order}
use Rattle.cr_lock.proofs.Sums.{total_append, total_set, total_at, total_two, total_only, total_merged, every_merged}
use Rattle.cr_lock.proofs.Sums.{within_one, within_in, within_is}
use Rattle.cr_lock.proofs.Reaching.{any_at, any_else, any_is, any_left, merged_left, merged_right, set_at, reached_on}
use Rattle.cr_lock.proofs.Changes.{Rule, Rose, Alike, change, alike_set, made_set, not_alone, risen_same, value_same}
use Rattle.cr_lock.proofs.Changes.{fits_on}
use Rattle.cr_lock.proofs.Turns.{same_home}

unmoved_risen : {T E : Type 0} (P Q : T → Type 0) (serving : ℕ) (v : PassState T E) (log : List E)
    → ((x : T) → P x → Q x) → (t : ℕ) (x : T) → v.activity ≡ Holding t x
    → (t ≡ serving) × (v.seen ≡ log) × P x → (t ≡ serving) × (v.seen ≡ log) × Q x
unmoved_risen P Q serving v log on t x is g = (g.0, g.1, on x g.2)

-- an entry in a group that stands in a list has its number in the list
covered : {T E : Type 0} (k : ℕ) (ts : List (Turn T E)) (log : List E) → Every (StandsIn log) ts → 0 < groups_with k ts
    → k < length log
covered k [] log e h = absurd (omega arith)
covered k (t ∷ ts) log e h = dite (ℕ_discrete (within t.place (end_of t) k) 0)
    (λ none_here. covered k ts log e.1 (omega arith))
    (λ here. let a = within_is t.place (end_of t) k (omega arith) in let s = e.0 in
    let b : length (s.0 ++ t.group) ≤ length log = prefix_length (s.0 ++ t.group) log s.2 in
    let c : length (s.0 ++ t.group) ≡ length s.0 + length t.group = length-append s.0 t.group in let p = s.1 in let q =
    a.1 in omega arith)

max_left : (a b : ℕ) → a ≤ max a b
max_left a b = omega arith

max_right : (a b : ℕ) → b ≤ max a b
max_right a b = omega arith

max_few : (a b : ℕ) → a ≤ 1099511627776 → b ≤ 1099511627776 → max a b ≤ 1099511627776
max_few a b p q = omega arith

longer_is : {A : Type 0} (xs ys zs : List A) (b : Bool) → (b ≡ true → length xs ≤ length ys)
    → (b ≡ false → length ys ≤ length xs) → IsPrefix xs zs
    → IsPrefix ys zs
    → IsPrefix xs (if b then ys else xs) × IsPrefix ys (if b then ys else xs) × IsPrefix (if b then ys else xs) zs
longer_is xs ys zs true up down p q = (prefix_shorter xs ys zs p q (up refl), prefix_self ys, q)
longer_is xs ys zs false up down p q = (prefix_self xs, prefix_shorter ys xs zs q p (down refl), p)

longer_of : {A : Type 0} (xs ys zs : List A) → IsPrefix xs zs → IsPrefix ys zs
    → IsPrefix xs (longer xs ys) × IsPrefix ys (longer xs ys) × IsPrefix (longer xs ys) zs
longer_of xs ys zs p q = longer_is xs ys zs (nat_lt (length xs) (length ys)) (λ e. grind (arith, nat_tests))
    (λ e. grind (arith, nat_tests)) p q

module _ {T E Root : Type 0} (list : T → List E) (faults : T → ℕ) (root : T → Root) (first : T) where
  abbrev V : Type 0
  V = PassState T E

  abbrev St : Type 0
  St = State (Option T) V

  abbrev R : St → Type 0
  R = Rule list faults root first

  abbrev start : ℕ
  start = length (list first)

  abbrev Up : List V → T → Type 0
  Up = Rose list faults root first

  alive_some : (v : V) → 0 < v.share → ((0 < v.share) × (start ≤ length v.seen)) ⊎ (v ≡ spent_state)
      → start ≤ length v.seen
  alive_some v some_share a = ⊎_elim (λ (h : (0 < v.share) × (start ≤ length v.seen)). h.1)
      (λ (h : v ≡ spent_state). absurd (let z : v.share ≡ 0 = ap (λ (u : V). u.share) h in omega arith)) a

  -- what a sum becomes where a state is cut in two
  cut : (F : V → ℕ) (vs : List V) (id : ℕ) (v l r : V) → get_elem? vs id ≡ some v → F l + F r ≡ F v
      → total F (set vs id l ++ r ∷ []) ≡ total F vs
  cut F vs id v l r at e = let a : total F (set vs id l ++ r ∷ []) ≡ total F (set vs id l) + (F r + 0) =
      total_append F (set vs id l) (r ∷ []) in
      let b : total F (set vs id l) + F v ≡ total F vs + F l = total_set F vs id v l at in omega arith

  pub splits : (id : ℕ) (v : V) → v.activity ≡ Idle → 1 < v.share → Splits R id v (left_half v) (right_half v)
  splits id v idle more s r at =
      let l : V = left_half v in
      let o : V = right_half v in
      let f = r.each id v at in
      let vs' = set s.views id l ++ o ∷ [] in
      let half : v.share / 2 ≤ v.share = omega arith in
      let same : Alike list faults root first s.views vs' = record {
        weigh = λ f. sym (cut (λ (u : V). total f u.mine) s.views id v l o at (omega arith));
        made = λ t a. any_left (λ (u : V). Among u.mine t) (set s.views id l) (o ∷ [])
            (made_set s.views id v l t at (λ mine. mine) a);
      } in
      let long = alive_some v (omega arith) f.alive in
      let holders : total (λ (u : V). has_value u.activity) vs' ≡ total (λ (u : V). has_value u.activity) s.views =
      (let z : has_value v.activity ≡ 0 = ap has_value idle in cut (λ (u : V). has_value u.activity) s.views id v l o at
      (omega arith)) in
      let fits_idle : (u : V) → u.activity ≡ Idle → u.seen ≡ v.seen → u.turns ≡ v.turns → Every (StandsIn v.seen) u.mine
      → InOrder u.mine → 0 < u.share
      → FitsLock start r.log r.serving (Up vs') u = λ u is seen turns stand sorted some_share. record {
        sorted = sorted;
        seen = subst (λ z. IsPrefix z r.log) (sym seen) f.seen;
        few = subst (λ (z : ℕ). z ≤ 1099511627776) (sym turns) f.few;
        stand = subst (λ z. Every (StandsIn z) u.mine) (sym seen) stand;
        activity = subst (λ z. FitsActivity start r.log r.serving (Up vs') u z) (sym is) tt;
        alive = inl (some_share, subst (λ z. start ≤ length z) (sym seen) long);
      } in record {
        log = r.log;
        ticket = r.ticket;
        serving = r.serving;
        words = r.words;
        order = r.order;
        begins = r.begins;
        tickets = λ t. (let z : holds_ticket t v.activity ≡ 0 = ap (holds_ticket t) idle in
            cut (λ (u : V). holds_ticket t u.activity) s.views id v l o at (omega arith)) ∙ r.tickets t;
        shares = cut (λ (u : V). u.share) s.views id v l o at (omega arith) ∙ r.shares;
        drawn = (let e : total (λ (u : V). u.share * u.turns) vs' ≡ total (λ (u : V). u.share * u.turns) s.views =
            cut (λ (u : V). u.share * u.turns) s.views id v l o at
            (sym (add-mul (v.share - v.share / 2) (v.share / 2) v.turns)
            ∙ ap (λ (z : ℕ). z * v.turns) (let q : v.share - v.share / 2 + v.share / 2
            ≡ v.share = omega arith in q)) in let d = r.drawn in omega arith);
        groups = λ k. cut (λ (u : V). groups_with k u.mine) s.views id v l o at (omega arith) ∙ r.groups k;
        each = λ j u e. ⊎_elim
            (λ (a : get_elem? (set s.views id l) j ≡ some u). ⊎_elim
            (λ (b : (j ≡ id) × (l ≡ u)). subst (FitsLock start r.log r.serving (Up vs')) b.1
            (fits_idle l idle refl refl f.stand f.sorted (omega arith)))
            (λ (b : (j ≢ id) × (get_elem? s.views j ≡ some u)). fits_on start r.log r.log r.serving r.serving
            (Up s.views) (Up vs') u (prefix_self r.log)
            (unmoved_risen (Up s.views) (Up vs') r.serving u r.log
            (λ x. risen_same list faults root first s.views vs' x same)) (r.each j u b.1))
            (at_set s.views id j l u a))
            (λ (a : o ≡ u). subst (FitsLock start r.log r.serving (Up vs')) a
            (fits_idle o idle refl refl tt tt (omega arith)))
            (at_snoc (set s.views id l) o u j e);
        lone = λ j u e. ⊎_elim
            (λ (a : get_elem? (set s.views id l) j ≡ some u). ⊎_elim
            (λ (b : (j ≡ id) × (l ≡ u)). subst (LeftHome s.homes) b.1 (λ whole outside. tt))
            (λ (b : (j ≢ id) × (get_elem? s.views j ≡ some u)) whole.
            absurd (not_alone list faults root first s r id v at (omega arith) j u b.0 b.1 whole))
            (at_set s.views id j l u a))
            (λ (a : o ≡ u). subst (LeftHome s.homes) a (λ whole outside. tt))
            (at_snoc (set s.views id l) o u j e);
        value = value_same list faults root first r.log s s.words vs' holders same r.value;
      }

  -- what a sum becomes where two states are made one
  glue : (F : V → ℕ) (vs : List V) (id other : ℕ) (v w b : V) → get_elem? vs id ≡ some v
      → get_elem? (set vs id b) other ≡ some w → F b ≡ F v + F w
      → F spent_state ≡ 0
      → total F (set (set vs id b) other spent_state) ≡ total F vs
  glue F vs id other v w b at at' e z =
      let p : total F (set (set vs id b) other spent_state) + F w ≡ total F (set vs id b) + F spent_state =
      total_set F (set vs id b) other w spent_state at' in
      let q : total F (set vs id b) + F v ≡ total F vs + F b = total_set F vs id v b at in omega arith

  spent_fits : (log : List E) (serving : ℕ) (risen : T → Type 0)
      → FitsLock {T = T} start log serving risen spent_state
  spent_fits log serving risen =
      record { seen = (log, refl); few = omega arith; stand = tt; sorted = tt; activity = tt; alive = inr refl }

  -- a list in which each group stands and that has what was there at first, where each later entry is in a group, has
  -- all entries
  seen_all : (seen log : List E) (mine : List (Turn T E)) → Every (StandsIn seen) mine → start ≤ length seen
      → ((k : ℕ) → groups_with k mine ≡ within start (length log) k) → length log ≤ length seen
  seen_all seen log mine stand more counted = dite (dec_le (length log) (length seen)) (λ le. le) (λ gt.
      let one : within start (length log) (length seen) ≡ 1 =
      within_in start (length log) (length seen) more (omega arith) in
      let c =
      counted (length seen) in absurd (let z : length seen < length seen = covered (length seen) mine seen stand
      (omega arith) in omega arith))

  -- a turn that was made still is, where two states are made one that has the turns of both
  made_joined : (vs : List V) (id other : ℕ) (v w b : V) → get_elem? vs id ≡ some v
      → get_elem? (set vs id b) other ≡ some w → other ≢ id
      → ((t : Turn T E) → Among v.mine t → Among b.mine t) → ((t : Turn T E) → Among w.mine t → Among b.mine t)
      → (t : Turn T E) → IsMade vs t → IsMade (set (set vs id b) other spent_state) t
  made_joined vs id other v w b at at' ne one two t a =
      ⊎_elim
      (λ mine. any_at (λ (u : V). Among u.mine t) (set (set vs id b) other spent_state) id b
      (set_else (set vs id b) other id spent_state (λ e. ne (sym e)) ∙ set_at vs id v b at) (two t mine))
      (λ more. more)
      (any_else (λ (u : V). Among u.mine t) (set vs id b) other w spent_state at' (made_set vs id v b t at (one t) a))

  pub joins : (id : ℕ) (v : V) (other : ℕ) (w : V) → v.activity ≡ Idle → w.activity ≡ Idle → 0 < v.share → 0 < w.share
      → Joins R id v other w (joining v w) spent_state
  joins id v other w idle idle' some_share some_share' s r at ne at' =
      let b : V = joining v w in
      let at_w : get_elem? s.views other ≡ some w = sym (set_else s.views id other b ne) ∙ at' in
      let f = r.each id v at in
      let h = r.each other w at_w in
      let vs' = set (set s.views id b) other spent_state in
      let no : has_value v.activity ≡ 0 = ap has_value idle in
      let no' : has_value w.activity ≡ 0 = ap has_value idle' in
      let same : Alike list faults root first s.views vs' = record {
        weigh = λ f. sym (glue (λ (u : V). total f u.mine) s.views id other v w b at at' (total_merged f v.mine w.mine)
            refl);
        made = made_joined s.views id other v w b at at' ne
            (λ t a. merged_left (λ (z : Turn T E). t ≡ z) v.mine w.mine a)
            (λ t a. merged_right (λ (z : Turn T E). t ≡ z) v.mine w.mine a);
      } in
      let holders : total (λ (u : V). has_value u.activity) vs' ≡ total (λ (u : V). has_value u.activity) s.views =
      glue (λ (u : V). has_value u.activity) s.views id other v w b at at' (omega arith) refl in
      let long = longer_of v.seen w.seen r.log f.seen h.seen in
      let l : length v.seen ≤ length (longer v.seen w.seen) = prefix_length v.seen (longer v.seen w.seen) long.0 in
      let st = alive_some v some_share f.alive in
      let fits_b : FitsLock start r.log r.serving (Up vs') b = record {
        seen = long.2;
        few = max_few v.turns w.turns f.few h.few;
        stand = every_merged (StandsIn (longer v.seen w.seen)) v.mine w.mine
            (every_longer v.seen (longer v.seen w.seen) v.mine long.0 f.stand)
            (every_longer w.seen (longer v.seen w.seen) w.mine long.1 h.stand);
        sorted = merged_in_order v.mine w.mine h.sorted;
        activity = (
          f.seen,
          h.seen,
          λ k. (let a : groups_with k v.mine + groups_with k w.mine ≤ total (λ (u : V). groups_with k u.mine) s.views =
              total_two (λ (u : V). groups_with k u.mine) s.views id other v w (λ e. ne (sym e)) at at_w in
              let c = r.groups k in let d : within start (length r.log) k ≤ 1 =
              within_one start (length r.log) k in omega arith),
        );
        alive = inl (omega arith, omega arith);
      } in record {
        log = r.log;
        ticket = r.ticket;
        serving = r.serving;
        words = r.words;
        order = r.order;
        begins = r.begins;
        tickets = λ t. (let z : holds_ticket t v.activity ≡ 0 = ap (holds_ticket t) idle in
            let z' : holds_ticket t w.activity ≡ 0 = ap (holds_ticket t) idle' in
            glue (λ (u : V). holds_ticket t u.activity) s.views id other v w b at at' (omega arith) refl) ∙ r.tickets t;
        shares = glue (λ (u : V). u.share) s.views id other v w b at at' refl refl ∙ r.shares;
        drawn =
            (let p : total (λ (u : V). u.share * u.turns) vs' + w.share * w.turns ≡ total (λ (u : V). u.share * u.turns)
            (set s.views id b) + 0 * 0 =
            total_set (λ (u : V). u.share * u.turns) (set s.views id b) other w spent_state at' in
            let q : total (λ (u : V). u.share * u.turns) (set s.views id b) + v.share * v.turns
            ≡ total (λ (u : V). u.share * u.turns) s.views
            + (v.share + w.share) * max v.turns w.turns = total_set (λ (u : V). u.share * u.turns) s.views id v b at in
            let x : (v.share + w.share) * max v.turns w.turns ≡ v.share * max v.turns w.turns
            + w.share * max v.turns w.turns =
            add-mul v.share w.share (max v.turns w.turns) in
            let y : v.share * v.turns ≤ v.share * max v.turns w.turns =
            mul-le-mul_left v.share (max_left v.turns w.turns) in
            let z : w.share * w.turns ≤ w.share * max v.turns w.turns =
            mul-le-mul_left w.share (max_right v.turns w.turns) in let d = r.drawn in omega arith);
        groups = λ k. glue (λ (u : V). groups_with k u.mine) s.views id other v w b at at'
            (total_merged (λ (z : Turn T E). within z.place (end_of z) k) v.mine w.mine) refl ∙ r.groups k;
        each = λ j u e. ⊎_elim
            (λ (a : (j ≡ other) × (spent_state ≡ u)). subst (FitsLock start r.log r.serving (Up vs')) a.1
            (spent_fits r.log r.serving (Up vs')))
            (λ (a : (j ≢ other) × (get_elem? (set s.views id b) j ≡ some u)). ⊎_elim
            (λ (c : (j ≡ id) × (b ≡ u)). subst (FitsLock start r.log r.serving (Up vs')) c.1 fits_b)
            (λ (c : (j ≢ id) × (get_elem? s.views j ≡ some u)). fits_on start r.log r.log r.serving r.serving
            (Up s.views) (Up vs') u (prefix_self r.log)
            (unmoved_risen (Up s.views) (Up vs') r.serving u r.log
            (λ x. risen_same list faults root first s.views vs' x same)) (r.each j u c.1))
            (at_set s.views id j b u a.1))
            (at_set (set s.views id b) other j spent_state u e);
        lone = λ j u e. ⊎_elim
            (λ (a : (j ≡ other) × (spent_state ≡ u)). subst (LeftHome s.homes) a.1 (λ whole outside. tt))
            (λ (a : (j ≢ other) × (get_elem? (set s.views id b) j ≡ some u)). ⊎_elim
            (λ (c : (j ≡ id) × (b ≡ u)). subst (LeftHome s.homes) c.1 (λ whole outside. tt))
            (λ (c : (j ≢ id) × (get_elem? s.views j ≡ some u)) whole.
            absurd (not_alone list faults root first s r id v at some_share j u c.0 c.1 whole))
            (at_set s.views id j b u a.1))
            (at_set (set s.views id b) other j spent_state u e);
        value = value_same list faults root first r.log s s.words vs' holders same r.value;
      }

  settle_keeps : (s : St) (r : R s) (id : ℕ) (v : V) (a b : List E) (m o : List (Turn T E))
      → get_elem? s.views id ≡ some v → v.activity ≡ Joined a b m o
      → R record {
        words = set s.words 1 (get_or s.words 1 0);
        homes = s.homes;
        views = set s.views id (record v { left = None; activity = Idle });
      }
  settle_keeps s r id v a b m o at is =
      let w : V = record v { left = None; activity = Idle } in
      let f = r.each id v at in
      let alive = ⊎_elim (λ (h : (0 < v.share) × (start ≤ length v.seen)). h)
      (λ (h : v ≡ spent_state). absurd (let e : v.activity ≡ Idle = ap (λ (u : V). u.activity) h in cc (e, is)))
      f.alive in
      let vs' = set s.views id w in
      let no : has_value v.activity ≡ 0 = ap has_value is in
      let same = alike_set list faults root first s.views id v w at refl in
      let holders : total (λ (u : V). has_value u.activity) vs' ≡ total (λ (u : V). has_value u.activity) s.views =
      (let c : total (λ (u : V). has_value u.activity) vs' + has_value v.activity
      ≡ total (λ (u : V). has_value u.activity) s.views + 0 =
      total_set (λ (u : V). has_value u.activity) s.views id v w at in omega arith) in
      change list faults root first s r id v w at r.log r.ticket r.serving (set s.words 1 (get_or s.words 1 0)) s.homes
      (set-get_or s.words 1 0 ∙ r.words)
      r.order
      (prefix_self r.log)
      (λ k. (let z : holds_ticket k v.activity ≡ 0 = ap (holds_ticket k) is in omega arith))
      refl
      (omega arith)
      (λ k. refl)
      (record {
        seen = f.seen;
        few = f.few;
        stand = f.stand;
        sorted = f.sorted;
        activity = tt;
        alive = inl alive;
      })
      (λ j u ne e t x is' g. unmoved_risen (Up s.views) (Up vs') r.serving u r.log
      (λ y. risen_same list faults root first s.views vs' y same) t x is' g)
      alive.0
      (λ whole outside. tt)
      (value_same list faults root first r.log s (set s.words 1 (get_or s.words 1 0)) vs' holders same r.value)

  same_four : (a b : List E) (m o : List (Turn T E)) (a' b' : List E) (m' o' : List (Turn T E)) {activity : Activity T E}
      → activity ≡ Joined a b m o
      → activity ≡ Joined a' b' m' o'
      → ◌≡◌ {A = List E × List E × List (Turn T E) × List (Turn T E)} (a, b, m, o) (a', b', m', o')
  same_four a b m o a' b' m' o' e e' = let p : a ≡ a' = cc (e, e') in let q : b ≡ b' = cc (e, e') in let t : m ≡ m' =
      cc (e, e') in
      let u : o ≡ o' = cc (e, e') in λ i. (p i, q i, t i, u i)

  settles_at : (slots id : ℕ) (v : V) (a b : List E) (m o : List (Turn T E)) → v.activity ≡ Joined a b m o
      → Allows R slots id (v, []) 1 (λ n. n) (LookedAfterJoin (step slots 1 0 0 none) (v, []))
  settles_at slots id v a b m o is s r _ at _ =
      let f = r.each id v at in
      let g : FitsActivity start r.log r.serving (Up s.views) v (Joined a b m o) =
      subst (FitsActivity start r.log r.serving (Up s.views) v) is f.activity in
      let share : v.share ≤ total (λ (u : V). u.share) s.views = total_at (λ (u : V). u.share) s.views id v at in
      let all = r.shares in (
        record v { left = None; activity = Idle },
        keeps,
        tt,
        settle_keeps s r id v a b m o at is,
        λ a' b' m' o' is'. (
          subst (λ (z : List E × List E × List (Turn T E) × List (Turn T E)). InCommon z.0 z.1 z.2 z.3)
              (same_four a b m o a' b' m' o' is is')
              (prefix_either a b r.log g.0 g.1, g.2),
          omega arith,
          f.stand,
          refl,
        ),
      )

  pub settles : (slots id : ℕ) (me : Me (Option T) V) (a b : List E) (m o : List (Turn T E))
      → me.0.activity ≡ Joined a b m o → me.1 ≡ []
      → Allows R slots id me 1 (λ n. n) (LookedAfterJoin (step slots 1 0 0 none) me)
  settles slots id me a b m o is held =
      subst (λ (m : Me (Option T) V). Allows R slots id m 1 (λ n. n) (LookedAfterJoin (step slots 1 0 0 none) m))
      (λ i. (me.0, sym held i)) (settles_at slots id me.0 a b m o is)

  -- where one state has the whole share, each turn that was made is its own
  its_own : (s : St) (r : R s) (id : ℕ) (v : V) → v.share ≡ 64 → get_elem? s.views id ≡ some v
      → (t : Turn T E) (j : ℕ) (u : V) → get_elem? s.views j ≡ some u → Among u.mine t → Among v.mine t
  its_own s r id v whole at t j u e mine = dite (ℕ_discrete j id)
      (λ same. subst (λ (z : V). Among z.mine t)
      (some-injective u v (sym e ∙ (ap (λ (k : ℕ). get_elem? s.views k) same ∙ at))) mine)
      (λ ne. ⊎_elim
      (λ (h : (0 < u.share) × (start ≤ length u.seen)). absurd
      (not_alone list faults root first s r j u e h.0 id v (λ o. ne (sym o)) at whole))
      (λ (h : u ≡ spent_state). absurd (subst (λ (z : V). Among z.mine t) h mine)) (r.each j u e).alive)

  -- the end
  abbrev known : TableId → V → Known T E
  known lock v = record { lock = lock; share = v.share; turns = v.turns; seen = v.seen; mine = v.mine; left = v.left }

  pub ends : (lock : TableId) (id : ℕ) (v : V) (ws : List ℕ) (xs : List (Option T)) → v.activity ≡ Idle → v.share ≡ 64
      → Final (Seen R id v) ws xs
      → (x : T) × (get_elem? xs 0 ≡ some (Some x)) × Closes list faults root first (known lock v) x
  ends lock id v ws xs idle whole fin =
      let s : St = fin.0 in
      let r : R s = fin.1.0 in
      let at : get_elem? s.views id ≡ some v = fin.1.1 in
      let f = r.each id v at in
      let only : (F : V → ℕ) → F spent_state ≡ 0 → total F s.views ≡ F v =
      λ F zero_spent. total_only F (λ (u : V). u.share) s.views id v at (r.shares ∙ sym whole)
      (λ j u e z. ⊎_elim (λ (h : (0 < u.share) × (start ≤ length u.seen)). absurd (let a = h.0 in omega arith))
      (λ (h : u ≡ spent_state). ap F h ∙ zero_spent)
      (r.each j u e).alive) in
      let nobody : total (λ (u : V). has_value u.activity) s.views ≡ 0 =
      only (λ (u : V). has_value u.activity) refl ∙ ap has_value idle in
      let home : Home list faults root first r.log s = ⊎_elim (λ (a : Home list faults root first r.log s). a)
      (λ (a : Away list faults root first s). absurd (let o = a.1 in omega arith)) r.value in
      let x : T = home.0 in
      let counted : (k : ℕ) → groups_with k v.mine ≡ within start (length r.log) k =
      λ k. sym (only (λ (u : V). groups_with k u.mine) refl) ∙ r.groups k in
      let all_seen : v.seen ≡ r.log = prefix_whole v.seen r.log f.seen
      (seen_all v.seen r.log v.mine f.stand (alive_some v (omega arith) f.alive) counted) in
      let marked_all : total (λ (u : V). marks u.mine) s.views ≡ marks v.mine = only (λ (u : V). marks u.mine) refl in
      let its : (t : Turn T E) → IsMade s.views t → Among v.mine t = λ t a.
      (let m = any_is (λ (u : V). Among u.mine t) s.views a in its_own s r id v whole at t m.0 m.1 m.2 m.3) in (
        x,
        fin.4 0 (Some x) (ap (λ hs. get_elem? hs 0) home.1),
        record {
          stands = home.2 ∙ sym all_seen;
          begins = subst (λ z. IsPrefix (list first) z) (sym all_seen) r.begins;
          groups = λ k. counted k ∙ ap (λ z. within start (length z) k) (sym all_seen);
          places = f.stand;
          whole = home.2 ∙ (sym (prefix_drop (list first) r.log r.begins)
              ∙ ap (λ z. list first ++ z) (follows r.log v.mine start (length r.log) f.sorted
              (every_longer v.seen r.log v.mine f.seen f.stand) refl
              (prefix_length (list first) r.log r.begins) counted));
          marks = ⊎_elim (λ (a : faults first + total (λ (u : V). marks u.mine) s.views ≤ faults x). inl (omega arith))
              (λ (a : last_count ≤ faults x). inr a) home.3.marks;
          root = home.3.stays;
          reached = reached_on (IsMade s.views) (Among v.mine) first x its home.3.reached;
          left = same_home v.left x s.homes home.1 (r.lone id v at whole (subst IsOutside (sym idle) tt));
          count = home.3.count ∙ ap (λ (k : ℕ). faults first + k) (only (λ (u : V). rises u.mine) refl);
        },
      )
