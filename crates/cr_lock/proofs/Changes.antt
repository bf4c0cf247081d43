-- SPDX-License-Identifier: Apache-2.0 OR MIT
-- Each step keeps the rule of the lock.
use Rattle.std.proofs.Common.{◌≡◌, ◌≢◌, ◌⊎◌, inl, inr, ⊎_elim, ℕ, zero, suc, ◌+◌, ◌*◌, ◌%◌, ◌^◌, ◌<◌, ◌≤◌, Option, Some}
use Rattle.std.proofs.Common.{List, [], ◌∷◌, length, get_or, set, if◌then◌else◌, refl, ap, sym, ◌∙◌, subst, arith}
use Rattle.std.proofs.Common.{mod-eq_of_lt, mul-add, mul-one, add-mul, mul-le-mul_left}
use mathlib.Core.Logic.{dite}
use mathlib.Core.List.{IsPrefix}
use mathlib.Core.Option.{some, none, some-injective, some-ne-none}
use native.Mathlib.Decide.{dec_le}
use lib.ListN.{get_elem?}
use Rattle.atomic_table.specs.Table.{State, step, keeps, opening, Allows}
use Rattle.atomic_table.proofs.Lists.{at_set}
use Rattle.cr_lock.specs.declared.pass_state.Turn.{Turn}
use Rattle.cr_lock.specs.declared.pass_state.Activity.{Activity}
use Rattle.cr_lock.specs.declared.pass_state.Activity.TheVariants.{Idle, Waiting, Holding, Joined}
use Rattle.cr_lock.specs.declared.pass_state.PassState.{PassState}
use Rattle.cr_lock.specs.Counts.{last_count, within, total, Among}
use Rattle.cr_lock.specs.Turns.{groups_with, marks}
use Rattle.cr_lock.specs.PassStates.{first_state, spent_state}
use Rattle.cr_lock.specs.Rule.{holds_ticket, has_value, FitsActivity, FitsLock, IsOutside, LeftHome, IsMade, Risen, Home}
use Rattle.cr_lock.specs.Rule.{Away, OneHistory}
use Rattle.cr_lock.specs.Steps.{Drew}
use Rattle.cr_lock.proofs.Prefixes.{prefix_self, prefix_trans}
use Rattle.cr_lock.proofs.Reaching.{any_at, any_else, set_at, reached_on}
use Rattle.cr_lock.proofs.Sums.{total_set, total_two, within_join, within_out}

-- what a pass knows stays so where the history goes on, unless it has the value
fits_activity : {T E : Type 0} (start : ℕ) (log more : List E) (serving next : ℕ) (risen risen' : T → Type 0)
    (v : PassState T E) (activity : Activity T E)
    → IsPrefix log more
    → ((t : ℕ) (x : T) → activity ≡ Holding t x → (t ≡ serving) × (v.seen ≡ log) × risen x
    → (t ≡ next) × (v.seen ≡ more) × risen' x)
    → FitsActivity start log serving risen v activity → FitsActivity start more next risen' v activity
fits_activity start log more serving next risen risen' v Idle p on f = tt
fits_activity start log more serving next risen risen' v (Waiting u) p on f = tt
fits_activity start log more serving next risen risen' v (Holding u x) p on f = on u x refl f
fits_activity start log more serving next risen risen' v (Joined a b m o) p on f =
    (prefix_trans a log more f.0 p, prefix_trans b log more f.1 p, f.2)

pub fits_on : {T E : Type 0} (start : ℕ) (log more : List E) (serving next : ℕ) (risen risen' : T → Type 0)
    (v : PassState T E) → IsPrefix log more
    → ((t : ℕ) (x : T) → v.activity ≡ Holding t x → (t ≡ serving) × (v.seen ≡ log) × risen x
    → (t ≡ next) × (v.seen ≡ more) × risen' x)
    → FitsLock start log serving risen v → FitsLock start more next risen' v
fits_on start log more serving next risen risen' v p on f = record {
  seen = prefix_trans v.seen log more f.seen p;
  few = f.few;
  stand = f.stand;
  sorted = f.sorted;
  activity = fits_activity start log more serving next risen risen' v v.activity p on f.activity;
  alive = f.alive;
}

-- where a state becomes another with its turns, each turn that was made still is
pub made_set : {T E : Type 0} (vs : List (PassState T E)) (id : ℕ) (v w : PassState T E) (t : Turn T E)
    → get_elem? vs id ≡ some v → (Among v.mine t → Among w.mine t) → IsMade vs t → IsMade (set vs id w) t
made_set {T} {E} vs id v w t at on a =
    ⊎_elim (λ mine. any_at (λ (u : PassState T E). Among u.mine t) (set vs id w) id w (set_at vs id v w at) (on mine))
    (λ other. other) (any_else (λ (u : PassState T E). Among u.mine t) vs id v w at a)

-- the turns of few passes are few
products : {T E : Type 0} (most : ℕ) (vs : List (PassState T E))
    → ((j : ℕ) (u : PassState T E) → get_elem? vs j ≡ some u → u.turns ≤ most)
    → total (λ u. u.share * u.turns) vs ≤ total (λ u. u.share) vs * most
products most [] few = omega arith
products most (u ∷ us) few =
    let r : total (λ u. u.share * u.turns) us ≤ total (λ u. u.share) us * most = products most us (λ j. few (suc j)) in
    let a : u.share * u.turns ≤ u.share * most = mul-le-mul_left u.share (few 0 u refl) in
    let e : (u.share + total (λ u. u.share) us) * most ≡ u.share * most + total (λ u. u.share) us * most =
    add-mul u.share (total (λ u. u.share) us) most in
    omega arith

module _ {T E Root : Type 0} (list : T → List E) (faults : T → ℕ) (root : T → Root) (first : T) where
  abbrev V : Type 0
  V = PassState T E

  abbrev St : Type 0
  St = State (Option T) V

  abbrev pub Rule : St → Type 0
  Rule = OneHistory list faults root first

  abbrev start : ℕ
  start = length (list first)

  abbrev pub Rose : List V → T → Type 0
  Rose = Risen {T = T} {E = E} {Root = Root} list faults root first

  abbrev pub marked : V → ℕ
  marked v = marks v.mine

  abbrev pub has : V → ℕ
  has v = has_value v.activity

  abbrev pub holding : ℕ → V → ℕ
  holding t v = holds_ticket t v.activity

  -- the turns of all passes weigh the same, however they are weighed, and each that was made still is
  pub record Alike (vs ws : List V) : Type 0 where
    pub weigh : (f : Turn T E → ℕ) → total (λ (u : V). total f u.mine) vs ≡ total (λ (u : V). total f u.mine) ws
    pub made : (t : Turn T E) → IsMade vs t → IsMade ws t

  -- one state changes, and its turns stay
  pub alike_set : (vs : List V) (id : ℕ) (v w : V) → get_elem? vs id ≡ some v → w.mine ≡ v.mine
      → Alike vs (set vs id w)
  alike_set vs id v w at same = record {
    weigh = λ f. (
        let c : total (λ (u : V). total f u.mine) (set vs id w) + total f v.mine ≡ total (λ (u : V). total f u.mine) vs
        + total f w.mine =
        total_set (λ (u : V). total f u.mine) vs id v w at in
        let e : total f w.mine ≡ total f v.mine = ap (total f) same in omega arith);
    made = λ t a. made_set vs id v w t at (subst (λ ts. Among ts t) (sym same)) a;
  }

  pub risen_same : (vs ws : List V) (x : T) → Alike vs ws → Rose vs x → Rose ws x
  risen_same vs ws x e r = record {
    count = r.count ∙ ap (λ (k : ℕ). faults first + k) (e.weigh (λ t. t.rise));
    marks = (let same : total marked vs ≡ total marked ws = e.weigh (λ t. if t.marked then 1 else 0) in
        ⊎_elim (λ (a : faults first + total marked vs ≤ faults x). inl (omega arith))
        (λ (a : last_count ≤ faults x). inr a) r.marks);
    stays = r.stays;
    reached = reached_on (IsMade vs) (IsMade ws) first x e.made r.reached;
  }

  each_set : (F G : V → Type 0) (vs : List V) (me : ℕ) (w : V) → G w
      → ((j : ℕ) (u : V) → j ≢ me → get_elem? vs j ≡ some u → F u → G u)
      → ((j : ℕ) (u : V) → get_elem? vs j ≡ some u → F u) → (j : ℕ) (u : V) → get_elem? (set vs me w) j ≡ some u → G u
  each_set F G vs me w mine on all j u e = ⊎_elim (λ (t : (j ≡ me) × (w ≡ u)). subst G t.1 mine)
      (λ (t : (j ≢ me) × (get_elem? vs j ≡ some u)). on j u t.0 t.1 (all j u t.1)) (at_set vs me j w u e)

  pub ticket_small : (s : St) (r : Rule s) → r.ticket ≤ 70368744177664
  ticket_small s r =
      let p : total (λ (u : V). u.share * u.turns) s.views ≤ total (λ (u : V). u.share) s.views * 1099511627776 =
      products 1099511627776 s.views (λ j u e. (r.each j u e).few) in
      let q = r.drawn in let h = r.shares in
      let e : total (λ (u : V). u.share) s.views * 1099511627776 ≡ 64 * 1099511627776 =
      ap (λ (k : ℕ). k * 1099511627776) h in omega arith

  -- where one pass has a share, no other has the whole
  pub not_alone : (s : St) (r : Rule s) (id : ℕ) (v : V) → get_elem? s.views id ≡ some v → 0 < v.share
      → (j : ℕ) (u : V) → j ≢ id → get_elem? s.views j ≡ some u → u.share ≡ 64 → ⊥
  not_alone s r id v at some_share j u ne a whole =
      let two : u.share + v.share ≤ total (λ (z : V). z.share) s.views =
      total_two (λ (z : V). z.share) s.views j id u v ne a at in
      let all = r.shares in omega arith

  -- one state changes, and the rule is kept
  pub change : (s : St) (r : Rule s) (id : ℕ) (v w : V) → get_elem? s.views id ≡ some v
      → (log : List E) (ticket serving : ℕ) (ws : List ℕ) (homes : List (mathlib.Core.Option.Option (Option T)))
      → ws ≡ ticket ∷ serving ∷ length log ∷ []
      → serving ≤ ticket
      → IsPrefix r.log log
      → ((t : ℕ) → within r.serving r.ticket t + holding t w ≡ within serving ticket t + holding t v)
      → w.share ≡ v.share
      → ticket + v.share * v.turns ≤ r.ticket + w.share * w.turns
      → ((k : ℕ) → within start (length r.log) k + groups_with k w.mine ≡ within start (length log) k
      + groups_with k v.mine)
      → FitsLock start log serving (Rose (set s.views id w)) w
      → ((j : ℕ) (u : V) → j ≢ id → get_elem? s.views j ≡ some u → (t : ℕ) (x : T) → u.activity ≡ Holding t x
      → (t ≡ r.serving) × (u.seen ≡ r.log) × Rose s.views x → (t ≡ serving) × (u.seen ≡ log)
      × Rose (set s.views id w) x)
      → 0 < v.share → LeftHome homes w
      → Home list faults root first log record { words = ws; homes = homes; views = set s.views id w }
      ⊎ Away list faults root first record { words = ws; homes = homes; views = set s.views id w }
      → Rule record { words = ws; homes = homes; views = set s.views id w }
  change s r id v w at log ticket serving ws homes words order grows tick share drawn grp fits others some_share left
      value = record {
        log = log;
        ticket = ticket;
        serving = serving;
        words = words;
        order = order;
        begins = prefix_trans (list first) r.log log r.begins grows;
        tickets = λ t. (let a = tick t in let b = r.tickets t in
            let c : total (holding t) (set s.views id w) + holding t v ≡ total (holding t) s.views + holding t w =
            total_set (holding t) s.views id v w at in
            omega arith);
        shares =
            (let b =
            r.shares in let c : total (λ (u : V). u.share) (set s.views id w) + v.share ≡ total (λ (u : V). u.share)
            s.views + w.share =
            total_set (λ (u : V). u.share) s.views id v w at in omega arith);
        drawn = (let b = r.drawn in let c : total (λ (u : V). u.share * u.turns) (set s.views id w) + v.share * v.turns
            ≡ total (λ (u : V). u.share * u.turns) s.views + w.share * w.turns =
            total_set (λ (u : V). u.share * u.turns) s.views id v w at in omega arith);
        groups = λ k. (let a = grp k in let b = r.groups k in
            let c : total (λ (u : V). groups_with k u.mine) (set s.views id w) + groups_with k v.mine
            ≡ total (λ (u : V). groups_with k u.mine) s.views
            + groups_with k w.mine = total_set (λ (u : V). groups_with k u.mine) s.views id v w at in omega arith);
        each = each_set (FitsLock start r.log r.serving (Rose s.views))
            (FitsLock start log serving (Rose (set s.views id w))) s.views id w fits
            (λ j u ne e f. fits_on start r.log log r.serving serving (Rose s.views) (Rose (set s.views id w)) u grows
            (others j u ne e) f) r.each;
        lone = each_set (LeftHome s.homes) (LeftHome homes) s.views id w left
            (λ j u ne e f whole. absurd (not_alone s r id v at some_share j u ne e whole)) r.lone;
        value = value;
      }

  opens_each : (j : ℕ) (u : V) → get_elem? (first_state first (list first) ∷ []) j ≡ some u
      → FitsLock start (list first) 0 (Rose (first_state first (list first) ∷ [])) u
  opens_each zero u e = subst (FitsLock start (list first) 0 (Rose (first_state first (list first) ∷ [])))
      (some-injective (first_state first (list first)) u e) (record {
        seen = prefix_self (list first);
        few = omega arith;
        stand = tt;
        sorted = tt;
        activity = tt;
        alive = inl (omega arith, omega arith);
      })
  opens_each (suc j) u e = absurd (some-ne-none u (sym e))

  opens_lone : (j : ℕ) (u : V) → get_elem? (first_state first (list first) ∷ []) j ≡ some u
      → LeftHome (some (Some first) ∷ []) u
  opens_lone zero u e = subst (LeftHome (some (Some first) ∷ [])) (some-injective (first_state first (list first)) u e)
      (λ whole outside. refl)
  opens_lone (suc j) u e = absurd (some-ne-none u (sym e))

  pub opens : (ws : List ℕ) → ws ≡ 0 ∷ 0 ∷ length (list first) ∷ []
      → Rule (opening ws (Some first ∷ []) (first_state first (list first)))
  opens ws e = record {
    log = list first;
    ticket = 0;
    serving = 0;
    words = e;
    order = omega arith;
    begins = prefix_self (list first);
    tickets = λ t. sym (within_out 0 0 t (inl (omega arith)));
    shares = refl;
    drawn = omega arith;
    groups = λ k. sym (within_out start start k (dite (dec_le start k) (λ a. inl a) (λ a. inr (omega arith))));
    each = opens_each;
    lone = opens_lone;
    value = inl (
      first,
      refl,
      refl,
      record {
        count = omega arith;
        marks = inl (omega arith);
        stays = refl;
        reached = record { turns = []; made = tt; leads = refl };
      },
      refl,
    );
  }

  -- the same value, where no state's marks change and the passes that have the value are as many
  pub value_same : (log : List E) (s : St) (ws : List ℕ) (vs : List V) → total has vs ≡ total has s.views
      → Alike s.views vs
      → Home list faults root first log s ⊎ Away list faults root first s
      → Home list faults root first log record { words = ws; homes = s.homes; views = vs }
      ⊎ Away list faults root first record { words = ws; homes = s.homes; views = vs }
  value_same log s ws vs e m h =
      ⊎_elim (λ (a : Home list faults root first log s).
      inl (a.0, a.1, a.2, risen_same s.views vs a.0 m a.3, e ∙ a.4))
      (λ (a : Away list faults root first s). inr (a.0, e ∙ a.1)) h

  draw_keeps : (s : St) (r : Rule s) (id : ℕ) (v : V) (m : ℕ) → v.activity ≡ Idle → 0 < v.share
      → v.turns < 1099511627776 → get_elem? s.views id ≡ some v
      → m ≡ r.ticket
      → Rule record {
        words = set s.words 0 ((m + 1) % 2 ^ 64);
        homes = s.homes;
        views = set s.views id (record v { turns = v.turns + 1; activity = Waiting m });
      }
  draw_keeps s r id v m idle some_share few at is =
      let w : V = record v { turns = v.turns + 1; activity = Waiting m } in
      let f = r.each id v at in
      let small = ticket_small s r in
      let k : (m + 1) % 2 ^ 64 ≡ r.ticket + 1 = mod-eq_of_lt (omega arith) ∙ ap (λ (z : ℕ). z + 1) is in
      let no : has_value v.activity ≡ 0 = ap has_value idle in
      let same = alike_set s.views id v w at refl in
      let same' : total has (set s.views id w) ≡ total has s.views =
      (let c : total has (set s.views id w) + has v ≡ total has s.views + has w = total_set has s.views id v w
      at in omega arith) in
      change s r id v w at r.log (r.ticket + 1) r.serving (set s.words 0 ((m + 1) % 2 ^ 64)) s.homes
      (ap (λ (ws : List ℕ). set ws 0 ((m + 1) % 2 ^ 64)) r.words ∙ ap (λ (z : ℕ). z ∷ r.serving ∷ length r.log ∷ []) k)
      (let o = r.order in omega arith)
      (prefix_self r.log)
      (λ t. (let a : within r.serving r.ticket t + within r.ticket (r.ticket + 1) t ≡ within r.serving (r.ticket + 1)
      t =
      within_join r.serving r.ticket (r.ticket + 1) t r.order (omega arith) in
      let b : holding t v ≡ 0 = ap (holds_ticket t) idle in
      let c : holding t w ≡ within r.ticket (r.ticket + 1) t = ap (λ (z : ℕ). within z (z + 1) t) is in omega arith))
      refl
      (let e : v.share * (v.turns + 1) ≡ v.share * v.turns + v.share * 1 = mul-add v.share v.turns 1 in
      let e' : v.share * 1 ≡ v.share = mul-one v.share in omega arith)
      (λ k. refl)
      (record {
        seen = f.seen;
        few = omega arith;
        stand = f.stand;
        sorted = f.sorted;
        activity = tt;
        alive = ⊎_elim (λ (a : (0 < v.share) × (start ≤ length v.seen)). inl a)
            (λ (a : v ≡ spent_state). absurd (let z : v.share ≡ 0 = ap (λ (u : V). u.share) a in omega arith)) f.alive;
      })
      (λ j u ne e t x is' g. (g.0, g.1, risen_same s.views (set s.views id w) x same g.2))
      some_share
      (λ whole outside. r.lone id v at whole (subst IsOutside (sym idle) tt))
      (value_same r.log s (set s.words 0 ((m + 1) % 2 ^ 64)) (set s.views id w) same' same r.value)

  pub draws : (slots id : ℕ) (v : V) (cs : List (ℕ × Option T)) → v.activity ≡ Idle → 0 < v.share
      → v.turns < 1099511627776
      → Allows Rule slots id (v, cs) 0 (λ n. (n + 1) % 2 ^ 64) (Drew (step slots 0 1 0 none) (v, cs))
  draws slots id v cs idle some_share few s r _ at _ = (
    record v { turns = v.turns + 1; activity = Waiting (get_or s.words 0 0) },
    keeps,
    tt,
    draw_keeps s r id v (get_or s.words 0 0) idle some_share few at (ap (λ (ws : List ℕ). get_or ws 0 0) r.words),
    refl,
  )
