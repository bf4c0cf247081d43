-- SPDX-License-Identifier: Apache-2.0 OR MIT
-- The steps of a turn keep the rule.
use Rattle.std.proofs.Common.{◌≡◌, ◌≢◌, ◌⊎◌, inl, inr, ⊎_elim, ℕ, ◌+◌, ◌-◌, ◌%◌, ◌^◌, ◌<◌, ◌≤◌, if◌then◌else◌, Option}
use Rattle.std.proofs.Common.{Some, None, IfSome, List, [], ◌∷◌, ◌++◌, length, get_or, set, drop, refl, ap, sym, ◌∙◌}
use Rattle.std.proofs.Common.{subst, arith, mod-eq_of_lt, append-nil, length-drop}
use Rattle.std.proofs.lemmas.Bool.Decides.{nat_tests}
use mathlib.Core.Logic.{dite}
use mathlib.Core.List.{IsPrefix}
use mathlib.Core.Option.{some, none, some-injective}
use native.Mathlib.Decide.{ℕ_discrete, dec_le}
use lib.ListN.{get_elem?}
use lib.Seq.{set-get_or}
use Rattle.atomic_table.specs.Table.{State, Me, step, keeps, takes, gives, rest, Allows}
use Rattle.atomic_table.proofs.Lists.{set_again}
use Rattle.cr_lock.specs.declared.pass_state.Turn.{Turn}
use Rattle.cr_lock.specs.declared.pass_state.Activity.{Activity}
use Rattle.cr_lock.specs.declared.pass_state.Activity.TheVariants.{Idle, Waiting, Holding, Joined}
use Rattle.cr_lock.specs.declared.pass_state.PassState.{PassState}
use Rattle.cr_lock.specs.Counts.{last_count, has_risen, within, total, Every, Among}
use Rattle.cr_lock.specs.Turns.{turn_at, end_of, groups_with, marks, rises, StandsIn}
use Rattle.cr_lock.specs.PassStates.{spent_state}
use Rattle.cr_lock.specs.Rule.{holds_ticket, has_value, FitsActivity, FitsLock, IsMade, IsOutside, Home, Away}
use Rattle.cr_lock.specs.Steps.{Looked, Noted, noted_at, WentOn}
use Rattle.cr_lock.proofs.Prefixes.{prefix_self, prefix_length, prefix_drop, every_longer, every_snoc}
use Rattle.cr_lock.proofs.Order.{snoc_in_order, places_below}
use Rattle.cr_lock.proofs.Sums.{total_append, total_set, total_at, total_two, total_gap, within_join, within_one}
use Rattle.cr_lock.proofs.Sums.{within_in, within_is}
use Rattle.cr_lock.proofs.Reaching.{any_at, any_left, any_right, set_at, reached_next, reached_on}
use Rattle.cr_lock.proofs.Changes.{Rule, Rose, has, change, alike_set, made_set, risen_same, ticket_small}

-- a turn that found the value x and left y, which stood for the list xs and stands for ys
abbrev pub after_turn : {T E : Type 0} → PassState T E → T → T → List E → List E → ℕ → ℕ → PassState T E
after_turn v x y xs ys m n = record v {
  turns = v.turns + 1;
  seen = ys;
  mine = v.mine ++ turn_at (length xs) (drop (length xs) ys) m n x y ∷ [];
  left = Some y;
}

-- what is at home is one value
pub same_home : {T : Type 0} (left : Option T) (x : T) (homes : List (mathlib.Core.Option.Option (Option T)))
    → homes ≡ some (Some x) ∷ []
    → IfSome left (λ value. homes ≡ some (Some value) ∷ []) → IfSome left (λ value. x ≡ value)
same_home None x homes is left = tt
same_home (Some y) x homes is left =
    let heads : some (Some x) ≡ some (Some y) = cc (is, left) in
    let values : Some x ≡ Some y = some-injective (Some x) (Some y) heads in cc (values)

-- a pass that has the value holds the ticket that is served
has_at_most : {T E : Type 0} (start : ℕ) (log : List E) (serving : ℕ) (risen : T → Type 0) (v : PassState T E)
    (activity : Activity T E)
    → FitsActivity start log serving risen v activity → has_value activity ≤ holds_ticket serving activity
has_at_most start log serving risen v Idle f = omega arith
has_at_most start log serving risen v (Waiting u) f = omega arith
has_at_most start log serving risen v (Holding u x) f = let e : within u (u + 1) serving ≡ 1 =
    (let z = f.0 in within_in u (u + 1) serving (omega arith) (omega arith)) in omega arith
has_at_most start log serving risen v (Joined a b m o) f = omega arith

served : {T E : Type 0} (start : ℕ) (log : List E) (serving : ℕ) (risen : T → Type 0) (v : PassState T E) (t : ℕ)
    (x : T)
    → v.activity ≡ Holding t x → FitsLock start log serving risen v → (t ≡ serving) × (v.seen ≡ log) × risen x
served start log serving risen v t x e f =
    subst (λ activity. FitsActivity start log serving risen v activity) e f.activity

-- the count of faults has risen by one more mark, where it has risen
marked_more : (a n c : ℕ) → n ≤ c → (a ≤ n) ⊎ (last_count ≤ n) → (a + (if has_risen n c then 1 else 0) ≤ c)
    ⊎ (last_count ≤ c)
marked_more a n c le h =
    ⊎_elim (λ (p : a ≤ n). dite (dec_le last_count c) (λ full. inr full) (λ less. inl (grind (arith, nat_tests))))
    (λ (p : last_count ≤ n). inr (omega arith)) h

module _ {T E Root : Type 0} (list : T → List E) (faults : T → ℕ) (root : T → Root) (first : T) where
  abbrev V : Type 0
  V = PassState T E

  abbrev St : Type 0
  St = State (Option T) V

  abbrev R : St → Type 0
  R = Rule list faults root first

  abbrev start : ℕ
  start = length (list first)

  abbrev Up : List V → T → Type 0
  Up = Rose list faults root first

  alive_share : (v : V) → v.activity ≢ Idle → ((0 < v.share) × (start ≤ length v.seen)) ⊎ (v ≡ spent_state)
      → (0 < v.share) × (start ≤ length v.seen)
  alive_share v busy a = ⊎_elim (λ (h : (0 < v.share) × (start ≤ length v.seen)). h)
      (λ (h : v ≡ spent_state). absurd (busy (ap (λ (u : V). u.activity) h))) a

  -- who waits for the ticket that is served finds the value at home
  at_home : (s : St) (r : R s) (id : ℕ) (v : V) (t : ℕ) → get_elem? s.views id ≡ some v → v.activity ≡ Waiting t
      → t ≡ r.serving
      → total (λ (u : V). has_value u.activity) s.views ≡ 0
  at_home s r id v t at waits e =
      let F : V → ℕ = λ u. holds_ticket r.serving u.activity in
      let G : V → ℕ = λ u. has_value u.activity in
      let p : total G s.views + holds_ticket r.serving v.activity ≤ total F s.views + has_value v.activity =
      total_gap F G s.views id v (λ j u a. has_at_most start r.log r.serving (Up s.views) u u.activity
      (r.each j u a).activity) at in
      let a : holds_ticket r.serving v.activity ≡ 1 =
      ap (holds_ticket r.serving) waits ∙ within_in t (t + 1) r.serving (omega arith) (omega arith) in
      let b : has_value v.activity ≡ 0 = ap has_value waits in
      let c = r.tickets r.serving in
      let d : within r.serving r.ticket r.serving ≤ 1 = within_one r.serving r.ticket r.serving in omega arith

  look_takes : (s : St) (r : R s) (id : ℕ) (v : V) (t : ℕ) (x : T) → get_elem? s.views id ≡ some v
      → v.activity ≡ Waiting t → t ≡ r.serving
      → s.homes ≡ some (Some x) ∷ [] → list x ≡ r.log → Up s.views x
      → R record {
        words = set s.words 1 (get_or s.words 1 0);
        homes = set s.homes 0 none;
        views = set s.views id (record v { seen = list x; activity = Holding t x });
      }
  look_takes s r id v t x at waits e home stands up =
      let w : V = record v { seen = list x; activity = Holding t x } in
      let f = r.each id v at in
      let vs' = set s.views id w in
      let nobody : total (λ (u : V). has_value u.activity) s.views ≡ 0 = at_home s r id v t at waits e in
      let no : has_value v.activity ≡ 0 = ap has_value waits in
      let same = alike_set list faults root first s.views id v w at refl in
      let one : total (λ (u : V). has_value u.activity) vs' ≡ 1 =
      (let c : total (λ (u : V). has_value u.activity) vs' + has_value v.activity
      ≡ total (λ (u : V). has_value u.activity) s.views + 1 =
      total_set (λ (u : V). has_value u.activity) s.views id v w at in omega arith) in
      let seen : IsPrefix v.seen (list x) = subst (λ z. IsPrefix v.seen z) (sym stands) f.seen in
      let longer : length v.seen ≤ length (list x) = prefix_length v.seen (list x) seen in
      let alive = alive_share v (λ idle. absurd (cc (idle, waits))) f.alive in
      change list faults root first s r id v w at r.log r.ticket r.serving (set s.words 1 (get_or s.words 1 0))
      (set s.homes 0 none)
      (set-get_or s.words 1 0 ∙ r.words)
      r.order
      (prefix_self r.log)
      (λ k. (let a : holds_ticket k v.activity ≡ within t (t + 1) k = ap (holds_ticket k) waits in omega arith))
      refl
      (omega arith)
      (λ k. refl)
      (record {
        seen = subst (λ z. IsPrefix z r.log) (sym stands) (prefix_self r.log);
        few = f.few;
        stand = every_longer v.seen (list x) v.mine seen f.stand;
        sorted = f.sorted;
        activity = (e, stands, risen_same list faults root first s.views vs' x same up);
        alive = inl (alive.0, omega arith);
      })
      (λ j u ne a k y is' g. absurd (let h : has_value u.activity ≡ 1 = ap has_value is' in
      let q : has_value u.activity ≤ total (λ (z : V). has_value z.activity) s.views =
      total_at (λ (z : V). has_value z.activity) s.views j u a in
      omega arith))
      alive.0
      (λ whole outside. absurd outside)
      (inr (ap (λ hs. set hs 0 none) home, one))

  look_finds : (s : St) (r : R s) (id : ℕ) (v : V) (t : ℕ) → get_elem? s.views id ≡ some v → v.activity ≡ Waiting t
      → t ≡ r.serving
      → Home list faults root first r.log s ⊎ Away list faults root first s → Home list faults root first r.log s
  look_finds s r id v t at waits e h = ⊎_elim (λ (a : Home list faults root first r.log s). a)
      (λ (a : Away list faults root first s). absurd
      (let z : total (λ (u : V). has_value u.activity) s.views ≡ 0 = at_home s r id v t at waits e in
      let o = a.1 in omega arith)) h

  yes_is : (t u : ℕ) {activity : Activity T E} → activity ≡ Waiting t → activity ≡ Waiting u → t ≡ u
  yes_is t u a b = cc (a, b)

  unmoved : (s : St) (id : ℕ) (v : V) → get_elem? s.views id ≡ some v
      → s ≡ record { words = set s.words 1 (get_or s.words 1 0); homes = s.homes; views = set s.views id v }
  unmoved s id v at =
      sym (ap (λ (ws : List ℕ). record { words = ws; homes = s.homes; views = set s.views id v })
      (set-get_or s.words 1 0)
      ∙ ap (λ (vs : List V). record { words = s.words; homes = s.homes; views = vs }) (set_again s.views id v at))

  looks_at : (slots id : ℕ) (v : V) (t : ℕ) → v.activity ≡ Waiting t
      → Allows R slots id (v, []) 1 (λ n. n) (Looked list (step slots 1 0 0 none) (v, []))
  looks_at slots id v t waits s r _ at _ =
      let m : ℕ = get_or s.words 1 0 in
      let here : m ≡ r.serving = ap (λ (ws : List ℕ). get_or ws 1 0) r.words in
      dite (ℕ_discrete m t)
      (λ yes. let h = look_finds s r id v t at waits (sym yes ∙ here) r.value in let x : T = h.0 in let f =
      r.each id v at in (
        record v { seen = list x; activity = Holding t x },
        takes 0 (Some x),
        ap (λ hs. get_elem? hs 0) h.1,
        look_takes s r id v t x at waits (sym yes ∙ here) h.1 h.2 h.3,
        λ u e. (
          λ is. (
            x,
            subst (λ z. IsPrefix v.seen z) (sym h.2) f.seen,
            λ whole. same_home v.left x s.homes h.1 (r.lone id v at whole (subst IsOutside (sym waits) tt)),
            ap (λ (k : ℕ). (record v { seen = list x; activity = Holding k x }, (0, Some x) ∷ []))
                (yes_is t u waits e),
          ),
          λ no. absurd (no (yes ∙ yes_is t u waits e)),
        ),
      ))
      (λ no. (
        v,
        keeps,
        tt,
        subst R (unmoved s id v at) r,
        λ u e. (λ is. absurd (no (is ∙ yes_is u t e waits)), λ _. refl),
      ))

  same_turn : (t t' : ℕ) (x x' y y' : T) {activity : Activity T E} → activity ≡ Holding t x → activity ≡ Holding t' x'
      → ◌≡◌ {A = List (ℕ × Option T)} ((0, Some y) ∷ []) ((0, Some y') ∷ []) → ◌≡◌ {A = ℕ × T × T} (t, x, y) (t', x', y')
  same_turn t t' x x' y y' a b c = let p : t ≡ t' = cc (a, b) in let q : x ≡ x' = cc (a, b) in
      let d : ◌≡◌ {A = ℕ × Option T} (0, Some y) (0, Some y') = cc (c) in
      let e : ◌≡◌ {A = Option T} (Some y) (Some y') = ap (λ (z : ℕ × Option T). z.1) d in
      let o : y ≡ y' = cc (e) in λ i. (p i, q i, o i)

  -- where the pass has the value, it is away, and no other pass has it
  away : (s : St) (r : R s) (id : ℕ) (v : V) (t : ℕ) (x : T) → get_elem? s.views id ≡ some v → v.activity ≡ Holding t x
      → Home list faults root first r.log s ⊎ Away list faults root first s → Away list faults root first s
  away s r id v t x at has h =
      ⊎_elim (λ (a : Home list faults root first r.log s).
      absurd (let one : has_value v.activity ≡ 1 = ap has_value has in
      let q : has_value v.activity ≤ total (λ (z : V). has_value z.activity) s.views =
      total_at (λ (z : V). has_value z.activity) s.views id v at in
      let z = a.4 in omega arith))
      (λ (a : Away list faults root first s). a) h

  no_other : (s : St) (id : ℕ) (v : V) (t : ℕ) (x : T) → get_elem? s.views id ≡ some v → v.activity ≡ Holding t x
      → total (λ (z : V). has_value z.activity) s.views ≡ 1
      → (j : ℕ) (u : V) → j ≢ id → get_elem? s.views j ≡ some u → (k : ℕ) (y : T) → u.activity ≡ Holding k y → ⊥
  no_other s id v t x at has one j u ne a k y is =
      let p : has_value v.activity ≡ 1 = ap has_value has in let q : has_value u.activity ≡ 1 = ap has_value is in
      let two : has_value u.activity + has_value v.activity ≤ total (λ (z : V). has_value z.activity) s.views =
      total_two (λ (z : V). has_value z.activity) s.views j id u v ne a at in omega arith

  note_keeps : (s : St) (r : R s) (id : ℕ) (v : V) (t : ℕ) (x y : T) (k : ℕ) → get_elem? s.views id ≡ some v
      → v.activity ≡ Holding t x → IsPrefix v.seen (list y) → faults x ≤ faults y → root x ≡ root y
      → length v.seen + k ≡ length (list y) → length (list y) < 2 ^ 64
      → R record {
        words = set s.words 2 ((get_or s.words 2 0 + k) % 2 ^ 64);
        homes = s.homes;
        views = set s.views id (noted_at list faults t v x y);
      }
  note_keeps s r id v t x y k at has seen le kept len small =
      let w : V = noted_at list faults t v x y in
      let f = r.each id v at in
      let mine = served start r.log r.serving (Up s.views) v t x has f in
      let vs' = set s.views id w in
      let out = away s r id v t x at has r.value in
      let group : List E = drop (length v.seen) (list y) in
      let flag = has_risen (faults x) (faults y) in
      let turn : Turn T E = turn_at (length v.seen) group (faults x) (faults y) x y in
      let grows : IsPrefix r.log (list y) = subst (λ z. IsPrefix z (list y)) mine.1 seen in
      let seen_length : length v.seen ≡ length r.log = ap length mine.1 in
      let begun : start ≤ length r.log = prefix_length (list first) r.log r.begins in
      let longer : length r.log ≤ length (list y) = prefix_length r.log (list y) grows in
      let glen : length group ≡ length (list y) - length v.seen = length-drop (length v.seen) (list y) in
      let here : get_or s.words 2 0 ≡ length r.log = ap (λ (ws : List ℕ). get_or ws 2 0) r.words in
      let now : (get_or s.words 2 0 + k) % 2 ^ 64 ≡ length (list y) =
      (let e : get_or s.words 2 0 + k ≡ length (list y) = omega arith in
      let q : (get_or s.words 2 0 + k) % 2 ^ 64 ≡ get_or s.words 2 0 + k = mod-eq_of_lt (omega arith) in q ∙ e) in
      let more : total (λ (u : V). marks u.mine) vs' + marks v.mine ≡ total (λ (u : V). marks u.mine) s.views
      + marks w.mine =
      total_set (λ (u : V). marks u.mine) s.views id v w at in
      let mark : marks w.mine ≡ marks v.mine + (if flag then 1 else 0) =
      (let a : marks (v.mine ++ turn ∷ []) ≡ marks v.mine + ((if flag then 1 else 0) + 0) =
      total_append (λ (z : Turn T E). if z.marked then 1 else 0) v.mine (turn ∷ []) in omega arith) in
      let up : Up vs' y = record {
        stays = sym kept ∙ mine.2.stays;
        reached = reached_next (IsMade vs') first turn
            (any_at (λ (u : V). Among u.mine turn) vs' id w (set_at s.views id v w at)
            (any_right (λ (z : Turn T E). turn ≡ z) v.mine (turn ∷ []) (inl refl)))
            (reached_on (IsMade s.views) (IsMade vs') first x
            (λ z a. made_set s.views id v w z at (any_left (λ (c : Turn T E). z ≡ c) v.mine (turn ∷ [])) a)
            mine.2.reached);
        marks =
            (let h = marked_more (faults first + total (λ (u : V). marks u.mine) s.views) (faults x) (faults y) le
            mine.2.marks in
            ⊎_elim (λ (a : faults first + total (λ (u : V). marks u.mine) s.views + (if flag then 1 else 0) ≤ faults y).
            inl (omega arith))
            (λ (a : last_count ≤ faults y). inr a) h);
        count = (let h = mine.2.count in
            let c : total (λ (u : V). rises u.mine) vs' + rises v.mine ≡ total (λ (u : V). rises u.mine) s.views
            + rises w.mine =
            total_set (λ (u : V). rises u.mine) s.views id v w at in
            let up : rises w.mine ≡ rises v.mine + (faults y - faults x + 0) =
            total_append (λ (z : Turn T E). z.rise) v.mine (turn ∷ []) in omega arith);
      } in
      let one : total (λ (u : V). has_value u.activity) vs' ≡ 1 =
      (let a : has_value v.activity ≡ 1 = ap has_value has in let b = out.1 in
      let c : total (λ (u : V). has_value u.activity) vs' + has_value v.activity
      ≡ total (λ (u : V). has_value u.activity) s.views + 1 =
      total_set (λ (u : V). has_value u.activity) s.views id v w at in omega arith) in
      let alive = alive_share v (λ idle. absurd (cc (idle, has))) f.alive in
      change list faults root first s r id v w at (list y) r.ticket r.serving
      (set s.words 2 ((get_or s.words 2 0 + k) % 2 ^ 64)) s.homes
      (ap (λ (ws : List ℕ). set ws 2 ((get_or s.words 2 0 + k) % 2 ^ 64)) r.words
      ∙ ap (λ (z : ℕ). r.ticket ∷ r.serving ∷ z ∷ []) now)
      r.order
      grows
      (λ j. (let a : holds_ticket j v.activity ≡ within t (t + 1) j = ap (holds_ticket j) has in omega arith))
      refl
      (omega arith)
      (λ j. (let a : within start (length r.log) j + within (length r.log) (length (list y)) j
      ≡ within start (length (list y)) j =
      within_join start (length r.log) (length (list y)) j begun longer in
      let b : groups_with j (v.mine ++ turn ∷ []) ≡ groups_with j v.mine
      + (within (length v.seen) (length v.seen + length group) j + 0) =
      total_append (λ (z : Turn T E). within z.place (end_of z) j) v.mine (turn ∷ []) in
      let c : within (length v.seen) (length v.seen + length group) j ≡ within (length r.log) (length (list y)) j =
      ap (λ (z : ℕ × ℕ). within z.0 z.1 j)
      (λ i. (seen_length i, (let e : length v.seen + length group ≡ length (list y) = omega arith in e) i)) in
      omega arith))
      (record {
        seen = prefix_self (list y);
        few = f.few;
        stand = every_snoc (StandsIn (list y)) v.mine turn (every_longer v.seen (list y) v.mine seen f.stand)
            (v.seen, refl, ([], append-nil (v.seen ++ group) ∙ prefix_drop v.seen (list y) seen));
        sorted = snoc_in_order v.mine turn f.sorted (places_below v.seen v.mine f.stand);
        activity = (mine.0, refl, up);
        alive = inl (alive.0, (let a = alive.1 in omega arith));
      })
      (λ j u ne a i z is g. absurd (no_other s id v t x at has out.1 j u ne a i z is))
      alive.0
      (λ whole outside. absurd outside)
      (inr (out.0, one))

  notes_at : (slots id : ℕ) (v : V) (t : ℕ) (x y : T) (k : ℕ) → v.activity ≡ Holding t x → IsPrefix v.seen (list y)
      → faults x ≤ faults y → root x ≡ root y
      → length v.seen + k ≡ length (list y) → length (list y) < 2 ^ 64
      → Allows R slots id (v, (0, Some y) ∷ []) 2 (λ m. (m + k) % 2 ^ 64)
      (Noted list faults (step slots 2 k 0 none) (v, (0, Some y) ∷ []))
  notes_at slots id v t x y k has seen le kept len small s r _ at _ = (
    noted_at list faults t v x y,
    keeps,
    tt,
    note_keeps s r id v t x y k at has seen le kept len small,
    λ t' x' y' has' is. ap (λ (z : ℕ × T × T). (noted_at list faults z.0 v z.1 z.2, (0, Some y) ∷ []))
        (same_turn t t' x x' y y' has has' is),
  )

  next_keeps : (s : St) (r : R s) (id : ℕ) (v : V) (t : ℕ) (x : T) → get_elem? s.views id ≡ some v
      → v.activity ≡ Holding t x
      → list x ≡ v.seen → v.left ≡ Some x
      → R record {
        words = set s.words 1 ((get_or s.words 1 0 + 1) % 2 ^ 64);
        homes = set s.homes 0 (some (Some x));
        views = set s.views id (record v { activity = Idle });
      }
  next_keeps s r id v t x at has stands left =
      let w : V = record v { activity = Idle } in
      let f = r.each id v at in
      let mine = served start r.log r.serving (Up s.views) v t x has f in
      let vs' = set s.views id w in
      let out = away s r id v t x at has r.value in
      let same = alike_set list faults root first s.views id v w at refl in
      let nobody : total (λ (u : V). has_value u.activity) vs' ≡ 0 =
      (let a : has_value v.activity ≡ 1 = ap has_value has in let b = out.1 in
      let c : total (λ (u : V). has_value u.activity) vs' + has_value v.activity
      ≡ total (λ (u : V). has_value u.activity) s.views + 0 =
      total_set (λ (u : V). has_value u.activity) s.views id v w at in omega arith) in
      let below : (r.serving ≤ r.serving) × (r.serving < r.ticket) =
      (let a : holds_ticket r.serving v.activity ≡ 1 = ap (holds_ticket r.serving) has
      ∙ (let z = mine.0 in within_in t (t + 1) r.serving (omega arith) (omega arith)) in
      let b : holds_ticket r.serving v.activity ≤ total (λ (u : V). holds_ticket r.serving u.activity) s.views =
      total_at (λ (u : V). holds_ticket r.serving u.activity) s.views id v at in
      let c = r.tickets r.serving in within_is r.serving r.ticket r.serving (omega arith)) in
      let few = ticket_small list faults root first s r in
      let here : get_or s.words 1 0 ≡ r.serving = ap (λ (ws : List ℕ). get_or ws 1 0) r.words in
      let now : (get_or s.words 1 0 + 1) % 2 ^ 64 ≡ r.serving + 1 =
      (let b = below.1 in let q : (get_or s.words 1 0 + 1) % 2 ^ 64 ≡ get_or s.words 1 0 + 1 =
      mod-eq_of_lt (omega arith) in
      q ∙ ap (λ (z : ℕ). z + 1) here) in
      change list faults root first s r id v w at r.log r.ticket (r.serving + 1)
      (set s.words 1 ((get_or s.words 1 0 + 1) % 2 ^ 64)) (set s.homes 0 (some (Some x)))
      (ap (λ (ws : List ℕ). set ws 1 ((get_or s.words 1 0 + 1) % 2 ^ 64)) r.words
      ∙ ap (λ (z : ℕ). r.ticket ∷ z ∷ length r.log ∷ []) now)
      (let b = below.1 in omega arith)
      (prefix_self r.log)
      (λ j. (let a : holds_ticket j v.activity ≡ within t (t + 1) j = ap (holds_ticket j) has in
      let b : within t (t + 1) j ≡ within r.serving (r.serving + 1) j = ap (λ (z : ℕ). within z (z + 1) j) mine.0 in
      let c : within r.serving (r.serving + 1) j + within (r.serving + 1) r.ticket j ≡ within r.serving r.ticket j =
      within_join r.serving (r.serving + 1) r.ticket j (omega arith) (let z = below.1 in omega arith) in omega arith))
      refl
      (omega arith)
      (λ j. refl)
      (record {
        seen = f.seen;
        few = f.few;
        stand = f.stand;
        sorted = f.sorted;
        activity = tt;
        alive = inl (alive_share v (λ idle. absurd (cc (idle, has))) f.alive);
      })
      (λ j u ne a i z is g. absurd (no_other s id v t x at has out.1 j u ne a i z is))
      (alive_share v (λ idle. absurd (cc (idle, has))) f.alive).0
      (λ whole outside. subst (λ (o : Option T).
      IfSome o (λ value. set s.homes 0 (some (Some x)) ≡ some (Some value) ∷ [])) (sym left)
      (ap (λ hs. set hs 0 (some (Some x))) out.0))
      (inl (
        x,
        ap (λ hs. set hs 0 (some (Some x))) out.0,
        stands
            ∙ mine.1,
        risen_same list faults root first s.views vs' x same mine.2,
        nobody,
      ))

  goes_on_at : (slots id : ℕ) (v : V) (t : ℕ) (x : T) → v.activity ≡ Holding t x → list x ≡ v.seen
      → v.left ≡ Some x
      → Allows R slots id (v, (0, Some x) ∷ []) 1 (λ m. (m + 1) % 2 ^ 64)
      (WentOn (step slots 1 1 0 none) (v, (0, Some x) ∷ []))
  goes_on_at slots id v t x has stands left s r _ at _ = (
    record v { activity = Idle },
    gives,
    tt,
    next_keeps s r id v t x at has stands left,
    (refl, (r.each id v at).stand),
  )

  pub looks : (slots id : ℕ) (me : Me (Option T) V) (t : ℕ) → me.0.activity ≡ Waiting t → me.1 ≡ []
      → Allows R slots id me 1 (λ n. n) (Looked list (step slots 1 0 0 none) me)
  looks slots id me t waits held =
      subst (λ (m : Me (Option T) V). Allows R slots id m 1 (λ n. n)
      (Looked list (step slots 1 0 0 none) m))
      (λ i. (me.0, sym held i)) (looks_at slots id me.0 t waits)

  pub notes : (slots id : ℕ) (me : Me (Option T) V) (t : ℕ) (x y : T) (k : ℕ) → me.0.activity ≡ Holding t x
      → me.1 ≡ (0, Some y) ∷ [] → IsPrefix me.0.seen (list y) → faults x ≤ faults y → root x ≡ root y
      → length me.0.seen + k ≡ length (list y) → length (list y) < 2 ^ 64
      → Allows R slots id me 2 (λ m. (m + k) % 2 ^ 64) (Noted list faults (step slots 2 k 0 none) me)
  notes slots id me t x y k has held seen le kept len small =
      subst (λ (m : Me (Option T) V). Allows R slots id m 2 (λ m. (m + k) % 2 ^ 64)
      (Noted list faults (step slots 2 k 0 none) m)) (λ i. (me.0, sym held i))
      (notes_at slots id me.0 t x y k has seen le kept len small)

  pub goes_on : (slots id : ℕ) (me : Me (Option T) V) (t : ℕ) (x : T) → me.0.activity ≡ Holding t x
      → me.1 ≡ (0, Some x) ∷ []
      → list x ≡ me.0.seen → me.0.left ≡ Some x
      → Allows R slots id me 1 (λ m. (m + 1) % 2 ^ 64) (WentOn (step slots 1 1 0 none) me)
  goes_on slots id me t x has held stands left = subst
      (λ (m : Me (Option T) V). Allows R slots id m 1 (λ m. (m + 1) % 2 ^ 64) (WentOn (step slots 1 1 0 none) m))
      (λ i. (me.0, sym held i))
      (goes_on_at slots id me.0 t x has stands left)

  -- the pass with the value, as it has been given back to the slot
  pub put_back : (v w : V) (held : List (ℕ × Option T)) (me : Me (Option T) V) (y : T) → w ≡ v → held ≡ (0, None) ∷ []
      → me ≡ (w, (0, Some y) ∷ rest held)
      → me ≡ (v, (0, Some y) ∷ [])
  put_back v w held me y a b e = e ∙ (λ i. (a i, (0, Some y) ∷ rest (b i)))

  pub notes_from : (slots id : ℕ) (me : Me (Option T) V) (v : V) (t : ℕ) (x y : T) (before after : ℕ)
      → me ≡ (
        record v { turns = v.turns + 1; seen = list x; activity = Holding t x },
        (0, Some y) ∷ [],
      )
      → IsPrefix (list x) (list y) → faults x ≤ faults y → root x ≡ root y → before ≡ length (list x)
      → after ≡ length (list y) → after < 2 ^ 64
      → Allows R slots id me 2 (λ m. (m + (after - before)) % 2 ^ 64)
      (Noted list faults (step slots 2 (after - before) 0 none) me)
  notes_from slots id me v t x y before after is grows le kept b a small =
      let longer : length (list x) ≤ length (list y) = prefix_length (list x) (list y) grows in
      let seen : length me.0.seen ≡ length (list x) = ap (λ (m : Me (Option T) V). length m.0.seen) is in
      notes slots id me t x y (after - before) (ap (λ (m : Me (Option T) V). m.0.activity) is)
      (ap (λ (m : Me (Option T) V). m.1) is)
      (subst (λ (m : Me (Option T) V). IsPrefix m.0.seen (list y)) (sym is) grows) le kept (omega arith) (omega arith)

  pub noted_from : (me next : Me (Option T) V) (v : V) (t k slots found : ℕ) (x y : T)
      → me ≡ (
        record v { turns = v.turns + 1; seen = list x; activity = Holding t x },
        (0, Some y) ∷ [],
      )
      → Noted list faults (step slots 2 k 0 none) me found next
      → next ≡ (
        record (after_turn v x y (list x) (list y) (faults x) (faults y)) { activity = Holding t y },
        (0, Some y) ∷ [],
      )
  noted_from me next v t k slots found x y is told =
      told t x y (ap (λ (m : Me (Option T) V). m.0.activity) is)
      (ap (λ (m : Me (Option T) V). m.1) is)
      ∙ ap (λ (m : Me (Option T) V). (noted_at list faults t m.0 x y, m.1)) is

  pub goes_on_from : (slots id : ℕ) (me : Me (Option T) V) (v : V) (t : ℕ) (x y : T)
      → me ≡ (
        record (after_turn v x y (list x) (list y) (faults x) (faults y)) { activity = Holding t y },
        (0, Some y) ∷ [],
      )
      → Allows R slots id me 1 (λ m. (m + 1) % 2 ^ 64) (WentOn (step slots 1 1 0 none) me)
  goes_on_from slots id me v t x y is = goes_on slots id me t y (ap (λ (m : Me (Option T) V). m.0.activity) is)
      (ap (λ (m : Me (Option T) V). m.1) is) (sym (ap (λ (m : Me (Option T) V). m.0.seen) is))
      (ap (λ (m : Me (Option T) V). m.0.left) is)

  -- after next the pass rests
  pub went_from : (me end : Me (Option T) V) (v : V) (t slots found : ℕ) (x y : T) → v.activity ≡ Idle
      → me ≡ (
        record (after_turn v x y (list x) (list y) (faults x) (faults y)) { activity = Holding t y },
        (0, Some y) ∷ [],
      )
      → WentOn (step slots 1 1 0 none) me found end
      → (end ≡ (after_turn v x y (list x) (list y) (faults x) (faults y), [])) × Every (StandsIn end.0.seen) end.0.mine
  went_from me end v t slots found x y idle is told = (
    told.0 ∙ (ap (λ (m : Me (Option T) V). (record m.0 { activity = Idle }, [])) is
        ∙ ap
        (λ (r : Activity T E). (
          record (after_turn v x y (list x) (list y) (faults x) (faults y)) { activity = r },
          [],
        )) (sym idle)),
    subst (λ (m : Me (Option T) V). Every (StandsIn m.0.seen) m.0.mine) (sym told.0) told.1,
  )
