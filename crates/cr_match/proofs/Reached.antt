-- SPDX-License-Identifier: Apache-2.0 OR MIT
-- One more step of a search.
use Rattle.cr_match.proofs.Common.{◌≡◌, ◌≢◌, ◌⊎◌, inl, inr, ℕ, ◌+◌, ◌<◌, ◌≤◌, List, length, get_or, refl, Board}
use Rattle.cr_match.proofs.Common.{length-set, get_or-set_other, get_or-set_same, arith, ap, sym, ◌∙◌, subst, cases_eq}
use Rattle.cr_match.proofs.Common.{cases_lt, Has, Moves, Path, Step, Trail, Takes, Drops, step_of, IsLong, AreSteps}
use Rattle.cr_match.proofs.Common.{NoneDrops, IsSpread, Goes, GoesOn, IsReached, IsExpanded, IsDone, IsRoomy}
use Rattle.cr_match.proofs.Common.{IsSearched, Option, Some, None, IfNone, ◌↔◌}
use Rattle.std.proofs.Common.{IfSome}
use Rattle.cr_match.specs.Search.{Reaches}
use Rattle.cr_match.proofs.Sets.{clear_none, gone_le, gone_none, gone-lt}

abbrev pub step : ℕ → ℕ → ℕ → Step
step m p f = record { member = m; paper = p; from = f }

-- no more steps than there are members, nobody with them
pub steps_le : {b : Board} {v : Moves} {t : Path} → AreSteps b v t → t.count ≤ b.members + 1
steps_le {b} {v} {t} h = omega (arith, h.count, gone_le t.members.items (b.members + 1))

-- a member who isn't reached has room among the steps
pub room : {b : Board} {v : Moves} {s : Path} (m : ℕ) → IsLong b s → AreSteps b v s → m ≤ b.members
    → (Has s.members.items m → ⊥) → s.count < length s.steps.items
room {b} {v} {s} m long steps lm none =
    omega (arith, long.steps, steps.count, gone-lt s.members.items m (b.members + 1) none (omega (arith, lm)))

module _ {m p f : ℕ} {s t : Path} (r : Reaches m p f s t) (inside : s.count < length s.steps.items) where
  last : step_of t s.count ≡ step m p f
  last = ap (λ (x : List Step). get_or x s.count (step 0 0 0)) r.steps
      ∙ get_or-set_same s.steps.items s.count (step m p f) (step 0 0 0) inside

  pub last_member : (step_of t s.count).member ≡ m
  last_member = ap (λ (x : Step). x.member) last

  early : (i : ℕ) → i < s.count → step_of t i ≡ step_of s i
  early i lt = ap (λ (x : List Step). get_or x i (step 0 0 0)) r.steps
      ∙ get_or-set_other s.steps.items s.count i (step m p f) (step 0 0 0) (λ e. absurd (omega (arith, e, lt)))

  -- a step below the new count is an early one or the last
  pub either : (P : ℕ → Step → Type 0) → ((i : ℕ) → i < s.count → P i (step_of s i)) → P s.count (step m p f)
      → (i : ℕ) → i < t.count → P i (step_of t i)
  either P old new i lt = elim (cases_lt i s.count) [
    | inl less ↦ subst (P i) (sym (early i less)) (old i less)
    | inr more ↦ let e : s.count ≡ i = omega (arith, lt, more, r.count) in
        subst (λ k. P k (step_of t k)) e (subst (P s.count) (sym last) new)
  ]

  grows : (j : ℕ) → Has s.members.items j → Has t.members.items j
  grows j has = elim (cases_eq j m) [
    | inl e ↦ subst (λ k. Has t.members.items k) (sym e) r.same
    | inr ne ↦ (r.others j ne).1 has
  ]

  pub goes_on : Goes s t
  goes_on = record { count = omega (arith, r.count); steps = early; members = grows }

  pub still_long : {b : Board} → IsLong b s → IsLong b t
  still_long h = record {
    members = (
      omega (arith, h.members.0, r.long),
      omega (arith, h.members.1, r.long),
      omega (arith, h.members.2, r.long),
    );
    steps = ap (λ (x : List Step). length x) r.steps ∙ length-set s.steps.items s.count (step m p f) ∙ h.steps;
  }

  -- a step behind the same root, or a new root
  pub still_steps : {b : Board} {v : Moves} → AreSteps b v s → m ≤ b.members → p ≤ b.papers
      → (Has s.members.items m → ⊥)
      → ((f ≡ s.count) ⊎ ((f < s.count) × Takes b v p m × Drops b v (step_of s f).member p))
      → ((t.root ≡ s.root) × (m < b.members) × (s.root ≤ f) × (f < s.count)) ⊎ (t.root ≡ s.count) → AreSteps b v t
  still_steps {b} {v} h lm lp none leads root = record {
    count = omega (arith, r.count, h.count, r.more (b.members + 1) none (omega (arith, lm)));
    inside = either (λ _ x. x.member ≤ b.members) h.inside lm;
    rows = either (λ _ x. x.paper ≤ b.papers) h.rows lp;
    seen = either (λ _ x. Has t.members.items x.member) (λ i lt. grows (step_of s i).member (h.seen i lt)) r.same;
    taken = λ i li lt. either (λ k x. t.root < k → x.member < b.members) old_taken new_taken i lt li;
    apart = λ i j lj li. elim (cases_lt i s.count) [
      | inl less ↦ λ e. h.apart i j lj less (ap (λ (x : Step). x.member) (sym (early i less)) ∙ e
          ∙ ap (λ (x : Step). x.member) (early j (omega (arith, lj, less))))
      | inr more ↦ let at : i ≡ s.count = omega (arith, li, more, r.count) in
          λ e. none (subst (λ k. Has s.members.items k) (ap (λ (x : Step). x.member)
          (sym (early j (omega (arith, lj, at)))) ∙ sym e ∙ ap (λ k. (step_of t k).member) at ∙ last_member)
          (h.seen j (omega (arith, lj, at))))
    ];
    found = λ k lk has. elim (cases_eq k m) [
      | inl e ↦ (s.count, omega (arith, r.count), last_member ∙ sym e)
      | inr ne ↦ let old = h.found k lk ((r.others k ne).0 has) in
          (old.0, omega (arith, old.1, r.count), ap (λ (x : Step). x.member) (early old.0 old.1) ∙ old.2)
    ];
    leads = either (λ i x. (x.from ≡ i) ⊎ ((x.from < i) × Takes b v x.paper x.member
        × Drops b v (step_of t x.from).member x.paper)) (λ i lt. elim (h.leads i lt) [
          | inl own ↦ inl own
          | inr old ↦ inr (
            old.0,
            old.1,
            drops_still (step_of s i).from (step_of s i).paper
                (omega (arith, old.0, lt)) old.2,
          )
        ]) (elim leads [ inl own ↦ inl own | inr new ↦ inr (new.0, new.1, drops_still f p new.0 new.2) ]);
    after = λ i li lt. either (λ k x. t.root < k → (t.root ≤ x.from) × (x.from < k)) old_after new_after i lt li;
  }
    where
      drops_still : (i q : ℕ) → i < s.count → Drops b v (step_of s i).member q → Drops b v (step_of t i).member q
      drops_still i q lt = subst (λ (x : Step). Drops b v x.member q) (sym (early i lt))

      old_taken : (i : ℕ) → i < s.count → t.root < i → (step_of s i).member < b.members
      old_taken i lt li = elim root [
        | inl same ↦ h.taken i (omega (arith, li, same.0)) lt
        | inr new ↦ absurd (omega (arith, li, lt, new))
      ]

      new_taken : t.root < s.count → m < b.members
      new_taken li = elim root [ inl same ↦ same.1 | inr new ↦ absurd (omega (arith, li, new)) ]

      old_after : (i : ℕ) → i < s.count → t.root < i → (t.root ≤ (step_of s i).from) × ((step_of s i).from < i)
      old_after i lt li = elim root [
        | inl same ↦ let w = h.after i (omega (arith, li, same.0)) lt in (omega (arith, w.0, same.0), w.1)
        | inr new ↦ absurd (omega (arith, li, lt, new))
      ]

      new_after : t.root < s.count → (t.root ≤ f) × (f < s.count)
      new_after li = elim root [
        | inl same ↦ (omega (arith, same.0, same.2), same.3)
        | inr new ↦ absurd (omega (arith, li, new))
      ]

pub goes_trans : {s t u : Path} → Goes s t → Goes t u → Goes s u
goes_trans g h = record {
  count = omega (arith, g.count, h.count);
  steps = λ i lt. h.steps i (omega (arith, lt, g.count)) ∙ g.steps i lt;
  members = λ m has. h.members m (g.members m has);
}

pub on_trans : (s t u : Trail) → GoesOn s t → GoesOn t u → GoesOn s u
on_trans s t u g h = (goes_trans g.0 h.0, λ q has. h.1 q (g.1 q has), h.2 ∙ g.2)

pub still_drops : {s t : Path} (b : Board) (v : Moves) → Goes s t → (i q : ℕ) → i < s.count
    → Drops b v (step_of s i).member q → Drops b v (step_of t i).member q
still_drops b v g i q lt = subst (λ (x : Step). Drops b v x.member q) (sym (g.steps i lt))

-- a step that was expanded still is
pub still_expanded : {s t : Path} (b : Board) (v : Moves) (old new : List ℕ) → Goes s t
    → ((q : ℕ) → Has old q → Has new q) → (i : ℕ) → i < s.count → IsExpanded b v old s i → IsExpanded b v new t i
still_expanded b v old new g more i lt h q lq drops =
    more q (h q lq (subst (λ (x : Step). Drops b v x.member q) (g.steps i lt) drops))

-- a paper is reached, and then whom it may take
pub expanded : {b : Board} {v : Moves} {target : ℕ} {old new : List ℕ} {s u : Path} (from p : ℕ) → from < s.count
    → Has new p → ((j : ℕ) → j ≢ p → Has new j ↔ Has old j) → Goes s u → NoneDrops b v target u → IsSpread b v u p
    → Drops b v (step_of s from).member p → IsReached b v target old s → IsReached b v target new u
expanded {b} {v} {target} {old} {new} {s} {u} from p lf same others goes none spread drops h = record {
  none = none;
  away = λ has. h.away ((others target
      (λ e. h.none from lf (subst (Drops b v (step_of s from).member) (sym e) drops))).0 has);
  spread = λ q has. elim (cases_eq q p) [
    | inl e ↦ subst (IsSpread b v u) (sym e) spread
    | inr ne ↦ λ m lm takes. goes.members m (h.spread q ((others q ne).0 has) m lm takes)
  ];
  dropped = λ q lq has. elim (cases_eq q p) [
    | inl e ↦ (
      from,
      omega (arith, lf, goes.count),
      subst (Drops b v (step_of u from).member) (sym e) (still_drops b v goes from p lf drops),
    )
    | inr ne ↦ let way = h.dropped q lq ((others q ne).0 has) in
        (way.0, omega (arith, way.1, goes.count), still_drops b v goes way.0 q way.1 way.2)
  ];
}

-- a member who comes from herself, behind a search that is done and hasn't reached her
pub record IsRooted (b : Board) (v : Moves) (target m : ℕ) (s : Trail) (t : Path) : Type 0 where
  pub search : IsSearched b v target s
  pub member : m ≤ b.members
  pub absent : Has s.path.members.items m → ⊥
  pub closed : Drops b v m target → ⊥
  pub reaches : Reaches m 0 s.path.count s.path t
  pub root : t.root ≡ s.path.count

module _ {b : Board} {v : Moves} {target m : ℕ} {s : Trail} {t : Path} (h : IsRooted b v target m s t) where
  inside : s.path.count < length s.path.steps.items
  inside = room m h.search.roomy.1 h.search.steps h.member h.absent

  pub rooted_member : (step_of t s.path.count).member ≡ m
  rooted_member = last_member h.reaches inside

  pub rooted_goes : Goes s.path t
  rooted_goes = goes_on h.reaches inside

  pub rooted_long : IsLong b t
  rooted_long = still_long h.reaches inside h.search.roomy.1

  pub rooted_steps : AreSteps b v t
  rooted_steps = still_steps h.reaches inside h.search.steps h.member (omega arith) h.absent (inl refl) (inr h.root)

  pub rooted_reached : IsReached b v target s.papers.items t
  rooted_reached = record {
    none = either h.reaches inside (λ _ x. Drops b v x.member target → ⊥) h.search.done.0.none h.closed;
    away = h.search.done.0.away;
    spread = λ q has k lk takes. rooted_goes.members k (h.search.done.0.spread q has k lk takes);
    dropped = λ q lq has. let old = h.search.done.0.dropped q lq has in
        (old.0, omega (arith, old.1, h.reaches.count), still_drops b v rooted_goes old.0 q old.1 old.2);
  }

  pub rooted_done : (i : ℕ) → i < s.path.count → IsExpanded b v s.papers.items t i
  rooted_done i lt =
      still_expanded b v s.papers.items s.papers.items rooted_goes (λ _ has. has) i lt (h.search.done.2 i lt)

  -- a search behind it that is done
  searched : m < b.members → (u : Trail) → IsRoomy b u → AreSteps b v u.path → Goes t u.path → u.path.root ≡ t.root
      → IsDone b v target u → IsSearched b v target u × Has u.path.members.items m
  searched lm u roomy steps goes root done = (
    record {
      roomy = roomy;
      steps = steps;
      done = done;
      real = λ i lt. elim (cases_lt u.path.root i) [
        | inl less ↦ steps.taken i less lt
        | inr le ↦ let lt' : i < t.count = omega (arith, le, root, h.root, h.reaches.count) in
            subst (λ (x : Step). x.member < b.members) (sym (goes.steps i lt'))
            (either h.reaches inside (λ _ x. x.member < b.members) h.search.real lm i lt')
      ];
    },
    goes.members m h.reaches.same,
  )

  -- or that has found the target, behind the root
  found_behind : (u : Path) (i : ℕ) → Goes t u → u.root ≡ t.root → (i < u.count) × Drops b v (step_of u i).member target
      → (i < u.count) × (u.root ≤ i) × Drops b v (step_of u i).member target × ((step_of u u.root).member ≡ m)
  found_behind u i goes root found = (
    found.0,
    elim (cases_lt i s.path.count) [
      | inr le ↦ omega (arith, le, root, h.root)
      | inl less ↦ absurd (h.search.done.0.none i less (subst (λ (x : Step). Drops b v x.member target)
          (goes.steps i (omega (arith, less, h.reaches.count)) ∙ rooted_goes.steps i less) found.1))
    ],
    found.1,
    ap (λ k. (step_of u k).member) (root ∙ h.root)
        ∙ ap (λ (x : Step). x.member) (goes.steps s.path.count (omega (arith, h.reaches.count))) ∙ rooted_member,
  )

  pub found_or_done : m < b.members → (u : Trail) (o : Option ℕ) → IsRoomy b u → AreSteps b v u.path → Goes t u.path
      → u.path.root ≡ t.root
      → IfSome o (λ i. (i < u.path.count) × Drops b v (step_of u.path i).member target) → IfNone o (IsDone b v target u)
      → IfSome o (λ i. (i < u.path.count) × (u.path.root ≤ i) × Drops b v (step_of u.path i).member target
      × ((step_of u.path u.path.root).member ≡ m))
      × IfNone o (IsSearched b v target u × Has u.path.members.items m)
  found_or_done lm u (Some i) roomy steps goes root some none = (found_behind u.path i goes root some, tt)
  found_or_done lm u None roomy steps goes root some none = (tt, searched lm u roomy steps goes root none)

-- nothing is reached
pub forgotten : (b : Board) (v : Moves) (target : ℕ) (t : Trail) → IsRoomy b t → t.path.count ≡ 0 → t.next ≡ 0
    → ((k : ℕ) → get_or t.papers.items k 0 ≡ 0) → ((k : ℕ) → get_or t.path.members.items k 0 ≡ 0)
    → IsSearched b v target t
forgotten b v target t roomy none next clear clear' =
    let no : (i : ℕ) → i < t.path.count → ⊥ = λ i lt. absurd (omega (arith, lt, none)) in
    record {
      roomy = roomy;
      steps = record {
        count = none ∙ sym (gone_none t.path.members.items clear' (b.members + 1));
        inside = λ i lt. absurd (no i lt);
        taken = λ i _ lt. absurd (no i lt);
        rows = λ i lt. absurd (no i lt);
        seen = λ i lt. absurd (no i lt);
        apart = λ i j _ lt. absurd (no i lt);
        found = λ m _ has. absurd (clear_none t.path.members.items clear' m has);
        leads = λ i lt. absurd (no i lt);
        after = λ i _ lt. absurd (no i lt);
      };
      done = (
        record {
          none = λ i lt. absurd (no i lt);
          away = clear_none t.papers.items clear target;
          spread = λ q has. absurd (clear_none t.papers.items clear q has);
          dropped = λ q _ has. absurd (clear_none t.papers.items clear q has);
        },
        next ∙ sym none,
        λ i lt. absurd (no i lt),
      );
      real = λ i lt. absurd (no i lt);
    }
