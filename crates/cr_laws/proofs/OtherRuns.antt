-- SPDX-License-Identifier: Apache-2.0 OR MIT
-- Another run out of one: in the place of each of its wishes stands that wish, another, or none, so that the history
-- that it leads to is what a function makes of the run's, and the group ask and hear the same.
use Rattle.std.proofs.Common.{ℕ, Bool, true, false, ◌≡◌, List, [], ◌∷◌, ◌++◌, length, refl, sym, ap, subst, ◌∙◌}
use Rattle.std.proofs.Common.{append-nil, append_assoc, Option, Some, None}
use Rattle.std.specs.Prelude.{take}
use Rattle.std.specs.List.{All, list_any}
use Rattle.std.proofs.lemmas.Bool.{true≢false}
use Rattle.std.proofs.lemmas.List.Elements.{All-head, All-tail}
use Rattle.cr_base.specs.Drawn.{Drawn}
use Rattle.cr_base.specs.History.{History}
use Rattle.cr_base.specs.Lists.{given}
use Rattle.cr_history.proofs.ListCuts.{AllByRecursion-append}
use Rattle.cr_policy.specs.Legal.{Legal}
use Rattle.cr_undeduced.specs.Undeducible.{Look}
use Rattle.cr_wire.specs.declared.what.Wish.{Wish}
use Rattle.cr_wire.specs.Caller.{caller}
use Rattle.cr_session.specs.Retries.{ends_in, AreBounded}
use Rattle.cr_session.specs.Told.{drawn, and_drawn, after_wish}
use Rattle.cr_session.specs.Turning.{IsBoundedWish}
use Rattle.cr_session.specs.TwoRuns.{WishInTurn, Run, is_same}
use Rattle.cr_session.proofs.Accepting.{wish-draws}
use Rattle.cr_session.proofs.Repeating.{wish-adds}
use Rattle.cr_laws.specs.GroupRuns.{is_theirs, Exchange, exchange, exchanges}
use Rattle.cr_laws.specs.AnotherRun.{looks_of, AnotherRun}

-- ---- runs grow, and stay legal

after-legal : (H : History) (w : Wish) → Legal H → IsBoundedWish w → Legal (after_wish H w)
after-legal H w legal bounds = by (drawn H w) refl
  where
    by : (o : Option Drawn) → drawn H w ≡ o → Legal (and_drawn H o)
    by None is = legal
    by (Some d) is = (wish-adds H legal d w bounds (caller H w) (wish-draws H w d is)).legal

pub ends-legal : (H : History) (ws : List WishInTurn) → Legal H → AreBounded ws → Legal (ends_in H ws)
ends-legal H [] legal bounded = legal
ends-legal H (w ∷ ws) legal bounded =
    ends-legal (after_wish H w.wish) ws (after-legal H w.wish legal bounded.0) bounded.1

pub after-grows : (H : History) (w : Wish) → (g : History) × (after_wish H w ≡ H ++ g)
after-grows H w = by (drawn H w)
  where
    by : (o : Option Drawn) → (g : History) × (and_drawn H o ≡ H ++ g)
    by None = ([], sym (append-nil H))
    by (Some d) = (d.group, refl)

pub ends-grow : (H : History) (ws : List WishInTurn) → (g : History) × (ends_in H ws ≡ H ++ g)
ends-grow H [] = ([], sym (append-nil H))
ends-grow H (w ∷ ws) =
    let first = after-grows H w.wish in
    let rest = ends-grow (after_wish H w.wish) ws in
    (first.0 ++ rest.0, rest.1 ∙ ap (λ (K : History). K ++ rest.0) first.1 ∙ append_assoc H first.0 rest.0)

-- one run behind another
ends-append : (H : History) (vs ws : List WishInTurn) → ends_in H (vs ++ ws) ≡ ends_in (ends_in H vs) ws
ends-append H [] ws = refl
ends-append H (v ∷ vs) ws = ends-append (after_wish H v.wish) vs ws

exchanges-append : (group : List (Option ℕ)) (H : History) (vs ws : List WishInTurn)
    → exchanges group H (vs ++ ws) ≡ exchanges group H vs ++ exchanges group (ends_in H vs) ws
exchanges-append group H [] ws = refl
exchanges-append group H (v ∷ vs) ws =
    ap (λ (xs : List Exchange). given (is_theirs group H v.wish) (exchange H v) ++ xs)
    (exchanges-append group (after_wish H v.wish) vs ws)
    ∙ sym (append_assoc (given (is_theirs group H v.wish) (exchange H v)) (exchanges group (after_wish H v.wish) vs)
    (exchanges group (ends_in (after_wish H v.wish) vs) ws))

-- a wish that the same user gives is the group's on both
pub theirs-same : (group : List (Option ℕ)) (H H' : History) (w w' : Wish) → caller H' w' ≡ caller H w
    → is_theirs group H' w' ≡ is_theirs group H w
theirs-same group H H' w w' calls = ap (λ (c : Option ℕ). list_any (λ u. is_same u c) group) calls

-- ---- wish by wish

-- what the other run's histories are made of the run's by
module _ (group : List (Option ℕ)) (made : History → History) where
  -- what stands in place of a wish
  pub record InPlace (H : History) (w : WishInTurn) : Type 0 where
    pub wishes : List WishInTurn
    pub bounds : AreBounded wishes
    pub after : ends_in (made H) wishes ≡ made (after_wish H w.wish)
    pub hears : exchanges group (made H) wishes ≡ given (is_theirs group H w.wish) (exchange H w)

  module _ (H : History) (w : WishInTurn) where
    -- the wish itself, where it is the group's
    pub stays : IsBoundedWish w.wish → caller (made H) w.wish ≡ caller H w.wish
        → and_drawn (made H) (drawn (made H) w.wish) ≡ made (after_wish H w.wish)
        → exchange (made H) w ≡ exchange H w → InPlace H w
    stays bounds calls after same = record {
      wishes = w ∷ [];
      bounds = (bounds, tt);
      after = after;
      hears = append-nil (given (is_theirs group (made H) w.wish) (exchange (made H) w))
          ∙ (λ i. given (theirs-same group H (made H) w.wish w.wish calls i) (same i));
    }

    -- nothing, where it is another's and adds nothing
    pub left-out : is_theirs group H w.wish ≡ false → drawn H w.wish ≡ None → InPlace H w
    left-out others is = record {
      wishes = [];
      bounds = tt;
      after = ap (λ (o : Option Drawn). made (and_drawn H o)) (sym is);
      hears = ap (λ (b : Bool). given b (exchange H w)) (sym others);
    }

    -- and another wish of another's, where it is another's and adds something
    pub replaced : is_theirs group H w.wish ≡ false → (d : Drawn) → drawn H w.wish ≡ Some d → (other : Wish)
        → IsBoundedWish other → is_theirs group (made H) other ≡ false → (again : Drawn)
        → drawn (made H) other ≡ Some again → made H ++ again.group ≡ made (H ++ d.group) → InPlace H w
    replaced others d is other bounds others' again draws after = record {
      wishes = record { wish = other; closes = w.closes } ∷ [];
      bounds = (bounds, tt);
      after = ap (and_drawn (made H)) draws ∙ after ∙ ap (λ (o : Option Drawn). made (and_drawn H o)) (sym is);
      hears = append-nil _
          ∙ ap (λ (b : Bool). given b (exchange (made H) (record { wish = other; closes = w.closes }))) others'
          ∙ ap (λ (b : Bool). given b (exchange H w)) (sym others);
    }

  -- what is so of each look of the group's, and what stands in each place where that is so
  module _ (Seen : Look → Type 0) (G : History)
      (place : (H : History) → Legal H → Legal (made H) → (w : WishInTurn) → IsBoundedWish w.wish → (more : History)
      → G ≡ after_wish H w.wish ++ more
      → (is_theirs group H w.wish ≡ true → Seen (record { who = caller H w.wish; upto = length H })) → InPlace H w)
    where
      record Goes (H : History) (ws : List WishInTurn) : Type 0 where
        wishes : List WishInTurn
        bounds : AreBounded wishes
        ends : ends_in (made H) wishes ≡ made G
        hears : exchanges group (made H) wishes ≡ exchanges group H ws

      first-look : (b : Bool) (look : Look) (looks : List Look) → All Seen (given b look ++ looks) → b ≡ true → Seen look
      first-look true look looks all is = All-head Seen look looks all
      first-look false look looks all is = absurd (true≢false (sym is))

      later-looks : (b : Bool) (look : Look) (looks : List Look) → All Seen (given b look ++ looks) → All Seen looks
      later-looks true look looks all = All-tail Seen look looks all
      later-looks false look looks all = all

      goes : (H : History) (ws : List WishInTurn) → Legal H → Legal (made H) → AreBounded ws → ends_in H ws ≡ G
          → All Seen (looks_of group H ws) → Goes H ws
      goes H [] legal legal' bounds ends looks =
          record { wishes = []; bounds = tt; ends = ap made ends; hears = refl }
      goes H (w ∷ ws) legal legal' bounds ends looks =
          let b : Bool = is_theirs group H w.wish in
          let look : Look = record { who = caller H w.wish; upto = length H } in
          let later : List Look = looks_of group (after_wish H w.wish) ws in
          let grown = ends-grow (after_wish H w.wish) ws in
          let here : InPlace H w =
          place H legal legal' w bounds.0 grown.0 (sym ends ∙ grown.1) (first-look b look later looks) in
          let legal_behind : Legal (made (after_wish H w.wish)) =
          subst (λ (K : History). Legal K) here.after (ends-legal (made H) here.wishes legal' here.bounds) in
          let rest : Goes (after_wish H w.wish) ws =
          goes (after_wish H w.wish) ws (after-legal H w.wish legal bounds.0) legal_behind bounds.1 ends
          (later-looks b look later looks) in
          record {
            wishes = here.wishes ++ rest.wishes;
            bounds = AllByRecursion-append (λ (v : WishInTurn). IsBoundedWish v.wish) here.wishes rest.wishes here.bounds
                rest.bounds;
            ends = ends-append (made H) here.wishes rest.wishes
                ∙ ap (λ (K : History). ends_in K rest.wishes) here.after ∙ rest.ends;
            hears = exchanges-append group (made H) here.wishes rest.wishes
                ∙ (λ i. here.hears i ++ exchanges group (here.after i) rest.wishes)
                ∙ ap (λ (es : List Exchange). given b (exchange H w) ++ es) rest.hears;
          }

      -- the whole run
      pub another : (opening : History) (ws : List WishInTurn) → Legal opening → Legal (made opening) → AreBounded ws
          → ends_in opening ws ≡ G → All Seen (looks_of group opening ws)
          → length (made opening) ≡ length opening → made opening ≡ take (length opening) (made G)
          → AnotherRun group (record { opening = opening; wishes = ws }) (made G)
      another opening ws legal legal' bounds ends looks as_long begins =
          let went : Goes opening ws = goes opening ws legal legal' bounds ends looks in
          record {
            other = record { opening = made opening; wishes = went.wishes };
            legal = legal';
            bounded = went.bounds;
            as_long = as_long;
            opening = begins;
            ends = went.ends;
            hears = sym went.hears;
          }

-- one such run of another
pub run-of_run : (group : List (Option ℕ)) (one : Run) (mid end : History) → (first : AnotherRun group one mid)
    → AnotherRun group first.other end → AnotherRun group one end
run-of_run group one mid end first then_on = record {
  other = then_on.other;
  legal = then_on.legal;
  bounded = then_on.bounded;
  as_long = then_on.as_long ∙ first.as_long;
  opening = then_on.opening ∙ ap (λ n. take n end) first.as_long;
  ends = then_on.ends;
  hears = first.hears ∙ then_on.hears;
}
