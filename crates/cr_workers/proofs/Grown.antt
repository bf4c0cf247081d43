-- SPDX-License-Identifier: Apache-2.0 OR MIT
-- What a pass knows more behind turns, and behind a connection.
use Rattle.std.proofs.Common.{◌≡◌, ◌∙◌, ℕ, List, [], ◌∷◌, ◌++◌, length, drop, Bool, Option, inl, inr, ⊎_elim, refl, sym}
use Rattle.std.proofs.Common.{ap, subst, append_assoc}
use mathlib.Core.List.{IsPrefix}
use Rattle.cr_base.specs.Lists.{listed}
use Rattle.cr_base.specs.History.{History}
use Rattle.cr_lock.specs.Counts.{Every}
use Rattle.cr_lock.specs.Turns.{StandsIn, turn_at}
use Rattle.cr_lock.specs.Passes.{after_turn}
use Rattle.cr_lock.proofs.Prefixes.{prefix_self, prefix_trans, prefix_drop, every_longer}
use Rattle.cr_session.specs.declared.serve.Ending.{Ending}
use Rattle.cr_book.specs.Seen.{SeenBook}
use Rattle.cr_ports.specs.Stopping.{IsAmong}
use Rattle.cr_session.specs.Tries.{Tries, Nothing}
use Rattle.cr_session.specs.Passing.{BookTurn, IsTurnOf, KnownPass, TakesTurn, TakesTurns}
use Rattle.cr_session.specs.Replay.{CountsLoss, JudgedWish, history_after}
use Rattle.cr_session.specs.Serving.{World, ConnectionInHistory}
use Rattle.cr_session.specs.Turning.{TurnsInVain}
use Rattle.cr_session.proofs.Endings.{behind_judged}
use Rattle.cr_session.proofs.Passes.{after-begins, loses-marked}
use Rattle.cr_wire.specs.declared.what.Wish.{Wish}

-- it goes on from what it had seen, and has these turns more, each with its group at its place, in each of which one of
-- these wishes was judged, or nothing added
pub record Grows {K : Type 0} (tries : Tries K) (judged : List JudgedWish) (p q : KnownPass K) : Type 0 where
  pub seen : IsPrefix p.seen q.seen
  pub turns : List (BookTurn K)
  pub mine : q.mine ≡ p.mine ++ turns
  pub places : Every (StandsIn q.seen) turns
  pub judges : Every (IsTurnOf tries judged) turns

pub append-nil : {A : Type 0} (xs : List A) → xs ≡ xs ++ []
append-nil [] = refl
append-nil (x ∷ xs) = ap (λ ys. x ∷ ys) (append-nil xs)

pub every-append : {X : Type 0} (P : X → Type 0) (xs ys : List X) → Every P xs → Every P ys → Every P (xs ++ ys)
every-append P [] ys a b = b
every-append P (x ∷ xs) ys a b = (a.0, every-append P xs ys a.1 b)

module _ {K : Type 0} (tries : Tries K) (judged : List JudgedWish) where
  grown-none : (p q : KnownPass K) → q ≡ p → Grows tries judged p q
  grown-none p q same = subst (λ (x : KnownPass K). Grows tries judged p x) (sym same)
      (record { seen = prefix_self p.seen; turns = []; mine = append-nil p.mine; places = tt; judges = tt })

  grown-turn : (p q : KnownPass K) (found left : SeenBook K) (H H' : History) (m n : ℕ) → IsPrefix p.seen H
      → IsPrefix H H' → IsTurnOf tries judged (turn_at (length H) (drop (length H) H') m n found left)
      → q ≡ after_turn p found left H H' m n → Grows tries judged p q
  grown-turn p q found left H H' m n saw begins of is =
      let t : BookTurn K = turn_at (length H) (drop (length H) H') m n found left in
      subst (λ (x : KnownPass K). Grows tries judged p x) (sym is) (record {
        seen = prefix_trans p.seen H H' saw begins;
        turns = t ∷ [];
        mine = refl;
        places =
            ((H, refl, subst (λ (x : History). IsPrefix x H') (sym (prefix_drop H H' begins)) (prefix_self H')), tt);
        judges = (of, tt);
      })

  grown-then : (p q r : KnownPass K) → Grows tries judged p q → Grows tries judged q r → Grows tries judged p r
  grown-then p q r a b = record {
    seen = prefix_trans p.seen q.seen r.seen a.seen b.seen;
    turns = a.turns ++ b.turns;
    mine = b.mine ∙ (ap (λ ts. ts ++ b.turns) a.mine ∙ append_assoc p.mine a.turns b.turns);
    places =
        every-append (StandsIn r.seen) a.turns b.turns (every_longer q.seen r.seen a.turns b.seen a.places) b.places;
    judges = every-append (IsTurnOf tries judged) a.turns b.turns a.judges b.judges;
  }

  -- the turn of one of the wishes
  judges-one : (j : JudgedWish) (p q : KnownPass K) → IsAmong judged j → (t : TakesTurn tries j p q)
      → IsTurnOf tries judged
      (turn_at (length j.seen) (drop (length j.seen) (history_after j)) t.faults t.faults' t.found t.leaves)
  judges-one j p q among t = inl (record {
    wish = j;
    among = among;
    finds = t.finds;
    leads = t.leads;
    tried = t.tried;
    marked =
        λ lost. loses-marked t.faults t.faults' (subst (λ (b : Bool). CountsLoss b t.faults t.faults') lost t.counted);
  })

  grown-takes : (js : List JudgedWish) (p q : KnownPass K) → ((j : JudgedWish) → IsAmong js j → IsAmong judged j)
      → TakesTurns tries js p q → Grows tries judged p q
  grown-takes [] p q its same = grown-none p q same
  grown-takes (j ∷ js) p q its (next, turn, rest) =
      grown-then p next q (grown-turn p next turn.found turn.leaves j.seen (history_after j) turn.faults turn.faults'
      turn.saw (after-begins j) (judges-one j p next (its j (inl refl)) turn) turn.turn)
      (grown-takes js next q (λ i among. its i (inr among)) rest)

  grown-vain : (w : Wish) (p q : KnownPass K) → TurnsInVain tries w p q → Grows tries judged p q
  grown-vain w p q vain =
      grown-turn p q vain.found vain.leaves vain.seen vain.seen vain.faults vain.faults vain.saw
      (prefix_self vain.seen) (inr (record {
        stays = vain.stays ∙ sym vain.finds;
        tried = subst (λ (H : History). tries H Nothing vain.found.keeper vain.leaves.keeper) (sym vain.finds)
            vain.tried;
      })) vain.turn

module _ {K : Type 0} (tries : Tries K) where
  pub grown-connection : {S : Type 0} (left : S → Option (List ℕ)) (gives : S → S → List ℕ → Type 0) (ending : Ending)
      (w w' : World (KnownPass K) S)
      → (c : ConnectionInHistory tries left gives ending 0 [] w w')
      → Grows tries (c.answered ++ listed c.failed) w.state w'.state
  grown-connection left gives ending w w' c =
      let judged = c.answered ++ listed c.failed in
      grown-then tries judged w.state c.judged w'.state
      (grown-takes tries judged judged w.state c.judged (λ j among. among) c.turns)
      (⊎_elim (λ same. grown-none tries judged c.judged w'.state same)
      (λ turn. grown-vain tries judged turn.0 c.judged w'.state turn.1)
      (behind_judged (TurnsInVain tries) ending 0 c.got c.got c.answered c.failed c.judged w'.state w.desk w'.desk
      c.settled c.ends))
