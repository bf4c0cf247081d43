-- SPDX-License-Identifier: Apache-2.0 OR MIT
-- What a search begins with fits.
use Rattle.cr_match.proofs.Common.{AreMoves, AreTold, Board, Bool, Draft, Drops, Holds, IsBoard, IsDraft, IsFitting}
use Rattle.cr_match.proofs.Common.{Levels, Moves, Takes, arith, cell, get_or, inl, inr, ltb, nat_tests, placed, refl}
use Rattle.cr_match.proofs.Common.{subst, sym, total_below, true, List, RowHas, ℕ, ◌<◌, ◌∙◌, ◌≡◌, ◌≢◌, ◌≤◌, ◌⊎◌, ◌↔◌}
use Rattle.cr_match.specs.Setup.{AreFirst, IsBlank}
use Rattle.cr_match.specs.Tight.{Stays}
use Rattle.cr_match.proofs.Distinct.{zero_row}
use Rattle.cr_match.proofs.Flipped.{below, cell_none, iff_trans}
use Rattle.cr_match.proofs.Room.{same_total, total_below_none}
use Rattle.cr_match.proofs.Told.{told_draft, told_tight}
use Rattle.cr_match.proofs.Turned.{no_member}

zero_total : (f : ℕ → ℕ) (n : ℕ) → ((q : ℕ) → q < n → f q ≡ 0) → total_below f n ≡ 0
zero_total f n h = same_total f (λ _. 0) n h ∙ total_below_none n

-- rows of no bits
pub blank_moves : {b : Board} {d : Draft} → IsBoard b → IsBlank b d → AreMoves b d.moves
blank_moves {b} {d} board h = record {
  sized = board.sized;
  takes = h.takes.0;
  drops = h.drops.0;
  taken = λ q m _ takes. absurd (zero_row d.moves.takes.items b.wide q m h.takes.1 takes);
  dropped = λ m q _ drops. absurd (zero_row d.moves.drops.items b.tall m q h.drops.1 drops);
}

module _ {b : Board} {d : Draft} {w : Moves} (u : Moves) {lacks room : Bool} (blank : IsBlank b d)
    (tu : u.takes.items ≡ d.moves.takes.items)
    (lu : (p : ℕ) → p < b.papers → Drops b u b.members p ↔ (lacks ≡ true))
    (ou : (x q : ℕ) → q ≤ b.papers → (x ≢ b.members) ⊎ (q ≡ b.papers) → Drops b u x q ↔ Drops b d.moves x q)
    (mw : AreMoves b w) (tw : w.takes.items ≡ u.takes.items)
    (rw' : (x : ℕ) → x < b.members → Drops b w x b.papers ↔ (room ≡ true))
    (ow : (x q : ℕ) → q ≤ b.papers → (q ≢ b.papers) ⊎ (x ≡ b.members) → Drops b w x q ↔ Drops b u x q)
    (want : (lacks ≡ true) ↔ (0 < b.want)) (load : (room ≡ true) ↔ (0 < b.load)) where
  none_held : (p m : ℕ) → Holds b d.choice p m → ⊥
  none_held p m has = zero_row d.choice.held.items b.wide p m blank.held.1 has

  none_taken : (p m : ℕ) → Takes b w p m → ⊥
  none_taken p m takes = zero_row d.moves.takes.items b.wide p m blank.takes.1
      (subst (λ (xs : List ℕ). RowHas b.wide xs p m) (tw ∙ tu) takes)

  none_dropped : (x q : ℕ) → q ≤ b.papers → (q ≢ b.papers) ⊎ (x ≡ b.members) → (x ≢ b.members) ⊎ (q ≡ b.papers)
      → Drops b w x q → ⊥
  none_dropped x q lq ne ne' drops =
      zero_row d.moves.drops.items b.tall x q blank.drops.1 ((ou x q lq ne').0 ((ow x q lq ne).0 drops))

  started_draft : IsDraft b d.choice w
  started_draft = record {
    counted = record {
      held = blank.held.0;
      long = (blank.given.0, blank.used.0);
      given = λ p _. blank.given.1 p
          ∙ sym (zero_total (cell b d.choice p) b.members (λ m _. cell_none b d.choice p m (none_held p m)));
      used = λ m _. blank.used.1 m
          ∙ sym (zero_total (λ p. cell b d.choice p m) b.papers (λ p _. cell_none b d.choice p m (none_held p m)));
    };
    moves = mw;
    takes = λ p m _ _ takes _. none_taken p m takes;
    drops = λ p m lp lm drops. absurd (none_dropped m p (omega (arith, lp)) (inl (below p b.papers lp))
        (inl (below m b.members lm)) drops);
    lack = λ p lp. subst (λ n. Drops b w b.members p ↔ (n < b.want)) (sym (blank.given.1 p)) (iff_trans
        (ow b.members p (omega (arith, lp)) (inl (below p b.papers lp))) (iff_trans (lu p lp) want));
    room = λ m lm. subst (λ n. Drops b w m b.papers ↔ (n < b.load)) (sym (blank.used.1 m)) (iff_trans (rw' m lm) load);
    never = none_dropped b.members b.papers (omega arith) (inr refl) (inr refl);
  }

  -- prices at which what is best may be taken
  pub started : {v : Levels} {z : Moves} → AreFirst b v → Stays b w z
      → ((p m : ℕ) → p < b.papers → m < b.members → AreTold b v d.choice z p m) → IsFitting b v d.choice z
  started {v} {z} f s told = record {
    long = f.long;
    draft = told_draft v d.choice s told started_draft;
    suits = record {
      held = λ p m _ _ has. absurd (none_held p m has);
      left = λ p m lp lm _. omega (arith, (f.best p lp).2 m lm, f.free m);
    };
    tight = told_tight v d.choice s told;
    bounded = record {
      lacking = λ p lp _. omega (arith, (f.best p lp).1, f.nobody);
      floor = λ p lp. omega (arith, (f.best p lp).0, f.nobody);
      ceiling = λ p lp. (f.best p lp).1;
      members = λ m _. omega (arith, f.free m, f.nobody);
    };
    most = λ p _. omega (arith, blank.given.1 p);
    fits = λ x lx. (
      omega (arith, blank.used.1 x, no_member b x lx),
      λ some. absurd (omega (arith, some, f.free x)),
    );
    spare = λ x lx takes. none_taken b.papers x ((s.spare x lx).0 takes);
  }

pub none_placed : {b : Board} {d : Draft} → IsBlank b d → placed b d.choice ≡ 0
none_placed {b} {d} h = zero_total (λ p. get_or d.choice.given.items p 0) b.papers (λ p _. h.given.1 p)

pub above_none : (n : ℕ) → (ltb 0 n ≡ true) ↔ (0 < n)
above_none n = ((λ e. grind (arith, nat_tests)), (λ lt. grind (arith, nat_tests)))
