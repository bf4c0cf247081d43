-- SPDX-License-Identifier: Apache-2.0 OR MIT
-- What may change, told anew of one pair after another.
use Rattle.cr_match.proofs.Common.{◌≡◌, ◌≢◌, ◌⊎◌, inl, inr, ◌↔◌, ℕ, ◌<◌, ◌≤◌, Bool, true, false, List, arith, subst}
use Rattle.cr_match.proofs.Common.{RowHas, Takes, Drops, AreMoves, Holds, IsDraft, IsTight, AreTold, Board, Levels}
use Rattle.cr_match.proofs.Common.{Choice, Moves}
use Rattle.cr_match.specs.Tight.{IsSame, IsTold, Stays, Tells}
use Rattle.cr_match.proofs.Flipped.{holds_cases, iff_trans, same_iff}

pub same_bits : (width r i : ℕ) (xs ys : List ℕ) → xs ≡ ys → RowHas width xs r i ↔ RowHas width ys r i
same_bits width r i xs ys e = subst (λ (zs : List ℕ). RowHas width xs r i ↔ RowHas width zs r i) e same_iff

pub tells : {b : Board} {p m : ℕ} {takes drops : Bool} {u z : Moves} (w : Moves) → w.drops.items ≡ u.drops.items
    → (Takes b w p m ↔ (takes ≡ true)) → ((q x : ℕ) → x < b.members → (q ≢ p) ⊎ (x ≢ m) → Takes b w q x ↔ Takes b u q x)
    → AreMoves b z → z.takes.items ≡ w.takes.items → (Drops b z m p ↔ (drops ≡ true))
    → ((x q : ℕ) → q ≤ b.papers → (x ≢ m) ⊎ (q ≢ p) → Drops b z x q ↔ Drops b w x q) → Tells b p m takes drops u z
tells {b} {p} {m} {takes} {drops} {u} {z} w du tw ow mz tz dz oz = record {
  moves = mz;
  taken = iff_trans (same_bits b.wide p m z.takes.items w.takes.items tz) tw;
  dropped = dz;
  takes = λ q x lx ne. iff_trans (same_bits b.wide q x z.takes.items w.takes.items tz) (ow q x lx ne);
  drops = λ x q lq ne. iff_trans (oz x q lq (elim ne [ inl k ↦ inr k | inr k ↦ inl k ]))
      (same_bits b.tall x q w.drops.items u.drops.items du);
}

module _ {b : Board} {p m : ℕ} {takes drops : Bool} {u z : Moves} (lp : p < b.papers) (lm : m < b.members)
    (t : Tells b p m takes drops u z) where
  pub stays_one : Stays b u z
  stays_one = record {
    moves = t.moves;
    spare = λ x lx. t.takes b.papers x lx (inl (λ e. absurd (omega (arith, e, lp))));
    lack = λ q lq. t.drops b.members q lq (inr (λ e. absurd (omega (arith, e, lm))));
    room = λ x lx. t.drops x b.papers (omega arith) (inl (λ e. absurd (omega (arith, e, lp))));
  }

  pub others_one : (q x : ℕ) → q < b.papers → x < b.members → (q ≢ p) ⊎ (x ≢ m) → IsSame b u z q x
  others_one q x lq lx ne = (t.takes q x lx ne, t.drops x q (omega (arith, lq)) ne)

pub told_held : {b : Board} {p m : ℕ} {tight : Bool} {u z : Moves} (c : Choice) → Tells b p m false tight u z
    → Holds b c p m → IsTold (tight ≡ true) b c z p m
told_held c t has = (
  ((λ k. absurd (let e = t.taken.0 k in cc)), (λ k. absurd (k.0 has))),
  ((λ k. (has, t.dropped.0 k)), (λ k. t.dropped.1 k.1)),
)

pub told_left : {b : Board} {p m : ℕ} {tight : Bool} {u z : Moves} (c : Choice) → Tells b p m tight false u z
    → (Holds b c p m → ⊥) → IsTold (tight ≡ true) b c z p m
told_left c t none = (
  ((λ k. (none, t.taken.0 k)), (λ k. t.taken.1 k.1)),
  ((λ k. absurd (let e = t.dropped.0 k in cc)), (λ k. absurd (none k.0))),
)

pub told_as : (b : Board) (c : Choice) (p m : ℕ) (z : Moves) {A B : Type 0} → IsTold A b c z p m → (A ↔ B)
    → IsTold B b c z p m
told_as b c p m z t is = (
  ((λ x. let k = t.0.0 x in (k.0, is.0 k.1)), (λ x. t.0.1 (x.0, is.1 x.1))),
  ((λ x. let k = t.1.0 x in (k.0, is.0 k.1)), (λ x. t.1.1 (x.0, is.1 x.1))),
)

-- what was told of a pair stays, as long as others are told
pub told_on : (b : Board) (c : Choice) (p m : ℕ) (u z : Moves) {A : Type 0} → IsTold A b c u p m → IsSame b u z p m
    → IsTold A b c z p m
told_on b c p m u z t same = (iff_trans same.0 t.0, iff_trans same.1 t.1)

pub stays_refl : {b : Board} {u : Moves} → AreMoves b u → Stays b u u
stays_refl h = record { moves = h; spare = λ x _. same_iff; lack = λ q _. same_iff; room = λ x _. same_iff }

pub stays_trans : {b : Board} {u w z : Moves} → Stays b u w → Stays b w z → Stays b u z
stays_trans h k = record {
  moves = k.moves;
  spare = λ x lx. iff_trans (k.spare x lx) (h.spare x lx);
  lack = λ q lq. iff_trans (k.lack q lq) (h.lack q lq);
  room = λ x lx. iff_trans (k.room x lx) (h.room x lx);
}

-- other moves of the same choice
pub redrawn : {b : Board} {c : Choice} {u z : Moves} → IsDraft b c u → AreMoves b z
    → ((p m : ℕ) → p < b.papers → m < b.members → Takes b z p m → Holds b c p m → ⊥)
    → ((p m : ℕ) → p < b.papers → m < b.members → Drops b z m p → Holds b c p m)
    → ((q : ℕ) → q ≤ b.papers → Drops b z b.members q ↔ Drops b u b.members q)
    → ((x : ℕ) → x ≤ b.members → Drops b z x b.papers ↔ Drops b u x b.papers) → IsDraft b c z
redrawn {b} h moves takes drops lack room = record {
  counted = h.counted;
  moves = moves;
  takes = takes;
  drops = drops;
  lack = λ q lq. iff_trans (lack q (omega (arith, lq))) (h.lack q lq);
  room = λ x lx. iff_trans (room x (omega (arith, lx))) (h.room x lx);
  never = λ k. h.never ((lack b.papers (omega arith)).0 k);
}

module _ {b : Board} {u z : Moves} (v : Levels) (c : Choice) (s : Stays b u z)
    (told : (p m : ℕ) → p < b.papers → m < b.members → AreTold b v c z p m) where
  pub told_draft : IsDraft b c u → IsDraft b c z
  told_draft h = redrawn h s.moves (λ p m lp lm takes. ((told p m lp lm).0.0 takes).0)
      (λ p m lp lm drops. ((told p m lp lm).1.0 drops).0) s.lack s.room

  pub told_tight : IsTight b v z
  told_tight p m lp lm =
      let t = told p m lp lm in (
        (λ f. elim f [ inl x ↦ (t.0.0 x).1 | inr x ↦ (t.1.0 x).1 ]),
        (λ is. elim (holds_cases b c p m) [ inl has ↦ inr (t.1.1 (has, is)) | inr none ↦ inl (t.0.1 (none, is)) ]),
      )
