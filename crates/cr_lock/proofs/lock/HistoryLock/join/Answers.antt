-- SPDX-License-Identifier: Apache-2.0 OR MIT
use Rattle.std.proofs.Common.{arith, ap, sym, ◌∙◌}
use Rattle.cr_lock.proofs.Seats.{joins, settles}
use Rattle.cr_lock.proofs.lock.HistoryLock.join.Goals as goal

pub join_seat-requires : goal.join_seat-requires
join_seat-requires g c = let r = c.one.invariant in let o = c.other.invariant in let a = r.2 in let b = r.4 in let d =
    o.2 in let e = o.4 in
    let words = c.self.invariant.0 in (
      ap (λ p. p.lock) c.one.view_is ∙ (c.requires.0 ∙ sym (ap (λ l. l.lock) c.self.view_is)),
      ap (λ p. p.lock) c.other.view_is
          ∙ (c.requires.1 ∙ sym (ap (λ l. l.lock) c.self.view_is)),
      o.0,
      omega arith,
      joins _ _ _ _ _ _ _ _ r.1 o.1 (omega arith) (omega arith),
    )

pub load-requires : goal.load-requires
load-requires g c = let j = c.join_seat.ensures.2 in let words = c.self.invariant.0 in (
  c.join_seat.ensures.0 ∙ (ap (λ p. p.lock) c.one.view_is ∙ (c.requires.0 ∙ sym (ap (λ l. l.lock) c.self.view_is))),
  omega arith,
  settles _ _ _ _ _ _ _ _ _ _ _ (ap (λ m. m.0.activity) j) (ap (λ m. m.1) j ∙ c.one.invariant.0),
)
