-- SPDX-License-Identifier: Apache-2.0 OR MIT
use Rattle.std.proofs.Common.{arith, ap, sym, ◌∙◌}
use Rattle.cr_lock.proofs.Seats.{splits}
use Rattle.cr_lock.proofs.lock.HistoryLock.split.Goals as goal

pub split_seat-other-requires : goal.split_seat-other-requires
split_seat-other-requires g c = let r = c.pass.invariant in let same = r.2 in let some_share = r.4 in let more =
    c.if-pass-eq1.false in
    let words = c.self.invariant.0 in (
      ap (λ p. p.lock) c.pass.view_is ∙ (c.requires ∙ sym (ap (λ l. l.lock) c.self.view_is)),
      omega arith,
      splits _ _ _ _ _ _ r.1 (grind arith),
    )
