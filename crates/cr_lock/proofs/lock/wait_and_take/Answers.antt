-- SPDX-License-Identifier: Apache-2.0 OR MIT
use Rattle.std.proofs.Common.{rules, ap, sym, ◌∙◌, ◌∷◌, Some}
use Rattle.atomic_table.specs.Table.{rest}
use Rattle.cr_lock.proofs.Changes.{draws}
use Rattle.cr_lock.proofs.Turns.{looks}
use Rattle.cr_lock.proofs.lock.wait_and_take.Goals as goal

pub fetch_add-ticket-requires : goal.fetch_add-ticket-requires
fetch_add-ticket-requires g c =
    (c.requires.own.0, search rules, draws _ _ _ _ _ _ _ _ c.requires.rests.0 c.requires.rests.1 c.requires.rests.2)

pub load-serving-requires : goal.load-serving-requires
load-serving-requires g c = let i =
    c.loop.invariant.1 in (
      search rules,
      search rules,
      looks _ _ _ _ _ _ _ _ (ap (λ m. m.0.activity) i) (ap (λ m. m.1) i),
    )

pub exchange-requires : goal.exchange-requires
exchange-requires g c = let i = c.loop.invariant.1 in
    let u = (c.load-serving.ensures.2 c.fetch_add-ticket.result (ap (λ m. m.0.activity) i)).0
    c.if-serving-ticket.true in let e = ap (λ m. m.1) u.3 in
    (search rules, (Some u.0, e ∙ ap (λ r. (0, Some u.0) ∷ r) (sym (ap rest e))))
