-- SPDX-License-Identifier: Apache-2.0 OR MIT
use Rattle.std.proofs.Common.{◌∙◌, List, Bool, inr, inl, refl, subst, sym}
use Rattle.cr_top.specs.Serves.{gates_of}
use Rattle.cr_top.specs.Stores.{state_of}
use Rattle.cr_top.proofs.Gated.{few-doors, few-turns, keeper-rises, listen-rises, never-asks, never-reads, never-usage}
use Rattle.cr_top.proofs.Gated.{serves-or-memory, stays-closed, write-rises}
use Rattle.cr_top.proofs.Stored.{none-tried, stands-by}
use Rattle.cr_top.proofs.serve.serve_store.Goals as goal

pub serve_open_book-requires-clause-at_most : goal.serve_open_book-requires-clause-at_most
serve_open_book-requires-clause-at_most g c κs within =
    few-doors g.G.Door.Door.left c.args.address.workers c.args.address.connections c.in-Ok-open_gates.doors.items
    c.requires.workers.1
    c.in-Ok-open_gates.ensures.shared

pub serve_open_book-requires-clause-few : goal.serve_open_book-requires-clause-few
serve_open_book-requires-clause-few g c κs within =
    few-turns g.G.Door.Door.left c.args.address.workers c.args.address.connections c.in-Ok-open_gates.doors.items
    c.requires.workers.0 c.requires.connections.1
    c.in-Ok-open_gates.ensures.shared

pub returns-in-Ok-open_gates-clause-serves : goal.returns-in-Ok-open_gates-clause-serves
returns-in-Ok-open_gates-clause-serves g c =
    let stores = state_of g.S.Shelf.rows g.S.Shelf.faults in
    let gates_at = gates_of g.G.Gates.faults g.G.Gates.logs g.G.Gates.asked in
    inr
    (inr (c.serve_open_book.ensures (g.S.Shelf.tells_stops c.args.shelf.now) c.in-Ok.ensures.telling
    (stores c.args.shelf.now) c.in-Ok.ensures.opened (gates_at c.args.gates.now)
    c.args.address.listen.now
    (record {
      asked = c.in-Ok-open_gates.ensures.asked;
      faults = c.in-Ok-open_gates.ensures.same;
      logs = c.in-Ok-open_gates.ensures.logs;
    }) c.args.address.workers c.args.address.connections c.in-Ok-open_gates.ensures.shared
    c.in-Ok.ensures.begins))

pub returns-in-Ok-open_gates-clause-answers : goal.returns-in-Ok-open_gates-clause-answers
returns-in-Ok-open_gates-clause-answers g c =
    serves-or-memory _ _ _ _ _ _ _ _ _ _ _ _ _ _ (returns-in-Ok-open_gates-clause-serves g c)

pub returns-in-Ok-open_gates-clause-known : goal.returns-in-Ok-open_gates-clause-known
returns-in-Ok-open_gates-clause-known g c =
    never-usage _ _ _ _ _ _ _ _ _ _ _ _ _ _ (returns-in-Ok-open_gates-clause-serves g c)

pub returns-in-Ok-open_gates-clause-unread : goal.returns-in-Ok-open_gates-clause-unread
returns-in-Ok-open_gates-clause-unread g c =
    never-reads _ _ _ _ _ _ _ _ _ _ _ _ _ _ (returns-in-Ok-open_gates-clause-serves g c)

pub returns-in-Ok-open_gates-clause-untimed : goal.returns-in-Ok-open_gates-clause-untimed
returns-in-Ok-open_gates-clause-untimed g c =
    never-asks _ _ _ _ _ _ _ _ _ _ _ _ _ _ (returns-in-Ok-open_gates-clause-serves g c)

pub returns-in-Ok-open_gates-clause-write_fault : goal.returns-in-Ok-open_gates-clause-write_fault
returns-in-Ok-open_gates-clause-write_fault g c =
    write-rises _ _ _ _ _ _ _ _ _ _ _ _ _ _ (returns-in-Ok-open_gates-clause-serves g c)

pub returns-in-Ok-open_gates-clause-keeper_fault : goal.returns-in-Ok-open_gates-clause-keeper_fault
returns-in-Ok-open_gates-clause-keeper_fault g c =
    keeper-rises _ _ _ _ _ _ _ _ _ _ _ _ _ _ (returns-in-Ok-open_gates-clause-serves g c)

pub returns-in-Ok-open_gates-clause-listen_fault : goal.returns-in-Ok-open_gates-clause-listen_fault
returns-in-Ok-open_gates-clause-listen_fault g c =
    listen-rises _ _ _ _ _ _ _ _ _ _ _ _ _ _ (returns-in-Ok-open_gates-clause-serves g c)

pub shut-requires : goal.shut-requires
shut-requires g c =
    subst (λ (kind : List Bool). g.S.Shelf.has_opened c.open_store.new.shelf c.args.path.now kind)
    (sym c.close.ensures.alike) c.in-Ok.ensures.open

pub returns-in-Err-open_gates-clause-serves : goal.returns-in-Err-open_gates-clause-serves
returns-in-Err-open_gates-clause-serves g c =
    let K = g.S.Keeper.Keeper in
    let path = c.args.path.now in
    let tells = g.S.Shelf.tells_stops c.args.shelf.now path in
    let stores = state_of g.S.Shelf.rows g.S.Shelf.faults in
    let gates_at = gates_of g.G.Gates.faults g.G.Gates.logs g.G.Gates.asked in
    let so' = K.tells_alike c.close.result c.in-Ok.book.opened c.close.ensures.alike ∙ c.in-Ok.ensures.telling in
    inr (inl (
      stays-closed tells K.rows K.tried K.faults path c.args.address.listen.now
          c.in-Err-open_gates.exit c.in-Ok.book c.close.result
          (stores c.args.shelf.now) (stores c.open_store.new.shelf) (stores c.shut.new.self) (gates_at c.args.gates.now)
          (gates_at c.open_gates.new.gates)
          c.in-Ok.ensures.opened c.close.ensures.same
          (none-tried tells K _ c.in-Ok.book c.close.result
          c.in-Ok.ensures.begins c.close.ensures.same)
          (stands-by (K.tells_stops c.close.result) tells so' (K.rows c.close.result) (K.tried c.close.result)
          (g.S.Shelf.rows c.open_store.new.shelf path) (g.S.Shelf.rows c.shut.new.self path) c.shut.ensures.kept)
          c.shut.ensures.others c.shut.ensures.count c.in-Err-open_gates.ensures.refused.0
          c.in-Err-open_gates.ensures.refused.1 c.in-Err-open_gates.ensures.other,
      refl,
    ))

pub returns-in-Err-clause-serves : goal.returns-in-Err-clause-serves
returns-in-Err-clause-serves g c = inl (c.in-Err.ensures.refused, refl, refl)
