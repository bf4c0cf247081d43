-- SPDX-License-Identifier: Apache-2.0 OR MIT
use Rattle.std.proofs.Common.{◌∙◌, ℕ, List, ap, refl, sym, subst}
use Rattle.std.specs.Prelude.{Bool, is_ok, map}
use Rattle.cr_ports.specs.Writing.{outlet_of}
use Rattle.cr_workers.specs.Doors.{door_of}
use Rattle.cr_top.specs.Exits.{exit_of_workers}
use Rattle.cr_top.specs.Serves.{TellsEntries, gates_of}
use Rattle.cr_top.specs.Stores.{state_of}
use Rattle.cr_book.specs.Stopping.{CountsTried, KeepsTold}
use Rattle.cr_top.proofs.Stored.{exact-rows, keeps-store, losses-kept, stands-by}
use Rattle.cr_top.proofs.Gated.{back-seen, counted-seen, doors-back, new-back, serves-many, shared-seen, told-seen}
use Rattle.cr_top.proofs.serve.serve_open_book.Goals as goal

pub serve_book-ended-requires-clause-at_most : goal.serve_book-ended-requires-clause-at_most
serve_book-ended-requires-clause-at_most g c κs within = c.requires.at_most

pub serve_book-ended-requires-clause-few : goal.serve_book-ended-requires-clause-few
serve_book-ended-requires-clause-few g c κs within = c.requires.few

pub serve_book-ended-requires-clause-back : goal.serve_book-ended-requires-clause-back
serve_book-ended-requires-clause-back g c κs within =
    new-back g.G.Door.Door.left g.G.Door.Door.is_out g.G.Door.Door.faults g.G.Door.Door.log c.args.doors.items
    c.requires.new

pub shut-requires : goal.shut-requires
shut-requires g c =
    back-seen g.G.Door.Door.left g.G.Door.Door.is_out g.G.Door.Door.faults g.G.Door.Door.log
    c.serve_book-ended.result.2.items
    (doors-back _ _ _ _ _ _ c.serve_book-ended.ensures.serves.0 c.requires.new)

pub shut-requires-2 : goal.shut-requires-2
shut-requires-2 g c =
    subst (λ (kind : List Bool). g.S.Shelf.has_opened c.args.shelf.now c.args.path.now kind)
    (sym (c.close.ensures.alike ∙ ap g.S.Keeper.Keeper.kind c.serve_book-ended.ensures.opened)) c.requires.open

pub returns : goal.returns
returns g c tells so s opens before listen at workers connections shared begins =
    let outlet = outlet_of g.O.Sink.taken g.O.Sink.faults in
    let stores = state_of g.S.Shelf.rows g.S.Shelf.faults in
    let gates_at = gates_of g.G.Gates.faults g.G.Gates.logs g.G.Gates.asked in
    let left = g.G.Door.Door.left in
    let is_out = g.G.Door.Door.is_out in
    let faults = g.G.Door.Door.faults in
    let log = g.G.Door.Door.log in
    let worked = c.serve_book-ended.result in
    let o = outlet c.args.out.now in
    let o' = outlet c.tell_entries.new.out in
    let K = g.S.Keeper.Keeper in
    let path = c.args.path.now in
    let alike = c.close.ensures.alike ∙ ap K.kind c.serve_book-ended.ensures.opened in
    let so' = K.tells_alike c.close.result c.args.book.opened alike ∙ so in
    let stands = stands-by (K.tells_stops c.close.result) (tells path) so' (K.rows c.close.result)
    (K.tried c.close.result) (g.S.Shelf.rows c.args.shelf.now path) (g.S.Shelf.rows c.shut-2.new.self path)
    c.shut-2.ensures.kept in
    serves-many (tells path) K.rows K.tried _ K.faults c.args.path.now _ listen workers connections worked.0
    (is_ok c.tell_entries.result) c.exit_of_workers.result
    (c.exit_of_workers.ensures ∙ ap (λ (b : Bool). exit_of_workers worked.0 b) c.is_ok.ensures.value) c.args.book
    worked.1 c.close.result
    (map (door_of left is_out faults log) c.args.doors.items) (map (door_of left is_out faults log) worked.2.items) o o'
    s (stores c.args.shelf.now) (stores c.shut-2.new.self) before (gates_at c.args.gates.now) (gates_at c.shut.new.self)
    at opens c.close.ensures.same c.close.ensures.legal
    (keeps-store (tells path) K
    (g.S.Shelf.left c.shut-2.new.self) _ path c.args.book
    c.close.result s (stores c.args.shelf.now) (stores c.shut-2.new.self) so so'
    (K.rows_alike c.close.result c.args.book.opened alike) begins
    (λ told image. (c.shut-2.ensures.stops told image).0) opens stands c.shut-2.ensures.others
    c.shut-2.ensures.count
    worked.1.log c.close.ensures.kept
    (subst (λ (k : g.row.S-Keeper.Denot). KeepsTold K k
    c.close.result worked.1.log)
    c.serve_book-ended.ensures.opened c.close.ensures.stops)
    (λ told. subst (λ (k : g.row.S-Keeper.Denot). CountsTried K k c.close.result)
    c.serve_book-ended.ensures.opened (c.close.ensures.counted told)))
    stands c.shut-2.ensures.others c.shut-2.ensures.count
    (exact-rows (tells path) K
    (g.S.Shelf.left c.shut-2.new.self) _ path c.args.book
    c.close.result s (stores c.args.shelf.now) (stores c.shut-2.new.self) so so'
    (K.rows_alike c.close.result c.args.book.opened alike) begins
    (λ told image. (c.shut-2.ensures.stops told image).0) opens stands c.shut-2.ensures.others
    c.shut-2.ensures.count
    worked.1.log c.close.ensures.kept
    (λ told. subst (λ (k : g.row.S-Keeper.Denot). CountsTried K k c.close.result)
    c.serve_book-ended.ensures.opened (c.close.ensures.counted told)))
    (shared-seen left is_out faults log c.args.doors.items _ shared) c.requires.new c.serve_book-ended.ensures.serves
    (λ judged. losses-kept (tells path) K
    (g.S.Shelf.left c.shut-2.new.self) _ path c.args.book
    c.close.result s (stores c.args.shelf.now) (stores c.shut-2.new.self) so so'
    (K.rows_alike c.close.result c.args.book.opened alike) begins
    (λ told image. (c.shut-2.ensures.stops told image).0) opens stands c.shut-2.ensures.others
    c.shut-2.ensures.count
    worked.1.log c.close.ensures.kept judged worked.1 c.close.ensures.same refl)
    (subst (λ (n : ℕ). TellsEntries (is_ok c.tell_entries.result) n o o') c.entries-entries.ensures.value
    c.tell_entries.ensures)
    (told-seen left is_out faults log worked.2.items _ c.shut.ensures.told)
    (counted-seen left is_out faults log worked.2.items _ _ c.shut.ensures.count)
    c.shut.ensures.same
