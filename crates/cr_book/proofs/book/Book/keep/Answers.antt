-- SPDX-License-Identifier: Apache-2.0 OR MIT
use Rattle.std.proofs.Common.{◌≡◌, ◌∙◌, ◌++◌, List, IsTrue, Ok, Err, ap, sym, subst}
use Rattle.cr_base.specs.declared.row.Row.{Row}
use Rattle.cr_base.specs.History.{History}
use Rattle.cr_base.specs.Rows.{rows_of}
use Rattle.cr_base.specs.Tables.{Tables, tables_from}
use Rattle.cr_log.specs.Given.{MayFollow}
use Rattle.cr_policy.specs.Legal.{Legal}
use Rattle.cr_ports.specs.Keeping.{and_rows}
use Rattle.cr_book.specs.declared.book.BookError.{BookError}
use Rattle.cr_book.specs.declared.book.BookError.TheVariants as errors
use Rattle.cr_book.specs.Sound.{IsSound}
use Rattle.cr_book.specs.Seen.{SeenBook}
use Rattle.cr_book.specs.Stopping.{Adding, AddsOne}
use Rattle.cr_book.proofs.BookLaws.{sound-step}
use Rattle.cr_book.proofs.StopLaws.{counted_failed, counted_kept, counted_still}
use Rattle.cr_book.proofs.StopLaws.{kept_adds, kept_step, refused_adds, refused_step}
use Rattle.cr_book.proofs.book.Book.keep.Given.{Over}
use Rattle.cr_book.proofs.book.Book.keep.Goals as goal

pub append-requires-clause-follows : goal.append-requires-clause-follows
append-requires-clause-follows g c =
    let old = sym (c.room-2.ensures.same ∙ ap (λ (v : SeenBook g.row.K.Denot). v.log) c.self.view_is) in
    let group = sym (c.in-Ok-copies_of.ensures ∙ c.deref-2.ensures.value) in
    subst (λ (h : History). MayFollow h c.in-Ok-copies_of.entries.items) old
    (subst (λ (h : History). MayFollow c.args.self.now.log h) group c.requires.follows)

-- the history is followed by the group
grown : (g : Over) (c : goal.After-drop-rows-2 g)
    → c.append.new.self.entries ≡ c.self.inside.log.entries ++ c.args.group.items
grown g c =
    c.append.ensures
    ∙ ap (λ (h : History). h ++ c.in-Ok-copies_of.entries.items) c.room-2.ensures.same
    ∙ ap (λ (h : History). c.self.inside.log.entries ++ h) (c.in-Ok-copies_of.ensures ∙ c.deref-2.ensures.value)

added-rows : (g : Over) (c : goal.After-drop-rows-2 g) → c.deref-5.result.now ≡ rows_of c.args.group.items
added-rows g c = c.deref-5.ensures.value ∙ c.in-Ok.ensures ∙ ap rows_of c.deref.ensures.value

sound : (g : Over) (c : goal.After-drop-rows-2 g)
    → IsSound g.K.Keeper.rows c.append.new.self.entries c.apply_all.new.self.tables c.append_all.new.self
sound g c =
    let same = ap (λ (v : SeenBook g.row.K.Denot). v.log) c.self.view_is in
    let legal =
    subst (λ (x : History). Legal x) (ap (λ (h : History). h ++ c.args.group.items) (sym same)) c.requires.legal in
    sound-step g.K.Keeper.rows c.self.inside.log.entries c.append.new.self.entries c.args.group.items
    c.self.inside.live.tables c.apply_all.new.self.tables c.self.inside.keeper c.append_all.new.self
    c.self.invariant.0
    legal
    (grown g c)
    (c.apply_all.ensures.after ∙ ap (λ (t : Tables). tables_from t c.args.group.items) c.room.ensures.same)
    (c.in-Ok-append_all.ensures.kept ∙ ap (λ (rs : List Row). and_rows (g.K.Keeper.rows c.self.inside.keeper) rs)
    (added-rows g c))

pub invariant_of-self-2 : goal.invariant_of-self-2
invariant_of-self-2 g c =
    let K = g.K.Keeper in
    let inside = c.self.inside in
    let same = ap (λ (v : SeenBook g.row.K.Denot). v.log) c.self.view_is in
    let alike = K.tells_alike c.append_all.new.self inside.keeper c.append_all.ensures.alike in
    let both = kept_step K inside.opened.value
    inside.keeper c.append_all.new.self
    alike
    inside.log.entries c.args.group.items c.deref-5.result.now inside.live.tables (added-rows g c) (
      c.self.invariant.0,
      c.self.invariant.1,
    )
    (subst (λ (h : History). AddsOne h c.args.group.items) (sym same) c.requires.adds)
    c.append_all.ensures.stops c.append_all.ensures.between
    c.append.new.self.entries c.apply_all.new.self.tables (sound g c) (grown g c) c.in-Ok-append_all.ensures.tried in (
      both.0,
      both.1,
      c.append_all.ensures.alike ∙ c.self.invariant.2,
      λ telling. let told = sym alike ∙ telling in
          counted_kept K inside.opened.value inside.keeper c.append_all.new.self (c.self.invariant.3
          told)
          c.append_all.ensures.cause.later (c.in-Ok-append_all.ensures.tried told),
    )

pub invariant_of-self-in-Err-Failed : goal.invariant_of-self-in-Err-Failed
invariant_of-self-in-Err-Failed g c =
    let K = g.K.Keeper in
    let inside = c.self.inside in
    let same = ap (λ (v : SeenBook g.row.K.Denot). v.log) c.self.view_is in
    let alike = K.tells_alike c.append_all.new.self inside.keeper c.append_all.ensures.alike in
    let both = refused_step K inside.opened.value
    inside.keeper c.append_all.new.self
    alike
    inside.log.entries c.args.group.items c.deref-5.result.now inside.live.tables
    (c.deref-5.ensures.value ∙ c.in-Ok.ensures ∙ ap rows_of c.deref.ensures.value) (
      c.self.invariant.0,
      c.self.invariant.1,
    )
    (subst (λ (h : History). AddsOne h c.args.group.items) (sym same) c.requires.adds)
    c.append_all.ensures.stops c.append_all.ensures.between
    c.room-2.new.self.entries c.room.new.self.tables c.room-2.ensures.same c.room.ensures.same
    c.in-Err-Failed.ensures.refused c.in-Err-Failed.ensures.tried in (
      both.0,
      both.1,
      c.append_all.ensures.alike ∙ c.self.invariant.2,
      λ telling. let told = sym alike ∙ telling in
          counted_failed K inside.opened.value inside.keeper c.append_all.new.self (c.self.invariant.3
          told)
          c.append_all.ensures.cause.later (c.in-Err-Failed.ensures.cause.failed (ap Err c.in-Err-Failed.field-0-is)),
    )

pub invariant_of-self-in-Err-OutOfMemory : goal.invariant_of-self-in-Err-OutOfMemory
invariant_of-self-in-Err-OutOfMemory g c =
    let K = g.K.Keeper in
    let inside = c.self.inside in
    let same = ap (λ (v : SeenBook g.row.K.Denot). v.log) c.self.view_is in
    let alike = K.tells_alike c.append_all.new.self inside.keeper c.append_all.ensures.alike in
    let both = refused_step K inside.opened.value
    inside.keeper c.append_all.new.self
    alike
    inside.log.entries c.args.group.items c.deref-5.result.now inside.live.tables
    (c.deref-5.ensures.value ∙ c.in-Ok.ensures ∙ ap rows_of c.deref.ensures.value) (
      c.self.invariant.0,
      c.self.invariant.1,
    )
    (subst (λ (h : History). AddsOne h c.args.group.items) (sym same) c.requires.adds)
    c.append_all.ensures.stops c.append_all.ensures.between
    c.room-2.new.self.entries c.room.new.self.tables c.room-2.ensures.same c.room.ensures.same
    c.in-Err-OutOfMemory.ensures.refused c.in-Err-OutOfMemory.ensures.tried in (
      both.0,
      both.1,
      c.append_all.ensures.alike ∙ c.self.invariant.2,
      λ telling. let told = sym alike ∙ telling in
          counted_still K inside.opened.value inside.keeper c.append_all.new.self (c.self.invariant.3
          told)
          (c.in-Err-OutOfMemory.ensures.untried told (ap Err c.in-Err-OutOfMemory.field-0-is)),
    )

pub returns-clause-stops : goal.returns-clause-stops
returns-clause-stops g c = λ tells.
    let K = g.K.Keeper in
    let told = subst (λ (v : SeenBook g.row.K.Denot). IsTrue (K.tells_stops v.keeper)) (sym c.self.view_is) tells in
    let inside = c.self.inside in
    let same = ap (λ (v : SeenBook g.row.K.Denot). v.log) c.self.view_is in
    subst (λ (v : SeenBook g.row.K.Denot). Adding K {E = BookError g.row.B.Denot} (Ok (tt
    {0})) v.log
    c.args.group.items v.keeper c.append_all.new.self)
    c.self.view_is
    (kept_adds K inside.opened.value
    inside.keeper c.append_all.new.self
    (K.tells_alike c.append_all.new.self inside.keeper c.append_all.ensures.alike)
    inside.log.entries c.args.group.items c.deref-5.result.now inside.live.tables (added-rows g c) (
      c.self.invariant.0,
      c.self.invariant.1,
    )
    (subst (λ (h : History). AddsOne h c.args.group.items) (sym same) c.requires.adds)
    c.append_all.ensures.stops c.append_all.ensures.between c.in-Ok-append_all.ensures.tried told)

pub returns-in-Err-Failed-clause-stops : goal.returns-in-Err-Failed-clause-stops
returns-in-Err-Failed-clause-stops g c = λ tells.
    let K = g.K.Keeper in
    let told = subst (λ (v : SeenBook g.row.K.Denot). IsTrue (K.tells_stops v.keeper)) (sym c.self.view_is) tells in
    let inside = c.self.inside in
    let same = ap (λ (v : SeenBook g.row.K.Denot). v.log) c.self.view_is in
    subst (λ (v : SeenBook g.row.K.Denot). Adding K {T = Unit
    {0}} {E = BookError g.row.B.Denot}
    (Err errors.KeeperFault) v.log c.args.group.items v.keeper c.append_all.new.self)
    c.self.view_is
    (refused_adds K inside.opened.value
    inside.keeper c.append_all.new.self
    (K.tells_alike c.append_all.new.self inside.keeper c.append_all.ensures.alike)
    inside.log.entries c.args.group.items c.deref-5.result.now inside.live.tables
    (c.deref-5.ensures.value ∙ c.in-Ok.ensures ∙ ap rows_of c.deref.ensures.value) (
      c.self.invariant.0,
      c.self.invariant.1,
    )
    (subst (λ (h : History). AddsOne h c.args.group.items) (sym same) c.requires.adds)
    c.append_all.ensures.stops c.append_all.ensures.between errors.KeeperFault c.in-Err-Failed.ensures.tried told)

pub returns-in-Err-OutOfMemory-clause-stops : goal.returns-in-Err-OutOfMemory-clause-stops
returns-in-Err-OutOfMemory-clause-stops g c = λ tells.
    let K = g.K.Keeper in
    let told = subst (λ (v : SeenBook g.row.K.Denot). IsTrue (K.tells_stops v.keeper)) (sym c.self.view_is) tells in
    let inside = c.self.inside in
    let same = ap (λ (v : SeenBook g.row.K.Denot). v.log) c.self.view_is in
    subst (λ (v : SeenBook g.row.K.Denot). Adding K {T = Unit
    {0}} {E = BookError g.row.B.Denot}
    (Err errors.OutOfMemory) v.log c.args.group.items v.keeper c.append_all.new.self)
    c.self.view_is
    (refused_adds K inside.opened.value
    inside.keeper c.append_all.new.self
    (K.tells_alike c.append_all.new.self inside.keeper c.append_all.ensures.alike)
    inside.log.entries c.args.group.items c.deref-5.result.now inside.live.tables
    (c.deref-5.ensures.value ∙ c.in-Ok.ensures ∙ ap rows_of c.deref.ensures.value) (
      c.self.invariant.0,
      c.self.invariant.1,
    )
    (subst (λ (h : History). AddsOne h c.args.group.items) (sym same) c.requires.adds)
    c.append_all.ensures.stops c.append_all.ensures.between errors.OutOfMemory c.in-Err-OutOfMemory.ensures.tried told)

pub returns-in-Err-OutOfMemory-clause-untried : goal.returns-in-Err-OutOfMemory-clause-untried
returns-in-Err-OutOfMemory-clause-untried g c = λ tells is.
    let K = g.K.Keeper in
    let told = subst (λ (v : SeenBook g.row.K.Denot). IsTrue (K.tells_stops v.keeper)) (sym c.self.view_is) tells in
    c.in-Err-OutOfMemory.ensures.untried told (ap Err c.in-Err-OutOfMemory.field-0-is)
    ∙ ap (λ (v : SeenBook g.row.K.Denot). v.keeper) c.self.view_is
