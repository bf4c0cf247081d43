-- SPDX-License-Identifier: Apache-2.0 OR MIT
use Rattle.std.proofs.Common.{◌++◌, ◌∙◌, ap, sym, subst}
use Rattle.cr_base.specs.History.{History}
use Rattle.cr_base.specs.Tables.{Tables, tables_from, FitInTurn}
use Rattle.cr_log.specs.Given.{MayFollow}
use Rattle.cr_log.specs.Room.{HasRoom}
use Rattle.cr_view.specs.Room.{RoomFor}
use Rattle.cr_book.proofs.OpeningLaws.{read-whole, whole-rows}
use Rattle.cr_book.proofs.reading.with_group.Goals as goal

pub append-requires-clause-room : goal.append-requires-clause-room
append-requires-clause-room c =
    subst (λ (group : History). HasRoom c.room-2.new.self group)
    (c.deref-3.ensures.value ∙ sym (c.in-Ok.ensures ∙ c.deref.ensures.value)) c.in-Ok-room-2.ensures.ok

pub append-requires-clause-follows : goal.append-requires-clause-follows
append-requires-clause-follows c =
    subst (λ (log : History). MayFollow log c.in-Ok.entries.items) (sym c.room-2.ensures.same)
    (subst (λ (group : History). MayFollow c.args.whole.log.entries group)
    (sym (c.in-Ok.ensures ∙ c.deref.ensures.value))
    c.requires.group.follows)

pub apply_all-requires-clause-room : goal.apply_all-requires-clause-room
apply_all-requires-clause-room c =
    subst (λ (group : History). RoomFor group c.room.new.self.rooms) c.deref-2.ensures.value c.in-Ok-room.ensures.ok

pub apply_all-requires-clause-fits : goal.apply_all-requires-clause-fits
apply_all-requires-clause-fits c =
    subst (λ (t : Tables). FitInTurn t c.args.group.items) (sym c.room.ensures.same) c.requires.group.fits

pub invariant_of-result : goal.invariant_of-result
invariant_of-result c =
    read-whole c.args.whole.log.entries _ c.args.whole.live.tables _ c.args.group.items _ c.requires.group
    c.requires.same
    (c.append.ensures ∙ ap (λ (h : History). h ++ c.in-Ok.entries.items) c.room-2.ensures.same
    ∙ ap (λ (h : History). c.args.whole.log.entries ++ h) (c.in-Ok.ensures ∙ c.deref.ensures.value))
    (c.apply_all.ensures.after ∙ ap (λ (t : Tables). tables_from t c.args.group.items) c.room.ensures.same)
    c.new.ensures.items

pub returns-clause-ok : goal.returns-clause-ok
returns-clause-ok c =
    whole-rows c.args.whole.log.entries _ c.args.group.items _
    (c.append.ensures ∙ ap (λ (h : History). h ++ c.in-Ok.entries.items) c.room-2.ensures.same
    ∙ ap (λ (h : History). c.args.whole.log.entries ++ h) (c.in-Ok.ensures ∙ c.deref.ensures.value))
    c.new.ensures.items
