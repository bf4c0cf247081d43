-- SPDX-License-Identifier: Apache-2.0 OR MIT
use Rattle.std.proofs.Common.{sym, subst}
use Rattle.cr_view.specs.Room.{RoomFor}
use Rattle.cr_view.specs.Seen.{SeenTables}
use Rattle.cr_view.proofs.RoomLaws.{room-kept}
use Rattle.cr_view.proofs.live.Live.room.Goals as goal

pub returns-in_err-room-3-clause-keeps : goal.returns-in_err-room-3-clause-keeps
returns-in_err-room-3-clause-keeps c any has =
    room-kept any _ _ c.room.ensures.keeps (c.room-2.ensures.keeps any) (c.room-3.ensures.keeps any) (λ r. r) (λ r. r)
    (λ r. r) (λ r. r) (λ r. r)
    (subst (λ (v : SeenTables). RoomFor any v.rooms) (sym c.self.view_is) has)

pub returns-in_err-room-4-clause-keeps : goal.returns-in_err-room-4-clause-keeps
returns-in_err-room-4-clause-keeps c any has =
    room-kept any _ _ c.room.ensures.keeps (c.room-2.ensures.keeps any) (c.room-3.ensures.keeps any)
    (c.room-4.ensures.keeps any) (λ r. r) (λ r. r) (λ r. r) (λ r. r)
    (subst (λ (v : SeenTables). RoomFor any v.rooms) (sym c.self.view_is) has)

pub returns-in_err-room-5-clause-keeps : goal.returns-in_err-room-5-clause-keeps
returns-in_err-room-5-clause-keeps c any has =
    room-kept any _ _ c.room.ensures.keeps (c.room-2.ensures.keeps any) (c.room-3.ensures.keeps any)
    (c.room-4.ensures.keeps any) (c.room-5.ensures.keeps any) (λ r. r) (λ r. r) (λ r. r)
    (subst (λ (v : SeenTables). RoomFor any v.rooms) (sym c.self.view_is) has)

pub returns-in_err-room-6-clause-keeps : goal.returns-in_err-room-6-clause-keeps
returns-in_err-room-6-clause-keeps c any has =
    room-kept any _ _ c.room.ensures.keeps (c.room-2.ensures.keeps any) (c.room-3.ensures.keeps any)
    (c.room-4.ensures.keeps any) (c.room-5.ensures.keeps any) (c.room-6.ensures.keeps any) (λ r. r) (λ r. r)
    (subst (λ (v : SeenTables). RoomFor any v.rooms) (sym c.self.view_is) has)

pub returns-in_err-room-7-clause-keeps : goal.returns-in_err-room-7-clause-keeps
returns-in_err-room-7-clause-keeps c any has =
    room-kept any _ _ c.room.ensures.keeps (c.room-2.ensures.keeps any) (c.room-3.ensures.keeps any)
    (c.room-4.ensures.keeps any) (c.room-5.ensures.keeps any) (c.room-6.ensures.keeps any)
    (c.room-7.ensures.keeps any) (λ r. r)
    (subst (λ (v : SeenTables). RoomFor any v.rooms) (sym c.self.view_is) has)

pub returns-clause-keeps : goal.returns-clause-keeps
returns-clause-keeps c any has =
    room-kept any _ _ c.room.ensures.keeps (c.room-2.ensures.keeps any) (c.room-3.ensures.keeps any)
    (c.room-4.ensures.keeps any) (c.room-5.ensures.keeps any) (c.room-6.ensures.keeps any)
    (c.room-7.ensures.keeps any) (c.room-8.ensures.keeps any)
    (subst (λ (v : SeenTables). RoomFor any v.rooms) (sym c.self.view_is) has)
