-- SPDX-License-Identifier: Apache-2.0 OR MIT
use Rattle.std.proofs.Common.{◌∙◌, ap, ℕ, List}
use Rattle.cr_disks.specs.Held.{DiskState, state_of}
use Rattle.cr_disks.specs.Paths.{bytes_at, state_at}
use Rattle.cr_disks.proofs.Paths.{same_left, same_room}
use Rattle.cr_disks.proofs.mem_disks.MemDisksDisks.open.Goals as goal

pub disk_at-requires : goal.disk_at-requires
disk_at-requires c =
    same_room (bytes_at c.args.self.now.files) (bytes_at c.make_file.new.self.files) c.args.path.now
    c.args.self.now.room
    c.make_file.new.self.room c.make_file.ensures.files c.make_file.ensures.room.0
    (c.is_too_long.ensures.0 c.if-is_too_long.false)

pub returns-in-Ok-clause-found : goal.returns-in-Ok-clause-found
returns-in-Ok-clause-found c =
    c.in-Ok.ensures.bytes ∙ ap (λ (files : List ℕ → List ℕ). files c.args.path.now) c.make_file.ensures.files

pub returns-in-Ok-clause-stops : goal.returns-in-Ok-clause-stops
returns-in-Ok-clause-stops c =
    let path = c.args.path.now in
    same_left (state_of c.in-Ok.disk) (state_at c.args.self.now.files path)
    (c.in-Ok.ensures.state ∙ ap (λ (states : List ℕ → DiskState). states path) c.make_file.ensures.states)

pub returns-in-Ok-clause-as_before : goal.returns-in-Ok-clause-as_before
returns-in-Ok-clause-as_before c = λ other image.
    same_left (state_at c.make_file.new.self.files other) (state_at c.args.self.now.files other)
    (ap (λ (states : List ℕ → DiskState). states other) c.make_file.ensures.states) image

pub returns-in-Err-clause-as_before : goal.returns-in-Err-clause-as_before
returns-in-Err-clause-as_before c = λ other image.
    same_left (state_at c.make_file.new.self.files other) (state_at c.args.self.now.files other)
    (ap (λ (states : List ℕ → DiskState). states other) c.make_file.ensures.states) image

pub returns-then-is_err-clause-as_before : goal.returns-then-is_err-clause-as_before
returns-then-is_err-clause-as_before c = λ other image.
    same_left (state_at c.make_file.new.self.files other) (state_at c.args.self.now.files other)
    (ap (λ (states : List ℕ → DiskState). states other) c.make_file.ensures.states) image
