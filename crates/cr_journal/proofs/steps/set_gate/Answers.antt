-- SPDX-License-Identifier: Apache-2.0 OR MIT
use Rattle.std.proofs.Common.{ℕ, ◌<◌, List, length, ⊎_elim, arith, subst, sym}
use Rattle.cr_journal.specs.Gates.{SameBut}
use Rattle.cr_journal.proofs.Bytes.{but_after, holds_but, torn_but}
use Rattle.cr_ports.proofs.StopLaws.{started}
use Rattle.cr_journal.proofs.Moments.{goes_on}
use Rattle.cr_journal.proofs.steps.set_gate.Goals as goal

pub returns-clause-any_moment : goal.returns-clause-any_moment
returns-clause-any_moment g c = λ told.
    let gate = c.args.gate in
    let old = c.args.disk.now in
    let mid = c.write_at.new.self in
    let new = c.sync.new.self in
    let file : List ℕ = g.D.Disk.seen old in
    let P : List ℕ → Type 0 = SameBut gate file in
    let first : (f : List ℕ) → g.D.Disk.may_leave old f → P f = c.requires.synced told in
    let second : (f : List ℕ) → g.D.Disk.may_leave mid f → P f =
    λ f left.
    let t = c.write_at.ensures.crash told f left in
    let was = first t.0 t.1 in
    let inside : gate < length t.0 = omega (arith, was.long, c.requires.inside told) in
    but_after gate file t.0 f was (torn_but gate t.0 f inside t.2) in
    let seen_now : P (g.D.Disk.seen mid) =
    holds_but gate c.args.value file (g.D.Disk.seen mid) (c.requires.inside told)
    (c.in_ok-write_at.ensures.written told) in
    let third : (f : List ℕ) → g.D.Disk.may_leave new f → P f =
    λ f left. ⊎_elim (second f) (λ is. subst P (sym is) seen_now) (c.sync.ensures.crash told f left) in
    let zero =
    started g.D.Disk.moment g.D.Disk.left_since old P (λ f left. first f (g.met.D.Disk.only_now old f left)) in
    let one = goes_on g.D.Disk.moment g.D.Disk.left_since old old mid P (g.D.Disk.may_leave mid) zero
    (c.write_at.ensures.time told) second in
    goes_on g.D.Disk.moment g.D.Disk.left_since old mid new P (g.D.Disk.may_leave new) one (c.sync.ensures.time told)
    third
