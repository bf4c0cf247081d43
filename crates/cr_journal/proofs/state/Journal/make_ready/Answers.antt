-- SPDX-License-Identifier: Apache-2.0 OR MIT
use Rattle.std.proofs.Common.{inl, refl}
use Rattle.cr_journal.specs.Gates.{IsKeptOrOneMore}
use Rattle.cr_journal.specs.Standing.{doubted}
use Rattle.cr_ports.proofs.StopLaws.{started}
use Rattle.cr_journal.proofs.Calls.{shut_opens, closed_again, still_open}
use Rattle.cr_journal.proofs.Whole.{in_doubt, not_both, while_open}
use Rattle.cr_journal.proofs.state.Journal.make_ready.Goals as goal

pub returns-in_err-set_gate-clause-any_moment : goal.returns-in_err-set_gate-clause-any_moment
returns-in_err-set_gate-clause-any_moment g c = λ told kept d s.
    let on = c.if-self.true in
    while_open g.D.Disk.moment g.D.Disk.left_since c.args.self.now.disk c.set_gate.new.disk _ _ c.args.self.now.gate
    kept (doubted c.args.self.now.in_doubt d)
    d (in_doubt c.args.self.now.in_doubt d on) (s.doubt on) (c.set_gate.ensures.any_moment told)

pub returns-in_err-set_gate-clause-stands : goal.returns-in_err-set_gate-clause-stands
returns-in_err-set_gate-clause-stands g c = λ told kept d s.
    record {
      shut = λ off. not_both _ off c.if-self.true;
      doubt = λ on. still_open _ _ c.args.self.now.gate kept d _ _ (s.doubt c.if-self.true)
          (c.set_gate.ensures.seen told) (c.set_gate.ensures.images told);
    }

pub returns-in_ok-set_gate-clause-stands : goal.returns-in_ok-set_gate-clause-stands
returns-in_ok-set_gate-clause-stands g c = λ told kept d s.
    let written = c.in_ok-set_gate.ensures.written told in
    record {
      shut = λ off. closed_again _ _ c.args.self.now.gate kept d _ _ (s.doubt c.if-self.true) written.0 written.1;
      doubt = λ on. not_both _ refl on;
    }

pub returns-in_ok-set_gate-clause-any_moment : goal.returns-in_ok-set_gate-clause-any_moment
returns-in_ok-set_gate-clause-any_moment g c = λ told kept d s.
    let on = c.if-self.true in
    while_open g.D.Disk.moment g.D.Disk.left_since c.args.self.now.disk c.set_gate.new.disk _ _ c.args.self.now.gate
    kept (doubted c.args.self.now.in_doubt d)
    d (in_doubt c.args.self.now.in_doubt d on) (s.doubt on) (c.set_gate.ensures.any_moment told)

pub returns-else-self-clause-any_moment : goal.returns-else-self-clause-any_moment
returns-else-self-clause-any_moment g c = λ told kept d s.
    let shut = s.shut c.if-self.false in
    started g.D.Disk.moment g.D.Disk.left_since c.args.self.now.disk
    (IsKeptOrOneMore kept (doubted c.args.self.now.in_doubt d))
    (λ f left. inl (shut_opens _ _ c.args.self.now.gate kept f shut
    (shut.synced f (g.met.D.Disk.only_now c.args.self.now.disk f left))))
