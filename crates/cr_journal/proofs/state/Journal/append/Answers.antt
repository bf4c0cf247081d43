-- SPDX-License-Identifier: Apache-2.0 OR MIT
use Rattle.std.proofs.Common.{[], ◌∷◌, inl, refl, ap, length, ◌+◌}
use Rattle.std.proofs.lemmas.Result.{err_from_is_err_and}
use Rattle.cr_journal.specs.Gates.{IsKeptOrOneMore}
use Rattle.cr_journal.proofs.Calls.{staged, still_open, opened_now, shut_still}
use Rattle.cr_ports.proofs.StopLaws.{and_then}
use Rattle.cr_journal.proofs.Whole.{not_both, while_shut, while_open}
use Rattle.cr_journal.proofs.state.Journal.append.Goals as goal

pub returns-in_err-stage-clause-not_kept : goal.returns-in_err-stage-clause-not_kept
returns-in_err-stage-clause-not_kept g c = λ told.
    let e = err_from_is_err_and c.from_residual.result c.from_residual.ensures.1 in
    rw e.1 (λ kept d p s short is.
    let shut = s.shut c.requires.ready in
    record {
      shut = λ off. shut_still _ _ c.args.self.now.gate kept _ _ shut (c.stage.ensures.seen told)
          (c.stage.ensures.images told);
      doubt = λ on. not_both _ c.requires.ready on;
    })

pub returns-in_err-stage-clause-any_moment : goal.returns-in_err-stage-clause-any_moment
returns-in_err-stage-clause-any_moment g c = λ told kept d p s short is.
    while_shut g.D.Disk.moment g.D.Disk.left_since c.args.self.now.disk c.stage.new.disk _ _ c.args.self.now.gate kept
    (p ∷ [])
    (s.shut c.requires.ready) (c.stage.ensures.any_moment told)

pub returns-in-Err-clause-not_kept : goal.returns-in-Err-clause-not_kept
returns-in-Err-clause-not_kept g c = λ told kept d p s short is.
    let written = c.in_ok-stage.ensures.written told in
    let m = staged _ _ c.args.self.now.gate kept p c.args.block.now _ _ (s.shut c.requires.ready) short is written.0
    written.1 in
    record {
      shut = λ off. not_both _ off refl;
      doubt = λ on. still_open _ _ c.args.self.now.gate kept p _ _ m (c.set_gate.ensures.seen told)
          (c.set_gate.ensures.images told);
    }

pub returns-in-Err-clause-any_moment : goal.returns-in-Err-clause-any_moment
returns-in-Err-clause-any_moment g c = λ told kept d p s short is.
    let written = c.in_ok-stage.ensures.written told in
    let shut = s.shut c.requires.ready in
    let first = while_shut g.D.Disk.moment g.D.Disk.left_since c.args.self.now.disk c.stage.new.disk _ _
    c.args.self.now.gate kept (p ∷ []) shut (c.stage.ensures.any_moment told) in
    let m = staged _ _ c.args.self.now.gate kept p c.args.block.now _ _ shut short is written.0 written.1 in
    let second = while_open g.D.Disk.moment g.D.Disk.left_since c.stage.new.disk c.set_gate.new.disk _ _
    c.args.self.now.gate kept (p ∷ []) p (inl refl) m (c.set_gate.ensures.any_moment told) in
    and_then g.D.Disk.moment g.D.Disk.left_since c.args.self.now.disk c.stage.new.disk c.set_gate.new.disk
    (IsKeptOrOneMore kept (p ∷ [])) first second

pub returns-clause-kept : goal.returns-clause-kept
returns-clause-kept g c = λ told kept d p s short is.
    let written = c.in_ok-stage.ensures.written told in
    let opened = c.in_default.ensures.written told in
    let m = staged _ _ c.args.self.now.gate kept p c.args.block.now _ _ (s.shut c.requires.ready) short is written.0
    written.1 in
    record {
      shut = λ off. opened_now _ _ c.args.self.now.gate kept p _ (c.args.self.now.gate + length c.args.block.now) _ m
          (ap (λ l. c.args.self.now.gate + length l) is) opened.0 opened.1;
      doubt = λ on. not_both _ c.requires.ready on;
    }

pub returns-clause-any_moment : goal.returns-clause-any_moment
returns-clause-any_moment g c = λ told kept d p s short is.
    let written = c.in_ok-stage.ensures.written told in
    let shut = s.shut c.requires.ready in
    let first = while_shut g.D.Disk.moment g.D.Disk.left_since c.args.self.now.disk c.stage.new.disk _ _
    c.args.self.now.gate kept (p ∷ []) shut (c.stage.ensures.any_moment told) in
    let m = staged _ _ c.args.self.now.gate kept p c.args.block.now _ _ shut short is written.0 written.1 in
    let second = while_open g.D.Disk.moment g.D.Disk.left_since c.stage.new.disk c.set_gate.new.disk _ _
    c.args.self.now.gate kept (p ∷ []) p (inl refl) m (c.set_gate.ensures.any_moment told) in
    and_then g.D.Disk.moment g.D.Disk.left_since c.args.self.now.disk c.stage.new.disk c.set_gate.new.disk
    (IsKeptOrOneMore kept (p ∷ [])) first second
