-- SPDX-License-Identifier: Apache-2.0 OR MIT
use Rattle.std.proofs.Common.{◌∙◌, Err, ℕ, false, ap, sym}
use Rattle.cr_base.specs.Calls.{call_of}
use Rattle.cr_base.specs.History.{History}
use Rattle.cr_policy.specs.Judge.{decide}
use Rattle.cr_base.specs.Retries.{drawn_by}
use Rattle.cr_policy.specs.View.{view}
use Rattle.cr_book.specs.Seen.{SeenBook}
use Rattle.cr_book.specs.declared.book.BookError.TheVariants as errors
use Rattle.cr_session.specs.Replay.{Ledger}
use Rattle.cr_session.proofs.TryLaws.{accepted-still, nothing-drawn, tries-kept, tries-refused}
use Rattle.cr_session.proofs.TurnLaws.{acts-as_bulk, draws-as_bulk}
use Rattle.cr_session.proofs.turn.judge.Goals as goal

pub returns-in-Ok-clause-tried : goal.returns-in-Ok-clause-tried
returns-in-Ok-clause-tried g c =
    let K = g.K.Keeper in
    let b = c.args.book.now in
    let b' = c.command.new.self in
    let outcome =
    decide (view c.args.caller.now b.log) (call_of c.args.caller.now c.args.at c.args.key c.args.command) in
    tries-kept K c.command.result b.log b.keeper b'.keeper
    c.in-Ok.receipt (drawn_by outcome) c.in-Ok.is
    (accepted-still outcome b b' c.in-Ok.receipt c.in-Ok.ensures.accepted c.command.ensures.repeat_stays)
    c.command.ensures.stops

pub returns-in-Err-Broken-clause-tried : goal.returns-in-Err-Broken-clause-tried
returns-in-Err-Broken-clause-tried g c =
    let K = g.K.Keeper in
    let b = c.args.book.now in
    let b' = c.command.new.self in
    let outcome =
    decide (view c.args.caller.now b.log) (call_of c.args.caller.now c.args.at c.args.key c.args.command) in
    nothing-drawn K false b.log (drawn_by outcome) b.keeper
    b'.keeper
    (ap drawn_by (c.command.ensures.only_rule c.in-Err-Broken.rule
    (c.in-Err-Broken.is ∙ ap Err c.in-Err-Broken.field-0-is)))
    (ap (λ (x : SeenBook g.row.K.Denot). x.keeper)
    (c.command.ensures.rule_stays c.in-Err-Broken.rule (c.in-Err-Broken.is ∙ ap Err c.in-Err-Broken.field-0-is)))

pub returns-in-Err-KeeperFault-clause-tried : goal.returns-in-Err-KeeperFault-clause-tried
returns-in-Err-KeeperFault-clause-tried g c =
    let K = g.K.Keeper in
    let b = c.args.book.now in
    let b' = c.command.new.self in
    let outcome =
    decide (view c.args.caller.now b.log) (call_of c.args.caller.now c.args.at c.args.key c.args.command) in
    tries-refused K c.command.result b.log b.keeper b'.keeper
    errors.KeeperFault (drawn_by outcome) (c.in-Err-KeeperFault.is ∙ ap Err c.in-Err-KeeperFault.field-0-is)
    (c.command.ensures.lost (c.in-Err-KeeperFault.is ∙ ap Err c.in-Err-KeeperFault.field-0-is)) c.command.ensures.stops

pub returns-in-Err-OutOfMemory-clause-tried : goal.returns-in-Err-OutOfMemory-clause-tried
returns-in-Err-OutOfMemory-clause-tried g c =
    λ told. c.command.ensures.untried told (c.in-Err-OutOfMemory.is ∙ ap Err c.in-Err-OutOfMemory.field-0-is)

pub returns-in-Ok-clause-changes : goal.returns-in-Ok-clause-changes
returns-in-Ok-clause-changes g c =
    let b = c.args.book.now in
    let outcome =
    decide (view c.args.caller.now b.log) (call_of c.args.caller.now c.args.at c.args.key c.args.command) in (
      acts-as_bulk outcome b.log c.command.new.self.log c.in-Ok.receipt c.in-Ok.ensures.accepted,
      c.command.ensures.steady (λ is. absurd (cc (sym c.in-Ok.is ∙ is))),
    )

pub returns-in-Err-KeeperFault-clause-changes : goal.returns-in-Err-KeeperFault-clause-changes
returns-in-Err-KeeperFault-clause-changes g c =
    let b = c.args.book.now in
    let outcome =
    decide (view c.args.caller.now b.log) (call_of c.args.caller.now c.args.at c.args.key c.args.command) in
    let is = c.in-Err-KeeperFault.is ∙ ap Err c.in-Err-KeeperFault.field-0-is in (
      draws-as_bulk outcome (c.command.ensures.lost is),
      c.in-Err-KeeperFault.ensures.log_stays,
      (c.command.ensures.count, c.command.ensures.fault is),
    )

abbrev ledger : History → ℕ → Ledger
ledger log faults = record { history = log; faults = faults }

pub returns-in-Err-OutOfMemory-clause-changes : goal.returns-in-Err-OutOfMemory-clause-changes
returns-in-Err-OutOfMemory-clause-changes g c =
    let b = c.args.book.now in
    let outcome =
    decide (view c.args.caller.now b.log) (call_of c.args.caller.now c.args.at c.args.key c.args.command) in
    let is = c.in-Err-OutOfMemory.is ∙ ap Err c.in-Err-OutOfMemory.field-0-is in
    let steady = c.command.ensures.steady (λ fault. absurd (cc (sym is ∙ fault))) in (
      ap (λ (log : History). ledger log (g.K.Keeper.faults c.command.new.self.keeper))
          c.in-Err-OutOfMemory.ensures.log_stays
          ∙ ap (ledger b.log) steady,
      draws-as_bulk outcome (c.command.ensures.memory is),
    )
