-- SPDX-License-Identifier: Apache-2.0 OR MIT
use Rattle.std.proofs.Common.{ℕ, None, subst}
use Rattle.cr_base.specs.Calls.{call_of}
use Rattle.cr_book.specs.Sound.{Accepts}
use Rattle.cr_drill.proofs.DrillCalls.{accepts_stepped, accepts_accepted, accepts_goes_on}
use Rattle.cr_drill.specs.Drill.{drill_call}
use Rattle.cr_drill.proofs.drilling.ask.Goals as goal

-- what the book says of the first moment, which is 0
accepts : (c : goal.In-Ok) → Accepts c.args.book.now.log c.command.new.self.log
    (drill_call c.args.caller c.args.command) c.in-Ok.field-0
accepts c =
    subst (λ (at : ℕ). Accepts c.args.book.now.log c.command.new.self.log
    (call_of c.args.caller at None c.args.command) c.in-Ok.field-0)
    c.epoch.ensures c.in-Ok.ensures.accepted

pub returns-in-Ok-clause-stepped : goal.returns-in-Ok-clause-stepped
returns-in-Ok-clause-stepped c =
    accepts_stepped c.args.book.now.log c.args.caller c.args.command c.command.new.self.log c.in-Ok.field-0 (accepts c)

pub returns-in-Ok-clause-accepted : goal.returns-in-Ok-clause-accepted
returns-in-Ok-clause-accepted c =
    accepts_accepted c.args.book.now.log c.args.caller c.args.command c.command.new.self.log c.in-Ok.field-0
    (accepts c)

pub returns-in-Ok-clause-goes_on : goal.returns-in-Ok-clause-goes_on
returns-in-Ok-clause-goes_on c =
    accepts_goes_on c.args.book.now.log c.args.caller c.args.command c.command.new.self.log c.in-Ok.field-0 (accepts c)
    c.command.ensures.legal
