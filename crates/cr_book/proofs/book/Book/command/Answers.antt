-- SPDX-License-Identifier: Apache-2.0 OR MIT
use Rattle.std.proofs.Common.{false, ◌≡◌, Err, ap, sym, subst, refl}
use Rattle.cr_base.specs.declared.reply.Rule.TheVariants as rules
use Rattle.cr_base.specs.Calls.{call_of}
use Rattle.cr_base.specs.History.{History}
use Rattle.cr_base.specs.Retries.{Judged, Repeats}
use Rattle.cr_policy.specs.Judge.{judge, decide}
use Rattle.cr_policy.specs.Legal.{IsNewKey}
use Rattle.cr_policy.specs.View.{view}
use Rattle.cr_book.specs.declared.earlier.Earlier.TheVariants.{Nothing, Same, Other}
use Rattle.cr_book.specs.Seen.{SeenBook}
use Rattle.cr_book.proofs.EarlierLaws.{new-key}
use Rattle.cr_book.proofs.OutcomeLaws.{command-outcome, judged-acts, judged-no_repeat, judged-refused, judged-outcome}
use Rattle.cr_book.proofs.OutcomeLaws.{judged-drawn, judged-draws, repeat-acts, repeat-draws_nothing, repeat-told}
use Rattle.cr_book.proofs.OutcomeLaws.{repeat-not_refused, used-told, used-outcome, used-no_repeat}
use Rattle.cr_book.proofs.book.Book.command.Given.{Over}
use Rattle.cr_book.proofs.book.Book.command.Goals as goal

pub judge_command-requires : goal.judge_command-requires
judge_command-requires g c = record {
  given = c.requires;
  unused = subst (λ (h : History). IsNewKey h c.args.caller.now c.args.key)
      (ap (λ (v : SeenBook g.row.K.Denot). v.log) c.self.view_is)
      (new-key c.self.inside.live.tables c.self.inside.log.entries false c.args.caller.now c.args.key c.requires.key
      (sym c.in-Nothing.ensures));
}

-- ---- what is due, by what is found

-- where nothing is found, what the rules judge
judged : (g : Over) (c : goal.After-judge_command g)
    → decide (view c.args.caller.now c.args.self.now.log) (call_of c.args.caller.now c.args.at c.args.key c.args.command)
    ≡ Judged (judge (view c.args.caller.now c.args.self.now.log)
    (call_of c.args.caller.now c.args.at c.args.key c.args.command))
judged g c =
    command-outcome g.K.Keeper.rows _ c.args.self.now.log _ _
    (call_of c.args.caller.now c.args.at c.args.key c.args.command) Nothing
    (ap (λ (v : SeenBook g.row.K.Denot). v.log) c.self.view_is) c.self.invariant.0 c.in-Nothing.ensures

-- of a repeat, the same receipt
repeated : (g : Over) (c : goal.After-drop g)
    → decide (view c.args.caller.now c.args.self.now.log) (call_of c.args.caller.now c.args.at c.args.key c.args.command)
    ≡ Repeats c.in-Same.receipt
repeated g c =
    command-outcome g.K.Keeper.rows _ c.args.self.now.log _ _
    (call_of c.args.caller.now c.args.at c.args.key c.args.command) (Same c.in-Same.receipt)
    (ap (λ (v : SeenBook g.row.K.Denot). v.log) c.self.view_is) c.self.invariant.0 c.in-Same.ensures

-- of a number that is used, the refusal of it
used : (g : Over) (c : goal.After-drop-in-Other g)
    → decide (view c.args.caller.now c.args.self.now.log) (call_of c.args.caller.now c.args.at c.args.key c.args.command)
    ≡ Judged (Err rules.NumberUsed)
used g c =
    command-outcome g.K.Keeper.rows _ c.args.self.now.log _ _
    (call_of c.args.caller.now c.args.at c.args.key c.args.command) Other
    (ap (λ (v : SeenBook g.row.K.Denot). v.log) c.self.view_is) c.self.invariant.0 c.in-Other.ensures

-- ---- where nothing is found

pub returns-in-Nothing-clause-accepted : goal.returns-in-Nothing-clause-accepted
returns-in-Nothing-clause-accepted g c =
    judged-acts _ _ (judged g c) c.args.self.now.log _ c.judge_command.result c.judge_command.ensures.accepted

pub returns-in-Nothing-clause-repeats : goal.returns-in-Nothing-clause-repeats
returns-in-Nothing-clause-repeats g c = λ receipt repeats. absurd (judged-no_repeat _ _ (judged g c) receipt repeats)

pub returns-in-Nothing-clause-repeat_stays : goal.returns-in-Nothing-clause-repeat_stays
returns-in-Nothing-clause-repeat_stays g c = λ receipt repeats.
    absurd (judged-no_repeat _ _ (judged g c) receipt repeats)

pub returns-in-Nothing-clause-rule : goal.returns-in-Nothing-clause-rule
returns-in-Nothing-clause-rule g c = λ rule told.
    c.judge_command.ensures.rule rule (judged-refused _ _ (judged g c) rule told)

pub returns-in-Nothing-clause-only_rule : goal.returns-in-Nothing-clause-only_rule
returns-in-Nothing-clause-only_rule g c = λ rule told.
    judged-outcome _ _ (judged g c) rule (c.judge_command.ensures.only_rule rule told)

pub returns-in-Nothing-clause-memory : goal.returns-in-Nothing-clause-memory
returns-in-Nothing-clause-memory g c = λ is. judged-drawn _ _ (judged g c) (c.judge_command.ensures.memory is)

pub returns-in-Nothing-clause-lost : goal.returns-in-Nothing-clause-lost
returns-in-Nothing-clause-lost g c = λ is. judged-drawn _ _ (judged g c) (c.judge_command.ensures.lost is)

-- ---- a repeat

pub returns-in-Same-clause-accepted : goal.returns-in-Same-clause-accepted
returns-in-Same-clause-accepted g c = repeat-acts _ c.in-Same.receipt (repeated g c) c.args.self.now.log _ refl

pub returns-in-Same-clause-repeats : goal.returns-in-Same-clause-repeats
returns-in-Same-clause-repeats g c = λ receipt repeats.
    repeat-told _ c.in-Same.receipt (repeated g c) receipt repeats

pub returns-in-Same-clause-rule : goal.returns-in-Same-clause-rule
returns-in-Same-clause-rule g c = λ rule told.
    absurd (repeat-not_refused _ c.in-Same.receipt (repeated g c) rule told)

-- ---- a number that is used

pub returns-in-Other-clause-repeats : goal.returns-in-Other-clause-repeats
returns-in-Other-clause-repeats g c = λ receipt repeats.
    absurd (used-no_repeat _ rules.NumberUsed (used g c) receipt repeats)

pub returns-in-Other-clause-rule : goal.returns-in-Other-clause-rule
returns-in-Other-clause-rule g c = λ rule told. used-told _ rules.NumberUsed (used g c) rule told

pub returns-in-Other-clause-only_rule : goal.returns-in-Other-clause-only_rule
returns-in-Other-clause-only_rule g c = λ rule told. used-outcome _ rules.NumberUsed (used g c) rule told

-- ---- what a stop may leave

pub returns-in-Nothing-clause-stops : goal.returns-in-Nothing-clause-stops
returns-in-Nothing-clause-stops g c = λ told drawn is.
    c.judge_command.ensures.stops told drawn (judged-draws _ _ (judged g c) drawn is)

pub returns-in-Same-clause-stops : goal.returns-in-Same-clause-stops
returns-in-Same-clause-stops g c = λ told drawn is.
    absurd (repeat-draws_nothing _ c.in-Same.receipt (repeated g c) drawn is)
