-- SPDX-License-Identifier: Apache-2.0 OR MIT
use Rattle.std.proofs.Common.{true, ◌≡◌, Some, Err, ap, sym, subst, refl}
use Rattle.cr_base.specs.declared.bulk.Broken.TheVariants as broken
use Rattle.cr_base.specs.declared.reply.Rule.TheVariants as rules
use Rattle.cr_base.specs.Calls.{bulk_by}
use Rattle.cr_base.specs.History.{History}
use Rattle.cr_base.specs.Retries.{Judged, Repeats}
use Rattle.cr_policy.specs.Judge.{judge_bulk, decide_bulk}
use Rattle.cr_policy.specs.Legal.{IsNewKey}
use Rattle.cr_policy.specs.View.{view}
use Rattle.cr_book.specs.declared.earlier.Earlier.TheVariants.{Nothing, Same, Other}
use Rattle.cr_book.specs.Seen.{SeenBook}
use Rattle.cr_book.proofs.EarlierLaws.{new-number}
use Rattle.cr_book.proofs.OutcomeLaws.{bulk-outcome, judged-acts, judged-no_repeat, judged-refused, judged-outcome}
use Rattle.cr_book.proofs.OutcomeLaws.{judged-drawn, judged-draws, repeat-acts, repeat-draws_nothing, repeat-told}
use Rattle.cr_book.proofs.OutcomeLaws.{repeat-not_refused, used-told, used-outcome, used-no_repeat}
use Rattle.cr_book.proofs.book.Book.bulk.Given.{Over}
use Rattle.cr_book.proofs.book.Book.bulk.Goals as goal

pub judge_rows-requires : goal.judge_rows-requires
judge_rows-requires g c = record {
  given = c.requires;
  unused = subst (λ (h : History). IsNewKey h (Some c.args.caller) c.args.key)
      (ap (λ (v : SeenBook g.row.K.Denot). v.log) c.self.view_is)
      (new-number c.self.inside.live.tables c.self.inside.log.entries true c.args.caller c.args.key
      (sym c.in-Nothing.ensures));
}

-- ---- what is due, by what is found

-- where nothing is found, what the rules judge
judged : (g : Over) (c : goal.After-judge_rows g)
    → decide_bulk (view (Some c.args.caller) c.args.self.now.log) (bulk_by c.args.caller c.args.at c.args.key c.args.rows)
    ≡ Judged (judge_bulk (view (Some c.args.caller) c.args.self.now.log) (bulk_by c.args.caller c.args.at c.args.key c.args.rows))
judged g c =
    bulk-outcome g.K.Keeper.rows _ c.args.self.now.log _ _ (bulk_by c.args.caller c.args.at c.args.key c.args.rows) Nothing
    (ap (λ (v : SeenBook g.row.K.Denot). v.log) c.self.view_is) c.self.invariant.0 c.in-Nothing.ensures

-- of a repeat, the same receipt
repeated : (g : Over) (c : goal.After-drop g)
    → decide_bulk (view (Some c.args.caller) c.args.self.now.log) (bulk_by c.args.caller c.args.at c.args.key c.args.rows)
    ≡ Repeats c.in-Same.receipt
repeated g c =
    bulk-outcome g.K.Keeper.rows _ c.args.self.now.log _ _ (bulk_by c.args.caller c.args.at c.args.key c.args.rows) (Same c.in-Same.receipt)
    (ap (λ (v : SeenBook g.row.K.Denot). v.log) c.self.view_is) c.self.invariant.0 c.in-Same.ensures

-- of a number that is used, the refusal of it
used : (g : Over) (c : goal.After-drop-in-Other g)
    → decide_bulk (view (Some c.args.caller) c.args.self.now.log) (bulk_by c.args.caller c.args.at c.args.key c.args.rows)
    ≡ Judged (Err (broken.Rule rules.NumberUsed))
used g c =
    bulk-outcome g.K.Keeper.rows _ c.args.self.now.log _ _ (bulk_by c.args.caller c.args.at c.args.key c.args.rows) Other
    (ap (λ (v : SeenBook g.row.K.Denot). v.log) c.self.view_is) c.self.invariant.0 c.in-Other.ensures

-- ---- where nothing is found

pub returns-in-Nothing-clause-accepted : goal.returns-in-Nothing-clause-accepted
returns-in-Nothing-clause-accepted g c =
    judged-acts _ _ (judged g c) c.args.self.now.log _ c.judge_rows.result c.judge_rows.ensures.accepted

pub returns-in-Nothing-clause-repeats : goal.returns-in-Nothing-clause-repeats
returns-in-Nothing-clause-repeats g c = λ receipt repeats. absurd (judged-no_repeat _ _ (judged g c) receipt repeats)

pub returns-in-Nothing-clause-repeat_stays : goal.returns-in-Nothing-clause-repeat_stays
returns-in-Nothing-clause-repeat_stays g c = λ receipt repeats.
    absurd (judged-no_repeat _ _ (judged g c) receipt repeats)

pub returns-in-Nothing-clause-broken : goal.returns-in-Nothing-clause-broken
returns-in-Nothing-clause-broken g c = λ refusal told.
    c.judge_rows.ensures.broken refusal (judged-refused _ _ (judged g c) refusal told)

pub returns-in-Nothing-clause-only_broken : goal.returns-in-Nothing-clause-only_broken
returns-in-Nothing-clause-only_broken g c = λ refusal told.
    judged-outcome _ _ (judged g c) refusal (c.judge_rows.ensures.only_broken refusal told)

pub returns-in-Nothing-clause-memory : goal.returns-in-Nothing-clause-memory
returns-in-Nothing-clause-memory g c = λ is. judged-drawn _ _ (judged g c) (c.judge_rows.ensures.memory is)

pub returns-in-Nothing-clause-lost : goal.returns-in-Nothing-clause-lost
returns-in-Nothing-clause-lost g c = λ is. judged-drawn _ _ (judged g c) (c.judge_rows.ensures.lost is)

-- ---- a repeat

pub returns-in-Same-clause-accepted : goal.returns-in-Same-clause-accepted
returns-in-Same-clause-accepted g c = repeat-acts _ c.in-Same.receipt (repeated g c) c.args.self.now.log _ refl

pub returns-in-Same-clause-repeats : goal.returns-in-Same-clause-repeats
returns-in-Same-clause-repeats g c = λ receipt repeats.
    repeat-told _ c.in-Same.receipt (repeated g c) receipt repeats

pub returns-in-Same-clause-broken : goal.returns-in-Same-clause-broken
returns-in-Same-clause-broken g c = λ refusal told.
    absurd (repeat-not_refused _ c.in-Same.receipt (repeated g c) refusal told)

-- ---- a number that is used

pub returns-in-Other-clause-repeats : goal.returns-in-Other-clause-repeats
returns-in-Other-clause-repeats g c = λ receipt repeats.
    absurd (used-no_repeat _ (broken.Rule rules.NumberUsed) (used g c) receipt repeats)

pub returns-in-Other-clause-broken : goal.returns-in-Other-clause-broken
returns-in-Other-clause-broken g c = λ refusal told. used-told _ (broken.Rule rules.NumberUsed) (used g c) refusal told

pub returns-in-Other-clause-only_broken : goal.returns-in-Other-clause-only_broken
returns-in-Other-clause-only_broken g c = λ refusal told. used-outcome _ (broken.Rule rules.NumberUsed) (used g c) refusal told

-- ---- what a stop may leave

pub returns-in-Nothing-clause-stops : goal.returns-in-Nothing-clause-stops
returns-in-Nothing-clause-stops g c = λ told drawn is.
    c.judge_rows.ensures.stops told drawn (judged-draws _ _ (judged g c) drawn is)

pub returns-in-Same-clause-stops : goal.returns-in-Same-clause-stops
returns-in-Same-clause-stops g c = λ told drawn is.
    absurd (repeat-draws_nothing _ c.in-Same.receipt (repeated g c) drawn is)
