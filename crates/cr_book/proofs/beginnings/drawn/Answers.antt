-- SPDX-License-Identifier: Apache-2.0 OR MIT
use Rattle.std.proofs.Common.{◌∙◌, sym}
use Rattle.std.proofs.lemmas.Bool.{true≢false}
use Rattle.cr_book.proofs.DueLaws.{alike, by-giver, has-giver, numbers-are, ruled, taken, untold}
use Rattle.cr_book.proofs.beginnings.drawn.Goals as goal

pub returns-in_default : goal.returns-in_default
returns-in_default c = untold c.args.live.now.tables c.args.next (sym c.command_of.ensures ∙ c.in_default.is)

pub judge-requires : goal.judge-requires
judge-requires c = record {
  caller = has-giver c.args.next.stamp.maker c.args.next.entry c.in-Some.command c.giver_of-caller.result
      (sym c.command_of.ensures ∙ c.in-Some.is) c.giver_of-caller.ensures;
}

pub returns-in-Err : goal.returns-in-Err
returns-in-Err c =
    let told = sym c.command_of.ensures ∙ c.in-Some.is in
    ruled c.args.live.now.tables c.args.next c.in-Some.command told c.in-Err.field-0
    (by-giver c.args.live.now.tables c.args.next c.in-Some.command told c.giver_of-caller.result _
    c.giver_of-caller.ensures c.in-Err.ensures.drawn)

pub returns-then-is_alike : goal.returns-then-is_alike
returns-then-is_alike c =
    let told = sym c.command_of.ensures ∙ c.in-Some.is in
    let same = c.is_alike.ensures.0 c.if-is_alike.true in
    taken c.args.live.now.tables c.args.next c.in-Some.command told c.in-Ok.effect
    (by-giver c.args.live.now.tables c.args.next c.in-Some.command told c.giver_of-caller.result _
    c.giver_of-caller.ensures c.in-Ok.ensures.drawn)
    c.into_first-entry.result.0 c.into_first-entry.result.1 c.into_first-entry.ensures.stamp
    c.into_first-entry.ensures.first same.0
    ((numbers-are c.into_first-entry.result.1 c.args.next.entry c.number_of-number.result c.ordinal_of-ordinal.result
    c.number_of-number.ensures c.ordinal_of-ordinal.ensures).0 same.1)

pub returns : goal.returns
returns c = λ d.
    let told = sym c.command_of.ensures ∙ c.in-Some.is in
    let same = alike c.args.live.now.tables c.args.next c.in-Some.command told c.in-Ok.effect
    (by-giver c.args.live.now.tables c.args.next c.in-Some.command told c.giver_of-caller.result _
    c.giver_of-caller.ensures c.in-Ok.ensures.drawn)
    c.into_first-entry.result.0 c.into_first-entry.result.1 c.into_first-entry.ensures.stamp
    c.into_first-entry.ensures.first d in
    let numbers = numbers-are c.into_first-entry.result.1 c.args.next.entry c.number_of-number.result
    c.ordinal_of-ordinal.result c.number_of-number.ensures c.ordinal_of-ordinal.ensures in
    true≢false (sym (c.is_alike.ensures.1 (same.0, numbers.1 same.1)) ∙ c.if-is_alike.false)
