-- SPDX-License-Identifier: Apache-2.0 OR MIT
use Rattle.std.proofs.Common.{◌<◌, ◌-◌, ◌∙◌, length, sym, arith, rules}
use Rattle.cr_search_parse.proofs.TermLaws.{not-closed, is-closed}
use Rattle.cr_search_parse.proofs.terms.before_closing.Goals as goal

pub returns-then-text-last-ne34 : goal.returns-then-text-last-ne34
returns-then-text-last-ne34 c =
    let text = c.args.text.now in
    let some : 0 < length text = search rules in
    sym (not-closed text (length text - 1) (omega (arith, some)) c.if-text-last-ne34.true)

pub returns : goal.returns
returns c =
    let text = c.args.text.now in
    let some : 0 < length text = search rules in
    c.inside.ensures ∙ sym (is-closed text (length text - 1) (omega (arith, some)) c.if-text-last-ne34.false)
