-- SPDX-License-Identifier: Apache-2.0 OR MIT
use Rattle.std.proofs.Common.{◌+◌, refl, arith}
use Rattle.cr_search_parse.specs.Reading.{one_negation_more}
use Rattle.cr_search_parse.specs.Standing.{Stands, next_told}
use Rattle.cr_search_parse.specs.declared.reader.Reader.{Reader}
use Rattle.cr_search_parse.proofs.FollowLaws.{negation_stands}
use Rattle.cr_search_parse.proofs.ReaderLaws.{shallow}
use Rattle.cr_search_parse.proofs.reader.Reader.negation.Goals as goal

pub returns-clause-takes : goal.returns-clause-takes
returns-clause-takes c s stands =
    let r = c.args.self.now in
    let q : Reader = record r { level = record r.level { negations = r.level.negations + 1 }; next = c.args.next } in
    let after = one_negation_more (next_told c.args.next) s in
    let so : Stands q after =
    negation_stands r q s stands refl refl refl refl refl (omega (arith, c.if-self-ge-MOST_DEPTH.false)) in
    (after, shallow after so.shallow, so)
