-- SPDX-License-Identifier: Apache-2.0 OR MIT
use Rattle.std.proofs.Common.{◌+◌, refl, arith}
use Rattle.cr_search_parse.specs.Reading.{after_open}
use Rattle.cr_search_parse.specs.Standing.{Stands}
use Rattle.cr_search_parse.specs.declared.reader.Next.TheVariants as told
use Rattle.cr_search_parse.specs.declared.reader.Reader.{Reader}
use Rattle.cr_search_parse.proofs.FollowLaws.{open_stands}
use Rattle.cr_search_parse.proofs.ReaderLaws.{shallow}
use Rattle.cr_search_parse.proofs.reader.Reader.open.Goals as goal

pub returns-clause-takes : goal.returns-clause-takes
returns-clause-takes c s stands =
    let r = c.args.self.now in
    let q : Reader = record r {
      around = c.push.new.self;
      level = c.no_level-self.result;
      next = told.First;
      outside = r.outside + (r.level.negations + 1);
    } in
    let so : Stands q (after_open s) =
    open_stands r q s stands refl c.in_ok-push.ensures.items c.no_level-self.ensures refl refl refl
    (omega (arith, c.if-self-ge-MOST_DEPTH.false)) in
    (after_open s, shallow (after_open s) so.shallow, so)
