-- SPDX-License-Identifier: Apache-2.0 OR MIT
use Rattle.cr_search_eval.proofs.FoundLaws.{found-where}
use Rattle.cr_search_eval.proofs.papers.matches.Goals as goal

pub returns-in-Some : goal.returns-in-Some
returns-in-Some c =
    found-where c.args.live.now.tables c.args.user c.args.paper c.new-asked.result c.new-asked.ensures c.args.search.now
    c.in-Some.field-0.now c.search_holds.result c.in-Some.ensures c.search_holds.ensures
