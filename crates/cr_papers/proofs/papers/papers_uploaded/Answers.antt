-- SPDX-License-Identifier: Apache-2.0 OR MIT
use Rattle.std.proofs.Common.{rules}
use Rattle.std.proofs.lemmas.Iterator.{YieldsList-from_slice, items_from_collect}
use Rattle.std.proofs.lemmas.Iterator.Consumers.{YieldsList-at, YieldsList-from_filter_map}
use Rattle.cr_papers.specs.Room.{paper_uploaded}
use Rattle.cr_papers.proofs.papers.papers_uploaded.Goals as goal

pub returns : goal.returns
returns c =
    items_from_collect c.collect.result c.collect.ensures.ran
    (YieldsList-from_filter_map _ paper_uploaded
    (YieldsList-at c.filter_map.ensures.source (YieldsList-from_slice c.args.group.now c.iter.ensures.rest))
    c.filter_map.ensures.closure (λ x r q k. search rules))
