-- SPDX-License-Identifier: Apache-2.0 OR MIT
use Rattle.cr_papers.proofs.NumberLaws.{has-numbered}
use Rattle.cr_papers.proofs.papers.Papers.has.Goals as goal

pub returns : goal.returns
returns c = has-numbered c.args.self.now.papers.papers c.args.paper c.number.result c.count.result c.number.ensures.low
    c.number.ensures.value c.count.ensures.value
