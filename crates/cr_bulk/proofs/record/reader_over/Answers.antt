-- SPDX-License-Identifier: Apache-2.0 OR MIT
use Rattle.cr_bulk.proofs.ReadLaws.{begun}
use Rattle.cr_bulk.proofs.record.reader_over.Goals as goal

pub returns-clause-left : goal.returns-clause-left
returns-clause-left c =
    begun c.from_reader.result c.args.text.now c.from_reader.ensures.source c.from_reader.ensures.state
