-- SPDX-License-Identifier: Apache-2.0 OR MIT
use Rattle.cr_book.proofs.OpeningLaws.{read-nothing}
use Rattle.cr_book.proofs.reading.Reading.new.Goals as goal

pub invariant_of-result : goal.invariant_of-result
invariant_of-result c = read-nothing _ _ _ c.new.ensures c.new-2.ensures c.new-3.ensures.items
