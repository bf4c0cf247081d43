-- SPDX-License-Identifier: Apache-2.0 OR MIT
use Rattle.std.proofs.Common.{◌∙◌, ap, subst, sym}
use Rattle.cr_book.specs.Reading.{IsCutStore}
use Rattle.cr_book.specs.Seen.{SeenReading}
use Rattle.cr_book.proofs.OpeningLaws.{cut-off}
use Rattle.cr_book.proofs.reading.Reading.finish.Goals as goal

pub returns-in-Some-clause-cut : goal.returns-in-Some-clause-cut
returns-in-Some-clause-cut c =
    subst (λ (r : SeenReading). IsCutStore r.log r.begun c.in-Some.row) c.self.view_is
    (cut-off c.self.inside.whole.log.entries c.self.inside.whole.live.tables c.self.inside.begun.items
    c.self.inside.last c.self.invariant c.in-Some.row c.in-Some.is)

pub returns-clause-whole : goal.returns-clause-whole
returns-clause-whole c = record {
  none = sym (ap (λ (r : SeenReading). r.begun) c.self.view_is) ∙ c.self.invariant.none c.in-None.is;
  log_is = ap (λ (r : SeenReading). r.log) c.self.view_is;
  legal = c.self.invariant.legal;
  same = c.self.invariant.same;
}
