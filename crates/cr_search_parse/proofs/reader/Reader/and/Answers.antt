-- SPDX-License-Identifier: Apache-2.0 OR MIT
use Rattle.std.proofs.Common.{◌∙◌, ap, refl}
use Rattle.cr_search_parse.specs.Reading.{wanted, after_and}
use Rattle.cr_search_parse.specs.Standing.{next_told}
use Rattle.cr_search_parse.proofs.reader.Reader.and.Goals as goal

pub returns-clause-takes : goal.returns-clause-takes
returns-clause-takes c s stands = (
  record s { next = wanted },
  ap (after_and s) (stands.next ∙ ap next_told c.in-Ended.is),
  record {
    nodes = stands.nodes;
    around = stands.around;
    level = stands.level;
    next = refl;
    outside = stands.outside;
    terms = stands.terms;
    shallow = stands.shallow;
  },
)
