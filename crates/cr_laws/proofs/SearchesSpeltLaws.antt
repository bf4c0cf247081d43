-- SPDX-License-Identifier: Apache-2.0 OR MIT
-- What is wished by a search's text is what the grammar says of it.
use Rattle.std.proofs.Common.{ℕ, ◌∙◌, List, Option, Result, ap}
use Rattle.cr_base.specs.declared.search.Node.{Node}
use Rattle.cr_search_parse.specs.Reading.{text_read}
use Rattle.cr_search_parse.proofs.ReadingLaws.{one-said, said}
use Rattle.cr_wire.specs.Query.{asks_count, search_read, searched}
use Rattle.cr_laws.specs.SearchesSpelt.{ReadsAsSpelt, WishesAsSpelt}

pub reads-as_spelt : ReadsAsSpelt
reads-as_spelt text = said text

pub wishes-as_spelt : WishesAsSpelt
wishes-as_spelt query text read told says =
    ap (λ (o : Option (List ℕ)). searched (asks_count query) (search_read o)) told
    ∙ ap (λ (r : Result (List Node) ℕ). searched (asks_count query) r) (one-said text (text_read text) read (said text) says)
