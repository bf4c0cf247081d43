-- SPDX-License-Identifier: Apache-2.0 OR MIT
use Rattle.std.proofs.Common.{List, subst, sym, ◌∙◌}
use Rattle.cr_http.specs.Requests.{RequestText}
use Rattle.cr_wire.specs.Wishes.{closes_behind, AreWishes}
use Rattle.cr_wire.proofs.WishLaws.{as_many, same_wishes}
use Rattle.cr_wire.proofs.laws.law_one_list_of_wishes.Goals as goal

pub returns : goal.returns
returns c = λ bytes ws vs one other a b.
    let same = c.law_one_reading.ensures closes_behind 0 bytes a.requests b.requests one other a.spells b.spells in
    let wished : AreWishes b.requests ws = subst (λ (rs : List RequestText). AreWishes rs ws) same.0 a.wished in (
      same.1,
      as_many b.requests ws wished ∙ sym (as_many b.requests vs b.wished),
      same_wishes b.requests ws vs wished b.wished,
    )
