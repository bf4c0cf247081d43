-- SPDX-License-Identifier: Apache-2.0 OR MIT
use Rattle.std.proofs.Common.{ℕ, [], ◌∙◌, ap, refl}
use Rattle.cr_search_parse.specs.Reading.{State, wanted, after_or, level_nodes}
use Rattle.cr_search_parse.specs.Standing.{Stands, next_told}
use Rattle.cr_search_parse.specs.declared.reader.Level.{Level as Counts}
use Rattle.cr_search_parse.specs.declared.reader.Next.TheVariants as told
use Rattle.cr_search_parse.specs.declared.reader.Reader.{Reader}
use Rattle.cr_search_parse.proofs.FollowLaws.{or_stands}
use Rattle.cr_search_parse.proofs.reader.Reader.or.Goals as goal

pub returns-clause-takes : goal.returns-clause-takes
returns-clause-takes c s stands =
    let r = c.args.self.now in
    let only_alternatives = λ (n : ℕ). let counts : Counts =
    record { alternatives = n; items = 0; negations = 0 } in counts in
    let q : Reader =
    record r {
      nodes = c.end_level.new.nodes;
      level = only_alternatives c.in_ok-alternatives.alternatives;
      next = told.Wanted;
    } in
    let after : State =
    record s { level = record { alternatives = level_nodes s.level; items = []; negations = 0 }; next = wanted } in
    let so : Stands q after = or_stands r q s stands c.in_ok-alternatives.ensures.nodes refl
    (ap only_alternatives c.in_ok-alternatives.ensures.count) refl refl refl in
    (after, ap (after_or s) (stands.next ∙ ap next_told c.in-Ended.is), so)
