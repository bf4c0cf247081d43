-- SPDX-License-Identifier: Apache-2.0 OR MIT
use Rattle.std.proofs.Common.{◌+◌, [], ◌∷◌, ap, refl, le-ltb, arith}
use Rattle.cr_base.specs.declared.search.Node.TheVariants as node
use Rattle.cr_search_parse.specs.Reading.{State, after_item}
use Rattle.cr_search_parse.specs.Standing.{Stands}
use Rattle.cr_search_parse.specs.declared.reader.Next.TheVariants as told
use Rattle.cr_search_parse.specs.declared.reader.Reader.{Reader}
use Rattle.cr_search_parse.proofs.FollowLaws.{item_stands}
use Rattle.cr_search_parse.proofs.reader.Reader.term.Goals as goal

pub returns-clause-takes : goal.returns-clause-takes
returns-clause-takes c s stands =
    let r = c.args.self.now in
    let item = node.Term c.args.term ∷ [] in
    let q : Reader =
    record r { nodes = c.end_item.new.nodes; level = c.in_ok-self.field-0; next = told.Ended; terms = r.terms + 1 } in
    let counted : State = record s { terms = s.terms + 1 } in
    let after = after_item item counted in
    let so : Stands q after =
    item_stands q counted item 1 r.level c.push.new.self.items stands.level refl
    (rw stands.nodes at c.in_ok-push.ensures.items)
    c.in_ok-self.ensures.nodes stands.around c.in_ok-self.ensures.level refl stands.outside
    (ap (λ n. n + 1) stands.terms) (omega (arith, stands.shallow)) in
    (after, rw (le-ltb 127 s.terms (omega (arith, stands.terms, c.if-self-ge-MOST_TERMS.false))) refl, so)
