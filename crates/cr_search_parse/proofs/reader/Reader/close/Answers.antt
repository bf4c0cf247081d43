-- SPDX-License-Identifier: Apache-2.0 OR MIT
use Rattle.std.proofs.Common.{◌-◌, ◌+◌, ◌∙◌, ap, ap₂, sym, refl, arith}
use Rattle.cr_base.specs.declared.search.Node.TheVariants as node
use Rattle.cr_search_parse.specs.Reading.{after_close, closed, level_nodes}
use Rattle.cr_search_parse.specs.Standing.{Stands, next_told}
use Rattle.cr_search_parse.specs.declared.reader.Level.{Level as Counts}
use Rattle.cr_search_parse.specs.declared.reader.Reader.{Reader}
use Rattle.cr_search_parse.proofs.FollowLaws.{around_code, close_fits, close_grows, close_stands, popped}
use Rattle.cr_search_parse.proofs.reader.Reader.close.Goals as goal

pub end_item-requires : goal.end_item-requires
end_item-requires c =
    let r = c.args.self.now in
    let so = around_code r c.pop.new.self.items c.in-Some.around c.requires.stands c.in-Some.ensures.items in
    close_fits r c.in-Some.around c.in_ok-count.count so (omega (arith, c.requires.light)) c.in_ok-count.ensures.count

pub overflow_add-self : goal.overflow_add-self
overflow_add-self c =
    let so =
    around_code c.args.self.now c.pop.new.self.items c.in-Some.around c.requires.stands c.in-Some.ensures.items in
    omega (arith, so.inside, so.low)

pub overflow_sub-self : goal.overflow_sub-self
overflow_sub-self c =
    let so =
    around_code c.args.self.now c.pop.new.self.items c.in-Some.around c.requires.stands c.in-Some.ensures.items in
    so.inside

pub returns-clause-takes : goal.returns-clause-takes
returns-clause-takes c s stands =
    let r = c.args.self.now in
    let last = c.in-Some.around in
    let p = popped s.around c.pop.new.self.items last (sym c.in-Some.ensures.items ∙ stands.around) in
    let q : Reader = record r {
      nodes = c.end_item.new.nodes;
      around = c.pop.new.self;
      level = c.in_ok-self.field-0;
      outside = r.outside - (last.negations + 1);
    } in
    let after = closed (level_nodes s.level) p.level p.levels s in
    let so : Stands q after =
    close_stands r q s last c.in_ok-count.count c.end_level.new.nodes.items stands p c.in_ok-count.ensures.nodes
    c.in_ok-count.ensures.count
    c.in_ok-self.ensures.nodes c.in_ok-self.ensures.level (sym (ap next_told c.in-Ended.is)) refl refl in
    (after, ap₂ (after_close s) (stands.next ∙ ap next_told c.in-Ended.is) p.all, so)

pub returns-clause-grows : goal.returns-clause-grows
returns-clause-grows c =
    let r = c.args.self.now in
    let last = c.in-Some.around in
    let count = c.in_ok-count.count in
    let so = around_code r c.pop.new.self.items last c.requires.stands c.in-Some.ensures.items in
    let none = ap (λ (l : Counts). l.negations) c.in_ok-self.ensures.level in
    rw none (close_grows r.nodes.items c.end_level.new.nodes.items c.end_item.new.nodes.items last r.level.negations
    (node.Or r.level.items) (node.And (count + last.negations)) r.level.alternatives last.items r.outside so.inside
    c.in_ok-count.ensures.nodes c.in_ok-self.ensures.nodes)
