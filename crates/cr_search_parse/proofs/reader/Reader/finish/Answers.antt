-- SPDX-License-Identifier: Apache-2.0 OR MIT
use Rattle.std.proofs.Common.{◌∙◌, sym, refl, rules}
use Rattle.std.proofs.lemmas.List.{nil_from_length}
use Rattle.cr_search_parse.proofs.FollowLaws.{end_nodes, no-level_left}
use Rattle.cr_search_parse.proofs.reader.Reader.finish.Goals as goal

pub returns-in-First : goal.returns-in-First
returns-in-First c s stands =
    let none = nil_from_length c.args.self.around.items (search rules) in
    let no_more = no-level_left s.around (sym none ∙ stands.around) in
    rw (stands.next, c.in-First.is, no_more, c.new.ensures.items) refl

pub returns-in_ok-end_level-in-Ended : goal.returns-in_ok-end_level-in-Ended
returns-in_ok-end_level-in-Ended c s stands =
    let none = nil_from_length c.args.self.around.items (search rules) in
    let no_more = no-level_left s.around (sym none ∙ stands.around) in
    let nodes =
    end_nodes c.args.self s c.end_level.new.nodes.items stands none c.in_ok-end_level-in-Ended.ensures.nodes in
    rw (stands.next, c.in-Ended.is, no_more, nodes) refl
