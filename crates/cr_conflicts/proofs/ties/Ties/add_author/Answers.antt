-- SPDX-License-Identifier: Apache-2.0 OR MIT
use Rattle.std.proofs.Common.{◌≡◌, ◌<◌, ◌∙◌, List, ◌++◌, ◌∷◌, [], true, get_or, ap, subst, sym}
use Rattle.cr_base.specs.declared.filed.Filed.{Filed}
use Rattle.cr_base.specs.declared.pairs.Order.{Order}
use Rattle.cr_base.specs.declared.pairs.Tie.{Tie}
use Rattle.cr_base.specs.Filed.{filed, with_filed}
use Rattle.cr_base.specs.Pairs.{major, with_tie}
use Rattle.cr_base.specs.Ties.{BareTies, TiesState, bare_tie, pair_of}
use Rattle.cr_rooms.specs.Rooms.{IsOneLess}
use Rattle.cr_kept.specs.Own.{values_in, AreOwn}
use Rattle.cr_kept.proofs.OwnLaws.{own-with_filed}
use Rattle.cr_conflicts.specs.Index.{all_before, with_author}
use Rattle.cr_conflicts.specs.Seen.{SeenTies}
use Rattle.cr_conflicts.proofs.IndexLaws.{paper_of, filed-behind, indexed-push}
use Rattle.cr_conflicts.proofs.ties.Ties.add_author.Goals as goal

-- the authors as the code makes them
put : (c : goal.After-insert)
    → (values_in c.file.new.self.files ≡ values_in c.self.inside.authors.files ++ bare_tie c.args.paper c.args.user
    ∷ [])
    × AreOwn paper_of c.file.new.self.files
put c =
    let a = c.args in
    let files = c.self.inside.authors.files in
    let tie : Tie (Unit {0}) = bare_tie a.paper a.user in
    let before : all_before (pair_of a.paper a.user) (values_in files) ≡ true =
    subst (λ (v : SeenTies). all_before (pair_of a.paper a.user) v.ties.authors ≡ true) (sym c.self.view_is)
    c.requires.behind in
    let is : c.file.new.self.files ≡ with_filed (filed a.paper tie) files =
    c.file.ensures.files ∙ ap (λ (t : Tie (Unit {0})). with_filed (filed a.paper t) files) c.bare.ensures in (
      ap (λ (xs : List (Filed (Tie (Unit {0})))). values_in xs) is
          ∙ filed-behind a.paper a.user files c.self.invariant.1 before,
      subst (λ (xs : List (Filed (Tie (Unit {0})))). AreOwn paper_of xs) (sym is)
          (own-with_filed paper_of tie files c.self.invariant.1),
    )

pub insert-requires : goal.insert-requires
insert-requires c =
    let x = c.self.inside in
    let pair = pair_of c.args.paper c.args.user in
    let room = subst (λ (v : SeenTies). 0 < get_or v.rooms.authored c.args.user 0) (sym c.self.view_is)
    c.requires.room_by_user in
    subst (λ (t : Tie (Unit {0})). 0 < get_or x.authored.rooms (major x.authored.order t.pair) 0) (sym c.bare-2.ensures)
    (subst (λ (o : Order). 0 < get_or x.authored.rooms (major o pair) 0) (sym c.self.invariant.0.by_user) room)

pub invariant_of-self : goal.invariant_of-self
invariant_of-self c =
    let x = c.self.inside in
    let a = c.args in
    let authors = values_in x.authors.files in
    let before : all_before (pair_of a.paper a.user) authors ≡ true =
    subst (λ (v : SeenTies). all_before (pair_of a.paper a.user) v.ties.authors ≡ true) (sym c.self.view_is)
    c.requires.behind in
    let added = c.insert.ensures.ties ∙ ap (λ (t : Tie (Unit {0})). with_tie x.authored.order t x.authored.ties)
    c.bare-2.ensures in (
      indexed-push authors x.authored.order x.authored.ties x.declared.order x.bids.order a.paper a.user
          c.insert.new.self.order
          (values_in c.file.new.self.files) c.insert.new.self.ties c.insert.ensures.order (put c).0 added before
          c.self.invariant.0,
      (put c).1,
    )

pub returns-clause-after : goal.returns-clause-after
returns-clause-after c =
    let x = c.self.inside in
    let ties : BareTies → TiesState =
    λ authors. record {
      authors = authors;
      conflicts = x.conflicts.ties;
      declared = x.declared.ties;
      bids = x.bids.ties;
    } in
    ap ties (put c).0 ∙ ap (λ (v : SeenTies). with_author c.args.paper c.args.user v.ties) c.self.view_is

pub returns-clause-rooms_by_user : goal.returns-clause-rooms_by_user
returns-clause-rooms_by_user c =
    let x = c.self.inside in
    let new = c.insert.new.self.rooms in
    let by_order = subst (λ (t : Tie (Unit {0})). IsOneLess (major x.authored.order t.pair) x.authored.rooms new)
    c.bare-2.ensures c.insert.ensures.rooms in
    let less = subst (λ (o : Order). IsOneLess (major o (pair_of c.args.paper c.args.user)) x.authored.rooms new)
    c.self.invariant.0.by_user by_order in
    subst (λ (v : SeenTies). IsOneLess c.args.user v.rooms.authored new) c.self.view_is less
