-- SPDX-License-Identifier: Apache-2.0 OR MIT
use Rattle.std.proofs.Common.{◌≡◌, ◌∙◌, ◌⊎◌, List, Bool, inr, sym, subst}
use Rattle.cr_base.specs.History.{History}
use Rattle.cr_top.specs.declared.exit.Exit.{Exit}
use Rattle.cr_top.specs.declared.exit.Exit.TheVariants as exits
use Rattle.cr_top.specs.Runs.{outside_of, AnswersAll}
use Rattle.cr_top.specs.Stores.{state_of}
use Rattle.cr_top.proofs.Stored.{exact-rows, keeps-store, no_fault, serves-store, stands-by, the-history, wishes-kept}
use Rattle.cr_top.proofs.storing.pipe_store.Goals as goal

pub shut-requires : goal.shut-requires
shut-requires g c =
    subst (λ (kind : List Bool). g.S.Shelf.has_opened c.open_store.new.shelf c.args.path.now kind)
    (sym c.pipe-ending.ensures.alike) c.in-Ok.ensures.open

pub returns-in-Ok-clause-pipes : goal.returns-in-Ok-clause-pipes
returns-in-Ok-clause-pipes g c =
    let outside = outside_of g.I.Source.faults g.O.Sink.taken g.O.Sink.faults g.C.Clock.coming g.C.Clock.faults in
    let stores = state_of g.S.Shelf.rows g.S.Shelf.faults in
    let K = g.S.Keeper.Keeper in
    let path = c.args.path.now in
    let keeper' = c.pipe-ending.result.1 in
    let tells = g.S.Shelf.tells_stops c.args.shelf.now path in
    let so' = K.tells_alike keeper' c.in-Ok.book.opened c.pipe-ending.ensures.alike ∙ c.in-Ok.ensures.telling in
    let s = stores c.args.shelf.now in
    let m = stores c.open_store.new.shelf in
    let s' = stores c.shut.new.self in
    let stands = stands-by (K.tells_stops keeper') tells so' (K.rows keeper') (K.tried keeper')
    (m.rows path) (s'.rows path) c.shut.ensures.kept in
    let alike = K.rows_alike keeper' c.in-Ok.book.opened c.pipe-ending.ensures.alike in
    inr (serves-store tells K.rows K.tried _ _ K.faults path g.I.Source.left g.I.Source.read_gives
    c.exit_of.result _
    c.exit_of.ensures c.in-Ok.book _
    (outside c.args.input.now c.args.out.now c.args.clock.now)
    (outside c.pipe-ending.new.input c.pipe-ending.new.out c.pipe-ending.new.clock) s m s'
    c.in-Ok.ensures.opened c.pipe-ending.ensures.pipes stands c.shut.ensures.others c.shut.ensures.count
    (λ history is judged so. (
      keeps-store tells K
          (g.S.Shelf.left c.shut.new.self) _ path c.in-Ok.book keeper' s m s' c.in-Ok.ensures.telling so' alike
          c.in-Ok.ensures.begins (λ told image. (c.shut.ensures.stops told image).0) c.in-Ok.ensures.opened stands
          c.shut.ensures.others c.shut.ensures.count history is so.0 c.pipe-ending.ensures.counted,
      wishes-kept tells K
          (g.S.Shelf.left c.shut.new.self) _ path c.in-Ok.book keeper' s m s' c.in-Ok.ensures.telling so' alike
          c.in-Ok.ensures.begins (λ told image. (c.shut.ensures.stops told image).0) c.in-Ok.ensures.opened stands
          c.shut.ensures.others c.shut.ensures.count history is judged so.1,
    ))
    (λ history is none.
    exact-rows tells K
    (g.S.Shelf.left c.shut.new.self) _ path c.in-Ok.book keeper' s m s' c.in-Ok.ensures.telling so' alike
    c.in-Ok.ensures.begins (λ told image. (c.shut.ensures.stops told image).0) c.in-Ok.ensures.opened stands
    c.shut.ensures.others c.shut.ensures.count history is c.pipe-ending.ensures.counted none))

pub returns-in-Ok-clause-answers : goal.returns-in-Ok-clause-answers
returns-in-Ok-clause-answers g c b left faultless idle H legal told =
    let outside = outside_of g.I.Source.faults g.O.Sink.taken g.O.Sink.faults g.C.Clock.coming g.C.Clock.faults in
    let stores = state_of g.S.Shelf.rows g.S.Shelf.faults in
    let o = outside c.args.input.now c.args.out.now c.args.clock.now in
    let o' = outside c.pipe-ending.new.input c.pipe-ending.new.out c.pipe-ending.new.clock in
    let s = stores c.args.shelf.now in
    let m = stores c.open_store.new.shelf in
    let s' = stores c.shut.new.self in
    let K = g.S.Keeper.Keeper in
    let same = the-history K.rows K.faults c.args.path.now c.in-Ok.book s m c.in-Ok.ensures.opened H legal told in
    subst (λ (opening : History). (c.exit_of.result ≡ exits.OutOfMemory) ⊎ AnswersAll opening c.exit_of.result b o o')
    same
    (subst (λ (x : Exit). (x ≡ exits.OutOfMemory) ⊎ AnswersAll c.in-Ok.book.log x b o o') (sym c.exit_of.ensures)
    (c.pipe-ending.ensures.answers b left faultless
    (no_fault (K.tells_stops c.pipe-ending.result.1) K.rows K.tried K.faults c.args.path.now c.in-Ok.book _ s m s'
    c.in-Ok.ensures.opened
    c.shut.ensures.kept
    c.shut.ensures.others c.shut.ensures.count idle)))
