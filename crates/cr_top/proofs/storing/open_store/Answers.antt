-- SPDX-License-Identifier: Apache-2.0 OR MIT
use Rattle.std.proofs.Common.{ℕ, List, Bool, ap, subst, sym, ◌∙◌}
use Rattle.std.specs.Prelude.{IfSome}
use Rattle.cr_ports.specs.Count.{Gains}
use Rattle.cr_ports.specs.Shelving.{StandsAfter}
use Rattle.cr_top.specs.Stores.{RowsByPath, state_of}
use Rattle.cr_top.proofs.Stored.{begins-at, opened-still, opens-store, rows-refuse, stands-by}
use Rattle.cr_top.proofs.storing.open_store.Goals as goal

pub returns-in-Err-open-clause-refused : goal.returns-in-Err-open-clause-refused
returns-in-Err-open-clause-refused g c =
    let K = g.S.Keeper.Keeper in
    let path = c.args.path.now in
    let seen = state_of g.S.Shelf.rows g.S.Shelf.faults in
    let keeper = c.in-Err-open.keeper in
    let s = seen c.args.shelf.now in
    let s' = seen c.shut.new.self in
    let tells = g.S.Shelf.tells_stops c.args.shelf.now path in
    let still = opened-still tells path c.in-Ok.keeper _ _ c.in-Ok.ensures.same in
    let so = c.in-Ok.ensures.telling in
    let so' = K.tells_alike keeper c.in-Ok.keeper c.in-Err-open.ensures.alike_back ∙ so in
    rw c.exit_of_rows.ensures (rows-refuse tells K.rows K.tried K.faults path s s' c.in-Ok.keeper keeper
    c.in-Ok.ensures.found c.in-Ok.ensures.fresh c.in-Err-open.ensures.given_back
    (λ told. ap K.tried (c.in-Err-open.ensures.still_back (so ∙ told)) ∙ (c.in-Ok.ensures.begins (so ∙ told)).1)
    (subst (λ (r : RowsByPath). IfSome (K.rows keeper)
    (λ k. StandsAfter tells k (K.tried keeper) (r path) (s'.rows path))) still
    (stands-by (K.tells_stops keeper) tells so' (K.rows keeper) (K.tried keeper) _ (s'.rows path)
    c.shut.ensures.kept))
    (λ other apart. c.shut.ensures.others other apart ∙ ap (λ (r : RowsByPath). r other) still)
    (subst (λ (n : ℕ). Gains n (K.faults keeper) s'.faults) (c.in-Ok.ensures.cause.steady (λ e. cc (e)))
    c.shut.ensures.count)
    c.in-Err-open.error c.in-Err-open.ensures.exact c.in-Err-open.ensures.cause)

pub returns-in-Ok-open-clause-opened : goal.returns-in-Ok-open-clause-opened
returns-in-Ok-open-clause-opened g c =
    let K = g.S.Keeper.Keeper in
    let seen = state_of g.S.Shelf.rows g.S.Shelf.faults in
    opens-store K.rows K.faults c.args.path.now c.in-Ok.keeper c.in-Ok-open.book (seen c.args.shelf.now)
    (seen c.open.new.self)
    c.in-Ok-open.ensures.legal c.in-Ok.ensures.found c.in-Ok-open.ensures.exact c.in-Ok-open.ensures.same
    c.in-Ok-open.ensures.opened
    (c.in-Ok-open.ensures.steady ∙ c.in-Ok.ensures.fresh)
    (opened-still (g.S.Shelf.tells_stops c.args.shelf.now c.args.path.now) c.args.path.now c.in-Ok.keeper _ _
    c.in-Ok.ensures.same)
    (c.in-Ok.ensures.cause.steady (λ e. cc (e)))

pub shut-requires : goal.shut-requires
shut-requires g c =
    subst (λ (kind : List Bool). g.S.Shelf.has_opened c.open.new.self c.args.path.now kind)
    (sym c.in-Err-open.ensures.alike_back) c.in-Ok.ensures.opened

pub returns-in-Ok-open-clause-telling : goal.returns-in-Ok-open-clause-telling
returns-in-Ok-open-clause-telling g c =
    ap g.S.Keeper.Keeper.tells_stops c.in-Ok-open.ensures.opened ∙ c.in-Ok.ensures.telling

pub returns-in-Ok-open-clause-open : goal.returns-in-Ok-open-clause-open
returns-in-Ok-open-clause-open g c =
    subst (λ (k : g.row.S-Keeper.Denot). g.S.Shelf.has_opened c.open.new.self c.args.path.now (g.S.Keeper.Keeper.kind
    k))
    (sym c.in-Ok-open.ensures.opened) c.in-Ok.ensures.opened

pub returns-in-Ok-open-clause-begins : goal.returns-in-Ok-open-clause-begins
returns-in-Ok-open-clause-begins g c = λ told.
    let K = g.S.Keeper.Keeper in
    let yes = c.in-Ok.ensures.telling ∙ told in
    begins-at K (g.S.Shelf.opened_at c.open.new.self c.args.path.now)
    c.in-Ok.keeper c.in-Ok-open.book c.in-Ok-open.ensures.opened (c.in-Ok-open.ensures.still yes)
    (c.in-Ok.ensures.begins yes).0 (c.in-Ok.ensures.begins yes).1 c.in-Ok-open.ensures.exact
    (c.in-Ok-open.ensures.between yes)
