-- SPDX-License-Identifier: Apache-2.0 OR MIT
use Rattle.std.proofs.Common.{refl, ap, sym, subst, ◌∙◌, ◌≡◌, Some}
use mathlib.Core.Option.{some-injective}
use Rattle.std.specs.Prelude.{IsSome}
use Rattle.cr_lock.specs.Passes.{known_of}
use Rattle.cr_lock.specs.Closing.{Closes}
use Rattle.cr_lock.proofs.Seats.{ends}
use Rattle.cr_lock.proofs.lock.HistoryLock.close.Goals as goal

pub unwrap-value-requires : goal.unwrap-value-requires
unwrap-value-requires g c = let r = c.pass.invariant in
    let e = ends _ _ _ _ c.pass.inside.seat.table_id _ _ _ _ r.1 (ap (λ p. p.share) c.pass.view_is ∙ c.requires.whole)
    c.close_with-closed.ensures.values.2 in
    let same : Some e.0 ≡ c.take.result =
    some-injective (Some e.0) c.take.result (sym e.1 ∙ c.take.ensures.value) in subst IsSome same refl

pub returns : goal.returns
returns g c = let r = c.pass.invariant in let e = ends _ _ _ _ c.pass.inside.seat.table_id _ _ _ _ r.1
    (ap (λ p. p.share) c.pass.view_is ∙ c.requires.whole) c.close_with-closed.ensures.values.2 in
    let same : Some e.0 ≡ c.take.result = some-injective (Some e.0) c.take.result (sym e.1 ∙ c.take.ensures.value) in
    let x : e.0 ≡ c.unwrap-value.result = cc (same, c.unwrap-value.ensures) in
    subst (Closes g.T.Stands.list g.T.Stands.faults g.T.Stands.root c.args.self.first c.args.pass) x
    (subst (λ p. Closes g.T.Stands.list g.T.Stands.faults g.T.Stands.root c.args.self.first p e.0) c.pass.view_is
    (subst (λ f. Closes g.T.Stands.list g.T.Stands.faults g.T.Stands.root f (known_of c.pass.inside.seat) e.0)
    (ap (λ l. l.first) c.self.view_is) e.2))
