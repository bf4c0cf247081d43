-- SPDX-License-Identifier: Apache-2.0 OR MIT
use Rattle.std.proofs.Common.{◌≡◌, subst, rules}
use Rattle.sqlite.specs.Held.{state}
use Rattle.sqlite.proofs.Callers.{survives_begin}
use Rattle.cr_sqlite.specs.Migration.{CommitsOnce}
use Rattle.cr_sqlite.proofs.Committing.{nothing_more, then_once, never_once}
use Rattle.cr_sqlite.proofs.migrate.move_all.Goals as goal

pub returns-in_err-move_tables : goal.returns-in_err-move_tables
returns-in_err-move_tables g c =
    let old = c.args.conn.now in
    let last = c.move_tables.new.transaction.conn.now in
    let end = c.drop-transaction.new.self.0 in
    let begun = c.transaction-transaction.ensures.begun in
    let before = survives_begin g.S.Store old (state g.S.Store last) _ (rw begun at c.move_tables.ensures.inside) in
    let never = never_once (state g.S.Store old) (state g.S.Store end)
    (nothing_more _ (state g.S.Store last) _ before c.drop-transaction.ensures.survives) in
    let same : end ≡ c.conn-1.given.0 = search rules in
    record { one = subst (λ h. CommitsOnce (state g.S.Store old) (state g.S.Store h)) same never }

pub returns : goal.returns
returns g c =
    let old = c.args.conn.now in
    let last = c.move_tables.new.transaction.conn.now in
    let end = c.commit.new.self.0 in
    let begun = c.transaction-transaction.ensures.begun in
    let before = survives_begin g.S.Store old (state g.S.Store last) _ (rw begun at c.move_tables.ensures.inside) in
    let once =
    then_once (state g.S.Store old) (state g.S.Store last) (state g.S.Store end) _ before c.commit.ensures.survives in
    let same : end ≡ c.conn-2-1.given.0 = search rules in
    record { one = subst (λ h. CommitsOnce (state g.S.Store old) (state g.S.Store h)) same once }
