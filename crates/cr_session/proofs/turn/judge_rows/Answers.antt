-- SPDX-License-Identifier: Apache-2.0 OR MIT
use Rattle.std.proofs.Common.{◌∙◌, Err, Some, false, ap}
use Rattle.cr_base.specs.Calls.{bulk_by}
use Rattle.cr_policy.specs.Judge.{decide_bulk}
use Rattle.cr_base.specs.Retries.{drawn_by}
use Rattle.cr_policy.specs.View.{view}
use Rattle.cr_book.specs.Seen.{SeenBook}
use Rattle.cr_book.specs.declared.book.BookError.TheVariants as errors
use Rattle.cr_session.proofs.TryLaws.{accepted-still, nothing-drawn, tries-kept, tries-refused}
use Rattle.cr_session.proofs.turn.judge_rows.Goals as goal

pub returns-in-Ok-clause-tried : goal.returns-in-Ok-clause-tried
returns-in-Ok-clause-tried g c =
    let K = g.K.Keeper in
    let b = c.args.book.now in
    let b' = c.bulk.new.self in
    let outcome = decide_bulk (view (Some c.args.user) b.log) (bulk_by c.args.user c.args.at c.args.key c.args.rows) in
    tries-kept K c.bulk.result b.log b.keeper b'.keeper
    c.in-Ok.count_told (drawn_by outcome) c.in-Ok.is
    (accepted-still outcome b b' c.in-Ok.count_told c.in-Ok.ensures.accepted c.bulk.ensures.repeat_stays)
    c.bulk.ensures.stops

pub returns-in-Err-Broken-clause-tried : goal.returns-in-Err-Broken-clause-tried
returns-in-Err-Broken-clause-tried g c =
    let K = g.K.Keeper in
    let b = c.args.book.now in
    let b' = c.bulk.new.self in
    let outcome = decide_bulk (view (Some c.args.user) b.log) (bulk_by c.args.user c.args.at c.args.key c.args.rows) in
    nothing-drawn K false b.log (drawn_by outcome) b.keeper
    b'.keeper
    (ap drawn_by (c.bulk.ensures.only_broken c.in-Err-Broken.broken
    (c.in-Err-Broken.is ∙ ap Err c.in-Err-Broken.field-0-is)))
    (ap (λ (x : SeenBook g.row.K.Denot). x.keeper)
    (c.bulk.ensures.broken_stays c.in-Err-Broken.broken (c.in-Err-Broken.is ∙ ap Err c.in-Err-Broken.field-0-is)))

pub returns-in-Err-KeeperFault-clause-tried : goal.returns-in-Err-KeeperFault-clause-tried
returns-in-Err-KeeperFault-clause-tried g c =
    let K = g.K.Keeper in
    let b = c.args.book.now in
    let b' = c.bulk.new.self in
    let outcome = decide_bulk (view (Some c.args.user) b.log) (bulk_by c.args.user c.args.at c.args.key c.args.rows) in
    tries-refused K c.bulk.result b.log b.keeper b'.keeper
    errors.KeeperFault (drawn_by outcome) (c.in-Err-KeeperFault.is ∙ ap Err c.in-Err-KeeperFault.field-0-is)
    (c.bulk.ensures.lost (c.in-Err-KeeperFault.is ∙ ap Err c.in-Err-KeeperFault.field-0-is)) c.bulk.ensures.stops

pub returns-in-Err-OutOfMemory-clause-tried : goal.returns-in-Err-OutOfMemory-clause-tried
returns-in-Err-OutOfMemory-clause-tried g c =
    λ told. c.bulk.ensures.untried told (c.in-Err-OutOfMemory.is ∙ ap Err c.in-Err-OutOfMemory.field-0-is)
