-- SPDX-License-Identifier: Apache-2.0 OR MIT
use Rattle.std.proofs.Common.{arith, ◌≡◌, ◌∙◌, List, length, ap, refl, sym, subst, Some, Err, Result}
use Rattle.cr_base.specs.declared.bulk.Broken.{Broken}
use Rattle.cr_base.specs.declared.bulk.BulkRow.{BulkRow}
use Rattle.cr_base.specs.declared.entry.Stamp.{Stamp}
use Rattle.cr_base.specs.declared.reply.Receipt.TheVariants as receipts
use Rattle.cr_base.specs.Bulk.{entries_of}
use Rattle.cr_base.specs.Calls.{BulkCall}
use Rattle.cr_base.specs.History.{History}
use Rattle.cr_base.specs.Drawn.{Drawn}
use Rattle.cr_log.specs.Given.{MayFollow}
use Rattle.cr_policy.specs.Judge.{judge_bulk}
use Rattle.cr_policy.specs.Legal.{Legal, bulks, followed_by}
use Rattle.cr_policy.specs.View.{view}
use Rattle.cr_policy.proofs.LegalLaws.{given-bounded, Legal-bulk_accepted, Legal-bulk_fits}
use Rattle.cr_book.specs.Seen.{SeenBook}
use Rattle.cr_book.specs.declared.book.BookError.TheVariants as errors
use Rattle.cr_book.proofs.BookLaws.{bulk-by_view, bulk-drawn, acts-judged, drawn-ok, drawn-no_error}
use Rattle.cr_book.proofs.StopLaws.{kept_drawn, refused_drawn}
use Rattle.cr_book.proofs.FollowLaws.{grouped-follow}
use Rattle.cr_book.proofs.book.Book.judge_rows.Goals as goal

-- the bulk of these rows under this stamp
abbrev bulk_under : Stamp → List BulkRow → BulkCall
bulk_under stamp rows = record { stamp = stamp; rows = rows }

pub keep-requires-clause-legal : goal.keep-requires-clause-legal
keep-requires-clause-legal g c =
    let same = ap (λ (v : SeenBook g.row.K.Denot). v.log) c.self.view_is in
    let group = c.in-Ok.group.items in
    let drawn : Drawn = record { group = group; receipt = receipts.Rows (length group) } in
    Legal-bulk_accepted c.args.self.now.log (bulk_under c.args.stamp c.args.rows) drawn
    (subst (λ (h : History). Legal h) same c.self.invariant.0.legal) c.requires
    (bulk-drawn g.K.Keeper.rows _ c.args.self.now.log _ _ (bulk_under c.args.stamp c.args.rows) c.in-Ok.group.items
    (ap (λ (v : SeenBook g.row.K.Denot). v.log) c.self.view_is) c.self.invariant.0 c.requires c.in-Ok.ensures.group
    c.in-Ok.ensures.accepted)

pub keep-requires-clause-adds : goal.keep-requires-clause-adds
keep-requires-clause-adds g c =
    let log = c.args.self.now.log in
    let bulk = bulk_under c.args.stamp c.args.rows in
    record {
      move = bulks bulk;
      allowed = c.requires;
      adds = ap (followed_by log) (bulk-drawn g.K.Keeper.rows _ log _ _ bulk c.in-Ok.group.items
          (ap (λ (v : SeenBook g.row.K.Denot). v.log) c.self.view_is) c.self.invariant.0 c.requires
          c.in-Ok.ensures.group c.in-Ok.ensures.accepted);
    }

pub keep-requires-clause-follows : goal.keep-requires-clause-follows
keep-requires-clause-follows g c =
    subst (λ (group : History). MayFollow c.args.self.now.log group) (sym c.in-Ok.ensures.group)
    (grouped-follow c.args.self.now.log c.args.stamp (entries_of c.in-Ok.group.items) c.requires.unused)

pub keep-requires-clause-fits : goal.keep-requires-clause-fits
keep-requires-clause-fits g c =
    let same = ap (λ (v : SeenBook g.row.K.Denot). v.log) c.self.view_is in
    let group = c.in-Ok.group.items in
    let drawn : Drawn = record { group = group; receipt = receipts.Rows (length group) } in
    Legal-bulk_fits c.args.self.now.log (bulk_under c.args.stamp c.args.rows) drawn
    (subst (λ (h : History). Legal h) same c.self.invariant.0.legal) c.requires.given.caller
    (given-bounded c.args.self.now.log (bulk_under c.args.stamp c.args.rows) c.requires.given)
    (bulk-drawn g.K.Keeper.rows _ c.args.self.now.log _ _ (bulk_under c.args.stamp c.args.rows) c.in-Ok.group.items
    (ap (λ (v : SeenBook g.row.K.Denot). v.log) c.self.view_is) c.self.invariant.0 c.requires c.in-Ok.ensures.group
    c.in-Ok.ensures.accepted)

pub returns-in-Err-clause-broken : goal.returns-in-Err-clause-broken
returns-in-Err-clause-broken g c = λ broken told.
    let is =
    bulk-by_view g.K.Keeper.rows _ c.args.self.now.log _ _ (bulk_under c.args.stamp c.args.rows) (Err c.in-Err.broken)
    (ap (λ (v : SeenBook g.row.K.Denot). v.log) c.self.view_is) c.self.invariant.0 c.requires c.in-Err.ensures.broken in
    let same : ◌≡◌ {A = Result Drawn Broken} (Err c.in-Err.broken) (Err broken) = sym is ∙ told in
    let e : c.in-Err.broken ≡ broken = cc (same) in
    ap (λ (b : Broken). Err (errors.Broken b)) e

pub returns-in-Err-clause-only_broken : goal.returns-in-Err-clause-only_broken
returns-in-Err-clause-only_broken g c = λ broken told.
    let is =
    bulk-by_view g.K.Keeper.rows _ c.args.self.now.log _ _ (bulk_under c.args.stamp c.args.rows) (Err c.in-Err.broken)
    (ap (λ (v : SeenBook g.row.K.Denot). v.log) c.self.view_is) c.self.invariant.0 c.requires c.in-Err.ensures.broken in
    let e : c.in-Err.broken ≡ broken = cc (told) in
    is ∙ ap Err e

pub returns-in-Err-keep-clause-broken : goal.returns-in-Err-keep-clause-broken
returns-in-Err-keep-clause-broken g c = λ broken told.
    let drawn =
    bulk-drawn g.K.Keeper.rows _ c.args.self.now.log _ _ (bulk_under c.args.stamp c.args.rows) c.in-Ok.group.items
    (ap (λ (v : SeenBook g.row.K.Denot). v.log) c.self.view_is) c.self.invariant.0 c.requires c.in-Ok.ensures.group
    c.in-Ok.ensures.accepted in
    absurd (drawn-no_error _ _ broken drawn told)

pub returns-in-Err-keep-clause-memory : goal.returns-in-Err-keep-clause-memory
returns-in-Err-keep-clause-memory g c = λ is.
    drawn-ok _ _ (bulk-drawn g.K.Keeper.rows _ c.args.self.now.log _ _ (bulk_under c.args.stamp c.args.rows)
    c.in-Ok.group.items
    (ap (λ (v : SeenBook g.row.K.Denot). v.log) c.self.view_is) c.self.invariant.0 c.requires c.in-Ok.ensures.group
    c.in-Ok.ensures.accepted)

pub returns-in-Err-keep-clause-lost : goal.returns-in-Err-keep-clause-lost
returns-in-Err-keep-clause-lost g c = λ is.
    drawn-ok _ _ (bulk-drawn g.K.Keeper.rows _ c.args.self.now.log _ _ (bulk_under c.args.stamp c.args.rows)
    c.in-Ok.group.items
    (ap (λ (v : SeenBook g.row.K.Denot). v.log) c.self.view_is) c.self.invariant.0 c.requires c.in-Ok.ensures.group
    c.in-Ok.ensures.accepted)

pub returns-in-Ok-keep-clause-accepted : goal.returns-in-Ok-keep-clause-accepted
returns-in-Ok-keep-clause-accepted g c =
    acts-judged c.args.self.now.log _ _ (judge_bulk (view (Some c.args.stamp.maker) c.args.self.now.log)
    (bulk_under c.args.stamp c.args.rows))
    (record { group = c.in-Ok.group.items; receipt = receipts.Rows (length c.in-Ok.group.items) })
    (bulk-drawn g.K.Keeper.rows _ c.args.self.now.log _ _ (bulk_under c.args.stamp c.args.rows) c.in-Ok.group.items
    (ap (λ (v : SeenBook g.row.K.Denot). v.log) c.self.view_is) c.self.invariant.0 c.requires c.in-Ok.ensures.group
    c.in-Ok.ensures.accepted)
    (let many : c.len-rows.result ≡ length c.in-Ok.group.items =
    omega (arith, c.len-rows.ensures) in ap receipts.Rows many)
    c.in-Ok-keep.ensures.kept

pub returns-in-Ok-keep-clause-broken : goal.returns-in-Ok-keep-clause-broken
returns-in-Ok-keep-clause-broken g c = λ broken told.
    let drawn =
    bulk-drawn g.K.Keeper.rows _ c.args.self.now.log _ _ (bulk_under c.args.stamp c.args.rows) c.in-Ok.group.items
    (ap (λ (v : SeenBook g.row.K.Denot). v.log) c.self.view_is) c.self.invariant.0 c.requires c.in-Ok.ensures.group
    c.in-Ok.ensures.accepted in
    absurd (drawn-no_error _ _ broken drawn told)

pub returns-in-Ok-keep-clause-stops : goal.returns-in-Ok-keep-clause-stops
returns-in-Ok-keep-clause-stops g c = λ told drawn is.
    let K = g.K.Keeper in
    kept_drawn K
    (judge_bulk (view (Some c.args.stamp.maker) c.args.self.now.log) (bulk_under c.args.stamp c.args.rows))
    (record { group = c.in-Ok.group.items; receipt = receipts.Rows (length c.in-Ok.group.items) }) drawn
    (bulk-drawn g.K.Keeper.rows _ c.args.self.now.log _ _ (bulk_under c.args.stamp c.args.rows) c.in-Ok.group.items
    (ap (λ (v : SeenBook g.row.K.Denot). v.log) c.self.view_is) c.self.invariant.0 c.requires c.in-Ok.ensures.group
    c.in-Ok.ensures.accepted) is
    c.in-Ok.group.items refl
    c.args.self.now.log c.args.self.now.keeper c.keep.new.self.keeper c.keep.result c.in-Ok-keep.field-0
    (receipts.Rows c.len-rows.result) c.in-Ok-keep.is (c.keep.ensures.stops told)

pub returns-in-Err-keep-clause-stops : goal.returns-in-Err-keep-clause-stops
returns-in-Err-keep-clause-stops g c = λ told drawn is.
    let K = g.K.Keeper in
    refused_drawn K
    (judge_bulk (view (Some c.args.stamp.maker) c.args.self.now.log) (bulk_under c.args.stamp c.args.rows))
    (record { group = c.in-Ok.group.items; receipt = receipts.Rows (length c.in-Ok.group.items) }) drawn
    (bulk-drawn g.K.Keeper.rows _ c.args.self.now.log _ _ (bulk_under c.args.stamp c.args.rows) c.in-Ok.group.items
    (ap (λ (v : SeenBook g.row.K.Denot). v.log) c.self.view_is) c.self.invariant.0 c.requires c.in-Ok.ensures.group
    c.in-Ok.ensures.accepted) is
    c.in-Ok.group.items refl
    c.args.self.now.log c.args.self.now.keeper c.keep.new.self.keeper c.keep.result c.in-Err-keep.error
    c.in-Err-keep.error c.in-Err-keep.is (c.keep.ensures.stops told)
