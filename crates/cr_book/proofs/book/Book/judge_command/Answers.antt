-- SPDX-License-Identifier: Apache-2.0 OR MIT
use Rattle.std.proofs.Common.{◌≡◌, ◌∙◌, ◌++◌, ap, sym, subst, Ok, Err, Result}
use Rattle.cr_base.specs.declared.reply.Rule.{Rule}
use Rattle.cr_base.specs.History.{History}
use Rattle.cr_base.specs.Drawn.{Drawn}
use Rattle.cr_base.specs.Judging.{resolved_by_role}
use Rattle.cr_base.specs.Tables.{Tables, tables_of, FitInTurn}
use Rattle.cr_log.specs.Given.{MayFollow}
use Rattle.cr_policy.specs.Judge.{judge}
use Rattle.cr_policy.specs.Legal.{Legal, calls, followed_by}
use Rattle.cr_policy.specs.View.{view}
use Rattle.cr_policy.proofs.LegalLaws.{Legal-accepted}
use Rattle.cr_judge.specs.Effects.{drawn_by, group_of}
use Rattle.cr_judge.specs.Callers.{HasCaller}
use Rattle.cr_book.specs.Seen.{SeenBook}
use Rattle.cr_book.specs.Stopping.{AddsOne}
use Rattle.cr_book.specs.declared.book.BookError.TheVariants as errors
use Rattle.cr_book.proofs.BookLaws.{judged-by_view, acts-judged, drawn-ok, drawn-no_error}
use Rattle.cr_book.proofs.StopLaws.{kept_drawn, refused_drawn}
use Rattle.cr_book.proofs.FollowLaws.{call-follows}
use Rattle.cr_book.proofs.JudgingLaws.{few-authors, has-caller}
use Rattle.cr_book.proofs.book.Book.judge_command.Goals as goal

pub resolve_call-requires : goal.resolve_call-requires
resolve_call-requires g c = few-authors c.args.call.command c.requires.given.bounded

pub judge-requires : goal.judge-requires
judge-requires g c = record {
  caller = subst HasCaller (sym c.resolve_call.ensures)
      (has-caller c.args.self.now.log _ c.args.call c.requires.given.caller);
}

pub returns-in-Err-clause-rule : goal.returns-in-Err-clause-rule
returns-in-Err-clause-rule g c = λ rule told.
    let is = judged-by_view g.K.Keeper.rows _ c.args.self.now.log _ _ c.args.call (Err c.in-Err.rule)
    (ap (λ (v : SeenBook g.row.K.Denot). v.log) c.self.view_is) c.self.invariant.0 (c.in-Err.ensures.drawn ∙ ap (resolved_by_role c.self.inside.live.tables) c.resolve_call.ensures) in
    let same : ◌≡◌ {A = Result Drawn Rule} (Err c.in-Err.rule) (Err rule) = sym is ∙ told in
    let e : c.in-Err.rule ≡ rule = cc (same) in
    ap (λ (r : Rule). Err (errors.Broken r)) e

pub returns-in-Err-clause-only_rule : goal.returns-in-Err-clause-only_rule
returns-in-Err-clause-only_rule g c = λ rule told.
    let is = judged-by_view g.K.Keeper.rows _ c.args.self.now.log _ _ c.args.call (Err c.in-Err.rule)
    (ap (λ (v : SeenBook g.row.K.Denot). v.log) c.self.view_is) c.self.invariant.0 (c.in-Err.ensures.drawn ∙ ap (resolved_by_role c.self.inside.live.tables) c.resolve_call.ensures) in
    let e : c.in-Err.rule ≡ rule = cc (told) in
    is ∙ ap Err e

pub keep-requires-clause-legal : goal.keep-requires-clause-legal
keep-requires-clause-legal g c =
    let same = ap (λ (v : SeenBook g.row.K.Denot). v.log) c.self.view_is in
    let told = judged-by_view g.K.Keeper.rows _ c.args.self.now.log _ _ c.args.call
    (Ok (drawn_by c.self.inside.live.tables.accounts c.in-Ok.effect))
    (ap (λ (v : SeenBook g.row.K.Denot). v.log) c.self.view_is) c.self.invariant.0 (c.in-Ok.ensures.drawn ∙ ap (resolved_by_role c.self.inside.live.tables) c.resolve_call.ensures) in
    subst (λ (group : History). Legal (c.args.self.now.log ++ group)) (sym c.in-Ok-group.ensures)
    (Legal-accepted c.args.self.now.log c.args.call (drawn_by c.self.inside.live.tables.accounts c.in-Ok.effect)
    (subst (λ (h : History). Legal h) same c.self.invariant.0.legal)
    c.requires told)

pub keep-requires-clause-adds : goal.keep-requires-clause-adds
keep-requires-clause-adds g c =
    let log = c.args.self.now.log in
    let told = judged-by_view g.K.Keeper.rows _ log _ _ c.args.call
    (Ok (drawn_by c.self.inside.live.tables.accounts c.in-Ok.effect))
    (ap (λ (v : SeenBook g.row.K.Denot). v.log) c.self.view_is) c.self.invariant.0 (c.in-Ok.ensures.drawn ∙ ap (resolved_by_role c.self.inside.live.tables) c.resolve_call.ensures) in
    subst (λ (group : History). AddsOne log group) (sym c.in-Ok-group.ensures)
    (record { move = calls c.args.call; allowed = c.requires; adds = ap (followed_by log) told })

pub keep-requires-clause-follows : goal.keep-requires-clause-follows
keep-requires-clause-follows g c =
    let same = ap (λ (v : SeenBook g.row.K.Denot). v.log) c.self.view_is in
    let told = judged-by_view g.K.Keeper.rows _ c.args.self.now.log _ _ c.args.call
    (Ok (drawn_by c.self.inside.live.tables.accounts c.in-Ok.effect))
    (ap (λ (v : SeenBook g.row.K.Denot). v.log) c.self.view_is) c.self.invariant.0 (c.in-Ok.ensures.drawn ∙ ap (resolved_by_role c.self.inside.live.tables) c.resolve_call.ensures) in
    subst (λ (group : History). MayFollow c.args.self.now.log group) (sym c.in-Ok-group.ensures)
    (call-follows c.args.self.now.log c.args.call (drawn_by c.self.inside.live.tables.accounts c.in-Ok.effect)
    (subst (λ (h : History). Legal h) same c.self.invariant.0.legal)
    c.requires told)

pub keep-requires-clause-fits : goal.keep-requires-clause-fits
keep-requires-clause-fits g c =
    subst (λ (group : History). FitInTurn (tables_of c.args.self.now.log) group) (sym c.in-Ok-group.ensures)
    (subst (λ (t : Tables). FitInTurn t (group_of c.in-Ok.effect))
    (c.self.invariant.0.same ∙ ap (λ (v : SeenBook g.row.K.Denot). tables_of v.log) c.self.view_is)
    c.in-Ok.ensures.fits)

pub returns-in_default-clause-rule : goal.returns-in_default-clause-rule
returns-in_default-clause-rule g c = λ rule told.
    let drawn = judged-by_view g.K.Keeper.rows _ c.args.self.now.log _ _ c.args.call
    (Ok (drawn_by c.self.inside.live.tables.accounts c.in-Ok.effect))
    (ap (λ (v : SeenBook g.row.K.Denot). v.log) c.self.view_is) c.self.invariant.0 (c.in-Ok.ensures.drawn ∙ ap (resolved_by_role c.self.inside.live.tables) c.resolve_call.ensures) in
    absurd (drawn-no_error _ _ rule drawn told)

pub returns-in_default-clause-memory : goal.returns-in_default-clause-memory
returns-in_default-clause-memory g c = λ is.
    drawn-ok _ _ (judged-by_view g.K.Keeper.rows _ c.args.self.now.log _ _ c.args.call
    (Ok (drawn_by c.self.inside.live.tables.accounts c.in-Ok.effect))
    (ap (λ (v : SeenBook g.row.K.Denot). v.log) c.self.view_is) c.self.invariant.0 (c.in-Ok.ensures.drawn ∙ ap (resolved_by_role c.self.inside.live.tables) c.resolve_call.ensures))

pub returns-in-Err-keep-clause-rule : goal.returns-in-Err-keep-clause-rule
returns-in-Err-keep-clause-rule g c = λ rule told.
    let drawn = judged-by_view g.K.Keeper.rows _ c.args.self.now.log _ _ c.args.call
    (Ok (drawn_by c.self.inside.live.tables.accounts c.in-Ok.effect))
    (ap (λ (v : SeenBook g.row.K.Denot). v.log) c.self.view_is) c.self.invariant.0 (c.in-Ok.ensures.drawn ∙ ap (resolved_by_role c.self.inside.live.tables) c.resolve_call.ensures) in
    absurd (drawn-no_error _ _ rule drawn told)

pub returns-in-Err-keep-clause-memory : goal.returns-in-Err-keep-clause-memory
returns-in-Err-keep-clause-memory g c = λ is.
    drawn-ok _ _ (judged-by_view g.K.Keeper.rows _ c.args.self.now.log _ _ c.args.call
    (Ok (drawn_by c.self.inside.live.tables.accounts c.in-Ok.effect))
    (ap (λ (v : SeenBook g.row.K.Denot). v.log) c.self.view_is) c.self.invariant.0 (c.in-Ok.ensures.drawn ∙ ap (resolved_by_role c.self.inside.live.tables) c.resolve_call.ensures))

pub returns-in-Err-keep-clause-lost : goal.returns-in-Err-keep-clause-lost
returns-in-Err-keep-clause-lost g c = λ is.
    drawn-ok _ _ (judged-by_view g.K.Keeper.rows _ c.args.self.now.log _ _ c.args.call
    (Ok (drawn_by c.self.inside.live.tables.accounts c.in-Ok.effect))
    (ap (λ (v : SeenBook g.row.K.Denot). v.log) c.self.view_is) c.self.invariant.0 (c.in-Ok.ensures.drawn ∙ ap (resolved_by_role c.self.inside.live.tables) c.resolve_call.ensures))

pub returns-in-Ok-keep-clause-accepted : goal.returns-in-Ok-keep-clause-accepted
returns-in-Ok-keep-clause-accepted g c =
    acts-judged c.args.self.now.log _ _ (judge (view c.args.call.caller c.args.self.now.log) c.args.call)
    (drawn_by c.self.inside.live.tables.accounts c.in-Ok.effect)
    (judged-by_view g.K.Keeper.rows _ c.args.self.now.log _ _ c.args.call
    (Ok (drawn_by c.self.inside.live.tables.accounts c.in-Ok.effect))
    (ap (λ (v : SeenBook g.row.K.Denot). v.log) c.self.view_is) c.self.invariant.0 (c.in-Ok.ensures.drawn ∙ ap (resolved_by_role c.self.inside.live.tables) c.resolve_call.ensures))
    c.receipt-receipt.ensures
    (c.in-Ok-keep.ensures.kept ∙ ap (λ (group : History). c.args.self.now.log ++ group) c.in-Ok-group.ensures)

pub returns-in-Ok-keep-clause-rule : goal.returns-in-Ok-keep-clause-rule
returns-in-Ok-keep-clause-rule g c = λ rule told.
    let drawn = judged-by_view g.K.Keeper.rows _ c.args.self.now.log _ _ c.args.call
    (Ok (drawn_by c.self.inside.live.tables.accounts c.in-Ok.effect))
    (ap (λ (v : SeenBook g.row.K.Denot). v.log) c.self.view_is) c.self.invariant.0 (c.in-Ok.ensures.drawn ∙ ap (resolved_by_role c.self.inside.live.tables) c.resolve_call.ensures) in
    absurd (drawn-no_error _ _ rule drawn told)

pub returns-in-Ok-keep-clause-stops : goal.returns-in-Ok-keep-clause-stops
returns-in-Ok-keep-clause-stops g c = λ told drawn is.
    let K = g.K.Keeper in
    kept_drawn K
    (judge (view c.args.call.caller c.args.self.now.log) c.args.call)
    (drawn_by c.self.inside.live.tables.accounts c.in-Ok.effect) drawn
    (judged-by_view g.K.Keeper.rows _ c.args.self.now.log _ _ c.args.call
    (Ok (drawn_by c.self.inside.live.tables.accounts c.in-Ok.effect))
    (ap (λ (v : SeenBook g.row.K.Denot). v.log) c.self.view_is) c.self.invariant.0 (c.in-Ok.ensures.drawn ∙ ap (resolved_by_role c.self.inside.live.tables) c.resolve_call.ensures)) is
    c.in-Ok-group.group.items c.in-Ok-group.ensures
    c.args.self.now.log c.args.self.now.keeper c.keep.new.self.keeper c.keep.result c.in-Ok-keep.field-0
    c.receipt-receipt.result c.in-Ok-keep.is (c.keep.ensures.stops told)

pub returns-in-Err-keep-clause-stops : goal.returns-in-Err-keep-clause-stops
returns-in-Err-keep-clause-stops g c = λ told drawn is.
    let K = g.K.Keeper in
    refused_drawn K
    (judge (view c.args.call.caller c.args.self.now.log) c.args.call)
    (drawn_by c.self.inside.live.tables.accounts c.in-Ok.effect) drawn
    (judged-by_view g.K.Keeper.rows _ c.args.self.now.log _ _ c.args.call
    (Ok (drawn_by c.self.inside.live.tables.accounts c.in-Ok.effect))
    (ap (λ (v : SeenBook g.row.K.Denot). v.log) c.self.view_is) c.self.invariant.0 (c.in-Ok.ensures.drawn ∙ ap (resolved_by_role c.self.inside.live.tables) c.resolve_call.ensures)) is
    c.in-Ok-group.group.items c.in-Ok-group.ensures
    c.args.self.now.log c.args.self.now.keeper c.keep.new.self.keeper c.keep.result c.in-Err-keep.error
    c.in-Err-keep.error c.in-Err-keep.is (c.keep.ensures.stops told)
