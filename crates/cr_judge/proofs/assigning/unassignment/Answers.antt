-- SPDX-License-Identifier: Apache-2.0 OR MIT
use Rattle.std.proofs.Common.{ℕ, Bool, false, Option, Some, Ok, Err, ◌∙◌, ap, sym, refl}
use Rattle.std.specs.Prelude.{is_some, unwrap_or}
use Rattle.std.proofs.lemmas.Bool.{true≢false}
use Rattle.cr_base.specs.declared.entry.Entry.TheVariants as entries
use Rattle.cr_base.specs.Drawn.{alone}
use Rattle.cr_base.specs.declared.entry.Stamp.{Stamp}
use Rattle.cr_base.specs.declared.target.Target.{Target}
use Rattle.cr_base.specs.declared.words.Role.{Role}
use Rattle.cr_base.specs.Checks.{NamedPaper, unassign_checks}
use Rattle.cr_base.specs.Seats.{seats_from}
use Rattle.cr_base.specs.Tables.{tables_from}
use Rattle.cr_assign.specs.Targets.{external_at, held_at, ordinal_at, target_of, target_with}
use Rattle.cr_judge.proofs.AssigningLaws.{unassignment-drawn, target-there}
use Rattle.cr_judge.proofs.JudgedLaws.{entry-passed-up}
use Rattle.cr_judge.proofs.NamedLaws.{is-there}
use Rattle.cr_judge.proofs.RowLaws.{invites-kept, seats-fit, seats-seen, target-behind}
use Rattle.cr_judge.proofs.assigning.unassignment.Goals as goal

pub judge_unassign-requires : goal.judge_unassign-requires
judge_unassign-requires c = seats-fit c.args.live.now.tables c.args.earlier.now c.requires.rows
    c.seat_table.result.now.seats c.seat_table.ensures.seats c.requires.fits

pub held-paper-requires : goal.held-paper-requires
held-paper-requires c =
    let named = c.named_paper-named.result in
    let seats = seats_from c.seat_table.result.now.seats c.args.earlier.now in
    let invites = c.seat_table.result.now.invites in
    is-there (λ (p : NamedPaper). unassign_checks named.by p
    (target_of seats invites false named.paper c.target_of.result) c.has_written.result)
    (λ (w : Bool) (x : ℕ). refl) named.paper named.withdrawn _ c.in_ok-ordinal.ordinal c.in_ok-ordinal.ensures

pub held-user-requires : goal.held-user-requires
held-user-requires c =
    let named = c.named_paper-named.result in
    let seats = seats_from c.seat_table.result.now.seats c.args.earlier.now in
    let invites = c.seat_table.result.now.invites in
    target-there c.args.live.now.tables.accounts c.args.user.now c.target_of.result c.target_of.ensures
    (λ (t : ℕ × Role). target_with t.1 false (ordinal_at seats (Some t.0) named.paper)
    (external_at invites t.1 (Some t.0) named.paper))
    (λ (o : Option Target). unassign_checks named.by
    (record { there = is_some named.paper; withdrawn = named.withdrawn }) o c.has_written.result)
    (λ none. true≢false none.1.0) (held_at seats named.paper c.target_of.result) c.in_ok-ordinal.ordinal
    c.in_ok-ordinal.ensures

pub returns : goal.returns
returns c =
    let before = c.args.live.now.tables in
    let earlier = c.args.earlier.now in
    let t = tables_from before earlier in
    let stamp : Stamp = c.args.stamp.now in
    let named = c.named_paper-named.result in
    let seen = c.seat_table.result.now.seats in
    ap (λ (o : Option ℕ). Ok (alone stamp (entries.Unassigned (unwrap_or o 0) c.held-user.result
    c.in_ok-ordinal.ordinal)))
    (sym c.held-paper.ensures)
    ∙ ap
    (λ (o : Option ℕ). Ok (alone stamp (entries.Unassigned (unwrap_or named.paper 0) (unwrap_or o 0)
    c.in_ok-ordinal.ordinal))) (sym c.held-user.ensures)
    ∙ unassignment-drawn t stamp c.args.paper.now c.args.user.now named c.named_paper-named.ensures
    c.target_of.result
    (target-behind before earlier c.requires.rows c.args.user.now c.target_of.result c.target_of.ensures)
    (seats_from seen earlier) (seats-seen before earlier c.requires.rows seen c.seat_table.ensures.seats)
    c.seat_table.result.now.invites (invites-kept before earlier c.requires.rows c.seat_table.result.now.invites
    c.seat_table.ensures.invites)
    c.has_written.result c.has_written.ensures
    (Ok c.in_ok-ordinal.ordinal) c.in_ok-ordinal.ensures

pub returns-in_err-ordinal : goal.returns-in_err-ordinal
returns-in_err-ordinal c =
    let before = c.args.live.now.tables in
    let earlier = c.args.earlier.now in
    let t = tables_from before earlier in
    let stamp : Stamp = c.args.stamp.now in
    let named = c.named_paper-named.result in
    let seen = c.seat_table.result.now.seats in
    entry-passed-up before.accounts stamp c.from_residual.result c.in_err-ordinal.field-0.0 _ c.from_residual.ensures.1
    (unassignment-drawn t stamp c.args.paper.now c.args.user.now named c.named_paper-named.ensures
    c.target_of.result
    (target-behind before earlier c.requires.rows c.args.user.now c.target_of.result c.target_of.ensures)
    (seats_from seen earlier) (seats-seen before earlier c.requires.rows seen c.seat_table.ensures.seats)
    c.seat_table.result.now.invites (invites-kept before earlier c.requires.rows c.seat_table.result.now.invites
    c.seat_table.ensures.invites)
    c.has_written.result c.has_written.ensures
    (Err c.in_err-ordinal.field-0.0) c.in_err-ordinal.ensures)
