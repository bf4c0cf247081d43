-- SPDX-License-Identifier: Apache-2.0 OR MIT
use Rattle.std.proofs.Common.{ℕ, Bool, Option, Some, Ok, Err, ◌∙◌, ◌+◌, ap, sym, refl}
use Rattle.std.specs.Prelude.{is_some, unwrap_or}
use Rattle.std.proofs.lemmas.Bool.{true≢false}
use Rattle.cr_base.specs.declared.entry.Entry.TheVariants as entries
use Rattle.cr_base.specs.Drawn.{alone}
use Rattle.cr_base.specs.declared.entry.Stamp.{Stamp}
use Rattle.cr_base.specs.declared.target.Target.{Target}
use Rattle.cr_base.specs.declared.words.Role.{Role}
use Rattle.cr_base.specs.Checks.{NamedPaper, assign_checks}
use Rattle.cr_base.specs.Invites.{invites_from}
use Rattle.cr_base.specs.Seats.{seats_from}
use Rattle.cr_base.specs.Tables.{tables_from}
use Rattle.cr_assign.specs.Targets.{external_at, labels_at, ordinal_at, target_of, target_with}
use Rattle.cr_judge.proofs.AssigningLaws.{assignment-drawn, target-there}
use Rattle.cr_judge.proofs.JudgedLaws.{entry-passed-up}
use Rattle.cr_judge.proofs.NamedLaws.{is-there}
use Rattle.cr_judge.proofs.RowLaws.{invites-seen, seats-fit, seats-seen, target-behind}
use Rattle.cr_judge.proofs.assigning.assignment.Goals as goal

pub judge_assign-requires : goal.judge_assign-requires
judge_assign-requires c = seats-fit c.args.live.now.tables c.args.earlier.now c.requires.rows
    c.seat_table.result.now.seats c.seat_table.ensures.seats c.requires.fits

pub held-paper-requires : goal.held-paper-requires
held-paper-requires c =
    let named = c.named_paper-named.result in
    let seats = seats_from c.seat_table.result.now.seats c.args.earlier.now in
    let invites = invites_from c.seat_table.result.now.invites c.args.earlier.now in
    is-there (λ (p : NamedPaper). assign_checks named.by p
    (target_of seats invites c.is_conflicted.result named.paper c.target_of.result) (labels_at seats named.paper))
    (λ (w : Bool) (x : ℕ). refl) named.paper named.withdrawn _ c.in_ok-ordinal.ordinal c.in_ok-ordinal.ensures

pub held-user-requires : goal.held-user-requires
held-user-requires c =
    let named = c.named_paper-named.result in
    let seats = seats_from c.seat_table.result.now.seats c.args.earlier.now in
    let invites = invites_from c.seat_table.result.now.invites c.args.earlier.now in
    let labels : ℕ = labels_at seats named.paper in
    target-there c.args.live.now.tables.accounts c.args.user.now c.target_of.result c.target_of.ensures
    (λ (t : ℕ × Role). target_with t.1 c.is_conflicted.result (ordinal_at seats (Some t.0) named.paper)
    (external_at invites t.1 (Some t.0) named.paper))
    (λ (o : Option Target). assign_checks named.by (record { there = is_some named.paper; withdrawn = named.withdrawn })
    o labels)
    (λ none. true≢false none.1.0) (labels + 1) c.in_ok-ordinal.ordinal c.in_ok-ordinal.ensures

pub returns : goal.returns
returns c =
    let before = c.args.live.now.tables in
    let earlier = c.args.earlier.now in
    let t = tables_from before earlier in
    let stamp : Stamp = c.args.stamp.now in
    let named = c.named_paper-named.result in
    let seen = c.seat_table.result.now.seats in
    ap
    (λ (o : Option ℕ). Ok (alone stamp (entries.Assigned (unwrap_or o 0) c.held-user.result c.args.kind
    c.in_ok-ordinal.ordinal))) (sym c.held-paper.ensures)
    ∙ ap
    (λ (o : Option ℕ). Ok (alone stamp (entries.Assigned (unwrap_or named.paper 0) (unwrap_or o 0) c.args.kind
    c.in_ok-ordinal.ordinal))) (sym c.held-user.ensures)
    ∙ assignment-drawn t stamp c.args.paper.now c.args.user.now named c.named_paper-named.ensures
    c.target_of.result
    (target-behind before earlier c.requires.rows c.args.user.now c.target_of.result c.target_of.ensures)
    c.args.kind (seats_from seen earlier) (seats-seen before earlier c.requires.rows seen c.seat_table.ensures.seats)
    (invites_from c.seat_table.result.now.invites earlier)
    (invites-seen before earlier c.requires.rows c.seat_table.result.now.invites c.seat_table.ensures.invites)
    c.is_conflicted.result c.is_conflicted.ensures
    (Ok c.in_ok-ordinal.ordinal) c.in_ok-ordinal.ensures

pub returns-in_err-ordinal : goal.returns-in_err-ordinal
returns-in_err-ordinal c =
    let before = c.args.live.now.tables in
    let earlier = c.args.earlier.now in
    let t = tables_from before earlier in
    let stamp : Stamp = c.args.stamp.now in
    let named = c.named_paper-named.result in
    let seen = c.seat_table.result.now.seats in
    entry-passed-up before.accounts stamp c.from_residual.result c.in_err-ordinal.field-0.0 _ c.from_residual.ensures.1
    (assignment-drawn t stamp c.args.paper.now c.args.user.now named c.named_paper-named.ensures
    c.target_of.result
    (target-behind before earlier c.requires.rows c.args.user.now c.target_of.result c.target_of.ensures)
    c.args.kind (seats_from seen earlier) (seats-seen before earlier c.requires.rows seen c.seat_table.ensures.seats)
    (invites_from c.seat_table.result.now.invites earlier)
    (invites-seen before earlier c.requires.rows c.seat_table.result.now.invites c.seat_table.ensures.invites)
    c.is_conflicted.result c.is_conflicted.ensures
    (Err c.in_err-ordinal.field-0.0) c.in_err-ordinal.ensures)
