-- SPDX-License-Identifier: Apache-2.0 OR MIT
use Rattle.std.proofs.Common.{ℕ, Option, Some, false, Ok, Err, ◌∙◌, ap, sym, refl}
use Rattle.std.specs.Prelude.{is_some, unwrap_or}
use Rattle.std.proofs.lemmas.Bool.{true≢false}
use Rattle.cr_base.specs.Drawn.{alone}
use Rattle.cr_base.specs.declared.entry.Entry.TheVariants as entries
use Rattle.cr_base.specs.declared.entry.Stamp.{Stamp}
use Rattle.cr_base.specs.declared.target.Target.{Target}
use Rattle.cr_base.specs.declared.words.Role.{Role}
use Rattle.cr_base.specs.Checks.{NamedPaper, uninvite_checks}
use Rattle.cr_assign.specs.Targets.{external_at, invited_at, ordinal_at, target_of, target_with}
use Rattle.cr_judge.proofs.AssigningLaws.{uninvitation-drawn, target-there}
use Rattle.cr_judge.proofs.JudgedLaws.{one-entry, passed-up}
use Rattle.cr_judge.proofs.NamedLaws.{is-there}
use Rattle.cr_judge.proofs.assigning.uninvitation.Goals as goal

pub held-paper-requires : goal.held-paper-requires
held-paper-requires c =
    let named = c.named_paper-named.result in
    let seats = c.seat_table.result.now in
    is-there (λ (p : NamedPaper). uninvite_checks named.by p
    (target_of seats.seats seats.invites false named.paper c.target_of.result)
    (invited_at seats.invites named.paper c.target_of.result))
    (λ w (x : Unit {0}). refl) named.paper named.withdrawn tt tt c.in_ok-judge_uninvite.ensures

pub held-user-requires : goal.held-user-requires
held-user-requires c =
    let named = c.named_paper-named.result in
    let seats = c.seat_table.result.now in
    target-there c.args.live.now.tables.accounts c.args.user.now c.target_of.result c.target_of.ensures
    (λ (t : ℕ × Role). target_with t.1 false (ordinal_at seats.seats (Some t.0) named.paper)
    (external_at seats.invites t.1 (Some t.0) named.paper))
    (λ (o : Option Target). uninvite_checks named.by
    (record { there = is_some named.paper; withdrawn = named.withdrawn }) o
    (invited_at seats.invites named.paper c.target_of.result))
    (λ none. true≢false none.1.0) tt tt c.in_ok-judge_uninvite.ensures

pub returns : goal.returns
returns c =
    let t = c.args.live.now.tables in
    let stamp : Stamp = c.args.stamp.now in
    let named = c.named_paper-named.result in
    let seats = c.seat_table.result.now in
    one-entry t.accounts stamp (entries.Uninvited c.held-paper.result c.held-user.result) c.alone.result _
    c.alone.ensures
    (ap (λ (o : Option ℕ). Ok (alone stamp (entries.Uninvited (unwrap_or o 0) c.held-user.result))) (sym
    c.held-paper.ensures)
    ∙ ap (λ (o : Option ℕ). Ok (alone stamp (entries.Uninvited (unwrap_or named.paper 0) (unwrap_or o 0))))
    (sym c.held-user.ensures)
    ∙ uninvitation-drawn t stamp c.args.paper.now c.args.user.now named c.named_paper-named.ensures
    c.target_of.result c.target_of.ensures
    seats.seats c.seat_table.ensures.seats seats.invites c.seat_table.ensures.invites (Ok tt)
    c.in_ok-judge_uninvite.ensures)

pub returns-in_err-judge_uninvite : goal.returns-in_err-judge_uninvite
returns-in_err-judge_uninvite c =
    let t = c.args.live.now.tables in
    let stamp : Stamp = c.args.stamp.now in
    let named = c.named_paper-named.result in
    let seats = c.seat_table.result.now in
    passed-up t.accounts c.from_residual.result c.in_err-judge_uninvite.field-0.0 _ c.from_residual.ensures.1
    (uninvitation-drawn t stamp c.args.paper.now c.args.user.now named c.named_paper-named.ensures
    c.target_of.result c.target_of.ensures
    seats.seats c.seat_table.ensures.seats seats.invites c.seat_table.ensures.invites
    (Err c.in_err-judge_uninvite.field-0.0) c.in_err-judge_uninvite.ensures)
