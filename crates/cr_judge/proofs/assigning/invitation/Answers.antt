-- SPDX-License-Identifier: Apache-2.0 OR MIT
use Rattle.std.proofs.Common.{ℕ, Option, Some, Ok, Err, ◌∙◌, ap, sym, refl}
use Rattle.std.specs.Prelude.{is_some, unwrap_or}
use Rattle.std.proofs.lemmas.Bool.{true≢false}
use Rattle.cr_base.specs.Drawn.{alone}
use Rattle.cr_base.specs.declared.entry.Entry.TheVariants as entries
use Rattle.cr_base.specs.declared.entry.Stamp.{Stamp}
use Rattle.cr_base.specs.declared.target.Target.{Target}
use Rattle.cr_base.specs.declared.words.Role.{Role}
use Rattle.cr_base.specs.Checks.{NamedPaper, invite_checks}
use Rattle.cr_assign.specs.Targets.{external_at, invited_at, ordinal_at, target_of, target_with}
use Rattle.cr_judge.proofs.AssigningLaws.{invitation-drawn, target-there}
use Rattle.cr_judge.proofs.JudgedLaws.{one-entry, passed-up}
use Rattle.cr_judge.proofs.NamedLaws.{is-there}
use Rattle.cr_judge.proofs.assigning.invitation.Goals as goal

pub held-paper-requires : goal.held-paper-requires
held-paper-requires c =
    let named = c.named_paper-named.result in
    let seats = c.seat_table.result.now in
    is-there (λ (p : NamedPaper). invite_checks named.by p
    (target_of seats.seats seats.invites c.is_conflicted.result named.paper c.target_of.result)
    (invited_at seats.invites named.paper c.target_of.result))
    (λ w (x : Unit {0}). refl) named.paper named.withdrawn tt tt c.in_ok-judge_invite.ensures

pub held-user-requires : goal.held-user-requires
held-user-requires c =
    let named = c.named_paper-named.result in
    let seats = c.seat_table.result.now in
    target-there c.args.live.now.tables.accounts c.args.user.now c.target_of.result c.target_of.ensures
    (λ (t : ℕ × Role). target_with t.1 c.is_conflicted.result (ordinal_at seats.seats (Some t.0) named.paper)
    (external_at seats.invites t.1 (Some t.0) named.paper))
    (λ (o : Option Target). invite_checks named.by (record { there = is_some named.paper; withdrawn = named.withdrawn })
    o (invited_at seats.invites named.paper c.target_of.result))
    (λ none. true≢false none.1.0) tt tt c.in_ok-judge_invite.ensures

pub returns : goal.returns
returns c =
    let t = c.args.live.now.tables in
    let stamp : Stamp = c.args.stamp.now in
    let named = c.named_paper-named.result in
    let seats = c.seat_table.result.now in
    one-entry t.accounts stamp (entries.Invited c.held-paper.result c.held-user.result) c.alone.result _ c.alone.ensures
    (ap (λ (o : Option ℕ). Ok (alone stamp (entries.Invited (unwrap_or o 0) c.held-user.result))) (sym
    c.held-paper.ensures)
    ∙ ap (λ (o : Option ℕ). Ok (alone stamp (entries.Invited (unwrap_or named.paper 0) (unwrap_or o 0))))
    (sym c.held-user.ensures)
    ∙ invitation-drawn t stamp c.args.paper.now c.args.user.now named c.named_paper-named.ensures
    c.target_of.result c.target_of.ensures
    seats.seats seats.invites c.seat_table.ensures.invites c.is_conflicted.result c.is_conflicted.ensures (Ok tt)
    c.in_ok-judge_invite.ensures)

pub returns-in_err-judge_invite : goal.returns-in_err-judge_invite
returns-in_err-judge_invite c =
    let t = c.args.live.now.tables in
    let stamp : Stamp = c.args.stamp.now in
    let named = c.named_paper-named.result in
    let seats = c.seat_table.result.now in
    passed-up t.accounts c.from_residual.result c.in_err-judge_invite.field-0.0 _ c.from_residual.ensures.1
    (invitation-drawn t stamp c.args.paper.now c.args.user.now named c.named_paper-named.ensures
    c.target_of.result c.target_of.ensures
    seats.seats seats.invites c.seat_table.ensures.invites c.is_conflicted.result c.is_conflicted.ensures
    (Err c.in_err-judge_invite.field-0.0) c.in_err-judge_invite.ensures)
