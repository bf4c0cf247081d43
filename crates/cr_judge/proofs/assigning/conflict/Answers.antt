-- SPDX-License-Identifier: Apache-2.0 OR MIT
use Rattle.std.proofs.Common.{ℕ, Bool, Option, Ok, Err, ◌∙◌, ap, sym, refl}
use Rattle.std.specs.Prelude.{is_some, unwrap_or}
use Rattle.std.proofs.lemmas.Bool.{true≢false}
use Rattle.cr_base.specs.declared.entry.Entry.TheVariants as entries
use Rattle.cr_base.specs.Drawn.{alone}
use Rattle.cr_base.specs.declared.entry.Stamp.{Stamp}
use Rattle.cr_base.specs.declared.target.Target.{Target}
use Rattle.cr_base.specs.declared.words.Role.{Role}
use Rattle.cr_base.specs.Checks.{NamedPaper, conflict_checks}
use Rattle.cr_base.specs.Tables.{tables_from}
use Rattle.cr_base.specs.Ties.{ties_from}
use Rattle.cr_conflicts.specs.Targets.{target_in, target_of}
use Rattle.cr_judge.proofs.AssigningLaws.{conflict-drawn, target-there}
use Rattle.cr_judge.proofs.JudgedLaws.{entry-passed-up}
use Rattle.cr_judge.proofs.NamedLaws.{is-there}
use Rattle.cr_judge.proofs.RowLaws.{late-behind, target-behind, ties-seen}
use Rattle.cr_judge.proofs.assigning.conflict.Goals as goal

pub held-paper-requires : goal.held-paper-requires
held-paper-requires c =
    let named = c.named_paper-named.result in
    let ties = ties_from c.tie_table.result.now.ties c.args.earlier.now in
    is-there (λ (p : NamedPaper). conflict_checks named.by p
    (target_of ties c.args.stamp.now.maker named.paper c.target_of-target.result c.is_external_target.result)
    c.args.on c.is_late-late.result)
    (λ (w : Bool) (x : Unit {0}). refl) named.paper named.withdrawn tt tt c.in_ok-judge_conflict.ensures

pub held-user-requires : goal.held-user-requires
held-user-requires c =
    let named = c.named_paper-named.result in
    let stamp : Stamp = c.args.stamp.now in
    let ties = ties_from c.tie_table.result.now.ties c.args.earlier.now in
    target-there c.args.live.now.tables.accounts c.args.user.now c.target_of-target.result c.target_of-target.ensures
    (λ (t : ℕ × Role). target_in ties stamp.maker named.paper c.is_external_target.result t.0 t.1)
    (λ (o : Option Target). conflict_checks named.by
    (record { there = is_some named.paper; withdrawn = named.withdrawn }) o c.args.on c.is_late-late.result)
    (λ none. true≢false none.1.0) tt tt c.in_ok-judge_conflict.ensures

pub returns : goal.returns
returns c =
    let t = tables_from c.args.live.now.tables c.args.earlier.now in
    let stamp : Stamp = c.args.stamp.now in
    let named = c.named_paper-named.result in
    let seen = c.tie_table.result.now.ties in
    ap (λ (o : Option ℕ). Ok (alone stamp (entries.Conflict (unwrap_or o 0) c.held-user.result c.args.on)))
    (sym c.held-paper.ensures)
    ∙ ap (λ (o : Option ℕ). Ok (alone stamp (entries.Conflict (unwrap_or named.paper 0) (unwrap_or o 0) c.args.on)))
    (sym c.held-user.ensures)
    ∙ conflict-drawn t stamp c.args.paper.now c.args.user.now named c.named_paper-named.ensures
    c.target_of-target.result
    (target-behind c.args.live.now.tables c.args.earlier.now c.requires.rows c.args.user.now c.target_of-target.result
    c.target_of-target.ensures)
    c.args.on c.is_late-late.result (late-behind c.args.live.now.tables c.args.earlier.now c.requires.rows stamp
    c.is_late-late.result c.is_late-late.ensures)
    (ties_from seen c.args.earlier.now) (ties-seen c.args.live.now.tables c.args.earlier.now c.requires.rows seen
    c.tie_table.ensures)
    c.is_external_target.result c.is_external_target.ensures
    (Ok tt) c.in_ok-judge_conflict.ensures

pub returns-in_err-judge_conflict : goal.returns-in_err-judge_conflict
returns-in_err-judge_conflict c =
    let t = tables_from c.args.live.now.tables c.args.earlier.now in
    let stamp : Stamp = c.args.stamp.now in
    let named = c.named_paper-named.result in
    let seen = c.tie_table.result.now.ties in
    entry-passed-up c.args.live.now.tables.accounts stamp c.from_residual.result c.in_err-judge_conflict.field-0.0 _
    c.from_residual.ensures.1
    (conflict-drawn t stamp c.args.paper.now c.args.user.now named c.named_paper-named.ensures c.target_of-target.result
    (target-behind c.args.live.now.tables c.args.earlier.now c.requires.rows c.args.user.now c.target_of-target.result
    c.target_of-target.ensures)
    c.args.on c.is_late-late.result (late-behind c.args.live.now.tables c.args.earlier.now c.requires.rows stamp
    c.is_late-late.result c.is_late-late.ensures)
    (ties_from seen c.args.earlier.now) (ties-seen c.args.live.now.tables c.args.earlier.now c.requires.rows seen
    c.tie_table.ensures)
    c.is_external_target.result c.is_external_target.ensures
    (Err c.in_err-judge_conflict.field-0.0) c.in_err-judge_conflict.ensures)
