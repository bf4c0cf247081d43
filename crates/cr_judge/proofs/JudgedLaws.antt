-- SPDX-License-Identifier: Apache-2.0 OR MIT
-- What a command comes to, by the tables.
use Rattle.std.proofs.Common.{ℕ, ◌≡◌, List, refl, sym, ap, ◌∙◌, Option, Some, None, Result, Ok, Err, IfOk}
use Rattle.std.specs.Prelude.{IsErrAnd}
use Rattle.std.proofs.lemmas.Bool.{true≢false}
use Rattle.cr_base.specs.declared.entry.Account.{Account}
use Rattle.cr_base.specs.declared.entry.Entry.{Entry}
use Rattle.cr_base.specs.declared.entry.Stamp.{Stamp}
use Rattle.cr_base.specs.declared.reply.Rule.{Rule}
use Rattle.cr_base.specs.declared.resolved.ResolvedCall.{ResolvedCall}
use Rattle.cr_base.specs.declared.resolved.ResolvedCommand.{ResolvedCommand}
use Rattle.cr_base.specs.declared.resolved.ResolvedCommand.TheVariants.{Register}
use Rattle.cr_base.specs.Calls.{resolved_by, stamp_by}
use Rattle.cr_base.specs.Drawn.{Drawn}
use Rattle.cr_base.specs.Judging.{resolved_by_role}
use Rattle.cr_base.specs.Papers.{paper_count}
use Rattle.cr_base.specs.Tables.{Tables, FitInTurn}
use Rattle.cr_base.specs.Ties.{AreWithin}
use Rattle.cr_base.proofs.FitLaws.{resolved-fits}
use Rattle.cr_judge.specs.declared.effect.Effect.{Effect}
use Rattle.cr_judge.specs.Callers.{HasCaller}
use Rattle.cr_judge.specs.Effects.{alone, alone_or_rule, drawn_by, drawn_or_rule, entry_or_rule, group_of}

-- a broken rule that is passed up is told
pub passed-up : (accounts : List Account) (r : Result Effect Rule) (rule : Rule) (due : Result Drawn Rule)
    → IsErrAnd r (λ (e : Rule). e ≡ rule)
    → ◌≡◌ {A = Result Drawn Rule} (Err rule) due → drawn_or_rule accounts r ≡ due
passed-up accounts (Ok effect) rule due is told = absurd is
passed-up accounts (Err e) rule due is told = ap (λ (x : Rule). Err x) is ∙ told

pub entry-passed-up : (accounts : List Account) (stamp : Stamp) (r : Result Entry Rule) (rule : Rule)
    (due : Result Drawn Rule) → IsErrAnd r (λ (e : Rule). e ≡ rule)
    → ◌≡◌ {A = Result Drawn Rule} (Err rule) due → entry_or_rule accounts stamp r ≡ due
entry-passed-up accounts stamp (Ok entry) rule due is told = absurd is
entry-passed-up accounts stamp (Err e) rule due is told = ap (λ (x : Rule). Err x) is ∙ told

-- the effect of an entry, as its command draws it
pub one-entry : (accounts : List Account) (stamp : Stamp) (entry : Entry) (effect : Effect) (due : Result Drawn Rule)
    → effect ≡ alone stamp entry
    → ◌≡◌ {A = Result Drawn Rule} (Ok (drawn_by accounts (alone stamp entry))) due
    → ◌≡◌ {A = Result Drawn Rule} (Ok (drawn_by accounts effect)) due
one-entry accounts stamp entry effect due is told =
    let same : ◌≡◌ {A = Result Drawn Rule} (Ok (drawn_by accounts effect))
    (Ok (drawn_by accounts (alone stamp entry))) = ap (λ (e : Effect). Ok (drawn_by accounts e)) is in
    same ∙ told

-- and of a judgement of one
pub of-entry : (accounts : List Account) (stamp : Stamp) (judged : Result Entry Rule) (r : Result Effect Rule)
    (due : Result Drawn Rule)
    → r ≡ alone_or_rule stamp judged → entry_or_rule accounts stamp judged ≡ due → drawn_or_rule accounts r ≡ due
of-entry accounts stamp judged r due is told = ap (drawn_or_rule accounts) is ∙ by judged ∙ told
  where
    by : (x : Result Entry Rule) → drawn_or_rule accounts (alone_or_rule stamp x) ≡ entry_or_rule accounts stamp x
    by (Ok entry) = refl
    by (Err rule) = refl

-- what a user's command comes to, where it is this one
pub command-told : (t : Tables) (stamp : Stamp) (command this : ResolvedCommand) (r : Result Drawn Rule)
    → command ≡ this
    → r ≡ resolved_by_role t (resolved_by stamp this) → r ≡ resolved_by_role t (resolved_by stamp command)
command-told t stamp command this r is h =
    h ∙ sym (ap (λ (c : ResolvedCommand). resolved_by_role t (resolved_by stamp c)) is)

-- and what a call does, where it is this user's
pub call-told : (t : Tables) (call : ResolvedCall) (maker : ℕ) (r : Result Drawn Rule) → call.caller ≡ Some maker
    → r ≡ resolved_by_role t (record call { caller = Some maker }) → r ≡ resolved_by_role t call
call-told t call maker r who h = h ∙ sym (λ i. resolved_by_role t (record call { caller = who i }))

-- a registration is the same for all callers
pub registration-told : (t : Tables) (call : ResolvedCall) (name digest : List ℕ) (r : Result Drawn Rule)
    → call.command ≡ Register name digest
    → r ≡ resolved_by_role t (record { caller = None; at = call.at; key = call.key; command = Register name digest })
    → r ≡ resolved_by_role t call
registration-told t call name digest r is h =
    h ∙ sym (ap (λ (c : ResolvedCommand). resolved_by_role t (record call { command = c })) is)

-- its entries fit, where the papers that have ties are there; a registration's are the same for all callers
pub effect-fits : (t : Tables) → AreWithin (paper_count t.papers) t.ties → (call : ResolvedCall) → HasCaller call
    → (r : Result Effect Rule)
    → drawn_or_rule t.accounts r ≡ resolved_by_role t call → IfOk r (λ effect. FitInTurn t (group_of effect))
effect-fits t within call has (Err rule) is = tt
effect-fits t within call has (Ok effect) is = by call.caller call.command has (sym is)
  where
    by : (caller : Option ℕ) (command : ResolvedCommand)
        → HasCaller (record call { caller = caller; command = command })
        → resolved_by_role t (record call { caller = caller; command = command }) ≡ Ok (drawn_by t.accounts effect)
        → FitInTurn t (group_of effect)
    by (Some user) command has accepted =
        resolved-fits t within (stamp_by user call.at call.key) command (drawn_by t.accounts effect) accepted
    by None (Register name digest) has accepted = resolved-fits t within (stamp_by 0 call.at call.key)
        (Register name digest) (drawn_by t.accounts effect) accepted
    by None _ has accepted = absurd (true≢false (sym has))
