-- SPDX-License-Identifier: Apache-2.0 OR MIT
-- Who takes part in a drill has registered before the steps, and stays so.
use Rattle.std.proofs.Common.{◌≡◌, ◌∙◌, ℕ, zero, suc, ◌+◌, ◌≤◌, ◌||◌, List, [], ◌∷◌, ◌++◌, Bool, true, false, Some}
use Rattle.std.proofs.Common.{None, Result, Ok, Err, refl, sym, ap, subst, arith, length, if◌then◌else◌, add-one}
use Rattle.std.specs.List.{list_any}
use Rattle.cr_base.specs.declared.command.Call.{Call}
use Rattle.cr_base.specs.declared.command.Command.{Command}
use Rattle.cr_base.specs.declared.command.Command.TheVariants.{Register}
use Rattle.cr_base.specs.declared.reply.Rule.{Rule}
use Rattle.cr_base.specs.declared.words.Phase.{Phase}
use Rattle.cr_base.specs.declared.words.Role.TheVariants.{Member}
use Rattle.cr_base.specs.Drawn.{Drawn}
use Rattle.cr_base.specs.History.{History}
use Rattle.cr_base.specs.HistoryFacts.{papers_of}
use Rattle.cr_history.specs.Invariants.{IsRegistered}
use Rattle.cr_history.proofs.SubmissionLaws.{registered-append}
use Rattle.cr_policy.specs.Judge.{judge}
use Rattle.cr_policy.specs.Legal.{Legal, followed_by, step}
use Rattle.cr_policy.specs.View.{view}
use Rattle.cr_drill.specs.declared.dice.Roll.{Roll}
use Rattle.cr_drill.specs.declared.drill_commands.Operation.{Operation}
use Rattle.cr_drill.specs.Cast.{operation_in, actor_of, cast_name, command_of}
use Rattle.cr_drill.specs.Dice.{after_roll, roll_of}
use Rattle.cr_drill.specs.Drill.{Drilled, call_at, drill_call, drilled_for, is_accepted, members_named, moved_to, named}
use Rattle.cr_drill.specs.Drill.{phase_at, registered_first, stepped, stepped_in}
use Rattle.cr_drill.specs.Drilling.{GoesOn, HasCast}

-- ---- whoever has registered stays so

any-append : {B : Type 0} (test : B → Bool) (xs ys : List B) → list_any test xs ≡ true → list_any test (xs ++ ys) ≡ true
any-append test [] ys h = absurd (cc)
any-append test (x ∷ xs) ys h = by_test (test x) h (any-append test xs ys)
  where
    by_test : (b : Bool) → (b || list_any test xs) ≡ true → (list_any test xs ≡ true → list_any test (xs ++ ys) ≡ true)
        → (b || list_any test (xs ++ ys)) ≡ true
    by_test true e rest = refl
    by_test false e rest = rest e

registered-followed : (H : History) (r : Result Drawn Rule) (user : ℕ) → IsRegistered H user
    → IsRegistered (followed_by H r) user
registered-followed H (Ok drawn) user h = registered-append H drawn.group user h
registered-followed H (Err rule) user h = h

pub registered-step : (H : History) (call : Call) (user : ℕ) → IsRegistered H user → IsRegistered (step H call) user
registered-step H call user h = registered-followed H (judge (view call.caller H) call) user h

-- so the cast stays
pub cast_kept : (H H' : History) → HasCast H → GoesOn H H' → HasCast H'
cast_kept H H' cast goes =
    record { legal = goes.legal; registered = λ user low high. goes.registered user (cast.registered user low high) }

-- ---- the cast registers

pub legal-nothing : (H : History) → H ≡ [] → Legal H
legal-nothing H none = subst (λ (G : History). Legal G) (sym none) ([], refl)

-- whatever their digests are
module _ (digest : ℕ → List ℕ) where
  registered-each : (user : ℕ) → 1 ≤ user → user ≤ 8 → IsRegistered (registered_first digest 8) user
  registered-each zero low high = absurd (omega (arith, low))
  registered-each (suc zero) low high = refl
  registered-each (suc (suc zero)) low high = refl
  registered-each (suc (suc (suc zero))) low high = refl
  registered-each (suc (suc (suc (suc zero)))) low high = refl
  registered-each (suc (suc (suc (suc (suc zero))))) low high = refl
  registered-each (suc (suc (suc (suc (suc (suc zero)))))) low high = refl
  registered-each (suc (suc (suc (suc (suc (suc (suc zero))))))) low high = refl
  registered-each (suc (suc (suc (suc (suc (suc (suc (suc zero)))))))) low high = refl
  registered-each (suc (suc (suc (suc (suc (suc (suc (suc (suc n))))))))) low high = absurd (omega (arith, high))

  pub cast-registered : (H : History) → Legal H → H ≡ registered_first digest 8 → HasCast H
  cast-registered H legal is = record {
    legal = legal;
    registered = λ user low high. subst (λ (G : History). IsRegistered G user) (sym is) (registered-each user low high);
  }

-- ---- one more

pub registered-next : (digest : ℕ → List ℕ) (n user : ℕ) (H H' : History) → H ≡ registered_first digest n → user ≡ n + 1
    → H' ≡ step H (drill_call None (Register (cast_name user) (digest user))) → H' ≡ registered_first digest (n + 1)
registered-next digest n user H H' before number stepped =
    stepped
    ∙
    (λ i. step (before i)
    (drill_call None (Register (cast_name ((number ∙ add-one n) i)) (digest ((number ∙ add-one n) i)))))
    ∙ ap (registered_first digest) (sym (add-one n))

pub members-next : (n : ℕ) (H G G' : History) → G ≡ members_named n H → G' ≡ named Member (3 + n) G
    → G' ≡ members_named (n + 1) H
members-next n H G G' before more =
    more ∙ ap (named Member (3 + n)) before ∙ ap (λ (k : ℕ). members_named k H) (sym (add-one n))

pub drilled-next : (seed steps n : ℕ) (d d' : Drilled) → d ≡ drilled_for seed steps n → d' ≡ stepped steps n d
    → d' ≡ drilled_for seed steps (n + 1)
drilled-next seed steps n d d' before more =
    more ∙ ap (stepped steps n) before ∙ ap (drilled_for seed steps) (sym (add-one n))

-- ---- one step

-- in the phase that is due
pub stepped-in : (steps s : ℕ) (phase : Phase) (d : Drilled) → phase ≡ phase_at steps s
    → stepped_in phase s d ≡ stepped steps s d
unfolding stepped
stepped-in steps s phase d is = ap (λ (p : Phase). stepped_in p s d) is

-- by what was moved to, drawn, made up and asked
pub step-taken : (phase : Phase) (s : ℕ) (d : Drilled) (G G' : History) (papers seed actor : ℕ) (roll : Roll)
    (operation : Operation) (command : Command) (accepted : Bool)
    → G ≡ moved_to phase d.history → papers ≡ length (papers_of G) → roll ≡ roll_of papers d.seed
    → seed ≡ after_roll d.seed
    → operation ≡ operation_in phase roll.operation → command ≡ command_of operation s roll
    → actor ≡ actor_of operation roll.user
    → G' ≡ step G (drill_call (Some actor) command) → accepted ≡ is_accepted G (drill_call (Some actor) command)
    → ◌≡◌ {A = Drilled} (record {
      seed = seed;
      history = G';
      accepted = d.accepted + (if accepted then 1 else 0);
      refused = d.refused + (if accepted then 0 else 1);
    }) (stepped_in phase s d)
step-taken phase s d G G' papers seed actor roll operation command accepted moved count rolled left acts made by stepped
    answered =
    let M : History = moved_to phase d.history in
    let R : Roll = roll_of (length (papers_of M)) d.seed in
    let roll_is : roll ≡ R =
    rolled ∙ ap (λ (n : ℕ). roll_of n d.seed) (count ∙ ap (λ (H : History). length (papers_of H)) moved) in
    let operation_is : operation ≡ operation_in phase R.operation =
    acts ∙ ap (λ (r : Roll). operation_in phase r.operation) roll_is in
    let actor_is : actor ≡ actor_of (operation_in phase R.operation) R.user =
    by ∙ (λ i. actor_of (operation_is i) (roll_is i).user) in
    let command_is : command ≡ command_of (operation_in phase R.operation) s R =
    made ∙ (λ i. command_of (operation_is i) s (roll_is i)) in
    let call_is : drill_call (Some actor) command ≡ call_at phase s M d.seed =
    (λ i. drill_call (Some (actor_is i)) (command_is i)) in
    let history_is : G' ≡ step M (call_at phase s M d.seed) = stepped ∙ (λ i. step (moved i) (call_is i)) in
    let accepted_is : accepted ≡ is_accepted M (call_at phase s M d.seed) =
    answered ∙ (λ i. is_accepted (moved i) (call_is i)) in
    (λ i. record {
      seed = left i;
      history = history_is i;
      accepted = d.accepted + (if accepted_is i then 1 else 0);
      refused = d.refused + (if accepted_is i then 0 else 1);
    })
