-- SPDX-License-Identifier: Apache-2.0 OR MIT
-- What is made of what a list of checks lets pass.
use Rattle.std.proofs.Common.{◌≡◌, List, sym, ap, ◌∙◌, Result, Ok, Err}
use Rattle.cr_base.specs.declared.reply.Rule.{Rule}
use Rattle.cr_base.specs.Checks.{Check, judged}
use Rattle.cr_base.proofs.CheckLaws.{judged-Ok, judged-none, judged-Err}

-- a broken rule is told whatever would be drawn
pub refused : {A B : Type 0} (checks : List Check) (x : A) (y : B) (rule : Rule)
    → ◌≡◌ {A = Result A Rule} (Err rule) (judged checks x)
    → ◌≡◌ {A = Result B Rule} (Err rule) (judged checks y)
refused checks x y rule h = sym (judged-Err checks x y rule (sym h))

-- where none is broken, what is made of what was given is drawn
pub passed : {A B : Type 0} (checks : List Check) (made : A → B) (x given : A)
    → ◌≡◌ {A = Result A Rule} (Ok given) (judged checks x)
    → ◌≡◌ {A = Result B Rule} (Ok (made given)) (judged checks (made x))
passed {A} {B} checks made x given h =
    let k = judged-Ok checks x given (sym h) in
    let same : ◌≡◌ {A = Result B Rule} (Ok (made given)) (Ok (made x)) = ap (λ (y : A). Ok (made y)) (sym k.1) in
    same ∙ sym (judged-none checks (made x) k.0)

-- both: what is made of what was given, or the rule
abbrev pub made_of : {A B : Type 0} → (A → B) → Result A Rule → Result B Rule
made_of make (Ok x) = Ok (make x)
made_of make (Err rule) = Err rule

pub judged-made : {A B : Type 0} (checks : List Check) (make : A → B) (x : A) (r : Result A Rule)
    → r ≡ judged checks x → made_of make r ≡ judged checks (make x)
judged-made checks make x (Ok given) h = passed checks make x given h
judged-made checks make x (Err rule) h = refused checks x (make x) rule h
