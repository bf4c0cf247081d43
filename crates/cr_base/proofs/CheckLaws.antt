-- SPDX-License-Identifier: Apache-2.0 OR MIT
-- What a list of checks answers.
use Rattle.std.proofs.Common.{Bool, true, false, cond, ◌≡◌, List, [], ◌∷◌, ◌++◌, append-nil, refl, sym, ap, ◌∙◌, Result}
use Rattle.std.proofs.Common.{Ok, Err}
use Rattle.cr_base.specs.declared.reply.Rule.{Rule}
use Rattle.cr_base.specs.Checks.{Check, ◌breaks◌, judged}

-- none of the checks is broken
abbrev pub NoneBroken : List Check → Type 0
NoneBroken [] = Unit {0}
NoneBroken (check ∷ checks) = (check.broken ≡ false) × NoneBroken checks

-- what is accepted breaks no rule, and is what is drawn
pub judged-Ok : {A : Type 0} (checks : List Check) (drawn given : A) → judged checks drawn ≡ Ok given
    → NoneBroken checks × (drawn ≡ given)
judged-Ok [] drawn given h = let e : drawn ≡ given = cc in (tt, e)
judged-Ok {A} (check ∷ checks) drawn given h = by check.broken refl h (judged-Ok checks drawn given)
  where
    by : (b : Bool) → check.broken ≡ b → cond b (Err check.rule) (judged checks drawn) ≡ Ok given
        → (judged checks drawn ≡ Ok given → NoneBroken checks × (drawn ≡ given))
        → ((check.broken ≡ false) × NoneBroken checks) × (drawn ≡ given)
    by true is e rest = cc
    by false is e rest = let k = rest e in ((is, k.0), k.1)

-- where none is broken, what is drawn is the answer
pub judged-none : {A : Type 0} (checks : List Check) (drawn : A) → NoneBroken checks
    → ◌≡◌ {A = Result A Rule} (judged checks drawn) (Ok drawn)
judged-none [] drawn none = refl
judged-none {A} (check ∷ checks) drawn none = by check.broken none.0 (judged-none checks drawn none.1)
  where
    by : (b : Bool) → b ≡ false → ◌≡◌ {A = Result A Rule} (judged checks drawn) (Ok drawn)
        → ◌≡◌ {A = Result A Rule} (cond b (Err check.rule) (judged checks drawn)) (Ok drawn)
    by true h rest = cc
    by false h rest = rest

-- a broken rule is told whatever stands behind its checks, and whatever would be drawn
pub judged-front : {A B : Type 0} (checks rest : List Check) (x : A) (y : B) (rule : Rule)
    → ◌≡◌ {A = Result A Rule} (judged checks x) (Err rule)
    → ◌≡◌ {A = Result B Rule} (judged (checks ++ rest) y) (Err rule)
judged-front [] rest x y rule h = cc
judged-front {A} {B} (check ∷ checks) rest x y rule h = by check.broken h (judged-front checks rest x y rule)
  where
    by : (b : Bool) → ◌≡◌ {A = Result A Rule} (cond b (Err check.rule) (judged checks x)) (Err rule)
        → (◌≡◌ {A = Result A Rule} (judged checks x) (Err rule) → ◌≡◌ {A = Result B Rule} (judged (checks ++ rest) y)
        (Err rule))
        → ◌≡◌ {A = Result B Rule} (cond b (Err check.rule) (judged (checks ++ rest) y)) (Err rule)
    by true h deeper = let e : check.rule ≡ rule = cc in ap (λ (r : Rule). Err r) e
    by false h deeper = deeper h

pub judged-Err : {A B : Type 0} (checks : List Check) (x : A) (y : B) (rule : Rule)
    → ◌≡◌ {A = Result A Rule} (judged checks x) (Err rule) → ◌≡◌ {A = Result B Rule} (judged checks y) (Err rule)
judged-Err {A} {B} checks x y rule h =
    ap (λ (cs : List Check). judged cs y) (sym (append-nil checks)) ∙ judged-front checks [] x y rule h

-- what stands behind some checks is asked only where none of them is broken: so where that gives the same answer
-- then, all of it does
pub judged-behind : {A : Type 0} (before rest rest' : List Check) (x y : A)
    → (NoneBroken before → ◌≡◌ {A = Result A Rule} (judged rest x) (judged rest' y))
    → ◌≡◌ {A = Result A Rule} (judged (before ++ rest) x) (judged (before ++ rest') y)
judged-behind [] rest rest' x y same = same tt
judged-behind {A} (check ∷ before) rest rest' x y same =
    by check.broken (λ is. judged-behind before rest rest' x y (λ none. same (is, none)))
  where
    by : (b : Bool) → (b ≡ false → ◌≡◌ {A = Result A Rule} (judged (before ++ rest) x) (judged (before ++ rest') y))
        → ◌≡◌ {A = Result A Rule} (cond b (Err check.rule) (judged (before ++ rest) x))
        (cond b (Err check.rule) (judged (before ++ rest') y))
    by true deeper = refl
    by false deeper = deeper refl

-- and so it is with one check that stands alike then
pub asked-behind : {A : Type 0} (before : List Check) (v w : Bool) (rule : Rule) (rest : List Check) (drawn : A)
    → (NoneBroken before → v ≡ w)
    → judged (before ++ (v breaks rule ∷ rest)) drawn ≡ judged (before ++ (w breaks rule ∷ rest)) drawn
asked-behind before v w rule rest drawn same =
    judged-behind before (v breaks rule ∷ rest) (w breaks rule ∷ rest) drawn drawn
    (λ none. ap (λ (b : Bool). judged (b breaks rule ∷ rest) drawn) (same none))
