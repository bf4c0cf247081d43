-- SPDX-License-Identifier: Apache-2.0 OR MIT
-- So moves lead to legal histories with such entries besides, and without them.
use Rattle.std.proofs.Common.{ℕ, Bool, true, false, cond, ◌≡◌, List, [], ◌∷◌, ◌++◌, refl, sym, ap, subst, ◌∙◌}
use Rattle.std.proofs.Common.{append_assoc, append-nil, Option, Some, None, Result, Ok, Err, ◌&&◌}
use Rattle.std.specs.Prelude.{◌==◌}
use Rattle.std.specs.List.{list_any, AllByRecursion}
use Rattle.cr_base.specs.declared.retry.RetryKey.{RetryKey}
use Rattle.cr_base.specs.Drawn.{Drawn}
use Rattle.cr_base.specs.History.{History, Registration}
use Rattle.cr_base.specs.Keys.{kept_under, has_number}
use Rattle.cr_base.specs.Logins.{command_wants_login}
use Rattle.cr_history.specs.Invariants.{IsRegistered}
use Rattle.cr_policy.specs.Judge.{judge, judge_bulk}
use Rattle.cr_policy.specs.Legal.{CallsAs, IsNewKey, Move, calls, bulks, IsMoveAllowed, moved, LeadsTo, Legal}
use Rattle.cr_policy.specs.Legal.{followed_by}
use Rattle.cr_policy.specs.View.{view}
use Rattle.cr_policy.proofs.LegalLaws.{Legal-moved, legal_invariants, given-bounded}
use Rattle.cr_policy.proofs.NumberLaws.{under-append}
use Rattle.cr_undeduced.specs.MayHaveBeen.{IsBeside, Inserted, LeftOut}
use Rattle.cr_undeduced.proofs.BesidesFacts.{registered-also}
use Rattle.cr_undeduced.proofs.BesidesJudged.{judge-same}
use Rattle.cr_undeduced.proofs.BesidesBulks.{TellAlike, alike-behind, alike-beside, alike-turned, bulk-also}

-- ---- keys

-- what was a new number there is one here
abbrev KeysAlike : History → History → Type 0
KeysAlike A B = (user number : ℕ) → kept_under user number A ≡ [] → kept_under user number B ≡ []

nothing_left : (xs ys : History) → xs ++ ys ≡ [] → (xs ≡ []) × (ys ≡ [])
nothing_left [] ys h = (refl, h)
nothing_left (x ∷ xs) ys h = cc

keys-behind : (A B g : History) → KeysAlike A B → KeysAlike (A ++ g) (B ++ g)
keys-behind A B g alike user number none =
    let parts = nothing_left (kept_under user number A) (kept_under user number g)
    (sym (under-append user number A g) ∙ none) in
    under-append user number B g
    ∙ (λ i. alike user number parts.0 i ++ parts.1 i)

unnumbered-none : (user number : ℕ) (g : History) → AllByRecursion IsBeside g → kept_under user number g ≡ []
unnumbered-none user number [] all = refl
unnumbered-none user number (e ∷ g) all =
    ap (λ (key : Option RetryKey). cond (e.stamp.maker == user && has_number number key)
    (e ∷ kept_under user number g) (kept_under user number g)) all.0.unnumbered
    ∙ by (e.stamp.maker == user) ∙ unnumbered-none user number g all.1
  where
    by : (b : Bool) → cond (b && false) (e ∷ kept_under user number g) (kept_under user number g)
        ≡ kept_under user number g
    by true = refl
    by false = refl

keys-beside : (before besides : History) → AllByRecursion IsBeside besides → KeysAlike before (before ++ besides)
keys-beside before besides all user number none =
    under-append user number before besides
    ∙ (λ i. none i ++ unnumbered-none user number besides all i)

keys-without : (before besides : History) → KeysAlike (before ++ besides) before
keys-without before besides user number none =
    (nothing_left (kept_under user number before) (kept_under user number besides)
    (sym (under-append user number before besides) ∙ none)).0

-- ---- moves

module _ (A B : History) (alike : TellAlike A B) (keys : KeysAlike A B) (legal : Legal A) (legal' : Legal B) where
  is_registered-also : (user : ℕ) → IsRegistered A user → IsRegistered B user
  is_registered-also user is =
      ap (list_any (λ (r : Registration). r.user == user))
      (sym (registered-also A B alike.told)) ∙ is

  caller-also : (login : Bool) (caller : Option ℕ) → CallsAs A login caller → CallsAs B login caller
  caller-also false caller is = is
  caller-also true None is = is
  caller-also true (Some user) is = is_registered-also user is

  key-also : (caller : Option ℕ) (key : Option RetryKey) → IsNewKey A caller key → IsNewKey B caller key
  key-also caller None is = tt
  key-also None (Some key) is = absurd is
  key-also (Some user) (Some key) is = keys user key.number is

  allowed-also : (move : Move) → IsMoveAllowed A move → IsMoveAllowed B move
  allowed-also (calls call) allowed = record {
    given = record {
      caller = caller-also (command_wants_login call.command) call.caller allowed.given.caller;
      bounded = allowed.given.bounded;
      moment = allowed.given.moment;
      key = allowed.given.key;
    };
    unused = key-also call.caller call.key allowed.unused;
  }
  allowed-also (bulks bulk) allowed = record {
    given = record {
      caller = is_registered-also bulk.stamp.maker allowed.given.caller;
      bounded = allowed.given.bounded;
      moment = allowed.given.moment;
      key = allowed.given.key;
    };
    unused = key-also (Some bulk.stamp.maker) bulk.stamp.key allowed.unused;
  }

  followed : {E : Type 0} (r r' : Result Drawn E) → r ≡ r' → (g : History) × (followed_by A r ≡ A ++ g)
      × (followed_by B r' ≡ B ++ g)
  followed r r' same = by r' same
    where
      by : (s : Result Drawn _) → r ≡ s → (g : History) × (followed_by A r ≡ A ++ g) × (followed_by B s ≡ B ++ g)
      by (Ok drawn) is = (drawn.group, ap (followed_by A) is, refl)
      by (Err refusal) is = ([], ap (followed_by A) is ∙ sym (append-nil A), sym (append-nil B))

  -- it adds the same to both
  moved-also : (move : Move) → IsMoveAllowed A move → (g : History) × (moved A move ≡ A ++ g) × (moved B move ≡ B ++ g)
  moved-also (calls call) allowed =
      followed (judge (view call.caller A) call) (judge (view call.caller B) call)
      (judge-same A B (legal_invariants A legal) (legal_invariants B legal') alike.told alike.ties call)
  moved-also (bulks bulk) allowed =
      followed (judge_bulk (view (Some bulk.stamp.maker) A) bulk) (judge_bulk (view (Some bulk.stamp.maker) B) bulk)
      (bulk-also bulk.stamp bulk.rows A B alike (record {
        kept = legal_invariants A legal;
        registered = allowed.given.caller;
        bounds = given-bounded A bulk allowed.given;
      }) (record {
        kept = legal_invariants B legal';
        registered = is_registered-also bulk.stamp.maker allowed.given.caller;
        bounds = given-bounded A bulk allowed.given;
      }))

leads-also : (moves : List Move) (A B to : History) → TellAlike A B → KeysAlike A B → Legal A → Legal B
    → LeadsTo A moves to → (g : History) × (to ≡ A ++ g) × Legal (B ++ g)
leads-also [] A B to alike keys legal legal' leads =
    ([], sym leads ∙ sym (append-nil A), subst (λ (H : History). Legal H) (sym (append-nil B)) legal')
leads-also (move ∷ moves) A B to alike keys legal legal' leads =
    let one = moved-also A B alike keys legal legal' move leads.0 in
    let g = one.0 in
    let rest = leads-also moves (A ++ g) (B ++ g) to (alike-behind A B g alike) (keys-behind A B g keys)
    (subst (λ (H : History). Legal H) one.1 (Legal-moved A move legal leads.0))
    (subst (λ (H : History). Legal H) one.2
    (Legal-moved B move legal' (allowed-also A B alike keys legal legal' move leads.0)))
    (subst (λ (H : History). LeadsTo H moves to) one.1 leads.1) in (
      g ++ rest.0,
      rest.1 ∙ append_assoc A g rest.0,
      subst (λ (H : History). Legal H) (append_assoc B g rest.0) rest.2,
    )

same_rest : (A g h : History) → A ++ g ≡ A ++ h → g ≡ h
same_rest [] g h is = is
same_rest (e ∷ A) g h is = let tails : A ++ g ≡ A ++ h = cc in same_rest A g h tails

pub inserted : Inserted
inserted before besides after moves legal leads all legal' =
    let k = leads-also moves before (before ++ besides) (before ++ after) (alike-beside before besides all)
    (keys-beside before besides all) legal legal' leads in
    subst (λ (g : History). Legal ((before ++ besides) ++ g)) (sym (same_rest before after k.0 k.1)) k.2

pub left_out : LeftOut
left_out before besides after moves legal leads all legal' =
    let k = leads-also moves (before ++ besides) before ((before ++ besides) ++ after)
    (alike-turned before (before ++ besides) (alike-beside before besides all))
    (keys-without before besides) legal' legal leads in
    subst (λ (g : History). Legal (before ++ g)) (sym (same_rest (before ++ besides) after k.0 k.1)) k.2
