-- SPDX-License-Identifier: Apache-2.0 OR MIT
-- A legal history that is filled in anew is legal, where there is room for the contents that are filled in.
use Rattle.std.proofs.Common.{ℕ, ◌≡◌, ◌≤◌, ◌+◌, List, [], ◌∷◌, ◌++◌, length, refl, sym, ap}
use Rattle.std.proofs.Common.{subst, ◌∙◌, arith, append_assoc, append-nil, Some, Result, Ok, Err}
use Rattle.cr_base.specs.declared.bulk.Broken.{Broken}
use Rattle.cr_base.specs.declared.command.Call.{Call}
use Rattle.cr_base.specs.declared.reply.Rule.{Rule}
use Rattle.cr_base.specs.Calls.{BulkCall}
use Rattle.cr_base.specs.Drawn.{Drawn}
use Rattle.cr_base.specs.History.{History}
use Rattle.cr_base.specs.HistoryFacts.{own_bytes_of}
use Rattle.cr_base.specs.Judging.{judge_by_role}
use Rattle.cr_base.specs.Sources.{facts_of_tables}
use Rattle.cr_base.specs.Tables.{tables_of}
use Rattle.cr_policy.specs.Judge.{judge, judge_bulk}
use Rattle.cr_policy.specs.Legal.{Move, calls, bulks, IsMoveAllowed, IsAllowed, moved, LeadsTo, Legal, followed_by}
use Rattle.cr_policy.specs.View.{view}
use Rattle.cr_policy.proofs.BulkLaws.{IsReady}
use Rattle.cr_policy.proofs.LegalLaws.{Legal-moved, Legal-accepted, Legal-bulk_accepted, Legal-judge, Legal-told}
use Rattle.cr_policy.proofs.LegalLaws.{legal_invariants, given-bounded}
use Rattle.cr_undeduced.specs.Payload.{Payload, IsBoundedPayload, NoneLonger}
use Rattle.cr_undeduced.specs.Undeducible.{IsWithinQuota}
use Rattle.cr_undeduced.proofs.Fill.{refilled, behind, refilled-append}
use Rattle.cr_undeduced.proofs.RefilledJudged.{HasRoom}
use Rattle.cr_undeduced.proofs.RefilledSteps.{call_filled, call-roomy, allowed-refilled, new_key-refilled}
use Rattle.cr_undeduced.proofs.RefilledSteps.{behind-bounded, is_registered-refilled}
use Rattle.cr_undeduced.proofs.RefilledRoom.{bytes-append, none_longer-before, room, room-shorter}
use Rattle.cr_undeduced.proofs.RefilledBulks.{fill_rows, length-fill_rows, bulk-refilled}

-- ---- what moves lead to begins with what they lead from

followed-grows : {E : Type 0} (H : History) (r : Result Drawn E) → (g : History) × (followed_by H r ≡ H ++ g)
followed-grows H (Ok drawn) = (drawn.group, refl)
followed-grows H (Err refusal) = ([], sym (append-nil H))

moved-grows : (H : History) (move : Move) → (g : History) × (moved H move ≡ H ++ g)
moved-grows H (calls call) = followed-grows H (judge (view call.caller H) call)
moved-grows H (bulks bulk) = followed-grows H (judge_bulk (view (Some bulk.stamp.maker) H) bulk)

pub leads-grow : (from to : History) (moves : List Move) → LeadsTo from moves to → (g : History) × (to ≡ from ++ g)
leads-grow from to [] leads = ([], sym leads ∙ sym (append-nil from))
leads-grow from to (move ∷ moves) leads =
    let first = moved-grows from move in
    let rest = leads-grow (moved from move) to moves leads.1 in
    (first.0 ++ rest.0, rest.1 ∙ ap (λ (H : History). H ++ rest.0) first.1 ∙ append_assoc from first.0 rest.0)

-- ---- legal

-- what makes room for each upload, and is so of each history that stood before
pub record MakesRoom (xs : ℕ → Payload) (Fits : History → Type 0) : Type 0 where
  pub before : (H g : History) → Fits (H ++ g) → Fits H
  pub room : (H : History) (call : Call) (drawn : Drawn) → Legal H → Legal (refilled xs H) → IsAllowed H call
      → Fits (H ++ drawn.group) → judge (view call.caller H) call ≡ Ok drawn
      → HasRoom (facts_of_tables (tables_of (refilled xs H)) call.caller) (behind (length H) xs 0) call.command

module _ (xs : ℕ → Payload) (bounded : (n : ℕ) → IsBoundedPayload (xs n)) (Fits : History → Type 0)
    (roomy : MakesRoom xs Fits) where
  call-legal : (H : History) (call : Call) → Legal H → Legal (refilled xs H) → IsMoveAllowed H (calls call)
      → (r : Result Drawn Rule) → judge (view call.caller H) call ≡ r → Fits (followed_by H r)
      → Legal (refilled xs (followed_by H r))
  call-legal H call legal legal' allowed (Err rule) is fits = legal'
  call-legal H call legal legal' allowed (Ok drawn) is fits =
      let x : Payload = behind (length H) xs 0 in
      let filled = call-roomy xs H (legal_invariants H legal) (legal_invariants (refilled xs H) legal') call drawn
      (roomy.room H call drawn legal legal' allowed fits is) is in
      subst (λ (G : History). Legal G)
      (ap (λ (g : History). refilled xs H ++ g) filled.group ∙ sym (refilled-append xs H drawn.group))
      (Legal-accepted (refilled xs H) (call_filled x call) filled.drawn legal'
      (allowed-refilled xs x H call (behind-bounded (length H) xs bounded 0) allowed) filled.is)

  bulk-legal : (H : History) (bulk : BulkCall) → Legal H → Legal (refilled xs H) → IsMoveAllowed H (bulks bulk)
      → (r : Result Drawn Broken) → judge_bulk (view (Some bulk.stamp.maker) H) bulk ≡ r
      → Legal (refilled xs (followed_by H r))
  bulk-legal H bulk legal legal' allowed (Err refusal) is = legal'
  bulk-legal H bulk legal legal' allowed (Ok drawn) is =
      let ready : IsReady bulk.stamp H = record {
        kept = legal_invariants H legal;
        registered = allowed.given.caller;
        bounds = given-bounded H bulk allowed.given;
      } in
      let ready' : IsReady bulk.stamp (refilled xs H) = record {
        kept = legal_invariants (refilled xs H) legal';
        registered = is_registered-refilled xs H bulk.stamp.maker allowed.given.caller;
        bounds = given-bounded H bulk allowed.given;
      } in
      let filled = bulk-refilled bulk.stamp xs bounded H bulk.rows drawn ready ready' is in
      let again : BulkCall =
      record { stamp = bulk.stamp; rows = fill_rows (behind (length H) xs) bulk.rows } in
      subst (λ (G : History). Legal G)
      (ap (λ (g : History). refilled xs H ++ g) filled.group ∙ sym (refilled-append xs H drawn.group))
      (Legal-bulk_accepted (refilled xs H) again filled.drawn legal' (record {
        given = record {
          caller = is_registered-refilled xs H bulk.stamp.maker allowed.given.caller;
          bounded = subst (λ n. n ≤ 512) (sym (length-fill_rows (behind (length H) xs) bulk.rows))
              allowed.given.bounded;
          moment = allowed.given.moment;
          key = allowed.given.key;
        };
        unused = new_key-refilled xs H (Some bulk.stamp.maker) bulk.stamp.key allowed.unused;
      }) filled.is)

  move-legal : (H : History) (move : Move) → Legal H → Legal (refilled xs H) → IsMoveAllowed H move
      → Fits (moved H move) → Legal (refilled xs (moved H move))
  move-legal H (calls call) legal legal' allowed fits =
      call-legal H call legal legal' allowed (judge (view call.caller H) call) refl fits
  move-legal H (bulks bulk) legal legal' allowed fits =
      bulk-legal H bulk legal legal' allowed (judge_bulk (view (Some bulk.stamp.maker) H) bulk) refl

  pub leads-legal : (from to : History) (moves : List Move) → Legal from → Legal (refilled xs from)
      → LeadsTo from moves to → Fits to → Legal (refilled xs to)
  leads-legal from to [] legal legal' leads fits = subst (λ (H : History). Legal (refilled xs H)) leads legal'
  leads-legal from to (move ∷ moves) legal legal' leads fits =
      let rest = leads-grow (moved from move) to moves leads.1 in
      let fit : Fits (moved from move) = roomy.before (moved from move) rest.0 (subst Fits rest.1 fits) in
      leads-legal (moved from move) to moves (Legal-moved from move legal leads.0)
      (move-legal from move legal legal' leads.0 fit) leads.1 fits

-- ---- where nobody uploads too much by it, and where no content is longer

module _ (xs : ℕ → Payload) where
  abbrev pub FitsQuota : History → Type 0
  FitsQuota H = IsWithinQuota (refilled xs H)

  quota-before : (H g : History) → FitsQuota (H ++ g) → FitsQuota H
  quota-before H g fits v =
      let sum = ap (own_bytes_of (Some v)) (refilled-append xs H g)
      ∙ bytes-append (Some v) (refilled xs H) (refilled (behind (length H) xs) g) in
      below (own_bytes_of (Some v) (refilled xs (H ++ g))) (own_bytes_of (Some v) (refilled xs H)) _ sum (fits v)
    where
      below : (n a b : ℕ) → n ≡ a + b → n ≤ 67108864 → a ≤ 67108864
      below n a b is few = omega arith

  tabled : (H : History) (call : Call) (drawn : Drawn) → Legal H → judge (view call.caller H) call ≡ Ok drawn
      → judge_by_role (tables_of H) call ≡ Ok drawn
  tabled H call drawn legal accepted = sym (Legal-judge H call legal) ∙ accepted

  pub quota-room : MakesRoom xs FitsQuota
  quota-room = record {
    before = quota-before;
    room = λ H call drawn legal legal' allowed fits accepted.
        room xs H call drawn (tables_of H) (tables_of (refilled xs H)) allowed.given.caller
        (sym ((Legal-told (refilled xs H) legal').own_bytes call.caller)) (tabled H call drawn legal accepted) fits;
  }

  pub shorter-room : MakesRoom xs (NoneLonger xs)
  shorter-room = record {
    before = none_longer-before xs;
    room = λ H call drawn legal legal' allowed fits accepted.
        room-shorter xs H call drawn (tables_of H) (tables_of (refilled xs H)) allowed.given.caller
        (sym ((Legal-told H legal).own_bytes call.caller))
        (sym ((Legal-told (refilled xs H) legal').own_bytes call.caller)) (tabled H call drawn legal accepted) fits;
  }

  pub refilled-legal : (H : History) → Legal H → ((n : ℕ) → IsBoundedPayload (xs n)) → IsWithinQuota (refilled xs H)
      → Legal (refilled xs H)
  refilled-legal H legal bounded quota =
      leads-legal xs bounded FitsQuota quota-room [] H legal.0 ([], refl) ([], refl) legal.1 quota

  pub shorter-legal : (H : History) → Legal H → ((n : ℕ) → IsBoundedPayload (xs n)) → NoneLonger xs H
      → Legal (refilled xs H)
  shorter-legal H legal bounded shorter =
      leads-legal xs bounded (NoneLonger xs) shorter-room [] H legal.0 ([], refl) ([], refl) legal.1 shorter
