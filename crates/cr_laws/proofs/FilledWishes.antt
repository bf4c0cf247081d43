-- SPDX-License-Identifier: Apache-2.0 OR MIT
-- A wish that was accepted is accepted, filled in, on the history that is filled in: who gives it is the same, and it
-- adds what it added, filled in.
use Rattle.std.proofs.Common.{ℕ, Bool, ◌≡◌, suc, List, [], ◌∷◌, ◌++◌, length, refl, sym, ap, subst, ◌∙◌}
use Rattle.std.proofs.Common.{cond, Option, Some, None, Ok, ◌≤◌}
use Rattle.std.proofs.lemmas.Bool.{true≢false}
use Rattle.cr_base.specs.declared.bulk.BulkRow.{BulkRow}
use Rattle.cr_base.specs.declared.command.Call.{Call}
use Rattle.cr_base.specs.declared.command.Command.{Command}
use Rattle.cr_base.specs.declared.entry.Entry.{Entry}
use Rattle.cr_base.specs.declared.entry.Entry.TheVariants as entries
use Rattle.cr_base.specs.declared.retry.RetryKey.{RetryKey}
use Rattle.cr_base.specs.Calls.{BulkCall, call_of, bulk_by, maker_of}
use Rattle.cr_base.specs.Drawn.{Drawn}
use Rattle.cr_base.specs.History.{History, all_told, caller_told}
use Rattle.cr_base.specs.Lists.{last}
use Rattle.cr_base.specs.Retries.{Judged}
use Rattle.cr_policy.specs.Judge.{judge, decide, judge_bulk, decide_bulk}
use Rattle.cr_policy.specs.Legal.{IsAllowed}
use Rattle.cr_policy.specs.Legal.{IsBulkAllowed, Legal}
use Rattle.cr_policy.specs.View.{view}
use Rattle.cr_policy.proofs.BulkLaws.{IsReady}
use Rattle.cr_policy.proofs.LegalLaws.{legal_invariants, given-bounded}
use Rattle.cr_undeduced.specs.Payload.{Payload, IsBoundedPayload}
use Rattle.cr_undeduced.proofs.Fill.{fill, refilled, behind}
use Rattle.cr_undeduced.proofs.RefilledBulks.{fill_rows, length-fill_rows, BulkFilled, bulk-refilled}
use Rattle.cr_undeduced.proofs.RefilledJudged.{fill_command, Filled}
use Rattle.cr_undeduced.proofs.RefilledLegal.{MakesRoom}
use Rattle.cr_undeduced.proofs.RefilledSteps.{call_filled, call-roomy, same_login, allowed-refilled, new_key-refilled}
use Rattle.cr_undeduced.proofs.RefilledSteps.{behind-bounded, is_registered-refilled}
use Rattle.cr_bodies.specs.declared.credentials.Credentials.{Credentials}
use Rattle.cr_wire.specs.declared.what.What.{What}
use Rattle.cr_wire.specs.declared.what.What.TheVariants as whats
use Rattle.cr_wire.specs.declared.what.Wish.{Wish}
use Rattle.cr_wire.specs.Bounds.{IsBoundedWhat, IsKeyFor}
use Rattle.cr_wire.specs.Caller.{caller, wants_login, user_told}
use Rattle.cr_session.specs.Told.{drawn}
use Rattle.cr_session.specs.Turning.{IsBoundedWish}
use Rattle.cr_session.proofs.Accepting.{Accepts, by_command, by_bulk}
use Rattle.cr_session.proofs.TurnLaws.{MayWish}
use Rattle.cr_laws.specs.UndeducibleBytes.{KeepsDigest}
use Rattle.cr_laws.proofs.AcceptedWishes.{bounds-of, command-accepted, bulk-accepted, command-draws, bulk-draws_it}

-- ---- who calls

-- no digest is filled in
abbrev pub KeepDigests : (ℕ → Payload) → History → Type 0
KeepDigests xs [] = Unit {0}
KeepDigests xs (e ∷ H) = KeepsDigest (xs 0) e.entry × KeepDigests (λ n. xs (suc n)) H

caller_told-kept : (name digest : List ℕ) (x : Payload) (e : Entry) → KeepsDigest x e
    → caller_told name digest (fill x e) ≡ caller_told name digest e
caller_told-kept name digest x (entries.Registered user own kept) keeps =
    ap (λ (d : List ℕ). caller_told name digest (entries.Registered user own d)) keeps
caller_told-kept name digest x e keeps = refl

callers-kept : (name digest : List ℕ) (xs : ℕ → Payload) (H : History) → KeepDigests xs H
    → all_told (caller_told name digest) (refilled xs H) ≡ all_told (caller_told name digest) H
callers-kept name digest xs [] keeps = refl
callers-kept name digest xs (e ∷ H) keeps =
    λ i. caller_told-kept name digest (xs 0) e.entry keeps.0 i
    ++ callers-kept name digest (λ n. xs (suc n)) H keeps.1 i

user_told-kept : (told : Option Credentials) (xs : ℕ → Payload) (H : History) → KeepDigests xs H
    → user_told told (refilled xs H) ≡ user_told told H
user_told-kept None xs H keeps = refl
user_told-kept (Some c) xs H keeps = ap (λ (users : List ℕ). last users) (callers-kept c.name c.digest xs H keeps)

-- who wishes something that reads the credentials as that does
pub caller-kept : (xs : ℕ → Payload) (H : History) (w : Wish) (what : What) → KeepDigests xs H
    → wants_login what ≡ wants_login w.what
    → caller (refilled xs H) (record w { what = what }) ≡ caller H w
caller-kept xs H w what keeps same =
    λ i. cond (same i) (user_told-kept w.credentials xs H keeps i) None

-- ---- what is wished

abbrev pub filled_what : (ℕ → Payload) → What → What
filled_what ys (whats.Command key command) = whats.Command key (fill_command (ys 0) command)
filled_what ys (whats.Bulk key rows) = whats.Bulk key (fill_rows ys rows)
filled_what ys what = what

abbrev pub filled_wish : (ℕ → Payload) → Wish → Wish
filled_wish ys w = record w { what = filled_what ys w.what }

reads-filled : (ys : ℕ → Payload) (what : What) → wants_login (filled_what ys what) ≡ wants_login what
reads-filled ys (whats.Command key command) = same_login (ys 0) command
reads-filled ys what = refl

-- ---- one wish that was accepted

module _ (xs : ℕ → Payload) (bounded : (n : ℕ) → IsBoundedPayload (xs n)) (Fits : History → Type 0)
    (roomy : MakesRoom xs Fits) (H : History) (legal : Legal H) (legal' : Legal (refilled xs H))
    (keeps : KeepDigests xs H) (w : Wish) (bounds : IsBoundedWish w) (d : Drawn) (fits : Fits (H ++ d.group)) where
  abbrev H' : History
  H' = refilled xs H

  abbrev ys : ℕ → Payload
  ys = behind (length H) xs

  abbrev w' : Wish
  w' = filled_wish ys w

  -- it is accepted, filled in
  pub record IsAcceptedFilled : Type 0 where
    pub caller_is : caller H' w' ≡ caller H w
    pub within : IsBoundedWish w'
    pub again : Drawn
    pub draws : drawn H' w' ≡ Some again
    pub group : again.group ≡ refilled ys d.group

  caller_is : caller H' w' ≡ caller H w
  caller_is = caller-kept xs H w (filled_what ys w.what) keeps (reads-filled ys w.what)

  -- it is this, filled in
  filled-is : (what : What) → w.what ≡ what → w'.what ≡ filled_what ys what
  filled-is what is = ap (filled_what ys) is

  bounds-filled : (what : What) → w.what ≡ what → IsBoundedWhat (filled_what ys what) → IsBoundedWish w'
  bounds-filled what is within = record {
    what = subst (λ (x : What). IsBoundedWhat x) (sym (filled-is what is)) within;
    moment = bounds.moment;
  }

  command-filled : (key : Option RetryKey) (command : Command)
      → MayWish H w (caller H w) (whats.Command key command)
      → decide (view (caller H w) H) (call_of (caller H w) w.at key command) ≡ Judged (Ok d) → IsAcceptedFilled
  command-filled key command may decided =
      record {
        caller_is = caller_is;
        within = bounds-filled (whats.Command key command) may.is (
          allowed'.given.bounded,
          subst (λ (login : Bool). IsKeyFor login key) (sym (same_login (ys 0) command))
              (bounds-of H w d bounds (whats.Command key command) may.is).1,
        );
        again = filled.drawn;
        draws = command-draws H' w' filled.drawn (caller H w) key (fill_command (ys 0) command)
            (filled-is (whats.Command key command) may.is) (sym caller_is) allowed' filled.is;
        group = filled.group;
      }
    where
      call : Call
      call = call_of (caller H w) w.at key command

      accepted : IsAllowed H call × (judge (view (caller H w) H) call ≡ Ok d)
      accepted = command-accepted H w d bounds (caller H w) key command may decided

      allowed' : IsAllowed H' (call_filled (ys 0) call)
      allowed' = allowed-refilled xs (ys 0) H call (behind-bounded (length H) xs bounded 0) accepted.0

      filled : Filled (judge (view (caller H w) H') (call_filled (ys 0) call)) ys d
      filled = call-roomy xs H (legal_invariants H legal) (legal_invariants H' legal') call d
          (roomy.room H call d legal legal' accepted.0 fits accepted.1) accepted.1

  bulk-filled : (user : ℕ) (key : Option RetryKey) (rows : List BulkRow) → caller H w ≡ Some user
      → MayWish H w (Some user) (whats.Bulk key rows)
      → decide_bulk (view (Some user) H) (bulk_by user w.at key rows) ≡ Judged (Ok d) → IsAcceptedFilled
  bulk-filled user key rows is may decided =
      record {
        caller_is = caller_is;
        within = bounds-filled (whats.Bulk key rows) may.is (
          subst (λ n. n ≤ 512) (sym (length-fill_rows ys rows)) accepted.0.given.bounded,
          accepted.0.given.key,
        );
        again = filled.drawn;
        draws = bulk-draws_it H' w' filled.drawn user key (fill_rows ys rows)
            (filled-is (whats.Bulk key rows) may.is) (sym (caller_is ∙ is))
            (new_key-refilled xs H (Some user) key accepted.0.unused) filled.is;
        group = filled.group;
      }
    where
      bulk : BulkCall
      bulk = bulk_by user w.at key rows

      accepted : IsBulkAllowed H bulk × (judge_bulk (view (Some user) H) bulk ≡ Ok d)
      accepted = bulk-accepted H w d bounds user key rows may decided

      ready : IsReady bulk.stamp H
      ready = record {
        kept = legal_invariants H legal;
        registered = accepted.0.given.caller;
        bounds = given-bounded H bulk accepted.0.given;
      }

      ready' : IsReady bulk.stamp H'
      ready' = record {
        kept = legal_invariants H' legal';
        registered = is_registered-refilled xs H user accepted.0.given.caller;
        bounds = given-bounded H bulk accepted.0.given;
      }

      filled : BulkFilled bulk.stamp (judge_bulk (view (Some user) H') (bulk_by user w.at key (fill_rows ys rows))) ys d
      filled = bulk-refilled bulk.stamp xs bounded H rows d ready ready' accepted.1

  -- whoever gives it
  pub accepted-filled : Accepts H w (caller H w) d → IsAcceptedFilled
  accepted-filled (by_command key command may decided) = command-filled key command may decided
  accepted-filled (by_bulk key rows may decided) = by (caller H w) refl may decided
    where
      by : (u : Option ℕ) → caller H w ≡ u → MayWish H w u (whats.Bulk key rows)
          → decide_bulk (view u H) (bulk_by (maker_of u) w.at key rows) ≡ Judged (Ok d) → IsAcceptedFilled
      by None is may decided = absurd (true≢false may.may)
      by (Some user) is may decided = bulk-filled user key rows is may decided
