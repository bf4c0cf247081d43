-- SPDX-License-Identifier: Apache-2.0 OR MIT
-- Two registrations are a legal history, and so they are with a submission and a conflict after them.
use Rattle.std.proofs.Common.{ℕ, true, false, ◌≡◌, ◌<◌, zero, suc, List, [], ◌∷◌, ◌++◌, length, refl, subst, Option}
use Rattle.std.proofs.Common.{Some, None, arith}
use Rattle.std.specs.Prelude.{codes, nat_le}
use Rattle.std.specs.List.{list_all}
use Rattle.std.specs.Str.{is_utf8, IsAscii}
use Rattle.std.proofs.lemmas.Bool.{and_parts}
use Rattle.std.proofs.lemmas.Bool.Decides.{nat_tests}
use Rattle.std.proofs.lemmas.Str.{IsUtf8-from_ascii, is_utf8-from_IsUtf8}
use Rattle.cr_base.specs.declared.command.Call.{Call}
use Rattle.cr_base.specs.declared.command.Command.{Command}
use Rattle.cr_base.specs.declared.command.Command.TheVariants.{Register, SetPhase, Submit, Name, SetMode, SetConflict}
use Rattle.cr_base.specs.declared.entry.Entry.TheVariants.{Registered, Named}
use Rattle.cr_base.specs.declared.reply.Receipt.TheVariants as receipts
use Rattle.cr_base.specs.declared.words.Mode.TheVariants.{Anonymous}
use Rattle.cr_base.specs.declared.words.Phase.TheVariants.{Submission, Bidding}
use Rattle.cr_base.specs.declared.words.Role.TheVariants.{Member}
use Rattle.cr_base.specs.Bounds.{IsBoundedCommand}
use Rattle.cr_base.specs.Bulk.{row_command}
use Rattle.cr_base.specs.Drawn.{Drawn}
use Rattle.cr_base.specs.Calls.{stamp_by, call_of, bulk_by}
use Rattle.cr_base.specs.Drawn.{stamped}
use Rattle.cr_base.specs.History.{History}
use Rattle.cr_policy.specs.Legal.{IsCaller, IsAllowed, step, calls, Legal}
use Rattle.cr_policy.specs.Witness.{morning, two_registrations, made_anonymous, submission_opened, one_submission}
use Rattle.cr_policy.specs.Witness.{four_registrations, two_members, one_conflict, bidding_opened, four_rows}
use Rattle.cr_policy.specs.Witness.{rows_added}
use Rattle.cr_policy.specs.WitnessLaws.{TwoRegistrations, DigestsHidden, OneSubmission, OneConflict, OneBulk}
use Rattle.cr_policy.proofs.LegalLaws.{Legal-step, Legal-bulk_accepted}

abbrev pub register : List ℕ → List ℕ → Call
register name digest = call_of None morning None (Register name digest)

-- a call at that moment without a number is allowed where its caller may give it, and its parts are within their bounds
abbrev given : {H : History} {caller : Option ℕ} {command : Command} → IsCaller H caller command
    → IsBoundedCommand command
    → IsAllowed H (call_of caller morning None command)
given may bounded =
    record { given = record { caller = may; bounded = bounded; moment = omega arith; key = tt }; unused = tt }

two_calls : (alice bob : List ℕ) → length alice ≡ 32 → length bob ≡ 32 → Legal (two_registrations alice bob)
two_calls alice bob ha hb = (
  calls (register (codes "alice") alice) ∷ calls (register (codes "bob") bob) ∷ [],
  (
    given refl (record { some = omega arith; few = omega arith; bytes = refl }, ha),
    (
      given refl (record { some = omega arith; few = omega arith; bytes = refl }, hb),
      refl,
    ),
  ),
)

pub two_registrations-legal : TwoRegistrations
two_registrations-legal alice bob ha hb = record { legal = two_calls alice bob ha hb; first = refl; second = refl }

pub digests-hidden : DigestsHidden
digests-hidden alice bob = (refl, refl)

-- ---- a submission

-- a call that leads to a history makes it legal
called : (H to : History) (call : Call) → Legal H → IsAllowed H call → step H call ≡ to → Legal to
called H to call legal allowed leads = subst (λ (G : History). Legal G) leads (Legal-step H call legal allowed)

-- bytes below 128 are UTF-8
ascii : (bytes : List ℕ) → list_all (λ b. nat_le b 127) bytes ≡ true → IsAscii bytes
ascii [] h i = omega arith
ascii (b ∷ bytes) h zero = let few = (and_parts (nat_le b 127) (list_all (λ b. nat_le b 127) bytes) h).0 in low b few
  where
    low : (b : ℕ) → nat_le b 127 ≡ true → b < 128
    low b h = grind (arith, nat_tests)
ascii (b ∷ bytes) h (suc i) = ascii bytes (and_parts (nat_le b 127) (list_all (λ b. nat_le b 127) bytes) h).1 i

pub ascii-utf8 : (bytes : List ℕ) → list_all (λ b. nat_le b 127) bytes ≡ true → is_utf8 bytes ≡ true
ascii-utf8 bytes h = is_utf8-from_IsUtf8 bytes (IsUtf8-from_ascii bytes (ascii bytes h))

hides : (alice bob : List ℕ) → Legal (two_registrations alice bob) → Legal (made_anonymous alice bob)
hides alice bob legal =
    called (two_registrations alice bob) (made_anonymous alice bob) (call_of (Some 1) morning None (SetMode Anonymous))
    legal
    (given refl tt) refl

opens : (alice bob : List ℕ) → Legal (made_anonymous alice bob) → Legal (submission_opened alice bob)
opens alice bob legal =
    called (made_anonymous alice bob) (submission_opened alice bob)
    (call_of (Some 1) morning None (SetPhase Submission)) legal
    (given refl tt) refl

submits : (alice bob : List ℕ) → Legal (submission_opened alice bob) → Legal (one_submission alice bob)
submits alice bob legal =
    called (submission_opened alice bob) (one_submission alice bob)
    (call_of (Some 2) morning None (Submit (codes "Proofs") (codes "We prove.") [])) legal
    (given refl (
      record { some = omega arith; few = omega arith; bytes = refl; utf8 = ascii-utf8 (codes "Proofs") refl },
      record { few = omega arith; utf8 = ascii-utf8 (codes "We prove.") refl },
      omega arith,
    )) refl

one_submission-follows : (alice bob : List ℕ) → length alice ≡ 32 → length bob ≡ 32 → Legal (one_submission alice bob)
one_submission-follows alice bob ha hb =
    submits alice bob (opens alice bob (hides alice bob (two_calls alice bob ha hb)))

pub one_submission-legal : OneSubmission
one_submission-legal alice bob ha hb = record {
  legal = one_submission-follows alice bob ha hb;
  chair = refl;
  hidden = refl;
  author = refl;
  shown = refl;
}

-- ---- a conflict

module _ (alice bob carol dave : List ℕ) where
  registers : length carol ≡ 32 → length dave ≡ 32 → Legal (one_submission alice bob)
      → Legal (four_registrations alice bob carol dave)
  registers hc hd legal =
      let three : History =
      one_submission alice bob ++ stamped (stamp_by 3 morning None) false (Registered 3 (codes "carol") carol) ∷ [] in
      called three (four_registrations alice bob carol dave) (register (codes "dave") dave)
      (called (one_submission alice bob) three (register (codes "carol") carol) legal
      (given refl (record { some = omega arith; few = omega arith; bytes = refl }, hc)) refl)
      (given refl (record { some = omega arith; few = omega arith; bytes = refl }, hd)) refl

  names : Legal (four_registrations alice bob carol dave) → Legal (two_members alice bob carol dave)
  names legal =
      let one : History =
      four_registrations alice bob carol dave ++ stamped (stamp_by 1 morning None) false (Named 3 Member) ∷ [] in
      called one (two_members alice bob carol dave) (call_of (Some 1) morning None (Name (Some (codes "dave")) Member))
      (called (four_registrations alice bob carol dave) one
      (call_of (Some 1) morning None (Name (Some (codes "carol")) Member)) legal (given refl refl) refl)
      (given refl refl) refl

  declares : Legal (two_members alice bob carol dave) → Legal (one_conflict alice bob carol dave)
  declares legal =
      called (two_members alice bob carol dave) (one_conflict alice bob carol dave)
      (call_of (Some 2) morning None (SetConflict (Some 1) (Some (codes "carol")) true)) legal
      (given refl tt) refl

  bids : Legal (one_conflict alice bob carol dave) → Legal (bidding_opened alice bob carol dave)
  bids legal =
      called (one_conflict alice bob carol dave) (bidding_opened alice bob carol dave)
      (call_of (Some 1) morning None (SetPhase Bidding)) legal
      (given refl tt) refl

pub one_conflict-legal : OneConflict
one_conflict-legal alice bob carol dave ha hb hc hd = record {
  legal =
      bids alice bob carol dave (declares alice bob carol dave
      (names alice bob carol dave (registers alice bob carol dave hc hd (one_submission-follows alice bob ha hb))));
  conflicted = refl;
  titled = refl;
  hidden = refl;
  shown = refl;
  unnamed = refl;
  named = refl;
  declared = refl;
}

-- ---- a bulk

pub one_bulk-legal : OneBulk
unfolding row_command
one_bulk-legal alice bob carol dave ha hb hc hd =
    let before : History = bidding_opened alice bob carol dave in
    let drawn : Drawn = record { group = rows_added; receipt = receipts.Rows 4 } in
    record {
      accepted = refl;
      legal = Legal-bulk_accepted before (bulk_by 1 morning None four_rows) drawn
          (one_conflict-legal alice bob carol dave ha hb hc hd).legal
          (record {
            given = record { caller = refl; bounded = omega arith; moment = omega arith; key = tt };
            unused = tt;
          }) refl;
      refused = refl;
    }
