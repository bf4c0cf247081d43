-- SPDX-License-Identifier: Apache-2.0 OR MIT
-- The laws of the witness: its histories are legal, its readers see what is written of them, and of two bulks one is
-- accepted and one refused.
use Rattle.std.specs.Prelude.{ℕ, ◌≡◌, List, [], ◌∷◌, length, Some, None, Ok, Err, IsTrue, codes}
use Rattle.cr_base.specs.declared.bulk.Broken.TheVariants as broken
use Rattle.cr_base.specs.declared.reply.Receipt.TheVariants as receipts
use Rattle.cr_base.specs.declared.reply.Rule.TheVariants as rules
use Rattle.cr_base.specs.declared.words.Role.TheVariants.{Chair}
use Rattle.cr_base.specs.Calls.{bulk_by}
use Rattle.cr_base.specs.History.{History}
use Rattle.cr_base.specs.HistoryFacts.{role_of, is_author, is_conflicted}
use Rattle.cr_history.specs.Invariants.{IsRegistered}
use Rattle.cr_policy.specs.View.{view}
use Rattle.cr_policy.specs.ViewFacts.{declared_in_view, authors_in_view, title_in_view, abstract_in_view}
use Rattle.cr_policy.specs.Judge.{judge_bulk}
use Rattle.cr_policy.specs.Legal.{Legal}
use Rattle.cr_policy.specs.Witness.{two_registrations, seen_by_nobody, seen_by_alice, one_submission}
use Rattle.cr_policy.specs.Witness.{submission_seen_by_alice, submission_seen_by_bob, bidding_opened}
use Rattle.cr_policy.specs.Witness.{morning, four_rows, rows_added, twice_assigned, bulk_given}

-- a history of two users is legal
pub record IsLegalWitness (H : History) : Type 0 where
  pub legal : Legal H
  pub first : IsRegistered H 1
  pub second : IsRegistered H 2

-- alice's and bob's registrations are one, whatever their digests are
abbrev pub TwoRegistrations : Type 0
TwoRegistrations =
    (alice bob : List ℕ) → length alice ≡ 32 → length bob ≡ 32 → IsLegalWitness (two_registrations alice bob)

-- an unauthenticated caller sees no digest in the two registrations, and alice none but her own
abbrev pub DigestsHidden : Type 0
DigestsHidden =
    (alice bob : List ℕ) → (view None (two_registrations alice bob) ≡ seen_by_nobody)
    × (view (Some 1) (two_registrations alice bob) ≡ seen_by_alice alice)

-- with a submission after the registrations the history is legal. Of the paper alice, a chair, sees only its number,
-- and bob, its author, the whole.
pub record IsSubmissionWitness (alice bob : List ℕ) : Type 0 where
  pub legal : Legal (one_submission alice bob)
  pub chair : role_of (Some 1) (one_submission alice bob) ≡ Chair
  pub hidden : view (Some 1) (one_submission alice bob) ≡ submission_seen_by_alice alice
  pub author : IsTrue (is_author (Some 2) 1 (one_submission alice bob))
  pub shown : view (Some 2) (one_submission alice bob) ≡ submission_seen_by_bob bob

-- whatever the digests are
abbrev pub OneSubmission : Type 0
OneSubmission = (alice bob : List ℕ) → length alice ≡ 32 → length bob ≡ 32 → IsSubmissionWitness alice bob

-- with two members and a conflict after it, and the bidding opened, the history is legal. carol, the member whom the
-- author declared, sees no abstract of the paper; dave, the other member, sees it, and in the anonymous mode not who
-- wrote the paper; alice, a chair, sees who did; and bob, its author, sees whom he declared.
pub record IsConflictWitness (H : History) : Type 0 where
  pub legal : Legal H
  pub conflicted : IsTrue (is_conflicted (Some 3) 1 H)
  pub titled : title_in_view 1 (view (Some 3) H) ≡ Some (codes "Proofs")
  pub hidden : abstract_in_view 1 (view (Some 3) H) ≡ None
  pub shown : abstract_in_view 1 (view (Some 4) H) ≡ Some (codes "We prove.")
  pub unnamed : authors_in_view 1 (view (Some 4) H) ≡ []
  pub named : authors_in_view 1 (view (Some 1) H) ≡ 2 ∷ []
  pub declared : declared_in_view (Some 2) 1 (view (Some 2) H) ≡ 3 ∷ []

-- whatever the digests are
abbrev pub OneConflict : Type 0
OneConflict =
    (alice bob carol dave : List ℕ) → length alice ≡ 32 → length bob ≡ 32 → length carol ≡ 32 → length dave ≡ 32
    → IsConflictWitness (bidding_opened alice bob carol dave)

-- with a bulk of the chair's after that the history is legal; another bulk is refused for its third row, which breaks a
-- rule only after the second
pub record IsBulkWitness (before after : History) : Type 0 where
  pub accepted : judge_bulk (view (Some 1) before) (bulk_by 1 morning None four_rows)
      ≡ Ok (record { group = rows_added; receipt = receipts.Rows 4 })
  pub legal : Legal after
  pub refused : judge_bulk (view (Some 1) before) (bulk_by 1 morning None twice_assigned)
      ≡ Err (broken.Row 3 rules.AlreadyAssigned)

-- whatever the digests are
abbrev pub OneBulk : Type 0
OneBulk =
    (alice bob carol dave : List ℕ) → length alice ≡ 32 → length bob ≡ 32 → length carol ≡ 32 → length dave ≡ 32
    → IsBulkWitness (bidding_opened alice bob carol dave) (bulk_given alice bob carol dave)
