-- SPDX-License-Identifier: Apache-2.0 OR MIT
-- Two registrations, a submission, a declared conflict and a bulk after them, so that no law on legal histories is
-- empty; and what is seen of them.
use Rattle.std.specs.Prelude.{ℕ, Bool, true, false, List, [], ◌∷◌, ◌++◌, Option, Some, None, codes, if◌then◌else◌}
use Rattle.cr_base.specs.declared.bulk.BulkRow.{BulkRow}
use Rattle.cr_base.specs.declared.entry.Entry.TheVariants.{Registered, Named, PhaseSet, ModeSet, Submitted}
use Rattle.cr_base.specs.declared.entry.Entry.TheVariants.{Conflict, Assigned, Unassigned, Tagged}
use Rattle.cr_base.specs.declared.entry.EntryKind.TheVariants as kinds
use Rattle.cr_base.specs.declared.retry.RetryKey.{RetryKey}
use Rattle.cr_base.specs.declared.words.Kind.TheVariants.{Primary, Pc}
use Rattle.cr_base.specs.declared.words.Mode.TheVariants.{Anonymous}
use Rattle.cr_base.specs.declared.words.Phase.TheVariants.{Submission, Bidding}
use Rattle.cr_base.specs.declared.words.Role.TheVariants.{Member, Chair}
use Rattle.cr_base.specs.Calls.{stamp_by}
use Rattle.cr_base.specs.Drawn.{stamped}
use Rattle.cr_base.specs.History.{History}
use Rattle.cr_policy.specs.Sighting.{Sighting, blank}
use Rattle.cr_policy.specs.View.{View}

-- ---- two registrations

-- the moment of every request here: 2026-03-02T09:00:00Z
abbrev pub morning : ℕ
morning = 1772442000

-- which is shown where the entry is the reader's own
abbrev pub morning_of_own : Bool → Option ℕ
morning_of_own mine = if mine then Some morning else None

-- no command here has a number, and that is shown there too
abbrev pub no_key_of_own : Bool → Option (Option RetryKey)
no_key_of_own mine = if mine then Some None else None

-- one that a command of the small conference has (Conference)
abbrev pub some_key : RetryKey
some_key = record { number = 7; mark = codes "thirty-two bytes of bob's digest" }

-- alice registers, and is a chair for that, and then bob registers; these are the digests of their secrets
abbrev pub two_registrations : List ℕ → List ℕ → History
two_registrations alice bob =
    stamped (stamp_by 1 morning None) true (Registered 1 (codes "alice") alice)
    ∷ stamped (stamp_by 1 morning None) false (Named 1 Chair)
    ∷ stamped (stamp_by 2 morning None) false (Registered 2 (codes "bob") bob)
    ∷ []

-- what a registration shows; the digest, if there is one here, and the mark of the reader's own
abbrev pub account_shown : ℕ → List ℕ → Option (List ℕ) → Bool → Sighting
account_shown user name digest mine =
    record (blank kinds.Registered) {
      mine = mine;
      user = Some user;
      name = Some name;
      digest = digest;
      at = morning_of_own mine;
      key = no_key_of_own mine;
    }

-- that a user becomes a chair, with the mark of the reader's own
abbrev pub named_chair : ℕ → Bool → Sighting
named_chair user mine =
    record (blank kinds.Named) {
      mine = mine;
      user = Some user;
      role = Some Chair;
      at = morning_of_own mine;
      key = no_key_of_own mine;
    }

-- what an unauthenticated caller sees of the two registrations: no digest
abbrev pub seen_by_nobody : View
seen_by_nobody =
    account_shown 1 (codes "alice") None false ∷ named_chair 1 false ∷ account_shown 2 (codes "bob") None false ∷ []

-- what alice sees of the two registrations: her own digest, and not bob's
abbrev pub seen_by_alice : List ℕ → View
seen_by_alice digest =
    account_shown 1 (codes "alice") (Some digest) true ∷ named_chair 1 true
    ∷ account_shown 2 (codes "bob") None false ∷ []

-- ---- a submission

-- then alice sets the mode
abbrev pub made_anonymous : List ℕ → List ℕ → History
made_anonymous alice bob =
    two_registrations alice bob ++ stamped (stamp_by 1 morning None) false (ModeSet Anonymous) ∷ []

-- then alice opens the submission
abbrev pub submission_opened : List ℕ → List ℕ → History
submission_opened alice bob =
    made_anonymous alice bob ++ stamped (stamp_by 1 morning None) false (PhaseSet Submission) ∷ []

-- then bob submits a paper
abbrev pub one_submission : List ℕ → List ℕ → History
one_submission alice bob =
    submission_opened alice bob
    ++ stamped (stamp_by 2 morning None) false (Submitted 1 (codes "Proofs") (codes "We prove.")) ∷ []

-- the mode that alice set, as she sees it
abbrev pub mode_shown : Sighting
mode_shown =
    record (blank kinds.ModeSet) { mine = true; mode = Some Anonymous; at = Some morning; key = Some None }

-- the phase that alice set, as she sees it
abbrev pub submission_set : Sighting
submission_set =
    record (blank kinds.PhaseSet) { mine = true; phase = Some Submission; at = Some morning; key = Some None }

-- a submission of which its kind and its paper are shown, and nothing else
abbrev pub paper_seen_alone : Sighting
paper_seen_alone = record (blank kinds.Submitted) { paper = Some 1 }

-- the submission as bob sees it, who is the paper's author
abbrev pub paper_seen_by_author : Sighting
paper_seen_by_author =
    record (blank kinds.Submitted) {
      mine = true;
      paper = Some 1;
      by = Some 2;
      title = Some (codes "Proofs");
      abstract = Some (codes "We prove.");
      at = Some morning;
      key = Some None;
    }

-- what alice sees, a chair, before the bidding
abbrev pub submission_seen_by_alice : List ℕ → View
submission_seen_by_alice digest = seen_by_alice digest ++ mode_shown ∷ submission_set ∷ paper_seen_alone ∷ []

-- what bob sees
abbrev pub submission_seen_by_bob : List ℕ → View
submission_seen_by_bob digest =
    account_shown 1 (codes "alice") None false
    ∷ named_chair 1 false
    ∷ account_shown 2 (codes "bob") (Some digest) true
    ∷ record mode_shown { mine = false; at = None; key = None }
    ∷ record submission_set { mine = false; at = None; key = None }
    ∷ paper_seen_by_author
    ∷ []

-- ---- a conflict

-- then carol registers, user 3, and dave, user 4
abbrev pub four_registrations : List ℕ → List ℕ → List ℕ → List ℕ → History
four_registrations alice bob carol dave =
    one_submission alice bob
    ++ stamped (stamp_by 3 morning None) false (Registered 3 (codes "carol") carol)
    ∷ stamped (stamp_by 4 morning None) false (Registered 4 (codes "dave") dave)
    ∷ []

-- alice names both members
abbrev pub two_members : List ℕ → List ℕ → List ℕ → List ℕ → History
two_members alice bob carol dave =
    four_registrations alice bob carol dave
    ++ stamped (stamp_by 1 morning None) false (Named 3 Member)
    ∷ stamped (stamp_by 1 morning None) false (Named 4 Member)
    ∷ []

-- bob, the author, declares carol in conflict with his paper
abbrev pub one_conflict : List ℕ → List ℕ → List ℕ → List ℕ → History
one_conflict alice bob carol dave =
    two_members alice bob carol dave ++ stamped (stamp_by 2 morning None) false (Conflict 1 3 true) ∷ []

-- then alice opens the bidding
abbrev pub bidding_opened : List ℕ → List ℕ → List ℕ → List ℕ → History
bidding_opened alice bob carol dave =
    one_conflict alice bob carol dave ++ stamped (stamp_by 1 morning None) false (PhaseSet Bidding) ∷ []

-- ---- a bulk

-- of this paper alice assigns dave, takes him off and assigns him anew, and tags it, in one bulk
abbrev pub row_about : List ℕ → List ℕ → List ℕ → BulkRow
row_about action user tag = record { paper = codes "1"; action = action; user = user; tag = tag }

-- four rows of a bulk
abbrev pub four_rows : List BulkRow
four_rows =
    row_about (codes "primary") (codes "dave") []
    ∷ row_about (codes "clearreview") (codes "dave") []
    ∷ row_about (codes "pcreview") (codes "dave") []
    ∷ row_about (codes "tag") [] (codes "odd")
    ∷ []

-- the entries of the bulk: dave's second label is another
abbrev pub rows_added : History
rows_added =
    stamped (stamp_by 1 morning None) true (Assigned 1 4 Primary 1)
    ∷ stamped (stamp_by 1 morning None) true (Unassigned 1 4 1)
    ∷ stamped (stamp_by 1 morning None) true (Assigned 1 4 Pc 2)
    ∷ stamped (stamp_by 1 morning None) false (Tagged 1 (codes "odd") true)
    ∷ []

-- rows of which the third breaks a rule: dave is assigned already
abbrev pub twice_assigned : List BulkRow
twice_assigned =
    row_about (codes "tag") [] (codes "odd")
    ∷ row_about (codes "primary") (codes "dave") []
    ∷ row_about (codes "pcreview") (codes "dave") []
    ∷ []

-- then alice sends a bulk
abbrev pub bulk_given : List ℕ → List ℕ → List ℕ → List ℕ → History
bulk_given alice bob carol dave = bidding_opened alice bob carol dave ++ rows_added
