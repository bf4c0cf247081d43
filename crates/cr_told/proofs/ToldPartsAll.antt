-- SPDX-License-Identifier: Apache-2.0 OR MIT
-- Each part of each sighting is told or left out, whatever its kind.
use Rattle.std.proofs.lemmas.Bool.{eq-eqb}
use Rattle.std.proofs.Common.{refl}
use Rattle.cr_base.specs.declared.entry.EntryKind.{EntryKind}
use Rattle.cr_base.specs.declared.entry.EntryKind.TheVariants as kinds
use Rattle.cr_base.specs.Rows.{kind_number}
use Rattle.cr_told.specs.ToldParts.{PartsTold}
use Rattle.cr_told.proofs.ToldKnown.{AllOf}
use Rattle.cr_told.proofs.ToldPartsBids.{bid-all}
use Rattle.cr_told.proofs.ToldPartsConflicts.{conflict-all}
use Rattle.cr_told.proofs.ToldPartsContents.{uploaded-all}
use Rattle.cr_told.proofs.ToldPartsForms.{reviewed-all}
use Rattle.cr_told.proofs.ToldPartsInvites.{invited-all, uninvited-all}
use Rattle.cr_told.proofs.ToldPartsPublic.{registered-all, named-all, dismissed-all, phase-set-all, mode-set-all}
use Rattle.cr_told.proofs.ToldPartsPublic.{deadline-set-all, submitted-all, coauthor-all, revised-all, withdrawn-all}
use Rattle.cr_told.proofs.ToldPartsSeats.{assigned-all, unassigned-all}
use Rattle.cr_told.proofs.ToldPartsTags.{tagged-all}
use Rattle.cr_told.proofs.ToldPartsTalk.{commented-all, responded-all, decided-all}

all-kinds : (kind : EntryKind) → AllOf kind
all-kinds kinds.Registered = registered-all
all-kinds kinds.Named = named-all
all-kinds kinds.PhaseSet = phase-set-all
all-kinds kinds.ModeSet = mode-set-all
all-kinds kinds.Submitted = submitted-all
all-kinds kinds.Coauthor = coauthor-all
all-kinds kinds.Revised = revised-all
all-kinds kinds.Uploaded = uploaded-all
all-kinds kinds.Withdrawn = withdrawn-all
all-kinds kinds.Conflict = conflict-all
all-kinds kinds.Bid = bid-all
all-kinds kinds.Assigned = assigned-all
all-kinds kinds.Unassigned = unassigned-all
all-kinds kinds.Reviewed = reviewed-all
all-kinds kinds.Commented = commented-all
all-kinds kinds.Tagged = tagged-all
all-kinds kinds.Decided = decided-all
all-kinds kinds.DeadlineSet = deadline-set-all
all-kinds kinds.Dismissed = dismissed-all
all-kinds kinds.Invited = invited-all
all-kinds kinds.Uninvited = uninvited-all
all-kinds kinds.Responded = responded-all

pub parts_told : PartsTold
parts_told u H before s after what legal is shown =
    all-kinds s.kind u H before s after what legal is (eq-eqb (kind_number s.kind) (kind_number s.kind) refl) shown
