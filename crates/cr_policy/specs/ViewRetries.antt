-- SPDX-License-Identifier: Apache-2.0 OR MIT
-- What a view keeps of the numbers of its reader's commands. The number of an entry is shown only to the user who made
-- it, who is shown all of it.
use Rattle.std.specs.Prelude.{ℕ, Bool, false, List, [], ◌∷◌, length, filter, Option, Some, None, unwrap_or}
use Rattle.cr_base.specs.declared.entry.EntryKind.{EntryKind}
use Rattle.cr_base.specs.declared.entry.EntryKind.TheVariants as kinds
use Rattle.cr_base.specs.declared.reply.AccountLine.{AccountLine}
use Rattle.cr_base.specs.declared.reply.Receipt.{Receipt}
use Rattle.cr_base.specs.declared.reply.Receipt.TheVariants as receipts
use Rattle.cr_base.specs.declared.retry.RetryKey.{RetryKey}
use Rattle.cr_base.specs.declared.words.Mode.TheVariants.{Overt}
use Rattle.cr_base.specs.declared.words.Phase.TheVariants.{Setup}
use Rattle.cr_base.specs.declared.words.Role.TheVariants.{Account}
use Rattle.cr_base.specs.Keys.{has_number}
use Rattle.cr_base.specs.Retries.{KeptCall}
use Rattle.cr_base.specs.Rows.{key_mark}
use Rattle.cr_base.specs.Sources.{name_in}
use Rattle.cr_policy.specs.Sighting.{Sighting}
use Rattle.cr_policy.specs.View.{View}
use Rattle.cr_policy.specs.ViewFacts.{accounts_in_view}

-- the key that is shown has this number
abbrev pub shows_number : ℕ → Option (Option RetryKey) → Bool
shows_number number None = false
shows_number number (Some key) = has_number number key

-- the mark of the key that is shown
abbrev pub mark_shown : Option (Option RetryKey) → List ℕ
mark_shown None = []
mark_shown (Some key) = key_mark key

-- the name of the user who is shown; empty if none is
abbrev pub name_shown : List AccountLine → Option ℕ → List ℕ
name_shown accounts None = []
name_shown accounts (Some user) = unwrap_or (name_in accounts user) []

-- the receipt of a command, by the kind of its first entry and what that shows its actor; `name` is that of the user
-- who is appointed to a role or dismissed
abbrev pub receipt_shown : EntryKind → List ℕ → Sighting → Receipt
receipt_shown kinds.Registered name s = receipts.User (unwrap_or s.user 0)
receipt_shown kinds.Named name s = receipts.Named name (unwrap_or s.role Account)
receipt_shown kinds.PhaseSet name s = receipts.Phase (unwrap_or s.phase Setup)
receipt_shown kinds.ModeSet name s = receipts.Mode (unwrap_or s.mode Overt)
receipt_shown kinds.Submitted name s = receipts.Paper (unwrap_or s.paper 0)
receipt_shown kinds.Coauthor name s = receipts.Changed (unwrap_or s.paper 0)
receipt_shown kinds.Revised name s = receipts.Changed (unwrap_or s.paper 0)
receipt_shown kinds.Uploaded name s = receipts.Version (unwrap_or s.version 0)
receipt_shown kinds.Withdrawn name s = receipts.Changed (unwrap_or s.paper 0)
receipt_shown kinds.Conflict name s = receipts.Changed (unwrap_or s.paper 0)
receipt_shown kinds.Bid name s = receipts.Bid (unwrap_or s.value 0)
receipt_shown kinds.Assigned name s = receipts.Label (unwrap_or s.ordinal 0)
receipt_shown kinds.Unassigned name s = receipts.Changed (unwrap_or s.paper 0)
receipt_shown kinds.Reviewed name s = receipts.Version (unwrap_or s.version 0)
receipt_shown kinds.Commented name s = receipts.Comment (unwrap_or s.n 0)
receipt_shown kinds.Tagged name s = receipts.Changed (unwrap_or s.paper 0)
receipt_shown kinds.Decided name s = receipts.Changed (unwrap_or s.paper 0)
receipt_shown kinds.DeadlineSet name s = receipts.Deadline (unwrap_or s.phase Setup) (unwrap_or s.until None)
receipt_shown kinds.Dismissed name s = receipts.Named name Account
receipt_shown kinds.Invited name s = receipts.Changed (unwrap_or s.paper 0)
receipt_shown kinds.Uninvited name s = receipts.Changed (unwrap_or s.paper 0)
receipt_shown kinds.Responded name s = receipts.Paper (unwrap_or s.paper 0)

-- what is kept of a command whose entries show these sightings; `None` of none
abbrev pub kept_shown : List AccountLine → View → Option KeptCall
kept_shown accounts [] = None
kept_shown accounts (s ∷ ss) = Some (record {
  mark = mark_shown s.key;
  receipt = receipt_shown s.kind (name_shown accounts s.user) s;
  entries = length (s ∷ ss);
})

-- what the view keeps under a number: that of the reader's own entries that show it
abbrev pub kept_in_view : View → ℕ → Option KeptCall
kept_in_view V number = kept_shown (accounts_in_view V) (filter (λ (s : Sighting). shows_number number s.key) V)
