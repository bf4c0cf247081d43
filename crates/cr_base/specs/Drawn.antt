-- SPDX-License-Identifier: Apache-2.0 OR MIT
-- What an accepted command draws: the entries that it adds, and its receipt, which its first entry tells.
use Rattle.std.specs.Prelude.{ℕ, Bool, true, false, ◌==◌, List, [], ◌∷◌, ◌++◌, map, if◌then◌else◌}
use Rattle.std.specs.List.{list_any}
use Rattle.cr_base.specs.declared.entry.Entry.{Entry}
use Rattle.cr_base.specs.declared.entry.Entry.TheVariants.{Registered, Named, PhaseSet, ModeSet, Submitted}
use Rattle.cr_base.specs.declared.entry.Entry.TheVariants.{Coauthor, Revised, Uploaded, Withdrawn, Conflict}
use Rattle.cr_base.specs.declared.entry.Entry.TheVariants.{Bid, Assigned, Unassigned, Reviewed}
use Rattle.cr_base.specs.declared.entry.Entry.TheVariants.{Commented, Tagged, Decided, DeadlineSet}
use Rattle.cr_base.specs.declared.entry.Entry.TheVariants.{Dismissed, Invited, Uninvited, Responded}
use Rattle.cr_base.specs.declared.entry.Stamp.{Stamp}
use Rattle.cr_base.specs.declared.entry.Stamped.{Stamped}
use Rattle.cr_base.specs.declared.reply.Receipt.{Receipt}
use Rattle.cr_base.specs.declared.reply.Receipt.TheVariants as receipts
use Rattle.cr_base.specs.declared.words.Role.TheVariants.{Account, Chair}
use Rattle.cr_base.specs.History.{History}

-- the entries that a command adds, and its receipt
pub record Drawn : Type 0 where
  pub group : History
  pub receipt : Receipt

-- an entry under its command's stamp, with the mark whether another entry of the command follows
abbrev pub stamped : Stamp → Bool → Entry → Stamped
stamped stamp more entry = record { stamp = stamp; more = more; entry = entry }

-- the entries of one command, under one stamp; all but the last have the mark that another follows
abbrev pub grouped : Stamp → List Entry → History
grouped stamp [] = []
grouped stamp (e ∷ []) = stamped stamp false e ∷ []
grouped stamp (e ∷ next ∷ es) = stamped stamp true e ∷ grouped stamp (next ∷ es)

-- what a command is answered, by the first entry that it adds; `name` is that of the user who is appointed to a role or
-- dismissed. A co-author never comes first.
abbrev pub receipt_of : List ℕ → Entry → Receipt
receipt_of name (Registered user own digest) = receipts.User user
receipt_of name (Named user role) = receipts.Named name role
receipt_of name (PhaseSet phase) = receipts.Phase phase
receipt_of name (ModeSet mode) = receipts.Mode mode
receipt_of name (Submitted paper title abstract) = receipts.Paper paper
receipt_of name (Coauthor paper user) = receipts.Changed paper
receipt_of name (Revised paper title abstract) = receipts.Changed paper
receipt_of name (Uploaded paper version content) = receipts.Version version
receipt_of name (Withdrawn paper) = receipts.Changed paper
receipt_of name (Conflict paper user on) = receipts.Changed paper
receipt_of name (Bid paper value) = receipts.Bid value
receipt_of name (Assigned paper user kind ordinal) = receipts.Label ordinal
receipt_of name (Unassigned paper user ordinal) = receipts.Changed paper
receipt_of name (Reviewed paper ordinal version form) = receipts.Version version
receipt_of name (Commented paper n ordinal text) = receipts.Comment n
receipt_of name (Tagged paper tag on) = receipts.Changed paper
receipt_of name (Decided paper decision) = receipts.Changed paper
receipt_of name (DeadlineSet phase until) = receipts.Deadline phase until
receipt_of name (Dismissed user) = receipts.Named name Account
receipt_of name (Invited paper user) = receipts.Changed paper
receipt_of name (Uninvited paper user) = receipts.Changed paper
receipt_of name (Responded paper text) = receipts.Paper paper

-- what a command draws that adds this one entry, and changes no user's role
abbrev pub alone : Stamp → Entry → Drawn
alone stamp entry = record { group = grouped stamp (entry ∷ []); receipt = receipt_of [] entry }

-- ---- behind the first entry

-- what follows a registration: user 1 becomes a chair
abbrev pub behind_registration : ℕ → List Entry
behind_registration user = if user == 1 then Named user Chair ∷ [] else []

-- the entries of a registration
abbrev pub registration : ℕ → List ℕ → List ℕ → List Entry
registration user name digest = Registered user name digest ∷ behind_registration user

-- the users who aren't in `these`, each once, in order
abbrev pub besides : List ℕ → List ℕ → List ℕ
besides these [] = []
besides these (u ∷ users) =
    if list_any (λ v. v == u) these then besides these users else u ∷ besides (these ++ u ∷ []) users

-- the entries of co-authors that follow a submission, in the order told. The submitter, and a user told before, add
-- none.
abbrev pub coauthor_entries : ℕ → ℕ → List ℕ → List Entry
coauthor_entries maker paper users = map (λ (user : ℕ). Coauthor paper user) (besides (maker ∷ []) users)

-- the entries of a submission with these co-authors
abbrev pub submission : ℕ → ℕ → List ℕ → List ℕ → List ℕ → List Entry
submission maker paper title abstract users = Submitted paper title abstract ∷ coauthor_entries maker paper users
