-- SPDX-License-Identifier: Apache-2.0 OR MIT
-- The status and the content of each receipt.
use Rattle.std.specs.Prelude.{ℕ, List, ◌++◌, Some, codes, decimal}
use Rattle.json.specs.Print.{quoted}
use Rattle.cr_base.specs.Words.{phase_name, mode_name, role_name}
use Rattle.cr_base.specs.declared.reply.Receipt.{Receipt}
use Rattle.cr_base.specs.declared.reply.Receipt.TheVariants.{User, Phase, Paper, Named, Mode, Changed}
use Rattle.cr_base.specs.declared.reply.Receipt.TheVariants.{Version, Bid, Label, Comment, Rows, Deadline}
use Rattle.cr_print.specs.declared.status.Status.{Status}
use Rattle.cr_print.specs.declared.status.Status.TheVariants.{Okay, Created}
use Rattle.cr_json.specs.Deadlines.{deadline_members}
use Rattle.cr_json.specs.Json.{Member, bid_text, label_text, member_of, object_text}

-- the status of an answer with this receipt
unfoldable pub receipt_status : Receipt → Status
receipt_status (User user) = Created
receipt_status (Phase phase) = Okay
receipt_status (Paper paper) = Created
receipt_status (Named name role) = Okay
receipt_status (Mode mode) = Okay
receipt_status (Changed paper) = Okay
receipt_status (Version version) = Okay
receipt_status (Bid bid) = Okay
receipt_status (Label ordinal) = Created
receipt_status (Comment n) = Created
receipt_status (Rows n) = Okay
receipt_status (Deadline phase until) = Okay

-- the members of a receipt, in the order of their keys' bytes
unfoldable pub receipt_members : Receipt → List Member
receipt_members (User user) = member_of (codes "user") (Some (decimal user))
receipt_members (Phase phase) = member_of (codes "phase") (Some (quoted (phase_name phase)))
receipt_members (Paper paper) = member_of (codes "paper") (Some (decimal paper))
receipt_members (Named name role) =
    member_of (codes "name") (Some (quoted name)) ++ member_of (codes "role") (Some (quoted (role_name role)))
receipt_members (Mode mode) = member_of (codes "mode") (Some (quoted (mode_name mode)))
receipt_members (Changed paper) = member_of (codes "paper") (Some (decimal paper))
receipt_members (Version version) = member_of (codes "version") (Some (decimal version))
receipt_members (Bid bid) = member_of (codes "bid") (Some (bid_text bid))
receipt_members (Label ordinal) = member_of (codes "label") (Some (label_text ordinal))
receipt_members (Comment n) = member_of (codes "comment") (Some (decimal n))
receipt_members (Rows n) = member_of (codes "rows") (Some (decimal n))
receipt_members (Deadline phase until) = deadline_members phase until

-- the JSON object of a receipt
abbrev pub receipt_content : Receipt → List ℕ
receipt_content receipt = object_text (receipt_members receipt)
