-- SPDX-License-Identifier: Apache-2.0 OR MIT
-- What the history has under the number of a command: the look-up before judgement.
use Rattle.std.specs.Prelude.{ℕ, Bool, List, Option, Some, None, Result, Err, if◌then◌else◌}
use Rattle.std.specs.Str.{bytes_eq}
use Rattle.cr_base.specs.declared.reply.AccountLine.{AccountLine}
use Rattle.cr_base.specs.declared.retry.RetryKey.{RetryKey}
use Rattle.cr_base.specs.Accounts.{lines_of}
use Rattle.cr_base.specs.Drawn.{Drawn, receipt_of}
use Rattle.cr_base.specs.History.{History}
use Rattle.cr_base.specs.Keys.{kept_under}
use Rattle.cr_base.specs.Retries.{KeptCall, kept_call, repeated_receipt, Outcome, Repeats, Judged}
use Rattle.cr_base.specs.Sources.{name_told_by}
use Rattle.cr_base.specs.Rows.{key_mark}
use Rattle.cr_base.specs.Tables.{Tables}
use Rattle.cr_log.specs.Seen.{SeenKept}
use Rattle.cr_book.specs.declared.earlier.Earlier.{Earlier}
use Rattle.cr_book.specs.declared.earlier.Earlier.TheVariants.{Nothing, Same, Other}

-- what is kept under a number of a user's, by the tables and the history; an unauthenticated caller has no numbers
abbrev pub kept_by : Tables → Option ℕ → History → ℕ → Option KeptCall
kept_by t None H number = None
kept_by t (Some user) H number = kept_call (lines_of t.accounts) (kept_under user number H)

-- what is kept of a command, by what the log finds
abbrev pub kept_seen : List AccountLine → SeenKept → KeptCall
kept_seen accounts kept = record {
  mark = key_mark kept.first.stamp.key;
  receipt = receipt_of (name_told_by accounts kept.first.entry) kept.first.entry;
  entries = kept.count;
}

-- nothing is kept; a command of this mark is, and this receipt is told; or one of another mark is
abbrev pub earlier_by : Bool → List ℕ → Option KeptCall → Earlier
earlier_by is_bulk mark None = Nothing
earlier_by is_bulk mark (Some kept) = if bytes_eq kept.mark mark then Same (repeated_receipt is_bulk kept) else Other

-- what the history has under the number of a command that may have none; nothing is looked up then
abbrev pub earlier_of : Bool → Option RetryKey → (ℕ → Option KeptCall) → Earlier
earlier_of is_bulk None kept = Nothing
earlier_of is_bulk (Some key) kept = earlier_by is_bulk key.mark (kept key.number)

-- what a command comes to by that, and by its judgement where nothing is kept; `used` refuses a number that is used
abbrev pub outcome_by : {E : Type 0} → E → Earlier → Result Drawn E → Outcome E
outcome_by used Nothing judgement = Judged judgement
outcome_by used (Same receipt) judgement = Repeats receipt
outcome_by used Other judgement = Judged (Err used)
