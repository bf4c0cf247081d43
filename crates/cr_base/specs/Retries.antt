-- SPDX-License-Identifier: Apache-2.0 OR MIT
-- Retries: what becomes of a command that has a number. If a command of its caller with this number was accepted, it
-- isn't judged again (in the manner of the Idempotency-Key field of the IETF's HTTPAPI working group).
use Rattle.std.specs.Prelude.{ℕ, Bool, List, [], ◌∷◌, length, Option, Some, None, if◌then◌else◌}
use Rattle.std.specs.Prelude.{Result, Ok, Err}
use Rattle.std.specs.Str.{bytes_eq}
use Rattle.cr_base.specs.declared.reply.AccountLine.{AccountLine}
use Rattle.cr_base.specs.declared.reply.Receipt.{Receipt}
use Rattle.cr_base.specs.declared.reply.Receipt.TheVariants as receipts
use Rattle.cr_base.specs.declared.retry.RetryKey.{RetryKey}
use Rattle.cr_base.specs.Drawn.{Drawn, receipt_of}
use Rattle.cr_base.specs.History.{History}
use Rattle.cr_base.specs.HistoryFacts.{accounts_of}
use Rattle.cr_base.specs.Keys.{kept_under}
use Rattle.cr_base.specs.Rows.{key_mark}
use Rattle.cr_base.specs.Sources.{name_told_by}

-- ---- what is kept of a number

-- what is kept under the number of an accepted command: the mark of its request, the receipt that its first entry
-- tells, and how many entries it added
pub record KeptCall : Type 0 where
  pub mark : List ℕ
  pub receipt : Receipt
  pub entries : ℕ

-- what is kept of a command that added these entries, with the accounts as they are now; `None` of no entries
abbrev pub kept_call : List AccountLine → History → Option KeptCall
kept_call accounts [] = None
kept_call accounts (e ∷ es) = Some (record {
  mark = key_mark e.stamp.key;
  receipt = receipt_of (name_told_by accounts e.entry) e.entry;
  entries = length (e ∷ es);
})

-- what a history keeps under this number of this user's; an unauthenticated caller has no numbers
abbrev pub kept_of : Option ℕ → History → ℕ → Option KeptCall
kept_of None H number = None
kept_of (Some user) H number = kept_call (accounts_of H) (kept_under user number H)

-- ---- the look-up

-- what a repeat is answered: of a bulk the number of its rows, of any other command the receipt of the first entry
abbrev pub repeated_receipt : Bool → KeptCall → Receipt
repeated_receipt is_bulk kept = if is_bulk then receipts.Rows kept.entries else kept.receipt

-- what becomes of a command: it repeats an accepted one, and has this receipt; or it has this judgement, which is a
-- refusal if its number is used
pub data Outcome (E : Type 0) : Type 0 where
  Repeats : Receipt → Outcome E
  Judged : Result Drawn E → Outcome E

-- what becomes of a command by what is kept under its number: nothing, and it is judged; a command of the same mark,
-- which it repeats; or one of another mark, and it is refused (`used`), since the number is used
abbrev pub settled_by : {E : Type 0} → E → Bool → List ℕ → Option KeptCall → Result Drawn E → Outcome E
settled_by used is_bulk mark None judgement = Judged judgement
settled_by used is_bulk mark (Some kept) judgement =
    if bytes_eq kept.mark mark then Repeats (repeated_receipt is_bulk kept) else Judged (Err used)

-- what becomes of a command that may have a number: if it has one, what `settled_by` says by what is kept under it;
-- else its judgement
abbrev pub settled : {E : Type 0} → E → Bool → Option RetryKey → (ℕ → Option KeptCall) → Result Drawn E → Outcome E
settled used is_bulk None kept judgement = Judged judgement
settled used is_bulk (Some key) kept judgement = settled_by used is_bulk key.mark (kept key.number) judgement

-- what a command draws: something if it was judged and accepted; a repeat and a refusal draw nothing
abbrev pub drawn_by : {E : Type 0} → Outcome E → Option Drawn
drawn_by (Repeats receipt) = None
drawn_by (Judged (Ok drawn)) = Some drawn
drawn_by (Judged (Err refusal)) = None
