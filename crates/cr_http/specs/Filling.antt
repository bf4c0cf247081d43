-- SPDX-License-Identifier: Apache-2.0 OR MIT
-- Bytes go from a source to the inbox.
use Rattle.std.specs.Prelude.{◌≡◌, ◌⊎◌, ℕ, ◌<◌, ◌≤◌, List, [], ◌++◌, length, Option, Some, None, IfSome}
use Rattle.cr_ports.specs.Stream.{and_left}
use Rattle.cr_http.specs.declared.buffer.Fill.{Fill}
use Rattle.cr_http.specs.declared.buffer.Fill.TheVariants as fills
use Rattle.cr_http.specs.declared.fill.HeadFill.{HeadFill}
use Rattle.cr_http.specs.declared.fill.HeadFill.TheVariants as heads
use Rattle.cr_http.specs.HeadRange.{head_at}

-- The source gave these bytes, and the buffer has them after its own.
pub record Moves (left left' : Option (List ℕ)) (old new : List ℕ) : Type 0 where
  pub got : List ℕ
  pub given : left ≡ and_left got left'
  pub kept : new ≡ old ++ got

-- where it is told, nothing is left
abbrev pub IsAtEnd : Option (List ℕ) → Type 0
IsAtEnd left = IfSome left (λ bytes. bytes ≡ [])

-- the buffer has more bytes only after a read that gave some
abbrev pub GrowsAs : Fill → List ℕ → List ℕ → Type 0
GrowsAs fills.Grew old new = length old < length new
GrowsAs fills.Ended old new = new ≡ old
GrowsAs fills.Failed old new = new ≡ old
GrowsAs fills.OutOfMemory old new = new ≡ old

-- what the inbox has when a search for a head's end is over
abbrev pub FindsHead : HeadFill → List ℕ → Type 0
FindsHead (heads.Found range) bytes = head_at bytes ≡ Some (range.start, range.end)
FindsHead heads.Full bytes = (head_at bytes ≡ None) × (16384 ≤ length bytes)
FindsHead heads.Ended bytes = (head_at bytes ≡ None) × (length bytes < 16384)
FindsHead heads.Failed bytes = (head_at bytes ≡ None) × (length bytes < 16384)
FindsHead heads.OutOfMemory bytes = (head_at bytes ≡ None) × (length bytes < 16384)

-- no head ends in the bytes, and more of them may be looked at
abbrev pub NeedsHead : List ℕ → Type 0
NeedsHead bytes = (head_at bytes ≡ None) × (length bytes < 16384)

-- nothing was read
abbrev pub IsStill : {S : Type 0} → S → S → List ℕ → List ℕ → Type 0
IsStill source source' bytes bytes' = (source' ≡ source) × (bytes' ≡ bytes)

-- The read that was made last, from a state that those before it led to: it was made at a text that wants more.
pub record LastRead {S : Type 0} (left : S → Option (List ℕ)) (gives : S → S → List ℕ → Type 0)
    (Wants : List ℕ → Type 0)
    (from to : S) (old new : List ℕ) : Type 0 where
  pub at : S
  pub text : List ℕ
  pub before : Moves (left from) (left at) old text
  pub wants : Wants text
  pub piece : List ℕ
  pub given : gives at to piece
  pub kept : new ≡ text ++ piece

-- nothing was read, or the last read was made at a text that wants more; so was each before it, where a text that
-- wants no more still wants none once it is longer
abbrev pub ReadsWhile : {S : Type 0} → (S → Option (List ℕ)) → (S → S → List ℕ → Type 0) → (List ℕ → Type 0) → S → S
    → List ℕ → List ℕ → Type 0
ReadsWhile left gives Wants from to old new = IsStill from to old new ⊎ LastRead left gives Wants from to old new
