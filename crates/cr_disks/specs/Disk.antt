-- SPDX-License-Identifier: Apache-2.0 OR MIT
-- What the calls of a disk do to its bytes, and what a stop may leave of them.
use Rattle.std.specs.Prelude.{◌≡◌, ◌≢◌, ◌⊎◌, ℕ, ◌+◌, ◌≤◌, max, List, ◌++◌, length, take, drop, Result, OnOk, OnErr}
use Rattle.std.specs.Prelude.{cond, ⊤}
use Rattle.std.specs.Str.{bytes_eq}
use Rattle.cr_ports.specs.Count.{Rises}
use Rattle.cr_ports.specs.declared.source.ReadStep.{ReadStep}
use Rattle.cr_ports.specs.declared.source.ReadStep.TheVariants as reads

-- ---- the bytes

-- a read at this offset gave the bytes that stand there, or the end, at or past the last of them
abbrev pub GivesAt : ReadStep → List ℕ → ℕ → List ℕ → Type 0
GivesAt (reads.Got n) buf at bytes = (at + n ≤ length bytes) × (take n buf ≡ take n (drop at bytes))
GivesAt reads.End buf at bytes = length bytes ≤ at
GivesAt reads.Failed buf at bytes = ⊤

-- new is old with these bytes at this offset
abbrev pub Holds : List ℕ → ℕ → List ℕ → List ℕ → Type 0
Holds old at bytes new = new ≡ take at old ++ (bytes ++ drop (at + length bytes) old)

-- After a write of n bytes that failed, or that a stop cut short: any bytes in its range and past the old end, some
-- length from the old one to the one that it would have made, and elsewhere what stood there.
pub record Torn (at n : ℕ) (old new : List ℕ) : Type 0 where
  pub before : take at new ≡ take at old
  pub after : drop (at + n) new ≡ drop (at + n) old
  pub no_shorter : length old ≤ length new
  pub no_longer : length new ≤ max (length old) (at + n)

-- ---- what a stop may leave

-- a stop leaves these bytes and nothing else
abbrev pub Only : List ℕ → (List ℕ → Type 0) → Type 0
Only bytes images = (image : List ℕ) → images image → image ≡ bytes

-- each image now is an image from before, torn so
abbrev pub Follows : (List ℕ → List ℕ → Type 0) → (List ℕ → Type 0) → (List ℕ → Type 0) → Type 0
Follows torn old new = (image : List ℕ) → new image → (before : List ℕ) × old before × torn before image

-- ---- time

-- Time goes on: a stop since t might have left what it might have left before, or what it may leave now.
pub record Elapses (before now : ℕ) (past since : ℕ → List ℕ → Type 0) (may_leave : List ℕ → Type 0) : Type 0 where
  pub later : before ≤ now
  pub nothing_else : (t : ℕ) (image : List ℕ) → t ≤ before → since t image → past t image ⊎ may_leave image
  pub keeps : (t : ℕ) (image : List ℕ) → t ≤ before → past t image → since t image

-- ---- faults

-- The count never falls; it rose where the call failed, and nowhere else.
pub record HasCause {T E : Type 0} (before now : ℕ) (result : Result T E) : Type 0 where
  pub later : before ≤ now
  pub failed : OnErr result (Rises before now)
  pub steady : OnOk result (now ≡ before)

-- The fault counter never falls; it rose if the read failed, and only then.
pub record ReadHasCause (before now : ℕ) (result : ReadStep) : Type 0 where
  pub later : before ≤ now
  pub failed : result ≡ reads.Failed → Rises before now
  pub steady : result ≢ reads.Failed → now ≡ before

-- ---- disks by path

-- the bytes at each path, once these stand at one of them
abbrev pub with_bytes : (List ℕ → List ℕ) → List ℕ → List ℕ → List ℕ → List ℕ
with_bytes files path bytes other = cond (bytes_eq path other) bytes (files other)
