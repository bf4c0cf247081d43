-- SPDX-License-Identifier: Apache-2.0 OR MIT
-- What the reader of a member answers, which takes no memory.
use Rattle.std.specs.Prelude.{◌≡◌, Option, Some, None, Result, Ok, Err}
use Rattle.cr_base.specs.declared.decode.DecodeError.{DecodeError}
use Rattle.cr_base.specs.declared.decode.DecodeError.TheVariants.{Malformed}

-- what is there, or `Malformed` where it isn't there
abbrev pub Tells : {A : Type 0} → Result A DecodeError → Option A → Type 0
Tells (Ok x) there = there ≡ Some x
Tells (Err e) there = (e ≡ Malformed) × (there ≡ None)

-- the result is what is told, if this function gives its value; or nothing is told, and it is malformed
abbrev pub TellsSeen : {X A : Type 0} → (X → A) → Result X DecodeError → Option A → Type 0
TellsSeen see (Ok x) there = there ≡ Some (see x)
TellsSeen see (Err e) there = (e ≡ Malformed) × (there ≡ None)
