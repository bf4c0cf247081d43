-- SPDX-License-Identifier: Apache-2.0 OR MIT
-- What reading bytes gives.
use Rattle.std.specs.Prelude.{◌≡◌, Option, Some, None, Result, Ok, Err}
use Rattle.cr_base.specs.declared.decode.DecodeError.{DecodeError}
use Rattle.cr_base.specs.declared.decode.DecodeError.TheVariants.{Malformed, OutOfMemory}

-- the error is `Malformed`, and nothing is read; or memory ran out
abbrev pub Fails : {A : Type 0} → DecodeError → Option A → Type 0
Fails Malformed read = read ≡ None
Fails OutOfMemory read = Unit {0}

-- the result is what is read, or an error as `Fails` says
abbrev pub Decodes : {A : Type 0} → Result A DecodeError → Option A → Type 0
Decodes (Ok x) read = read ≡ Some x
Decodes (Err e) read = Fails e read

-- the result is what is read, if this function gives its value, or an error as `Fails` says
abbrev pub DecodesSeen : {X A : Type 0} → (X → A) → Result X DecodeError → Option A → Type 0
DecodesSeen see (Ok x) read = read ≡ Some (see x)
DecodesSeen see (Err e) read = Fails e read
