-- SPDX-License-Identifier: Apache-2.0 OR MIT
-- What reading a wish gives, memory aside.
use Rattle.std.specs.Prelude.{◌≡◌, Result, Ok, Err}
use Rattle.std.specs.declared.alloc.AllocError.{AllocError}
use Rattle.cr_base.specs.declared.decode.DecodeError.{DecodeError}
use Rattle.cr_base.specs.declared.decode.DecodeError.TheVariants.{Malformed, OutOfMemory}

-- the result is this value, unless memory ran out
abbrev pub Gives : {A : Type 0} → Result A AllocError → A → Type 0
Gives (Ok x) wanted = x ≡ wanted
Gives (Err e) wanted = Unit {0}

-- memory ran out only if this holds
abbrev pub RunsOutOnlyIf : {A : Type 0} → Result A DecodeError → Type 0 → Type 0
RunsOutOnlyIf (Ok x) holds = Unit {0}
RunsOutOnlyIf (Err Malformed) holds = Unit {0}
RunsOutOnlyIf (Err OutOfMemory) holds = holds
