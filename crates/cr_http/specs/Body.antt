-- SPDX-License-Identifier: Apache-2.0 OR MIT
-- The bytes of a body, wherever they lie.
use Rattle.std.specs.Prelude.{ℕ, ◌≤◌, List, length}
use Rattle.cr_http.specs.declared.body.BodyMemory.{BodyMemory}
use Rattle.cr_http.specs.declared.body.BodyMemory.TheVariants.{Buffer, Block}

abbrev pub memory_bytes : BodyMemory → List ℕ
memory_bytes (Buffer bytes) = bytes.now
memory_bytes (Block blob) = blob.now

-- a body is not longer than is read
abbrev pub IsBody : List ℕ → Type 0
IsBody bytes = length bytes ≤ 4194304
