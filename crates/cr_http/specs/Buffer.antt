-- SPDX-License-Identifier: Apache-2.0 OR MIT
-- The bytes that a buffer holds.
use Rattle.std.specs.Prelude.{◌≡◌, ◌≤◌, ℕ, List, take, drop, vec_len}
use Rattle.cr_http.specs.declared.buffer.Buffer.{Buffer}

abbrev pub text_of : Buffer → List ℕ
text_of b = drop b.start (take b.end b.block.items)

-- The bytes begin where the block does, which is no longer than this.
pub record HasRoomFor (most : ℕ) (b : Buffer) : Type 0 where
  pub start : b.start ≡ 0
  pub within : vec_len b.block ≤ most
