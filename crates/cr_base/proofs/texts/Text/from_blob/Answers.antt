-- SPDX-License-Identifier: Apache-2.0 OR MIT
use Rattle.std.proofs.lemmas.Str.{IsUtf8-from_is_utf8}
use Rattle.cr_base.proofs.texts.Text.from_blob.Goals as goal

pub invariant_of-result : goal.invariant_of-result
invariant_of-result c = rw c.in_ok-bytes.ensures (IsUtf8-from_is_utf8 c.args.bytes.now c.requires)
