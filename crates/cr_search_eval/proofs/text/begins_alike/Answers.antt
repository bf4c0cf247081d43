-- SPDX-License-Identifier: Apache-2.0 OR MIT
use Rattle.std.proofs.Common.{sym}
use Rattle.cr_search_eval.proofs.TextLaws.{begins-short}
use Rattle.cr_search_eval.proofs.text.begins_alike.Goals as goal

pub returns-then-text-value : goal.returns-then-text-value
returns-then-text-value c = sym (begins-short c.args.value.now c.args.text.now c.if-text-value.true)
