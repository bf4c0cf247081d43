-- SPDX-License-Identifier: Apache-2.0 OR MIT
use Rattle.std.proofs.Common.{length}
use Rattle.cr_http.proofs.values.+first_value.Given as goal

abbrev pub decreases-first_value : goal.decreases-first_value
decreases-first_value l = length l.fields.now
