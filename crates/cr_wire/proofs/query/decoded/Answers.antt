-- SPDX-License-Identifier: Apache-2.0 OR MIT
use Rattle.std.proofs.lemmas.Result.{IfOk-weaker}
use Rattle.cr_wire.specs.Query.{decoded}
use Rattle.cr_wire.proofs.query.decoded.Goals as goal

pub returns : goal.returns
unfolding decoded
returns c = IfOk-weaker c.decode.result _ _ (λ text told. told.2) c.decode.ensures.value
