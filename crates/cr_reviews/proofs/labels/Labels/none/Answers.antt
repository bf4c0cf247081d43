-- SPDX-License-Identifier: Apache-2.0 OR MIT
use Rattle.std.proofs.Common.{false}
use Rattle.cr_kept.proofs.SumLaws.{get-replicate}
use Rattle.cr_reviews.proofs.labels.Labels.none.Goals as goal

pub returns : goal.returns
returns c = λ o. get-replicate 27 o false
