-- SPDX-License-Identifier: Apache-2.0 OR MIT
use Rattle.cr_policy.proofs.HiddenLaws.{hidden_payload}
use Rattle.cr_policy.proofs.StampLaws.{stamps_unseen}
use Rattle.cr_policy.proofs.law_hidden_payload.Goals as goal

pub returns : goal.returns
returns c = record { payload = hidden_payload; stamps = stamps_unseen }
