-- SPDX-License-Identifier: Apache-2.0 OR MIT
use Rattle.cr_laws.proofs.HiddenBytesLaws.{hidden_bytes}
use Rattle.cr_laws.proofs.law_hidden_bytes.Goals as goal

pub returns : goal.returns
returns c = hidden_bytes
