-- SPDX-License-Identifier: Apache-2.0 OR MIT
use Rattle.cr_laws.proofs.HiddenBytesLaws.{response_bytes}
use Rattle.cr_laws.proofs.law_response_bytes.Goals as goal

pub returns : goal.returns
returns c = response_bytes
