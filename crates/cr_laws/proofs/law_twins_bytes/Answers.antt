-- SPDX-License-Identifier: Apache-2.0 OR MIT
use Rattle.cr_laws.proofs.TwinsBytesLaws.{twins_heard}
use Rattle.cr_laws.proofs.law_twins_bytes.Goals as goal

pub returns : goal.returns
returns c = twins_heard
