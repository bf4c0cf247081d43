-- SPDX-License-Identifier: Apache-2.0 OR MIT
use Rattle.cr_laws.proofs.UndeducibleBytesLaws.{others_heard, shorter_heard}
use Rattle.cr_laws.proofs.law_undeducible_bytes.Goals as goal

pub returns-clause-quota : goal.returns-clause-quota
returns-clause-quota c = others_heard

pub returns-clause-shorter : goal.returns-clause-shorter
returns-clause-shorter c = shorter_heard
