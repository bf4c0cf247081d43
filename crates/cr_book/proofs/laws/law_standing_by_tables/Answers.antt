-- SPDX-License-Identifier: Apache-2.0 OR MIT
use Rattle.std.proofs.Common.{sym}
use Rattle.cr_policy.proofs.LegalLaws.{Legal-fits}
use Rattle.cr_history.proofs.TableAgreement.{standing_of-tables}
use Rattle.cr_book.proofs.laws.law_standing_by_tables.Goals as goal

pub returns : goal.returns
returns c = λ user paper H legal. sym (standing_of-tables user paper H (Legal-fits H legal))
