-- SPDX-License-Identifier: Apache-2.0 OR MIT
use Rattle.cr_beginnings.proofs.BeginningsExact.{beginnings}
use Rattle.cr_beginnings.proofs.law_beginnings.Goals as goal

pub returns : goal.returns
returns c = record { begins = beginnings }
