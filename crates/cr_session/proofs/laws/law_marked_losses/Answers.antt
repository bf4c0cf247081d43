-- SPDX-License-Identifier: Apache-2.0 OR MIT
use Rattle.cr_session.specs.Tries.{tries_of}
use Rattle.cr_session.proofs.Passes.{marked_losses}
use Rattle.cr_session.proofs.laws.law_marked_losses.Goals as goal

pub returns : goal.returns
returns g c =
    let K = g.K.Keeper in
    marked_losses (tries_of K)
