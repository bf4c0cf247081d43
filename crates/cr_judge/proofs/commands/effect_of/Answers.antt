-- SPDX-License-Identifier: Apache-2.0 OR MIT
use Rattle.cr_judge.proofs.JudgedLaws.{call-told, registration-told}
use Rattle.cr_judge.proofs.commands.effect_of.Goals as goal

pub returns-in-Register : goal.returns-in-Register
returns-in-Register c =
    registration-told c.args.live.now.tables c.args.call c.in-Register.name c.in-Register.digest _ c.in-Register.is
    c.registration.ensures

pub returns-in_default : goal.returns-in_default
returns-in_default c =
    call-told c.args.live.now.tables c.args.call c.held.result _ c.held.ensures c.user_effect_of.ensures
