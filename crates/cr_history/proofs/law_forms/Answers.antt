-- SPDX-License-Identifier: Apache-2.0 OR MIT
use Rattle.cr_history.proofs.FormAgreement.{forms_tell}
use Rattle.cr_history.proofs.law_forms.Goals as goal

pub returns : goal.returns
returns c = forms_tell
