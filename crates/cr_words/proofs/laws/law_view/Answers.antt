-- SPDX-License-Identifier: Apache-2.0 OR MIT
use Rattle.cr_words.proofs.StoreLaws.{view_taken, user_first_taken}
use Rattle.cr_words.proofs.laws.law_view.Goals as goal

pub returns : goal.returns
returns c = record { store_first = view_taken; user_first = user_first_taken }
