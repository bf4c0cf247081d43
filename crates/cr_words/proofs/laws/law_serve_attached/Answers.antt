-- SPDX-License-Identifier: Apache-2.0 OR MIT
use Rattle.cr_words.proofs.ServeLaws.{attached_taken, attached_bad_workers, attached_bad_connections}
use Rattle.cr_words.proofs.laws.law_serve_attached.Goals as goal

pub returns : goal.returns
returns c =
    record { taken = attached_taken; bad_workers = attached_bad_workers; bad_connections = attached_bad_connections }
