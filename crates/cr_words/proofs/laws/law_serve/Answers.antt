-- SPDX-License-Identifier: Apache-2.0 OR MIT
use Rattle.cr_words.proofs.ServeLaws.{taken, bad_workers, bad_connections}
use Rattle.cr_words.proofs.laws.law_serve.Goals as goal

pub returns : goal.returns
returns c = record { taken = taken; bad_workers = bad_workers; bad_connections = bad_connections }
