-- SPDX-License-Identifier: Apache-2.0 OR MIT
use Rattle.std.proofs.Common.{arith}
use Rattle.cr_bodies.proofs.Names.{too_many}
use Rattle.cr_bodies.proofs.field.names_in.Goals as goal

pub returns-then-items-gt-MOST_COAUTHORS-clause-told : goal.returns-then-items-gt-MOST_COAUTHORS-clause-told
returns-then-items-gt-MOST_COAUTHORS-clause-told c = too_many c.args.items.now (omega arith)
