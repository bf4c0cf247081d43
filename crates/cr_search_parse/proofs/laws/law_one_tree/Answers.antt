-- SPDX-License-Identifier: Apache-2.0 OR MIT
use Rattle.cr_search_parse.specs.Grammar.{symbols_of}
use Rattle.cr_search_parse.specs.Runs.{runs_of}
use Rattle.cr_search_parse.proofs.OffsetLaws.{one}
use Rattle.cr_search_parse.proofs.laws.law_one_tree.Goals as goal

pub returns : goal.returns
returns c text t u a b = one (symbols_of (runs_of text)) t u a.1 b.1
