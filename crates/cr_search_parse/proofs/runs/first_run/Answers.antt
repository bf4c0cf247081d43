-- SPDX-License-Identifier: Apache-2.0 OR MIT
use Rattle.std.proofs.Common.{◌≡◌, get_or, rules}
use Rattle.cr_search_parse.proofs.RunLaws.{run-spaces, run-taken}
use Rattle.cr_search_parse.proofs.runs.first_run.Goals as goal

pub returns-in-32-clause-first : goal.returns-in-32-clause-first
returns-in-32-clause-first c = rw c.spaces_len.ensures.count (run-spaces c.args.text.now c.requires c.in-32.is)

pub returns-in_default-clause-first : goal.returns-in_default-clause-first
returns-in_default-clause-first c =
    let text = c.args.text.now in
    let not32 : get_or text 0 0 ≡ 32 → ⊥ = search rules in
    let not40 : get_or text 0 0 ≡ 40 → ⊥ = search rules in
    let not41 : get_or text 0 0 ≡ 41 → ⊥ = search rules in
    run-taken text c.chunk_len.result c.chunk_len.ensures.count c.chunk_len.ensures.within c.requires not32 not40 not41
