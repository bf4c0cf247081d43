-- SPDX-License-Identifier: Apache-2.0 OR MIT
use Rattle.std.proofs.Common.{◌≡◌, ◌≤◌, inl, Bool, Err, length, if◌then◌else◌, ap, sym, ◌∙◌, arith}
use Rattle.std.proofs.lemmas.Bool.{lt-ltb}
use Rattle.cr_search_parse.specs.Offsets.{most_bytes}
use Rattle.cr_search_parse.specs.Reading.{start, runs_read}
use Rattle.cr_search_parse.specs.Runs.{runs_of}
use Rattle.cr_search_parse.proofs.ParseLaws.{gives-spelled, gives-spells, gives-only, not-found, told-bad, gives-exact}
use Rattle.cr_search_parse.proofs.ParseLaws.{stops-exact}
use Rattle.cr_search_parse.proofs.parsing.parse.Goals as goal

pub returns-then-text-gt-MOST_BYTES-clause-only : goal.returns-then-text-gt-MOST_BYTES-clause-only
unfolding most_bytes
returns-then-text-gt-MOST_BYTES-clause-only c tree spelled =
    absurd (omega (arith, spelled.0, c.if-text-gt-MOST_BYTES.true))

pub returns-then-text-gt-MOST_BYTES-clause-bad : goal.returns-then-text-gt-MOST_BYTES-clause-bad
unfolding most_bytes
returns-then-text-gt-MOST_BYTES-clause-bad c offset is = let same : 1024 ≡ offset =
    cc in inl (c.if-text-gt-MOST_BYTES.true, sym same)

pub from_nodes-requires : goal.from_nodes-requires
from_nodes-requires c = gives-spelled (runs_of c.args.text.now) c.in-Ok.nodes.items c.in-Ok.ensures

pub returns-in-Ok-clause-found : goal.returns-in-Ok-clause-found
unfolding most_bytes
returns-in-Ok-clause-found c =
    let few : length c.args.text.now ≤ 1024 = omega (arith, c.if-text-gt-MOST_BYTES.false) in
    rw c.from_nodes.ensures (gives-spells c.args.text.now c.in-Ok.nodes.items few c.in-Ok.ensures)

pub returns-in-Ok-clause-only : goal.returns-in-Ok-clause-only
returns-in-Ok-clause-only c tree spelled =
    c.from_nodes.ensures ∙ gives-only (runs_of c.args.text.now) c.in-Ok.nodes.items tree c.in-Ok.ensures spelled.1

pub returns-in-Err-clause-only : goal.returns-in-Err-clause-only
returns-in-Err-clause-only c tree spelled = not-found c.args.text.now c.in-Err.error tree c.in-Err.ensures spelled.1

pub returns-in-Err-clause-bad : goal.returns-in-Err-clause-bad
unfolding most_bytes
returns-in-Err-clause-bad c offset is =
    let few : length c.args.text.now ≤ 1024 = omega (arith, c.if-text-gt-MOST_BYTES.false) in
    told-bad c.args.text.now c.in-Err.error offset few c.in-Err.ensures cc

pub returns-then-text-gt-MOST_BYTES-clause-exact : goal.returns-then-text-gt-MOST_BYTES-clause-exact
unfolding most_bytes
returns-then-text-gt-MOST_BYTES-clause-exact c =
    ap (λ (b : Bool). if b then Err 1024 else runs_read (runs_of c.args.text.now) 0 start)
    (lt-ltb 1024 (length c.args.text.now) c.if-text-gt-MOST_BYTES.true)

pub returns-in-Ok-clause-exact : goal.returns-in-Ok-clause-exact
unfolding most_bytes
returns-in-Ok-clause-exact c =
    let few : length c.args.text.now ≤ 1024 = omega (arith, c.if-text-gt-MOST_BYTES.false) in
    rw c.from_nodes.ensures (gives-exact c.args.text.now c.in-Ok.nodes.items few c.in-Ok.ensures)

pub returns-in-Err-clause-exact : goal.returns-in-Err-clause-exact
unfolding most_bytes
returns-in-Err-clause-exact c =
    let few : length c.args.text.now ≤ 1024 = omega (arith, c.if-text-gt-MOST_BYTES.false) in
    stops-exact c.args.text.now c.in-Err.error few c.in-Err.ensures
