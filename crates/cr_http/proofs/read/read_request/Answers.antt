-- SPDX-License-Identifier: Apache-2.0 OR MIT
use Rattle.std.proofs.Common.{rules, ◌≡◌, subst}
use Rattle.cr_http.specs.Buffer.{text_of}
use Rattle.cr_http.specs.Reading.{IsSettled}
use Rattle.cr_http.proofs.Answering.{reads_lying}
use Rattle.cr_http.proofs.Judging.{settled_is_still}
use Rattle.cr_http.proofs.read.read_request.Goals as goal
use Rattle.cr_http.proofs.read.read_request.Goals.{in-Some, in_default}

pub returns-clause-reads : goal.returns-clause-reads
returns-clause-reads g c =
    let rest : c.args.inbox.now.rest ≡ text_of c.match-inbox.inbox-inside.buffer =
    elim c.match-inbox.branch [ in-Some w ↦ search rules | in_default w ↦ search rules ] in
    reads_lying g.S.Source.left g.S.Source.read_gives c.args.source.now c.read_into.new.source c.args.inbox.now
    (text_of c.match-inbox.inbox-inside.buffer)
    (text_of c.read_into.new.buffer) c.read_into.new.headers c.read_into.new.block c.read_into.new.request
    c.read_into.result
    rest c.read_into.ensures.reads c.read_into.ensures.ended

pub returns-clause-still : goal.returns-clause-still
returns-clause-still g c =
    let rest : c.args.inbox.now.rest ≡ text_of c.match-inbox.inbox-inside.buffer =
    elim c.match-inbox.branch [ in-Some w ↦ search rules | in_default w ↦ search rules ] in
    λ settled. (settled_is_still g.S.Source.left g.S.Source.read_gives c.args.source.now c.read_into.new.source
    (text_of c.match-inbox.inbox-inside.buffer) c.read_into.ensures.reads.text
    c.read_into.ensures.reads.needed (subst IsSettled rest settled)).0
