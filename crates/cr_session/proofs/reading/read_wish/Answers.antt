-- SPDX-License-Identifier: Apache-2.0 OR MIT
use Rattle.std.proofs.Common.{sym}
use Rattle.cr_session.proofs.Answering.{moments-nil}
use Rattle.cr_session.proofs.ReadLaws.{read_no_memory, read_refused, read_whole}
use Rattle.cr_session.proofs.reading.read_wish.Goals as goal

pub returns-in-Refused-clause-reads : goal.returns-in-Refused-clause-reads
returns-in-Refused-clause-reads g c =
    read_refused g.S.Source.left g.S.Source.read_gives _ _ c.args.inbox.now _ c.inbox.inside.requests
    c.read_request.new.inbox
    c.in-Refused.why c.in-Refused.is_head c.refusal_now.result (sym c.inbox.view_is) c.in-Refused.ensures.reads
    c.refusal_now.ensures.refusal

pub returns-in-OutOfMemory-clause-reads : goal.returns-in-OutOfMemory-clause-reads
returns-in-OutOfMemory-clause-reads g c =
    read_no_memory g.S.Source.left g.S.Source.read_gives _ _ c.args.inbox.now _ c.inbox.inside.requests
    c.read_request.new.inbox c.in-OutOfMemory.is_head
    (sym c.inbox.view_is) c.in-OutOfMemory.ensures.reads

pub returns-clause-reads : goal.returns-clause-reads
returns-clause-reads g c =
    read_whole g.S.Source.left g.S.Source.read_gives _ _ c.args.inbox.now c.inbox.inside.requests
    c.read_request.new.inbox c.wish_now.result
    (sym c.inbox.view_is) c.in-Whole.ensures.reads c.wish_now.ensures.wish

pub returns-in-Clean-clause-clock : goal.returns-in-Clean-clause-clock
returns-in-Clean-clause-clock g c = moments-nil _

pub returns-in-Cut-clause-clock : goal.returns-in-Cut-clause-clock
returns-in-Cut-clause-clock g c = moments-nil _

pub returns-in-ReadFault-clause-clock : goal.returns-in-ReadFault-clause-clock
returns-in-ReadFault-clause-clock g c = moments-nil _

pub returns-in-OutOfMemory-clause-clock : goal.returns-in-OutOfMemory-clause-clock
returns-in-OutOfMemory-clause-clock g c = moments-nil _
