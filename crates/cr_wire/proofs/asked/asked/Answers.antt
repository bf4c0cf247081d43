-- SPDX-License-Identifier: Apache-2.0 OR MIT
use Rattle.std.proofs.Common.{subst, sym}
use Rattle.std.proofs.lemmas.Result.{on_err_weaker}
use Rattle.std.specs.Prelude.{OnErr}
use Rattle.cr_base.specs.declared.ask.Ask.{Ask}
use Rattle.cr_routes.specs.Parts.{seen}
use Rattle.cr_wire.proofs.AskLaws.{looked_query}
use Rattle.cr_wire.specs.Asked.{LooksBehindPath, asked_by}
use Rattle.cr_wire.specs.Target.{query_of}
use Rattle.cr_wire.proofs.asked.asked.Goals as goal

pub returns-in-Tell-clause-sure : goal.returns-in-Tell-clause-sure
returns-in-Tell-clause-sure c =
    subst (λ (ask : Ask). OnErr c.questioned.result
    (LooksBehindPath (asked_by ask (seen c.args.found) c.args.request.now))) (sym c.in-Tell.is)
    (on_err_weaker c.questioned.result (looked_query c.in-Tell.question (seen c.args.found)
    (query_of c.args.request.now.head.now.target)) c.questioned.ensures.sure)
