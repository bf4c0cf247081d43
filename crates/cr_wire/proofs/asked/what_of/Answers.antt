-- SPDX-License-Identifier: Apache-2.0 OR MIT
use Rattle.std.proofs.Common.{sym, ◌∙◌, ap, subst, option_map}
use Rattle.std.specs.Prelude.{OnErr}
use Rattle.cr_http.specs.Requests.{RequestText}
use Rattle.cr_routes.specs.Parts.{seen}
use Rattle.cr_wire.specs.Asked.{LooksBehindPath}
use Rattle.cr_wire.specs.Outcome.{Gives}
use Rattle.cr_wire.specs.declared.what.What.{What}
use Rattle.cr_wire.proofs.Numbers.{key-fits}
use Rattle.cr_wire.proofs.WhatLaws.{what-found, what-numbered}
use Rattle.cr_wire.proofs.asked.what_of.Goals as goal

pub returns-in_default-ask_at-clause-told : goal.returns-in_default-ask_at-clause-told
returns-in_default-ask_at-clause-told c =
    let r : RequestText = record { head = c.args.head.now; body = c.args.body.now } in
    sym (what-found r (seen c.in-Some.found) _ _ _ _ c.target.ensures c.before_first.ensures
    (sym c.find.ensures ∙ ap (option_map seen) c.in-Some.is) c.method.ensures
    (sym c.in_default-ask_at.is ∙ c.ask_at.ensures))

pub returns-in_default-number_for-clause-told : goal.returns-in_default-number_for-clause-told
returns-in_default-number_for-clause-told c =
    let r : RequestText = record { head = c.args.head.now; body = c.args.body.now } in
    let asks = what-found r (seen c.in-Some.found) _ _ _ _ c.target.ensures c.before_first.ensures
    (sym c.find.ensures ∙ ap (option_map seen) c.in-Some.is) c.method.ensures
    (sym c.in-Some-ask_at.is ∙ c.ask_at.ensures) in
    sym (what-numbered r (seen c.in-Some.found) c.in-Some-ask_at.ask _ asks
    (sym c.number_for.ensures ∙ c.in_default-number_for.is))

pub asked-requires : goal.asked-requires
asked-requires c =
    record {
      key = key-fits c.in-Some-ask_at.ask (record { head = c.args.head.now; body = c.args.body.now })
          c.in-Ok.number (sym c.number_for.ensures ∙ c.in-Ok.is);
    }

pub returns-clause-told : goal.returns-clause-told
returns-clause-told c =
    let r : RequestText = record { head = c.args.head.now; body = c.args.body.now } in
    let asks = what-found r (seen c.in-Some.found) _ _ _ _ c.target.ensures c.before_first.ensures
    (sym c.find.ensures ∙ ap (option_map seen) c.in-Some.is) c.method.ensures
    (sym c.in-Some-ask_at.is ∙ c.ask_at.ensures) in
    let is =
    what-numbered r (seen c.in-Some.found) c.in-Some-ask_at.ask _ asks (sym c.number_for.ensures ∙ c.in-Ok.is) in
    subst (λ (what : What). Gives c.asked.result what) (sym is) c.asked.ensures.told

pub returns-clause-sure : goal.returns-clause-sure
returns-clause-sure c =
    let r : RequestText = record { head = c.args.head.now; body = c.args.body.now } in
    let asks = what-found r (seen c.in-Some.found) _ _ _ _ c.target.ensures c.before_first.ensures
    (sym c.find.ensures ∙ ap (option_map seen) c.in-Some.is) c.method.ensures
    (sym c.in-Some-ask_at.is ∙ c.ask_at.ensures) in
    let is =
    what-numbered r (seen c.in-Some.found) c.in-Some-ask_at.ask _ asks (sym c.number_for.ensures ∙ c.in-Ok.is) in
    subst (λ (what : What). OnErr c.asked.result (LooksBehindPath what)) (sym is) c.asked.ensures.sure
