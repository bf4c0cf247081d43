-- SPDX-License-Identifier: Apache-2.0 OR MIT
use Rattle.std.proofs.Common.{◌∙◌, ap, arith, refl}
use Rattle.cr_log.specs.declared.given.GivenNumber.{GivenNumber}
use Rattle.cr_log.specs.Seen.{SeenLog}
use Rattle.cr_log.proofs.IndexLaws.{index-none, index-within, index-some}
use Rattle.cr_log.proofs.log.Log.find.Goals as goal

pub returns-in_err-place : goal.returns-in_err-place
returns-in_err-place c =
    let n : GivenNumber = record { user = c.args.user; number = c.args.number } in
    c.from_residual.ensures
    ∙ index-none c.self.inside.entries.items c.args.self.now.entries c.self.inside.index n c.self.invariant
    (ap (λ (l : SeenLog). l.entries) c.self.view_is)
    c.in_err-place.ensures.value

pub index-requires : goal.index-requires
index-requires c =
    let n : GivenNumber = record { user = c.args.user; number = c.args.number } in
    let items = c.self.inside.entries.items in
    let within = index-within items items c.self.inside.index n c.self.invariant refl c.in_ok-place.place.now
    c.in_ok-place.ensures.value in
    let long = c.self.inside.entries.ok.0 in
    omega (arith, within, long)

pub returns : goal.returns
returns c =
    let n : GivenNumber = record { user = c.args.user; number = c.args.number } in
    index-some c.self.inside.entries.items c.args.self.now.entries c.self.inside.index n c.self.invariant
    (ap (λ (l : SeenLog). l.entries) c.self.view_is)
    c.in_ok-place.place.now c.in_ok-place.ensures.value c.index.result.now c.index.ensures
