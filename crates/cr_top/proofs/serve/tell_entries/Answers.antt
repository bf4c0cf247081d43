-- SPDX-License-Identifier: Apache-2.0 OR MIT
use Rattle.std.proofs.Common.{◌∙◌, ℕ, List, subst}
use Rattle.cr_ports.specs.Writing.{BreaksOff, Writes, outlet_of}
use Rattle.cr_top.proofs.Entries.{told_end, told_no_number, told_no_word}
use Rattle.cr_top.proofs.serve.tell_entries.Goals as goal

pub returns-in_err-write_all : goal.returns-in_err-write_all
returns-in_err-write_all g c =
    let outlet = outlet_of g.O.Sink.taken g.O.Sink.faults in
    told_no_word c.from_residual.result c.args.entries (outlet c.args.out.now)
    (outlet c.write_all.new.sink) c.from_residual.ensures.0 c.in_err-write_all.ensures.failed

pub returns-in_err-write_all-2 : goal.returns-in_err-write_all-2
returns-in_err-write_all-2 g c =
    let outlet = outlet_of g.O.Sink.taken g.O.Sink.faults in
    let is = c.as_bytes.ensures.value ∙ c.format.ensures.text in
    told_no_number c.from_residual-in_err-write_all-2.result c.args.entries (outlet c.args.out.now)
    (outlet c.write_all.new.sink)
    (outlet c.write_all-2.new.sink) c.from_residual-in_err-write_all-2.ensures.0
    c.in_ok-write_all.ensures.whole
    (subst (λ (b : List ℕ). BreaksOff b (outlet c.write_all.new.sink) (outlet c.write_all-2.new.sink)) is
    c.in_err-write_all-2.ensures.failed)

pub returns : goal.returns
returns g c =
    let outlet = outlet_of g.O.Sink.taken g.O.Sink.faults in
    let is = c.as_bytes.ensures.value ∙ c.format.ensures.text in
    told_end c.write_all-3.result c.args.entries (outlet c.args.out.now) (outlet c.write_all.new.sink)
    (outlet c.write_all-2.new.sink)
    (outlet c.write_all-3.new.sink)
    c.in_ok-write_all.ensures.whole
    (subst (λ (b : List ℕ). Writes b (outlet c.write_all.new.sink) (outlet c.write_all-2.new.sink)) is
    c.in_ok-write_all-2.ensures.whole)
    c.write_all-3.ensures.whole c.write_all-3.ensures.failed
