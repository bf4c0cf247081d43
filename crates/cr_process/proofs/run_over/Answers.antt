-- SPDX-License-Identifier: Apache-2.0 OR MIT
use Rattle.cr_process.proofs.run_over.Goals as goal

pub returns : goal.returns
returns g c = record {
  words = c.args.words.now;
  input = c.new-input.result;
  input' = c.top-exit.new.input;
  out = c.new-out.result;
  out' = c.top-exit.new.out;
  clock = c.new-clock.result;
  clock' = c.top-exit.new.clock;
  shelf = c.args.shelf.now;
  shelf' = c.top-exit.new.shelf;
  gates = c.new-gates.result;
  gates' = c.top-exit.new.gates;
  runs = c.top-exit.ensures;
}
