-- SPDX-License-Identifier: Apache-2.0 OR MIT
use Rattle.cr_json.proofs.Plain.{escape_range}
use Rattle.cr_json.proofs.runs.run_end.Goals as goal

pub returns-then-needs_escape-clause-plain : goal.returns-then-needs_escape-clause-plain
returns-then-needs_escape-clause-plain c =
    escape_range c.args.text.now c.args.start c.bytes.end c.bytes.invariant.after c.bytes.invariant.within
    c.bytes.invariant.plain

pub returns-clause-plain : goal.returns-clause-plain
returns-clause-plain c =
    escape_range c.args.text.now c.args.start c.bytes.end c.bytes.invariant.after c.bytes.invariant.within
    c.bytes.invariant.plain
