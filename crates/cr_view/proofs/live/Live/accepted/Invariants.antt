-- SPDX-License-Identifier: Apache-2.0 OR MIT
use Rattle.std.proofs.Common.{◌≡◌, ◌++◌, drop}
use Rattle.cr_base.specs.Papers.{paper_numbers}
use Rattle.cr_view.specs.Accepted.{accepted_of}
use Rattle.cr_view.proofs.live.Live.accepted.Given as goal

abbrev pub invariant-loop-before : goal.invariant-loop-before
invariant-loop-before l =
    l.papers.items ++ accepted_of l.self.tables (drop l.before (paper_numbers l.self.tables.papers))
    ≡ accepted_of l.self.tables (paper_numbers l.self.tables.papers)
