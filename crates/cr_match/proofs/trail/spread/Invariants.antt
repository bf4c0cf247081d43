-- SPDX-License-Identifier: Apache-2.0 OR MIT
use Rattle.cr_match.proofs.Common.{◌≡◌, ℕ, ◌-◌, ◌<◌, ◌≤◌, Has, Takes, IsLong, AreSteps, NoneDrops, Goes}
use Rattle.cr_match.proofs.trail.spread.Given as goal

abbrev pub invariant-members : goal.invariant-members
invariant-members l =
    IsLong l.board l.path × AreSteps l.board l.moves l.path × Goes l.initial.path l.path
    × (l.path.root ≡ l.initial.path.root) × NoneDrops l.board l.moves l.target l.path
    × ((j : ℕ) → j < l.at → Takes l.board l.moves l.paper j → Has l.path.members.items j) × (l.at ≤ l.board.members)

abbrev pub decreases-members : goal.decreases-members
decreases-members l = l.board.members - l.at
