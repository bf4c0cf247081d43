-- SPDX-License-Identifier: Apache-2.0 OR MIT
use Rattle.cr_match.proofs.Common.{arith}
use Rattle.cr_match.proofs.Reached.{IsRooted, found_or_done, room, rooted_done, rooted_long, rooted_reached}
use Rattle.cr_match.proofs.Reached.{rooted_steps}
use Rattle.cr_match.proofs.Walks.{refuted}
use Rattle.cr_match.proofs.trail.explore_from.Goals.{After-root}
use Rattle.cr_match.proofs.trail.explore_from.Goals as goal

pub root-requires : goal.root-requires
root-requires c = record {
  room = (
    room c.args.member c.requires.searched.roomy.1 c.requires.searched.steps (omega (arith, c.requires.places.1))
        (refuted c.is_reached.ensures.1 c.if-is_reached.false),
    omega (arith, c.requires.places.1, c.requires.searched.roomy.1.members.1),
  );
}

rooted : (c : After-root)
    → IsRooted c.args.board.now c.args.moves.now c.args.target c.args.member c.args.trail.now c.root.new.path
rooted c = record {
  search = c.requires.searched;
  member = omega (arith, c.requires.places.1);
  absent = refuted c.is_reached.ensures.1 c.if-is_reached.false;
  closed = c.requires.closed;
  reaches = c.root.ensures.reaches;
  root = c.root.ensures.root;
}

pub explore-requires : goal.explore-requires
explore-requires c = record {
  moves = (c.requires.moves, (c.requires.searched.roomy.0, rooted_long (rooted c.before)));
  places = (
    omega (arith, c.requires.places.0),
    omega (arith, c.root.ensures.reaches.count, c.requires.searched.done.1),
    omega (arith, c.root.ensures.root, c.requires.searched.done.1),
  );
  steps = (rooted_steps (rooted c.before), rooted_reached (rooted c.before));
  done = λ i lt. rooted_done (rooted c.before) i (omega (arith, lt, c.requires.searched.done.1));
}

pub returns : goal.returns
returns c =
    let w = found_or_done
    (rooted c.before.before) c.requires.places.1 c.explore.new.trail c.explore.result c.explore.ensures.roomy
    c.explore.ensures.steps c.explore.ensures.goes.0 c.explore.ensures.goes.2 c.explore.ensures.some
    c.explore.ensures.none in
    record { steps = (c.explore.ensures.steps, c.explore.ensures.roomy); some = w.0; none = w.1 }
