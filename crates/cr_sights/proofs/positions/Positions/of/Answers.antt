-- SPDX-License-Identifier: Apache-2.0 OR MIT
use Rattle.std.proofs.Common.{◌∙◌, ℕ, ap, subst, take}
use Rattle.cr_base.specs.History.{opens_discussion, opens_response}
use Rattle.cr_sights.specs.Series.{AreLast}
use Rattle.cr_sights.proofs.PositionLaws.{take-until}
use Rattle.cr_sights.proofs.positions.Positions.of.Goals as goal

pub returns : goal.returns
returns c =
    let log = c.args.log.now in
    record {
      passed = c.new.ensures;
      all = c.in_ok-all.ensures;
      before_response = subst (AreLast c.in_ok-before_response.before_response.places.items)
          (ap (λ (n : ℕ). take n log) c.opening-response_at.ensures.before ∙ take-until opens_response log)
          c.in_ok-before_response.ensures;
      before_discussion = subst (AreLast c.in_ok-before_discussion.before_discussion.places.items)
          (ap (λ (n : ℕ). take n log) c.opening-discussion_at.ensures.before ∙ take-until opens_discussion log)
          c.in_ok-before_discussion.ensures;
      response_at = c.opening-response_at.ensures.before;
      discussion_at = c.opening-discussion_at.ensures.before;
    }
