-- SPDX-License-Identifier: Apache-2.0 OR MIT
use Rattle.cr_match.proofs.Common.{◌≡◌, ◌<◌, ◌⊎◌, ℕ, List, length, get_or, ◌∙◌, subst, length-replicate, nth, lifted}
use Rattle.cr_match.proofs.Common.{Pair}
use Rattle.std.proofs.Common.{rules}
use Rattle.cr_match.proofs.Distinct.{board_of, place}
use Rattle.cr_match.proofs.setup.new_board.Goals as goal

pub returns : goal.returns
returns c =
    board_of c.args.problem.now c.requires c.write_pairs.new.worth
    (subst (λ (es : List Pair). (j : ℕ) → j < length es
    → get_or c.write_pairs.new.worth.items (place c.args.problem.now.members (nth es j)) 0 ≡ lifted (nth es j))
    c.deref.ensures.value c.write_pairs.ensures.weights)
    (subst (λ (es : List Pair). (k : ℕ) → (get_or c.write_pairs.new.worth.items k 0 ≡ 0) ⊎ ((j : ℕ) × (j < length es)
    × (place c.args.problem.now.members (nth es j) ≡ k))) c.deref.ensures.value c.write_pairs.ensures.none)
    (c.write_pairs.ensures.long ∙ search (rules, length-replicate))
