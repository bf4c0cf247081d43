-- SPDX-License-Identifier: Apache-2.0 OR MIT
-- Under which ordinal a user reviews the papers that she is found to review.
use Rattle.std.proofs.Common.{ℕ, Bool, ◌≡◌, List, get_or, eqb, refl, sym, ap, ◌∙◌, Some}
use Rattle.std.specs.List.{All}
use Rattle.std.proofs.lemmas.Bool.{eqb-true}
use Rattle.std.proofs.lemmas.List.{get_or_default}
use Rattle.std.proofs.lemmas.List.Elements.{All-filter, filter_passes}
use Rattle.cr_base.specs.declared.pairs.Order.{Order}
use Rattle.cr_base.specs.declared.pairs.Order.TheVariants.{ByUser}
use Rattle.cr_base.specs.declared.pairs.Tie.{Tie}
use Rattle.cr_base.specs.Pairs.{IsAscending, tie_value, ties_of}
use Rattle.cr_base.specs.Seats.{SeatsState, ordinal_in}
use Rattle.cr_pairs.proofs.BinarySearchLaws.{found-value}
use Rattle.cr_assign.specs.Index.{SeatsIndexed}

-- of a list in ascending order each tie is what is kept of its pair
each-kept : (order : Order) (ts : List (Tie ℕ)) → IsAscending order ts
    → All (λ (t : Tie ℕ). tie_value t.pair ts ≡ Some t.value) ts
each-kept order ts up k d h =
    let t : Tie ℕ = get_or ts k d in
    sym (found-value order t.pair ts ts k d t up
    (record { in_range = h; is = λ e. ap (λ (s : Tie ℕ). s.pair) (get_or_default ts k e d h) }) refl refl)

pub reviewed-under : (seats : SeatsState) (users : Order) (reviewing : List (Tie ℕ))
    → SeatsIndexed seats users reviewing → IsAscending users reviewing
    → (user : ℕ)
    → All (λ (t : Tie ℕ). ordinal_in seats (Some user) t.pair.paper ≡ Some t.value) (ties_of ByUser user reviewing)
reviewed-under seats users reviewing index up user k d h =
    let hers : Tie ℕ → Bool = λ t. eqb user t.pair.user in
    let t : Tie ℕ = get_or (ties_of ByUser user reviewing) k d in
    ap (λ n. ordinal_in seats (Some n) t.pair.paper) (eqb-true user t.pair.user (filter_passes hers reviewing k d h))
    ∙ sym (index.same t.pair)
    ∙ All-filter hers (λ (s : Tie ℕ). tie_value s.pair reviewing ≡ Some s.value) reviewing
    (each-kept users reviewing up) k d h
