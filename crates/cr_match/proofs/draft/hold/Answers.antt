-- SPDX-License-Identifier: Apache-2.0 OR MIT
use Rattle.std.proofs.lemmas.List.{with_items_is}
use Rattle.std.specs.Vec.{with_items}
use Rattle.cr_match.proofs.Common.{Global, List, OthersStay, RowHas, Vec, ap, arith, at, get_or, length, subst, sym}
use Rattle.cr_match.proofs.Common.{true, ℕ, ◌<◌, ◌≡◌, ◌↔◌}
use Rattle.cr_match.specs.Draft.{Counts}
use Rattle.cr_match.proofs.Flipped.{altered, small_counts, some_counts}
use Rattle.cr_match.proofs.draft.hold.Goals as goal

pub count-requires-clause-small : goal.count-requires-clause-small
count-requires-clause-small c =
    subst (λ (xs : List ℕ). get_or xs c.args.p 0 < 20000) (sym c.deref_mut-2.ensures.value)
    (small_counts c.requires.counted.0 c.requires.counted.1 c.requires.inside.0 c.requires.inside.1).0

pub count-requires-clause-some : goal.count-requires-clause-some
count-requires-clause-some c e =
    subst (λ (xs : List ℕ). 0 < get_or xs c.args.p 0) (sym c.deref_mut-2.ensures.value)
    (some_counts c.requires.counted.0 c.requires.counted.1 c.requires.inside.0 c.requires.inside.1 (c.requires.has e)).0

pub count-requires-2-clause-small : goal.count-requires-2-clause-small
count-requires-2-clause-small c =
    subst (λ (xs : List ℕ). get_or xs c.args.m 0 < 20000) (sym c.deref_mut-3.ensures.value)
    (small_counts c.requires.counted.0 c.requires.counted.1 c.requires.inside.0 c.requires.inside.1).1

pub count-requires-2-clause-some : goal.count-requires-2-clause-some
count-requires-2-clause-some c e =
    subst (λ (xs : List ℕ). 0 < get_or xs c.args.m 0) (sym c.deref_mut-3.ensures.value)
    (some_counts c.requires.counted.0 c.requires.counted.1 c.requires.inside.0 c.requires.inside.1 (c.requires.has e)).1

-- what holds of a list that was lent and written holds of the vector that lent it
lent : (v : Vec ℕ Global) (ws : List ℕ) {now : List ℕ} → length ws ≡ length now → now ≡ v.items
    → (P : List ℕ → List ℕ → Type 0) → P now ws → P v.items (with_items v ws).items
lent v ws {now} e f P h =
    subst (λ xs. P xs (with_items v ws).items) f (subst (P now)
    (sym (with_items_is v ws (omega (arith, e, ap (λ (xs : List ℕ). length xs) f, v.ok.0)))) h)

pub returns : goal.returns
returns c =
    let held = lent c.args.choice.now.held c.write.new.words c.write.auto.words c.deref_mut.ensures.value in
    let given = lent c.args.choice.now.given c.count.new.counts c.count.ensures.long c.deref_mut-2.ensures.value in
    let used = lent c.args.choice.now.used c.count-2.new.counts c.count-2.ensures.long c.deref_mut-3.ensures.value in
    altered c.requires.counted.0 c.requires.counted.1 c.requires.inside.0 c.requires.inside.1 c.args.holds _
    c.requires.lacks c.requires.has (held (λ xs ys. length ys ≡ length xs) c.write.auto.words) (
      given (λ xs ys. length ys ≡ length xs) c.count.ensures.long,
      used (λ xs ys. length ys ≡ length xs) c.count-2.ensures.long,
    )
    (held (λ _ ys. RowHas c.args.board.now.wide ys c.args.p c.args.m ↔ (c.args.holds ≡ true)) c.write.ensures.same)
    (held (λ xs ys. OthersStay c.args.board.now.wide xs ys c.args.p c.args.m) c.write.ensures.others)
    (λ q. given (λ xs ys. Counts c.args.holds (at c.args.p q) (get_or xs q 0) (get_or ys q 0))
    (c.count.ensures.counted q))
    (λ x. used (λ xs ys. Counts c.args.holds (at c.args.m x) (get_or xs x 0) (get_or ys x 0))
    (c.count-2.ensures.counted x))
