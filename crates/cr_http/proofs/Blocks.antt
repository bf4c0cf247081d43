-- SPDX-License-Identifier: Apache-2.0 OR MIT
-- What a read into the room behind the bytes of a block does to them.
use Rattle.std.proofs.Common.{◌≡◌, ◌∙◌, ℕ, ◌+◌, ◌-◌, ◌≤◌, List, [], ◌++◌, append-nil, length, take, drop, sym, ap}
use Rattle.std.proofs.Common.{subst, arith, length-take, length-drop}
use Rattle.std.proofs.lemmas.List.{drop-append-le, drop-take}
use Rattle.std.proofs.Math.Seq.{take-add, take-append-add}

-- the bytes from start to end, and then those that a read put behind them
pub grown : (start end n : ℕ) (items items' : List ℕ) → start ≤ end → end ≤ length items'
    → take end items' ≡ take end items
    → drop start (take (end + n) items') ≡ drop start (take end items) ++ take n (drop end items')
grown start end n items items' le within same =
    let l : length (take end items') ≡ end = (let h = length-take end items' in omega (arith, h)) in
    ap (drop start) (take-add end n items')
    ∙ drop-append-le start (take end items') (take n (drop end items')) (rw l le)
    ∙ ap (λ t. drop start t ++ take n (drop end items')) same

-- the same where the read put none there
pub not_grown : (start end : ℕ) (items items' before after : List ℕ) → after ≡ items' → take end items' ≡ take end items
    → items ≡ before
    → drop start (take end after) ≡ drop start (take end before) ++ []
not_grown start end items items' before after now same was =
    ap (λ t. drop start (take end t)) now ∙ ap (drop start) same ∙ ap (λ t. drop start (take end t)) was
    ∙ sym (append-nil (drop start (take end before)))

-- the bytes up to end, once others stand in the place of the first
over : (end : ℕ) (front items : List ℕ) → length front ≤ end
    → take end (front ++ drop (length front) items) ≡ front ++ drop (length front) (take end items)
over end front items le =
    let n = length front in
    let k : end ≡ n + (end - n) = omega (arith, le) in
    ap (λ m. take m (front ++ drop n items)) k
    ∙ take-append-add front (drop n items) (end - n)
    ∙ ap (λ t. front ++ t) (sym (drop-take n (end - n) items) ∙ ap (λ m. drop n (take m items)) (sym k))

-- the same of bytes that begin where their block does
pub over_from : (start end : ℕ) (front items : List ℕ) → start ≡ 0 → length front ≤ length (drop start (take end items))
    → drop start (take end (front ++ drop (length front) items)) ≡ front
    ++ drop (length front) (drop start (take end items))
over_from start end front items zero_is le =
    let d = length-drop start (take end items) in
    let t = length-take end items in
    subst (λ (k : ℕ). drop k (take end (front ++ drop (length front) items)) ≡ front
    ++ drop (length front) (drop k (take end items))) (sym zero_is)
    (over end front items (omega (arith, d, t, le)))
