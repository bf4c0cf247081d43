-- SPDX-License-Identifier: Apache-2.0 OR MIT
-- What reads into a buffer give, one after the other.
use Rattle.std.proofs.Common.{◌≡◌, ◌∙◌, ℕ, ◌+◌, ◌≤◌, List, ◌++◌, length, take, drop, sym, ap, arith, append_assoc}
use Rattle.std.proofs.Common.{length-append, length-drop, length-take, take-append-drop}
use Rattle.std.proofs.lemmas.List.{take_at}

-- the first n of a list and so many of the rest
pub take-more : (n k : ℕ) (l : List ℕ) → n + k ≤ length l → take (n + k) l ≡ take n l ++ take k (drop n l)
take-more n k l long =
    ap (λ (m : List ℕ). take (n + k) m) (sym whole)
    ∙ take_at (take n l ++ take k (drop n l)) (drop k (drop n l)) (n + k)
    (omega (
      arith,
      long,
      length-append (take n l) (take k (drop n l)),
      length-take n l,
      length-take k (drop n l),
      length-drop n l,
    ))
  where
    whole : (take n l ++ take k (drop n l)) ++ drop k (drop n l) ≡ l
    whole =
        append_assoc (take n l) (take k (drop n l)) (drop k (drop n l))
        ∙ ap (λ (m : List ℕ). take n l ++ m) (take-append-drop k (drop n l))
        ∙ take-append-drop n l

-- one read more, which gave n bytes behind the first `filled`
pub filled-more : (filled n : ℕ) (old new bytes : List ℕ) → filled + n ≤ length new → filled + n ≤ length bytes
    → take filled old ≡ take filled bytes → take filled new ≡ take filled old
    → take n (drop filled new) ≡ take n (drop filled bytes) → take (filled + n) new ≡ take (filled + n) bytes
filled-more filled n old new bytes long longer was same next =
    take-more filled n new long
    ∙ (λ i. (same ∙ was) i ++ next i)
    ∙ sym (take-more filled n bytes longer)
