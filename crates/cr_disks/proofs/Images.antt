-- SPDX-License-Identifier: Apache-2.0 OR MIT
-- What a write leaves, and what a stop after it may.
use Rattle.std.proofs.Common.{◌≡◌, ◌∙◌, ℕ, ◌+◌, ◌-◌, ◌≤◌, List, [], ◌∷◌, ◌++◌, length, take, drop, refl, sym, ap}
use Rattle.std.proofs.Common.{subst, arith, append_assoc, length-append, length-drop}
use Rattle.std.proofs.lemmas.List.{take_at, drop_at, drop-drop, length-take-le}
use Rattle.cr_disks.specs.Disk.{Follows, Holds, Torn}
use Rattle.cr_disks.specs.Held.{DiskState, left_in}
use Rattle.cr_disks.specs.Past.{Reaches}

module _ (at n : ℕ) (bytes old new : List ℕ) (inside : at ≤ length old) (few : length bytes ≤ n)
    (holds : Holds old at bytes new) where
  abbrev behind : List ℕ
  behind = drop (at + length bytes) old

  size : length (take at old) ≡ at
  size = length-take-le at old inside

  whole : new ≡ (take at old ++ bytes) ++ behind
  whole = holds ∙ sym (append_assoc (take at old) bytes behind)

  front : length (take at old ++ bytes) ≡ at + length bytes
  front = omega (arith, size, length-append (take at old) bytes)

  far : at + length bytes + (n - length bytes) ≡ at + n
  far = omega (arith, few)

  further : (l : List ℕ) → drop (at + n) l ≡ drop (n - length bytes) (drop (at + length bytes) l)
  further l = ap (λ (k : ℕ). drop k l) (sym far) ∙ sym (drop-drop (n - length bytes) (at + length bytes) l)

  -- a front of a piece, which was put where the piece was to stand
  pub holds_torn : Torn at n old new
  holds_torn = record {
    before = ap (λ (l : List ℕ). take at l) holds ∙ take_at (take at old) (bytes ++ behind) at size;
    after = further new
        ∙ ap (λ (l : List ℕ). drop (n - length bytes) l)
        (ap (λ (l : List ℕ). drop (at + length bytes) l) whole
        ∙ drop_at (take at old ++ bytes) behind (at + length bytes) front)
        ∙ sym (further old);
    no_shorter = omega (
      arith,
      front,
      few,
      inside,
      ap length whole,
      length-append (take at old ++ bytes) behind,
      length-drop (at + length bytes) old,
    );
    no_longer = omega (
      arith,
      front,
      few,
      inside,
      ap length whole,
      length-append (take at old ++ bytes) behind,
      length-drop (at + length bytes) old,
    );
  }

pub torn_same : (at n : ℕ) (image : List ℕ) → Torn at n image image
torn_same at n image = record { before = refl; after = refl; no_shorter = omega arith; no_longer = omega arith }

pub follows_same : (at n : ℕ) (now : List ℕ → Type 0) → Follows (Torn at n) now now
follows_same at n now image left = (image, left, torn_same at n image)

-- one more range
pub reaches_push : (base : List ℕ) (ranges : List (ℕ × ℕ)) (at n : ℕ) (image : List ℕ)
    → Reaches base (ranges ++ (at, n) ∷ []) image → (d : List ℕ) × Reaches base ranges d × Torn at n d image
reaches_push base [] at n image r = (base, refl, subst (λ (l : List ℕ). Torn at n base l) (sym r.2) r.1)
reaches_push base (q ∷ ranges) at n image r =
    let last = reaches_push r.0 ranges at n image r.2 in (last.0, (r.0, r.1, last.1), last.2)

-- what a stop may leave once a write has put a front of a piece of n bytes
pub write_follows : (at n : ℕ) (s after : DiskState)
    → after.base ≡ s.base → after.ranges ≡ s.ranges ++ (at, n) ∷ []
    → Follows (Torn at n) (left_in s) (left_in after)
write_follows at n s after base ranges = λ image left.
    reaches_push s.base s.ranges at n image
    (subst (λ (l : List (ℕ × ℕ)). Reaches s.base l image) ranges
    (subst (λ (l : List ℕ). Reaches l after.ranges image) base left))

-- a write that was torn so puts what a stop may leave among what it then may
pub push_reaches : (base : List ℕ) (ranges : List (ℕ × ℕ)) (at n : ℕ) (d image : List ℕ)
    → Reaches base ranges d → Torn at n d image → Reaches base (ranges ++ (at, n) ∷ []) image
push_reaches base [] at n d image same torn = (image, subst (λ (l : List ℕ). Torn at n l image) same torn, refl)
push_reaches base (q ∷ ranges) at n d image r torn = (r.0, r.1, push_reaches r.0 ranges at n d image r.2 torn)

-- what a read gives behind a write is among what a stop may leave, as it was before
pub seen_written : (at n : ℕ) (piece old new : List ℕ) (s after : DiskState) → at ≤ length old → length piece ≤ n
    → Holds old at piece new → after.base ≡ s.base → after.ranges ≡ s.ranges ++ (at, n) ∷ [] → left_in s old
    → left_in after new
seen_written at n piece old new s after inside few holds base ranges left =
    subst (λ (b : List ℕ). Reaches b after.ranges new) (sym base)
    (subst (λ (l : List (ℕ × ℕ)). Reaches s.base l new) (sym ranges)
    (push_reaches s.base s.ranges at n old new left (holds_torn at n piece old new inside few holds)))
