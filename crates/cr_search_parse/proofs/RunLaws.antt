-- SPDX-License-Identifier: Apache-2.0 OR MIT
-- The run that a text begins with, by how many bytes it has.
use Rattle.std.proofs.Common.{◌≡◌, ℕ, ◌+◌, ◌<◌, ◌≤◌, Bool, true, false, not, eqb, cond, List, [], ◌∷◌, length, get_or}
use Rattle.std.proofs.Common.{take, drop, ne_eqb, length-take-le, refl, ap, ◌∙◌, add-one, arith}
use Rattle.cr_search_parse.specs.Runs.{Run, spaces, opening, closing, chunk, chunked, spaced, runs_within}
use Rattle.cr_search_parse.specs.Cutting.{spaces_length, chunk_length}

spaced-chunked : (byte : ℕ) (runs : List Run) → spaced (chunked byte runs) ≡ spaces 1 ∷ chunked byte runs
spaced-chunked byte [] = refl
spaced-chunked byte (spaces n ∷ runs) = refl
spaced-chunked byte (opening ∷ runs) = refl
spaced-chunked byte (closing ∷ runs) = refl
spaced-chunked byte (chunk bytes ∷ runs) = refl

chunked-spaced : (byte : ℕ) (runs : List Run) → chunked byte (spaced runs) ≡ chunk (byte ∷ []) ∷ spaced runs
chunked-spaced byte [] = refl
chunked-spaced byte (spaces n ∷ runs) = refl
chunked-spaced byte (opening ∷ runs) = refl
chunked-spaced byte (closing ∷ runs) = refl
chunked-spaced byte (chunk bytes ∷ runs) = refl

-- a space is one more before the spaces that follow
IsSpaced : List ℕ → Type 0
IsSpaced text = spaced (runs_within false text) ≡ spaces (spaces_length text + 1)
    ∷ runs_within false (drop (spaces_length text) text)

more_spaces : (byte : ℕ) (text : List ℕ) (is32 is40 is41 : Bool) → eqb byte 32 ≡ is32 → eqb byte 40 ≡ is40
    → eqb byte 41 ≡ is41
    → IsSpaced text → IsSpaced (byte ∷ text)
unfolding IsSpaced
more_spaces byte text true is40 is41 e f g before =
    rw (e, before) (ap (λ (n : ℕ). spaces n ∷ runs_within false (drop (spaces_length text) text)) (omega arith))
more_spaces byte text false true is41 e f g before = simp (e, f) refl
more_spaces byte text false false true e f g before = simp (e, f, g) refl
more_spaces byte text false false false e f g before = simp (e, f, g) (spaced-chunked _ _)

pub spaces-first : (text : List ℕ)
    → spaced (runs_within false text) ≡ spaces (spaces_length text + 1)
    ∷ runs_within false (drop (spaces_length text) text)
unfolding IsSpaced
spaces-first [] = refl
spaces-first (byte ∷ text) = more_spaces byte text _ _ _ refl refl refl (spaces-first text)

-- a byte of a chunk is one more before those of it that follow
IsChunked : Bool → List ℕ → Type 0
IsChunked quoted text =
    (first : ℕ) → chunked first (runs_within quoted text)
    ≡ chunk (first ∷ take (chunk_length quoted text) text) ∷ runs_within false (drop (chunk_length quoted text) text)

more_quoted : (byte : ℕ) (text : List ℕ) (is34 : Bool) → eqb byte 34 ≡ is34 → IsChunked (not is34) text
    → IsChunked true (byte ∷ text)
unfolding IsChunked
more_quoted byte text true e behind first = simp (e, behind byte) refl
more_quoted byte text false e behind first = simp (e, behind byte) refl

more_unquoted : (byte : ℕ) (text : List ℕ) (is32 is40 is41 is34 : Bool) → eqb byte 32 ≡ is32 → eqb byte 40 ≡ is40
    → eqb byte 41 ≡ is41 → eqb byte 34 ≡ is34 → IsChunked is34 text → IsChunked false (byte ∷ text)
unfolding IsChunked
more_unquoted byte text true is40 is41 is34 e f g h behind first = simp e (chunked-spaced _ _)
more_unquoted byte text false true is41 is34 e f g h behind first = simp (e, f) refl
more_unquoted byte text false false true is34 e f g h behind first = simp (e, f, g) refl
more_unquoted byte text false false false true e f g h behind first = simp (e, f, g, h, behind byte) refl
more_unquoted byte text false false false false e f g h behind first = simp (e, f, g, h, behind byte) refl

all_chunked : (quoted : Bool) (text : List ℕ) → IsChunked quoted text
unfolding IsChunked
all_chunked quoted [] first = refl
all_chunked true (byte ∷ text) first = more_quoted byte text _ refl (all_chunked (not (eqb byte 34)) text) first
all_chunked false (byte ∷ text) first =
    more_unquoted byte text _ _ _ _ refl refl refl refl (all_chunked (eqb byte 34) text) first

pub chunk-first : (quoted : Bool) (first : ℕ) (text : List ℕ)
    → chunked first (runs_within quoted text)
    ≡ chunk (first ∷ take (chunk_length quoted text) text) ∷ runs_within false (drop (chunk_length quoted text) text)
unfolding IsChunked
chunk-first quoted first text = all_chunked quoted text first

-- ---- the first run of a text

pub run-spaces : (text : List ℕ) → 0 < length text → get_or text 0 0 ≡ 32
    → runs_within false text ≡ spaces (spaces_length text) ∷ runs_within false (drop (spaces_length text) text)
run-spaces [] some is = absurd (omega arith)
run-spaces (byte ∷ text) some is =
    let one = add-one (spaces_length text) in
    rw is (spaces-first text ∙ ap (λ (n : ℕ). spaces n ∷ runs_within false (drop (spaces_length text) text)) one)

pub run-chunk : (text : List ℕ) → 0 < length text → (get_or text 0 0 ≡ 32 → ⊥) → (get_or text 0 0 ≡ 40 → ⊥)
    → (get_or text 0 0 ≡ 41 → ⊥)
    → runs_within false text ≡ chunk (take (chunk_length false text) text)
    ∷ runs_within false (drop (chunk_length false text) text)
run-chunk [] some not32 not40 not41 = absurd (omega arith)
run-chunk (byte ∷ text) some not32 not40 not41 =
    simp (ne_eqb byte 32 not32, ne_eqb byte 40 not40, ne_eqb byte 41 not41)
    (behind (eqb byte 34) (chunk-first (eqb byte 34) byte text))
  where
    behind : (is34 : Bool)
        → chunked byte (runs_within is34 text) ≡ chunk (byte ∷ take (chunk_length is34 text) text)
        ∷ runs_within false (drop (chunk_length is34 text) text)
        → chunked byte (runs_within is34 text) ≡ chunk (byte ∷ take (chunk_length (cond is34 true false) text) text)
        ∷ runs_within false (drop (chunk_length (cond is34 true false) text) text)
    behind true h = h
    behind false h = h

-- the same where so many bytes are taken
pub run-taken : (text : List ℕ) (n : ℕ) → n ≡ chunk_length false text → n ≤ length text → 0 < length text
    → (get_or text 0 0 ≡ 32 → ⊥) → (get_or text 0 0 ≡ 40 → ⊥) → (get_or text 0 0 ≡ 41 → ⊥)
    → runs_within false text ≡ chunk (take n text) ∷ runs_within false (drop (length (take n text)) text)
run-taken text n is within some not32 not40 not41 =
    rw (length-take-le n text within, is) (run-chunk text some not32 not40 not41)
