-- SPDX-License-Identifier: Apache-2.0 OR MIT
-- The text of which a mark is the digest, and the length of marks.
use Rattle.std.proofs.Common.{◌≡◌, ℕ, List, [], ◌∷◌, ◌++◌, length, append_assoc, ap, ◌∙◌}
use Rattle.sha2.proofs.Facts256.{length-sha256}
use Rattle.cr_bodies.specs.Mark.{mark_of, mark_text}

-- the text, piece by piece
pub mark_pieces : (method path body : List ℕ)
    → (((method ++ 32 ∷ []) ++ path) ++ 10 ∷ []) ++ body ≡ mark_text method path body
mark_pieces method path body =
    append_assoc ((method ++ 32 ∷ []) ++ path) (10 ∷ []) body
    ∙ ap (λ (front : List ℕ). front ++ 10 ∷ body) (append_assoc method (32 ∷ []) path)

-- a mark is a digest
pub mark-length : (method path body : List ℕ) → length (mark_of method path body) ≡ 32
unfolding mark_of
mark-length method path body = length-sha256 (mark_text method path body)
