-- SPDX-License-Identifier: Apache-2.0 OR MIT
-- The mark of a request, which tells a repeat from another request with the same number (Keys): the SHA-256 digest of
-- its method, its path and its body (FIPS 180-4, section 6.2).
use Rattle.std.specs.Prelude.{ℕ, List, ◌∷◌, ◌++◌}
use Rattle.sha2.specs.Sha256.{sha256}

-- the text whose digest is the mark: method, a space, path, a line feed, and the body as it was sent
abbrev pub mark_text : List ℕ → List ℕ → List ℕ → List ℕ
mark_text method path body = method ++ 32 ∷ path ++ 10 ∷ body

-- the mark of a request with this method, path and body
unfoldable pub mark_of : List ℕ → List ℕ → List ℕ → List ℕ
mark_of method path body = sha256 (mark_text method path body)
