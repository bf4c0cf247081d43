-- SPDX-License-Identifier: Apache-2.0 OR MIT
-- The two parts of a request's target (RFC 9112, section 3.2.1).
use Rattle.std.specs.Prelude.{ℕ, List, ◌==◌}
use Rattle.std.specs.List.{before_first, after_first}

-- the target up to the first question mark
abbrev pub path_of : List ℕ → List ℕ
path_of target = before_first (λ b. b == 63) target

-- what follows the first question mark of a target
abbrev pub query_of : List ℕ → List ℕ
query_of target = after_first (λ b. b == 63) target
