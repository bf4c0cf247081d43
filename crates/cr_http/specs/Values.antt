-- SPDX-License-Identifier: Apache-2.0 OR MIT
-- How the values of the fields of one name are told.
use Rattle.std.specs.Prelude.{◌≡◌, ℕ, ◌<◌, List, [], ◌∷◌, length, map, Option, Some, None}
use denote.Ref.{Bor}
use Rattle.httparse.specs.declared.spans.HeaderSpan.{HeaderSpan}
use Rattle.httparse.specs.Spans.{header_bytes}
use Rattle.cr_http.specs.Head.{values_of}
use Rattle.cr_http.specs.declared.values.Values.{Values}
use Rattle.cr_http.specs.declared.values.Values.TheVariants as values

-- no value, the only one, or more than one
abbrev pub AreValues : Values → List (List ℕ) → Type 0
AreValues values.None list = list ≡ []
AreValues (values.One value) list = list ≡ value.now ∷ []
AreValues values.Many list = 1 < length list

-- the values of the fields of this name that these spans cover
abbrev pub values_at : List ℕ → List HeaderSpan → List ℕ → List (List ℕ)
values_at bytes fields name = values_of name (map (header_bytes bytes) fields)

-- the value that comes next, if any, and those behind it
abbrev pub HasNext : List (List ℕ) → Option (Bor (List ℕ)) → List (List ℕ) → Type 0
HasNext old None new = (old ≡ []) × (new ≡ [])
HasNext old (Some value) new = old ≡ value.now ∷ new
