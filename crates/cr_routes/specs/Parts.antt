-- SPDX-License-Identifier: Apache-2.0 OR MIT
-- What a path is found to be: its resource, and what its parameters take of it. A path is told by the parts between
-- its slashes (RFC 3986, section 3.3), and no router comes into it.
use Rattle.std.specs.Prelude.{ℕ, List, [], ◌∷◌, length, Bool, true, false, ◌==◌, nat_le}
use Rattle.std.specs.Prelude.{Option, Some, None, option_map, find, if◌then◌else◌}
use Rattle.std.specs.List.{slice_split}
use Rattle.std.specs.Str.{bytes_eq}
use Rattle.std.specs.Cmp.Lexicographic.{pointwise}
use Rattle.cr_routes.specs.declared.matched.Matched.{Matched}
use Rattle.cr_routes.specs.declared.resource.Resource.{Resource}
use Rattle.cr_routes.specs.Paths.{paths}

-- the parts between the slashes of a path; before its first slash there is an empty one
abbrev pub parts : List ℕ → List (List ℕ)
parts path = slice_split (λ b. b == 47) path

-- a part of a listed path that is a parameter: it begins with a brace
abbrev pub is_parameter : List ℕ → Bool
is_parameter [] = false
is_parameter (b ∷ rest) = b == 123

-- there is at least one byte
abbrev pub has_bytes : List ℕ → Bool
has_bytes [] = false
has_bytes (b ∷ rest) = true

-- a part of a listed path takes a part of a path: a parameter each part that isn't empty, any other part only itself
abbrev pub takes : List ℕ → List ℕ → Bool
takes listed part = if is_parameter listed then has_bytes part else bytes_eq listed part

-- the path fits the listed path, part by part
abbrev pub fits_parts : List (List ℕ) → List (List ℕ) → Bool
fits_parts listed path = pointwise takes listed path

-- the parts of a path that the parameters of a listed path take, in order
abbrev pub taken : List (List ℕ) → List (List ℕ) → List (List ℕ)
taken [] path = []
taken (listed ∷ more) [] = []
taken (listed ∷ more) (part ∷ path) = if is_parameter listed then part ∷ taken more path else taken more path

-- the first part, if there is one
abbrev pub first_of : List (List ℕ) → Option (List ℕ)
first_of [] = None
first_of (part ∷ rest) = Some part

-- the second part, if there is one
abbrev pub second_of : List (List ℕ) → Option (List ℕ)
second_of [] = None
second_of (part ∷ rest) = first_of rest

-- a path's resource, and what its first and its second parameter took; no path has a third
pub record FoundPath : Type 0 where
  pub resource : Resource
  pub first : Option (List ℕ)
  pub second : Option (List ℕ)

-- a resource with the parts that its parameters took
abbrev pub found_with : Resource → List (List ℕ) → FoundPath
found_with resource parts = record { resource = resource; first = first_of parts; second = second_of parts }

-- what a path is found to be that fits this listed path
abbrev pub found_as : List ℕ → List ℕ × Resource → FoundPath
found_as path line = found_with line.1 (taken (parts line.0) (parts path))

-- what a path is found to be: the listed path that it fits; `None` if it fits none
unfoldable pub found_at : List ℕ → Option FoundPath
found_at path = option_map (found_as path) (find (λ line. fits_parts (parts line.0) (parts path)) paths)

-- what the program has of a path that was found, which lends the parts, as a value
abbrev pub seen : Matched → FoundPath
seen f =
    record {
      resource = f.resource;
      first = option_map (λ t. t.now) f.first;
      second = option_map (λ t. t.now) f.second;
    }

-- at most two parts of a listed path are parameters
abbrev pub has_few_parameters : List ℕ → Bool
has_few_parameters listed = nat_le (length (taken (parts listed) (parts listed))) 2
