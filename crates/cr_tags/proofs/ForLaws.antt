-- SPDX-License-Identifier: Apache-2.0 OR MIT
-- Whether a tag is among those that are for a reader.
use Rattle.std.proofs.Common.{Bool, true, false, cond, ◌≡◌, ◌&&◌, ◌||◌, ℕ, List, [], ◌∷◌, Option, refl, ap}
use Rattle.std.specs.Prelude.{map, filter}
use Rattle.std.specs.List.{list_any}
use Rattle.std.specs.Str.{bytes_eq}
use Rattle.cr_base.specs.declared.tag.SetTag.{SetTag}
use Rattle.cr_base.specs.Tags.{is_tag_for, tags_for}

-- it is where one of the tags is it and is for her
pub any-for : (u : Option ℕ) (chair : Bool) (tag : List ℕ) (sets : List SetTag)
    → list_any (λ (s : SetTag). is_tag_for u chair s && bytes_eq tag s.tag) sets ≡ list_any (bytes_eq tag)
    (tags_for u chair sets)
any-for u chair tag [] = refl
any-for u chair tag (s ∷ sets) = by (is_tag_for u chair s) (any-for u chair tag sets)
  where
    kept : List SetTag
    kept = filter (is_tag_for u chair) sets

    rest : Bool
    rest = list_any (λ (s : SetTag). is_tag_for u chair s && bytes_eq tag s.tag) sets

    told : List SetTag → Bool
    told sets = list_any (bytes_eq tag) (map (λ (s : SetTag). s.tag) sets)

    by : (b : Bool) → rest ≡ told kept → ((b && bytes_eq tag s.tag) || rest) ≡ told (cond b (s ∷ kept) kept)
    by true h = ap (λ (r : Bool). bytes_eq tag s.tag || r) h
    by false h = h
