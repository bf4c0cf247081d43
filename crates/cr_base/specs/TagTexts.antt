-- SPDX-License-Identifier: Apache-2.0 OR MIT
-- The grammar of tags (the HotCRP manual's: `~` is one's own, `~~` is for chairs).
use Rattle.std.specs.Prelude.{ℕ, Bool, false, not, ◌&&◌, ◌==◌, List, [], ◌∷◌, drop, if◌then◌else◌}
use Rattle.cr_base.specs.Texts.{is_name}

-- the text begins with `~`
abbrev pub is_tilded : List ℕ → Bool
is_tilded [] = false
is_tilded (b ∷ bytes) = b == 126

-- two of them do: the tag is for chairs
abbrev pub is_for_chairs : List ℕ → Bool
is_for_chairs text = is_tilded text && is_tilded (drop 1 text)

-- the tag begins with one `~`: it is private to the user who sets it
abbrev pub is_private : List ℕ → Bool
is_private text = is_tilded text && not (is_tilded (drop 1 text))

-- none does: the tag is for all members
abbrev pub is_for_all : List ℕ → Bool
is_for_all text = not (is_tilded text)

-- the tag without the `~` before it
abbrev pub tag_word : List ℕ → List ℕ
tag_word text = if is_for_chairs text then drop 2 text else (if is_tilded text then drop 1 text else text)

-- a tag: its word is 1 to 32 of a to z, 0 to 9 and the dash, as a name is
abbrev pub is_tag : List ℕ → Bool
is_tag text = is_name (tag_word text)
