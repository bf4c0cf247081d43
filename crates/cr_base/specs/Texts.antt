-- SPDX-License-Identifier: Apache-2.0 OR MIT
-- The grammar of names, titles, abstracts, reviews and comments, and how long a content may be. The bounds are the
-- server's own (docs/API.md).
use Rattle.std.specs.Prelude.{ℕ, Bool, ◌≤◌, ◌==◌, ◌||◌, ◌&&◌, not, nat_le, List, length, IsTrue}
use Rattle.std.specs.List.{list_all}
use Rattle.std.specs.Char.{is_ascii_lowercase, is_ascii_digit}
use Rattle.std.specs.Str.{is_utf8}

-- ---- names

-- a to z, 0 to 9 and the dash
abbrev pub is_name_byte : ℕ → Bool
is_name_byte b = is_ascii_lowercase b || is_ascii_digit b || b == 45

-- a user's name: 1 to 32 such bytes
pub record IsName (text : List ℕ) : Type 0 where
  pub some : 1 ≤ length text
  pub few : length text ≤ 32
  pub bytes : IsTrue (list_all is_name_byte text)

-- `IsName` as a test
abbrev pub is_name : List ℕ → Bool
is_name text = nat_le 1 (length text) && nat_le (length text) 32 && list_all is_name_byte text

-- ---- titles

-- no control character's: none below U+0020, and not U+007F; the bytes of longer characters are from 128 on
abbrev pub is_title_byte : ℕ → Bool
is_title_byte b = nat_le 32 b && not (b == 127)

-- a title: UTF-8, 1 to 200 such bytes
pub record IsTitle (text : List ℕ) : Type 0 where
  pub some : 1 ≤ length text
  pub few : length text ≤ 200
  pub bytes : IsTrue (list_all is_title_byte text)
  pub utf8 : IsTrue (is_utf8 text)

-- `IsTitle` as a test
abbrev pub is_title : List ℕ → Bool
is_title text = nat_le 1 (length text) && nat_le (length text) 200 && list_all is_title_byte text && is_utf8 text

-- ---- abstracts

-- an abstract: UTF-8, at most 5,000 bytes
pub record IsAbstract (text : List ℕ) : Type 0 where
  pub few : length text ≤ 5000
  pub utf8 : IsTrue (is_utf8 text)

-- `IsAbstract` as a test
abbrev pub is_abstract : List ℕ → Bool
is_abstract text = nat_le (length text) 5000 && is_utf8 text

-- ---- reviews and comments

-- a text of a review: UTF-8, at most 20,000 bytes
pub record IsReviewText (text : List ℕ) : Type 0 where
  pub few : length text ≤ 20000
  pub utf8 : IsTrue (is_utf8 text)

-- a comment, and an authors' response: UTF-8, 1 to 10,000 bytes
pub record IsCommentText (text : List ℕ) : Type 0 where
  pub some : 1 ≤ length text
  pub few : length text ≤ 10000
  pub utf8 : IsTrue (is_utf8 text)

-- `IsReviewText` as a test
abbrev pub is_review_text : List ℕ → Bool
is_review_text text = nat_le (length text) 20000 && is_utf8 text

-- `IsCommentText` as a test
abbrev pub is_comment_text : List ℕ → Bool
is_comment_text text = nat_le 1 (length text) && nat_le (length text) 10000 && is_utf8 text

-- ---- contents

-- what is uploaded at once: any bytes, at most 4,194,304
abbrev pub IsContent : List ℕ → Type 0
IsContent bytes = length bytes ≤ 4194304
