-- SPDX-License-Identifier: Apache-2.0 OR MIT
-- How the offsets in a text are found byte by byte.
use Rattle.std.proofs.Common.{◌≡◌, ℕ, ◌+◌, ◌≤◌, List, [], ◌∷◌, length, drop, Bool, true, false, refl, sym, ◌∙◌, arith}
use Rattle.std.proofs.lemmas.List.{drop-drop, take_rest}
use Rattle.std.proofs.Math.ListN.{drop_of_length-le}
use Rattle.std.specs.Prelude.{◌==◌, ◌&&◌, if◌then◌else◌}
use Rattle.cr_http.specs.HeadRange.{empty_line_len, blank_end_from}

pub blank_end_from-step : (at : ℕ) (bytes : List ℕ)
    → blank_end_from at bytes ≡ (if empty_line_len bytes == 0 then at else blank_end_from (at + empty_line_len bytes)
    (drop (empty_line_len bytes) bytes))
blank_end_from-step at [] = refl
blank_end_from-step at (a ∷ []) = one (a == 10)
  where
    one : (t : Bool) → (if t then at + 1 else at)
        ≡ (if (if t then 1 else 0) == 0 then at else blank_end_from (at + (if t then 1 else 0))
        (drop (if t then 1 else 0) (a ∷ [])))
    one true = refl
    one false = refl
blank_end_from-step at (a ∷ b ∷ bytes) = two (a == 10) (a == 13 && b == 10)
  where
    two : (t u : Bool)
        → (if t then blank_end_from (at + 1) (b ∷ bytes) else if u then blank_end_from (at + 2) bytes else at)
        ≡ (if (if t then 1 else if u then 2 else 0) == 0 then at
        else blank_end_from (at + (if t then 1 else if u then 2 else 0))
        (drop (if t then 1 else if u then 2 else 0) (a ∷ b ∷ bytes)))
    two true u = refl
    two false true = refl
    two false false = refl

-- an empty line at the front moves the offset on
pub blank_end_from-goes_on : (at : ℕ) (bytes : List ℕ) → (empty_line_len bytes ≡ 0 → ⊥)
    → blank_end_from at bytes ≡ blank_end_from (at + empty_line_len bytes) (drop (empty_line_len bytes) bytes)
blank_end_from-goes_on at bytes some = blank_end_from-step at bytes ∙ grind arith

pub blank_end_from-stops : (at : ℕ) (bytes : List ℕ) → empty_line_len bytes ≡ 0 → blank_end_from at bytes ≡ at
blank_end_from-stops at bytes none = blank_end_from-step at bytes ∙ grind arith

-- an empty line at an offset moves the offset on
pub blank_end_from-behind : (at empty : ℕ) (bytes : List ℕ) → empty ≡ empty_line_len (drop at bytes) → (empty ≡ 0 → ⊥)
    → blank_end_from (at + empty) (drop (at + empty) bytes) ≡ blank_end_from at (drop at bytes)
blank_end_from-behind at empty bytes is some =
    rw (← drop-drop empty at bytes) (rw is (sym (blank_end_from-goes_on at (drop at bytes) (λ none. some (is ∙ none)))))

pub blank_end_at_end : (at : ℕ) (bytes : List ℕ) → length bytes ≤ at → blank_end_from at (drop at bytes) ≡ at
blank_end_at_end at bytes past = rw (drop_of_length-le bytes past) refl

pub ruleset blank_behind = (blank_end_from-behind, blank_end_from-stops, blank_end_at_end, take_rest)
