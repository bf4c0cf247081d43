-- SPDX-License-Identifier: Apache-2.0 OR MIT
-- A head that was found stays where it is, whatever bytes follow.
use Rattle.std.proofs.Common.{◌≡◌, ℕ, ◌+◌, ◌-◌, ◌<◌, ◌≤◌, List, [], ◌∷◌, ◌++◌, length, take, drop, Option, Some, None}
use Rattle.std.proofs.Common.{Bool, true, false, refl, sym, ap, arith, suc, zero, length-take, length-drop}
use Rattle.std.specs.Prelude.{◌==◌, ◌&&◌, if◌then◌else◌}
use Rattle.std.proofs.lemmas.List.{drop-append-le, take-append-le}
use Rattle.cr_http.specs.HeadRange.{empty_line_len, blank_end_from, head_end_from, or_later, starting_at, head_within}
use Rattle.cr_http.specs.HeadRange.{head_at}

-- the empty line behind an LF stays, or its absence, where a head ends
same_empty : (at : ℕ) (bytes more : List ℕ) (end : ℕ)
    → or_later at (empty_line_len bytes) (head_end_from (at + 1) bytes) ≡ Some end
    → empty_line_len (bytes ++ more) ≡ empty_line_len bytes
same_empty at [] more end is = absurd (cc)
same_empty at (b ∷ []) [] end is = refl
same_empty at (b ∷ []) (c ∷ more) end is = one (b == 10) is
  where
    one : (t : Bool) → or_later at (if t then 1 else 0) (if t then None else None) ≡ Some end
        → ◌≡◌ {A = ℕ} (if t then 1 else if b == 13 && c == 10 then 2 else 0) (if t then 1 else 0)
    one true is = refl
    one false is = absurd (cc)
same_empty at (a ∷ b ∷ bytes) more end is = refl

later : (z : Bool) (v end : ℕ) (rest rest' : Option ℕ) → (rest ≡ Some end → rest' ≡ Some end)
    → (if z then rest else Some v) ≡ Some end → (if z then rest' else Some v) ≡ Some end
later true v end rest rest' go is = go is
later false v end rest rest' go is = is

-- where a head ends in the bytes, it ends there in more
pub head_end_from-append : (at : ℕ) (bytes more : List ℕ) (end : ℕ) → head_end_from at bytes ≡ Some end
    → head_end_from at (bytes ++ more) ≡ Some end
head_end_from-append at [] more end is = absurd (cc)
head_end_from-append at (a ∷ bytes) more end is = first (a == 10) (head_end_from-append (at + 1) bytes more end) is
  where
    first : (t : Bool) → (head_end_from (at + 1) bytes ≡ Some end → head_end_from (at + 1) (bytes ++ more) ≡ Some end)
        → (if t then or_later at (empty_line_len bytes) (head_end_from (at + 1) bytes) else head_end_from (at + 1)
        bytes) ≡ Some end
        → (if t then or_later at (empty_line_len (bytes ++ more)) (head_end_from (at + 1) (bytes ++ more)) else
        head_end_from (at + 1) (bytes ++ more))
        ≡ Some end
    first true go is = rw (same_empty at bytes more end is) (later (empty_line_len bytes == 0) _ end _ _ go is)
    first false go is = go is

pub at_le_blank_end : (at : ℕ) (bytes : List ℕ) → at ≤ blank_end_from at bytes
at_le_blank_end at [] = omega arith
at_le_blank_end at (a ∷ []) = one (a == 10)
  where
    one : (t : Bool) → at ≤ (if t then at + 1 else at)
    one true = omega arith
    one false = omega arith
at_le_blank_end at (a ∷ b ∷ bytes) =
    two (a == 10) (a == 13 && b == 10) (at_le_blank_end (at + 1) (b ∷ bytes)) (at_le_blank_end (at + 2) bytes)
  where
    two : (t u : Bool) → at + 1 ≤ blank_end_from (at + 1) (b ∷ bytes) → at + 2 ≤ blank_end_from (at + 2) bytes
        → at ≤ (if t then blank_end_from (at + 1) (b ∷ bytes) else if u then blank_end_from (at + 2) bytes else at)
    two true u p q = omega arith
    two false true p q = omega arith
    two false false p q = omega arith

drop_less : (at end : ℕ) (a : ℕ) (bytes : List ℕ) → at + 1 ≤ end
    → drop (end - at) (a ∷ bytes) ≡ drop (end - (at + 1)) bytes
drop_less at end a bytes le = let e : end - at ≡ suc (end - (at + 1)) = omega arith in rw e refl

drop_two_less : (at end : ℕ) (a b : ℕ) (bytes : List ℕ) → at + 2 ≤ end
    → drop (end - at) (a ∷ b ∷ bytes) ≡ drop (end - (at + 2)) bytes
drop_two_less at end a b bytes le = let e : end - at ≡ suc (suc (end - (at + 2))) = omega arith in rw e refl

-- a head from this offset on, behind the empty lines
abbrev pub behind_blank : ℕ → ℕ → List ℕ → Option ℕ
behind_blank at start bytes = head_end_from start (drop (start - at) bytes)

drop_of_nil : (n : ℕ) → drop {A = ℕ} n [] ≡ []
drop_of_nil zero = refl
drop_of_nil (suc n) = refl

no_head : (at end : ℕ) (rest : List ℕ) → rest ≡ [] → head_end_from at rest ≡ Some end → ⊥
no_head at end rest e is = let f : head_end_from at rest ≡ None = ap (head_end_from at) e in cc

no_head_at_one : (at end a : ℕ) → (a == 10) ≡ false → head_end_from at (a ∷ []) ≡ Some end → ⊥
no_head_at_one at end a e is = none (a == 10) e is
  where
    none : (t : Bool) → t ≡ false → (if t then or_later at 0 None else None) ≡ Some end → ⊥
    none true e is = cc
    none false e is = cc

-- the empty lines before a head stay as they are
pub blank_end_from-append : (at : ℕ) (bytes more : List ℕ) (end : ℕ)
    → behind_blank at (blank_end_from at bytes) bytes ≡ Some end
    → blank_end_from at (bytes ++ more) ≡ blank_end_from at bytes
blank_end_from-append at [] more end is = absurd (no_head at end (drop (at - at) []) (drop_of_nil (at - at)) is)
blank_end_from-append at (a ∷ []) more end is = one (a == 10) more refl is
  where
    one : (t : Bool) (more : List ℕ) → (a == 10) ≡ t → behind_blank at (if t then at + 1 else at) (a ∷ []) ≡ Some end
        → blank_end_from at (a ∷ more) ≡ (if t then at + 1 else at)
    one true more e is = let f : drop (at + 1 - at) (a ∷ []) ≡ [] = let g : at + 1 - at ≡ suc zero =
        omega arith in rw g refl in
        absurd (no_head (at + 1) end _ f is)
    one false more e is = let f : drop (at - at) (a ∷ []) ≡ a ∷ [] = let g : at - at ≡ zero =
        omega arith in rw g refl in
        absurd (no_head_at_one at end a e (rw f at is))
blank_end_from-append at (a ∷ b ∷ bytes) more end is =
    two (a == 10) (a == 13 && b == 10) (blank_end_from-append (at + 1) (b ∷ bytes) more end)
    (blank_end_from-append (at + 2) bytes more end)
    (at_le_blank_end (at + 1) (b ∷ bytes)) (at_le_blank_end (at + 2) bytes) is
  where
    two : (t u : Bool)
        → (behind_blank (at + 1) (blank_end_from (at + 1) (b ∷ bytes)) (b ∷ bytes) ≡ Some end
        → blank_end_from (at + 1) (b ∷ (bytes ++ more)) ≡ blank_end_from (at + 1) (b ∷ bytes))
        → (behind_blank (at + 2) (blank_end_from (at + 2) bytes) bytes ≡ Some end → blank_end_from (at + 2)
        (bytes ++ more) ≡ blank_end_from (at + 2) bytes)
        → at + 1 ≤ blank_end_from (at + 1) (b ∷ bytes) → at + 2 ≤ blank_end_from (at + 2) bytes
        → behind_blank at (if t then blank_end_from (at + 1) (b ∷ bytes) else if u then blank_end_from (at + 2) bytes
        else at) (a ∷ b ∷ bytes) ≡ Some end
        → (if t then blank_end_from (at + 1) (b ∷ (bytes ++ more)) else if u then blank_end_from (at + 2)
        (bytes ++ more) else at)
        ≡ (if t then blank_end_from (at + 1) (b ∷ bytes) else if u then blank_end_from (at + 2) bytes else at)
    two true u go1 go2 le1 le2 is = go1 (rw (← drop_less at (blank_end_from (at + 1) (b ∷ bytes)) a (b ∷ bytes) le1) is)
    two false true go1 go2 le1 le2 is =
        go2 (rw (← drop_two_less at (blank_end_from (at + 2) bytes) a b bytes le2) is)
    two false false go1 go2 le1 le2 is = refl

pub blank_end_le : (at : ℕ) (bytes : List ℕ) → blank_end_from at bytes ≤ at + length bytes
blank_end_le at [] = omega arith
blank_end_le at (a ∷ []) = one (a == 10)
  where
    one : (t : Bool) → (if t then at + 1 else at) ≤ at + suc zero
    one true = omega arith
    one false = omega arith
blank_end_le at (a ∷ b ∷ bytes) =
    two (a == 10) (a == 13 && b == 10) (blank_end_le (at + 1) (b ∷ bytes)) (blank_end_le (at + 2) bytes)
  where
    two : (t u : Bool) → blank_end_from (at + 1) (b ∷ bytes) ≤ at + 1 + suc (length bytes)
        → blank_end_from (at + 2) bytes ≤ at + 2 + length bytes
        → (if t then blank_end_from (at + 1) (b ∷ bytes) else if u then blank_end_from (at + 2) bytes else at) ≤ at
        + suc (suc (length bytes))
    two true u p q = omega arith
    two false true p q = omega arith
    two false false p q = omega arith

empty_line_len_le : (bytes : List ℕ) → empty_line_len bytes ≤ length bytes
empty_line_len_le [] = omega arith
empty_line_len_le (a ∷ []) = one (a == 10)
  where
    one : (t : Bool) → ◌≤◌ (if t then 1 else 0) (suc zero)
    one true = omega arith
    one false = omega arith
empty_line_len_le (a ∷ b ∷ bytes) = two (a == 10) (a == 13 && b == 10)
  where
    two : (t u : Bool) → ◌≤◌ (if t then 1 else if u then 2 else 0) (suc (suc (length bytes)))
    two true u = omega arith
    two false true = omega arith
    two false false = omega arith

pub head_end_bounds : (at : ℕ) (bytes : List ℕ) (end : ℕ) → head_end_from at bytes ≡ Some end
    → (at < end) × (end ≤ at + length bytes)
head_end_bounds at [] end is = absurd (cc)
head_end_bounds at (a ∷ bytes) end is =
    first (a == 10) (empty_line_len bytes == 0) (empty_line_len_le bytes) (head_end_bounds (at + 1) bytes end) is
  where
    first : (t z : Bool) → empty_line_len bytes ≤ length bytes
        → (head_end_from (at + 1) bytes ≡ Some end → (at + 1 < end) × (end ≤ at + 1 + length bytes))
        → (if t then (if z then head_end_from (at + 1) bytes else Some (at + 1 + empty_line_len bytes)) else
        head_end_from (at + 1) bytes) ≡ Some end
        → (at < end) × (end ≤ at + suc (length bytes))
    first true true le go is = let h : (at + 1 < end) × (end ≤ at + 1 + length bytes) =
        go is in (omega arith, omega arith)
    first true false le go is = let h : at + 1 + empty_line_len bytes ≡ end = cc in (omega arith, omega arith)
    first false z le go is = let h : (at + 1 < end) × (end ≤ at + 1 + length bytes) =
        go is in (omega arith, omega arith)

-- where a head begins and ends, as its two offsets
pub head_within_is : (bytes : List ℕ) (range : ℕ × ℕ) → head_within bytes ≡ Some range
    → (range.0 ≡ blank_end_from 0 bytes) × (head_end_from (blank_end_from 0 bytes) (drop (blank_end_from 0 bytes) bytes)
    ≡ Some range.1)
head_within_is bytes range is = found (head_end_from (blank_end_from 0 bytes) (drop (blank_end_from 0 bytes) bytes)) is
  where
    found : (end : Option ℕ) → starting_at (blank_end_from 0 bytes) end ≡ Some range
        → (range.0 ≡ blank_end_from 0 bytes) × (end ≡ Some range.1)
    found None is = absurd (cc)
    found (Some end) is = let e : (blank_end_from 0 bytes, end) ≡ range =
        cc in (sym (ap (λ (p : ℕ × ℕ). p.0) e), ap (λ (p : ℕ × ℕ). Some p.1) e)

pub head_within_bounds : (bytes : List ℕ) (range : ℕ × ℕ) → head_within bytes ≡ Some range
    → (range.0 < range.1) × (range.1 ≤ length bytes)
head_within_bounds bytes range is =
    let at = head_within_is bytes range is in
    let le : blank_end_from 0 bytes ≤ 0 + length bytes = blank_end_le 0 bytes in
    let b = head_end_bounds (blank_end_from 0 bytes) (drop (blank_end_from 0 bytes) bytes) range.1 at.1 in
    let l = length-drop (blank_end_from 0 bytes) bytes in
    (omega (arith, at.0, b), omega (arith, at.0, b))

pub head_within-append : (bytes more : List ℕ) (range : ℕ × ℕ) → head_within bytes ≡ Some range
    → head_within (bytes ++ more) ≡ Some range
head_within-append bytes more range is =
    let at = head_within_is bytes range is in
    let le : blank_end_from 0 bytes ≤ length bytes = let h = blank_end_le 0 bytes in omega (arith, h) in
    let same : blank_end_from 0 (bytes ++ more) ≡ blank_end_from 0 bytes =
    blank_end_from-append 0 bytes more range.1
    (let z : blank_end_from 0 bytes - 0 ≡ blank_end_from 0 bytes = omega arith in rw z at.1) in
    let end : head_end_from (blank_end_from 0 bytes) (drop (blank_end_from 0 bytes) (bytes ++ more)) ≡ Some range.1 =
    rw (drop-append-le (blank_end_from 0 bytes) bytes more le)
    (head_end_from-append (blank_end_from 0 bytes) (drop (blank_end_from 0 bytes) bytes) more range.1 at.1) in
    rw same (rw end (ap Some (λ i. (sym at.0 i, range.1))))

-- a front of a longer text is a front of the text, and maybe more
pub front_grows : (n : ℕ) (text more : List ℕ) → (other : List ℕ) × (take n (text ++ more) ≡ take n text ++ other)
front_grows zero text more = ([], refl)
front_grows (suc n) [] more = (take (suc n) more, refl)
front_grows (suc n) (a ∷ text) more = let h = front_grows n text more in (h.0, ap (λ l. a ∷ l) h.1)

head_in_front-append : (n : ℕ) (text more : List ℕ) (range : ℕ × ℕ) → head_within (take n text) ≡ Some range
    → head_within (take n (text ++ more)) ≡ Some range
head_in_front-append n text more range is =
    let grows = front_grows n text more in
    rw grows.1 (head_within-append (take n text) grows.0 range is)

pub head_at-append : (text more : List ℕ) (range : ℕ × ℕ) → head_at text ≡ Some range
    → head_at (text ++ more) ≡ Some range
head_at-append text more range is = head_in_front-append 16384 text more range is

-- where the window is full, more bytes change nothing
pub head_at-full : (text more : List ℕ) → 16384 ≤ length text → head_at (text ++ more) ≡ head_at text
head_at-full text more full = ap head_within (take-append-le 16384 text more full)

front_bounds : (n : ℕ) (text : List ℕ) (range : ℕ × ℕ) → head_within (take n text) ≡ Some range
    → (range.0 < range.1) × (range.1 ≤ length text)
front_bounds n text range is =
    let b = head_within_bounds (take n text) range is in
    let l = length-take n text in
    (b.0, omega (arith, b, l))

pub head_at_bounds : (text : List ℕ) (range : ℕ × ℕ) → head_at text ≡ Some range
    → (range.0 < range.1) × (range.1 ≤ length text)
head_at_bounds text range is = front_bounds 16384 text range is

front_end_le : (n : ℕ) (text : List ℕ) (range : ℕ × ℕ) → head_within (take n text) ≡ Some range → range.1 ≤ n
front_end_le n text range is =
    let b = head_within_bounds (take n text) range is in
    let l = length-take n text in
    omega (arith, b, l)

pub head_at_end_le : (text : List ℕ) (range : ℕ × ℕ) → head_at text ≡ Some range → range.1 ≤ 16384
head_at_end_le text range is = front_end_le 16384 text range is
