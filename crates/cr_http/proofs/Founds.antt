-- SPDX-License-Identifier: Apache-2.0 OR MIT
-- What stands at the front of a text stays there however the text goes on.
use Rattle.std.proofs.Common.{◌≡◌, ℕ, ◌-◌, ◌<◌, ◌≤◌, List, ◌++◌, length, take, drop, Option, Some, None, Bool, true}
use Rattle.std.proofs.Common.{false, refl, sym, ◌∙◌, ap, subst, arith, inl, inr, length-append, length-drop}
use Rattle.std.specs.Prelude.{◌==◌, nat_lt, nat_le, if◌then◌else◌, slice_range, MatchBool}
use Rattle.std.proofs.lemmas.List.{drop-append-le, take-append-le}
use Rattle.cr_http.specs.declared.framing.Framing.{Framing}
use Rattle.cr_http.specs.declared.framing.Framing.TheVariants.{Body, Refuse}
use Rattle.cr_http.specs.declared.refusal.Refusal.TheVariants.{HeadTooLarge}
use Rattle.cr_http.specs.HeadRange.{blank_end_from, head_at}
use Rattle.cr_http.specs.Head.{HeadText, head_of, framing_of}
use Rattle.cr_http.specs.Found.{Found, whole, refused, clean, cut, without_head, with_body, line_feeds, StandsAfter}
use Rattle.cr_http.specs.Found.{StandsFrom, StandsAt, IsFinal, found_and}
use Rattle.cr_http.specs.Reading.{IsSettled}
use Rattle.cr_http.proofs.Windows.{head_at-append, head_at-full, head_at_bounds}

with_body-append : (h : HeadText) (framing : Framing) (rest more : List ℕ) → IsFinal (with_body h framing rest)
    → with_body h framing (rest ++ more) ≡ found_and (with_body h framing rest) more
with_body-append h (Refuse why) rest more final = refl
with_body-append h (Body n) rest more final = fits (nat_le n (length rest)) refl final
  where
    fits : (t : Bool) → nat_le n (length rest) ≡ t → IsFinal (if t then whole h (take n rest) (drop n rest) else cut)
        → (if nat_le n (length (rest ++ more)) then whole h (take n (rest ++ more)) (drop n (rest ++ more)) else cut)
        ≡ found_and (if t then whole h (take n rest) (drop n rest) else cut) more
    fits false e final = absurd final
    fits true e final =
        let le : n ≤ length rest = grind arith in
        let longer : nat_le n (length (rest ++ more)) ≡ true = let l = length-append rest more in grind (arith, l) in
        rw longer (rw (take-append-le n rest more le) (rw (drop-append-le n rest more le) refl))

with_body-back : (h : HeadText) (framing : Framing) (rest more : List ℕ) → IsFinal (with_body h framing rest)
    → found_and (with_body h framing rest) more ≡ with_body h framing (rest ++ more)
with_body-back h framing rest more final = sym (with_body-append h framing rest more final)

after-append : (bytes rest more : List ℕ) (found : Found) → IsFinal found → StandsAfter bytes rest found
    → StandsAfter bytes (rest ++ more) (found_and found more)
after-append bytes rest more found final (inl is) =
    let final' : IsFinal (with_body (head_of is.0) (framing_of (head_of is.0)) rest) = subst IsFinal is.2 final in
    inl (
      is.0,
      is.1,
      ap (λ f. found_and f more) is.2 ∙ with_body-back (head_of is.0) (framing_of (head_of is.0)) rest
          more final',
    )
after-append bytes rest more found final (inr is) = inr (is.0, ap (λ f. found_and f more) is.1)

without_head-append : (text more : List ℕ) (found : Found) → found ≡ without_head text → IsFinal found
    → (16384 ≤ length text) × (found_and found more ≡ without_head (text ++ more))
without_head-append text more found is final =
    full (nat_lt (length text) 16384) (blank_end_from 0 text == length text) refl is
  where
    full : (t u : Bool) → nat_lt (length text) 16384 ≡ t
        → found ≡ (if t then (if u then clean else cut) else refused HeadTooLarge false)
        → (16384 ≤ length text) × (found_and found more ≡ without_head (text ++ more))
    full true true e is = absurd (subst IsFinal is final)
    full true false e is = absurd (subst IsFinal is final)
    full false u e is =
        let le : 16384 ≤ length text = grind arith in
        let longer : nat_lt (length (text ++ more)) 16384 ≡ false = let l =
        length-append text more in grind (arith, l) in
        (le, rw longer (ap (λ f. found_and f more) is))

pub slice_range-append : (text more : List ℕ) (from to : ℕ) → from < to → to ≤ length text
    → slice_range (text ++ more) from to ≡ slice_range text from to
slice_range-append text more from to lt le =
    let f : from ≤ length text = omega arith in
    let l : to - from ≤ length (drop from text) = let d = length-drop from text in omega (arith, d) in
    rw (drop-append-le from text more f) (take-append-le (to - from) (drop from text) more l)

from-append : (text more : List ℕ) (range : Option (ℕ × ℕ)) (found : Found) → head_at text ≡ range → IsFinal found
    → StandsFrom text range found → StandsAt (text ++ more) (found_and found more)
from-append text more None found at final is =
    let full = without_head-append text more found is final in
    let none : head_at (text ++ more) ≡ None = head_at-full text more full.0 ∙ at in
    subst (λ (o : Option (ℕ × ℕ)). StandsFrom (text ++ more) o (found_and found more)) (sym none) full.1
from-append text more (Some range) found at final is =
    let some = head_at-append text more range at in
    let b = head_at_bounds text range at in
    subst (λ (o : Option (ℕ × ℕ)). StandsFrom (text ++ more) o (found_and found more)) (sym some)
    (rw (slice_range-append text more range.0 range.1 b.0 b.1) (rw (drop-append-le range.1 text more b.1)
    (many (nat_lt 66 (line_feeds (slice_range text range.0 range.1))) is)))
  where
    many : (t : Bool) → MatchBool t (found ≡ refused HeadTooLarge false)
        (StandsAfter (slice_range text range.0 range.1) (drop range.1 text) found)
        → MatchBool t (found_and found more ≡ refused HeadTooLarge false)
        (StandsAfter (slice_range text range.0 range.1) (drop range.1 text ++ more) (found_and found more))
    many true is = ap (λ f. found_and f more) is
    many false is = after-append (slice_range text range.0 range.1) (drop range.1 text) more found final is

-- the main fact: what was read of the bytes that came is what stands in the whole text
pub StandsAt-append : (text more : List ℕ) (found : Found) → IsFinal found → StandsAt text found
    → StandsAt (text ++ more) (found_and found more)
StandsAt-append text more found final is = from-append text more (head_at text) found refl final is

final_and : (found : Found) (more : List ℕ) → IsFinal found → IsFinal (found_and found more)
final_and (whole h body rest) more final = final
final_and (refused why head) more final = final
final_and clean more final = final
final_and cut more final = final

-- what a text settles, each longer one does
pub settled-append : (text more : List ℕ) → IsSettled text → IsSettled (text ++ more)
settled-append text more s = (found_and s.0 more, final_and s.0 more s.1, StandsAt-append text more s.0 s.1 s.2)
