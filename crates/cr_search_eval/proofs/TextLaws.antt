-- SPDX-License-Identifier: Apache-2.0 OR MIT
-- Whether a value stands in a text: from one byte that is like its first to the next.
use Rattle.std.proofs.Common.{ℕ, zero, suc, Bool, true, false, ◌≡◌, ◌<◌, ◌≤◌, ◌+◌, ◌-◌, ◌&&◌, ◌||◌, ◌==◌, List, [], ◌∷◌}
use Rattle.std.proofs.Common.{length, drop, refl, sym, ap, subst, ◌∙◌, arith, slice_index, if◌then◌else◌}
use Rattle.std.specs.Char.{to_ascii_lowercase, to_ascii_uppercase}
use Rattle.std.specs.Int.{IsInRange}
use Rattle.std.specs.Bool.{⊤}
use Rattle.std.specs.List.{list_any}
use Rattle.memchr.specs.Find.{is_byte2, places, places_from}
use Rattle.std.proofs.lemmas.List.{at_drop_more}
use Rattle.std.proofs.lemmas.Str.Ascii.{lowercase_is, uppercase_is}
use Rattle.std.proofs.Math.ListN.{drop_of_length-le}
use Rattle.cr_base.specs.Searching.{begins_alike, contains, is_alike}

-- a text that is shorter than the value doesn't begin with it
pub begins-short : (value text : List ℕ) → length text < length value → begins_alike value text ≡ false
begins-short [] text h = absurd (omega (arith, h))
begins-short (b ∷ value) [] h = refl
begins-short (b ∷ value) (c ∷ text) h = by (is_alike b c) (begins-short value text (omega (arith, h)))
  where
    by : (a : Bool) → begins_alike value text ≡ false → (a && begins_alike value text) ≡ false
    by true short = short
    by false short = refl

-- no byte at all stands everywhere
pub contains-nothing : (value text : List ℕ) → length value ≡ 0 → true ≡ contains value text
contains-nothing [] [] h = refl
contains-nothing [] (c ∷ text) h = refl
contains-nothing (b ∷ value) text h = absurd (omega (arith, h))

-- the value stands at one of these places
abbrev pub stands_at_some : List ℕ → List ℕ → List ℕ → Bool
stands_at_some value text places = list_any (λ (k : ℕ). begins_alike value (drop k text)) places

-- places within so many bytes
abbrev pub AreIn : ℕ → List ℕ → Type 0
AreIn n [] = ⊤
AreIn n (k ∷ places) = (k < n) × AreIn n places

-- a byte is like another where it is that one, in lower case or in capitals
pub alike-cases : (b c : ℕ) → is_alike b c ≡ is_byte2 (to_ascii_lowercase b) (to_ascii_uppercase b) c
alike-cases b c = like b c (to_ascii_lowercase b) (to_ascii_lowercase c) (to_ascii_uppercase b) (lowercase_is b)
    (lowercase_is c) (uppercase_is b)
  where
    like : (b c lower lower' upper : ℕ)
        → (IsInRange 65 90 b → lower ≡ b + 32) × (b < 65 → lower ≡ b) × (90 < b → lower ≡ b)
        → (IsInRange 65 90 c → lower' ≡ c + 32) × (c < 65 → lower' ≡ c) × (90 < c → lower' ≡ c)
        → (IsInRange 97 122 b → upper + 32 ≡ b) × (b < 97 → upper ≡ b) × (122 < b → upper ≡ b)
        → (lower == lower') ≡ (c == lower || c == upper)
    like b c lower lower' upper hb hc hu = grind (arith, hb, hc, hu)

-- so it is enough to look at the places of such bytes
pub leaps : (b : ℕ) (value text : List ℕ) (i n : ℕ) → i + n ≡ length text
    → stands_at_some (b ∷ value) text (places_from (is_byte2 (to_ascii_lowercase b) (to_ascii_uppercase b)) text i n)
    ≡ contains (b ∷ value) (drop i text)
unfolding places_from
leaps b value text i zero h =
    sym (ap (λ (rest : List ℕ). contains (b ∷ value) rest) (drop_of_length-le text (omega (arith, h))))
leaps b value text i (suc n) h =
    by (test byte) (sym (alike-cases b byte)) (leaps b value text (i + 1) n (omega (arith, h)))
    ∙ sym (at_drop_more (contains (b ∷ value)) text i 0 within)
  where
    test : ℕ → Bool
    test = is_byte2 (to_ascii_lowercase b) (to_ascii_uppercase b)

    byte : ℕ
    byte = slice_index text i

    within : i < length text
    within = omega (arith, h)

    later : List ℕ
    later = places_from test text (i + 1) n

    by : (t : Bool) → t ≡ is_alike b byte → stands_at_some (b ∷ value) text later
        ≡ contains (b ∷ value) (drop (i + 1) text)
        → stands_at_some (b ∷ value) text (if t then i ∷ later else later)
        ≡ (is_alike b byte && begins_alike value (drop (i + 1) text) || contains (b ∷ value) (drop (i + 1) text))
    by true alike rest =
        ap (λ (x : Bool). x || stands_at_some (b ∷ value) text later)
        (at_drop_more (begins_alike (b ∷ value)) text i 0 within)
        ∙ ap (λ (x : Bool). is_alike b byte && begins_alike value (drop (i + 1) text) || x) rest
    by false alike rest =
        rest
        ∙ ap (λ (a : Bool). a && begins_alike value (drop (i + 1) text) || contains (b ∷ value) (drop (i + 1) text))
        alike

-- these places are in the text
pub places-in : (test : ℕ → Bool) (text : List ℕ) (i n m : ℕ) → i + n ≤ m → AreIn m (places_from test text i n)
unfolding places_from
places-in test text i zero m h = tt
places-in test text i (suc n) m h = by (test (slice_index text i)) (places-in test text (i + 1) n m (omega (arith, h)))
  where
    by : (t : Bool) → AreIn m (places_from test text (i + 1) n)
        → AreIn m (if t then i ∷ places_from test text (i + 1) n else places_from test text (i + 1) n)
    by true rest = (omega (arith, h), rest)
    by false rest = rest

-- the places of such bytes lead to the value, and are in the text
pub leads : (value text rest : List ℕ) (lower upper : ℕ) → 0 < length value
    → lower ≡ to_ascii_lowercase (slice_index value 0) → upper ≡ to_ascii_uppercase (slice_index value 0)
    → rest ≡ places (is_byte2 lower upper) text
    → (stands_at_some value text rest ≡ contains value text) × AreIn (length text) rest
leads [] text rest lower upper some low up h = absurd (omega (arith, some))
leads (b ∷ value) text rest lower upper some low up h = (
  ap (stands_at_some (b ∷ value) text) (h ∙ cased) ∙ leaps b value text 0 (length text - 0) all,
  subst (AreIn (length text)) (sym h) (places-in (is_byte2 lower upper) text 0 (length text - 0) (length text)
      (omega (arith, all))),
)
  where
    all : 0 + (length text - 0) ≡ length text
    all = omega arith

    cased : places (is_byte2 lower upper) text ≡ places (is_byte2 (to_ascii_lowercase b) (to_ascii_uppercase b)) text
    cased = ap (λ (lower : ℕ). places (is_byte2 lower upper) text) low
        ∙ ap (λ (upper : ℕ). places (is_byte2 (to_ascii_lowercase b) upper) text) up
