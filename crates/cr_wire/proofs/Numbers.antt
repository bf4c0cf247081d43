-- SPDX-License-Identifier: Apache-2.0 OR MIT
-- The numbers that a path and the field Command-Number may tell.
use Rattle.std.proofs.Common.{◌≡◌, ℕ, ◌<◌, ◌≤◌, ◌^◌, List, [], ◌∷◌, length, Bool, true, false, ◌&&◌, ◌==◌, not}
use Rattle.std.proofs.Common.{if◌then◌else◌, cond, Option, Some, None, Result, Ok, Err, IsTrue, refl, ap, subst, ◌∙◌}
use Rattle.std.proofs.Common.{arith, nat_le, nat_lt}
use Rattle.std.specs.Prelude.{codes, slice_index}
use Rattle.std.specs.Char.{is_ascii_digit}
use Rattle.std.specs.List.{list_all}
use Rattle.std.specs.Str.Parse.{AllDigits, ParsesUnsigned, digits_value}
use Rattle.std.proofs.lemmas.Bool.{and_parts, ltb-true, leb-true, le-leb}
use Rattle.std.proofs.lemmas.Str.Parse.{digits_value_short, numerals_by_value, parse_digits, tells_digits}
use Rattle.cr_base.proofs.ParseLaws.{digits, low_digits}
use Rattle.cr_base.specs.Keys.{IsKeyOrNone, command_number_of, last_command_number}
use Rattle.cr_base.specs.Traits.{ask_reads_number, ask_wants_login, traits_of}
use Rattle.cr_base.specs.declared.ask.Ask.{Ask}
use Rattle.cr_bodies.proofs.Marks.{mark-length}
use Rattle.cr_http.specs.Head.{values_of}
use Rattle.cr_http.specs.Requests.{RequestText}
use Rattle.cr_wire.specs.Bounds.{IsKeyFor}
use Rattle.cr_wire.specs.Number.{is_command_number, key_of, number_by, number_for, number_of}
use Rattle.cr_wire.specs.Paper.{is_number}
use Rattle.cr_wire.specs.Query.{is_short_number}
use Rattle.cr_wire.specs.declared.number.BadCommandNumber.{BadCommandNumber}

-- a number that isn't read passes what is told
pub unread : (k : ℕ) (text : List ℕ) → IsTrue (is_number text) → ParsesUnsigned {E = Unit {0}} k 10 text (Err tt)
    → 0 ≡ (if is_number text && nat_lt (digits_value 10 text) (2 ^ k) then digits_value 10 text else 0)
unread k text is fails =
    let front =
    and_parts (nat_le 1 (length text) && not (slice_index text 0 == 48)) (list_all is_ascii_digit text) is in
    let some : 1 ≤ length text =
    leb-true 1 (length text) (and_parts (nat_le 1 (length text)) (not (slice_index text 0 == 48)) front.0).0 in
    let never = parse_digits (numerals_by_value (AllDigits 10) tells_digits) {E = Unit {0}} k text (Err tt) fails
    (digits text front.1) in
    by (is_number text) (nat_lt (digits_value 10 text) (2 ^ k)) is refl (λ below. never (some, below))
  where
    by : (a b : Bool) → a ≡ true → nat_lt (digits_value 10 text) (2 ^ k) ≡ b → (digits_value 10 text < 2 ^ k → ⊥)
        → 0 ≡ (if a && b then digits_value 10 text else 0)
    by true true is below never = absurd (never (ltb-true (digits_value 10 text) (2 ^ k) below))
    by true false is above never = refl
    by false b is any never = refl

-- ---- the number of a command

-- its first digit isn't 0, all are digits, and there are at most 18
number_parts : (value : List ℕ) → IsTrue (is_command_number value)
    → IsTrue (nat_le 1 (length value)) × IsTrue (not (slice_index value 0 == 48))
    × IsTrue (list_all is_ascii_digit value) × IsTrue (nat_le (length value) 18)
number_parts value is =
    let all = and_parts (nat_le (length value) 18) (is_number value) is in
    let digits =
    and_parts (nat_le 1 (length value) && not (slice_index value 0 == 48)) (list_all is_ascii_digit value) all.1 in
    let front = and_parts (nat_le 1 (length value)) (not (slice_index value 0 == 48)) digits.0 in
    (front.0, front.1, digits.1, all.0)

-- what its decimal value is read of
pub number_digits : (value : List ℕ) → IsTrue (is_command_number value) → IsTrue (list_all is_ascii_digit value)
    × (length value ≤ 18)
number_digits value is = let all = number_parts value is in (all.2, leb-true (length value) 18 all.3)

-- it is one of the numbers that commands may have
number_low : (value : List ℕ) → IsTrue (is_command_number value) → 1 ≤ digits_value 10 value
number_low [] is = cc
number_low (b ∷ rest) is = let all = number_parts (b ∷ rest) is in low_digits b rest all.1 all.2

number_high : (value : List ℕ) → IsTrue (is_command_number value) → digits_value 10 value ≤ last_command_number
number_high value is =
    let read = number_digits value is in
    let below =
    digits_value_short (numerals_by_value (AllDigits 10) tells_digits) value 18 (digits value read.0) read.1 in
    omega (arith, below)

number_there : (value : List ℕ) → IsTrue (is_command_number value)
    → command_number_of (digits_value 10 value) ≡ Some (digits_value 10 value)
number_there value is =
    rw (
      le-leb 1 (digits_value 10 value) (number_low value is),
      le-leb (digits_value 10 value) last_command_number (number_high value is),
    ) refl

-- so reading it gives it
pub number_told : (value : List ℕ) (n : ℕ) (read : Option ℕ) → IsTrue (is_command_number value)
    → n ≡ digits_value 10 value → read ≡ command_number_of n
    → ◌≡◌ {A = Result (Option ℕ) BadCommandNumber} (Ok read) (number_of value)
number_told value n read is valued told = rw (is, told ∙ ap command_number_of valued ∙ number_there value is) refl

-- ---- the key of a command

-- no key is one of anything
no-key : (wanted : Bool) → IsKeyFor wanted None
no-key false = refl
no-key true = tt

-- a number that is told makes a key
told-key : (r : RequestText) (value : List ℕ) (number : Option ℕ) → number_of value ≡ Ok number
    → IsKeyOrNone (key_of number r)
told-key r value number told = by (is_command_number value) refl told
  where
    by : (b : Bool) → is_command_number value ≡ b
        → ◌≡◌ {A = Result (Option ℕ) BadCommandNumber} (cond b (Ok (Some (digits_value 10 value))) (Err (record {})))
        (Ok number)
        → IsKeyOrNone (key_of number r)
    by true is told = let same : Some (digits_value 10 value) ≡ number = cc (told) in
        subst (λ (n : Option ℕ). IsKeyOrNone (key_of n r)) same
        (record { low = number_low value is; high = number_high value is; mark = mark-length _ _ _ })
    by false is told = cc

by-values : (r : RequestText) (values : List (List ℕ)) (number : Option ℕ) → number_by values ≡ Ok number
    → IsKeyOrNone (key_of number r)
by-values r [] number told = let same : ◌≡◌ {A = Option ℕ} None number =
    cc (told) in subst (λ (n : Option ℕ). IsKeyOrNone (key_of n r)) same tt
by-values r (value ∷ []) number told = told-key r value number told
by-values r (value ∷ other ∷ values) number told = cc

-- whoever may tell a number is logged in
reads-wants : (ask : Ask) → IsTrue (ask_reads_number ask) → IsTrue (ask_wants_login ask)
reads-wants ask reads = (and_parts (traits_of ask).changes (ask_wants_login ask) reads).1

-- so the key that a request tells is one that its command may have
pub key-fits : (ask : Ask) (r : RequestText) (number : Option ℕ) → number_for ask r.head.fields ≡ Ok number
    → IsKeyFor (ask_wants_login ask) (key_of number r)
key-fits ask r number told = by (ask_reads_number ask) refl told
  where
    values : List (List ℕ)
    values = values_of (codes "command-number") r.head.fields

    by : (b : Bool) → ask_reads_number ask ≡ b → cond b (number_by values) (Ok None) ≡ Ok number
        → IsKeyFor (ask_wants_login ask) (key_of number r)
    by true reads told = rw (reads-wants ask reads) (by-values r values number told)
    by false reads told = let same : ◌≡◌ {A = Option ℕ} None number = cc (told) in
        subst (λ (n : Option ℕ). IsKeyFor (ask_wants_login ask) (key_of n r)) same (no-key (ask_wants_login ask))

-- ---- the numbers of a plan

-- what the value of one is read of
pub short_digits : (text : List ℕ) → IsTrue (is_short_number text) → IsTrue (list_all is_ascii_digit text)
    × (length text ≤ 18)
short_digits text is =
    let all = and_parts (is_number text) (nat_le (length text) 3) is in
    let digits =
    and_parts (nat_le 1 (length text) && not (slice_index text 0 == 48)) (list_all is_ascii_digit text) all.0 in
    (digits.1, omega (arith, leb-true (length text) 3 all.1))

-- it is at least 1
pub short_low : (text : List ℕ) → IsTrue (is_short_number text) → 1 ≤ digits_value 10 text
short_low [] is = cc
short_low (b ∷ rest) is =
    let all = and_parts (is_number (b ∷ rest)) (nat_le (length (b ∷ rest)) 3) is in
    let digits = and_parts (nat_le 1 (length (b ∷ rest)) && not (b == 48)) (list_all is_ascii_digit (b ∷ rest)) all.0 in
    let front = and_parts (nat_le 1 (length (b ∷ rest))) (not (b == 48)) digits.0 in
    low_digits b rest front.1 digits.1
