-- SPDX-License-Identifier: Apache-2.0 OR MIT
-- What is left of a text behind a record is shorter, so that its records are counted out by its length.
use Rattle.std.proofs.Common.{◌≡◌, ℕ, zero, suc, ◌+◌, ◌<◌, ◌≤◌, ◌==◌, ◌&&◌, List, [], ◌∷◌, ◌++◌, length, Bool, true}
use Rattle.std.proofs.Common.{false, if◌then◌else◌, Option, Some, None, refl, sym, ap, ◌∙◌, arith}
use Rattle.csv.specs.Machine.{Read, after_end, ends_at_end, ends_with, field_after, fields_after, in_field, is_byte}
use Rattle.csv.specs.Machine.{is_end, line_feed, next_record, start_field, start_record, step}
use Rattle.csv.specs.Reading.{default_config, records_from}
use Rattle.csv.specs.declared.parser.Action.{Action}
use Rattle.csv.specs.declared.parser.Config.{Config}
use Rattle.csv.specs.declared.parser.State.{State}
use Rattle.csv.specs.declared.parser.State.TheVariants as st
use Rattle.csv.specs.declared.parser.Terminator.{Terminator}
use Rattle.csv.specs.declared.parser.Terminator.TheVariants as term

-- ---- behind a record the machine stands between two

-- what a byte leads to ends no record, or leads between two
abbrev Ended : State × Action → Type 0
Ended led = is_end led.1 ≡ true → ends_at_end led.0 ≡ false

both_ended : (test : Bool) (a b : State × Action) → Ended a → Ended b → Ended (if test then a else b)
both_ended true a b p q = p
both_ended false a b p q = q

after_ended : (t : Terminator) (c : ℕ) → ends_at_end (after_end t c) ≡ false
after_ended term.CRLF c = by (c == 13)
  where
    by : (test : Bool) → ends_at_end (if test then st.AfterCr else st.StartRecord) ≡ false
    by true = refl
    by false = refl
after_ended (term.Any t) c = refl

in_field_ended : (cfg : Config) (c : ℕ) → Ended (in_field cfg c)
in_field_ended cfg c =
    both_ended (c == cfg.delimiter) _ _ (λ e. cc e)
    (both_ended (ends_with cfg.terminator c) _ _ (λ e. after_ended cfg.terminator c) (λ e. cc e))

start_field_ended : (cfg : Config) (c : ℕ) → Ended (start_field cfg c)
start_field_ended cfg c = both_ended (cfg.quoting && (c == cfg.quote)) _ _ (λ e. cc e) (in_field_ended cfg c)

start_record_ended : (cfg : Config) (c : ℕ) → Ended (start_record cfg c)
start_record_ended cfg c =
    both_ended (ends_with cfg.terminator c) _ _ (λ e. refl)
    (both_ended (is_byte cfg.comment c) _ _ (λ e. cc e) (start_field_ended cfg c))

step_ended : (cfg : Config) (s : State) (c : ℕ) → Ended (step cfg s c)
step_ended cfg st.StartRecord c = start_record_ended cfg c
step_ended cfg st.StartField c = start_field_ended cfg c
step_ended cfg st.InField c = in_field_ended cfg c
step_ended cfg st.InQuoted c =
    both_ended (cfg.quoting && (c == cfg.quote)) _ _ (λ e. cc e)
    (both_ended (cfg.quoting && is_byte cfg.escape c) _ _ (λ e. cc e) (λ e. cc e))
step_ended cfg st.InEscape c = λ e. cc e
step_ended cfg st.AfterQuote c =
    both_ended (cfg.quoting && cfg.double_quote && (c == cfg.quote)) _ _ (λ e. cc e) (in_field_ended cfg c)
step_ended cfg st.InComment c = both_ended (c == line_feed) _ _ (λ e. refl) (λ e. cc e)
step_ended cfg st.AfterCr c = both_ended (c == line_feed) _ _ (λ e. refl) (start_record_ended cfg c)

-- ---- what is left

-- how many bytes are left behind the first
abbrev below : List ℕ → ℕ
below [] = 0
below (c ∷ rest) = length rest

below_length : (xs : List ℕ) → below xs ≤ length xs
below_length [] = omega arith
below_length (c ∷ rest) = omega arith

-- a record that was read left at most so much, and the machine between two
record Leaves (n : ℕ) (p : Read) : Type 0 where
  shorter : length p.2 ≤ n
  between : ends_at_end p.1 ≡ false

leaves : (cfg : Config) (s : State) (fields : List (List ℕ)) (field xs : List ℕ) (p : Read)
    → next_record cfg s fields field xs ≡ Some p → Leaves (below xs) p
unfolding next_record
leaves cfg s fields field [] p e = by (ends_at_end s) e
  where
    by : (test : Bool) → (if test then Some (fields ++ (field ∷ []), st.StartRecord, []) else None) ≡ Some p
        → Leaves 0 p
    by true e = let same : (fields ++ (field ∷ []), st.StartRecord, []) ≡ p =
        cc e in rw (← same) (record { shorter = omega arith; between = refl })
    by false e = cc e
leaves cfg s fields field (c ∷ rest) p e =
    let led = step cfg s c in
    by (is_end led.1) (step_ended cfg s c) (leaves cfg led.0 (fields_after led.1 fields field)
    (field_after led.1 c field) rest p) e
  where
    by : (test : Bool) → (test ≡ true → ends_at_end (step cfg s c).0 ≡ false)
        → (next_record cfg (step cfg s c).0 (fields_after (step cfg s c).1 fields field)
        (field_after (step cfg s c).1 c field) rest ≡ Some p → Leaves (below rest) p)
        → (if test then Some (fields_after (step cfg s c).1 fields field, (step cfg s c).0, rest)
        else next_record cfg (step cfg s c).0 (fields_after (step cfg s c).1 fields field)
        (field_after (step cfg s c).1 c field) rest) ≡ Some p
        → Leaves (length rest) p
    by true ended more e =
        let same : (fields_after (step cfg s c).1 fields field, (step cfg s c).0, rest) ≡ p = cc e in
        rw (← same) (record { shorter = omega arith; between = ended refl })
    by false ended more e = let l =
        more e in record { shorter = omega (arith, l.shorter, below_length rest); between = l.between }

-- at the end of a text there is none
none_at_end : (s : State) → ends_at_end s ≡ false → next_record default_config s [] [] [] ≡ None
unfolding next_record
none_at_end s between = rw between refl

-- ---- as many reads as bytes suffice

from_none : (n : ℕ) (s : State) (xs : List ℕ) → next_record default_config s [] [] xs ≡ None
    → records_from default_config n s xs ≡ []
unfolding records_from
from_none zero s xs e = refl
from_none (suc n) s xs e = rw e refl

from_some : (n : ℕ) (s : State) (xs : List ℕ) (p : Read) → next_record default_config s [] [] xs ≡ Some p
    → records_from default_config (suc n) s xs ≡ p.0 ∷ records_from default_config n p.1 p.2
unfolding records_from
from_some n s xs p e = rw e refl

fuel : (n m : ℕ) (s : State) (xs : List ℕ) → ends_at_end s ≡ false → length xs < n → length xs < m
    → records_from default_config n s xs ≡ records_from default_config m s xs
fuel zero m s xs between p q = absurd (omega (arith, p))
fuel (suc n) zero s xs between p q = absurd (omega (arith, q))
fuel (suc n) (suc m) s [] between p q =
    let none = none_at_end s between in
    from_none (suc n) s [] none ∙ sym (from_none (suc m) s [] none)
fuel (suc n) (suc m) s (c ∷ rest) between p q =
    by (next_record default_config s [] [] (c ∷ rest)) refl
    (λ r l. fuel n m r.1 r.2 l.between (omega (arith, p, l.shorter)) (omega (arith, q, l.shorter)))
  where
    by : (next : Option Read) → next_record default_config s [] [] (c ∷ rest) ≡ next
        → ((r : Read) → Leaves (length rest) r → records_from default_config n r.1 r.2 ≡ records_from default_config m
        r.1 r.2)
        → records_from default_config (suc n) s (c ∷ rest) ≡ records_from default_config (suc m) s (c ∷ rest)
    by None e same = from_none (suc n) s (c ∷ rest) e ∙ sym (from_none (suc m) s (c ∷ rest) e)
    by (Some r) e same =
        from_some n s (c ∷ rest) r e
        ∙ ap (λ (rows : List (List (List ℕ))). r.0 ∷ rows) (same r (leaves default_config s [] [] (c ∷ rest) r e))
        ∙ sym (from_some m s (c ∷ rest) r e)

-- ---- the records that are left

-- behind the next one, from between two
pub one_more : (s : State) (xs : List ℕ) (p : Read) → ends_at_end s ≡ false
    → next_record default_config s [] [] xs ≡ Some p
    → (ends_at_end p.1 ≡ false)
    × (records_from default_config (length xs + 1) s xs ≡ p.0 ∷ records_from default_config (length p.2 + 1) p.1 p.2)
one_more s [] p between e = let none = none_at_end s between in cc
one_more s (c ∷ rest) p between e =
    let l = leaves default_config s [] [] (c ∷ rest) p e in
    let same = fuel (length rest + 1) (length p.2 + 1) p.1 p.2 l.between (omega (arith, l.shorter)) (omega arith) in
    let count : length (c ∷ rest) + 1 ≡ suc (length rest + 1) = omega arith in (
      l.between,
      ap (λ (n : ℕ). records_from default_config n s (c ∷ rest)) count ∙ from_some (length rest + 1) s (c ∷ rest) p e
          ∙ ap (λ (rows : List (List (List ℕ))). p.0 ∷ rows) same,
    )

-- and none, where there is no next one
pub no_more : (s : State) (xs : List ℕ) → next_record default_config s [] [] xs ≡ None
    → records_from default_config (length xs + 1) s xs ≡ []
no_more s xs e = from_none (length xs + 1) s xs e
