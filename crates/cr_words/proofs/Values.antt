-- SPDX-License-Identifier: Apache-2.0 OR MIT
-- A word behind an option is its value, where it doesn't begin with a hyphen.
use Rattle.std.proofs.Common.{◌≡◌, [], ◌∷◌, ◌&&◌, ◌==◌, ◌<◌, ℕ, Bool, true, false, not, List, None, refl, subst, arith}
use Rattle.std.specs.Prelude.{fold}
use Rattle.std.proofs.lemmas.Bool.{eqb-true}
use Rattle.clap.specs.Words.{Rule, Shape, Text}
use Rattle.clap.specs.ValueTests.{is_unsigned_in}
use Rattle.clap.specs.Walk.{Held, Waiting, Walk, option, arg_by_id, option_word, walked}
use Rattle.clap.specs.Kinds.{or_else}
use Rattle.clap.specs.Takes.{turn_passes, walk_passes}
use Rattle.clap.specs.Faults.{turn_fault, walk_fault}
use Rattle.clap.specs.declared.builder.value_parser.ValueParser.TheVariants.{Unsigned}
use Rattle.clap.proofs.ValueTestLemmas.{accepts-Accepts}
use Rattle.cr_words.specs.Words.{is_plain_text}
use Rattle.cr_words.proofs.StoreLaws.{not_dashes, not_stripped}

-- a hyphen is no digit
pub number_plain : (low high : ℕ) (text : Text) → is_unsigned_in low high text ≡ true → is_plain_text text ≡ true
number_plain low high [] taken = refl
number_plain low high (b ∷ rest) taken = by_test (b == 45) refl
  where
    by_test : (t : Bool) → (b == 45) ≡ t → not t ≡ true
    by_test true is =
        let hyphen : is_unsigned_in low high (45 ∷ rest) ≡ true =
        subst (λ (c : ℕ). is_unsigned_in low high (c ∷ rest) ≡ true) (eqb-true b 45 is) taken in
        let digit : 36 < 10 =
        (accepts-Accepts false (Unsigned low high) (45 ∷ rest) hyphen).0.1.0 in absurd (omega arith)
    by_test false is = refl

abbrev between : Held → Waiting → Walk
between h waiting = record { held = h; waiting = waiting; position = 1; is_trailing = false; stopped = None }

-- a walk that waits for the value of an option
abbrev pub waits_for : Text → Held → Walk
waits_for id h = between h (option id)

-- the same walk, with the value
abbrev pub after_value : List Rule → Text → Text → Held → Walk
after_value c id word h = let met = option_word (arg_by_id c id) id word h in between met.0 met.1

value_walked : (c : List Rule) (id word : Text) (h : Held) → is_plain_text word ≡ true
    → walked c [] (waits_for id h) word ≡ after_value c id word h
unfolding walked
value_walked c id word h plain = rw (not_dashes word plain, not_stripped word plain, not_stripped word plain) refl

value_fault : (s : Shape) (id word : Text) (h : Held) → is_plain_text word ≡ true
    → turn_fault s [] (waits_for id h) word ≡ []
value_fault s id word h plain = rw (not_dashes word plain, not_stripped word plain, not_stripped word plain) refl

value_passes : (s : Shape) (id word : Text) (h : Held) → is_plain_text word ≡ true
    → turn_passes s [] (waits_for id h) word ≡ true
value_passes s id word h plain = rw (not_dashes word plain, not_stripped word plain, not_stripped word plain) refl

-- so a walk over it and the rest goes on behind it, without a fault of its own
module _ (s : Shape) (id word : Text) (h : Held) (rest : List Text) (plain : is_plain_text word ≡ true) where
  pub goes_on : fold (walked s.rules []) (waits_for id h) (word ∷ rest) ≡ fold (walked s.rules [])
      (after_value s.rules id word h) rest
  goes_on = λ i. fold (walked s.rules []) (value_walked s.rules id word h plain i) rest

  pub faults_go_on : walk_fault s [] (waits_for id h) (word ∷ rest) ≡ walk_fault s [] (after_value s.rules id word h)
      rest
  unfolding walk_fault
  faults_go_on =
      λ i. or_else (value_fault s id word h plain i) (walk_fault s [] (value_walked s.rules id word h plain i) rest)

  pub passes_on : walk_passes s [] (waits_for id h) (word ∷ rest) ≡ walk_passes s [] (after_value s.rules id word h)
      rest
  unfolding walk_passes
  passes_on = λ i. (value_passes s id word h plain i && walk_passes s [] (value_walked s.rules id word h plain i) rest)
