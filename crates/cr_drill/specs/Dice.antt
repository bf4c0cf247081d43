-- SPDX-License-Identifier: Apache-2.0 OR MIT
-- The numbers that a drill draws: the example generator of ISO C's `rand` (7.22.2), with another modulus.
use Rattle.std.specs.Prelude.{ℕ, ◌+◌, ◌*◌, ◌/◌, ◌%◌, max}
use Rattle.cr_drill.specs.declared.dice.Roll.{Roll}

-- what the generator holds behind a draw
unfoldable pub turned : ℕ → ℕ
turned x = (1103515245 * x + 12345) % 2147483648

-- what the draw gives that leaves this
unfoldable pub drawn : ℕ → ℕ
drawn x = x / 65536

-- A step draws four numbers: a user, an operation, a paper and another user. There are so many papers; where
-- there is none, paper 1 is drawn.
unfoldable pub roll_of : ℕ → ℕ → Roll
roll_of papers x =
    let a = turned x in let b = turned a in let c = turned b in let d = turned c in
    record {
      user = 1 + drawn a % 8;
      operation = drawn b % 4;
      paper = 1 + drawn c % max 1 papers;
      other = 1 + drawn d % 8;
    }

-- what the generator holds behind the four draws
unfoldable pub after_roll : ℕ → ℕ
after_roll x = turned (turned (turned (turned x)))
