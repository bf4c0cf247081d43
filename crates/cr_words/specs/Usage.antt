-- SPDX-License-Identifier: Apache-2.0 OR MIT
-- What is written if the words are refused.
use Rattle.std.specs.Prelude.{ℕ, List, codes}

-- the line that names every job of the program
unfoldable pub usage : List ℕ
usage = codes "usage: confd pipe|serve|view|drill\n"
