-- SPDX-License-Identifier: Apache-2.0 OR MIT
-- What reading a text gives, memory aside.
use Rattle.std.specs.Prelude.{◌≡◌, ℕ, List, Result, Ok, Err}
use Rattle.cr_base.specs.declared.search.Node.{Node}
use Rattle.cr_search_parse.specs.declared.parsing.ParseError.{ParseError}
use Rattle.cr_search_parse.specs.declared.parsing.ParseError.TheVariants as errors

-- the error is the offset at which the text is bad, or lack of memory, which may always come
abbrev pub Fails : ParseError → Result (List Node) ℕ → Type 0
Fails (errors.BadQuery offset) read = read ≡ Err offset
Fails errors.OutOfMemory read = Unit {0}

-- the result is what the text comes to, or an error as `Fails` says
abbrev pub Parses : Result (List Node) ParseError → Result (List Node) ℕ → Type 0
Parses (Ok nodes) read = read ≡ Ok nodes
Parses (Err error) read = Fails error read
