-- SPDX-License-Identifier: Apache-2.0 OR MIT
-- What the trigger table asks of a reader, by the tables.
use Rattle.std.specs.Prelude.{ℕ, Option, Some}
use Rattle.cr_base.specs.Accounts.{role_in}
use Rattle.cr_base.specs.Sources.{is_accepted_in, is_external_in}
use Rattle.cr_base.specs.Tables.{Tables}
use Rattle.cr_base.specs.Ties.{is_author_in, is_conflicted_in}
use Rattle.cr_policy.specs.Triggers.{Reader}

-- the reader that a user is by the tables of the whole history
abbrev pub reader_in : Tables → Option ℕ → Reader
reader_in t u = record {
  number = u;
  now = t.stage.phase;
  had_response = t.stage.had_response;
  mode = t.stage.mode;
  rank = role_in t.accounts u;
  author = λ p. is_author_in t.ties u p;
  conflicted = λ p. is_conflicted_in t.ties u p;
  external = λ p. is_external_in t u p;
  wrote = λ v p. is_author_in t.ties (Some v) p;
  accepted = λ p. is_accepted_in t p;
}
