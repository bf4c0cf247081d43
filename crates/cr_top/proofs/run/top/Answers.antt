-- SPDX-License-Identifier: Apache-2.0 OR MIT
use Rattle.std.proofs.Common.{⊎_elim, inl, inr}
use Rattle.cr_top.proofs.run.top.Goals as goal

pub returns : goal.returns
returns g c = record {
  does = c.run_words.ensures.does;
  answers = c.run_words.ensures.answers;
  refuses = λ refused.
      ⊎_elim (λ same. inl same) (λ told. inr (told.0, (told.1, told.2))) (c.run_words.ensures.refuses refused);
  usage = c.run_words.ensures.usage;
  passes = c.run_words.ensures.passes;
  counted = c.run_words.ensures.counted;
}
