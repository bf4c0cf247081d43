-- SPDX-License-Identifier: Apache-2.0 OR MIT
use Rattle.std.proofs.Common.{◌∙◌, map, string_bytes, Global}
use Rattle.cr_words.proofs.Simple.{taken_from, refused_from, passes_from}
use Rattle.cr_words.proofs.Named.{Answered, answered}
use Rattle.cr_words.proofs.read.read_words.Goals as goal

answers : (c : goal.Joined-matches) → Answered (map (string_bytes {Z = Global}) c.args.words.now) c.ok_or.result
answers c =
    answered _ _ _ _ _ c.in-Ok.ensures (taken_from _ _ c.in-Ok.ensures c.in-Ok-try_get_matches_from.ensures.kinds)
    (λ simple. (c.in-Ok-try_get_matches_from.ensures.matches simple).1) c.named_job.ensures c.ok_or.ensures.value

pub returns-in-Ok-try_get_matches_from-clause-job : goal.returns-in-Ok-try_get_matches_from-clause-job
returns-in-Ok-try_get_matches_from-clause-job c = (answers c).job

pub returns-in-Ok-try_get_matches_from-clause-ranges : goal.returns-in-Ok-try_get_matches_from-clause-ranges
returns-in-Ok-try_get_matches_from-clause-ranges c = (answers c).ranges

pub returns-in-Ok-try_get_matches_from-clause-taken : goal.returns-in-Ok-try_get_matches_from-clause-taken
returns-in-Ok-try_get_matches_from-clause-taken c = (answers c).taken

pub returns-in-Ok-try_get_matches_from-clause-refused : goal.returns-in-Ok-try_get_matches_from-clause-refused
returns-in-Ok-try_get_matches_from-clause-refused c = (answers c).refused

pub returns-in-Ok-try_get_matches_from-clause-passes : goal.returns-in-Ok-try_get_matches_from-clause-passes
returns-in-Ok-try_get_matches_from-clause-passes c = (answers c).passes

pub returns : goal.returns
returns c = record {
  job = tt;
  ranges = tt;
  taken = tt;
  refused = λ _. refused_from _ _ c.in-Err.error c.in-Ok.ensures c.in-Err.ensures.kinds
      (λ m. c.in_default-kind.not-OutOfMemory (c.kind.ensures ∙ m));
  passes = λ t _. passes_from _ _ c.in-Err.error c.in-Ok.ensures c.in-Err.ensures.passes
      (λ m. c.in_default-kind.not-OutOfMemory (c.kind.ensures ∙ m)) t;
}
