-- SPDX-License-Identifier: Apache-2.0 OR MIT
use Rattle.std.proofs.Common.{◌+◌, ◌∷◌, [], Some, length, sym}
use Rattle.std.specs.Prelude.{nat_lt}
use Rattle.cr_base.specs.declared.reply.Rule.TheVariants as rules
use Rattle.cr_base.specs.Checks.{◌breaks◌, revise_checks}
use Rattle.cr_base.specs.Papers.{uploads_at, own_bytes}
use Rattle.cr_base.proofs.CheckLaws.{judged-front}
use Rattle.cr_papers.specs.Named.{named_in}
use Rattle.cr_papers.proofs.papers.Papers.judge_upload.Goals as goal

pub returns-in-Err : goal.returns-in-Err
returns-in-Err c =
    let a = c.args in
    let papers = a.self.now.papers in
    rw c.in-Some.is
    (sym
    (judged-front (revise_checks a.by.now (named_in papers (Some c.in-Some.paper)) a.late)
    (nat_lt 67108864 (own_bytes papers (Some a.maker) + a.bytes) breaks rules.QuotaBytes ∷ []) tt
    (length (uploads_at papers c.in-Some.paper) + 1) c.in-Err.rule (sym c.in-Err.ensures)))
