-- SPDX-License-Identifier: Apache-2.0 OR MIT
use Rattle.cr_base.specs.declared.report.Report.TheVariants as reports
use Rattle.cr_reports.proofs.ToldLaws.{due-refused, due-told, due-unserved}
use Rattle.cr_reports.proofs.told.papers.Goals as goal

pub returns-in-Err : goal.returns-in-Err
returns-in-Err c = due-refused c.args.live.now.tables c.args.user reports.Papers c.in-Err.rule c.in-Err.ensures

pub returns : goal.returns
returns c =
    due-told c.args.live.now.tables c.args.user reports.Papers c.in_ok-papers_text.field-0 c.in-Ok.ensures
    c.in_ok-papers_text.ensures

pub returns-in_err-papers_text : goal.returns-in_err-papers_text
returns-in_err-papers_text c =
    due-unserved c.args.live.now.tables c.args.user reports.Papers c.in-Ok.ensures c.from_residual.result
    c.from_residual.ensures.1
