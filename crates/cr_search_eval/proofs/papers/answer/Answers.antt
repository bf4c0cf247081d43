-- SPDX-License-Identifier: Apache-2.0 OR MIT
use Rattle.std.proofs.Common.{ℕ, Bool, List, Option, Some, ◌∙◌, ap, sym}
use Rattle.std.proofs.lemmas.List.{length-map}
use Rattle.cr_base.specs.declared.found.FoundPaper.{FoundPaper}
use Rattle.cr_base.specs.declared.reply.Reply.{Reply}
use Rattle.cr_base.specs.declared.reply.Reply.TheVariants as replies
use Rattle.cr_base.specs.Answering.{search_told}
use Rattle.cr_base.specs.Searching.{found_paper}
use Rattle.cr_base.specs.Sources.{facts_of_tables, shown_in_tables}
use Rattle.cr_search_eval.specs.Found.{papers_found, told_to}
use Rattle.cr_search_eval.proofs.papers.answer.Goals as goal

pub returns-then-only_count : goal.returns-then-only_count
returns-then-only_count c =
    let t = c.args.live.now.tables in
    let told : Option ℕ → Bool → Reply =
    λ caller only. search_told (facts_of_tables t caller) (shown_in_tables t) caller c.args.search.now only in
    ap (λ (n : ℕ). replies.Count n)
    (c.count.ensures
    ∙ sym (length-map (papers_found t c.in-Some.user c.args.search.now)
    (λ (p : ℕ). found_paper p (told_to t c.in-Some.user p))))
    ∙ sym (ap (told (Some c.in-Some.user)) c.if-only_count.true)
    ∙ sym (ap (λ (caller : Option ℕ). told caller c.args.only_count) c.in-Some.is)

pub returns : goal.returns
returns c =
    let t = c.args.live.now.tables in
    let told : Option ℕ → Bool → Reply =
    λ caller only. search_told (facts_of_tables t caller) (shown_in_tables t) caller c.args.search.now only in
    ap (λ (found : List FoundPaper). replies.Found found) c.in_ok-found.ensures
    ∙ sym (ap (told (Some c.in-Some.user)) c.if-only_count.false)
    ∙ sym (ap (λ (caller : Option ℕ). told caller c.args.only_count) c.in-Some.is)
