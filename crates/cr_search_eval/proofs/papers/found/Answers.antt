-- SPDX-License-Identifier: Apache-2.0 OR MIT
use Rattle.std.proofs.Common.{ℕ, List, [], ◌∷◌, ◌++◌, ◌∙◌, ap, get_or, map, refl, sym}
use Rattle.std.proofs.Math.ListN.{drop_of_length-le}
use Rattle.std.proofs.lemmas.List.{append-nil}
use Rattle.cr_base.specs.declared.found.FoundPaper.{FoundPaper}
use Rattle.cr_view.proofs.AnswerLaws.{walk-step}
use Rattle.cr_search_eval.specs.Found.{titled}
use Rattle.cr_search_eval.proofs.FoundLaws.{all-titled}
use Rattle.cr_search_eval.proofs.papers.found.Goals as goal

pub loop-paper-preserved : goal.loop-paper-preserved
loop-paper-preserved c =
    let made : ℕ → FoundPaper = titled c.args.live.now.tables in
    let papers : List ℕ = c.deref-paper-items.result.now in
    let i : ℕ = c.loop-paper.paper-index in
    let paper : ℕ = c.paper-item.result in
    let before : List FoundPaper = c.loop-paper.found.items in
    let pushed =
    c.in_ok-push.ensures.items
    ∙ ap (λ (found : FoundPaper). before ++ found ∷ []) (c.in_ok-with_title.ensures ∙ ap made c.paper-item.is) in
    walk-step (λ (ps : List ℕ). map made ps) (made (get_or papers i paper) ∷ []) papers i paper before _ _
    c.loop-paper-test.true (λ rest. refl) pushed c.loop-paper.invariant

pub returns : goal.returns
returns c =
    let t = c.args.live.now.tables in
    let papers : List ℕ = c.deref-paper-items.result.now in
    let items : List FoundPaper = c.loop-paper.found.items in
    let gone = drop_of_length-le papers c.loop-paper-test.false in
    c.from_vec.ensures ∙ sym (append-nil items)
    ∙ sym (ap (λ (ps : List ℕ). items ++ map (titled t) ps) gone)
    ∙ c.loop-paper.invariant
    ∙ ap (λ (ps : List ℕ). map (titled t) ps) (c.deref-paper-items.ensures.value ∙ c.in_ok-papers.ensures)
    ∙ all-titled t c.args.user c.args.sought.now
