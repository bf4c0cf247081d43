-- SPDX-License-Identifier: Apache-2.0 OR MIT
-- What is answered of an authors' response.
use Rattle.std.proofs.Common.{ℕ, Bool, true, ◌≡◌, List, [], sym, ap, ◌∙◌, Option, Some, Result, Ok, Err}
use Rattle.std.specs.Prelude.{is_some, unwrap_or}
use Rattle.std.specs.Option.{option_and_then}
use Rattle.std.proofs.lemmas.Bool.{not-false}
use Rattle.cr_base.specs.declared.reply.Rule.{Rule}
use Rattle.cr_base.specs.declared.standing.Standing.{Standing}
use Rattle.cr_base.specs.Answering.{response_by}
use Rattle.cr_base.specs.Checks.{Check, judged, of_there, response_checks}
use Rattle.cr_base.specs.Sources.{facts_of_tables, has_paper, shown_in_tables, standing_at}
use Rattle.cr_base.specs.Talk.{response_in}
use Rattle.cr_base.specs.Tables.{Tables}
use Rattle.cr_base.proofs.CheckLaws.{judged-Ok}
use Rattle.cr_view.specs.Responses.{response_due}
use Rattle.cr_view.proofs.JudgeLaws.{passed, refused}

module _ (t : Tables) (user paper : Option ℕ) where
  abbrev found : Option (List ℕ)
  found = option_and_then (response_in t.talk) paper

  abbrev asked : Option (List ℕ) → List Check
  asked text =
      response_checks (standing_at t user paper) (of_there (has_paper (facts_of_tables t user) paper)) (is_some text)

  module _ (by : Standing) (there responded : Bool) (text : Option (List ℕ)) (stands : by ≡ standing_at t user paper)
      (here : there ≡ has_paper (facts_of_tables t user) paper) (says : responded ≡ is_some text)
      (is : text ≡ found) where
    -- what is asked of the tables' reads is what is asked
    asks : (r : Result (Unit {0}) Rule) → r ≡ judged (response_checks by (of_there there) responded) tt
        → r ≡ judged (asked text) tt
    asks r h =
        h
        ∙ ap (λ (s : Standing). judged (response_checks s (of_there there) responded) tt) stands
        ∙ ap (λ (b : Bool). judged (response_checks (standing_at t user paper) (of_there b) responded) tt) here
        ∙ ap
        (λ (b : Bool). judged (response_checks (standing_at t user paper)
        (of_there (has_paper (facts_of_tables t user) paper)) b) tt) says

    -- a broken rule
    pub response-refused : (rule : Rule) → ◌≡◌ {A = Result (Unit {0}) Rule} (Err rule)
        (judged (response_checks by (of_there there) responded) tt)
        → response_due t user paper ≡ Err rule
    response-refused rule h =
        sym (refused (asked found) tt (response_by (shown_in_tables t) paper) rule
        (asks (Err rule) h ∙ ap (λ (o : Option (List ℕ)). judged (asked o) tt) is))

    -- where none is, the text
    pub response-lent : ◌≡◌ {A = Result (Unit {0}) Rule} (Ok tt)
        (judged (response_checks by (of_there there) responded) tt)
        → (x : List ℕ) → text ≡ Some x → response_due t user paper ≡ Ok x
    response-lent h x lent =
        sym
        (passed (asked found) (λ (u : Unit {0}). response_by (shown_in_tables t) paper) tt tt
        (asks (Ok tt) h ∙ ap (λ (o : Option (List ℕ)). judged (asked o) tt) is))
        ∙ ap (λ (o : Option (List ℕ)). Ok (unwrap_or o [])) (sym is ∙ lent)

    -- and then there is one
    pub response-there : ◌≡◌ {A = Result (Unit {0}) Rule} (Ok tt)
        (judged (response_checks by (of_there there) responded) tt) → is_some text ≡ true
    response-there h =
        let none_broken = (judged-Ok (asked text) tt tt (sym (asks (Ok tt) h))).0 in
        not-false (is_some text) none_broken.1.1.1.1.0
