-- SPDX-License-Identifier: Apache-2.0 OR MIT
-- What a content is answered.
use Rattle.std.proofs.Common.{ℕ, Bool, true, false, cond, ◌≡◌, List, [], ◌∷◌, ◌++◌, take, refl, sym, ap, ◌∙◌, Option}
use Rattle.std.proofs.Common.{Some, None, Result, Ok, Err, is_some}
use Rattle.std.specs.Prelude.{unwrap_or}
use Rattle.cr_base.specs.declared.reply.Rule.{Rule}
use Rattle.cr_base.specs.declared.reply.Rule.TheVariants as rules
use Rattle.cr_base.specs.declared.standing.Standing.{Standing}
use Rattle.cr_base.specs.Answering.{content_by}
use Rattle.cr_base.specs.Checks.{Check, ◌breaks◌, judged, of_there, content_checks}
use Rattle.cr_base.specs.Lists.{at_some}
use Rattle.cr_base.specs.Sources.{has_paper, is_accepted_in, standing_at, facts_of_tables, shown_in_tables}
use Rattle.cr_base.specs.Tables.{Tables}
use Rattle.cr_base.proofs.CheckLaws.{NoneBroken, judged-Ok}
use Rattle.cr_view.specs.Replies.{content_at, content_due, content_reader_at}
use Rattle.cr_view.proofs.AnswerLaws.{reader-is}
use Rattle.cr_view.proofs.JudgeLaws.{passed}

-- a check that comes last, and isn't broken where those before it are asked: they answer alike whatever it says
behind-refused : {A B : Type 0} (before : List Check) (last_rule rule : Rule) (x : A) (y : B) (b : Bool)
    → ◌≡◌ {A = Result A Rule} (judged (before ++ (false breaks last_rule ∷ [])) x) (Err rule)
    → ◌≡◌ {A = Result B Rule} (judged (before ++ (b breaks last_rule ∷ [])) y) (Err rule)
behind-refused [] last_rule rule x y b h = cc
behind-refused {A} {B} (check ∷ before) last_rule rule x y b h =
    by check.broken h (behind-refused before last_rule rule x y b)
  where
    first : Result A Rule
    first = judged (before ++ (false breaks last_rule ∷ [])) x

    second : Result B Rule
    second = judged (before ++ (b breaks last_rule ∷ [])) y

    by : (c : Bool) → ◌≡◌ {A = Result A Rule} (cond c (Err check.rule) first) (Err rule)
        → (first ≡ Err rule → second ≡ Err rule) → ◌≡◌ {A = Result B Rule} (cond c (Err check.rule) second) (Err rule)
    by true h rest = let e : check.rule ≡ rule = cc in ap (λ (r : Rule). Err r) e
    by false h rest = rest h

-- none is broken but this one
behind-broken : {B : Type 0} (before : List Check) (last_rule : Rule) (y : B)
    → NoneBroken (before ++ (false breaks last_rule ∷ []))
    → ◌≡◌ {A = Result B Rule} (judged (before ++ (true breaks last_rule ∷ [])) y) (Err last_rule)
behind-broken [] last_rule y none = refl
behind-broken {B} (check ∷ before) last_rule y none = by check.broken none.0 (behind-broken before last_rule y none.1)
  where
    by : (c : Bool) → c ≡ false → ◌≡◌ {A = Result B Rule} (judged (before ++ (true breaks last_rule ∷ [])) y)
        (Err last_rule) → ◌≡◌ {A = Result B Rule}
        (cond c (Err check.rule) (judged (before ++ (true breaks last_rule ∷ [])) y)) (Err last_rule)
    by true h rest = cc
    by false h rest = rest

module _ (t : Tables) (user paper version : Option ℕ) where
  abbrev here : Standing
  here = standing_at t user paper

  abbrev asked : Bool → List Check
  asked found =
      content_checks here (at_some (is_accepted_in t) paper) (of_there (has_paper (facts_of_tables t user) paper)) found

  -- those that don't ask for the version
  abbrev before : List Check
  before = take 4 (asked true)

  abbrev due_of : Option (List ℕ) → Result (List ℕ) Rule
  due_of found = judged (asked (is_some found)) (unwrap_or found [])

  pub content-refused : (rule : Rule) → ◌≡◌ {A = Result Standing Rule} (Err rule) (content_reader_at t user paper)
      → content_due t user paper version ≡ Err rule
  content-refused rule h =
      let found : Option (List ℕ) = content_by (facts_of_tables t user) (shown_in_tables t) paper version in
      by (is_some found) (unwrap_or found [])
    where
      by : (b : Bool) (x : List ℕ) → ◌≡◌ {A = Result (List ℕ) Rule} (judged (asked b) x) (Err rule)
      by true x = behind-refused before rules.NoContent rule here x false (sym h)
      by false x = behind-refused before rules.NoContent rule here x true (sym h)

  module _ (by : Standing) (reads : ◌≡◌ {A = Result Standing Rule} (Ok by) (content_reader_at t user paper))
      (number : ℕ) (is : paper ≡ Some number) where
    -- what is told of the paper to a reader who stands so
    content-is : (o : Option (List ℕ)) → o ≡ content_at t by.author number version
        → o ≡ content_by (facts_of_tables t user) (shown_in_tables t) paper version
    content-is o h =
        h
        ∙ ap (λ (s : Standing). content_at t s.author number version) (reader-is (asked true) here by reads)
        ∙ ap (λ (p : Option ℕ). content_at t (standing_at t user p).author number version) is
        ∙ sym (ap (λ (p : Option ℕ). content_by (facts_of_tables t user) (shown_in_tables t) p version) is)

    pub content-lent : (x : List ℕ) → Some x ≡ content_at t by.author number version
        → content_due t user paper version ≡ Ok x
    content-lent x h =
        sym (ap due_of (content-is (Some x) h)) ∙ sym (passed (asked true) (λ (s : Standing). x) here by reads)

    pub content-missing : None ≡ content_at t by.author number version
        → content_due t user paper version ≡ Err rules.NoContent
    content-missing h = sym (ap due_of (content-is None h))
        ∙ behind-broken before rules.NoContent [] (judged-Ok (asked true) here by (sym reads)).0
