-- SPDX-License-Identifier: Apache-2.0 OR MIT
-- An entry is of a series where it tells something of it.
use Rattle.std.proofs.Common.{◌≡◌, ◌∙◌, ℕ, ◌+◌, ◌*◌, ◌<◌, ◌≤◌, ◌/◌, ◌%◌, Bool, true, false, List, [], ◌∷◌, ◌++◌, eqb}
use Rattle.std.proofs.Common.{refl, ap, arith}
use Rattle.std.specs.Prelude.{not, ◌&&◌, ◌||◌, Some}
use Rattle.std.specs.List.{list_any}
use Rattle.std.proofs.lemmas.Bool.Decides.{nat_tests}
use Rattle.std.proofs.lemmas.Nat.{div-mul-add, mod-mul-add}
use Rattle.cr_base.specs.declared.entry.Entry.{Entry}
use Rattle.cr_base.specs.declared.entry.Entry.TheVariants.{Submitted, Revised, Uploaded, Reviewed, Decided}
use Rattle.cr_base.specs.declared.entry.Stamped.{Stamped}
use Rattle.cr_base.specs.Lists.{given, is_nothing}
use Rattle.cr_base.specs.History.{History, all_told, decision_told, form_told, title_told, upload_told}
use Rattle.cr_policy.specs.Triggers.{none_in}
use Rattle.cr_sights.specs.Series.{is_label, is_of, none_of}

-- ---- what tells of a series

module _ {A : Type 0} (told : Entry → List A) (test : Entry → Bool)
    (tells : (e : Entry) → is_nothing (told e) ≡ not (test e)) where
  none-step : (xs : List A) (b : Bool) (rest : List A) (more : Bool) → is_nothing xs ≡ not b
      → is_nothing rest ≡ not more
      → is_nothing (xs ++ rest) ≡ not (b || more)
  none-step [] true rest more here behind = cc
  none-step [] false rest more here behind = behind
  none-step (x ∷ xs) true rest more here behind = refl
  none-step (x ∷ xs) false rest more here behind = cc

  none-any : (H : History) → none_in told H ≡ not (list_any (λ (e : Stamped). test e.entry) H)
  none-any [] = refl
  none-any (e ∷ H) = none-step (told e.entry) (test e.entry) (all_told told H)
      (list_any (λ (e : Stamped). test e.entry) H) (tells e.entry) (none-any H)

-- ---- the series of a paper

given-nothing : {A : Type 0} (b : Bool) (x : A) → is_nothing (given b x) ≡ not b
given-nothing true x = refl
given-nothing false x = refl

label-other : (index o : ℕ) (b : Bool) → is_label index ≡ false → false ≡ is_label o && ((eqb o index) && b)
label-other index o b none = grind (arith, nat_tests)

label-same : (index o : ℕ) (b : Bool) → is_label index ≡ true → b && eqb o index ≡ is_label o && (eqb o index && b)
label-same index o b some = grind (arith, nat_tests)

first-other : (index : ℕ) (b : Bool) → is_label index ≡ true → false ≡ eqb 0 index && b
first-other index b some = grind (arith, nat_tests)

content-other : (index : ℕ) (b : Bool) → is_label index ≡ true → false ≡ eqb 27 index && b
content-other index b some = grind (arith, nat_tests)

decision-other : (index : ℕ) (b : Bool) → is_label index ≡ true → false ≡ eqb 28 index && b
decision-other index b some = grind (arith, nat_tests)

module _ (paper index k : ℕ) (at : k % 29 ≡ index) (of : k / 29 ≡ paper) where
  texts-tell : index ≡ 0 → (e : Entry) → is_nothing (title_told paper e) ≡ not (is_of k e)
  texts-tell first (Submitted q title abstract) = rw (at, of, first) (given-nothing (eqb q paper) title)
  texts-tell first (Revised q title abstract) = rw (at, of, first) (given-nothing (eqb q paper) title)
  texts-tell first (Uploaded q version content) = rw (at, first) refl
  texts-tell first (Reviewed q o version form) = rw (at, first) (ap not (label-other 0 o (eqb q (k / 29)) refl))
  texts-tell first (Decided q decision) = rw (at, first) refl
  texts-tell first _ = refl

  content-tells : index ≡ 27 → (e : Entry) → is_nothing (upload_told paper e) ≡ not (is_of k e)
  content-tells last (Submitted q title abstract) = rw (at, last) refl
  content-tells last (Revised q title abstract) = rw (at, last) refl
  content-tells last (Uploaded q version content) =
      rw (at, of, last) (given-nothing (eqb q paper) (record { version = version; content = content }))
  content-tells last (Reviewed q o version form) = rw (at, last) (ap not (label-other 27 o (eqb q (k / 29)) refl))
  content-tells last (Decided q decision) = rw (at, last) refl
  content-tells last _ = refl

  decision-tells : index ≡ 28 → (e : Entry) → is_nothing (decision_told paper e) ≡ not (is_of k e)
  decision-tells end (Submitted q title abstract) = rw (at, end) refl
  decision-tells end (Revised q title abstract) = rw (at, end) refl
  decision-tells end (Uploaded q version content) = rw (at, end) refl
  decision-tells end (Reviewed q o version form) = rw (at, end) (ap not (label-other 28 o (eqb q (k / 29)) refl))
  decision-tells end (Decided q decision) = rw (at, of, end) (given-nothing (eqb q paper) decision)
  decision-tells end _ = refl

  form-tells : is_label index ≡ true → (e : Entry) → is_nothing (form_told paper index e) ≡ not (is_of k e)
  form-tells label (Reviewed q o version form) =
      rw (at, of) (given-nothing (eqb q paper && eqb o index) _ ∙ ap not (label-same index o (eqb q paper) label))
  form-tells label (Submitted q title abstract) = rw at (ap not (first-other index (eqb q (k / 29)) label))
  form-tells label (Revised q title abstract) = rw at (ap not (first-other index (eqb q (k / 29)) label))
  form-tells label (Uploaded q version content) = rw at (ap not (content-other index (eqb q (k / 29)) label))
  form-tells label (Decided q decision) = rw at (ap not (decision-other index (eqb q (k / 29)) label))
  form-tells label _ = refl

-- ---- by the number of a series

module _ (paper index k : ℕ) (low : index < 29) (number : k ≡ paper * 29 + index) where
  index-of : k % 29 ≡ index
  index-of = ap (λ n. n % 29) number ∙ mod-mul-add paper 29 index low

  paper-of : k / 29 ≡ paper
  paper-of = ap (λ n. n / 29) number ∙ div-mul-add paper 29 index low

  pub texts-alike : index ≡ 0 → (H : History) → none_in (title_told paper) H ≡ none_of (Some k) H
  texts-alike first H = none-any (title_told paper) (is_of k) (texts-tell paper index k index-of paper-of first) H

  pub content-alike : index ≡ 27 → (H : History) → none_in (upload_told paper) H ≡ none_of (Some k) H
  content-alike last H = none-any (upload_told paper) (is_of k) (content-tells paper index k index-of paper-of last) H

  pub decision-alike : index ≡ 28 → (H : History) → none_in (decision_told paper) H ≡ none_of (Some k) H
  decision-alike end H = none-any (decision_told paper) (is_of k) (decision-tells paper index k index-of paper-of end) H

  pub form-alike : 1 ≤ index → index ≤ 26 → (H : History) → none_in (form_told paper index) H ≡ none_of (Some k) H
  form-alike above below H =
      let label : is_label index ≡ true = grind (arith, nat_tests) in
      none-any (form_told paper index) (is_of k) (form-tells paper index k index-of paper-of label) H
