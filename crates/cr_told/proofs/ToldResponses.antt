-- SPDX-License-Identifier: Apache-2.0 OR MIT
-- A paper's authors respond once, so what they responded is what the history tells of it in the end.
use Rattle.std.proofs.Common.{◌≡◌, ℕ, Bool, true, false, List, [], ◌∷◌, ◌++◌, refl, sym, ap, subst, ◌∙◌, append_assoc}
use Rattle.std.proofs.Common.{append-nil, Some, None, eqb}
use Rattle.std.specs.Prelude.{is_some}
use Rattle.std.specs.List.{flat_map}
use Rattle.std.proofs.lemmas.Bool.{eq-eqb, eqb-true, true≢false}
use Rattle.std.proofs.lemmas.List.Concat.{flat_map-append}
use Rattle.cr_base.specs.declared.entry.Entry.{Entry}
use Rattle.cr_base.specs.declared.entry.Entry.TheVariants.{Responded}
use Rattle.cr_base.specs.declared.entry.Stamp.{Stamp}
use Rattle.cr_base.specs.declared.entry.Stamped.{Stamped}
use Rattle.cr_base.specs.Drawn.{stamped}
use Rattle.cr_base.specs.History.{History, response_told}
use Rattle.cr_base.specs.HistoryFacts.{response_of}
use Rattle.cr_base.specs.Lists.{given, is_nothing, last}
use Rattle.cr_base.specs.Tables.{Tables, no_tables, tables_of, FitInTurn}
use Rattle.cr_base.specs.Talk.{TalkState, TalkFit, response_in}
use Rattle.cr_history.proofs.TableAgreement.{tables_of-append}
use Rattle.cr_history.proofs.TalkAgreement.{response_of-tables}
use Rattle.cr_told.proofs.ToldEach.{last-here, last-there}

module _ (p : ℕ) where
  abbrev told : Stamped → List (List ℕ)
  told e = response_told p e.entry

  -- an entry that fits where there is one gives the paper none
  none-fits : (talk : TalkState) (maker : ℕ) (e : Entry) → TalkFit talk maker e → is_some (response_in talk p) ≡ true
      → response_told p e ≡ []
  none-fits talk maker (Responded paper text) fits some = by (eqb paper p) refl
    where
      by : (b : Bool) → eqb paper p ≡ b → given b text ≡ []
      by true same =
          absurd
          (true≢false
          (sym some ∙ ap is_some (subst (λ (n : ℕ). response_in talk n ≡ None) (eqb-true paper p same) fits)))
      by false same = refl
  none-fits talk maker e fits some = refl

  none-more : (before G : History) → FitInTurn (tables_of before) G → is_some (response_of p before) ≡ true
      → flat_map told G ≡ []
  none-more before [] fits some = refl
  none-more before (s ∷ G) fits some =
      (λ i. none i ++ flat_map told G)
      ∙ none-more (before ++ s ∷ []) G (subst (λ (t : Tables). FitInTurn t G) (sym (tables_of-append before (s ∷ [])))
      fits.1)
      (ap (λ (texts : List (List ℕ)). is_some (last texts))
      (flat_map-append told before (s ∷ []) ∙ (λ i. flat_map told before ++ (none i ++ []))
      ∙ append-nil (flat_map told before))
      ∙ some)
    where
      none : response_told p s.entry ≡ []
      none = none-fits (tables_of before).talk s.stamp.maker s.entry fits.0.talk
          (ap is_some (sym (response_of-tables p before)) ∙ some)

-- what stands behind some entries fits in its turn
fits-behind : (before front rest : History) → FitInTurn (tables_of before) (front ++ rest)
    → FitInTurn (tables_of (before ++ front)) rest
fits-behind before [] rest fits = subst (λ (G : History). FitInTurn (tables_of G) rest) (sym (append-nil before)) fits
fits-behind before (s ∷ front) rest fits =
    subst (λ (G : History). FitInTurn (tables_of G) rest) (append_assoc before (s ∷ []) front)
    (fits-behind (before ++ s ∷ []) front rest
    (subst (λ (t : Tables). FitInTurn t (front ++ rest)) (sym (tables_of-append before (s ∷ []))) fits.1))

pub responded-once : (H : History) → FitInTurn no_tables H
    → (earlier later : History) (stamp : Stamp) (more : Bool) (paper : ℕ) (text : List ℕ)
    → earlier ++ stamped stamp more (Responded paper text) ∷ later ≡ H → response_of paper H ≡ Some text
responded-once H fits earlier later stamp more paper text whole =
    ap (response_of paper) (sym whole) ∙ last-here (told paper) earlier later e text here (ap is_nothing alone)
  where
    e : Stamped
    e = stamped stamp more (Responded paper text)

    here : told paper e ≡ text ∷ []
    here = ap (λ b. given b text) (eq-eqb paper paper refl)

    behind : FitInTurn (tables_of (earlier ++ e ∷ [])) later
    behind =
        fits-behind [] (earlier ++ e ∷ []) later
        (subst (λ (G : History). FitInTurn no_tables G) (sym (append_assoc earlier (e ∷ []) later ∙ whole)) fits)

    alone : flat_map (told paper) later ≡ []
    alone = none-more paper (earlier ++ e ∷ []) later behind (last-there (told paper) earlier [] e text here)
