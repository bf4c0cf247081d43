-- SPDX-License-Identifier: Apache-2.0 OR MIT
-- Whoever has written a form stays a reviewer of the paper, under the label under which she wrote it.
use Rattle.std.proofs.Common.{ℕ, Bool, true, false, ◌≡◌, List, [], ◌∷◌, ◌++◌, eqb, refl, sym, ap, subst, ◌∙◌, ◌&&◌}
use Rattle.std.proofs.Common.{Option, Some, None}
use Rattle.std.specs.Prelude.{not}
use Rattle.std.specs.List.{AllByRecursion}
use Rattle.std.proofs.lemmas.Bool.{eqb-true, eq-eqb, true≢false}
use Rattle.std.proofs.lemmas.List.Concat.{flat_map-append}
use Rattle.std.proofs.lemmas.List.Elements.{All-from_recursion, recursion_from_All}
use Rattle.cr_base.specs.declared.entry.Entry.{Entry}
use Rattle.cr_base.specs.declared.entry.Entry.TheVariants.{Assigned, Unassigned, Reviewed}
use Rattle.cr_base.specs.declared.entry.Stamp.{Stamp}
use Rattle.cr_base.specs.declared.entry.Stamped.{Stamped}
use Rattle.cr_base.specs.Drawn.{stamped, submission}
use Rattle.cr_base.specs.History.{History, all_told, ordinal_told, form_told, whole_form}
use Rattle.cr_base.specs.HistoryFacts.{ordinal_of, forms_of, is_written}
use Rattle.cr_base.specs.Lists.{given, is_nothing, last_or}
use Rattle.cr_history.specs.Groups.{IsRuled, Adds, single, submitted, first_user, Grows, adds, goes_on}
use Rattle.cr_history.specs.Invariants.{IsHeld, ReviewersStay}
use Rattle.cr_history.proofs.Folds.{last_or-append}
use Rattle.cr_history.proofs.Grouped.{grouped-each, submission-each, all-silent}
use Rattle.cr_history.proofs.ListCuts.{AllByRecursion-append, AllByRecursion-map, AllByRecursion-both}

-- ---- labels with forms

-- of a form: its label has one
abbrev HasForm : History → Entry → Type 0
HasForm H (Reviewed paper ordinal version form) = is_written paper ordinal H ≡ true
HasForm H e = Unit {0}

some-more : {A : Type 0} (xs ys : List A) → not (is_nothing ys) ≡ true → not (is_nothing (xs ++ ys)) ≡ true
some-more [] ys h = h
some-more (x ∷ xs) ys h = refl

has_form-more : (s : Stamped) (H : History) (e : Entry) → HasForm H e → HasForm (s ∷ H) e
has_form-more s H (Reviewed paper ordinal version form) h =
    some-more (form_told paper ordinal s.entry) (forms_of paper ordinal H) h
has_form-more s H e h = tt

has_form-first : (stamp : Stamp) (more : Bool) (e : Entry) (H : History) → HasForm (stamped stamp more e ∷ H) e
has_form-first stamp more (Reviewed paper ordinal version form) H =
    by (eqb paper paper) (eqb ordinal ordinal) (eq-eqb paper paper refl) (eq-eqb ordinal ordinal refl)
  where
    by : (b c : Bool) → b ≡ true → c ≡ true → not
        (is_nothing (given (b && c) (whole_form version form) ++ forms_of paper ordinal H)) ≡ true
    by true true hb hc = refl
    by true false hb hc = absurd (true≢false (sym hc))
    by false c hb hc = absurd (true≢false (sym hb))
has_form-first stamp more e H = tt

-- each form of a history is one
has_forms : (H : History) → AllByRecursion (λ (s : Stamped). HasForm H s.entry) H
has_forms [] = tt
has_forms (s ∷ H) = (
  has_form-first s.stamp s.more s.entry H,
  AllByRecursion-map (λ (e : Stamped). HasForm H e.entry) (λ (e : Stamped). HasForm (s ∷ H) e.entry)
      (λ e h. has_form-more s H e.entry h) H (has_forms H),
)

-- ---- one group

-- it takes no seat under which a form is written, and gives whoever has one no other
abbrev LeavesSeats : History → History → Type 0
LeavesSeats H g = (user paper ordinal : ℕ) → ordinal_of (Some user) paper H ≡ Some ordinal
    → is_written paper ordinal H ≡ true
    → all_told (ordinal_told (Some user) paper) g ≡ []

ruled-leaves : (H : History) (stamp : Stamp) (more : Bool) (e : Entry) → IsRuled H stamp.maker e
    → LeavesSeats H (stamped stamp more e ∷ [])
ruled-leaves H stamp more (Assigned paper' user' kind ordinal') ruled user paper ordinal held written =
    by (eqb paper' paper) (eqb user user') refl refl
  where
    by : (b c : Bool) → eqb paper' paper ≡ b → eqb user user' ≡ c → given (b && c) (Some ordinal') ++ [] ≡ []
    by true true same is =
        let none : ordinal_of (Some user) paper H ≡ None =
        subst (λ n. ordinal_of (Some n) paper H ≡ None) (sym (eqb-true user user' is))
        (subst (λ n. ordinal_of (Some user') n H ≡ None) (eqb-true paper' paper same) ruled.seat.1) in
        absurd (filled (sym none ∙ held))
      where
        filled : None ≡ Some ordinal → ⊥
        filled h = cc
    by true false same is = refl
    by false c same is = refl
ruled-leaves H stamp more (Unassigned paper' user' ordinal') ruled user paper ordinal held written =
    by (eqb paper' paper) (eqb user user') refl refl
  where
    by : (b c : Bool) → eqb paper' paper ≡ b → eqb user user' ≡ c → given {A = Option ℕ} (b && c) None ++ [] ≡ []
    by true true same is =
        let seat : ordinal_of (Some user) paper H ≡ Some ordinal' =
        subst (λ n. ordinal_of (Some n) paper H ≡ Some ordinal') (sym (eqb-true user user' is))
        (subst (λ n. ordinal_of (Some user') n H ≡ Some ordinal') (eqb-true paper' paper same) ruled.seat.0) in
        let e : ordinal' ≡ ordinal = same_some (sym seat ∙ held) in
        let none : is_written paper ordinal H ≡ false = subst (λ o. is_written paper o H ≡ false) e
        (subst (λ n. is_written n ordinal' H ≡ false) (eqb-true paper' paper same) ruled.seat.1) in
        absurd (true≢false (sym written ∙ none))
      where
        same_some : Some ordinal' ≡ Some ordinal → ordinal' ≡ ordinal
        same_some h = cc
    by true false same is = refl
    by false c same is = refl
ruled-leaves H stamp more e ruled user paper ordinal held written = refl

added-leaves : (H g : History) → Adds H g → LeavesSeats H g
added-leaves H g (single stamp e bounds made alone ruled) user paper ordinal held written =
    ruled-leaves H stamp false e ruled user paper ordinal held written
added-leaves H g (submitted stamp p title abstract users bounds made ruled registered) user paper ordinal held written =
    all-silent (λ (e : Stamped). ordinal_told (Some user) paper e.entry) _
    (grouped-each stamp (λ (e : Stamped). ordinal_told (Some user) paper e.entry ≡ [])
    (submission stamp.maker p title abstract users)
    (submission-each (λ (e : Entry). (more : Bool) → ordinal_told (Some user) paper e ≡ []) stamp.maker p title abstract
    users (λ more. refl) (λ user more. refl)))
added-leaves H g (first_user stamp name digest bounds is texts) user paper ordinal held written = refl

grown-leaves : (H g : History) → Grows H g → LeavesSeats H g
grown-leaves H g (adds same added) = added-leaves H g added
grown-leaves H g (goes_on stamp e bounds made goes ruled) = ruled-leaves H stamp true e ruled

-- a group that tells of no seat of hers leaves it
seat-stays : (u : Option ℕ) (p : ℕ) (H g : History) → all_told (ordinal_told u p) g ≡ []
    → ordinal_of u p (H ++ g) ≡ ordinal_of u p H
seat-stays u p H g none =
    ap (last_or None) (flat_map-append (λ (e : Stamped). ordinal_told u p e.entry) H g)
    ∙ last_or-append None (all_told (ordinal_told u p) H) (all_told (ordinal_told u p) g)
    ∙ ap (last_or (ordinal_of u p H)) none

-- a form in it is under its maker's own label
ruled-held : (H : History) (stamp : Stamp) (more : Bool) (e : Entry) → IsRuled H stamp.maker e
    → IsHeld (H ++ stamped stamp more e ∷ []) stamp.maker e
ruled-held H stamp more (Reviewed paper ordinal version form) ruled =
    seat-stays (Some stamp.maker) paper H (stamped stamp more (Reviewed paper ordinal version form) ∷ []) refl
    ∙ ruled.seat
ruled-held H stamp more e ruled = tt

added-held : (H g : History) → Adds H g → AllByRecursion (λ (e : Stamped). IsHeld (H ++ g) e.stamp.maker e.entry) g
added-held H g (single stamp e bounds made alone ruled) = (ruled-held H stamp false e ruled, tt)
added-held H g (submitted stamp p title abstract users bounds made ruled registered) =
    grouped-each stamp (λ (e : Stamped). IsHeld (H ++ g) e.stamp.maker e.entry)
    (submission stamp.maker p title abstract users)
    (submission-each (λ (e : Entry). (more : Bool) → IsHeld (H ++ g) stamp.maker e) stamp.maker p title abstract users
    (λ more. tt) (λ user more. tt))
added-held H g (first_user stamp name digest bounds is texts) = (tt, (tt, tt))

grown-held : (H g : History) → Grows H g → AllByRecursion (λ (e : Stamped). IsHeld (H ++ g) e.stamp.maker e.entry) g
grown-held H g (adds same added) = added-held H g added
grown-held H g (goes_on stamp e bounds made goes ruled) = (ruled-held H stamp true e ruled, tt)

-- ---- the step

held-more : (H g : History) → LeavesSeats H g → (maker : ℕ) (e : Entry) → HasForm H e → IsHeld H maker e
    → IsHeld (H ++ g) maker e
held-more H g leaves maker (Reviewed paper ordinal version form) written held =
    seat-stays (Some maker) paper H g (leaves maker paper ordinal held written) ∙ held
held-more H g leaves maker e written held = tt

pub stay-append : (H g : History) → Grows H g → ReviewersStay H → ReviewersStay (H ++ g)
stay-append H g grows kept =
    let Held : History → Stamped → Type 0 = λ G e. IsHeld G e.stamp.maker e.entry in
    All-from_recursion (Held (H ++ g)) (H ++ g)
    (AllByRecursion-append (Held (H ++ g)) H g
    (AllByRecursion-map (λ (e : Stamped). HasForm H e.entry × Held H e) (Held (H ++ g))
    (λ e h. held-more H g (grown-leaves H g grows) e.stamp.maker e.entry h.0 h.1) H
    (AllByRecursion-both (λ (e : Stamped). HasForm H e.entry) (Held H) H (has_forms H)
    (recursion_from_All (Held H) H kept)))
    (grown-held H g grows))
