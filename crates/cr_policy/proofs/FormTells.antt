-- SPDX-License-Identifier: Apache-2.0 OR MIT
-- What each entry shows of the forms of reviews, and what is kept of that.
use Rattle.std.proofs.Common.{◌≡◌, ℕ, Bool, true, false, List, [], ◌∷◌, ◌++◌, refl, sym, ap, subst, ◌∙◌, ◌||◌, ◌&&◌}
use Rattle.std.proofs.Common.{Some, eqb}
use Rattle.std.specs.Prelude.{map}
use Rattle.std.specs.List.{flat_map}
use Rattle.std.proofs.lemmas.Bool.{eqb-true, and_parts, or_right, true≢false}
use Rattle.cr_base.specs.declared.entry.Entry.{Entry}
use Rattle.cr_base.specs.declared.entry.Entry.TheVariants.{Reviewed}
use Rattle.cr_base.specs.declared.entry.Stamp.{Stamp}
use Rattle.cr_base.specs.declared.entry.Stamped.{Stamped}
use Rattle.cr_base.specs.declared.form.Form.{Form}
use Rattle.cr_base.specs.Lists.{given, listed, is_number}
use Rattle.cr_base.specs.Drawn.{stamped}
use Rattle.cr_base.specs.History.{FormTold, whole_form, form_told, own_form_told}
use Rattle.cr_policy.specs.Part as part
use Rattle.cr_policy.specs.Part.{Part, own_parts}
use Rattle.cr_policy.specs.Sighting.{Sighting, where_shown}
use Rattle.cr_policy.specs.Triggers.{Reader, Around, TriggerRow, position_of, rows, ◌see◌, shows}
use Rattle.cr_policy.specs.View.{sight, is_seen, joined}
use Rattle.cr_policy.specs.ViewFacts.{only, form_shown, form_seen, own_form_seen, done_seen}
use Rattle.cr_policy.proofs.BulkViews.{last-shows}
use Rattle.cr_policy.proofs.Walk.{only-false, flat_map-given, Tells, TellsAll, TellsAs}
use Rattle.cr_policy.proofs.Tells.{passes, own_value, seen_where, silent, told_where, shown_value}

-- a form whose version and whose text for the committee are shown, or not
abbrev pub masked_form : Bool → ℕ → Form → FormTold
masked_form whole version form = record {
  version = where_shown whole (Some version);
  score = form.score;
  confidence = form.confidence;
  to_authors = form.to_authors;
  to_pc = where_shown whole (Some form.to_pc);
}

-- the same, where its grades and its text to the authors are shown
abbrev form_with : ℕ → Form → Bool → Bool → List FormTold
form_with version form whole graded =
    form_shown (where_shown whole (Some version)) (where_shown graded (Some form.score))
    (where_shown graded (Some form.confidence))
    (where_shown graded (Some form.to_authors)) (where_shown whole (Some form.to_pc))

-- the mark of a form under a label: the label is shown with it
done_value : {A : Type 0} (same labelled done : Bool) (o ordinal : ℕ) (x : A) → (done ≡ true → labelled ≡ true)
    → only (same && is_number (where_shown labelled (Some ordinal)) o) (listed (where_shown done (Some true)))
    ≡ only done (map (λ _. true) (given (same && eqb ordinal o) x))
done_value same labelled true o ordinal x h =
    ap (λ b. only (same && is_number (where_shown b (Some ordinal)) o) (true ∷ [])) (h refl)
    ∙ by (same && eqb ordinal o)
  where
    by : (b : Bool) → only b (true ∷ []) ≡ only true (map (λ _. true) (given b x))
    by true = refl
    by false = refl
done_value same labelled false o ordinal x h = sym (only-false (map (λ _. true) (given (same && eqb ordinal o) x)))

-- what a sighting shows of a form, for one who is told `m` of it
form_value : {B : Type 0} (m : FormTold → B) (same seen labelled graded whole : Bool) (o ordinal version : ℕ)
    (form : Form)
    → (graded ≡ true → labelled ≡ true) → (graded ≡ true → seen ≡ true)
    → ((same && eqb ordinal o) ≡ true → graded ≡ true → m (masked_form whole version form)
    ≡ m (whole_form version form))
    → only seen
    (map m (only (same && is_number (where_shown labelled (Some ordinal)) o) (form_with version form whole graded)))
    ≡ only graded (map m (given (same && eqb ordinal o) (whole_form version form)))
form_value {B} m same seen labelled true whole o ordinal version form hl hs alike =
    ap
    (λ b.
    only seen
    (map m (only (same && is_number (where_shown b (Some ordinal)) o) (masked_form whole version form ∷ []))))
    (hl refl)
    ∙ ap (λ b. only b (map m (only (same && eqb ordinal o) (masked_form whole version form ∷ [])))) (hs refl)
    ∙ by (same && eqb ordinal o) alike
  where
    by : (b : Bool) → (b ≡ true → true ≡ true → m (masked_form whole version form) ≡ m (whole_form version form))
        → only true (map m (only b (masked_form whole version form ∷ [])))
        ≡ only true (map m (given b (whole_form version form)))
    by true h = ap (λ (x : B). x ∷ []) (h refl refl)
    by false h = refl
form_value m same seen labelled false whole o ordinal version form hl hs alike =
    sym (only-false (map m (given (same && eqb ordinal o) (whole_form version form))))

module _ (r : Reader) (at : Around) (stamp : Stamp) (more : Bool) where
  own_form_at : (p : ℕ) (e : Entry) → flat_map (own_form_seen p) (sight r at (stamped stamp more e))
      ≡ own_form_told r.number p stamp.maker e
  own_form_at p (Reviewed paper ordinal version form) =
      flat_map-given (own_form_seen p) (is_seen r at e) (joined r at e)
      ∙ own_value (is_seen r at e) (eqb paper p) (is_number r.number stamp.maker) (whole_form version form) _
      (λ own. ap (λ b. form_with version form b (passes part.score r at e)) (whole own)
      ∙ ap (λ b. form_with version form true b) (graded own))
      (λ own. seen_where r at part.score e (graded own))
    where
      e : Stamped
      e = stamped stamp more (Reviewed paper ordinal version form)

      -- its maker is shown all that belongs to the whole of it
      hers : (q : Part) → own_parts q ≡ true → is_number r.number stamp.maker ≡ true → passes q r at e ≡ true
      hers q is own =
          let table : List TriggerRow = rows r (position_of at (Reviewed paper ordinal version form)) stamp.maker
          (Reviewed paper ordinal version form) in
          ap (λ (b : Bool). shows (table ++ b see own_parts ∷ []) q) own ∙ last-shows table q is

      whole : is_number r.number stamp.maker ≡ true → passes part.version r at e ≡ true
      whole = hers part.version refl

      graded : is_number r.number stamp.maker ≡ true → passes part.score r at e ≡ true
      graded = hers part.score refl
  own_form_at p e = silent r at stamp more (own_form_seen p) e refl

  done_at : (p o : ℕ) (e : Entry)
      → flat_map (done_seen p o) (sight r at (stamped stamp more e))
      ≡ only (passes part.done r at (stamped stamp more e)) (map (λ _. true) (form_told p o e))
  done_at p o (Reviewed paper ordinal version form) =
      told_where r at stamp more (done_seen p o) part.done (Reviewed paper ordinal version form)
      (map (λ _. true) (form_told p o (Reviewed paper ordinal version form)))
      (done_value (eqb paper p) (passes part.ordinal r at e) (passes part.done r at e) o ordinal
      (whole_form version form) (labelled _ _))
    where
      e : Stamped
      e = stamped stamp more (Reviewed paper ordinal version form)

      labelled : (first rest : Bool) → (first || false) ≡ true → (first || rest) ≡ true
      labelled true rest h = refl
      labelled false rest h = absurd (true≢false (sym h))
  done_at p o e = silent r at stamp more (done_seen p o) e refl

pub own_form_tells : (r : Reader) (p : ℕ)
    → TellsAll r (own_form_seen p) (λ (e : Stamped). own_form_told r.number p e.stamp.maker e.entry)
own_form_tells r p at e = own_form_at r at e.stamp e.more p e.entry

pub done_tells : (r : Reader) (p o : ℕ) → Tells r (done_seen p o)
    (λ (e : Stamped). map (λ _. true) (form_told p o e.entry)) (passes part.done r)
done_tells r p o at e = done_at r at e.stamp e.more p o e.entry

module _ {B : Type 0} (m : FormTold → B) (r : Reader) (at : Around) where
  -- a form on the paper whose grades are shown is as good as all of it, for one who is told it so
  abbrev pub ShowsForm : ℕ → Type 0
  ShowsForm p =
      (stamp : Stamp) (more : Bool) (ordinal version : ℕ) (form : Form)
      → passes part.score r at (stamped stamp more (Reviewed p ordinal version form)) ≡ true
      → m (masked_form (passes part.version r at (stamped stamp more (Reviewed p ordinal version form))) version form)
      ≡ m (whole_form version form)

  form_at : (p o : ℕ) → ShowsForm p → (stamp : Stamp) (more : Bool) (e : Entry)
      → flat_map (λ (s : Sighting). map m (form_seen p o s)) (sight r at (stamped stamp more e))
      ≡ only (passes part.score r at (stamped stamp more e)) (map m (form_told p o e))
  form_at p o shown stamp more (Reviewed paper ordinal version form) =
      flat_map-given (λ (s : Sighting). map m (form_seen p o s)) (is_seen r at e) (joined r at e)
      ∙ form_value m (eqb paper p) (is_seen r at e) (passes part.ordinal r at e) (passes part.score r at e)
      (passes part.version r at e) o ordinal version form
      (λ graded. or_right _ (passes part.score r at e) graded) (λ graded. seen_where r at part.score e graded)
      (λ same. subst (λ (n : ℕ). ShowsForm n) (sym (eqb-true paper p (and_parts (eqb paper p) (eqb ordinal o) same).0))
      shown stamp more ordinal version form)
    where
      e : Stamped
      e = stamped stamp more (Reviewed paper ordinal version form)
  form_at p o shown stamp more e = silent r at stamp more (λ (s : Sighting). map m (form_seen p o s)) e refl

pub form_tells : {B : Type 0} (m : FormTold → B) (r : Reader) (p o : ℕ) → ((at : Around) → ShowsForm m r at p)
    → TellsAs m r (form_seen p o) (λ (e : Stamped). form_told p o e.entry) (passes part.score r)
form_tells m r p o shown at e = form_at m r at p o (shown at) e.stamp e.more e.entry

-- what is told of a form under the label is kept, where the part of it is shown
pub form_kept : (q : Part) (r : Reader) (at : Around) (p o : ℕ)
    → ((stamp : Stamp) (more : Bool) (version : ℕ) (form : Form)
    → passes q r at (stamped stamp more (Reviewed p o version form)) ≡ true)
    → (e : Stamped) → only (passes q r at e) (form_told p o e.entry) ≡ form_told p o e.entry
form_kept q r at p o shown e = by e.stamp e.more e.entry
  where
    by : (stamp : Stamp) (more : Bool) (e : Entry)
        → only (passes q r at (stamped stamp more e)) (form_told p o e) ≡ form_told p o e
    by stamp more (Reviewed paper ordinal version form) =
        shown_value (passes q r at (stamped stamp more (Reviewed paper ordinal version form)))
        (eqb paper p && eqb ordinal o) (whole_form version form) (λ same.
        let parts = and_parts (eqb paper p) (eqb ordinal o) same in
        ap (λ n. passes q r at (stamped stamp more (Reviewed n ordinal version form))) (eqb-true paper p parts.0)
        ∙ ap (λ k. passes q r at (stamped stamp more (Reviewed p k version form))) (eqb-true ordinal o parts.1)
        ∙ shown stamp more version form)
    by stamp more e = refl
