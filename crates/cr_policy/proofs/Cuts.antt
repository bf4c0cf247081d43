-- SPDX-License-Identifier: Apache-2.0 OR MIT
-- Folds over the part of a view before the entry at which a test first passes, and over the part after it.
use Rattle.std.proofs.Common.{◌≡◌, Bool, true, false, cond, List, [], ◌∷◌, ◌++◌, refl, sym, ap, ◌∙◌, ◌||◌, ◌&&◌}
use Rattle.std.proofs.Common.{append_assoc, Option}
use Rattle.std.specs.Prelude.{map, if◌then◌else◌}
use Rattle.std.specs.List.{AllByRecursion, flat_map, list_any}
use Rattle.std.proofs.lemmas.Bool.{or_left, or_right, false≢true}
use Rattle.std.proofs.lemmas.List.{map-append}
use Rattle.std.proofs.lemmas.List.Concat.{flat_map-append}
use Rattle.std.proofs.lemmas.List.Folds.{list_any-append}
use Rattle.cr_base.specs.declared.entry.Entry.{Entry}
use Rattle.cr_base.specs.declared.entry.Entry.TheVariants.{PhaseSet}
use Rattle.cr_base.specs.declared.entry.EntryKind.TheVariants as kinds
use Rattle.cr_base.specs.declared.entry.Stamp.{Stamp}
use Rattle.cr_base.specs.declared.entry.Stamped.{Stamped}
use Rattle.cr_base.specs.declared.words.Phase.{Phase}
use Rattle.cr_base.specs.Lists.{given, until, since, last_from, is_nothing}
use Rattle.cr_base.specs.Drawn.{stamped}
use Rattle.cr_base.specs.History.{History, opens}
use Rattle.cr_history.proofs.ListCuts.{until-append, since-append}
use Rattle.cr_policy.specs.Sighting.{Sighting}
use Rattle.cr_policy.specs.Triggers.{Reader, Around}
use Rattle.cr_policy.specs.View.{sight, sights, is_seen, joined}
use Rattle.cr_policy.specs.ViewFacts.{only, is_kind, shows_phase}
use Rattle.cr_policy.proofs.Walk.{Tells, TellsAs, kept, sights-kept, kept-all, kept-map, map-only, map-flat_map}
use Rattle.cr_policy.proofs.Walk.{last_from-append, last_from-same}

-- ---- what is kept at a cut

abbrev pub kept_until : {A : Type 0} → (Stamped → Bool) → (Around → Stamped → Bool) → (Stamped → List A) → History
    → History → List A
kept_until cut passes told before [] = []
kept_until cut passes told before (e ∷ after) =
    if cut e then [] else only (passes (record { before = before; after = after }) e) (told e) ++ kept_until cut passes
    told (before ++ e ∷ []) after

abbrev pub kept_since : {A : Type 0} → (Stamped → Bool) → (Around → Stamped → Bool) → (Stamped → List A) → History
    → History → List A
kept_since cut passes told before [] = []
kept_since cut passes told before (e ∷ after) =
    if cut e then kept passes told (before ++ e ∷ []) after else kept_since cut passes told (before ++ e ∷ []) after

-- the cut is seen: an entry at which it passes is one sighting at which it passes, and no other entry is
pub record CutsAt (r : Reader) (cut : Stamped → Bool) (cut_seen : Sighting → Bool) : Type 0 where
  pub one : (at : Around) (e : Stamped) → cut e ≡ true
      → (s : Sighting) × ((sight r at e ≡ s ∷ []) × (cut_seen s ≡ true))
  pub other : (at : Around) (e : Stamped) → cut e ≡ false → list_any cut_seen (sight r at e) ≡ false

-- so it is seen in a view exactly where it passes
pub cut-seen : (r : Reader) (cut : Stamped → Bool) (cut_seen : Sighting → Bool) → CutsAt r cut cut_seen
    → (before H : History)
    → list_any cut_seen (sights r before H) ≡ list_any cut H
cut-seen r cut cut_seen cuts before [] = refl
cut-seen r cut cut_seen cuts before (e ∷ after) =
    let rest = sights r (before ++ e ∷ []) after in
    list_any-append cut_seen (sight r at e) rest
    ∙ (λ i. by (cut e) refl i || cut-seen r cut cut_seen cuts (before ++ e ∷ []) after i)
  where
    at : Around
    at = record { before = before; after = after }

    by : (b : Bool) → cut e ≡ b → list_any cut_seen (sight r at e) ≡ b
    by true h =
        let o = cuts.one at e h in
        ap (list_any cut_seen) o.1.0 ∙ ap (λ b. b || false) o.1.1
    by false h = cuts.other at e h

-- everyone sees a phase opened
module _ (r : Reader) (first : Phase) where
  -- whether a sighting opens it
  abbrev pub opening_seen : Sighting → Bool
  opening_seen s = is_kind kinds.PhaseSet s && shows_phase first s.phase

  opening-one : (at : Around) (stamp : Stamp) (more : Bool) (e : Entry) → opens first e ≡ true
      → (s : Sighting) × ((sight r at (stamped stamp more e) ≡ s ∷ []) × (opening_seen s ≡ true))
  opening-one at stamp more (PhaseSet phase) h = (joined r at (stamped stamp more (PhaseSet phase)), (refl, h))
  opening-one at stamp more e h = absurd (false≢true h)

  opening-other : (at : Around) (stamp : Stamp) (more : Bool) (e : Entry) → opens first e ≡ false
      → list_any opening_seen (sight r at (stamped stamp more e)) ≡ false
  opening-other at stamp more (PhaseSet phase) h = ap (λ b. b || false) h
  opening-other at stamp more e h = by (is_seen r at (stamped stamp more e)) (joined r at (stamped stamp more e)) refl
    where
      by : (b : Bool) (s : Sighting) → opening_seen s ≡ false → list_any opening_seen (given b s) ≡ false
      by true s h = ap (λ b. b || false) h
      by false s h = refl

  pub opening_cuts : CutsAt r (λ (e : Stamped). opens first e.entry) opening_seen
  opening_cuts = record {
    one = λ at e h. opening-one at e.stamp e.more e.entry h;
    other = λ at e h. opening-other at e.stamp e.more e.entry h;
  }

module _ {A : Type 0} (r : Reader) (cut : Stamped → Bool) (cut_seen : Sighting → Bool) (cuts : CutsAt r cut cut_seen)
    (seen : Sighting → List A) (told : Stamped → List A) (passes : Around → Stamped → Bool)
    (tells : Tells r seen told passes) where
  pub sights-until : (before H : History) → flat_map seen (until cut_seen (sights r before H))
      ≡ kept_until cut passes told before H
  sights-until before [] = refl
  sights-until before (e ∷ after) = by (cut e) refl (sights-until (before ++ e ∷ []) after)
    where
      at : Around
      at = record { before = before; after = after }

      rest : List Sighting
      rest = sights r (before ++ e ∷ []) after

      by : (b : Bool) → cut e ≡ b → flat_map seen (until cut_seen rest) ≡ kept_until cut passes told (before ++ e ∷ [])
          after → flat_map seen (until cut_seen (sight r at e ++ rest))
          ≡ cond b [] (only (passes at e) (told e) ++ kept_until cut passes told (before ++ e ∷ []) after)
      by true h later =
          let o = cuts.one at e h in
          ap (λ xs. flat_map seen (until cut_seen (xs ++ rest))) o.1.0
          ∙ ap (λ b. flat_map seen (cond b [] (o.0 ∷ until cut_seen rest))) o.1.1
      by false h later =
          ap (flat_map seen) (until-append cut_seen (sight r at e) rest (cuts.other at e h))
          ∙ flat_map-append seen (sight r at e) (until cut_seen rest)
          ∙ ap (λ xs. xs ++ flat_map seen (until cut_seen rest)) (tells at e)
          ∙ ap (λ ys. only (passes at e) (told e) ++ ys) later

  pub sights-since : (before H : History) → flat_map seen (since cut_seen (sights r before H))
      ≡ kept_since cut passes told before H
  sights-since before [] = refl
  sights-since before (e ∷ after) = by (cut e) refl (sights-since (before ++ e ∷ []) after)
    where
      at : Around
      at = record { before = before; after = after }

      rest : List Sighting
      rest = sights r (before ++ e ∷ []) after

      by : (b : Bool) → cut e ≡ b
          → flat_map seen (since cut_seen rest) ≡ kept_since cut passes told (before ++ e ∷ []) after
          → flat_map seen (since cut_seen (sight r at e ++ rest))
          ≡ cond b (kept passes told (before ++ e ∷ []) after) (kept_since cut passes told (before ++ e ∷ []) after)
      by true h later =
          let o = cuts.one at e h in
          ap (λ xs. flat_map seen (since cut_seen (xs ++ rest))) o.1.0
          ∙ ap (λ b. flat_map seen (cond b rest (since cut_seen rest))) o.1.1
          ∙ sights-kept r seen told passes tells (before ++ e ∷ []) after
      by false h later = ap (flat_map seen) (since-append cut_seen (sight r at e) rest (cuts.other at e h)) ∙ later

-- ---- facts of each entry

-- entries of whom `P` holds tell, where they pass, what `told'` says
abbrev KeepsAs : {A : Type 0} → (Around → Stamped → Bool) → (Stamped → List A) → (Stamped → List A) → (Stamped → Type 0)
    → Type 0
KeepsAs passes told told' P = (at : Around) (e : Stamped) → P e → only (passes at e) (told e) ≡ told' e

module _ {A : Type 0} (cut : Stamped → Bool) (passes : Around → Stamped → Bool) (told told' : Stamped → List A)
    (P : Stamped → Type 0) (same : KeepsAs passes told told' P) where
  kept-each : (before H : History) → AllByRecursion P H → kept passes told before H ≡ flat_map told' H
  kept-each before [] h = refl
  kept-each before (e ∷ after) h =
      ap (λ xs. xs ++ kept passes told (before ++ e ∷ []) after)
      (same (record { before = before; after = after }) e h.0)
      ∙ ap (λ ys. told' e ++ ys) (kept-each (before ++ e ∷ []) after h.1)

  pub kept_until-each : (before H : History) → AllByRecursion P (until cut H)
      → kept_until cut passes told before H ≡ flat_map told' (until cut H)
  kept_until-each before [] h = refl
  kept_until-each before (e ∷ after) h = by (cut e) h (kept_until-each (before ++ e ∷ []) after)
    where
      by : (b : Bool) → AllByRecursion P (cond b [] (e ∷ until cut after))
          → (AllByRecursion P (until cut after) → kept_until cut passes told (before ++ e ∷ []) after
          ≡ flat_map told' (until cut after))
          → cond b [] (only (passes (record { before = before; after = after }) e) (told e) ++ kept_until cut passes
          told (before ++ e ∷ []) after) ≡ flat_map told' (cond b [] (e ∷ until cut after))
      by true h later = refl
      by false h later =
          ap (λ xs. xs ++ kept_until cut passes told (before ++ e ∷ []) after)
          (same (record { before = before; after = after }) e h.0)
          ∙ ap (λ ys. told' e ++ ys) (later h.1)

  pub kept_since-each : (before H : History) → AllByRecursion P (since cut H)
      → kept_since cut passes told before H ≡ flat_map told' (since cut H)
  kept_since-each before [] h = refl
  kept_since-each before (e ∷ after) h = by (cut e) h (kept_since-each (before ++ e ∷ []) after)
    where
      by : (b : Bool) → AllByRecursion P (cond b after (since cut after))
          → (AllByRecursion P (since cut after) → kept_since cut passes told (before ++ e ∷ []) after
          ≡ flat_map told' (since cut after))
          → cond b (kept passes told (before ++ e ∷ []) after) (kept_since cut passes told (before ++ e ∷ []) after)
          ≡ flat_map told' (cond b after (since cut after))
      by true h later = kept-each (before ++ e ∷ []) after h
      by false h later = later h

-- ---- facts by where their entries stand

module _ {A : Type 0} (cut : Stamped → Bool) (passes : Around → Stamped → Bool) (told : Stamped → List A) where
  -- an entry before the cut passes where none behind it and before the cut tells anything: then the last that is kept
  -- there is the last that is told there
  pub last_from-kept_until : ((at : Around) (e : Stamped) → list_any cut at.before ≡ false
      → is_nothing (flat_map told (until cut at.after)) ≡ true
      → only (passes at e) (told e) ≡ told e) → (o : Option A) (before H : History) → list_any cut before ≡ false
      → last_from o (kept_until cut passes told before H) ≡ last_from o (flat_map told (until cut H))
  last_from-kept_until last_passes o before [] none = refl
  last_from-kept_until last_passes o before (e ∷ after) none =
      by (cut e) refl (λ mine is. last_from-kept_until last_passes (last_from o mine) (before ++ e ∷ []) after
      (still is))
    where
      at : Around
      at = record { before = before; after = after }

      later : List A
      later = flat_map told (until cut after)

      rest : List A
      rest = kept_until cut passes told (before ++ e ∷ []) after

      still : cut e ≡ false → list_any cut (before ++ e ∷ []) ≡ false
      still is = list_any-append cut before (e ∷ []) ∙ ap (λ b. b || (cut e || false)) none ∙ ap (λ b. b || false) is

      by : (b : Bool) → cut e ≡ b
          → ((mine : List A) → cut e ≡ false → last_from (last_from o mine) rest ≡ last_from (last_from o mine) later)
          → last_from o (cond b [] (only (passes at e) (told e) ++ rest))
          ≡ last_from o (flat_map told (cond b [] (e ∷ until cut after)))
      by true is deeper = refl
      by false is deeper =
          last_from-append o (only (passes at e) (told e)) rest
          ∙ deeper (only (passes at e) (told e)) is
          ∙ last_from-same o (only (passes at e) (told e)) (told e) later (last_passes at e none)
          ∙ sym (last_from-append o (told e) later)

  -- each entry behind the cut passes: then all are kept there
  pub kept_since-all : ((at : Around) (e : Stamped) → list_any cut at.before ≡ true → only (passes at e) (told e)
      ≡ told e)
      → (before H : History) → kept_since cut passes told before H ≡ flat_map told (since cut H)
  kept_since-all all before [] = refl
  kept_since-all all before (e ∷ after) = by (cut e) refl (kept_since-all all (before ++ e ∷ []) after)
    where
      is_cut : History → Type 0
      is_cut before = list_any cut before ≡ true

      grows : (before : History) (e : Stamped) → is_cut before → is_cut (before ++ e ∷ [])
      grows before e h = list_any-append cut before (e ∷ []) ∙ or_left (list_any cut before) (cut e || false) h

      at_cut : cut e ≡ true → is_cut (before ++ e ∷ [])
      at_cut is =
          list_any-append cut before (e ∷ []) ∙ or_right (list_any cut before) (cut e || false)
          (or_left (cut e) false is)

      by : (b : Bool) → cut e ≡ b → kept_since cut passes told (before ++ e ∷ []) after
          ≡ flat_map told (since cut after)
          → cond b (kept passes told (before ++ e ∷ []) after) (kept_since cut passes told (before ++ e ∷ []) after)
          ≡ flat_map told (cond b after (since cut after))
      by true is later = kept-all is_cut passes told grows all (before ++ e ∷ []) after (at_cut is)
      by false is later = later

-- ---- facts as they are told

-- what is made of what is kept on each side
module _ {A B : Type 0} (m : A → B) (cut : Stamped → Bool) (passes : Around → Stamped → Bool)
    (told : Stamped → List A) where
  kept_until-map : (before H : History) → kept_until cut passes (λ e. map m (told e)) before H
      ≡ map m (kept_until cut passes told before H)
  kept_until-map before [] = refl
  kept_until-map before (e ∷ after) = by (cut e) (kept_until-map (before ++ e ∷ []) after)
    where
      shown : Bool
      shown = passes (record { before = before; after = after }) e

      rest : List A
      rest = kept_until cut passes told (before ++ e ∷ []) after

      made : List B
      made = kept_until cut passes (λ e. map m (told e)) (before ++ e ∷ []) after

      by : (b : Bool) → made ≡ map m rest → cond b [] (only shown (map m (told e)) ++ made)
          ≡ map m (cond b [] (only shown (told e) ++ rest))
      by true later = refl
      by false later =
          ap (λ xs. xs ++ made) (sym (map-only m shown (told e)))
          ∙ ap (λ ys. map m (only shown (told e)) ++ ys) later
          ∙ sym (map-append m (only shown (told e)) rest)

  kept_since-map : (before H : History) → kept_since cut passes (λ e. map m (told e)) before H
      ≡ map m (kept_since cut passes told before H)
  kept_since-map before [] = refl
  kept_since-map before (e ∷ after) = by (cut e) (kept_since-map (before ++ e ∷ []) after)
    where
      by : (b : Bool) → kept_since cut passes (λ e. map m (told e)) (before ++ e ∷ []) after
          ≡ map m (kept_since cut passes told (before ++ e ∷ []) after)
          → cond b (kept passes (λ e. map m (told e)) (before ++ e ∷ []) after)
          (kept_since cut passes (λ e. map m (told e)) (before ++ e ∷ []) after)
          ≡ map m (cond b (kept passes told (before ++ e ∷ []) after)
          (kept_since cut passes told (before ++ e ∷ []) after))
      by true later = kept-map m passes told (before ++ e ∷ []) after
      by false later = later

  -- so it is what is made of what is seen there, for one who is told `m` of it
  pub sights_until-as : (r : Reader) (cut_seen : Sighting → Bool) → CutsAt r cut cut_seen → (seen : Sighting → List A)
      → TellsAs m r seen told passes
      → (before H : History) → map m (flat_map seen (until cut_seen (sights r before H)))
      ≡ map m (kept_until cut passes told before H)
  sights_until-as r cut_seen cuts seen tells before H =
      map-flat_map m seen (until cut_seen (sights r before H))
      ∙ sights-until r cut cut_seen cuts (λ s. map m (seen s)) (λ e. map m (told e)) passes tells before H
      ∙ kept_until-map before H

  pub sights_since-as : (r : Reader) (cut_seen : Sighting → Bool) → CutsAt r cut cut_seen → (seen : Sighting → List A)
      → TellsAs m r seen told passes
      → (before H : History) → map m (flat_map seen (since cut_seen (sights r before H)))
      ≡ map m (kept_since cut passes told before H)
  sights_since-as r cut_seen cuts seen tells before H =
      map-flat_map m seen (since cut_seen (sights r before H))
      ∙ sights-since r cut cut_seen cuts (λ s. map m (seen s)) (λ e. map m (told e)) passes tells before H
      ∙ kept_since-map before H

-- what the cut itself doesn't tell is told before it and after it
pub flat_map-cut : {X A : Type 0} (cut : X → Bool) (told : X → List A) → ((x : X) → cut x ≡ true → told x ≡ [])
    → (xs : List X) → flat_map told (until cut xs) ++ flat_map told (since cut xs) ≡ flat_map told xs
flat_map-cut cut told silent [] = refl
flat_map-cut {X} {A} cut told silent (x ∷ after) = by (cut x) refl (flat_map-cut cut told silent after)
  where
    by : (b : Bool) → cut x ≡ b → flat_map told (until cut after) ++ flat_map told (since cut after)
        ≡ flat_map told after → flat_map told (cond b [] (x ∷ until cut after))
        ++ flat_map told (cond b after (since cut after)) ≡ told x ++ flat_map told after
    by true h later = ap (λ ys. ys ++ flat_map told after) (sym (silent x h))
    by false h later = append_assoc (told x) (flat_map told (until cut after)) (flat_map told (since cut after))
        ∙ ap (λ ys. told x ++ ys) later
