-- SPDX-License-Identifier: Apache-2.0 OR MIT
-- An author sees whom her paper's authors declared in conflict with it, where each was declared in time.
use Rattle.std.proofs.Common.{◌≡◌, ℕ, Bool, true, false, List, [], ◌∷◌, ◌++◌, refl, sym, ap, ◌∙◌, ◌||◌, ◌&&◌, Option}
use Rattle.std.proofs.Common.{Some, None, eqb, arith}
use Rattle.std.specs.Prelude.{not}
use Rattle.std.specs.List.{flat_map}
use Rattle.std.proofs.lemmas.Bool.{eqb-true, true≢false, false≢true}
use Rattle.cr_base.specs.declared.entry.Entry.{Entry}
use Rattle.cr_base.specs.declared.entry.Entry.TheVariants.{Conflict}
use Rattle.cr_base.specs.declared.entry.Stamp.{Stamp}
use Rattle.cr_base.specs.declared.entry.Stamped.{Stamped}
use Rattle.cr_base.specs.declared.words.Phase.TheVariants.{Bidding}
use Rattle.cr_base.specs.Lists.{given, listed, is_number, until, since}
use Rattle.cr_base.specs.Drawn.{stamped}
use Rattle.cr_base.specs.History.{History, opens, declared_told}
use Rattle.cr_base.specs.HistoryFacts.{authors_of, is_author, is_conflict_on, declared_by_authors}
use Rattle.cr_base.specs.Page.{is_clear_chair}
use Rattle.cr_base.specs.Phases.{chairs_see_conflicts}
use Rattle.cr_base.specs.Words.{is_chair}
use Rattle.cr_base.proofs.Small.{and_not_or}
use Rattle.cr_history.specs.Invariants.{is_opening, ByAuthor, ByNamedOrOther, Early, Late, DeclaresInTime}
use Rattle.cr_policy.specs.Part as part
use Rattle.cr_policy.specs.Sighting.{where_shown}
use Rattle.cr_policy.specs.Triggers.{Reader, reader, Around, standing_to, user_named}
use Rattle.cr_policy.specs.View.{view, sight}
use Rattle.cr_policy.specs.ViewFacts.{only, is_user, conflict_user_seen, own_or_other_seen, bidding_seen}
use Rattle.cr_policy.specs.ViewFacts.{declared_in_view}
use Rattle.cr_policy.proofs.Cuts.{opening_cuts, sights-until, sights-since, kept_until-each, kept_since-each}
use Rattle.cr_policy.proofs.Cuts.{flat_map-cut}
use Rattle.cr_policy.proofs.Tells.{passes, silent, told_where, paper_value}
use Rattle.cr_policy.proofs.Walk.{only-false, list_any-nobody, Tells}

-- ---- what is told of the user named

-- whom an entry names in a conflict with the paper
abbrev user_told : ℕ → Entry → List ℕ
user_told p (Conflict paper user on) = given (eqb paper p) user
user_told p e = []

-- the same, where the reader made it or is another
abbrev own_or_other_told : Option ℕ → ℕ → ℕ → Entry → List ℕ
own_or_other_told u p maker (Conflict paper user on) =
    given (eqb paper p && (is_number u maker || not (is_number u user))) user
own_or_other_told u p maker e = []

own_or_other_value : (a own c : Bool) (u : Option ℕ) (v : ℕ)
    → only (a && (own || not (is_user u (where_shown c (Some v))))) (listed (where_shown c (Some v)))
    ≡ only c (given (a && (own || not (is_number u v))) v)
own_or_other_value a own true u v = by (a && (own || not (is_number u v)))
  where
    by : (b : Bool) → only b (v ∷ []) ≡ only true (given b v)
    by true = refl
    by false = refl
own_or_other_value a own false u v =
    by (a && (own || not false)) ∙ sym (only-false (given (a && (own || not (is_number u v))) v))
  where
    by : (b : Bool) → only {A = ℕ} b [] ≡ []
    by b = refl

module _ (r : Reader) (at : Around) (stamp : Stamp) (more : Bool) where
  user_at : (p : ℕ) (e : Entry) → flat_map (conflict_user_seen p) (sight r at (stamped stamp more e))
      ≡ only (passes part.user r at (stamped stamp more e)) (user_told p e)
  user_at p (Conflict paper user on) = told_where r at stamp more (conflict_user_seen p) part.user
      (Conflict paper user on) (user_told p (Conflict paper user on)) (paper_value (eqb paper p) _ user)
  user_at p e = silent r at stamp more (conflict_user_seen p) e refl

  own_or_other_at : (p : ℕ) (e : Entry) → flat_map (own_or_other_seen r.number p) (sight r at (stamped stamp more e))
      ≡ only (passes part.user r at (stamped stamp more e)) (own_or_other_told r.number p stamp.maker e)
  own_or_other_at p (Conflict paper user on) =
      told_where r at stamp more (own_or_other_seen r.number p) part.user (Conflict paper user on)
      (own_or_other_told r.number p stamp.maker (Conflict paper user on))
      (own_or_other_value (eqb paper p) (user_named r stamp.maker) _ r.number user)
  own_or_other_at p e = silent r at stamp more (own_or_other_seen r.number p) e refl

user_tells : (r : Reader) (p : ℕ) → Tells r (conflict_user_seen p) (λ (e : Stamped). user_told p e.entry)
    (passes part.user r)
user_tells r p at e = user_at r at e.stamp e.more p e.entry

own_or_other_tells : (r : Reader) (p : ℕ)
    → Tells r (own_or_other_seen r.number p) (λ (e : Stamped). own_or_other_told r.number p e.stamp.maker e.entry)
    (passes part.user r)
own_or_other_tells r p at e = own_or_other_at r at e.stamp e.more p e.entry

-- ---- what an author is told is what an author made

-- an author sees what an author made
early_shown : (n w a c own : Bool) → w ≡ true → a ≡ true → (n || ((w && a) || (c || (own || false)))) ≡ true
early_shown n w a c own hw ha = grind arith

-- what an author sees and counts is what an author made: her own, and of the entries that name another than her those
-- that an author made, since she is no clear chair there
late_shown : (n w a k f own : Bool) → a ≡ true → k ≡ false → (own ≡ true → w ≡ true)
    → (own ≡ false → n ≡ true → w ≡ false) → ((n || ((w && a) || ((k && f) || (own || false)))) && (own || not n)) ≡ w
late_shown n w a k f true ha hk mine named = let e : w ≡ true = mine refl in by n w a k f ha e
  where
    by : (n w a k f : Bool) → a ≡ true → w ≡ true
        → ((n || ((w && a) || ((k && f) || (true || false)))) && (true || not n)) ≡ w
    by n w a k f ha e = grind arith
late_shown true w a k f false ha hk mine named = let e : w ≡ false = named refl refl in by w a k f e
  where
    by : (w a k f : Bool) → w ≡ false → ((true || ((w && a) || ((k && f) || (false || false)))) && (false || not true))
        ≡ w
    by w a k f e = grind arith
late_shown false w a k f false ha hk mine named = by w a k f ha hk
  where
    by : (w a k f : Bool) → a ≡ true → k ≡ false
        → ((false || ((w && a) || ((k && f) || (false || false)))) && (false || not false)) ≡ w
    by w a k f ha hk = grind arith

given_both : {A : Type 0} (c same x w : Bool) (v : A) → (same ≡ true → (c && x) ≡ w)
    → only c (given (same && x) v) ≡ given (same && w) v
given_both c true x w v h = both c x ∙ ap (λ b. given b v) (h refl)
  where
    both : (c x : Bool) → only c (given x v) ≡ given (c && x) v
    both true true = refl
    both true false = refl
    both false true = refl
    both false false = refl
given_both c false x w v h = refl

given_early : {A : Type 0} (c same w : Bool) (v : A) → (same ≡ true → c ≡ true) → (same ≡ true → w ≡ true)
    → only c (given same v) ≡ given (same && w) v
given_early c true w v h k = ap (λ b. only b (v ∷ [])) (h refl) ∙ ap (λ b. given b v) (sym (k refl))
given_early c false w v h k = refl

module _ (u p : ℕ) (H : History) (author : is_author (Some u) p H ≡ true) where
  abbrev r : Reader
  r = reader (Some u) H

  abbrev made_told : Stamped → List ℕ
  made_told e = declared_told (is_author (Some e.stamp.maker) p H) p e.entry

  early_at : (at : Around) (stamp : Stamp) (more : Bool) (e : Entry) → ByAuthor H stamp.maker e
      → only (passes part.user r at (stamped stamp more e)) (user_told p e)
      ≡ declared_told (is_author (Some stamp.maker) p H) p e
  early_at at stamp more (Conflict paper user on) h =
      given_early _ (eqb paper p) (is_author (Some stamp.maker) p H) user
      (λ same. let e : paper ≡ p = eqb-true paper p same in early_shown _ (r.wrote stamp.maker paper) (r.author paper) _
      _ h (ap r.author e ∙ author))
      (λ same. ap (λ n. is_author (Some stamp.maker) n H) (sym (eqb-true paper p same)) ∙ h)
  early_at at stamp more e h = refl

  late_at : (at : Around) (stamp : Stamp) (more : Bool) (e : Entry) → ByNamedOrOther H stamp.maker e
      → only (passes part.user r at (stamped stamp more e)) (own_or_other_told (Some u) p stamp.maker e)
      ≡ declared_told (is_author (Some stamp.maker) p H) p e
  late_at at stamp more (Conflict paper user on) h =
      given_both _ (eqb paper p) (eqb u stamp.maker || not (eqb u user)) (is_author (Some stamp.maker) p H) user
      (λ same. let e : paper ≡ p = eqb-true paper p same in
      let a : r.author paper ≡ true = ap r.author e ∙ author in
      late_shown (eqb u user) (r.wrote stamp.maker paper) (r.author paper) (is_clear_chair (standing_to r paper))
      (chairs_see_conflicts r.now) (eqb u stamp.maker) a
      (and_not_or (is_chair r.rank) (r.author paper) (is_conflict_on (Some u) paper H) a)
      (λ own. ap (λ m. is_author (Some m) paper H) (sym (eqb-true u stamp.maker own)) ∙ a)
      (λ other named. h (ap (λ n. eqb n stamp.maker) (sym (eqb-true u user named)) ∙ other))
      ∙ ap (λ n. is_author (Some stamp.maker) n H) e)
  late_at at stamp more e h = refl

  opening-silent : (wrote : Bool) (e : Entry) → opens Bidding e ≡ true → declared_told wrote p e ≡ []
  opening-silent wrote (Conflict paper user on) h = absurd (false≢true h)
  opening-silent wrote e h = refl

  declared-seen_by : DeclaresInTime H → declared_in_view (Some u) p (view (Some u) H) ≡ declared_by_authors p H
  declared-seen_by in_time =
      let first : flat_map (conflict_user_seen p) (until bidding_seen (view (Some u) H))
      ≡ flat_map made_told (until is_opening H) =
      sights-until r is_opening bidding_seen (opening_cuts r Bidding) (conflict_user_seen p)
      (λ (e : Stamped). user_told p e.entry) (passes part.user r) (user_tells r p) [] H
      ∙ kept_until-each is_opening (passes part.user r) (λ (e : Stamped). user_told p e.entry) made_told (Early H)
      (λ at e h. early_at at e.stamp e.more e.entry h) [] H in_time.early in
      let second : flat_map (own_or_other_seen (Some u) p) (since bidding_seen (view (Some u) H))
      ≡ flat_map made_told (since is_opening H) =
      sights-since r is_opening bidding_seen (opening_cuts r Bidding) (own_or_other_seen (Some u) p)
      (λ (e : Stamped). own_or_other_told (Some u) p e.stamp.maker e.entry) (passes part.user r)
      (own_or_other_tells r p) [] H
      ∙ kept_since-each is_opening (passes part.user r)
      (λ (e : Stamped). own_or_other_told (Some u) p e.stamp.maker e.entry) made_told (Late H)
      (λ at e h. late_at at e.stamp e.more e.entry h) [] H in_time.late in
      ap (λ xs. xs ++ flat_map (own_or_other_seen (Some u) p) (since bidding_seen (view (Some u) H))) first
      ∙ ap (λ ys. flat_map made_told (until is_opening H) ++ ys) second
      ∙ flat_map-cut is_opening made_told (λ e h. opening-silent (is_author (Some e.stamp.maker) p H) e.entry h) H

-- whom an author is shown as declared is whom the paper's authors declared
pub declared-seen_by_author : (u : Option ℕ) (p : ℕ) (H : History) → DeclaresInTime H → is_author u p H ≡ true
    → declared_in_view u p (view u H) ≡ declared_by_authors p H
declared-seen_by_author None p H in_time author = absurd (true≢false (sym author ∙ list_any-nobody (authors_of p H)))
declared-seen_by_author (Some u) p H in_time author = declared-seen_by u p H author in_time
