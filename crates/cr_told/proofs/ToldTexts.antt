-- SPDX-License-Identifier: Apache-2.0 OR MIT
-- Of a paper's title, abstract, authors and versions, and of its response, a view of a legal history shows something
-- exactly to those whom an answer tells it.
use Rattle.std.proofs.Common.{◌≡◌, ℕ, Bool, true, false, List, [], ◌∷◌, ◌++◌, refl, sym, ap, ◌∙◌, ◌||◌, ◌&&◌, Option}
use Rattle.std.proofs.Common.{Some, eqb, arith}
use Rattle.std.specs.Prelude.{All, not}
use Rattle.std.specs.List.{flat_map}
use Rattle.std.proofs.lemmas.Bool.{eqb-true, true≢false}
use Rattle.std.proofs.lemmas.List.Elements.{All-head, All-tail}
use Rattle.cr_base.specs.declared.entry.Entry.{Entry}
use Rattle.cr_base.specs.declared.entry.Entry.TheVariants.{Submitted, Coauthor, Revised, Uploaded, Responded}
use Rattle.cr_base.specs.declared.entry.Stamp.{Stamp}
use Rattle.cr_base.specs.declared.entry.Stamped.{Stamped}
use Rattle.cr_base.specs.Lists.{listed, is_number}
use Rattle.cr_base.specs.History.{History}
use Rattle.cr_base.specs.HistoryFacts.{mode_of, is_author}
use Rattle.cr_history.specs.Invariants.{IsInOrder, InTurn}
use Rattle.cr_policy.specs.Sighting.{Sighting}
use Rattle.cr_policy.specs.View.{view}
use Rattle.cr_policy.specs.ViewFacts.{only, upload_shown, upload_seen, uploads_in_view, response_seen}
use Rattle.cr_bounds.specs.ShownTo.{serves, reads_visiting, reads_to_judge, oversees, discusses, hides_authors}
use Rattle.cr_bounds.specs.ShownTo.{is_in_programme, appears, is_told, where_known, is_replaced, is_superseded}
use Rattle.cr_bounds.proofs.BoundsWalk.{shown_to, all-view}
use Rattle.cr_told.specs.ToldPages.{shown_on, writers_shown, writer_by}
use Rattle.cr_told.proofs.ToldMakers.{IsByAuthor, by-authors, not-own}

-- what no sighting shows, the view doesn't
pub none-of : {X A : Type 0} (f : X → List A) (xs : List X) → All (λ (x : X). f x ≡ []) xs → flat_map f xs ≡ []
none-of f [] none = refl
none-of {X} f (x ∷ xs) none =
    let P : X → Type 0 = λ x. f x ≡ [] in
    ap (λ ys. ys ++ flat_map f xs) (All-head P x xs none) ∙ none-of f xs (All-tail P x xs none)

-- a part that she may not know of this paper, and one of an entry on this paper that she isn't told of
unknown : {A : Type 0} (same known : Bool) (x : A) → (same ≡ true → known ≡ false)
    → only same (listed (where_known known x)) ≡ []
unknown true known x h = ap (λ b. only true (listed (where_known b x))) (h refl)
unknown false true x h = refl
unknown false false x h = refl

untold : {A : Type 0} (same told : Bool) (x : A) → told ≡ true → (same ≡ true → told ≡ false) → only same (x ∷ []) ≡ []
untold true told x is h = absurd (true≢false (sym is ∙ h refl))
untold false told x is h = refl

module _ (u : Option ℕ) (p : ℕ) (H : History) (order : InTurn IsInOrder [] H) where
  abbrev Each : {A : Type 0} → (Sighting → List A) → Type 0
  Each f =
      (before later : History) (stamp : Stamp) (more : Bool) (e : Entry) → IsByAuthor H stamp.maker e
      → is_told u H before later stamp.maker e ≡ true
      → f (shown_to u H before later stamp e) ≡ []

  none-shown : {A : Type 0} (f : Sighting → List A) → Each f → flat_map f (view u H) ≡ []
  none-shown f each =
      none-of f (view u H)
      (all-view u H (λ (s : Sighting). f s ≡ []) (λ (e : Stamped). IsByAuthor H e.stamp.maker e.entry) each
      (by-authors H order))

  -- who neither wrote the paper nor may know its last text is shown none
  module _ (may : ℕ → Bool) (stranger : is_author u p H ≡ false) (hidden : may p ≡ false) where
    text-none : (paper : ℕ) (late : ℕ → Bool) → eqb paper p ≡ true
        → (is_author u paper H || (not (late paper) && may paper)) ≡ false
    text-none paper late same =
        let e : paper ≡ p = eqb-true paper p same in
        ap (λ n. is_author u n H || (not (late n) && may n)) e
        ∙ by (is_author u p H) (not (late p)) (may p) stranger hidden
      where
        by : (a l m : Bool) → a ≡ false → m ≡ false → (a || (l && m)) ≡ false
        by a l m ha hm = grind (arith, ha, hm)

    own-none : (paper maker : ℕ) (late : ℕ → Bool) → is_author (Some maker) paper H ≡ true → eqb paper p ≡ true
        → ((is_number u maker || is_author u paper H) || (not (late paper) && may paper)) ≡ false
    own-none paper maker late wrote same =
        let e : paper ≡ p = eqb-true paper p same in
        ap (λ b. (b || is_author u paper H) || (not (late paper) && may paper))
        (not-own H u paper maker wrote (ap (λ n. is_author u n H) e ∙ stranger))
        ∙ text-none paper late same

  pub titles-none : is_author u p H ≡ false → (serves u H || reads_visiting u p H || is_in_programme p H) ≡ false
      → shown_on p (λ (s : Sighting). s.title) (view u H) ≡ []
  titles-none stranger hidden = none-shown (λ (s : Sighting). only (is_number s.paper p) (listed s.title)) each
    where
      may : ℕ → Bool
      may n = serves u H || reads_visiting u n H || is_in_programme n H

      each : Each (λ (s : Sighting). only (is_number s.paper p) (listed s.title))
      each before later stamp more (Submitted paper title abstract) right told =
          unknown (eqb paper p) _ title (text-none may stranger hidden paper (λ n. is_replaced n later))
      each before later stamp more (Revised paper title abstract) right told =
          unknown (eqb paper p) _ title (own-none may stranger hidden paper stamp.maker (λ n. is_replaced n later)
          right)
      each before later stamp more e right told = refl

  pub abstracts-none : is_author u p H ≡ false → (reads_to_judge u p H || appears p H) ≡ false
      → shown_on p (λ (s : Sighting). s.abstract) (view u H) ≡ []
  abstracts-none stranger hidden = none-shown (λ (s : Sighting). only (is_number s.paper p) (listed s.abstract)) each
    where
      may : ℕ → Bool
      may n = reads_to_judge u n H || appears n H

      each : Each (λ (s : Sighting). only (is_number s.paper p) (listed s.abstract))
      each before later stamp more (Submitted paper title abstract) right told =
          unknown (eqb paper p) _ abstract (text-none may stranger hidden paper (λ n. is_replaced n later))
      each before later stamp more (Revised paper title abstract) right told =
          unknown (eqb paper p) _ abstract (own-none may stranger hidden paper stamp.maker (λ n. is_replaced n later)
          right)
      each before later stamp more e right told = refl

  pub uploads-none : is_author u p H ≡ false → (reads_to_judge u p H || appears p H) ≡ false
      → uploads_in_view p (view u H) ≡ []
  uploads-none stranger hidden = none-shown (upload_seen p) each
    where
      may : ℕ → Bool
      may n = reads_to_judge u n H || appears n H

      neither : (same known : Bool) (version : ℕ) (content : List ℕ) → (same ≡ true → known ≡ false)
          → only same (upload_shown (where_known known version) (where_known known content)) ≡ []
      neither true known version content h =
          ap (λ b. only true (upload_shown (where_known b version) (where_known b content))) (h refl)
      neither false true version content h = refl
      neither false false version content h = refl

      each : Each (upload_seen p)
      each before later stamp more (Uploaded paper version content) right told =
          neither (eqb paper p) _ version content (own-none may stranger hidden paper stamp.maker
          (λ n. is_superseded n later) right)
      each before later stamp more e right told = refl

  pub responses-none : is_author u p H ≡ false → discusses u p H ≡ false → flat_map (response_seen p) (view u H) ≡ []
  responses-none stranger hidden = none-shown (response_seen p) each
    where
      each : Each (response_seen p)
      each before later stamp more (Responded paper text) right told =
          untold (eqb paper p) _ text told
          (λ same.
          let e : paper ≡ p = eqb-true paper p same in
          ap (λ b. (b || is_author u paper H) || discusses u paper H)
          (not-own H u paper stamp.maker right (ap (λ n. is_author u n H) e ∙ stranger))
          ∙ ap (λ n. is_author u n H || discusses u n H) e
          ∙ (λ i. stranger i || hidden i))
      each before later stamp more e right told = refl

  -- who is told of an author
  abbrev pub knows_authors : ℕ → Bool
  knows_authors n = is_author u n H || oversees u n H || (reads_to_judge u n H && not (hides_authors (mode_of H)))
      || is_in_programme n H

  pub writers-none : is_author u p H ≡ false → knows_authors p ≡ false → writers_shown p (view u H) ≡ []
  writers-none stranger hidden =
      none-shown (λ (s : Sighting). only (is_number s.paper p) (listed (writer_by s.kind s.by s.user))) each
    where
      known : (paper : ℕ) → eqb paper p ≡ true → knows_authors paper ≡ false
      known paper same = ap knows_authors (eqb-true paper p same) ∙ hidden

      each : Each (λ (s : Sighting). only (is_number s.paper p) (listed (writer_by s.kind s.by s.user)))
      each before later stamp more (Submitted paper title abstract) right told =
          unknown (eqb paper p) (knows_authors paper) stamp.maker (known paper)
      each before later stamp more (Coauthor paper user) right told =
          untold (eqb paper p) _ user told
          (λ same. ap (λ b. b || is_author u paper H || oversees u paper H
          || (reads_to_judge u paper H && not (hides_authors (mode_of H))) || is_in_programme paper H)
          (not-own H u paper stamp.maker right (ap (λ n. is_author u n H) (eqb-true paper p same) ∙ stranger))
          ∙ known paper same)
      each before later stamp more e right told = refl
