-- SPDX-License-Identifier: Apache-2.0 OR MIT
-- Of forms each part that is shown, beside the label and the mark, is told or left out.
use Rattle.std.proofs.Common.{◌≡◌, ◌≤◌, ℕ, zero, suc, Bool, true, false, List, [], ◌∷◌, ◌++◌, refl, sym, ap, ◌∙◌}
use Rattle.std.proofs.Common.{◌||◌}
use Rattle.std.proofs.Common.{◌&&◌, Option, Some, None, eqb, arith}
use Rattle.std.specs.Prelude.{not, map, IsTrue, nat_eq, unwrap_or, if◌then◌else◌}
use Rattle.std.specs.Str.{bytes_eq}
use Rattle.std.specs.List.{flat_map, list_any}
use Rattle.std.proofs.lemmas.Bool.{true≢false, eq-eqb, eqb-true, eqb-false, or_left, or_right}
use Rattle.std.proofs.lemmas.List.Folds.{list_any-append}
use Rattle.std.specs.Prelude.{filter}
use Rattle.std.proofs.lemmas.Bool.{and_from, and_parts}
use Rattle.std.specs.Prelude.{is_some}
use Rattle.std.proofs.Math.Bool.{or-false}
use Rattle.cr_base.specs.declared.entry.Entry.TheVariants.{Reviewed}
use Rattle.cr_base.specs.declared.entry.EntryKind.TheVariants as kinds
use Rattle.cr_base.specs.declared.entry.EntryKind.{EntryKind}
use Rattle.cr_base.specs.declared.page.Reviewer.{Reviewer}
use Rattle.cr_base.specs.Rows.{kind_number}
use Rattle.cr_base.specs.Lists.{given, last_from}
use Rattle.cr_base.specs.History.{form_told, whole_form}
use Rattle.cr_base.specs.HistoryFacts.{role_of, standing_of, is_written}
use Rattle.cr_base.specs.Page.{is_clear_chair}
use Rattle.cr_base.specs.declared.entry.Stamp.{Stamp}
use Rattle.cr_base.specs.declared.entry.Stamped.{Stamped}
use Rattle.cr_base.specs.declared.form.Form.{Form}
use Rattle.cr_base.specs.declared.review.ReviewLine.{ReviewLine}
use Rattle.cr_base.specs.Drawn.{stamped}
use Rattle.cr_base.specs.Labels.{by_labels, most_labels}
use Rattle.cr_base.specs.Lists.{is_nothing, is_number, last, listed, until, since}
use Rattle.cr_base.specs.History.{History}
use Rattle.cr_base.specs.HistoryFacts.{phase_of, is_author, is_conflict_on, is_invited, is_reviewer, ordinal_of}
use Rattle.cr_base.specs.HistoryFacts.{assigned_under}
use Rattle.cr_base.specs.Phases.{is_from}
use Rattle.cr_base.specs.declared.words.Phase.TheVariants.{Reviewing}
use Rattle.cr_history.specs.Invariants.{IsSubmitted}
use Rattle.cr_history.proofs.SeatAgreement.{seat-drawn, ordinal_of-tables}
use Rattle.cr_policy.specs.ViewFacts.{is_user}
use Rattle.cr_policy.specs.Legal.{Legal}
use Rattle.cr_policy.specs.Part as part
use Rattle.cr_policy.specs.Part.{Part}
use Rattle.cr_policy.specs.Sighting.{Sighting}
use Rattle.cr_policy.specs.View.{View, view}
use Rattle.cr_policy.specs.ViewFacts.{only, is_kind, discussion_seen, seats_in_view}
use Rattle.cr_policy.proofs.ReviewerTells.{seat-seen_by_chair}
use Rattle.cr_policy.proofs.ReviewTells.{written-seen}
use Rattle.cr_policy.proofs.LegalLaws.{legal_invariants}
use Rattle.cr_policy.proofs.StandingLaws.{seat-seen}
use Rattle.cr_policy.proofs.Walk.{is_nothing-append}
use Rattle.cr_bounds.specs.ShownTo.{administers, chairs_committee, oversees, is_on_committee, is_past_submission}
use Rattle.cr_bounds.specs.ShownTo.{has_conflict, counts_form}
use Rattle.cr_bounds.specs.ShownTo.{is_told, where_known, is_eligible, serves, visits, reads_to_judge, discusses}
use Rattle.cr_bounds.specs.ShownTo.{is_notified, is_past_reviewing, reads_review, reads_form, learns_form}
use Rattle.cr_bounds.specs.ShownTo.{is_discussed}
use Rattle.cr_bounds.specs.ShownTo.{is_reviewed, is_past_discussion, is_response_or_later, is_author_since_response}
use Rattle.cr_bounds.specs.ShownTo.{is_responded_to}
use Rattle.cr_bounds.proofs.BoundsWords.{phase-words}
use Rattle.cr_bounds.proofs.BoundsWalk.{shown_to}
use Rattle.cr_told.specs.ToldPages.{shown_of, ordinal_by}
use Rattle.cr_told.specs.ToldLists.{is_left, is_shown_done, reviewer_shown, reviewers_listed}
use Rattle.cr_told.specs.ToldParts.{has_mark, is_taken_off, is_form_left}
use Rattle.cr_told.specs.ToldPages.{label_shown_of}
use Rattle.cr_told.specs.ToldLists.{name_shown, knows_reviewers}
use Rattle.cr_told.specs.ToldParts.{has, agree, lists, has_line, is_followed, scores_at, is_told as is_part_told}
use Rattle.cr_told.specs.ToldParts.{is_left_untold}
use Rattle.cr_told.specs.ToldReviews.{review_shown, forms_listed, own_forms_listed, reviews_listed}
use Rattle.cr_told.specs.ToldReviews.{was_asked_to_respond, reviews_now, reviews_visiting, is_reviewing_now}
use Rattle.cr_told.proofs.ToldKnown.{AllOf, Each, all-of, known-own}
use Rattle.cr_told.proofs.ToldLists.{leads-serves, page_lists_told}
use Rattle.cr_told.proofs.ToldPlaces.{reviewing-begun}
use Rattle.cr_told.proofs.ToldReports.{written}
use Rattle.cr_told.proofs.ToldWords.{chair-leads}
use Rattle.cr_told.proofs.ToldEach.{last-there, last-here, listed-here, known}
use Rattle.cr_told.proofs.ToldNames.{same-bytes}
use Rattle.cr_told.proofs.ToldPlaces.{reviewing-on, known-some, own-so, number-is}
use Rattle.cr_told.proofs.ToldReviews.{reviews_told, heard-responds}
use Rattle.cr_told.proofs.ToldShown as reads

-- ---- lists

-- what is told of a label stands among what is told of all
any-label : {A : Type 0} (test : A → Bool) (told : ℕ → List A) (n o : ℕ) → 1 ≤ o → o ≤ n → list_any test (told o) ≡ true
    → list_any test (by_labels told n) ≡ true
any-label test told zero o low high is = absurd (omega (arith, low, high))
any-label test told (suc n) o low high is =
    list_any-append test (by_labels told n) (told (suc n))
    ∙ by (eqb o (suc n)) refl (λ few. any-label test told n o low few is)
  where
    by : (b : Bool) → eqb o (suc n) ≡ b → (o ≤ n → list_any test (by_labels told n) ≡ true)
        → (list_any test (by_labels told n) || list_any test (told (suc n))) ≡ true
    by true e rest = or_right (list_any test (by_labels told n)) (list_any test (told (suc n)))
        (ap (λ k. list_any test (told k)) (sym (eqb-true o (suc n) e)) ∙ is)
    by false e rest = or_left (list_any test (by_labels told n)) _ (rest (omega (arith, high, eqb-false o (suc n) e)))

labels-most : (o : ℕ) → o ≤ 26 → o ≤ most_labels
unfolding most_labels
labels-most o h = h

-- what stands behind the first that passes, or before it
since-some : {A : Type 0} (test : A → Bool) (before : List A) (s : A) (after : List A) → list_any test before ≡ true
    → since test (before ++ s ∷ after) ≡ since test before ++ s ∷ after
since-some test [] s after h = absurd (true≢false (sym h))
since-some test (x ∷ before) s after h = by (test x) h (since-some test before s after)
  where
    by : (b : Bool) → (b || list_any test before) ≡ true
        → (list_any test before ≡ true → since test (before ++ s ∷ after) ≡ since test before ++ s ∷ after)
        → (if b then before ++ s ∷ after else since test (before ++ s ∷ after))
        ≡ (if b then before else since test before) ++ s ∷ after
    by true h rest = refl
    by false h rest = rest h

until-none : {A : Type 0} (test : A → Bool) (before : List A) (s : A) (after : List A) → list_any test before ≡ false
    → test s ≡ false
    → until test (before ++ s ∷ after) ≡ before ++ s ∷ until test after
until-none test [] s after h e = ap (λ b. if b then [] else s ∷ until test after) e
until-none test (x ∷ before) s after h e = by (test x) h (λ h. until-none test before s after h e)
  where
    by : (b : Bool) → (b || list_any test before) ≡ false
        → (list_any test before ≡ false → until test (before ++ s ∷ after) ≡ before ++ s ∷ until test after)
        → (if b then [] else x ∷ until test (before ++ s ∷ after)) ≡ x ∷ (before ++ s ∷ until test after)
    by true h rest = absurd (true≢false h)
    by false h rest = ap (λ xs. x ∷ xs) (rest h)

-- ---- forms

-- there is a form where there is a score
nothing-same : (named entire : Bool) (p : ℕ) (V : View) (o : ℕ) (seen : View)
    → is_nothing (forms_listed named entire p V o seen) ≡ is_nothing (scores_at p o seen)
nothing-same named entire p V o [] = refl
nothing-same named entire p V o (t ∷ seen) =
    is_nothing-append (only b (review_shown named entire p V o t)) (forms_listed named entire p V o seen)
    ∙ (λ i. one b t.score i && nothing-same named entire p V o seen i)
    ∙ sym (is_nothing-append (only b (listed t.score)) (scores_at p o seen))
  where
    b : Bool
    b = is_kind kinds.Reviewed t && (is_number t.paper p && is_number t.ordinal o)

    one : (b : Bool) (score : Option ℕ)
        → is_nothing {A = ReviewLine}
        (only b
        (map (λ (score : ℕ). record {
          confidence = unwrap_or t.confidence 0;
          label = o;
          score = score;
          to_authors = unwrap_or t.to_authors [];
          to_pc = if entire then t.to_pc else None;
          user = if named then name_shown (assigned_under o (seats_in_view p V)) V else None;
          version = if entire then t.version else None;
        })
        (listed score)))
        ≡ is_nothing (only b (listed score))
    one true None = refl
    one false None = refl
    one true (Some score) = refl
    one false (Some score) = refl

-- ---- reviewers

some-last : {A : Type 0} (xs : List A) → is_some (last xs) ≡ true → not (is_nothing xs) ≡ true
some-last [] h = h
some-last (x ∷ xs) h = refl

-- the last, where it passes, is one that does
last-in : {A : Type 0} (q : A → Bool) (d : A) (x : Option A) (xs : List A) → q (unwrap_or (last_from x xs) d) ≡ true
    → (q (unwrap_or x d) || list_any q xs) ≡ true
last-in q d x [] h = or_left (q (unwrap_or x d)) false h
last-in q d x (y ∷ xs) h = or_right (q (unwrap_or x d)) (q y || list_any q xs) (last-in q d (Some y) xs h)

-- what is so of what one reading makes of each is so of what another does
any-over : {X A B : Type 0} (f : X → List A) (g : X → List B) (q : A → Bool) (test : B → Bool)
    → ((x : X) → list_any q (f x) ≡ true → list_any test (g x) ≡ true)
    → (xs : List X) → list_any q (flat_map f xs) ≡ true → list_any test (flat_map g xs) ≡ true
any-over f g q test each [] h = h
any-over f g q test each (x ∷ xs) h =
    list_any-append test (g x) (flat_map g xs)
    ∙ by (list_any q (f x)) refl (sym (list_any-append q (f x) (flat_map f xs)) ∙ h) (any-over f g q test each xs)
  where
    by : (b : Bool) → list_any q (f x) ≡ b → (list_any q (f x) || list_any q (flat_map f xs)) ≡ true
        → (list_any q (flat_map f xs) ≡ true → list_any test (flat_map g xs) ≡ true)
        → (list_any test (g x) || list_any test (flat_map g xs)) ≡ true
    by true e h rest = or_left (list_any test (g x)) _ (each x e)
    by false e h rest = or_right (list_any test (g x)) _ (rest (ap (λ b. b || list_any q (flat_map f xs)) (sym e) ∙ h))

-- a reviewer of the paper who is assigned under the label, and isn't taken off, is listed with the mark that she has
-- written
module _ (u : Option ℕ) (H : History) (paper o maker : ℕ) (leading : administers u paper H ≡ true)
    (stays : is_left paper (view u H) o ≡ true)
    (done : is_shown_done paper o (view u H) ≡ true)
  where
    abbrev marked : Reviewer → Bool
    marked r = eqb o r.label && unwrap_or r.done false

    marked-line : (t : Sighting) (b1 b2 : Bool) (kind : EntryKind) (ordinal : Option ℕ)
        → list_any (λ x. agree nat_eq x (Some o)) (only (b1 && b2) (listed (ordinal_by kind ordinal))) ≡ true
        → list_any marked
        (only (eqb (kind_number kind) (kind_number kinds.Assigned) && b1)
        (map (reviewer_shown u paper H t) (filter (is_left paper (view u H)) (listed ordinal)))) ≡ true
    marked-line t true true kinds.Assigned (Some k) h = by (eqb-true k o (sym (or-false (eqb k o)) ∙ h))
      where
        by : k ≡ o
            → list_any marked
            (only true (map (reviewer_shown u paper H t) (if is_left paper (view u H) k then k ∷ [] else []))) ≡ true
        by e =
            ap
            (λ k. list_any marked
            (only true (map (reviewer_shown u paper H t) (if is_left paper (view u H) k then k ∷ [] else [])))) e
            ∙ (λ i. list_any marked (only true (map (reviewer_shown u paper H t) (if stays i then o ∷ [] else []))))
            ∙ (λ i. (eq-eqb o o refl i && unwrap_or (where_known (leading i) (done i)) false) || false)
    marked-line t true false kinds.Assigned (Some k) h = absurd (true≢false (sym h))
    marked-line t false b2 kinds.Assigned (Some k) h = absurd (true≢false (sym h))
    marked-line t b1 b2 kinds.Assigned None h = absurd (true≢false (sym h))
    marked-line t true true kinds.Unassigned (Some k) h = absurd (true≢false (sym h))
    marked-line t true false kinds.Unassigned (Some k) h = absurd (true≢false (sym h))
    marked-line t false b2 kinds.Unassigned (Some k) h = absurd (true≢false (sym h))
    marked-line t b1 b2 kinds.Unassigned None h = absurd (true≢false (sym h))
    marked-line t b1 b2 kind ordinal h = absurd (true≢false (sym h))

    marked-listed : label_shown_of (Some maker) paper (view u H) ≡ Some o
        → list_any marked (reviewers_listed u paper H) ≡ true
    marked-listed label =
        any-over (λ (t : Sighting). only (is_number t.paper paper && is_user (Some maker) t.user)
        (listed (ordinal_by t.kind t.ordinal)))
        (λ (t : Sighting). only (is_kind kinds.Assigned t && is_number t.paper paper)
        (map (reviewer_shown u paper H t) (filter (is_left paper (view u H)) (listed t.ordinal))))
        (λ x. agree nat_eq x (Some o)) marked
        (λ t. marked-line t (is_number t.paper paper) (is_user (Some maker) t.user) t.kind t.ordinal) (view u H)
        (last-in (λ x. agree nat_eq x (Some o)) None None
        (shown_of (Some maker) paper (λ (t : Sighting). ordinal_by t.kind t.ordinal) (view u H))
        (ap (λ x. agree nat_eq x (Some o)) label ∙ eq-eqb o o refl))

module _ (u : Option ℕ) (H : History) (legal : Legal H) (before after : View) where
  abbrev V : View
  V = view u H

  module _ (earlier later : History) (stamp : Stamp) (more : Bool) (paper o version : ℕ) (form : Form)
      (there : IsSubmitted H paper) (low : 1 ≤ o) (high : o ≤ 26)
      (begun : is_from Reviewing (phase_of H) ≡ true)
      (reviews : (not (is_number u stamp.maker) || is_reviewer u paper H) ≡ true)
      (held : ordinal_of (Some stamp.maker) paper H ≡ Some o)
      (whole : earlier ++ stamped stamp more (Reviewed paper o version form) ∷ later ≡ H)
      (told : is_told u H earlier later stamp.maker (Reviewed paper o version form) ≡ true)
      (is : view u H ≡ before ++ shown_to u H earlier later stamp (Reviewed paper o version form) ∷ after)
    where
      abbrev s : Sighting
      s = shown_to u H earlier later stamp (Reviewed paper o version form)

      -- the line that tells it
      abbrev line : Bool → Bool → ReviewLine
      line named entire = record {
        confidence = form.confidence;
        label = o;
        score = form.score;
        to_authors = form.to_authors;
        to_pc = if entire then s.to_pc else None;
        user = if named then name_shown (assigned_under o (seats_in_view paper V)) V else None;
        version = if entire then s.version else None;
      }

      abbrev shown-at : Bool → Bool → Sighting → List ReviewLine
      shown-at named entire t = only (is_kind kinds.Reviewed t && (is_number t.paper paper && is_number t.ordinal o))
          (review_shown named entire paper V o t)

      module _ (read : reads_review u H earlier later stamp.maker paper o ≡ true) where
        review-line : (named entire : Bool) → review_shown named entire paper V o s ≡ line named entire ∷ []
        review-line named entire = λ i.
            map (λ (score : ℕ). record {
              confidence = unwrap_or (where_known (read i) form.confidence) 0;
              label = o;
              score = score;
              to_authors = unwrap_or (where_known (read i) form.to_authors) [];
              to_pc = if entire then s.to_pc else None;
              user = if named then name_shown (assigned_under o (seats_in_view paper V)) V else None;
              version = if entire then s.version else None;
            })
            (listed (where_known (read i) form.score))

        shows : (named entire : Bool) → shown-at named entire s ≡ line named entire ∷ []
        shows named entire = λ i. only (eq-eqb paper paper refl i && eq-eqb o o refl i) (review-line named entire i)

        module _ (T : ReviewLine → Bool) (pass : (named : Bool) → T (line named true) ≡ true)
            (pass-author : is_author u paper H ≡ true → is_number u stamp.maker ≡ false → (named : Bool)
            → T (line named false) ≡ true)
          where
            abbrev test : ReviewLine → Bool
            test l = eqb o l.label && T l

            passes : (named : Bool) → test (line named true) ≡ true
            passes named = λ i. eq-eqb o o refl i && pass named i

            answered : (is_notified u paper H || was_asked_to_respond u paper H || discusses u paper H
                || reviews_now u paper H || reviews_visiting u paper H) ≡ true
                → has_line u H s T ≡ list_any test (reviews_listed u paper H)
            answered h = ap (λ lines. lists lines test)
                (reviews_told u paper H legal there ∙ ap (λ b. where_known b (reviews_listed u paper H)) h)

            abbrev Goal : Type 0
            Goal =
                IsTrue
                (has_line u H s T || (is_followed u H s after
                || (is_number u stamp.maker && not (reads_to_judge u paper H))))

            behind : is_number u stamp.maker ≡ true → reads_to_judge u paper H ≡ false → Goal
            behind m h = or_right (has_line u H s T) _ (or_right (is_followed u H s after) _ (λ i. m i && not (h i)))

            -- of the label the last that is shown among these
            last-line : (named entire : Bool) (first rest : View) → test (line named entire) ≡ true
                → is_nothing (scores_at paper o rest) ≡ true
                → list_any test (listed (last (forms_listed named entire paper V o (first ++ s ∷ rest)))) ≡ true
            last-line named entire first rest passed none =
                ap (λ l. list_any test (listed l))
                (last-here (shown-at named entire) first rest s (line named entire) (shows named entire)
                (nothing-same named entire paper V o rest ∙ none))
                ∙ ap (λ b. b || false) passed

            of-authors : is_author u paper H ≡ true → is_number u stamp.maker ≡ false
                → (is_notified u paper H || was_asked_to_respond u paper H) ≡ true → Goal
            of-authors a m learns = by (is_nothing (scores_at paper o after)) refl
              where
                by : (b : Bool) → is_nothing (scores_at paper o after) ≡ b → Goal
                by true none =
                    or_left (has_line u H s T) _
                    (answered
                    (first (is_notified u paper H) (was_asked_to_respond u paper H) (discusses u paper H)
                    (reviews_now u paper H) (reviews_visiting u paper H) learns)
                    ∙ ap (λ b. list_any test
                    (if b then by_labels
                    (λ (k : ℕ). listed (last (forms_listed (knows_reviewers u paper H) false paper V k V)))
                    most_labels
                    else (if is_on_committee (role_of u H) && is_past_reviewing (phase_of H)
                    then by_labels
                    (λ (k : ℕ).
                    listed (last (forms_listed (knows_reviewers u paper H) true paper V k (until discussion_seen V)))
                    ++ forms_listed (knows_reviewers u paper H) true paper V k (since discussion_seen V)) most_labels
                    else own_forms_listed u paper V))) a
                    ∙ any-label test
                    (λ (k : ℕ). listed (last (forms_listed (knows_reviewers u paper H) false paper V k V)))
                    most_labels o low (labels-most o high)
                    (ap
                    (λ (W : View). list_any test
                    (listed (last (forms_listed (knows_reviewers u paper H) false paper V o W)))) is
                    ∙ last-line (knows_reviewers u paper H) false before after
                    (λ i. eq-eqb o o refl i && pass-author a m (knows_reviewers u paper H) i) none))
                  where
                    first : (a f b c d : Bool) → (a || f) ≡ true → (a || f || b || c || d) ≡ true
                    first a f b c d h = grind (arith, h)
                by false some =
                    or_right (has_line u H s T) _
                    (or_left (is_followed u H s after) _
                    ((λ i. not (is_nothing (scores_at paper o (if a i then after else until discussion_seen after))))
                    ∙ ap not some))

            of-members : is_author u paper H ≡ false
                → (is_on_committee (role_of u H) && is_past_reviewing (phase_of H)) ≡ true → discusses u paper H ≡ true
                → Goal
            of-members a past d = by (list_any discussion_seen before) refl
                (is_nothing (scores_at paper o (until discussion_seen after))) refl
              where
                second : (a f b c d : Bool) → b ≡ true → (a || f || b || c || d) ≡ true
                second a f b c d h = grind (arith, h)

                lined : list_any test
                    (listed (last (forms_listed (knows_reviewers u paper H) true paper V o (until discussion_seen V)))
                    ++ forms_listed (knows_reviewers u paper H) true paper V o (since discussion_seen V)) ≡ true
                    → has_line u H s T ≡ true
                lined h =
                    answered (second (is_notified u paper H) (was_asked_to_respond u paper H) (discusses u paper H)
                    (reviews_now u paper H) (reviews_visiting u paper H) d)
                    ∙ (λ i. list_any test
                    (if a i then by_labels
                    (λ (k : ℕ). listed (last (forms_listed (knows_reviewers u paper H) false paper V k V)))
                    most_labels
                    else (if past i
                    then by_labels
                    (λ (k : ℕ).
                    listed (last (forms_listed (knows_reviewers u paper H) true paper V k (until discussion_seen V)))
                    ++ forms_listed (knows_reviewers u paper H) true paper V k (since discussion_seen V)) most_labels
                    else own_forms_listed u paper V)))
                    ∙ any-label test
                    (λ (k : ℕ).
                    listed (last (forms_listed (knows_reviewers u paper H) true paper V k (until discussion_seen V)))
                    ++ forms_listed (knows_reviewers u paper H) true paper V k (since discussion_seen V)) most_labels o
                    low (labels-most o high) h

                by : (begun : Bool) → list_any discussion_seen before ≡ begun → (nothing : Bool)
                    → is_nothing (scores_at paper o (until discussion_seen after)) ≡ nothing → Goal
                by true e nothing f =
                    or_left (has_line u H s T) _
                    (lined
                    (list_any-append test
                    (listed
                    (last (forms_listed (knows_reviewers u paper H) true paper V o (until discussion_seen V))))
                    (forms_listed (knows_reviewers u paper H) true paper V o (since discussion_seen V))
                    ∙ or_right
                    (list_any test
                    (listed
                    (last (forms_listed (knows_reviewers u paper H) true paper V o (until discussion_seen V))))) _
                    (ap (λ (W : View). list_any test (forms_listed (knows_reviewers u paper H) true paper V o W))
                    (ap (since discussion_seen) is ∙ since-some discussion_seen before s after e)
                    ∙ listed-here test (shown-at (knows_reviewers u paper H) true) (since discussion_seen before) after
                    s
                    (ap (list_any test) (shows (knows_reviewers u paper H) true)
                    ∙ ap (λ b. b || false) (passes (knows_reviewers u paper H))))))
                by false e true f =
                    or_left (has_line u H s T) _
                    (lined
                    (list_any-append test
                    (listed
                    (last (forms_listed (knows_reviewers u paper H) true paper V o (until discussion_seen V))))
                    (forms_listed (knows_reviewers u paper H) true paper V o (since discussion_seen V))
                    ∙ or_left
                    (list_any test
                    (listed
                    (last (forms_listed (knows_reviewers u paper H) true paper V o (until discussion_seen V))))) _
                    (ap
                    (λ (W : View). list_any test
                    (listed (last (forms_listed (knows_reviewers u paper H) true paper V o W))))
                    (ap (until discussion_seen) is ∙ until-none discussion_seen before s after e refl)
                    ∙ last-line (knows_reviewers u paper H) true before (until discussion_seen after)
                    (passes (knows_reviewers u paper H)) f)))
                by false e false f =
                    or_right (has_line u H s T) _
                    (or_left (is_followed u H s after) _
                    ((λ i. not (is_nothing (scores_at paper o (if a i then after else until discussion_seen after))))
                    ∙ ap not f))

            -- her own: of a member before the discussion, and of an external
            of-herself : is_author u paper H ≡ false
                → (is_on_committee (role_of u H) && is_past_reviewing (phase_of H)) ≡ false
                → (is_notified u paper H || was_asked_to_respond u paper H || discusses u paper H
                || reviews_now u paper H || reviews_visiting u paper H) ≡ true → is_number u stamp.maker ≡ true
                → Goal
            of-herself a past due m =
                or_left (has_line u H s T) _
                (answered due
                ∙ (λ i. list_any test
                (if a i then by_labels
                (λ (k : ℕ). listed (last (forms_listed (knows_reviewers u paper H) false paper V k V))) most_labels
                else (if past i
                then by_labels
                (λ (k : ℕ).
                listed (last (forms_listed (knows_reviewers u paper H) true paper V k (until discussion_seen V)))
                ++ forms_listed (knows_reviewers u paper H) true paper V k (since discussion_seen V)) most_labels
                else flat_map (λ (t : Sighting). only (is_kind kinds.Reviewed t && (is_number t.paper paper && t.mine))
                (review_shown false true paper V (unwrap_or (label-is i) 0) t)) V)))
                ∙ ap (λ (W : View). list_any test
                (flat_map (λ (t : Sighting). only (is_kind kinds.Reviewed t && (is_number t.paper paper && t.mine))
                (review_shown false true paper V o t)) W)) is
                ∙ listed-here test
                (λ (t : Sighting). only (is_kind kinds.Reviewed t && (is_number t.paper paper && t.mine))
                (review_shown false true paper V o t)) before after s
                ((λ i. list_any test (only (eq-eqb paper paper refl i && m i) (review-line false true i)))
                ∙ ap (λ b. b || false) (passes false)))
              where
                label-is : label_shown_of u paper V ≡ Some o
                label-is = sym (reads.labels u paper H u) ∙ seat-seen u paper H
                    ∙ ap (λ w. ordinal_of w paper H) (number-is u stamp.maker m) ∙ held

            form-told : Goal
            form-told = by (is_author u paper H) refl (discusses u paper H) refl (reads_to_judge u paper H) refl
                (is_number u stamp.maker) refl
              where
                outside : is_author u paper H ≡ true → reads_to_judge u paper H ≡ false
                outside a =
                    (λ i. (serves u H && not (a i || is_conflict_on u paper H))
                    || (visits u paper H && not (a i || is_conflict_on u paper H) && is_past_submission (phase_of H)))
                    ∙ none (serves u H) (visits u paper H) (is_conflict_on u paper H) (is_past_submission (phase_of H))
                  where
                    none : (s v c p : Bool) → ((s && not (true || c)) || ((v && not (true || c)) && p)) ≡ false
                    none s v c p = grind arith

                silent : is_author u paper H ≡ true → discusses u paper H ≡ false
                silent a =
                    (λ i. (serves u H && not (a i || is_conflict_on u paper H)) && is_past_reviewing (phase_of H))
                    ∙ none (serves u H) (is_conflict_on u paper H) (is_past_reviewing (phase_of H))
                  where
                    none : (s c p : Bool) → ((s && not (true || c)) && p) ≡ false
                    none s c p = grind arith

                learns : (m d x h q n y f : Bool) → (not (h && q) || f) ≡ true
                    → ((m || (d && x)) || ((h && q) || (n && y))) ≡ true → m ≡ false → d ≡ false
                    → (n || f) ≡ true
                learns m d x h q n y f heard r hm hd = grind (arith, heard, r, hm, hd)

                mine : (m d x a w q n y : Bool) → ((m || (d && x)) || (((a && w) && q) || ((a && n) && y))) ≡ true
                    → a ≡ false → d ≡ false → m ≡ true
                mine m d x a w q n y r ha hd = grind (arith, r, ha, hd)

                made : is_author u paper H ≡ false → discusses u paper H ≡ false → is_number u stamp.maker ≡ true
                made a d =
                    mine (is_number u stamp.maker) (discusses u paper H) (is_discussed paper o earlier later)
                    (is_author u paper H) (is_response_or_later (phase_of H))
                    (is_responded_to paper o earlier later) (is_past_discussion (phase_of H))
                    (not (is_reviewed paper o later)) read a d

                over : (o s c p : Bool) → (((o && s) && not c) && p) ≡ true → (o && p) ≡ true
                over o s c p d = grind (arith, d)

                alone : (o i s c p : Bool) → (((o && s) && not c) || (((not o && i) && not c) && s)) ≡ true
                    → (((o && s) && not c) && p) ≡ false → (o && p) ≡ false
                alone o i s c p h d = grind (arith, h, d)

                answered-to : (x f y o v s c p r w m : Bool) → (((o && s) && not c) || ((v && not c) && s)) ≡ true
                    → (((o && s) && not c) && p) ≡ false
                    → (not m || r) ≡ true → m ≡ true → (p || w) ≡ true
                    → ((((x || f) || y) || ((((o && s) && not c) && r) && w))
                    || ((((v && not c) && s) && r) && (w || p))) ≡ true
                answered-to x f y o v s c p r w m h d hr hm hw = grind (arith, h, d, hr, hm, hw)

                by : (a : Bool) → is_author u paper H ≡ a → (d : Bool) → discusses u paper H ≡ d → (h : Bool)
                    → reads_to_judge u paper H ≡ h → (m : Bool)
                    → is_number u stamp.maker ≡ m → Goal
                by true a d e h f true g = behind g (outside a)
                by true a d e h f false g =
                    of-authors a g
                    (learns (is_number u stamp.maker) (discusses u paper H) (is_discussed paper o earlier later)
                    (is_author_since_response u paper H)
                    (is_responded_to paper o earlier later) (is_notified u paper H) (not (is_reviewed paper o later))
                    (was_asked_to_respond u paper H)
                    (heard-responds u H paper o earlier later stamp more (Reviewed paper o version form) whole) read g
                    (silent a))
                by false a true e h f m g =
                    of-members a (over (is_on_committee (role_of u H)) (is_past_submission (phase_of H))
                    (has_conflict u paper H) (is_past_reviewing (phase_of H)) e) e
                by false a false e false f m g = behind (made a e) f
                by false a false e true f m g =
                    of-herself a
                    (alone (is_on_committee (role_of u H)) (is_invited u paper H) (is_past_submission (phase_of H))
                    (has_conflict u paper H) (is_past_reviewing (phase_of H)) f e)
                    (answered-to (is_notified u paper H) (was_asked_to_respond u paper H) (discusses u paper H)
                    (is_on_committee (role_of u H)) (visits u paper H) (is_past_submission (phase_of H))
                    (has_conflict u paper H) (is_past_reviewing (phase_of H)) (is_reviewer u paper H)
                    (is_reviewing_now (phase_of H)) (is_number u stamp.maker) f e reviews
                    (made a e) (reviewing-on (phase_of H) begun))
                    (made a e)

      -- who wrote the paper reads no more of a form than is for authors, but of her own
      not-whole : is_author u paper H ≡ true → is_number u stamp.maker ≡ false
          → reads_form u H earlier later stamp.maker paper o ≡ true → ⊥
      not-whole a m read =
          true≢false
          (sym read
          ∙ (λ i. m i || ((hidden i && is_past_reviewing (phase_of H)) && is_discussed paper o earlier later)))
        where
          none : (s c : Bool) → (s && not (true || c)) ≡ false
          none s c = grind arith

          hidden : is_eligible u paper H ≡ false
          hidden =
              (λ i. serves u H && not (a i || is_conflict_on u paper H)) ∙ none (serves u H) (is_conflict_on u paper H)

      -- the mark that there is one, where it is shown, stands with the reviewer
      mark : administers u paper H ≡ true → (has_mark u H s || is_taken_off u H s) ≡ true
      mark leading = by (is_left paper V o) refl
        where
          served : (o b c l : Bool) → (l && not c) ≡ true → b ≡ true → (o && l) ≡ l → (((o && b) && not c) && l) ≡ true
          served o b c l h hb hl = grind (arith, h, hb, hl)

          over : oversees u paper H ≡ true
          over =
              served (is_on_committee (role_of u H)) (is_past_submission (phase_of H)) (has_conflict u paper H)
              (chairs_committee (role_of u H)) leading
              (reviewing-begun (phase_of H) begun) (leads-serves (role_of u H))

          chair : is_clear_chair (standing_of u (Some paper) H) ≡ true
          chair = (λ i. chair-leads (role_of u H) i && not (has_conflict u paper H)) ∙ leading

          written-once : is_written paper o H ≡ true
          written-once =
              ap (λ (G : History). not (is_nothing (flat_map (λ (e : Stamped). form_told paper o e.entry) G)))
              (sym whole)
              ∙ some-last (flat_map (λ (e : Stamped). form_told paper o e.entry)
              (earlier ++ stamped stamp more (Reviewed paper o version form) ∷ later))
              (last-there (λ (e : Stamped). form_told paper o e.entry) earlier later
              (stamped stamp more (Reviewed paper o version form)) (whole_form version form)
              (λ i. given (eq-eqb paper paper refl i && eq-eqb o o refl i) (whole_form version form)))

          by : (stays : Bool) → is_left paper V o ≡ stays → (has_mark u H s || is_taken_off u H s) ≡ true
          by false gone = or_right (has_mark u H s) _ (ap not gone)
          by true stays =
              or_left (has_mark u H s) _
              (ap (λ reviewers. lists reviewers (marked u H paper o stamp.maker leading stays shown-done))
              ((page_lists_told u paper H legal there).reviewers
              ∙ ap (λ b. where_known b (reviewers_listed u paper H))
              (or_left (oversees u paper H || discusses u paper H) _ (or_left (oversees u paper H) _ over)))
              ∙ marked-listed u H paper o stamp.maker leading stays shown-done
              (sym (reads.labels u paper H (Some stamp.maker))
              ∙ seat-seen_by_chair u (Some stamp.maker) paper H
              (and_from _ _ chair ((phase-words (phase_of H)).bidding ∙ reviewing-begun (phase_of H) begun))
              ∙ held))
            where
              shown-done : is_shown_done paper o V ≡ true
              shown-done = sym (written u H paper o) ∙ written-seen u paper o H chair ∙ written-once

      reviewed : (what : Part) → IsTrue (has what s)
          → IsTrue (is_part_told u H s kinds.Reviewed what || is_left_untold u H s after kinds.Reviewed what)
      reviewed part.score shown =
          form-told read (λ l. agree nat_eq s.score (Some l.score)) (λ named. same) (λ a m named. same)
        where
          read : reads_review u H earlier later stamp.maker paper o ≡ true
          read = sym (known-some (reads_review u H earlier later stamp.maker paper o) form.score) ∙ shown

          same : agree nat_eq s.score (Some form.score) ≡ true
          same =
              (λ i. agree nat_eq (where_known (read i) form.score) (Some form.score))
              ∙ eq-eqb form.score form.score refl
      reviewed part.confidence shown =
          form-told read (λ l. agree nat_eq s.confidence (Some l.confidence)) (λ named. same) (λ a m named. same)
        where
          read : reads_review u H earlier later stamp.maker paper o ≡ true
          read = sym (known-some (reads_review u H earlier later stamp.maker paper o) form.confidence) ∙ shown

          same : agree nat_eq s.confidence (Some form.confidence) ≡ true
          same = (λ i. agree nat_eq (where_known (read i) form.confidence) (Some form.confidence))
              ∙ eq-eqb form.confidence form.confidence refl
      reviewed part.to_authors shown =
          form-told read (λ l. agree bytes_eq s.to_authors (Some l.to_authors)) (λ named. same) (λ a m named. same)
        where
          read : reads_review u H earlier later stamp.maker paper o ≡ true
          read = sym (known-some (reads_review u H earlier later stamp.maker paper o) form.to_authors) ∙ shown

          same : agree bytes_eq s.to_authors (Some form.to_authors) ≡ true
          same = (λ i. agree bytes_eq (where_known (read i) form.to_authors) (Some form.to_authors))
              ∙ same-bytes form.to_authors
      reviewed part.to_pc shown =
          form-told (or_left (reads_form u H earlier later stamp.maker paper o) (learns_form u H earlier later paper o)
          read) (λ l. agree bytes_eq s.to_pc l.to_pc) (λ named. same)
          (λ a m named. absurd (not-whole a m read))
        where
          read : reads_form u H earlier later stamp.maker paper o ≡ true
          read = sym (known-some (reads_form u H earlier later stamp.maker paper o) form.to_pc) ∙ shown

          same : agree bytes_eq s.to_pc s.to_pc ≡ true
          same = (λ i. agree bytes_eq (where_known (read i) form.to_pc) (where_known (read i) form.to_pc))
              ∙ same-bytes form.to_pc
      reviewed part.version shown =
          form-told (or_left (reads_form u H earlier later stamp.maker paper o) (learns_form u H earlier later paper o)
          read) (λ l. agree nat_eq s.version l.version) (λ named. same)
          (λ a m named. absurd (not-whole a m read))
        where
          read : reads_form u H earlier later stamp.maker paper o ≡ true
          read = sym (known-some (reads_form u H earlier later stamp.maker paper o) version) ∙ shown

          same : agree nat_eq s.version s.version ≡ true
          same = (λ i. agree nat_eq (where_known (read i) version) (where_known (read i) version))
              ∙ eq-eqb version version refl
      reviewed part.done shown =
          mark (and_parts (administers u paper H) (not (is_reviewed paper o earlier))
          (sym (known-some (counts_form u H earlier paper o) true) ∙ shown)).0
      reviewed part.ordinal shown = by (reads_review u H earlier later stamp.maker paper o) refl
        where
          first : (a m f t : Bool) → (a || f) ≡ true → ((a || m) || (f || t)) ≡ true
          first a m f t h = grind (arith, h)

          second : (a m f t : Bool) → (m || t) ≡ true → ((a || m) || (f || t)) ≡ true
          second a m f t h = grind (arith, h)

          counted : (r l b c : Bool) → ((r || (l && b)) || c) ≡ true → (r || c) ≡ false → l ≡ true
          counted r l b c h none = grind (arith, h, none)

          by : (read : Bool) → reads_review u H earlier later stamp.maker paper o ≡ read
              → IsTrue (is_part_told u H s kinds.Reviewed part.ordinal || is_left_untold u H s after kinds.Reviewed
              part.ordinal)
          by true read =
              first (has_line u H s (λ l. true)) (has_mark u H s) (is_form_left u H s after) (is_taken_off u H s)
              (form-told read (λ l. true) (λ named. refl) (λ a m named. refl))
          by false none =
              second (has_line u H s (λ l. true)) (has_mark u H s) (is_form_left u H s after) (is_taken_off u H s)
              (mark
              (counted (reads_form u H earlier later stamp.maker paper o) (administers u paper H)
              (not (is_reviewed paper o earlier)) (learns_form u H earlier later paper o) told none))
      reviewed part.at shown = known-own (is_number u stamp.maker) stamp.at shown
      reviewed part.key shown = known-own (is_number u stamp.maker) stamp.key shown
      reviewed _ shown = absurd (true≢false (sym shown))

pub reviewed-all : AllOf kinds.Reviewed
reviewed-all = all-of kinds.Reviewed each
  where
    drawn : (H : History) → Legal H → (maker paper o : ℕ) → ordinal_of (Some maker) paper H ≡ Some o
        → (1 ≤ o) × (o ≤ 26)
    drawn H legal maker paper o held =
        seat-drawn H (legal_invariants H legal).fits maker paper o
        (sym (ordinal_of-tables (Some maker) paper H (legal_invariants H legal).fits) ∙ held)

    each : Each kinds.Reviewed
    each u H legal before after what earlier later stamp more (Reviewed paper o version form) whole known told is kind
        shown =
        reviewed u H legal before after earlier later stamp more paper o version form known.settled.0
        (drawn H legal stamp.maker paper o known.held).0
        (drawn H legal stamp.maker paper o known.held).1 known.settled.1
        (own-so (λ v. is_reviewer v paper H) u stamp.maker known.settled.2) known.held whole told is what shown
    each u H legal before after what earlier later stamp more e whole known told is kind shown =
        absurd (true≢false (sym kind))
