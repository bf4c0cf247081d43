-- SPDX-License-Identifier: Apache-2.0 OR MIT
-- Of assignments each part that is shown is told or left out.
use Rattle.std.proofs.Common.{◌≡◌, ℕ, Bool, true, false, List, [], ◌∷◌, ◌++◌, refl, sym, ap, subst, ◌∙◌, ◌||◌, ◌&&◌}
use Rattle.std.proofs.Common.{Option, Some, None, eqb, arith}
use Rattle.std.specs.Prelude.{not, map, filter, ◌==◌, IsTrue, is_some, nat_eq, unwrap_or, if◌then◌else◌}
use Rattle.std.specs.Option.{option_map}
use Rattle.std.specs.Str.{bytes_eq}
use Rattle.std.specs.List.{flat_map, list_any}
use Rattle.std.proofs.lemmas.Bool.{true≢false, eq-eqb, eqb-true, or_left, or_right, and_right}
use Rattle.std.proofs.lemmas.List.Folds.{list_any-append}
use Rattle.cr_base.specs.declared.entry.Entry.TheVariants.{Assigned, Unassigned}
use Rattle.cr_base.specs.declared.entry.EntryKind.TheVariants as kinds
use Rattle.cr_base.specs.declared.entry.Stamp.{Stamp}
use Rattle.cr_base.specs.declared.me.Me.{Me}
use Rattle.cr_base.specs.declared.page.Reviewer.{Reviewer}
use Rattle.cr_base.specs.declared.words.Kind.{Kind}
use Rattle.cr_base.specs.Lists.{is_nothing, is_number, listed}
use Rattle.cr_base.specs.History.{History}
use Rattle.cr_base.specs.HistoryFacts.{phase_of, mode_of, role_of}
use Rattle.cr_base.specs.Words.{review_kind_number}
use Rattle.cr_history.specs.Invariants.{IsRegistered, IsSubmitted}
use Rattle.cr_policy.specs.Legal.{Legal}
use Rattle.cr_policy.specs.Part as part
use Rattle.cr_policy.specs.Part.{Part}
use Rattle.cr_policy.specs.Sighting.{Sighting}
use Rattle.cr_policy.specs.View.{View, view}
use Rattle.cr_policy.specs.ViewFacts.{only, is_kind, is_user, papers_in_view}
use Rattle.cr_policy.proofs.StandingLaws.{papers-seen}
use Rattle.cr_policy.proofs.Walk.{only-true, only-false}
use Rattle.cr_bounds.specs.ShownTo.{is_told, is_on_committee, chairs_committee, is_past_submission, is_past_reviewing}
use Rattle.cr_bounds.specs.ShownTo.{has_conflict, hides_reviewers, where_known, is_eligible, visits, reads_to_judge}
use Rattle.cr_bounds.specs.ShownTo.{oversees, administers, discusses, is_party, is_answered}
use Rattle.cr_bounds.proofs.BoundsWords.{phase-words}
use Rattle.cr_bounds.proofs.BoundsWalk.{shown_to}
use Rattle.cr_told.specs.ToldPages.{page_told, label_shown_of, shown_of, shown_by, ordinal_by}
use Rattle.cr_told.specs.ToldLists.{is_left, knows_reviewers, reviewer_shown, reviewers_listed, name_shown}
use Rattle.cr_told.specs.ToldParts.{has, agree, lists, same_kind, assigned_given, is_taken_off, is_name_behind}
use Rattle.cr_told.specs.ToldParts.{is_label_behind, is_told as is_part_told, is_left_untold}
use Rattle.cr_told.proofs.ToldEach.{last-here, last-or-told, listed-here, known}
use Rattle.cr_told.proofs.ToldKnown.{AllOf, Each, all-of, known-own}
use Rattle.cr_told.proofs.ToldLists.{leads-serves, me_told, page_lists_told}
use Rattle.cr_told.proofs.ToldNames.{swap, name-is}
use Rattle.cr_told.proofs.ToldPages.{pages_told}
use Rattle.cr_told.proofs.ToldPlaces.{known-some, user-known, number-is}

-- a number stands among those that pass
pub any-filtered : (v : ℕ) (t : ℕ → Bool) → t v ≡ true → (ps : List ℕ) → list_any (λ q. q == v) ps ≡ true
    → list_any (eqb v) (filter t ps) ≡ true
any-filtered v t holds [] h = absurd (true≢false (sym h))
any-filtered v t holds (q ∷ ps) h = by (eqb q v) refl (t q) refl h (any-filtered v t holds ps)
  where
    by : (b : Bool) → eqb q v ≡ b → (c : Bool) → t q ≡ c → (b || list_any (λ q. q == v) ps) ≡ true
        → (list_any (λ q. q == v) ps ≡ true → list_any (eqb v) (filter t ps) ≡ true)
        → list_any (eqb v) (if c then q ∷ filter t ps else filter t ps) ≡ true
    by true e true passes h rest = ap (λ b. b || list_any (eqb v) (filter t ps)) (swap q v ∙ e)
    by true e false passes h rest = absurd (true≢false (sym (ap t (eqb-true q v e) ∙ holds) ∙ passes))
    by false e true passes h rest = or_right (eqb v q) (list_any (eqb v) (filter t ps)) (rest h)
    by false e false passes h rest = rest h

none-any : {A B : Type 0} (test : B → Bool) (f : A → List B) → ((x : A) → list_any test (f x) ≡ false) → (xs : List A)
    → list_any test (flat_map f xs) ≡ false
none-any test f none [] = refl
none-any test f none (x ∷ xs) =
    list_any-append test (f x) (flat_map f xs) ∙ (λ i. none x i || list_any test (flat_map f xs))
    ∙ none-any test f none xs

-- which papers a user is told that she reviews
assigned-is : (H : History) (v : ℕ) (u : Option ℕ) → u ≡ Some v
    → assigned_given u H ≡ Some (filter (λ (p : ℕ). is_some (label_shown_of u p (view u H)))
    (papers_in_view (view u H)))
assigned-is H v u e =
    subst (λ (w : Option ℕ). assigned_given w H
    ≡ Some (filter (λ (p : ℕ). is_some (label_shown_of w p (view w H))) (papers_in_view (view w H)))) (sym e)
    (ap (option_map (λ (me : Me). me.assigned)) (me_told v H))

module _ (u : Option ℕ) (H : History) (legal : Legal H) (before after : View) where
  abbrev V : View
  V = view u H

  abbrev onc : Bool
  onc = is_on_committee (role_of u H)

  abbrev lead : Bool
  lead = chairs_committee (role_of u H)

  abbrev begun : Bool
  begun = is_past_submission (phase_of H)

  module _ (paper : ℕ) (there : IsSubmitted H paper) where
    abbrev reviewers-answered : Bool
    reviewers-answered = oversees u paper H || discusses u paper H || is_answered u paper H

    abbrev line : Sighting → List Reviewer
    line t =
        only (is_kind kinds.Assigned t && is_number t.paper paper)
        (map (reviewer_shown u paper H t) (filter (is_left paper V) (listed t.ordinal)))

    key-is : reviewers-answered ≡ true → page_told (λ page. page.reviewers) u paper H
        ≡ Some (reviewers_listed u paper H)
    key-is h =
        (page_lists_told u paper H legal there).reviewers ∙ ap (λ b. where_known b (reviewers_listed u paper H)) h

  module _ (earlier later : History) (stamp : Stamp) (more : Bool) (paper user : ℕ) (review_kind : Kind) (o : ℕ)
      (there : IsSubmitted H paper) (registered : IsRegistered H user)
      (hs : begun ≡ true) (told : is_told u H earlier later stamp.maker (Assigned paper user review_kind o) ≡ true)
      (is : view u H ≡ before ++ shown_to u H earlier later stamp (Assigned paper user review_kind o) ∷ after)
    where
      abbrev s : Sighting
      s = shown_to u H earlier later stamp (Assigned paper user review_kind o)

      abbrev m : Bool
      m = is_number u stamp.maker

      abbrev n : Bool
      n = is_number u user

      abbrev c : Bool
      c = has_conflict u paper H

      abbrev past : Bool
      past = is_past_reviewing (phase_of H)

      abbrev hides : Bool
      hides = hides_reviewers (mode_of H)

      abbrev a : Bool
      a = is_answered u paper H

      hl : (onc && lead) ≡ lead
      hl = leads-serves (role_of u H)

      abbrev names : Bool
      names = is_party u H stamp.maker paper user || (discusses u paper H && not hides) || a

      -- she stands among the reviewers, where they are answered and she isn't taken off
      reviewer-line : (test : Reviewer → Bool) → reviewers-answered paper there ≡ true → is_left paper V o ≡ true
          → test (reviewer_shown u paper H s o) ≡ true
          → lists (page_told (λ page. page.reviewers) u paper H) test ≡ true
      reviewer-line test answered stays passes =
          ap (λ reviewers. lists reviewers test) (key-is paper there answered)
          ∙ ap (λ (W : View). list_any test (flat_map (line paper there) W)) is
          ∙ listed-here test (line paper there) before after s
          ((λ i. list_any test (only (eq-eqb paper paper refl i)
          (map (reviewer_shown u paper H s) (if stays i then o ∷ [] else []))))
          ∙ ap (λ b. b || false) passes)

      -- what the reader's own seat is by
      abbrev seats : Sighting → List (Option ℕ)
      seats t = only (is_number t.paper paper && is_user u t.user) (listed (ordinal_by t.kind t.ordinal))

      seat-shown : n ≡ true → seats s ≡ Some o ∷ []
      seat-shown mine =
          (λ i. only (eq-eqb paper paper refl i && (user-known u names user ∙ (λ j. party j && mine j)) i)
          (Some o ∷ []))
        where
          party : names ≡ true
          party = by n m (administers u paper H) (discusses u paper H && not hides) a mine
            where
              by : (n m l d a : Bool) → n ≡ true → ((n || m || l) || d || a) ≡ true
              by n m l d a h = grind (arith, h)

      hers : is_user u s.user ≡ (names && n)
      hers = user-known u names user

      n-names : n ≡ true → is_user u s.user ≡ true
      n-names mine = hers ∙ by n m (administers u paper H) (discusses u paper H && not hides) a mine
        where
          by : (n m l d a : Bool) → n ≡ true → (((n || m || l) || d || a) && n) ≡ true
          by n m l d a h = grind (arith, h)

      not-hers : n ≡ false → is_user u s.user ≡ false
      not-hers f = hers ∙ and_right names n f

      abbrev again : Bool
      again = not (is_nothing (shown_of u paper (λ (t : Sighting). ordinal_by t.kind t.ordinal) after))

      assigned : (what : Part) → IsTrue (has what s)
          → IsTrue (is_part_told u H s kinds.Assigned what || is_left_untold u H s after kinds.Assigned what)
      assigned part.ordinal shown = by (reviewers-answered paper there) refl (is_left paper V o) refl
        where
          by : (r : Bool) → reviewers-answered paper there ≡ r → (stays : Bool) → is_left paper V o ≡ stays
              → IsTrue (is_part_told u H s kinds.Assigned part.ordinal || is_left_untold u H s after kinds.Assigned
              part.ordinal)
          by true answered true stays =
              or_left _ _ (or_left _ _ (reviewer-line (λ r. eqb o r.label) answered stays (eq-eqb o o refl)))
          by r e false gone = or_right _ _ (or_left _ _ (or_left _ _ (ap not gone)))
          by false none true stays = handled n refl (reads_to_judge u paper H) refl
            where
              label-same : Bool
              label-same = agree nat_eq (Some o) (page_told (λ page. page.label) u paper H)

              lined : Bool
              lined = lists (page_told (λ page. page.reviewers) u paper H) (λ r. eqb o r.label)

              -- another's seat that she isn't told with the reviewers is one that she gave
              other : (x t m n o s c l p a u h : Bool)
                  → ((((n || m) || (l && not c)) || (((o && s) && not c) && p)) || a) ≡ true
                  → (((((o && s) && not c) && l) || (((o && s) && not c) && p)) || a) ≡ false → n ≡ false → s ≡ true
                  → (o && l) ≡ l → u ≡ false
                  →
                  (x
                  ||
                  (t || (((m || u) && not ((((o && s) && not c) && l) || (((o && s) && not c) && p)))
                  && not (u && h)))) ≡ true
              other x t m n o s c l p a u h told none hn hs hl hu = grind (arith, told, none, hn, hs, hl, hu)

              behind : (x t m r a u h : Bool) → (r || a) ≡ false → u ≡ true → h ≡ false
                  → (x || (t || (((m || u) && not r) && not (u && h)))) ≡ true
              behind x t m r a u h none hu hh = grind (arith, none, hu, hh)

              clear : (o s v c : Bool) → (((o && s) && not c) || ((v && not c) && s)) ≡ true
                  → ((o && not c) || (v && not c)) ≡ true
              clear o s v c h = grind (arith, h)

              pick : (x u a t g c : Bool) → u ≡ true → (a || g) ≡ true
                  → ((x || (u && a)) || ((t || (u && g)) || c)) ≡ true
              pick x u a t g c hu h = grind (arith, hu, h)

              handled : (mine : Bool) → n ≡ mine → (h : Bool) → reads_to_judge u paper H ≡ h
                  → IsTrue (is_part_told u H s kinds.Assigned part.ordinal || is_left_untold u H s after kinds.Assigned
                  part.ordinal)
              handled false f h e =
                  other (lined || (is_user u s.user && label-same)) (is_taken_off u H s || (is_user u s.user && again))
                  m n onc begun c lead past a (is_user u s.user) (reads_to_judge u paper H) told none f hs hl
                  (not-hers f)
              handled true f false e =
                  behind (lined || (is_user u s.user && label-same)) (is_taken_off u H s || (is_user u s.user && again))
                  m (oversees u paper H || discusses u paper H) a
                  (is_user u s.user) (reads_to_judge u paper H) none (n-names f) e
              handled true f true e =
                  pick lined (is_user u s.user) label-same (is_taken_off u H s) again (is_label_behind u H s)
                  (n-names f)
                  (last-or-told (agree nat_eq) seats before after s (Some o) None (eq-eqb o o refl) (seat-shown f)
                  (page_told (λ page. page.label) u paper H)
                  ((pages_told u paper H legal there).label
                  ∙ ap (λ b. if b then label_shown_of u paper V else None) (clear onc begun (visits u paper H) c e)
                  ∙ ap (λ (W : View). label_shown_of u paper W) is))
      assigned part.review_kind shown = by (is_left paper V o) refl ((oversees u paper H || discusses u paper H)) refl
        where
          shown-to : ((((n || m) || administers u paper H)) || discusses u paper H) ≡ true
          shown-to = sym (known-some (is_party u H stamp.maker paper user || discusses u paper H) review_kind) ∙ shown

          clear : (o s c l p : Bool) → ((((o && s) && not c) && l) || (((o && s) && not c) && p)) ≡ true
              → (o && not c) ≡ true
          clear o s c l p h = grind (arith, h)

          other : (x t m n o s c l p a d : Bool) → (((n || m) || (l && not c)) || (((o && s) && not c) && p)) ≡ true
              → ((((o && s) && not c) && l) || (((o && s) && not c) && p)) ≡ false → s ≡ true → (o && l) ≡ l
              →
              (x
              ||
              (t || ((m || (((((n || m) || (l && not c)) || d) || a) && n))
              && not ((((o && s) && not c) && l) || (((o && s) && not c) && p))))) ≡ true
          other x t m n o s c l p a d told none hs hl = grind (arith, told, none, hs, hl)

          by : (stays : Bool) → is_left paper V o ≡ stays → (r : Bool) → (oversees u paper H || discusses u paper H) ≡ r
              → IsTrue (is_part_told u H s kinds.Assigned part.review_kind || is_left_untold u H s after kinds.Assigned
              part.review_kind)
          by false gone r e = or_right _ _ (or_left _ _ (ap not gone))
          by true stays true e =
              or_left _ _
              (reviewer-line (λ r. eqb o r.label && agree same_kind s.review_kind r.kind)
              (or_left (oversees u paper H || discusses u paper H) a e) stays
              (ap (λ b. eqb o o && agree same_kind s.review_kind (if b then s.review_kind else None))
              (clear onc begun c lead past e)
              ∙ ap (λ review_kind. eqb o o && agree same_kind review_kind review_kind) (known _ review_kind shown)
              ∙ (λ i. eq-eqb o o refl i && eq-eqb (review_kind_number review_kind) (review_kind_number review_kind) refl
              i)))
          by true stays false e =
              ap (λ b. lists (page_told (λ page. page.reviewers) u paper H)
              (λ r. eqb o r.label && agree same_kind s.review_kind r.kind)
              || (is_taken_off u H s || ((m || b) && not (oversees u paper H || discusses u paper H)))) hers
              ∙ other (lists (page_told (λ page. page.reviewers) u paper H)
              (λ r. eqb o r.label && agree same_kind s.review_kind r.kind)) (is_taken_off u H s)
              m n onc begun c lead past a (discusses u paper H && not hides) shown-to e hs hl
      assigned part.user shown = by (is_left paper V o) refl (knows_reviewers u paper H) refl n refl
        where
          shown-to : names ≡ true
          shown-to = sym (known-some names user) ∙ shown

          lined : Bool
          lined = lists (page_told (λ page. page.reviewers) u paper H)
              (λ r. eqb o r.label && agree bytes_eq (name_shown s.user V) r.user)

          answered : (h l p d a : Bool) → (((h && l) || ((h && p) && not d)) || a) ≡ true
              → (((h && l) || (h && p)) || a) ≡ true
          answered h l p d a is = grind (arith, is)

          pick : (x u a t g c : Bool) → u ≡ true → (a || g) ≡ true → ((x || (u && a)) || ((t || (u && g)) || c)) ≡ true
          pick x u a t g c hu h = grind (arith, hu, h)

          other : (x y t g m n o s c l p a d u : Bool)
              → ((((n || m) || (l && not c)) || ((((o && s) && not c) && p) && not d)) || a) ≡ true
              → (((((o && s) && not c) && l) || ((((o && s) && not c) && p) && not d)) || a) ≡ false → n ≡ false
              → s ≡ true → (o && l) ≡ l → u ≡ false
              →
              ((x || y)
              ||
              ((t || g)
              || ((m && not u) && not (((((o && s) && not c) && l) || ((((o && s) && not c) && p) && not d))
              || a)))) ≡ true
          other x y t g m n o s c l p a d u told none hn hs hl hu = grind (arith, told, none, hn, hs, hl, hu)

          in-me : n ≡ true → (nothing : Bool) → is_nothing (flat_map seats after) ≡ nothing
              → (lists (assigned_given u H) (eqb paper) || not nothing) ≡ true
          in-me mine true e =
              or_left _ false
              (ap (λ papers. lists papers (eqb paper)) (assigned-is H user u (number-is u user mine))
              ∙ any-filtered paper (λ (p : ℕ). is_some (label_shown_of u p V))
              (ap (λ (W : View). is_some (label_shown_of u paper W)) is
              ∙ ap (λ x. is_some (unwrap_or x None)) (last-here seats before after s (Some o) (seat-shown mine) e))
              (papers_in_view V) (ap (λ papers. list_any (λ q. q == paper) papers) (papers-seen u H) ∙ there))
          in-me mine false e = or_right (lists (assigned_given u H) (eqb paper)) true refl

          by : (stays : Bool) → is_left paper V o ≡ stays → (knows : Bool) → knows_reviewers u paper H ≡ knows
              → (mine : Bool) → n ≡ mine
              → IsTrue (is_part_told u H s kinds.Assigned part.user || is_left_untold u H s after kinds.Assigned
              part.user)
          by false gone k e r f = or_right _ _ (or_left _ _ (or_left _ _ (ap not gone)))
          by true stays true e r f =
              or_left _ _ (or_left _ _
              (reviewer-line (λ r. eqb o r.label && agree bytes_eq (name_shown s.user V) r.user)
              (answered (is_eligible u paper H) lead past hides a e) stays
              (ap (λ b. eqb o o && agree bytes_eq (name_shown s.user V) (if b then name_shown s.user V else None)) e
              ∙ ap (λ user. eqb o o && agree bytes_eq (name_shown user V) (name_shown user V)) (known _ user shown)
              ∙ (λ i. eq-eqb o o refl i && name-is u H user registered i))))
          by true stays false e true f =
              pick lined (is_user u s.user) (lists (assigned_given u H) (eqb paper)) (is_taken_off u H s) again
              (is_name_behind u H s)
              (n-names f) (in-me f (is_nothing (flat_map seats after)) refl)
          by true stays false e false f =
              other lined (is_user u s.user && lists (assigned_given u H) (eqb paper)) (is_taken_off u H s)
              (is_user u s.user && again)
              m n onc begun c lead past a hides (is_user u s.user) shown-to e f hs hl (not-hers f)
      assigned part.at shown = known-own (is_number u stamp.maker) stamp.at shown
      assigned part.key shown = known-own (is_number u stamp.maker) stamp.key shown
      assigned _ shown = absurd (true≢false (sym shown))

  module _ (earlier later : History) (stamp : Stamp) (more : Bool) (paper user : ℕ) (o : ℕ)
      (there : IsSubmitted H paper)
      (hs : begun ≡ true) (told : is_told u H earlier later stamp.maker (Unassigned paper user o) ≡ true)
      (is : view u H ≡ before ++ shown_to u H earlier later stamp (Unassigned paper user o) ∷ after)
    where
      abbrev gone : Sighting
      gone = shown_to u H earlier later stamp (Unassigned paper user o)

      not-left : is_left paper V o ≡ false
      not-left =
          ap
          (λ (W : View).
          not (list_any (λ g. g == o) (shown_by kinds.Unassigned paper (λ (t : Sighting). t.ordinal) W))) is
          ∙ ap not
          (listed-here (λ g. g == o) (λ (t : Sighting). only (is_kind kinds.Unassigned t && is_number t.paper paper)
          (listed t.ordinal)) before after gone
          ((λ i. list_any (λ g. g == o) (only (eq-eqb paper paper refl i) (o ∷ [])))
          ∙ ap (λ b. b || false) (eq-eqb o o refl)))

      -- so no reviewer has the label
      no-line : (t : Sighting) → list_any (λ (r : Reviewer). eqb o r.label) (line paper there t) ≡ false
      no-line t = by (is_kind kinds.Assigned t && is_number t.paper paper) t.ordinal
        where
          one : (k : ℕ) (stays same : Bool) → is_left paper V k ≡ stays → eqb o k ≡ same
              → list_any (λ (r : Reviewer). eqb o r.label)
              (map (reviewer_shown u paper H t) (if stays then k ∷ [] else [])) ≡ false
          one k false same e f = refl
          one k true true e f = absurd (true≢false (sym e ∙ ap (is_left paper V) (sym (eqb-true o k f)) ∙ not-left))
          one k true false e f = ap (λ b. b || false) f

          by : (b : Bool) (ordinal : Option ℕ)
              → list_any (λ (r : Reviewer). eqb o r.label)
              (only b (map (reviewer_shown u paper H t) (filter (is_left paper V) (listed ordinal)))) ≡ false
          by b None = refl
          by true (Some k) = ap (list_any (λ (r : Reviewer). eqb o r.label)) (only-true _)
              ∙ one k (is_left paper V k) (eqb o k) refl refl
          by false (Some k) = ap (list_any (λ (r : Reviewer). eqb o r.label)) (only-false _)

      unassigned : (what : Part) → IsTrue (has what gone)
          → IsTrue (is_part_told u H gone kinds.Unassigned what || is_left_untold u H gone after kinds.Unassigned what)
      unassigned part.user shown = refl
      unassigned part.ordinal shown = by (reviewers-answered paper there) refl
        where
          other : (x m n o s c l p a d : Bool) → ((((n || m) || (l && not c)) || (((o && s) && not c) && p)) || a)
              ≡ true
              → (((((o && s) && not c) && l) || (((o && s) && not c) && p)) || a) ≡ false → s ≡ true → (o && l) ≡ l
              →
              (x || ((m || (((((n || m) || (l && not c)) || d) || a) && n))
              && not ((((o && s) && not c) && l) || (((o && s) && not c) && p)))) ≡ true
          other x m n o s c l p a d told none hs hl = grind (arith, told, none, hs, hl)

          by : (r : Bool) → reviewers-answered paper there ≡ r
              → IsTrue (is_part_told u H gone kinds.Unassigned part.ordinal || is_left_untold u H gone after
              kinds.Unassigned part.ordinal)
          by true answered =
              or_left _ _
              (ap (λ reviewers. is_some reviewers && not (lists reviewers (λ r. eqb o r.label)))
              (key-is paper there answered)
              ∙ ap not (none-any (λ (r : Reviewer). eqb o r.label) (line paper there) no-line V))
          by false none =
              ap
              (λ b. (is_some (page_told (λ page. page.reviewers) u paper H)
              && not (lists (page_told (λ page. page.reviewers) u paper H) (λ r. eqb o r.label)))
              || ((is_number u stamp.maker || b) && not (oversees u paper H || discusses u paper H)))
              (user-known u (is_party u H stamp.maker paper user
              || (discusses u paper H && not (hides_reviewers (mode_of H))) || is_answered u paper H) user)
              ∙ other (is_some (page_told (λ page. page.reviewers) u paper H)
              && not (lists (page_told (λ page. page.reviewers) u paper H) (λ r. eqb o r.label)))
              (is_number u stamp.maker) (is_number u user) onc begun (has_conflict u paper H) lead
              (is_past_reviewing (phase_of H)) (is_answered u paper H)
              (discusses u paper H && not (hides_reviewers (mode_of H))) told none hs (leads-serves (role_of u H))
      unassigned part.at shown = known-own (is_number u stamp.maker) stamp.at shown
      unassigned part.key shown = known-own (is_number u stamp.maker) stamp.key shown
      unassigned _ shown = absurd (true≢false (sym shown))

pub assigned-all : AllOf kinds.Assigned
assigned-all = all-of kinds.Assigned each
  where
    each : Each kinds.Assigned
    each u H legal before after what earlier later stamp more (Assigned paper user review_kind o) whole known told is
        kind shown =
        assigned u H legal before after earlier later stamp more paper user review_kind o known.there.0 known.there.1
        (sym (phase-words (phase_of H)).bidding ∙ known.settled.1) told is what shown
    each u H legal before after what earlier later stamp more e whole known told is kind shown =
        absurd (true≢false (sym kind))

pub unassigned-all : AllOf kinds.Unassigned
unassigned-all = all-of kinds.Unassigned each
  where
    each : Each kinds.Unassigned
    each u H legal before after what earlier later stamp more (Unassigned paper user o) whole known told is kind shown =
        unassigned u H legal before after earlier later stamp more paper user o known.there.0
        (sym (phase-words (phase_of H)).bidding ∙ known.settled.1) told is what shown
    each u H legal before after what earlier later stamp more e whole known told is kind shown =
        absurd (true≢false (sym kind))
