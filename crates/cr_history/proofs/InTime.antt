-- SPDX-License-Identifier: Apache-2.0 OR MIT
-- Which users make the conflict entries of a legal history, before the bidding and from it on.
use Rattle.std.proofs.Common.{◌≡◌, ℕ, Bool, true, false, cond, List, [], ◌∷◌, ◌++◌, refl, sym, ap, ◌∙◌, subst, ◌||◌}
use Rattle.std.proofs.Common.{◌&&◌, Option, Some, eqb, arith, ◌+◌}
use Rattle.std.specs.Prelude.{not, nat_le}
use Rattle.std.specs.List.{AllByRecursion, list_any}
use Rattle.std.proofs.lemmas.Bool.{false≢true}
use Rattle.std.proofs.lemmas.Bool.Decides.{nat_tests}
use Rattle.std.proofs.lemmas.List.Concat.{flat_map-append}
use Rattle.std.proofs.lemmas.List.Folds.{list_any-append}
use Rattle.cr_base.specs.declared.entry.Entry.{Entry}
use Rattle.cr_base.specs.declared.entry.Entry.TheVariants.{PhaseSet, Submitted, Coauthor, Conflict}
use Rattle.cr_base.specs.declared.entry.Stamp.{Stamp}
use Rattle.cr_base.specs.declared.entry.Stamped.{Stamped}
use Rattle.cr_base.specs.declared.words.Phase.{Phase}
use Rattle.cr_base.specs.declared.words.Phase.TheVariants.{Setup, Submission, Bidding, Reviewing, Response, Discussion}
use Rattle.cr_base.specs.declared.words.Phase.TheVariants.{Notification, Closed}
use Rattle.cr_base.specs.Lists.{last_or, is_number, until, since}
use Rattle.cr_base.specs.History.{History, all_told, opens, phase_told, author_told}
use Rattle.cr_base.specs.HistoryFacts.{phase_of, authors_of, is_author}
use Rattle.cr_base.specs.Phases.{committee_reads_from, phase_rank, is_from, is_next, is_phase, authors_have_declared}
use Rattle.cr_base.specs.Drawn.{stamped, submission}
use Rattle.cr_history.proofs.Folds.{last_or-append}
use Rattle.cr_history.specs.Invariants.{is_opening, ByAuthor, ByNamedOrOther, Early, Late, DeclaresInTime}
use Rattle.cr_history.specs.Invariants.{IsDiscussedInTime, IsRespondedInTime, IsInPhase, IsByRight}
use Rattle.cr_history.proofs.ListCuts.{AllByRecursion-append, AllByRecursion-map, AllByRecursion-until, until-none}
use Rattle.cr_history.proofs.ListCuts.{since-none, until-append, since-append, until-before, since-before}
use Rattle.cr_history.specs.Groups.{IsRuled, Adds, single, submitted, first_user, Grows, adds, goes_on}
use Rattle.cr_history.proofs.Grouped.{grouped-each, submission-each, all-silent}

-- ---- what the rules say of one group

-- what the rules say of an entry, on the history before its group
abbrev EntryAllowed : History → ℕ → Entry → Type 0
EntryAllowed H maker (Submitted paper title abstract) = IsInPhase H (Submitted paper title abstract)
EntryAllowed H maker (Coauthor paper user) = IsInPhase H (Coauthor paper user)
EntryAllowed H maker (Conflict paper user on) = IsByRight H maker (Conflict paper user on)
EntryAllowed H maker e = Unit {0}

abbrev Allowed : History → Stamped → Type 0
Allowed H e = EntryAllowed H e.stamp.maker e.entry

ruled-allowed : (H : History) (maker : ℕ) (e : Entry) → IsRuled H maker e → EntryAllowed H maker e
ruled-allowed H maker (Submitted paper title abstract) ruled = ruled.phase
ruled-allowed H maker (Coauthor paper user) ruled = ruled.phase
ruled-allowed H maker (Conflict paper user on) ruled = ruled.right
ruled-allowed H maker e ruled = tt

added-allowed : (H g : History) → Adds H g → AllByRecursion (Allowed H) g
added-allowed H g (single stamp e bounds made marked ruled) = (ruled-allowed H stamp.maker e ruled, tt)
added-allowed H g (submitted stamp paper title abstract users bounds made ruled registered) =
    grouped-each stamp (Allowed H) (submission stamp.maker paper title abstract users)
    (submission-each (λ (e : Entry). (more : Bool) → EntryAllowed H stamp.maker e) stamp.maker paper title abstract
    users (λ more. ruled.phase) (λ user more. ruled.phase))
added-allowed H g (first_user stamp name digest bounds is texts) = (tt, (tt, tt))

-- a group moves the phase on and does nothing else, or leaves the phase
data Moves (H : History) : History → Type 0 where
  moved : (stamp : Stamp) (more : Bool) (to : Phase) → is_next (phase_of H) to ≡ true
      → Moves H (stamped stamp more (PhaseSet to) ∷ [])
  stayed : (g : History) → all_told phase_told g ≡ [] → Moves H g

ruled-moves : (H : History) (stamp : Stamp) (more : Bool) (e : Entry) → IsRuled H stamp.maker e
    → Moves H (stamped stamp more e ∷ [])
ruled-moves H stamp more (PhaseSet to) ruled = moved stamp more to ruled.phase
ruled-moves H stamp more e ruled = stayed _ refl

added-moves : (H g : History) → Adds H g → Moves H g
added-moves H g (single stamp e bounds made marked ruled) = ruled-moves H stamp false e ruled
added-moves H g (submitted stamp paper title abstract users bounds made ruled registered) =
    stayed _ (all-silent (λ (e : Stamped). phase_told e.entry) _
    (grouped-each stamp (λ (e : Stamped). phase_told e.entry ≡ []) (submission stamp.maker paper title abstract users)
    (submission-each (λ (e : Entry). (more : Bool) → phase_told e ≡ []) stamp.maker paper title abstract users
    (λ more. refl) (λ user more. refl))))
added-moves H g (first_user stamp name digest bounds is texts) = stayed _ refl

-- and so of all by which a history grows
grown-allowed : (H g : History) → Grows H g → AllByRecursion (Allowed H) g
grown-allowed H g (adds same added) = added-allowed H g added
grown-allowed H g (goes_on stamp e bounds made goes ruled) = (ruled-allowed H stamp.maker e ruled, tt)

grown-moves : (H g : History) → Grows H g → Moves H g
grown-moves H g (adds same added) = added-moves H g added
grown-moves H g (goes_on stamp e bounds made goes ruled) = ruled-moves H stamp true e ruled

-- ---- authors of more entries

pub author-append : (u : Option ℕ) (p : ℕ) (H g : History)
    → is_author u p (H ++ g) ≡ (is_author u p H || is_author u p g)
author-append u p H g =
    ap (list_any (is_number u)) (flat_map-append (λ (e : Stamped). author_told p e.stamp.maker e.entry) H g)
    ∙ list_any-append (is_number u) (authors_of p H) (authors_of p g)

-- who made an early entry stays an author
early-more : (H g : History) (maker : ℕ) (e : Entry) → ByAuthor H maker e → ByAuthor (H ++ g) maker e
early-more H g maker (Conflict paper user on) h =
    author-append (Some maker) paper H g ∙ ap (λ b. b || is_author (Some maker) paper g) h
early-more H g maker e h = tt

-- who made a late entry becomes no author, where nobody does
late-more : (H g : History) → ((p : ℕ) → authors_of p g ≡ []) → (maker : ℕ) (e : Entry) → ByNamedOrOther H maker e
    → ByNamedOrOther (H ++ g) maker e
late-more H g none maker (Conflict paper user on) h = λ other.
    author-append (Some maker) paper H g
    ∙ ap (λ b. b || is_author (Some maker) paper g) (h other)
    ∙ ap (list_any (is_number (Some maker))) (none paper)
late-more H g none maker e h = tt

early-new : (H : History) → authors_have_declared (phase_of H) ≡ false → (maker : ℕ) (e : Entry)
    → EntryAllowed H maker e → ByAuthor H maker e
early-new H soon maker (Conflict paper user on) h = by_author _ _ _ _ soon h
  where
    by_author : (begun other author on : Bool) → begun ≡ false → cond begun other (author && on) ≡ true → author ≡ true
    by_author begun other author on soon h = grind arith
early-new H soon maker e h = tt

late-new : (H : History) → authors_have_declared (phase_of H) ≡ true → (maker : ℕ) (e : Entry) → EntryAllowed H maker e
    → ByNamedOrOther H maker e
late-new H begun maker (Conflict paper user on) h = by_other _ _ _ _ _ _ _ begun h
  where
    by_other : (begun own on may chair author declared : Bool) → begun ≡ true
        → cond begun ((own && may) || (chair && not (author || declared))) (author && on)
        ≡ true → own ≡ false → author ≡ false
    by_other begun own on may chair author declared is h other = grind arith
late-new H begun maker e h = tt

-- papers are submitted, and co-authors told, before the bidding only
not_both : (phase : Phase) → is_phase phase Submission ≡ true → is_from Bidding phase ≡ true → ⊥
not_both Setup h k = false≢true h
not_both Submission h k = false≢true k
not_both Bidding h k = false≢true h
not_both Reviewing h k = false≢true h
not_both Response h k = false≢true h
not_both Discussion h k = false≢true h
not_both Notification h k = false≢true h
not_both Closed h k = false≢true h

no_author-entry : (H : History) → is_from Bidding (phase_of H) ≡ true → (p maker : ℕ) (e : Entry)
    → EntryAllowed H maker e → author_told p maker e ≡ []
no_author-entry H begun p maker (Submitted paper title abstract) h = absurd (not_both (phase_of H) h begun)
no_author-entry H begun p maker (Coauthor paper user) h = absurd (not_both (phase_of H) h begun)
no_author-entry H begun p maker e h = refl

no_authors : (H : History) → is_from Bidding (phase_of H) ≡ true → (p : ℕ) (g : History) → AllByRecursion (Allowed H) g
    → authors_of p g ≡ []
no_authors H begun p g h =
    all-silent (λ (e : Stamped). author_told p e.stamp.maker e.entry) g
    (AllByRecursion-map (Allowed H) (λ (e : Stamped). author_told p e.stamp.maker e.entry ≡ [])
    (λ e k. no_author-entry H begun p e.stamp.maker e.entry k) g h)

-- ---- the phase after a group

phase-append : (H g : History) → phase_of (H ++ g) ≡ last_or (phase_of H) (all_told phase_told g)
phase-append H g =
    ap (last_or Setup) (flat_map-append (λ (e : Stamped). phase_told e.entry) H g)
    ∙ last_or-append Setup (all_told phase_told H) (all_told phase_told g)

pub phase_stays : (H g : History) → all_told phase_told g ≡ [] → phase_of (H ++ g) ≡ phase_of H
phase_stays H g h = phase-append H g ∙ ap (last_or (phase_of H)) h

phase_moves : (H : History) (stamp : Stamp) (more : Bool) (to : Phase)
    → phase_of (H ++ stamped stamp more (PhaseSet to) ∷ []) ≡ to
phase_moves H stamp more to = phase-append H (stamped stamp more (PhaseSet to) ∷ [])

empty_parts : {A : Type 0} (xs ys : List A) → xs ++ ys ≡ [] → (xs ≡ []) × (ys ≡ [])
empty_parts [] ys h = (refl, h)
empty_parts (x ∷ xs) ys h = absurd (filled h)
  where
    filled : x ∷ (xs ++ ys) ≡ [] → ⊥
    filled h = cc

-- ---- which phases were opened

module _ (first : Phase) where
  -- whether the entry opens this one
  abbrev opens_first : Stamped → Bool
  opens_first e = opens first e.entry

  -- it was opened exactly where it is that phase or a later one
  abbrev IsOpenedInTime : History → Type 0
  IsOpenedInTime H = list_any opens_first H ≡ is_from first (phase_of H)

  -- a group that leaves the phase opens none
  opens-silent : (e : Entry) → phase_told e ≡ [] → opens first e ≡ false
  opens-silent (PhaseSet phase) h = absurd (filled h)
    where
      filled : phase ∷ [] ≡ [] → ⊥
      filled h = cc
  opens-silent e h = refl

  no_opening : (g : History) → all_told phase_told g ≡ [] → list_any opens_first g ≡ false
  no_opening [] h = refl
  no_opening (e ∷ g) h =
      let parts = empty_parts (phase_told e.entry) (all_told phase_told g) h in
      ap (λ b. b || list_any opens_first g) (opens-silent e.entry parts.0) ∙ no_opening g parts.1

  -- nothing stands behind the opening in its group
  group_since : (H g : History) → Moves H g → since opens_first g ≡ []
  group_since H g (moved stamp more to h) = by (is_phase to first)
    where
      by : (b : Bool) → cond {A = History} b [] [] ≡ []
      by true = refl
      by false = refl
  group_since H g (stayed k h) = since-none opens_first g (no_opening g h)

  still_open : (k m n : ℕ) → (eqb n (m + 1) || (eqb m 3 && eqb n 5)) ≡ true → nat_le k m ≡ true → true ≡ nat_le k n
  still_open k m n e h = grind (arith, nat_tests, e, h)

  -- the response, whose rank is 4, is the one that may be skipped
  opens_now : (k m n : ℕ) → eqb k 4 ≡ false → (eqb n (m + 1) || (eqb m 3 && eqb n 5)) ≡ true → nat_le k m ≡ false
      → (eqb n k || false) ≡ nat_le k n
  opens_now k m n other e h = grind (arith, nat_tests, other, e, h)

  in_time-after : eqb (phase_rank first) 4 ≡ false → (H g : History) → Moves H g → IsOpenedInTime H
      → IsOpenedInTime (H ++ g)
  in_time-after other H g moves kept =
      list_any-append opens_first H g ∙ by H g moves (list_any opens_first H) (sym kept)
    where
      by : (H g : History) → Moves H g → (opened : Bool) → is_from first (phase_of H) ≡ opened
          → (opened || list_any opens_first g) ≡ is_from first (phase_of (H ++ g))
      by H g (moved stamp more to e) true h =
          still_open (phase_rank first) (phase_rank (phase_of H)) (phase_rank to) e h
          ∙ ap (is_from first) (sym (phase_moves H stamp more to))
      by H g (moved stamp more to e) false h =
          opens_now (phase_rank first) (phase_rank (phase_of H)) (phase_rank to) other e h
          ∙ ap (is_from first) (sym (phase_moves H stamp more to))
      by H g (stayed k e) true h = sym (ap (is_from first) (phase_stays H g e) ∙ h)
      by H g (stayed k e) false h = no_opening g e ∙ sym (ap (is_from first) (phase_stays H g e) ∙ h)

-- ---- the step

pub in_time-nil : DeclaresInTime []
in_time-nil = record { early = tt; late = tt; begun = refl }

-- what is so of a history is so with a group behind it that the rules allow
pub in_time-append : (H g : History) → Grows H g → DeclaresInTime H → DeclaresInTime (H ++ g)
in_time-append H g grows kept = by (list_any is_opening H) refl
  where
    entries : AllByRecursion (Allowed H) g
    entries = grown-allowed H g grows

    moves : Moves H g
    moves = grown-moves H g grows

    by : (b : Bool) → list_any is_opening H ≡ b → DeclaresInTime (H ++ g)
    by true h =
        let begun : is_from Bidding (phase_of H) ≡ true = sym kept.begun ∙ h in
        let more : (e : Stamped) → Late H e → Late (H ++ g) e =
        λ (e : Stamped) k. late-more H g (λ p. no_authors H begun p g entries) e.stamp.maker e.entry k in
        record {
          early = subst (AllByRecursion (Early (H ++ g))) (sym (until-before is_opening H g h))
              (AllByRecursion-map (Early H) (Early (H ++ g)) (λ e k. early-more H g e.stamp.maker e.entry k)
              (until is_opening H) kept.early);
          late = subst (AllByRecursion (Late (H ++ g))) (sym (since-before is_opening H g h))
              (AllByRecursion-append (Late (H ++ g)) (since is_opening H) g
              (AllByRecursion-map (Late H) (Late (H ++ g)) more (since is_opening H) kept.late)
              (AllByRecursion-map (Allowed H) (Late (H ++ g)) (λ e k. more e (late-new H begun e.stamp.maker e.entry k))
              g entries));
          begun = in_time-after Bidding refl H g moves kept.begun;
        }
    by false h =
        let soon : is_from Bidding (phase_of H) ≡ false = sym kept.begun ∙ h in
        record {
          early = subst (AllByRecursion (Early (H ++ g))) (sym (until-append is_opening H g h))
              (AllByRecursion-append (Early (H ++ g)) H (until is_opening g)
              (AllByRecursion-map (Early H) (Early (H ++ g)) (λ e k. early-more H g e.stamp.maker e.entry k) H
              (subst (AllByRecursion (Early H)) (until-none is_opening H h) kept.early))
              (AllByRecursion-until (Early (H ++ g)) is_opening g
              (AllByRecursion-map (Allowed H) (Early (H ++ g))
              (λ e k. early-more H g e.stamp.maker e.entry (early-new H soon e.stamp.maker e.entry k)) g entries)));
          late = subst (AllByRecursion (Late (H ++ g)))
              (sym (since-append is_opening H g h ∙ group_since Bidding H g moves)) tt;
          begun = in_time-after Bidding refl H g moves kept.begun;
        }

-- and the discussion is opened in time
pub discussed-append : (H g : History) → Grows H g → IsDiscussedInTime H → IsDiscussedInTime (H ++ g)
discussed-append H g grows kept = in_time-after committee_reads_from refl H g (grown-moves H g grows) kept

-- the response is opened in time, where it is
pub responded-nil : IsRespondedInTime []
responded-nil h = absurd (false≢true h)

pub responded-append : (H g : History) → Grows H g → IsRespondedInTime H → IsRespondedInTime (H ++ g)
responded-append H g grows kept opened =
    by g (grown-moves H g grows) (list_any (opens_first Response) H) refl
    (sym (list_any-append (opens_first Response) H g) ∙ opened)
  where
    from_it : (n : ℕ) → (eqb n 4 || false) ≡ true → nat_le 4 n ≡ true
    from_it n h = grind (arith, nat_tests, h)

    by : (g : History) → Moves H g → (before : Bool) → list_any (opens_first Response) H ≡ before
        → (before || list_any (opens_first Response) g) ≡ true → is_from Response (phase_of (H ++ g)) ≡ true
    by g (moved stamp more to e) true is h =
        ap (is_from Response) (phase_moves H stamp more to)
        ∙ sym (still_open Response (phase_rank Response) (phase_rank (phase_of H)) (phase_rank to) e (kept is))
    by g (moved stamp more to e) false is h =
        ap (is_from Response) (phase_moves H stamp more to) ∙ from_it (phase_rank to) h
    by g (stayed k e) true is h = ap (is_from Response) (phase_stays H g e) ∙ kept is
    by g (stayed k e) false is h = absurd (false≢true (sym (no_opening Response g e) ∙ h))
