-- SPDX-License-Identifier: Apache-2.0 OR MIT
-- What a paper's authors are shown of its reviews before the notification, and what therefore looks the same to them.
use Rattle.std.proofs.Common.{◌≡◌, ◌≤◌, ℕ, Bool, true, false, cond, List, [], ◌∷◌, ◌++◌, eqb, refl, sym, ap, subst}
use Rattle.std.proofs.Common.{◌∙◌}
use Rattle.std.proofs.Common.{arith, ◌||◌, ◌&&◌, append_assoc, append-nil, length, Option, Some, None}
use Rattle.std.specs.Prelude.{not, All}
use Rattle.std.specs.List.{flat_map, list_any}
use Rattle.std.proofs.lemmas.Bool.{eqb-true, true≢false, false≢true, and_right, or_left, or_right, or_parts}
use Rattle.std.proofs.lemmas.List.Concat.{flat_map-append}
use Rattle.std.proofs.lemmas.List.Elements.{All-nil, All-cons, All-append, All-same, All-weaker}
use Rattle.std.proofs.lemmas.List.Folds.{list_any-append}
use Rattle.cr_base.specs.declared.entry.Entry.{Entry}
use Rattle.cr_base.specs.declared.entry.Entry.TheVariants.{PhaseSet, Reviewed, Conflict}
use Rattle.cr_base.specs.declared.entry.EntryKind.TheVariants as kinds
use Rattle.cr_base.specs.declared.entry.Stamp.{Stamp}
use Rattle.cr_base.specs.declared.entry.Stamped.{Stamped}
use Rattle.cr_base.specs.declared.form.Form.{Form}
use Rattle.cr_base.specs.declared.words.Phase.TheVariants.{Setup, Response}
use Rattle.cr_base.specs.Decisions.{is_accepted_when}
use Rattle.cr_base.specs.Lists.{given, is_number, last, last_or, since, until}
use Rattle.cr_base.specs.Drawn.{stamped}
use Rattle.cr_base.specs.History.{History, phase_told, withdrawal_told, decision_told, author_told, opens_response}
use Rattle.cr_base.specs.HistoryFacts.{phase_of, is_author, is_accepted}
use Rattle.cr_history.proofs.ListCuts.{since-append}
use Rattle.cr_policy.specs.HiddenPayload.{PlaceByPlace, outline, shown_of, IsHiddenFrom, IsDeclaredAlike}
use Rattle.cr_policy.specs.Part as part
use Rattle.cr_policy.specs.Sighting.{Sighting, blank, where_shown}
use Rattle.cr_policy.specs.Triggers.{Reader, reader, Around, shows}
use Rattle.cr_policy.specs.View.{rows_at, sight, sights, view, is_seen, joined}
use Rattle.cr_policy.specs.ViewFacts.{only, opening_response_seen}
use Rattle.cr_policy.proofs.Cuts.{CutsAt, opening_cuts}
use Rattle.cr_policy.proofs.HiddenLaws.{hidden_payload}
use Rattle.cr_policy.proofs.RemovedLaws.{removal, told-without}
use Rattle.cr_policy.proofs.Walk.{flat_map-given}
use Rattle.cr_bounds.specs.ResponseBounds.{ReviewsAwaited, ReviewsForAuthors, OneReview, ReviewsBehindUnseen}
use Rattle.cr_bounds.specs.ResponseBounds.{UnheardForms, LaterForms, IsSameUnlessUnheard, same, changed}
use Rattle.cr_bounds.specs.ShownTo.{is_past_reviewing, is_past_discussion, begins_response, gives_form, is_reviewed}
use Rattle.cr_bounds.specs.ShownTo.{is_responded_to, is_discussed, is_eligible, is_author_since_response, reads_form}
use Rattle.cr_bounds.specs.ShownTo.{counts_form, learns_form, is_told, each_told, where_known}
use Rattle.cr_bounds.specs.ViewBounds.{is_others, may_learn_forms}
use Rattle.cr_bounds.proofs.BoundsLeft.{known-not}
use Rattle.cr_bounds.proofs.BoundsParts.{seen-told, review-read, form-read}
use Rattle.cr_bounds.proofs.BoundsWords.{response-begins}
use Rattle.cr_bounds.proofs.BoundsSeats.{author-apart}
use Rattle.cr_bounds.proofs.BoundsWalk.{shown_to, each-view, view-told, sights-told, within-one}
use Rattle.cr_bounds.proofs.BoundsWritten.{other-parts, forms-from-authors}

abbrev heard : Stamped → Bool
heard e = begins_response e.entry

-- ---- another's form of a paper of hers, before the notification

-- `o` is that it is her own, `h` that she is eligible for the paper, `k` that the form is discussed
read-none : (o h past k : Bool) → o ≡ false → h ≡ false → (o || ((h && past) && k)) ≡ false
read-none o h past k ho hh = grind (arith, ho, hh)

-- `c` is that authors respond to it, `d` that it is the notification
learnt-none : (w c a d r : Bool) → c ≡ false → d ≡ false → ((w && c) || ((a && d) && r)) ≡ false
learnt-none w c a d r hc hd = grind (arith, hc, hd)

module _ (u : Option ℕ) (p : ℕ) (H : History) (wrote : is_author u p H ≡ true)
    (early : is_past_discussion (phase_of H) ≡ false) where
  module _ (before later : History) (ordinal : ℕ) where
    -- she doesn't read all of it, nor is it counted for her
    unread : (maker : ℕ) → is_number u maker ≡ false → reads_form u H before later maker p ordinal ≡ false
    unread maker other =
        read-none (is_number u maker) (is_eligible u p H) (is_past_reviewing (phase_of H))
        (is_discussed p ordinal before later) other
        (author-apart u p H wrote).1

    uncounted : counts_form u H before p ordinal ≡ false
    uncounted = ap (λ b. b && not (is_reviewed p ordinal before)) (author-apart u p H wrote).0

    -- and she learns of it where she responds to it alone
    unlearnt : is_responded_to p ordinal before later ≡ false → learns_form u H before later p ordinal ≡ false
    unlearnt apart =
        learnt-none (is_author_since_response u p H) (is_responded_to p ordinal before later) (is_author u p H)
        (is_past_discussion (phase_of H))
        (not (is_reviewed p ordinal later)) apart early

    untold : (maker version : ℕ) (form : Form) → is_number u maker ≡ false
        → is_responded_to p ordinal before later ≡ false
        → is_told u H before later maker (Reviewed p ordinal version form) ≡ false
    untold maker version form other apart = λ i. unread maker other i || uncounted i || unlearnt apart i

-- ---- what is shown

pub reviews-awaited : ReviewsAwaited
reviews-awaited u p H wrote none =
    All-weaker (λ (s : Sighting). is_others kinds.Reviewed p s ≡ true → (may_learn_forms H ≡ true) × (s.to_pc ≡ None))
    (λ (s : Sighting). is_others kinds.Reviewed p s ≡ false)
    (λ s told. by (is_others kinds.Reviewed p s) (λ is. (told is).0)) (view u H)
    (forms-from-authors u p H wrote)
  where
    by : (b : Bool) → (b ≡ true → may_learn_forms H ≡ true) → b ≡ false
    by true h = absurd (true≢false (sym (h refl) ∙ none))
    by false h = refl

pub reviews-for-authors : ReviewsForAuthors
reviews-for-authors u p H wrote early = each-view u H IsForAuthors each
  where
    IsForAuthors : Sighting → Type 0
    IsForAuthors s =
        is_others kinds.Reviewed p s ≡ true
        → s ≡ record (blank kinds.Reviewed) {
          paper = s.paper;
          ordinal = s.ordinal;
          score = s.score;
          confidence = s.confidence;
          to_authors = s.to_authors;
        }

    each : (before later : History) (stamp : Stamp) (e : Entry) → is_told u H before later stamp.maker e ≡ true
        → IsForAuthors (shown_to u H before later stamp e)
    each before later stamp (Reviewed paper ordinal version form) told = λ other.
        let parts = other-parts (eqb paper p) (is_number u stamp.maker) other in
        let own : is_number u stamp.maker ≡ false = parts.1 in
        let hers : is_author u paper H ≡ true = ap (λ n. is_author u n H) (eqb-true paper p parts.0) ∙ wrote in
        let none = unread u paper H hers early before later ordinal stamp.maker own in
        λ i. record (shown_to u H before later stamp (Reviewed paper ordinal version form)) {
          mine = own i;
          at = where_known (own i) stamp.at;
          key = where_known (own i) stamp.key;
          version = known-not _ version none i;
          to_pc = known-not _ form.to_pc none i;
          done = known-not _ true (uncounted u paper H hers early before later ordinal) i;
        }
    each before later stamp e told = λ other. absurd (false≢true other)

-- an entry that begins the response is no form
no-form : (p o : ℕ) (e : Entry) → begins_response e ≡ true → gives_form p o e ≡ true → ⊥
no-form p o (PhaseSet phase) begins gives = absurd (false≢true gives)
no-form p o e begins gives = absurd (false≢true begins)

-- behind the beginning of the response there is none to which authors respond, nor where a later one of the label is
-- before it
unresponded : (p o : ℕ) (before later : History) → list_any heard before ≡ true
    → is_responded_to p o before later ≡ false
unresponded p o before later begun =
    ap (λ b. not b && list_any heard later && not (is_reviewed p o (until heard later))) begun

replaced : (p o : ℕ) (before later : History) → is_reviewed p o (until heard later) ≡ true
    → is_responded_to p o before later ≡ false
replaced p o before later again =
    and_right (not (list_any heard before) && list_any heard later) (not (is_reviewed p o (until heard later)))
    (ap not again)

grown : (before : History) (e : Stamped) → list_any heard before ≡ true → list_any heard (before ++ e ∷ []) ≡ true
grown before e begun = list_any-append heard before (e ∷ []) ∙ or_left (list_any heard before) (heard e || false) begun

begun-by : (before : History) (e : Stamped) → heard e ≡ true → list_any heard (before ++ e ∷ []) ≡ true
begun-by before e begins = list_any-append heard before (e ∷ [])
    ∙ or_right (list_any heard before) (heard e || false) (or_left (heard e) false begins)

-- the values of a test of which all parts hold, where told; `on_paper` is that it is on the paper, `own` that it is
-- hers, `under` that it is under the label
few-of : (told counts : Bool) (s : Sighting) → length (only told (only counts (s ∷ []))) ≤ 1
few-of true true s = omega arith
few-of true false s = omega arith
few-of false true s = omega arith
few-of false false s = omega arith

none-of : (told on_paper own under : Bool) (s : Sighting)
    → (on_paper ≡ true → own ≡ false → under ≡ true → told ≡ false)
    → only told (only (on_paper && not own && under) (s ∷ [])) ≡ []
none-of told true true under s h = refl
none-of told true false true s h = ap (λ b. only b (s ∷ [])) (h refl refl refl)
none-of told true false false s h = refl
none-of told false own under s h = refl

module _ (u : Option ℕ) (p o : ℕ) (H : History) (wrote : is_author u p H ≡ true)
    (early : is_past_discussion (phase_of H) ≡ false) where
  abbrev counted : Sighting → List Sighting
  counted s = only (is_others kinds.Reviewed p s && is_number s.ordinal o) (s ∷ [])

  -- what one entry shows of others' forms under the label
  abbrev one_of : History → History → Stamp → Entry → List Sighting
  one_of before later stamp e =
      only (is_told u H before later stamp.maker e) (counted (shown_to u H before later stamp e))

  few : (before later : History) (stamp : Stamp) (e : Entry) → length (one_of before later stamp e) ≤ 1
  few before later stamp e =
      let s : Sighting = shown_to u H before later stamp e in
      few-of (is_told u H before later stamp.maker e) (is_others kinds.Reviewed p s && is_number s.ordinal o) s

  -- nothing, where it is no such form, or not the one to which authors respond
  nothing : (before later : History) (stamp : Stamp) (e : Entry)
      → (gives_form p o e ≡ true → is_responded_to p o before later ≡ false)
      → one_of before later stamp e ≡ []
  nothing before later stamp (Reviewed paper ordinal version form) apart =
      none-of (is_told u H before later stamp.maker (Reviewed paper ordinal version form)) (eqb paper p)
      (is_number u stamp.maker) (eqb ordinal o)
      (shown_to u H before later stamp (Reviewed paper ordinal version form))
      (λ on_paper other under.
      untold u paper H (ap (λ n. is_author u n H) (eqb-true paper p on_paper) ∙ wrote) early before later ordinal
      stamp.maker version form other
      ((λ i. is_responded_to (eqb-true paper p on_paper i) (eqb-true ordinal o under i) before later)
      ∙ apart (both on_paper under)))
    where
      both : eqb paper p ≡ true → eqb ordinal o ≡ true → (eqb paper p && eqb ordinal o) ≡ true
      both on_paper under = λ i. on_paper i && under i
  nothing before later stamp e apart = refl

  abbrev all_of : History → History → List Sighting
  all_of before G = flat_map counted (each_told u H (shown_to u H) before G)

  first-of : (before : History) (e : Stamped) (G : History)
      → all_of before (e ∷ G) ≡ one_of before G e.stamp e.entry ++ all_of (before ++ e ∷ []) G
  first-of before e G =
      let told : Bool = is_told u H before G e.stamp.maker e.entry in
      let one : Sighting = shown_to u H before G e.stamp e.entry in
      flat_map-append counted (given told one) (each_told u H (shown_to u H) (before ++ e ∷ []) G)
      ∙ ap (λ xs. xs ++ all_of (before ++ e ∷ []) G) (flat_map-given counted told one)

  none-behind : (before G : History) → list_any heard before ≡ true → all_of before G ≡ []
  none-behind before [] begun = refl
  none-behind before (e ∷ G) begun =
      first-of before e G
      ∙ ap (λ xs. xs ++ all_of (before ++ e ∷ []) G)
      (nothing before G e.stamp e.entry (λ _. unresponded p o before G begun))
      ∙ none-behind (before ++ e ∷ []) G (grown before e begun)

  none-ahead : (before G : History) → is_reviewed p o (until heard G) ≡ false → all_of before G ≡ []
  none-ahead before [] none = refl
  none-ahead before (e ∷ G) none = first-of before e G ∙ by (heard e) refl none (none-ahead (before ++ e ∷ []) G)
    where
      rest : List Sighting
      rest = all_of (before ++ e ∷ []) G

      by : (b : Bool) → heard e ≡ b → is_reviewed p o (cond b [] (e ∷ until heard G)) ≡ false
          → (is_reviewed p o (until heard G) ≡ false → rest ≡ []) → (one_of before G e.stamp e.entry ++ rest) ≡ []
      by true begins none later =
          ap (λ xs. xs ++ rest) (nothing before G e.stamp e.entry (λ gives. absurd (no-form p o e.entry begins gives)))
          ∙ none-behind (before ++ e ∷ []) G (begun-by before e begins)
      by false begins none later =
          let parts = or_parts (gives_form p o e.entry) (is_reviewed p o (until heard G)) none in
          ap (λ xs. xs ++ rest) (nothing before G e.stamp e.entry (λ gives. absurd (true≢false (sym gives ∙ parts.0))))
          ∙ later parts.1

  one-at-most : (before G : History) → length (all_of before G) ≤ 1
  one-at-most before [] = omega arith
  one-at-most before (e ∷ G) =
      subst (λ (xs : List Sighting). length xs ≤ 1) (sym (first-of before e G))
      (by (is_reviewed p o (until heard G)) refl (one-at-most (before ++ e ∷ []) G))
    where
      one : List Sighting
      one = one_of before G e.stamp e.entry

      rest : List Sighting
      rest = all_of (before ++ e ∷ []) G

      by : (b : Bool) → is_reviewed p o (until heard G) ≡ b → length rest ≤ 1 → length (one ++ rest) ≤ 1
      by true again later =
          subst (λ (xs : List Sighting). length (xs ++ rest) ≤ 1)
          (sym (nothing before G e.stamp e.entry (λ _. replaced p o before G again))) later
      by false none later =
          subst (λ (ys : List Sighting). length (one ++ ys) ≤ 1) (sym (none-ahead (before ++ e ∷ []) G none))
          (subst (λ (xs : List Sighting). length xs ≤ 1) (sym (append-nil one)) (few before G e.stamp e.entry))

pub one-review : OneReview
one-review u p o H wrote early =
    subst (λ (V : List Sighting). length (flat_map (counted u p o H wrote early) V) ≤ 1) (sym (view-told u H))
    (one-at-most u p o H wrote early [] H)

module _ (u : Option ℕ) (p : ℕ) (H : History) (wrote : is_author u p H ≡ true)
    (early : is_past_discussion (phase_of H) ≡ false) where
  abbrev IsUnseen : Sighting → Type 0
  IsUnseen s = is_others kinds.Reviewed p s ≡ false

  unseen-one : (before later : History) (stamp : Stamp) (e : Entry) → list_any heard before ≡ true
      → is_told u H before later stamp.maker e ≡ true
      → IsUnseen (shown_to u H before later stamp e)
  unseen-one before later stamp (Reviewed paper ordinal version form) begun told =
      none (eqb paper p) (is_number u stamp.maker) _ told
      (λ on_paper other.
      untold u paper H (ap (λ n. is_author u n H) (eqb-true paper p on_paper) ∙ wrote) early before later ordinal
      stamp.maker version form other
      (unresponded paper ordinal before later begun))
    where
      none : (on_paper own told : Bool) → told ≡ true → (on_paper ≡ true → own ≡ false → told ≡ false)
          → (on_paper && not own) ≡ false
      none true true told is h = refl
      none true false told is h = absurd (true≢false (sym is ∙ h refl refl))
      none false own told is h = refl
  unseen-one before later stamp e begun told = refl

  unseen-told : (before G : History) → list_any heard before ≡ true
      → All IsUnseen (each_told u H (shown_to u H) before G)
  unseen-told before [] begun = All-nil IsUnseen
  unseen-told before (e ∷ G) begun =
      All-append IsUnseen (given (is_told u H before G e.stamp.maker e.entry) one)
      (each_told u H (shown_to u H) (before ++ e ∷ []) G)
      (by (is_told u H before G e.stamp.maker e.entry) (unseen-one before G e.stamp e.entry begun))
      (unseen-told (before ++ e ∷ []) G (grown before e begun))
    where
      one : Sighting
      one = shown_to u H before G e.stamp e.entry

      by : (told : Bool) → (told ≡ true → IsUnseen one) → All IsUnseen (given told one)
      by true h = All-cons IsUnseen one [] (h refl) (All-nil IsUnseen)
      by false h = All-nil IsUnseen

  unseen-since : (before G : History) → before ++ G ≡ H
      → All IsUnseen (since opening_response_seen (sights (reader u H) before G))
  unseen-since before [] whole = All-nil IsUnseen
  unseen-since before (e ∷ G) whole = by (opens_response e) refl (unseen-since (before ++ e ∷ []) G longer)
    where
      longer : (before ++ e ∷ []) ++ G ≡ H
      longer = append_assoc before (e ∷ []) G ∙ whole

      at : Around
      at = record { before = before; after = G }

      here : List Sighting
      here = sight (reader u H) at e

      rest : List Sighting
      rest = sights (reader u H) (before ++ e ∷ []) G

      cuts : CutsAt (reader u H) opens_response opening_response_seen
      cuts = opening_cuts (reader u H) Response

      by : (b : Bool) → opens_response e ≡ b → All IsUnseen (since opening_response_seen rest)
          → All IsUnseen (since opening_response_seen (here ++ rest))
      by true opens later =
          let o = cuts.one at e opens in
          All-same IsUnseen (since opening_response_seen (here ++ rest)) rest
          (ap (λ xs. since opening_response_seen (xs ++ rest)) o.1.0
          ∙ ap (λ b. cond b rest (since opening_response_seen rest)) o.1.1)
          (All-same IsUnseen rest (each_told u H (shown_to u H) (before ++ e ∷ []) G)
          (sights-told u H (before ++ e ∷ []) G longer)
          (unseen-told (before ++ e ∷ []) G (begun-by before e (sym (response-begins e.entry) ∙ opens))))
      by false opens later =
          All-same IsUnseen (since opening_response_seen (here ++ rest)) (since opening_response_seen rest)
          (since-append opening_response_seen here rest (cuts.other at e opens)) later

pub reviews-behind : ReviewsBehindUnseen
reviews-behind u p H wrote early = unseen-since u p H wrote early [] H refl

-- ---- what looks the same

-- what is so of each two entries in their place
module _ (H : History) (P Q : Around → Stamped → Stamped → Type 0)
    (one : (before after : History) (e other : Stamped) → before ++ e ∷ after ≡ H
    → P (record { before = before; after = after }) e other
    → Q (record { before = before; after = after }) e other)
  where
    places : (before G G' : History) → before ++ G ≡ H → PlaceByPlace P before G G' → PlaceByPlace Q before G G'
    places before [] [] whole paired = tt
    places before [] (other ∷ G') whole paired = absurd paired
    places before (e ∷ G) [] whole paired = absurd paired
    places before (e ∷ G) (other ∷ G') whole paired = (
      one before G e other whole paired.0,
      places (before ++ e ∷ []) G G' (append_assoc before (e ∷ []) G ∙ whole)
          paired.1,
    )

unshown : {A : Type 0} (c : Bool) (x y : A) → c ≡ false → where_shown c (Some x) ≡ where_shown c (Some y)
unshown c x y none = ap (λ b. where_shown b (Some x)) none ∙ sym (ap (λ b. where_shown b (Some y)) none)

module _ (u : Option ℕ) (H H' : History) (early : is_past_discussion (phase_of H) ≡ false)
    (alike : PlaceByPlace (IsSameUnlessUnheard u H) [] H H')
  where
    -- what no form tells is told alike
    told-alike : {A : Type 0} (told : Stamped → List A)
        → ((stamp : Stamp) (more : Bool) (paper ordinal version : ℕ) (form : Form)
        → told (stamped stamp more (Reviewed paper ordinal version form)) ≡ [])
        → (before G G' : History) → PlaceByPlace (IsSameUnlessUnheard u H) before G G'
        → flat_map told G ≡ flat_map told G'
    told-alike told none before [] [] paired = refl
    told-alike told none before [] (other ∷ G') paired = absurd paired
    told-alike told none before (e ∷ G) [] paired = absurd paired
    told-alike told none before (e ∷ G) (other ∷ G') paired =
        λ i. one (record { before = before; after = G }) e other paired.0 i ++ told-alike told none (before ++ e ∷ []) G
        G' paired.1 i
      where
        one : (at : Around) (e other : Stamped) → IsSameUnlessUnheard u H at e other → told e ≡ told other
        one at _ _ (same e) = refl
        one at _ _ (changed stamp more paper ordinal version form other unheard) =
            none stamp more paper ordinal version form ∙ sym (none stamp more paper ordinal version other)

    abbrev r : Reader
    r = reader u H

    outlines : (before after : History) (e other : Stamped) → before ++ e ∷ after ≡ H
        → IsSameUnlessUnheard u H (record { before = before; after = after }) e other → outline e ≡ outline other
    outlines before after _ _ whole (same e) = refl
    outlines before after _ _ whole (changed stamp more paper ordinal version form other unheard) = refl

    hides : (before after : History) (e other : Stamped) → before ++ e ∷ after ≡ H
        → IsSameUnlessUnheard u H (record { before = before; after = after }) e other
        → IsHiddenFrom r (record { before = before; after = after }) e other
    hides before after _ _ whole (same e) = record { parts = refl; maker = refl; user = refl }
    hides before after _ _ whole (changed stamp more paper ordinal version form other unheard) = record {
      parts = λ i. record (shown_of r at e e) {
        score = unshown _ form.score other.score graded i;
        confidence = unshown _ form.confidence other.confidence graded i;
        to_authors = unshown _ form.to_authors other.to_authors graded i;
        to_pc = unshown _ form.to_pc other.to_pc read i;
      };
      maker = refl;
      user = refl;
    }
      where
        at : Around
        at = record { before = before; after = after }

        e : Stamped
        e = stamped stamp more (Reviewed paper ordinal version form)

        none : reads_form u H before after stamp.maker paper ordinal ≡ false
        none = unread u paper H unheard.author early before after ordinal stamp.maker unheard.other

        read : shows (rows_at r at e) part.to_pc ≡ false
        read = form-read u H at stamp more paper ordinal version form ∙ none

        graded : shows (rows_at r at e) part.score ≡ false
        graded =
            review-read u H at stamp more paper ordinal version form
            (within-one u H before stamp more (Reviewed paper ordinal version form) after whole)
            ∙ (λ i. none i || unlearnt u paper H unheard.author early before after ordinal unheard.unheard i)

    declares : (before after : History) (e other : Stamped) → before ++ e ∷ after ≡ H
        → IsSameUnlessUnheard u H (record { before = before; after = after }) e other
        → IsDeclaredAlike u H H' e.entry e.stamp.maker other.stamp.maker
    declares before after _ _ whole (same e) = of e.entry
      where
        of : (entry : Entry) → IsDeclaredAlike u H H' entry e.stamp.maker e.stamp.maker
        of (Conflict paper user on) = λ hers.
            ap (list_any (is_number (Some e.stamp.maker)))
            (told-alike (λ (e : Stamped). author_told paper e.stamp.maker e.entry)
            (λ stamp more paper ordinal version form. refl) [] H H' alike)
        of entry = tt
    declares before after _ _ whole (changed stamp more paper ordinal version form other unheard) = tt

    accepts : (p : ℕ) → is_accepted p H ≡ is_accepted p H'
    accepts p =
        let phase = told-alike (λ (e : Stamped). phase_told e.entry) (λ stamp more paper ordinal version form. refl) []
        H H' alike in
        let withdrawn = told-alike (λ (e : Stamped). withdrawal_told p e.entry)
        (λ stamp more paper ordinal version form. refl) [] H H' alike in
        let decided = told-alike (λ (e : Stamped). decision_told p e.entry)
        (λ stamp more paper ordinal version form. refl) [] H H' alike in
        λ i. is_accepted_when (last_or Setup (phase i)) (last_or false (withdrawn i)) (last (decided i))

    look-alike : view u H ≡ view u H'
    look-alike =
        hidden_payload u H H' (record {
          alike =
              places H (IsSameUnlessUnheard u H) (λ at e other. outline e ≡ outline other) outlines [] H H' refl alike;
          hidden = places H (IsSameUnlessUnheard u H) (IsHiddenFrom r) hides [] H H' refl alike;
          accepted = accepts;
          declared = places H (IsSameUnlessUnheard u H)
              (λ at e other. IsDeclaredAlike u H H' e.entry e.stamp.maker other.stamp.maker) declares [] H H' refl
              alike;
        })

pub unheard-forms : UnheardForms
unheard-forms u H H' early alike = look-alike u H H' early alike

pub later-forms : LaterForms
later-forms u before after stamp more paper ordinal version form early unheard begun =
    removal u before after e (ap (λ b. given b (joined (reader u H) at e)) unseen) accepts
  where
    e : Stamped
    e = stamped stamp more (Reviewed paper ordinal version form)

    H : History
    H = before ++ e ∷ after

    at : Around
    at = record { before = before; after = after }

    unseen : is_seen (reader u H) at e ≡ false
    unseen =
        seen-told u H at stamp more (Reviewed paper ordinal version form)
        (within-one u H before stamp more (Reviewed paper ordinal version form) after refl)
        ∙ untold u paper H unheard.author early before after ordinal stamp.maker version form unheard.other
        unheard.unheard

    accepts : (p : ℕ) → is_accepted p (before ++ e ∷ after) ≡ is_accepted p (before ++ after)
    accepts p = λ i. is_accepted_when
        (last_or Setup (told-without (λ (e : Stamped). phase_told e.entry) before after e refl i))
        (last_or false (told-without (λ (e : Stamped). withdrawal_told p e.entry) before after e refl i))
        (last (told-without (λ (e : Stamped). decision_told p e.entry) before after e refl i))
