-- SPDX-License-Identifier: Apache-2.0 OR MIT
-- Of uploads each part that is shown is told: the versions of a paper have numbers of their own.
use Rattle.std.proofs.Common.{◌≡◌, ◌≤◌, ℕ, Bool, true, false, List, [], ◌∷◌, ◌++◌, refl, sym, ap, ◌∙◌, ◌||◌, ◌&&◌}
use Rattle.std.proofs.Common.{Option, Some, eqb, arith, length, length-append}
use Rattle.std.specs.Prelude.{not, IsTrue, unwrap_or}
use Rattle.std.specs.Str.{bytes_eq}
use Rattle.std.specs.List.{flat_map, list_any}
use Rattle.std.proofs.lemmas.Bool.{true≢false, eq-eqb, eqb-true, or_left}
use Rattle.std.proofs.lemmas.List.Concat.{flat_map-append}
use Rattle.cr_base.specs.declared.command.Query.TheVariants as queries
use Rattle.cr_base.specs.declared.entry.Entry.{Entry}
use Rattle.cr_base.specs.declared.entry.Entry.TheVariants.{Uploaded}
use Rattle.cr_base.specs.declared.entry.EntryKind.TheVariants as kinds
use Rattle.cr_base.specs.declared.entry.Stamp.{Stamp}
use Rattle.cr_base.specs.declared.entry.Stamped.{Stamped}
use Rattle.cr_base.specs.Lists.{given, is_nothing, is_number, listed}
use Rattle.cr_base.specs.Drawn.{stamped}
use Rattle.cr_base.specs.History.{History, upload_told}
use Rattle.cr_base.specs.HistoryFacts.{is_author, uploads_of}
use Rattle.cr_history.specs.Invariants.{IsSubmitted, IsInOrder, InTurn, HasNextNumber}
use Rattle.cr_policy.specs.Judge.{answer}
use Rattle.cr_policy.specs.Legal.{Legal}
use Rattle.cr_policy.specs.Part as part
use Rattle.cr_policy.specs.Part.{Part}
use Rattle.cr_policy.specs.Sighting.{Sighting}
use Rattle.cr_policy.specs.View.{View, view}
use Rattle.cr_policy.specs.ViewFacts.{only, is_kind}
use Rattle.cr_policy.proofs.LegalLaws.{legal_invariants}
use Rattle.cr_policy.proofs.Walk.{only-false}
use Rattle.cr_bounds.specs.ShownTo.{where_known, reads_to_judge, appears, owns, is_superseded, is_told, each_told}
use Rattle.cr_bounds.proofs.BoundsWalk.{shown_to, view-told}
use Rattle.cr_told.specs.ToldPages.{page_told, shown_by}
use Rattle.cr_told.specs.ToldLists.{contents_of, content_answered, first_of}
use Rattle.cr_told.specs.ToldParts.{has, agree, lists, is_told as is_part_told, is_left_untold}
use Rattle.cr_told.proofs.ToldEach.{listed-here, known}
use Rattle.cr_told.proofs.ToldKnown.{AllOf, Each, all-of, known-own}
use Rattle.cr_told.proofs.ToldLists.{contents_told}
use Rattle.cr_told.proofs.ToldNames.{same-bytes}
use Rattle.cr_told.proofs.ToldPages.{pages_told, abstract-some, reads_it, public}
use Rattle.cr_told.proofs.ToldPlaces.{own-so}

module _ (u : Option ℕ) (p : ℕ) (H : History) where
  -- what a sighting shows of the content of this version
  abbrev content_at : ℕ → Sighting → List (List ℕ)
  content_at k t = only (is_kind kinds.Uploaded t && (is_number t.paper p && is_number t.version k)) (listed t.content)

  -- the number of a version that is told next is none of those before
  next-number : (before : History) (stamp : Stamp) (more : Bool) (e : Entry) (later : History) (k : ℕ)
      → HasNextNumber before e → k ≤ length (uploads_of p before)
      → content_at k (shown_to u H before later stamp e) ≡ []
  next-number before stamp more (Uploaded paper version content) later k next few =
      by (eqb paper p) refl (eqb version k) refl
      (owns u H stamp.maker paper || (not (is_superseded paper later)
      && (reads_to_judge u paper H || appears paper H)))
    where
      by : (same : Bool) → eqb paper p ≡ same → (this : Bool) → eqb version k ≡ this → (shown : Bool)
          → only (same && is_number (where_known shown version) k) (listed (where_known shown content)) ≡ []
      by false e this f shown = only-false _
      by true e true f shown =
          absurd
          (omega (
            arith,
            next,
            few,
            eqb-true version k f,
            ap (λ q. length (uploads_of q before)) (eqb-true paper p e),
          ))
      by true e false f true = ap (λ b. only b (content ∷ [])) f
      by true e false f false = refl
  next-number before stamp more e later k next few = refl

  given-none : {A : Type 0} (f : Sighting → List A) (b : Bool) (t : Sighting) (rest : View) → f t ≡ []
      → flat_map f rest ≡ [] → flat_map f (given b t ++ rest) ≡ []
  given-none f true t rest e none = ap (λ xs. xs ++ flat_map f rest) e ∙ none
  given-none f false t rest e none = none

  -- no later sighting has the number of a version that was told
  none-later : (before G : History) → InTurn IsInOrder before G → (k : ℕ) → k ≤ length (uploads_of p before)
      → flat_map (content_at k) (each_told u H (shown_to u H) before G) ≡ []
  none-later before [] order k few = refl
  none-later before (e ∷ G) order k few =
      given-none (content_at k) (is_told u H before G e.stamp.maker e.entry) (shown_to u H before G e.stamp e.entry)
      (each_told u H (shown_to u H) (before ++ e ∷ []) G)
      (next-number before e.stamp e.more e.entry G k order.0.number few)
      (none-later (before ++ e ∷ []) G order.1 k more)
    where
      more : k ≤ length (uploads_of p (before ++ e ∷ []))
      more =
          omega (
            arith,
            few,
            ap length (flat_map-append (λ (e : Stamped). upload_told p e.entry) before (e ∷ [])),
            length-append (uploads_of p before) (uploads_of p (e ∷ [])),
          )

  -- the number that is shown is among those told
  number-told : (before : History) (stamp : Stamp) (more : Bool) (e : Entry) (later : History) (k : ℕ)
      → HasNextNumber before e
      → is_nothing (content_at k (shown_to u H before later stamp e)) ≡ false
      → k ≤ length (uploads_of p (before ++ stamped stamp more e ∷ []))
  number-told before stamp more (Uploaded paper version content) later k next some =
      by (eqb paper p) refl (eqb version k) refl
      (owns u H stamp.maker paper || (not (is_superseded paper later)
      && (reads_to_judge u paper H || appears paper H))) some
    where
      grown : uploads_of p (before ++ stamped stamp more (Uploaded paper version content) ∷ [])
          ≡ uploads_of p before ++ (given (eqb paper p) (record { version = version; content = content }) ++ [])
      grown = flat_map-append (λ (e : Stamped). upload_told p e.entry) before
          (stamped stamp more (Uploaded paper version content) ∷ [])

      by : (same : Bool) → eqb paper p ≡ same → (this : Bool) → eqb version k ≡ this → (shown : Bool)
          → is_nothing (only (same && is_number (where_known shown version) k) (listed (where_known shown content)))
          ≡ false
          → k ≤ length (uploads_of p (before ++ stamped stamp more (Uploaded paper version content) ∷ []))
      by false e this f true h = absurd (true≢false h)
      by false e this f false h = absurd (true≢false h)
      by true e true f shown h =
          omega (
            arith,
            next,
            eqb-true version k f,
            ap (λ q. length (uploads_of q before)) (eqb-true paper p e),
            ap length
                (grown
                ∙ ap (λ b. uploads_of p before ++ (given b (record { version = version; content = content }) ++ [])) e),
            length-append (uploads_of p before) (record { version = version; content = content } ∷ []),
          )
      by true e false f true h = absurd (true≢false (sym (ap (λ b. is_nothing (only b (content ∷ []))) f) ∙ h))
      by true e false f false h = absurd (true≢false h)
  number-told before stamp more e later k next some = absurd (true≢false some)

  nothing-is : {A : Type 0} (xs : List A) → is_nothing xs ≡ true → xs ≡ []
  nothing-is [] h = refl
  nothing-is (x ∷ xs) h = absurd (true≢false (sym h))

  abbrev leading : ℕ → View → List (List ℕ)
  leading k [] = []
  leading k (t ∷ ts) = content_at k t

  abbrev behind : View → View
  behind [] = []
  behind (t ∷ ts) = ts

  some-there : {X A : Type 0} (f : X → List A) (first : List X) (s : X) (after : List X) → is_nothing (f s) ≡ false
      → flat_map f (first ++ s ∷ after) ≡ [] → ⊥
  some-there f first s after some none =
      true≢false
      (sym (ap is_nothing (sym (flat_map-append f first (s ∷ after)) ∙ none))
      ∙ any (flat_map f first) (f s) (flat_map f after) some)
    where
      any : {A : Type 0} (xs ys zs : List A) → is_nothing ys ≡ false → is_nothing (xs ++ (ys ++ zs)) ≡ false
      any [] [] zs h = absurd (true≢false h)
      any [] (y ∷ ys) zs h = refl
      any (x ∷ xs) ys zs h = refl

  -- and no earlier one has it either
  none-earlier : (before G : History) → InTurn IsInOrder before G → (first : View) (s : Sighting) (after : View)
      → each_told u H (shown_to u H) before G ≡ first ++ s ∷ after → (k : ℕ) → is_nothing (content_at k s) ≡ false
      → flat_map (content_at k) first ≡ []
  none-earlier before G order [] s after is k some = refl
  none-earlier before [] order (b ∷ first) s after is k some = absurd (true≢false (ap is_nothing is))
  none-earlier before (e ∷ G) order (b ∷ first) s after is k some =
      by (is_told u H before G e.stamp.maker e.entry) is
      (λ is. none-earlier (before ++ e ∷ []) G order.1 (b ∷ first) s after is k some)
      (λ is. none-earlier (before ++ e ∷ []) G order.1 first s after is k some)
    where
      shown : Sighting
      shown = shown_to u H before G e.stamp e.entry

      rest : View
      rest = each_told u H (shown_to u H) (before ++ e ∷ []) G

      here : rest ≡ first ++ s ∷ after → (nothing : Bool) → is_nothing (content_at k shown) ≡ nothing
          → content_at k shown ≡ []
      here is true h = nothing-is (content_at k shown) h
      here is false h =
          absurd (some-there (content_at k) first s after some
          (ap (flat_map (content_at k)) (sym is) ∙ none-later (before ++ e ∷ []) G order.1 k
          (number-told before e.stamp e.more e.entry G k order.0.number h)))

      by : (told : Bool) → given told shown ++ rest ≡ b ∷ (first ++ s ∷ after)
          → (rest ≡ b ∷ (first ++ s ∷ after) → content_at k b ++ flat_map (content_at k) first ≡ [])
          → (rest ≡ first ++ s ∷ after → flat_map (content_at k) first ≡ [])
          → content_at k b ++ flat_map (content_at k) first ≡ []
      by false is same next = same is
      by true is same next =
          ap (λ xs. xs ++ flat_map (content_at k) first)
          (sym (ap (leading k) is) ∙ here (ap behind is) (is_nothing (content_at k shown)) refl)
          ∙ next (ap behind is)

-- the first of what is shown is this one's, where no earlier one shows any
first-here : {X A : Type 0} (f : X → List A) (before : List X) (s : X) (after : List X) (x : A) → flat_map f before ≡ []
    → f s ≡ x ∷ []
    → first_of (flat_map f (before ++ s ∷ after)) ≡ Some x
first-here f before s after x none is =
    ap first_of (flat_map-append f before (s ∷ after))
    ∙ ap (λ xs. first_of (xs ++ (f s ++ flat_map f after))) none
    ∙ ap (λ xs. first_of (xs ++ flat_map f after)) is

module _ (u : Option ℕ) (H : History) (legal : Legal H) (before after : View) where
  abbrev V : View
  V = view u H

  module _ (earlier later : History) (stamp : Stamp) (more : Bool) (paper version : ℕ) (content : List ℕ)
      (there : IsSubmitted H paper)
      (wrote : is_author (Some stamp.maker) paper H ≡ true)
      (told : is_told u H earlier later stamp.maker (Uploaded paper version content) ≡ true)
      (is : view u H ≡ before ++ shown_to u H earlier later stamp (Uploaded paper version content) ∷ after)
    where
      abbrev s : Sighting
      s = shown_to u H earlier later stamp (Uploaded paper version content)

      -- who is told of an upload is shown all of it
      abbrev sees : Bool
      sees =
          owns u H stamp.maker paper || (not (is_superseded paper later)
          && (reads_to_judge u paper H || appears paper H))

      -- and reads the paper
      reads : reads_it u paper H there (legal_invariants H legal).in_order ≡ true
      reads =
          ap (λ b. is_author u paper H || (reads_to_judge u paper H || b))
          (public u paper H there (legal_invariants H legal).in_order)
          ∙ by (is_number u stamp.maker) (is_author u paper H) (not (is_superseded paper later))
          (reads_to_judge u paper H || appears paper H) told
          (own-so (λ v. is_author v paper H) u stamp.maker wrote)
        where
          by : (m a x r : Bool) → ((m || a) || (x && r)) ≡ true → (not m || a) ≡ true → (a || r) ≡ true
          by m a x r told own = grind (arith, told, own)

      uploaded : (what : Part) → IsTrue (has what s)
          → IsTrue (is_part_told u H s kinds.Uploaded what || is_left_untold u H s after kinds.Uploaded what)
      uploaded part.version shown =
          or_left _ false
          (ap (λ key. lists key (is_number s.version)) keyed
          ∙ (λ i. list_any (is_number (where_known (told i) version))
          (shown_by kinds.Uploaded paper (λ (t : Sighting). t.version) V))
          ∙ ap (λ (W : View). list_any (eqb version) (shown_by kinds.Uploaded paper (λ (t : Sighting). t.version) W)) is
          ∙ listed-here (eqb version) (λ (t : Sighting). only (is_kind kinds.Uploaded t && is_number t.paper paper)
          (listed t.version)) before after s
          ((λ i. list_any (eqb version) (only (eq-eqb paper paper refl i) (listed (where_known (told i) version))))
          ∙ ap (λ b. b || false) (eq-eqb version version refl)))
        where
          keyed : page_told (λ page. page.versions) u paper H
              ≡ Some (shown_by kinds.Uploaded paper (λ (t : Sighting). t.version) V)
          keyed =
              (pages_told u paper H legal there).versions
              ∙ ap (λ b. where_known b (shown_by kinds.Uploaded paper (λ (t : Sighting). t.version) V))
              (sym (abstract-some u paper H there (legal_invariants H legal).in_order) ∙ reads)
      uploaded part.content shown =
          or_left _ false
          ((λ i. agree bytes_eq (where_known (told i) content)
          (content_answered (answer u V (queries.Version (Some paper) (unwrap_or (where_known (told i) version) 0)))))
          ∙ ap (agree bytes_eq (Some content))
          ((contents_told u paper H legal there).version version
          ∙ ap (λ (W : View). first_of (contents_of paper version W)) is
          ∙ first-here (content_at u paper H version) before s after content
          (none-earlier u paper H [] H (legal_invariants H legal).in_order before s after (sym (view-told u H) ∙ is)
          version (ap is_nothing shows)) shows)
          ∙ same-bytes content)
        where
          shows : content_at u paper H version s ≡ content ∷ []
          shows =
              (λ i. only (eq-eqb paper paper refl i && is_number (where_known (told i) version) version)
              (listed (where_known (told i) content)))
              ∙ ap (λ b. only b (content ∷ [])) (eq-eqb version version refl)
      uploaded part.at shown = known-own (is_number u stamp.maker) stamp.at shown
      uploaded part.key shown = known-own (is_number u stamp.maker) stamp.key shown
      uploaded _ shown = absurd (true≢false (sym shown))

pub uploaded-all : AllOf kinds.Uploaded
uploaded-all = all-of kinds.Uploaded each
  where
    each : Each kinds.Uploaded
    each u H legal before after what earlier later stamp more (Uploaded paper version content) whole known told is kind
        shown =
        uploaded u H legal before after earlier later stamp more paper version content known.there known.author told is
        what shown
    each u H legal before after what earlier later stamp more e whole known told is kind shown =
        absurd (true≢false (sym kind))
