-- SPDX-License-Identifier: Apache-2.0 OR MIT
-- Of comments, responses and decisions each part that is shown is told or left out.
use Rattle.std.proofs.Common.{◌≡◌, ℕ, Bool, true, false, List, [], ◌∷◌, ◌++◌, refl, sym, ap, ◌∙◌, ◌||◌, ◌&&◌, Option}
use Rattle.std.proofs.Common.{Some, None, eqb, arith}
use Rattle.std.specs.Prelude.{not, map, filter, ◌==◌, IsTrue, is_some, nat_eq, unwrap_or, if◌then◌else◌}
use Rattle.std.specs.Option.{option_and_then}
use Rattle.std.specs.Str.{bytes_eq}
use Rattle.std.specs.List.{flat_map, list_any}
use Rattle.std.proofs.lemmas.Bool.{true≢false, eq-eqb, eqb-true, or_left, or_right, and_parts, or_parts, not-true}
use Rattle.cr_base.specs.declared.comment.CommentLine.{CommentLine}
use Rattle.cr_base.specs.declared.entry.Entry.{Entry}
use Rattle.cr_base.specs.declared.entry.Entry.TheVariants.{Commented, Decided, Responded}
use Rattle.cr_base.specs.declared.entry.EntryKind.TheVariants as kinds
use Rattle.cr_base.specs.declared.entry.Stamp.{Stamp}
use Rattle.cr_base.specs.declared.entry.Stamped.{Stamped}
use Rattle.cr_base.specs.declared.words.Decision.{Decision}
use Rattle.cr_base.specs.declared.words.Decision.TheVariants.{Accept, Reject}
use Rattle.cr_base.specs.declared.words.Phase.TheVariants.{Discussion}
use Rattle.cr_base.specs.Answering.{accepted_paper}
use Rattle.cr_base.specs.Lists.{given, is_nothing, is_number, last, listed}
use Rattle.cr_base.specs.Drawn.{stamped}
use Rattle.cr_base.specs.History.{History, decision_told}
use Rattle.cr_base.specs.HistoryFacts.{phase_of, decision_of, is_withdrawn, is_author, response_of}
use Rattle.cr_base.specs.Phases.{is_from}
use Rattle.cr_base.specs.Words.{decision_number}
use Rattle.cr_history.specs.Invariants.{IsRegistered, IsSubmitted, IsInOrder, InTurn}
use Rattle.cr_policy.specs.Legal.{Legal}
use Rattle.cr_policy.specs.Part as part
use Rattle.cr_policy.specs.Part.{Part}
use Rattle.cr_policy.specs.Sighting.{Sighting}
use Rattle.cr_policy.specs.View.{View, view}
use Rattle.cr_policy.specs.ViewFacts.{only, is_kind, label_shown, is_accepted_in_view, papers_in_view, facts_in_view}
use Rattle.cr_policy.specs.ViewFacts.{shown_in_view}
use Rattle.cr_policy.proofs.DecisionTells.{accepted-seen}
use Rattle.cr_policy.proofs.LegalLaws.{legal_invariants}
use Rattle.cr_policy.proofs.StandingLaws.{papers-seen}
use Rattle.cr_bounds.specs.ShownTo.{is_notified, is_in_programme, is_decided_again, decides, is_past_discussion}
use Rattle.cr_bounds.specs.ShownTo.{learns_outcome, is_announced, reads_decision, takes, is_told, is_eligible}
use Rattle.cr_bounds.specs.ShownTo.{discusses, is_past_reviewing, where_known, knows_writers}
use Rattle.cr_bounds.proofs.BoundsWords.{phase-words}
use Rattle.cr_bounds.proofs.BoundsWalk.{shown_to}
use Rattle.cr_told.specs.ToldPages.{shown_on, is_shown_accepted, page_told}
use Rattle.cr_told.specs.ToldLists.{comment_shown_by, comments_listed, name_shown}
use Rattle.cr_told.specs.ToldPlaces.{has_key}
use Rattle.cr_told.specs.ToldParts.{has, agree, lists, same_decision, comments_given, is_told as is_part_told}
use Rattle.cr_told.specs.ToldParts.{is_left_untold}
use Rattle.cr_told.proofs.ToldEach.{last-here, last-told, listed-here, known}
use Rattle.cr_told.proofs.ToldKnown.{AllOf, Each, all-of, known-own}
use Rattle.cr_told.proofs.ToldLists.{comments_told, response_answer}
use Rattle.cr_told.proofs.ToldNames.{same-bytes, swap, name-is}
use Rattle.cr_told.proofs.ToldPages.{pages_told, programme}
use Rattle.cr_told.proofs.ToldPlaces.{known-some, own-so, decision-key}
use Rattle.cr_told.proofs.ToldResponses.{responded-once}
use Rattle.cr_told.proofs.ToldShown as reads

-- what is made of a number stands among what is made of those that pass
any-made : {A : Type 0} (v : ℕ) (t : ℕ → Bool) (made : ℕ → A) (test : A → Bool) → ((p : ℕ) → test (made p) ≡ eqb v p)
    → t v ≡ true → (ps : List ℕ)
    → list_any (λ q. q == v) ps ≡ true → list_any test (map made (filter t ps)) ≡ true
any-made v t made test same holds [] h = absurd (true≢false (sym h))
any-made v t made test same holds (q ∷ ps) h = by (eqb q v) refl (t q) refl h (any-made v t made test same holds ps)
  where
    by : (b : Bool) → eqb q v ≡ b → (c : Bool) → t q ≡ c → (b || list_any (λ q. q == v) ps) ≡ true
        → (list_any (λ q. q == v) ps ≡ true → list_any test (map made (filter t ps)) ≡ true)
        → list_any test (map made (if c then q ∷ filter t ps else filter t ps)) ≡ true
    by true e true passes h rest = ap (λ b. b || list_any test (map made (filter t ps))) (same q ∙ swap q v ∙ e)
    by true e false passes h rest = absurd (true≢false (sym (ap t (eqb-true q v e) ∙ holds) ∙ passes))
    by false e true passes h rest = or_right (test (made q)) (list_any test (map made (filter t ps))) (rest h)
    by false e false passes h rest = rest h

-- where no later entry decides on the paper, none tells a decision
none-decided : (p : ℕ) (later : History) → is_decided_again p later ≡ false
    → is_nothing (flat_map (λ (e : Stamped). decision_told p e.entry) later) ≡ true
none-decided p [] h = refl
none-decided p (e ∷ later) h =
    let parts = or_parts (decides p e.entry) (is_decided_again p later) h in
    ap (λ xs. is_nothing (xs ++ flat_map (λ (e : Stamped). decision_told p e.entry) later)) (one e.entry parts.0)
    ∙ none-decided p later parts.1
  where
    one : (e : Entry) → decides p e ≡ false → decision_told p e ≡ []
    one (Decided q decision) h = ap (λ b. given b decision) h
    one e h = refl

module _ (u : Option ℕ) (H : History) (legal : Legal H) (before after : View) where
  order : InTurn IsInOrder [] H
  order = (legal_invariants H legal).in_order

  abbrev V : View
  V = view u H

  abbrev Whole : Part → Sighting → Type 0
  Whole what s =
      view u H ≡ before ++ s ∷ after → IsTrue (has what s)
      → IsTrue (is_part_told u H s s.kind what || is_left_untold u H s after s.kind what)

  module _ (earlier later : History) (stamp : Stamp) (more : Bool) where
    module _ (paper n : ℕ) (ordinal : Option ℕ) (text : List ℕ) (there : IsSubmitted H paper)
        (registered : IsRegistered H stamp.maker)
        (begun : is_from Discussion (phase_of H) ≡ true)
        (told : is_told u H earlier later stamp.maker (Commented paper n ordinal text) ≡ true)
        (is : view u H ≡ before ++ shown_to u H earlier later stamp (Commented paper n ordinal text) ∷ after)
      where
        abbrev s : Sighting
        s = shown_to u H earlier later stamp (Commented paper n ordinal text)

        -- it stands among the comments, where they are answered
        line-here : (test : CommentLine → Bool) → discusses u paper H ≡ true
            → list_any test (comment_shown_by s V) ≡ true → lists (comments_given u H s) test ≡ true
        line-here test e passes =
            ap (λ lines. lists lines test) (comments_told u paper H legal there
            ∙ ap (λ b. where_known b (comments_listed paper V)) e)
            ∙ ap (λ (W : View). list_any test (flat_map f W)) is
            ∙ listed-here test f before after s (ap (λ b. list_any test (only b (comment_shown_by s V)))
            (eq-eqb paper paper refl) ∙ passes)
          where
            f : Sighting → List CommentLine
            f s = only (is_kind kinds.Commented s && is_number s.paper paper) (comment_shown_by s V)

        -- or else it is left behind
        line-or-behind : (test : CommentLine → Bool)
            → (discusses u paper H ≡ true → list_any test (comment_shown_by s V) ≡ true)
            → (lists (comments_given u H s) test || (is_number u stamp.maker && not (is_eligible u paper H))) ≡ true
        line-or-behind test passes = by (discusses u paper H) refl
          where
            behind : (m h d : Bool) → (m || (h && d)) ≡ true → d ≡ true → (h && d) ≡ false → (m && not h) ≡ true
            behind m h d told hd not' = grind (arith, told, hd, not')

            by : (b : Bool) → discusses u paper H ≡ b
                → (lists (comments_given u H s) test || (is_number u stamp.maker && not (is_eligible u paper H))) ≡ true
            by true e = or_left _ (is_number u stamp.maker && not (is_eligible u paper H)) (line-here test e (passes e))
            by false e =
                or_right (lists (comments_given u H s) test) (is_number u stamp.maker && not (is_eligible u paper H))
                (behind (is_number u stamp.maker) (is_eligible u paper H) (is_past_reviewing (phase_of H)) told
                (sym (phase-words (phase_of H)).discussion ∙ begun) e)

        commented : (what : Part) → IsTrue (has what s)
            → IsTrue (is_part_told u H s kinds.Commented what || is_left_untold u H s after kinds.Commented what)
        commented part.n shown = line-or-behind (λ line. eqb n line.n) (λ e. ap (λ b. b || false) (eq-eqb n n refl))
        commented part.text shown =
            line-or-behind (λ line. eqb n line.n && agree bytes_eq (Some text) (Some line.text))
            (λ e i. (eq-eqb n n refl i && same-bytes text i) || false)
        commented part.by shown =
            or_left _ false
            (line-here (λ line. eqb n line.n && agree bytes_eq (name_shown s.by V) line.user)
            (and_parts (discusses u paper H) (knows_writers u H)
            (sym (known-some (discusses u paper H && knows_writers u H) stamp.maker) ∙ shown)).0
            (ap (λ o. (eqb n n && agree bytes_eq (name_shown o V) (name_shown o V)) || false)
            (known _ stamp.maker shown)
            ∙ (λ i. (eq-eqb n n refl i && name-is u H stamp.maker registered i) || false)))
        commented part.ordinal shown = pick _ _ _ _ unnamed
          where
            o : ℕ
            o = unwrap_or ordinal 0

            pick : (a l b c : Bool) → (b ≡ false → c ≡ false → (a || l) ≡ true) → (a || (l || b || c)) ≡ true
            pick a l true c h = or_right a ((l || true) || c) (or_left (l || true) c (or_right l true refl))
            pick a l false true h = or_right a ((l || false) || true) (or_right (l || false) true refl)
            pick a l false false h = ap (λ b. a || b) (both l) ∙ h refl refl
              where
                both : (l : Bool) → ((l || false) || false) ≡ l
                both true = refl
                both false = refl

            labelled : is_some s.by ≡ false → is_number s.ordinal 0 ≡ false → label_shown s.ordinal ≡ Some o
            labelled unnamed label =
                ap label_shown (known _ o shown) ∙ ap (λ b. if b then None else Some o)
                (sym (ap (λ x. is_number x 0) (known _ o shown)) ∙ label)

            unnamed : is_some s.by ≡ false → is_number s.ordinal 0 ≡ false
                → (lists (comments_given u H s) (λ line. eqb n line.n && agree nat_eq s.ordinal line.label)
                || (is_number u stamp.maker && not (is_eligible u paper H))) ≡ true
            unnamed none label =
                line-or-behind (λ line. eqb n line.n && agree nat_eq s.ordinal line.label)
                (λ e.
                ap (λ b. (eqb n n && agree nat_eq s.ordinal (if b then None else label_shown s.ordinal)) || false) none
                ∙ (λ i. (eq-eqb n n refl i && agree nat_eq (known _ o shown i) (labelled none label i)) || false)
                ∙ ap (λ b. b || false) (eq-eqb o o refl))
        commented part.at shown = known-own (is_number u stamp.maker) stamp.at shown
        commented part.key shown = known-own (is_number u stamp.maker) stamp.key shown
        commented _ shown = absurd (true≢false (sym shown))

    module _ (paper : ℕ) (text : List ℕ) (there : IsSubmitted H paper)
        (wrote : (not (is_number u stamp.maker) || is_author u paper H) ≡ true)
        (once : response_of paper H ≡ Some text)
        (told : is_told u H earlier later stamp.maker (Responded paper text) ≡ true)
      where
        abbrev r : Sighting
        r = shown_to u H earlier later stamp (Responded paper text)

        may : (is_author u paper H || discusses u paper H) ≡ true
        may = by (is_number u stamp.maker) (is_author u paper H) (discusses u paper H) told wrote
          where
            by : (m a d : Bool) → ((m || a) || d) ≡ true → (not m || a) ≡ true → (a || d) ≡ true
            by m a d told own = grind (arith, told, own)

        responded : (what : Part) → IsTrue (has what r)
            → IsTrue (is_part_told u H r kinds.Responded what || is_left_untold u H r after kinds.Responded what)
        responded part.text shown =
            or_left _ false
            (ap (agree bytes_eq (Some text)) (response_answer u paper H legal there
            ∙ (λ i. if may i then once i else None)) ∙ same-bytes text)
        responded part.at shown = known-own (is_number u stamp.maker) stamp.at shown
        responded part.key shown = known-own (is_number u stamp.maker) stamp.key shown
        responded _ shown = absurd (true≢false (sym shown))

    module _ (paper : ℕ) (decision : Decision) (there : IsSubmitted H paper)
        (begun : is_from Discussion (phase_of H) ≡ true)
        (whole : earlier ++ stamped stamp more (Decided paper decision) ∷ later ≡ H)
        (told : is_told u H earlier later stamp.maker (Decided paper decision) ≡ true)
        (is : view u H ≡ before ++ shown_to u H earlier later stamp (Decided paper decision) ∷ after)
      where
        abbrev d : Sighting
        d = shown_to u H earlier later stamp (Decided paper decision)

        key-there : (discusses u paper H || is_notified u paper H || is_in_programme paper H) ≡ true
            → has_key (λ page. page.decision) u paper H ≡ true
        key-there h = decision-key u H legal paper there ∙ h

        decided : (what : Part) → IsTrue (has what d)
            → IsTrue (is_part_told u H d kinds.Decided what || is_left_untold u H d after kinds.Decided what)
        decided part.outcome shown =
            or_left _ false
            (key-there
            (by (discusses u paper H) (not (is_decided_again paper later)) (is_notified u paper H)
            (is_in_programme paper H)
            (sym (known-some (learns_outcome u H later paper) true) ∙ shown)))
          where
            by : (d x n g : Bool) → (x && n) ≡ true → (d || n || g) ≡ true
            by d x n g h = grind (arith, h)
        decided part.accepted shown =
            or_left _ false
            (any-made paper (λ p. is_accepted_in_view p V) (accepted_paper (facts_in_view u V) (shown_in_view u V))
            (λ a. eqb paper a.paper) (λ p. refl)
            (accepted-seen u paper H ∙ programme u paper H there order
            ∙ (and_parts (not (is_decided_again paper later)) (is_in_programme paper H) announced).1)
            (papers_in_view V) (ap (λ papers. list_any (λ q. q == paper) papers) (papers-seen u H) ∙ there))
          where
            announced : is_announced H later paper ≡ true
            announced = sym (known-some (is_announced H later paper) true) ∙ shown
        decided part.decision shown = by (discusses u paper H || is_notified u paper H || is_in_programme paper H) refl
            (is_in_programme paper H) refl
          where
            told-so : (is_number u stamp.maker || discusses u paper H
                || (not (is_decided_again paper later) && is_notified u paper H)) ≡ true
            told-so = sym (known-some (reads_decision u H stamp.maker paper || learns_outcome u H later paper) decision)
                ∙ shown

            again : Bool
            again = not (is_nothing (shown_on paper (λ (t : Sighting). t.decision) after))

            other : Bool
            other = is_shown_accepted paper V && not (is_some (where_known (is_announced H later paper) true))

            left : Bool
            left = is_number u stamp.maker && not (is_eligible u paper H)

            behind : (m h p x n g : Bool) → (m || (h && p) || (x && n)) ≡ true → p ≡ true → ((h && p) || n || g) ≡ false
                → (m && not h) ≡ true
            behind m h p x n g told hp none = grind (arith, told, hp, none)

            third : (a b c d : Bool) → d ≡ true → (a || (b || c || d)) ≡ true
            third a b c d h = grind (arith, h)

            second : (a b c d : Bool) → c ≡ true → (a || (b || c || d)) ≡ true
            second a b c d h = grind (arith, h)

            first : (a b c d : Bool) → (a || b) ≡ true → (a || (b || c || d)) ≡ true
            first a b c d h = grind (arith, h)

            accepted-is : is_shown_accepted paper V ≡ is_in_programme paper H
            accepted-is = sym (reads.accepted u paper H) ∙ accepted-seen u paper H ∙ programme u paper H there order

            -- the key, where it is there
            key-is : (acc : Bool) → is_in_programme paper H ≡ acc
                → (discusses u paper H || is_notified u paper H || is_in_programme paper H) ≡ true
                → option_and_then (λ decision. decision) (page_told (λ page. page.decision) u paper H)
                ≡ (if acc then Some Accept else last (shown_on paper (λ (s : Sighting). s.decision) V))
            key-is acc e there' =
                ap (option_and_then (λ decision. decision))
                ((pages_told u paper H legal there).decision
                ∙ (λ i. where_known (discusses u paper H || is_notified u paper H || accepted-is i)
                (if (accepted-is ∙ e) i then Some Accept else last (shown_on paper (λ (s : Sighting). s.decision) V)))
                ∙ ap
                (λ b. where_known b (if acc then Some Accept else last
                (shown_on paper (λ (s : Sighting). s.decision) V))) there')

            -- the decision that is announced is to accept the paper
            accepts : is_announced H later paper ≡ true → same_decision decision Accept ≡ true
            accepts announced =
                taken decision (ap takes (sym last-decision) ∙ in-programme (takes (decision_of paper H))
                (not (is_withdrawn paper H)) (is_past_discussion (phase_of H)) parts.1)
              where
                parts : (not (is_decided_again paper later) ≡ true) × (is_in_programme paper H ≡ true)
                parts = and_parts (not (is_decided_again paper later)) (is_in_programme paper H) announced

                in-programme : (t w n : Bool) → (t && w && n) ≡ true → t ≡ true
                in-programme t w n h = grind (arith, h)

                taken : (d : Decision) → takes (Some d) ≡ true → same_decision d Accept ≡ true
                taken Accept h = refl
                taken Reject h = absurd (true≢false (sym h))

                last-decision : decision_of paper H ≡ Some decision
                last-decision =
                    ap (decision_of paper) (sym whole)
                    ∙ last-here (λ (e : Stamped). decision_told paper e.entry) earlier later
                    (stamped stamp more (Decided paper decision)) decision
                    (ap (λ b. given b decision) (eq-eqb paper paper refl))
                    (none-decided paper later (not-true (is_decided_again paper later) parts.0))

            by : (there' : Bool) → (discusses u paper H || is_notified u paper H || is_in_programme paper H) ≡ there'
                → (acc : Bool) → is_in_programme paper H ≡ acc
                →
                (agree same_decision d.decision (option_and_then (λ decision. decision)
                (page_told (λ page. page.decision) u paper H)) || (again || other || left)) ≡ true
            by false h acc e =
                third _ again other left
                (behind (is_number u stamp.maker) (is_eligible u paper H) (is_past_reviewing (phase_of H))
                (not (is_decided_again paper later)) (is_notified u paper H) (is_in_programme paper H)
                told-so (sym (phase-words (phase_of H)).discussion ∙ begun) h)
            by true h false e =
                first _ again other left
                (ap
                (λ o. agree same_decision o (option_and_then (λ decision. decision)
                (page_told (λ page. page.decision) u paper H)) || again) (known _ decision shown)
                ∙ last-told same_decision (λ (s : Sighting). only (is_number s.paper paper) (listed s.decision)) before
                after d decision
                (eq-eqb (decision_number decision) (decision_number decision) refl)
                (ap (λ o. only (eqb paper paper) (listed o)) (known _ decision shown)
                ∙ ap (λ b. only b (decision ∷ [])) (eq-eqb paper paper refl))
                (option_and_then (λ decision. decision) (page_told (λ page. page.decision) u paper H))
                (key-is false e h ∙ ap (λ (W : View). last (shown_on paper (λ (s : Sighting). s.decision) W)) is))
            by true h true e = marked (is_announced H later paper) refl
              where
                marked : (b : Bool) → is_announced H later paper ≡ b
                    →
                    (agree same_decision d.decision (option_and_then (λ decision. decision)
                    (page_told (λ page. page.decision) u paper H)) || (again || other || left)) ≡ true
                marked true announced =
                    or_left _ (again || other || left)
                    ((λ i. agree same_decision
                    (known (reads_decision u H stamp.maker paper || learns_outcome u H later paper) decision shown
                    i) (key-is true e h i)) ∙ accepts announced)
                marked false unmarked =
                    second _ again other left
                    ((λ i. (accepted-is ∙ e) i && not (is_some (where_known (unmarked i) true))))
        decided part.at shown = known-own (is_number u stamp.maker) stamp.at shown
        decided part.key shown = known-own (is_number u stamp.maker) stamp.key shown
        decided _ shown = absurd (true≢false (sym shown))

pub commented-all : AllOf kinds.Commented
commented-all = all-of kinds.Commented each
  where
    each : Each kinds.Commented
    each u H legal before after what earlier later stamp more (Commented paper n ordinal text) whole known told is kind
        shown =
        commented u H legal before after earlier later stamp more paper n ordinal text known.there.0 known.there.1
        known.settled.1 told is what shown
    each u H legal before after what earlier later stamp more e whole known told is kind shown =
        absurd (true≢false (sym kind))

pub responded-all : AllOf kinds.Responded
responded-all = all-of kinds.Responded each
  where
    each : Each kinds.Responded
    each u H legal before after what earlier later stamp more (Responded paper text) whole known told is kind shown =
        responded u H legal before after earlier later stamp more paper text known.settled.0
        (own-so (λ v. is_author v paper H) u stamp.maker known.settled.1)
        (responded-once H (legal_invariants H legal).fits earlier later stamp more paper text whole) told what shown
    each u H legal before after what earlier later stamp more e whole known told is kind shown =
        absurd (true≢false (sym kind))

pub decided-all : AllOf kinds.Decided
decided-all = all-of kinds.Decided each
  where
    each : Each kinds.Decided
    each u H legal before after what earlier later stamp more (Decided paper decision) whole known told is kind shown =
        decided u H legal before after earlier later stamp more paper decision known.settled.0 known.settled.1 whole
        told is what shown
    each u H legal before after what earlier later stamp more e whole known told is kind shown =
        absurd (true≢false (sym kind))
