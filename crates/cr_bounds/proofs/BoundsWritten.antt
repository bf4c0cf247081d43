-- SPDX-License-Identifier: Apache-2.0 OR MIT
-- Of what is written of a paper, its forms, comments and tags, little is shown to its authors, little before the
-- discussion, and little of who wrote it; of a response little to all but authors and those who discuss the paper;
-- and of decisions little to all but these.
use Rattle.std.proofs.Common.{◌≡◌, ℕ, Bool, true, false, List, [], ◌∷◌, ◌++◌, eqb, refl, sym, ap, subst, ◌∙◌, arith}
use Rattle.std.proofs.Common.{◌||◌, ◌&&◌, Option, Some, None}
use Rattle.std.specs.Prelude.{not, All}
use Rattle.std.specs.List.{list_any}
use Rattle.std.proofs.lemmas.Bool.{eqb-true, false≢true, and_parts, and_right, or_from, or_parts, or_right}
use Rattle.std.proofs.lemmas.List.Folds.{list_any-append}
use Rattle.std.proofs.Math.Bool.{or-false}
use Rattle.cr_base.specs.declared.entry.Entry.{Entry}
use Rattle.cr_base.specs.declared.entry.Entry.TheVariants.{Reviewed, Commented, Tagged, Decided, Responded}
use Rattle.cr_base.specs.declared.entry.EntryKind.TheVariants as kinds
use Rattle.cr_base.specs.declared.entry.Stamp.{Stamp}
use Rattle.cr_base.specs.declared.entry.Stamped.{Stamped}
use Rattle.cr_base.specs.Drawn.{stamped}
use Rattle.cr_base.specs.Lists.{is_number, until}
use Rattle.cr_base.specs.History.{History}
use Rattle.cr_base.specs.HistoryFacts.{phase_of, mode_of, role_of, is_author, is_withdrawn, decision_of}
use Rattle.cr_base.proofs.Small.{implied_not}
use Rattle.cr_policy.specs.Sighting.{Sighting, blank}
use Rattle.cr_policy.specs.View.{view}
use Rattle.cr_policy.specs.ViewFacts.{is_kind}
use Rattle.cr_bounds.specs.ShownTo.{begins_response, is_responded_to, is_author_since_response, is_response_or_later}
use Rattle.cr_bounds.specs.ShownTo.{chairs_committee, is_past_reviewing, is_past_discussion, hides_reviewers}
use Rattle.cr_bounds.specs.ShownTo.{has_conflict, serves, is_eligible, oversees, administers, discusses, is_discussed}
use Rattle.cr_bounds.specs.ShownTo.{is_reviewed, is_committees, is_chairs, is_setters, is_told, takes}
use Rattle.cr_bounds.specs.ShownTo.{is_in_programme}
use Rattle.cr_bounds.specs.ShownTo.{is_decided_again, is_announced, where_known}
use Rattle.cr_bounds.specs.ViewBounds.{is_others, is_tag_so, FormsEarly, FormsFromAuthors, CommentsFromAuthors}
use Rattle.cr_bounds.specs.ViewBounds.{ResponsesShown, may_learn_forms, WritersUnnamed, PrivateTagsAreOwn, ChairsTags}
use Rattle.cr_bounds.specs.ViewBounds.{DecisionsEarly, DecisionsUntold}
use Rattle.cr_bounds.proofs.BoundsWords.{phase-words}
use Rattle.cr_bounds.proofs.BoundsWalk.{shown_to, each-view, placed-view}
use Rattle.cr_bounds.proofs.BoundsLeft.{known-not, form-unread, comment-own, tag-own}
use Rattle.cr_bounds.proofs.BoundsSeats.{author-apart}

-- ---- forms

-- a form that isn't her own: `o` is that it is, `h` and `l` that she is eligible for the paper or administers it,
-- `past` and `d` that it is the discussion or the notification, `k` that the form is discussed, `n` and `r` that it
-- is the first and the last of its label, `a` that she is an author of the paper
form-hidden : (o h past k : Bool) → o ≡ false → past ≡ false → (o || ((h && past) && k)) ≡ false
form-hidden o h past k ho hp = grind (arith, ho, hp)

review-hidden : (o h past k heard c a d r : Bool) → o ≡ false → past ≡ false → heard ≡ false → d ≡ false
    → ((o || ((h && past) && k)) || ((heard && c) || ((a && d) && r))) ≡ false
review-hidden o h past k heard c a d r ho hp hh hd = grind (arith, ho, hp, hh, hd)

-- `w` and `c` are that authors respond, and to this form
author-form : (o h past k l n a w c d r : Bool) → o ≡ false → h ≡ false → l ≡ false
    → ((o || ((h && past) && k)) || (l && n) || (((a && w) && c) || ((a && d) && r))) ≡ true → ((w && c) || d) ≡ true
author-form o h past k l n a w c d r ho hh hl told = grind (arith, ho, hh, hl, told)

-- where they do, the response was opened
pub responded-opened : (p o : ℕ) (before later : History) (stamp : Stamp) (more : Bool) (e : Entry) (H : History)
    → before ++ (stamped stamp more e ∷ later) ≡ H → is_responded_to p o before later ≡ true
    → list_any (λ (e : Stamped). begins_response e.entry) H ≡ true
responded-opened p o before later stamp more e H whole h =
    ap (list_any heard) (sym whole)
    ∙ list_any-append heard before (stamped stamp more e ∷ later)
    ∙ or_right (list_any heard before) _ (or_right (begins_response e) (list_any heard later) behind)
  where
    heard : Stamped → Bool
    heard e = begins_response e.entry

    behind : list_any heard later ≡ true
    behind =
        let reviewed : Bool = is_reviewed p o (until heard later) in
        (and_parts (not (list_any heard before)) (list_any heard later)
        (and_parts (not (list_any heard before) && list_any heard later) (not reviewed) h).0).1

-- what is said of another's sighting on the paper
pub other-parts : (same own : Bool) → (same && not own) ≡ true → (same ≡ true) × (own ≡ false)
other-parts true true h = absurd (false≢true h)
other-parts true false h = (refl, refl)
other-parts false own h = absurd (false≢true h)

pub forms-early : FormsEarly
forms-early u p H early unheard = each-view u H IsUnread each
  where
    IsUnread : Sighting → Type 0
    IsUnread s = is_others kinds.Reviewed p s ≡ true
        → s ≡ record (blank kinds.Reviewed) { paper = s.paper; ordinal = s.ordinal; done = s.done }

    silent : is_past_discussion (phase_of H) ≡ false
    silent = sym (phase-words (phase_of H)).notification_later ∙ ap (λ b. b && is_past_discussion (phase_of H)) early

    each : (before later : History) (stamp : Stamp) (e : Entry) → is_told u H before later stamp.maker e ≡ true
        → IsUnread (shown_to u H before later stamp e)
    each before later stamp (Reviewed paper ordinal version form) told = λ other.
        let own : is_number u stamp.maker ≡ false = (other-parts (eqb paper p) (is_number u stamp.maker) other).1 in
        let discussed : Bool = is_discussed paper ordinal before later in
        let unread = form-hidden (is_number u stamp.maker) (is_eligible u paper H) (is_past_reviewing (phase_of H))
        discussed own early in
        let same : paper ≡ p = eqb-true paper p (other-parts (eqb paper p) (is_number u stamp.maker) other).0 in
        let unlearnt = review-hidden (is_number u stamp.maker) (is_eligible u paper H) (is_past_reviewing (phase_of H))
        discussed (is_author_since_response u paper H)
        (is_responded_to paper ordinal before later) (is_author u paper H) (is_past_discussion (phase_of H))
        (not (is_reviewed paper ordinal later)) own early
        (ap (λ n. is_author_since_response u n H) same ∙ unheard) silent in
        λ i. record (shown_to u H before later stamp (Reviewed paper ordinal version form)) {
          mine = own i;
          at = where_known (own i) stamp.at;
          key = where_known (own i) stamp.key;
          version = known-not _ version unread i;
          score = known-not _ form.score unlearnt i;
          confidence = known-not _ form.confidence unlearnt i;
          to_authors = known-not _ form.to_authors unlearnt i;
          to_pc = known-not _ form.to_pc unread i;
        }
    each before later stamp e told = λ other. absurd (false≢true other)

-- who neither administers the paper nor is eligible for it
module _ (u : Option ℕ) (p : ℕ) (H : History) (apart : administers u p H ≡ false)
    (unhandled : is_eligible u p H ≡ false) where
  handled-at : (paper : ℕ) → eqb paper p ≡ true → is_eligible u paper H ≡ false
  handled-at paper same = ap (λ n. is_eligible u n H) (eqb-true paper p same) ∙ unhandled

  led-at : (paper : ℕ) → eqb paper p ≡ true → administers u paper H ≡ false
  led-at paper same = ap (λ n. administers u n H) (eqb-true paper p same) ∙ apart

  abbrev IsForAuthors : Sighting → Type 0
  IsForAuthors s = is_others kinds.Reviewed p s ≡ true → (may_learn_forms H ≡ true) × (s.to_pc ≡ None)

  forms-for-authors : All IsForAuthors (view u H)
  forms-for-authors = placed-view u H IsForAuthors each
    where
      learns : (w c d begun : Bool) → (c ≡ true → begun ≡ true) → ((w && c) || d) ≡ true → (d || (w && begun)) ≡ true
      learns w true d begun h k = by (h refl)
        where
          by : begun ≡ true → (d || (w && begun)) ≡ true
          by hb = grind (arith, hb, k)
      learns w false d begun h k = grind (arith, k)

      each : (before later : History) (stamp : Stamp) (more : Bool) (e : Entry)
          → before ++ (stamped stamp more e ∷ later) ≡ H
          → is_told u H before later stamp.maker e ≡ true → IsForAuthors (shown_to u H before later stamp e)
      each before later stamp more (Reviewed paper ordinal version form) whole told = λ other.
          let parts = other-parts (eqb paper p) (is_number u stamp.maker) other in
          let discussed : Bool = is_discussed paper ordinal before later in (
            learns (is_response_or_later (phase_of H)) (is_responded_to paper ordinal before later)
                (is_past_discussion (phase_of H)) _
                (responded-opened paper ordinal before later stamp more (Reviewed paper ordinal version form) H whole)
                (author-form (is_number u stamp.maker) (is_eligible u paper H) (is_past_reviewing (phase_of H))
                discussed (administers u paper H)
                (not (is_reviewed paper ordinal before)) (is_author u paper H) (is_response_or_later (phase_of H))
                (is_responded_to paper ordinal before later)
                (is_past_discussion (phase_of H)) (not (is_reviewed paper ordinal later)) parts.1
                (handled-at paper parts.0) (led-at paper parts.0) told),
            known-not _ form.to_pc
                (or_from (is_number u stamp.maker) _ parts.1
                (form-unread (is_eligible u paper H) (is_past_reviewing (phase_of H)) discussed
                (handled-at paper parts.0))),
          )
      each before later stamp more e whole told = λ other. absurd (false≢true other)

  -- ---- comments and tags

  abbrev is_of_others : Sighting → Bool
  is_of_others s = is_others kinds.Commented p s || is_others kinds.Tagged p s

  none-of-others : All (λ (s : Sighting). is_of_others s ≡ false) (view u H)
  none-of-others = each-view u H (λ (s : Sighting). is_of_others s ≡ false) each
    where
      each : (before later : History) (stamp : Stamp) (e : Entry) → is_told u H before later stamp.maker e ≡ true
          → is_of_others (shown_to u H before later stamp e) ≡ false
      each before later stamp (Commented paper n ordinal text) told =
          or-false _
          ∙ implied_not (eqb paper p) (is_number u stamp.maker)
          (λ same. comment-own (is_number u stamp.maker) (is_eligible u paper H) (is_past_reviewing (phase_of H))
          (handled-at paper same) told)
      each before later stamp (Tagged paper tag on) told =
          implied_not (eqb paper p) (is_number u stamp.maker)
          (λ same. tag-own (is_number u stamp.maker) (is_committees tag) (is_chairs tag) (is_eligible u paper H)
          (chairs_committee (role_of u H))
          (handled-at paper same) told)
      each before later stamp e told = refl

pub forms-from-authors : FormsFromAuthors
forms-from-authors u p H wrote =
    let apart = author-apart u p H wrote in
    forms-for-authors u p H apart.0 apart.1

pub comments-from-authors : CommentsFromAuthors
comments-from-authors u p H wrote =
    let apart = author-apart u p H wrote in
    none-of-others u p H apart.0 apart.1

-- ---- responses

pub responses-shown : ResponsesShown
responses-shown u p H = each-view u H IsTheirs each
  where
    IsTheirs : Sighting → Type 0
    IsTheirs s =
        (is_kind kinds.Responded s && is_number s.paper p) ≡ true
        → ((s.mine || is_author u p H || discusses u p H) ≡ true) × (s.by ≡ None)

    each : (before later : History) (stamp : Stamp) (e : Entry) → is_told u H before later stamp.maker e ≡ true
        → IsTheirs (shown_to u H before later stamp e)
    each before later stamp (Responded paper text) told = λ on_it. (
      subst (λ n. (is_number u stamp.maker || is_author u n H || discusses u n H) ≡ true) (eqb-true paper p on_it) told,
      refl,
    )
    each before later stamp e told = λ on_it. absurd (false≢true on_it)

pub writers-unnamed : WritersUnnamed
writers-unnamed u p H apart hides =
    each-view u H (λ (s : Sighting). (is_kind kinds.Commented s && is_number s.paper p) ≡ true → s.by ≡ None) each
  where
    unnamed : (s c past lead hide : Bool) → (lead && c) ≡ false → hide ≡ true
        → (((s && c) && past) && (lead || not hide)) ≡ false
    unnamed s c past lead hide hl hh = grind (arith, hl, hh)

    each : (before later : History) (stamp : Stamp) (e : Entry) → is_told u H before later stamp.maker e ≡ true
        → (is_kind kinds.Commented (shown_to u H before later stamp e)
        && is_number (shown_to u H before later stamp e).paper p) ≡ true
        → (shown_to u H before later stamp e).by ≡ None
    each before later stamp (Commented paper n ordinal text) told on_it =
        known-not _ stamp.maker
        (unnamed (serves u H) (not (has_conflict u paper H)) (is_past_reviewing (phase_of H))
        (chairs_committee (role_of u H)) (hides_reviewers (mode_of H))
        (ap (λ n. administers u n H) (eqb-true paper p on_it) ∙ apart) hides)
    each before later stamp e told on_it = absurd (false≢true on_it)

-- a tag that she is told of: `m` and `c` are that it is the committee's or the chairs', `h` and `o` that she is
-- eligible for or oversees the paper
pub private-tags : PrivateTagsAreOwn
private-tags u p H =
    each-view u H (λ (s : Sighting). (is_others kinds.Tagged p s && is_tag_so is_setters s.tag) ≡ false) each
  where
    none : (same own m c h o : Bool) → (own || ((m && h) || (c && o))) ≡ true
        → ((same && not own) && (not m && not c)) ≡ false
    none same own m c h o told = grind (arith, told)

    each : (before later : History) (stamp : Stamp) (e : Entry) → is_told u H before later stamp.maker e ≡ true
        → (is_others kinds.Tagged p (shown_to u H before later stamp e)
        && is_tag_so is_setters (shown_to u H before later stamp e).tag) ≡ false
    each before later stamp (Tagged paper tag on) told =
        none (eqb paper p) (is_number u stamp.maker) (is_committees tag) (is_chairs tag) (is_eligible u paper H)
        (oversees u paper H) told
    each before later stamp e told = refl

pub chairs-tags : ChairsTags
chairs-tags u p H apart =
    each-view u H (λ (s : Sighting). (is_others kinds.Tagged p s && is_tag_so is_chairs s.tag) ≡ false) each
  where
    -- such a tag isn't the committee's besides
    none : (same own m c h o : Bool) → (c ≡ true → m ≡ false) → (same ≡ true → o ≡ false)
        → (own || ((m && h) || (c && o))) ≡ true
        → ((same && not own) && c) ≡ false
    none true own m true h o apart out told = by (apart refl) (out refl)
      where
        by : m ≡ false → o ≡ false → ((true && not own) && true) ≡ false
        by hm ho = grind (arith, hm, ho, told)
    none true own m false h o apart out told = and_right (not own) false refl
    none false own m c h o apart out told = refl

    chairs-apart : (tag : List ℕ) → is_chairs tag ≡ true → is_committees tag ≡ false
    chairs-apart [] h = absurd (false≢true h)
    chairs-apart (a ∷ []) h = absurd (false≢true h)
    chairs-apart (a ∷ b ∷ tag) h = ap not (and_parts (eqb a 126) (eqb b 126) h).0

    each : (before later : History) (stamp : Stamp) (e : Entry) → is_told u H before later stamp.maker e ≡ true
        → (is_others kinds.Tagged p (shown_to u H before later stamp e)
        && is_tag_so is_chairs (shown_to u H before later stamp e).tag) ≡ false
    each before later stamp (Tagged paper tag on) told =
        none (eqb paper p) (is_number u stamp.maker) (is_committees tag) (is_chairs tag) (is_eligible u paper H)
        (oversees u paper H)
        (chairs-apart tag) (λ same. ap (λ n. oversees u n H) (eqb-true paper p same) ∙ apart) told
    each before later stamp e told = refl

-- ---- decisions

-- a decision that she is told of: `o` is that it is her own, `x` that she discusses the paper, `n` that it is the
-- last, `a` that she is an author of the paper, `t` that the conference takes it and it isn't withdrawn, `d` that it
-- is the notification or later
pub decisions-early : DecisionsEarly
decisions-early u p H apart early =
    each-view u H (λ (s : Sighting). is_others kinds.Decided p s ≡ false) each
  where
    untold : (o x n a t d : Bool) → x ≡ false → d ≡ false → ((o || x) || (n && (a && d)) || (n && (t && d))) ≡ true
        → o ≡ true
    untold o x n a t d hx hd told = grind (arith, hx, hd, told)

    each : (before later : History) (stamp : Stamp) (e : Entry) → is_told u H before later stamp.maker e ≡ true
        → is_others kinds.Decided p (shown_to u H before later stamp e) ≡ false
    each before later stamp (Decided paper decision) told =
        implied_not (eqb paper p) (is_number u stamp.maker)
        (λ same. untold (is_number u stamp.maker) (discusses u paper H) (not (is_decided_again paper later))
        (is_author u paper H)
        (takes (decision_of paper H) && not (is_withdrawn paper H)) (is_past_discussion (phase_of H))
        (ap (λ n. discusses u n H) (eqb-true paper p same) ∙ apart) early told)
    each before later stamp e told = refl

pub decisions-untold : DecisionsUntold
decisions-untold u p H apart = each-view u H IsUntold each
  where
    IsUntold : Sighting → Type 0
    IsUntold s =
        is_others kinds.Decided p s ≡ true
        → (is_in_programme p H ≡ true) × (s ≡ record (blank kinds.Decided) { paper = Some p; accepted = Some true })

    announced : (o x n a d t : Bool) → o ≡ false → x ≡ false → a ≡ false
        → ((o || x) || (n && (a && d)) || (n && t)) ≡ true → (n && t) ≡ true
    announced o x n a d t ho hx ha told = grind (arith, ho, hx, ha, told)

    unread : (o x n a d : Bool) → o ≡ false → x ≡ false → a ≡ false → ((o || x) || (n && (a && d))) ≡ false
    unread o x n a d ho hx ha = grind (arith, ho, hx, ha)

    unlearnt : (n a d : Bool) → a ≡ false → (n && (a && d)) ≡ false
    unlearnt n a d ha = grind (arith, ha)

    each : (before later : History) (stamp : Stamp) (e : Entry) → is_told u H before later stamp.maker e ≡ true
        → IsUntold (shown_to u H before later stamp e)
    each before later stamp (Decided paper decision) told = λ other.
        let parts = other-parts (eqb paper p) (is_number u stamp.maker) other in
        let same : paper ≡ p = eqb-true paper p parts.0 in
        let either = or_parts (is_author u p H) (discusses u p H) apart in
        let wrote = ap (λ n. is_author u n H) same ∙ either.0 in
        let silent = ap (λ n. discusses u n H) same ∙ either.1 in
        let last : Bool = not (is_decided_again paper later) in
        let seen : is_announced H later paper ≡ true =
        announced (is_number u stamp.maker) (discusses u paper H) last (is_author u paper H)
        (is_past_discussion (phase_of H)) (is_in_programme paper H)
        parts.1 silent wrote told in (
          ap (λ n. is_in_programme n H) (sym same) ∙ (and_parts last (is_in_programme paper H) seen).1,
          λ i. record (shown_to u H before later stamp (Decided paper decision)) {
            mine = parts.1 i;
            at = where_known (parts.1 i) stamp.at;
            key = where_known (parts.1 i) stamp.key;
            paper = Some (same i);
            decision = known-not _ decision
                (unread (is_number u stamp.maker) (discusses u paper H) last (is_author u paper H)
                (is_past_discussion (phase_of H)) parts.1 silent wrote) i;
            outcome = known-not _ true (unlearnt last (is_author u paper H) (is_past_discussion (phase_of H)) wrote) i;
            accepted = where_known (seen i) true;
          },
        )
    each before later stamp e told = λ other. absurd (false≢true other)
