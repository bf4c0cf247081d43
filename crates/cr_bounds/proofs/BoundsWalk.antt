-- SPDX-License-Identifier: Apache-2.0 OR MIT
-- A view is what the bounds give of the entries, one after another.
use Rattle.std.proofs.Common.{◌≡◌, ℕ, Bool, true, false, [], ◌∷◌, ◌++◌, eqb, refl, sym, ap, ◌∙◌, ◌||◌, append_assoc}
use Rattle.std.proofs.Common.{List, Option}
use Rattle.std.specs.Prelude.{map, All}
use Rattle.std.specs.List.{list_any, AllByRecursion}
use Rattle.std.proofs.lemmas.Bool.{eq-eqb}
use Rattle.std.proofs.lemmas.List.{map-append}
use Rattle.std.proofs.lemmas.List.Concat.{flat_map-append}
use Rattle.std.proofs.lemmas.List.Elements.{All-nil, All-cons, All-append, All-same}
use Rattle.std.proofs.lemmas.List.Folds.{list_any-append}
use Rattle.std.proofs.Math.Bool.{or-true}
use Rattle.cr_base.specs.declared.entry.Entry.{Entry}
use Rattle.cr_base.specs.declared.entry.Entry.TheVariants.{Submitted, Reviewed}
use Rattle.cr_base.specs.declared.entry.Stamp.{Stamp}
use Rattle.cr_base.specs.declared.entry.Stamped.{Stamped}
use Rattle.cr_base.specs.Lists.{given, is_number}
use Rattle.cr_base.specs.Drawn.{stamped}
use Rattle.cr_base.specs.History.{History, author_told, opens_response}
use Rattle.cr_base.specs.HistoryFacts.{authors_of, is_author}
use Rattle.cr_policy.specs.Sighting.{Sighting}
use Rattle.cr_policy.specs.Triggers.{reader, Around}
use Rattle.cr_policy.specs.View.{sight, sights, view, is_seen, joined}
use Rattle.cr_bounds.specs.ShownTo.{PartFor, is_told, each_told, kind_for, mark_for, moment_for, key_for, paper_for}
use Rattle.cr_bounds.specs.ShownTo.{user_for, name_for, digest_for, role_for, phase_for, until_for, mode_for}
use Rattle.cr_bounds.specs.ShownTo.{maker_for}
use Rattle.cr_bounds.specs.ShownTo.{title_for, abstract_for, version_for, content_for, switch_for, value_for}
use Rattle.cr_bounds.specs.ShownTo.{review_kind_for, ordinal_for, score_for, confidence_for, to_authors_for}
use Rattle.cr_bounds.specs.ShownTo.{to_pc_for}
use Rattle.cr_bounds.specs.ShownTo.{done_for, n_for, text_for, tag_for, decision_for, outcome_for, accepted_for}
use Rattle.cr_bounds.specs.ViewBounds.{EntriesShown, MarksShown, MomentsShown, KeysShown, PapersShown, UsersShown}
use Rattle.cr_bounds.specs.ViewBounds.{NamesShown, DigestsShown, RolesShown, PhasesShown, DeadlinesShown, ModesShown}
use Rattle.cr_bounds.specs.ViewBounds.{MakersShown, TitlesShown, AbstractsShown, VersionsShown, ContentsShown}
use Rattle.cr_bounds.specs.ViewBounds.{SwitchesShown, ValuesShown, SeatsShown, OrdinalsShown, ScoresShown}
use Rattle.cr_bounds.specs.ViewBounds.{ConfidencesShown, TextsToAuthorsShown, TextsToPcShown, DoneShown, NumbersShown}
use Rattle.cr_bounds.specs.ViewBounds.{CommentsShown, TagsShown, DecisionsShown, OutcomesShown, AcceptedShown}
use Rattle.cr_bounds.proofs.BoundsParts.{IsWriters, IsWithin, seen-told, shown-one, mark-one, moment-one, key-one}
use Rattle.cr_bounds.proofs.BoundsParts.{user-one, digest-one, maker-one, title-one, abstract-one, version-one}
use Rattle.cr_bounds.proofs.BoundsParts.{content-one, switch-one, value-one, seat-one, ordinal-one, score-one}
use Rattle.cr_bounds.proofs.BoundsParts.{confidence-one, to_authors-one, to_pc-one, done-one, n-one, comment-one}
use Rattle.cr_bounds.proofs.BoundsParts.{tag-one, decision-one, outcome-one, accepted-one}

-- ---- one entry

-- all its parts
abbrev pub shown_to : PartFor Sighting
shown_to u H before later stamp e = record {
  kind = kind_for u H before later stamp e;
  mine = mark_for u H before later stamp e;
  paper = paper_for u H before later stamp e;
  user = user_for u H before later stamp e;
  name = name_for u H before later stamp e;
  digest = digest_for u H before later stamp e;
  role = role_for u H before later stamp e;
  phase = phase_for u H before later stamp e;
  mode = mode_for u H before later stamp e;
  by = maker_for u H before later stamp e;
  title = title_for u H before later stamp e;
  abstract = abstract_for u H before later stamp e;
  version = version_for u H before later stamp e;
  content = content_for u H before later stamp e;
  on = switch_for u H before later stamp e;
  value = value_for u H before later stamp e;
  review_kind = review_kind_for u H before later stamp e;
  ordinal = ordinal_for u H before later stamp e;
  score = score_for u H before later stamp e;
  confidence = confidence_for u H before later stamp e;
  to_authors = to_authors_for u H before later stamp e;
  to_pc = to_pc_for u H before later stamp e;
  done = done_for u H before later stamp e;
  n = n_for u H before later stamp e;
  text = text_for u H before later stamp e;
  tag = tag_for u H before later stamp e;
  decision = decision_for u H before later stamp e;
  outcome = outcome_for u H before later stamp e;
  accepted = accepted_for u H before later stamp e;
  at = moment_for u H before later stamp e;
  key = key_for u H before later stamp e;
  until = until_for u H before later stamp e;
}

module _ (u : Option ℕ) (H : History) where
  given-same : {A : Type 0} (b c : Bool) (x y : A) → b ≡ c → (c ≡ true → x ≡ y) → given b x ≡ given c y
  given-same {A} b c x y same h = ap (λ b. given b x) same ∙ by c h
    where
      by : (c : Bool) → (c ≡ true → x ≡ y) → given c x ≡ given c y
      by true h = ap (λ (x : A). x ∷ []) (h refl)
      by false h = refl

  joined-one : (at : Around) (stamp : Stamp) (more : Bool) (e : Entry) → IsWriters u H stamp.maker e
      → is_told u H at.before at.after stamp.maker e ≡ true
      → IsWithin H at e → joined (reader u H) at (stamped stamp more e) ≡ shown_to u H at.before at.after stamp e
  joined-one at stamp more e writes told within = λ i. record {
    kind = (shown-one u H at stamp more e).kind i;
    mine = mark-one u H at stamp more e i;
    paper = (shown-one u H at stamp more e).paper i;
    user = user-one u H at stamp more e told i;
    name = (shown-one u H at stamp more e).name i;
    digest = digest-one u H at stamp more e i;
    role = (shown-one u H at stamp more e).role i;
    phase = (shown-one u H at stamp more e).phase i;
    mode = (shown-one u H at stamp more e).mode i;
    by = maker-one u H at stamp more e i;
    title = title-one u H at stamp more e writes i;
    abstract = abstract-one u H at stamp more e writes i;
    version = version-one u H at stamp more e i;
    content = content-one u H at stamp more e i;
    on = switch-one u H at stamp more e told i;
    value = value-one u H at stamp more e told i;
    review_kind = seat-one u H at stamp more e i;
    ordinal = ordinal-one u H at stamp more e within told i;
    score = score-one u H at stamp more e within i;
    confidence = confidence-one u H at stamp more e within i;
    to_authors = to_authors-one u H at stamp more e within i;
    to_pc = to_pc-one u H at stamp more e i;
    done = done-one u H at stamp more e i;
    n = n-one u H at stamp more e told i;
    text = comment-one u H at stamp more e told i;
    tag = tag-one u H at stamp more e told i;
    decision = decision-one u H at stamp more e i;
    outcome = outcome-one u H at stamp more e i;
    accepted = accepted-one u H at stamp more e i;
    at = moment-one u H at stamp more e i;
    key = key-one u H at stamp more e i;
    until = (shown-one u H at stamp more e).until i;
  }

  sight-one : (at : Around) (stamp : Stamp) (more : Bool) (e : Entry) → IsWriters u H stamp.maker e → IsWithin H at e
      → sight (reader u H) at (stamped stamp more e)
      ≡ given (is_told u H at.before at.after stamp.maker e) (shown_to u H at.before at.after stamp e)
  sight-one at stamp more e writes within =
      given-same (is_seen (reader u H) at (stamped stamp more e)) (is_told u H at.before at.after stamp.maker e)
      (joined (reader u H) at (stamped stamp more e)) (shown_to u H at.before at.after stamp e)
      (seen-told u H at stamp more e within) (λ told. joined-one at stamp more e writes told within)

  -- ---- the entries of a history

  -- each of them makes a paper of which its stamp.maker is an author
  writes-one : (before : History) (stamp : Stamp) (more : Bool) (e : Entry) (after : History)
      → before ++ (stamped stamp more e ∷ after) ≡ H → IsWriters u H stamp.maker e
  writes-one before stamp more (Submitted paper title abstract) after whole = λ own.
      ap (is_author u paper) (sym whole)
      ∙ ap (list_any (is_number u))
      (flat_map-append (λ (e : Stamped). author_told paper e.stamp.maker e.entry) before
      (stamped stamp more (Submitted paper title abstract) ∷ after))
      ∙ list_any-append (is_number u) (authors_of paper before)
      (given (eqb paper paper) stamp.maker ++ authors_of paper after)
      ∙ ap (λ b. list_any (is_number u) (authors_of paper before) || list_any (is_number u)
      (given b stamp.maker ++ authors_of paper after)) (eq-eqb paper paper refl)
      ∙ ap (λ b. list_any (is_number u) (authors_of paper before)
      || (b || list_any (is_number u) (authors_of paper after))) own
      ∙ or-true (list_any (is_number u) (authors_of paper before))
  writes-one before stamp more e after whole = tt

  -- and all of the history but the entry stands around it
  pub within-one : (before : History) (stamp : Stamp) (more : Bool) (e : Entry) (after : History)
      → before ++ (stamped stamp more e ∷ after) ≡ H
      → IsWithin H (record { before = before; after = after }) e
  within-one before stamp more (Reviewed paper ordinal version form) after whole =
      ap (list_any opens_response) (sym whole)
      ∙ list_any-append opens_response before (stamped stamp more (Reviewed paper ordinal version form) ∷ after)
  within-one before stamp more e after whole = tt

  abbrev pub Writes : Stamped → Type 0
  Writes e = IsWriters u H e.stamp.maker e.entry

  writes-all : (before after : History) → before ++ after ≡ H → AllByRecursion Writes after
  writes-all before [] whole = tt
  writes-all before (e ∷ after) whole = (
    writes-one before e.stamp e.more e.entry after whole,
    writes-all (before ++ e ∷ []) after (append_assoc before (e ∷ []) after ∙ whole),
  )

  pub writers-all : AllByRecursion Writes H
  writers-all = writes-all [] H refl

  pub sights-told : (before after : History) → before ++ after ≡ H
      → sights (reader u H) before after ≡ each_told u H (shown_to u H) before after
  sights-told before [] whole = refl
  sights-told before (e ∷ after) whole =
      ap (λ xs. xs ++ sights (reader u H) (before ++ e ∷ []) after)
      (sight-one (record { before = before; after = after }) e.stamp e.more e.entry
      (writes-one before e.stamp e.more e.entry after whole)
      (within-one before e.stamp e.more e.entry after whole))
      ∙ ap (λ ys. given (is_told u H before after e.stamp.maker e.entry) (shown_to u H before after e.stamp e.entry)
      ++ ys)
      (sights-told (before ++ e ∷ []) after (append_assoc before (e ∷ []) after ∙ whole))

  pub view-told : view u H ≡ each_told u H (shown_to u H) [] H
  view-told = sights-told [] H refl

  -- ---- a part of them

  map-given : {A : Type 0} (f : Sighting → A) (b : Bool) (x : Sighting) → map f (given b x) ≡ given b (f x)
  map-given f true x = refl
  map-given f false x = refl

  map-told : {A : Type 0} (f : Sighting → A) (before G : History) → map f (each_told u H (shown_to u H) before G)
      ≡ each_told u H (λ before later stamp e. f (shown_to u H before later stamp e)) before G
  map-told f before [] = refl
  map-told f before (e ∷ G) =
      let s : Sighting = shown_to u H before G e.stamp e.entry in
      let rest : List Sighting = each_told u H (shown_to u H) (before ++ e ∷ []) G in
      map-append f (given (is_told u H before G e.stamp.maker e.entry) s) rest
      ∙ ap (λ xs. xs ++ map f rest) (map-given f (is_told u H before G e.stamp.maker e.entry) s)
      ∙ ap (λ ys. given (is_told u H before G e.stamp.maker e.entry) (f s) ++ ys) (map-told f (before ++ e ∷ []) G)

  map-view : {A : Type 0} (f : Sighting → A)
      → map f (view u H) ≡ each_told u H (λ before later stamp e. f (shown_to u H before later stamp e)) [] H
  map-view f = ap (map f) view-told ∙ map-told f [] H

-- ---- each sighting

-- what is so of each entry that the user is told of, as she is shown it, is so of each sighting
module _
    (u : Option ℕ) (H : History) (P : Sighting → Type 0) (Q : Stamped → Type 0)
    (each : (before later : History) (stamp : Stamp) (more : Bool) (e : Entry) → Q (stamped stamp more e)
    → is_told u H before later stamp.maker e ≡ true
    → P (shown_to u H before later stamp e))
  where
    all-told : (before G : History) → AllByRecursion Q G → All P (each_told u H (shown_to u H) before G)
    all-told before [] h = All-nil P
    all-told before (e ∷ G) h =
        All-append P (given (is_told u H before G e.stamp.maker e.entry) (shown_to u H before G e.stamp e.entry))
        (each_told u H (shown_to u H) (before ++ e ∷ []) G)
        (by (is_told u H before G e.stamp.maker e.entry) (each before G e.stamp e.more e.entry h.0))
        (all-told (before ++ e ∷ []) G h.1)
      where
        by : (told : Bool) → (told ≡ true → P (shown_to u H before G e.stamp e.entry))
            → All P (given told (shown_to u H before G e.stamp e.entry))
        by true one = All-cons P (shown_to u H before G e.stamp e.entry) [] (one refl) (All-nil P)
        by false one = All-nil P

    pub all-view : AllByRecursion Q H → All P (view u H)
    all-view h = All-same P (view u H) (each_told u H (shown_to u H) [] H) (view-told u H) (all-told [] H h)

-- the same, by where the entry stands in the history
module _
    (u : Option ℕ) (H : History) (P : Sighting → Type 0)
    (each : (before later : History) (stamp : Stamp) (more : Bool) (e : Entry)
    → before ++ (stamped stamp more e ∷ later) ≡ H
    → is_told u H before later stamp.maker e ≡ true → P (shown_to u H before later stamp e))
  where
    all-placed : (before G : History) → before ++ G ≡ H → All P (each_told u H (shown_to u H) before G)
    all-placed before [] whole = All-nil P
    all-placed before (e ∷ G) whole =
        All-append P (given (is_told u H before G e.stamp.maker e.entry) (shown_to u H before G e.stamp e.entry))
        (each_told u H (shown_to u H) (before ++ e ∷ []) G)
        (by (is_told u H before G e.stamp.maker e.entry) (each before G e.stamp e.more e.entry whole))
        (all-placed (before ++ e ∷ []) G (append_assoc before (e ∷ []) G ∙ whole))
      where
        by : (told : Bool) → (told ≡ true → P (shown_to u H before G e.stamp e.entry))
            → All P (given told (shown_to u H before G e.stamp e.entry))
        by true one = All-cons P (shown_to u H before G e.stamp e.entry) [] (one refl) (All-nil P)
        by false one = All-nil P

    pub placed-view : All P (view u H)
    placed-view = All-same P (view u H) (each_told u H (shown_to u H) [] H) (view-told u H) (all-placed [] H refl)

-- the same, whatever is so of the entries
module _
    (u : Option ℕ) (H : History) (P : Sighting → Type 0)
    (each : (before later : History) (stamp : Stamp) (e : Entry) → is_told u H before later stamp.maker e ≡ true
    → P (shown_to u H before later stamp e))
  where
    pub each-view : All P (view u H)
    each-view =
        all-view u H P (λ (e : Stamped). IsWriters u H e.stamp.maker e.entry)
        (λ before later stamp more e writes told. each before later stamp e told)
        (writers-all u H)

-- ---- the laws

pub entries-shown : EntriesShown
entries-shown u H = map-view u H (λ (s : Sighting). s.kind)

pub marks-shown : MarksShown
marks-shown u H = map-view u H (λ (s : Sighting). s.mine)

pub moments-shown : MomentsShown
moments-shown u H = map-view u H (λ (s : Sighting). s.at)

pub keys-shown : KeysShown
keys-shown u H = map-view u H (λ (s : Sighting). s.key)

pub papers-shown : PapersShown
papers-shown u H = map-view u H (λ (s : Sighting). s.paper)

pub users-shown : UsersShown
users-shown u H = map-view u H (λ (s : Sighting). s.user)

pub names-shown : NamesShown
names-shown u H = map-view u H (λ (s : Sighting). s.name)

pub digests-shown : DigestsShown
digests-shown u H = map-view u H (λ (s : Sighting). s.digest)

pub roles-shown : RolesShown
roles-shown u H = map-view u H (λ (s : Sighting). s.role)

pub phases-shown : PhasesShown
phases-shown u H = map-view u H (λ (s : Sighting). s.phase)

pub deadlines-shown : DeadlinesShown
deadlines-shown u H = map-view u H (λ (s : Sighting). s.until)

pub modes-shown : ModesShown
modes-shown u H = map-view u H (λ (s : Sighting). s.mode)

pub makers-shown : MakersShown
makers-shown u H = map-view u H (λ (s : Sighting). s.by)

pub titles-shown : TitlesShown
titles-shown u H = map-view u H (λ (s : Sighting). s.title)

pub abstracts-shown : AbstractsShown
abstracts-shown u H = map-view u H (λ (s : Sighting). s.abstract)

pub versions-shown : VersionsShown
versions-shown u H = map-view u H (λ (s : Sighting). s.version)

pub contents-shown : ContentsShown
contents-shown u H = map-view u H (λ (s : Sighting). s.content)

pub switches-shown : SwitchesShown
switches-shown u H = map-view u H (λ (s : Sighting). s.on)

pub values-shown : ValuesShown
values-shown u H = map-view u H (λ (s : Sighting). s.value)

pub seats-shown : SeatsShown
seats-shown u H = map-view u H (λ (s : Sighting). s.review_kind)

pub ordinals-shown : OrdinalsShown
ordinals-shown u H = map-view u H (λ (s : Sighting). s.ordinal)

pub scores-shown : ScoresShown
scores-shown u H = map-view u H (λ (s : Sighting). s.score)

pub confidences-shown : ConfidencesShown
confidences-shown u H = map-view u H (λ (s : Sighting). s.confidence)

pub texts-to-authors-shown : TextsToAuthorsShown
texts-to-authors-shown u H = map-view u H (λ (s : Sighting). s.to_authors)

pub texts-to-pc-shown : TextsToPcShown
texts-to-pc-shown u H = map-view u H (λ (s : Sighting). s.to_pc)

pub done-shown : DoneShown
done-shown u H = map-view u H (λ (s : Sighting). s.done)

pub numbers-shown : NumbersShown
numbers-shown u H = map-view u H (λ (s : Sighting). s.n)

pub comments-shown : CommentsShown
comments-shown u H = map-view u H (λ (s : Sighting). s.text)

pub tags-shown : TagsShown
tags-shown u H = map-view u H (λ (s : Sighting). s.tag)

pub decisions-shown : DecisionsShown
decisions-shown u H = map-view u H (λ (s : Sighting). s.decision)

pub outcomes-shown : OutcomesShown
outcomes-shown u H = map-view u H (λ (s : Sighting). s.outcome)

pub accepted-shown : AcceptedShown
accepted-shown u H = map-view u H (λ (s : Sighting). s.accepted)
