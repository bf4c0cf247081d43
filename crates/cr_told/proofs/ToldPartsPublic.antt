-- SPDX-License-Identifier: Apache-2.0 OR MIT
-- Of accounts, roles, phases, modes, deadlines, submissions and texts each part that is shown is told, or another
-- follows it.
use Rattle.std.proofs.Common.{◌≡◌, ℕ, Bool, true, false, List, [], ◌∷◌, ◌++◌, refl, sym, ap, ◌∙◌, ◌||◌, ◌&&◌, Option}
use Rattle.std.proofs.Common.{Some, None, eqb}
use Rattle.std.specs.Prelude.{not, unwrap_or, IsTrue}
use Rattle.std.specs.Option.{option_map}
use Rattle.std.specs.Str.{bytes_eq}
use Rattle.std.specs.List.{flat_map, list_any}
use Rattle.std.proofs.lemmas.Bool.{true≢false, eq-eqb, eqb-true, or_left, or_right}
use Rattle.std.proofs.lemmas.List.Folds.{list_any-append}
use Rattle.cr_base.specs.declared.entry.Entry.TheVariants.{Registered, Named, Dismissed, PhaseSet, ModeSet, Submitted}
use Rattle.cr_base.specs.declared.entry.Entry.TheVariants.{Coauthor, Revised, Withdrawn, DeadlineSet}
use Rattle.cr_base.specs.declared.entry.EntryKind.TheVariants as kinds
use Rattle.cr_base.specs.declared.entry.Stamp.{Stamp}
use Rattle.cr_base.specs.declared.reply.AccountLine.{AccountLine}
use Rattle.cr_base.specs.declared.words.Mode.{Mode}
use Rattle.cr_base.specs.declared.words.Mode.TheVariants.{Blind}
use Rattle.cr_base.specs.declared.words.Phase.{Phase}
use Rattle.cr_base.specs.declared.deadline.PhaseDeadline.{PhaseDeadline}
use Rattle.cr_base.specs.declared.words.Phase.TheVariants.{Setup, Submission, Bidding, Reviewing, Response}
use Rattle.cr_base.specs.declared.words.Phase.TheVariants.{Discussion}
use Rattle.cr_base.specs.declared.words.Role.{Role}
use Rattle.cr_base.specs.declared.words.Role.TheVariants.{Account}
use Rattle.cr_base.specs.Lists.{is_nothing, is_number, last, last_or, listed}
use Rattle.cr_base.specs.History.{History}
use Rattle.cr_base.specs.HistoryFacts.{role_of}
use Rattle.cr_base.specs.Deadlines.{phase_deadline, deadlines_told}
use Rattle.cr_base.specs.Phases.{phase_rank, is_phase, may_have_deadline}
use Rattle.cr_base.specs.Words.{mode_number, role_number}
use Rattle.cr_history.specs.Invariants.{IsRegistered, IsSubmitted}
use Rattle.cr_policy.specs.Legal.{Legal}
use Rattle.cr_policy.specs.Part as part
use Rattle.cr_policy.specs.Part.{Part}
use Rattle.cr_policy.specs.Sighting.{Sighting}
use Rattle.cr_policy.specs.View.{View, view}
use Rattle.cr_policy.specs.ViewFacts.{only, is_user, is_kind, shows_phase, phase_in_view, mode_in_view}
use Rattle.cr_bounds.specs.ShownTo.{maker_for}
use Rattle.cr_bounds.proofs.BoundsWalk.{shown_to}
use Rattle.cr_told.specs.ToldPages.{shown_on, writers_shown, writer_by, page_told}
use Rattle.cr_told.specs.ToldParts.{is_name_of, has, accounts_answered, accounts_given, deadlines_answered}
use Rattle.cr_told.specs.ToldParts.{has_deadline, agree, lists, same_mode, same_role, is_told as is_part_told}
use Rattle.cr_told.specs.ToldParts.{is_left_untold}
use Rattle.cr_told.specs.ToldPublic.{account_shown, all_shown, phases_shown, deadlines_shown, role_by, roles_shown}
use Rattle.cr_told.proofs.ToldEach.{last-here, last-told, last-or-told, listed-here, known}
use Rattle.cr_told.proofs.ToldKnown.{AllOf, Each, all-of, known-own}
use Rattle.cr_told.proofs.ToldNames.{role-seen, same-bytes, swap, account-listed, some-named}
use Rattle.cr_told.proofs.ToldPages.{pages_told}
use Rattle.cr_told.proofs.ToldPublic as conference

-- a deadline of a phase that may have one is listed
module _ (D : Phase → Option ℕ) (set : Phase) (n : ℕ) (test : ℕ → Bool) where
  abbrev line_passes : PhaseDeadline → Bool
  line_passes line = is_phase set line.phase && test line.until

  abbrev lines_at : Phase → List PhaseDeadline
  lines_at phase = listed (option_map (phase_deadline phase) (D phase))

  first-line : (phases : List Phase) → D set ≡ Some n → test n ≡ true
      → list_any line_passes (flat_map lines_at (set ∷ phases)) ≡ true
  first-line phases is passes =
      ap (λ (o : Option ℕ). list_any line_passes
      (listed (option_map (phase_deadline set) o) ++ flat_map lines_at phases)) is
      ∙ ap (λ b. (b && test n) || list_any line_passes (flat_map lines_at phases))
      (eq-eqb (phase_rank set) (phase_rank set) refl)
      ∙ or_left (test n) (list_any line_passes (flat_map lines_at phases)) passes

  later-line : (phase : Phase) (phases : List Phase) → list_any line_passes (flat_map lines_at phases) ≡ true
      → list_any line_passes (flat_map lines_at (phase ∷ phases)) ≡ true
  later-line phase phases rest =
      list_any-append line_passes (lines_at phase) (flat_map lines_at phases)
      ∙ or_right (list_any line_passes (lines_at phase)) _ rest

deadline-listed : (D : Phase → Option ℕ) (set : Phase) (n : ℕ) (test : ℕ → Bool) → may_have_deadline set ≡ true
    → D set ≡ Some n → test n ≡ true
    → list_any (line_passes D set n test) (deadlines_told D) ≡ true
deadline-listed D Submission n test may is passes =
    first-line D Submission n test (Bidding ∷ Reviewing ∷ Response ∷ Discussion ∷ []) is passes
deadline-listed D Bidding n test may is passes =
    later-line D Bidding n test Submission (Bidding ∷ Reviewing ∷ Response ∷ Discussion ∷ [])
    (first-line D Bidding n test (Reviewing ∷ Response ∷ Discussion ∷ []) is passes)
deadline-listed D Reviewing n test may is passes =
    later-line D Reviewing n test Submission (Bidding ∷ Reviewing ∷ Response ∷ Discussion ∷ [])
    (later-line D Reviewing n test Bidding (Reviewing ∷ Response ∷ Discussion ∷ [])
    (first-line D Reviewing n test (Response ∷ Discussion ∷ []) is passes))
deadline-listed D Response n test may is passes =
    later-line D Response n test Submission (Bidding ∷ Reviewing ∷ Response ∷ Discussion ∷ [])
    (later-line D Response n test Bidding (Reviewing ∷ Response ∷ Discussion ∷ [])
    (later-line D Response n test Reviewing (Response ∷ Discussion ∷ [])
    (first-line D Response n test (Discussion ∷ []) is passes)))
deadline-listed D Discussion n test may is passes =
    later-line D Discussion n test Submission (Bidding ∷ Reviewing ∷ Response ∷ Discussion ∷ [])
    (later-line D Discussion n test Bidding (Reviewing ∷ Response ∷ Discussion ∷ [])
    (later-line D Discussion n test Reviewing (Response ∷ Discussion ∷ [])
    (later-line D Discussion n test Response (Discussion ∷ []) (first-line D Discussion n test [] is passes))))
deadline-listed D set n test may is passes = absurd (true≢false (sym may))

module _ (u : Option ℕ) (H : History) (legal : Legal H) (before after : View) where
  -- what is to be shown of a sighting in a part
  abbrev Whole : Part → Sighting → Type 0
  Whole what s =
      view u H ≡ before ++ s ∷ after → IsTrue (has what s)
      → IsTrue (is_part_told u H s s.kind what || is_left_untold u H s after s.kind what)

  abbrev V : View
  V = view u H

  -- the accounts have a line that passes where this sighting shows one
  accounts-have : (test : AccountLine → Bool) (s : Sighting) → V ≡ before ++ s ∷ after
      → list_any test (account_shown V s) ≡ true
      → lists (accounts_given u H) test ≡ true
  accounts-have test s is passes =
      ap (λ reply. lists (accounts_answered reply) test) (conference.accounts_told u H)
      ∙ ap (λ (W : View). list_any test (flat_map (account_shown V) W)) is
      ∙ listed-here test (account_shown V) before after s passes

  -- the last role that a user is shown to be given stands in her line
  role-told : (user : ℕ) (role : Role) (s : Sighting) → IsRegistered H user → V ≡ before ++ s ∷ after
      → only (is_user (Some user) s.user) (listed (role_by s.kind s.role)) ≡ role ∷ []
      → (lists (accounts_given u H) (λ line. eqb user line.user && same_role role line.role)
      || not (is_nothing (roles_shown (Some user) after))) ≡ true
  role-told user role s there is gives =
      by (same_role role now) refl
      (last-or-told same_role f before after s role Account (eq-eqb (role_number role) (role_number role) refl) gives
      now
      (sym (role-seen u (Some user) H) ∙ conference.roles u H (Some user)
      ∙ ap (λ (W : View). last_or Account (flat_map f W)) is))
    where
      now : Role
      now = role_of (Some user) H

      f : Sighting → List Role
      f s = only (is_user (Some user) s.user) (listed (role_by s.kind s.role))

      by : (b : Bool) → same_role role now ≡ b → (b || not (is_nothing (flat_map f after))) ≡ true
          → (lists (accounts_given u H) (λ line. eqb user line.user && same_role role line.role)
          || not (is_nothing (flat_map f after))) ≡ true
      by true h either =
          or_left _ (not (is_nothing (flat_map f after)))
          (account-listed u H user there (λ line. eqb user line.user && same_role role line.role) true
          (λ r same. (λ i. (swap r.user user ∙ same) i
          && same_role role (role_of (Some (eqb-true r.user user same i)) H)) ∙ h) refl)
      by false h either = or_right (lists (accounts_given u H) (λ line. eqb user line.user && same_role role line.role))
          (not (is_nothing (flat_map f after))) either

  -- an author who is shown stands among the authors
  author-told : (p v : ℕ) (s : Sighting) → V ≡ before ++ s ∷ after → IsSubmitted H p → IsRegistered H v
      → only (is_number s.paper p) (listed (writer_by s.kind s.by s.user)) ≡ v ∷ []
      → lists (page_told (λ page. page.authors) u p H) (is_name_of (Some v) u H) ≡ true
  author-told p v s is there registered shows =
      ap (λ names. lists names (is_name_of (Some v) u H)) (pages_told u p H legal there).authors
      ∙ some-named u H v registered (writers_shown p V)
      (ap (λ (W : View). list_any (eqb v) (writers_shown p W)) is
      ∙ listed-here (eqb v) (λ (s : Sighting). only (is_number s.paper p) (listed (writer_by s.kind s.by s.user)))
      before after s
      (ap (list_any (eqb v)) shows ∙ ap (λ b. b || false) (eq-eqb v v refl)))

  -- a text that is shown is the last, or another is shown later
  text-told : (paper : ℕ) (of : Sighting → Option (List ℕ)) (s : Sighting) (text : List ℕ) → V ≡ before ++ s ∷ after
      → s.paper ≡ Some paper → of s ≡ Some text
      → (key : Option (List ℕ)) → key ≡ last (shown_on paper of V)
      → (agree bytes_eq (of s) key || not (is_nothing (shown_on paper of after))) ≡ true
  text-told paper of s text is on shows key tells =
      ap (λ o. agree bytes_eq o key || not (is_nothing (shown_on paper of after))) shows
      ∙ last-told bytes_eq (λ (s : Sighting). only (is_number s.paper paper) (listed (of s))) before after s text
      (same-bytes text)
      ((λ i. only (is_number (on i) paper) (listed (shows i))) ∙ ap (λ b. only b (text ∷ [])) (eq-eqb paper paper refl))
      key
      (tells ∙ ap (λ (W : View). last (shown_on paper of W)) is)

  module _ (earlier later : History) (stamp : Stamp) (more : Bool) where
    registered : (user : ℕ) (name digest : List ℕ) (what : Part)
        → Whole what (shown_to u H earlier later stamp (Registered user name digest))
    registered user name digest part.user is shown =
        or_left _ false
        (accounts-have (λ line. eqb user line.user) (shown_to u H earlier later stamp (Registered user name digest)) is
        (ap (λ b. b || false) (eq-eqb user user refl)))
    registered user name digest part.name is shown =
        or_left _ false
        (accounts-have (λ line. eqb user line.user && agree bytes_eq (Some name) (Some line.name))
        (shown_to u H earlier later stamp (Registered user name digest)) is
        ((λ i. (eq-eqb user user refl i && same-bytes name i) || false)))
    registered user name digest part.digest is shown = refl
    registered user name digest part.at is shown = known-own (is_number u stamp.maker) stamp.at shown
    registered user name digest part.key is shown = known-own (is_number u stamp.maker) stamp.key shown
    registered user name digest _ is shown = absurd (true≢false (sym shown))

    phase-set : (phase : Phase) (what : Part) → Whole what (shown_to u H earlier later stamp (PhaseSet phase))
    phase-set phase part.phase is shown =
        last-or-told is_phase (λ (s : Sighting). only (is_kind kinds.PhaseSet s) (listed s.phase)) before after
        (shown_to u H earlier later stamp (PhaseSet phase)) phase Setup
        (eq-eqb (phase_rank phase) (phase_rank phase) refl) refl (phase_in_view V)
        (ap (last_or Setup) (conference.phases u H) ∙ ap (λ (W : View). last_or Setup (phases_shown W)) is)
    phase-set phase part.at is shown = known-own (is_number u stamp.maker) stamp.at shown
    phase-set phase part.key is shown = known-own (is_number u stamp.maker) stamp.key shown
    phase-set phase _ is shown = absurd (true≢false (sym shown))

    -- a deadline that no later one of its phase follows stands among the deadlines
    deadline-told : (set : Phase) (n : ℕ) (test : ℕ → Bool) → may_have_deadline set ≡ true → test n ≡ true
        → (let s : Sighting = shown_to u H earlier later stamp (DeadlineSet set (Some n)) in
        V ≡ before ++ s ∷ after → (has_deadline u H s test || not (is_nothing (deadlines_shown set after))) ≡ true)
    deadline-told set n test may passes is = by (is_nothing (deadlines_shown set after)) refl
      where
        s : Sighting
        s = shown_to u H earlier later stamp (DeadlineSet set (Some n))

        shown_in : Sighting → List (Option ℕ)
        shown_in t = only (shows_phase set t.phase) (listed t.until)

        lasts : Phase → Option ℕ
        lasts phase = last_or None (deadlines_shown phase V)

        stands : is_nothing (deadlines_shown set after) ≡ true → lasts set ≡ Some n
        stands none =
            ap (λ (W : View). last_or None (deadlines_shown set W)) is
            ∙ ap (λ (o : Option (Option ℕ)). unwrap_or o None)
            (last-here shown_in before after s (Some n)
            (ap (λ b. only b (Some n ∷ [])) (eq-eqb (phase_rank set) (phase_rank set) refl)) none)

        by : (b : Bool) → is_nothing (deadlines_shown set after) ≡ b → (has_deadline u H s test || not b) ≡ true
        by true none =
            ap (λ b. b || false)
            (ap (λ reply. lists (deadlines_answered reply) (λ line. is_phase set line.phase && test line.until))
            (conference.deadlines_told u H)
            ∙ deadline-listed lasts set n test may (stands none) passes)
        by false some = or_right (has_deadline u H s test) true refl

    deadline-set : (set : Phase) (until : Option ℕ) (what : Part) → may_have_deadline set ≡ true
        → Whole what (shown_to u H earlier later stamp (DeadlineSet set until))
    deadline-set set None part.phase may is shown =
        or_right (has_deadline u H (shown_to u H earlier later stamp (DeadlineSet set None)) (λ n. true)) true refl
    deadline-set set None part.until may is shown =
        or_right (has_deadline u H (shown_to u H earlier later stamp (DeadlineSet set None)) (is_number None)) true refl
    deadline-set set None part.at may is shown = known-own (is_number u stamp.maker) stamp.at shown
    deadline-set set None part.key may is shown = known-own (is_number u stamp.maker) stamp.key shown
    deadline-set set None _ may is shown = absurd (true≢false (sym shown))
    deadline-set set (Some n) part.phase may is shown = deadline-told set n (λ n. true) may refl is
    deadline-set set (Some n) part.until may is shown =
        deadline-told set n (is_number (Some n)) may (eq-eqb n n refl) is
    deadline-set set (Some n) part.at may is shown = known-own (is_number u stamp.maker) stamp.at shown
    deadline-set set (Some n) part.key may is shown = known-own (is_number u stamp.maker) stamp.key shown
    deadline-set set (Some n) _ may is shown = absurd (true≢false (sym shown))

    mode-set : (mode : Mode) (what : Part) → Whole what (shown_to u H earlier later stamp (ModeSet mode))
    mode-set mode part.mode is shown =
        last-or-told same_mode (λ (s : Sighting). listed s.mode) before after
        (shown_to u H earlier later stamp (ModeSet mode)) mode Blind (eq-eqb (mode_number mode) (mode_number mode) refl)
        refl (mode_in_view V)
        (ap (last_or Blind) (conference.modes u H)
        ∙ ap (λ (W : View). last_or Blind (all_shown (λ (s : Sighting). s.mode) W)) is)
    mode-set mode part.at is shown = known-own (is_number u stamp.maker) stamp.at shown
    mode-set mode part.key is shown = known-own (is_number u stamp.maker) stamp.key shown
    mode-set mode _ is shown = absurd (true≢false (sym shown))

    named-to : (user : ℕ) (role : Role) (what : Part) → IsRegistered H user
        → Whole what (shown_to u H earlier later stamp (Named user role))
    named-to user role part.user there is shown =
        or_left _ false (account-listed u H user there (λ line. eqb user line.user) true
        (λ r same. swap r.user user ∙ same) refl)
    named-to user role part.role there is shown =
        role-told user role (shown_to u H earlier later stamp (Named user role)) there is
        (ap (λ b. only b (role ∷ [])) (eq-eqb user user refl))
    named-to user role part.at there is shown = known-own (is_number u stamp.maker) stamp.at shown
    named-to user role part.key there is shown = known-own (is_number u stamp.maker) stamp.key shown
    named-to user role _ there is shown = absurd (true≢false (sym shown))

    dismissed : (user : ℕ) (what : Part) → IsRegistered H user
        → Whole what (shown_to u H earlier later stamp (Dismissed user))
    dismissed user part.user there is shown =
        role-told user Account (shown_to u H earlier later stamp (Dismissed user)) there is
        (ap (λ b. only b (Account ∷ [])) (eq-eqb user user refl))
    dismissed user part.at there is shown = known-own (is_number u stamp.maker) stamp.at shown
    dismissed user part.key there is shown = known-own (is_number u stamp.maker) stamp.key shown
    dismissed user _ there is shown = absurd (true≢false (sym shown))

    submitted : (paper : ℕ) (title abstract : List ℕ) (what : Part) → IsSubmitted H paper → IsRegistered H stamp.maker
        → Whole what (shown_to u H earlier later stamp (Submitted paper title abstract))
    submitted paper title abstract part.by there registered is shown =
        ap (λ by. lists (page_told (λ page. page.authors) u paper H) (is_name_of by u H) || false) maker-known
        ∙ or_left _ false
        (author-told paper stamp.maker (shown_to u H earlier later stamp (Submitted paper title abstract)) is there
        registered
        (ap (λ by. only (eqb paper paper) (listed by)) maker-known
        ∙ ap (λ b. only b (stamp.maker ∷ [])) (eq-eqb paper paper refl)))
      where
        maker-known : maker_for u H earlier later stamp (Submitted paper title abstract) ≡ Some stamp.maker
        maker-known = known _ stamp.maker shown
    submitted paper title abstract part.title there registered is shown =
        text-told paper (λ (s : Sighting). s.title) (shown_to u H earlier later stamp (Submitted paper title abstract))
        title is refl (known _ title shown) _
        (pages_told u paper H legal there).title
    submitted paper title abstract part.abstract there registered is shown =
        text-told paper (λ (s : Sighting). s.abstract)
        (shown_to u H earlier later stamp (Submitted paper title abstract)) abstract is refl (known _ abstract shown)
        _
        (pages_told u paper H legal there).abstract_
    submitted paper title abstract part.at there registered is shown =
        known-own (is_number u stamp.maker) stamp.at shown
    submitted paper title abstract part.key there registered is shown =
        known-own (is_number u stamp.maker) stamp.key shown
    submitted paper title abstract _ there registered is shown = absurd (true≢false (sym shown))

    revised : (paper : ℕ) (title abstract : List ℕ) (what : Part) → IsSubmitted H paper
        → Whole what (shown_to u H earlier later stamp (Revised paper title abstract))
    revised paper title abstract part.title there is shown =
        text-told paper (λ (s : Sighting). s.title) (shown_to u H earlier later stamp (Revised paper title abstract))
        title is refl (known _ title shown) _
        (pages_told u paper H legal there).title
    revised paper title abstract part.abstract there is shown =
        text-told paper (λ (s : Sighting). s.abstract) (shown_to u H earlier later stamp (Revised paper title abstract))
        abstract is refl (known _ abstract shown) _
        (pages_told u paper H legal there).abstract_
    revised paper title abstract part.at there is shown = known-own (is_number u stamp.maker) stamp.at shown
    revised paper title abstract part.key there is shown = known-own (is_number u stamp.maker) stamp.key shown
    revised paper title abstract _ there is shown = absurd (true≢false (sym shown))

    coauthor : (paper user : ℕ) (what : Part) → IsSubmitted H paper → IsRegistered H user
        → Whole what (shown_to u H earlier later stamp (Coauthor paper user))
    coauthor paper user part.user there registered is shown =
        or_left _ false
        (author-told paper user (shown_to u H earlier later stamp (Coauthor paper user)) is there registered
        (ap (λ b. only b (user ∷ [])) (eq-eqb paper paper refl)))
    coauthor paper user part.at there registered is shown = known-own (is_number u stamp.maker) stamp.at shown
    coauthor paper user part.key there registered is shown = known-own (is_number u stamp.maker) stamp.key shown
    coauthor paper user _ there registered is shown = absurd (true≢false (sym shown))

-- ---- the kinds

pub registered-all : AllOf kinds.Registered
registered-all = all-of kinds.Registered each
  where
    each : Each kinds.Registered
    each u H legal before after what earlier later stamp more (Registered user name digest) whole there told is kind
        shown =
        registered u H legal before after earlier later stamp more user name digest what is shown
    each u H legal before after what earlier later stamp more e whole there told is kind shown =
        absurd (true≢false (sym kind))

pub named-all : AllOf kinds.Named
named-all = all-of kinds.Named each
  where
    each : Each kinds.Named
    each u H legal before after what earlier later stamp more (Named user role) whole there told is kind shown =
        named-to u H legal before after earlier later stamp more user role what there.there is shown
    each u H legal before after what earlier later stamp more e whole there told is kind shown =
        absurd (true≢false (sym kind))

pub dismissed-all : AllOf kinds.Dismissed
dismissed-all = all-of kinds.Dismissed each
  where
    each : Each kinds.Dismissed
    each u H legal before after what earlier later stamp more (Dismissed user) whole there told is kind shown =
        dismissed u H legal before after earlier later stamp more user what there.there is shown
    each u H legal before after what earlier later stamp more e whole there told is kind shown =
        absurd (true≢false (sym kind))

pub phase-set-all : AllOf kinds.PhaseSet
phase-set-all = all-of kinds.PhaseSet each
  where
    each : Each kinds.PhaseSet
    each u H legal before after what earlier later stamp more (PhaseSet phase) whole there told is kind shown =
        phase-set u H legal before after earlier later stamp more phase what is shown
    each u H legal before after what earlier later stamp more e whole there told is kind shown =
        absurd (true≢false (sym kind))

pub mode-set-all : AllOf kinds.ModeSet
mode-set-all = all-of kinds.ModeSet each
  where
    each : Each kinds.ModeSet
    each u H legal before after what earlier later stamp more (ModeSet mode) whole there told is kind shown =
        mode-set u H legal before after earlier later stamp more mode what is shown
    each u H legal before after what earlier later stamp more e whole there told is kind shown =
        absurd (true≢false (sym kind))

pub deadline-set-all : AllOf kinds.DeadlineSet
deadline-set-all = all-of kinds.DeadlineSet each
  where
    each : Each kinds.DeadlineSet
    each u H legal before after what earlier later stamp more (DeadlineSet phase until) whole there told is kind shown =
        deadline-set u H legal before after earlier later stamp more phase until what there.there is shown
    each u H legal before after what earlier later stamp more e whole there told is kind shown =
        absurd (true≢false (sym kind))

pub submitted-all : AllOf kinds.Submitted
submitted-all = all-of kinds.Submitted each
  where
    each : Each kinds.Submitted
    each u H legal before after what earlier later stamp more (Submitted paper title abstract) whole there told is kind
        shown =
        submitted u H legal before after earlier later stamp more paper title abstract what there.there.0 there.there.1
        is shown
    each u H legal before after what earlier later stamp more e whole there told is kind shown =
        absurd (true≢false (sym kind))

pub coauthor-all : AllOf kinds.Coauthor
coauthor-all = all-of kinds.Coauthor each
  where
    each : Each kinds.Coauthor
    each u H legal before after what earlier later stamp more (Coauthor paper user) whole there told is kind shown =
        coauthor u H legal before after earlier later stamp more paper user what there.there.0 there.there.1 is shown
    each u H legal before after what earlier later stamp more e whole there told is kind shown =
        absurd (true≢false (sym kind))

pub revised-all : AllOf kinds.Revised
revised-all = all-of kinds.Revised each
  where
    each : Each kinds.Revised
    each u H legal before after what earlier later stamp more (Revised paper title abstract) whole there told is kind
        shown =
        revised u H legal before after earlier later stamp more paper title abstract what there.there is shown
    each u H legal before after what earlier later stamp more e whole there told is kind shown =
        absurd (true≢false (sym kind))

pub withdrawn-all : AllOf kinds.Withdrawn
withdrawn-all = all-of kinds.Withdrawn each
  where
    each : Each kinds.Withdrawn
    each u H legal before after what earlier later stamp more (Withdrawn paper) whole there told is kind shown =
        none what shown
      where
        none : (what : Part) → has what (shown_to u H earlier later stamp (Withdrawn paper)) ≡ true
            → (is_part_told u H (shown_to u H earlier later stamp (Withdrawn paper)) kinds.Withdrawn what
            || is_left_untold u H (shown_to u H earlier later stamp (Withdrawn paper)) after kinds.Withdrawn what)
            ≡ true
        none part.user shown = absurd (true≢false (sym shown))
        none part.at shown = known-own (is_number u stamp.maker) stamp.at shown
        none part.key shown = known-own (is_number u stamp.maker) stamp.key shown
        none _ shown = absurd (true≢false (sym shown))
    each u H legal before after what earlier later stamp more e whole there told is kind shown =
        absurd (true≢false (sym kind))
