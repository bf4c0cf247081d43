-- SPDX-License-Identifier: Apache-2.0 OR MIT
-- What the bounds leave for whoever isn't on the committee, for strangers and for nobody: what is public.
use Rattle.std.proofs.Common.{◌≡◌, ℕ, Bool, true, false, cond, List, [], ◌∷◌, ◌++◌, eqb, refl, sym, ap, subst, ◌∙◌}
use Rattle.std.proofs.Common.{arith, ◌||◌, ◌&&◌, Option, Some, None}
use Rattle.std.specs.Prelude.{not}
use Rattle.std.specs.List.{list_any, AllByRecursion}
use Rattle.std.proofs.lemmas.Bool.{eqb-true, or_parts, or_from, true≢false}
use Rattle.cr_base.specs.declared.entry.Entry.{Entry}
use Rattle.cr_base.specs.declared.entry.Entry.TheVariants.{Registered, Named, Submitted, Coauthor, Revised, Uploaded}
use Rattle.cr_base.specs.declared.entry.Entry.TheVariants.{Withdrawn, Conflict, Bid, Assigned, Unassigned, Reviewed}
use Rattle.cr_base.specs.declared.entry.Entry.TheVariants.{Commented, Tagged, Decided, Dismissed, Invited, Uninvited}
use Rattle.cr_base.specs.declared.entry.Entry.TheVariants.{Responded}
use Rattle.cr_base.specs.declared.entry.EntryKind.TheVariants as kinds
use Rattle.cr_base.specs.declared.entry.Stamp.{Stamp}
use Rattle.cr_base.specs.declared.entry.Stamped.{Stamped}
use Rattle.cr_base.specs.declared.words.Decision.{Decision}
use Rattle.cr_base.specs.declared.words.Role.{Role}
use Rattle.cr_base.specs.declared.words.Role.TheVariants.{Account, Member, Chair}
use Rattle.cr_base.specs.Lists.{given, last_or, is_number}
use Rattle.cr_base.specs.History.{History, all_told, role_told, invite_told}
use Rattle.cr_base.specs.HistoryFacts.{mode_of, phase_of, role_of, authors_of, is_author, is_invited}
use Rattle.cr_policy.specs.Sighting.{Sighting, blank}
use Rattle.cr_policy.specs.ViewFacts.{is_user}
use Rattle.cr_policy.proofs.Walk.{list_any-nobody}
use Rattle.cr_bounds.specs.ShownTo.{is_on_committee, chairs_committee, is_past_submission, is_past_reviewing}
use Rattle.cr_bounds.specs.ShownTo.{is_past_discussion, hides_reviewers, names_reviewers, has_conflict, serves}
use Rattle.cr_bounds.specs.ShownTo.{is_eligible, administers, discusses, is_answered, is_in_programme, appears}
use Rattle.cr_bounds.specs.ShownTo.{is_announced, is_replaced, is_superseded, is_party, is_told, where_known}
use Rattle.cr_bounds.specs.ShownTo.{paper_for}
use Rattle.cr_bounds.specs.ShownTo.{reviewer_for, is_committees, is_chairs, visits, reads_visiting, user_for}
use Rattle.cr_bounds.specs.ViewBounds.{IsPublicIn, names_user, is_reviewing, AccountsShown, IsStranger, StrangersShown}
use Rattle.cr_bounds.specs.ViewBounds.{NobodyShown}
use Rattle.cr_bounds.proofs.BoundsWalk.{shown_to, all-view, each-view}
use Rattle.cr_bounds.proofs.BoundsLeft.{user-known, known-not, comment-own, response-own, tag-own, bid-own}
use Rattle.cr_bounds.proofs.BoundsLeft.{title_known}
use Rattle.cr_bounds.proofs.BoundsLeft.{text_known, maker-left, title-left, text-left, left-coauthor, left-revision}
use Rattle.cr_bounds.proofs.BoundsLeft.{left-upload, left-withdrawal, left-form, decision-told, announced-in}
use Rattle.cr_bounds.proofs.BoundsLeft.{verdict-unknown, outcome-unknown}

-- ---- what is public

-- the entry doesn't name her on a paper, nor is she a chair whom it would show an assignment, an invitation or a form
abbrev pub IsUnnamed : Option ℕ → History → Entry → Type 0
IsUnnamed u H e = (names_user u e ≡ false) × ((chairs_committee (role_of u H) && is_reviewing e) ≡ false)

-- she didn't write the paper, if there is one
abbrev pub IsUnwritten : Option ℕ → History → Option ℕ → Type 0
IsUnwritten u H None = Unit {0}
IsUnwritten u H (Some paper) = is_author u paper H ≡ false

-- the kinds of entry that are no others' than hers, where she doesn't serve: of all that the committee does with a
-- paper she is told of another's entry only the decision
abbrev pub IsUntold : Entry → Type 0
IsUntold (Conflict paper user on) = ⊥
IsUntold (Bid paper value) = ⊥
IsUntold (Assigned paper user review_kind ordinal) = ⊥
IsUntold (Unassigned paper user ordinal) = ⊥
IsUntold (Invited paper user) = ⊥
IsUntold (Uninvited paper user) = ⊥
IsUntold (Reviewed paper ordinal version form) = ⊥
IsUntold (Commented paper n ordinal text) = ⊥
IsUntold (Responded paper text) = ⊥
IsUntold (Tagged paper tag on) = ⊥
IsUntold _ = Unit {0}

-- what is her own alone isn't another's
hers : {A : Type 0} {own : Bool} → own ≡ false → own ≡ true → A
hers other own = absurd (true≢false (sym own ∙ other))

-- and what is her own, or public, is public where it is another's
public : (own p : Bool) → own ≡ false → (own || p) ≡ true → p ≡ true
public own p other left = ap (λ b. b || p) (sym other) ∙ left

-- of assignments and invitations none is told but their parties
party-untold : (n own chair clear : Bool) → n ≡ false → own ≡ false → (chair && true) ≡ false
    → (n || own || (chair && clear)) ≡ true → ⊥
party-untold n own chair clear hn ho hl told = grind (arith, hn, ho, hl, told)

seat-party : (party h d a names past : Bool) → h ≡ false → a ≡ false
    → (party || (h && d) || (a && names && past)) ≡ true → party ≡ true
seat-party party h d a names past hh ha told = grind (arith, hh, ha, told)

module _ (u : Option ℕ) (H : History) (serving : serves u H ≡ false) where
  pub unhandled : (p : ℕ) → is_eligible u p H ≡ false
  unhandled p = ap (λ b. b && not (has_conflict u p H)) serving

  uninvited : (paper user maker : ℕ) → is_number u user ≡ false → (chairs_committee (role_of u H) && true) ≡ false
      → is_party u H maker paper user ≡ true → is_number u maker ≡ false → ⊥
  uninvited paper user maker unnamed chair told other =
      party-untold (is_number u user) (is_number u maker) (chairs_committee (role_of u H))
      (not (has_conflict u paper H)) unnamed other chair told

  unseated : (paper user maker : ℕ) → is_author u paper H ≡ false → is_number u user ≡ false
      → (chairs_committee (role_of u H) && true) ≡ false
      → (is_party u H maker paper user || discusses u paper H || is_answered u paper H) ≡ true
      → is_number u maker ≡ false → ⊥
  unseated paper user maker wrote unnamed chair told other =
      uninvited paper user maker unnamed chair
      (seat-party (is_party u H maker paper user) (is_eligible u paper H) (is_past_reviewing (phase_of H))
      (is_author u paper H)
      (names_reviewers (mode_of H)) (is_past_discussion (phase_of H)) (unhandled paper) wrote told) other

  pub untold-one : (before later : History) (stamp : Stamp) (e : Entry) → IsUnnamed u H e
      → IsUnwritten u H (paper_for u H before later stamp e)
      → is_told u H before later stamp.maker e ≡ true → is_number u stamp.maker ≡ false → IsUntold e
  untold-one before later stamp (Conflict paper user on) unnamed wrote told other =
      undeclared unnamed.0 other wrote serving
    where
      undeclared : is_number u user ≡ false → is_number u stamp.maker ≡ false → is_author u paper H ≡ false
          → serves u H ≡ false → ⊥
      undeclared n o a s = grind (arith, told, n, o, a, s)
  untold-one before later stamp (Bid paper value) unnamed wrote told other =
      hers other (bid-own (is_number u stamp.maker) (is_eligible u paper H) (chairs_committee (role_of u H))
      (unhandled paper) told)
  untold-one before later stamp (Assigned paper user review_kind ordinal) unnamed wrote told other =
      unseated paper user stamp.maker wrote unnamed.0 unnamed.1 told other
  untold-one before later stamp (Unassigned paper user ordinal) unnamed wrote told other =
      unseated paper user stamp.maker wrote unnamed.0 unnamed.1 told other
  untold-one before later stamp (Invited paper user) unnamed wrote told other =
      uninvited paper user stamp.maker unnamed.0 unnamed.1 told other
  untold-one before later stamp (Uninvited paper user) unnamed wrote told other =
      uninvited paper user stamp.maker unnamed.0 unnamed.1 told other
  untold-one before later stamp (Reviewed paper ordinal version form) unnamed wrote told other =
      unreviewed (is_number u stamp.maker) (chairs_committee (role_of u H)) (not (has_conflict u paper H)) other
      unnamed.1
      (left-form u H paper wrote (unhandled paper) before later ordinal (is_number u stamp.maker) told)
    where
      unreviewed : (own chair clear : Bool) → own ≡ false → (chair && true) ≡ false → (own || (chair && clear)) ≡ true
          → ⊥
      unreviewed own chair clear o c led = grind (arith, o, c, led)
  untold-one before later stamp (Commented paper n ordinal text) unnamed wrote told other =
      hers other (comment-own (is_number u stamp.maker) (is_eligible u paper H) (is_past_reviewing (phase_of H))
      (unhandled paper) told)
  untold-one before later stamp (Responded paper text) unnamed wrote told other =
      hers other
      (response-own (is_number u stamp.maker) (is_author u paper H) (is_eligible u paper H)
      (is_past_reviewing (phase_of H)) wrote (unhandled paper) told)
  untold-one before later stamp (Tagged paper tag on) unnamed wrote told other =
      hers other
      (tag-own (is_number u stamp.maker) (is_committees tag) (is_chairs tag) (is_eligible u paper H)
      (chairs_committee (role_of u H)) (unhandled paper) told)
  untold-one before later stamp e unnamed wrote told other = tt

  -- of a decision that another made she is told that the paper is accepted, where it is in the programme
  pub decided-one : (before later : History) (stamp : Stamp) (paper : ℕ) (decision : Decision)
      → is_author u paper H ≡ false
      → is_told u H before later stamp.maker (Decided paper decision) ≡ true → is_number u stamp.maker ≡ false
      → (is_in_programme paper H ≡ true)
      × (shown_to u H before later stamp (Decided paper decision) ≡ record (blank kinds.Decided)
      { paper = Some paper; accepted = Some true })
  decided-one before later stamp paper decision wrote told other = (
    announced-in u H paper wrote (unhandled paper) later announced,
    λ i. record (shown_to u H before later stamp (Decided paper decision)) {
      mine = other i;
      at = where_known (other i) stamp.at;
      key = where_known (other i) stamp.key;
      decision =
          known-not _ decision (verdict-unknown u H paper wrote (unhandled paper) later (is_number u stamp.maker) other)
          i;
      outcome = known-not _ true (outcome-unknown u H paper wrote (unhandled paper) later) i;
      accepted = where_known (announced i) true;
    },
  )
    where
      announced : is_announced H later paper ≡ true
      announced =
          public (is_number u stamp.maker) (is_announced H later paper) other
          (decision-told u H paper wrote (unhandled paper) later (is_number u stamp.maker) told)

-- she neither wrote the paper, if there is one, nor reads it as an external
pub record IsFar (u : Option ℕ) (H : History) (paper : ℕ) : Type 0 where
  pub wrote : is_author u paper H ≡ false
  pub away : reads_visiting u paper H ≡ false

abbrev IsFarAt : Option ℕ → History → Option ℕ → Type 0
IsFarAt u H None = Unit {0}
IsFarAt u H (Some paper) = IsFar u H paper

-- who doesn't serve and is far from the paper is shown of another's entry what is public, where it doesn't name her
module _ (u : Option ℕ) (H : History) (serving : serves u H ≡ false) where
  title-public : (paper : ℕ) (far : IsFar u H paper) (replaced : Bool) (title : List ℕ)
      → where_known (title_known u H paper far.wrote (unhandled u H serving paper) replaced) title
      ≡ cond (is_in_programme paper H)
      (where_known (title_known u H paper far.wrote (unhandled u H serving paper) replaced) title) None
  title-public paper far replaced title =
      let shown : Option (List ℕ) =
      where_known (title_known u H paper far.wrote (unhandled u H serving paper) replaced) title in
      title-left u H paper far.wrote (unhandled u H serving paper) far.away replaced title
      ∙ ap (λ b. cond (b || is_in_programme paper H) shown None) serving

  text-public : (paper : ℕ) (far : IsFar u H paper) (own replaced : Bool) (text : List ℕ) → own ≡ false
      → where_known (text_known u H paper far.wrote (unhandled u H serving paper) own replaced) text
      ≡ cond (appears paper H) (where_known (text_known u H paper far.wrote (unhandled u H serving paper) own replaced)
      text) None
  text-public paper far own replaced text other =
      let shown : Option (List ℕ) =
      where_known (text_known u H paper far.wrote (unhandled u H serving paper) own replaced) text in
      text-left u H paper far.wrote (unhandled u H serving paper) far.away own replaced text
      ∙ ap (λ b. cond (b || appears paper H) shown None) other

  public-one : (before later : History) (stamp : Stamp) (e : Entry) → IsUnnamed u H e
      → IsFarAt u H (paper_for u H before later stamp e)
      → is_told u H before later stamp.maker e ≡ true → is_number u stamp.maker ≡ false
      → IsPublicIn H (shown_to u H before later stamp e)
  public-one before later stamp (Registered user name digest) unnamed far told other =
      λ i. record (blank kinds.Registered) {
        mine = other i;
        user = Some user;
        name = Some name;
        digest = where_known (other i) digest;
        at = where_known (other i) stamp.at;
        key = where_known (other i) stamp.key;
      }
  public-one before later stamp (Submitted paper title abstract) unnamed far told other =
      λ i. record (blank kinds.Submitted) {
        mine = other i;
        paper = Some paper;
        by = maker-left u H paper far.wrote (unhandled u H serving paper) far.away stamp.maker i;
        title = title-public paper far (is_replaced paper later) title i;
        abstract = text-public paper far false (is_replaced paper later) abstract refl i;
        at = where_known (other i) stamp.at;
        key = where_known (other i) stamp.key;
      }
  public-one before later stamp (Coauthor paper user) unnamed far told other = (
    public (is_number u stamp.maker) (is_in_programme paper H) other
        (left-coauthor u H paper far.wrote (unhandled u H serving paper) far.away (is_number u stamp.maker) told),
    λ i. record (shown_to u H before later stamp (Coauthor paper user)) {
      mine = other i;
      at = where_known (other i) stamp.at;
      key = where_known (other i) stamp.key;
    },
  )
  public-one before later stamp (Revised paper title abstract) unnamed far told other = (
    public (is_number u stamp.maker || serves u H) (is_in_programme paper H)
        (or_from (is_number u stamp.maker) (serves u H) other serving)
        (left-revision u H paper far.wrote (unhandled u H serving paper) far.away (is_number u stamp.maker)
        (is_replaced paper later) told),
    λ i. record (shown_to u H before later stamp (Revised paper title abstract)) {
      mine = other i;
      at = where_known (other i) stamp.at;
      key = where_known (other i) stamp.key;
      abstract = text-public paper far (is_number u stamp.maker) (is_replaced paper later) abstract other i;
    },
  )
  public-one before later stamp (Uploaded paper version content) unnamed far told other = (
    public (is_number u stamp.maker) (appears paper H) other
        (left-upload u H paper far.wrote (unhandled u H serving paper) far.away (is_number u stamp.maker)
        (is_superseded paper later) told),
    λ i. record (shown_to u H before later stamp (Uploaded paper version content)) {
      mine = other i;
      at = where_known (other i) stamp.at;
      key = where_known (other i) stamp.key;
    },
  )
  public-one before later stamp (Withdrawn paper) unnamed far told other =
      hers (or_from (is_number u stamp.maker) (serves u H) other serving)
      (left-withdrawal u H paper far.wrote (unhandled u H serving paper) far.away (is_number u stamp.maker) told)
  public-one before later stamp (Conflict paper user on) unnamed far told other =
      untold-one u H serving before later stamp (Conflict paper user on) unnamed far.wrote told other
  public-one before later stamp (Bid paper value) unnamed far told other =
      untold-one u H serving before later stamp (Bid paper value) unnamed far.wrote told other
  public-one before later stamp (Assigned paper user review_kind ordinal) unnamed far told other =
      untold-one u H serving before later stamp (Assigned paper user review_kind ordinal) unnamed far.wrote told other
  public-one before later stamp (Unassigned paper user ordinal) unnamed far told other =
      untold-one u H serving before later stamp (Unassigned paper user ordinal) unnamed far.wrote told other
  public-one before later stamp (Invited paper user) unnamed far told other =
      untold-one u H serving before later stamp (Invited paper user) unnamed far.wrote told other
  public-one before later stamp (Uninvited paper user) unnamed far told other =
      untold-one u H serving before later stamp (Uninvited paper user) unnamed far.wrote told other
  public-one before later stamp (Reviewed paper ordinal version form) unnamed far told other =
      untold-one u H serving before later stamp (Reviewed paper ordinal version form) unnamed far.wrote told other
  public-one before later stamp (Commented paper n ordinal text) unnamed far told other =
      untold-one u H serving before later stamp (Commented paper n ordinal text) unnamed far.wrote told other
  public-one before later stamp (Responded paper text) unnamed far told other =
      untold-one u H serving before later stamp (Responded paper text) unnamed far.wrote told other
  public-one before later stamp (Tagged paper tag on) unnamed far told other =
      untold-one u H serving before later stamp (Tagged paper tag on) unnamed far.wrote told other
  public-one before later stamp (Decided paper decision) unnamed far told other =
      decided-one u H serving before later stamp paper decision far.wrote told other
  public-one before later stamp e unnamed far told other = λ i. record (shown_to u H before later stamp e) {
    mine = other i;
    at = where_known (other i) stamp.at;
    key = where_known (other i) stamp.key;
  }

-- ---- who isn't on the committee

-- a sighting that doesn't name her is of an entry that doesn't
seat-named : (n own l d v r : Bool) → (((n || own || l) || (d && v) || r) && n) ≡ false → n ≡ false
seat-named n own l d v r h = grind (arith, h)

module _ (u : Option ℕ) (H : History) where
  reviewer-named : (maker paper user : ℕ) → is_user u (reviewer_for u H maker paper user) ≡ false
      → is_number u user ≡ false
  reviewer-named maker paper user h =
      seat-named (is_number u user) (is_number u maker) (administers u paper H) (discusses u paper H)
      (not (hides_reviewers (mode_of H))) (is_answered u paper H)
      (sym (user-known u _ user) ∙ h)

  pub names-seen : (before later : History) (stamp : Stamp) (e : Entry)
      → is_user u (user_for u H before later stamp e) ≡ false
      → names_user u e ≡ false
  names-seen before later stamp (Coauthor paper user) h = h
  names-seen before later stamp (Conflict paper user on) h = h
  names-seen before later stamp (Invited paper user) h = h
  names-seen before later stamp (Uninvited paper user) h = h
  names-seen before later stamp (Assigned paper user review_kind ordinal) h = reviewer-named stamp.maker paper user h
  names-seen before later stamp (Unassigned paper user ordinal) h = reviewer-named stamp.maker paper user h
  names-seen before later stamp e h = refl

-- who isn't on the committee doesn't serve, and is no chair
module _ (u : Option ℕ) (H : History) (account : is_on_committee (role_of u H) ≡ false) where
  pub unserving : serves u H ≡ false
  unserving = ap (λ b. b && is_past_submission (phase_of H)) account

  pub unleading : chairs_committee (role_of u H) ≡ false
  unleading = by (role_of u H) account
    where
      by : (role : Role) → is_on_committee role ≡ false → chairs_committee role ≡ false
      by Account h = refl
      by Member h = refl
      by Chair h = h

  pub unnamed-one : (before later : History) (stamp : Stamp) (e : Entry)
      → is_user u (user_for u H before later stamp e) ≡ false → IsUnnamed u H e
  unnamed-one before later stamp e h = (names-seen u H before later stamp e h, ap (λ b. b && is_reviewing e) unleading)

pub accounts-shown : AccountsShown
accounts-shown u p H out = each-view u H IsShown each
  where
    IsShown : Sighting → Type 0
    IsShown s = is_number s.paper p ≡ true → (s.mine || is_user u s.user) ≡ false → IsPublicIn H s

    away : ((is_on_committee (role_of u H) || is_author u p H) ≡ false) × (visits u p H ≡ false)
    away = or_parts (is_on_committee (role_of u H) || is_author u p H) (visits u p H) out

    parts : (is_on_committee (role_of u H) ≡ false) × (is_author u p H ≡ false)
    parts = or_parts (is_on_committee (role_of u H)) (is_author u p H) away.0

    far : (paper : Option ℕ) → is_number paper p ≡ true → IsFarAt u H paper
    far None on_it = tt
    far (Some paper) on_it =
        subst (IsFar u H) (sym (eqb-true paper p on_it)) (record {
          wrote = parts.1;
          away = ap (λ b. b && not (has_conflict u p H) && is_past_submission (phase_of H)) away.1;
        })

    each : (before later : History) (stamp : Stamp) (e : Entry) → is_told u H before later stamp.maker e ≡ true
        → IsShown (shown_to u H before later stamp e)
    each before later stamp e told = λ on_it others.
        let apart = or_parts (is_number u stamp.maker) (is_user u (user_for u H before later stamp e)) others in
        public-one u H (unserving u H parts.0) before later stamp e
        (unnamed-one u H parts.0 before later stamp e apart.1)
        (far (paper_for u H before later stamp e) on_it) told apart.0

-- ---- strangers, and nobody

module _ (u : Option ℕ) (H : History) where
  unnamed-all : (G : History) → list_any (λ (e : Stamped). names_user u e.entry) G ≡ false
      → (chairs_committee (role_of u H) && list_any (λ (e : Stamped). is_reviewing e.entry) G) ≡ false
      → AllByRecursion (λ (e : Stamped). IsUnnamed u H e.entry) G
  unnamed-all [] named led = tt
  unnamed-all (e ∷ G) named led =
      let names = or_parts (names_user u e.entry) (list_any (λ (e : Stamped). names_user u e.entry) G) named in
      let leads = either (chairs_committee (role_of u H)) (is_reviewing e.entry)
      (list_any (λ (e : Stamped). is_reviewing e.entry) G) led in
      ((names.0, leads.0), unnamed-all G names.1 leads.1)
    where
      either : (l a b : Bool) → (l && (a || b)) ≡ false → ((l && a) ≡ false) × ((l && b) ≡ false)
      either true a b h = or_parts a b h
      either false a b h = (refl, refl)

  -- whom no entry names on a paper isn't invited to any
  uninvited-all : (p : ℕ) (G : History) → list_any (λ (e : Stamped). names_user u e.entry) G ≡ false
      → all_told (invite_told u p) G ≡ []
  uninvited-all p [] named = refl
  uninvited-all p (e ∷ G) named =
      let names = or_parts (names_user u e.entry) (list_any (λ (e : Stamped). names_user u e.entry) G) named in
      ap (λ xs. xs ++ all_told (invite_told u p) G) (one e.entry names.0) ∙ uninvited-all p G names.1
    where
      none : (same n x : Bool) → n ≡ false → given (same && n) x ≡ []
      none true n x h = ap (λ b. given b x) h
      none false n x h = refl

      one : (e : Entry) → names_user u e ≡ false → invite_told u p e ≡ []
      one (Invited paper user) h = none (eqb paper p) (is_number u user) true h
      one (Uninvited paper user) h = none (eqb paper p) (is_number u user) false h
      one e h = refl

  module _ (stranger : IsStranger u H) where
    far-all : (paper : Option ℕ) → IsFarAt u H paper
    far-all None = tt
    far-all (Some p) = record {
      wrote = stranger.author p;
      away = by (is_on_committee (role_of u H)) (is_invited u p H) (not (has_conflict u p H))
          (is_past_submission (phase_of H))
          (ap (last_or false) (uninvited-all p H stranger.named));
    }
      where
        by : (c i k past : Bool) → i ≡ false → ((not c && i) && k && past) ≡ false
        by c i k past h = grind (arith, h)

    -- of another's entry a stranger is shown what is public
    stranger-one : (before later : History) (stamp : Stamp) (e : Entry) → IsUnnamed u H e
        → is_told u H before later stamp.maker e ≡ true → is_number u stamp.maker ≡ false
        → IsPublicIn H (shown_to u H before later stamp e)
    stranger-one before later stamp e unnamed =
        public-one u H stranger.serving before later stamp e unnamed (far-all (paper_for u H before later stamp e))

pub strangers-shown : StrangersShown
strangers-shown u H stranger =
    all-view u H (λ (s : Sighting). s.mine ≡ false → IsPublicIn H s) (λ (e : Stamped). IsUnnamed u H e.entry)
    (λ before later stamp more e unnamed told. stranger-one u H stranger before later stamp e unnamed told)
    (unnamed-all u H H stranger.named stranger.leading)

-- nobody is a stranger
nobody-stranger : (H : History) → IsStranger None H
nobody-stranger H = record {
  author = λ p. list_any-nobody (authors_of p H);
  serving =
      ap (λ (role : Role). is_on_committee role && is_past_submission (phase_of H)) (ap (last_or Account) (no-role H));
  named = no-name H;
  leading = ap (λ (role : Role). chairs_committee role && list_any (λ (e : Stamped). is_reviewing e.entry) H)
      (ap (last_or Account) (no-role H));
}
  where
    role-entry : (e : Entry) → role_told None e ≡ []
    role-entry (Named user role) = refl
    role-entry (Dismissed user) = refl
    role-entry e = refl

    no-role : (H : History) → all_told (role_told None) H ≡ []
    no-role [] = refl
    no-role (e ∷ H) = ap (λ xs. xs ++ all_told (role_told None) H) (role-entry e.entry) ∙ no-role H

    name-entry : (e : Entry) → names_user None e ≡ false
    name-entry (Coauthor paper user) = refl
    name-entry (Conflict paper user on) = refl
    name-entry (Assigned paper user review_kind ordinal) = refl
    name-entry (Unassigned paper user ordinal) = refl
    name-entry (Invited paper user) = refl
    name-entry (Uninvited paper user) = refl
    name-entry e = refl

    no-name : (H : History) → list_any (λ (e : Stamped). names_user None e.entry) H ≡ false
    no-name [] = refl
    no-name (e ∷ H) = ap (λ b. b || list_any (λ (e : Stamped). names_user None e.entry) H) (name-entry e.entry)
        ∙ no-name H

pub nobody-shown : NobodyShown
nobody-shown H =
    let stranger = nobody-stranger H in
    all-view None H (λ (s : Sighting). IsPublicIn H s) (λ (e : Stamped). IsUnnamed None H e.entry)
    (λ before later stamp more e unnamed told. stranger-one None H stranger before later stamp e unnamed told refl)
    (unnamed-all None H H stranger.named stranger.leading)
