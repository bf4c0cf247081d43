-- SPDX-License-Identifier: Apache-2.0 OR MIT
-- Two histories that differ only in what a user isn't shown look the same to her.
use Rattle.std.proofs.Common.{◌≡◌, ℕ, suc, Bool, true, false, List, [], ◌∷◌, ◌++◌, refl, sym, ap, ◌∙◌, ◌||◌, ◌&&◌}
use Rattle.std.proofs.Common.{Option, Some, None, eqb, arith}
use Rattle.std.specs.Prelude.{◌==◌, unwrap_or, not, if◌then◌else◌}
use Rattle.std.specs.List.{flat_map, list_any}
use Rattle.std.proofs.lemmas.Bool.{true≢false}
use Rattle.std.proofs.lemmas.Bool.Decides.{nat_tests}
use Rattle.std.proofs.lemmas.List.Folds.{list_any-append}
use Rattle.cr_base.specs.declared.entry.Entry.{Entry}
use Rattle.cr_base.specs.declared.entry.Entry.TheVariants.{Registered, Named, PhaseSet, ModeSet, Submitted, Coauthor}
use Rattle.cr_base.specs.declared.entry.Entry.TheVariants.{Revised, Uploaded, Withdrawn, Conflict, Bid, Assigned}
use Rattle.cr_base.specs.declared.entry.Entry.TheVariants.{Unassigned, Reviewed, Commented, Tagged, Decided}
use Rattle.cr_base.specs.declared.entry.Entry.TheVariants.{DeadlineSet, Dismissed, Invited, Uninvited, Responded}
use Rattle.cr_base.specs.declared.entry.EntryKind.{EntryKind}
use Rattle.cr_base.specs.declared.entry.EntryKind.TheVariants as kinds
use Rattle.cr_base.specs.declared.entry.Stamp.{Stamp}
use Rattle.cr_base.specs.declared.entry.Stamped.{Stamped}
use Rattle.cr_base.specs.declared.words.Decision.TheVariants.{Reject}
use Rattle.cr_base.specs.declared.words.Kind.TheVariants.{Primary}
use Rattle.cr_base.specs.declared.words.Phase.{Phase}
use Rattle.cr_base.specs.declared.words.Phase.TheVariants.{Setup, Response}
use Rattle.cr_base.specs.declared.words.Mode.TheVariants.{Blind}
use Rattle.cr_base.specs.declared.words.Role.TheVariants.{Account}
use Rattle.cr_base.specs.Lists.{given, listed, is_number, is_nothing, last_or, until}
use Rattle.cr_base.specs.History.{History, phase_told, mode_told, role_told, author_told, conflict_told, invite_told}
use Rattle.cr_base.specs.History.{opens, title_told, upload_told, form_told, decision_told}
use Rattle.cr_base.specs.HistoryFacts.{phase_of, mode_of, role_of, authors_of, is_author, is_conflict_on, is_invited}
use Rattle.cr_base.specs.HistoryFacts.{is_accepted}
use Rattle.cr_base.specs.Phases.{committee_reads_from, is_phase}
use Rattle.cr_base.specs.Words.{is_member}
use Rattle.cr_policy.specs.Part as part
use Rattle.cr_policy.specs.Part.{Part, whole, own_parts}
use Rattle.cr_policy.specs.Sighting.{Sighting, where_shown, masked, entire}
use Rattle.cr_policy.specs.Triggers.{Reader, reader, Around, Position, position_of, TriggerRow, rows, ◌see◌}
use Rattle.cr_policy.specs.Triggers.{applies_any, shows, none_in, none_alike, user_named}
use Rattle.cr_policy.specs.View.{rows_at, sight, sights}
use Rattle.cr_policy.specs.ViewFacts.{only, is_user, role_by_kind, invite_by_kind}
use Rattle.cr_policy.specs.HiddenPayload.{all_of, Outline, outline, PlaceByPlace, IsHiddenFrom, IsDeclaredAlike}
use Rattle.cr_policy.specs.HiddenPayload.{HiddenPayload}
use Rattle.cr_policy.proofs.Walk.{is_nothing-append}

-- ---- what the table reads of an entry

-- the user whom an entry names is this one
abbrev pub names : Option ℕ → Stamped → Bool
names u e = is_user u (all_of e).user

-- the user, or another
abbrev stand_in : Option ℕ → Bool → ℕ
stand_in None is = 0
stand_in (Some m) true = m
stand_in (Some m) false = suc m

stands_in : (u : Option ℕ) (v : ℕ) → is_number u (stand_in u (is_number u v)) ≡ is_number u v
stands_in None v = refl
stands_in (Some m) v = by (m == v)
  where
    itself : (m : ℕ) → (m == m) ≡ true
    itself m = grind (arith, nat_tests)

    next : (m : ℕ) → (m == suc m) ≡ false
    next m = grind (arith, nat_tests)

    by : (b : Bool) → (m == stand_in (Some m) b) ≡ b
    by true = itself m
    by false = next m

abbrev number_in : Option ℕ → ℕ
number_in o = unwrap_or o 0

-- an entry of this outline that names this user, and is blank besides
abbrev blank_entry : Outline → ℕ → Entry
blank_entry o user = of_kind o.kind
  where
    of_kind : EntryKind → Entry
    of_kind kinds.Registered = Registered user [] []
    of_kind kinds.Named = Named user Account
    of_kind kinds.PhaseSet = PhaseSet Setup
    of_kind kinds.ModeSet = ModeSet Blind
    of_kind kinds.Submitted = Submitted (number_in o.paper) [] []
    of_kind kinds.Coauthor = Coauthor (number_in o.paper) user
    of_kind kinds.Revised = Revised (number_in o.paper) [] []
    of_kind kinds.Uploaded = Uploaded (number_in o.paper) 0 []
    of_kind kinds.Withdrawn = Withdrawn (number_in o.paper)
    of_kind kinds.Conflict = Conflict (number_in o.paper) user false
    of_kind kinds.Bid = Bid (number_in o.paper) 0
    of_kind kinds.Assigned = Assigned (number_in o.paper) user Primary 0
    of_kind kinds.Unassigned = Unassigned (number_in o.paper) user 0
    of_kind kinds.Reviewed =
        Reviewed (number_in o.paper) (number_in o.ordinal) 0
        (record { score = 0; confidence = 0; to_authors = []; to_pc = [] })
    of_kind kinds.Commented = Commented (number_in o.paper) 0 None []
    of_kind kinds.Tagged = Tagged (number_in o.paper) (unwrap_or o.tag []) false
    of_kind kinds.Decided = Decided (number_in o.paper) Reject
    of_kind kinds.DeadlineSet = DeadlineSet Setup None
    of_kind kinds.Dismissed = Dismissed user
    of_kind kinds.Invited = Invited (number_in o.paper) user
    of_kind kinds.Uninvited = Uninvited (number_in o.paper) user
    of_kind kinds.Responded = Responded (number_in o.paper) []

-- the same, where it is told of the reader alone whether she is named
abbrev plain : Option ℕ → Stamped → Entry
plain u e = blank_entry (outline e) (stand_in u (names u e))

-- the rows behind the first
abbrev pub behind : List TriggerRow → List TriggerRow
behind [] = []
behind (row ∷ rows) = rows

-- the rows read no more of an entry than its outline, and whether it names the reader
rows-plain : (r : Reader) (at : Position) (by : ℕ) (e : Stamped)
    → rows r at by e.entry ≡ rows r at by (plain r.number e)
rows-plain r at by e = of e.entry
  where
    of : (entry : Entry) → rows r at by entry
        ≡ rows r at by (plain r.number (record { stamp = e.stamp; more = e.more; entry = entry }))
    of (Conflict paper user on) =
        λ i. (sym (stands_in r.number user) i see whole) ∷ behind (rows r at by (Conflict paper user on))
    of (Assigned paper user review_kind ordinal) =
        λ i. (sym (stands_in r.number user) i see whole)
        ∷ behind (rows r at by (Assigned paper user review_kind ordinal))
    of (Unassigned paper user ordinal) =
        λ i. (sym (stands_in r.number user) i see whole) ∷ behind (rows r at by (Unassigned paper user ordinal))
    of (Invited paper user) =
        λ i. (sym (stands_in r.number user) i see whole) ∷ behind (rows r at by (Invited paper user))
    of (Uninvited paper user) =
        λ i. (sym (stands_in r.number user) i see whole) ∷ behind (rows r at by (Uninvited paper user))
    of entry = refl

-- so entries alike in these have the same rows
same_rows : (r : Reader) (at : Position) (by : ℕ) (e other : Stamped) → outline e ≡ outline other
    → names r.number e ≡ names r.number other
    → rows r at by e.entry ≡ rows r at by other.entry
same_rows r at by e other alike named =
    rows-plain r at by e
    ∙ (λ i. rows r at by (blank_entry (alike i) (stand_in r.number (named i))))
    ∙ sym (rows-plain r at by other)

-- ---- what is the same in one place

-- two entries that look the same to a user for all that the table asks: outlines, who made them and whom they name,
-- as far as that is she, what sets the phase, the mode or a role, and whether a conflict of hers is on
pub record SamePlace (u : Option ℕ) (e other : Stamped) : Type 0 where
  pub alike : outline e ≡ outline other
  pub maker : is_number u e.stamp.maker ≡ is_number u other.stamp.maker
  pub named : names u e ≡ names u other
  pub phase : (all_of e).phase ≡ (all_of other).phase
  pub mode : (all_of e).mode ≡ (all_of other).mode
  pub role : (all_of e).role ≡ (all_of other).role
  pub on : names u e ≡ true → (all_of e).on ≡ (all_of other).on

-- of all places
abbrev pub SamePlaces : Option ℕ → History → History → Type 0
SamePlaces u [] [] = Unit {0}
SamePlaces u (e ∷ H) (other ∷ H') = SamePlace u e other × SamePlaces u H H'
SamePlaces u _ _ = ⊥

-- what is told in each place alike is told of the whole
pub told-same : {A : Type 0} (u : Option ℕ) (told : Stamped → List A)
    → ((e other : Stamped) → SamePlace u e other → told e ≡ told other)
    → (H H' : History) → SamePlaces u H H' → flat_map told H ≡ flat_map told H'
told-same u told each [] [] same = refl
told-same u told each [] (other ∷ H') same = absurd same
told-same u told each (e ∷ H) [] same = absurd same
told-same u told each (e ∷ H) (other ∷ H') same =
    ap (λ xs. xs ++ flat_map told H) (each e other same.0)
    ∙ ap (λ xs. told other ++ xs) (told-same u told each H H' same.1)

-- ---- where an entry stands

-- a test of one entry that goes by its outline
abbrev ByOutline : {A : Type 0} → (Entry → List A) → Type 0
ByOutline told = (e : Stamped) → is_nothing (told e.entry) ≡ is_nothing (told (blank_entry (outline e) 0))

given-is_nothing : {A : Type 0} (b : Bool) (x y : A) → is_nothing (given b x) ≡ is_nothing (given b y)
given-is_nothing true x y = refl
given-is_nothing false x y = refl

titles-outlined : (p : ℕ) → ByOutline (title_told p)
titles-outlined p e = of e.entry
  where
    of : (entry : Entry) → is_nothing (title_told p entry)
        ≡ is_nothing (title_told p (blank_entry (outline (record { stamp = e.stamp; more = e.more; entry = entry })) 0))
    of (Submitted paper title abstract) = given-is_nothing (eqb paper p) title []
    of (Revised paper title abstract) = given-is_nothing (eqb paper p) title []
    of entry = refl

uploads-outlined : (p : ℕ) → ByOutline (upload_told p)
uploads-outlined p e = of e.entry
  where
    of : (entry : Entry) → is_nothing (upload_told p entry)
        ≡ is_nothing
        (upload_told p (blank_entry (outline (record { stamp = e.stamp; more = e.more; entry = entry })) 0))
    of (Uploaded paper version content) = given-is_nothing (eqb paper p) _ _
    of entry = refl

forms-outlined : (p o : ℕ) → ByOutline (form_told p o)
forms-outlined p o e = of e.entry
  where
    of : (entry : Entry) → is_nothing (form_told p o entry)
        ≡ is_nothing
        (form_told p o (blank_entry (outline (record { stamp = e.stamp; more = e.more; entry = entry })) 0))
    of (Reviewed paper ordinal version form) = given-is_nothing (eqb paper p && eqb ordinal o) _ _
    of entry = refl

decisions-outlined : (p : ℕ) → ByOutline (decision_told p)
decisions-outlined p e = of e.entry
  where
    of : (entry : Entry) → is_nothing (decision_told p entry)
        ≡ is_nothing
        (decision_told p (blank_entry (outline (record { stamp = e.stamp; more = e.more; entry = entry })) 0))
    of (Decided paper decision) = given-is_nothing (eqb paper p) decision Reject
    of entry = refl

-- so whether any entry tells of it is the same of both histories
none_in-same : {A : Type 0} (told : Entry → List A) → ByOutline told → (u : Option ℕ) (H H' : History)
    → SamePlaces u H H'
    → none_in told H ≡ none_in told H'
none_in-same told by u [] [] same = refl
none_in-same told by u [] (other ∷ H') same = absurd same
none_in-same told by u (e ∷ H) [] same = absurd same
none_in-same told by u (e ∷ H) (other ∷ H') same =
    is_nothing-append (told e.entry) (flat_map (λ (e : Stamped). told e.entry) H)
    ∙ (λ i. here i && none_in-same told by u H H' same.1 i)
    ∙ sym (is_nothing-append (told other.entry) (flat_map (λ (e : Stamped). told e.entry) H'))
  where
    here : is_nothing (told e.entry) ≡ is_nothing (told other.entry)
    here = by e ∙ (λ i. is_nothing (told (blank_entry (same.0.alike i) 0))) ∙ sym (by other)

-- whether any is of the same series, for one entry and two histories; and for two entries
none_alike-histories : (e : Entry) (u : Option ℕ) (H H' : History) → SamePlaces u H H'
    → none_alike e H ≡ none_alike e H'
none_alike-histories (Submitted paper title abstract) u H H' same =
    none_in-same (title_told paper) (titles-outlined paper) u H H' same
none_alike-histories (Revised paper title abstract) u H H' same =
    none_in-same (title_told paper) (titles-outlined paper) u H H' same
none_alike-histories (Uploaded paper version content) u H H' same =
    none_in-same (upload_told paper) (uploads-outlined paper) u H H' same
none_alike-histories (Reviewed paper ordinal version form) u H H' same =
    none_in-same (form_told paper ordinal) (forms-outlined paper ordinal) u H H' same
none_alike-histories (Decided paper decision) u H H' same =
    none_in-same (decision_told paper) (decisions-outlined paper) u H H' same
none_alike-histories e u H H' same = refl

none_alike-outlined : (e : Stamped) (H : History) → none_alike e.entry H ≡ none_alike (blank_entry (outline e) 0) H
none_alike-outlined e H = of e.entry
  where
    of : (entry : Entry) → none_alike entry H
        ≡ none_alike (blank_entry (outline (record { stamp = e.stamp; more = e.more; entry = entry })) 0) H
    of (Submitted paper title abstract) = refl
    of entry = refl

none_alike-same : (u : Option ℕ) (e other : Stamped) → outline e ≡ outline other → (H H' : History) → SamePlaces u H H'
    → none_alike e.entry H ≡ none_alike other.entry H'
none_alike-same u e other alike H H' same =
    none_alike-histories e.entry u H H' same
    ∙ none_alike-outlined e H'
    ∙ (λ i. none_alike (blank_entry (alike i) 0) H')
    ∙ sym (none_alike-outlined other H')

-- the phase that an entry of this outline opens, where its kind does
abbrev opened_by : Outline → Option Phase → List Phase
opened_by o phase = of_kind o.kind
  where
    of_kind : EntryKind → List Phase
    of_kind kinds.PhaseSet = listed phase
    of_kind _ = []

-- a phase is opened in the same place
abbrev opens_at : Phase → Stamped → Bool
opens_at first e = opens first e.entry

opens-phase : (first : Phase) (e : Stamped)
    → opens_at first e ≡ list_any (λ (phase : Phase). is_phase phase first) (opened_by (outline e) (all_of e).phase)
opens-phase first e = of e.entry
  where
    of : (entry : Entry) → opens_at first (record { stamp = e.stamp; more = e.more; entry = entry })
        ≡ list_any (λ (phase : Phase). is_phase phase first)
        (opened_by (outline (record { stamp = e.stamp; more = e.more; entry = entry }))
        (all_of (record { stamp = e.stamp; more = e.more; entry = entry })).phase)
    of (PhaseSet phase) = by (is_phase phase first)
      where
        by : (b : Bool) → b ≡ (b || false)
        by true = refl
        by false = refl
    of entry = refl

opens-same : (first : Phase) (u : Option ℕ) (e other : Stamped) → SamePlace u e other
    → opens_at first e ≡ opens_at first other
opens-same first u e other same =
    opens-phase first e
    ∙ (λ i. list_any (λ (phase : Phase). is_phase phase first) (opened_by (same.alike i) (same.phase i)))
    ∙ sym (opens-phase first other)

opened-same : (first : Phase) (u : Option ℕ) (H H' : History) → SamePlaces u H H'
    → list_any (opens_at first) H ≡ list_any (opens_at first) H'
opened-same first u [] [] same = refl
opened-same first u [] (other ∷ H') same = absurd same
opened-same first u (e ∷ H) [] same = absurd same
opened-same first u (e ∷ H) (other ∷ H') same =
    λ i. opens-same first u e other same.0 i || opened-same first u H H' same.1 i

-- up to there they are alike
until-same : (first : Phase) (u : Option ℕ) (H H' : History) → SamePlaces u H H'
    → SamePlaces u (until (opens_at first) H) (until (opens_at first) H')
until-same first u [] [] same = tt
until-same first u [] (other ∷ H') same = absurd same
until-same first u (e ∷ H) [] same = absurd same
until-same first u (e ∷ H) (other ∷ H') same =
    by (opens_at first e) (opens_at first other) (opens-same first u e other same.0)
    (same.0, until-same first u H H' same.1)
  where
    by : (a b : Bool) → a ≡ b → SamePlaces u (e ∷ until (opens_at first) H) (other ∷ until (opens_at first) H')
        → SamePlaces u (if a then [] else e ∷ until (opens_at first) H)
        (if b then [] else other ∷ until (opens_at first) H')
    by true true is rest = tt
    by true false is rest = absurd (true≢false is)
    by false true is rest = absurd (true≢false (sym is))
    by false false is rest = rest

-- what stands around one place is alike in both
pub record SameAround (u : Option ℕ) (at at' : Around) : Type 0 where
  pub before : SamePlaces u at.before at'.before
  pub after : SamePlaces u at.after at'.after

position-same : (u : Option ℕ) (at at' : Around) (e other : Stamped) → SameAround u at at' → outline e ≡ outline other
    → position_of at e.entry ≡ position_of at' other.entry
position-same u at at' e other around alike = λ i. record {
  first = none_alike-same u e other alike at.before at'.before around.before i;
  last = none_alike-same u e other alike at.after at'.after around.after i;
  last_before_response = not (opened Response i) && none_before Response i;
  last_before_discussion = not (opened committee_reads_from i) && none_before committee_reads_from i;
  from_discussion = opened committee_reads_from i;
}
  where
    opened : (first : Phase) → list_any (opens_at first) at.before ≡ list_any (opens_at first) at'.before
    opened first = opened-same first u at.before at'.before around.before

    none_before : (first : Phase) → none_alike e.entry (until (opens_at first) at.after) ≡ none_alike other.entry
        (until (opens_at first) at'.after)
    none_before first =
        none_alike-same u e other alike (until (opens_at first) at.after) (until (opens_at first) at'.after)
        (until-same first u at.after at'.after around.after)

-- ---- who reads

-- the phase, the mode and the role that an entry tells stand in it
phase-part : (e : Stamped) → phase_told e.entry ≡ opened_by (outline e) (all_of e).phase
phase-part e = of e.entry
  where
    of : (entry : Entry) → phase_told entry
        ≡ opened_by (outline (record { stamp = e.stamp; more = e.more; entry = entry }))
        (all_of (record { stamp = e.stamp; more = e.more; entry = entry })).phase
    of (PhaseSet phase) = refl
    of entry = refl

mode-part : (e : Stamped) → mode_told e.entry ≡ listed (all_of e).mode
mode-part e = of e.entry
  where
    of : (entry : Entry) → mode_told entry ≡ listed
        (all_of (record { stamp = e.stamp; more = e.more; entry = entry })).mode
    of (ModeSet mode) = refl
    of entry = refl

given-only : {A : Type 0} (b : Bool) (x : A) → given b x ≡ only b (x ∷ [])
given-only true x = refl
given-only false x = refl

role-part : (u : Option ℕ) (e : Stamped)
    → role_told u e.entry ≡ only (names u e) (role_by_kind (outline e).kind (all_of e).role)
role-part u e = of e.entry
  where
    of : (entry : Entry) → role_told u entry
        ≡ only (names u (record { stamp = e.stamp; more = e.more; entry = entry }))
        (role_by_kind (outline (record { stamp = e.stamp; more = e.more; entry = entry })).kind
        (all_of (record { stamp = e.stamp; more = e.more; entry = entry })).role)
    of (Named user role) = given-only (is_number u user) role
    of (Dismissed user) = given-only (is_number u user) Account
    of entry = refl

-- whether it turns a conflict of the user's on or off
abbrev conflict_with : ℕ → Outline → Bool → Option Bool → List Bool
conflict_with p o named on = only (named && is_number o.paper p) (of_kind o.kind)
  where
    of_kind : EntryKind → List Bool
    of_kind kinds.Conflict = listed on
    of_kind _ = []

-- it and the paper that is asked for are named
turned : (a b x : Bool) → given (a && b) x ≡ only (b && a) (x ∷ [])
turned true true x = refl
turned true false x = refl
turned false true x = refl
turned false false x = refl

conflict-part : (u : Option ℕ) (p : ℕ) (e : Stamped)
    → conflict_told u p e.entry ≡ conflict_with p (outline e) (names u e) (all_of e).on
conflict-part u p e = of e.entry
  where
    of : (entry : Entry) → conflict_told u p entry
        ≡ conflict_with p (outline (record { stamp = e.stamp; more = e.more; entry = entry }))
        (names u (record { stamp = e.stamp; more = e.more; entry = entry }))
        (all_of (record { stamp = e.stamp; more = e.more; entry = entry })).on
    of (Conflict paper user on) = turned (eqb paper p) (is_number u user) on
    of entry = refl

-- whether it invites the user, or takes that back
abbrev invite_with : ℕ → Outline → Bool → List Bool
invite_with p o named = only (named && is_number o.paper p) (invite_by_kind o.kind)

invite-part : (u : Option ℕ) (p : ℕ) (e : Stamped) → invite_told u p e.entry ≡ invite_with p (outline e) (names u e)
invite-part u p e = of e.entry
  where
    of : (entry : Entry) → invite_told u p entry
        ≡ invite_with p (outline (record { stamp = e.stamp; more = e.more; entry = entry }))
        (names u (record { stamp = e.stamp; more = e.more; entry = entry }))
    of (Invited paper user) = turned (eqb paper p) (is_number u user) true
    of (Uninvited paper user) = turned (eqb paper p) (is_number u user) false
    of entry = refl

phase-same : (u : Option ℕ) (H H' : History) → SamePlaces u H H' → phase_of H ≡ phase_of H'
phase-same u H H' same =
    ap (last_or Setup)
    (told-same u (λ (e : Stamped). phase_told e.entry)
    (λ e other here. phase-part e ∙ (λ i. opened_by (here.alike i) (here.phase i)) ∙ sym (phase-part other)) H H'
    same)

mode-same : (u : Option ℕ) (H H' : History) → SamePlaces u H H' → mode_of H ≡ mode_of H'
mode-same u H H' same =
    ap (last_or Blind)
    (told-same u (λ (e : Stamped). mode_told e.entry)
    (λ e other here. mode-part e ∙ ap listed here.mode ∙ sym (mode-part other)) H H' same)

role-same : (u : Option ℕ) (H H' : History) → SamePlaces u H H' → role_of u H ≡ role_of u H'
role-same u H H' same =
    ap (last_or Account)
    (told-same u (λ (e : Stamped). role_told u e.entry)
    (λ e other here. role-part u e ∙ (λ i. only (here.named i) (role_by_kind (here.alike i).kind (here.role i)))
    ∙ sym (role-part u other)) H H' same)

invite-same : (u : Option ℕ) (p : ℕ) (H H' : History) → SamePlaces u H H' → is_invited u p H ≡ is_invited u p H'
invite-same u p H H' same =
    ap (last_or false)
    (told-same u (λ (e : Stamped). invite_told u p e.entry)
    (λ e other here. invite-part u p e ∙ (λ i. invite_with p (here.alike i) (here.named i))
    ∙ sym (invite-part u p other)) H H' same)

conflict-same : (u : Option ℕ) (p : ℕ) (H H' : History) → SamePlaces u H H'
    → is_conflict_on u p H ≡ is_conflict_on u p H'
conflict-same u p H H' same =
    ap (last_or false)
    (told-same u (λ (e : Stamped). conflict_told u p e.entry)
    (λ e other here.
    conflict-part u p e
    ∙ on_alike (names u e) (outline e) (all_of e).on (all_of other).on here.on
    ∙ (λ i. conflict_with p (here.alike i) (here.named i) (all_of other).on)
    ∙ sym (conflict-part u p other)) H H' same)
  where
    none : (xs ys : List Bool) → only false xs ≡ only false ys
    none [] [] = refl
    none [] (y ∷ ys) = refl
    none (x ∷ xs) [] = refl
    none (x ∷ xs) (y ∷ ys) = refl

    on_alike : (named : Bool) (o : Outline) (on on' : Option Bool) → (named ≡ true → on ≡ on')
        → conflict_with p o named on ≡ conflict_with p o named on'
    on_alike true o on on' h = ap (conflict_with p o true) (h refl)
    on_alike false o on on' h = none _ _

-- whether she is among the authors whom an entry gives a paper
author-plain : (u : Option ℕ) (p : ℕ) (e : Stamped) → list_any (is_number u) (author_told p e.stamp.maker e.entry)
    ≡ list_any (is_number u) (author_told p (stand_in u (is_number u e.stamp.maker)) (plain u e))
author-plain u p e = of e.entry
  where
    among : (b : Bool) (v w : ℕ) → is_number u v ≡ is_number u w
        → list_any (is_number u) (given b v) ≡ list_any (is_number u) (given b w)
    among true v w h = ap (λ is. is || false) h
    among false v w h = refl

    of : (entry : Entry) → list_any (is_number u) (author_told p e.stamp.maker entry)
        ≡ list_any (is_number u) (author_told p (stand_in u (is_number u e.stamp.maker))
        (plain u (record { stamp = e.stamp; more = e.more; entry = entry })))
    of (Submitted paper title abstract) =
        among (eqb paper p) e.stamp.maker (stand_in u (is_number u e.stamp.maker)) (sym (stands_in u e.stamp.maker))
    of (Coauthor paper user) = among (eqb paper p) user (stand_in u (is_number u user)) (sym (stands_in u user))
    of entry = refl

author-same : (u : Option ℕ) (p : ℕ) (H H' : History) → SamePlaces u H H' → is_author u p H ≡ is_author u p H'
author-same u p [] [] same = refl
author-same u p [] (other ∷ H') same = absurd same
author-same u p (e ∷ H) [] same = absurd same
author-same u p (e ∷ H) (other ∷ H') same =
    list_any-append (is_number u) (author_told p e.stamp.maker e.entry) (authors_of p H)
    ∙ (λ i. here i || author-same u p H H' same.1 i)
    ∙ sym (list_any-append (is_number u) (author_told p other.stamp.maker other.entry) (authors_of p H'))
  where
    here : list_any (is_number u) (author_told p e.stamp.maker e.entry) ≡ list_any (is_number u)
        (author_told p other.stamp.maker other.entry)
    here =
        author-plain u p e
        ∙
        (λ i. list_any (is_number u) (author_told p (stand_in u (same.0.maker i))
        (blank_entry (same.0.alike i) (stand_in u (same.0.named i)))))
        ∙ sym (author-plain u p other)

-- the reader, where others may be authors of papers
abbrev pub where_wrote : Reader → (ℕ → ℕ → Bool) → Reader
where_wrote r wrote = record r { wrote = wrote }

-- at the ends of both she is the same reader, but for who else is an author of what
reader-same : (u : Option ℕ) (H H' : History) → SamePlaces u H H' → ((p : ℕ) → is_accepted p H ≡ is_accepted p H')
    → where_wrote (reader u H) (reader u H').wrote ≡ reader u H'
reader-same u H H' same accepted = λ i. record {
  number = u;
  now = phase-same u H H' same i;
  had_response = opened-same Response u H H' same i;
  mode = mode-same u H H' same i;
  rank = role-same u H H' same i;
  author = λ p. author-same u p H H' same i;
  conflicted = λ p. author-same u p H H' same i || conflict-same u p H H' same i;
  external = λ p. not (is_member (role-same u H H' same i)) && invite-same u p H H' same i;
  wrote = (reader u H').wrote;
  accepted = λ p. accepted p i;
}

-- ---- what is shown in one place

-- a conflict with the reader's paper is an author's whichever of the two made it
abbrev pub MadeAlike : Reader → (ℕ → ℕ → Bool) → Entry → ℕ → ℕ → Type 0
MadeAlike r wrote (Conflict paper user on) by by' = r.author paper ≡ true → r.wrote by paper ≡ wrote by' paper
MadeAlike r wrote _ by by' = Unit {0}

-- then the rows are the same for all that they ask of others
pub wrote-rows : (r : Reader) (wrote : ℕ → ℕ → Bool) (at : Position) (by by' : ℕ) (e : Entry)
    → MadeAlike r wrote e by by'
    → rows r at by e ≡ rows (where_wrote r wrote) at by' e
wrote-rows r wrote at by by' (Conflict paper user on) made =
    λ i. (is_number r.number user see whole)
    ∷ (both (r.author paper) (r.wrote by paper) (wrote by' paper) made i see whole)
    ∷ behind (behind (rows r at by (Conflict paper user on)))
  where
    both : (author a b : Bool) → (author ≡ true → a ≡ b) → (a && author) ≡ (b && author)
    both true a b h = ap (λ c. c && true) (h refl)
    both false true true h = refl
    both false true false h = refl
    both false false true h = refl
    both false false false h = refl
wrote-rows r wrote at by by' e made = refl

-- the sighting of an entry, by the rows for it
abbrev pub seen_by : List TriggerRow → Bool → Stamped → List Sighting
seen_by shown mine e = given (applies_any shown) (masked (shows shown) mine (all_of e))

-- the rows for an entry, of the table alone and with its maker's line
abbrev with_makers : Reader → ℕ → List TriggerRow → List TriggerRow
with_makers r maker table = table ++ user_named r maker see own_parts ∷ []

-- of an entry under this stamp, the rows for one that `by` made and the line of hers mask nothing of this part
abbrev IsShown : {A : Type 0} → Part → (Sighting → Option A) → Reader → Position → ℕ → Stamp → Entry → Type 0
IsShown p part_of r at by stamp e =
    where_shown (shows (with_makers r by (rows r at by e)) p) (part_of (entire stamp e)) ≡ part_of (entire stamp e)

-- so it is of what everyone is shown
phase-shown : (r : Reader) (at : Position) (by : ℕ) (stamp : Stamp) (e : Entry)
    → IsShown part.phase (λ (s : Sighting). s.phase) r at by stamp e
phase-shown r at by stamp (PhaseSet phase) = refl
phase-shown r at by stamp e = refl

mode-shown : (r : Reader) (at : Position) (by : ℕ) (stamp : Stamp) (e : Entry)
    → IsShown part.mode (λ (s : Sighting). s.mode) r at by stamp e
mode-shown r at by stamp (ModeSet mode) = refl
mode-shown r at by stamp e = refl

role-shown : (r : Reader) (at : Position) (by : ℕ) (stamp : Stamp) (e : Entry)
    → IsShown part.role (λ (s : Sighting). s.role) r at by stamp e
role-shown r at by stamp (Named user role) = refl
role-shown r at by stamp e = refl

-- and of whether a conflict of hers is on
on-shown : (r : Reader) (at : Position) (by : ℕ) (stamp : Stamp) (e : Entry)
    → is_user r.number (entire stamp e).user ≡ true
    → IsShown part.on (λ (s : Sighting). s.on) r at by stamp e
on-shown r at by stamp (Conflict paper user on) h =
    ap
    (λ named. where_shown (named || shows (with_makers r by (behind (rows r at by (Conflict paper user on)))) part.on)
    (Some on)) h
on-shown r at by stamp (Tagged paper tag on) h = absurd (true≢false (sym h))
on-shown r at by stamp e h = refl

-- a part that the rows show of the one entry, and so of the other, is the same
module _ (r : Reader) (at : Around) (e other : Stamped) (alike : outline e ≡ outline other)
    (hidden : IsHiddenFrom r at e other) where
  others-rows : rows_at r at e ≡ with_makers r e.stamp.maker (rows r (position_of at e.entry) e.stamp.maker other.entry)
  others-rows =
      ap (with_makers r e.stamp.maker) (same_rows r (position_of at e.entry) e.stamp.maker e other alike hidden.user)

  part-same : {A : Type 0} (p : Part) (part_of : Sighting → Option A)
      → (part_of (masked (shows (rows_at r at e)) false (all_of e)) ≡ where_shown (shows (rows_at r at e) p)
      (part_of (all_of e)))
      → (part_of (masked (shows (rows_at r at e)) false (all_of other)) ≡ where_shown (shows (rows_at r at e) p)
      (part_of (all_of other)))
      → IsShown p part_of r (position_of at e.entry) e.stamp.maker e.stamp e.entry
      → IsShown p part_of r (position_of at e.entry) e.stamp.maker other.stamp other.entry
      → part_of (all_of e) ≡ part_of (all_of other)
  part-same p part_of one two first second =
      sym first
      ∙ sym one
      ∙ ap part_of hidden.parts
      ∙ two
      ∙ ap (λ shown. where_shown (shows shown p) (part_of (all_of other))) others-rows
      ∙ second

  same_place : SamePlace r.number e other
  same_place = record {
    alike = alike;
    maker = hidden.maker;
    named = hidden.user;
    phase = part-same part.phase (λ s. s.phase) refl refl (phase-shown r pos e.stamp.maker e.stamp e.entry)
        (phase-shown r pos e.stamp.maker other.stamp other.entry);
    mode = part-same part.mode (λ s. s.mode) refl refl (mode-shown r pos e.stamp.maker e.stamp e.entry)
        (mode-shown r pos e.stamp.maker other.stamp other.entry);
    role = part-same part.role (λ s. s.role) refl refl (role-shown r pos e.stamp.maker e.stamp e.entry)
        (role-shown r pos e.stamp.maker other.stamp other.entry);
    on = λ named.
        part-same part.on (λ s. s.on) refl refl (on-shown r pos e.stamp.maker e.stamp e.entry named)
        (on-shown r pos e.stamp.maker other.stamp other.entry (sym hidden.user ∙ named));
  }
    where
      pos : Position
      pos = position_of at e.entry

  -- what is shown of both, where all that stands around them is alike, and the reader the same but for who else is an
  -- author of what
  pub sight-same : (r' : Reader) (at' : Around) → where_wrote r r'.wrote ≡ r' → r.number ≡ r'.number
      → SameAround r.number at at'
      → MadeAlike r r'.wrote e.entry e.stamp.maker other.stamp.maker → sight r at e ≡ sight r' at' other
  sight-same r' at' is number around made =
      (λ i. given (applies_any (rows_at r at e)) (record (hidden.parts i) { mine = user_named r e.stamp.maker }))
      ∙ (λ i. seen_by (all_rows i) (mine i) other)
    where
      mine : user_named r e.stamp.maker ≡ user_named r' other.stamp.maker
      mine = hidden.maker ∙ (λ i. is_number (number i) other.stamp.maker)

      all_rows : rows_at r at e ≡ rows_at r' at' other
      all_rows =
          (λ i. wrote-rows r r'.wrote (position_of at e.entry) e.stamp.maker other.stamp.maker e.entry made i
          ++ mine i see own_parts ∷ [])
          ∙ (λ i. same_rows (where_wrote r r'.wrote) (position-same r.number at at' e other around alike i)
          other.stamp.maker e other alike hidden.user i ++ user_named r' other.stamp.maker see own_parts ∷ [])
          ∙ (λ i. rows (is i) (position_of at' other.entry) other.stamp.maker other.entry
          ++ user_named r' other.stamp.maker see own_parts ∷ [])

-- ---- place by place

module _ (P Q : Around → Stamped → Stamped → Type 0)
    (so : (at : Around) (e other : Stamped) → P at e other → Q at e other) where
  -- what holds then of each place
  pub places-so : (before H H' : History) → PlaceByPlace P before H H' → PlaceByPlace Q before H H'
  places-so before [] [] h = tt
  places-so before [] (other ∷ H') h = absurd h
  places-so before (e ∷ H) [] h = absurd h
  places-so before (e ∷ H) (other ∷ H') h =
      (so (record { before = before; after = H }) e other h.0, places-so (before ++ e ∷ []) H H' h.1)

-- ---- all that is shown

-- from the first two conditions
same_places : (r : Reader) (before H H' : History) → PlaceByPlace (λ at e other. outline e ≡ outline other) before H H'
    → PlaceByPlace (IsHiddenFrom r) before H H' → SamePlaces r.number H H'
same_places r before [] [] alike hidden = tt
same_places r before [] (other ∷ H') alike hidden = absurd alike
same_places r before (e ∷ H) [] alike hidden = absurd alike
same_places r before (e ∷ H) (other ∷ H') alike hidden = (
  same_place r (record { before = before; after = H }) e other alike.0 hidden.0,
  same_places r (before ++ e ∷ []) H H' alike.1 hidden.1,
)

-- one place more
pub same_places-snoc : (u : Option ℕ) (e other : Stamped) (H H' : History) → SamePlace u e other → SamePlaces u H H'
    → SamePlaces u (H ++ e ∷ []) (H' ++ other ∷ [])
same_places-snoc u e other [] [] here same = (here, tt)
same_places-snoc u e other [] (x ∷ H') here same = absurd same
same_places-snoc u e other (x ∷ H) [] here same = absurd same
same_places-snoc u e other (x ∷ H) (y ∷ H') here same = (same.0, same_places-snoc u e other H H' here same.1)

-- by the fourth condition
made_alike : (u : Option ℕ) (G G' : History) (e : Entry) (by by' : ℕ) → IsDeclaredAlike u G G' e by by'
    → MadeAlike (reader u G) (reader u G').wrote e by by'
made_alike u G G' (Conflict paper user on) by by' made = made
made_alike u G G' e by by' made = tt

-- what entries of two such histories G and G' show, behind those that stand before them
hidden-sights : (u : Option ℕ) (G G' : History) → where_wrote (reader u G) (reader u G').wrote ≡ reader u G'
    → (before before' H H' : History) → SamePlaces u before before'
    → PlaceByPlace (λ at e other. outline e ≡ outline other) before H H'
    → PlaceByPlace (IsHiddenFrom (reader u G)) before H H'
    → PlaceByPlace (λ at e other. IsDeclaredAlike u G G' e.entry e.stamp.maker other.stamp.maker) before H H'
    → sights (reader u G) before H ≡ sights (reader u G') before' H'
hidden-sights u G G' is before before' [] [] stood alike hidden made = refl
hidden-sights u G G' is before before' [] (other ∷ H') stood alike hidden made = absurd alike
hidden-sights u G G' is before before' (e ∷ H) [] stood alike hidden made = absurd alike
hidden-sights u G G' is before before' (e ∷ H) (other ∷ H') stood alike hidden made =
    let at : Around = record { before = before; after = H } in
    let at' : Around = record { before = before'; after = H' } in
    let here : SamePlace u e other = same_place (reader u G) at e other alike.0 hidden.0 in
    let later : SamePlaces u H H' = same_places (reader u G) (before ++ e ∷ []) H H' alike.1 hidden.1 in
    let rest = hidden-sights u G G' is (before ++ e ∷ []) (before' ++ other ∷ []) H H'
    (same_places-snoc u e other before before' here stood) alike.1 hidden.1 made.1 in
    let first = sight-same (reader u G) at e other alike.0 hidden.0 (reader u G') at' is refl
    (record { before = stood; after = later }) (made_alike u G G' e.entry e.stamp.maker other.stamp.maker made.0) in
    λ i. first i ++ rest i

pub hidden_payload : HiddenPayload
hidden_payload u H H' differs =
    let same = same_places (reader u H) [] H H' differs.alike differs.hidden in
    hidden-sights u H H' (reader-same u H H' same differs.accepted) [] [] H H' tt differs.alike differs.hidden
    differs.declared
