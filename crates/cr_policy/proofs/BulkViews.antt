-- SPDX-License-Identifier: Apache-2.0 OR MIT
-- What a user sees behind an entry of her own that the row of a bulk added: what she saw before it, and all of the
-- entry.
use Rattle.std.proofs.Common.{ℕ, Bool, true, false, ◌≡◌, List, [], ◌∷◌, ◌++◌, eqb, refl, sym, ap, ◌∙◌, ◌||◌, ◌&&◌}
use Rattle.std.proofs.Common.{append_assoc, append-nil, Some}
use Rattle.std.specs.Prelude.{not, IsFalse}
use Rattle.std.specs.List.{flat_map, list_any}
use Rattle.std.proofs.lemmas.Bool.{eq-eqb, or_right}
use Rattle.std.proofs.lemmas.List.Concat.{flat_map-append}
use Rattle.std.proofs.lemmas.List.Folds.{list_any-append}
use Rattle.std.proofs.Math.Bool.{or-false}
use Rattle.cr_base.specs.declared.entry.Entry.{Entry}
use Rattle.cr_base.specs.declared.entry.Entry.TheVariants.{Registered, Named, PhaseSet, ModeSet, Submitted, Coauthor}
use Rattle.cr_base.specs.declared.entry.Entry.TheVariants.{Revised, Uploaded, Withdrawn, Conflict, Assigned, Unassigned}
use Rattle.cr_base.specs.declared.entry.Entry.TheVariants.{Reviewed, Tagged, Decided, Dismissed, Invited, Uninvited}
use Rattle.cr_base.specs.declared.entry.Stamp.{Stamp}
use Rattle.cr_base.specs.declared.entry.Stamped.{Stamped}
use Rattle.cr_base.specs.declared.words.Mode.TheVariants.{Blind}
use Rattle.cr_base.specs.declared.words.Phase.{Phase}
use Rattle.cr_base.specs.declared.words.Phase.TheVariants.{Setup, Response}
use Rattle.cr_base.specs.declared.words.Role.TheVariants.{Account}
use Rattle.cr_base.specs.Decisions.{is_accepted_when}
use Rattle.cr_base.specs.Drawn.{stamped}
use Rattle.cr_base.specs.History.{History, phase_told, mode_told, role_told, author_told, conflict_told}
use Rattle.cr_base.specs.History.{withdrawal_told, decision_told, registration_told, invite_told, title_told}
use Rattle.cr_base.specs.History.{upload_told, form_told, opens}
use Rattle.cr_base.specs.HistoryFacts.{had_response_of}
use Rattle.cr_base.specs.Lists.{given, last, last_or, is_nothing, is_number, until}
use Rattle.cr_base.specs.Words.{is_member}
use Rattle.cr_base.specs.Bulk.{IsRowEntry}
use Rattle.cr_base.specs.Phases.{committee_reads_from}
use Rattle.cr_base.proofs.Small.{eqb-swap}
use Rattle.cr_history.specs.Invariants.{IsRegistered}
use Rattle.cr_history.proofs.ListCuts.{until-none, until-append, until-before}
use Rattle.cr_policy.specs.Part.{Part, own_parts}
use Rattle.cr_policy.specs.Sighting.{Sighting, entire, masked, sighting}
use Rattle.cr_policy.specs.Triggers.{Reader, Around, Position, position_of, reader, none_alike, TriggerRow, ◌see◌, rows}
use Rattle.cr_policy.specs.Triggers.{user_named, applies_any, shows}
use Rattle.cr_policy.specs.View.{sight, sights, view}

-- ---- the entries of rows

-- the row of a bulk may add the entry, which leaves how this user stands as it was: it turns no conflict of hers on
-- or off
abbrev pub LeavesStanding : ℕ → Entry → Type 0
LeavesStanding user (Conflict paper other on) = IsFalse (eqb other user)
LeavesStanding user (Assigned paper other kind ordinal) = Unit {0}
LeavesStanding user (Unassigned paper other ordinal) = Unit {0}
LeavesStanding user (Tagged paper tag on) = Unit {0}
LeavesStanding user _ = ⊥

module _ (user : ℕ) where
  pub row-goes : (e : Entry) → LeavesStanding user e → IsRowEntry e
  row-goes (Conflict paper other on) row = tt
  row-goes (Assigned paper other kind ordinal) row = tt
  row-goes (Unassigned paper other ordinal) row = tt
  row-goes (Tagged paper tag on) row = tt
  row-goes e row = absurd row

  -- it tells nothing of what the table asks, and is of the series of no other entry
  no_phase : (e : Entry) → LeavesStanding user e → phase_told e ≡ []
  no_phase (PhaseSet phase) row = absurd row
  no_phase e row = refl

  no_mode : (e : Entry) → LeavesStanding user e → mode_told e ≡ []
  no_mode (ModeSet mode) row = absurd row
  no_mode e row = refl

  no_role : (e : Entry) → LeavesStanding user e → role_told (Some user) e ≡ []
  no_role (Named other role) row = absurd row
  no_role (Dismissed other) row = absurd row
  no_role e row = refl

  no_author : (e : Entry) → LeavesStanding user e → (p : ℕ) → author_told p user e ≡ []
  no_author (Submitted paper title abstract) row p = absurd row
  no_author (Coauthor paper other) row p = absurd row
  no_author e row p = refl

  no_own_conflict : (e : Entry) → LeavesStanding user e → (p : ℕ) → conflict_told (Some user) p e ≡ []
  no_own_conflict (Conflict paper other on) row p = by (eqb paper p) (eqb user other) (eqb-swap user other ∙ row)
    where
      by : (b own : Bool) → own ≡ false → given (b && own) on ≡ []
      by true own h = ap (λ (b : Bool). given b on) h
      by false own h = refl
  no_own_conflict e row p = refl

  no_own_invite : (e : Entry) → LeavesStanding user e → (p : ℕ) → invite_told (Some user) p e ≡ []
  no_own_invite (Invited paper other) row p = absurd row
  no_own_invite (Uninvited paper other) row p = absurd row
  no_own_invite e row p = refl

  no_withdrawal : (e : Entry) → LeavesStanding user e → (p : ℕ) → withdrawal_told p e ≡ []
  no_withdrawal (Withdrawn paper) row p = absurd row
  no_withdrawal e row p = refl

  no_decision : (e : Entry) → LeavesStanding user e → (p : ℕ) → decision_told p e ≡ []
  no_decision (Decided paper decision) row p = absurd row
  no_decision e row p = refl

  no_registration : (e : Entry) → LeavesStanding user e → registration_told e ≡ []
  no_registration (Registered other name digest) row = absurd row
  no_registration e row = refl

  no_title : (e : Entry) → LeavesStanding user e → (p : ℕ) → title_told p e ≡ []
  no_title (Submitted paper title abstract) row p = absurd row
  no_title (Revised paper title abstract) row p = absurd row
  no_title e row p = refl

  no_upload : (e : Entry) → LeavesStanding user e → (p : ℕ) → upload_told p e ≡ []
  no_upload (Uploaded paper version content) row p = absurd row
  no_upload e row p = refl

  no_form : (e : Entry) → LeavesStanding user e → (p o : ℕ) → form_told p o e ≡ []
  no_form (Reviewed paper ordinal version form) row p o = absurd row
  no_form e row p o = refl

  no_opening : (first : Phase) (e : Entry) → LeavesStanding user e → opens first e ≡ false
  no_opening first (PhaseSet phase) row = absurd row
  no_opening first e row = refl

-- what an entry that tells nothing leaves
behind-silent : {A : Type 0} (told : Stamped → List A) (H : History) (s : Stamped) → told s ≡ []
    → flat_map told (H ++ s ∷ []) ≡ flat_map told H
behind-silent told H s none =
    flat_map-append told H (s ∷ []) ∙ ap (λ xs. flat_map told H ++ (xs ++ [])) none ∙ append-nil (flat_map told H)

-- ---- a row of one's own

-- whatever the rows before it, the last one applies, and shows all that belongs to the whole
last-seen : (rs : List TriggerRow) → applies_any (rs ++ true see own_parts ∷ []) ≡ true
last-seen [] = refl
last-seen (r ∷ rs) = or_right r.applies (applies_any (rs ++ true see own_parts ∷ [])) (last-seen rs)

pub last-shows : (rs : List TriggerRow) (p : Part) → own_parts p ≡ true → shows (rs ++ true see own_parts ∷ []) p ≡ true
last-shows [] p is = ap (λ b. (b && true) || false) is
last-shows (r ∷ rs) p is =
    or_right (r.parts p && r.applies) (shows (rs ++ true see own_parts ∷ []) p) (last-shows rs p is)

-- the parts that belong to the whole of an entry, where all of those are shown
module _ (stamp : Stamp) (f : Part → Bool) (all : (p : Part) → own_parts p ≡ true → f p ≡ true) where
  only-whole : (λ (p : Part). own_parts p && f p) ≡ own_parts
  only-whole = λ i p. by p (own_parts p) refl i
    where
      by : (p : Part) (b : Bool) → own_parts p ≡ b → (b && f p) ≡ b
      by p true is = all p is
      by p false is = refl

  -- an entry of a row has no others
  own-masked : (e : Entry) → LeavesStanding stamp.maker e
      → masked f true (entire stamp e) ≡ masked own_parts true (entire stamp e)
  own-masked (Conflict paper other on) row =
      ap (λ (g : Part → Bool). masked g true (entire stamp (Conflict paper other on))) only-whole
  own-masked (Assigned paper other kind ordinal) row =
      ap (λ (g : Part → Bool). masked g true (entire stamp (Assigned paper other kind ordinal))) only-whole
  own-masked (Unassigned paper other ordinal) row =
      ap (λ (g : Part → Bool). masked g true (entire stamp (Unassigned paper other ordinal))) only-whole
  own-masked (Tagged paper tag on) row =
      ap (λ (g : Part → Bool). masked g true (entire stamp (Tagged paper tag on))) only-whole
  own-masked e row = absurd row

-- ---- behind such an entry

module _ (stamp : Stamp) (more : Bool) (e : Entry) (row : LeavesStanding stamp.maker e) where
  abbrev user : ℕ
  user = stamp.maker

  abbrev s : Stamped
  s = stamped stamp more e

  -- whether the entry opens this phase
  abbrev opens_at : Phase → Stamped → Bool
  opens_at first x = opens first x.entry

  response-behind : (H : History) → had_response_of (H ++ s ∷ []) ≡ had_response_of H
  response-behind H =
      list_any-append (opens_at Response) H (s ∷ [])
      ∙ (λ i. list_any (opens_at Response) H || (no_opening user Response e row i || false))
      ∙ or-false (list_any (opens_at Response) H)

  -- she stands as before to the conference and to each paper, as far as the table asks
  reader-behind : (H : History) → reader (Some user) (H ++ s ∷ []) ≡ reader (Some user) H
  reader-behind H =
      let phases = behind-silent (λ (x : Stamped). phase_told x.entry) H s (no_phase user e row) in
      let modes = behind-silent (λ (x : Stamped). mode_told x.entry) H s (no_mode user e row) in
      let roles = behind-silent (λ (x : Stamped). role_told (Some user) x.entry) H s (no_role user e row) in
      let authors =
      λ (p : ℕ). behind-silent (λ (x : Stamped). author_told p x.stamp.maker x.entry) H s (no_author user e row p) in
      let conflicts = λ (p : ℕ). behind-silent (λ (x : Stamped). conflict_told (Some user) p x.entry) H s
      (no_own_conflict user e row p) in
      let invites = λ (p : ℕ). behind-silent (λ (x : Stamped). invite_told (Some user) p x.entry) H s
      (no_own_invite user e row p) in
      let withdrawals =
      λ (p : ℕ). behind-silent (λ (x : Stamped). withdrawal_told p x.entry) H s (no_withdrawal user e row p) in
      let decisions =
      λ (p : ℕ). behind-silent (λ (x : Stamped). decision_told p x.entry) H s (no_decision user e row p) in
      λ i. record {
        number = Some user;
        now = last_or Setup (phases i);
        had_response = response-behind H i;
        mode = last_or Blind (modes i);
        rank = last_or Account (roles i);
        author = λ p. list_any (is_number (Some user)) (authors p i);
        conflicted = λ p. list_any (is_number (Some user)) (authors p i) || last_or false (conflicts p i);
        external = λ p. not (is_member (last_or Account (roles i))) && last_or false (invites p i);
        wrote = λ v p. list_any (is_number (Some v)) (authors p i);
        accepted =
            λ p. is_accepted_when (last_or Setup (phases i)) (last_or false (withdrawals p i)) (last (decisions p i));
      }

  -- and has registered as before
  pub registered-behind : (H : History) (v : ℕ) → IsRegistered H v → IsRegistered (H ++ s ∷ []) v
  registered-behind H v registered =
      ap (list_any (λ r. eqb r.user v)) (behind-silent (λ (x : Stamped). registration_told x.entry) H s
      (no_registration user e row)) ∙ registered

  -- each entry before it stands where it stood among those of its series
  alike-behind : (x : Entry) (G : History) → none_alike x (G ++ s ∷ []) ≡ none_alike x G
  alike-behind (Submitted paper title abstract) G =
      ap is_nothing (behind-silent (λ (x : Stamped). title_told paper x.entry) G s (no_title user e row paper))
  alike-behind (Revised paper title abstract) G =
      ap is_nothing (behind-silent (λ (x : Stamped). title_told paper x.entry) G s (no_title user e row paper))
  alike-behind (Uploaded paper version content) G =
      ap is_nothing (behind-silent (λ (x : Stamped). upload_told paper x.entry) G s (no_upload user e row paper))
  alike-behind (Reviewed paper ordinal version form) G =
      ap is_nothing (behind-silent (λ (x : Stamped). form_told paper ordinal x.entry) G s
      (no_form user e row paper ordinal))
  alike-behind (Decided paper decision) G =
      ap is_nothing (behind-silent (λ (x : Stamped). decision_told paper x.entry) G s (no_decision user e row paper))
  alike-behind x G = refl

  alike-until : (first : Phase) (x : Entry) (G : History)
      → none_alike x (until (opens_at first) (G ++ s ∷ [])) ≡ none_alike x (until (opens_at first) G)
  alike-until first x G = by (list_any (opens_at first) G) refl
    where
      alone : until (opens_at first) (s ∷ []) ≡ s ∷ []
      alone = until-none (opens_at first) (s ∷ []) (ap (λ b. b || false) (no_opening user first e row))

      by : (b : Bool) → list_any (opens_at first) G ≡ b
          → none_alike x (until (opens_at first) (G ++ s ∷ [])) ≡ none_alike x (until (opens_at first) G)
      by true is = ap (none_alike x) (until-before (opens_at first) G (s ∷ []) is)
      by false is =
          ap (none_alike x) (until-append (opens_at first) G (s ∷ []) is ∙ ap (λ (g : History). G ++ g) alone)
          ∙ alike-behind x G
          ∙ ap (none_alike x) (sym (until-none (opens_at first) G is))

  position-behind : (before after : History) (x : Entry)
      → position_of (record { before = before; after = after ++ s ∷ [] }) x
      ≡ position_of (record { before = before; after = after }) x
  position-behind before after x =
      let lasts = alike-behind x after in
      let untils = λ (first : Phase). alike-until first x after in
      λ i. record {
        first = none_alike x before;
        last = lasts i;
        last_before_response = not (list_any (opens_at Response) before) && untils Response i;
        last_before_discussion = not (list_any (opens_at committee_reads_from) before) && untils committee_reads_from i;
        from_discussion = list_any (opens_at committee_reads_from) before;
      }

  -- so all before it shows what it showed
  abbrev sight_at : Reader → Stamped → Position → List Sighting
  sight_at r x position =
      let rs = rows r position x.stamp.maker x.entry ++ user_named r x.stamp.maker see own_parts ∷ [] in
      given (applies_any rs) (sighting (shows rs) (user_named r x.stamp.maker) x)

  sights-behind : (r : Reader) → ((at : Around) → sight r at s ≡ sighting own_parts true s ∷ []) → (before H : History)
      → sights r before (H ++ s ∷ []) ≡ sights r before H ++ sighting own_parts true s ∷ []
  sights-behind r own before [] = ap (λ (xs : List Sighting). xs ++ []) (own (record { before = before; after = [] }))
  sights-behind r own before (x ∷ after) =
      let shown : List Sighting = sight r (record { before = before; after = after }) x in
      ap (λ (position : Position). sight_at r x position ++ sights r (before ++ x ∷ []) (after ++ s ∷ []))
      (position-behind before after x.entry)
      ∙ ap (λ (xs : List Sighting). shown ++ xs) (sights-behind r own (before ++ x ∷ []) after)
      ∙ sym (append_assoc shown (sights r (before ++ x ∷ []) after) (sighting own_parts true s ∷ []))

  -- and it shows her all of itself
  own-sight : (r : Reader) → user_named r user ≡ true → (at : Around) → sight r at s ≡ sighting own_parts true s ∷ []
  own-sight r mine at =
      let rs : List TriggerRow = rows r (position_of at e) user e in
      let all : List TriggerRow = rs ++ true see own_parts ∷ [] in
      ap (λ (b : Bool). given (applies_any (rs ++ b see own_parts ∷ []))
      (sighting (shows (rs ++ b see own_parts ∷ [])) b s)) mine
      ∙ ap (λ (b : Bool). given b (sighting (shows all) true s)) (last-seen rs)
      ∙ ap (λ (shown : Sighting). shown ∷ []) (own-masked stamp (shows all) (last-shows rs) e row)

  -- her view goes on with it
  pub view-behind : (H : History) → view (Some user) (H ++ s ∷ []) ≡ view (Some user) H ++ sighting own_parts true s
      ∷ []
  view-behind H =
      ap (λ (r : Reader). sights r [] (H ++ s ∷ [])) (reader-behind H)
      ∙ sights-behind (reader (Some user) H) (own-sight (reader (Some user) H) (eq-eqb user user refl)) [] H
