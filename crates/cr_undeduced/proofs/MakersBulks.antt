-- SPDX-License-Identifier: Apache-2.0 OR MIT
-- A bulk that was accepted is accepted where others made some entries before it; and of a chair who has the right to
-- make its entries, in her place.
use Rattle.std.proofs.Common.{ℕ, Bool, true, false, cond, ◌≡◌, ◌+◌, List, [], ◌∷◌, ◌++◌, length, eqb, refl, sym, ap}
use Rattle.std.proofs.Common.{subst, ◌∙◌, Option, Some, None, Result, Ok, Err}
use Rattle.std.specs.Prelude.{not}
use Rattle.std.proofs.lemmas.Bool.{true≢false, not-false}
use Rattle.cr_base.specs.declared.bulk.Broken.{Broken}
use Rattle.cr_base.specs.declared.bulk.BulkRow.{BulkRow}
use Rattle.cr_base.specs.declared.command.Command.{Command}
use Rattle.cr_base.specs.declared.command.Command.TheVariants as commands
use Rattle.cr_base.specs.declared.entry.Entry.{Entry}
use Rattle.cr_base.specs.declared.entry.Stamp.{Stamp}
use Rattle.cr_base.specs.declared.reply.AccountLine.{AccountLine}
use Rattle.cr_base.specs.declared.reply.Rule.{Rule}
use Rattle.cr_base.specs.declared.reply.Rule.TheVariants as rules
use Rattle.cr_base.specs.declared.retry.RetryKey.{RetryKey}
use Rattle.cr_base.specs.declared.standing.Standing.{Standing}
use Rattle.cr_base.specs.declared.words.Phase.{Phase}
use Rattle.cr_base.specs.Bulk.{IsRowCommand, row_command, turns_own_conflict, row_told_judged, entries_of, and_rows}
use Rattle.cr_base.specs.Bulk.{and_behind, rows_judged, bulk_checks, bulk_drawn, bulk_of_rows, bulk_behind}
use Rattle.cr_base.specs.Calls.{stamp_by, call_by}
use Rattle.cr_base.specs.Checks.{Check, judged}
use Rattle.cr_base.specs.Drawn.{Drawn, stamped, grouped}
use Rattle.cr_base.specs.History.{History}
use Rattle.cr_base.specs.HistoryFacts.{phase_of, role_of, standing_of}
use Rattle.cr_base.specs.Lists.{is_number}
use Rattle.cr_base.specs.Phases.{committee_works}
use Rattle.cr_base.specs.Resolving.{resolve}
use Rattle.cr_base.specs.Sources.{user_among}
use Rattle.cr_base.specs.Words.{is_chair}
use Rattle.cr_base.proofs.CheckLaws.{NoneBroken, judged-Ok, judged-none}
use Rattle.cr_policy.specs.Added.{added}
use Rattle.cr_policy.specs.Judge.{judge, judge_bulk, view_basis, own_sightings}
use Rattle.cr_policy.specs.Legal.{Legal, IsNewKey}
use Rattle.cr_policy.specs.Sentences.{of_some, user_named}
use Rattle.cr_policy.specs.View.{View, view}
use Rattle.cr_policy.specs.ViewFacts.{facts_in_view, shown_in_view}
use Rattle.cr_policy.proofs.AddedLaws.{adds_as_said, user-same}
use Rattle.cr_policy.proofs.BulkLaws.{row_seen, seen, IsReady, RowCalls, row-calls, row-given, RowAdds}
use Rattle.cr_policy.proofs.BulkLaws.{row-adds, next-ready, next-seen, AreAccepted, rows-accepted}
use Rattle.cr_policy.proofs.LegalLaws.{Legal-accepted}
use Rattle.cr_policy.proofs.StandingLaws.{accounts-seen, standing_from_view}
use Rattle.cr_permissions.specs.MayDo.{may_do}
use Rattle.cr_undeduced.specs.Makers.{has_right}
use Rattle.cr_undeduced.proofs.MakersFacts.{right-anyones, Alike, alike-append, alike-itself, alike-one}
use Rattle.cr_undeduced.proofs.MakersSaid.{accounts-also, named-also}
use Rattle.cr_undeduced.proofs.MakersRight.{right_first, Takes, takes, not_herself}
use Rattle.cr_undeduced.proofs.MakersCalls.{call-also, call-other, may-accepted, user-calls}

-- ---- conflicts of the caller's own

module _ (H : History) (legal : Legal H) (u : ℕ) where
  abbrev pub turns_own : Command → Bool
  turns_own command = turns_own_conflict u (resolve (facts_in_view (Some u) (view (Some u) H)).accounts command)

  pub own-named : (p : Option ℕ) (name : Option (List ℕ)) (on : Bool)
      → turns_own (commands.SetConflict p name on) ≡ of_some (user_named name H) (λ v. eqb v u)
  own-named p name on =
      ap (λ (lines : List _). is_number (user_among lines name) u) (accounts-seen (Some u) H)
      ∙ ap (λ (o : Option ℕ). is_number o u) (user-same (Some u) H legal name)
      ∙ by (user_named name H)
    where
      by : (o : Option ℕ) → is_number o u ≡ of_some o (λ v. eqb v u)
      by None = refl
      by (Some v) = refl

-- ---- one row

-- behind a row's entry
pub behind-legal : (stamp : Stamp) (H : History) (row : BulkRow) (drawn : Drawn) → IsReady stamp H → Legal H
    → stamp.key ≡ None → (adds : RowAdds stamp H drawn) → row_seen stamp H row ≡ Ok drawn
    → Legal (H ++ stamped stamp false adds.entry ∷ [])
behind-legal stamp H row drawn ready legal none adds accepted =
    let calls : RowCalls stamp H row drawn = row-calls stamp H row drawn ready accepted in
    subst (λ (g : History). Legal (H ++ g)) adds.group
    (Legal-accepted H (call_by stamp calls.command) drawn legal
    (record {
      given = row-given stamp H row drawn ready calls;
      unused = subst (λ (key : Option RetryKey). IsNewKey H (Some stamp.maker) key) (sym none) tt;
    }) calls.accepted)

pub entry-same : (a b : Entry) (es : List Entry) → es ≡ a ∷ [] → es ≡ b ∷ [] → a ≡ b
entry-same a b es is other = cc

module _ (u w at : ℕ) where
  abbrev pub hers : Stamp
  hers = stamp_by u at None

  abbrev pub others : Stamp
  others = stamp_by w at None

  -- the row is accepted of the other on the other history, and adds the same entry
  pub record RowTaken (B : History) (row : BulkRow) (e : Entry) : Type 0 where
    pub drawn : Drawn
    pub is : row_seen others B row ≡ Ok drawn
    pub group : drawn.group ≡ grouped others (e ∷ [])

  -- on two such histories, both legal, of which each user has registered on hers
  pub record Both (A B : History) : Type 1 where
    pub legal : Legal A
    pub legal' : Legal B
    pub alike : Alike A B
    pub ready : IsReady hers A
    pub ready' : IsReady others B

  -- what it needs that she may take the row's entry on
  pub record Taking (May : History → Entry → Type 0) : Type 1 where
    pub row : (A B : History) → Both A B → (row : BulkRow) (drawn : Drawn) (adds : RowAdds hers A drawn)
        → row_seen hers A row ≡ Ok drawn → May A adds.entry → RowTaken B row adds.entry
    pub alike : (A : History) (e : Entry) → May A e → Alike (stamped hers false e ∷ []) (stamped others false e ∷ [])

  -- of each of these in its turn
  abbrev pub AllMay : (History → Entry → Type 0) → History → List Entry → Type 0
  AllMay May A [] = Unit {0}
  AllMay May A (e ∷ es) = May A e × AllMay May (A ++ stamped hers false e ∷ []) es

  -- a row that is accepted where its command is, and it is no conflict of the caller's own
  pub seen-as : (B : History) (row : BulkRow) (command : Command) (d : Drawn) → row_command row ≡ Ok command
      → turns_own_conflict w (resolve (facts_in_view (Some w) (view (Some w) B)).accounts command) ≡ false
      → judge (view (Some w) B) (call_by others command) ≡ Ok d → row_seen others B row ≡ Ok d
  seen-as B row command d told other is =
      ap (λ (told : Result Command Rule). row_told_judged (facts_in_view (Some w) (view (Some w) B))
      (shown_in_view (Some w) (view (Some w) B)) others told) told
      ∙ ap (λ (b : Bool). cond b (Err rules.BulkSelf) (judge (view (Some w) B) (call_by others command))) other
      ∙ is

  -- ---- all rows

  module _ (May : History → Entry → Type 0) (taking : Taking May) where
    pub rows-taken : (rows : List BulkRow) (n : ℕ) (A B : History) (es : List Entry) → Both A B → AllMay May A es
        → seen hers A n rows ≡ Ok es → seen others B n rows ≡ Ok es
    rows-taken [] n A B es both may accepted = accepted
    rows-taken (row ∷ rows) n A B es both may accepted =
        let all : AreAccepted hers A n row rows es = rows-accepted hers A n row rows es both.ready accepted in
        by all.drawn all.judged all.first all.more (all.rest false) all.all (subst (AllMay May A) all.all may)
        (rows-taken rows (n + 1))
      where
        by : (drawn : Drawn) → row_seen hers A row ≡ Ok drawn → (adds : RowAdds hers A drawn) (more : List Entry)
            → seen hers (A ++ stamped hers false adds.entry ∷ []) (n + 1) rows ≡ Ok more
            → es ≡ adds.entry ∷ more → AllMay May A (adds.entry ∷ more)
            → ((A B : History) (es : List Entry) → Both A B → AllMay May A es
            → seen hers A (n + 1) rows ≡ Ok es → seen others B (n + 1) rows ≡ Ok es)
            → seen others B n (row ∷ rows) ≡ Ok es
        by drawn judged adds more then same may rest =
            ap (λ (r : Result Drawn Rule). and_behind n r goes) taken.is
            ∙ ap (λ (V : View). and_rows (entries_of taken.drawn.group) (rows_judged (view_basis w) others V (n + 1) rows))
            (next-seen others B taken.drawn both.ready' adds' false)
            ∙ ap (and_rows (entries_of taken.drawn.group))
            (ap (λ (e : Entry). seen others (B ++ stamped others false e ∷ []) (n + 1) rows) entry
            ∙ rest (A ++ stamped hers false adds.entry ∷ []) (B ++ stamped others false adds.entry ∷ []) more behind may.1
            then)
            ∙ (λ i. Ok (entries_of (taken.group i) ++ more))
            ∙ (λ i. Ok (sym same i))
          where
            goes : History → Result (List Entry) Broken
            goes group = rows_judged (view_basis w) others (view (Some w) B ++ own_sightings group) (n + 1) rows

            taken : RowTaken B row adds.entry
            taken = taking.row A B both row drawn adds judged may.0

            adds' : RowAdds others B taken.drawn
            adds' = row-adds others B row taken.drawn both.ready' taken.is

            entry : adds'.entry ≡ adds.entry
            entry = entry-same adds'.entry adds.entry (entries_of taken.drawn.group)
                (ap (λ (g : History). entries_of g) adds'.group) (ap (λ (g : History). entries_of g) taken.group)

            behind : Both (A ++ stamped hers false adds.entry ∷ []) (B ++ stamped others false adds.entry ∷ [])
            behind = record {
              legal = behind-legal hers A row drawn both.ready both.legal refl adds judged;
              legal' = subst (λ (e : Entry). Legal (B ++ stamped others false e ∷ [])) entry
                  (behind-legal others B row taken.drawn both.ready' both.legal' refl adds' taken.is);
              alike = alike-append A B (stamped hers false adds.entry ∷ []) (stamped others false adds.entry ∷ [])
                  both.alike (taking.alike A adds.entry may.0);
              ready = next-ready hers A drawn both.ready adds false;
              ready' = subst (λ (e : Entry). IsReady others (B ++ stamped others false e ∷ [])) entry
                  (next-ready others B taken.drawn both.ready' adds' false);
            }

-- ---- she herself

module _ (u at : ℕ) where
  abbrev pub Same : History → Entry → Type 0
  Same A e = Unit {0}

  turns-also : (A B : History) → Alike A B → (command : Command)
      → turns_own_conflict u (resolve (facts_in_view (Some u) (view (Some u) A)).accounts command)
      ≡ turns_own_conflict u (resolve (facts_in_view (Some u) (view (Some u) B)).accounts command)
  turns-also A B alike (commands.SetConflict paper name on) =
      ap (λ (lines : List AccountLine). is_number (user_among lines name) u)
      (accounts-seen (Some u) A ∙ accounts-also A B alike ∙ sym (accounts-seen (Some u) B))
  turns-also A B alike command = refl

  pub taking-herself : Taking u u at Same
  taking-herself = record {
    row = λ A B both row drawn adds accepted may.
        let calls : RowCalls (hers u u at) A row drawn = row-calls (hers u u at) A row drawn both.ready accepted in
        let k = call-also A B both.legal both.legal' both.alike (call_by (hers u u at) calls.command) drawn calls.caller
        (user-calls A B u u calls.command calls.caller both.ready'.registered) calls.accepted in
        record {
          drawn = k.drawn;
          is = seen-as u u at B row calls.command k.drawn calls.is
              (sym (turns-also A B both.alike calls.command) ∙ calls.other) k.is;
          group = k.group ∙ adds.group;
        };
    alike = λ A e may. alike-itself (stamped (hers u u at) false e ∷ []);
  }

  pub all-same : (A : History) (es : List Entry) → AllMay u u at Same A es
  all-same A [] = tt
  all-same A (e ∷ es) = (tt, all-same (A ++ stamped (hers u u at) false e ∷ []) es)

-- ---- another

-- what a row's command adds is the row's entry
pub adds-one : (stamp : Stamp) (A : History) (row : BulkRow) (drawn : Drawn) (adds : RowAdds stamp A drawn) → Legal A
    → (calls : RowCalls stamp A row drawn) → added (Some stamp.maker) A calls.command ≡ adds.entry ∷ []
adds-one stamp A row drawn adds legal calls =
    sym (adds_as_said A (call_by stamp calls.command) drawn legal calls.caller calls.accepted).entries
    ∙ ap (λ (g : History). entries_of g) adds.group

module _ (u w at : ℕ) where
  abbrev pub Right : History → Entry → Type 0
  Right A e = has_right w A e ≡ true

  none-own : (A B : History) → Legal B → Alike A B → (command : Command) → IsRowCommand command
      → may_do (Some u) at A command ≡ true → right_first A u w at (added (Some u) A command) ≡ true
      → turns_own_conflict w (resolve (facts_in_view (Some w) (view (Some w) B)).accounts command) ≡ false
  none-own A B legal alike (commands.SetConflict None name true) told may right = absurd (true≢false (sym may))
  none-own A B legal alike (commands.SetConflict None name false) told may right = absurd (true≢false (sym may))
  none-own A B legal alike (commands.SetConflict (Some p) name on) told may right =
      own-named B legal w (Some p) name on
      ∙ ap (λ (o : Option ℕ). of_some o (λ v. eqb v w)) (sym (named-also A B alike name))
      ∙ not_herself A u w at p name on right
  none-own A B legal alike (commands.Assign paper name kind) told may right = refl
  none-own A B legal alike (commands.Unassign paper name) told may right = refl
  none-own A B legal alike (commands.Tag paper tag on) told may right = refl
  none-own A B legal alike command told may right = absurd told

  pub taking-right : Taking u w at Right
  taking-right = record {
    row = λ A B both row drawn adds accepted may.
        let calls : RowCalls (hers u w at) A row drawn = row-calls (hers u w at) A row drawn both.ready accepted in
        let can = may-accepted A (call_by (hers u w at) calls.command) drawn both.legal calls.caller calls.accepted in
        let one = adds-one (hers u w at) A row drawn adds both.legal calls in
        let right : right_first A u w at (added (Some u) A calls.command) ≡ true =
        ap (right_first A u w at) one ∙ may in
        let taken : Takes A u w at calls.command = takes A u w at calls.command can right in
        let k = call-other A B both.legal both.legal' both.alike u w at calls.command can taken
        (user-calls A B u w calls.command calls.caller both.ready'.registered) in
        record {
          drawn = k.drawn;
          is = seen-as u w at B row calls.command k.drawn calls.is
              (none-own A B both.legal' both.alike calls.command calls.told.of_row can right) k.is;
          group = k.group
              ∙ ap (λ (e : Entry). grouped (others u w at) (e ∷ []))
              (entry-same taken.entry adds.entry (added (Some u) A calls.command) taken.one one);
        };
    alike = λ A e may.
        alike-one (hers u w at) (others u w at) false false e (right-anyones w A e may);
  }

-- ---- the bulk

module _ (A B : History) (phase : phase_of B ≡ phase_of A) (stamp : Stamp) (rows : List BulkRow) (drawn : Drawn)
    (accepted : judge_bulk (view (Some stamp.maker) A) (record { stamp = stamp; rows = rows }) ≡ Ok drawn) where
  abbrev checks : Option ℕ → History → List Check
  checks u H = bulk_checks ((facts_in_view u (view u H)).standing None)

  none_broken-here : NoneBroken (checks (Some stamp.maker) A)
  none_broken-here = by (judged (checks (Some stamp.maker) A) tt) refl accepted
    where
      by : (r : Result (Unit {0}) Rule) → judged (checks (Some stamp.maker) A) tt ≡ r
          → bulk_behind (view_basis stamp.maker) (view (Some stamp.maker) A) (record { stamp = stamp; rows = rows }) r
          ≡ Ok drawn → NoneBroken (checks (Some stamp.maker) A)
      by (Err rule) is accepted = cc
      by (Ok done) is accepted = (judged-Ok (checks (Some stamp.maker) A) tt done is).0

  standing-then : (u : Option ℕ) (H : History) → checks u H ≡ bulk_checks (standing_of u None H)
  standing-then u H = ap (λ (st : Standing). bulk_checks st) (standing_from_view u None H)

  -- a chair may send it on another history in the same phase, or other rows, where these are accepted
  pub bulk-taken : (w : ℕ) (key : Option RetryKey) (others : List BulkRow) (es : List Entry)
      → (is_chair (role_of (Some stamp.maker) A) ≡ true → is_chair (role_of (Some w) B) ≡ true)
      → seen (stamp_by w stamp.at key) B 1 others ≡ Ok es
      → judge_bulk (view (Some w) B) (record { stamp = stamp_by w stamp.at key; rows = others })
      ≡ Ok (bulk_drawn (stamp_by w stamp.at key) (length others) es)
  bulk-taken w key others es chair is =
      ap (λ (r : Result (Unit {0}) Rule). bulk_behind (view_basis w) (view (Some w) B)
      (record { stamp = stamp_by w stamp.at key; rows = others }) r)
      (judged-none (checks (Some w) B) tt none)
      ∙ ap (bulk_of_rows (stamp_by w stamp.at key) (length others)) is
    where
      here : NoneBroken (bulk_checks (standing_of (Some stamp.maker) None A))
      here = subst NoneBroken (standing-then (Some stamp.maker) A) none_broken-here

      none : NoneBroken (checks (Some w) B)
      none = subst NoneBroken (sym (standing-then (Some w) B)) (
        ap not (chair (not-false (is_chair (role_of (Some stamp.maker) A)) here.0)),
        (ap (λ (phase : Phase). not (committee_works phase)) phase ∙ here.1.0, tt),
      )
