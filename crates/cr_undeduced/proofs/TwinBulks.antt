-- SPDX-License-Identifier: Apache-2.0 OR MIT
-- The rows of a bulk that was accepted are accepted where the two have each other's place, with the other's name where a
-- row names one of them.
use Rattle.std.proofs.Common.{ℕ, Bool, true, false, cond, ◌≡◌, ◌+◌, suc, List, [], ◌∷◌, ◌++◌, length, eqb, refl, sym}
use Rattle.std.proofs.Common.{ap, subst, ◌∙◌, ◌||◌, Option, Some, None, Result, Ok, Err}
use Rattle.std.specs.Prelude.{map, not}
use Rattle.std.specs.Option.{option_map}
use Rattle.std.proofs.lemmas.Bool.{true≢false, eqb-true}
use Rattle.std.proofs.lemmas.List.{map-append}
use Rattle.cr_base.specs.Resolving.{resolve}
use Rattle.cr_base.specs.declared.bulk.Broken.{Broken}
use Rattle.cr_base.specs.declared.bulk.BulkRow.{BulkRow}
use Rattle.cr_base.specs.declared.command.Command.{Command}
use Rattle.cr_base.specs.declared.command.Command.TheVariants as commands
use Rattle.cr_base.specs.declared.entry.Entry.{Entry}
use Rattle.cr_base.specs.declared.entry.Entry.TheVariants as entries
use Rattle.cr_base.specs.declared.entry.Stamp.{Stamp}
use Rattle.cr_base.specs.declared.reply.Rule.{Rule}
use Rattle.cr_base.specs.declared.reply.Rule.TheVariants as rules
use Rattle.cr_base.specs.Bulk.{Action, action_of, assigns, unassigns, turns_conflict, turns_tag, IsRowCommand}
use Rattle.cr_base.specs.Bulk.{command_told_by, row_command, turns_own_conflict, entries_of, and_rows, and_behind}
use Rattle.cr_base.specs.Bulk.{rows_judged}
use Rattle.cr_base.specs.Calls.{stamp_by, call_by}
use Rattle.cr_base.specs.Drawn.{Drawn, stamped, grouped}
use Rattle.cr_base.specs.History.{History}
use Rattle.cr_base.specs.HistoryFacts.{is_author}
use Rattle.cr_base.specs.Lists.{listed}
use Rattle.cr_base.specs.Logins.{command_wants_login}
use Rattle.cr_base.specs.Parse.{parse_paper, parse_name}
use Rattle.cr_base.specs.TagTexts.{is_tag}
use Rattle.cr_policy.specs.Added.{added}
use Rattle.cr_policy.specs.Judge.{view_basis, own_sightings}
use Rattle.cr_policy.specs.Legal.{Legal, IsCaller, CallsAs}
use Rattle.cr_policy.specs.Sentences.{of_some, user_named}
use Rattle.cr_policy.specs.View.{View, view}
use Rattle.cr_policy.specs.ViewFacts.{facts_in_view}
use Rattle.cr_policy.proofs.BulkLaws.{row_seen, seen, IsReady, RowCalls, row-calls, RowAdds, row-adds}
use Rattle.cr_policy.proofs.BulkLaws.{next-ready, next-seen, AreAccepted, rows-accepted, no_rows}
use Rattle.cr_permissions.specs.MayDo.{may_do}
use Rattle.cr_undeduced.specs.Twins.{Twins, placed, twin_entry, twin_maker, twin_of, twinned, renames, ArePeers}
use Rattle.cr_undeduced.proofs.MakersBulks.{own-named, adds-one, entry-same, seen-as, behind-legal}
use Rattle.cr_undeduced.proofs.MakersCalls.{Accepts, accepts, may-accepted, makes}
use Rattle.cr_undeduced.proofs.MakersFacts.{stamp-same}
use Rattle.cr_undeduced.proofs.TwinFacts.{placed-eqb}
use Rattle.cr_undeduced.proofs.TwinAdds.{renamed, rename, rename-none, rename-login, IsTellable, giver, FirstPeers}
use Rattle.cr_undeduced.proofs.TwinAdds.{CallTwin, call-twin, lead, lead_of, Room}

-- ---- a row with another name

abbrev pub renamed_row : Option (List ℕ) → BulkRow → BulkRow
renamed_row None row = row
renamed_row (Some name) row = record row { user = name }

pub row-renamed : (text : Option (List ℕ)) (row : BulkRow) (command : Command) → IsTellable text
    → row_command row ≡ Ok command → row_command (renamed_row text row) ≡ Ok (rename text command)
unfolding row_command
row-renamed None row command tells is = is ∙ (λ i. Ok (sym (rename-none command) i))
row-renamed (Some name) row command tells is = by (action_of row.action) is
  where
    same : (one other command : Command) → rename (Some name) one ≡ other
        → ◌≡◌ {A = Result Command Rule} (Ok one) (Ok command)
        → ◌≡◌ {A = Result Command Rule} (Ok other) (Ok (rename (Some name) command))
    same one other command path is =
        let e : one ≡ command = cc in
        ◌∙◌ {A = Result Command Rule} (λ i. Ok (sym path i)) (λ i. Ok (rename (Some name) (e i)))

    by : (action : Option Action) → command_told_by action row ≡ Ok command
        → command_told_by action (record row { user = name }) ≡ Ok (rename (Some name) command)
    by None is = cc
    by (Some (assigns kind)) is =
        same (commands.Assign (parse_paper row.paper) (parse_name row.user) kind)
        (commands.Assign (parse_paper row.paper) (parse_name name) kind) command
        (λ i. commands.Assign (parse_paper row.paper) (sym tells i) kind) is
    by (Some unassigns) is =
        same (commands.Unassign (parse_paper row.paper) (parse_name row.user))
        (commands.Unassign (parse_paper row.paper) (parse_name name)) command
        (λ i. commands.Unassign (parse_paper row.paper) (sym tells i)) is
    by (Some (turns_conflict on)) is =
        same (commands.SetConflict (parse_paper row.paper) (parse_name row.user) on)
        (commands.SetConflict (parse_paper row.paper) (parse_name name) on) command
        (λ i. commands.SetConflict (parse_paper row.paper) (sym tells i) on) is
    by (Some (turns_tag on)) is = tagged (is_tag row.tag) is
      where
        tagged : (b : Bool)
            → ◌≡◌ {A = Result Command Rule} (cond b (Ok (commands.Tag (parse_paper row.paper) row.tag on))
            (Err rules.BadTag)) (Ok command)
            → ◌≡◌ {A = Result Command Rule} (cond b (Ok (commands.Tag (parse_paper row.paper) row.tag on))
            (Err rules.BadTag)) (Ok (rename (Some name) command))
        tagged true is =
            same (commands.Tag (parse_paper row.paper) row.tag on) (commands.Tag (parse_paper row.paper) row.tag on)
            command refl is
        tagged false is = cc

-- ---- a conflict of her own

abbrev conflict_user : Entry → ℕ
conflict_user (entries.Conflict p v on) = v
conflict_user e = 0

abbrev user_first : List Entry → ℕ
user_first [] = 0
user_first (e ∷ es) = conflict_user e

pair-of : (one other : Entry) → ◌≡◌ {A = List Entry} (one ∷ []) (other ∷ []) → user_first (one ∷ []) ≡ user_first (other ∷ [])
pair-of one other is = ap user_first is

own-kept : (t : Twins) (p u : ℕ) (on : Bool) (o o' : Option ℕ) → placed t p u ≡ u
    → listed (option_map (λ v. entries.Conflict p v on) o')
    ≡ map (twin_entry t) (listed (option_map (λ v. entries.Conflict p v on) o))
    → of_some o (λ v. eqb v u) ≡ false → of_some o' (λ v. eqb v u) ≡ false
own-kept t p u on None None stays adds other = refl
own-kept t p u on None (Some v') stays adds other = cc
own-kept t p u on (Some v) None stays adds other = cc
own-kept t p u on (Some v) (Some v') stays adds other =
    let same : v' ≡ placed t p v =
    pair-of (entries.Conflict p v' on) (entries.Conflict p (placed t p v) on) adds in
    ap (λ x. eqb x u) same ∙ ap (eqb (placed t p v)) (sym stays) ∙ placed-eqb t p v u ∙ other

module _ (t : Twins) (u at : ℕ) where
  abbrev pub hers : Stamp
  hers = stamp_by u at None

  -- ---- one row

  -- it stays hers; neither of the two is an author, and they are peers where the row is about one
  pub record Step (A : History) (e : Entry) : Type 0 where
    pub no_one : is_author (Some t.one) t.paper A ≡ false
    pub no_other : is_author (Some t.other) t.paper A ≡ false
    pub peers : (not (eqb (twin_maker t u e) u) || renames t e) ≡ true → ArePeers t A
    pub stays : eqb (twin_maker t u e) u ≡ true

  -- both histories are legal, and she may send it on both
  pub record Ready (A : History) : Type 0 where
    pub legal : Legal A
    pub legal' : Legal (twinned t A)
    pub ready : IsReady hers A
    pub ready' : IsReady hers (twinned t A)

  record RowTwin (A : History) (row : BulkRow) (e : Entry) : Type 0 where
    other : BulkRow
    drawn : Drawn
    is : row_seen hers (twinned t A) other ≡ Ok drawn
    group : drawn.group ≡ grouped hers (twin_entry t e ∷ [])

  user-login : (A : History) (login : Bool) → CallsAs A login (Some u) → login ≡ true
  user-login A true calls = refl
  user-login A false calls = cc

  module _ (A : History) (both : Ready A) (row : BulkRow) (drawn : Drawn) (adds : RowAdds hers A drawn)
      (judged : row_seen hers A row ≡ Ok drawn) (step : Step A adds.entry) where
    abbrev B : History
    B = twinned t A

    asked : RowCalls hers A row drawn
    asked = row-calls hers A row drawn both.ready judged

    one : added (Some u) A asked.command ≡ adds.entry ∷ []
    one = adds-one hers A row drawn adds both.legal asked

    room-of : (command : Command) → IsRowCommand command
        → Room t A both.legal step.no_one step.no_other u at command
    room-of (commands.SetConflict paper name on) is = tt
    room-of (commands.Assign paper name kind) is = tt
    room-of (commands.Unassign paper name) is = tt
    room-of (commands.Tag paper tag on) is = tt
    room-of command is = absurd is

    twin : CallTwin t A both.legal step.no_one step.no_other u at asked.command
    twin = call-twin t A both.legal step.no_one step.no_other u at asked.command
        (may-accepted A (call_by hers asked.command) drawn both.legal asked.caller asked.accepted)
        (subst (FirstPeers t A both.legal step.no_one step.no_other u) (sym one) step.peers)
        (room-of asked.command asked.told.of_row)

    given-by : giver t u asked.command ≡ u
    given-by =
        sym (lead t A both.legal step.no_one step.no_other u at asked.command)
        ∙ ap (lead_of t u (giver t u asked.command)) one
        ∙ eqb-true (twin_maker t u adds.entry) u step.stays

    adds-other : added (Some u) B (rename twin.text asked.command) ≡ map (twin_entry t) (added (Some u) A asked.command)
    adds-other = (λ i. added (Some (sym given-by i)) B (rename twin.text asked.command)) ∙ twin.adds

    login : command_wants_login (rename twin.text asked.command) ≡ true
    login = rename-login twin.text asked.command
        ∙ user-login A (command_wants_login asked.command) asked.caller

    caller : IsCaller B (Some u) (rename twin.text asked.command)
    caller = subst (λ (login : Bool). CallsAs B login (Some u)) (sym login) both.ready'.registered

    accepted_there : Accepts B (call_by hers (rename twin.text asked.command)) (grouped hers (twin_entry t adds.entry ∷ []))
    accepted_there =
        let k = accepts B (call_by hers (rename twin.text asked.command)) both.legal' caller
        ((λ i. may_do (Some (sym given-by i)) at B (rename twin.text asked.command)) ∙ twin.may) in
        record {
          drawn = k.drawn;
          is = k.is;
          group = k.group
              ∙ (λ i. grouped (record hers { maker = makes u B (rename twin.text asked.command) login i })
              ((adds-other ∙ ap (map (twin_entry t)) one) i));
        }

    none-own : (command : Command) (text : Option (List ℕ)) → IsRowCommand command
        → may_do (Some u) at A command ≡ true → giver t u command ≡ u
        → turns_own_conflict u (resolve (facts_in_view (Some u) (view (Some u) A)).accounts command) ≡ false
        → added (Some u) B (rename text command) ≡ map (twin_entry t) (added (Some u) A command)
        → turns_own_conflict u (resolve (facts_in_view (Some u) (view (Some u) B)).accounts (rename text command)) ≡ false
    none-own (commands.SetConflict None name true) text of_row may stays own adds = absurd (true≢false (sym may))
    none-own (commands.SetConflict None name false) text of_row may stays own adds = absurd (true≢false (sym may))
    none-own (commands.SetConflict (Some p) name on) text of_row may stays own adds =
        own-named B both.legal' u (Some p) (renamed text name) on
        ∙ own-kept t p u on (user_named name A) (user_named (renamed text name) B) stays adds
        (sym (own-named A both.legal u (Some p) name on) ∙ own)
    none-own (commands.Assign paper name kind) text of_row may stays own adds = refl
    none-own (commands.Unassign paper name) text of_row may stays own adds = refl
    none-own (commands.Tag paper tag on) text of_row may stays own adds = refl
    none-own command text of_row may stays own adds = absurd of_row

    row-twin : RowTwin A row adds.entry
    row-twin = record {
      other = renamed_row twin.text row;
      drawn = accepted_there.drawn;
      is = seen-as u u at B (renamed_row twin.text row) (rename twin.text asked.command) accepted_there.drawn
          (row-renamed twin.text row asked.command twin.tellable asked.is)
          (none-own asked.command twin.text asked.told.of_row
          (may-accepted A (call_by hers asked.command) drawn both.legal asked.caller asked.accepted) given-by asked.other
          adds-other) accepted_there.is;
      group = accepted_there.group;
    }

  -- ---- all rows

  -- it is so of each of these in its turn
  abbrev pub AllStep : History → List Entry → Type 0
  AllStep A [] = Unit {0}
  AllStep A (e ∷ es) = Step A e × AllStep (A ++ stamped hers false e ∷ []) es

  pub record RowsTwin (A : History) (n : ℕ) (rows : List BulkRow) (es : List Entry) : Type 0 where
    pub others : List BulkRow
    pub long : length others ≡ length rows
    pub is : seen hers (twinned t A) n others ≡ Ok (map (twin_entry t) es)

  twin-next : (A : History) (e : Entry) → eqb (twin_maker t u e) u ≡ true
      → twinned t (A ++ stamped hers false e ∷ []) ≡ twinned t A ++ stamped hers false (twin_entry t e) ∷ []
  twin-next A e stays =
      map-append (twin_of t) A (stamped hers false e ∷ [])
      ∙ ap (λ (stamp : Stamp). twinned t A ++ stamped stamp false (twin_entry t e) ∷ [])
      (stamp-same (twin_maker t u e) hers stays)

  pub rows-twin : (rows : List BulkRow) (n : ℕ) (A : History) (es : List Entry) → Ready A → AllStep A es
      → seen hers A n rows ≡ Ok es → RowsTwin A n rows es
  rows-twin [] n A es both steps accepted =
      record { others = []; long = refl; is = λ i. Ok (map (twin_entry t) (no_rows hers es accepted i)) }
  rows-twin (row ∷ rows) n A es both steps accepted =
      let all : AreAccepted hers A n row rows es = rows-accepted hers A n row rows es both.ready accepted in
      by all.drawn all.judged all.first all.more (all.rest false) all.all (subst (AllStep A) all.all steps)
      (rows-twin rows (n + 1))
    where
      by : (drawn : Drawn) → row_seen hers A row ≡ Ok drawn → (adds : RowAdds hers A drawn) (more : List Entry)
          → seen hers (A ++ stamped hers false adds.entry ∷ []) (n + 1) rows ≡ Ok more
          → es ≡ adds.entry ∷ more → AllStep A (adds.entry ∷ more)
          → ((A : History) (es : List Entry) → Ready A → AllStep A es
          → seen hers A (n + 1) rows ≡ Ok es → RowsTwin A (n + 1) rows es)
          → RowsTwin A n (row ∷ rows) es
      by drawn judged adds more then same steps rest = record {
        others = taken.other ∷ later.others;
        long = ap suc later.long;
        is = ap (λ (r : Result Drawn Rule). and_behind n r goes) taken.is
            ∙ ap
            (λ (V : View). and_rows (entries_of taken.drawn.group)
            (rows_judged (view_basis u) hers V (n + 1) later.others))
            (next-seen hers (twinned t A) taken.drawn both.ready' adds' false)
            ∙ ap (and_rows (entries_of taken.drawn.group))
            (ap (λ (H : History). seen hers H (n + 1) later.others) there ∙ later.is)
            ∙ (λ i. Ok (entries_of (taken.group i) ++ map (twin_entry t) more))
            ∙ (λ i. Ok (map (twin_entry t) (sym same i)));
      }
        where
          taken : RowTwin A row adds.entry
          taken = row-twin A both row drawn adds judged steps.0

          adds' : RowAdds hers (twinned t A) taken.drawn
          adds' = row-adds hers (twinned t A) taken.other taken.drawn both.ready' taken.is

          entry : adds'.entry ≡ twin_entry t adds.entry
          entry = entry-same adds'.entry (twin_entry t adds.entry) (entries_of taken.drawn.group)
              (ap (λ (g : History). entries_of g) adds'.group) (ap (λ (g : History). entries_of g) taken.group)

          there : twinned t A ++ stamped hers false adds'.entry ∷ [] ≡ twinned t (A ++ stamped hers false adds.entry ∷ [])
          there = ap (λ (e : Entry). twinned t A ++ stamped hers false e ∷ []) entry
              ∙ sym (twin-next A adds.entry steps.0.stays)

          behind : Ready (A ++ stamped hers false adds.entry ∷ [])
          behind = record {
            legal = behind-legal hers A row drawn both.ready both.legal refl adds judged;
            legal' = subst (λ (H : History). Legal H) there
                (behind-legal hers (twinned t A) taken.other taken.drawn both.ready' both.legal' refl adds' taken.is);
            ready = next-ready hers A drawn both.ready adds false;
            ready' = subst (λ (H : History). IsReady hers H) there
                (next-ready hers (twinned t A) taken.drawn both.ready' adds' false);
          }

          later : RowsTwin (A ++ stamped hers false adds.entry ∷ []) (n + 1) rows more
          later = rest (A ++ stamped hers false adds.entry ∷ []) more behind steps.1 then

          goes : History → Result (List Entry) Broken
          goes group =
              rows_judged (view_basis u) hers (view (Some u) (twinned t A) ++ own_sightings group) (n + 1) later.others
