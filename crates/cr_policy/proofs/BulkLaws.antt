-- SPDX-License-Identifier: Apache-2.0 OR MIT
-- Bulks: a row's judgement by the view behind the rows before it is that by the tables, and what all of them add
-- keeps the invariants.
use Rattle.std.proofs.Common.{ℕ, Bool, true, false, cond, ◌≡◌, ◌+◌, List, [], ◌∷◌, ◌++◌, length, eqb, refl, sym, ap}
use Rattle.std.proofs.Common.{subst, ◌∙◌, append_assoc, append-nil, Option, Some, None, Result, Ok, Err}
use Rattle.std.specs.Prelude.{is_none, unwrap_or}
use Rattle.std.proofs.lemmas.Bool.{true≢false}
use Rattle.cr_base.specs.declared.bulk.Broken.{Broken}
use Rattle.cr_base.specs.declared.bulk.BulkRow.{BulkRow}
use Rattle.cr_base.specs.declared.command.Command.{Command}
use Rattle.cr_base.specs.declared.command.Command.TheVariants.{SetConflict, Assign, Unassign, Tag}
use Rattle.cr_base.specs.declared.entry.Entry.{Entry}
use Rattle.cr_base.specs.declared.entry.Entry.TheVariants as entries
use Rattle.cr_base.specs.declared.entry.Stamp.{Stamp}
use Rattle.cr_base.specs.declared.reply.Rule.{Rule}
use Rattle.cr_base.specs.declared.reply.Rule.TheVariants as rules
use Rattle.cr_base.specs.Bounds.{IsBoundedCommand}
use Rattle.cr_base.specs.Bulk.{IsRowCommand, Action, action_of, assigns, unassigns, turns_conflict, turns_tag}
use Rattle.cr_base.specs.Bulk.{command_told_by, row_command, turns_own_conflict, row_told_judged, row_judged}
use Rattle.cr_base.specs.Bulk.{entries_of, and_rows, and_behind, rows_judged, bulk_checks, bulk_drawn, bulk_of_rows}
use Rattle.cr_base.specs.Bulk.{bulk_behind, tables_basis, bulk_by_role}
use Rattle.cr_base.specs.Calls.{BulkCall, call_by}
use Rattle.cr_base.specs.Checks.{judged}
use Rattle.cr_base.specs.Deeds.{Deed, deed_at, drawn_by}
use Rattle.cr_base.specs.Drawn.{stamped, Drawn, grouped}
use Rattle.cr_base.specs.History.{History}
use Rattle.cr_base.specs.Judging.{judge_by}
use Rattle.cr_base.specs.Lists.{is_number}
use Rattle.cr_base.specs.Parse.{parse_paper}
use Rattle.cr_base.specs.Resolving.{resolve}
use Rattle.cr_base.specs.Sources.{Facts, Shown, user_among, target_named, facts_of_tables}
use Rattle.cr_base.specs.Sources.{shown_in_tables}
use Rattle.cr_base.specs.Tables.{Tables, tables_of, tables_from, Fits, FitInTurn}
use Rattle.cr_base.specs.TagTexts.{is_tag}
use Rattle.cr_base.proofs.CheckLaws.{NoneBroken, judged-Ok}
use Rattle.cr_history.specs.Groups.{IsRuled, IsBoundedStamp, StandsAlone, Adds, single, submitted, first_user, Grows}
use Rattle.cr_history.specs.Groups.{adds, goes_on}
use Rattle.cr_history.specs.Invariants.{IsRegistered, IsMadeByUser, Invariants}
use Rattle.cr_history.specs.Laws.{AreTold, AreFormsTold}
use Rattle.cr_history.proofs.FormAgreement.{forms_tell}
use Rattle.cr_history.proofs.GrowthLaws.{growth_keeps}
use Rattle.cr_history.proofs.TableAgreement.{tables_of-append}
use Rattle.cr_policy.specs.Judge.{judge, view_basis, own_sightings, judge_row, judge_bulk}
use Rattle.cr_policy.specs.Legal.{IsCaller, IsGiven}
use Rattle.cr_policy.specs.View.{View, view}
use Rattle.cr_policy.specs.ViewFacts.{facts_in_view, shown_in_view}
use Rattle.cr_policy.proofs.AcceptedLaws.{Kept-told, key-given, accepted-adds, accepted-fits}
use Rattle.cr_policy.proofs.BulkViews.{LeavesStanding, row-goes, registered-behind, view-behind}
use Rattle.cr_policy.proofs.FactAgreement.{facts_in_view-tables}
use Rattle.cr_policy.proofs.JudgeAgreement.{judge-tables}

-- ---- the command of a row

-- a row tells one of those that a row may tell, and it is within its bounds
pub record IsTold (command : Command) : Type 0 where
  pub of_row : IsRowCommand command
  pub bounded : IsBoundedCommand command

told_as : (given command : Command) → IsTold given → ◌≡◌ {A = Result Command Rule} (Ok given) (Ok command)
    → IsTold command
told_as given command told is = let e : given ≡ command = cc in subst IsTold e told

command-told : (action : Option Action) (row : BulkRow) (command : Command) → command_told_by action row ≡ Ok command
    → IsTold command
command-told None row command is = cc
command-told (Some (assigns kind)) row command is = told_as _ command (record { of_row = tt; bounded = tt }) is
command-told (Some unassigns) row command is = told_as _ command (record { of_row = tt; bounded = tt }) is
command-told (Some (turns_conflict on)) row command is = told_as _ command (record { of_row = tt; bounded = tt }) is
command-told (Some (turns_tag on)) row command is = by (is_tag row.tag) refl is
  where
    tagged : Command
    tagged = Tag (parse_paper row.paper) row.tag on

    by : (b : Bool) → is_tag row.tag ≡ b → ◌≡◌ {A = Result Command Rule} (cond b (Ok tagged) (Err rules.BadTag))
        (Ok command) → IsTold command
    by true is_one is = told_as tagged command (record { of_row = tt; bounded = is_one }) is
    by false none is = cc

pub row-told : (row : BulkRow) (command : Command) → row_command row ≡ Ok command → IsTold command
unfolding row_command
row-told row command is = command-told (action_of row.action) row command is

-- who has registered may give it
row-caller : (H : History) (user : ℕ) (command : Command) → IsRowCommand command → IsRegistered H user
    → IsCaller H (Some user) command
row-caller H user (SetConflict paper name true) told registered = registered
row-caller H user (SetConflict paper name false) told registered = registered
row-caller H user (Assign paper name kind) told registered = registered
row-caller H user (Unassign paper name) told registered = registered
row-caller H user (Tag paper tag true) told registered = registered
row-caller H user (Tag paper tag false) told registered = registered
row-caller H user command told registered = absurd told

-- ---- what it draws

pub record RowDraws (stamp : Stamp) (drawn : Drawn) : Type 0 where
  pub entry : Entry
  pub group : drawn.group ≡ grouped stamp (entry ∷ [])
  pub of_row : LeavesStanding stamp.maker entry

module _ (facts : Facts) (shown : Shown) (stamp : Stamp) where
  abbrev deed_of : Command → Deed
  deed_of command = deed_at facts shown stamp (resolve facts.accounts command)

  -- one entry, which leaves how its maker stands
  abbrev LeavesOne : List Entry → Type 0
  LeavesOne (e ∷ []) = LeavesStanding stamp.maker e
  LeavesOne entries = ⊥

  -- a user is named, and she isn't the caller
  other-named : (paper target : Option ℕ) → is_none (target_named facts shown (Some stamp.maker) paper target) ≡ false
      → is_number target stamp.maker ≡ false
      → eqb (unwrap_or target 0) stamp.maker ≡ false
  other-named paper None there other = absurd (true≢false there)
  other-named paper (Some v) there other = other

  -- a row's command, where no rule is broken, makes such
  row-leaves : (command : Command) → IsRowCommand command → turns_own_conflict stamp.maker (resolve facts.accounts command) ≡ false
      → NoneBroken (deed_of command).checks
      → ((deed_of command).maker ≡ stamp.maker) × LeavesOne ((deed_of command).first ∷ (deed_of command).behind)
  row-leaves (SetConflict paper name on) of_row other none =
      (refl, other-named paper (user_among facts.accounts name) none.1.0 other)
  row-leaves (Assign paper name kind) of_row other none = (refl, tt)
  row-leaves (Unassign paper name) of_row other none = (refl, tt)
  row-leaves (Tag paper tag on) of_row other none = (refl, tt)
  row-leaves command of_row other none = absurd of_row

  pub row-draws : (command : Command) (drawn : Drawn) → IsRowCommand command
      → turns_own_conflict stamp.maker (resolve facts.accounts command) ≡ false
      → judge_by facts shown stamp command ≡ Ok drawn → RowDraws stamp drawn
  row-draws command drawn of_row other accepted =
      let d : Deed = deed_of command in
      let k = judged-Ok d.checks (drawn_by facts.accounts stamp d) drawn accepted in
      let leaves = row-leaves command of_row other k.0 in
      by (d.first ∷ d.behind) (sym (ap (λ (x : Drawn). x.group) k.1)
      ∙ ap (λ (m : ℕ). grouped (record stamp { maker = m }) (d.first ∷ d.behind)) leaves.0) leaves.1
    where
      by : (es : List Entry) → drawn.group ≡ grouped stamp es → LeavesOne es → RowDraws stamp drawn
      by [] is leaves = absurd leaves
      by (e ∷ []) is leaves = record { entry = e; group = is; of_row = leaves }
      by (e ∷ next ∷ es) is leaves = absurd leaves

-- ---- by the rules, on a history

-- of the first entry of what a command adds: who makes it, and the rules on it
abbrev IsRuledFirst : History → History → Type 0
IsRuledFirst H [] = Unit {0}
IsRuledFirst H (e ∷ g) = IsMadeByUser H e.stamp.maker e.entry × IsRuled H e.stamp.maker e.entry

added-ruled : (H g : History) → Adds H g → IsRuledFirst H g
added-ruled H g (single stamp e moment made alone ruled) = (made, ruled)
added-ruled H g (submitted stamp paper title abstract users moment made ruled registered) = by _
  where
    by : (es : List Entry) → IsRuledFirst H (grouped stamp (entries.Submitted paper title abstract ∷ es))
    by [] = (made, ruled)
    by (e ∷ es) = (made, ruled)
added-ruled H g (first_user stamp name digest moment is texts) =
    (refl, record { phase = tt; chair = tt; role = tt; member = tt; right = tt; seat = tt; texts = texts })

row-alone : (user : ℕ) (e : Entry) → LeavesStanding user e → StandsAlone e
row-alone user (entries.Conflict paper other on) row = tt
row-alone user (entries.Assigned paper other kind ordinal) row = tt
row-alone user (entries.Unassigned paper other ordinal) row = tt
row-alone user (entries.Tagged paper tag on) row = tt
row-alone user e row = absurd row

-- the tables take it with either mark
fits-marked : (t : Tables) (stamp : Stamp) (more : Bool) (e : Entry) → Fits t (stamped stamp false e)
    → Fits t (stamped stamp more e)
fits-marked t stamp more e fit = record {
  accounts = fit.accounts;
  papers = fit.papers;
  ties = fit.ties;
  seats = fit.seats;
  reviews = fit.reviews;
  talk = fit.talk;
}

module _ (stamp : Stamp) where
  abbrev user : ℕ
  user = stamp.maker

  abbrev pub row_seen : History → BulkRow → Result Drawn Rule
  row_seen H row = judge_row (view (Some user) H) stamp row

  abbrev row_tabled : History → BulkRow → Result Drawn Rule
  row_tabled H row = row_judged (facts_of_tables (tables_of H) (Some user)) (shown_in_tables (tables_of H)) stamp row

  -- the judgement of rows, as the caller sees the history, and by its tables
  abbrev pub seen : History → ℕ → List BulkRow → Result (List Entry) Broken
  seen H n rows = rows_judged (view_basis user) stamp (view (Some user) H) n rows

  abbrev tabled : History → ℕ → List BulkRow → Result (List Entry) Broken
  tabled H n rows = rows_judged (tables_basis user) stamp (tables_of H) n rows

  -- the caller has registered, there are such a moment and such a key, and the history keeps the invariants
  pub record IsReady (H : History) : Type 0 where
    pub kept : Invariants H
    pub registered : IsRegistered H user
    pub bounds : IsBoundedStamp stamp

  -- an accepted row tells a command that is allowed and accepted there, and turns no conflict of the caller's own
  pub record RowCalls (H : History) (row : BulkRow) (drawn : Drawn) : Type 0 where
    pub command : Command
    pub is : row_command row ≡ Ok command
    pub told : IsTold command
    pub caller : IsCaller H (Some user) command
    pub other : turns_own_conflict user
        (resolve (facts_in_view (Some user) (view (Some user) H)).accounts command) ≡ false
    pub accepted : judge (view (Some user) H) (call_by stamp command) ≡ Ok drawn

  pub row-calls : (H : History) (row : BulkRow) (drawn : Drawn) → IsReady H → row_seen H row ≡ Ok drawn
      → RowCalls H row drawn
  row-calls H row drawn ready accepted = by (row_command row) refl accepted
    where
      facts : Facts
      facts = facts_in_view (Some user) (view (Some user) H)

      shown : Shown
      shown = shown_in_view (Some user) (view (Some user) H)

      by : (told : Result Command Rule) → row_command row ≡ told → row_told_judged facts shown stamp told ≡ Ok drawn
          → RowCalls H row drawn
      by (Err rule) is accepted = cc
      by (Ok command) is accepted = own (turns_own_conflict user (resolve facts.accounts command)) refl accepted
        where
          own : (b : Bool) → turns_own_conflict user (resolve facts.accounts command) ≡ b
              → ◌≡◌ {A = Result Drawn Rule} (cond b (Err rules.BulkSelf) (judge_by facts shown stamp command))
              (Ok drawn) → RowCalls H row drawn
          own true herself accepted = cc
          own false other accepted =
              let told : IsTold command = row-told row command is in
              record {
                command = command;
                is = is;
                told = told;
                caller = row-caller H user command told.of_row ready.registered;
                other = other;
                accepted = accepted;
              }

  -- so it may be given
  pub row-given : (H : History) (row : BulkRow) (drawn : Drawn) → IsReady H → (calls : RowCalls H row drawn)
      → IsGiven H (call_by stamp calls.command)
  row-given H row drawn ready calls =
      record {
        caller = calls.caller;
        bounded = calls.told.bounded;
        moment = ready.bounds.moment;
        key = key-given user stamp.key ready.bounds.key;
      }

  -- and adds one entry, which the history may have behind it with either mark
  pub record RowAdds (H : History) (drawn : Drawn) : Type 0 where
    pub entry : Entry
    pub group : drawn.group ≡ grouped stamp (entry ∷ [])
    pub of_row : LeavesStanding user entry
    pub grows : (more : Bool) → Grows H (stamped stamp more entry ∷ [])
    pub fit : Fits (tables_of H) (stamped stamp false entry)

  pub row-adds : (H : History) (row : BulkRow) (drawn : Drawn) → IsReady H → row_seen H row ≡ Ok drawn → RowAdds H drawn
  row-adds H row drawn ready seen =
      let V : View = view (Some user) H in
      let calls : RowCalls H row drawn = row-calls H row drawn ready seen in
      let draws : RowDraws stamp drawn = row-draws (facts_in_view (Some user) V) (shown_in_view (Some user) V) stamp
      calls.command drawn calls.told.of_row
      calls.other calls.accepted in
      let added : Adds H drawn.group =
      accepted-adds H (call_by stamp calls.command) drawn (row-given H row drawn ready calls) calls.accepted in
      let ruled = subst (IsRuledFirst H) draws.group (added-ruled H drawn.group added) in
      let fits = subst (FitInTurn (tables_of H)) draws.group
      (accepted-fits H (call_by stamp calls.command) drawn ready.kept (Kept-told H ready.kept) (forms_tell H ready.kept)
      calls.caller calls.accepted) in
      record {
        entry = draws.entry;
        group = draws.group;
        of_row = draws.of_row;
        grows = grown draws.entry draws.of_row ruled.0 ruled.1;
        fit = fits.0;
      }
    where
      grown : (e : Entry) → LeavesStanding user e → IsMadeByUser H user e → IsRuled H user e → (more : Bool)
          → Grows H (stamped stamp more e ∷ [])
      grown e row made ruled true = goes_on stamp e ready.bounds made (row-goes user e row) ruled
      grown e row made ruled false = adds _ (single stamp e ready.bounds made (row-alone user e row) ruled)

  -- ---- behind it

  module _ (H : History) (drawn : Drawn) (ready : IsReady H) (row : RowAdds H drawn) (more : Bool) where
    abbrev pub next : History
    next = H ++ stamped stamp more row.entry ∷ []

    pub next-ready : IsReady next
    next-ready = record {
      kept = growth_keeps.more H (stamped stamp more row.entry ∷ []) ready.kept (row.grows more)
          (fits-marked (tables_of H) stamp more row.entry row.fit, tt);
      registered = registered-behind stamp more row.entry row.of_row H user ready.registered;
      bounds = ready.bounds;
    }

    pub next-seen : view (Some user) H ++ own_sightings drawn.group ≡ view (Some user) next
    next-seen =
        ap (λ (g : History). view (Some user) H ++ own_sightings g) row.group
        ∙ sym (view-behind stamp more row.entry row.of_row H)

    next-tables : tables_of next ≡ tables_from (tables_of H) drawn.group
    next-tables =
        tables_of-append H (stamped stamp more row.entry ∷ []) ∙ ap (tables_from (tables_of H)) (sym row.group)

  -- ---- the same by the view as by the tables

  row-same : (H : History) (row : BulkRow) → Invariants H → row_seen H row ≡ row_tabled H row
  row-same H row kept = by (row_command row)
    where
      told : AreTold H
      told = Kept-told H kept

      forms : AreFormsTold H
      forms = forms_tell H kept

      by : (command : Result Command Rule) → row_told_judged (facts_in_view (Some user) (view (Some user) H))
          (shown_in_view (Some user) (view (Some user) H)) stamp command
          ≡ row_told_judged (facts_of_tables (tables_of H) (Some user)) (shown_in_tables (tables_of H)) stamp command
      by (Err rule) = refl
      by (Ok command) =
          ap (λ (facts : Facts). cond (turns_own_conflict user (resolve facts.accounts command)) (Err rules.BulkSelf)
          (judge (view (Some user) H) (call_by stamp command)))
          (facts_in_view-tables (Some user) H told forms)
          ∙ ap
          (λ (r : Result Drawn Rule). cond (turns_own_conflict user
          (resolve (facts_of_tables (tables_of H) (Some user)).accounts command)) (Err rules.BulkSelf) r)
          (judge-tables H (call_by stamp command) kept told forms)

  pub rows-same : (rows : List BulkRow) (n : ℕ) (H : History) → IsReady H → seen H n rows ≡ tabled H n rows
  rows-same [] n H ready = refl
  rows-same (row ∷ rows) n H ready =
      by (row_seen H row) refl (rows-same rows (n + 1))
      ∙ ap (λ (r : Result Drawn Rule). and_behind n r tables_go) (row-same H row ready.kept)
    where
      view_goes : History → Result (List Entry) Broken
      view_goes group = rows_judged (view_basis user) stamp (view (Some user) H ++ own_sightings group) (n + 1) rows

      tables_go : History → Result (List Entry) Broken
      tables_go group = rows_judged (tables_basis user) stamp (tables_from (tables_of H) group) (n + 1) rows

      by : (r : Result Drawn Rule) → row_seen H row ≡ r
          → ((G : History) → IsReady G → seen G (n + 1) rows ≡ tabled G (n + 1) rows)
          → and_behind n r view_goes ≡ and_behind n r tables_go
      by (Err rule) is rest = refl
      by (Ok drawn) is rest =
          let first : RowAdds H drawn = row-adds H row drawn ready is in
          ap (and_rows (entries_of drawn.group))
          (ap (λ (V : View). rows_judged (view_basis user) stamp V (n + 1) rows) (next-seen H drawn ready first true)
          ∙ rest (next H drawn ready first true) (next-ready H drawn ready first true)
          ∙ ap (λ (t : Tables). rows_judged (tables_basis user) stamp t (n + 1) rows)
          (next-tables H drawn ready first true))

  -- ---- what all of them add

  -- accepted rows: what the first adds, and that those behind it are accepted behind it, whatever its mark
  pub record AreAccepted (H : History) (n : ℕ) (row : BulkRow) (rows : List BulkRow) (es : List Entry) : Type 0 where
    pub drawn : Drawn
    pub judged : row_seen H row ≡ Ok drawn
    pub first : RowAdds H drawn
    pub more : List Entry
    pub rest : (mark : Bool) → seen (H ++ stamped stamp mark first.entry ∷ []) (n + 1) rows ≡ Ok more
    pub all : es ≡ first.entry ∷ more

  pub rows-accepted : (H : History) (n : ℕ) (row : BulkRow) (rows : List BulkRow) (es : List Entry) → IsReady H
      → seen H n (row ∷ rows) ≡ Ok es
      → AreAccepted H n row rows es
  rows-accepted H n row rows es ready accepted = by (row_seen H row) refl accepted
    where
      view_goes : History → Result (List Entry) Broken
      view_goes group = rows_judged (view_basis user) stamp (view (Some user) H ++ own_sightings group) (n + 1) rows

      by : (r : Result Drawn Rule) → row_seen H row ≡ r → and_behind n r view_goes ≡ Ok es → AreAccepted H n row rows es
      by (Err rule) is accepted = cc
      by (Ok drawn) is accepted = behind (view_goes drawn.group) refl accepted
        where
          row_adds : RowAdds H drawn
          row_adds = row-adds H row drawn ready is

          behind : (r : Result (List Entry) Broken) → view_goes drawn.group ≡ r
              → and_rows (entries_of drawn.group) r ≡ Ok es → AreAccepted H n row rows es
          behind (Err refusal) goes accepted = cc
          behind (Ok more) goes accepted = record {
            drawn = drawn;
            judged = is;
            first = row_adds;
            more = more;
            rest = λ mark.
                ap (λ (V : View). rows_judged (view_basis user) stamp V (n + 1) rows)
                (sym (next-seen H drawn ready row_adds mark)) ∙ goes;
            all = same (entries_of drawn.group ++ more) accepted
                ∙ ap (λ (g : History). entries_of g ++ more) row_adds.group;
          }
            where
              same : (xs : List Entry) → ◌≡◌ {A = Result (List Entry) Broken} (Ok xs) (Ok es) → es ≡ xs
              same xs h = cc

  pub no_rows : (es : List Entry) → ◌≡◌ {A = Result (List Entry) Broken} (Ok []) (Ok es) → [] ≡ es
  no_rows es h = cc

  pub rows-keep : (rows : List BulkRow) (n : ℕ) (H : History) (es : List Entry) → IsReady H → seen H n rows ≡ Ok es
      → Invariants (H ++ grouped stamp es)
  rows-keep [] n H es ready accepted =
      subst (λ (es : List Entry). Invariants (H ++ grouped stamp es)) (no_rows es accepted)
      (subst Invariants (sym (append-nil H)) ready.kept)
  rows-keep (row ∷ rows) n H es ready accepted =
      let all = rows-accepted H n row rows es ready accepted in
      subst (λ (es : List Entry). Invariants (H ++ grouped stamp es)) (sym all.all)
      (by all.drawn all.first all.more (all.rest true) (rows-keep rows (n + 1)))
    where
      by : (drawn : Drawn) (first : RowAdds H drawn) (more : List Entry)
          → seen (H ++ stamped stamp true first.entry ∷ []) (n + 1) rows ≡ Ok more
          → ((G : History) (es : List Entry) → IsReady G → seen G (n + 1) rows ≡ Ok es
          → Invariants (G ++ grouped stamp es))
          → Invariants (H ++ grouped stamp (first.entry ∷ more))
      by drawn first [] goes rest = (next-ready H drawn ready first false).kept
      by drawn first (e ∷ more) goes rest =
          subst Invariants (append_assoc H (stamped stamp true first.entry ∷ []) (grouped stamp (e ∷ more)))
          (rest (next H drawn ready first true) (e ∷ more) (next-ready H drawn ready first true) goes)

  -- ---- the bulk

  abbrev bulk : List BulkRow → BulkCall
  bulk rows = record { stamp = stamp; rows = rows }

  pub bulk-same : (H : History) (rows : List BulkRow) → IsReady H
      → judge_bulk (view (Some user) H) (bulk rows) ≡ bulk_by_role (tables_of H) (bulk rows)
  bulk-same H rows ready =
      by (judged (bulk_checks ((facts_in_view (Some user) (view (Some user) H)).standing None)) tt)
      ∙ ap (λ (facts : Facts). bulk_behind (tables_basis user) (tables_of H) (bulk rows)
      (judged (bulk_checks (facts.standing None)) tt))
      (facts_in_view-tables (Some user) H (Kept-told H ready.kept) (forms_tell H ready.kept))
    where
      by : (r : Result (Unit {0}) Rule) → bulk_behind (view_basis user) (view (Some user) H) (bulk rows) r
          ≡ bulk_behind (tables_basis user) (tables_of H) (bulk rows) r
      by (Err rule) = refl
      by (Ok done) = ap (bulk_of_rows stamp (length rows)) (rows-same rows 1 H ready)

  -- an accepted bulk draws the entries of its rows
  pub record BulkDraws (H : History) (rows : List BulkRow) (drawn : Drawn) : Type 0 where
    pub entries : List Entry
    pub accepted : seen H 1 rows ≡ Ok entries
    pub drawn_is : bulk_drawn stamp (length rows) entries ≡ drawn

  pub bulk-draws : (H : History) (rows : List BulkRow) (drawn : Drawn)
      → judge_bulk (view (Some user) H) (bulk rows) ≡ Ok drawn → BulkDraws H rows drawn
  bulk-draws H rows drawn accepted =
      by (judged (bulk_checks ((facts_in_view (Some user) (view (Some user) H)).standing None)) tt) accepted
    where
      all : (r : Result (List Entry) Broken) → seen H 1 rows ≡ r → bulk_of_rows stamp (length rows) r ≡ Ok drawn
          → BulkDraws H rows drawn
      all (Err refusal) is accepted = cc
      all (Ok es) is accepted = record { entries = es; accepted = is; drawn_is = cc }

      by : (r : Result (Unit {0}) Rule) → bulk_behind (view_basis user) (view (Some user) H) (bulk rows) r ≡ Ok drawn
          → BulkDraws H rows drawn
      by (Err rule) accepted = cc
      by (Ok done) accepted = all (seen H 1 rows) refl accepted
