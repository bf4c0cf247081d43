-- SPDX-License-Identifier: Apache-2.0 OR MIT
-- Whole groups of bulks: what the rows of an accepted one add is a beginning of which no other entry follows, and each
-- such beginning of a row's kind with others behind it is what some allowed bulk adds.
use Rattle.std.proofs.Common.{ℕ, Bool, true, false, cond, ◌≡◌, ◌≤◌, ◌+◌, ◌&&◌, List, [], ◌∷◌, ◌++◌, length, eqb, suc}
use Rattle.std.proofs.Common.{refl, sym, ap, subst, ◌∙◌, arith, Option, Some, None, is_some, IfSome, Result, Ok, Err}
use Rattle.std.specs.Prelude.{map, nat_le, nat_lt, not, is_ok, find}
use Rattle.std.specs.List.{AllByRecursion}
use Rattle.std.specs.Option.{option_map}
use Rattle.std.proofs.lemmas.Bool.{and_parts, not-true, true≢false}
use Rattle.std.proofs.lemmas.Bool.Decides.{nat_tests}
use Rattle.std.proofs.lemmas.Option.{same_Some}
use Rattle.cr_base.specs.declared.bulk.Broken.{Broken}
use Rattle.cr_base.specs.declared.bulk.Broken.TheVariants as broken
use Rattle.cr_base.specs.declared.bulk.BulkRow.{BulkRow}
use Rattle.cr_base.specs.declared.command.Command.{Command}
use Rattle.cr_base.specs.declared.command.Command.TheVariants as commands
use Rattle.cr_base.specs.declared.entry.Account.{Account}
use Rattle.cr_base.specs.declared.entry.Entry.{Entry}
use Rattle.cr_base.specs.declared.entry.Entry.TheVariants as entries
use Rattle.cr_base.specs.declared.entry.Stamp.{Stamp}
use Rattle.cr_base.specs.declared.reply.AccountLine.{AccountLine}
use Rattle.cr_base.specs.declared.reply.Rule.{Rule}
use Rattle.cr_base.specs.declared.reply.Rule.TheVariants as rules
use Rattle.cr_base.specs.declared.resolved.ResolvedCommand.{ResolvedCommand}
use Rattle.cr_base.specs.declared.resolved.ResolvedCommand.TheVariants as resolved
use Rattle.cr_base.specs.declared.words.Kind.{Kind}
use Rattle.cr_base.specs.Accounts.{accounts_after, lines_of}
use Rattle.cr_base.specs.Bulk.{Action, assigns, unassigns, turns_conflict, turns_tag, action_of, command_told_by}
use Rattle.cr_base.specs.Bulk.{row_command, row_judged, row_told_judged, turns_own_conflict, IsRowCommand}
use Rattle.cr_base.specs.Bulk.{and_behind, and_rows, entries_of, rows_judged, tables_basis, bulk_drawn}
use Rattle.cr_base.specs.Calls.{BulkCall}
use Rattle.cr_base.specs.Deeds.{Deed, deed_at, drawn_by}
use Rattle.cr_base.specs.Drawn.{Drawn, grouped}
use Rattle.cr_base.specs.History.{History}
use Rattle.cr_base.specs.Judging.{judge_resolved}
use Rattle.cr_base.specs.Parse.{parse_paper, parse_name}
use Rattle.cr_base.specs.Resolving.{command_of, resolve}
use Rattle.cr_base.specs.Rows.{IsBoundedEntry}
use Rattle.cr_base.specs.Shapes.{FitsStamp}
use Rattle.cr_base.specs.Sources.{facts_of_tables, is_late, is_there, name_in, shown_in_tables}
use Rattle.cr_base.specs.Tables.{Tables, tables_after, tables_from, tables_of}
use Rattle.cr_base.specs.TagTexts.{is_tag}
use Rattle.cr_base.specs.Texts.{is_name}
use Rattle.cr_base.proofs.ByNames.{NamedOnce, NamesThere, by_names, names-there, resolves-back}
use Rattle.cr_base.proofs.CheckLaws.{judged-Ok, judged-none}
use Rattle.cr_base.proofs.ListLaws.{name_in-lines_of}
use Rattle.cr_base.proofs.ResolvingLaws.{AddsOne, AddsIt, IsLone, adds-it, lone-one}
use Rattle.cr_history.specs.Invariants.{IsRegistered}
use Rattle.cr_policy.specs.Legal.{IsNewKey, Legal}
use Rattle.cr_policy.proofs.AccountNames.{AreNames, row_names}
use Rattle.cr_policy.proofs.LegalLaws.{given-bounded, Legal-judge_bulk}
use Rattle.cr_beginnings.specs.Beginnings.{IsDrawn, IsBehind, IsGroup, caller_judged, is_of_row, may_bulk, most_entries}
use Rattle.cr_beginnings.proofs.BeginningCalls.{IsAdded, hers-first, least, lone-least, named-once, registered-there}
use Rattle.cr_beginnings.proofs.BeginningLaws.{unfinished, map-more, AreBehind, IsBeginning, drawn-unbroken, drawn-judged}
use Rattle.cr_beginnings.proofs.BeginningLaws.{drawn-group, made}
use Rattle.cr_beginnings.proofs.BulkParts.{Parts, bulk-parts, parts-bulk, err_ok, ok_is}
use Rattle.cr_beginnings.proofs.GroupLegal.{MayAddRows, grouped-group}
use Rattle.cr_beginnings.proofs.GroupRows.{bounded-stamp}
use Rattle.cr_beginnings.proofs.BulkSpelling.{Spelled, assign-spelled, unassign-spelled, conflict-spelled, tag-spelled}

-- ---- the entries of rows, each behind those before it

abbrev pub AreRows : Tables → Stamp → List Entry → Type 0
AreRows t stamp [] = Unit {0}
AreRows t stamp (e ∷ es) =
    (is_of_row stamp.maker e ≡ true) × IsDrawn t stamp e × AreRows (tables_after t (unfinished stamp e)) stamp es

tables_from-append : (t : Tables) (H G : History) → tables_from t (H ++ G) ≡ tables_from (tables_from t H) G
tables_from-append t [] G = refl
tables_from-append t (s ∷ H) G = tables_from-append (tables_after t s) H G

tables-more : (t : Tables) (stamp : Stamp) (es : List Entry) (e : Entry)
    → tables_from t (map (unfinished stamp) (es ++ e ∷ []))
    ≡ tables_after (tables_from t (map (unfinished stamp) es)) (unfinished stamp e)
tables-more t stamp es e =
    ap (tables_from t) (sym (map-more stamp es e))
    ∙ tables_from-append t (map (unfinished stamp) es) (unfinished stamp e ∷ [])

-- behind such an entry as a row's stand rows
pub row-behind : (t : Tables) (stamp : Stamp) (first : Entry) (behind : History) (e : Entry) → IsLone first
    → IsBehind t stamp first behind e
    → (is_of_row stamp.maker e ≡ true) × IsDrawn (tables_from t (unfinished stamp first ∷ behind)) stamp e
row-behind t stamp (entries.Registered user name digest) behind e lone is = absurd lone
row-behind t stamp (entries.Submitted paper title abstract) behind e lone is = absurd lone
row-behind t stamp first behind e lone is = is

pub behind-row : (t : Tables) (stamp : Stamp) (first : Entry) (behind : History) (e : Entry) → IsLone first
    → (is_of_row stamp.maker e ≡ true) × IsDrawn (tables_from t (unfinished stamp first ∷ behind)) stamp e
    → IsBehind t stamp first behind e
behind-row t stamp (entries.Registered user name digest) behind e lone is = absurd lone
behind-row t stamp (entries.Submitted paper title abstract) behind e lone is = absurd lone
behind-row t stamp first behind e lone is = is

module _ (t : Tables) (stamp : Stamp) (first : Entry) (lone : IsLone first) where
  pub behind-rows : (before es : List Entry) → AreBehind t stamp first before es
      → AreRows (tables_from t (map (unfinished stamp) (first ∷ before))) stamp es
  behind-rows before [] are = tt
  behind-rows before (e ∷ es) are =
      let is = row-behind t stamp first (map (unfinished stamp) before) e lone are.0 in (
        is.0,
        is.1,
        subst (λ (x : Tables). AreRows x stamp es) (tables-more t stamp (first ∷ before) e)
            (behind-rows (before ++ e ∷ []) es are.1),
      )

  pub rows-behind : (before es : List Entry) → AreRows (tables_from t (map (unfinished stamp) (first ∷ before))) stamp es
      → AreBehind t stamp first before es
  rows-behind before [] are = tt
  rows-behind before (e ∷ es) are = (
    behind-row t stamp first (map (unfinished stamp) before) e lone (are.0, are.1),
    rows-behind (before ++ e ∷ []) es
        (subst (λ (x : Tables). AreRows x stamp es) (sym (tables-more t stamp (first ∷ before) e)) are.2),
  )

-- ---- each kind of them

-- what holds of each kind of entry that a row may add, and of the command that it tells
pub record OfRows (P : Entry → ResolvedCommand → Type 0) : Type 0 where
  pub conflict : (p v : ℕ) (on : Bool) → P (entries.Conflict p v on) (resolved.SetConflict (Some p) (Some v) on)
  pub assigned : (p v : ℕ) (kind : Kind) (ordinal : ℕ)
      → P (entries.Assigned p v kind ordinal) (resolved.Assign (Some p) (Some v) kind)
  pub unassigned : (p v ordinal : ℕ) → P (entries.Unassigned p v ordinal) (resolved.Unassign (Some p) (Some v))
  pub tagged : (p : ℕ) (tag : List ℕ) (on : Bool) → P (entries.Tagged p tag on) (resolved.Tag (Some p) tag on)

-- holds of each
pub of-rows : (P : Entry → ResolvedCommand → Type 0) → OfRows P → (maker : ℕ) (e : Entry) (command : ResolvedCommand)
    → is_of_row maker e ≡ true → command_of e ≡ Some command → P e command
of-rows P of maker (entries.Conflict p v on) command is told =
    subst (P (entries.Conflict p v on)) (same_Some (resolved.SetConflict (Some p) (Some v) on) command told)
    (of.conflict p v on)
of-rows P of maker (entries.Assigned p v kind ordinal) command is told =
    subst (P (entries.Assigned p v kind ordinal)) (same_Some (resolved.Assign (Some p) (Some v) kind) command told)
    (of.assigned p v kind ordinal)
of-rows P of maker (entries.Unassigned p v ordinal) command is told =
    subst (P (entries.Unassigned p v ordinal)) (same_Some (resolved.Unassign (Some p) (Some v)) command told)
    (of.unassigned p v ordinal)
of-rows P of maker (entries.Tagged p tag on) command is told =
    subst (P (entries.Tagged p tag on)) (same_Some (resolved.Tag (Some p) tag on) command told) (of.tagged p tag on)
of-rows P of maker e command is told = absurd (true≢false (sym is))

-- they may stand alone
pub row-lone : (maker : ℕ) (e : Entry) → is_of_row maker e ≡ true → IsLone e
row-lone maker (entries.Registered user name digest) is = absurd (true≢false (sym is))
row-lone maker (entries.Submitted paper title abstract) is = absurd (true≢false (sym is))
row-lone maker e is = tt

-- and leave the accounts
same-accounts : (accounts : List Account) (maker : ℕ) (e : Entry) → is_of_row maker e ≡ true
    → accounts_after accounts e ≡ accounts
same-accounts accounts maker (entries.Conflict p v on) is = refl
same-accounts accounts maker (entries.Assigned p v kind ordinal) is = refl
same-accounts accounts maker (entries.Unassigned p v ordinal) is = refl
same-accounts accounts maker (entries.Tagged p tag on) is = refl
same-accounts accounts maker e is = absurd (true≢false (sym is))

-- none turns a conflict of the maker's own
pub row-other : (maker : ℕ) (e : Entry) (command : ResolvedCommand) → is_of_row maker e ≡ true
    → command_of e ≡ Some command → turns_own_conflict maker command ≡ false
row-other maker e command is told =
    of-rows (λ (e : Entry) (c : ResolvedCommand). is_of_row maker e ≡ true → turns_own_conflict maker c ≡ false)
    (record {
      conflict = λ p v on h. not-true (eqb v maker) h;
      assigned = λ p v kind ordinal h. refl;
      unassigned = λ p v ordinal h. refl;
      tagged = λ p tag on h. refl;
    }) maker e command is told is

-- ---- the rows that spell them

-- whoever is there has a name that a row can tell
named-there : (accounts : List Account) → AreNames accounts → (user : ℕ) → is_there (lines_of accounts) user ≡ true
    → (name : List ℕ) × (name_in (lines_of accounts) user ≡ Some name) × (is_name name ≡ true)
named-there accounts names user there = by (find (λ (a : AccountLine). eqb a.user user) (lines_of accounts)) refl there
  where
    by : (line : Option AccountLine) → find (λ (a : AccountLine). eqb a.user user) (lines_of accounts) ≡ line
        → is_some (option_map (λ (a : AccountLine). a.role) line) ≡ true
        → (name : List ℕ) × (name_in (lines_of accounts) user ≡ Some name) × (is_name name ≡ true)
    by None is h = absurd (true≢false (sym h))
    by (Some line) is h =
        let named : name_in (lines_of accounts) user ≡ Some line.name =
        ap (option_map (λ (a : AccountLine). a.name)) is in
        (line.name, named, names user line.name (sym (name_in-lines_of accounts user) ∙ named))

-- a row spells the command that an entry tells
entry-spelled : (accounts : List Account) → AreNames accounts → (stamp : Stamp) (e : Entry) (command : ResolvedCommand)
    → is_of_row stamp.maker e ≡ true → command_of e ≡ Some command → IsBoundedEntry (unfinished stamp e)
    → NamesThere (lines_of accounts) command → Spelled (by_names (lines_of accounts) command)
entry-spelled accounts names stamp e command is told =
    of-rows
    (λ (e : Entry) (c : ResolvedCommand). IsBoundedEntry (unfinished stamp e) → NamesThere (lines_of accounts) c
    → Spelled (by_names (lines_of accounts) c))
    (record {
      conflict = λ p v on bounded there.
          let n = named-there accounts names v there in
          subst (λ (o : Option (List ℕ)). Spelled (commands.SetConflict (Some p) o on)) (sym n.1)
          (conflict-spelled p bounded.n1.0 bounded.n1.1 n.0 n.2 on);
      assigned = λ p v kind ordinal bounded there.
          let n = named-there accounts names v there in
          subst (λ (o : Option (List ℕ)). Spelled (commands.Assign (Some p) o kind)) (sym n.1)
          (assign-spelled p bounded.n1.0 bounded.n1.1 n.0 n.2 kind);
      unassigned = λ p v ordinal bounded there.
          let n = named-there accounts names v there in
          subst (λ (o : Option (List ℕ)). Spelled (commands.Unassign (Some p) o)) (sym n.1)
          (unassign-spelled p bounded.n1.0 bounded.n1.1 n.0 n.2);
      tagged = λ p tag on bounded there. tag-spelled p bounded.n1.0 bounded.n1.1 tag on bounded.b1;
    }) stamp.maker e command is told

-- a row that draws the entry
record RowOf (t : Tables) (stamp : Stamp) (e : Entry) : Type 0 where
  row : BulkRow
  drawn : Drawn
  accepted : row_judged (facts_of_tables t (Some stamp.maker)) (shown_in_tables t) stamp row ≡ Ok drawn
  group_is : drawn.group ≡ grouped stamp (e ∷ [])

module _ (t : Tables) (names : AreNames t.accounts) (once : NamedOnce (lines_of t.accounts)) (stamp : Stamp) (e : Entry)
    (of : is_of_row stamp.maker e ≡ true) (d : IsDrawn t stamp e) (bounded : IsBoundedEntry (unfinished stamp e)) where
  abbrev late : Bool
  late = is_late (facts_of_tables t (Some stamp.maker)) stamp.at

  there : NamesThere (lines_of t.accounts) d.command
  there = names-there (facts_of_tables t (Some stamp.maker)) (shown_in_tables t) stamp.maker late d.command
      (drawn-unbroken t stamp e d)

  adds : AddsIt (facts_of_tables t (Some stamp.maker)) (shown_in_tables t) stamp.maker late d.command
  adds = adds-it (facts_of_tables t (Some stamp.maker)) (shown_in_tables t) stamp.maker late d.command
      (lone-one e d.command d.told (row-lone stamp.maker e of)) (drawn-unbroken t stamp e d)

  row-of : RowOf t stamp e
  row-of =
      let spelled = entry-spelled t.accounts names stamp e d.command of d.told bounded there in
      record {
        row = spelled.0;
        drawn = drawn_by (lines_of t.accounts) stamp (made t stamp e d);
        accepted = ap (λ (told : Result Command Rule). row_told_judged (facts_of_tables t (Some stamp.maker))
            (shown_in_tables t) stamp told) spelled.1
            ∙ ap (λ (c : ResolvedCommand). cond (turns_own_conflict stamp.maker c) (Err rules.BulkSelf)
            (judge_resolved (facts_of_tables t (Some stamp.maker)) (shown_in_tables t) stamp c))
            (resolves-back (lines_of t.accounts) once d.command there)
            ∙ ap (λ (own : Bool). cond own (Err rules.BulkSelf)
            (judge_resolved (facts_of_tables t (Some stamp.maker)) (shown_in_tables t) stamp d.command))
            (row-other stamp.maker e d.command of d.told)
            ∙ drawn-judged t stamp e d;
        group_is = drawn-group t stamp e d ∙ ap (λ (es : List Entry). grouped stamp (e ∷ es)) adds.alone;
      }

-- rows that add entries
abbrev Adders : Stamp → ℕ → Tables → List Entry → Type 0
Adders stamp n t es = (rows : List BulkRow) × (length rows ≡ length es)
    × (rows_judged (tables_basis stamp.maker) stamp t n rows ≡ Ok es)

-- entries of rows have rows which add them
rows-spelled : (stamp : Stamp) (n : ℕ) (t : Tables) (es : List Entry) → AreNames t.accounts
    → NamedOnce (lines_of t.accounts) → AllByRecursion (λ (e : Entry). IsBoundedEntry (unfinished stamp e)) es
    → AreRows t stamp es → Adders stamp n t es
rows-spelled stamp n t [] names once bounded are = ([], refl, refl)
rows-spelled stamp n t (e ∷ es) names once bounded are =
    let same = sym (same-accounts t.accounts stamp.maker e are.0) in
    let here = row-of t names once stamp e are.0 are.1 bounded.0 in
    let rest = rows-spelled stamp (n + 1) (tables_after t (unfinished stamp e)) es
    (subst (λ (accounts : List Account). AreNames accounts) same names)
    (subst (λ (accounts : List Account). NamedOnce (lines_of accounts)) same once) bounded.1 are.2 in (
      here.row ∷ rest.0,
      ap suc rest.1,
      ap (λ (r : Result Drawn Rule). and_behind n r (behind rest.0)) here.accepted
          ∙ ap (λ (g : History). and_rows (entries_of g) (behind rest.0 g)) here.group_is
          ∙ ap (and_rows (e ∷ [])) rest.2,
    )
  where
    behind : List BulkRow → History → Result (List Entry) Broken
    behind rows group = rows_judged (tables_basis stamp.maker) stamp (tables_from t group) (n + 1) rows

-- ---- what rows draw

-- the command of a row is one of four
pub row_command-of_row : (row : BulkRow) (command : Command) → row_command row ≡ Ok command → IsRowCommand command
unfolding row_command
row_command-of_row row command told = by (action_of row.action) told
  where
    kept : (gave : Command) → IsRowCommand gave → ◌≡◌ {A = Result Command Rule} (Ok gave) (Ok command)
        → IsRowCommand command
    kept gave is same = subst (λ (c : Command). IsRowCommand c) (ok_is gave command same) is

    of_tag : (b : Bool) (gave : Command) → IsRowCommand gave
        → ◌≡◌ {A = Result Command Rule} (cond b (Ok gave) (Err rules.BadTag)) (Ok command) → IsRowCommand command
    of_tag true gave is same = kept gave is same
    of_tag false gave is same = absurd (err_ok rules.BadTag command same)

    by : (action : Option Action) → command_told_by action row ≡ Ok command → IsRowCommand command
    by None same = absurd (err_ok rules.BadAction command same)
    by (Some (assigns kind)) same = kept (commands.Assign (parse_paper row.paper) (parse_name row.user) kind) tt same
    by (Some unassigns) same = kept (commands.Unassign (parse_paper row.paper) (parse_name row.user)) tt same
    by (Some (turns_conflict on)) same =
        kept (commands.SetConflict (parse_paper row.paper) (parse_name row.user) on) tt same
    by (Some (turns_tag on)) same = of_tag (is_tag row.tag) (commands.Tag (parse_paper row.paper) row.tag on) tt same

-- so is its resolution
abbrev pub IsRowResolved : ResolvedCommand → Type 0
IsRowResolved (resolved.SetConflict paper user on) = Unit {0}
IsRowResolved (resolved.Assign paper user kind) = Unit {0}
IsRowResolved (resolved.Unassign paper user) = Unit {0}
IsRowResolved (resolved.Tag paper tag on) = Unit {0}
IsRowResolved command = ⊥

row-resolved : (lines : List AccountLine) (command : Command) → IsRowCommand command
    → IsRowResolved (resolve lines command)
row-resolved lines (commands.SetConflict paper name on) is = tt
row-resolved lines (commands.Assign paper name kind) is = tt
row-resolved lines (commands.Unassign paper name) is = tt
row-resolved lines (commands.Tag paper tag on) is = tt
row-resolved lines command is = absurd is

pub row-one : (command : ResolvedCommand) → IsRowResolved command → AddsOne command
row-one (resolved.Register name digest) is = is
row-one (resolved.Submit title abstract authors) is = is
row-one command is = tt

-- and the entry that tells it a row's, where it turns no conflict of the maker's own
pub row-entry : (maker : ℕ) (e : Entry) (command : ResolvedCommand) → command_of e ≡ Some command → IsRowResolved command
    → turns_own_conflict maker command ≡ false → is_of_row maker e ≡ true
row-entry maker e command told =
    subst
    (λ (o : Option ResolvedCommand). IfSome o (λ (c : ResolvedCommand). IsRowResolved c
    → turns_own_conflict maker c ≡ false → is_of_row maker e ≡ true)) told (by e)
  where
    by : (e : Entry) → IfSome (command_of e) (λ (c : ResolvedCommand). IsRowResolved c
        → turns_own_conflict maker c ≡ false → is_of_row maker e ≡ true)
    by (entries.Conflict p v on) = λ of other. ap not other
    by (entries.Assigned p v kind ordinal) = λ of other. refl
    by (entries.Unassigned p v ordinal) = λ of other. refl
    by (entries.Tagged p tag on) = λ of other. refl
    by (entries.Coauthor paper user) = tt
    by e = λ of other. absurd of

-- what a row draws: one entry, which its command draws
record Draws (t : Tables) (stamp : Stamp) (drawn : Drawn) : Type 0 where
  entry : Entry
  group_is : drawn.group ≡ grouped stamp (entry ∷ [])
  of_row : is_of_row stamp.maker entry ≡ true
  is_drawn : IsDrawn t stamp entry

module _ (t : Tables) (stamp : Stamp) where
  abbrev rowed : ResolvedCommand → Deed
  rowed command = deed_at (facts_of_tables t (Some stamp.maker)) (shown_in_tables t) stamp command

  command-draws : (command : ResolvedCommand) (drawn : Drawn) → IsRowResolved command
      → turns_own_conflict stamp.maker command ≡ false
      → ◌≡◌ {A = Result Drawn Rule}
      (judge_resolved (facts_of_tables t (Some stamp.maker)) (shown_in_tables t) stamp command) (Ok drawn)
      → Draws t stamp drawn
  command-draws command drawn of other accepted =
      let d : Deed = rowed command in
      let k = judged-Ok d.checks (drawn_by (lines_of t.accounts) stamp d) drawn accepted in
      let adds = adds-it (facts_of_tables t (Some stamp.maker)) (shown_in_tables t) stamp.maker
      (is_late (facts_of_tables t (Some stamp.maker)) stamp.at) command (row-one command of) k.0 in
      record {
        entry = d.first;
        group_is = sym (ap (λ (x : Drawn). x.group) k.1)
            ∙ (λ i. grouped (record stamp { maker = adds.maker_is i }) (d.first ∷ adds.alone i));
        of_row = row-entry stamp.maker d.first command adds.tells of other;
        is_drawn = record {
          command = command;
          told = adds.tells;
          accepted = judged-none d.checks tt k.0;
          maker = adds.maker_is;
          first = refl;
        };
      }

  row-draws : (row : BulkRow) (drawn : Drawn)
      → row_judged (facts_of_tables t (Some stamp.maker)) (shown_in_tables t) stamp row ≡ Ok drawn
      → Draws t stamp drawn
  row-draws row drawn accepted = by (row_command row) refl accepted
    where
      by : (told : Result Command Rule) → row_command row ≡ told
          → row_told_judged (facts_of_tables t (Some stamp.maker)) (shown_in_tables t) stamp told ≡ Ok drawn
          → Draws t stamp drawn
      by (Err rule) is h = absurd (err_ok rule drawn h)
      by (Ok command) is h = own (turns_own_conflict stamp.maker c) refl h
        where
          c : ResolvedCommand
          c = resolve (lines_of t.accounts) command

          own : (b : Bool) → turns_own_conflict stamp.maker c ≡ b
              → ◌≡◌ {A = Result Drawn Rule} (cond b (Err rules.BulkSelf)
              (judge_resolved (facts_of_tables t (Some stamp.maker)) (shown_in_tables t) stamp c)) (Ok drawn)
              → Draws t stamp drawn
          own true herself h = absurd (err_ok rules.BulkSelf drawn h)
          own false other h =
              command-draws c drawn (row-resolved (lines_of t.accounts) command (row_command-of_row row command is))
              other h

-- rows that are accepted add an entry each
pub record Rebuilt (t : Tables) (stamp : Stamp) (rows : List BulkRow) (es : List Entry) : Type 0 where
  pub are : AreRows t stamp es
  pub count : length es ≡ length rows

and_rows-Ok : (xs es : List Entry) (r : Result (List Entry) Broken) → and_rows xs r ≡ Ok es
    → (more : List Entry) × (r ≡ Ok more) × (xs ++ more ≡ es)
and_rows-Ok xs es (Ok more) h = (more, refl, ok_is (xs ++ more) es h)
and_rows-Ok xs es (Err refusal) h = absurd (err_ok refusal es h)

pub rows-drawn : (stamp : Stamp) (n : ℕ) (t : Tables) (rows : List BulkRow) (es : List Entry)
    → rows_judged (tables_basis stamp.maker) stamp t n rows ≡ Ok es → Rebuilt t stamp rows es
rows-drawn stamp n t [] es accepted =
    subst (λ (es : List Entry). Rebuilt t stamp [] es) (ok_is [] es accepted) (record { are = tt; count = refl })
rows-drawn stamp n t (row ∷ rows) es accepted =
    by (row_judged (facts_of_tables t (Some stamp.maker)) (shown_in_tables t) stamp row) refl accepted
    (λ s es is. rows-drawn stamp (n + 1) s rows es is)
  where
    behind : History → Result (List Entry) Broken
    behind group = rows_judged (tables_basis stamp.maker) stamp (tables_from t group) (n + 1) rows

    by : (r : Result Drawn Rule) → row_judged (facts_of_tables t (Some stamp.maker)) (shown_in_tables t) stamp row ≡ r
        → and_behind n r behind ≡ Ok es
        → ((s : Tables) (es : List Entry) → rows_judged (tables_basis stamp.maker) stamp s (n + 1) rows ≡ Ok es
        → Rebuilt s stamp rows es)
        → Rebuilt t stamp (row ∷ rows) es
    by (Err rule) is h more = absurd (err_ok (broken.Row n rule) es h)
    by (Ok drawn) is h more =
        let one = row-draws t stamp row drawn is in
        let rest = and_rows-Ok (entries_of drawn.group) es (behind drawn.group) h in
        let after : Tables = tables_after t (unfinished stamp one.entry) in
        let others : Rebuilt after stamp rows rest.0 = more after rest.0 (ap behind (sym one.group_is) ∙ rest.1) in
        let whole : one.entry ∷ rest.0 ≡ es =
        ap (λ (g : History). entries_of g ++ rest.0) (sym one.group_is) ∙ rest.2 in
        subst (λ (es : List Entry). Rebuilt t stamp (row ∷ rows) es) whole
        (record { are = (one.of_row, one.is_drawn, others.are); count = ap suc others.count })

-- ---- whole bulks

-- how many entries such a group may have
lone-most : (t : Tables) (maker : ℕ) (e : Entry) → IsLone e
    → most_entries t maker e ≡ cond (is_of_row maker e && may_bulk t maker) 512 1
lone-most t maker (entries.Registered user name digest) lone = absurd lone
lone-most t maker (entries.Submitted paper title abstract) lone = absurd lone
lone-most t maker e lone = refl

-- whoever may give a bulk is there, and breaks no rule
pub may-parts : (t : Tables) (user : ℕ) → may_bulk t user ≡ true
    → (is_there (lines_of t.accounts) user ≡ true) × (caller_judged t user ≡ Ok tt)
may-parts t user may =
    let both = and_parts (is_there (lines_of t.accounts) user) (is_ok (caller_judged t user)) may in
    (both.0, by (caller_judged t user) both.1)
  where
    by : (r : Result (Unit {0}) Rule) → is_ok r ≡ true → r ≡ Ok tt
    by (Ok done) h = refl
    by (Err rule) h = absurd (true≢false (sym h))

-- where others stand behind an entry that isn't a registration's or a submission's, they are a bulk's
pub record IsBulk (t : Tables) (maker : ℕ) (e : Entry) (n : ℕ) : Type 0 where
  pub of_row : is_of_row maker e ≡ true
  pub may : may_bulk t maker ≡ true
  pub few : suc n ≤ 512

pub several : (t : Tables) (maker : ℕ) (e : Entry) (n : ℕ) → IsLone e → 1 ≤ n
    → nat_lt n (most_entries t maker e) ≡ true → IsBulk t maker e n
several t maker e n lone some room =
    by (is_of_row maker e && may_bulk t maker) refl
    (sym (ap (nat_lt n) (lone-most t maker e lone)) ∙ room)
  where
    below : nat_lt n 512 ≡ true → suc n ≤ 512
    below h = grind (arith, nat_tests, h)

    none : nat_lt n 1 ≡ true → ⊥
    none h = grind (arith, nat_tests, h, some)

    by : (b : Bool) → (is_of_row maker e && may_bulk t maker) ≡ b → nat_lt n (cond b 512 1) ≡ true → IsBulk t maker e n
    by true is h =
        let both = and_parts (is_of_row maker e) (may_bulk t maker) is in
        record { of_row = both.0; may = both.1; few = below h }
    by false is h = absurd (none h)

module _ (H : History) (legal : Legal H) where
  abbrev t : Tables
  t = tables_of H

  -- entries of rows, of which there are no more than a bulk may have
  rows-begin : (stamp : Stamp) → IsNewKey H (Some stamp.maker) stamp.key → may_bulk t stamp.maker ≡ true
      → (e : Entry) (es : List Entry) → AreRows t stamp (e ∷ es) → length (e ∷ es) ≤ 512
      → IsBeginning H stamp e es false
  rows-begin stamp new may e es are few = record {
    may = hers-first H stamp e lone (record { there = (may-parts t stamp.maker may).0; new = new }) are.1;
    behind_are = rows-behind t stamp e lone [] es are.2;
    room = λ some. ap (nat_lt (length es)) (lone-most t stamp.maker e lone)
        ∙ (λ i. nat_lt (length es) (cond (are.0 i && may i) 512 1)) ∙ below (length es) few;
    count = ap (λ (n : ℕ). nat_le n (length es + 1)) (lone-least t e lone) ∙ least (length es);
  }
    where
      lone : IsLone e
      lone = row-lone stamp.maker e are.0

      below : (n : ℕ) → suc n ≤ 512 → nat_lt n 512 ≡ true
      below n h = grind (arith, nat_tests, h)

  pub bulk-begins : (group : History) → MayAddRows H group → IsAdded H group
  bulk-begins group add = by parts.entries (add.group_is ∙ ap (λ (d : Drawn). d.group) (sym parts.drawn_is)) rebuilt
    where
      stamp : Stamp
      stamp = add.bulk.stamp

      parts : Parts (tables_basis stamp.maker) t add.bulk add.drawn
      parts = bulk-parts (tables_basis stamp.maker) t add.bulk add.drawn
          (sym (Legal-judge_bulk H add.bulk legal add.allowed.given.caller (given-bounded H add.bulk add.allowed.given))
          ∙ add.accepted)

      rebuilt : Rebuilt t stamp add.bulk.rows parts.entries
      rebuilt = rows-drawn stamp 1 t add.bulk.rows parts.entries parts.accepted

      may : may_bulk t stamp.maker ≡ true
      may = ap (λ (b : Bool). b && is_ok (caller_judged t stamp.maker))
          (sym (registered-there H stamp.maker legal) ∙ add.allowed.given.caller) ∙ ap is_ok parts.may

      by : (es : List Entry) → group ≡ grouped stamp es → Rebuilt t stamp add.bulk.rows es → IsAdded H group
      by [] is rebuilt = elim (subst (λ (g : History). IsGroup g) is add.some) [ ]
      by (e ∷ es) is rebuilt =
          let many = rebuilt.count in
          let bound = add.allowed.given.bounded in
          record {
            stamp = stamp;
            first = e;
            behind = es;
            group_is = is;
            beginning = rows-begin stamp add.allowed.unused may e es rebuilt.are (omega (arith, many, bound));
          }

  pub bulk-adds : (stamp : Stamp) (first e : Entry) (behind : List Entry) → IsLone first
      → IsBeginning H stamp first (e ∷ behind) false
      → AllByRecursion (λ (e : Entry). IsBoundedEntry (unfinished stamp e)) (first ∷ e ∷ behind)
      → MayAddRows H (grouped stamp (first ∷ e ∷ behind))
  bulk-adds stamp first e behind lone begun bounded = record {
    bulk = bulk;
    allowed = record {
      given = record {
        caller = registered;
        bounded = few;
        moment = fits.at;
        key = fits.key;
      };
      unused = begun.may.new;
    };
    drawn = bulk_drawn stamp (length rows.0) (first ∷ e ∷ behind);
    accepted = Legal-judge_bulk H bulk legal registered (record { moment = fits.at; key = fits.key })
        ∙ parts-bulk (tables_basis stamp.maker) t bulk (first ∷ e ∷ behind) parts.1 rows.2;
    group_is = refl;
    some = grouped-group stamp first (e ∷ behind);
  }
    where
      is : IsBulk t stamp.maker first (length (e ∷ behind))
      is = several t stamp.maker first (length (e ∷ behind)) lone (omega arith) (begun.room (omega arith))

      parts : (is_there (lines_of t.accounts) stamp.maker ≡ true) × (caller_judged t stamp.maker ≡ Ok tt)
      parts = may-parts t stamp.maker is.may

      rows : Adders stamp 1 t (first ∷ e ∷ behind)
      rows = rows-spelled stamp 1 t (first ∷ e ∷ behind) (row_names H legal) (named-once H legal) bounded
          (is.of_row, begun.may.drawn, behind-rows t stamp first lone [] (e ∷ behind) begun.behind_are)

      bulk : BulkCall
      bulk = record { stamp = stamp; rows = rows.0 }

      registered : IsRegistered H stamp.maker
      registered = registered-there H stamp.maker legal ∙ parts.0

      fits : FitsStamp stamp
      fits = bounded-stamp (unfinished stamp first) bounded.0

      few : length rows.0 ≤ 512
      few = let n = rows.1 in let l = is.few in omega (arith, n, l)
