-- SPDX-License-Identifier: Apache-2.0 OR MIT
-- The rows of a bulk, judged one behind another.
use Rattle.std.proofs.Common.{ℕ, Bool, true, false, ◌≡◌, ◌<◌, ◌≤◌, ◌+◌, ◌-◌, List, [], ◌∷◌, ◌++◌, length, drop, get_or}
use Rattle.std.proofs.Common.{suc, arith, refl, sym, ap, subst, ◌∙◌, append_assoc, append-nil, Option, Some, None, Ok, Err, Result}
use Rattle.std.specs.Prelude.{map, nat_lt, IsSome}
use Rattle.std.proofs.lemmas.Bool.Decides.{nat_tests}
use Rattle.std.proofs.lemmas.List.{drop_more, length-drop, length-map, drop_all}
use Rattle.cr_base.specs.declared.bulk.Broken.{Broken}
use Rattle.cr_base.specs.declared.bulk.Broken.TheVariants as broken
use Rattle.cr_base.specs.declared.bulk.BulkRow.{BulkRow}
use Rattle.cr_base.specs.declared.bulk.RowCommand.{RowCommand}
use Rattle.cr_base.specs.declared.bulk.RowCommand.TheVariants as of_row
use Rattle.cr_base.specs.declared.command.Call.{Call}
use Rattle.cr_base.specs.declared.command.Command.{Command}
use Rattle.cr_base.specs.declared.command.Command.TheVariants as commands
use Rattle.cr_base.specs.declared.entry.Account.{Account}
use Rattle.cr_base.specs.declared.entry.Entry.{Entry}
use Rattle.cr_base.specs.declared.entry.Stamp.{Stamp}
use Rattle.cr_base.specs.declared.entry.Stamped.{Stamped}
use Rattle.cr_base.specs.declared.reply.AccountLine.{AccountLine}
use Rattle.cr_base.specs.declared.reply.Rule.{Rule}
use Rattle.cr_base.specs.declared.resolved.ResolvedRow.{ResolvedRow}
use Rattle.cr_base.specs.Accounts.{lines_of}
use Rattle.cr_base.specs.Bulk.{and_behind, and_rows, bulk_behind, bulk_by_role, bulk_drawn, bulk_of_rows, entries_of}
use Rattle.cr_base.specs.Bulk.{command_of_row, resolve_row, resolved_of_row, row_command, row_told_judged, rows_judged}
use Rattle.cr_base.specs.Bulk.{tables_basis}
use Rattle.cr_base.specs.Bounds.{IsBoundedCommand}
use Rattle.cr_base.specs.Drawn.{Drawn, stamped, grouped}
use Rattle.cr_base.specs.History.{History}
use Rattle.cr_base.specs.Logins.{command_wants_login, IfWanted}
use Rattle.cr_base.specs.Resolving.{resolve, resolve_call, resolved_wants_login}
use Rattle.cr_base.specs.Tables.{Tables, tables_after, tables_from}
use Rattle.cr_base.specs.Sources.{facts_of_tables, shown_in_tables}
use Rattle.cr_judge.specs.Callers.{HasCaller, HasFewAuthors}
use Rattle.cr_judge.specs.Rows.{AreEarlier, group_or_rule, row_group, row_judged_at, row_resolved_at}
use Rattle.cr_judge.proofs.RowLaws.{accounts-behind}
use Rattle.cr_policy.specs.Legal.{CallsAs}
use Rattle.cr_beginnings.specs.Beginnings.{caller_judged}
use Rattle.cr_beginnings.proofs.BeginningLaws.{map-more, marked-grouped, marked-more, unfinished}
use Rattle.cr_beginnings.proofs.BeginningRows.{rows-drawn}
use Rattle.cr_book.specs.BulkRows.{row_judged_behind}

-- the entries of rows behind which these are left
abbrev pub grouped_before : Stamp → List BulkRow → List Entry → History
grouped_before stamp [] entries = grouped stamp entries
grouped_before stamp (row ∷ rows) entries = map (unfinished stamp) entries

-- what is so where these rows are left, the first of which has this number
pub record SoFar (t : Tables) (stamp : Stamp) (rows : List BulkRow) (n : ℕ) (left : List BulkRow) (items : History) :
    Type 0 where
  pub entries : List Entry
  pub items_are : items ≡ grouped_before stamp left entries
  pub rest : rows_judged (tables_basis stamp.maker) stamp t 1 rows
      ≡ and_rows entries (rows_judged (tables_basis stamp.maker) stamp (tables_from t items) n left)
  pub earlier : AreEarlier t items

pub so-far-none : (t : Tables) (stamp : Stamp) (rows : List BulkRow) (items : History) → items ≡ []
    → SoFar t stamp rows 1 rows items
so-far-none t stamp rows items none = subst (λ (h : History). SoFar t stamp rows 1 rows h) (sym none) (record {
  entries = [];
  items_are = nothing rows;
  rest = sym (same (rows_judged (tables_basis stamp.maker) stamp t 1 rows));
  earlier = record { rows = tt; fits = tt };
})
  where
    nothing : (rows : List BulkRow) → [] ≡ grouped_before stamp rows []
    nothing [] = refl
    nothing (row ∷ rows) = refl

    same : (r : Result (List Entry) Broken) → and_rows [] r ≡ r
    same (Ok more) = refl
    same (Err refusal) = refl

and_rows-append : (xs ys : List Entry) (r : Result (List Entry) Broken)
    → and_rows xs (and_rows ys r) ≡ and_rows (xs ++ ys) r
and_rows-append xs ys (Ok more) = ap (λ (es : List Entry). Ok es) (sym (append_assoc xs ys more))
and_rows-append xs ys (Err refusal) = refl

-- a group that is drawn, without its receipt
pub drawn-group : (stamp : Stamp) (entry : Entry) (r : Result Drawn Rule) → row_group stamp (Ok entry) ≡ group_or_rule r
    → (drawn : Drawn) × (r ≡ Ok drawn) × (drawn.group ≡ grouped stamp (entry ∷ []))
drawn-group stamp entry (Ok drawn) h = (drawn, refl, same drawn.group h)
  where
    same : (g : History) → ◌≡◌ {A = Result History Rule} (Ok (grouped stamp (entry ∷ []))) (Ok g)
        → g ≡ grouped stamp (entry ∷ [])
    same g e = let k : grouped stamp (entry ∷ []) ≡ g = cc (e) in sym k
drawn-group stamp entry (Err rule) h = absurd (no (grouped stamp (entry ∷ [])) h)
  where
    no : (g : History) → ◌≡◌ {A = Result History Rule} (Ok g) (Err rule) → ⊥
    no g e = cc (e)

pub drawn-rule : (stamp : Stamp) (rule : Rule) (r : Result Drawn Rule) → row_group stamp (Err rule) ≡ group_or_rule r
    → r ≡ Err rule
drawn-rule stamp rule (Ok drawn) h = absurd (no drawn.group h)
  where
    no : (g : History) → ◌≡◌ {A = Result History Rule} (Err rule) (Ok g) → ⊥
    no g e = cc (e)
drawn-rule stamp rule (Err other) h = let k : other ≡ rule = cc (h) in ap (λ (r : Rule). Err r) k

from-append : (t : Tables) (before : History) (s : Stamped)
    → tables_from t (before ++ s ∷ []) ≡ tables_from (tables_from t before) (s ∷ [])
from-append t [] s = refl
from-append t (x ∷ before) s = from-append (tables_after t x) before s

-- a row more that is accepted
pub so-far-more : (t : Tables) (stamp : Stamp) (n : ℕ) (rows rest : List BulkRow) (row : BulkRow) (items new : History)
    (entry : Entry) (more : Bool)
    → SoFar t stamp rows n (row ∷ rest) items
    → row_group stamp (Ok entry) ≡ group_or_rule (row_judged_behind t items stamp row)
    → new ≡ items ++ stamped stamp more entry ∷ [] → AreEarlier t (items ++ stamped stamp more entry ∷ [])
    → (rest ≡ [] → more ≡ false) → ((r : BulkRow) (rs : List BulkRow) → rest ≡ r ∷ rs → more ≡ true)
    → SoFar t stamp rows (n + 1) rest new
so-far-more t stamp n rows rest row items new entry more so judged pushed earlier last others =
    subst (λ (h : History). SoFar t stamp rows (n + 1) rest h) (sym pushed) (record {
      entries = so.entries ++ entry ∷ [];
      items_are = ap (λ (h : History). h ++ next ∷ []) so.items_are ∙ marked rest last others;
      rest =
          so.rest ∙ ap (and_rows so.entries) step ∙ and_rows-append so.entries (entry ∷ [])
          (behind (items ++ next ∷ []));
      earlier = earlier;
    })
  where
    next : Stamped
    next = stamped stamp more entry

    behind : History → Result (List Entry) Broken
    behind h = rows_judged (tables_basis stamp.maker) stamp (tables_from t h) (n + 1) rest

    drawn : (drawn : Drawn) × (row_judged_behind t items stamp row ≡ Ok drawn)
        × (drawn.group ≡ grouped stamp (entry ∷ []))
    drawn = drawn-group stamp entry (row_judged_behind t items stamp row) judged

    step : rows_judged (tables_basis stamp.maker) stamp (tables_from t items) n (row ∷ rest)
        ≡ and_rows (entry ∷ []) (behind (items ++ next ∷ []))
    step =
        ap (λ (r : Result Drawn Rule). and_behind n r
        (λ group. rows_judged (tables_basis stamp.maker) stamp (tables_from (tables_from t items) group) (n + 1) rest))
        drawn.1
        ∙ ap (λ (g : History). and_rows (entries_of g)
        (rows_judged (tables_basis stamp.maker) stamp (tables_from (tables_from t items) g) (n + 1) rest)) drawn.2
        ∙ ap (λ (s : Tables). and_rows (entry ∷ []) (rows_judged (tables_basis stamp.maker) stamp s (n + 1) rest))
        (sym (from-append t items next))

    marked : (rest : List BulkRow) → (rest ≡ [] → more ≡ false)
        → ((r : BulkRow) (rs : List BulkRow) → rest ≡ r ∷ rs → more ≡ true)
        → map (unfinished stamp) so.entries ++ next ∷ [] ≡ grouped_before stamp rest (so.entries ++ entry ∷ [])
    marked [] last others =
        ap (λ (m : Bool). let s : Stamped = stamped stamp m entry in map (unfinished stamp) so.entries ++ s ∷ [])
        (last refl)
        ∙ marked-more stamp so.entries entry false ∙ marked-grouped stamp (so.entries ++ entry ∷ [])
    marked (r ∷ rs) last others =
        ap (λ (m : Bool). let s : Stamped = stamped stamp m entry in map (unfinished stamp) so.entries ++ s ∷ [])
        (others r rs refl)
        ∙ map-more stamp so.entries entry

-- a row that breaks a rule
pub so-far-broken : (t : Tables) (stamp : Stamp) (n : ℕ) (rows rest : List BulkRow) (row : BulkRow) (items : History)
    (rule : Rule)
    → SoFar t stamp rows n (row ∷ rest) items
    → row_group stamp (Err rule) ≡ group_or_rule (row_judged_behind t items stamp row)
    → rows_judged (tables_basis stamp.maker) stamp t 1 rows ≡ Err (broken.Row n rule)
so-far-broken t stamp n rows rest row items rule so judged =
    so.rest ∙ ap (and_rows so.entries)
    (ap (λ (r : Result Drawn Rule). and_behind n r
    (λ group. rows_judged (tables_basis stamp.maker) stamp (tables_from (tables_from t items) group) (n + 1) rest))
    (drawn-rule stamp rule (row_judged_behind t items stamp row) judged))

entries-grouped : (stamp : Stamp) (entries : List Entry) → entries_of (grouped stamp entries) ≡ entries
entries-grouped stamp [] = refl
entries-grouped stamp (e ∷ []) = refl
entries-grouped stamp (e ∷ next ∷ entries) = ap (λ (es : List Entry). e ∷ es) (entries-grouped stamp (next ∷ entries))

-- no row is left
pub so-far-all : (t : Tables) (stamp : Stamp) (n : ℕ) (rows : List BulkRow) (items : History)
    → SoFar t stamp rows n [] items
    → (items ≡ grouped stamp (entries_of items))
    × (rows_judged (tables_basis stamp.maker) stamp t 1 rows ≡ Ok (entries_of items))
so-far-all t stamp n rows items so =
    let same : entries_of items ≡ so.entries = ap entries_of so.items_are ∙ entries-grouped stamp so.entries in (
      so.items_are ∙ ap (grouped stamp) (sym same),
      so.rest
          ∙ ap (λ (es : List Entry). Ok es) (append-nil so.entries ∙ sym same),
    )

-- ---- rows by their index

-- the rows from an index on
at-index : (t : Tables) (stamp : Stamp) (i : ℕ) (rows : List BulkRow) (row : BulkRow) (items : History)
    → i < length rows → get_or rows i row ≡ row
    → SoFar t stamp rows (i + 1) (drop i rows) items → SoFar t stamp rows (i + 1) (row ∷ drop (i + 1) rows) items
at-index t stamp i rows row items within here so =
    subst (λ (left : List BulkRow). SoFar t stamp rows (i + 1) left items)
    (drop_more rows i row within ∙ ap (λ (r : BulkRow). r ∷ drop (i + 1) rows) here) so

pub index-more : (t : Tables) (stamp : Stamp) (i : ℕ) (rows : List BulkRow) (row : BulkRow) (items new : History)
    (entry : Entry) → i < length rows → get_or rows i row ≡ row
    → SoFar t stamp rows (i + 1) (drop i rows) items
    → row_group stamp (Ok entry) ≡ group_or_rule (row_judged_behind t items stamp row)
    → new ≡ items ++ stamped stamp (nat_lt (i + 1) (length rows)) entry ∷ []
    → AreEarlier t (items ++ stamped stamp (nat_lt (i + 1) (length rows)) entry ∷ [])
    → SoFar t stamp rows ((i + 1) + 1) (drop (i + 1) rows) new
index-more t stamp i rows row items new entry within here so judged pushed earlier =
    so-far-more t stamp (i + 1) rows (drop (i + 1) rows) row items new entry (nat_lt (i + 1) (length rows))
    (at-index t stamp i rows row items within here so) judged pushed earlier
    (λ none. last (length rows) (length (drop (i + 1) rows)) (length-drop (i + 1) rows) (ap length none))
    (λ r rs some. other (length rows) (length (drop (i + 1) rows)) (length rs) (length-drop (i + 1) rows)
    (ap length some))
  where
    last : (n left : ℕ) → left ≡ n - (i + 1) → left ≡ 0 → nat_lt (i + 1) n ≡ false
    last n left is none = grind (arith, nat_tests, is, none)

    other : (n left more : ℕ) → left ≡ n - (i + 1) → left ≡ suc more → nat_lt (i + 1) n ≡ true
    other n left more is some = grind (arith, nat_tests, is, some)

pub index-broken : (t : Tables) (stamp : Stamp) (i : ℕ) (rows : List BulkRow) (row : BulkRow) (items : History)
    (rule : Rule) → i < length rows → get_or rows i row ≡ row
    → SoFar t stamp rows (i + 1) (drop i rows) items
    → row_group stamp (Err rule) ≡ group_or_rule (row_judged_behind t items stamp row)
    → rows_judged (tables_basis stamp.maker) stamp t 1 rows ≡ Err (broken.Row (i + 1) rule)
index-broken t stamp i rows row items rule within here so judged =
    so-far-broken t stamp (i + 1) rows (drop (i + 1) rows) row items rule
    (at-index t stamp i rows row items within here so) judged

pub index-all : (t : Tables) (stamp : Stamp) (i : ℕ) (rows : List BulkRow) (items : History) → length rows ≤ i
    → SoFar t stamp rows (i + 1) (drop i rows) items
    → (items ≡ grouped stamp (entries_of items))
    × (rows_judged (tables_basis stamp.maker) stamp t 1 rows ≡ Ok (entries_of items))
index-all t stamp i rows items all so = so-far-all t stamp (i + 1) rows items
    (subst (λ (left : List BulkRow). SoFar t stamp rows (i + 1) left items) (drop_all i rows all) so)

-- ---- one row by its command

pub judged-command : (t : Tables) (earlier : History) (stamp : Stamp) (row : BulkRow) (command : Command)
    (result : Result Entry Rule) → Ok command ≡ row_command row
    → row_group stamp result ≡ group_or_rule (row_judged_at (tables_from t earlier) stamp command)
    → row_group stamp result ≡ group_or_rule (row_judged_behind t earlier stamp row)
judged-command t earlier stamp row command result told is =
    let s : Tables = tables_from t earlier in
    is
    ∙ ap (λ (r : Result Command Rule). group_or_rule
    (row_told_judged (facts_of_tables s (Some stamp.maker)) (shown_in_tables s) stamp r)) told

-- a row by number, behind rows that leave the accounts, is judged as its command
pub row-resolved : (t : Tables) (earlier : History) (stamp : Stamp) (command : RowCommand) (row : ResolvedRow)
    → AreEarlier t earlier → row ≡ resolve_row (lines_of t.accounts) command
    → row_resolved_at (tables_from t earlier) stamp (resolved_of_row row)
    ≡ row_judged_at (tables_from t earlier) stamp (command_of_row command)
row-resolved t earlier stamp command row are is =
    ap (row_resolved_at (tables_from t earlier) stamp)
    (ap resolved_of_row is ∙ by command
    ∙ ap (λ (accounts : List Account). resolve (lines_of accounts) (command_of_row command))
    (accounts-behind t earlier are.rows))
  where
    by : (command : RowCommand)
        → resolved_of_row (resolve_row (lines_of t.accounts) command)
        ≡ resolve (lines_of t.accounts) (command_of_row command)
    by (of_row.Conflict paper name on) = refl
    by (of_row.Assign paper name kind) = refl
    by (of_row.Unassign paper name) = refl
    by (of_row.Tag paper tag on) = refl

pub judged-untold : (t : Tables) (earlier : History) (stamp : Stamp) (row : BulkRow) (rule : Rule)
    → Err rule ≡ row_command row
    → row_group stamp (Err rule) ≡ group_or_rule (row_judged_behind t earlier stamp row)
judged-untold t earlier stamp row rule told =
    let s : Tables = tables_from t earlier in
    ap (λ (r : Result Command Rule). group_or_rule
    (row_told_judged (facts_of_tables s (Some stamp.maker)) (shown_in_tables s) stamp r)) told

-- ---- all rows of a bulk

pub bulk-accepted : (t : Tables) (stamp : Stamp) (rows : List BulkRow) (group : History) (done : Unit {0})
    → caller_judged t stamp.maker ≡ Ok done
    → rows_judged (tables_basis stamp.maker) stamp t 1 rows ≡ Ok (entries_of group)
    → bulk_by_role t (record { stamp = stamp; rows = rows }) ≡ Ok (bulk_drawn stamp (length group) (entries_of group))
bulk-accepted t stamp rows group done may accepted =
    ap (bulk_behind (tables_basis stamp.maker) t (record { stamp = stamp; rows = rows })) may
    ∙ ap (bulk_of_rows stamp (length rows)) accepted
    ∙ ap (λ (n : ℕ). Ok (bulk_drawn stamp n (entries_of group)))
    (sym (rows-drawn stamp 1 t rows (entries_of group) accepted).count ∙ length-map group (λ (s : Stamped). s.entry))

-- the entries before the next row
pub next-earlier : (t : Tables) (stamp : Stamp) (entry : Entry) (now items : History) → now ≡ items
    → ((more : Bool) → AreEarlier t (now ++ stamped stamp more entry ∷ [])) → (more : Bool)
    → AreEarlier t (items ++ stamped stamp more entry ∷ [])
next-earlier t stamp entry now items same next more =
    subst (λ (h : History). AreEarlier t (h ++ stamped stamp more entry ∷ [])) same (next more)

-- ---- a command by number

-- it tells no more co-authors than an effect has place for
pub few-authors : (command : Command) → IsBoundedCommand command → HasFewAuthors command
few-authors (commands.Submit title abstract authors) bounded = bounded.2
few-authors command bounded = tt

-- and has a caller
pub has-caller : (H : History) (accounts : List AccountLine) (call : Call)
    → CallsAs H (command_wants_login call.command) call.caller → HasCaller (resolve_call accounts call)
has-caller H accounts call calls = by call.caller call.command calls
  where
    some : (wanted : Bool) (user : ℕ) → IfWanted wanted (IsSome (Some user))
    some true user = refl
    some false user = tt

    by : (caller : Option ℕ) (command : Command) → CallsAs H (command_wants_login command) caller
        → IfWanted (resolved_wants_login (resolve accounts command)) (IsSome caller)
    by (Some user) command is = some (resolved_wants_login (resolve accounts command)) user
    by None (commands.Register name digest) is = tt
    by None (commands.Tag paper tag true) is = absurd is
    by None (commands.Tag paper tag false) is = absurd is
    by None command is = absurd is
