-- SPDX-License-Identifier: Apache-2.0 OR MIT
-- A bulk that was accepted is accepted on a history that is filled in anew, its rows filled in too.
use Rattle.std.proofs.Common.{ℕ, Bool, true, false, cond, ◌≡◌, ◌+◌, suc, zero, List, [], ◌∷◌, ◌++◌, length, refl}
use Rattle.std.proofs.Common.{sym, ap, subst, ◌∙◌, Option, Some, None, Result, Ok, Err, length-append, add-one}
use Rattle.std.specs.Prelude.{codes}
use Rattle.cr_base.specs.declared.bulk.Broken.{Broken}
use Rattle.cr_base.specs.declared.bulk.BulkRow.{BulkRow}
use Rattle.cr_base.specs.declared.command.Command.{Command}
use Rattle.cr_base.specs.declared.command.Command.TheVariants as commands
use Rattle.cr_base.specs.declared.entry.Entry.{Entry}
use Rattle.cr_base.specs.declared.entry.Stamp.{Stamp}
use Rattle.cr_base.specs.declared.entry.Stamped.{Stamped}
use Rattle.cr_base.specs.declared.reply.Rule.{Rule}
use Rattle.cr_base.specs.declared.reply.Rule.TheVariants as rules
use Rattle.cr_base.specs.declared.standing.Standing.{Standing}
use Rattle.cr_base.specs.declared.words.Kind.{Kind}
use Rattle.cr_base.specs.declared.words.Kind.TheVariants.{Primary, Secondary, Pc}
use Rattle.cr_base.specs.Bulk.{Action, action_of, assigns, unassigns, turns_conflict, turns_tag, IsRowCommand}
use Rattle.cr_base.specs.Bulk.{command_told_by, row_command, turns_own_conflict, row_told_judged, entries_of, and_rows}
use Rattle.cr_base.specs.Bulk.{and_behind, rows_judged, bulk_checks, bulk_drawn, bulk_of_rows, bulk_behind}
use Rattle.cr_base.specs.Calls.{BulkCall, call_by}
use Rattle.cr_base.specs.Checks.{judged}
use Rattle.cr_base.specs.Drawn.{Drawn, stamped, grouped}
use Rattle.cr_base.specs.History.{History}
use Rattle.cr_base.specs.Judging.{judge_by}
use Rattle.cr_base.specs.Lists.{is_number}
use Rattle.cr_base.specs.Parse.{parse_paper}
use Rattle.cr_base.specs.Resolving.{resolve}
use Rattle.cr_base.specs.Sources.{Facts, Shown, user_among, facts_of_tables}
use Rattle.cr_base.specs.Tables.{tables_of}
use Rattle.cr_base.specs.TagTexts.{is_tag}
use Rattle.cr_policy.specs.Judge.{judge, view_basis, own_sightings, judge_bulk}
use Rattle.cr_undeduced.specs.Payload.{Payload, IsBoundedPayload}
use Rattle.cr_undeduced.proofs.Fill.{retold, fill, refilled, behind, refilled-append}
use Rattle.cr_policy.specs.View.{View, view}
use Rattle.cr_policy.specs.ViewFacts.{facts_in_view, shown_in_view}
use Rattle.cr_policy.proofs.BulkLaws.{row_seen, seen, IsReady, RowCalls, row-calls, RowAdds, row-adds, next, next-ready}
use Rattle.cr_policy.proofs.BulkLaws.{next-seen, AreAccepted, rows-accepted, no_rows, BulkDraws, bulk-draws}
use Rattle.cr_policy.proofs.StandingLaws.{accounts-seen, standing_from_view}
use Rattle.cr_undeduced.proofs.RefilledFacts.{accounts-refilled, standing-refilled}
use Rattle.cr_undeduced.proofs.RefilledJudged.{fill_command, HasRoom, Filled}
use Rattle.cr_undeduced.proofs.RefilledSteps.{call-roomy, tag-bounded, behind-bounded}

-- ---- what is filled into a row

abbrev kind_word : Kind → List ℕ
kind_word Primary = codes "primary"
kind_word Secondary = codes "secondary"
kind_word Pc = codes "pcreview"

abbrev tag_word : Bool → List ℕ
tag_word true = codes "tag"
tag_word false = codes "cleartag"

abbrev fill_by : Payload → Option Action → BulkRow → BulkRow
fill_by x (Some (assigns kind)) row = record row { action = kind_word x.kind }
fill_by x (Some (turns_tag on)) row = record row { action = tag_word x.on; tag = retold row.tag x.tag }
fill_by x action row = row

abbrev pub fill_row : Payload → BulkRow → BulkRow
fill_row x row = fill_by x (action_of row.action) row

abbrev pub fill_rows : (ℕ → Payload) → List BulkRow → List BulkRow
fill_rows xs [] = []
fill_rows xs (row ∷ rows) = fill_row (xs 0) row ∷ fill_rows (λ n. xs (suc n)) rows

pub length-fill_rows : (xs : ℕ → Payload) (rows : List BulkRow) → length (fill_rows xs rows) ≡ length rows
length-fill_rows xs [] = refl
length-fill_rows xs (row ∷ rows) = ap suc (length-fill_rows (λ n. xs (suc n)) rows)

kind-told : (kind : Kind) → action_of (kind_word kind) ≡ Some (assigns kind)
kind-told Primary = refl
kind-told Secondary = refl
kind-told Pc = refl

tag-told : (on : Bool) → action_of (tag_word on) ≡ Some (turns_tag on)
tag-told true = refl
tag-told false = refl

fill_given : (x : Payload) (r given : Result Command Rule) (one other command : Command)
    → r ≡ Ok other → fill_command x one ≡ other → ◌≡◌ {A = Result Command Rule} (Ok one) (Ok command)
    → r ≡ Ok (fill_command x command)
fill_given x r given one other command is filled told =
    let e : one ≡ command = cc in
    is ∙ ap (λ (c : Command). Ok c) (sym filled ∙ ap (fill_command x) e)

row-filled : (x : Payload) (row : BulkRow) (command : Command) → is_tag x.tag ≡ true → row_command row ≡ Ok command
    → row_command (fill_row x row) ≡ Ok (fill_command x command)
unfolding row_command
row-filled x row command bounded is = by (action_of row.action) refl is
  where
    by : (action : Option Action) → action_of row.action ≡ action → command_told_by action row ≡ Ok command
        → command_told_by (action_of (fill_by x action row).action) (fill_by x action row) ≡ Ok (fill_command x command)
    by None read is = cc
    by (Some (assigns kind)) read is =
        fill_given x _ (row_command row) _ _ command
        (ap (λ (a : Option Action). command_told_by a (record row { action = kind_word x.kind })) (kind-told x.kind))
        refl is
    by (Some unassigns) read is =
        fill_given x _ (row_command row) _ _ command
        (ap (λ (a : Option Action). command_told_by a row) read) refl is
    by (Some (turns_conflict on)) read is =
        fill_given x _ (row_command row) _ _ command
        (ap (λ (a : Option Action). command_told_by a row) read) refl is
    by (Some (turns_tag on)) read is =
        ap
        (λ (a : Option Action). command_told_by a
        (record row { action = tag_word x.on; tag = retold row.tag x.tag })) (tag-told x.on)
        ∙ tagged (is_tag row.tag) refl is
      where
        told_if : Bool → Result Command Rule
        told_if b = cond b (Ok (commands.Tag (parse_paper row.paper) (retold row.tag x.tag) x.on)) (Err rules.BadTag)

        tagged : (b : Bool) → is_tag row.tag ≡ b
            → ◌≡◌ {A = Result Command Rule} (cond b (Ok (commands.Tag (parse_paper row.paper) row.tag on))
            (Err rules.BadTag)) (Ok command)
            → ◌≡◌ {A = Result Command Rule} (cond (is_tag (retold row.tag x.tag))
            (Ok (commands.Tag (parse_paper row.paper) (retold row.tag x.tag) x.on)) (Err rules.BadTag))
            (Ok (fill_command x command))
        tagged true is_one is =
            let e : commands.Tag (parse_paper row.paper) row.tag on ≡ command = cc in
            ap (λ (b : Bool). told_if b) (tag-bounded row.tag x.tag is_one bounded)
            ∙ ap (λ (c : Command). Ok (fill_command x c)) e
        tagged false is_one is = cc

-- ---- one row

no-upload : (facts : Facts) (x : Payload) (command : Command) → IsRowCommand command → HasRoom facts x command
no-upload facts x (commands.Upload paper content) row = absurd row
no-upload facts x (commands.Register name digest) row = tt
no-upload facts x command row = tt

same-own : (x : Payload) (facts facts' : Facts) (user : ℕ) (command : Command) → facts.accounts ≡ facts'.accounts
    → turns_own_conflict user (resolve facts'.accounts (fill_command x command)) ≡ turns_own_conflict user (resolve facts.accounts command)
same-own x facts facts' user (commands.SetConflict paper name on) same =
    λ i. is_number (user_among (sym same i) name) user
same-own x facts facts' user command same = refl

abbrev pub filled_entries : (ℕ → Payload) → List Entry → List Entry
filled_entries xs [] = []
filled_entries xs (e ∷ es) = fill (xs 0) e ∷ filled_entries (λ n. xs (suc n)) es

pub grouped-filled : (xs : ℕ → Payload) (stamp : Stamp) (es : List Entry)
    → grouped stamp (filled_entries xs es) ≡ refilled xs (grouped stamp es)
grouped-filled xs stamp [] = refl
grouped-filled xs stamp (e ∷ []) = refl
grouped-filled xs stamp (e ∷ next ∷ es) =
    ap (λ (g : History). stamped stamp true (fill (xs 0) e) ∷ g)
    (grouped-filled (λ n. xs (suc n)) stamp (next ∷ es))

-- one place more
behind-suc : (k : ℕ) (xs : ℕ → Payload) → behind (suc k) xs ≡ (λ n. behind k xs (suc n))
behind-suc zero xs = refl
behind-suc (suc k) xs = behind-suc k (λ n. xs (suc n))

behind-next : (xs : ℕ → Payload) (H : History) (e : Stamped)
    → behind (length (H ++ e ∷ [])) xs ≡ (λ n. behind (length H) xs (suc n))
behind-next xs H e =
    ap (λ k. behind k xs) (length-append H (e ∷ []) ∙ add-one (length H)) ∙ behind-suc (length H) xs

-- the first of a group's entries
abbrev first_of : Entry → History → Entry
first_of e [] = e
first_of e (s ∷ g) = s.entry

module _ (stamp : Stamp) where
  abbrev user : ℕ
  user = stamp.maker

  -- an accepted row is accepted, filled in
  record RowFilled (xs : ℕ → Payload) (H : History) (row : BulkRow) (drawn : Drawn) : Type 0 where
    again : Drawn
    is : row_seen stamp (refilled xs H) (fill_row (behind (length H) xs 0) row) ≡ Ok again
    group : again.group ≡ refilled (behind (length H) xs) drawn.group

  row-refilled : (xs : ℕ → Payload) → ((n : ℕ) → IsBoundedPayload (xs n)) → (H : History) (row : BulkRow)
      (drawn : Drawn) → IsReady stamp H → IsReady stamp (refilled xs H) → row_seen stamp H row ≡ Ok drawn
      → RowFilled xs H row drawn
  row-refilled xs bounded H row drawn ready ready' accepted =
      record {
        again = filled.drawn;
        is = ap (row_told_judged facts' shown' stamp)
            (row-filled x row calls.command (behind-bounded (length H) xs bounded 0).tag calls.is)
            ∙ ap
            (λ (b : Bool). cond b (Err rules.BulkSelf) (judge_by facts' shown' stamp (fill_command x calls.command)))
            (same-own x facts facts' user calls.command same ∙ calls.other)
            ∙ filled.is;
        group = filled.group;
      }
    where
      x : Payload
      x = behind (length H) xs 0

      facts : Facts
      facts = facts_in_view (Some user) (view (Some user) H)

      facts' : Facts
      facts' = facts_in_view (Some user) (view (Some user) (refilled xs H))

      shown' : Shown
      shown' = shown_in_view (Some user) (view (Some user) (refilled xs H))

      calls : RowCalls stamp H row drawn
      calls = row-calls stamp H row drawn ready accepted

      filled : Filled (judge (view (Some user) (refilled xs H)) (call_by stamp (fill_command x calls.command)))
          (behind (length H) xs) drawn
      filled = call-roomy xs H ready.kept ready'.kept (call_by stamp calls.command) drawn
          (no-upload (facts_of_tables (tables_of (refilled xs H)) (Some user)) x calls.command calls.told.of_row)
          calls.accepted

      same : facts.accounts ≡ facts'.accounts
      same = accounts-seen (Some user) H ∙ sym (accounts-refilled xs H)
          ∙ sym (accounts-seen (Some user) (refilled xs H))

  -- ---- all rows

  pub rows-refilled : (rows : List BulkRow) (n : ℕ) (xs : ℕ → Payload) → ((n : ℕ) → IsBoundedPayload (xs n))
      → (H : History) (es : List Entry)
      → IsReady stamp H → IsReady stamp (refilled xs H) → seen stamp H n rows ≡ Ok es
      → seen stamp (refilled xs H) n (fill_rows (behind (length H) xs) rows)
      ≡ Ok (filled_entries (behind (length H) xs) es)
  rows-refilled [] n xs bounded H es ready ready' accepted =
      ap (λ (es : List Entry). Ok (filled_entries (behind (length H) xs) es)) (no_rows stamp es accepted)
  rows-refilled (row ∷ rows) n xs bounded H es ready ready' accepted =
      ap (λ (r : Result Drawn Rule). and_behind n r goes) filled.is
      ∙ ap (and_rows (entries_of again.group))
      (ap (λ (V : View). rows_judged (view_basis user) stamp V (n + 1) (fill_rows zs rows))
      (next-seen stamp (refilled xs H) again ready' first' true)
      ∙ ap (λ (G : History). seen stamp G (n + 1) (fill_rows zs rows)) same_next
      ∙ ap (λ (zs : ℕ → Payload). seen stamp (refilled xs next_one) (n + 1) (fill_rows zs rows)) (sym zs_next)
      ∙ rows-refilled rows (n + 1) xs bounded next_one all.more (next-ready stamp H all.drawn ready all.first true)
      (subst (IsReady stamp) same_next (next-ready stamp (refilled xs H) again ready' first' true)) (all.rest true))
      ∙ (λ i. Ok (entries_of (group i) ++ filled_entries (zs_next i) all.more))
      ∙ ap (λ (es : List Entry). Ok (filled_entries ys es)) (sym all.all)
    where
      ys : ℕ → Payload
      ys = behind (length H) xs

      zs : ℕ → Payload
      zs = λ n. ys (suc n)

      all : AreAccepted stamp H n row rows es
      all = rows-accepted stamp H n row rows es ready accepted

      filled : RowFilled xs H row all.drawn
      filled = row-refilled xs bounded H row all.drawn ready ready' all.judged

      again : Drawn
      again = filled.again

      goes : History → Result (List Entry) Broken
      goes group =
          rows_judged (view_basis user) stamp (view (Some user) (refilled xs H) ++ own_sightings group) (n + 1)
          (fill_rows zs rows)

      first' : RowAdds stamp (refilled xs H) again
      first' = row-adds stamp (refilled xs H) (fill_row (ys 0) row) again ready' filled.is

      next_one : History
      next_one = H ++ stamped stamp true all.first.entry ∷ []

      group : again.group ≡ stamped stamp false (fill (ys 0) all.first.entry) ∷ []
      group = filled.group ∙ ap (refilled ys) all.first.group

      entry : first'.entry ≡ fill (ys 0) all.first.entry
      entry = ap (first_of first'.entry) (sym first'.group ∙ group)

      same_next : refilled xs H ++ stamped stamp true first'.entry ∷ [] ≡ refilled xs next_one
      same_next = ap (λ (e : Entry). refilled xs H ++ stamped stamp true e ∷ []) entry
          ∙ sym (refilled-append xs H (stamped stamp true all.first.entry ∷ []))

      zs_next : behind (length next_one) xs ≡ zs
      zs_next = behind-next xs H (stamped stamp true all.first.entry)

  -- ---- the bulk

  abbrev pub bulk : List BulkRow → BulkCall
  bulk rows = record { stamp = stamp; rows = rows }

  pub record BulkFilled (r : Result Drawn Broken) (xs : ℕ → Payload) (given : Drawn) : Type 0 where
    pub drawn : Drawn
    pub is : r ≡ Ok drawn
    pub group : drawn.group ≡ refilled xs given.group

  pub bulk-refilled : (xs : ℕ → Payload) → ((n : ℕ) → IsBoundedPayload (xs n)) → (H : History) (rows : List BulkRow)
      (drawn : Drawn) → IsReady stamp H → IsReady stamp (refilled xs H)
      → judge_bulk (view (Some user) H) (bulk rows) ≡ Ok drawn
      → BulkFilled (judge_bulk (view (Some user) (refilled xs H)) (bulk (fill_rows (behind (length H) xs) rows)))
      (behind (length H) xs) drawn
  bulk-refilled xs bounded H rows drawn ready ready' accepted =
      record {
        drawn = bulk_drawn stamp (length again) (filled_entries ys draws.entries);
        is = ap (λ (st : Standing). bulk_behind (view_basis user) V' (bulk again) (judged (bulk_checks st) tt)) same
            ∙ by (judged (bulk_checks st) tt) accepted;
        group = grouped-filled ys stamp draws.entries
            ∙ ap (λ (d : Drawn). refilled ys d.group) draws.drawn_is;
      }
    where
      ys : ℕ → Payload
      ys = behind (length H) xs

      again : List BulkRow
      again = fill_rows ys rows

      V : View
      V = view (Some user) H

      V' : View
      V' = view (Some user) (refilled xs H)

      st : Standing
      st = (facts_in_view (Some user) V).standing None

      draws : BulkDraws stamp H rows drawn
      draws = bulk-draws stamp H rows drawn accepted

      same : (facts_in_view (Some user) V').standing None ≡ st
      same = standing_from_view (Some user) None (refilled xs H) ∙ standing-refilled xs H (Some user) None
          ∙ sym (standing_from_view (Some user) None H)

      by : (r : Result (Unit {0}) Rule) → bulk_behind (view_basis user) V (bulk rows) r ≡ Ok drawn
          → bulk_behind (view_basis user) V' (bulk again) r
          ≡ Ok (bulk_drawn stamp (length again) (filled_entries ys draws.entries))
      by (Err rule) is = cc
      by (Ok done) is =
          ap (bulk_of_rows stamp (length again))
          (rows-refilled rows 1 xs bounded H draws.entries ready ready' draws.accepted)
