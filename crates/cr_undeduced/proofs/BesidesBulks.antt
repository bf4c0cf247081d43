-- SPDX-License-Identifier: Apache-2.0 OR MIT
-- So every bulk is judged the same where entries that no rule reads stand besides, row by row.
use Rattle.std.proofs.Common.{ℕ, Bool, true, cond, ◌≡◌, ◌+◌, List, [], ◌∷◌, ◌++◌, length, refl, sym, ap, subst}
use Rattle.std.proofs.Common.{◌∙◌, append-nil, Some, None, Result, Ok, Err}
use Rattle.std.specs.List.{AllByRecursion}
use Rattle.std.proofs.lemmas.List.Concat.{flat_map-append}
use Rattle.cr_base.specs.declared.bulk.Broken.{Broken}
use Rattle.cr_base.specs.declared.bulk.BulkRow.{BulkRow}
use Rattle.cr_base.specs.declared.command.Command.{Command}
use Rattle.cr_base.specs.declared.command.Command.TheVariants as commands
use Rattle.cr_base.specs.declared.entry.Entry.{Entry}
use Rattle.cr_base.specs.declared.entry.Entry.TheVariants as entries
use Rattle.cr_base.specs.declared.entry.Stamp.{Stamp}
use Rattle.cr_base.specs.declared.entry.Stamped.{Stamped}
use Rattle.cr_base.specs.declared.reply.Rule.{Rule}
use Rattle.cr_base.specs.declared.reply.Rule.TheVariants as rules
use Rattle.cr_base.specs.declared.standing.Standing.{Standing}
use Rattle.cr_base.specs.Bulk.{row_command, turns_own_conflict, row_told_judged, entries_of, and_rows, and_behind}
use Rattle.cr_base.specs.Bulk.{rows_judged, bulk_checks, bulk_of_rows, bulk_behind}
use Rattle.cr_base.specs.Calls.{call_by}
use Rattle.cr_base.specs.Checks.{judged}
use Rattle.cr_base.specs.Drawn.{Drawn, stamped}
use Rattle.cr_base.specs.History.{History, all_told_by}
use Rattle.cr_base.specs.Lists.{is_number}
use Rattle.cr_base.specs.Resolving.{resolve}
use Rattle.cr_base.specs.Sources.{Facts, user_among}
use Rattle.cr_base.specs.Tables.{Tables, tables_after, tables_from, tables_of}
use Rattle.cr_base.specs.Ties.{switched}
use Rattle.cr_history.specs.Invariants.{Invariants}
use Rattle.cr_history.proofs.TableAgreement.{tables_of-append}
use Rattle.cr_policy.specs.Judge.{judge, judge_bulk, view_basis, own_sightings}
use Rattle.cr_policy.specs.View.{View, view}
use Rattle.cr_policy.specs.ViewFacts.{facts_in_view, shown_in_view}
use Rattle.cr_policy.proofs.BulkLaws.{row_seen, seen, IsReady, RowAdds, row-adds, next, next-ready, next-seen}
use Rattle.cr_policy.proofs.StandingLaws.{accounts-seen, standing_from_view}
use Rattle.cr_undeduced.specs.MayHaveBeen.{IsUnread, IsBeside}
use Rattle.cr_undeduced.proofs.BesidesFacts.{SameTold, told-besides, standing-also, accounts-also}
use Rattle.cr_undeduced.proofs.BesidesJudged.{judge-same}

-- ---- two histories that tell the rules the same

pub record TellAlike (A B : History) : Type 1 where
  pub told : SameTold A B
  pub ties : (tables_of A).ties.conflicts ≡ (tables_of B).ties.conflicts

conflicts-one : (s : Stamped) (t t' : Tables) → t.ties.conflicts ≡ t'.ties.conflicts
    → (tables_after t s).ties.conflicts ≡ (tables_after t' s).ties.conflicts
conflicts-one s t t' same = by s.entry
  where
    by : (e : Entry) → (tables_after t (record { stamp = s.stamp; more = s.more; entry = e })).ties.conflicts
        ≡ (tables_after t' (record { stamp = s.stamp; more = s.more; entry = e })).ties.conflicts
    by (entries.Conflict paper user on) = ap (switched on paper user) same
    by e = same

conflicts-from : (t t' : Tables) (g : History) → t.ties.conflicts ≡ t'.ties.conflicts
    → (tables_from t g).ties.conflicts ≡ (tables_from t' g).ties.conflicts
conflicts-from t t' [] same = same
conflicts-from t t' (e ∷ g) same =
    conflicts-from (tables_after t e) (tables_after t' e) g (conflicts-one e t t' same)

conflicts-beside : (t : Tables) (g : History) → AllByRecursion IsBeside g
    → (tables_from t g).ties.conflicts ≡ t.ties.conflicts
conflicts-beside t [] all = refl
conflicts-beside t (e ∷ g) all = conflicts-beside (tables_after t e) g all.1 ∙ by e.entry all.0.unread
  where
    by : (entry : Entry) → IsUnread entry
        → (tables_after t (record { stamp = e.stamp; more = e.more; entry = entry })).ties.conflicts ≡ t.ties.conflicts
    by (entries.Conflict paper user on) is = absurd is
    by entry is = refl

-- behind the same they do
pub alike-behind : (A B g : History) → TellAlike A B → TellAlike (A ++ g) (B ++ g)
alike-behind A B g alike = record {
  told = λ X told silent.
      flat_map-append (λ (e : Stamped). told e.stamp.maker e.entry) A g
      ∙ ap (λ xs. xs ++ all_told_by told g) (alike.told X told silent)
      ∙ sym (flat_map-append (λ (e : Stamped). told e.stamp.maker e.entry) B g);
  ties = ap (λ (t : Tables). t.ties.conflicts) (tables_of-append A g)
      ∙ conflicts-from (tables_of A) (tables_of B) g alike.ties
      ∙ sym (ap (λ (t : Tables). t.ties.conflicts) (tables_of-append B g));
}

-- and where some are there besides
pub alike-beside : (before besides : History) → AllByRecursion IsBeside besides → TellAlike before (before ++ besides)
alike-beside before besides all = record {
  told = λ X told silent.
      sym (sym (ap (λ (H : History). all_told_by told H) (append-nil (before ++ besides)))
      ∙ told-besides told silent before besides [] all
      ∙ ap (λ (H : History). all_told_by told H) (append-nil before));
  ties = sym (conflicts-beside (tables_of before) besides all)
      ∙ sym (ap (λ (t : Tables). t.ties.conflicts) (tables_of-append before besides));
}

pub alike-turned : (A B : History) → TellAlike A B → TellAlike B A
alike-turned A B alike =
    record { told = λ X told silent. sym (alike.told X told silent); ties = sym alike.ties }

-- ---- a bulk is judged the same

module _ (stamp : Stamp) where
  abbrev user : ℕ
  user = stamp.maker

  row-also : (A B : History) (row : BulkRow) → TellAlike A B → Invariants A → Invariants B
      → row_seen stamp A row ≡ row_seen stamp B row
  row-also A B row alike kept kept' = by (row_command row)
    where
      factsA : Facts
      factsA = facts_in_view (Some user) (view (Some user) A)

      factsB : Facts
      factsB = facts_in_view (Some user) (view (Some user) B)

      accounts : factsA.accounts ≡ factsB.accounts
      accounts = accounts-seen (Some user) A ∙ accounts-also A B alike.told
          ∙ sym (accounts-seen (Some user) B)

      own : (command : Command) → turns_own_conflict user (resolve factsA.accounts command) ≡ turns_own_conflict user (resolve factsB.accounts command)
      own (commands.SetConflict paper name on) = λ i. is_number (user_among (accounts i) name) user
      own command = refl

      by : (told : Result Command Rule)
          → row_told_judged factsA (shown_in_view (Some user) (view (Some user) A)) stamp
          told
          ≡ row_told_judged factsB (shown_in_view (Some user) (view (Some user) B)) stamp
          told
      by (Err rule) = refl
      by (Ok command) =
          ap (λ (b : Bool). cond b (Err rules.BulkSelf) (judge (view (Some user) A) (call_by stamp command)))
          (own command)
          ∙ ap
          (λ (r : Result Drawn Rule). cond (turns_own_conflict user (resolve factsB.accounts command)) (Err rules.BulkSelf) r)
          (judge-same A B kept kept' alike.told alike.ties (call_by stamp command))

  abbrev first_of : Entry → History → Entry
  first_of e [] = e
  first_of e (s ∷ g) = s.entry

  rows-also : (rows : List BulkRow) (n : ℕ) (A B : History) → TellAlike A B → IsReady stamp A → IsReady stamp B
      → seen stamp A n rows ≡ seen stamp B n rows
  rows-also [] n A B alike ready ready' = refl
  rows-also (row ∷ rows) n A B alike ready ready' =
      by (row_seen stamp A row) refl (rows-also rows (n + 1))
      ∙ ap (λ (r : Result Drawn Rule). and_behind n r (goes B)) (row-also A B row alike ready.kept ready'.kept)
    where
      goes : History → History → Result (List Entry) Broken
      goes H group =
          rows_judged (view_basis user) stamp (view (Some user) H ++ own_sightings group) (n + 1) rows

      by : (r : Result Drawn Rule) → row_seen stamp A row ≡ r
          → ((A B : History) → TellAlike A B → IsReady stamp A → IsReady stamp B
          → seen stamp A (n + 1) rows ≡ seen stamp B (n + 1) rows)
          → and_behind n r (goes A) ≡ and_behind n r (goes B)
      by (Err rule) is rest = refl
      by (Ok drawn) is rest =
          let firstA : RowAdds stamp A drawn = row-adds stamp A row drawn ready is in
          let firstB : RowAdds stamp B drawn =
          row-adds stamp B row drawn ready' (sym (row-also A B row alike ready.kept ready'.kept) ∙ is) in
          let entry : firstA.entry ≡ firstB.entry =
          ap (first_of firstA.entry) (sym firstA.group ∙ firstB.group) in
          let nextB = ap (λ (e : Entry). B ++ stamped stamp true e ∷ []) (sym entry) in
          ap (and_rows (entries_of drawn.group))
          (ap (λ (V : View). rows_judged (view_basis user) stamp V (n + 1) rows)
          (next-seen stamp A drawn ready firstA true)
          ∙ rest (next stamp A drawn ready firstA true) (B ++ stamped stamp true firstA.entry ∷ [])
          (alike-behind A B (stamped stamp true firstA.entry ∷ []) alike) (next-ready stamp A drawn ready firstA true)
          (subst (IsReady stamp) nextB (next-ready stamp B drawn ready' firstB true))
          ∙ ap (λ (G : History). seen stamp G (n + 1) rows) (sym nextB)
          ∙ sym (ap (λ (V : View). rows_judged (view_basis user) stamp V (n + 1) rows)
          (next-seen stamp B drawn ready' firstB true)))

  pub bulk-also : (rows : List BulkRow) (A B : History) → TellAlike A B → IsReady stamp A → IsReady stamp B
      → judge_bulk (view (Some user) A) (record { stamp = stamp; rows = rows })
      ≡ judge_bulk (view (Some user) B) (record { stamp = stamp; rows = rows })
  bulk-also rows A B alike ready ready' =
      ap (λ (st : Standing). bulk_behind (view_basis user) (view (Some user) A) (record { stamp = stamp; rows = rows })
      (judged (bulk_checks st) tt))
      (standing_from_view (Some user) None A
      ∙ standing-also A B alike.told (Some user) None
      ∙ sym (standing_from_view (Some user) None B))
      ∙ by (judged (bulk_checks ((facts_in_view (Some user) (view (Some user) B)).standing None)) tt)
    where
      by : (r : Result (Unit {0}) Rule)
          → bulk_behind (view_basis user) (view (Some user) A) (record { stamp = stamp; rows = rows }) r
          ≡ bulk_behind (view_basis user) (view (Some user) B) (record { stamp = stamp; rows = rows }) r
      by (Err rule) = refl
      by (Ok done) = ap (bulk_of_rows stamp (length rows)) (rows-also rows 1 A B alike ready ready')
