-- SPDX-License-Identifier: Apache-2.0 OR MIT
-- A bulk is accepted exactly where its caller may send it, and may do each of its rows in its turn.
use Rattle.std.proofs.Common.{ℕ, Bool, true, false, cond, ◌≡◌, ◌+◌, List, [], ◌∷◌, ◌++◌, eqb, refl, sym, ap, subst}
use Rattle.std.proofs.Common.{◌∙◌}
use Rattle.std.proofs.Common.{◌||◌, ◌&&◌, arith, Option, Some, None, Result, Ok, Err}
use Rattle.std.specs.Prelude.{not, map, is_ok, length}
use Rattle.std.specs.Str.{bytes_eq}
use Rattle.std.proofs.lemmas.Bool.{true≢false}
use Rattle.std.specs.Prelude.{codes}
use Rattle.cr_base.specs.declared.bulk.Broken.{Broken}
use Rattle.cr_base.specs.declared.bulk.BulkRow.{BulkRow}
use Rattle.cr_base.specs.declared.command.Command.{Command}
use Rattle.cr_base.specs.declared.command.Command.TheVariants as commands
use Rattle.cr_base.specs.declared.entry.Entry.{Entry}
use Rattle.cr_base.specs.declared.entry.Stamp.{Stamp}
use Rattle.cr_base.specs.declared.reply.Rule.{Rule}
use Rattle.cr_base.specs.declared.reply.Rule.TheVariants as rules
use Rattle.cr_base.specs.declared.words.Kind.TheVariants.{Primary, Secondary, Pc}
use Rattle.cr_base.specs.Parse.{parse_paper}
use Rattle.cr_base.specs.Bulk.{assigns, unassigns, turns_conflict, turns_tag, Action, command_told_by, row_command}
use Rattle.cr_base.specs.Bulk.{turns_own_conflict, row_told_judged, entries_of, and_rows, and_behind, rows_judged}
use Rattle.cr_base.specs.Bulk.{bulk_checks, bulk_of_rows, bulk_behind}
use Rattle.cr_base.specs.Checks.{judged}
use Rattle.cr_base.specs.Calls.{BulkCall, stamp_by, call_by}
use Rattle.cr_base.specs.Drawn.{Drawn, stamped}
use Rattle.cr_base.specs.History.{History}
use Rattle.cr_base.specs.HistoryFacts.{phase_of, role_of}
use Rattle.cr_base.specs.Lists.{is_number}
use Rattle.cr_base.specs.Phases.{committee_works}
use Rattle.cr_base.specs.Resolving.{resolve}
use Rattle.cr_base.specs.Sources.{Facts, Shown}
use Rattle.cr_base.specs.Words.{is_chair}
use Rattle.cr_history.proofs.RuleFacts.{facts_of}
use Rattle.cr_policy.specs.Added.{added}
use Rattle.cr_policy.specs.Judge.{judge, view_basis, own_sightings, judge_bulk}
use Rattle.cr_policy.specs.Legal.{unnumbered, Legal}
use Rattle.cr_policy.specs.Sentences.{committee_at_work, chairs, of_some, user_named, a_row}
use Rattle.cr_policy.specs.View.{View, view}
use Rattle.cr_policy.specs.ViewFacts.{facts_in_view, shown_in_view}
use Rattle.cr_policy.proofs.AddedLaws.{adds_as_said, user-same}
use Rattle.cr_policy.proofs.BulkLaws.{row_seen, seen, IsReady, RowCalls, row-calls, row-given, RowAdds, row-adds}
use Rattle.cr_policy.proofs.BulkLaws.{next}
use Rattle.cr_policy.proofs.BulkLaws.{next-ready, next-seen}
use Rattle.cr_policy.proofs.LegalLaws.{Legal-accepted, legal_invariants, given-bounded}
use Rattle.cr_permissions.specs.MayBulk.{RowsAsSaid, is_of_herself, may_row, with_row, may_rows, may_bulk}
use Rattle.cr_permissions.specs.MayBulk.{BulksAsSaid}
use Rattle.cr_permissions.proofs.KeptStamps.{ready-unnumbered, seen-unnumbered}
use Rattle.cr_permissions.proofs.MayDoLaws.{permissions_as_said}
use Rattle.cr_permissions.proofs.SentenceLaws.{both-said, none_broken, judged-none_broken, chair-same}
use Rattle.cr_permissions.proofs.SentenceLaws.{in_committee-same, facts-seen}

-- ---- what rows ask for

-- a word that is none of the eight is no action
abbrev picked : Bool → Bool → Bool → Bool → Bool → Bool → Bool → Bool → Option Action
picked a b c d e f g h =
    cond a (Some (assigns Primary)) (cond b (Some (assigns Secondary))
    (cond c (Some (assigns Pc)) (cond d (Some unassigns)
    (cond e (Some (turns_conflict true)) (cond f (Some (turns_conflict false))
    (cond g (Some (turns_tag true)) (cond h (Some (turns_tag false)) None)))))))

no-action : (a b c d e f g h : Bool) → (a || (b || (c || (d || (e || (f || (g || (h || false)))))))) ≡ false
    → picked a b c d e f g h ≡ None
no-action true b c d e f g h any = absurd (true≢false any)
no-action false true c d e f g h any = absurd (true≢false any)
no-action false false true d e f g h any = absurd (true≢false any)
no-action false false false true e f g h any = absurd (true≢false any)
no-action false false false false true f g h any = absurd (true≢false any)
no-action false false false false false true g h any = absurd (true≢false any)
no-action false false false false false false true h any = absurd (true≢false any)
no-action false false false false false false false true any = absurd (true≢false any)
no-action false false false false false false false false any = refl

pub rows_as_said : RowsAsSaid
unfolding row_command
rows_as_said = record {
  primary = λ p u t. refl;
  secondary = λ p u t. refl;
  pcreview = λ p u t. refl;
  clearreview = λ p u t. refl;
  conflict = λ p u t. refl;
  clearconflict = λ p u t. refl;
  tag = λ p u t is. ap (λ (b : Bool). cond b (Ok (commands.Tag (parse_paper p) t true)) (Err rules.BadTag)) is;
  cleartag = λ p u t is. ap (λ (b : Bool). cond b (Ok (commands.Tag (parse_paper p) t false)) (Err rules.BadTag)) is;
  bad_tag = λ p u t is. ap (λ (b : Bool). cond b (Ok (commands.Tag (parse_paper p) t true)) (Err rules.BadTag)) is;
  bad_cleared_tag =
      λ p u t is. ap (λ (b : Bool). cond b (Ok (commands.Tag (parse_paper p) t false)) (Err rules.BadTag)) is;
  bad_action = λ p a u t is.
      ap (λ (action : Option Action). command_told_by action (a_row p a u t))
      (no-action (bytes_eq a (codes "primary")) (bytes_eq a (codes "secondary")) (bytes_eq a (codes "pcreview"))
      (bytes_eq a (codes "clearreview"))
      (bytes_eq a (codes "conflict")) (bytes_eq a (codes "clearconflict")) (bytes_eq a (codes "tag"))
      (bytes_eq a (codes "cleartag")) is);
}

-- ---- one row

-- under a stamp without a number
module _ (user moment : ℕ) where
  abbrev stamp : Stamp
  stamp = stamp_by user moment None

  abbrev u : Option ℕ
  u = Some user

  abbrev seen_facts : History → Facts
  seen_facts H = facts_in_view u (view u H)

  abbrev seen_shown : History → Shown
  seen_shown H = shown_in_view u (view u H)

  herself-same : (H : History) → Legal H → (command : Command)
      → turns_own_conflict user (resolve (facts_of u H).accounts command) ≡ is_of_herself user H command
  herself-same H legal (commands.SetConflict paper name on) =
      ap (λ (o : Option ℕ). is_number o user) (user-same u H legal name) ∙ at (user_named name H)
    where
      at : (o : Option ℕ) → is_number o user ≡ of_some o (λ v. eqb v user)
      at None = refl
      at (Some v) = refl
  herself-same H legal _ = refl

  -- a row is accepted where she may do what it asks for, and it is no conflict of her own
  row-ok : (H : History) → Legal H → (row : BulkRow) → is_ok (row_seen stamp H row) ≡ may_row stamp H (row_command row)
  row-ok H legal row = by (row_command row)
    where
      not-ok : (b : Bool) (r : Result Drawn Rule)
          → is_ok {T = Drawn} {E = Rule} (cond b (Err rules.BulkSelf) r) ≡ (not b && is_ok r)
      not-ok true r = refl
      not-ok false r = refl

      by : (asked : Result Command Rule) → is_ok (row_told_judged (seen_facts H) (seen_shown H) stamp asked)
          ≡ may_row stamp H asked
      by (Err rule) = refl
      by (Ok command) =
          not-ok (turns_own_conflict user (resolve (seen_facts H).accounts command)) (judge (view u H) (call_by stamp command))
          ∙
          (λ i.
          not
          ((ap (λ (facts : Facts). turns_own_conflict user (resolve facts.accounts command)) (facts-seen u H legal)
          ∙ herself-same H legal command) i)
          && permissions_as_said H (call_by stamp command) legal i)

  -- ---- rows in their turn

  and_rows-ok : (es : List Entry) (r : Result (List Entry) Broken) → is_ok (and_rows es r) ≡ is_ok r
  and_rows-ok es (Ok more) = refl
  and_rows-ok es (Err refusal) = refl

  rows-ok : (rows : List BulkRow) (n : ℕ) (H : History) → Legal H → IsReady stamp H
      → is_ok (seen stamp H n rows) ≡ may_rows stamp H rows
  rows-ok [] n H legal ready = refl
  rows-ok (row ∷ rows) n H legal ready = by (row_seen stamp H row) refl (rows-ok rows (n + 1))
    where
      view_goes : History → Result (List Entry) Broken
      view_goes group = rows_judged (view_basis user) stamp (view u H ++ own_sightings group) (n + 1) rows

      behind : Bool
      behind = may_rows stamp (with_row stamp H (row_command row)) rows

      by : (r : Result Drawn Rule) → row_seen stamp H row ≡ r
          → ((G : History) → Legal G → IsReady stamp G → is_ok (seen stamp G (n + 1) rows) ≡ may_rows stamp G rows)
          → is_ok (and_behind n r view_goes) ≡ (may_row stamp H (row_command row) && behind)
      by (Err rule) is rest =
          ap (λ (b : Bool). b && behind) (sym (ap (λ (r : Result Drawn Rule). is_ok r) is) ∙ row-ok H legal row)
      by (Ok drawn) is rest =
          and_rows-ok (entries_of drawn.group) (view_goes drawn.group)
          ∙ ap (λ (V : View). is_ok (rows_judged (view_basis user) stamp V (n + 1) rows))
          (next-seen stamp H drawn ready first false)
          ∙ rest after legal_after (next-ready stamp H drawn ready first false)
          ∙ ap (λ (G : History). may_rows stamp G rows) after-is
          ∙ ap (λ (b : Bool). b && behind) (sym (ap (λ (r : Result Drawn Rule). is_ok r) is) ∙ row-ok H legal row)
        where
          first : RowAdds stamp H drawn
          first = row-adds stamp H row drawn ready is

          calls : RowCalls stamp H row drawn
          calls = row-calls stamp H row drawn ready is

          after : History
          after = next stamp H drawn ready first false

          legal_after : Legal after
          legal_after =
              subst (λ (g : History). Legal (H ++ g)) first.group
              (Legal-accepted H (call_by stamp calls.command) drawn legal
              (record { given = row-given stamp H row drawn ready calls; unused = tt }) calls.accepted)

          -- the one entry is what the command adds
          one : added u H calls.command ≡ first.entry ∷ []
          one =
              sym (adds_as_said H (call_by stamp calls.command) drawn legal calls.caller calls.accepted).entries
              ∙ ap (λ (g : History). entries_of g) first.group

          after-is : after ≡ with_row stamp H (row_command row)
          after-is =
              ap (λ (es : List Entry). H ++ map (λ (e : Entry). stamped stamp false e) es) (sym one)
              ∙ ap (with_row stamp H) (sym calls.is)

-- ---- the bulk

module _ (stamp : Stamp) (H : History) (rows : List BulkRow) (legal : Legal H) (ready : IsReady stamp H) where
  abbrev user' : ℕ
  user' = stamp.maker

  abbrev bulk : BulkCall
  bulk = record { stamp = stamp; rows = rows }

  abbrev facts : Facts
  facts = facts_in_view (Some user') (view (Some user') H)

  -- its rows are judged as they are without its number
  rows-may : is_ok (seen stamp H 1 rows) ≡ may_rows (unnumbered stamp) H rows
  rows-may =
      ap (λ (r : Result (List Entry) Broken). is_ok r) (sym (seen-unnumbered stamp H ready 1 rows))
      ∙ rows-ok user' stamp.at rows 1 H legal (ready-unnumbered stamp H ready)

  bulk-ok : is_ok (judge_bulk (view (Some user') H) bulk) ≡ may_bulk H bulk
  bulk-ok =
      behind (judged (bulk_checks (facts.standing None)) tt)
      ∙ (λ i. (judged-none_broken (bulk_checks (facts.standing None)) tt
      ∙ ap (λ (facts : Facts). none_broken (bulk_checks (facts.standing None))) (facts-seen (Some user') H legal)
      ∙ both-said (is_chair (role_of (Some user') H)) (chairs user' H) (committee_works (phase_of H)) (committee_at_work H)
      (chair-same (role_of (Some user') H)) (in_committee-same (phase_of H))) i && rows-may i)
      ∙ together (chairs user' H) (committee_at_work H) (may_rows (unnumbered stamp) H rows)
    where
      of_rows : (r : Result (List Entry) Broken) → is_ok (bulk_of_rows stamp (length rows) r) ≡ is_ok r
      of_rows (Ok es) = refl
      of_rows (Err refusal) = refl

      behind : (r : Result (Unit {0}) Rule) → is_ok (bulk_behind (view_basis user') (view (Some user') H) bulk r)
          ≡ (is_ok r && is_ok (seen stamp H 1 rows))
      behind (Err rule) = refl
      behind (Ok done) = of_rows (seen stamp H 1 rows)

      together : (a b c : Bool) → ((a && b) && c) ≡ (a && b && c)
      together a b c = grind arith

pub bulks_as_said : BulksAsSaid
bulks_as_said H bulk legal allowed =
    bulk-ok bulk.stamp H bulk.rows legal
    (record {
      kept = legal_invariants H legal;
      registered = allowed.given.caller;
      bounds = given-bounded H bulk allowed.given;
    })
