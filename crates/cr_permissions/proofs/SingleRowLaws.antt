-- SPDX-License-Identifier: Apache-2.0 OR MIT
-- A bulk is its rows' commands, given one after another.
use Rattle.std.proofs.Common.{ℕ, false, ◌≡◌, ◌+◌, suc, List, [], ◌∷◌, ◌++◌, length, refl, sym, ap, subst, ◌∙◌, arith}
use Rattle.std.proofs.Common.{append_assoc, append-nil, Some, None, Result, Ok, Err}
use Rattle.std.specs.Prelude.{map}
use Rattle.std.proofs.lemmas.List.{map-append}
use Rattle.cr_base.specs.declared.bulk.Broken.{Broken}
use Rattle.cr_base.specs.declared.bulk.Broken.TheVariants as broken
use Rattle.cr_base.specs.declared.bulk.BulkRow.{BulkRow}
use Rattle.cr_base.specs.declared.command.Call.{Call}
use Rattle.cr_base.specs.declared.command.Command.{Command}
use Rattle.cr_base.specs.declared.entry.Entry.{Entry}
use Rattle.cr_base.specs.declared.entry.Stamp.{Stamp}
use Rattle.cr_base.specs.declared.entry.Stamped.{Stamped}
use Rattle.cr_base.specs.declared.reply.Rule.{Rule}
use Rattle.cr_base.specs.Bulk.{entries_of, and_rows, and_behind, rows_judged, bulk_checks, bulk_of_rows, bulk_behind}
use Rattle.cr_base.specs.Checks.{judged}
use Rattle.cr_base.specs.Calls.{BulkCall, stamp_by, call_by}
use Rattle.cr_base.specs.Drawn.{Drawn, stamped, grouped}
use Rattle.cr_base.specs.History.{History}
use Rattle.cr_policy.specs.Judge.{view_basis, own_sightings, judge_bulk}
use Rattle.cr_policy.specs.Legal.{unnumbered, followed_by, step, IsBulkAllowed, Legal}
use Rattle.cr_policy.specs.View.{View, view}
use Rattle.cr_policy.specs.ViewFacts.{facts_in_view}
use Rattle.cr_policy.proofs.BulkLaws.{row_seen, seen, IsReady, RowCalls, row-calls, row-given, RowAdds, row-adds}
use Rattle.cr_policy.proofs.BulkLaws.{next}
use Rattle.cr_policy.proofs.BulkLaws.{next-ready, next-seen, AreAccepted, rows-accepted, bulk-draws, no_rows}
use Rattle.cr_policy.proofs.LegalLaws.{legal_invariants, given-bounded}
use Rattle.cr_permissions.specs.SingleRows.{call_told, row_calls, IsAccepted, AcceptedInTurn, LeadSingly, unmarked}
use Rattle.cr_permissions.specs.SingleRows.{BulkIsItsRows}
use Rattle.cr_permissions.proofs.KeptStamps.{ready-unnumbered, seen-unnumbered}

-- ---- marks and numbers

-- entries under one stamp, each of a command of its own
abbrev alone : Stamp → List Entry → History
alone stamp es = map (λ (e : Entry). stamped stamp false e) es

unmarked-grouped : (stamp : Stamp) (es : List Entry) → unmarked (grouped stamp es) ≡ alone (unnumbered stamp) es
unmarked-grouped stamp [] = refl
unmarked-grouped stamp (e ∷ []) = refl
unmarked-grouped stamp (e ∷ next ∷ es) =
    ap (λ (g : History). stamped (unnumbered stamp) false e ∷ g) (unmarked-grouped stamp (next ∷ es))

unmarked-alone : (stamp : Stamp) (es : List Entry)
    → unmarked (alone (unnumbered stamp) es) ≡ alone (unnumbered stamp) es
unmarked-alone stamp [] = refl
unmarked-alone stamp (e ∷ es) = ap (λ (g : History). stamped (unnumbered stamp) false e ∷ g) (unmarked-alone stamp es)

abbrev unmark : Stamped → Stamped
unmark e = stamped (unnumbered e.stamp) false e.entry

same-unmarked : (stamp : Stamp) (H : History) (es : List Entry)
    → unmarked (H ++ grouped stamp es) ≡ unmarked (H ++ alone (unnumbered stamp) es)
same-unmarked stamp H es =
    map-append unmark H (grouped stamp es)
    ∙ ap (λ (g : History). unmarked H ++ g) (unmarked-grouped stamp es ∙ sym (unmarked-alone stamp es))
    ∙ sym (map-append unmark H (alone (unnumbered stamp) es))

-- ---- one row before others

-- under a stamp without a number
module _ (user at : ℕ) where
  abbrev stamp : Stamp
  stamp = stamp_by user at None

  -- an accepted row's command leads to the history with its entry behind it
  row-leads : (H : History) (row : BulkRow) (rows : List BulkRow) (drawn : Drawn) (ready : IsReady stamp H)
      (first : RowAdds stamp H drawn) (to : History)
      → row_seen stamp H row ≡ Ok drawn → LeadSingly (next stamp H drawn ready first false) stamp rows to
      → LeadSingly H stamp (row ∷ rows) to
  row-leads H row rows drawn ready first to accepted leads =
      record {
        commands =
            subst (λ (told : Result Command Rule). length (call_told stamp told ++ row_calls stamp rows)
            ≡ suc (length rows)) (sym calls.is) (ap suc leads.commands);
        accepted =
            subst (λ (told : Result Command Rule). AcceptedInTurn H (call_told stamp told ++ row_calls stamp rows) to)
            (sym calls.is) (call_accepted, behind);
      }
    where
      calls : RowCalls stamp H row drawn
      calls = row-calls stamp H row drawn ready accepted

      call : Call
      call = call_by stamp calls.command

      call_accepted : IsAccepted H call
      call_accepted = record {
        allowed = record { given = row-given stamp H row drawn ready calls; unused = tt };
        drawn = drawn;
        accepted = calls.accepted;
      }

      behind : AcceptedInTurn (step H call) (row_calls stamp rows) to
      behind = subst (λ (G : History). AcceptedInTurn G (row_calls stamp rows) to)
          (sym (ap (followed_by H) calls.accepted ∙ ap (λ (g : History). H ++ g) first.group)) leads.accepted

  -- ---- accepted rows

  rows-lead : (rows : List BulkRow) (n : ℕ) (H : History) (es : List Entry) → IsReady stamp H
      → seen stamp H n rows ≡ Ok es
      → LeadSingly H stamp rows (H ++ alone stamp es)
  rows-lead [] n H es ready accepted =
      subst (λ (es : List Entry). LeadSingly H stamp [] (H ++ alone stamp es)) (no_rows stamp es accepted)
      (record { commands = refl; accepted = sym (append-nil H) })
  rows-lead (row ∷ rows) n H es ready accepted =
      let all : AreAccepted stamp H n row rows es = rows-accepted stamp H n row rows es ready accepted in
      let after : History = next stamp H all.drawn ready all.first false in
      let leads : LeadSingly after stamp rows (after ++ alone stamp all.more) =
      rows-lead rows (n + 1) after all.more (next-ready stamp H all.drawn ready all.first false) (all.rest false) in
      subst (λ (es : List Entry). LeadSingly H stamp (row ∷ rows) (H ++ alone stamp es)) (sym all.all)
      (row-leads H row rows all.drawn ready all.first (H ++ stamped stamp false all.first.entry ∷ alone stamp all.more)
      all.judged
      (subst (LeadSingly after stamp rows) (append_assoc H (stamped stamp false all.first.entry ∷ [])
      (alone stamp all.more)) leads))

  -- ---- the first broken row

  record FirstBroken (H : History) (n : ℕ) (rows : List BulkRow) (refusal : Broken) : Type 0 where
    before : List BulkRow
    row : BulkRow
    after : List BulkRow
    rows_are : rows ≡ before ++ row ∷ after
    rule : Rule
    refusal_is : refusal ≡ broken.Row (length before + n) rule
    singly : History
    leads : LeadSingly H stamp before singly
    breaks : row_seen stamp singly row ≡ Err rule

  first-broken : (rows : List BulkRow) (n : ℕ) (H : History) (refusal : Broken) → IsReady stamp H
      → seen stamp H n rows ≡ Err refusal
      → FirstBroken H n rows refusal
  first-broken [] n H refusal ready refused = cc
  first-broken (row ∷ rows) n H refusal ready refused =
      by (row_seen stamp H row) refl refused (first-broken rows (n + 1))
    where
      view_goes : History → Result (List Entry) Broken
      view_goes group = rows_judged (view_basis user) stamp (view (Some user) H ++ own_sightings group) (n + 1) rows

      by : (r : Result Drawn Rule) → row_seen stamp H row ≡ r → and_behind n r view_goes ≡ Err refusal
          → ((G : History) (refusal : Broken) → IsReady stamp G → seen stamp G (n + 1) rows ≡ Err refusal
          → FirstBroken G (n + 1) rows refusal)
          → FirstBroken H n (row ∷ rows) refusal
      by (Err rule) is refused rest = record {
        before = [];
        row = row;
        after = rows;
        rows_are = refl;
        rule = rule;
        refusal_is = same refused ∙ ap (λ (k : ℕ). broken.Row k rule) (none_more n);
        singly = H;
        leads = record { commands = refl; accepted = refl };
        breaks = is;
      }
        where
          same : ◌≡◌ {A = Result (List Entry) Broken} (Err (broken.Row n rule)) (Err refusal)
              → refusal ≡ broken.Row n rule
          same h = cc

          none_more : (n : ℕ) → n ≡ 0 + n
          none_more n = omega arith
      by (Ok drawn) is refused rest = behind (view_goes drawn.group) refl refused
        where
          first : RowAdds stamp H drawn
          first = row-adds stamp H row drawn ready is

          later : FirstBroken (next stamp H drawn ready first false) (n + 1) rows refusal
              → FirstBroken H n (row ∷ rows) refusal
          later found = record {
            before = row ∷ found.before;
            row = found.row;
            after = found.after;
            rows_are = ap (λ (rows : List BulkRow). row ∷ rows) found.rows_are;
            rule = found.rule;
            refusal_is = found.refusal_is ∙ ap (λ (k : ℕ). broken.Row k found.rule) (one_more (length found.before) n);
            singly = found.singly;
            leads = row-leads H row found.before drawn ready first found.singly is found.leads;
            breaks = found.breaks;
          }
            where
              one_more : (k n : ℕ) → k + (n + 1) ≡ suc k + n
              one_more k n = omega arith

          behind : (r : Result (List Entry) Broken) → view_goes drawn.group ≡ r
              → and_rows (entries_of drawn.group) r ≡ Err refusal
              → FirstBroken H n (row ∷ rows) refusal
          behind (Ok more) goes refused = cc
          behind (Err other) goes refused =
              let same : other ≡ refusal = cc in
              later (rest (next stamp H drawn ready first false) refusal (next-ready stamp H drawn ready first false)
              (ap (λ (V : View). rows_judged (view_basis user) stamp V (n + 1) rows)
              (sym (next-seen stamp H drawn ready first false))
              ∙ goes ∙ ap (λ (b : Broken). Err b) same))

-- ---- a bulk that is refused for a row

module _ (stamp : Stamp) where
  abbrev bulk : List BulkRow → BulkCall
  bulk rows = record { stamp = stamp; rows = rows }

  -- it is refused by its rows
  refused-by_rows : (H : History) (rows : List BulkRow) (n : ℕ) (rule : Rule)
      → judge_bulk (view (Some stamp.maker) H) (bulk rows) ≡ Err (broken.Row n rule)
      → seen stamp H 1 rows ≡ Err (broken.Row n rule)
  refused-by_rows H rows n rule refused =
      by (judged (bulk_checks ((facts_in_view (Some stamp.maker) (view (Some stamp.maker) H)).standing None)) tt)
      refused
    where
      all : (r : Result (List Entry) Broken) → ◌≡◌ {A = Result Drawn Broken} (bulk_of_rows stamp (length rows) r)
          (Err (broken.Row n rule))
          → r ≡ Err (broken.Row n rule)
      all (Ok es) refused = cc
      all (Err refusal) refused = cc

      by : (r : Result (Unit {0}) Rule) → bulk_behind (view_basis stamp.maker) (view (Some stamp.maker) H) (bulk rows) r
          ≡ Err (broken.Row n rule)
          → seen stamp H 1 rows ≡ Err (broken.Row n rule)
      by (Err first) refused = cc
      by (Ok done) refused = all (seen stamp H 1 rows) refused

-- ---- the law

pub bulk_is_its_rows : BulkIsItsRows
bulk_is_its_rows = record {
  accepted = λ H bulk drawn legal allowed accepted.
      let draws = bulk-draws bulk.stamp H bulk.rows drawn accepted in
      let ready : IsReady bulk.stamp H = is_ready H bulk legal allowed in
      record {
        singly = H ++ alone (unnumbered bulk.stamp) draws.entries;
        leads =
            rows-lead bulk.stamp.maker bulk.stamp.at bulk.rows 1 H draws.entries (ready-unnumbered bulk.stamp H ready)
            (seen-unnumbered bulk.stamp H ready 1 bulk.rows ∙ draws.accepted);
        same =
            ap (λ (d : Drawn). unmarked (H ++ d.group)) (sym draws.drawn_is) ∙ same-unmarked bulk.stamp H draws.entries;
        receipt = ap (λ (d : Drawn). d.receipt) (sym draws.drawn_is);
      };
  refused = λ H bulk n rule legal allowed refused.
      let ready : IsReady bulk.stamp H = is_ready H bulk legal allowed in
      let first = first-broken bulk.stamp.maker bulk.stamp.at bulk.rows 1 H (broken.Row n rule)
      (ready-unnumbered bulk.stamp H ready)
      (seen-unnumbered bulk.stamp H ready 1 bulk.rows ∙ refused-by_rows bulk.stamp H bulk.rows n rule refused) in
      record {
        before = first.before;
        row = first.row;
        after = first.after;
        rows = first.rows_are;
        number = same_number n (length first.before + 1) rule first.rule first.refusal_is;
        singly = first.singly;
        leads = first.leads;
        breaks = first.breaks ∙ ap (λ (r : Rule). Err r)
            (sym (same_rule n (length first.before + 1) rule first.rule first.refusal_is));
      };
}
  where
    is_ready : (H : History) (bulk : BulkCall) → Legal H → IsBulkAllowed H bulk → IsReady bulk.stamp H
    is_ready H bulk legal allowed =
        record {
          kept = legal_invariants H legal;
          registered = allowed.given.caller;
          bounds = given-bounded H bulk allowed.given;
        }

    same_number : (n k : ℕ) (rule first : Rule) → broken.Row n rule ≡ broken.Row k first → n ≡ k
    same_number n k rule first h = cc

    same_rule : (n k : ℕ) (rule first : Rule) → broken.Row n rule ≡ broken.Row k first → rule ≡ first
    same_rule n k rule first h = cc
