-- SPDX-License-Identifier: Apache-2.0 OR MIT
-- PlanPosted: a plan's text spells the rows of its pairs.
use Rattle.std.proofs.Common.{ℕ, Bool, true, false, cond, ◌≡◌, ◌≤◌, ◌&&◌, List, [], ◌∷◌, ◌++◌, append_assoc, length}
use Rattle.std.proofs.Common.{map, refl, sym, ap, subst, ◌∙◌, arith, suc, Option, Some, None, Result, Ok, Err}
use Rattle.std.specs.Prelude.{codes, decimal, IsOk, nat_le, not, ◌==◌}
use Rattle.std.specs.Char.{is_ascii_digit}
use Rattle.std.specs.List.{AllByRecursion, flat_map, list_all, slice_index}
use Rattle.std.specs.Str.Parse.{digits_value}
use Rattle.std.proofs.lemmas.Bool.{and_parts}
use Rattle.std.proofs.lemmas.Bool.Decides.{nat_tests}
use Rattle.cr_base.specs.declared.bulk.BulkRow.{BulkRow}
use Rattle.cr_base.specs.declared.reply.Reply.{Reply}
use Rattle.cr_base.specs.declared.reply.Reply.TheVariants as replies
use Rattle.cr_base.specs.declared.reply.Rule.{Rule}
use Rattle.cr_base.specs.Answering.{plan_asked, reply_or_rule}
use Rattle.cr_base.specs.Calls.{bulk_by}
use Rattle.cr_base.specs.Checks.{Check, judged}
use Rattle.cr_base.specs.Parse.{is_paper_number, is_short, parse_paper}
use Rattle.cr_base.specs.Plans.{PlanPair, best_plan, pair_row, plan_header, plan_reply, plan_row, plan_text}
use Rattle.cr_base.specs.Sources.{Facts, Shown}
use Rattle.cr_base.specs.Texts.{is_name, is_name_byte}
use Rattle.cr_base.proofs.CheckLaws.{judged-Ok, judged-none}
use Rattle.cr_base.proofs.SpelledNumbers.{paper-spelt}
use Rattle.cr_policy.specs.Judge.{judge_bulk}
use Rattle.cr_policy.specs.View.{View, view}
use Rattle.cr_policy.specs.ViewFacts.{facts_in_view, shown_in_view}
use Rattle.cr_permissions.specs.PlansTaken.{row_of_pair}
use Rattle.cr_permissions.proofs.PlanTakenLaws.{IsSpelt, plan-spelt, plans-taken}
use Rattle.cr_bulk.specs.Rows.{parse_rows}
use Rattle.cr_bulk.proofs.PlainRows.{IsPlainRow, header, plain-of, plain-rows, plain-word, plain_row}
use Rattle.cr_bulk.proofs.PlainRows.{plain_rows}
use Rattle.cr_laws.specs.PlanPosted.{AreSpelt, PlanPosted}

-- ---- the row of a pair

digit : (b : ℕ) → is_ascii_digit b ≡ true → (45 ≤ b) × (b ≤ 122)
digit b h = grind (arith, nat_tests)

name-byte : (b : ℕ) → is_name_byte b ≡ true → (45 ≤ b) × (b ≤ 122)
name-byte b h = grind (arith, nat_tests)

digits : (text : List ℕ) (p : ℕ) → parse_paper text ≡ Some p → list_all is_ascii_digit text ≡ true
digits text p told =
    (and_parts (is_short text && not (slice_index text 0 == 48)) (list_all is_ascii_digit text)
    (by (is_paper_number text) told)).1
  where
    by : (b : Bool) → cond b (Some (digits_value 10 text)) None ≡ Some p → b ≡ true
    by true h = refl
    by false h = absurd (cc (h))

name-bytes : (text : List ℕ) → is_name text ≡ true → list_all is_name_byte text ≡ true
name-bytes text h = (and_parts (nat_le 1 (length text) && nat_le (length text) 32) (list_all is_name_byte text) h).1

plain-pair : (e : PlanPair) → (1 ≤ e.paper) × (e.paper ≤ 9999) × (is_name e.member.name ≡ true)
    → IsPlainRow (row_of_pair e)
plain-pair e h = record {
  paper =
      plain-of is_ascii_digit digit (decimal e.paper) (digits (decimal e.paper) e.paper (paper-spelt e.paper h.0 h.1));
  action = plain-word (codes "pcreview") refl;
  user = plain-of is_name_byte name-byte e.member.name (name-bytes e.member.name h.2);
  tag = tt;
}

plain-pairs : (plan : List PlanPair) → AllByRecursion
    (λ (e : PlanPair). (1 ≤ e.paper) × (e.paper ≤ 9999) × (is_name e.member.name ≡ true)) plan
    → AllByRecursion IsPlainRow (map row_of_pair plan)
plain-pairs [] h = tt
plain-pairs (e ∷ es) h = (plain-pair e h.0, plain-pairs es h.1)

-- ---- the text

pair-text : (e : PlanPair) → pair_row e ≡ plain_row (row_of_pair e)
unfolding plan_row
pair-text e =
    append_assoc (decimal e.paper ++ codes ",pcreview,") e.member.name (codes ",\n")
    ∙ append_assoc (decimal e.paper) (codes ",pcreview,") (e.member.name ++ codes ",\n")

pairs-text : (plan : List PlanPair) → flat_map pair_row plan ≡ plain_rows (map row_of_pair plan)
pairs-text [] = refl
pairs-text (e ∷ es) = let here = pair-text e in let rest = pairs-text es in λ i. here i ++ rest i

header-text : plan_header ≡ plain_row header
unfolding plan_header
header-text = refl

whole-text : (plan : List PlanPair) → plan_text plan ≡ plain_rows (header ∷ map row_of_pair plan)
whole-text plan = let rest = pairs-text plan in λ i. header-text i ++ rest i

row-count : (plan : List PlanPair) → length (map row_of_pair plan) ≡ length plan
row-count [] = refl
row-count (e ∷ es) = ap suc (row-count es)

spelt : (plan : List PlanPair) → IsSpelt plan → parse_rows (plan_text plan) ≡ Some (map row_of_pair plan)
spelt plan of =
    ap parse_rows (whole-text plan)
    ∙ plain-rows (map row_of_pair plan) (plain-pairs plan of.pairs)
    (subst (λ (n : ℕ). n ≤ 512) (sym (row-count plan)) of.few)

-- ---- what is told

-- no rule is broken where it isn't a rule that is told
no-rule : (checks : List Check) (r : Reply) (text : List ℕ) → reply_or_rule (judged checks r) ≡ replies.Report text
    → judged checks r ≡ Ok (replies.Report text)
no-rule checks r text told = by (judged checks r) told
  where
    by : (o : Result Reply Rule) → reply_or_rule o ≡ replies.Report text → o ≡ Ok (replies.Report text)
    by (Ok reply) h = ap Ok h
    by (Err rule) h = absurd (cc (h))

-- and a text is told of a plan alone
of-plan : (best : Option (List PlanPair)) (text : List ℕ) → plan_reply best ≡ replies.Report text
    → (plan : List PlanPair) × (best ≡ Some plan) × (plan_text plan ≡ text)
of-plan None text h = absurd (cc (h))
of-plan (Some plan) text h = let same : plan_text plan ≡ text = cc (h) in (plan, refl, same)

pub plan-posted : PlanPosted
plan-posted user at key H per_paper load text legal registered moment fits told =
    let parts = judged-Ok checks reply (replies.Report text) (no-rule checks reply text told) in
    let (plan, best, same) = of-plan (best_plan facts shown per_paper load) text parts.1 in
    let may : IsOk (judged checks (tt {0})) =
    subst (λ (r : Result (Unit {0}) Rule). IsOk r) (sym (judged-none checks (tt {0}) parts.0)) refl in
    subst (λ (o : Option (List BulkRow)). AreSpelt o taken)
    (sym (ap parse_rows (sym same) ∙ spelt plan (plan-spelt user per_paper load H plan legal may best)))
    (plans-taken user at key H per_paper load plan legal registered moment fits may best)
  where
    V : View
    V = view (Some user) H

    facts : Facts
    facts = facts_in_view (Some user) V

    shown : Shown
    shown = shown_in_view (Some user) V

    checks : List Check
    checks = plan_asked facts shown per_paper

    reply : Reply
    reply = plan_reply (best_plan facts shown per_paper load)

    taken : List BulkRow → Type 0
    taken rows = IsOk (judge_bulk V (bulk_by user at key rows))
