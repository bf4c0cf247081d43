-- SPDX-License-Identifier: Apache-2.0 OR MIT
-- What is accepted of a bulk: its caller may give one, and each row is accepted.
use Rattle.std.proofs.Common.{◌≡◌, List, length, refl, ap, ◌∙◌, None, Result, Ok, Err}
use Rattle.cr_base.specs.declared.bulk.Broken.{Broken}
use Rattle.cr_base.specs.declared.bulk.Broken.TheVariants as broken
use Rattle.cr_base.specs.declared.entry.Entry.{Entry}
use Rattle.cr_base.specs.declared.reply.Rule.{Rule}
use Rattle.cr_base.specs.Bulk.{Basis, rows_judged, bulk_checks, bulk_drawn, bulk_of_rows, bulk_behind, bulk_judged}
use Rattle.cr_base.specs.Calls.{BulkCall}
use Rattle.cr_base.specs.Checks.{judged}
use Rattle.cr_base.specs.Drawn.{Drawn}

pub err_ok : {A B : Type 0} (e : A) (x : B) → ◌≡◌ {A = Result B A} (Err e) (Ok x) → ⊥
err_ok e x h = cc (h)

pub ok_is : {A B : Type 0} (x y : B) → ◌≡◌ {A = Result B A} (Ok x) (Ok y) → x ≡ y
ok_is x y h = cc (h)

-- what is accepted of a bulk: its caller may give one, and each row is accepted
pub record Parts {S : Type 0} (basis : Basis S) (s : S) (bulk : BulkCall) (drawn : Drawn) : Type 0 where
  pub may : ◌≡◌ {A = Result (Unit {0}) Rule} (judged (bulk_checks ((basis.facts s).standing None)) tt) (Ok tt)
  pub entries : List Entry
  pub accepted : rows_judged basis bulk.stamp s 1 bulk.rows ≡ Ok entries
  pub drawn_is : bulk_drawn bulk.stamp (length bulk.rows) entries ≡ drawn

pub bulk-parts : {S : Type 0} (basis : Basis S) (s : S) (bulk : BulkCall) (drawn : Drawn)
    → bulk_judged basis s bulk ≡ Ok drawn
    → Parts basis s bulk drawn
bulk-parts {S} basis s bulk drawn accepted = by (judged (bulk_checks ((basis.facts s).standing None)) tt) refl accepted
  where
    all : (r : Result (List Entry) Broken) → rows_judged basis bulk.stamp s 1 bulk.rows ≡ r
        → bulk_of_rows bulk.stamp (length bulk.rows) r ≡ Ok drawn
        → ◌≡◌ {A = Result (Unit {0}) Rule} (judged (bulk_checks ((basis.facts s).standing None)) tt) (Ok tt)
        → Parts basis s bulk drawn
    all (Ok entries) is h may =
        record {
          may = may;
          entries = entries;
          accepted = is;
          drawn_is = ok_is (bulk_drawn bulk.stamp (length bulk.rows) entries) drawn h;
        }
    all (Err refusal) is h may = absurd (err_ok refusal drawn h)

    by : (r : Result (Unit {0}) Rule) → judged (bulk_checks ((basis.facts s).standing None)) tt ≡ r
        → bulk_behind basis s bulk r ≡ Ok drawn
        → Parts basis s bulk drawn
    by (Err rule) is h = absurd (err_ok (broken.Rule rule) drawn h)
    by (Ok done) is h = all (rows_judged basis bulk.stamp s 1 bulk.rows) refl h is

-- and a bulk of which that is so is accepted
pub parts-bulk : {S : Type 0} (basis : Basis S) (s : S) (bulk : BulkCall) (entries : List Entry)
    → ◌≡◌ {A = Result (Unit {0}) Rule} (judged (bulk_checks ((basis.facts s).standing None)) tt) (Ok tt)
    → rows_judged basis bulk.stamp s 1 bulk.rows ≡ Ok entries
    → bulk_judged basis s bulk ≡ Ok (bulk_drawn bulk.stamp (length bulk.rows) entries)
parts-bulk basis s bulk entries may accepted =
    ap (bulk_behind basis s bulk) may ∙ ap (bulk_of_rows bulk.stamp (length bulk.rows)) accepted
