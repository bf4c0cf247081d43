-- SPDX-License-Identifier: Apache-2.0 OR MIT
-- Rows of records, one after another.
use Rattle.std.proofs.Common.{◌≡◌, ◌≢◌, ℕ, ◌≤◌, List, [], ◌∷◌, ◌++◌, length, length-append, Bool, true, false}
use Rattle.std.proofs.Common.{if◌then◌else◌, nat_le, Option, Some, None, refl, sym, ap, append_assoc, append-nil, arith}
use Rattle.std.specs.Prelude.{option_and_then, unwrap_or}
use Rattle.std.proofs.lemmas.Bool.Decides.{nat_tests}
use Rattle.csv.specs.Records.{field_at}
use Rattle.cr_base.specs.declared.bulk.BulkRow.{BulkRow}
use Rattle.cr_bulk.specs.Rows.{and_row, if_few, parse_row, rows_told}

-- ---- one row

-- a field by its column, empty where there is none
abbrev pub field_or : List (List ℕ) → ℕ → List ℕ
field_or fields column = unwrap_or (field_at fields column) []

pub four_fields : (fields : List (List ℕ)) → length fields ≡ 4
    → parse_row fields
    ≡ Some (record {
      paper = field_or fields 0;
      action = field_or fields 1;
      user = field_or fields 2;
      tag = field_or fields 3;
    })
unfolding field_at
four_fields [] e = cc e
four_fields (a ∷ []) e = cc e
four_fields (a ∷ b ∷ []) e = cc e
four_fields (a ∷ b ∷ c ∷ []) e = cc e
four_fields (a ∷ b ∷ c ∷ d ∷ []) e = refl
four_fields (a ∷ b ∷ c ∷ d ∷ f ∷ rest) e = absurd (omega (arith, e))

pub other_fields : (fields : List (List ℕ)) → length fields ≢ 4 → parse_row fields ≡ None
other_fields [] other = refl
other_fields (a ∷ []) other = refl
other_fields (a ∷ b ∷ []) other = refl
other_fields (a ∷ b ∷ c ∷ []) other = refl
other_fields (a ∷ b ∷ c ∷ d ∷ []) other = absurd (other refl)
other_fields (a ∷ b ∷ c ∷ d ∷ f ∷ rest) other = refl

-- ---- rows behind those that were read

-- these rows, and then those behind them
abbrev pub prepended : List BulkRow → Option (List BulkRow) → Option (List BulkRow)
prepended rows None = None
prepended rows (Some more) = Some (rows ++ more)

pub prepended-nil : (o : Option (List BulkRow)) → o ≡ prepended [] o
prepended-nil None = refl
prepended-nil (Some more) = refl

-- one more was read
pub row_more : (rows : List BulkRow) (fields : List (List ℕ)) (left : List (List (List ℕ))) (row : BulkRow)
    → parse_row fields ≡ Some row
    → prepended rows (rows_told (fields ∷ left)) ≡ prepended (rows ++ (row ∷ [])) (rows_told left)
row_more rows fields left row e = rw e (by (rows_told left))
  where
    by : (more : Option (List BulkRow)) → prepended rows (and_row (Some row) more) ≡ prepended (rows ++ (row ∷ [])) more
    by None = refl
    by (Some more) = ap (λ (all : List BulkRow). Some all) (sym (append_assoc rows (row ∷ []) more))

-- the next one isn't one
pub no_row : (rows : List BulkRow) (fields : List (List ℕ)) (left : List (List (List ℕ))) → parse_row fields ≡ None
    → option_and_then if_few (prepended rows (rows_told (fields ∷ left))) ≡ None
no_row rows fields left e = rw e refl

-- there is none behind these, which are few
pub all_rows : (rows : List BulkRow) → length rows ≤ 512
    → option_and_then if_few (prepended rows (rows_told [])) ≡ Some rows
all_rows rows few = by (nat_le (length (rows ++ [])) 512) refl
  where
    same : rows ++ [] ≡ rows
    same = append-nil rows

    by : (test : Bool) → nat_le (length (rows ++ [])) 512 ≡ test
        → (if test then Some (rows ++ []) else None) ≡ Some rows
    by true e = ap (λ (all : List BulkRow). Some all) same
    by false e = let bad : nat_le (length rows) 512 ≡ false =
        rw same at e in absurd (grind (arith, nat_tests, few, bad))

-- there is one more behind so many
pub one_too_many : (rows : List BulkRow) (fields : List (List ℕ)) (left : List (List (List ℕ))) → length rows ≡ 512
    → option_and_then if_few (prepended rows (rows_told (fields ∷ left))) ≡ None
one_too_many rows fields left many = by (parse_row fields) (rows_told left)
  where
    long : (row : BulkRow) (more : List BulkRow) (test : Bool) → nat_le (length (rows ++ (row ∷ more))) 512 ≡ test
        → (if test then Some (rows ++ (row ∷ more)) else None) ≡ None
    long row more true e =
        let count = length-append rows (row ∷ more) in
        absurd (grind (arith, nat_tests, count, many, e))
    long row more false e = refl

    by : (first : Option BulkRow) (more : Option (List BulkRow))
        → option_and_then if_few (prepended rows (and_row first more)) ≡ None
    by None more = refl
    by (Some row) None = refl
    by (Some row) (Some more) = long row more (nat_le (length (rows ++ (row ∷ more))) 512) refl
