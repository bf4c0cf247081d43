-- SPDX-License-Identifier: Apache-2.0 OR MIT
-- Rows that are written as they stand, with no quotes, are the rows that their text spells: `csv` reads what its
-- default writer writes.
use Rattle.std.proofs.Common.{◌≡◌, ℕ, zero, suc, ◌+◌, ◌<◌, ◌≤◌, List, [], ◌∷◌, ◌++◌, append_assoc, length, map, Bool}
use Rattle.std.proofs.Common.{true, false, Some, None, refl, ap, subst, ◌∙◌, arith}
use Rattle.std.specs.Prelude.{codes, nat_le, option_and_then, if◌then◌else◌}
use Rattle.std.specs.List.{AllByRecursion, flat_map, list_all, list_any}
use Rattle.std.specs.Char.{is_ascii_lowercase}
use Rattle.std.specs.Str.{IsAscii}
use Rattle.std.proofs.lemmas.Bool.{and_parts}
use Rattle.std.proofs.lemmas.Bool.Decides.{nat_tests}
use Rattle.std.proofs.lemmas.Str.{IsUtf8-from_ascii, is_utf8-from_IsUtf8}
use Rattle.csv.specs.Machine.{next_record}
use Rattle.csv.specs.Reading.{default_config, records_from, strip_bom}
use Rattle.csv.specs.Writing.{default_writer, field_text, fields_text, is_blank, needs_byte, quoted, row_text}
use Rattle.csv.specs.declared.parser.State.TheVariants as st
use Rattle.csv.proofs.RoundTrip.{read-write}
use Rattle.cr_base.specs.declared.bulk.BulkRow.{BulkRow}
use Rattle.cr_bulk.specs.Rows.{and_row, if_few, parse_rows, records_of, rows_told, rows_under}
use Rattle.cr_bulk.proofs.Fuel.{no_more, one_more}

-- ---- what is written as it stands

-- each byte is one from '-' to 'z', so none that a comma-separated file reads otherwise
abbrev pub IsPlain : List ℕ → Type 0
IsPlain [] = Unit {0}
IsPlain (b ∷ rest) = (45 ≤ b) × (b ≤ 122) × IsPlain rest

-- it is so where each passes a test that such bytes alone pass
pub plain-of : (test : ℕ → Bool) → ((b : ℕ) → test b ≡ true → (45 ≤ b) × (b ≤ 122)) → (text : List ℕ)
    → list_all test text ≡ true → IsPlain text
plain-of test range [] h = tt
plain-of test range (b ∷ rest) h =
    let parts = and_parts (test b) (list_all test rest) h in
    let here = range b parts.0 in
    (here.0, here.1, plain-of test range rest parts.1)

lowercase : (b : ℕ) → is_ascii_lowercase b ≡ true → (45 ≤ b) × (b ≤ 122)
lowercase b h = grind (arith, nat_tests)

-- as of words
pub plain-word : (text : List ℕ) → list_all is_ascii_lowercase text ≡ true → IsPlain text
plain-word text h = plain-of is_ascii_lowercase lowercase text h

pub record IsPlainRow (row : BulkRow) : Type 0 where
  pub paper : IsPlain row.paper
  pub action : IsPlain row.action
  pub user : IsPlain row.user
  pub tag : IsPlain row.tag

abbrev pub plain_row : BulkRow → List ℕ
plain_row row = row.paper ++ (44 ∷ (row.action ++ (44 ∷ (row.user ++ (44 ∷ (row.tag ++ (10 ∷ [])))))))

abbrev pub plain_rows : List BulkRow → List ℕ
plain_rows rows = flat_map plain_row rows

-- ---- it is ASCII

abbrev Low : List ℕ → Type 0
Low text = AllByRecursion (λ (b : ℕ). b < 128) text

low-plain : (text : List ℕ) → IsPlain text → Low text
low-plain [] h = tt
low-plain (b ∷ rest) h = (omega (arith, h.1), low-plain rest h.2)

low-append : (xs ys : List ℕ) → Low xs → Low ys → Low (xs ++ ys)
low-append [] ys hx hy = hy
low-append (b ∷ xs) ys hx hy = (hx.0, low-append xs ys hx.1 hy)

low-more : (b : ℕ) (xs : List ℕ) → b < 128 → Low xs → Low (b ∷ xs)
low-more b xs low h = (low, h)

low-row : (row : BulkRow) → IsPlainRow row → Low (plain_row row)
low-row row h =
    low-append row.paper _ (low-plain row.paper h.paper) (low-more 44 _ (omega arith)
    (low-append row.action _ (low-plain row.action h.action) (low-more 44 _ (omega arith)
    (low-append row.user _ (low-plain row.user h.user) (low-more 44 _ (omega arith)
    (low-append row.tag (10 ∷ []) (low-plain row.tag h.tag) (low-more 10 [] (omega arith) tt)))))))

low-rows : (rows : List BulkRow) → AllByRecursion IsPlainRow rows → Low (plain_rows rows)
low-rows [] h = tt
low-rows (row ∷ rows) h = low-append (plain_row row) (plain_rows rows) (low-row row h.0) (low-rows rows h.1)

ascii : (text : List ℕ) → Low text → IsAscii text
ascii [] h i = omega arith
ascii (b ∷ rest) h zero = h.0
ascii (b ∷ rest) h (suc i) = ascii rest h.1 i

-- ---- the default writer writes it

plain-byte : (b : ℕ) → 45 ≤ b → b ≤ 122 → needs_byte default_writer b ≡ false
plain-byte b low high = grind (arith, nat_tests)

plain-field : (text : List ℕ) → IsPlain text → field_text default_writer text ≡ text
plain-field text h = ap (λ (b : Bool). if b then quoted default_writer text else text) (none text h)
  where
    none : (x : List ℕ) → IsPlain x → list_any (needs_byte default_writer) x ≡ false
    none [] k = refl
    none (b ∷ rest) k = rw (plain-byte b k.0 k.1) (none rest k.2)

-- the fields of a row
abbrev fields_of : BulkRow → List (List ℕ)
fields_of row = row.paper ∷ row.action ∷ row.user ∷ row.tag ∷ []

-- what ends a record stands behind its last field
at-end : (p a u t : List ℕ)
    → (p ++ (44 ∷ (a ++ (44 ∷ (u ++ (44 ∷ (t ++ []))))))) ++ (10 ∷ []) ≡ p
    ++ (44 ∷ (a ++ (44 ∷ (u ++ (44 ∷ (t ++ (10 ∷ [])))))))
at-end p a u t =
    append_assoc p (44 ∷ (a ++ (44 ∷ (u ++ (44 ∷ (t ++ [])))))) (10 ∷ [])
    ∙ ap (λ (l : List ℕ). p ++ (44 ∷ l))
    (append_assoc a (44 ∷ (u ++ (44 ∷ (t ++ [])))) (10 ∷ [])
    ∙ ap (λ (l : List ℕ). a ++ (44 ∷ l))
    (append_assoc u (44 ∷ (t ++ [])) (10 ∷ []) ∙ ap (λ (l : List ℕ). u ++ (44 ∷ l)) (append_assoc t [] (10 ∷ []))))

written : (row : BulkRow) → IsPlainRow row → row_text default_writer (fields_of row) ≡ plain_row row
unfolding is_blank fields_text
written row h =
    let paper = plain-field row.paper h.paper in
    let action = plain-field row.action h.action in
    let user = plain-field row.user h.user in
    let tag = plain-field row.tag h.tag in
    (λ i. (paper i ++ (44 ∷ (action i ++ (44 ∷ (user i ++ (44 ∷ (tag i ++ []))))))) ++ (10 ∷ []))
    ∙ at-end row.paper row.action row.user row.tag

-- ---- the default reader reads it back

read-rows : (rows : List BulkRow) → AllByRecursion IsPlainRow rows
    → records_from default_config (length (plain_rows rows) + 1) st.StartRecord (plain_rows rows) ≡ map fields_of rows
unfolding next_record
read-rows [] h = no_more st.StartRecord [] nothing
  where
    nothing : next_record default_config st.StartRecord [] [] [] ≡ None
    nothing = refl
read-rows (row ∷ rows) h =
    let more : List ℕ = plain_rows rows in
    let next =
    subst (λ (l : List ℕ). next_record default_config st.StartRecord [] [] (l ++ more)
    ≡ Some (fields_of row, st.StartRecord, more)) (written row h.0)
    (read-write (fields_of row) more) in
    (one_more st.StartRecord (plain_row row ++ more) (fields_of row, st.StartRecord, more) refl next).1
    ∙ ap (λ (records : List (List (List ℕ))). fields_of row ∷ records) (read-rows rows h.1)

told-rows : (rows : List BulkRow) → rows_told (map fields_of rows) ≡ Some rows
told-rows [] = refl
told-rows (row ∷ rows) = ap (and_row (Some row)) (told-rows rows)

-- ---- the file

-- the row of the columns' names
abbrev pub header : BulkRow
header = record { paper = codes "paper"; action = codes "action"; user = codes "user"; tag = codes "tag" }

header-plain : IsPlainRow header
header-plain = record {
  paper = plain-word (codes "paper") refl;
  action = plain-word (codes "action") refl;
  user = plain-word (codes "user") refl;
  tag = plain-word (codes "tag") refl;
}

-- the text of the header and of these rows spells them
pub plain-rows : (rows : List BulkRow) → AllByRecursion IsPlainRow rows → length rows ≤ 512
    → parse_rows (plain_rows (header ∷ rows)) ≡ Some rows
unfolding parse_rows strip_bom
plain-rows rows h few =
    let text : List ℕ = plain_rows (header ∷ rows) in
    let utf8 =
    is_utf8-from_IsUtf8 text (IsUtf8-from_ascii text (ascii text (low-rows (header ∷ rows) (header-plain, h)))) in
    ap (λ (b : Bool). if b then rows_under (records_of text) else None) utf8
    ∙ ap rows_under (read-rows (header ∷ rows) (header-plain, h))
    ∙ ap (option_and_then if_few) (told-rows rows)
    ∙ ap (λ (b : Bool). if b then Some rows else None) (within (length rows) few)
  where
    within : (n : ℕ) → n ≤ 512 → nat_le n 512 ≡ true
    within n few = grind (arith, nat_tests)
