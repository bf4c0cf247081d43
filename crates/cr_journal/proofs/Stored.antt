-- SPDX-License-Identifier: Apache-2.0 OR MIT
-- The rows of a file that is a journal are those of its groups.
use Rattle.std.proofs.Common.{◌≡◌, ◌≢◌, ℕ, zero, suc, ◌≤◌, ◌+◌, List, [], ◌∷◌, ◌++◌, Bool, true, false, length, map}
use Rattle.std.proofs.Common.{◌==◌, Some, refl, sym, ap, ◌∙◌}
use Rattle.std.proofs.Common.{append_assoc, arith, length-append}
use Rattle.std.proofs.lemmas.List.Concat.{flat_map-cons}
use Rattle.std.proofs.lemmas.Bool.Decides.{Decides-eqb}
use Rattle.cr_base.specs.declared.row.Row.{Row}
use Rattle.cr_journal.specs.Grammar.{AreSized, FitGroups, FitsGroup, FitsRow, IsJournalOf, empty_journal, field, frames}
use Rattle.cr_journal.specs.Grammar.{magic, payload, row_text}
use Rattle.cr_journal.specs.Keeping.{Opens, rows_of}
use Rattle.cr_journal.specs.Reading.{row_at}
use Rattle.cr_journal.specs.Stored.{groups_at, rows_at, stored_rows}
use Rattle.cr_journal.proofs.Groups.{longer, some_text}
use Rattle.cr_journal.proofs.Numbers.{field_again}
use Rattle.cr_journal.proofs.RowLaws.{row_again}
use Rattle.cr_journal.proofs.Tails.{frames-cons}

row_first : (r : Row) (group : List Row)
    → ((size : ℕ) → length (payload group) ≤ size → rows_at (payload group) size ≡ Some group)
    → (bytes : List ℕ) (size : ℕ) → FitsRow r → bytes ≡ row_text r ++ payload group → length bytes ≤ size
    → rows_at bytes size ≡ Some (r ∷ group)
unfolding rows_at
row_first r group others [] size fits e le = some_text r (payload group) fits (sym e)
row_first r group others (b ∷ bytes) zero fits e le = absurd (omega (arith, le))
row_first r group others (b ∷ bytes) (suc size) fits e le =
    let less = longer r (payload group) in
    rw (ap row_at e ∙ row_again r (payload group) fits, others size (omega (arith, le, less, ap length e))) refl

rows_again : (group : List Row) (size : ℕ) → FitsGroup group → length (payload group) ≤ size
    → rows_at (payload group) size ≡ Some group
unfolding rows_at
rows_again [] size fits le = refl
rows_again (r ∷ group) size fits le =
    row_first r group (λ n few. rows_again group n fits.1 few) (payload (r ∷ group)) size fits.0
    (flat_map-cons row_text r group) le

not_open : (gate : ℕ) → gate ≢ 1 → (gate == 1) ≡ false
not_open gate shut = go (gate == 1) refl
  where
    go : (b : Bool) → (gate == 1) ≡ b → b ≡ false
    go true e = absurd (shut ((Decides-eqb gate 1).0 e))
    go false e = refl

groups_again : (groups : List (List Row)) (size gate : ℕ) (rest : List ℕ) → FitGroups groups
    → AreSized (map payload groups) → gate ≢ 1 → length groups ≤ size
    → groups_at (frames (map payload groups) ++ gate ∷ rest) size ≡ Some (rows_of groups)
unfolding groups_at
groups_again [] zero gate rest fit sized shut le = rw (not_open gate shut) refl
groups_again [] (suc size) gate rest fit sized shut le = rw (not_open gate shut) refl
groups_again (group ∷ groups) zero gate rest fit sized shut le = absurd (omega (arith, le))
groups_again (group ∷ groups) (suc size) gate rest fit sized shut le =
    ap (λ (bytes : List ℕ). groups_at bytes (suc size)) (frames-cons (payload group) (map payload groups) (gate ∷ rest))
    ∙ rw (
      field_again (payload group) (frames (map payload groups) ++ gate ∷ rest) sized.0,
      rows_again group (length (payload group)) fit.0 (omega arith),
      groups_again groups size gate rest fit.1 sized.1 shut (omega (arith, le)),
    ) refl

-- each group has a gate
frames_long : (groups : List (List Row)) → length groups ≤ length (frames (map payload groups))
frames_long [] = omega arith
frames_long (group ∷ groups) =
    omega (arith, frames_long groups, length-append (1 ∷ field (payload group)) (frames (map payload groups)))

pub stored_of : (groups : List (List Row)) (file : List ℕ) → IsJournalOf groups file
    → stored_rows file ≡ Some (rows_of groups)
stored_of groups file j =
    let payloads = map payload groups in
    let gate = j.journal.gate in
    let rest = j.journal.rest in
    let behind : List ℕ = frames payloads ++ gate ∷ rest in
    let others : List ℕ = 79 ∷ 78 ∷ 70 ∷ 68 ∷ 74 ∷ 48 ∷ 49 ∷ behind in
    let many : length groups ≤ length others =
    omega (arith, frames_long groups, length-append (frames payloads) (gate ∷ rest)) in
    ap stored_rows (j.journal.is ∙ append_assoc magic (frames payloads) (gate ∷ rest))
    ∙ groups_again groups (length others) gate rest j.fit j.journal.sized j.journal.shut many

pub stored_opens : (file : List ℕ) (rows : List Row) → Opens file rows → stored_rows file ≡ Some rows
stored_opens file rows o = stored_of o.groups file o.journal ∙ ap Some o.rows_are

-- what a file was opened to, which was made where it was empty
pub stored_opened : (groups : List (List Row)) (rows : List Row) (before now : List ℕ) → (before ≢ [] → now ≡ before)
    → (before ≡ [] → now ≡ empty_journal) → IsJournalOf groups now → rows_of groups ≡ rows
    → stored_rows before ≡ Some rows
unfolding groups_at
stored_opened groups rows [] now same made j are =
    sym (ap stored_rows (made refl)) ∙ stored_of groups now j ∙ ap Some are
stored_opened groups rows (b ∷ before) now same made j are =
    sym (ap stored_rows (same (λ none. absurd (cc none)))) ∙ stored_of groups now j ∙ ap Some are
