-- SPDX-License-Identifier: Apache-2.0 OR MIT
-- What a read makes of what a reader has left.
use Rattle.std.proofs.Common.{◌≡◌, ℕ, ◌+◌, List, [], ◌∷◌, length, Bool, true, false, Option, Some, None, refl, ◌∙◌, inl}
use Rattle.std.specs.Prelude.{IsSome}
use Rattle.csv.proofs.ReadFacts.{rows-end, rows-more}
use Rattle.csv.specs.Machine.{Read}
use Rattle.csv.specs.Reading.{ReadRecord, Reached, default_config, is_flexible, reader_state, records_from, strip_bom}
use Rattle.csv.specs.Reading.{took_first}
use Rattle.csv.specs.declared.parser.State.TheVariants as st
use Rattle.cr_bulk.specs.Reading.{Finds, IsReading, Lent, bytes_left, left_of}
use Rattle.cr_bulk.specs.Rows.{records_of}
use Rattle.cr_bulk.proofs.Fuel.{no_more, one_more}

there : {A : Type 0} (o : Option A) → IsSome o → (x : A) × (o ≡ Some x)
there None h = cc h
there (Some x) h = (x, refl)

is_there : {A : Type 0} (o : Option A) (x : A) → o ≡ Some x → IsSome o
is_there None x e = cc e
is_there (Some y) x e = refl

left_as : (a : Lent) (bytes : List ℕ) → bytes_left a ≡ Some bytes
    → left_of a ≡ records_from default_config (length bytes + 1) a.state bytes
unfolding left_of
left_as a bytes e = rw e refl

-- what was left, by the record that was read and by what is left behind it
joined : (fields : List (List ℕ)) (p : Read) (b : Lent) (rest : List ℕ) (all : List (List (List ℕ)))
    → all ≡ p.0 ∷ records_from default_config (length p.2 + 1) p.1 p.2
    → fields ≡ p.0 → p.1 ≡ b.state → p.2 ≡ rest → left_of b ≡ records_from default_config (length rest + 1) b.state rest
    → all ≡ fields ∷ left_of b
joined fields p b rest all more same state rests left = rw (left, ← state, ← rests, same) more

-- a read that found a record
found_one : (a b : Lent) (fields : List (List ℕ)) → IsReading a → ReadRecord (λ s. Some s.now) a b true fields
    → took_first b ≡ true → is_flexible b ≡ is_flexible a
    → IsReading b × (left_of a ≡ fields ∷ left_of b)
unfolding Reached
found_one a b fields reading read first flexible =
    let (bytes, known) = there (bytes_left a) reading.known in
    let (rest, left, reached) = rows-more (λ s. Some s.now) a b fields default_config a.state bytes bytes []
    reading.config known (refl, refl) read in
    let (p, next, same, ends) = reached in
    let (state, rests) = ends in
    let (between, more) = one_more a.state bytes p reading.between next in
    let reads : IsReading b = record {
      trim = read.3 ∙ reading.trim;
      ready = inl first;
      config = read.2 ∙ reading.config;
      flexible = flexible ∙ reading.flexible;
      known = is_there (bytes_left b) rest left;
      between = rw state at between;
    } in
    (reads, joined fields p b rest (left_of a) (left_as a bytes known ∙ more) same state rests (left_as b rest left))

-- and one that found none
found_none : (a b : Lent) (fields : List (List ℕ)) → IsReading a → ReadRecord (λ s. Some s.now) a b false fields
    → left_of a ≡ []
found_none a b fields reading read =
    let (bytes, known) = there (bytes_left a) reading.known in
    left_as a bytes known ∙ no_more a.state bytes
    (rows-end (λ s. Some s.now) a b fields default_config bytes reading.config known read)

-- either
pub finds : (found : Bool) (a b : Lent) (fields : List (List ℕ)) → IsReading a
    → ReadRecord (λ s. Some s.now) a b found fields → took_first b ≡ true → is_flexible b ≡ is_flexible a
    → Finds found a b fields
finds true a b fields reading read first flexible = found_one a b fields reading read first flexible
finds false a b fields reading read first flexible = found_none a b fields reading read

-- a read that is known to have found one
pub was_found : (found : Bool) (a b : Lent) (fields : List (List ℕ)) → found ≡ true → Finds found a b fields
    → Finds true a b fields
was_found true a b fields e h = h
was_found false a b fields e h = cc e

-- all that a new reader has left
pub begun : (a : Lent) (text : List ℕ) → bytes_left a ≡ Some (strip_bom text) → reader_state a ≡ st.StartRecord
    → left_of a ≡ records_of text
unfolding left_of
begun a text bytes state = rw (state, bytes) refl
