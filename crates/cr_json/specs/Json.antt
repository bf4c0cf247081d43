-- SPDX-License-Identifier: Apache-2.0 OR MIT
-- Lists and objects of JSON without blanks (RFC 8259, sections 4 and 5).
use Rattle.std.specs.Prelude.{◌≡◌, ℕ, List, [], ◌∷◌, ◌++◌, Bool, true, false, if◌then◌else◌}
use Rattle.std.specs.Prelude.{Option, Some, None, codes, decimal, map, nat_lt, Result, OnOk}
use Rattle.json.specs.Print.{quoted}
use Rattle.cr_anonymity.specs.Letters.{letter_of}
use Rattle.cr_base.specs.declared.words.Decision.{Decision}
use Rattle.cr_base.specs.declared.words.Kind.{Kind}
use Rattle.cr_base.specs.Words.{bid_size, decision_name, no_bid, review_kind_name}
use Rattle.cr_json.specs.Put.{Bytes}

-- ---- values

-- a JSON boolean
unfoldable pub truth_text : Bool → List ℕ
truth_text true = codes "true"
truth_text false = codes "false"

-- the sign of a number
unfoldable pub minus : Bool → List ℕ
minus is_negative = if is_negative then codes "-" else []

-- a bid, kept plus 20, as a JSON number
unfoldable pub bid_text : ℕ → List ℕ
bid_text raised = minus (nat_lt raised no_bid) ++ decimal (bid_size raised)

-- a label, by its letter
unfoldable pub label_text : ℕ → List ℕ
label_text ordinal = quoted (letter_of ordinal ∷ [])

-- a kind of assignment, by its word
abbrev pub review_kind_text : Kind → List ℕ
review_kind_text kind = quoted (review_kind_name kind)

-- a decision, by its word
abbrev pub decision_text : Decision → List ℕ
decision_text decision = quoted (decision_name decision)

-- what was decided last, which may be nothing
unfoldable pub decided_word : Option Decision → List ℕ
decided_word None = codes "none"
decided_word (Some decision) = decision_name decision

-- what was decided, or that nothing was, as a JSON string
abbrev pub decided_text : Option Decision → List ℕ
decided_text decision = quoted (decided_word decision)

-- ---- texts with commas

-- the comma before a text of a list, unless it is the first
unfoldable pub comma : Bool → List ℕ
comma is_first = if is_first then [] else codes ","

-- texts with a comma before each but the first of the list
abbrev pub separated : Bool → List (List ℕ) → List ℕ
separated is_first [] = []
separated is_first (text ∷ rest) = comma is_first ++ text ++ separated false rest

-- a JSON array of these values
unfoldable pub array_text : List (List ℕ) → List ℕ
array_text texts = codes "[" ++ separated true texts ++ codes "]"

-- names, or tags
abbrev pub names_text : List (List ℕ) → List ℕ
names_text names = array_text (map quoted names)

-- numbers
abbrev pub numbers_text : List ℕ → List ℕ
numbers_text numbers = array_text (map decimal numbers)

-- ---- objects

-- a key, which needs no escape, and the text of its value
pub record Member : Type 0 where
  pub key : List ℕ
  pub value : List ℕ

-- a member's key, and the colon after it
unfoldable pub key_text : List ℕ → List ℕ
key_text key = codes "\"" ++ key ++ codes "\":"

-- a member of a JSON object
unfoldable pub member_text : Member → List ℕ
member_text member = key_text member.key ++ member.value

-- a JSON object of these members
unfoldable pub object_text : List Member → List ℕ
object_text members = codes "{" ++ separated true (map member_text members) ++ codes "}"

-- a key that is there where its value is
abbrev pub member_of : List ℕ → Option (List ℕ) → List Member
member_of key None = []
member_of key (Some value) = record { key = key; value = value } ∷ []

-- an object that has only a list
unfoldable pub list_alone : List ℕ → List (List ℕ) → List ℕ
list_alone key texts = object_text (member_of key (Some (array_text texts)))

-- ---- an object that is being written

-- whether the next member, after these, is the first
abbrev pub still_first : Bool → List Member → Bool
still_first is_first [] = is_first
still_first is_first (member ∷ rest) = false

-- these members were written
pub record Added (old new : Bytes) (is_first is_first' : Bool) (members : List Member) : Type 0 where
  pub text : new.items ≡ old.items ++ separated is_first (map member_text members)
  pub first : is_first' ≡ still_first is_first members

-- these members were written, unless memory ran out
abbrev pub AddsMembers : {E : Type 0} → Result (Unit {0}) E → Bytes → Bytes → Bool → Bool → List Member → Type 0
AddsMembers r old new is_first is_first' members = OnOk r (Added old new is_first is_first' members)
