-- SPDX-License-Identifier: Apache-2.0 OR MIT
-- What a member of a JSON object says, by its key and the kind of its value.
use Rattle.std.specs.Prelude.{ℕ, ℤ, List, [], ◌∷◌, length, Bool, IsTrue, nat_le}
use Rattle.std.specs.Prelude.{Option, Some, None, option_map, if◌then◌else◌}
use Rattle.sha2.specs.Sha256.{sha256}
use Rattle.serde_json.specs.Data.{Data, Items, no_items, item}
use Rattle.serde_json.specs.Find.{get, as_array, as_bool, as_i64, as_number, as_str}
use Rattle.cr_base.specs.declared.words.Decision.{Decision}
use Rattle.cr_base.specs.declared.words.Kind.{Kind}
use Rattle.cr_base.specs.declared.words.Mode.{Mode}
use Rattle.cr_base.specs.declared.words.Phase.{Phase}
use Rattle.cr_base.specs.declared.words.Role.{Role}
use Rattle.cr_base.specs.Parse.{passing, parse_name}
use Rattle.cr_base.specs.Texts.{IsAbstract, IsCommentText, IsName, IsReviewText, IsTitle}
use Rattle.cr_base.specs.Texts.{is_abstract, is_comment_text, is_name, is_review_text, is_title}
use Rattle.cr_base.specs.Words.{bid_of_value, decision_named, grade_of_value}
use Rattle.cr_base.specs.Words.{mode_named, phase_named, role_named, review_kind_named}
use Rattle.cr_bodies.specs.Secret.{is_secret}
use Rattle.cr_bodies.specs.declared.field.Grammar.{Grammar}
use Rattle.cr_bodies.specs.declared.field.Grammar.TheVariants.{Name, Secret, Title, Abstract, ReviewText, CommentText}

-- what follows from a value that is there
infixl 10 ◌>>=◌
abbrev pub ◌>>=◌ : {A B : Type 0} → Option A → (A → Option B) → Option B
None >>= f = None
(Some x) >>= f = f x

-- the text is of this grammar
abbrev pub admits : Grammar → List ℕ → Bool
admits Name text = is_name text
admits Secret text = is_secret text
admits Title text = is_title text
admits Abstract text = is_abstract text
admits ReviewText text = is_review_text text
admits CommentText text = is_comment_text text

-- the text is of this grammar
abbrev pub IsOf : Grammar → List ℕ → Type 0
IsOf Name text = IsName text
IsOf Secret text = IsTrue (is_secret text)
IsOf Title text = IsTitle text
IsOf Abstract text = IsAbstract text
IsOf ReviewText text = IsReviewText text
IsOf CommentText text = IsCommentText text

-- the text under a key
abbrev pub text_under : List ℕ → Data → Option (List ℕ)
text_under key d = get key d >>= as_str

-- the text under a key, where it is of a grammar
abbrev pub tested_under : Grammar → List ℕ → Data → Option (List ℕ)
tested_under grammar key d = text_under key d >>= passing (admits grammar)

-- the name under a key
abbrev pub name_under : List ℕ → Data → Option (List ℕ)
name_under key d = tested_under Name key d

-- the title under a key
abbrev pub title_under : List ℕ → Data → Option (List ℕ)
title_under key d = tested_under Title key d

-- the abstract under a key
abbrev pub abstract_under : List ℕ → Data → Option (List ℕ)
abstract_under key d = tested_under Abstract key d

-- the text of a form under a key
abbrev pub review_text_under : List ℕ → Data → Option (List ℕ)
review_text_under key d = tested_under ReviewText key d

-- the text of a comment or a response under a key
abbrev pub comment_under : List ℕ → Data → Option (List ℕ)
comment_under key d = tested_under CommentText key d

-- the digest of the secret under a key
abbrev pub digest_under : List ℕ → Data → Option (List ℕ)
digest_under key d = option_map sha256 (tested_under Secret key d)

-- the user whose name is told under a key, None where the text there is no name
abbrev pub user_under : List ℕ → Data → Option (Option (List ℕ))
user_under key d = option_map parse_name (text_under key d)

-- the names that a list tells, each None where its text is no name; None where an element is no text
abbrev pub names_told : Items → Option (List (Option (List ℕ)))
names_told no_items = Some []
names_told (item d ds) = do
  text ← as_str d
  names ← names_told ds
  Some (parse_name text ∷ names)

-- at most 19 of them
abbrev pub if_few : List (Option (List ℕ)) → Option (List (Option (List ℕ)))
if_few names = if nat_le (length names) 19 then Some names else None

-- the names of what may be there: none where it isn't
abbrev pub names_of : Option Data → Option (List (Option (List ℕ)))
names_of None = Some []
names_of (Some d) = as_array d >>= names_told >>= if_few

-- the names that the list under a key tells, at most 19; none where the key isn't there
abbrev pub names_under : List ℕ → Data → Option (List (Option (List ℕ)))
names_under key d = names_of (get key d)

-- what is true or false under a key
abbrev pub flag_under : List ℕ → Data → Option Bool
flag_under key d = get key d >>= as_bool

-- the whole number under a key: one that is written without a fraction and without an exponent, and isn't -0
abbrev pub integer_under : List ℕ → Data → Option ℤ
integer_under key d = get key d >>= as_number >>= as_i64

-- the bid under a key: a whole number from -20 to 20
abbrev pub bid_under : List ℕ → Data → Option ℕ
bid_under key d = integer_under key d >>= bid_of_value

-- the score or the confidence under a key: a whole number from 1 to 5
abbrev pub grade_under : List ℕ → Data → Option ℕ
grade_under key d = integer_under key d >>= grade_of_value

-- the phase whose word is under a key
abbrev pub phase_under : List ℕ → Data → Option Phase
phase_under key d = text_under key d >>= phase_named

-- the mode whose word is under a key
abbrev pub mode_under : List ℕ → Data → Option Mode
mode_under key d = text_under key d >>= mode_named

-- the kind of reviewer whose word is under a key
abbrev pub kind_under : List ℕ → Data → Option Kind
kind_under key d = text_under key d >>= review_kind_named

-- the decision whose word is under a key
abbrev pub decision_under : List ℕ → Data → Option Decision
decision_under key d = text_under key d >>= decision_named

-- the role whose word is under a key, of those to which a user may be appointed
abbrev pub role_under : List ℕ → Data → Option Role
role_under key d = text_under key d >>= role_named
