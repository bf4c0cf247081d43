-- SPDX-License-Identifier: Apache-2.0 OR MIT
-- The terms of searches (the HotCRP manual's search keywords).
use Rattle.std.specs.Prelude.{ℕ, Bool, false, not, ◌&&◌, ◌==◌, nat_le, List, []}
use Rattle.std.specs.Prelude.{◌∷◌, length, codes, Option, Some, None, if◌then◌else◌}
use Rattle.std.specs.Option.{option_map}
use Rattle.std.specs.List.{list_all}
use Rattle.std.specs.Str.{bytes_eq}
use Rattle.cr_base.specs.Lists.{until, since}
use Rattle.cr_base.specs.TagTexts.{is_tag}
use Rattle.cr_base.specs.declared.search.Feature.{Feature}
use Rattle.cr_base.specs.declared.search.Feature.TheVariants as features
use Rattle.cr_base.specs.declared.search.Status.{Status}
use Rattle.cr_base.specs.declared.search.Status.TheVariants.{Active, Withdrawn, Accepted}
use Rattle.cr_base.specs.declared.search.Term.{Term}
use Rattle.cr_base.specs.declared.search.Term.TheVariants as terms
use Rattle.cr_base.specs.declared.words.Decision.{Decision}
use Rattle.cr_base.specs.declared.words.Decision.TheVariants.{Accept, Reject}

-- ---- words and quoted texts

-- a byte of a quoted text: no control character (none below U+0020, and not U+007F), and no quotation mark
abbrev pub is_quoted_byte : ℕ → Bool
is_quoted_byte b = nat_le 32 b && not (b == 127) && not (b == 34)

-- a byte of a word: one of a quoted text, and neither a space nor a parenthesis
abbrev pub is_word_byte : ℕ → Bool
is_word_byte b = is_quoted_byte b && not (b == 32) && not (b == 40) && not (b == 41)

-- a word: one or more such bytes
abbrev pub is_word : List ℕ → Bool
is_word text = nat_le 1 (length text) && list_all is_word_byte text

-- the text begins with this byte
abbrev pub begins_with : ℕ → List ℕ → Bool
begins_with byte [] = false
begins_with byte (b ∷ text) = b == byte

-- the bytes before the closing quotation mark, which ends the text; `None` if there is none, or not at the end
abbrev pub before_closing : List ℕ → Option (List ℕ)
before_closing [] = None
before_closing (b ∷ []) = if b == 34 then Some [] else None
before_closing (b ∷ text) = if is_quoted_byte b then option_map (λ inside. b ∷ inside) (before_closing text) else None

-- the bytes after the first
abbrev pub behind_first : List ℕ → List ℕ
behind_first [] = []
behind_first (b ∷ text) = text

-- the text between two quotation marks
abbrev pub quoted : List ℕ → Option (List ℕ)
quoted text = if begins_with 34 text then before_closing (behind_first text) else None

-- a value: a quoted text, or a word
abbrev pub term_value : List ℕ → Option (List ℕ)
term_value text = if begins_with 34 text then quoted text else (if is_word text then Some text else None)

-- ---- terms

-- the decision that a word asks for, or that none was made (`Some None`); `None` of any other word
abbrev pub decision_asked : List ℕ → Option (Option Decision)
decision_asked word =
    if bytes_eq word (codes "accept") then Some (Some Accept)
    else (if bytes_eq word (codes "reject") then Some (Some Reject)
    else (if bytes_eq word (codes "none") then Some None else None))

-- the status that a word asks for
abbrev pub status_asked : List ℕ → Option Status
status_asked word =
    if bytes_eq word (codes "active") then Some Active
    else (if bytes_eq word (codes "withdrawn") then Some Withdrawn
    else (if bytes_eq word (codes "accepted") then Some Accepted else None))

-- the feature that a word asks for
abbrev pub feature_asked : List ℕ → Option Feature
feature_asked word =
    if bytes_eq word (codes "content") then Some features.Content
    else (if bytes_eq word (codes "review") then Some features.Review
    else (if bytes_eq word (codes "comment") then Some features.Comment
    else (if bytes_eq word (codes "response") then Some features.Response
    else (if bytes_eq word (codes "decision") then Some features.Decision
    else (if bytes_eq word (codes "conflict") then Some features.Conflict
    else (if bytes_eq word (codes "mine") then Some features.Mine else None))))))

-- the term of a key and of the bytes after its colon
abbrev pub keyed : List ℕ → List ℕ → Option Term
keyed key value =
    if bytes_eq key (codes "ti") then option_map terms.Title (term_value value)
    else (if bytes_eq key (codes "ab") then option_map terms.Abstract (term_value value)
    else (if bytes_eq key (codes "au") then option_map terms.Author (term_value value)
    else (if bytes_eq key (codes "re") then option_map terms.Reviewer (term_value value)
    else (if bytes_eq key (codes "dec") then option_map terms.Decision (decision_asked value)
    else (if bytes_eq key (codes "status") then option_map terms.Status (status_asked value)
    else (if bytes_eq key (codes "has") then option_map terms.Has (feature_asked value)
    else None))))))

-- the word AND, in these letters
abbrev pub is_and : List ℕ → Bool
is_and word = bytes_eq word (codes "AND")

-- the word OR, in these letters
abbrev pub is_or : List ℕ → Bool
is_or word = bytes_eq word (codes "OR")

-- the word NOT, in these letters
abbrev pub is_not : List ℕ → Bool
is_not word = bytes_eq word (codes "NOT")

-- a plain text that is a word: not AND, OR or NOT, without a colon, and beginning neither with a dash nor as a tag does
abbrev pub is_plain : List ℕ → Bool
is_plain word =
    is_word word && not (begins_with 45 word) && not (begins_with 35 word)
    && not (is_and word) && not (is_or word) && not (is_not word)

-- the byte is a colon
abbrev pub is_colon : ℕ → Bool
is_colon b = b == 58

-- the text has a colon
abbrev pub has_colon : List ℕ → Bool
has_colon text = not (list_all (λ b. not (is_colon b)) text)

-- the term of a tag
abbrev pub tagged : List ℕ → Option Term
tagged tag = if is_tag tag then Some (terms.Tag tag) else None

-- the term of a chunk: a quoted text, a tag after a `#`, a key with its value, or a word; `None` if it is none of these
abbrev pub term_of : List ℕ → Option Term
term_of text =
    if begins_with 34 text then option_map terms.Plain (quoted text)
    else (if begins_with 35 text then tagged (behind_first text)
    else (if has_colon text then keyed (until is_colon text) (since is_colon text)
    else (if is_plain text then Some (terms.Plain text) else None)))
