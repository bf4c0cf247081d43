-- SPDX-License-Identifier: Apache-2.0 OR MIT
-- The lines of a view: an object of JSON (RFC 8259, section 4), with no spaces, and a line feed for each sighting.
use Rattle.std.specs.Prelude.{ℕ, List, ◌++◌, length, Option, Some, None, unwrap_or, codes, decimal}
use Rattle.std.specs.List.{flat_map}
use Rattle.std.specs.Option.{option_map}
use Rattle.hex.specs.Hex.{encode_lower}
use Rattle.json.specs.Print.{quoted}
use Rattle.cr_base.specs.declared.entry.EntryKind.{EntryKind}
use Rattle.cr_base.specs.declared.entry.EntryKind.TheVariants as kinds
use Rattle.cr_base.specs.declared.retry.RetryKey.{RetryKey}
use Rattle.cr_base.specs.declared.words.Phase.{Phase}
use Rattle.cr_base.specs.declared.words.Mode.{Mode}
use Rattle.cr_base.specs.declared.words.Role.{Role}
use Rattle.cr_base.specs.Page.{where_told}
use Rattle.cr_base.specs.Rows.{kind_name}
use Rattle.cr_base.specs.Words.{mode_name, phase_name, role_name}
use Rattle.cr_policy.specs.Sighting.{Sighting}
use Rattle.cr_policy.specs.View.{View}
use Rattle.cr_json.specs.Json.{Member, bid_text, decision_text, member_of, object_text, review_kind_text, truth_text}

-- ---- the values of members, where names and texts are strings, and numbers and moments, which are seconds, decimal

-- a digest in lower-case hexadecimal digits
abbrev pub digest_text : List ℕ → List ℕ
digest_text digest = quoted (encode_lower digest)

-- a content by its length in bytes
abbrev pub content_text : List ℕ → List ℕ
content_text content = decimal (length content)

-- a deadline in seconds, 0 if there is none any more
abbrev pub until_decimal : Option ℕ → List ℕ
until_decimal until = decimal (unwrap_or until 0)

-- the number that the client gave the command, if it is shown and there is one; no line tells the mark
abbrev pub number_told : Option (Option RetryKey) → Option ℕ
number_told key = option_map (λ (k : RetryKey). k.number) (unwrap_or key None)

-- a phase as a JSON string
abbrev pub phase_text : Phase → List ℕ
phase_text phase = quoted (phase_name phase)

-- a mode as a JSON string
abbrev pub mode_text : Mode → List ℕ
mode_text mode = quoted (mode_name mode)

-- a role as a JSON string
abbrev pub role_text : Role → List ℕ
role_text role = quoted (role_name role)

-- ---- the users of an entry

-- the user whom an entry is about; of a bid the user who made it
abbrev pub user_told : EntryKind → Option ℕ → Option ℕ → Option ℕ
user_told kinds.Bid by user = by
user_told kind by user = user

-- who wrote a comment
abbrev pub writer_told : EntryKind → Option ℕ → Option ℕ
writer_told kinds.Commented by = by
writer_told kind by = None

-- the user who made an entry, except of a bid and a comment, which `user_told` and `writer_told` tell
abbrev pub by_told : EntryKind → Option ℕ → Option ℕ
by_told kinds.Bid by = None
by_told kinds.Commented by = None
by_told kind by = by

-- ---- a line

-- the first members of a line, from `abstract` to `bytes`. A line has the parts that are shown, and the mark `mine` if
-- the entry is the reader's own, in the order of their keys' bytes.
unfoldable pub first_members : Sighting → List Member
first_members s =
    member_of (codes "abstract") (option_map quoted s.abstract)
    ++ member_of (codes "accepted") (option_map truth_text s.accepted)
    ++ member_of (codes "at") (option_map decimal s.at)
    ++ member_of (codes "by") (option_map decimal (by_told s.kind s.by))
    ++ member_of (codes "bytes") (option_map content_text s.content)

-- the members of a line from `confidence` to `kind`
unfoldable pub second_members : Sighting → List Member
second_members s =
    member_of (codes "confidence") (option_map decimal s.confidence)
    ++ member_of (codes "decision") (option_map decision_text s.decision)
    ++ member_of (codes "digest") (option_map digest_text s.digest)
    ++ member_of (codes "done") (option_map truth_text s.done)
    ++ member_of (codes "kind") (Some (quoted (kind_name s.kind)))

-- the members of a line from `mine` to `on`
unfoldable pub third_members : Sighting → List Member
third_members s =
    member_of (codes "mine") (where_told s.mine (Some (codes "true")))
    ++ member_of (codes "mode") (option_map mode_text s.mode)
    ++ member_of (codes "n") (option_map decimal s.n)
    ++ member_of (codes "name") (option_map quoted s.name)
    ++ member_of (codes "num") (option_map decimal (number_told s.key))
    ++ member_of (codes "on") (option_map truth_text s.on)

-- the members of a line from `ordinal` to `role`
unfoldable pub fourth_members : Sighting → List Member
fourth_members s =
    member_of (codes "ordinal") (option_map decimal s.ordinal)
    ++ member_of (codes "outcome") (option_map truth_text s.outcome)
    ++ member_of (codes "paper") (option_map decimal s.paper)
    ++ member_of (codes "phase") (option_map phase_text s.phase)
    ++ member_of (codes "role") (option_map role_text s.role)

-- the members of a line from `score` to `to_authors`
unfoldable pub fifth_members : Sighting → List Member
fifth_members s =
    member_of (codes "score") (option_map decimal s.score)
    ++ member_of (codes "seat") (option_map review_kind_text s.review_kind)
    ++ member_of (codes "tag") (option_map quoted s.tag)
    ++ member_of (codes "text") (option_map quoted s.text)
    ++ member_of (codes "title") (option_map quoted s.title)
    ++ member_of (codes "to_authors") (option_map quoted s.to_authors)

-- the members of a line from `to_pc` to `writer`
unfoldable pub last_members : Sighting → List Member
last_members s =
    member_of (codes "to_pc") (option_map quoted s.to_pc)
    ++ member_of (codes "until") (option_map until_decimal s.until)
    ++ member_of (codes "user") (option_map decimal (user_told s.kind s.by s.user))
    ++ member_of (codes "value") (option_map bid_text s.value)
    ++ member_of (codes "version") (option_map decimal s.version)
    ++ member_of (codes "writer") (option_map decimal (writer_told s.kind s.by))

-- all members of a line
abbrev pub sighting_members : Sighting → List Member
sighting_members s =
    first_members s ++ second_members s ++ third_members s ++ fourth_members s ++ fifth_members s ++ last_members s

-- the line of a sighting
unfoldable pub line_text : Sighting → List ℕ
line_text s = object_text (sighting_members s) ++ codes "\n"

-- the lines of the sightings, in order
abbrev pub lines_text : View → List ℕ
lines_text sightings = flat_map line_text sightings
