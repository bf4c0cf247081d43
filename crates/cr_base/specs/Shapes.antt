-- SPDX-License-Identifier: Apache-2.0 OR MIT
-- What the fields of a row may have: ranges of numbers and grammars of bytes, which are the server's own
-- (docs/STORE.md).
use Rattle.std.specs.Prelude.{ℕ, Bool, ◌≡◌, ◌≤◌, ◌==◌, ◌&&◌, nat_le, List, [], length, Option, Some, None}
use Rattle.std.specs.Prelude.{IsTrue, IsFalse, if◌then◌else◌}
use Rattle.cr_base.specs.declared.shape.Gap.{Gap}
use Rattle.cr_base.specs.declared.shape.Range.{Range}
use Rattle.cr_base.specs.declared.shape.Shape.{Shape}
use Rattle.cr_base.specs.declared.shape.TextKind.{TextKind}
use Rattle.cr_base.specs.declared.shape.TextKind.TheVariants.{Nothing, Name, Digest, Title, Abstract}
use Rattle.cr_base.specs.declared.shape.TextKind.TheVariants.{Content, ReviewText, CommentText, Tag}
use Rattle.cr_base.specs.declared.entry.Stamp.{Stamp}
use Rattle.cr_base.specs.declared.retry.RetryKey.{RetryKey}
use Rattle.cr_base.specs.declared.row.Row.{Row}
use Rattle.cr_base.specs.Deadlines.{last_deadline}
use Rattle.cr_base.specs.Moments.{IsMoment}
use Rattle.cr_base.specs.Keys.{IsKeyOrNone}
use Rattle.cr_base.specs.TagTexts.{is_tag}
use Rattle.cr_base.specs.Texts.{IsName, IsTitle, IsAbstract, IsContent, IsReviewText, IsCommentText}

-- the numbers from the first to the second
abbrev pub range : ℕ → ℕ → Range
range low high = record { low = low; high = Some high; gap = None }

-- the numbers of users
abbrev pub user_range : Range
user_range = range 1 9999

-- the numbers of papers
abbrev pub paper_range : Range
paper_range = range 1 9999

-- setup to closed, and the response
abbrev pub phase_range : Range
phase_range = range 0 7

-- open, blind and anonymous
abbrev pub mode_range : Range
mode_range = range 0 2

-- off and on
abbrev pub bit : Range
bit = range 0 1

-- member and chair
abbrev pub role_range : Range
role_range = range 1 2

-- the numbers of a paper's versions, of a label's forms and of a paper's comments: from 1, with no greatest
abbrev pub version_range : Range
version_range = record { low = 1; high = None; gap = None }

-- bids, each plus 20: -20 to 20
abbrev pub bid_range : Range
bid_range = range 0 40

-- primary, secondary and pc
abbrev pub review_kind_range : Range
review_kind_range = range 1 3

-- the ordinals of labels: A to Z
abbrev pub ordinal_range : Range
ordinal_range = range 1 26

-- the ordinals of labels, and 0 for none
abbrev pub some_ordinal_range : Range
some_ordinal_range = range 0 26

-- scores and confidences
abbrev pub grade_range : Range
grade_range = range 1 5

-- accept and reject
abbrev pub decision_range : Range
decision_range = range 1 2

-- the numbers of phases that may have a deadline: submission to discussion, and the response, whose number comes after
-- those of notification and closed
abbrev pub deadline_phase_range : Range
deadline_phase_range = record { low = 1; high = Some 7; gap = Some (record { first = 5; last = 6 }) }

-- deadlines, and 0 for none
abbrev pub some_deadline_range : Range
some_deadline_range = range 0 last_deadline

-- an unused number is 0
abbrev pub unused : Range
unused = range 0 0

-- a shape with these ranges in the first three fields, and these grammars of the two texts
abbrev pub shape : Range → Range → Range → TextKind → TextKind → Shape
shape n1 n2 n3 b1 b2 = record { n1 = n1; n2 = n2; n3 = n3; n4 = unused; n5 = unused; b1 = b1; b2 = b2 }

-- the shape with these numbers in the fourth field
abbrev pub with_fourth : Range → Shape → Shape
with_fourth n4 s = record { n1 = s.n1; n2 = s.n2; n3 = s.n3; n4 = n4; n5 = s.n5; b1 = s.b1; b2 = s.b2 }

-- the shape with these numbers in the fifth field
abbrev pub with_fifth : Range → Shape → Shape
with_fifth n5 s = record { n1 = s.n1; n2 = s.n2; n3 = s.n3; n4 = s.n4; n5 = n5; b1 = s.b1; b2 = s.b2 }

-- the number is at most the greatest one, if there is one
abbrev pub IsAtMost : Option ℕ → ℕ → Type 0
IsAtMost None n = Unit {0}
IsAtMost (Some high) n = n ≤ high

-- it is between both ends of the range
abbrev pub IsWithin : Range → ℕ → Type 0
IsWithin r n = (r.low ≤ n) × IsAtMost r.high n

-- the number is in the gap
abbrev pub is_in_gap : Gap → ℕ → Bool
is_in_gap gap n = nat_le gap.first n && nat_le n gap.last

-- the number is in the range, and not in the gap, if there is one
abbrev pub IsWithinBut : Option Gap → Range → ℕ → Type 0
IsWithinBut None r n = IsWithin r n
IsWithinBut (Some gap) r n = IsWithin r n × IsFalse (is_in_gap gap n)

-- the number is in the range
abbrev pub InRange : Range → ℕ → Type 0
InRange r n = IsWithinBut r.gap r n

-- the bytes that a field may hold
abbrev pub HasText : TextKind → List ℕ → Type 0
HasText Nothing bytes = bytes ≡ []
HasText Name bytes = IsName bytes
HasText Digest bytes = length bytes ≡ 32
HasText Title bytes = IsTitle bytes
HasText Abstract bytes = IsAbstract bytes
HasText Content bytes = IsContent bytes
HasText ReviewText bytes = IsReviewText bytes
HasText CommentText bytes = IsCommentText bytes
HasText Tag bytes = IsTrue (is_tag bytes)

-- the key that a row's fields spell; `None` if the number is 0
abbrev pub key_in : ℕ → List ℕ → Option RetryKey
key_in num mark = if num == 0 then None else Some (record { number = num; mark = mark })

-- the stamp that a row's fields spell, and that its fields are as they may be in every kind
abbrev pub stamp_in : Row → Stamp
stamp_in r = record { maker = r.maker; at = r.at; key = key_in r.num r.mark }

-- a stamp is within its bounds
pub record FitsStamp (stamp : Stamp) : Type 0 where
  pub maker : InRange user_range stamp.maker
  pub at : IsMoment stamp.at
  pub key : IsKeyOrNone stamp.key

-- the row's fields are as the shape wants them
pub record FitsShape (s : Shape) (r : Row) : Type 0 where
  pub stamp : FitsStamp (stamp_in r)
  pub unmarked : r.num ≡ 0 → r.mark ≡ []
  pub more : r.more ≤ 1
  pub n1 : InRange s.n1 r.n1
  pub n2 : InRange s.n2 r.n2
  pub n3 : InRange s.n3 r.n3
  pub n4 : InRange s.n4 r.n4
  pub n5 : InRange s.n5 r.n5
  pub b1 : HasText s.b1 r.b1
  pub b2 : HasText s.b2 r.b2
