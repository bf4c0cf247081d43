-- SPDX-License-Identifier: Apache-2.0 OR MIT
-- The row of each entry, and the entry of a row, kind by kind. Numbers and fields are the server's own
-- (docs/STORE.md).
use Rattle.std.specs.Prelude.{ℕ, Bool, ◌==◌, ◌+◌, List, [], codes, Option, Some, None, if◌then◌else◌, map}
use Rattle.cr_base.specs.declared.entry.EntryKind.{EntryKind}
use Rattle.cr_base.specs.declared.entry.EntryKind.TheVariants as kind
use Rattle.cr_base.specs.declared.entry.Entry.{Entry}
use Rattle.cr_base.specs.declared.entry.Entry.TheVariants.{Registered, Named, PhaseSet, ModeSet, Submitted}
use Rattle.cr_base.specs.declared.entry.Entry.TheVariants.{Coauthor, Revised, Uploaded, Withdrawn, Conflict}
use Rattle.cr_base.specs.declared.entry.Entry.TheVariants.{Bid, Assigned, Unassigned, Reviewed}
use Rattle.cr_base.specs.declared.entry.Entry.TheVariants.{Commented, Tagged, Decided, DeadlineSet}
use Rattle.cr_base.specs.declared.entry.Entry.TheVariants.{Dismissed, Invited, Uninvited, Responded}
use Rattle.cr_base.specs.declared.entry.Stamped.{Stamped}
use Rattle.cr_base.specs.declared.retry.RetryKey.{RetryKey}
use Rattle.cr_base.specs.declared.row.OldVersion.{OldVersion}
use Rattle.cr_base.specs.declared.row.OldVersion.TheVariants.{First, Second}
use Rattle.cr_base.specs.declared.row.Row.{Row}
use Rattle.std.specs.Option.{option_map}
use Rattle.cr_base.specs.Keys.{last_command_number}
use Rattle.cr_base.specs.Words.{phase_number, phase_numbered, mode_number, mode_numbered, role_number, role_numbered}
use Rattle.cr_base.specs.Words.{review_kind_number, review_kind_numbered, decision_number, decision_numbered}
use Rattle.cr_base.specs.declared.shape.Shape.{Shape}
use Rattle.cr_base.specs.declared.words.Decision.{Decision}
use Rattle.cr_base.specs.declared.words.Kind.{Kind}
use Rattle.cr_base.specs.declared.words.Mode.{Mode}
use Rattle.cr_base.specs.declared.words.Phase.{Phase}
use Rattle.cr_base.specs.declared.words.Role.{Role}
use Rattle.cr_base.specs.declared.shape.TextKind.TheVariants.{Nothing, Name, Digest, Title, Abstract}
use Rattle.cr_base.specs.declared.shape.TextKind.TheVariants.{Content, ReviewText, CommentText, Tag}
use Rattle.cr_base.specs.Shapes.{user_range, paper_range, phase_range, mode_range, bit}
use Rattle.cr_base.specs.Shapes.{role_range, version_range, bid_range, review_kind_range}
use Rattle.cr_base.specs.Shapes.{ordinal_range, some_ordinal_range, grade_range, decision_range}
use Rattle.cr_base.specs.Shapes.{deadline_phase_range, some_deadline_range}
use Rattle.cr_base.specs.Shapes.{unused, shape, with_fourth, with_fifth, stamp_in, FitsShape}

-- the number by which rows tell the kind
abbrev pub kind_number : EntryKind → ℕ
kind_number kind.Registered = 1
kind_number kind.Named = 2
kind_number kind.PhaseSet = 3
kind_number kind.ModeSet = 4
kind_number kind.Submitted = 5
kind_number kind.Coauthor = 6
kind_number kind.Revised = 7
kind_number kind.Uploaded = 8
kind_number kind.Withdrawn = 9
kind_number kind.Conflict = 10
kind_number kind.Bid = 11
kind_number kind.Assigned = 12
kind_number kind.Unassigned = 13
kind_number kind.Reviewed = 14
kind_number kind.Commented = 15
kind_number kind.Tagged = 16
kind_number kind.Decided = 17
kind_number kind.DeadlineSet = 18
kind_number kind.Dismissed = 19
kind_number kind.Invited = 20
kind_number kind.Uninvited = 21
kind_number kind.Responded = 22

-- the word for the kind: its name in lower case
abbrev pub kind_name : EntryKind → List ℕ
kind_name kind.Registered = codes "registered"
kind_name kind.Named = codes "named"
kind_name kind.PhaseSet = codes "phaseset"
kind_name kind.ModeSet = codes "modeset"
kind_name kind.Submitted = codes "submitted"
kind_name kind.Coauthor = codes "coauthor"
kind_name kind.Revised = codes "revised"
kind_name kind.Uploaded = codes "uploaded"
kind_name kind.Withdrawn = codes "withdrawn"
kind_name kind.Conflict = codes "conflict"
kind_name kind.Bid = codes "bid"
kind_name kind.Assigned = codes "assigned"
kind_name kind.Unassigned = codes "unassigned"
kind_name kind.Reviewed = codes "reviewed"
kind_name kind.Commented = codes "commented"
kind_name kind.Tagged = codes "tagged"
kind_name kind.Decided = codes "decided"
kind_name kind.DeadlineSet = codes "deadlineset"
kind_name kind.Dismissed = codes "dismissed"
kind_name kind.Invited = codes "invited"
kind_name kind.Uninvited = codes "uninvited"
kind_name kind.Responded = codes "responded"

-- the fields of each kind, a line a kind
abbrev pub shape_of : EntryKind → Shape
shape_of kind.Registered = shape user_range unused unused Name Digest
shape_of kind.Named = shape user_range role_range unused Nothing Nothing
shape_of kind.PhaseSet = shape phase_range unused unused Nothing Nothing
shape_of kind.ModeSet = shape mode_range unused unused Nothing Nothing
shape_of kind.Submitted = shape paper_range unused unused Title Abstract
shape_of kind.Coauthor = shape paper_range user_range unused Nothing Nothing
shape_of kind.Revised = shape paper_range unused unused Title Abstract
shape_of kind.Uploaded = shape paper_range version_range unused Content Nothing
shape_of kind.Withdrawn = shape paper_range unused unused Nothing Nothing
shape_of kind.Conflict = shape paper_range user_range bit Nothing Nothing
shape_of kind.Bid = shape paper_range bid_range unused Nothing Nothing
shape_of kind.Assigned = with_fourth ordinal_range (shape paper_range user_range review_kind_range Nothing Nothing)
shape_of kind.Unassigned = shape paper_range user_range ordinal_range Nothing Nothing
shape_of kind.Reviewed =
    with_fifth grade_range
    (with_fourth grade_range (shape paper_range ordinal_range version_range ReviewText ReviewText))
shape_of kind.Commented = shape paper_range version_range some_ordinal_range CommentText Nothing
shape_of kind.Tagged = shape paper_range bit unused Tag Nothing
shape_of kind.Decided = shape paper_range decision_range unused Nothing Nothing
shape_of kind.DeadlineSet = shape deadline_phase_range some_deadline_range unused Nothing Nothing
shape_of kind.Dismissed = shape user_range unused unused Nothing Nothing
shape_of kind.Invited = shape paper_range user_range unused Nothing Nothing
shape_of kind.Uninvited = shape paper_range user_range unused Nothing Nothing
shape_of kind.Responded = shape paper_range unused unused CommentText Nothing

-- the kind of an entry
abbrev pub kind_of : Entry → EntryKind
kind_of (Registered user name digest) = kind.Registered
kind_of (Named user role) = kind.Named
kind_of (PhaseSet phase) = kind.PhaseSet
kind_of (ModeSet mode) = kind.ModeSet
kind_of (Submitted paper title abstract) = kind.Submitted
kind_of (Coauthor paper user) = kind.Coauthor
kind_of (Revised paper title abstract) = kind.Revised
kind_of (Uploaded paper version content) = kind.Uploaded
kind_of (Withdrawn paper) = kind.Withdrawn
kind_of (Conflict paper user on) = kind.Conflict
kind_of (Bid paper value) = kind.Bid
kind_of (Assigned paper user review_kind ordinal) = kind.Assigned
kind_of (Unassigned paper user ordinal) = kind.Unassigned
kind_of (Reviewed paper ordinal version form) = kind.Reviewed
kind_of (Commented paper n ordinal text) = kind.Commented
kind_of (Tagged paper tag on) = kind.Tagged
kind_of (Decided paper decision) = kind.Decided
kind_of (DeadlineSet phase until) = kind.DeadlineSet
kind_of (Dismissed user) = kind.Dismissed
kind_of (Invited paper user) = kind.Invited
kind_of (Uninvited paper user) = kind.Uninvited
kind_of (Responded paper text) = kind.Responded

-- what a row tells of an entry beside its kind, its stamp and whether another follows
pub record Fields : Type 0 where
  pub n1 : ℕ
  pub n2 : ℕ
  pub n3 : ℕ
  pub n4 : ℕ
  pub n5 : ℕ
  pub b1 : List ℕ
  pub b2 : List ℕ

-- the fields with these three numbers and two texts; the other numbers are 0
abbrev pub fields : ℕ → ℕ → ℕ → List ℕ → List ℕ → Fields
fields n1 n2 n3 b1 b2 = record { n1 = n1; n2 = n2; n3 = n3; n4 = 0; n5 = 0; b1 = b1; b2 = b2 }

-- a mark as a number
abbrev pub bit_number : Bool → ℕ
bit_number b = if b then 1 else 0

-- a number that may be none: itself, from 1, or 0 if there is none. An entry out of its bounds may have a 0 there, and
-- would have the row of one without a number. So it gets `past`, the first number after those that a row may have
-- there.
abbrev pub number_or_zero : ℕ → Option ℕ → ℕ
number_or_zero past None = 0
number_or_zero past (Some n) = if n == 0 then past else n

-- the number that a field spells; `None` if it is 0
abbrev pub numbered_from_one : ℕ → Option ℕ
numbered_from_one n = if n == 0 then None else Some n

-- a label that may be none by its number: its ordinal, 1 to 26 (`some_ordinal_range`)
abbrev pub label_number : Option ℕ → ℕ
label_number ordinal = number_or_zero 27 ordinal

-- the ordinal of a label that a field spells; `None` if it is 0
abbrev pub label_numbered : ℕ → Option ℕ
label_numbered n = numbered_from_one n

-- a deadline that may be none by its number: its seconds (`some_deadline_range`)
abbrev pub until_number : Option ℕ → ℕ
until_number until = number_or_zero 253402207201 until

-- the deadline that a field spells; `None` if it is 0
abbrev pub until_numbered : ℕ → Option ℕ
until_numbered n = numbered_from_one n

-- the command's number; 0 if there is none
abbrev pub key_number : Option RetryKey → ℕ
key_number key = number_or_zero (last_command_number + 1) (option_map (λ (k : RetryKey). k.number) key)

-- the mark of the command's request; empty if there is none
abbrev pub key_mark : Option RetryKey → List ℕ
key_mark None = []
key_mark (Some key) = key.mark

-- the numbers and bytes of an entry, each in its field
abbrev pub fields_of : Entry → Fields
fields_of (Registered user name digest) = fields user 0 0 name digest
fields_of (Named user role) = fields user (role_number role) 0 [] []
fields_of (PhaseSet phase) = fields (phase_number phase) 0 0 [] []
fields_of (ModeSet mode) = fields (mode_number mode) 0 0 [] []
fields_of (Submitted paper title abstract) = fields paper 0 0 title abstract
fields_of (Coauthor paper user) = fields paper user 0 [] []
fields_of (Revised paper title abstract) = fields paper 0 0 title abstract
fields_of (Uploaded paper version content) = fields paper version 0 content []
fields_of (Withdrawn paper) = fields paper 0 0 [] []
fields_of (Conflict paper user on) = fields paper user (bit_number on) [] []
fields_of (Bid paper value) = fields paper value 0 [] []
fields_of (Assigned paper user review_kind ordinal) =
    record (fields paper user (review_kind_number review_kind) [] []) { n4 = ordinal }
fields_of (Unassigned paper user ordinal) = fields paper user ordinal [] []
fields_of (Reviewed paper ordinal version form) =
    record (fields paper ordinal version form.to_authors form.to_pc) { n4 = form.score; n5 = form.confidence }
fields_of (Commented paper n ordinal text) = fields paper n (label_number ordinal) text []
fields_of (Tagged paper tag on) = fields paper (bit_number on) 0 tag []
fields_of (Decided paper decision) = fields paper (decision_number decision) 0 [] []
fields_of (DeadlineSet phase until) = fields (phase_number phase) (until_number until) 0 [] []
fields_of (Dismissed user) = fields user 0 0 [] []
fields_of (Invited paper user) = fields paper user 0 [] []
fields_of (Uninvited paper user) = fields paper user 0 [] []
fields_of (Responded paper text) = fields paper 0 0 text []

-- the row of an entry
abbrev pub row_of : Stamped → Row
row_of s =
    let f = fields_of s.entry in
    record {
      kind = kind_number (kind_of s.entry);
      maker = s.stamp.maker;
      more = bit_number s.more;
      at = s.stamp.at;
      num = key_number s.stamp.key;
      mark = key_mark s.stamp.key;
      n1 = f.n1;
      n2 = f.n2;
      n3 = f.n3;
      n4 = f.n4;
      n5 = f.n5;
      b1 = f.b1;
      b2 = f.b2;
    }

-- RowsOf: one row for each entry, in order
abbrev pub rows_of : List Stamped → List Row
rows_of history = map row_of history

-- the row of today's version for a row of an older one: equal to it, at timestamp 0 if the older one kept none, and
-- without a number
abbrev pub migrated : OldVersion → Row → Row
migrated First r = record r { at = 0; num = 0; mark = [] }
migrated Second r = record r { num = 0; mark = [] }

-- the numbers and bytes of an entry are within the bounds of its kind, so that it has a row
abbrev pub IsBoundedEntry : Stamped → Type 0
IsBoundedEntry s = FitsShape (shape_of (kind_of s.entry)) (row_of s)

-- the entry of a kind that a row's fields spell; `None` if a number is no word's
abbrev pub built : EntryKind → Row → Option Entry
built kind.Registered r = Some (Registered r.n1 r.b1 r.b2)
built kind.Named r = option_map (λ (role : Role). Named r.n1 role) (role_numbered r.n2)
built kind.PhaseSet r = option_map (λ (phase : Phase). PhaseSet phase) (phase_numbered r.n1)
built kind.ModeSet r = option_map (λ (mode : Mode). ModeSet mode) (mode_numbered r.n1)
built kind.Submitted r = Some (Submitted r.n1 r.b1 r.b2)
built kind.Coauthor r = Some (Coauthor r.n1 r.n2)
built kind.Revised r = Some (Revised r.n1 r.b1 r.b2)
built kind.Uploaded r = Some (Uploaded r.n1 r.n2 r.b1)
built kind.Withdrawn r = Some (Withdrawn r.n1)
built kind.Conflict r = Some (Conflict r.n1 r.n2 (r.n3 == 1))
built kind.Bid r = Some (Bid r.n1 r.n2)
built kind.Assigned r =
    option_map (λ (review_kind : Kind). Assigned r.n1 r.n2 review_kind r.n4) (review_kind_numbered r.n3)
built kind.Unassigned r = Some (Unassigned r.n1 r.n2 r.n3)
built kind.Reviewed r =
    Some (Reviewed r.n1 r.n2 r.n3 (record { score = r.n4; confidence = r.n5; to_authors = r.b1; to_pc = r.b2 }))
built kind.Commented r = Some (Commented r.n1 r.n2 (label_numbered r.n3) r.b1)
built kind.Tagged r = Some (Tagged r.n1 r.b1 (r.n2 == 1))
built kind.Decided r = option_map (λ (decision : Decision). Decided r.n1 decision) (decision_numbered r.n2)
built kind.DeadlineSet r =
    option_map (λ (phase : Phase). DeadlineSet phase (until_numbered r.n2)) (phase_numbered r.n1)
built kind.Dismissed r = Some (Dismissed r.n1)
built kind.Invited r = Some (Invited r.n1 r.n2)
built kind.Uninvited r = Some (Uninvited r.n1 r.n2)
built kind.Responded r = Some (Responded r.n1 r.b1)

-- an entry with the stamp that a row's fields spell, and whether the row says that another follows
abbrev pub stamped_by : Row → Entry → Stamped
stamped_by r e = record { stamp = stamp_in r; more = r.more == 1; entry = e }

-- the entry of a kind with its stamp that a row's fields spell; `None` if a number is no word's
abbrev pub restored : EntryKind → Row → Option Stamped
restored k r = option_map (stamped_by r) (built k r)
