-- SPDX-License-Identifier: Apache-2.0 OR MIT
-- Beginnings of groups: which entry may follow those that an unfinished group has so far, on the history before it. So
-- a store is read entry by entry, and no command needs to be known whose group isn't whole.
use Rattle.std.specs.Prelude.{ℕ, Bool, true, false, not, ◌≡◌, ◌+◌, ◌++◌, ◌==◌, ◌&&◌, nat_le, nat_lt, List, [], ◌∷◌}
use Rattle.std.specs.Prelude.{length, Option, Some, None, Result, Ok, is_none, is_ok, IsFalse, IsTrue, if◌then◌else◌, ◌↔◌}
use Rattle.std.specs.List.{AllByRecursion, list_any}
use Rattle.std.specs.Option.{option_map_or}
use Rattle.cr_base.specs.declared.entry.Entry.{Entry}
use Rattle.cr_base.specs.declared.entry.Entry.TheVariants.{Registered, Named, Submitted, Coauthor}
use Rattle.cr_base.specs.declared.entry.Entry.TheVariants.{Conflict, Assigned, Unassigned, Tagged}
use Rattle.cr_base.specs.declared.entry.Stamp.{Stamp}
use Rattle.cr_base.specs.declared.entry.Stamped.{Stamped}
use Rattle.cr_base.specs.declared.reply.Rule.{Rule}
use Rattle.cr_base.specs.declared.resolved.ResolvedCommand.{ResolvedCommand}
use Rattle.cr_base.specs.declared.retry.RetryKey.{RetryKey}
use Rattle.cr_base.specs.declared.words.Role.TheVariants.{Chair}
use Rattle.cr_base.specs.Accounts.{lines_of}
use Rattle.cr_base.specs.Bulk.{bulk_checks}
use Rattle.cr_base.specs.Checks.{judged}
use Rattle.cr_base.specs.Deeds.{deed_at}
use Rattle.cr_base.specs.Drawn.{stamped}
use Rattle.cr_base.specs.History.{History, all_told}
use Rattle.cr_base.specs.Resolving.{command_of}
use Rattle.cr_base.specs.Rows.{IsBoundedEntry}
use Rattle.cr_base.specs.Sources.{facts_of_tables, shown_in_tables, standing_at, is_there}
use Rattle.cr_base.specs.Tables.{Tables, tables_of, tables_from}
use Rattle.cr_policy.specs.Legal.{IsNewKey, IsMoveAllowed, Legal, Move, moved}

-- ---- groups

-- the entries of one command, or of one bulk: each but the last has the mark that another follows
abbrev pub IsGroup : History → Type 0
IsGroup [] = ⊥
IsGroup (e ∷ []) = IsFalse e.more
IsGroup (e ∷ next ∷ after) = IsTrue e.more × IsGroup (next ∷ after)

-- ---- who gave it

-- the caller of the command that adds the entry: unauthenticated of a registration, else the entry's maker
abbrev pub giver_told : ℕ → Entry → Option ℕ
giver_told maker (Registered user name digest) = None
giver_told maker e = Some maker

-- the caller is unauthenticated, or a user who has registered
abbrev pub is_known : Tables → Option ℕ → Bool
is_known t caller = option_map_or (is_there (lines_of t.accounts)) caller true

-- this caller's command may have this number: an unauthenticated caller's has none
abbrev pub may_have_key : Option ℕ → Option RetryKey → Bool
may_have_key None key = is_none key
may_have_key (Some user) key = true

-- ---- what draws an entry

-- the command that the entry tells, judged on these tables, breaks no rule, and the entry is the first that it draws
pub record IsDrawn (t : Tables) (stamp : Stamp) (e : Entry) : Type 0 where
  pub command : ResolvedCommand
  pub told : command_of e ≡ Some command
  pub accepted : ◌≡◌ {A = Result (Unit {0}) Rule}
      (judged (deed_at (facts_of_tables t (Some stamp.maker)) (shown_in_tables t) stamp command).checks tt) (Ok tt)
  pub maker : (deed_at (facts_of_tables t (Some stamp.maker)) (shown_in_tables t) stamp command).maker ≡ stamp.maker
  pub first : (deed_at (facts_of_tables t (Some stamp.maker)) (shown_in_tables t) stamp command).first ≡ e

-- ---- how many entries a group may have

-- a row of this user's bulk may draw such an entry: it changes seats or tags, or a conflict that isn't the user's own
abbrev pub is_of_row : ℕ → Entry → Bool
is_of_row maker (Conflict paper user on) = not (user == maker)
is_of_row maker (Assigned paper user kind ordinal) = true
is_of_row maker (Unassigned paper user ordinal) = true
is_of_row maker (Tagged paper tag on) = true
is_of_row maker e = false

-- the rules on a bulk as a whole, which judge its caller
abbrev pub caller_judged : Tables → ℕ → Result (Unit {0}) Rule
caller_judged t user = judged (bulk_checks (standing_at t (Some user) None)) tt

-- the user may send a bulk, by the tables
abbrev pub may_bulk : Tables → ℕ → Bool
may_bulk t user = is_there (lines_of t.accounts) user && is_ok (caller_judged t user)

-- no user has registered yet
abbrev pub is_first_user : Tables → Bool
is_first_user t = length t.accounts == 0

-- the lesser
abbrev pub lesser : ℕ → ℕ → ℕ
lesser m n = if nat_le m n then m else n

-- The most entries of a group that begins with this one. The first registration is followed by a role. A submission is
-- followed by at most 19 co-authors, who are different users and not its maker: it has at most as many entries as there
-- are users. A bulk has at most 512 rows, and every other entry is all of its group.
abbrev pub most_entries : Tables → ℕ → Entry → ℕ
most_entries t maker (Registered user name digest) = if is_first_user t then 2 else 1
most_entries t maker (Submitted paper title abstract) = lesser 20 (length t.accounts)
most_entries t maker e = if is_of_row maker e && may_bulk t maker then 512 else 1

-- the fewest entries of a group that begins with this one: 2 of the first registration, else 1
abbrev pub fewest_entries : Tables → Entry → ℕ
fewest_entries t (Registered user name digest) = if is_first_user t then 2 else 1
fewest_entries t e = 1

-- a group that begins with this one may have an entry in this place, from 1, with this mark
abbrev pub may_count : Tables → Stamped → ℕ → Bool → Bool
may_count t first place true = nat_lt place (most_entries t first.stamp.maker first.entry)
may_count t first place false = nat_le (fewest_entries t first.entry) place

-- ---- the next entry

-- the user whom the entry makes a co-author
abbrev pub coauthor_told : Entry → List ℕ
coauthor_told (Coauthor paper user) = user ∷ []
coauthor_told e = []

-- a co-author of this paper: a user who is there, and is neither the maker nor told before
pub record IsCoauthor (t : Tables) (maker paper : ℕ) (behind : History) (e : Entry) : Type 0 where
  pub user : ℕ
  pub is : e ≡ Coauthor paper user
  pub there : is_there (lines_of t.accounts) user ≡ true
  pub new : list_any (λ v. v == user) (maker ∷ all_told coauthor_told behind) ≡ false

-- a row of the maker's bulk draws the entry, by the tables after the rows before it
abbrev pub IsRowDrawn : Tables → Stamp → Entry → Type 0
IsRowDrawn t stamp e = (is_of_row stamp.maker e ≡ true) × IsDrawn t stamp e

-- the entry may be the first of a group: its command's caller is registered or may be unauthenticated, may give its
-- number, which is new, and the command draws the entry
pub record IsFirst (H : History) (s : Stamped) : Type 0 where
  pub giver : is_known (tables_of H) (giver_told s.stamp.maker s.entry) ≡ true
  pub key : may_have_key (giver_told s.stamp.maker s.entry) s.stamp.key ≡ true
  pub new : IsNewKey H (Some s.stamp.maker) s.stamp.key
  pub drawn : IsDrawn (tables_of H) s.stamp s.entry

-- the entry may follow a group's first and others: after the first registration it is the role, after a submission a
-- co-author, and in a bulk what its next row draws, after the rows before it
abbrev pub IsBehind : Tables → Stamp → Entry → History → Entry → Type 0
IsBehind t stamp (Registered user name digest) behind e = e ≡ Named user Chair
IsBehind t stamp (Submitted paper title abstract) behind e = IsCoauthor t stamp.maker paper behind e
IsBehind t stamp first behind e = IsRowDrawn (tables_from t (stamped stamp true first ∷ behind)) stamp e

-- the entry may be the first of a group, if its command draws it
pub record MayBegin (t : Tables) (H : History) (s : Stamped) : Type 0 where
  pub giver : is_known t (giver_told s.stamp.maker s.entry) ≡ true
  pub key : may_have_key (giver_told s.stamp.maker s.entry) s.stamp.key ≡ true
  pub new : IsNewKey H (Some s.stamp.maker) s.stamp.key
  pub count : may_count t s 1 s.more ≡ true

-- an entry after the first, in its place, with the stamp of the first
abbrev pub IsNext : Tables → Stamped → History → Stamped → Type 0
IsNext t first behind s =
    (s.stamp ≡ first.stamp)
    × IsBehind t first.stamp first.entry behind s.entry
    × (may_count t first (length behind + 2) s.more ≡ true)

-- the entry may follow what its group has so far: it is the first, or one after the first
abbrev pub InTurn : History → History → Stamped → Type 0
InTurn H [] s = IsFirst H s × (may_count (tables_of H) s 1 s.more ≡ true)
InTurn H (first ∷ behind) s = IsNext (tables_of H) first behind s

-- another entry of its group follows
abbrev pub HasMore : Stamped → Type 0
HasMore s = IsTrue s.more

-- the entry may follow these entries of one group, each of which has the mark that another follows
pub record IsDue (H begun : History) (s : Stamped) : Type 0 where
  pub unfinished : AllByRecursion HasMore begun
  pub bounded : IsBoundedEntry s
  pub turn : InTurn H begun s

-- each of the entries is due after those before it
abbrev pub AreDue : History → History → History → Type 0
AreDue H before [] = Unit {0}
AreDue H before (s ∷ after) = IsDue H before s × AreDue H (before ++ s ∷ []) after

-- ---- the theorem

-- an allowed command or bulk adds a group that begins with these entries
pub record IsBegun (H es : History) : Type 0 where
  pub move : Move
  pub allowed : IsMoveAllowed H move
  pub after : History
  pub adds : moved H move ≡ H ++ (es ++ after)

-- Beginnings are exactly those of groups that some allowed command or bulk adds; and one is whole exactly where no
-- entry is to follow its last.
pub record BeginningsExact (H : History) : Type 0 where
  pub begins : (first : Stamped) (es : History) → AreDue H [] (first ∷ es) ↔ IsBegun H (first ∷ es)
  pub whole : (es : History) (last : Stamped) (begun : IsBegun H (es ++ last ∷ []))
      → (last.more ≡ false) ↔ (begun.after ≡ [])
  pub adds : (es : History) (last : Stamped) → AreDue H [] (es ++ last ∷ []) → last.more ≡ false
      → (move : Move) × IsMoveAllowed H move × (moved H move ≡ H ++ (es ++ last ∷ []))

-- Beginnings: BeginningsExact holds on every legal history
abbrev pub Beginnings : Type 0
Beginnings = (H : History) → Legal H → BeginningsExact H
