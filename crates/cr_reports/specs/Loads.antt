-- SPDX-License-Identifier: Apache-2.0 OR MIT
-- How much each user reviews, counted seat by seat.
use Rattle.std.specs.Prelude.{ℕ, Bool, true, false, not, ◌≡◌, ◌≤◌, ◌<◌, ◌+◌, ◌&&◌}
use Rattle.std.specs.Prelude.{◌==◌, List, [], ◌++◌, get_or, fold, Some, if◌then◌else◌}
use Rattle.cr_base.specs.declared.pairs.Order.TheVariants.{ByPaper}
use Rattle.cr_base.specs.declared.pairs.Tie.{Tie}
use Rattle.cr_base.specs.declared.reply.AccountLine.{AccountLine}
use Rattle.cr_base.specs.declared.seat.Seat.{Seat}
use Rattle.cr_base.specs.declared.words.Kind.{Kind}
use Rattle.cr_base.specs.declared.words.Kind.TheVariants.{Primary, Secondary, Pc}
use Rattle.cr_base.specs.Pairs.{ties_of}
use Rattle.cr_base.specs.Reports.{in_four, is_clear_of, line_end, space, to_left}
use Rattle.cr_base.specs.Reviews.{is_written_in}
use Rattle.cr_base.specs.Sources.{facts_of_tables}
use Rattle.cr_base.specs.Tables.{Tables}
use Rattle.cr_base.specs.Words.{is_member}
use Rattle.cr_reports.specs.declared.counts.Load.{Load}

-- nothing
abbrev pub no_load : Load
no_load = record { primary = 0; secondary = 0; pc = 0; written = 0 }

-- with one more assignment of this kind, and with one more of which a form is written, where it is
abbrev pub with_kind : Kind → Load → Load
with_kind Primary load = record load { primary = load.primary + 1 }
with_kind Secondary load = record load { secondary = load.secondary + 1 }
with_kind Pc load = record load { pc = load.pc + 1 }

abbrev pub with_form : Bool → Load → Load
with_form true load = record load { written = load.written + 1 }
with_form false load = load

-- the user's load with a seat of a paper under whose labels forms are written: where it
-- is hers, and she hasn't left it
abbrev pub with_seat : (ℕ → Bool) → ℕ → Load → Tie Seat → Load
with_seat written user load seat =
    if not seat.value.vacated && seat.pair.user == user
    then with_form (written seat.value.ordinal) (with_kind seat.value.kind load) else load

-- with these seats of it, and with all of its seats
abbrev pub with_seats : (ℕ → Bool) → ℕ → List (Tie Seat) → Load → Load
with_seats written user seats load = fold (with_seat written user) load seats

abbrev pub with_paper : Tables → ℕ → ℕ → Load → Load
with_paper t user p load = with_seats (is_written_in t.reviews p) user (ties_of ByPaper p t.seats) load

-- with the papers that the caller is in no conflict with
abbrev pub with_clear : Tables → ℕ → ℕ → Load → ℕ → Load
with_clear t caller user load p =
    if is_clear_of (facts_of_tables t (Some caller)) p then with_paper t user p load else load

abbrev pub with_papers : Tables → ℕ → ℕ → List ℕ → Load → Load
with_papers t caller user papers load = fold (with_clear t caller user) load papers

-- a user's load stands at her number
abbrev pub load_at : List Load → ℕ → Load
load_at loads user = get_or loads user no_load

-- each user's load became what this makes of it
abbrev pub Becomes : List Load → List Load → (ℕ → Load → Load) → Type 0
Becomes old new change = (user : ℕ) → user < 10000 → load_at new user ≡ change user (load_at old user)

-- no count is more than n
pub record IsFew (n : ℕ) (load : Load) : Type 0 where
  pub primary : load.primary ≤ n
  pub secondary : load.secondary ≤ n
  pub pc : load.pc ≤ n
  pub written : load.written ≤ n

abbrev pub AreFew : ℕ → List Load → Type 0
AreFew n loads = (user : ℕ) → user < 10000 → IsFew n (load_at loads user)

-- the line of a member who reviews so much
abbrev pub line_of : AccountLine → Load → List ℕ
line_of a load =
    to_left 32 a.name
    ++ space ++ in_four load.primary
    ++ space ++ in_four load.secondary
    ++ space ++ in_four load.pc
    ++ space ++ in_four load.written
    ++ line_end

-- the line of an account, where it is a member's: its load stands at the user's number
abbrev pub member_line : List Load → AccountLine → List ℕ
member_line loads a = if is_member a.role then line_of a (load_at loads a.user) else []
