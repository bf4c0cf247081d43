-- SPDX-License-Identifier: Apache-2.0 OR MIT
-- Behind the rows of a bulk one more is always accepted: a tag on the paper of the first. So where another is to follow
-- some do.
use Rattle.std.proofs.Common.{ℕ, Bool, true, false, cond, ◌≡◌, ◌≤◌, ◌+◌, List, [], ◌∷◌, ◌++◌, length, length-append}
use Rattle.std.proofs.Common.{eqb, refl, sym, ap, subst, ◌∙◌, arith, ◌||◌, ◌&&◌, Option, Some, None}
use Rattle.std.specs.Prelude.{is_none, is_some, map, nat_le, nat_lt, not}
use Rattle.std.specs.List.{list_any}
use Rattle.std.specs.Option.{option_map}
use Rattle.std.proofs.lemmas.Bool.{not-true, true≢false, or_parts}
use Rattle.std.proofs.lemmas.Bool.Decides.{nat_tests}
use Rattle.std.proofs.Math.Bool.{and-false}
use Rattle.cr_base.specs.declared.entry.Entry.{Entry}
use Rattle.cr_base.specs.declared.entry.Entry.TheVariants.{Conflict, Assigned, Unassigned, Tagged}
use Rattle.cr_base.specs.declared.entry.Stamp.{Stamp}
use Rattle.cr_base.specs.declared.pairs.Order.TheVariants.{ByPaper}
use Rattle.cr_base.specs.declared.resolved.ResolvedCommand.{ResolvedCommand}
use Rattle.cr_base.specs.declared.resolved.ResolvedCommand.TheVariants as resolved
use Rattle.cr_base.specs.declared.standing.Standing.{Standing}
use Rattle.cr_base.specs.declared.target.Target.{Target}
use Rattle.cr_base.specs.declared.words.Role.{Role}
use Rattle.cr_base.specs.declared.words.Role.TheVariants as roles
use Rattle.cr_base.specs.Accounts.{lines_of, role_in}
use Rattle.cr_base.specs.Bulk.{bulk_checks, turns_own_conflict}
use Rattle.cr_base.specs.Checks.{about, conflict_case, own_checks, other_checks}
use Rattle.cr_base.specs.Deeds.{Deed, deed_at}
use Rattle.cr_base.specs.History.{History}
use Rattle.cr_base.specs.Invites.{is_invited_in}
use Rattle.cr_base.specs.Lists.{is_number}
use Rattle.cr_base.specs.Pairs.{has_pair, same_pair, users_tied_to}
use Rattle.cr_base.specs.Papers.{paper_numbers, is_withdrawn_at}
use Rattle.cr_base.specs.Phases.{committee_works, authors_have_declared, conflicts_are_final}
use Rattle.cr_base.specs.Rows.{IsBoundedEntry}
use Rattle.cr_base.specs.Seats.{ordinal_in}
use Rattle.cr_base.specs.Sources.{facts_of_tables, is_late, shown_in_tables, standing_at, role_among}
use Rattle.cr_base.specs.Tables.{Tables, tables_after, tables_from, tables_of}
use Rattle.cr_base.specs.TagTexts.{is_for_chairs}
use Rattle.cr_base.specs.Ties.{authors_in, is_author_in, is_conflicted_in, pair_of, bare_tie, switched}
use Rattle.cr_base.specs.Words.{is_chair, is_member}
use Rattle.cr_base.proofs.CheckLaws.{NoneBroken, judged-Ok, judged-none}
use Rattle.cr_base.proofs.PairLaws.{has_pair-with_tie, has_pair-without_pair}
use Rattle.cr_base.proofs.ResolvingLaws.{IsLone}
use Rattle.cr_beginnings.specs.Beginnings.{is_of_row, may_bulk, most_entries, IsDrawn}
use Rattle.cr_beginnings.proofs.BeginningCalls.{least, lone-least}
use Rattle.cr_beginnings.proofs.BeginningLaws.{unfinished, IsBeginning, behind-next, drawn-unbroken}
use Rattle.cr_beginnings.proofs.BeginningRows.{AreRows, IsBulk, behind-row, behind-rows, may-parts, of-rows, row-other, several}

-- ---- a chair and a paper

-- the paper is there, isn't withdrawn, and the user is in no conflict with it
pub record IsClear (t : Tables) (user p : ℕ) : Type 0 where
  pub there : not (list_any (λ q. eqb q p) (paper_numbers t.papers)) ≡ false
  pub clear : is_conflicted_in t.ties (Some user) p ≡ false
  pub standing : is_withdrawn_at t.papers p ≡ false

-- she is a chair, and the phase is the committee's
record IsAtWork (t : Tables) (user : ℕ) : Type 0 where
  chair : not (is_chair (role_in t.accounts (Some user))) ≡ false
  phase : not (committee_works t.stage.phase) ≡ false

at-work : (t : Tables) (user : ℕ) → may_bulk t user ≡ true → IsAtWork t user
at-work t user may =
    let k = judged-Ok (bulk_checks (standing_at t (Some user) None)) tt tt (may-parts t user may).1 in
    record { chair = k.0.0; phase = k.0.1.0 }

committee : (declared final : Bool) → not (declared && not final) ≡ false → (declared ≡ true) × (final ≡ false)
committee true true h = absurd (true≢false h)
committee true false h = (refl, refl)
committee false final h = absurd (true≢false h)

chairs-member : (r : Role) → not (is_chair r) ≡ false → not (is_member r) ≡ false
chairs-member roles.Account h = h
chairs-member roles.Member h = absurd (true≢false h)
chairs-member roles.Chair h = refl

not-for : (b chair : Bool) → not chair ≡ false → (b && not chair) ≡ false
not-for true true h = refl
not-for true false h = h
not-for false chair h = refl

-- ---- the paper of a row that is accepted

-- a conflict of another's, turned in the committee's phases, is turned by a clear chair, of a paper that isn't
-- withdrawn
case-clear : (on declared final : Bool) (by : Standing) (withdrawn : Bool) (target : Target) (late : Bool)
    → declared ≡ true → final ≡ false → target.herself ≡ false
    → NoneBroken (conflict_case on declared final by withdrawn target late) → (by.conflicted ≡ false)
    × (withdrawn ≡ false)
case-clear false declared final by withdrawn target late from before other none = (none.1.0, none.1.1.1.0)
case-clear true false final by withdrawn target late from before other none = absurd (true≢false (sym from))
case-clear true true true by withdrawn target late from before other none = absurd (true≢false before)
case-clear true true false by withdrawn target late from before other none =
    let k = subst (λ (b : Bool). NoneBroken (cond b (own_checks by withdrawn) (other_checks by withdrawn target))) other
    none in
    (k.1.0, k.1.1.0)

module _ (t : Tables) (stamp : Stamp) (work : IsAtWork t stamp.maker) where
  -- what a command does, by the tables
  abbrev deed_of : ResolvedCommand → Deed
  deed_of command = deed_at (facts_of_tables t (Some stamp.maker)) (shown_in_tables t) stamp command

  conflict-clear : (p : ℕ) (target : Option ℕ) (on : Bool) → is_number target stamp.maker ≡ false
      → NoneBroken (deed_of (resolved.SetConflict (Some p) target on)).checks → IsClear t stamp.maker p
  conflict-clear p target on other none =
      let both = by (role_among (lines_of t.accounts) target) none.1.0 none.1.1 in
      record { there = none.0; clear = both.0; standing = both.1 }
    where
      asked : Role → Target
      asked role =
          let wrote : Bool = list_any (is_number target) (authors_in t.ties p) in
          let declared : Bool = list_any (is_number target) (users_tied_to p t.ties.conflicts) in
          record {
            role = role;
            herself = is_number target stamp.maker;
            author = wrote;
            conflicted = wrote || declared;
            reviewer = is_some (ordinal_in t.seats target p);
            external = not (is_member role) && is_invited_in t.invites target p;
          }

      stands : Standing
      stands = standing_at t (Some stamp.maker) (Some p)

      late : Bool
      late = is_late (facts_of_tables t (Some stamp.maker)) stamp.at

      phases : (authors_have_declared t.stage.phase ≡ true) × (conflicts_are_final t.stage.phase ≡ false)
      phases = committee (authors_have_declared t.stage.phase) (conflicts_are_final t.stage.phase) work.phase

      by : (role : Option Role) → is_none (option_map asked role) ≡ false
          → NoneBroken (about (option_map asked role)
          (λ (user : Target). conflict_case on (authors_have_declared t.stage.phase)
          (conflicts_are_final t.stage.phase) stands (is_withdrawn_at t.papers p) user late))
          → (is_conflicted_in t.ties (Some stamp.maker) p ≡ false) × (is_withdrawn_at t.papers p ≡ false)
      by None there none = absurd (true≢false there)
      by (Some role) there none =
          case-clear on (authors_have_declared t.stage.phase) (conflicts_are_final t.stage.phase) stands
          (is_withdrawn_at t.papers p) (asked role) late phases.0 phases.1 other none

  -- and such a paper she may tag
  tag-drawn : (p : ℕ) (tag : List ℕ) (on : Bool) → IsClear t stamp.maker p → IsDrawn t stamp (Tagged p tag on)
  tag-drawn p tag on c = record {
    command = resolved.Tag (Some p) tag on;
    told = refl;
    accepted = judged-none (deed_of (resolved.Tag (Some p) tag on)).checks tt (
      c.there,
      (
        not-for (is_for_chairs tag) (is_chair (role_in t.accounts (Some stamp.maker))) work.chair,
        (
          chairs-member (role_in t.accounts (Some stamp.maker)) work.chair,
          (c.clear, (work.phase, (c.standing, tt))),
        ),
      ),
    );
    maker = refl;
    first = refl;
  }

-- the paper that the entry is about: it has a number that rows tell
pub record OnClear (t : Tables) (user : ℕ) : Type 0 where
  pub paper : ℕ
  pub low : 1 ≤ paper
  pub high : paper ≤ 9999
  pub clear : IsClear t user paper

drawn-clear : (t : Tables) (stamp : Stamp) (e : Entry) → may_bulk t stamp.maker ≡ true
    → is_of_row stamp.maker e ≡ true → IsBoundedEntry (unfinished stamp e) → IsDrawn t stamp e → OnClear t stamp.maker
drawn-clear t stamp e may of bounded d =
    of-rows
    (λ (e : Entry) (c : ResolvedCommand). IsBoundedEntry (unfinished stamp e) → turns_own_conflict stamp.maker c ≡ false
    → NoneBroken (deed_of t stamp work c).checks → OnClear t stamp.maker)
    (record {
      conflict = λ p v on bounded other none.
          on-clear p bounded.n1 (conflict-clear t stamp work p (Some v) on other none);
      assigned = λ p v kind ordinal bounded other none.
          on-clear p bounded.n1 (record { there = none.0; clear = none.1.1.1.0; standing = none.1.1.1.1.1.0 });
      unassigned = λ p v ordinal bounded other none.
          on-clear p bounded.n1 (record { there = none.0; clear = none.1.1.1.0; standing = none.1.1.1.1.1.0 });
      tagged = λ p tag on bounded other none.
          on-clear p bounded.n1 (record { there = none.0; clear = none.1.1.1.0; standing = none.1.1.1.1.1.0 });
    }) stamp.maker e d.command of d.told bounded (row-other stamp.maker e d.command of d.told)
    (drawn-unbroken t stamp e d)
  where
    work : IsAtWork t stamp.maker
    work = at-work t stamp.maker may

    on-clear : (p : ℕ) → (1 ≤ p) × (p ≤ 9999) → IsClear t stamp.maker p → OnClear t stamp.maker
    on-clear p within clear = record { paper = p; low = within.0; high = within.1; clear = clear }

-- ---- what stays behind a row

apart : (p user q v : ℕ) → eqb v user ≡ false → same_pair (pair_of p user) (pair_of q v) ≡ false
apart p user q v h = grind (arith, nat_tests, h)

kept-clear : (t : Tables) (stamp : Stamp) (e : Entry) (p : ℕ) → is_of_row stamp.maker e ≡ true
    → IsClear t stamp.maker p → IsClear (tables_after t (unfinished stamp e)) stamp.maker p
kept-clear t stamp (Conflict q v on) p of c = record {
  there = c.there;
  clear = ap (λ (b : Bool). b || has_pair (pair_of p stamp.maker) (switched on q v t.ties.conflicts)) before.0 ∙ by on;
  standing = c.standing;
}
  where
    before : (is_author_in t.ties (Some stamp.maker) p ≡ false)
        × (has_pair (pair_of p stamp.maker) t.ties.conflicts ≡ false)
    before =
        or_parts (is_author_in t.ties (Some stamp.maker) p) (has_pair (pair_of p stamp.maker) t.ties.conflicts) c.clear

    other : same_pair (pair_of p stamp.maker) (pair_of q v) ≡ false
    other = apart p stamp.maker q v (not-true (eqb v stamp.maker) of)

    by : (on : Bool) → has_pair (pair_of p stamp.maker) (switched on q v t.ties.conflicts) ≡ false
    by true = has_pair-with_tie ByPaper (pair_of p stamp.maker) (bare_tie q v) t.ties.conflicts
        ∙ ap (λ (b : Bool). b || has_pair (pair_of p stamp.maker) t.ties.conflicts) other ∙ before.1
    by false = has_pair-without_pair (pair_of p stamp.maker) (pair_of q v) t.ties.conflicts
        ∙ ap (λ (b : Bool). not (same_pair (pair_of p stamp.maker) (pair_of q v)) && b) before.1 ∙ and-false _
kept-clear t stamp (Assigned q v kind ordinal) p of c =
    record { there = c.there; clear = c.clear; standing = c.standing }
kept-clear t stamp (Unassigned q v ordinal) p of c = record { there = c.there; clear = c.clear; standing = c.standing }
kept-clear t stamp (Tagged q tag on) p of c = record { there = c.there; clear = c.clear; standing = c.standing }
kept-clear t stamp e p of c = absurd (true≢false (sym of))

kept-may : (t : Tables) (stamp : Stamp) (e : Entry) → is_of_row stamp.maker e ≡ true → may_bulk t stamp.maker ≡ true
    → may_bulk (tables_after t (unfinished stamp e)) stamp.maker ≡ true
kept-may t stamp (Conflict q v on) of may = may
kept-may t stamp (Assigned q v kind ordinal) of may = may
kept-may t stamp (Unassigned q v ordinal) of may = may
kept-may t stamp (Tagged q tag on) of may = may
kept-may t stamp e of may = absurd (true≢false (sym of))

-- behind all of them
behind-clear : (t : Tables) (stamp : Stamp) (es : List Entry) (p : ℕ) → AreRows t stamp es → may_bulk t stamp.maker ≡ true
    → IsClear t stamp.maker p
    → (may_bulk (tables_from t (map (unfinished stamp) es)) stamp.maker ≡ true)
    × IsClear (tables_from t (map (unfinished stamp) es)) stamp.maker p
behind-clear t stamp [] p are may c = (may, c)
behind-clear t stamp (e ∷ es) p are may c =
    behind-clear (tables_after t (unfinished stamp e)) stamp es p are.2 (kept-may t stamp e are.0 may)
    (kept-clear t stamp e p are.0 c)

-- ---- one more row

-- behind a beginning of which another follows some entry makes one of which none does
pub record Further (H : History) (stamp : Stamp) (first : Entry) (behind : List Entry) : Type 0 where
  pub entry : Entry
  pub bounded : IsLone first → IsBoundedEntry (unfinished stamp entry)
  pub beginning : IsBeginning H stamp first (behind ++ entry ∷ []) false

module _ (H : History) (stamp : Stamp) (first : Entry) (behind : List Entry) (lone : IsLone first)
    (begun : IsBeginning H stamp first behind true) (bounded : IsBoundedEntry (unfinished stamp first)) where
  abbrev t : Tables
  t = tables_of H

  bulk : IsBulk t stamp.maker first (length behind + 1)
  bulk = several t stamp.maker first (length behind + 1) lone (omega arith) begun.count

  paper : OnClear t stamp.maker
  paper = drawn-clear t stamp first bulk.may bulk.of_row bounded begun.may.drawn

  -- the tables behind all of them
  abbrev now : Tables
  now = tables_from t (map (unfinished stamp) (first ∷ behind))

  still : (may_bulk now stamp.maker ≡ true) × IsClear now stamp.maker paper.paper
  still = behind-clear (tables_after t (unfinished stamp first)) stamp behind paper.paper
      (behind-rows t stamp first lone [] behind begun.behind_are) (kept-may t stamp first bulk.of_row bulk.may)
      (kept-clear t stamp first paper.paper bulk.of_row paper.clear)

  abbrev tag : Entry
  tag = Tagged paper.paper (97 ∷ []) true

  -- a tag on the paper of a bulk's first row
  pub one-tag : Further H stamp first behind
  one-tag = record {
    entry = tag;
    bounded = λ lone. record {
      stamp = bounded.stamp;
      unmarked = bounded.unmarked;
      more = omega arith;
      n1 = (paper.low, paper.high);
      n2 = (omega arith, omega arith);
      n3 = (omega arith, omega arith);
      n4 = (omega arith, omega arith);
      n5 = (omega arith, omega arith);
      b1 = refl;
      b2 = refl;
    };
    beginning = record {
      may = begun.may;
      behind_are = behind-next t stamp first [] behind tag begun.behind_are
          (behind-row t stamp first (map (unfinished stamp) behind) tag lone
          (refl, tag-drawn now stamp (at-work now stamp.maker still.0) paper.paper (97 ∷ []) true still.1));
      room = λ some. ap (λ (n : ℕ). nat_lt n (most_entries t stamp.maker first))
          (length-append behind (tag ∷ [])) ∙ begun.count;
      count = ap (λ (n : ℕ). nat_le n (length (behind ++ tag ∷ []) + 1)) (lone-least t first lone)
          ∙ least (length (behind ++ tag ∷ []));
    };
  }
