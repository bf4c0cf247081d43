-- SPDX-License-Identifier: Apache-2.0 OR MIT
-- Entries that are due one behind another are a beginning: the entries of one stamp, of which another follows each but
-- the last, with as many as a group that begins so may have; and such entries are due.
use Rattle.std.proofs.Common.{ℕ, Bool, true, false, ◌≡◌, ◌≤◌, ◌+◌, List, [], ◌∷◌, ◌++◌, length, suc, refl, sym, ap}
use Rattle.std.proofs.Common.{subst, ◌∙◌, arith, append_assoc, append-nil, length-append, Some, Ok}
use Rattle.std.specs.Prelude.{map, nat_lt, Result}
use Rattle.std.specs.List.{AllByRecursion}
use Rattle.std.proofs.lemmas.List.{length-map}
use Rattle.cr_base.specs.declared.entry.Entry.{Entry}
use Rattle.cr_base.specs.declared.entry.Stamp.{Stamp}
use Rattle.cr_base.specs.declared.entry.Stamped.{Stamped}
use Rattle.cr_base.specs.declared.reply.Rule.{Rule}
use Rattle.cr_base.specs.Accounts.{lines_of}
use Rattle.cr_base.specs.Deeds.{Deed, deed_at, drawn_by}
use Rattle.cr_base.specs.Drawn.{Drawn, stamped, grouped}
use Rattle.cr_base.specs.History.{History}
use Rattle.cr_base.specs.Judging.{judge_resolved}
use Rattle.cr_base.specs.Rows.{IsBoundedEntry}
use Rattle.cr_base.specs.Sources.{facts_of_tables, shown_in_tables}
use Rattle.cr_base.specs.Tables.{Tables, tables_of}
use Rattle.cr_base.proofs.CheckLaws.{NoneBroken, judged-Ok, judged-none}
use Rattle.cr_base.proofs.Small.{nat_lt-trans}
use Rattle.cr_beginnings.specs.Beginnings.{IsDrawn, IsFirst, IsBehind, IsDue, AreDue, HasMore, may_count, most_entries}

-- ---- marks

-- an entry of a group, where another of it follows
abbrev pub unfinished : Stamp → Entry → Stamped
unfinished stamp e = stamped stamp true e

-- the entries of one stamp, of which another follows each but the last, and that one where this is told
abbrev pub marked : Stamp → List Entry → Bool → History
marked stamp [] more = []
marked stamp (e ∷ []) more = stamped stamp more e ∷ []
marked stamp (e ∷ next ∷ es) more = unfinished stamp e ∷ marked stamp (next ∷ es) more

-- where no other follows, they are a group
pub marked-grouped : (stamp : Stamp) (es : List Entry) → marked stamp es false ≡ grouped stamp es
marked-grouped stamp [] = refl
marked-grouped stamp (e ∷ []) = refl
marked-grouped stamp (e ∷ next ∷ es) = ap (λ (h : History). unfinished stamp e ∷ h) (marked-grouped stamp (next ∷ es))

pub marked-unfinished : (stamp : Stamp) (es : List Entry) → map (unfinished stamp) es ≡ marked stamp es true
marked-unfinished stamp [] = refl
marked-unfinished stamp (e ∷ []) = refl
marked-unfinished stamp (e ∷ next ∷ es) =
    ap (λ (h : History). unfinished stamp e ∷ h) (marked-unfinished stamp (next ∷ es))

-- one more behind those that another follows
pub marked-more : (stamp : Stamp) (es : List Entry) (e : Entry) (more : Bool)
    → map (unfinished stamp) es ++ stamped stamp more e ∷ [] ≡ marked stamp (es ++ e ∷ []) more
marked-more stamp [] e more = refl
marked-more stamp (x ∷ []) e more = refl
marked-more stamp (x ∷ y ∷ es) e more =
    ap (λ (h : History). unfinished stamp x ∷ h) (marked-more stamp (y ∷ es) e more)

pub map-more : (stamp : Stamp) (es : List Entry) (e : Entry)
    → map (unfinished stamp) es ++ unfinished stamp e ∷ [] ≡ map (unfinished stamp) (es ++ e ∷ [])
map-more stamp [] e = refl
map-more stamp (x ∷ es) e = ap (λ (h : History). unfinished stamp x ∷ h) (map-more stamp es e)

unfinished-more : (stamp : Stamp) (es : List Entry) → AllByRecursion HasMore (map (unfinished stamp) es)
unfinished-more stamp [] = tt
unfinished-more stamp (e ∷ es) = (refl, unfinished-more stamp es)

-- ---- beginnings

-- each of the entries may stand behind the first and those before it
abbrev pub AreBehind : Tables → Stamp → Entry → List Entry → List Entry → Type 0
AreBehind t stamp first before [] = Unit {0}
AreBehind t stamp first before (e ∷ es) =
    IsBehind t stamp first (map (unfinished stamp) before) e × AreBehind t stamp first (before ++ e ∷ []) es

pub behind-next : (t : Tables) (stamp : Stamp) (first : Entry) (before es : List Entry) (e : Entry)
    → AreBehind t stamp first before es
    → IsBehind t stamp first (map (unfinished stamp) (before ++ es)) e → AreBehind t stamp first before (es ++ e ∷ [])
behind-next t stamp first before [] e are is =
    (subst (λ (b : List Entry). IsBehind t stamp first (map (unfinished stamp) b) e) (append-nil before) is, tt)
behind-next t stamp first before (x ∷ es) e are is = (
  are.0,
  behind-next t stamp first (before ++ x ∷ []) es e are.1
      (subst (λ (b : List Entry). IsBehind t stamp first (map (unfinished stamp) b) e)
      (sym (append_assoc before (x ∷ []) es)) is),
)

pub behind-front : (t : Tables) (stamp : Stamp) (first : Entry) (before es more : List Entry)
    → AreBehind t stamp first before (es ++ more) → AreBehind t stamp first before es
behind-front t stamp first before [] more are = tt
behind-front t stamp first before (e ∷ es) more are =
    (are.0, behind-front t stamp first (before ++ e ∷ []) es more are.1)

-- a first entry and those behind it, of which another follows the last where this is told, on the history before them
pub record IsBeginning (H : History) (stamp : Stamp) (first : Entry) (behind : List Entry) (more : Bool) : Type 0 where
  pub may : IsFirst H (unfinished stamp first)
  pub behind_are : AreBehind (tables_of H) stamp first [] behind
  pub room : 1 ≤ length behind → nat_lt (length behind) (most_entries (tables_of H) stamp.maker first) ≡ true
  pub count : may_count (tables_of H) (unfinished stamp first) (length behind + 1) more ≡ true

-- entries are such
pub record Begins (H es : History) : Type 0 where
  pub stamp : Stamp
  pub first : Entry
  pub behind : List Entry
  pub more : Bool
  pub es_are : es ≡ marked stamp (first ∷ behind) more
  pub beginning : IsBeginning H stamp first behind more

-- the mark makes no difference to whether an entry may be the first
pub first-marked : (H : History) (stamp : Stamp) (m n : Bool) (e : Entry) → IsFirst H (stamped stamp m e)
    → IsFirst H (stamped stamp n e)
first-marked H stamp m n e f = record { giver = f.giver; key = f.key; new = f.new; drawn = f.drawn }

-- ---- what is due is a beginning

module _ (H : History) (stamp : Stamp) (first : Entry) where
  abbrev t : Tables
  t = tables_of H

  -- with one more entry behind it
  longer : (before : List Entry) (s : Stamped) → IsBeginning H stamp first before true
      → IsDue H (map (unfinished stamp) (first ∷ before)) s
      → IsBeginning H stamp first (before ++ s.entry ∷ []) s.more
  longer before s begun due =
      let n : length (before ++ s.entry ∷ []) ≡ length before + 1 = length-append before (s.entry ∷ []) in
      let m : length (map (unfinished stamp) before) ≡ length before = length-map before (unfinished stamp) in
      record {
        may = begun.may;
        behind_are = behind-next t stamp first [] before s.entry begun.behind_are due.turn.1;
        room = λ some. ap (λ (k : ℕ). nat_lt k (most_entries t stamp.maker first)) n ∙ begun.count;
        count = ap (λ (k : ℕ). may_count t (unfinished stamp first) k s.more)
            (let e : length (before ++ s.entry ∷ []) + 1 ≡ length (map (unfinished stamp) before) + 2
            = omega (arith, n, m) in e)
            ∙ due.turn.2;
      }

  gathered : (before : List Entry) (s : Stamped) (es : History) → IsBeginning H stamp first before true
      → AreDue H (map (unfinished stamp) (first ∷ before)) (s ∷ es)
      → Begins H (map (unfinished stamp) (first ∷ before) ++ s ∷ es)
  gathered before s [] begun due = record {
    stamp = stamp;
    first = first;
    behind = before ++ s.entry ∷ [];
    more = s.more;
    es_are = ap (λ (x : Stamp). map (unfinished stamp) (first ∷ before) ++ stamped x s.more s.entry ∷ []) due.0.turn.0
        ∙ marked-more stamp (first ∷ before) s.entry s.more;
    beginning = longer before s begun due.0;
  }
  gathered before s (next ∷ es) begun due =
      let goes : s.more ≡ true = last-more (map (unfinished stamp) (first ∷ before)) s due.1.0.unfinished in
      let is : s ≡ unfinished stamp s.entry =
      (λ i. stamped (due.0.turn.0 i) (goes i) s.entry) in
      let rows : map (unfinished stamp) (first ∷ before) ++ s ∷ []
      ≡ map (unfinished stamp) (first ∷ before ++ s.entry ∷ []) =
      ap (λ (x : Stamped). map (unfinished stamp) (first ∷ before) ++ x ∷ []) is
      ∙ map-more stamp (first ∷ before) s.entry in
      subst (λ (g : History). Begins H g)
      (ap (λ (h : History). h ++ next ∷ es) (sym rows)
      ∙ append_assoc (map (unfinished stamp) (first ∷ before)) (s ∷ []) (next ∷ es))
      (gathered (before ++ s.entry ∷ []) next es
      (subst (λ (b : Bool). IsBeginning H stamp first (before ++ s.entry ∷ []) b) goes (longer before s begun due.0))
      (subst (λ (h : History). AreDue H h (next ∷ es)) rows due.1))
    where
      last-more : (g : History) (s : Stamped) → AllByRecursion HasMore (g ++ s ∷ []) → s.more ≡ true
      last-more [] s all = all.0
      last-more (x ∷ g) s all = last-more g s all.1

-- entries that are due, if there are any
pub due-begins : (H : History) (s : Stamped) (es : History) → AreDue H [] (s ∷ es) → Begins H (s ∷ es)
due-begins H s es due = by es due.1
  where
    begun : IsBeginning H s.stamp s.entry [] s.more
    begun = record {
      may = first-marked H s.stamp s.more true s.entry due.0.turn.0;
      behind_are = tt;
      room = λ some. absurd (omega (arith, some));
      count = due.0.turn.1;
    }

    by : (es : History) → AreDue H (s ∷ []) es → Begins H (s ∷ es)
    by [] rest =
        record { stamp = s.stamp; first = s.entry; behind = []; more = s.more; es_are = refl; beginning = begun }
    by (next ∷ es) rest =
        let goes : s.more ≡ true = rest.0.unfinished.0 in
        let is : s ≡ unfinished s.stamp s.entry = (λ i. stamped s.stamp (goes i) s.entry) in
        subst (λ (x : Stamped). Begins H (x ∷ next ∷ es)) (sym is)
        (gathered H s.stamp s.entry [] next es (subst (λ (b : Bool). IsBeginning H s.stamp s.entry [] b) goes begun)
        (subst (λ (x : Stamped). AreDue H (x ∷ []) (next ∷ es)) is rest))

-- ---- a beginning is due

module _ (H : History) (stamp : Stamp) (first : Entry) (more : Bool) where
  -- the last of its entries, and those before
  spread : (before : List Entry) (e : Entry) (after : List Entry)
      → AllByRecursion IsBoundedEntry (marked stamp (e ∷ after) more)
      → AreBehind (tables_of H) stamp first before (e ∷ after)
      → nat_lt (length (before ++ e ∷ after)) (most_entries (tables_of H) stamp.maker first) ≡ true
      → may_count (tables_of H) (unfinished stamp first) (length (before ++ e ∷ after) + 1) more ≡ true
      → AreDue H (map (unfinished stamp) (first ∷ before)) (marked stamp (e ∷ after) more)
  spread before e [] bounded are room count = (
    record {
      unfinished = unfinished-more stamp (first ∷ before);
      bounded = bounded.0;
      turn = (refl, are.0, ap (λ (k : ℕ). may_count (tables_of H) (unfinished stamp first) k more) places ∙ count);
    },
    tt,
  )
    where
      places : length (map (unfinished stamp) before) + 2 ≡ length (before ++ e ∷ []) + 1
      places =
          let n = length-append before (e ∷ []) in
          let m = length-map before (unfinished stamp) in
          omega (arith, n, m)
  spread before e (next ∷ after) bounded are room count = (
    record {
      unfinished = unfinished-more stamp (first ∷ before);
      bounded = bounded.0;
      turn = (
        refl,
        are.0,
        nat_lt-trans (length (map (unfinished stamp) before) + 2) (length (before ++ e ∷ next ∷ after))
            (most_entries (tables_of H) stamp.maker first) fewer room,
      );
    },
    subst (λ (h : History). AreDue H h (marked stamp (next ∷ after) more))
        (sym (map-more stamp (first ∷ before) e))
        (spread (before ++ e ∷ []) next after bounded.1 are.1
        (ap (λ (es : List Entry). nat_lt (length es) (most_entries (tables_of H) stamp.maker first)) whole ∙ room)
        (ap (λ (es : List Entry). may_count (tables_of H) (unfinished stamp first) (length es + 1) more) whole ∙ count)),
  )
    where
      whole : (before ++ e ∷ []) ++ next ∷ after ≡ before ++ e ∷ next ∷ after
      whole = append_assoc before (e ∷ []) (next ∷ after)

      fewer : length (map (unfinished stamp) before) + 2 ≤ length (before ++ e ∷ next ∷ after)
      fewer =
          let n = length-append before (e ∷ next ∷ after) in
          let m = length-map before (unfinished stamp) in
          omega (arith, n, m)

pub begins-due : (H : History) (stamp : Stamp) (first : Entry) (behind : List Entry) (more : Bool)
    → IsBeginning H stamp first behind more → AllByRecursion IsBoundedEntry (marked stamp (first ∷ behind) more)
    → AreDue H [] (marked stamp (first ∷ behind) more)
begins-due H stamp first [] more begun bounded = (
  record {
    unfinished = tt;
    bounded = bounded.0;
    turn = (first-marked H stamp true more first begun.may, begun.count);
  },
  tt,
)
begins-due H stamp first (e ∷ behind) more begun bounded = (
  record {
    unfinished = tt;
    bounded = bounded.0;
    turn = (
      begun.may,
      nat_lt-trans 1 (suc (length behind)) (most_entries (tables_of H) stamp.maker first) (omega arith)
          (begun.room (omega arith)),
    );
  },
  spread H stamp first more [] e behind bounded.1 begun.behind_are (begun.room (omega arith)) begun.count,
)

-- ---- a beginning of a beginning

-- where others follow, those before them are one of which another follows
pub front-begins : (H : History) (stamp : Stamp) (first : Entry) (front : List Entry) (e : Entry) (after : List Entry)
    (more : Bool) → IsBeginning H stamp first (front ++ e ∷ after) more → IsBeginning H stamp first front true
front-begins H stamp first front e after more begun = record {
  may = begun.may;
  behind_are = behind-front (tables_of H) stamp first [] front (e ∷ after) begun.behind_are;
  room = λ some. nat_lt-trans (length front) (length (front ++ e ∷ after)) most (omega (arith, n)) all;
  count = nat_lt-trans (length front + 1) (length (front ++ e ∷ after)) most (omega (arith, n)) all;
}
  where
    most : ℕ
    most = most_entries (tables_of H) stamp.maker first

    n : length (front ++ e ∷ after) ≡ length front + suc (length after)
    n = length-append front (e ∷ after)

    all : nat_lt (length (front ++ e ∷ after)) most ≡ true
    all = begun.room (omega (arith, n))

-- ---- what is drawn

module _ (t : Tables) (stamp : Stamp) (e : Entry) (is : IsDrawn t stamp e) where
  abbrev pub made : Deed
  made = deed_at (facts_of_tables t (Some stamp.maker)) (shown_in_tables t) stamp is.command

  pub drawn-unbroken : NoneBroken made.checks
  drawn-unbroken = (judged-Ok made.checks tt tt is.accepted).0

  -- the command is accepted
  pub drawn-judged : ◌≡◌ {A = Result Drawn Rule}
      (judge_resolved (facts_of_tables t (Some stamp.maker)) (shown_in_tables t) stamp is.command)
      (Ok (drawn_by (lines_of t.accounts) stamp made))
  drawn-judged = judged-none made.checks (drawn_by (lines_of t.accounts) stamp made) drawn-unbroken

  -- and its group begins with the entry
  pub drawn-group : (drawn_by (lines_of t.accounts) stamp made).group ≡ grouped stamp (e ∷ made.behind)
  drawn-group =
      ap (λ (maker : ℕ). grouped (record stamp { maker = maker }) (made.first ∷ made.behind)) is.maker
      ∙ ap (λ (first : Entry). grouped stamp (first ∷ made.behind)) is.first
