-- SPDX-License-Identifier: Apache-2.0 OR MIT
-- What is so of a store that is read entry by entry: its rows continue a legal history exactly where each entry is due.
use Rattle.std.proofs.Common.{ℕ, true, false, ◌≡◌, ◌≤◌, List, [], ◌∷◌, ◌++◌, length, refl, sym, ap, subst, ◌∙◌, arith}
use Rattle.std.proofs.Common.{append_assoc, append-nil, length-append, cond, Option, Some, None, Result, Ok, Err}
use Rattle.std.specs.Prelude.{IfErr}
use Rattle.std.specs.List.{AllByRecursion}
use Rattle.std.proofs.lemmas.Bool.{true≢false}
use Rattle.cr_base.specs.declared.entry.Entry.{Entry}
use Rattle.cr_base.specs.declared.entry.Entry.TheVariants as entries
use Rattle.cr_base.specs.declared.entry.Stamped.{Stamped}
use Rattle.cr_base.specs.declared.row.Row.{Row}
use Rattle.cr_base.specs.Bulk.{IsRowEntry}
use Rattle.cr_base.specs.History.{History}
use Rattle.cr_base.specs.Rows.{row_of, rows_of, IsBoundedEntry}
use Rattle.cr_base.specs.Tables.{no_tables, tables_after, tables_from, tables_of, FitInTurn, Tables}
use Rattle.cr_base.proofs.ResolvingLaws.{IsLone}
use Rattle.cr_history.proofs.TableAgreement.{rows_of-append, tables_of-append, FitInTurn-behind}
use Rattle.cr_log.specs.Given.{MayFollow}
use Rattle.cr_policy.specs.Legal.{moved, IsMoveAllowed, Legal, Move}
use Rattle.cr_policy.proofs.LegalLaws.{Legal-fits, Legal-moved}
use Rattle.cr_beginnings.specs.Beginnings.{may_count, AreDue, HasMore, InTurn, is_of_row, IsBegun, IsDue, IsGroup}
use Rattle.cr_beginnings.proofs.BeginningsExact.{begun-may, beginnings, due-bounded, may-moved}
use Rattle.cr_beginnings.proofs.BeginningRows.{row-behind, several}
use Rattle.cr_beginnings.proofs.GroupLegal.{may_move-group}
use Rattle.cr_beginnings.proofs.GroupRows.{head_is, legal-bounded, rows-split, tail_is}
use Rattle.cr_judge.specs.Rows.{AreEarlier, AreRowEntries}
use Rattle.cr_book.specs.Opening.{Continue}
use Rattle.cr_book.specs.Reading.{IfRows, IsCutStore, IsReading, IsRowRefused, IsWholeGroup}
use Rattle.cr_book.specs.declared.reading.ReadError.{ReadError}
use Rattle.cr_book.specs.declared.reading.ReadError.TheVariants as errors
use Rattle.cr_book.proofs.FollowLaws.{move-follows}
use Rattle.cr_book.proofs.OpeningOnward.{Onward, onward}

-- ---- legal histories and their rows

-- one legal history has its rows
pub one_history : (G H : History) → Legal G → Legal H → rows_of H ≡ rows_of G → H ≡ G
one_history G H first then same =
    let split =
    rows-split G H [] (legal-bounded G first) (legal-bounded H then) (same ∙ sym (append-nil (rows_of G))) in
    split.1 ∙ ap (λ (x : History). G ++ x) (no_rows split.0 split.2) ∙ append-nil G
  where
    no_rows : (tail : History) → rows_of tail ≡ [] → tail ≡ []
    no_rows [] e = refl
    no_rows (e ∷ tail) none = absurd (not_none (row_of e) (rows_of tail) none)
      where
        not_none : (r : Row) (rs : List Row) → r ∷ rs ≡ [] → ⊥
        not_none r rs e = cc (e)

-- ---- entries that are due

-- the last of them, behind those before it
due-last : (H before es : History) (s : Stamped) → AreDue H before (es ++ s ∷ []) → IsDue H (before ++ es) s
due-last H before [] s due = subst (λ (b : History). IsDue H b s) (sym (append-nil before)) due.0
due-last H before (e ∷ es) s due =
    subst (λ (b : History). IsDue H b s) (append_assoc before (e ∷ []) es) (due-last H (before ++ e ∷ []) es s due.1)

-- and one more
due-next : (H before es : History) (s : Stamped) → AreDue H before es → IsDue H (before ++ es) s
    → AreDue H before (es ++ s ∷ [])
due-next H before [] s due next = (subst (λ (b : History). IsDue H b s) (append-nil before) next, tt)
due-next H before (e ∷ es) s due next = (
  due.0,
  due-next H (before ++ e ∷ []) es s due.1
      (subst (λ (b : History). IsDue H b s) (sym (append_assoc before (e ∷ []) es)) next),
)

module _ (log begun : History) (legal : Legal log) (due : AreDue log [] begun) where
  begins : (es : History) → begun ≡ es → Continue (rows_of log ++ rows_of es)
  begins [] is = record {
    history = log;
    legal = legal;
    after = [];
    rows_are = sym (append-nil (rows_of log)) ∙ sym (append-nil (rows_of log ++ []));
  }
  begins (first ∷ es) is =
      let b : IsBegun log (first ∷ es) =
      ((beginnings log legal).begins first es).0 (subst (λ (g : History). AreDue log [] g) is due) in
      record {
        history = moved log b.move;
        legal = Legal-moved log b.move legal b.allowed;
        after = rows_of b.after;
        rows_are = ap rows_of b.adds ∙ rows_of-append log ((first ∷ es) ++ b.after)
            ∙ ap (λ (x : List Row). rows_of log ++ x) (rows_of-append (first ∷ es) b.after)
            ∙ sym (append_assoc (rows_of log) (rows_of (first ∷ es)) (rows_of b.after));
      }

  -- entries that are due continue the history
  pub due-continue : Continue (rows_of log ++ rows_of begun)
  due-continue = begins begun refl

  both-bounded : (es : History) (s : Stamped) → AllByRecursion IsBoundedEntry es → IsBoundedEntry s
      → AllByRecursion IsBoundedEntry (es ++ s ∷ [])
  both-bounded [] s all one = (one, tt)
  both-bounded (e ∷ es) s all one = (all.0, both-bounded es s all.1 one)

  -- a group that begins a list as such entries and one more do has them
  group-reaches : (g begun further tail : History) (next : Stamped) → IsGroup g → AllByRecursion HasMore begun
      → g ++ further ≡ begun ++ next ∷ tail → (rest : History) × (g ≡ begun ++ next ∷ rest)
  group-reaches [] begun further tail next ig marks e = elim ig [ ]
  group-reaches (x ∷ g) [] further tail next ig marks e =
      (g, ap (λ (s : Stamped). s ∷ g) (head_is x next (g ++ further) tail e))
  group-reaches (x ∷ []) (b ∷ begun) further tail next ig marks e =
      absurd
      (true≢false (sym marks.0 ∙ ap (λ (s : Stamped). s.more) (sym (head_is x b further (begun ++ next ∷ tail) e))
      ∙ ig))
  group-reaches (x ∷ y ∷ g) (b ∷ begun) further tail next ig marks e =
      let rest = group-reaches (y ∷ g) begun further tail next ig.1 marks.1
      (tail_is x b (y ∷ g ++ further) (begun ++ next ∷ tail) e) in (
        rest.0,
        ap (λ (s : Stamped). s ∷ y ∷ g) (head_is x b (y ∷ g ++ further) (begun ++ next ∷ tail) e)
            ∙ ap (λ (h : History). b ∷ h) rest.1,
      )

  -- an entry with whose row they continue a legal history is due behind them
  row-due : (next : Stamped) → AllByRecursion HasMore begun → IsBoundedEntry next
      → Continue ((rows_of log ++ rows_of begun) ++ row_of next ∷ []) → IsDue log begun next
  row-due next more bounded goes = due-last log [] begun next (all-due begun is_begun)
    where
      on : Onward log (rows_of begun ++ row_of next ∷ [])
      on = onward log (rows_of begun) (row_of next) legal
          (subst (λ (x : List Row). Continue x) (append_assoc (rows_of log) (rows_of begun) (row_of next ∷ [])) goes)

      split : (tail : History) × (on.group ++ on.further ≡ (begun ++ next ∷ []) ++ tail) × (rows_of tail ≡ on.after)
      split = rows-split (begun ++ next ∷ []) (on.group ++ on.further) on.after
          (both-bounded begun next (due-bounded log [] begun due) bounded) on.bounded
          (on.spelled ∙ ap (λ (x : List Row). x ++ on.after) (sym (rows_of-append begun (next ∷ []))))

      reached : (rest : History) × (on.group ≡ begun ++ next ∷ rest)
      reached = group-reaches on.group begun on.further split.0 next (may_move-group log on.group on.move) more
          (split.1 ∙ append_assoc begun (next ∷ []) split.0)

      is_begun : IsBegun log (begun ++ next ∷ [])
      is_begun =
          let m = may-moved log on.group on.move in
          record {
            move = m.0;
            allowed = m.1;
            after = reached.0;
            adds = m.2 ∙ ap (λ (g : History). log ++ g)
                (reached.1 ∙ sym (append_assoc begun (next ∷ []) reached.0));
          }

      all-due : (es : History) → IsBegun log (es ++ next ∷ []) → AreDue log [] (es ++ next ∷ [])
      all-due [] b = ((beginnings log legal).begins next []).1 b
      all-due (e ∷ es) b = ((beginnings log legal).begins e (es ++ next ∷ [])).1 b

  -- of a group that is whole
  whole-group : (es : History) (last : Stamped) (t : Tables) → begun ≡ es ++ last ∷ [] → last.more ≡ false
      → t ≡ tables_of log → IsWholeGroup log t begun
  whole-group es last t is no_more same =
      subst (λ (g : History). IsWholeGroup log t g) (sym is) (record {
        legal = next;
        fits = subst (λ (x : Tables). FitInTurn x group) (sym same)
            (FitInTurn-behind no_tables log group (Legal-fits (log ++ group) next));
        follows = subst (λ (g : History). MayFollow log g) (append-nil group)
            (move-follows log (group ++ []) legal (begun-may log group some (record {
              move = a.0;
              allowed = a.1;
              after = [];
              adds = a.2 ∙ ap (λ (g : History). log ++ g) (sym (append-nil group));
            })));
      })
    where
      group : History
      group = es ++ last ∷ []

      a : (move : Move) × IsMoveAllowed log move × (moved log move ≡ log ++ (es ++ last ∷ []))
      a = (beginnings log legal).adds es last (subst (λ (g : History). AreDue log [] g) is due) no_more

      next : Legal (log ++ group)
      next = subst (λ (h : History). Legal h) a.2 (Legal-moved log a.0 legal a.1)

      some : 1 ≤ length group
      some = let n = length-append es (last ∷ []) in omega (arith, n)

-- ---- rows of a bulk that are begun

-- entries that fit in their turn, without those behind them
fits-front : (t : Tables) (H g : History) → FitInTurn t (H ++ g) → FitInTurn t H
fits-front t [] g fits = tt
fits-front t (s ∷ H) g fits = (fits.0, fits-front (tables_after t s) H g fits.1)

row-kind : (maker : ℕ) (e : Entry) → is_of_row maker e ≡ true → IsRowEntry e
row-kind maker (entries.Conflict paper user on) is = tt
row-kind maker (entries.Assigned paper user kind ordinal) is = tt
row-kind maker (entries.Unassigned paper user ordinal) is = tt
row-kind maker (entries.Tagged paper tag on) is = tt
row-kind maker e is = absurd (true≢false (sym is))

if-rows : {A : Type 0} (e : Entry) → (IsLone e → A) → IfRows e A
if-rows (entries.Registered user name digest) a = tt
if-rows (entries.Submitted paper title abstract) a = tt
if-rows e a = a tt

-- where another follows each, rows may stand behind them
pub due-earlier : (log : History) (t : Tables) (first : Stamped) (rest : History) → Legal log → t ≡ tables_of log
    → AreDue log [] (first ∷ rest) → AllByRecursion HasMore (first ∷ rest)
    → IfRows first.entry (AreEarlier t (first ∷ rest))
due-earlier log t first rest legal same due more = if-rows first.entry (λ lone. record {
  rows = (
    row-kind first.stamp.maker first.entry
        (several (tables_of log) first.stamp.maker first.entry 1 lone (omega arith)
        (ap (may_count (tables_of log) first 1) (sym more.0) ∙ due.0.turn.1)).of_row,
    behind lone [] rest due.1,
  );
  fits = subst (λ (x : Tables). FitInTurn x (first ∷ rest)) (sym same)
      (fits-front (tables_of log) (first ∷ rest) b.after
      (FitInTurn-behind no_tables log ((first ∷ rest) ++ b.after)
      (subst (λ (h : History). FitInTurn no_tables h) b.adds
      (Legal-fits (moved log b.move) (Legal-moved log b.move legal b.allowed)))));
})
  where
    b : IsBegun log (first ∷ rest)
    b = ((beginnings log legal).begins first rest).0 due

    behind : IsLone first.entry → (before es : History) → AreDue log (first ∷ before) es → AreRowEntries es
    behind lone before [] are = tt
    behind lone before (e ∷ es) are = (
      row-kind first.stamp.maker e.entry
          (row-behind (tables_of log) first.stamp first.entry before e.entry lone are.0.turn.1).0,
      behind lone (before ++ e ∷ []) es are.1,
    )

-- and so behind those at hand
pub due-rows : (log : History) (t : Tables) (begun rest : History) (first : Stamped) → Legal log → t ≡ tables_of log
    → begun ≡ first ∷ rest → AreDue log [] begun → AllByRecursion HasMore begun
    → IfRows first.entry (AreEarlier t begun)
due-rows log t begun rest first legal same is due more =
    subst (λ (b : History). IfRows first.entry (AreEarlier t b)) (sym is)
    (due-earlier log t first rest legal same (subst (λ (b : History). AreDue log [] b) is due)
    (subst (λ (b : History). AllByRecursion HasMore b) is more))

-- ---- the last of the entries

record Last (es : History) : Type 0 where
  front : History
  last : Stamped
  is : es ≡ front ++ last ∷ []

last-of : (es : History) → (es ≡ [] → ⊥) → Last es
last-of [] some = absurd (some refl)
last-of (s ∷ []) some = record { front = []; last = s; is = refl }
last-of (s ∷ e ∷ es) some =
    let l = last-of (e ∷ es) (λ none. no_more (sym none)) in
    record { front = s ∷ l.front; last = l.last; is = ap (λ (g : History). s ∷ g) l.is }
  where
    no_more : [] ≡ e ∷ es → ⊥
    no_more h = cc (h)

behind-some : (xs : History) (x : Stamped) → [] ≡ xs ++ x ∷ [] → ⊥
behind-some [] x e = cc (e)
behind-some (y ∷ ys) x e = cc (e)

last-same : (xs ys : History) (x y : Stamped) → xs ++ x ∷ [] ≡ ys ++ y ∷ [] → x ≡ y
last-same [] [] x y e = head_is x y [] [] e
last-same [] (b ∷ ys) x y e = absurd (behind-some ys y (tail_is x b [] (ys ++ y ∷ []) e))
last-same (a ∷ xs) [] x y e = absurd (behind-some xs x (sym (tail_is a y (xs ++ x ∷ []) [] e)))
last-same (a ∷ xs) (b ∷ ys) x y e = last-same xs ys x y (tail_is a b (xs ++ x ∷ []) (ys ++ y ∷ []) e)

last-more : (g : History) (s : Stamped) → AllByRecursion HasMore (g ++ s ∷ []) → s.more ≡ true
last-more [] s all = all.0
last-more (x ∷ g) s all = last-more g s all.1

more-behind : (es : History) (s : Stamped) → AllByRecursion HasMore es → s.more ≡ true
    → AllByRecursion HasMore (es ++ s ∷ [])
more-behind [] s all more = (more, tt)
more-behind (e ∷ es) s all more = (all.0, more-behind es s all.1 more)

some_is : (x y : Row) → Some x ≡ Some y → x ≡ y
some_is x y e = cc (e)

none_some : (x : Row) → None ≡ Some x → ⊥
none_some x e = cc (e)

-- ---- a row more

module _ (log : History) (t : Tables) (begun : History) (end : Option Row) (reading : IsReading log t begun end) where
  continued : Continue (rows_of log ++ rows_of begun)
  continued = due-continue log begun reading.legal reading.due

  -- one that is no entry's is refused
  pub refused-none : (row : Row) → ((s : Stamped) → IsBoundedEntry s → row_of s ≡ row → ⊥)
      → IsRowRefused (rows_of log ++ rows_of begun) row (errors.Bad row)
  refused-none row none = (
    refl,
    continued,
    λ goes. among goes.history (rows_of log ++ rows_of begun) goes.after
        (legal-bounded goes.history goes.legal)
        (goes.rows_are ∙ append_assoc (rows_of log ++ rows_of begun) (row ∷ []) goes.after),
  )
    where
      among : (H : History) (before after : List Row) → AllByRecursion IsBoundedEntry H
          → rows_of H ≡ before ++ row ∷ after → ⊥
      among [] [] after all is = cc (is)
      among [] (p ∷ before) after all is = cc (is)
      among (s ∷ H) [] after all is = none s all.0 (head_is (row_of s) row (rows_of H) after is)
      among (s ∷ H) (p ∷ before) after all is =
          among H before after all.1 (tail_is (row_of s) p (rows_of H) (before ++ row ∷ after) is)

  module _ (row : Row) (next : Stamped) (bounded : IsBoundedEntry next) (row_is : row_of next ≡ row) where
    -- and one whose entry may not stand there
    pub refused-entry : (InTurn log begun next → ⊥) → IsRowRefused (rows_of log ++ rows_of begun) row (errors.Bad row)
    refused-entry not = (
      refl,
      continued,
      λ goes. not (row-due log begun reading.legal reading.due next reading.unfinished bounded
          (subst (λ (r : Row). Continue ((rows_of log ++ rows_of begun) ++ r ∷ [])) (sym row_is) goes)).turn,
    )

    module _ (turn : InTurn log begun next) where
      due : AreDue log [] (begun ++ next ∷ [])
      due = due-next log [] begun next reading.due
          (record { unfinished = reading.unfinished; bounded = bounded; turn = turn })

      pub goes-on : next.more ≡ true → IsReading log t (begun ++ next ∷ []) (Some row)
      goes-on more = record {
        legal = reading.legal;
        same = reading.same;
        due = due;
        unfinished = more-behind begun next reading.unfinished more;
        last = λ before s is. ap Some (sym row_is ∙ ap row_of (last-same begun before next s is));
        none = λ none. absurd (none_some row (sym none));
        some = λ none. absurd (behind-some begun next (sym none));
      }

      pub goes-whole : next.more ≡ false → IsWholeGroup log t (begun ++ next ∷ [])
      goes-whole no_more =
          whole-group log (begun ++ next ∷ []) reading.legal due begun next t refl no_more reading.same

  -- ---- the end

  -- entries that are begun and cut off
  pub cut-off : (row : Row) → end ≡ Some row → IsCutStore log begun row
  cut-off row is =
      let l = last-of begun (λ none. none_some row (sym (reading.some none) ∙ is)) in
      let row_is : row ≡ row_of l.last = some_is row (row_of l.last) (sym is ∙ reading.last l.front l.last l.is) in
      record {
        before = rows_of l.front;
        last_is = ap rows_of l.is ∙ rows_of-append l.front (l.last ∷ [])
            ∙ ap (λ (r : Row). rows_of l.front ++ r ∷ []) (sym row_is);
        cut = record {
          continue = continued;
          more = ap (λ (r : Row). r.more) row_is
              ∙ ap (λ m. cond m 1 0) (last-more l.front l.last
              (subst (λ (g : History). AllByRecursion HasMore g) l.is reading.unfinished));
        };
      }

-- ---- no group that is begun

-- nothing was read
pub read-nothing : (log : History) (t : Tables) (begun : History) → log ≡ [] → t ≡ no_tables → begun ≡ []
    → IsReading log t begun None
read-nothing log t begun log_is t_is none =
    subst (λ (h : History). IsReading log t h None) (sym none) (record {
      legal = subst (λ (h : History). Legal h) (sym log_is) ([], refl);
      same = t_is ∙ ap tables_of (sym log_is);
      due = tt;
      unfinished = tt;
      last = λ before s is. absurd (behind-some before s is);
      none = λ is. refl;
      some = λ is. refl;
    })

-- a whole group was added
pub read-whole : (log items : History) (t now : Tables) (group begun : History) → IsWholeGroup log t group
    → t ≡ tables_of log → items ≡ log ++ group → now ≡ tables_from t group → begun ≡ []
    → IsReading items now begun None
read-whole log items t now group begun whole same is_items is_now none =
    subst (λ (h : History). IsReading items now h None) (sym none) (record {
      legal = subst (λ (h : History). Legal h) (sym is_items) whole.legal;
      same = is_now ∙ ap (λ (x : Tables). tables_from x group) same ∙ sym (tables_of-append log group)
          ∙ ap tables_of (sym is_items);
      due = tt;
      unfinished = tt;
      last = λ before s is. absurd (behind-some before s is);
      none = λ is. refl;
      some = λ is. refl;
    })

pub whole-rows : (log items group begun : History) → items ≡ log ++ group → begun ≡ []
    → rows_of items ++ rows_of begun ≡ rows_of log ++ rows_of group
whole-rows log items group begun is_items none =
    ap (λ (g : History). rows_of items ++ rows_of g) none ∙ append-nil (rows_of items) ∙ ap rows_of is_items
    ∙ rows_of-append log group

-- one more entry is one more row
pub rows-more : (log begun items : History) (next : Stamped) (row : Row) → items ≡ begun ++ next ∷ []
    → row_of next ≡ row → rows_of log ++ rows_of items ≡ (rows_of log ++ rows_of begun) ++ row ∷ []
rows-more log begun items next row is_items row_is =
    ap (λ (g : History). rows_of log ++ rows_of g) is_items
    ∙ ap (λ (x : List Row). rows_of log ++ x) (rows_of-append begun (next ∷ []))
    ∙ ap (λ (r : Row). rows_of log ++ (rows_of begun ++ r ∷ [])) row_is
    ∙ sym (append_assoc (rows_of log) (rows_of begun) (row ∷ []))

-- want of memory says nothing of the row
pub memory-refused : {A : Type 0} (rows : List Row) (row : Row) (r : Result A ReadError)
    → IfErr r (λ e. e ≡ errors.OutOfMemory) → IfErr r (λ e. IsRowRefused rows row e)
memory-refused {A} rows row (Ok after) is = tt
memory-refused {A} rows row (Err e) is = subst (λ (x : ReadError). IsRowRefused rows row x) (sym is) tt
