-- SPDX-License-Identifier: Apache-2.0 OR MIT
-- Rows that a keeper tells, read one behind another: what is so of all of them by what is so of each.
use Rattle.std.proofs.Common.{ℕ, ◌≡◌, ◌+◌, ◌-◌, ◌⊎◌, inl, inr, List, [], ◌∷◌, ◌++◌, length, take, drop, cond, zero, suc}
use Rattle.std.proofs.Common.{refl, sym, ap, subst, ◌∙◌, arith, add-one, append_assoc, append-nil, length-append}
use Rattle.std.proofs.Common.{Option, Some, None, IfSome, Result, Ok, Err}
use Rattle.std.specs.Prelude.{slice_get, ◌≢◌}
use Rattle.std.proofs.Math.Seq.{take-length}
use Rattle.std.proofs.lemmas.List.{take-append-drop}
use Rattle.cr_base.specs.declared.row.Row.{Row}
use Rattle.cr_base.specs.History.{History}
use Rattle.cr_base.specs.Rows.{rows_of, row_of}
use Rattle.cr_base.specs.Tables.{Tables}
use Rattle.cr_ports.specs.Count.{Rises}
use Rattle.cr_ports.specs.Keeping.{HasCause}
use Rattle.cr_ports.specs.declared.keeper.KeeperError.{KeeperError}
use Rattle.cr_ports.specs.declared.keeper.KeeperError.TheVariants as refusals
use Rattle.cr_book.specs.declared.opening.OpenError.{OpenError}
use Rattle.cr_book.specs.declared.opening.OpenError.TheVariants as errors
use Rattle.cr_book.specs.declared.reading.ReadError.{ReadError}
use Rattle.cr_book.specs.declared.reading.ReadError.TheVariants as refused
use Rattle.cr_book.specs.Opening.{Continue, AreCutOff, IsBadAt, IsCounted, Explains, Opens}
use Rattle.cr_book.specs.Reading.{IsRowRefused, IsCutStore, IsWholeStore, refusal, untold}
use Rattle.cr_book.specs.Seen.{SeenBook}
use Rattle.cr_history.specs.Invariants.{IsWhole}
use Rattle.cr_policy.specs.Legal.{Legal}
use Rattle.cr_policy.proofs.LegalLaws.{Legal-whole}
use Rattle.cr_book.proofs.OpeningLaws.{one_history}

-- ---- errors that say nothing of rows

explains-untold : (rows : List Row) (error : KeeperError) → Explains rows (untold error)
explains-untold rows refusals.Failed = tt
explains-untold rows refusals.OutOfMemory = tt

pub untold-explains : (told : Option (List Row)) (error : KeeperError) (e : OpenError) → e ≡ untold error
    → IfSome told (λ rows. Explains rows e)
untold-explains None error e is = tt
untold-explains (Some rows) error e is =
    subst (λ (x : OpenError). Explains rows x) (sym is) (explains-untold rows error)

-- a call that gave no answer rose the count where it failed, and nowhere else
pub untold-counted : {A T : Type 0} (before mid now : ℕ) (error : KeeperError) (e : OpenError) → mid ≡ before
    → HasCause {T = A} mid now (Err error) → e ≡ untold error → IsCounted {T = T} before now (Err e)
untold-counted {A} {T} before mid now refusals.Failed e same cause is =
    let later = cause.later in
    record {
      later = omega (arith, later, same);
      failed = λ told. subst (λ (n : ℕ). Rises n now) same (cause.failed refl);
      steady = λ other. absurd (other (ap (λ (x : OpenError). Err x) is));
    }
untold-counted {A} {T} before mid now refusals.OutOfMemory e same cause is =
    let later = cause.later in
    record {
      later = omega (arith, later, same);
      failed = λ told. absurd (no_fault (sym (ap (λ (x : OpenError). Err x) is) ∙ told));
      steady = λ other. cause.steady no_failure ∙ same;
    }
  where
    no_fault : ◌≡◌ {A = Result T OpenError} (Err errors.OutOfMemory) (Err errors.KeeperFault) → ⊥
    no_fault e = cc (e)

    no_failure : ◌≡◌ {A = Result A KeeperError} (Err refusals.OutOfMemory) (Err refusals.Failed) → ⊥
    no_failure e = cc (e)

not_failed : {A : Type 0} (x : A) → ◌≡◌ {A = Result A KeeperError} (Ok x) (Err refusals.Failed) → ⊥
not_failed x e = cc (e)

-- a call that was answered doesn't
pub answered-steady : {A : Type 0} (before now : ℕ) (call : Result A KeeperError) (x : A) → HasCause before now call
    → call ≡ Ok x → now ≡ before
answered-steady before now call x cause is = cause.steady (λ failed. not_failed x (sym is ∙ failed))

-- ---- a row more

take-more : (xs : List Row) (i : ℕ) (x : Row) → slice_get xs i ≡ Some x → take (suc i) xs ≡ take i xs ++ x ∷ []
take-more [] i x h = cc
take-more (y ∷ ys) zero x h = let e : y ≡ x = cc (h) in ap (λ z. z ∷ []) e
take-more (y ∷ ys) (suc i) x h = ap (λ r. y ∷ r) (take-more ys i x h)

next-row : (rows : List Row) (i : ℕ) (row : Row) → slice_get rows i ≡ Some row
    → take (i + 1) rows ≡ take i rows ++ row ∷ []
next-row rows i row h = ap (λ n. take n rows) (add-one i) ∙ take-more rows i row h

pub read-more : (told now : Option (List Row)) (i : ℕ) (row : Row) (before after : List Row) → now ≡ told
    → IfSome told (λ t. before ≡ take i t) → IfSome now (λ t. slice_get t i ≡ Some row) → after ≡ before ++ row ∷ []
    → IfSome told (λ t. after ≡ take (i + 1) t)
read-more None now i row before after same read at is = tt
read-more (Some t) now i row before after same read at is =
    let here = subst (λ (o : Option (List Row)). IfSome o (λ x. slice_get x i ≡ Some row)) same at in
    is ∙ ap (λ (x : List Row). x ++ row ∷ []) read ∙ sym (next-row t i row here)

-- behind the last row all of them are read
pub all-read : (told : Option (List Row)) (read : List Row) (i count : ℕ) → IfSome told (λ t. count ≡ length t)
    → IfSome told (λ t. read ≡ take i t) → i ≡ count → IfSome told (λ t. read ≡ t)
all-read None read i count counted upto is = tt
all-read (Some t) read i count counted upto is = upto ∙ ap (λ n. take n t) (is ∙ counted) ∙ take-length t

-- a row that is refused is bad in its place
refused-bad : (t : List Row) (i : ℕ) (row : Row) (before : List Row) (error : ReadError) → before ≡ take i t
    → slice_get t i ≡ Some row → IsRowRefused before row error → Explains t (refusal i error)
refused-bad t i row before refused.OutOfMemory read here refuses = tt
refused-bad t i row before (refused.Bad found) read here refuses = record {
  here = here ∙ ap Some (sym refuses.0);
  before = subst (λ (x : List Row). Continue x) read refuses.1;
  bad =
      inl
      (λ goes. refuses.2 (subst (λ (x : List Row). Continue x)
      (next-row t i row here ∙ ap (λ (x : List Row). x ++ row ∷ []) (sym read)) goes));
}

pub bad-row : (told now : Option (List Row)) (i : ℕ) (row : Row) (before : List Row) (error : ReadError)
    (e : OpenError) → now ≡ told → IfSome told (λ t. before ≡ take i t) → IfSome now (λ t. slice_get t i ≡ Some row)
    → IsRowRefused before row error → e ≡ refusal i error → IfSome told (λ t. Explains t e)
bad-row None now i row before error e same read at refuses is = tt
bad-row (Some t) now i row before error e same read at refuses is =
    let here = subst (λ (o : Option (List Row)). IfSome o (λ x. slice_get x i ≡ Some row)) same at in
    subst (λ (x : OpenError). Explains t x) (sym is) (refused-bad t i row before error read here refuses)

-- ---- the last row

get-last : (xs : List Row) (x : Row) → slice_get (xs ++ x ∷ []) (length xs) ≡ Some x
get-last [] x = refl
get-last (y ∷ ys) x = get-last ys x

take-before : (xs : List Row) (x : Row) → take (length xs) (xs ++ x ∷ []) ≡ xs
take-before [] x = refl
take-before (y ∷ ys) x = ap (λ r. y ∷ r) (take-before ys x)

shorter : (rows front : List Row) (last : Row) → rows ≡ front ++ last ∷ [] → Continue rows → Continue front
shorter rows front last is goes =
    record {
      history = goes.history;
      legal = goes.legal;
      after = last ∷ goes.after;
      rows_are = goes.rows_are ∙ ap (λ (x : List Row). x ++ goes.after) is ∙ append_assoc front (last ∷ []) goes.after;
    }

-- rows that end inside a group are bad at the last one
cut-bad : (t : List Row) (count at : ℕ) (log begun : History) (last : Row) → count ≡ length t
    → at ≡ count - 1 → rows_of log ++ rows_of begun ≡ t → IsCutStore log begun last
    → Explains t (errors.BadStore at last)
cut-bad t count at log begun last counted is all cut =
    let front : List Row = rows_of log ++ cut.before in
    let rows : t ≡ front ++ last ∷ [] = sym all ∙ ap (λ (x : List Row). rows_of log ++ x) cut.last_is
    ∙ sym (append_assoc (rows_of log) cut.before (last ∷ [])) in
    let n = length-append front (last ∷ []) in
    let m = ap length rows in
    let place : length front ≡ at = omega (arith, n, m, counted, is) in
    let goes : Continue t = subst (λ (x : List Row). Continue x) all cut.cut.continue in
    record {
      here = subst (λ (j : ℕ). slice_get t j ≡ Some last) place
          (subst (λ (x : List Row). slice_get x (length front) ≡ Some last) (sym rows) (get-last front last));
      before = subst (λ (j : ℕ). Continue (take j t)) place
          (subst (λ (x : List Row). Continue (take (length front) x)) (sym rows)
          (subst (λ (x : List Row). Continue x) (sym (take-before front last)) (shorter t front last rows goes)));
      bad = inr (omega (arith, n, m, place), record { continue = goes; more = cut.cut.more });
    }

pub cut-store : (told : Option (List Row)) (count at : ℕ) (log begun : History) (last : Row)
    (e : OpenError) → IfSome told (λ t. count ≡ length t) → at ≡ count - 1
    → IfSome told (λ t. rows_of log ++ rows_of begun ≡ t) → IsCutStore log begun last → e ≡ errors.BadStore at last
    → IfSome told (λ t. Explains t e)
cut-store None count at log begun last e counted is all cut told = tt
cut-store (Some t) count at log begun last e counted is all cut told =
    subst (λ (x : OpenError). Explains t x) (sym told) (cut-bad t count at log begun last counted is all cut)

-- ---- all of them

-- the last row of a legal history has no other behind it
whole-last : (H : History) (k : ℕ) (r : Row) → IsWhole H → slice_get (rows_of H) k ≡ Some r → k + 1 ≡ length (rows_of H)
    → r.more ≡ 0
whole-last [] k r w h n = cc (h)
whole-last (e ∷ []) zero r w h n = let same : row_of e ≡ r =
    cc (h) in ap (λ (x : Row). x.more) (sym same) ∙ ap (λ m. cond m 1 0) w
whole-last (e ∷ []) (suc k) r w h n = cc (h)
whole-last (e ∷ e' ∷ H) zero r w h n = absurd (omega (arith, n))
whole-last (e ∷ e' ∷ H) (suc k) r w h n = whole-last (e' ∷ H) k r w.1 h (omega (arith, n))

-- where a row is bad, no legal history has the rows
bad-none : (rows : List Row) (at : ℕ) (found : Row) → IsBadAt rows at found → (H : History) → Legal H → rows_of H ≢ rows
bad-none rows at found bad H legal is = by bad.bad
  where
    whole : rows_of H ≡ take (at + 1) rows ++ drop (at + 1) rows
    whole = is ∙ sym (take-append-drop (at + 1) rows)

    by : (Continue (take (at + 1) rows) → ⊥) ⊎ ((at + 1 ≡ length rows) × AreCutOff rows found) → ⊥
    by (inl not) = not (record { history = H; legal = legal; after = drop (at + 1) rows; rows_are = whole })
    by (inr cut) =
        let zero = whole-last H at found (Legal-whole H legal) (ap (λ (x : List Row). slice_get x at) is ∙ bad.here)
        (cut.0 ∙ ap length (sym is)) in
        let one = cut.1.more in
        omega (arith, zero, one)

opens-error : {K : Type 0} (rows : List Row) (e : OpenError) (keeper : K) → Explains rows e
    → Opens rows (Err (e, keeper))
opens-error rows (errors.BadStore at found) keeper bad = (bad, bad-none rows at found bad)
opens-error rows errors.KeeperFault keeper bad = tt
opens-error rows errors.OutOfMemory keeper bad = tt

pub opens-not : {K : Type 0} (told : Option (List Row)) (e : OpenError) (keeper : K)
    → IfSome told (λ rows. Explains rows e) → IfSome told (λ rows. Opens rows (Err (e, keeper)))
opens-not None e keeper bad = tt
opens-not (Some rows) e keeper bad = opens-error rows e keeper bad

pub opens-book : {K : Type 0} (told : Option (List Row)) (book : SeenBook K) → Legal book.log
    → IfSome told (λ rows. rows_of book.log ≡ rows) → IfSome told (λ rows. Opens rows (Ok book))
opens-book None book legal spells = tt
opens-book (Some rows) book legal spells =
    (legal, spells, λ H then same. one_history book.log H legal then (same ∙ sym spells))

-- the keeper's rows are those of the history
pub kept-rows : (told now : Option (List Row)) (log : History) → now ≡ told → IfSome told (λ rows. rows_of log ≡ rows)
    → IfSome now (λ rows. rows ≡ rows_of log)
kept-rows None now log same spells =
    subst (λ (o : Option (List Row)). IfSome o (λ rows. rows ≡ rows_of log)) (sym same) tt
kept-rows (Some rows) now log same spells =
    subst (λ (o : Option (List Row)). IfSome o (λ rows. rows ≡ rows_of log)) (sym same) (sym spells)

-- all rows were read and each group is whole
pub whole-store : (told : Option (List Row)) (log begun read : History) (t : Tables)
    → IfSome told (λ rows. rows_of log ++ rows_of begun ≡ rows) → IsWholeStore log begun read t
    → IfSome told (λ rows. rows_of read ≡ rows)
whole-store None log begun read t all whole = tt
whole-store (Some rows) log begun read t all whole = ap rows_of whole.log_is ∙ sym (append-nil (rows_of log))
    ∙ ap (λ (g : History). rows_of log ++ rows_of g) (sym whole.none) ∙ all
