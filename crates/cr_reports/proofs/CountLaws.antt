-- SPDX-License-Identifier: Apache-2.0 OR MIT
-- What counting makes of the loads.
use Rattle.std.proofs.Common.{ℕ, Bool, true, false, cond, eqb, ◌≡◌, ◌≤◌, ◌<◌, ◌+◌, ◌*◌, ◌&&◌, List, [], ◌∷◌, ◌++◌}
use Rattle.std.proofs.Common.{length, replicate, take, get_or, refl, sym, ap, subst, ◌∙◌, arith, zero, suc}
use Rattle.std.specs.Prelude.{fold, not}
use Rattle.std.proofs.lemmas.Bool.{eqb-false, eqb-true}
use Rattle.std.proofs.lemmas.List.{get_or_default, get_or-set_same, get_or-set_other, get_or-replicate}
use Rattle.std.proofs.lemmas.List.{length-replicate, take_all, take_more}
use Rattle.std.proofs.lemmas.List.Sums.{fold-append}
use Rattle.std.proofs.Math.ListN.{set}
use Rattle.cr_base.specs.declared.pairs.Tie.{Tie}
use Rattle.cr_base.specs.declared.seat.Seat.{Seat}
use Rattle.cr_base.specs.declared.words.Kind.{Kind}
use Rattle.cr_base.specs.declared.words.Kind.TheVariants.{Primary, Secondary, Pc}
use Rattle.cr_reports.specs.declared.counts.Load.{Load}
use Rattle.cr_reports.specs.Loads.{AreFew, Becomes, IsFew, load_at, no_load, with_form, with_kind, with_seat}
use Rattle.cr_reports.specs.Loads.{with_seats}

-- ---- how many

few-more : (n m : ℕ) (load : Load) → n ≤ m → IsFew n load → IsFew m load
few-more n m load less few = record {
  primary = omega (arith, less, few.primary);
  secondary = omega (arith, less, few.secondary);
  pc = omega (arith, less, few.pc);
  written = omega (arith, less, few.written);
}

few-kind : (n : ℕ) (kind : Kind) (load : Load) → IsFew n load → IsFew (n + 1) (with_kind kind load)
few-kind n Primary load few = record {
  primary = omega (arith, few.primary);
  secondary = omega (arith, few.secondary);
  pc = omega (arith, few.pc);
  written = omega (arith, few.written);
}
few-kind n Secondary load few = record {
  primary = omega (arith, few.primary);
  secondary = omega (arith, few.secondary);
  pc = omega (arith, few.pc);
  written = omega (arith, few.written);
}
few-kind n Pc load few = record {
  primary = omega (arith, few.primary);
  secondary = omega (arith, few.secondary);
  pc = omega (arith, few.pc);
  written = omega (arith, few.written);
}

few-add : (n : ℕ) (written : Bool) (kind : Kind) (load : Load) → IsFew n load
    → IsFew (n + 1) (with_form written (with_kind kind load))
few-add n false kind load few = few-kind n kind load few
few-add n true Primary load few = record {
  primary = omega (arith, few.primary);
  secondary = omega (arith, few.secondary);
  pc = omega (arith, few.pc);
  written = omega (arith, few.written);
}
few-add n true Secondary load few = record {
  primary = omega (arith, few.primary);
  secondary = omega (arith, few.secondary);
  pc = omega (arith, few.pc);
  written = omega (arith, few.written);
}
few-add n true Pc load few = record {
  primary = omega (arith, few.primary);
  secondary = omega (arith, few.secondary);
  pc = omega (arith, few.pc);
  written = omega (arith, few.written);
}

few-seat : (n : ℕ) (written : ℕ → Bool) (user : ℕ) (load : Load) (seat : Tie Seat) → IsFew n load
    → IsFew (n + 1) (with_seat written user load seat)
few-seat n written user load seat few = by (not seat.value.vacated && eqb seat.pair.user user)
  where
    by : (b : Bool)
        → IsFew (n + 1) (cond b (with_form (written seat.value.ordinal) (with_kind seat.value.kind load)) load)
    by true = few-add n (written seat.value.ordinal) seat.value.kind load few
    by false = few-more n (n + 1) load (omega arith) few

few-seats : (n : ℕ) (written : ℕ → Bool) (user : ℕ) (seats : List (Tie Seat)) (load : Load) → IsFew n load
    → IsFew (n + length seats) (with_seats written user seats load)
few-seats n written user [] load few = few-more n (n + 0) load (omega arith) few
few-seats n written user (seat ∷ seats) load few =
    few-more (n + 1 + length seats) (n + length (seat ∷ seats)) (with_seats written user (seat ∷ seats) load)
    (omega arith)
    (few-seats (n + 1) written user seats (with_seat written user load seat) (few-seat n written user load seat few))

-- the loads that become so are few as well
pub few-becomes : (n m : ℕ) (old new : List Load) (written : ℕ → Bool) (seats : List (Tie Seat))
    → Becomes old new (λ user load. with_seats written user seats load) → n + length seats ≤ m → AreFew n old
    → AreFew m new
few-becomes n m old new written seats becomes less few =
    λ user within.
    few-more (n + length seats) m (load_at new user) less
    (subst (λ (load : Load). IsFew (n + length seats) load) (sym (becomes user within))
    (few-seats n written user seats (load_at old user) (few user within)))

pub few-up : (n m : ℕ) (loads : List Load) → n ≤ m → AreFew n loads → AreFew m loads
few-up n m loads less few = λ user within. few-more n m (load_at loads user) less (few user within)

-- ---- one seat

-- that somebody has left, and one that nobody has
pub seat-vacated : (loads : List Load) (written : ℕ → Bool) (seat : Tie Seat) → seat.value.vacated ≡ true
    → Becomes loads loads (λ user load. with_seat written user load seat)
seat-vacated loads written seat left =
    λ user within.
    sym
    (ap (λ (b : Bool). cond (not b && eqb seat.pair.user user)
    (with_form (written seat.value.ordinal) (with_kind seat.value.kind (load_at loads user)))
    (load_at loads user)) left)

pub seat-counted : (loads : List Load) (written : ℕ → Bool) (seat : Tie Seat) (w : Bool) (index : ℕ) (load other : Load)
    → seat.value.vacated ≡ false → index ≡ seat.pair.user → index < length loads → w ≡ written seat.value.ordinal
    → load ≡ get_or loads index other
    → Becomes loads (set loads index (with_form w (with_kind seat.value.kind load)))
    (λ user load. with_seat written user load seat)
seat-counted loads written seat w index load other taken is within forms read =
    λ user low.
    split user (eqb seat.pair.user user) refl
    ∙ sym (ap (λ (b : Bool). made user (not b && eqb seat.pair.user user) (written seat.value.ordinal)) taken)
  where
    made : ℕ → Bool → Bool → Load
    made user b form = cond b (with_form form (with_kind seat.value.kind (load_at loads user))) (load_at loads user)

    here : load ≡ load_at loads index
    here = read ∙ get_or_default loads index other no_load within

    new : List Load
    new = set loads index (with_form w (with_kind seat.value.kind load))

    split : (user : ℕ) (b : Bool) → eqb seat.pair.user user ≡ b
        → load_at new user ≡ made user b (written seat.value.ordinal)
    split user true h =
        let same : index ≡ user = is ∙ eqb-true seat.pair.user user h in
        subst (λ (n : ℕ). load_at new n ≡ made n true (written seat.value.ordinal)) same
        (get_or-set_same loads index (with_form w (with_kind seat.value.kind load)) no_load within
        ∙ ap (λ (l : Load). with_form w (with_kind seat.value.kind l)) here
        ∙ ap (λ (b : Bool). with_form b (with_kind seat.value.kind (load_at loads index))) forms)
    split user false h =
        get_or-set_other loads index user (with_form w (with_kind seat.value.kind load)) no_load
        (λ (e : user ≡ index). eqb-false seat.pair.user user h (sym (e ∙ is)))

-- ---- several

pub seats-none : (loads : List Load) (written : ℕ → Bool)
    → Becomes loads loads (λ user load. with_seats written user [] load)
seats-none loads written = λ user within. refl

pub seats-step : (old mid new : List Load) (written : ℕ → Bool) (seats : List (Tie Seat)) (i : ℕ)
    (seat other : Tie Seat) → i < length seats
    → seat ≡ get_or seats i other
    → Becomes old mid (λ user load. with_seats written user (take i seats) load)
    → Becomes mid new (λ user load. with_seat written user load seat)
    → Becomes old new (λ user load. with_seats written user (take (i + 1) seats) load)
seats-step old mid new written seats i seat other within is before one =
    λ user low.
    one user low
    ∙ ap (λ (load : Load). with_seat written user load seat) (before user low)
    ∙ sym (fold-append (with_seat written user) (load_at old user) (take i seats) (seat ∷ []))
    ∙ ap (λ (ss : List (Tie Seat)). fold (with_seat written user) (load_at old user) ss)
    (ap (λ (s : Tie Seat). take i seats ++ s ∷ []) is ∙ sym (take_more seats i other within))

-- ---- papers

pub papers-step : (old mid new : List Load) (step : ℕ → Load → ℕ → Load) (before after : List ℕ) (p : ℕ)
    → after ≡ before ++ p ∷ []
    → Becomes old mid (λ user load. fold (step user) load before) → Becomes mid new (λ user load. step user load p)
    → Becomes old new (λ user load. fold (step user) load after)
papers-step old mid new step before after p is done one =
    λ user low.
    one user low
    ∙ ap (λ (load : Load). step user load p) (done user low)
    ∙ sym (fold-append (step user) (load_at old user) before (p ∷ []))
    ∙ ap (fold (step user) (load_at old user)) (sym is)

-- all papers counted from nothing
pub papers-all : (loads : List Load) (step : ℕ → Load → ℕ → Load) (done all : List ℕ) → done ≡ all
    → Becomes (replicate 10000 no_load) loads (λ user load. fold (step user) load done)
    → (user : ℕ) → user < 10000 → load_at loads user ≡ fold (step user) no_load all
papers-all loads step done all is becomes =
    λ user low.
    becomes user low
    ∙ ap (λ (load : Load). fold (step user) load done) (get_or-replicate 10000 user no_load no_load low)
    ∙ ap (fold (step user) no_load) is

-- nothing is few
pub none-few : AreFew 0 (replicate 10000 no_load)
none-few =
    λ user low.
    subst (λ (load : Load). IsFew 0 load) (sym (get_or-replicate 10000 user no_load no_load low))
    (record { primary = omega arith; secondary = omega arith; pc = omega arith; written = omega arith })

take-short : {A : Type 0} (i : ℕ) (xs : List A) → length (take i xs) ≤ length xs
take-short zero xs = omega arith
take-short (suc i) [] = omega arith
take-short (suc i) (x ∷ xs) = let rest = take-short i xs in omega (arith, rest)

-- the loads with some of a paper's seats are few, where the paper has no more than 26
pub few-within : (n m : ℕ) (old new : List Load) (written : ℕ → Bool) (seats : List (Tie Seat)) (i : ℕ)
    → Becomes old new (λ user load. with_seats written user (take i seats) load) → length seats ≤ 26 → n + 26 ≤ m
    → AreFew n old → AreFew m new
few-within n m old new written seats i becomes few less small =
    let short = take-short i seats in
    few-becomes n m old new written (take i seats) becomes (omega (arith, short, few, less)) small

-- all seats
pub seats-all : (old new : List Load) (written : ℕ → Bool) (seats all : List (Tie Seat)) (i : ℕ) → length seats ≤ i
    → seats ≡ all
    → Becomes old new (λ user load. with_seats written user (take i seats) load)
    → Becomes old new (λ user load. with_seats written user all load)
seats-all old new written seats all i past is becomes =
    λ user low.
    becomes user low
    ∙ ap (λ (ss : List (Tie Seat)). with_seats written user ss (load_at old user)) (take_all i seats past ∙ is)

-- nothing for each user
pub filled : (n m : ℕ) (loads : List Load) → loads ≡ replicate n no_load → n ≡ m → loads ≡ replicate m no_load
filled n m loads is same = is ∙ ap (λ (k : ℕ). replicate k no_load) same

pub filled-long : (n : ℕ) (loads : List Load) → loads ≡ replicate n no_load → length loads ≡ n
filled-long n loads is = ap (λ (l : List Load). length l) is ∙ length-replicate n no_load

pub filled-few : (loads : List Load) → loads ≡ replicate 10000 no_load → AreFew 0 loads
filled-few loads is = subst (AreFew 0) (sym is) none-few

pub filled-becomes : (loads : List Load) → loads ≡ replicate 10000 no_load
    → Becomes (replicate 10000 no_load) loads (λ user load. load)
filled-becomes loads is = λ user low. ap (λ (l : List Load). load_at l user) is

-- few and 26 more
pub few-next : (i : ℕ) (loads : List Load) → AreFew (26 * i + 26) loads → AreFew (26 * (i + 1)) loads
few-next i loads few = few-up (26 * i + 26) (26 * (i + 1)) loads (omega arith) few
