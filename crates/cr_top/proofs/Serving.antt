-- SPDX-License-Identifier: Apache-2.0 OR MIT
-- One connection, with its keeper handed back; over a keeper that counts no fault nothing is lost.
use Rattle.std.proofs.Common.{◌≡◌, ◌++◌, ℕ, List, [], None, Option, false, refl, sym, ap, subst, arith}
use Rattle.cr_base.specs.Lists.{listed}
use Rattle.cr_base.specs.declared.row.Row.{Row}
use Rattle.cr_base.specs.History.{History}
use Rattle.cr_policy.specs.Legal.{Legal}
use Rattle.cr_book.specs.Seen.{SeenBook}
use Rattle.cr_book.specs.Sound.{IsKept}
use Rattle.cr_lock.specs.Closing.{Closes}
use Rattle.cr_session.specs.declared.serve.Ending.{Ending}
use Rattle.cr_session.specs.declared.serve.Ending.TheVariants as endings
use Rattle.cr_session.specs.Tries.{Tries}
use Rattle.cr_session.specs.Passing.{KnownPass}
use Rattle.cr_session.specs.Serving.{ConnectionInHistory, ConnectionBytes, NotesNoMemory, StaysInVain, World}
use Rattle.cr_session.specs.Replay.{JudgedWish, Ledger, ledger_of, Replays, lost_count}
use Rattle.cr_session.proofs.Turns.{counted}
use Rattle.cr_session.proofs.Endings.{replayed, bytes-closed, in_history}
use Rattle.cr_session.proofs.NoMemory.{round_unbegun}
use Rattle.cr_session.proofs.Whole.{whole_text}
use Rattle.cr_top.specs.declared.exit.Exit.{Exit}
use Rattle.cr_top.specs.Exits.{exit_of}
use Rattle.cr_top.specs.Runs.{Keeps, Outside, Pipes, ServesPipe, desk, world}

-- as many were lost at most as the count rose by
none_lost : (judged : List JudgedWish) (b b' : Ledger) → b.faults ≡ 0 → b'.faults ≡ 0 → Replays judged b b'
    → lost_count judged ≡ 0
none_lost judged b b' first last r =
    let most = counted judged b b' r (omega (arith, last)) in
    omega (arith, first, last, most)

pub serves-from : {K I : Type 0} (rows : K → Option (List Row)) (keeps : Keeps) (left : I → Option (List ℕ))
    (gives : I → I → List ℕ → Type 0) (opening : History)
    (exit : Exit) (ending : Ending) (keeper keeper' : K) (o o' : Outside I)
    → exit ≡ exit_of ending → Pipes rows keeps (λ _. 0) left gives opening ending keeper keeper' o o'
    → ServesPipe left gives opening exit o o'
serves-from rows keeps left gives opening exit ending keeper keeper' o o' is p =
    record {
      ending = ending;
      exit_is = is;
      history = p.history;
      legal = p.legal;
      connection = p.connection;
      none_lost =
          none_lost (p.connection.answered ++ listed p.connection.failed) (record { history = opening; faults = 0 })
          (record { history = p.history; faults = 0 }) refl refl
          (replayed left gives ending 0 [] (world o opening 0) (world o' p.history 0) p.connection);
      whole = p.whole;
    }

-- a connection, and what was kept by its wishes
module _ {I : Type 0} (keeps : Keeps) (left : I → Option (List ℕ)) (gives : I → I → List ℕ → Type 0)
    (history : History) where
  abbrev ServedKept : Ending → World Ledger I → World Ledger I → Type 0
  ServedKept ending w w' =
      (c : ConnectionBytes left gives ending 0 [] w w') × keeps history (c.answered ++ listed c.failed)

-- the keeper that is handed back is that of the book at the end
pub pipes-of : {K I : Type 0} (rows : K → Option (List Row)) (keeps : Keeps) (faults : K → ℕ)
    (left : I → Option (List ℕ)) (gives : I → I → List ℕ → Type 0)
    (opening history : History) (ending : Ending) (keeper last keeper' : K) (o o' : Outside I)
    → keeper' ≡ last → Legal history → IsKept rows keeper' history
    → ServedKept keeps left gives history ending (world o opening (faults keeper)) (world o' history (faults last))
    → Pipes rows keeps faults left gives opening ending keeper keeper' o o'
pipes-of {K} {I} rows keeps faults left gives opening history ending keeper last keeper' o o' same legal kept served =
    record {
      history = history;
      legal = legal;
      kept = kept;
      connection = again.0;
      besides = again.1;
      whole = λ b told. whole_text Replays StaysInVain left gives ending b (world o opening (faults keeper))
          (world o' history (faults keeper')) again.0 told;
    }
  where
    again : ServedKept keeps left gives history ending (world o opening (faults keeper))
        (world o' history (faults keeper'))
    again =
        subst (λ (n : ℕ). ServedKept keeps left gives history ending (world o opening (faults keeper))
        (world o' history n)) (ap faults (sym same)) served

-- the same where the book was served behind a lock, on its one pass
pub pipes-locked : {K I : Type 0} (tries : Tries K) (rows : K → Option (List Row)) (keeps : Keeps) (faults : K → ℕ)
    (left : I → Option (List ℕ))
    (gives : I → I → List ℕ → Type 0) (ending : Ending) (book x : SeenBook K) (keeper' : K) (p p' : KnownPass K)
    (o o' : Outside I)
    → p.seen ≡ book.log → p.mine ≡ [] → Closes (λ (b : SeenBook K). b.log) (λ (b : SeenBook K). faults b.keeper)
    (λ (b : SeenBook K). b.opened) book p' x
    → keeper' ≡ x.keeper → Legal x.log → IsKept rows keeper' x.log
    → (c : ConnectionInHistory tries left gives ending 0 [] (in_history p o.input o.read_faults (desk o))
    (in_history p' o'.input o'.read_faults (desk o')))
    → keeps x.log (c.answered ++ listed c.failed)
    → Pipes rows keeps faults left gives book.log ending book.keeper keeper' o o'
unfolding bytes-closed
pipes-locked {K} {I} tries rows keeps faults left gives ending book x keeper' p p' o o' opens bare closes same legal
    kept c so =
    pipes-of rows keeps faults left gives book.log x.log ending book.keeper x.keeper keeper' o o' same legal kept (
      bytes-closed tries (λ (b : SeenBook K). b.log) (λ (b : SeenBook K). faults b.keeper)
          (λ (b : SeenBook K). b.opened) book x left gives ending p p' o.input
          o'.input o.read_faults o'.read_faults (desk o) (desk o') opens bare closes c,
      so,
    )

-- and where memory for the lock was wanting
pub pipes-unlocked : {K I : Type 0} (rows : K → Option (List Row)) (keeps : Keeps) (faults : K → ℕ)
    (left : I → Option (List ℕ)) (gives : I → I → List ℕ → Type 0)
    (ending : Ending) (book x : SeenBook K) (keeper' : K) (o o' : Outside I)
    → x ≡ book → ending ≡ endings.OutOfMemory → NotesNoMemory None false (desk o) (desk o') → o'.input ≡ o.input
    → o'.read_faults ≡ o.read_faults
    → keeper' ≡ x.keeper → Legal x.log → IsKept rows keeper' x.log
    → ((judged : List JudgedWish) → keeps x.log judged)
    → Pipes rows keeps faults left gives book.log ending book.keeper keeper' o o'
pipes-unlocked {K} {I} rows keeps faults left gives ending book x keeper' o o' is out notes input counts same legal kept
    so =
    pipes-of rows keeps faults left gives book.log x.log ending book.keeper x.keeper keeper' o o' same legal kept
    (connection, so _)
  where
    connection : ConnectionBytes left gives ending 0 [] (world o book.log (faults book.keeper))
        (world o' x.log (faults x.keeper))
    connection =
        subst (λ (e : Ending). ConnectionBytes left gives e 0 [] (world o book.log (faults book.keeper))
        (world o' x.log (faults x.keeper))) (sym out)
        (round_unbegun Replays StaysInVain (λ b. refl) left gives 0 (world o book.log (faults book.keeper))
        (world o' x.log (faults x.keeper)) input
        (ap (λ (b : SeenBook K). ledger_of faults b) is) notes counts)
