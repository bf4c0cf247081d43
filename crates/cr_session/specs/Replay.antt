-- SPDX-License-Identifier: Apache-2.0 OR MIT
-- Replay: wishes that were judged one after another, their answers, and the history that they lead to.
use Rattle.std.specs.Prelude.{ℕ, ◌≡◌, ◌≤◌, ◌+◌, List, [], ◌∷◌, Bool, true}
use Rattle.std.specs.Prelude.{false, if◌then◌else◌, map, IsSome, MatchBool}
use Rattle.cr_base.specs.History.{History}
use Rattle.cr_book.specs.Seen.{SeenBook}
use Rattle.cr_ports.specs.Count.{Rises}
use Rattle.cr_wire.specs.Wishes.{closes}
use Rattle.cr_wire.specs.declared.what.Wish.{Wish}
use Rattle.cr_session.specs.Answering.{Answer}
use Rattle.cr_session.specs.Told.{told, unkept, drawn, after_wish}

-- what turns work on: the history, and the count of faults of the keeper of its rows
pub record Ledger : Type 0 where
  pub history : History
  pub faults : ℕ

-- the ledger of a book
abbrev pub ledger_of : {K : Type 0} → (K → ℕ) → SeenBook K → Ledger
ledger_of faults book = record { history = book.log; faults = faults book.keeper }

-- ---- one turn

-- a wish that was judged: the history at its turn, and whether what it added was lost,
-- since the keeper failed to keep it
pub record JudgedWish : Type 0 where
  pub wish : Wish
  pub seen : History
  pub lost : Bool

-- the history after a turn
unfoldable pub history_after : JudgedWish → History
history_after j = if j.lost then j.seen else after_wish j.seen j.wish

-- the bytes of the answer to a wish that came as request number n
unfoldable pub answer_to : ℕ → JudgedWish → List ℕ
answer_to n j = if j.lost then unkept j.wish (closes n j.wish) else told j.seen j.wish (closes n j.wish)

-- the keeper's fault counter over a turn: it rose, or is at its last value, if something was lost; else it stays
abbrev pub CountsLoss : Bool → ℕ → ℕ → Type 0
CountsLoss true faults faults' = (faults ≤ faults') × Rises faults faults'
CountsLoss false faults faults' = faults' ≡ faults

-- The turn saw the history that was there; only what Judge accepts can be lost.
pub record Turned (j : JudgedWish) (b b' : Ledger) : Type 0 where
  pub seen : j.seen ≡ b.history
  pub lost : MatchBool j.lost (IsSome (drawn j.seen j.wish)) (Unit {0})
  pub history : b'.history ≡ history_after j
  pub counted : CountsLoss j.lost b.faults b'.faults

-- ---- one turn after another

abbrev pub wishes_of : List JudgedWish → List Wish
wishes_of judged = map (λ (j : JudgedWish). j.wish) judged

-- the answer to a wish that came as request number n, with the wish's moment
abbrev pub answer_of : ℕ → JudgedWish → Answer
answer_of n j = record { text = answer_to n j; at = j.wish.at }

-- the answers, one a wish, to wishes of which the first came as request number n
abbrev pub answers : ℕ → List JudgedWish → List Answer
answers n [] = []
answers n (j ∷ js) = answer_of n j ∷ answers (n + 1) js

-- Replay: what was judged leads from the one ledger to the other, each turn from where the turn before left it
abbrev pub Replays : List JudgedWish → Ledger → Ledger → Type 0
Replays [] b b' = b' ≡ b
Replays (j ∷ js) b b' = (next : Ledger) × Turned j b next × Replays js next b'

-- how many were lost
abbrev pub lost_count : List JudgedWish → ℕ
lost_count [] = 0
lost_count (j ∷ js) = (if j.lost then 1 else 0) + lost_count js
