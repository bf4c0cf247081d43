-- SPDX-License-Identifier: Apache-2.0 OR MIT
-- Wishes that are judged in turns of one pass of the book's lock: between two of its
-- turns other passes may take theirs.
use Rattle.std.specs.Prelude.{ℕ, ◌≡◌, ◌≤◌, ◌⊎◌, ◌+◌, List, [], ◌∷◌, true, IsSome, MatchBool}
use mathlib.Core.List.{IsPrefix}
use Rattle.cr_base.specs.declared.entry.Stamped.{Stamped}
use Rattle.cr_book.specs.Seen.{SeenBook}
use Rattle.cr_lock.specs.declared.pass_state.Turn.{Turn}
use Rattle.cr_lock.specs.Passes.{Known, IsAsLeft, after_turn}
use Rattle.cr_ports.specs.Stopping.{IsAmong}
use Rattle.cr_session.specs.Told.{drawn}
use Rattle.cr_session.specs.Replay.{JudgedWish, CountsLoss, history_after}
use Rattle.cr_session.specs.Tries.{Tries, Nothing, TriesWish}

-- what a pass of the lock of a book over such a keeper knows
abbrev pub KnownPass : Type 0 → Type 0
KnownPass K = Known (SeenBook K) Stamped

-- A wish was judged in one turn of the pass. The turn's group is what the wish adds to the history at the turn's place,
-- and nothing if that was lost. The turn is marked if something was lost, else only if the keeper's fault counter is at
-- its last value. The book is the one that the pass left, if it has the whole share.
pub record TakesTurn {K : Type 0} (tries : Tries K) (j : JudgedWish) (p p' : KnownPass K) : Type 0 where
  -- the history at the turn's place holds all that the pass had seen
  pub saw : IsPrefix p.seen j.seen
  -- only what Judge accepts can be lost
  pub lost : MatchBool j.lost (IsSome (drawn j.seen j.wish)) (Unit {0})
  -- the keeper's count as the turn found it, and as it left it
  pub faults : ℕ
  pub faults' : ℕ
  pub counted : CountsLoss j.lost faults faults'
  -- the book as the turn found it, and as it left it
  pub found : SeenBook K
  pub leaves : SeenBook K
  pub finds : found.log ≡ j.seen
  pub leads : leaves.log ≡ history_after j
  pub as_left : IsAsLeft p found
  pub tried : TriesWish tries j found.keeper leaves.keeper
  pub turn : p' ≡ after_turn p found leaves j.seen (history_after j) faults faults'

-- a turn for each of the wishes, in order, and no other turn of this pass
abbrev pub TakesTurns : {K : Type 0} → Tries K → List JudgedWish → KnownPass K → KnownPass K → Type 0
TakesTurns tries [] p p' = p' ≡ p
TakesTurns {K} tries (j ∷ js) p p' =
    (next : KnownPass K) × TakesTurn tries j p next × TakesTurns tries js next p'

-- ---- a turn by itself

-- a turn of a book over such a keeper
abbrev pub BookTurn : Type 0 → Type 0
BookTurn K = Turn (SeenBook K) Stamped

-- One of these wishes was judged in the turn: it found a book with the history that the wish saw, left it with the one
-- that the wish leads to, and did with the keeper what became of what the wish draws. It is marked where that was lost.
pub record JudgesOneOf {K : Type 0} (tries : Tries K) (judged : List JudgedWish) (t : BookTurn K) : Type 0 where
  pub wish : JudgedWish
  pub among : IsAmong judged wish
  pub finds : t.found.log ≡ wish.seen
  pub leads : t.left.log ≡ history_after wish
  pub tried : TriesWish tries wish t.found.keeper t.left.keeper
  pub marked : wish.lost ≡ true → t.marked ≡ true

-- Nothing was added in the turn, and nothing tried.
pub record AddsNothing {K : Type 0} (tries : Tries K) (t : BookTurn K) : Type 0 where
  pub stays : t.left.log ≡ t.found.log
  pub tried : tries t.found.log Nothing t.found.keeper t.left.keeper

-- one of these wishes was judged in the turn, or nothing was added
abbrev pub IsTurnOf : {K : Type 0} → Tries K → List JudgedWish → BookTurn K → Type 0
IsTurnOf tries judged t = JudgesOneOf tries judged t ⊎ AddsNothing tries t

-- ---- the pass itself

-- the pass is of the same lock, has the same share, and took at most this many turns
pub record StaysPass {K : Type 0} (most : ℕ) (p p' : KnownPass K) : Type 0 where
  pub lock : p'.lock ≡ p.lock
  pub share : p'.share ≡ p.share
  pub few : p'.turns ≤ p.turns + most
