-- SPDX-License-Identifier: Apache-2.0 OR MIT
-- What a stop may leave of a connection that is served on the one pass of a lock.
use Rattle.std.proofs.Common.{◌≡◌, ◌∙◌, ⊎_elim, ℕ, List, [], ◌++◌, Option, Some, IfSome, ap, subst, arith}
use Rattle.cr_wire.specs.declared.what.Wish.{Wish}
use Rattle.cr_base.specs.declared.entry.Stamped.{Stamped}
use Rattle.cr_base.specs.Lists.{listed}
use Rattle.cr_book.specs.Seen.{SeenBook}
use Rattle.cr_book.specs.Stopping.{Keepers}
use Rattle.cr_lock.specs.Closing.{Closes}
use Rattle.cr_session.specs.Answering.{Desk}
use Rattle.cr_session.specs.declared.serve.Ending.{Ending}
use Rattle.cr_session.specs.Passing.{KnownPass}
use Rattle.cr_session.specs.Replay.{JudgedWish}
use Rattle.cr_session.specs.Serving.{ConnectionInHistory}
use Rattle.cr_session.specs.Stopping.{KeepsWishesTold}
use Rattle.cr_session.specs.Tries.{Tries, TriesAlong, tries_of}
use Rattle.cr_session.specs.Turning.{TurnsInVain}
use Rattle.cr_session.proofs.Alone.{replays-closed, tries-alone, tries-vain}
use Rattle.cr_session.proofs.Endings.{behind_judged, in_history, stays_behind}
use Rattle.cr_ports.specs.Stopping.{IsAmong}
use Rattle.cr_session.proofs.StopLaws.{KeptBehind, kept-along, kept-none, tells-along}

-- the value that a pass left is the one with which the lock was closed
left-closed : {T : Type 0} (left : Option T) (x y : T) → left ≡ Some y → IfSome left (λ value. x ≡ value) → x ≡ y
left-closed {T} left x y is closes = subst (λ (o : Option T). IfSome o (λ value. x ≡ value)) is closes

module _ {K S Root : Type 0} (keepers : Keepers K)
    (list : SeenBook K → List Stamped) (faults : SeenBook K → ℕ) (root : SeenBook K → Root) (first x : SeenBook K)
    (left : S → Option (List ℕ)) (gives : S → S → List ℕ → Type 0) (ending : Ending) (p p' : KnownPass K)
    (source source' : S) (f f' : ℕ) (d d' : Desk) where
  abbrev tries : Tries K
  tries = tries_of keepers

  module _ (whole : p.share ≡ 64) (begins : p.left ≡ Some first) (seen : p.seen ≡ list first) (bare : p.mine ≡ [])
      (closes : Closes list faults root first p' x)
      (c : ConnectionInHistory tries left gives ending 0 [] (in_history p source f d)
      (in_history p' source' f' d')) where
    abbrev judged : List JudgedWish
    judged = c.answered ++ listed c.failed

    pub stops-closed : KeepsWishesTold keepers first.keeper x.keeper (list first) (list x)
        (c.answered ++ listed c.failed)
    stops-closed told none between = record {
      since = λ image left_here.
          kept.since image (subst (λ (k : K). keepers.left_since k (keepers.moment first.keeper) image) last left_here);
      lost = λ added among. kept.lost added (subst (λ (k : K). IsAmong (keepers.tried k) added) last among);
    }
      where
        alone : (c.judged.share ≡ 64) × (y : SeenBook K) × (c.judged.left ≡ Some y)
            × TriesAlong tries judged first.keeper y.keeper
        alone = tries-alone tries judged p c.judged first whole begins c.turns

        kept : KeptBehind keepers (keepers.moment first.keeper) (list first) judged (list x)
            alone.1.keeper
        kept = kept-along keepers (keepers.moment first.keeper) (list first) judged []
            (record { history = list first; faults = faults first }) (record { history = list x; faults = faults x })
            first.keeper alone.1.keeper told
            (kept-none keepers (keepers.moment first.keeper) (list first) first.keeper
            (omega arith) none between)
            (replays-closed tries list faults root first x p c.judged p' seen bare closes
            (stays_behind tries ending 0 c.got c.got c.answered c.failed c.judged p' d d' c.settled c.ends) judged
            c.turns)
            alone.3

        at_rest : p' ≡ c.judged → x.keeper ≡ alone.1.keeper
        at_rest same =
            ap (λ (b : SeenBook K). b.keeper) (left-closed p'.left x alone.1
            (ap (λ (k : KnownPass K). k.left) same ∙ alone.2) closes.left)

        in_vain : (w : Wish) → TurnsInVain tries w c.judged p' → x.keeper ≡ alone.1.keeper
        in_vain w v =
            let last = tries-vain tries w c.judged p' alone.1 alone.0 alone.2 v in
            ap (λ (b : SeenBook K). b.keeper) (left-closed p'.left x last.0 last.1 closes.left)
            ∙ last.2 (tells-along keepers (keepers.moment first.keeper) (list first) judged
            first.keeper alone.1.keeper told alone.3)

        -- behind the turns of the wishes nothing is tried
        last : x.keeper ≡ alone.1.keeper
        last = ⊎_elim at_rest (λ turn. in_vain turn.0 turn.1)
            (behind_judged (TurnsInVain tries) ending 0 c.got c.got c.answered c.failed c.judged p' d d' c.settled
            c.ends)
