-- SPDX-License-Identifier: Apache-2.0 OR MIT
-- What a turn does with the keeper, by what its wish draws.
use Rattle.std.proofs.Common.{◌≡◌, Bool, true, false, Option, Some, None, IsSome, Result, Ok, Err, IsTrue, ap}
use Rattle.std.proofs.Common.{sym, subst, refl}
use Rattle.cr_base.specs.declared.reply.Receipt.{Receipt}
use Rattle.cr_base.specs.Drawn.{Drawn}
use Rattle.cr_base.specs.History.{History}
use Rattle.cr_base.specs.Retries.{Outcome, Repeats, Judged, drawn_by}
use Rattle.cr_book.specs.Seen.{SeenBook}
use Rattle.cr_book.specs.Sound.{Acts}
use Rattle.cr_book.specs.Stopping.{Adding, Keepers}
use Rattle.cr_book.proofs.StopLaws.{kept_adding, refused_adding}
use Rattle.cr_session.specs.declared.turn.TurnResult.{TurnResult}
use Rattle.cr_session.specs.declared.turn.TurnResult.TheVariants as turns
use Rattle.cr_session.specs.Tries.{Tries, fate_of, kept_of, lost_of, tries_of}
use Rattle.cr_session.specs.Turning.{TurnTries}

-- ---- nothing was drawn

-- what was accepted and draws nothing is a repeat, which changes nothing
pub accepted-still : {F K : Type 0} (outcome : Outcome F) (b b' : SeenBook K) (receipt : Receipt)
    → Acts outcome b.log b'.log receipt
    → ((r : Receipt) → outcome ≡ Repeats r → b' ≡ b) → drawn_by outcome ≡ None → b'.keeper ≡ b.keeper
accepted-still {F} {K} (Repeats r) b b' receipt acts stays none = ap (λ (x : SeenBook K). x.keeper) (stays r refl)
accepted-still (Judged (Ok drawn)) b b' receipt acts stays none = absurd (cc (none))
accepted-still (Judged (Err refusal)) b b' receipt acts stays none = absurd acts

module _ {K : Type 0} (keepers : Keepers K) where
  -- what turns do with such a keeper
  abbrev tries : Tries K
  tries = tries_of keepers

  pub nothing-drawn : (lost : Bool) (H : History) (d : Option Drawn) (k k' : K) → d ≡ None → k' ≡ k
      → tries H (fate_of lost d) k k'
  nothing-drawn lost H d k k' none same =
      subst (λ (o : Option Drawn). tries H (fate_of lost o) k k') (sym none) (λ told. same)

  -- whatever the turn came to
  pub tries-nothing : (turn : TurnResult) (H : History) (d : Option Drawn) (k k' : K) → d ≡ None → k' ≡ k
      → TurnTries tries turn H d k k'
  tries-nothing (turns.Refused refused) H d k k' none same = nothing-drawn false H d k k' none same
  tries-nothing (turns.Accepted receipt) H d k k' none same = nothing-drawn false H d k k' none same
  tries-nothing (turns.Answered reply) H d k k' none same = (nothing-drawn false H d k k' none same, λ told. same)
  tries-nothing turns.Lost H d k k' none same = nothing-drawn true H d k k' none same
  tries-nothing turns.OutOfMemory H d k k' none same = λ told. same

  -- ---- a call of the book that was to add what was drawn

  module _ {T E : Type 0} (result : Result T E) (H : History) (k k' : K) where
    -- what the call says of it
    abbrev Adds : Option Drawn → Type 0
    Adds d = IsTrue (keepers.tells_stops k) → (x : Drawn) → d ≡ Some x
        → Adding keepers result H x.group k k'

    pub tries-kept : (done : T) (d : Option Drawn) → result ≡ Ok done → (d ≡ None → k' ≡ k) → Adds d
        → tries H (kept_of d) k k'
    tries-kept done None is still adds = λ told. still refl
    tries-kept done (Some x) is still adds =
        λ told. kept_adding keepers result done tt H x.group k k' is (adds told x refl)

    pub tries-refused : (error : E) (d : Option Drawn) → result ≡ Err error → IsSome d → Adds d
        → tries H (lost_of d) k k'
    tries-refused error None is some adds = absurd (cc (some))
    tries-refused error (Some x) is some adds =
        λ told. refused_adding keepers result error tt H x.group k k' is (adds told x
        refl)
