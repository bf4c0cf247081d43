-- SPDX-License-Identifier: Apache-2.0 OR MIT
-- How turns end: what is true of a pass, and what of the ledger of a lock that is closed.
use Rattle.std.proofs.Common.{◌≡◌, ◌∙◌, ◌⊎◌, ⊎_elim, inl, inr, ℕ, List, [], ◌++◌, Option, Some, None, refl, sym, ap}
use Rattle.std.proofs.Common.{subst}
use Rattle.cr_base.specs.declared.entry.Stamped.{Stamped}
use Rattle.cr_base.specs.Lists.{listed}
use Rattle.cr_base.specs.History.{History}
use Rattle.cr_lock.specs.Closing.{Closes}
use Rattle.cr_session.specs.Answering.{Desk}
use Rattle.cr_session.specs.declared.serve.Ending.{Ending}
use Rattle.cr_session.specs.declared.serve.Ending.TheVariants as endings
use Rattle.cr_session.specs.declared.serve.Why.TheVariants as whys
use Rattle.cr_session.specs.Replay.{JudgedWish, Ledger, Replays}
use Rattle.cr_book.specs.Seen.{SeenBook}
use Rattle.cr_session.specs.Tries.{Tries}
use Rattle.cr_session.specs.Passing.{KnownPass}
use Rattle.cr_session.specs.Turning.{MayWantMemory, TurnsInVain}
use Rattle.cr_session.specs.Serving.{World, MayLackMemory, AnswerFailed, EndsAs, EndsTurns, ConnectionInHistory}
use Rattle.cr_session.specs.Serving.{ConnectionBytes, WholeBytes, StaysInVain}
use Rattle.cr_session.proofs.Alone.{StaysBehind, behind-none, behind-vain, replays-closed}
use Rattle.cr_wire.specs.declared.what.Wish.{Wish}

-- no turn was taken behind those for wishes
pub no_turns : {B : Type 0} (ending : Ending) (b b' : B) → b' ≡ b → EndsTurns ending b b'
no_turns endings.Clean b b' same = same
no_turns endings.Cut b b' same = same
no_turns (endings.Closed why) b b' same = same
no_turns endings.ReadFault b b' same = same
no_turns endings.WriteFault b b' same = same
no_turns endings.ClockFault b b' same = same
no_turns endings.OutOfMemory b b' same = tt

-- where the write of a wish's answer failed, that is how it ends
pub failed-ends : {B : Type 0} (Lacks : Wish → B → B → Type 0) (ending : Ending) (n : ℕ) (came text : List ℕ)
    (answered : List JudgedWish) (failed : JudgedWish) (b b' : B) (d d' : Desk)
    → EndsAs n came text answered d d' Lacks b b' (Some failed) ending
    → (ending ≡ endings.WriteFault) × AnswerFailed n came text answered d d' failed
failed-ends Lacks endings.WriteFault n came text answered failed b b' d d' e = (refl, e)
failed-ends Lacks endings.Clean n came text answered failed b b' d d' e = absurd e
failed-ends Lacks endings.Cut n came text answered failed b b' d d' e = absurd e
failed-ends Lacks (endings.Closed why) n came text answered failed b b' d d' e = absurd e
failed-ends Lacks endings.ReadFault n came text answered failed b b' d d' e = absurd e
failed-ends Lacks endings.ClockFault n came text answered failed b b' d d' e = absurd e
failed-ends Lacks endings.OutOfMemory n came text answered failed b b' d d' e = absurd e

-- no turn was taken behind those for wishes, or the one in which memory ran out
pub behind_judged : {B : Type 0} (Lacks : Wish → B → B → Type 0) (ending : Ending) (n : ℕ) (came text : List ℕ)
    (answered : List JudgedWish) (failed : Option JudgedWish) (b b' : B) (d d' : Desk)
    → EndsTurns ending b b' → EndsAs n came text answered d d' Lacks b b' failed ending
    → (b' ≡ b) ⊎ ((w : Wish) × Lacks w b b')
behind_judged Lacks endings.Clean n came text answered failed b b' d d' same e = inl same
behind_judged Lacks endings.Cut n came text answered failed b b' d d' same e = inl same
behind_judged Lacks (endings.Closed why) n came text answered failed b b' d d' same e = inl same
behind_judged Lacks endings.ReadFault n came text answered failed b b' d d' same e = inl same
behind_judged Lacks endings.WriteFault n came text answered failed b b' d d' same e = inl same
behind_judged Lacks endings.ClockFault n came text answered failed b b' d d' same e = inl same
behind_judged Lacks endings.OutOfMemory n came text answered (Some failed) b b' d d' same e = absurd e
behind_judged Lacks endings.OutOfMemory n came text answered None b b' d d' same e = by e.lacks
  where
    by : MayLackMemory Lacks e.read b b' e.rest → (b' ≡ b) ⊎ ((w : Wish) × Lacks w b b')
    by (inl lacks) = inl lacks.1
    by (inr lacks) = inr (lacks.0, lacks.4)

module _ {K : Type 0} (tries : Tries K) where
  pub stays_behind : (ending : Ending) (n : ℕ) (came text : List ℕ) (answered : List JudgedWish)
      (failed : Option JudgedWish) (q p : KnownPass K) (d d' : Desk)
      → EndsTurns ending q p → EndsAs n came text answered d d' (TurnsInVain tries) q p failed ending
      → StaysBehind q p
  stays_behind ending n came text answered failed q p d d' settled ends =
      ⊎_elim (λ same. behind-none q p same) (λ turn. behind-vain tries turn.0 q p turn.1)
      (behind_judged (TurnsInVain tries) ending n came text answered failed q p d d' settled ends)

  -- what is wanted of a pass is wanted of the ledger
  lacks_alike : (read : Option ℕ) (q p : KnownPass K) (b : Ledger) (rest : List ℕ)
      → ((w : Wish) → TurnsInVain tries w q p → MayWantMemory b.history w)
      → MayLackMemory (TurnsInVain tries) read q p rest
      → MayLackMemory StaysInVain read b b rest
  lacks_alike read q p b rest vain (inl lacks) = inl (lacks.0, refl)
  lacks_alike read q p b rest vain (inr lacks) = inr (lacks.0, lacks.1, lacks.2, lacks.3, (refl, vain lacks.0 lacks.4))

  pub ends_alike : (ending : Ending) (n : ℕ) (came text : List ℕ) (answered : List JudgedWish)
      (failed : Option JudgedWish) (q p : KnownPass K) (b : Ledger)
      (d d' : Desk)
      → ((w : Wish) → TurnsInVain tries w q p → MayWantMemory b.history w)
      → EndsAs n came text answered d d' (TurnsInVain tries) q p failed ending
      → EndsAs n came text answered d d' StaysInVain b b failed ending
  ends_alike ending n came text answered (Some failed) q p b d d' vain e =
      let parts = failed-ends (TurnsInVain tries) ending n came text answered failed q p d d' e in
      subst (λ (x : Ending). EndsAs n came text answered d d' StaysInVain b b (Some failed) x) (sym parts.0) parts.1
  ends_alike endings.Clean n came text answered None q p b d d' vain e = e
  ends_alike endings.Cut n came text answered None q p b d d' vain e = e
  ends_alike (endings.Closed whys.Asked) n came text answered None q p b d d' vain e = e
  ends_alike (endings.Closed (whys.Refused why)) n came text answered None q p b d d' vain e = e
  ends_alike endings.ReadFault n came text answered None q p b d d' vain e = e
  ends_alike endings.WriteFault n came text answered None q p b d d' vain e = e
  ends_alike endings.ClockFault n came text answered None q p b d d' vain e = e
  ends_alike endings.OutOfMemory n came text answered None q p b d d' vain e = record {
    rest = e.rest;
    reaches = e.reaches;
    read = e.read;
    lacks = lacks_alike e.read q p b e.rest vain e.lacks;
    head = e.head;
    to_head = e.to_head;
    tells = e.tells;
  }

-- a ledger stays behind the turns of the wishes
pub ledger_stays : (ending : Ending) (n : ℕ) (came text : List ℕ) (answered : List JudgedWish)
    (failed : Option JudgedWish) (b b' : Ledger) (d d' : Desk)
    → EndsTurns ending b b' → EndsAs n came text answered d d' StaysInVain b b' failed ending → b' ≡ b
ledger_stays ending n came text answered failed b b' d d' settled ends =
    ⊎_elim (λ same. same) (λ turn. turn.1.0)
    (behind_judged StaysInVain ending n came text answered failed b b' d d' settled ends)

-- so Replay leads to the ledger at the end
pub replayed : {S : Type 0} (left : S → Option (List ℕ)) (gives : S → S → List ℕ → Type 0) (ending : Ending) (n : ℕ)
    (i : List ℕ) (w w' : World Ledger S)
    → (c : ConnectionBytes left gives ending n i w w') → Replays (c.answered ++ listed c.failed) w.state w'.state
replayed left gives ending n i w w' c =
    subst (λ (b : Ledger). Replays (c.answered ++ listed c.failed) w.state b)
    (sym (ledger_stays ending n (i ++ c.got) (i ++ c.got) c.answered c.failed c.judged w'.state w.desk w'.desk c.settled
    c.ends)) c.turns

pub replayed_whole : {S : Type 0} (left : S → Option (List ℕ)) (ending : Ending) (b : List ℕ) (w w' : World Ledger S)
    → (c : WholeBytes left ending b w w') → Replays (c.answered ++ listed c.failed) w.state w'.state
replayed_whole left ending b w w' c =
    subst (λ (x : Ledger). Replays (c.answered ++ listed c.failed) w.state x)
    (sym (ledger_stays ending 0 c.came b c.answered c.failed c.judged w'.state w.desk w'.desk c.settled c.ends)) c.turns

-- the world about a pass
abbrev pub in_history : {K S : Type 0} → KnownPass K → S → ℕ → Desk → World (KnownPass K) S
in_history state source f d = record { state = state; source = source; read_faults = f; desk = d }

-- On the one pass of a lock that is closed, ConnectionInHistory is ConnectionBytes, from the first ledger to the last.
module _ {K S Root : Type 0} (tries : Tries K) (list : SeenBook K → List Stamped) (faults : SeenBook K → ℕ)
    (root : SeenBook K → Root) (first x : SeenBook K) (left : S → Option (List ℕ)) (gives : S → S → List ℕ → Type 0)
    (ending : Ending)
    (p p' : KnownPass K) (source source' : S) (f f' : ℕ) (d d' : Desk) where
  -- the world about the ledger
  abbrev on_ledger : SeenBook K → S → ℕ → Desk → World Ledger S
  on_ledger x source f d =
      record { state = record { history = list x; faults = faults x }; source = source; read_faults = f; desk = d }

  unfoldable pub bytes-closed : p.seen ≡ list first → p.mine ≡ [] → Closes list faults root first p' x
      → ConnectionInHistory tries left gives ending 0 [] (in_history p source f d) (in_history p' source' f' d')
      → ConnectionBytes left gives ending 0 [] (on_ledger first source f d) (on_ledger x source' f' d')
  bytes-closed opens bare closes c =
      let b : Ledger = record { history = list x; faults = faults x } in
      let behind =
      stays_behind tries ending 0 ([] ++ c.got) ([] ++ c.got) c.answered c.failed c.judged p' d d' c.settled c.ends in
      let vain : (w : Wish) → TurnsInVain tries w c.judged p' → MayWantMemory (list x) w = λ w v.
      subst (λ (H : History). MayWantMemory H w) (sym (ap (λ (y : KnownPass K). y.seen) v.turn) ∙ sym closes.stands)
      v.wants in
      record {
        got = c.got;
        given = c.given;
        answered = c.answered;
        failed = c.failed;
        judged = b;
        turns = replays-closed tries list faults root first x p c.judged p' opens bare closes behind
            (c.answered ++ listed c.failed) c.turns;
        settled = no_turns ending b b refl;
        ends = ends_alike tries ending 0 ([] ++ c.got) ([] ++ c.got) c.answered c.failed c.judged p' b d d' vain c.ends;
        ended = c.ended;
        counts = c.counts;
        needed = c.needed;
      }
