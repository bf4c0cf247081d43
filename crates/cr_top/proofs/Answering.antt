-- SPDX-License-Identifier: Apache-2.0 OR MIT
-- Where nothing fails, everything that the bytes spell is answered.
use Rattle.std.proofs.Common.{◌≡◌, ◌∙◌, ◌⊎◌, ◌+◌, ℕ, List, [], ◌∷◌, ◌++◌, Bool, true, false, cond, Some, None, refl}
use Rattle.std.proofs.Common.{sym, ap, subst, inl, inr, append-nil, arith}
use Rattle.std.specs.Prelude.{◌<◌, ◌-◌, ◌^◌, Option, nat_lt}
use Rattle.std.proofs.lemmas.Bool.{ltb-true}
use Rattle.cr_base.specs.Lists.{listed}
use Rattle.cr_base.specs.declared.row.Row.{Row}
use Rattle.cr_base.specs.History.{History}
use Rattle.cr_ports.specs.Count.{Rises}
use Rattle.cr_policy.specs.Legal.{Legal}
use Rattle.cr_http.specs.Requests.{End, ended_clean, ended_cut, asked, closed}
use Rattle.cr_wire.specs.Wishes.{Wishes}
use Rattle.cr_wire.specs.declared.what.Wish.{Wish}
use Rattle.cr_session.specs.declared.serve.Ending.{Ending}
use Rattle.cr_session.specs.declared.serve.Ending.TheVariants as endings
use Rattle.cr_session.specs.declared.serve.Why.TheVariants as whys
use Rattle.cr_session.specs.Answering.{Answer, Desk, GivesAnswers}
use Rattle.cr_session.specs.Told.{told, after_wish}
use Rattle.cr_session.specs.Replay.{JudgedWish, Ledger, Turned, Replays, wishes_of, answers, answer_to, history_after}
use Rattle.cr_session.specs.Replay.{lost_count}
use Rattle.cr_session.specs.Wishes.{Spells}
use Rattle.cr_wire.specs.Wishes.{closes}
use Rattle.cr_session.specs.Serving.{EndsAs, CountsReads, StaysInVain}
use Rattle.cr_session.proofs.Turns.{counted}
use Rattle.cr_session.proofs.Endings.{failed-ends, replayed_whole}
use Rattle.cr_top.specs.declared.exit.Exit.{Exit}
use Rattle.cr_top.specs.declared.exit.Exit.TheVariants as exits
use Rattle.cr_top.specs.Exits.{exit_of}
use Rattle.cr_top.specs.Replayed.{told_along, steps_along, last_words, exit_at}
use Rattle.cr_top.specs.Runs.{Keeps, Outside, Pipes, IsFaultless, AnswersAll, desk, world}

-- ---- nothing lost: Replay is Told along Step

is_zero : (l : Bool) (n : ℕ) → cond l 1 0 + n ≡ 0 → (l ≡ false) × (n ≡ 0)
is_zero true n h = absurd (omega (arith, h))
is_zero false n h = (refl, omega (arith, h))

answer_to-told : (n : ℕ) (j : JudgedWish) → j.lost ≡ false → answer_to n j ≡ told j.seen j.wish (closes n j.wish)
unfolding answer_to
answer_to-told n j e = rw e refl

history_after-after_wish : (j : JudgedWish) → j.lost ≡ false → history_after j ≡ after_wish j.seen j.wish
unfolding history_after
history_after-after_wish j e = rw e refl

-- the history after a turn that lost nothing
stepped : (j : JudgedWish) (b b' : Ledger) → Turned j b b' → j.lost ≡ false → b'.history ≡ after_wish b.history j.wish
stepped j b b' t kept = t.history ∙ history_after-after_wish j kept ∙ ap (λ (h : History). after_wish h j.wish) t.seen

pub answers-told : (n : ℕ) (b b' : Ledger) (judged : List JudgedWish) → Replays judged b b' → lost_count judged ≡ 0
    → answers n judged ≡ told_along n b.history (wishes_of judged)
answers-told n b b' [] r none = refl
answers-told n b b' (j ∷ js) r none =
    let zero = is_zero j.lost (lost_count js) none in
    ap (λ (text : List ℕ). record { text = text; at = j.wish.at } ∷ answers (n + 1) js)
    (answer_to-told n j zero.0 ∙ ap (λ (h : History). told h j.wish (closes n j.wish)) r.1.seen)
    ∙ ap (λ (more : List Answer). record { text = told b.history j.wish (closes n j.wish); at = j.wish.at } ∷ more)
    (answers-told (n + 1) r.0 b' js r.2 zero.1
    ∙ ap (λ (h : History). told_along (n + 1) h (wishes_of js)) (stepped j b r.0 r.1 zero.0))

pub leads-steps : (b b' : Ledger) (judged : List JudgedWish) → Replays judged b b' → lost_count judged ≡ 0
    → b'.history ≡ steps_along b.history (wishes_of judged)
leads-steps b b' [] r none = ap (λ (x : Ledger). x.history) r
leads-steps b b' (j ∷ js) r none =
    let zero = is_zero j.lost (lost_count js) none in
    leads-steps r.0 b' js r.2 zero.1 ∙ ap (λ (h : History). steps_along h (wishes_of js)) (stepped j b r.0 r.1 zero.0)

-- ---- by the ending

-- what a text spells from its first request on
wishes : (b : List ℕ) (ws : List Wish) (end : End) → Spells 0 b ws end → Wishes b ws end
wishes b ws end s = record { requests = s.requests; spells = s.spells; wished = s.wish }

-- the text ended so, and what it spells was answered
record Answered (exit : Exit) (b : List ℕ) (judged : List JudgedWish) (d d' : Desk) : Type 0 where
  end : End
  spells : Wishes b (wishes_of judged) end
  exit_is : exit ≡ exit_at end
  at : ℕ
  told : GivesAnswers (answers 0 judged ++ last_words end at) d d'

bare : (texts : List Answer) (d d' : Desk) → GivesAnswers texts d d' → GivesAnswers (texts ++ []) d d'
bare texts d d' w = subst (λ (t : List Answer). GivesAnswers t d d') (sym (append-nil texts)) w

-- it ended by no refusal
unrefused : (exit : Exit) (end : End) (b : List ℕ) (judged : List JudgedWish) (d d' : Desk)
    → Spells 0 b (wishes_of judged) end → exit ≡ exit_at end
    → last_words end 0 ≡ [] → GivesAnswers (answers 0 judged) d d' → Answered exit b judged d d'
unrefused exit end b judged d d' spells is none told = record {
  end = end;
  spells = wishes b (wishes_of judged) end spells;
  exit_is = is;
  at = 0;
  told = subst (λ (last : List Answer). GivesAnswers (answers 0 judged ++ last) d d') (sym none)
      (bare (answers 0 judged) d d' told);
}

ended : (ending : Ending) (came b : List ℕ) (answered : List JudgedWish) (failed : Option JudgedWish) (p q : Ledger)
    (d d' : Desk) (f g : ℕ)
    → (Rises f g → ⊥) → (Rises d.sink.faults d'.sink.faults → ⊥) → (Rises d.clock.faults d'.clock.faults → ⊥)
    → CountsReads ending f g
    → EndsAs 0 came b answered d d' StaysInVain p q failed ending
    → (exit_of ending ≡ exits.OutOfMemory) ⊎ (Answered (exit_of ending) b answered d d' × (failed ≡ None))
ended ending came b answered (Some j) p q d d' f g read written timed counts e =
    absurd (written (failed-ends StaysInVain ending 0 came b answered j p q d d' e).1.fails.broken.rises)
ended endings.Clean came b answered None p q d d' f g read written timed counts e =
    inr (unrefused exits.Done ended_clean b answered d d' e.spells refl refl e.gave, refl)
ended endings.Cut came b answered None p q d d' f g read written timed counts e =
    inr (unrefused exits.Cut ended_cut b answered d d' e.spells refl refl e.gave, refl)
ended (endings.Closed whys.Asked) came b answered None p q d d' f g read written timed counts e =
    inr (unrefused exits.Done asked b answered d d' e.spells refl refl e.gave, refl)
ended (endings.Closed (whys.Refused why)) came b answered None p q d d' f g read written timed counts e =
    inr (
      record {
        end = closed why e.head;
        spells = wishes b (wishes_of answered) (closed why e.head) e.spells;
        exit_is = refl;
        at = e.at;
        told = e.gave;
      },
      refl,
    )
ended endings.ReadFault came b answered None p q d d' f g read written timed counts e = absurd (read counts.1)
ended endings.WriteFault came b answered None p q d d' f g read written timed counts e =
    absurd (written e.fails.broken.rises)
ended endings.ClockFault came b answered None p q d d' f g read written timed counts e =
    absurd (timed e.fails.failed.rises)
ended endings.OutOfMemory came b answered None p q d d' f g read written timed counts e = inl refl

module _ {I : Type 0} (opening : History) where
  answered : (exit : Exit) (b : List ℕ) (judged : List JudgedWish) (o o' : Outside I) (b0 b1 : Ledger)
      → b0.history ≡ opening → Legal b1.history
      → Replays judged b0 b1 → lost_count judged ≡ 0
      → Answered exit b judged (desk o) (desk o') → AnswersAll opening exit b o o'
  answered exit b judged o o' b0 b1 opens legal r none a = record {
    wishes = wishes_of judged;
    end = a.end;
    spells = a.spells;
    exit_is = a.exit_is;
    legal = subst Legal (leads-steps b0 b1 judged r none ∙ ap (λ (h : History). steps_along h (wishes_of judged)) opens)
        legal;
    at = a.at;
    told = subst (λ (texts : List Answer). GivesAnswers (texts ++ last_words a.end a.at) (desk o) (desk o'))
        (answers-told 0 b0 b1 judged r none ∙ ap (λ (h : History). told_along 0 h (wishes_of judged)) opens) a.told;
  }

-- ---- one connection

below_last : (n : ℕ) → nat_lt n (2 ^ 64 - 1) ≡ true → n < 2 ^ 64 - 1
below_last n e = grind arith

not_below : (m n : ℕ) → nat_lt m n ≡ false → m < n → ⊥
not_below m n e lt = grind arith

-- where the keeper's count didn't rise, nothing was lost
pub nothing_lost : (judged : List JudgedWish) (b b' : Ledger) → Replays judged b b' → (Rises b.faults b'.faults → ⊥)
    → lost_count judged ≡ 0
nothing_lost judged b b' r idle = last (nat_lt b'.faults (2 ^ 64 - 1)) refl
  where
    count : b'.faults < 2 ^ 64 - 1 → (t : Bool) → nat_lt b.faults b'.faults ≡ t → lost_count judged ≡ 0
    count lt true e = absurd (idle (λ is. ltb-true b.faults b'.faults e))
    count lt false e =
        let most = counted judged b b' r lt in
        let same = not_below b.faults b'.faults e in
        omega (arith, most, same)

    last : (t : Bool) → nat_lt b'.faults (2 ^ 64 - 1) ≡ t → lost_count judged ≡ 0
    last true e = count (below_last b'.faults e) (nat_lt b.faults b'.faults) refl
    last false e = absurd (idle (λ lt. absurd (not_below b'.faults (2 ^ 64 - 1) e lt)))

pub pipe_answers : {K I : Type 0} (rows : K → Option (List Row)) (keeps : Keeps) (faults : K → ℕ)
    (left : I → Option (List ℕ)) (gives : I → I → List ℕ → Type 0)
    (opening : History) (ending : Ending) (keeper keeper' : K) (b : List ℕ) (o o' : Outside I)
    → Pipes rows keeps faults left gives opening ending keeper keeper' o o' → left o.input ≡ Some b → IsFaultless o o'
    → (Rises (faults keeper) (faults keeper') → ⊥)
    → (exit_of ending ≡ exits.OutOfMemory) ⊎ AnswersAll opening (exit_of ending) b o o'
pipe_answers rows keeps faults left gives opening ending keeper keeper' b o o' p told faultless idle =
    let text = p.whole b told in
    by text.answered text.failed (replayed_whole left ending b (world o opening (faults keeper))
    (world o' p.history (faults keeper')) text)
    (ended ending text.came b text.answered text.failed text.judged b1 (desk o) (desk o') o.read_faults o'.read_faults
    faultless.read
    faultless.written faultless.timed
    p.connection.counts text.ends)
  where
    b0 : Ledger
    b0 = record { history = opening; faults = faults keeper }

    b1 : Ledger
    b1 = record { history = p.history; faults = faults keeper' }

    by : (js : List JudgedWish) (failed : Option JudgedWish) → Replays (js ++ listed failed) b0 b1
        → (exit_of ending ≡ exits.OutOfMemory) ⊎ (Answered (exit_of ending) b js (desk o) (desk o') × (failed ≡ None))
        → (exit_of ending ≡ exits.OutOfMemory) ⊎ AnswersAll opening (exit_of ending) b o o'
    by js failed r (inl e) = inl e
    by js failed r (inr a) =
        let all : Replays js b0 b1 = subst (λ (xs : List JudgedWish). Replays xs b0 b1) (append-nil js)
        (subst (λ (x : Option JudgedWish). Replays (js ++ listed x) b0 b1) a.1 r) in
        inr (answered opening (exit_of ending) b js o o' b0 b1 refl p.legal all (nothing_lost js b0 b1 all idle) a.0)
