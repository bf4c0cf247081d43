-- SPDX-License-Identifier: Apache-2.0 OR MIT
-- From what one request did to one round of the loop.
use Rattle.std.proofs.Common.{◌≡◌, ◌∙◌, ◌⊎◌, ℕ, ◌+◌, List, [], ◌∷◌, ◌++◌, length, Option, Some, None, Bool, true, false}
use Rattle.std.proofs.Common.{refl, sym, ap, subst, arith, inl, inr}
use Rattle.std.specs.Prelude.{MatchBool, ◌||◌, ◌==◌}
use Rattle.cr_http.specs.declared.refusal.Refusal.{Refusal}
use Rattle.cr_http.specs.Found.{whole, refused, clean, cut, StandsAt}
use Rattle.cr_http.specs.Requests.{RequestText, End, SpellsFrom, ReachesFrom, ended_clean, ended_cut, asked, closed}
use Rattle.cr_print.specs.Answers.{closing_text}
use Rattle.cr_wire.specs.declared.what.Wish.{Wish}
use Rattle.cr_wire.specs.Wish.{asks_close, wish_text}
use Rattle.cr_session.specs.declared.reading.WishRead.{WishRead}
use Rattle.cr_session.specs.declared.reading.WishRead.TheVariants as reads
use Rattle.cr_session.specs.declared.serve.Ending.{Ending}
use Rattle.cr_session.specs.declared.serve.Ending.TheVariants as endings
use Rattle.cr_session.specs.declared.serve.RequestOutcome.TheVariants as served
use Rattle.cr_session.specs.declared.serve.Why.TheVariants as whys
use Rattle.cr_session.specs.Reading.{ReadsWish, StandsWish}
use Rattle.cr_base.specs.Lists.{listed}
use Rattle.cr_session.specs.Replay.{JudgedWish, answer_to, wishes_of}
use Rattle.cr_session.specs.Tries.{Tries}
use Rattle.cr_session.specs.Passing.{KnownPass, TakesTurns}
use Rattle.cr_session.specs.Answering.{ClockState, Desk, GivesMoments, FailsBehind}
use Rattle.cr_session.specs.Serving.{World, ConnectionInHistory, GoesOnInHistory, WritesRefusal, NotesNoMemory, EndsAs}
use Rattle.cr_session.specs.Serving.{EndsSource, CountsReads}
use Rattle.cr_session.specs.Turning.{TurnsInVain, ServesRequest}
use Rattle.cr_session.specs.Wishes.{Spells}
use Rattle.cr_ports.specs.Writing.{WritesAnswers, AnswerBreaksOff}
use Rattle.cr_wire.specs.Wishes.{AreWishes, closes, closes_behind}
use Rattle.cr_http.specs.ToHead.{IsToHead}
use Rattle.cr_http.proofs.HeadsRead.{to_head_of}
use Rattle.cr_session.proofs.NoFurther.{no_further-one}
use Rattle.cr_session.proofs.Endings.{no_turns}
use Rattle.cr_session.proofs.Answering.{gives-none, moments-nil}
use Rattle.cr_session.proofs.NoMemory.{no_memory, noted-read}
use Rattle.cr_session.proofs.Passes.{takes-one}

closes_behind-is : (n : ℕ) (r : RequestText) → closes_behind n r ≡ (asks_close r.head || n == 1048575)
unfolding closes_behind
closes_behind-is n r = refl

closes-behind : (n : ℕ) (r : RequestText) (w : Wish) (b : Bool) → w ≡ wish_text r w.at → closes n w ≡ b
    → closes_behind n r ≡ b
unfolding closes_behind
closes-behind n r w b is e = ap (closes n) (sym is) ∙ e

-- one wish, by its request
one_wish : (j : JudgedWish) (w : Wish) (r : RequestText) → j.wish ≡ w → w ≡ wish_text r w.at
    → AreWishes (r ∷ []) (wishes_of (j ∷ []))
one_wish j w r a b = (subst (λ (x : Wish). x ≡ wish_text r x.at) (sym a) b, tt)

-- its moment is the one that the clock gave
wish-timed : (j : JudgedWish) (w : Wish) (c c' : ClockState) → j.wish ≡ w → GivesMoments (w.at ∷ []) c c'
    → GivesMoments (j.wish.at ∷ []) c c'
wish-timed j w c c' is timed = subst (λ (x : Wish). GivesMoments (x.at ∷ []) c c') (sym is) timed

last-closes : (n : ℕ) (rest : List ℕ) (b : Bool) → b ≡ true
    → MatchBool b (◌≡◌ {A = List RequestText} [] [] × (asked ≡ asked)) (SpellsFrom closes_behind (n + 1) rest [] asked)
last-closes n rest b e = subst (λ (c : Bool). MatchBool c (◌≡◌ {A = List RequestText} [] [] × (asked ≡ asked))
    (SpellsFrom closes_behind (n + 1) rest [] asked)) (sym e) (refl, refl)

either : (b : Bool) → MatchBool b (◌≡◌ {A = List RequestText} [] []) (Unit {0})
either true = refl
either false = tt

spells-none : (n : ℕ) (text : List ℕ) (end : End) → SpellsFrom closes_behind n text [] end → Spells n text [] end
spells-none n text end s = record { requests = []; wish = tt; spells = s }

to_wish : (text : List ℕ) (w : Wish) (rest : List ℕ) → StandsWish text w rest → IsToHead text w.is_head
to_wish text w rest s =
    to_head_of text (whole s.request.head s.request.body rest) w.is_head s.stands (ap (λ (x : Wish). x.is_head) s.wish)

module _ {K S : Type 0} (tries : Tries K) (left : S → Option (List ℕ)) (gives : S → S → List ℕ → Type 0) where
  -- ---- a whole request

  pub round_goes : (n : ℕ) (wish : Wish) (i i' : List ℕ) (w w' : World (KnownPass K) S)
      → ReadsWish left gives w.source w'.source i i' (reads.Wish wish)
      → GivesMoments (wish.at ∷ []) w.desk.clock w'.desk.clock
      → ServesRequest tries served.Goes n wish w.state w'.state w.desk.sink w'.desk.sink
      → w'.read_faults ≡ w.read_faults → GoesOnInHistory tries left gives 1 n i i' w w'
  round_goes n wish i i' w w' x timed y counts = record {
    got = x.got;
    given = x.given;
    answered = y.0.judged ∷ [];
    counted = refl;
    turns = takes-one tries y.0.judged w.state w'.state y.0.turned;
    reaches = record {
      requests = x.says.request ∷ [];
      wish = one_wish y.0.judged wish x.says.request y.0.wish x.says.wish;
      reaches = (i', x.says.stands, closes-behind n x.says.request wish false x.says.wish y.1, refl);
    };
    answering = record { timed = wish-timed y.0.judged wish w.desk.clock w'.desk.clock y.0.wish timed; written = y.2 };
    counts = counts;
    needed = no_further-one left gives n (y.0.judged ∷ []) w.source w'.source i (i ++ x.got) x.needed;
  }

  pub round_closes : (n : ℕ) (wish : Wish) (i i' : List ℕ) (w w' : World (KnownPass K) S)
      → ReadsWish left gives w.source w'.source i i' (reads.Wish wish)
      → GivesMoments (wish.at ∷ []) w.desk.clock w'.desk.clock
      → ServesRequest tries served.Closes n wish w.state w'.state w.desk.sink w'.desk.sink
      → w'.read_faults ≡ w.read_faults → ConnectionInHistory tries left gives (endings.Closed whys.Asked) n i w w'
  round_closes n wish i i' w w' x timed y counts = record {
    got = x.got;
    given = x.given;
    answered = y.0.judged ∷ [];
    failed = None;
    judged = w'.state;
    turns = takes-one tries y.0.judged w.state w'.state y.0.turned;
    settled = refl;
    ends = record {
      spells = record {
        requests = x.says.request ∷ [];
        wish = one_wish y.0.judged wish x.says.request y.0.wish x.says.wish;
        spells = (
          i',
          x.says.stands,
          last-closes n i' (closes_behind n x.says.request)
              (closes-behind n x.says.request wish true x.says.wish y.1),
        );
      };
      gave = record { timed = wish-timed y.0.judged wish w.desk.clock w'.desk.clock y.0.wish timed; written = y.2 };
    };
    ended = tt;
    counts = counts;
    needed = no_further-one left gives n (y.0.judged ∷ []) w.source w'.source i (i ++ x.got) x.needed;
  }

  pub round_write_fault : (n : ℕ) (wish : Wish) (i i' : List ℕ) (w w' : World (KnownPass K) S)
      → ReadsWish left gives w.source w'.source i i' (reads.Wish wish)
      → GivesMoments (wish.at ∷ []) w.desk.clock w'.desk.clock
      → ServesRequest tries served.WriteFault n wish w.state w'.state w.desk.sink w'.desk.sink
      → w'.read_faults ≡ w.read_faults → ConnectionInHistory tries left gives endings.WriteFault n i w w'
  round_write_fault n wish i i' w w' x timed y counts = record {
    got = x.got;
    given = x.given;
    answered = [];
    failed = Some y.0.judged;
    judged = w'.state;
    turns = takes-one tries y.0.judged w.state w'.state y.0.turned;
    settled = refl;
    ends = record {
      begins = record {
        requests = x.says.request ∷ [];
        wish = one_wish y.0.judged wish x.says.request y.0.wish x.says.wish;
        begins = (i', x.says.stands, either (closes_behind n x.says.request));
      };
      fails = record {
        timed = wish-timed y.0.judged wish w.desk.clock w'.desk.clock y.0.wish timed;
        broken =
            (let number : n ≡ n + 0 = omega arith in subst
            (λ (k : ℕ). AnswerBreaksOff [] (answer_to k y.0.judged) w.desk.sink w'.desk.sink) number y.1);
      };
    };
    ended = tt;
    counts = counts;
    needed = no_further-one left gives n [] w.source w'.source i (i ++ x.got) x.needed;
  }

  -- ---- no memory

  -- a request was read, and memory ran out in its turn
  pub round_no_memory : (ending : Ending) (n : ℕ) (wish : Wish) (i i' : List ℕ) (w w' : World (KnownPass K) S)
      (desk : Desk) → ending ≡ endings.OutOfMemory
      → ReadsWish left gives w.source w'.source i i' (reads.Wish wish)
      → GivesMoments (wish.at ∷ []) w.desk.clock desk.clock
      → ServesRequest tries served.OutOfMemory n wish w.state w'.state w.desk.sink desk.sink
      → NotesNoMemory (Some wish.at) wish.is_head desk w'.desk
      → w'.read_faults ≡ w.read_faults → ConnectionInHistory tries left gives ending n i w w'
  round_no_memory ending n wish i i' w w' desk is x timed y notes counts =
      no_memory (TakesTurns tries) (TurnsInVain tries) (λ p. refl) left gives ending n i x.got (Some wish.at)
      wish.is_head w w' is
      (to_wish (i ++ x.got) wish i' x.says) (inr (wish, i', x.says, refl, y.1))
      x.given (noted-read (Some wish.at) wish.is_head w.desk desk w'.desk y.0 timed notes) counts
      (no_further-one left gives n [] w.source w'.source i (i ++ x.got) x.needed)

  -- memory ran out in reading
  pub round_unread : (ending : Ending) (n : ℕ) (head : Bool) (read : Option ℕ) (i i' : List ℕ)
      (w w' : World (KnownPass K) S) (desk : Desk)
      → ending ≡ endings.OutOfMemory → ReadsWish left gives w.source w'.source i i' (reads.OutOfMemory head read)
      → GivesMoments (listed read) w.desk.clock desk.clock → desk.sink ≡ w.desk.sink → w'.state ≡ w.state
      → NotesNoMemory read head desk w'.desk → w'.read_faults ≡ w.read_faults
      → ConnectionInHistory tries left gives ending n i w w'
  round_unread ending n head read i i' w w' desk is x timed unwritten same notes counts =
      no_memory (TakesTurns tries) (TurnsInVain tries) (λ p. refl) left gives ending n i x.got read head w w' is
      x.says.0 (inl (x.says.1, same)) x.given
      (noted-read read head w.desk desk w'.desk unwritten timed notes) counts
      (no_further-one left gives n [] w.source w'.source i (i ++ x.got) x.needed)

  -- ---- no request

  -- no wish was judged: what stands there, or a fault, ended the connection
  unanswered : (ending : Ending) (n : ℕ) (i i' : List ℕ) (w w' : World (KnownPass K) S) (read : WishRead)
      (x : ReadsWish left gives w.source w'.source i i' read)
      → EndsAs n (i ++ x.got) (i ++ x.got) [] w.desk w'.desk (TurnsInVain tries) w.state w'.state None ending
      → EndsSource ending (left w'.source)
      → CountsReads ending w.read_faults w'.read_faults → w'.state ≡ w.state
      → ConnectionInHistory tries left gives ending n i w w'
  unanswered ending n i i' w w' read x ends ended counts same = record {
    got = x.got;
    given = x.given;
    answered = [];
    failed = None;
    judged = w.state;
    turns = refl;
    settled = no_turns ending w.state w'.state same;
    ends = ends;
    ended = ended;
    counts = counts;
    needed = no_further-one left gives n [] w.source w'.source i (i ++ x.got) x.needed;
  }

  pub round_refused : (ending : Ending) (n : ℕ) (why : Refusal) (head : Bool) (at : ℕ) (i i' : List ℕ)
      (w w' : World (KnownPass K) S)
      → ReadsWish left gives w.source w'.source i i' (reads.Malformed why head at)
      → GivesMoments (at ∷ []) w.desk.clock w'.desk.clock
      → WritesRefusal ending why head at w.desk.sink w'.desk.sink → w'.state ≡ w.state → w'.read_faults ≡ w.read_faults
      → ConnectionInHistory tries left gives ending n i w w'
  round_refused endings.Clean n why head at i i' w w' x timed y same counts = absurd y
  round_refused endings.Cut n why head at i i' w w' x timed y same counts = absurd y
  round_refused endings.ReadFault n why head at i i' w w' x timed y same counts = absurd y
  round_refused endings.ClockFault n why head at i i' w w' x timed y same counts = absurd y
  round_refused endings.OutOfMemory n why head at i i' w w' x timed y same counts = absurd y
  round_refused (endings.Closed whys.Asked) n why head at i i' w w' x timed y same counts = absurd y
  round_refused (endings.Closed (whys.Refused said)) n why head at i i' w w' x timed y same counts =
      unanswered (endings.Closed (whys.Refused said)) n i i' w w' (reads.Malformed why head at) x
      (record {
        head = head;
        at = at;
        spells = spells-none n (i ++ x.got) (closed said head)
            (refused why head, x.says, ap (λ (v : Refusal). closed v head) y.0);
        gave = record {
          timed = timed;
          written =
              subst (λ (v : Refusal). WritesAnswers (closing_text v head at ∷ []) w.desk.sink w'.desk.sink) (sym y.0)
              y.1;
        };
      })
      tt counts same
  round_refused endings.WriteFault n why head at i i' w w' x timed y same counts =
      unanswered endings.WriteFault n i i' w w' (reads.Malformed why head at) x
      (record {
        why = why;
        head = head;
        at = at;
        spells = spells-none n (i ++ x.got) (closed why head) (refused why head, x.says, refl);
        fails = record { timed = timed; broken = y };
      })
      tt counts same

  pub round_cut : (n : ℕ) (i i' : List ℕ) (w w' : World (KnownPass K) S)
      → ReadsWish left gives w.source w'.source i i' reads.Cut
      → GivesMoments [] w.desk.clock w'.desk.clock → w'.state ≡ w.state → w'.desk.sink ≡ w.desk.sink
      → w'.read_faults ≡ w.read_faults → ConnectionInHistory tries left gives endings.Cut n i w w'
  round_cut n i i' w w' x timed same sink counts =
      unanswered endings.Cut n i i' w w' reads.Cut x
      (record {
        spells = spells-none n (i ++ x.got) ended_cut (cut, x.says, refl);
        gave = gives-none w.desk w'.desk sink timed;
      })
      x.ended counts same

  pub round_clean : (n : ℕ) (i i' : List ℕ) (w w' : World (KnownPass K) S)
      → ReadsWish left gives w.source w'.source i i' reads.Clean
      → GivesMoments [] w.desk.clock w'.desk.clock → w'.state ≡ w.state → w'.desk.sink ≡ w.desk.sink
      → w'.read_faults ≡ w.read_faults → ConnectionInHistory tries left gives endings.Clean n i w w'
  round_clean n i i' w w' x timed same sink counts =
      unanswered endings.Clean n i i' w w' reads.Clean x
      (record {
        spells = spells-none n (i ++ x.got) ended_clean (clean, x.says, refl);
        gave = gives-none w.desk w'.desk sink timed;
      })
      x.ended counts same

  pub round_read_fault : (n : ℕ) (i i' : List ℕ) (w w' : World (KnownPass K) S)
      → ReadsWish left gives w.source w'.source i i' reads.ReadFault
      → GivesMoments [] w.desk.clock w'.desk.clock → CountsReads endings.ReadFault w.read_faults w'.read_faults
      → w'.state ≡ w.state → w'.desk.sink ≡ w.desk.sink
      → ConnectionInHistory tries left gives endings.ReadFault n i w w'
  round_read_fault n i i' w w' x timed rises same sink =
      unanswered endings.ReadFault n i i' w w' reads.ReadFault x
      (record { spells = which x.says; gave = gives-none w.desk w'.desk sink timed }) tt rises same
    where
      which : StandsAt (i ++ x.got) clean ⊎ StandsAt (i ++ x.got) cut → Spells n (i ++ x.got) [] ended_clean
          ⊎ Spells n (i ++ x.got) [] ended_cut
      which (inl is) = inl (spells-none n (i ++ x.got) ended_clean (clean, is, refl))
      which (inr is) = inr (spells-none n (i ++ x.got) ended_cut (cut, is, refl))

  pub round_clock_fault : (n : ℕ) (i i' : List ℕ) (w w' : World (KnownPass K) S)
      → ReadsWish left gives w.source w'.source i i' reads.ClockFault
      → FailsBehind [] w.desk.clock w'.desk.clock → w'.state ≡ w.state → w'.desk.sink ≡ w.desk.sink
      → w'.read_faults ≡ w.read_faults → ConnectionInHistory tries left gives endings.ClockFault n i w w'
  round_clock_fault n i i' w w' x failed same sink counts =
      unanswered endings.ClockFault n i i' w w' reads.ClockFault x
      (record {
        rest = i ++ x.got;
        reaches = record { requests = []; wish = tt; reaches = refl };
        settled = x.says;
        fails = record {
          failed = failed;
          written = (gives-none w.desk (record { sink = w'.desk.sink; clock = w.desk.clock }) sink
              (moments-nil w.desk.clock)).written;
        };
      })
      tt counts same

  -- ---- the last request that may come closes

  pub not_last : (n : ℕ) (i i' : List ℕ) (w w' : World (KnownPass K) S) → GoesOnInHistory tries left gives 1 n i i' w w'
      → n ≡ 1048575 → ⊥
  not_last n i i' w w' x last = one x.answered x.reaches.requests x.counted x.reaches.wish x.reaches.reaches
    where
      or_true : (p q : Bool) → q ≡ true → p || q ≡ false → ⊥
      or_true true q e f = cc
      or_true false q e f = cc

      one : (js : List JudgedWish) (rs : List RequestText) → length js ≡ 1 → AreWishes rs (wishes_of js)
          → ReachesFrom closes_behind n (i ++ x.got) rs i'
          → ⊥
      one [] rs e f r = omega arith
      one (j ∷ js) [] e f r = f
      one (j ∷ js) (q ∷ rs) e f r =
          or_true (asks_close q.head) (n == 1048575) (ap (λ k. k == 1048575) last) (sym (closes_behind-is n q) ∙ r.2)
