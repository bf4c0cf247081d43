-- SPDX-License-Identifier: Apache-2.0 OR MIT
-- What a connection did goes on behind what it did before.
use Rattle.std.proofs.Common.{◌≡◌, ◌∙◌, ◌⊎◌, ℕ, ◌+◌, List, [], ◌∷◌, ◌++◌, length, Option, Some, None, Bool, refl, sym}
use Rattle.std.proofs.Common.{ap, subst, append_assoc, arith, inl, inr, length-append}
use Rattle.cr_base.specs.Lists.{listed}
use Rattle.cr_ports.specs.Stream.{and_left}
use Rattle.cr_http.specs.Requests.{End, ended_clean, ended_cut, asked, closed}
use Rattle.cr_http.proofs.Moving.{and_left-nil, and_left-append}
use Rattle.cr_session.specs.declared.serve.Ending.{Ending}
use Rattle.cr_session.specs.declared.serve.Ending.TheVariants as endings
use Rattle.cr_session.specs.declared.serve.Why.TheVariants as whys
use Rattle.cr_session.specs.Answering.{Answer, Desk, GivesAnswers, AnswerFails, ClockFails}
use Rattle.cr_session.specs.Replay.{JudgedWish, answers, answer_of, wishes_of}
use Rattle.cr_session.specs.Tries.{Tries}
use Rattle.cr_session.specs.Passing.{KnownPass, TakesTurns}
use Rattle.cr_session.specs.Turning.{TurnsInVain}
use Rattle.cr_session.specs.Serving.{World, EndsAs, CountsReads, ConnectionInHistory, GoesOnInHistory, GivesNote}
use Rattle.cr_session.specs.Serving.{TellsWantOfMemory, TextEnds, ReadsNoFurther, note_at, refusal_at}
use Rattle.cr_session.specs.Wishes.{Spells, Begins, Reaches}
use Rattle.cr_session.proofs.Endings.{failed-ends}
use Rattle.cr_session.proofs.NoFurther.{no_further-append, no_further-still}
use Rattle.cr_session.proofs.Turns.{answers-append}
use Rattle.cr_session.proofs.Passes.{takes-append}
use Rattle.cr_session.proofs.WishRuns.{spells_on, begins_on, reaches_on, Reaches-more}
use Rattle.cr_session.proofs.Answering.{moments-nil, gives-none, gives-append, fails_behind, clock_fails_behind}

-- ---- what was answered

-- the answers, and more behind them
answers_on : (n : ℕ) (js ks : List JudgedWish) (more : List Answer)
    → answers n js ++ (answers (n + length js) ks ++ more) ≡ answers n (js ++ ks) ++ more
answers_on n js ks more = sym (append_assoc (answers n js) (answers (n + length js) ks) more)
    ∙ ap (λ a. a ++ more) (sym (answers-append n js ks))

gave_on : (n : ℕ) (js ks : List JudgedWish) (more : List Answer) (d e f : Desk) → GivesAnswers (answers n js) d e
    → GivesAnswers (answers (n + length js) ks ++ more) e f
    → GivesAnswers (answers n (js ++ ks) ++ more) d f
gave_on n js ks more d e f x y =
    subst (λ (b : List Answer). GivesAnswers b d f) (answers_on n js ks more)
    (gives-append (answers n js) (answers (n + length js) ks ++ more) d e f x y)

gave_all : (n : ℕ) (js ks : List JudgedWish) (d e f : Desk) → GivesAnswers (answers n js) d e
    → GivesAnswers (answers (n + length js) ks) e f
    → GivesAnswers (answers n (js ++ ks)) d f
gave_all n js ks d e f x y =
    subst (λ (b : List Answer). GivesAnswers b d f) (sym (answers-append n js ks))
    (gives-append (answers n js) (answers (n + length js) ks) d e f x y)

broke_off : (n : ℕ) (js ks : List JudgedWish) (a : Answer) (d e f : Desk) → GivesAnswers (answers n js) d e
    → AnswerFails (answers (n + length js) ks) a e f
    → AnswerFails (answers n (js ++ ks)) a d f
broke_off n js ks a d e f x y =
    subst (λ (b : List Answer). AnswerFails b a d f) (sym (answers-append n js ks))
    (fails_behind (answers n js) (answers (n + length js) ks) a d e f x y)

stopped : (n : ℕ) (js ks : List JudgedWish) (d e f : Desk) → GivesAnswers (answers n js) d e
    → ClockFails (answers (n + length js) ks) e f
    → ClockFails (answers n (js ++ ks)) d f
stopped n js ks d e f x y =
    subst (λ (b : List Answer). ClockFails b d f) (sym (answers-append n js ks))
    (clock_fails_behind (answers n js) (answers (n + length js) ks) d e f x y)

noted-at : (n : ℕ) (js ks : List JudgedWish) (head : Bool) (at : ℕ) (d e f : Desk) → GivesAnswers (answers n js) d e
    → GivesNote (answers (n + length js) ks) head at e f → GivesNote (answers n (js ++ ks)) head at d f
noted-at n js ks head at d e f x (inl is) = inl (gave_on n js ks (note_at head at ∷ []) d e f x is)
noted-at n js ks head at d e f x (inr is) = inr (broke_off n js ks (note_at head at) d e f x is)

noted : (n : ℕ) (js ks : List JudgedWish) (read : Option ℕ) (head : Bool) (d e f : Desk)
    → GivesAnswers (answers n js) d e
    → TellsWantOfMemory (answers (n + length js) ks) read head e f
    → TellsWantOfMemory (answers n (js ++ ks)) read head d f
noted n js ks (Some at) head d e f x is = noted-at n js ks head at d e f x is
noted n js ks None head d e f x (inl is) = inl (is.0, noted-at n js ks head is.0 d e f x is.1)
noted n js ks None head d e f x (inr is) = inr (stopped n js ks d e f x is)

-- ---- by the ending

text_ends : (end : End) (n : ℕ) (text rest : List ℕ) (js ks : List JudgedWish) (d e f : Desk)
    → Reaches n text (wishes_of js) rest → GivesAnswers (answers n js) d e
    → TextEnds (n + length js) rest rest ks e f end → TextEnds n text text (js ++ ks) d f end
text_ends end n text rest js ks d e f reach first x =
    record { spells = spells_on n text rest js ks end reach x.spells; gave = gave_all n js ks d e f first x.gave }

module _ {K : Type 0} (tries : Tries K) where
  ends_on : (ending : Ending) (n : ℕ) (text rest : List ℕ) (js ks : List JudgedWish) (failed : Option JudgedWish)
      (p p' : KnownPass K) (d e f : Desk)
      → Reaches n text (wishes_of js) rest → GivesAnswers (answers n js) d e
      → EndsAs (n + length js) rest rest ks e f (TurnsInVain tries) p p' failed ending
      → EndsAs n text text (js ++ ks) d f (TurnsInVain tries) p p' failed ending
  ends_on ending n text rest js ks (Some j) p p' d e f reach first x =
      let number : n + length js + length ks ≡ n + length (js ++ ks) = let l =
      length-append js ks in omega (arith, l) in
      let parts = failed-ends (TurnsInVain tries) ending (n + length js) rest rest ks j p p' e f x in
      subst (λ (y : Ending). EndsAs n text text (js ++ ks) d f (TurnsInVain tries) p p' (Some j) y) (sym parts.0)
      (record {
        begins =
            subst (λ (all : List JudgedWish). Begins n text (wishes_of all)) (sym (append_assoc js ks (j ∷ [])))
            (begins_on n text rest js (ks ++ j ∷ []) reach parts.1.begins);
        fails = broke_off n js ks (answer_of (n + length (js ++ ks)) j) d e f first
            (subst (λ (k : ℕ). AnswerFails (answers (n + length js) ks) (answer_of k j) e f) number parts.1.fails);
      })
  ends_on endings.Clean n text rest js ks None p p' d e f reach first x =
      text_ends ended_clean n text rest js ks d e f reach first x
  ends_on endings.Cut n text rest js ks None p p' d e f reach first x =
      text_ends ended_cut n text rest js ks d e f reach first x
  ends_on (endings.Closed whys.Asked) n text rest js ks None p p' d e f reach first x =
      text_ends asked n text rest js ks d e f reach first x
  ends_on (endings.Closed (whys.Refused why)) n text rest js ks None p p' d e f reach first x = record {
    head = x.head;
    at = x.at;
    spells = spells_on n text rest js ks (closed why x.head) reach x.spells;
    gave = gave_on n js ks (refusal_at why x.head x.at ∷ []) d e f first x.gave;
  }
  ends_on endings.ReadFault n text rest js ks None p p' d e f reach first x =
      record { spells = which x.spells; gave = gave_all n js ks d e f first x.gave }
    where
      which : Spells (n + length js) rest (wishes_of ks) ended_clean
          ⊎ Spells (n + length js) rest (wishes_of ks) ended_cut
          → Spells n text (wishes_of (js ++ ks)) ended_clean ⊎ Spells n text (wishes_of (js ++ ks)) ended_cut
      which (inl is) = inl (spells_on n text rest js ks ended_clean reach is)
      which (inr is) = inr (spells_on n text rest js ks ended_cut reach is)
  ends_on endings.WriteFault n text rest js ks None p p' d e f reach first x = record {
    why = x.why;
    head = x.head;
    at = x.at;
    spells = spells_on n text rest js ks (closed x.why x.head) reach x.spells;
    fails = broke_off n js ks (refusal_at x.why x.head x.at) d e f first x.fails;
  }
  ends_on endings.ClockFault n text rest js ks None p p' d e f reach first x = record {
    rest = x.rest;
    reaches = reaches_on n text rest x.rest js ks reach x.reaches;
    settled = x.settled;
    fails = stopped n js ks d e f first x.fails;
  }
  ends_on endings.OutOfMemory n text rest js ks None p p' d e f reach first x = record {
    rest = x.rest;
    reaches = reaches_on n text rest x.rest js ks reach x.reaches;
    read = x.read;
    lacks = x.lacks;
    head = x.head;
    to_head = x.to_head;
    tells = noted n js ks x.read x.head d e f first x.tells;
  }

counts_on : (ending : Ending) (f g h : ℕ) → g ≡ f → CountsReads ending g h → CountsReads ending f h
counts_on ending f g h same c = subst (λ (x : ℕ). CountsReads ending x h) same c

-- ---- one part behind another

reach_now : (n : ℕ) (a g k : List ℕ) (js : List JudgedWish) (i : List ℕ) → Reaches n (a ++ g) (wishes_of js) i
    → Reaches n (a ++ (g ++ k)) (wishes_of js) (i ++ k)
reach_now n a g k js i is = subst (λ (t : List ℕ). Reaches n t (wishes_of js) (i ++ k)) (append_assoc a g k)
    (Reaches-more n (a ++ g) k (wishes_of js) i is)

number_of : (c : ℕ) (js : List JudgedWish) → length js ≡ c → c ≡ 0 + length js
number_of c js e = omega (arith, e)

module _ {K S : Type 0} (tries : Tries K) (left : S → Option (List ℕ)) (gives : S → S → List ℕ → Type 0) where
  -- reads from a request's number on, however the number is told
  from_number : (c k : ℕ) (ks : List JudgedWish) (p q : S) (old new : List ℕ) → c ≡ k
      → ReadsNoFurther left gives c ks p q old new
      → ReadsNoFurther left gives k ks p q old new
  from_number c k ks p q old new e x = subst (λ (m : ℕ). ReadsNoFurther left gives m ks p q old new) e x

  -- what a connection did up to its end, behind what it did before
  pub ends_after : (ending : Ending) (c : ℕ) (a b : List ℕ) (w v u : World (KnownPass K) S)
      → GoesOnInHistory tries left gives c 0 a b w v → ConnectionInHistory tries left gives ending c b v u
      → ConnectionInHistory tries left gives ending 0 a w u
  ends_after ending c a b w v u x y =
      let number : c ≡ 0 + length x.answered = number_of c x.answered x.counted in
      record {
        got = x.got ++ y.got;
        given = x.given ∙ ap (and_left x.got) y.given ∙ and_left-append x.got y.got (left u.source);
        answered = x.answered ++ y.answered;
        failed = y.failed;
        judged = y.judged;
        turns = subst (λ (all : List JudgedWish). TakesTurns tries all w.state y.judged)
            (sym (append_assoc x.answered y.answered (listed y.failed)))
            (takes-append tries x.answered (y.answered ++ listed y.failed) w.state v.state y.judged x.turns y.turns);
        settled = y.settled;
        ends = ends_on tries ending 0 (a ++ (x.got ++ y.got)) (b ++ y.got) x.answered y.answered y.failed y.judged
            u.state w.desk v.desk u.desk
            (reach_now 0 a x.got y.got x.answered b x.reaches) x.answering
            (subst (λ (k : ℕ). EndsAs k (b ++ y.got) (b ++ y.got) y.answered v.desk u.desk (TurnsInVain tries) y.judged
            u.state y.failed ending) number
            y.ends);
        ended = y.ended;
        counts = counts_on ending w.read_faults v.read_faults u.read_faults x.counts y.counts;
        needed = no_further-append left gives 0 x.answered y.answered w.source v.source u.source a b x.got y.got x.given
            x.reaches x.needed
            (from_number c (0 + length x.answered) y.answered v.source u.source b (b ++ y.got) number y.needed);
      }

  -- the same up to a request that doesn't close
  pub goes_after : (c d : ℕ) (a b e : List ℕ) (w v u : World (KnownPass K) S)
      → GoesOnInHistory tries left gives c 0 a b w v → GoesOnInHistory tries left gives d c b e v u
      → GoesOnInHistory tries left gives (c + d) 0 a e w u
  goes_after c d a b e w v u x y =
      let number : c ≡ 0 + length x.answered = number_of c x.answered x.counted in
      record {
        got = x.got ++ y.got;
        given = x.given ∙ ap (and_left x.got) y.given ∙ and_left-append x.got y.got (left u.source);
        answered = x.answered ++ y.answered;
        counted = let i = x.counted in let j = y.counted in let k =
            length-append x.answered y.answered in omega (arith, i, j, k);
        turns = takes-append tries x.answered y.answered w.state v.state u.state x.turns y.turns;
        reaches = reaches_on 0 (a ++ (x.got ++ y.got)) (b ++ y.got) e x.answered y.answered
            (reach_now 0 a x.got y.got x.answered b x.reaches)
            (subst (λ (k : ℕ). Reaches k (b ++ y.got) (wishes_of y.answered) e) number y.reaches);
        answering = gave_all 0 x.answered y.answered w.desk v.desk u.desk x.answering
            (subst (λ (k : ℕ). GivesAnswers (answers k y.answered) v.desk u.desk) number y.answering);
        counts = y.counts ∙ x.counts;
        needed = no_further-append left gives 0 x.answered y.answered w.source v.source u.source a b x.got y.got x.given
            x.reaches x.needed
            (from_number c (0 + length x.answered) y.answered v.source u.source b (b ++ y.got) number y.needed);
      }

  -- nothing has come yet
  pub started : (w : World (KnownPass K) S) → GoesOnInHistory tries left gives 0 0 [] [] w w
  started w = record {
    got = [];
    given = sym (and_left-nil (left w.source));
    answered = [];
    counted = refl;
    turns = refl;
    reaches = record { requests = []; wish = tt; reaches = refl };
    answering = gives-none w.desk w.desk refl (moments-nil w.desk.clock);
    counts = refl;
    needed = no_further-still left gives 0 [] w.source [];
  }
