-- SPDX-License-Identifier: Apache-2.0 OR MIT
-- What was judged of the bytes that came is what the whole text spells.
use Rattle.std.proofs.Common.{◌≡◌, ◌∙◌, ◌⊎◌, ℕ, List, [], ◌∷◌, ◌++◌, Option, Some, None, sym, ap, subst, append-nil}
use Rattle.std.proofs.Common.{inl, inr}
use Rattle.cr_base.specs.Lists.{listed}
use Rattle.cr_ports.specs.Count.{Rises}
use Rattle.cr_ports.specs.Stream.{and_left}
use Rattle.cr_http.specs.Filling.{IsAtEnd}
use Rattle.cr_http.specs.Requests.{End, ended_clean, ended_cut, asked, closed}
use Rattle.cr_session.specs.declared.serve.Ending.{Ending}
use Rattle.cr_session.specs.declared.serve.Ending.TheVariants as endings
use Rattle.cr_session.specs.declared.serve.Why.TheVariants as whys
use Rattle.cr_session.specs.Replay.{JudgedWish, wishes_of}
use Rattle.cr_session.specs.Answering.{Desk}
use Rattle.cr_session.specs.Serving.{World, EndsAs, EndsSource, CountsReads, Connection, WholeText}
use Rattle.cr_wire.specs.declared.what.Wish.{Wish}
use Rattle.cr_session.specs.Wishes.{Spells, Begins}
use Rattle.cr_session.proofs.Endings.{failed-ends}
use Rattle.cr_session.proofs.Runs.{IsClosing}
use Rattle.cr_session.proofs.WishRuns.{Spells-more, Begins-more, Spells-begins, Reaches-begins}

told_rest : (left' : Option (List ℕ)) (got b : List ℕ) → Some b ≡ and_left got left'
    → (rest : List ℕ) × (left' ≡ Some rest) × (b ≡ got ++ rest)
told_rest None got b e = absurd (cc)
told_rest (Some rest) got b e = (rest, cc, cc)

-- what came spells what the whole text spells: at the end of the stream it is the whole text
spells_all : (came b rest : List ℕ) (left' : Option (List ℕ)) (ws : List Wish) (end : End) → left' ≡ Some rest
    → b ≡ came ++ rest → IsAtEnd left'
    → Spells 0 came ws end → Spells 0 b ws end
spells_all came b rest left' ws end told is at_end s =
    let none : rest ≡ [] = subst IsAtEnd told at_end in
    subst (λ (t : List ℕ). Spells 0 t ws end) (sym (is ∙ ap (λ (r : List ℕ). came ++ r) none ∙ append-nil came)) s

-- and behind what closes it doesn't matter what follows
spells_closed : (came b rest : List ℕ) (ws : List Wish) (end : End) → b ≡ came ++ rest → IsClosing end
    → Spells 0 came ws end → Spells 0 b ws end
spells_closed came b rest ws end is closing s =
    subst (λ (t : List ℕ). Spells 0 t ws end) (sym is) (Spells-more 0 came rest ws end closing s)

begins_all : (came b rest : List ℕ) (ws : List Wish) → b ≡ came ++ rest → Begins 0 came ws → Begins 0 b ws
begins_all came b rest ws is s = subst (λ (t : List ℕ). Begins 0 t ws) (sym is) (Begins-more 0 came rest ws s)

module _ {B : Type 0} (Judges : List JudgedWish → B → B → Type 0) (Lacks : Wish → B → B → Type 0) where
  ends_whole : (ending : Ending) (came b rest : List ℕ) (left' : Option (List ℕ)) (answered : List JudgedWish)
      (failed : Option JudgedWish) (p p' : B)
      (d d' : Desk)
      → left' ≡ Some rest → b ≡ came ++ rest → EndsSource ending left'
      → EndsAs 0 came came answered d d' Lacks p p' failed ending
      → EndsAs 0 came b answered d d' Lacks p p' failed ending
  ends_whole ending came b rest left' answered (Some j) p p' d d' told is end e =
      let parts = failed-ends Lacks ending 0 came came answered j p p' d d' e in
      subst (λ (y : Ending). EndsAs 0 came b answered d d' Lacks p p' (Some j) y) (sym parts.0)
      (record {
        begins = begins_all came b rest (wishes_of (answered ++ j ∷ [])) is parts.1.begins;
        fails = parts.1.fails;
      })
  ends_whole endings.Clean came b rest left' answered None p p' d d' told is end e =
      record { spells = spells_all came b rest left' (wishes_of answered) ended_clean told is end e.spells; gave = e.gave }
  ends_whole endings.Cut came b rest left' answered None p p' d d' told is end e =
      record { spells = spells_all came b rest left' (wishes_of answered) ended_cut told is end e.spells; gave = e.gave }
  ends_whole (endings.Closed whys.Asked) came b rest left' answered None p p' d d' told is end e =
      record { spells = spells_closed came b rest (wishes_of answered) asked is tt e.spells; gave = e.gave }
  ends_whole (endings.Closed (whys.Refused why)) came b rest left' answered None p p' d d' told is end e = record {
    head = e.head;
    at = e.at;
    spells = spells_closed came b rest (wishes_of answered) (closed why e.head) is tt e.spells;
    gave = e.gave;
  }
  ends_whole endings.ReadFault came b rest left' answered None p p' d d' told is end e =
      record { spells = e.spells; gave = e.gave }
  ends_whole endings.WriteFault came b rest left' answered None p p' d d' told is end e = record {
    why = e.why;
    head = e.head;
    at = e.at;
    spells = spells_closed came b rest (wishes_of answered) (closed e.why e.head) is tt e.spells;
    fails = e.fails;
  }
  ends_whole endings.ClockFault came b rest left' answered None p p' d d' told is end e =
      record { rest = e.rest; reaches = e.reaches; settled = e.settled; fails = e.fails }
  ends_whole endings.OutOfMemory came b rest left' answered None p p' d d' told is end e = record {
    rest = e.rest;
    reaches = e.reaches;
    read = e.read;
    lacks = e.lacks;
    head = e.head;
    to_head = e.to_head;
    tells = e.tells;
  }

  begins_judged : (ending : Ending) (came : List ℕ) (answered : List JudgedWish) (failed : Option JudgedWish) (p p' : B)
      (d d' : Desk)
      → EndsAs 0 came came answered d d' Lacks p p' failed ending
      → Begins 0 came (wishes_of (answered ++ listed failed))
  begins_judged ending came answered (Some j) p p' d d' e =
      (failed-ends Lacks ending 0 came came answered j p p' d d' e).1.begins
  begins_judged ending came answered None p p' d d' e =
      subst (λ (all : List JudgedWish). Begins 0 came (wishes_of all)) (sym (append-nil answered)) (by ending e)
    where
      either : Spells 0 came (wishes_of answered) ended_clean ⊎ Spells 0 came (wishes_of answered) ended_cut
          → Begins 0 came (wishes_of answered)
      either (inl is) = Spells-begins 0 came (wishes_of answered) ended_clean is
      either (inr is) = Spells-begins 0 came (wishes_of answered) ended_cut is

      by : (x : Ending) → EndsAs 0 came came answered d d' Lacks p p' None x → Begins 0 came (wishes_of answered)
      by endings.Clean x = Spells-begins 0 came (wishes_of answered) ended_clean x.spells
      by endings.Cut x = Spells-begins 0 came (wishes_of answered) ended_cut x.spells
      by (endings.Closed whys.Asked) x = Spells-begins 0 came (wishes_of answered) asked x.spells
      by (endings.Closed (whys.Refused why)) x =
          Spells-begins 0 came (wishes_of answered) (closed why x.head) x.spells
      by endings.ReadFault x = either x.spells
      by endings.WriteFault x = Spells-begins 0 came (wishes_of answered) (closed x.why x.head) x.spells
      by endings.ClockFault x = Reaches-begins 0 came (wishes_of answered) x.rest x.reaches
      by endings.OutOfMemory x = Reaches-begins 0 came (wishes_of answered) x.rest x.reaches

  module _ {S : Type 0} (left : S → Option (List ℕ)) (gives : S → S → List ℕ → Type 0) where
    pub whole_text : (ending : Ending) (b : List ℕ) (w w' : World B S)
        → Connection Judges Lacks left gives ending 0 [] w w' → left w.source ≡ Some b
        → WholeText Judges Lacks left ending b w w'
    whole_text ending b w w' c told =
        let rest = told_rest (left w'.source) c.got b (sym told ∙ c.given) in
        record {
          came = c.got;
          rest = rest.0;
          parts = rest.2;
          left_is = rest.1;
          answered = c.answered;
          failed = c.failed;
          judged = c.judged;
          turns = c.turns;
          settled = c.settled;
          begins = begins_all c.got b rest.0 (wishes_of (c.answered ++ listed c.failed)) rest.2
              (begins_judged ending c.got c.answered c.failed c.judged w'.state w.desk w'.desk c.ends);
          ends = ends_whole ending c.got b rest.0 (left w'.source) c.answered c.failed c.judged w'.state w.desk w'.desk
              rest.1 rest.2 c.ended c.ends;
        }

    -- the causes of faults
    pub read_rises : (ending : Ending) (n : ℕ) (i : List ℕ) (w w' : World B S)
        → Connection Judges Lacks left gives ending n i w w'
        → ending ≡ endings.ReadFault → Rises w.read_faults w'.read_faults
    read_rises ending n i w w' c is = (subst (λ (e : Ending). CountsReads e w.read_faults w'.read_faults) is c.counts).1

    pub write_rises : (ending : Ending) (n : ℕ) (i : List ℕ) (w w' : World B S)
        → Connection Judges Lacks left gives ending n i w w'
        → ending ≡ endings.WriteFault → Rises w.desk.sink.faults w'.desk.sink.faults
    write_rises ending n i w w' c is =
        by c.failed
        (subst (λ (e : Ending). EndsAs n (i ++ c.got) (i ++ c.got) c.answered w.desk w'.desk Lacks c.judged w'.state
        c.failed e) is c.ends)
      where
        by : (failed : Option JudgedWish)
            → EndsAs n (i ++ c.got) (i ++ c.got) c.answered w.desk w'.desk Lacks c.judged w'.state failed
            endings.WriteFault
            → Rises w.desk.sink.faults w'.desk.sink.faults
        by (Some j) e = e.fails.broken.rises
        by None e = e.fails.broken.rises

    pub clock_rises : (ending : Ending) (n : ℕ) (i : List ℕ) (w w' : World B S)
        → Connection Judges Lacks left gives ending n i w w'
        → ending ≡ endings.ClockFault → Rises w.desk.clock.faults w'.desk.clock.faults
    clock_rises ending n i w w' c is =
        by c.failed
        (subst (λ (e : Ending). EndsAs n (i ++ c.got) (i ++ c.got) c.answered w.desk w'.desk Lacks c.judged w'.state
        c.failed e) is c.ends)
      where
        by : (failed : Option JudgedWish)
            → EndsAs n (i ++ c.got) (i ++ c.got) c.answered w.desk w'.desk Lacks c.judged w'.state failed
            endings.ClockFault
            → Rises w.desk.clock.faults w'.desk.clock.faults
        by (Some j) e = absurd e
        by None e = e.fails.failed.rises
