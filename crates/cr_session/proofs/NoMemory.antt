-- SPDX-License-Identifier: Apache-2.0 OR MIT
-- A connection that ends for lack of memory behind no wish.
use Rattle.std.proofs.Common.{◌≡◌, ◌∙◌, ℕ, List, [], ◌∷◌, ◌++◌, Option, Some, None, Bool, false, refl, sym, ap, subst}
use Rattle.std.proofs.Common.{inl, inr}
use Rattle.cr_base.specs.Lists.{listed}
use Rattle.cr_ports.specs.Stream.{and_left}
use Rattle.cr_ports.specs.Writing.{Outlet}
use Rattle.cr_http.specs.ToHead.{IsToHead}
use Rattle.cr_http.proofs.Moving.{and_left-nil}
use Rattle.cr_wire.specs.declared.what.Wish.{Wish}
use Rattle.cr_session.specs.declared.serve.Ending.{Ending}
use Rattle.cr_session.specs.declared.serve.Ending.TheVariants as endings
use Rattle.cr_session.specs.Answering.{ClockState, Desk, GivesMoments}
use Rattle.cr_session.specs.Replay.{JudgedWish}
use Rattle.cr_session.specs.Serving.{World, Connection, NotesNoMemory, WritesNote, GivesNote, TellsWantOfMemory}
use Rattle.cr_session.specs.Serving.{MayLackMemory, ReadsNoFurther}
use Rattle.cr_session.proofs.Answering.{moments-nil, moments-append, fails_later, gives-none}
use Rattle.cr_session.proofs.NoFurther.{no_further-still}

-- the note was written with this moment, which the clock gave
noted_at : (head : Bool) (at : ℕ) (d d' : Desk) (s : Outlet) → s ≡ d.sink → GivesMoments (at ∷ []) d.clock d'.clock
    → WritesNote head at s d'.sink
    → GivesNote [] head at d d'
noted_at head at d d' s same timed note = by (subst (λ (o : Outlet). WritesNote head at o d'.sink) same note)
  where
    by : WritesNote head at d.sink d'.sink → GivesNote [] head at d d'
    by (inl written) = inl (record { timed = timed; written = written })
    by (inr broken) = inr (record { timed = timed; broken = broken })

-- it was written with the moment that the clock had given for the request, and else with one for which it was asked
pub noted-read : (read : Option ℕ) (head : Bool) (d e d' : Desk) → e.sink ≡ d.sink
    → GivesMoments (listed read) d.clock e.clock
    → NotesNoMemory read head e d' → TellsWantOfMemory [] read head d d'
noted-read (Some at) head d e d' same timed note =
    noted_at head at d d' e.sink same (subst (λ (c : ClockState). GivesMoments (at ∷ []) d.clock c) (sym note.0) timed)
    note.1
noted-read None head d e d' same timed (inl note) =
    inl (
      note.0,
      noted_at head note.0 d d' e.sink same
          (moments-append [] (note.0 ∷ []) d.clock e.clock d'.clock timed note.1) note.2,
    )
noted-read None head d e d' same timed (inr note) = inr (record {
  failed = fails_later [] [] d.clock e.clock d'.clock timed note.0;
  written = (gives-none d (record { sink = d'.sink; clock = d.clock }) (note.1 ∙ same) (moments-nil d.clock)).written;
})

module _ {B : Type 0} (Judges : List JudgedWish → B → B → Type 0) (Lacks : Wish → B → B → Type 0)
    (none : (b : B) → Judges [] b b) {S : Type 0} (left : S
    → Option (List ℕ)) (gives : S → S → List ℕ → Type 0) where
  pub no_memory : (ending : Ending) (n : ℕ) (i got : List ℕ) (read : Option ℕ) (head : Bool) (w w' : World B S)
      → ending ≡ endings.OutOfMemory
      → IsToHead (i ++ got) head → MayLackMemory Lacks read w.state w'.state (i ++ got)
      → left w.source ≡ and_left got (left w'.source) → TellsWantOfMemory [] read head w.desk w'.desk
      → w'.read_faults ≡ w.read_faults
      → ReadsNoFurther left gives n [] w.source w'.source i (i ++ got)
      → Connection Judges Lacks left gives ending n i w w'
  no_memory ending n i got read head w w' is to may given notes counts needed =
      subst (λ (e : Ending). Connection Judges Lacks left gives e n i w w') (sym is) (record {
        got = got;
        given = given;
        answered = [];
        failed = None;
        judged = w.state;
        turns = none w.state;
        settled = tt;
        ends = record {
          rest = i ++ got;
          reaches = record { requests = []; wish = tt; reaches = refl };
          read = read;
          lacks = may;
          head = head;
          to_head = to;
          tells = notes;
        };
        ended = tt;
        counts = counts;
        needed = needed;
      })

  -- before anything was read
  pub round_unbegun : (n : ℕ) (w w' : World B S) → w'.source ≡ w.source → w'.state ≡ w.state
      → NotesNoMemory None false w.desk w'.desk
      → w'.read_faults ≡ w.read_faults
      → Connection Judges Lacks left gives endings.OutOfMemory n [] w w'
  round_unbegun n w w' source same notes counts =
      no_memory endings.OutOfMemory n [] [] None false w w' refl refl (inl (inl refl, same))
      (sym (ap left source) ∙ sym (and_left-nil (left w'.source)))
      (noted-read None false w.desk w.desk w'.desk refl (moments-nil w.desk.clock) notes) counts
      (subst (λ (s : S). ReadsNoFurther left gives n [] w.source s [] []) (sym source)
      (no_further-still left gives n [] w.source []))
