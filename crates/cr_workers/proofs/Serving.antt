-- SPDX-License-Identifier: Apache-2.0 OR MIT
-- A worker between two connections of its door, and at its end.
use Rattle.std.proofs.Common.{◌≡◌, ◌∙◌, ℕ, ◌+◌, ◌*◌, ◌^◌, ◌≤◌, inl, inr, List, [], ◌∷◌, ◌++◌, length, Bool, true, false}
use Rattle.std.proofs.Common.{◌||◌, Option, Some, None, Ok, Err, refl, sym, ap, subst, arith, append_assoc}
use Rattle.std.proofs.Common.{length-append}
use Rattle.std.proofs.lemmas.List.{map-append}
use Rattle.cr_ports.specs.Doors.{DoorLog, and_answer, and_back}
use Rattle.cr_ports.specs.declared.door.NextConnection.TheVariants as next
use Rattle.cr_ports.specs.declared.door.Served.{Served}
use Rattle.cr_session.specs.declared.serve.Ending.{Ending}
use Rattle.cr_session.specs.Passing.{KnownPass, StaysPass}
use Rattle.cr_session.proofs.Passes.{stays-now, stays-then}
use Rattle.cr_workers.specs.Connections.{Streams, ServedConnection, ServeAll}
use Rattle.cr_workers.specs.Doors.{SeenDoor, DoorWork, IsWorkedOn, HasFailedDoor, TellsMore, Visits, Works, NoneLacked}
use Rattle.cr_workers.specs.Doors.{lacks, ended_by, ends_of, ServesNext, ServesDoors}
use Rattle.cr_workers.specs.declared.worker.Last.{Last}
use Rattle.cr_workers.specs.declared.worker.Last.TheVariants as lasts
use Rattle.cr_workers.proofs.Grown.{append-nil, every-append}
use Rattle.cr_workers.proofs.Connections.{serve-none, serve-one, serve-then}

stays-within : {K : Type 0} (m n : ℕ) (p q : KnownPass K) → m ≤ n → StaysPass m p q → StaysPass n p q
stays-within m n p q le x = record { lock = x.lock; share = x.share; few = (let a = x.few in omega (arith, a, le)) }

module _ {I O C : Type 0} where
  -- ---- doors that gave connections

  tells-none : (log : Option (DoorLog I O C)) → TellsMore [] log log
  tells-none None = tt
  tells-none (Some log) = append-nil log.served

  tells-then : (cs ds : List (Served I O C)) (a b c : Option (DoorLog I O C)) → TellsMore cs a b → TellsMore ds b c
      → TellsMore (cs ++ ds) a c
  tells-then cs ds None None None x y = tt
  tells-then cs ds None None (Some c) x y = elim y [ ]
  tells-then cs ds None (Some b) c x y = elim x [ ]
  tells-then cs ds (Some a) None c x y = elim x [ ]
  tells-then cs ds (Some a) (Some b) None x y = elim y [ ]
  tells-then cs ds (Some a) (Some b) (Some c) x y = y ∙ (ap (λ s. s ++ ds) x ∙ append_assoc a.served cs ds)

module _ {K I O C : Type 0} where
  -- one connection was given and came back
  pub tells-one : (c : ServedConnection K I O C) (a b z : Option (DoorLog I O C))
      → b ≡ and_answer a (next.Conn c.ends.given.0 c.ends.given.1 c.ends.given.2)
      → z ≡ and_back b c.ends.back.0 c.ends.back.1 c.ends.back.2 → TellsMore (ends_of (c ∷ [])) a z
  tells-one c a b z gave back =
      subst (λ (l : Option (DoorLog I O C)). TellsMore (ends_of (c ∷ [])) a l)
      (sym (back ∙ ap (λ l. and_back l c.ends.back.0 c.ends.back.1 c.ends.back.2) gave)) (at a)
    where
      at : (l : Option (DoorLog I O C)) → TellsMore (ends_of (c ∷ [])) l
          (and_back (and_answer l (next.Conn c.ends.given.0 c.ends.given.1 c.ends.given.2)) c.ends.back.0 c.ends.back.1
          c.ends.back.2)
      at None = tt
      at (Some log) = refl

  visits-none : (d : SeenDoor I O C) → d.is_out ≡ false → Visits {K = K} [] d d
  visits-none d back = record { left = omega arith; back = back; faults = refl; log = tells-none d.log }

  visits-then : (cs ds : List (ServedConnection K I O C)) (d e f : SeenDoor I O C) → Visits cs d e → Visits ds e f
      → Visits (cs ++ ds) d f
  visits-then cs ds d e f x y = record {
    left = (let a = x.left in let b = y.left in let n = length-append cs ds in omega (arith, a, b, n));
    back = y.back;
    faults = y.faults ∙ x.faults;
    log = subst (λ (ends : List (Served I O C)). TellsMore ends d.log f.log)
        (sym (map-append (λ (z : ServedConnection K I O C). z.ends) cs ds))
        (tells-then (ends_of cs) (ends_of ds) d.log e.log f.log x.log y.log);
  }

  -- ---- a worker so far

  -- it served these connections, of which one ended for lack of memory or none did
  pub record ServesSoFar (streams : Streams K I O C) (lacked : Bool) (d d' : SeenDoor I O C) (p p' : KnownPass K) : Type
      0 where
    pub connections : List (ServedConnection K I O C)
    pub visits : Visits connections d d'
    pub served : ServeAll streams connections p p'
    pub none : lacked ≡ false → NoneLacked connections
    pub stays : StaysPass (1048576 * length connections) p p'

  pub serves-none : (streams : Streams K I O C) (d : SeenDoor I O C) (p : KnownPass K) → d.is_out ≡ false
      → ServesSoFar streams false d d p p
  serves-none streams d p back = record {
    connections = [];
    visits = visits-none d back;
    served = serve-none streams p;
    none = λ e. tt;
    stays = stays-now p;
  }

  none-then : (lacked : Bool) (cs : List (ServedConnection K I O C)) (c : ServedConnection K I O C)
      → (lacked ≡ false → NoneLacked cs)
      → (lacked || lacks c.ending) ≡ false → NoneLacked (cs ++ c ∷ [])
  none-then true cs c none is = absurd (cc (is))
  none-then false cs c none is =
      every-append (λ (z : ServedConnection K I O C). lacks z.ending ≡ false) cs (c ∷ []) (none refl) (is, tt)

  pub serves-next : (streams : Streams K I O C) (lacked : Bool) (ending : Ending) (d e f : SeenDoor I O C)
      (p q r : KnownPass K)
      → ServesSoFar streams lacked d e p q → ServesNext streams (Ok ending) e f q r → StaysPass 1048576 q r
      → ServesSoFar streams (lacked || lacks ending) d f p r
  serves-next streams lacked ending d e f p q r so next stays =
      let c = next.0 in
      let one : ServeAll streams (c ∷ []) q r = subst (λ (x : KnownPass K). ServeAll streams (c ∷ []) x r) next.3
      (subst (λ (x : KnownPass K). ServeAll streams (c ∷ []) c.before x) next.4 (serve-one streams c next.1)) in
      let n = length-append so.connections (c ∷ []) in record {
        connections = so.connections ++ c ∷ [];
        visits = visits-then so.connections (c ∷ []) d e f so.visits next.5;
        served = serve-then streams so.connections (c ∷ []) p q r so.served one;
        none = λ is. none-then lacked so.connections c so.none
            (subst (λ (x : Ending). (lacked || lacks x) ≡ false) (sym next.2) is);
        stays = stays-within (1048576 * length so.connections + 1048576) (1048576 * length (so.connections ++ c ∷ [])) p
            r (omega (arith, n))
            (stays-then (1048576 * length so.connections) 1048576 p q r so.stays stays);
      }

  worked-by : (lacked : Bool) (last : Last) (w : DoorWork K I O C) → Works last w.connections w.before w.after
      → (lacked ≡ false → NoneLacked w.connections)
      → IsWorkedOn (ended_by lacked last) w
  worked-by true lasts.Done w works none = inl works
  worked-by true lasts.Failed w works none = inr (inl works)
  worked-by false lasts.Done w works none = (works, none refl)
  worked-by false lasts.Failed w works none = (inr works, none refl)

  cause-by : (lacked : Bool) (last : Last) (w : DoorWork K I O C) → Works last w.connections w.before w.after
      → HasFailedDoor (ended_by lacked last) (w ∷ [])
  cause-by true last w works = tt
  cause-by false lasts.Done w works = tt
  cause-by false lasts.Failed w works = inl works

  pub serves-end : (streams : Streams K I O C) (lacked : Bool) (last : Last) (d e f : SeenDoor I O C)
      (p q r : KnownPass K)
      → ServesSoFar streams lacked d e p q → ServesNext streams (Err last) e f q r
      → ServesDoors streams (ended_by lacked last) (d ∷ []) (f ∷ []) p r
  serves-end streams lacked last d e f p q r so next =
      let w : DoorWork K I O C = record { before = d; after = f; connections = so.connections } in
      let works : Works last so.connections d f = (e, so.visits, next.1) in record {
        works = w ∷ [];
        before = refl;
        after = refl;
        each = (worked-by lacked last w works so.none, tt);
        cause = cause-by lacked last w works;
        served = subst (λ (cs : List (ServedConnection K I O C)). ServeAll streams cs p r) (append-nil so.connections)
            (subst (λ (x : KnownPass K). ServeAll streams so.connections p x) (sym next.0) so.served);
      }

  -- not more connections than the door had to give
  pub so-few : (streams : Streams K I O C) (lacked : Bool) (d e : SeenDoor I O C) (p q : KnownPass K)
      → ServesSoFar streams lacked d e p q
      → StaysPass (1048576 * d.left) p q
  so-few streams lacked d e p q so = (let n = so.visits.left in
      stays-within (1048576 * length so.connections) (1048576 * d.left) p q (omega (arith, n)) so.stays)

  pub so-enough : (streams : Streams K I O C) (lacked : Bool) (d e : SeenDoor I O C) (p q : KnownPass K)
      → ServesSoFar streams lacked d e p q
      → p.turns + 1048576 * d.left ≤ 2 ^ 40 → q.turns + 1048576 * e.left ≤ 2 ^ 40
  so-enough streams lacked d e p q so few = (let n = so.visits.left in let t = so.stays.few in omega (arith, n, t, few))
