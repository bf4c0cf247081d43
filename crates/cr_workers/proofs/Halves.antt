-- SPDX-License-Identifier: Apache-2.0 OR MIT
-- Doors that workers shared.
use Rattle.std.proofs.Common.{◌≡◌, ◌∙◌, inl, inr, List, [], ◌∷◌, ◌++◌, map, refl, sym, ap, subst, append_assoc}
use Rattle.std.proofs.lemmas.List.{map-append}
use Rattle.cr_lock.specs.Counts.{Every}
use Rattle.cr_lock.specs.Passes.{larger_half, smaller_half, united, Agree}
use Rattle.cr_session.specs.Passing.{KnownPass}
use Rattle.cr_workers.specs.Connections.{Streams, ServeAll}
use Rattle.cr_workers.specs.Doors.{SeenDoor, DoorWork, IsWorkedOn, OneFailed, HasFailedDoor, connections_of, joined}
use Rattle.cr_workers.specs.Doors.{ServesDoors}
use Rattle.cr_workers.specs.declared.worked.Worked.{Worked}
use Rattle.cr_workers.specs.declared.worked.Worked.TheVariants as worked
use Rattle.cr_workers.proofs.Grown.{every-append}
use Rattle.cr_workers.proofs.Connections.{serve-none, serve-both}

module _ {K I O C : Type 0} where
  -- ---- what holds however others ended

  worked-left : (a b : Worked) (w : DoorWork K I O C) → IsWorkedOn a w → IsWorkedOn (joined a b) w
  worked-left worked.OutOfMemory b w is = is
  worked-left worked.DoorFailed worked.OutOfMemory w (inl done, none) = inl done
  worked-left worked.DoorFailed worked.OutOfMemory w (inr failed, none) = inr (inl failed)
  worked-left worked.DoorFailed worked.DoorFailed w is = is
  worked-left worked.DoorFailed worked.Done w is = is
  worked-left worked.Done worked.Done w is = is
  worked-left worked.Done worked.DoorFailed w is = (inl is.0, is.1)
  worked-left worked.Done worked.OutOfMemory w is = inl is.0

  worked-right : (a b : Worked) (w : DoorWork K I O C) → IsWorkedOn b w → IsWorkedOn (joined a b) w
  worked-right worked.OutOfMemory worked.OutOfMemory w is = is
  worked-right worked.OutOfMemory worked.DoorFailed w (inl done, none) = inl done
  worked-right worked.OutOfMemory worked.DoorFailed w (inr failed, none) = inr (inl failed)
  worked-right worked.OutOfMemory worked.Done w is = inl is.0
  worked-right worked.DoorFailed worked.OutOfMemory w is = is
  worked-right worked.DoorFailed worked.DoorFailed w is = is
  worked-right worked.DoorFailed worked.Done w is = (inl is.0, is.1)
  worked-right worked.Done b w is = is

  every-left : (a b : Worked) (ws : List (DoorWork K I O C)) → Every (IsWorkedOn a) ws
      → Every (IsWorkedOn (joined a b)) ws
  every-left a b [] each = tt
  every-left a b (w ∷ ws) each = (worked-left a b w each.0, every-left a b ws each.1)

  every-right : (a b : Worked) (ws : List (DoorWork K I O C)) → Every (IsWorkedOn b) ws
      → Every (IsWorkedOn (joined a b)) ws
  every-right a b [] each = tt
  every-right a b (w ∷ ws) each = (worked-right a b w each.0, every-right a b ws each.1)

  -- ---- why they ended so

  failed-left : (vs ws : List (DoorWork K I O C)) → OneFailed vs → OneFailed (vs ++ ws)
  failed-left [] ws x' = elim x' [ ]
  failed-left (v ∷ vs) ws (inl here) = inl here
  failed-left (v ∷ vs) ws (inr there) = inr (failed-left vs ws there)

  failed-right : (vs ws : List (DoorWork K I O C)) → OneFailed ws → OneFailed (vs ++ ws)
  failed-right [] ws failed = failed
  failed-right (v ∷ vs) ws failed = inr (failed-right vs ws failed)

  cause-both : (a b : Worked) (vs ws : List (DoorWork K I O C)) → HasFailedDoor a vs → HasFailedDoor b ws
      → HasFailedDoor (joined a b) (vs ++ ws)
  cause-both worked.OutOfMemory b vs ws x y = tt
  cause-both worked.DoorFailed worked.OutOfMemory vs ws x y = tt
  cause-both worked.DoorFailed worked.DoorFailed vs ws x y = failed-left vs ws x
  cause-both worked.DoorFailed worked.Done vs ws x y = failed-left vs ws x
  cause-both worked.Done worked.Done vs ws x y = tt
  cause-both worked.Done worked.DoorFailed vs ws x y = failed-right vs ws y
  cause-both worked.Done worked.OutOfMemory vs ws x y = tt

  connections-both : (vs ws : List (DoorWork K I O C))
      → connections_of (vs ++ ws) ≡ connections_of vs ++ connections_of ws
  connections-both [] ws = refl
  connections-both (v ∷ vs) ws = ap (λ cs. v.connections ++ cs) (connections-both vs ws)
      ∙ sym (append_assoc v.connections (connections_of vs) (connections_of ws))

-- ---- lists of doors

module _ (K : Type 0) {I O C : Type 0} where
  abbrev pub unasked : List (SeenDoor I O C) → List (DoorWork K I O C)
  unasked doors = map (λ (d : SeenDoor I O C). record { before = d; after = d; connections = [] }) doors

  pub unasked-before : (doors : List (SeenDoor I O C))
      → map (λ (w : DoorWork K I O C). w.before) (unasked doors) ≡ doors
  unasked-before [] = refl
  unasked-before (d ∷ ds) = ap (λ xs. d ∷ xs) (unasked-before ds)

  pub unasked-after : (doors : List (SeenDoor I O C)) → map (λ (w : DoorWork K I O C). w.after) (unasked doors) ≡ doors
  unasked-after [] = refl
  unasked-after (d ∷ ds) = ap (λ xs. d ∷ xs) (unasked-after ds)

  pub unasked-each : (doors : List (SeenDoor I O C)) → Every (IsWorkedOn worked.OutOfMemory) (unasked doors)
  unasked-each [] = tt
  unasked-each (d ∷ ds) = (inr (inr (refl, refl)), unasked-each ds)

  pub unasked-connections : (doors : List (SeenDoor I O C)) → [] ≡ connections_of (unasked doors)
  unasked-connections [] = refl
  unasked-connections (d ∷ ds) = unasked-connections ds

module _ {K I O C : Type 0} where
  pub doors-none : (streams : Streams K I O C) (p : KnownPass K) → ServesDoors streams worked.Done [] [] p p
  doors-none streams p =
      record { works = []; before = refl; after = refl; each = tt; cause = tt; served = serve-none streams p }

  -- doors that weren't asked
  pub doors-unasked : (streams : Streams K I O C) (doors : List (SeenDoor I O C)) (p : KnownPass K)
      → ServesDoors streams worked.OutOfMemory doors doors p p
  doors-unasked streams doors p = record {
    works = unasked K doors;
    before = unasked-before K doors;
    after = unasked-after K doors;
    each = unasked-each K doors;
    cause = tt;
    served = subst (λ cs. ServeAll streams cs p p) (unasked-connections K doors) (serve-none streams p);
  }

  -- two halves, each by half of a pass
  pub doors-both : (streams : Streams K I O C) (a b : Worked) (ds ds' es es' : List (SeenDoor I O C))
      (p q r : KnownPass K)
      → ServesDoors streams a ds ds' (larger_half p) q → ServesDoors streams b es es' (smaller_half p) r → Agree q r
      → ServesDoors streams (joined a b) (ds ++ es) (ds' ++ es') p (united q r)
  doors-both streams a b ds ds' es es' p q r x y agree = record {
    works = x.works ++ y.works;
    before = map-append (λ (w : DoorWork K I O C). w.before) x.works y.works
        ∙ ap (λ (z : List (SeenDoor I O C) × List (SeenDoor I O C)). z.0 ++ z.1) (λ i. (x.before i, y.before i));
    after = map-append (λ (w : DoorWork K I O C). w.after) x.works y.works
        ∙ ap (λ (z : List (SeenDoor I O C) × List (SeenDoor I O C)). z.0 ++ z.1) (λ i. (x.after i, y.after i));
    each = every-append (IsWorkedOn (joined a b)) x.works y.works (every-left a b x.works x.each)
        (every-right a b y.works y.each);
    cause = cause-both a b x.works y.works x.cause y.cause;
    served = subst (λ cs. ServeAll streams cs p (united q r)) (sym (connections-both x.works y.works))
        (serve-both streams (connections_of x.works) (connections_of y.works) p q r x.served y.served agree);
  }
