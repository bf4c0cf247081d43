-- SPDX-License-Identifier: Apache-2.0 OR MIT
-- Doors that workers served: what is told of them, by how the workers ended.
use Rattle.std.proofs.Common.{◌≡◌, ◌≢◌, ◌∙◌, ℕ, ◌+◌, inl, inr, List, [], ◌∷◌, ◌++◌, length, map, Bool, false, Option}
use Rattle.std.proofs.Common.{Some, None, refl, sym, ap, ap₂, subst, arith}
use Rattle.std.specs.Prelude.{All, IfSome, IsFalse, sum, sum_by}
use Rattle.std.proofs.lemmas.List.Elements.{All-nil, All-cons, All-head, All-tail}
use Rattle.std.proofs.lemmas.List.Sums.{sum_by-cons}
use Rattle.cr_lock.specs.Counts.{Every, total}
use Rattle.cr_ports.specs.Count.{Rises}
use Rattle.cr_ports.specs.Doors.{DoorLog, unasked}
use Rattle.cr_ports.specs.declared.door.DoorAnswer.TheVariants as answers
use Rattle.cr_ports.specs.declared.door.Served.{Served}
use Rattle.cr_workers.specs.Connections.{ServedConnection}
use Rattle.cr_workers.specs.Doors.{SeenDoor, DoorWork, IsWorkedOn, OneFailed, NoneLacked, TellsMore, TellsLast, Works}
use Rattle.cr_workers.specs.Doors.{lacks, connections_of, door_of, ends_of}
use Rattle.cr_workers.specs.declared.worked.Worked.{Worked}
use Rattle.cr_workers.specs.declared.worked.Worked.TheVariants as worked
use Rattle.cr_workers.specs.declared.worker.Last.TheVariants as lasts
use Rattle.cr_workers.proofs.Grown.{append-nil, every-append}
use Rattle.cr_top.specs.Serves.{IsNew, DoorEndsBy, AreDoorsTold}

-- ---- all of a list

pub every-of : {X : Type 0} (P : X → Type 0) (xs : List X) → All P xs → Every P xs
every-of P [] all = tt
every-of P (x ∷ xs) all = (All-head P x xs all, every-of P xs (All-tail P x xs all))

pub all-of : {X : Type 0} (P : X → Type 0) (xs : List X) → Every P xs → All P xs
all-of P [] every = All-nil P
all-of P (x ∷ xs) every = All-cons P x xs every.0 (all-of P xs every.1)

-- the same of what is seen of them
pub every-seen : {X Y : Type 0} (f : X → Y) (P : Y → Type 0) (xs : List X) → Every P (map f xs)
    → Every (λ x. P (f x)) xs
every-seen f P [] every = tt
every-seen f P (x ∷ xs) every = (every.0, every-seen f P xs every.1)

pub every-seeing : {X Y : Type 0} (f : X → Y) (P : Y → Type 0) (xs : List X) → Every (λ x. P (f x)) xs
    → Every P (map f xs)
every-seeing f P [] every = tt
every-seeing f P (x ∷ xs) every = (every.0, every-seeing f P xs every.1)

pub map-seen : {X Y Z : Type 0} (f : X → Y) (g : Y → Z) (xs : List X) → map g (map f xs) ≡ map (λ x. g (f x)) xs
map-seen f g [] = refl
map-seen f g (x ∷ xs) = ap (λ zs. g (f x) ∷ zs) (map-seen f g xs)

pub total-seen : {X Y : Type 0} (f : X → Y) (g : Y → ℕ) (xs : List X) → total g (map f xs) ≡ sum_by (λ x. g (f x)) xs
total-seen f g [] = refl
total-seen f g (x ∷ xs) = ap (λ n. g (f x) + n) (total-seen f g xs) ∙ sym (sum_by-cons (λ z. g (f z)) x xs)

pub total-sum : {X : Type 0} (g : X → ℕ) (xs : List X) → total g xs ≡ sum (map g xs)
total-sum g [] = refl
total-sum g (x ∷ xs) = ap (λ n. g x + n) (total-sum g xs) ∙ sym (sum_by-cons (λ n. n) (g x) (map g xs))

more-here : (f t : ℕ) → Rises 0 f → Rises 0 (f + t)
more-here f t r = λ below. (let some = r (omega (arith, below)) in omega (arith, some))

more-there : (f t : ℕ) → Rises 0 t → Rises 0 (f + t)
more-there f t r = λ below. (let some = r (omega (arith, below)) in omega (arith, some))

-- ---- new doors

pub new_doors : {D I O C : Type 0} (left : D → ℕ) (is_out : D → Bool) (faults : D → ℕ)
    (log : D → Option (DoorLog I O C)) (doors : List D)
    → All (λ d. IsFalse (is_out d)) doors → All (λ d. faults d ≡ 0) doors
    → All (λ d. IfSome (log d) (λ l. l ≡ unasked)) doors
    → Every IsNew (map (door_of left is_out faults log) doors)
new_doors left is_out faults log [] idle fresh asked = tt
new_doors {D} left is_out faults log (d ∷ ds) idle fresh asked = (
  record {
    back = All-head (λ (x : D). IsFalse (is_out x)) d ds idle;
    faults = All-head (λ (x : D). faults x ≡ 0) d ds fresh;
    log = All-head (λ (x : D). IfSome (log x) (λ l. l ≡ unasked)) d ds asked;
  },
  new_doors left is_out faults log ds (All-tail (λ (x : D). IsFalse (is_out x)) d ds idle)
      (All-tail (λ (x : D). faults x ≡ 0) d ds fresh)
      (All-tail (λ (x : D). IfSome (log x) (λ l. l ≡ unasked)) d ds asked),
)

module _ {K I O C : Type 0} where
  abbrev pub befores : List (DoorWork K I O C) → List (SeenDoor I O C)
  befores ws = map (λ (w : DoorWork K I O C). w.before) ws

  abbrev pub afters : List (DoorWork K I O C) → List (SeenDoor I O C)
  afters ws = map (λ (w : DoorWork K I O C). w.after) ws

  -- ---- nothing is out

  back-one : (ended : Worked) (w : DoorWork K I O C) → IsWorkedOn ended w → w.before.is_out ≡ false
      → w.after.is_out ≡ false
  back-one worked.Done w is b = is.0.2.back
  back-one worked.DoorFailed w (inl x, none) b = x.2.back
  back-one worked.DoorFailed w (inr x, none) b = x.2.back
  back-one worked.OutOfMemory w (inl x) b = x.2.back
  back-one worked.OutOfMemory w (inr (inl x)) b = x.2.back
  back-one worked.OutOfMemory w (inr (inr x)) b = ap (λ (d : SeenDoor I O C). d.is_out) x.1 ∙ b

  pub back-works : (ended : Worked) (ws : List (DoorWork K I O C)) → Every (IsWorkedOn ended) ws
      → Every IsNew (befores ws)
      → Every (λ (d : SeenDoor I O C). d.is_out ≡ false) (afters ws)
  back-works ended [] each new = tt
  back-works ended (w ∷ ws) each new = (back-one ended w each.0 new.0.back, back-works ended ws each.1 new.1)

  -- ---- what the gates tell

  -- the connections of a door that wasn't asked before
  more-then : (cs : List (ServedConnection K I O C)) (a b c : Option (DoorLog I O C)) (l : DoorLog I O C)
      → IfSome a (λ log. log ≡ unasked)
      → TellsMore (ends_of cs) a b → TellsMore [] b c → c ≡ Some l → l.served ≡ ends_of cs
  more-then cs None None None l new x y e = absurd (cc (e))
  more-then cs None None (Some c) l new x y e = elim y [ ]
  more-then cs None (Some b) c l new x y e = elim x [ ]
  more-then cs (Some a) None c l new x y e = elim x [ ]
  more-then cs (Some a) (Some b) None l new x y e = elim y [ ]
  more-then cs (Some a) (Some b) (Some c) l new x y e =
      let is : c ≡ l = cc (e) in
      ap (λ (z : DoorLog I O C). z.served) (sym is)
      ∙ (y ∙ (sym (append-nil b.served) ∙ (x ∙ ap (λ (z : DoorLog I O C). z.served ++ ends_of cs) new)))

  served-one : (ended : Worked) (w : DoorWork K I O C) (l : DoorLog I O C) → IsWorkedOn ended w → IsNew w.before
      → w.after.log ≡ Some l
      → l.served ≡ ends_of w.connections
  served-one worked.Done w l is new e =
      more-then w.connections w.before.log is.0.0.log w.after.log l new.log is.0.1.log is.0.2.log e
  served-one worked.DoorFailed w l (inl x, none) new e =
      more-then w.connections w.before.log x.0.log w.after.log l new.log x.1.log x.2.log e
  served-one worked.DoorFailed w l (inr x, none) new e =
      more-then w.connections w.before.log x.0.log w.after.log l new.log x.1.log x.2.log e
  served-one worked.OutOfMemory w l (inl x) new e =
      more-then w.connections w.before.log x.0.log w.after.log l new.log x.1.log x.2.log e
  served-one worked.OutOfMemory w l (inr (inl x)) new e =
      more-then w.connections w.before.log x.0.log w.after.log l new.log x.1.log x.2.log e
  served-one worked.OutOfMemory w l (inr (inr x)) new e =
      let told : w.before.log ≡ Some l = ap (λ (d : SeenDoor I O C). d.log) (sym x.1) ∙ e in
      let fresh : l ≡ unasked = subst (λ (o : Option (DoorLog I O C)). IfSome o (λ log. log ≡ unasked)) told new.log in
      ap (λ (z : DoorLog I O C). z.served) fresh ∙ ap (λ (cs : List (ServedConnection K I O C)). ends_of cs) (sym x.0)

  last-one : (ended : Worked) (w : DoorWork K I O C) (l : DoorLog I O C) → IsWorkedOn ended w → w.after.log ≡ Some l
      → DoorEndsBy ended l
  last-one worked.Done w l is e = subst (λ (o : Option (DoorLog I O C)). TellsLast answers.Done o) e is.0.2.by.3
  last-one worked.DoorFailed w l (inl x, none) e =
      inl (subst (λ (o : Option (DoorLog I O C)). TellsLast answers.Done o) e x.2.by.3)
  last-one worked.DoorFailed w l (inr x, none) e =
      inr (subst (λ (o : Option (DoorLog I O C)). TellsLast answers.Failed o) e x.2.by.2)
  last-one worked.OutOfMemory w l is e = tt

  pub are-told : (ended : Worked) (ws : List (DoorWork K I O C)) (logs : List (DoorLog I O C))
      → Every (IsWorkedOn ended) ws → Every IsNew (befores ws)
      → map (λ (d : SeenDoor I O C). d.log) (afters ws) ≡ map Some logs → AreDoorsTold ended ws logs
  are-told ended [] [] each new e = record { served = refl; last = tt }
  are-told ended [] (l ∷ ls) each new e = absurd (cc (e))
  are-told ended (w ∷ ws) [] each new e = absurd (cc (e))
  are-told ended (w ∷ ws) (l ∷ ls) each new e =
      let one : w.after.log ≡ Some l = cc (e) in
      let more : map (λ (d : SeenDoor I O C). d.log) (afters ws) ≡ map Some ls = cc (e) in
      let rest = are-told ended ws ls each.1 new.1 more in record {
        served = ap₂ (λ (x : List (Served I O C)) (xs : List (List (Served I O C))). x ∷ xs)
            (served-one ended w l each.0 new.0 one) rest.served;
        last = (last-one ended w l each.0 one, rest.last);
      }

  -- ---- how many connections, and how they ended

  counts-one : (w : DoorWork K I O C) → IsWorkedOn worked.Done w → length w.connections ≡ w.before.left
  counts-one w is = (let n = is.0.1.left in let z = is.0.2.by.0 in omega (arith, n, z))

  pub counts-all : (ws : List (DoorWork K I O C)) → Every (IsWorkedOn worked.Done) ws
      → map (λ (w : DoorWork K I O C). length w.connections) ws ≡ map (λ (d : SeenDoor I O C). d.left) (befores ws)
  counts-all [] each = refl
  counts-all (w ∷ ws) each = ap₂ (λ (n : ℕ) (ns : List ℕ). n ∷ ns) (counts-one w each.0) (counts-all ws each.1)

  none-one : (ended : Worked) → ended ≢ worked.OutOfMemory → (w : DoorWork K I O C) → IsWorkedOn ended w
      → NoneLacked w.connections
  none-one worked.Done some w is = is.1
  none-one worked.DoorFailed some w is = is.1
  none-one worked.OutOfMemory some w is = absurd (some refl)

  pub none-all : (ended : Worked) → ended ≢ worked.OutOfMemory → (ws : List (DoorWork K I O C))
      → Every (IsWorkedOn ended) ws → NoneLacked (connections_of ws)
  none-all ended some [] each = tt
  none-all ended some (w ∷ ws) each =
      every-append (λ (c : ServedConnection K I O C). lacks c.ending ≡ false) w.connections (connections_of ws)
      (none-one ended some w each.0)
      (none-all ended some ws each.1)

  -- ---- faults

  failed-one : (w : DoorWork K I O C) → Works lasts.Failed w.connections w.before w.after → IsNew w.before
      → Rises 0 w.after.faults
  failed-one w x new =
      λ below. (let rose = x.2.by.1 below in let e = x.1.faults in let z = new.faults in omega (arith, rose, e, z))

  pub failed-counts : (ws : List (DoorWork K I O C)) → OneFailed ws → Every IsNew (befores ws)
      → Rises 0 (total (λ (d : SeenDoor I O C). d.faults) (afters ws))
  failed-counts [] x new = elim x [ ]
  failed-counts (w ∷ ws) (inl x) new =
      more-here w.after.faults (total (λ (d : SeenDoor I O C). d.faults) (afters ws)) (failed-one w x new.0)
  failed-counts (w ∷ ws) (inr x) new =
      more-there w.after.faults (total (λ (d : SeenDoor I O C). d.faults) (afters ws)) (failed-counts ws x new.1)
