-- SPDX-License-Identifier: Apache-2.0 OR MIT
-- A journal is read gate by gate.
use Rattle.std.proofs.Common.{◌≡◌, ◌∙◌, ℕ, ◌+◌, ◌-◌, ◌≤◌, ◌<◌, ◌^◌, List, [], ◌∷◌, ◌++◌, length, take, drop, map, refl}
use Rattle.std.proofs.Common.{sym, ap, subst, arith, append_assoc, length-append, length-drop, take-append-drop}
use Rattle.std.specs.List.{AllByRecursion}
use Rattle.std.proofs.lemmas.List.{append-nil, drop-drop, drop_all, length-take-le, map_push, take_at}
use Rattle.cr_base.specs.declared.row.Row.{Row}
use Rattle.cr_disks.specs.Disk.{Only}
use Rattle.cr_journal.specs.Gates.{IsShut, SameTo}
use Rattle.cr_journal.specs.Grammar.{FitGroups, FitsGroup, IsJournalOf, IsTail, field, front, magic, number, payload}
use Rattle.cr_journal.specs.Keeping.{GateRead, IsAtGate}
use Rattle.cr_journal.specs.declared.opening.Gate.TheVariants as gates
use Rattle.cr_journal.proofs.Frames.{front-push, sized-push}
use Rattle.cr_journal.proofs.Groups.{all-push}
use Rattle.cr_journal.proofs.Numbers.{length-number}
use Rattle.cr_journal.proofs.Tails.{Rest, first_of, no_gate, strip_front}

-- behind the magic
pub at_start : (file : List ℕ) → take 8 file ≡ magic → IsAtGate file 8 []
at_start file begun = record { fit = tt; sized = tt; size = refl; before = begun }

module _ (file : List ℕ) (at : ℕ) (groups : List (List Row)) (gate : IsAtGate file at groups) where
  abbrev kept : List (List ℕ)
  kept = map payload groups

  parted : file ≡ front kept ++ drop at file
  parted = sym (take-append-drop at file) ∙ ap (λ (l : List ℕ). l ++ drop at file) gate.before

  -- what a journal has behind the gates that were read
  goes_on : (hs : List (List Row)) → IsJournalOf hs file → Rest kept (map payload hs) (drop at file)
  goes_on hs j = strip_front kept (map payload hs) file (drop at file) gate.sized parted j.journal

  pub cut : {T : Type 0} (hs : List (List Row)) → GateRead gates.Cut (drop at file) → IsJournalOf hs file → T
  cut hs none j = let r = goes_on hs j in absurd (none r.others r.tail)

  pub past_end : {T : Type 0} (hs : List (List Row)) → length file ≤ at → IsJournalOf hs file → T
  past_end hs past j =
      let r = goes_on hs j in
      no_gate r.others (subst (λ (l : List ℕ). IsTail r.others l) (drop_all at file past) r.tail)

  -- the payload behind an open gate
  module _ (len : ℕ) (opens : GateRead (gates.Open len) (drop at file)) (short : len < 2 ^ 64) where
    abbrev p : List ℕ
    p = take len (drop (at + 9) file)

    abbrev rest : List ℕ
    rest = drop (at + 9 + len) file

    behind : drop 9 (drop at file) ≡ p ++ rest
    behind = drop-drop 9 at file ∙ sym (take-append-drop len (drop (at + 9) file))
        ∙ ap (λ (l : List ℕ). p ++ l) (drop-drop len (at + 9) file)

    room : at + 9 + len ≤ length file
    room = omega (arith, opens.0, length-drop at file)

    size : length p ≡ len
    size = length-take-le len (drop (at + 9) file) (omega (arith, room, length-drop (at + 9) file))

    opened : drop at file ≡ 1 ∷ (field p ++ rest)
    opened = opens.1 ∙ ap (λ (l : List ℕ). 1 ∷ (number len ++ l)) behind
        ∙ ap (λ (n : ℕ). 1 ∷ (number n ++ (p ++ rest))) (sym size)
        ∙ ap (λ (l : List ℕ). 1 ∷ l) (sym (append_assoc (number (length p)) p rest))

    -- it is that of no group
    pub no_payload : (hs : List (List Row)) → ((g : List Row) → FitsGroup g → p ≡ payload g → ⊥) → IsJournalOf hs file
        → ⊥
    no_payload hs none j =
        let r = goes_on hs j in
        let f = first_of r.others p rest (omega (arith, size, short))
        (subst (λ (l : List ℕ). IsTail r.others l) opened r.tail) in
        among groups hs f.others j.fit (r.all_are ∙ ap (λ (l : List (List ℕ)). kept ++ l) f.all_are)
      where
        among : (gs hs : List (List Row)) (others : List (List ℕ)) → FitGroups hs
            → map payload hs ≡ map payload gs ++ p ∷ others → ⊥
        among [] [] others fit e = absurd (cc e)
        among [] (h ∷ hs) others fit e =
            let same : p ≡ payload h = cc e in none h fit.0 same
        among (g ∷ gs) [] others fit e = absurd (cc e)
        among (g ∷ gs) (h ∷ hs) others fit e =
            let rest_same : map payload hs ≡ map payload gs ++ p ∷ others = cc e in
            among gs hs others fit.1 rest_same

    -- it is that of this group
    pub one_more : (g : List Row) → FitsGroup g → p ≡ payload g → IsAtGate file (at + 9 + len) (groups ++ g ∷ [])
    one_more g fits is =
        let now : List (List ℕ) = kept ++ payload g ∷ [] in
        let map_is : map payload (groups ++ g ∷ []) ≡ now = map_push payload groups g in
        let whole : file ≡ front now ++ rest =
        parted ∙ ap (λ (l : List ℕ). front kept ++ l) opened
        ∙ ap (λ (q : List ℕ). front kept ++ 1 ∷ (field q ++ rest)) is
        ∙ sym (front-push kept (payload g) rest) in
        let front_is : front now ≡ front kept ++ 1 ∷ (field (payload g) ++ []) =
        sym (append-nil (front now)) ∙ front-push kept (payload g) [] in
        let payload_size : length (payload g) ≡ len = ap length (sym is) ∙ size in
        let front_size : length (front now) ≡ at + 9 + len =
        omega (
          arith,
          gate.size,
          payload_size,
          ap length front_is,
          length-append (front kept) (1 ∷ (field (payload g) ++ [])),
          length-append (field (payload g)) [],
          length-append (number (length (payload g))) (payload g),
          length-number (length (payload g)),
        ) in
        record {
          fit = all-push FitsGroup groups g gate.fit fits;
          sized = subst (λ (ps : List (List ℕ)). AllByRecursion (λ (q : List ℕ). length q < 2 ^ 64) ps) (sym map_is)
              (sized-push kept (payload g) gate.sized (omega (arith, payload_size, short)));
          size = sym front_size ∙ ap (λ (l : List (List ℕ)). length (front l)) (sym map_is);
          before = ap (λ (l : List ℕ). take (at + 9 + len) l) whole ∙ take_at (front now) rest (at + 9 + len) front_size
              ∙ ap front (sym map_is);
        }

  -- a closed gate is the end
  module _ (closed : GateRead gates.Closed (drop at file)) where
    abbrev v : ℕ
    v = closed.0

    end_is : file ≡ front kept ++ (v ∷ closed.1)
    end_is = parted ∙ ap (λ (l : List ℕ). front kept ++ l) closed.3

    pub is_journal : IsJournalOf groups file
    is_journal = record {
      fit = gate.fit;
      journal = record { gate = v; rest = closed.1; sized = gate.sized; shut = closed.2; is = end_is };
    }

    pub is_shut : (images : List ℕ → Type 0) → Only file images → IsShut file images at kept
    is_shut images only =
        let whole : file ≡ (front kept ++ v ∷ []) ++ closed.1 =
        end_is ∙ sym (append_assoc (front kept) (v ∷ []) closed.1) in
        let front_size : length (front kept ++ v ∷ []) ≡ at + 1 =
        omega (arith, gate.size, length-append (front kept) (v ∷ [])) in
        let long : at + 1 ≤ length file =
        omega (arith, front_size, ap length whole, length-append (front kept ++ v ∷ []) closed.1) in
        record {
          value = v;
          shut = closed.2;
          sized = gate.sized;
          size = gate.size;
          long = long;
          closed =
              ap (λ (l : List ℕ). take (at + 1) l) whole ∙ take_at (front kept ++ v ∷ []) closed.1 (at + 1) front_size;
          synced = λ c now. subst (λ (l : List ℕ). SameTo (at + 1) file l) (sym (only c now))
              (record { front = refl; long = long });
        }
