-- SPDX-License-Identifier: Apache-2.0 OR MIT
-- What a write leaves of the bytes in front and of those round one byte.
use Rattle.std.proofs.Common.{◌≡◌, ℕ, ◌+◌, ◌≤◌, ◌<◌, List, [], ◌∷◌, ◌++◌, length, take, drop, sym, ◌∙◌, ap, arith}
use Rattle.std.proofs.Common.{append_assoc, length-append}
use Rattle.std.proofs.lemmas.List.{take_at, drop_at, length-take-le, length-drop}
use Rattle.cr_disks.specs.Disk.{Holds, Torn}
use Rattle.cr_journal.specs.Gates.{SameTo, SameBut}

pub torn_to : (at n : ℕ) (d c : List ℕ) → at ≤ length d → Torn at n d c → SameTo at d c
torn_to at n d c inside torn = record { front = torn.before; long = omega (arith, inside, torn.no_shorter) }

pub holds_to : (at : ℕ) (bytes d c : List ℕ) → at ≤ length d → Holds d at bytes c → SameTo at d c
holds_to at bytes d c inside holds =
    let size = length-take-le at d inside in
    let rest : List ℕ = drop (at + length bytes) d in
    record {
      front = ap (λ (l : List ℕ). take at l) holds ∙ take_at (take at d) (bytes ++ rest) at size;
      long = omega (arith, size, ap length holds, length-append (take at d) (bytes ++ rest));
    }

pub to_after : (at : ℕ) (a b c : List ℕ) → SameTo at a b → SameTo at b c → SameTo at a c
to_after at a b c first second = record { front = second.front ∙ first.front; long = second.long }

pub torn_but : (gate : ℕ) (d c : List ℕ) → gate < length d → Torn gate 1 d c → SameBut gate d c
torn_but gate d c inside torn =
    record { front = torn.before; back = torn.after; long = omega (arith, inside, torn.no_shorter, torn.no_longer) }

pub holds_but : (gate v : ℕ) (d c : List ℕ) → gate < length d → Holds d gate (v ∷ []) c → SameBut gate d c
holds_but gate v d c inside holds =
    let size : length (take gate d) ≡ gate = length-take-le gate d (omega (arith, inside)) in
    let rest : List ℕ = drop (gate + 1) d in
    let whole : c ≡ take gate d ++ v ∷ rest = holds in
    record {
      front = ap (λ (l : List ℕ). take gate l) whole ∙ take_at (take gate d) (v ∷ rest) gate size;
      back = ap (λ (l : List ℕ). drop (gate + 1) l) whole ∙ past size;
      long =
          omega (
            arith,
            size,
            inside,
            ap length whole,
            length-append (take gate d) (v ∷ rest),
            length-drop (gate + 1) d,
          );
    }
  where
    regrouped : (l r : List ℕ) → l ++ v ∷ r ≡ (l ++ v ∷ []) ++ r
    regrouped l r = sym (append_assoc l (v ∷ []) r)

    past : length (take gate d) ≡ gate → drop (gate + 1) (take gate d ++ v ∷ drop (gate + 1) d) ≡ drop (gate + 1) d
    past size =
        ap (λ (l : List ℕ). drop (gate + 1) l) (regrouped (take gate d) (drop (gate + 1) d))
        ∙ drop_at (take gate d ++ v ∷ []) (drop (gate + 1) d) (gate + 1)
        (omega (arith, size, length-append (take gate d) (v ∷ [])))

pub but_after : (gate : ℕ) (a b c : List ℕ) → SameBut gate a b → SameBut gate b c → SameBut gate a c
but_after gate a b c first second =
    record { front = second.front ∙ first.front; back = second.back ∙ first.back; long = second.long ∙ first.long }
