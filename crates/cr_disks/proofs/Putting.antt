-- SPDX-License-Identifier: Apache-2.0 OR MIT
-- A piece over what stands at an offset, and past the end.
use Rattle.std.proofs.Common.{◌≡◌, ◌∙◌, inl, inr, ℕ, ◌+◌, ◌-◌, ◌≤◌, min, List, [], ◌++◌, length, take, drop}
use Rattle.std.proofs.Common.{sym, ap, arith, append_assoc, length-append, length-drop, take-append-drop}
use Rattle.std.proofs.lemmas.Bool.{cases_lt}
use Rattle.std.proofs.lemmas.List.{append-nil, drop_all, length-take-le, take_all, take_at, take_rest}
use Rattle.cr_disks.specs.Disk.{Holds}

pub put_whole : (bytes piece mid new : List ℕ) (at over : ℕ) → at ≤ length bytes
    → over ≡ min (length piece) (length bytes - at)
    → mid ≡ take at bytes ++ (take over piece ++ drop (at + over) bytes) → new ≡ mid ++ drop over piece
    → Holds bytes at piece new
put_whole bytes piece mid new at over inside over_is mid_is new_is =
    elim (cases_lt (length bytes - at) (length piece)) [
      | inl past ↦
          let at_end : length bytes ≤ at + over = omega (arith, past, inside, over_is) in
          let none : drop (at + over) bytes ≡ [] = drop_all (at + over) bytes at_end in
          let none_behind : drop (at + length piece) bytes ≡ [] =
          drop_all (at + length piece) bytes (omega (arith, past, inside)) in
          new_is
          ∙ ap (λ (l : List ℕ). l ++ drop over piece)
          (mid_is ∙ ap (λ (l : List ℕ). take at bytes ++ (take over piece ++ l)) none
          ∙ ap (λ (l : List ℕ). take at bytes ++ l) (append-nil (take over piece)))
          ∙ append_assoc (take at bytes) (take over piece) (drop over piece)
          ∙ ap (λ (l : List ℕ). take at bytes ++ l)
          (take-append-drop over piece ∙ sym (append-nil piece) ∙ ap (λ (l : List ℕ). piece ++ l) (sym none_behind))
      | inr within ↦
          let all : over ≡ length piece = omega (arith, within, over_is) in
          let whole : take over piece ≡ piece = take_all over piece (omega (arith, all)) in
          let none : drop over piece ≡ [] = drop_all over piece (omega (arith, all)) in
          new_is
          ∙ (λ i. mid_is i ++ none i)
          ∙ append-nil (take at bytes ++ (take over piece ++ drop (at + over) bytes))
          ∙ (λ i. take at bytes ++ (whole i ++ drop (at + all i) bytes))
    ]

pub holds-length : (at : ℕ) (bytes old new : List ℕ) → at ≤ length old → Holds old at bytes new
    → length new ≤ length old + length bytes
holds-length at bytes old new inside holds =
    omega (
      arith,
      inside,
      ap length holds,
      length-append (take at old) (bytes ++ drop (at + length bytes) old),
      length-append bytes (drop (at + length bytes) old),
      length-take-le at old inside,
      length-drop (at + length bytes) old,
    )

-- the same in two steps: over what stands there, and then the rest of the piece behind the end
pub put_parts : (old deref mid new piece : List ℕ) (at over len : ℕ) → at ≤ length old
    → over ≡ min (length piece) (length old - at) → deref ≡ old → length old ≡ len
    → Holds deref at (take over piece) mid
    → new ≡ take len (mid ++ drop (length mid) old) ++ take (length piece - over) (drop over piece)
    → Holds old at piece new
put_parts old deref mid new piece at over len inside over_is same size holds is =
    let front : length (take over piece) ≡ over = length-take-le over piece (omega (arith, over_is)) in
    let mid_is : mid ≡ take at old ++ (take over piece ++ drop (at + over) old) =
    holds ∙ (λ i. take at (same i) ++ (take over piece ++ drop (at + front i) (same i))) in
    let mid_size : length mid ≡ len =
    omega (
      arith,
      inside,
      over_is,
      size,
      front,
      ap length mid_is,
      length-append (take at old) (take over piece ++ drop (at + over) old),
      length-append (take over piece) (drop (at + over) old),
      length-take-le at old inside,
      length-drop (at + over) old,
    ) in
    put_whole old piece mid new at over inside over_is mid_is
    (is ∙ (λ i. take_at mid (drop (length mid) old) len mid_size i ++ take_rest piece over i))
