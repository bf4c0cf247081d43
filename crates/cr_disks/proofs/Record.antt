-- SPDX-License-Identifier: Apache-2.0 OR MIT
-- One more call in the record of a disk in memory.
use Rattle.std.proofs.Common.{◌≡◌, ◌⊎◌, inl, inr, ◌∙◌, ℕ, ◌+◌, List, [], ◌∷◌, ◌++◌, length, take, drop, refl, sym}
use Rattle.std.proofs.Common.{ap, subst, arith, length-append, length-drop}
use Rattle.std.proofs.lemmas.List.{append-nil, take_all, take-append-le, drop-append-le, nil_from_length}
use Rattle.cr_disks.specs.Disk.{Holds}
use Rattle.cr_disks.specs.Held.{DiskState, after_call, left_in, put_by, put_by_all, settled, state_after}
use Rattle.cr_disks.specs.Held.{states_before}
use Rattle.cr_disks.specs.declared.mem_disk.DiskCall.{DiskCall}
use Rattle.cr_disks.specs.declared.mem_disk.DiskCall.TheVariants.{Wrote, Synced, SyncFailed}

pub put-push : (calls : List DiskCall) (call : DiskCall)
    → put_by_all (calls ++ call ∷ []) ≡ put_by_all calls + put_by call
put-push [] call = omega arith
put-push (c ∷ calls) call = omega (arith, put-push calls call)

module _ (call : DiskCall) (bytes : List ℕ) (size : put_by call ≡ length bytes) where
  alone : (put : List ℕ) → 0 ≡ length put → take (put_by call) (put ++ bytes) ≡ bytes
  alone put none =
      ap (λ (l : List ℕ). take (put_by call) (l ++ bytes)) (nil_from_length put (sym none))
      ∙ take_all (put_by call) bytes (omega (arith, size))

  -- what the first of some calls put there stands in front of what the last one did
  front : (n others : ℕ) (put : List ℕ) → n + others ≡ length put → take n (put ++ bytes) ≡ take n put
  front n others put total = take-append-le n put bytes (omega (arith, total))

  rest : (n others : ℕ) (put : List ℕ) → n + others ≡ length put → drop n (put ++ bytes) ≡ drop n put ++ bytes
  rest n others put total = drop-append-le n put bytes (omega (arith, total))

  left : (n others : ℕ) (put : List ℕ) → n + others ≡ length put → others ≡ length (drop n put)
  left n others put total = omega (arith, total, length-drop n put)

  pub state-push : (calls : List DiskCall) (put : List ℕ) (s : DiskState) → put_by_all calls ≡ length put
      → state_after (calls ++ call ∷ []) (put ++ bytes) s ≡ after_call call bytes (state_after calls put s)
  state-push [] put s total = ap (λ (l : List ℕ). after_call call l s) (alone put total)
  state-push (c ∷ calls) put s total =
      let n : ℕ = put_by c in
      let others : ℕ = put_by_all calls in
      ap (λ (l : List ℕ). state_after (calls ++ call ∷ []) (drop n (put ++ bytes)) (after_call c l s))
      (front n others put total)
      ∙ ap (λ (l : List ℕ). state_after (calls ++ call ∷ []) l (after_call c (take n put) s)) (rest n others put total)
      ∙ state-push calls (drop n put) (after_call c (take n put) s) (left n others put total)

  pub past-push : (calls : List DiskCall) (put : List ℕ) (s : DiskState) → put_by_all calls ≡ length put
      → states_before (calls ++ call ∷ []) (put ++ bytes) s ≡ states_before calls put s ++ state_after calls put s ∷ []
  past-push [] put s total = refl
  past-push (c ∷ calls) put s total =
      let n : ℕ = put_by c in
      let others : ℕ = put_by_all calls in
      ap (λ (l : List ℕ). s ∷ states_before (calls ++ call ∷ []) (drop n (put ++ bytes)) (after_call c l s))
      (front n others put total)
      ∙ ap (λ (l : List ℕ). s ∷ states_before (calls ++ call ∷ []) l (after_call c (take n put) s))
      (rest n others put total)
      ∙ ap (λ (l : List DiskState). s ∷ l) (past-push calls (drop n put) (after_call c (take n put) s)
      (left n others put total))

-- ---- a write

pub write-state : (first put piece : List ℕ) (calls : List DiskCall) (at len : ℕ) → put_by_all calls ≡ length put
    → state_after (calls ++ Wrote at (length piece) len ∷ []) (put ++ piece) (settled first)
    ≡ after_call (Wrote at (length piece) len) piece (state_after calls put (settled first))
write-state first put piece calls at len total =
    state-push (Wrote at (length piece) len) piece refl calls put (settled first) total

pub write-past : (first put piece : List ℕ) (calls : List DiskCall) (at len : ℕ) → put_by_all calls ≡ length put
    → states_before (calls ++ Wrote at (length piece) len ∷ []) (put ++ piece) (settled first)
    ≡ states_before calls put (settled first) ++ state_after calls put (settled first) ∷ []
write-past first put piece calls at len total =
    past-push (Wrote at (length piece) len) piece refl calls put (settled first) total

pub write-seen : (first put piece bytes new : List ℕ) (calls : List DiskCall) (at len : ℕ)
    → put_by_all calls ≡ length put
    → bytes ≡ (state_after calls put (settled first)).seen → Holds bytes at piece new
    → new ≡ (state_after (calls ++ Wrote at (length piece) len ∷ []) (put ++ piece) (settled first)).seen
write-seen first put piece bytes new calls at len total seen holds =
    holds
    ∙ ap (λ (l : List ℕ). take at l ++ (piece ++ drop (at + length piece) l)) seen
    ∙ ap (λ (s : DiskState). s.seen) (sym (write-state first put piece calls at len total))

pub write-total : (put piece : List ℕ) (calls : List DiskCall) (at len : ℕ) → put_by_all calls ≡ length put
    → put_by_all (calls ++ Wrote at (length piece) len ∷ []) ≡ length (put ++ piece)
write-total put piece calls at len total =
    omega (arith, total, put-push calls (Wrote at (length piece) len), length-append put piece)

-- ---- a sync

module _ (call : DiskCall) (nothing : put_by call ≡ 0) where
  pub sync-state : (first put : List ℕ) (calls : List DiskCall) → put_by_all calls ≡ length put
      → state_after (calls ++ call ∷ []) put (settled first)
      ≡ after_call call [] (state_after calls put (settled first))
  sync-state first put calls total =
      ap (λ (l : List ℕ). state_after (calls ++ call ∷ []) l (settled first)) (sym (append-nil put))
      ∙ state-push call [] nothing calls put (settled first) total

  pub sync-past : (first put : List ℕ) (calls : List DiskCall) → put_by_all calls ≡ length put
      → states_before (calls ++ call ∷ []) put (settled first)
      ≡ states_before calls put (settled first) ++ state_after calls put (settled first) ∷ []
  sync-past first put calls total =
      ap (λ (l : List ℕ). states_before (calls ++ call ∷ []) l (settled first)) (sym (append-nil put))
      ∙ past-push call [] nothing calls put (settled first) total

  pub sync-total : (put : List ℕ) (calls : List DiskCall) → put_by_all calls ≡ length put
      → put_by_all (calls ++ call ∷ []) ≡ length put
  sync-total put calls total = omega (arith, total, put-push calls call, nothing)

-- what a sync does to the state
abbrev pub IsSync : DiskCall → Type 0
IsSync call = (put_by call ≡ 0) × ((s : DiskState) → (after_call call [] s).seen ≡ s.seen)
    × ((s : DiskState) → left_in s s.seen → left_in (after_call call [] s) s.seen)

pub is_sync : (call : DiskCall) → (call ≡ Synced) ⊎ (call ≡ SyncFailed) → IsSync call
is_sync call (inl is) = subst IsSync (sym is) (refl, λ s. refl, λ s left. refl)
is_sync call (inr is) = subst IsSync (sym is) (refl, λ s. refl, λ s left. left)
