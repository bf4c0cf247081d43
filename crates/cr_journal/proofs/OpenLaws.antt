-- SPDX-License-Identifier: Apache-2.0 OR MIT
-- What the calls of an opening come to.
use Rattle.std.proofs.Common.{◌≡◌, ◌∙◌, ℕ, ◌+◌, ◌<◌, ◌^◌, false, List, [], ◌∷◌, ◌++◌, take, drop, sym, ap, subst, arith}
use Rattle.std.proofs.Common.{append_assoc, refl}
use Rattle.std.proofs.lemmas.List.{append-nil}
use Rattle.cr_base.specs.declared.row.Row.{Row}
use Rattle.cr_disks.specs.Disk.{Only}
use Rattle.cr_journal.specs.Grammar.{FitsGroup, empty_journal, payload}
use Rattle.cr_journal.specs.Keeping.{GateRead, IsAtGate, Keeps, rows_of}
use Rattle.cr_journal.specs.declared.opening.Gate.{Gate}
use Rattle.cr_journal.specs.declared.opening.Gate.TheVariants as gates
use Rattle.cr_journal.specs.declared.state.Journal.{Journal}
use Rattle.cr_journal.proofs.GateByGate.{is_shut, one_more}
use Rattle.cr_journal.proofs.Groups.{rows-push}
use Rattle.cr_journal.proofs.Whole.{not_both}

-- what stands at a gate, of a file that is the same
pub gate_now : (found gate : Gate) (at : ℕ) (was file : List ℕ) → found ≡ gate → was ≡ file
    → GateRead found (drop at was)
    → GateRead gate (drop at file)
gate_now found gate at was file is same read =
    subst (λ (l : List ℕ). GateRead gate (drop at l)) same (subst (λ (x : Gate). GateRead x (drop at was)) is read)

-- the gates that were read, and their rows behind those that were there
abbrev pub ReadSoFar : List ℕ → ℕ → List Row → List Row → Type 0
ReadSoFar file at old new = (groups : List (List Row)) × IsAtGate file at groups × (new ≡ old ++ rows_of groups)

-- one group more
pub group_more : (file : List ℕ) (at len : ℕ) (old mid new : List Row) → len < 2 ^ 64
    → GateRead (gates.Open len) (drop at file)
    → ReadSoFar file at old mid
    → (group : List Row) × FitsGroup group × (take len (drop (at + 9) file) ≡ payload group) × (new ≡ mid ++ group)
    → ReadSoFar file (at + (9 + len)) old new
group_more file at len old mid new short opens s r =
    let there : at + 9 + len ≡ at + (9 + len) = omega arith in
    let groups : List (List Row) = s.0 ++ r.0 ∷ [] in (
      groups,
      subst (λ (n : ℕ). IsAtGate file n groups) there (one_more file at s.0 s.1 len opens short r.0 r.1 r.2),
      r.3 ∙ ap (λ (l : List Row). l ++ r.0) s.2 ∙ append_assoc old (rows_of s.0) r.0
          ∙ ap (λ (l : List Row). old ++ l) (sym (rows-push s.0 r.0)),
    )

-- the journal that was read stands
pub opened_keeps : {D : Type 0} (seen : D → List ℕ) (may_leave : D → List ℕ → Type 0) (journal : Journal D)
    (rows doubt : List Row)
    → journal.in_doubt ≡ false → FitsGroup doubt → ReadSoFar (seen journal.disk) journal.gate [] rows
    → GateRead gates.Closed (drop journal.gate (seen journal.disk)) → Only (seen journal.disk) (may_leave journal.disk)
    → Keeps seen may_leave journal rows doubt
opened_keeps seen may_leave journal rows doubt off none s closed only = record {
  groups = s.0;
  fit = s.1.fit;
  rows_are = sym s.2;
  doubt_fits = none;
  stands = record {
    shut = λ _. is_shut (seen journal.disk) journal.gate s.0 s.1 closed (may_leave journal.disk) only;
    doubt = λ on. not_both journal.in_doubt off on;
  };
}

-- a new journal has its gate behind the magic, and no groups
pub new_found : (file : List ℕ) (gate : ℕ) (rows : List Row) → gate ≡ 8 → file ≡ empty_journal
    → (groups : List (List Row)) × IsAtGate file gate groups × GateRead gates.Closed (drop gate file)
    × (rows ≡ rows ++ rows_of groups)
new_found file gate rows at made = (
  [],
  subst (λ (n : ℕ). IsAtGate file n []) (sym at)
      (subst (λ (l : List ℕ). IsAtGate l 8 []) (sym made)
      (record { fit = tt; sized = tt; size = refl; before = refl })),
  (0, [], omega arith, λ i. drop (at i) (made i)),
  sym (append-nil rows),
)
