-- SPDX-License-Identifier: Apache-2.0 OR MIT
-- A body goes from a source to where it stays.
use Rattle.std.specs.Prelude.{◌≡◌, ◌≤◌, ◌<◌, ℕ, List, ◌++◌, length, take, drop, Option}
use Rattle.cr_http.specs.declared.fill_body.BodyFill.{BodyFill}
use Rattle.cr_http.specs.declared.fill_body.BodyFill.TheVariants as fills
use Rattle.cr_http.specs.Filling.{Moves, ReadsWhile}

-- what the buffer has of the text that came, behind whose first bytes the body lies up to this end
abbrev pub HoldsBody : BodyFill → ℕ → ℕ → List ℕ → List ℕ → Type 0
HoldsBody fills.Buffer head end text kept = (kept ≡ text) × (end ≤ length text)
HoldsBody (fills.Block blob) head end text kept =
    (kept ≡ take head text) × (blob ≡ drop head text) × (length text ≡ end)
HoldsBody fills.Ended head end text kept = (kept ≡ text) × (length text < end)
HoldsBody fills.Failed head end text kept = (kept ≡ text) × (length text < end)
HoldsBody fills.OutOfMemory head end text kept = (kept ≡ text) × (length text < end)

-- The source gave what makes this text of the old one, while that was too short, and the buffer
-- keeps of it what the answer says.
pub record FillsBody {S : Type 0} (left : S → Option (List ℕ)) (gives : S → S → List ℕ → Type 0)
    (source source' : S) (old kept : List ℕ) (head end : ℕ) (answer : BodyFill) : Type 0 where
  pub text : List ℕ
  pub moves : Moves (left source) (left source') old text
  pub needed : ReadsWhile left gives (λ t. length t < end) source source' old text
  pub holds : HoldsBody answer head end text kept

-- a body that was read beside the buffer is whole, in a block or in the buffer
abbrev pub KeepsBlock : BodyFill → ℕ → List ℕ → List ℕ → List ℕ → Type 0
KeepsBlock fills.Buffer head block old new = new ≡ take head old ++ drop head block
KeepsBlock (fills.Block blob) head block old new = (blob ≡ drop head block) × (new ≡ take head old)
KeepsBlock fills.Ended head block old new = ⊥
KeepsBlock fills.Failed head block old new = ⊥
KeepsBlock fills.OutOfMemory head block old new = ⊥
