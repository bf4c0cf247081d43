-- SPDX-License-Identifier: Apache-2.0 OR MIT
-- What stands at a gate, by the first nine bytes there.
use Rattle.std.proofs.Common.{◌≡◌, ◌≢◌, ◌∙◌, ℕ, ◌+◌, ◌-◌, ◌≤◌, ◌<◌, Bool, true, false, cond, ltb, List, [], ◌∷◌, ◌++◌}
use Rattle.std.proofs.Common.{length, take, drop, Option, Some, None, refl, sym, ap, subst, arith, length-append}
use Rattle.std.proofs.Common.{length-drop, length-take, take-append-drop}
use Rattle.std.proofs.lemmas.Bool.{ltb-true, lt-ltb}
use Rattle.std.proofs.lemmas.List.{append-nil, drop-drop, nil_from_length}
use Rattle.std.specs.Int.{w64, from_be_bytes}
use Rattle.cr_journal.specs.Grammar.{IsTail, number}
use Rattle.cr_journal.specs.Keeping.{GateRead}
use Rattle.cr_journal.specs.Reading.{◌>>=◌, field_at, front_of, number_at}
use Rattle.cr_journal.specs.declared.opening.Gate.TheVariants as gates
use Rattle.cr_journal.proofs.Numbers.{IsBytes, length-number, number_again, number_takes}
use Rattle.cr_journal.proofs.Tails.{head_is, no_field, no_gate, tail_is}

-- nothing is there
pub nothing_there : (bytes : List ℕ) → take 9 bytes ≡ [] → GateRead gates.Cut bytes
nothing_there bytes none =
    let empty : bytes ≡ [] = nil_from_length bytes (omega (arith, ap length none, length-take 9 bytes)) in
    λ ps t. no_gate ps (subst (λ (l : List ℕ). IsTail ps l) empty t)

pub closed_there : (bytes rest : List ℕ) (v : ℕ) → take 9 bytes ≡ v ∷ rest → v ≢ 1 → GateRead gates.Closed bytes
closed_there [] rest v is shut = absurd (cc is)
closed_there (b ∷ bytes) rest v is shut = (b, bytes, λ e. shut (sym (head_is b v (take 8 bytes) rest is) ∙ e), refl)

-- behind an open gate: the first eight bytes, as far as they are there
module _ (r h : List ℕ) (is : take 8 r ≡ h) where
  short : length h ≤ 8
  short = omega (arith, sym (ap length is), length-take 8 r)

  -- no length
  no_number : number_at h ≡ None → field_at r ≡ None
  unfolding field_at number_at
  no_number none =
      let few : length h < 8 =
      ltb-true (length h) 8 (missing (ltb (length h) 8) (from_be_bytes w64 (take 8 h), drop 8 h) none) in
      let fewer : ltb (length r) 8 ≡ true = lt-ltb (length r) 8 (omega (arith, few, ap length is, length-take 8 r)) in
      let read : ℕ × List ℕ = (from_be_bytes w64 (take 8 r), drop 8 r) in
      ap (λ (b : Bool). cond b None (Some read) >>= λ n. front_of n.0 n.1) fewer
    where
      missing : (b : Bool) (x : ℕ × List ℕ) → cond b None (Some x) ≡ None → b ≡ true
      missing true x e = refl
      missing false x e = absurd (cc e)

  module _ (fits : IsBytes h) (len : ℕ) (x : List ℕ) (e : number_at h ≡ Some (len, x)) where
    nothing_more : x ≡ []
    nothing_more = nil_from_length x
        (omega (
          arith,
          short,
          ap length (number_takes h len x fits e).0.parts,
          length-append (number len) x,
          length-number len,
        ))

    whole : r ≡ number len ++ drop 8 r
    whole = sym (take-append-drop 8 r)
        ∙ ap (λ (l : List ℕ). l ++ drop 8 r)
        (is ∙ (number_takes h len x fits e).0.parts ∙ ap (λ (l : List ℕ). number len ++ l) nothing_more
        ∙ append-nil (number len))

    long : 8 ≤ length r
    long = omega (arith, ap length whole, length-append (number len) (drop 8 r), length-number len)

    -- a length, and fewer bytes
    cut_short : length r < 8 + len → field_at r ≡ None
    unfolding field_at
    cut_short few =
        let read : number_at r ≡ Some (len, drop 8 r) =
        ap number_at whole ∙ number_again len (drop 8 r) (number_takes h len x fits e).1 in
        let fewer : ltb (length (drop 8 r)) len ≡ true =
        lt-ltb (length (drop 8 r)) len (omega (arith, few, long, length-drop 8 r)) in
        ap (λ (o : Option (ℕ × List ℕ)). o >>= λ n. front_of n.0 n.1) read
        ∙ ap (λ (b : Bool). cond b None (Some (take len (drop 8 r), drop len (drop 8 r)))) fewer

module _ (bytes h : List ℕ) (many : ℕ) (is : take 9 bytes ≡ 1 ∷ h) (size : length bytes ≡ many) where
  abbrev r : List ℕ
  r = drop 1 bytes

  starts : (l : List ℕ) → take 9 l ≡ 1 ∷ h → (l ≡ 1 ∷ drop 1 l) × (take 8 (drop 1 l) ≡ h)
  starts [] e = absurd (cc e)
  starts (b ∷ l) e = (ap (λ (n : ℕ). n ∷ l) (head_is b 1 (take 8 l) h e), tail_is b 1 (take 8 l) h e)

  from_field : field_at r ≡ None → GateRead gates.Cut bytes
  from_field none = λ ps t. no_field ps r none (subst (λ (l : List ℕ). IsTail ps l) (starts bytes is).0 t)

  counted : length r + 1 ≡ many
  counted = omega (arith, size, ap length (starts bytes is).0)

  pub no_length : number_at h ≡ None → GateRead gates.Cut bytes
  no_length none = from_field (no_number r h (starts bytes is).1 none)

  pub too_long : (len : ℕ) (x : List ℕ) → IsBytes h → number_at h ≡ Some (len, x) → many < 9 + len
      → GateRead gates.Cut bytes
  too_long len x fits e few =
      from_field (cut_short r h (starts bytes is).1 fits len x e (omega (arith, counted, few)))

  pub open_there : (len : ℕ) (x : List ℕ) → IsBytes h → number_at h ≡ Some (len, x) → 9 + len ≤ many
      → GateRead (gates.Open len) bytes
  open_there len x fits e enough = (
    omega (arith, enough, size),
    (starts bytes is).0 ∙ ap (λ (l : List ℕ). 1 ∷ l)
        (whole r h (starts bytes is).1 fits len x e ∙ ap (λ (l : List ℕ). number len ++ l) (drop-drop 8 1 bytes)),
  )
