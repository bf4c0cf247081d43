-- SPDX-License-Identifier: Apache-2.0 OR MIT
-- Going over the users whom a submission tells.
use Rattle.std.proofs.Common.{ℕ, Bool, true, false, cond, ◌≡◌, ◌≤◌, ◌<◌, ◌+◌, List, [], ◌∷◌, ◌++◌, drop, get_or, length}
use Rattle.std.proofs.Common.{suc, refl, sym, ap, ◌∙◌, arith, add-one, append_assoc, append-nil, length-append}
use Rattle.std.proofs.Math.Seq.{drop-cons}
use Rattle.std.specs.Prelude.{◌==◌, ◌&&◌, not}
use Rattle.std.specs.List.{list_all, list_any}
use Rattle.cr_base.specs.Drawn.{besides}
use Rattle.cr_base.specs.Lists.{given}

-- what is left at a place begins with the user there
next-user : (users : List ℕ) (i user : ℕ) → i < length users → user ≡ get_or users i user
    → drop i users ≡ user ∷ drop (i + 1) users
next-user users i user within at =
    drop-cons users i user within ∙ ap (λ (u : ℕ). u ∷ drop (suc i) users) (sym at)
    ∙ ap (λ (n : ℕ). user ∷ drop n users) (sym (add-one i))

-- a user comes behind those who are taken, unless she is the maker or one of them
once-more : (maker user : ℕ) (taken rest : List ℕ) (b : Bool) → list_any (λ v. v == user) (maker ∷ taken) ≡ b
    → (taken ++ given (not b) user) ++ besides (maker ∷ (taken ++ given (not b) user)) rest
    ≡ taken ++ besides (maker ∷ taken) (user ∷ rest)
once-more maker user taken rest true e =
    ap (λ (l : List ℕ). l ++ besides (maker ∷ l) rest) (append-nil taken)
    ∙ sym (ap (λ (b : Bool). taken ++ cond b (besides (maker ∷ taken) rest)
    (user ∷ besides (maker ∷ (taken ++ user ∷ [])) rest)) e)
once-more maker user taken rest false e =
    append_assoc taken (user ∷ []) (besides (maker ∷ (taken ++ user ∷ [])) rest)
    ∙ sym (ap (λ (b : Bool). taken ++ cond b (besides (maker ∷ taken) rest)
    (user ∷ besides (maker ∷ (taken ++ user ∷ [])) rest)) e)

-- so those who are taken and what is left stay the same together
pub next-taken : (maker user : ℕ) (taken more users : List ℕ) (i : ℕ) → i < length users → user ≡ get_or users i user
    → more ≡ taken ++ given (not (list_any (λ v. v == user) (maker ∷ taken))) user
    → taken ++ besides (maker ∷ taken) (drop i users) ≡ besides (maker ∷ []) users
    → more ++ besides (maker ∷ more) (drop (i + 1) users) ≡ besides (maker ∷ []) users
next-taken maker user taken more users i within at added was =
    ap (λ (l : List ℕ). l ++ besides (maker ∷ l) (drop (i + 1) users)) added
    ∙ once-more maker user taken (drop (i + 1) users) (list_any (λ (v : ℕ). v == user) (maker ∷ taken)) refl
    ∙ sym (ap (λ (l : List ℕ). taken ++ besides (maker ∷ taken) l) (next-user users i user within at))
    ∙ was

-- where this one passes a test, all pass it if those left do
pub next-passes : (f : ℕ → Bool) (users : List ℕ) (i user : ℕ) → i < length users → user ≡ get_or users i user
    → f user ≡ true → list_all f (drop i users) ≡ list_all f users → list_all f (drop (i + 1) users) ≡ list_all f users
next-passes f users i user within at passes was =
    sym (ap (λ (b : Bool). b && list_all f (drop (i + 1) users)) passes)
    ∙ sym (ap (λ (l : List ℕ). list_all f l) (next-user users i user within at)) ∙ was

-- no more are taken than were told
pub few-taken : (taken more : List ℕ) (b : Bool) (user i : ℕ) → more ≡ taken ++ given b user → length taken ≤ i
    → length more ≤ i + 1
few-taken taken more true user i e few =
    omega (arith, ap (λ (l : List ℕ). length l) e, length-append taken (user ∷ []), few)
few-taken taken more false user i e few =
    omega (arith, ap (λ (l : List ℕ). length l) e, length-append taken [], few)
