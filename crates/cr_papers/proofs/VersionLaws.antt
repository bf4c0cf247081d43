-- SPDX-License-Identifier: Apache-2.0 OR MIT
-- The versions of papers' contents, which are numbered from 1.
use Rattle.std.proofs.Common.{ℕ, Bool, true, false, cond, ◌≡◌, ◌<◌, ◌+◌, List, [], ◌∷◌, ◌++◌, length, append-nil, eqb}
use Rattle.std.proofs.Common.{refl, sym, ap, subst, ◌∙◌, arith, zero, suc, Option, Some, None}
use Rattle.std.specs.Prelude.{find, map}
use Rattle.std.specs.List.{slice_get}
use Rattle.std.proofs.lemmas.Bool.{eqb-true, eq-eqb}
use Rattle.std.proofs.lemmas.List.{map-append}
use Rattle.cr_base.specs.declared.filed.Filed.{Filed}
use Rattle.cr_base.specs.Filed.{filed, with_filed, filed_of}
use Rattle.cr_base.specs.History.{Upload}
use Rattle.cr_base.specs.Lists.{given, numbers_from}
use Rattle.cr_base.proofs.FiledLaws.{filed_of-with_filed}
use Rattle.cr_base.proofs.ListLaws.{numbers_from-push}
use Rattle.cr_base.proofs.Small.{eqb-below, eqb-above}
use Rattle.cr_papers.specs.Versions.{AreNumbered}

abbrev numbers_of : List Upload → List ℕ
numbers_of us = map (λ (u : Upload). u.version) us

abbrev find_number : ℕ → List Upload → Option Upload
find_number n us = find (λ (u : Upload). eqb u.version n) us

first_of : (x y : ℕ) (xs ys : List ℕ) → ◌≡◌ {A = List ℕ} (x ∷ xs) (y ∷ ys) → x ≡ y
first_of x y xs ys h = cc

rest_of : (x y : ℕ) (xs ys : List ℕ) → ◌≡◌ {A = List ℕ} (x ∷ xs) (y ∷ ys) → xs ≡ ys
rest_of x y xs ys h = cc

-- ---- what is read

-- a version stands at the index of its number
numbered-at : (n m i : ℕ) (us : List Upload) → numbers_of us ≡ numbers_from n us → m ≡ n + i
    → find_number m us ≡ slice_get us i
numbered-at n m i [] h at = refl
numbered-at n m zero (u ∷ us) h at =
    let is = first_of u.version n (numbers_of us) (numbers_from (n + 1) us) h in
    ap (λ b. cond b (Some u) (find_number m us)) (eq-eqb u.version m (omega (arith, is, at)))
numbered-at n m (suc i) (u ∷ us) h at =
    let is = first_of u.version n (numbers_of us) (numbers_from (n + 1) us) h in
    ap (λ b. cond b (Some u) (find_number m us)) (eqb-below u.version m (omega (arith, is, at)))
    ∙ numbered-at (n + 1) m i us (rest_of u.version n (numbers_of us) (numbers_from (n + 1) us) h) (omega (arith, at))

pub found-at : (us : List Upload) (version i : ℕ) → numbers_of us ≡ numbers_from 1 us → version ≡ 1 + i
    → find_number version us ≡ slice_get us i
found-at us version i h at = numbered-at 1 version i us h at

-- none has a lower number than the first
below : (n m : ℕ) (us : List Upload) → numbers_of us ≡ numbers_from n us → m < n → find_number m us ≡ None
below n m [] h low = refl
below n m (u ∷ us) h low =
    let is = first_of u.version n (numbers_of us) (numbers_from (n + 1) us) h in
    ap (λ b. cond b (Some u) (find_number m us)) (eqb-above u.version m (omega (arith, is, low)))
    ∙ below (n + 1) m us (rest_of u.version n (numbers_of us) (numbers_from (n + 1) us) h) (omega (arith, low))

-- so there is no version 0
pub none-at : (us : List Upload) (version : ℕ) → numbers_of us ≡ numbers_from 1 us → version ≡ 0
    → find_number version us ≡ None
none-at us version h is = below 1 version us h (omega (arith, is))

-- ---- one more upload

-- the versions stay numbered where the next one comes in
pub numbered-more : (uploads : List (Filed Upload)) (paper : ℕ) (u : Upload) → AreNumbered uploads
    → u.version ≡ length (filed_of paper uploads) + 1
    → AreNumbered (with_filed (filed paper u) uploads)
numbered-more uploads paper u numbered next p =
    subst (λ (us : List Upload). numbers_of us ≡ numbers_from 1 us)
    (sym (filed_of-with_filed p (filed paper u) uploads)) (by (eqb p paper) refl)
  where
    us : List Upload
    us = filed_of p uploads

    by : (b : Bool) → eqb p paper ≡ b → numbers_of (us ++ given b u) ≡ numbers_from 1 (us ++ given b u)
    by true is =
        let here : length (filed_of paper uploads) ≡ length us =
        ap (λ (q : ℕ). length (filed_of q uploads)) (sym (eqb-true p paper is)) in
        map-append (λ (v : Upload). v.version) us (u ∷ [])
        ∙ ap (λ (ns : List ℕ). ns ++ u.version ∷ []) (numbered p)
        ∙ sym (numbers_from-push 1 u.version us u (omega (arith, next, here)))
    by false is = subst (λ (vs : List Upload). numbers_of vs ≡ numbers_from 1 vs) (sym (append-nil us)) (numbered p)
