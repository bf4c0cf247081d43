-- SPDX-License-Identifier: Apache-2.0 OR MIT
-- Where who registers makes the entry herself, a digest is shown to its user alone.
use Rattle.std.proofs.Common.{ℕ, Bool, true, false, ◌≡◌, List, [], ◌∷◌, ◌++◌, refl, subst, ◌||◌, Option, Some}
use Rattle.std.specs.Prelude.{is_some}
use Rattle.std.specs.List.{AllByRecursion}
use Rattle.std.proofs.lemmas.Bool.{false≢true}
use Rattle.cr_base.specs.declared.entry.Entry.{Entry}
use Rattle.cr_base.specs.declared.entry.Entry.TheVariants.{Registered}
use Rattle.cr_base.specs.declared.entry.Stamp.{Stamp}
use Rattle.cr_base.specs.Drawn.{stamped}
use Rattle.cr_base.specs.History.{History}
use Rattle.cr_base.specs.Lists.{given, is_number}
use Rattle.cr_history.specs.Invariants.{IsMadeByUser, IsInOrder, InTurn}
use Rattle.cr_history.proofs.ListCuts.{AllByRecursion-append}
use Rattle.cr_policy.specs.Laws.{IsOwnDigest}
use Rattle.cr_policy.specs.Sighting.{where_shown}
use Rattle.cr_policy.specs.Triggers.{Reader, Around}
use Rattle.cr_policy.specs.View.{sight, sights, is_seen, joined}

-- the digest of a registration is shown to its maker alone
to_maker : (u : Option ℕ) (maker user : ℕ) (digest : List ℕ) → maker ≡ user
    → is_some (where_shown (is_number u maker || false) (Some digest)) ≡ true → is_number u user ≡ true
to_maker u maker user digest own h = by (is_number u maker) refl h
  where
    by : (b : Bool) → is_number u maker ≡ b → is_some (where_shown (b || false) (Some digest)) ≡ true
        → is_number u user ≡ true
    by true same shown = subst (λ n. is_number u n ≡ true) own same
    by false same shown = absurd (false≢true shown)

module _ (r : Reader) (at : Around) (stamp : Stamp) (more : Bool) where
  -- of any one sighting; no other kind of entry has a digest
  own_digest : (H : History) (e : Entry) → IsMadeByUser H stamp.maker e
      → IsOwnDigest r.number (joined r at (stamped stamp more e))
  own_digest H (Registered user name digest) made = λ shown. to_maker r.number stamp.maker user digest made shown
  own_digest H e made = λ shown. absurd (false≢true shown)

given-all : {A : Type 0} (P : A → Type 0) (b : Bool) (x : A) → P x → AllByRecursion P (given b x)
given-all P true x h = (h, tt)
given-all P false x h = tt

-- and of all of a view
pub own_digests : (r : Reader) (before H : History) → InTurn IsInOrder before H
    → AllByRecursion (IsOwnDigest r.number) (sights r before H)
own_digests r before [] kept = tt
own_digests r before (e ∷ after) kept =
    let at : Around = record { before = before; after = after } in
    AllByRecursion-append (IsOwnDigest r.number) (sight r at e) (sights r (before ++ e ∷ []) after)
    (given-all (IsOwnDigest r.number) (is_seen r at e) (joined r at e)
    (own_digest r at e.stamp e.more before e.entry kept.0.maker))
    (own_digests r (before ++ e ∷ []) after kept.1)
