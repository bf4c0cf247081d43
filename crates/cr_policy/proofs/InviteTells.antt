-- SPDX-License-Identifier: Apache-2.0 OR MIT
-- What invitations to a paper, and their ends, show of who is invited.
use Rattle.std.proofs.Common.{◌≡◌, ℕ, Bool, true, false, List, [], ◌∷◌, refl, ap, ◌∙◌, ◌&&◌, Option, Some, eqb}
use Rattle.std.specs.List.{flat_map}
use Rattle.std.proofs.lemmas.Bool.{and_parts, eqb-true}
use Rattle.cr_base.specs.declared.entry.Entry.{Entry}
use Rattle.cr_base.specs.declared.entry.Entry.TheVariants.{Invited, Uninvited}
use Rattle.cr_base.specs.declared.entry.Stamp.{Stamp}
use Rattle.cr_base.specs.declared.entry.Stamped.{Stamped}
use Rattle.cr_base.specs.Lists.{given, is_number}
use Rattle.cr_base.specs.Drawn.{stamped}
use Rattle.cr_base.specs.History.{invite_told}
use Rattle.cr_policy.specs.Part as part
use Rattle.cr_policy.specs.Sighting.{where_shown}
use Rattle.cr_policy.specs.Triggers.{Reader, Around}
use Rattle.cr_policy.specs.View.{sight}
use Rattle.cr_policy.specs.ViewFacts.{only, is_user, invite_seen}
use Rattle.cr_policy.proofs.Walk.{Tells}
use Rattle.cr_policy.proofs.Tells.{passes, silent, shown_value, told_where}

-- what is told of a user and a paper by the kind of entry alone, where the user (c) is shown
invite_value : (a c : Bool) (u : Option ℕ) (v : ℕ) (x : Bool)
    → only (a && is_user u (where_shown c (Some v))) (x ∷ []) ≡ only c (given (a && is_number u v) x)
invite_value true true u v x = by (is_number u v)
  where
    by : (b : Bool) → only b (x ∷ []) ≡ only true (given b x)
    by true = refl
    by false = refl
invite_value true false u v x = by (is_number u v)
  where
    by : (b : Bool) → ◌≡◌ {A = List Bool} [] (only false (given b x))
    by true = refl
    by false = refl
invite_value false true u v x = refl
invite_value false false u v x = refl

module _ (r : Reader) (at : Around) (stamp : Stamp) (more : Bool) where
  invite_at : (u : Option ℕ) (p : ℕ) (e : Entry) → flat_map (invite_seen u p) (sight r at (stamped stamp more e))
      ≡ only (passes part.user r at (stamped stamp more e)) (invite_told u p e)
  invite_at u p (Invited paper user) =
      told_where r at stamp more (invite_seen u p) part.user (Invited paper user) (invite_told u p (Invited paper user))
      (invite_value (eqb paper p) _ u user true)
  invite_at u p (Uninvited paper user) =
      told_where r at stamp more (invite_seen u p) part.user (Uninvited paper user)
      (invite_told u p (Uninvited paper user)) (invite_value (eqb paper p) _ u user false)
  invite_at u p e = silent r at stamp more (invite_seen u p) e refl

pub invite_tells : (r : Reader) (u : Option ℕ) (p : ℕ)
    → Tells r (invite_seen u p) (λ (e : Stamped). invite_told u p e.entry) (passes part.user r)
invite_tells r u p at e = invite_at r at e.stamp e.more u p e.entry

-- each entry that invites the user to the paper, or takes that back, shows who she is
pub record ShowsInvite (r : Reader) (at : Around) (u : Option ℕ) (p : ℕ) : Type 0 where
  pub invited : (stamp : Stamp) (more : Bool) (user : ℕ) → is_number u user ≡ true
      → passes part.user r at (stamped stamp more (Invited p user)) ≡ true
  pub uninvited : (stamp : Stamp) (more : Bool) (user : ℕ) → is_number u user ≡ true
      → passes part.user r at (stamped stamp more (Uninvited p user)) ≡ true

module _ (r : Reader) (at : Around) (u : Option ℕ) (p : ℕ) (shown : ShowsInvite r at u p) where
  kept : (stamp : Stamp) (more : Bool) (e : Entry)
      → only (passes part.user r at (stamped stamp more e)) (invite_told u p e) ≡ invite_told u p e
  kept stamp more (Invited paper user) =
      shown_value _ (eqb paper p && is_number u user) true (λ same.
      let parts = and_parts (eqb paper p) (is_number u user) same in
      ap (λ n. passes part.user r at (stamped stamp more (Invited n user))) (eqb-true paper p parts.0)
      ∙ shown.invited stamp more user parts.1)
  kept stamp more (Uninvited paper user) =
      shown_value _ (eqb paper p && is_number u user) false (λ same.
      let parts = and_parts (eqb paper p) (is_number u user) same in
      ap (λ n. passes part.user r at (stamped stamp more (Uninvited n user))) (eqb-true paper p parts.0)
      ∙ shown.uninvited stamp more user parts.1)
  kept stamp more e = refl

  pub invite_kept : (e : Stamped) → only (passes part.user r at e) (invite_told u p e.entry) ≡ invite_told u p e.entry
  invite_kept e = kept e.stamp e.more e.entry
