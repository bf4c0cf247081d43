-- SPDX-License-Identifier: Apache-2.0 OR MIT
-- Who reviews a paper behind earlier entries, how many labels it has given, and who is invited to it, from what these
-- tell.
use Rattle.std.proofs.Common.{ℕ, Bool, true, false, cond, ◌≡◌, ◌+◌, [], ◌∷◌, length, eqb, refl, ap, ◌∙◌, arith, fold}
use Rattle.std.proofs.Common.{Option, Some}
use Rattle.std.specs.Prelude.{not, count_by}
use Rattle.std.proofs.lemmas.List.Sums.{sum_by-cons}
use Rattle.cr_base.specs.declared.entry.Entry.{Entry}
use Rattle.cr_base.specs.declared.entry.Entry.TheVariants.{Assigned}
use Rattle.cr_base.specs.declared.entry.Stamped.{Stamped}
use Rattle.cr_base.specs.History.{History, SeatTold, assigned_told, invite_told, ordinal_told}
use Rattle.cr_base.specs.Invites.{InvitesState, invites_after, invites_from, is_invited_in}
use Rattle.cr_base.specs.Lists.{given, is_nothing, last_or}
use Rattle.cr_base.specs.Seats.{SeatsState, SeatsInOrder, SeatsFitInTurn, seats_after, seats_from, labels_in}
use Rattle.cr_base.specs.Seats.{ordinal_in}
use Rattle.cr_base.proofs.InviteLaws.{is_invited_in-after}
use Rattle.cr_base.proofs.SeatLaws.{seats-in_order-after, ordinal_in-after, labels_in-after}

-- a user reviews a paper as the last of the entries that speaks of it says, or else as she did
pub ordinal_in-from : (u : Option ℕ) (p : ℕ) (seats : SeatsState) (entries : History) → SeatsInOrder seats
    → SeatsFitInTurn seats entries
    → ordinal_in (seats_from seats entries) u p
    ≡ fold (λ (o : Option ℕ) (e : Stamped). last_or o (ordinal_told u p e.entry)) (ordinal_in seats u p) entries
ordinal_in-from u p seats [] order fits = refl
ordinal_in-from u p seats (e ∷ entries) order fits =
    ordinal_in-from u p (seats_after seats e.entry) entries (seats-in_order-after seats e.entry fits.0 order) fits.1
    ∙ ap (λ (held : Option ℕ). fold (λ (o : Option ℕ) (s : Stamped). last_or o (ordinal_told u p s.entry)) held entries)
    (ordinal_in-after seats e.entry order fits.0 u p)

-- it gives one of the paper's labels
abbrev pub gives : ℕ → Stamped → Bool
gives p e = not (is_nothing (assigned_told p e.entry))

given-one : (p : ℕ) (e : Entry) → length (assigned_told p e) ≡ cond (not (is_nothing (assigned_told p e))) 1 0
given-one p (Assigned paper user kind ordinal) =
    by (eqb paper p) (record { ordinal = ordinal; kind = Some kind; user = Some user })
  where
    by : (b : Bool) (told : SeatTold) → length (given b told) ≡ cond (not (is_nothing (given b told))) 1 0
    by true told = refl
    by false told = refl
given-one p e = refl

-- a paper has given the labels that it had, and those of the entries
pub labels_in-from : (p : ℕ) (seats : SeatsState) (entries : History)
    → labels_in (seats_from seats entries) p ≡ labels_in seats p + count_by (gives p) entries
labels_in-from p seats [] = omega arith
labels_in-from p seats (e ∷ entries) =
    let rest = labels_in-from p (seats_after seats e.entry) entries in
    let first = labels_in-after seats e.entry p in
    let one = given-one p e.entry in
    let count = sum_by-cons (λ (s : Stamped). cond (gives p s) 1 0) e entries in
    omega (arith, rest, first, one, count)

-- a user is invited as the last of the entries that speaks of it says, or else as she was
pub is_invited_in-from : (u : Option ℕ) (p : ℕ) (invites : InvitesState) (entries : History)
    → is_invited_in (invites_from invites entries) u p
    ≡ fold (λ (b : Bool) (e : Stamped). last_or b (invite_told u p e.entry)) (is_invited_in invites u p) entries
is_invited_in-from u p invites [] = refl
is_invited_in-from u p invites (e ∷ entries) =
    is_invited_in-from u p (invites_after invites e.entry) entries
    ∙ ap (λ (on : Bool). fold (λ (b : Bool) (s : Stamped). last_or b (invite_told u p s.entry)) on entries)
    (is_invited_in-after u p invites e.entry)
