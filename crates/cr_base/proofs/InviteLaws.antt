-- SPDX-License-Identifier: Apache-2.0 OR MIT
-- Invitations, after one more entry.
use Rattle.std.proofs.Common.{ℕ, Bool, true, false, ◌≡◌, eqb, refl, ap, ◌∙◌, ◌&&◌, ◌||◌, Option, Some, None}
use Rattle.std.specs.Prelude.{not}
use Rattle.cr_base.specs.declared.entry.Entry.{Entry}
use Rattle.cr_base.specs.declared.entry.Entry.TheVariants.{Invited, Uninvited}
use Rattle.cr_base.specs.History.{invite_told}
use Rattle.cr_base.specs.Invites.{InvitesState, invites_after, is_invited_in}
use Rattle.cr_base.specs.Lists.{given, last_or}
use Rattle.cr_base.specs.Pairs.{has_pair}
use Rattle.cr_base.specs.Papers.{PapersState, papers_after, paper_count, PapersFit}
use Rattle.cr_base.specs.Ties.{pair_of, are_within}
use Rattle.cr_base.proofs.TieLaws.{has_pair-switched, within-kept, within-switched}
use Rattle.cr_base.proofs.Small.{eqb-swap}

-- nobody is told anything
untold : (b on : Bool) → false ≡ last_or false (given (b && false) on)
untold true on = refl
untold false on = refl

-- a user is invited as it tells, or else as she was
pub is_invited_in-after : (u : Option ℕ) (p : ℕ) (invites : InvitesState) (e : Entry)
    → is_invited_in (invites_after invites e) u p
    ≡ last_or (is_invited_in invites u p) (invite_told u p e)
is_invited_in-after None p invites (Invited paper user) = untold (eqb paper p) true
is_invited_in-after None p invites (Uninvited paper user) = untold (eqb paper p) false
is_invited_in-after (Some v) p invites (Invited paper user) =
    has_pair-switched true (pair_of p v) paper user invites
    ∙ ap (λ b. (b && eqb v user) || before) (eqb-swap p paper)
    ∙ by (eqb paper p && eqb v user) before
  where
    before : Bool
    before = has_pair (pair_of p v) invites

    by : (same there : Bool) → (same || there) ≡ last_or there (given same true)
    by true there = refl
    by false there = refl
is_invited_in-after (Some v) p invites (Uninvited paper user) =
    has_pair-switched false (pair_of p v) paper user invites
    ∙ ap (λ b. not (b && eqb v user) && before) (eqb-swap p paper)
    ∙ by (eqb paper p && eqb v user) before
  where
    before : Bool
    before = has_pair (pair_of p v) invites

    by : (same there : Bool) → (not same && there) ≡ last_or there (given same false)
    by true there = refl
    by false there = refl
is_invited_in-after None p invites e = refl
is_invited_in-after (Some v) p invites e = refl

-- where each entry fits, the papers to which somebody is invited are there
pub invites-within : (state : PapersState) (invites : InvitesState) (maker : ℕ) (e : Entry) → PapersFit state maker e
    → are_within (paper_count state) invites
    ≡ true → are_within (paper_count (papers_after state maker e)) (invites_after invites e) ≡ true
invites-within state invites maker (Invited paper user) fits within =
    within-switched (paper_count state) true paper user invites fits.0 fits.1 within
invites-within state invites maker (Uninvited paper user) fits within =
    within-switched (paper_count state) false paper user invites fits.0 fits.1 within
invites-within state invites maker e fits within = within-kept state invites maker e within
