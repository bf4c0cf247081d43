-- SPDX-License-Identifier: Apache-2.0 OR MIT
-- The words of the rules, and those of the bounds.
use Rattle.std.proofs.Common.{◌≡◌, ℕ, refl, ap, ◌&&◌, Option, Some, None}
use Rattle.std.specs.Prelude.{not}
use Rattle.cr_base.specs.declared.words.Decision.{Decision}
use Rattle.cr_base.specs.declared.words.Decision.TheVariants.{Accept, Reject}
use Rattle.cr_base.specs.declared.words.Role.{Role}
use Rattle.cr_base.specs.declared.words.Role.TheVariants.{Account, Member, Chair}
use Rattle.cr_base.specs.History.{History}
use Rattle.cr_base.specs.HistoryFacts.{role_of, is_invited, is_external}
use Rattle.cr_base.specs.Words.{is_member, is_chair, is_accept}
use Rattle.cr_bounds.specs.ShownTo.{is_on_committee, chairs_committee, takes, visits}

pub member-committee : (role : Role) → is_member role ≡ is_on_committee role
member-committee Account = refl
member-committee Member = refl
member-committee Chair = refl

pub chair-leads : (role : Role) → is_chair role ≡ chairs_committee role
chair-leads Account = refl
chair-leads Member = refl
chair-leads Chair = refl

-- a chair is on the committee
pub chair-committee : (role : Role) → (is_on_committee role && is_chair role) ≡ is_chair role
chair-committee Account = refl
chair-committee Member = refl
chair-committee Chair = refl

-- externals
pub visits-same : (u : Option ℕ) (p : ℕ) (H : History) → is_external u p H ≡ visits u p H
visits-same u p H = ap (λ b. not b && is_invited u p H) (member-committee (role_of u H))

-- decisions: what is taken
pub accept-takes : (decision : Option Decision) → is_accept decision ≡ takes decision
accept-takes None = refl
accept-takes (Some Accept) = refl
accept-takes (Some Reject) = refl
