-- SPDX-License-Identifier: Apache-2.0 OR MIT
use Rattle.std.proofs.Common.{arith, ◌∙◌, ◌<◌, ap, length}
use Rattle.cr_base.specs.Accounts.{with_role}
use Rattle.cr_base.specs.declared.entry.Entry.TheVariants.{Registered, Named, Dismissed}
use Rattle.cr_base.specs.declared.words.Role.TheVariants as roles
use Rattle.cr_accounts.specs.Seen.{SeenAccounts}
use Rattle.cr_accounts.proofs.IndexLaws.{indexed-push, with_role-at, fits-along, after-named, after-dismissed}
use Rattle.cr_accounts.proofs.accounts.Accounts.apply.Goals as goal

pub invariant_of-self : goal.invariant_of-self
invariant_of-self c =
    let fits = fits-along c.args.self.now.accounts c.self.inside.accounts.items c.args.stamped.now.entry
    (Registered c.in-Registered.user c.in-Registered.name c.in-Registered.digest) c.requires.fits
    (ap (λ (v : SeenAccounts). v.accounts) c.self.view_is) c.in-Registered.is in
    indexed-push c.self.inside.accounts.items _ c.self.inside.by_name c.insert.new.self _ c.in-Registered.user
    c.self.invariant fits c.push_reserved.ensures.items c.in-Ok.ensures.updates.0

pub returns-in-Named-clause-after : goal.returns-in-Named-clause-after
returns-in-Named-clause-after c =
    let same = ap (λ (v : SeenAccounts). v.accounts) c.self.view_is in
    let fits = fits-along c.args.self.now.accounts c.self.inside.accounts.items c.args.stamped.now.entry
    (Named c.in-Named.user c.in-Named.role) c.requires.fits same c.in-Named.is in
    let index = c.from_zero.ensures.value in
    let within : c.from_zero.result < length c.self.inside.accounts.items = omega (arith, fits.0, fits.1, index) in
    with_role-at c.self.inside.accounts.items c.from_zero.result c.index_mut.result.now c.in-Named.role within
    c.index_mut.ensures.value
    ∙ ap (λ k. with_role c.self.inside.accounts.items k c.in-Named.role) index
    ∙ after-named c.self.inside.accounts.items c.args.self.now.accounts c.args.stamped.now.entry c.in-Named.user
    c.in-Named.role same c.in-Named.is

pub returns-in-Dismissed-clause-after : goal.returns-in-Dismissed-clause-after
returns-in-Dismissed-clause-after c =
    let same = ap (λ (v : SeenAccounts). v.accounts) c.self.view_is in
    let fits = fits-along c.args.self.now.accounts c.self.inside.accounts.items c.args.stamped.now.entry
    (Dismissed c.in-Dismissed.user) c.requires.fits same c.in-Dismissed.is in
    let index = c.from_zero-in-Dismissed.ensures.value in
    let within : c.from_zero-in-Dismissed.result < length c.self.inside.accounts.items =
    omega (arith, fits.0, fits.1, index) in
    with_role-at c.self.inside.accounts.items c.from_zero-in-Dismissed.result c.index_mut-in-Dismissed.result.now
    roles.Account within c.index_mut-in-Dismissed.ensures.value
    ∙ ap (λ k. with_role c.self.inside.accounts.items k roles.Account) index
    ∙ after-dismissed c.self.inside.accounts.items c.args.self.now.accounts c.args.stamped.now.entry c.in-Dismissed.user
    same c.in-Dismissed.is
