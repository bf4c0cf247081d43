-- SPDX-License-Identifier: Apache-2.0 OR MIT
use Rattle.std.proofs.Common.{◌∙◌, ap, inl, ℕ, List, Some}
use Rattle.cr_base.specs.declared.row.Row.{Row}
use Rattle.cr_ports.proofs.Shelving.{cond_apart, cond_here}
use Rattle.cr_ports.proofs.shelves.MemShelfShelf.shut.Goals as goal

pub returns-clause-kept : goal.returns-clause-kept
returns-clause-kept c =
    let path = c.args.path.now in
    inl (ap (λ (found : List ℕ → List Row). Some (found path)) c.put.ensures
    ∙ ap Some (cond_here path _ _ ∙ c.into_parts-rows.ensures.rows))

pub returns-clause-others : goal.returns-clause-others
returns-clause-others c = rw (← c.self.view_is) (λ other apart.
    ap (λ (found : List ℕ → List Row). Some (found other)) c.put.ensures
    ∙ ap Some (cond_apart c.args.path.now other _ _ apart))
