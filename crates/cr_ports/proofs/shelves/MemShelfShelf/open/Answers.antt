-- SPDX-License-Identifier: Apache-2.0 OR MIT
use Rattle.std.proofs.Common.{◌∙◌, ap, inl, ℕ, List, Some}
use Rattle.cr_base.specs.declared.row.Row.{Row}
use Rattle.cr_ports.proofs.shelves.MemShelfShelf.open.Goals as goal

pub returns-in-Ok-clause-found : goal.returns-in-Ok-clause-found
returns-in-Ok-clause-found c = rw (← c.self.view_is) (
    ap Some (c.in-Ok.ensures.rows ∙ ap (λ found. found c.args.path.now) c.make_store.ensures.files))

-- ---- what stands at each path

pub returns-then-is_err-clause-same : goal.returns-then-is_err-clause-same
returns-then-is_err-clause-same c = rw (← c.self.view_is) (
    inl (λ other. ap (λ (found : List ℕ → List Row). Some (found other)) c.make_store.ensures.files))

pub returns-in-Ok-clause-same : goal.returns-in-Ok-clause-same
returns-in-Ok-clause-same c = rw (← c.self.view_is) (
    inl (λ other. ap (λ (found : List ℕ → List Row). Some (found other)) c.make_store.ensures.files))

pub returns-in-Err-clause-same : goal.returns-in-Err-clause-same
returns-in-Err-clause-same c = rw (← c.self.view_is) (
    inl (λ other. ap (λ (found : List ℕ → List Row). Some (found other)) c.make_store.ensures.files))
