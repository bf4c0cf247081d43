-- SPDX-License-Identifier: Apache-2.0 OR MIT
-- What a request wishes, by what its path, its method and its number are found to be.
use Rattle.std.proofs.Common.{◌≡◌, ℕ, List, Option, Some, Result, refl, ap, sym, ◌∙◌}
use Rattle.std.specs.Prelude.{option_and_then}
use Rattle.cr_base.specs.declared.ask.Ask.{Ask}
use Rattle.cr_http.specs.Requests.{RequestText}
use Rattle.cr_routes.specs.Asks.{ask_at}
use Rattle.cr_routes.specs.Methods.{method_of}
use Rattle.cr_routes.specs.Parts.{FoundPath}
use Rattle.cr_wire.specs.Asked.{find_at, what_of, with_ask, with_number}
use Rattle.cr_wire.specs.Number.{number_for}
use Rattle.cr_wire.specs.Target.{path_of}
use Rattle.cr_wire.specs.declared.number.BadCommandNumber.{BadCommandNumber}

-- by these parts of its target and its method
pub what-found : (r : RequestText) (found : FoundPath) (ask : Option Ask) (target path method : List ℕ)
    → target ≡ r.head.target → path ≡ path_of target → find_at path ≡ Some found
    → method ≡ r.head.method → ask ≡ option_and_then (ask_at found.resource) (method_of method)
    → what_of r ≡ with_ask found ask r
what-found r found ask target path method t p f m a =
    let there : find_at (path_of r.head.target) ≡ Some found = ap find_at (sym (p ∙ ap path_of t)) ∙ f in
    let asks : option_and_then (ask_at found.resource) (method_of r.head.method) ≡ ask =
    sym (a ∙ ap (λ (name : List ℕ). option_and_then (ask_at found.resource) (method_of name)) m) in
    rw (there, asks) refl

-- and by its number
pub what-numbered : (r : RequestText) (found : FoundPath) (ask : Ask) (told : Result (Option ℕ) BadCommandNumber)
    → what_of r ≡ with_ask found (Some ask) r
    → number_for ask r.head.fields ≡ told → what_of r ≡ with_number ask found told r
what-numbered r found ask told is number =
    is ∙ ap (λ (t : Result (Option ℕ) BadCommandNumber). with_number ask found t r) number
