-- SPDX-License-Identifier: Apache-2.0 OR MIT
-- The summary of a drill, number by number.
use Rattle.std.proofs.Common.{◌≡◌, ◌∙◌, ℕ, ◌+◌, ◌<◌, List, [], ◌∷◌, ◌++◌, Some, take, length, sym, ap, get_or}
use Rattle.std.proofs.Common.{append_assoc, append-nil, codes}
use Rattle.std.specs.List.{flat_map}
use Rattle.std.proofs.lemmas.List.{take_more}
use Rattle.std.proofs.lemmas.List.Concat.{flat_map-append}
use Rattle.cr_base.specs.History.{History}
use Rattle.cr_policy.specs.View.{view}
use Rattle.cr_drill.specs.Drill.{counted, views_text}

pub views-next : (H : History) (users : List ℕ) (i user : ℕ) (before text more : List ℕ) → i < length users
    → user ≡ get_or users i user
    → text ≡ before ++ views_text H (take i users) → more ≡ text ++ counted (codes " ") (length (view (Some user) H))
    → more ≡ before ++ views_text H (take (i + 1) users)
views-next H users i user before text more within at was added =
    let f : ℕ → List ℕ = λ (u : ℕ). counted (codes " ") (length (view (Some u) H)) in
    let front = views_text H (take i users) in
    let one : views_text H (take (i + 1) users) ≡ front ++ f user =
    ap (flat_map f) (take_more users i user within)
    ∙ flat_map-append f (take i users) (get_or users i user ∷ [])
    ∙ ap (λ (t : List ℕ). front ++ t) (append-nil (f (get_or users i user)) ∙ ap f (sym at)) in
    added ∙ ap (λ (t : List ℕ). t ++ f user) was ∙ append_assoc before front (f user)
    ∙ sym (ap (λ (t : List ℕ). before ++ t) one)
