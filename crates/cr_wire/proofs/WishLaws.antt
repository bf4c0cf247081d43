-- SPDX-License-Identifier: Apache-2.0 OR MIT
-- The wishes of requests, each at its own moment.
use Rattle.std.proofs.Common.{◌≡◌, suc, List, [], ◌∷◌, ◌++◌, length, refl, ap, sym, ◌∙◌}
use Rattle.cr_http.specs.Requests.{RequestText}
use Rattle.cr_wire.specs.Wish.{wish_text}
use Rattle.cr_wire.specs.Wishes.{AreWishes, moments_of}
use Rattle.cr_wire.specs.declared.what.Wish.{Wish}

pub as_many : (rs : List RequestText) (ws : List Wish) → AreWishes rs ws → length ws ≡ length rs
as_many [] [] h = refl
as_many [] (w ∷ ws) h = absurd h
as_many (r ∷ rs) [] h = absurd h
as_many (r ∷ rs) (w ∷ ws) h = ap suc (as_many rs ws h.1)

pub joined : (rs qs : List RequestText) (ws vs : List Wish) → AreWishes rs ws → AreWishes qs vs
    → AreWishes (rs ++ qs) (ws ++ vs)
joined [] qs [] vs h k = k
joined [] qs (w ∷ ws) vs h k = absurd h
joined (r ∷ rs) qs [] vs h k = absurd h
joined (r ∷ rs) qs (w ∷ ws) vs h k = (h.0, joined rs qs ws vs h.1 k)

pub same_wishes : (rs : List RequestText) (ws vs : List Wish) → AreWishes rs ws → AreWishes rs vs
    → moments_of ws ≡ moments_of vs → ws ≡ vs
same_wishes [] [] [] h k same = refl
same_wishes [] (w ∷ ws) vs h k same = absurd h
same_wishes [] [] (v ∷ vs) h k same = absurd k
same_wishes (r ∷ rs) [] vs h k same = absurd h
same_wishes (r ∷ rs) (w ∷ ws) [] h k same = absurd k
same_wishes (r ∷ rs) (w ∷ ws) (v ∷ vs) h k same =
    let at : w.at ≡ v.at = cc (same) in
    let later : moments_of ws ≡ moments_of vs = cc (same) in
    let one : w ≡ v = h.0 ∙ ap (wish_text r) at ∙ sym k.0 in
    λ i. one i ∷ same_wishes rs ws vs h.1 k.1 later i
