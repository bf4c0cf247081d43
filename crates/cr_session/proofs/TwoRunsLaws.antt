-- SPDX-License-Identifier: Apache-2.0 OR MIT
-- What a user is answered follows from what she meets.
use Rattle.std.proofs.Common.{◌≡◌, ◌∙◌, ℕ, List, [], ◌∷◌, ◌++◌, map, Bool, true, false, Option, Some, None, refl, sym}
use Rattle.std.proofs.Common.{ap, arith}
use Rattle.std.specs.Prelude.{◌==◌}
use Rattle.std.proofs.lemmas.Bool.Decides.{nat_tests}
use Rattle.std.proofs.lemmas.List.{map-append}
use Rattle.cr_base.specs.History.{History}
use Rattle.cr_base.specs.Lists.{given}
use Rattle.cr_policy.specs.View.{view}
use Rattle.cr_wire.specs.declared.what.Wish.{Wish}
use Rattle.cr_wire.specs.Caller.{caller}
use Rattle.cr_session.specs.Told.{sending_of, told, told_to, after_wish}
use Rattle.cr_session.specs.TwoRuns.{WishInTurn, Run, Encounter, is_same, is_wish_of, meets, hears, MeetsAlike, HearsAlike}

-- what she is answered there
answer_at : Option ℕ → Encounter → List ℕ
answer_at u m = told_to u m.seen m.wish.at (sending_of m.wish m.closes) m.wish.what

equal_numbers : (m n : ℕ) → m == n ≡ true → m ≡ n
equal_numbers m n e = grind (arith, nat_tests)

pub same_user : (u v : Option ℕ) → is_same u v ≡ true → v ≡ u
same_user None None e = refl
same_user None (Some n) e = cc
same_user (Some m) None e = cc
same_user (Some m) (Some n) e = ap Some (sym (equal_numbers m n e))

told-at : (u v : Option ℕ) (H : History) (w : Wish) (closes : Bool) → v ≡ u
    → told_to v (view v H) w.at (sending_of w closes) w.what
    ≡ answer_at u (record { seen = view u H; wish = w; closes = closes })
unfolding answer_at
told-at u v H w closes e = ap (λ x. told_to x (view x H) w.at (sending_of w closes) w.what) e

-- one wish, where it is hers
answered : (u : Option ℕ) (H : History) (w : Wish) (closes : Bool) (b : Bool) → is_wish_of u H w ≡ b
    → given b (told H w closes) ≡ map (answer_at u) (given b (record { seen = view u H; wish = w; closes = closes }))
unfolding told
answered u H w closes true e =
    ap (λ (text : List ℕ). text ∷ []) (told-at u (caller H w) H w closes (same_user u (caller H w) e))
answered u H w closes false e = refl

-- all of them
hears-by_meets : (u : Option ℕ) (H : History) (ws : List WishInTurn) → hears u H ws ≡ map (answer_at u) (meets u H ws)
hears-by_meets u H [] = refl
hears-by_meets u H (w ∷ ws) =
    ap (λ (texts : List (List ℕ)). texts ++ hears u (after_wish H w.wish) ws)
    (answered u H w.wish w.closes (is_wish_of u H w.wish) refl)
    ∙ ap (λ (texts : List (List ℕ)). map (answer_at u) (encounter w) ++ texts)
    (hears-by_meets u (after_wish H w.wish) ws)
    ∙ sym (map-append (answer_at u) (encounter w) (meets u (after_wish H w.wish) ws))
  where
    encounter : WishInTurn → List Encounter
    encounter b = given (is_wish_of u H b.wish) (record { seen = view u H; wish = b.wish; closes = b.closes })

pub two_runs : (u : Option ℕ) (one other : Run) → MeetsAlike u one other → HearsAlike u one other
two_runs u one other e =
    hears-by_meets u one.opening one.wishes ∙ ap (map (answer_at u)) e
    ∙ sym (hears-by_meets u other.opening other.wishes)
