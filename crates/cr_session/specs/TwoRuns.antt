-- SPDX-License-Identifier: Apache-2.0 OR MIT
-- TwoRuns: if two runs agree in a user's wishes, their timestamps, which of their answers close the connection, and the
-- user's view before each of them, they agree in every byte that the user is answered (in the manner of
-- noninterference: Goguen and Meseguer, 1982).
use Rattle.std.specs.Prelude.{◌≡◌, ◌==◌, ℕ, List, [], ◌∷◌, ◌++◌, Option, Some, None, Bool, true, false}
use Rattle.cr_base.specs.History.{History}
use Rattle.cr_base.specs.Lists.{given}
use Rattle.cr_policy.specs.View.{View, view}
use Rattle.cr_wire.specs.declared.what.Wish.{Wish}
use Rattle.cr_wire.specs.Caller.{caller}
use Rattle.cr_session.specs.Told.{told, after_wish}

-- a wish when its turn comes, with its timestamp, and whether its connection closes after the answer
pub record WishInTurn : Type 0 where
  pub wish : Wish
  pub closes : Bool

-- a run: the history that it opens with, and then what is asked, by any user or an unauthenticated caller, on any
-- connection. Nothing that Judge accepts is lost.
pub record Run : Type 0 where
  pub opening : History
  pub wishes : List WishInTurn

-- what a user meets at one of the user's wishes: the view before it, the wish with its timestamp, and whether its
-- connection closes after the answer
pub record Encounter : Type 0 where
  pub seen : View
  pub wish : Wish
  pub closes : Bool

-- both are one user, or both are an unauthenticated caller
abbrev pub is_same : Option ℕ → Option ℕ → Bool
is_same None None = true
is_same None (Some n) = false
is_same (Some m) None = false
is_same (Some m) (Some n) = m == n

-- the wish is this user's: on the history at its turn the user is its caller
abbrev pub is_wish_of : Option ℕ → History → Wish → Bool
is_wish_of u H w = is_same u (caller H w)

-- what the user meets at each of the user's wishes, from this history on
abbrev pub meets : Option ℕ → History → List WishInTurn → List Encounter
meets u H [] = []
meets u H (w ∷ ws) =
    given (is_wish_of u H w.wish) (record { seen = view u H; wish = w.wish; closes = w.closes })
    ++ meets u (after_wish H w.wish) ws

-- what the user is answered to each of the user's wishes, from this history on
abbrev pub hears : Option ℕ → History → List WishInTurn → List (List ℕ)
hears u H [] = []
hears u H (w ∷ ws) = given (is_wish_of u H w.wish) (told H w.wish w.closes) ++ hears u (after_wish H w.wish) ws

-- the two runs agree in what the user meets
abbrev pub MeetsAlike : Option ℕ → Run → Run → Type 0
MeetsAlike u one other = meets u one.opening one.wishes ≡ meets u other.opening other.wishes

-- the two runs agree in what the user is answered
abbrev pub HearsAlike : Option ℕ → Run → Run → Type 0
HearsAlike u one other = hears u one.opening one.wishes ≡ hears u other.opening other.wishes

-- TwoRuns: of every user and an unauthenticated caller, and of any two runs, whatever they open with: if the runs agree
-- in what the user meets, they agree in what the user is answered
abbrev pub TwoRuns : Type 0
TwoRuns = (u : Option ℕ) (one other : Run) → MeetsAlike u one other → HearsAlike u one other
