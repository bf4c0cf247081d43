-- SPDX-License-Identifier: Apache-2.0 OR MIT
-- What a user wishes in a run, and on which history each time; and that the user wishes the same in two runs, on
-- histories that are alike in some sense.
use Rattle.std.specs.Prelude.{◌≡◌, ℕ, List, [], ◌∷◌, ◌++◌, Option, Bool}
use Rattle.cr_base.specs.History.{History}
use Rattle.cr_base.specs.Lists.{given}
use Rattle.cr_wire.specs.declared.what.Wish.{Wish}
use Rattle.cr_session.specs.Told.{after_wish}
use Rattle.cr_session.specs.TwoRuns.{WishInTurn, Run, is_wish_of}

-- a wish of a user's: the history before it, the wish, and whether its connection closes after the answer
pub record Asked : Type 0 where
  pub before : History
  pub wish : Wish
  pub closes : Bool

-- the user's wishes from this history on
abbrev pub asks : Option ℕ → History → List WishInTurn → List Asked
asks u H [] = []
asks u H (w ∷ ws) =
    given (is_wish_of u H w.wish) (record { before = H; wish = w.wish; closes = w.closes })
    ++ asks u (after_wish H w.wish) ws

-- if two histories are alike to the user when this holds
module _ (Alike : History → History → Type 0) where
  -- she wishes the same at the same moment, and what stands before is alike
  pub record AskedAlike (one other : Asked) : Type 0 where
    pub before : Alike one.before other.before
    pub wish : one.wish ≡ other.wish
    pub closes : one.closes ≡ other.closes

  -- wish by wish
  abbrev pub AllAskedAlike : List Asked → List Asked → Type 0
  AllAskedAlike [] [] = Unit {0}
  AllAskedAlike (one ∷ ones) (other ∷ others) = AskedAlike one other × AllAskedAlike ones others
  AllAskedAlike _ _ = ⊥

  -- over two runs
  abbrev pub AsksAlike : Option ℕ → Run → Run → Type 0
  AsksAlike u one other = AllAskedAlike (asks u one.opening one.wishes) (asks u other.opening other.wishes)
