-- SPDX-License-Identifier: Apache-2.0 OR MIT
-- The wishes that a text spells from request number n on, each at a timestamp that the text doesn't tell, and how the
-- text ends: Wishes is the case of number 0.
use Rattle.std.specs.Prelude.{ℕ, List}
use Rattle.cr_http.specs.Requests.{RequestText, End, SpellsFrom, BeginsFrom, ReachesFrom}
use Rattle.cr_wire.specs.declared.what.Wish.{Wish}
use Rattle.cr_wire.specs.Wishes.{AreWishes, closes_behind}

-- the text spells these wishes, and has this end
pub record Spells (n : ℕ) (text : List ℕ) (wishes : List Wish) (end : End) : Type 0 where
  pub requests : List RequestText
  pub wish : AreWishes requests wishes
  pub spells : SpellsFrom closes_behind n text requests end

-- the text begins with these wishes
pub record Begins (n : ℕ) (text : List ℕ) (wishes : List Wish) : Type 0 where
  pub requests : List RequestText
  pub wish : AreWishes requests wishes
  pub begins : BeginsFrom closes_behind n text requests

-- the text begins with these wishes, after none of them the connection closes, and this rest follows them
pub record Reaches (n : ℕ) (text : List ℕ) (wishes : List Wish) (rest : List ℕ) : Type 0 where
  pub requests : List RequestText
  pub wish : AreWishes requests wishes
  pub reaches : ReachesFrom closes_behind n text requests rest
