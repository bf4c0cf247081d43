-- SPDX-License-Identifier: Apache-2.0 OR MIT
-- Wishes: what a whole text of a connection spells, request by request, and how it ends.
use Rattle.std.specs.Prelude.{◌≡◌, ℕ, List, [], ◌∷◌, map, Bool, ◌||◌, ◌==◌}
use Rattle.cr_http.specs.Requests.{RequestText, End, SpellsFrom}
use Rattle.cr_wire.specs.Wish.{asks_close, wish_text}
use Rattle.cr_wire.specs.declared.what.Wish.{Wish}

-- the number of the last request of a connection, counted from 0: there are at most 2 ^ 20
abbrev pub last_request : ℕ
last_request = 1048575

-- the connection closes after the answer to its request number n: the wish asks for it, or it is the last request that
-- may come
abbrev pub closes : ℕ → Wish → Bool
closes n w = w.asks_close || n == last_request

-- the connection closes after the answer to its request number n, by the request; the timestamp doesn't matter
unfoldable pub closes_behind : ℕ → RequestText → Bool
closes_behind n r = asks_close r.head || n == last_request

-- these are the wishes of these requests, one by one, each at a timestamp of its own
abbrev pub AreWishes : List RequestText → List Wish → Type 0
AreWishes [] [] = Unit {0}
AreWishes [] (w ∷ ws) = ⊥
AreWishes (r ∷ rs) [] = ⊥
AreWishes (r ∷ rs) (w ∷ ws) = (w ≡ wish_text r w.at) × AreWishes rs ws

-- the moments of wishes, which the clock gave
abbrev pub moments_of : List Wish → List ℕ
moments_of wishes = map (λ (w : Wish). w.at) wishes

-- the bytes spell these wishes, and have this end
pub record Wishes (bytes : List ℕ) (wishes : List Wish) (end : End) : Type 0 where
  pub requests : List RequestText
  pub spells : SpellsFrom closes_behind 0 bytes requests end
  pub wished : AreWishes requests wishes
