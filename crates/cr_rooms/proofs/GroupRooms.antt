-- SPDX-License-Identifier: Apache-2.0 OR MIT
-- Room for what a table keeps of a group, element by element.
use Rattle.std.proofs.Common.{ℕ, ◌≡◌, ◌<◌, List, ◌∷◌, get_or, subst, Option, Some, None}
use Rattle.std.specs.List.{filter_map, cons_option}
use Rattle.cr_rooms.specs.Rooms.{HasRoom, HasRoomFor, IsNoLess, IsOneLess}
use Rattle.cr_rooms.proofs.RoomLaws.{has-room-first, has-room-behind, has-room-rest, has-room-kept}

module _ {A : Type 0} (number : A → Option ℕ) (x : A) (rest : List A) where
  -- there is room for the rest
  pub room-for-behind : (rooms : List ℕ) → HasRoomFor number (x ∷ rest) rooms → HasRoomFor number rest rooms
  room-for-behind rooms = by (number x)
    where
      by : (o : Option ℕ) → HasRoom (cons_option o (filter_map number rest)) rooms
          → HasRoom (filter_map number rest) rooms
      by None has = has
      by (Some n) has = has-room-behind n (filter_map number rest) rooms has

  -- of what is kept of the first there is room for one
  pub room-for-first : (rooms : List ℕ) (n : ℕ) → number x ≡ Some n → HasRoomFor number (x ∷ rest) rooms
      → 0 < get_or rooms n 0
  room-for-first rooms n is has =
      has-room-first n (filter_map number rest) rooms
      (subst (λ (o : Option ℕ). HasRoom (cons_option o (filter_map number rest)) rooms) is has)

  -- and when it came in, for the rest
  pub room-for-rest : (old new : List ℕ) (n : ℕ) → number x ≡ Some n → IsOneLess n old new
      → HasRoomFor number (x ∷ rest) old → HasRoomFor number rest new
  room-for-rest old new n is less has =
      has-room-rest n (filter_map number rest) old new
      (subst (λ (o : Option ℕ). HasRoom (cons_option o (filter_map number rest)) old) is has) less

-- where no number has less room, there still is room for all
pub room-for-kept : {A : Type 0} (number : A → Option ℕ) (group : List A) (old new : List ℕ) → IsNoLess old new
    → HasRoomFor number group old → HasRoomFor number group new
room-for-kept number group old new keeps has = has-room-kept (filter_map number group) old new has keeps
