-- SPDX-License-Identifier: Apache-2.0 OR MIT
-- TwoRunsOfGroup: if two runs agree in the wishes of a group of users, in the order of all their requests, in which
-- answers close the connection, and in the view of each of them at each of their own requests, they agree in every byte
-- that the group is answered, in that order. So they learn nothing more by putting together all that they are answered.
use Rattle.std.specs.Prelude.{◌≡◌, ℕ, List, [], ◌∷◌, ◌++◌, Option, Bool}
use Rattle.std.specs.List.{list_any, Contains}
use Rattle.cr_base.specs.History.{History}
use Rattle.cr_base.specs.Lists.{given}
use Rattle.cr_policy.specs.View.{view}
use Rattle.cr_wire.specs.declared.what.Wish.{Wish}
use Rattle.cr_wire.specs.Caller.{caller}
use Rattle.cr_session.specs.Told.{told, after_wish}
use Rattle.cr_session.specs.TwoRuns.{WishInTurn, Run, Encounter, is_wish_of, HearsAlike}

-- the wish is the group's: on the history at its turn one of the group is its caller
abbrev pub is_theirs : List (Option ℕ) → History → Wish → Bool
is_theirs group H w = list_any (λ u. is_wish_of u H w) group

-- ---- what they meet

-- one of the group, and what that user meets at one of their wishes
pub record Meeting : Type 0 where
  pub who : Option ℕ
  pub met : Encounter

-- what the caller of a wish meets on this history
abbrev pub meeting : History → WishInTurn → Meeting
meeting H w = record {
  who = caller H w.wish;
  met = record { seen = view (caller H w.wish) H; wish = w.wish; closes = w.closes };
}

-- what the group meet from this history on, in the order of all their requests
abbrev pub group_meets : List (Option ℕ) → History → List WishInTurn → List Meeting
group_meets group H [] = []
group_meets group H (w ∷ ws) =
    given (is_theirs group H w.wish) (meeting H w) ++ group_meets group (after_wish H w.wish) ws

-- ---- what they hear

-- one of the group, one of that user's wishes with its timestamp, whether its connection closes after the answer, and
-- the bytes of the answer
pub record Exchange : Type 0 where
  pub who : Option ℕ
  pub wish : Wish
  pub closes : Bool
  pub text : List ℕ

-- what the caller of a wish asks and is answered on this history
abbrev pub exchange : History → WishInTurn → Exchange
exchange H w = record {
  who = caller H w.wish;
  wish = w.wish;
  closes = w.closes;
  text = told H w.wish w.closes;
}

-- what the group ask and are answered from this history on, in the order of all their requests
abbrev pub exchanges : List (Option ℕ) → History → List WishInTurn → List Exchange
exchanges group H [] = []
exchanges group H (w ∷ ws) =
    given (is_theirs group H w.wish) (exchange H w) ++ exchanges group (after_wish H w.wish) ws

-- ---- the clauses

-- the two runs agree in what the group meet
abbrev pub GroupMeetsAlike : List (Option ℕ) → Run → Run → Type 0
GroupMeetsAlike group one other =
    group_meets group one.opening one.wishes ≡ group_meets group other.opening other.wishes

-- the two runs agree in what the group ask and are answered
abbrev pub GroupHearsAlike : List (Option ℕ) → Run → Run → Type 0
GroupHearsAlike group one other =
    exchanges group one.opening one.wishes ≡ exchanges group other.opening other.wishes

-- TwoRunsOfGroup: of every group, with or without an unauthenticated caller, and of any two runs, whatever they open
-- with
abbrev pub TwoRunsOfGroup : Type 0
TwoRunsOfGroup = (group : List (Option ℕ)) (one other : Run) → GroupMeetsAlike group one other
    → GroupHearsAlike group one other

-- EachHearsAlike: if two runs agree in what a group ask and are answered, they agree in what each of them is answered
abbrev pub EachHearsAlike : Type 0
EachHearsAlike = (group : List (Option ℕ)) (one other : Run) (u : Option ℕ) → Contains group u
    → GroupHearsAlike group one other → HearsAlike u one other
