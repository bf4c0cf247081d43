-- SPDX-License-Identifier: Apache-2.0 OR MIT
-- Nobody has no ties to a paper, no seat and no invitation.
use Rattle.std.proofs.Common.{ℕ, false, ◌≡◌, List, [], ◌∷◌, refl, sym, ap, ◌∙◌, ◌||◌, Option, Some}
use Rattle.std.proofs.Common.{None}
use Rattle.std.specs.Prelude.{find, is_some, not}
use Rattle.std.specs.List.{list_any}
use Rattle.std.specs.Option.{option_map}
use Rattle.std.proofs.Math.Bool.{and-false}
use Rattle.cr_base.specs.declared.pairs.Tie.{Tie}
use Rattle.cr_base.specs.declared.seat.Seat.{Seat}
use Rattle.cr_base.specs.Lists.{at_some, is_number}
use Rattle.cr_base.specs.Seats.{SeatsState, seats_taken, ordinal_in}
use Rattle.cr_base.specs.Sources.{is_external_in}
use Rattle.cr_base.specs.Tables.{Tables}
use Rattle.cr_base.specs.Ties.{TiesState, authors_in, is_author_in, is_conflicted_in}
use Rattle.cr_base.specs.Words.{is_member}
use Rattle.cr_base.specs.Accounts.{role_in}

nobody : (users : List ℕ) → list_any (is_number None) users ≡ false
nobody [] = refl
nobody (v ∷ users) = nobody users

-- nobody is an author, nor in conflict
pub nobody-author : (ties : TiesState) (user paper : Option ℕ) → user ≡ None
    → false ≡ at_some (is_author_in ties user) paper
nobody-author ties user None is = refl
nobody-author ties user (Some p) is = sym (ap (λ (u : Option ℕ). is_author_in ties u p) is ∙ nobody (authors_in ties p))

pub nobody-conflicted : (ties : TiesState) (user paper : Option ℕ) → user ≡ None
    → false ≡ at_some (is_conflicted_in ties user) paper
nobody-conflicted ties user None is = refl
nobody-conflicted ties user (Some p) is =
    sym (ap (λ (u : Option ℕ). is_conflicted_in ties u p) is ∙ ap (λ b. b || false) (nobody (authors_in ties p)))

nobody-seated : (ts : List (Tie Seat)) → find (λ (s : Tie Seat). is_number None s.pair.user) ts ≡ None
nobody-seated [] = refl
nobody-seated (s ∷ ts) = nobody-seated ts

-- nor does nobody review a paper
pub nobody-seat : (seats : SeatsState) (user : Option ℕ) (p : ℕ) → user ≡ None → None ≡ ordinal_in seats user p
nobody-seat seats user p is =
    sym (ap (λ (u : Option ℕ). ordinal_in seats u p) is ∙ ap (option_map (λ (s : Tie Seat). s.value.ordinal))
    (nobody-seated (seats_taken seats p)))

pub nobody-reviewer : (seats : SeatsState) (user paper : Option ℕ) → user ≡ None
    → false ≡ at_some (λ p. is_some (ordinal_in seats user p)) paper
nobody-reviewer seats user None is = refl
nobody-reviewer seats user (Some p) is = ap is_some (nobody-seat seats user p is)

-- nor is nobody an external
pub nobody-external : (t : Tables) (user : Option ℕ) (p : ℕ) → user ≡ None → false ≡ is_external_in t user p
nobody-external t user p is =
    sym (ap (λ (u : Option ℕ). is_external_in t u p) is ∙ and-false (not (is_member (role_in t.accounts None))))
