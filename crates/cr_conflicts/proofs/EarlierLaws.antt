-- SPDX-License-Identifier: Apache-2.0 OR MIT
-- What a user's ties to a paper are behind earlier entries, from what these tell.
use Rattle.std.proofs.Common.{ℕ, Bool, true, false, ◌≡◌, List, [], ◌∷◌, ◌||◌, refl, sym, ap, ◌∙◌, Option, fold}
use Rattle.std.specs.List.{list_any}
use Rattle.std.proofs.lemmas.List.Folds.{list_any-append}
use Rattle.cr_base.specs.declared.entry.Stamped.{Stamped}
use Rattle.cr_base.specs.History.{History, author_told, conflict_told}
use Rattle.cr_base.specs.Lists.{is_number, last_or}
use Rattle.cr_base.specs.Ties.{TiesState, ties_after, ties_from, authors_in, is_author_in, is_conflict_on_in}
use Rattle.cr_base.proofs.TieLaws.{authors_in-after, is_conflict_on_in-after}

-- one of the entries makes the user an author
abbrev pub one_gives : Option ℕ → ℕ → History → Bool
one_gives u p entries = list_any (λ (e : Stamped). list_any (is_number u) (author_told p e.stamp.maker e.entry)) entries

-- an author is who was one, or whom one of the entries makes one
pub is_author_in-from : (u : Option ℕ) (p : ℕ) (ties : TiesState) (entries : History)
    → is_author_in (ties_from ties entries) u p ≡ (is_author_in ties u p || one_gives u p entries)
is_author_in-from u p ties [] = nothing (is_author_in ties u p)
  where
    nothing : (b : Bool) → b ≡ (b || false)
    nothing true = refl
    nothing false = refl
is_author_in-from u p ties (e ∷ entries) =
    is_author_in-from u p (ties_after ties e.stamp.maker e.entry) entries
    ∙ ap (λ (us : List ℕ). list_any (is_number u) us || one_gives u p entries)
    (authors_in-after p ties e.stamp.maker e.entry)
    ∙ ap (λ b. b || one_gives u p entries) (list_any-append (is_number u) (authors_in ties p)
    (author_told p e.stamp.maker e.entry))
    ∙ grouped (is_author_in ties u p) (list_any (is_number u) (author_told p e.stamp.maker e.entry))
    (one_gives u p entries)
  where
    grouped : (a b c : Bool) → ((a || b) || c) ≡ (a || (b || c))
    grouped true b c = refl
    grouped false b c = refl

-- who was none is one where one of the entries makes her one
pub author-given : (u : Option ℕ) (p : ℕ) (ties : TiesState) (entries : History) (given : Bool)
    → is_author_in ties u p ≡ false
    → given ≡ one_gives u p entries → given ≡ is_author_in (ties_from ties entries) u p
author-given u p ties entries given none is =
    is ∙ ap (λ b. b || one_gives u p entries) (sym none) ∙ sym (is_author_in-from u p ties entries)

-- who was one stays one
pub author-stays : (u : Option ℕ) (p : ℕ) (ties : TiesState) (entries : History) → is_author_in ties u p ≡ true
    → true ≡ is_author_in (ties_from ties entries) u p
author-stays u p ties entries author =
    ap (λ b. b || one_gives u p entries) (sym author) ∙ sym (is_author_in-from u p ties entries)

-- a user is declared in conflict as the last of the entries that speaks of it says, or else as she was
pub is_conflict_on_in-from : (u : Option ℕ) (p : ℕ) (ties : TiesState) (entries : History)
    → is_conflict_on_in (ties_from ties entries) u p
    ≡ fold (λ (b : Bool) (e : Stamped). last_or b (conflict_told u p e.entry)) (is_conflict_on_in ties u p) entries
is_conflict_on_in-from u p ties [] = refl
is_conflict_on_in-from u p ties (e ∷ entries) =
    is_conflict_on_in-from u p (ties_after ties e.stamp.maker e.entry) entries
    ∙ ap (λ (on : Bool). fold (λ (b : Bool) (s : Stamped). last_or b (conflict_told u p s.entry)) on entries)
    (is_conflict_on_in-after u p ties e.stamp.maker e.entry)
