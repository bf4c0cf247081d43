-- SPDX-License-Identifier: Apache-2.0 OR MIT
-- What a group are answered follows from what they meet, and what one of them hears from what all of them do.
use Rattle.std.proofs.Common.{◌≡◌, ◌∙◌, ℕ, Bool, true, false, List, [], ◌∷◌, ◌++◌, map, Option, refl, sym, ap}
use Rattle.std.specs.Prelude.{filter}
use Rattle.std.proofs.lemmas.Bool.{true≢false}
use Rattle.std.proofs.lemmas.List.{map-append}
use Rattle.std.proofs.lemmas.List.Elements.{filter-append}
use Rattle.cr_base.specs.History.{History}
use Rattle.cr_base.specs.Lists.{given}
use Rattle.cr_session.specs.Told.{sending_of, told, told_to, after_wish}
use Rattle.cr_session.specs.TwoRuns.{WishInTurn, is_same, is_wish_of, hears}
use Rattle.cr_undeduced.proofs.Among.{Among, among-contained}
use Rattle.cr_laws.specs.GroupRuns.{is_theirs, Meeting, meeting, group_meets, Exchange, exchange, exchanges}
use Rattle.cr_laws.specs.GroupRuns.{TwoRunsOfGroup, EachHearsAlike}

-- ---- together

-- what she asks and is answered there
abbrev heard_at : Meeting → Exchange
heard_at m = record {
  who = m.who;
  wish = m.met.wish;
  closes = m.met.closes;
  text = told_to m.who m.met.seen m.met.wish.at (sending_of m.met.wish m.met.closes) m.met.wish.what;
}

heard-one : (H : History) (w : WishInTurn) (b : Bool)
    → given b (exchange H w) ≡ map heard_at (given b (meeting H w))
unfolding told
heard-one H w true = refl
heard-one H w false = refl

heard-met : (group : List (Option ℕ)) (H : History) (ws : List WishInTurn)
    → exchanges group H ws ≡ map heard_at (group_meets group H ws)
heard-met group H [] = refl
heard-met group H (w ∷ ws) =
    (λ i. heard-one H w (is_theirs group H w.wish) i ++ heard-met group (after_wish H w.wish) ws i)
    ∙ sym (map-append heard_at (given (is_theirs group H w.wish) (meeting H w))
    (group_meets group (after_wish H w.wish) ws))

pub two_runs_of_group : TwoRunsOfGroup
two_runs_of_group group one other alike =
    heard-met group one.opening one.wishes ∙ ap (map heard_at) alike
    ∙ sym (heard-met group other.opening other.wishes)

-- ---- each for herself

module _ (group : List (Option ℕ)) (u : Option ℕ) (among : Among u group) where
  abbrev text_of : Exchange → List ℕ
  text_of x = x.text

  abbrev is_own : Exchange → Bool
  is_own x = is_same u x.who

  abbrev own_texts : List Exchange → List (List ℕ)
  own_texts xs = map text_of (filter is_own xs)

  own-append : (xs ys : List Exchange) → own_texts (xs ++ ys) ≡ own_texts xs ++ own_texts ys
  own-append xs ys = ap (map text_of) (filter-append is_own xs ys)
      ∙ map-append text_of (filter is_own xs) (filter is_own ys)

  own-one : (H : History) (w : WishInTurn) (hers theirs : Bool) → is_wish_of u H w.wish ≡ hers
      → is_theirs group H w.wish ≡ theirs
      → given hers (told H w.wish w.closes) ≡ own_texts (given theirs (exchange H w))
  own-one H w true true is in_group = sym (ap (λ (b : Bool). map text_of (given b (exchange H w))) is)
  own-one H w true false is in_group =
      absurd (true≢false (sym (among (λ v. is_wish_of v H w.wish) is) ∙ in_group))
  own-one H w false true is in_group = sym (ap (λ (b : Bool). map text_of (given b (exchange H w))) is)
  own-one H w false false is in_group = refl

  own-heard : (H : History) (ws : List WishInTurn) → hears u H ws ≡ own_texts (exchanges group H ws)
  own-heard H [] = refl
  own-heard H (w ∷ ws) =
      (λ i. own-one H w (is_wish_of u H w.wish) (is_theirs group H w.wish) refl refl i
      ++ own-heard (after_wish H w.wish) ws i)
      ∙ sym (own-append (given (is_theirs group H w.wish) (exchange H w)) (exchanges group (after_wish H w.wish) ws))

pub each_hears_alike : EachHearsAlike
each_hears_alike group one other u is alike =
    let among : Among u group = among-contained u group is in
    own-heard group u among one.opening one.wishes
    ∙ ap (own_texts group u among) alike
    ∙ sym (own-heard group u among other.opening other.wishes)
