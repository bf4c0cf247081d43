-- SPDX-License-Identifier: Apache-2.0 OR MIT
-- What a user is answered doesn't tell what she isn't shown, nor what stands in forms of which she is told nothing.
use Rattle.std.proofs.Common.{◌≡◌, ◌∙◌, ℕ, List, [], ◌∷◌, ◌++◌, map, Bool, true, false, Option, refl, sym}
use Rattle.std.proofs.lemmas.List.{map-append}
use Rattle.cr_base.specs.History.{History}
use Rattle.cr_base.specs.Lists.{given}
use Rattle.cr_policy.specs.HiddenPayload.{LooksSame}
use Rattle.cr_policy.specs.View.{view}
use Rattle.cr_policy.proofs.RemovedLaws.{looks-same}
use Rattle.cr_bounds.proofs.ResponseBoundLaws.{later-forms, unheard-forms}
use Rattle.cr_session.specs.Told.{after_wish}
use Rattle.cr_session.specs.TwoRuns.{WishInTurn, Run, Encounter, HearsAlike, is_wish_of, meets}
use Rattle.cr_session.proofs.TwoRunsLaws.{two_runs}
use Rattle.cr_laws.specs.AskedAlike.{Asked, AllAskedAlike, AsksAlike, asks}
use Rattle.cr_laws.specs.HiddenBytes.{HiddenBytes}
use Rattle.cr_laws.specs.ResponseBytes.{ReadsSame, hidden, later, reversed, through, unheard, ResponseBytes}

-- what she meets at a wish
abbrev encounter_at : Option ℕ → Asked → Encounter
encounter_at u a = record { seen = view u a.before; wish = a.wish; closes = a.closes }

meets-by_asks : (u : Option ℕ) (H : History) (ws : List WishInTurn) → meets u H ws ≡ map (encounter_at u) (asks u H ws)
meets-by_asks u H [] = refl
meets-by_asks u H (w ∷ ws) =
    (λ i. one (is_wish_of u H w.wish) i ++ meets-by_asks u (after_wish H w.wish) ws i)
    ∙ sym (map-append (encounter_at u) (given (is_wish_of u H w.wish) asked) (asks u (after_wish H w.wish) ws))
  where
    asked : Asked
    asked = record { before = H; wish = w.wish; closes = w.closes }

    one : (hers : Bool) → given hers (record { seen = view u H; wish = w.wish; closes = w.closes })
        ≡ map (encounter_at u) (given hers asked)
    one true = refl
    one false = refl

-- histories that are alike in this sense show her the same
module _ (u : Option ℕ) (Alike : History → History → Type 0)
    (shows : (H H' : History) → Alike H H' → view u H ≡ view u H') where
  meets-alike : (ones others : List Asked) → AllAskedAlike Alike ones others
      → map (encounter_at u) ones ≡ map (encounter_at u) others
  meets-alike [] [] alike = refl
  meets-alike [] (other ∷ others) alike = absurd alike
  meets-alike (one ∷ ones) [] alike = absurd alike
  meets-alike (one ∷ ones) (other ∷ others) alike =
      let here = shows one.before other.before alike.0.before in
      λ i. record { seen = here i; wish = alike.0.wish i; closes = alike.0.closes i } ∷ meets-alike ones others alike.1
      i

  hears-alike : (one other : Run) → AsksAlike Alike u one other → HearsAlike u one other
  hears-alike one other alike =
      two_runs u one other
      (meets-by_asks u one.opening one.wishes
      ∙ meets-alike (asks u one.opening one.wishes) (asks u other.opening other.wishes) alike
      ∙ sym (meets-by_asks u other.opening other.wishes))

pub hidden_bytes : HiddenBytes
hidden_bytes u = hears-alike u (LooksSame u) (looks-same u)

-- ---- what stands in forms of which she is told nothing

reads-same : (u : Option ℕ) (H H' : History) → ReadsSame u H H' → view u H ≡ view u H'
reads-same u _ _ (unheard H H' early alike) = unheard-forms u H H' early alike
reads-same u _ _ (later before after stamp more paper ordinal version form early of begun) =
    sym (later-forms u before after stamp more paper ordinal version form early of begun)
reads-same u _ _ (hidden H H' same) = looks-same u H H' same
reads-same u _ _ (reversed H H' same) = sym (reads-same u H H' same)
reads-same u _ _ (through H between H' one other) = reads-same u H between one ∙ reads-same u between H' other

pub response_bytes : ResponseBytes
response_bytes u = hears-alike u (ReadsSame u) (reads-same u)
