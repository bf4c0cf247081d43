-- SPDX-License-Identifier: Apache-2.0 OR MIT
-- ResponseBytes: before the notification the bytes that a paper's authors are answered don't depend on what is in the
-- forms on it of which they are told nothing.
use Rattle.std.specs.Prelude.{ℕ, Bool, Option, [], ◌∷◌, ◌++◌, IsTrue, IsFalse}
use Rattle.std.specs.List.{list_any}
use Rattle.cr_base.specs.declared.entry.Entry.TheVariants.{Reviewed}
use Rattle.cr_base.specs.declared.entry.Stamp.{Stamp}
use Rattle.cr_base.specs.declared.entry.Stamped.{Stamped}
use Rattle.cr_base.specs.declared.form.Form.{Form}
use Rattle.cr_base.specs.Drawn.{stamped}
use Rattle.cr_base.specs.History.{History}
use Rattle.cr_base.specs.HistoryFacts.{phase_of}
use Rattle.cr_policy.specs.HiddenPayload.{LooksSame, PlaceByPlace}
use Rattle.cr_bounds.specs.ResponseBounds.{IsSameUnlessUnheard, IsUnheard}
use Rattle.cr_bounds.specs.ShownTo.{begins_response, is_past_discussion}
use Rattle.cr_session.specs.TwoRuns.{Run, HearsAlike}
use Rattle.cr_laws.specs.AskedAlike.{AsksAlike}

-- the entry of a form
abbrev pub form_of : Stamp → Bool → ℕ → ℕ → ℕ → Form → Stamped
form_of stamp more paper ordinal version form = stamped stamp more (Reviewed paper ordinal version form)

-- Two histories read the same to a user. Either the first is before the notification, and they differ in what is in
-- forms that others wrote of the user's papers, none of them the last of its label before the response; or the second
-- is the first without such a form that was written after the response was opened; or they differ only in what the user
-- isn't shown; or this holds with the two exchanged, or with a third history between them.
pub data ReadsSame (u : Option ℕ) : History → History → Type 0 where
  unheard : (H H' : History) → IsFalse (is_past_discussion (phase_of H))
      → PlaceByPlace (IsSameUnlessUnheard u H) [] H H' → ReadsSame u H H'
  later : (before after : History) (stamp : Stamp) (more : Bool) (paper ordinal version : ℕ) (form : Form)
      → IsFalse (is_past_discussion (phase_of (before ++ form_of stamp more paper ordinal version form ∷ after)))
      → IsUnheard u (before ++ form_of stamp more paper ordinal version form ∷ after)
      (record { before = before; after = after }) stamp.maker paper ordinal
      → IsTrue (list_any (λ (s : Stamped). begins_response s.entry) before)
      → ReadsSame u (before ++ form_of stamp more paper ordinal version form ∷ after) (before ++ after)
  hidden : (H H' : History) → LooksSame u H H' → ReadsSame u H H'
  reversed : (H H' : History) → ReadsSame u H H' → ReadsSame u H' H
  through : (H between H' : History) → ReadsSame u H between → ReadsSame u between H' → ReadsSame u H H'

-- ResponseBytes: of every user and any two runs, whatever they open with and whatever others ask in them
abbrev pub ResponseBytes : Type 0
ResponseBytes = (u : Option ℕ) (one other : Run) → AsksAlike (ReadsSame u) u one other → HearsAlike u one other
