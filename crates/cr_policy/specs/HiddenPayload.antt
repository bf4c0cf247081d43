-- SPDX-License-Identifier: Apache-2.0 OR MIT
-- HiddenPayload and Removal: which two histories give a user one view, and which entries may be left out of a history
-- without a change of that view.
use Rattle.std.specs.Prelude.{ℕ, ◌≡◌, false, List, [], ◌∷◌, ◌++◌, Option, Some, IsTrue}
use Rattle.cr_base.specs.declared.entry.Entry.{Entry}
use Rattle.cr_base.specs.declared.entry.Entry.TheVariants.{Conflict}
use Rattle.cr_base.specs.declared.entry.EntryKind.{EntryKind}
use Rattle.cr_base.specs.declared.entry.Stamped.{Stamped}
use Rattle.cr_base.specs.Lists.{is_number}
use Rattle.cr_base.specs.History.{History}
use Rattle.cr_base.specs.HistoryFacts.{is_author, is_accepted}
use Rattle.cr_policy.specs.Sighting.{Sighting, entire, sighting}
use Rattle.cr_policy.specs.Triggers.{Reader, reader, Around, shows}
use Rattle.cr_policy.specs.View.{view, rows_at, sight}
use Rattle.cr_policy.specs.ViewFacts.{is_user}

-- all parts of an entry
abbrev pub all_of : Stamped → Sighting
all_of e = entire e.stamp e.entry

-- what two such histories share at each place: the kind of the entry, and its paper, ordinal, version, number and tag,
-- of those that it has
pub record Outline : Type 0 where
  pub kind : EntryKind
  pub paper : Option ℕ
  pub ordinal : Option ℕ
  pub version : Option ℕ
  pub n : Option ℕ
  pub tag : Option (List ℕ)

-- the outline of an entry
abbrev pub outline : Stamped → Outline
outline e = record {
  kind = (all_of e).kind;
  paper = (all_of e).paper;
  ordinal = (all_of e).ordinal;
  version = (all_of e).version;
  n = (all_of e).n;
  tag = (all_of e).tag;
}

-- the two histories, after `before`, are equally long, and this holds of their entries at each place, with what is
-- around the first's
abbrev pub PlaceByPlace : (Around → Stamped → Stamped → Type 0) → History → History → History → Type 0
PlaceByPlace Holds before [] [] = Unit {0}
PlaceByPlace Holds before (e ∷ after) (other ∷ after') =
    Holds (record { before = before; after = after }) e other × PlaceByPlace Holds (before ++ e ∷ []) after after'
PlaceByPlace Holds before _ _ = ⊥

-- ---- the conditions

-- the first condition: at each place the entries have equal outlines
abbrev pub AlikeInPlace : History → History → Type 0
AlikeInPlace H H' = PlaceByPlace (λ at e other. outline e ≡ outline other) [] H H'

-- `other` with only those parts that the rows of `e`, its actor's among them, show the reader
abbrev pub shown_of : Reader → Around → Stamped → Stamped → Sighting
shown_of r at e other = sighting (shows (rows_at r at e)) false other

-- the two entries differ only in parts of the first that the reader isn't shown. If their actors differ, neither is the
-- reader; if the users whom they name differ, neither is the reader.
pub record IsHiddenFrom (r : Reader) (at : Around) (e other : Stamped) : Type 0 where
  pub parts : shown_of r at e e ≡ shown_of r at e other
  pub maker : is_number r.number e.stamp.maker ≡ is_number r.number other.stamp.maker
  pub user : is_user r.number (all_of e).user ≡ is_user r.number (all_of other).user

-- the second condition: at each place the entries differ only in what the view of the first history doesn't show the
-- user
abbrev pub DifferHidden : Option ℕ → History → History → Type 0
DifferHidden u H H' = PlaceByPlace (IsHiddenFrom (reader u H)) [] H H'

-- the third condition: the accepted papers are the same in both
abbrev pub AcceptedAlike : History → History → Type 0
AcceptedAlike H H' = (p : ℕ) → is_accepted p H ≡ is_accepted p H'

-- if the entry is a conflict with a paper of the user's, the actors of this entry in the two histories are both authors
-- of the paper, or neither is
abbrev pub IsDeclaredAlike : Option ℕ → History → History → Entry → ℕ → ℕ → Type 0
IsDeclaredAlike u H H' (Conflict paper user on) maker other =
    IsTrue (is_author u paper H) → is_author (Some maker) paper H ≡ is_author (Some other) paper H'
IsDeclaredAlike u H H' _ maker other = Unit {0}

-- the fourth condition: `IsDeclaredAlike` holds at each place
abbrev pub DeclaredAlike : Option ℕ → History → History → Type 0
DeclaredAlike u H H' =
    PlaceByPlace (λ at e other. IsDeclaredAlike u H H' e.entry e.stamp.maker other.stamp.maker) [] H H'

-- the two histories meet all four conditions for the user
pub record DiffersHidden (u : Option ℕ) (H H' : History) : Type 0 where
  pub alike : AlikeInPlace H H'
  pub hidden : DifferHidden u H H'
  pub accepted : AcceptedAlike H H'
  pub declared : DeclaredAlike u H H'

-- ---- the laws

-- HiddenPayload: a user's view, and an unauthenticated caller's, is one of two such histories, legal or not
abbrev pub HiddenPayload : Type 0
HiddenPayload = (u : Option ℕ) (H H' : History) → DiffersHidden u H H' → view u H ≡ view u H'

-- the two entries are equal but for the mark `more` and, if the user didn't make them, their timestamps and numbers
pub record IsSameButStamp (u : Option ℕ) (e other : Stamped) : Type 0 where
  pub entry : e.entry ≡ other.entry
  pub maker : e.stamp.maker ≡ other.stamp.maker
  pub own : IsTrue (is_number u e.stamp.maker) → e.stamp ≡ other.stamp

-- StampsUnseen: a user's view doesn't depend on when others made their entries, nor by which numbers
abbrev pub StampsUnseen : Type 0
StampsUnseen = (u : Option ℕ) (H H' : History)
    → PlaceByPlace (λ at e other. IsSameButStamp u e other) [] H H' → view u H ≡ view u H'

-- Removal: a user's view doesn't change if an entry that shows the user nothing is left out, and the accepted papers
-- stay the same
abbrev pub Removal : Type 0
Removal = (u : Option ℕ) (before after : History) (e : Stamped)
    → sight (reader u (before ++ e ∷ after)) (record { before = before; after = after }) e ≡ []
    → AcceptedAlike (before ++ e ∷ after) (before ++ after)
    → view u (before ++ after) ≡ view u (before ++ e ∷ after)

-- ---- several steps

-- the two histories give the user one view: they are equal, they meet the four conditions, the second is the first
-- without an entry that shows the user nothing, or this holds with the two exchanged, or with a third history between
-- them
pub data LooksSame (u : Option ℕ) : History → History → Type 0 where
  unchanged : (H : History) → LooksSame u H H
  differing : (H H' : History) → DiffersHidden u H H' → LooksSame u H H'
  left_out : (before after : History) (e : Stamped)
      → sight (reader u (before ++ e ∷ after)) (record { before = before; after = after }) e ≡ []
      → AcceptedAlike (before ++ e ∷ after) (before ++ after)
      → LooksSame u (before ++ e ∷ after) (before ++ after)
  reversed : (H H' : History) → LooksSame u H H' → LooksSame u H' H
  through : (H between H' : History) → LooksSame u H between → LooksSame u between H' → LooksSame u H H'
