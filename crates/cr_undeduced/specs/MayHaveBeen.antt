-- SPDX-License-Identifier: Apache-2.0 OR MIT
-- MayHaveBeen: entries that may have been made besides, or not been made, while all later entries stay legal.
use Rattle.std.specs.Prelude.{ℕ, ◌≡◌, List, [], ◌∷◌, ◌++◌, Option, None, IsFalse}
use Rattle.std.specs.List.{AllByRecursion}
use Rattle.cr_base.specs.declared.entry.Entry.{Entry}
use Rattle.cr_base.specs.declared.entry.Entry.TheVariants.{Revised, Bid, Tagged, Decided}
use Rattle.cr_base.specs.declared.entry.Stamped.{Stamped}
use Rattle.cr_base.specs.History.{History}
use Rattle.cr_policy.specs.HiddenPayload.{AcceptedAlike}
use Rattle.cr_policy.specs.Legal.{Move, LeadsTo, Legal}
use Rattle.cr_bounds.specs.ShownTo.{is_told}
use Rattle.cr_policy.specs.View.{view}

-- no rule reads what such an entry tells, nor how many there are: a revision, a bid, a tag or a decision
abbrev pub IsUnread : Entry → Type 0
IsUnread (Revised paper title abstract) = Unit {0}
IsUnread (Bid paper value) = Unit {0}
IsUnread (Tagged paper tag on) = Unit {0}
IsUnread (Decided paper decision) = Unit {0}
IsUnread _ = ⊥

-- no rule reads what the entry tells, nor how many such entries there are, and its command had no number
pub record IsBeside (e : Stamped) : Type 0 where
  pub unread : IsUnread e.entry
  pub unnumbered : e.stamp.key ≡ None

-- Inserted: where such entries would have been accepted they may be inserted: the history stays legal
abbrev pub Inserted : Type 0
Inserted = (before besides after : History) (moves : List Move) → Legal before
    → LeadsTo before moves (before ++ after) → AllByRecursion IsBeside besides → Legal (before ++ besides)
    → Legal ((before ++ besides) ++ after)

-- LeftOut: such entries may be left out of a legal history: it stays legal
abbrev pub LeftOut : Type 0
LeftOut = (before besides after : History) (moves : List Move) → Legal before
    → LeadsTo (before ++ besides) moves ((before ++ besides) ++ after) → AllByRecursion IsBeside besides
    → Legal (before ++ besides) → Legal (before ++ after)

-- at the end of the history the user is told of none of these entries, which are between `before` and `after`
abbrev pub IsToldOfNone : Option ℕ → History → History → History → History → Type 0
IsToldOfNone u H before [] after = Unit {0}
IsToldOfNone u H before (e ∷ besides) after =
    IsFalse (is_told u H before (besides ++ after) e.stamp.maker e.entry)
    × IsToldOfNone u H (before ++ e ∷ []) besides after

-- BesidesUnseen: a user who is told of none of the entries sees the same with them and without, if the accepted papers
-- are the same
abbrev pub BesidesUnseen : Type 0
BesidesUnseen = (u : Option ℕ) (before besides after : History) → AllByRecursion IsBeside besides
    → IsToldOfNone u ((before ++ besides) ++ after) before besides after
    → AcceptedAlike ((before ++ besides) ++ after) (before ++ after)
    → view u (before ++ after) ≡ view u ((before ++ besides) ++ after)
