-- SPDX-License-Identifier: Apache-2.0 OR MIT
-- TwinsNeeded: the condition that the user who looks is neither of the twins is needed. In the small conference one of
-- two members reviews a paper, and all other conditions hold of the other, who sees that they aren't the reviewer.
use Rattle.std.specs.Prelude.{ℕ, Bool, ◌≡◌, ◌&&◌, List, [], ◌∷◌, ◌++◌, Option, Some, None, length, IsTrue, IsFalse}
use Rattle.std.specs.List.{list_any}
use Rattle.cr_base.specs.declared.entry.Entry.TheVariants.{PhaseSet}
use Rattle.cr_base.specs.declared.entry.EntryKind.TheVariants as kinds
use Rattle.cr_base.specs.declared.words.Mode.TheVariants.{Anonymous}
use Rattle.cr_base.specs.declared.words.Phase.TheVariants.{Discussion}
use Rattle.cr_base.specs.History.{History}
use Rattle.cr_base.specs.HistoryFacts.{is_author}
use Rattle.cr_base.specs.Lists.{is_number}
use Rattle.cr_policy.specs.Legal.{Legal}
use Rattle.cr_policy.specs.Sighting.{Sighting}
use Rattle.cr_policy.specs.View.{View}
use Rattle.cr_policy.specs.ViewFacts.{is_kind, is_user}
use Rattle.cr_conference.specs.Conference.{alice, bob, carol, dave, erin, fay, gus, hal, ivy}
use Rattle.cr_conference.specs.Conference.{Digests, AreDigests, ◌adds◌}
use Rattle.cr_conference.specs.HiddenPairs.{in_bids, reviewed_by}
use Rattle.cr_undeduced.specs.Twins.{Twins, twinned, AreTwins, AreUntold, MadeNone, is_blind_to}
use Rattle.cr_undeduced.specs.Undeducible.{Look, seen_at}

-- ---- the two histories

-- dave, who reviews paper 1, and hal, who doesn't
abbrev pub reviewer_and_other : Twins
reviewer_and_other = record { paper = 1; one = dave; other = hal }

-- in the anonymous mode alice assigns this member to paper 1, who writes a form, and opens the discussion
abbrev pub talked_of : ℕ → Digests → History
talked_of member d = in_bids Anonymous d ++ (reviewed_by member ++ alice adds PhaseSet Discussion ∷ [])

-- the user looks at the end of the history
abbrev pub at_end : ℕ → History → Look
at_end user H = record { who = Some user; upto = length H }

-- ---- who looks

-- all conditions of `IsOutside` and `IsShownNoNames` on the user who looks, except that the user isn't the other of the
-- two
pub record IsAllButNotOther (t : Twins) (u : Option ℕ) (H : History) : Type 0 where
  pub one : IsFalse (is_number u t.one)
  pub one_wrote : IsFalse (is_author (Some t.one) t.paper H)
  pub other_wrote : IsFalse (is_author (Some t.other) t.paper H)
  pub untold : AreUntold t u H [] H
  pub blind : IsTrue (is_blind_to u t.paper H)
  pub none : MadeNone t u H H

-- each of these sees the same of both histories at their ends
abbrev pub SeeAlike : List (Option ℕ) → History → History → Type 0
SeeAlike [] H H' = Unit {0}
SeeAlike (u ∷ us) H H' =
    (seen_at H (record { who = u; upto = length H }) ≡ seen_at H' (record { who = u; upto = length H' }))
    × SeeAlike us H H'

-- a view shows a form of paper 1 under its first label
abbrev pub shows_form : View → Bool
shows_form V =
    list_any (λ (s : Sighting). is_kind kinds.Reviewed s && is_number s.paper 1 && is_number s.ordinal 1) V

-- the view shows an assignment of the user's own
abbrev pub shows_seat : ℕ → View → Bool
shows_seat user V =
    list_any (λ (s : Sighting). is_kind kinds.Assigned s && is_number s.paper 1 && is_user (Some user) s.user) V

-- each of these is shown the form at the end, and no assignment of their own
abbrev pub KnowItIsAnother : List ℕ → History → Type 0
KnowItIsAnother [] H = Unit {0}
KnowItIsAnother (user ∷ users) H =
    (IsTrue (shows_form (seen_at H (at_end user H))) × IsFalse (shows_seat user (seen_at H (at_end user H))))
    × KnowItIsAnother users H

-- ---- the clauses

-- of a legal history in which this member reviews, and its twin, where the other of the two does
pub record IsNeeded (t : Twins) (H H' : History) : Type 0 where
  pub legal : Legal H
  pub twins : AreTwins t H
  pub is : twinned t H ≡ H'
  pub twin_legal : Legal H'
  -- all is so of the other but that he is one of the two, and he doesn't see the same
  pub asked : IsAllButNotOther t (Some t.other) H
  pub told : seen_at H (at_end t.other H) ≡ seen_at H' (at_end t.other H) → ⊥
  -- who is neither and no chair does
  pub outside : SeeAlike (None ∷ Some bob ∷ Some carol ∷ Some erin ∷ Some gus ∷ Some ivy ∷ []) H H'
  -- and all others of the committee know that it is none of them
  pub others : KnowItIsAnother (alice ∷ carol ∷ fay ∷ t.other ∷ []) H
  pub twin_others : KnowItIsAnother (alice ∷ carol ∷ fay ∷ t.one ∷ []) H'

-- TwinsNeeded: whatever the digests of their secrets are
abbrev pub TwinsNeeded : Type 0
TwinsNeeded =
    (d : Digests) → AreDigests d → IsNeeded reviewer_and_other (talked_of dave d) (talked_of hal d)
