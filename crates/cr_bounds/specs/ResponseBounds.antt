-- SPDX-License-Identifier: Apache-2.0 OR MIT
-- What a paper's authors are shown of its reviews before the notification, in a committee's terms, and which histories
-- therefore look alike to them. These statements hold of every history, legal or not, and of every user, as those of
-- ViewBounds do. What authors read while they may respond is the HotCRP manual's.
use Rattle.std.specs.Prelude.{ℕ, Bool, ◌≡◌, ◌≤◌, ◌&&◌, [], ◌∷◌, ◌++◌, length, Option, All}
use Rattle.std.specs.Prelude.{IsTrue, IsFalse}
use Rattle.std.specs.List.{flat_map, list_any}
use Rattle.cr_base.specs.declared.entry.Entry.TheVariants.{Reviewed}
use Rattle.cr_base.specs.declared.entry.EntryKind.TheVariants as kinds
use Rattle.cr_base.specs.declared.entry.Stamp.{Stamp}
use Rattle.cr_base.specs.declared.entry.Stamped.{Stamped}
use Rattle.cr_base.specs.declared.form.Form.{Form}
use Rattle.cr_base.specs.Drawn.{stamped}
use Rattle.cr_base.specs.History.{History}
use Rattle.cr_base.specs.HistoryFacts.{phase_of, is_author}
use Rattle.cr_base.specs.Lists.{is_number, since}
use Rattle.cr_policy.specs.HiddenPayload.{PlaceByPlace}
use Rattle.cr_policy.specs.Sighting.{Sighting, blank}
use Rattle.cr_policy.specs.Triggers.{Around}
use Rattle.cr_policy.specs.View.{view}
use Rattle.cr_policy.specs.ViewFacts.{only, opening_response_seen}
use Rattle.cr_bounds.specs.ShownTo.{is_past_discussion, begins_response, is_responded_to}
use Rattle.cr_bounds.specs.ViewBounds.{is_others, may_learn_forms}

-- ---- what is shown

-- a paper's authors are shown nothing of others' forms on it unless they may learn of forms: not before a response
-- phase is opened, and in the discussion not if the response was skipped
abbrev pub ReviewsAwaited : Type 0
ReviewsAwaited =
    (u : Option ℕ) (p : ℕ) (H : History) → IsTrue (is_author u p H) → IsFalse (may_learn_forms H)
    → All (λ (s : Sighting). IsFalse (is_others kinds.Reviewed p s)) (view u H)

-- before the notification a paper's authors are shown of another's form on it exactly its label's ordinal, its score,
-- its confidence and its text to the authors, whatever the mode: not who wrote it, not which of its label's forms it
-- is, and not the text to the committee
abbrev pub ReviewsForAuthors : Type 0
ReviewsForAuthors =
    (u : Option ℕ) (p : ℕ) (H : History) → IsTrue (is_author u p H) → IsFalse (is_past_discussion (phase_of H))
    → All
    (λ (s : Sighting). IsTrue (is_others kinds.Reviewed p s)
    → s ≡ record (blank kinds.Reviewed) {
      paper = s.paper;
      ordinal = s.ordinal;
      score = s.score;
      confidence = s.confidence;
      to_authors = s.to_authors;
    })
    (view u H)

-- before the notification a paper's authors are shown at most one form of each label by others
abbrev pub OneReview : Type 0
OneReview =
    (u : Option ℕ) (p o : ℕ) (H : History) → IsTrue (is_author u p H) → IsFalse (is_past_discussion (phase_of H))
    → length (flat_map (λ (s : Sighting). only (is_others kinds.Reviewed p s && is_number s.ordinal o) (s ∷ []))
    (view u H))
    ≤ 1

-- before the notification a paper's authors are shown no form by others that was written after the response was opened
abbrev pub ReviewsBehindUnseen : Type 0
ReviewsBehindUnseen =
    (u : Option ℕ) (p : ℕ) (H : History) → IsTrue (is_author u p H) → IsFalse (is_past_discussion (phase_of H))
    → All (λ (s : Sighting). IsFalse (is_others kinds.Reviewed p s)) (since opening_response_seen (view u H))

-- ---- what looks the same

-- the reader is an author of the paper and didn't write the form, and the form isn't one to which authors respond:
-- between these entries it isn't the last of its label before the response
pub record IsUnheard (u : Option ℕ) (H : History) (at : Around) (maker paper ordinal : ℕ) : Type 0 where
  pub author : IsTrue (is_author u paper H)
  pub other : IsFalse (is_number u maker)
  pub unheard : IsFalse (is_responded_to paper ordinal at.before at.after)

-- two entries that are equal, or are forms to which `IsUnheard` applies and which differ only in score, confidence and
-- texts
pub data IsSameUnlessUnheard (u : Option ℕ) (H : History) (at : Around) : Stamped → Stamped → Type 0 where
  same : (e : Stamped) → IsSameUnlessUnheard u H at e e
  changed : (stamp : Stamp) (more : Bool) (paper ordinal version : ℕ) (form other : Form)
      → IsUnheard u H at stamp.maker paper ordinal
      → IsSameUnlessUnheard u H at (stamped stamp more (Reviewed paper ordinal version form))
      (stamped stamp more (Reviewed paper ordinal version other))

-- before the notification a user's view doesn't depend on what is in forms to which `IsUnheard` applies
abbrev pub UnheardForms : Type 0
UnheardForms =
    (u : Option ℕ) (H H' : History) → IsFalse (is_past_discussion (phase_of H))
    → PlaceByPlace (IsSameUnlessUnheard u H) [] H H' → view u H ≡ view u H'

-- before the notification a user's view doesn't change if a form to which `IsUnheard` applies, and that was written
-- after the response was opened, is left out
abbrev pub LaterForms : Type 0
LaterForms =
    (u : Option ℕ) (before after : History) (stamp : Stamp) (more : Bool) (paper ordinal version : ℕ) (form : Form)
    → let e : Stamped = stamped stamp more (Reviewed paper ordinal version form) in
    IsFalse (is_past_discussion (phase_of (before ++ e ∷ after)))
    → IsUnheard u (before ++ e ∷ after) (record { before = before; after = after }) stamp.maker paper ordinal
    → IsTrue (list_any (λ (s : Stamped). begins_response s.entry) before)
    → view u (before ++ after) ≡ view u (before ++ e ∷ after)
