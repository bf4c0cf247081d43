-- SPDX-License-Identifier: Apache-2.0 OR MIT
-- What is so of each entry of a legal history at its end: the users and the paper that it is about are there.
use Rattle.std.proofs.Common.{◌≡◌, ℕ, Bool, true, [], ◌∷◌, ◌++◌, refl, sym, ap, ◌∙◌, ◌||◌, append_assoc, List}
use Rattle.std.specs.Prelude.{◌==◌}
use Rattle.std.specs.List.{AllByRecursion, list_any}
use Rattle.std.proofs.lemmas.Bool.{or_left, or_right, eq-eqb}
use Rattle.std.proofs.lemmas.List.Concat.{flat_map-append}
use Rattle.std.proofs.lemmas.List.Folds.{list_any-append}
use Rattle.cr_base.specs.declared.entry.Entry.{Entry}
use Rattle.cr_base.specs.declared.entry.Entry.TheVariants.{Registered, Named, PhaseSet, ModeSet, Submitted, Coauthor}
use Rattle.cr_base.specs.declared.entry.Entry.TheVariants.{Revised, Uploaded, Withdrawn, Conflict, Bid, Assigned}
use Rattle.cr_base.specs.declared.entry.Entry.TheVariants.{Unassigned, Reviewed, Commented, Tagged, Decided}
use Rattle.cr_base.specs.declared.entry.Entry.TheVariants.{DeadlineSet, Dismissed, Invited, Uninvited, Responded}
use Rattle.cr_base.specs.declared.entry.Stamp.{Stamp}
use Rattle.cr_base.specs.declared.entry.Stamped.{Stamped}
use Rattle.cr_base.specs.Drawn.{stamped}
use Rattle.cr_base.specs.History.{History, all_told, paper_told, registration_told}
use Rattle.cr_base.specs.HistoryFacts.{papers_of}
use Rattle.cr_base.specs.Phases.{may_have_deadline}
use Rattle.cr_history.specs.Invariants.{IsInOrder, InTurn, IsSubmitted, IsRegistered}
use Rattle.cr_history.proofs.SubmissionLaws.{registered-append}

-- who made it, or the user whom it names, has registered, and its paper is there; and a phase whose deadline it sets
-- may have one
abbrev pub IsThere : History → ℕ → Entry → Type 0
IsThere H maker (Registered user name digest) = Unit {0}
IsThere H maker (Named user role) = IsRegistered H user
IsThere H maker (PhaseSet phase) = Unit {0}
IsThere H maker (ModeSet mode) = Unit {0}
IsThere H maker (Submitted paper title abstract) = IsSubmitted H paper × IsRegistered H maker
IsThere H maker (Coauthor paper user) = IsSubmitted H paper × IsRegistered H user
IsThere H maker (Revised paper title abstract) = IsSubmitted H paper
IsThere H maker (Uploaded paper version content) = IsSubmitted H paper
IsThere H maker (Withdrawn paper) = IsSubmitted H paper
IsThere H maker (Conflict paper user on) = IsSubmitted H paper × IsRegistered H user
IsThere H maker (Bid paper value) = IsSubmitted H paper × IsRegistered H maker
IsThere H maker (Assigned paper user review_kind ordinal) = IsSubmitted H paper × IsRegistered H user
IsThere H maker (Unassigned paper user ordinal) = IsSubmitted H paper × IsRegistered H user
IsThere H maker (Reviewed paper ordinal version form) = IsSubmitted H paper × IsRegistered H maker
IsThere H maker (Commented paper n ordinal text) = IsSubmitted H paper × IsRegistered H maker
IsThere H maker (Tagged paper tag on) = IsSubmitted H paper
IsThere H maker (Decided paper decision) = IsSubmitted H paper
IsThere H maker (DeadlineSet phase until) = may_have_deadline phase ≡ true
IsThere H maker (Dismissed user) = IsRegistered H user
IsThere H maker (Invited paper user) = IsSubmitted H paper × IsRegistered H user
IsThere H maker (Uninvited paper user) = IsSubmitted H paper × IsRegistered H user
IsThere H maker (Responded paper text) = IsSubmitted H paper

module _ (H : History) where
  module _ (before : History) (e : Stamped) (after : History) (whole : before ++ e ∷ after ≡ H) where
    -- a paper, and a user, that were there before it
    paper : (p : ℕ) → IsSubmitted before p → IsSubmitted H p
    paper p is =
        ap (λ (G : History). list_any (λ q. q == p) (papers_of G)) (sym whole)
        ∙ ap (list_any (λ q. q == p)) (flat_map-append (λ (e : Stamped). paper_told e.entry) before (e ∷ after))
        ∙ list_any-append (λ q. q == p) (papers_of before) (papers_of (e ∷ after))
        ∙ or_left (list_any (λ q. q == p) (papers_of before)) (list_any (λ q. q == p) (papers_of (e ∷ after))) is

    user : (v : ℕ) → IsRegistered before v → IsRegistered H v
    user v is = ap (λ (G : History). list_any (λ r. r.user == v) (all_told registration_told G)) (sym whole)
        ∙ registered-append before (e ∷ after) v is

    -- and the paper that it submits
    made : (stamp : Stamp) (more : Bool) (p : ℕ) (title abstract : List ℕ)
        → e ≡ stamped stamp more (Submitted p title abstract) → IsSubmitted H p
    made stamp more p title abstract is =
        ap (λ (G : History). list_any (λ q. q == p) (papers_of G)) (sym whole)
        ∙ ap (list_any (λ q. q == p)) (flat_map-append (λ (e : Stamped). paper_told e.entry) before (e ∷ after))
        ∙ list_any-append (λ q. q == p) (papers_of before) (papers_of (e ∷ after))
        ∙ ap (λ (e : Stamped). list_any (λ q. q == p) (papers_of before) || list_any (λ q. q == p)
        (paper_told e.entry ++ papers_of after)) is
        ∙ ap (λ b. list_any (λ q. q == p) (papers_of before) || (b || list_any (λ q. q == p) (papers_of after)))
        (eq-eqb p p refl)
        ∙ or_right (list_any (λ q. q == p) (papers_of before)) true refl

  there-one : (before : History) (stamp : Stamp) (more : Bool) (e : Entry) (after : History)
      → before ++ stamped stamp more e ∷ after ≡ H
      → IsInOrder before (stamped stamp more e) → IsThere H stamp.maker e
  there-one before stamp more (Registered v name digest) after whole is = tt
  there-one before stamp more (Named v role) after whole is = user before _ after whole v is.about
  there-one before stamp more (PhaseSet phase) after whole is = tt
  there-one before stamp more (ModeSet mode) after whole is = tt
  there-one before stamp more (Submitted p title abstract) after whole is =
      (made before _ after whole stamp more p title abstract refl, user before _ after whole stamp.maker is.maker)
  there-one before stamp more (Coauthor p v) after whole is =
      (paper before _ after whole p is.about.0, user before _ after whole v is.about.1)
  there-one before stamp more (Revised p title abstract) after whole is = paper before _ after whole p is.about
  there-one before stamp more (Uploaded p version content) after whole is = paper before _ after whole p is.about
  there-one before stamp more (Withdrawn p) after whole is = paper before _ after whole p is.about
  there-one before stamp more (Conflict p v on) after whole is =
      (paper before _ after whole p is.about.0, user before _ after whole v is.about.1)
  there-one before stamp more (Bid p value) after whole is =
      (paper before _ after whole p is.about, user before _ after whole stamp.maker is.maker)
  there-one before stamp more (Assigned p v review_kind ordinal) after whole is =
      (paper before _ after whole p is.about.0, user before _ after whole v is.about.1)
  there-one before stamp more (Unassigned p v ordinal) after whole is =
      (paper before _ after whole p is.about.0, user before _ after whole v is.about.1)
  there-one before stamp more (Reviewed p ordinal version form) after whole is =
      (paper before _ after whole p is.about, user before _ after whole stamp.maker is.maker)
  there-one before stamp more (Commented p n ordinal text) after whole is =
      (paper before _ after whole p is.about, user before _ after whole stamp.maker is.maker)
  there-one before stamp more (Tagged p tag on) after whole is = paper before _ after whole p is.about
  there-one before stamp more (Decided p decision) after whole is = paper before _ after whole p is.about
  there-one before stamp more (DeadlineSet phase until) after whole is = is.phase.1
  there-one before stamp more (Dismissed v) after whole is = user before _ after whole v is.about
  there-one before stamp more (Invited p v) after whole is =
      (paper before _ after whole p is.about.0, user before _ after whole v is.about.1)
  there-one before stamp more (Uninvited p v) after whole is =
      (paper before _ after whole p is.about.0, user before _ after whole v is.about.1)
  there-one before stamp more (Responded p text) after whole is = paper before _ after whole p is.about

  abbrev pub There : Stamped → Type 0
  There e = IsThere H e.stamp.maker e.entry

  there-all : (before after : History) → before ++ after ≡ H → InTurn IsInOrder before after
      → AllByRecursion There after
  there-all before [] whole order = tt
  there-all before (e ∷ after) whole order = (
    there-one before e.stamp e.more e.entry after whole order.0,
    there-all (before ++ e ∷ []) after (append_assoc before (e ∷ []) after ∙ whole) order.1,
  )

  pub all-there : InTurn IsInOrder [] H → AllByRecursion There H
  all-there order = there-all [] H refl order
