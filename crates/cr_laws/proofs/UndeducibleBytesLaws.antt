-- SPDX-License-Identifier: Apache-2.0 OR MIT
-- The other run: each wish of the group's stands in it as it was, each that another had accepted stands in it filled
-- in, and every other is left out; and then without others' numbers.
use Rattle.std.proofs.Common.{ℕ, Bool, true, false, ◌≡◌, List, [], ◌∷◌, ◌++◌, length, map, refl, sym, ap, subst, ◌∙◌}
use Rattle.std.proofs.Common.{append_assoc, suc, Option, Some, None}
use Rattle.std.specs.Prelude.{take}
use Rattle.std.specs.List.{All, Contains}
use Rattle.std.proofs.Math.Seq.{take-append_seam}
use Rattle.std.proofs.lemmas.List.Elements.{All-weaker, All-contains_itself}
use Rattle.cr_base.specs.Drawn.{Drawn}
use Rattle.cr_base.specs.History.{History}
use Rattle.cr_policy.specs.Legal.{Legal}
use Rattle.cr_policy.specs.View.{view}
use Rattle.cr_undeduced.specs.Payload.{Payload, IsBoundedPayload, NoneLonger}
use Rattle.cr_undeduced.specs.Undeducible.{Look, Looking, looking_at, seen_at, IsWithinQuota}
use Rattle.cr_undeduced.proofs.Among.{among-contained}
use Rattle.cr_undeduced.proofs.Fill.{refilled, behind, refilled-append, mixed_behind, others-filled}
use Rattle.cr_undeduced.proofs.LooksLaws.{values_alike, refilled-take}
use Rattle.cr_undeduced.proofs.RefilledLegal.{MakesRoom, FitsQuota, quota-room, shorter-room, leads-legal}
use Rattle.cr_undeduced.proofs.RefilledTexts.{legal-texts, mixed_behind-bounded, mixed-shorter}
use Rattle.cr_wire.specs.Caller.{caller}
use Rattle.cr_session.specs.Retries.{AreBounded}
use Rattle.cr_session.specs.Told.{drawn, and_drawn, after_wish}
use Rattle.cr_session.specs.Turning.{IsBoundedWish}
use Rattle.cr_session.specs.TwoRuns.{WishInTurn, Run}
use Rattle.cr_session.proofs.Accepting.{wish-draws}
use Rattle.cr_laws.specs.GroupRuns.{is_theirs}
use Rattle.cr_laws.specs.AnotherRun.{looks_of, end_of, AnotherRun}
use Rattle.cr_laws.specs.UndeducibleBytes.{end_otherwise, without_numbers, AreOthers}
use Rattle.cr_laws.specs.UndeducibleBytes.{OthersHeard, ShorterHeard}
use Rattle.cr_laws.proofs.FilledWishes.{KeepDigests, IsAcceptedFilled, accepted-filled, filled_wish, caller-kept}
use Rattle.cr_laws.proofs.OtherRuns.{InPlace, stays, left-out, replaced, another, after-grows, ends-grow}
use Rattle.cr_laws.proofs.OtherRuns.{ends-legal, theirs-same}
use Rattle.cr_laws.proofs.TheirWishes.{AreSpared, spared-mixed, spared-digests, spared-behind, spared-before}
use Rattle.cr_laws.proofs.TheirWishes.{group-same, adds-theirs, draws-same, exchange-same}
use Rattle.cr_laws.proofs.UnnumberedRuns.{run-unnumbered}

length-refilled : (xs : ℕ → Payload) (H : History) → length (refilled xs H) ≡ length H
length-refilled xs [] = refl
length-refilled xs (e ∷ H) = ap suc (length-refilled (λ n. xs (suc n)) H)

-- what stands at first of a history that is filled in
take-refilled : (xs : ℕ → Payload) (H g : History) → take (length H) (refilled xs (H ++ g)) ≡ refilled xs H
take-refilled xs H g = refilled-take (length H) xs (H ++ g) ∙ ap (refilled xs) (take-append_seam H g)

-- ---- wish by wish

module _ (group : List (Option ℕ)) (xs : ℕ → Payload) (bounded : (n : ℕ) → IsBoundedPayload (xs n))
    (Fits : History → Type 0) (roomy : MakesRoom xs Fits) (G : History) (spared : AreSpared group xs G)
    (fits : Fits G) where
  -- who looks at the end of so many entries sees the same
  abbrev SeesAlike : Look → Type 0
  SeesAlike look = seen_at G look ≡ seen_at (refilled xs G) look

  module _ (H : History) (legal : Legal H) (legal' : Legal (refilled xs H)) (w : WishInTurn)
      (bounds : IsBoundedWish w.wish) (more : History) (ends : G ≡ after_wish H w.wish ++ more) where
    abbrev H' : History
    H' = refilled xs H

    -- where it draws this, the end of all begins with that
    drawn-first : (d : Drawn) → drawn H w.wish ≡ Some d → G ≡ (H ++ d.group) ++ more
    drawn-first d is = ends ∙ ap (λ (o : Option Drawn). and_drawn H o ++ more) is

    sparing : (g : History) → G ≡ H ++ g → AreSpared group xs (H ++ g)
    sparing g is = subst (AreSpared group xs) is spared

    begins : (g : History) × (G ≡ H ++ g)
    begins =
        let grown = after-grows H w.wish in
        (grown.0 ++ more, ends ∙ ap (λ (K : History). K ++ more) grown.1 ∙ append_assoc H grown.0 more)

    keeps : KeepDigests xs H
    keeps = spared-digests group xs H begins.0 (sparing begins.0 begins.1)

    -- the group's
    theirs-stay : is_theirs group H w.wish ≡ true → SeesAlike (record { who = caller H w.wish; upto = length H })
        → InPlace group (refilled xs) H w
    theirs-stay theirs sees =
        stays group (refilled xs) H w bounds calls
        (ap (and_drawn H') (draws-same H H' w calls seen) ∙ by (drawn H w.wish) refl) (exchange-same H H' w calls seen)
      where
        calls : caller H' w.wish ≡ caller H w.wish
        calls = caller-kept xs H w.wish w.wish.what keeps refl

        seen : view (caller H w.wish) H ≡ view (caller H w.wish) H'
        seen =
            ap (view (caller H w.wish)) (sym (ap (take (length H)) begins.1 ∙ take-append_seam H begins.0)) ∙ sees
            ∙ ap (view (caller H w.wish))
            (ap (λ (K : History). take (length H) (refilled xs K)) begins.1 ∙ take-refilled xs H begins.0)

        by : (o : Option Drawn) → drawn H w.wish ≡ o → and_drawn H' o ≡ refilled xs (and_drawn H o)
        by None is = refl
        by (Some d) is =
            let all : AreSpared group xs (H ++ (d.group ++ more)) =
            sparing (d.group ++ more) (drawn-first d is ∙ append_assoc H d.group more) in
            ap (λ (g : History). H' ++ g)
            (sym (group-same group (behind (length H) xs) d.group
            (adds-theirs group H legal w.wish bounds d theirs (wish-draws H w.wish d is))
            (spared-before group (behind (length H) xs) d.group more
            (spared-behind group xs H (d.group ++ more) all))))
            ∙ sym (refilled-append xs H d.group)

    -- another's that adds something
    filled-in : is_theirs group H w.wish ≡ false → (d : Drawn) → drawn H w.wish ≡ Some d
        → InPlace group (refilled xs) H w
    filled-in others d is =
        replaced group (refilled xs) H w others d is (filled_wish (behind (length H) xs) w.wish) filled.within
        (theirs-same group H H' w.wish (filled_wish (behind (length H) xs) w.wish) filled.caller_is ∙ others)
        filled.again filled.draws
        (ap (λ (g : History). H' ++ g) filled.group ∙ sym (refilled-append xs H d.group))
      where
        fit : Fits (H ++ d.group)
        fit = roomy.before (H ++ d.group) more (subst Fits (drawn-first d is) fits)

        filled : IsAcceptedFilled xs bounded Fits roomy H legal legal' keeps w.wish bounds d fit
        filled = accepted-filled xs bounded Fits roomy H legal legal' keeps w.wish bounds d fit
            (wish-draws H w.wish d is)

    pub in-place : (is_theirs group H w.wish ≡ true → SeesAlike (record { who = caller H w.wish; upto = length H }))
        → InPlace group (refilled xs) H w
    in-place sees = by (is_theirs group H w.wish) (drawn H w.wish) refl refl
      where
        by : (b : Bool) (o : Option Drawn) → is_theirs group H w.wish ≡ b → drawn H w.wish ≡ o
            → InPlace group (refilled xs) H w
        by true o theirs is = theirs-stay theirs (sees theirs)
        by false None others is = left-out group (refilled xs) H w others is
        by false (Some d) others is = filled-in others d is

-- ---- the laws

module _ (group : List (Option ℕ)) (xs : ℕ → Payload) (one : Run) (legal : Legal one.opening)
    (bounds : AreBounded one.wishes) (others : AreOthers group xs one) where
  abbrev all : List Looking
  all = map (looking_at (end_of one)) (looks_of group one.opening one.wishes)

  abbrev ys : ℕ → Payload
  ys = mixed_behind all [] xs (end_of one)

  is-filled : end_otherwise group xs one ≡ refilled ys (end_of one)
  is-filled = others-filled all [] xs (end_of one)

  bounded-mixed : (n : ℕ) → IsBoundedPayload (ys n)
  bounded-mixed = mixed_behind-bounded all [] xs (end_of one)
      (legal-texts (end_of one) (ends-legal one.opening one.wishes legal bounds)) others.bounded

  abbrev Alike : Look → Type 0
  Alike look = seen_at (end_of one) look ≡ seen_at (refilled ys (end_of one)) look

  sees-alike : All Alike (looks_of group one.opening one.wishes)
  sees-alike =
      All-weaker (Contains (looks_of group one.opening one.wishes)) Alike
      (λ look is. values_alike (looks_of group one.opening one.wishes) xs (end_of one) look
      (among-contained look (looks_of group one.opening one.wishes) is)
      ∙ ap (λ (K : History). seen_at K look) is-filled)
      (looks_of group one.opening one.wishes) (All-contains_itself (looks_of group one.opening one.wishes))

  grown : (g : History) × (end_of one ≡ one.opening ++ g)
  grown = ends-grow one.opening one.wishes

  -- where there is room for the contents that are filled in
  filled-run : (Fits : History → Type 0) → MakesRoom ys Fits → Fits (end_of one)
      → AnotherRun group one (refilled ys (end_of one))
  filled-run Fits roomy fits =
      another group (refilled ys) Alike (end_of one)
      (in-place group ys bounded-mixed Fits roomy (end_of one)
      (spared-mixed group all [] xs (end_of one) others.left) fits)
      one.opening one.wishes legal
      (leads-legal ys bounded-mixed Fits roomy [] one.opening legal.0 ([], refl) ([], refl) legal.1
      (roomy.before one.opening grown.0 (subst Fits grown.1 fits)))
      bounds refl sees-alike (length-refilled ys one.opening)
      (sym (ap (λ (K : History). take (length one.opening) (refilled ys K)) grown.1
      ∙ take-refilled ys one.opening grown.0))

  -- and then without others' numbers
  both-ways : AnotherRun group one (refilled ys (end_of one))
      → AnotherRun group one (without_numbers group (end_otherwise group xs one))
  both-ways first =
      subst (λ (K : History). AnotherRun group one (without_numbers group K)) (sym is-filled)
      (run-unnumbered group one (refilled ys (end_of one)) first)

pub others_heard : OthersHeard
others_heard group xs one legal bounds others quota =
    both-ways group xs one legal bounds others
    (filled-run group xs one legal bounds others (FitsQuota (ys group xs one legal bounds others))
    (quota-room (ys group xs one legal bounds others))
    (subst IsWithinQuota (is-filled group xs one legal bounds others) quota))

pub shorter_heard : ShorterHeard
shorter_heard group xs one legal bounds others shorter =
    both-ways group xs one legal bounds others
    (filled-run group xs one legal bounds others (NoneLonger (ys group xs one legal bounds others))
    (shorter-room (ys group xs one legal bounds others))
    (mixed-shorter (all group xs one legal bounds others) [] xs (end_of one) shorter))
