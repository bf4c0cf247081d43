-- SPDX-License-Identifier: Apache-2.0 OR MIT
-- The same papers are accepted at each look: the last decision on each stays, from the notification on.
use Rattle.std.proofs.Common.{ℕ, Bool, true, false, ◌≡◌, suc, zero, List, [], ◌∷◌, ◌++◌, refl, sym, ap, ◌∙◌, ◌||◌, ◌&&◌}
use Rattle.std.proofs.Common.{Option, Some, None, eqb}
use Rattle.std.specs.Prelude.{not, map, take}
use Rattle.std.proofs.lemmas.Bool.{true≢false, eqb-true}
use Rattle.cr_base.specs.declared.entry.Entry.{Entry}
use Rattle.cr_base.specs.declared.entry.Entry.TheVariants as entries
use Rattle.cr_base.specs.declared.words.Decision.{Decision}
use Rattle.cr_base.specs.History.{History, all_told, decision_told}
use Rattle.cr_base.specs.HistoryFacts.{phase_of, is_withdrawn, decision_of, is_accepted}
use Rattle.cr_base.specs.Lists.{given, is_nothing, last_from}
use Rattle.cr_base.specs.Phases.{papers_may_be_accepted}
use Rattle.cr_base.specs.Words.{is_accept}
use Rattle.cr_bounds.specs.ShownTo.{is_past_discussion, is_decided_again}
use Rattle.cr_bounds.proofs.BoundsWords.{none_in-decided, phase-words}
use Rattle.cr_undeduced.specs.Payload.{Payload, own_if}
use Rattle.cr_undeduced.specs.Undeducible.{Looking, past_one, was_final, any_final, known_of}
use Rattle.cr_undeduced.proofs.Among.{Among, among-map}
use Rattle.cr_undeduced.proofs.Fill.{fill, refilled, mixed, with_tags, mixed_but_tags}
use Rattle.cr_undeduced.proofs.RefilledFacts.{phase-refilled, withdrawn-refilled, decisions-refilled, nothing-many}

module _ (u : Option ℕ) (T : History) (p : ℕ) (final : is_past_discussion (phase_of T) ≡ true) where
  abbrev with_ahead : History → Looking
  with_ahead ahead = record { who = u; stood = T; ahead = ahead }

  abbrev decisions : History → List Decision
  decisions H = all_told (decision_told p) H

  -- whatever stood before, the last of some is theirs
  from-some : (xs : List Decision) (o o' : Option Decision) → is_nothing xs ≡ false → last_from o xs ≡ last_from o' xs
  from-some [] o o' none = absurd (true≢false none)
  from-some (d ∷ xs) o o' none = refl

  last-kept : (k : ℕ) (looks : List Looking) (xs : ℕ → Payload) (before G : History)
      → Among (with_ahead (take k G)) looks → (o : Option Decision)
      → last_from o (decisions (refilled (mixed_but_tags looks before xs G) (take k G)))
      ≡ last_from o (decisions (take k G))
  last-kept zero looks xs before [] among o = refl
  last-kept zero looks xs before (e ∷ G) among o = refl
  last-kept (suc k) looks xs before [] among o = refl
  last-kept (suc k) looks xs before (e ∷ G) among o =
      by (last-kept k (map past_one looks) (λ n. xs (suc n)) (before ++ e ∷ []) G
      (among-map past_one (with_ahead (e ∷ take k G)) looks among)) e.entry
      (λ is. among (λ (look : Looking). was_final e.entry look.stood look.ahead) is)
    where
      later : History
      later = take k G

      later' : History
      later' = refilled (mixed_but_tags (map past_one looks) (before ++ e ∷ []) (λ n. xs (suc n)) G) later

      -- a decision on the paper: the last stays, and of others there is a later one
      on-it : ((o : Option Decision) → last_from o (decisions later') ≡ last_from o (decisions later))
          → (decision other : Decision) (any told : Bool)
          → ((is_past_discussion (phase_of T) && not (is_decided_again p later)) ≡ true → any ≡ true) → (b : Bool)
          → is_nothing (decisions later) ≡ b
          → last_from (Some (own_if (any || told) decision other)) (decisions later')
          ≡ last_from (Some decision) (decisions later)
      on-it rest decision other any told kept true none =
          ap (λ b. last_from (Some (own_if (b || told) decision other)) (decisions later'))
          (kept (λ i. final i && (sym (none_in-decided p later) ∙ none) i))
          ∙ rest (Some decision)
      on-it rest decision other any told kept false some =
          from-some (decisions later') (Some (own_if (any || told) decision other)) (Some decision)
          (nothing-many (decisions later') (decisions later) (decisions-refilled _ later p) ∙ some)
          ∙ rest (Some decision)

      of-paper : ((o : Option Decision) → last_from o (decisions later') ≡ last_from o (decisions later))
          → (paper : ℕ) (decision other : Decision) (any told : Bool)
          → ((is_past_discussion (phase_of T) && not (is_decided_again paper later)) ≡ true → any ≡ true) → (b : Bool)
          → eqb paper p ≡ b
          → last_from o (given b (own_if (any || told) decision other) ++ decisions later')
          ≡ last_from o (given b decision ++ decisions later)
      of-paper rest paper decision other any told kept true same =
          on-it rest decision other any told
          (λ h. kept (ap (λ q. is_past_discussion (phase_of T) && not (is_decided_again q later))
          (eqb-true paper p same) ∙ h)) (is_nothing (decisions later)) refl
      of-paper rest paper decision other any told kept false same = rest o

      by : ((o : Option Decision) → last_from o (decisions later') ≡ last_from o (decisions later)) → (entry : Entry)
          → (was_final entry T (e ∷ later) ≡ true → any_final looks entry ≡ true)
          → last_from o
          (decision_told p
          (fill (mixed (with_tags (known_of looks before (record e { entry = entry }))) entry (xs 0)) entry)
          ++ decisions later')
          ≡ last_from o (decision_told p entry ++ decisions later)
      by rest (entries.Decided paper decision) kept =
          of-paper rest paper decision (xs 0).decision (any_final looks (entries.Decided paper decision)) _ kept
          (eqb paper p) refl
      by rest (entries.Registered user name digest) kept = rest o
      by rest entry kept = rest o

pub accepted-then : (u : Option ℕ) (T : History) (k : ℕ) (looks : List Looking) (xs : ℕ → Payload) (H : History)
    → Among (record { who = u; stood = T; ahead = take k H }) looks → T ≡ take k H → (p : ℕ)
    → is_accepted p (take k H) ≡ is_accepted p (refilled (mixed_but_tags looks [] xs H) (take k H))
accepted-then u T k looks xs H among whole p =
    by (papers_may_be_accepted (phase_of (take k H))) refl
    ∙ (λ i. is_accept (decision_of p T') && not (sym (withdrawn-refilled ys (take k H) p) i)
    && papers_may_be_accepted (sym (phase-refilled ys (take k H)) i))
  where
    ys : ℕ → Payload
    ys = mixed_but_tags looks [] xs H

    T' : History
    T' = refilled ys (take k H)

    none : (a b c : Bool) → c ≡ false → (a && b && c) ≡ false
    none true true c h = h
    none true false c h = refl
    none false b c h = refl

    by : (b : Bool) → papers_may_be_accepted (phase_of (take k H)) ≡ b
        → (is_accept (decision_of p (take k H)) && not (is_withdrawn p (take k H))
        && papers_may_be_accepted (phase_of (take k H)))
        ≡ (is_accept (decision_of p T') && not (is_withdrawn p (take k H))
        && papers_may_be_accepted (phase_of (take k H)))
    by true final =
        ap (λ (d : Option Decision). is_accept d && not (is_withdrawn p (take k H))
        && papers_may_be_accepted (phase_of (take k H)))
        (sym (last-kept u T p
        (ap (λ (G : History). is_past_discussion (phase_of G)) whole
        ∙ sym (phase-words (phase_of (take k H))).notification ∙ final) k looks xs [] H among None))
    by false early =
        none (is_accept (decision_of p (take k H))) (not (is_withdrawn p (take k H))) _ early
        ∙ sym (none (is_accept (decision_of p T')) (not (is_withdrawn p (take k H))) _ early)
