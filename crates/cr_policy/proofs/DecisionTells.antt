-- SPDX-License-Identifier: Apache-2.0 OR MIT
-- What a view says of the decisions on papers: everyone is told which papers are accepted, and the decision is told
-- whoever a paper's page tells it.
use Rattle.std.proofs.Common.{◌≡◌, ℕ, Bool, true, false, List, [], ◌∷◌, refl, ap, ◌∙◌, ◌||◌, ◌&&◌, Option, Some, None}
use Rattle.std.proofs.Common.{eqb, arith}
use Rattle.std.specs.Prelude.{map, not, is_some, unwrap_or}
use Rattle.std.specs.Option.{option_map}
use Rattle.std.specs.List.{flat_map}
use Rattle.std.proofs.lemmas.Bool.{eqb-true, and_parts}
use Rattle.cr_base.specs.declared.entry.Entry.{Entry}
use Rattle.cr_base.specs.declared.entry.Entry.TheVariants.{Decided}
use Rattle.cr_base.specs.declared.entry.Stamp.{Stamp}
use Rattle.cr_base.specs.declared.entry.Stamped.{Stamped}
use Rattle.cr_base.specs.declared.words.Decision.{Decision}
use Rattle.cr_base.specs.Lists.{given, last, last_or}
use Rattle.cr_base.specs.Drawn.{stamped}
use Rattle.cr_base.specs.History.{History, decision_told}
use Rattle.cr_base.specs.HistoryFacts.{phase_of, standing_of, is_author, is_withdrawn, decision_of, is_accepted}
use Rattle.cr_base.specs.Page.{gets_decision}
use Rattle.cr_base.specs.Phases.{authors_read_decisions, papers_may_be_accepted}
use Rattle.cr_base.specs.Words.{is_accept}
use Rattle.cr_base.proofs.LastLaws.{last_from-map}
use Rattle.cr_policy.specs.Part as part
use Rattle.cr_policy.specs.Triggers.{Reader, reader, Around, none_in, reads_decisions, user_named}
use Rattle.cr_policy.specs.View.{view, sight}
use Rattle.cr_policy.specs.ViewFacts.{only, decision_seen, accepted_seen, decision_in_view, is_accepted_in_view}
use Rattle.cr_policy.proofs.Tells.{passes, silent, told_where, paper_value, of_paper}
use Rattle.cr_policy.proofs.Walk.{Tells, kept, kept-map, kept-none, sights-kept, last_from-kept, fold_last}

-- ---- what each entry shows

-- that there is a decision
abbrev mark : Decision → Bool
mark decision = true

module _ (r : Reader) (at : Around) (stamp : Stamp) (more : Bool) where
  decision_at : (p : ℕ) (e : Entry) → flat_map (decision_seen p) (sight r at (stamped stamp more e))
      ≡ only (passes part.decision r at (stamped stamp more e)) (decision_told p e)
  decision_at p (Decided paper decision) =
      told_where r at stamp more (decision_seen p) part.decision (Decided paper decision)
      (decision_told p (Decided paper decision))
      (paper_value (eqb paper p) _ decision)
  decision_at p e = silent r at stamp more (decision_seen p) e refl

  -- the mark is shown of a decision
  accepted_at : (p : ℕ) (e : Entry) → flat_map (accepted_seen p) (sight r at (stamped stamp more e))
      ≡ only (passes part.accepted r at (stamped stamp more e)) (map mark (decision_told p e))
  accepted_at p (Decided paper decision) =
      told_where r at stamp more (accepted_seen p) part.accepted (Decided paper decision)
      (map mark (decision_told p (Decided paper decision)))
      (paper_value (eqb paper p) _ true
      ∙ ap (only (passes part.accepted r at (stamped stamp more (Decided paper decision)))) (marked (eqb paper p)))
    where
      marked : (b : Bool) → given b true ≡ map mark (given b decision)
      marked true = refl
      marked false = refl
  accepted_at p e = silent r at stamp more (accepted_seen p) e refl

decision_tells : (r : Reader) (p : ℕ) → Tells r (decision_seen p) (λ (e : Stamped). decision_told p e.entry)
    (passes part.decision r)
decision_tells r p at e = decision_at r at e.stamp e.more p e.entry

accepted_tells : (r : Reader) (p : ℕ) → Tells r (accepted_seen p) (λ (e : Stamped). map mark (decision_told p e.entry))
    (passes part.accepted r)
accepted_tells r p at e = accepted_at r at e.stamp e.more p e.entry

-- a decision on the paper is kept, where each that stands there passes; and isn't, where none does
module _ (passing : Stamped → Bool) (p : ℕ) where
  kept_decision : ((stamp : Stamp) (more : Bool) (decision : Decision)
      → passing (stamped stamp more (Decided p decision)) ≡ true) → (e : Stamped)
      → only (passing e) (decision_told p e.entry) ≡ decision_told p e.entry
  kept_decision shown e = by e.stamp e.more e.entry
    where
      by : (stamp : Stamp) (more : Bool) (e : Entry)
          → only (passing (stamped stamp more e)) (decision_told p e) ≡ decision_told p e
      by stamp more (Decided paper decision) =
          of_paper (λ n. passing (stamped stamp more (Decided n decision))) paper p decision (shown stamp more decision)
      by stamp more e = refl

  no_decision : ((stamp : Stamp) (more : Bool) (decision : Decision) → passing (stamped stamp more (Decided p decision))
      ≡ false) → (e : Stamped)
      → only (passing e) (decision_told p e.entry) ≡ []
  no_decision hidden e = by e.stamp e.more e.entry
    where
      none : (c same : Bool) (x : Decision) → (same ≡ true → c ≡ false) → only c (given same x) ≡ []
      none c true x h = ap (λ b. only b (x ∷ [])) (h refl)
      none c false x h = refl

      by : (stamp : Stamp) (more : Bool) (e : Entry) → only (passing (stamped stamp more e)) (decision_told p e) ≡ []
      by stamp more (Decided paper decision) =
          none _ (eqb paper p) decision
          (λ same. ap (λ n. passing (stamped stamp more (Decided n decision))) (eqb-true paper p same)
          ∙ hidden stamp more decision)
      by stamp more e = refl

-- ---- accepted papers

-- where the paper is accepted there is a decision on it
is_decided : (p : ℕ) (H : History) → is_accepted p H ≡ true → is_some (decision_of p H) ≡ true
is_decided p H accepted =
    let parts = and_parts (is_accept (decision_of p H) && not (is_withdrawn p H)) (papers_may_be_accepted (phase_of H))
    accepted in
    by (decision_of p H) (and_parts (is_accept (decision_of p H)) (not (is_withdrawn p H)) parts.0).0
  where
    by : (o : Option Decision) → is_accept o ≡ true → is_some o ≡ true
    by None h = h
    by (Some decision) h = refl

-- the mark is there exactly where one of the decisions that are kept has it
marks-kept : (xs : List Decision) → last_or false (map mark xs) ≡ is_some (last xs)
marks-kept xs = ap (λ (o : Option Bool). unwrap_or o false) (last_from-map mark None xs) ∙ by (last xs)
  where
    by : (o : Option Decision) → unwrap_or (option_map mark o) false ≡ is_some o
    by None = refl
    by (Some decision) = refl

-- the mark stands on the last decision
marked_last : (n accepted : Bool) → n ≡ true → accepted ≡ true → ((n && accepted) || false) ≡ true
marked_last n accepted h1 h2 = grind arith

unmarked : (n accepted : Bool) → accepted ≡ false → ((n && accepted) || false) ≡ false
unmarked n accepted h = grind arith

-- a view tells exactly which papers are accepted
pub accepted-seen : (u : Option ℕ) (p : ℕ) (H : History) → is_accepted_in_view p (view u H) ≡ is_accepted p H
accepted-seen u p H =
    ap (last_or false) (sights-kept r (accepted_seen p) (λ (e : Stamped). map mark (decision_told p e.entry)) passing
    (accepted_tells r p) [] H
    ∙ kept-map mark passing told [] H)
    ∙ marks-kept (kept passing told [] H)
    ∙ by (is_accepted p H) refl
  where
    r : Reader
    r = reader u H

    passing : Around → Stamped → Bool
    passing = passes part.accepted r

    told : Stamped → List Decision
    told e = decision_told p e.entry

    by : (b : Bool) → is_accepted p H ≡ b → is_some (last (kept passing told [] H)) ≡ b
    by true is =
        ap is_some (last_from-kept passing told
        (λ at e last.
        kept_decision (passing at) p (λ stamp more decision. marked_last (none_in (decision_told p) at.after)
        (is_accepted p H) last is) e)
        None [] H)
        ∙ is_decided p H is
    by false is =
        ap (λ (xs : List Decision). is_some (last xs))
        (kept-none passing told
        (λ at e. no_decision (passing at) p (λ stamp more decision. unmarked (none_in (decision_told p) at.after)
        (is_accepted p H) is) e) [] H)

-- ---- decisions

-- who discusses the paper sees each decision on it, and its authors the last one from the notification on; `own` is
-- the maker's own row
decision_shown : (d n a f own : Bool) → n ≡ true → (d || (a && f) || false) ≡ true
    → (d || ((n && a && f) || (own || false))) ≡ true
decision_shown d n a f own last told = grind arith

-- so a view tells the last decision on a paper that isn't accepted to whoever the page tells it
pub decision-seen : (u : Option ℕ) (p : ℕ) (H : History) → gets_decision (standing_of u (Some p) H) false ≡ true
    → decision_in_view p (view u H) ≡ decision_of p H
decision-seen u p H told =
    let r : Reader = reader u H in
    fold_last r (decision_seen p) (λ (e : Stamped). decision_told p e.entry) (passes part.decision r)
    (decision_tells r p)
    (λ at e last.
    kept_decision (passes part.decision r at) p
    (λ stamp more decision.
    decision_shown (reads_decisions r p) (none_in (decision_told p) at.after) (is_author u p H)
    (authors_read_decisions (phase_of H)) (user_named r stamp.maker)
    last told) e) [] H
