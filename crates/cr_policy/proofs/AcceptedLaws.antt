-- SPDX-License-Identifier: Apache-2.0 OR MIT
-- What an accepted command adds: by the rules and the bounds, and as the tables take it.
use Rattle.std.proofs.Common.{ℕ, Bool, true, false, ◌≡◌, List, [], ◌∷◌, ◌++◌, ◌||◌, ◌&&◌, eqb, refl, sym, ap, ◌∙◌}
use Rattle.std.proofs.Common.{arith, Option, Some, None, Ok}
use Rattle.std.specs.Prelude.{map}
use Rattle.std.specs.List.{list_any}
use Rattle.std.proofs.lemmas.Bool.{and_parts, eqb-true}
use Rattle.std.proofs.lemmas.Map.Views.{any-filter_same}
use Rattle.cr_base.specs.declared.command.Call.{Call}
use Rattle.cr_base.specs.declared.command.Command.{Command}
use Rattle.cr_base.specs.declared.command.Command.TheVariants.{Register, Tag}
use Rattle.cr_base.specs.declared.entry.Stamped.{Stamped}
use Rattle.cr_base.specs.declared.reply.AccountLine.{AccountLine}
use Rattle.cr_base.specs.declared.retry.RetryKey.{RetryKey}
use Rattle.cr_base.specs.Accounts.{lines_of}
use Rattle.cr_base.specs.Bounds.{IsBoundedCommand}
use Rattle.cr_base.specs.declared.entry.Stamp.{Stamp}
use Rattle.cr_base.specs.Drawn.{Drawn}
use Rattle.cr_base.specs.History.{History}
use Rattle.cr_base.specs.HistoryFacts.{accounts_of, is_author, standing_of, is_accepted}
use Rattle.cr_base.specs.Lists.{is_number}
use Rattle.cr_base.specs.Page.{is_clear_chair}
use Rattle.cr_base.specs.Calls.{stamp_by, maker_of, stamp_of, call_of, call_by}
use Rattle.cr_base.specs.Keys.{IsKeyOrNone}
use Rattle.cr_base.specs.Judging.{judge_by, judge_by_role}
use Rattle.cr_base.specs.Resolving.{resolve}
use Rattle.cr_base.specs.Sources.{Facts, Shown}
use Rattle.cr_base.specs.Tables.{Tables, tables_of, FitInTurn}
use Rattle.cr_base.proofs.FitLaws.{resolved-fits}
use Rattle.cr_base.proofs.Small.{eqb-swap}
use Rattle.cr_history.specs.Groups.{IsBoundedStamp, Adds}
use Rattle.cr_history.specs.Laws.{AreTold, AreFormsTold}
use Rattle.cr_history.specs.Invariants.{IsRegistered, Invariants, InTurn, IsInOrder, ComesFirst}
use Rattle.cr_history.proofs.GrowthLaws.{tables_tell}
use Rattle.cr_history.proofs.RuleFacts.{facts_of, is_told_all, TellsSeats}
use Rattle.cr_history.proofs.RuleLaws.{registration-adds, command-adds}
use Rattle.cr_history.proofs.SizeAgreement.{sized-tables}
use Rattle.cr_policy.specs.Judge.{judge}
use Rattle.cr_policy.specs.Legal.{IsKeyOf, IsGiven, IsCaller, IsUser}
use Rattle.cr_policy.specs.View.{View, view}
use Rattle.cr_policy.specs.ViewFacts.{accounts_in_view, is_conflict_on_in_view, users_where, facts_in_view}
use Rattle.cr_policy.specs.ViewFacts.{shown_in_view}
use Rattle.cr_policy.proofs.BidAgreement.{users-registered}
use Rattle.cr_policy.proofs.DecisionTells.{accepted-seen}
use Rattle.cr_policy.proofs.JudgeAgreement.{judge-tables}
use Rattle.cr_policy.proofs.PageTells.{authors-seen, conflicts-seen}
use Rattle.cr_policy.proofs.ReviewerTells.{invited-seen_by_chair, seat-seen_by_chair, labels-seen}
use Rattle.cr_policy.proofs.ReviewTells.{own_forms-seen, written-seen}
use Rattle.cr_policy.proofs.StandingLaws.{standing_from_view, deadline-seen, had_response-seen, accounts-seen}
use Rattle.cr_policy.proofs.StandingLaws.{papers-seen, own_papers-seen, own_bytes-seen, own_bid-seen, seat-seen}
use Rattle.cr_policy.proofs.StandingLaws.{own_comments-seen}

-- ---- what a history that keeps the invariants tells

-- a paper's co-authors come before any conflict with it, where each entry is in order
comes-first : (before H : History) → InTurn IsInOrder before H
    → InTurn (λ (before : History) (e : Stamped). ComesFirst before e.entry) before H
comes-first before [] kept = tt
comes-first before (e ∷ after) kept = (kept.0.first, comes-first (before ++ e ∷ []) after kept.1)

-- so the tables tell what it tells
pub Kept-told : (H : History) → Invariants H → AreTold H
Kept-told H kept = tables_tell H kept.fits (comes-first [] H kept.in_order)

-- ---- what any user's view tells

-- any user's view tells the facts of a history
facts-seen : (u : Option ℕ) (H : History) → facts_in_view u (view u H) ≡ facts_of u H
facts-seen u H = λ i. record {
  standing = λ paper. standing_from_view u paper H i;
  accounts = accounts-seen u H i;
  papers = papers-seen u H i;
  own_papers = own_papers-seen u H i;
  own_bytes = own_bytes-seen u H i;
  own_bid = λ p. own_bid-seen u p H i;
  own_ordinal = λ p. seat-seen u p H i;
  own_forms = λ p. own_forms-seen u p H i;
  own_comments = own_comments-seen u H i;
  accepted = λ p. accepted-seen u p H i;
  deadline = λ phase. deadline-seen u phase H i;
  had_response = had_response-seen u H i;
}

-- and to a clear chair, from the bidding on, who is in conflict with a paper, who reviews it, how many labels were
-- given, and under which there is a form
module _ (user : ℕ) (H : History) where
  abbrev V : View
  V = view (Some user) H

  -- of the users who have registered, those of whom something holds
  users_where-seen : (v : ℕ) (test : ℕ → Bool) → IsRegistered H v
      → list_any (is_number (Some v)) (users_where test V) ≡ test v
  users_where-seen v test registered =
      let users : List ℕ = map (λ (a : AccountLine). a.user) (accounts_in_view V) in
      any-filter_same (eqb v) test (test v) (λ k is. ap test (sym (eqb-true v k is))) users
      ∙ ap (λ b. test v && b) there
      ∙ always (test v)
    where
      there : list_any (eqb v) (map (λ (a : AccountLine). a.user) (accounts_in_view V)) ≡ true
      there =
          ap (λ (lines : List AccountLine). list_any (eqb v) (map (λ (a : AccountLine). a.user) lines))
          (accounts-seen (Some user) H)
          ∙ ap (λ (test : ℕ → Bool). list_any test (map (λ (a : AccountLine). a.user) (accounts_of H)))
          (λ i n. eqb-swap v n i)
          ∙ users-registered H v
          ∙ registered

      always : (b : Bool) → (b && true) ≡ b
      always true = refl
      always false = refl

  seats-told : TellsSeats H user (shown_in_view (Some user) V)
  seats-told = record {
    conflicted = λ p v registered told.
        let declared : Bool =
        list_any (is_number (Some v)) (users_where (λ w. is_conflict_on_in_view (Some w) p V) V) in
        ap (λ (authors : List ℕ). list_any (is_number (Some v)) authors || declared)
        (authors-seen (Some user) p H (shown (is_author (Some user) p H) (is_told_all H user p) _ (is_accepted p H)
        told))
        ∙ ap (λ b. is_author (Some v) p H || b)
        (users_where-seen v (λ w. is_conflict_on_in_view (Some w) p V) registered
        ∙ conflicts-seen (Some user) p H told (Some v));
    ordinal = λ p v told. seat-seen_by_chair (Some user) (Some v) p H told;
    labels = λ p told. labels-seen (Some user) p H told;
    written = λ p o told. written-seen (Some user) p o H
        (and_parts (is_clear_chair (standing_of (Some user) (Some p) H)) _ told).0;
    invited = λ p v told. invited-seen_by_chair (Some user) (Some v) p H told;
  }
    where
      shown : (author chair member accepted : Bool) → chair ≡ true → (author || chair || member || accepted) ≡ true
      shown author chair member accepted h = grind arith

-- a registered user's command
user-adds : (H : History) (stamp : Stamp) (command : Command) (drawn : Drawn) → IsBoundedCommand command
    → IsBoundedStamp stamp → IsRegistered H stamp.maker
    → judge (view (Some stamp.maker) H) (call_by stamp command) ≡ Ok drawn → Adds H drawn.group
user-adds H stamp command drawn bounded bounds registered accepted =
    let user : ℕ = stamp.maker in
    let shown : Shown = shown_in_view (Some user) (view (Some user) H) in
    command-adds H stamp shown bounds registered (seats-told user H) command drawn bounded
    (sym (ap (λ (facts : Facts). judge_by facts shown stamp command) (facts-seen (Some user) H)) ∙ accepted)

-- a tag is turned on, and off, by a registered user
tags-user : (H : History) (caller paper : Option ℕ) (tag : List ℕ) (on : Bool) → IsCaller H caller (Tag paper tag on)
    → IsUser H caller
tags-user H caller paper tag true is = is
tags-user H caller paper tag false is = is

-- a key that a caller may give is within its bounds
key-bounded : (caller : Option ℕ) (key : Option RetryKey) → IsKeyOf caller key → IsKeyOrNone key
key-bounded caller None is = tt
key-bounded None (Some key) is = absurd is
key-bounded (Some user) (Some key) is = is

-- and one within its bounds a user may give
pub key-given : (user : ℕ) (key : Option RetryKey) → IsKeyOrNone key → IsKeyOf (Some user) key
key-given user None is = tt
key-given user (Some key) is = is

-- the group of an accepted command is one that the rules allow
pub accepted-adds : (H : History) (call : Call) (drawn : Drawn) → IsGiven H call
    → judge (view call.caller H) call ≡ Ok drawn → Adds H drawn.group
accepted-adds H call drawn given = by call.caller call.command given.bounded given.caller
  where
    bounds : (maker : ℕ) → IsBoundedStamp (stamp_by maker call.at call.key)
    bounds maker = record { moment = given.moment; key = key-bounded call.caller call.key given.key }

    by : (caller : Option ℕ) (command : Command) → IsBoundedCommand command → IsCaller H caller command
        → judge (view caller H) (call_of caller call.at call.key command) ≡ Ok drawn → Adds H drawn.group
    by caller (Register name digest) bounded is accepted =
        registration-adds H (stamp_of (call_of caller call.at call.key (Register name digest)))
        (facts_in_view caller (view caller H))
        (shown_in_view caller (view caller H)) name digest drawn (bounds (maker_of caller)) bounded accepted
    by None (Tag paper tag on) bounded is accepted = absurd (tags-user H None paper tag on is)
    by None command bounded is accepted = absurd is
    by (Some user) (Tag paper tag on) bounded is accepted =
        user-adds H (stamp_by user call.at call.key) (Tag paper tag on) drawn bounded (bounds user)
        (tags-user H (Some user) paper tag on is) accepted
    by (Some user) command bounded is accepted =
        user-adds H (stamp_by user call.at call.key) command drawn bounded (bounds user) is accepted

-- and the tables take it. Nobody's is a registration, which doesn't ask who gives it
pub accepted-fits : (H : History) (call : Call) (drawn : Drawn) → Invariants H → AreTold H → AreFormsTold H
    → IsCaller H call.caller call.command → judge (view call.caller H) call ≡ Ok drawn
    → FitInTurn (tables_of H) drawn.group
accepted-fits H call drawn kept told forms is accepted =
    by call.caller call.command is (sym (judge-tables H call kept told forms) ∙ accepted)
  where
    t : Tables
    t = tables_of H

    by : (caller : Option ℕ) (command : Command) → IsCaller H caller command
        → judge_by_role t (call_of caller call.at call.key command) ≡ Ok drawn → FitInTurn t drawn.group
    by (Some user) command is accepted =
        resolved-fits t (sized-tables H kept.fits).ties (stamp_by user call.at call.key)
        (resolve (lines_of t.accounts) command) drawn accepted
    by None (Register name digest) is accepted =
        resolved-fits t (sized-tables H kept.fits).ties (stamp_by 0 call.at call.key)
        (resolve (lines_of t.accounts) (Register name digest)) drawn accepted
    by None (Tag paper tag on) is accepted = absurd (tags-user H None paper tag on is)
    by None command is accepted = absurd is
