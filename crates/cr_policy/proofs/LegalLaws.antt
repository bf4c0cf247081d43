-- SPDX-License-Identifier: Apache-2.0 OR MIT
-- Histories that grow by allowed calls and bulks.
use Rattle.std.proofs.Common.{ℕ, ◌≡◌, List, [], ◌∷◌, ◌++◌, refl, sym, ap, subst, Option, Some, None, Result, Ok, Err}
use Rattle.cr_base.specs.declared.bulk.Broken.{Broken}
use Rattle.cr_base.specs.declared.command.Call.{Call}
use Rattle.cr_base.specs.declared.command.Query.{Query}
use Rattle.cr_base.specs.declared.reply.Rule.{Rule}
use Rattle.cr_base.specs.Accounts.{number_at, caller_at}
use Rattle.cr_base.specs.HistoryFacts.{number_of, caller_of}
use Rattle.cr_base.specs.History.{History}
use Rattle.cr_base.specs.Answering.{answer_by_role, login_wanted}
use Rattle.cr_base.specs.Calls.{BulkCall}
use Rattle.cr_base.specs.Drawn.{Drawn, grouped}
use Rattle.cr_base.specs.Bulk.{bulk_by_role}
use Rattle.cr_base.specs.Judging.{judge_by_role}
use Rattle.cr_base.specs.Sources.{Facts, facts_of_tables}
use Rattle.cr_base.specs.Tables.{no_tables, tables_of, FitInTurn}
use Rattle.cr_history.specs.Groups.{IsBoundedStamp, Adds, adds}
use Rattle.cr_history.specs.Invariants.{IsRegistered, Invariants, IsWhole, DeclaresInTime}
use Rattle.cr_history.specs.Laws.{AreTold}
use Rattle.cr_history.proofs.CallerLaws.{caller-registered}
use Rattle.cr_history.proofs.FormAgreement.{forms_tell}
use Rattle.cr_history.proofs.Grouped.{grouped-whole}
use Rattle.cr_history.proofs.GrowthLaws.{growth_keeps}
use Rattle.cr_history.proofs.InOrder.{whole-append}
use Rattle.cr_history.proofs.TableAgreement.{FitInTurn-behind}
use Rattle.cr_policy.specs.View.{view}
use Rattle.cr_policy.specs.Judge.{judge, judge_bulk, answer, needs_login}
use Rattle.cr_policy.specs.Legal.{IsUser, IsGiven, IsAllowed, followed_by, step, IsBulkGiven, IsBulkAllowed, Move}
use Rattle.cr_policy.specs.Legal.{calls, bulks, IsMoveAllowed, moved, LeadsTo, Legal}
use Rattle.cr_policy.specs.Laws.{DeclaredFromView, IsKept, LegalKeeps, DigestsAreOwn}
use Rattle.cr_policy.specs.Triggers.{reader}
use Rattle.cr_policy.proofs.AcceptedLaws.{Kept-told, accepted-adds, accepted-fits}
use Rattle.cr_policy.proofs.BulkLaws.{bulk-same, bulk-draws, rows-keep}
use Rattle.cr_policy.proofs.DeclaredLaws.{declared-seen_by_author}
use Rattle.cr_policy.proofs.DigestLaws.{own_digests}
use Rattle.cr_policy.proofs.FactAgreement.{facts_in_view-tables}
use Rattle.cr_policy.proofs.JudgeAgreement.{judge-tables}
use Rattle.cr_policy.proofs.PageAgreement.{answer-tables}

-- ---- moves one after another

-- moves that lead on from where others led
pub LeadsTo-append : (from mid to : History) (moves more : List Move) → LeadsTo from moves mid → LeadsTo mid more to
    → LeadsTo from (moves ++ more) to
LeadsTo-append from mid to [] more first then = subst (λ (H : History). LeadsTo H more to) (sym first) then
LeadsTo-append from mid to (move ∷ moves) more first then =
    (first.0, LeadsTo-append (moved from move) mid to moves more first.1 then)

-- an allowed move leads from a legal history to a legal one
pub Legal-moved : (H : History) (move : Move) → Legal H → IsMoveAllowed H move → Legal (moved H move)
Legal-moved H move legal allowed =
    (legal.0 ++ move ∷ [], LeadsTo-append [] H (moved H move) legal.0 (move ∷ []) legal.1 (allowed, refl))

-- so does an allowed call
pub Legal-step : (H : History) (call : Call) → Legal H → IsAllowed H call → Legal (step H call)
Legal-step H call legal allowed = Legal-moved H (calls call) legal allowed

-- what is accepted goes behind the history
pub step-Ok : (H : History) (call : Call) (drawn : Drawn) → judge (view call.caller H) call ≡ Ok drawn
    → step H call ≡ H ++ drawn.group
step-Ok H call drawn accepted = ap (followed_by H) accepted

-- the group of an accepted command goes on a legal history
pub Legal-accepted : (H : History) (call : Call) (drawn : Drawn) → Legal H → IsAllowed H call
    → judge (view call.caller H) call ≡ Ok drawn → Legal (H ++ drawn.group)
Legal-accepted H call drawn legal allowed accepted =
    subst (λ (G : History). Legal G) (step-Ok H call drawn accepted) (Legal-step H call legal allowed)

-- and so does that of an accepted bulk
pub Legal-bulk_accepted : (H : History) (bulk : BulkCall) (drawn : Drawn) → Legal H → IsBulkAllowed H bulk
    → judge_bulk (view (Some bulk.stamp.maker) H) bulk ≡ Ok drawn → Legal (H ++ drawn.group)
Legal-bulk_accepted H bulk drawn legal allowed accepted =
    subst (λ (G : History). Legal G) (ap (followed_by H) accepted) (Legal-moved H (bulks bulk) legal allowed)

-- ---- what a legal history keeps

-- a history that a command follows keeps them
call-keeps : (H : History) (call : Call) → IsKept H → IsGiven H call → (r : Result Drawn Rule)
    → judge (view call.caller H) call ≡ r → IsKept (followed_by H r)
call-keeps H call kept given (Err rule) is = kept
call-keeps H call kept given (Ok drawn) is =
    let invariants : Invariants H = kept.invariants in
    let added : Adds H drawn.group = accepted-adds H call drawn given is in
    let fits =
    accepted-fits H call drawn invariants (Kept-told H invariants) (forms_tell H invariants) given.caller is in
    record {
      invariants = growth_keeps.more H drawn.group invariants (adds drawn.group added) fits;
      whole = growth_keeps.whole H drawn.group kept.whole added;
    }

-- and so does one that a bulk follows
bulk-drawn_keeps : (H : History) (bulk : BulkCall) (drawn : Drawn) → IsKept H → IsRegistered H bulk.stamp.maker
    → IsBoundedStamp bulk.stamp
    → judge_bulk (view (Some bulk.stamp.maker) H) bulk ≡ Ok drawn → IsKept (H ++ drawn.group)
bulk-drawn_keeps H bulk drawn kept registered bounds accepted =
    let draws = bulk-draws bulk.stamp H bulk.rows drawn accepted in
    let group : History = grouped bulk.stamp draws.entries in
    subst (λ (d : Drawn). IsKept (H ++ d.group)) draws.drawn_is (record {
      invariants = rows-keep bulk.stamp bulk.rows 1 H draws.entries
          (record { kept = kept.invariants; registered = registered; bounds = bounds }) draws.accepted;
      whole = whole-append H group kept.whole (grouped-whole bulk.stamp draws.entries);
    })

-- the stamp of a bulk that may be given is within its bounds
pub given-bounded : (H : History) (bulk : BulkCall) → IsBulkGiven H bulk → IsBoundedStamp bulk.stamp
given-bounded H bulk given = record { moment = given.moment; key = given.key }

bulk-keeps : (H : History) (bulk : BulkCall) → IsKept H → IsBulkGiven H bulk → (r : Result Drawn Broken)
    → judge_bulk (view (Some bulk.stamp.maker) H) bulk ≡ r → IsKept (followed_by H r)
bulk-keeps H bulk kept given (Err refusal) is = kept
bulk-keeps H bulk kept given (Ok drawn) is =
    bulk-drawn_keeps H bulk drawn kept given.caller (given-bounded H bulk given) is

move-keeps : (H : History) (move : Move) → IsKept H → IsMoveAllowed H move → IsKept (moved H move)
move-keeps H (calls call) kept allowed = call-keeps H call kept allowed.given (judge (view call.caller H) call) refl
move-keeps H (bulks bulk) kept allowed =
    bulk-keeps H bulk kept allowed.given (judge_bulk (view (Some bulk.stamp.maker) H) bulk) refl

leads-keeps : (from to : History) (moves : List Move) → IsKept from → LeadsTo from moves to → IsKept to
leads-keeps from to [] kept leads = subst (λ (H : History). IsKept H) leads kept
leads-keeps from to (move ∷ moves) kept leads =
    leads-keeps (moved from move) to moves (move-keeps from move kept leads.0) leads.1

-- all that a legal history keeps
pub Legal-kept : LegalKeeps
Legal-kept H legal = leads-keeps [] H legal.0 (record { invariants = growth_keeps.first; whole = tt }) legal.1

pub legal_invariants : (H : History) → Legal H → Invariants H
legal_invariants H legal = (Legal-kept H legal).invariants

-- and no command's entries, nor a bulk's, are cut off in it
pub Legal-whole : (H : History) → Legal H → IsWhole H
Legal-whole H legal = (Legal-kept H legal).whole

-- each entry of a legal history fits in its turn
pub Legal-fits : (H : History) → Legal H → FitInTurn no_tables H
Legal-fits H legal = (legal_invariants H legal).fits

-- and its tables tell what it tells
pub Legal-told : (H : History) → Legal H → AreTold H
Legal-told H legal = Kept-told H (legal_invariants H legal)

-- before the bidding of a legal history authors alone declare conflicts, and from it on no author declares another user
pub Legal-in_time : (H : History) → Legal H → DeclaresInTime H
Legal-in_time H legal = (legal_invariants H legal).declared_in_time

-- a reader sees no digest but her own
pub digests-own : DigestsAreOwn
digests-own u H legal = own_digests (reader u H) [] H (legal_invariants H legal).in_order

-- ---- views and tables of a legal history

-- the users of names, and of names with digests, are those of the tables
pub Legal-number_of : (name : List ℕ) (H : History) → Legal H → number_of name H ≡ number_at (tables_of H).accounts name
Legal-number_of name H legal = (Legal-told H legal).number name

pub Legal-caller_of : (name digest : List ℕ) (H : History) → Legal H
    → caller_of name digest H ≡ caller_at (tables_of H).accounts name digest
Legal-caller_of name digest H legal = (Legal-told H legal).caller name digest

-- who calls has registered, whatever the history
pub Legal-caller_registered : (name digest : List ℕ) (H : History) (u : ℕ) → caller_of name digest H ≡ Some u
    → IsUser H (Some u)
Legal-caller_registered name digest H u is = caller-registered name digest H u is

-- judgement and answer by any user's view are those by the tables
pub Legal-judge : (H : History) (call : Call) → Legal H
    → judge (view call.caller H) call ≡ judge_by_role (tables_of H) call
Legal-judge H call legal = let kept =
    legal_invariants H legal in judge-tables H call kept (Kept-told H kept) (forms_tell H kept)

pub Legal-answer : (u : Option ℕ) (H : History) (query : Query) → Legal H
    → answer u (view u H) query ≡ answer_by_role (tables_of H) u query
Legal-answer u H query legal = let kept =
    legal_invariants H legal in answer-tables u H kept (Kept-told H kept) (forms_tell H kept) query

-- so it is of bulks
pub Legal-judge_bulk : (H : History) (bulk : BulkCall) → Legal H → IsRegistered H bulk.stamp.maker
    → IsBoundedStamp bulk.stamp
    → judge_bulk (view (Some bulk.stamp.maker) H) bulk ≡ bulk_by_role (tables_of H) bulk
Legal-judge_bulk H bulk legal registered bounds =
    bulk-same bulk.stamp H bulk.rows
    (record { kept = legal_invariants H legal; registered = registered; bounds = bounds })

-- and what an accepted bulk adds, the tables take
pub Legal-bulk_fits : (H : History) (bulk : BulkCall) (drawn : Drawn) → Legal H → IsRegistered H bulk.stamp.maker
    → IsBoundedStamp bulk.stamp
    → judge_bulk (view (Some bulk.stamp.maker) H) bulk ≡ Ok drawn → FitInTurn (tables_of H) drawn.group
Legal-bulk_fits H bulk drawn legal registered bounds accepted =
    FitInTurn-behind no_tables H drawn.group
    (bulk-drawn_keeps H bulk drawn (Legal-kept H legal) registered bounds accepted).invariants.fits

-- so is whether a query wants a login
pub Legal-needs_login : (H : History) (query : Query) → Legal H
    → needs_login (view None H) query ≡ login_wanted (facts_of_tables (tables_of H) None) query
Legal-needs_login H query legal =
    let kept = legal_invariants H legal in
    ap (λ (facts : Facts). login_wanted facts query)
    (facts_in_view-tables None H (Kept-told H kept) (forms_tell H kept))

-- an author's view tells whom the paper's authors declared
pub Legal-declared : DeclaredFromView
Legal-declared u p H legal author = declared-seen_by_author u p H (Legal-in_time H legal) author
