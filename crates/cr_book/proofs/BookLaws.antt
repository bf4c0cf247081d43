-- SPDX-License-Identifier: Apache-2.0 OR MIT
-- What stays true of a book when its history grows.
use Rattle.std.proofs.Common.{ℕ, ◌≡◌, ◌≢◌, Bool, true, false, List, ◌++◌, refl, sym, ap, subst, ◌∙◌, length, Option}
use Rattle.std.proofs.Common.{Some, None, Result, Ok, IfSome, IsSome, IsOk, Err}
use Rattle.cr_base.specs.declared.command.Call.{Call}
use Rattle.cr_base.specs.declared.bulk.Broken.{Broken}
use Rattle.cr_base.specs.declared.reply.Receipt.{Receipt}
use Rattle.cr_base.specs.declared.reply.Receipt.TheVariants as receipts
use Rattle.cr_base.specs.declared.reply.Rule.{Rule}
use Rattle.cr_base.specs.declared.row.Row.{Row}
use Rattle.cr_base.specs.History.{History}
use Rattle.cr_base.specs.Accounts.{number_at, caller_at}
use Rattle.cr_base.specs.HistoryFacts.{number_of, caller_of}
use Rattle.cr_base.specs.declared.command.Query.{Query}
use Rattle.cr_base.specs.declared.command.Query.TheVariants as queries
use Rattle.cr_base.specs.declared.report.Report.{Report}
use Rattle.cr_base.specs.declared.search.Node.{Node}
use Rattle.cr_base.specs.Bulk.{bulk_by_role, bulk_drawn, entries_of}
use Rattle.cr_base.specs.Answering.{answer_by_role, login_wanted}
use Rattle.cr_base.specs.Calls.{BulkCall}
use Rattle.cr_base.specs.Drawn.{Drawn, grouped}
use Rattle.cr_base.specs.Judging.{judge_by_role}
use Rattle.cr_base.specs.Retries.{Judged}
use Rattle.cr_base.specs.Rows.{rows_of}
use Rattle.cr_base.specs.Sources.{facts_of_tables}
use Rattle.cr_base.specs.Tables.{Tables, tables_of, tables_from}
use Rattle.cr_policy.specs.Judge.{judge, judge_bulk, answer, needs_login}
use Rattle.cr_policy.specs.View.{view}
use Rattle.cr_policy.specs.Legal.{IsBulkAllowed, Legal, MayAsk}
use Rattle.cr_policy.proofs.LegalLaws.{given-bounded, Legal-judge, Legal-judge_bulk, Legal-answer, Legal-needs_login}
use Rattle.cr_policy.proofs.LegalLaws.{Legal-number_of, Legal-caller_of}
use Rattle.cr_history.specs.Invariants.{IsRegistered}
use Rattle.cr_history.proofs.TableAgreement.{tables_of-append, rows_of-append}
use Rattle.cr_ports.specs.Keeping.{and_rows}
use Rattle.cr_view.specs.Callers.{HasAsker}
use Rattle.cr_view.specs.Replies.{IsNoRefusal}
use Rattle.cr_book.specs.Sound.{Acts, IsSound}

-- it is no search, no report and no plan, which have crates of their own
pub record IsOther (query : Query) : Type 0 where
  pub search : (search : List Node) (only_count : Bool) → query ≢ queries.Search search only_count
  pub report : (report : Report) → query ≢ queries.Report report
  pub plan : (per_paper load : ℕ) → query ≢ queries.Plan per_paper load

-- whoever may ask what only a user is told is there
pub asker-there : (h : History) (caller : Option ℕ) (query : Query) → IsOther query
    → MayAsk h (needs_login (view None h) query) caller → HasAsker caller query
asker-there h caller queries.Accounts other may = tt
asker-there h caller queries.Phase other may = tt
asker-there h caller queries.Deadlines other may = tt
asker-there h caller queries.AcceptedPapers other may = tt
asker-there h caller (queries.Page paper) other may = tt
asker-there h caller (queries.Content paper) other may = tt
asker-there h caller (queries.Version paper version) other may = tt
asker-there h caller (queries.Reviews paper) other may = tt
asker-there h caller (queries.Comments paper) other may = tt
asker-there h caller (queries.Response paper) other may = tt
asker-there h None queries.Me other may = cc
asker-there h (Some u) queries.Me other may = refl
asker-there h caller (queries.Search search only_count) other may = absurd (other.search search only_count refl)
asker-there h caller (queries.Report report) other may = absurd (other.report report refl)
asker-there h caller (queries.Plan per_paper load) other may = absurd (other.plan per_paper load refl)

-- whoever may search has registered
pub searcher-there : (h : History) (caller : Option ℕ) (search : List Node) (only_count : Bool)
    → MayAsk h (needs_login (view None h) (queries.Search search only_count)) caller → IsSome caller
searcher-there h None search only_count may = cc
searcher-there h (Some u) search only_count may = refl

-- and so has whoever may have a report
pub reporter-there : (h : History) (caller : Option ℕ) (report : Report)
    → MayAsk h (needs_login (view None h) (queries.Report report)) caller → IsSome caller
reporter-there h None report may = cc
reporter-there h (Some u) report may = refl

-- what a search is told is no refusal
pub searched-no_refusal : (t : Tables) (caller : Option ℕ) (search : List Node) (only_count : Bool)
    → IsNoRefusal (answer_by_role t caller (queries.Search search only_count))
searched-no_refusal t caller search true = λ rule e. absurd (cc)
searched-no_refusal t caller search false = λ rule e. absurd (cc)

-- ---- one judgement, by the tables and by the view

-- what the tables judge is Judge's on the caller's view
pub judged-by_view : {K : Type 0} (rows : K → Option (List Row)) (h log : History) (t : Tables) (keeper : K)
    (call : Call) (judgement : Result Drawn Rule)
    → h ≡ log → IsSound rows h t keeper → judgement ≡ judge_by_role t call
    → judge (view call.caller log) call ≡ judgement
judged-by_view rows h log t keeper call judgement same sound is =
    sym (ap (λ (x : History). judge (view call.caller x) call) same)
    ∙ Legal-judge h call sound.legal
    ∙ ap (λ (x : Tables). judge_by_role x call) (sym sound.same)
    ∙ sym is

-- and so it is of a bulk that is allowed
pub bulk-by_view : {K : Type 0} (rows : K → Option (List Row)) (h log : History) (t : Tables) (keeper : K)
    (bulk : BulkCall) (judgement : Result Drawn Broken)
    → h ≡ log → IsSound rows h t keeper → IsBulkAllowed log bulk → bulk_by_role t bulk ≡ judgement
    → judge_bulk (view (Some bulk.stamp.maker) log) bulk ≡ judgement
bulk-by_view rows h log t keeper bulk judgement same sound allowed is =
    sym (ap (λ (x : History). judge_bulk (view (Some bulk.stamp.maker) x) bulk) same)
    ∙ Legal-judge_bulk h bulk sound.legal (subst (λ (x : History). IsRegistered x bulk.stamp.maker) (sym same)
    allowed.given.caller) (given-bounded log bulk allowed.given)
    ∙ ap (λ (x : Tables). bulk_by_role x bulk) (sym sound.same)
    ∙ is

-- what it adds
pub bulk-drawn : {K : Type 0} (rows : K → Option (List Row)) (h log : History) (t : Tables) (keeper : K)
    (bulk : BulkCall) (group : History)
    → h ≡ log → IsSound rows h t keeper → IsBulkAllowed log bulk → group ≡ grouped bulk.stamp (entries_of group)
    → bulk_by_role t bulk ≡ Ok (bulk_drawn bulk.stamp (length group) (entries_of group))
    → judge_bulk (view (Some bulk.stamp.maker) log) bulk
    ≡ Ok (record { group = group; receipt = receipts.Rows (length group) })
bulk-drawn rows h log t keeper bulk group same sound allowed grouped is =
    bulk-by_view rows h log t keeper bulk _ same sound allowed is
    ∙ ap (λ (g : History). let drawn : Drawn = record { group = g; receipt = receipts.Rows (length group) } in Ok drawn)
    (sym grouped)

-- where something is drawn, no error is told
pub drawn-ok : {D E : Type 0} (judged : Result D E) (drawn : D) → judged ≡ Ok drawn → IsOk judged
drawn-ok judged drawn is = subst (λ (r : Result _ _). IsOk r) (sym is) refl

pub drawn-no_error : {D E : Type 0} (judged : Result D E) (drawn : D) (error : E) → judged ≡ Ok drawn
    → judged ≡ Err error → ⊥
drawn-no_error {D} {E} judged drawn error is told = let e : ◌≡◌ {A = Result D E} (Ok drawn) (Err error) =
    sym is ∙ told in cc (e)

-- ---- an accepted command

-- what is drawn acts
pub acts-judged : {E : Type 0} (old new : History) (receipt : Receipt) (judgement : Result Drawn E) (drawn : Drawn)
    → judgement ≡ Ok drawn → receipt ≡ drawn.receipt
    → new ≡ old ++ drawn.group → Acts (Judged judgement) old new receipt
acts-judged {E} old new receipt judgement drawn accepted told added =
    subst (λ (r : Result Drawn E). Acts (Judged r) old new receipt) (sym accepted) (told, added)

kept-append : (told now : Option (List Row)) (h group : History) → IfSome told (λ t. t ≡ rows_of h)
    → now ≡ and_rows told (rows_of group) → IfSome now (λ t. t ≡ rows_of (h ++ group))
kept-append None now h group was is =
    subst (λ (o : Option (List Row)). IfSome o (λ t. t ≡ rows_of (h ++ group))) (sym is) tt
kept-append (Some t) now h group was is = subst (λ (o : Option (List Row)). IfSome o (λ t. t ≡ rows_of (h ++ group)))
    (sym is) (ap (λ x. x ++ rows_of group) was ∙ sym (rows_of-append h group))

-- the book stays sound when a group that goes on its history is kept and applied
pub sound-step : {K : Type 0} (rows : K → Option (List Row)) (h items group : History) (t now : Tables)
    (keeper kept : K)
    → IsSound rows h t keeper → Legal (h ++ group) → items ≡ h ++ group → now ≡ tables_from t group
    → rows kept ≡ and_rows (rows keeper) (rows_of group)
    → IsSound rows items now kept
sound-step rows h items group t now keeper kept was legal is_items is_now is_kept = record {
  legal = subst (λ (x : History). Legal x) (sym is_items) legal;
  same = is_now ∙ ap (λ (x : Tables). tables_from x group) was.same ∙ sym (tables_of-append h group)
      ∙ ap tables_of (sym is_items);
  kept = subst (λ (x : History). IfSome (rows kept) (λ told. told ≡ rows_of x)) (sym is_items)
      (kept-append (rows keeper) (rows kept) h group was.kept is_kept);
}

-- ---- what is asked

pub answered-by_view : {K : Type 0} (rows : K → Option (List Row)) (h : History) (t : Tables) (keeper : K)
    (caller : Option ℕ) (query : Query)
    → IsSound rows h t keeper → answer_by_role t caller query ≡ answer caller (view caller h) query
answered-by_view rows h t keeper caller query sound =
    ap (λ (x : Tables). answer_by_role x caller query) sound.same ∙ sym (Legal-answer caller h query sound.legal)

-- whether a login is wanted, by the tables, is what nobody's view tells
pub login-by_view : {K : Type 0} (rows : K → Option (List Row)) (h : History) (t : Tables) (keeper : K) (query : Query)
    → IsSound rows h t keeper → login_wanted (facts_of_tables t None) query ≡ needs_login (view None h) query
login-by_view rows h t keeper query sound =
    ap (λ (x : Tables). login_wanted (facts_of_tables x None) query) sound.same
    ∙ sym (Legal-needs_login h query sound.legal)

pub number-by_view : {K : Type 0} (rows : K → Option (List Row)) (h : History) (t : Tables) (keeper : K) (name : List ℕ)
    → IsSound rows h t keeper → number_at t.accounts name ≡ number_of name h
number-by_view rows h t keeper name sound =
    ap (λ (x : Tables). number_at x.accounts name) sound.same ∙ sym (Legal-number_of name h sound.legal)

pub caller-by_view : {K : Type 0} (rows : K → Option (List Row)) (h : History) (t : Tables) (keeper : K)
    (name digest : List ℕ)
    → IsSound rows h t keeper → caller_at t.accounts name digest ≡ caller_of name digest h
caller-by_view rows h t keeper name digest sound =
    ap (λ (x : Tables). caller_at x.accounts name digest) sound.same ∙ sym (Legal-caller_of name digest h sound.legal)
