-- SPDX-License-Identifier: Apache-2.0 OR MIT
-- A legal history stays legal without others' numbers: no rule reads a number but for whether it is used, and who made
-- an entry alone sees its number.
use Rattle.std.proofs.Common.{ℕ, Bool, true, false, cond, ◌≡◌, ◌⊎◌, List, [], ◌∷◌, ◌++◌, refl, sym, ap}
use Rattle.std.proofs.Common.{subst, ◌∙◌, eqb, Option, Some, None, Result, Ok, Err, inl, inr, ◌&&◌}
use Rattle.std.specs.List.{AllByRecursion, list_any}
use Rattle.std.proofs.lemmas.Bool.{true≢false, eqb-true, eq-eqb}
use Rattle.std.proofs.lemmas.List.{map-append}
use Rattle.std.proofs.Math.Bool.{and-false}
use Rattle.cr_base.specs.declared.bulk.Broken.{Broken}
use Rattle.cr_base.specs.declared.command.Call.{Call}
use Rattle.cr_base.specs.declared.command.Command.{Command}
use Rattle.cr_base.specs.declared.entry.Entry.{Entry}
use Rattle.cr_base.specs.declared.entry.Stamped.{Stamped}
use Rattle.cr_base.specs.declared.reply.Rule.{Rule}
use Rattle.cr_base.specs.declared.retry.RetryKey.{RetryKey}
use Rattle.cr_base.specs.Bulk.{bulk_by_role}
use Rattle.cr_base.specs.Calls.{BulkCall, call_of}
use Rattle.cr_base.specs.Drawn.{Drawn, stamped}
use Rattle.cr_base.specs.History.{History, Registration, all_told, registration_told}
use Rattle.cr_base.specs.Judging.{judge_by_role}
use Rattle.cr_base.specs.Keys.{has_number, kept_under}
use Rattle.cr_base.specs.Lists.{is_number}
use Rattle.cr_base.specs.Logins.{command_wants_login}
use Rattle.cr_base.specs.Tables.{Tables, no_tables, tables_after, tables_from, tables_of}
use Rattle.cr_history.specs.Groups.{IsBoundedStamp}
use Rattle.cr_history.specs.Invariants.{IsRegistered}
use Rattle.cr_history.proofs.ListCuts.{AllByRecursion-map}
use Rattle.cr_permissions.proofs.KeptStamps.{all_kept, kept_drawn, kept_result, call-judged, bulk-judged}
use Rattle.cr_policy.specs.HiddenPayload.{PlaceByPlace, IsSameButStamp}
use Rattle.cr_policy.specs.Judge.{judge, judge_bulk}
use Rattle.cr_policy.specs.Legal.{unnumbered, CallsAs, IsNewKey, IsAllowed, IsBulkGiven}
use Rattle.cr_policy.specs.Legal.{IsBulkAllowed, Move, calls, bulks, IsMoveAllowed, moved, followed_by, LeadsTo, Legal}
use Rattle.cr_policy.specs.View.{view}
use Rattle.cr_policy.proofs.LegalLaws.{Legal-moved, Legal-accepted, Legal-bulk_accepted, Legal-judge, Legal-judge_bulk}
use Rattle.cr_policy.proofs.LegalLaws.{given-bounded}
use Rattle.cr_policy.proofs.StampLaws.{stamps_unseen}
use Rattle.cr_laws.specs.AnotherRun.{is_made_by}
use Rattle.cr_laws.specs.UndeducibleBytes.{unnumbered_entry, without_numbers}
use Rattle.cr_laws.proofs.MadeBy.{user-made, nobody-numbered, bulk-made}

-- one of the group, or nobody, who makes no entry under a number
abbrev pub IsOneOf : List (Option ℕ) → Option ℕ → Type 0
IsOneOf group None = Unit {0}
IsOneOf group (Some user) = list_any (λ v. is_number v user) group ≡ true

module _ (group : List (Option ℕ)) where
  abbrev plain : Stamped → Stamped
  plain e = unnumbered_entry group e

  abbrev plain_if : Bool → Stamped → Stamped
  plain_if own e = cond own e (stamped (unnumbered e.stamp) e.more e.entry)

  -- ---- what stays

  plain-entry : (e : Stamped) → (plain e).entry ≡ e.entry
  plain-entry e = by (is_made_by group e)
    where
      by : (b : Bool) → (plain_if b e).entry ≡ e.entry
      by true = refl
      by false = refl

  -- what entries tell
  pub told-plain : {A : Type 0} (told : Entry → List A) (H : History)
      → all_told told (without_numbers group H) ≡ all_told told H
  told-plain told [] = refl
  told-plain told (e ∷ H) = λ i. told (plain-entry e i) ++ told-plain told H i

  -- the tables
  tables-plain : (t : Tables) (H : History) → tables_from t (without_numbers group H) ≡ tables_from t H
  tables-plain t [] = refl
  tables-plain t (e ∷ H) =
      ap (λ (t : Tables). tables_from t (without_numbers group H)) (by (is_made_by group e))
      ∙ tables-plain (tables_after t e) H
    where
      by : (b : Bool) → tables_after t (plain_if b e) ≡ tables_after t e
      by true = refl
      by false = refl

  pub registered-plain : (H : History) (user : ℕ) → IsRegistered H user → IsRegistered (without_numbers group H) user
  registered-plain H user is =
      ap (λ (rs : List Registration). list_any (λ (r : Registration). eqb r.user user) rs)
      (told-plain registration_told H) ∙ is

  pub calls-plain : (H : History) (login : Bool) (caller : Option ℕ) → CallsAs H login caller
      → CallsAs (without_numbers group H) login caller
  calls-plain H false caller is = is
  calls-plain H true None is = is
  calls-plain H true (Some user) is = registered-plain H user is

  pub plain-append : (H g : History)
      → without_numbers group (H ++ g) ≡ without_numbers group H ++ without_numbers group g
  plain-append H g = map-append plain H g

  -- ---- one of the group

  -- what one of them made is hers
  made-own : (user : ℕ) (e : Stamped) → IsOneOf group (Some user) → eqb user e.stamp.maker ≡ true
      → is_made_by group e ≡ true
  made-own user e among own =
      ap (λ (m : ℕ). list_any (λ v. is_number v m) group) (sym (eqb-true user e.stamp.maker own)) ∙ among

  -- so she sees the same
  same-plain : (u : Option ℕ) → IsOneOf group u → (e : Stamped) → IsSameButStamp u e (plain e)
  same-plain u among e = by (is_made_by group e) refl
    where
      own : (u : Option ℕ) → IsOneOf group u → is_number u e.stamp.maker ≡ true → is_made_by group e ≡ false → ⊥
      own None among is other = true≢false (sym is)
      own (Some user) among is other = true≢false (sym (made-own user e among is) ∙ other)

      by : (b : Bool) → is_made_by group e ≡ b → IsSameButStamp u e (plain_if b e)
      by true is = record { entry = refl; maker = refl; own = λ mine. refl }
      by false is = record { entry = refl; maker = refl; own = λ mine. absurd (own u among mine is) }

  places-plain : (u : Option ℕ) → IsOneOf group u → (before H : History)
      → PlaceByPlace (λ at e other. IsSameButStamp u e other) before H (without_numbers group H)
  places-plain u among before [] = tt
  places-plain u among before (e ∷ H) = (same-plain u among e, places-plain u among (before ++ e ∷ []) H)

  pub seen-plain : (u : Option ℕ) → IsOneOf group u → (H : History) → view u H ≡ view u (without_numbers group H)
  seen-plain u among H = stamps_unseen u H (without_numbers group H) (places-plain u among [] H)

  -- and what she made stays
  pub own-plain : (user : ℕ) → IsOneOf group (Some user) → (g : History)
      → AllByRecursion (λ (e : Stamped). e.stamp.maker ≡ user) g → without_numbers group g ≡ g
  own-plain user among [] made = refl
  own-plain user among (e ∷ g) made =
      λ i. plain_if (made-own user e among (eq-eqb user e.stamp.maker (sym made.0)) i) e
      ∷ own-plain user among g made.1 i

  -- ---- others

  -- another made it, or it has no number
  abbrev pub IsOthers : Stamped → Type 0
  IsOthers e = (is_made_by group e ≡ false) ⊎ (e.stamp.key ≡ None)

  pub others-plain : (g : History) → AllByRecursion IsOthers g → without_numbers group g ≡ all_kept (λ at. at) g
  others-plain [] all = refl
  others-plain (e ∷ g) all = λ i. one e all.0 i ∷ others-plain g all.1 i
    where
      none-same : (e : Stamped) → e.stamp.key ≡ None → (b : Bool) → plain_if b e ≡ plain_if false e
      none-same e none true = λ i. record {
        stamp = record { maker = e.stamp.maker; at = e.stamp.at; key = none i };
        more = e.more;
        entry = e.entry;
      }
      none-same e none false = refl

      one : (e : Stamped) → IsOthers e → plain e ≡ plain_if false e
      one e (inl other) = ap (λ (b : Bool). plain_if b e) other
      one e (inr none) = none-same e none (is_made_by group e)

  -- who isn't one of the group made none of theirs
  pub made-others : (user : ℕ) → list_any (λ v. is_number v user) group ≡ false → (g : History)
      → AllByRecursion (λ (e : Stamped). e.stamp.maker ≡ user) g → AllByRecursion IsOthers g
  made-others user other g made =
      AllByRecursion-map (λ (e : Stamped). e.stamp.maker ≡ user) IsOthers
      (λ e is. inl (ap (λ (m : ℕ). list_any (λ v. is_number v m) group) is ∙ other)) g made

  pub none-others : (g : History) → AllByRecursion (λ (e : Stamped). e.stamp.key ≡ None) g → AllByRecursion IsOthers g
  none-others g none =
      AllByRecursion-map (λ (e : Stamped). e.stamp.key ≡ None) IsOthers (λ e is. inr is) g none

  -- ---- what is given again without its number

  module _ (H : History) (legal : Legal H) (legal' : Legal (without_numbers group H)) where
    abbrev H' : History
    H' = without_numbers group H

    same-tables : tables_of H' ≡ tables_of H
    same-tables = tables-plain no_tables H

    abbrev pub again_call : Call → Call
    again_call call = call_of call.caller call.at None call.command

    abbrev pub again_bulk : BulkCall → BulkCall
    again_bulk bulk = record { stamp = unnumbered bulk.stamp; rows = bulk.rows }

    pub call-plain : (call : Call) (d : Drawn) → judge (view call.caller H) call ≡ Ok d
        → judge (view call.caller H') (again_call call) ≡ Ok (kept_drawn (λ at. at) d)
    call-plain call d accepted =
        Legal-judge H' (again_call call) legal'
        ∙ ap (λ (t : Tables). judge_by_role t (again_call call)) same-tables
        ∙ call-judged (λ at. at) (tables_of H) (λ at. refl) call
        ∙ ap (λ (r : Result Drawn Rule). kept_result (λ at. at) r) (sym (Legal-judge H call legal) ∙ accepted)

    pub bulk-plain : (bulk : BulkCall) (d : Drawn) → IsBulkGiven H bulk
        → judge_bulk (view (Some bulk.stamp.maker) H) bulk ≡ Ok d
        → judge_bulk (view (Some bulk.stamp.maker) H') (again_bulk bulk) ≡ Ok (kept_drawn (λ at. at) d)
    bulk-plain bulk d given accepted =
        let bounds : IsBoundedStamp bulk.stamp = given-bounded H bulk given in
        Legal-judge_bulk H' (again_bulk bulk) legal' (registered-plain H bulk.stamp.maker given.caller)
        (record { moment = bounds.moment; key = tt })
        ∙ ap (λ (t : Tables). bulk_by_role t (again_bulk bulk)) same-tables
        ∙ bulk-judged (λ at. at) (tables_of H) (λ at. refl) bulk
        ∙ ap (λ (r : Result Drawn Broken). kept_result (λ at. at) r)
        (sym (Legal-judge_bulk H bulk legal given.caller bounds) ∙ accepted)

    pub call-allowed : (call : Call) → IsAllowed H call → IsAllowed H' (again_call call)
    call-allowed call allowed = record {
      given = record {
        caller = calls-plain H (command_wants_login call.command) call.caller allowed.given.caller;
        bounded = allowed.given.bounded;
        moment = allowed.given.moment;
        key = tt;
      };
      unused = tt;
    }

    pub bulk-given : (bulk : BulkCall) → IsBulkGiven H bulk → IsBulkGiven H' (again_bulk bulk)
    bulk-given bulk given = record {
      caller = registered-plain H bulk.stamp.maker given.caller;
      bounded = given.bounded;
      moment = given.moment;
      key = tt;
    }

    pub group-plain : (d : Drawn) → AllByRecursion IsOthers d.group
        → H' ++ (kept_drawn (λ at. at) d).group ≡ without_numbers group (H ++ d.group)
    group-plain d others =
        ap (λ (g : History). H' ++ g) (sym (others-plain d.group others)) ∙ sym (plain-append H d.group)

    pub own-group : (user : ℕ) → IsOneOf group (Some user) → (d : Drawn)
        → AllByRecursion (λ (e : Stamped). e.stamp.maker ≡ user) d.group
        → H' ++ d.group ≡ without_numbers group (H ++ d.group)
    own-group user among d made =
        ap (λ (g : History). H' ++ g) (sym (own-plain user among d.group made)) ∙ sym (plain-append H d.group)

    -- ---- a number that is new stays so

    module _ (user number : ℕ) where
      abbrev passes : Stamped → Bool
      passes e = eqb e.stamp.maker user && has_number number e.stamp.key

      passes-plain : (e : Stamped) → passes e ≡ false → passes (plain e) ≡ false
      passes-plain e is = by (is_made_by group e)
        where
          by : (b : Bool) → passes (plain_if b e) ≡ false
          by true = is
          by false = and-false (eqb e.stamp.maker user)

      none-some : (x : Stamped) (xs : History) → x ∷ xs ≡ [] → ⊥
      none-some x xs is = cc

      unused-plain : (G : History) → kept_under user number G ≡ []
          → kept_under user number (without_numbers group G) ≡ []
      unused-plain [] none = refl
      unused-plain (e ∷ G) none = by (passes e) refl none (unused-plain G)
        where
          by : (b : Bool) → passes e ≡ b → cond b (e ∷ kept_under user number G) (kept_under user number G) ≡ []
              → (kept_under user number G ≡ [] → kept_under user number (without_numbers group G) ≡ [])
              → kept_under user number (without_numbers group (e ∷ G)) ≡ []
          by true is none goes = absurd (none-some e (kept_under user number G) none)
          by false is none goes =
              ap (λ (b : Bool). cond b (plain e ∷ kept_under user number (without_numbers group G))
              (kept_under user number (without_numbers group G))) (passes-plain e is)
              ∙ goes none

    new-plain : (user : ℕ) (key : Option RetryKey) → IsNewKey H (Some user) key → IsNewKey H' (Some user) key
    new-plain user None new = tt
    new-plain user (Some key) new = unused-plain user key.number H new

    -- ---- each move

    -- given by somebody who isn't one of the group
    call-others : (call : Call) (d : Drawn) → IsAllowed H call → judge (view call.caller H) call ≡ Ok d
        → AllByRecursion IsOthers d.group → Legal (without_numbers group (H ++ d.group))
    call-others call d allowed accepted others =
        subst (λ (G : History). Legal G) (group-plain d others)
        (Legal-accepted H' (again_call call) (kept_drawn (λ at. at) d) legal' (call-allowed call allowed)
        (call-plain call d accepted))

    call-user : (user at : ℕ) (key : Option RetryKey) (command : Command) (d : Drawn) (b : Bool)
        → list_any (λ v. is_number v user) group ≡ b → IsAllowed H (call_of (Some user) at key command)
        → judge (view (Some user) H) (call_of (Some user) at key command) ≡ Ok d
        → Legal (without_numbers group (H ++ d.group))
    call-user user at key command d true among allowed accepted =
        subst (λ (G : History). Legal G)
        (own-group user among d (user-made H d user at key command legal allowed.given.caller accepted))
        (Legal-accepted H' (call_of (Some user) at key command) d legal' (record {
          given = record {
            caller = calls-plain H (command_wants_login command) (Some user) allowed.given.caller;
            bounded = allowed.given.bounded;
            moment = allowed.given.moment;
            key = allowed.given.key;
          };
          unused = new-plain user key allowed.unused;
        })
        (sym (ap (λ V. judge V (call_of (Some user) at key command)) (seen-plain (Some user) among H)) ∙ accepted))
    call-user user at key command d false other allowed accepted =
        call-others (call_of (Some user) at key command) d allowed accepted
        (made-others user other d.group (user-made H d user at key command legal allowed.given.caller accepted))

    call-legal : (caller : Option ℕ) (at : ℕ) (key : Option RetryKey) (command : Command)
        → IsAllowed H (call_of caller at key command) → (r : Result Drawn Rule)
        → judge (view caller H) (call_of caller at key command) ≡ r
        → Legal (without_numbers group (followed_by H r))
    call-legal caller at key command allowed (Err rule) is = legal'
    call-legal None at key command allowed (Ok d) is =
        call-others (call_of None at key command) d allowed is
        (none-others d.group
        (nobody-numbered H d at key command legal allowed.given.caller allowed.given.key is))
    call-legal (Some user) at key command allowed (Ok d) is =
        call-user user at key command d (list_any (λ v. is_number v user) group) refl allowed is

    bulk-user : (bulk : BulkCall) (d : Drawn) (b : Bool) → list_any (λ v. is_number v bulk.stamp.maker) group ≡ b
        → IsBulkAllowed H bulk → judge_bulk (view (Some bulk.stamp.maker) H) bulk ≡ Ok d
        → Legal (without_numbers group (H ++ d.group))
    bulk-user bulk d true among allowed accepted =
        subst (λ (G : History). Legal G) (own-group bulk.stamp.maker among d (bulk-made H d bulk accepted))
        (Legal-bulk_accepted H' bulk d legal' (record {
          given = record {
            caller = registered-plain H bulk.stamp.maker allowed.given.caller;
            bounded = allowed.given.bounded;
            moment = allowed.given.moment;
            key = allowed.given.key;
          };
          unused = new-plain bulk.stamp.maker bulk.stamp.key allowed.unused;
        })
        (sym (ap (λ V. judge_bulk V bulk) (seen-plain (Some bulk.stamp.maker) among H)) ∙ accepted))
    bulk-user bulk d false other allowed accepted =
        let others : AllByRecursion IsOthers d.group =
        made-others bulk.stamp.maker other d.group (bulk-made H d bulk accepted) in
        subst (λ (G : History). Legal G) (group-plain d others)
        (Legal-bulk_accepted H' (again_bulk bulk) (kept_drawn (λ at. at) d) legal'
        (record { given = bulk-given bulk allowed.given; unused = tt })
        (bulk-plain bulk d allowed.given accepted))

    bulk-legal : (bulk : BulkCall) → IsBulkAllowed H bulk → (r : Result Drawn Broken)
        → judge_bulk (view (Some bulk.stamp.maker) H) bulk ≡ r → Legal (without_numbers group (followed_by H r))
    bulk-legal bulk allowed (Err refusal) is = legal'
    bulk-legal bulk allowed (Ok d) is =
        bulk-user bulk d (list_any (λ v. is_number v bulk.stamp.maker) group) refl allowed is

    move-legal : (move : Move) → IsMoveAllowed H move → Legal (without_numbers group (moved H move))
    move-legal (calls call) allowed =
        call-legal call.caller call.at call.key call.command allowed (judge (view call.caller H) call) refl
    move-legal (bulks bulk) allowed =
        bulk-legal bulk allowed (judge_bulk (view (Some bulk.stamp.maker) H) bulk) refl

  leads-plain : (from to : History) (moves : List Move) → Legal from → Legal (without_numbers group from)
      → LeadsTo from moves to → Legal (without_numbers group to)
  leads-plain from to [] legal legal' leads =
      subst (λ (H : History). Legal (without_numbers group H)) leads legal'
  leads-plain from to (move ∷ moves) legal legal' leads =
      leads-plain (moved from move) to moves (Legal-moved from move legal leads.0)
      (move-legal from legal legal' move leads.0) leads.1

  pub legal-plain : (H : History) → Legal H → Legal (without_numbers group H)
  legal-plain H legal = leads-plain [] H legal.0 ([], refl) ([], refl) legal.1
