-- SPDX-License-Identifier: Apache-2.0 OR MIT
-- Of each run there is another in which no command of others than the group's has a number, and the group hear the
-- same.
use Rattle.std.proofs.Common.{ℕ, Bool, true, false, cond, ◌≡◌, List, [], ◌∷◌, ◌++◌, length, refl, sym, ap, subst}
use Rattle.std.proofs.Common.{◌∙◌, Option, Some, None, Ok, inl, inr}
use Rattle.std.specs.Prelude.{take}
use Rattle.std.specs.List.{AllByRecursion, Contains, list_any}
use Rattle.std.proofs.Math.Seq.{take-append_seam}
use Rattle.std.proofs.lemmas.Bool.{true≢false}
use Rattle.std.proofs.lemmas.List.{length-map}
use Rattle.std.proofs.lemmas.List.Elements.{All-weaker, All-contains_itself}
use Rattle.cr_base.specs.declared.bulk.BulkRow.{BulkRow}
use Rattle.cr_base.specs.declared.command.Command.{Command}
use Rattle.cr_base.specs.declared.entry.Stamped.{Stamped}
use Rattle.cr_base.specs.declared.retry.RetryKey.{RetryKey}
use Rattle.cr_base.specs.Calls.{call_of, bulk_by, maker_of}
use Rattle.cr_base.specs.Drawn.{Drawn, stamped}
use Rattle.cr_base.specs.History.{History, caller_told}
use Rattle.cr_base.specs.Lists.{is_number, last}
use Rattle.cr_base.specs.Logins.{command_wants_login}
use Rattle.cr_base.specs.Retries.{Judged}
use Rattle.cr_permissions.proofs.KeptStamps.{kept_drawn}
use Rattle.cr_policy.specs.Judge.{judge, decide, decide_bulk}
use Rattle.cr_policy.specs.Legal.{unnumbered, IsAllowed, Legal}
use Rattle.cr_policy.specs.View.{view}
use Rattle.cr_undeduced.specs.Undeducible.{Look}
use Rattle.cr_bodies.specs.declared.credentials.Credentials.{Credentials}
use Rattle.cr_wire.specs.declared.what.What.{What}
use Rattle.cr_wire.specs.declared.what.What.TheVariants as whats
use Rattle.cr_wire.specs.declared.what.Wish.{Wish}
use Rattle.cr_wire.specs.Bounds.{IsBoundedWhat, IsKeyFor}
use Rattle.cr_wire.specs.Caller.{caller, wants_login, user_told}
use Rattle.cr_session.specs.Retries.{AreBounded}
use Rattle.cr_session.specs.Told.{drawn, and_drawn}
use Rattle.cr_session.specs.Turning.{IsBoundedWish}
use Rattle.cr_session.specs.TwoRuns.{WishInTurn, Run, is_same}
use Rattle.cr_session.proofs.Accepting.{Accepts, by_command, by_bulk, wish-draws}
use Rattle.cr_session.proofs.TurnLaws.{MayWish}
use Rattle.cr_laws.specs.GroupRuns.{is_theirs}
use Rattle.cr_laws.specs.AnotherRun.{looks_of, end_of, is_made_by, AnotherRun}
use Rattle.cr_laws.specs.UndeducibleBytes.{unnumbered_entry, without_numbers}
use Rattle.cr_laws.proofs.AcceptedWishes.{bounds-of, command-accepted, bulk-accepted, command-draws, bulk-draws_it}
use Rattle.cr_laws.proofs.MadeBy.{user-made, nobody-numbered, bulk-made}
use Rattle.cr_laws.proofs.OtherRuns.{InPlace, stays, left-out, replaced, another, run-of_run, ends-grow, theirs-same}
use Rattle.cr_laws.proofs.TheirWishes.{IsTheirs, one-of, adds-theirs, draws-same, exchange-same}
use Rattle.cr_laws.proofs.UnnumberedLaws.{IsOneOf, IsOthers, told-plain, plain-append, seen-plain, made-others}
use Rattle.cr_laws.proofs.UnnumberedLaws.{none-others, call-plain, call-allowed, bulk-plain, group-plain}
use Rattle.cr_laws.proofs.UnnumberedLaws.{legal-plain}

-- what is wished, without a number
abbrev unnumbered_what : What → What
unnumbered_what (whats.Command key command) = whats.Command None command
unnumbered_what (whats.Bulk key rows) = whats.Bulk None rows
unnumbered_what what = what

abbrev unnumbered_wish : Wish → Wish
unnumbered_wish w = record w { what = unnumbered_what w.what }

reads-same : (what : What) → wants_login (unnumbered_what what) ≡ wants_login what
reads-same (whats.Command key command) = refl
reads-same what = refl

no-key_for : (login : Bool) → IsKeyFor login None
no-key_for false = refl
no-key_for true = tt

module _ (group : List (Option ℕ)) where
  user_told-plain : (told : Option Credentials) (H : History)
      → user_told told (without_numbers group H) ≡ user_told told H
  user_told-plain None H = refl
  user_told-plain (Some c) H =
      ap (λ (users : List ℕ). last users) (told-plain group (caller_told c.name c.digest) H)

  caller-plain : (H : History) (w : Wish) (what : What) → wants_login what ≡ wants_login w.what
      → caller (without_numbers group H) (record w { what = what }) ≡ caller H w
  caller-plain H w what same = λ i. cond (same i) (user_told-plain w.credentials H i) None

  -- a group that is theirs has no other number
  theirs-plain : (g : History) → AllByRecursion (IsTheirs group) g → without_numbers group g ≡ g
  theirs-plain [] theirs = refl
  theirs-plain (e ∷ g) theirs = λ i. one e theirs.0 i ∷ theirs-plain g theirs.1 i
    where
      none-same : (e : Stamped) → e.stamp.key ≡ None → (b : Bool)
          → cond b e (stamped (unnumbered e.stamp) e.more e.entry) ≡ e
      none-same e none true = refl
      none-same e none false = λ i. record {
        stamp = record { maker = e.stamp.maker; at = e.stamp.at; key = sym none i };
        more = e.more;
        entry = e.entry;
      }

      one : (e : Stamped) → IsTheirs group e → unnumbered_entry group e ≡ e
      one e (inl made) = ap (λ (b : Bool). cond b e (stamped (unnumbered e.stamp) e.more e.entry)) made
      one e (inr new) = none-same e new.1 (is_made_by group e)

  module _ (H : History) (legal : Legal H) (legal' : Legal (without_numbers group H)) (w : WishInTurn)
      (bounds : IsBoundedWish w.wish) where
    abbrev H' : History
    H' = without_numbers group H

    -- ---- the group's

    one-of_them : (u : Option ℕ) → list_any (λ v. is_same v u) group ≡ true → IsOneOf group u
    one-of_them None theirs = tt
    one-of_them (Some user) theirs = sym (one-of group user) ∙ theirs

    theirs-stay : is_theirs group H w.wish ≡ true → InPlace group (without_numbers group) H w
    theirs-stay theirs =
        stays group (without_numbers group) H w bounds calls
        (ap (and_drawn H') (draws-same H H' w calls seen) ∙ by (drawn H w.wish) refl) (exchange-same H H' w calls seen)
      where
        calls : caller H' w.wish ≡ caller H w.wish
        calls = caller-plain H w.wish w.wish.what refl

        seen : view (caller H w.wish) H ≡ view (caller H w.wish) H'
        seen = seen-plain group (caller H w.wish) (one-of_them (caller H w.wish) theirs) H

        by : (o : Option Drawn) → drawn H w.wish ≡ o → and_drawn H' o ≡ without_numbers group (and_drawn H o)
        by None is = refl
        by (Some d) is =
            ap (λ (g : History). H' ++ g)
            (sym (theirs-plain d.group (adds-theirs group H legal w.wish bounds d theirs (wish-draws H w.wish d is))))
            ∙ sym (plain-append group H d.group)

    -- ---- another's that adds something

    module _ (others : is_theirs group H w.wish ≡ false) (d : Drawn) (is : drawn H w.wish ≡ Some d) where
      abbrev other : Wish
      other = unnumbered_wish w.wish

      calls : caller H' other ≡ caller H w.wish
      calls = caller-plain H w.wish (unnumbered_what w.wish.what) (reads-same w.wish.what)

      bounds-plain : (what : What) → w.wish.what ≡ what → IsBoundedWhat (unnumbered_what what) → IsBoundedWish other
      bounds-plain what at within = record {
        what = subst (λ (x : What). IsBoundedWhat x) (sym (ap unnumbered_what at)) within;
        moment = bounds.moment;
      }

      instead : IsBoundedWish other → drawn H' other ≡ Some (kept_drawn (λ at. at) d)
          → AllByRecursion (IsOthers group) d.group → InPlace group (without_numbers group) H w
      instead within draws all =
          replaced group (without_numbers group) H w others d is other within
          (theirs-same group H H' w.wish other calls ∙ others) (kept_drawn (λ at. at) d) draws
          (group-plain group H legal legal' d all)

      -- none of it is the group's
      other-user : (user : ℕ) → caller H w.wish ≡ Some user → list_any (λ v. is_number v user) group ≡ false
      other-user user at =
          sym (one-of group user) ∙ ap (λ (u : Option ℕ). list_any (λ v. is_same v u) group) (sym at) ∙ others

      command-plain : (key : Option RetryKey) (command : Command)
          → MayWish H w.wish (caller H w.wish) (whats.Command key command)
          → decide (view (caller H w.wish) H) (call_of (caller H w.wish) w.wish.at key command) ≡ Judged (Ok d)
          → InPlace group (without_numbers group) H w
      command-plain key command may decided =
          let u : Option ℕ = caller H w.wish in
          let bound = bounds-of H w.wish d bounds (whats.Command key command) may.is in
          let accepted = command-accepted H w.wish d bounds u key command may decided in
          instead
          (bounds-plain (whats.Command key command) may.is (bound.0, no-key_for (command_wants_login command)))
          (command-draws H' other (kept_drawn (λ at. at) d) u None command (ap unnumbered_what may.is) (sym calls)
          (call-allowed group H legal legal' (call_of u w.wish.at key command) accepted.0)
          (call-plain group H legal legal' (call_of u w.wish.at key command) d accepted.1))
          (by (caller H w.wish) refl accepted.0 accepted.1)
        where
          by : (u : Option ℕ) → caller H w.wish ≡ u → IsAllowed H (call_of u w.wish.at key command)
              → judge (view u H) (call_of u w.wish.at key command) ≡ Ok d → AllByRecursion (IsOthers group) d.group
          by None at allowed accepted =
              none-others group d.group
              (nobody-numbered H d w.wish.at key command legal allowed.given.caller allowed.given.key accepted)
          by (Some user) at allowed accepted =
              made-others group user (other-user user at) d.group
              (user-made H d user w.wish.at key command legal allowed.given.caller accepted)

      bulk-in_place : (user : ℕ) (key : Option RetryKey) (rows : List BulkRow) → caller H w.wish ≡ Some user
          → MayWish H w.wish (Some user) (whats.Bulk key rows)
          → decide_bulk (view (Some user) H) (bulk_by user w.wish.at key rows) ≡ Judged (Ok d)
          → InPlace group (without_numbers group) H w
      bulk-in_place user key rows at may decided =
          let bound = bounds-of H w.wish d bounds (whats.Bulk key rows) may.is in
          let accepted = bulk-accepted H w.wish d bounds user key rows may decided in
          instead
          (bounds-plain (whats.Bulk key rows) may.is (bound.0, tt))
          (bulk-draws_it H' other (kept_drawn (λ at. at) d) user None rows (ap unnumbered_what may.is)
          (sym (calls ∙ at)) tt
          (bulk-plain group H legal legal' (bulk_by user w.wish.at key rows) d accepted.0.given accepted.1))
          (made-others group user (other-user user at) d.group
          (bulk-made H d (bulk_by user w.wish.at key rows) accepted.1))

      in-its_place : Accepts H w.wish (caller H w.wish) d → InPlace group (without_numbers group) H w
      in-its_place (by_command key command may decided) = command-plain key command may decided
      in-its_place (by_bulk key rows may decided) = by (caller H w.wish) refl may decided
        where
          by : (u : Option ℕ) → caller H w.wish ≡ u → MayWish H w.wish u (whats.Bulk key rows)
              → decide_bulk (view u H) (bulk_by (maker_of u) w.wish.at key rows) ≡ Judged (Ok d)
              → InPlace group (without_numbers group) H w
          by None at may decided = absurd (true≢false may.may)
          by (Some user) at may decided = bulk-in_place user key rows at may decided

    in-place : InPlace group (without_numbers group) H w
    in-place = by (is_theirs group H w.wish) (drawn H w.wish) refl refl
      where
        by : (b : Bool) (o : Option Drawn) → is_theirs group H w.wish ≡ b → drawn H w.wish ≡ o
            → InPlace group (without_numbers group) H w
        by true o theirs is = theirs-stay theirs
        by false None others is = left-out group (without_numbers group) H w others is
        by false (Some d) others is = in-its_place others d is (wish-draws H w.wish d is)

  take-plain : (H g : History)
      → take (length H) (without_numbers group (H ++ g)) ≡ without_numbers group H
  take-plain H g =
      ap (λ n. take n (without_numbers group (H ++ g))) (sym (length-map H (unnumbered_entry group)))
      ∙ ap (take (length (without_numbers group H))) (plain-append group H g)
      ∙ take-append_seam (without_numbers group H) (without_numbers group g)

  -- a run without others' numbers
  unnumbered-run : (one : Run) → Legal one.opening → AreBounded one.wishes
      → AnotherRun group one (without_numbers group (end_of one))
  unnumbered-run one legal bounds =
      let looks : List Look = looks_of group one.opening one.wishes in
      let grown = ends-grow one.opening one.wishes in
      another group (without_numbers group) (λ look. Unit {0}) (end_of one)
      (λ H legal legal' w bounds more ends seen. in-place H legal legal' w bounds) one.opening one.wishes legal
      (legal-plain group one.opening legal) bounds refl
      (All-weaker (Contains looks) (λ look. Unit {0}) (λ look is. tt) looks (All-contains_itself looks))
      (length-map one.opening (unnumbered_entry group))
      (sym (ap (λ (K : History). take (length one.opening) (without_numbers group K)) grown.1
      ∙ take-plain one.opening grown.0))

  -- and of such another run
  pub run-unnumbered : (one : Run) (mid : History) → AnotherRun group one mid
      → AnotherRun group one (without_numbers group mid)
  run-unnumbered one mid first =
      run-of_run group one mid (without_numbers group mid) first
      (subst (λ (K : History). AnotherRun group first.other (without_numbers group K)) first.ends
      (unnumbered-run first.other first.legal first.bounded))
