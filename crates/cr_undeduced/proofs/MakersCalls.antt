-- SPDX-License-Identifier: Apache-2.0 OR MIT
-- A command that was accepted is accepted where others made some entries before it; and of whoever has the right, in
-- its caller's place.
use Rattle.std.proofs.Common.{ℕ, Bool, true, false, ◌≡◌, List, [], ◌∷◌, refl, sym, ap, ◌∙◌, ◌&&◌}
use Rattle.std.proofs.Common.{Option, Some, None, Result, Ok, Err, ◌||◌}
use Rattle.std.specs.Prelude.{map, not, is_ok, is_some}
use Rattle.std.specs.List.{AllByRecursion}
use Rattle.std.proofs.lemmas.Bool.{true≢false}
use Rattle.cr_base.specs.declared.command.Call.{Call}
use Rattle.cr_base.specs.declared.command.Command.{Command}
use Rattle.cr_base.specs.declared.command.Command.TheVariants as commands
use Rattle.cr_base.specs.declared.entry.Entry.{Entry}
use Rattle.cr_base.specs.declared.entry.Stamp.{Stamp}
use Rattle.cr_base.specs.declared.entry.Stamped.{Stamped}
use Rattle.cr_base.specs.declared.reply.Rule.{Rule}
use Rattle.cr_base.specs.Calls.{stamp_by, stamp_of, call_of}
use Rattle.cr_base.specs.Drawn.{Drawn, stamped, grouped}
use Rattle.cr_base.specs.History.{History}
use Rattle.cr_base.specs.Logins.{command_wants_login}
use Rattle.cr_base.proofs.Small.{and_second}
use Rattle.cr_history.specs.Invariants.{IsRegistered}
use Rattle.cr_policy.specs.Added.{added, answered, made_by, stamp_added, marks, IsAdded}
use Rattle.cr_policy.specs.Judge.{judge}
use Rattle.cr_policy.specs.Legal.{Legal, CallsAs, IsCaller}
use Rattle.cr_policy.specs.View.{view}
use Rattle.cr_policy.proofs.AddedLaws.{adds_as_said}
use Rattle.cr_permissions.specs.MayDo.{may_do}
use Rattle.cr_permissions.proofs.MayDoLaws.{permissions_as_said}
use Rattle.cr_undeduced.proofs.MakersFacts.{Alike}
use Rattle.cr_undeduced.proofs.MakersSaid.{may_do-also, added-also, maker-also}
use Rattle.cr_undeduced.proofs.MakersRight.{Takes}

-- ---- the group of an accepted command

stamped-is : (s : Stamped) (stamp : Stamp) (more : Bool) (e : Entry) → s.stamp ≡ stamp → s.more ≡ more → s.entry ≡ e
    → s ≡ stamped stamp more e
stamped-is s stamp more e a b c = λ i. stamped (a i) (b i) (c i)

group-is : (stamp : Stamp) (es : List Entry) (g : History) → map (λ (e : Stamped). e.entry) g ≡ es
    → AllByRecursion (λ (e : Stamped). e.stamp ≡ stamp) g → map (λ (e : Stamped). e.more) g ≡ marks es
    → g ≡ grouped stamp es
group-is stamp [] [] a all b = refl
group-is stamp [] (s ∷ g) a all b = cc
group-is stamp (e ∷ []) [] a all b = cc
group-is stamp (e ∷ []) (s ∷ []) a all b =
    let same : s.entry ≡ e = cc in
    let mark : s.more ≡ false = cc in
    ap (λ (s : Stamped). s ∷ []) (stamped-is s stamp false e all.0 mark same)
group-is stamp (e ∷ []) (s ∷ t ∷ g) a all b = cc
group-is stamp (e ∷ next ∷ es) [] a all b = cc
group-is stamp (e ∷ next ∷ es) (s ∷ g) a all b =
    let same : s.entry ≡ e = cc in
    let mark : s.more ≡ true = cc in
    let rest : map (λ (e : Stamped). e.entry) g ≡ next ∷ es = cc in
    let rest_marks : map (λ (e : Stamped). e.more) g ≡ marks (next ∷ es) = cc in
    λ i. stamped-is s stamp true e all.0 mark same i ∷ group-is stamp (next ∷ es) g rest all.1 rest_marks i

added-group : (stamp : Stamp) (es : List Entry) (told : List _) (drawn : Drawn) → IsAdded stamp es told drawn
    → drawn.group ≡ grouped stamp es
added-group stamp es told drawn is = group-is stamp es drawn.group is.entries is.stamps is.marks

-- ---- sentences

-- it is accepted, and draws this group
pub record Accepts (H : History) (call : Call) (g : History) : Type 0 where
  pub drawn : Drawn
  pub is : judge (view call.caller H) call ≡ Ok drawn
  pub group : drawn.group ≡ g

drawn-of : (r : Result Drawn Rule) → is_ok r ≡ true → (d : Drawn) × (r ≡ Ok d)
drawn-of (Ok d) h = (d, refl)
drawn-of (Err rule) h = absurd (true≢false (sym h))

pub accepts : (H : History) (call : Call) → Legal H → IsCaller H call.caller call.command
    → may_do call.caller call.at H call.command ≡ true
    → Accepts H call (grouped (stamp_added H call) (added call.caller H call.command))
accepts H call legal calls may =
    let k = drawn-of (judge (view call.caller H) call)
    (and_second _ (is_ok (judge (view call.caller H) call)) (permissions_as_said H call legal ∙ may)) in
    record {
      drawn = k.0;
      is = k.1;
      group = added-group (stamp_added H call) (added call.caller H call.command)
          (answered call.caller H call.command) k.0 (adds_as_said H call k.0 legal calls k.1);
    }

-- what is accepted may be done, and draws that
pub may-accepted : (H : History) (call : Call) (drawn : Drawn) → Legal H → IsCaller H call.caller call.command
    → judge (view call.caller H) call ≡ Ok drawn → may_do call.caller call.at H call.command ≡ true
may-accepted H call drawn legal calls accepted =
    sym (permissions_as_said H call legal)
    ∙ (λ i. caller call.caller (command_wants_login call.command) calls i && is_ok (accepted i))
  where
    caller : (u : Option ℕ) (login : Bool) → CallsAs H login u → (is_some u || not login) ≡ true
    caller (Some u) login calls = refl
    caller None true calls = absurd calls
    caller None false calls = refl

pub group-accepted : (H : History) (call : Call) (drawn : Drawn) → Legal H → IsCaller H call.caller call.command
    → judge (view call.caller H) call ≡ Ok drawn
    → drawn.group ≡ grouped (stamp_added H call) (added call.caller H call.command)
group-accepted H call drawn legal calls accepted =
    added-group (stamp_added H call) (added call.caller H call.command) (answered call.caller H call.command) drawn
    (adds_as_said H call drawn legal calls accepted)

-- ---- on the other history

-- whoever has registered there may give what a user gives here
pub user-calls : (A B : History) (u w : ℕ) (command : Command) → IsCaller A (Some u) command → IsRegistered B w
    → IsCaller B (Some w) command
user-calls A B u w command calls registered = by (command_wants_login command) calls
  where
    by : (login : Bool) → CallsAs A login (Some u) → CallsAs B login (Some w)
    by true calls = registered
    by false calls = cc

pub makes : (u : ℕ) (H : History) (command : Command) → command_wants_login command ≡ true
    → made_by (Some u) H command ≡ u
makes u H (commands.Register name digest) is = absurd (true≢false (sym is))
makes u H command is = refl

module _ (A B : History) (legal : Legal A) (legal' : Legal B) (alike : Alike A B) where
  -- the same command adds the same
  pub call-also : (call : Call) (drawn : Drawn) → IsCaller A call.caller call.command
      → IsCaller B call.caller call.command → judge (view call.caller A) call ≡ Ok drawn → Accepts B call drawn.group
  call-also call drawn calls calls' accepted =
      let k = accepts B call legal' calls'
      (sym (may_do-also A B alike call.caller call.at call.command) ∙ may-accepted A call drawn legal calls accepted)
      in
      record {
        drawn = k.drawn;
        is = k.is;
        group = k.group
            ∙ (λ i. grouped
            (record (stamp_of call) { maker = sym (maker-also A B alike call.caller call.command) i })
            (sym (added-also A B alike call.caller call.command) i))
            ∙ sym (group-accepted A call drawn legal calls accepted);
      }

  -- and whoever has the right to make its entry may give it in her place
  pub call-other : (u w at : ℕ) (command : Command) → may_do (Some u) at A command ≡ true
      → (takes : Takes A u w at command) → IsCaller B (Some w) command
      → Accepts B (call_of (Some w) at None command) (stamped (stamp_by w at None) false takes.entry ∷ [])
  call-other u w at command may taken calls =
      let call : Call = call_of (Some w) at None command in
      let k = accepts B call legal' calls (sym (may_do-also A B alike (Some w) at command) ∙ taken.may) in
      record {
        drawn = k.drawn;
        is = k.is;
        group = k.group
            ∙ (λ i. grouped (record (stamp_of call) { maker = makes w B command taken.login i })
            ((sym (added-also A B alike (Some w) command) ∙ taken.same) i));
      }
