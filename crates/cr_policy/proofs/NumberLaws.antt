-- SPDX-License-Identifier: Apache-2.0 OR MIT
-- On a legal history the entries that a user made by commands of one number are one command's, since a number is new
-- when it is given.
use Rattle.std.proofs.Common.{ℕ, Bool, true, false, cond, ◌≡◌, List, [], ◌∷◌, ◌++◌, eqb, refl, sym, ap, subst, ◌∙◌}
use Rattle.std.proofs.Common.{◌&&◌, append_assoc, append-nil, Option, Some, None, Result, Ok, Err}
use Rattle.std.specs.Prelude.{map}
use Rattle.std.specs.List.{AllByRecursion}
use Rattle.std.proofs.lemmas.Bool.{and_parts, eqb-true, true≢false}
use Rattle.std.proofs.lemmas.List.Elements.{filter-append}
use Rattle.std.proofs.lemmas.Option.{none-some}
use Rattle.cr_base.specs.declared.bulk.Broken.{Broken}
use Rattle.cr_base.specs.declared.command.Call.{Call}
use Rattle.cr_base.specs.declared.command.Command.{Command}
use Rattle.cr_base.specs.declared.command.Command.TheVariants.{Register}
use Rattle.cr_base.specs.declared.entry.Entry.{Entry}
use Rattle.cr_base.specs.declared.entry.Entry.TheVariants.{Registered, Named, Submitted, Coauthor}
use Rattle.cr_base.specs.declared.entry.Stamp.{Stamp}
use Rattle.cr_base.specs.declared.entry.Stamped.{Stamped}
use Rattle.cr_base.specs.declared.reply.Rule.{Rule}
use Rattle.cr_base.specs.declared.retry.RetryKey.{RetryKey}
use Rattle.cr_base.specs.declared.words.Role.TheVariants.{Chair}
use Rattle.cr_base.specs.Drawn.{Drawn, grouped, besides}
use Rattle.cr_base.specs.History.{History}
use Rattle.cr_base.specs.Keys.{has_number, kept_under}
use Rattle.cr_history.specs.Groups.{Adds, single, submitted, first_user}
use Rattle.cr_policy.specs.Added.{made_by, stamp_added}
use Rattle.cr_policy.specs.Judge.{judge, judge_bulk}
use Rattle.cr_policy.specs.Laws.{IsOneGroup, NumbersOnce}
use Rattle.cr_policy.specs.Legal.{IsKeyOf, IsNewKey, IsCaller, IsAllowed, followed_by, Move, calls, bulks}
use Rattle.cr_policy.specs.Legal.{IsMoveAllowed, moved, LeadsTo, Legal}
use Rattle.cr_policy.specs.View.{view}
use Rattle.cr_policy.proofs.AcceptedLaws.{accepted-adds}
use Rattle.cr_policy.proofs.AddedLaws.{adds_as_said}
use Rattle.cr_policy.proofs.BulkLaws.{bulk-draws}
use Rattle.cr_policy.proofs.LegalLaws.{Legal-moved}

-- ---- a group behind a history

-- the entry is of this user's command of this number
abbrev pub is_under : ℕ → ℕ → Stamp → Bool
is_under user number stamp = eqb stamp.maker user && has_number number stamp.key

-- of a group all entries are, or none is
group-under : (user number : ℕ) (stamp : Stamp) → is_under user number stamp ≡ true → (es : List Entry)
    → kept_under user number (grouped stamp es) ≡ grouped stamp es
group-under user number stamp is [] = refl
group-under user number stamp is (e ∷ []) =
    ap (λ (b : Bool). cond b (grouped stamp (e ∷ [])) []) is
group-under user number stamp is (e ∷ next ∷ es) =
    ap
    (λ (b : Bool). cond b (record { stamp = stamp; more = true; entry = e } ∷ kept_under user number
    (grouped stamp (next ∷ es))) (kept_under user number (grouped stamp (next ∷ es)))) is
    ∙ ap (λ (g : History). record { stamp = stamp; more = true; entry = e } ∷ g)
    (group-under user number stamp is (next ∷ es))

group-other : (user number : ℕ) (stamp : Stamp) → is_under user number stamp ≡ false → (es : List Entry)
    → kept_under user number (grouped stamp es) ≡ []
group-other user number stamp is [] = refl
group-other user number stamp is (e ∷ []) =
    ap (λ (b : Bool). cond b (grouped stamp (e ∷ [])) []) is
group-other user number stamp is (e ∷ next ∷ es) =
    ap
    (λ (b : Bool). cond b (record { stamp = stamp; more = true; entry = e } ∷ kept_under user number
    (grouped stamp (next ∷ es))) (kept_under user number (grouped stamp (next ∷ es)))) is
    ∙ group-other user number stamp is (next ∷ es)

pub under-append : (user number : ℕ) (H g : History)
    → kept_under user number (H ++ g) ≡ kept_under user number H ++ kept_under user number g
under-append user number H g =
    filter-append (λ (e : Stamped). eqb e.stamp.maker user && has_number number e.stamp.key) H g

-- a number that is new has no entry yet
pub new-unused : (H : History) (user number maker : ℕ) (key : Option RetryKey) → IsNewKey H (Some maker) key
    → (eqb maker user && has_number number key) ≡ true
    → kept_under user number H ≡ []
new-unused H user number maker None new is = absurd (true≢false (sym (and_parts (eqb maker user) false is).1))
new-unused H user number maker (Some key) new is =
    let parts = and_parts (eqb maker user) (eqb key.number number) is in
    (λ i. kept_under (sym (eqb-true maker user parts.0) i) (sym (eqb-true key.number number parts.1) i) H) ∙ new

-- so behind a history a group is all that is kept of its number, and of the others is kept what was
pub kept-own : (H : History) (user number : ℕ) (stamp : Stamp) (es : List Entry)
    → IsNewKey H (Some stamp.maker) stamp.key → is_under user number stamp ≡ true
    → kept_under user number (H ++ grouped stamp es) ≡ grouped stamp es
kept-own H user number stamp es new is =
    under-append user number H (grouped stamp es)
    ∙ (λ i. new-unused H user number stamp.maker stamp.key new is i ++ group-under user number stamp is es i)

pub kept-other : (H : History) (user number : ℕ) (stamp : Stamp) (es : List Entry) → is_under user number stamp ≡ false
    → kept_under user number (H ++ grouped stamp es) ≡ kept_under user number H
kept-other H user number stamp es is =
    under-append user number H (grouped stamp es)
    ∙ ap (λ (g : History). kept_under user number H ++ g) (group-other user number stamp is es)
    ∙ append-nil (kept_under user number H)

-- ---- one group

-- what a group is
its-group : (H : History) (stamp : Stamp) (es : List Entry) → IsOneGroup (H ++ grouped stamp es) (grouped stamp es)
its-group H stamp [] = tt
its-group H stamp (e ∷ []) = (H, e ∷ [], [], refl, sym (append-nil (H ++ grouped stamp (e ∷ []))))
its-group H stamp (e ∷ next ∷ es) = (H, e ∷ next ∷ es, [], refl, sym (append-nil (H ++ grouped stamp (e ∷ next ∷ es))))

-- with more behind the history it still is
more-behind : (H g : History) (es : List Stamped) → IsOneGroup H es → IsOneGroup (H ++ g) es
more-behind H g [] one = tt
more-behind H g (e ∷ es) one =
    (one.0, one.1, one.2 ++ g, one.3, ap (λ (G : History). G ++ g) one.4 ∙ append_assoc (one.0 ++ (e ∷ es)) one.2 g)

-- of each user and each number
abbrev AreGroups : History → Type 0
AreGroups H = (user number : ℕ) → IsOneGroup H (kept_under user number H)

group-behind : (H : History) (stamp : Stamp) (es : List Entry) → IsNewKey H (Some stamp.maker) stamp.key → AreGroups H
    → AreGroups (H ++ grouped stamp es)
group-behind H stamp es new groups user number = by (is_under user number stamp) refl
  where
    by : (b : Bool) → is_under user number stamp ≡ b
        → IsOneGroup (H ++ grouped stamp es) (kept_under user number (H ++ grouped stamp es))
    by true is =
        subst (IsOneGroup (H ++ grouped stamp es)) (sym (kept-own H user number stamp es new is)) (its-group H stamp es)
    by false is =
        subst (IsOneGroup (H ++ grouped stamp es)) (sym (kept-other H user number stamp es is))
        (more-behind H (grouped stamp es) (kept_under user number H) (groups user number))

-- ---- what moves add

-- what a command adds is a group under its stamp
pub record IsGroup (stamp : Stamp) (g : History) : Type 0 where
  pub entries : List Entry
  pub is : g ≡ grouped stamp entries

first-stamp : (stamp s : Stamp) (e : Entry) (es : List Entry)
    → AllByRecursion (λ (x : Stamped). x.stamp ≡ s) (grouped stamp (e ∷ es)) → stamp ≡ s
first-stamp stamp s e [] all = all.0
first-stamp stamp s e (next ∷ es) all = all.0

added-group : (H g : History) (s : Stamp) → Adds H g → AllByRecursion (λ (x : Stamped). x.stamp ≡ s) g → IsGroup s g
added-group H g s (single stamp e bounds made alone ruled) all =
    record { entries = e ∷ []; is = ap (λ (stamp : Stamp). grouped stamp (e ∷ [])) (first-stamp stamp s e [] all) }
added-group H g s (submitted stamp paper title abstract users bounds made ruled registered) all =
    let es : List Entry = map (λ (user : ℕ). Coauthor paper user) (besides (stamp.maker ∷ []) users) in
    record {
      entries = Submitted paper title abstract ∷ es;
      is = ap (λ (stamp : Stamp). grouped stamp (Submitted paper title abstract ∷ es))
          (first-stamp stamp s (Submitted paper title abstract) es all);
    }
added-group H g s (first_user stamp name digest bounds is texts) all =
    let e : Entry = Registered stamp.maker name digest in
    let es : List Entry = Named stamp.maker Chair ∷ [] in
    record { entries = e ∷ es; is = ap (λ (stamp : Stamp). grouped stamp (e ∷ es)) (first-stamp stamp s e es all) }

pub accepted-group : (H : History) (call : Call) (drawn : Drawn) → Legal H → IsAllowed H call
    → judge (view call.caller H) call ≡ Ok drawn
    → IsGroup (stamp_added H call) drawn.group
accepted-group H call drawn legal allowed accepted =
    added-group H drawn.group (stamp_added H call) (accepted-adds H call drawn allowed.given accepted)
    (adds_as_said H call drawn legal allowed.given.caller accepted).stamps

-- whose number is new: a registration has none, and all else its caller makes
pub accepted-new : (H : History) (call : Call) → IsAllowed H call
    → IsNewKey H (Some (made_by call.caller H call.command)) call.key
accepted-new H call allowed = by call.caller call.key call.command allowed.given.caller allowed.given.key allowed.unused
  where
    by : (caller : Option ℕ) (key : Option RetryKey) (command : Command) → IsCaller H caller command
        → IsKeyOf caller key → IsNewKey H caller key
        → IsNewKey H (Some (made_by caller H command)) key
    by caller None command may given new = tt
    by None (Some key) command may given new = absurd given
    by (Some user) (Some key) (Register name digest) may given new = absurd (none-some user (sym may))
    by (Some user) (Some key) command may given new = new

moved-groups : (H : History) (move : Move) → Legal H → IsMoveAllowed H move → AreGroups H → AreGroups (moved H move)
moved-groups H (calls call) legal allowed groups = by (judge (view call.caller H) call) refl
  where
    by : (r : Result Drawn Rule) → judge (view call.caller H) call ≡ r → AreGroups (followed_by H r)
    by (Err rule) is = groups
    by (Ok drawn) is =
        let group : IsGroup (stamp_added H call) drawn.group = accepted-group H call drawn legal allowed is in
        subst (λ (g : History). AreGroups (H ++ g)) (sym group.is)
        (group-behind H (stamp_added H call) group.entries (accepted-new H call allowed) groups)
moved-groups H (bulks bulk) legal allowed groups = by (judge_bulk (view (Some bulk.stamp.maker) H) bulk) refl
  where
    by : (r : Result Drawn Broken) → judge_bulk (view (Some bulk.stamp.maker) H) bulk ≡ r → AreGroups (followed_by H r)
    by (Err refusal) is = groups
    by (Ok drawn) is =
        let draws = bulk-draws bulk.stamp H bulk.rows drawn is in
        subst (λ (d : Drawn). AreGroups (H ++ d.group)) draws.drawn_is
        (group-behind H bulk.stamp draws.entries allowed.unused groups)

led-groups : (from to : History) (moves : List Move) → Legal from → AreGroups from → LeadsTo from moves to
    → AreGroups to
led-groups from to [] legal groups leads = subst AreGroups leads groups
led-groups from to (move ∷ moves) legal groups leads =
    led-groups (moved from move) to moves (Legal-moved from move legal leads.0)
    (moved-groups from move legal leads.0 groups) leads.1

-- ---- the law

pub numbers_once : NumbersOnce
numbers_once H user number legal = led-groups [] H legal.0 ([], refl) (λ user number. tt) legal.1 user number
