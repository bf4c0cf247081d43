-- SPDX-License-Identifier: Apache-2.0 OR MIT
-- A wish of the group's, on a history that looks the same to whoever gives it: it is answered the same, and adds the
-- same, of which nothing is filled in.
use Rattle.std.proofs.Common.{ℕ, Bool, true, false, ◌≡◌, ◌⊎◌, suc, List, [], ◌∷◌, ◌++◌, length, map, refl, sym, ap}
use Rattle.std.proofs.Common.{◌∙◌, Option, Some, None, Ok, inl, inr, ◌||◌}
use Rattle.std.specs.List.{AllByRecursion, list_any}
use Rattle.std.proofs.lemmas.Bool.{true≢false}
use Rattle.cr_base.specs.declared.bulk.BulkRow.{BulkRow}
use Rattle.cr_base.specs.declared.command.Command.{Command}
use Rattle.cr_base.specs.declared.entry.Entry.{Entry}
use Rattle.cr_base.specs.declared.entry.Entry.TheVariants as entries
use Rattle.cr_base.specs.declared.entry.Stamped.{Stamped}
use Rattle.cr_base.specs.declared.retry.RetryKey.{RetryKey}
use Rattle.cr_base.specs.Calls.{call_of, bulk_by, maker_of}
use Rattle.cr_base.specs.Drawn.{Drawn, stamped}
use Rattle.cr_base.specs.History.{History}
use Rattle.cr_base.specs.Lists.{given, is_number}
use Rattle.cr_base.specs.Retries.{Judged}
use Rattle.cr_history.proofs.ListCuts.{AllByRecursion-map, AllByRecursion-both}
use Rattle.cr_policy.specs.Judge.{judge, decide, decide_bulk}
use Rattle.cr_policy.specs.Legal.{IsCaller, IsKeyOf, Legal}
use Rattle.cr_policy.specs.View.{view}
use Rattle.cr_undeduced.specs.Payload.{Payload, Known, own_if}
use Rattle.cr_undeduced.specs.Undeducible.{Looking, past_one, known_of}
use Rattle.cr_undeduced.proofs.Fill.{fill, refilled, behind, mixed, mixed-fills, mixed_behind}
use Rattle.cr_wire.specs.declared.what.What.TheVariants as whats
use Rattle.cr_wire.specs.declared.what.Wish.{Wish}
use Rattle.cr_wire.specs.Caller.{caller}
use Rattle.cr_session.specs.Told.{sending_of, told, told_to, drawn, drawn_for}
use Rattle.cr_session.specs.Turning.{IsBoundedWish}
use Rattle.cr_session.specs.TwoRuns.{WishInTurn, is_same}
use Rattle.cr_session.proofs.Accepting.{Accepts, by_command, by_bulk}
use Rattle.cr_session.proofs.TurnLaws.{MayWish}
use Rattle.cr_laws.specs.GroupRuns.{is_theirs, exchange}
use Rattle.cr_laws.specs.AnotherRun.{is_made_by}
use Rattle.cr_laws.specs.UndeducibleBytes.{KeepsDigest, AreLeft}
use Rattle.cr_laws.proofs.AcceptedWishes.{command-accepted, bulk-accepted}
use Rattle.cr_laws.proofs.FilledWishes.{KeepDigests}
use Rattle.cr_laws.proofs.MadeBy.{Registers, user-made, nobody-registers, nobody-numbered, bulk-made}

-- ---- what is left as it is

-- filled in, the entry is itself where one of the group made it, and its digest is its own
pub record IsSpared (group : List (Option ℕ)) (y : Payload) (e : Stamped) : Type 0 where
  pub own : is_made_by group e ≡ true → fill y e.entry ≡ e.entry
  pub digest : KeepsDigest y e.entry

abbrev pub AreSpared : List (Option ℕ) → (ℕ → Payload) → History → Type 0
AreSpared group ys [] = Unit {0}
AreSpared group ys (e ∷ H) = IsSpared group (ys 0) e × AreSpared group (λ n. ys (suc n)) H

kept-either : {A : Type 0} (known : Bool) (own other : A) → other ≡ own → own_if known own other ≡ own
kept-either true own other same = refl
kept-either false own other same = same

digest-mixed : (known : Known) (x : Payload) (e : Entry) → KeepsDigest x e → KeepsDigest (mixed known e x) e
digest-mixed known x (entries.Registered user name digest) keeps = kept-either known.digest digest x.digest keeps
digest-mixed known x e keeps = tt

pub spared-mixed : (group : List (Option ℕ)) (looks : List Looking) (before : History) (xs : ℕ → Payload) (H : History)
    → AreLeft group xs H → AreSpared group (mixed_behind looks before xs H) H
spared-mixed group looks before xs [] left = tt
spared-mixed group looks before xs (e ∷ later) left = (
  record {
    own = λ made. sym (mixed-fills (known_of looks before e) (xs 0) e.entry)
        ∙ left.0.own made (known_of looks before e);
    digest = digest-mixed (known_of looks before e) (xs 0) e.entry left.0.digest;
  },
  spared-mixed group (map past_one looks) (before ++ e ∷ []) (λ n. xs (suc n)) later left.1,
)

-- of what stands before, and of what stands behind
pub spared-digests : (group : List (Option ℕ)) (ys : ℕ → Payload) (H g : History) → AreSpared group ys (H ++ g)
    → KeepDigests ys H
spared-digests group ys [] g spared = tt
spared-digests group ys (e ∷ H) g spared =
    (spared.0.digest, spared-digests group (λ n. ys (suc n)) H g spared.1)

pub spared-behind : (group : List (Option ℕ)) (ys : ℕ → Payload) (H g : History) → AreSpared group ys (H ++ g)
    → AreSpared group (behind (length H) ys) g
spared-behind group ys [] g spared = spared
spared-behind group ys (e ∷ H) g spared = spared-behind group (λ n. ys (suc n)) H g spared.1

pub spared-before : (group : List (Option ℕ)) (ys : ℕ → Payload) (g more : History) → AreSpared group ys (g ++ more)
    → AreSpared group ys g
spared-before group ys [] more spared = tt
spared-before group ys (e ∷ g) more spared =
    (spared.0, spared-before group (λ n. ys (suc n)) g more spared.1)

-- ---- whose entries a wish adds

-- one of the group made it, or it is a registration's, which has no number
abbrev pub IsTheirs : List (Option ℕ) → Stamped → Type 0
IsTheirs group e = (is_made_by group e ≡ true) ⊎ (Registers e.entry × (e.stamp.key ≡ None))

registers-same : (y : Payload) (e : Entry) → Registers e → KeepsDigest y e → fill y e ≡ e
registers-same y (entries.Registered user name digest) is keeps =
    ap (λ (d : List ℕ). entries.Registered user name d) keeps
registers-same y (entries.Named user role) is keeps = refl
registers-same y e is keeps = absurd is

entry-same : (group : List (Option ℕ)) (y : Payload) (e : Stamped) → IsTheirs group e → IsSpared group y e
    → fill y e.entry ≡ e.entry
entry-same group y e (inl made) spared = spared.own made
entry-same group y e (inr new) spared = registers-same y e.entry new.0 spared.digest

-- so nothing of them is filled in
pub group-same : (group : List (Option ℕ)) (ys : ℕ → Payload) (g : History) → AllByRecursion (IsTheirs group) g
    → AreSpared group ys g → refilled ys g ≡ g
group-same group ys [] theirs spared = refl
group-same group ys (e ∷ g) theirs spared =
    λ i. stamped e.stamp e.more (entry-same group (ys 0) e theirs.0 spared.0 i)
    ∷ group-same group (λ n. ys (suc n)) g theirs.1 spared.1 i

-- a user who is one of the group
same-number : (v : Option ℕ) (user : ℕ) → is_same v (Some user) ≡ is_number v user
same-number None user = refl
same-number (Some m) user = refl

pub one-of : (group : List (Option ℕ)) (user : ℕ)
    → list_any (λ v. is_same v (Some user)) group ≡ list_any (λ v. is_number v user) group
one-of [] user = refl
one-of (v ∷ group) user = λ i. same-number v user i || one-of group user i

module _ (group : List (Option ℕ)) (H : History) (legal : Legal H) (w : Wish) (bounds : IsBoundedWish w) (d : Drawn)
    (theirs : is_theirs group H w ≡ true) where
  u : Option ℕ
  u = caller H w

  made-theirs : (user : ℕ) → caller H w ≡ Some user → (e : Stamped) → e.stamp.maker ≡ user → IsTheirs group e
  made-theirs user is e made =
      inl (ap (λ (m : ℕ). list_any (λ v. is_number v m) group) made ∙ sym (one-of group user)
      ∙ ap (λ (c : Option ℕ). list_any (λ v. is_same v c) group) (sym is) ∙ theirs)

  command-theirs : (key : Option RetryKey) (command : Command) → MayWish H w (caller H w) (whats.Command key command)
      → decide (view (caller H w) H) (call_of (caller H w) w.at key command) ≡ Judged (Ok d)
      → AllByRecursion (IsTheirs group) d.group
  command-theirs key command may decided =
      let accepted = command-accepted H w d bounds (caller H w) key command may decided in
      let calls : IsCaller H (caller H w) command = accepted.0.given.caller in
      by (caller H w) refl calls accepted.0.given.key accepted.1
    where
      by : (u : Option ℕ) → caller H w ≡ u → IsCaller H u command → IsKeyOf u key
          → judge (view u H) (call_of u w.at key command) ≡ Ok d → AllByRecursion (IsTheirs group) d.group
      by (Some user) is calls given accepted =
          AllByRecursion-map (λ (e : Stamped). e.stamp.maker ≡ user) (IsTheirs group) (made-theirs user is) d.group
          (user-made H d user w.at key command legal calls accepted)
      by None is calls given accepted =
          AllByRecursion-map
          (λ (e : Stamped). Registers e.entry × (e.stamp.key ≡ None)) (IsTheirs group)
          (λ e both. inr both) d.group
          (AllByRecursion-both (λ (e : Stamped). Registers e.entry)
          (λ (e : Stamped). e.stamp.key ≡ None) d.group
          (nobody-registers H d w.at key command legal calls accepted)
          (nobody-numbered H d w.at key command legal calls given accepted))

  bulk-theirs : (user : ℕ) (key : Option RetryKey) (rows : List BulkRow) → caller H w ≡ Some user
      → MayWish H w (Some user) (whats.Bulk key rows)
      → decide_bulk (view (Some user) H) (bulk_by user w.at key rows) ≡ Judged (Ok d)
      → AllByRecursion (IsTheirs group) d.group
  bulk-theirs user key rows is may decided =
      AllByRecursion-map (λ (e : Stamped). e.stamp.maker ≡ user) (IsTheirs group) (made-theirs user is) d.group
      (bulk-made H d (bulk_by user w.at key rows) (bulk-accepted H w d bounds user key rows may decided).1)

  -- all that a wish of theirs adds
  pub adds-theirs : Accepts H w (caller H w) d → AllByRecursion (IsTheirs group) d.group
  adds-theirs (by_command key command may decided) = command-theirs key command may decided
  adds-theirs (by_bulk key rows may decided) = by (caller H w) refl may decided
    where
      by : (u : Option ℕ) → caller H w ≡ u → MayWish H w u (whats.Bulk key rows)
          → decide_bulk (view u H) (bulk_by (maker_of u) w.at key rows) ≡ Judged (Ok d)
          → AllByRecursion (IsTheirs group) d.group
      by None is may decided = absurd (true≢false may.may)
      by (Some user) is may decided = bulk-theirs user key rows is may decided

-- ---- the same on both histories

module _ (H H' : History) (w : WishInTurn) (calls : caller H' w.wish ≡ caller H w.wish)
    (sees : view (caller H w.wish) H ≡ view (caller H w.wish) H') where
  seen-same : view (caller H' w.wish) H' ≡ view (caller H w.wish) H
  seen-same = ap (λ (u : Option ℕ). view u H') calls ∙ sym sees

  pub draws-same : drawn H' w.wish ≡ drawn H w.wish
  unfolding drawn
  draws-same = λ i. drawn_for (calls i) (seen-same i) w.wish.at w.wish.what

  pub exchange-same : exchange H' w ≡ exchange H w
  unfolding told
  exchange-same = λ i. record {
    who = calls i;
    wish = w.wish;
    closes = w.closes;
    text = told_to (calls i) (seen-same i) w.wish.at (sending_of w.wish w.closes) w.wish.what;
  }
