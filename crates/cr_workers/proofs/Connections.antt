-- SPDX-License-Identifier: Apache-2.0 OR MIT
-- Connections that were served one after another, or side by side.
use Rattle.std.proofs.Common.{◌≡◌, ◌∙◌, ◌<◌, ◌≤◌, ◌⊎◌, inl, inr, ⊎_elim, List, [], ◌∷◌, ◌++◌, length, Bool, true, false}
use Rattle.std.proofs.Common.{nat_lt, if◌then◌else◌, refl, sym, ap, subst, arith}
use Rattle.std.proofs.lemmas.Bool.Decides.{nat_tests}
use mathlib.Core.List.{IsPrefix}
use Rattle.cr_base.specs.History.{History}
use Rattle.cr_lock.specs.Counts.{Among, Every, within}
use Rattle.cr_lock.specs.Turns.{groups_with, marks, rises, end_of, longer}
use Rattle.cr_lock.specs.Passes.{larger_half, smaller_half, united, Agree}
use Rattle.cr_lock.proofs.Prefixes.{prefix_self, prefix_trans, prefix_length, prefix_whole}
use Rattle.cr_lock.proofs.Reaching.{any_append, any_left, any_right, any_merged}
use Rattle.cr_lock.proofs.Sums.{total_append, total_merged}
use Rattle.cr_session.specs.Passing.{BookTurn, KnownPass}
use Rattle.cr_workers.specs.Connections.{Streams, ServedConnection, IsServed, IsServedWithin, ServeAll}
use Rattle.cr_workers.proofs.Grown.{every-append}

-- ---- the longer of two lists, of which one begins the other

longer-is : {A : Type 0} (xs ys : List A) (b : Bool) → (b ≡ true → length xs < length ys)
    → (b ≡ false → length ys ≤ length xs)
    → IsPrefix xs ys ⊎ IsPrefix ys xs
    → IsPrefix xs (if b then ys else xs) × IsPrefix ys (if b then ys else xs)
longer-is xs ys true up down (inl p) = (p, prefix_self ys)
longer-is xs ys true up down (inr p) =
    absurd (let le = prefix_length ys xs p in let lt = up refl in omega (arith, le, lt))
longer-is xs ys false up down (inl p) =
    (prefix_self xs, subst (λ zs. IsPrefix ys zs) (sym (prefix_whole xs ys p (down refl))) (prefix_self ys))
longer-is xs ys false up down (inr p) = (prefix_self xs, p)

longer-begins : {A : Type 0} (xs ys : List A) → IsPrefix xs ys ⊎ IsPrefix ys xs → IsPrefix xs (longer xs ys)
    × IsPrefix ys (longer xs ys)
longer-begins xs ys either = longer-is xs ys (nat_lt (length xs) (length ys)) (λ e. grind (arith, nat_tests))
    (λ e. grind (arith, nat_tests)) either

module _ {K I O C : Type 0} (streams : Streams K I O C) where
  -- ---- between earlier and later moments

  widened : (first first' last last' : History) → IsPrefix first' first → IsPrefix last last'
      → (cs : List (ServedConnection K I O C))
      → Every (IsServedWithin streams first last) cs → Every (IsServedWithin streams first' last') cs
  widened first first' last last' a b [] each = tt
  widened first first' last last' a b (c ∷ cs) each = (
    record {
      served = each.0.served;
      begins = prefix_trans first' first c.before.seen a each.0.begins;
      ends = prefix_trans c.after.seen last last' each.0.ends b;
    },
    widened first first' last last' a b cs each.1,
  )

  -- ---- none, one, one after another, side by side

  pub serve-none : (p : KnownPass K) → ServeAll streams [] p p
  serve-none p =
      record {
        each = tt;
        seen = prefix_self p.seen;
        groups = λ k. omega arith;
        marked = omega arith;
        rose = omega arith;
        taken = λ t a. inl a;
      }

  pub serve-one : (c : ServedConnection K I O C) → IsServed streams c → ServeAll streams (c ∷ []) c.before c.after
  serve-one c is = record {
    each = (record { served = is; begins = prefix_self c.before.seen; ends = prefix_self c.after.seen }, tt);
    seen = is.seen;
    groups =
        λ k. (let e = ap (groups_with k) is.mine ∙ total_append (λ (t : BookTurn K). within t.place (end_of t) k)
        c.before.mine c.turns in
        omega (arith, e));
    marked =
        (let e = ap marks is.mine ∙ total_append (λ (t : BookTurn K). if t.marked then 1 else 0) c.before.mine
        c.turns in omega (arith, e));
    rose =
        (let e = ap rises is.mine ∙ total_append (λ (t : BookTurn K). t.rise) c.before.mine c.turns in omega
        (arith, e));
    taken = λ t a. ⊎_elim (λ before. inl before) (λ own. inr (inl own))
        (any_append (λ (u : BookTurn K). t ≡ u) c.before.mine c.turns
        (subst (λ (ts : List (BookTurn K)). Among ts t) is.mine a));
  }

  pub serve-then : (cs ds : List (ServedConnection K I O C)) (p q r : KnownPass K) → ServeAll streams cs p q
      → ServeAll streams ds q r
      → ServeAll streams (cs ++ ds) p r
  serve-then cs ds p q r a b = record {
    each = every-append (IsServedWithin streams p.seen r.seen) cs ds
        (widened p.seen p.seen q.seen r.seen (prefix_self p.seen) b.seen cs a.each)
        (widened q.seen p.seen r.seen r.seen a.seen (prefix_self r.seen) ds b.each);
    seen = prefix_trans p.seen q.seen r.seen a.seen b.seen;
    groups = λ k. (
        let x = a.groups k in let y = b.groups k in let z =
        total_append (λ (c : ServedConnection K I O C). groups_with k c.turns) cs ds in omega (arith, x, y, z));
    marked =
        (let x = a.marked in let y = b.marked in let z =
        total_append (λ (c : ServedConnection K I O C). marks c.turns) cs
        ds in omega (arith, x, y, z));
    rose =
        (let x = a.rose in let y = b.rose in let z = total_append (λ (c : ServedConnection K I O C). rises c.turns) cs
        ds in omega (arith, x, y, z));
    taken = λ t mine. ⊎_elim
        (λ before. ⊎_elim (λ start. inl start) (λ own. inr (any_left (λ (c : ServedConnection K I O C). Among c.turns t)
        cs ds own)) (a.taken t before))
        (λ own. inr (any_right (λ (c : ServedConnection K I O C). Among c.turns t) cs ds own)) (b.taken t mine);
  }

  pub serve-both : (cs ds : List (ServedConnection K I O C)) (p q r : KnownPass K)
      → ServeAll streams cs (larger_half p) q → ServeAll streams ds (smaller_half p) r
      → Agree q r
      → ServeAll streams (cs ++ ds) p (united q r)
  serve-both cs ds p q r a b agree =
      let long = longer-begins q.seen r.seen agree.0 in record {
        each = every-append (IsServedWithin streams p.seen (longer q.seen r.seen)) cs ds
            (widened p.seen p.seen q.seen (longer q.seen r.seen) (prefix_self p.seen) long.0 cs a.each)
            (widened p.seen p.seen r.seen (longer q.seen r.seen) (prefix_self p.seen) long.1 ds b.each);
        seen = prefix_trans p.seen q.seen (longer q.seen r.seen) a.seen long.0;
        groups = λ k. (
            let x = a.groups k in let y = b.groups k in
            let m = total_merged (λ (t : BookTurn K). within t.place (end_of t) k) q.mine r.mine in
            let z = total_append (λ (c : ServedConnection K I O C). groups_with k c.turns) cs ds in omega
            (arith, x, y, z, m));
        marked = (
            let x = a.marked in let y = b.marked in
            let m = total_merged (λ (t : BookTurn K). if t.marked then 1 else 0) q.mine r.mine in
            let z = total_append (λ (c : ServedConnection K I O C). marks c.turns) cs ds in omega (arith, x, y, z, m));
        rose = (
            let x = a.rose in let y = b.rose in
            let m = total_merged (λ (t : BookTurn K). t.rise) q.mine r.mine in
            let z = total_append (λ (c : ServedConnection K I O C). rises c.turns) cs ds in omega (arith, x, y, z, m));
        taken = λ t mine. ⊎_elim
            (λ one. ⊎_elim (λ start. inl start)
            (λ own. inr (any_left (λ (c : ServedConnection K I O C). Among c.turns t) cs ds own)) (a.taken t one))
            (λ other. ⊎_elim (λ none. absurd none)
            (λ own. inr (any_right (λ (c : ServedConnection K I O C). Among c.turns t) cs ds own)) (b.taken t other))
            (any_merged (λ (u : BookTurn K). t ≡ u) q.mine r.mine mine);
      }
