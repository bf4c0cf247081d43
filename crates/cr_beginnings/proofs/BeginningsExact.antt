-- SPDX-License-Identifier: Apache-2.0 OR MIT
-- Entries that are due, each behind those before it, are exactly the beginnings of groups that allowed commands and bulks
-- add.
use Rattle.std.proofs.Common.{ℕ, Bool, true, false, cond, ◌≡◌, ◌≤◌, ◌+◌, ◌⊎◌, inl, inr, List, [], ◌∷◌, ◌++◌, length, suc}
use Rattle.std.proofs.Common.{refl, sym, ap, subst, ◌∙◌, arith, append-nil, length-append}
use Rattle.std.specs.Prelude.{nat_le, nat_lt, ◌↔◌}
use Rattle.std.specs.List.{AllByRecursion}
use Rattle.std.proofs.lemmas.Bool.{true≢false}
use Rattle.std.proofs.lemmas.Bool.Decides.{nat_tests}
use Rattle.std.proofs.lemmas.List.{append_cancel_left, length-map}
use Rattle.cr_base.specs.declared.entry.Entry.{Entry}
use Rattle.cr_base.specs.declared.entry.Entry.TheVariants as entries
use Rattle.cr_base.specs.declared.entry.Stamp.{Stamp}
use Rattle.cr_base.specs.declared.entry.Stamped.{Stamped}
use Rattle.cr_base.specs.declared.words.Role.TheVariants.{Chair}
use Rattle.cr_base.specs.Drawn.{stamped, grouped}
use Rattle.cr_base.specs.History.{History}
use Rattle.cr_base.specs.Rows.{bit_number, IsBoundedEntry}
use Rattle.cr_base.specs.Tables.{Tables, tables_of}
use Rattle.cr_base.proofs.ResolvingLaws.{IsLone}
use Rattle.cr_policy.specs.Legal.{calls, bulks, followed_by, moved, IsMoveAllowed, Legal, Move}
use Rattle.cr_policy.proofs.LegalLaws.{Legal-moved}
use Rattle.cr_beginnings.specs.Beginnings.{is_first_user, lesser, AreDue, Beginnings}
use Rattle.cr_beginnings.specs.Beginnings.{IsBegun, IsGroup}
use Rattle.cr_beginnings.proofs.BeginningAdds.{alone-adds, register-adds, submission-adds}
use Rattle.cr_beginnings.proofs.BeginningAuthors.{another, behind-users, one-more}
use Rattle.cr_beginnings.proofs.BeginningCalls.{IsAdded, call-begins, least}
use Rattle.cr_beginnings.proofs.BeginningLaws.{unfinished, marked, marked-grouped, marked-unfinished, marked-more, Begins}
use Rattle.cr_beginnings.proofs.BeginningLaws.{AreBehind, IsBeginning, begins-due, due-begins, front-begins}
use Rattle.cr_beginnings.proofs.BeginningRows.{bulk-adds, bulk-begins}
use Rattle.cr_beginnings.proofs.BeginningTags.{Further, one-tag}
use Rattle.cr_beginnings.proofs.GroupLegal.{MayMove, Moved, may_move-group, moved-or}
use Rattle.cr_beginnings.proofs.GroupRows.{empty_not, first-bounded, head_is, last-bounded, legal-bounded, tail_is}

-- ---- within the bounds

-- a mark makes no difference to them
bounded-marked : (stamp : Stamp) (m n : Bool) (e : Entry) → IsBoundedEntry (stamped stamp m e)
    → IsBoundedEntry (stamped stamp n e)
bounded-marked stamp m n e b = record {
  stamp = b.stamp;
  unmarked = b.unmarked;
  more = by n;
  n1 = b.n1;
  n2 = b.n2;
  n3 = b.n3;
  n4 = b.n4;
  n5 = b.n5;
  b1 = b.b1;
  b2 = b.b2;
}
  where
    by : (n : Bool) → bit_number n ≤ 1
    by true = omega arith
    by false = omega arith

abbrev AreBounded : Stamp → List Entry → Type 0
AreBounded stamp es = AllByRecursion (λ (e : Entry). IsBoundedEntry (unfinished stamp e)) es

bounded-from : (stamp : Stamp) (es : List Entry) (more : Bool) → AllByRecursion IsBoundedEntry (marked stamp es more)
    → AreBounded stamp es
bounded-from stamp [] more all = tt
bounded-from stamp (e ∷ []) more all = (bounded-marked stamp more true e all.0, tt)
bounded-from stamp (e ∷ next ∷ es) more all = (all.0, bounded-from stamp (next ∷ es) more all.1)

pub due-bounded : (H before es : History) → AreDue H before es → AllByRecursion IsBoundedEntry es
due-bounded H before [] due = tt
due-bounded H before (s ∷ es) due = (due.0.bounded, due-bounded H (before ++ s ∷ []) es due.1)

-- ---- moves

-- a group that a move may add, it adds
pub may-moved : (H group : History) → MayMove H group
    → (move : Move) × IsMoveAllowed H move × (moved H move ≡ H ++ group)
may-moved H group (inl add) = (
  calls add.call,
  add.allowed,
  ap (followed_by H) add.accepted ∙ ap (λ (g : History). H ++ g) (sym add.group_is),
)
may-moved H group (inr add) = (
  bulks add.bulk,
  add.allowed,
  ap (followed_by H) add.accepted ∙ ap (λ (g : History). H ++ g) (sym add.group_is),
)

-- and where a move adds entries, it may
pub begun-may : (H front : History) → 1 ≤ length front → (begun : IsBegun H front) → MayMove H (front ++ begun.after)
begun-may H front some begun = by (moved-or H begun.move begun.allowed)
  where
    by : (moved H begun.move ≡ H) ⊎ Moved H (moved H begun.move) → MayMove H (front ++ begun.after)
    by (inl same) =
        let all = ap length (sym same ∙ begun.adds) in
        let n = length-append H (front ++ begun.after) in
        let m = length-append front begun.after in
        absurd (omega (arith, all, n, m, some))
    by (inr on) =
        subst (λ (g : History). MayMove H g)
        (append_cancel_left H on.group (front ++ begun.after) (sym on.to_is ∙ begun.adds)) on.move

module _ (H : History) (legal : Legal H) where
  abbrev t : Tables
  t = tables_of H

  -- what a move adds is a beginning of which no other follows
  move-begins : (group : History) → MayMove H group → IsAdded H group
  move-begins group (inl add) =
      subst (λ (g : History). IsAdded H g) (sym add.group_is)
      (call-begins H legal add.call add.drawn add.allowed add.accepted)
  move-begins group (inr rows) = bulk-begins H legal group rows

  -- and such a beginning some move adds
  lone-adds : (stamp : Stamp) (first : Entry) (behind : List Entry) → IsLone first
      → IsBeginning H stamp first behind false → AreBounded stamp (first ∷ behind)
      → MayMove H (grouped stamp (first ∷ behind))
  lone-adds stamp first [] lone begun bounded = inl (alone-adds H legal stamp true first lone begun.may bounded.0)
  lone-adds stamp first (e ∷ behind) lone begun bounded =
      inr (bulk-adds H legal stamp first e behind lone begun bounded)

  beginning-adds : (stamp : Stamp) (first : Entry) (behind : List Entry) → IsBeginning H stamp first behind false
      → IsBoundedEntry (unfinished stamp first) → (IsLone first → AreBounded stamp behind)
      → MayMove H (grouped stamp (first ∷ behind))
  beginning-adds stamp (entries.Registered user name digest) behind begun bounded rest =
      inl (register-adds H legal stamp true user name digest behind begun bounded)
  beginning-adds stamp (entries.Submitted paper title abstract) behind begun bounded rest =
      inl (submission-adds H legal stamp true paper title abstract behind begun bounded)
  beginning-adds stamp first behind begun bounded rest =
      lone-adds stamp first behind tt begun (bounded, rest tt)

  -- ---- one more

  -- the role behind the first registration
  register-further : (stamp : Stamp) (user : ℕ) (name digest : List ℕ) (behind : List Entry)
      → IsBeginning H stamp (entries.Registered user name digest) behind true
      → Further H stamp (entries.Registered user name digest) behind
  register-further stamp user name digest behind begun = by (is_first_user t) refl behind begun.count
    where
      first : Entry
      first = entries.Registered user name digest

      no-two : (n : ℕ) → nat_lt (suc n + 1) 2 ≡ true → ⊥
      no-two n h = grind (arith, nat_tests, h)

      no-one : (n : ℕ) → nat_lt (n + 1) 1 ≡ true → ⊥
      no-one n h = grind (arith, nat_tests, h)

      by : (b : Bool) → is_first_user t ≡ b → (behind : List Entry)
          → nat_lt (length behind + 1) (cond (is_first_user t) 2 1) ≡ true → Further H stamp first behind
      by true is [] count = record {
        entry = entries.Named user Chair;
        bounded = λ lone. absurd lone;
        beginning = record {
          may = begun.may;
          behind_are = (refl, tt);
          room = λ some. ap (λ (b : Bool). nat_lt 1 (cond b 2 1)) is;
          count = ap (λ (b : Bool). nat_le (cond b 2 1) 2) is;
        };
      }
      by true is (e ∷ es) count =
          absurd (no-two (length es) (sym (ap (λ (b : Bool). nat_lt (suc (length es) + 1) (cond b 2 1)) is) ∙ count))
      by false is behind count =
          absurd (no-one (length behind) (sym (ap (λ (b : Bool). nat_lt (length behind + 1) (cond b 2 1)) is) ∙ count))

  -- a co-author who is free
  submission-further : (stamp : Stamp) (paper : ℕ) (title abstract : List ℕ) (behind : List Entry)
      → IsBeginning H stamp (entries.Submitted paper title abstract) behind true
      → Further H stamp (entries.Submitted paper title abstract) behind
  submission-further stamp paper title abstract behind begun =
      let told = behind-users t stamp paper title abstract [] behind begun.behind_are in
      let n : length behind ≡ length told.users =
      ap length told.behind_is ∙ length-map told.users (λ (user : ℕ). entries.Coauthor paper user) in
      let l = below (length behind + 1) (length t.accounts) begun.count in
      let free = another t stamp paper title abstract told.users (omega (arith, n, l)) in
      let e : Entry = entries.Coauthor paper free.user in
      let m = length-append behind (e ∷ []) in
      record {
        entry = e;
        bounded = λ lone. absurd lone;
        beginning = record {
          may = begun.may;
          behind_are = subst (λ (es : List Entry). AreBehind t stamp (entries.Submitted paper title abstract) []
              (es ++ e ∷ [])) (sym told.behind_is) (one-more t stamp paper title abstract told.users free
              (subst (λ (es : List Entry). AreBehind t stamp (entries.Submitted paper title abstract) [] es)
              told.behind_is begun.behind_are));
          room = λ some. ap (λ (k : ℕ). nat_lt k (lesser 20 (length t.accounts))) m ∙ begun.count;
          count = least (length (behind ++ e ∷ []));
        };
      }
    where
      below : (n k : ℕ) → nat_lt n (lesser 20 k) ≡ true → suc n ≤ k
      below n k h = by (nat_le 20 k) refl h
        where
          by : (b : Bool) → nat_le 20 k ≡ b → nat_lt n (cond b 20 k) ≡ true → suc n ≤ k
          by true is h = grind (arith, nat_tests, h, is)
          by false is h = grind (arith, nat_tests, h)

  further : (stamp : Stamp) (first : Entry) (behind : List Entry) → IsBeginning H stamp first behind true
      → IsBoundedEntry (unfinished stamp first) → Further H stamp first behind
  further stamp (entries.Registered user name digest) behind begun bounded =
      register-further stamp user name digest behind begun
  further stamp (entries.Submitted paper title abstract) behind begun bounded =
      submission-further stamp paper title abstract behind begun
  further stamp first behind begun bounded = one-tag H stamp first behind tt begun bounded

  -- ---- what is due some move adds

  both-bounded : (stamp : Stamp) (es : List Entry) (e : Entry) → AreBounded stamp es
      → IsBoundedEntry (unfinished stamp e) → AreBounded stamp (es ++ e ∷ [])
  both-bounded stamp [] e all one = (one, tt)
  both-bounded stamp (x ∷ es) e all one = (all.0, both-bounded stamp es e all.1 one)

  begun-by : (front group after : History) → MayMove H group → group ≡ front ++ after → IsBegun H front
  begun-by front group after may is =
      let m = may-moved H group may in
      record { move = m.0; allowed = m.1; after = after; adds = m.2 ∙ ap (λ (g : History). H ++ g) is }

  due-begun : (s : Stamped) (es : History) → AreDue H [] (s ∷ es) → IsBegun H (s ∷ es)
  due-begun s es due = by b.more refl
    where
      b : Begins H (s ∷ es)
      b = due-begins H s es due

      bounded : AreBounded b.stamp (b.first ∷ b.behind)
      bounded = bounded-from b.stamp (b.first ∷ b.behind) b.more
          (subst (λ (g : History). AllByRecursion IsBoundedEntry g) b.es_are (due-bounded H [] (s ∷ es) due))

      by : (more : Bool) → b.more ≡ more → IsBegun H (s ∷ es)
      by false is =
          begun-by (s ∷ es) (grouped b.stamp (b.first ∷ b.behind)) []
          (beginning-adds b.stamp b.first b.behind
          (subst (λ (m : Bool). IsBeginning H b.stamp b.first b.behind m) is b.beginning) bounded.0 (λ lone. bounded.1))
          (sym (b.es_are ∙ ap (marked b.stamp (b.first ∷ b.behind)) is ∙ marked-grouped b.stamp (b.first ∷ b.behind))
          ∙ sym (append-nil (s ∷ es)))
      by true is =
          let more : Further H b.stamp b.first b.behind =
          further b.stamp b.first b.behind
          (subst (λ (m : Bool). IsBeginning H b.stamp b.first b.behind m) is b.beginning) bounded.0 in
          begun-by (s ∷ es) (grouped b.stamp (b.first ∷ b.behind ++ more.entry ∷ []))
          (stamped b.stamp false more.entry ∷ [])
          (beginning-adds b.stamp b.first (b.behind ++ more.entry ∷ []) more.beginning bounded.0
          (λ lone. both-bounded b.stamp b.behind more.entry bounded.1 (more.bounded lone)))
          (sym (marked-grouped b.stamp (b.first ∷ b.behind ++ more.entry ∷ []))
          ∙ sym (marked-more b.stamp (b.first ∷ b.behind) more.entry false)
          ∙ ap (λ (g : History). g ++ stamped b.stamp false more.entry ∷ [])
          (marked-unfinished b.stamp (b.first ∷ b.behind) ∙ sym (b.es_are ∙ ap (marked b.stamp (b.first ∷ b.behind)) is)))

-- ---- what a move adds is due

-- entries that a group begins with are the whole of it, or such that another follows
data Cut (stamp : Stamp) (first : Entry) (behind : List Entry) (front : History) : Type 0 where
  whole : front ≡ marked stamp (first ∷ behind) false → Cut stamp first behind front
  inside : (before : List Entry) (e : Entry) (after : List Entry) → behind ≡ before ++ e ∷ after
      → front ≡ marked stamp (first ∷ before) true → Cut stamp first behind front

cut : (stamp : Stamp) (first : Entry) (behind : List Entry) (s : Stamped) (es after : History)
    → grouped stamp (first ∷ behind) ≡ s ∷ (es ++ after) → Cut stamp first behind (s ∷ es)
cut stamp first [] s [] after e =
    whole (ap (λ (x : Stamped). x ∷ []) (sym (head_is (stamped stamp false first) s [] after e)))
cut stamp first [] s (next ∷ es) after e =
    absurd (empty_not next (es ++ after) (tail_is (stamped stamp false first) s [] (next ∷ (es ++ after)) e))
cut stamp first (x ∷ behind) s [] after e =
    inside [] x behind refl
    (ap (λ (y : Stamped). y ∷ []) (sym (head_is (unfinished stamp first) s (grouped stamp (x ∷ behind)) after e)))
cut stamp first (x ∷ behind) s (next ∷ es) after e =
    by
    (cut stamp x behind next es after
    (tail_is (unfinished stamp first) s (grouped stamp (x ∷ behind)) (next ∷ (es ++ after)) e))
  where
    here : s ≡ unfinished stamp first
    here = sym (head_is (unfinished stamp first) s (grouped stamp (x ∷ behind)) (next ∷ (es ++ after)) e)

    by : Cut stamp x behind (next ∷ es) → Cut stamp first (x ∷ behind) (s ∷ next ∷ es)
    by (whole is) = whole (λ i. here i ∷ is i)
    by (inside before y rest behind_is is) =
        inside (x ∷ before) y rest (ap (λ (ys : List Entry). x ∷ ys) behind_is) (λ i. here i ∷ is i)

begun-due : (H : History) (legal : Legal H) (s : Stamped) (es : History) → IsBegun H (s ∷ es) → AreDue H [] (s ∷ es)
begun-due H legal s es begun =
    by (cut added.stamp added.first added.behind s es begun.after (sym added.group_is))
  where
    added : IsAdded H (s ∷ (es ++ begun.after))
    added = move-begins H legal (s ∷ (es ++ begun.after)) (begun-may H (s ∷ es) (omega arith) begun)

    bounded : AllByRecursion IsBoundedEntry (s ∷ es)
    bounded = first-bounded (s ∷ es) begun.after
        (last-bounded H (s ∷ (es ++ begun.after))
        (subst (λ (G : History). AllByRecursion IsBoundedEntry G) begun.adds
        (legal-bounded (moved H begun.move) (Legal-moved H begun.move legal begun.allowed))))

    due : (behind : List Entry) (more : Bool) → IsBeginning H added.stamp added.first behind more
        → s ∷ es ≡ marked added.stamp (added.first ∷ behind) more → AreDue H [] (s ∷ es)
    due behind more b is =
        subst (λ (G : History). AreDue H [] G) (sym is)
        (begins-due H added.stamp added.first behind more b
        (subst (λ (G : History). AllByRecursion IsBoundedEntry G) is bounded))

    by : Cut added.stamp added.first added.behind (s ∷ es) → AreDue H [] (s ∷ es)
    by (whole is) = due added.behind false added.beginning is
    by (inside before e rest behind_is is) =
        due before true
        (front-begins H added.stamp added.first before e rest false
        (subst (λ (es : List Entry). IsBeginning H added.stamp added.first es false) behind_is added.beginning)) is

-- ---- whole ones

-- a group ends with its first entry that has no other behind it
group-last : (es : History) (last : Stamped) (after : History) → IsGroup ((es ++ last ∷ []) ++ after)
    → (last.more ≡ false) ↔ (after ≡ [])
group-last [] last [] group = (λ is. refl, λ is. group)
group-last [] last (a ∷ after) group =
    (λ is. absurd (true≢false (sym group.0 ∙ is)), λ is. absurd (empty_not a after (sym is)))
group-last (e ∷ []) last after group = group-last [] last after group.1
group-last (e ∷ next ∷ es) last after group = group-last (next ∷ es) last after group.1

pub beginnings : Beginnings
beginnings H legal = record {
  begins = λ s es. (due-begun H legal s es, begun-due H legal s es);
  whole = ends;
  adds = adds;
}
  where
    some : (es : History) (last : Stamped) → 1 ≤ length (es ++ last ∷ [])
    some es last = let n = length-append es (last ∷ []) in omega (arith, n)

    ends : (es : History) (last : Stamped) (begun : IsBegun H (es ++ last ∷ []))
        → (last.more ≡ false) ↔ (begun.after ≡ [])
    ends es last begun =
        group-last es last begun.after
        (may_move-group H ((es ++ last ∷ []) ++ begun.after)
        (begun-may H (es ++ last ∷ []) (some es last) begun))

    begun-of : (es : History) (last : Stamped) → AreDue H [] (es ++ last ∷ []) → IsBegun H (es ++ last ∷ [])
    begun-of [] last due = due-begun H legal last [] due
    begun-of (s ∷ es) last due = due-begun H legal s (es ++ last ∷ []) due

    adds : (es : History) (last : Stamped) → AreDue H [] (es ++ last ∷ []) → last.more ≡ false
        → (move : Move) × IsMoveAllowed H move × (moved H move ≡ H ++ (es ++ last ∷ []))
    adds es last due is =
        let begun = begun-of es last due in (
          begun.move,
          begun.allowed,
          begun.adds ∙ ap (λ (g : History). H ++ ((es ++ last ∷ []) ++ g)) ((ends es last begun).0 is)
              ∙ ap (λ (g : History). H ++ g) (append-nil (es ++ last ∷ [])),
        )
