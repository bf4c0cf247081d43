-- SPDX-License-Identifier: Apache-2.0 OR MIT
-- Rows that spell entries, and entries that make a group: how far one list goes, where two begin alike.
use Rattle.std.proofs.Common.{true, false, ◌≡◌, List, [], ◌∷◌, ◌++◌, refl, sym, ap, subst, ◌∙◌, Option, None, Some}
use Rattle.std.specs.List.{AllByRecursion}
use Rattle.std.specs.Option.{option_map}
use Rattle.std.proofs.lemmas.Bool.{true≢false}
use Rattle.std.proofs.lemmas.List.Elements.{recursion_from_All}
use Rattle.cr_base.specs.declared.entry.Entry.{Entry}
use Rattle.cr_base.specs.declared.entry.Stamped.{Stamped}
use Rattle.cr_base.specs.declared.row.Row.{Row}
use Rattle.cr_base.specs.History.{History}
use Rattle.cr_base.specs.Rows.{built, kind_of, row_of, rows_of, stamped_by, IsBoundedEntry}
use Rattle.cr_base.specs.Shapes.{FitsStamp}
use Rattle.cr_base.proofs.RowLaws.{restored-row_of, same_entry}
use Rattle.cr_policy.specs.Legal.{Legal}
use Rattle.cr_policy.proofs.LegalLaws.{legal_invariants}
use Rattle.cr_beginnings.specs.Beginnings.{IsGroup}

-- ---- rows

pub head_is : {A : Type 0} (x y : A) (xs ys : List A) → x ∷ xs ≡ y ∷ ys → x ≡ y
head_is x y xs ys e = cc (e)

pub tail_is : {A : Type 0} (x y : A) (xs ys : List A) → x ∷ xs ≡ y ∷ ys → xs ≡ ys
tail_is x y xs ys e = cc (e)

cons_is : {A : Type 0} (x y : A) (xs ys : List A) → x ≡ y → xs ≡ ys → x ∷ xs ≡ y ∷ ys
cons_is x y xs ys e f = cc

pub empty_not : {A : Type 0} (x : A) (xs : List A) → [] ≡ x ∷ xs → ⊥
empty_not x xs e = cc (e)

-- a history whose rows begin with another's begins with it
pub rows-split : (G H : History) (after : List Row) → AllByRecursion IsBoundedEntry G → AllByRecursion IsBoundedEntry H
    → rows_of H ≡ rows_of G ++ after → (tail : History) × (H ≡ G ++ tail) × (rows_of tail ≡ after)
rows-split [] H after bg bh e = (H, refl, e)
rows-split (g ∷ G) [] after bg bh e = absurd (empty_not (row_of g) (rows_of G ++ after) e)
rows-split (g ∷ G) (h ∷ H) after bg bh e =
    let rest = rows-split G H after bg.1 bh.1 (tail_is (row_of h) (row_of g) (rows_of H) (rows_of G ++ after) e) in (
      rest.0,
      cons_is h g H (G ++ rest.0) (same_entry h g bh.0 bg.0
          (head_is (row_of h) (row_of g) (rows_of H) (rows_of G ++ after) e)) rest.1,
      rest.2,
    )

-- the stamp of an entry within its bounds is within its own: it is the one that the entry's row spells
pub bounded-stamp : (s : Stamped) → IsBoundedEntry s → FitsStamp s.stamp
bounded-stamp s bounded = by (built (kind_of s.entry) (row_of s)) (restored-row_of s bounded)
  where
    by : (e : Option Entry) → option_map (stamped_by (row_of s)) e ≡ Some s → FitsStamp s.stamp
    by None none = cc (none)
    by (Some e) is = subst FitsStamp (spelled (stamped_by (row_of s) e) is) bounded.stamp
      where
        spelled : (x : Stamped) → ◌≡◌ {A = Option Stamped} (Some x) (Some s) → x.stamp ≡ s.stamp
        spelled x e = let same : x ≡ s = cc (e) in ap (λ (y : Stamped). y.stamp) same

-- the entries of a legal history have rows
pub legal-bounded : (H : History) → Legal H → AllByRecursion IsBoundedEntry H
legal-bounded H legal = recursion_from_All IsBoundedEntry H (legal_invariants H legal).bounded

-- those of its last part, and those of its first
pub last-bounded : (G H : History) → AllByRecursion IsBoundedEntry (G ++ H) → AllByRecursion IsBoundedEntry H
last-bounded [] H all = all
last-bounded (e ∷ G) H all = last-bounded G H all.1

pub first-bounded : (G H : History) → AllByRecursion IsBoundedEntry (G ++ H) → AllByRecursion IsBoundedEntry G
first-bounded [] H all = tt
first-bounded (e ∷ G) H all = (all.0, first-bounded G H all.1)

-- ---- groups

marks_differ : (e f : Stamped) → e ≡ f → e.more ≡ false → f.more ≡ true → ⊥
marks_differ e f same last more = true≢false (sym more ∙ ap (λ (s : Stamped). s.more) (sym same) ∙ last)

-- of two groups that begin the same list each is the other
pub group-first : (g h a b : History) → IsGroup g → IsGroup h → g ++ a ≡ h ++ b → g ≡ h
group-first [] h a b ig ih s = elim ig [ ]
group-first (e ∷ []) [] a b ig ih s = elim ih [ ]
group-first (e ∷ e' ∷ g) [] a b ig ih s = elim ih [ ]
group-first (e ∷ []) (f ∷ []) a b ig ih s = ap (λ x. x ∷ []) (head_is e f a b s)
group-first (e ∷ []) (f ∷ f' ∷ h) a b ig ih s = absurd (marks_differ e f (head_is e f a (f' ∷ h ++ b) s) ig ih.0)
group-first (e ∷ e' ∷ g) (f ∷ []) a b ig ih s = absurd (marks_differ f e (sym (head_is e f (e' ∷ g ++ a) b s)) ih ig.0)
group-first (e ∷ e' ∷ g) (f ∷ f' ∷ h) a b ig ih s =
    cons_is e f (e' ∷ g) (f' ∷ h) (head_is e f (e' ∷ g ++ a) (f' ∷ h ++ b) s)
    (group-first (e' ∷ g) (f' ∷ h) a b ig.1 ih.1 (tail_is e f (e' ∷ g ++ a) (f' ∷ h ++ b) s))
