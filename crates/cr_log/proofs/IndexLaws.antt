-- SPDX-License-Identifier: Apache-2.0 OR MIT
-- What the index of numbers finds, and what it is after the entries of one command more.
use Rattle.std.proofs.Common.{ℕ, Bool, true, false, cond, ◌≡◌, ◌+◌, ◌<◌, ◌&&◌, [], ◌∷◌, ◌++◌, length, get_or, zero, suc}
use Rattle.std.proofs.Common.{eqb, refl, sym, ap, subst, ◌∙◌, arith, append-nil, Option, Some, None, IfSome}
use Rattle.std.specs.List.{AllByRecursion, slice_get, position_from}
use Rattle.std.specs.Option.{option_map}
use Rattle.std.specs.Prelude.{filter, is_some, not, IsTrue, ◌↔◌}
use Rattle.std.proofs.lemmas.Bool.{eqb-true, and_parts, true≢false}
use Rattle.std.proofs.lemmas.List.Elements.{filter-append}
use Rattle.std.proofs.lemmas.Option.{slice_get_read}
use Rattle.std.specs.declared.hash.FoldHasher.{FoldHasher}
use Rattle.std.specs.declared.hash.BuildHasherDefault.{BuildHasherDefault}
use Rattle.std.proofs.Math.Bool.{and-false}
use Rattle.indexmap.specs.IndexMap.{IndexMap, get}
use Rattle.cr_base.specs.declared.entry.Stamp.{Stamp}
use Rattle.cr_base.specs.declared.entry.Stamped.{Stamped}
use Rattle.cr_base.specs.declared.retry.RetryKey.{RetryKey}
use Rattle.cr_base.specs.History.{History}
use Rattle.cr_base.specs.Keys.{has_number, kept_under, IsUnused}
use Rattle.cr_log.specs.declared.given.GivenNumber.{GivenNumber}
use Rattle.cr_log.specs.declared.log.Place.{Place}
use Rattle.cr_log.specs.Given.{is_same, number_by, number_given, MayFollow}
use Rattle.cr_log.specs.Index.{is_under, place_of, IsNumberIndex}
use Rattle.cr_log.specs.Seen.{SeenKept, seen_kept}
use Rattle.cr_log.proofs.Passing.{none-passes, first-passes, first-behind, none-of, all-of, first-before}

-- ---- what is found

abbrev kept : History → GivenNumber → History
kept H n = kept_under n.user n.number H

-- a place, and what is seen of what stands there
abbrev pub placed : ℕ → ℕ → Place
placed count first = record { first = first; count = count }

abbrev seen_as : Stamped → ℕ → SeenKept
seen_as first count = record { first = first; count = count }

pub found-none : (H : History) (n : GivenNumber) → place_of H n ≡ None → seen_kept (kept H n) ≡ None
found-none H n none = by (position_from (is_under n) 0 H) refl none
  where
    by : (found : Option ℕ) → position_from (is_under n) 0 H ≡ found
        → option_map (placed (length (kept H n))) found ≡ None → seen_kept (kept H n) ≡ None
    by None is none = ap seen_kept (none-passes (is_under n) H 0 is)
    by (Some k) is none = cc (none)

-- nothing is found where there are no entries
pub none-kept : (group : History) (found : Option SeenKept) (none : Bool) → is_some found ≡ not none
    → found ≡ seen_kept group → IsTrue none ↔ (group ≡ [])
none-kept [] found true told is = (λ h. refl, λ h. refl)
none-kept [] found false told is = absurd (true≢false (sym told ∙ ap is_some is))
none-kept (e ∷ es) found true told is = absurd (true≢false (sym (ap is_some is) ∙ told))
none-kept (e ∷ es) found false told is = (λ h. absurd (true≢false (sym h)), λ h. cc (h))

-- the first entry stands at the place that is found
pub record IsFound (H : History) (n : GivenNumber) (place : Place) : Type 0 where
  pub first : Stamped
  pub here : slice_get H place.first ≡ Some first
  pub seen : seen_kept (kept H n) ≡ Some (seen_as first place.count)

pub found-some : (H : History) (n : GivenNumber) (place : Place) → place_of H n ≡ Some place → IsFound H n place
found-some H n place some = by (position_from (is_under n) 0 H) refl some
  where
    by : (found : Option ℕ) → position_from (is_under n) 0 H ≡ found
        → option_map (placed (length (kept H n))) found ≡ Some place → IsFound H n place
    by None is some = cc (some)
    by (Some k) is some =
        let p = first-passes (is_under n) H 0 k is in
        let at : placed (length (kept H n)) k ≡ place = cc (some) in
        let from = p.place in
        let first : k ≡ place.first = ap (λ (x : Place). x.first) at in
        let place_is : p.from ≡ place.first = omega (arith, from, first) in
        record {
          first = p.first;
          here = subst (λ (i : ℕ). slice_get H i ≡ Some p.first) place_is p.here;
          seen = ap seen_kept p.all ∙ ap (λ (m : ℕ). Some (seen_as p.first m))
              (ap length (sym p.all) ∙ ap (λ (x : Place). x.count) at);
        }

-- ---- by the index

module _ (H log : History) (index : IndexMap GivenNumber Place (BuildHasherDefault FoldHasher)) (n : GivenNumber)
    (indexed : IsNumberIndex H index) (same : H ≡ log) where
  place-told : (found : Option Place) → found ≡ get is_same index n → place_of log n ≡ found
  place-told found is = ap (λ (h : History). place_of h n) (sym same) ∙ sym (is ∙ indexed n)

  pub index-none : None ≡ get is_same index n → None ≡ seen_kept (kept log n)
  index-none none = sym (found-none log n (place-told None none))

  module _ (place : Place) (some : Some place ≡ get is_same index n) where
    found : IsFound log n place
    found = found-some log n place (place-told (Some place) some)

    pub index-within : place.first < length log
    index-within = within log place.first found.first found.here
      where
        within : (xs : History) (i : ℕ) (x : Stamped) → slice_get xs i ≡ Some x → i < length xs
        within [] i x here = cc (here)
        within (y ∷ xs) zero x here = omega arith
        within (y ∷ xs) (suc i) x here = let less = within xs i x here in omega (arith, less)

    -- what stands there
    pub index-some : (x : Stamped) → x ≡ get_or H place.first x → Some (seen_as x place.count) ≡ seen_kept (kept log n)
    index-some x here =
        let both : Some x ≡ Some found.first =
        sym (slice_get_read log (length log) place.first x refl index-within
        (here ∙ ap (λ (h : History). get_or h place.first x) same)) ∙ found.here in
        let e : x ≡ found.first = cc (both) in
        ap (λ (s : Stamped). Some (seen_as s place.count)) e ∙ sym found.seen

-- ---- entries of one command more

-- entries under one stamp are all of them under a number, or none is
abbrev under_stamp : GivenNumber → Stamp → Bool
under_stamp n stamp = eqb stamp.maker n.user && has_number n.number stamp.key

all-under : (n : GivenNumber) (stamp : Stamp) (b : Bool) (group : History) → under_stamp n stamp ≡ b
    → AllByRecursion (λ (s : Stamped). s.stamp ≡ stamp) group
    → AllByRecursion (λ (s : Stamped). is_under n s ≡ b) group
all-under n stamp b [] is all = tt
all-under n stamp b (s ∷ group) is all = (ap (under_stamp n) all.0 ∙ is, all-under n stamp b group is all.1)

-- so where their number is this one, it stands for them alone, and every other number for what it stood
behind : (H group : History) (n : GivenNumber) (stamp : Stamp) (e : Stamped) (es : History) → group ≡ e ∷ es
    → AllByRecursion (λ (s : Stamped). s.stamp ≡ stamp) group
    → under_stamp n stamp ≡ true → kept H n ≡ [] → place_of (H ++ group) n ≡ Some (placed (length group) (length H))
behind H group n stamp e es is all under none =
    let passing = all-under n stamp true group under all in
    let first : is_under n e ≡ true =
    (subst (λ (g : History). AllByRecursion (λ (s : Stamped). is_under n s ≡ true) g) is passing).0 in
    let from : 0 + length H ≡ length H = omega arith in
    let place = ap (λ (g : History). position_from (is_under n) 0 (H ++ g)) is
    ∙ first-behind (is_under n) H es e 0 none first ∙ ap (λ (k : ℕ). Some k) from in
    let all_kept : kept (H ++ group) n ≡ group = filter-append (is_under n) H group
    ∙ ap (λ (h : History). h ++ filter (is_under n) group) none ∙ all-of (is_under n) group passing in
    (λ i. option_map (placed (length (all_kept i))) (place i))

before : (H group : History) (n : GivenNumber) (stamp : Stamp) → AllByRecursion (λ (s : Stamped). s.stamp ≡ stamp) group
    → under_stamp n stamp ≡ false → place_of (H ++ group) n ≡ place_of H n
before H group n stamp all under =
    let failing = all-under n stamp false group under all in
    let place = first-before (is_under n) H group 0 failing in
    let same : kept (H ++ group) n ≡ kept H n = filter-append (is_under n) H group
    ∙ ap (λ (h : History). kept H n ++ h) (none-of (is_under n) group failing) ∙ append-nil (kept H n) in
    (λ i. option_map (placed (length (same i))) (place i))

-- the index with the group's place, where the group has a number
pub indexed-more : (H items group : History) (old new : IndexMap GivenNumber Place (BuildHasherDefault FoldHasher))
    (given : GivenNumber) (place : Place)
    → IsNumberIndex H old → MayFollow H group → number_given group ≡ Some given → items ≡ H ++ group
    → place ≡ placed (length group) (length H)
    → ((n : GivenNumber) → get is_same new n ≡ cond (is_same given n) (Some place) (get is_same old n))
    → IsNumberIndex items new
indexed-more H items [] old new given place was follows number is stands puts = λ n. cc (number)
indexed-more H items (e ∷ es) old new given place was follows number is stands puts = λ n.
    by e.stamp.key refl n ∙ ap (λ (h : History). place_of h n) (sym is)
  where
    group : History
    group = e ∷ es

    one : AllByRecursion (λ (s : Stamped). s.stamp ≡ e.stamp) group
    one = (refl, follows.one)

    by : (key : Option RetryKey) → e.stamp.key ≡ key → (n : GivenNumber) → get is_same new n ≡ place_of (H ++ group) n
    by None none n = absurd (no (ap (option_map (number_by e.stamp.maker)) (sym none) ∙ number))
      where
        no : None ≡ Some given → ⊥
        no h = cc (h)
    by (Some key) some n = split (under_stamp n e.stamp) refl
      where
        mine : GivenNumber
        mine = number_by e.stamp.maker key

        given_is : mine ≡ given
        given_is = let h : Some mine ≡ Some given =
            ap (option_map (number_by e.stamp.maker)) (sym some) ∙ number in cc (h)

        tested : is_same given n ≡ under_stamp n e.stamp
        tested = ap (λ (m : GivenNumber). is_same m n) (sym given_is)
            ∙ ap (λ (k : Option RetryKey). eqb e.stamp.maker n.user && has_number n.number k) (sym some)

        unused : IsUnused H mine.user mine.number
        unused = subst (λ (o : Option GivenNumber). IfSome o (λ m. IsUnused H m.user m.number))
            (ap (option_map (number_by e.stamp.maker)) some) follows.new

        split : (b : Bool) → under_stamp n e.stamp ≡ b → get is_same new n ≡ place_of (H ++ group) n
        split true under =
            let parts = and_parts (eqb mine.user n.user) (eqb mine.number n.number)
            (ap (λ (m : GivenNumber). is_same m n) given_is ∙ tested ∙ under) in
            let user : n.user ≡ mine.user = sym (eqb-true mine.user n.user parts.0) in
            let number : n.number ≡ mine.number = sym (eqb-true mine.number n.number parts.1) in
            let none : kept H n ≡ [] = (λ i. kept_under (user i) (number i) H) ∙ unused in
            puts n ∙ ap (λ (b : Bool). cond b (Some place) (get is_same old n)) (tested ∙ under)
            ∙ ap (λ (p : Place). Some p) stands
            ∙ sym (behind H group n e.stamp e es refl one under none)
        split false under =
            puts n ∙ ap (λ (b : Bool). cond b (Some place) (get is_same old n)) (tested ∙ under)
            ∙ was n
            ∙ sym (before H group n e.stamp one under)

-- and as it was, where it has none
pub indexed-same : (H items group : History) (index : IndexMap GivenNumber Place (BuildHasherDefault FoldHasher))
    → IsNumberIndex H index → MayFollow H group → number_given group ≡ None → items ≡ H ++ group
    → IsNumberIndex items index
indexed-same H items [] index was follows none is =
    λ n. was n ∙ ap (λ (h : History). place_of h n) (sym (append-nil H) ∙ sym is)
indexed-same H items (e ∷ es) index was follows none is = λ n.
    was n ∙ sym (before H (e ∷ es) n e.stamp (refl, follows.one) (under n e.stamp.key none))
    ∙ ap (λ (h : History). place_of h n) (sym is)
  where
    under : (n : GivenNumber) (key : Option RetryKey) → option_map (number_by e.stamp.maker) key ≡ None
        → (eqb e.stamp.maker n.user && has_number n.number key) ≡ false
    under n None none = and-false (eqb e.stamp.maker n.user)
    under n (Some key) none = cc (none)
