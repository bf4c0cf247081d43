-- SPDX-License-Identifier: Apache-2.0 OR MIT
-- Tags: their order, and that the tags of a paper that are for a reader are those that the turnings which are shown
-- her leave on.
use Rattle.std.proofs.Common.{ℕ, Bool, true, false, cond, ◌≡◌, ◌≤◌, ◌&&◌, ◌||◌, List, [], ◌∷◌, ◌++◌, Option, Some, None}
use Rattle.std.proofs.Common.{fold, refl, sym, ap, ◌∙◌, arith, eqb}
use Rattle.std.specs.Prelude.{nat_lt, filter}
use Rattle.std.specs.Cmp.{IsTotalOrder}
use Rattle.std.specs.Cmp.Lexicographic.{slice_cmp, texts_ties, bytes_decides}
use Rattle.std.specs.List.{All}
use Rattle.std.specs.List.Sorted.{IsNonDecreasingBy}
use Rattle.std.specs.Ordering.{is_lt, is_eq, nat_cmp, ordering_then}
use Rattle.std.specs.Str.{bytes_eq}
use Rattle.std.specs.declared.cmp.Ordering.{Ordering}
use Rattle.std.specs.declared.cmp.Ordering.TheVariants.{Less, Equal, Greater}
use Rattle.std.proofs.lemmas.Bool.{false≢true}
use Rattle.std.proofs.lemmas.Bool.Decides.{nat_tests}
use Rattle.std.proofs.lemmas.Cmp.{nat_cmp_total, nat_list_cmp_total, on_total, then_total}
use Rattle.std.proofs.lemmas.List.Elements.{All-nil, All-cons, All-head, All-tail, All-append, All-filter, All-weaker}
use Rattle.cr_base.specs.declared.entry.Entry.{Entry}
use Rattle.cr_base.specs.declared.entry.Entry.TheVariants.{Tagged}
use Rattle.cr_base.specs.declared.filed.Filed.{Filed}
use Rattle.cr_base.specs.declared.tag.SetTag.{SetTag}
use Rattle.cr_base.specs.History.{History, TagTold, all_told_by, tag_told}
use Rattle.cr_base.specs.HistoryFacts.{tags_left}
use Rattle.cr_base.specs.Lists.{given, is_number}
use Rattle.cr_base.specs.TagTexts.{is_private, is_for_chairs}
use Rattle.cr_base.specs.Tags.{tag_owner, owner_number, tag_before, tag_order, IsSortedTags, with_tag, is_owner}
use Rattle.cr_base.specs.Tags.{is_tag_for, stands_before, filed_order, TagsState, IsSortedState, tag_switched}
use Rattle.cr_base.proofs.SortedLists.{before-irrefl, before-trans, before-turned, before-level, sorted-rises}
use Rattle.cr_base.proofs.SortedLists.{sorted-switched, filter-switched}

-- ---- the order

pub tag_order-total : IsTotalOrder tag_order
tag_order-total = then_total (on_total (λ (t : SetTag). t.tag) nat_list_cmp_total)
    (on_total (λ (t : SetTag). owner_number t.owner) nat_cmp_total)

pub filed_order-total : IsTotalOrder filed_order
filed_order-total = then_total (on_total (λ (x : Filed SetTag). x.paper) nat_cmp_total)
    (on_total (λ (x : Filed SetTag). x.value) tag_order-total)

-- first by one comparison, and then by another
lexicographic : (a b : Ordering) (same then : Bool) → same ≡ is_eq a → then ≡ is_lt b
    → (is_lt a || (same && then)) ≡ is_lt (ordering_then a b)
lexicographic Less b same then h k = refl
lexicographic Equal b same then h k = ap (λ c. c && then) h ∙ k
lexicographic Greater b same then h k = ap (λ c. c && then) h

number_before : (n m : ℕ) → nat_lt n m ≡ is_lt (nat_cmp n m)
number_before n m = grind (arith, nat_tests)

same_number : (n m : ℕ) → eqb n m ≡ is_eq (nat_cmp n m)
same_number n m = grind (arith, nat_tests)

pub tag_before-order : (x y : SetTag) → tag_before x y ≡ is_lt (tag_order x y)
tag_before-order x y =
    lexicographic (slice_cmp nat_cmp x.tag y.tag) (nat_cmp (owner_number x.owner) (owner_number y.owner))
    (bytes_eq x.tag y.tag) _
    (texts_ties x.tag y.tag) (number_before (owner_number x.owner) (owner_number y.owner))

pub stands_before-order : (x y : Filed SetTag) → stands_before x y ≡ is_lt (filed_order x y)
stands_before-order x y =
    ap (λ b. b || (eqb x.paper y.paper && tag_before x.value y.value)) (number_before x.paper y.paper)
    ∙ lexicographic (nat_cmp x.paper y.paper) (tag_order x.value y.value) (eqb x.paper y.paper)
    (tag_before x.value y.value)
    (same_number x.paper y.paper) (tag_before-order x.value y.value)

-- no tag comes before itself; one that comes before another comes before those that come behind it
pub tag_before-irrefl : (x : SetTag) → tag_before x x ≡ false
tag_before-irrefl = before-irrefl tag_order tag_order-total tag_before tag_before-order

pub tag_before-trans : (x y z : SetTag) → tag_before x y ≡ true → tag_before y z ≡ true → tag_before x z ≡ true
tag_before-trans = before-trans tag_order tag_order-total tag_before tag_before-order

pub tag_before-turned : (x y : SetTag) → tag_before x y ≡ true → tag_before y x ≡ false
tag_before-turned = before-turned tag_order tag_order-total tag_before tag_before-order

-- of two tags neither of which comes before the other, the bytes are the same, and so is the owner's number
level_first : (a b : Ordering) → ordering_then a b ≡ Equal → (a ≡ Equal) × (b ≡ Equal)
level_first Less b h = absurd (cc)
level_first Equal b h = (refl, h)
level_first Greater b h = absurd (cc)

level_number : (n m : ℕ) → nat_cmp n m ≡ Equal → n ≡ m
level_number n m h = grind (arith, nat_tests)

pub tag_before-level : (x y : SetTag) → tag_before x y ≡ false → tag_before y x ≡ false
    → (x.tag ≡ y.tag) × (owner_number x.owner ≡ owner_number y.owner)
tag_before-level x y h k =
    let level = before-level tag_order tag_order-total tag_before tag_before-order x y h k in
    let parts =
    level_first (slice_cmp nat_cmp x.tag y.tag) (nat_cmp (owner_number x.owner) (owner_number y.owner)) level in (
      (bytes_decides x.tag y.tag).0 (texts_ties x.tag y.tag ∙ ap is_eq parts.0),
      level_number (owner_number x.owner) (owner_number y.owner) parts.1,
    )

-- ---- the tags of all papers

-- so their papers never fall
pub papers_rise : (tags : TagsState) → IsSortedState tags → IsNonDecreasingBy (λ (x : Filed SetTag). x.paper) tags
papers_rise tags sorted =
    sorted-rises stands_before (λ (x : Filed SetTag). x.paper)
    (λ x y h. least x.paper y.paper (tag_before x.value y.value) h) tags sorted
  where
    least : (n m : ℕ) (b : Bool) → (nat_lt n m || (eqb n m && b)) ≡ true → n ≤ m
    least n m b h = grind (arith, nat_tests)

pub sorted-tag_switched : (on : Bool) (x : Filed SetTag) (tags : TagsState) → IsSortedState tags
    → IsSortedState (tag_switched on x tags)
sorted-tag_switched =
    sorted-switched stands_before (before-trans filed_order filed_order-total stands_before stands_before-order)

-- ---- what turnings leave on

abbrev turn : List SetTag → TagTold → List SetTag
turn ts t = with_tag t.on t.tag ts

pub sorted-with_tag : (on : Bool) (t : SetTag) (ts : List SetTag) → IsSortedTags ts → IsSortedTags (with_tag on t ts)
sorted-with_tag = sorted-switched tag_before tag_before-trans

sorted-from : (turned : List TagTold) (ts : List SetTag) → IsSortedTags ts → IsSortedTags (fold turn ts turned)
sorted-from [] ts sorted = sorted
sorted-from (t ∷ turned) ts sorted = sorted-from turned (with_tag t.on t.tag ts) (sorted-with_tag t.on t.tag ts sorted)

pub sorted-left : (turned : List TagTold) → IsSortedTags (tags_left turned)
sorted-left turned = sorted-from turned [] tt

-- ---- those that are for a reader

-- a private tag is hers or not by its owner's number: it has an owner, or she has no number that an owner's lack
-- reads as
abbrev pub IsOwned : Option ℕ → SetTag → Type 0
IsOwned u t = is_private t.tag ≡ true → is_owner u t.owner ≡ is_number u (owner_number t.owner)

-- so it is of a tag that its maker, or the reader herself, owns where it is private
pub owned-by_maker : (u : Option ℕ) (tag : List ℕ) (maker : ℕ)
    → IsOwned u (record { tag = tag; owner = tag_owner tag maker })
owned-by_maker u tag maker private = by (is_private tag) private
  where
    by : (b : Bool) → b ≡ true → is_owner u (cond b (Some maker) None)
        ≡ is_number u (owner_number (cond b (Some maker) None))
    by true h = refl
    by false h = absurd (false≢true h)

pub owned-by_reader : (u : Option ℕ) (tag : List ℕ) → IsOwned u (record { tag = tag; owner = u })
owned-by_reader None tag private = refl
owned-by_reader (Some n) tag private = refl

-- and of each that a history turns on or off
owned-told : (u : Option ℕ) (p maker : ℕ) (e : Entry) → All (λ (t : TagTold). IsOwned u t.tag) (tag_told p maker e)
owned-told u p maker (Tagged paper tag on) = by (eqb paper p)
  where
    told : TagTold
    told = record { tag = record { tag = tag; owner = tag_owner tag maker }; on = on }

    by : (b : Bool) → All (λ (t : TagTold). IsOwned u t.tag) (given b told)
    by true = All-cons (λ (t : TagTold). IsOwned u t.tag) told [] (owned-by_maker u tag maker)
        (All-nil (λ (t : TagTold). IsOwned u t.tag))
    by false = All-nil (λ (t : TagTold). IsOwned u t.tag)
owned-told u p maker e = All-nil (λ (t : TagTold). IsOwned u t.tag)

pub owned-turned : (u : Option ℕ) (p : ℕ) (H : History)
    → All (λ (t : TagTold). IsOwned u t.tag) (all_told_by (tag_told p) H)
owned-turned u p [] = All-nil (λ (t : TagTold). IsOwned u t.tag)
owned-turned u p (e ∷ H) =
    All-append (λ (t : TagTold). IsOwned u t.tag) (tag_told p e.stamp.maker e.entry) (all_told_by (tag_told p) H)
    (owned-told u p e.stamp.maker e.entry) (owned-turned u p H)

module _ (u : Option ℕ) (chair : Bool) where
  -- a tag in which the place of the owner is taken by this answer
  abbrev for_by : List ℕ → Bool → Bool
  for_by tag own = cond (is_for_chairs tag) chair (cond (is_private tag) own true)

  by_number : (t : SetTag) → IsOwned u t → is_tag_for u chair t ≡ for_by t.tag (is_number u (owner_number t.owner))
  by_number t owned = by (is_private t.tag) owned
    where
      by : (private : Bool) → (private ≡ true → is_owner u t.owner ≡ is_number u (owner_number t.owner))
          → cond (is_for_chairs t.tag) chair (cond private (is_owner u t.owner) true)
          ≡ cond (is_for_chairs t.tag) chair (cond private (is_number u (owner_number t.owner)) true)
      by true h = ap (cond (is_for_chairs t.tag) chair) (h refl)
      by false h = refl

  -- so tags that the order doesn't tell apart are for her alike
  for_alike : (s t : SetTag) → IsOwned u s → IsOwned u t → tag_before s t ≡ false → tag_before t s ≡ false
      → is_tag_for u chair s ≡ is_tag_for u chair t
  for_alike s t owned owned' h k =
      let same = tag_before-level s t h k in
      by_number s owned
      ∙ ap (λ (tag : List ℕ). for_by tag (is_number u (owner_number s.owner))) same.0
      ∙ ap (λ n. for_by t.tag (is_number u n)) same.1
      ∙ sym (by_number t owned')

  -- one that is for her stands before or behind one that isn't
  apart : (t : SetTag) → IsOwned u t → is_tag_for u chair t ≡ false → (s : SetTag) → IsOwned u s
      → is_tag_for u chair s ≡ true
      → (tag_before s t || tag_before t s) ≡ true
  apart t owned hidden s owned' shown = by (tag_before s t) (tag_before t s) refl refl
    where
      by : (b c : Bool) → tag_before s t ≡ b → tag_before t s ≡ c → (b || c) ≡ true
      by true c h k = refl
      by false true h k = refl
      by false false h k = absurd (false≢true (sym hidden ∙ sym (for_alike s t owned' owned h k) ∙ shown))

  owned-with_tag : (on : Bool) (t : SetTag) (ts : List SetTag) → IsOwned u t → All (IsOwned u) ts
      → All (IsOwned u) (with_tag on t ts)
  owned-with_tag on t ts owned all =
      let low : List SetTag = filter (λ (s : SetTag). tag_before s t) ts in
      All-append (IsOwned u) (low ++ cond on (t ∷ []) []) (filter (λ (s : SetTag). tag_before t s) ts)
      (All-append (IsOwned u) low (cond on (t ∷ []) []) (All-filter (λ (s : SetTag). tag_before s t) (IsOwned u) ts all)
      (one on))
      (All-filter (λ (s : SetTag). tag_before t s) (IsOwned u) ts all)
    where
      one : (on : Bool) → All (IsOwned u) (cond on (t ∷ []) [])
      one true = All-cons (IsOwned u) t [] owned (All-nil (IsOwned u))
      one false = All-nil (IsOwned u)

  for-with_tag : (on : Bool) (t : SetTag) (ts : List SetTag) → IsSortedTags ts → IsOwned u t → All (IsOwned u) ts
      → filter (is_tag_for u chair) (with_tag on t ts)
      ≡ cond (is_tag_for u chair t) (with_tag on t (filter (is_tag_for u chair) ts)) (filter (is_tag_for u chair) ts)
  for-with_tag on t ts sorted owned all =
      filter-switched tag_before tag_before-trans tag_before-turned (is_tag_for u chair) on t ts sorted
      (λ hidden. All-weaker (IsOwned u) (λ s. is_tag_for u chair s ≡ true → (tag_before s t || tag_before t s) ≡ true)
      (apart t owned hidden) ts all)

  for-from : (turned : List TagTold) (ts : List SetTag) → IsSortedTags ts → All (IsOwned u) ts
      → All (λ t. IsOwned u t.tag) turned
      → filter (is_tag_for u chair) (fold turn ts turned)
      ≡ fold turn (filter (is_tag_for u chair) ts) (filter (λ (t : TagTold). is_tag_for u chair t.tag) turned)
  for-from [] ts sorted owned all = refl
  for-from (t ∷ turned) ts sorted owned all =
      let first = All-head (λ (s : TagTold). IsOwned u s.tag) t turned all in
      for-from turned (with_tag t.on t.tag ts) (sorted-with_tag t.on t.tag ts sorted)
      (owned-with_tag t.on t.tag ts first owned)
      (All-tail (λ (s : TagTold). IsOwned u s.tag) t turned all)
      ∙ ap (λ (ss : List SetTag). fold turn ss (filter (λ (s : TagTold). is_tag_for u chair s.tag) turned))
      (for-with_tag t.on t.tag ts sorted first owned)
      ∙ by (is_tag_for u chair t.tag) (filter (is_tag_for u chair) ts)
      (filter (λ (s : TagTold). is_tag_for u chair s.tag) turned)
    where
      by : (shown : Bool) (ss : List SetTag) (rest : List TagTold)
          → fold turn (cond shown (with_tag t.on t.tag ss) ss) rest
          ≡ fold turn ss (cond shown (t ∷ rest) rest)
      by true ss rest = refl
      by false ss rest = refl

  -- the tags left on that are for her are those that the turnings of such tags leave on
  pub tags_left-for : (turned : List TagTold) → All (λ t. IsOwned u t.tag) turned
      → filter (is_tag_for u chair) (tags_left turned)
      ≡ tags_left (filter (λ (t : TagTold). is_tag_for u chair t.tag) turned)
  tags_left-for turned owned = for-from turned [] tt (All-nil (IsOwned u)) owned
