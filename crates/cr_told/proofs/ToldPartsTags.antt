-- SPDX-License-Identifier: Apache-2.0 OR MIT
-- Of tags each part that is shown is told or left out.
use Rattle.std.proofs.Common.{◌≡◌, ℕ, Bool, true, false, List, [], ◌∷◌, ◌++◌, refl, sym, ap, ◌∙◌, ◌||◌, ◌&&◌, Option}
use Rattle.std.proofs.Common.{Some, None, eqb, arith, fold}
use Rattle.std.specs.Prelude.{not, map, filter, IsTrue, if◌then◌else◌}
use Rattle.std.specs.Str.{bytes_eq}
use Rattle.std.specs.List.{flat_map, list_any}
use Rattle.std.proofs.lemmas.Bool.{true≢false, eq-eqb, or_left, or_right, or_parts, and_parts, not-true}
use Rattle.std.proofs.lemmas.List.Concat.{flat_map-append}
use Rattle.std.proofs.lemmas.List.Folds.{list_any-append}
use Rattle.std.proofs.lemmas.List.Sums.{fold-append}
use Rattle.cr_base.specs.declared.entry.Entry.TheVariants.{Tagged}
use Rattle.cr_base.specs.declared.entry.EntryKind.TheVariants as kinds
use Rattle.cr_base.specs.declared.entry.Stamp.{Stamp}
use Rattle.cr_base.specs.declared.tag.SetTag.{SetTag}
use Rattle.cr_base.specs.Lists.{is_number}
use Rattle.cr_base.specs.History.{History, TagTold}
use Rattle.cr_base.specs.HistoryFacts.{role_of, tags_left}
use Rattle.cr_base.specs.TagTexts.{is_private, is_for_chairs, is_tilded}
use Rattle.cr_base.specs.Tags.{tag_before, with_tag, is_tag_for, is_owner, tags_for}
use Rattle.cr_base.proofs.TagLaws.{tag_before-level}
use Rattle.cr_base.proofs.Small.{implies_from}
use Rattle.cr_history.specs.Invariants.{IsSubmitted}
use Rattle.cr_policy.specs.Legal.{Legal}
use Rattle.cr_policy.specs.Part as part
use Rattle.cr_policy.specs.Part.{Part}
use Rattle.cr_policy.specs.Sighting.{Sighting}
use Rattle.cr_policy.specs.View.{View, view}
use Rattle.cr_policy.specs.ViewFacts.{only, is_kind, tag_shown, tag_seen, tags_in_view}
use Rattle.cr_bounds.specs.ShownTo.{is_told, chairs_committee, is_eligible, is_committees, is_chairs, where_known}
use Rattle.cr_bounds.proofs.BoundsWords.{for-chairs}
use Rattle.cr_bounds.proofs.BoundsWalk.{shown_to}
use Rattle.cr_told.specs.ToldPages.{page_told}
use Rattle.cr_told.specs.ToldParts.{has, agree, lists, is_told as is_part_told, is_left_untold}
use Rattle.cr_told.proofs.ToldKnown.{AllOf, Each, all-of, known-own}
use Rattle.cr_told.proofs.ToldLists.{page_lists_told}
use Rattle.cr_told.proofs.ToldNames.{same-bytes}
use Rattle.cr_told.proofs.ToldPlaces.{number-is}

-- ---- whom a tag is for

-- a private tag is neither the committee's nor the chairs'
private-words : (tag : List ℕ) → is_private tag ≡ true
    → (is_committees tag || is_chairs tag || is_for_chairs tag) ≡ false
private-words [] h = absurd (true≢false (sym h))
private-words (a ∷ []) h = by (eqb a 126) h
  where
    by : (a : Bool) → (a && not false) ≡ true → ((not a || false) || (a && false)) ≡ false
    by a h = grind (arith, h)
private-words (a ∷ b ∷ tag) h = by (eqb a 126) (eqb b 126) h
  where
    by : (a b : Bool) → (a && not b) ≡ true → ((not a || (a && b)) || (a && b)) ≡ false
    by a b h = grind (arith, h)

-- one for chairs isn't the committee's
chairs-words : (tag : List ℕ) → is_for_chairs tag ≡ true → is_committees tag ≡ false
chairs-words [] h = absurd (true≢false (sym h))
chairs-words (a ∷ tag) h = by (eqb a 126) (is_tilded tag) h
  where
    by : (a b : Bool) → (a && b) ≡ true → not a ≡ false
    by a b h = grind (arith, h)

-- ---- a tag that is on

module _ (u : Option ℕ) (chair : Bool) (tag : List ℕ) where
  -- it is there for her
  abbrev here : SetTag → Bool
  here x = bytes_eq tag x.tag && is_tag_for u chair x

  abbrev turn : List SetTag → TagTold → List SetTag
  turn ts t = with_tag t.on t.tag ts

  listed-for : (ts : List SetTag) → list_any here ts ≡ true → list_any (bytes_eq tag) (tags_for u chair ts) ≡ true
  listed-for [] h = absurd (true≢false (sym h))
  listed-for (x ∷ ts) h = by (is_tag_for u chair x) (bytes_eq tag x.tag) refl h (listed-for ts)
    where
      names : List SetTag → List (List ℕ)
      names ts = map (λ (y : SetTag). y.tag) ts

      by : (shown same : Bool) → bytes_eq tag x.tag ≡ same → ((same && shown) || list_any here ts) ≡ true
          → (list_any here ts ≡ true → list_any (bytes_eq tag) (tags_for u chair ts) ≡ true)
          → list_any (bytes_eq tag) (map (λ (y : SetTag). y.tag)
          (if shown then x ∷ filter (is_tag_for u chair) ts else filter (is_tag_for u chair) ts)) ≡ true
      by true true e h rest = ap (λ b. b || list_any (bytes_eq tag) (tags_for u chair ts)) e
      by true false e h rest = or_right (bytes_eq tag x.tag) (list_any (bytes_eq tag) (tags_for u chair ts)) (rest h)
      by false true e h rest = rest h
      by false false e h rest = rest h

  -- it is put there
  put : (t : SetTag) (ts : List SetTag) → here t ≡ true → list_any here (with_tag true t ts) ≡ true
  put t ts is =
      list_any-append here (filter (λ (s : SetTag). tag_before s t) ts ++ t ∷ [])
      (filter (λ (s : SetTag). tag_before t s) ts)
      ∙ or_left _ (list_any here (filter (λ (s : SetTag). tag_before t s) ts))
      (list_any-append here (filter (λ (s : SetTag). tag_before s t) ts) (t ∷ [])
      ∙ or_right (list_any here (filter (λ (s : SetTag). tag_before s t) ts)) _ (ap (λ b. b || false) is))

  -- and stays where another is turned on or off
  split : (lo hi : SetTag → Bool) → ((x : SetTag) → here x ≡ true → (lo x || hi x) ≡ true) → (ts : List SetTag)
      → list_any here ts ≡ true
      → (list_any here (filter lo ts) || list_any here (filter hi ts)) ≡ true
  split lo hi either [] h = absurd (true≢false (sym h))
  split lo hi either (x ∷ ts) h = by (here x) refl (lo x) refl (hi x) refl h (split lo hi either ts)
    where
      low : Bool
      low = list_any here (filter lo ts)

      high : Bool
      high = list_any here (filter hi ts)

      first : (p a b : Bool) → p ≡ true → ((p || a) || b) ≡ true
      first p a b h = grind (arith, h)

      second : (p a b : Bool) → p ≡ true → (a || (p || b)) ≡ true
      second p a b h = grind (arith, h)

      more : (p q a b : Bool) → (a || b) ≡ true → ((p || a) || (q || b)) ≡ true
      more p q a b h = grind (arith, h)

      by : (q : Bool) → here x ≡ q → (l : Bool) → lo x ≡ l → (g : Bool) → hi x ≡ g → (q || list_any here ts) ≡ true
          → (list_any here ts ≡ true → (list_any here (filter lo ts) || list_any here (filter hi ts)) ≡ true)
          → (list_any here (if l then x ∷ filter lo ts else filter lo ts)
          || list_any here (if g then x ∷ filter hi ts else filter hi ts)) ≡ true
      by true e true f true g h rest = first (here x) low (here x || high) e
      by true e true f false g h rest = first (here x) low high e
      by true e false f true g h rest = second (here x) low high e
      by true e false f false g h rest = absurd (true≢false (sym (sym (λ i. f i || g i) ∙ either x e)))
      by false e true f true g h rest = more (here x) (here x) low high (rest h)
      by false e true f false g h rest = more (here x) false low high (rest h)
      by false e false f true g h rest = more false (here x) low high (rest h)
      by false e false f false g h rest = rest h

  stays : (t : TagTold) (ts : List SetTag) → bytes_eq tag t.tag.tag ≡ false → list_any here ts ≡ true
      → list_any here (turn ts t) ≡ true
  stays t ts other is =
      list_any-append here (low ++ (if t.on then t.tag ∷ [] else [])) high
      ∙ ap (λ b. b || list_any here high) (list_any-append here low (if t.on then t.tag ∷ [] else []))
      ∙ between (list_any here low) (list_any here (if t.on then t.tag ∷ [] else [])) (list_any here high)
      (split (λ (s : SetTag). tag_before s t.tag) (λ (s : SetTag). tag_before t.tag s) apart ts is)
    where
      low : List SetTag
      low = filter (λ (s : SetTag). tag_before s t.tag) ts

      high : List SetTag
      high = filter (λ (s : SetTag). tag_before t.tag s) ts

      between : (a b c : Bool) → (a || c) ≡ true → ((a || b) || c) ≡ true
      between a b c h = grind (arith, h)

      apart : (x : SetTag) → here x ≡ true → (tag_before x t.tag || tag_before t.tag x) ≡ true
      apart x h = by (tag_before x t.tag) refl (tag_before t.tag x) refl
        where
          by : (b : Bool) → tag_before x t.tag ≡ b → (c : Bool) → tag_before t.tag x ≡ c → (b || c) ≡ true
          by true e c f = refl
          by false e true f = refl
          by false e false f =
              absurd
              (true≢false (sym (and_parts (bytes_eq tag x.tag) (is_tag_for u chair x) h).0
              ∙ ap (bytes_eq tag) (tag_before-level x t.tag e f).0 ∙ other))

  stays-on : (turned : List TagTold) (ts : List SetTag)
      → list_any (λ (t : TagTold). bytes_eq tag t.tag.tag) turned ≡ false → list_any here ts ≡ true
      → list_any here (fold turn ts turned) ≡ true
  stays-on [] ts other is = is
  stays-on (t ∷ turned) ts other is =
      let parts = or_parts (bytes_eq tag t.tag.tag) (list_any (λ (t : TagTold). bytes_eq tag t.tag.tag) turned) other in
      stays-on turned (turn ts t) parts.1 (stays t ts parts.0 is)

-- ---- what a later sighting turns

module _ (u : Option ℕ) (p : ℕ) (tag : List ℕ) where
  abbrev names-it : Sighting → Bool
  names-it t = is_kind kinds.Tagged t && is_number t.paper p && agree bytes_eq (Some tag) t.tag

  turns-other : (t : Sighting) → names-it t ≡ false
      → list_any (λ (r : TagTold). bytes_eq tag r.tag.tag) (tag_seen u p t) ≡ false
  turns-other t other = by (is_number t.paper p) (is_kind kinds.Tagged t) t.tag t.on t.mine other
    where
      by : (on-it tagged : Bool) (name : Option (List ℕ)) (on : Option Bool) (mine : Bool)
          → (tagged && on-it && agree bytes_eq (Some tag) name) ≡ false
          → list_any (λ (r : TagTold). bytes_eq tag r.tag.tag)
          (only on-it (if tagged then tag_shown u mine name on else [])) ≡ false
      by on-it false name on mine h = refl
      by on-it true None on mine h = refl
      by on-it true (Some other) None mine h = refl
      by false true (Some other) (Some on) mine h = hidden (is_private other) mine
        where
          hidden : (private mine : Bool)
              → list_any (λ (r : TagTold). bytes_eq tag r.tag.tag)
              (only false
              (if private then only mine (record { tag = record { tag = other; owner = u }; on = on } ∷ []) else
              record { tag = record { tag = other; owner = None }; on = on } ∷ []))
              ≡ false
          hidden true true = refl
          hidden true false = refl
          hidden false mine = refl
      by true true (Some other) (Some on) mine h = shown (is_private other) mine
        where
          shown : (private mine : Bool)
              → list_any (λ (r : TagTold). bytes_eq tag r.tag.tag)
              (only true
              (if private then only mine (record { tag = record { tag = other; owner = u }; on = on } ∷ []) else
              record { tag = record { tag = other; owner = None }; on = on } ∷ []))
              ≡ false
          shown true true = ap (λ b. b || false) h
          shown true false = refl
          shown false mine = ap (λ b. b || false) h

  turn-others : (ts : View) → list_any names-it ts ≡ false
      → list_any (λ (r : TagTold). bytes_eq tag r.tag.tag) (flat_map (tag_seen u p) ts) ≡ false
  turn-others [] h = refl
  turn-others (t ∷ ts) h =
      let parts = or_parts (names-it t) (list_any names-it ts) h in
      list_any-append (λ (r : TagTold). bytes_eq tag r.tag.tag) (tag_seen u p t) (flat_map (tag_seen u p) ts)
      ∙ (λ i. turns-other t parts.0 i || list_any (λ (r : TagTold). bytes_eq tag r.tag.tag)
      (flat_map (tag_seen u p) ts))
      ∙ turn-others ts parts.1

-- ---- a tag that is shown

module _ (u : Option ℕ) (H : History) (legal : Legal H) (before after : View) where
  abbrev V : View
  V = view u H

  abbrev lead : Bool
  lead = chairs_committee (role_of u H)

  module _ (earlier later : History) (stamp : Stamp) (more : Bool) (paper : ℕ) (tag : List ℕ) (on : Bool)
      (there : IsSubmitted H paper)
      (told : is_told u H earlier later stamp.maker (Tagged paper tag on) ≡ true)
      (is : view u H ≡ before ++ shown_to u H earlier later stamp (Tagged paper tag on) ∷ after)
    where
      abbrev s : Sighting
      s = shown_to u H earlier later stamp (Tagged paper tag on)

      abbrev again : Bool
      again = list_any (names-it u paper tag) after

      abbrev standing-tags : Bool
      standing-tags = lists (page_told (λ page. page.tags) u paper H) (bytes_eq tag)

      -- it is left on, whoever owns it
      left-on : (owner : Option ℕ) → tag_seen u paper s
          ≡ record { tag = record { tag = tag; owner = owner }; on = true } ∷ []
          → is_tag_for u lead (record { tag = tag; owner = owner }) ≡ true → again ≡ false
          → is_eligible u paper H ≡ true → standing-tags ≡ true
      left-on owner seen hers none handling =
          ap (λ tags. lists tags (bytes_eq tag))
          ((page_lists_told u paper H legal there).tags
          ∙ ap (λ b. where_known b (tags_in_view u lead paper V)) handling)
          ∙ listed-for u lead tag (tags_left (flat_map (tag_seen u paper) V))
          (ap (λ T. list_any (here u lead tag) (tags_left T))
          (ap (flat_map (tag_seen u paper)) is ∙ flat_map-append (tag_seen u paper) before (s ∷ after)
          ∙ ap (λ xs. flat_map (tag_seen u paper) before ++ (xs ++ flat_map (tag_seen u paper) after)) seen)
          ∙ ap (list_any (here u lead tag)) (fold-append (turn u lead tag) [] (flat_map (tag_seen u paper) before)
          (x ∷ flat_map (tag_seen u paper) after))
          ∙ stays-on u lead tag (flat_map (tag_seen u paper) after)
          (with_tag true x.tag (tags_left (flat_map (tag_seen u paper) before)))
          (turn-others u paper tag after none)
          (put u lead tag x.tag (tags_left (flat_map (tag_seen u paper) before)) (λ i. same-bytes tag i && hers i)))
        where
          x : TagTold
          x = record { tag = record { tag = tag; owner = owner }; on = true }

      -- it is for chairs, and she set it, and is none any more
      abbrev once-chair : Bool
      once-chair = is_number u stamp.maker && is_chairs tag && not lead

      stands-on : on ≡ true → again ≡ false → is_eligible u paper H ≡ true → once-chair ≡ false → standing-tags ≡ true
      stands-on turned none handling still = by (is_private tag) refl (is_for_chairs tag) refl
        where
          mine : (m t k c h l : Bool) → (m || ((t && h) || (k && (h && l)))) ≡ true → ((t || k) || c) ≡ false → m ≡ true
          mine m t k c h l told none = grind (arith, told, none)

          leading : (m t k h l : Bool) → (m || ((t && h) || (k && (h && l)))) ≡ true → ((m && k) && not l) ≡ false
              → t ≡ false → k ≡ true → l ≡ true
          leading m t k h l told still ht hk = grind (arith, told, still, ht, hk)

          by : (private : Bool) → is_private tag ≡ private → (chairs : Bool) → is_for_chairs tag ≡ chairs
              → standing-tags ≡ true
          by true p chairs c =
              left-on u
              (λ i. only (eq-eqb paper paper refl i)
              (if p i then only (own-tag i) (record { tag = record { tag = tag; owner = u }; on = turned i } ∷ [])
              else record { tag = record { tag = tag; owner = None }; on = turned i } ∷ []))
              ((λ i. if not-chairs i then lead else (if p i then is_owner u u else true))
              ∙ ap (λ w. is_owner w w) (number-is u stamp.maker own-tag) ∙ eq-eqb stamp.maker stamp.maker refl)
              none handling
            where
              words : (is_committees tag || is_chairs tag || is_for_chairs tag) ≡ false
              words = private-words tag p

              not-chairs : is_for_chairs tag ≡ false
              not-chairs = (or_parts (is_committees tag || is_chairs tag) (is_for_chairs tag) words).1

              own-tag : is_number u stamp.maker ≡ true
              own-tag = mine (is_number u stamp.maker) (is_committees tag) (is_chairs tag) (is_for_chairs tag)
                  (is_eligible u paper H) lead told words
          by false p true c =
              left-on None
              (λ i. only (eq-eqb paper paper refl i)
              (if p i then only (is_number u stamp.maker)
              (record { tag = record { tag = tag; owner = u }; on = turned i } ∷ [])
              else record { tag = record { tag = tag; owner = None }; on = turned i } ∷ []))
              ((λ i. if c i then lead else (if p i then is_owner u None else true))
              ∙ leading (is_number u stamp.maker) (is_committees tag) (is_chairs tag) (is_eligible u paper H) lead told
              still (chairs-words tag c) (sym (for-chairs tag) ∙ c))
              none handling
          by false p false c =
              left-on None
              (λ i. only (eq-eqb paper paper refl i)
              (if p i then only (is_number u stamp.maker)
              (record { tag = record { tag = tag; owner = u }; on = turned i } ∷ [])
              else record { tag = record { tag = tag; owner = None }; on = turned i } ∷ []))
              (λ i. if c i then lead else (if p i then is_owner u None else true))
              none handling

      tagged : IsTrue (is_part_told u H s kinds.Tagged part.tag || is_left_untold u H s after kinds.Tagged part.tag)
      tagged =
          final on standing-tags again (is_number u stamp.maker) (is_eligible u paper H) (is_committees tag)
          (is_chairs tag) lead told
          (implies_from (on && not again && is_eligible u paper H && not once-chair) standing-tags
          (λ h. let first = and_parts (on && not again && is_eligible u paper H) (not once-chair) h in
          let second = and_parts (on && not again) (is_eligible u paper H) first.0 in
          let third = and_parts on (not again) second.0 in
          stands-on third.0 (not-true again third.1) second.1 (not-true once-chair first.1)))
        where
          final : (on L X m h t k l : Bool) → (m || ((t && h) || (k && (h && l)))) ≡ true
              → (not (((on && not X) && h) && not ((m && k) && not l)) || L) ≡ true
              → ((on && L) || (((not on || X) || (m && not h)) || ((m && k) && not l))) ≡ true
          final on L X m h t k l told hl = grind (arith, told, hl)

      tagged-all' : (what : Part) → IsTrue (has what s)
          → IsTrue (is_part_told u H s kinds.Tagged what || is_left_untold u H s after kinds.Tagged what)
      tagged-all' part.tag shown = tagged
      tagged-all' part.on shown = tagged
      tagged-all' part.at shown = known-own (is_number u stamp.maker) stamp.at shown
      tagged-all' part.key shown = known-own (is_number u stamp.maker) stamp.key shown
      tagged-all' _ shown = absurd (true≢false (sym shown))

pub tagged-all : AllOf kinds.Tagged
tagged-all = all-of kinds.Tagged each
  where
    each : Each kinds.Tagged
    each u H legal before after what earlier later stamp more (Tagged paper tag on) whole known told is kind shown =
        tagged-all' u H legal before after earlier later stamp more paper tag on known.there told is what shown
    each u H legal before after what earlier later stamp more e whole known told is kind shown =
        absurd (true≢false (sym kind))
