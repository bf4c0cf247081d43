-- SPDX-License-Identifier: Apache-2.0 OR MIT
-- What a view says of a paper's tags, as far as they are for its reader, is what the history says, where her standing
-- tells them.
use Rattle.std.proofs.Common.{◌≡◌, ℕ, Bool, true, false, cond, List, [], ◌∷◌, refl, sym, ap, ◌∙◌, ◌||◌, ◌&&◌, Option}
use Rattle.std.proofs.Common.{Some, None, eqb, arith}
use Rattle.std.specs.Prelude.{map, filter, not, drop}
use Rattle.std.specs.List.{All, flat_map}
use Rattle.std.proofs.lemmas.Bool.{eqb-true, or_left, or_right, true≢false, false≢true}
use Rattle.std.proofs.lemmas.List.Elements.{All-nil, All-cons, All-append}
use Rattle.cr_base.specs.declared.entry.Entry.{Entry}
use Rattle.cr_base.specs.declared.entry.Entry.TheVariants.{Tagged}
use Rattle.cr_base.specs.declared.entry.EntryKind.TheVariants as kinds
use Rattle.cr_base.specs.declared.entry.Stamp.{Stamp}
use Rattle.cr_base.specs.declared.entry.Stamped.{Stamped}
use Rattle.cr_base.specs.declared.standing.Standing.{Standing}
use Rattle.cr_base.specs.declared.tag.SetTag.{SetTag}
use Rattle.cr_base.specs.Lists.{given, is_number}
use Rattle.cr_base.specs.Drawn.{stamped}
use Rattle.cr_base.specs.History.{History, TagTold, tag_told}
use Rattle.cr_base.specs.HistoryFacts.{standing_of, tags_left, tags_of}
use Rattle.cr_base.specs.Page.{is_clear_member, gets_tags}
use Rattle.cr_base.specs.Phases.{committee_sees_tags}
use Rattle.cr_base.specs.Tags.{tag_owner, is_owner, is_tag_for, tags_for}
use Rattle.cr_base.specs.TagTexts.{is_tilded, is_private, is_for_chairs, is_for_all}
use Rattle.cr_base.specs.Words.{is_chair, is_member}
use Rattle.cr_base.proofs.TagLaws.{IsOwned, owned-by_reader, owned-turned, tags_left-for}
use Rattle.cr_policy.specs.Part as part
use Rattle.cr_policy.specs.Sighting.{Sighting, where_shown}
use Rattle.cr_policy.specs.Triggers.{Reader, reader, Around}
use Rattle.cr_policy.specs.View.{View, view, sight, is_seen, joined}
use Rattle.cr_policy.specs.ViewFacts.{only, of_kind, is_kind, tag_shown, tag_seen, tags_in_view}
use Rattle.cr_policy.proofs.Tells.{passes, silent}
use Rattle.cr_policy.proofs.Walk.{only-true, only-false, flat_map-given, filter-flat_map, sights-all, TellsAll}

-- ---- one tag

-- the tag is for this reader
abbrev is_for : Option ℕ → Bool → TagTold → Bool
is_for u chair t = is_tag_for u chair t.tag

module _ (u : Option ℕ) (chair : Bool) (tag : List ℕ) (on : Bool) where
  -- the tag, on or off, by this owner
  abbrev owned_by : Option ℕ → TagTold
  owned_by owner = record { tag = record { tag = tag; owner = owner }; on = on }

  -- what is seen of it, where it is shown or not
  abbrev seen_as : Bool → Bool → List TagTold
  seen_as own shown = tag_shown u own (where_shown shown (Some tag)) (where_shown shown (Some on))

  -- it is shown, and is seen with its owner
  whole : (own shown : Bool) (t : TagTold) → shown ≡ true → seen_as own true ≡ t ∷ []
      → only shown (filter (is_for u chair) (seen_as own shown)) ≡ filter (is_for u chair) (t ∷ [])
  whole own shown t hs hw =
      ap (λ b. only b (filter (is_for u chair) (seen_as own b))) hs
      ∙ ap (λ ts. only true (filter (is_for u chair) ts)) hw
      ∙ only-true (filter (is_for u chair) (t ∷ []))

  -- or it apart for her, nor is what may be seen of it
  neither : (own shown : Bool) (t : TagTold) → filter (is_for u chair) (seen_as own true) ≡ []
      → is_for u chair t ≡ false
      → only shown (filter (is_for u chair) (seen_as own shown)) ≡ filter (is_for u chair) (t ∷ [])
  neither own true t hs ht = ap (only true) hs ∙ sym (ap (λ b. given b t) ht)
  neither own false t hs ht = sym (ap (λ b. given b t) ht)

  -- a tag that this maker set is seen by whom it is for
  tag_value : (maker : ℕ) (shown : Bool) → (is_for_all tag ≡ true → shown ≡ true)
      → (is_for_chairs tag ≡ true → chair ≡ true → shown ≡ true)
      → (is_number u maker ≡ true → shown ≡ true)
      → only shown (filter (is_for u chair) (seen_as (is_number u maker) shown)) ≡ filter (is_for u chair)
      (owned_by (tag_owner tag maker) ∷ [])
  tag_value maker shown plain chairs own = by (is_tilded tag) (is_tilded (drop 1 tag)) refl refl
    where
      hers : Bool
      hers = is_number u maker

      -- what it comes to, by whether the tag is private
      seen_by : Bool → List TagTold
      seen_by private = cond private (only hers (owned_by u ∷ [])) (owned_by None ∷ [])

      owner_by : Bool → Option ℕ
      owner_by private = cond private (Some maker) None

      for_by : Bool → Bool → Option ℕ → Bool
      for_by for_chairs private owner = cond for_chairs chair (cond private (is_owner u owner) true)

      -- her own number is the maker's
      herself : hers ≡ true → u ≡ Some maker
      herself is = at u is
        where
          at : (u : Option ℕ) → is_number u maker ≡ true → u ≡ Some maker
          at None is = absurd (false≢true is)
          at (Some v) is = ap Some (eqb-true v maker is)

      by : (b c : Bool) → is_tilded tag ≡ b → is_tilded (drop 1 tag) ≡ c
          → only shown (filter (is_for u chair) (seen_as hers shown)) ≡ filter (is_for u chair)
          (owned_by (tag_owner tag maker) ∷ [])
      by false c hb hc =
          let private : is_private tag ≡ false = ap (λ b. b && not (is_tilded (drop 1 tag))) hb in
          whole hers shown (owned_by (tag_owner tag maker)) (plain (ap not hb))
          (ap seen_by private ∙ sym (ap (λ b. owned_by (owner_by b) ∷ []) private))
      by true true hb hc = for_chairs chair refl
        where
          private : is_private tag ≡ false
          private = ap (λ b. b && not (is_tilded (drop 1 tag))) hb ∙ ap not hc

          is : is_for_chairs tag ≡ true
          is = ap (λ b. b && is_tilded (drop 1 tag)) hb ∙ hc

          for_chairs : (b : Bool) → chair ≡ b
              → only shown (filter (is_for u chair) (seen_as hers shown)) ≡ filter (is_for u chair)
              (owned_by (tag_owner tag maker) ∷ [])
          for_chairs true hc' =
              whole hers shown (owned_by (tag_owner tag maker)) (chairs is hc')
              (ap seen_by private ∙ sym (ap (λ b. owned_by (owner_by b) ∷ []) private))
          for_chairs false hc' =
              let hidden : (owner : Option ℕ) → is_for u chair (owned_by owner) ≡ false =
              λ owner. ap (λ b. for_by b (is_private tag) owner) is ∙ hc' in
              neither hers shown (owned_by (tag_owner tag maker))
              (ap (λ b. filter (is_for u chair) (seen_by b)) private ∙ ap (λ b. given b (owned_by None)) (hidden None))
              (hidden (tag_owner tag maker))
      by true false hb hc = of_maker hers refl
        where
          private : is_private tag ≡ true
          private = ap (λ b. b && not (is_tilded (drop 1 tag))) hb ∙ ap not hc

          apart : is_for_chairs tag ≡ false
          apart = ap (λ b. b && is_tilded (drop 1 tag)) hb ∙ hc

          of_maker : (b : Bool) → hers ≡ b
              → only shown (filter (is_for u chair) (seen_as hers shown)) ≡ filter (is_for u chair)
              (owned_by (tag_owner tag maker) ∷ [])
          of_maker true ho =
              whole hers shown (owned_by (tag_owner tag maker)) (own ho)
              (ap seen_by private ∙ ap (λ b. only b (owned_by u ∷ [])) ho
              ∙ ap (λ (owner : Option ℕ). owned_by owner ∷ []) (herself ho)
              ∙ sym (ap (λ b. owned_by (owner_by b) ∷ []) private))
          of_maker false ho =
              neither hers shown (owned_by (tag_owner tag maker))
              (ap (λ b. filter (is_for u chair) (seen_by b)) private
              ∙ ap (λ b. filter (is_for u chair) (only b (owned_by u ∷ []))) ho)
              (ap (λ b. for_by b (is_private tag) (tag_owner tag maker)) apart
              ∙ ap (λ b. cond b (is_owner u (owner_by b)) true) private ∙ ho)

-- ---- one entry

module _ (r : Reader) (at : Around) (chair : Bool) where
  -- each plain tag on the paper is shown, and each for chairs where she is one
  record ShowsTags (p : ℕ) : Type 0 where
    plain : (stamp : Stamp) (more : Bool) (tag : List ℕ) (on : Bool) → is_for_all tag ≡ true
        → passes part.tag r at (stamped stamp more (Tagged p tag on)) ≡ true
    chairs : (stamp : Stamp) (more : Bool) (tag : List ℕ) (on : Bool) → is_for_chairs tag ≡ true → chair ≡ true
        → passes part.tag r at (stamped stamp more (Tagged p tag on)) ≡ true

  tag_at : (p : ℕ) → ShowsTags p → (stamp : Stamp) (more : Bool) (e : Entry)
      → flat_map (λ (s : Sighting). filter (is_for r.number chair) (tag_seen r.number p s))
      (sight r at (stamped stamp more e))
      ≡ filter (is_for r.number chair) (tag_told p stamp.maker e)
  tag_at p shown stamp more (Tagged paper tag on) =
      flat_map-given (λ (s : Sighting). filter (is_for r.number chair) (tag_seen r.number p s)) (is_seen r at e)
      (joined r at e) ∙ by (eqb paper p) refl
    where
      e : Stamped
      e = stamped stamp more (Tagged paper tag on)

      own : Bool
      own = is_number r.number stamp.maker

      told : TagTold
      told = record { tag = record { tag = tag; owner = tag_owner tag stamp.maker }; on = on }

      seen : List TagTold
      seen = tag_shown r.number own (where_shown (is_seen r at e) (Some tag)) (where_shown (is_seen r at e) (Some on))

      by : (b : Bool) → eqb paper p ≡ b → only (is_seen r at e) (filter (is_for r.number chair) (only b seen))
          ≡ filter (is_for r.number chair) (given b told)
      by true same =
          let on_paper : (n : ℕ) → is_seen r at (stamped stamp more (Tagged n tag on)) ≡ true → paper ≡ n
          → is_seen r at e ≡ true =
          λ n h is. ap (λ k. is_seen r at (stamped stamp more (Tagged k tag on))) is ∙ h in
          ap (λ ts. only (is_seen r at e) (filter (is_for r.number chair) ts)) (only-true seen)
          ∙ tag_value r.number chair tag on stamp.maker (is_seen r at e)
          (λ all. on_paper p (shown.plain stamp more tag on all) (eqb-true paper p same))
          (λ of_chairs is. on_paper p (shown.chairs stamp more tag on of_chairs is) (eqb-true paper p same))
          (λ hers. or_right _ _ (or_right _ _ (or_left own false hers)))
      by false same = ap (λ ts. only (is_seen r at e) (filter (is_for r.number chair) ts)) (only-false seen)
  tag_at p shown stamp more e =
      silent r at stamp more (λ (s : Sighting). filter (is_for r.number chair) (tag_seen r.number p s)) e refl

tag_tells : (r : Reader) (chair : Bool) (p : ℕ) → ((at : Around) → ShowsTags r at chair p)
    → TellsAll r (λ (s : Sighting). filter (is_for r.number chair) (tag_seen r.number p s))
    (λ (e : Stamped). filter (is_for r.number chair) (tag_told p e.stamp.maker e.entry))
tag_tells r chair p shown at e = tag_at r at chair p (shown at) e.stamp e.more e.entry

-- ---- what a view says of tags

-- a private tag that is seen is its reader's
module _ (u : Option ℕ) (p : ℕ) where
  abbrev Owned : TagTold → Type 0
  Owned t = IsOwned u t.tag

  owned-only : (b : Bool) (ts : List TagTold) → All Owned ts → All Owned (only b ts)
  owned-only b [] all = all
  owned-only true (t ∷ ts) all = all
  owned-only false (t ∷ ts) all = All-nil Owned

  owned-shown : (mine : Bool) (tag : Option (List ℕ)) (on : Option Bool) → All Owned (tag_shown u mine tag on)
  owned-shown mine None on = All-nil Owned
  owned-shown mine (Some tag) None = All-nil Owned
  owned-shown mine (Some tag) (Some on) = by (is_private tag) refl
    where
      told : Option ℕ → TagTold
      told owner = record { tag = record { tag = tag; owner = owner }; on = on }

      by : (b : Bool) → is_private tag ≡ b → All Owned (cond b (only mine (told u ∷ [])) (told None ∷ []))
      by true is = owned-only mine (told u ∷ []) (All-cons Owned (told u) [] (owned-by_reader u tag) (All-nil Owned))
      by false is = All-cons Owned (told None) [] (λ private. absurd (true≢false (sym private ∙ is))) (All-nil Owned)

  owned-seen : (V : View) → All Owned (flat_map (tag_seen u p) V)
  owned-seen [] = All-nil Owned
  owned-seen (s ∷ V) =
      All-append Owned (tag_seen u p s) (flat_map (tag_seen u p) V)
      (owned-only (is_number s.paper p) (of_kind kinds.Tagged s (tag_shown u s.mine s.tag s.on))
      (by (is_kind kinds.Tagged s))) (owned-seen V)
    where
      by : (b : Bool) → All Owned (cond b (tag_shown u s.mine s.tag s.on) [])
      by true = owned-shown s.mine s.tag s.on
      by false = All-nil Owned

-- a clear member sees from the bidding on the tags that are for her
pub tags-seen : (u : Option ℕ) (p : ℕ) (H : History) → gets_tags (standing_of u (Some p) H) ≡ true
    → tags_in_view u (is_chair (standing_of u (Some p) H).role) p (view u H)
    ≡ tags_for u (is_chair (standing_of u (Some p) H).role) (tags_of p H)
tags-seen u p H told =
    ap (map (λ (t : SetTag). t.tag))
    (tags_left-for u chair (flat_map (tag_seen u p) (view u H)) (owned-seen u p (view u H))
    ∙ ap tags_left
    (filter-flat_map (is_for u chair) (tag_seen u p) (view u H)
    ∙ sights-all (reader u H) (λ (s : Sighting). filter (is_for u chair) (tag_seen u p s))
    (λ (e : Stamped). filter (is_for u chair) (tag_told p e.stamp.maker e.entry))
    (tag_tells (reader u H) chair p shown) [] H
    ∙ sym (filter-flat_map (is_for u chair) (λ (e : Stamped). tag_told p e.stamp.maker e.entry) H))
    ∙ sym (tags_left-for u chair (flat_map (λ (e : Stamped). tag_told p e.stamp.maker e.entry) H) (owned-turned u p H)))
  where
    by : Standing
    by = standing_of u (Some p) H

    chair : Bool
    chair = is_chair by.role

    begun : Bool
    begun = committee_sees_tags by.phase

    first : (all k b rest : Bool) → (k && b) ≡ true → all ≡ true → ((all && k && b) || rest) ≡ true
    first all k b rest h ha = grind arith

    second : (plain chairs k c h b rest : Bool) → ((k && not c) && b) ≡ true → chairs ≡ true → h ≡ true
        → (plain || ((chairs && (h && not c) && b) || rest)) ≡ true
    second plain chairs k c h b rest hk hc hh = grind arith

    shown : (at : Around) → ShowsTags (reader u H) at chair p
    shown at = record {
      plain = λ stamp more tag on all. first (is_for_all tag) (is_clear_member by) begun _ told all;
      chairs = λ stamp more tag on of_chairs is.
          second _ (is_for_chairs tag) (is_member by.role) by.conflicted chair begun _ told of_chairs is;
    }
