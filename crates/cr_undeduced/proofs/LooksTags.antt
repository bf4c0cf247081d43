-- SPDX-License-Identifier: Apache-2.0 OR MIT
-- At each look the same is seen, too, where the tags that weren't told are others for the same: each is taken out, and
-- the other put in its place.
use Rattle.std.proofs.Common.{ℕ, Bool, true, false, ◌≡◌, suc, zero, List, [], ◌∷◌, ◌++◌, refl, sym, ap, ◌∙◌, ◌||◌, ◌&&◌}
use Rattle.std.proofs.Common.{Option, append_assoc}
use Rattle.std.specs.Prelude.{map, take, not}
use Rattle.std.specs.List.{list_any}
use Rattle.std.proofs.lemmas.Bool.{true≢false}
use Rattle.cr_base.specs.declared.entry.Entry.{Entry}
use Rattle.cr_base.specs.declared.entry.Entry.TheVariants as entries
use Rattle.cr_base.specs.declared.entry.Stamp.{Stamp}
use Rattle.cr_base.specs.declared.entry.Stamped.{Stamped}
use Rattle.cr_base.specs.Drawn.{stamped}
use Rattle.cr_base.specs.History.{History, decision_told}
use Rattle.cr_base.specs.Lists.{is_number, last}
use Rattle.cr_bounds.specs.ShownTo.{is_told, tag_for, is_committees, is_chairs, is_eligible, oversees}
use Rattle.cr_bounds.specs.ShownTo.{is_on_committee, chairs_committee, is_past_submission}
use Rattle.cr_policy.specs.HiddenPayload.{AcceptedAlike}
use Rattle.cr_policy.specs.View.{view}
use Rattle.cr_policy.proofs.RemovedLaws.{told-without, removal}
use Rattle.cr_undeduced.specs.Payload.{Payload, own_if, are_for_same}
use Rattle.cr_undeduced.specs.Undeducible.{Looking, past_one, was_told, any_told, known_of}
use Rattle.cr_undeduced.proofs.Among.{Among, among-map}
use Rattle.cr_undeduced.proofs.BesidesFacts.{SameTold}
use Rattle.cr_undeduced.proofs.BesidesViews.{told-also, unseen-one, accepted-from}
use Rattle.cr_undeduced.proofs.Fill.{retold, retold-own, fill, refilled, mixed, with_tags, mixed_but_tags, mixed_behind}
use Rattle.cr_undeduced.proofs.RefilledFacts.{phase-refilled, role-refilled, authors-refilled, conflict-refilled}
use Rattle.cr_undeduced.proofs.RefilledJudged.{same-committees, same-chairs}

module _ (u : Option ℕ) where
  -- of the same tags she is told in both, wherever they stand
  abbrev TagsTold : History → History → Type 0
  TagsTold A B = (maker p : ℕ) (tag : List ℕ) → is_told u A [] [] maker (entries.Tagged p tag true)
      ≡ is_told u B [] [] maker (entries.Tagged p tag true)

  -- ---- one tag

  module _ (before after : History) (stamp : Stamp) (more : Bool) (p : ℕ) where
    abbrev tagged : List ℕ → Bool → Stamped
    tagged tag on = stamped stamp more (entries.Tagged p tag on)

    abbrev with_tag : List ℕ → Bool → History
    with_tag tag on = before ++ tagged tag on ∷ after

    abbrev without : History
    without = before ++ after

    same-without : (tag : List ℕ) (on : Bool) → SameTold (with_tag tag on) without
    same-without tag on X told silent =
        told-without (λ (e : Stamped). told e.stamp.maker e.entry) before after (tagged tag on)
        (silent stamp.maker (entries.Tagged p tag on) tt)

    accepted-without : (tag : List ℕ) (on : Bool) → AcceptedAlike (with_tag tag on) without
    accepted-without tag on q =
        accepted-from (with_tag tag on) without (same-without tag on) q
        (ap last (told-without (λ (e : Stamped). decision_told q e.entry) before after (tagged tag on) refl))

    told-with : (tag : List ℕ) (on : Bool) → TagsTold (with_tag tag on) without
    told-with tag on maker q other =
        told-also (with_tag tag on) without (same-without tag on) (accepted-without tag on) u [] [] [] maker
        (entries.Tagged q other true) tt

    -- where she isn't told of it, it is as if it weren't there
    untold : (tag : List ℕ) (on : Bool) → is_told u without [] [] stamp.maker (entries.Tagged p tag true) ≡ false
        → view u without ≡ view u (with_tag tag on)
    untold tag on none =
        removal u before after (tagged tag on)
        (unseen-one u before after (tagged tag on) tt (told-with tag on stamp.maker p tag ∙ none))
        (accepted-without tag on)

    told-same : (tag other : List ℕ) → are_for_same tag other ≡ true
        → is_told u without [] [] stamp.maker (entries.Tagged p tag true)
        ≡ is_told u without [] [] stamp.maker (entries.Tagged p other true)
    told-same tag other same =
        λ i. is_number u stamp.maker
        || ((same-committees tag other same i && is_eligible u p without)
        || (same-chairs tag other same i && oversees u p without))

    -- and so another for the same may stand there
    swapped : (tag other : List ℕ) (on : Bool) → are_for_same tag other ≡ true
        → is_told u (with_tag tag on) [] [] stamp.maker (entries.Tagged p tag true) ≡ false
        → view u (with_tag tag on) ≡ view u (with_tag other on)
    swapped tag other on same none =
        let none_without = sym (told-with tag on stamp.maker p tag) ∙ none in
        sym (untold tag on none_without)
        ∙ untold other on (sym (told-same tag other same) ∙ none_without)

    told-swapped : (tag other : List ℕ) (on : Bool) → TagsTold (with_tag tag on) (with_tag other on)
    told-swapped tag other on maker q t = told-with tag on maker q t ∙ sym (told-with other on maker q t)

  -- ---- one entry

  -- the same is seen, and of the same tags she is told
  record Same (A B : History) : Type 0 where
    seen : view u A ≡ view u B
    told : TagsTold A B

  same : (A B : History) → A ≡ B → Same A B
  same A B is = record {
    seen = ap (view u) is;
    told = λ maker p tag i. is_told u (is i) [] [] maker (entries.Tagged p tag true);
  }

  -- the tag that is filled in is another only where she isn't told of the first
  tag-same : (before after : History) (stamp : Stamp) (more : Bool) (p : ℕ) (tag other : List ℕ) (on known : Bool)
      → (known ≡ false → is_told u (before ++ stamped stamp more (entries.Tagged p (retold tag tag) on) ∷ after) [] []
      stamp.maker (entries.Tagged p tag true) ≡ false)
      → Same (before ++ stamped stamp more (entries.Tagged p (retold tag tag) on) ∷ after)
      (before ++ stamped stamp more (entries.Tagged p (retold tag (own_if known tag other)) on) ∷ after)
  tag-same before after stamp more p tag other on true none = same _ _ refl
  tag-same before after stamp more p tag other on false none = by (are_for_same tag other) refl
    where
      own : History
      own = before ++ stamped stamp more (entries.Tagged p (retold tag tag) on) ∷ after

      is_own : with_tag before after stamp more p tag on ≡ own
      is_own = ap (λ t. with_tag before after stamp more p t on) (sym (retold-own tag))

      by : (b : Bool) → are_for_same tag other ≡ b
          → Same own (with_tag before after stamp more p (own_if (not b) tag other) on)
      by false others = same own (with_tag before after stamp more p tag on) (sym is_own)
      by true alike = record {
        seen =
            ap (view u) (sym is_own)
            ∙ swapped before after stamp more p tag other on alike
            (ap (λ (H : History). is_told u H [] [] stamp.maker (entries.Tagged p tag true)) is_own ∙ none refl);
        told = λ maker q t.
            (λ i. is_told u (sym is_own i) [] [] maker (entries.Tagged q t true))
            ∙ told-swapped before after stamp more p tag other on maker q t;
      }

  -- ---- all of them

  module _ (T : History) where
    abbrev with_ahead : History → Looking
    with_ahead ahead = record { who = u; stood = T; ahead = ahead }

    untold-then : (looks : List Looking) (before : History) (e : Stamped) (later : History)
        → Among (with_ahead (e ∷ later)) looks → any_told tag_for looks before e ≡ false
        → was_told tag_for before e u T (e ∷ later) ≡ false
    untold-then looks before e later among none = by (was_told tag_for before e u T (e ∷ later)) refl
      where
        by : (b : Bool) → was_told tag_for before e u T (e ∷ later) ≡ b → b ≡ false
        by true is =
            absurd (true≢false
            (sym (among (λ (look : Looking). was_told tag_for before e look.who look.stood look.ahead) is) ∙ none))
        by false is = refl

    first-part : (a : Bool) → (a && true) ≡ false → a ≡ false
    first-part true h = h
    first-part false h = refl

    one-same : (looks : List Looking) (x : Payload) (before : History) (e : Stamped) (later pre rest : History)
        → Among (with_ahead (e ∷ later)) looks
        → TagsTold T
        (pre ++ stamped e.stamp e.more (fill (mixed (with_tags (known_of looks before e)) e.entry x) e.entry) ∷ rest)
        → Same (pre ++ stamped e.stamp e.more (fill (mixed (with_tags (known_of looks before e)) e.entry x) e.entry)
        ∷ rest)
        (pre ++ stamped e.stamp e.more (fill (mixed (known_of looks before e) e.entry x) e.entry) ∷ rest)
    one-same looks x before e later pre rest among told =
        by e.entry told (untold-then looks before e later among)
      where
        by : (entry : Entry)
            → TagsTold T
            (pre ++ stamped e.stamp e.more (fill (mixed (with_tags (known_of looks before e)) entry x) entry) ∷ rest)
            → (any_told tag_for looks before e ≡ false
            → was_told tag_for before (stamped e.stamp e.more entry) u T (e ∷ later) ≡ false)
            → Same
            (pre ++ stamped e.stamp e.more (fill (mixed (with_tags (known_of looks before e)) entry x) entry) ∷ rest)
            (pre ++ stamped e.stamp e.more (fill (mixed (known_of looks before e) entry x) entry) ∷ rest)
        by (entries.Tagged paper tag on) told none =
            tag-same pre rest e.stamp e.more paper tag x.tag (own_if (known_of looks before e).on on x.on)
            (known_of looks before e).tag
            (λ unknown. sym (told e.stamp.maker paper tag) ∙ first-part _ (none unknown))
        by (entries.Registered user name digest) told none = same _ _ refl
        by entry told none = same _ _ refl

    all-same : (k : ℕ) (looks : List Looking) (xs : ℕ → Payload) (before G pre : History)
        → Among (with_ahead (take k G)) looks
        → TagsTold T (pre ++ refilled (mixed_but_tags looks before xs G) (take k G))
        → view u (pre ++ refilled (mixed_but_tags looks before xs G) (take k G))
        ≡ view u (pre ++ refilled (mixed_behind looks before xs G) (take k G))
    all-same zero looks xs before [] pre among told = refl
    all-same zero looks xs before (e ∷ G) pre among told = refl
    all-same (suc k) looks xs before [] pre among told = refl
    all-same (suc k) looks xs before (e ∷ G) pre among told =
        first.seen
        ∙ ap (view u) (sym (append_assoc pre (other ∷ []) kept))
        ∙ all-same k (map past_one looks) (λ n. xs (suc n)) (before ++ e ∷ []) G (pre ++ other ∷ [])
        (among-map past_one (with_ahead (e ∷ take k G)) looks among)
        (λ maker p tag. told maker p tag ∙ first.told maker p tag
        ∙ (λ i. is_told u (sym (append_assoc pre (other ∷ []) kept) i) [] [] maker (entries.Tagged p tag true)))
        ∙ ap (view u) (append_assoc pre (other ∷ []) all)
      where
        other : Stamped
        other = stamped e.stamp e.more (fill (mixed (known_of looks before e) e.entry (xs 0)) e.entry)

        kept : History
        kept = refilled (mixed_but_tags (map past_one looks) (before ++ e ∷ []) (λ n. xs (suc n)) G) (take k G)

        all : History
        all = refilled (mixed_behind (map past_one looks) (before ++ e ∷ []) (λ n. xs (suc n)) G) (take k G)

        first : Same
            (pre ++ stamped e.stamp e.more
            (fill (mixed (with_tags (known_of looks before e)) e.entry (xs 0)) e.entry) ∷ kept)
            (pre ++ other ∷ kept)
        first = one-same looks (xs 0) before e (take k G) pre kept among told

told-refilled : (u : Option ℕ) (xs : ℕ → Payload) (H : History) → TagsTold u H (refilled xs H)
told-refilled u xs H maker p tag =
    λ i. is_number u maker
    || ((is_committees tag && eligible i)
    || (is_chairs tag && (eligible i && chairs_committee (sym (role-refilled xs H u) i))))
  where
    eligible : is_eligible u p H ≡ is_eligible u p (refilled xs H)
    eligible =
        λ i. (is_on_committee (sym (role-refilled xs H u) i) && is_past_submission (sym (phase-refilled xs H) i))
        && not (list_any (is_number u) (sym (authors-refilled xs H p) i) || sym (conflict-refilled xs H u p) i)

pub tags-unseen : (u : Option ℕ) (T : History) (k : ℕ) (looks : List Looking) (xs : ℕ → Payload) (H : History)
    → Among (record { who = u; stood = T; ahead = take k H }) looks → T ≡ take k H
    → view u (refilled (mixed_but_tags looks [] xs H) (take k H))
    ≡ view u (refilled (mixed_behind looks [] xs H) (take k H))
tags-unseen u T k looks xs H among whole =
    all-same u T k looks xs [] H [] among
    (λ maker p tag.
    (λ i. is_told u (whole i) [] [] maker (entries.Tagged p tag true))
    ∙ told-refilled u (mixed_but_tags looks [] xs H) (take k H) maker p tag)
