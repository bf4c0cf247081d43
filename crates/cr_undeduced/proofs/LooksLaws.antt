-- SPDX-License-Identifier: Apache-2.0 OR MIT
-- At each look the same is seen: what was known stays, and the same papers are accepted.
use Rattle.std.proofs.Common.{ℕ, true, ◌≡◌, suc, zero, List, [], ◌∷◌, ◌++◌, refl, sym, ap, ◌∙◌}
use Rattle.std.proofs.Common.{Option, None, append_assoc, length, take_all, arith}
use Rattle.std.specs.Prelude.{map, take}
use Rattle.std.specs.List.{AllByRecursion}
use Rattle.std.proofs.lemmas.Bool.{or_right}
use Rattle.cr_base.specs.declared.entry.Entry.{Entry}
use Rattle.cr_base.specs.declared.entry.Entry.TheVariants as entries
use Rattle.cr_base.specs.declared.entry.Stamped.{Stamped}
use Rattle.cr_base.specs.Drawn.{stamped}
use Rattle.cr_base.specs.History.{History}
use Rattle.cr_policy.specs.HiddenPayload.{PlaceByPlace, shown_of}
use Rattle.cr_bounds.specs.ShownTo.{PartFor, digest_for, title_for, abstract_for, content_for, value_for, decision_for}
use Rattle.cr_bounds.specs.ShownTo.{review_kind_for, score_for, confidence_for, to_authors_for, to_pc_for, text_for}
use Rattle.cr_bounds.specs.ShownTo.{switch_for}
use Rattle.cr_policy.specs.Triggers.{reader, Around}
use Rattle.cr_policy.specs.View.{view}
use Rattle.cr_bounds.proofs.BoundsWalk.{within-one, Writes, writers-all}
use Rattle.cr_undeduced.specs.OtherStamps.{with_stamps}
use Rattle.cr_undeduced.specs.Payload.{Payload}
use Rattle.cr_undeduced.specs.Undeducible.{Look, Looking, looking_at, past_one, was_told, any_told, known_of}
use Rattle.cr_undeduced.specs.Undeducible.{any_final, LooksAlike, GroupAlike, all_at_end, who_looked, with_values}
use Rattle.cr_undeduced.specs.Undeducible.{otherwise, seen_at}
use Rattle.cr_undeduced.proofs.Fill.{fill, refilled, mixed, retold-own, mixed-fills, with_tags, mixed_but_tags}
use Rattle.cr_undeduced.proofs.Fill.{mixed_behind, others-filled}
use Rattle.cr_undeduced.proofs.KnownParts.{KnowsAll, entry-kept}
use Rattle.cr_undeduced.proofs.LooksAccepted.{accepted-then}
use Rattle.cr_undeduced.proofs.LooksTags.{tags-unseen}
use Rattle.cr_undeduced.proofs.StampedLooks.{stamped-take, stamps-alike}
use Rattle.cr_undeduced.proofs.RefilledViews.{KeepsTag, KeepTags, refilled-unseen}
use Rattle.cr_undeduced.proofs.Among.{Among, among-contained, among-map}

module _ (u : Option ℕ) (T : History) where
  abbrev with_ahead : History → Looking
  with_ahead ahead = record { who = u; stood = T; ahead = ahead }

  -- what she was told when she looked is known
  known-told : {A : Type 0} (part : PartFor (Option A)) (looks : List Looking) (before : History) (e : Stamped)
      (later : History) → Among (with_ahead (e ∷ later)) looks
      → was_told part before e u T (e ∷ later) ≡ true → any_told part looks before e ≡ true
  known-told part looks before e later among told =
      among (λ (look : Looking). was_told part before e look.who look.stood look.ahead) told

  -- and so it is of what stays beside the tags
  knows-all : (looks : List Looking) (before : History) (e : Stamped) (later : History)
      → Among (with_ahead (e ∷ later)) looks
      → KnowsAll u T (record { before = before; after = later }) e.stamp e.more (with_tags (known_of looks before e))
      e.entry
  knows-all looks before e later among = record {
    digest = known-told digest_for looks before e later among;
    title = known-told title_for looks before e later among;
    abstract_ = known-told abstract_for looks before e later among;
    content = known-told content_for looks before e later among;
    value = known-told value_for looks before e later among;
    kind = known-told review_kind_for looks before e later among;
    score = known-told score_for looks before e later among;
    confidence = known-told confidence_for looks before e later among;
    to_authors = known-told to_authors_for looks before e later among;
    to_pc = known-told to_pc_for looks before e later among;
    text = known-told text_for looks before e later among;
    tag = λ told. refl;
    on = known-told switch_for looks before e later among;
    decision = λ told.
        or_right (any_final looks e.entry) _ (known-told decision_for looks before e later among told);
  }

  -- so what is filled in where it wasn't is unseen
  hidden-then : (k : ℕ) (looks : List Looking) (xs : ℕ → Payload) (before G : History)
      → Among (with_ahead (take k G)) looks → before ++ take k G ≡ T → AllByRecursion (Writes u T) (take k G)
      → PlaceByPlace (λ at e other. shown_of (reader u T) at e e ≡ shown_of (reader u T) at e other) before (take k G)
      (refilled (mixed_but_tags looks before xs G) (take k G))
  hidden-then zero looks xs before [] among whole writes = tt
  hidden-then zero looks xs before (e ∷ G) among whole writes = tt
  hidden-then (suc k) looks xs before [] among whole writes = tt
  hidden-then (suc k) looks xs before (e ∷ G) among whole writes = (
    entry-kept u T at e.stamp e.more (with_tags (known_of looks before e)) (xs 0) e.entry
        (within-one u T before e.stamp e.more e.entry (take k G) whole) writes.0
        (knows-all looks before e (take k G) among)
        ∙ ap (λ (entry : Entry). shown_of (reader u T) at e (stamped e.stamp e.more entry))
        (mixed-fills (with_tags (known_of looks before e)) (xs 0) e.entry),
    hidden-then k (map past_one looks) (λ n. xs (suc n)) (before ++ e ∷ []) G
        (among-map past_one (with_ahead (e ∷ take k G)) looks among)
        (append_assoc before (e ∷ []) (take k G) ∙ whole) writes.1,
  )
    where
      at : Around
      at = record { before = before; after = take k G }

-- in which every tag is its own
tags-kept : (k : ℕ) (looks : List Looking) (xs : ℕ → Payload) (before G : History)
    → KeepTags (mixed_but_tags looks before xs G) (take k G)
tags-kept zero looks xs before [] = tt
tags-kept zero looks xs before (e ∷ G) = tt
tags-kept (suc k) looks xs before [] = tt
tags-kept (suc k) looks xs before (e ∷ G) =
    (by e.entry, tags-kept k (map past_one looks) (λ n. xs (suc n)) (before ++ e ∷ []) G)
  where
    by : (entry : Entry) → KeepsTag (mixed (with_tags (known_of looks before e)) entry (xs 0)) entry
    by (entries.Tagged paper tag on) = retold-own tag
    by entry = tt

pub refilled-take : (k : ℕ) (xs : ℕ → Payload) (H : History) → take k (refilled xs H) ≡ refilled xs (take k H)
refilled-take zero xs [] = refl
refilled-take zero xs (e ∷ H) = refl
refilled-take (suc k) xs [] = refl
refilled-take (suc k) xs (e ∷ H) =
    ap (λ (G : History). stamped e.stamp e.more (fill (xs 0) e.entry) ∷ G) (refilled-take k (λ n. xs (suc n)) H)

module _ (looks : List Look) (xs : ℕ → Payload) (H : History) where
  abbrev all : List Looking
  all = map (looking_at H) looks

  abbrev ys : ℕ → Payload
  ys = mixed_behind all [] xs H

  pub values_alike : (look : Look) → Among look looks → seen_at H look ≡ seen_at (with_values looks xs H) look
  values_alike look among =
      let stood : History = take look.upto H in
      let there : Among (looking_at H look) all = among-map (looking_at H) look looks among in
      refilled-unseen (mixed_but_tags all [] xs H) stood look.who (tags-kept look.upto all xs [] H)
      (hidden-then look.who stood look.upto all xs [] H there refl (writers-all look.who stood))
      (accepted-then look.who stood look.upto all xs H there refl)
      ∙ tags-unseen look.who stood look.upto all xs H there refl
      ∙ ap (view look.who) (sym (refilled-take look.upto ys H) ∙ ap (take look.upto) (sym (others-filled all [] xs H)))

  among_alike : (look : Look) → Among look looks → seen_at H look ≡ seen_at (otherwise looks xs H) look
  among_alike look among =
      values_alike look among
      ∙ stamps-alike (who_looked looks) look.who (among-map (λ (look : Look). look.who) look looks among) look.upto xs
      (with_values looks xs H)

  whole_values : take (length H) (with_values looks xs H) ≡ with_values looks xs H
  whole_values =
      ap (take (length H)) (others-filled all [] xs H)
      ∙ refilled-take (length H) ys H
      ∙ ap (refilled ys) (take_all (length H) H (omega arith))
      ∙ sym (others-filled all [] xs H)

  whole : take (length H) (otherwise looks xs H) ≡ otherwise looks xs H
  whole =
      stamped-take (who_looked looks) (length H) None xs (with_values looks xs H)
      ∙ ap (with_stamps (who_looked looks) None xs) whole_values

pub looks_alike : LooksAlike
looks_alike looks xs H look is = among_alike looks xs H look (among-contained look looks is)

-- ---- a group who look at the end

pub group_alike : GroupAlike
group_alike group xs H u is =
    ap (view u) (sym (take_all (length H) H (omega arith)))
    ∙ among_alike (all_at_end group H) xs H at_end
    (among-map (λ v. record { who = v; upto = length H }) u group (among-contained u group is))
    ∙ ap (view u) (whole (all_at_end group H) xs H)
  where
    at_end : Look
    at_end = record { who = u; upto = length H }
