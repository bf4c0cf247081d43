-- SPDX-License-Identifier: Apache-2.0 OR MIT
-- A history with another payload in every place: what the other histories of a group are made of.
use Rattle.std.proofs.Common.{ℕ, Bool, true, false, ◌≡◌, ◌||◌, zero, suc, List, [], ◌∷◌, ◌++◌, length, refl, sym, ap}
use Rattle.std.specs.Prelude.{map, not}
use Rattle.cr_base.specs.declared.entry.Entry.{Entry}
use Rattle.cr_base.specs.declared.entry.Entry.TheVariants.{Registered, Submitted, Revised, Uploaded, Bid, Assigned}
use Rattle.cr_base.specs.declared.entry.Entry.TheVariants.{Reviewed, Commented, Tagged, Decided, Responded}
use Rattle.cr_base.specs.Drawn.{stamped}
use Rattle.cr_base.specs.History.{History}
use Rattle.cr_undeduced.specs.Payload.{Payload, Known, own_if, are_for_same, with_other}
use Rattle.cr_undeduced.specs.Undeducible.{Looking, past_one, known_of, others_behind}

-- the other tag, where it is for the same
abbrev pub retold : List ℕ → List ℕ → List ℕ
retold tag other = own_if (not (are_for_same tag other)) tag other

-- the entry with that in place of its own, all of it
abbrev pub fill : Payload → Entry → Entry
fill x (Registered user name digest) = Registered user name x.digest
fill x (Submitted paper title abstract) = Submitted paper x.title x.abstract_
fill x (Revised paper title abstract) = Revised paper x.title x.abstract_
fill x (Uploaded paper version content) = Uploaded paper version x.content
fill x (Bid paper value) = Bid paper x.value
fill x (Assigned paper user review_kind ordinal) = Assigned paper user x.kind ordinal
fill x (Reviewed paper ordinal version form) = Reviewed paper ordinal version x.form
fill x (Commented paper n ordinal text) = Commented paper n ordinal x.text
fill x (Tagged paper tag on) = Tagged paper (retold tag x.tag) x.on
fill x (Decided paper decision) = Decided paper x.decision
fill x (Responded paper text) = Responded paper x.text
fill x e = e

-- a history, each place filled with what there is for it
abbrev pub refilled : (ℕ → Payload) → History → History
refilled xs [] = []
refilled xs (e ∷ H) = stamped e.stamp e.more (fill (xs 0) e.entry) ∷ refilled (λ n. xs (suc n)) H

-- what there is behind so many places
abbrev pub behind : ℕ → (ℕ → Payload) → ℕ → Payload
behind zero xs = xs
behind (suc k) xs = behind k (λ n. xs (suc n))

-- one history behind another
pub refilled-append : (xs : ℕ → Payload) (H g : History)
    → refilled xs (H ++ g) ≡ refilled xs H ++ refilled (behind (length H) xs) g
refilled-append xs [] g = refl
refilled-append xs (e ∷ H) g =
    ap (λ (rest : History). stamped e.stamp e.more (fill (xs 0) e.entry) ∷ rest)
    (refilled-append (λ n. xs (suc n)) H g)

-- ---- all but what is known

-- the other payload, with the entry's own parts where these are known
abbrev pub mixed : Known → Entry → Payload → Payload
mixed known (Registered user name digest) x = record x { digest = own_if known.digest digest x.digest }
mixed known (Submitted paper title abstract) x =
    record x { title = own_if known.title title x.title; abstract_ = own_if known.abstract_ abstract x.abstract_ }
mixed known (Revised paper title abstract) x =
    record x { title = own_if known.title title x.title; abstract_ = own_if known.abstract_ abstract x.abstract_ }
mixed known (Uploaded paper version content) x = record x { content = own_if known.content content x.content }
mixed known (Bid paper value) x = record x { value = own_if known.value value x.value }
mixed known (Assigned paper user review_kind ordinal) x = record x { kind = own_if known.kind review_kind x.kind }
mixed known (Reviewed paper ordinal version form) x = record x {
  form = record {
    score = own_if known.score form.score x.form.score;
    confidence = own_if known.confidence form.confidence x.form.confidence;
    to_authors = own_if known.to_authors form.to_authors x.form.to_authors;
    to_pc = own_if known.to_pc form.to_pc x.form.to_pc;
  };
}
mixed known (Commented paper n ordinal text) x = record x { text = own_if known.text text x.text }
mixed known (Tagged paper tag on) x =
    record x { tag = own_if known.tag tag x.tag; on = own_if known.on on x.on }
mixed known (Decided paper decision) x = record x { decision = own_if known.decision decision x.decision }
mixed known (Responded paper text) x = record x { text = own_if known.text text x.text }
mixed known e x = x

same-either : {A : Type 0} (b : Bool) (x : A) → own_if b x x ≡ x
same-either true x = refl
same-either false x = refl

pub retold-own : (tag : List ℕ) → retold tag tag ≡ tag
retold-own tag = same-either (not (are_for_same tag tag)) tag

-- a tag that is known, or whose other is for others, stays
tag-mixed : (known : Bool) (tag other : List ℕ)
    → own_if (known || not (are_for_same tag other)) tag other ≡ retold tag (own_if known tag other)
tag-mixed true tag other = sym (retold-own tag)
tag-mixed false tag other = refl

-- so it fills the entry in as the other history has it
pub mixed-fills : (known : Known) (x : Payload) (e : Entry) → with_other known x e ≡ fill (mixed known e x) e
mixed-fills known x (Registered user name digest) = refl
mixed-fills known x (Tagged paper tag on) =
    ap (λ t. Tagged paper t (own_if known.on on x.on)) (tag-mixed known.tag tag x.tag)
mixed-fills known x e = refl

-- place by place; and, of the first, so that every tag stays
abbrev pub mixed_by : (Known → Known) → List Looking → History → (ℕ → Payload) → History → ℕ → Payload
mixed_by f looks before xs [] n = xs n
mixed_by f looks before xs (e ∷ later) zero = mixed (f (known_of looks before e)) e.entry (xs 0)
mixed_by f looks before xs (e ∷ later) (suc n) =
    mixed_by f (map past_one looks) (before ++ e ∷ []) (λ n. xs (suc n)) later n

abbrev pub mixed_behind : List Looking → History → (ℕ → Payload) → History → ℕ → Payload
mixed_behind looks before xs H = mixed_by (λ known. known) looks before xs H

abbrev pub with_tags : Known → Known
with_tags known = record known { tag = true }

abbrev pub mixed_but_tags : List Looking → History → (ℕ → Payload) → History → ℕ → Payload
mixed_but_tags looks before xs H = mixed_by with_tags looks before xs H

pub others-filled : (looks : List Looking) (before : History) (xs : ℕ → Payload) (H : History)
    → others_behind looks before xs H ≡ refilled (mixed_behind looks before xs H) H
others-filled looks before xs [] = refl
others-filled looks before xs (e ∷ later) =
    λ i. stamped e.stamp e.more (mixed-fills (known_of looks before e) (xs 0) e.entry i)
    ∷ others-filled (map past_one looks) (before ++ e ∷ []) (λ n. xs (suc n)) later i
