-- SPDX-License-Identifier: Apache-2.0 OR MIT
-- What was read tells whether the answer is one to HEAD.
use Rattle.std.proofs.Common.{◌≡◌, ◌∙◌, ℕ, List, length, take, drop, Option, Some, None, Bool, true, false, sym, ap}
use Rattle.std.proofs.Common.{subst, inl, inr}
use Rattle.std.specs.Prelude.{◌==◌, nat_lt, nat_le, if◌then◌else◌, slice_range, MatchBool}
use Rattle.cr_http.specs.declared.framing.Framing.{Framing}
use Rattle.cr_http.specs.declared.framing.Framing.TheVariants.{Body, Refuse}
use Rattle.cr_http.specs.declared.refusal.Refusal.TheVariants.{HeadTooLarge}
use Rattle.cr_http.specs.Found.{Found, whole, refused, clean, cut, with_body, line_feeds, StandsAfter, StandsFrom}
use Rattle.cr_http.specs.Found.{StandsAt, IsFramed}
use Rattle.cr_http.specs.Head.{HeadText, head_of, framing_of, is_head_method}
use Rattle.cr_http.specs.HeadRange.{blank_end_from, head_at}
use Rattle.cr_http.specs.ToHead.{IsToHead, IsToHeadBy, IsToHeadFrom}

-- a request or a refusal tells it; an end tells nothing
abbrev pub TellsHead : Found → Bool → Type 0
TellsHead (whole h body rest) is_head = is_head ≡ is_head_method h
TellsHead (refused why head) is_head = is_head ≡ head
TellsHead clean is_head = ⊥
TellsHead cut is_head = ⊥

by_body : (h : HeadText) (framing : Framing) (rest : List ℕ) (found : Found) (is_head : Bool)
    → found ≡ with_body h framing rest → TellsHead found is_head
    → is_head ≡ is_head_method h
by_body h (Refuse why) rest found is_head e tells = subst (λ (f : Found). TellsHead f is_head) e tells
by_body h (Body n) rest found is_head e tells = fits (nat_le n (length rest)) e
  where
    fits : (t : Bool) → found ≡ (if t then whole h (take n rest) (drop n rest) else cut) → is_head ≡ is_head_method h
    fits true e = subst (λ (f : Found). TellsHead f is_head) e tells
    fits false e = absurd (subst (λ (f : Found). TellsHead f is_head) e tells)

by_after : (bytes rest : List ℕ) (found : Found) (is_head : Bool) → StandsAfter bytes rest found
    → TellsHead found is_head → IsToHeadBy bytes is_head
by_after bytes rest found is_head (inl is) tells =
    inl (is.0, is.1, by_body (head_of is.0) (framing_of (head_of is.0)) rest found is_head is.2 tells)
by_after bytes rest found is_head (inr is) tells = inr (is.0, subst (λ (f : Found). TellsHead f is_head) is.1 tells)

by_place : (text : List ℕ) (range : Option (ℕ × ℕ)) (found : Found) (is_head : Bool) → StandsFrom text range found
    → TellsHead found is_head
    → IsToHeadFrom text range is_head
by_place text None found is_head is tells =
    without (nat_lt (length text) 16384) (blank_end_from 0 text == length text) is
  where
    without : (t u : Bool) → found ≡ (if t then (if u then clean else cut) else refused HeadTooLarge false)
        → is_head ≡ false
    without true true e = absurd (subst (λ (f : Found). TellsHead f is_head) e tells)
    without true false e = absurd (subst (λ (f : Found). TellsHead f is_head) e tells)
    without false u e = subst (λ (f : Found). TellsHead f is_head) e tells
by_place text (Some range) found is_head is tells = many (nat_lt 66 (line_feeds (slice_range text range.0 range.1))) is
  where
    many : (t : Bool) → MatchBool t (found ≡ refused HeadTooLarge false)
        (StandsAfter (slice_range text range.0 range.1) (drop range.1 text) found)
        → MatchBool t (is_head ≡ false) (IsToHeadBy (slice_range text range.0 range.1) is_head)
    many true e = subst (λ (f : Found). TellsHead f is_head) e tells
    many false after = by_after (slice_range text range.0 range.1) (drop range.1 text) found is_head after tells

-- where a request or a refusal stands
pub to_head_of : (text : List ℕ) (found : Found) (is_head : Bool) → StandsAt text found → TellsHead found is_head
    → IsToHead text is_head
to_head_of text found is_head is tells = by_place text (head_at text) found is_head is tells

-- where a head was read, whose body hasn't come yet
pub to_head_framed : (text : List ℕ) (start end : ℕ) (head : HeadText) (len : ℕ) (is_head : Bool)
    → IsFramed text start end head len
    → is_head ≡ is_head_method head
    → IsToHead text is_head
to_head_framed text start end head len is_head f is =
    subst (λ (o : Option (ℕ × ℕ)). IsToHeadFrom text o is_head) (sym f.range)
    (subst (λ (b : Bool). MatchBool b (is_head ≡ false) (IsToHeadBy (slice_range text start end) is_head)) (sym f.few)
    (inl (f.tree, f.reads, is ∙ ap is_head_method f.head_is)))
