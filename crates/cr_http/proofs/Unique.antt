-- SPDX-License-Identifier: Apache-2.0 OR MIT
-- One thing stands at the front of a text, so a text spells one list of requests.
use Rattle.std.proofs.Common.{◌≡◌, ℕ, ◌+◌, List, [], ◌∷◌, Option, Some, None, Bool, true, false, refl, sym, ◌∙◌, ap}
use Rattle.std.proofs.Common.{subst, drop, inl, inr}
use Rattle.std.specs.Prelude.{nat_lt, slice_range, MatchBool}
use Rattle.httparse.proofs.GrammarLemmas.{request_unique}
use Rattle.cr_http.specs.declared.refusal.Refusal.TheVariants.{HeadTooLarge}
use Rattle.cr_http.specs.HeadRange.{head_at}
use Rattle.cr_http.specs.Head.{head_of, framing_of}
use Rattle.cr_http.specs.Found.{Found, whole, refused, clean, cut, with_body, line_feeds, StandsAfter, StandsFrom}
use Rattle.cr_http.specs.Found.{StandsAt}
use Rattle.cr_http.specs.Requests.{RequestText, End, SpellsFrom, EndsBy, asked}

after-unique : (bytes rest : List ℕ) (f g : Found) → StandsAfter bytes rest f → StandsAfter bytes rest g → f ≡ g
after-unique bytes rest f g (inl x) (inl y) =
    let same = request_unique bytes x.0 y.0 [] [] x.1 y.1 in
    x.2 ∙ ap (λ h. with_body (head_of h) (framing_of (head_of h)) rest) same.0 ∙ sym y.2
after-unique bytes rest f g (inl x) (inr y) = absurd (y.0 x.0 x.1)
after-unique bytes rest f g (inr x) (inl y) = absurd (x.0 y.0 y.1)
after-unique bytes rest f g (inr x) (inr y) = x.1 ∙ sym y.1

from-unique : (text : List ℕ) (range : Option (ℕ × ℕ)) (f g : Found) → StandsFrom text range f → StandsFrom text range g
    → f ≡ g
from-unique text None f g x y = x ∙ sym y
from-unique text (Some range) f g x y = many (nat_lt 66 (line_feeds (slice_range text range.0 range.1))) x y
  where
    many : (t : Bool) → MatchBool t (f ≡ refused HeadTooLarge false)
        (StandsAfter (slice_range text range.0 range.1) (drop range.1 text) f)
        → MatchBool t (g ≡ refused HeadTooLarge false)
        (StandsAfter (slice_range text range.0 range.1) (drop range.1 text) g) → f ≡ g
    many true x y = x ∙ sym y
    many false x y = after-unique (slice_range text range.0 range.1) (drop range.1 text) f g x y

pub StandsAt-unique : (text : List ℕ) (f g : Found) → StandsAt text f → StandsAt text g → f ≡ g
StandsAt-unique text f g x y = from-unique text (head_at text) f g x y

ends_unique : (found : Found) (end end' : End) → EndsBy found end → EndsBy found end' → end ≡ end'
ends_unique (whole h b rest) end end' x y = absurd x
ends_unique (refused why head) end end' x y = x ∙ sym y
ends_unique clean end end' x y = x ∙ sym y
ends_unique cut end end' x y = x ∙ sym y

not_whole : (text : List ℕ) (r : RequestText) (rest : List ℕ) (found : Found) (end : End)
    → StandsAt text (whole r.head r.body rest) → StandsAt text found
    → EndsBy found end → ⊥
not_whole text r rest found end w s e =
    let same = StandsAt-unique text found (whole r.head r.body rest) s w in subst (λ (f : Found). EndsBy f end) same e

-- a text spells one list of requests, and has one end
pub SpellsFrom-unique : (cl : ℕ → RequestText → Bool) (n : ℕ) (text : List ℕ) (rs qs : List RequestText)
    (end end' : End)
    → SpellsFrom cl n text rs end → SpellsFrom cl n text qs end' → (rs ≡ qs) × (end ≡ end')
SpellsFrom-unique cl n text [] [] end end' x y = (
  refl,
  ends_unique x.0 end end' x.2 (subst (λ (f : Found). EndsBy f end') (StandsAt-unique text y.0 x.0 y.1 x.1)
      y.2),
)
SpellsFrom-unique cl n text [] (q ∷ qs) end end' x y = absurd (not_whole text q y.0 x.0 end y.1 x.1 x.2)
SpellsFrom-unique cl n text (r ∷ rs) [] end end' x y = absurd (not_whole text r x.0 y.0 end' x.1 y.1 y.2)
SpellsFrom-unique cl n text (r ∷ rs) (q ∷ qs) end end' x y =
    let same : whole q.head q.body y.0 ≡ whole r.head r.body x.0 =
    StandsAt-unique text (whole q.head q.body y.0) (whole r.head r.body x.0) y.1 x.1 in
    let head : q.head ≡ r.head = cc in
    let body : q.body ≡ r.body = cc in
    let rest : y.0 ≡ x.0 = cc in
    let request : q ≡ r = (λ i. record { head = head i; body = body i }) in
    let y' : MatchBool (cl n r) ((qs ≡ []) × (end' ≡ asked)) (SpellsFrom cl (n + 1) x.0 qs end') =
    subst (λ (t : List ℕ). MatchBool (cl n r) ((qs ≡ []) × (end' ≡ asked)) (SpellsFrom cl (n + 1) t qs end')) rest
    (subst (λ (p : RequestText). MatchBool (cl n p) ((qs ≡ []) × (end' ≡ asked)) (SpellsFrom cl (n + 1) y.0 qs end'))
    request y.2) in
    let t = tails (cl n r) x.2 y' (λ a b. SpellsFrom-unique cl (n + 1) x.0 rs qs end end' a b) in
    (λ i. (sym request i ∷ t.0 i), t.1)
  where
    tails : (b : Bool) → MatchBool b ((rs ≡ []) × (end ≡ asked)) (SpellsFrom cl (n + 1) x.0 rs end)
        → MatchBool b ((qs ≡ []) × (end' ≡ asked)) (SpellsFrom cl (n + 1) x.0 qs end')
        → (SpellsFrom cl (n + 1) x.0 rs end → SpellsFrom cl (n + 1) x.0 qs end' → (rs ≡ qs) × (end ≡ end'))
        → (rs ≡ qs) × (end ≡ end')
    tails true a b go = (a.0 ∙ sym b.0, a.1 ∙ sym b.1)
    tails false a b go = go a b
