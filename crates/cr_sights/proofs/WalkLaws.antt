-- SPDX-License-Identifier: Apache-2.0 OR MIT
-- A user's view, entry by entry over the history.
use Rattle.std.proofs.Common.{◌≡◌, ◌∙◌, ℕ, ◌+◌, ◌<◌, ◌≤◌, List, [], ◌++◌, length, take, drop, get_or, refl, sym}
use Rattle.std.proofs.Common.{ap, subst, arith, append_assoc, append-nil, length-append, Option, Some, None}
use Rattle.std.specs.Prelude.{IfSome}
use Rattle.std.proofs.lemmas.Grind.{flat_map-append}
use Rattle.std.proofs.lemmas.List.{drop_all}
use Rattle.std.proofs.lemmas.Option.{slice_get-get_or}
use Rattle.cr_base.specs.declared.entry.Stamped.{Stamped}
use Rattle.cr_base.specs.Lists.{listed}
use Rattle.cr_base.specs.History.{History}
use Rattle.cr_ports.specs.Writing.{Outlet, Writes, BreaksOff}
use Rattle.cr_ports.proofs.WritingLaws.{breaks_later, breaks_sooner, writes-nil, writes-append}
use Rattle.cr_policy.specs.Triggers.{Reader, Around, Position, position_of}
use Rattle.cr_policy.specs.View.{View, sight, sights}
use Rattle.cr_sights.specs.Lines.{line_text, lines_text}
use Rattle.cr_sights.specs.Positions.{IsPositionIn}
use Rattle.cr_sights.specs.Walks.{StopsShort}
use Rattle.cr_sights.proofs.Around.{one_more, and_behind}

-- what the entries from a place on show
abbrev pub sights_from : Reader → History → ℕ → View
sights_from r H at = sights r (take at H) (drop at H)

-- what an entry at this place shows
abbrev pub sights_at : Reader → History → ℕ → Stamped → View
sights_at r H at e = sight r (record { before = take at H; after = drop (at + 1) H }) e

module _ (r : Reader) (H : History) (at : ℕ) (d : Stamped) (within : at < length H) where
  -- the entry at a place shows something, and then those behind it
  step : sights_from r H at ≡ sights_at r H at (get_or H at d) ++ sights_from r H (at + 1)
  step =
      ap (sights r (take at H)) (and_behind H at d within)
      ∙ ap (λ (before : History). sights_at r H at (get_or H at d) ++ sights r before (drop (at + 1) H))
      (sym (one_more H at d within))

  -- what one entry shows, by what is known of it
  pub seen_here : d ≡ get_or H at d → (seen : View) (position : Position) → IsPositionIn H at position
      → ((place : Around) → position_of place d.entry ≡ position → seen ≡ sight r place d)
      → seen ≡ sights_at r H at (get_or H at d)
  seen_here here seen position known is =
      let place : Around = record { before = take at H; after = drop (at + 1) H } in
      is place
      (ap (λ (e : Stamped). position_of place e.entry) here
      ∙ subst (λ o. IfSome o (λ (e : Stamped). position_of place e.entry ≡ position)) (slice_get-get_or H at d within)
      known)
      ∙ ap (λ (e : Stamped). sights_at r H at e) here

  -- ---- lengths

  pub counted : (count n : ℕ) (seen : View) → n ≡ length seen → seen ≡ sights_at r H at (get_or H at d)
      → count + length (sights_from r H at) ≡ length (sights r [] H)
      → (count + n) + length (sights_from r H (at + 1)) ≡ length (sights r [] H)
  counted count n seen many is was =
      let l = length-append (sights_at r H at (get_or H at d)) (sights_from r H (at + 1)) in
      let s = ap length step in
      let e = ap length is in
      omega (arith, l, s, e, many, was)

-- an entry shows one sighting at most
pub listed-short : {A : Type 0} (o : Option A) → length (listed o) ≤ 1
listed-short None = omega arith
listed-short (Some x) = omega arith

-- ---- lines

-- The lines of what the entries up to a place show were written.
pub record Reached (r : Reader) (H : History) (at : ℕ) (s s' : Outlet) : Type 0 where
  pub done : List ℕ
  pub split : lines_text (sights r [] H) ≡ done ++ lines_text (sights_from r H at)
  pub written : Writes done s s'

pub begun : (r : Reader) (H : History) (s : Outlet) → Reached r H 0 s s
begun r H s = record { done = []; split = refl; written = writes-nil s }

module _ (r : Reader) (H : History) (at : ℕ) (d : Stamped) (within : at < length H) (line : List ℕ) (seen : View)
    (is : seen ≡ sights_at r H at (get_or H at d)) (text : line ≡ lines_text seen) where
  lines : lines_text (sights_from r H at) ≡ line ++ lines_text (sights_from r H (at + 1))
  lines =
      ap lines_text (step r H at d within) ∙ flat_map-append line_text (sights_at r H at (get_or H at d))
      (sights_from r H (at + 1))
      ∙ ap (λ (b : List ℕ). b ++ lines_text (sights_from r H (at + 1))) (sym (text ∙ ap lines_text is))

  pub wrote_line : (s s' s'' : Outlet) → Reached r H at s s' → Writes line s' s'' → Reached r H (at + 1) s s''
  wrote_line s s' s'' was now = record {
    done = was.done ++ line;
    split = was.split ∙ ap (λ (b : List ℕ). was.done ++ b) lines
        ∙ sym (append_assoc was.done line (lines_text (sights_from r H (at + 1))));
    written = writes-append was.done line s s' s'' was.written now;
  }

  pub broke_line : (s s' s'' : Outlet) → Reached r H at s s' → BreaksOff line s' s''
      → BreaksOff (lines_text (sights r [] H)) s s''
  broke_line s s' s'' was now =
      let rest = lines_text (sights_from r H (at + 1)) in
      subst (λ (b : List ℕ). BreaksOff b s s'') (sym (was.split ∙ ap (λ (b : List ℕ). was.done ++ b) lines))
      (breaks_later was.done (line ++ rest) s s' s'' was.written (breaks_sooner line rest s' s'' now))

-- ---- the ends

pub written_whole : (r : Reader) (H : History) (at : ℕ) (s s' : Outlet) → length H ≤ at → Reached r H at s s'
    → Writes (lines_text (sights r [] H)) s s'
written_whole r H at s s' all was =
    subst (λ (b : List ℕ). Writes b s s')
    (sym (was.split ∙ ap (λ (rest : History). was.done ++ lines_text (sights r (take at H) rest)) (drop_all at H all)
    ∙ append-nil was.done)) was.written

pub stopped_short : (r : Reader) (H : History) (at : ℕ) (s s' : Outlet) → Reached r H at s s'
    → StopsShort (lines_text (sights r [] H)) s s'
stopped_short r H at s s' was =
    record { part = was.done; missing = lines_text (sights_from r H at); parts = was.split; written = was.written }

pub counted_whole : (r : Reader) (H : History) (at count : ℕ) → length H ≤ at
    → count + length (sights_from r H at) ≡ length (sights r [] H) → count ≡ length (sights r [] H)
counted_whole r H at count all was =
    let none : length (sights_from r H at) ≡ 0 =
    ap (λ (rest : History). length (sights r (take at H) rest)) (drop_all at H all) in
    omega (arith, none, was)
