-- SPDX-License-Identifier: Apache-2.0 OR MIT
-- A search that goes on where it stopped finds what one from the start finds.
use Rattle.std.proofs.Common.{◌≡◌, ℕ, ◌+◌, ◌<◌, ◌≤◌, List, [], ◌∷◌, ◌++◌, length, drop, get_or, Some, None, false, refl}
use Rattle.std.proofs.Common.{sym, ◌∙◌, ap, subst, arith, length-append, length-drop, append-nil, append_assoc, suc}
use Rattle.std.proofs.Math.Seq.{drop-cons}
use Rattle.std.proofs.Math.ListN.{drop_of_length-le}
use Rattle.std.proofs.lemmas.List.{drop-append-le, drop-drop}
use Rattle.std.specs.Prelude.{◌==◌}
use Rattle.cr_http.specs.HeadRange.{empty_line_len, blank_end_from, head_end_from, or_later, starting_at, window}
use Rattle.cr_http.specs.HeadRange.{head_at}
use Rattle.cr_http.specs.Search.{IsLine, reached, found_from, FindsSame, Looks, StandsThere}
use Rattle.cr_http.specs.declared.head_range.Line.{Line}
use Rattle.cr_http.specs.declared.head_range.Line.TheVariants as lines
use Rattle.cr_http.specs.declared.head_range.Search.{Search}
use Rattle.cr_http.specs.declared.head_range.Search.TheVariants as searches
use Rattle.cr_http.specs.declared.head_range.Look.{Look}
use Rattle.cr_http.specs.declared.head_range.Look.TheVariants as looks
use Rattle.cr_http.proofs.Offsets.{blank_end_from-goes_on, blank_end_from-stops}
use Rattle.cr_http.proofs.Windows.{front_grows}

-- what was found now, where nothing follows
found_now : (bytes : List ℕ) (from to : Search) → FindsSame bytes from to → found_from from bytes ≡ found_from to bytes
found_now bytes from to l = subst (λ (t : List ℕ). found_from from t ≡ found_from to t) (append-nil bytes) (l.same [])

-- a look from the later state says the same of the earlier one
pub looks_on : (bytes : List ℕ) (from to : Search) (look : Look) → FindsSame bytes from to → Looks bytes to look
    → Looks bytes from look
looks_on bytes from to (looks.Found range) l is = found_now bytes from to l ∙ is
looks_on bytes from to (looks.NotYet next) l is =
    (found_now bytes from to l ∙ is.0, record { within = is.1.within; same = λ more. l.same more ∙ is.1.same more })

pub looks_to : (bytes : List ℕ) (from to : Search) → FindsSame bytes from to → found_from to bytes ≡ None
    → Looks bytes from (looks.NotYet to)
looks_to bytes from to l none = (found_now bytes from to l ∙ none, l)

-- what skipping finds depends on where the empty lines end
skipped : (at to : ℕ) (bytes : List ℕ) → blank_end_from at (drop at bytes) ≡ blank_end_from to (drop to bytes)
    → found_from (searches.Skipping at) bytes ≡ found_from (searches.Skipping to) bytes
skipped at to bytes e = ap (λ n. starting_at n (head_end_from n (drop n bytes))) e

-- an empty line is skipped
pub skips : (bytes : List ℕ) (from at n : ℕ) → FindsSame bytes (searches.Skipping from) (searches.Skipping at)
    → IsLine (lines.Empty n) (drop at bytes)
    → FindsSame bytes (searches.Skipping from) (searches.Skipping (at + n))
skips bytes from at n l line =
    let d = length-drop at bytes in
    record {
      within = omega (arith, d, line.0, line.1, l.within);
      same = λ more. l.same more ∙ skipped at (at + n) (bytes ++ more) (goes_on more);
    }
  where
    goes_on : (more : List ℕ) → blank_end_from at (drop at (bytes ++ more)) ≡ blank_end_from (at + n)
        (drop (at + n) (bytes ++ more))
    goes_on more =
        let e = drop-append-le at bytes more l.within in
        let some : empty_line_len (drop at (bytes ++ more)) ≡ n = ap empty_line_len e ∙ line.2 more in
        let on = blank_end_from-goes_on at (drop at (bytes ++ more))
        (λ (none : empty_line_len (drop at (bytes ++ more)) ≡ 0). omega (arith, line.0, some, none)) in
        on ∙ rw some (rw (drop-drop n at (bytes ++ more)) refl)

-- the head begins where something else than an empty line does
pub begins : (bytes : List ℕ) (from at : ℕ) → FindsSame bytes (searches.Skipping from) (searches.Skipping at)
    → IsLine lines.Other (drop at bytes)
    → FindsSame bytes (searches.Skipping from) (searches.InHead at at)
begins bytes from at l line = record { within = l.within; same = λ more. l.same more ∙ stops more }
  where
    stops : (more : List ℕ) → found_from (searches.Skipping at) (bytes ++ more) ≡ found_from (searches.InHead at at)
        (bytes ++ more)
    stops more =
        let none : empty_line_len (drop at (bytes ++ more)) ≡ 0 =
        ap empty_line_len (drop-append-le at bytes more l.within) ∙ line.1 more in
        ap (λ n. starting_at n (head_end_from n (drop n (bytes ++ more))))
        (blank_end_from-stops at (drop at (bytes ++ more)) none)

-- the bytes end before it is known what begins there
pub waits : (bytes : List ℕ) (from at : ℕ) → FindsSame bytes (searches.Skipping from) (searches.Skipping at)
    → IsLine lines.Open (drop at bytes)
    → Looks bytes (searches.Skipping from) (looks.NotYet (searches.Skipping at))
waits bytes from at l line =
    looks_to bytes (searches.Skipping from) (searches.Skipping at) l
    (ap (λ n. starting_at n (head_end_from n (drop n bytes))) (line.1 at).0 ∙ ap (starting_at at) (line.1 at).1)

next : (at : ℕ) → suc at ≡ at + 1
next at = omega arith

-- the bytes as they are, split at an offset
split_here : (bytes : List ℕ) (at : ℕ) → at < length bytes → drop at bytes ≡ get_or bytes at 0 ∷ drop (at + 1) bytes
split_here bytes at lt = drop-cons bytes at 0 lt ∙ ap (λ n. get_or bytes at 0 ∷ drop n bytes) (next at)

is_lf : (at b : ℕ) (rest : List ℕ) → b ≡ 10
    → head_end_from at (b ∷ rest) ≡ or_later at (empty_line_len rest) (head_end_from (at + 1) rest)
is_lf at b rest e = rw e refl

-- an LF and an empty line behind it end the head
pub ends : (bytes : List ℕ) (start from at n : ℕ)
    → FindsSame bytes (searches.InHead start from) (searches.InHead start at) → at < length bytes
    → get_or bytes at 0 ≡ 10 → IsLine (lines.Empty n) (drop (at + 1) bytes)
    → found_from (searches.InHead start from) bytes ≡ Some (start, at + 1 + n)
ends bytes start from at n l lt e line =
    found_now bytes (searches.InHead start from) (searches.InHead start at) l
    ∙ ap (starting_at start) (ap (head_end_from at) (split_here bytes at lt) ∙ is_lf at (get_or bytes at 0)
    (drop (at + 1) bytes) e ∙ found)
  where
    found : or_later at (empty_line_len (drop (at + 1) bytes)) (head_end_from (at + 1) (drop (at + 1) bytes))
        ≡ Some (at + 1 + n)
    found =
        let is : empty_line_len (drop (at + 1) bytes) ≡ n =
        subst (λ (t : List ℕ). empty_line_len t ≡ n) (append-nil (drop (at + 1) bytes)) (line.2 []) in
        let some : (n == 0) ≡ false = (let h = line.0 in grind (arith, h)) in
        ap (λ k. or_later at k (head_end_from (at + 1) (drop (at + 1) bytes))) is ∙ rw some refl

-- the bytes end before it is known what follows the LF
pub waits_at_lf : (bytes : List ℕ) (start from at : ℕ)
    → FindsSame bytes (searches.InHead start from) (searches.InHead start at) → at < length bytes
    → get_or bytes at 0 ≡ 10 → IsLine lines.Open (drop (at + 1) bytes)
    → Looks bytes (searches.InHead start from) (looks.NotYet (searches.InHead start at))
waits_at_lf bytes start from at l lt e line =
    looks_to bytes (searches.InHead start from) (searches.InHead start at) l
    (ap (starting_at start) (ap (head_end_from at) (split_here bytes at lt) ∙ is_lf at (get_or bytes at 0)
    (drop (at + 1) bytes) e
    ∙ ap (λ k. or_later at k (head_end_from (at + 1) (drop (at + 1) bytes))) line.0 ∙ (line.1 (at + 1)).1))

-- all bytes were looked at
pub waits_at_end : (bytes : List ℕ) (start from at : ℕ)
    → FindsSame bytes (searches.InHead start from) (searches.InHead start at) → length bytes ≤ at
    → Looks bytes (searches.InHead start from) (looks.NotYet (searches.InHead start at))
waits_at_end bytes start from at l le =
    looks_to bytes (searches.InHead start from) (searches.InHead start at) l
    (ap (starting_at start) (ap (head_end_from at) (drop_of_length-le bytes le)))

-- what a look at the window says of the whole text
pub found_there : (text : List ℕ) (search : Search) → StandsThere text search
    → head_at text ≡ found_from search (window text)
found_there text search s =
    subst (λ (t : List ℕ). head_at t ≡ found_from search (window t)) (append-nil text) (s.same [])

-- the search goes on from where the look stopped, with the bytes that came since
pub stands_on : (text got : List ℕ) (from to : Search) → StandsThere text from → FindsSame (window text) from to
    → StandsThere (text ++ got) to
stands_on text got from to s l = record { within = longer; same = same }
  where
    longer : reached to ≤ length (window (text ++ got))
    longer = let g =
        front_grows 16384 text got in rw g.1 (rw (length-append (window text) g.0)
        (let w = l.within in omega (arith, w)))

    same : (more : List ℕ) → head_at ((text ++ got) ++ more) ≡ found_from to (window ((text ++ got) ++ more))
    same more =
        let g = front_grows 16384 text (got ++ more) in
        rw (append_assoc text got more) (s.same (got ++ more) ∙ ap (found_from from) g.1 ∙ l.same g.0
        ∙ ap (found_from to) (sym g.1))

-- an empty line is skipped, where only the end of the empty lines is looked for
pub skips_blank : (bytes : List ℕ) (at n : ℕ) → (blank_end_from at (drop at bytes) ≡ blank_end_from 0 bytes)
    × (at ≤ length bytes)
    → IsLine (lines.Empty n) (drop at bytes)
    → (blank_end_from (at + n) (drop (at + n) bytes) ≡ blank_end_from 0 bytes) × (at + n ≤ length bytes)
skips_blank bytes at n so_far line =
    let d = length-drop at bytes in
    let len : empty_line_len (drop at bytes) ≡ n =
    subst (λ (t : List ℕ). empty_line_len t ≡ n) (append-nil (drop at bytes)) (line.2 []) in
    (sym (goes_on len) ∙ so_far.0, omega (arith, d, line.0, line.1, so_far.1))
  where
    goes_on : empty_line_len (drop at bytes) ≡ n
        → blank_end_from at (drop at bytes) ≡ blank_end_from (at + n) (drop (at + n) bytes)
    goes_on len =
        blank_end_from-goes_on at (drop at bytes)
        (λ (none : empty_line_len (drop at bytes) ≡ 0). omega (arith, line.0, len, none))
        ∙ rw len (rw (drop-drop n at bytes) refl)

-- the empty lines end where none begins
pub stops_blank : (bytes : List ℕ) (at : ℕ) (line : Line) → (blank_end_from at (drop at bytes) ≡ blank_end_from 0 bytes)
    × (at ≤ length bytes)
    → IsLine line (drop at bytes)
    → ((n : ℕ) → line ≡ lines.Empty n → ⊥) → at ≡ blank_end_from 0 bytes
stops_blank bytes at (lines.Empty n) so_far is none = absurd (none n refl)
stops_blank bytes at lines.Other so_far is none =
    sym (blank_end_from-stops at (drop at bytes)
    (subst (λ (t : List ℕ). empty_line_len t ≡ 0) (append-nil (drop at bytes)) (is.1 []))) ∙ so_far.0
stops_blank bytes at lines.Open so_far is none = sym (is.1 at).0 ∙ so_far.0
