-- SPDX-License-Identifier: Apache-2.0 OR MIT
-- A head has an LF for each of its lines.
use Rattle.std.proofs.Common.{◌≡◌, ℕ, ◌+◌, ◌≤◌, List, [], ◌∷◌, ◌++◌, length, ap, arith}
use Rattle.std.specs.Prelude.{◌==◌, if◌then◌else◌}
use Rattle.std.specs.List.{flat_map}
use Rattle.std.proofs.lemmas.List.Sums.{sum_by-append}
use Rattle.httparse.specs.Ascii.{colon, space}
use Rattle.httparse.specs.Grammar.{LineEnd, crlf, lf, print_end, Field, print_field, print_section, print_blank}
use Rattle.httparse.specs.Grammar.{print_version, RequestHead, print_request, ReadsRequest}
use Rattle.cr_http.specs.Found.{line_feeds}

line_feeds-append : (a b : List ℕ) → line_feeds (a ++ b) ≡ line_feeds a + line_feeds b
line_feeds-append a b = sum_by-append (λ x. if x == 10 then 1 else 0) a b

one_at_end : (end : LineEnd) → 1 ≤ line_feeds (print_end end)
one_at_end crlf = omega arith
one_at_end lf = omega arith

at_end : (a : List ℕ) (end : LineEnd) → 1 ≤ line_feeds (a ++ print_end end)
at_end a end = let o = one_at_end end in let e = line_feeds-append a (print_end end) in omega (arith, o, e)

line_feeds-fields : (fields : List Field) → length fields ≤ line_feeds (flat_map print_field fields)
line_feeds-fields [] = omega arith
line_feeds-fields (f ∷ fields) =
    let e = line_feeds-append (print_field f) (flat_map print_field fields) in
    let o = at_end (f.name ++ colon ∷ f.raw) f.end in
    let i = line_feeds-fields fields in
    omega (arith, e, o, i)

section_lines : (fields : List Field) (last : LineEnd) → length fields + 1 ≤ line_feeds (print_section fields last)
section_lines fields last =
    let e = line_feeds-append (flat_map print_field fields) (print_end last) in
    let o = one_at_end last in
    let i = line_feeds-fields fields in
    omega (arith, e, o, i)

print_request_lines : (h : RequestHead) → length h.fields + 2 ≤ line_feeds (print_request h)
unfolding print_request
print_request_lines h =
    let e =
    line_feeds-append (print_blank h.blank ++ h.method ++ space ∷ h.target ++ space ∷ print_version h.minor
    ++ print_end h.line_end)
    (print_section h.fields h.last) in
    let o = at_end (print_blank h.blank ++ h.method ++ space ∷ h.target ++ space ∷ print_version h.minor) h.line_end in
    let i = section_lines h.fields h.last in
    omega (arith, e, o, i)

pub few_fields : (bytes rest : List ℕ) (h : RequestHead) → ReadsRequest bytes h rest → line_feeds bytes ≤ 66
    → length h.fields ≤ 64
few_fields bytes rest h reads few =
    let e = line_feeds-append (print_request h) rest in
    let f : line_feeds bytes ≡ line_feeds (print_request h ++ rest) = ap line_feeds reads.1 in
    let i = print_request_lines h in
    omega (arith, e, f, i, few)
