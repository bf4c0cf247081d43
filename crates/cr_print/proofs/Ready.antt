-- SPDX-License-Identifier: Apache-2.0 OR MIT
-- The answer to a lack of memory, computed, but for the text of its date.
use Rattle.std.proofs.Common.{◌≡◌, ℕ, List, [], ◌∷◌, ◌++◌, true, false, codes, append_assoc, refl, ap, sym, ◌∙◌}
use Rattle.std.specs.Fmt.{digits}
use Rattle.json.specs.Print.{escape_byte}
use Rattle.cr_print.specs.Status.{code_of, phrase_of}
use Rattle.cr_print.specs.Dates.{date_text, date_line}
use Rattle.cr_print.specs.Head.{status_line, extra_line, media_type_name, type_line, length_line, close_line}
use Rattle.cr_json.specs.Json.{comma, key_text, member_text, object_text}
use Rattle.cr_print.specs.Refused.{refused_name, refused_status, extra_of, further_members, refusal_members}
use Rattle.cr_print.specs.Refused.{refusal_content}
use Rattle.cr_print.specs.Answers.{refusal_text, no_memory_text}

-- pieces behind a text, one after the other
abbrev followed : List ℕ → List (List ℕ) → List ℕ
followed text [] = text
followed text (piece ∷ pieces) = followed (text ++ piece) pieces

-- what stands before them may be set aside
apart : (front text : List ℕ) (pieces : List (List ℕ)) → front ++ followed text pieces ≡ followed (front ++ text) pieces
apart front text [] = refl
apart front text (piece ∷ pieces) =
    apart front (text ++ piece) pieces ∙ ap (λ s. followed s pieces) (sym (append_assoc front text piece))

-- the fields behind the date, whose line ends first, and then a content
abbrev behind : List ℕ → List (List ℕ)
behind content =
    [] ∷ codes "Content-Type: application/json\r\n" ∷ codes "Content-Length: 21\r\n" ∷ codes "Connection: close\r\n"
    ∷ codes "\r\n" ∷ content ∷ []

dated : (at : ℕ) (content : List ℕ) → codes "HTTP/1.1 507 Insufficient Storage\r\nDate: "
    ++ (date_text at ++ followed (codes "\r\n") (behind content))
    ≡ codes "HTTP/1.1 507 Insufficient Storage\r\nDate: " ++ followed (date_text at ++ codes "\r\n") (behind content)
dated at content = ap (λ s. codes "HTTP/1.1 507 Insufficient Storage\r\nDate: " ++ s)
    (apart (date_text at) (codes "\r\n") (behind content))

pub ready_head : (at : ℕ) → codes "HTTP/1.1 507 Insufficient Storage\r\nDate: " ++ date_text at
    ++ codes "\r\nContent-Type: application/json\r\nContent-Length: 21\r\nConnection: close\r\n\r\n"
    ≡ no_memory_text true at
unfolding digits refusal_text code_of phrase_of status_line date_line extra_line media_type_name type_line length_line
    close_line refused_name refused_status extra_of further_members refusal_members refusal_content comma key_text
    member_text object_text escape_byte
ready_head at = dated at []

pub ready_whole : (at : ℕ) → codes "HTTP/1.1 507 Insufficient Storage\r\nDate: " ++ date_text at
    ++ codes
    "\r\nContent-Type: application/json\r\nContent-Length: 21\r\nConnection: close\r\n\r\n{\"error\":\"no_memory\"}"
    ≡ no_memory_text false at
unfolding digits refusal_text code_of phrase_of status_line date_line extra_line media_type_name type_line length_line
    close_line refused_name refused_status extra_of further_members refusal_members refusal_content comma key_text
    member_text object_text escape_byte
ready_whole at = dated at (codes "{\"error\":\"no_memory\"}")
