-- SPDX-License-Identifier: Apache-2.0 OR MIT
-- The status line and the fields of an answer (RFC 9112, sections 4 and 5; RFC 9110, sections 8, 10.2.1 and 11.6.1).
use Rattle.std.specs.Prelude.{ℕ, List, [], ◌++◌, Bool, if◌then◌else◌, codes, decimal}
use Rattle.http.specs.StatusCode.{code_digits}
use Rattle.cr_routes.specs.Asks.{allow_text}
use Rattle.cr_print.specs.declared.head.Extra.{Extra}
use Rattle.cr_print.specs.declared.head.Extra.TheVariants.{Nothing, Challenge, Allow}
use Rattle.cr_print.specs.declared.head.AnswerHead.{AnswerHead}
use Rattle.cr_print.specs.declared.head.MediaType.{MediaType}
use Rattle.cr_print.specs.declared.head.MediaType.TheVariants.{Json, PlainText, OctetStream}
use Rattle.cr_print.specs.declared.sending.Sending.{Sending}
use Rattle.cr_print.specs.declared.status.Status.{Status}
use Rattle.cr_print.specs.Dates.{date_line}
use Rattle.cr_print.specs.Status.{code_of, phrase_of}

-- the status line: the version, the code and the phrase (RFC 9112, section 4)
unfoldable pub status_line : Status → List ℕ
status_line status = codes "HTTP/1.1 " ++ code_digits (code_of status) ++ codes " " ++ phrase_of status ++ codes "\r\n"

-- the field that only some answers have: how to log in (RFC 6750, section 3), or the methods of a path that doesn't
-- answer the one it was asked by
unfoldable pub extra_line : Extra → List ℕ
extra_line Nothing = []
extra_line Challenge = codes "WWW-Authenticate: Bearer realm=\"confd\"\r\n"
extra_line (Allow resource) = codes "Allow: " ++ allow_text resource ++ codes "\r\n"

-- the registered name of a media type (RFC 8259, section 11; RFC 2046, sections 4.1 and 4.5.1)
unfoldable pub media_type_name : MediaType → List ℕ
media_type_name Json = codes "application/json"
media_type_name PlainText = codes "text/plain; charset=utf-8"
media_type_name OctetStream = codes "application/octet-stream"

-- the field Content-Type
unfoldable pub type_line : MediaType → List ℕ
type_line media_type = codes "Content-Type: " ++ media_type_name media_type ++ codes "\r\n"

-- the field Content-Length, for a content of n bytes
unfoldable pub length_line : ℕ → List ℕ
length_line n = codes "Content-Length: " ++ decimal n ++ codes "\r\n"

-- the field Connection, if the connection closes after the answer
unfoldable pub close_line : Bool → List ℕ
close_line closes = if closes then codes "Connection: close\r\n" else []

-- the head of an answer whose content has n bytes, with the empty line
abbrev pub head_text : AnswerHead → ℕ → Sending → List ℕ
head_text head n sending =
    status_line head.status ++ date_line sending.date ++ extra_line head.extra ++ type_line head.media_type
    ++ length_line n ++ close_line sending.closes ++ codes "\r\n"
