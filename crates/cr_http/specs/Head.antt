-- SPDX-License-Identifier: Apache-2.0 OR MIT
-- The parts of a head that are read, and what they say of the body (RFC 9110, sections 5.1, 7.2
-- and 8.6; RFC 9112, section 6).
use Rattle.std.specs.Prelude.{ℕ, ◌≤◌, List, [], ◌∷◌, length, map, filter, Bool}
use Rattle.std.specs.Prelude.{◌&&◌, ◌==◌, ⊤, nat_lt, nat_le, if◌then◌else◌, codes}
use Rattle.std.specs.List.{list_all}
use Rattle.std.specs.Str.{bytes_eq}
use Rattle.std.specs.Char.{is_ascii_digit, to_ascii_lowercase}
use Rattle.std.specs.Str.Parse.{digits_value}
use Rattle.httparse.specs.Grammar.{RequestHead}
use Rattle.httparse.specs.Spans.{name_and_value}
use Rattle.cr_http.specs.declared.framing.Framing.{Framing}
use Rattle.cr_http.specs.declared.framing.Framing.TheVariants.{Body, Refuse}
use Rattle.cr_http.specs.declared.head.Version.{Version}
use Rattle.cr_http.specs.declared.head.Version.TheVariants as versions
use Rattle.cr_http.specs.declared.refusal.Refusal.TheVariants.{NoHost, LengthRequired, BadLength, TooLarge}

-- a head by its parts: each field by its name and its value, without the white space around the value
pub record HeadText : Type 0 where
  pub method : List ℕ
  pub target : List ℕ
  pub version : Version
  pub fields : List (List ℕ × List ℕ)

-- the version of this minor number, 0 or 1
abbrev pub version_of : ℕ → Version
version_of minor = if minor == 0 then versions.Http10 else versions.Http11

-- the head that `httparse` has read, by its parts
abbrev pub head_of : RequestHead → HeadText
head_of h =
    record { method = h.method; target = h.target; version = version_of h.minor; fields = map name_and_value h.fields }

-- the two names are equal, whatever the case of their letters
abbrev pub same_name : List ℕ → List ℕ → Bool
same_name a b = bytes_eq (map to_ascii_lowercase a) (map to_ascii_lowercase b)

-- the values of the fields of this name, in order
abbrev pub values_of : List ℕ → List (List ℕ × List ℕ) → List (List ℕ)
values_of name fields = map (λ f. f.1) (filter (λ f. same_name f.0 name) fields)

-- 1 to 18 digits
abbrev pub is_length : List ℕ → Bool
is_length value = nat_lt 0 (length value) && nat_le (length value) 18 && list_all is_ascii_digit value

-- a body is not longer than is read
abbrev pub IsShort : Framing → Type 0
IsShort (Body len) = len ≤ 4194304
IsShort (Refuse why) = ⊤

-- by the values of the fields Content-Length
abbrev pub framing_by_length : List (List ℕ) → Framing
framing_by_length [] = Body 0
framing_by_length (value ∷ []) =
    if is_length value then (if nat_lt 4194304 (digits_value 10 value) then Refuse TooLarge
    else Body (digits_value 10 value))
    else Refuse BadLength
framing_by_length (value ∷ other ∷ values) = Refuse BadLength

-- HTTP/1.1 has one Host, and HTTP/1.0 at most one
abbrev pub has_hosts : Version → ℕ → Bool
has_hosts versions.Http10 hosts = nat_lt hosts 2
has_hosts versions.Http11 hosts = hosts == 1

-- what the fields say in a head of this version
abbrev pub framing_by : Version → List (List ℕ × List ℕ) → Framing
framing_by version fields =
    if has_hosts version (length (values_of (codes "host") fields)) then (
    if length (values_of (codes "transfer-encoding") fields) == 0
    then framing_by_length (values_of (codes "content-length") fields)
    else Refuse LengthRequired)
    else Refuse NoHost

-- what the head says of the body's length
abbrev pub framing_of : HeadText → Framing
framing_of h = framing_by h.version h.fields

-- the method is HEAD
abbrev pub is_head_method : HeadText → Bool
is_head_method h = bytes_eq h.method (codes "HEAD")
