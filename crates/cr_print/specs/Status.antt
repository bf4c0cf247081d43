-- SPDX-License-Identifier: Apache-2.0 OR MIT
-- The code and the phrase of each status (RFC 9110, section 15; RFC 6585, section 5; RFC 4918, section 11.5).
use Rattle.std.specs.Prelude.{ℕ, List, codes}
use Rattle.cr_print.specs.declared.status.Status.{Status}
use Rattle.cr_print.specs.declared.status.Status.TheVariants.{Okay, Created, BadRequest}
use Rattle.cr_print.specs.declared.status.Status.TheVariants.{Unauthorized, Forbidden, NotFound}
use Rattle.cr_print.specs.declared.status.Status.TheVariants.{MethodNotAllowed, Conflict}
use Rattle.cr_print.specs.declared.status.Status.TheVariants.{LengthRequired, ContentTooLarge}
use Rattle.cr_print.specs.declared.status.Status.TheVariants.{HeaderFieldsTooLarge}
use Rattle.cr_print.specs.declared.status.Status.TheVariants.{ServiceUnavailable, InsufficientStorage}

-- the code of a status
unfoldable pub code_of : Status → ℕ
code_of Okay = 200
code_of Created = 201
code_of BadRequest = 400
code_of Unauthorized = 401
code_of Forbidden = 403
code_of NotFound = 404
code_of MethodNotAllowed = 405
code_of Conflict = 409
code_of LengthRequired = 411
code_of ContentTooLarge = 413
code_of HeaderFieldsTooLarge = 431
code_of ServiceUnavailable = 503
code_of InsufficientStorage = 507

-- the phrase of a status
unfoldable pub phrase_of : Status → List ℕ
phrase_of Okay = codes "OK"
phrase_of Created = codes "Created"
phrase_of BadRequest = codes "Bad Request"
phrase_of Unauthorized = codes "Unauthorized"
phrase_of Forbidden = codes "Forbidden"
phrase_of NotFound = codes "Not Found"
phrase_of MethodNotAllowed = codes "Method Not Allowed"
phrase_of Conflict = codes "Conflict"
phrase_of LengthRequired = codes "Length Required"
phrase_of ContentTooLarge = codes "Content Too Large"
phrase_of HeaderFieldsTooLarge = codes "Request Header Fields Too Large"
phrase_of ServiceUnavailable = codes "Service Unavailable"
phrase_of InsufficientStorage = codes "Insufficient Storage"
