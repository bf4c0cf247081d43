-- SPDX-License-Identifier: Apache-2.0 OR MIT
-- The field Date of an answer (RFC 9110, section 6.6.1): a moment as an IMF-fixdate (section 5.6.7), as `httpdate` has
-- that of a day and a time.
use Rattle.std.specs.Prelude.{ℕ, ◌/◌, List, ◌++◌, codes}
use Rattle.httpdate.specs.Calendar.{weekday}
use Rattle.httpdate.specs.Text.{imf_fixdate}
use Rattle.httpdate.specs.declared.parts.Parts.{Parts}
use Rattle.cr_json.specs.Times.{CivilTime, civil_of}

-- a day and a time as `httpdate` has them, with the day's place in its week; `days` since 1970-01-01 are before it
abbrev pub parts_on : ℕ → CivilTime → Parts
parts_on days t = record {
  year = t.year;
  mon = t.month;
  day = t.day;
  hour = t.hour;
  min = t.minute;
  sec = t.second;
  wday = weekday days;
}

-- the date of a moment
unfoldable pub date_of : ℕ → Parts
date_of at = parts_on (at / 86400) (civil_of at)

-- the text of a date, 29 bytes
unfoldable pub date_text : ℕ → List ℕ
date_text at = imf_fixdate (date_of at)

-- the field: its name, the date, and the end of the line
unfoldable pub date_line : ℕ → List ℕ
date_line at = codes "Date: " ++ date_text at ++ codes "\r\n"
