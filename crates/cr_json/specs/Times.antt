-- SPDX-License-Identifier: Apache-2.0 OR MIT
-- The day and the time of a moment in UTC, and the text of a time (RFC 3339, section 5.6). Which day it is, the
-- Gregorian calendar says, counted on from 1970-01-01.
use Rattle.std.specs.Prelude.{ℕ, zero, suc, ◌+◌, ◌-◌, ◌/◌, ◌%◌, nat_lt, pos, unsigned_abs, List, [], ◌∷◌, ◌++◌}
use Rattle.std.specs.Prelude.{Option, Some, None, codes, if◌then◌else◌}
use Rattle.jiff.specs.Words.{days_in_month, days_in_year}
use Rattle.jiff_core.specs.declared.civil.datetime.DateTime.{DateTime}
use Rattle.json.specs.Print.{quoted}

-- ---- which day it is

-- Spans follow one another, span m of `days_of m` days. In which one does the day fall that has this many days before
-- it, counted from the first day of span n on: the span's number, and how many of its own days are before that day. At
-- most this many spans after span n are looked at; the last of them has all days that follow.
unfoldable pub falls_in : (ℕ → ℕ) → ℕ → ℕ → ℕ → ℕ × ℕ
falls_in days_of zero n days = (n, days)
falls_in days_of (suc more) n days =
    if nat_lt days (days_of n) then (n, days) else falls_in days_of more (n + 1) (days - days_of n)

-- the year of a day, in years since 1970, and how many days of that year are before it: up to 9999
abbrev pub year_of : ℕ → ℕ × ℕ
year_of days = falls_in (λ n. days_in_year (pos (1970 + n))) 8029 0 days

-- the month of a day of a year, counted from 0, and how many days of that month are before it
abbrev pub month_of : ℕ → ℕ → ℕ × ℕ
month_of year days = falls_in (λ n. days_in_month (pos year) (suc n)) 11 0 days

-- a day of the calendar, and a time of it; months and days are counted from 1
pub record CivilTime : Type 0 where
  pub year : ℕ
  pub month : ℕ
  pub day : ℕ
  pub hour : ℕ
  pub minute : ℕ
  pub second : ℕ

-- the day with so many days since 1970-01-01 before it, and of it the time with so many seconds before it
abbrev pub civil_on : ℕ → ℕ → CivilTime
civil_on days seconds =
    let year = year_of days in
    let month = month_of (1970 + year.0) year.1 in
    record {
      year = 1970 + year.0;
      month = month.0 + 1;
      day = month.1 + 1;
      hour = seconds / 3600;
      minute = seconds % 3600 / 60;
      second = seconds % 60;
    }

-- the day and the time of a moment: a day has 86,400 seconds
unfoldable pub civil_of : ℕ → CivilTime
civil_of at = civil_on (at / 86400) (at % 86400)

-- what `jiff` has of them
abbrev pub civil_parts : DateTime → CivilTime
civil_parts t = record {
  year = unsigned_abs t.date.year;
  month = t.date.month;
  day = t.date.day;
  hour = t.time.hour;
  minute = t.time.minute;
  second = t.time.second;
}

-- ---- its text

-- the last digit of a number in decimal
abbrev pub last_digit : ℕ → ℕ
last_digit n = 48 + n % 10

-- the number in two digits
abbrev pub two_digits : ℕ → List ℕ
two_digits n = last_digit (n / 10) ∷ last_digit n ∷ []

-- the number in four digits
abbrev pub four_digits : ℕ → List ℕ
four_digits n = two_digits (n / 100) ++ two_digits n

-- 20 bytes, like `1994-11-06T08:49:37Z`
abbrev pub civil_text : CivilTime → List ℕ
civil_text t =
    four_digits t.year ++ codes "-" ++ two_digits t.month ++ codes "-" ++ two_digits t.day ++ codes "T"
    ++ two_digits t.hour ++ codes ":" ++ two_digits t.minute ++ codes ":" ++ two_digits t.second ++ codes "Z"

-- a timestamp's text
unfoldable pub time_text : ℕ → List ℕ
time_text at = civil_text (civil_of at)

-- until when something may be done, where there is a deadline
unfoldable pub until_text : Option ℕ → List ℕ
until_text None = codes "null"
until_text (Some deadline) = quoted (time_text deadline)
