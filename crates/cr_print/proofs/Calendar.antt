-- SPDX-License-Identifier: Apache-2.0 OR MIT
-- The date of a moment is a date of the calendar, and it is of that moment.
use Rattle.std.proofs.Common.{◌≡◌, ℕ, suc, ◌+◌, ◌-◌, ◌*◌, ◌/◌, ◌%◌, ◌<◌, ◌≤◌, refl, arith, ap, sym, ◌∙◌}
use Rattle.httpdate.specs.declared.date.HttpDate.{HttpDate}
use Rattle.httpdate.specs.Calendar.{days_in_year, days_in_month, days_of_years, days_of_months, weekday}
use Rattle.httpdate.specs.Date.{unix_secs, date_text as text_of}
use Rattle.httpdate.specs.Valid.{IsValid, parts_secs}
use Rattle.httpdate.proofs.CalendarLemmas.{days_of_years_closed, days_of_months_all}
use Rattle.httpdate.proofs.ValidLemmas.{is_valid_complete}
use Rattle.httpdate.proofs.Theorems.{date_text_is}
use Rattle.cr_base.specs.Moments.{IsMoment}
use Rattle.cr_json.specs.Times.{year_of, month_of, civil_of}
use Rattle.cr_json.proofs.Calendar.{falls}
use Rattle.cr_print.specs.Dates.{date_of, date_text}

pub year-falls : (days : ℕ) → days < 2932897 → (days_of_years (year_of days).0 + (year_of days).1 ≡ days)
    × ((year_of days).0 ≤ 8029) × ((year_of days).1 < days_in_year (1970 + (year_of days).0))
unfolding days_of_years
year-falls days h =
    let found = falls days_of_years (λ n. days_in_year (1970 + n)) (λ n. refl) 8029 0 days in
    let from : 0 + days ≡ days = omega arith in
    (found.0 ∙ from, found.2, found.3 (rw from (omega (arith, days_of_years_closed 8030))))

pub month-falls : (year days : ℕ) → days < days_in_year year
    → (days_of_months year (month_of year days).0 + (month_of year days).1 ≡ days) × ((month_of year days).0 ≤ 11)
    × ((month_of year days).1 < days_in_month year (suc (month_of year days).0))
unfolding days_of_months
month-falls year days h =
    let found = falls (days_of_months year) (λ n. days_in_month year (suc n)) (λ n. refl) 11 0 days in
    let from : 0 + days ≡ days = omega arith in
    (found.0 ∙ from, found.2, found.3 (rw from (omega (arith, days_of_months_all year))))

-- a date's seconds, from its day and the time of it
together : (days at : ℕ) → days ≡ at / 86400 → days * 86400 + (at % 86400) / 3600 * 3600 + (at % 86400) % 3600 / 60 * 60
    + (at % 86400) % 60 ≡ at
together days at is = omega arith

pub date-holds : (at : ℕ) → IsMoment at → IsValid (date_of at) × (parts_secs (date_of at) ≡ at)
unfolding date_of civil_of
date-holds at h =
    let y = year_of (at / 86400) in
    let m = month_of (1970 + y.0) y.1 in
    let year = year-falls (at / 86400) (omega arith) in
    let month = month-falls (1970 + y.0) y.1 year.2 in
    let year_back : 1970 + y.0 - 1970 ≡ y.0 = omega arith in
    let month_back : m.0 + 1 - 1 ≡ m.0 = omega arith in
    let day_back : m.1 + 1 - 1 ≡ m.1 = omega arith in
    let next : m.0 + 1 ≡ suc m.0 = omega arith in
    let days : days_of_years (1970 + y.0 - 1970) + days_of_months (1970 + y.0) (m.0 + 1 - 1) + (m.1 + 1 - 1)
    ≡ at / 86400 = rw (year_back, month_back, day_back) (omega arith) in
    let inside : m.1 < days_in_month (1970 + y.0) (m.0 + 1) = rw next month.2 in (
      (
        ((omega arith, omega arith), (omega arith, omega arith), (omega arith, omega arith)),
        (omega arith, omega arith, omega arith),
        ap weekday (sym days),
      ),
      together _ at days,
    )

pub date-of-moment : (d : HttpDate) (at : ℕ) → IsMoment at → unix_secs d ≡ at → text_of d ≡ date_text at
unfolding date_text
date-of-moment d at h same =
    let holds = date-holds at h in
    date_text_is d (date_of at) (is_valid_complete (date_of at) holds.0) (same ∙ sym holds.1)
