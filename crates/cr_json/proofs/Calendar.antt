-- SPDX-License-Identifier: Apache-2.0 OR MIT
-- The day and the time of a moment are those that `jiff` has of it.
use Rattle.std.proofs.Common.{◌≡◌, ℕ, zero, suc, ◌+◌, ◌-◌, ◌*◌, ◌/◌, ◌%◌, ◌<◌, ◌≤◌, nat_lt, Bool, true, false}
use Rattle.std.proofs.Common.{if◌then◌else◌, pos, ◌*ℤ◌, unsigned_abs, refl, arith, ap, sym, ◌∙◌}
use Rattle.std.proofs.lemmas.Bool.Decides.{nat_tests}
use Rattle.jiff_core.specs.declared.civil.date.Date.{Date}
use Rattle.jiff_core.specs.declared.civil.time.Time.{Time}
use Rattle.jiff_core.specs.declared.civil.datetime.DateTime.{DateTime}
use Rattle.jiff_core.specs.Calendar.{day_count, days_in_month, days_in_year, days_of_months}
use Rattle.jiff_core.specs.Date.{epoch_day}
use Rattle.jiff_core.specs.DateTime.{civil_nanos}
use Rattle.jiff_core.specs.Time.{time_nanos}
use Rattle.jiff_core.proofs.SignedLemmas.{signed_arith}
use Rattle.jiff_core.proofs.CalendarLemmas.{day_count-day_of_year, day_count-end, day_count-epoch, day_count-next_year}
use Rattle.jiff_core.proofs.CalendarLemmas.{days_from_civil-day_count, days_of_months_all}
use Rattle.jiff_core.proofs.DateLemmas.{epoch_day_injective}
use Rattle.jiff_core.proofs.DateTimeLemmas.{civil_nanos-parts, time_nanos_bound}
use Rattle.cr_base.specs.Moments.{IsMoment}
use Rattle.cr_json.specs.Times.{falls_in, year_of, month_of, civil_of, civil_parts}

-- ---- spans that follow one another

-- the day that has so many days before it falls into that span of those up to the last one looked at
abbrev pub FallsIn : (ℕ → ℕ) → (ℕ → ℕ) → ℕ → ℕ → ℕ → ℕ × ℕ → Type 0
FallsIn total days_of first last days found =
    (total found.0 + found.1 ≡ days) × (first ≤ found.0) × (found.0 ≤ last)
    × (days < total (suc last) → found.1 < days_of found.0)

-- where the totals are the sums of the spans
pub falls : (total days_of : ℕ → ℕ) (sums : (n : ℕ) → total (suc n) ≡ total n + days_of n) (more n days : ℕ)
    → FallsIn total days_of n (n + more) (total n + days) (falls_in days_of more n days)
unfolding falls_in
falls total days_of sums zero n days =
    let last : n + 0 ≡ n = omega arith in
    let inside : total n + days < total (suc n) → days < days_of n = λ below. omega (arith, sums n, below) in
    (refl, omega arith, omega arith, λ below. inside (rw last at below))
falls total days_of sums (suc more) n days =
    by_test (nat_lt days (days_of n)) refl (falls total days_of sums more (n + 1) (days - days_of n))
  where
    later : ℕ × ℕ
    later = falls_in days_of more (n + 1) (days - days_of n)

    by_test : (b : Bool) → nat_lt days (days_of n) ≡ b
        → FallsIn total days_of (n + 1) (n + 1 + more) (total (n + 1) + (days - days_of n)) later
        → FallsIn total days_of n (n + suc more) (total n + days) (if b then (n, days) else later)
    by_test true is rest = (refl, omega arith, omega arith, λ below. grind (arith, nat_tests, is))
    by_test false is rest =
        let high : days_of n ≤ days = grind (arith, nat_tests, is) in
        let next : suc n ≡ n + 1 = omega arith in
        let sum : total (n + 1) + (days - days_of n) ≡ total n + days = omega (arith, ap total next, sums n) in
        let last : n + 1 + more ≡ n + suc more = omega arith in
        (rest.0 ∙ sum, omega (arith, rest.1), omega (arith, rest.2), λ below. rest.3 (rw (sum, last) below))

-- ---- years and months

-- the days before a year, in years since 1970, counted from the year -10000 on
abbrev before_year : ℕ → ℕ
before_year n = day_count (pos (1970 + n)) 1 1

year-follows : (n : ℕ) → before_year (suc n) ≡ before_year n + days_in_year (pos (1970 + n))
year-follows n = day_count-next_year (pos (1970 + n)) (pos (1970 + suc n)) (omega (arith, signed_arith))
    (omega (arith, signed_arith))

year-falls : (days : ℕ) → days < 2932897 → (before_year (year_of days).0 + (year_of days).1 ≡ 4371953 + days)
    × ((year_of days).0 ≤ 8029) × ((year_of days).1 < days_in_year (pos (1970 + (year_of days).0)))
year-falls days h =
    let found = falls before_year (λ n. days_in_year (pos (1970 + n))) year-follows 8029 0 days in
    let first : before_year 0 ≡ 4371953 = day_count-epoch in
    let last : before_year 8030 ≡ 7304850 = day_count-end in
    (found.0 ∙ ap (λ n. n + days) first, found.2, found.3 (omega (arith, first, last, h)))

month-falls : (year days : ℕ) → days < days_in_year (pos year)
    → (days_of_months (pos year) (month_of year days).0 + (month_of year days).1 ≡ days) × ((month_of year days).0 ≤ 11)
    × ((month_of year days).1 < days_in_month (pos year) (suc (month_of year days).0))
unfolding days_of_months
month-falls year days h =
    let found = falls (days_of_months (pos year)) (λ n. days_in_month (pos year) (suc n)) (λ n. refl) 11 0 days in
    let from : 0 + days ≡ days = omega arith in
    (found.0 ∙ from, found.2, found.3 (rw from (omega (arith, days_of_months_all (pos year)))))

-- ---- the day of a moment, and the time

-- the date with so many days since 1970-01-01 before it, as `jiff` has dates
abbrev date_on : (days : ℕ) → days < 2932897 → Date
date_on days h =
    let y = year_of days in
    let m = month_of (1970 + y.0) y.1 in
    let year = year-falls days h in
    let month = month-falls (1970 + y.0) y.1 year.2 in
    let next : m.0 + 1 ≡ suc m.0 = omega arith in
    let inside : m.1 < days_in_month (pos (1970 + y.0)) (m.0 + 1) = rw next month.2 in
    record {
      year = pos (1970 + y.0);
      month = m.0 + 1;
      day = m.1 + 1;
      year_in = (omega (arith, signed_arith, year.1), omega (arith, signed_arith, year.1));
      month_in = (omega arith, omega (arith, month.1));
      day_in = (omega arith, omega (arith, inside));
    }

day-of-date : (days : ℕ) (h : days < 2932897) → epoch_day (date_on days h) ≡ pos days
day-of-date days h =
    let y = year_of days in
    let m = month_of (1970 + y.0) y.1 in
    let year = year-falls days h in
    let month = month-falls (1970 + y.0) y.1 year.2 in
    let back : m.0 + 1 - 1 ≡ m.0 = omega arith in
    let count = rw back at (day_count-day_of_year (pos (1970 + y.0)) (m.0 + 1) (m.1 + 1) (omega arith)) in
    omega (
      arith,
      signed_arith,
      days_from_civil-day_count (pos (1970 + y.0)) (m.0 + 1) (m.1 + 1),
      count,
      year.0,
      month.0,
    )

-- a moment's nanoseconds are those of its day and of its time
apart : (t : DateTime) (at : ℕ) → civil_nanos t ≡ pos at *ℤ pos 1000000000 → (epoch_day t.date ≡ pos (at / 86400))
    × (time_nanos t.time ≡ at % 86400 * 1000000000)
apart t at e = (
  omega (arith, signed_arith, civil_nanos-parts t, time_nanos_bound t.time),
  omega (arith, signed_arith, civil_nanos-parts t, time_nanos_bound t.time),
)

time-parts : (t : Time) (s : ℕ) → time_nanos t ≡ s * 1000000000 → (t.hour ≡ s / 3600) × (t.minute ≡ s % 3600 / 60)
    × (t.second ≡ s % 60)
time-parts t s e =
    let whole : t.hour * 3600 + t.minute * 60 + t.second ≡ s = omega (arith, t.subsec_in) in (
      omega (arith, t.minute_in, t.second_in),
      omega (arith, t.minute_in, t.second_in),
      omega (arith, t.minute_in, t.second_in),
    )

pub civil-of-moment : (at : ℕ) → IsMoment at → (t : DateTime) → civil_nanos t ≡ pos at *ℤ pos 1000000000
    → civil_parts t ≡ civil_of at
unfolding civil_of
civil-of-moment at h t same =
    let few : at / 86400 < 2932897 = omega (arith, h) in
    let both = apart t at same in
    let date = epoch_day_injective t.date (date_on (at / 86400) few) (both.0 ∙ sym (day-of-date (at / 86400) few)) in
    let year = ap unsigned_abs date.0 in
    let time = time-parts t.time (at % 86400) both.1 in
    λ i. record {
      year = year i;
      month = date.1 i;
      day = date.2 i;
      hour = time.0 i;
      minute = time.1 i;
      second = time.2 i;
    }
