-- SPDX-License-Identifier: Apache-2.0 OR MIT
-- Timestamps (moments): whole seconds since 1970-01-01T00:00:00Z, no leap second counted (POSIX.1-2017, section 4.16),
-- up to the last one of the year 9999, after which a year doesn't fit four digits (RFC 9110, section 5.6.7).
use Rattle.std.specs.Prelude.{ℕ, ◌≤◌, nat_le, Option, Some, None, if◌then◌else◌}

-- the last timestamp: 9999-12-31T23:59:59Z
abbrev pub last_moment : ℕ
last_moment = 253402300799

-- these are a timestamp's seconds
abbrev pub IsMoment : ℕ → Type 0
IsMoment seconds = seconds ≤ last_moment

-- the timestamp of this many seconds; `None` if there is none
abbrev pub moment_of : ℕ → Option ℕ
moment_of seconds = if nat_le seconds last_moment then Some seconds else None
