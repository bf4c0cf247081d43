-- SPDX-License-Identifier: Apache-2.0 OR MIT
-- The line that tells how many entries there are, written in pieces.
use Rattle.std.proofs.Common.{ℕ, ◌++◌, Result, Ok, Err}
use Rattle.std.specs.Prelude.{codes, decimal, is_ok, true, false, OnOk, OnErr}
use Rattle.std.specs.Result.{IsErr}
use Rattle.cr_drill.specs.Drill.{entries_line}
use Rattle.cr_ports.specs.Writing.{Outlet, Writes, BreaksOff}
use Rattle.cr_ports.specs.declared.writing.WriteFault.{WriteFault}
use Rattle.cr_ports.proofs.WritingLaws.{breaks_later, breaks_sooner, writes-append}
use Rattle.cr_top.specs.Serves.{TellsEntries}

-- ---- the line

line-whole : (n : ℕ) (s t u v : Outlet) → Writes (codes "entries ") s t → Writes (decimal n) t u
    → Writes (codes "\n") u v → TellsEntries true n s v
unfolding entries_line
line-whole n s t u v a b c = writes-append (codes "entries ") (decimal n ++ codes "\n") s t v a
    (writes-append (decimal n) (codes "\n") t u v b c)

line-no_end : (n : ℕ) (s t u v : Outlet) → Writes (codes "entries ") s t → Writes (decimal n) t u
    → BreaksOff (codes "\n") u v → TellsEntries false n s v
unfolding entries_line
line-no_end n s t u v a b c =
    breaks_later (codes "entries ") (decimal n ++ codes "\n") s t v a (breaks_later (decimal n) (codes "\n") t u v b c)

line-no_number : (n : ℕ) (s t u : Outlet) → Writes (codes "entries ") s t → BreaksOff (decimal n) t u
    → TellsEntries false n s u
unfolding entries_line
line-no_number n s t u a b =
    breaks_later (codes "entries ") (decimal n ++ codes "\n") s t u a (breaks_sooner (decimal n) (codes "\n") t u b)

line-no_word : (n : ℕ) (s t : Outlet) → BreaksOff (codes "entries ") s t → TellsEntries false n s t
unfolding entries_line
line-no_word n s t a = breaks_sooner (codes "entries ") (decimal n ++ codes "\n") s t a

-- ---- by the answer

pub told_end : (r : Result (Unit {0}) WriteFault) (n : ℕ) (s t u v : Outlet) → Writes (codes "entries ") s t
    → Writes (decimal n) t u
    → OnOk r (Writes (codes "\n") u v) → OnErr r (BreaksOff (codes "\n") u v) → TellsEntries (is_ok r) n s v
told_end (Ok x) n s t u v a b whole failed = line-whole n s t u v a b whole
told_end (Err e) n s t u v a b whole failed = line-no_end n s t u v a b failed

pub told_no_number : (r : Result (Unit {0}) WriteFault) (n : ℕ) (s t u : Outlet) → IsErr r
    → Writes (codes "entries ") s t → BreaksOff (decimal n) t u
    → TellsEntries (is_ok r) n s u
told_no_number (Ok x) n s t u is a b = absurd (cc (is))
told_no_number (Err e) n s t u is a b = line-no_number n s t u a b

pub told_no_word : (r : Result (Unit {0}) WriteFault) (n : ℕ) (s t : Outlet) → IsErr r
    → BreaksOff (codes "entries ") s t → TellsEntries (is_ok r) n s t
told_no_word (Ok x) n s t is a = absurd (cc (is))
told_no_word (Err e) n s t is a = line-no_word n s t a
