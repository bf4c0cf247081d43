-- SPDX-License-Identifier: Apache-2.0 OR MIT
-- Disks in memory, as contracts see them: the record of their calls, and what it comes to.
use Rattle.std.specs.Prelude.{◌⊎◌, ℕ, ◌+◌, ◌-◌, ◌||◌, ◌==◌, nat_lt, Bool}
use Rattle.std.specs.Prelude.{List, [], ◌∷◌, ◌++◌, length, take, drop}
use Rattle.std.specs.List.{list_any}
use Rattle.cr_disks.specs.Past.{Reaches, HadBeen}
use Rattle.cr_disks.specs.declared.mem_disk.DiskCall.{DiskCall}
use Rattle.cr_disks.specs.declared.mem_disk.DiskCall.TheVariants as calls

-- a disk at some moment: what a read gives, what the last sync that succeeded made durable, and the ranges written
-- since, each an offset and a length
pub record DiskState : Type 0 where
  pub seen : List ℕ
  pub base : List ℕ
  pub ranges : List (ℕ × ℕ)

-- the state of a disk with these bytes, all of them synced
abbrev pub settled : List ℕ → DiskState
settled bytes = record { seen = bytes; base = bytes; ranges = [] }

-- how many bytes a call put there
abbrev pub put_by : DiskCall → ℕ
put_by (calls.Wrote at put len) = put
put_by calls.Synced = 0
put_by calls.SyncFailed = 0

-- the state after a call, which put these bytes
abbrev pub after_call : DiskCall → List ℕ → DiskState → DiskState
after_call (calls.Wrote at put len) bytes s = record {
  seen = take at s.seen ++ (bytes ++ drop (at + length bytes) s.seen);
  base = s.base;
  ranges = s.ranges ++ (at, len) ∷ [];
}
after_call calls.Synced bytes s = settled s.seen
after_call calls.SyncFailed bytes s = s

-- how many bytes these calls put there
abbrev pub put_by_all : List DiskCall → ℕ
put_by_all [] = 0
put_by_all (call ∷ others) = put_by call + put_by_all others

-- the state after these calls, which put these bytes, one after the other
abbrev pub state_after : List DiskCall → List ℕ → DiskState → DiskState
state_after [] bytes s = s
state_after (call ∷ others) bytes s =
    state_after others (drop (put_by call) bytes) (after_call call (take (put_by call) bytes) s)

-- the states before each of them
abbrev pub states_before : List DiskCall → List ℕ → DiskState → List DiskState
states_before [] bytes s = []
states_before (call ∷ others) bytes s =
    s ∷ states_before others (drop (put_by call) bytes) (after_call call (take (put_by call) bytes) s)

-- what a stop may leave in this state
abbrev pub left_in : DiskState → List ℕ → Type 0
left_in s image = Reaches s.base s.ranges image

-- a disk in memory: what it held at first, its calls, what these put there, how many of the calls were there when it was
-- opened, what a read gives, which of its own calls fail, for how many more bytes and calls it has room, and its faults
pub record Held : Type 0 where
  pub first : List ℕ
  pub calls : List DiskCall
  pub put : List ℕ
  pub begun : ℕ
  pub bytes : List ℕ
  pub failing : List ℕ
  pub room : ℕ
  pub calls_left : ℕ
  pub faults : ℕ

abbrev pub state_of : Held → DiskState
state_of disk = state_after disk.calls disk.put (settled disk.first)

abbrev pub past_of : Held → List DiskState
past_of disk = states_before disk.calls disk.put (settled disk.first)

-- what a stop since its call number t, from 0, might have left
abbrev pub left_since_of : Held → ℕ → List ℕ → Type 0
left_since_of disk t image = left_in (state_of disk) image ⊎ HadBeen left_in (drop t (past_of disk)) image

-- the next write or sync of the disk is listed as one that fails
abbrev pub fails_next : Held → Bool
fails_next disk = list_any (λ call. call == length disk.calls - disk.begun) disk.failing

-- the disk has no room for another call, or for so many bytes
abbrev pub is_full : Held → ℕ → Bool
is_full disk len = (disk.calls_left == 0) || nat_lt disk.room len
