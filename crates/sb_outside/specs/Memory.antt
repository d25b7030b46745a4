-- What the objects in memory hold, which of their calls fail, and for how much they have room.
use Rattle.std.specs.Prelude.{◌≡◌, ◌≤◌, ◌+◌, ◌-◌, ◌^◌, ℕ, List, drop, map, min, filter, length, Bool, true, false, Contains, vec_len, vec_capacity}
use Rattle.sb_outside.specs.declared.faults.CallFaults.{CallFaults}
use Rattle.sb_outside.specs.declared.memory.DiskCall.{DiskCall}
use Rattle.sb_outside.specs.declared.memory.DiskCall.TheVariants.{Sync}
use Rattle.sb_outside.specs.declared.memory.MemDisk.{MemDisk}
use Rattle.sb_outside.specs.declared.memory_link.MemLink.{MemLink}
use Rattle.sb_outside.specs.declared.memory_streams.MemSink.{MemSink}
use Rattle.sb_outside.specs.declared.memory_streams.MemSource.{MemSource}
use Rattle.sb_outside.specs.Held.{Held, at_rest}
use Rattle.sb_outside.specs.Kept.{held_after, past_of}
use Rattle.sb_outside.specs.Links.{Exchange}

-- the next call fails
abbrev pub IsListed : CallFaults → Type 0
IsListed calls = Contains calls.failing.items calls.next

-- these same calls fail, and one more was made
pub record IsNext (before after : CallFaults) : Type 0 where
  pub failing : after.failing ≡ before.failing
  pub next : after.next ≡ min (before.next + 1) (2 ^ 64 - 1)

-- of a source: the bytes that are left, and its calls
abbrev pub source_left : MemSource → List ℕ
source_left s = drop s.inner.at s.inner.bytes.items

-- its calls
abbrev pub source_calls : MemSource → CallFaults
source_calls s = s.faults

-- of a sink: what it was given, its calls, and how many bytes more it takes in its room
abbrev pub sink_given : MemSink → List ℕ
sink_given s = s.given.items

-- its calls
abbrev pub sink_calls : MemSink → CallFaults
sink_calls s = s.faults

-- how many bytes more it takes in its room
abbrev pub sink_room : MemSink → ℕ
sink_room s = vec_capacity s.given - vec_len s.given

-- of a link: its exchanges, and its calls
abbrev pub link_told : MemLink → List Exchange
link_told l = map (λ e. record { request = e.request; reply = e.reply }) l.made.items

-- its calls
abbrev pub link_calls : MemLink → CallFaults
link_calls l = l.faults

-- of a disk: what it holds, what it held before, its calls, and how many bytes and calls more it keeps in its room
abbrev pub disk_held : MemDisk → Held
disk_held d = held_after (at_rest d.first.items) d.calls.items d.written.items

-- what it held before each call
abbrev pub disk_past : MemDisk → List Held
disk_past d = past_of (at_rest d.first.items) d.calls.items d.written.items

-- its calls
abbrev pub disk_calls : MemDisk → CallFaults
disk_calls d = d.faults

-- how many bytes more it keeps in its room
abbrev pub disk_room : MemDisk → ℕ
disk_room d = min (vec_capacity d.bytes - vec_len d.bytes) (vec_capacity d.written - vec_len d.written)

-- how many calls more it keeps in its room
abbrev pub calls_room : MemDisk → ℕ
calls_room d = vec_capacity d.calls - vec_len d.calls

-- whether a call is a sync
abbrev pub is_sync : DiskCall → Bool
is_sync Sync = true
is_sync _ = false

-- how many syncs it made
abbrev pub syncs_of : MemDisk → ℕ
syncs_of d = length (filter is_sync d.calls.items)

-- what is read and what a crash may leave stay
pub record HoldsSame (before after : MemDisk) : Type 0 where
  pub held : disk_held after ≡ disk_held before
  pub past : disk_past after ≡ disk_past before

-- a disk has used so many bytes and calls of its room at the most
pub record UsesRoom (before after : MemDisk) (bytes calls : ℕ) : Type 0 where
  pub bytes_left : disk_room before ≤ disk_room after + bytes
  pub calls_left : calls_room before ≤ calls_room after + calls
