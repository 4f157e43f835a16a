-- Which calls a device in memory has accepted, and what they make of the disk. This project's own.
use Rattle.std.specs.Prelude.{ℕ, ◌+◌, ◌==◌, ◌&&◌, if◌then◌else◌, List, [], ◌∷◌, ◌++◌, replicate}
use Rattle.std.specs.List.{fold, list_any}
use Rattle.journal_model.specs.declared.number.Area.{Area}
use Rattle.journal_model.specs.Disk.{Disk, Cell, same_area, with_cell, written, flushed, Shape}
use Rattle.block_device.specs.State.{DeviceState}
use Rattle.block_device.specs.declared.memory.Call.{Call}
use Rattle.block_device.specs.declared.memory.Call.TheVariants.{Wrote, Flushed}

-- `calls` are the accepted ones, oldest first; `calls_made` counts all
pub record MemState : Type 0 where
  pub shape : Shape
  pub calls : List Call
  pub faults : ℕ
  pub calls_made : ℕ

-- earlier disks, newest first
pub record Moments : Type 0 where
  pub disk : Disk
  pub past : List Disk

-- an unwritten block reads as zeros
abbrev pub blank : ℕ → Moments
blank size = record { disk = λ a n. record { reads = replicate size 0; others = [] }; past = [] }

-- a write with number 0 was left by a crash and is durable from the start
abbrev pub after_call : Moments → Call → Moments
after_call m (Wrote w) =
    if w.number == 0
    then record { disk = with_cell m.disk w.area w.block (record { reads = w.bytes; others = [] }); past = m.past }
    else record { disk = written m.disk w.area w.block w.bytes; past = m.disk ∷ m.past }
after_call m (Flushed a) = record { disk = flushed m.disk a; past = m.disk ∷ m.past }

abbrev pub after_calls : ℕ → List Call → Moments
after_calls size calls = fold after_call (blank size) calls

abbrev pub state_of : MemState → DeviceState
state_of s =
    let m = after_calls s.shape.block_size s.calls in
    record { shape = s.shape; disk = m.disk; past = m.past; faults = s.faults; calls = s.calls_made }

-- the number of the last write
abbrev pub counted : ℕ → Call → ℕ
counted n (Wrote w) = if w.number == 0 then n else n + 1
counted n (Flushed a) = n

abbrev pub writes_of : List Call → ℕ
writes_of calls = fold counted 0 calls

-- the writes of a block since its area's last flush, oldest first, with numbers
abbrev pub unflushed_after : Area → ℕ → List (ℕ × List ℕ) → Call → List (ℕ × List ℕ)
unflushed_after a n ws (Wrote w) = if same_area a w.area && (n == w.block) then (if w.number == 0 then [] else ws ++ (w.number, w.bytes) ∷ []) else ws
unflushed_after a n ws (Flushed area) = if same_area a area then [] else ws

abbrev pub unflushed : Area → ℕ → List Call → List (ℕ × List ℕ)
unflushed a n calls = fold (unflushed_after a n) [] calls

-- the value at the area's last flush
abbrev pub oldest : List ℕ → List (List ℕ) → List ℕ
oldest v [] = v
oldest v (w ∷ ws) = oldest w ws

abbrev pub durable : Cell → List ℕ
durable c = oldest c.reads c.others

-- the last of these writes with a kept number, else v; numbers rise, so it has the greatest one
abbrev pub kept_value : List ℕ → List ℕ → List (ℕ × List ℕ) → List ℕ
kept_value keep v ws = fold (λ u w. if list_any (λ k. k == w.0) keep then w.1 else u) v ws

-- the block's greatest kept unflushed write, else its flushed value
abbrev pub crashed : List ℕ → MemState → Area → ℕ → List ℕ
crashed keep s a n = kept_value keep (durable ((state_of s).disk a n)) (unflushed a n s.calls)
