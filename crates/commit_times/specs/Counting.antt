-- The counts of a device's calls.
use Rattle.std.specs.Prelude.{ℕ, ◌+◌, ◌-◌, ◌^◌, min}
use Rattle.journal_model.specs.declared.number.Area.{Area}
use Rattle.journal_model.specs.declared.number.Area.TheVariants.{Home, Log}
use Rattle.commit_times.specs.declared.counted.Calls.{Calls}
use Rattle.commit_times.specs.declared.counted.Counted.{Counted}

-- a sum of counts, up to 2^64 - 1
abbrev pub capped_sum : ℕ → ℕ → ℕ
capped_sum m n = min (m + n) (2 ^ 64 - 1)

-- the sums of these counts
abbrev pub sum_of : Calls → Calls → Calls
sum_of some others = record {
  reads = capped_sum some.reads others.reads;
  writes = capped_sum some.writes others.writes;
  flushes = capped_sum some.flushes others.flushes;
}

-- the calls on an area
abbrev pub calls_on : {D : Type 0} → Area → Counted D → Calls
calls_on Log counted = counted.log
calls_on Home counted = counted.home

-- the device with these calls counted on an area
abbrev pub with_call : {D : Type 0} → Area → Calls → Counted D → Counted D
with_call Log call counted = record counted { log = sum_of counted.log call }
with_call Home call counted = record counted { home = sum_of counted.home call }
