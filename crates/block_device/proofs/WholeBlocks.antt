-- Each value held in a device in memory fills a block.
use Rattle.std.proofs.Common.{ℕ, Bool, true, false, List, [], ◌∷◌, refl, inl}
use Rattle.std.specs.Prelude.{if◌then◌else◌, ◌&&◌, ◌==◌, replicate}
use Rattle.std.specs.List.{fold, AllByRecursion}
use Rattle.std.proofs.lemmas.List.{length-replicate}
use Rattle.journal_model.specs.declared.number.Area.{Area}
use Rattle.journal_model.specs.Disk.{held, same_area}
use Rattle.block_device.specs.Memory.{Moments, after_call, blank}
use Rattle.block_device.specs.MemInvariant.{FillsBlock}
use Rattle.block_device.specs.declared.memory.Call.{Call}
use Rattle.block_device.specs.declared.memory.Call.TheVariants.{Wrote, Flushed}
use Rattle.block_device.proofs.Calls.{left_disk, new_disk}
use Rattle.block_device.proofs.WholeCells.{IsWhole, one_of_two, alone, over}

-- each block of the disk is whole
abbrev pub AreWhole : ℕ → Moments → Type 0
AreWhole size m = (a : Area) (n : ℕ) → IsWhole size (m.disk a n)

-- one more call leaves each block whole
whole_call : (size : ℕ) (m : Moments) (c : Call) → AreWhole size m → FillsBlock size c → AreWhole size (after_call m c)
whole_call size m (Flushed area) h fills a n =
    one_of_two size (same_area a area) (record { reads = (m.disk a n).reads; others = [] }) (m.disk a n) (alone size (m.disk a n).reads (h a n (m.disk a n).reads (inl refl))) (h a n)
whole_call size m (Wrote w) h fills a n =
    let here : Bool = same_area a w.area && (n == w.block) in
    elim (w.number == 0) as (λ b. IsWhole size ((if◌then◌else◌ {A = Moments} b (left_disk m w) (new_disk m w)).disk a n)) [
      | true ↦ one_of_two size here (record { reads = w.bytes; others = [] }) (m.disk a n) (alone size w.bytes fills) (h a n)
      | false ↦ one_of_two size here (record { reads = w.bytes; others = held (m.disk w.area w.block) }) (m.disk a n) (over size w.bytes (m.disk w.area w.block) fills (h w.area w.block)) (h a n)
    ]

-- calls that fill their blocks leave each block whole
pub whole_calls : (size : ℕ) (m : Moments) (cs : List Call) → AreWhole size m → AllByRecursion (FillsBlock size) cs → AreWhole size (fold after_call m cs)
whole_calls size m [] h all = h
whole_calls size m (c ∷ cs) h all = whole_calls size (after_call m c) cs (whole_call size m c h all.0) all.1

pub whole_blank : (size : ℕ) → AreWhole size (blank size)
whole_blank size a n = alone size (replicate size 0) (length-replicate size 0)
