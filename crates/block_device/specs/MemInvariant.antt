-- How the index and counters of a device in memory agree with its list of calls.
use Rattle.std.specs.Prelude.{◌≡◌, ◌⊎◌, ℕ, suc, ◌==◌, ◌&&◌, ◌||◌, nat_le, Bool, false, if◌then◌else◌, List, [], ◌∷◌, length, map, filter, Option, Some, None, IsSome, is_some, option_map, ⊤}
use Rattle.std.specs.List.{fold, list_any, AllByRecursion}
use Rattle.journal_model.specs.declared.number.Area.{Area}
use Rattle.journal_model.specs.declared.number.Area.TheVariants.{Log, Home}
use Rattle.journal_model.specs.Disk.{same_area}
use Rattle.block_device.specs.Memory.{MemState, counted, writes_of}
use Rattle.block_device.specs.MemIndex.{noted_in, newest_in}
use Rattle.block_device.specs.declared.memory_index.MemIndex.{MemIndex}
use Rattle.block_device.specs.declared.memory.Call.{Call}
use Rattle.block_device.specs.declared.memory.Call.TheVariants.{Wrote, Flushed}
use Rattle.block_device.specs.declared.memory.MemDevice.TheInside.{Inside}

-- the device without index and counters
abbrev pub mem_view : Inside → MemState
mem_view d = record { shape = record { block_size = d.size; log_blocks = d.log; home_blocks = d.home }; calls = d.calls.items; faults = d.faults; calls_made = d.calls_made }

abbrev pub wrote_block : Area → ℕ → Call → Bool
wrote_block a n (Wrote w) = same_area a w.area && (n == w.block)
wrote_block a n (Flushed area) = false

abbrev pub or_else : Option ℕ → Option ℕ → Option ℕ
or_else None other = other
or_else (Some i) other = Some i

-- the last call that wrote the block; the first call has index k
abbrev pub newest_from : Area → ℕ → ℕ → List Call → Option ℕ
newest_from a n k [] = None
newest_from a n k (c ∷ cs) = or_else (newest_from a n (suc k) cs) (if wrote_block a n c then Some k else None)

abbrev pub newest : Area → ℕ → List Call → Option ℕ
newest a n calls = newest_from a n 0 calls

abbrev pub FillsBlock : ℕ → Call → Type 0
FillsBlock size (Wrote w) = length w.bytes ≡ size
FillsBlock size (Flushed a) = ⊤

-- the number of the last write before the area's last flush
abbrev pub flushed_after : Area → ℕ × ℕ → Call → ℕ × ℕ
flushed_after a p (Wrote w) = (counted p.0 (Wrote w), p.1)
flushed_after a p (Flushed area) = (p.0, if same_area a area then p.0 else p.1)

abbrev pub flushed_number : Area → List Call → ℕ
flushed_number a calls = (fold (flushed_after a) (0, 0) calls).1

-- writes left by a crash come first; the others are numbered from 1
abbrev pub IsLeft : Call → Type 0
IsLeft (Wrote w) = w.number ≡ 0
IsLeft (Flushed a) = ⊥

abbrev pub NumberedFrom : ℕ → List Call → Type 0
NumberedFrom k [] = ⊤
NumberedFrom k (Wrote w ∷ cs) = (w.number ≡ suc k) × NumberedFrom (suc k) cs
NumberedFrom k (Flushed a ∷ cs) = NumberedFrom k cs

abbrev pub IsNumbered : List Call → Type 0
IsNumbered [] = ⊤
IsNumbered (Wrote w ∷ cs) = ((w.number ≡ 0) × IsNumbered cs) ⊎ NumberedFrom 0 (Wrote w ∷ cs)
IsNumbered (Flushed a ∷ cs) = NumberedFrom 0 cs

-- index and counters agree with the calls
pub record Indexes (size : ℕ) (index : MemIndex) (calls : List Call) (writes log_flushed home_flushed : ℕ) : Type 0 where
  pub sizes : AllByRecursion (FillsBlock size) calls
  pub indexed : (a : Area) (n : ℕ) → newest_in index a n ≡ newest a n calls
  pub noted : (a : Area) (n i : ℕ) → newest a n calls ≡ Some i → IsSome (noted_in index a n)
  pub counted_writes : writes ≡ writes_of calls
  pub log_count : log_flushed ≡ flushed_number Log calls
  pub home_count : home_flushed ≡ flushed_number Home calls
  pub numbered : IsNumbered calls

abbrev pub IsIndexed : Inside → Type 0
IsIndexed d = Indexes d.size d.index d.calls.items d.writes d.log_flushed d.home_flushed

abbrev pub is_kept : List ℕ → ℕ → Bool
is_kept keep number = list_any (λ k. k == number) keep

abbrev pub flushed_in : ℕ → ℕ → Area → ℕ
flushed_in log home Log = log
flushed_in log home Home = home

abbrev pub survives_crash : List ℕ → ℕ → ℕ → Call → Bool
survives_crash keep log home (Flushed a) = false
survives_crash keep log home (Wrote w) = nat_le w.number (flushed_in log home w.area) || is_kept keep w.number

abbrev pub unnumbered : Call → Call
unnumbered (Wrote w) = Wrote (record { area = w.area; block = w.block; number = 0; bytes = w.bytes })
unnumbered (Flushed a) = Flushed a

abbrev pub survivors : List ℕ → ℕ → ℕ → List Call → List Call
survivors keep log home calls = map unnumbered (filter (survives_crash keep log home) calls)

abbrev pub Forgets : List Call → MemIndex → MemIndex → Type 0
Forgets calls old new =
    (a : Area) (n : ℕ) → noted_in new a n ≡ (if is_some (newest a n calls) then option_map (λ _. None) (noted_in old a n) else noted_in old a n)

abbrev pub renoted : Option ℕ → Option (Option ℕ) → Option (Option ℕ)
renoted None old = old
renoted (Some i) old = option_map (λ _. Some i) old

abbrev pub Remembers : List Call → MemIndex → MemIndex → Type 0
Remembers calls old new = (a : Area) (n : ℕ) → noted_in new a n ≡ renoted (newest a n calls) (noted_in old a n)
