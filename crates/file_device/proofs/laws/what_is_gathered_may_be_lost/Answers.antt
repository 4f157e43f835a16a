use Rattle.std.proofs.Common.{List, ◌++◌, sym, subst, inl, ⊎_elim}
use Rattle.journal_model.specs.Disk.{IsOneOf, held}
use Rattle.file_device.specs.Calls.{FileCall}
use Rattle.file_device.specs.Files.{after_calls}
use Rattle.file_device.proofs.GatheredBlocks.{writes-keep}
use Rattle.file_device.proofs.laws.what_is_gathered_may_be_lost.Goals as goal

pub returns : goal.returns
returns c contents s image run each = record {
  each = λ a n. ⊎_elim
      (λ kept. subst (λ (due : List FileCall). IsOneOf (held ((after_calls contents s.block_size (due ++ s.calls)).disk a n)) (image a n)) (sym run.are)
      (writes-keep contents s.block_size s.calls run.area run.at run.bytes run.count a n (image a n) kept))
      (λ written. inl written)
      (each a n);
}
