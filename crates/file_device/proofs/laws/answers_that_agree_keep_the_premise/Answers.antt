use Rattle.std.proofs.Common.{ℕ, List, ◌*◌, ◌++◌, ap, sym, subst, refl}
use Rattle.file_device.specs.Calls.{FileCall}
use Rattle.file_device.specs.Files.{AgreesEach, files_disk}
use Rattle.file_device.proofs.FileBlocks.{block_at}
use Rattle.file_device.proofs.GatheredBlocks.{writes-agree}
use Rattle.file_device.proofs.laws.answers_that_agree_keep_the_premise.Goals as goal

pub returns-clause-read : goal.returns-clause-read
returns-clause-read c contents s area n some agreed =
    (ap (λ (b : ℕ). (files_disk contents s area b).reads) (sym (block_at (n * s.block_size) n s.block_size some refl)), agreed)

pub returns-clause-gathered : goal.returns-clause-gathered
returns-clause-gathered c contents s run agreed =
    subst (λ (due : List FileCall). AgreesEach contents s.block_size (due ++ s.calls)) (sym run.are)
    (writes-agree contents run.area run.at s.block_size run.bytes run.count s.calls agreed)
