use Rattle.std.proofs.Common.{◌++◌, ◌*◌, refl, subst}
use Rattle.block_device.specs.State.{HoldsWholeBlocks}
use Rattle.file_device.specs.Gathered.{due_of}
use Rattle.file_device.specs.NotedFiles.{calls_of}
use Rattle.file_device.specs.Files.{FileState, GathersRun, file_state}
use Rattle.file_device.proofs.FileBlocks.{whole_calls}
use Rattle.file_device.proofs.device.FileDeviceDevice.block_size.Goals as goal

pub returns-clause-whole : goal.returns-clause-whole
returns-clause-whole g c =
    let d = c.self.inside in
    let Whole : FileState → Type 0 = λ s. HoldsWholeBlocks (file_state g.C.Contents.contents s) in
    subst Whole c.self.view_is (λ a n v below one. whole_calls g.C.Contents.contents d.size (due_of d.size d.gathered ++ calls_of d.files) c.self.invariant.0.whole a n v one)

-- the gathered blocks, as they lie in memory
pub returns-clause-gathered : goal.returns-clause-gathered
returns-clause-gathered g c =
    let d = c.self.inside in
    subst GathersRun c.self.view_is (record {
      area = d.gathered.area;
      at = d.gathered.first * d.size;
      bytes = d.gathered.bytes.items;
      count = d.gathered.count;
      are = refl;
      few = c.self.invariant.2.few;
    })
