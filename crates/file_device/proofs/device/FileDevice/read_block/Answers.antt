use Rattle.std.proofs.Common.{◌*◌, [], ◌∷◌, refl, sym, ap, ◌∙◌}
use Rattle.journal_model.specs.Disk.{Cell}
use Rattle.block_device.specs.State.{one_more_fault}
use Rattle.file_device.specs.Calls.{Read, ReadFailed}
use Rattle.file_device.specs.Files.{FileState}
use Rattle.file_device.specs.Gathered.{due_of}
use Rattle.file_device.specs.NotedFiles.{calls_of}
use Rattle.file_device.specs.declared.calls.NotedFiles.{NotedFiles}
use Rattle.file_device.proofs.FileBlocks.{agreed_read}
use Rattle.file_device.proofs.KeptAhead.{read-kept}
use Rattle.file_device.proofs.device.FileDevice.read_block.Goals as goal

-- if all reads agreed, this one did
pub returns-in-Ok-clause-bytes : goal.returns-in-Ok-clause-bytes
returns-in-Ok-clause-bytes g c agrees =
    agreed_read g.C.Contents.contents (calls_of c.read.new.self) c.place_of-at.result c.args.n c.args.area c.read.new.into
    c.self.view_is c.self.invariant.0.some c.place_of-at.ensures (ap calls_of c.in-Ok.ensures.ok) agrees
    ∙ ap (λ (x : Cell). x.reads) (sym c.requires.apart)

-- the file was read once
pub returns-in-Ok-clause-ok : goal.returns-in-Ok-clause-ok
returns-in-Ok-clause-ok g c =
    let d = c.self.inside in
    let View : NotedFiles → FileState = λ f. record { block_size = d.size; log_file = f.log; home_file = f.home; log_bytes = d.log_bytes; home_bytes = d.home_bytes; gathered = due_of d.size d.gathered; calls = calls_of f; has_failed = d.has_failed; faults = d.faults; calls_made = d.calls_made } in
    record {
      calls = Read c.args.area c.place_of-at.result c.read.new.into ∷ [];
      readings = (tt, tt);
      after = ap View c.in-Ok.ensures.ok ∙ ap (λ (s : FileState). record s { calls = Read c.args.area c.place_of-at.result c.read.new.into ∷ s.calls }) c.self.view_is;
    }

-- and that failed, at the block's place
pub returns-in-Err-clause-err : goal.returns-in-Err-clause-err
returns-in-Err-clause-err g c =
    let d = c.self.inside in
    let View : NotedFiles → FileState = λ f. record { block_size = d.size; log_file = f.log; home_file = f.home; log_bytes = d.log_bytes; home_bytes = d.home_bytes; gathered = due_of d.size d.gathered; calls = calls_of f; has_failed = d.has_failed; faults = one_more_fault d.faults; calls_made = d.calls_made } in
    record {
      before = c.args.self.now;
      asked_before = record { calls = []; readings = tt; after = refl };
      after = c.fail_to_read.ensures ∙ ap View c.in-Err.ensures.err
          ∙ ap (λ at. record (View d.files) { calls = ReadFailed c.args.area at ∷ calls_of d.files }) c.place_of-at.ensures
          ∙ ap (λ (s : FileState). record s { calls = ReadFailed c.args.area (c.args.n * s.block_size) ∷ s.calls; faults = one_more_fault s.faults }) c.self.view_is;
    }

-- kept blocks stay right
pub invariant_of-self : goal.invariant_of-self
invariant_of-self g c =
    let d = c.self.inside in
    let kept = read-kept g.C.Contents.contents d.size d.gathered (calls_of d.files) (calls_of c.read.new.self) d.ahead (Read c.args.area c.place_of-at.result c.read.new.into) tt
    (ap calls_of c.in-Ok.ensures.ok) c.self.invariant.0 c.self.invariant.1 in
    (kept.0, kept.1, c.self.invariant.2)

pub invariant_of-self-in-Err : goal.invariant_of-self-in-Err
invariant_of-self-in-Err g c =
    let d = c.self.inside in
    let kept = read-kept g.C.Contents.contents d.size d.gathered (calls_of d.files) (calls_of c.read.new.self) d.ahead (ReadFailed c.args.area c.place_of-at.result) tt
    (ap calls_of c.in-Err.ensures.err) c.self.invariant.0 c.self.invariant.1 in
    (kept.0, kept.1, c.self.invariant.2)
