use Rattle.std.proofs.Common.{◌*◌, ◌++◌, ℕ, List, ap, sym, subst, ◌∙◌}
use Rattle.journal_model.specs.declared.number.Area.{Area}
use Rattle.file_device.specs.Blocks.{block_of}
use Rattle.file_device.specs.Files.{AgreesEach, FileState, HasAgreed, file_state}
use Rattle.file_device.specs.Gathered.{due_of}
use Rattle.file_device.specs.NotedFiles.{calls_of}
use Rattle.file_device.proofs.GatheredBlocks.{same-is, writes-agree}
use Rattle.file_device.proofs.device.FileDevice.hand_out.Goals as goal

pub returns-clause-bytes : goal.returns-clause-bytes
returns-clause-bytes g c is agrees =
    let contents = g.C.Contents.contents in
    let d = c.self.inside in
    let View : FileState = record { block_size = d.size; log_file = d.files.log; home_file = d.files.home; log_bytes = d.log_bytes; home_bytes = d.home_bytes; gathered = due_of d.size d.gathered; calls = calls_of d.files; has_failed = d.has_failed; faults = d.faults; calls_made = d.calls_made } in
    let before : AgreesEach contents d.size (calls_of d.files) = subst (HasAgreed contents) (sym c.self.view_is) agrees in
    let due : AgreesEach contents d.size (due_of d.size d.gathered ++ calls_of d.files) =
    writes-agree contents d.gathered.area (d.gathered.first * d.size) d.size d.gathered.bytes.items d.gathered.count (calls_of d.files) before in
    c.copy_block.ensures
    ∙ ap (λ (b : List ℕ). block_of d.size b c.in-Some.k) c.deref.ensures.value
    ∙ c.self.invariant.1.reads c.in-Some.k c.in-Some.ensures.place.0 due
    ∙ ap (λ (n : ℕ). ((file_state contents View).disk d.ahead.area n).reads) c.in-Some.ensures.place.1
    ∙ ap (λ (a : Area). ((file_state contents View).disk a c.args.n).reads) (sym (same-is c.args.area d.ahead.area c.in-Some.ensures.whose))
    ∙ ap (λ (s : FileState). ((file_state contents s).disk c.args.area c.args.n).reads) c.self.view_is
