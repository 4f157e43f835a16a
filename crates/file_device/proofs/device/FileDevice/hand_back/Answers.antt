use Rattle.std.proofs.Common.{◌≡◌, ℕ, List, ap, refl, sym, subst, ◌∙◌}
use Rattle.file_device.specs.Blocks.{block_of}
use Rattle.file_device.specs.Files.{FileState, file_state, files_disk}
use Rattle.file_device.specs.NotedFiles.{calls_of}
use Rattle.file_device.proofs.GatheredBlocks.{among-reads, apart-cell}
use Rattle.file_device.proofs.device.FileDevice.hand_back.Goals as goal

-- a block that is not gathered reads as its file does
pub returns-in_default-clause-apart : goal.returns-in_default-clause-apart
returns-in_default-clause-apart g c is =
    let contents = g.C.Contents.contents in
    let d = c.self.inside in
    subst (λ (s : FileState). (file_state contents s).disk c.args.area c.args.n ≡ files_disk contents s c.args.area c.args.n) c.self.view_is
    (apart-cell contents d.size (calls_of d.files) d.gathered.area d.gathered.first d.gathered.bytes.items d.gathered.count c.self.invariant.0.some c.args.area c.args.n (c.in_default.ensures.apart refl))

-- and one that is, as it was taken
pub returns-clause-bytes : goal.returns-clause-bytes
returns-clause-bytes g c is =
    let contents = g.C.Contents.contents in
    let d = c.self.inside in
    let among = c.in-Some.ensures.found in
    subst (λ (s : FileState). c.copy_block.new.into ≡ ((file_state contents s).disk c.args.area c.args.n).reads) c.self.view_is
    (c.copy_block.ensures ∙ ap (λ (b : List ℕ). block_of d.size b c.in-Some.k) c.deref.ensures.value ∙ sym (among-reads contents d.size (calls_of d.files) d.gathered.area d.gathered.first d.gathered.bytes.items d.gathered.count c.self.invariant.0.some c.args.area c.args.n c.in-Some.k among.whose among.below among.place))
