use Rattle.std.proofs.Common.{◌∷◌, true, ap, refl, subst, ◌∙◌}
use Rattle.file_device.specs.Calls.{GatheredFailed}
use Rattle.file_device.specs.Files.{FileMoments, FileState, HasAgreed, file_state}
use Rattle.file_device.proofs.GatheredBlocks.{agreed-before, over-same}
use Rattle.file_device.proofs.device.FileDeviceDevice.begin_flush.Goals as goal

-- what was gathered is written
pub returns-in-Ok-clause-honest : goal.returns-in-Ok-clause-honest
returns-in-Ok-clause-honest g c agrees =
    let s = c.args.self.now in
    agreed-before g.C.Contents.contents s.block_size s.gathered s.calls
    (subst (HasAgreed g.C.Contents.contents) (c.self-2.view_is ∙ c.in-Ok.ensures.ok) agrees)

-- or is kept
pub returns-in-Err-clause-begun : goal.returns-in-Err-clause-begun
returns-in-Err-clause-begun g c =
    let contents = g.C.Contents.contents in
    let s = c.args.self.now in
    let fails = c.in-Err.ensures.err in
    ap (λ (t : FileState). file_state contents (record t { has_failed = true })) (c.self-2.view_is ∙ fails.after)
    ∙ ap (λ (m : FileMoments). record (file_state contents s) { disk = m.disk; past = m.past })
    (over-same contents s.block_size s.gathered (GatheredFailed fails.area fails.at fails.bytes ∷ s.calls) s.calls refl)
