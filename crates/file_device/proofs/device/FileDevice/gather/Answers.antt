use Rattle.std.proofs.Common.{◌≡◌, ◌*◌, ◌<◌, ◌∷◌, List, length, ap, sym, subst, ◌∙◌, arith}
use Rattle.block_device.specs.State.{blocks_in}
use Rattle.file_device.specs.Calls.{FileCall, Wrote}
use Rattle.file_device.specs.Files.{FileState, file_shape}
use Rattle.file_device.specs.NotedFiles.{calls_of}
use Rattle.file_device.proofs.GatheredBlocks.{pushed-due, same-due}
use Rattle.file_device.proofs.KeptAhead.{gather-kept, small-place}
use Rattle.file_device.proofs.device.FileDevice.gather.Goals as goal

pub invariant_of-self : goal.invariant_of-self
invariant_of-self g c =
    let d = c.self.inside in
    let whole : length c.args.bytes.now ≡ d.size = c.requires.block ∙ sym (ap (λ (s : FileState). s.block_size) c.self.view_is) in
    let few_log : d.log_bytes < 18446744073709551616 = omega (arith, c.self.ranges) in
    let few_home : d.home_bytes < 18446744073709551616 = omega (arith, c.self.ranges) in
    let small = small-place c.args.area d.size d.log_bytes d.home_bytes c.args.n few_log few_home
    (subst (λ (s : FileState). c.args.n < blocks_in (file_shape s) c.args.area) (sym c.self.view_is) c.requires.there) in
    gather-kept g.C.Contents.contents d.size (calls_of d.files) d.gathered c.push.new.self d.ahead c.forget.new.self c.args.area c.args.n c.args.bytes.now c.push.result
    whole small c.self.invariant.0 c.self.invariant.1 c.self.invariant.2 c.forget.ensures c.push.ensures.taken c.push.ensures.left

pub returns-clause-taken : goal.returns-clause-taken
returns-clause-taken g c is =
    let d = c.self.inside in
    let whole : length c.args.bytes.now ≡ d.size = c.requires.block ∙ sym (ap (λ (s : FileState). s.block_size) c.self.view_is) in
    let View : List FileCall → FileState = λ due. record { block_size = d.size; log_file = d.files.log; home_file = d.files.home; log_bytes = d.log_bytes; home_bytes = d.home_bytes; gathered = due; calls = calls_of d.files; has_failed = d.has_failed; faults = d.faults; calls_made = d.calls_made } in
    ap View (pushed-due d.size d.gathered c.push.new.self c.args.area c.args.n c.args.bytes.now whole c.self.invariant.2.whole (c.push.ensures.taken is))
    ∙ ap (λ (s : FileState). record s { gathered = Wrote c.args.area (c.args.n * s.block_size) c.args.bytes.now ∷ s.gathered }) c.self.view_is

pub returns-clause-left : goal.returns-clause-left
returns-clause-left g c is =
    let d = c.self.inside in
    let View : List FileCall → FileState = λ due. record { block_size = d.size; log_file = d.files.log; home_file = d.files.home; log_bytes = d.log_bytes; home_bytes = d.home_bytes; gathered = due; calls = calls_of d.files; has_failed = d.has_failed; faults = d.faults; calls_made = d.calls_made } in
    ap View (same-due d.size d.gathered c.push.new.self (c.push.ensures.left is)) ∙ c.self.view_is
