use Rattle.std.proofs.Common.{◌≡◌, ◌*◌, ◌/◌, ◌++◌, ℕ, List, ◌∷◌, length, ap, sym, subst, ◌∙◌}
use Rattle.file_device.specs.Blocks.{writes_of}
use Rattle.file_device.specs.Calls.{FileCall, GatheredFailed}
use Rattle.file_device.specs.Files.{FileState, handed_on}
use Rattle.file_device.specs.Gathered.{due_of}
use Rattle.file_device.specs.NotedFiles.{calls_of, with_calls}
use Rattle.file_device.specs.declared.calls.NotedFiles.{NotedFiles}
use Rattle.file_device.specs.declared.gathered.Gathered.{Gathered}
use Rattle.file_device.proofs.GatheredBlocks.{handed-due}
use Rattle.file_device.proofs.KeptAhead.{failed-kept, handed-kept, none-due}
use Rattle.file_device.proofs.device.FileDevice.write_gathered.Goals as goal

-- what was gathered is written
pub invariant_of-self-2 : goal.invariant_of-self-2
invariant_of-self-2 g c =
    let d = c.self.inside in
    let same = handed-due d.size d.gathered c.deref.result.now c.self.invariant.0.some c.self.invariant.2.whole c.deref.ensures.value in
    handed-kept g.C.Contents.contents d.size d.gathered c.begin_at.new.self (calls_of d.files) (calls_of c.write_blocks.new.self) d.ahead
    c.begin_at.ensures.bytes (ap (λ (x : Gathered). x.count) c.begin_at.ensures.rest)
    (ap calls_of c.in_default.ensures.ok ∙ ap (λ (due : List FileCall). due ++ calls_of d.files) same)
    c.self.invariant.0 c.self.invariant.1

pub returns-clause-ok : goal.returns-clause-ok
returns-clause-ok g c =
    let d = c.self.inside in
    let View : NotedFiles → List FileCall → FileState = λ f due. record { block_size = d.size; log_file = f.log; home_file = f.home; log_bytes = d.log_bytes; home_bytes = d.home_bytes; gathered = due; calls = calls_of f; has_failed = d.has_failed; faults = d.faults; calls_made = d.calls_made } in
    let same = handed-due d.size d.gathered c.deref.result.now c.self.invariant.0.some c.self.invariant.2.whole c.deref.ensures.value in
    ap (λ (f : NotedFiles). View f (due_of d.size c.begin_at.new.self)) c.in_default.ensures.ok
    ∙ ap (λ (cs : List FileCall). View (with_calls d.files cs) (due_of d.size c.begin_at.new.self)) same
    ∙ ap (View (with_calls d.files (due_of d.size d.gathered))) (none-due d.size c.begin_at.new.self (ap (λ (x : Gathered). x.count) c.begin_at.ensures.rest))
    ∙ ap handed_on c.self.view_is

-- or is kept
pub invariant_of-self : goal.invariant_of-self
invariant_of-self g c =
    let d = c.self.inside in
    let kept = failed-kept g.C.Contents.contents d.size d.gathered (calls_of d.files) (calls_of c.write_blocks.new.self) d.ahead d.gathered.area (d.gathered.first * d.size) c.deref.result.now
    (ap calls_of c.in-Err.ensures.err) c.self.invariant.0 c.self.invariant.1 in
    (kept.0, kept.1, c.self.invariant.2)

pub returns-in-Err-clause-err : goal.returns-in-Err-clause-err
returns-in-Err-clause-err g c =
    let d = c.self.inside in
    let at : ℕ = d.gathered.first * d.size in
    let span : List ℕ = c.deref.result.now in
    let View : NotedFiles → FileState = λ f. record { block_size = d.size; log_file = f.log; home_file = f.home; log_bytes = d.log_bytes; home_bytes = d.home_bytes; gathered = due_of d.size d.gathered; calls = calls_of f; has_failed = d.has_failed; faults = d.faults; calls_made = d.calls_made } in
    let same = handed-due d.size d.gathered span c.self.invariant.0.some c.self.invariant.2.whole c.deref.ensures.value in
    record {
      area = d.gathered.area;
      at = at;
      bytes = span;
      were = subst (λ (s : FileState). s.gathered ≡ writes_of d.gathered.area at s.block_size span (length span / s.block_size)) c.self.view_is (sym same);
      after = ap View c.in-Err.ensures.err
          ∙ ap (λ (s : FileState). record s { calls = GatheredFailed d.gathered.area at span ∷ s.calls }) c.self.view_is;
    }
