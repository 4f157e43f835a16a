use Rattle.std.proofs.Common.{[], List, ℕ, ◌∙◌, subst}
use Rattle.std.proofs.lemmas.Result.{err_from_is_err_and}
use Rattle.log_model.specs.declared.log.Tag.{Tag}
use Rattle.journal_model.specs.declared.number.Area.TheVariants.{Home}
use Rattle.journal_model.specs.Disk.{reading}
use Rattle.log_model.specs.Chain.{place_from}
use Rattle.log_model.specs.Escape.{unescaped}
use Rattle.log_model.specs.Opening.{ring_of}
use Rattle.block_device.specs.State.{DeviceState, Writes}
use Rattle.journal_world.specs.Call.{Call}
use Rattle.log_scan.specs.Finding.{log_block}
use Rattle.recovery.specs.Gather.{copy_calls}
use Rattle.recovery.proofs.MadeCalls.{begun-interrupted, begun-stays, made-begun, made-none, write-interrupted}
use Rattle.recovery.proofs.replaying.copy_home.Goals as goal

pub returns-in_err-read_copy-clause-begun : goal.returns-in_err-read_copy-clause-begun
returns-in_err-read_copy-clause-begun g c =
    let p = err_from_is_err_and c.from_residual.result c.from_residual.ensures.1 in
    rw p.1
    (λ honest. begun-stays (copy_calls c.args.log.now (reading (g.D.Device.state c.args.device.now).disk) c.args.position c.args.tag)
    (g.D.Device.state c.args.device.now) (g.D.Device.state c.read_copy.new.device) c.read_copy.ensures.device.stays)

pub returns-in_err-write-clause-begun : goal.returns-in_err-write-clause-begun
returns-in_err-write-clause-begun g c =
    let s : DeviceState = g.D.Device.state c.args.device.now in
    let t : DeviceState = g.D.Device.state c.read_copy.new.device in
    let u : DeviceState = g.D.Device.state c.write.new.self in
    let stored : List ℕ = log_block (reading s.disk) (place_from (ring_of c.args.log.now) c.args.log.now.s_start c.args.position) in
    let calls : List Call = copy_calls c.args.log.now (reading s.disk) c.args.position c.args.tag in
    let p = err_from_is_err_and c.from_residual-in_err-write.result c.from_residual-in_err-write.ensures.1 in
    rw p.1
    (λ honest.
    let bytes = c.block.ensures.block ∙ c.in_ok-read_copy.ensures.copy (c.write.ensures.honest honest) in
    made-begun [] calls s t u (made-none s t c.read_copy.ensures.device.stays)
    (begun-interrupted calls t u (write-interrupted Home c.args.tag.block (unescaped c.args.tag.escaped stored) [] t u
    (subst (λ (tag : Tag). Writes t u Home tag.block (unescaped tag.escaped stored)) c.tag.view_is
    (subst (λ (v : List ℕ). Writes t u Home c.tag.inside.0.0.0 v) bytes c.write.ensures.writes)))))
