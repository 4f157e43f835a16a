use Rattle.std.proofs.Common.{[], ◌∷◌, ◌∙◌, List, ℕ}
use Rattle.std.proofs.lemmas.Result.{err_from_is_err_and}
use Rattle.journal_model.specs.declared.number.Area.TheVariants.{Log}
use Rattle.log_model.specs.Superblock.{widened}
use Rattle.block_device.specs.State.{DeviceState}
use Rattle.journal_world.specs.Call.Call.{Flush, Write}
use Rattle.recovery.specs.Upgrade.{upgrade_calls}
use Rattle.recovery.proofs.MadeCalls.{begun-interrupted, begun-stays, made-begun, made-joins, made-one, write-interrupted}
use Rattle.recovery.proofs.upgrading.write_widened.Goals as goal

pub returns-in_err-flush-clause-begun : goal.returns-in_err-flush-clause-begun
returns-in_err-flush-clause-begun g c =
    let p = err_from_is_err_and c.from_residual.result c.from_residual.ensures.1 in
    rw p.1
    (begun-stays (upgrade_calls c.args.superblock.now) (g.D.Device.state c.args.device.now) (g.D.Device.state c.flush.new.self) c.in_err-flush.ensures.err)

pub returns-in_err-write-clause-begun : goal.returns-in_err-write-clause-begun
returns-in_err-write-clause-begun g c =
    let new : List ℕ = widened c.args.superblock.now in
    let s : DeviceState = g.D.Device.state c.args.device.now in
    let t : DeviceState = g.D.Device.state c.flush.new.self in
    let u : DeviceState = g.D.Device.state c.write.new.self in
    let p = err_from_is_err_and c.from_residual-in_err-write.result c.from_residual-in_err-write.ensures.1 in
    rw p.1
    (made-begun (Flush Log ∷ []) (Write Log 0 new ∷ Flush Log ∷ []) s t u (made-one (Flush Log) s t c.in_ok-flush.ensures.ok)
    (begun-interrupted (Write Log 0 new ∷ Flush Log ∷ []) t u (write-interrupted Log 0 new (Flush Log ∷ []) t u (rw (c.bytes.ensures ∙ c.widen.ensures.bytes) at c.write.ensures.writes))))

pub returns-in_err-flush-2-clause-begun : goal.returns-in_err-flush-2-clause-begun
returns-in_err-flush-2-clause-begun g c =
    let new : List ℕ = widened c.args.superblock.now in
    let s : DeviceState = g.D.Device.state c.args.device.now in
    let t : DeviceState = g.D.Device.state c.flush.new.self in
    let u : DeviceState = g.D.Device.state c.write.new.self in
    let w : DeviceState = g.D.Device.state c.flush-2.new.self in
    let p = err_from_is_err_and c.from_residual-in_err-flush-2.result c.from_residual-in_err-flush-2.ensures.1 in
    rw p.1
    (made-begun (Flush Log ∷ Write Log 0 new ∷ []) (Flush Log ∷ []) s u w
    (made-joins (Flush Log ∷ []) (Write Log 0 new ∷ []) s t u (made-one (Flush Log) s t c.in_ok-flush.ensures.ok)
    (made-one (Write Log 0 new) t u (rw (c.bytes.ensures ∙ c.widen.ensures.bytes) at c.in_ok-write.ensures.ok)))
    (begun-stays (Flush Log ∷ []) u w c.in_err-flush-2.ensures.err))
