use Rattle.std.proofs.Common.{[], ◌∷◌, List, ℕ}
use Rattle.std.proofs.lemmas.Result.{err_from_is_err_and}
use Rattle.journal_model.specs.declared.number.Area.TheVariants.{Home, Log}
use Rattle.log_model.specs.Superblock.{with_tail}
use Rattle.block_device.specs.State.{DeviceState}
use Rattle.journal_world.specs.Call.Call.{Flush, Write}
use Rattle.recovery.specs.Calls.{cleaning_calls}
use Rattle.recovery.proofs.MadeCalls.{begun-interrupted, begun-stays, made-begun, made-joins, made-one, write-interrupted}
use Rattle.recovery.proofs.replaying.clean_log.Goals as goal

pub returns-in_err-flush-clause-begun : goal.returns-in_err-flush-clause-begun
returns-in_err-flush-clause-begun g c =
    let p = err_from_is_err_and c.from_residual.result c.from_residual.ensures.1 in
    rw p.1
    (begun-stays (cleaning_calls (with_tail c.args.superblock.now c.args.next 0)) (g.D.Device.state c.args.device.now) (g.D.Device.state c.flush.new.self) c.in_err-flush.ensures.err)

pub returns-in_err-write-clause-begun : goal.returns-in_err-write-clause-begun
returns-in_err-write-clause-begun g c =
    let tail : List ℕ = with_tail c.args.superblock.now c.args.next 0 in
    let s : DeviceState = g.D.Device.state c.args.device.now in
    let t : DeviceState = g.D.Device.state c.flush.new.self in
    let u : DeviceState = g.D.Device.state c.write-2.new.self in
    let p = err_from_is_err_and c.from_residual-in_err-write.result c.from_residual-in_err-write.ensures.1 in
    rw p.1
    (made-begun (Flush Home ∷ []) (Write Log 0 tail ∷ Flush Log ∷ []) s t u (made-one (Flush Home) s t c.in_ok-flush.ensures.ok)
    (begun-interrupted (Write Log 0 tail ∷ Flush Log ∷ []) t u (write-interrupted Log 0 tail (Flush Log ∷ []) t u (rw c.write.ensures at c.write-2.ensures.writes))))

pub returns-in_err-flush-2-clause-begun : goal.returns-in_err-flush-2-clause-begun
returns-in_err-flush-2-clause-begun g c =
    let tail : List ℕ = with_tail c.args.superblock.now c.args.next 0 in
    let s : DeviceState = g.D.Device.state c.args.device.now in
    let t : DeviceState = g.D.Device.state c.flush.new.self in
    let u : DeviceState = g.D.Device.state c.write-2.new.self in
    let w : DeviceState = g.D.Device.state c.flush-2.new.self in
    let p = err_from_is_err_and c.from_residual-in_err-flush-2.result c.from_residual-in_err-flush-2.ensures.1 in
    rw p.1
    (made-begun (Flush Home ∷ Write Log 0 tail ∷ []) (Flush Log ∷ []) s u w
    (made-joins (Flush Home ∷ []) (Write Log 0 tail ∷ []) s t u (made-one (Flush Home) s t c.in_ok-flush.ensures.ok)
    (made-one (Write Log 0 tail) t u (rw c.write.ensures at c.in_ok-write.ensures.ok)))
    (begun-stays (Flush Log ∷ []) u w c.in_err-flush-2.ensures.err))
