use Rattle.std.proofs.Common.{sym, ◌∙◌, ap, subst, arith}
use Rattle.std.specs.Prelude.{List, ℕ, replicate}
use Rattle.journal_model.specs.Disk.{Disk, Shape}
use Rattle.log_model.specs.Superblock.{formatted_super}
use Rattle.log_format.specs.Size.{IsBlockSize}
use Rattle.block_device.specs.State.{DeviceState}
use Rattle.recovery.specs.Making.{IsMakingMoment}
use Rattle.recovery.specs.Opening.{HasZeros}
use Rattle.recovery.proofs.MakingMoments.{after-stays, making-flush, making-named, making-zeroed}
use Rattle.recovery.proofs.Zeroed.{formatted}
use Rattle.recovery.proofs.empty_log.write_log.Goals as goal

pub returns-clause-ok : goal.returns-clause-ok
returns-clause-ok g c =
    let shape : Shape = (g.D.Device.state c.args.device.now).shape in
    let old : Disk = (g.D.Device.state c.args.device.now).disk in
    let zeroed : Disk = (g.D.Device.state c.write_zeros.new.device).disk in
    let zeros : HasZeros c.fill.new.self c.args.maxlen old zeroed =
    subst (λ (n : ℕ). HasZeros c.fill.new.self n old zeroed) c.from.ensures c.in_ok-write_zeros.ensures.ok in
    formatted shape c.args.maxlen c.args.uuid.now c.format.new.block c.args.wide old zeroed (g.D.Device.state c.flush.new.self).disk
    (g.D.Device.state c.write.new.self).disk (g.D.Device.state c.flush-2.new.self).disk c.requires.allowed c.requires.least c.requires.most c.requires.there
    (c.format.ensures ∙ ap (λ (n : ℕ). formatted_super n c.args.maxlen c.args.uuid.now c.args.wide) (c.fill.auto.self ∙ c.requires.block))
    (subst (λ (bytes : List ℕ). HasZeros bytes c.args.maxlen old zeroed) (c.fill.ensures.after (λ y same. same) ∙ ap (λ (n : ℕ). replicate n 0) c.requires.block) zeros)
    c.in_ok-flush.ensures.ok.now c.in_ok-write.ensures.ok.now c.in_ok-flush-2.ensures.ok.now

pub returns-in_err-write_zeros-clause-moments : goal.returns-in_err-write_zeros-clause-moments
returns-in_err-write_zeros-clause-moments g c =
    let s : DeviceState = g.D.Device.state c.args.device.now in
    let zeros = c.fill.ensures.after (λ y same. same) ∙ ap (λ (n : ℕ). replicate n 0) c.requires.block in
    making-zeroed s.shape c.args.maxlen c.args.uuid.now c.args.wide s (g.D.Device.state c.write_zeros.new.device)
    (rw (← zeros, ← c.from.ensures) c.write_zeros.ensures.moments)

pub returns-in_err-flush-clause-moments : goal.returns-in_err-flush-clause-moments
returns-in_err-flush-clause-moments g c =
    let s : DeviceState = g.D.Device.state c.args.device.now in
    let zeros = c.fill.ensures.after (λ y same. same) ∙ ap (λ (n : ℕ). replicate n 0) c.requires.block in
    after-stays (IsMakingMoment s.shape c.args.maxlen c.args.uuid.now c.args.wide s.disk) s (g.D.Device.state c.write_zeros.new.device) (g.D.Device.state c.flush.new.self)
    (making-zeroed s.shape c.args.maxlen c.args.uuid.now c.args.wide s (g.D.Device.state c.write_zeros.new.device)
    (rw (← zeros, ← c.from.ensures) c.write_zeros.ensures.moments))
    c.in_err-flush.ensures.err

pub returns-in_err-write-clause-moments : goal.returns-in_err-write-clause-moments
returns-in_err-write-clause-moments g c =
    let s : DeviceState = g.D.Device.state c.args.device.now in
    let zeroed : DeviceState = g.D.Device.state c.write_zeros.new.device in
    let t : DeviceState = g.D.Device.state c.flush.new.self in
    let zeros = c.fill.ensures.after (λ y same. same) ∙ ap (λ (n : ℕ). replicate n 0) c.requires.block in
    making-named s.shape c.args.maxlen c.args.uuid.now c.format.new.block c.args.wide s zeroed t (g.D.Device.state c.write.new.self) (omega (arith, c.requires.least))
    (rw (← zeros, ← c.from.ensures) c.in_ok-write_zeros.ensures.ok) c.in_ok-flush.ensures.ok.now
    (c.format.ensures ∙ ap (λ (n : ℕ). formatted_super n c.args.maxlen c.args.uuid.now c.args.wide) (c.fill.auto.self ∙ c.requires.block))
    (making-flush s.shape c.args.maxlen c.args.uuid.now c.args.wide s zeroed t
    (making-zeroed s.shape c.args.maxlen c.args.uuid.now c.args.wide s zeroed (rw (← zeros, ← c.from.ensures) c.write_zeros.ensures.moments)) c.in_ok-flush.ensures.ok)
    c.write.ensures.writes

pub returns-in_err-flush-2-clause-moments : goal.returns-in_err-flush-2-clause-moments
returns-in_err-flush-2-clause-moments g c =
    let s : DeviceState = g.D.Device.state c.args.device.now in
    let zeroed : DeviceState = g.D.Device.state c.write_zeros.new.device in
    let t : DeviceState = g.D.Device.state c.flush.new.self in
    let u : DeviceState = g.D.Device.state c.write.new.self in
    let zeros = c.fill.ensures.after (λ y same. same) ∙ ap (λ (n : ℕ). replicate n 0) c.requires.block in
    after-stays (IsMakingMoment s.shape c.args.maxlen c.args.uuid.now c.args.wide s.disk) s u (g.D.Device.state c.flush-2.new.self)
    (making-named s.shape c.args.maxlen c.args.uuid.now c.format.new.block c.args.wide s zeroed t u (omega (arith, c.requires.least))
    (rw (← zeros, ← c.from.ensures) c.in_ok-write_zeros.ensures.ok) c.in_ok-flush.ensures.ok.now
    (c.format.ensures ∙ ap (λ (n : ℕ). formatted_super n c.args.maxlen c.args.uuid.now c.args.wide) (c.fill.auto.self ∙ c.requires.block))
    (making-flush s.shape c.args.maxlen c.args.uuid.now c.args.wide s zeroed t
    (making-zeroed s.shape c.args.maxlen c.args.uuid.now c.args.wide s zeroed (rw (← zeros, ← c.from.ensures) c.write_zeros.ensures.moments)) c.in_ok-flush.ensures.ok)
    c.write.ensures.writes)
    c.in_err-flush-2.ensures.err

pub returns-clause-moments : goal.returns-clause-moments
returns-clause-moments g c =
    let s : DeviceState = g.D.Device.state c.args.device.now in
    let zeroed : DeviceState = g.D.Device.state c.write_zeros.new.device in
    let t : DeviceState = g.D.Device.state c.flush.new.self in
    let u : DeviceState = g.D.Device.state c.write.new.self in
    let zeros = c.fill.ensures.after (λ y same. same) ∙ ap (λ (n : ℕ). replicate n 0) c.requires.block in
    making-flush s.shape c.args.maxlen c.args.uuid.now c.args.wide s u (g.D.Device.state c.flush-2.new.self)
    (making-named s.shape c.args.maxlen c.args.uuid.now c.format.new.block c.args.wide s zeroed t u (omega (arith, c.requires.least))
    (rw (← zeros, ← c.from.ensures) c.in_ok-write_zeros.ensures.ok) c.in_ok-flush.ensures.ok.now
    (c.format.ensures ∙ ap (λ (n : ℕ). formatted_super n c.args.maxlen c.args.uuid.now c.args.wide) (c.fill.auto.self ∙ c.requires.block))
    (making-flush s.shape c.args.maxlen c.args.uuid.now c.args.wide s zeroed t
    (making-zeroed s.shape c.args.maxlen c.args.uuid.now c.args.wide s zeroed (rw (← zeros, ← c.from.ensures) c.write_zeros.ensures.moments)) c.in_ok-flush.ensures.ok)
    c.write.ensures.writes)
    c.in_ok-flush-2.ensures.ok

pub returns-clause-honest : goal.returns-clause-honest
returns-clause-honest g c = λ honest.
    c.write_zeros.ensures.honest (c.flush.ensures.honest (c.write.ensures.honest (c.flush-2.ensures.honest honest)))

pub returns-clause-faults : goal.returns-clause-faults
returns-clause-faults g c =
    c.in_ok-flush-2.ensures.faults ∙ c.in_ok-write.ensures.faults ∙ c.in_ok-flush.ensures.faults ∙ c.in_ok-write_zeros.ensures.faults

pub write-requires-clause-block : goal.write-requires-clause-block
write-requires-clause-block g c =
    c.format.auto.block ∙ c.fill.auto.self ∙ c.requires.block
    ∙ sym (ap (λ (s : Shape). s.block_size) (c.in_ok-flush.ensures.ok.shape ∙ c.write_zeros.ensures.shape))

pub returns-clause-shape : goal.returns-clause-shape
returns-clause-shape g c =
    c.in_ok-flush-2.ensures.ok.shape ∙ c.in_ok-write.ensures.ok.shape ∙ c.in_ok-flush.ensures.ok.shape ∙ c.write_zeros.ensures.shape

pub format-requires : goal.format-requires
format-requires g c = subst IsBlockSize (sym (c.fill.auto.self ∙ c.requires.block)) c.requires.allowed
