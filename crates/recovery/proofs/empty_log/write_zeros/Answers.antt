use Rattle.std.proofs.Common.{◌≡◌, ◌∙◌, arith, refl, subst}
use Rattle.std.specs.Prelude.{ℕ}
use Rattle.recovery.specs.Opening.{HasZeros}
use Rattle.recovery.proofs.Counting.{one-call}
use Rattle.recovery.proofs.MakingMoments.{zeroing-none, zeroing-write}
use Rattle.recovery.proofs.Zeroed.{zeros-more, zeros-none}
use Rattle.recovery.proofs.empty_log.write_zeros.Goals as goal

pub loop-n-init : goal.loop-n-init
loop-n-init g c = (
  zeros-none c.args.zeros.now (g.D.Device.state c.args.device.now).disk,
  refl,
  refl,
  λ honest. honest,
  zeroing-none c.args.zeros.now c.args.maxlen (g.D.Device.state c.args.device.now),
  omega arith,
)

pub loop-n-preserved : goal.loop-n-preserved
loop-n-preserved g c = (
  zeros-more c.args.zeros.now c.loop-n.n (g.D.Device.state c.args.device.now).disk (g.D.Device.state c.loop-n.device).disk
      (g.D.Device.state c.write.new.self).disk c.loop-n.invariant.0 c.in_ok-write.ensures.ok.now,
  c.in_ok-write.ensures.ok.shape ∙ c.loop-n.invariant.1,
  c.in_ok-write.ensures.faults ∙ c.loop-n.invariant.2,
  λ honest. c.loop-n.invariant.3 (c.write.ensures.honest honest),
  zeroing-write c.args.zeros.now c.args.maxlen c.loop-n.n (g.D.Device.state c.args.device.now) (g.D.Device.state c.loop-n.device) (g.D.Device.state c.write.new.self)
      (omega arith) (omega arith) c.loop-n.invariant.4 c.write.ensures.writes,
  (let before = c.loop-n.invariant.5 in
      let one = one-call (g.D.Device.state c.loop-n.device) (g.D.Device.state c.write.new.self) c.write.ensures.calls in
      omega arith),
)

pub returns-clause-ok : goal.returns-clause-ok
returns-clause-ok g c =
    let all : c.loop-n.n ≡ c.args.maxlen = omega arith in
    subst (λ (end : ℕ). HasZeros c.args.zeros.now end (g.D.Device.state c.args.device.now).disk (g.D.Device.state c.loop-n.device).disk) all
    c.loop-n.invariant.0

-- a failed write may have written
pub returns-in_err-write-clause-moments : goal.returns-in_err-write-clause-moments
returns-in_err-write-clause-moments g c =
    zeroing-write c.args.zeros.now c.args.maxlen c.loop-n.n (g.D.Device.state c.args.device.now) (g.D.Device.state c.loop-n.device) (g.D.Device.state c.write.new.self)
    (omega arith) (omega arith) c.loop-n.invariant.4 c.write.ensures.writes
