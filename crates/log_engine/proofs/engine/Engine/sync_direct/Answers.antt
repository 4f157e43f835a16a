use Rattle.std.proofs.Common.{refl}
use Rattle.journal_model.specs.declared.number.Area.TheVariants.{Home}
use Rattle.journal_world.specs.Call.Call.{Flush}
use Rattle.journal_world.specs.Direct.DirectCall.{SyncDirect}
use Rattle.journal_world.specs.Sound.{Sound}
use Rattle.log_engine.specs.Direct.{DirectSyncRefused}
use Rattle.block_device.proofs.OneCall.{no-call}
use Rattle.log_engine.proofs.Directs.{during-sync, each-sync, sync-lost}
use Rattle.log_engine.proofs.engine.Engine.sync_direct.Goals as goal

pub returns-then-self-clause-err : goal.returns-then-self-clause-err
returns-then-self-clause-err g c = rw (← c.self.view_is) (DirectSyncRefused.SyncAborted c.if-self.true refl)

-- what holds now holds at the one moment
pub returns-then-self-clause-device : goal.returns-then-self-clause-device
returns-then-self-clause-device g c = rw (← c.self.view_is) (no-call (λ honest. during-sync _ _ (c.self.invariant.2 honest)))

pub call_directly-requires-clause-direct : goal.call_directly-requires-clause-direct
call_directly-requires-clause-direct g c = (Flush Home, refl, SyncDirect)

pub returns-else-self-clause-err : goal.returns-else-self-clause-err
returns-else-self-clause-err g c =
    let made = c.call_directly.ensures in
    sync-lost g.D.Device.state c.args.self.now c.call_directly.new.self c.call_directly.result (made.err (Flush Home) refl) made.failed made.faults

pub returns-else-self-clause-device : goal.returns-else-self-clause-device
returns-else-self-clause-device g c =
    let made = c.call_directly.ensures in
    let sound : g.D.Device.honest c.args.self.now.device → Sound c.args.self.now.engine (g.D.Device.state c.args.self.now.device).disk =
    rw (← c.self.view_is) c.self.invariant.2 in
    record {
      shape = made.shape;
      moments = λ honest.
          each-sync c.args.self.now.engine c.call_directly.result c.call_directly.new.self.engine _ _ made.one (sound honest) (made.ok (Flush Home) refl)
          (made.err (Flush Home) refl);
      one = made.one;
      calls = made.calls;
      honest = made.honest;
    }
