use Rattle.std.proofs.Common.{rules}
use Rattle.block_device.proofs.OneCall.{call-as}
use Rattle.journal_steps.proofs.Directs.{agrees-direct, agrees-unsynced, each-sync, refused-sync}
use Rattle.journal_steps.proofs.steps.sync_direct.Goals as goal

pub returns-in-Ok-clause-agrees : goal.returns-in-Ok-clause-agrees
returns-in-Ok-clause-agrees g c = agrees-direct _ _ _ _ _ _ c.requires.agrees c.in-Ok.ensures.ok

-- once the front is notified, they agree
pub returns-in-Err-clause-agrees : goal.returns-in-Err-clause-agrees
returns-in-Err-clause-agrees g c = agrees-unsynced g.D.Device.state _ _ _ _ _ c.requires.agrees c.abort.ensures c.in-Err.ensures.err

pub returns-in-Ok-clause-syncs : goal.returns-in-Ok-clause-syncs
returns-in-Ok-clause-syncs g c =
    record { ok = search rules; err = tt; no_fault = c.in-Ok.ensures.no_fault; device = call-as (each-sync _ _ _ c.requires.agrees) c.sync_direct.ensures.device }

pub returns-in-Err-clause-syncs : goal.returns-in-Err-clause-syncs
returns-in-Err-clause-syncs g c = record {
  ok = tt;
  err = refused-sync g.D.Device.state _ _ _ _ _ c.requires.agrees c.abort.ensures c.in-Err.ensures.err;
  no_fault = tt;
  device = call-as (each-sync _ _ _ c.requires.agrees) c.sync_direct.ensures.device;
}
