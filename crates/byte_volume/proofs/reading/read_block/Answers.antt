use Rattle.std.proofs.Common.{◌∙◌}
use Rattle.byte_volume.specs.Reading.ReadsBlock.{Newest}
use Rattle.byte_volume.proofs.Blocks.{by_journal, zeros}
use Rattle.byte_volume.proofs.reading.read_block.Goals as goal

-- the block was read
pub returns-in-Ok : goal.returns-in-Ok
returns-in-Ok g c =
    let at = by_journal _ _ c.requires c.in-Ok.ensures in
    record { reads = Newest (record { old = at.old; new = at.new; comes = at.comes; did = at.did.ok }); err = tt; length = at.did.same_length }

-- the block was revoked
pub returns-in-Revoked : goal.returns-in-Revoked
returns-in-Revoked g c =
    let at = by_journal _ _ c.requires c.in-Err.ensures in
    record {
      reads =
          zeros g.D.Device.state g.D.Device.honest g.J.JournalName.name c.args.block _ c.in-Err.e _ _ c.fill.new.self c.in-Revoked.is at
          (c.fill.ensures.after (λ y is. is)) c.fill.ensures.len;
      err = tt;
      length = c.fill.ensures.len ∙ at.did.same_length;
    }

-- the read was refused
pub returns-in_default : goal.returns-in_default
returns-in_default g c =
    let at = by_journal _ _ c.requires c.in-Err.ensures in
    record { reads = tt; err = (c.in_default.not-Revoked, record { old = at.old; new = at.new; did = at.did.err }); length = at.did.same_length }
