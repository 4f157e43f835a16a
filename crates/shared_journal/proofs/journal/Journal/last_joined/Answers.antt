use Rattle.std.proofs.Common.{refl}
use Rattle.shared_journal.proofs.journal.Journal.last_joined.Goals as goal

pub returns : goal.returns
returns g c = record {
  old = c.deref.result.now;
  new = c.deref.result.now;
  comes = c.last_joined.ensures.comes;
  did = (c.last_joined.ensures.last, refl);
}
