use Rattle.std.proofs.Common.{refl}
use Rattle.nbd_server.specs.Answers.Releases.{AsRefused}
use Rattle.nbd_server.proofs.flusher.release.Goals as goal

-- the wait was refused
pub returns-in-Err : goal.returns-in-Err
returns-in-Err g c = AsRefused c.in-Err.e c.in-Err.ensures.err c.not_committed.ensures refl
