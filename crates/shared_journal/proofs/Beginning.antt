-- A journal that is not shared yet is its own beginning.
use Rattle.std.proofs.Common.{refl}
use Rattle.std.specs.Prelude.{Bool, []}
use Rattle.atomic_table.specs.Seated.{TableId}
use Rattle.block_device.specs.State.{DeviceState}
use Rattle.handle.specs.Values.{BoardValue}
use Rattle.locked_journal.specs.Sides.{SidesValue}
use Rattle.locked_journal.specs.Begun.{ComesFrom}
use Rattle.shared_journal.specs.Unnamed.{MayBegin, unnamed_value}

pub comes-unnamed : {D : Type 0} (state : D → DeviceState) (honest : D → Type 0) (board : BoardValue) (parts : TableId) (direct : Bool) (s : SidesValue D) →
    MayBegin state honest s.journal → ComesFrom state honest (unnamed_value state board parts direct s).name s.journal
comes-unnamed state honest board parts direct s begins = record {
  reached = λ h. record {
    opening = (state s.journal.device).disk;
    log = refl;
    home = refl;
    begins = begins h;
    moves = [];
    directs = [];
    leads = refl;
    none = λ without. refl;
  };
}
