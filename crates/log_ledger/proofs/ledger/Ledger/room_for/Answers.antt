use Rattle.std.proofs.Common.{arith}
use Rattle.log_ledger.proofs.Advancing.{room-few}
use Rattle.log_ledger.proofs.Ledgers.{on-idle, on-tail}
use Rattle.log_ledger.proofs.ledger.Ledger.room_for.Goals as goal

-- what is too many for any ring has no room
pub returns-then-copies-gt-MOST_OF_EITHER-clause-room :
    goal.returns-then-copies-gt-MOST_OF_EITHER-clause-room
returns-then-copies-gt-MOST_OF_EITHER-clause-room c = (
  λ none. cc,
  λ room.
      let on = c.requires.can_run in
      let few = room-few on.shape c.args.self.now c.args.copies c.args.revokes on.runs room in
      let many = c.then-copies-gt-MOST_OF_EITHER.either in
      absurd (omega (arith, few.0, few.1, many)),
)

-- nothing is being committed, so all that is taken is committed
pub returns-then-blocks-free-clause-room : goal.returns-then-blocks-free-clause-room
returns-then-blocks-free-clause-room c = (
  λ none. cc,
  λ room.
      let head = on-idle c.args.self.now _ c.requires.can_run c.requires.idle in
      let tail = on-tail c.args.self.now _ c.requires.can_run in
      let within = c.free.ensures.sound.within in
      let free = c.free.ensures.free in
      let needed = c.need-blocks.ensures in
      let short = c.if-blocks-free.true in
      absurd (omega arith),
)
