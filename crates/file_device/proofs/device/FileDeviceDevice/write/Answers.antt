use Rattle.std.proofs.Common.{◌*◌, refl, ◌∙◌}
use Rattle.block_device.specs.State.{Undone, Whole}
use Rattle.file_device.specs.Calls.{WriteFailed}
use Rattle.file_device.proofs.FileBlocks.{failed_writes, fails_counted, fails_made, fails_stays, for_good_agreed, in-both, takes_agreed, takes_first, takes_gathered, takes_made, takes_moves}
use Rattle.file_device.proofs.KeptAhead.{on-ok}
use Rattle.file_device.proofs.device.FileDeviceDevice.write.Goals as goal

-- the block is gathered with the others
pub returns-then-gather-clause-ok : goal.returns-then-gather-clause-ok
returns-then-gather-clause-ok g c =
    takes_moves g.C.Contents.contents c.args.area c.args.n c.args.bytes.now c.check_usable.ensures.some
    (takes_gathered c.args.area c.args.n c.args.bytes.now c.in_ok-check_usable.ensures.usable (c.if-gather.ensures.taken refl))

pub returns-then-gather-clause-writes : goal.returns-then-gather-clause-writes
returns-then-gather-clause-writes g c = Whole (returns-then-gather-clause-ok g c)

-- those could not be written
pub returns-in_err-hand_on-clause-writes : goal.returns-in_err-hand_on-clause-writes
returns-in_err-hand_on-clause-writes g c =
    Undone (fails_stays g.C.Contents.contents c.args.self.now c.hand_on.new.self
    (fails_counted c.args.self.now c.gather.new.self c.hand_on.new.self (c.if-gather.ensures.left refl ∙ c.in_ok-check_usable.ensures.usable) c.in_err-hand_on.ensures.err))

-- it is gathered as the first one
pub returns-then-gather_first-clause-ok : goal.returns-then-gather_first-clause-ok
returns-then-gather_first-clause-ok g c =
    takes_moves g.C.Contents.contents c.args.area c.args.n c.args.bytes.now c.check_usable.ensures.some
    (takes_first c.args.area c.args.n c.args.bytes.now (c.if-gather.ensures.left refl ∙ c.in_ok-check_usable.ensures.usable) c.in_ok-hand_on.ensures.ok (c.if-gather_first.ensures.taken refl))

pub returns-then-gather_first-clause-writes : goal.returns-then-gather_first-clause-writes
returns-then-gather_first-clause-writes g c = Whole (returns-then-gather_first-clause-ok g c)

pub returns-then-gather_first-clause-honest : goal.returns-then-gather_first-clause-honest
returns-then-gather_first-clause-honest g c =
    takes_agreed g.C.Contents.contents
    (takes_first c.args.area c.args.n c.args.bytes.now (c.if-gather.ensures.left refl ∙ c.in_ok-check_usable.ensures.usable) c.in_ok-hand_on.ensures.ok (c.if-gather_first.ensures.taken refl))

-- it is written alone
pub returns-clause-took : goal.returns-clause-took
returns-clause-took g c =
    on-ok c.write_block.result
    (takes_made c.args.area c.args.n c.args.bytes.now (c.if-gather.ensures.left refl ∙ c.in_ok-check_usable.ensures.usable) (c.if-gather_first.ensures.left refl ∙ c.in_ok-hand_on.ensures.ok))
    c.write_block.ensures.ok

pub returns-clause-ok : goal.returns-clause-ok
returns-clause-ok g c =
    on-ok c.write_block.result (takes_moves g.C.Contents.contents c.args.area c.args.n c.args.bytes.now c.check_usable.ensures.some) (returns-clause-took g c)

pub returns-clause-writes : goal.returns-clause-writes
returns-clause-writes g c =
    in-both c.write_block.result (returns-clause-ok g c) c.write_block.ensures.err Whole
    (λ failed. failed_writes g.C.Contents.contents c.args.self.now c.write_block.new.self c.args.area c.args.n c.args.bytes.now c.check_usable.ensures.some
    (fails_made c.args.self.now c.gather.new.self c.gather_first.new.self c.write_block.new.self c.args.area c.args.n c.args.bytes.now
    (c.if-gather.ensures.left refl ∙ c.in_ok-check_usable.ensures.usable) (c.if-gather_first.ensures.left refl ∙ c.in_ok-hand_on.ensures.ok) failed))

pub returns-clause-honest : goal.returns-clause-honest
returns-clause-honest g c =
    in-both c.write_block.result (returns-clause-took g c) c.write_block.ensures.err (takes_agreed g.C.Contents.contents)
    (λ failed. for_good_agreed g.C.Contents.contents c.args.self.now c.write_block.new.self (WriteFailed c.args.area (c.args.n * c.args.self.now.block_size) c.args.bytes.now)
    (fails_made c.args.self.now c.gather.new.self c.gather_first.new.self c.write_block.new.self c.args.area c.args.n c.args.bytes.now
    (c.if-gather.ensures.left refl ∙ c.in_ok-check_usable.ensures.usable) (c.if-gather_first.ensures.left refl ∙ c.in_ok-hand_on.ensures.ok) failed))
