use Rattle.std.proofs.Common.{arith, sym, ap, ap₂, ◌∙◌, List}
use Rattle.journal_model.specs.declared.entry.Batch.{Batch}
use Rattle.journal_world.specs.declared.stage.Stage.{Stage}
use Rattle.log_ring.specs.Ring.{RingValue}
use Rattle.log_ledger.specs.Ledger.{engine_of}
use Rattle.log_ledger.proofs.Ledgers.{kept-more, room-there, took}
use Rattle.log_ledger.proofs.Running.{head-small}
use Rattle.log_ledger.proofs.Outcomes.{at-ok}
use Rattle.log_ledger.proofs.ledger.Ledger.take.Goals as goal

-- if memory runs out, nothing changes
pub returns-then-is_err-clause-kept : goal.returns-then-is_err-clause-kept
returns-then-is_err-clause-kept c = c.reserve.ensures.items ∙ c.requires.room.1.kept

-- there is room for the batch
pub push_back_reserved-requires : goal.push_back_reserved-requires
push_back_reserved-requires c =
    let room = at-ok c.reserve.result (sym c.is_err.ensures.value ∙ c.if-is_err.false) c.reserve.ensures.ok in
    omega arith

-- the head is far below 2 ^ 64
pub take-never_fails-requires : goal.take-never_fails-requires
take-never_fails-requires c =
    let small = head-small (engine_of c.requires.room.0 c.args.self.now) c.requires.room.1.plain in
    let head = c.requires.room.1.taken.head in
    omega arith

-- the ring has the blocks, so the batch is taken
pub returns-clause-ok : goal.returns-clause-ok
returns-clause-ok c = λ shape.
    let l = c.args.self.now in
    let there = room-there c.requires.room.0 l c.args.batch c.args.blocks c.requires.room.1 c.requires.room.2 c.requires.room.3 c.requires.blocks in
    let taken = took c.take-never_fails.result l.ring c.take-never_fails.new.self _ c.take-never_fails.ensures.ok c.take-never_fails.ensures.err there in
    ap (λ (r : RingValue). record (engine_of shape l) { ring = r.ring; tail = r.tail; accepted = c.push.new.self.items; stage = c.first_stage-self.result }) taken
    ∙ ap₂ (λ (bs : List Batch) (stage : Stage). record (engine_of shape l) { accepted = bs; stage = stage }) c.push.ensures c.first_stage-self.ensures

-- the head is after them
pub returns-clause-head : goal.returns-clause-head
returns-clause-head c =
    let l = c.args.self.now in
    let there = room-there c.requires.room.0 l c.args.batch c.args.blocks c.requires.room.1 c.requires.room.2 c.requires.room.3 c.requires.blocks in
    let taken = took c.take-never_fails.result l.ring c.take-never_fails.new.self _ c.take-never_fails.ensures.ok c.take-never_fails.ensures.err there in
    ap (λ (r : RingValue). r.head) taken

-- it is kept
pub returns-clause-kept : goal.returns-clause-kept
returns-clause-kept c =
    kept-more c.requires.room.0 c.args.self.now c.args.batch _ _ _ c.requires.room.1 c.requires.room.2.idle c.reserve.ensures.items
    c.push_back_reserved.ensures.items c.push.ensures
