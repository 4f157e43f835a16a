use Rattle.std.proofs.Common.{◌≡◌, ◌+◌, ◌-◌, length, take, drop, arith, refl, rules}
use Rattle.std.proofs.lemmas.Grind.{common_steps}
use Rattle.std.proofs.lemmas.Result.{err_from_is_err_and}
use Rattle.byte_volume.proofs.Pieces.{all_bytes, more_bytes, no_byte, some_bytes}
use Rattle.byte_volume.proofs.Refusals.{piece_refused}
use Rattle.byte_volume.proofs.TicketLists.{any_err, none_noted, noted_added, noted_maybe}
use Rattle.byte_volume.proofs.WholeBlocks.{piece_ends, piece_within}
use Rattle.byte_volume.proofs.writing.write_pieces.Goals as goal

-- nothing is written
pub loop-done-init : goal.loop-done-init
loop-done-init g c = record {
  within = omega arith;
  kept = omega arith;
  taken = λ first. first;
  begins = λ more cut. refl;
  pieces = no_byte g.D.Device.state g.D.Device.honest g.J.JournalName.name _ c.args.offset c.args.tickets.now.items c.requires.empty;
  noted = none_noted c.args.stopped.now c.args.tickets.now.items c.requires.empty;
}

-- one more piece
pub loop-done-preserved : goal.loop-done-preserved
loop-done-preserved g c =
    let full = rw (c.block_size.ensures.size, c.capacity.ensures.capacity) at c.piece_length-most.ensures.full in
    let some = rw c.block_size.ensures.size at c.block_size.ensures.some in
    let ends = piece_ends _ _ c.args.offset (length c.args.bytes.now) c.loop-done.done _ c.min-count.result (c.args.offset + (c.loop-done.done + c.min-count.result)) some c.requires.fits full
    c.min-count.ensures (omega arith) in
    record {
      within = search rules;
      kept = search rules;
      taken = λ first. c.write_once.ensures.taken (c.loop-done.invariant.taken first);
      begins = λ more cut. absurd (omega (arith, cut, ends more));
      pieces = more_bytes g.D.Device.state g.D.Device.honest g.J.JournalName.name _ c.args.offset c.loop-done.done c.min-count.result c.write_once.new.stopped c.args.bytes.now _
          c.loop-done.tickets.items c.write_once.new.tickets.items (search rules) c.loop-done.invariant.pieces c.in_ok-write_once.ensures.once (search rules);
      noted = noted_added _ c.loop-done.stopped c.write_once.new.stopped c.loop-done.tickets.items c.write_once.new.tickets.items c.write_once.ensures.kept
          c.loop-done.invariant.noted c.in_ok-write_once.ensures.once;
    }

-- a piece is within the credits of one handle
pub write_once-requires-clause-credits : goal.write_once-requires-clause-credits
write_once-requires-clause-credits g c =
    rw (← c.block_size.ensures.size, ← c.capacity.ensures.capacity) (piece_within _ _ (c.args.offset + c.loop-done.done) _ _ c.block_size.ensures.some
    c.piece_length-most.ensures.full (omega (arith, c.min-count.ensures)))

-- one piece was refused
pub returns-in_err-write_once-clause-err : goal.returns-in_err-write_once-clause-err
returns-in_err-write_once-clause-err g c =
    let p = err_from_is_err_and c.from_residual.result c.from_residual.ensures.1 in
    let full = rw (c.block_size.ensures.size, c.capacity.ensures.capacity) at c.piece_length-most.ensures.full in
    let some = rw c.block_size.ensures.size at c.block_size.ensures.some in
    let ends = piece_ends _ _ c.args.offset (length c.args.bytes.now) c.loop-done.done _ c.min-count.result (c.args.offset + c.loop-done.done + c.min-count.result) some c.requires.fits full
    c.min-count.ensures (omega arith) in
    let long : length (take (c.loop-done.done + c.min-count.result - c.loop-done.done) (drop c.loop-done.done c.args.bytes.now)) ≡ c.min-count.result = grind (arith, common_steps) in
    rw (p.1, p.2) (piece_refused g.D.Device.state _ _ c.args.offset (length c.args.bytes.now) c.loop-done.done c.min-count.result _ (search rules)
    (c.loop-done.invariant.begins c.loop-done-test.true) ends (rw long at c.in_err-write_once.ensures.err))

pub returns-in_err-write_once-clause-left : goal.returns-in_err-write_once-clause-left
returns-in_err-write_once-clause-left g c =
    any_err c.from_residual.result
    (some_bytes g.D.Device.state g.D.Device.honest g.J.JournalName.name _ c.args.offset c.loop-done.done c.min-count.result c.write_once.new.stopped c.args.bytes.now _
    c.loop-done.tickets.items c.write_once.new.tickets.items (search rules) c.loop-done.invariant.pieces (search rules) c.in_err-write_once.ensures.left)

pub returns-in_err-write_once-clause-noted : goal.returns-in_err-write_once-clause-noted
returns-in_err-write_once-clause-noted g c =
    noted_maybe _ c.loop-done.stopped c.write_once.new.stopped c.loop-done.tickets.items c.write_once.new.tickets.items c.write_once.ensures.kept
    c.loop-done.invariant.noted c.in_err-write_once.ensures.left

-- the handles so far are of such transactions
pub returns-in_err-write_once-clause-taken : goal.returns-in_err-write_once-clause-taken
returns-in_err-write_once-clause-taken g c = λ first. c.write_once.ensures.taken (c.loop-done.invariant.taken first)

pub returns-clause-taken : goal.returns-clause-taken
returns-clause-taken g c = c.loop-done.invariant.taken

-- all is written
pub returns-clause-pieces : goal.returns-clause-pieces
returns-clause-pieces g c =
    all_bytes g.D.Device.state g.D.Device.honest g.J.JournalName.name _ c.args.offset c.loop-done.done c.args.bytes.now c.loop-done.tickets.items c.loop-done-test.false c.loop-done.invariant.pieces
