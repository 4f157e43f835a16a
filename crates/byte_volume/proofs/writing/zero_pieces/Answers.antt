use Rattle.std.proofs.Common.{◌+◌, arith, refl, rules}
use Rattle.std.proofs.lemmas.Result.{err_from_is_err_and}
use Rattle.byte_volume.proofs.Pieces.{all_zeros, more_zeros, no_byte, some_zeros, zeros_so_far}
use Rattle.byte_volume.proofs.Refusals.{piece_refused}
use Rattle.byte_volume.proofs.TicketLists.{any_err, none_noted, noted_added, noted_maybe}
use Rattle.byte_volume.proofs.WholeBlocks.{piece_ends, piece_within}
use Rattle.byte_volume.proofs.writing.zero_pieces.Goals as goal

-- nothing is written
pub loop-done-init : goal.loop-done-init
loop-done-init g c = record {
  within = omega arith;
  kept = omega arith;
  taken = λ first. first;
  begins = λ more cut. refl;
  pieces = no_byte g.D.Device.state g.D.Device.honest g.J.JournalName.name _ c.args.offset c.args.tickets.now.items c.requires.empty;
  noted = none_noted c.args.stopped.now c.args.tickets.now.items c.requires.empty;
}

-- one more piece
pub loop-done-preserved : goal.loop-done-preserved
loop-done-preserved g c =
    let full = rw (c.block_size.ensures.size, c.capacity.ensures.capacity) at c.piece_length-most.ensures.full in
    let some = rw c.block_size.ensures.size at c.block_size.ensures.some in
    let ends = piece_ends _ _ c.args.offset c.args.count c.loop-done.done _ c.min-some.result (c.args.offset + (c.loop-done.done + c.min-some.result)) some c.requires.fits full
    c.min-some.ensures (omega arith) in
    record {
      within = search rules;
      kept = search rules;
      taken = λ first. c.zero_once.ensures.taken (c.loop-done.invariant.taken first);
      begins = λ more cut. absurd (omega (arith, cut, ends more));
      pieces = more_zeros g.D.Device.state g.D.Device.honest g.J.JournalName.name _ c.args.offset c.loop-done.done c.min-some.result c.zero_once.new.stopped c.loop-done.tickets.items
          c.zero_once.new.tickets.items c.loop-done.invariant.pieces c.in_ok-zero_once.ensures.once;
      noted = noted_added _ c.loop-done.stopped c.zero_once.new.stopped c.loop-done.tickets.items c.zero_once.new.tickets.items c.zero_once.ensures.kept
          c.loop-done.invariant.noted c.in_ok-zero_once.ensures.once;
    }

-- a piece is within the credits of one handle
pub zero_once-requires-clause-credits : goal.zero_once-requires-clause-credits
zero_once-requires-clause-credits g c =
    rw (← c.block_size.ensures.size, ← c.capacity.ensures.capacity) (piece_within _ _ (c.args.offset + c.loop-done.done) _ _ c.block_size.ensures.some
    c.piece_length-most.ensures.full (omega (arith, c.min-some.ensures)))

-- whoever asked has left
pub returns-in-Some-clause-early : goal.returns-in-Some-clause-early
returns-in-Some-clause-early g c =
    zeros_so_far g.D.Device.state g.D.Device.honest g.J.JournalName.name _ c.args.offset c.loop-done.done c.args.count c.loop-done.tickets.items c.loop-done.invariant.within
    c.loop-done.invariant.pieces

-- one piece was refused
pub returns-in_err-zero_once-clause-err : goal.returns-in_err-zero_once-clause-err
returns-in_err-zero_once-clause-err g c =
    let p = err_from_is_err_and c.from_residual.result c.from_residual.ensures.1 in
    let full = rw (c.block_size.ensures.size, c.capacity.ensures.capacity) at c.piece_length-most.ensures.full in
    let some = rw c.block_size.ensures.size at c.block_size.ensures.some in
    let ends = piece_ends _ _ c.args.offset c.args.count c.loop-done.done _ c.min-some.result (c.args.offset + c.loop-done.done + c.min-some.result) some c.requires.fits full
    c.min-some.ensures (omega arith) in
    rw (p.1, p.2) (piece_refused g.D.Device.state _ _ c.args.offset c.args.count c.loop-done.done c.min-some.result _ (search rules)
    (c.loop-done.invariant.begins c.loop-done-test.true) ends c.in_err-zero_once.ensures.err)

pub returns-in_err-zero_once-clause-left : goal.returns-in_err-zero_once-clause-left
returns-in_err-zero_once-clause-left g c =
    any_err c.from_residual.result
    (some_zeros g.D.Device.state g.D.Device.honest g.J.JournalName.name _ c.args.offset c.loop-done.done c.min-some.result c.args.count c.zero_once.new.stopped c.loop-done.tickets.items
    c.zero_once.new.tickets.items (search rules) c.loop-done.invariant.pieces c.in_err-zero_once.ensures.left)

pub returns-in_err-zero_once-clause-noted : goal.returns-in_err-zero_once-clause-noted
returns-in_err-zero_once-clause-noted g c =
    noted_maybe _ c.loop-done.stopped c.zero_once.new.stopped c.loop-done.tickets.items c.zero_once.new.tickets.items c.zero_once.ensures.kept
    c.loop-done.invariant.noted c.in_err-zero_once.ensures.left

-- the handles so far are of such transactions
pub returns-in_err-zero_once-clause-taken : goal.returns-in_err-zero_once-clause-taken
returns-in_err-zero_once-clause-taken g c = λ first. c.zero_once.ensures.taken (c.loop-done.invariant.taken first)

pub returns-clause-taken : goal.returns-clause-taken
returns-clause-taken g c = c.loop-done.invariant.taken

-- all is written
pub returns-clause-pieces : goal.returns-clause-pieces
returns-clause-pieces g c = λ _.
    all_zeros g.D.Device.state g.D.Device.honest g.J.JournalName.name _ c.args.offset c.loop-done.done c.args.count c.loop-done.tickets.items
    (omega (arith, c.loop-done.invariant.within, c.loop-done-test.false)) c.loop-done.invariant.pieces
