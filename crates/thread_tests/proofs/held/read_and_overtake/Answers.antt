use mir.Syntax.{named}
use denote.Exit as exit
use denote.Param.{param}
use denote.Param.Send.{AllSend, arg_send, param_send, sendable, shr_send}
use denote.Struct.Field.{shr_ref_field}
use Rattle.std.specs.Prelude.{[], ◌∷◌}
use Rattle.std.specs.contracts.sync.atomic.AtomicU64 as AtomicU64
use Rattle.std.proofs.Crossing.{crosses}
use Rattle.handle.specs.contracts.seat.Seat as Seat
use Rattle.journal_front.specs.contracts.record.Unrecorded as Unrecorded
use Rattle.journal_front.specs.contracts.record.UnrecordedRecord.TheImpl as kept
use Rattle.shared_journal.specs.contracts.journal.Journal as Journal
use Rattle.shared_journal.proofs.Sent.{closure_send, journal_sync, record_send, seat_send}
use Rattle.thread_tests.proofs.held.read_and_overtake.Lts as lts
use Rattle.thread_tests.proofs.held.read_and_overtake.Goals as goal

-- a closure that holds a journal, a seat and two words may go to another thread
pub join-read-requires-send-F : goal.join-read-requires-send-F
join-read-requires-send-F g c κs within =
    let runtime = (shr_ref_field (record { mir = named 6; lft = κs.1.1.1.1.1.1.0 }) (param 2 g.row.R) tt).row in
    let journal = Journal.the_row (param 0 g.row.J) (param 1 g.row.D) Unrecorded.the_row g.J.JournalName g.D.Device kept.ghosts in
    let shared = (shr_ref_field (record { mir = named 7; lft = κs.1.1.1.1.1.1.1.0 }) journal tt).row in
    let seat = Seat.the_row (param 0 g.row.J) g.J.JournalName in
    let word = (shr_ref_field (record { mir = named 8; lft = κs.1.1.1.1.1.1.1.1.0 }) AtomicU64.the_row tt).row in
    let other = (shr_ref_field (record { mir = named 9; lft = κs.1.1.1.1.1.1.1.1.1.0 }) AtomicU64.the_row tt).row in
    let all : AllSend (runtime ∷ shared ∷ seat ∷ word ∷ other ∷ []) = (
      shr_send _ _ (param 2 g.row.R) c.type_bounds.sync-R,
      (
        shr_send _ _ journal
            (journal_sync (param 0 g.row.J) (param 1 g.row.D) Unrecorded.the_row g.J.JournalName g.D.Device kept.ghosts c.type_bounds.send-J c.type_bounds.sync-J
            c.type_bounds.send-D record_send),
        (
          seat_send (param 0 g.row.J) g.J.JournalName c.type_bounds.send-J,
          (search (sendable, crosses) depth 40, (search (sendable, crosses) depth 40, tt)),
        ),
      ),
    ) in
    param_send 1
    (lts.arg-0-1 g.row.J g.row.D g.row.R g.J.laws g.D.laws g.R.laws g.J.JournalName g.J.JournalName-dict g.D.Device g.D.Device-dict g.R.Threads
    g.R.Threads-dict g.R.Wait g.R.Wait-dict κs)
    (arg_send _ exit.no _ (closure_send (116 ∷ 104 ∷ 114 ∷ 101 ∷ 97 ∷ 100 ∷ 95 ∷ 116 ∷ 101 ∷ 115 ∷ 116 ∷ 115 ∷ 58 ∷ 58 ∷ 104 ∷ 101 ∷ 108 ∷ 100 ∷ 58 ∷ 58 ∷ 102 ∷ 110 ∷ 58 ∷ 58 ∷ 114 ∷ 101 ∷ 97 ∷ 100 ∷ 95 ∷ 97 ∷ 110 ∷ 100 ∷ 95 ∷ 111 ∷ 118 ∷ 101 ∷ 114 ∷ 116 ∷ 97 ∷ 107 ∷ 101 ∷ 58 ∷ 58 ∷ 106 ∷ 111 ∷ 105 ∷ 110 ∷ 43 ∷ 97 ∷ 114 ∷ 103 ∷ 50 ∷ 43 ∷ 83 ∷ 101 ∷ 108 ∷ 102 ∷ []) (runtime ∷ shared ∷ seat ∷ word ∷ other ∷ []) all))
