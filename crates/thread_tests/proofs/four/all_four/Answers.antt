use mir.Syntax.{named}
use denote.Exit as exit
use denote.Param.{param}
use denote.Param.Send.{AllSend, arg_send, param_send, shr_send}
use denote.Struct.Field.{shr_ref_field}
use Rattle.std.specs.Prelude.{[], ◌∷◌}
use Rattle.handle.specs.contracts.seat.Seat as Seat
use Rattle.shared_journal.specs.contracts.journal.Journal as Journal
use Rattle.shared_journal.proofs.Sent.{closure_send, journal_sync, seat_send}
use Rattle.thread_tests.proofs.four.all_four.Lts as lts
use Rattle.thread_tests.proofs.four.all_four.Goals as goal

-- a closure that holds a journal and two seats may go to another thread
pub join-first-requires-send-F : goal.join-first-requires-send-F
join-first-requires-send-F g c κs within =
    let runtime = (shr_ref_field (record { mir = named 6; lft = κs.1.1.1.1.1.1.0 }) (param 3 g.row.R) tt).row in
    let journal = Journal.the_row (param 0 g.row.J) (param 1 g.row.D) (param 2 g.row.K) g.J.JournalName g.D.Device g.K.Record in
    let shared = (shr_ref_field (record { mir = named 7; lft = κs.1.1.1.1.1.1.1.0 }) journal tt).row in
    let seat = Seat.the_row (param 0 g.row.J) g.J.JournalName in
    let all : AllSend (runtime ∷ shared ∷ seat ∷ seat ∷ []) = (
      shr_send _ _ (param 3 g.row.R) c.type_bounds.sync-R,
      (
        shr_send _ _ journal
            (journal_sync (param 0 g.row.J) (param 1 g.row.D) (param 2 g.row.K) g.J.JournalName g.D.Device g.K.Record c.type_bounds.send-J c.type_bounds.sync-J
            c.type_bounds.send-D c.type_bounds.send-K),
        (seat_send (param 0 g.row.J) g.J.JournalName c.type_bounds.send-J, (seat_send (param 0 g.row.J) g.J.JournalName c.type_bounds.send-J, tt)),
      ),
    ) in
    param_send 1
    (lts.arg-0-1 g.row.J g.row.D g.row.K g.row.R g.J.laws g.D.laws g.K.laws g.R.laws g.J.JournalName g.J.JournalName-dict g.D.Device g.D.Device-dict
    g.K.Record g.K.Record-dict g.R.Threads g.R.Threads-dict g.R.Wait g.R.Wait-dict g.K.Destruct-dict κs)
    (arg_send _ exit.no _ (closure_send (116 ∷ 104 ∷ 114 ∷ 101 ∷ 97 ∷ 100 ∷ 95 ∷ 116 ∷ 101 ∷ 115 ∷ 116 ∷ 115 ∷ 58 ∷ 58 ∷ 102 ∷ 111 ∷ 117 ∷ 114 ∷ 58 ∷ 58 ∷ 102 ∷ 110 ∷ 58 ∷ 58 ∷ 97 ∷ 108 ∷ 108 ∷ 95 ∷ 102 ∷ 111 ∷ 117 ∷ 114 ∷ 58 ∷ 58 ∷ 106 ∷ 111 ∷ 105 ∷ 110 ∷ 43 ∷ 97 ∷ 114 ∷ 103 ∷ 50 ∷ 43 ∷ 83 ∷ 101 ∷ 108 ∷ 102 ∷ []) (runtime ∷ shared ∷ seat ∷ seat ∷ []) all))
