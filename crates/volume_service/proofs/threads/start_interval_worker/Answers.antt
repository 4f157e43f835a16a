use mir.Syntax.{named}
use denote.Exit as exit
use denote.Param.{param}
use denote.Param.Send.{AllSend, arg_send, param_send, shr_send}
use denote.Ref.{NamedLft}
use denote.Struct.Field.{shr_ref_field}
use Rattle.std.specs.Prelude.{[], ◌∷◌}
use Rattle.shared_journal.proofs.Sent.{closure_send}
use Rattle.volume_service.specs.contracts.workers.IntervalWorker as IntervalWorker
use Rattle.volume_service.proofs.Sending.{interval_worker_send}
use Rattle.volume_service.specs.Plan.ServeRefused.{NoMemory}
use Rattle.volume_service.proofs.threads.start_interval_worker.Lts as lts
use Rattle.volume_service.proofs.threads.start_interval_worker.Goals as goal

-- The worker may be sent.
pub spawn-requires-send-F : goal.spawn-requires-send-F
spawn-requires-send-F g c κs within =
    let a : NamedLft = record { mir = named 5; lft = κs.1.1.1.1.1.0 } in
    let worker = IntervalWorker.the_row a (param 1 g.row.J) (param 2 g.row.D) (param 3 g.row.R) (param 4 g.row.V) g.J.JournalName g.D.Device g.R.Record in
    let runtime = (shr_ref_field (record { mir = named 6; lft = κs.1.1.1.1.1.1.0 }) (param 5 g.row.W) tt).row in
    let all : AllSend (worker ∷ runtime ∷ []) = (
      interval_worker_send (param 1 g.row.J) (param 2 g.row.D) (param 3 g.row.R) g.J.JournalName g.D.Device g.R.Record c.type_bounds.send-J c.type_bounds.sync-J c.type_bounds.send-D
          c.type_bounds.send-R (param 4 g.row.V) c.type_bounds.sync-V a,
      (shr_send _ _ (param 5 g.row.W) c.type_bounds.sync-W, tt),
    ) in
    param_send 1
    (lts.arg-0-1 g.row.E g.row.J g.row.D g.row.R g.row.V g.row.W g.E.laws g.J.laws g.D.laws g.R.laws g.V.laws g.W.laws g.J.JournalName g.J.JournalName-dict g.D.Device g.D.Device-dict
    g.R.Record g.R.Record-dict g.V.Interval g.V.Interval-dict g.W.Wait g.W.Wait-dict g.R.Destruct-dict κs)
    (arg_send _ exit.no _ (closure_send (118 ∷ 111 ∷ 108 ∷ 117 ∷ 109 ∷ 101 ∷ 95 ∷ 115 ∷ 101 ∷ 114 ∷ 118 ∷ 105 ∷ 99 ∷ 101 ∷ 58 ∷ 58 ∷ 116 ∷ 104 ∷ 114 ∷ 101 ∷ 97 ∷ 100 ∷ 115 ∷ 58 ∷ 58 ∷ 102 ∷ 110 ∷ 58 ∷ 58 ∷ 115 ∷ 116 ∷ 97 ∷ 114 ∷ 116 ∷ 95 ∷ 105 ∷ 110 ∷ 116 ∷ 101 ∷ 114 ∷ 118 ∷ 97 ∷ 108 ∷ 95 ∷ 119 ∷ 111 ∷ 114 ∷ 107 ∷ 101 ∷ 114 ∷ 58 ∷ 58 ∷ 115 ∷ 112 ∷ 97 ∷ 119 ∷ 110 ∷ 43 ∷ 83 ∷ 101 ∷ 108 ∷ 102 ∷ []) (worker ∷ runtime ∷ []) all))

pub returns : goal.returns
returns g c = NoMemory
