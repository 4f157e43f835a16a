-- Lemmas: a client may go to a thread. They stand apart, since a search over all of it at once comes to its limits.
use denote.RattleType.{RattleType}
use denote.Ref.{NamedLft}
use denote.Param.Send.{IsSend, IsSync, sendable}
use Rattle.std.proofs.Crossing.{crosses}
use Rattle.commit_times.specs.contracts.client.Changer as Changer
use Rattle.commit_times.specs.contracts.client.SharedState as SharedState

module _ (C H : RattleType) (yc : IsSync C) (sh : IsSend H) where
  -- what all clients share
  shared_sync : (a : NamedLft) → IsSync (SharedState.the_row a C H)
  shared_sync a = search (sendable, crosses) depth 400 fits 200000

  pub changer_send : (a : NamedLft) → IsSend (Changer.the_row a C H)
  changer_send a = search (shared_sync, sendable, crosses) depth 400 fits 200000
