use Rattle.block_device.proofs.OneCall.{same-device}
use Rattle.journal_steps.proofs.Turning.{during-stay, opens-now}
use Rattle.journal_steps.proofs.steps.commit_turn.Goals as goal

-- a seal, and its refusal, call no device: what holds before holds at the one moment
pub returns-in_err-turn-clause-device : goal.returns-in_err-turn-clause-device
returns-in_err-turn-clause-device g c =
    same-device c.seal_due.ensures.device
    (λ honest. during-stay _ _ (opens-now _ _ c.requires.agrees (c.recall_invariant.ensures.opens honest)))

pub returns-in-Some-clause-device : goal.returns-in-Some-clause-device
returns-in-Some-clause-device g c =
    same-device c.seal_due.ensures.device
    (λ honest. during-stay _ _ (opens-now _ _ c.requires.agrees (c.recall_invariant.ensures.opens honest)))
