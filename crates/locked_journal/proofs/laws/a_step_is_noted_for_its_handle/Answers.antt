use Rattle.locked_journal.proofs.Becoming.{extends, reads, revokes, stops, writes}
use Rattle.locked_journal.proofs.laws.a_step_is_noted_for_its_handle.Goals as goal

pub returns-clause-extend : goal.returns-clause-extend
returns-clause-extend c = extends

pub returns-clause-write : goal.returns-clause-write
returns-clause-write c = writes

pub returns-clause-revoke : goal.returns-clause-revoke
returns-clause-revoke c = revokes

pub returns-clause-read : goal.returns-clause-read
returns-clause-read c = reads

pub returns-clause-stop : goal.returns-clause-stop
returns-clause-stop c = λ f g h steps kept step. stops f g h steps kept (λ is. step)
