use Rattle.serde_json.specs.View.{view}
use Rattle.journal_script.proofs.Serving.{clients-of}
use Rattle.journal_script.proofs.clients.read_clients.Goals as goal

-- they are the clients of the value that was read
pub returns-in-Some-clause-text : goal.returns-in-Some-clause-text
returns-in-Some-clause-text c =
    clients-of c.args.text.now (view c.in_ok-value.value) c.read_client_members.result c.in_ok-value.ensures c.read_client_members.ensures.has c.read_client_members.ensures.agrees
    c.read_client_members.ensures.defaults
