use Rattle.serde_json.specs.View.{view}
use Rattle.journal_script.proofs.Texts.{script-of}
use Rattle.journal_script.proofs.reading.read.Goals as goal

-- it is the script of the value that was read
pub returns-in-Some-clause-script : goal.returns-in-Some-clause-script
returns-in-Some-clause-script c =
    script-of c.args.text.now (view c.in_ok-value.value) c.read_members.result c.in_ok-value.ensures c.read_members.ensures.has c.read_members.ensures.agrees c.read_members.ensures.defaults
