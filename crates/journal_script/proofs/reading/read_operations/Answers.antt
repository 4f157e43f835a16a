use Rattle.std.proofs.Common.{List, arith, map, rules, subst}
use Rattle.std.proofs.lemmas.List.{take_all}
use Rattle.serde_json.specs.View.{view}
use Rattle.serde_json.specs.declared.value.Value.{Value}
use Rattle.journal_script.specs.Text.{AreOperations}
use Rattle.journal_script.specs.Text.AreOperations.{NoMore}
use Rattle.journal_script.proofs.Texts.{one-more}
use Rattle.journal_script.proofs.reading.read_operations.Goals as goal

-- none was read yet
pub loop-value-init : goal.loop-value-init
loop-value-init c = record { count = search rules; are = rw c.in_ok-operations.ensures.items NoMore }

-- one more was
pub loop-value-preserved : goal.loop-value-preserved
loop-value-preserved c = record {
  count = search rules;
  are = rw c.in_ok-push-in-Ok.ensures.items
      (one-more c.loop-value.operations.items c.args.list.now c.loop-value.value-index c.in-Ok.operation c.value-item.result c.loop-value-test.true c.value-item.is c.loop-value.invariant.are c.in-Ok.ensures);
}

-- all were
pub returns-clause-are : goal.returns-clause-are
returns-clause-are c =
    subst (λ (values : List Value). AreOperations c.loop-value.operations.items (map view values)) (take_all c.loop-value.value-index c.args.list.now (omega (arith, c.loop-value-test.false)))
    c.loop-value.invariant.are
