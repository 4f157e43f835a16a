use Rattle.std.proofs.Common.{◌≡◌, ◌∙◌, sym, ap, subst, ⊎_elim, take}
use Rattle.std.specs.Prelude.{List, Contains}
use Rattle.std.specs.BTreeSet.{keys}
use Rattle.std.proofs.lemmas.List.{take_all}
use Rattle.std.proofs.lemmas.List.Elements.{Contains-push_cases}
use Rattle.journal_model.proofs.ListElements.{take-more_read}
use Rattle.journal_script.specs.declared.script.Operation.{Operation}
use Rattle.journal_script.specs.Named.{HasDirects, block_in}
use Rattle.journal_script.proofs.Naming.{directs-more}
use Rattle.journal_script.proofs.script.Script.named_blocks.Goals as goal

-- one more operation is noted
pub loop-operation-preserved : goal.loop-operation-preserved
loop-operation-preserved c =
    let all = c.deref-operation-items.result.now in
    let i = c.loop-operation.operation-index in
    let one = c.operation-item.result in
    let more = take-more_read all i one c.loop-operation-test.true c.operation-item.is in
    let direct = c.in_ok-note_direct.ensures in (
      λ operation b has is there.
          ⊎_elim
          (λ (old : Contains (take i all) operation). c.in_ok-note_block.ensures.keeps b (c.loop-operation.invariant.0 operation b old is there))
          (λ (new : one ≡ operation). c.in_ok-note_block.ensures.notes b (ap block_in new ∙ is) there)
          (Contains-push_cases (take i all) one operation (subst (λ (ops : List Operation). Contains ops operation) more has)),
      subst (λ (ops : List Operation). HasDirects ops (keys c.note_direct.new.directs)) (sym more)
          (directs-more (take i all) one (keys c.loop-operation.directs) (keys c.note_direct.new.directs) c.loop-operation.invariant.1 direct.keeps direct.notes direct.no_others),
    )

pub returns : goal.returns
returns c =
    let whole = sym c.deref-operation-items.ensures.value ∙ sym (take_all c.loop-operation.operation-index _ c.loop-operation-test.false) in
    record {
      blocks = λ operation b has is there. c.loop-operation.invariant.0 operation b (subst (λ (ops : List Operation). Contains ops operation) whole has) is there;
      directs = subst (λ (ops : List Operation). HasDirects ops (keys c.loop-operation.directs)) (sym whole) c.loop-operation.invariant.1;
    }
