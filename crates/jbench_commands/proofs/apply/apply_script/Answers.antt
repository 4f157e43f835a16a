use Rattle.std.proofs.Common.{rules, ◌∙◌, ap, subst, sym}
use Rattle.std.proofs.lemmas.Result.{IfErr-weaker, IfOk-weaker}
use Rattle.std.specs.Prelude.{IsOk}
use Rattle.std.specs.Io.Buffered.{line_writer_contents}
use Rattle.jbench_commands.specs.Applying.{IsDoneAfter, after_told, ending_told}
use Rattle.jbench_commands.specs.Unapplied.{IsUnappliedAfter}
use Rattle.jbench_commands.proofs.Staying.{was-ok}
use Rattle.jbench_commands.proofs.apply.apply_script.Goals as goal

-- all was done after the opening's line
pub returns-in-Ok-apply_operations-clause-done : goal.returns-in-Ok-apply_operations-clause-done
returns-in-Ok-apply_operations-clause-done g c =
    let did = c.in-Ok-apply_operations.ensures in
    let left = c.in-Ok-apply_operations.applied.left in
    let whole : IsOk c.in-Ok-apply_operations.applied.end →
    IsDoneAfter g.D.Device.state g.D.Device.honest c.args.opened c.args.prepared.operations.items (after_told c.args.words.now.keep_going c.args.words.now.make_room) (ending_told c.args.words.now.stay)
    left.device left.sealed.items left.acknowledged (line_writer_contents g.W.Write.contents c.args.prepared.out) = λ all. record {
      begun = line_writer_contents g.W.Write.contents c.say_opened.new.out;
      opening = search rules;
      end = c.in-Ok-apply_operations.applied.end;
      all = all;
      written = line_writer_contents g.W.Write.contents c.apply_operations.new.out;
      operated = rw (← c.deref.ensures.value, ← c.after_of.ensures, ← c.ending_of.ensures) did.operated;
      ends = λ close honest. was-ok c.in-Ok-apply_operations.applied.end all (did.says (c.ending_of.ensures ∙ close)) honest;
      honest_before = did.honest;
    } in
    IfOk-weaker c.left_of.result _ _ (λ done is. rw is.1 (whole is.0)) c.left_of.ensures.all

-- the journal was closed, if it had to be
pub returns-in-Ok-apply_operations-clause-closed : goal.returns-in-Ok-apply_operations-clause-closed
returns-in-Ok-apply_operations-clause-closed g c = λ stay.
    IfOk-weaker c.left_of.result _ _
    (λ done is. rw is.1 (was-ok c.in-Ok-apply_operations.applied.end is.0 (c.in-Ok-apply_operations.ensures.closed (c.ending_of.ensures ∙ ap ending_told stay)))) c.left_of.ensures.all

-- not all was done, and this is left
pub returns-in-Ok-apply_operations-clause-left : goal.returns-in-Ok-apply_operations-clause-left
returns-in-Ok-apply_operations-clause-left g c =
    let did = c.in-Ok-apply_operations.ensures in
    IfErr-weaker c.left_of.result _ _
    (λ e is.
    subst
    (λ left. IsUnappliedAfter g.D.Device.state g.D.Device.honest c.args.opened c.args.prepared.operations.items (after_told c.args.words.now.keep_going c.args.words.now.make_room) (ending_told c.args.words.now.stay) left)
    (sym is.1)
    (record {
      begun = line_writer_contents g.W.Write.contents c.say_opened.new.out;
      written = line_writer_contents g.W.Write.contents c.apply_operations.new.out;
      end = c.in-Ok-apply_operations.applied.end;
      refused = is.0;
      operated = rw (← c.deref.ensures.value, ← c.after_of.ensures, ← c.ending_of.ensures) did.operated;
      ended = rw (← c.deref.ensures.value) did.ended;
      honest_before = did.honest;
    })) c.left_of.ensures.err
