use Rattle.std.proofs.Common.{◌≡◌, ℕ, ap, arith, rules, subst, sym, length, ◌∙◌}
use Rattle.std.proofs.lemmas.Result.{err_from_is_err_and}
use Rattle.journal_model.specs.declared.refusal.JournalError.{JournalError}
use Rattle.journal_model.specs.declared.refusal.JournalError.TheVariants.{Memory}
use Rattle.journal_model.specs.Refusal.{number_of}
use Rattle.journal_world.specs.Front.{Front}
use Rattle.journal_front.specs.Front.{IsKeptOut}
use Rattle.journal_front.specs.Front.IsKeptOut.{NotOpen, OutOfHome, WhileAborted}
use Rattle.journal_front.specs.Values.{HandleValue}
use Rattle.journal_steps.specs.Journal.{Agrees}
use Rattle.journal_steps.specs.Legal.{KeepsLegal}
use Rattle.journal_steps.specs.Values.{JournalValue, together}
use Rattle.locked_journal.proofs.HeldReads.{held-did, held-side}
use Rattle.locked_journal.proofs.held.read_held.Goals as goal

-- Nothing changes for want of memory.
pub invariant_of-front : goal.invariant_of-front
invariant_of-front g c =
    let engine = c.front.inside.engine in
    subst (λ (f : Front). Agrees (together f engine).journal × KeepsLegal g.D.Device.honest (together f engine))
    (sym c.in_err-register_read.ensures.err.1) c.front.invariant

-- Front and engine still agree.
pub invariant_of-front-2 : goal.invariant_of-front-2
invariant_of-front-2 g c =
    let state = g.D.Device.state in
    let held = rw c.in-Some.is at c.in_ok-copy.ensures.ok in
    let buffer = c.requires ∙ ap (λ (v : JournalValue g.row.D.Denot). (state v.device).shape.block_size) (sym c.front.view_is) in
    let whole : length c.in-Some.copy ≡ length c.args.into.now = search rules in
    let side = held-side state g.D.Device.honest c.front.inside.front c.register_read.new.front c.front.inside.engine c.args.handle.now c.args.block c.in-Some.copy c.register_read.new.into c.args.into.now
    (record { agrees = c.front.invariant.0; plain = c.recall_invariant.ensures.plain; shape = c.recall_invariant.ensures.shape; legal = c.front.invariant.1 }) c.in_ok-admit.ensures.ok c.in_ok-register_read.ensures.«open» held buffer whole c.in_ok-register_read.ensures.ok.0 c.in_ok-register_read.ensures.ok.1 in
    (side.agrees, side.legal)

-- It is the machine's read.
pub returns-clause-ok : goal.returns-clause-ok
returns-clause-ok g c =
    let state = g.D.Device.state in
    let held = rw c.in-Some.is at c.in_ok-copy.ensures.ok in
    let buffer = c.requires ∙ ap (λ (v : JournalValue g.row.D.Denot). (state v.device).shape.block_size) (sym c.front.view_is) in
    let whole : length c.in-Some.copy ≡ length c.args.into.now = search rules in
    rw (← c.front.view_is)
    (held-did state g.D.Device.honest c.front.inside.front c.register_read.new.front c.front.inside.engine c.args.handle.now c.args.block c.in-Some.copy c.register_read.new.into c.args.into.now
    (record { agrees = c.front.invariant.0; plain = c.recall_invariant.ensures.plain; shape = c.recall_invariant.ensures.shape; legal = c.front.invariant.1 }) c.in_ok-admit.ensures.ok c.in_ok-register_read.ensures.«open» held buffer whole c.in_ok-register_read.ensures.ok.0 c.in_ok-register_read.ensures.ok.1)

-- No handle kept from the block lacks memory.
not-memory : (f : Front) (h : HandleValue) (b : ℕ) (e : JournalError) → IsKeptOut f h b e → e ≡ Memory → ⊥
not-memory f h b _ (WhileAborted a) is = let numbers : 3 ≡ 1 = ap number_of is in omega (arith, numbers)
not-memory f h b _ (OutOfHome a outside) is = let numbers : 8 ≡ 1 = ap number_of is in omega (arith, numbers)
not-memory f h b _ (NotOpen a may closed) is = let numbers : 4 ≡ 1 = ap number_of is in omega (arith, numbers)

pub returns-in_err-admit-clause-memory : goal.returns-in_err-admit-clause-memory
returns-in_err-admit-clause-memory g c =
    let p = err_from_is_err_and c.from_residual.result c.from_residual.ensures.1 in
    rw (p.1, p.2) (λ memory. absurd (not-memory c.front.inside.front c.args.handle.now c.args.block c.in_err-admit.field-0.0 c.in_err-admit.ensures.err memory))
