use Rattle.std.proofs.Common.{◌≡◌, ◌↔◌, ◌∙◌, Some, None, refl, rules, sym}
use Rattle.std.proofs.lemmas.Bool.{true≢false}
use Rattle.journal_model.specs.declared.entry.Entry.TheVariants.{Copy, Revoke}
use Rattle.journal_model.specs.Transaction.{last_effect}
use Rattle.journal_world.specs.Front.{unfinished}
use Rattle.journal_world.specs.Journal.{Journal}
use Rattle.log_engine.specs.Engine.{HasPending}
use Rattle.journal_front.specs.Front.{MayTouch}
use Rattle.journal_steps.specs.Unreleased.{KeepsCopy}
use Rattle.journal_steps.specs.Unreleased.KeptUntold.{UntoldAborted, UntoldOutside}
use Rattle.journal_steps.proofs.Unreleased.{engine-keeps, front-keeps, front-revokes}
use Rattle.journal_steps.proofs.steps.keeps_copy.Goals as goal

pub returns-then-is_aborted-clause-err : goal.returns-then-is_aborted-clause-err
returns-then-is_aborted-clause-err g c = UntoldAborted (sym c.is_aborted.ensures ∙ c.if-is_aborted.true)

pub returns-then-not-may_touch-clause-err : goal.returns-then-not-may_touch-clause-err
returns-then-not-may_touch-clause-err g c =
    UntoldOutside (sym c.is_aborted.ensures ∙ c.if-is_aborted.false)
    (λ (may : MayTouch c.args.front.now c.args.block). true≢false (sym (c.may_touch.ensures.1 may) ∙ c.if-not-may_touch.true))

-- the front's last entry is a copy
pub returns-in-Some-Copy-clause-ok : goal.returns-in-Some-Copy-clause-ok
returns-in-Some-Copy-clause-ok g c =
    let j : Journal = record { front = c.args.front.now; engine = c.args.engine.now.engine } in
    let last : last_effect c.args.block (unfinished c.args.front.now) ≡ Some (Copy c.in-Some-Copy.field-0-0) = search rules in
    let kept : KeepsCopy j c.args.block = front-keeps j c.args.block c.requires c.recall_invariant.ensures.plain c.in-Some-Copy.field-0-0 last in
    record { running = sym c.is_aborted.ensures ∙ c.if-is_aborted.false; allowed = c.may_touch.ensures.0 c.if-not-may_touch.false; told = (λ yes. kept, λ is. refl) }

-- it is a revoke
pub returns-in-Some-Revoke-clause-ok : goal.returns-in-Some-Revoke-clause-ok
returns-in-Some-Revoke-clause-ok g c =
    let j : Journal = record { front = c.args.front.now; engine = c.args.engine.now.engine } in
    let last : last_effect c.args.block (unfinished c.args.front.now) ≡ Some Revoke = search rules in
    record {
      running = sym c.is_aborted.ensures ∙ c.if-is_aborted.false;
      allowed = c.may_touch.ensures.0 c.if-not-may_touch.false;
      told = (
        λ yes. absurd (true≢false (sym yes)),
        λ kept. absurd (front-revokes j c.args.block c.requires c.recall_invariant.ensures.plain last kept),
      );
    }

-- it has none
pub returns-in-None-clause-ok : goal.returns-in-None-clause-ok
returns-in-None-clause-ok g c =
    let j : Journal = record { front = c.args.front.now; engine = c.args.engine.now.engine } in
    let last : last_effect c.args.block (unfinished c.args.front.now) ≡ None = search rules in
    let told : HasPending j.engine c.args.block ↔ KeepsCopy j c.args.block = engine-keeps j c.args.block c.requires c.recall_invariant.ensures.plain last in
    record {
      running = sym c.is_aborted.ensures ∙ c.if-is_aborted.false;
      allowed = c.may_touch.ensures.0 c.if-not-may_touch.false;
      told = (λ yes. told.0 (c.has_pending.ensures.0 yes), λ kept. c.has_pending.ensures.1 (told.1 kept));
    }
