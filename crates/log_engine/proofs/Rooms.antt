-- Making room for a coming batch keeps all that holds of the engine.
use Rattle.std.proofs.Common.{sym, ap, subst, ◌∙◌}
use Rattle.std.specs.Prelude.{◌≡◌, ℕ, List, drop}
use Rattle.journal_model.specs.declared.entry.Batch.{Batch}
use Rattle.journal_model.specs.declared.entry.Entry.{Entry}
use Rattle.journal_model.specs.Disk.{Disk, Shape}
use Rattle.block_tables.specs.Effects.{EffectsValue, effect_on}
use Rattle.journal_world.specs.Engine.{Engine}
use Rattle.journal_world.specs.Sound.{Sound}
use Rattle.log_ledger.specs.declared.ledger.Ledger.{Ledger}
use Rattle.log_ledger.specs.declared.plan.LogPlan.{LogPlan}
use Rattle.log_ledger.specs.Ledger.{HasPlan, Runs, engine_of}
use Rattle.log_ledger.specs.Text.{IsPlanOf, copies_at}
use Rattle.log_ledger.proofs.Advancing.{same-runs}
use Rattle.log_engine.specs.Close.{KeepsClean}
use Rattle.log_engine.specs.Engine.{HasEffects}
use Rattle.log_engine.proofs.Effects.{roomy-noted, same-noted}
use Rattle.log_engine.proofs.Plans.{same-planned}

-- a plan with more room has the same entries
roomy-plan : (entries : List (ℕ × Entry)) (plan new : LogPlan) → new.copies.items ≡ plan.copies.items → new.revokes.items ≡ plan.revokes.items →
    IsPlanOf entries plan → IsPlanOf entries new
roomy-plan entries plan new copies revokes is = record {
  copies = ap (copies_at entries) copies ∙ is.copies;
  revokes = revokes ∙ is.revokes;
}

-- so do ledger, plan and table with more room
pub roomy-engine : (W honest : Type 0) (shape : Shape) (disk : Disk) (l new : Ledger) (plan roomy : LogPlan) (table wide : EffectsValue) →
    ((s : Shape) → engine_of s new ≡ engine_of s l) → new.ring ≡ l.ring → new.pending ≡ l.pending → new.kept.items ≡ l.kept.items →
    roomy.copies.items ≡ plan.copies.items → roomy.revokes.items ≡ plan.revokes.items → ((b : ℕ) → effect_on wide b ≡ effect_on table b) →
    Runs shape l × W × (honest → Sound (engine_of shape l) disk) × (honest → KeepsClean (engine_of shape l) disk)
    × HasPlan (engine_of shape l) plan × HasEffects (engine_of shape l) table →
    Runs shape new × W × (honest → Sound (engine_of shape new) disk) × (honest → KeepsClean (engine_of shape new) disk)
    × HasPlan (engine_of shape new) roomy × HasEffects (engine_of shape new) wide
roomy-engine W honest shape disk l new plan roomy table wide same ring pending kept copies revokes effects knows =
    let e = engine_of shape l in
    let is = same shape in
    let accepted = ap (λ (x : Engine). x.accepted) is in
    let committed = ap (λ (x : Engine). x.committed) is in
    let planned : HasPlan e roomy = λ (b : Batch) stands. roomy-plan b.entries plan roomy copies revokes (knows.4 b stands) in
    let dropped = ap (λ (x : Engine). drop x.released x.accepted) is in (
      same-runs shape l new is ring pending (kept ∙ knows.0.kept ∙ sym dropped) knows.0,
      knows.1,
      λ h. subst (λ (x : Engine). Sound x disk) (sym is) (knows.2 h),
      λ h. subst (λ (x : Engine). KeepsClean x disk) (sym is) (knows.3 h),
      same-planned e (engine_of shape new) roomy accepted committed planned,
      same-noted e (engine_of shape new) wide accepted (roomy-noted e table wide effects knows.5),
    )
