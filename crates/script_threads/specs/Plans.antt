-- How a client of a script is translated for the service.
use Rattle.std.specs.Prelude.{◌≡◌, ℕ, List, map, Vec}
use Rattle.std.specs.Global.{Global}
use Rattle.std.specs.List.{AllZip}
use Rattle.journal_model.specs.declared.transaction.Step.{Step}
use Rattle.journal_script.specs.declared.clients.ClientHandle.{ClientHandle}
use Rattle.journal_script.specs.declared.clients.ClientTouch.{ClientTouch}
use Rattle.journal_script.specs.declared.clients.ClientTouch.TheVariants.{Write, Revoke}
use Rattle.script_client.specs.Performed.{block_from}
use Rattle.volume_service.specs.declared.plan.HandlePlan.{HandlePlan}
use Rattle.volume_service.specs.declared.plan.Touch.{Touch}
use Rattle.volume_service.specs.declared.plan.Touch.TheVariants.{Write as PlanWrite, Revoke as PlanRevoke}
use Rattle.volume_service.specs.Plan.{touch_step}

-- A touch with this block size: a written block has the script's bytes, followed by zeros.
abbrev pub planned : ℕ → ClientTouch → Touch
planned size (Write b bytes) = PlanWrite b (block_from size bytes.items)
planned size (Revoke b) = PlanRevoke b

-- The plan has the same credits, the same touches in the same order, and waits as the script does.
pub record IsPlanOf (size : ℕ) (handle : ClientHandle) (plan : HandlePlan) : Type 0 where
  pub credits : plan.credits ≡ handle.credits
  pub touches : plan.touches.items ≡ map (planned size) handle.touches.items
  pub waits : plan.waits ≡ handle.waits

-- The same for all handles of each client.
abbrev pub ArePlansOf : ℕ → List (Vec ClientHandle Global) → List (Vec HandlePlan Global) → Type 0
ArePlansOf size clients plans = AllZip (λ c p. AllZip (IsPlanOf size) c.items p.items) clients plans

-- The steps that handle n makes if it does what the script says.
abbrev pub script_steps : (size n : ℕ) → ClientHandle → List Step
script_steps size n handle = map (λ t. touch_step n (planned size t)) handle.touches.items
