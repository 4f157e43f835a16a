use Rattle.std.proofs.Common.{refl, sym, ap, subst, ◌≡◌, ℕ, Bool, true, false, length, Some}
use Rattle.journal_model.specs.declared.number.Area.TheVariants.{Home}
use Rattle.journal_model.specs.Block.{IsAllowedBlock}
use Rattle.journal_world.specs.Call.Call.{Write}
use Rattle.journal_world.specs.Direct.{DirectCall, IsLeftToHome}
use Rattle.journal_world.specs.Direct.DirectCall.{WriteDirect}
use Rattle.journal_world.specs.Sound.{Sound}
use Rattle.log_ledger.specs.Ledger.{engine_of}
use Rattle.log_engine.specs.Direct.{DirectWriteRefused}
use Rattle.log_engine.specs.Engine.{EngineValue}
use Rattle.block_device.proofs.OneCall.{no-call}
use Rattle.log_engine.proofs.Calls.{on-ok}
use Rattle.log_engine.proofs.Directs.{during-write, each-write, write-lost}
use Rattle.log_engine.proofs.LeftBlocks.{table-told}
use Rattle.log_engine.proofs.engine.Engine.write_direct.Goals as goal

not-both : (b : Bool) → b ≡ true → b ≡ false → ⊥
not-both b is not = cc

pub returns-then-self-clause-err : goal.returns-then-self-clause-err
returns-then-self-clause-err g c = rw (← c.self.view_is) (DirectWriteRefused.WriteAborted c.if-self.true refl)

-- what holds now holds at the one moment
pub returns-then-self-clause-device : goal.returns-then-self-clause-device
returns-then-self-clause-device g c = rw (← c.self.view_is) (no-call (λ honest. during-write _ _ _ _ (c.self.invariant.2 honest)))

pub returns-then-not-is_allowed-clause-err : goal.returns-then-not-is_allowed-clause-err
returns-then-not-is_allowed-clause-err g c =
    let shape = (g.D.Device.state c.self.inside.device).shape in
    let refused : IsAllowedBlock c.self.inside.ledger.layout shape.home_blocks c.args.block → ⊥ =
    λ allowed. not-both c.is_allowed.result
    (c.is_allowed.ensures.1 (subst (λ (n : ℕ). IsAllowedBlock c.self.inside.ledger.layout n c.args.block) (sym c.blocks-2.ensures) allowed))
    c.if-not-is_allowed.true in
    rw (← c.self.view_is) (DirectWriteRefused.WriteOutside c.if-self.false refused refl)

pub returns-then-not-is_allowed-clause-device : goal.returns-then-not-is_allowed-clause-device
returns-then-not-is_allowed-clause-device g c = rw (← c.self.view_is) (no-call (λ honest. during-write _ _ _ _ (c.self.invariant.2 honest)))

pub returns-then-not-is_left_to_home-clause-err : goal.returns-then-not-is_left_to_home-clause-err
returns-then-not-is_left_to_home-clause-err g c =
    let shape = (g.D.Device.state c.self.inside.device).shape in
    let e = engine_of shape c.self.inside.ledger in
    let may = subst (λ (n : ℕ). IsAllowedBlock c.self.inside.ledger.layout n c.args.block) c.blocks-2.ensures
    (c.is_allowed.ensures.0 c.if-not-is_allowed.false) in
    let told = table-told e c.self.inside.effects c.args.block _ c.self.invariant.0.plain c.self.invariant.5 c.next_number.ensures in
    let refused : IsLeftToHome e c.args.block → ⊥ =
    λ left. not-both c.is_left_to_home.result (c.is_left_to_home.ensures.1 (told.1 left)) c.if-not-is_left_to_home.true in
    rw (← c.self.view_is) (DirectWriteRefused.WriteNotDirect c.if-self.false may refused refl)

pub returns-then-not-is_left_to_home-clause-device : goal.returns-then-not-is_left_to_home-clause-device
returns-then-not-is_left_to_home-clause-device g c = rw (← c.self.view_is) (no-call (λ honest. during-write _ _ _ _ (c.self.invariant.2 honest)))

pub call_directly-requires-clause-direct : goal.call_directly-requires-clause-direct
call_directly-requires-clause-direct g c =
    let shape = (g.D.Device.state c.self.inside.device).shape in
    let e = engine_of shape c.self.inside.ledger in
    let v = c.args.bytes.now in
    let may = subst (λ (n : ℕ). IsAllowedBlock c.self.inside.ledger.layout n c.args.block) c.blocks-2.ensures
    (c.is_allowed.ensures.0 c.if-not-is_allowed.false) in
    let told = table-told e c.self.inside.effects c.args.block _ c.self.invariant.0.plain c.self.invariant.5 c.next_number.ensures in
    let left = told.0 (c.is_left_to_home.ensures.0 c.if-not-is_left_to_home.false) in
    let size = subst (λ (x : EngineValue g.row.D.Denot). length v ≡ (g.D.Device.state x.device).shape.block_size) (sym c.self.view_is) c.requires in
    let call : DirectCall e (Write Home c.block.inside.0 v) =
    subst (λ (n : ℕ). DirectCall e (Write Home n v)) (sym c.block.view_is) (WriteDirect c.args.block v left may size) in
    (Write Home c.block.inside.0 v, refl, subst (λ (x : EngineValue g.row.D.Denot). DirectCall x.engine (Write Home c.block.inside.0 v)) c.self.view_is call)

pub returns-clause-may : goal.returns-clause-may
returns-clause-may g c =
    let shape = (g.D.Device.state c.self.inside.device).shape in
    let e = engine_of shape c.self.inside.ledger in
    let may = subst (λ (n : ℕ). IsAllowedBlock c.self.inside.ledger.layout n c.args.block) c.blocks-2.ensures
    (c.is_allowed.ensures.0 c.if-not-is_allowed.false) in
    let told = table-told e c.self.inside.effects c.args.block _ c.self.invariant.0.plain c.self.invariant.5 c.next_number.ensures in
    let left = told.0 (c.is_left_to_home.ensures.0 c.if-not-is_left_to_home.false) in
    rw (← c.self.view_is) (on-ok c.call_directly.result (c.if-self.false, may, left))

pub returns-clause-err : goal.returns-clause-err
returns-clause-err g c =
    let made = c.call_directly.ensures in
    let v = c.args.bytes.now in
    write-lost g.D.Device.state c.args.self.now c.call_directly.new.self c.call_directly.result c.args.block v
    (made.err (Write Home c.args.block v) (ap (λ (n : ℕ). Some (Write Home n v)) c.block.view_is)) made.failed made.faults

pub returns-clause-device : goal.returns-clause-device
returns-clause-device g c =
    let made = c.call_directly.ensures in
    let v = c.args.bytes.now in
    let sound : g.D.Device.honest c.args.self.now.device → Sound c.args.self.now.engine (g.D.Device.state c.args.self.now.device).disk =
    rw (← c.self.view_is) c.self.invariant.2 in
    let named = ap (λ (n : ℕ). Some (Write Home n v)) c.block.view_is in
    record {
      shape = made.shape;
      moments = λ honest.
          each-write c.args.self.now.engine c.args.block v c.call_directly.result c.call_directly.new.self.engine _ _ made.one (sound honest)
          (made.ok (Write Home c.args.block v) named) (made.err (Write Home c.args.block v) named);
      one = made.one;
      calls = made.calls;
      honest = made.honest;
    }
