use Rattle.std.proofs.Common.{refl, sym, ap, subst, ◌∙◌, ◌≡◌, ◌<◌, ℕ, Bool, true, false, List, length}
use Rattle.journal_model.specs.declared.number.Area.TheVariants.{Home}
use Rattle.journal_model.specs.Block.{IsAllowedBlock}
use Rattle.journal_model.specs.Disk.{Shape}
use Rattle.journal_world.specs.Checkpoint.{IsPending}
use Rattle.log_ledger.specs.Ledger.{engine_of}
use Rattle.log_ledger.proofs.Rounds.{placed-size}
use Rattle.log_ledger.proofs.Outcomes.{at-ok, count-err}
use Rattle.log_engine.specs.Engine.{EngineValue, ReadRefused}
use Rattle.log_engine.proofs.KeptClean.{same-clean}
use Rattle.log_engine.proofs.Reading.{aborted-sound, home-read, none-pending, pending-bytes, pending-read}
use Rattle.log_engine.proofs.Rounding.{aborted-runs}
use Rattle.log_engine.proofs.engine.Engine.read.Goals as goal

pub returns-then-self-clause-err : goal.returns-then-self-clause-err
returns-then-self-clause-err g c = rw (← c.self.view_is) (ReadRefused.ReadAborted c.if-self.true refl)

not-both : (b : Bool) → b ≡ true → b ≡ false → ⊥
not-both b is not = cc

pub is_allowed-requires : goal.is_allowed-requires
is_allowed-requires g c = c.self.invariant.0.plain.layout.0

pub returns-then-not-is_allowed-clause-err : goal.returns-then-not-is_allowed-clause-err
returns-then-not-is_allowed-clause-err g c =
    let shape = (g.D.Device.state c.self.inside.device).shape in
    let refused : IsAllowedBlock c.self.inside.ledger.layout shape.home_blocks c.args.block → ⊥ =
    λ allowed. not-both c.is_allowed.result
    (c.is_allowed.ensures.1 (subst (λ (n : ℕ). IsAllowedBlock c.self.inside.ledger.layout n c.args.block) (sym c.blocks-2.ensures) allowed))
    c.if-not-is_allowed.true in
    rw (← c.self.view_is) (ReadRefused.ReadOutside c.if-self.false refused refl)

pub returns-then-not-is_allowed-clause-untouched : goal.returns-then-not-is_allowed-clause-untouched
returns-then-not-is_allowed-clause-untouched g c = λ other. refl

pub copy-requires-clause-placed : goal.copy-requires-clause-placed
copy-requires-clause-placed g c =
    let shape = (g.D.Device.state c.self.inside.device).shape in
    let one = c.self.invariant.0.pending.placed c.args.block c.in-Some.version (sym c.in-Some.ensures.newest) in
    (shape, one.0, c.args.block, one.1, one.2)

pub copy_from_slice-requires : goal.copy_from_slice-requires
copy_from_slice-requires g c =
    let shape = (g.D.Device.state c.self.inside.device).shape in
    let e = engine_of shape c.self.inside.ledger in
    let runs = c.self.invariant.0 in
    let one = runs.pending.placed c.args.block c.in-Some.version (sym c.in-Some.ensures.newest) in
    let size = subst (λ (v : EngineValue g.row.D.Denot). length c.args.into.now ≡ (g.D.Device.state v.device).shape.block_size)
    (sym c.self.view_is) c.requires in
    size ∙ sym (ap length (c.copy.ensures shape one.0 c.args.block one.1 one.2) ∙ placed-size e one.0 c.args.block c.in-Some.version.place runs.plain one.2)

pub returns-in-Some-clause-may : goal.returns-in-Some-clause-may
returns-in-Some-clause-may g c =
    let shape = (g.D.Device.state c.self.inside.device).shape in
    let may = subst (λ (n : ℕ). IsAllowedBlock c.self.inside.ledger.layout n c.args.block) c.blocks-2.ensures
    (c.is_allowed.ensures.0 c.if-not-is_allowed.false) in
    rw (← c.self.view_is) (c.if-self.false, may)

pub returns-in-Some-clause-ok : goal.returns-in-Some-clause-ok
returns-in-Some-clause-ok g c =
    let state = g.D.Device.state c.self.inside.device in
    let e = engine_of state.shape c.self.inside.ledger in
    let runs = c.self.invariant.0 in
    let one = runs.pending.placed c.args.block c.in-Some.version (sym c.in-Some.ensures.newest) in
    let bytes = c.copy_from_slice.ensures.after ∙ c.copy.ensures state.shape one.0 c.args.block one.1 one.2 in
    rw (← c.self.view_is) (λ honest. pending-read e state.disk one.0 c.args.block c.in-Some.version.place _ runs.plain one.2 bytes, refl)

-- correct reads are not needed
pub returns-in-Some-clause-pending : goal.returns-in-Some-clause-pending
returns-in-Some-clause-pending g c =
    let state = g.D.Device.state c.self.inside.device in
    let e = engine_of state.shape c.self.inside.ledger in
    let runs = c.self.invariant.0 in
    let one = runs.pending.placed c.args.block c.in-Some.version (sym c.in-Some.ensures.newest) in
    let bytes = c.copy_from_slice.ensures.after ∙ c.copy.ensures state.shape one.0 c.args.block one.1 one.2 in
    rw (← c.self.view_is) (λ i v pending. (pending-bytes e one.0 i c.args.block c.in-Some.version.place _ v runs.plain one.2 bytes pending, refl))

pub read-requires-clause-there : goal.read-requires-clause-there
read-requires-clause-there g c =
    let shape = (g.D.Device.state c.self.inside.device).shape in
    let allowed = c.is_allowed.ensures.0 c.if-not-is_allowed.false in
    subst (λ (n : ℕ). n < shape.home_blocks) (sym c.block.view_is) (subst (λ (n : ℕ). c.args.block < n) c.blocks-2.ensures allowed.in_home)

-- a failed read aborts the engine
pub invariant_of-self : goal.invariant_of-self
invariant_of-self g c =
    let before = g.D.Device.state c.self.inside.device in
    let after = g.D.Device.state c.read.new.self in
    let l = c.self.inside.ledger in
    let stays = c.read.ensures.stays in (
      aborted-runs before.shape after.shape l stays.shape c.self.invariant.0,
      c.self.invariant.1 ∙ sym (ap (λ (s : Shape). s.block_size) stays.shape),
      λ honest. aborted-sound before.shape after.shape l before.disk after.disk stays.shape stays.disk (c.self.invariant.2 (c.read.ensures.honest honest)),
      λ honest. same-clean (engine_of before.shape l) _ before.disk after.disk refl refl refl stays.disk (c.self.invariant.3 (c.read.ensures.honest honest)),
      c.self.invariant.4,
      c.self.invariant.5,
    )

pub returns-then-is_err-clause-err : goal.returns-then-is_err-clause-err
returns-then-is_err-clause-err g c =
    let shape = (g.D.Device.state c.self.inside.device).shape in
    let l = c.self.inside.ledger in
    let failed = sym c.is_err.ensures.value ∙ c.if-is_err.true in
    let may = subst (λ (n : ℕ). IsAllowedBlock c.self.inside.ledger.layout n c.args.block) c.blocks-2.ensures
    (c.is_allowed.ensures.0 c.if-not-is_allowed.false) in
    let none = sym c.lookup.ensures.newest ∙ c.in_default.is in
    let unkept = λ (i : ℕ) (v : List ℕ) (pending : IsPending (engine_of shape l) i c.args.block v).
    none-pending (engine_of shape l) l.pending i c.args.block v c.self.invariant.0.pending none pending in
    rw (← c.self.view_is) (ReadRefused.ReadFailed c.if-self.false may unkept (ap (λ (s : Shape). engine_of s (record l { aborted = true })) c.read.ensures.stays.shape)
    (count-err _ _ c.read.result failed c.read.ensures.faults))

pub returns-clause-may : goal.returns-clause-may
returns-clause-may g c =
    let shape = (g.D.Device.state c.self.inside.device).shape in
    let may = subst (λ (n : ℕ). IsAllowedBlock c.self.inside.ledger.layout n c.args.block) c.blocks-2.ensures
    (c.is_allowed.ensures.0 c.if-not-is_allowed.false) in
    rw (← c.self.view_is) (c.if-self.false, may)

-- if no copy is pending, the block reads as home does
pub returns-clause-ok : goal.returns-clause-ok
returns-clause-ok g c =
    let before = g.D.Device.state c.self.inside.device in
    let l = c.self.inside.ledger in
    let worked = sym c.is_err.ensures.value ∙ c.if-is_err.false in
    let none = sym c.lookup.ensures.newest ∙ c.in_default.is in
    let read = at-ok c.read.result worked c.read.ensures.bytes in
    rw (← c.self.view_is) (
      λ honest. home-read (engine_of before.shape l) l.pending before.disk c.args.block _ c.self.invariant.0.pending none
          (c.self.invariant.2 (c.read.ensures.honest honest))
          (read honest ∙ ap (λ (n : ℕ). (before.disk Home n).reads) c.block.view_is),
      ap (λ (s : Shape). engine_of s l) c.read.ensures.stays.shape,
    )

-- no copy is pending
pub returns-clause-pending : goal.returns-clause-pending
returns-clause-pending g c =
    let before = g.D.Device.state c.self.inside.device in
    let l = c.self.inside.ledger in
    let none = sym c.lookup.ensures.newest ∙ c.in_default.is in
    rw (← c.self.view_is) (λ i v pending. absurd (none-pending (engine_of before.shape l) l.pending i c.args.block v c.self.invariant.0.pending none pending))
