use Rattle.std.proofs.Common.{◌≡◌, inl, refl, sym, subst}
use Rattle.group_commit.specs.Close.{IsSealedInClose, closing}
use Rattle.log_epochs.specs.EngineWorld.Phase.{Shut}
use Rattle.journal_model.specs.declared.refusal.JournalError.TheVariants.{NotRunning}
use Rattle.script_client.specs.Ended.{IsEnded, WhyUnclosed}
use Rattle.script_client.specs.Ended.WhyUnclosed.{HandleIsOpen, IsRefused}
use Rattle.script_client.specs.Told.{ClientValue}
use Rattle.script_client.proofs.Closing.{close-ended, ends-ended, led-ended, left-closed, refused-sealed}
use Rattle.script_client.proofs.client.ScriptClient.close.Goals as goal

-- a handle is open: nothing was done
pub returns-then-has_open_handles-clause-ended : goal.returns-then-has_open_handles-clause-ended
returns-then-has_open_handles-clause-ended g c = λ honest.
    let device = c.into_parts.ensures.device in
    let old = c.self.inside.journal in
    let parts = c.into_parts.result in
    let led = c.self.invariant (subst g.D.Device.honest device honest) in
    subst (λ (v : ClientValue _). IsEnded g.H.HomeFact.holds v.operations (g.D.Device.state parts.device) parts.sealed.items c.self.inside.acknowledged) c.self.view_is
    (subst (λ (d : _). IsEnded g.H.HomeFact.holds c.self.inside.operations.now (g.D.Device.state d) parts.sealed.items c.self.inside.acknowledged) (sym device)
    (led-ended g.H.HomeFact.holds c.self.inside.operations.now old.journal (g.D.Device.state old.device) parts.sealed.items c.self.inside.acknowledged led c.into_parts.ensures.sealed))

-- the moves of the close follow
pub returns-in-Ok-clause-ended : goal.returns-in-Ok-clause-ended
returns-in-Ok-clause-ended g c = λ honest.
    let old = c.self.inside.journal in
    let parts = c.in-Ok.parts in
    subst (λ (v : ClientValue _). IsEnded g.H.HomeFact.holds v.operations (g.D.Device.state parts.device) parts.sealed.items c.self.inside.acknowledged) c.self.view_is
    (close-ended g.H.HomeFact.holds c.self.inside.operations.now old.journal (g.D.Device.state old.device) (g.D.Device.state parts.device) parts.sealed.items parts.committed c.self.inside.acknowledged
    (c.self.invariant (c.in-Ok.ensures.left.honest_before honest)) c.in-Ok.ensures.moves c.in-Ok.ensures.left.shape)

-- the log is clean
pub returns-in-Ok-clause-closed : goal.returns-in-Ok-clause-closed
returns-in-Ok-clause-closed g c = λ honest.
    let old = c.self.inside.journal in
    let parts = c.in-Ok.parts in
    left-closed g.H.HomeFact.holds c.self.inside.operations.now old.journal (g.D.Device.state old.device) (g.D.Device.state parts.device) parts.sealed.items c.self.inside.acknowledged
    (c.self.invariant (c.in-Ok.ensures.left.honest_before honest)) (c.in-Ok.ensures.clean honest) c.in-Ok.ensures.left.shape

-- the moves of a refused close follow
pub returns-in-Err-clause-ended : goal.returns-in-Err-clause-ended
returns-in-Err-clause-ended g c = λ honest.
    let old = c.self.inside.journal in
    let parts = c.in-Err.parts in
    subst (λ (v : ClientValue _). IsEnded g.H.HomeFact.holds v.operations (g.D.Device.state parts.device) parts.sealed.items c.self.inside.acknowledged) c.self.view_is
    (ends-ended g.H.HomeFact.holds c.self.inside.operations.now old.journal (g.D.Device.state old.device) (g.D.Device.state parts.device) parts.sealed.items parts.committed c.self.inside.acknowledged Shut
    (c.self.invariant (c.in-Err.ensures.left.honest_before honest)) c.in-Err.ensures.ends c.in-Err.ensures.left.shape)

-- why it is not closed
pub returns-then-has_open_handles-clause-refused : goal.returns-then-has_open_handles-clause-refused
returns-then-has_open_handles-clause-refused g c =
    subst (λ (v : ClientValue _). WhyUnclosed g.D.Device.state v.journal c.into_parts.result.device c.into_parts.result.sealed.items c.into_parts.result.committed NotRunning) c.self.view_is
    (HandleIsOpen (c.if-has_open_handles.ensures.some.0 refl) c.into_parts.ensures.device c.into_parts.ensures.sealed c.into_parts.ensures.committed refl)

pub returns-in-Err-clause-refused : goal.returns-in-Err-clause-refused
returns-in-Err-clause-refused g c =
    subst (λ (v : ClientValue _). WhyUnclosed g.D.Device.state v.journal c.in-Err.parts.device c.in-Err.parts.sealed.items c.in-Err.parts.committed c.in-Err.e) c.self.view_is
    (IsRefused c.in-Err.ensures.why)

-- what was sealed stays sealed
pub returns-then-has_open_handles-clause-sealed : goal.returns-then-has_open_handles-clause-sealed
returns-then-has_open_handles-clause-sealed g c =
    subst (λ (v : ClientValue _). IsSealedInClose v.journal.journal.front c.into_parts.result.sealed.items) c.self.view_is (inl c.into_parts.ensures.sealed)

-- all that a close seals is sealed
pub returns-in-Ok-clause-sealed : goal.returns-in-Ok-clause-sealed
returns-in-Ok-clause-sealed g c =
    subst (λ (v : ClientValue _). c.in-Ok.parts.sealed.items ≡ closing v.journal.journal.front) c.self.view_is c.in-Ok.ensures.all

-- or some of it is
pub returns-in-Err-clause-sealed : goal.returns-in-Err-clause-sealed
returns-in-Err-clause-sealed g c =
    subst (λ (v : ClientValue _). IsSealedInClose v.journal.journal.front c.in-Err.parts.sealed.items) c.self.view_is
    (refused-sealed g.D.Device.state c.self.inside.journal c.in-Err.parts.device c.in-Err.parts.sealed.items c.in-Err.parts.committed c.in-Err.e c.in-Err.ensures.why)
