use Rattle.std.proofs.Common.{◌∙◌, ap, refl}
use Rattle.script_client.specs.Ended.StopsHandles.{NoneStops, OneStops}
use Rattle.script_client.specs.Told.{ClientValue}
use Rattle.script_client.proofs.InOrder.{ends-running, ends-sealed}
use Rattle.script_client.proofs.interpreter.Interpreter.into_stopped.Goals as goal

-- no handle was stopped yet
pub loop-slot-init : goal.loop-slot-init
loop-slot-init g c = record {
  operations = refl;
  left = record { device_is = refl; sealed_is = refl; shown_is = refl };
  stops = NoneStops c.args.self.client.journal;
  running = refl;
}

-- stopping a handle changes none of this
pub loop-slot-preserved-in-Open : goal.loop-slot-preserved-in-Open
loop-slot-preserved-in-Open g c =
    let left = c.loop-slot.invariant.left in
    let ends = c.stop.ensures.ends in
    let rest = c.stop.ensures.rest in
    record {
      operations = ap (λ (v : ClientValue _). v.operations) rest ∙ c.loop-slot.invariant.operations;
      left = record {
        device_is = ends.device ∙ left.device_is;
        sealed_is = ends-sealed g.D.Device.state c.in-Open.handle c.loop-slot.client.journal c.stop.new.self.journal ends ∙ left.sealed_is;
        shown_is = ap (λ (v : ClientValue _). v.shown) rest ∙ left.shown_is;
      };
      stops = OneStops c.in-Open.handle c.args.self.client.journal c.loop-slot.client.journal c.stop.new.self.journal c.loop-slot.invariant.stops ends;
      running = ends-running g.D.Device.state c.in-Open.handle c.loop-slot.client.journal c.stop.new.self.journal ends ∙ c.loop-slot.invariant.running;
    }
