use Rattle.std.proofs.Common.{refl, sym, subst, ap, ◌∙◌}
use Rattle.std.specs.Prelude.{[]}
use Rattle.journal_world.specs.Engine.{Engine}
use Rattle.script_client.specs.Told.{running_world}
use Rattle.script_client.proofs.client.ScriptClient.new.Goals as goal

-- no move was made yet
pub invariant_of-result : goal.invariant_of-result
invariant_of-result g c = λ honest.
    let journal = c.in-Ok.journal in
    let opening = (g.D.Device.state c.args.opened.device).disk in
    let opened = subst g.D.Device.honest c.in-Ok.ensures.device honest in
    record {
      measures = ap (λ (e : Engine). e.shape) c.in-Ok.ensures.fresh.engine ∙ sym (ap (λ (d : _). (g.D.Device.state d).shape) c.in-Ok.ensures.device);
      opening = opening;
      fact = subst (λ (d : _). g.H.HomeFact.holds (g.D.Device.state d).shape opening) (sym c.in-Ok.ensures.device) (c.requires opened);
      start = running_world opening journal.journal (g.D.Device.state journal.device) [] [];
      begins = c.in-Ok.ensures.begins opened;
      moves = [];
      directs = [];
      written = λ b v one. absurd one;
      answered = [];
      leads = refl;
      greatest = refl;
    }
