use Rattle.std.proofs.lemmas.Grind.{common_steps}
use Rattle.std.proofs.Common.{arith}
use Rattle.nbd_server.proofs.asked.Asked.next.Goals as goal

-- its bytes came
pub returns-in-Some : goal.returns-in-Some
returns-in-Some g c = record {
  bytes = c.begin.new.into;
  long = grind (arith, common_steps);
  is = c.in-Some.ensures;
  next = c.in_ok-whole.ensures c.if-not-whole.false;
}
