use Rattle.std.proofs.Common.{arith, refl}
use Rattle.std.proofs.lemmas.Grind.{common_steps}
use Rattle.std.proofs.KnownBytes.{Consumes-trans}
use Rattle.nbd_server.proofs.handshake.read_option.Goals as goal

-- its data came too
pub returns-in_ok-data-in-Some : goal.returns-in_ok-data-in-Some
returns-in_ok-data-in-Some g c =
    let taken = c.in_ok-data-in-Some.ensures in
    record {
      header = c.in-Some.header;
      head = c.begin.new.into;
      data_bytes = taken.data_bytes;
      long = grind (arith, common_steps);
      is = c.in-Some.ensures;
      option_is = refl;
      data_long = taken.long;
      holds = taken.holds;
      next = Consumes-trans (g.I.Read.remaining c.args.input.now) (g.I.Read.remaining c.begin.new.input) (g.I.Read.remaining c.read_data.new.input) c.begin.new.into
          taken.data_bytes (c.in_ok-whole.ensures c.if-not-whole.false) taken.next;
    }
