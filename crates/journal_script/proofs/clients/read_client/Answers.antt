use Rattle.journal_script.specs.Clients.{IsClientOperation, so_far}
use Rattle.journal_script.proofs.Serving.{reads-more}
use Rattle.journal_script.proofs.clients.read_client.Goals as goal

-- one more was read
pub loop-place-preserved : goal.loop-place-preserved
loop-place-preserved c =
    let more = c.in-Ok.ensures.more in
    record {
      servable = c.in-Ok.ensures.servable;
      are = reads-more IsClientOperation (so_far c.loop-place.reading) (so_far c.in-Ok.next) c.args.operations.now c.loop-place.place more.0 c.index-operations-place.result c.loop-place-test.true
          c.index-operations-place.is more.2 c.loop-place.invariant.are more.1;
    }
