use Rattle.nbd_server.proofs.Inputs.{no_option, one_more_option}
use Rattle.nbd_server.proofs.handshake.answer_options.Goals as goal

-- none was taken
pub answering-init : goal.answering-init
answering-init g c = no_option (g.I.Read.remaining c.args.input.now)

-- one more was
pub answering-preserved : goal.answering-preserved
answering-preserved g c =
    let taken = rw c.in-Some-2.is at c.in_ok-told.ensures in
    one_more_option (g.I.Read.remaining c.args.input.now) (g.I.Read.remaining c.answering.input) (g.I.Read.remaining c.read_option.new.input) _ _ c.answering.invariant taken

pub answering-preserved-else-ne : goal.answering-preserved-else-ne
answering-preserved-else-ne g c =
    let taken = rw c.in-Some-2.is at c.in_ok-told.ensures in
    one_more_option (g.I.Read.remaining c.args.input.now) (g.I.Read.remaining c.answering.input) (g.I.Read.remaining c.read_option.new.input) _ _ c.answering.invariant taken

-- and requests follow
pub returns-then-ne : goal.returns-then-ne
returns-then-ne g c =
    let taken = rw c.in-Some-2.is at c.in_ok-told.ensures in
    λ follow. one_more_option (g.I.Read.remaining c.args.input.now) (g.I.Read.remaining c.answering.input) (g.I.Read.remaining c.read_option.new.input) _ _ c.answering.invariant
    taken
