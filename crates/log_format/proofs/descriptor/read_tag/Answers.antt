use Rattle.std.proofs.Common.{sym, ◌∙◌, arith}
use Rattle.journal_model.specs.Layout.{every_number}
use Rattle.log_format.proofs.descriptor.read_tag.Goals as goal
use Rattle.log_format.proofs.Counts.{inside}
use Rattle.log_format.proofs.Flags.{flags_are}
use Rattle.log_format.proofs.Numbers.{number_from}

pub returns : goal.returns
returns c = (
  record {
    room = omega arith;
    block = c.read_tag_number-block.ensures.number;
    flags = sym (c.read_u16-flags.ensures ∙ number_from 6 2 c.args.bytes.now) ∙ flags_are c.read_u16-flags.result (omega arith) c.if-flags-ne0.false;
  },
  inside c.args.home_blocks c.read_tag_number-block.result (every_number c.args.layout) c.read_tag_number-block.ensures.below (sym c.is_outside.ensures ∙ c.if-is_outside.false),
)
