-- Each field is read at its place.
use Rattle.std.proofs.Common.{refl}
use Rattle.log_format.proofs.superblock.Super.fields.Goals as goal

pub returns : goal.returns
returns c =
    rw (
      c.number_in.ensures,
      c.number_in-2.ensures,
      c.number_in-3.ensures,
      c.number_in-4.ensures,
      c.number_in-5.ensures,
      c.number_in-6.ensures,
      c.number_in-7.ensures,
      c.number_in-8.ensures,
      c.number_in-9.ensures,
      c.number_in-10.ensures,
      c.copy_from_slice.ensures.after,
    ) refl
