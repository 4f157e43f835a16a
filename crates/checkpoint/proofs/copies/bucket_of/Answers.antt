use Rattle.std.proofs.Common.{rules}
use Rattle.checkpoint.specs.Copies.{bucket_of}
use Rattle.checkpoint.proofs.copies.bucket_of.Goals as goal

pub returns-clause-bucket : goal.returns-clause-bucket
unfolding bucket_of
returns-clause-bucket c = search rules
