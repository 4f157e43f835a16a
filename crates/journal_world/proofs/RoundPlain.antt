-- What the engine keeps true of itself, over each call of a round, on any disk.
use Rattle.std.proofs.Common.{refl, subst}
use Rattle.std.specs.Prelude.{◌≡◌, ◌+◌, ◌<◌, ℕ}
use Rattle.journal_world.specs.declared.round.Round.{Round}
use Rattle.journal_world.specs.declared.round.Round.TheVariants.{Copies, TailWrite}
use Rattle.journal_world.specs.Call.{Call}
use Rattle.journal_world.specs.Checkpoint.{HasRound, RoundCall, begun}
use Rattle.journal_world.specs.Checkpoint.RoundCall.{CopyHome, FlushHome, WriteTail, FlushTail}
use Rattle.journal_world.specs.Engine.{Engine}
use Rattle.journal_world.specs.Sound.{IsPlain, RoundAgrees}
use Rattle.journal_world.proofs.Copying.{copies-change}
use Rattle.journal_world.proofs.Releasing.{flush-some, released, released-change, tail_written, tail_written-change, write-some}
use Rattle.journal_world.proofs.Rounded.{rounded-plain}
use Rattle.journal_world.proofs.Rounds.{begun-plain, going, some-committed}

-- among the round's copies some transaction is committed
copies-some : (e : Engine) (transaction block : ℕ) → IsPlain e → e.round ≡ Copies transaction block → 0 < e.committed
copies-some e transaction block plain at = some-committed e plain (subst (RoundAgrees e) at plain.round)

-- whichever call is due, the engine stays plain
call-plain : (e : Engine) (round : Round) (call : Call) (new : Engine) → IsPlain e → e.round ≡ round → RoundCall e round call new → IsPlain new
call-plain e round call new plain at (CopyHome transaction block i b v next) =
    rounded-plain e (going e (Copies i (b + 1)) e.aborted) plain (copies-some e transaction block plain at)
    (copies-change e transaction block (Copies i (b + 1)) e.aborted plain at (λ names. names) (λ more. more))
call-plain e round call new plain at (FlushHome transaction block none) =
    rounded-plain e (going e TailWrite e.aborted) plain (copies-some e transaction block plain at)
    (copies-change e transaction block TailWrite e.aborted plain at (λ names. names) (λ more. more))
call-plain e round call new plain at WriteTail = rounded-plain e (tail_written e) plain (write-some e plain at) (tail_written-change e plain at)
call-plain e round call new plain at FlushTail = rounded-plain e (released e) plain (flush-some e plain at) (released-change e plain at)

-- a call of a round keeps the engine plain
pub round-plain : (e : Engine) (call : Call) (new : Engine) → IsPlain e → HasRound e → RoundCall (begun e) (begun e).round call new → IsPlain new
round-plain e call new plain has due = call-plain (begun e) (begun e).round call new (begun-plain e plain has) refl due
