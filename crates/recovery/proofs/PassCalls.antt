-- How many calls a pass over a log makes.
use Rattle.std.proofs.Common.{ap, arith, inl, inr}
use Rattle.std.specs.Prelude.{◌≡◌, ◌⊎◌, ℕ, ◌+◌, ◌≤◌}
use Rattle.block_device.specs.State.{DeviceState}
use Rattle.log_scan.specs.declared.cursor.Cursor.{Cursor}
use Rattle.log_scan.specs.declared.finding.Found.{Found}
use Rattle.log_scan.specs.declared.finding.Found.TheVariants.{CommitBlock, RevokeBlock}
use Rattle.log_scan.specs.Finding.{MakesCalls, reads_of}
use Rattle.log_scan.specs.Passing.{cursor_behind}

-- some calls, then others
pub calls-join : (a b : ℕ) (s t u : DeviceState) → MakesCalls a s t → MakesCalls b t u → MakesCalls (a + b) s u
calls-join a b s t u first second = omega arith

-- fewer calls than were made
pub calls-fewer : (a b : ℕ) (s t : DeviceState) → a ≤ b → MakesCalls b s t → MakesCalls a s t
calls-fewer a b s t fewer made = omega arith

-- no calls
pub calls-none : (s : DeviceState) → MakesCalls 0 s s
calls-none s = omega arith

-- a transaction passed takes a read
pub passed-reads : (from to : Cursor) (found : Found) → ((n : ℕ) × (found ≡ RevokeBlock n)) ⊎ (found ≡ CommitBlock) → to ≡ cursor_behind from found →
    to.transactions ≤ from.transactions + reads_of found
passed-reads from to found (inl (n, is)) moved = let same = ap (λ (c : Cursor). c.transactions) (rw is at moved) in rw is (omega arith)
passed-reads from to found (inr is) moved = let same = ap (λ (c : Cursor). c.transactions) (rw is at moved) in rw is (omega arith)
