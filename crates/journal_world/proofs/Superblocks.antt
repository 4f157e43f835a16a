-- What an accepted superblock says of the log.
use Rattle.std.proofs.Common.{◌≡◌, ◌⊎◌, ℕ, ◌-◌, ◌<◌, ◌≤◌, ◌==◌, ◌&&◌, ◌||◌, Bool, true, false, List, [], ◌∷◌, Some, None, arith, refl, sym, ap}
use Rattle.std.specs.Prelude.{◌≢◌, nat_lt, nat_le, if◌then◌else◌}
use Rattle.std.specs.List.{AllByRecursion}
use Rattle.std.proofs.lemmas.Bool.Decides.{nat_tests}
use Rattle.std.proofs.lemmas.Option.{none-some}
use Rattle.journal_model.specs.declared.refusal.JournalError.{JournalError}
use Rattle.journal_model.specs.declared.refusal.JournalError.TheVariants.{BadLength}
use Rattle.log_model.specs.Chain.{Ring}
use Rattle.journal_model.specs.Layout.{IsLayout, Layout}
use Rattle.log_model.specs.Opening.{layout_of}
use Rattle.journal_model.specs.Disk.{Shape}
use Rattle.log_model.specs.Superblock.{Super, first_failed, greatest_length, is_block_size, least_length, least_ring, revoke_feature, super_in, super_refusal, super_tests, wide_features}
use Rattle.log_format.proofs.Layouts.{number-taken}
use Rattle.journal_world.specs.declared.round.Round.{Round}
use Rattle.journal_world.specs.declared.round.Round.TheVariants.{Idle as NoRound, Copies, TailWrite, TailFlush}
use Rattle.journal_world.specs.Engine.{Engine}
use Rattle.journal_world.specs.Opening.{IsSuperblock}
use Rattle.journal_world.specs.Sound.{MayBeSuperblock, Names, NamesStarted}
use Rattle.journal_world.specs.Sound.MayBeSuperblock.{Clean, Old, New}

-- if no test fails, each passes
tests-pass : (tests : List (Bool × JournalError)) → first_failed tests ≡ None → AllByRecursion (λ t. t.0 ≡ true) tests
tests-pass [] none = tt
tests-pass ((true, e) ∷ tests) none = (refl, tests-pass tests none)
tests-pass ((false, e) ∷ tests) none = absurd (none-some e (sym none))

-- a refusal or tests that refuse nothing: the tests refuse nothing
other-side : (b : Bool) (e : JournalError) (tests : List (Bool × JournalError)) →
    (if b then Some e else first_failed tests) ≡ None → first_failed tests ≡ None
other-side true e tests none = absurd (none-some e (sym none))
other-side false e tests none = none

-- each test of an accepted superblock passes
accepted-tests : (shape : Shape) (block : List ℕ) → super_refusal shape block ≡ None → AllByRecursion (λ t. t.0 ≡ true) (super_tests shape block)
accepted-tests shape block accepted =
    tests-pass (super_tests shape block) (other-side (shape.log_blocks == 0) BadLength (super_tests shape block) accepted)

-- a size that passes is an allowed one, and the device's
size-passes : (named size : ℕ) → (is_block_size named && (named == size)) ≡ true →
    (named ≡ size) × ((size ≡ 1024) ⊎ ((size ≡ 2048) ⊎ (size ≡ 4096)))
size-passes named size passes = (grind (arith, nat_tests), grind (arith, nat_tests))

-- a ring that passes its test begins after block 0, and has blocks
ring-passes : (first maxlen : ℕ) → (nat_lt 0 first && nat_le least_ring (maxlen - first)) ≡ true → (0 < first) × (16 ≤ maxlen - first)
ring-passes first maxlen passes = (grind (arith, nat_tests), grind (arith, nat_tests))

-- the blocks of an accepted log are as large as the device's
pub accepted-block_size : (shape : Shape) (block : List ℕ) → super_refusal shape block ≡ None → (super_in block).s_blocksize ≡ shape.block_size
accepted-block_size shape block accepted =
    (size-passes (super_in block).s_blocksize shape.block_size (accepted-tests shape block accepted).1.1.0).0

-- the layout is an allowed one, with blocks of the device's size
pub accepted-layout : (shape : Shape) (block : List ℕ) → super_refusal shape block ≡ None →
    IsLayout (layout_of (super_in block)) × ((layout_of (super_in block)).block_size ≡ shape.block_size)
accepted-layout shape block accepted =
    let passes = size-passes (super_in block).s_blocksize shape.block_size (accepted-tests shape block accepted).1.1.0 in
    let sizes = passes.1 in
    (((grind arith), number-taken _), passes.0)

-- a block has room for all fields of a superblock
pub accepted-size : (shape : Shape) (block : List ℕ) → super_refusal shape block ≡ None → 1024 ≤ shape.block_size
accepted-size shape block accepted = let sizes = (size-passes (super_in block).s_blocksize shape.block_size (accepted-tests shape block accepted).1.1.0).1 in grind arith

-- the ring of an accepted log begins after block 0
pub accepted-first : (shape : Shape) (block : List ℕ) → super_refusal shape block ≡ None → 0 < (super_in block).s_first
accepted-first shape block accepted =
    (ring-passes (super_in block).s_first (super_in block).s_maxlen (accepted-tests shape block accepted).1.1.1.1.0).0

-- the ring of an accepted log has at least 16 blocks
pub accepted-ring : (shape : Shape) (block : List ℕ) → super_refusal shape block ≡ None → 16 ≤ (super_in block).s_maxlen - (super_in block).s_first
accepted-ring shape block accepted =
    (ring-passes (super_in block).s_first (super_in block).s_maxlen (accepted-tests shape block accepted).1.1.1.1.0).1

-- an accepted log is at most `greatest_length` long
pub accepted-length : (shape : Shape) (block : List ℕ) → super_refusal shape block ≡ None → (super_in block).s_maxlen ≤ greatest_length
accepted-length shape block accepted = grind (arith, nat_tests)

-- accepted features other than the wide ones are the revoke feature
narrow-passes : (compat ro_compat incompat users : ℕ) →
    ((compat == 0) && (ro_compat == 0) && ((incompat == revoke_feature) || (incompat == wide_features)) && (users == 1)) ≡ true →
    incompat ≢ wide_features → incompat ≡ revoke_feature
narrow-passes compat ro_compat incompat users passes other = grind (arith, nat_tests)

-- so are those of an accepted log
pub accepted-narrow : (shape : Shape) (block : List ℕ) → super_refusal shape block ≡ None → (super_in block).s_feature_incompat ≢ wide_features →
    (super_in block).s_feature_incompat ≡ revoke_feature
accepted-narrow shape block accepted other =
    let s : Super = super_in block in
    narrow-passes s.s_feature_compat s.s_feature_ro_compat s.s_feature_incompat s.s_nr_users (accepted-tests shape block accepted).1.1.1.1.1.0 other

-- lengths that pass their test
within-passes : (m log : ℕ) → (nat_le least_length m && nat_le m greatest_length && nat_le m log) ≡ true → m ≤ log
within-passes m log passes = grind (arith, nat_tests)

-- an accepted log lies within the log area
pub accepted-within : (shape : Shape) (block : List ℕ) → super_refusal shape block ≡ None → (super_in block).s_maxlen ≤ shape.log_blocks
accepted-within shape block accepted = within-passes (super_in block).s_maxlen shape.log_blocks (accepted-tests shape block accepted).1.1.1.0

-- the ring of a superblock begins where the superblock says
pub first-is : {l : Layout} (shape : Shape) (ring : Ring) (block : List ℕ) → IsSuperblock shape l ring block → (super_in block).s_first ≡ ring.first
first-is shape ring block is = ap (λ (r : Ring). r.first) is.ring_is

-- a ring does not begin at block 0
pub first-above : {l : Layout} (shape : Shape) (ring : Ring) (block : List ℕ) → IsSuperblock shape l ring block → 0 < ring.first
first-above shape ring block is =
    let above : 0 < (super_in block).s_first = accepted-first shape block is.accepted in
    let same : (super_in block).s_first ≡ ring.first = first-is shape ring block is in
    omega arith

-- a ring has at least 16 blocks
pub blocks-some : {l : Layout} (shape : Shape) (ring : Ring) (block : List ℕ) → IsSuperblock shape l ring block → 16 ≤ ring.blocks
blocks-some shape ring block is =
    let blocks : 16 ≤ (super_in block).s_maxlen - (super_in block).s_first = accepted-ring shape block is.accepted in
    let same : (super_in block).s_maxlen - (super_in block).s_first ≡ ring.blocks = ap (λ (r : Ring). r.blocks) is.ring_is in
    omega arith

-- what a started log's superblock names, it is a superblock
started-superblock : (e : Engine) (round : Round) (block : List ℕ) → NamesStarted e round block → IsSuperblock e.shape e.layout e.ring block
started-superblock e NoRound block names = names.is_superblock
started-superblock e (Copies transaction next) block names = names.is_superblock
started-superblock e TailWrite block names = names.is_superblock
started-superblock e TailFlush block names = names.is_superblock

-- whatever it names, it is a superblock
pub names-superblock : (e : Engine) (started : Bool) (block : List ℕ) → Names e started block → IsSuperblock e.shape e.layout e.ring block
names-superblock e true block names = started-superblock e e.round block names
names-superblock e false block names = names.is_superblock

-- whatever a crash leaves of block 0 is a superblock
pub may-superblock : (e : Engine) (block : List ℕ) → MayBeSuperblock e block → IsSuperblock e.shape e.layout e.ring block
may-superblock e block (Clean may names) = names.is_superblock
may-superblock e block (Old names) = names.is_superblock
may-superblock e block (New moves names) = names.is_superblock
