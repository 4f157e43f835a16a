-- What a block says of itself stands at its position of the lap.
use Rattle.std.proofs.Common.{◌≡◌, ℕ, suc, ◌-◌, ◌<◌, List, ◌∷◌, length, sym, ◌∙◌, ap, subst, arith}
use Rattle.journal_model.specs.declared.number.Area.TheVariants.{Log}
use Rattle.log_model.specs.Chain.{place_from}
use Rattle.journal_model.specs.Disk.{Image}
use Rattle.journal_model.specs.Layout.{Layout}
use Rattle.log_model.specs.Opening.{layout_of, ring_of}
use Rattle.log_model.specs.Superblock.{Super}
use Rattle.log_scan.specs.declared.finding.Found.{Found}
use Rattle.log_scan.specs.declared.finding.Found.TheVariants.{RevokeBlock, Descriptor, CommitBlock, Malformed, Nothing}
use Rattle.log_scan.specs.Finding.{FinderValue, Fits, IsFound, Says, blocks_from}
use Rattle.log_scan.proofs.Fronts.{found-says}
use Rattle.log_scan.proofs.Laps.{from-within, length-from}

-- the same block says the same by the same layout and limit
pub says-same : (sequence behind : ℕ) (f : FinderValue) (found : Found) {l m : Layout} {limit count : ℕ} {read block : List ℕ} → l ≡ m → limit ≡ count → read ≡ block →
    Says l limit sequence behind read f found → Says m count sequence behind block f found
says-same sequence behind f found {l} {m} {limit} {count} {read} {block} layout number same says =
    subst (λ (b : List ℕ). Says m count sequence behind b f found) same
    (subst (λ (n : ℕ). Says m n sequence behind read f found) number
    (subst (λ (x : Layout). Says x limit sequence behind read f found) layout says))

-- what a block says of itself stands within the ring
pub fits-says : (l : Layout) (count sequence behind blocks position : ℕ) (block : List ℕ) (f : FinderValue) (found : Found) → position < blocks →
    behind ≡ blocks - position - 1 → Says l count sequence behind block f found → Fits count blocks position f found
fits-says l count sequence behind blocks position block f (RevokeBlock n) below rest says = (says.0, omega arith)
fits-says l count sequence behind blocks position block f (Descriptor n) below rest says = (says.0, (let few = says.1 in omega arith), says.2.below)
fits-says l count sequence behind blocks position block f CommitBlock below rest says = omega arith
fits-says l count sequence behind blocks position block f Malformed below rest says = tt
fits-says l count sequence behind blocks position block f Nothing below rest says = tt

-- what the block at a position says of itself stands there
pub found-at : (s : Super) (limit : ℕ) (image : Image) (sequence position behind : ℕ) (block : List ℕ) (f : FinderValue) (found : Found) → position < (ring_of s).blocks →
    behind ≡ (ring_of s).blocks - position - 1 → block ≡ image Log (place_from (ring_of s) s.s_start position) →
    Says (layout_of s) limit sequence behind block f found → IsFound (layout_of s) limit sequence (blocks_from s image position) f found
found-at s limit image sequence position behind block f found below rest is says =
    let left : behind ≡ length (blocks_from s image (suc position)) = let all = length-from s image (suc position) in omega arith in
    found-says (layout_of s) limit sequence (blocks_from s image position) block (blocks_from s image (suc position))
    (from-within s image position below ∙ ap (λ (b : List ℕ). b ∷ blocks_from s image (suc position)) (sym is)) f found
    (subst (λ (n : ℕ). Says (layout_of s) limit sequence n block f found) left says)
