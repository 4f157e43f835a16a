-- The blocks of a lap from one position on.
use Rattle.std.proofs.Common.{◌≡◌, ℕ, suc, ◌+◌, ◌-◌, ◌<◌, ◌≤◌, List, [], ◌∷◌, length, drop, get_or, slice_get, Some, ◌∙◌, ap, sym, arith, drop-cons}
use Rattle.std.proofs.lemmas.List.{drop_all, drop-drop, length-drop}
use Rattle.std.proofs.lemmas.Option.{slice_get-get_or, slice_get_within}
use Rattle.std.proofs.lemmas.List.FromFn.{get_or-map-range_with_len, length-map-range_with_len}
use Rattle.journal_model.specs.declared.number.Area.TheVariants.{Log}
use Rattle.log_model.specs.Chain.{Ring, lap, place_from}
use Rattle.journal_model.specs.Disk.{Image}
use Rattle.log_model.specs.Opening.{ring_of}
use Rattle.log_model.specs.Superblock.{Super}
use Rattle.log_scan.specs.Finding.{blocks_from}

-- a lap has as many blocks as the ring
pub length-lap : (r : Ring) (image : Image) (place : ℕ) → length (lap r image place) ≡ r.blocks
unfolding lap
length-lap r image place = length-map-range_with_len (λ j. image Log (place_from r place j)) 0 r.blocks

-- its k-th block
lap-at : (r : Ring) (image : Image) (place k : ℕ) (d : List ℕ) → k < r.blocks → get_or (lap r image place) k d ≡ image Log (place_from r place k)
unfolding lap
lap-at r image place k d below = get_or-map-range_with_len (λ j. image Log (place_from r place j)) 0 r.blocks k k d below (omega arith)

-- at a position in the ring stands a block, then those from the next position
pub from-within : (s : Super) (image : Image) (k : ℕ) → k < (ring_of s).blocks →
    blocks_from s image k ≡ image Log (place_from (ring_of s) s.s_start k) ∷ blocks_from s image (suc k)
from-within s image k below =
    drop-cons (lap (ring_of s) image s.s_start) k [] (let size = length-lap (ring_of s) image s.s_start in omega arith)
    ∙ ap (λ (b : List ℕ). b ∷ blocks_from s image (suc k)) (lap-at (ring_of s) image s.s_start k [] below)

-- as many blocks follow as the ring has left
pub length-from : (s : Super) (image : Image) (k : ℕ) → length (blocks_from s image k) ≡ (ring_of s).blocks - k
length-from s image k = let size = length-lap (ring_of s) image s.s_start in let rest = length-drop k (lap (ring_of s) image s.s_start) in omega arith

-- at the end of the ring nothing stands
pub from-end : (s : Super) (image : Image) (k : ℕ) → (ring_of s).blocks ≤ k → blocks_from s image k ≡ []
from-end s image k past = drop_all k (lap (ring_of s) image s.s_start) (let size = length-lap (ring_of s) image s.s_start in omega arith)

-- the blocks after the first n from a position
pub from-behind : (s : Super) (image : Image) (k n : ℕ) → drop n (blocks_from s image k) ≡ blocks_from s image (k + n)
from-behind s image k n = drop-drop n k (lap (ring_of s) image s.s_start)

-- the k-th block stands at its place in the log
pub from-at : (s : Super) (image : Image) (position k at : ℕ) (block : List ℕ) → at ≡ position + k → slice_get (blocks_from s image position) k ≡ Some block →
    block ≡ image Log (place_from (ring_of s) s.s_start at)
from-at s image position k at block is found =
    let within = slice_get_within (blocks_from s image position) k block found in
    let size = length-from s image position in
    let below : at < (ring_of s).blocks = omega arith in
    let rest : drop k (blocks_from s image position) ≡ image Log (place_from (ring_of s) s.s_start at) ∷ blocks_from s image (suc at) =
    from-behind s image position k ∙ ap (λ (n : ℕ). blocks_from s image n) (sym is) ∙ from-within s image at below in
    let first : drop k (blocks_from s image position) ≡ get_or (blocks_from s image position) k block ∷ drop (suc k) (blocks_from s image position) =
    drop-cons (blocks_from s image position) k block within in
    let got : get_or (blocks_from s image position) k block ≡ block = let same = sym (slice_get-get_or (blocks_from s image position) k block within) ∙ found in cc in
    cc
