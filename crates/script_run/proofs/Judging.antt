-- Lemmas: what a verdict counts and compares.
use Rattle.std.proofs.Common.{◌≡◌, ◌↔◌, ◌∙◌, ℕ, List, [], IsTrue, Option, Some, Bool, true, false, nat_le, ◌<◌, All, ◌||◌, refl, ap, subst}
use Rattle.std.specs.List.{count_by}
use Rattle.journal_model.specs.declared.entry.Entry.{Entry}
use Rattle.journal_model.specs.declared.number.Area.TheVariants.{Home}
use Rattle.journal_model.specs.declared.number.Area.{Area}
use Rattle.journal_model.specs.Disk.{Disk, Image, Shape, reading}
use Rattle.log_model.specs.Opening.{HasLimit, OpensAs, numbered_below}
use Rattle.log_model.specs.Opening.HasLimit.{OfClean as CleanLimit, OfChain as ChainLimit}
use Rattle.journal_model.specs.Transaction.{History}
use Rattle.block_device.specs.Memory.{MemState, crashed, state_of}
use Rattle.block_device.specs.State.{DeviceState, Stays}
use Rattle.recovery.specs.Opening.{Tells}
use Rattle.recovery.specs.Opening.Tells.{OfClean, OfChain}
use Rattle.std.specs.BTreeSet.{keys}
use Rattle.journal_script.specs.declared.script.NamedBlocks.{NamedBlocks}
use Rattle.script_run.specs.Verdict.{IsImageVerdict, IsLeft, IsRight, IsVerdict, owed}

or_false : (b : Bool) → b ≡ (b || false)
or_false true = refl
or_false false = refl

-- the transactions up to the greatest acknowledged one are owed
pub count_up_to-owed : (n : ℕ) (ts : History) → count_by (λ t. nat_le t.tid n) ts ≡ owed (Some n) ts
count_up_to-owed n ts = λ i. count_by (λ t. or_false (nat_le t.tid n) i) ts

-- on an unchanged device, the same blocks are as they were left
pub IsLeft-stays : (last : ℕ → Option Entry) (directs : List ℕ) (b : ℕ) (old new : DeviceState) → Stays old new
    → IsLeft last directs new.shape.block_size (reading new.disk Home) b
    → IsLeft last directs old.shape.block_size (reading old.disk Home) b
IsLeft-stays last directs b old new s h =
    let on_shape : Shape → Type 0 = λ shape. IsLeft last directs shape.block_size (reading new.disk Home) b in
    let on_disk : Disk → Type 0 = λ disk. IsLeft last directs old.shape.block_size (reading disk Home) b in
    subst on_disk s.disk (subst on_shape s.shape h)

-- and the verdict is the same
pub IsRight-stays : (sealed : History) (shown : Option ℕ) (named : NamedBlocks) (n : ℕ) (right : Bool) (old new : DeviceState) → Stays old new
    → (IsTrue right ↔ IsRight sealed shown named n new.shape.block_size (reading new.disk Home))
    → (IsTrue right ↔ IsRight sealed shown named n old.shape.block_size (reading old.disk Home))
IsRight-stays sealed shown named n right old new s h =
    let on_shape : Shape → Type 0 = λ shape. IsTrue right ↔ IsRight sealed shown named n shape.block_size (reading new.disk Home) in
    let on_disk : Disk → Type 0 = λ disk. IsTrue right ↔ IsRight sealed shown named n old.shape.block_size (reading disk Home) in
    subst on_disk s.disk (subst on_shape s.shape h)

-- the report of an opening has the limit
pub HasLimit-from_tells : (shape : Shape) (image : Image) (clean : Bool) (ends_at transactions : ℕ)
    → Tells shape image clean ends_at transactions → HasLimit shape image ends_at
HasLimit-from_tells shape image clean ends_at transactions (OfClean h) = CleanLimit h
HasLimit-from_tells shape image clean ends_at transactions (OfChain texts h) = ChainLimit texts h

-- the verdict on an image, from its opening
pub IsImageVerdict-from : (sealed : History) (shown : Option ℕ) (named : NamedBlocks) (right : Bool) (image opened : MemState) (limit n : ℕ)
    → HasLimit image.shape (reading (state_of image).disk) limit
    → OpensAs image.shape (reading (state_of image).disk) (reading (state_of opened).disk Home)
    → opened.shape ≡ image.shape
    → n ≡ numbered_below limit sealed
    → All (λ b. b < opened.shape.home_blocks) (keys named.blocks)
    → (IsTrue right ↔ IsRight sealed shown named n opened.shape.block_size (reading (state_of opened).disk Home))
    → IsImageVerdict image.shape (reading (state_of image).disk) sealed shown named right
IsImageVerdict-from sealed shown named right image opened limit n has_limit opens shape count there right_is =
    let on_shape : Shape → Type 0 = λ s. IsTrue right ↔ IsRight sealed shown named (numbered_below limit sealed) s.block_size (reading (state_of opened).disk Home) in
    let on_count : ℕ → Type 0 = λ m. IsTrue right ↔ IsRight sealed shown named m opened.shape.block_size (reading (state_of opened).disk Home) in
    record {
      limit = limit;
      has_limit = has_limit;
      got = reading (state_of opened).disk Home;
      opens = opens;
      there = subst (λ (s : Shape). All (λ b. b < s.home_blocks) (keys named.blocks)) shape there;
      right_is = subst on_shape shape (subst on_count count right_is);
    }

-- the verdict on a device, from that on its crash image
pub IsVerdict-from : (device : MemState) (keep : List ℕ) (sealed : History) (shown : Option ℕ) (named : NamedBlocks) (right : Bool) (left image : MemState)
    → ((a : Area) (n : ℕ) → (state_of left).disk a n ≡ record { reads = crashed keep device a n; others = [] })
    → left.shape ≡ device.shape
    → Stays (state_of left) (state_of image)
    → IsImageVerdict image.shape (reading (state_of image).disk) sealed shown named right
    → IsVerdict device keep sealed shown named right
IsVerdict-from device keep sealed shown named right left image crash left_shape stays verdict =
    let shape : image.shape ≡ device.shape = stays.shape ∙ left_shape in
    let disk : reading (state_of image).disk ≡ crashed keep device =
    ap reading stays.disk ∙ (λ i a n. (crash a n i).reads) in
    let on_shape : Shape → Type 0 = λ s. IsImageVerdict s (reading (state_of image).disk) sealed shown named right in
    let on_disk : Image → Type 0 = λ m. IsImageVerdict device.shape m sealed shown named right in
    let moved = subst on_disk disk (subst on_shape shape verdict) in
    record { limit = moved.limit; has_limit = moved.has_limit; got = moved.got; opens = moved.opens; right_is = moved.right_is }
