-- One step over a descriptor's copies.
use Rattle.std.proofs.Common.{sym, ◌∙◌, ap, subst, arith}
use Rattle.std.specs.Prelude.{◌≡◌, ℕ, ◌+◌, ◌<◌, ◌≤◌, true, false, List, [], ◌∷◌, length, take, drop, get_or, slice_get, Some}
use Rattle.std.proofs.lemmas.List.{length-take-le, take-append-drop}
use Rattle.std.proofs.lemmas.Option.{slice_get-get_or}
use Rattle.log_model.specs.declared.log.Tag.{Tag}
use Rattle.journal_model.specs.Disk.{reading}
use Rattle.log_model.specs.Escape.{unescaped}
use Rattle.log_model.specs.Superblock.{Super}
use Rattle.journal_model.proofs.ListElements.{get-front}
use Rattle.block_device.specs.State.{DeviceState}
use Rattle.journal_world.specs.Call.{Call}
use Rattle.log_scan.specs.Passing.{StandAt}
use Rattle.recovery.specs.Calls.{HasBegun, HasMade, writes_home}
use Rattle.recovery.specs.Choice.{goes_by}
use Rattle.recovery.specs.Gather.{TablesValue, chosen_after, copy_calls}
use Rattle.recovery.proofs.CopyRuns.{chosen_first, copy-listed, one-begun, one-made, one-stays}

-- an element of the first n
get-taken : {X : Type 0} (xs : List X) (n k : ℕ) (x : X) → n ≤ length xs → k < n → slice_get xs k ≡ Some x → slice_get (take n xs) k ≡ Some x
get-taken xs n k x few below is =
    let size = length-take-le n xs few in
    sym (get-front (take n xs) (drop n xs) k (omega arith)) ∙ ap (λ ys. slice_get ys k) (take-append-drop n xs) ∙ is

module _
    (s : Super) (old mid : DeviceState) (tables : TablesValue) (tid place position count k at : ℕ) (all : List Tag) (tag : Tag) (blocks : List (List ℕ))
    (few : count ≤ length all) (below : k < count) (is : slice_get all k ≡ Some tag) (stand : StandAt s (reading old.disk) position count blocks) (place_is : at ≡ position + k)
    (made : HasMade (writes_home (chosen_first tables tid place (take count all) blocks k)) old mid)
  where
    -- there are as many tags as blocks
    as-many : length (take count all) ≡ length blocks
    as-many = length-take-le count all few ∙ sym stand.count

    -- the copy's block
    stored : List ℕ
    stored = get_or blocks k []

    stands : slice_get blocks k ≡ Some stored
    unfolding stored
    stands = let size = stand.count in slice_get-get_or blocks k [] (omega arith)

    tagged-so : slice_get (take count all) k ≡ Some tag
    tagged-so = get-taken all count k tag few below is

    within : k < length (take count all)
    within = let size = length-take-le count all few in omega arith

    -- the call that writes it home
    listed : copy_calls s (reading mid.disk) at tag ≡ writes_home ((tag.block, unescaped tag.escaped stored) ∷ [])
    listed = copy-listed s (chosen_first tables tid place (take count all) blocks k) old mid position count k at tag stored blocks place_is made stand stands

    -- a step past a copy that stays makes no write
    pub step-stays : goes_by tables.revokes tables.copies tid (place + k) tag.block ≡ false →
        HasMade (writes_home (chosen_first tables tid place (take count all) blocks (k + 1))) old mid
    step-stays stays = one-stays tables tid place (take count all) blocks as-many k tag stored within tagged-so stands stays old mid made

    -- a step over a copy that goes home makes one write
    pub step-made : goes_by tables.revokes tables.copies tid (place + k) tag.block ≡ true → (new : DeviceState) →
        HasMade (copy_calls s (reading mid.disk) at tag) mid new → HasMade (writes_home (chosen_first tables tid place (take count all) blocks (k + 1))) old new
    step-made goes new one =
        one-made tables tid place (take count all) blocks as-many k tag stored within tagged-so stands goes old mid new made
        (subst (λ (calls : List Call). HasMade calls mid new) listed one)

    -- or fails in it
    pub step-begun : goes_by tables.revokes tables.copies tid (place + k) tag.block ≡ true → (new : DeviceState) →
        HasBegun (copy_calls s (reading mid.disk) at tag) mid new → HasBegun (writes_home (chosen_after tables tid place (take count all) blocks)) old new
    step-begun goes new one =
        one-begun tables tid place (take count all) blocks as-many k tag stored within tagged-so stands goes old mid new made
        (subst (λ (calls : List Call). HasBegun calls mid new) listed one)
