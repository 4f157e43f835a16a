-- A descriptor's copies that go home, in order.
use Rattle.std.proofs.Common.{refl, sym, ◌∙◌, ap, ap₂, subst, arith, append-nil}
use Rattle.std.specs.Prelude.{◌≡◌, ℕ, suc, ◌+◌, ◌<◌, ◌≤◌, true, false, List, [], ◌∷◌, ◌++◌, length, take, drop, get_or, map, slice_get, Some}
use Rattle.std.specs.List.{zip}
use Rattle.std.proofs.lemmas.List.{length-take-le, map-append, take-append-drop}
use Rattle.std.proofs.lemmas.Option.{slice_get-get_or}
use Rattle.log_model.specs.declared.log.Tag.{Tag}
use Rattle.journal_model.specs.declared.number.Area.TheVariants.{Log}
use Rattle.log_model.specs.Chain.{place_from}
use Rattle.journal_model.specs.Disk.{Cell, Disk, reading}
use Rattle.log_model.specs.Escape.{unescaped}
use Rattle.log_model.specs.Opening.{ring_of}
use Rattle.log_model.specs.Superblock.{Super}
use Rattle.journal_model.proofs.ListElements.{take-more_read}
use Rattle.block_device.specs.State.{DeviceState}
use Rattle.journal_world.specs.Call.{Call}
use Rattle.log_scan.specs.Finding.{log_block}
use Rattle.log_scan.specs.Passing.{StandAt}
use Rattle.recovery.specs.Calls.{HasBegun, HasMade, writes_home}
use Rattle.recovery.specs.Choice.{chosen, goes_by}
use Rattle.recovery.specs.Gather.{TablesValue, chosen_after, copy_calls}
use Rattle.recovery.proofs.ChoiceSteps.{chosen-append}
use Rattle.recovery.proofs.CopiesReplayed.{copies-log}
use Rattle.recovery.proofs.MadeCalls.{begun-front, made-begun, made-joins}

-- a copy with its tag, unescaped
abbrev home_copy : Tag × List ℕ → ℕ × List ℕ
home_copy p = (p.0.block, unescaped p.0.escaped p.1)

-- copies with their tags, unescaped
abbrev pub tagged : List Tag → List (List ℕ) → List (ℕ × List ℕ)
tagged tags blocks = map (λ p. (p.0.block, unescaped p.0.escaped p.1)) (zip tags blocks)

-- joined tags and blocks give joined copies
tagged-append : (xs ys : List Tag) (bs cs : List (List ℕ)) → length xs ≡ length bs → tagged (xs ++ ys) (bs ++ cs) ≡ tagged xs bs ++ tagged ys cs
tagged-append [] ys [] cs same = refl
tagged-append [] ys (b ∷ bs) cs same = absurd (omega arith)
tagged-append (x ∷ xs) ys [] cs same = absurd (omega arith)
tagged-append (x ∷ xs) ys (b ∷ bs) cs same =
    let rest : length xs ≡ length bs = omega arith in
    ap (λ (zs : List (ℕ × List ℕ)). (x.block, unescaped x.escaped b) ∷ zs) (tagged-append xs ys bs cs rest)

-- as many as tags
tagged-count : (xs : List Tag) (bs : List (List ℕ)) → length xs ≡ length bs → length (tagged xs bs) ≡ length xs
tagged-count [] [] same = refl
tagged-count [] (b ∷ bs) same = absurd (omega arith)
tagged-count (x ∷ xs) [] same = absurd (omega arith)
tagged-count (x ∷ xs) (b ∷ bs) same = let rest : length xs ≡ length bs = omega arith in ap suc (tagged-count xs bs rest)

-- the writes of joined copies
pub writes-append : (xs ys : List (ℕ × List ℕ)) → writes_home (xs ++ ys) ≡ writes_home xs ++ writes_home ys
writes-append xs ys = map-append _ xs ys

-- of a descriptor's first k copies, those that go home
abbrev pub chosen_first : TablesValue → ℕ → ℕ → List Tag → List (List ℕ) → ℕ → List (ℕ × List ℕ)
chosen_first tables tid place tags blocks k = chosen_after tables tid place (take k tags) (take k blocks)

module _ (tables : TablesValue) (tid place : ℕ) (tags : List Tag) (blocks : List (List ℕ)) (same : length tags ≡ length blocks) where
  -- those before copy k, then the others
  pub chosen-split : (k : ℕ) → k ≤ length tags →
      chosen_after tables tid place tags blocks
      ≡ chosen_first tables tid place tags blocks k ++ chosen_after tables tid (place + k) (drop k tags) (drop k blocks)
  chosen-split k below =
      let few : length (take k tags) ≡ k = length-take-le k tags below in
      let many : length (take k blocks) ≡ k = length-take-le k blocks (omega arith) in
      ap₂ (λ (ts : List Tag) (bs : List (List ℕ)). chosen_after tables tid place ts bs) (sym (take-append-drop k tags)) (sym (take-append-drop k blocks))
      ∙ ap (chosen tables.revokes tables.copies tid place) (tagged-append (take k tags) (drop k tags) (take k blocks) (drop k blocks) (few ∙ sym many))
      ∙ chosen-append tables.revokes tables.copies tid place (tagged (take k tags) (take k blocks)) (tagged (drop k tags) (drop k blocks))
      ∙ ap (λ (n : ℕ). chosen_first tables tid place tags blocks k ++ chosen tables.revokes tables.copies tid (place + n) (tagged (drop k tags) (drop k blocks)))
      (tagged-count (take k tags) (take k blocks) (few ∙ sym many) ∙ few)

  module _ (k : ℕ) (tag : Tag) (block : List ℕ) (below : k < length tags) (is : slice_get tags k ≡ Some tag) (stands : slice_get blocks k ≡ Some block) where
    -- the first k + 1 copies choose those of the first k, then copy k
    chosen-one : chosen_first tables tid place tags blocks (k + 1)
        ≡ chosen_first tables tid place tags blocks k
        ++ chosen tables.revokes tables.copies tid (place + k) ((tag.block, unescaped tag.escaped block) ∷ [])
    chosen-one =
        let few : length (take k tags) ≡ k = length-take-le k tags (omega arith) in
        let many : length (take k blocks) ≡ k = length-take-le k blocks (omega arith) in
        let there : tag ≡ get_or tags k tag = let got = slice_get-get_or tags k tag below in cc in
        let also : block ≡ get_or blocks k block = let got = slice_get-get_or blocks k block (omega arith) in cc in
        ap₂ (λ (ts : List Tag) (bs : List (List ℕ)). chosen_after tables tid place ts bs) (take-more_read tags k tag below there) (take-more_read blocks k block (omega arith) also)
        ∙ ap (chosen tables.revokes tables.copies tid place) (tagged-append (take k tags) (tag ∷ []) (take k blocks) (block ∷ []) (few ∙ sym many))
        ∙ chosen-append tables.revokes tables.copies tid place (tagged (take k tags) (take k blocks)) (tagged (tag ∷ []) (block ∷ []))
        ∙ ap (λ (n : ℕ). chosen_first tables tid place tags blocks k ++ chosen tables.revokes tables.copies tid (place + n) (tagged (tag ∷ []) (block ∷ [])))
        (tagged-count (take k tags) (take k blocks) (few ∙ sym many) ∙ few)

    -- if copy k stays, no write is due
    pub one-stays : goes_by tables.revokes tables.copies tid (place + k) tag.block ≡ false → (old new : DeviceState) →
        HasMade (writes_home (chosen_first tables tid place tags blocks k)) old new → HasMade (writes_home (chosen_first tables tid place tags blocks (k + 1))) old new
    one-stays stays old new made =
        let none : chosen tables.revokes tables.copies tid (place + k) ((tag.block, unescaped tag.escaped block) ∷ []) ≡ [] = rw stays refl in
        subst (λ (cs : List (ℕ × List ℕ)). HasMade (writes_home cs) old new)
        (sym (chosen-one ∙ ap (λ (cs : List (ℕ × List ℕ)). chosen_first tables tid place tags blocks k ++ cs) none ∙ append-nil (chosen_first tables tid place tags blocks k))) made

    module _ (goes : goes_by tables.revokes tables.copies tid (place + k) tag.block ≡ true) where
      -- if it goes home, one write is due
      one-goes : writes_home (chosen_first tables tid place tags blocks (k + 1))
          ≡ writes_home (chosen_first tables tid place tags blocks k) ++ writes_home ((tag.block, unescaped tag.escaped block) ∷ [])
      one-goes =
          let one : chosen tables.revokes tables.copies tid (place + k) ((tag.block, unescaped tag.escaped block) ∷ []) ≡ (tag.block, unescaped tag.escaped block) ∷ [] = rw goes refl in
          ap writes_home (chosen-one ∙ ap (λ (cs : List (ℕ × List ℕ)). chosen_first tables tid place tags blocks k ++ cs) one)
          ∙ writes-append (chosen_first tables tid place tags blocks k) ((tag.block, unescaped tag.escaped block) ∷ [])

      pub one-made : (old mid new : DeviceState) → HasMade (writes_home (chosen_first tables tid place tags blocks k)) old mid →
          HasMade (writes_home ((tag.block, unescaped tag.escaped block) ∷ [])) mid new → HasMade (writes_home (chosen_first tables tid place tags blocks (k + 1))) old new
      one-made old mid new made one =
          subst (λ (calls : List Call). HasMade calls old new) (sym one-goes)
          (made-joins (writes_home (chosen_first tables tid place tags blocks k)) (writes_home ((tag.block, unescaped tag.escaped block) ∷ [])) old mid new made one)

      -- which may fail
      pub one-begun : (old mid new : DeviceState) → HasMade (writes_home (chosen_first tables tid place tags blocks k)) old mid →
          HasBegun (writes_home ((tag.block, unescaped tag.escaped block) ∷ [])) mid new → HasBegun (writes_home (chosen_after tables tid place tags blocks)) old new
      one-begun old mid new made one =
          let whole = ap writes_home (chosen-split (k + 1) (omega arith))
          ∙ writes-append (chosen_first tables tid place tags blocks (k + 1)) (chosen_after tables tid (place + (k + 1)) (drop (k + 1) tags) (drop (k + 1) blocks)) in
          subst (λ (calls : List Call). HasBegun calls old new) (sym whole)
          (begun-front (writes_home (chosen_first tables tid place tags blocks (k + 1)))
          (writes_home (chosen_after tables tid (place + (k + 1)) (drop (k + 1) tags) (drop (k + 1) blocks))) old new
          (subst (λ (calls : List Call). HasBegun calls old new) (sym one-goes)
          (made-begun (writes_home (chosen_first tables tid place tags blocks k)) (writes_home ((tag.block, unescaped tag.escaped block) ∷ [])) old mid new made one)))

-- writes home leave what the log reads
log-kept : (copies : List (ℕ × List ℕ)) (old mid : DeviceState) (place : ℕ) → HasMade (writes_home copies) old mid →
    log_block (reading mid.disk) place ≡ log_block (reading old.disk) place
log-kept copies old mid place made =
    ap (λ (d : Disk). (d Log place).reads) made.disk ∙ ap (λ (c : Cell). c.reads) (copies-log copies old.disk place)

-- the write of a copy, as it is listed
pub copy-listed : (s : Super) (copies : List (ℕ × List ℕ)) (old mid : DeviceState) (position count k at : ℕ) (tag : Tag) (block : List ℕ) (blocks : List (List ℕ)) → at ≡ position + k →
    HasMade (writes_home copies) old mid → StandAt s (reading old.disk) position count blocks → slice_get blocks k ≡ Some block →
    copy_calls s (reading mid.disk) at tag ≡ writes_home ((tag.block, unescaped tag.escaped block) ∷ [])
copy-listed s copies old mid position count k at tag block blocks is made stand stands =
    ap (λ (bytes : List ℕ). writes_home ((tag.block, unescaped tag.escaped bytes) ∷ []))
    (log-kept copies old mid (place_from (ring_of s) s.s_start at) made
    ∙ ap (λ (n : ℕ). log_block (reading old.disk) (place_from (ring_of s) s.s_start n)) is ∙ sym (stand.each k block stands))
