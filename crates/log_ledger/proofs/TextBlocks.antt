-- The log blocks of a transaction, part by part, by its plan.
use Rattle.std.proofs.Common.{arith, sym, ap, ap₂, subst, ◌∙◌, get_or, length-take}
use Rattle.std.specs.Prelude.{◌≡◌, ℕ, ◌+◌, ◌-◌, ◌<◌, ◌≤◌, List, [], length, take, drop, unwrap_or, Option, Some, slice_get, All}
use Rattle.std.proofs.lemmas.List.Elements.{All-drop, All-take, All-weaker}
use Rattle.std.proofs.lemmas.Option.{slice_get-get_or}
use Rattle.journal_model.specs.declared.entry.Entry.{Entry}
use Rattle.journal_model.specs.declared.entry.Entry.TheVariants.{Copy, Revoke}
use Rattle.log_model.specs.Escape.{escaped}
use Rattle.journal_model.specs.Layout.{IsLayout, Layout, every_number, header_bytes, numbers_of}
use Rattle.journal_model.specs.Transaction.{copied, revoked}
use Rattle.log_model.proofs.OwnTextEntries.{revoked_below}
use Rattle.journal_world.specs.Engine.{block_at}
use Rattle.log_format.specs.Size.{FitRevokeBlock}
use Rattle.log_ledger.specs.declared.plan.LogPlan.{LogPlan}
use Rattle.log_ledger.specs.Text.{IsPlanOf, IsStored, IsWholeCopy, bytes_in, copies_at, copy_at, entry_at}
use Rattle.log_ledger.proofs.Copies.{at-place, entry-there, length-at, long-there, map-at, map-part}

-- what stands in the log for an entry
stored-is : (e : Entry) (block : List ℕ) → IsStored e block → block ≡ escaped (bytes_in e)
stored-is (Copy v) block stored = stored
stored-is Revoke block stored = absurd stored

-- the block at a place of the text
pub block-here : (blocks : List (List ℕ)) (k : ℕ) (block : List ℕ) → slice_get blocks k ≡ Some block → block_at blocks k ≡ block
block-here blocks k block stands = ap (λ (o : Option (List ℕ)). unwrap_or o []) stands

-- an entry whose bytes fill a block is a copy
whole-entry : (size : ℕ) (e : Entry) → 0 < size → length (bytes_in e) ≡ size → IsWholeCopy size e
whole-entry size (Copy v) some full = full
whole-entry size Revoke some full = absurd (omega arith)

-- a block has enough bytes for a header
some-bytes : (l : Layout) → IsLayout l → (0 < l.block_size) × (header_bytes ≤ l.block_size)
some-bytes l taken = (omega (arith, taken.0), omega (arith, taken.0))

module _ (entries : List (ℕ × Entry)) (plan : LogPlan) (is : IsPlanOf entries plan) where
  -- as many copies as the plan has places
  pub count-copies : length plan.copies.items ≡ length (copied entries)
  count-copies = sym (length-at entries plan.copies.items) ∙ ap length is.copies

  -- as many revokes as the plan has numbers
  pub count-revokes : length plan.revokes.items ≡ length (revoked entries)
  count-revokes = ap length is.revokes

  -- the copies at some of the places
  pub copies-of : (first tags to : ℕ) (places : List ℕ) → to ≡ first + tags → places ≡ plan.copies.items →
      copies_at entries (take (to - first) (drop first places)) ≡ take tags (drop first (copied entries))
  copies-of first tags to places behind all =
      let count : to - first ≡ tags = omega arith in
      ap₂ (λ (n : ℕ) (ps : List ℕ). copies_at entries (take n (drop first ps))) count all
      ∙ map-part (copy_at entries) tags first plan.copies.items
      ∙ ap (λ (cs : List (ℕ × List ℕ)). take tags (drop first cs)) is.copies

  -- what holds of each copy holds of these
  pub each-of : (P : ℕ × List ℕ → Type 0) (first tags to : ℕ) (places : List ℕ) → to ≡ first + tags → places ≡ plan.copies.items →
      All P (copied entries) → All P (copies_at entries (take (to - first) (drop first places)))
  each-of P first tags to places behind all each =
      subst (λ (cs : List (ℕ × List ℕ)). All P cs) (sym (copies-of first tags to places behind all))
      (All-take P tags (drop first (copied entries)) (All-drop P first (copied entries) each))

  -- they are long enough for a header, if each is a block
  pub long-of : (l : Layout) (first tags to : ℕ) (places : List ℕ) → to ≡ first + tags → places ≡ plan.copies.items → IsLayout l →
      All (λ c. length c.1 ≡ l.block_size) (copied entries) → All (λ c. header_bytes ≤ length c.1) (copies_at entries (take (to - first) (drop first places)))
  long-of l first tags to places behind all taken whole =
      each-of (λ c. header_bytes ≤ length c.1) first tags to places behind all
      (All-weaker (λ c. length c.1 ≡ l.block_size) (λ c. header_bytes ≤ length c.1) (λ c full. let some = (some-bytes l taken).1 in omega arith) (copied entries) whole)

  -- some of the revoked blocks
  revokes-of : (first numbers to : ℕ) (all : List ℕ) → to ≡ first + numbers → all ≡ plan.revokes.items →
      take (to - first) (drop first all) ≡ take numbers (drop first (revoked entries))
  revokes-of first numbers to all behind same =
      let count : to - first ≡ numbers = omega arith in
      ap₂ (λ (n : ℕ) (bs : List ℕ). take n (drop first bs)) count (same ∙ is.revokes)

  -- few of them fit a revoke block
  pub revokes-fit : (l : Layout) (first numbers to : ℕ) (all : List ℕ) → to ≡ first + numbers → all ≡ plan.revokes.items → numbers ≤ numbers_of l →
      All (λ p. p.0 < every_number l) entries → FitRevokeBlock l (take (to - first) (drop first all))
  revokes-fit l first numbers to all behind same few below =
      subst (FitRevokeBlock l) (sym (revokes-of first numbers to all behind same)) (record {
        few = few-of numbers (drop first (revoked entries)) few;
        spelled = All-take (λ b. b < every_number l) numbers (drop first (revoked entries))
            (All-drop (λ b. b < every_number l) first (revoked entries) (revoked_below (every_number l) entries below));
      })
    where
      -- a front has no more elements than asked for
      few-of : (n : ℕ) (bs : List ℕ) → n ≤ numbers_of l → length (take n bs) ≤ numbers_of l
      few-of n bs few = let size = length-take n bs in omega arith

  -- the entry at a copy's place is a copy of one block
  pub whole-at : (l : Layout) (k place : ℕ) → IsLayout l → All (λ c. length c.1 ≡ l.block_size) (copied entries) → k < length (copied entries) →
      place ≡ get_or plan.copies.items k place → (place < length entries) × IsWholeCopy l.block_size (entry_at entries place).1
  whole-at l k place taken whole within here =
      let there : k < length plan.copies.items = subst (λ (n : ℕ). k < n) (sym count-copies) within in
      let all = subst (λ (cs : List (ℕ × List ℕ)). All (λ c. length c.1 ≡ l.block_size) cs) (sym is.copies) whole in
      let full : length (copy_at entries place).1 ≡ l.block_size =
      subst (λ (p : ℕ). length (copy_at entries p).1 ≡ l.block_size) (sym here) (at-place (λ c. length c.1 ≡ l.block_size) entries plan.copies.items k place all there) in
      let some = some-bytes l taken in
      let long : header_bytes ≤ length (copy_at entries place).1 = (let enough = some.1 in omega arith) in
      ((long-there entries place long).0, whole-entry l.block_size (entry_at entries place).1 some.0 full)

  -- the copy is the one that the plan names
  copy-there : (k place : ℕ) → k < length (copied entries) → place ≡ get_or plan.copies.items k place → slice_get (copied entries) k ≡ Some (copy_at entries place)
  copy-there k place within here =
      let there : k < length plan.copies.items = subst (λ (n : ℕ). k < n) (sym count-copies) within in
      ap (λ (cs : List (ℕ × List ℕ)). slice_get cs k) (sym is.copies)
      ∙ map-at (copy_at entries) plan.copies.items k (get_or plan.copies.items k place) (slice_get-get_or plan.copies.items k place there)
      ∙ ap (λ (p : ℕ). Some (copy_at entries p)) (sym here)

  -- what stands for it in the log is its copy, escaped
  pub copy-of : (k place : ℕ) (d : ℕ × Entry) (block : List ℕ) → k < length (copied entries) → place ≡ get_or plan.copies.items k place → place < length entries →
      IsStored (get_or entries place d).1 block → block ≡ escaped (unwrap_or (slice_get (copied entries) k) (0, [])).1
  copy-of k place d block within here there stored =
      stored-is (get_or entries place d).1 block stored
      ∙ ap (λ (p : ℕ × Entry). escaped (bytes_in p.1)) (entry-there entries place d there)
      ∙ ap (λ (o : Option (ℕ × List ℕ)). escaped (unwrap_or o (0, [])).1) (sym (copy-there k place within here))
