-- The transaction being committed: its text, and its blocks in an image.
use Rattle.std.proofs.Common.{◌≡◌, ℕ, ◌+◌, ◌<◌, ◌≤◌, List, length, length-take, take, Option, Some, None, arith, refl, ◌∙◌, inl, inr}
use Rattle.std.specs.List.{AllByRecursion, slice_get}
use Rattle.std.proofs.lemmas.List.{length-map}
use Rattle.std.proofs.lemmas.Option.{none-some, slice_get_within}
use Rattle.journal_model.specs.declared.entry.Batch.{Batch}
use Rattle.log_model.specs.Chain.{texts_blocks}
use Rattle.journal_model.specs.Layout.{IsLayout}
use Rattle.log_model.specs.Text.{text_blocks}
use Rattle.journal_world.specs.Engine.{Engine, IsBatch, blocks_if, committed_texts, due_blocks, text_of}
use Rattle.journal_world.specs.Opening.{IsBehind}
use Rattle.journal_world.specs.Sound.{IsPlain}
use Rattle.journal_world.proofs.Batches.{batch-own, batches-own, number-at, numbered-take}
use Rattle.journal_world.proofs.Chains.{IsNotDue}
use Rattle.journal_world.proofs.Elements.{all-at, all-take}
use Rattle.journal_world.proofs.OwnBlocks.{AreOwn, IsInner, IsNumbered, IsOwn, own-behind, own-inner, own-numbered}

module _ (e : Engine) (plain : IsPlain e) (layout : IsLayout e.layout) where
  -- the due text is an own text of the due number
  due-own : (b : Batch) → slice_get e.accepted e.committed ≡ Some b →
      IsOwn e.layout e.shape.home_blocks (e.first + e.committed) (text_of e b)
  due-own b stands =
      let within : e.committed < length e.accepted = slice_get_within e.accepted e.committed b stands in
      let numbers = plain.numbers in
      batch-own e.layout e.shape e.uuid (e.first + e.committed) b layout plain.uuid
      (all-at (IsBatch e.layout e.shape) e.accepted e.committed b plain.batches stands)
      (number-at e.first e.committed e.accepted b plain.numbered stands) (omega arith)

  -- each of its blocks has the due number, if a batch is due
  numbered-if : (o : Option Batch) (i : ℕ) (v : List ℕ) → slice_get e.accepted e.committed ≡ o → slice_get (blocks_if e o) i ≡ Some v →
      IsNumbered (e.first + e.committed) v
  numbered-if None i v is stands = absurd (none-some v stands)
  numbered-if (Some b) i v is stands =
      all-at (IsNumbered (e.first + e.committed)) (text_blocks (text_of e b)) i v
      (own-numbered e.layout e.shape.home_blocks (e.first + e.committed) (text_of e b) (due-own b is)) stands

  -- each due block has the due number
  pub due-numbered : (i : ℕ) (v : List ℕ) → slice_get (due_blocks e) i ≡ Some v → IsNumbered (e.first + e.committed) v
  due-numbered i v stands = numbered-if (slice_get e.accepted e.committed) i v refl stands

  -- none of its blocks before the last ends anything, if a batch is due
  inner-if : (o : Option Batch) (i : ℕ) (v : List ℕ) → slice_get e.accepted e.committed ≡ o → slice_get (blocks_if e o) i ≡ Some v →
      i + 1 < length (blocks_if e o) → IsInner e.layout e.shape.home_blocks (e.first + e.committed) v
  inner-if None i v is stands before = absurd (none-some v stands)
  inner-if (Some b) i v is stands before =
      own-inner e.layout e.shape.home_blocks (e.first + e.committed) (text_of e b) i v (due-own b is) stands before

  -- each due block before the last ends nothing
  pub due-inner : (i : ℕ) (v : List ℕ) → slice_get (due_blocks e) i ≡ Some v → i + 1 < length (due_blocks e) →
      IsInner e.layout e.shape.home_blocks (e.first + e.committed) v
  due-inner i v stands before = inner-if (slice_get e.accepted e.committed) i v refl stands before

  -- the blocks of the committed transactions are below the due number
  pub committed-behind : e.committed ≤ length e.accepted → AllByRecursion (IsBehind (e.first + e.committed)) (texts_blocks (committed_texts e))
  committed-behind least =
      let numbers = plain.numbers in
      let taken : length (take e.committed e.accepted) ≡ e.committed = length-take e.committed e.accepted ∙ omega arith in
      let count : length (committed_texts e) ≡ e.committed = length-map (take e.committed e.accepted) (text_of e) ∙ taken in
      let own : AreOwn e.layout e.shape.home_blocks e.first (committed_texts e) =
      batches-own e.layout e.shape e.uuid e.first (take e.committed e.accepted) layout plain.uuid (all-take (IsBatch e.layout e.shape) e.committed e.accepted plain.batches)
      (numbered-take e.first e.committed e.accepted plain.numbered) (omega arith) in
      own-behind e.layout e.shape.home_blocks e.first (e.first + e.committed) (committed_texts e) (omega arith) own

-- a block below a number is not due
pub behind-not_due : (e : Engine) (next : ℕ) (v : List ℕ) → IsBehind next v → IsNotDue e.layout e.shape.home_blocks next v
behind-not_due e next v b =
    record {
      no_commit = λ h. let below = b.below h.magic in let same = h.sequence_is in omega arith;
      no_damage = λ d. elim d [
        | inl h ↦ let below = b.below h.0.magic in let same = h.0.sequence_is in omega arith
        | inr h ↦ let below = b.below h.0.magic in let same = h.0.sequence_is in omega arith
      ];
    }
