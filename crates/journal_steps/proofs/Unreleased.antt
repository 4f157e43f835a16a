-- The last entry of a block in the transactions that are not released: the front's, else what the engine has pending.
use Rattle.std.proofs.Common.{◌≡◌, ◌↔◌, inl, inr, ℕ, ◌+◌, ◌-◌, ◌≤◌, List, [], ◌∷◌, ◌++◌, take, drop, Some, None, arith, sym, ap, ap₂, ◌∙◌, drop-drop}
use Rattle.std.specs.List.{slice_get}
use Rattle.std.proofs.lemmas.List.{drop-take, take-append-le}
use Rattle.journal_model.proofs.ListElements.{option-known}
use Rattle.journal_model.specs.declared.entry.Batch.{Batch}
use Rattle.journal_model.specs.declared.entry.Entry.{Entry}
use Rattle.journal_model.specs.declared.entry.Entry.TheVariants.{Copy, Revoke}
use Rattle.journal_model.specs.Transaction.{History, last_effect, later}
use Rattle.journal_world.specs.Checkpoint.{IsPending}
use Rattle.journal_world.specs.Engine.{AreBatchesOf}
use Rattle.journal_world.specs.Front.{unfinished}
use Rattle.journal_world.specs.Journal.{Journal}
use Rattle.journal_world.specs.Sound.{IsPlain}
use Rattle.journal_world.proofs.Batches.{batches-take}
use Rattle.journal_world.proofs.Lasts.{IsLastIn, entry-block, last-in, none-in}
use Rattle.journal_world.proofs.Suffixes.{batches-drop, get-drop, get-take}
use Rattle.log_engine.specs.Engine.{HasPending}
use Rattle.journal_steps.specs.Journal.{Agrees}
use Rattle.journal_steps.specs.Unreleased.{KeepsCopy, unreleased}
use Rattle.journal_steps.proofs.Reading.{few, finished-is, last-from, last-newest, revoked-newest}

-- the last entry in the batches after the first r is the last one of all
last-lifted : (r : ℕ) (bs : List Batch) (b k : ℕ) (f : Entry) → IsLastIn (drop r bs) b k f → IsLastIn bs b (r + k) f
last-lifted r bs b k f l = record {
  batch = l.batch;
  stands = sym (get-drop r bs k) ∙ l.stands;
  entry = l.entry;
  last = λ j other low stands has.
      l.last (j - r) other (omega arith) (get-drop r bs (j - r) ∙ ap (slice_get bs) {x = r + (j - r)} {y = j} (omega arith) ∙ stands) has;
}

module _ (j : Journal) (b : ℕ) (agrees : Agrees j) (plain : IsPlain j.engine) where
  abbrev r : ℕ
  r = j.engine.released

  abbrev c : ℕ
  c = j.engine.committed

  fewer : r ≤ c
  fewer = let low : r ≤ j.engine.bound = plain.order.0 in let high : j.engine.bound ≤ c = plain.order.1 in omega arith

  -- those that are committed and not released, and their batches
  abbrev history : History
  history = drop r (take c j.front.sealed)

  abbrev batches : List Batch
  batches = drop r (take c j.engine.accepted)

  are : AreBatchesOf history batches
  are = batches-drop r (take c j.front.sealed) (take c j.engine.accepted) (batches-take c j.front.sealed j.engine.accepted agrees.batches)

  -- their entries come before the unfinished ones
  split : last_effect b (unreleased j) ≡ later (last_effect b history) (last_effect b (unfinished j.front))
  split =
      let sum : r + (c - r) ≡ c = omega (arith, fewer) in
      let all = j.front.sealed ++ j.front.running ∷ [] in
      let first : take (c - r) (drop r all) ≡ history =
      sym (drop-take r (c - r) all) ∙ ap (λ (n : ℕ). drop r (take n all)) sum
      ∙ ap (drop r) (take-append-le c j.front.sealed (j.front.running ∷ []) (few j agrees plain)) in
      let rest : drop (c - r) (drop r all) ≡ unfinished j.front =
      drop-drop (c - r) r all ∙ ap (λ (n : ℕ). drop n all) (sum ∙ sym (finished-is j agrees plain)) in
      last-from b (c - r) (drop r all) ∙ ap₂ (λ (ts us : History). later (last_effect b ts) (last_effect b us)) first rest

  -- the front has the last entry: a copy, or a revoke
  pub front-keeps : (v : List ℕ) → last_effect b (unfinished j.front) ≡ Some (Copy v) → KeepsCopy j b
  front-keeps v some = record { copy = v; last = split ∙ ap (later (last_effect b history)) some }

  pub front-revokes : last_effect b (unfinished j.front) ≡ Some Revoke → KeepsCopy j b → ⊥
  front-revokes some keeps = apart keeps.copy (sym (split ∙ ap (later (last_effect b history)) some) ∙ keeps.last)
    where
      apart : (v : List ℕ) → Some Revoke ≡ Some (Copy v) → ⊥
      apart v same = cc

  -- a pending copy is the last entry
  pending-last : (i : ℕ) (w : List ℕ) → IsPending j.engine i b w → (v : List ℕ) × (last_effect b history ≡ Some (Copy v))
  pending-last i w pending =
      elim (option-known (last_effect b history)) [
        | inl none ↦
            let low : r ≤ i = pending.unreleased in
            let copy = pending.newest.copy in
            let there : slice_get batches (i - r) ≡ Some copy.batch =
            get-drop r (take c j.engine.accepted) (i - r) ∙ ap (slice_get (take c j.engine.accepted)) {x = r + (i - r)} {y = i} (omega (arith, low))
            ∙ get-take c j.engine.accepted i copy.committed ∙ copy.stands in
            absurd (none-in b history batches are none (i - r) copy.batch there (entry-block copy.batch.entries b (Copy w) copy.copy))
        | inr (f, some) ↦ let (k, l) = last-in b history batches f are some in by-entry f some k (last-lifted r (take c j.engine.accepted) b k f l)
      ]
    where
      by-entry : (f : Entry) → last_effect b history ≡ Some f → (k : ℕ) → IsLastIn (take c j.engine.accepted) b (r + k) f →
          (v : List ℕ) × (last_effect b history ≡ Some (Copy v))
      by-entry (Copy v) some k l = (v, some)
      by-entry Revoke some k l = absurd (revoked-newest j.engine j.front.sealed b plain agrees.batches (r + k) l i w pending.newest)

  -- the front has none: the engine tells
  pub engine-keeps : last_effect b (unfinished j.front) ≡ None → HasPending j.engine b ↔ KeepsCopy j b
  engine-keeps none = (
    λ has. let one = pending-last has.transaction has.bytes has.pending in record { copy = one.0; last = alone ∙ one.1 },
    λ keeps.
        let last = last-in b history batches (Copy keeps.copy) are (sym alone ∙ keeps.last) in
        let l = last-lifted r (take c j.engine.accepted) b last.0 (Copy keeps.copy) last.1 in
        record {
          transaction = r + last.0;
          bytes = keeps.copy;
          pending =
              record { newest = last-newest j.engine j.front.sealed b plain agrees.batches (r + last.0) keeps.copy l; unreleased = omega arith };
        },
  )
    where
      alone : last_effect b (unreleased j) ≡ last_effect b history
      alone = split ∙ ap (later (last_effect b history)) none
