-- The last effect on a block is its last entry in the batches; home has it, if it is a released copy.
use Rattle.std.proofs.Common.{◌≡◌, ◌⊎◌, inl, inr, ℕ, zero, suc, ◌+◌, ◌-◌, ◌<◌, ◌≤◌, List, [], ◌∷◌, map, take, drop, Option, Some, None, arith, refl, sym, ◌∙◌, subst, ap, ap₂}
use Rattle.std.specs.List.{Contains, slice_get}
use Rattle.std.proofs.lemmas.Bool.{cases_lt}
use Rattle.std.proofs.lemmas.List.{drop-take}
use Rattle.std.proofs.lemmas.Option.{none-some, same_Some}
use Rattle.journal_model.proofs.Effects.{effect-entries, entries-blocks, touched-effect}
use Rattle.journal_model.proofs.ListElements.{contains-behind, contains-cases, contains-first, contains-none, option-known}
use Rattle.journal_model.specs.declared.entry.Batch.{Batch}
use Rattle.journal_model.specs.declared.entry.Entry.{Entry}
use Rattle.journal_model.specs.declared.entry.Entry.TheVariants.{Copy, Revoke}
use Rattle.journal_model.specs.declared.number.Area.TheVariants.{Home}
use Rattle.journal_model.specs.declared.transaction.Step.{Step}
use Rattle.journal_model.specs.Disk.{Cell, Disk, Image, IsOneOf, Leaves, held}
use Rattle.journal_model.specs.Transaction.{History, bytes_of, content_of, effect, entries, last_effect, later, touched}
use Rattle.journal_world.specs.Checkpoint.{IsNewestCopy}
use Rattle.journal_world.specs.Engine.{Engine, AreBatchesOf}
use Rattle.journal_world.specs.Sound.{HomeHas, durable_cell}
use Rattle.journal_world.proofs.Batches.{batches-take}
use Rattle.journal_world.proofs.Suffixes.{batches-drop, get-drop, get-take, last-split}

-- the block of an entry is among the blocks of the entries
pub entry-block : (es : List (ℕ × Entry)) (b : ℕ) (f : Entry) → Contains es (b, f) → Contains (map (λ p. p.0) es) b
entry-block [] b f m = absurd (contains-none (b, f) m)
entry-block (p ∷ es) b f m =
    elim (contains-cases p es (b, f) m) [
      | inl same ↦ contains-first p.0 (map (λ q. q.0) es) b (ap (λ (q : ℕ × Entry). q.0) same)
      | inr behind ↦ contains-behind p.0 (map (λ q. q.0) es) b (entry-block es b f behind)
    ]

-- steps without an effect on a block leave no entry of it
pub none-entered : (b : ℕ) (ss : List Step) (es : List (ℕ × Entry)) → es ≡ entries ss → effect b ss ≡ None → Contains (map (λ p. p.0) es) b → ⊥
none-entered b ss es are none m =
    let blocks : map (λ p. p.0) es ≡ touched ss = ap (map (λ (p : ℕ × Entry). p.0)) are ∙ entries-blocks ss in
    let made = touched-effect b ss (subst (λ bs. Contains bs b) blocks m) in
    none-some made.0 (sym none ∙ made.1)

-- if the later of two effects is nothing, so are both
pub none-both : (x y : Option Entry) → later x y ≡ None → (x ≡ None) × (y ≡ None)
none-both x None none = (none, refl)
none-both x (Some f) none = absurd (none-some f (sym none))

-- transactions without an effect on a block have no entry of it
pub none-in : (b : ℕ) (ts : History) (bs : List Batch) → AreBatchesOf ts bs → last_effect b ts ≡ None →
    (j : ℕ) (batch : Batch) → slice_get bs j ≡ Some batch → Contains (map (λ p. p.0) batch.entries) b → ⊥
none-in b [] [] are none j batch stands m = none-some batch stands
none-in b [] (c ∷ bs) are none j batch stands m = are
none-in b (t ∷ ts) [] are none j batch stands m = are
none-in b (t ∷ ts) (c ∷ bs) are none zero batch stands m =
    let both = none-both (effect b t.steps) (last_effect b ts) none in
    none-entered b t.steps batch.entries (sym (ap (λ (x : Batch). x.entries) (same_Some c batch stands)) ∙ are.1) both.0 m
none-in b (t ∷ ts) (c ∷ bs) are none (suc j) batch stands m =
    none-in b ts bs are.2 (none-both (effect b t.steps) (last_effect b ts) none).1 j batch stands m

-- batch i has this entry of block b, the last one
pub record IsLastIn (bs : List Batch) (b i : ℕ) (f : Entry) : Type 0 where
  pub batch : Batch
  pub stands : slice_get bs i ≡ Some batch
  pub entry : Contains batch.entries (b, f)
  pub last : (j : ℕ) (other : Batch) → i < j → slice_get bs j ≡ Some other → Contains (map (λ p. p.0) other.entries) b → ⊥

-- the first transaction's effect is the last entry, if the others have none
last-first : (b : ℕ) (ss : List Step) (ts : History) (c : Batch) (bs : List Batch) (f : Entry) → c.entries ≡ entries ss → AreBatchesOf ts bs →
    effect b ss ≡ Some f → last_effect b ts ≡ None → IsLastIn (c ∷ bs) b 0 f
last-first b ss ts c bs f are rest made none = record {
  batch = c;
  stands = refl;
  entry = subst (λ es. Contains es (b, f)) (sym are) (effect-entries ss b f made);
  last = λ j. elim j as (λ j. (other : Batch) → 0 < j → slice_get (c ∷ bs) j ≡ Some other → Contains (map (λ p. p.0) other.entries) b → ⊥) [
    | zero ↦ λ other low stands m. omega arith
    | suc j ↦ λ other low stands m. none-in b ts bs rest none j other stands m
  ];
}

-- the last entry of the later batches is the last one of all
last-behind : (b i : ℕ) (c : Batch) (bs : List Batch) (f : Entry) → IsLastIn bs b i f → IsLastIn (c ∷ bs) b (suc i) f
last-behind b i c bs f l = record {
  batch = l.batch;
  stands = l.stands;
  entry = l.entry;
  last = λ j. elim j as (λ j. (other : Batch) → suc i < j → slice_get (c ∷ bs) j ≡ Some other → Contains (map (λ p. p.0) other.entries) b → ⊥) [
    | zero ↦ λ other low stands m. omega arith
    | suc j ↦ λ other low stands m. l.last j other (omega arith) stands m
  ];
}

-- the last effect on a block is the last entry of it in the batches
pub last-in : (b : ℕ) (ts : History) (bs : List Batch) (f : Entry) → AreBatchesOf ts bs → last_effect b ts ≡ Some f → (i : ℕ) × IsLastIn bs b i f
last-in b [] bs f are made = absurd (none-some f made)
last-in b (t ∷ ts) [] f are made = absurd are
last-in b (t ∷ ts) (c ∷ bs) f are made =
    elim (option-known (last_effect b ts)) [
      | inl none ↦
          (0, last-first b t.steps ts c bs f are.1 are.2 (sym (ap (later (effect b t.steps)) none) ∙ made) none)
      | inr (g, some) ↦
          let same : Some g ≡ Some f = sym (ap (later (effect b t.steps)) some) ∙ made in
          let (i, l) = last-in b ts bs f are.2 (some ∙ same) in
          (suc i, last-behind b i c bs f l)
    ]

module _ (e : Engine) (r m : ℕ) (ts : History) (are : AreBatchesOf ts e.accepted) where
  -- the last entry is among the first r, if the next m have none
  last-before : (b i : ℕ) (f : Entry) → last_effect b (take m (drop r ts)) ≡ None → IsLastIn (take (r + m) e.accepted) b i f → i < r
  last-before b i f none l =
      elim (cases_lt i r) [
        | inl below ↦ below
        | inr low ↦
            let there : slice_get (take m (drop r e.accepted)) (i - r) ≡ Some l.batch =
            ap (λ (bs : List Batch). slice_get bs (i - r)) (sym (drop-take r m e.accepted))
            ∙ get-drop r (take (r + m) e.accepted) (i - r)
            ∙ ap (slice_get (take (r + m) e.accepted)) {x = r + (i - r)} {y = i} (omega arith)
            ∙ l.stands in
            absurd (none-in b (take m (drop r ts)) (take m (drop r e.accepted)) (batches-take m (drop r ts) (drop r e.accepted) (batches-drop r ts e.accepted are))
            none (i - r) l.batch there (entry-block l.batch.entries b f l.entry))
      ]

  -- a copy of the first r transactions, with no later effect, is the newest of its block
  pub newest-left : (b i : ℕ) (v : List ℕ) → r ≤ e.committed → e.committed ≤ r + m → i < r →
      IsLastIn (take (r + m) e.accepted) b i (Copy v) → IsNewestCopy e i b v
  newest-left b i v least most below l = record {
    copy = record {
      batch = l.batch;
      committed = omega arith;
      stands = sym (get-take (r + m) e.accepted i (omega arith)) ∙ l.stands;
      copy = l.entry;
    };
    last = λ j other low high stands has. l.last j other low (get-take (r + m) e.accepted j (omega arith) ∙ stands) has;
  }

  -- home has it durable, if the first r transactions are home
  made-home : (disk : Disk) (b : ℕ) (v : List ℕ) → HomeHas e disk r → r ≤ e.committed → e.committed ≤ r + m →
      last_effect b (take r ts) ≡ Some (Copy v) → last_effect b (take m (drop r ts)) ≡ None → disk Home b ≡ durable_cell v
  made-home disk b v home least most made none =
      let whole : last_effect b (take (r + m) ts) ≡ Some (Copy v) = last-split b r m ts ∙ ap₂ later made none in
      let (i, l) = last-in b (take (r + m) ts) (take (r + m) e.accepted) (Copy v) (batches-take (r + m) ts e.accepted are) whole in
      let below : i < r = last-before b i (Copy v) none l in
      home i b v (newest-left b i v least most below l) below

-- what is left of a durable block of home is what it reads
home-left : (disk : Disk) (image : Image) (b : ℕ) (v : List ℕ) → Leaves disk image → disk Home b ≡ durable_cell v → image Home b ≡ v
home-left disk image b v leaves durable = only (subst (λ (c : Cell). IsOneOf (held c) (image Home b)) durable (leaves.each Home b))
  where
    only : (image Home b ≡ v) ⊎ ⊥ → image Home b ≡ v
    only (inl is) = is
    only (inr none) = absurd none

-- the later of two effects leaves the second's bytes, if home has what the first copies
bytes-later : (x y : Option Entry) (home : List ℕ) → ((v : List ℕ) → x ≡ Some (Copy v) → y ≡ None → home ≡ v) →
    bytes_of (content_of y) home ≡ bytes_of (content_of (later x y)) home
bytes-later x (Some f) home has = refl
bytes-later None None home has = refl
bytes-later (Some Revoke) None home has = refl
bytes-later (Some (Copy v)) None home has = has v refl refl

-- if the first r transactions are home, the later ones leave the same home as all
pub bytes-left : (e : Engine) (disk : Disk) (image : Image) (r m : ℕ) (ts : History) (b : ℕ) → Leaves disk image → HomeHas e disk r →
    r ≤ e.committed → e.committed ≤ r + m → AreBatchesOf ts e.accepted →
    bytes_of (content_of (last_effect b (take m (drop r ts)))) (image Home b) ≡ bytes_of (content_of (last_effect b (take (r + m) ts))) (image Home b)
bytes-left e disk image r m ts b leaves home least most are =
    bytes-later (last_effect b (take r ts)) (last_effect b (take m (drop r ts))) (image Home b)
    (λ v made none. home-left disk image b v leaves (made-home e r m ts are disk b v home least most made none))
    ∙ ap (λ (o : Option Entry). bytes_of (content_of o) (image Home b)) (sym (last-split b r m ts))
