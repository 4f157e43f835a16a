-- The batch of a transaction of good steps; front and engine still agree after each step.
use Rattle.std.proofs.Common.{arith, refl, sym, ap, ap₂, subst, ◌∙◌, length-append}
use Rattle.std.specs.Prelude.{◌≡◌, ◌≢◌, ⊤, ℕ, ◌+◌, ◌<◌, ◌≤◌, ◌==◌, max, Bool, true, false, if◌then◌else◌, List, [], ◌∷◌, ◌++◌, length, Option, Some, None, option_map, option_to_list, nat_eq}
use Rattle.std.specs.List.{AllByRecursion, IsDistinct, filter_map}
use Rattle.std.proofs.Math.Nat.{max-eq_left, max-eq_right}
use Rattle.std.proofs.lemmas.Bool.Decides.{nat_tests}
use Rattle.std.proofs.lemmas.List.Elements.{All-from_recursion}
use Rattle.std.proofs.lemmas.Option.{none-some, same_Some}
use Rattle.std.proofs.lemmas.Bool.{true≢false}
use Rattle.journal_model.specs.declared.entry.Batch.{Batch}
use Rattle.journal_model.specs.declared.entry.Entry.{Entry}
use Rattle.journal_model.specs.declared.entry.Entry.TheVariants.{Copy, Revoke}
use Rattle.journal_model.specs.declared.refusal.JournalError.{JournalError}
use Rattle.journal_model.specs.Disk.{Disk, Shape}
use Rattle.journal_model.specs.declared.transaction.Op.{Op}
use Rattle.journal_model.specs.declared.transaction.Op.TheVariants.{Write, Revoke as RevokeOp, Read}
use Rattle.journal_model.specs.declared.transaction.Step.{Step}
use Rattle.journal_model.specs.Block.{IsAllowedBlock}
use Rattle.journal_model.specs.Layout.{Layout}
use Rattle.log_model.specs.Text.{text_blocks}
use Rattle.log_model.specs.Chain.{Ring}
use Rattle.log_model.specs.Opening.{greatest_number}
use Rattle.log_model.specs.Room.{IsCapacity}
use Rattle.journal_model.specs.Transaction.{History, Transaction, copied, effect, entries, entry_of, later, touched}
use Rattle.journal_model.proofs.Effects.{entries-blocks, entries-push_read, touched-distinct}
use Rattle.journal_model.proofs.ListElements.{each-append}
use Rattle.log_model.proofs.OwnTextWhole.{length_own_text}
use Rattle.journal_world.specs.declared.stage.Stage.{Stage}
use Rattle.journal_world.specs.declared.stage.Stage.TheVariants.{Idle, SuperblockWrite, SuperblockFlush, Blocks, CommitWrite, CommitFlush}
use Rattle.block_device.specs.State.{DeviceState}
use Rattle.journal_world.specs.Call.{Call}
use Rattle.journal_world.specs.Engine.{AreBatchesOf, CommitSteps, Engine, HasRoom, IsBatch, accepting, call_due, call_in, stepped_from, text_of}
use Rattle.journal_world.specs.Front.{Front, FrontEvent, FrontHappens, IsOpen, Raises, RevokesBlock, WritesBlock, aborting, finishing, held, next_handle, raising, read_step, reading_block, revoke_step, sealing, write_step}
use Rattle.journal_world.specs.Front.FrontEvent.{Reserve, RefuseReserve, TakeBack, GiveBack, LoadCredits, LoadMark, Join, ExtendHandle, WriteBlock, RevokeBlock, StopHandle, Lock, Raise}
use Rattle.journal_world.specs.Journal.{batch_of}
use Rattle.journal_world.proofs.Batches.{batches-last}
use Rattle.journal_world.proofs.Credits.{held-within}
use Rattle.journal_world.proofs.Onward.{step-unfailed}
use Rattle.journal_world.specs.Sound.{IsPlain, StageAgrees}
use Rattle.log_ledger.specs.Steps.{MayHandOver}
use Rattle.log_engine.specs.Engine.{AcceptRefused, StepRefused}
use Rattle.log_engine.specs.Engine.AcceptRefused.{AfterFailure, MemoryIsShort}
use Rattle.log_engine.specs.Engine.StepRefused.{WasAborted, DeviceFailed}
use Rattle.journal_steps.specs.Journal.TurnRefused.{DeviceFailed as FailedTurn, MemoryIsShort as NoMemory}
use Rattle.journal_steps.specs.Journal.{Agrees, FinishesCommit, HasRoomFor, IsGoodStep, IsWhole, SealIsDue, TurnRefused, need_of}
use Rattle.journal_steps.specs.Handles.{KeepsHandles}
use Rattle.journal_steps.specs.Values.{JournalValue}
use Rattle.journal_steps.proofs.Audited.{kept-beside, read-kept, seal-kept, step-kept}
use Rattle.journal_steps.proofs.Turning.{Keeps, fault-keeps, step-keeps}

-- an allowed block is allowed under equal layout and count
pub allowed-here : {l m : Layout} {count n b : ℕ} → l ≡ m → count ≡ n → IsAllowedBlock l count b → IsAllowedBlock m n b
allowed-here {l} {m} {count} {n} {b} layout same allowed =
    subst (λ (x : Layout). IsAllowedBlock x n b) layout (subst (λ (k : ℕ). IsAllowedBlock l k b) same allowed)

-- the entry is a copy of so many bytes, or a revoke
abbrev IsWholeEntry : ℕ → Entry → Type 0
IsWholeEntry size (Copy v) = length v ≡ size
IsWholeEntry size Revoke = ⊤

-- an entry that good steps may leave
record IsGoodEntry (l : Layout) (shape : Shape) (p : ℕ × Entry) : Type 0 where
  whole : IsWholeEntry shape.block_size p.1
  allowed : IsAllowedBlock l shape.home_blocks p.0

-- one good step leaves a good entry
op-good : (l : Layout) (shape : Shape) (b : ℕ) (op : Op) (e : Entry) → IsWhole shape.block_size op → IsAllowedBlock l shape.home_blocks b →
    entry_of op ≡ Some e → IsGoodEntry l shape (b, e)
op-good l shape b (Write v) e whole allowed leaves =
    subst (λ x. IsGoodEntry l shape (b, x)) (same_Some (Copy v) e leaves) (record { whole = whole; allowed = allowed })
op-good l shape b RevokeOp e whole allowed leaves =
    subst (λ x. IsGoodEntry l shape (b, x)) (same_Some Revoke e leaves) (record { whole = tt; allowed = allowed })
op-good l shape b (Read v) e whole allowed leaves = absurd (none-some e leaves)

-- of its own block
step-good : (l : Layout) (shape : Shape) (b : ℕ) (s : Step) (e : Entry) (here : Bool) → IsGoodStep l shape s → (s.block == b) ≡ here →
    (if here then entry_of s.op else None) ≡ Some e → IsGoodEntry l shape (b, e)
step-good l shape b s e true good is leaves =
    let same : s.block ≡ b = grind (arith, nat_tests) in
    subst (λ (n : ℕ). IsGoodEntry l shape (n, e)) same (op-good l shape s.block s.op e good.whole good.allowed leaves)
step-good l shape b s e false good is leaves = absurd (none-some e leaves)

-- so do a step and the later ones
effect-by : (l : Layout) (shape : Shape) (b : ℕ) (s : Step) (e : Entry) (o : Option Entry) → IsGoodStep l shape s → (o ≡ Some e → IsGoodEntry l shape (b, e)) →
    later (if s.block == b then entry_of s.op else None) o ≡ Some e → IsGoodEntry l shape (b, e)
effect-by l shape b s e None good rest leaves = step-good l shape b s e (s.block == b) good refl leaves
effect-by l shape b s e (Some x) good rest leaves = rest leaves

-- good steps leave a good entry of a block
effect-good : (l : Layout) (shape : Shape) (b : ℕ) (ss : List Step) (e : Entry) → AllByRecursion (IsGoodStep l shape) ss → effect b ss ≡ Some e → IsGoodEntry l shape (b, e)
effect-good l shape b [] e all leaves = absurd (none-some e leaves)
effect-good l shape b (s ∷ ss) e all leaves = effect-by l shape b s e (effect b ss) all.0 (λ rest. effect-good l shape b ss e all.1 rest) leaves

-- a property of the value found first, and of the later ones
found-by : {Y : Type 0} (P : Y → Type 0) (o : Option Y) (ys : List Y) → ((y : Y) → o ≡ Some y → P y) → AllByRecursion P ys →
    AllByRecursion P (option_to_list o ++ ys)
found-by P None ys found all = all
found-by P (Some y) ys found all = (found y refl, all)

-- a function's values in a list, from the first on
found-first : {X Y : Type 0} (h : X → Option Y) (x : X) (xs : List X) (o : Option Y) → h x ≡ o → filter_map h (x ∷ xs) ≡ option_to_list o ++ filter_map h xs
found-first h x xs None is = rw is
found-first h x xs (Some y) is = rw is

-- what holds of each value found holds of all in the list
each-found : {X Y : Type 0} (P : Y → Type 0) (h : X → Option Y) (xs : List X) → ((x : X) (y : Y) → h x ≡ Some y → P y) → AllByRecursion P (filter_map h xs)
each-found P h [] found = tt
each-found P h (x ∷ xs) found =
    subst (AllByRecursion P) (sym (found-first h x xs (h x) refl)) (found-by P (h x) (filter_map h xs) (found x) (each-found P h xs found))

-- an entry found is what the steps leave of its block
entry-found : (b : ℕ) (o : Option Entry) (y : ℕ × Entry) → option_map (λ e. (b, e)) o ≡ Some y → (e : Entry) × (o ≡ Some e) × (y ≡ (b, e))
entry-found b None y is = absurd (none-some y is)
entry-found b (Some e) y is = (e, refl, sym (same_Some (b, e) y is))

-- each entry of good steps is good
entries-good : (l : Layout) (shape : Shape) (ss : List Step) → AllByRecursion (IsGoodStep l shape) ss → AllByRecursion (IsGoodEntry l shape) (entries ss)
entries-good l shape ss all = each-found (IsGoodEntry l shape) (λ b. option_map (λ e. (b, e)) (effect b ss)) (touched ss)
    (λ b y is. let found = entry-found b (effect b ss) y is in subst (IsGoodEntry l shape) (sym found.2) (effect-good l shape b ss found.0 all found.1))

-- its copies are whole blocks
copies-good : (l : Layout) (shape : Shape) (es : List (ℕ × Entry)) → AllByRecursion (IsGoodEntry l shape) es → AllByRecursion (λ c. length c.1 ≡ shape.block_size) (copied es)
copies-good l shape [] all = tt
copies-good l shape ((b, Copy v) ∷ es) all = (all.0.whole, copies-good l shape es all.1)
copies-good l shape ((b, Revoke) ∷ es) all = copies-good l shape es all.1

-- a weaker property of each element
each-weaker : {X : Type 0} (P Q : X → Type 0) → ((x : X) → P x → Q x) → (xs : List X) → AllByRecursion P xs → AllByRecursion Q xs
each-weaker P Q weaker [] all = tt
each-weaker P Q weaker (x ∷ xs) all = (weaker x all.0, each-weaker P Q weaker xs all.1)

-- the engine takes the batch of a transaction of good steps
pub batch-good : (l : Layout) (shape : Shape) (t : Transaction) → AllByRecursion (IsGoodStep l shape) t.steps → IsBatch l shape (batch_of t)
batch-good l shape t all =
    let good = entries-good l shape t.steps all in
    record {
      once = subst (IsDistinct nat_eq) (sym (entries-blocks t.steps)) (touched-distinct t.steps);
      allowed = All-from_recursion _ (entries t.steps) (each-weaker (IsGoodEntry l shape) _ (λ p is. is.allowed) (entries t.steps) good);
      whole = All-from_recursion _ (copied (entries t.steps)) (copies-good l shape (entries t.steps) good);
    }

-- a copy that good steps leave is a whole block
pub copy-good : (l : Layout) (shape : Shape) (b : ℕ) (ss : List Step) (v : List ℕ) → AllByRecursion (IsGoodStep l shape) ss → effect b ss ≡ Some (Copy v) → length v ≡ shape.block_size
copy-good l shape b ss v all leaves = (effect-good l shape b ss (Copy v) all leaves).whole

-- the ring has room for a batch if it has the blocks that its copies and revokes need
pub room-good : (e : Engine) (t : Transaction) → IsPlain e → e.start + need_of e.layout t ≤ e.tail + e.ring.blocks → HasRoom e (batch_of t)
room-good e t plain room =
    let blocks : length (text_blocks (text_of e (batch_of t))) ≡ need_of e.layout t =
    length_own_text e.layout e.uuid t.tid (entries t.steps) plain.layout.0 in
    omega arith

-- if a call is due, a transaction is being committed
busy : (e : Engine) (call : Call) → call_due e ≡ Some call → e.stage ≢ Idle
busy e call due idle = none-some call (sym (ap (call_in e) idle) ∙ due)

-- then one more transaction is accepted than committed
due-one : (e : Engine) (stage : Stage) → StageAgrees e stage → stage ≢ Idle → length e.accepted ≡ e.committed + 1
due-one e Idle agrees busy = absurd (busy refl)
due-one e SuperblockWrite agrees busy = agrees.0
due-one e SuperblockFlush agrees busy = agrees.0
due-one e (Blocks k) agrees busy = agrees.0
due-one e CommitWrite agrees busy = agrees.0
due-one e CommitFlush agrees busy = agrees.0

-- else as many are
idle-all : (e : Engine) → IsPlain e → e.stage ≡ Idle → length e.accepted ≡ e.committed
idle-all e plain idle = (subst (StageAgrees e) idle plain.stage).0

-- a step that leaves a call due commits nothing
pub counts-same : (e : Engine) (stage : Stage) → (stepped_from e stage).stage ≢ Idle → (stepped_from e stage).committed ≡ e.committed
counts-same e Idle busy = refl
counts-same e SuperblockWrite busy = refl
counts-same e SuperblockFlush busy = refl
counts-same e (Blocks k) busy = refl
counts-same e CommitWrite busy = refl
counts-same e CommitFlush busy = absurd (busy refl)

-- no stage after a block is the last
not-idle : (more : Bool) (k : ℕ) → (if more then Blocks (k + 1) else CommitWrite) ≡ Idle → ⊥
not-idle true k is = cc
not-idle false k is = cc

-- a step that leaves no call due commits one transaction
pub counts-one : (e : Engine) (stage : Stage) → stage ≢ Idle → (stepped_from e stage).stage ≡ Idle → (stepped_from e stage).committed ≡ e.committed + 1
counts-one e Idle busy idle = absurd (busy refl)
counts-one e SuperblockWrite busy idle = cc
counts-one e SuperblockFlush busy idle = cc
counts-one e (Blocks k) busy idle = absurd (not-idle _ k idle)
counts-one e CommitWrite busy idle = cc
counts-one e CommitFlush busy idle = refl

module _ (f : Front) (old new : Engine) (agrees : Agrees (record { front = f; engine = old })) (keeps : Keeps old new) where
  batches-kept : AreBatchesOf f.sealed new.accepted
  batches-kept = subst (AreBatchesOf f.sealed) (sym keeps.accepted) agrees.batches

  number-kept : f.running.tid ≡ new.first + length new.accepted
  number-kept = agrees.number ∙ ap₂ (λ (n : ℕ) (bs : List Batch). n + length bs) (sym keeps.first) (sym keeps.accepted)

  steps-kept : AllByRecursion (IsGoodStep new.layout new.shape) f.running.steps
  steps-kept = subst (λ (l : Layout). AllByRecursion (IsGoodStep l new.shape) f.running.steps) (sym keeps.layout)
      (subst (λ (s : Shape). AllByRecursion (IsGoodStep old.layout s) f.running.steps) (sym keeps.shape) agrees.steps)

  capacity-kept : IsCapacity f.layout new.ring.blocks f.capacity
  capacity-kept = subst (λ (x : Ring). IsCapacity f.layout x.blocks f.capacity) (sym keeps.ring) agrees.capacity

  -- front and engine agree after a step that commits nothing, once the front knows whether the engine is aborted
  pub agrees-told : (aborted : Bool) → new.committed ≡ old.committed → new.aborted ≡ aborted → Agrees (record { front = record f { aborted = aborted }; engine = new })
  agrees-told aborted same told = record {
    layout = agrees.layout ∙ sym keeps.layout;
    home_blocks = agrees.home_blocks ∙ sym (ap (λ (s : Shape). s.home_blocks) keeps.shape);
    aborted = sym told;
    batches = batches-kept;
    number = number-kept;
    finished = agrees.finished ∙ ap₂ (λ (a b : ℕ). a + b) (sym keeps.first) (sym same);
    mark = agrees.mark;
    steps = steps-kept;
    joined = agrees.joined;
    locked = agrees.locked;
    capacity = capacity-kept;
    credits = agrees.credits;
    handles = kept-beside f f.finished f.mark aborted agrees.handles;
  }

  -- so it is if the step succeeds
  pub agrees-moved : new.committed ≡ old.committed → new.aborted ≡ old.aborted → Agrees (record { front = f; engine = new })
  agrees-moved same unfailed = agrees-told f.aborted same (unfailed ∙ sym agrees.aborted)

  -- they agree after a step that commits, once the front records and acknowledges it
  pub agrees-done : new.committed ≡ old.committed + 1 → new.aborted ≡ old.aborted →
      Agrees (record { front = raising (finishing f) (finishing f).finished; engine = new })
  agrees-done more unfailed = record {
    layout = agrees.layout ∙ sym keeps.layout;
    home_blocks = agrees.home_blocks ∙ sym (ap (λ (s : Shape). s.home_blocks) keeps.shape);
    aborted = agrees.aborted ∙ sym unfailed;
    batches = batches-kept;
    number = number-kept;
    finished = let told = agrees.finished in let first = keeps.first in omega arith;
    mark = max-eq_right (let mark = agrees.mark in omega arith);
    steps = steps-kept;
    joined = agrees.joined;
    locked = agrees.locked;
    capacity = capacity-kept;
    credits = agrees.credits;
    handles = kept-beside f (f.finished + 1) (max f.mark (f.finished + 1)) f.aborted agrees.handles;
  }

-- they agree after a seal whose entries the engine took
pub agrees-sealed : (f : Front) (old new : Engine) → Agrees (record { front = f; engine = old }) → f.open_handles ≡ [] → new ≡ accepting old (batch_of f.running) →
    Agrees (record { front = sealing f; engine = new })
agrees-sealed f old new agrees none after =
    let accepted : new.accepted ≡ old.accepted ++ batch_of f.running ∷ [] = ap (λ (e : Engine). e.accepted) after in
    let first : new.first ≡ old.first = ap (λ (e : Engine). e.first) after in
    record {
      layout = agrees.layout ∙ sym (ap (λ (e : Engine). e.layout) after);
      home_blocks = agrees.home_blocks ∙ sym (ap (λ (e : Engine). e.shape.home_blocks) after);
      aborted = agrees.aborted ∙ sym (ap (λ (e : Engine). e.aborted) after);
      batches = subst (AreBatchesOf (f.sealed ++ f.running ∷ [])) (sym accepted) (batches-last f.sealed old.accepted f.running agrees.batches);
      number =
          let number = agrees.number in
          let size : length new.accepted ≡ length old.accepted + 1 = ap length accepted ∙ omega (arith, length-append old.accepted (batch_of f.running ∷ [])) in
          omega arith;
      finished = agrees.finished ∙ ap₂ (λ (a b : ℕ). a + b) (sym first) (sym (ap (λ (e : Engine). e.committed) after));
      mark = agrees.mark;
      steps = tt;
      joined = λ some. absurd (omega arith);
      locked = λ is. absurd (true≢false (sym is));
      capacity = subst (λ (x : Ring). IsCapacity f.layout x.blocks f.capacity) (sym (ap (λ (e : Engine). e.ring) after)) agrees.capacity;
      credits = let within : held f ≤ f.capacity = agrees.credits in omega arith;
      handles = seal-kept f none agrees.handles;
    }

-- the engine may take the batch of a transaction whose seal is due
pub may-hand_over : (f : Front) (e : Engine) → Agrees (record { front = f; engine = e }) → IsPlain e → SealIsDue (record { front = f; engine = e }) →
    MayHandOver e (batch_of f.running)
may-hand_over f e agrees plain due = record {
  idle = due.idle;
  number = agrees.number ∙ ap (λ (n : ℕ). e.first + n) (idle-all e plain due.idle);
  left = agrees.joined (agrees.locked due.locked);
  batch = batch-good e.layout e.shape f.running agrees.steps;
}

-- then the running transaction is the first unfinished one
pub all-told : (f : Front) (e : Engine) → Agrees (record { front = f; engine = e }) → IsPlain e → e.stage ≡ Idle → f.finished + 1 ≡ f.running.tid
all-told f e agrees plain idle =
    let count = idle-all e plain idle in
    let told = agrees.finished in
    let number = agrees.number in
    omega arith

-- the engine refuses the batch only if memory runs out
pub refused-seal : {D : Type 0} (state : D → DeviceState) (f : Front) (d : D) (e : Engine) (new : JournalValue D) (r : JournalError) →
    SealIsDue (record { front = f; engine = e }) → HasRoomFor (record { front = f; engine = e }) → AcceptRefused e r →
    new ≡ record { device = d; journal = record { front = f; engine = e } } →
    TurnRefused state (record { device = d; journal = record { front = f; engine = e } }) new r
refused-seal state f d e new r due room (AfterFailure is) same = absurd (true≢false (sym is ∙ due.running))
refused-seal state f d e new r due room (MemoryIsShort running) same = NoMemory due room same

-- front and engine agree after a refused step, once the front is notified
pub agrees-refused : (f front : Front) (old new : Engine) (before after : DeviceState) (e : JournalError) → Agrees (record { front = f; engine = old }) →
    front ≡ aborting f → StepRefused old before new after e → Agrees (record { front = front; engine = new })
agrees-refused f front old new before after e agrees told (WasAborted is same stays counted) =
    subst (λ (x : Front). Agrees (record { front = x; engine = new })) (sym told)
    (subst (λ (x : Engine). Agrees (record { front = aborting f; engine = x })) (sym same)
    (agrees-told f old old agrees (record { shape = refl; layout = refl; accepted = refl; first = refl; ring = refl }) true refl is))
agrees-refused f front old new before after e agrees told (DeviceFailed fault counted) =
    subst (λ (x : Front). Agrees (record { front = x; engine = new })) (sym told)
    (agrees-told f old new agrees (fault-keeps old new before.disk after.disk fault) true (ap (λ (x : Engine). x.committed) fault.engine)
    (ap (λ (x : Engine). x.aborted) fault.engine))

-- they agree after a step that is not the last
pub agrees-step : (f : Front) (old new : Engine) (disk after : Disk) → Agrees (record { front = f; engine = old }) → CommitSteps old disk new after →
    new.stage ≢ Idle → Agrees (record { front = f; engine = new })
agrees-step f old new disk after agrees step going =
    let same : (stepped_from old old.stage).committed ≡ old.committed = counts-same old old.stage (λ idle. going (ap (λ (x : Engine). x.stage) step.engine ∙ idle)) in
    agrees-moved f old new agrees (step-keeps old new disk after step) (ap (λ (x : Engine). x.committed) step.engine ∙ same)
    (step-unfailed old new disk after step)

-- the last step commits one transaction
pub one-more : (old new : Engine) (disk after : Disk) → CommitSteps old disk new after → new.stage ≡ Idle → new.committed ≡ old.committed + 1
one-more old new disk after step idle =
    ap (λ (x : Engine). x.committed) step.engine
    ∙ counts-one old old.stage (busy old step.call step.due) (sym (ap (λ (x : Engine). x.stage) step.engine) ∙ idle)

-- its number is the next that the front finishes
committed-number : (f : Front) (old : Engine) (tid : ℕ) → Agrees (record { front = f; engine = old }) → tid ≡ old.first + old.committed → tid ≡ (finishing f).finished
committed-number f old tid agrees number = number ∙ sym agrees.finished

-- so the front may acknowledge it
pub may-raise : (f done : Front) (old : Engine) (tid : ℕ) → Agrees (record { front = f; engine = old }) → tid ≡ old.first + old.committed → done ≡ finishing f →
    tid ≤ done.finished
may-raise f done old tid agrees number finished =
    let same : tid ≡ f.finished + 1 = committed-number f old tid agrees number in
    subst (λ (x : Front). tid ≤ x.finished) (sym finished) (omega arith)

-- after it they agree, once the front records and acknowledges it
pub agrees-last : (f done front : Front) (old new : Engine) (disk after : Disk) (tid : ℕ) → Agrees (record { front = f; engine = old }) →
    CommitSteps old disk new after → new.stage ≡ Idle → tid ≡ old.first + old.committed → done ≡ finishing f → front ≡ raising done tid →
    Agrees (record { front = front; engine = new })
agrees-last f done front old new disk after tid agrees step idle number finished told =
    subst (λ (x : Front). Agrees (record { front = x; engine = new }))
    (sym (told ∙ ap₂ (λ (x : Front) (t : ℕ). raising x t) finished (committed-number f old tid agrees number)))
    (agrees-done f old new agrees (step-keeps old new disk after step) (one-more old new disk after step idle) (step-unfailed old new disk after step))

-- a refused commit step refuses the turn
pub refused-turn : {D : Type 0} (state : D → DeviceState) (f front : Front) (d other : D) (old new : Engine) (e : JournalError) → old.aborted ≡ false →
    front ≡ aborting f → StepRefused old (state d) new (state other) e →
    TurnRefused state (record { device = d; journal = record { front = f; engine = old } }) (record { device = other; journal = record { front = front; engine = new } }) e
refused-turn state f front d other old new e running told (WasAborted is same stays counted) = absurd (true≢false (sym is ∙ running))
refused-turn state f front d other old new e running told (DeviceFailed fault counted) =
    FailedTurn (record {
      mid = record { front = f; engine = new };
      fails = record { front = refl; engine = fault };
      notifies = record { failed = ap (λ (x : Engine). x.aborted) fault.engine; front = told; engine = refl; disk_is = refl };
    }) counted

-- the last commit step, recorded and acknowledged by the front
pub finishes-commit : {D : Type 0} (state : D → DeviceState) (f done front : Front) (d other : D) (old new : Engine) (tid : ℕ) →
    Agrees (record { front = f; engine = old }) → CommitSteps old (state d).disk new (state other).disk → new.stage ≡ Idle →
    tid ≡ old.first + old.committed → done ≡ finishing f → Raises done tid front →
    FinishesCommit state tid (record { device = d; journal = record { front = f; engine = old } })
    (record { device = other; journal = record { front = front; engine = new } })
finishes-commit state f done front d other old new tid agrees step idle number finished raises = record {
  mid = record { front = f; engine = new };
  done = record { front = done; engine = new };
  commits = record { front = refl; engine = step };
  idle = idle;
  finishes = record {
    committed =
        let told = agrees.finished in
        let first : new.first ≡ old.first = (step-keeps old new (state d).disk (state other).disk step).first in
        let more = one-more old new (state d).disk (state other).disk step idle in
        omega arith;
    front = finished;
    engine = refl;
    disk_is = refl;
  };
  number = committed-number f old tid agrees number ∙ sym (ap (λ (x : Front). x.finished) finished);
  raises = record { front = raises; engine = refl; disk_is = refl };
  told =
      ap (λ (x : Front). x.mark) raises.after ∙ ap (λ (x : Front). max x.mark tid) finished
      ∙ max-eq_right (let same : tid ≡ f.finished + 1 = committed-number f old tid agrees number in let mark = agrees.mark in omega arith);
}

-- a transaction being committed has a lower number than the running one
pub finished-below : (f : Front) (e : Engine) → Agrees (record { front = f; engine = e }) → IsPlain e → e.stage ≢ Idle → f.finished + 1 < f.running.tid
finished-below f e agrees plain going =
    let one = due-one e e.stage plain.stage going in
    let told = agrees.finished in
    let number = agrees.number in
    omega arith

-- the event touches a block
abbrev pub IsTouch : FrontEvent → Type 0
IsTouch (Reserve n) = ⊥
IsTouch (RefuseReserve n) = ⊥
IsTouch (TakeBack n) = ⊥
IsTouch (GiveBack n) = ⊥
IsTouch (LoadCredits found) = ⊥
IsTouch (LoadMark found) = ⊥
IsTouch (Join n) = ⊥
IsTouch (ExtendHandle h n) = ⊥
IsTouch (WriteBlock h b v) = ⊤
IsTouch (RevokeBlock h b) = ⊤
IsTouch (StopHandle h) = ⊥
IsTouch Lock = ⊥
IsTouch (Raise t) = ⊥

-- a front with the same layouts and transactions agrees with the same engine
agrees-like : (f made : Front) (e : Engine) → Agrees (record { front = f; engine = e }) → made.layout ≡ f.layout → made.home_blocks ≡ f.home_blocks →
    made.aborted ≡ f.aborted → made.sealed ≡ f.sealed → made.running.tid ≡ f.running.tid → made.finished ≡ f.finished → made.mark ≡ f.mark →
    AllByRecursion (IsGoodStep e.layout e.shape) made.running.steps → (0 < length made.running.handles → made.running.tid ≤ greatest_number) →
    (made.locked ≡ true → 0 < length made.running.handles) → made.capacity ≡ f.capacity → held made ≤ made.capacity → KeepsHandles made →
    Agrees (record { front = made; engine = e })
agrees-like f made e agrees layout home_blocks aborted sealed tid finished mark steps joined locked capacity credits handles = record {
  layout = layout ∙ agrees.layout;
  home_blocks = home_blocks ∙ agrees.home_blocks;
  aborted = aborted ∙ agrees.aborted;
  batches = subst (λ (ts : History). AreBatchesOf ts e.accepted) (sym sealed) agrees.batches;
  number = tid ∙ agrees.number;
  finished = ap (λ (n : ℕ). n + 1) finished ∙ agrees.finished;
  mark = mark ∙ agrees.mark ∙ sym finished;
  steps = steps;
  joined = joined;
  locked = locked;
  capacity =
      subst (λ (l : Layout). IsCapacity l e.ring.blocks made.capacity) (sym layout)
      (subst (IsCapacity f.layout e.ring.blocks) (sym capacity) agrees.capacity);
  credits = credits;
  handles = handles;
}

-- a step of the front keeps the credits within the capacity
within : (f front made : Front) (event : FrontEvent) → FrontHappens f event front → front ≡ made → held f ≤ f.capacity → held made ≤ made.capacity
within f front made event step is fits = subst (λ (x : Front). held x ≤ x.capacity) is (held-within f front event step fits)

-- and keeps its handles
stepped : (f front made : Front) (event : FrontEvent) → FrontHappens f event front → front ≡ made → KeepsHandles f → KeepsHandles made
stepped f front made event step is kept = subst KeepsHandles is (step-kept f front event step kept)

-- front and engine agree after a front step that touches no block
pub agrees-untouched : (f front : Front) (e : Engine) (event : FrontEvent) → (IsTouch event → ⊥) → FrontHappens f event front →
    Agrees (record { front = f; engine = e }) → Agrees (record { front = front; engine = e })
agrees-untouched f front e (Reserve n) other step agrees =
    subst (λ (x : Front). Agrees (record { front = x; engine = e })) (sym step.after)
    (agrees-like f _ e agrees refl refl refl refl refl refl refl agrees.steps agrees.joined agrees.locked
    refl (within f front _ (Reserve n) step step.after agrees.credits)
    (stepped f front _ (Reserve n) step step.after agrees.handles))
agrees-untouched f front e (RefuseReserve n) other step agrees =
    subst (λ (x : Front). Agrees (record { front = x; engine = e })) (sym step.after)
    (agrees-like f _ e agrees refl refl refl refl refl refl refl agrees.steps agrees.joined agrees.locked
    refl (within f front _ (RefuseReserve n) step step.after agrees.credits)
    (stepped f front _ (RefuseReserve n) step step.after agrees.handles))
agrees-untouched f front e (TakeBack n) other step agrees =
    subst (λ (x : Front). Agrees (record { front = x; engine = e })) (sym step.after)
    (agrees-like f _ e agrees refl refl refl refl refl refl refl agrees.steps agrees.joined agrees.locked
    refl (within f front _ (TakeBack n) step step.after agrees.credits)
    (stepped f front _ (TakeBack n) step step.after agrees.handles))
agrees-untouched f front e (GiveBack n) other step agrees =
    subst (λ (x : Front). Agrees (record { front = x; engine = e })) (sym step.after)
    (agrees-like f _ e agrees refl refl refl refl refl refl refl agrees.steps agrees.joined agrees.locked
    refl (within f front _ (GiveBack n) step step.after agrees.credits)
    (stepped f front _ (GiveBack n) step step.after agrees.handles))
agrees-untouched f front e (LoadCredits found) other step agrees = subst (λ (x : Front). Agrees (record { front = x; engine = e })) (sym step.after) agrees
agrees-untouched f front e (LoadMark found) other step agrees = subst (λ (x : Front). Agrees (record { front = x; engine = e })) (sym step.after) agrees
agrees-untouched f front e (ExtendHandle h n) other step agrees =
    subst (λ (x : Front). Agrees (record { front = x; engine = e })) (sym step.after)
    (agrees-like f _ e agrees refl refl refl refl refl refl refl agrees.steps agrees.joined agrees.locked
    refl (within f front _ (ExtendHandle h n) step step.after agrees.credits)
    (stepped f front _ (ExtendHandle h n) step step.after agrees.handles))
agrees-untouched f front e (Join n) other step agrees =
    let one = length-append f.running.handles (next_handle f ∷ []) in
    subst (λ (x : Front). Agrees (record { front = x; engine = e })) (sym step.after)
    (agrees-like f _ e agrees refl refl refl refl refl refl refl agrees.steps (λ some. step.may.number) (λ is. omega arith)
    refl (within f front _ (Join n) step step.after agrees.credits)
    (stepped f front _ (Join n) step step.after agrees.handles))
agrees-untouched f front e (WriteBlock h b v) other step agrees = absurd (other tt)
agrees-untouched f front e (RevokeBlock h b) other step agrees = absurd (other tt)
agrees-untouched f front e (StopHandle h) other step agrees =
    subst (λ (x : Front). Agrees (record { front = x; engine = e })) (sym step.after)
    (agrees-like f _ e agrees refl refl refl refl refl refl refl agrees.steps agrees.joined agrees.locked
    refl (within f front _ (StopHandle h) step step.after agrees.credits)
    (stepped f front _ (StopHandle h) step step.after agrees.handles))
agrees-untouched f front e Lock other step agrees =
    subst (λ (x : Front). Agrees (record { front = x; engine = e })) (sym step.after)
    (agrees-like f _ e agrees refl refl refl refl refl refl refl agrees.steps agrees.joined (λ is. step.joined)
    refl (within f front _ Lock step step.after agrees.credits)
    (stepped f front _ Lock step step.after agrees.handles))
agrees-untouched f front e (Raise t) other step agrees =
    subst (λ (x : Front). Agrees (record { front = x; engine = e })) (sym step.after)
    (agrees-like f _ e agrees refl refl refl refl refl refl (max-eq_left (let mark = agrees.mark in let low = step.finished in omega arith)) agrees.steps agrees.joined agrees.locked
    refl (within f front _ (Raise t) step step.after agrees.credits)
    (stepped f front _ (Raise t) step step.after agrees.handles))

-- and after a write
pub agrees-written : (f front : Front) (e : Engine) (h b : ℕ) (v : List ℕ) → Agrees (record { front = f; engine = e }) →
    e.layout.block_size ≡ e.shape.block_size → WritesBlock f h b v front → Agrees (record { front = front; engine = e })
agrees-written f front e h b v agrees size step =
    let good : IsGoodStep e.layout e.shape (write_step h b v) = record {
      whole = step.whole ∙ ap (λ (l : Layout). l.block_size) agrees.layout ∙ size;
      allowed = allowed-here agrees.layout agrees.home_blocks step.allowed;
    } in
    subst (λ (x : Front). Agrees (record { front = x; engine = e })) (sym step.after)
    (agrees-like f _ e agrees refl refl refl refl refl refl refl
    (each-append (IsGoodStep e.layout e.shape) f.running.steps (write_step h b v ∷ []) agrees.steps (good, tt)) agrees.joined agrees.locked
    refl (within f front _ (WriteBlock h b v) step step.after agrees.credits)
    (stepped f front _ (WriteBlock h b v) step step.after agrees.handles))

-- and after a revoke
pub agrees-revoked : (f front : Front) (e : Engine) (h b : ℕ) → Agrees (record { front = f; engine = e }) → RevokesBlock f h b front →
    Agrees (record { front = front; engine = e })
agrees-revoked f front e h b agrees step =
    let good : IsGoodStep e.layout e.shape (revoke_step h b) = record { whole = tt; allowed = allowed-here agrees.layout agrees.home_blocks step.allowed } in
    subst (λ (x : Front). Agrees (record { front = x; engine = e })) (sym step.after)
    (agrees-like f _ e agrees refl refl refl refl refl refl refl
    (each-append (IsGoodStep e.layout e.shape) f.running.steps (revoke_step h b ∷ []) agrees.steps (good, tt)) agrees.joined agrees.locked
    refl (within f front _ (RevokeBlock h b) step step.after agrees.credits)
    (stepped f front _ (RevokeBlock h b) step step.after agrees.handles))

-- and after a read
pub agrees-read : (f front : Front) (e : Engine) (h b : ℕ) (v : List ℕ) → Agrees (record { front = f; engine = e }) → length v ≡ e.shape.block_size →
    IsAllowedBlock f.layout f.home_blocks b → IsOpen f h → front ≡ reading_block f h b v → Agrees (record { front = front; engine = e })
agrees-read f front e h b v agrees whole allowed handle after =
    let good : IsGoodStep e.layout e.shape (read_step h b v) = record { whole = whole; allowed = allowed-here agrees.layout agrees.home_blocks allowed } in
    let same : length (entries (f.running.steps ++ read_step h b v ∷ [])) ≡ length (entries f.running.steps) =
    ap (λ (es : List (ℕ × Entry)). length es) (entries-push_read f.running.steps (read_step h b v) refl) in
    let fits : held f ≤ f.capacity = agrees.credits in
    subst (λ (x : Front). Agrees (record { front = x; engine = e })) (sym after)
    (agrees-like f _ e agrees refl refl refl refl refl refl refl
    (each-append (IsGoodStep e.layout e.shape) f.running.steps (read_step h b v ∷ []) agrees.steps (good, tt)) agrees.joined agrees.locked
    refl (omega arith) (read-kept f h b v handle agrees.handles))
