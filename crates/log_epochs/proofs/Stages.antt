-- What an opening keeps at each stage, over each call, also failed ones.
use Rattle.std.proofs.Common.{refl, sym, ◌∙◌, ap, subst, inl, inr, ⊎_elim}
use Rattle.std.specs.Prelude.{◌≡◌, ◌≢◌, ◌⊎◌, ℕ, List, Option}
use Rattle.log_model.specs.declared.log.Text.{Text}
use Rattle.journal_model.specs.declared.number.Area.{Area}
use Rattle.journal_model.specs.declared.number.Area.TheVariants.{Log, Home}
use Rattle.journal_model.specs.Disk.{Cell, Disk, Image, IsOneOf, Shape, flushed, held, reading, written}
use Rattle.log_model.specs.HomeChange.{HomeAddsOnly}
use Rattle.log_model.specs.Opening.{HasChain, IsClean}
use Rattle.log_model.specs.Replay.{HasNoLive, IsNewest, IsReplayed}
use Rattle.journal_world.specs.Call.{Call, IsAfterFault, after_success}
use Rattle.journal_world.specs.Call.Call.{Flush}
use Rattle.journal_world.specs.Call.IsAfterFault.{Undone}
use Rattle.journal_world.specs.Opening.{IsOpenedLog, cleaned}
use Rattle.journal_world.specs.Sound.{durable_cell}
use Rattle.journal_world.proofs.Places.{IsWrite, is_write-fault, is_write-written, written-there}
use Rattle.log_epochs.specs.OpeningSteps.{Found, IsFound, OpeningCall, OpeningStage, clean_superblock, next_of}
use Rattle.log_epochs.specs.OpeningSteps.OpeningCall.{FlushClean, FlushLog, CopyHome, FlushHome, WriteSuperblock, FlushSuperblock}
use Rattle.log_epochs.specs.OpeningSteps.OpeningStage.{LogFlush, Copies, SuperblockWrite, SuperblockFlush, Done}
use Rattle.log_epochs.proofs.ReplayMoments.{IsHomeDone, IsReplaying}
use Rattle.log_epochs.specs.EnginePromise.{KeepsNow}
use Rattle.log_epochs.specs.Epoch.{Epoch, pinning, pinning_at}
use Rattle.log_epochs.proofs.CleanLogs.{opened-clean, opened-replayed}
use Rattle.log_epochs.proofs.Homes.{IsWritingHome, copying-fault, copying-flushed, copying-same, copying-written, held-read}
use Rattle.log_epochs.proofs.Keeping.{IsFlushed, flush-keeps, pin-keeps, pinning-pins, replaying-keeps}
use Rattle.log_epochs.proofs.Replaying.{durable-one}

-- the log is flushed, and home gained newest copies alone
pub record IsCopying (shape : Shape) (found : Found) (base : Disk) (epoch : Option Epoch) (disk : Disk) : Type 0 where
  pub has : HasChain shape found.image found.texts
  pub flush : IsFlushed shape found epoch base
  pub writing : IsWritingHome (IsNewest found.texts) base disk

-- home is durable with all of them
pub record IsCopied (shape : Shape) (found : Found) (base : Disk) (epoch : Option Epoch) (disk : Disk) : Type 0 where
  pub copying : IsCopying shape found base epoch disk
  pub done : IsHomeDone shape.home_blocks found.texts base disk
  pub replayed : IsReplayed shape.home_blocks found.texts (found.image Home) (reading disk Home)

-- of the log block 0 alone is written
pub record IsCleaning (shape : Shape) (found : Found) (base : Disk) (epoch : Option Epoch) (disk : Disk) : Type 0 where
  pub has : HasChain shape found.image found.texts
  pub flush : IsFlushed shape found epoch base
  pub home : HomeAddsOnly (IsNewest found.texts) base disk
  pub done : IsHomeDone shape.home_blocks found.texts base disk
  pub replayed : IsReplayed shape.home_blocks found.texts (found.image Home) (reading disk Home)
  pub log : (n : ℕ) → n ≢ 0 → disk Log n ≡ base Log n
  pub block_0 : (v : List ℕ) → IsOneOf (held (disk Log 0)) v → IsOneOf (held (base Log 0)) v ⊎ (v ≡ clean_superblock found)

-- block 0 reads as the new superblock
pub record IsCleaned (shape : Shape) (found : Found) (base : Disk) (epoch : Option Epoch) (disk : Disk) : Type 0 where
  pub cleaning : IsCleaning shape found base epoch disk
  pub reads : (disk Log 0).reads ≡ clean_superblock found

-- a clean log is untouched; else home is replayed, and only block 0 of the log is new
pub data IsWhole (shape : Shape) (found : Found) (base disk : Disk) : Type 0 where
  Untouched : IsClean shape found.image → disk ≡ base → IsWhole shape found base disk
  Replayed : HasChain shape found.image found.texts → IsReplaying shape.home_blocks found.texts (clean_superblock found) base disk →
      IsReplayed shape.home_blocks found.texts (found.image Home) (reading disk Home) → IsWhole shape found base disk

-- the opening may answer Ok: the log is opened
pub record IsDone (shape : Shape) (found : Found) (base : Disk) (epoch : Option Epoch) (disk : Disk) : Type 0 where
  pub flush : IsFlushed shape found epoch base
  pub keeps : KeepsNow shape epoch disk
  pub log : IsOpenedLog shape disk (cleaned (found.image Log 0) (next_of found)) (next_of found)
  pub whole : IsWhole shape found base disk

-- nothing is written yet
pub record IsRead (shape : Shape) (found : Found) (base : Disk) (epoch : Option Epoch) (disk : Disk) : Type 0 where
  pub read : found.image ≡ reading disk
  pub base_is : base ≡ flushed disk Log
  pub keeps : KeepsNow shape epoch disk

-- the invariant of each stage, over the flushed disk
abbrev pub StageHolds : Shape → Found → Disk → OpeningStage → Option Epoch → Disk → Type 0
StageHolds shape found base LogFlush epoch disk = IsRead shape found base epoch disk
StageHolds shape found base Copies epoch disk = IsCopying shape found base epoch disk
StageHolds shape found base SuperblockWrite epoch disk = IsCopied shape found base epoch disk
StageHolds shape found base SuperblockFlush epoch disk = IsCleaned shape found base epoch disk
StageHolds shape found base Done epoch disk = IsDone shape found base epoch disk

-- the copies that are written are moments of the replay
pub copying-replaying : (shape : Shape) (found : Found) (base disk : Disk) → IsWritingHome (IsNewest found.texts) base disk →
    IsReplaying shape.home_blocks found.texts (clean_superblock found) base disk
copying-replaying shape found base disk is = record {
  home = is.home;
  log = λ n other. inl (is.log n);
  block_0 = λ v one. inl (subst (λ (c : Cell). IsOneOf (held c) v) (is.log 0) one);
}

copying-keeps : (shape : Shape) (found : Found) (base : Disk) (epoch : Option Epoch) (disk : Disk) → IsFound shape found → IsCopying shape found base epoch disk → KeepsNow shape epoch disk
copying-keeps shape found base epoch disk is c = replaying-keeps shape found epoch base disk is c.has c.flush (copying-replaying shape found base disk c.writing)

-- the cleaning of the log is a moment of the replay
pub cleaning-replaying : (shape : Shape) (found : Found) (base : Disk) (epoch : Option Epoch) (disk : Disk) → IsCleaning shape found base epoch disk →
    IsReplaying shape.home_blocks found.texts (clean_superblock found) base disk
cleaning-replaying shape found base epoch disk c = record {
  home = c.home;
  log = λ n other. inl (c.log n other);
  block_0 = λ v one. ⊎_elim (λ was. inl was) (λ new. inr (new, c.done)) (c.block_0 v one);
}

cleaning-keeps : (shape : Shape) (found : Found) (base : Disk) (epoch : Option Epoch) (disk : Disk) → IsFound shape found → IsCleaning shape found base epoch disk → KeepsNow shape epoch disk
cleaning-keeps shape found base epoch disk is c = replaying-keeps shape found epoch base disk is c.has c.flush (cleaning-replaying shape found base epoch disk c)

-- at each stage each crash image keeps the epoch's promise
pub stage-keeps : (shape : Shape) (found : Found) (base : Disk) (stage : OpeningStage) (epoch : Option Epoch) (disk : Disk) → IsFound shape found →
    StageHolds shape found base stage epoch disk → KeepsNow shape epoch disk
stage-keeps shape found base LogFlush epoch disk is holds = holds.keeps
stage-keeps shape found base Copies epoch disk is holds = copying-keeps shape found base epoch disk is holds
stage-keeps shape found base SuperblockWrite epoch disk is holds = copying-keeps shape found base epoch disk is holds.copying
stage-keeps shape found base SuperblockFlush epoch disk is holds = cleaning-keeps shape found base epoch disk is holds.cleaning
stage-keeps shape found base Done epoch disk is holds = holds.keeps

-- the flush of the log makes durable what was read
flushed-base : (shape : Shape) (found : Found) (base : Disk) (epoch : Option Epoch) (disk : Disk) → IsRead shape found base epoch disk →
    IsFlushed shape found (pinning epoch (reading disk)) base
flushed-base shape found base epoch disk is =
    subst (IsFlushed shape found (pinning epoch (reading disk))) (sym is.base_is) (record {
      log = λ n. ap (λ (i : Image). durable_cell (i Log n)) (sym is.read);
      home = λ b. ap (λ (i : Image). i Home b) (sym is.read);
      pin = pinning-pins epoch (reading disk);
      keeps = pin-keeps shape epoch disk is.keeps;
    })

-- a home that reads as the replay makes it is done once flushed
flushed-done : (shape : Shape) (found : Found) (epoch : Option Epoch) (base disk : Disk) → IsFlushed shape found epoch base →
    IsReplayed shape.home_blocks found.texts (found.image Home) (reading disk Home) → IsHomeDone shape.home_blocks found.texts base (flushed disk Home)
flushed-done shape found epoch base disk flush replayed b v below one =
    let is : v ≡ (disk Home b).reads = ⊎_elim (λ same. same) (λ none. absurd none) one in
    ⊎_elim (λ newest. inl (subst (IsNewest found.texts b) (sym is) newest))
    (λ none. inr (none.0, inl (is ∙ none.1 ∙ sym (flush.home b)))) (replayed b below)

-- the write of block 0, also a failed one, leads to the cleaning
pub cleaning-write : (shape : Shape) (found : Found) (base : Disk) (epoch : Option Epoch) (disk after : Disk) → IsCopied shape found base epoch disk →
    IsWrite disk after 0 (clean_superblock found) → IsCleaning shape found base epoch after
cleaning-write shape found base epoch disk after c write =
    let w = c.copying.writing in
    let home : (b : ℕ) → after Home b ≡ disk Home b = write.home.same in
    record {
      has = c.copying.has;
      flush = c.copying.flush;
      home = record {
        reads = λ b. subst (λ (cell : Cell). (cell.reads ≡ (base Home b).reads) ⊎ IsNewest found.texts b cell.reads) (sym (home b)) (w.home.reads b);
        left = λ b v one. w.home.left b v (subst (λ (cell : Cell). IsOneOf (held cell) v) (home b) one);
      };
      done = λ b v below one. c.done b v below (subst (λ (cell : Cell). IsOneOf (held cell) v) (home b) one);
      replayed = λ b below.
          subst (λ (cell : Cell). IsNewest found.texts b cell.reads ⊎ (HasNoLive found.texts b × (cell.reads ≡ found.image Home b))) (sym (home b)) (c.replayed b below);
      log = λ n other. write.others n (λ zero. other zero) ∙ w.log n;
      block_0 = λ v one.
          ⊎_elim (λ new. inr new) (λ was. inl (subst (λ (cell : Cell). IsOneOf (held cell) v) (w.log 0) was)) (write.there v one);
    }

-- a flushed log keeps its cells, or makes what they read durable
flushed-replaying : (count : ℕ) (texts : List Text) (superblock : List ℕ) (base disk : Disk) → ((n : ℕ) → n ≢ 0 → disk Log n ≡ base Log n) →
    IsReplaying count texts superblock base disk → IsReplaying count texts superblock base (flushed disk Log)
flushed-replaying count texts superblock base disk log is = record {
  home = record { reads = is.home.reads; left = is.home.left };
  log = λ n other. inr (ap (λ (c : Cell). durable_cell c.reads) (log n other));
  block_0 = λ v one. is.block_0 v (held-read (disk Log 0) v one);
}

-- the flush of the new superblock ends the opening
cleaned-done : (shape : Shape) (found : Found) (base : Disk) (epoch : Option Epoch) (disk : Disk) → IsFound shape found → IsCleaned shape found base epoch disk →
    IsDone shape found base epoch (flushed disk Log)
cleaned-done shape found base epoch disk is c = record {
  flush = c.cleaning.flush;
  keeps = flush-keeps shape epoch disk Log (cleaning-keeps shape found base epoch disk is c.cleaning);
  log =
      opened-replayed shape found (flushed disk Log) is c.cleaning.has (ap durable_cell c.reads)
      (λ n v other one.
      let was : IsOneOf (held (disk Log n)) v = held-read (disk Log n) v one in
      durable-one (base Log n) (found.image Log n) v (c.cleaning.flush.log n)
      (subst (λ (cell : Cell). IsOneOf (held cell) v) (c.cleaning.log n other) was));
  whole =
      Replayed c.cleaning.has
      (flushed-replaying shape.home_blocks found.texts (clean_superblock found) base disk c.cleaning.log (cleaning-replaying shape found base epoch disk c.cleaning))
      c.cleaning.replayed;
}

-- each call that succeeds leads to the next stage
pub call-holds : (shape : Shape) (found : Found) (base : Disk) (stage next : OpeningStage) (call : Call) (epoch : Option Epoch) (disk : Disk) → IsFound shape found →
    OpeningCall shape found disk stage call next → StageHolds shape found base stage epoch disk →
    StageHolds shape found base next (pinning_at stage epoch (reading disk)) (after_success call disk)
call-holds shape found base stage next call epoch disk is (FlushClean clean) holds =
    let first = flushed-base shape found base epoch disk holds in
    subst (λ (d : Disk). IsDone shape found base (pinning epoch (reading disk)) d) holds.base_is
    (record { flush = first; keeps = first.keeps; log = opened-clean shape found base is clean first.log; whole = Untouched clean refl })
call-holds shape found base stage next call epoch disk is (FlushLog has) holds =
    let first = flushed-base shape found base epoch disk holds in
    subst (λ (d : Disk). IsCopying shape found base (pinning epoch (reading disk)) d) holds.base_is
    (record { has = has; flush = first; writing = copying-same (IsNewest found.texts) base })
call-holds shape found base stage next call epoch disk is (CopyHome b v newest) holds = record {
  has = holds.has;
  flush = holds.flush;
  writing = copying-written (IsNewest found.texts) base disk b v newest holds.writing;
}
call-holds shape found base stage next call epoch disk is (FlushHome replayed) holds = record {
  copying = record { has = holds.has; flush = holds.flush; writing = copying-flushed (IsNewest found.texts) base disk holds.writing };
  done = flushed-done shape found epoch base disk holds.flush replayed;
  replayed = replayed;
}
call-holds shape found base stage next call epoch disk is WriteSuperblock holds = record {
  cleaning = cleaning-write shape found base epoch disk (written disk Log 0 (clean_superblock found)) holds (is_write-written disk 0 (clean_superblock found));
  reads = ap (λ (c : Cell). c.reads) (written-there disk 0 (clean_superblock found));
}
call-holds shape found base stage next call epoch disk is FlushSuperblock holds = cleaned-done shape found base epoch disk is holds

-- a failed flush changed nothing
pub flush-undone : (area : Area) (old new : Disk) → IsAfterFault (Flush area) old new → new ≡ old
flush-undone area old new (Undone call x y same) = same

-- a failed flush keeps the promise
pub undone-keeps : (shape : Shape) (epoch : Option Epoch) (area : Area) (disk after : Disk) → IsAfterFault (Flush area) disk after →
    KeepsNow shape epoch disk → KeepsNow shape epoch after
undone-keeps shape epoch area disk after fault keeps = subst (KeepsNow shape epoch) (sym (flush-undone area disk after fault)) keeps

-- a failed call keeps the promise
pub fault-keeps : (shape : Shape) (found : Found) (base : Disk) (stage next : OpeningStage) (call : Call) (epoch : Option Epoch) (disk after : Disk) → IsFound shape found →
    OpeningCall shape found disk stage call next → StageHolds shape found base stage epoch disk → IsAfterFault call disk after → KeepsNow shape epoch after
fault-keeps shape found base stage next call epoch disk after is (FlushClean clean) holds fault = undone-keeps shape epoch Log disk after fault holds.keeps
fault-keeps shape found base stage next call epoch disk after is (FlushLog has) holds fault = undone-keeps shape epoch Log disk after fault holds.keeps
fault-keeps shape found base stage next call epoch disk after is (CopyHome b v newest) holds fault =
    copying-keeps shape found base epoch after is
    (record { has = holds.has; flush = holds.flush; writing = copying-fault (IsNewest found.texts) base disk after b v newest holds.writing fault })
fault-keeps shape found base stage next call epoch disk after is (FlushHome replayed) holds fault =
    undone-keeps shape epoch Home disk after fault (copying-keeps shape found base epoch disk is holds)
fault-keeps shape found base stage next call epoch disk after is WriteSuperblock holds fault =
    cleaning-keeps shape found base epoch after is (cleaning-write shape found base epoch disk after holds (is_write-fault disk after 0 (clean_superblock found) fault))
fault-keeps shape found base stage next call epoch disk after is FlushSuperblock holds fault =
    undone-keeps shape epoch Log disk after fault (cleaning-keeps shape found base epoch disk is holds.cleaning)
