-- What each crash image keeps once a close has written the clean superblock.
use Rattle.std.proofs.Common.{refl, sym, ◌∙◌, ap, subst, arith, inl, inr, ⊎_elim}
use Rattle.std.specs.Prelude.{◌≡◌, ℕ, ◌+◌, ◌<◌, ◌≤◌, ◌==◌, true, false, if◌then◌else◌, List, [], length, take, Some}
use Rattle.std.proofs.lemmas.Bool.{cases_eq}
use Rattle.std.proofs.lemmas.Bool.Decides.{nat_tests}
use Rattle.journal_model.specs.declared.number.Area.{Area}
use Rattle.journal_model.specs.declared.number.Area.TheVariants.{Log, Home}
use Rattle.log_model.specs.Chain.{ring_place}
use Rattle.journal_model.specs.Disk.{Cell, Disk, Image, IsOneOf, Leaves, Shape, held}
use Rattle.log_model.specs.Opening.{IsClean, Opens, numbered_below, super_of}
use Rattle.log_model.specs.Opening.HasLimit.{OfClean}
use Rattle.log_model.specs.Superblock.{super_in}
use Rattle.journal_model.specs.Transaction.{History, after, bytes_of, content_of, last_effect}
use Rattle.journal_world.specs.declared.stage.Stage.{Stage}
use Rattle.journal_world.specs.Engine.{AreBatchesOf, Engine, due_blocks}
use Rattle.journal_world.specs.Opening.{IsBehind, IsSuperblock, NamesNothing}
use Rattle.journal_world.specs.Sound.{HomeHas, OpensTo, Sound, StageAgrees, handed, position}
use Rattle.journal_world.proofs.Around.{each-around}
use Rattle.journal_world.proofs.Batches.{count-below}
use Rattle.journal_world.proofs.HomeRights.{HomeRight, rightly-left}
use Rattle.journal_world.proofs.Lasts.{bytes-left}
use Rattle.journal_world.proofs.Left.{behind-left}
use Rattle.journal_world.proofs.Openings.{clean-opens}
use Rattle.journal_world.proofs.Places.{IsWrite, place-above}
use Rattle.journal_world.proofs.Superblocks.{first-above, names-superblock}
use Rattle.log_epochs.specs.EnginePromise.{IsClosed, KeepsImage, KeepsNow}
use Rattle.log_epochs.specs.EngineSteps.{MayClose, closed_superblock}
use Rattle.log_epochs.proofs.CleanLogs.{IsCleanTail, clean-tail}
use Rattle.log_epochs.proofs.Running.{IsRunning, batches-numbered, running-keeps, running_epoch}

-- the image with another block 0
with_first : Image → List ℕ → Image
with_first image v Log n = if n == 0 then v else image Log n
with_first image v Home b = image Home b

module _ (e : Engine) (disk after_write : Disk) (image : Image) (sound : Sound e disk) (may : MayClose e) (write : IsWrite disk after_write 0 (closed_superblock e)) (leaves : Leaves after_write image) where
  -- the image with the earlier superblock
  abbrev earlier : Image
  earlier = with_first image (disk Log 0).reads

  earlier-other : (n : ℕ) → (n ≡ 0 → ⊥) → earlier Log n ≡ image Log n
  unfolding with_first
  earlier-other n other = let test : (n == 0) ≡ false = grind (arith, nat_tests) in rw test

  earlier-left : Leaves disk earlier
  unfolding with_first
  earlier-left = record { each = each }
    where
      each : (a : Area) (n : ℕ) → IsOneOf (held (disk a n)) (earlier a n)
      each Log n =
          elim (cases_eq n 0) [
            | inl same ↦
                let test : (n == 0) ≡ true = grind (arith, nat_tests) in
                rw test (subst (λ (k : ℕ). IsOneOf (held (disk Log k)) (disk Log 0).reads) (sym same) (inl refl))
            | inr other ↦
                let test : (n == 0) ≡ false = grind (arith, nat_tests) in
                rw test (subst (λ (c : Cell). IsOneOf (held c) (image Log n)) (write.others n other) (leaves.each Log n))
          ]
      each Home b = subst (λ (c : Cell). IsOneOf (held c) (image Home b)) (write.home.same b) (leaves.each Home b)

  -- all accepted transactions are committed
  all-committed : length e.accepted ≡ e.committed
  all-committed = (subst (StageAgrees e) may.idle sound.plain.stage).0

  -- all committed transactions are released
  all-released : e.start ≡ e.tail
  all-released = sound.plain.start ∙ ap (position e) (sym may.released) ∙ sym sound.plain.tail

  is-superblock : IsSuperblock e.shape e.layout e.ring e.superblock
  is-superblock = names-superblock e e.started e.superblock sound.plain.names

  -- no ring block has the next number
  ring-left : (k : ℕ) → e.tail ≤ k → k < e.tail + e.ring.blocks → IsBehind (e.first + e.committed) (image Log (ring_place e.ring k))
  ring-left k low high =
      let same : e.start ≡ e.tail = all-released in
      let first : 0 < e.ring.first = first-above e.shape e.ring e.superblock is-superblock in
      subst (IsBehind (e.first + e.committed)) (earlier-other (ring_place e.ring k) (place-above e.ring k first))
      (elim (behind-left e disk earlier sound earlier-left k (omega arith) high) [
        | inl behind ↦ behind
        | inr own ↦
            let none : handed e.stage (length (due_blocks e)) ≡ 0 = ap (λ (s : Stage). handed s (length (due_blocks e))) may.idle in
            let handed_over = own.handed_over in
            absurd (omega arith)
      ])

  -- the superblock names the next transaction
  tail-left : IsCleanTail e.shape e.superblock (closed_superblock e) (e.first + e.committed)
  tail-left =
      let all : length e.accepted ≡ e.committed = all-committed in
      let numbers = sound.plain.numbers in
      clean-tail e.shape e.superblock (e.first + e.committed) is-superblock.accepted is-superblock.size (omega arith)

  closed-names : image Log 0 ≡ closed_superblock e → NamesNothing e.shape e.layout e.ring (e.first + e.committed) (image Log 0)
  closed-names is =
      let tail = tail-left in
      let sequence : (super_in (closed_superblock e)).s_sequence ≡ e.first + e.committed = tail.sequence in
      subst (NamesNothing e.shape e.layout e.ring (e.first + e.committed)) (sym is) (record {
        is_superblock = record { accepted = tail.accepted; size = tail.size; layout_is = tail.layout ∙ is-superblock.layout_is; ring_is = tail.ring ∙ is-superblock.ring_is };
        clean = tail.clean;
        low = omega arith;
        high = omega arith;
      })

  -- home has all copies
  home-left : (ts : History) (b : ℕ) → AreBatchesOf ts e.accepted → image Home b ≡ bytes_of (after ts e.committed b) (image Home b)
  unfolding with_first
  home-left ts b are =
      let home : HomeHas e disk e.committed = subst (HomeHas e disk) may.released sound.home in
      let sum : e.committed + 0 ≡ e.committed = omega arith in
      subst (λ (m : ℕ). image Home b ≡ bytes_of (content_of (last_effect b (take m ts))) (image Home b)) sum
      (bytes-left e disk earlier e.committed 0 ts b earlier-left home (omega arith) (omega arith) are)

  -- the image is clean
  closed-clean : image Log 0 ≡ closed_superblock e → IsClean e.shape image
  closed-clean is = let names = closed-names is in record { accepted = names.is_superblock.accepted; clean = names.clean }

  -- it opens to all transactions
  closed-opens : (ts : History) → image Log 0 ≡ closed_superblock e → AreBatchesOf ts e.accepted → Opens e.shape ts e.committed image
  closed-opens ts is are =
      let names = closed-names is in
      let to : OpensTo e.shape [] image 0 =
      clean-opens e.shape e.ring (e.first + e.committed) [] image names
      (each-around e.ring (λ p. IsBehind (e.first + e.committed) (image Log p)) e.tail ring-left) tt in
      let opened : Opens e.shape [] 0 image = to.opens [] tt in
      record { got = opened.got; opens = opened.opens; recovered = λ b below. opened.recovered b below ∙ home-left ts b are }

  pub closed-all : (opening : Disk) (directs : List (ℕ × List ℕ)) → image Log 0 ≡ closed_superblock e → IsClosed e.shape (running_epoch opening directs e) image
  closed-all opening directs is = record {
    clean = closed-clean is;
    all = λ ts are. subst (λ (n : ℕ). Opens e.shape ts n image) (sym all-committed) (closed-opens ts is are);
  }

  -- it keeps the promise
  closed-kept : (opening : Disk) (directs : List (ℕ × List ℕ)) → HomeRight opening directs e disk → image Log 0 ≡ closed_superblock e →
      KeepsImage e.shape (running_epoch opening directs e) image
  unfolding with_first
  closed-kept opening directs right is ts are =
      let all : length e.accepted ≡ e.committed = all-committed in
      let sequence : (super_of image).s_sequence ≡ e.first + e.committed = ap (λ (block : List ℕ). (super_in block).s_sequence) is ∙ tail-left.sequence in
      record {
        n = e.committed;
        low = omega arith;
        high = omega arith;
        count = record {
          limit = (super_of image).s_sequence;
          has = OfClean (closed-clean is);
          count =
              sym (ap (λ (end : ℕ). numbered_below end ts) sequence ∙ count-below e.first e.committed ts e.accepted (omega arith) sound.plain.numbered are);
        };
        opens = closed-opens ts is are;
        others = rightly-left e e.shape.home_blocks e.committed ts opening directs disk earlier right (omega arith) are earlier-left;
        numbered = batches-numbered e.first ts e.accepted sound.plain.numbered are;
      }

-- an image with the old superblock was a crash image before
same-left : (disk new : Disk) (image : Image) (v : List ℕ) → IsWrite disk new 0 v → Leaves new image → IsOneOf (held (disk Log 0)) (image Log 0) →
    Leaves disk image
same-left disk new image v write leaves first = record { each = each }
  where
    each : (a : Area) (n : ℕ) → IsOneOf (held (disk a n)) (image a n)
    each Log n =
        elim (cases_eq n 0) [
          | inl same ↦ subst (λ (k : ℕ). IsOneOf (held (disk Log k)) (image Log k)) (sym same) first
          | inr other ↦ subst (λ (c : Cell). IsOneOf (held c) (image Log n)) (write.others n other) (leaves.each Log n)
        ]
    each Home b = subst (λ (c : Cell). IsOneOf (held c) (image Home b)) (write.home.same b) (leaves.each Home b)

-- a close keeps the promise when it writes the superblock, or fails in that
pub close-keeps : (shape : Shape) (opening : Disk) (directs : List (ℕ × List ℕ)) (e : Engine) (disk new : Disk) → IsRunning shape opening directs e disk → MayClose e →
    IsWrite disk new 0 (closed_superblock e) → KeepsNow shape (Some (running_epoch opening directs e)) new
close-keeps shape opening directs e disk new runs may write = λ image leaves.
    ⊎_elim
    (λ closed.
    subst (λ (s : Shape). KeepsImage s (running_epoch opening directs e) image) runs.shape_is
    (closed-kept e disk new image runs.sound may write leaves opening directs runs.home closed))
    (λ was. running-keeps shape opening directs e disk runs image (same-left disk new image (closed_superblock e) write leaves was))
    (write.there (image Log 0) (leaves.each Log 0))

-- each image with that superblock is closed
pub close-closes : (shape : Shape) (opening : Disk) (directs : List (ℕ × List ℕ)) (e : Engine) (disk new : Disk) → IsRunning shape opening directs e disk → MayClose e →
    IsWrite disk new 0 (closed_superblock e) → (image : Image) → Leaves new image → image Log 0 ≡ closed_superblock e →
    IsClosed shape (running_epoch opening directs e) image
close-closes shape opening directs e disk new runs may write image leaves is =
    subst (λ (s : Shape). IsClosed s (running_epoch opening directs e) image) runs.shape_is
    (closed-all e disk new image runs.sound may write leaves opening directs is)
