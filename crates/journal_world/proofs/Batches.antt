-- The batches of an engine: their texts, their numbers, and the first ones.
use Rattle.std.proofs.Common.{◌≡◌, ℕ, zero, suc, ◌+◌, ◌≤◌, List, [], ◌∷◌, ◌++◌, length, map, take, Some, true, false, arith, refl, sym, ◌∙◌, subst, ap}
use Rattle.std.specs.Prelude.{nat_lt, Bool, if◌then◌else◌}
use Rattle.std.specs.List.{AllByRecursion, slice_get}
use Rattle.std.proofs.lemmas.Bool.Decides.{nat_tests}
use Rattle.std.proofs.lemmas.List.Sums.{sum_by-cons}
use Rattle.std.proofs.lemmas.Option.{none-some, same_Some}
use Rattle.journal_model.specs.declared.entry.Batch.{Batch}
use Rattle.log_model.specs.declared.log.Text.{Text}
use Rattle.journal_model.specs.Layout.{IsLayout, Layout, uuid_bytes}
use Rattle.log_model.specs.Opening.{greatest_number, numbered_below}
use Rattle.log_model.specs.OwnText.{own_text}
use Rattle.journal_model.specs.Disk.{Shape}
use Rattle.journal_model.specs.Transaction.{History, Transaction}
use Rattle.journal_world.specs.Engine.{AreBatchesOf, IsBatch}
use Rattle.journal_world.specs.Journal.{batch_of}
use Rattle.journal_world.specs.Sound.{AreNumberedFrom}
use Rattle.journal_world.proofs.OwnBlocks.{AreOwn, IsOwn, own-is}

-- the texts of batches
abbrev pub texts_of : Layout → List ℕ → List Batch → List Text
texts_of l uuid bs = map (λ b. own_text l uuid b.tid b.entries) bs

-- the text of a batch is an own text of its number
pub batch-own : (l : Layout) (shape : Shape) (uuid : List ℕ) (sequence : ℕ) (b : Batch) → IsLayout l → length uuid ≡ uuid_bytes →
    IsBatch l shape b → b.tid ≡ sequence → sequence ≤ greatest_number →
    IsOwn l shape.home_blocks sequence (own_text l uuid b.tid b.entries)
batch-own l shape uuid sequence b layout size is number least =
    subst (λ s. IsOwn l shape.home_blocks s (own_text l uuid b.tid b.entries)) number
    (own-is l uuid shape.home_blocks b.tid b.entries layout size (omega arith) is.allowed)

-- the texts of batches numbered from the sequence on are own texts
pub batches-own : (l : Layout) (shape : Shape) (uuid : List ℕ) (sequence : ℕ) (bs : List Batch) → IsLayout l → length uuid ≡ uuid_bytes →
    AllByRecursion (IsBatch l shape) bs → AreNumberedFrom sequence bs → sequence + length bs ≤ greatest_number + 1 →
    AreOwn l shape.home_blocks sequence (texts_of l uuid bs)
batches-own l shape uuid sequence [] layout size are numbered least = tt
batches-own l shape uuid sequence (b ∷ bs) layout size are numbered least = (
  batch-own l shape uuid sequence b layout size are.0 numbered.0 (omega arith),
  batches-own l shape uuid (suc sequence) bs layout size are.1 numbered.1 (omega arith),
)

-- the first batches are numbered as all are
pub numbered-take : (first n : ℕ) (bs : List Batch) → AreNumberedFrom first bs → AreNumberedFrom first (take n bs)
numbered-take first zero bs are = tt
numbered-take first (suc n) [] are = tt
numbered-take first (suc n) (b ∷ bs) are = (are.0, numbered-take (suc first) n bs are.1)

-- the first batches are those of the first transactions
pub batches-take : (n : ℕ) (ts : History) (bs : List Batch) → AreBatchesOf ts bs → AreBatchesOf (take n ts) (take n bs)
batches-take zero ts bs are = tt
batches-take (suc n) [] [] are = tt
batches-take (suc n) [] (b ∷ bs) are = absurd are
batches-take (suc n) (t ∷ ts) [] are = absurd are
batches-take (suc n) (t ∷ ts) (b ∷ bs) are = (are.0, are.1, batches-take n ts bs are.2)

-- the batches of transactions with one more
pub batches-last : (ts : History) (bs : List Batch) (t : Transaction) → AreBatchesOf ts bs → AreBatchesOf (ts ++ t ∷ []) (bs ++ batch_of t ∷ [])
batches-last [] [] t are = (refl, refl, tt)
batches-last [] (b ∷ bs) t are = absurd are
batches-last (u ∷ ts) [] t are = absurd are
batches-last (u ∷ ts) (b ∷ bs) t are = (are.0, are.1, batches-last ts bs t are.2)

-- there are as many batches as transactions
pub same-length : (ts : History) (bs : List Batch) → AreBatchesOf ts bs → length ts ≡ length bs
same-length [] [] are = refl
same-length [] (b ∷ bs) are = absurd are
same-length (t ∷ ts) [] are = absurd are
same-length (t ∷ ts) (b ∷ bs) are = ap suc (same-length ts bs are.2)

-- the batch at a place has the number of that place
pub number-at : (first k : ℕ) (bs : List Batch) (b : Batch) → AreNumberedFrom first bs → slice_get bs k ≡ Some b → b.tid ≡ first + k
number-at first k [] b are stands = absurd (none-some b stands)
number-at first zero (c ∷ bs) b are stands = sym (ap (λ (x : Batch). x.tid) (same_Some c b stands)) ∙ are.0 ∙ omega arith
number-at first (suc k) (c ∷ bs) b are stands = number-at (suc first) k bs b are.1 stands ∙ omega arith

-- no transaction is numbered below the first number, or below an earlier one
pub none-below : (first end : ℕ) (ts : History) (bs : List Batch) → end ≤ first → AreNumberedFrom first bs → AreBatchesOf ts bs → numbered_below end ts ≡ 0
none-below first end [] bs least are of = refl
none-below first end (t ∷ ts) [] least are of = absurd of
none-below first end (t ∷ ts) (b ∷ bs) least are of =
    let rest : numbered_below end ts ≡ 0 = none-below (suc first) end ts bs (omega arith) are.1 of.2 in
    let number : t.tid ≡ first = sym of.0 ∙ are.0 in
    let test : nat_lt t.tid end ≡ false = grind (arith, nat_tests) in
    rw test rest

-- a number n above the first has n transactions below it
pub count-below : (first n : ℕ) (ts : History) (bs : List Batch) → n ≤ length bs → AreNumberedFrom first bs → AreBatchesOf ts bs →
    numbered_below (first + n) ts ≡ n
count-below first zero ts bs least are of = none-below first (first + 0) ts bs (omega arith) are of
count-below first (suc n) [] [] least are of = absurd (omega arith)
count-below first (suc n) [] (b ∷ bs) least are of = absurd of
count-below first (suc n) (t ∷ ts) [] least are of = absurd of
count-below first (suc n) (t ∷ ts) (b ∷ bs) least are of =
    let rest : numbered_below (suc first + n) ts ≡ n = count-below (suc first) n ts bs (omega arith) are.1 of.2 in
    let moved : numbered_below (first + suc n) ts ≡ n = ap (λ end. numbered_below end ts) (omega arith) ∙ rest in
    let number : t.tid ≡ first = sym of.0 ∙ are.0 in
    let test : nat_lt t.tid (first + suc n) ≡ true = grind (arith, nat_tests) in
    let one : ◌≡◌ {A = ℕ} (if nat_lt t.tid (first + suc n) then 1 else 0) 1 = ap (λ (b : Bool). if b then 1 else 0) test in
    let split : numbered_below (first + suc n) (t ∷ ts) ≡ (if nat_lt t.tid (first + suc n) then 1 else 0) + numbered_below (first + suc n) ts =
    sum_by-cons (λ (x : Transaction). if nat_lt x.tid (first + suc n) then 1 else 0) t ts in
    omega arith
