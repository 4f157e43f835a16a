-- An image keeps all that was acknowledged, and opens to one volume.
use Rattle.std.proofs.Common.{◌≡◌, ℕ, zero, suc, ◌+◌, ◌<◌, ◌≤◌, Bool, true, false, List, [], ◌∷◌, length, arith, sym, ◌∙◌, ap, subst}
use Rattle.std.specs.Prelude.{nat_le, if◌then◌else◌}
use Rattle.std.specs.List.{AllByRecursion, list_any}
use Rattle.std.proofs.lemmas.Bool.Decides.{nat_tests}
use Rattle.std.proofs.lemmas.List.Sums.{sum_by-cons}
use Rattle.log_model.proofs.Newest.{replayed-same}
use Rattle.log_model.proofs.ReadingTexts.{one_chain_of}
use Rattle.journal_model.specs.declared.entry.Batch.{Batch}
use Rattle.log_model.specs.declared.log.Text.{Text}
use Rattle.journal_model.specs.declared.number.Area.TheVariants.{Home}
use Rattle.journal_model.specs.Disk.{Image, Shape}
use Rattle.log_model.specs.Opening.{HasChain, OpensAs, layout_of, log_lap, super_of}
use Rattle.log_model.specs.Opening.OpensAs.{Clean, Replayed}
use Rattle.journal_model.specs.Record.{acknowledged}
use Rattle.log_model.specs.Replay.{IsReplayed}
use Rattle.journal_model.specs.Transaction.{History, Transaction, Volume}
use Rattle.journal_world.specs.Engine.{AreBatchesOf}
use Rattle.journal_world.specs.Sound.{AreNumberedFrom}
use Rattle.journal_world.proofs.Elements.{all-weaker, none-passes}

-- no answer names a transaction with a number above all of them
none-tells : (mark tid : ℕ) (answered : List ℕ) → AllByRecursion (λ n. n ≤ mark) answered → mark < tid → list_any (λ n. nat_le tid n) answered ≡ false
none-tells mark tid answered least above =
    none-passes (λ n. nat_le tid n) answered
    (all-weaker (λ n. n ≤ mark) (λ n. nat_le tid n ≡ false) (λ n low. grind (arith, nat_tests)) answered least)

-- a transaction counts at most once
one-counts : (b : Bool) → (if b then 1 else 0) ≤ 1
one-counts true = omega arith
one-counts false = omega arith

-- the acknowledged count is that of the rest, plus at most one
acknowledged-first : (answered : List ℕ) (t : Transaction) (ts : History) →
    acknowledged answered (t ∷ ts) ≡ (if list_any (λ n. nat_le t.tid n) answered then 1 else 0) + acknowledged answered ts
acknowledged-first answered t ts = sum_by-cons (λ (x : Transaction). if list_any (λ n. nat_le x.tid n) answered then 1 else 0) t ts

-- if all answers are below a number, so are all acknowledged transactions
pub acknowledged-few : (first n mark : ℕ) (answered : List ℕ) (ts : History) (bs : List Batch) → AllByRecursion (λ m. m ≤ mark) answered →
    (0 < length bs → mark < first + n) → AreNumberedFrom first bs → AreBatchesOf ts bs → acknowledged answered ts ≤ n
acknowledged-few first n mark answered [] bs least marked are of = omega arith
acknowledged-few first n mark answered (t ∷ ts) [] least marked are of = absurd of
acknowledged-few first zero mark answered (t ∷ ts) (b ∷ bs) least marked are of =
    let below : mark < first + 0 = marked (omega arith) in
    let number : t.tid ≡ first = sym of.0 ∙ are.0 in
    let untold : list_any (λ n. nat_le t.tid n) answered ≡ false = none-tells mark t.tid answered least (omega arith) in
    let rest : acknowledged answered ts ≤ 0 = acknowledged-few (suc first) 0 mark answered ts bs least (λ some. omega arith) are.1 of.2 in
    let none : ◌≡◌ {A = ℕ} (if list_any (λ n. nat_le t.tid n) answered then 1 else 0) 0 = ap (λ (b : Bool). if b then 1 else 0) untold in
    let count = acknowledged-first answered t ts in
    omega arith
acknowledged-few first (suc n) mark answered (t ∷ ts) (b ∷ bs) least marked are of =
    let below : mark < first + suc n = marked (omega arith) in
    let rest : acknowledged answered ts ≤ n = acknowledged-few (suc first) n mark answered ts bs least (λ some. omega arith) are.1 of.2 in
    let one = one-counts (list_any (λ n. nat_le t.tid n) answered) in
    let count = acknowledged-first answered t ts in
    omega arith

-- a chain has one replay
same-replay : (shape : Shape) (image : Image) (texts others : List Text) (one other : Volume) → HasChain shape image texts → HasChain shape image others →
    IsReplayed shape.home_blocks texts (image Home) one → IsReplayed shape.home_blocks others (image Home) other →
    (b : ℕ) → b < shape.home_blocks → one b ≡ other b
same-replay shape image texts others one other has also made made_too =
    let same : others ≡ texts =
    one_chain_of (layout_of (super_of image)) shape.home_blocks (omega arith) (super_of image).s_sequence (log_lap image) others texts also.chain has.chain in
    replayed-same shape.home_blocks texts (image Home) one other made (subst (λ ts. IsReplayed shape.home_blocks ts (image Home) other) same made_too)

-- an opening makes one volume of an image
pub opens-same : (shape : Shape) (image : Image) (one other : Volume) → OpensAs shape image one → OpensAs shape image other →
    (b : ℕ) → b < shape.home_blocks → one b ≡ other b
opens-same shape image one other (Clean clean ahead same) (Clean also none kept) b below = same b below ∙ sym (kept b below)
opens-same shape image one other (Clean clean ahead same) (Replayed texts has none made) b below = absurd (has.started.started clean.clean)
opens-same shape image one other (Replayed texts has ahead made) (Clean clean none same) b below = absurd (has.started.started clean.clean)
opens-same shape image one other (Replayed texts has ahead made) (Replayed others also none made_too) b below =
    same-replay shape image texts others one other has also made made_too b below
