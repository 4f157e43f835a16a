-- How many ring blocks the first transactions have taken, and the order of tail, round's end and start.
use Rattle.std.proofs.Common.{◌≡◌, ℕ, ◌+◌, ◌-◌, ◌<◌, ◌≤◌, List, ◌++◌, length, length-append, map, take, drop, arith, sym, ◌∙◌, ap}
use Rattle.std.proofs.Math.Seq.{take-add}
use Rattle.std.proofs.lemmas.Grind.{flat_map-append}
use Rattle.std.proofs.lemmas.List.{map-append}
use Rattle.journal_model.specs.declared.entry.Batch.{Batch}
use Rattle.log_model.specs.Chain.{texts_blocks}
use Rattle.log_model.specs.Text.{text_blocks}
use Rattle.journal_world.specs.declared.stage.Stage.{Stage}
use Rattle.journal_world.specs.declared.stage.Stage.TheVariants.{Idle, SuperblockWrite, SuperblockFlush, Blocks, CommitWrite, CommitFlush}
use Rattle.journal_world.specs.Engine.{Engine, committed_texts, due_blocks, text_of}
use Rattle.journal_world.specs.Sound.{IsPlain, StageAgrees, position}
use Rattle.journal_world.proofs.Texts.{committed-more}

-- the committed transactions are among the accepted ones
pub committed-few : (e : Engine) (stage : Stage) → StageAgrees e stage → e.committed ≤ length e.accepted
committed-few e Idle agrees = let count = agrees.0 in omega arith
committed-few e SuperblockWrite agrees = let count = agrees.0 in omega arith
committed-few e SuperblockFlush agrees = let count = agrees.0 in omega arith
committed-few e (Blocks k) agrees = let count = agrees.0 in omega arith
committed-few e CommitWrite agrees = let count = agrees.0 in omega arith
committed-few e CommitFlush agrees = let count = agrees.0 in omega arith

-- the log blocks of the first n transactions
abbrev pub first_blocks : Engine → ℕ → List (List ℕ)
first_blocks e n = texts_blocks (map (text_of e) (take n e.accepted))

-- the log blocks of the m transactions after the first r
abbrev pub between_blocks : Engine → ℕ → ℕ → List (List ℕ)
between_blocks e r m = texts_blocks (map (text_of e) (take m (drop r e.accepted)))

-- the blocks of r + m transactions are those of r, then of m
pub first-split : (e : Engine) (r m : ℕ) → first_blocks e (r + m) ≡ first_blocks e r ++ between_blocks e r m
first-split e r m =
    ap (λ (bs : List Batch). texts_blocks (map (text_of e) bs)) (take-add r m e.accepted)
    ∙ ap texts_blocks (map-append (text_of e) (take r e.accepted) (take m (drop r e.accepted)))
    ∙ flat_map-append text_blocks (map (text_of e) (take r e.accepted)) (map (text_of e) (take m (drop r e.accepted)))

-- so the position of r + m is that many blocks later
pub position-split : (e : Engine) (r m : ℕ) → position e (r + m) ≡ position e r + length (between_blocks e r m)
position-split e r m = ap length (first-split e r m) ∙ length-append (first_blocks e r) (between_blocks e r m)

-- more transactions have taken no fewer blocks
pub position-grows : (e : Engine) (r n : ℕ) → r ≤ n → position e r ≤ position e n
position-grows e r n least =
    let split : position e (r + (n - r)) ≡ position e r + length (between_blocks e r (n - r)) = position-split e r (n - r) in
    let whole : position e (r + (n - r)) ≡ position e n = ap (position e) {x = r + (n - r)} {y = n} (omega arith) in
    omega arith

-- one more transaction ends after its blocks
pub position-more : (e : Engine) → e.start ≡ position e e.committed → e.committed < length e.accepted →
    position e (e.committed + 1) ≡ e.start + length (due_blocks e)
position-more e start few =
    ap length (committed-more e few)
    ∙ length-append (texts_blocks (committed_texts e)) (due_blocks e)
    ∙ ap (λ (m : ℕ). m + length (due_blocks e)) (sym start)

-- the tail is not after the end of the round
pub tail-end : (e : Engine) → IsPlain e → e.tail ≤ e.bound_position
tail-end e plain =
    let low : e.tail ≡ position e e.released = plain.tail in
    let high : e.bound_position ≡ position e e.bound = plain.bound_position in
    let grows : position e e.released ≤ position e e.bound = position-grows e e.released e.bound plain.order.0 in
    omega arith

-- the end of the round is not after the start
pub end-start : (e : Engine) → IsPlain e → e.bound_position ≤ e.start
end-start e plain =
    let low : e.bound_position ≡ position e e.bound = plain.bound_position in
    let high : e.start ≡ position e e.committed = plain.start in
    let grows : position e e.bound ≤ position e e.committed = position-grows e e.bound e.committed plain.order.1 in
    omega arith

-- the tail is not after the start
pub tail-start : (e : Engine) → IsPlain e → e.tail ≤ e.start
tail-start e plain = let low = tail-end e plain in let high = end-start e plain in omega arith

-- if none is committed, the log begins at the first ring block
pub none-taken : (e : Engine) → IsPlain e → e.committed ≡ 0 → e.start ≡ 0
none-taken e plain none =
    let start : e.start ≡ position e e.committed = plain.start in
    let same : position e e.committed ≡ position e 0 = ap (position e) none in
    omega arith
