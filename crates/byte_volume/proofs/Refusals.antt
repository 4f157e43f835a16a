-- A part's refusal is one of the whole.
use Rattle.std.proofs.Common.{◌≡◌, ◌≤◌, ◌<◌, ◌+◌, ◌*◌, ◌/◌, ◌%◌, ◌^◌, arith, ap, subst, subst₂, ℕ}
use Rattle.std.specs.Prelude.{IfErr, Result}
use Rattle.std.proofs.lemmas.Result.{IfErr-weaker}
use Rattle.journal_model.specs.declared.refusal.JournalError.{JournalError}
use Rattle.block_device.specs.State.{DeviceState}
use Rattle.journal_front.specs.Values.{HandleValue}
use Rattle.shared_journal.specs.Refusals.{MayHavePaid}
use Rattle.shared_journal.specs.Refusals.MayHavePaid.{Paid, Unpaid}
use Rattle.byte_volume.specs.Refusals.{AskRefused, BlocksRefused, CutRefused, HandleRefused, IsAmong, MeetsRange, RevokeRefused, StepRefused, TrimRefused, WriteRefused}
use Rattle.byte_volume.specs.Refusals.CutRefused.{NoRest, RestUnread}
use Rattle.byte_volume.specs.Refusals.HandleRefused.{NoPlace, NotStarted, OfStep}
use Rattle.byte_volume.specs.Refusals.RevokeRefused.{AtStep, NoHandle, NoPlace as NoPlaceOfOne, PastEnd as NumbersPastEnd}
use Rattle.byte_volume.specs.Refusals.TrimRefused.{OfBlocks}
use Rattle.byte_volume.specs.Refusals.WriteRefused.{NoBuffer, OfHandle, OfHead, OfTail, PastEnd}
use Rattle.byte_volume.specs.Writing.{first_whole, whole_blocks}
use Rattle.byte_volume.proofs.WholeBlocks.{meets}

-- a touch takes at most one credit
pub credits_left : (old new : HandleValue) → MayHavePaid old new → old.left ≤ new.left + 1
credits_left old new (Paid some is) = omega (arith, some, ap (λ (h : HandleValue). h.left) is)
credits_left old new (Unpaid is) = omega (arith, ap (λ (h : HandleValue). h.left) is)

-- a refused step on a block with P, where each such block is one with Q
step_wider : {D : Type 0} (P Q : ℕ → Type 0) (e : JournalError) → ((b : ℕ) → P b → Q b) → StepRefused D P e → StepRefused D Q e
step_wider P Q e out why = record { handle = why.handle; b = why.b; its = out why.b why.its; credit = why.credit; refused = why.refused }

pub handle_wider : {D : Type 0} (capacity : ℕ) (P Q : ℕ → Type 0) (e : JournalError) → ((b : ℕ) → P b → Q b) → HandleRefused D capacity P e → HandleRefused D capacity Q e
handle_wider capacity P Q e out (NoPlace is) = NoPlace is
handle_wider capacity P Q e out (NotStarted credits within why) = NotStarted credits within why
handle_wider capacity P Q e out (OfStep why) = OfStep (step_wider P Q e out why)

-- one handle of several that revoke blocks
pub some_blocks : {D : Type 0} (capacity first blocks done count : ℕ) (e : JournalError) → first + blocks < 2 ^ 64 → done + count ≤ blocks → count ≤ capacity →
    RevokeRefused D capacity (first + done) count e → HandleRefused D capacity (IsAmong first blocks) e
some_blocks capacity first blocks done count e fits few within (NumbersPastEnd past is) = absurd (omega (arith, fits, few, past))
some_blocks capacity first blocks done count e fits few within (NoPlaceOfOne is) = NoPlace is
some_blocks capacity first blocks done count e fits few within (NoHandle why) = NotStarted count within why
some_blocks capacity first blocks done count e fits few within (AtStep why) =
    OfStep (step_wider (IsAmong (first + done) count) (IsAmong first blocks) e (λ b among. (omega (arith, among.0), omega (arith, among.1, few))) why)

-- one block of several is not told of
pub some_asked : {D : Type 0} (first blocks done most : ℕ) (e : JournalError) → done + most ≤ blocks → AskRefused D (IsAmong (first + done) most) e →
    AskRefused D (IsAmong first blocks) e
some_asked first blocks done most e few why =
    record { b = why.b; its = (omega (arith, why.its.0), omega (arith, why.its.1, few)); refused = why.refused }

-- the trim of the whole blocks of a range
pub trim_refused : {T : Type 0} (D : Type 0) (size capacity offset n first blocks : ℕ) (result : Result T JournalError) → first ≡ first_whole size offset →
    blocks ≡ whole_blocks size offset n → IfErr result (BlocksRefused D capacity first blocks) → IfErr result (TrimRefused D size capacity offset n)
trim_refused D size capacity offset n first blocks result begins many =
    IfErr-weaker result _ _ (λ e why. OfBlocks (subst₂ (λ (f b : ℕ). BlocksRefused D capacity f b e) begins many why))

-- the handle that writes the whole blocks with a range, m bytes; `s` is another name of the size
pub write_refused : {D T : Type 0} (state : D → DeviceState) (size s capacity offset n m : ℕ) (result : Result T JournalError) → s ≡ size → 0 < size →
    offset / size * size + m < offset + n + size → IfErr result (HandleRefused D capacity (IsAmong (offset / s) (m / size))) →
    IfErr result (WriteRefused state size capacity offset n)
write_refused {D} state size s capacity offset n m result same some long =
    IfErr-weaker result _ _ (λ e why. OfHandle (handle_wider capacity (IsAmong (offset / s) (m / size)) (MeetsRange size offset n) e
    (λ b among. meets size offset n m b some long (subst (λ (k : ℕ). IsAmong (offset / k) (m / size) b) same among)) why))

-- a block that meets a piece meets the range
piece_meets : (size offset n done count b : ℕ) → done + count ≤ n → MeetsRange size (offset + done) count b → MeetsRange size offset n b
piece_meets size offset n done count b few meets = (omega (arith, few, meets.0), omega (arith, meets.1))

-- one piece of several: the range's first, or one that begins with a block; and its last, or one that ends with a block
pub piece_refused : {D : Type 0} (state : D → DeviceState) (size capacity offset n done count : ℕ) (e : JournalError) → done + count ≤ n →
    (0 < (offset + done) % size → done ≡ 0) → (done + count < n → (offset + done + count) % size ≡ 0) →
    WriteRefused state size capacity (offset + done) count e → WriteRefused state size capacity offset n e
piece_refused state size capacity offset n done count e few begins ends (PastEnd past is) = PastEnd (omega (arith, few, past)) is
piece_refused state size capacity offset n done count e few begins ends (NoBuffer is) = NoBuffer is
piece_refused state size capacity offset n done count e few begins ends (OfHead (NoRest is)) = NoBuffer is
piece_refused state size capacity offset n done count e few begins ends (OfHead (RestUnread cut why)) =
    let same : offset + done ≡ offset = omega (arith, begins cut) in
    OfHead (subst (λ (at : ℕ). CutRefused state size at e) same (RestUnread cut why))
piece_refused state size capacity offset n done count e few begins ends (OfTail (NoRest is)) = NoBuffer is
piece_refused state size capacity offset n done count e few begins ends (OfTail (RestUnread cut why)) =
    let same : offset + done + count ≡ offset + n = grind (arith, few, cut, ends) in
    OfTail (subst (λ (at : ℕ). CutRefused state size at e) same (RestUnread cut why))
piece_refused state size capacity offset n done count e few begins ends (OfHandle why) =
    OfHandle (handle_wider capacity (MeetsRange size (offset + done) count) (MeetsRange size offset n) e (λ b meets. piece_meets size offset n done count b few meets) why)
