-- Revoke steps and trimmed blocks, one more at a time.
use Rattle.std.proofs.Common.{arith, subst, suc, ◌≡◌, ◌≤◌, ◌+◌, ◌++◌, ◌∙◌, ap, sym, refl, ℕ, Bool, false, List, [], ◌∷◌}
use Rattle.std.proofs.lemmas.Bool.{true≢false}
use Rattle.std.proofs.lemmas.List.{append_assoc}
use Rattle.block_device.specs.State.{DeviceState}
use Rattle.journal_model.specs.declared.transaction.Step.{Step}
use Rattle.handle.specs.Name.{JournalId}
use Rattle.journal_front.specs.Values.{HandleValue}
use Rattle.journal_world.specs.Front.{revoke_step}
use Rattle.journal_steps.specs.Unreleased.{TellsKept}
use Rattle.journal_steps.specs.Values.{JournalValue}
use Rattle.shared_journal.specs.Moments.{AtItsMoment}
use Rattle.shared_journal.specs.Refusals.{MayHavePaid}
use Rattle.shared_journal.specs.Refusals.MayHavePaid.{Paid, Unpaid}
use Rattle.byte_volume.specs.Writing.{AddsTicket, KeptNone, MayAddTicket, RevokesFirst, TrimsBlocks, TrimsSome, revoke_steps}
use Rattle.byte_volume.specs.Writing.MayAddTicket.{NoTicket, OneTicket}
use Rattle.byte_volume.specs.Writing.TrimsBlocks.{Further, LeftOut, NoBlock}
use Rattle.locked_journal.specs.Known.{TicketKnown}

-- a handle keeps its number, even if it paid a credit
pub same_number : (old new : HandleValue) → MayHavePaid old new → new.number ≡ old.number
same_number old new (Paid some is) = ap (λ (h : HandleValue). h.number) is
same_number old new (Unpaid is) = ap (λ (h : HandleValue). h.number) is

-- and its transaction
pub same_tid : (old new : HandleValue) → MayHavePaid old new → new.tid ≡ old.tid
same_tid old new (Paid some is) = ap (λ (h : HandleValue). h.tid) is
same_tid old new (Unpaid is) = ap (λ (h : HandleValue). h.tid) is

pub one_more : (first n m k : ℕ) (start old new : List Step) → m ≡ n → old ≡ start ++ revoke_steps n first k → new ≡ old ++ revoke_step m (first + k) ∷ [] →
    new ≡ start ++ revoke_steps n first (k + 1)
one_more first n m k start old new same so_far step =
    let next : suc k ≡ k + 1 = omega arith in
    let joined : new ≡ start ++ revoke_steps n first (suc k) =
    step ∙ ap (λ (j : ℕ). old ++ revoke_step j (first + k) ∷ []) same ∙ ap (λ (ss : List Step). ss ++ revoke_step n (first + k) ∷ []) so_far
    ∙ append_assoc start (revoke_steps n first k) (revoke_step n (first + k) ∷ []) in
    subst (λ (j : ℕ). new ≡ start ++ revoke_steps n first j) next joined

-- a block that was told to keep no copy, the first one
pub kept_none : {D : Type 0} (state : D → DeviceState) (honest : D → Type 0) (name : JournalId) (first k : ℕ) (kept : Bool) →
    AtItsMoment state honest name (λ (old new : JournalValue D). TellsKept old.journal (first + k) kept × (new ≡ old)) → kept ≡ false → k ≡ 0 →
    KeptNone state honest name first
kept_none state honest name first k kept told none here =
    let same : first + k ≡ first = omega (arith, here) in
    subst (λ (b : ℕ). KeptNone state honest name b) same
    (record { old = told.old; new = told.new; comes = told.comes; did = (λ keeps. true≢false (sym (told.did.0.told.1 keeps) ∙ none), told.did.1) })

module _ {D : Type 0} (state : D → DeviceState) (honest : D → Type 0) (name : JournalId) (first : ℕ) where
  -- no block is trimmed yet
  pub no_block : (tickets : List TicketKnown) → tickets ≡ [] → TrimsBlocks state honest name first tickets 0
  no_block tickets none = subst (λ (ts : List TicketKnown). TrimsBlocks state honest name first ts 0) (sym none) NoBlock

  pub none_of : (blocks : ℕ) (tickets : List TicketKnown) → tickets ≡ [] → TrimsSome state honest name first blocks tickets
  none_of blocks tickets none = record { count = 0; few = omega arith; trimmed = no_block tickets none }

  -- one more is left out
  pub one_left_out : (done : ℕ) (tickets : List TicketKnown) → TrimsBlocks state honest name first tickets done → KeptNone state honest name (first + done) →
      TrimsBlocks state honest name first tickets (done + 1)
  one_left_out done tickets trimmed none = LeftOut tickets done (done + 1) trimmed none refl

  -- one more handle
  pub more_blocks : (done count upto : ℕ) (old new : List TicketKnown) → TrimsBlocks state honest name first old done →
      AddsTicket (λ (t : TicketKnown). t.steps ≡ revoke_steps t.ticket.handle (first + done) count) upto old new →
      TrimsBlocks state honest name first new (done + count)
  more_blocks done count upto old new trimmed adds = Further old adds.ticket new done count (done + count) trimmed adds.its adds.added refl

  -- the next handle was refused
  pub some_blocks_of : (blocks done count upto : ℕ) (old new : List TicketKnown) → done + count ≤ blocks → TrimsBlocks state honest name first old done →
      MayAddTicket (RevokesFirst (first + done) count) upto old new → TrimsSome state honest name first blocks new
  some_blocks_of blocks done count upto old new fits trimmed (NoTicket same) =
      record { count = done; few = omega (arith, fits); trimmed = subst (λ (ts : List TicketKnown). TrimsBlocks state honest name first ts done) (sym same) trimmed }
  some_blocks_of blocks done count upto old new fits trimmed (OneTicket adds) =
      let its = adds.its in
      record {
        count = done + its.blocks;
        few = omega (arith, fits, its.few);
        trimmed = Further old adds.ticket new done its.blocks (done + its.blocks) trimmed its.steps_are adds.added refl;
      }
