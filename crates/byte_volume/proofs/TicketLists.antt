-- Tickets that a list gains.
use Rattle.std.proofs.Common.{◌≡◌, ◌≤◌, ◌/◌, ◌++◌, ◌∙◌, ap, sym, subst, arith, false, ℕ, List, [], ◌∷◌, Err, Ok, OnErr, OnOk, Result, length}
use Rattle.journal_model.specs.declared.transaction.Step.{Step}
use Rattle.handle.specs.Values.{fresh_ticket}
use Rattle.locked_journal.specs.Known.{HandleKnown, TicketKnown}
use Rattle.byte_volume.specs.Writing.{AddsFirst, AddsTicket, AreNoted, MayAddTicket, RevokesFirst, WritesFirst, revoke_steps, write_steps}
use Rattle.byte_volume.specs.Writing.MayAddTicket.{NoTicket, OneTicket}

-- no ticket is noted
pub none_noted : (upto : ℕ) (tickets : List TicketKnown) → tickets ≡ [] → AreNoted upto tickets
none_noted upto tickets none = subst (AreNoted upto) (sym none) tt

-- one more ticket, and a bound that is no less
pub noted_more : (m n : ℕ) (tickets : List TicketKnown) (ticket : TicketKnown) → m ≤ n → AreNoted m tickets → ticket.ticket.tid ≤ n → AreNoted n (tickets ++ ticket ∷ [])
noted_more m n [] ticket up noted one = (one, tt)
noted_more m n (t ∷ ts) ticket up noted one = let low : t.ticket.tid ≤ m = noted.0 in (omega (arith, low, up), noted_more m n ts ticket up noted.1 one)

pub noted_later : (m n : ℕ) (tickets : List TicketKnown) → m ≤ n → AreNoted m tickets → AreNoted n tickets
noted_later m n [] up noted = tt
noted_later m n (t ∷ ts) up noted = let low : t.ticket.tid ≤ m = noted.0 in (omega (arith, low, up), noted_later m n ts up noted.1)

pub noted_added : (P : TicketKnown → Type 0) (m n : ℕ) (old new : List TicketKnown) → m ≤ n → AreNoted m old → AddsTicket P n old new → AreNoted n new
noted_added P m n old new up noted adds = subst (AreNoted n) (sym adds.added) (noted_more m n old adds.ticket up noted adds.noted)

pub noted_maybe : (P : TicketKnown → Type 0) (m n : ℕ) (old new : List TicketKnown) → m ≤ n → AreNoted m old → MayAddTicket P n old new → AreNoted n new
noted_maybe P m n old new up noted (NoTicket same) = subst (AreNoted n) (sym same) (noted_later m n old up noted)
noted_maybe P m n old new up noted (OneTicket adds) = noted_added P m n old new up noted adds

-- whether the call succeeded or not
pub noted_either : {T E : Type 0} (P Q : TicketKnown → Type 0) (m n : ℕ) (old new : List TicketKnown) (result : Result T E) → m ≤ n → AreNoted m old →
    OnOk result (AddsTicket P n old new) → OnErr result (MayAddTicket Q n old new) → AreNoted n new
noted_either P Q m n old new (Ok done) up noted adds may = noted_added P m n old new up noted adds
noted_either P Q m n old new (Err e) up noted adds may = noted_maybe Q m n old new up noted may

-- what holds anyway holds of a refusal
pub any_err : {T E P : Type 0} (r : Result T E) → P → OnErr r P
any_err (Ok done) p = tt
any_err (Err e) p = p

-- another thing that is true of the ticket
pub may_weaker : (P Q : TicketKnown → Type 0) (upto : ℕ) (old new : List TicketKnown) → ((t : TicketKnown) → P t → Q t) → MayAddTicket P upto old new → MayAddTicket Q upto old new
may_weaker P Q upto old new out (NoTicket same) = NoTicket same
may_weaker P Q upto old new out (OneTicket adds) =
    OneTicket (record { ticket = adds.ticket; its = out adds.ticket adds.its; noted = adds.noted; added = adds.added })

-- the ticket of a handle
abbrev pub of_handle : HandleKnown → TicketKnown
of_handle h = record { ticket = fresh_ticket h.handle.number h.handle.tid; steps = h.steps; asked = false }

-- a handle that had no step was stopped after some, and a list gained its ticket
pub record Leaves (old new : HandleKnown) (ticket : TicketKnown) (upto : ℕ) (before after : List TicketKnown) : Type 0 where
  pub its : ticket ≡ of_handle new
  pub same : new.handle.number ≡ old.handle.number
  pub none : old.steps ≡ []
  pub noted : ticket.ticket.tid ≤ upto
  pub added : after ≡ before ++ ticket ∷ []

-- `between` is the list with room for it
pub leaves : (old new : HandleKnown) (ticket : TicketKnown) (upto : ℕ) (before between after : List TicketKnown) → ticket ≡ of_handle new →
    new.handle.number ≡ old.handle.number → new.handle.tid ≡ old.handle.tid → old.steps ≡ [] → old.handle.tid ≤ upto → between ≡ before →
    after ≡ between ++ ticket ∷ [] → Leaves old new ticket upto before after
leaves old new ticket upto before between after is same join none up room added =
    let its : ticket.ticket.tid ≡ old.handle.tid = ap (λ (t : TicketKnown). t.ticket.tid) is ∙ join in
    record {
      its = is;
      same = same;
      none = none;
      noted = omega (arith, its, up);
      added = added ∙ ap (λ (ts : List TicketKnown). ts ++ ticket ∷ []) room;
    }

-- the ticket knows just the steps that it made
made : (old new : HandleKnown) (ticket : TicketKnown) (steps : ℕ → List Step) → ticket ≡ of_handle new → new.handle.number ≡ old.handle.number → old.steps ≡ [] →
    new.steps ≡ old.steps ++ steps old.handle.number → ticket.steps ≡ steps ticket.ticket.handle
made old new ticket steps is same none grew =
    let all : ticket.steps ≡ steps old.handle.number =
    ap (λ (t : TicketKnown). t.steps) is ∙ grew ∙ ap (λ (ss : List Step). ss ++ steps old.handle.number) none in
    let its : ticket.ticket.handle ≡ old.handle.number = ap (λ (t : TicketKnown). t.ticket.handle) is ∙ same in
    all ∙ ap steps (sym its)

-- it wrote whole blocks; `s` is another name of the size
pub wrote_blocks : {T E : Type 0} (old new : HandleKnown) (ticket : TicketKnown) (upto first size s : ℕ) (bytes : List ℕ) (before after : List TicketKnown)
    (result : Result T E) → s ≡ size → Leaves old new ticket upto before after →
    OnOk result (new.steps ≡ old.steps ++ write_steps old.handle.number first s bytes (length bytes / s)) →
    OnOk result (AddsTicket (λ (t : TicketKnown). t.steps ≡ write_steps t.ticket.handle first size bytes (length bytes / size)) upto before after)
wrote_blocks old new ticket upto first size s bytes before after (Ok done) other left grew = record {
  ticket = ticket;
  its = subst (λ (k : ℕ). ticket.steps ≡ write_steps ticket.ticket.handle first k bytes (length bytes / k)) other
      (made old new ticket (λ (n : ℕ). write_steps n first s bytes (length bytes / s)) left.its left.same left.none grew);
  noted = left.noted;
  added = left.added;
}
wrote_blocks old new ticket upto first size s bytes before after (Err e) other left grew = tt

-- or the first of them
pub wrote_first : {T E : Type 0} (old new : HandleKnown) (ticket : TicketKnown) (upto first size s : ℕ) (bytes : List ℕ) (before after : List TicketKnown)
    (result : Result T E) → s ≡ size → Leaves old new ticket upto before after →
    OnErr result (AddsFirst (write_steps old.handle.number first s bytes) (length bytes / s) old.steps new.steps) →
    OnErr result (MayAddTicket (WritesFirst first size bytes) upto before after)
wrote_first old new ticket upto first size s bytes before after (Ok done) other left some = tt
wrote_first old new ticket upto first size s bytes before after (Err e) other left some =
    OneTicket (record {
      ticket = ticket;
      its = subst (λ (k : ℕ). WritesFirst first k bytes ticket) other (record {
        blocks = some.count;
        few = some.few;
        steps_are = made old new ticket (λ (n : ℕ). write_steps n first s bytes some.count) left.its left.same left.none some.added;
      });
      noted = left.noted;
      added = left.added;
    })

-- it revoked blocks
pub revoked_blocks : {T E : Type 0} (old new : HandleKnown) (ticket : TicketKnown) (upto first count : ℕ) (before after : List TicketKnown) (result : Result T E) →
    Leaves old new ticket upto before after → OnOk result (new.steps ≡ old.steps ++ revoke_steps old.handle.number first count) →
    OnOk result (AddsTicket (λ (t : TicketKnown). t.steps ≡ revoke_steps t.ticket.handle first count) upto before after)
revoked_blocks old new ticket upto first count before after (Ok done) left grew = record {
  ticket = ticket;
  its = made old new ticket (λ (n : ℕ). revoke_steps n first count) left.its left.same left.none grew;
  noted = left.noted;
  added = left.added;
}
revoked_blocks old new ticket upto first count before after (Err e) left grew = tt

-- or the first of them
pub revoked_first : {T E : Type 0} (old new : HandleKnown) (ticket : TicketKnown) (upto first count : ℕ) (before after : List TicketKnown) (result : Result T E) →
    Leaves old new ticket upto before after → OnErr result (AddsFirst (revoke_steps old.handle.number first) count old.steps new.steps) →
    OnErr result (MayAddTicket (RevokesFirst first count) upto before after)
revoked_first old new ticket upto first count before after (Ok done) left some = tt
revoked_first old new ticket upto first count before after (Err e) left some =
    OneTicket (record {
      ticket = ticket;
      its = record {
        blocks = some.count;
        few = some.few;
        steps_are = made old new ticket (λ (n : ℕ). revoke_steps n first some.count) left.its left.same left.none some.added;
      };
      noted = left.noted;
      added = left.added;
    })
