use Rattle.std.proofs.Common.{ℕ, List, Some, refl, sym, ap, ap₂, subst, ◌∙◌, ◌+◌, ◌-◌, ◌^◌, ◌<◌, ◌≤◌, ◌≡◌, false, arith, nat_eq}
use Rattle.std.specs.Map.{lookup}
use Rattle.indexmap.specs.IndexMap.{insert_entry}
use Rattle.journal_model.specs.declared.refusal.JournalError.TheVariants.{Memory}
use Rattle.journal_world.proofs.Credits.{event-held}
use Rattle.journal_front.specs.Front.{IsFront, IsOpenHandle, JoinRefused}
use Rattle.std.proofs.lemmas.Result.{err_from_is_err_and}
use Rattle.journal_model.specs.declared.transaction.Sealed.{Sealed}
use Rattle.log_model.specs.Opening.{greatest_number}
use Rattle.journal_world.specs.Front.{Front, Joins, MayJoin, next_handle}
use Rattle.journal_front.specs.Transaction.{OpenTransaction}
use Rattle.journal_world.specs.Front.FrontEvent.{Join}
use Rattle.journal_front.specs.Front.JoinRefused.{IsAborted, IsLocked, NoHandle, NoMemory, NoNumber, NotGranted}
use Rattle.journal_front.specs.FrontView.{AreCommitting, front_of}
use Rattle.journal_front.specs.Values.{HandleValue}
use Rattle.journal_front.proofs.Holding.{found-inserted, is-front, joins, remade}
use Rattle.journal_front.proofs.front.Front.join.Goals as goal
use Rattle.journal_front.proofs.front.Front.join.Goals.{then-tid-gt-GREATEST_NUMBER-via-then-tid-gt-GREATEST_NUMBER, then-tid-gt-GREATEST_NUMBER-via-else-tid-gt-GREATEST_NUMBER+then-self-2}

-- a handle may join if the transaction is not locked and numbers are left
may-join : (f : Front) → f.locked ≡ false → f.running.tid ≤ greatest_number → next_handle f < 2 ^ 64 → MayJoin f
may-join f unlocked number handle = record { unlocked = unlocked; number = number; handle = handle }

-- the front with these sealed transactions, open handles and this running transaction
abbrev joined : Front → List Sealed → List (ℕ × ℕ) → OpenTransaction → Front
joined f sealed hs t = record f { sealed = sealed; running = t.transaction; locked = t.locked; open_handles = hs }

pub returns-then-self-clause-err : goal.returns-then-self-clause-err
returns-then-self-clause-err g c = rw (← c.self.view_is) (IsAborted c.if-self.true, refl)

pub returns-then-is_locked-clause-err : goal.returns-then-is_locked-clause-err
returns-then-is_locked-clause-err g c = rw (← c.self.view_is) (IsLocked c.if-self.false (sym c.is_locked.ensures ∙ c.if-is_locked.true), refl)

-- no number is left for a transaction, or for a handle
pub returns-then-tid-gt-GREATEST_NUMBER-clause-err :
    goal.returns-then-tid-gt-GREATEST_NUMBER-clause-err
returns-then-tid-gt-GREATEST_NUMBER-clause-err g c =
    rw (← c.self.view_is)
    (elim c.then-tid-gt-GREATEST_NUMBER.branch [
      | then-tid-gt-GREATEST_NUMBER-via-then-tid-gt-GREATEST_NUMBER w ↦ (NoNumber c.if-self.false (sym c.is_locked.ensures ∙ c.if-is_locked.false) (omega arith), refl)
      | then-tid-gt-GREATEST_NUMBER-via-else-tid-gt-GREATEST_NUMBER+then-self-2 w ↦ (NoHandle c.if-self.false (sym c.is_locked.ensures ∙ c.if-is_locked.false) (omega arith), refl)
    ])

pub returns-then-n-self-clause-err : goal.returns-then-n-self-clause-err
returns-then-n-self-clause-err g c =
    let may = may-join (front_of g.R.Record.transactions c.self.inside) (sym c.is_locked.ensures ∙ c.if-is_locked.false) (omega arith) (omega arith) in
    rw (← c.self.view_is) (NotGranted c.if-self.false may c.if-n-self.true, refl)

pub returns-in_err-make_room-clause-err : goal.returns-in_err-make_room-clause-err
returns-in_err-make_room-clause-err g c =
    let f = front_of g.R.Record.transactions c.self.inside in
    let may = may-join f (sym c.is_locked.ensures ∙ c.if-is_locked.false) (omega arith) (omega arith) in
    let p = err_from_is_err_and c.from_residual.result c.from_residual.ensures.1 in
    let same = ap (λ (ts : List Sealed). remade f ts f.running.handles f.running.steps f.open_handles) c.make_room.ensures.same in
    rw (p.1, p.2, c.in_err-make_room.ensures.err) (subst (λ (x : Front). JoinRefused x c.args.n Memory) c.self.view_is (NoMemory c.if-self.false may c.if-n-self.false), same ∙ c.self.view_is)

pub returns-in_err-reserve-clause-err : goal.returns-in_err-reserve-clause-err
returns-in_err-reserve-clause-err g c =
    let f = front_of g.R.Record.transactions c.self.inside in
    let may = may-join f (sym c.is_locked.ensures ∙ c.if-is_locked.false) (omega arith) (omega arith) in
    let p = err_from_is_err_and c.from_residual-in_err-reserve.result c.from_residual-in_err-reserve.ensures.1 in
    let same =
    ap₂ (λ (ts : List Sealed) (hs : List (ℕ × ℕ)). remade f ts f.running.handles f.running.steps hs) c.make_room.ensures.same c.reserve.ensures.entries in
    rw (p.1, p.2) (subst (λ (x : Front). JoinRefused x c.args.n Memory) c.self.view_is (NoMemory c.if-self.false may c.if-n-self.false), same ∙ c.self.view_is)

pub returns-in_err-join-clause-err : goal.returns-in_err-join-clause-err
returns-in_err-join-clause-err g c =
    let f = front_of g.R.Record.transactions c.self.inside in
    let may = may-join f (sym c.is_locked.ensures ∙ c.if-is_locked.false) (omega arith) (omega arith) in
    let p = err_from_is_err_and c.from_residual-in_err-join.result c.from_residual-in_err-join.ensures.1 in
    let same =
    ap (joined f (g.R.Record.transactions c.make_room.new.self) c.reserve.new.self.entries) c.in_err-join.ensures.err.1
    ∙ ap₂ (λ (ts : List Sealed) (hs : List (ℕ × ℕ)). remade f ts f.running.handles f.running.steps hs) c.make_room.ensures.same c.reserve.ensures.entries in
    rw (p.1, p.2, c.in_err-join.ensures.err.0)
    (subst (λ (x : Front). JoinRefused x c.args.n Memory) c.self.view_is (NoMemory c.if-self.false may c.if-n-self.false), same ∙ c.self.view_is)

pub returns-clause-ok : goal.returns-clause-ok
returns-clause-ok g c =
    let f = front_of g.R.Record.transactions c.self.inside in
    let may = may-join f (sym c.is_locked.ensures ∙ c.if-is_locked.false) (omega arith) (omega arith) in
    let told = c.in-Ok.ensures.entries ∙ ap (λ (hs : List (ℕ × ℕ)). insert_entry nat_eq hs (next_handle f) c.args.n) c.reserve.ensures.entries in
    rw (← c.self.view_is) (
      subst (λ (t : OpenTransaction). Joins f c.args.n (record (joined f (g.R.Record.transactions c.make_room.new.self) c.insert.new.self.entries t) { reserved = f.reserved - c.args.n; given = next_handle f }))
          (sym c.in_ok-join.ensures.ok)
          (joins f c.args.n (g.R.Record.transactions c.make_room.new.self) _ c.insert.new.self.entries c.if-self.false may c.if-n-self.false
          c.self.invariant.front.numbers c.make_room.ensures.same refl told),
      c.new.ensures ∙ ap (λ (n : ℕ). let made : HandleValue = record { number = next_handle f; tid = n; left = c.args.n } in made) c.tid-tid.ensures,
    )

pub returns-clause-open : goal.returns-clause-open
returns-clause-open g c =
    subst (IsOpenHandle _) (sym c.new.ensures)
    (record {
      left =
          subst (λ (hs : List (ℕ × ℕ)). lookup (nat_eq (c.self.inside.given + 1)) hs ≡ Some c.args.n) (sym c.in-Ok.ensures.entries)
          (found-inserted c.reserve.new.self.entries (c.self.inside.given + 1) c.args.n);
      transaction = c.tid-tid.ensures ∙ sym (ap (λ (t : OpenTransaction). t.transaction.tid) c.in_ok-join.ensures.ok);
    })

-- the credits held stay the same
pub invariant_of-self-2 : goal.invariant_of-self-2
invariant_of-self-2 g c =
    let f = front_of g.R.Record.transactions c.self.inside in
    let may = may-join f (sym c.is_locked.ensures ∙ c.if-is_locked.false) (omega arith) (omega arith) in
    let told = c.in-Ok.ensures.entries ∙ ap (λ (hs : List (ℕ × ℕ)). insert_entry nat_eq hs (next_handle f) c.args.n) c.reserve.ensures.entries in
    let step =
    subst (λ (t : OpenTransaction). Joins f c.args.n (record (joined f (g.R.Record.transactions c.make_room.new.self) c.insert.new.self.entries t) { reserved = f.reserved - c.args.n; given = next_handle f }))
    (sym c.in_ok-join.ensures.ok)
    (joins f c.args.n (g.R.Record.transactions c.make_room.new.self) _ c.insert.new.self.entries c.if-self.false may c.if-n-self.false
    c.self.invariant.front.numbers c.make_room.ensures.same refl told) in
    let same = event-held f _ (Join c.args.n) step in
    record {
      front = is-front f _ (Join c.args.n) step c.self.invariant.front;
      held_are = c.self.invariant.held_are ∙ sym same;
      committing_are =
          subst (λ (t : OpenTransaction). AreCommitting (g.R.Record.transactions c.make_room.new.self) c.self.inside.finished t.transaction.tid t.committing)
          (sym c.in_ok-join.ensures.ok)
          (subst (λ (ts : List Sealed). AreCommitting ts c.self.inside.finished c.self.inside.running.transaction.tid c.self.inside.running.committing)
          (sym c.make_room.ensures.same) c.self.invariant.committing_are);
      room = λ joined. c.in_ok-make_room.ensures.room;
    }

-- if memory ran out, the invariant still holds
pub invariant_of-self : goal.invariant_of-self
invariant_of-self g c =
    let f = front_of g.R.Record.transactions c.self.inside in
    let same = ap (λ (ts : List Sealed). remade f ts f.running.handles f.running.steps f.open_handles) c.make_room.ensures.same in
    record {
      front = subst IsFront (sym same) c.self.invariant.front;
      held_are = c.self.invariant.held_are;
      committing_are =
          subst (λ (ts : List Sealed). AreCommitting ts c.self.inside.finished c.self.inside.running.transaction.tid c.self.inside.running.committing)
          (sym c.make_room.ensures.same) c.self.invariant.committing_are;
      room = λ joined. c.make_room.ensures.kept (c.self.invariant.room joined);
    }
