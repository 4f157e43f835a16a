use Rattle.std.proofs.Common.{◌≡◌, ℕ, List, Some, ap, arith, refl, sym, ◌∙◌, length}
use Rattle.std.proofs.lemmas.List.{with_items_is}
use Rattle.std.proofs.lemmas.Option.{none-some}
use Rattle.std.proofs.lemmas.Result.{err_from_is_err_and}
use Rattle.block_device.proofs.OneCall.{no-read}
use Rattle.journal_model.specs.declared.entry.Entry.TheVariants.{Copy, Revoke}
use Rattle.journal_model.specs.Disk.{Shape}
use Rattle.journal_model.specs.Layout.{Layout}
use Rattle.journal_world.specs.Engine.{Engine}
use Rattle.journal_world.specs.Front.{Front, aborting}
use Rattle.journal_world.specs.Journal.{Journal}
use Rattle.log_engine.specs.Engine.{EngineValue}
use Rattle.journal_steps.specs.Journal.{ReadRefused}
use Rattle.journal_steps.specs.Values.{together}
use Rattle.journal_steps.proofs.Noting.{noted-agrees, noted-reads, unheld}
use Rattle.journal_steps.proofs.Reading.{kept-pending, kept-whole, seen-kept, seen-read}
use Rattle.journal_steps.proofs.Rounding.{agrees-read_refused, refused-read}
use Rattle.journal_steps.proofs.Sealing.{allowed-here}
use Rattle.journal_steps.proofs.Turning.{opens-now}
use Rattle.journal_steps.proofs.Verbs.{left-alike, left-read, on-any}
use Rattle.journal_steps.proofs.steps.read.Goals as goal

-- a copy is no revoke
apart : (v : List ℕ) → Some (Copy v) ≡ Some Revoke → ⊥
apart v is = cc

pub returns-in_err-admit-clause-reads : goal.returns-in_err-admit-clause-reads
returns-in_err-admit-clause-reads g c =
    let p = err_from_is_err_and c.from_residual.result c.from_residual.ensures.1 in
    rw (p.1, p.2) (record { ok = tt; registers = tt; err = ReadRefused.ReadKeptOut c.in_err-admit.ensures.err refl; untouched = refl; same_length = refl })

pub returns-in_err-copy-clause-reads : goal.returns-in_err-copy-clause-reads
returns-in_err-copy-clause-reads g c =
    let p = err_from_is_err_and c.from_residual-in_err-copy.result c.from_residual-in_err-copy.ensures.1 in
    let why = unheld g.D.Device.state _ c.args.handle.now c.args.block _ c.in_ok-admit.ensures.ok c.in_err-copy.ensures.err in
    rw (p.1, p.2) (record { ok = tt; registers = tt; err = why; untouched = refl; same_length = refl })

pub returns-in_err-copy-clause-left : goal.returns-in_err-copy-clause-left
returns-in_err-copy-clause-left g c =
    left-alike g.D.Device.state g.D.Device.honest (together c.args.front.now c.args.engine.now) (together c.args.front.now c.args.engine.now) _
    (λ honest. opens-now _ _ c.requires.agrees (c.recall_invariant.ensures.opens honest)) no-read (omega arith) (on-any _ refl) refl

-- the copy that is kept fills the buffer
pub register_read-requires-clause-length : goal.register_read-requires-clause-length
register_read-requires-clause-length g c =
    let j : Journal = record { front = c.args.front.now; engine = c.args.engine.now.engine } in
    let last = rw c.in-Some.is at c.in_ok-copy.ensures.ok in
    c.requires.length ∙ ap (λ (s : Shape). s.block_size) (sym c.recall_invariant.ensures.shape)
    ∙ sym (kept-whole j c.args.block c.in-Some.copy c.requires.agrees c.recall_invariant.ensures.plain last)

pub returns-in-Some-clause-agrees : goal.returns-in-Some-clause-agrees
returns-in-Some-clause-agrees g c =
    let j : Journal = record { front = c.args.front.now; engine = c.args.engine.now.engine } in
    let last = rw c.in-Some.is at c.in_ok-copy.ensures.ok in
    noted-agrees g.D.Device.state g.D.Device.honest c.args.front.now c.register_read.new.front c.args.engine.now c.args.engine.now c.args.handle.now c.args.block c.in-Some.copy
    c.register_read.new.into c.args.into.now c.register_read.result c.in_ok-admit.ensures.ok c.requires.agrees
    (kept-whole j c.args.block c.in-Some.copy c.requires.agrees c.recall_invariant.ensures.plain last) refl c.register_read.ensures.ok c.register_read.ensures.err c.register_read.ensures.open

pub returns-in-Some-clause-reads : goal.returns-in-Some-clause-reads
returns-in-Some-clause-reads g c =
    let j : Journal = record { front = c.args.front.now; engine = c.args.engine.now.engine } in
    let plain = c.recall_invariant.ensures.plain in
    let last = rw c.in-Some.is at c.in_ok-copy.ensures.ok in
    noted-reads g.D.Device.state g.D.Device.honest c.args.front.now c.register_read.new.front c.args.engine.now c.args.engine.now c.args.handle.now c.args.block c.in-Some.copy
    c.register_read.new.into c.args.into.now c.register_read.result c.in_ok-admit.ensures.ok c.requires.agrees
    (kept-whole j c.args.block c.in-Some.copy c.requires.agrees plain last) refl c.register_read.ensures.ok c.register_read.ensures.err c.register_read.ensures.open
    (λ honest. seen-kept j c.requires.agrees plain (g.D.Device.state c.args.engine.now.device).disk c.args.block c.in-Some.copy last)
    (record { shape = refl; disk = refl; past = refl }) (λ kept. refl) (λ revoked. apart c.in-Some.copy (sym last ∙ revoked)) refl c.register_read.ensures.length

pub returns-in-Some-clause-left : goal.returns-in-Some-clause-left
returns-in-Some-clause-left g c =
    left-read g.D.Device.state g.D.Device.honest (together c.args.front.now c.args.engine.now) (together c.register_read.new.front c.args.engine.now) c.register_read.result
    (λ honest. opens-now _ _ c.requires.agrees (c.recall_invariant.ensures.opens honest)) no-read (omega arith) (on-any _ refl) c.args.handle.now c.args.block
    c.args.into.now c.register_read.new.into (returns-in-Some-clause-reads g c)

-- memory ran out before the engine's read, or after it
pub returns-in_err-bytes-clause-left : goal.returns-in_err-bytes-clause-left
returns-in_err-bytes-clause-left g c =
    left-alike g.D.Device.state g.D.Device.honest (together c.args.front.now c.args.engine.now) (together c.room_for_read.new.self c.args.engine.now) _
    (λ honest. opens-now _ _ c.requires.agrees (c.recall_invariant.ensures.opens honest)) no-read (omega arith) (on-any _ refl)
    (ap (λ (f : Front). let j : Journal = record { front = f; engine = c.args.engine.now.engine } in j) c.room_for_read.ensures.same)

pub returns-in_err-new-clause-left : goal.returns-in_err-new-clause-left
returns-in_err-new-clause-left g c =
    left-alike g.D.Device.state g.D.Device.honest (together c.args.front.now c.args.engine.now) (together c.room_for_read.new.self c.read.new.self) _
    (λ honest. opens-now _ _ c.requires.agrees (c.recall_invariant.ensures.opens honest)) c.read.ensures.device c.read.ensures.calls
    (on-any _ c.in_default-read.ensures.no_fault)
    (ap (λ (f : Front). let j : Journal = record { front = f; engine = c.read.new.self.engine } in j) c.room_for_read.ensures.same
    ∙ ap (λ (e : Engine). let j : Journal = record { front = c.args.front.now; engine = e } in j) c.in_default-read.ensures.ok.1)

-- once the front is notified of the failed read, they agree
pub returns-in-Err-clause-agrees : goal.returns-in-Err-clause-agrees
returns-in-Err-clause-agrees g c =
    let may = c.in_ok-admit.ensures.ok in
    let running = sym c.requires.agrees.aborted ∙ may.running in
    let allowed = allowed-here c.requires.agrees.layout c.requires.agrees.home_blocks may.allowed in
    let told = c.abort.ensures ∙ ap (λ (f : Front). aborting f) c.room_for_read.ensures.same in
    agrees-read_refused g.D.Device.state c.args.front.now _ c.args.engine.now c.read.new.self _ _ c.requires.agrees running allowed told c.in-Err.ensures.err

pub returns-in-Err-clause-reads : goal.returns-in-Err-clause-reads
returns-in-Err-clause-reads g c =
    let told = c.abort.ensures ∙ ap (λ (f : Front). aborting f) c.room_for_read.ensures.same in
    let none = rw c.in_default.is at c.in_ok-copy.ensures.ok in
    record {
      ok = tt;
      registers = tt;
      err =
          refused-read g.D.Device.state c.args.front.now c.abort.new.self c.args.engine.now c.read.new.self c.args.handle.now c.args.block c.in-Err.e c.requires.agrees
          c.in_ok-admit.ensures.ok none c.read.ensures.device.stays told c.in-Err.ensures.err;
      untouched = refl;
      same_length = refl;
    }

pub returns-in-Err-clause-left : goal.returns-in-Err-clause-left
returns-in-Err-clause-left g c =
    left-read g.D.Device.state g.D.Device.honest (together c.args.front.now c.args.engine.now) (together c.abort.new.self c.read.new.self) _
    (λ honest. opens-now _ _ c.requires.agrees (c.recall_invariant.ensures.opens honest)) c.read.ensures.device c.read.ensures.calls tt c.args.handle.now c.args.block
    c.args.into.now c.args.into.now (returns-in-Err-clause-reads g c)

pub returns-clause-agrees : goal.returns-clause-agrees
returns-clause-agrees g c =
    let seen = c.read.new.into in
    let bytes : c.in_ok-new.field-0 ≡ seen = c.in_ok-new.ensures ∙ with_items_is c.in_ok-bytes.bytes seen (c.read.ensures.length ∙ c.deref_mut.ensures.len) in
    let size : length c.deref_mut.result.now ≡ c.args.front.now.layout.block_size = ap length c.deref_mut.ensures.value ∙ c.in_ok-bytes.ensures.length in
    let whole = c.read.ensures.length ∙ size ∙ ap (λ (l : Layout). l.block_size) c.requires.agrees.layout ∙ c.recall_invariant.ensures.plain.layout.1 in
    noted-agrees g.D.Device.state g.D.Device.honest c.args.front.now c.register_read-2.new.front c.args.engine.now c.read.new.self c.args.handle.now c.args.block seen
    c.register_read-2.new.into c.args.into.now c.register_read-2.result c.in_ok-admit.ensures.ok c.requires.agrees whole c.in_default-read.ensures.ok.1
    (rw (c.room_for_read.ensures.same, bytes) at c.register_read-2.ensures.ok) (rw c.room_for_read.ensures.same at c.register_read-2.ensures.err)
    (rw c.room_for_read.ensures.same at c.register_read-2.ensures.open)

-- a pending copy is read without a device call
pub returns-clause-reads : goal.returns-clause-reads
returns-clause-reads g c =
    let j : Journal = record { front = c.args.front.now; engine = c.args.engine.now.engine } in
    let plain = c.recall_invariant.ensures.plain in
    let seen = c.read.new.into in
    let bytes : c.in_ok-new.field-0 ≡ seen = c.in_ok-new.ensures ∙ with_items_is c.in_ok-bytes.bytes seen (c.read.ensures.length ∙ c.deref_mut.ensures.len) in
    let size : length c.deref_mut.result.now ≡ c.args.front.now.layout.block_size = ap length c.deref_mut.ensures.value ∙ c.in_ok-bytes.ensures.length in
    let whole = c.read.ensures.length ∙ size ∙ ap (λ (l : Layout). l.block_size) c.requires.agrees.layout ∙ plain.layout.1 in
    let none = rw c.in_default.is at c.in_ok-copy.ensures.ok in
    noted-reads g.D.Device.state g.D.Device.honest c.args.front.now c.register_read-2.new.front c.args.engine.now c.read.new.self c.args.handle.now c.args.block seen
    c.register_read-2.new.into c.args.into.now c.register_read-2.result c.in_ok-admit.ensures.ok c.requires.agrees whole c.in_default-read.ensures.ok.1
    (rw (c.room_for_read.ensures.same, bytes) at c.register_read-2.ensures.ok) (rw c.room_for_read.ensures.same at c.register_read-2.ensures.err)
    (rw c.room_for_read.ensures.same at c.register_read-2.ensures.open)
    (λ honest. seen-read j c.requires.agrees plain (g.D.Device.state c.args.engine.now.device).disk c.args.block seen none (c.in_default-read.ensures.ok.0 honest))
    c.read.ensures.device.stays
    (λ kept. kept-pending j c.args.block _ none (λ i v is. ap (λ (x : EngineValue g.row.D.Denot). x.device) (c.in_default-read.ensures.pending i v is).1) kept)
    (λ revoked. none-some Revoke (sym none ∙ revoked)) c.in_default-read.ensures.no_fault c.register_read-2.ensures.length

pub returns-clause-left : goal.returns-clause-left
returns-clause-left g c =
    left-read g.D.Device.state g.D.Device.honest (together c.args.front.now c.args.engine.now) (together c.register_read-2.new.front c.read.new.self) c.register_read-2.result
    (λ honest. opens-now _ _ c.requires.agrees (c.recall_invariant.ensures.opens honest)) c.read.ensures.device c.read.ensures.calls
    (on-any _ c.in_default-read.ensures.no_fault) c.args.handle.now
    c.args.block c.args.into.now c.register_read-2.new.into (returns-clause-reads g c)
