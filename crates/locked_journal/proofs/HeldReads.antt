-- A read of a block with a copy in the front.
use Rattle.std.proofs.Common.{arith, refl, sym, ap, subst, ◌∙◌}
use Rattle.std.specs.Prelude.{◌≡◌, ℕ, zero, suc, ◌≤◌, List, [], ◌∷◌, ◌++◌, length, take, drop, Some, Ok, true}
use Rattle.journal_model.proofs.Effects.{entries-push_read, later-later, later-none}
use Rattle.journal_model.proofs.ListElements.{each-append}
use Rattle.journal_model.specs.declared.entry.Entry.{Entry}
use Rattle.journal_model.specs.declared.entry.Entry.TheVariants.{Copy}
use Rattle.journal_model.specs.declared.number.Area.TheVariants.{Home}
use Rattle.journal_model.specs.Block.{IsAllowedBlock}
use Rattle.journal_model.specs.Layout.{Layout}
use Rattle.journal_model.specs.Reading.{answer_of, seen}
use Rattle.journal_model.specs.Transaction.{History, effect, entries, last_effect, later}
use Rattle.block_device.specs.State.{DeviceState}
use Rattle.journal_world.specs.Engine.{Engine}
use Rattle.journal_world.specs.Front.{Front, IsOpen, finished_count, held, read_step, reading_block, transactions, unfinished}
use Rattle.log_engine.specs.Engine.{EngineValue}
use Rattle.journal_front.specs.Front.{MayStep}
use Rattle.journal_front.specs.Values.{HandleValue}
use Rattle.journal_steps.specs.Journal.{Agrees, IsGoodStep}
use Rattle.journal_steps.specs.Legal.{KeepsLegal}
use Rattle.journal_steps.specs.Values.{together}
use Rattle.journal_world.specs.Journal.Event.{ReadBlock}
use Rattle.journal_world.specs.Sound.{IsPlain}
use Rattle.journal_steps.proofs.Audited.{read-kept}
use Rattle.journal_steps.proofs.LegalSteps.{legal-happens}
use Rattle.locked_journal.specs.Sides.{HeldReadDid}

-- The front agrees with the engine as last reconciled, and its record is legal if device reads so far were correct.
pub record IsFrontSide {D : Type 0} (state : D → DeviceState) (honest : D → Type 0) (f : Front) (reconciled : EngineValue D) : Type 0 where
  pub agrees : Agrees (together f reconciled).journal
  pub plain : IsPlain reconciled.engine
  pub shape : reconciled.engine.shape ≡ (state reconciled.device).shape
  pub legal : KeepsLegal honest (together f reconciled)

-- The last effect of transactions is that of the first r, then of the later ones.
last-from : (b r : ℕ) (ts : History) → last_effect b ts ≡ later (last_effect b (take r ts)) (last_effect b (drop r ts))
last-from b zero ts = sym (later-none (last_effect b ts))
last-from b (suc r) [] = refl
last-from b (suc r) (t ∷ ts) =
    ap (later (effect b t.steps)) (last-from b r ts) ∙ sym (later-later (effect b t.steps) (last_effect b (take r ts)) (last_effect b (drop r ts)))

-- A held copy is what a read is to see.
seen-held : (f : Front) (b : ℕ) (v home : List ℕ) → last_effect b (unfinished f) ≡ Some (Copy v) → seen (transactions f) (finished_count f) b home ≡ Ok v
seen-held f b v home made =
    ap (λ o. answer_of o (last_effect b (unfinished f)) home)
    (last-from b (finished_count f) (transactions f) ∙ ap (later (last_effect b (take (finished_count f) (transactions f)))) made)

-- Front and engine still agree.
agrees-read : (f : Front) (e : Engine) (h b : ℕ) (v : List ℕ) → Agrees (record { front = f; engine = e }) → length v ≡ e.shape.block_size →
    IsAllowedBlock f.layout f.home_blocks b → IsOpen f h → Agrees (record { front = reading_block f h b v; engine = e })
agrees-read f e h b v agrees whole allowed handle =
    let good : IsGoodStep e.layout e.shape (read_step h b v) = record {
      whole = whole;
      allowed =
          subst (λ (l : Layout). IsAllowedBlock l e.shape.home_blocks b) agrees.layout
          (subst (λ (n : ℕ). IsAllowedBlock f.layout n b) agrees.home_blocks allowed);
    } in
    let same : length (entries (f.running.steps ++ read_step h b v ∷ [])) ≡ length (entries f.running.steps) =
    ap (λ (es : List (ℕ × Entry)). length es) (entries-push_read f.running.steps (read_step h b v) refl) in
    let fits : held f ≤ f.capacity = agrees.credits in
    record {
      layout = agrees.layout;
      home_blocks = agrees.home_blocks;
      aborted = agrees.aborted;
      batches = agrees.batches;
      number = agrees.number;
      finished = agrees.finished;
      mark = agrees.mark;
      steps = each-append (IsGoodStep e.layout e.shape) f.running.steps (read_step h b v ∷ []) agrees.steps (good, tt);
      joined = agrees.joined;
      locked = agrees.locked;
      capacity = agrees.capacity;
      credits = omega arith;
      handles = read-kept f h b v handle agrees.handles;
    }

module _ {D : Type 0} (state : D → DeviceState) (honest : D → Type 0) (f front : Front) (reconciled : EngineValue D) (h : HandleValue) (b : ℕ) (copy into before : List ℕ)
    (side : IsFrontSide state honest f reconciled) (may : MayStep f h b) (is : IsOpen f h.number) (held : last_effect b (unfinished f) ≡ Some (Copy copy))
    (buffer : length before ≡ (state reconciled.device).shape.block_size) (whole : length copy ≡ length before) (noted : front ≡ reading_block f h.number b copy)
    (out : into ≡ copy) where
  -- The front's invariant holds after it.
  pub held-side : IsFrontSide state honest front reconciled
  held-side =
      subst (λ (x : Front). IsFrontSide state honest x reconciled) (sym noted) (record {
        agrees = agrees-read f reconciled.engine h.number b copy side.agrees (whole ∙ (buffer ∙ ap (λ s. s.block_size) (sym side.shape))) may.allowed is;
        plain = side.plain;
        shape = side.shape;
        legal = λ now.
            legal-happens (together f reconciled).journal (state reconciled.device).disk (ReadBlock h.number b copy) (together (reading_block f h.number b copy) reconciled).journal
            (state reconciled.device).disk (record {
              running = may.running;
              handle = is;
              allowed = may.allowed;
              sees = seen-held f b copy ((state reconciled.device).disk Home b).reads held;
              front = refl;
              engine = refl;
              disk_is = refl;
            }) (side.legal now);
      })

  -- It is the machine's read.
  pub held-did : HeldReadDid state true h b into (together f reconciled) (together front reconciled)
  held-did =
      subst (λ (v : List ℕ). HeldReadDid state true h b v (together f reconciled) (together front reconciled)) (sym out) (
        record {
          running = may.running;
          handle = is;
          allowed = may.allowed;
          sees = seen-held f b copy ((state reconciled.device).disk Home b).reads held;
          front = noted;
          engine = refl;
          disk_is = refl;
        },
        record { may = may; front = noted; engine = refl; kept = λ kept. refl },
        held,
      )
