-- A handle that touches a block: its transaction and the open handles after the touch, and the credits that it has left.
use Rattle.std.proofs.Common.{◌≡◌, ℕ, ◌-◌, ◌<◌, List, [], ◌∷◌, ◌++◌, length, Option, None, Some, is_some, if◌then◌else◌, refl, sym, ◌∙◌, ap, ap₂, subst, arith, nat_eq}
use Rattle.std.specs.Map.{lookup}
use Rattle.indexmap.specs.IndexMap.{insert_entry}
use Rattle.journal_model.specs.declared.entry.Entry.{Entry}
use Rattle.journal_model.specs.declared.refusal.JournalError.{JournalError}
use Rattle.journal_model.specs.declared.transaction.Op.{Op}
use Rattle.journal_model.specs.declared.transaction.Op.TheVariants.{Write, Revoke}
use Rattle.journal_model.specs.Transaction.{effect}
use Rattle.journal_world.specs.Front.{Front, IsFirstTouch, RevokesBlock, WritesBlock, left_after}
use Rattle.journal_front.specs.declared.transaction.Touch.{Touch}
use Rattle.journal_front.specs.Transaction.{OpenTransaction, TouchRefused as StepRefused, Touches, cost, touch_of}
use Rattle.journal_front.specs.Transaction.TouchRefused.{WithoutCredit as NoCreditLeft, WithoutMemory as NoMemoryLeft}
use Rattle.journal_front.specs.Front.{IsOpenHandle, MayStep, Spends, TouchRefused}
use Rattle.journal_front.specs.Front.TouchRefused.{WithoutCredit, WithoutMemory}
use Rattle.journal_front.specs.Values.{HandleValue}
use Rattle.journal_front.proofs.Holding.{found-inserted, revokes, writes}

-- the front with this running transaction and these open handles
abbrev pub with_running : Front → OpenTransaction → List (ℕ × ℕ) → Front
with_running f t hs = record f { running = t.transaction; locked = t.locked; open_handles = hs }

-- a first touch costs one credit
cost-first : (o : Option Entry) → o ≡ None → cost (touch_of o) ≡ 1
cost-first o none = ap (λ (x : Option Entry). cost (touch_of x)) none

-- a later touch costs none
cost-later : (o : Option Entry) → (o ≡ None → ⊥) → cost (touch_of o) ≡ 0
cost-later None later = absurd (later refl)
cost-later (Some e) later = refl

-- it leaves the handle the credits that the machine says
left-by : (o : Option Entry) (left : ℕ) → left - cost (touch_of o) ≡ (if is_some o then left else left - 1)
left-by None left = refl
left-by (Some e) left = omega arith

module _ (f : Front) (old new : OpenTransaction) (h paid : HandleValue) (number left b : ℕ) (op : Op) (touch : Touch) (hs : List (ℕ × ℕ))
    (running : f.running ≡ old.transaction) (locked : f.locked ≡ old.locked) (may : MayStep f h b) (number_is : number ≡ h.number) (left_is : left ≡ h.left)
    (touches : Touches old left (record { handle = number; block = b; op = op }) touch new)
    (paid_is : paid ≡ record h { left = h.left - cost touch }) (told : hs ≡ insert_entry nat_eq f.open_handles paid.number paid.left) where
  -- the touch's cost follows from the block's effect so far
  cost-is : cost touch ≡ cost (touch_of (effect b f.running.steps))
  cost-is = ap cost touches.may.touch_is ∙ ap (λ t. cost (touch_of (effect b t.steps))) (sym running)

  pub credit : IsFirstTouch f b → 0 < h.left
  credit first =
      let one : cost touch ≡ 1 = cost-is ∙ cost-first (effect b f.running.steps) first in
      let fits = touches.may.paid in
      omega arith

  left-is : paid.left ≡ left_after f b h.left
  left-is = ap (λ (p : HandleValue). p.left) paid_is ∙ ap (λ (n : ℕ). h.left - n) cost-is ∙ left-by (effect b f.running.steps) h.left

  told-is : hs ≡ insert_entry nat_eq f.open_handles h.number (left_after f b h.left)
  told-is = told ∙ ap₂ (λ (n m : ℕ). insert_entry nat_eq f.open_handles n m) (ap (λ (p : HandleValue). p.number) paid_is) left-is

  -- after it the transaction has one more step
  noted-is : with_running f new hs ≡
      record f { running = record f.running { steps = f.running.steps ++ record { handle = h.number; block = b; op = op } ∷ [] }; open_handles = hs }
  noted-is =
      ap (λ (t : OpenTransaction). with_running f t hs) touches.noted
      ∙ ap₂ (λ t (n : ℕ). record f {
        running = record t { steps = t.steps ++ record { handle = n; block = b; op = op } ∷ [] };
        locked = old.locked;
        open_handles = hs;
      }) (sym running) number_is
      ∙ ap (λ (l : _). record f {
        running = record f.running { steps = f.running.steps ++ record { handle = h.number; block = b; op = op } ∷ [] };
        locked = l;
        open_handles = hs;
      }) (sym locked)

  -- its number is the same
  pub same-number : new.transaction.tid ≡ old.transaction.tid
  same-number = ap (λ (t : OpenTransaction). t.transaction.tid) touches.noted

  -- its handles are the same
  pub same-handles : new.transaction.handles ≡ old.transaction.handles
  same-handles = ap (λ (t : OpenTransaction). t.transaction.handles) touches.noted

  -- the handle was open and still is
  pub open-still : IsOpenHandle f h × IsOpenHandle (with_running f new hs) paid
  open-still = (
    may.open_handle,
    record {
      left = subst (λ (es : List (ℕ × ℕ)). lookup (nat_eq paid.number) es ≡ Some paid.left) (sym told) (found-inserted f.open_handles paid.number paid.left);
      transaction =
          ap (λ (p : HandleValue). p.tid) paid_is ∙ may.open_handle.transaction ∙ ap (λ t. t.tid) running ∙ sym same-number;
    },
  )

  -- it has paid for the touch
  pub spends : Spends f b h paid
  spends = record {
    first = λ first. (
      credit first,
      paid_is ∙ ap (λ (n : ℕ). let p : HandleValue = record h { left = h.left - n } in p) (cost-is ∙ cost-first (effect b f.running.steps) first),
    );
    later = λ later.
        paid_is ∙ ap (λ (n : ℕ). let p : HandleValue = record h { left = n } in p)
        {x = h.left - cost touch} {y = h.left} (let none : cost touch ≡ 0 = cost-is ∙ cost-later (effect b f.running.steps) later in omega arith);
  }

  -- a touch that writes is the machine's write
  pub wrote : (v : List ℕ) → op ≡ Write v → length v ≡ f.layout.block_size → WritesBlock f h.number b v (with_running f new hs)
  wrote v is whole =
      subst (WritesBlock f h.number b v)
      (sym (noted-is ∙ ap (λ (o : Op). record f { running = record f.running { steps = f.running.steps ++ record { handle = h.number; block = b; op = o } ∷ [] }; open_handles = hs }) is))
      (writes f h.number b h.left v hs may.running may.open_handle.left credit may.allowed whole told-is)

  -- a touch that revokes is the machine's revoke
  pub revoked : op ≡ Revoke → RevokesBlock f h.number b (with_running f new hs)
  revoked is =
      subst (RevokesBlock f h.number b)
      (sym (noted-is ∙ ap (λ (o : Op). record f { running = record f.running { steps = f.running.steps ++ record { handle = h.number; block = b; op = o } ∷ [] }; open_handles = hs }) is))
      (revokes f h.number b h.left hs may.running may.open_handle.left credit may.allowed told-is)

-- if the transaction refuses a touch, so does the front
pub refused-touch : (f : Front) (old : OpenTransaction) (h : HandleValue) (left b : ℕ) (e : JournalError) → f.running ≡ old.transaction → MayStep f h b → left ≡ h.left →
    StepRefused old left b e → TouchRefused f h b e
refused-touch f old h left b e running may left_is (NoCreditLeft lacks) =
    WithoutCredit may (ap (λ t. effect b t.steps) running ∙ lacks.first) (sym left_is ∙ lacks.none_left) lacks.refusal
refused-touch f old h left b e running may left_is (NoMemoryLeft paid is) =
    WithoutMemory may
    (λ first.
    let one : cost (touch_of (effect b old.transaction.steps)) ≡ 1 =
    ap (λ t. cost (touch_of (effect b t.steps))) (sym running) ∙ cost-first (effect b f.running.steps) first in
    omega arith)
    is
