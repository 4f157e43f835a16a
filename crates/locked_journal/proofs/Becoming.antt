-- What a step adds to its own holder's facts.
use Rattle.std.proofs.Common.{refl, sym, ◌∙◌, ap, subst, arith}
use Rattle.std.specs.Prelude.{◌≡◌, ◌≢◌, ℕ, ◌+◌, ◌-◌, ◌≤◌, nat_eq, if◌then◌else◌, is_some, List, [], ◌∷◌, ◌++◌, map, Option, Some, None, All, Contains}
use Rattle.std.specs.List.{IsDistinct}
use Rattle.std.specs.Map.{lookup}
use Rattle.std.proofs.lemmas.List.Elements.{All-contains, All-from_recursion, Contains-push}
use Rattle.std.proofs.lemmas.Option.{none-some, same_Some}
use Rattle.journal_model.specs.declared.entry.Entry.{Entry}
use Rattle.journal_model.specs.declared.transaction.Op.{Op}
use Rattle.journal_model.specs.declared.transaction.Op.TheVariants.{Write, Revoke}
use Rattle.journal_model.specs.declared.transaction.Step.{Step}
use Rattle.journal_model.specs.Transaction.{effect}
use Rattle.journal_world.specs.Front.{Front, FrontEvent, FrontHappens, IsOpen, extending, handles_of, joining, left_after, next_handle, read_step, reading_block, revoke_step, stopping, touching, transactions, write_step}
use Rattle.journal_world.specs.Front.FrontEvent.{Join, ExtendHandle, WriteBlock, RevokeBlock, StopHandle}
use Rattle.journal_front.specs.Front.{IsOpenHandle, Spends}
use Rattle.journal_front.specs.Values.{HandleValue}
use Rattle.journal_steps.specs.Handles.{KeepsHandles}
use Rattle.journal_steps.proofs.Audited.{has-handles, step-kept}
use Rattle.locked_journal.specs.declared.own.OwnSteps.{OwnSteps}
use Rattle.locked_journal.specs.Knowing.{AllStillKnow, MayAdd, MayGo, OthersStillKnow, handle_of}
use Rattle.locked_journal.specs.Own.{IsOwn, open_own, stopped_own}
use Rattle.locked_journal.proofs.Lists.{lookup-gone, lookup-here, steps-none, steps-of_own}
use Rattle.locked_journal.proofs.Keeping.{in-record, next-other, same-read, same-step}
use Rattle.locked_journal.proofs.Standing.{InRunning, running-now, stands-running, still-own}

-- One more holder.
pub may-add : (f g : Front) (own : OwnSteps) → IsOwn g own → AllStillKnow f g → ((x : OwnSteps) → IsOwn f x → own.number ≢ x.number) →
    MayAdd f g own
may-add f g own is others far = record {
  own = λ h same. subst (IsOwn g) (same_Some own h same) is;
  others = λ x _ agrees. others x agrees;
  others_apart = λ x h same _ agrees.
      let number : own.number ≡ h.number = ap (λ (o : OwnSteps). o.number) (same_Some own h same) in
      ((λ e. far x agrees (number ∙ e)), (λ e. far x agrees (number ∙ sym e)));
}

-- A holder that was there.
pub may-go : (f g : Front) (own next : OwnSteps) → own.number ≡ next.number → (IsOwn f own → IsOwn g next) →
    (IsOwn f own → OthersStillKnow own.number f g) → MayGo f own g next
may-go f g own next number becomes others had is agreed =
    let was = agreed own is in
    record {
      own = λ h same. subst (IsOwn g) (same_Some next h same) (becomes was);
      others = λ x far. others was x (far own is);
      others_apart = λ x h same far agrees.
          let mine : own.number ≡ h.number = number ∙ ap (λ (o : OwnSteps). o.number) (same_Some next h same) in
          ((λ e. far own is (mine ∙ e)), (λ e. far own is (mine ∙ sym e)));
    }

-- Nothing changes.
pub may-look : (f : Front) (own : OwnSteps) → MayGo f own f own
may-look f own = may-go f f own own refl (λ is. is) (λ is x far agrees. agrees)

-- Each step of the running transaction is of one of its handles.
running-steps : (f : Front) → KeepsHandles f → All (λ s. Contains f.running.handles s.handle) f.running.steps
running-steps f kept =
    All-contains (λ t. All (λ s. Contains t.handles s.handle) t.steps) (transactions f) f.running kept.each.own (Contains-push f.sealed f.running)

-- The next handle has not joined it.
not-joined : (f : Front) → KeepsHandles f → Contains f.running.handles (next_handle f) → ⊥
not-joined f kept joined =
    let low : next_handle f ≤ f.given =
    All-contains (λ n. n ≤ f.given) (handles_of (transactions f)) (next_handle f) (All-from_recursion (λ n. n ≤ f.given) (handles_of (transactions f)) (has-handles f kept).least)
    (in-record (transactions f) f.sealed f.running [] (next_handle f) refl joined) in
    omega (arith, low)

join-own : (f : Front) (n : ℕ) → KeepsHandles f → KeepsHandles (joining f n) →
    IsOwn (joining f n) (open_own (record { number = next_handle f; tid = f.running.tid; left = n }) [])
join-own f n kept after = record {
  stands = stands-running (joining f n) (open_own (record { number = next_handle f; tid = f.running.tid; left = n }) []) (record {
    number = refl;
    joined = Contains-push f.running.handles (next_handle f);
    steps = steps-none (next_handle f) f.running.handles f.running.steps (running-steps f kept) (not-joined f kept);
  });
  credits = lookup-here (next_handle f) n f.open_handles [] after.once;
  stage = refl;
}

-- A handle joins.
pub joins : (f g : Front) (n : ℕ) → KeepsHandles f → FrontHappens f (Join n) g →
    MayAdd f g (open_own (record { number = next_handle f; tid = f.running.tid; left = n }) [])
joins f g n kept step =
    let own : OwnSteps = open_own (record { number = next_handle f; tid = f.running.tid; left = n }) [] in
    let after : KeepsHandles (joining f n) = subst KeepsHandles step.after (step-kept f g (Join n) step kept) in
    may-add f g own (subst (λ (x : Front). IsOwn x own) (sym step.after) (join-own f n kept after))
    (λ x agrees. still-own f g x (same-step f g (Join n) x.number (λ e. none-some x.number e) (next-other f x kept agrees.stands) step) agrees)
    (λ x agrees. next-other f x kept agrees.stands)

-- A look-up finds an open handle's credits.
pub found-open : (f : Front) (h : ℕ) (handle : IsOpen f h) → KeepsHandles f → lookup (nat_eq h) f.open_handles ≡ Some handle.left
found-open f h handle kept =
    ap (λ (hs : List (ℕ × ℕ)). lookup (nat_eq h) hs) handle.stands
    ∙ lookup-here h handle.left handle.before handle.behind (subst (λ (hs : List (ℕ × ℕ)). IsDistinct nat_eq (map (λ o. o.0) hs)) handle.stands kept.once)

-- They are those that its holder knows.
pub same-left : (f : Front) (h left : ℕ) (handle : IsOpen f h) → KeepsHandles f → lookup (nat_eq h) f.open_handles ≡ Some left →
    handle.left ≡ left
same-left f h left handle kept found = same_Some handle.left left (sym (found-open f h handle kept) ∙ found)

-- The others' facts are preserved.
pub others-of : (f g : Front) (event : FrontEvent) (n : ℕ) → KeepsHandles f → ((x : ℕ) → n ≢ x → handle_of event ≢ Some x) →
    FrontHappens f event g → OthersStillKnow n f g
others-of f g event n kept other step x far agrees =
    still-own f g x (same-step f g event x.number (other x.number far) (next-other f x kept agrees.stands) step) agrees

apart-some : (h x : ℕ) → h ≢ x → Some h ≢ Some x
apart-some h x far = λ e. far (same_Some h x e)

-- It has further credits.
pub extend-own : (f : Front) (h : HandleValue) (n : ℕ) (steps : List Step) (handle : IsOpen f h.number) → KeepsHandles f →
    KeepsHandles (extending f h.number n handle) →
    IsOwn f (open_own h steps) → IsOwn (extending f h.number n handle) (open_own (record h { left = h.left + n }) steps)
extend-own f h n steps handle kept after is =
    let was : InRunning f (open_own h steps) = running-now f (open_own h steps) is.stage is.stands in
    let left : handle.left ≡ h.left = same-left f h.number h.left handle kept is.credits in
    record {
      stands = stands-running (extending f h.number n handle) (open_own (record h { left = h.left + n }) steps)
          (record { number = was.number; joined = was.joined; steps = was.steps });
      credits = lookup-here h.number (handle.left + n) handle.before handle.behind after.once ∙ ap (λ (l : ℕ). Some (l + n)) left;
      stage = is.stage;
    }

-- It gets further credits.
pub extends : (f g : Front) (h : HandleValue) (n : ℕ) (steps : List Step) → KeepsHandles f → FrontHappens f (ExtendHandle h.number n) g →
    MayGo f (open_own h steps) g (open_own (record h { left = h.left + n }) steps)
extends f g h n steps kept step =
    let next : OwnSteps = open_own (record h { left = h.left + n }) steps in
    let after : KeepsHandles (extending f h.number n step.handle) = subst KeepsHandles step.after (step-kept f g (ExtendHandle h.number n) step kept) in
    may-go f g (open_own h steps) next refl (λ is. subst (λ (x : Front). IsOwn x next) (sym step.after) (extend-own f h n steps step.handle kept after is))
    (λ is. others-of f g (ExtendHandle h.number n) h.number kept (λ x far. apart-some h.number x far) step)

-- The credits that a touch leaves.
spent : (f : Front) (b : ℕ) (old new : HandleValue) → Spends f b old new → new ≡ record old { left = left_after f b old.left }
spent f b old new spends = by (effect b f.running.steps) refl
  where
    by : (e : Option Entry) → effect b f.running.steps ≡ e → new ≡ record old { left = if is_some e then old.left else old.left - 1 }
    by None is = (spends.first is).1
    by (Some e) is = spends.later (λ none. none-some e (sym none ∙ is))

pub touch-own : (f : Front) (h : HandleValue) (b : ℕ) (op : Op) (steps : List Step) (handle : IsOpen f h.number) → KeepsHandles f →
    KeepsHandles (touching f h.number b op handle) →
    IsOwn f (open_own h steps) →
    IsOwn (touching f h.number b op handle) (open_own (record h { left = left_after f b h.left }) (steps ++ record { handle = h.number; block = b; op = op } ∷ []))
touch-own f h b op steps handle kept after is =
    let s : Step = record { handle = h.number; block = b; op = op } in
    let g : Front = touching f h.number b op handle in
    let was : InRunning f (open_own h steps) = running-now f (open_own h steps) is.stage is.stands in
    let left : handle.left ≡ h.left = same-left f h.number h.left handle kept is.credits in
    record {
      stands = stands-running g (open_own (record h { left = left_after f b h.left }) (steps ++ s ∷ []))
          (record {
            number = was.number;
            joined = was.joined;
            steps = steps-of_own h.number f.running.steps s refl ∙ ap (λ (l : List Step). l ++ s ∷ []) was.steps;
          });
      credits = lookup-here h.number (left_after f b handle.left) handle.before handle.behind after.once ∙ ap (λ (l : ℕ). Some (left_after f b l)) left;
      stage = is.stage;
    }

-- It writes a block.
pub writes : (f g : Front) (h next : HandleValue) (b : ℕ) (v : List ℕ) (steps : List Step) → KeepsHandles f →
    FrontHappens f (WriteBlock h.number b v) g → Spends f b h next →
    MayGo f (open_own h steps) g (open_own next (steps ++ write_step h.number b v ∷ []))
writes f g h next b v steps kept step spends =
    let after : KeepsHandles (touching f h.number b (Write v) step.handle) = subst KeepsHandles step.after (step-kept f g (WriteBlock h.number b v) step kept) in
    let made : OwnSteps = open_own (record h { left = left_after f b h.left }) (steps ++ write_step h.number b v ∷ []) in
    subst (λ (o : HandleValue). MayGo f (open_own h steps) g (open_own o (steps ++ write_step h.number b v ∷ []))) (sym (spent f b h next spends))
    (may-go f g (open_own h steps) made refl
    (λ is. subst (λ (x : Front). IsOwn x made) (sym step.after) (touch-own f h b (Write v) steps step.handle kept after is))
    (λ is. others-of f g (WriteBlock h.number b v) h.number kept (λ x far. apart-some h.number x far) step))

-- It revokes a block.
pub revokes : (f g : Front) (h next : HandleValue) (b : ℕ) (steps : List Step) → KeepsHandles f → FrontHappens f (RevokeBlock h.number b) g →
    Spends f b h next →
    MayGo f (open_own h steps) g (open_own next (steps ++ revoke_step h.number b ∷ []))
revokes f g h next b steps kept step spends =
    let after : KeepsHandles (touching f h.number b Revoke step.handle) = subst KeepsHandles step.after (step-kept f g (RevokeBlock h.number b) step kept) in
    let made : OwnSteps = open_own (record h { left = left_after f b h.left }) (steps ++ revoke_step h.number b ∷ []) in
    subst (λ (o : HandleValue). MayGo f (open_own h steps) g (open_own o (steps ++ revoke_step h.number b ∷ []))) (sym (spent f b h next spends))
    (may-go f g (open_own h steps) made refl
    (λ is. subst (λ (x : Front). IsOwn x made) (sym step.after) (touch-own f h b Revoke steps step.handle kept after is))
    (λ is. others-of f g (RevokeBlock h.number b) h.number kept (λ x far. apart-some h.number x far) step))

-- It has read a block.
pub read-own : (f : Front) (h : HandleValue) (b : ℕ) (v : List ℕ) (steps : List Step) → IsOwn f (open_own h steps) →
    IsOwn (reading_block f h.number b v) (open_own h (steps ++ read_step h.number b v ∷ []))
read-own f h b v steps is =
    let was : InRunning f (open_own h steps) = running-now f (open_own h steps) is.stage is.stands in
    record {
      stands = stands-running (reading_block f h.number b v) (open_own h (steps ++ read_step h.number b v ∷ []))
          (record {
            number = was.number;
            joined = was.joined;
            steps = steps-of_own h.number f.running.steps (read_step h.number b v) refl ∙ ap (λ (l : List Step). l ++ read_step h.number b v ∷ []) was.steps;
          });
      credits = is.credits;
      stage = is.stage;
    }

-- It reads a block.
pub reads : (f : Front) (h : HandleValue) (b : ℕ) (v : List ℕ) (steps : List Step) →
    MayGo f (open_own h steps) (reading_block f h.number b v) (open_own h (steps ++ read_step h.number b v ∷ []))
reads f h b v steps =
    may-go f (reading_block f h.number b v) (open_own h steps) (open_own h (steps ++ read_step h.number b v ∷ [])) refl (read-own f h b v steps)
    (λ is x far agrees. still-own f (reading_block f h.number b v) x (same-read f x.number h.number b v far) agrees)

-- An open handle is one of the front's.
pub is_open : (f : Front) (h : HandleValue) (steps : List Step) → IsOwn f (open_own h steps) → IsOpenHandle f h
is_open f h steps is = record { left = is.credits; transaction = is.stage }

pub stop-own : (f : Front) (h : HandleValue) (steps : List Step) (handle : IsOpen f h.number) → KeepsHandles f → IsOwn f (open_own h steps) →
    IsOwn (stopping f h.number handle) (stopped_own h.number h.tid steps)
stop-own f h steps handle kept is =
    let was : InRunning f (open_own h steps) = running-now f (open_own h steps) is.stage is.stands in
    record {
      stands = stands-running (stopping f h.number handle) (stopped_own h.number h.tid steps) (record { number = was.number; joined = was.joined; steps = was.steps });
      credits = lookup-gone h.number handle.left handle.before handle.behind
          (subst (λ (hs : List (ℕ × ℕ)). IsDistinct nat_eq (map (λ o. o.0) hs)) handle.stands kept.once);
      stage = tt;
    }

-- It stops.
pub stops : (f g : Front) (h : HandleValue) (steps : List Step) → KeepsHandles f → (IsOpenHandle f h → FrontHappens f (StopHandle h.number) g) →
    MayGo f (open_own h steps) g (stopped_own h.number h.tid steps)
stops f g h steps kept step =
    may-go f g (open_own h steps) (stopped_own h.number h.tid steps) refl
    (λ is. let s = step (is_open f h steps is) in
    subst (λ (x : Front). IsOwn x (stopped_own h.number h.tid steps)) (sym s.after) (stop-own f h steps s.handle kept is))
    (λ is. others-of f g (StopHandle h.number) h.number kept (λ x far. apart-some h.number x far) (step (is_open f h steps is)))
