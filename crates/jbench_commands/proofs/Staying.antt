-- What a journal leaves stays on a device that is only read afterwards.
use Rattle.std.proofs.Common.{◌≡◌, ◌∙◌, ◌⊎◌, inl, inr, ℕ, List, Option, true, subst, sym}
use Rattle.std.proofs.lemmas.Bool.{false≢true}
use Rattle.std.proofs.lemmas.Result.{on_ok_weaker}
use Rattle.std.specs.Prelude.{⊤, IsErr, OnOk, Result, Ok, Err, is_ok}
use Rattle.journal_model.specs.Disk.{Disk, Leaves, Shape, reading}
use Rattle.journal_model.specs.Transaction.{History}
use Rattle.block_device.specs.State.{DeviceState, Stays}
use Rattle.log_model.specs.Opening.{OfClean, super_of}
use Rattle.journal_script.specs.declared.script.Operation.{Operation}
use Rattle.log_epochs.proofs.Keeping.{reads-left}
use Rattle.script_client.specs.declared.fault.Fault.{Fault}
use Rattle.script_client.specs.declared.performing.Ending.{Ending}
use Rattle.script_client.specs.declared.performing.Ending.TheVariants.{Close, Stay}
use Rattle.script_client.specs.Ended.{IsEnded, IsLeftClosed}
use Rattle.script_client.specs.Told.{IsLedTo}
use Rattle.jbench_commands.specs.Applying.{EndsWithNext, SaysAfter, SaysNext}
use Rattle.jbench_commands.specs.Applying.SaysAfter.{SaysNothing, SaysNumber}

-- whether a journal is closed
abbrev IsToClose : Ending → Type 0
IsToClose Close = ⊤
IsToClose Stay = ⊥

close-stay : Close ≡ Stay → ⊥
close-stay same = subst IsToClose same tt

pub ended-stays : {F : Shape → Disk → Type 0} {operations : List Operation} {old new : DeviceState} {sealed : History} {shown : Option ℕ} →
    Stays old new → IsEnded F operations old sealed shown → IsEnded F operations new sealed shown
ended-stays stays e = record {
  opening = e.opening;
  fact = rw stays.shape e.fact;
  start = e.start;
  begins = e.begins;
  moves = e.moves;
  journal = e.journal;
  phase = e.phase;
  directs = e.directs;
  written = e.written;
  answered = e.answered;
  leads = rw (stays.shape, stays.disk) e.leads;
  greatest = e.greatest;
  sealed_is = e.sealed_is;
}

pub closed-stays : {old new : DeviceState} {sealed : History} → Stays old new → IsLeftClosed old sealed → IsLeftClosed new sealed
closed-stays stays closed = record { each = λ image leaves. rw stays.shape (closed.each image (subst (λ (disk : Disk). Leaves disk image) stays.disk leaves)) }

-- a fact of an Ok answer
pub was-ok : {T E P : Type 0} (r : Result T E) → is_ok r ≡ true → OnOk r P → P
was-ok (Ok v) ok p = p
was-ok (Err e) ok p = absurd (false≢true ok)

-- in a closed log, the number after the superblock's is the number after the limit
pub says-next : {old new : DeviceState} {sealed : History} {before written : Option (List ℕ)} →
    Stays old new → IsLeftClosed old sealed → SaysNext old before written → EndsWithNext new written
says-next {old} {new} {sealed} {before} {written} stays closed says = record {
  limit = (super_of (reading old.disk)).s_sequence;
  has_limit = rw (stays.shape, stays.disk) (OfClean (closed.each (reading old.disk) (reads-left old.disk)).clean);
  before = before;
  said = says.said;
}

-- a closed log is still closed after its line
pub after-closed : {D : Type 0} {state : D → DeviceState} {honest : D → Type 0} {ending : Ending} {device left : D} {applied end : Result (Unit {0}) Fault} {said written : Option (List ℕ)}
    (sealed : History) → SaysAfter state honest ending device left applied end said written → ending ≡ Close → Stays (state device) (state left) → (honest left → honest device) →
    OnOk applied (honest device → IsLeftClosed (state device) sealed) → OnOk end (honest left → IsLeftClosed (state left) sealed)
after-closed {D} {state} {honest} {ending} {device} {left} {applied} {end} {said} {written} sealed (SaysNothing why same is text) close stays before closed =
    subst (λ (r : Result (Unit {0}) Fault). OnOk r (honest left → IsLeftClosed (state left) sealed)) (sym is)
    (on_ok_weaker applied (λ (f : honest device → IsLeftClosed (state device) sealed). λ now. closed-stays stays (f (before now))) closed)
after-closed {D} {state} {honest} {ending} {device} {left} {applied} {end} {said} {written} sealed (SaysNumber is ok says) close stays before closed =
    on_ok_weaker end (λ _. λ now. closed-stays stays (was-ok applied ok closed (before now))) says

-- the printed number is the next transaction's
pub after-next : {D : Type 0} {state : D → DeviceState} {honest : D → Type 0} {ending : Ending} {device left : D} {applied end : Result (Unit {0}) Fault} {said written : Option (List ℕ)}
    (sealed : History) → SaysAfter state honest ending device left applied end said written → ending ≡ Close → Stays (state device) (state left) → (honest left → honest device) →
    OnOk applied (honest device → IsLeftClosed (state device) sealed) → OnOk end (honest left → EndsWithNext (state left) written)
after-next {D} {state} {honest} {ending} {device} {left} {applied} {end} {said} {written} sealed (SaysNothing why same is text) close stays before closed =
    subst (λ (r : Result (Unit {0}) Fault). OnOk r (honest left → EndsWithNext (state left) written)) (sym is) (none-said applied why close)
  where
    none-said : (r : Result (Unit {0}) Fault) → (ending ≡ Stay) ⊎ IsErr r → ending ≡ Close → OnOk r (honest left → EndsWithNext (state left) written)
    none-said (Err e) why close = tt
    none-said (Ok v) (inl stay) close = absurd (close-stay (sym close ∙ stay))
    none-said (Ok v) (inr err) close = absurd (false≢true err)
after-next {D} {state} {honest} {ending} {device} {left} {applied} {end} {said} {written} sealed (SaysNumber is ok says) close stays before closed =
    on_ok_weaker end (λ said_now. λ now. says-next stays (was-ok applied ok closed (before now)) (said_now now)) says

-- a journal that stays is as it was left
pub after-stays : {D : Type 0} {state : D → DeviceState} {honest : D → Type 0} {ending : Ending} {device left : D} {applied end : Result (Unit {0}) Fault} {said written : Option (List ℕ)}
    {F : Shape → Disk → Type 0} {operations : List Operation} {sealed : History} {shown : Option ℕ} →
    SaysAfter state honest ending device left applied end said written → ending ≡ Stay → IsLedTo F operations (state device) sealed shown → IsLedTo F operations (state left) sealed shown
after-stays {D} {state} {honest} {ending} {device} {left} {applied} {end} {said} {written} {F} {operations} {sealed} {shown} (SaysNothing why same is text) stay to =
    subst (λ (d : _). IsLedTo F operations (state d) sealed shown) (sym same) to
after-stays {D} {state} {honest} {ending} {device} {left} {applied} {end} {said} {written} {F} {operations} {sealed} {shown} (SaysNumber is ok says) stay to =
    absurd (close-stay (sym is ∙ stay))
