-- A front and an engine agree after each call of the front, whatever it answers.
use Rattle.std.proofs.Common.{arith, refl, ap, sym, subst, ⊎_elim}
use Rattle.std.specs.Prelude.{◌≡◌, ◌≢◌, ◌⊎◌, ℕ, ◌<◌, ◌≤◌, Result, Ok, Err, IfErr, IfOk, OnOk, List, length}
use Rattle.std.proofs.lemmas.Bool.Decides.{eqb_tells, leb_tells}
use Rattle.journal_world.specs.Engine.{Engine}
use Rattle.journal_world.specs.Front.{Front, FrontEvent, FrontHappens}
use Rattle.journal_world.specs.Front.FrontEvent.{ExtendHandle, GiveBack, Join, Lock, Reserve, RevokeBlock, StopHandle, WriteBlock}
use Rattle.block_device.specs.State.{DeviceState}
use Rattle.log_engine.specs.Engine.{EngineValue}
use Rattle.journal_front.specs.Front.{RequestsCommit}
use Rattle.journal_steps.specs.Journal.{Agrees, Requests}
use Rattle.journal_steps.specs.Values.{together}
use Rattle.journal_steps.proofs.Sealing.{IsTouch, agrees-revoked, agrees-untouched, agrees-written}

module _ (f front : Front) (e : Engine) (agrees : Agrees (record { front = f; engine = e })) where
  -- if the front is as it was
  pub kept-same : front ≡ f → Agrees (record { front = front; engine = e })
  kept-same same = subst (λ (x : Front). Agrees (record { front = x; engine = e })) (sym same) agrees

  -- after a step that touches no block
  pub kept-step : (event : FrontEvent) → (IsTouch event → ⊥) → FrontHappens f event front → Agrees (record { front = front; engine = e })
  kept-step event other step = agrees-untouched f front e event other step agrees

  -- after a reserve, granted or not
  pub kept-reserve : {A R : Type 0} (Says : A → Type 0) (Why : R → Type 0) (r : Result A R) (n : ℕ) → IfOk r (λ a. Says a × FrontHappens f (Reserve n) front) →
      IfErr r (λ x. Why x × (front ≡ f)) → Agrees (record { front = front; engine = e })
  kept-reserve Says Why (Ok a) n ok err = kept-step (Reserve n) (λ touch. touch) ok.1
  kept-reserve Says Why (Err x) n ok err = kept-same err.1

  -- after credits come back, held or not
  pub kept-give_back : (n : ℕ) → (n ≤ f.reserved → FrontHappens f (GiveBack n) front) → (f.reserved < n → front ≡ f) → Agrees (record { front = front; engine = e })
  kept-give_back n gives other =
      ⊎_elim
      (λ (held : _ × (n ≤ f.reserved)). kept-step (GiveBack n) (λ touch. touch) (gives held.1))
      (λ (more : _ × (f.reserved < n)). kept-same (other more.1))
      (leb_tells n f.reserved)

  -- after a join, accepted or not
  pub kept-join : {A R : Type 0} (Says : A → Type 0) (Why : R → Type 0) (r : Result A R) (n : ℕ) → IfOk r (λ a. FrontHappens f (Join n) front × Says a) →
      IfErr r (λ x. Why x × (front ≡ f)) → Agrees (record { front = front; engine = e })
  kept-join Says Why (Ok a) n ok err = kept-step (Join n) (λ touch. touch) ok.0
  kept-join Says Why (Err x) n ok err = kept-same err.1

  -- so too if the credits come back
  pub kept-join_with : {A R : Type 0} (Says : A → Type 0) (Back Why : R → Type 0) (r : Result A R) (n : ℕ) → IfOk r (λ a. FrontHappens f (Join n) front × Says a) →
      IfErr r (λ x. Back x × Why x × (front ≡ f)) → Agrees (record { front = front; engine = e })
  kept-join_with Says Back Why (Ok a) n ok err = kept-step (Join n) (λ touch. touch) ok.0
  kept-join_with Says Back Why (Err x) n ok err = kept-same err.2

  -- after credits are given to a handle, or come back
  pub kept-give : {A R : Type 0} (Back Why Rest : R → Type 0) (r : Result A R) (h n : ℕ) → OnOk r (FrontHappens f (ExtendHandle h n) front) →
      IfErr r (λ x. Back x × Why x × (front ≡ f) × Rest x) → Agrees (record { front = front; engine = e })
  kept-give Back Why Rest (Ok a) h n ok err = kept-step (ExtendHandle h n) (λ touch. touch) ok
  kept-give Back Why Rest (Err x) h n ok err = kept-same err.2

  -- after a stop, of an open handle or not
  pub kept-stop : (h : ℕ) → (FrontHappens f (StopHandle h) front ⊎ (front ≡ f)) → Agrees (record { front = front; engine = e })
  kept-stop h = ⊎_elim (λ stops. kept-step (StopHandle h) (λ touch. touch) stops) kept-same

  -- after a lock, with or without handles
  pub kept-lock : (0 < length f.running.handles → FrontHappens f Lock front) → (length f.running.handles ≡ 0 → front ≡ f) → Agrees (record { front = front; engine = e })
  kept-lock locks empty =
      ⊎_elim
      (λ (none : _ × (length f.running.handles ≤ 0)). kept-same (empty (omega (arith, none.1))))
      (λ (some : _ × (0 < length f.running.handles)). kept-step Lock (λ touch. touch) (locks some.1))
      (leb_tells (length f.running.handles) 0)

  -- after a request, made or refused
  pub kept-request : {A R : Type 0} (Why Rest : R → Type 0) (r : Result A R) (tid : ℕ) → OnOk r (RequestsCommit tid f front) →
      IfErr r (λ x. Why x × Rest x × (front ≡ f)) → Agrees (record { front = front; engine = e })
  kept-request Why Rest (Ok a) tid ok err =
      ⊎_elim
      (λ (here : _ × (tid ≡ f.running.tid)). kept-lock (ok.same here.1) ok.empty)
      (λ (other : _ × (tid ≢ f.running.tid)). kept-same (ok.other other.1))
      (eqb_tells tid f.running.tid)
  kept-request Why Rest (Err x) tid ok err = kept-same err.2

  -- after a write
  pub kept-write : {A R : Type 0} (Why Rest : R → Type 0) (r : Result A R) (h b : ℕ) (v : List ℕ) → e.layout.block_size ≡ e.shape.block_size →
      OnOk r (FrontHappens f (WriteBlock h b v) front) → IfErr r (λ x. Why x × (front ≡ f) × Rest x) → Agrees (record { front = front; engine = e })
  kept-write Why Rest (Ok a) h b v size ok err = agrees-written f front e h b v agrees size ok
  kept-write Why Rest (Err x) h b v size ok err = kept-same err.1

  -- after a revoke
  pub kept-revoke : {A R : Type 0} (Why Rest : R → Type 0) (r : Result A R) (h b : ℕ) → OnOk r (FrontHappens f (RevokeBlock h b) front) →
      IfErr r (λ x. Why x × (front ≡ f) × Rest x) → Agrees (record { front = front; engine = e })
  kept-revoke Why Rest (Ok a) h b ok err = agrees-revoked f front e h b agrees ok
  kept-revoke Why Rest (Err x) h b ok err = kept-same err.1

-- a request that the front made is one of the journal
pub requested : {D A R : Type 0} (state : D → DeviceState) (r : Result A R) (tid : ℕ) (f front : Front) (e : EngineValue D) →
    OnOk r (RequestsCommit tid f front) → OnOk r (Requests state tid (together f e) (together front e))
requested state (Ok a) tid f front e ok = record {
  running = ok.running;
  same = λ here joined. record { front = ok.same here joined; engine = refl; disk_is = refl };
  other = λ other. ap (λ (x : Front). together x e) (ok.other other);
  empty = λ none. ap (λ (x : Front). together x e) (ok.empty none);
}
requested state (Err x) tid f front e ok = ok
