-- The front agrees with the engine, and each step of either keeps that.
use Rattle.std.proofs.Common.{refl, sym, ap, subst, ◌∙◌, arith, length-append}
use Rattle.std.specs.Prelude.{◌≡◌, ℕ, suc, ◌+◌, ◌<◌, ◌≤◌, max, nat_eq, Bool, true, false, List, [], ◌∷◌, ◌++◌, length, map, Contains, Some, Ok}
use Rattle.std.specs.List.{AllByRecursion, IsDistinct, list_any}
use Rattle.std.proofs.Math.Nat.{le-max_left, max-le}
use Rattle.std.proofs.lemmas.Bool.Decides.{nat_tests}
use Rattle.std.proofs.lemmas.Cmp.{nat_eq_equiv}
use Rattle.std.proofs.lemmas.List.{map-append}
use Rattle.std.proofs.lemmas.List.Elements.{Contains-append_left, Contains-push}
use Rattle.std.proofs.lemmas.Map.Keys.{IsDistinct-push}
use Rattle.journal_model.proofs.ListElements.{each-append}
use Rattle.journal_model.proofs.Effects.{entries-push_read}
use Rattle.journal_model.specs.declared.entry.Batch.{Batch}
use Rattle.journal_model.specs.declared.entry.Entry.{Entry}
use Rattle.journal_model.specs.declared.entry.Entry.TheVariants.{Copy, Revoke as RevokeEntry}
use Rattle.journal_model.specs.declared.transaction.Op.{Op}
use Rattle.journal_model.specs.declared.transaction.Op.TheVariants.{Write, Revoke}
use Rattle.log_model.specs.Chain.{Ring}
use Rattle.log_model.specs.Room.{IsCapacity}
use Rattle.journal_model.specs.Disk.{Shape}
use Rattle.journal_model.specs.Reading.{seen}
use Rattle.journal_model.specs.Record.{IsLegal}
use Rattle.journal_model.specs.Transaction.{entries, entry_of}
use Rattle.journal_world.specs.Engine.{Engine, Accepts, AreBatchesOf}
use Rattle.journal_world.specs.Front.{Front, FrontEvent, FrontHappens, IsOpen, MaySeal, aborting, extending, finished_count, finishing, fresh_front, held, joining, left_after, next_handle, raising, read_step, reading_block, sealing, stopping, touching, transactions}
use Rattle.journal_world.specs.Front.FrontEvent.{Reserve, RefuseReserve, TakeBack, GiveBack, LoadCredits, LoadMark, Join, ExtendHandle, WriteBlock, RevokeBlock, StopHandle, Lock, Raise}
use Rattle.journal_world.specs.Journal.{KeepsFront, batch_of, fresh_engine}
use Rattle.journal_world.proofs.Batches.{batches-last}
use Rattle.journal_world.proofs.Credits.{held-within}
use Rattle.journal_world.proofs.Elements.{all-weaker, none-passes}
use Rattle.journal_world.proofs.Handles.{HasHandles, handles-begin, handles-empty, handles-join, handles-step}
use Rattle.journal_world.proofs.Legal.{legal-begin, legal-empty, legal-read, legal-same, legal-touch}
use Rattle.journal_world.proofs.Onward.{GoesOn}
use Rattle.journal_world.proofs.OpenHandles.{all-changed, all-without, distinct-without, same-numbers}

-- What the front keeps beside the engine: `KeepsFront`; no answer names a transaction above the mark; handles and reads are
-- as a record has them; no open handle has a number still to be given. (If the first number is 0, nothing is ever sealed.)
pub record FrontAgrees (f : Front) (e : Engine) (answered : List ℕ) : Type 0 where
  pub told : AllByRecursion (λ n. n ≤ f.mark) answered
  pub handles : HasHandles f.given (f.sealed ++ f.running ∷ [])
  pub legal : IsLegal (f.sealed ++ f.running ∷ [])
  pub keeps : KeepsFront f e
  pub least : AllByRecursion (λ h. h.0 ≤ f.given) f.open_handles

-- the front of a new journal agrees with its engine
pub fresh-agrees : (capacity : ℕ) (shape : Shape) (superblock : List ℕ) (next : ℕ) (e : Engine) → e ≡ fresh_engine shape superblock next →
    IsCapacity e.layout e.ring.blocks capacity → FrontAgrees (fresh_front e.layout e.shape.home_blocks capacity next) e []
fresh-agrees capacity shape superblock next e is fits =
    let accepted : e.accepted ≡ [] = ap (λ (x : Engine). x.accepted) is in
    let first : e.first ≡ next = ap (λ (x : Engine). x.first) is in
    let none : length e.accepted ≡ 0 = ap (λ (bs : List Batch). length bs) accepted in
    record {
      told = tt;
      handles = handles-empty next;
      legal = legal-empty next;
      keeps = record {
        layout = refl;
        home_blocks = refl;
        aborted = λ yes. ap (λ (x : Engine). x.aborted) is ∙ yes;
        accepted = subst (AreBatchesOf []) (sym accepted) tt;
        number = omega arith;
        committed = λ some. absurd (omega arith);
        marked = omega arith;
        capacity = fits;
        credits = omega arith;
        joined = tt;
        once = unfold IsDistinct in tt;
      };
      least = tt;
    }

-- reserved and refused credits and the lock do not matter
credits-agree : (f : Front) (e : Engine) (answered : List ℕ) (reserved refused : ℕ) (locked : Bool) →
    held (record f { reserved = reserved; refused = refused; locked = locked }) ≤ f.capacity → FrontAgrees f e answered →
    FrontAgrees (record f { reserved = reserved; refused = refused; locked = locked }) e answered
credits-agree f e answered reserved refused locked within agrees = record {
  told = agrees.told;
  handles = agrees.handles;
  legal = agrees.legal;
  keeps = record {
    layout = agrees.keeps.layout;
    home_blocks = agrees.keeps.home_blocks;
    aborted = agrees.keeps.aborted;
    accepted = agrees.keeps.accepted;
    number = agrees.keeps.number;
    committed = agrees.keeps.committed;
    marked = agrees.keeps.marked;
    capacity = agrees.keeps.capacity;
    credits = within;
    joined = agrees.keeps.joined;
    once = agrees.keeps.once;
  };
  least = agrees.least;
}

-- the front agrees after a join
join-agrees : (f : Front) (e : Engine) (answered : List ℕ) (n : ℕ) → held (joining f n) ≤ f.capacity → FrontAgrees f e answered →
    FrontAgrees (joining f n) e answered
join-agrees f e answered n within agrees =
    let number : ℕ × ℕ → ℕ = λ h. h.0 in
    let fresh : list_any (nat_eq (next_handle f)) (map number f.open_handles) ≡ false =
    above-none f.given f.open_handles agrees.least in
    record {
      told = agrees.told;
      handles = handles-join f.given f.sealed f.running agrees.handles;
      legal = legal-same f.sealed f.running (record f.running { handles = f.running.handles ++ next_handle f ∷ [] }) refl agrees.legal;
      keeps = record {
        layout = agrees.keeps.layout;
        home_blocks = agrees.keeps.home_blocks;
        aborted = agrees.keeps.aborted;
        accepted = agrees.keeps.accepted;
        number = agrees.keeps.number;
        committed = agrees.keeps.committed;
        marked = agrees.keeps.marked;
        capacity = agrees.keeps.capacity;
        credits = within;
        joined =
            each-append (λ h. Contains (f.running.handles ++ next_handle f ∷ []) h.0) f.open_handles ((next_handle f, n) ∷ [])
            (all-weaker (λ h. Contains f.running.handles h.0) (λ h. Contains (f.running.handles ++ next_handle f ∷ []) h.0)
            (λ h one. Contains-append_left f.running.handles (next_handle f ∷ []) h.0 one) f.open_handles agrees.keeps.joined)
            (Contains-push f.running.handles (next_handle f), tt);
        once =
            subst (IsDistinct nat_eq) (sym (map-append number f.open_handles ((next_handle f, n) ∷ [])))
            (IsDistinct-push nat_eq_equiv (map number f.open_handles) (next_handle f) agrees.keeps.once fresh);
      };
      least =
          each-append (λ h. h.0 ≤ next_handle f) f.open_handles ((next_handle f, n) ∷ [])
          (all-weaker (λ h. h.0 ≤ f.given) (λ h. h.0 ≤ next_handle f) (λ h low. omega arith) f.open_handles agrees.least) (omega arith, tt);
    }
  where
    above-none : (given : ℕ) (hs : List (ℕ × ℕ)) → AllByRecursion (λ h. h.0 ≤ given) hs → list_any (nat_eq (given + 1)) (map (λ h. h.0) hs) ≡ false
    above-none given hs least = none-passes (nat_eq (given + 1)) (map (λ h. h.0) hs) (apart hs least)
      where
        apart : (rest : List (ℕ × ℕ)) → AllByRecursion (λ h. h.0 ≤ given) rest → AllByRecursion (λ k. nat_eq (given + 1) k ≡ false) (map (λ h. h.0) rest)
        apart [] low = tt
        apart (h ∷ rest) low = (grind (arith, nat_tests, low.0), apart rest low.1)

-- it agrees after an open handle gets more credits
extend-agrees : (f : Front) (e : Engine) (answered : List ℕ) (h n : ℕ) (handle : IsOpen f h) → held (extending f h n handle) ≤ f.capacity →
    FrontAgrees f e answered → FrontAgrees (extending f h n handle) e answered
extend-agrees f e answered h n handle within agrees = record {
  told = agrees.told;
  handles = agrees.handles;
  legal = agrees.legal;
  keeps = record {
    layout = agrees.keeps.layout;
    home_blocks = agrees.keeps.home_blocks;
    aborted = agrees.keeps.aborted;
    accepted = agrees.keeps.accepted;
    number = agrees.keeps.number;
    committed = agrees.keeps.committed;
    marked = agrees.keeps.marked;
    capacity = agrees.keeps.capacity;
    credits = within;
    joined =
        all-changed (λ o. Contains f.running.handles o.0) handle.before (h, handle.left) (h, handle.left + n) handle.behind (λ one. one)
        (subst (AllByRecursion (λ o. Contains f.running.handles o.0)) handle.stands agrees.keeps.joined);
    once =
        subst (IsDistinct nat_eq) (ap (map (λ o. o.0)) handle.stands ∙ same-numbers handle.before h handle.left (handle.left + n) handle.behind)
        agrees.keeps.once;
  };
  least =
      all-changed (λ o. o.0 ≤ f.given) handle.before (h, handle.left) (h, handle.left + n) handle.behind (λ low. low)
      (subst (AllByRecursion (λ o. o.0 ≤ f.given)) handle.stands agrees.least);
}

-- an open handle is one that joined
own-handle : (handles : List ℕ) (h left : ℕ) (before behind : List (ℕ × ℕ)) →
    AllByRecursion (λ o. Contains handles o.0) (before ++ (h, left) ∷ behind) → Contains handles h
own-handle handles h left [] behind all = all.0
own-handle handles h left (o ∷ before) behind all = own-handle handles h left before behind all.1

-- it agrees after a touch
touch-agrees : (f : Front) (e : Engine) (answered : List ℕ) (h b : ℕ) (op : Op) (left : Entry) (handle : IsOpen f h) → entry_of op ≡ Some left →
    held (touching f h b op handle) ≤ f.capacity → FrontAgrees f e answered → FrontAgrees (touching f h b op handle) e answered
touch-agrees f e answered h b op left handle leaves within agrees =
    let all : AllByRecursion (λ o. Contains f.running.handles o.0) (handle.before ++ (h, handle.left) ∷ handle.behind) =
    subst (AllByRecursion (λ o. Contains f.running.handles o.0)) handle.stands agrees.keeps.joined in
    let least : AllByRecursion (λ o. o.0 ≤ f.given) (handle.before ++ (h, handle.left) ∷ handle.behind) =
    subst (AllByRecursion (λ o. o.0 ≤ f.given)) handle.stands agrees.least in
    record {
      told = agrees.told;
      handles = handles-step f.given f.sealed f.running (record { handle = h; block = b; op = op }) (own-handle f.running.handles h handle.left handle.before handle.behind all)
          agrees.handles;
      legal = legal-touch f.sealed f.running (record { handle = h; block = b; op = op }) left leaves agrees.legal;
      keeps = record {
        layout = agrees.keeps.layout;
        home_blocks = agrees.keeps.home_blocks;
        aborted = agrees.keeps.aborted;
        accepted = agrees.keeps.accepted;
        number = agrees.keeps.number;
        committed = agrees.keeps.committed;
        marked = agrees.keeps.marked;
        capacity = agrees.keeps.capacity;
        credits = within;
        joined = all-changed (λ o. Contains f.running.handles o.0) handle.before (h, handle.left) (h, left_after f b handle.left) handle.behind (λ one. one) all;
        once =
            subst (IsDistinct nat_eq) (ap (map (λ o. o.0)) handle.stands ∙ same-numbers handle.before h handle.left (left_after f b handle.left) handle.behind)
            agrees.keeps.once;
      };
      least = all-changed (λ o. o.0 ≤ f.given) handle.before (h, handle.left) (h, left_after f b handle.left) handle.behind (λ low. low) least;
    }

-- it agrees after a read, which sees the right bytes
pub read-agrees : (f : Front) (e : Engine) (answered : List ℕ) (h b : ℕ) (v home : List ℕ) → IsOpen f h →
    seen (transactions f) (finished_count f) b home ≡ Ok v → FrontAgrees f e answered → FrontAgrees (reading_block f h b v) e answered
read-agrees f e answered h b v home handle sees agrees =
    let all : AllByRecursion (λ o. Contains f.running.handles o.0) (handle.before ++ (h, handle.left) ∷ handle.behind) =
    subst (AllByRecursion (λ o. Contains f.running.handles o.0)) handle.stands agrees.keeps.joined in
    let same : length (entries (f.running.steps ++ read_step h b v ∷ [])) ≡ length (entries f.running.steps) =
    ap (λ (es : List (ℕ × Entry)). length es) (entries-push_read f.running.steps (read_step h b v) refl) in
    let within : held f ≤ f.capacity = agrees.keeps.credits in
    record {
      told = agrees.told;
      handles =
          handles-step f.given f.sealed f.running (read_step h b v) (own-handle f.running.handles h handle.left handle.before handle.behind all)
          agrees.handles;
      legal = legal-read f.sealed f.running h b (finished_count f) v home sees agrees.legal;
      keeps = record {
        layout = agrees.keeps.layout;
        home_blocks = agrees.keeps.home_blocks;
        aborted = agrees.keeps.aborted;
        accepted = agrees.keeps.accepted;
        number = agrees.keeps.number;
        committed = agrees.keeps.committed;
        marked = agrees.keeps.marked;
        capacity = agrees.keeps.capacity;
        credits = omega arith;
        joined = agrees.keeps.joined;
        once = agrees.keeps.once;
      };
      least = agrees.least;
    }

-- it agrees after a handle stops
stop-agrees : (f : Front) (e : Engine) (answered : List ℕ) (h : ℕ) (handle : IsOpen f h) → held (stopping f h handle) ≤ f.capacity → FrontAgrees f e answered →
    FrontAgrees (stopping f h handle) e answered
stop-agrees f e answered h handle within agrees = record {
  told = agrees.told;
  handles = agrees.handles;
  legal = agrees.legal;
  keeps = record {
    layout = agrees.keeps.layout;
    home_blocks = agrees.keeps.home_blocks;
    aborted = agrees.keeps.aborted;
    accepted = agrees.keeps.accepted;
    number = agrees.keeps.number;
    committed = agrees.keeps.committed;
    marked = agrees.keeps.marked;
    capacity = agrees.keeps.capacity;
    credits = within;
    joined =
        all-without (λ o. Contains f.running.handles o.0) handle.before (h, handle.left) handle.behind
        (subst (AllByRecursion (λ o. Contains f.running.handles o.0)) handle.stands agrees.keeps.joined);
    once =
        distinct-without handle.before (h, handle.left) handle.behind
        (subst (λ (hs : List (ℕ × ℕ)). IsDistinct nat_eq (map (λ o. o.0) hs)) handle.stands agrees.keeps.once);
  };
  least = all-without (λ o. o.0 ≤ f.given) handle.before (h, handle.left) handle.behind (subst (AllByRecursion (λ o. o.0 ≤ f.given)) handle.stands agrees.least);
}

-- it agrees after the mark rises to a finished number
raise-agrees : (f : Front) (e : Engine) (answered : List ℕ) (t : ℕ) → t ≤ f.finished → FrontAgrees f e answered → FrontAgrees (raising f t) e answered
raise-agrees f e answered t finished agrees =
    let higher = le-max_left f.mark t in
    record {
      told = all-weaker (λ n. n ≤ f.mark) (λ n. n ≤ max f.mark t) (λ n low. omega arith) answered agrees.told;
      handles = agrees.handles;
      legal = agrees.legal;
      keeps = record {
        layout = agrees.keeps.layout;
        home_blocks = agrees.keeps.home_blocks;
        aborted = agrees.keeps.aborted;
        accepted = agrees.keeps.accepted;
        number = agrees.keeps.number;
        committed = agrees.keeps.committed;
        marked = max-le agrees.keeps.marked finished;
        capacity = agrees.keeps.capacity;
        credits = agrees.keeps.credits;
        joined = agrees.keeps.joined;
        once = agrees.keeps.once;
      };
      least = agrees.least;
    }

-- it agrees after each step of the front alone
pub front-agrees : (old new : Front) (e : Engine) (answered : List ℕ) (event : FrontEvent) → FrontHappens old event new → FrontAgrees old e answered →
    FrontAgrees new e answered
front-agrees old new e answered event step agrees = by event step (held-within old new event step agrees.keeps.credits)
  where
    with : (front : Front) → new ≡ front → front.capacity ≡ old.capacity → held new ≤ new.capacity → held front ≤ old.capacity
    with front is same within = let now : held front ≤ front.capacity = subst (λ (f : Front). held f ≤ f.capacity) is within in omega arith

    by : (event : FrontEvent) → FrontHappens old event new → held new ≤ new.capacity → FrontAgrees new e answered
    by (Reserve n) step within =
        subst (λ (f : Front). FrontAgrees f e answered) (sym step.after)
        (credits-agree old e answered _ _ _ (with _ step.after refl within) agrees)
    by (RefuseReserve n) step within =
        subst (λ (f : Front). FrontAgrees f e answered) (sym step.after)
        (credits-agree old e answered _ _ _ (with _ step.after refl within) agrees)
    by (TakeBack n) step within =
        subst (λ (f : Front). FrontAgrees f e answered) (sym step.after)
        (credits-agree old e answered _ _ _ (with _ step.after refl within) agrees)
    by (GiveBack n) step within =
        subst (λ (f : Front). FrontAgrees f e answered) (sym step.after)
        (credits-agree old e answered _ _ _ (with _ step.after refl within) agrees)
    by (LoadCredits found) step within = subst (λ (f : Front). FrontAgrees f e answered) (sym step.after) agrees
    by (LoadMark found) step within = subst (λ (f : Front). FrontAgrees f e answered) (sym step.after) agrees
    by (ExtendHandle h n) step within =
        subst (λ (f : Front). FrontAgrees f e answered) (sym step.after)
        (extend-agrees old e answered h n step.handle (with _ step.after refl within) agrees)
    by (Join n) step within =
        subst (λ (f : Front). FrontAgrees f e answered) (sym step.after) (join-agrees old e answered n (with _ step.after refl within) agrees)
    by (WriteBlock h b v) step within =
        subst (λ (f : Front). FrontAgrees f e answered) (sym step.after)
        (touch-agrees old e answered h b (Write v) (Copy v) step.handle refl (with _ step.after refl within) agrees)
    by (RevokeBlock h b) step within =
        subst (λ (f : Front). FrontAgrees f e answered) (sym step.after)
        (touch-agrees old e answered h b Revoke RevokeEntry step.handle refl (with _ step.after refl within) agrees)
    by (StopHandle h) step within =
        subst (λ (f : Front). FrontAgrees f e answered) (sym step.after)
        (stop-agrees old e answered h step.handle (with _ step.after refl within) agrees)
    by Lock step within =
        subst (λ (f : Front). FrontAgrees f e answered) (sym step.after)
        (credits-agree old e answered _ _ _ (with _ step.after refl within) agrees)
    by (Raise t) step within =
        subst (λ (f : Front). FrontAgrees f e answered) (sym step.after) (raise-agrees old e answered t step.finished agrees)

-- it agrees once it knows of one more committed transaction
pub finish-agrees : (f : Front) (e : Engine) (answered : List ℕ) → f.finished + 1 < e.first + e.committed → FrontAgrees f e answered →
    FrontAgrees (finishing f) e answered
finish-agrees f e answered committed agrees = record {
  told = agrees.told;
  handles = agrees.handles;
  legal = agrees.legal;
  keeps = record {
    layout = agrees.keeps.layout;
    home_blocks = agrees.keeps.home_blocks;
    aborted = agrees.keeps.aborted;
    accepted = agrees.keeps.accepted;
    number = agrees.keeps.number;
    committed = λ some. committed;
    marked = let marked = agrees.keeps.marked in omega arith;
    capacity = agrees.keeps.capacity;
    credits = agrees.keeps.credits;
    joined = agrees.keeps.joined;
    once = agrees.keeps.once;
  };
  least = agrees.least;
}

-- it agrees after an answer about a transaction up to the mark
pub answer-agrees : (f : Front) (e : Engine) (answered : List ℕ) (tid : ℕ) → tid ≤ f.mark → FrontAgrees f e answered → FrontAgrees f e (tid ∷ answered)
answer-agrees f e answered tid marked agrees = record {
  told = (marked, agrees.told);
  handles = agrees.handles;
  legal = agrees.legal;
  keeps = agrees.keeps;
  least = agrees.least;
}

-- what a sealed front keeps beside another engine of the same measures
sealed-keeps : (f : Front) (old new : Engine) → f.open_handles ≡ [] → new.shape ≡ old.shape → new.layout ≡ old.layout → new.ring ≡ old.ring →
    new.aborted ≡ old.aborted → AreBatchesOf (f.sealed ++ f.running ∷ []) new.accepted → suc f.running.tid ≡ new.first + length new.accepted →
    f.finished < new.first + new.committed → KeepsFront f old → KeepsFront (sealing f) new
sealed-keeps f old new none shape layout ring aborted batches number committed keeps =
    let within : held f ≤ f.capacity = keeps.credits in
    record {
      layout = keeps.layout ∙ sym layout;
      home_blocks = keeps.home_blocks ∙ sym (ap (λ (s : Shape). s.home_blocks) shape);
      aborted = λ yes. aborted ∙ keeps.aborted yes;
      accepted = batches;
      number = number;
      committed = λ some. committed;
      marked = keeps.marked;
      capacity = subst (λ (r : Ring). IsCapacity f.layout r.blocks f.capacity) (sym ring) keeps.capacity;
      credits = omega arith;
      joined = subst (AllByRecursion (λ h. Contains [] h.0)) (sym none) tt;
      once = keeps.once;
    }

-- it agrees after a seal, with the engine that took the transaction
pub seal-agrees : (f : Front) (old new : Engine) (answered : List ℕ) → MaySeal f → Accepts old (batch_of f.running) new → FrontAgrees f old answered →
    FrontAgrees (sealing f) new answered
seal-agrees f old new answered may accepts agrees =
    let one = length-append old.accepted (batch_of f.running ∷ []) in
    let finished = may.finished in
    let next : f.running.tid ≡ old.first + old.committed = accepts.number in
    let number : f.running.tid ≡ old.first + length old.accepted = agrees.keeps.number in
    subst (λ (e : Engine). FrontAgrees (sealing f) e answered) (sym accepts.after)
    (record {
      told = agrees.told;
      handles = handles-begin f.given (f.sealed ++ f.running ∷ []) (suc f.running.tid) agrees.handles;
      legal = legal-begin (f.sealed ++ f.running ∷ []) (suc f.running.tid) agrees.legal;
      keeps = sealed-keeps f old _ may.stopped refl refl refl refl
          (batches-last f.sealed old.accepted f.running agrees.keeps.accepted) (omega arith) (omega arith) agrees.keeps;
      least = agrees.least;
    })

-- what a front keeps beside an engine that goes on
keeps-on : (f : Front) (old new : Engine) (aborted : Bool) → GoesOn old new → (aborted ≡ true → new.aborted ≡ true) → KeepsFront f old →
    KeepsFront (record f { aborted = aborted }) new
keeps-on f old new aborted on told keeps =
    let first : new.first ≡ old.first = on.first in
    let size : length new.accepted ≡ length old.accepted = ap (λ (bs : List Batch). length bs) on.accepted in
    let committed : old.committed ≤ new.committed = on.committed in
    record {
      layout = keeps.layout ∙ sym on.layout;
      home_blocks = keeps.home_blocks ∙ sym (ap (λ (s : Shape). s.home_blocks) on.shape);
      aborted = told;
      accepted = subst (AreBatchesOf f.sealed) (sym on.accepted) keeps.accepted;
      number = let number = keeps.number in omega arith;
      committed = λ some. let finished = keeps.committed (omega arith) in omega arith;
      marked = keeps.marked;
      capacity = subst (λ (r : Ring). IsCapacity f.layout r.blocks f.capacity) (sym on.ring) keeps.capacity;
      credits = keeps.credits;
      joined = keeps.joined;
      once = keeps.once;
    }

-- a front agrees with an engine that goes on, if it is aborted only when the engine is
pub told-on : (f : Front) (old new : Engine) (answered : List ℕ) (aborted : Bool) → GoesOn old new → (aborted ≡ true → new.aborted ≡ true) → FrontAgrees f old answered →
    FrontAgrees (record f { aborted = aborted }) new answered
told-on f old new answered aborted on told agrees =
    record {
      told = agrees.told;
      handles = agrees.handles;
      legal = agrees.legal;
      keeps = keeps-on f old new aborted on told agrees.keeps;
      least = agrees.least;
    }

-- it agrees after an engine step that succeeds
pub goes-on : (f : Front) (old new : Engine) (answered : List ℕ) → GoesOn old new → new.aborted ≡ old.aborted → FrontAgrees f old answered →
    FrontAgrees f new answered
goes-on f old new answered on same agrees = told-on f old new answered f.aborted on (λ yes. same ∙ agrees.keeps.aborted yes) agrees

-- it agrees after one that fails, once it is notified
pub fails-on : (f : Front) (old new : Engine) (answered : List ℕ) → GoesOn old new → new.aborted ≡ true → FrontAgrees f old answered →
    FrontAgrees (aborting f) new answered
fails-on f old new answered on failed agrees = told-on f old new answered true on (λ yes. failed) agrees
