-- Where a handle is recorded: in the running transaction, or in a sealed one.
use Rattle.std.proofs.Common.{refl, sym, ◌∙◌, ap, subst, arith, append_assoc, length-append}
use Rattle.std.specs.Prelude.{◌≡◌, ℕ, suc, ◌+◌, ◌≤◌, nat_eq, true, [], ◌∷◌, ◌++◌, length, Contains}
use Rattle.std.specs.Map.{lookup}
use Rattle.journal_model.specs.Transaction.{History, Transaction}
use Rattle.journal_world.specs.Front.{Front, empty_transaction, sealing}
use Rattle.locked_journal.specs.declared.own.HandleStage.{HandleStage}
use Rattle.locked_journal.specs.declared.own.HandleStage.TheVariants.{Open, Stopped, Asked}
use Rattle.locked_journal.specs.declared.own.OwnSteps.{OwnSteps}
use Rattle.locked_journal.specs.Own.{IsOwn, StageHolds, Stands, steps_by}
use Rattle.locked_journal.proofs.Lists.{Split, splits}
use Rattle.locked_journal.proofs.Lists.Split.{IsBefore, IsLast}

pub record InRunning (f : Front) (own : OwnSteps) : Type 0 where
  pub number : own.tid ≡ f.running.tid
  pub joined : Contains f.running.handles own.number
  pub steps : steps_by own.number f.running.steps ≡ own.steps

pub record InSealed (f : Front) (own : OwnSteps) : Type 0 where
  pub before : History
  pub transaction : Transaction
  pub rest : History
  pub among : f.sealed ≡ before ++ transaction ∷ rest
  pub number : transaction.tid ≡ own.tid
  pub place : own.tid + length rest + 1 ≡ f.running.tid
  pub joined : Contains transaction.handles own.number
  pub steps : steps_by own.number transaction.steps ≡ own.steps

pub data Where (f : Front) (own : OwnSteps) : Type 0 where
  Running : InRunning f own → Where f own
  Sealed : InSealed f own → Where f own

pub where_stands : (f : Front) (own : OwnSteps) → Stands f own → Where f own
where_stands f own stands = by (splits f.sealed f.running stands.before stands.transaction stands.behind stands.among)
  where
    by : Split f.sealed f.running stands.before stands.transaction stands.behind → Where f own
    by (IsLast same one none) =
        let size : length stands.behind ≡ 0 = ap length none in
        let place = stands.place in
        Running (record {
          number = omega arith;
          joined = subst (λ (t : Transaction). Contains t.handles own.number) one stands.joined;
          steps = ap (λ (t : Transaction). steps_by own.number t.steps) (sym one) ∙ stands.steps;
        })
    by (IsBefore rest same last) =
        let size : length stands.behind ≡ length (rest ++ f.running ∷ []) = ap length last in
        let sum = length-append rest (f.running ∷ []) in
        let place = stands.place in
        Sealed (record {
          before = stands.before;
          transaction = stands.transaction;
          rest = rest;
          among = same;
          number = stands.number;
          place = omega arith;
          joined = stands.joined;
          steps = stands.steps;
        })

pub stands-running : (f : Front) (own : OwnSteps) → InRunning f own → Stands f own
stands-running f own is = record {
  before = f.sealed;
  transaction = f.running;
  behind = [];
  among = refl;
  number = sym is.number;
  place = omega (arith, is.number);
  joined = is.joined;
  steps = is.steps;
}

pub stands-sealed : (f : Front) (own : OwnSteps) → InSealed f own → Stands f own
stands-sealed f own is =
    let sum = length-append is.rest (f.running ∷ []) in
    let place = is.place in
    record {
      before = is.before;
      transaction = is.transaction;
      behind = is.rest ++ f.running ∷ [];
      among = ap (λ (l : History). l ++ f.running ∷ []) is.among ∙ append_assoc is.before (is.transaction ∷ is.rest) (f.running ∷ []);
      number = is.number;
      place = omega arith;
      joined = is.joined;
      steps = is.steps;
    }

-- If its transaction is the running one, it is recorded there.
pub running-now : (f : Front) (own : OwnSteps) → own.tid ≡ f.running.tid → Stands f own → InRunning f own
running-now f own now stands = by (where_stands f own stands)
  where
    by : Where f own → InRunning f own
    by (Running is) = is
    by (Sealed is) = let place = is.place in absurd (omega arith)

-- For the holder of handle n the fronts differ only in what other handles have done in the running transaction.
pub record SameFor (n : ℕ) (f g : Front) : Type 0 where
  pub sealed : g.sealed ≡ f.sealed
  pub tid : g.running.tid ≡ f.running.tid
  pub handles : Contains f.running.handles n → Contains g.running.handles n
  pub steps : steps_by n g.running.steps ≡ steps_by n f.running.steps
  pub credits : lookup (nat_eq n) g.open_handles ≡ lookup (nat_eq n) f.open_handles
  pub locked : f.locked ≡ true → g.locked ≡ true

pub stage-on : (f g : Front) (tid : ℕ) (stage : HandleStage) → g.running.tid ≡ f.running.tid → (f.locked ≡ true → g.locked ≡ true) →
    StageHolds f tid stage → StageHolds g tid stage
stage-on f g tid (Open left) same locked holds = holds ∙ sym same
stage-on f g tid Stopped same locked holds = tt
stage-on f g tid Asked same locked holds = λ now. locked (holds (now ∙ same))

-- A sealed transaction stays where it is.
pub sealed-on : (f g : Front) (own : OwnSteps) → g.sealed ≡ f.sealed → g.running.tid ≡ f.running.tid → InSealed f own → InSealed g own
sealed-on f g own sealed tid is = record {
  before = is.before;
  transaction = is.transaction;
  rest = is.rest;
  among = sealed ∙ is.among;
  number = is.number;
  place = is.place ∙ sym tid;
  joined = is.joined;
  steps = is.steps;
}

-- So the holder's facts are preserved.
pub still-own : (f g : Front) (x : OwnSteps) → SameFor x.number f g → IsOwn f x → IsOwn g x
still-own f g x same own = record {
  stands = by (where_stands f x own.stands);
  credits = same.credits ∙ own.credits;
  stage = stage-on f g x.tid x.stage same.tid same.locked own.stage;
}
  where
    by : Where f x → Stands g x
    by (Running is) =
        stands-running g x (record { number = is.number ∙ sym same.tid; joined = same.handles is.joined; steps = same.steps ∙ is.steps })
    by (Sealed is) = stands-sealed g x (sealed-on f g x same.sealed same.tid is)

-- No transaction has a greater number than the running one.
pub tid-least : (f : Front) (own : OwnSteps) → Stands f own → own.tid ≤ f.running.tid
tid-least f own stands = let place = stands.place in omega arith

-- A handle stays recorded where it was when the running transaction is sealed.
pub stands-seal : (f : Front) (own : OwnSteps) → Stands f own → Stands (sealing f) own
stands-seal f own stands =
    let next : Transaction = empty_transaction (suc f.running.tid) in
    let sum = length-append stands.behind (next ∷ []) in
    let place = stands.place in
    record {
      before = stands.before;
      transaction = stands.transaction;
      behind = stands.behind ++ next ∷ [];
      among = ap (λ (l : History). l ++ next ∷ []) stands.among ∙ append_assoc stands.before (stands.transaction ∷ stands.behind) (next ∷ []);
      number = stands.number;
      place = omega arith;
      joined = stands.joined;
      steps = stands.steps;
    }
