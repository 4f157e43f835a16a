-- Functions that make one call of a device, or only read it.
use Rattle.std.proofs.Common.{arith, refl, sym, subst, ◌∙◌, ◌≡◌}
use Rattle.journal_model.specs.Disk.{Disk}
use Rattle.block_device.specs.State.{DeviceState, EachMoment, Stays}
use Rattle.block_device.proofs.Moments.{each-moves, each-stays}
use Rattle.block_device.specs.Call.{IsOneMoment, MakesOneCall, OnlyReads}
use Rattle.block_device.specs.Call.IsOneMoment.{Same, Another}

-- two calls that change nothing change nothing together
pub stays-joins : (s t u : DeviceState) → Stays s t → Stays t u → Stays s u
stays-joins s t u first second = record {
  shape = second.shape ∙ first.shape;
  disk = second.disk ∙ first.disk;
  past = second.past ∙ first.past;
}

-- what holds of the disk before and after holds at each moment
pub each-one : (P : Disk → Type 0) (old new : DeviceState) → IsOneMoment old new → P old.disk → P new.disk → EachMoment P old new
each-one P old new (Same stays) before after = each-stays P old new stays before
each-one P old new (Another disk moves) before after = each-moves P old new disk moves before (subst P moves.now after)

module _ {A : Type 0} {state : A → DeviceState} {Honest : A → Type 0} where
  -- if no call is made, what holds now holds at the one moment
  pub no-call : {P : Disk → Type 0} {a : A} → (Honest a → P (state a).disk) → MakesOneCall state Honest P a a
  no-call {P} {a} holds = record {
    shape = refl;
    moments = λ honest. each-stays P (state a) (state a) (record { shape = refl; disk = refl; past = refl }) (holds honest);
    one = Same (record { shape = refl; disk = refl; past = refl });
    calls = omega arith;
    honest = λ honest. honest;
  }

  -- so it does if the device is shown to be the same
  pub same-device : {P : Disk → Type 0} {old new : A} → new ≡ old → (Honest old → P (state old).disk) → MakesOneCall state Honest P old new
  same-device {P} {old} {new} same holds = subst (λ (a : A). MakesOneCall state Honest P old a) (sym same) (no-call holds)

  -- the same call with a weaker fact of its moments
  pub call-as : {P Q : Disk → Type 0} {old new : A} → (EachMoment P (state old) (state new) → EachMoment Q (state old) (state new)) →
      MakesOneCall state Honest P old new → MakesOneCall state Honest Q old new
  call-as {P} {Q} {old} {new} told call = record {
    shape = call.shape;
    moments = λ honest. told (call.moments honest);
    one = call.one;
    calls = call.calls;
    honest = call.honest;
  }

  -- a device that is not called does not change
  pub no-read : {a : A} → OnlyReads state Honest a a
  no-read {a} = record { stays = record { shape = refl; disk = refl; past = refl }; honest = λ honest. honest }

  -- reads followed by reads only read
  pub reads-on : {a b c : A} → OnlyReads state Honest a b → OnlyReads state Honest b c → OnlyReads state Honest a c
  reads-on {a} {b} {c} first second = record {
    stays = stays-joins (state a) (state b) (state c) first.stays second.stays;
    honest = λ honest. first.honest (second.honest honest);
  }
