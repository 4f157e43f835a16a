-- A transaction with no more entries than the capacity needs at most a quarter of the ring.
use Rattle.std.proofs.Common.{refl, arith, sym, subst}
use Rattle.std.specs.Prelude.{◌≡◌, ℕ, ◌+◌, ◌-◌, ◌*◌, ◌/◌, ◌<◌, ◌≤◌, zero, suc, List, [], ◌∷◌, length}
use Rattle.std.proofs.Math.Nat.{div-lt_iff_lt-mul}
use Rattle.journal_model.specs.declared.entry.Entry.{Entry}
use Rattle.journal_model.specs.declared.entry.Entry.TheVariants.{Copy, Revoke}
use Rattle.journal_model.specs.Layout.{IsLayout, Layout, numbers_of, tags_of}
use Rattle.journal_model.specs.Transaction.{copied, entries, revoked}
use Rattle.log_model.specs.OwnText.{ceil_div}
use Rattle.log_model.specs.Room.{IsCapacity, need}
use Rattle.log_model.proofs.OwnTextHeader.{measures, numbers_of-positive, tags_of-positive}
use Rattle.journal_world.specs.Engine.{Engine}
use Rattle.journal_world.specs.Front.{Front, held}
use Rattle.journal_world.specs.Sound.{IsPlain}
use Rattle.journal_steps.specs.Journal.{Agrees, FitsQuarter, need_of}

-- a rounded-up quotient is at most the number
few : (c n : ℕ) → 0 < n → ceil_div c n ≤ c
few c n positive = let less : ceil_div c n < c + 1 = (div-lt_iff_lt-mul positive).1 (let enough = times c in omega arith) in omega arith
  where
    times : (c : ℕ) → c ≤ c * n
    times zero = omega arith
    times (suc c) = let rest = times c in omega arith

-- a smaller number has no greater quotient
no-more : (c d n : ℕ) → 0 < n → c ≤ d → ceil_div c n ≤ ceil_div d n
no-more c d n positive low =
    let above : d + n - 1 < (ceil_div d n + 1) * n = (div-lt_iff_lt-mul positive).0 (omega arith) in
    let less : ceil_div c n < ceil_div d n + 1 = (div-lt_iff_lt-mul positive).1 (omega arith) in
    omega arith

-- copies and revokes within the capacity fit a quarter
fits-quarter : (l : Layout) (ring k c r : ℕ) → IsLayout l → IsCapacity l ring k → c + r ≤ k → need l c r ≤ ring / 4
fits-quarter l ring k c r taken capacity within =
    let all = measures l taken in
    let copies = no-more c k (tags_of l) (tags_of-positive l all) (omega arith) in
    let revokes = few r (numbers_of l) (numbers_of-positive l all) in
    let fits : k + ceil_div k (tags_of l) + 1 ≤ ring / 4 = capacity.fits in
    omega arith

-- each entry is a copy or a revoke
counted : (es : List (ℕ × Entry)) → length (copied es) + length (revoked es) ≡ length es
counted [] = refl
counted ((b, Copy v) ∷ es) = omega (arith, counted es)
counted ((b, Revoke) ∷ es) = omega (arith, counted es)

-- so does the running transaction, as each of its entries holds a credit
needs-quarter : (f : Front) (ring : ℕ) → IsLayout f.layout → IsCapacity f.layout ring f.capacity → held f ≤ f.capacity →
    need f.layout (length (copied (entries f.running.steps))) (length (revoked (entries f.running.steps))) ≤ ring / 4
needs-quarter f ring taken capacity within =
    let all = counted (entries f.running.steps) in
    fits-quarter f.layout ring f.capacity _ _ taken capacity (omega arith)

-- the running transaction takes at most a quarter of the ring
pub quarter : (f : Front) (e : Engine) → Agrees (record { front = f; engine = e }) → IsPlain e → FitsQuarter (record { front = f; engine = e })
quarter f e agrees plain =
    let taken : IsLayout f.layout = subst IsLayout (sym agrees.layout) plain.layout.0 in
    subst (λ (l : Layout). need_of l f.running ≤ e.ring.blocks / 4) agrees.layout (needs-quarter f e.ring.blocks taken agrees.capacity agrees.credits)
