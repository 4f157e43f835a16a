use Rattle.std.proofs.Common.{sym, ap, subst, ◌∙◌, ◌≡◌, ◌+◌, ◌<◌, ℕ, length}
use Rattle.journal_model.specs.Disk.{Shape}
use Rattle.checkpoint.specs.declared.version.HomeCopy.{HomeCopy}
use Rattle.log_ledger.specs.Ledger.{IsPlaced, engine_of}
use Rattle.log_ledger.proofs.Rounds.{due-copy, next-home, placed-allowed, placed-size}
use Rattle.log_ledger.proofs.ledger.Ledger.home_write.Goals as goal

-- it stands where the pending copies say
pub copy-requires-clause-placed : goal.copy-requires-clause-placed
copy-requires-clause-placed c =
    let l = c.args.self.now in
    let on = c.requires.can_run in
    let due = c.requires.next in
    let n = next-home on.shape l c.args.copy on.runs due in
    subst (λ (h : HomeCopy). (x : Shape) × (i : ℕ) × (b : ℕ) × (h.version.tid ≡ l.first + i) × IsPlaced (engine_of x l) i b h.version.place)
    (sym c.copy.view_is) (on.shape, n.index, c.args.copy.block, n.number, n.placed)

-- it is one block
pub put-requires : goal.put-requires
put-requires c =
    let l = c.args.self.now in
    let on = c.requires.can_run in
    let due = c.requires.next in
    let e = engine_of on.shape l in
    let n = next-home on.shape l c.args.copy on.runs due in
    let bytes = subst (λ (h : HomeCopy). h.version.tid ≡ l.first + n.index → (placed : IsPlaced e n.index c.args.copy.block h.version.place) →
    c.copy-2.result.now ≡ placed.bytes) c.copy.view_is (c.copy-2.ensures on.shape n.index c.args.copy.block) n.number n.placed in
    ap length bytes ∙ placed-size e n.index c.args.copy.block c.args.copy.version.place on.runs.plain n.placed ∙ sym on.size_is

-- the copy is the one that the machine writes next
pub returns-clause-due : goal.returns-clause-due
returns-clause-due c = λ shape runs.
    let l = c.args.self.now in
    let due = c.requires.next in
    let e = engine_of shape l in
    let n = next-home shape l c.args.copy runs due in
    let bytes = subst (λ (h : HomeCopy). h.version.tid ≡ l.first + n.index → (placed : IsPlaced e n.index c.args.copy.block h.version.place) →
    c.copy-2.result.now ≡ placed.bytes) c.copy.view_is (c.copy-2.ensures shape n.index c.args.copy.block) n.number n.placed in
    due-copy e l.pending due.transaction due.block c.args.copy _ _ due.round n (ap (λ (h : HomeCopy). h.block) c.copy.view_is) (c.put.ensures.block ∙ bytes)

-- it goes to a block of home
pub returns-clause-fits : goal.returns-clause-fits
returns-clause-fits c = λ shape runs.
    let l = c.args.self.now in
    let due = c.requires.next in
    let e = engine_of shape l in
    let n = next-home shape l c.args.copy runs due in
    let bytes = subst (λ (h : HomeCopy). h.version.tid ≡ l.first + n.index → (placed : IsPlaced e n.index c.args.copy.block h.version.place) →
    c.copy-2.result.now ≡ placed.bytes) c.copy.view_is (c.copy-2.ensures shape n.index c.args.copy.block) n.number n.placed in
    let allowed = placed-allowed e n.index c.args.copy.block c.args.copy.version.place runs.plain n.placed in (
      subst (λ (h : HomeCopy). h.block < shape.home_blocks) (sym c.copy.view_is) allowed.in_home,
      ap length (c.put.ensures.block ∙ bytes) ∙ placed-size e n.index c.args.copy.block c.args.copy.version.place runs.plain n.placed,
    )
