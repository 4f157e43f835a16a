use Rattle.std.proofs.Common.{sym, ap, ap₂, subst, ◌∙◌, ◌≡◌, ◌+◌, ℕ, arith}
use Rattle.std.proofs.lemmas.Option.{slice_get_within}
use Rattle.checkpoint.specs.declared.version.HomeCopy.{HomeCopy}
use Rattle.journal_world.specs.declared.round.Round.TheVariants.{Copies}
use Rattle.journal_world.specs.Checkpoint.RoundCall.{CopyHome}
use Rattle.log_ledger.specs.declared.ledger.Ledger.{Ledger}
use Rattle.log_ledger.specs.Ledger.{HasKept, KeepsPending, engine_of}
use Rattle.log_ledger.proofs.Pendings.{wrote-keeps}
use Rattle.log_ledger.proofs.Rounds.{gone, next-home, placed-allowed}
use Rattle.log_ledger.proofs.ledger.Ledger.wrote_home.Goals as goal

-- the copy waited to be written
pub wrote-requires : goal.wrote-requires
wrote-requires c =
    let l = c.args.self.now in
    let on = c.requires.can_run in
    let due = c.requires.next in
    let n = next-home on.shape l c.args.copy on.runs due in
    slice_get_within l.pending.unwritten 0 _ n.waits

-- its transaction was handed over since the opening
pub overflow_sub-copy-inside : goal.overflow_sub-copy-inside
overflow_sub-copy-inside c =
    let l = c.args.self.now in
    let on = c.requires.can_run in
    let due = c.requires.next in
    let n = next-home on.shape l c.args.copy on.runs due in
    let number : c.args.copy.version.tid ≡ l.first + n.index = n.number in
    let tid = ap (λ (h : HomeCopy). h.version.tid) c.copy.view_is in
    omega arith

-- a tag can name its block
pub overflow_add-copy-inside : goal.overflow_add-copy-inside
overflow_add-copy-inside c =
    let l = c.args.self.now in
    let on = c.requires.can_run in
    let due = c.requires.next in
    let e = engine_of on.shape l in
    let n = next-home on.shape l c.args.copy on.runs due in
    let allowed = placed-allowed e n.index c.args.copy.block c.args.copy.version.place on.runs.plain n.placed in
    let small = allowed.small in
    let block = ap (λ (h : HomeCopy). h.block) c.copy.view_is in
    omega arith

-- the round goes on after the copy
pub returns-clause-gone : goal.returns-clause-gone
returns-clause-gone c = λ shape runs.
    let l = c.args.self.now in
    let due = c.requires.next in
    let e = engine_of shape l in
    let copy = c.args.copy in
    let n = next-home shape l copy runs due in
    let number : copy.version.tid ≡ l.first + n.index = n.number in
    let tid = ap (λ (h : HomeCopy). h.version.tid) c.copy.view_is in
    let block = ap (λ (h : HomeCopy). h.block) c.copy.view_is in
    let made = c.from.ensures in
    let index : c.from.result ≡ n.index = omega arith in
    let is = ap (engine_of shape) c.go_round.ensures.round ∙ ap₂ (λ (i b : ℕ). record e { round = Copies i (b + 1) }) index block in
    let now = wrote-keeps e l.pending c.wrote.new.self due.transaction due.block n.index copy.block n.placed.bytes runs.plain due.round
    runs.pending n.next n.waits c.wrote.ensures.written c.wrote.ensures.kept in
    let pending = subst (KeepsPending (record e { round = Copies n.index (copy.block + 1) })) (sym (ap (λ (m : Ledger). m.pending) c.go_round.ensures.round)) now in
    gone shape l c.go_round.new.self (Copies due.transaction due.block) _ _ runs due.round (λ none. cc)
    (CopyHome due.transaction due.block n.index copy.block n.placed.bytes n.next) is (ap (λ (m : Ledger). m.ring.head) c.go_round.ensures.round) pending
    (subst HasKept (sym c.go_round.ensures.round) runs.kept)
