use Rattle.std.proofs.Common.{◌≡◌, ◌∙◌, sym, ap, subst, refl, arith, ◌+◌, ◌∷◌, [], ◌++◌, length, Some}
use Rattle.std.specs.Prelude.{ℕ}
use Rattle.block_device.specs.declared.memory.Write.{Write}
use Rattle.block_device.specs.declared.memory.Call.TheVariants.{Wrote}
use Rattle.block_device.specs.MemIndex.{NotesOnly}
use Rattle.block_device.proofs.Calls.{indexes-write}
use Rattle.block_device.proofs.memory.MemDevice.note_write.Goals as goal

pub invariant_of-self-2 : goal.invariant_of-self-2
invariant_of-self-2 c =
    let d = c.self.inside in
    let write : Write = record { area = c.args.area; block = c.args.block; number = d.writes + 1; bytes = c.in_ok-bytes.bytes } in
    let items : c.push_reserved.new.self.items ≡ c.try_reserve.new.self.items ++ Wrote write ∷ [] = c.push_reserved.ensures.items in
    let reserved = c.in_ok-try_reserve.ensures.items in
    let counted = c.try_reserve.new.self.ok.0 in
    let asked = c.len.ensures in
    let same_length = ap length reserved in
    let place : c.len.result ≡ length d.calls.items = omega arith in
    let fills : length c.in_ok-bytes.bytes ≡ d.size = ap length c.in_ok-bytes.ensures ∙ c.requires.size ∙ sym (ap (λ s. s.shape.block_size) c.self.view_is) in
    let NotedAt : ℕ → Type 0 = λ k. NotesOnly d.index c.note.new.self c.args.area c.args.block (λ _. Some (Some k)) in
    rw (items, reserved)
    (indexes-write d.size d.index c.note.new.self d.calls.items d.writes d.log_flushed d.home_flushed write c.self.invariant fills refl
    (subst NotedAt place c.in_ok-note.ensures.ok))
