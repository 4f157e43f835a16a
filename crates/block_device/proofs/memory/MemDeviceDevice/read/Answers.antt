use Rattle.std.proofs.Common.{◌≡◌, ◌∙◌, sym, ap, subst, arith, length}
use Rattle.std.specs.Prelude.{replicate}
use Rattle.block_device.specs.Memory.{MemState, after_calls}
use Rattle.block_device.proofs.Calls.{indexed_write, same_write, never_written, reads_written, reads_blank, fills_at}
use Rattle.block_device.proofs.memory.MemDeviceDevice.read.Goals as goal
use Rattle.block_device.proofs.memory.MemDeviceDevice.read.Goals.{in-Some+in-Wrote, in-None}

pub index-requires : goal.index-requires
index-requires c =
    let found = indexed_write c.self.inside c.self.invariant c.args.area c.args.n c.in-Some.i (sym c.newest.ensures ∙ c.in-Some.is) in
    let len = c.self.inside.calls.ok.0 in
    let low = found.low in
    omega arith

pub copy_to-requires : goal.copy_to-requires
copy_to-requires c =
    let found = indexed_write c.self.inside c.self.invariant c.args.area c.args.n c.in-Some.i (sym c.newest.ensures ∙ c.in-Some.is) in
    let same = same_write c.args.area c.args.n c.in-Some.i c.self.inside.calls.items found c.index.result.now c.in-Wrote.write c.index.ensures c.in-Wrote.is in
    let fills = fills_at c.self.inside.size c.self.inside.calls.items c.in-Some.i found.write c.self.invariant.sizes found.low found.stands in
    c.requires.block ∙ sym (ap (λ s. s.shape.block_size) c.self.view_is) ∙ sym fills ∙ ap (λ w. length w.bytes) same

pub unreachable-requires : goal.unreachable-requires
unreachable-requires c =
    let found = indexed_write c.self.inside c.self.invariant c.args.area c.args.n c.in-Some.i (sym c.newest.ensures ∙ c.in-Some.is) in
    let e = sym (found.stands c.index.result.now) ∙ sym c.index.ensures ∙ c.in-Flushed.is in
    cc

pub returns-clause-bytes : goal.returns-clause-bytes
returns-clause-bytes c h =
    let P : MemState → Type 0 = λ s. c.match-newest.into ≡ ((after_calls s.shape.block_size s.calls).disk c.args.area c.args.n).reads in
    subst P c.self.view_is (elim c.match-newest.branch [
      | in-Some+in-Wrote w ↦
          let found = indexed_write c.self.inside c.self.invariant c.args.area c.args.n w.in-Some.i (sym c.newest.ensures ∙ w.in-Some.is) in
          let same = same_write c.args.area c.args.n w.in-Some.i c.self.inside.calls.items found w.index.result.now w.in-Wrote.write w.index.ensures w.in-Wrote.is in
          w.into-is ∙ w.copy_to.ensures ∙ sym (ap (λ x. x.bytes) same) ∙ sym (reads_written c.self.inside.size c.self.inside.calls.items c.args.area c.args.n found.write.bytes found.bytes)
      | in-None w ↦
          let none = never_written c.args.area c.args.n c.self.inside.calls.items (sym (c.self.invariant.indexed c.args.area c.args.n) ∙ sym c.newest.ensures ∙ w.in-None.is) in
          let full = c.requires.block ∙ sym (ap (λ s. s.shape.block_size) c.self.view_is) in
          w.into-is ∙ w.fill.ensures.after (λ y e. e) ∙ ap (λ k. replicate k 0) full ∙ sym (reads_blank c.self.inside.size c.self.inside.calls.items c.args.area c.args.n none)
    ])
