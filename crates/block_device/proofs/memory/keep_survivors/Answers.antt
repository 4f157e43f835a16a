use Rattle.std.proofs.Common.{◌≡◌, ◌∙◌, ap, arith, rules, length, take, drop, ◌++◌, List, ℕ}
use Rattle.std.specs.Prelude.{map, filter}
use Rattle.std.proofs.lemmas.Fn.{filter_same}
use Rattle.std.proofs.lemmas.List.{length-map, take_all, drop_all, append-nil}
use Rattle.block_device.specs.MemInvariant.{unnumbered, survives_crash}
use Rattle.block_device.specs.declared.memory.Call.{Call}
use Rattle.block_device.proofs.memory.keep_survivors.Goals as goal

-- a list that was changed as a whole through a slice
whole : (len : ℕ) (new old : List Call) → length new ≡ length old → len ≡ length old → take len (new ++ drop (length new) old) ≡ new
whole len new old same full =
    ap (λ xs. take len (new ++ xs)) (drop_all (length new) old (omega arith))
    ∙ ap (take len) (append-nil new)
    ∙ take_all len new (omega arith)

pub returns : goal.returns
returns c =
    let kept : c.retain.new.self.items ≡ filter (survives_crash c.args.keep.now c.args.log_flushed c.args.home_flushed) c.args.calls.now.items = filter_same _ _ _ (λ x b f' k. search rules) _ _ c.retain.ensures.filtered in
    let made : c.drop_numbers.new.calls ≡ map unnumbered c.retain.new.self.items = c.drop_numbers.ensures ∙ ap (map unnumbered) c.deref_mut.ensures.value in
    whole c.retain.new.self.len c.drop_numbers.new.calls c.retain.new.self.items (ap length made ∙ length-map c.retain.new.self.items unnumbered) c.retain.new.self.ok.0
    ∙ made ∙ ap (map unnumbered) kept
