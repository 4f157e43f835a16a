use Rattle.std.proofs.Common.{◌≡◌, ℕ, ◌*◌, ◌<◌, ◌/◌, ◌++◌, List, [], ◌∷◌, length, ap, refl, sym, subst, ◌∙◌, arith}
use Rattle.std.specs.Prelude.{Bool, true, if◌then◌else◌, is_ok, Result}
use Rattle.std.specs.Vec.{vec_len, with_items}
use Rattle.std.proofs.lemmas.List.{with_items_is}
use Rattle.file_device.specs.Blocks.{reads_of}
use Rattle.file_device.specs.Calls.{FileCall, ReadFailed}
use Rattle.file_device.specs.Ahead.{KeepsAhead}
use Rattle.file_device.specs.declared.ahead.Ahead.{Ahead}
use Rattle.file_device.specs.Files.{FileState, KeepsBlocks}
use Rattle.file_device.specs.Gathered.{due_of}
use Rattle.file_device.specs.NotedFiles.{calls_of}
use Rattle.file_device.specs.declared.calls.NotedFiles.{NotedFiles}
use Rattle.file_device.proofs.KeptAhead.{blocks-are, failed-ahead-kept, read-ahead-kept, reads-ask, span-fits}
use Rattle.file_device.proofs.device.FileDevice.read_ahead.Goals as goal
use Rattle.file_device.proofs.device.FileDevice.read_ahead.Goals.{in-Ok, in-Err}

-- the length after a resize that did not fail
long-where-ok : {T E : Type 0} (r : Result T E) (n long old : ℕ) → is_ok r ≡ true → long ≡ (if is_ok r then n else old) → long ≡ n
long-where-ok r n long old ok is = is ∙ ap (λ (b : Bool). if b then n else old) ok

-- what is read at once lies in the file
pub read_blocks-requires-clause-small : goal.read_blocks-requires-clause-small
read_blocks-requires-clause-small g c =
    let d = c.self.inside in
    let there : c.args.n < c.length-length.result / c.args.self.now.block_size =
    rw c.length-length.ensures (subst (λ (blocks : ℕ). c.args.n < blocks) (blocks-are c.args.self.now c.args.area) c.requires.there) in
    let within : c.args.n < c.length-length.result / d.size = subst (λ (s : FileState). c.args.n < c.length-length.result / s.block_size) (sym c.self.view_is) there in
    let whole : length c.deref_mut.result.now ≡ c.min-count.result * d.size =
    c.deref_mut.ensures.len ∙ long-where-ok c.resize.result (c.min-count.result * d.size) (vec_len c.resize.new.self) (vec_len d.ahead.bytes) c.if-is_err.ensures.negation c.resize.ensures.len in
    let fits = span-fits c.args.n d.size c.length-length.result (65536 / d.size) c.min-count.result c.place_of-at.result (length c.deref_mut.result.now)
    within c.min-count.ensures c.place_of-at.ensures (omega (arith, whole)) in
    omega (arith, fits, c.length-length.type_inv)

-- what was read ahead is kept, or nothing if that failed
pub invariant_of-self-2 : goal.invariant_of-self-2
invariant_of-self-2 g c =
    let d = c.self.inside in
    let whole : length c.read_blocks.new.into ≡ c.min-count.result * d.size =
    c.read_blocks.ensures.size
    ∙ (c.deref_mut.ensures.len ∙ long-where-ok c.resize.result (c.min-count.result * d.size) (vec_len c.resize.new.self) (vec_len d.ahead.bytes) c.if-is_err.ensures.negation c.resize.ensures.len) in
    let kept : Ahead = record { bytes = with_items c.resize.new.self c.read_blocks.new.into; area = c.args.area; first = c.args.n; count = c.match-read_blocks.ahead; next_area = d.ahead.next_area; next = d.ahead.next; is_steady = d.ahead.is_steady } in
    let Kept : Type 0 = KeepsBlocks d.size (due_of d.size d.gathered ++ calls_of c.read_blocks.new.self) × KeepsAhead g.C.Contents.contents d.size (due_of d.size d.gathered ++ calls_of c.read_blocks.new.self) kept in
    let both : Kept = elim c.match-read_blocks.branch [
      | in-Ok w ↦ read-ahead-kept g.C.Contents.contents d.size d.gathered (calls_of d.files) (calls_of c.read_blocks.new.self) c.args.area c.args.n c.place_of-at.result c.min-count.result kept
          c.read_blocks.new.into (c.if-not-is_free_of.ensures refl) c.self.invariant.0 c.place_of-at.ensures whole (ap calls_of w.in-Ok.ensures.ok)
          (with_items_is c.resize.new.self c.read_blocks.new.into (c.read_blocks.ensures.size ∙ c.deref_mut.ensures.len)) refl refl w.ahead-is
      | in-Err w ↦ failed-ahead-kept g.C.Contents.contents d.size d.gathered (calls_of d.files) (calls_of c.read_blocks.new.self) c.args.area c.place_of-at.result kept
          c.self.invariant.0 (ap calls_of w.in-Err.ensures.err) w.ahead-is
    ] in
    (both.0, both.1, c.self.invariant.2)

-- the file was asked for these blocks
pub returns : goal.returns
returns g c =
    let d = c.self.inside in
    let View : NotedFiles → FileState = λ f. record { block_size = d.size; log_file = f.log; home_file = f.home; log_bytes = d.log_bytes; home_bytes = d.home_bytes; gathered = due_of d.size d.gathered; calls = calls_of f; has_failed = d.has_failed; faults = d.faults; calls_made = d.calls_made } in
    let reads : List FileCall = reads_of c.args.area c.place_of-at.result d.size c.read_blocks.new.into (length c.read_blocks.new.into / d.size) in
    elim c.match-read_blocks.branch [
      | in-Ok w ↦ record {
        calls = reads;
        readings = reads-ask c.args.area c.place_of-at.result d.size c.read_blocks.new.into (length c.read_blocks.new.into / d.size);
        after = ap View w.in-Ok.ensures.ok ∙ ap (λ (s : FileState). record s { calls = reads ++ s.calls }) c.self.view_is;
      }
      | in-Err w ↦ record {
        calls = ReadFailed c.args.area c.place_of-at.result ∷ [];
        readings = (tt, tt);
        after = ap View w.in-Err.ensures.err ∙ ap (λ (s : FileState). record s { calls = ReadFailed c.args.area c.place_of-at.result ∷ s.calls }) c.self.view_is;
      }
    ]
