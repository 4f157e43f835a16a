-- One step of the second pass over a log, which prints its transactions.
use Rattle.std.proofs.Common.{◌≡◌, ℕ, suc, ◌+◌, ◌<◌, List, [], ◌∷◌, ◌++◌, Option, length, drop, refl, sym, ◌∙◌, ap, ap₂, subst, arith, inl, inr, append_assoc, append-nil, length-append}
use Rattle.std.specs.Prelude.{codes}
use Rattle.std.specs.Fmt.{decimal}
use Rattle.std.specs.Io.KnownBytes.{Appends}
use Rattle.std.specs.List.{AllByRecursion, flat_map}
use Rattle.std.proofs.lemmas.Grind.{flat_map-append}
use Rattle.std.proofs.lemmas.List.{length-map}
use Rattle.log_model.specs.declared.log.Piece.{Piece}
use Rattle.log_model.specs.declared.log.Piece.TheVariants.{Revokes, Copies}
use Rattle.log_model.specs.declared.log.Text.{Text}
use Rattle.log_model.specs.Chain.{AreTexts, IsMalformed, lap, place_from, texts_blocks}
use Rattle.journal_model.specs.Disk.{Image}
use Rattle.log_model.specs.Dump.{copy_caption, piece_captions, text_captions, texts_captions}
use Rattle.journal_model.specs.Layout.{Layout}
use Rattle.log_model.specs.Opening.{layout_of, ring_of}
use Rattle.log_model.specs.ReadingLog.{NoTextBegins, PieceBegins, PiecesBegin, TextBegins, TextsBegin}
use Rattle.log_model.specs.Superblock.{Super}
use Rattle.log_model.specs.Text.{IsCommitBlock, IsPiece, IsText, piece_blocks, pieces_blocks, text_blocks}
use Rattle.log_model.proofs.ReadingTexts.{most_texts, one_list_of_texts}
use Rattle.log_model.proofs.ReadingFronts.{texts_more}
use Rattle.block_device.specs.State.{DeviceState, one_more_fault}
use Rattle.log_dump.specs.declared.fault.Fault.{Fault}
use Rattle.log_dump.specs.declared.fault.Fault.TheVariants.{Refused, Output}
use Rattle.log_scan.specs.Scanning.{IsChainOf}
use Rattle.log_dump.specs.Dumping.{IsPrinted, IsPrintRefused}
use Rattle.log_scan.specs.Finding.{BlockBegins, NothingBegins, blocks_from, every_block}
use Rattle.log_dump.specs.Lines.{ended, placed_line, placed_lines}
use Rattle.log_scan.proofs.Laps.{from-behind}
use Rattle.log_dump.proofs.Placed.{placed-append, placed-one}
use Rattle.log_scan.proofs.SoFar.{no-text-malformed, no-text-nothing, pieces-more, pieces-none, text-ends}
use Rattle.log_dump.proofs.Written.{appends-joins, appends-nothing, appends-same}

module _ (l : Layout) (count : ℕ) where
  -- a piece has as many lines as blocks
  piece-lines : (sequence : ℕ) (p : Piece) → IsPiece l count sequence p → length (piece_captions sequence p) ≡ length (piece_blocks p)
  piece-lines sequence (Revokes b numbers) is = refl
  piece-lines sequence (Copies b tags copies) is = let each = is.each_tag in let lines = length-map tags (copy_caption sequence) in omega arith

  -- so do pieces
  pieces-lines : (sequence : ℕ) (ps : List Piece) → AllByRecursion (IsPiece l count sequence) ps → length (flat_map (piece_captions sequence) ps) ≡ length (pieces_blocks ps)
  pieces-lines sequence [] all = refl
  pieces-lines sequence (p ∷ ps) all =
      length-append (piece_captions sequence p) (flat_map (piece_captions sequence) ps)
      ∙ ap₂ (λ (m n : ℕ). m + n) (piece-lines sequence p all.0) (pieces-lines sequence ps all.1)
      ∙ sym (length-append (piece_blocks p) (pieces_blocks ps))

  -- so does a text
  text-lines : (sequence : ℕ) (t : Text) → IsText l count sequence t → length (text_captions sequence t) ≡ length (text_blocks t)
  text-lines sequence t is =
      length-append (flat_map (piece_captions sequence) t.pieces) ((codes "commit " ++ decimal sequence) ∷ [])
      ∙ ap (λ (n : ℕ). n + 1) (pieces-lines sequence t.pieces is.pieces)
      ∙ sym (length-append (pieces_blocks t.pieces) (t.commit ∷ []))

  -- so do texts
  texts-lines : (sequence : ℕ) (ts : List Text) → AreTexts l count sequence ts → length (texts_captions sequence ts) ≡ length (texts_blocks ts)
  texts-lines sequence [] are = refl
  texts-lines sequence (t ∷ ts) are =
      length-append (text_captions sequence t) (texts_captions (suc sequence) ts)
      ∙ ap₂ (λ (m n : ℕ). m + n) (text-lines sequence t are.0) (texts-lines (suc sequence) ts are.1)
      ∙ sym (length-append (text_blocks t) (texts_blocks ts))

-- one more piece adds its lines
pieces-push : (sequence : ℕ) (ps : List Piece) (p : Piece) →
    flat_map (piece_captions sequence) (ps ++ p ∷ []) ≡ flat_map (piece_captions sequence) ps ++ piece_captions sequence p
pieces-push sequence ps p =
    flat_map-append (piece_captions sequence) ps (p ∷ [])
    ∙ ap (λ (xs : List (List ℕ)). flat_map (piece_captions sequence) ps ++ xs) (append-nil (piece_captions sequence p))

-- so does one more text
texts-push : (sequence due : ℕ) (ts : List Text) (t : Text) → due ≡ sequence + length ts →
    texts_captions sequence (ts ++ t ∷ []) ≡ texts_captions sequence ts ++ text_captions due t
texts-push sequence due [] t is = append-nil (text_captions sequence t) ∙ ap (λ (n : ℕ). text_captions n t) (omega arith)
texts-push sequence due (u ∷ ts) t is =
    ap (λ (xs : List (List ℕ)). text_captions sequence u ++ xs) (texts-push (suc sequence) due ts t (omega arith))
    ∙ sym (append_assoc (text_captions sequence u) (texts_captions (suc sequence) ts) (text_captions due t))

-- the lines of one part after those of another
lines-more : (s : Super) (k n position : ℕ) (old mid new : Option (List ℕ)) (before next all : List (List ℕ)) → n ≡ length before → position ≡ k + n →
    all ≡ before ++ next → Appends old mid (placed_lines s k before) → Appends mid new (placed_lines s position next) → Appends old new (placed_lines s k all)
lines-more s k n position old mid new before next all size place whole first second =
    let at : position ≡ k + length before = omega arith in
    appends-same old new (placed_lines s k before ++ placed_lines s position next) (placed_lines s k all)
    (ap (λ (m : ℕ). placed_lines s k before ++ placed_lines s m next) at ∙ sym (placed-append s k before next) ∙ ap (placed_lines s k) (sym whole))
    (appends-joins old mid new (placed_lines s k before) (placed_lines s position next) first second)

-- pieces of the text that begins at `start` were printed, up to this position
pub record PrintedPieces (s : Super) (image : Image) (sequence : ℕ) (old new : Option (List ℕ)) (start position : ℕ) : Type 0 where
  pub pieces : List Piece
  pub inside : ℕ
  pub begun : PiecesBegin (layout_of s) (every_block s) sequence (blocks_from s image start) pieces inside
  pub place : position ≡ start + inside
  pub written : Appends old new (placed_lines s start (flat_map (piece_captions sequence) pieces))

-- at first none were
pub printed-none : (s : Super) (image : Image) (sequence : ℕ) (old : Option (List ℕ)) (start : ℕ) → PrintedPieces s image sequence old old start start
printed-none s image sequence old start = record {
  pieces = [];
  inside = 0;
  begun = pieces-none (layout_of s) (every_block s) sequence (blocks_from s image start);
  place = omega arith;
  written = appends-nothing old;
}

module _ (s : Super) (image : Image) (sequence : ℕ) (old mid : Option (List ℕ)) (start position : ℕ) (so : PrintedPieces s image sequence old mid start position) where
  -- the blocks from the position on
  here : drop so.inside (blocks_from s image start) ≡ blocks_from s image position
  here = from-behind s image start so.inside ∙ ap (blocks_from s image) (sym so.place)

  -- they have as many lines as blocks
  lines : so.inside ≡ length (flat_map (piece_captions sequence) so.pieces)
  lines = so.begun.front.size ∙ sym (pieces-lines (layout_of s) (every_block s) sequence so.pieces so.begun.well_formed)

  -- after one more piece
  pub printed-piece : (new : Option (List ℕ)) (p : Piece) (n end : ℕ) → end ≡ position + n → PieceBegins (layout_of s) (every_block s) sequence (blocks_from s image position) p n →
      Appends mid new (placed_lines s position (piece_captions sequence p)) → PrintedPieces s image sequence old new start end
  printed-piece new p n end is next line = record {
    pieces = so.pieces ++ p ∷ [];
    inside = so.inside + n;
    begun =
        pieces-more (layout_of s) (every_block s) sequence (blocks_from s image start) so.pieces so.inside p n so.begun
        (subst (λ (xs : List (List ℕ)). PieceBegins (layout_of s) (every_block s) sequence xs p n) (sym here) next);
    place = let place = so.place in omega arith;
    written =
        lines-more s start so.inside position old mid new (flat_map (piece_captions sequence) so.pieces) (piece_captions sequence p) _ lines so.place
        (pieces-push sequence so.pieces p) so.written line;
  }

  -- after the commit block
  pub printed-text : (new : Option (List ℕ)) → BlockBegins (IsCommitBlock sequence) (blocks_from s image position) →
      Appends mid new (placed_lines s position ((codes "commit " ++ decimal sequence) ∷ [])) → IsPrinted s image sequence old new start (position + 1)
  printed-text new commit line = record {
    text = record { pieces = so.pieces; commit = there.block };
    taken = so.inside + 1;
    begins = text-ends (layout_of s) (every_block s) sequence (blocks_from s image start) so.pieces so.inside so.begun there;
    behind = let place = so.place in omega arith;
    written =
        lines-more s start so.inside position old mid new (flat_map (piece_captions sequence) so.pieces) ((codes "commit " ++ decimal sequence) ∷ []) _ lines so.place
        refl so.written line;
  } where
    there : BlockBegins (IsCommitBlock sequence) (drop so.inside (blocks_from s image start))
    there = subst (BlockBegins (IsCommitBlock sequence)) (sym here) commit

  -- no text begins if a malformed block follows the pieces
  pub unprinted-malformed : BlockBegins (IsMalformed (layout_of s) (every_block s) sequence) (blocks_from s image position) →
      NoTextBegins (layout_of s) (every_block s) sequence (blocks_from s image start)
  unprinted-malformed bad =
      no-text-malformed (layout_of s) (every_block s) sequence (omega arith) (blocks_from s image start) so.pieces so.inside so.begun
      (subst (BlockBegins (IsMalformed (layout_of s) (every_block s) sequence)) (sym here) bad)

  -- nor if nothing follows them
  pub unprinted-nothing : NothingBegins (layout_of s) (every_block s) sequence (blocks_from s image position) →
      NoTextBegins (layout_of s) (every_block s) sequence (blocks_from s image start)
  unprinted-nothing nothing =
      no-text-nothing (layout_of s) (every_block s) sequence (omega arith) (blocks_from s image start) so.pieces so.inside so.begun
      (subst (NothingBegins (layout_of s) (every_block s) sequence) (sym here) nothing)

-- so many texts were printed, up to this position
pub record PrintedTexts (s : Super) (image : Image) (old new : Option (List ℕ)) (count position : ℕ) : Type 0 where
  pub texts : List Text
  pub whole : TextsBegin (layout_of s) (every_block s) s.s_sequence (lap (ring_of s) image s.s_start) texts (s.s_sequence + count) position
  pub written : Appends old new (placed_lines s 0 (texts_captions s.s_sequence texts))

-- at first none
pub texts-unprinted : (s : Super) (image : Image) (old : Option (List ℕ)) → PrintedTexts s image old old 0 0
texts-unprinted s image old = record {
  texts = [];
  whole = record { numbered = tt; front = record { split = refl; size = refl }; due = refl };
  written = appends-nothing old;
}

module _ (s : Super) (image : Image) (old mid : Option (List ℕ)) (count position : ℕ) (so : PrintedTexts s image old mid count position) where
  -- after one more text
  pub texts-printed : (number end : ℕ) (new : Option (List ℕ)) → number ≡ s.s_sequence + count → IsPrinted s image number mid new position end → PrintedTexts s image old new (count + 1) end
  texts-printed number end new is next = record {
    texts = so.texts ++ next.text ∷ [];
    whole =
        subst (TextsBegin (layout_of s) (every_block s) s.s_sequence (lap (ring_of s) image s.s_start) (so.texts ++ next.text ∷ []) (s.s_sequence + (count + 1))) (sym next.behind)
        (subst (λ (n : ℕ). TextsBegin (layout_of s) (every_block s) s.s_sequence (lap (ring_of s) image s.s_start) (so.texts ++ next.text ∷ []) n (position + next.taken)) (omega arith)
        (texts_more (layout_of s) (every_block s) s.s_sequence (lap (ring_of s) image s.s_start) so.texts (s.s_sequence + count) position so.whole (blocks_from s image position) refl
        next.text next.taken (subst (λ (n : ℕ). TextBegins (layout_of s) (every_block s) n (blocks_from s image position) next.text next.taken) is next.begins)));
    written =
        lines-more s 0 position position old mid new (texts_captions s.s_sequence so.texts) (text_captions number next.text) _
        (so.whole.front.size ∙ sym (texts-lines (layout_of s) (every_block s) s.s_sequence so.texts so.whole.numbered)) (omega arith)
        (texts-push s.s_sequence number so.texts next.text (is ∙ so.whole.due)) so.written next.written;
  }

  -- if no further text begins, there are no more
  pub texts-no-more : (number : ℕ) (texts : List Text) → number ≡ s.s_sequence + count → count < length texts →
      NoTextBegins (layout_of s) (every_block s) number (blocks_from s image position) → IsChainOf s (every_block s) image texts → ⊥
  texts-no-more number texts is more none are =
      let begins = are.begins in
      let due = so.whole.due in
      let few = most_texts (layout_of s) (every_block s) (omega arith) s.s_sequence number so.texts texts (blocks_from s image position) begins.rest
      so.whole.numbered begins.numbered (is ∙ so.whole.due) none (sym so.whole.front.split ∙ begins.split) in
      omega arith

  -- if as many texts were printed as the log has, they are the log's
  pub texts-all : (texts : List Text) → count ≡ length texts → IsChainOf s (every_block s) image texts → Appends old mid (placed_lines s 0 (texts_captions s.s_sequence texts))
  texts-all texts all are =
      let begins = are.begins in
      let due = so.whole.due in
      let same = one_list_of_texts (layout_of s) (every_block s) (omega arith) s.s_sequence so.texts texts (blocks_from s image position) begins.rest
      so.whole.numbered begins.numbered (omega arith) (sym so.whole.front.split ∙ begins.split) in
      appends-same old mid (placed_lines s 0 (texts_captions s.s_sequence so.texts)) (placed_lines s 0 (texts_captions s.s_sequence texts))
      (ap (λ (ts : List Text). placed_lines s 0 (texts_captions s.s_sequence ts)) same.0) so.written

-- the line of one block at its place
pub line-placed : (s : Super) (k place : ℕ) (caption : List ℕ) (old new : Option (List ℕ)) → place ≡ place_from (ring_of s) s.s_start k →
    Appends old new (ended (placed_line place caption)) → Appends old new (placed_lines s k (caption ∷ []))
line-placed s k place caption old new at written =
    appends-same old new (ended (placed_line place caption)) (placed_lines s k (caption ∷ []))
    (ap (λ (p : ℕ). ended (placed_line p caption)) at ∙ sym (placed-one s k caption)) written

-- a refusal carries over to a weaker impossibility, after a device that had not failed
pub refused-through : (honest one other : Type 0) (s : Super) (old mid new : DeviceState) (e : Fault) → (honest → one → other) → mid.faults ≡ old.faults →
    IsPrintRefused honest one s mid new e → IsPrintRefused honest other s old new e
refused-through honest one other s old mid new (Output e) on same refused = refused ∙ same
refused-through honest one other s old mid new (Refused e) on same (inl failed) = inl (failed.0, failed.1 ∙ ap one_more_fault same)
refused-through honest one other s old mid new (Refused e) on same (inr refused) = inr (refused.0, refused.1 ∙ same, λ h. on h (refused.2 h))
