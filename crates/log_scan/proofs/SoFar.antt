-- What stands before a position of the lap, during a scan.
use Rattle.std.proofs.Common.{◌≡◌, ℕ, ◌+◌, ◌<◌, List, [], ◌∷◌, ◌++◌, length, drop, refl, sym, ◌∙◌, ap, subst, arith, inl, inr, append_assoc, append-nil, length-append}
use Rattle.std.specs.List.{AllByRecursion}
use Rattle.std.proofs.lemmas.List.{drop-drop}
use Rattle.std.proofs.lemmas.Grind.{flat_map-append}
use Rattle.log_model.specs.declared.log.Piece.{Piece}
use Rattle.log_model.specs.declared.log.Text.{Text}
use Rattle.log_model.specs.Chain.{IsChain, IsDamaged, IsMalformed}
use Rattle.journal_model.specs.Layout.{Layout, commit_type, descriptor_type, revoke_type}
use Rattle.log_model.specs.ReadingLog.{NoTextBegins, PieceBegins, PiecesBegin, TextBegins, TextsBegin}
use Rattle.log_model.specs.Text.{IsCommitBlock, IsPiece, piece_blocks, pieces_blocks}
use Rattle.log_model.proofs.ReadingFronts.{malformed_is_damaged, no_damage_in_good, no_damage_in_none, no_text_in_none, no_text_without_commit, text_begins, texts_are_chain, texts_more}
use Rattle.log_model.proofs.ReadingPieces.{damages, none_at_end, one_type}
use Rattle.log_scan.specs.Finding.{BlockBegins, NothingBegins}
use Rattle.log_scan.specs.Passing.{StandBefore}

-- one more piece with P
all-push : (P : Piece → Type 0) (ps : List Piece) (p : Piece) → AllByRecursion P ps → P p → AllByRecursion P (ps ++ p ∷ [])
all-push P [] p all is = (is, tt)
all-push P (q ∷ ps) p all is = (all.0, all-push P ps p all.1 is)

-- one more piece after pieces
pub pieces-more : (l : Layout) (count sequence : ℕ) (blocks : List (List ℕ)) (ps : List Piece) (n : ℕ) (p : Piece) (m : ℕ) →
    PiecesBegin l count sequence blocks ps n → PieceBegins l count sequence (drop n blocks) p m → PiecesBegin l count sequence blocks (ps ++ p ∷ []) (n + m)
pieces-more l count sequence blocks ps n p m so next = record {
  well_formed = all-push (IsPiece l count sequence) ps p so.well_formed next.well_formed;
  front = record {
    split =
        so.front.split ∙ ap (λ (xs : List (List ℕ)). pieces_blocks ps ++ xs) (next.front.split ∙ ap (λ (xs : List (List ℕ)). piece_blocks p ++ xs) (drop-drop m n blocks))
        ∙ sym (append_assoc (pieces_blocks ps) (piece_blocks p) (drop (n + m) blocks)) ∙ ap (λ (xs : List (List ℕ)). xs ++ drop (n + m) blocks) (sym joined);
    size =
        let first = so.front.size in
        let second = next.front.size in
        let sizes = ap length joined ∙ length-append (pieces_blocks ps) (piece_blocks p) in
        omega arith;
  };
} where
  joined : pieces_blocks (ps ++ p ∷ []) ≡ pieces_blocks ps ++ piece_blocks p
  joined = flat_map-append piece_blocks ps (p ∷ []) ∙ ap (λ (xs : List (List ℕ)). pieces_blocks ps ++ xs) (append-nil (piece_blocks p))

-- a malformed block is no commit block
malformed-no-commit : (l : Layout) (count sequence : ℕ) (block : List ℕ) → IsMalformed l count sequence block → IsCommitBlock sequence block → ⊥
malformed-no-commit l count sequence block (inl bad) commit = let types : commit_type ≡ descriptor_type = one_type commit bad.0 in omega arith
malformed-no-commit l count sequence block (inr bad) commit = let types : commit_type ≡ revoke_type = one_type commit bad.0 in omega arith

-- no pieces are read yet
pub pieces-none : (l : Layout) (count sequence : ℕ) (blocks : List (List ℕ)) → PiecesBegin l count sequence blocks [] 0
pieces-none l count sequence blocks = record { well_formed = tt; front = record { split = refl; size = refl } }

-- the commit block after pieces ends a text
pub text-ends : (l : Layout) (count sequence : ℕ) (blocks : List (List ℕ)) (ps : List Piece) (n : ℕ) → PiecesBegin l count sequence blocks ps n →
    (b : BlockBegins (IsCommitBlock sequence) (drop n blocks)) → TextBegins l count sequence blocks (record { pieces = ps; commit = b.block }) (n + 1)
text-ends l count sequence blocks ps n so b = text_begins l count sequence blocks ps n so (drop n blocks) refl b.block b.behind b.split b.is

module _ (l : Layout) (count sequence : ℕ) (some : 0 < l.number_bytes) (blocks : List (List ℕ)) (ps : List Piece) (n : ℕ) (so : PiecesBegin l count sequence blocks ps n) where
  -- after all pieces stands no commit block, so no text begins
  pub no-text-nothing : NothingBegins l count sequence (drop n blocks) → NoTextBegins l count sequence blocks
  no-text-nothing nothing = either (drop n blocks) refl
    where
      either : (rest : List (List ℕ)) → rest ≡ drop n blocks → NoTextBegins l count sequence blocks
      either [] here = no_text_in_none l count sequence blocks ps n so [] here some nothing.piece refl
      either (b ∷ others) here =
          no_text_without_commit l count sequence blocks ps n so (b ∷ others) here some nothing.piece b others refl
          (λ commit. nothing.commit (record { block = b; behind = others; split = sym here; is = commit }))

  -- where a malformed block follows the pieces, no text begins
  pub no-text-malformed : BlockBegins (IsMalformed l count sequence) (drop n blocks) → NoTextBegins l count sequence blocks
  no-text-malformed b =
      no_text_without_commit l count sequence blocks ps n so (b.block ∷ b.behind) (sym b.split) some
      (rw b.split (none_at_end l count sequence b.block b.behind (damages b.is))) b.block b.behind refl (malformed-no-commit l count sequence b.block b.is)

-- no texts are read yet
pub texts-none : (l : Layout) (count sequence : ℕ) (blocks : List (List ℕ)) → TextsBegin l count sequence blocks [] (sequence + 0) 0
texts-none l count sequence blocks = record { numbered = tt; front = record { split = refl; size = refl }; due = refl }

-- at the begin of the lap nothing is passed
pub so-far-none : (l : Layout) (count sequence : ℕ) (blocks : List (List ℕ)) → StandBefore l count sequence blocks [] [] 0 0
so-far-none l count sequence blocks = record {
  before = 0;
  inside = 0;
  whole = texts-none l count sequence blocks;
  begun = pieces-none l count (sequence + 0) blocks;
  place = refl;
}

module _
    (l : Layout) (count sequence : ℕ) (some : 0 < l.number_bytes) (blocks : List (List ℕ)) (texts : List Text) (pieces : List Piece) (number taken : ℕ)
    (so : StandBefore l count sequence blocks texts pieces number taken)
  where
    -- the blocks at the position
    here : drop taken blocks ≡ drop so.inside (drop so.before blocks)
    here = ap (λ (n : ℕ). drop n blocks) so.place ∙ sym (drop-drop so.inside so.before blocks)

    -- one more piece is passed
    pub so-far-piece : (p : Piece) (n end : ℕ) → end ≡ taken + n → PieceBegins l count (sequence + number) (drop taken blocks) p n → StandBefore l count sequence blocks texts (pieces ++ p ∷ []) number end
    so-far-piece p n end is next = record {
      before = so.before;
      inside = so.inside + n;
      whole = so.whole;
      begun =
          pieces-more l count (sequence + number) (drop so.before blocks) pieces so.inside p n so.begun
          (subst (λ (xs : List (List ℕ)). PieceBegins l count (sequence + number) xs p n) here next);
      place = let place = so.place in omega arith;
    }

    -- the text that a commit block ends
    abbrev pub ended-text : List ℕ → Text
    ended-text block = record { pieces = pieces; commit = block }

    -- the commit block that ends a text is passed
    pub so-far-text : (b : BlockBegins (IsCommitBlock (sequence + number)) (drop taken blocks)) →
        StandBefore l count sequence blocks (texts ++ ended-text b.block ∷ []) [] (number + 1) (taken + 1)
    so-far-text commit = record {
      before = so.before + (so.inside + 1);
      inside = 0;
      whole =
          subst (λ (n : ℕ). TextsBegin l count sequence blocks (texts ++ text ∷ []) n (so.before + (so.inside + 1))) (omega arith)
          (texts_more l count sequence blocks texts (sequence + number) so.before so.whole (drop so.before blocks) refl text (so.inside + 1)
          (text-ends l count (sequence + number) (drop so.before blocks) pieces so.inside so.begun there));
      begun = pieces-none l count (sequence + (number + 1)) (drop (so.before + (so.inside + 1)) blocks);
      place = let place = so.place in omega arith;
    } where
      there : BlockBegins (IsCommitBlock (sequence + number)) (drop so.inside (drop so.before blocks))
      there = record { block = commit.block; behind = commit.behind; split = sym here ∙ commit.split; is = commit.is }

      text : Text
      text = ended-text commit.block

    -- where a malformed block stands, the texts are the chain
    pub so-far-stopped : BlockBegins (IsMalformed l count (sequence + number)) (drop taken blocks) → IsChain l count sequence blocks texts
    so-far-stopped bad =
        texts_are_chain l count sequence blocks texts (sequence + number) so.before so.whole (drop so.before blocks) refl some
        (no-text-malformed l count (sequence + number) some (drop so.before blocks) pieces so.inside so.begun
        (subst (BlockBegins (IsMalformed l count (sequence + number))) here bad))

    -- that block is the damaged one
    pub so-far-damaged : BlockBegins (IsMalformed l count (sequence + number)) (drop taken blocks) → IsDamaged l count sequence blocks taken
    so-far-damaged bad =
        let there : BlockBegins (IsMalformed l count (sequence + number)) (drop so.inside (drop so.before blocks)) =
        subst (BlockBegins (IsMalformed l count (sequence + number))) here bad in
        subst (IsDamaged l count sequence blocks) (sym so.place)
        (malformed_is_damaged l count sequence blocks texts (sequence + number) so.before so.whole (drop so.before blocks) refl (so-far-stopped bad)
        pieces so.inside so.begun (drop so.inside (drop so.before blocks)) refl there.block there.behind there.split there.is)

    module _ (nothing : NothingBegins l count (sequence + number) (drop taken blocks)) where
      -- nothing more follows the pieces
      there : NothingBegins l count (sequence + number) (drop so.inside (drop so.before blocks))
      there = subst (NothingBegins l count (sequence + number)) here nothing

      -- then the texts are the chain
      pub so-far-chain : IsChain l count sequence blocks texts
      so-far-chain =
          texts_are_chain l count sequence blocks texts (sequence + number) so.before so.whole (drop so.before blocks) refl some
          (no-text-nothing l count (sequence + number) some (drop so.before blocks) pieces so.inside so.begun there)

      -- then no block is damaged
      pub so-far-undamaged : (k : ℕ) → IsDamaged l count sequence blocks k → ⊥
      so-far-undamaged = either (drop so.inside (drop so.before blocks)) refl
        where
          either : (end : List (List ℕ)) → end ≡ drop so.inside (drop so.before blocks) → (k : ℕ) → IsDamaged l count sequence blocks k → ⊥
          either [] at =
              no_damage_in_none l count sequence blocks texts (sequence + number) so.before so.whole (drop so.before blocks) refl so-far-chain
              pieces so.inside so.begun [] at some there.piece refl
          either (b ∷ others) at =
              no_damage_in_good l count sequence blocks texts (sequence + number) so.before so.whole (drop so.before blocks) refl so-far-chain
              pieces so.inside so.begun (b ∷ others) at some there.piece b others refl
              (λ bad. there.malformed (record { block = b; behind = others; split = sym at; is = bad }))
