-- What was read at the front of log blocks, and what may follow.
use Rattle.std.proofs.Common.{◌≡◌, ℕ, suc, ◌+◌, ◌<◌, ◌≤◌, List, [], ◌∷◌, ◌++◌, length, take, drop, arith, refl, sym, ◌∙◌, subst, ap, ap₂, append_assoc, append-nil, length-append}
use Rattle.std.specs.List.{flat_map, AllByRecursion}
use Rattle.std.proofs.lemmas.List.{append_cancel_left, drop-drop, length-take, take-append-drop}
use Rattle.std.proofs.lemmas.Grind.{flat_map-append}
use Rattle.log_model.specs.declared.log.Tag.{Tag}
use Rattle.log_model.specs.declared.log.Piece.{Piece}
use Rattle.log_model.specs.declared.log.Piece.TheVariants.{Revokes, Copies}
use Rattle.log_model.specs.declared.log.Text.{Text}
use Rattle.journal_model.specs.Layout.{Layout}
use Rattle.log_model.specs.Descriptor.{IsDescriptor}
use Rattle.log_model.specs.RevokeBlock.{IsRevokeBlock}
use Rattle.log_model.specs.Text.{IsPiece, IsText, IsCommitBlock, piece_blocks, pieces_blocks, text_blocks}
use Rattle.log_model.specs.Chain.{AreTexts, texts_blocks, IsChain, IsMalformed, IsDamaged}
use Rattle.log_model.specs.ReadingLog.{StandsFirst, NoPieceBegins, PieceBegins, PiecesBegin, NoTextBegins, TextBegins, TextsBegin}
use Rattle.log_model.proofs.ReadingPieces.{commits, damages, none_at_end, one_list_of_pieces}
use Rattle.log_model.proofs.ReadingTags.{TagsSoFar, one_descriptor}
use Rattle.log_model.proofs.ReadingTexts.{most_texts, one_chain_of}

-- a front followed by another is a front
front_more :
    (front next blocks : List (List ℕ)) (n m : ℕ)
    → StandsFirst front blocks n → StandsFirst next (drop n blocks) m → StandsFirst (front ++ next) blocks (n + m)
front_more front next blocks n m f g = record {
  split =
      f.split ∙ ap (λ xs. front ++ xs) (g.split ∙ ap (λ xs. next ++ xs) (drop-drop m n blocks))
      ∙ sym (append_assoc front next (drop (n + m) blocks));
  size = let sizes = length-append front next in let first = f.size in let second = g.size in omega arith;
}

-- a front takes no more than all
pub front_within : (front blocks : List (List ℕ)) (n : ℕ) → StandsFirst front blocks n → n ≤ length blocks
front_within front blocks n f =
    let sizes = ap length f.split ∙ length-append front (drop n blocks) in let size = f.size in omega arith

-- the first block is a front
front_one :
    (block : List ℕ) (blocks behind : List (List ℕ)) → blocks ≡ block ∷ behind → StandsFirst (block ∷ []) blocks 1
front_one block blocks behind e = record { split = e ∙ ap (λ xs. block ∷ xs) (sym (ap (drop 1) e)); size = refl }

-- the blocks of one more item stand at the end
joined_push :
    {X : Type 0} (f : X → List (List ℕ)) (xs : List X) (x : X) → flat_map f (xs ++ x ∷ []) ≡ flat_map f xs ++ f x
joined_push f xs x = flat_map-append f xs (x ∷ []) ∙ ap (λ ys. flat_map f xs ++ ys) (append-nil (f x))

-- before the first tag no tags are read
pub tags_none : (l : Layout) (count : ℕ) (bytes : List ℕ) → TagsSoFar l count bytes 0 []
tags_none l count bytes = record {
  below = λ k tag low. absurd (omega (arith, low));
  on = λ rest within is. is;
  only = λ whole is. (whole, refl, omega arith, is);
}

-- one more piece keeps pieces well formed
pieces_push :
    (l : Layout) (count sequence : ℕ) (ps : List Piece) (p : Piece) → AllByRecursion (IsPiece l count sequence) ps
    → IsPiece l count sequence p → AllByRecursion (IsPiece l count sequence) (ps ++ p ∷ [])
pieces_push l count sequence [] p are is = (is, tt)
pieces_push l count sequence (q ∷ ps) p are is = (are.0, pieces_push l count sequence ps p are.1 is)

module _ (l : Layout) (count sequence : ℕ) where
  -- a piece takes at least one block, and at most all
  pub piece_within :
      (blocks : List (List ℕ)) (p : Piece) (n : ℕ) → PieceBegins l count sequence blocks p n
      → (0 < n) × (n ≤ length blocks)
  piece_within blocks p n is = (positive p is.front.size, front_within (piece_blocks p) blocks n is.front)
    where
      positive : (p : Piece) → n ≡ length (piece_blocks p) → 0 < n
      positive (Revokes block numbers) size = omega arith
      positive (Copies block tags copies) size = omega arith

  -- a text takes at least one block, and at most all
  pub text_within :
      (blocks : List (List ℕ)) (t : Text) (n : ℕ) → TextBegins l count sequence blocks t n → (0 < n) × (n ≤ length blocks)
  text_within blocks t n is =
      let size = is.front.size in let sizes = length-append (pieces_blocks t.pieces) (t.commit ∷ []) in
      (omega arith, front_within (text_blocks t) blocks n is.front)

  -- a descriptor with a copy for each of its tags is a piece
  pub copies_begin :
      (block : List ℕ) (tags : List Tag) (copies blocks behind : List (List ℕ)) → blocks ≡ block ∷ behind
      → IsDescriptor l count sequence block tags → copies ≡ take (length tags) behind → length tags ≤ length behind
      → PieceBegins l count sequence blocks (Copies block tags copies) (1 + length tags)
  copies_begin block tags copies blocks behind e is taken enough =
      let sizes : length copies ≡ length tags = ap length taken ∙ length-take (length tags) behind ∙ omega arith in
      let all : 1 + length tags ≡ suc (length tags) = omega arith in
      let rest : drop (1 + length tags) blocks ≡ drop (length tags) behind =
      ap (λ n. drop n blocks) all ∙ ap (drop (suc (length tags))) e in
      record {
        well_formed = record { descriptor = is; each_tag = sizes };
        front = record {
          split =
              e
              ∙ ap (λ xs. block ∷ xs)
              (sym (take-append-drop (length tags) behind) ∙ ap₂ (λ xs ys. xs ++ ys) (sym taken) (sym rest));
          size = omega arith;
        };
      }

  -- one more piece stands after the others
  pub pieces_more :
      (blocks : List (List ℕ)) (ps : List Piece) (n : ℕ) → PiecesBegin l count sequence blocks ps n
      → (rest : List (List ℕ)) → rest ≡ drop n blocks → (p : Piece) (m : ℕ) → PieceBegins l count sequence rest p m
      → PiecesBegin l count sequence blocks (ps ++ p ∷ []) (n + m)
  pieces_more blocks ps n so rest here p m more = record {
    well_formed = pieces_push l count sequence ps p so.well_formed more.well_formed;
    front =
        subst (λ xs. StandsFirst xs blocks (n + m)) (sym (joined_push piece_blocks ps p))
        (front_more (pieces_blocks ps) (piece_blocks p) blocks n m so.front
        (subst (λ xs. StandsFirst (piece_blocks p) xs m) here more.front));
  }

module _ (l : Layout) (count sequence : ℕ) where
  -- a descriptor with fewer blocks after it than tags is no piece
  pub copies_missing :
      (block : List ℕ) (tags : List Tag) (blocks behind : List (List ℕ)) → blocks ≡ block ∷ behind
      → ((numbers : List ℕ) → IsRevokeBlock l count sequence block numbers → ⊥)
      → IsDescriptor l count sequence block tags → length behind < length tags → NoPieceBegins l count sequence blocks
  copies_missing block tags blocks behind e revokes is few = record {
    none = λ p rest q split. neither p rest q (sym e ∙ split);
  } where
    -- no piece begins with the block
    neither :
        (p : Piece) (rest : List (List ℕ)) → IsPiece l count sequence p → block ∷ behind ≡ piece_blocks p ++ rest → ⊥
    neither (Revokes b numbers) rest q split =
        let same : b ≡ block = cc in revokes numbers (subst (λ x. IsRevokeBlock l count sequence x numbers) same q)
    neither (Copies b others more) rest q split =
        let same : b ≡ block = cc in
        let counts : length others ≡ length tags =
        ap length (one_descriptor (subst (λ x. IsDescriptor l count sequence x others) same q.descriptor) is) in
        let after : behind ≡ more ++ rest = cc in
        let sizes = ap length after ∙ length-append more rest in
        let each = q.each_tag in
        omega arith

  module _
      (blocks : List (List ℕ)) (ps : List Piece) (n : ℕ) (so : PiecesBegin l count sequence blocks ps n)
      (rest : List (List ℕ)) (here : rest ≡ drop n blocks) where
    -- the pieces and the commit block after them are a text
    pub text_begins :
        (commit : List ℕ) (behind : List (List ℕ)) → rest ≡ commit ∷ behind → IsCommitBlock sequence commit
        → TextBegins l count sequence blocks (record { pieces = ps; commit = commit }) (n + 1)
    text_begins commit behind e is = record {
      is_text = record { pieces = so.well_formed; commit = is };
      front =
          front_more (pieces_blocks ps) (commit ∷ []) blocks n 1 so.front
          (front_one commit (drop n blocks) behind (sym here ∙ e));
    }

    module _ (some : 0 < l.number_bytes) (last : NoPieceBegins l count sequence (drop n blocks)) where
      -- if there is a text, its commit block follows all the pieces
      commit_behind :
          (t : Text) (behind : List (List ℕ)) → IsText l count sequence t → blocks ≡ text_blocks t ++ behind
          → rest ≡ t.commit ∷ behind
      commit_behind t behind is e =
          here
          ∙ (one_list_of_pieces l count sequence some ps t.pieces (drop n blocks) (t.commit ∷ behind) so.well_formed
          is.pieces last (none_at_end l count sequence t.commit behind (commits is.commit))
          (sym so.front.split ∙ e ∙ append_assoc (pieces_blocks t.pieces) (t.commit ∷ []) behind)).1

      -- no text stands where nothing follows the pieces
      pub no_text_in_none : length rest ≡ 0 → NoTextBegins l count sequence blocks
      no_text_in_none empty = record {
        none = λ t behind is e. let sizes = ap length (commit_behind t behind is e) in omega arith;
      }

      -- no text stands where another block than a commit block follows the pieces
      pub no_text_without_commit :
          (block : List ℕ) (others : List (List ℕ)) → rest ≡ block ∷ others → (IsCommitBlock sequence block → ⊥)
          → NoTextBegins l count sequence blocks
      no_text_without_commit block others e other = record {
        none = λ t behind is split.
            let commit = commit_behind t behind is split in
            let same : t.commit ≡ block = cc in
            other (subst (IsCommitBlock sequence) same is.commit);
      }

-- one more text at the end
texts_push :
    (l : Layout) (count : ℕ) (ts : List Text) (t : Text) (sequence next : ℕ) → AreTexts l count sequence ts
    → next ≡ sequence + length ts → IsText l count next t → AreTexts l count sequence (ts ++ t ∷ [])
texts_push l count [] t sequence next are due is = (subst (λ n. IsText l count n t) (omega arith) is, tt)
texts_push l count (u ∷ ts) t sequence next are due is =
    (are.0, texts_push l count ts t (suc sequence) next are.1 (omega arith) is)

module _ (l : Layout) (count sequence : ℕ) where
  module _
      (blocks : List (List ℕ)) (ts : List Text) (next n : ℕ) (so : TextsBegin l count sequence blocks ts next n)
      (rest : List (List ℕ)) (here : rest ≡ drop n blocks) where
    -- one more text stands after the others
    pub texts_more :
        (t : Text) (m : ℕ) → TextBegins l count next rest t m
        → TextsBegin l count sequence blocks (ts ++ t ∷ []) (next + 1) (n + m)
    texts_more t m more = record {
      numbered = texts_push l count ts t sequence next so.numbered so.due more.is_text;
      front =
          subst (λ xs. StandsFirst xs blocks (n + m)) (sym (joined_push text_blocks ts t))
          (front_more (texts_blocks ts) (text_blocks t) blocks n m so.front
          (subst (λ xs. StandsFirst (text_blocks t) xs m) here more.front));
      due = let sizes = length-append ts (t ∷ []) in let due = so.due in omega arith;
    }

    -- the blocks are those of the texts, and the rest
    texts_split : blocks ≡ texts_blocks ts ++ rest
    texts_split = so.front.split ∙ ap (λ xs. texts_blocks ts ++ xs) (sym here)

    -- texts followed by no further one are the chain
    pub texts_are_chain : 0 < l.number_bytes → NoTextBegins l count next rest → IsChain l count sequence blocks ts
    texts_are_chain some last = record {
      begins = record { rest = rest; split = texts_split; numbered = so.numbered };
      longest = λ others begins.
          most_texts l count some sequence next ts others rest begins.rest so.numbered begins.numbered so.due last
          (sym texts_split ∙ begins.split);
    }

    module _
        (chain : IsChain l count sequence blocks ts) (ps : List Piece) (m : ℕ)
        (pieces : PiecesBegin l count next rest ps m) (end : List (List ℕ)) (at_end : end ≡ drop m rest) where
      -- the blocks are those of the pieces, and the end
      pieces_split : rest ≡ pieces_blocks ps ++ end
      pieces_split = pieces.front.split ∙ ap (λ xs. pieces_blocks ps ++ xs) (sym at_end)

      -- a malformed block at the end is the damaged one
      pub malformed_is_damaged :
          (block : List ℕ) (others : List (List ℕ)) → end ≡ block ∷ others → IsMalformed l count next block
          → IsDamaged l count sequence blocks (n + m)
      malformed_is_damaged block others e bad = record {
        texts = ts;
        chain = chain;
        pieces = ps;
        block = block;
        rest = others;
        split =
            texts_split ∙ ap (λ xs. texts_blocks ts ++ xs) (pieces_split ∙ ap (λ xs. pieces_blocks ps ++ xs) e)
            ∙ sym (append_assoc (texts_blocks ts) (pieces_blocks ps) (block ∷ others));
        well_formed = subst (λ s. AllByRecursion (IsPiece l count s) ps) so.due pieces.well_formed;
        malformed = subst (λ s. IsMalformed l count s block) so.due bad;
        place = let first = so.front.size in let second = pieces.front.size in omega arith;
      }

      module _ (some : 0 < l.number_bytes) (last : NoPieceBegins l count next (drop m rest)) where
        -- the damaged block, if there is one, stands at the end
        damage_at_end :
            (k : ℕ) → IsDamaged l count sequence blocks k
            → (block : List ℕ) × (others : List (List ℕ)) × (end ≡ block ∷ others) × IsMalformed l count next block
        damage_at_end k q =
            let texts : q.texts ≡ ts = one_chain_of l count some sequence blocks q.texts ts q.chain chain in
            let due : sequence + length q.texts ≡ next = ap (λ us. sequence + length us) texts ∙ sym so.due in
            let bad = subst (λ s. IsMalformed l count s q.block) due q.malformed in
            let well_formed = subst (λ s. AllByRecursion (IsPiece l count s) q.pieces) due q.well_formed in
            let tail : List (List ℕ) = q.block ∷ q.rest in
            let split = subst (λ us. blocks ≡ texts_blocks us ++ pieces_blocks q.pieces ++ tail) texts q.split in
            let behind : rest ≡ pieces_blocks q.pieces ++ tail =
            append_cancel_left (texts_blocks ts) rest (pieces_blocks q.pieces ++ tail)
            (sym texts_split ∙ split ∙ append_assoc (texts_blocks ts) (pieces_blocks q.pieces) tail) in
            let same =
            one_list_of_pieces l count next some ps q.pieces (drop m rest) tail pieces.well_formed well_formed last
            (none_at_end l count next q.block q.rest (damages bad)) (sym pieces.front.split ∙ behind) in
            (q.block, q.rest, at_end ∙ same.1, bad)

        -- no block stands at the end, so none is damaged
        pub no_damage_in_none : length end ≡ 0 → (k : ℕ) → IsDamaged l count sequence blocks k → ⊥
        no_damage_in_none empty k q =
            let behind = damage_at_end k q in let sizes = ap length behind.2 in omega arith

        -- the block at the end is not malformed, so none is damaged
        pub no_damage_in_good :
            (block : List ℕ) (others : List (List ℕ)) → end ≡ block ∷ others → (IsMalformed l count next block → ⊥)
            → (k : ℕ) → IsDamaged l count sequence blocks k → ⊥
        no_damage_in_good block others e good k q =
            let behind = damage_at_end k q in
            let split = behind.2 in
            let same : behind.0 ≡ block = cc in
            good (subst (IsMalformed l count next) same behind.3)
