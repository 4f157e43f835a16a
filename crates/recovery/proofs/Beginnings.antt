-- What was passed of a log is a beginning of its chain.
use Rattle.std.proofs.Common.{refl, sym, ◌∙◌, ap, subst, arith, append_assoc}
use Rattle.std.specs.Prelude.{◌≡◌, ℕ, suc, ◌+◌, ◌<◌, List, [], ◌∷◌, ◌++◌, length, drop}
use Rattle.std.specs.List.{AllByRecursion}
use Rattle.log_model.specs.declared.log.Piece.{Piece}
use Rattle.log_model.specs.declared.log.Text.{Text}
use Rattle.log_model.specs.Chain.{AreTexts, BeginsWithTexts, texts_blocks}
use Rattle.journal_model.specs.Layout.{Layout}
use Rattle.log_model.specs.Text.{IsCommitBlock, IsPiece, IsText, piece_blocks, pieces_blocks, text_blocks}
use Rattle.log_model.proofs.ReadingPieces.{no_piece_at_end, one_piece}
use Rattle.log_model.proofs.ReadingPieces.Ends.{commits}
use Rattle.log_model.proofs.ReadingTexts.{one_list_of_texts, one_text}
use Rattle.log_scan.specs.Passing.{StandBefore}

-- the blocks of texts, the first text's apart
first-text : (t : Text) (ts : List Text) (xs : List (List ℕ)) → texts_blocks (t ∷ ts) ++ xs ≡ text_blocks t ++ (texts_blocks ts ++ xs)
first-text t ts xs = append_assoc (text_blocks t) (texts_blocks ts) xs

-- pieces at the front of some blocks begin the text that stands there
pieces-begin : (l : Layout) (count sequence : ℕ) → 0 < l.number_bytes → (ps qs : List Piece) (xs ys : List (List ℕ)) (commit : List ℕ) →
    AllByRecursion (IsPiece l count sequence) ps → AllByRecursion (IsPiece l count sequence) qs → IsCommitBlock sequence commit →
    pieces_blocks ps ++ xs ≡ pieces_blocks qs ++ commit ∷ ys → (more : List Piece) × (qs ≡ ps ++ more)
pieces-begin l count sequence some [] qs xs ys commit are others ends e = (qs, refl)
pieces-begin l count sequence some (p ∷ ps) [] xs ys commit are others ends e =
    absurd (no_piece_at_end l count sequence p (pieces_blocks ps ++ xs) ys commit are.0 (commits ends) (sym (append_assoc (piece_blocks p) (pieces_blocks ps) xs) ∙ e))
pieces-begin l count sequence some (p ∷ ps) (q ∷ qs) xs ys commit are others ends e =
    let split : piece_blocks p ++ (pieces_blocks ps ++ xs) ≡ piece_blocks q ++ (pieces_blocks qs ++ commit ∷ ys) =
    sym (append_assoc (piece_blocks p) (pieces_blocks ps) xs) ∙ e ∙ append_assoc (piece_blocks q) (pieces_blocks qs) (commit ∷ ys) in
    let first = one_piece l count sequence some p q (pieces_blocks ps ++ xs) (pieces_blocks qs ++ commit ∷ ys) are.0 others.0 split in
    let rest = pieces-begin l count sequence some ps qs xs ys commit are.1 others.1 ends first.1 in
    let head = first.0 in
    let tail = rest.1 in
    (rest.0, cc)

-- the next text, if fewer texts than the chain's begin the same blocks
record NextText (l : Layout) (count sequence : ℕ) (texts chain : List Text) (xs ys : List (List ℕ)) : Type 0 where
  text : Text
  rest : List Text
  split : chain ≡ texts ++ text ∷ rest
  is : IsText l count (sequence + length texts) text
  behind : xs ≡ text_blocks text ++ (texts_blocks rest ++ ys)

next-text : (l : Layout) (count : ℕ) → 0 < l.number_bytes → (sequence : ℕ) (texts chain : List Text) (xs ys : List (List ℕ)) → AreTexts l count sequence texts →
    AreTexts l count sequence chain → length texts < length chain → texts_blocks texts ++ xs ≡ texts_blocks chain ++ ys → NextText l count sequence texts chain xs ys
next-text l count some sequence texts [] xs ys are others fewer e = absurd (omega arith)
next-text l count some sequence [] (u ∷ us) xs ys are others fewer e =
    record { text = u; rest = us; split = refl; is = subst (λ (n : ℕ). IsText l count n u) (omega arith) others.0; behind = e ∙ first-text u us ys }
next-text l count some sequence (t ∷ ts) (u ∷ us) xs ys are others fewer e =
    let split : text_blocks t ++ (texts_blocks ts ++ xs) ≡ text_blocks u ++ (texts_blocks us ++ ys) = sym (first-text t ts xs) ∙ e ∙ first-text u us ys in
    let first = one_text l count some sequence t u (texts_blocks ts ++ xs) (texts_blocks us ++ ys) are.0 others.0 split in
    let next = next-text l count some (suc sequence) ts us xs ys are.1 others.1 (omega arith) first.1 in
    let head : t ≡ u = first.0 in
    let tail : us ≡ ts ++ next.text ∷ next.rest = next.split in
    record {
      text = next.text;
      rest = next.rest;
      split = ap (λ (x : Text). x ∷ us) (sym head) ∙ ap (λ (xs : List Text). t ∷ xs) tail;
      is = subst (λ (n : ℕ). IsText l count n next.text) (omega arith) next.is;
      behind = next.behind;
    }

-- texts and pieces are a beginning of a chain
pub record IsBeginning (texts : List Text) (pieces : List Piece) (chain : List Text) : Type 0 where
  pub text : Text
  pub rest : List Text
  pub more : List Piece
  pub split : chain ≡ texts ++ text ∷ rest
  pub pieces_are : text.pieces ≡ pieces ++ more

module _
    (l : Layout) (count sequence : ℕ) (some : 0 < l.number_bytes) (blocks : List (List ℕ)) (texts : List Text) (pieces : List Piece) (number taken : ℕ)
    (so : StandBefore l count sequence blocks texts pieces number taken) (chain : List Text) (begins : BeginsWithTexts l count sequence blocks chain)
  where
    -- the same blocks begin with the texts and with the chain
    both : texts_blocks texts ++ drop so.before blocks ≡ texts_blocks chain ++ begins.rest
    both = sym so.whole.front.split ∙ begins.split

    -- if the chain has more texts, these begin it
    pub begins-chain : number < length chain → IsBeginning texts pieces chain
    begins-chain fewer =
        let due = so.whole.due in
        let same : number ≡ length texts = omega arith in
        let next = next-text l count some sequence texts chain (drop so.before blocks) begins.rest so.whole.numbered begins.numbered (omega arith) both in
        let there : pieces_blocks pieces ++ drop so.inside (drop so.before blocks) ≡ pieces_blocks next.text.pieces ++ next.text.commit ∷ (texts_blocks next.rest ++ begins.rest) =
        sym so.begun.front.split ∙ next.behind ∙ append_assoc (pieces_blocks next.text.pieces) (next.text.commit ∷ []) (texts_blocks next.rest ++ begins.rest) in
        let own : AllByRecursion (IsPiece l count (sequence + length texts)) pieces =
        subst (λ (n : ℕ). AllByRecursion (IsPiece l count (sequence + n)) pieces) same so.begun.well_formed in
        let more = pieces-begin l count (sequence + length texts) some pieces next.text.pieces (drop so.inside (drop so.before blocks)) (texts_blocks next.rest ++ begins.rest)
        next.text.commit own next.is.pieces next.is.commit there in
        record { text = next.text; rest = next.rest; more = more.0; split = next.split; pieces_are = more.1 }

    -- if it has as many, these are the whole chain
    pub is-chain : number ≡ length chain → chain ≡ texts
    is-chain all =
        let due = so.whole.due in
        sym (one_list_of_texts l count some sequence texts chain (drop so.before blocks) begins.rest so.whole.numbered begins.numbered (omega arith) both).0
