-- Texts, the chain and the damaged block are read in one way.
use Rattle.std.proofs.Common.{◌≡◌, ℕ, suc, ◌+◌, ◌<◌, ◌≤◌, List, [], ◌∷◌, ◌++◌, length, arith, refl, sym, ◌∙◌, subst, ap, append_assoc}
use Rattle.std.proofs.lemmas.List.{append_cancel_left}
use Rattle.std.specs.List.{AllByRecursion}
use Rattle.log_model.specs.declared.log.Piece.{Piece}
use Rattle.log_model.specs.declared.log.Text.{Text}
use Rattle.journal_model.specs.Layout.{Layout}
use Rattle.log_model.specs.Text.{IsText, IsPiece, pieces_blocks, text_blocks}
use Rattle.log_model.specs.Chain.{AreTexts, texts_blocks, IsChain, IsMalformed, IsDamaged}
use Rattle.log_model.specs.ReadingLog.{NoTextBegins}
use Rattle.log_model.proofs.ReadingPieces.{commits, damages, none_at_end, one_list_of_pieces}

-- texts with the same pieces and commit block are equal
same_text : (t u : Text) → t.pieces ≡ u.pieces → t.commit ≡ u.commit → t ≡ u
same_text t u pieces commit =
    let text : List Piece → List ℕ → Text = λ ps c. record { pieces = ps; commit = c } in
    ap (λ ps. text ps t.commit) pieces ∙ ap (λ c. text u.pieces c) commit

-- the blocks of the first text, then those of the others
first_text :
    (t : Text) (ts : List Text) (rest : List (List ℕ))
    → texts_blocks (t ∷ ts) ++ rest ≡ text_blocks t ++ (texts_blocks ts ++ rest)
first_text t ts rest = append_assoc (text_blocks t) (texts_blocks ts) rest

module _ (l : Layout) (count : ℕ) where
  -- no text begins another
  pub one_text :
      0 < l.number_bytes → (sequence : ℕ) (t u : Text) (xs ys : List (List ℕ))
      → IsText l count sequence t → IsText l count sequence u → text_blocks t ++ xs ≡ text_blocks u ++ ys
      → (t ≡ u) × (xs ≡ ys)
  one_text some sequence t u xs ys is other e =
      let split : pieces_blocks t.pieces ++ (t.commit ∷ xs) ≡ pieces_blocks u.pieces ++ (u.commit ∷ ys) =
      simp append_assoc at e in
      let both = one_list_of_pieces l count sequence some t.pieces u.pieces _ _ is.pieces other.pieces
      (none_at_end l count sequence _ _ (commits is.commit))
      (none_at_end l count sequence _ _ (commits other.commit)) split in
      let behind = both.1 in
      (same_text t u both.0 cc, cc)

  -- texts followed by no further one are the most at the front of the same blocks
  pub most_texts :
      0 < l.number_bytes → (sequence next : ℕ) (ts us : List Text) (xs ys : List (List ℕ))
      → AreTexts l count sequence ts → AreTexts l count sequence us → next ≡ sequence + length ts
      → NoTextBegins l count next xs → texts_blocks ts ++ xs ≡ texts_blocks us ++ ys → length us ≤ length ts
  most_texts some sequence next ts [] xs ys are others n last e = omega arith
  most_texts some sequence next [] (u ∷ us) xs ys are others n last e =
      let due : sequence ≡ next = omega arith in
      let text = subst (λ s. IsText l count s u) due others.0 in
      absurd (last.none u (texts_blocks us ++ ys) text (e ∙ first_text u us ys))
  most_texts some sequence next (t ∷ ts) (u ∷ us) xs ys are others n last e =
      let split : text_blocks t ++ (texts_blocks ts ++ xs) ≡ text_blocks u ++ (texts_blocks us ++ ys) =
      sym (first_text t ts xs) ∙ e ∙ first_text u us ys in
      let first = one_text some sequence t u _ _ are.0 others.0 split in
      let due : next ≡ suc sequence + length ts = omega arith in
      let rest = most_texts some (suc sequence) next ts us xs ys are.1 others.1 due last first.1 in
      omega arith

  -- equally many texts at the front of the same blocks are one list
  pub one_list_of_texts :
      0 < l.number_bytes → (sequence : ℕ) (ts us : List Text) (xs ys : List (List ℕ))
      → AreTexts l count sequence ts → AreTexts l count sequence us → length ts ≡ length us
      → texts_blocks ts ++ xs ≡ texts_blocks us ++ ys → (ts ≡ us) × (xs ≡ ys)
  one_list_of_texts some sequence [] [] xs ys are others n e = (refl, e)
  one_list_of_texts some sequence [] (u ∷ us) xs ys are others n e = absurd (omega arith)
  one_list_of_texts some sequence (t ∷ ts) [] xs ys are others n e = absurd (omega arith)
  one_list_of_texts some sequence (t ∷ ts) (u ∷ us) xs ys are others n e =
      let split : text_blocks t ++ (texts_blocks ts ++ xs) ≡ text_blocks u ++ (texts_blocks us ++ ys) =
      sym (first_text t ts xs) ∙ e ∙ first_text u us ys in
      let first = one_text some sequence t u _ _ are.0 others.0 split in
      let shorter : length ts ≡ length us = cc in
      let rest = one_list_of_texts some (suc sequence) ts us xs ys are.1 others.1 shorter first.1 in
      let head = first.0 in let tail = rest.0 in
      (cc, rest.1)

  -- blocks have one chain
  pub one_chain_of :
      0 < l.number_bytes → (sequence : ℕ) (blocks : List (List ℕ)) (ts us : List Text)
      → IsChain l count sequence blocks ts → IsChain l count sequence blocks us → ts ≡ us
  one_chain_of some sequence blocks ts us p q =
      let low = p.longest us q.begins in
      let high = q.longest ts p.begins in
      (one_list_of_texts some sequence ts us p.begins.rest q.begins.rest p.begins.numbered q.begins.numbered
      (omega arith) (sym p.begins.split ∙ q.begins.split)).0

  -- pieces at the front of the same blocks, ended by a malformed block, are one list
  same_pieces :
      0 < l.number_bytes → (next : ℕ) (front rest others : List (List ℕ)) (ps qs : List Piece) (b c : List ℕ)
      → AllByRecursion (IsPiece l count next) ps → AllByRecursion (IsPiece l count next) qs
      → IsMalformed l count next b → IsMalformed l count next c
      → front ++ pieces_blocks ps ++ b ∷ rest ≡ front ++ pieces_blocks qs ++ c ∷ others → ps ≡ qs
  same_pieces some next front rest others ps qs b c are also bad worse e =
      (one_list_of_pieces l count next some ps qs _ _ are also
      (none_at_end l count next b rest (damages bad)) (none_at_end l count next c others (damages worse))
      (append_cancel_left front _ _ (simp append_assoc at e))).0

  -- blocks have at most one damaged block
  pub one_damage_of :
      0 < l.number_bytes → (sequence : ℕ) (blocks : List (List ℕ)) (j k : ℕ)
      → IsDamaged l count sequence blocks j → IsDamaged l count sequence blocks k → j ≡ k
  one_damage_of some sequence blocks j k p q =
      let texts : q.texts ≡ p.texts = one_chain_of some sequence blocks q.texts p.texts q.chain p.chain in
      let split = subst (λ ts. blocks ≡ texts_blocks ts ++ pieces_blocks q.pieces ++ q.block ∷ q.rest) texts q.split in
      let pieces = same_pieces some (sequence + length p.texts) (texts_blocks p.texts) p.rest q.rest p.pieces q.pieces
      p.block q.block p.well_formed
      (subst (λ ts. AllByRecursion (IsPiece l count (sequence + length ts)) q.pieces) texts q.well_formed)
      p.malformed (subst (λ ts. IsMalformed l count (sequence + length ts) q.block) texts q.malformed)
      (sym p.split ∙ split) in
      let place = p.place in let other = q.place in
      cc
