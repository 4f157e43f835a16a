-- Texts followed by no due block are the chain of a log, without damage.
use Rattle.std.proofs.Common.{◌≡◌, ℕ, ◌+◌, ◌<◌, List, [], ◌∷◌, ◌++◌, length, refl, sym, ◌∙◌, subst, append_assoc}
use Rattle.std.specs.List.{AllByRecursion}
use Rattle.std.proofs.lemmas.List.{append_cancel_left}
use Rattle.log_model.specs.declared.log.Text.{Text}
use Rattle.log_model.specs.Chain.{AreTexts, IsChain, IsDamaged, IsMalformed, texts_blocks}
use Rattle.journal_model.specs.Layout.{Layout}
use Rattle.log_model.specs.ReadingLog.{NoTextBegins}
use Rattle.log_model.specs.Text.{IsCommitBlock, pieces_blocks}
use Rattle.log_model.proofs.ReadingTexts.{most_texts, one_chain_of}

-- neither a commit block of this number, nor a malformed block of it
pub record IsNotDue (l : Layout) (count next : ℕ) (block : List ℕ) : Type 0 where
  pub no_commit : IsCommitBlock next block → ⊥
  pub no_damage : IsMalformed l count next block → ⊥

-- a fact of each element of joined lists holds of the one after a front
behind-front : {X : Type 0} (P : X → Type 0) (xs : List X) (y : X) (ys : List X) → AllByRecursion P (xs ++ y ∷ ys) → P y
behind-front P [] y ys all = all.0
behind-front P (x ∷ xs) y ys all = behind-front P xs y ys all.1

module _ (l : Layout) (count : ℕ) where
  -- no text begins among blocks of which none is due
  no-text-due : (next : ℕ) (rest : List (List ℕ)) → AllByRecursion (IsNotDue l count next) rest → NoTextBegins l count next rest
  no-text-due next rest all =
      record {
        none = λ t more is e.
            let split : rest ≡ pieces_blocks t.pieces ++ (t.commit ∷ more) = e ∙ append_assoc (pieces_blocks t.pieces) (t.commit ∷ []) more in
            let due : IsNotDue l count next t.commit = behind-front (IsNotDue l count next) (pieces_blocks t.pieces) t.commit more
            (subst (λ blocks. AllByRecursion (IsNotDue l count next) blocks) split all) in
            due.no_commit is.commit;
      }

  -- texts followed by blocks of which none is due are the chain
  pub chain-of : (sequence : ℕ) (blocks : List (List ℕ)) (ts : List Text) (rest : List (List ℕ)) → 0 < l.number_bytes →
      blocks ≡ texts_blocks ts ++ rest → AreTexts l count sequence ts → AllByRecursion (IsNotDue l count (sequence + length ts)) rest →
      IsChain l count sequence blocks ts
  chain-of sequence blocks ts rest some split are all =
      record {
        begins = record { rest = rest; split = split; numbered = are };
        longest = λ others b.
            most_texts l count some sequence (sequence + length ts) ts others rest b.rest are b.numbered refl
            (no-text-due (sequence + length ts) rest all) (sym split ∙ b.split);
      }

  -- no damage follows them
  pub no-damage : (sequence : ℕ) (blocks : List (List ℕ)) (ts : List Text) (rest : List (List ℕ)) → 0 < l.number_bytes →
      blocks ≡ texts_blocks ts ++ rest → AreTexts l count sequence ts → AllByRecursion (IsNotDue l count (sequence + length ts)) rest →
      (k : ℕ) → IsDamaged l count sequence blocks k → ⊥
  no-damage sequence blocks ts rest some split are all k d =
      let chain : IsChain l count sequence blocks ts = chain-of sequence blocks ts rest some split are all in
      let texts : d.texts ≡ ts = one_chain_of l count some sequence blocks d.texts ts d.chain chain in
      let damaged : IsMalformed l count (sequence + length ts) d.block = subst (λ us. IsMalformed l count (sequence + length us) d.block) texts d.malformed in
      let there : blocks ≡ texts_blocks ts ++ pieces_blocks d.pieces ++ d.block ∷ d.rest =
      subst (λ us. blocks ≡ texts_blocks us ++ pieces_blocks d.pieces ++ d.block ∷ d.rest) texts d.split in
      let apart : rest ≡ pieces_blocks d.pieces ++ (d.block ∷ d.rest) =
      append_cancel_left (texts_blocks ts) rest (pieces_blocks d.pieces ++ (d.block ∷ d.rest))
      (sym split ∙ there ∙ append_assoc (texts_blocks ts) (pieces_blocks d.pieces) (d.block ∷ d.rest)) in
      let due : IsNotDue l count (sequence + length ts) d.block = behind-front (IsNotDue l count (sequence + length ts)) (pieces_blocks d.pieces) d.block d.rest
      (subst (λ us. AllByRecursion (IsNotDue l count (sequence + length ts)) us) apart all) in
      due.no_damage damaged
