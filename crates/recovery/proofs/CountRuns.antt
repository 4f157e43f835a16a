-- How many copies of a chain go home, counted piece by piece.
use Rattle.std.proofs.Common.{refl, sym, ◌∙◌, ap, ap₂, subst, arith, append-nil, length-append, inl, inr}
use Rattle.std.specs.Prelude.{◌≡◌, ◌⊎◌, ℕ, suc, ◌+◌, ◌<◌, Bool, true, false, if◌then◌else◌, List, [], ◌∷◌, ◌++◌, length, take, get_or}
use Rattle.std.proofs.lemmas.List.{length-take-le}
use Rattle.journal_model.proofs.ListElements.{take-more_read}
use Rattle.journal_model.specs.Disk.{Image}
use Rattle.log_model.specs.declared.log.Piece.{Piece}
use Rattle.log_model.specs.declared.log.Piece.TheVariants.{Copies, Revokes}
use Rattle.log_model.specs.declared.log.Tag.{Tag}
use Rattle.log_model.specs.declared.log.Text.{Text}
use Rattle.log_model.specs.Chain.{lap}
use Rattle.log_model.specs.Opening.{layout_of, ring_of}
use Rattle.log_model.specs.Superblock.{Super}
use Rattle.log_model.proofs.ReadingTexts.{one_chain_of}
use Rattle.log_scan.specs.declared.cursor.Cursor.{Cursor}
use Rattle.log_scan.specs.declared.finding.Found.{Found}
use Rattle.log_scan.specs.declared.finding.Found.TheVariants.{CommitBlock, Malformed, Nothing, RevokeBlock}
use Rattle.log_scan.specs.Finding.{FinderValue}
use Rattle.log_scan.specs.Passing.{CommitPassed, CopiesPassed, IsPassed, LeadsTo, RevokesPassed, cursor_behind}
use Rattle.log_scan.specs.Scanning.{IsChainOf}
use Rattle.log_scan.proofs.ScanSteps.{passed-count, passed-none}
use Rattle.block_tables.specs.Copies.{copies_of}
use Rattle.recovery.specs.Choice.{chosen_all, goes_by}
use Rattle.recovery.specs.Gather.{TablesValue, chosen_after, count_chosen, tables_of}
use Rattle.recovery.specs.HomeCopies.{home_copies}
use Rattle.recovery.proofs.Beginnings.{is-chain}
use Rattle.recovery.proofs.GatherRuns.{count-tagged, texts_so}
use Rattle.recovery.proofs.ReplayRuns.{chain-chosen, chosen_so, so-commit, so-piece, so-whole}
use Rattle.recovery.proofs.UnfinishedTables.{copies-begun, copies-finished, copies-piece_count}

-- one more element adds 1, none adds 0
one-or-none : {X : Type 0} (c : Bool) (x : X) (xs : List X) → length (if c then x ∷ xs else xs) ≡ (if c then 1 else 0) + length xs
one-or-none true x xs = omega arith
one-or-none false x xs = omega arith

-- a descriptor's copies that go home are as many as its tags count
pub count-behind : (tables : TablesValue) (tid place : ℕ) (tags : List Tag) (blocks : List (List ℕ)) → length tags ≡ length blocks →
    length (chosen_after tables tid place tags blocks) ≡ count_chosen tables tid place tags
count-behind tables tid place [] [] same = refl
count-behind tables tid place [] (b ∷ blocks) same = absurd (omega arith)
count-behind tables tid place (tag ∷ tags) [] same = absurd (omega arith)
count-behind tables tid place (tag ∷ tags) (b ∷ blocks) same =
    let rest : length tags ≡ length blocks = omega arith in
    one-or-none (goes_by tables.revokes tables.copies tid place tag.block) _ (chosen_after tables tid (suc place) tags blocks)
    ∙ ap (λ (n : ℕ). (if goes_by tables.revokes tables.copies tid place tag.block then 1 else 0) + n) (count-behind tables tid (suc place) tags blocks rest)

-- whether the copy at a place counts
abbrev one_at : TablesValue → ℕ → Tag → ℕ → ℕ
one_at tables tid tag place = if goes_by tables.revokes tables.copies tid place tag.block then 1 else 0

-- one more tag adds its copy
count-push : (tables : TablesValue) (tid place : ℕ) (tags : List Tag) (tag : Tag) →
    count_chosen tables tid place (tags ++ tag ∷ []) ≡ count_chosen tables tid place tags + one_at tables tid tag (place + length tags)
count-push tables tid place [] tag =
    let none : List Tag = [] in
    let at : place ≡ place + length none = omega arith in
    let same : one_at tables tid tag place ≡ one_at tables tid tag (place + length none) = ap (one_at tables tid tag) at in
    omega arith
count-push tables tid place (t ∷ tags) tag =
    let rest = count-push tables tid (suc place) tags tag in
    let at : suc place + length tags ≡ place + length (t ∷ tags) = omega arith in
    let same : one_at tables tid tag (suc place + length tags) ≡ one_at tables tid tag (place + length (t ∷ tags)) = ap (one_at tables tid tag) at in
    omega arith

-- so does tag k of a list
pub count-more : (tables : TablesValue) (tid place k : ℕ) (tags : List Tag) (tag : Tag) → k < length tags → tag ≡ get_or tags k tag →
    count_chosen tables tid place (take (k + 1) tags)
    ≡ count_chosen tables tid place (take k tags) + (if goes_by tables.revokes tables.copies tid (place + k) tag.block then 1 else 0)
count-more tables tid place k tags tag below is =
    ap (count_chosen tables tid place) (take-more_read tags k tag below is) ∙ count-push tables tid place (take k tags) tag
    ∙ ap (λ (n : ℕ). count_chosen tables tid place (take k tags) + (if goes_by tables.revokes tables.copies tid (place + n) tag.block then 1 else 0))
    (length-take-le k tags (omega arith))

-- so many copies of what stands before the cursor go home
pub record Counts (s : Super) (limit : ℕ) (image : Image) (cursor : Cursor) (transactions place count : ℕ) (tables : TablesValue) : Type 0 where
  pub texts : List Text
  pub pieces : List Piece
  pub passed : IsPassed s limit image texts pieces cursor
  pub whole : cursor.transactions ≡ transactions → pieces ≡ []
  pub place_is : place ≡ length (copies_of (texts_so texts pieces))
  pub count_is : count ≡ length (chosen_so tables s.s_sequence texts pieces)

-- at first none do
pub counts-none : (s : Super) (limit : ℕ) (image : Image) (transactions : ℕ) (tables : TablesValue) →
    Counts s limit image (record { position = 0; transactions = 0 }) transactions 0 0 tables
counts-none s limit image transactions tables = record {
  texts = [];
  pieces = [];
  passed = passed-none s limit image;
  whole = λ same. refl;
  place_is = refl;
  count_is = refl;
}

module _ (s : Super) (limit : ℕ) (image : Image) (from to : Cursor) (transactions place count : ℕ) (tables : TablesValue)
    (so : Counts s limit image from transactions place count tables)
  where
    -- the cursor counts the texts passed
    counted : from.transactions ≡ length so.texts
    counted = passed-count s limit image so.texts so.pieces from so.passed

    -- a revoke block adds none
    counts-revokes : (numbers : List ℕ) → from.transactions < transactions → to.transactions ≡ from.transactions →
        RevokesPassed s limit image so.texts so.pieces numbers to → Counts s limit image to transactions place count tables
    counts-revokes numbers below same passed = record {
      texts = so.texts;
      pieces = so.pieces ++ Revokes passed.block numbers ∷ [];
      passed = passed.passed;
      whole = λ all. absurd (omega arith);
      place_is = so.place_is ∙ (let more = copies-piece_count so.texts so.pieces (Revokes passed.block numbers) in omega arith);
      count_is =
          so.count_is
          ∙ ap length (sym (so-piece tables s.s_sequence so.texts so.pieces (Revokes passed.block numbers) ∙ append-nil (chosen_so tables s.s_sequence so.texts so.pieces)));
    }

    -- a commit block adds none
    counts-commit : CommitPassed s limit image so.texts so.pieces to → Counts s limit image to transactions place count tables
    counts-commit passed =
        let done : Text = record { pieces = so.pieces; commit = passed.commit } in
        record {
          texts = so.texts ++ done ∷ [];
          pieces = [];
          passed = passed.passed;
          whole = λ all. refl;
          place_is = so.place_is ∙ ap length (sym (copies-begun (so.texts ++ done ∷ []) ∙ copies-finished so.texts done));
          count_is = so.count_is ∙ ap length (sym (so-commit tables s.s_sequence so.texts so.pieces passed.commit));
        }

    -- a descriptor adds its copies that go home
    pub counts-copies : (tags : List Tag) (n tid more : ℕ) → n ≡ length tags → tid ≡ s.s_sequence + from.transactions → from.transactions < transactions →
        to.transactions ≡ from.transactions → CopiesPassed s limit image so.texts so.pieces tags from.position n to → more ≡ count_chosen tables tid place tags →
        Counts s limit image to transactions (place + n) (count + more) tables
    counts-copies tags n tid more size number below same passed is =
        let own : List (ℕ × List ℕ) = chosen_so tables s.s_sequence so.texts so.pieces in
        let split : chosen_so tables s.s_sequence so.texts (so.pieces ++ Copies passed.block tags passed.copies ∷ [])
        ≡ own ++ chosen_after tables tid place tags passed.copies =
        so-piece tables s.s_sequence so.texts so.pieces (Copies passed.block tags passed.copies)
        ∙ ap₂ (λ (t p : ℕ). own ++ chosen_after tables t p tags passed.copies) (sym (number ∙ ap (λ (k : ℕ). s.s_sequence + k) counted)) (sym so.place_is) in
        record {
          texts = so.texts;
          pieces = so.pieces ++ Copies passed.block tags passed.copies ∷ [];
          passed = passed.passed;
          whole = λ all. absurd (omega arith);
          place_is =
              let longer = copies-piece_count so.texts so.pieces (Copies passed.block tags passed.copies) in
              let many = count-tagged tags passed.block passed.copies (passed.stand.count ∙ size) in
              let before = so.place_is in
              omega arith;
          count_is =
              ap₂ (λ (a b : ℕ). a + b) so.count_is (is ∙ sym (count-behind tables tid place tags passed.copies (sym (passed.stand.count ∙ size))))
              ∙ sym (length-append own (chosen_after tables tid place tags passed.copies)) ∙ ap length (sym split);
        }

    module _ (chain : List Text) (are : IsChainOf s limit image chain) (all : transactions ≡ length chain) where
      -- at the end the count is the chain's
      pub counts-all : tables ≡ tables_of s.s_sequence chain → from.transactions ≡ transactions → count ≡ length (home_copies chain)
      counts-all tables_are end =
          let texts : chain ≡ so.texts =
          is-chain (layout_of s) limit s.s_sequence (omega arith) (lap (ring_of s) image s.s_start) so.texts so.pieces from.transactions from.position so.passed chain are.begins
          (end ∙ all) in
          so.count_is
          ∙ ap length
          (ap (chosen_so tables s.s_sequence so.texts) (so.whole end) ∙ so-whole tables s.s_sequence so.texts
          ∙ ap (chosen_all tables.revokes tables.copies s.s_sequence 0) (sym texts) ∙ chain-chosen tables s.s_sequence chain tables_are)

      -- the chain does not end before
      counts-later : from.transactions < transactions → IsChainOf s limit image so.texts → ⊥
      counts-later below others =
          let same : so.texts ≡ chain =
          one_chain_of (layout_of s) limit (omega arith) s.s_sequence (lap (ring_of s) image s.s_start) so.texts chain others are in
          let sizes = ap length same in
          let count = counted in
          omega arith

      pub counts-nowhere : (f : FinderValue) (found : Found) → from.transactions < transactions → (found ≡ Malformed) ⊎ (found ≡ Nothing) →
          LeadsTo s limit image so.texts so.pieces f from to found → ⊥
      counts-nowhere f found below (inl is) leads = counts-later below (subst (LeadsTo s limit image so.texts so.pieces f from to) is leads).0
      counts-nowhere f found below (inr is) leads = counts-later below (subst (LeadsTo s limit image so.texts so.pieces f from to) is leads).chain

    -- a revoke or commit block keeps the count
    pub counts-on : (f : FinderValue) (found : Found) → ((n : ℕ) × (found ≡ RevokeBlock n)) ⊎ (found ≡ CommitBlock) → to ≡ cursor_behind from found →
        from.transactions < transactions → LeadsTo s limit image so.texts so.pieces f from to found → Counts s limit image to transactions place count tables
    counts-on f found (inl (n, is)) moved below leads =
        let at = rw is at moved in
        counts-revokes (take n f.numbers) below (ap (λ (c : Cursor). c.transactions) at) (subst (LeadsTo s limit image so.texts so.pieces f from to) is leads)
    counts-on f found (inr is) moved below leads = counts-commit (subst (LeadsTo s limit image so.texts so.pieces f from to) is leads)
