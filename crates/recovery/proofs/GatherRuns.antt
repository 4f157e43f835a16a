-- Gathering, piece by piece.
use Rattle.std.proofs.Common.{refl, sym, ◌∙◌, ap, ap₂, subst, arith, inl, inr}
use Rattle.std.specs.Prelude.{◌≡◌, ◌⊎◌, ℕ, suc, ◌+◌, ◌<◌, List, [], ◌∷◌, ◌++◌, length}
use Rattle.log_model.specs.declared.log.Piece.{Piece}
use Rattle.log_model.specs.declared.log.Piece.TheVariants.{Copies, Revokes}
use Rattle.log_model.specs.declared.log.Tag.{Tag}
use Rattle.log_model.specs.declared.log.Text.{Text}
use Rattle.log_model.specs.Chain.{lap}
use Rattle.journal_model.specs.Disk.{Disk, Image, reading}
use Rattle.log_model.specs.Opening.{layout_of, ring_of}
use Rattle.log_model.specs.Superblock.{Super}
use Rattle.log_model.specs.Text.{piece_copies}
use Rattle.block_device.specs.State.{DeviceState, Stays}
use Rattle.log_model.proofs.ReadingTexts.{one_chain_of}
use Rattle.log_scan.specs.declared.cursor.Cursor.{Cursor}
use Rattle.log_scan.specs.declared.finding.Found.{Found}
use Rattle.log_scan.specs.declared.finding.Found.TheVariants.{Malformed, Nothing}
use Rattle.log_scan.specs.Finding.{FinderValue}
use Rattle.log_scan.specs.Passing.{CommitPassed, CopiesPassed, IsPassed, LeadsTo, RevokesPassed}
use Rattle.log_scan.specs.Scanning.{IsChainOf}
use Rattle.log_scan.proofs.ScanSteps.{passed-count, passed-none}
use Rattle.block_tables.specs.Copies.{copies_of, copy_notes, placed_all}
use Rattle.block_tables.specs.Revokes.{noted_all, notes_of}
use Rattle.recovery.specs.Choice.{unfinished}
use Rattle.recovery.specs.Gather.{TablesValue, empty_tables, tables_of, tag_notes, with_copies, with_revokes}
use Rattle.recovery.proofs.Beginnings.{is-chain}
use Rattle.recovery.proofs.UnfinishedTables.{copies-begun, copies-finished, copies-piece_count, places-begun, places-copies, places-finished, places-revokes, revokes-begun, revokes-copies, revokes-finished, revokes-revokes}

-- the texts passed, and the next one's pieces as a text
abbrev pub texts_so : List Text → List Piece → List Text
texts_so texts pieces = texts ++ unfinished pieces ∷ []

-- the tables of what stands before the cursor
pub record Gathers (s : Super) (limit : ℕ) (image : Image) (cursor : Cursor) (transactions copies : ℕ) (tables : TablesValue) : Type 0 where
  pub texts : List Text
  pub pieces : List Piece
  pub passed : IsPassed s limit image texts pieces cursor
  pub whole : cursor.transactions ≡ transactions → pieces ≡ []
  pub tables_are : tables ≡ tables_of s.s_sequence (texts_so texts pieces)
  pub count : copies ≡ length (copies_of (texts_so texts pieces))

-- at first the tables are empty
pub gathers-none : (s : Super) (limit : ℕ) (image : Image) (transactions : ℕ) → Gathers s limit image (record { position = 0; transactions = 0 }) transactions 0 empty_tables
gathers-none s limit image transactions = record {
  texts = [];
  pieces = [];
  passed = passed-none s limit image;
  whole = λ same. refl;
  tables_are = refl;
  count = refl;
}

-- tables with equal parts are equal
tables-join : (r : TablesValue) (first : ℕ) (texts : List Text) → r.revokes ≡ (tables_of first texts).revokes → r.copies ≡ (tables_of first texts).copies →
    r ≡ tables_of first texts
tables-join r first texts revokes copies = ap₂ (λ x y. let t : TablesValue = record { revokes = x; copies = y } in t) revokes copies

-- the notes of tags are those of their copies
notes-tagged : (p : ℕ) (tags : List Tag) (block : List ℕ) (copies : List (List ℕ)) → length copies ≡ length tags →
    tag_notes p tags ≡ copy_notes p (piece_copies (Copies block tags copies))
notes-tagged p [] block [] same = refl
notes-tagged p [] block (c ∷ copies) same = absurd (omega arith)
notes-tagged p (t ∷ tags) block [] same = absurd (omega arith)
notes-tagged p (t ∷ tags) block (c ∷ copies) same =
    let rest : length copies ≡ length tags = omega arith in
    ap (λ (ns : List (ℕ × ℕ)). (t.block, p) ∷ ns) (notes-tagged (suc p) tags block copies rest)

-- as many copies as tags
pub count-tagged : (tags : List Tag) (block : List ℕ) (copies : List (List ℕ)) → length copies ≡ length tags → length (piece_copies (Copies block tags copies)) ≡ length tags
count-tagged [] block [] same = refl
count-tagged [] block (c ∷ copies) same = absurd (omega arith)
count-tagged (t ∷ tags) block [] same = absurd (omega arith)
count-tagged (t ∷ tags) block (c ∷ copies) same = let rest : length copies ≡ length tags = omega arith in ap suc (count-tagged tags block copies rest)

module _ (s : Super) (limit : ℕ) (image : Image) (old new : Cursor) (transactions copies : ℕ) (tables : TablesValue) (so : Gathers s limit image old transactions copies tables) where
  -- the cursor counts the texts passed
  counted : old.transactions ≡ length so.texts
  counted = passed-count s limit image so.texts so.pieces old so.passed

  -- a revoke block adds its revokes
  pub gathers-revokes : (numbers : List ℕ) (tid : ℕ) → tid ≡ s.s_sequence + old.transactions → old.transactions < transactions → new.transactions ≡ old.transactions →
      RevokesPassed s limit image so.texts so.pieces numbers new → Gathers s limit image new transactions copies (with_revokes tables tid numbers)
  gathers-revokes numbers tid number below stays passed = record {
    texts = so.texts;
    pieces = so.pieces ++ Revokes passed.block numbers ∷ [];
    passed = passed.passed;
    whole = λ all. absurd (omega arith);
    tables_are =
        tables-join (with_revokes tables tid numbers) s.s_sequence (texts_so so.texts (so.pieces ++ Revokes passed.block numbers ∷ []))
        (ap (λ (t : TablesValue). noted_all t.revokes (notes_of tid numbers)) so.tables_are
        ∙ ap (λ (n : ℕ). noted_all (tables_of s.s_sequence (texts_so so.texts so.pieces)).revokes (notes_of n numbers)) (number ∙ ap (λ (n : ℕ). s.s_sequence + n) counted)
        ∙ sym (revokes-revokes s.s_sequence so.texts so.pieces passed.block numbers))
        (ap (λ (t : TablesValue). t.copies) so.tables_are ∙ sym (places-revokes so.texts so.pieces passed.block numbers));
    count = so.count ∙ (let more = copies-piece_count so.texts so.pieces (Revokes passed.block numbers) in omega arith);
  }

  -- a descriptor adds its copies
  pub gathers-copies : (tags : List Tag) (n : ℕ) → n ≡ length tags → old.transactions < transactions → new.transactions ≡ old.transactions →
      CopiesPassed s limit image so.texts so.pieces tags old.position n new → Gathers s limit image new transactions (copies + n) (with_copies tables copies tags)
  gathers-copies tags n size below stays passed =
      let same : length passed.copies ≡ length tags = passed.stand.count ∙ size in
      record {
        texts = so.texts;
        pieces = so.pieces ++ Copies passed.block tags passed.copies ∷ [];
        passed = passed.passed;
        whole = λ all. absurd (omega arith);
        tables_are =
            tables-join (with_copies tables copies tags) s.s_sequence (texts_so so.texts (so.pieces ++ Copies passed.block tags passed.copies ∷ []))
            (ap (λ (t : TablesValue). t.revokes) so.tables_are ∙ sym (revokes-copies s.s_sequence so.texts so.pieces passed.block tags passed.copies))
            (ap (λ (t : TablesValue). placed_all t.copies (tag_notes copies tags)) so.tables_are
            ∙ ap (placed_all (tables_of s.s_sequence (texts_so so.texts so.pieces)).copies)
            (ap (λ (p : ℕ). tag_notes p tags) so.count ∙ notes-tagged (length (copies_of (texts_so so.texts so.pieces))) tags passed.block passed.copies same)
            ∙ sym (places-copies so.texts so.pieces passed.block tags passed.copies));
        count =
            let more = copies-piece_count so.texts so.pieces (Copies passed.block tags passed.copies) in
            let many = count-tagged tags passed.block passed.copies same in
            let before = so.count in
            omega arith;
      }

  -- a commit block adds nothing
  pub gathers-commit : CommitPassed s limit image so.texts so.pieces new → Gathers s limit image new transactions copies tables
  gathers-commit passed =
      let done : Text = record { pieces = so.pieces; commit = passed.commit } in
      record {
        texts = so.texts ++ done ∷ [];
        pieces = [];
        passed = passed.passed;
        whole = λ all. refl;
        tables_are =
            so.tables_are
            ∙ ap₂ (λ x y. let t : TablesValue = record { revokes = x; copies = y } in t)
            (sym (revokes-begun s.s_sequence (so.texts ++ done ∷ []) ∙ revokes-finished s.s_sequence so.texts done))
            (sym (places-begun (so.texts ++ done ∷ []) ∙ places-finished so.texts done));
        count = so.count ∙ ap length (sym (copies-begun (so.texts ++ done ∷ []) ∙ copies-finished so.texts done));
      }

  module _ (chain : List Text) (are : IsChainOf s limit image chain) (all : transactions ≡ length chain) where
    -- at the end the tables are the chain's
    pub gathers-all : old.transactions ≡ transactions → tables ≡ tables_of s.s_sequence chain
    gathers-all end =
        let texts : chain ≡ so.texts =
        is-chain (layout_of s) limit s.s_sequence (omega arith) (lap (ring_of s) image s.s_start) so.texts so.pieces old.transactions old.position so.passed chain are.begins
        (end ∙ all) in
        let none : so.pieces ≡ [] = so.whole end in
        so.tables_are ∙ ap (λ (ps : List Piece). tables_of s.s_sequence (texts_so so.texts ps)) none
        ∙ ap₂ (λ x y. let t : TablesValue = record { revokes = x; copies = y } in t) (revokes-begun s.s_sequence so.texts) (places-begun so.texts)
        ∙ ap (tables_of s.s_sequence) (sym texts)

    -- the chain does not end before
    pub no-end : old.transactions < transactions → IsChainOf s limit image so.texts → ⊥
    no-end below others =
        let same : so.texts ≡ chain =
        one_chain_of (layout_of s) limit (omega arith) s.s_sequence (lap (ring_of s) image s.s_start) so.texts chain others are in
        let sizes = ap length same in
        let count = counted in
        omega arith

-- where a step leads on a device that stays
pub led-on : (s : Super) (limit : ℕ) (old mid : DeviceState) (f : FinderValue) (from to : Cursor) (found : Found) → Stays old mid → (texts : List Text) (pieces : List Piece) →
    IsPassed s limit (reading old.disk) texts pieces from →
    ((ts : List Text) (ps : List Piece) → IsPassed s limit (reading mid.disk) ts ps from → LeadsTo s limit (reading mid.disk) ts ps f from to found) →
    LeadsTo s limit (reading old.disk) texts pieces f from to found
led-on s limit old mid f from to found stays texts pieces passed step =
    subst (λ (d : Disk). (ts : List Text) (ps : List Piece) → IsPassed s limit (reading d) ts ps from → LeadsTo s limit (reading d) ts ps f from to found) stays.disk step
    texts pieces passed

-- before its end, a step on correct reads finds a piece or a commit block
pub led-nowhere : (s : Super) (limit : ℕ) (image : Image) (f : FinderValue) (old new : Cursor) (found : Found) (transactions copies : ℕ) (tables : TablesValue)
    (so : Gathers s limit image old transactions copies tables) → (found ≡ Malformed) ⊎ (found ≡ Nothing) → LeadsTo s limit image so.texts so.pieces f old new found →
    (chain : List Text) → IsChainOf s limit image chain → transactions ≡ length chain → old.transactions < transactions → ⊥
led-nowhere s limit image f old new found transactions copies tables so (inl is) leads chain are all below =
    no-end s limit image old new transactions copies tables so chain are all below (subst (LeadsTo s limit image so.texts so.pieces f old new) is leads).0
led-nowhere s limit image f old new found transactions copies tables so (inr is) leads chain are all below =
    no-end s limit image old new transactions copies tables so chain are all below (subst (LeadsTo s limit image so.texts so.pieces f old new) is leads).chain
