-- Replay, piece by piece.
use Rattle.std.proofs.Common.{refl, sym, ◌∙◌, ap, ap₂, subst, arith, append_assoc, append-nil, inl, inr}
use Rattle.std.specs.Prelude.{◌≡◌, ◌⊎◌, ℕ, suc, ◌+◌, ◌<◌, ◌≤◌, List, [], ◌∷◌, ◌++◌, length, take}
use Rattle.std.specs.List.{flat_map}
use Rattle.std.proofs.lemmas.Grind.{flat_map-append}
use Rattle.log_model.proofs.ReadingTexts.{one_chain_of}
use Rattle.log_model.specs.declared.log.Piece.{Piece}
use Rattle.log_model.specs.declared.log.Piece.TheVariants.{Copies, Revokes}
use Rattle.log_model.specs.declared.log.Tag.{Tag}
use Rattle.log_model.specs.declared.log.Text.{Text}
use Rattle.log_model.specs.Chain.{lap}
use Rattle.journal_model.specs.Disk.{Disk, Image, reading}
use Rattle.log_model.specs.Opening.{layout_of, ring_of}
use Rattle.log_model.specs.Superblock.{Super}
use Rattle.log_model.specs.Text.{piece_copies, text_copies}
use Rattle.block_device.specs.State.{DeviceState, Stays}
use Rattle.journal_world.specs.Call.{Call}
use Rattle.log_scan.specs.declared.cursor.Cursor.{Cursor}
use Rattle.log_scan.specs.declared.finding.Found.{Found}
use Rattle.log_scan.specs.declared.finding.Found.TheVariants.{CommitBlock, Malformed, Nothing, RevokeBlock}
use Rattle.log_scan.specs.Finding.{FinderValue}
use Rattle.log_scan.specs.Passing.{CommitPassed, CopiesPassed, IsPassed, LeadsTo, RevokesPassed, StandAt, cursor_behind}
use Rattle.log_scan.specs.Scanning.{IsChainOf}
use Rattle.log_scan.proofs.ScanSteps.{passed-count, passed-none}
use Rattle.block_tables.specs.Copies.{copies_of}
use Rattle.recovery.specs.Calls.{HasBegun, HasMade, writes_home}
use Rattle.recovery.specs.Choice.{chosen, chosen_all, unfinished}
use Rattle.recovery.specs.Gather.{TablesValue, chosen_after, tables_of}
use Rattle.recovery.specs.HomeCopies.{home_copies}
use Rattle.recovery.proofs.Beginnings.{IsBeginning, begins-chain, is-chain}
use Rattle.recovery.proofs.ChoiceSteps.{chosen_all-append, chosen_all-push, chosen-append, chosen-push}
use Rattle.recovery.proofs.Choosing.{copies-count, home-chosen}
use Rattle.recovery.proofs.CopyRuns.{writes-append}
use Rattle.recovery.proofs.GatherRuns.{count-tagged, texts_so}
use Rattle.recovery.proofs.MadeCalls.{begun-front, begun-made, made-begun, made-joins, made-none, made-stays}
use Rattle.recovery.proofs.SameLogs.{leads-same, log-same, passed-same, stand-same}
use Rattle.recovery.proofs.UnfinishedTables.{copies-begun, copies-finished, copies-piece_count}

-- the copies of these texts and pieces that go home by the tables
abbrev pub chosen_so : TablesValue → ℕ → List Text → List Piece → List (ℕ × List ℕ)
chosen_so tables first texts pieces = chosen_all tables.revokes tables.copies first 0 (texts_so texts pieces)

-- how many copies these texts and pieces have
abbrev count_so : List Text → List Piece → ℕ
count_so texts pieces = length (copies_of (texts_so texts pieces))

module _ (tables : TablesValue) (first : ℕ) where
  -- the choice of texts, then of the pieces after them
  so-split : (texts : List Text) (pieces : List Piece) →
      chosen_so tables first texts pieces
      ≡ chosen_all tables.revokes tables.copies first 0 texts
      ++ chosen tables.revokes tables.copies (first + length texts) (0 + length (copies_of texts)) (text_copies (unfinished pieces))
  so-split texts pieces = chosen_all-push tables.revokes tables.copies first 0 texts (unfinished pieces)

  -- one more piece adds its choice
  pub so-piece : (texts : List Text) (pieces : List Piece) (piece : Piece) →
      chosen_so tables first texts (pieces ++ piece ∷ [])
      ≡ chosen_so tables first texts pieces
      ++ chosen tables.revokes tables.copies (first + length texts) (count_so texts pieces) (piece_copies piece)
  so-piece texts pieces piece =
      let at : (0 + length (copies_of texts)) + length (text_copies (unfinished pieces)) ≡ count_so texts pieces =
      let count = copies-count texts (unfinished pieces) in omega arith in
      so-split texts (pieces ++ piece ∷ [])
      ∙ ap (λ (cs : List (ℕ × List ℕ)). chosen_all tables.revokes tables.copies first 0 texts ++ cs)
      (chosen-push tables.revokes tables.copies (first + length texts) (0 + length (copies_of texts)) pieces piece)
      ∙ sym (append_assoc (chosen_all tables.revokes tables.copies first 0 texts)
      (chosen tables.revokes tables.copies (first + length texts) (0 + length (copies_of texts)) (text_copies (unfinished pieces)))
      (chosen tables.revokes tables.copies (first + length texts) ((0 + length (copies_of texts)) + length (text_copies (unfinished pieces))) (piece_copies piece)))
      ∙ ap₂ (λ (xs : List (ℕ × List ℕ)) (n : ℕ). xs ++ chosen tables.revokes tables.copies (first + length texts) n (piece_copies piece)) (sym (so-split texts pieces)) at

  -- the end of a transaction adds none
  pub so-commit : (texts : List Text) (pieces : List Piece) (commit : List ℕ) →
      (let done : Text = record { pieces = pieces; commit = commit } in chosen_so tables first (texts ++ done ∷ []) [] ≡ chosen_so tables first texts pieces)
  so-commit texts pieces commit =
      let done : Text = record { pieces = pieces; commit = commit } in
      so-split (texts ++ done ∷ []) [] ∙ append-nil (chosen_all tables.revokes tables.copies first 0 (texts ++ done ∷ []))
      ∙ chosen_all-push tables.revokes tables.copies first 0 texts done ∙ sym (so-split texts pieces)

  -- without pieces it is the texts' choice
  pub so-whole : (texts : List Text) → chosen_so tables first texts [] ≡ chosen_all tables.revokes tables.copies first 0 texts
  so-whole texts = so-split texts [] ∙ append-nil (chosen_all tables.revokes tables.copies first 0 texts)

  -- texts and pieces that begin a chain begin its choice
  so-beginning : (texts : List Text) (pieces : List Piece) (chain : List Text) → IsBeginning texts pieces chain →
      (rest : List (ℕ × List ℕ)) × (chosen_all tables.revokes tables.copies first 0 chain ≡ chosen_so tables first texts pieces ++ rest)
  so-beginning texts pieces chain is =
      let own : List (ℕ × List ℕ) = chosen_all tables.revokes tables.copies first 0 texts in
      let tid : ℕ = first + length texts in
      let at : ℕ = 0 + length (copies_of texts) in
      let front : List (ℕ × List ℕ) = chosen tables.revokes tables.copies tid at (text_copies (unfinished pieces)) in
      let more : List (ℕ × List ℕ) = chosen tables.revokes tables.copies tid (at + length (text_copies (unfinished pieces))) (text_copies (unfinished is.more)) in
      let others : List (ℕ × List ℕ) = chosen_all tables.revokes tables.copies (suc tid) (at + length (text_copies is.text)) is.rest in
      let split : text_copies is.text ≡ text_copies (unfinished pieces) ++ text_copies (unfinished is.more) =
      ap (λ (ps : List Piece). flat_map piece_copies ps) is.pieces_are ∙ flat_map-append piece_copies pieces is.more in (
        more ++ others,
        ap (chosen_all tables.revokes tables.copies first 0) is.split
            ∙ chosen_all-append tables.revokes tables.copies first 0 texts (is.text ∷ is.rest)
            ∙ ap (λ (cs : List (ℕ × List ℕ)). own ++ (chosen tables.revokes tables.copies tid at cs ++ others)) split
            ∙ ap (λ (cs : List (ℕ × List ℕ)). own ++ (cs ++ others)) (chosen-append tables.revokes tables.copies tid at (text_copies (unfinished pieces)) (text_copies (unfinished is.more)))
            ∙ ap (λ (cs : List (ℕ × List ℕ)). own ++ cs) (append_assoc front more others)
            ∙ sym (append_assoc own front (more ++ others))
            ∙ ap (λ (cs : List (ℕ × List ℕ)). cs ++ (more ++ others)) (sym (so-split texts pieces)),
      )

-- a chain's tables choose the copies that go home
pub chain-chosen : (tables : TablesValue) (first : ℕ) (chain : List Text) → tables ≡ tables_of first chain →
    chosen_all tables.revokes tables.copies first 0 chain ≡ home_copies chain
chain-chosen tables first chain is = ap (λ (t : TablesValue). chosen_all t.revokes t.copies first 0 chain) is ∙ home-chosen first chain

-- if writes of the first of them were begun, so were writes of all
chain-begun : (tables : TablesValue) (s : Super) (chain : List Text) → tables ≡ tables_of s.s_sequence chain → (front rest : List (ℕ × List ℕ)) →
    chosen_all tables.revokes tables.copies s.s_sequence 0 chain ≡ front ++ rest → (old new : DeviceState) → HasBegun (writes_home front) old new →
    HasBegun (writes_home (home_copies chain)) old new
chain-begun tables s chain is front rest split old new begun =
    subst (λ (calls : List Call). HasBegun calls old new)
    (sym (writes-append front rest) ∙ ap writes_home (sym split ∙ chain-chosen tables s.s_sequence chain is))
    (begun-front (writes_home front) (writes_home rest) old new begun)

-- what was written home of what stands before the cursor
pub record Replays (s : Super) (limit : ℕ) (image : Image) (cursor : Cursor) (transactions place : ℕ) (tables : TablesValue) (old new : DeviceState) : Type 0 where
  pub texts : List Text
  pub pieces : List Piece
  pub passed : IsPassed s limit image texts pieces cursor
  pub whole : cursor.transactions ≡ transactions → pieces ≡ []
  pub count : place ≡ length (copies_of (texts_so texts pieces))
  pub made : HasMade (writes_home (chosen_so tables s.s_sequence texts pieces)) old new

-- at first nothing was written
pub replays-none : (s : Super) (limit : ℕ) (image : Image) (transactions : ℕ) (tables : TablesValue) (old : DeviceState) →
    Replays s limit image (record { position = 0; transactions = 0 }) transactions 0 tables old old
replays-none s limit image transactions tables old = record {
  texts = [];
  pieces = [];
  passed = passed-none s limit image;
  whole = λ same. refl;
  count = refl;
  made = made-none old old (record { shape = refl; disk = refl; past = refl });
}

module _
    (s : Super) (limit : ℕ) (image : Image) (from to : Cursor) (transactions place : ℕ) (tables : TablesValue) (old mid : DeviceState)
    (so : Replays s limit image from transactions place tables old mid)
  where
    -- the cursor counts the texts passed
    counted : from.transactions ≡ length so.texts
    counted = passed-count s limit image so.texts so.pieces from so.passed

    -- a revoke block adds no write
    pub replays-revokes : (numbers : List ℕ) → from.transactions < transactions → to.transactions ≡ from.transactions → (new : DeviceState) → Stays mid new →
        RevokesPassed s limit image so.texts so.pieces numbers to → Replays s limit image to transactions place tables old new
    replays-revokes numbers below same new stays passed = record {
      texts = so.texts;
      pieces = so.pieces ++ Revokes passed.block numbers ∷ [];
      passed = passed.passed;
      whole = λ all. absurd (omega arith);
      count = so.count ∙ (let more = copies-piece_count so.texts so.pieces (Revokes passed.block numbers) in omega arith);
      made =
          subst (λ (cs : List (ℕ × List ℕ)). HasMade (writes_home cs) old new)
          (sym (so-piece tables s.s_sequence so.texts so.pieces (Revokes passed.block numbers) ∙ append-nil (chosen_so tables s.s_sequence so.texts so.pieces)))
          (made-stays (writes_home (chosen_so tables s.s_sequence so.texts so.pieces)) old mid new so.made stays);
    }

    -- nor does a commit block
    pub replays-commit : (new : DeviceState) → Stays mid new → CommitPassed s limit image so.texts so.pieces to → Replays s limit image to transactions place tables old new
    replays-commit new stays passed =
        let done : Text = record { pieces = so.pieces; commit = passed.commit } in
        record {
          texts = so.texts ++ done ∷ [];
          pieces = [];
          passed = passed.passed;
          whole = λ all. refl;
          count = so.count ∙ ap length (sym (copies-begun (so.texts ++ done ∷ []) ∙ copies-finished so.texts done));
          made =
              subst (λ (cs : List (ℕ × List ℕ)). HasMade (writes_home cs) old new) (sym (so-commit tables s.s_sequence so.texts so.pieces passed.commit))
              (made-stays (writes_home (chosen_so tables s.s_sequence so.texts so.pieces)) old mid new so.made stays);
        }

    module _ (tags : List Tag) (n tid : ℕ) (size : n ≡ length tags) (number : tid ≡ s.s_sequence + from.transactions) (passed : CopiesPassed s limit image so.texts so.pieces tags from.position n to) where
      -- a descriptor adds the writes of its chosen copies
      more-chosen : chosen_so tables s.s_sequence so.texts (so.pieces ++ Copies passed.block tags passed.copies ∷ [])
          ≡ chosen_so tables s.s_sequence so.texts so.pieces ++ chosen_after tables tid place tags passed.copies
      more-chosen =
          so-piece tables s.s_sequence so.texts so.pieces (Copies passed.block tags passed.copies)
          ∙ ap₂ (λ (t p : ℕ). chosen_so tables s.s_sequence so.texts so.pieces ++ chosen_after tables t p tags passed.copies)
          (sym (number ∙ ap (λ (k : ℕ). s.s_sequence + k) counted)) (sym so.count)

      more-calls : writes_home (chosen_so tables s.s_sequence so.texts (so.pieces ++ Copies passed.block tags passed.copies ∷ []))
          ≡ writes_home (chosen_so tables s.s_sequence so.texts so.pieces) ++ writes_home (chosen_after tables tid place tags passed.copies)
      more-calls = ap writes_home more-chosen ∙ writes-append (chosen_so tables s.s_sequence so.texts so.pieces) (chosen_after tables tid place tags passed.copies)

      pub replays-copies : from.transactions < transactions → to.transactions ≡ from.transactions → (next new : DeviceState) → Stays mid next →
          HasMade (writes_home (chosen_after tables tid place tags passed.copies)) next new → Replays s limit image to transactions (place + n) tables old new
      replays-copies below same next new stays made = record {
        texts = so.texts;
        pieces = so.pieces ++ Copies passed.block tags passed.copies ∷ [];
        passed = passed.passed;
        whole = λ all. absurd (omega arith);
        count =
            let more = copies-piece_count so.texts so.pieces (Copies passed.block tags passed.copies) in
            let many = count-tagged tags passed.block passed.copies (passed.stand.count ∙ size) in
            let before = so.count in
            omega arith;
        made =
            subst (λ (calls : List Call). HasMade calls old new) (sym more-calls)
            (made-joins (writes_home (chosen_so tables s.s_sequence so.texts so.pieces)) (writes_home (chosen_after tables tid place tags passed.copies)) old next new
            (made-stays (writes_home (chosen_so tables s.s_sequence so.texts so.pieces)) old mid next so.made stays) made);
      }

      -- a failure among them leaves writes begun
      pub replays-begun : (chain : List Text) → IsChainOf s limit image chain → transactions ≡ length chain → tables ≡ tables_of s.s_sequence chain →
          from.transactions < transactions → to.transactions ≡ from.transactions → (next new : DeviceState) → Stays mid next →
          HasBegun (writes_home (chosen_after tables tid place tags passed.copies)) next new → HasBegun (writes_home (home_copies chain)) old new
      replays-begun chain are all tables_are below same next new stays begun =
          let is = begins-chain (layout_of s) limit s.s_sequence (omega arith) (lap (ring_of s) image s.s_start) so.texts
          (so.pieces ++ Copies passed.block tags passed.copies ∷ []) to.transactions to.position passed.passed chain are.begins (omega arith) in
          let rest = so-beginning tables s.s_sequence so.texts (so.pieces ++ Copies passed.block tags passed.copies ∷ []) chain is in
          chain-begun tables s chain tables_are (chosen_so tables s.s_sequence so.texts (so.pieces ++ Copies passed.block tags passed.copies ∷ [])) rest.0 rest.1 old new
          (subst (λ (calls : List Call). HasBegun calls old new) (sym more-calls)
          (made-begun (writes_home (chosen_so tables s.s_sequence so.texts so.pieces)) (writes_home (chosen_after tables tid place tags passed.copies)) old next new
          (made-stays (writes_home (chosen_so tables s.s_sequence so.texts so.pieces)) old mid next so.made stays) begun))

    -- the chain does not end before
    pub ends-later : (chain : List Text) → IsChainOf s limit image chain → transactions ≡ length chain → from.transactions < transactions → IsChainOf s limit image so.texts → ⊥
    ends-later chain are all below others =
        let same : so.texts ≡ chain =
        one_chain_of (layout_of s) limit (omega arith) s.s_sequence (lap (ring_of s) image s.s_start) so.texts chain others are in
        let sizes = ap length same in
        let count = counted in
        omega arith

    module _ (chain : List Text) (are : IsChainOf s limit image chain) (all : transactions ≡ length chain) (tables_are : tables ≡ tables_of s.s_sequence chain) where
      -- so does a failed read
      pub replays-unread : from.transactions < transactions → (new : DeviceState) → Stays mid new → HasBegun (writes_home (home_copies chain)) old new
      replays-unread below new stays =
          let is = begins-chain (layout_of s) limit s.s_sequence (omega arith) (lap (ring_of s) image s.s_start) so.texts so.pieces from.transactions from.position so.passed
          chain are.begins (omega arith) in
          let rest = so-beginning tables s.s_sequence so.texts so.pieces chain is in
          chain-begun tables s chain tables_are (chosen_so tables s.s_sequence so.texts so.pieces) rest.0 rest.1 old new
          (begun-made (writes_home (chosen_so tables s.s_sequence so.texts so.pieces)) old new
          (made-stays (writes_home (chosen_so tables s.s_sequence so.texts so.pieces)) old mid new so.made stays))

      -- at the end all copies are home
      pub replays-all : from.transactions ≡ transactions → HasMade (writes_home (home_copies chain)) old mid
      replays-all end =
          let texts : chain ≡ so.texts =
          is-chain (layout_of s) limit s.s_sequence (omega arith) (lap (ring_of s) image s.s_start) so.texts so.pieces from.transactions from.position so.passed chain are.begins
          (end ∙ all) in
          subst (λ (cs : List (ℕ × List ℕ)). HasMade (writes_home cs) old mid)
          (ap (chosen_so tables s.s_sequence so.texts) (so.whole end) ∙ so-whole tables s.s_sequence so.texts
          ∙ ap (chosen_all tables.revokes tables.copies s.s_sequence 0) (sym texts) ∙ chain-chosen tables s.s_sequence chain tables_are) so.made

-- where a step leads after writes home, by the log before them
pub replay-led : (s : Super) (limit : ℕ) (from to : Cursor) (f : FinderValue) (found : Found) (transactions place : ℕ) (tables : TablesValue) (old mid : DeviceState)
    (so : Replays s limit (reading old.disk) from transactions place tables old mid) →
    ((ts : List Text) (ps : List Piece) → IsPassed s limit (reading mid.disk) ts ps from → LeadsTo s limit (reading mid.disk) ts ps f from to found) →
    LeadsTo s limit (reading old.disk) so.texts so.pieces f from to found
replay-led s limit from to f found transactions place tables old mid so step =
    let same = log-same (chosen_so tables s.s_sequence so.texts so.pieces) old mid so.made in
    leads-same s limit (reading old.disk) (reading mid.disk) same so.texts so.pieces f from to found
    (step so.texts so.pieces (passed-same s limit (reading mid.disk) (reading old.disk) (sym same) so.texts so.pieces from so.passed))

-- a descriptor's copies stand where they stood
pub replay-stand : (s : Super) (limit : ℕ) (from : Cursor) (transactions place : ℕ) (tables : TablesValue) (old mid next : DeviceState) (position n : ℕ) (copies : List (List ℕ)) →
    (so : Replays s limit (reading old.disk) from transactions place tables old mid) → Stays mid next → StandAt s (reading old.disk) position n copies →
    StandAt s (reading next.disk) position n copies
replay-stand s limit from transactions place tables old mid next position n copies so stays stand =
    let same = log-same (chosen_so tables s.s_sequence so.texts so.pieces) old mid so.made in
    subst (λ (d : Disk). StandAt s (reading d) position n copies) (sym stays.disk)
    (stand-same s limit (reading mid.disk) (reading old.disk) (sym same) position n copies stand)

module _ (s : Super) (limit : ℕ) (image : Image) (from to : Cursor) (f : FinderValue) (found : Found) (transactions place : ℕ) (tables : TablesValue) (old mid : DeviceState)
    (so : Replays s limit image from transactions place tables old mid) (leads : LeadsTo s limit image so.texts so.pieces f from to found)
  where
    -- a revoke or commit block leaves the writes
    pub replays-on : ((n : ℕ) × (found ≡ RevokeBlock n)) ⊎ (found ≡ CommitBlock) → to ≡ cursor_behind from found → from.transactions < transactions → (new : DeviceState) → Stays mid new →
        Replays s limit image to transactions place tables old new
    replays-on (inl (n, is)) moved below new stays =
        let at = rw is at moved in
        replays-revokes s limit image from to transactions place tables old mid so (take n f.numbers) below (ap (λ (c : Cursor). c.transactions) at) new stays
        (subst (LeadsTo s limit image so.texts so.pieces f from to) is leads)
    replays-on (inr is) moved below new stays =
        replays-commit s limit image from to transactions place tables old mid so new stays (subst (LeadsTo s limit image so.texts so.pieces f from to) is leads)

    -- the chain does not end there
    pub replays-nowhere : (chain : List Text) → IsChainOf s limit image chain → transactions ≡ length chain → from.transactions < transactions →
        (found ≡ Malformed) ⊎ (found ≡ Nothing) → ⊥
    replays-nowhere chain are all below (inl is) =
        ends-later s limit image from to transactions place tables old mid so chain are all below (subst (LeadsTo s limit image so.texts so.pieces f from to) is leads).0
    replays-nowhere chain are all below (inr is) =
        ends-later s limit image from to transactions place tables old mid so chain are all below (subst (LeadsTo s limit image so.texts so.pieces f from to) is leads).chain

-- the cursor moves on
pub on-farther : (from to : Cursor) (found : Found) → ((n : ℕ) × (found ≡ RevokeBlock n)) ⊎ (found ≡ CommitBlock) → to ≡ cursor_behind from found → from.position < to.position
on-farther from to found (inl (n, is)) moved = let at = ap (λ (c : Cursor). c.position) (rw is at moved) in omega arith
on-farther from to found (inr is) moved = let at = ap (λ (c : Cursor). c.position) (rw is at moved) in omega arith

-- and counts no more transactions than there are
pub on-below : (from to : Cursor) (found : Found) (transactions : ℕ) → ((n : ℕ) × (found ≡ RevokeBlock n)) ⊎ (found ≡ CommitBlock) → to ≡ cursor_behind from found →
    from.transactions < transactions → to.transactions ≤ transactions
on-below from to found transactions (inl (n, is)) moved below = let same = ap (λ (c : Cursor). c.transactions) (rw is at moved) in omega arith
on-below from to found transactions (inr is) moved below = let same = ap (λ (c : Cursor). c.transactions) (rw is at moved) in omega arith
