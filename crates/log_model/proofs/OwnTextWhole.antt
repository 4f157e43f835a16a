-- The own text is a text, says its entries, and has the needed blocks.
use Rattle.std.proofs.Common.{ap, ap₂, sym, subst, ◌∙◌, arith, append-nil, length-append}
use Rattle.std.specs.Prelude.{◌≡◌, ℕ, ◌^◌, ◌<◌, ◌≤◌, List, [], ◌∷◌, ◌++◌, length, map, All, ⊤}
use Rattle.std.specs.List.{AllByRecursion, flat_map}
use Rattle.std.proofs.lemmas.List.Concat.{flat_map-append}
use Rattle.std.proofs.lemmas.List.Elements.{All-from_recursion}
use Rattle.journal_model.specs.declared.entry.Entry.{Entry}
use Rattle.log_model.specs.declared.log.Piece.{Piece}
use Rattle.journal_model.specs.Layout.{Layout, IsLayout, commit_type, every_number, header, numbers_of, padded, tags_of, uuid_bytes}
use Rattle.journal_model.specs.Transaction.{copied, revoked}
use Rattle.log_model.specs.OwnText.{commit_block, groups, own_copies, own_revokes, own_text}
use Rattle.log_model.specs.Room.{need}
use Rattle.log_model.specs.Text.{IsCommitBlock, IsPiece, IsText, piece_blocks, piece_copies, piece_revokes, text_blocks, text_copies, text_revokes}
use Rattle.log_model.proofs.OwnTextBlocks.{copies_are}
use Rattle.journal_model.proofs.ListElements.{each-append, each-map}
use Rattle.log_model.proofs.OwnTextEntries.{copied_below, revoked_below}
use Rattle.log_model.proofs.OwnTextGroups.{groups_are, groups_joined, length-groups}
use Rattle.log_model.proofs.OwnTextHeader.{header_read, length-padded, measures, numbers_of-positive, tags_of-positive}
use Rattle.log_model.proofs.OwnTextPieces.{copies_revoke_nothing, copies_say_copies, copies_sized, length_copies, length_revokes, revokes_copy_nothing, revokes_say_numbers, revokes_sized}
use Rattle.log_model.proofs.OwnTextRevokes.{revoke_block_is}

-- the revoke blocks of the own text, and its descriptors with their copies
abbrev revoke_pieces : Layout → ℕ → List (ℕ × Entry) → List Piece
revoke_pieces l sequence entries = map (own_revokes l sequence) (groups (numbers_of l) (revoked entries))

abbrev copy_pieces : Layout → List ℕ → ℕ → List (ℕ × Entry) → List Piece
copy_pieces l uuid sequence entries = map (own_copies l uuid sequence) (groups (tags_of l) (copied entries))

-- the commit block is one
commit_block_is : (l : Layout) (sequence : ℕ) → sequence < 2 ^ 32 → IsCommitBlock sequence (commit_block l sequence)
unfolding commit_block padded
commit_block_is l sequence small = header_read commit_type sequence _ (omega arith) small

-- the commit block has the block size
length-commit_block : (l : Layout) (sequence : ℕ) → IsLayout l → length (commit_block l sequence) ≡ l.block_size
unfolding commit_block
length-commit_block l sequence layout = length-padded l.block_size (header commit_type sequence) (omega (arith, (measures l layout).room))

-- the revoke blocks of the own text are well formed
revoke_pieces_are : (l : Layout) (count sequence : ℕ) (entries : List (ℕ × Entry)) →
    IsLayout l → count ≤ every_number l → sequence < 2 ^ 32 → All (λ p. p.0 < count) entries →
    AllByRecursion (IsPiece l count sequence) (revoke_pieces l sequence entries)
revoke_pieces_are l count sequence entries layout spells small below =
    let positive : 0 < numbers_of l = numbers_of-positive l (measures l layout) in
    let each = groups_are (λ b. b < count) (numbers_of l) (revoked entries) positive (revoked_below count entries below) in
    each-map _ (IsPiece l count sequence) (own_revokes l sequence) (λ g group. revoke_block_is l count sequence g layout spells small group) _ each

-- the descriptors of the own text and their copies are well formed
copy_pieces_are : (l : Layout) (uuid : List ℕ) (count sequence : ℕ) (entries : List (ℕ × Entry)) →
    IsLayout l → length uuid ≡ uuid_bytes → count ≤ every_number l → sequence < 2 ^ 32 → All (λ p. p.0 < count) entries →
    AllByRecursion (IsPiece l count sequence) (copy_pieces l uuid sequence entries)
copy_pieces_are l uuid count sequence entries layout size spells small below =
    let positive : 0 < tags_of l = tags_of-positive l (measures l layout) in
    let each = groups_are (λ c. c.0 < count) (tags_of l) (copied entries) positive (copied_below count entries below) in
    each-map _ (IsPiece l count sequence) (own_copies l uuid sequence) (λ g group. copies_are l uuid count sequence g layout size spells small group) _ each

-- the own text is a text of its sequence and the home area
pub own_text_is : (l : Layout) (uuid : List ℕ) (count sequence : ℕ) (entries : List (ℕ × Entry)) →
    IsLayout l → length uuid ≡ uuid_bytes → count ≤ every_number l → sequence < 2 ^ 32 → All (λ p. p.0 < count) entries →
    IsText l count sequence (own_text l uuid sequence entries)
unfolding own_text
own_text_is l uuid count sequence entries layout size spells small below =
    let revokes = revoke_pieces_are l count sequence entries layout spells small below in
    let copies = copy_pieces_are l uuid count sequence entries layout size spells small below in
    record {
      pieces = each-append (IsPiece l count sequence) (revoke_pieces l sequence entries) (copy_pieces l uuid sequence entries) revokes copies;
      commit = commit_block_is l sequence small;
    }

-- its copies are those among the entries
pub own_text_copies : (l : Layout) (uuid : List ℕ) (sequence : ℕ) (entries : List (ℕ × Entry)) →
    IsLayout l →
    text_copies (own_text l uuid sequence entries) ≡ copied entries
unfolding own_text
own_text_copies l uuid sequence entries layout =
    flat_map-append piece_copies (revoke_pieces l sequence entries) (copy_pieces l uuid sequence entries)
    ∙ ap (λ cs. cs ++ flat_map piece_copies (copy_pieces l uuid sequence entries))
    (revokes_copy_nothing l sequence (groups (numbers_of l) (revoked entries)))
    ∙ copies_say_copies l uuid sequence (groups (tags_of l) (copied entries))
    ∙ groups_joined (tags_of l) (copied entries) (tags_of-positive l (measures l layout))

-- the blocks that it revokes are those among the entries
pub own_text_revokes : (l : Layout) (uuid : List ℕ) (sequence : ℕ) (entries : List (ℕ × Entry)) →
    IsLayout l →
    text_revokes (own_text l uuid sequence entries) ≡ revoked entries
unfolding own_text
own_text_revokes l uuid sequence entries layout =
    flat_map-append piece_revokes (revoke_pieces l sequence entries) (copy_pieces l uuid sequence entries)
    ∙ ap₂ (λ ms ns. ms ++ ns) (revokes_say_numbers l sequence (groups (numbers_of l) (revoked entries)))
    (copies_revoke_nothing l uuid sequence (groups (tags_of l) (copied entries)))
    ∙ append-nil (flat_map (λ g. g) (groups (numbers_of l) (revoked entries)))
    ∙ groups_joined (numbers_of l) (revoked entries) (numbers_of-positive l (measures l layout))

-- it has as many blocks as `need` gives
pub length_own_text : (l : Layout) (uuid : List ℕ) (sequence : ℕ) (entries : List (ℕ × Entry)) →
    IsLayout l →
    length (text_blocks (own_text l uuid sequence entries)) ≡ need l (length (copied entries)) (length (revoked entries))
unfolding own_text
length_own_text l uuid sequence entries layout =
    let revokes : List (List ℕ) = flat_map piece_blocks (revoke_pieces l sequence entries) in
    let copies : List (List ℕ) = flat_map piece_blocks (copy_pieces l uuid sequence entries) in
    let split = flat_map-append piece_blocks (revoke_pieces l sequence entries) (copy_pieces l uuid sequence entries) in
    let joined = groups_joined (tags_of l) (copied entries) (tags_of-positive l (measures l layout)) in
    ap (λ blocks. length (blocks ++ commit_block l sequence ∷ [])) split
    ∙ omega (
      arith,
      length-append (revokes ++ copies) (commit_block l sequence ∷ []),
      length-append revokes copies,
      length_revokes l sequence (groups (numbers_of l) (revoked entries)),
      length-groups (numbers_of l) (revoked entries),
      length_copies l uuid sequence (groups (tags_of l) (copied entries)),
      length-groups (tags_of l) (copied entries),
      ap length joined,
    )

-- a block has the block size
abbrev HasSize : Layout → List ℕ → Type 0
HasSize l block = length block ≡ l.block_size

-- the revoke blocks of the own text have the block size
revoke_pieces_sized : (l : Layout) (sequence : ℕ) (entries : List (ℕ × Entry)) →
    IsLayout l → AllByRecursion (HasSize l) (flat_map piece_blocks (revoke_pieces l sequence entries))
revoke_pieces_sized l sequence entries layout =
    let positive : 0 < numbers_of l = numbers_of-positive l (measures l layout) in
    let each = groups_are (λ b. ⊤) (numbers_of l) (revoked entries) positive (λ k d h. tt) in
    revokes_sized l sequence (λ b. ⊤) (groups (numbers_of l) (revoked entries)) layout each

-- its descriptors and copies have it, if each copy among the entries has
copy_pieces_sized : (l : Layout) (uuid : List ℕ) (sequence : ℕ) (entries : List (ℕ × Entry)) →
    IsLayout l → length uuid ≡ uuid_bytes → All (λ c. HasSize l c.1) (copied entries) →
    AllByRecursion (HasSize l) (flat_map piece_blocks (copy_pieces l uuid sequence entries))
copy_pieces_sized l uuid sequence entries layout size sized =
    let positive : 0 < tags_of l = tags_of-positive l (measures l layout) in
    let each = groups_are (λ c. HasSize l c.1) (tags_of l) (copied entries) positive sized in
    copies_sized l uuid sequence (groups (tags_of l) (copied entries)) layout size each

-- each block of the own text has the block size, if each copy has
pub own_text_sized : (l : Layout) (uuid : List ℕ) (sequence : ℕ) (entries : List (ℕ × Entry)) →
    IsLayout l → length uuid ≡ uuid_bytes → All (λ c. HasSize l c.1) (copied entries) →
    All (HasSize l) (text_blocks (own_text l uuid sequence entries))
unfolding own_text
own_text_sized l uuid sequence entries layout size sized =
    let revokes : List (List ℕ) = flat_map piece_blocks (revoke_pieces l sequence entries) in
    let copies : List (List ℕ) = flat_map piece_blocks (copy_pieces l uuid sequence entries) in
    let split = flat_map-append piece_blocks (revoke_pieces l sequence entries) (copy_pieces l uuid sequence entries) in
    let revokes_have = revoke_pieces_sized l sequence entries layout in
    let copies_have = copy_pieces_sized l uuid sequence entries layout size sized in
    let both_have = each-append (HasSize l) revokes copies revokes_have copies_have in
    let each = each-append (HasSize l) (revokes ++ copies) (commit_block l sequence ∷ []) both_have (length-commit_block l sequence layout, tt) in
    All-from_recursion (HasSize l) _ (subst (λ blocks. AllByRecursion (HasSize l) (blocks ++ commit_block l sequence ∷ [])) (sym split) each)
