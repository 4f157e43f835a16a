-- The pieces of the own text: what they say, and that their blocks have the block size.
use Rattle.std.proofs.Common.{refl, ap, ap₂, ◌∙◌, arith, length-append}
use Rattle.std.specs.Prelude.{◌≡◌, true, ℕ, suc, ◌+◌, ◌≤◌, List, [], ◌∷◌, ◌++◌, length, map, All}
use Rattle.std.specs.List.{AllByRecursion, flat_map}
use Rattle.std.proofs.lemmas.List.{length-map}
use Rattle.std.proofs.lemmas.List.Elements.{All-head, All-tail}
use Rattle.journal_model.specs.Layout.{Layout, IsLayout, numbers_of, tags_of, uuid_bytes}
use Rattle.log_model.specs.Escape.{escaped}
use Rattle.log_model.specs.OwnText.{own_copies, own_revokes}
use Rattle.log_model.specs.Text.{piece_blocks, piece_copies, piece_revokes}
use Rattle.log_model.proofs.OwnTextBlocks.{copies_said, length-descriptor_block}
use Rattle.journal_model.proofs.ListElements.{each-append}
use Rattle.log_model.proofs.OwnTextEscapes.{length-escaped}
use Rattle.log_model.proofs.OwnTextGroups.{IsGroup}
use Rattle.log_model.proofs.OwnTextRevokes.{length-revoke_block}

-- descriptors say the copies of their groups
pub copies_say_copies : (l : Layout) (uuid : List ℕ) (sequence : ℕ) (groups : List (List (ℕ × List ℕ))) →
    flat_map piece_copies (map (own_copies l uuid sequence) groups) ≡ flat_map (λ g. g) groups
copies_say_copies l uuid sequence [] = refl
copies_say_copies l uuid sequence (g ∷ gs) = ap₂ (λ cs ds. cs ++ ds) (copies_said true g) (copies_say_copies l uuid sequence gs)

-- descriptors revoke nothing
pub copies_revoke_nothing : (l : Layout) (uuid : List ℕ) (sequence : ℕ) (groups : List (List (ℕ × List ℕ))) →
    flat_map piece_revokes (map (own_copies l uuid sequence) groups) ≡ []
copies_revoke_nothing l uuid sequence [] = refl
copies_revoke_nothing l uuid sequence (g ∷ gs) = copies_revoke_nothing l uuid sequence gs

-- revoke blocks revoke the numbers of their groups
pub revokes_say_numbers : (l : Layout) (sequence : ℕ) (groups : List (List ℕ)) →
    flat_map piece_revokes (map (own_revokes l sequence) groups) ≡ flat_map (λ g. g) groups
revokes_say_numbers l sequence [] = refl
revokes_say_numbers l sequence (g ∷ gs) = ap (λ ns. g ++ ns) (revokes_say_numbers l sequence gs)

-- revoke blocks have no copies
pub revokes_copy_nothing : (l : Layout) (sequence : ℕ) (groups : List (List ℕ)) →
    flat_map piece_copies (map (own_revokes l sequence) groups) ≡ []
revokes_copy_nothing l sequence [] = refl
revokes_copy_nothing l sequence (g ∷ gs) = revokes_copy_nothing l sequence gs

-- one block for each group of numbers
pub length_revokes : (l : Layout) (sequence : ℕ) (groups : List (List ℕ)) →
    length (flat_map piece_blocks (map (own_revokes l sequence) groups)) ≡ length groups
length_revokes l sequence [] = refl
length_revokes l sequence (g ∷ gs) = ap suc (length_revokes l sequence gs)

-- one block for each group of copies, and one for each copy
pub length_copies : (l : Layout) (uuid : List ℕ) (sequence : ℕ) (groups : List (List (ℕ × List ℕ))) →
    length (flat_map piece_blocks (map (own_copies l uuid sequence) groups)) ≡ length groups + length (flat_map (λ g. g) groups)
length_copies l uuid sequence [] = omega arith
length_copies l uuid sequence (g ∷ gs) =
    omega (
      arith,
      length-append (map (λ c. escaped c.1) g) (flat_map piece_blocks (map (own_copies l uuid sequence) gs)),
      length-map g (λ c. escaped c.1),
      length-append g (flat_map (λ h. h) gs),
      length_copies l uuid sequence gs,
    )

-- the escaped copies of a group have the block size
escaped_sized : (l : Layout) (copies : List (ℕ × List ℕ)) →
    4 ≤ l.block_size → All (λ c. length c.1 ≡ l.block_size) copies →
    AllByRecursion (λ b. length b ≡ l.block_size) (map (λ c. escaped c.1) copies)
escaped_sized l [] long sized = tt
escaped_sized l (c ∷ cs) long sized =
    let size : length c.1 ≡ l.block_size = All-head (λ d. length d.1 ≡ l.block_size) c cs sized in
    (length-escaped c.1 (omega arith) ∙ size, escaped_sized l cs long (All-tail (λ d. length d.1 ≡ l.block_size) c cs sized))

-- all blocks of revokes have the block size
pub revokes_sized : (l : Layout) (sequence : ℕ) (P : ℕ → Type 0) (groups : List (List ℕ)) →
    IsLayout l → AllByRecursion (IsGroup P (numbers_of l)) groups →
    AllByRecursion (λ b. length b ≡ l.block_size) (flat_map piece_blocks (map (own_revokes l sequence) groups))
revokes_sized l sequence P [] layout each = tt
revokes_sized l sequence P (g ∷ gs) layout each =
    (length-revoke_block l sequence g layout each.0.most, revokes_sized l sequence P gs layout each.1)

-- all descriptors and their copies have the block size
pub copies_sized : (l : Layout) (uuid : List ℕ) (sequence : ℕ) (groups : List (List (ℕ × List ℕ))) →
    IsLayout l → length uuid ≡ uuid_bytes → AllByRecursion (IsGroup (λ c. length c.1 ≡ l.block_size) (tags_of l)) groups →
    AllByRecursion (λ b. length b ≡ l.block_size) (flat_map piece_blocks (map (own_copies l uuid sequence) groups))
copies_sized l uuid sequence [] layout size each = tt
copies_sized l uuid sequence (g ∷ gs) layout size each =
    let copies = escaped_sized l g (omega arith) each.0.each in
    let others = copies_sized l uuid sequence gs layout size each.1 in
    (length-descriptor_block l uuid sequence g layout size each.0.most, each-append (λ b. length b ≡ l.block_size) _ _ copies others)
