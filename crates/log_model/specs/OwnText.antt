-- Which text this journal's writer makes of a transaction.
-- Source: this project's own order within what journal.rst allows: revoke blocks, then descriptors with their
-- copies, in the order of the entries.
use Rattle.std.specs.Prelude.{ℕ, ◌+◌, ◌-◌, ◌*◌, ◌/◌, Bool, true, false, not, List, [], ◌∷◌, ◌++◌, length, take, drop, map}
use Rattle.std.specs.List.{range_with_len}
use Rattle.journal_model.specs.declared.entry.Entry.{Entry}
use Rattle.log_model.specs.declared.log.Tag.{Tag}
use Rattle.log_model.specs.declared.log.Piece.{Piece}
use Rattle.log_model.specs.declared.log.Piece.TheVariants.{Revokes, Copies}
use Rattle.log_model.specs.declared.log.Text.{Text}
use Rattle.journal_model.specs.Transaction.{copied, revoked}
use Rattle.journal_model.specs.Layout.{Layout, header, commit_type, begins_with_magic, tags_of, numbers_of, padded}
use Rattle.log_model.specs.Descriptor.{descriptor_block}
use Rattle.log_model.specs.RevokeBlock.{revoke_block}
use Rattle.log_model.specs.Escape.{escaped}

abbrev pub ceil_div : ℕ → ℕ → ℕ
ceil_div a b = (a + b - 1) / b

-- xs in groups of n; the last has the rest
unfoldable pub groups : {X : Type 0} → ℕ → List X → List (List X)
groups n xs = map (λ k. take n (drop (n * k) xs)) (range_with_len 0 (ceil_div (length xs) n))

abbrev pub is_empty : {X : Type 0} → List X → Bool
is_empty [] = true
is_empty (x ∷ xs) = false

-- the tags of a descriptor: the first has the journal's UUID, the last the last flag
abbrev pub tags_from : Bool → List (ℕ × List ℕ) → List Tag
tags_from first [] = []
tags_from first (c ∷ cs) =
    record { block = c.0; escaped = begins_with_magic c.1; same_uuid = not first; last = is_empty cs } ∷ tags_from false cs

abbrev pub own_revokes : Layout → ℕ → List ℕ → Piece
own_revokes l sequence numbers = Revokes (revoke_block l sequence numbers) numbers

abbrev pub own_copies : Layout → List ℕ → ℕ → List (ℕ × List ℕ) → Piece
own_copies l uuid sequence copies =
    Copies (descriptor_block l uuid sequence (tags_from true copies)) (tags_from true copies) (map (λ c. escaped c.1) copies)

unfoldable pub commit_block : Layout → ℕ → List ℕ
commit_block l sequence = padded l.block_size (header commit_type sequence)

unfoldable pub own_text : Layout → List ℕ → ℕ → List (ℕ × Entry) → Text
own_text l uuid sequence entries =
    record {
      pieces =
          map (own_revokes l sequence) (groups (numbers_of l) (revoked entries))
          ++ map (own_copies l uuid sequence) (groups (tags_of l) (copied entries));
      commit = commit_block l sequence;
    }
