-- The lines of a dump, each with its place in front and a newline at the end.
use Rattle.std.specs.Prelude.{ℕ, ◌==◌, if◌then◌else◌, List, [], ◌∷◌, ◌++◌, map, codes}
use Rattle.std.specs.List.{flat_map, enumerate_from}
use Rattle.std.specs.Fmt.{decimal}
use Rattle.log_model.specs.declared.log.Tag.{Tag}
use Rattle.log_model.specs.declared.log.Piece.TheVariants.{Copies}
use Rattle.log_model.specs.Chain.{place_from}
use Rattle.log_model.specs.Dump.{blank, comma, copy_caption, newline, piece_captions}
use Rattle.log_model.specs.Opening.{ring_of}
use Rattle.log_model.specs.Superblock.{Super}

-- a line and its newline
abbrev pub ended : List ℕ → List ℕ
ended line = line ++ newline ∷ []

-- the line of a block with this caption at this place
abbrev pub placed_line : ℕ → List ℕ → List ℕ
placed_line place caption = decimal place ++ blank ∷ caption

-- the lines of blocks with these captions, from the lap's k-th on
abbrev pub placed_lines : Super → ℕ → List (List ℕ) → List ℕ
placed_lines s k captions =
    flat_map ended (map (λ c. placed_line (place_from (ring_of s) s.s_start c.0) c.1) (enumerate_from k captions))

-- a number of a list, after a comma unless it is the first
abbrev pub listed : ℕ → ℕ → List ℕ
listed i number = if i == 0 then decimal number else comma ∷ decimal number

-- the captions of a descriptor and its copies
abbrev pub tags_captions : ℕ → List Tag → List (List ℕ)
tags_captions sequence tags = piece_captions sequence (Copies [] tags [])

-- the captions of a descriptor with so many tags, and of the copies of these tags
abbrev pub copies_captions : ℕ → ℕ → List Tag → List (List ℕ)
copies_captions sequence count tags =
    (codes "descriptor " ++ decimal sequence ++ codes " tags=" ++ decimal count) ∷ map (copy_caption sequence) tags
