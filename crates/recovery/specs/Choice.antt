-- Which copies of a chain go home by its two tables, of revokes and of the newest copies' places.
-- Source: fs/jbd2/recovery.c and revoke.c by behaviour; the table of places is this project's own.
use Rattle.std.specs.Prelude.{ℕ, suc, ◌+◌, ◌==◌, ◌&&◌, not, nat_le, Bool, false, if◌then◌else◌, List, [], ◌∷◌, ◌++◌, length, Option, Some, None}
use Rattle.std.specs.FinMap.{get}
use Rattle.log_model.specs.declared.log.Piece.{Piece}
use Rattle.log_model.specs.declared.log.Text.{Text}
use Rattle.log_model.specs.Text.{text_copies}
use Rattle.block_tables.specs.Revokes.{BlockTable}

-- whether this place is the one noted
abbrev pub is_place : ℕ → Option ℕ → Bool
is_place place None = false
is_place place (Some noted) = noted == place

-- whether the revoke noted covers a copy of this transaction: its number is not below the transaction's
abbrev pub reaches : ℕ → Option ℕ → Bool
reaches tid None = false
reaches tid (Some number) = nat_le tid number

-- whether the copy of block b at this place goes home: it is the newest, and no revoke covers it
abbrev pub goes_by : BlockTable → BlockTable → ℕ → ℕ → ℕ → Bool
goes_by revokes places tid place b = is_place place (get places b) && not (reaches tid (get revokes b))

-- the copies of a transaction that go home; `place` is the first one's
abbrev pub chosen : BlockTable → BlockTable → ℕ → ℕ → List (ℕ × List ℕ) → List (ℕ × List ℕ)
chosen revokes places tid place [] = []
chosen revokes places tid place (copy ∷ copies) =
    if goes_by revokes places tid place copy.0
    then copy ∷ chosen revokes places tid (suc place) copies
    else chosen revokes places tid (suc place) copies

-- the same for several texts; `tid` is the first text's number
abbrev pub chosen_all : BlockTable → BlockTable → ℕ → ℕ → List Text → List (ℕ × List ℕ)
chosen_all revokes places tid place [] = []
chosen_all revokes places tid place (t ∷ ts) =
    chosen revokes places tid place (text_copies t) ++ chosen_all revokes places (suc tid) (place + length (text_copies t)) ts

-- a transaction of these pieces, whose commit block has not been reached
abbrev pub unfinished : List Piece → Text
unfinished pieces = record { pieces = pieces; commit = [] }
