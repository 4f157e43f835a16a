-- What commands print about an opening.
use Rattle.std.specs.Prelude.{ℕ, nat_lt, not, if◌then◌else◌, Bool, true, false, List, [], ◌∷◌, ◌++◌, Option, Some, None, codes}
use Rattle.std.specs.Fmt.{decimal}
use Rattle.log_model.specs.Dump.{newline}
use Rattle.log_model.specs.Opening.{greatest_number}

-- an opening's line: the next number and, if the log was not clean, the end of its chain and its number of transactions
abbrev pub opened_line : (clean : Bool) → (ends_at transactions next : ℕ) → List ℕ
opened_line true ends_at transactions next = codes "clean next=" ++ decimal next ++ newline ∷ []
opened_line false ends_at transactions next =
    codes "recovered end=" ++ decimal ends_at ++ codes " next=" ++ decimal next ++ codes " transactions=" ++ decimal transactions ++ newline ∷ []

-- the next number, or that none is left: an opening that wrote the number into the log leaves the number after it to the next one
abbrev pub next_left : (written : Bool) → (next : ℕ) → List ℕ
next_left true next = if nat_lt next greatest_number then decimal next else codes "none"
next_left false next = decimal next

-- the line of an opening whose log stays for a later one; `written`: it wrote the number into the log
abbrev pub left_line : (clean written : Bool) → (ends_at transactions next : ℕ) → List ℕ
left_line true written ends_at transactions next = codes "clean next=" ++ next_left written next ++ newline ∷ []
left_line false written ends_at transactions next =
    codes "recovered end=" ++ decimal ends_at ++ codes " next=" ++ next_left written next ++ codes " transactions=" ++ decimal transactions ++ newline ∷ []

-- the line of an opening that leaves no number
abbrev pub none_line : (clean : Bool) → (ends_at transactions : ℕ) → List ℕ
none_line true ends_at transactions = codes "clean next=none" ++ newline ∷ []
none_line false ends_at transactions =
    codes "recovered end=" ++ decimal ends_at ++ codes " next=none transactions=" ++ decimal transactions ++ newline ∷ []

-- the line of `recover`, which writes the number if the log was not clean
abbrev pub recovered_line : (clean : Bool) → (ends_at transactions next : ℕ) → List ℕ
recovered_line true ends_at transactions next = left_line true false ends_at transactions next
recovered_line false ends_at transactions next = left_line false true ends_at transactions next

-- the next number, if one is left
abbrev pub number_left : (written : Bool) → (next : ℕ) → Option ℕ
number_left true next = if nat_lt next greatest_number then Some next else None
number_left false next = Some next

-- its value in JSON
abbrev pub value_text : Option ℕ → List ℕ
value_text (Some next) = decimal next
value_text None = codes "null"

-- the beginning of an opening's object: the members that its line has
abbrev pub found_members : (found : List ℕ) → (clean : Bool) → (ends_at transactions : ℕ) → (next : Option ℕ) → List ℕ
found_members found true ends_at transactions next = codes "{\"outcome\":\"clean\",\"next\":" ++ value_text next
found_members found false ends_at transactions next =
    codes "{\"outcome\":\"" ++ found ++ codes "\",\"end\":" ++ decimal ends_at ++ codes ",\"next\":" ++ value_text next ++ codes ",\"transactions\":" ++ decimal transactions

-- the object of `recover`
abbrev pub recovered_object : (clean : Bool) → (ends_at transactions next : ℕ) → List ℕ
recovered_object clean ends_at transactions next =
    found_members (codes "recovered") clean ends_at transactions (number_left (not clean) next) ++ codes "}" ++ newline ∷ []

-- what `recover` prints, as an object or as a line
abbrev pub recovered_text : (json clean : Bool) → (ends_at transactions next : ℕ) → List ℕ
recovered_text true clean ends_at transactions next = recovered_object clean ends_at transactions next
recovered_text false clean ends_at transactions next = recovered_line clean ends_at transactions next
