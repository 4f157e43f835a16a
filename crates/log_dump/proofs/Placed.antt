-- The lines of blocks in order, and numbers with commas between them.
use Rattle.std.proofs.Common.{◌≡◌, ℕ, ◌+◌, ◌-◌, ◌<◌, ◌==◌, List, [], ◌∷◌, ◌++◌, length, map, take, get_or, refl, sym, ◌∙◌, ap, arith, append_assoc, append-nil, true, false}
use Rattle.std.specs.Prelude.{codes, if◌then◌else◌}
use Rattle.std.specs.Fmt.{decimal}
use Rattle.std.specs.List.{join_with_byte}
use Rattle.std.proofs.lemmas.Bool.Decides.{nat_tests}
use Rattle.std.proofs.lemmas.List.{length-map, length-take-le, map-append}
use Rattle.journal_model.proofs.ListElements.{take-more_read}
use Rattle.log_model.specs.declared.log.Tag.{Tag}
use Rattle.log_model.specs.Chain.{place_from}
use Rattle.log_model.specs.Dump.{comma, copy_caption}
use Rattle.log_model.specs.Opening.{ring_of}
use Rattle.log_model.specs.Superblock.{Super}
use Rattle.log_dump.specs.Lines.{copies_captions, ended, listed, placed_line, placed_lines}

-- one more text at the end of a list with commas
pub join-push : (i : ℕ) (xs : List (List ℕ)) (x : List ℕ) → i ≡ length xs →
    join_with_byte comma (xs ++ x ∷ []) ≡ join_with_byte comma xs ++ (if i == 0 then x else comma ∷ x)
join-push i [] x is = let first : (i == 0) ≡ true = grind (arith, nat_tests) in rw first refl
join-push i (y ∷ []) x is = let later : (i == 0) ≡ false = grind (arith, nat_tests) in rw later refl
join-push i (y ∷ z ∷ xs) x is =
    let later : (i == 0) ≡ false = grind (arith, nat_tests) in
    let also : ((i - 1) == 0) ≡ false = grind (arith, nat_tests) in
    let rest : join_with_byte comma ((z ∷ xs) ++ x ∷ []) ≡ join_with_byte comma (z ∷ xs) ++ (comma ∷ x) = rw also at (join-push (i - 1) (z ∷ xs) x (omega arith)) in
    rw later
    (ap (λ (text : List ℕ). y ++ comma ∷ text) rest
    ∙ sym (append_assoc y (comma ∷ join_with_byte comma (z ∷ xs)) (comma ∷ x)))

-- the lines of joined blocks are the first ones' lines, then the others'
pub placed-append : (s : Super) (k : ℕ) (xs ys : List (List ℕ)) →
    placed_lines s k (xs ++ ys) ≡ placed_lines s k xs ++ placed_lines s (k + length xs) ys
placed-append s k [] ys = ap (λ (n : ℕ). placed_lines s n ys) (omega arith)
placed-append s k (x ∷ xs) ys =
    let line : List ℕ = ended (placed_line (place_from (ring_of s) s.s_start k) x) in
    ap (λ (text : List ℕ). line ++ text) (placed-append s (k + 1) xs ys)
    ∙ sym (append_assoc line (placed_lines s (k + 1) xs) (placed_lines s (k + 1 + length xs) ys))
    ∙ ap (λ (n : ℕ). (line ++ placed_lines s (k + 1) xs) ++ placed_lines s n ys) (omega arith)

-- the line of one block
pub placed-one : (s : Super) (k : ℕ) (x : List ℕ) → placed_lines s k (x ∷ []) ≡ ended (placed_line (place_from (ring_of s) s.s_start k) x)
placed-one s k x = append-nil (ended (placed_line (place_from (ring_of s) s.s_start k) x))

-- one more number is listed last
pub numbers-more : (numbers : List ℕ) (i number : ℕ) → i < length numbers → number ≡ get_or numbers i number →
    join_with_byte comma (map decimal (take (i + 1) numbers)) ≡ join_with_byte comma (map decimal (take i numbers)) ++ listed i number
numbers-more numbers i number below is =
    let taken : take (i + 1) numbers ≡ take i numbers ++ number ∷ [] = take-more_read numbers i number below is in
    let size : i ≡ length (map decimal (take i numbers)) = let few = length-take-le i numbers (omega arith) in let same : length (map decimal (take i numbers)) ≡ length (take i numbers) = length-map (take i numbers) decimal in omega arith in
    ap (λ (ns : List ℕ). join_with_byte comma (map decimal ns)) taken
    ∙ ap (join_with_byte comma) (map-append decimal (take i numbers) (number ∷ []))
    ∙ join-push i (map decimal (take i numbers)) (decimal number) size

-- one more line comes last
pub placed-push : (s : Super) (k : ℕ) (xs : List (List ℕ)) (x : List ℕ) (place : ℕ) → place ≡ place_from (ring_of s) s.s_start (k + length xs) →
    placed_lines s k (xs ++ x ∷ []) ≡ placed_lines s k xs ++ ended (placed_line place x)
placed-push s k xs x place is =
    placed-append s k xs (x ∷ [])
    ∙ ap (λ (text : List ℕ). placed_lines s k xs ++ text) (placed-one s (k + length xs) x ∙ ap (λ (p : ℕ). ended (placed_line p x)) (sym is))

-- one more copy adds its line
pub copies-more : (s : Super) (k sequence count i : ℕ) (tags : List Tag) (tag : Tag) (place : ℕ) → i < length tags → tag ≡ get_or tags i tag →
    place ≡ place_from (ring_of s) s.s_start (k + 1 + i) →
    placed_lines s k (copies_captions sequence count (take (i + 1) tags)) ≡ placed_lines s k (copies_captions sequence count (take i tags)) ++ ended (placed_line place (copy_caption sequence tag))
copies-more s k sequence count i tags tag place below is at =
    let size : length (map (copy_caption sequence) (take i tags)) ≡ i = length-map (take i tags) (copy_caption sequence) ∙ length-take-le i tags (omega arith) in
    let behind : k + 1 + i ≡ k + length (copies_captions sequence count (take i tags)) = omega arith in
    ap (λ (ts : List Tag). placed_lines s k (copies_captions sequence count ts)) (take-more_read tags i tag below is)
    ∙ ap (λ (cs : List (List ℕ)). placed_lines s k ((codes "descriptor " ++ decimal sequence ++ codes " tags=" ++ decimal count) ∷ cs)) (map-append (copy_caption sequence) (take i tags) (tag ∷ []))
    ∙ placed-push s k (copies_captions sequence count (take i tags)) (copy_caption sequence tag) place (at ∙ ap (place_from (ring_of s) s.s_start) behind)
