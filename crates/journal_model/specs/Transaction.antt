-- What transactions do to blocks: effects, entries, and each block after the first n. Nothing here knows a
-- log.
-- Source: journalling.rst (handles and transactions), the GoJournal paper (a history of atomic operations).
use Rattle.std.specs.Prelude.{◌≡◌, ⊤, ℕ, suc, ◌<◌, ◌==◌, not, if◌then◌else◌, List, [], ◌∷◌, take, filter, Option, Some, None, is_some, option_map}
use Rattle.std.specs.List.{filter_map}
use Rattle.journal_model.specs.declared.entry.Content.{Content}
use Rattle.journal_model.specs.declared.entry.Content.TheVariants.{Copy as CopyContent, Direct}
use Rattle.journal_model.specs.declared.entry.Entry.{Entry}
use Rattle.journal_model.specs.declared.entry.Entry.TheVariants.{Copy, Revoke}
use Rattle.journal_model.specs.declared.transaction.Op.{Op}
use Rattle.journal_model.specs.declared.transaction.Op.TheVariants.{Write, Revoke as RevokeOp, Read}
use Rattle.journal_model.specs.declared.transaction.Step.{Step}
use Rattle.journal_model.specs.declared.transaction.Sealed.{Sealed}

-- Number, handles and steps. The last one of a history may be unsealed.
abbrev pub Transaction : Type 0
Transaction = Sealed

-- the transactions since the last opening that answered Ok, by number
abbrev pub History : Type 0
History = List Transaction

abbrev pub AreNumbered : ℕ → History → Type 0
AreNumbered first [] = ⊤
AreNumbered first (t ∷ ts) = (t.tid ≡ first) × AreNumbered (suc first) ts

-- block b is the list of bytes at place b, below the volume's count
abbrev pub Volume : Type 0
Volume = ℕ → List ℕ

abbrev pub entry_of : Op → Option Entry
entry_of (Write v) = Some (Copy v)
entry_of RevokeOp = Some Revoke
entry_of (Read v) = None

abbrev pub later : Option Entry → Option Entry → Option Entry
later earlier None = earlier
later earlier (Some e) = Some e

-- what the last write or revoke of block b leaves, or nothing
abbrev pub effect : ℕ → List Step → Option Entry
effect b [] = None
effect b (s ∷ ss) = later (if s.block == b then entry_of s.op else None) (effect b ss)

abbrev pub without : ℕ → List ℕ → List ℕ
without x xs = filter (λ y. not (y == x)) xs

-- the blocks written or revoked, each once, in the order of first touches
abbrev pub touched : List Step → List ℕ
touched [] = []
touched (s ∷ ss) = if is_some (entry_of s.op) then s.block ∷ without s.block (touched ss) else touched ss

abbrev pub entries : List Step → List (ℕ × Entry)
entries ss = filter_map (λ b. option_map (λ e. (b, e)) (effect b ss)) (touched ss)

abbrev pub copy_of : ℕ → Entry → Option (ℕ × List ℕ)
copy_of b (Copy v) = Some (b, v)
copy_of b Revoke = None

abbrev pub revoke_of : ℕ → Entry → Option ℕ
revoke_of b (Copy v) = None
revoke_of b Revoke = Some b

abbrev pub copied : List (ℕ × Entry) → List (ℕ × List ℕ)
copied entries = filter_map (λ p. copy_of p.0 p.1) entries

abbrev pub revoked : List (ℕ × Entry) → List ℕ
revoked entries = filter_map (λ p. revoke_of p.0 p.1) entries

abbrev pub last_effect : ℕ → History → Option Entry
last_effect b [] = None
last_effect b (t ∷ ts) = later (effect b t.steps) (last_effect b ts)

-- the last copy; home's content without one, or after a revoke
abbrev pub content_of : Option Entry → Content
content_of None = Direct
content_of (Some (Copy v)) = CopyContent v
content_of (Some Revoke) = Direct

abbrev pub after : History → ℕ → ℕ → Content
after ts n b = content_of (last_effect b (take n ts))

abbrev pub bytes_of : Content → List ℕ → List ℕ
bytes_of (CopyContent v) home = v
bytes_of Direct home = home

-- got is what the first n transactions make of left: their last copies, else what left has
abbrev pub Recovered : ℕ → History → ℕ → Volume → Volume → Type 0
Recovered count ts n left got = (b : ℕ) → b < count → got b ≡ bytes_of (after ts n b) (left b)
