-- Which refusals the content of a log may cause, whatever the device answers.
use Rattle.std.specs.Prelude.{◌≡◌, ℕ, ◌<◌, ◌≤◌, List, [], ◌∷◌}
use Rattle.journal_model.specs.declared.refusal.JournalError.{JournalError}
use Rattle.journal_model.specs.declared.refusal.JournalError.TheVariants.{BadMagic, BadType, BadBlockSize, BadLength, BadFirst, BadFeature, BadStart, Damage, ErrnoSet}

abbrev pub super_refusals : List JournalError
super_refusals = BadMagic ∷ BadType ∷ BadBlockSize ∷ BadLength ∷ BadFirst ∷ BadFeature ∷ BadStart ∷ ErrnoSet ∷ []

-- the refusal is damage at a place from `first` to before `end`
pub record NamesDamage (first end : ℕ) (e : JournalError) : Type 0 where
  pub place : ℕ
  pub from : first ≤ place
  pub below : place < end
  pub refusal : e ≡ Damage place
