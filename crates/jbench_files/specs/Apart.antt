-- Distinct files. This project's own.
use Rattle.std.specs.Prelude.{◌≡◌}
use Rattle.jbench_files.specs.declared.regular.RegularFile.{RegularFile}

-- the system tells them apart
abbrev pub AreApart : RegularFile → RegularFile → Type 0
AreApart one other = ¬ (one.identity ≡ other.identity)
