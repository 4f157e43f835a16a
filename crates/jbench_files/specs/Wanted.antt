-- What is wanted of a file that is opened to write.
use Rattle.std.specs.Prelude.{◌≡◌, ⊤, true}
use Rattle.jbench_files.specs.declared.pairs.WantedFile.{WantedFile}
use Rattle.jbench_files.specs.declared.pairs.WantedFile.TheVariants.{Any, File, New, Kept}
use Rattle.jbench_files.specs.declared.regular.RegularFile.{RegularFile}

-- a new file was made, and a kept home area is a block device if it has to be
abbrev pub IsAsWanted : WantedFile → RegularFile → Type 0
IsAsWanted Any file = ⊤
IsAsWanted File file = ⊤
IsAsWanted New file = file.is_made ≡ true
IsAsWanted (Kept home) file = home.is_device ≡ true → file.identity.is_device ≡ true
