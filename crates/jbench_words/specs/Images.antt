-- Why a run that should write an image to files cannot go on.
use Rattle.std.specs.Prelude.{⊤}
use Rattle.jbench_words.specs.declared.fault.Fault.{Fault}
use Rattle.jbench_words.specs.declared.fault.Fault.TheVariants.{File, BadScript, ImageFile, Clock, Refused, Output}

-- the image's files could not be made
abbrev pub IsUnmade : Fault → Type 0
IsUnmade (File e) = ⊥
IsUnmade (BadScript bad) = ⊥
IsUnmade (ImageFile e) = ⊤
IsUnmade Clock = ⊥
IsUnmade (Refused e) = ⊥
IsUnmade (Output e) = ⊥
