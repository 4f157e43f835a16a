-- What a command did to a device over files.
use Rattle.std.proofs.Common.{◌≡◌, refl, sym}
use Rattle.std.proofs.lemmas.Bool.{false≢true}
use Rattle.std.specs.Prelude.{Bool, true, false}
use Rattle.file_device.specs.Files.{FileState}
use Rattle.jbench_files.specs.Over.{IsOver}
use Rattle.jbench_files.specs.declared.pairs.LockedPair.{LockedPair}
use Rattle.jbench_commands.specs.Obeying.{IsOverTwo, over_told}

-- a device over a pair is one over two files
pub over-two : {L : Type 0} (files : LockedPair L) (device : FileState) → IsOver files.log.file.file files.home.file.file device → IsOverTwo device
over-two files device over = record { log = files.log.file; home = files.home.file; apart = files.are_two; over = over }

-- a kept home area is no other one
pub not-both : {P : Type 0} → true ≡ false → P
not-both wrong = absurd (false≢true (sym wrong))

-- over new files, if they had to be new
pub over-told : {L : Type 0} (has_to_be_new keep_home : Bool) (files : LockedPair L) (device : FileState) → IsOver files.log.file.file files.home.file.file device
    → (has_to_be_new ≡ true → files.log.file.is_made ≡ true) → (has_to_be_new ≡ true → keep_home ≡ false → files.home.file.is_made ≡ true)
    → over_told has_to_be_new keep_home device
over-told true keep_home files device over log home =
    record { log = files.log.file; home = files.home.file; apart = files.are_two; over = over; log_is_made = log refl; home_is_made = home refl }
over-told false keep_home files device over log home = over-two files device over
