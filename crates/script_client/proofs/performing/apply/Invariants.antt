use Rattle.script_client.proofs.performing.apply.Given as goal

-- the fact of the disk, and that reads were correct so far
abbrev pub ghosts-apply_known : goal.ghosts-apply_known
ghosts-apply_known g a = record { holds = λ shape disk. g.H.HomeFact.holds shape disk × g.D.Device.honest a.opened.device }
