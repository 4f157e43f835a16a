use Rattle.jbench_views.proofs.printing.dump_copy.Goals as goal

-- the copy was found
pub returns-in-Ok-Some-clause-found : goal.returns-in-Ok-Some-clause-found
returns-in-Ok-Some-clause-found g c =
    let found = rw c.in-Ok-Some.field-0-is at c.in-Ok-Some.ensures.found in
    λ fine honest. (c.in-Ok-Some.copy.finder.block, found honest)
