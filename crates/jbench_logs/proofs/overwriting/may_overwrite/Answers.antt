use Rattle.jbench_logs.proofs.overwriting.may_overwrite.Goals as goal

-- what may be overwritten unasked holds nothing
pub returns-clause-may : goal.returns-clause-may
returns-clause-may g c = λ may keeps honest.
    let nothing = c.must_stay.ensures.nothing c.if-must_stay.false keeps in
    record { held = c.in_ok-held.held; found = c.in_ok-held.ensures.held nothing honest; nothing = nothing }
