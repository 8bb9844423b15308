use Rattle.law_recovery.proofs.laws.runs_recover.Goals as goal

pub returns-clause-whole_numbers : goal.returns-clause-whole_numbers
returns-clause-whole_numbers g c titles begins queue_of prompt = c.walked_recover.ensures titles begins (c.runs_are_told.ensures titles begins queue_of prompt)

pub returns-clause-wire_numbers : goal.returns-clause-wire_numbers
returns-clause-wire_numbers g c titles begins queue_of prompt =
    c.recovers_on_wire.ensures.begins titles begins (c.walked_recover.ensures titles begins (c.runs_are_told.ensures titles begins queue_of prompt))
