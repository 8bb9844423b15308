use Rattle.law_run.specs.World.{frozen_of, titles_of}
use Rattle.law_told_run.proofs.AskedLines.{lines_asked}
use Rattle.law_told_run.proofs.laws.lines_and_events.Goals as goal

pub returns-clause-asked : goal.returns-clause-asked
returns-clause-asked c = lines_asked

pub returns-clause-told : goal.returns-clause-told
returns-clause-told c = λ texts script names journal last says run none.
    c.shown_is_next.ensures (frozen_of last) (titles_of last) journal (c.ends_are_lawful.ensures texts script names journal last says run none)
