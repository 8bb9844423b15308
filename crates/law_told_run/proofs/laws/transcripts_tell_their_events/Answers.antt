use Rattle.std.proofs.Common.{List, [], sym, subst, append-nil}
use Rattle.script_journal.specs.declared.event.Event.{Event}
use Rattle.script_journal.specs.Lawful.{Lawful}
use Rattle.law_run.specs.World.{frozen_of, titles_of}
use Rattle.law_run.proofs.Handled.{shows_submitted}
use Rattle.law_told_run.proofs.Legible.{run_legible}
use Rattle.law_told_run.proofs.laws.transcripts_tell_their_events.Goals as goal

pub returns-clause-tells : goal.returns-clause-tells
returns-clause-tells c = run_legible.tells

pub returns-clause-reads : goal.returns-clause-reads
returns-clause-reads c = run_legible.reads

pub returns-clause-lawful : goal.returns-clause-lawful
returns-clause-lawful c = λ octets journal read last run is none.
    let frozen = frozen_of last.world in
    let titles = titles_of last.world in
    let there : Lawful frozen titles journal = shows_submitted c.ends_are_lawful.ensures octets octets journal last ([], append-nil octets) run none in
    let here : Lawful frozen titles read = subst (λ (events : List Event). Lawful frozen titles events) (sym (run_legible.reads octets journal read last run is)) there in
    (here, c.shown_is_next.ensures frozen titles read here)

pub returns-clause-one : goal.returns-clause-one
returns-clause-one c = run_legible.one
