use Rattle.std.proofs.Common.{◌≡◌, ◌++◌, take}
use Rattle.script_lines.specs.Tags.{tags_of}
use Rattle.script_journal.specs.Told.{journal_text}
use Rattle.script_bench.proofs.text.push_events.Given as goal

-- the lines of the events so far stand
abbrev pub invariant-loop-event : goal.invariant-loop-event
invariant-loop-event l = l.out.items ≡ l.initial.out.items ++ journal_text (tags_of l.names) (take l.event-index l.events)
