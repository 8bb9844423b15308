use Rattle.std.proofs.Common.{◌≡◌, ◌+◌, ◌<◌, ◌++◌, List, length, take}
use Rattle.script_journal.specs.declared.event.Event.{Event}
use Rattle.script_storm.specs.Counted.{counts_of}
use Rattle.script_storm.proofs.counts.Counts.count_all.Given as goal

-- the events so far are counted, behind every journal that was counted
abbrev pub invariant-loop-event : goal.invariant-loop-event
invariant-loop-event l = (journal : List Event) → length journal + length l.events < 4294967296 → l.fn.self ≡ counts_of journal
    → l.self ≡ counts_of (journal ++ take l.event-index l.events)
