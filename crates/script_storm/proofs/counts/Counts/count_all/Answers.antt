use Rattle.std.proofs.Common.{rules, ◌≡◌, ◌+◌, ◌<◌, [], ◌∷◌, ◌++◌, length, take, append_assoc, arith, ap, ◌∙◌, sym}
use Rattle.std.proofs.lemmas.List.{take_more, length-append, length-take-le, take_all}
use Rattle.script_storm.specs.Counted.{counts_of}
use Rattle.script_storm.proofs.counts.Counts.count_all.Goals as goal

pub loop-event-init : goal.loop-event-init
loop-event-init c = search rules

pub loop-event-preserved : goal.loop-event-preserved
loop-event-preserved c journal room was =
    let events = c.args.events.now in
    let at = c.loop-event.event-index in
    let event = c.event-item.result in
    let more : take (at + 1) events ≡ take at events ++ event ∷ [] =
    take_more events at event c.loop-event-test.true ∙ ap (λ item. take at events ++ item ∷ []) (sym c.event-item.is) in
    let count : length (journal ++ take at events) ≡ length journal + at =
    length-append journal (take at events) ∙ ap (λ more. length journal + more) (length-take-le at events c.loop-event.auto.event-index-end) in
    let below : length (journal ++ take at events) < 4294967295 = let there = c.loop-event-test.true in omega arith in
    c.count.ensures (journal ++ take at events) below (c.loop-event.invariant journal room was)
    ∙ ap counts_of (append_assoc journal (take at events) (event ∷ []) ∙ ap (λ all. journal ++ all) (sym more))

pub returns : goal.returns
returns c journal room was =
    let all : take c.loop-event.event-index c.args.events.now ≡ c.args.events.now = take_all c.loop-event.event-index c.args.events.now c.loop-event-test.false in
    c.loop-event.invariant journal room was ∙ ap (λ events. counts_of (journal ++ events)) all
