use Rattle.std.proofs.Common.{ap, sym, ◌∙◌}
use Rattle.script_journal.specs.RawLawful.{clock_after}
use Rattle.script_storm.specs.Counted.{is_frame, makes_end, is_got, is_urgent, is_gone}
use Rattle.script_storm.proofs.Counting.{clock_next, counted}
use Rattle.script_storm.proofs.counts.Counts.count.Goals as goal

pub returns : goal.returns
returns c journal room was =
    let event = c.args.event.now in
    let ticks = c.tick_after-self.ensures ∙ ap (λ old. clock_after old.ticks event) was ∙ sym (clock_next 0 journal event) in
    let frames = counted is_frame journal event _ _ _ room (ap (λ old. old.frames) was) c.is_frame.ensures c.more-self.ensures in
    let ends = counted makes_end journal event _ _ _ room (ap (λ old. old.ends) was) c.makes_end.ensures c.more-self-2.ensures in
    let got = counted is_got journal event _ _ _ room (ap (λ old. old.got) was) c.is_got.ensures c.more-self-3.ensures in
    let urgent = counted is_urgent journal event _ _ _ room (ap (λ old. old.urgent) was) c.is_urgent.ensures c.more-self-4.ensures in
    let gone = counted is_gone journal event _ _ _ room (ap (λ old. old.gone) was) c.is_gone.ensures c.more-self-5.ensures in
    λ i. record { ticks = ticks i; frames = frames i; ends = ends i; got = got i; urgent = urgent i; gone = gone i }
