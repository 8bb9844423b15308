use Rattle.std.proofs.Common.{◌≡◌, ◌+◌, ◌++◌, ◌∷◌, [], List, ℕ, length, map, sym, ◌∙◌, ap}
use Rattle.script_storm.specs.Line.{line_text}
use Rattle.script_storm.specs.Words.{generator_of, words}
use Rattle.rand_pcg.specs.Pcg.{pcg32}
use Rattle.osi_storm.specs.Storm.{line_after}
use Rattle.osi_storm.proofs.Storming.{fills_at, fills_words, goes_on, goes_words, journal_on, lines_on, none_goes, ready_known, ready_on, word_length, word_next, words_on}
use Rattle.osi_storm.proofs.storm.Rig.run_words.Goals as goal

pub loop-word-init : goal.loop-word-init
loop-word-init c =
    let all = words c.args.storm.seed c.args.storm.count in
    let is : c.into_iter-word-iterator.result ≡ all = c.into_iter-word-iterator.ensures.into_iter_gives ∙ c.new-word-items.ensures in
    let size : length c.into_iter-word-iterator.result ≡ c.args.storm.count =
    ap (λ (ws : List ℕ). length ws) is ∙ word_length pcg32 c.args.storm.count (generator_of c.args.storm.seed) in
    (tt, tt, ([], sym is, none_goes c.args.self.now.bench c.args.self.now.counts), c.requires.ready, c.requires.stands, ap (λ (n : ℕ). c.args.self.now.bench.lines + n) size)

pub run_line-requires-clause-known : goal.run_line-requires-clause-known
run_line-requires-clause-known c =
    let was = c.loop-word.self in
    let text : c.deref.result.now ≡ line_text c.in-Some.word was.counts.frames was.counts.ends =
    c.deref.ensures.value ∙ c.in-Ok.ensures ∙ ap (λ (out : List ℕ). out ++ line_text c.in-Some.word was.counts.frames was.counts.ends) c.clear.ensures.items in
    ready_known was.bench was.counts c.in-Some.word c.deref.result.now c.loop-word.invariant.3 c.loop-word.invariant.4 text

pub returns-in-Err-clause-full : goal.returns-in-Err-clause-full
returns-in-Err-clause-full c is =
    let was = c.loop-word.self in
    let first = c.args.self.now in
    let word = c.in-Some.word in
    let rest = c.next.new.self in
    let done = c.loop-word.invariant.2.0 in
    let text : c.deref.result.now ≡ line_text word was.counts.frames was.counts.ends =
    c.deref.ensures.value ∙ c.in-Ok.ensures ∙ ap (λ (out : List ℕ). out ++ line_text word was.counts.frames was.counts.ends) c.clear.ensures.items in
    let full = c.in-Err.ensures.full is in
    fills_words (words c.args.storm.seed c.args.storm.count) done c.loop-word.word-iterator rest word first.bench first.counts c.loop-word.invariant.2.1 c.in-Some.ensures.steps
    (fills_at (map line_after done) (map line_after rest) (line_after word) first.bench was.bench full.1 first.counts was.counts c.deref.result.now full.0 c.loop-word.invariant.2.2
    (word_next was.bench was.counts word c.deref.result.now text) full.2)

pub loop-word-preserved : goal.loop-word-preserved
loop-word-preserved c =
    let was = c.loop-word.self in
    let new = c.run_line.new.self in
    let first = c.args.self.now in
    let word = c.in-Some.word in
    let rest = c.next.new.self in
    let done = c.loop-word.invariant.2.0 in
    let ran = c.in_default-run_line.ensures in
    let text : c.deref.result.now ≡ line_text word was.counts.frames was.counts.ends =
    c.deref.ensures.value ∙ c.in-Ok.ensures ∙ ap (λ (out : List ℕ). out ++ line_text word was.counts.frames was.counts.ends) c.clear.ensures.items in (
      tt,
      tt,
      (
        done ++ word ∷ [],
        words_on (words c.args.storm.seed c.args.storm.count) done c.loop-word.word-iterator rest word c.loop-word.invariant.2.1 c.in-Some.ensures.steps,
        goes_words done word first.bench new.bench first.counts new.counts
            (goes_on (map line_after done) (line_after word) first.bench was.bench new.bench first.counts was.counts new.counts c.deref.result.now new.events.items c.loop-word.invariant.2.2
            (word_next was.bench was.counts word c.deref.result.now text) ran.ok ran.counts),
      ),
      ready_on was.bench new.bench was.counts word c.deref.result.now new.events.items c.loop-word.invariant.3 c.loop-word.invariant.4 text ran.ok,
      journal_on was.bench new.bench was.counts new.counts c.deref.result.now new.events.items c.loop-word.invariant.4 ran.ok ran.counts,
      lines_on was.bench.lines new.bench.lines first.bench.lines c.args.storm.count c.loop-word.word-iterator rest word ran.ok.lines c.in-Some.ensures.steps c.loop-word.invariant.5,
    )
