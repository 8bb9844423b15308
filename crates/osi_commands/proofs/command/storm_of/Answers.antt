use Rattle.std.proofs.Common.{string_bytes, ◌∙◌, sym}
use Rattle.osi_commands.proofs.StormWords.{storm_words}
use Rattle.osi_commands.proofs.command.storm_of.Goals as goal

pub returns-in-len3-clause-some : goal.returns-in-len3-clause-some
returns-in-len3-clause-some c =
    storm_words string_bytes c.args.words.now c.word-item.result c.seed-item.result c.count-item.result c.as_str.result.now c.as_str-in-len3.result.now c.as_str-in-len3-2.result.now c.read.result
    c.in-len3.len_at_least c.in-len3.len_below c.word-item.is c.seed-item.is c.count-item.is c.as_str.ensures.value (sym c.eq.ensures ∙ c.if-eq.true)
    c.as_str-in-len3.ensures.value c.as_str-in-len3-2.ensures.value c.read.ensures.some
