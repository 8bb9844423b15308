use Rattle.std.proofs.Common.{◌∙◌, ap, option_copied, sym}
use Rattle.script_relays.proofs.Stopping.{last_stop, stop_of}
use Rattle.script_relays.proofs.play.is_stopped.Goals as goal

pub returns-in-Some : goal.returns-in-Some
returns-in-Some c = c.is_stop.ensures ∙ sym (last_stop c.args.events.now ∙ ap stop_of (sym c.last.ensures.value ∙ ap option_copied c.in-Some.is))

pub returns-in-None : goal.returns-in-None
returns-in-None c = sym (last_stop c.args.events.now ∙ ap stop_of (sym c.last.ensures.value ∙ ap option_copied c.in-None.is))
