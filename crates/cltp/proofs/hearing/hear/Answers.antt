use Rattle.std.proofs.Common.{◌∙◌, ◌∷◌, [], ap, sym}
use Rattle.std.specs.Prelude.{option_copied}
use Rattle.cltp.proofs.Hearings.{hears_there}
use Rattle.cltp.proofs.hearing.hear.Goals as goal

pub returns : goal.returns
returns c = record {
  made = c.in_ok-event.event ∷ [];
  added = c.in_ok-push.ensures.items;
  are = hears_there c.args.systems.now c.args.arrival.now c.in-Some.own.now c.in_ok-event.event (sym c.system_at.ensures ∙ ap option_copied c.in-Some.is)
      (sym c.is_for.ensures ∙ c.if-not-is_for.false) c.in_ok-event.ensures;
}
