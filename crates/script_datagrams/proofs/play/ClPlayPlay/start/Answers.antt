use Rattle.std.proofs.Common.{◌∙◌, List, ap, subst}
use Rattle.cltp.specs.Run.{Starts}
use Rattle.cltp.specs.declared.system.ClSystem.{ClSystem}
use Rattle.law_datagram_run.specs.Users.{users_from}
use Rattle.script_datagrams.proofs.Ran.{tells_all}
use Rattle.script_datagrams.proofs.play.ClPlayPlay.start.Goals as goal

pub returns : goal.returns
returns g c = (
  c.in_ok-make.field-0,
  c.in_ok-world.world,
  c.in_ok-make.ensures,
  subst (λ (users : List ClSystem). Starts g.N.Carrier.link g.N.Carrier.steps c.in_ok-make.field-0 users c.start.new.events.items c.in_ok-world.world) (c.in_ok-users.ensures ∙ ap (users_from 0) c.systems.ensures.systems)
      (tells_all c.args.events.now.items c.start.new.events.items _ c.requires.none c.in_ok-world.ensures),
  λ i. record { titles = c.in_ok-titles.ensures i; life = c.life-life.ensures i; world = c.in_ok-world.world },
)
