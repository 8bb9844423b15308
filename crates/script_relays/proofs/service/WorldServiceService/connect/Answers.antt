use Rattle.std.proofs.Common.{◌∙◌, ap}
use Rattle.law_relay.specs.Services.{is_done}
use Rattle.law_relay.proofs.Ordering.{connect_order}
use Rattle.script_relays.proofs.service.WorldServiceService.connect.Goals as goal

pub invariant_of-self-2 : goal.invariant_of-self-2
invariant_of-self-2 g c = λ _.
    connect_order g.C.Carrier.link g.C.Carrier.steps c.self.inside.ends c.connect.new.self c.args.system c.args.request c.connect.new.events.items c.in_ok-connect.ensures (c.self.invariant c.in_ok-go_on.ensures)

pub returns-clause-connects : goal.returns-clause-connects
returns-clause-connects g c = rw (← c.self.view_is) (
  c.connect.new.events.items,
  c.in_ok-append.ensures.items,
  record { order = c.self.invariant c.in_ok-go_on.ensures; connects = c.in_ok-connect.ensures; done_is = c.is_done-done.ensures ∙ ap is_done c.deref.ensures.value },
)
