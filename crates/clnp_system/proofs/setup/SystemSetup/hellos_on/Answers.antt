use Rattle.std.proofs.Common.{◌≡◌, ◌==◌, ◌∙◌, ℕ, List, [], IsSome, Some, find, length, slice_get, refl, subst, sym}
use Rattle.std.proofs.lemmas.Option.{slice_get_read}
use Rattle.nsap.specs.declared.port.Port.{Port}
use Rattle.esis_pdu.specs.Hellos.{IsEsis, IsWritten}
use Rattle.clnp_system.specs.Written.{IsHelloFrame}
use Rattle.clnp_system.proofs.Lans.{hellos_more, port_there}
use Rattle.clnp_system.proofs.setup.SystemSetup.hellos_on.Goals as goal

pub unit-requires : goal.unit-requires
unit-requires c =
    let ports = c.args.ports.now in
    let i = c.loop-port.port-index in
    let at : slice_get ports i ≡ Some c.port-item.result = slice_get_read ports (length ports) i c.port-item.result refl c.loop-port-test.true c.port-item.is in
    subst (λ (ps : List Port). IsSome (find (λ (other : Port). other.lan == c.port-item.result.lan) ps)) c.requires.ports (port_there ports i c.port-item.result at)

pub loop-port-preserved : goal.loop-port-preserved
loop-port-preserved c =
    let ports = c.args.ports.now in
    let i = c.loop-port.port-index in
    let at : slice_get ports i ≡ Some c.port-item.result = slice_get_read ports (length ports) i c.port-item.result refl c.loop-port-test.true c.port-item.is in
    let octets = c.unit.ensures.octets ∙ c.in_ok-copy_of.ensures ∙ c.deref.ensures.value in
    let to : Port = record { lan = c.port-item.result.lan; snpa = c.hearers-hearers.result } in
    let is : IsHelloFrame c.args.self.now to c.args.hello.now c.unit.result = record {
      goes = record { from = sym c.unit.ensures.from; to_is = c.unit.ensures.to };
      is_hello = subst (λ (xs : List ℕ). IsEsis xs (record { hello = c.args.hello.now; options = [] })) (sym octets) c.in_ok-octets.ensures.is_hello;
      written = subst (IsWritten c.args.hello.now) (sym octets) c.in_ok-octets.ensures.written;
    } in
    hellos_more c.args.self.now ports i c.port-item.result c.hearers-hearers.result c.args.hello.now c.unit.result c.loop-port.frames.items c.push.new.self.items at
    c.hearers-hearers.ensures c.requires.hello is c.loop-port.invariant c.in_ok-push.ensures.items
