-- When a redirect is sent, and what it says (ISO 9542, request redirect).
use Rattle.std.specs.Prelude.{ℕ, ◌==◌, Bool, ◌&&◌, not, nat_eq, List}
use Rattle.std.specs.Cmp.Lexicographic.{pointwise}
use Rattle.nsap.specs.declared.port.Port.{Port}
use Rattle.nsap.specs.declared.port.Hop.{Hop}
use Rattle.esis_pdu.specs.declared.hello.Hello.TheVariants.{Rd}
use Rattle.clnp_system.specs.Setting.{Setting}
use Rattle.clnp_system.specs.Node.{Frame}
use Rattle.clnp_system.specs.Hellos.{sender, ToSenderIf}

-- step 6, last: the hop is on the LAN on which the frame came, and is not its sender
abbrev pub is_detour : Port → Port → Hop → Bool
is_detour from at hop = hop.port.lan == at.lan && not (pointwise nat_eq hop.port.snpa from.snpa)

abbrev pub RedirectsTo : Setting → Port → Port → List ℕ → Hop → List Frame → Type 0
RedirectsTo setting from at destination hop frames =
    ToSenderIf (is_detour from at hop) setting (sender from at) (Rd setting.hold destination hop.port.snpa hop.title) frames
