-- A LAN on which a system has a port has a bound and a room, and a hello goes out on each port.
use Rattle.std.proofs.Common.{◌≡◌, ◌==◌, ℕ, zero, suc, Bool, true, false, if◌then◌else◌, find, slice_get, List, [], ◌∷◌, ◌++◌, Some, IsSome, take, ◌+◌, refl, sym, ap, subst, arith}
use Rattle.std.proofs.lemmas.Grind.{common_steps}
use Rattle.std.specs.List.{AllByRecursion}
use Rattle.nsap.specs.declared.port.Port.{Port}
use Rattle.esis_pdu.specs.declared.hello.Hello.{Hello}
use Rattle.clnp_system.specs.Setting.{HasLan, IsSetting, Setting, port_on}
use Rattle.clnp_system.specs.Node.{Frame}
use Rattle.clnp_system.specs.Written.{IsHelloFrame}
use Rattle.clnp_system.specs.Hellos.{AreHellos, hearers, own_hello}
use Rattle.clnp_system.proofs.Passing.{take_snoc}

same_lan : (lan other : ℕ) → (lan == other) ≡ true → lan ≡ other
same_lan lan other e = grind (arith, common_steps, e)

-- what holds of each port's LAN holds of the LAN of one that is found
lan_found : (P : ℕ → Type 0) (ports : List Port) (lan : ℕ) → AllByRecursion (λ port. P port.lan) ports → IsSome (find (λ (port : Port). port.lan == lan) ports) → P lan
lan_found P [] lan all some = absurd cc
lan_found P (port ∷ ports) lan all some = by_test (port.lan == lan) refl (lan_found P ports lan all.1) some
  where
    by_test : (test : Bool) → (port.lan == lan) ≡ test → (IsSome (find (λ (other : Port). other.lan == lan) ports) → P lan)
        → IsSome (if test then Some port else find (λ (other : Port). other.lan == lan) ports) → P lan
    by_test true e rest found = subst P (same_lan port.lan lan e) all.0
    by_test false e rest found = rest found

pub lan_of : (setting : Setting) (lan : ℕ) → IsSetting setting → IsSome (port_on setting lan) → HasLan setting lan
lan_of setting lan is some = lan_found (HasLan setting) setting.ports lan is.lans some

-- a port stands on its own LAN
pub port_there : (ports : List Port) (i : ℕ) (port : Port) → slice_get ports i ≡ Some port → IsSome (find (λ (other : Port). other.lan == port.lan) ports)
port_there [] i port e = absurd (no_port i port e)
  where
    no_port : (i : ℕ) (port : Port) → slice_get [] i ≡ Some port → ⊥
    no_port i port e = cc e
port_there (first ∷ ports) zero port e =
    let same : first ≡ port = cc e in
    subst (λ (p : Port). IsSome (if first.lan == p.lan then Some first else find (λ (other : Port). other.lan == p.lan) ports)) same
    (found_first first.lan first ports)
  where
    found_first : (lan : ℕ) (first : Port) (ports : List Port) → IsSome (if lan == lan then Some first else find (λ (other : Port). other.lan == lan) ports)
    found_first lan first ports = grind (arith, common_steps)
port_there (first ∷ ports) (suc i) port e = by_test (first.lan == port.lan) (port_there ports i port e)
  where
    by_test : (test : Bool) → IsSome (find (λ (other : Port). other.lan == port.lan) ports) → IsSome (if test then Some first else find (λ (other : Port). other.lan == port.lan) ports)
    by_test true rest = refl
    by_test false rest = rest

-- a hello more
hellos_snoc : (setting : Setting) (ports : List Port) (frames : List Frame) (port : Port) (frame : Frame)
    → IsHelloFrame setting (record { lan = port.lan; snpa = hearers setting.end }) (own_hello setting setting.end) frame
    → AreHellos setting ports frames → AreHellos setting (ports ++ port ∷ []) (frames ++ frame ∷ [])
hellos_snoc setting [] frames port frame is h = (frame, [], is, refl, ap (λ (fs : List Frame). fs ++ frame ∷ []) h)
hellos_snoc setting (p ∷ ports) frames port frame is h =
    (h.0, h.1 ++ frame ∷ [], h.2, hellos_snoc setting ports h.1 port frame is h.3, ap (λ (fs : List Frame). fs ++ frame ∷ []) h.4)

-- the hello on the next port
pub hellos_more : (setting : Setting) (ports : List Port) (i : ℕ) (port : Port) (snpa : List ℕ) (hello : Hello) (frame : Frame) (frames new : List Frame) → slice_get ports i ≡ Some port
    → snpa ≡ hearers setting.end → hello ≡ own_hello setting setting.end → IsHelloFrame setting (record { lan = port.lan; snpa = snpa }) hello frame
    → AreHellos setting (take i ports) frames → new ≡ frames ++ frame ∷ [] → AreHellos setting (take (i + 1) ports) new
hellos_more setting ports i port snpa hello frame frames new at to_is hello_is is h e =
    let one = subst (λ (a : List ℕ). IsHelloFrame setting (record { lan = port.lan; snpa = a }) (own_hello setting setting.end) frame) to_is
    (subst (λ (a : Hello). IsHelloFrame setting (record { lan = port.lan; snpa = snpa }) a frame) hello_is is) in
    subst (AreHellos setting (take (i + 1) ports)) (sym e)
    (subst (λ (ps : List Port). AreHellos setting ps (frames ++ frame ∷ [])) (sym (take_snoc ports i port at)) (hellos_snoc setting (take i ports) frames port frame one h))
