-- Hellos and redirects can be sent.
use Rattle.std.proofs.Common.{◌≡◌, ℕ, ◌-◌, ◌<◌, ◌≤◌, Bool, true, false, List, [], ◌∷◌, ◌++◌, length, Option, Some, None, refl, ◌∙◌, subst, arith, length-append, append_assoc}
use Rattle.std.specs.Prelude.{IfSome, IsSome, find, ◌==◌}
use Rattle.std.proofs.lemmas.List.{length-take}
use Rattle.nsap.specs.Address.{system_part}
use Rattle.nsap.specs.declared.port.Port.{Port}
use Rattle.nsap.specs.declared.port.Hop.{Hop}
use Rattle.pdu_parts.specs.Field.{field}
use Rattle.esis_pdu.specs.declared.hello.Hello.{Hello}
use Rattle.esis_pdu.specs.declared.hello.Hello.TheVariants.{Rd}
use Rattle.esis_pdu.specs.Hellos.{title_field}
use Rattle.clnp_system.specs.Hellos.{AnswersGroup, AreHellos, HellosIf, ToSenderIf, hearers, own_esh, own_hello, sender}
use Rattle.clnp_system.specs.Redirect.{RedirectsTo, is_detour}
use Rattle.clnp_system.specs.Setting.{Setting, is_group, own_address, port_on}
use Rattle.law_clnp_net.specs.Standing.{IsHop, IsNsap, IsSetUp, IsSnpa}
use Rattle.law_clnp_net.proofs.written.Octets.{octets_both, octets_take}
use Rattle.law_clnp_net.proofs.written.Pieces.{SentAll, sent_hello}
use Rattle.law_clnp_net.proofs.written.Ways.{ends_snpa, port_there}
use Rattle.law_clnp_net.proofs.written.Writes.{MayBeHello}

module _ (setting : Setting) (set : IsSetUp setting) where
  own_length : (selector : ℕ) → length (own_address setting selector) ≡ length setting.title
  own_length selector =
      omega (arith, length-append (system_part setting.title) (selector ∷ []), length-take (length setting.title - 1) setting.title, set.title.is.some)

  own_nsap : (selector : ℕ) → selector < 256 → IsNsap (own_address setting selector)
  own_nsap selector fits = record {
    is = record { some = omega (arith, own_length selector, set.title.is.some); most = omega (arith, own_length selector, set.title.is.most) };
    octets = octets_both (system_part setting.title) (selector ∷ []) (octets_take (length setting.title - 1) setting.title set.title.octets) (fits, tt);
  }

  may_esh : MayBeHello (own_esh setting)
  may_esh = record {
    fits = (own_nsap 1 (omega arith), (own_nsap 2 (omega arith), tt));
    hold = omega (arith, set.may.most_hold);
    size = omega (arith, own_length 1, own_length 2, set.title.is.most, length-append (field (own_address setting 1)) (field (own_address setting 2) ++ []), length-append (field (own_address setting 2)) []);
  }

  may_own : (end : Bool) → MayBeHello (own_hello setting end)
  may_own true = may_esh
  may_own false = record { fits = set.title; hold = omega (arith, set.may.most_hold); size = omega (arith, set.title.is.most) }

  hearers_snpa : (end : Bool) → IsSnpa (hearers end)
  hearers_snpa true = record { six = refl; octets = (omega arith, (omega arith, (omega arith, (omega arith, (omega arith, (omega arith, tt)))))) }
  hearers_snpa false = ends_snpa

  -- ---- on each port
  greeted : (front ports : List Port) → front ++ ports ≡ setting.ports → SentAll setting set (AreHellos setting ports)
  greeted front [] e = record { frames = []; are = refl; fit = tt }
  greeted front (port ∷ ports) e =
      let to : Port = record { lan = port.lan; snpa = hearers setting.end } in
      let near : IsSome (port_on setting port.lan) =
      subst (λ (ps : List Port). IsSome (find (λ (other : Port). other.lan == port.lan) ps)) e (port_there front port ports) in
      let first = sent_hello setting set to (own_hello setting setting.end) near (hearers_snpa setting.end) (may_own setting.end) in
      let rest = greeted (front ++ port ∷ []) ports (append_assoc front (port ∷ []) ports ∙ e) in
      record { frames = first.frame ∷ rest.frames; are = (first.frame, rest.frames, first.is, rest.are, refl); fit = (first.fits, rest.fit) }

  pub greeted_if : (due : Bool) → SentAll setting set (HellosIf due setting)
  greeted_if false = record { frames = []; are = refl; fit = tt }
  greeted_if true = let sent = greeted [] setting.ports refl in record { frames = sent.frames; are = sent.are; fit = sent.fit }

  -- ---- to the sender of a frame
  told_if : (tells : Bool) (to : Port) (hello : Hello) → IsSome (port_on setting to.lan) → IsSnpa to.snpa → MayBeHello hello → SentAll setting set (ToSenderIf tells setting to hello)
  told_if false to hello near snpa may = record { frames = []; are = refl; fit = tt }
  told_if true to hello near snpa may =
      let one = sent_hello setting set to hello near snpa may in
      record { frames = one.frame ∷ []; are = (one.frame, one.is, refl); fit = (one.fits, tt) }

  pub group_answered : (from at : Port) → IsSome (port_on setting at.lan) → IsSnpa from.snpa → SentAll setting set (AnswersGroup setting from at)
  group_answered from at near snpa =
      let sent = told_if (is_group at.snpa) (sender from at) (own_esh setting) near snpa may_esh in
      record { frames = sent.frames; are = sent.are; fit = sent.fit }

  title_most : (title : Option (List ℕ)) → IfSome title IsNsap → length (title_field title) ≤ 21
  title_most None h = omega arith
  title_most (Some title) h = omega (arith, h.is.most)

  pub redirected : (from at : Port) (destination : List ℕ) (hop : Hop) → IsSome (port_on setting at.lan) → IsSnpa from.snpa → IsNsap destination → IsHop setting hop
      → SentAll setting set (RedirectsTo setting from at destination hop)
  redirected from at destination hop near snpa to good =
      let may : MayBeHello (Rd setting.hold destination hop.port.snpa hop.title) = record {
        fits = (to, good.snpa, good.title);
        hold = omega (arith, set.may.most_hold);
        size = omega (arith, to.is.most, good.snpa.six, title_most hop.title good.title, length-append (field destination ++ field hop.port.snpa) (title_field hop.title), length-append (field destination) (field hop.port.snpa));
      } in
      let sent = told_if (is_detour from at hop) (sender from at) (Rd setting.hold destination hop.port.snpa hop.title) near snpa may in
      record { frames = sent.frames; are = sent.are; fit = sent.fit }
