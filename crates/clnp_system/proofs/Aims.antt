-- The source route of a PDU that was read: the value that is found is one, and what is said of each of its routes is said of the PDU's.
use Rattle.std.proofs.Common.{◌≡◌, ◌==◌, ℕ, List, Option, Some, None, refl, ◌∙◌, ap, subst}
use Rattle.clnp_options.specs.Options.{listed, value_of}
use Rattle.clnp_options.specs.SourceRoute.{HasSourceRoute, IsSourceRoute, SourceRoute}
use Rattle.clnp_options.proofs.Found.{found_known, known_route}
use Rattle.clnp_header.specs.declared.pdu.PduRef.{PduRef}
use Rattle.clnp_header.specs.Values as values
use Rattle.clnp_header.proofs.Found.{parameters_again}
use Rattle.clnp_system.specs.declared.source_routing.Aim.{Aim}
use Rattle.clnp_system.specs.declared.source_routing.Aim.TheVariants.{Free}
use Rattle.clnp_system.specs.Setting.{Setting}
use Rattle.clnp_system.specs.SourceRouting.{IsRoute, IsRouteOf, aim_at, aim_of}
use Rattle.clnp_system.specs.Written.{WasRead}
use Rattle.clnp_system.proofs.Writable.{read_known}

pub route_there : (pdu : PduRef) (value : List ℕ) → WasRead pdu → value_of 0xc8 (listed pdu.options) ≡ Some value → HasSourceRoute value
route_there pdu value read e = known_route pdu.kind value (found_known pdu.kind (listed pdu.options) 0xc8 value (read_known pdu read) e)

pub aim_some : (setting : Setting) (pdu : PduRef) (value : List ℕ) (aim : Aim) → value_of 0xc8 (listed pdu.options) ≡ Some value
    → ((route : SourceRoute) → IsSourceRoute value route → aim ≡ aim_at setting (route.kind == 1) route.ahead)
    → (route : Option SourceRoute) → IsRouteOf (values.value_of pdu) route → aim ≡ aim_of setting route
aim_some setting pdu value aim e each route h =
    by_route route (subst (λ (v : Option (List ℕ)). IsRoute v route) (ap (value_of 0xc8) (parameters_again (listed pdu.options)) ∙ e) h)
  where
    by_route : (route : Option SourceRoute) → IsRoute (Some value) route → aim ≡ aim_of setting route
    by_route None h = absurd h
    by_route (Some route) h = each route h

pub aim_none : (setting : Setting) (pdu : PduRef) → value_of 0xc8 (listed pdu.options) ≡ None
    → (route : Option SourceRoute) → IsRouteOf (values.value_of pdu) route → Free ≡ aim_of setting route
aim_none setting pdu e route h =
    by_route route (subst (λ (v : Option (List ℕ)). IsRoute v route) (ap (value_of 0xc8) (parameters_again (listed pdu.options)) ∙ e) h)
  where
    by_route : (route : Option SourceRoute) → IsRoute None route → Free ≡ aim_of setting route
    by_route None h = refl
    by_route (Some route) h = absurd h
