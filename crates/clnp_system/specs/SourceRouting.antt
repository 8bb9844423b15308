-- Where a PDU goes by its source route (X.233, source routing).
use Rattle.std.specs.Prelude.{ℕ, ◌==◌, Bool, false, if◌then◌else◌, List, [], ◌∷◌, Option, Some, None}
use Rattle.clnp_options.specs.Options.{value_of}
use Rattle.clnp_options.specs.SourceRoute.{SourceRoute, IsSourceRoute}
use Rattle.clnp_header.specs.declared.pdu.Pdu.{Pdu}
use Rattle.clnp_header.specs.Values.{parameters}
use Rattle.clnp_system.specs.declared.source_routing.Aim.{Aim}
use Rattle.clnp_system.specs.declared.source_routing.Aim.TheVariants.{Free, Entry, Forbidden}
use Rattle.clnp_system.specs.Setting.{Setting, is_own_title}

-- the source route of a PDU, where it has one
abbrev pub IsRoute : Option (List ℕ) → Option SourceRoute → Type 0
IsRoute None None = Unit {0}
IsRoute None (Some route) = ⊥
IsRoute (Some value) None = ⊥
IsRoute (Some value) (Some route) = IsSourceRoute value route

abbrev pub IsRouteOf : Pdu → Option SourceRoute → Type 0
IsRouteOf pdu route = IsRoute (value_of 0xc8 (parameters pdu.options)) route

-- step 4: the own title is passed; another one may stand there only in a partial route
abbrev pub aim_behind : Bool → List (List ℕ) → Aim
aim_behind complete [] = Free
aim_behind complete (entry ∷ ahead) = Entry entry complete

abbrev pub aim_at : Setting → Bool → List (List ℕ) → Aim
aim_at setting complete [] = Free
aim_at setting complete (entry ∷ ahead) =
    if is_own_title setting entry then aim_behind complete ahead
    else if complete then Forbidden
    else Entry entry false

abbrev pub aim_of : Setting → Option SourceRoute → Aim
aim_of setting None = Free
aim_of setting (Some route) = aim_at setting (route.kind == 1) route.ahead
