-- A PDU that goes onward: step 6 (X.233, lifetime control, source routing, record route, segmentation).
use Rattle.std.specs.Prelude.{◌≡◌, ◌≢◌, ℕ, ◌+◌, ◌-◌, ◌<◌, ◌≤◌, if◌then◌else◌, List, [], ◌∷◌, ◌++◌, length, slice_set, Option, Some, None}
use Rattle.nsap.specs.declared.port.Hop.{Hop}
use Rattle.nsap.specs.declared.port.Port.{Port}
use Rattle.clnp_options.specs.SourceRoute.{SourceRoute, IsSourceRoute, moved}
use Rattle.clnp_options.specs.Recording.{Recording, IsOpen, IsEnded, recording_octets, with_title}
use Rattle.clnp_header.specs.declared.pdu.OwnOpt.{OwnOpt}
use Rattle.clnp_header.specs.declared.pdu.Pdu.{Pdu}
use Rattle.clnp_system.specs.Setting.{Setting, bound_of, is_own_title}
use Rattle.clnp_system.specs.Tables.{Tables}
use Rattle.clnp_system.specs.Node.{Node, Frame, Reaction}
use Rattle.clnp_system.specs.Written.{CutFrames}
use Rattle.clnp_system.specs.Redirect.{RedirectsTo}
use Rattle.clnp_system.specs.Reporting.{Discarded, Discards}

-- the own title, where it stands at the offset, is passed
abbrev pub past_own : Setting → SourceRoute → List (List ℕ) → SourceRoute
past_own setting route [] = route
past_own setting route (entry ∷ ahead) = if is_own_title setting entry then moved route else route

-- the value of a route that is that one, as octets that differ at the offset alone
pub record Passes (setting : Setting) (old new : List ℕ) : Type 0 where
  pub route : SourceRoute
  pub is : IsSourceRoute old route
  pub passed : IsSourceRoute new (past_own setting route route.ahead)

-- the own title is recorded where it fits; where it does not, the recording ends; one that ended stays
pub data Records (title old new : List ℕ) : Type 0 where
  Written : (recording : Recording) → IsOpen old recording → 1 + length title ≤ length recording.space
      → new ≡ recording_octets (with_title recording title) → Records title old new
  Full : (recording : Recording) → IsOpen old recording → length recording.space < 1 + length title → new ≡ slice_set old 1 255
      → Records title old new
  Ended : (kind : ℕ) (rest : List ℕ) → IsEnded old kind rest → new ≡ old → Records title old new

-- an option as it goes onward
pub data IsOptionOnward (setting : Setting) (old new : OwnOpt) : Type 0 where
  Routed : old.code ≡ 0xc8 → new.code ≡ 0xc8 → Passes setting old.value new.value → IsOptionOnward setting old new
  Recorded : old.code ≡ 0xcb → new.code ≡ 0xcb → Records setting.title old.value new.value → IsOptionOnward setting old new
  Other : old.code ≢ 0xc8 → old.code ≢ 0xcb → new ≡ old → IsOptionOnward setting old new

abbrev pub AreOptionsOnward : Setting → List OwnOpt → List OwnOpt → Type 0
AreOptionsOnward setting [] new = new ≡ []
AreOptionsOnward setting (option ∷ options) new =
    (first : OwnOpt) × (rest : List OwnOpt) × IsOptionOnward setting option first × AreOptionsOnward setting options rest × (new ≡ first ∷ rest)

-- the PDU as it goes onward: the lifetime falls by the bound of the LAN
pub record IsOnward (setting : Setting) (bound : ℕ) (old new : Pdu) : Type 0 where
  pub options : AreOptionsOnward setting old.options new.options
  pub else_same : new ≡ record old { lifetime = old.lifetime - bound; options = new.options }

-- it goes to the hop, cut for its LAN, and a redirect goes to the sender; or there are no frames, since it may not be cut
abbrev pub Forwards : Setting → Port → Port → Pdu → Hop → Option (List Frame) → Type 0
Forwards setting from at pdu hop (Some frames) =
    (onward : Pdu) × (sent redirect : List Frame) × IsOnward setting (bound_of setting at.lan) pdu onward × CutFrames setting hop.port onward (Some sent)
    × RedirectsTo setting from at pdu.destination hop redirect × (frames ≡ sent ++ redirect)
Forwards setting from at pdu hop None =
    (onward : Pdu) × IsOnward setting (bound_of setting at.lan) pdu onward × CutFrames setting hop.port onward None

-- it is sent, or is discarded since it may not be cut
pub data GoesOnward {N : Type 0} (tables : Tables N) (node : Node N) (now : ℕ) (frame : Frame) (pdu : Pdu) (hop : Hop) (discarded : Discarded)
    (reaction : Reaction) : Type 0 where
  Sent : (frames : List Frame) → Forwards node.setup frame.from frame.to pdu hop (Some frames) → reaction ≡ record { ups = []; frames = frames }
      → GoesOnward tables node now frame pdu hop discarded reaction
  TooLong : Forwards node.setup frame.from frame.to pdu hop None → Discards tables node now discarded reaction
      → GoesOnward tables node now frame pdu hop discarded reaction
