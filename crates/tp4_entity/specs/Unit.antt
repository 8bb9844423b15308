-- A unit that came: its TPDUs one after another (X.224, concatenation and separation).
use Rattle.std.specs.Prelude.{◌≡◌, ◌≢◌, ℕ, ◌+◌, Bool, true, false, List, [], ◌∷◌, ◌++◌, Option, Some, None}
use Rattle.tpdu.specs.declared.fault.TpduFault.{TpduFault}
use Rattle.tpdu.specs.declared.tpdu.Format.{Format}
use Rattle.tpdu.specs.declared.tpdu.Format.TheVariants.{Normal, Extended}
use Rattle.tpdu.specs.Faults.{IsTpduFault}
use Rattle.tpdu.specs.Grammar.{BeginsWithTpdu}
use Rattle.tpdu.specs.Values.{TpduAndSum}
use Rattle.tp4_flow.specs.declared.step.EndEvent.{EndEvent}
use Rattle.tp4_flow.specs.declared.step.What.TheVariants.{BadTpdu, Silent}
use Rattle.tp4_conn.specs.End.{End, agreed_format}
use Rattle.tp4_entity.specs.Entity.{Entity, Acted, at}
use Rattle.tp4_entity.specs.Association.{met}
use Rattle.tp4_entity.specs.Silence.{is_silent}

-- in front of others, where it holds
abbrev pub listed_if : Format → ℕ → List ℕ → List ℕ
listed_if Normal reference others = others
listed_if Extended reference others = reference ∷ others

-- the references, from that one on, whose ends agreed on extended formats
abbrev pub extended_from : ℕ → List (Option End) → List ℕ
extended_from reference [] = []
extended_from reference (None ∷ ends) = extended_from (reference + 1) ends
extended_from reference (Some end ∷ ends) = listed_if (agreed_format end.base.agreed) reference (extended_from (reference + 1) ends)

abbrev pub extended_of : Entity → List ℕ
extended_of e = extended_from 1 e.ends

-- the octets are these TPDUs, one after another, and then the rest
abbrev pub Separates : List ℕ → List ℕ → List TpduAndSum → List ℕ → Type 0
Separates extended octets [] rest = octets ≡ rest
Separates extended octets (tpdu ∷ tpdus) rest = (behind : List ℕ) × BeginsWithTpdu extended octets tpdu behind × Separates extended behind tpdus rest

-- nothing is left, or no TPDU, and its fault is told
pub data EndsWith (extended rest : List ℕ) (told : List EndEvent) : Type 0 where
  Whole : rest ≡ [] → told ≡ [] → EndsWith extended rest told
  Faulty : (fault : TpduFault) → rest ≢ [] → IsTpduFault extended rest fault
      → told ≡ record { reference = 0; what = BadTpdu fault.cause fault.place } ∷ [] → EndsWith extended rest told

abbrev pub followed : Acted → Acted → Acted
followed first second = record { entity = second.entity; events = first.events ++ second.events; tpdus = first.tpdus ++ second.tpdus }

-- what the TPDUs do, one after another
abbrev pub all_met : (ℕ → ℕ → ℕ) → ℕ → Entity → List ℕ → List TpduAndSum → Acted
all_met wrap now e from [] = record { entity = e; events = []; tpdus = [] }
all_met wrap now e from (tpdu ∷ tpdus) = let first = met wrap now e from tpdu in followed first (all_met wrap now first.entity from tpdus)

-- a unit from that address. The formats are those that the ends agreed on before it came
pub record HearsUnit (wrap : ℕ → ℕ → ℕ) (now : ℕ) (old : Entity) (from octets : List ℕ) (new : Acted) : Type 0 where
  pub tpdus : List TpduAndSum
  pub rest : List ℕ
  pub told : List EndEvent
  pub separates : Separates (extended_of old) octets tpdus rest
  pub ends : EndsWith (extended_of old) rest told
  pub entity : new.entity ≡ (all_met wrap now (at now old) from tpdus).entity
  pub events : new.events ≡ (all_met wrap now (at now old) from tpdus).events ++ told
  pub tpdus_are : new.tpdus ≡ (all_met wrap now (at now old) from tpdus).tpdus

-- a silent entity tells a unit, and does nothing else
abbrev pub ignored : ℕ → Entity → Acted
ignored now e = record { entity = at now e; events = record { reference = 0; what = Silent } ∷ []; tpdus = [] }

abbrev pub TakesBy : Bool → (ℕ → ℕ → ℕ) → ℕ → Entity → List ℕ → List ℕ → Acted → Type 0
TakesBy true wrap now old from octets new = new ≡ ignored now old
TakesBy false wrap now old from octets new = HearsUnit wrap now old from octets new

-- a unit that comes, silent or not
abbrev pub TakesUnit : (ℕ → ℕ → ℕ) → ℕ → Entity → List ℕ → List ℕ → Acted → Type 0
TakesUnit wrap now old from octets new = TakesBy (is_silent now old) wrap now old from octets new
