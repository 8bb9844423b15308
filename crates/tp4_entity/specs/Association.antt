-- What an entity does with a TPDU: the end that it belongs to, or a stateless answer (X.224, class 4: association of TPDUs with
-- connections; connection establishment; response to a TPDU that belongs to no connection).
use Rattle.std.specs.Prelude.{ℕ, ◌==◌, Bool, true, false, not, ◌&&◌, nat_eq, if◌then◌else◌, List, [], ◌∷◌, Option, Some, None}
use Rattle.std.specs.List.{list_any}
use Rattle.std.specs.Cmp.Lexicographic.{pointwise}
use Rattle.tpdu.specs.declared.tpdu.Format.TheVariants.{Normal}
use Rattle.tpdu.specs.declared.tpdu.Tpdu.{Tpdu}
use Rattle.tpdu.specs.declared.tpdu.Tpdu.TheVariants.{Cr, Cc, Dr, Dc}
use Rattle.tpdu.specs.Values.{TpduAndSum, destination_of}
use Rattle.tpdu.specs.Writing.{kind_for}
use Rattle.tp4_flow.specs.declared.step.Sent.{Sent}
use Rattle.tp4_flow.specs.declared.step.What.TheVariants.{Unknown}
use Rattle.tp4_conn.specs.declared.states.StateData.{StateData}
use Rattle.tp4_conn.specs.declared.states.StateData.TheVariants.{Frozen}
use Rattle.tp4_conn.specs.End.{End, Moved}
use Rattle.tp4_conn.specs.Making.{on_cr}
use Rattle.tp4_conn.specs.Matching.{is_called_by, is_match}
use Rattle.tp4_conn.specs.Table.{Took, stepped}
use Rattle.tp4_entity.specs.Entity.{Entity, Acted, end_at, moved}
use Rattle.tp4_entity.specs.References.{least_free}

abbrev pub is_frozen : StateData → Bool
is_frozen (Frozen when) = true
is_frozen other = false

-- a called end of that calling address and reference, frozen or not
abbrev pub is_called : Bool → List ℕ → ℕ → Option End → Bool
is_called frozen from reference None = false
is_called true from reference (Some end) = is_called_by end.base from reference && is_frozen end.stage
is_called false from reference (Some end) = is_called_by end.base from reference && not (is_frozen end.stage)

abbrev pub is_registered : List (List ℕ) → List ℕ → Bool
is_registered selectors selector = list_any (λ other. pointwise nat_eq other selector) selectors

-- an answer of the entity itself, always with a checksum
abbrev pub answer : List ℕ → Tpdu → Sent
answer to tpdu = record { to = to; tpdu = tpdu; format = Normal; sum = true }

-- a DR whose source reference is 0
abbrev pub refusal : List ℕ → ℕ → ℕ → Sent
refusal to reference reason = answer to (Dr reference 0 reason None [])

-- nothing but this answer
abbrev pub answers : Entity → List Sent → Acted
answers e tpdus = record { entity = e; events = []; tpdus = tpdus }

abbrev pub calls : Entity → ℕ → Option Moved → Acted
calls e reference None = answers e []
calls e reference (Some m) = moved e reference m

-- with a free reference a new end waits for its user; else the answer is DR 129
abbrev pub new_end : ℕ → Entity → List ℕ → ℕ → Tpdu → Option ℕ → Acted
new_end now e from source cr None = answers e (refusal from source 129 ∷ [])
new_end now e from source cr (Some reference) = calls e reference (on_cr now reference from e.timers cr)

-- a CR from that address and reference, to that selector, the first that applies: its end is there, and it is ignored; its end is
-- frozen, DR 131; its selector is not registered, DR 3; no reference is free, DR 129; a new end
abbrev pub requested : ℕ → Entity → List ℕ → ℕ → List ℕ → Tpdu → Acted
requested now e from source called cr =
    if list_any (is_called false from source) e.ends then answers e []
    else if list_any (is_called true from source) e.ends then answers e (refusal from source 131 ∷ [])
    else if not (is_registered e.selectors called) then answers e (refusal from source 3 ∷ [])
    else new_end now e from source cr (least_free now e)

-- the answer to a TPDU that belongs to no end: DR 132 to a CC; to a DR that has a source a DC with both references swapped
abbrev pub stateless : List ℕ → Tpdu → List Sent
stateless from (Cc credit destination source width calling called size preferred extra version classes ack_time text) = refusal from source 132 ∷ []
stateless from (Dr destination source reason info text) = if source == 0 then [] else answer from (Dc source destination) ∷ []
stateless from other = []

-- a TPDU that belongs to no end is told
abbrev pub unmatched : Entity → List ℕ → Tpdu → Acted
unmatched e from tpdu = record {
  entity = e;
  events = record { reference = 0; what = Unknown (kind_for tpdu) } ∷ [];
  tpdus = stateless from tpdu;
}

-- a TPDU with that destination reference, where that end stands there
abbrev pub met_by : (ℕ → ℕ → ℕ) → ℕ → Entity → List ℕ → TpduAndSum → ℕ → Option End → Acted
met_by wrap now e from tpdu reference None = unmatched e from tpdu.0
met_by wrap now e from tpdu reference (Some end) =
    if is_match end.base end.stage from tpdu.0 then moved e reference (stepped wrap now end (Took tpdu.0 tpdu.1)) else unmatched e from tpdu.0

abbrev pub met_at : (ℕ → ℕ → ℕ) → ℕ → Entity → List ℕ → TpduAndSum → Option ℕ → Acted
met_at wrap now e from tpdu None = unmatched e from tpdu.0
met_at wrap now e from tpdu (Some reference) = met_by wrap now e from tpdu reference (end_at e reference)

-- what a TPDU from that address does. `wrap` is what a receiving half keeps of a number, by its block
abbrev pub met : (ℕ → ℕ → ℕ) → ℕ → Entity → List ℕ → TpduAndSum → Acted
met wrap now e from (Cr credit source width calling called size preferred extra version classes ack_time text, sum) =
    requested now e from source called (Cr credit source width calling called size preferred extra version classes ack_time text)
met wrap now e from tpdu = met_at wrap now e from tpdu (destination_of tpdu.0)
