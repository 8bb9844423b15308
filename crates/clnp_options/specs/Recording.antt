-- The value of the option on recording of route (X.233, record route): kind, offset, the entries recorded, and space.
use Rattle.std.specs.Prelude.{◌≡◌, ℕ, ◌+◌, ◌<◌, ◌≤◌, ◌==◌, ◌⊎◌, List, [], ◌∷◌, ◌++◌, length, drop, Bool, false, ◌&&◌, ◌||◌, nat_lt, nat_le, All}
use Rattle.pdu_parts.specs.Field.{IsAddress}
use Rattle.clnp_options.specs.Titles.{entries, are_entries_to}

-- a recording that goes on: its kind (0 partial, 1 complete), the titles recorded, and the octets of space after them
pub record Recording : Type 0 where
  pub kind : ℕ
  pub recorded : List (List ℕ)
  pub space : List ℕ

-- the octets of a recording that goes on
abbrev pub recording_octets : Recording → List ℕ
recording_octets recording =
    recording.kind ∷ (3 + length (entries recording.recorded)) ∷ entries recording.recorded ++ recording.space

-- the recording with one more title, which its space holds
abbrev pub with_title : Recording → List ℕ → Recording
with_title recording title = record recording { recorded = recording.recorded ++ title ∷ []; space = drop (1 + length title) recording.space }

-- The value is that recording. The offset counts from 1 over the value and is that of the space.
pub record IsOpen (value : List ℕ) (recording : Recording) : Type 0 where
  pub kind : recording.kind ≤ 1
  pub titles : All IsAddress recording.recorded
  pub parts : value ≡ recording_octets recording
  pub goes_on : 3 + length (entries recording.recorded) < 255
  pub short : length value < 255

-- the value is a recording that ended: its offset is 255, and nothing after that is read
pub record IsEnded (value : List ℕ) (kind : ℕ) (rest : List ℕ) : Type 0 where
  pub kind_is : kind ≤ 1
  pub parts : value ≡ kind ∷ 255 ∷ rest
  pub short : length value < 255

-- the value is a recording
abbrev pub IsRecording : List ℕ → Type 0
IsRecording value = ((recording : Recording) × IsOpen value recording) ⊎ ((kind : ℕ) × (rest : List ℕ) × IsEnded value kind rest)

-- whether the value is a recording
abbrev pub is_recording : List ℕ → Bool
is_recording [] = false
is_recording (kind ∷ []) = false
is_recording (kind ∷ offset ∷ octets) = nat_le kind 1 && nat_lt (length octets) 253 && (offset == 255 || are_entries_to offset octets)
