-- What a unit of one TPDU that was sent is read as (X.224, concatenation and separation; structure and encoding of TPDUs).
use Rattle.std.specs.Prelude.{◌≡◌, ◌⊎◌, ℕ, false, List, [], ◌∷◌}
use Rattle.tpdu.specs.declared.fault.TpduCause.{TpduCause}
use Rattle.tpdu.specs.Kinds.{has_number}
use Rattle.tpdu.specs.Values.{TpduAndSum, destination_of, format_for}
use Rattle.tpdu.specs.Writing.{IsAllowed, is_summed, kind_for}
use Rattle.tp4_flow.specs.declared.step.EndEvent.{EndEvent}
use Rattle.tp4_flow.specs.declared.step.Sent.{Sent}
use Rattle.tp4_flow.specs.declared.step.What.TheVariants.{BadTpdu}

-- kind and destination are as they were sent; and all of it, with its checksum or without, but for a DT, ED, AK or EA that is read in
-- another format
pub record IsReadAs (extended : List ℕ) (sent : Sent) (tpdu : TpduAndSum) : Type 0 where
  pub kind : kind_for tpdu.0 ≡ kind_for sent.tpdu
  pub target : destination_of tpdu.0 ≡ destination_of sent.tpdu
  pub control : has_number (kind_for sent.tpdu) ≡ false → tpdu ≡ (sent.tpdu, is_summed sent.sum sent.tpdu)
  pub flow : format_for extended (destination_of sent.tpdu) ≡ sent.format → tpdu ≡ (sent.tpdu, is_summed sent.sum sent.tpdu)
  pub allowed : IsAllowed (format_for extended (destination_of tpdu.0)) tpdu.0

-- the unit is that TPDU alone
pub record IsOne (extended : List ℕ) (sent : Sent) (tpdus : List TpduAndSum) (rest : List ℕ) (told : List EndEvent) : Type 0 where
  pub tpdu : TpduAndSum
  pub tpdus_are : tpdus ≡ tpdu ∷ []
  pub rest_is : rest ≡ []
  pub told_is : told ≡ []
  pub read_as : IsReadAs extended sent tpdu

-- no TPDU stands there, and its fault is told
pub record IsBad (tpdus : List TpduAndSum) (told : List EndEvent) : Type 0 where
  pub cause : TpduCause
  pub place : ℕ
  pub tpdus_are : tpdus ≡ []
  pub told_is : told ≡ record { reference = 0; what = BadTpdu cause place } ∷ []

abbrev pub IsOneOrBad : List ℕ → Sent → List TpduAndSum → List ℕ → List EndEvent → Type 0
IsOneOrBad extended sent tpdus rest told = IsOne extended sent tpdus rest told ⊎ IsBad tpdus told
