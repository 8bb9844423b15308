-- That none of the steps of an entity sends an ER (X.224, class 4 state tables: what is wrong is not answered).
use Rattle.std.specs.Prelude.{ℕ, List, [], ◌∷◌}
use Rattle.tpdu.specs.declared.tpdu.Tpdu.{Tpdu}
use Rattle.tpdu.specs.declared.tpdu.Tpdu.TheVariants.{Er}
use Rattle.tpdu.specs.Values.{TpduAndSum}
use Rattle.tp4_number.specs.Number.{whole}
use Rattle.tp4_flow.specs.declared.step.Sent.{Sent}
use Rattle.tp4_conn.specs.declared.call.ConnectRequest.{ConnectRequest}
use Rattle.tp4_conn.specs.declared.call.UserCall.{UserCall}
use Rattle.tp4_entity.specs.Association.{met}
use Rattle.tp4_entity.specs.Entity.{Entity}
use Rattle.tp4_entity.specs.Step.{calling, connecting, ticking}

abbrev pub IsNoEr : Tpdu → Type 0
IsNoEr (Er destination cause rejected) = ⊥
IsNoEr tpdu = Unit {0}

abbrev pub HasNoEr : List Sent → Type 0
HasNoEr [] = Unit {0}
HasNoEr (sent ∷ tpdus) = IsNoEr sent.tpdu × HasNoEr tpdus

-- none of its steps sends an ER
pub record SendsNoEr (now : ℕ) (entity : Entity) : Type 0 where
  pub connects : (reference : ℕ) (request : ConnectRequest) → HasNoEr (connecting now entity reference request).tpdus
  pub calls : (reference : ℕ) (call : UserCall) → HasNoEr (calling whole now entity reference call).tpdus
  pub ticks : HasNoEr (ticking whole now entity).tpdus
  pub meets : (from : List ℕ) (tpdu : TpduAndSum) → HasNoEr (met whole now entity from tpdu).tpdus
