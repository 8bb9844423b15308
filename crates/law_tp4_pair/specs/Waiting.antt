-- TPDUs that were sent and wait to be handed over, in order: what those of one kind carry (X.224, structure and encoding of TPDUs).
use Rattle.std.specs.Prelude.{◌≡◌, ℕ, zero, suc, ◌+◌, List, [], ◌∷◌, ◌++◌}
use Rattle.tpdu.specs.declared.tpdu.Tpdu.{Tpdu}
use Rattle.tpdu.specs.declared.tpdu.Tpdu.TheVariants.{Dt, Ed, Ak, Ea}
use Rattle.tp4_flow.specs.declared.rules.FlowRules.{FlowRules}
use Rattle.tp4_flow.specs.declared.step.Sent.{Sent}
use Rattle.tp4_number.specs.Number.{wire}

-- what an AK says of a receiver: the number expected, its credit, its subsequence
pub record View : Type 0 where
  pub number : ℕ
  pub credit : ℕ
  pub subsequence : ℕ

-- the numbers of DTs, as they stand on the wire
abbrev pub dt_in : Tpdu → List ℕ
dt_in (Dt destination last number text) = number ∷ []
dt_in other = []

abbrev pub dts_in : List Sent → List ℕ
dts_in [] = []
dts_in (sent ∷ tpdus) = dt_in sent.tpdu ++ dts_in tpdus

-- the numbers of EDs
abbrev pub ed_in : Tpdu → List ℕ
ed_in (Ed destination last number text) = number ∷ []
ed_in other = []

abbrev pub eds_in : List Sent → List ℕ
eds_in [] = []
eds_in (sent ∷ tpdus) = ed_in sent.tpdu ++ eds_in tpdus

-- what AKs say
abbrev pub ak_in : Tpdu → List View
ak_in (Ak destination number credit subsequence confirmation) = record { number = number; credit = credit; subsequence = subsequence } ∷ []
ak_in other = []

abbrev pub aks_in : List Sent → List View
aks_in [] = []
aks_in (sent ∷ tpdus) = ak_in sent.tpdu ++ aks_in tpdus

-- the numbers of EAs
abbrev pub ea_in : Tpdu → List ℕ
ea_in (Ea destination number) = number ∷ []
ea_in other = []

abbrev pub eas_in : List Sent → List ℕ
eas_in [] = []
eas_in (sent ∷ tpdus) = ea_in sent.tpdu ++ eas_in tpdus

-- a DT, an ED, an AK or an EA for that reference
abbrev pub IsDataFor : ℕ → Tpdu → Type 0
IsDataFor partner (Dt destination last number text) = destination ≡ partner
IsDataFor partner (Ed destination last number text) = destination ≡ partner
IsDataFor partner (Ak destination number credit subsequence confirmation) = destination ≡ partner
IsDataFor partner (Ea destination number) = destination ≡ partner
IsDataFor partner other = ⊥

-- from a half with these terms
pub record IsFrom (rules : FlowRules) (sent : Sent) : Type 0 where
  pub to : sent.to ≡ rules.to
  pub format : sent.format ≡ rules.format
  pub sum : sent.sum ≡ rules.sum
  pub kind : IsDataFor rules.partner sent.tpdu

abbrev pub AreData : FlowRules → List Sent → Type 0
AreData rules [] = Unit {0}
AreData rules (sent ∷ tpdus) = IsFrom rules sent × AreData rules tpdus

-- so many numbers from n on, in order, as they stand on the wire
abbrev pub wires : ℕ → ℕ → ℕ → List ℕ
wires block n zero = []
wires block n (suc count) = wire block n ∷ wires block (n + 1) count

-- what AKs say, with the numbers as they stand on the wire
abbrev pub views : ℕ → List View → List View
views block [] = []
views block (view ∷ rest) = record view { number = wire block view.number } ∷ views block rest
