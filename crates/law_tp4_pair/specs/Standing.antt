-- What holds of a pair of ends at any time, from the CC on (X.224, class 4 state tables).
use Rattle.std.specs.Prelude.{◌≡◌, ◌⊎◌, ℕ, ◌≤◌, List, [], ◌∷◌, Option, Some}
use Rattle.tp4_flow.specs.ReceivingHalf.{ak}
use Rattle.tp4_flow.specs.declared.rules.FlowRules.{FlowRules}
use Rattle.tpdu.specs.declared.service.Options.{Options}
use Rattle.tp4_flow.specs.declared.step.Sent.{Sent}
use Rattle.tp4_sending.specs.SendingHalf.{at, opened}
use Rattle.tp4_conn.specs.declared.end_record.EndRecord.{EndRecord}
use Rattle.tp4_conn.specs.declared.halves.Halves.{Halves}
use Rattle.tp4_conn.specs.declared.states.InAkWait.{InAkWait}
use Rattle.tp4_conn.specs.declared.states.InOpened.{InOpened}
use Rattle.tp4_conn.specs.declared.states.InCrWait.{InCrWait}
use Rattle.tp4_conn.specs.declared.states.StateData.TheVariants.{CrWait, AkWait, Opened}
use Rattle.tp4_conn.specs.Agreeing.{confirm, halves_of}
use Rattle.tp4_conn.specs.End.{IsSized}
use Rattle.law_tp4_pair.specs.Carrying.{Carries, pieces_in, units_in}
use Rattle.law_tp4_pair.specs.Waiting.{AreData, dts_in, eds_in, aks_in, eas_in}
use Rattle.law_tp4_pair.specs.Flowing.{IsCalm}
use Rattle.law_tp4_pair.specs.Pair.{Account, IsNew, Pair, back_units, forth_units}
pub use Rattle.law_tp4_pair.specs.Left.{HasLeft}

-- what an end has that is Opened: its reference and that of its partner, the partner's address, and what was agreed
pub record Party : Type 0 where
  pub own : ℕ
  pub partner : ℕ
  pub to : List ℕ
  pub agreed : Option Options

abbrev pub party : EndRecord → Party
party b = record { own = b.own; partner = b.partner; to = b.to; agreed = b.agreed }

-- the halves work as agreed, on these terms
pub record IsAgreed (options : Options) (rules : FlowRules) (who : Party) (h : Halves) : Type 0 where
  pub agreed_is : who.agreed ≡ Some options
  pub sending : h.sending.rules ≡ rules
  pub receiving : h.receiving.rules ≡ rules
  pub sum : rules.sum ≡ options.sum
  pub format : rules.format ≡ options.format
  pub to : rules.to ≡ who.to
  pub partner : rules.partner ≡ who.partner

-- two ends that agreed, one with these halves and one with those, what waits for the second and for the first, and the units from the first to
-- the second and back
pub record AreBoth (first second : Party) (h k : Halves) (forth back : List Sent) (u v : Account) : Type 0 where
  pub options : Options
  pub one_rules : FlowRules
  pub other_rules : FlowRules
  pub one : IsAgreed options one_rules first h
  pub other : IsAgreed options other_rules second k
  pub partner : first.partner ≡ second.own
  pub partner_back : second.partner ≡ first.own
  pub forth_are : AreData one_rules forth
  pub back_are : AreData other_rules back
  pub there : IsCalm h.sending k.receiving (dts_in forth) (eds_in forth) (aks_in back) (eas_in back)
  pub here : IsCalm k.sending h.receiving (dts_in back) (eds_in back) (aks_in forth) (eas_in forth)
  pub carried_there : Carries h.sending k.receiving (pieces_in forth) (units_in forth) u.gave u.showed
  pub carried_here : Carries k.sending h.receiving (pieces_in back) (units_in back) v.gave v.showed

-- the CC waits, and nothing else
pub record IsConfirming (b : EndRecord) (c : EndRecord) (w : InAkWait) (forth back : List Sent) : Type 0 where
  pub options : Options
  pub agreed : c.agreed ≡ Some options
  pub halves : w.halves ≡ halves_of c options
  pub named : c.partner ≡ b.own
  pub known : c.credit ≡ b.timers.credit
  pub low : b.timers.credit ≤ 15
  pub low_there : c.timers.credit ≤ 15
  pub size : IsSized options
  pub octets : List ℕ
  pub forth_is : forth ≡ []
  pub back_is : back ≡ confirm c options octets ∷ []

-- the first AK of the calling end waits, and nothing else
pub record IsFirst (b c : EndRecord) (h k : Halves) (forth back : List Sent) (u v : Account) : Type 0 where
  pub both : (now : ℕ) → AreBoth (party b) (party c) h (record k { sending = (opened (at now k.sending)).sender }) forth [] u v
  pub sent : (now : ℕ) → (opened (at now k.sending)).tpdus ≡ []
  pub quiet : (now : ℕ) → (opened (at now k.sending)).events ≡ []
  pub forth_is : forth ≡ ak h.receiving ∷ []
  pub back_is : back ≡ []

-- one of these
pub data Stands (p : Pair) : Type 0 where
  Left : HasLeft p.calling.stage ⊎ HasLeft p.called.stage → Stands p
  Confirming : (r : InCrWait) (w : InAkWait) → p.calling.stage ≡ CrWait r → p.called.stage ≡ AkWait w → IsNew p → IsConfirming p.calling.base p.called.base w p.forth p.back → Stands p
  First : (o : InOpened) (w : InAkWait) → p.calling.stage ≡ Opened o → p.called.stage ≡ AkWait w → IsFirst p.calling.base p.called.base o.halves w.halves p.forth p.back (forth_units p) (back_units p) → Stands p
  Both : (o q : InOpened) → p.calling.stage ≡ Opened o → p.called.stage ≡ Opened q → AreBoth (party p.calling.base) (party p.called.base) o.halves q.halves p.forth p.back (forth_units p) (back_units p) → Stands p
