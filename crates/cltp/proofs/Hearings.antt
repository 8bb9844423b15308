-- What comes up gives one list of events: each unit one event at the system to whose users it is sent, and nothing elsewhere.
use Rattle.std.proofs.Common.{◌≡◌, ◌⊎◌, ℕ, Bool, true, false, List, [], ◌∷◌, ◌++◌, Option, Some, None, refl, sym, ◌∙◌, ap, subst, inl, inr, append_assoc}
use Rattle.std.proofs.lemmas.List.{append-nil}
use Rattle.osi_base.specs.declared.unit.Arrival.{Arrival}
use Rattle.osi_base.specs.declared.unit.Unit.{Unit as CarriedUnit}
use Rattle.osi_base.specs.declared.unit.Up.{Up}
use Rattle.osi_base.specs.declared.unit.Up.TheVariants.{Unit as Came, Note as Noted}
use Rattle.script_journal.specs.declared.event.Event.{Event}
use Rattle.script_journal.specs.declared.event.Event.TheVariants as events
use Rattle.cltp.specs.declared.fault.UdFault.{UdFault}
use Rattle.cltp.specs.declared.system.ClSystem.{ClSystem}
use Rattle.cltp.specs.Faults.{IsUdFault}
use Rattle.cltp.specs.Hearing.{TellsOf, Bad, NoUser, Shown, HearsIf, HearsAt, Hears, HearsAll}
use Rattle.cltp.specs.Laws.{OneHearing}
use Rattle.cltp.specs.Systems.{has_selector, is_for, system_at}
use Rattle.cltp.specs.Ud.{Ud, IsUd}
use Rattle.cltp.specs.steps.TakingUp.{HearsUp}
use Rattle.cltp.proofs.Answer.{apart, either, same_fault, same_value}

pub hears_there : (systems : List ClSystem) (arrival : Arrival (List ℕ)) (own : ClSystem) (event : Event) → system_at systems arrival.system ≡ Some own
    → is_for own arrival.unit.to ≡ true → TellsOf own arrival.unit event → Hears systems arrival (event ∷ [])
hears_there systems arrival own event is fits tells =
    let here : HearsIf own arrival.unit true (event ∷ []) = (event, tells, refl) in
    let at : HearsAt (Some own) arrival.unit (event ∷ []) = subst (λ (b : Bool). HearsIf own arrival.unit b (event ∷ [])) (sym fits) here in
    subst (λ (o : Option ClSystem). HearsAt o arrival.unit (event ∷ [])) (sym is) at

-- one thing more came up
pub hears_last : (systems : List ClSystem) (ups : List (Up (List ℕ))) (up : Up (List ℕ)) (heard here : List Event)
    → HearsAll systems ups heard → HearsUp systems up here → HearsAll systems (ups ++ up ∷ []) (heard ++ here)
hears_last systems [] (Noted note) heard here all one = subst (λ (h : List Event). h ++ here ≡ []) (sym all) one
hears_last systems [] (Came arrival) heard here all one = (here, [], one, refl, ap (λ (h : List Event). h ++ here) all ∙ sym (append-nil here))
hears_last systems (Noted note ∷ ups) up heard here all one = hears_last systems ups up heard here all one
hears_last systems (Came arrival ∷ ups) up heard here all one =
    (all.0, all.1 ++ here, all.2, hears_last systems ups up all.1 here all.3 one, ap (λ (h : List Event). h ++ here) all.4 ∙ append_assoc all.0 all.1 here)

-- ---- one list of events

tells_some : (own : ClSystem) (unit : CarriedUnit (List ℕ)) → (event : Event) × TellsOf own unit event
tells_some own unit = by (either unit.octets)
  where
    by_user : (ud : Ud) → IsUd unit.octets ud → (b : Bool) → has_selector own ud.to ≡ b → (event : Event) × TellsOf own unit event
    by_user ud is true has = (events.Datagram own.system unit.from ud.from ud.to ud.octets, Shown ud is has refl)
    by_user ud is false has = (events.NoUser own.system, NoUser ud is has refl)

    by : ((ud : Ud) × IsUd unit.octets ud) ⊎ ((fault : UdFault) × IsUdFault unit.octets fault) → (event : Event) × TellsOf own unit event
    by (inl found) = by_user found.0 found.1 (has_selector own found.0.to) refl
    by (inr found) = (events.BadUd own.system found.0.cause found.0.place, Bad found.0 found.1 refl)

clash : {X : Type 0} (b : Bool) → b ≡ true → b ≡ false → X
clash true is not = absurd cc
clash false is not = absurd cc

tells_one : (own : ClSystem) (unit : CarriedUnit (List ℕ)) (event other : Event) → TellsOf own unit event → TellsOf own unit other → event ≡ other
tells_one own unit event other (Bad fault is e) (Bad second also f) = e ∙ ap (λ (x : UdFault). events.BadUd own.system x.cause x.place) (same_fault unit.octets fault second is also) ∙ sym f
tells_one own unit event other (Bad fault is e) (NoUser ud also has f) = absurd (apart unit.octets ud fault also is)
tells_one own unit event other (Bad fault is e) (Shown ud also has f) = absurd (apart unit.octets ud fault also is)
tells_one own unit event other (NoUser ud is has e) (Bad fault also f) = absurd (apart unit.octets ud fault is also)
tells_one own unit event other (NoUser ud is has e) (NoUser second also then f) = e ∙ sym f
tells_one own unit event other (NoUser ud is has e) (Shown second also then f) =
    clash (has_selector own ud.to) (ap (λ (u : Ud). has_selector own u.to) (same_value unit.octets ud second is also) ∙ then) has
tells_one own unit event other (Shown ud is has e) (Bad fault also f) = absurd (apart unit.octets ud fault is also)
tells_one own unit event other (Shown ud is has e) (NoUser second also then f) =
    clash (has_selector own ud.to) has (ap (λ (u : Ud). has_selector own u.to) (same_value unit.octets ud second is also) ∙ then)
tells_one own unit event other (Shown ud is has e) (Shown second also then f) =
    e ∙ ap (λ (u : Ud). events.Datagram own.system unit.from u.from u.to u.octets) (same_value unit.octets ud second is also) ∙ sym f

if_some : (own : ClSystem) (unit : CarriedUnit (List ℕ)) (b : Bool) → (made : List Event) × HearsIf own unit b made
if_some own unit false = ([], refl)
if_some own unit true = let t = tells_some own unit in (t.0 ∷ [], (t.0, t.1, refl))

at_some : (o : Option ClSystem) (unit : CarriedUnit (List ℕ)) → (made : List Event) × HearsAt o unit made
at_some None unit = ([], refl)
at_some (Some own) unit = if_some own unit (is_for own unit.to)

if_one : (own : ClSystem) (unit : CarriedUnit (List ℕ)) (b : Bool) (made other : List Event) → HearsIf own unit b made → HearsIf own unit b other → made ≡ other
if_one own unit false made other h k = h ∙ sym k
if_one own unit true made other h k = h.2 ∙ ap (λ (e : Event). e ∷ []) (tells_one own unit h.0 k.0 h.1 k.1) ∙ sym k.2

at_one : (o : Option ClSystem) (unit : CarriedUnit (List ℕ)) (made other : List Event) → HearsAt o unit made → HearsAt o unit other → made ≡ other
at_one None unit made other h k = h ∙ sym k
at_one (Some own) unit made other h k = if_one own unit (is_for own unit.to) made other h k

pub one_hearing : OneHearing
one_hearing = record {
  some = λ systems arrival. at_some (system_at systems arrival.system) arrival.unit;
  one = λ systems arrival made other h k. at_one (system_at systems arrival.system) arrival.unit made other h k;
}
