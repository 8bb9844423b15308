-- A unit of a user, where nothing waits: it is queued, and what may go goes.
use Rattle.std.proofs.Common.{ℕ, List, [], ◌∷◌, ◌++◌, length-append, Option, Some, None, refl, arith}
use Rattle.tp4_flow.specs.ReceivingHalf.{Half}
use Rattle.tp4_sending.specs.SendingHalf.{FlowSender, submitted, urged}
use Rattle.tp4_sending.specs.declared.tries.Tries.{Tries}
use Rattle.script_journal.specs.Lawful.{Normal, Expedited}
use Rattle.law_tp4_pair.proofs.Carried.{submit_carry, urge_carry}
use Rattle.law_tp4_pair.specs.Flowing.{HasUnit, IsCalm}
use Rattle.law_tp4_pair.proofs.Going.{flows_as, level_there}
use Rattle.law_tp4_pair.proofs.Hearing.{CalmAfter, new_after}

pub submitted_calm : (s : FlowSender) (h : Half) (dts eds eas unit : List ℕ) → IsCalm s h dts eds [] eas → CalmAfter s (Normal unit ∷ []) (submitted s unit) h dts eds [] eas
submitted_calm s h dts eds eas unit c =
    let f = c.flows in
    let o = f.ordered in
    let level = level_there s h dts eds eas c in
    let t = record s { queue = record s.queue { units = s.queue.units ++ unit ∷ [] } } in
    new_after s t (Normal unit ∷ []) h dts eds [] eas (flows_as f t (record { is_open = o.is_open; first = o.first; window = o.window; high = o.high; edge = o.edge; unit = o.unit }))
    (record { known = level.known; waiting_are = level.waiting_are }) refl
    (λ pieces units gave showed d u full k. submit_carry s h pieces units gave showed unit full.0 k)

unit_more : (units : List (List ℕ)) (unit : List ℕ) (out : Option Tries) → HasUnit units out → HasUnit (units ++ unit ∷ []) out
unit_more units unit None h = tt
unit_more units unit (Some tries) h = omega (arith, length-append units (unit ∷ []))

pub urged_calm : (s : FlowSender) (h : Half) (dts eds eas unit : List ℕ) → IsCalm s h dts eds [] eas → CalmAfter s (Expedited unit ∷ []) (urged s unit) h dts eds [] eas
urged_calm s h dts eds eas unit c =
    let f = c.flows in
    let o = f.ordered in
    let level = level_there s h dts eds eas c in
    let t = record s { urgent = record s.urgent { units = s.urgent.units ++ unit ∷ [] } } in
    new_after s t (Expedited unit ∷ []) h dts eds [] eas
    (flows_as f t (record { is_open = o.is_open; first = o.first; window = o.window; high = o.high; edge = o.edge; unit = unit_more s.urgent.units unit s.urgent.out o.unit }))
    (record { known = level.known; waiting_are = level.waiting_are }) refl
    (λ pieces units gave showed d u full k. urge_carry s h pieces units gave showed unit o.unit k)
