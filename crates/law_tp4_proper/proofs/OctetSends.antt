-- What each call of the halves sends stands in octets: pieces of units that do, to the address of the partner.
use Rattle.std.proofs.Common.{ℕ, zero, suc, ◌+◌, ◌-◌, Bool, true, false, ◌||◌, ◌==◌, List, [], ◌∷◌, ◌++◌, length, drop, Option, Some, None, arith, nat_lt, nat_le, if◌then◌else◌}
use Rattle.std.specs.Prelude.{not, is_some}
use Rattle.std.proofs.lemmas.Bool.{eqb-false}
use Rattle.osi_base.proofs.Members.{all_both, all_drop, all_take}
use Rattle.law_carrier_answers.specs.Answers.{AreOctets}
use Rattle.tpdu.specs.declared.tpdu.Format.{Format}
use Rattle.tpdu.specs.declared.tpdu.Format.TheVariants.{Normal, Extended}
use Rattle.tp4_number.specs.declared.got.Got.{Got}
use Rattle.tp4_number.specs.declared.got.Got.TheVariants.{Kept, Old, Outside, TooLarge}
use Rattle.tp4_number.specs.declared.piece.Piece.{Piece}
use Rattle.tp4_number.specs.Number.{ahead, near, wire}
use Rattle.tp4_number.specs.Receiver.{Inbox, arrived_as, granted, in_order, judged}
use Rattle.tp4_number.specs.Window.{placed}
use Rattle.tp4_number.proofs.Past.{if_kept}
use Rattle.tp4_flow.specs.ReceivingHalf.{Half, ak, aks, allowed, block_in as block_there, dt_arrival, ea, half_after, half_granted, is_before, is_next, taken_dt, taken_ed}
use Rattle.tp4_flow.specs.declared.rules.Life.{Life}
use Rattle.tp4_flow.specs.declared.rules.Life.TheVariants.{Goes, Exhausted}
use Rattle.tp4_flow.specs.declared.step.Sent.{Sent}
use Rattle.tp4_sending.specs.SendingHalf.{FlowSender, Sendings, acknowledged, acknowledged_to, all_dts, at, before, block_in, dts, dts_of, due_numbers, eds, has_next, is_noted, is_outstanding, is_taken, is_urgent, life_of, new_sends, normals, normals_where, nothing, one_urgent, opened, resends, resends_urgent, resends_urgent_as, rule_allows, sent_normal, submitted, then_sends, ticked, ticked_as, urged, urgent_done}
use Rattle.tp4_sending.specs.Pieces.{Queue, count_in, cut_at, end_of, freed_by, is_due}
use Rattle.tp4_sending.specs.declared.tries.Tries.{Tries}
use Rattle.law_tp4_proper.specs.Octets.{AreAddressed, AreUnits, HalfInOctets, IsAddressed, IsPair, RulesInOctets, SenderInOctets}
use Rattle.law_tp4_proper.proofs.Octets.{IsOctet}

-- ---- pieces

abbrev IsPiece : Option Piece → Type 0
IsPiece None = Unit {0}
IsPiece (Some piece) = AreOctets piece.octets

cut_octets : (size : ℕ) (units : List (List ℕ)) (number : ℕ) → AreUnits units → IsPiece (cut_at size units number)
cut_octets size [] number h = tt
cut_octets size (unit ∷ units) number h =
    if_kept IsPiece (nat_lt number (count_in size unit)) _ _
    (λ _. all_take IsOctet size _ (all_drop IsOctet _ unit h.0))
    (λ _. cut_octets size units (number - count_in size unit) h.1)

freed_units : (size n first : ℕ) (units : List (List ℕ)) → AreUnits units → AreUnits (freed_by size n first units).units
freed_units size n first [] h = tt
freed_units size n first (unit ∷ units) h =
    if_kept (λ (q : Queue). AreUnits q.units) (nat_le (first + count_in size unit) n) _ _ (λ _. freed_units size n (first + count_in size unit) units h.1) (λ _. h)

module _ (is_address : List ℕ → Bool) where
  pub appended : (xs ys : List Sent) → AreAddressed is_address xs → AreAddressed is_address ys → AreAddressed is_address (xs ++ ys)
  appended xs ys h k = all_both (IsAddressed is_address) xs ys h k

  -- ---- a sending half

  pub record SendsInOctets (x : Sendings) : Type 0 where
    pub tpdus : AreAddressed is_address x.tpdus
    pub sender : SenderInOctets is_address x.sender

  no_sends : (s : FlowSender) → SenderInOctets is_address s → SendsInOctets (nothing s)
  no_sends s h = record { tpdus = tt; sender = h }

  dts_in : (s : FlowSender) (n : ℕ) (piece : Option Piece) → RulesInOctets is_address s.rules → IsPiece piece → AreAddressed is_address (dts s n piece)
  dts_in s n None r p = tt
  dts_in s n (Some piece) r p = ((r.to, (r.partner, p)), tt)

  dts_of_in : (s : FlowSender) (n : ℕ) → SenderInOctets is_address s → AreAddressed is_address (dts_of s n)
  dts_of_in s n h = dts_in s n _ h.rules (cut_octets s.rules.piece s.queue.units (n - s.queue.first) h.units)

  all_dts_in : (s : FlowSender) (ns : List ℕ) → SenderInOctets is_address s → AreAddressed is_address (all_dts s ns)
  all_dts_in s [] h = tt
  all_dts_in s (n ∷ ns) h = appended (dts_of s n) (all_dts s ns) (dts_of_in s n h) (all_dts_in s ns h)

  eds_in : (s : FlowSender) (n : ℕ) (units : List (List ℕ)) → RulesInOctets is_address s.rules → AreUnits units → AreAddressed is_address (eds s n units)
  eds_in s n [] r h = tt
  eds_in s n (unit ∷ units) r h = ((r.to, (r.partner, h.0)), tt)

  then_in : (x : Sendings) (next : FlowSender → Sendings) → SendsInOctets x → ((s : FlowSender) → SenderInOctets is_address s → SendsInOctets (next s)) → SendsInOctets (then_sends x next)
  then_in x next h rest =
      let y = rest x.sender h.sender in record { tpdus = appended x.tpdus (next x.sender).tpdus h.tpdus y.tpdus; sender = y.sender }

  one_in : (s : FlowSender) → SenderInOctets is_address s → SendsInOctets (one_urgent s)
  one_in s h =
      if_kept SendsInOctets (is_some s.urgent.out || length s.urgent.units == 0) _ _
      (λ _. no_sends s h)
      (λ _. if_kept SendsInOctets (rule_allows s s.urgent.blocks s.urgent.next) _ _
      (λ _. record { tpdus = eds_in s s.urgent.next s.urgent.units h.rules h.urgent; sender = record { rules = h.rules; units = h.units; urgent = h.urgent } })
      (λ _. if_kept SendsInOctets (is_noted s.urgent.noted s.urgent.next) _ _
      (λ _. no_sends s h)
      (λ _. record { tpdus = tt; sender = record { rules = h.rules; units = h.units; urgent = h.urgent } })))

  before_in : (tpdus : List Sent) (x : Sendings) → AreAddressed is_address tpdus → SendsInOctets x → SendsInOctets (before tpdus x)
  before_in tpdus x first h = record { tpdus = appended tpdus x.tpdus first h.tpdus; sender = h.sender }

  normals_in : (fuel : ℕ) (s : FlowSender) → SenderInOctets is_address s → SendsInOctets (normals fuel s)
  normals_in zero s h = no_sends s h
  normals_in (suc fuel) s h =
      if_kept SendsInOctets (not (has_next s)) _ _
      (λ _. no_sends s h)
      (λ _. if_kept SendsInOctets (rule_allows s s.numbers.blocks s.numbers.next) _ _
      (λ _. before_in (dts_of s s.numbers.next) (normals fuel (sent_normal s)) (dts_of_in s s.numbers.next h)
      (normals_in fuel (sent_normal s) (record { rules = h.rules; units = h.units; urgent = h.urgent })))
      (λ _. if_kept SendsInOctets (is_noted s.noted s.numbers.next) _ _
      (λ _. no_sends s h)
      (λ _. record { tpdus = tt; sender = record { rules = h.rules; units = h.units; urgent = h.urgent } })))

  where_in : (s : FlowSender) → SenderInOctets is_address s → SendsInOctets (normals_where s)
  where_in s h = if_kept SendsInOctets (is_urgent s) _ _ (λ _. no_sends s h) (λ _. normals_in (end_of s.rules.piece s.queue - s.numbers.next) s h)

  new_in : (s : FlowSender) → SenderInOctets is_address s → SendsInOctets (new_sends s)
  new_in s h = if_kept SendsInOctets s.is_open _ _ (λ _. then_in (one_urgent s) normals_where (one_in s h) where_in) (λ _. no_sends s h)

  pub clock_in : (now : ℕ) (s : FlowSender) → SenderInOctets is_address s → SenderInOctets is_address (at now s)
  clock_in now s h = record { rules = h.rules; units = h.units; urgent = h.urgent }

  pub opened_in : (s : FlowSender) → SenderInOctets is_address s → SendsInOctets (opened s)
  opened_in s h = new_in (record s { is_open = true }) (record { rules = h.rules; units = h.units; urgent = h.urgent })

  pub submitted_in : (s : FlowSender) (unit : List ℕ) → SenderInOctets is_address s → AreOctets unit → SendsInOctets (submitted s unit)
  submitted_in s unit h octets =
      new_in (record s { queue = record s.queue { units = s.queue.units ++ unit ∷ [] } })
      (record { rules = h.rules; units = all_both AreOctets s.queue.units (unit ∷ []) h.units (octets, tt); urgent = h.urgent })

  pub urged_in : (s : FlowSender) (unit : List ℕ) → SenderInOctets is_address s → AreOctets unit → SendsInOctets (urged s unit)
  urged_in s unit h octets =
      new_in (record s { urgent = record s.urgent { units = s.urgent.units ++ unit ∷ [] } })
      (record { rules = h.rules; units = h.units; urgent = all_both AreOctets s.urgent.units (unit ∷ []) h.urgent (octets, tt) })

  pub acknowledged_in : (s : FlowSender) (w credit subsequence : ℕ) → SenderInOctets is_address s → SendsInOctets (acknowledged s w credit subsequence)
  acknowledged_in s w credit subsequence h =
      let n = near (block_in s) s.numbers.base w in
      if_kept SendsInOctets (is_taken s n credit subsequence) _ _
      (λ _. new_in (acknowledged_to s n credit subsequence) (record { rules = h.rules; units = freed_units s.rules.piece n s.queue.first s.queue.units h.units; urgent = h.urgent }))
      (λ _. no_sends s h)

  pub done_in : (s : FlowSender) (w : ℕ) → SenderInOctets is_address s → SendsInOctets (urgent_done s w)
  done_in s w h =
      if_kept SendsInOctets (is_outstanding s w) _ _
      (λ _. new_in (record s { urgent = record s.urgent { units = drop 1 s.urgent.units; out = None } })
      (record { rules = h.rules; units = h.units; urgent = all_drop AreOctets 1 s.urgent.units h.urgent }))
      (λ _. no_sends s h)

  resends_in : (s : FlowSender) → SenderInOctets is_address s → SendsInOctets (resends s)
  resends_in s h = record { tpdus = all_dts_in s (due_numbers s) h; sender = record { rules = h.rules; units = h.units; urgent = h.urgent } }

  again_in : (s : FlowSender) (out : Option Tries) → SenderInOctets is_address s → SendsInOctets (resends_urgent_as out s)
  again_in s None h = no_sends s h
  again_in s (Some tries) h =
      if_kept SendsInOctets (is_due s.rules.t1 s.clock tries) _ _
      (λ _. record { tpdus = eds_in s (s.urgent.next - 1) s.urgent.units h.rules h.urgent; sender = record { rules = h.rules; units = h.units; urgent = h.urgent } })
      (λ _. no_sends s h)

  ticked_as_in : (life : Life) (s : FlowSender) → SenderInOctets is_address s → SendsInOctets (ticked_as life s)
  ticked_as_in Exhausted s h = no_sends s h
  ticked_as_in Goes s h =
      then_in (then_sends (resends s) resends_urgent) new_sends (then_in (resends s) resends_urgent (resends_in s h) (λ m in_octets. again_in m m.urgent.out in_octets)) new_in

  pub ticked_in : (s : FlowSender) → SenderInOctets is_address s → SendsInOctets (ticked s)
  ticked_in s h = ticked_as_in (life_of s) s h

  -- ---- a receiving half

  pub ak_in : (h : Half) → HalfInOctets is_address h → AreAddressed is_address (ak h ∷ [])
  ak_in h i = ((i.rules.to, (i.rules.partner, i.credit, i.subsequence)), tt)

  aks_in : (got : Got) (h : Half) → HalfInOctets is_address h → AreAddressed is_address (aks got h)
  aks_in Kept h i = ak_in h i
  aks_in Old h i = ak_in h i
  aks_in Outside h i = ak_in h i
  aks_in TooLarge h i = tt

  record InboxInOctets (inbox : Inbox) : Type 0 where
    credit : IsPair inbox.credit
    subsequence : IsPair inbox.subsequence

  kept_in : (inbox : Inbox) (b : Bool) → IsPair inbox.subsequence → IsPair (if b then inbox.subsequence else 0)
  kept_in inbox true low = low
  kept_in inbox false low = omega arith

  arrived_in : (got : Got) (inbox : Inbox) (d : ℕ) (piece : Piece) → InboxInOctets inbox → InboxInOctets (arrived_as got inbox d piece).inbox
  arrived_in Kept inbox d piece i =
      record { credit = i.credit; subsequence = kept_in inbox ((in_order (placed inbox.held d piece) d).count == 0) i.subsequence }
  arrived_in Old inbox d piece i = i
  arrived_in Outside inbox d piece i = i
  arrived_in TooLarge inbox d piece i = i

  pub after_in : (wrap : ℕ → ℕ → ℕ) (h : Half) (w : ℕ) (piece : Piece) → HalfInOctets is_address h → HalfInOctets is_address (half_after wrap h (dt_arrival h w piece))
  after_in wrap h w piece i =
      let d = ahead (block_there h) (wire (block_there h) h.receiver.expected) w in
      let a = arrived_in (judged (block_there h) h.receiver.inbox d) h.receiver.inbox d piece (record { credit = i.credit; subsequence = i.subsequence }) in
      record { rules = i.rules; credit = a.credit; subsequence = a.subsequence }

  pub dt_in : (wrap : ℕ → ℕ → ℕ) (h : Half) (w : ℕ) (piece : Piece) → HalfInOctets is_address h → AreAddressed is_address (taken_dt wrap h w piece).tpdus
  dt_in wrap h w piece i = aks_in (dt_arrival h w piece).got (half_after wrap h (dt_arrival h w piece)) (after_in wrap h w piece i)

  pub ed_half_in : (wrap : ℕ → ℕ → ℕ) (h : Half) (w : ℕ) (octets : List ℕ) → HalfInOctets is_address h → HalfInOctets is_address (taken_ed wrap h w octets).half
  ed_half_in wrap h w octets i =
      if_kept (HalfInOctets is_address) (is_next h w) _ _ (λ _. record { rules = i.rules; credit = i.credit; subsequence = i.subsequence }) (λ _. i)

  pub ed_in : (wrap : ℕ → ℕ → ℕ) (h : Half) (w : ℕ) (octets : List ℕ) → HalfInOctets is_address h → AreAddressed is_address (taken_ed wrap h w octets).tpdus
  ed_in wrap h w octets i =
      if_kept (AreAddressed is_address) (is_next h w || is_before h w) (ea h w ∷ []) [] (λ _. ((i.rules.to, i.rules.partner), tt)) (λ _. tt)

  allowed_in : (width : Format) (credit : ℕ) → IsPair (allowed width credit)
  allowed_in Normal credit = omega arith
  allowed_in Extended credit = omega arith

  granted_inbox : (inbox : Inbox) (credit : ℕ) → IsPair credit → InboxInOctets inbox → InboxInOctets (granted inbox credit)
  granted_inbox inbox credit low i =
      if_kept InboxInOctets (nat_lt credit inbox.credit) _ _
      (λ _. if_kept InboxInOctets (inbox.subsequence == 65535) _ _
      (λ _. i)
      (λ e. record { credit = low; subsequence = omega (arith, i.subsequence, eqb-false inbox.subsequence 65535 e) }))
      (λ _. record { credit = low; subsequence = i.subsequence })

  pub granted_in : (h : Half) (credit : ℕ) → HalfInOctets is_address h → HalfInOctets is_address (half_granted h credit)
  granted_in h credit i =
      let g = granted_inbox h.receiver.inbox (allowed h.rules.format credit) (allowed_in h.rules.format credit) (record { credit = i.credit; subsequence = i.subsequence }) in
      record { rules = i.rules; credit = g.credit; subsequence = g.subsequence }
