-- Each row of an Opened end: both directions ride on.
use Rattle.std.proofs.Common.{◌≡◌, inl, inr, ℕ, ◌+◌, ◌==◌, ◌||◌, nat_le, nat_lt, Bool, true, false, if◌then◌else◌, List, [], ◌∷◌, ◌++◌, Option, refl, sym, ◌∙◌, ap, subst, arith, append-nil, append_assoc}
use Rattle.std.proofs.lemmas.Bool.{eqb-true, ltb-true}
use Rattle.tpdu.specs.declared.tpdu.Format.{Format}
use Rattle.tpdu.specs.declared.tpdu.Tpdu.{Tpdu}
use Rattle.tpdu.specs.declared.tpdu.Tpdu.TheVariants.{Dt, Ed, Ak, Ea}
use Rattle.tp4_number.specs.declared.got.Got.{Got}
use Rattle.tp4_number.specs.declared.got.Got.TheVariants.{Kept, Old, Outside, TooLarge}
use Rattle.tp4_number.specs.declared.piece.Piece.{Piece}
use Rattle.tp4_number.specs.Number.{whole}
use Rattle.tp4_number.specs.Receiver.{Inbox, granted}
use Rattle.tp4_number.proofs.Past.{if_kept}
use Rattle.tp4_flow.specs.ReceivingHalf.{Half, Received, ak, allowed, dt_arrival, half_granted, is_before, is_next, taken_dt, taken_ed}
use Rattle.tp4_flow.specs.declared.rules.FlowRules.{FlowRules}
use Rattle.tp4_flow.specs.declared.rules.Life.{Life}
use Rattle.tp4_flow.specs.declared.rules.Life.TheVariants.{Goes, Exhausted}
use Rattle.tp4_flow.specs.declared.step.Sent.{Sent}
use Rattle.tpdu.specs.declared.service.EndTold.TheVariants.{Window as WindowTold}
use Rattle.tp4_sending.specs.SendingHalf.{Sendings, acknowledged, at, life_of, submitted, ticked, urged, urgent_done}
use Rattle.tp4_conn.specs.declared.call.UserCall.{UserCall}
use Rattle.tp4_conn.specs.declared.call.UserCall.TheVariants.{Normal, Urgent, Window, Disconnect}
use Rattle.tp4_conn.specs.declared.end_record.EndRecord.{EndRecord}
use Rattle.tp4_conn.specs.declared.states.InOpened.{InOpened}
use Rattle.tp4_conn.specs.declared.states.StateData.TheVariants.{Opened}
use Rattle.tp4_conn.specs.End.{Moved, tell}
use Rattle.tp4_conn.specs.Opened.{acking, dt_as, hearing, is_expedited, opened_as, opened_goes, opened_tick, opened_tpdu, protocol_error, receiving, sending}
use Rattle.tp4_conn.specs.Table.{at as now_at, on_call, on_tick, on_tpdu, takes, untaken}
use Rattle.law_tp4_pair.specs.Standing.{Party, party}
use Rattle.law_tp4_pair.specs.Waiting.{AreData, View, aks_in, dts_in, eas_in, eds_in}
use Rattle.law_tp4_pair.proofs.Acting.{agreed_on}
use Rattle.law_tp4_pair.proofs.Handing.{has_sum, kept_fits, old_fits, outside_fits}
use Rattle.law_tp4_pair.proofs.Wires.{aks_then, data_then, dts_then, eas_then, eds_then}
use Rattle.law_recovery_steps.specs.Directions.{Rides, RidesOn}
use Rattle.law_recovery_steps.specs.Urging.{Urges}
use Rattle.law_recovery_steps.specs.Steps.{AreRiding, RidesOnward, Since}
use Rattle.law_recovery_steps.proofs.Directions.{aks_ride, answered, calls_ride, dts_ride, eds_ride, grants_ride, repeats_ride, same_ride}
use Rattle.law_recovery_steps.proofs.Urging.{calls_urge, eas_urge, eds_urge, half_urge}

-- a credit that is not changed changes nothing
granted_same : (inbox : Inbox) (credit : ℕ) → (granted inbox credit).credit ≡ inbox.credit → granted inbox credit ≡ inbox
granted_same inbox credit =
    let P = λ (x : Inbox). x.credit ≡ inbox.credit → x ≡ inbox in
    if_kept P (nat_lt credit inbox.credit) _ _
    (λ low. if_kept P (inbox.subsequence == 65535) _ _ (λ _ e. refl) (λ _ e. let below = ltb-true _ _ low in absurd (omega (arith, below, e))))
    (λ _ e. λ i. record inbox { credit = e i })

-- the EA of an ED, or nothing
record IsPlain (rules : FlowRules) (tpdus : List Sent) : Type 0 where
  dts : dts_in tpdus ≡ []
  aks : aks_in tpdus ≡ []
  eds : eds_in tpdus ≡ []
  data_are : AreData rules tpdus

ed_plain : (h : Half) (w : ℕ) (octets : List ℕ) → IsPlain h.rules (taken_ed whole h w octets).tpdus
ed_plain h w octets = if_kept (IsPlain h.rules) (is_next h w || is_before h w) _ _
    (λ _. record { dts = refl; aks = refl; eds = refl; data_are = (record { to = refl; format = refl; sum = refl; kind = refl }, tt) })
    (λ _. record { dts = refl; aks = refl; eds = refl; data_are = tt })

ed_rules : (h : Half) (w : ℕ) (octets : List ℕ) → (taken_ed whole h w octets).half.rules ≡ h.rules
ed_rules h w octets = if_kept (λ (k : Half). k.rules ≡ h.rules) (is_next h w) _ _ (λ _. refl) (λ _. refl)

module _ (life size u : ℕ) (one other : Since) (first : Party) (o : InOpened) (b : EndRecord) where
  abbrev Are : InOpened → List Sent → List Sent → Type 0
  Are q forth back = AreRiding life size u b.clock one other first (party b) o q forth back

  abbrev Onward : Moved → List Sent → List Sent → Type 0
  Onward m rest back = RidesOnward life size u b.clock one other first o m rest back

  -- the second end goes on to `new`, and sends these
  onward : (q new : InOpened) (forth rest back tpdus : List Sent) (both : Are q forth back) → new.halves.sending.rules ≡ q.halves.sending.rules → new.halves.receiving.rules ≡ q.halves.receiving.rules
      → AreData one.rules rest → AreData other.rules tpdus
      → Rides life size u b.clock one.road o.halves.sending new.halves.receiving (dts_in rest) (aks_in back ++ aks_in tpdus) new.acked
      → Rides life size u b.clock other.road new.halves.sending o.halves.receiving (dts_in back ++ dts_in tpdus) (aks_in rest) o.acked
      → Urges life u b.clock one.urgent o.halves.sending new.halves.receiving (eds_in rest) (eas_in back ++ eas_in tpdus)
      → Urges life u b.clock other.urgent new.halves.sending o.halves.receiving (eds_in back ++ eds_in tpdus) (eas_in rest)
      → Are new rest (back ++ tpdus)
  onward q new forth rest back tpdus both sending receiving rest_are sent_are there here there_eds here_eds = record {
    options = both.options;
    their_options = both.their_options;
    sum = both.sum;
    ours = both.ours;
    theirs = agreed_on both.their_options other.rules (party b) q.halves new.halves sending receiving both.theirs;
    forth_are = rest_are;
    back_are = data_then other.rules back tpdus both.back_are sent_are;
    there = subst (λ (l : List View). Rides life size u b.clock one.road o.halves.sending new.halves.receiving (dts_in rest) l new.acked) (sym (aks_then back tpdus)) there;
    here = subst (λ (l : List ℕ). Rides life size u b.clock other.road new.halves.sending o.halves.receiving l (aks_in rest) o.acked) (sym (dts_then back tpdus)) here;
    there_eds = subst (λ (l : List ℕ). Urges life u b.clock one.urgent o.halves.sending new.halves.receiving (eds_in rest) l) (sym (eas_then back tpdus)) there_eds;
    here_eds = subst (λ (l : List ℕ). Urges life u b.clock other.urgent new.halves.sending o.halves.receiving l (eas_in rest)) (sym (eds_then back tpdus)) here_eds;
  }

  -- its sending half goes on
  sends_onward : (q : InOpened) (took : ℕ) (forth rest back : List Sent) (z : Sendings) (both : Are q forth back) → AreData one.rules rest
      → Rides life size u b.clock one.road o.halves.sending q.halves.receiving (dts_in rest) (aks_in back) q.acked
      → Urges life u b.clock one.urgent o.halves.sending q.halves.receiving (eds_in rest) (eas_in back)
      → RidesOn life size u b.clock other.road q.halves.sending o.halves.receiving (dts_in back) (aks_in rest) o.acked z
      → Urges life u b.clock other.urgent z.sender o.halves.receiving (eds_in back ++ eds_in z.tpdus) (eas_in rest)
      → Are (record q { took = took; halves = record q.halves { sending = z.sender } }) rest (back ++ z.tpdus)
  sends_onward q took forth rest back z both rest_are there there_eds g here_eds =
      let no_eas : eas_in back ++ eas_in z.tpdus ≡ eas_in back = ap (λ (l : List ℕ). eas_in back ++ l) g.eas_none ∙ append-nil (eas_in back) in
      let none : aks_in back ++ aks_in z.tpdus ≡ aks_in back = ap (λ (l : List View). aks_in back ++ l) g.aks_none ∙ append-nil (aks_in back) in
      onward q (record q { took = took; halves = record q.halves { sending = z.sender } }) forth rest back z.tpdus both g.rules refl rest_are
      (subst (λ (r : FlowRules). AreData r z.tpdus) both.theirs.sending g.data_are)
      (subst (λ (l : List View). Rides life size u b.clock one.road o.halves.sending q.halves.receiving (dts_in rest) l q.acked) (sym none) there) g.ride
      (subst (λ (l : List ℕ). Urges life u b.clock one.urgent o.halves.sending q.halves.receiving (eds_in rest) l) (sym no_eas) there_eds) here_eds

  -- its receiving half goes on
  receives_onward : (q : InOpened) (took acked : ℕ) (forth rest back : List Sent) (k : Half) (tpdus : List Sent) (both : Are q forth back) → k.rules ≡ q.halves.receiving.rules → AreData one.rules rest
      → AreData q.halves.receiving.rules tpdus → dts_in tpdus ≡ [] → eds_in tpdus ≡ []
      → Rides life size u b.clock one.road o.halves.sending k (dts_in rest) (aks_in back ++ aks_in tpdus) acked
      → Rides life size u b.clock other.road q.halves.sending o.halves.receiving (dts_in back) (aks_in rest) o.acked
      → Urges life u b.clock one.urgent o.halves.sending k (eds_in rest) (eas_in back ++ eas_in tpdus)
      → Urges life u b.clock other.urgent q.halves.sending o.halves.receiving (eds_in back) (eas_in rest)
      → Are (record q { took = took; acked = acked; halves = record q.halves { receiving = k } }) rest (back ++ tpdus)
  receives_onward q took acked forth rest back k tpdus both rules rest_are sent_are none no_eds there here there_eds here_eds =
      let same_eds : eds_in back ++ eds_in tpdus ≡ eds_in back = ap (λ (l : List ℕ). eds_in back ++ l) no_eds ∙ append-nil (eds_in back) in
      let same : dts_in back ++ dts_in tpdus ≡ dts_in back = ap (λ (l : List ℕ). dts_in back ++ l) none ∙ append-nil (dts_in back) in
      onward q (record q { took = took; acked = acked; halves = record q.halves { receiving = k } }) forth rest back tpdus both refl rules rest_are
      (subst (λ (r : FlowRules). AreData r tpdus) both.theirs.receiving sent_are) there
      (subst (λ (l : List ℕ). Rides life size u b.clock other.road q.halves.sending o.halves.receiving l (aks_in rest) o.acked) (sym same) here) there_eds
      (subst (λ (l : List ℕ). Urges life u b.clock other.urgent q.halves.sending o.halves.receiving l (eas_in rest)) (sym same_eds) here_eds)

  -- ---- a TPDU

  module _ (q : InOpened) (to : List ℕ) (format : Format) (sum : Bool) (rest back : List Sent) where
    abbrev waits : Tpdu → List Sent
    waits tpdu = record { to = to; tpdu = tpdu; format = format; sum = sum } ∷ rest

    dt_onward : (destination : ℕ) (last : Bool) (w : ℕ) (text : List ℕ) → Are q (waits (Dt destination last w text)) back
        → ((dt_arrival q.halves.receiving w (record { last = last; octets = text })).got ≡ TooLarge → ⊥)
        → Onward (receiving b (acking b (hearing b q)) (taken_dt whole q.halves.receiving w (record { last = last; octets = text }))) rest back
    dt_onward destination last w text both fits =
        let piece : Piece = record { last = last; octets = text } in
        let x : Received = taken_dt whole q.halves.receiving w piece in
        let is : x.tpdus ≡ ak x.half ∷ [] = answered (dt_arrival q.halves.receiving w piece).got x.half fits in
        inr (record {
          after = record q { took = b.clock; acked = b.clock; halves = record q.halves { receiving = x.half } };
          stage = refl;
          both = receives_onward q b.clock b.clock (waits (Dt destination last w text)) rest back x.half x.tpdus both refl both.forth_are.1
              (subst (AreData q.halves.receiving.rules) (sym is) (record { to = refl; format = refl; sum = refl; kind = refl }, tt)) (ap dts_in is) (ap eds_in is)
              (dts_ride life size u one.road o.halves.sending q.halves.receiving b.clock w (dts_in rest) (aks_in back) q.acked piece both.there fits) both.here
              (subst (λ (l : List ℕ). Urges life u b.clock one.urgent o.halves.sending x.half (eds_in rest) l) (sym (ap (λ (l : List Sent). eas_in back ++ eas_in l) is ∙ append-nil (eas_in back)))
              (half_urge life u one.urgent o.halves.sending q.halves.receiving b.clock x.half (eds_in rest) (eas_in back) refl refl both.there_eds)) both.here_eds;
        })

    dt_as_onward : (destination : ℕ) (last : Bool) (w : ℕ) (text : List ℕ) (got : Got) → Are q (waits (Dt destination last w text)) back
        → (dt_arrival q.halves.receiving w (record { last = last; octets = text })).got ≡ got
        → Onward (dt_as got b (hearing b q) (taken_dt whole q.halves.receiving w (record { last = last; octets = text }))) rest back
    dt_as_onward destination last w text TooLarge both e = inl tt
    dt_as_onward destination last w text Kept both e = dt_onward destination last w text both (λ large. kept_fits (sym e ∙ large))
    dt_as_onward destination last w text Old both e = dt_onward destination last w text both (λ large. old_fits (sym e ∙ large))
    dt_as_onward destination last w text Outside both e = dt_onward destination last w text both (λ large. outside_fits (sym e ∙ large))

    ed_onward : (destination : ℕ) (last : Bool) (w : ℕ) (text : List ℕ) (expedited : Bool) → Are q (waits (Ed destination last w text)) back
        → Onward (if expedited then receiving b (hearing b q) (taken_ed whole q.halves.receiving w text) else protocol_error b) rest back
    ed_onward destination last w text false both = inl tt
    ed_onward destination last w text true both =
        let x : Received = taken_ed whole q.halves.receiving w text in
        let p = ed_plain q.halves.receiving w text in
        let none : aks_in back ++ aks_in x.tpdus ≡ aks_in back = ap (λ (l : List View). aks_in back ++ l) p.aks ∙ append-nil (aks_in back) in
        inr (record {
          after = record q { took = b.clock; halves = record q.halves { receiving = x.half } };
          stage = refl;
          both = receives_onward q b.clock q.acked (waits (Ed destination last w text)) rest back x.half x.tpdus both (ed_rules q.halves.receiving w text) both.forth_are.1 p.data_are p.dts p.eds
              (subst (λ (l : List View). Rides life size u b.clock one.road o.halves.sending x.half (dts_in rest) l q.acked) (sym none)
              (eds_ride life size u one.road o.halves.sending q.halves.receiving b.clock (dts_in rest) (aks_in back) q.acked w text both.there)) both.here
              (eds_urge life u one.urgent o.halves.sending q.halves.receiving b.clock w (eds_in rest) (eas_in back) text both.there_eds) both.here_eds;
        })

    ak_onward : (destination w credit subsequence : ℕ) (confirmation : Option (List ℕ)) → Are q (waits (Ak destination w credit subsequence confirmation)) back
        → Onward (sending b (hearing b q) (acknowledged (at b.clock q.halves.sending) w credit subsequence)) rest back
    ak_onward destination w credit subsequence confirmation both =
        let z : Sendings = acknowledged (at b.clock q.halves.sending) w credit subsequence in
        let says : View = record { number = w; credit = credit; subsequence = subsequence } in
        inr (record {
          after = record q { took = b.clock; halves = record q.halves { sending = z.sender } };
          stage = refl;
          both = sends_onward q b.clock (waits (Ak destination w credit subsequence confirmation)) rest back z both both.forth_are.1 both.there both.there_eds
              (aks_ride life size u other.road q.halves.sending o.halves.receiving b.clock (dts_in back) says (aks_in rest) o.acked both.here)
              (calls_urge life u other.urgent q.halves.sending o.halves.receiving b.clock (eds_in back) (eas_in rest) [] w credit subsequence both.here_eds).3;
        })

    ea_onward : (destination w : ℕ) → Are q (waits (Ea destination w)) back → Onward (sending b (hearing b q) (urgent_done (at b.clock q.halves.sending) w)) rest back
    ea_onward destination w both =
        let z : Sendings = urgent_done (at b.clock q.halves.sending) w in
        inr (record {
          after = record q { took = b.clock; halves = record q.halves { sending = z.sender } };
          stage = refl;
          both = sends_onward q b.clock (waits (Ea destination w)) rest back z both both.forth_are.1 both.there both.there_eds
              (calls_ride life size u other.road q.halves.sending o.halves.receiving b.clock (dts_in back) (aks_in rest) o.acked [] w both.here).2
              (eas_urge life u other.urgent q.halves.sending o.halves.receiving b.clock w (eds_in back) (eas_in rest) both.here_eds);
        })

    data_onward : (tpdu : Tpdu) → Are q (waits tpdu) back → Onward (opened_tpdu whole b (hearing b q) tpdu) rest back
    unfolding opened_tpdu
    data_onward (Dt destination last w text) both = dt_as_onward destination last w text (dt_arrival q.halves.receiving w (record { last = last; octets = text })).got both refl
    data_onward (Ed destination last w text) both = ed_onward destination last w text (is_expedited b.agreed) both
    data_onward (Ak destination w credit subsequence confirmation) both = ak_onward destination w credit subsequence confirmation both
    data_onward (Ea destination w) both = ea_onward destination w both
    data_onward other both = absurd both.forth_are.0.kind

  -- ---- a call of its user

  module _ (q : InOpened) (forth back : List Sent) (both : Are q forth back) where
    called_onward : (z : Sendings) → RidesOn life size u b.clock other.road q.halves.sending o.halves.receiving (dts_in back) (aks_in forth) o.acked z
        → Urges life u b.clock other.urgent z.sender o.halves.receiving (eds_in back ++ eds_in z.tpdus) (eas_in forth) → Onward (sending b q z) forth back
    called_onward z g e = inr (record {
      after = record q { halves = record q.halves { sending = z.sender } };
      stage = refl;
      both = sends_onward q q.took forth forth back z both both.forth_are both.there both.there_eds g e;
    })

    grant_onward : (credit : ℕ) (same : Bool) → (half_granted q.halves.receiving credit).receiver.inbox.credit == q.halves.receiving.receiver.inbox.credit ≡ same
        → Onward (if same
        then receiving b q (record { half = half_granted q.halves.receiving credit; events = tell b (WindowTold (half_granted q.halves.receiving credit).receiver.inbox.credit) ∷ []; tpdus = [] })
        else receiving b (acking b q) (record { half = half_granted q.halves.receiving credit; events = tell b (WindowTold (half_granted q.halves.receiving credit).receiver.inbox.credit) ∷ []; tpdus = ak (half_granted q.halves.receiving credit) ∷ [] })) forth back
    grant_onward credit true e =
        let new : Half = half_granted q.halves.receiving credit in
        let unchanged : new.receiver.inbox ≡ q.halves.receiving.receiver.inbox = granted_same q.halves.receiving.receiver.inbox (allowed q.halves.receiving.rules.format credit) (eqb-true _ _ e) in
        inr (record {
          after = record q { halves = record q.halves { receiving = new } };
          stage = refl;
          both = receives_onward q q.took q.acked forth forth back new [] both refl both.forth_are tt refl refl
              (subst (λ (l : List View). Rides life size u b.clock one.road o.halves.sending new (dts_in forth) l q.acked) (sym (append-nil (aks_in back)))
              (same_ride life size u one.road o.halves.sending q.halves.receiving b.clock new (dts_in forth) (aks_in back) q.acked refl refl unchanged both.there)) both.here
              (subst (λ (l : List ℕ). Urges life u b.clock one.urgent o.halves.sending new (eds_in forth) l) (sym (append-nil (eas_in back)))
              (half_urge life u one.urgent o.halves.sending q.halves.receiving b.clock new (eds_in forth) (eas_in back) refl refl both.there_eds)) both.here_eds;
        })
    grant_onward credit false e =
        let new : Half = half_granted q.halves.receiving credit in
        inr (record {
          after = record q { acked = b.clock; halves = record q.halves { receiving = new } };
          stage = refl;
          both = receives_onward q q.took b.clock forth forth back new (ak new ∷ []) both refl both.forth_are (record { to = refl; format = refl; sum = refl; kind = refl }, tt) refl refl
              (grants_ride life size u one.road o.halves.sending q.halves.receiving b.clock (dts_in forth) (aks_in back) q.acked credit both.there) both.here
              (subst (λ (l : List ℕ). Urges life u b.clock one.urgent o.halves.sending new (eds_in forth) l) (sym (append-nil (eas_in back)))
              (half_urge life u one.urgent o.halves.sending q.halves.receiving b.clock new (eds_in forth) (eas_in back) refl refl both.there_eds)) both.here_eds;
        })

    stays_onward : Onward (record { base = b; stage = Opened q; events = []; tpdus = [] }) forth back
    stays_onward = inr (record { after = q; stage = refl; both = subst (Are q forth) (sym (append-nil back)) both })

    call_onward : (call : UserCall) → Onward (on_call b (Opened q) call) forth back
    call_onward (Normal unit) = called_onward (submitted (at b.clock q.halves.sending) unit) (calls_ride life size u other.road q.halves.sending o.halves.receiving b.clock (dts_in back) (aks_in forth) o.acked unit 0 both.here).0
        (calls_urge life u other.urgent q.halves.sending o.halves.receiving b.clock (eds_in back) (eas_in forth) unit 0 0 0 both.here_eds).0
    call_onward (Urgent unit) = called_onward (urged (at b.clock q.halves.sending) unit) (calls_ride life size u other.road q.halves.sending o.halves.receiving b.clock (dts_in back) (aks_in forth) o.acked unit 0 both.here).1
        (calls_urge life u other.urgent q.halves.sending o.halves.receiving b.clock (eds_in back) (eas_in forth) unit 0 0 0 both.here_eds).1
    call_onward (Window credit) = grant_onward credit ((half_granted q.halves.receiving credit).receiver.inbox.credit == q.halves.receiving.receiver.inbox.credit) refl
    call_onward (Disconnect octets) = inl tt
    call_onward other = stays_onward

    -- ---- a tick

    goes_onward : (z : Sendings) → RidesOn life size u b.clock other.road q.halves.sending o.halves.receiving (dts_in back) (aks_in forth) o.acked z
        → Urges life u b.clock other.urgent z.sender o.halves.receiving (eds_in back ++ eds_in z.tpdus) (eas_in forth) → Onward (opened_goes b q z) forth back
    goes_onward z g e =
        if_kept (λ (m : Moved). Onward m forth back) (nat_le (q.acked + b.timers.window) b.clock) _ _
        (λ _.
        let mid : InOpened = record q { halves = record q.halves { sending = z.sender } } in
        let sent : Are mid forth (back ++ z.tpdus) = sends_onward q q.took forth forth back z both both.forth_are both.there both.there_eds g e in
        let h : Half = q.halves.receiving in
        inr (record {
          after = record mid { acked = b.clock };
          stage = refl;
          both = subst (Are (record mid { acked = b.clock }) forth) (append_assoc back z.tpdus (ak h ∷ []))
              (receives_onward mid q.took b.clock forth forth (back ++ z.tpdus) h (ak h ∷ []) sent refl sent.forth_are (record { to = refl; format = refl; sum = refl; kind = refl }, tt) refl refl
              (repeats_ride life size u one.road o.halves.sending h b.clock (dts_in forth) (aks_in (back ++ z.tpdus)) q.acked sent.there) sent.here
              (subst (λ (l : List ℕ). Urges life u b.clock one.urgent o.halves.sending h (eds_in forth) l) (sym (append-nil (eas_in (back ++ z.tpdus)))) sent.there_eds) sent.here_eds);
        }))
        (λ _. called_onward z g e)

    lives_onward : (life_is : Life) → Onward (opened_as life_is b q) forth back
    lives_onward Exhausted = inl tt
    lives_onward Goes = goes_onward (ticked (at b.clock q.halves.sending)) (calls_ride life size u other.road q.halves.sending o.halves.receiving b.clock (dts_in back) (aks_in forth) o.acked [] 0 both.here).3
        (calls_urge life u other.urgent q.halves.sending o.halves.receiving b.clock (eds_in back) (eas_in forth) [] 0 0 0 both.here_eds).2

    tick_onward : Onward (opened_tick b q) forth back
    unfolding opened_tick
    tick_onward = if_kept (λ (m : Moved). Onward m forth back) (nat_le (q.took + b.timers.inactive) b.clock) _ _ (λ _. inl tt) (λ _. lives_onward (life_of (at b.clock q.halves.sending)))

module _ (life size u now : ℕ) (one other : Since) (first : Party) (o : InOpened) (b : EndRecord) (q : InOpened) where
  pub takes_onward : (sent : Sent) (rest back : List Sent) → AreRiding life size u now one other first (party b) o q (sent ∷ rest) back
      → RidesOnward life size u now one other first o (takes whole now b (Opened q) sent.tpdu sent.sum) rest back
  takes_onward sent rest back both =
      subst (λ (wants : Bool). RidesOnward life size u now one other first o (if wants then untaken b (Opened q) else on_tpdu whole (now_at now b) (Opened q) sent.tpdu) rest back)
      (sym (has_sum both.their_options b.agreed sent.sum both.theirs.agreed_is (both.forth_are.0.sum ∙ both.sum ∙ both.theirs.sum)))
      (data_onward life size u one other first o (now_at now b) q sent.to sent.format sent.sum rest back sent.tpdu both)

  pub calls_onward : (call : UserCall) (forth back : List Sent) → AreRiding life size u now one other first (party b) o q forth back
      → RidesOnward life size u now one other first o (on_call (now_at now b) (Opened q) call) forth back
  calls_onward call forth back both = call_onward life size u one other first o (now_at now b) q forth back both call

  pub ticks_onward : (forth back : List Sent) → AreRiding life size u now one other first (party b) o q forth back
      → RidesOnward life size u now one other first o (on_tick (now_at now b) (Opened q)) forth back
  ticks_onward forth back both = tick_onward life size u one other first o (now_at now b) q forth back both
