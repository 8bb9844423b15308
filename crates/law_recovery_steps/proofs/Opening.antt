-- The called end takes the first AK, DT, ED or EA: what the calling end knows of it is what it says, as if it had just said so; it sends what is queued; and then takes the
-- TPDU as an Opened end does.
use Rattle.std.proofs.Common.{◌≡◌, inl, inr, ℕ, nat_le, Bool, true, if◌then◌else◌, List, [], ◌∷◌, ◌++◌, refl, sym, ◌∙◌, ap, subst, arith, append-nil}
use Rattle.std.proofs.lemmas.Bool.{and_parts}
use Rattle.std.proofs.lemmas.Bool.Decides.{nat_tests}
use Rattle.tpdu.specs.declared.tpdu.Format.{Format}
use Rattle.tpdu.specs.declared.tpdu.Tpdu.{Tpdu}
use Rattle.tpdu.specs.declared.tpdu.Tpdu.TheVariants.{Dt, Ed, Ak, Ea}
use Rattle.tp4_number.specs.Formats.{block_of}
use Rattle.tp4_number.specs.Number.{near, whole, wire}
use Rattle.tp4_number.specs.Sender.{Sender, is_newer}
use Rattle.tp4_number.proofs.Numbers.{near_is}
use Rattle.tp4_number.proofs.Past.{if_kept}
use Rattle.law_recovery_pair.specs.Recovering.{Road}
use Rattle.law_recovery_pair.specs.Urgent.{UrgentRoad}
use Rattle.tp4_flow.specs.ReceivingHalf.{Half, block_in as block_there}
use Rattle.tp4_flow.specs.declared.rules.FlowRules.{FlowRules}
use Rattle.tp4_flow.specs.declared.step.Sent.{Sent}
use Rattle.tp4_sending.specs.SendingHalf.{FlowSender, Sendings, acknowledged, at, block_in, is_taken, nothing, opened}
use Rattle.tp4_sending.proofs.Settles.{new_settled}
use Rattle.law_recovery_pair.specs.Riding.{Aside}
use Rattle.tp4_conn.specs.declared.end_record.EndRecord.{EndRecord}
use Rattle.tp4_conn.specs.declared.states.InAkWait.{InAkWait}
use Rattle.tp4_conn.specs.declared.states.InOpened.{InOpened}
use Rattle.tp4_conn.specs.declared.states.StateData.TheVariants.{AkWait, Opened}
use Rattle.tp4_conn.specs.AkWait.{ak_wait_tpdu}
use Rattle.tp4_conn.specs.End.{Moved, led_by}
use Rattle.tp4_conn.specs.Opened.{opened_tpdu}
use Rattle.tp4_conn.specs.Table.{at as now_at, on_tpdu, takes, untaken}
use Rattle.law_tp4_pair.specs.Standing.{Party, party}
use Rattle.law_tp4_pair.specs.Waiting.{AreData, View, aks_in, dts_in, eas_in, eds_in}
use Rattle.law_tp4_pair.proofs.Handing.{has_sum}
use Rattle.law_recovery_steps.specs.Directions.{Rides, RidesOn}
use Rattle.law_recovery_steps.specs.Sending.{GoesOut, IsFed}
use Rattle.law_tp4_pair.proofs.Taking.{some_block}
use Rattle.law_recovery_steps.specs.Steps.{AreRiding, RidesOnward, Since}
use Rattle.law_recovery_steps.specs.Urging.{Urges}
use Rattle.law_recovery_steps.proofs.Directions.{aks_ride, clock_ride, repeats_ride, sends_on}
use Rattle.law_recovery_steps.proofs.Sending.{calls_out}
use Rattle.law_recovery_steps.proofs.Steps.{takes_onward}
use Rattle.law_recovery_steps.proofs.Urging.{calls_urge}
use Rattle.law_recovery_steps.specs.Opening.{IsQueued, KnowsCc, as_opened, queued, unsent}

-- ---- as if it had said so

-- an AK that says what is known is not taken
never_newer : (x : Sender) (n credit subsequence : ℕ) → n ≡ x.base → credit ≡ x.credit → subsequence ≡ x.subsequence → is_newer x n credit subsequence ≡ true → ⊥
never_newer x n credit subsequence a b c e = grind (arith, nat_tests)

known_is : (s : FlowSender) (w credit subsequence : ℕ) → near (block_in s) s.numbers.base w ≡ s.numbers.base → credit ≡ s.numbers.credit → subsequence ≡ s.numbers.subsequence
    → acknowledged s w credit subsequence ≡ nothing s
known_is s w credit subsequence at_base a b =
    if_kept (λ (z : Sendings). z ≡ nothing s) (is_taken s (near (block_in s) s.numbers.base w) credit subsequence) _ _
    (λ taken. absurd (never_newer s.numbers _ credit subsequence at_base a b (and_parts (nat_le (near (block_in s) s.numbers.base w) s.numbers.blocks.high) (is_newer s.numbers _ credit subsequence) taken).1))
    (λ _. refl)

module _ (life size u : ℕ) (old : Road) (s : FlowSender) (h : Half) where
  spoken : (now : ℕ) (dts : List ℕ) (acked : ℕ) → s.numbers.base ≡ h.receiver.expected → s.numbers.credit ≡ h.receiver.inbox.credit → s.numbers.subsequence ≡ h.receiver.inbox.subsequence
      → Rides life size u now old s h dts [] acked → Rides life size u now old s h dts [] now
  spoken now dts acked number credit subsequence r =
      let says : View = record { number = wire (block_there h) h.receiver.expected; credit = h.receiver.inbox.credit; subsequence = h.receiver.inbox.subsequence } in
      let some = some_block s.rules.format in
      let read : near (block_in s) s.numbers.base (wire (block_there h) h.receiver.expected) ≡ s.numbers.base =
      ap (λ (f : Format). near (block_in s) s.numbers.base (wire (block_of f) h.receiver.expected)) r.format ∙ ap (λ (n : ℕ). near (block_in s) s.numbers.base (wire (block_in s) n)) (sym number)
      ∙ near_is (block_in s) s.numbers.base s.numbers.base some (omega arith) (omega (arith, some)) in
      let z = aks_ride life size u old s h now dts says [] now (repeats_ride life size u old s h now dts [] acked r) in
      clock_ride life size u old (at now s) h now s.clock dts [] now (subst (λ (l : List ℕ). Rides life size u now old (at now s) h l [] now) (append-nil dts)
      (subst (λ (x : Sendings). Rides life size u now old x.sender h (dts ++ dts_in x.tpdus) [] now) (known_is (at now s) says.number says.credit says.subsequence read (sym credit) (sym subsequence)) z.ride))

-- ---- what is queued goes

module _ (life size u : ℕ) (rules : FlowRules) (credit clock now : ℕ) (units expedited : List (List ℕ)) where
  abbrev closed : FlowSender
  closed = queued rules credit clock units expedited

  abbrev open_now : FlowSender
  open_now = record closed { clock = now; is_open = true }

  fed : IsFed open_now
  fed = record { is_open = refl; first = omega arith; window = refl; high = omega arith; reach = omega arith }

  goes_out : (h : Half) (x : Aside) → GoesOut life size u (at now (unsent closed)) h x x (opened (at now closed))
  goes_out h x =
      let g : GoesOut life size u open_now h x x (opened (at now closed)) = (calls_out life size u open_now h x [] 0 fed).3 in
      record {
        ns = g.ns;
        goes = g.goes;
        rules = g.rules;
        clock = g.clock;
        fed = g.fed;
        tried = g.tried;
        dts = g.dts;
        aks = g.aks;
        eas = g.eas;
        right = g.right;
        data_are = g.data_are;
        quiet = g.quiet;
      }

  opens_ride : (old : Road) (h : Half) (dts : List ℕ) (aks : List View) (acked : ℕ) → Rides life size u now old (unsent closed) h dts aks acked
      → RidesOn life size u now old (unsent closed) h dts aks acked (opened (at now closed))
  opens_ride old h dts aks acked r =
      sends_on life size u old (unsent closed) h now dts aks aks acked r.aside.aks (opened (at now closed)) r (new_settled open_now refl) (goes_out h r.aside) r.aks_are (λ a c. c)

  opens_urge : (old : UrgentRoad) (h : Half) (eds eas : List ℕ) → Urges life u now old (unsent closed) h eds eas
      → Urges life u now old (opened (at now closed)).sender h (eds ++ eds_in (opened (at now closed)).tpdus) eas
  opens_urge old h eds eas r =
      (calls_urge life u old open_now h now eds eas [] 0 0 0 (record {
        aside = r.aside;
        base = r.base;
        goes = r.goes;
        base_is = r.base_is;
        unit = tt;
        format = r.format;
        eds_are = r.eds_are;
        eas_are = r.eas_are;
        eds_now = r.eds_now;
        eas_now = r.eas_now;
        tried = tt;
      })).2

-- ---- the end is Opened

module _ (life size u now : ℕ) (one other : Since) (first : Party) (o : InOpened) (c : EndRecord) (w : InAkWait) where
  -- what it sends as it is opened
  abbrev sent_first : Sendings
  sent_first = opened (at now w.halves.sending)

  -- the end before it takes the TPDU
  abbrev first_opened : InOpened
  first_opened = record { took = now; acked = now; halves = record w.halves { sending = sent_first.sender } }

  opens : (forth : List Sent) → AreRiding life size u now one other first (party c) o (as_opened w) forth [] → IsQueued w.halves.sending → KnowsCc o w
      → AreRiding life size u now one other first (party c) o first_opened forth sent_first.tpdus
  opens forth both waits knows =
      let s : FlowSender = w.halves.sending in
      let k : Half = w.halves.receiving in
      let out : RidesOn life size u now other.road (unsent s) o.halves.receiving [] (aks_in forth) o.acked sent_first =
      subst (λ (x : FlowSender). RidesOn life size u now other.road (unsent x) o.halves.receiving [] (aks_in forth) o.acked (opened (at now x))) (sym waits.is)
      (opens_ride life size u s.rules waits.credit s.clock now s.queue.units s.urgent.units other.road o.halves.receiving [] (aks_in forth) o.acked
      (subst (λ (x : FlowSender). Rides life size u now other.road (unsent x) o.halves.receiving [] (aks_in forth) o.acked) waits.is both.here)) in
      let urged : Urges life u now other.urgent sent_first.sender o.halves.receiving (eds_in sent_first.tpdus) (eas_in forth) =
      subst (λ (x : FlowSender). Urges life u now other.urgent (opened (at now x)).sender o.halves.receiving (eds_in (opened (at now x)).tpdus) (eas_in forth)) (sym waits.is)
      (opens_urge life size u s.rules waits.credit s.clock now s.queue.units s.urgent.units other.urgent o.halves.receiving [] (eas_in forth)
      (subst (λ (x : FlowSender). Urges life u now other.urgent (unsent x) o.halves.receiving [] (eas_in forth)) waits.is both.here_eds)) in
      let there : Rides life size u now one.road o.halves.sending k (dts_in forth) [] now = spoken life size u one.road o.halves.sending k now (dts_in forth) 0 knows.number knows.credit knows.subsequence both.there in
      record {
        options = both.options;
        their_options = both.their_options;
        ours = both.ours;
        theirs = record {
          agreed_is = both.theirs.agreed_is;
          sending = out.rules ∙ both.theirs.sending;
          receiving = both.theirs.receiving;
          sum = both.theirs.sum;
          format = both.theirs.format;
          to = both.theirs.to;
          partner = both.theirs.partner;
        };
        sum = both.sum;
        forth_are = both.forth_are;
        back_are = subst (λ (f : FlowRules). AreData f sent_first.tpdus) both.theirs.sending out.data_are;
        there = subst (λ (l : List View). Rides life size u now one.road o.halves.sending k (dts_in forth) l now) (sym out.aks_none) there;
        here = out.ride;
        there_eds = subst (λ (l : List ℕ). Urges life u now one.urgent o.halves.sending k (eds_in forth) l) (sym out.eas_none) both.there_eds;
        here_eds = urged;
      }

  -- as an Opened end takes it, behind what was sent first
  led_onward : (m : Moved) (rest : List Sent) → RidesOnward life size u now one other first o m rest sent_first.tpdus → RidesOnward life size u now one other first o (led_by sent_first.events sent_first.tpdus m) rest []
  led_onward m rest (inl left) = inl left
  led_onward m rest (inr g) = inr (record { after = g.after; stage = g.stage; both = g.both })

  data_by : (tpdu : Tpdu) (to : List ℕ) (width : Format) (sum : Bool) (rest : List Sent) → AreRiding life size u now one other first (party c) o (as_opened w) (record { to = to; tpdu = tpdu; format = width; sum = sum } ∷ rest) []
      → RidesOnward life size u now one other first o (opened_tpdu whole (now_at now c) first_opened tpdu) rest sent_first.tpdus
      → RidesOnward life size u now one other first o (ak_wait_tpdu whole (now_at now c) w tpdu) rest []
  unfolding ak_wait_tpdu
  data_by (Dt destination last number text) to width sum rest both r = led_onward _ rest r
  data_by (Ed destination last number text) to width sum rest both r = led_onward _ rest r
  data_by (Ak destination number credit subsequence confirmation) to width sum rest both r = led_onward _ rest r
  data_by (Ea destination number) to width sum rest both r = led_onward _ rest r
  data_by other_kind to width sum rest both r = absurd both.forth_are.0.kind

pub data_opens : (life size u now : ℕ) (one other : Since) (first : Party) (o : InOpened) (c : EndRecord) (w : InAkWait) (sent : Sent) (rest : List Sent)
    → AreRiding life size u now one other first (party c) o (as_opened w) (sent ∷ rest) [] → IsQueued w.halves.sending → KnowsCc o w
    → RidesOnward life size u now one other first o (takes whole now c (AkWait w) sent.tpdu sent.sum) rest []
data_opens life size u now one other first o c w sent rest both waits knows =
    let open_both = opens life size u now one other first o c w (sent ∷ rest) both waits knows in
    let none = has_sum both.their_options c.agreed sent.sum both.theirs.agreed_is (both.forth_are.0.sum ∙ both.sum ∙ both.theirs.sum) in
    let q : InOpened = first_opened life size u now one other first o c w in
    let back : List Sent = (sent_first life size u now one other first o c w).tpdus in
    subst (λ (wants : Bool). RidesOnward life size u now one other first o (if wants then untaken c (AkWait w) else on_tpdu whole (now_at now c) (AkWait w) sent.tpdu) rest []) (sym none)
    (data_by life size u now one other first o c w sent.tpdu sent.to sent.format sent.sum rest both
    (subst (λ (wants : Bool). RidesOnward life size u now one other first o (if wants then untaken c (Opened q) else on_tpdu whole (now_at now c) (Opened q) sent.tpdu) rest back) none
    (takes_onward life size u now one other first o c q sent rest back open_both)))
