-- The rows of AkWait and Opened: what they do to both halves is what happens in both lines.
use Rattle.std.proofs.Common.{◌≡◌, ℕ, ◌+◌, ◌<◌, ◌==◌, ◌||◌, nat_lt, nat_le, Bool, true, false, if◌then◌else◌, List, [], ◌∷◌, ◌++◌, length, Option, Some, None, refl, sym, ◌∙◌, ap, append-nil, arith}
use Rattle.std.specs.List.{sum_by}
use Rattle.std.proofs.lemmas.Bool.{eqb-false}
use Rattle.std.proofs.lemmas.Option.{none-some}
use Rattle.tpdu.specs.declared.tpdu.Format.{Format}
use Rattle.tpdu.specs.declared.tpdu.Tpdu.{Tpdu}
use Rattle.tpdu.specs.declared.tpdu.Tpdu.TheVariants.{Cc, Dr, Dt, Ed, Ak, Ea, Er}
use Rattle.script_journal.specs.Lawful.{Marked}
use Rattle.tp4_number.specs.declared.got.Got.{Got}
use Rattle.tp4_number.specs.declared.got.Got.TheVariants.{TooLarge}
use Rattle.tp4_number.specs.Formats.{block_of}
use Rattle.tp4_number.specs.Number.{whole, wire}
use Rattle.tp4_number.specs.Traffic.{Rules}
use Rattle.tp4_number.proofs.Past.{if_kept}
use Rattle.tp4_flow.specs.ReceivingHalf.{Half, Received, dt_arrival, half_granted, block_in as block_there}
use Rattle.tp4_flow.specs.declared.rules.Life.{Life}
use Rattle.tp4_flow.specs.declared.rules.Life.TheVariants.{Goes, Exhausted}
use Rattle.tpdu.specs.declared.service.Options.{Options}
use Rattle.tp4_flow.specs.declared.rules.SubmitRefusal.TheVariants as submits
use Rattle.tp4_flow.specs.declared.step.EndEvent.{EndEvent}
use Rattle.tp4_sending.specs.SendingHalf.{FlowSender, Sendings, at, block_in, opened, life_of, refusal}
use Rattle.tp4_conn.specs.declared.end_record.EndRecord.{EndRecord}
use Rattle.tp4_conn.specs.declared.call.UserCall.{UserCall}
use Rattle.tp4_conn.specs.declared.call.UserCall.TheVariants as calls
use Rattle.tp4_conn.specs.declared.halves.Halves.{Halves}
use Rattle.tp4_conn.specs.declared.states.InAkWait.{InAkWait}
use Rattle.tp4_conn.specs.declared.states.InOpened.{InOpened}
use Rattle.tp4_conn.specs.declared.states.StateData.{StateData}
use Rattle.tp4_conn.specs.declared.states.StateData.TheVariants.{AkWait, Opened}
use Rattle.tp4_conn.specs.Agreeing.{confirms_again}
use Rattle.tp4_conn.specs.AkWait.{ak_wait_tpdu, ak_wait_tick, opening}
use Rattle.tp4_conn.specs.Calls.{unit_refusal, call_refusal}
use Rattle.tp4_conn.specs.End.{Moved, led_by, agreed_format, confirms, send}
use Rattle.tp4_conn.specs.Opened.{dt_as, opened_tpdu, opened_tick, opened_as, opened_goes, granting, protocol_error, is_expedited}
use Rattle.tp4_conn.specs.Table.{Event, Called, Took, Ticked, on_call}
use Rattle.law_tp4_history.specs.Ends.{Terms, Offer, Tpdu as SeenTpdu}
use Rattle.law_tp4_history.specs.Tracks.{Track, CanOut, CanIn}
use Rattle.law_tp4_history.specs.Lines.{IsSendingAt, IsReceivingAt, AreHalvesAt, Stands, IsAt, IsHeard, given, shown_in, AreSentIn, LinesGoOn}
use Rattle.law_tp4_history.proofs.FlowGoes.{goes_none, goes_twice, sent_on, rules_on}
use Rattle.law_tp4_history.proofs.FlowLines.{sent_both}
use Rattle.law_tp4_history.proofs.FlowOut.{shown-append}
use Rattle.law_tp4_history.proofs.FlowReceiving.{Takes, ack_takes, dt_takes, ed_takes, grant_takes, grant_acks}
use Rattle.law_tp4_history.proofs.FlowSending.{Sends, submit_sends, urge_sends, open_sends, tick_sends, ak_sends, ea_sends}

-- both lines, where the halves stand at the clock
pub record Here (format : Format) (h : Halves) (now : ℕ) (own theirs : Track) : Type 0 where
  pub halves : AreHalvesAt format h own theirs
  pub own_clocks : IsAt now own
  pub their_clocks : IsAt now theirs

-- a TPDU without a number
pub plain_sent : (own theirs : Track) (tick : ℕ) (b : EndRecord) (source reason : ℕ) (octets : List ℕ) → AreSentIn own theirs tick (send b (Dr b.partner source reason None octets) ∷ [])
plain_sent own theirs tick b source reason octets = (record { n = 0; numbered = tt; stands = tt }, tt)

dc_sent : (own theirs : Track) (tick : ℕ) (b : EndRecord) (source : ℕ) → AreSentIn own theirs tick (confirms b source)
dc_sent own theirs tick b source = if_kept (AreSentIn own theirs tick) (source == 0) _ _ (λ _. tt) (λ _. (record { n = 0; numbered = tt; stands = tt }, tt))

cc_sent : (own theirs : Track) (tick : ℕ) (b : EndRecord) (agreed : Option Options) (octets : List ℕ) → AreSentIn own theirs tick (confirms_again b agreed octets)
cc_sent own theirs tick b None octets = tt
cc_sent own theirs tick b (Some o) octets = (record { n = 0; numbered = tt; stands = tt }, tt)

module _ (terms : Terms) (taken : Option Offer) (now : ℕ) where
  -- nothing happens in the lines
  idle : {format : Format} {h : Halves} (own theirs : Track) (event : Event) (m : Moved) → Here format h now own theirs → given event ≡ [] → shown_in m.events ≡ [] → Stands terms m.base m.stage own theirs
      → AreSentIn own theirs now m.tpdus → LinesGoOn terms now taken event m own theirs
  idle own theirs event m here gave showed stands sent = record {
    own = own;
    theirs = theirs;
    own_goes = goes_none (CanOut taken) own here.halves.sending.begun;
    they_go = goes_none (CanIn taken) theirs here.halves.receiving.begun;
    stands = stands;
    own_clocks = here.own_clocks;
    their_clocks = here.their_clocks;
    gave = sym (append-nil own.line.submitted) ∙ ap (λ (us : List Marked). own.line.submitted ++ us) (sym gave);
    showed = sym (append-nil theirs.line.shown) ∙ ap (λ (us : List Marked). theirs.line.shown ++ us) (sym showed);
    sent = sent;
  }

  -- the sending half does something
  sent_halves : {format : Format} {h : Halves} {own theirs : Track} {x : Sendings} {given : List Marked} → Here format h now own theirs → (s : Sends taken now own x given) → AreHalvesAt format (record h { sending = x.sender }) s.own theirs
  sent_halves here s = record {
    sending = s.stands;
    receiving = here.halves.receiving;
    own_block = ap (λ (r : Rules). r.block) (rules_on (CanOut taken) _ s.own s.goes) ∙ here.halves.own_block;
    their_block = here.halves.their_block;
  }

  sends_row : {format : Format} {h : Halves} (own theirs : Track) (event : Event) (b : EndRecord) (stage : StateData) (x : Sendings) → Here format h now own theirs → (s : Sends taken now own x (given event))
      → Stands terms b stage s.own theirs → LinesGoOn terms now taken event (record { base = b; stage = stage; events = x.events; tpdus = x.tpdus }) own theirs
  sends_row own theirs event b stage x here s stands = record {
    own = s.own;
    theirs = theirs;
    own_goes = s.goes;
    they_go = goes_none (CanIn taken) theirs here.halves.receiving.begun;
    stands = stands;
    own_clocks = s.clocks;
    their_clocks = here.their_clocks;
    gave = s.gave;
    showed = sym (append-nil theirs.line.shown) ∙ ap (λ (us : List Marked). theirs.line.shown ++ us) (sym s.quiet);
    sent = s.sent theirs;
  }

  -- the receiving half does something
  took_halves : {format : Format} {h : Halves} {own theirs : Track} {x : Received} → Here format h now own theirs → (r : Takes taken now theirs x) → AreHalvesAt format (record h { receiving = x.half }) own r.theirs
  took_halves here r = record {
    sending = here.halves.sending;
    receiving = r.stands;
    own_block = here.halves.own_block;
    their_block = ap (λ (u : Rules). u.block) (rules_on (CanIn taken) _ r.theirs r.goes) ∙ here.halves.their_block;
  }

  takes_row : {format : Format} {h : Halves} (own theirs : Track) (event : Event) (b : EndRecord) (stage : StateData) (events : List EndEvent) (x : Received) → Here format h now own theirs → given event ≡ []
      → shown_in events ≡ shown_in x.events → (r : Takes taken now theirs x)
      → Stands terms b stage own r.theirs → LinesGoOn terms now taken event (record { base = b; stage = stage; events = events; tpdus = x.tpdus }) own theirs
  takes_row own theirs event b stage events x here gave same r stands = record {
    own = own;
    theirs = r.theirs;
    own_goes = goes_none (CanOut taken) own here.halves.sending.begun;
    they_go = r.goes;
    stands = stands;
    own_clocks = here.own_clocks;
    their_clocks = r.clocks;
    gave = sym (append-nil own.line.submitted) ∙ ap (λ (us : List Marked). own.line.submitted ++ us) (sym gave);
    showed = r.showed ∙ ap (λ (us : List Marked). theirs.line.shown ++ us) (sym same);
    sent = r.sent own;
  }

  -- first the sending half, and then a row
  led_row : (own theirs : Track) (event : Event) (m : Moved) (x : Sendings) (s : Sends taken now own x []) → LinesGoOn terms now taken event m s.own theirs → LinesGoOn terms now taken event (led_by x.events x.tpdus m) own theirs
  led_row own theirs event m x s g = record {
    own = g.own;
    theirs = g.theirs;
    own_goes = goes_twice taken own s.own g.own s.goes g.own_goes;
    they_go = g.they_go;
    stands = g.stands;
    own_clocks = g.own_clocks;
    their_clocks = g.their_clocks;
    gave = g.gave ∙ ap (λ (us : List Marked). us ++ given event) (s.gave ∙ append-nil own.line.submitted);
    showed = g.showed ∙ ap (λ (us : List Marked). theirs.line.shown ++ us) (sym (shown-append x.events m.events ∙ ap (λ (us : List Marked). us ++ shown_in m.events) s.quiet));
    sent = sent_both g.own g.theirs now x.tpdus m.tpdus (sent_on (CanOut taken) (CanIn taken) s.own theirs g.own g.theirs now x.tpdus g.own_goes g.they_go (s.sent theirs)) g.sent;
  }

module _ (terms : Terms) (taken : Option Offer) (own theirs : Track) (b : EndRecord) where
  -- a row that ends the end, after what the receiving half did
  release_sent : (tick source reason : ℕ) (octets : List ℕ) (own theirs : Track) → AreSentIn own theirs tick (send b (Dr b.partner source reason None octets) ∷ [])
  release_sent tick source reason octets own theirs = plain_sent own theirs tick b source reason octets

  -- what a number of a TPDU is for a half of the format
  number_is : (h : Half) (format : Format) (w n : ℕ) → IsReceivingAt h theirs → theirs.rules.block ≡ block_of format → w ≡ wire (block_of format) n → w ≡ wire (block_there h) n
  number_is h width w n s block e = e ∙ ap (λ (k : ℕ). wire k n) (sym block ∙ s.block)

  number_of : (s : FlowSender) (format : Format) (w n : ℕ) → IsSendingAt s own → own.rules.block ≡ block_of format → w ≡ wire (block_of format) n → w ≡ wire (block_in s) n
  number_of s width w n h block e = e ∙ ap (λ (k : ℕ). wire k n) (sym block ∙ h.block)

  dt_row : (event : Event) (got : Got) (o : InOpened) (x : Received) → Here (agreed_format b.agreed) o.halves b.clock own theirs → given event ≡ [] → Takes taken b.clock theirs x
      → LinesGoOn terms b.clock taken event (dt_as got b o x) own theirs
  dt_row event TooLarge o x here gave r = record {
    own = own;
    theirs = r.theirs;
    own_goes = goes_none (CanOut taken) own here.halves.sending.begun;
    they_go = r.goes;
    stands = tt;
    own_clocks = here.own_clocks;
    their_clocks = r.clocks;
    gave = sym (append-nil own.line.submitted) ∙ ap (λ (us : List Marked). own.line.submitted ++ us) (sym gave);
    showed = r.showed ∙ ap (λ (us : List Marked). theirs.line.shown ++ us) (sym (shown-append x.events (protocol_error b).events ∙ append-nil (shown_in x.events)));
    sent = sent_both own r.theirs b.clock x.tpdus (protocol_error b).tpdus (r.sent own) (plain_sent own r.theirs b.clock b b.own 133 []);
  }
  dt_row event other o x here gave r = takes_row terms taken b.clock own theirs event b _ x.events x here gave refl r (took_halves terms taken b.clock here r)

  protocol_row : (event : Event) (o : InOpened) → Here (agreed_format b.agreed) o.halves b.clock own theirs → given event ≡ [] → LinesGoOn terms b.clock taken event (protocol_error b) own theirs
  protocol_row event o here gave = idle terms taken b.clock own theirs event _ here gave refl tt (plain_sent own theirs b.clock b b.own 133 [])

  -- a TPDU
  pub opened_row : (o : InOpened) (tpdu : Tpdu) (sum : Bool) → Here (agreed_format b.agreed) o.halves b.clock own theirs → IsHeard (agreed_format b.agreed) taken tpdu theirs
      → LinesGoOn terms b.clock taken (Took tpdu sum) (opened_tpdu whole b o tpdu) own theirs
  unfolding opened_tpdu
  opened_row o (Cc credit destination source width calling called size preferred extra version classes ack_time text) sum here k =
      let r = ack_takes taken b.clock theirs o.halves.receiving here.halves.receiving here.their_clocks in
      takes_row terms taken b.clock own theirs _ b _ [] _ here refl refl r (took_halves terms taken b.clock here r)
  opened_row o (Dr destination source reason info text) sum here k = idle terms taken b.clock own theirs _ _ here refl refl tt (dc_sent own theirs b.clock b source)
  opened_row o (Er destination cause rejected) sum here k = protocol_row _ o here refl
  opened_row o (Dt destination last number text) sum here k =
      let h = o.halves.receiving in
      dt_row _ (dt_arrival h number (record { last = last; octets = text })).got o _ here refl
      (dt_takes taken b.clock theirs h here.halves.receiving here.their_clocks k.n number (record { last = last; octets = text }) k.offer
      (number_is h (agreed_format b.agreed) number k.n here.halves.receiving here.halves.their_block k.numbered) k.is
      (ap (λ (x : SeenTpdu). x.kind) k.seen_as) (ap (λ (x : SeenTpdu). x.body) k.seen_as))
  opened_row o (Ed destination last number text) sum here k =
      let h = o.halves.receiving in
      let r = ed_takes taken b.clock theirs h here.halves.receiving here.their_clocks k.n number text k.offer
      (number_is h (agreed_format b.agreed) number k.n here.halves.receiving here.halves.their_block k.numbered) k.is
      (ap (λ (x : SeenTpdu). x.kind) k.seen_as) (ap (λ (x : SeenTpdu). x.body) k.seen_as) k.unit in
      if_kept (λ (m : Moved). LinesGoOn terms b.clock taken (Took (Ed destination last number text) sum) m own theirs) (is_expedited b.agreed) _ _
      (λ _. takes_row terms taken b.clock own theirs _ b _ _ _ here refl refl r (took_halves terms taken b.clock here r))
      (λ _. protocol_row _ o here refl)
  opened_row o (Ak destination number credit subsequence confirmation) sum here k =
      let h = o.halves.sending in
      let s = ak_sends taken b.clock own h here.halves.sending here.own_clocks k.n number credit subsequence k.offer
      (number_of h (agreed_format b.agreed) number k.n here.halves.sending here.halves.own_block k.numbered) k.is
      (ap (λ (x : SeenTpdu). x.kind) k.seen_as) (ap (λ (x : SeenTpdu). x.body) k.seen_as) in
      sends_row terms taken b.clock own theirs _ b _ _ here s (sent_halves terms taken b.clock here s)
  opened_row o (Ea destination number) sum here k =
      let h = o.halves.sending in
      let s = ea_sends taken b.clock own h here.halves.sending here.own_clocks k.n number k.offer
      (number_of h (agreed_format b.agreed) number k.n here.halves.sending here.halves.own_block k.numbered) k.is
      (ap (λ (x : SeenTpdu). x.kind) k.seen_as) (ap (λ (x : SeenTpdu). x.body) k.seen_as) in
      sends_row terms taken b.clock own theirs _ b _ _ here s (sent_halves terms taken b.clock here s)
  opened_row o other sum here k = idle terms taken b.clock own theirs _ _ here refl refl here.halves tt

  -- a tick
  acked_row : (o : InOpened) (x : Sendings) → Here (agreed_format b.agreed) o.halves b.clock own theirs → (s : Sends taken b.clock own x []) → LinesGoOn terms b.clock taken Ticked (opened_goes b o x) own theirs
  acked_row o x here s =
      let after : Here (agreed_format b.agreed) (record o.halves { sending = x.sender }) b.clock s.own theirs =
      record { halves = sent_halves terms taken b.clock here s; own_clocks = s.clocks; their_clocks = here.their_clocks } in
      let r = ack_takes taken b.clock theirs o.halves.receiving here.halves.receiving here.their_clocks in
      if_kept (λ (m : Moved). LinesGoOn terms b.clock taken Ticked m own theirs) (nat_le (o.acked + b.timers.window) b.clock) _ _
      (λ _. led_row terms taken b.clock own theirs Ticked _ x s (takes_row terms taken b.clock s.own theirs Ticked b _ [] _ after refl refl r (took_halves terms taken b.clock after r)))
      (λ _. sends_row terms taken b.clock own theirs Ticked b _ x here s (sent_halves terms taken b.clock here s))

  life_row : (life : Life) (o : InOpened) → Here (agreed_format b.agreed) o.halves b.clock own theirs → LinesGoOn terms b.clock taken Ticked (opened_as life b o) own theirs
  life_row Exhausted o here = idle terms taken b.clock own theirs Ticked _ here refl refl tt (plain_sent own theirs b.clock b b.own 128 [])
  life_row Goes o here = acked_row o _ here (tick_sends taken b.clock own o.halves.sending here.halves.sending here.own_clocks)

  pub tick_row : (o : InOpened) → Here (agreed_format b.agreed) o.halves b.clock own theirs → LinesGoOn terms b.clock taken Ticked (opened_tick b o) own theirs
  unfolding opened_tick
  tick_row o here = if_kept (λ (m : Moved). LinesGoOn terms b.clock taken Ticked m own theirs) (nat_le (o.took + b.timers.inactive) b.clock) _ _
      (λ _. idle terms taken b.clock own theirs Ticked _ here refl refl tt (plain_sent own theirs b.clock b b.own 128 []))
      (λ _. life_row (life_of (at b.clock o.halves.sending)) o here)

module _ (terms : Terms) (taken : Option Offer) (own theirs : Track) (b : EndRecord) where
  -- AkWait: Opened, and then the TPDU
  opening_row : (h : Halves) (tpdu : Tpdu) (sum : Bool) → Here (agreed_format b.agreed) h b.clock own theirs → IsHeard (agreed_format b.agreed) taken tpdu theirs
      → LinesGoOn terms b.clock taken (Took tpdu sum) (opening whole b h tpdu) own theirs
  opening_row h tpdu sum here k =
      let x = opened (at b.clock h.sending) in
      let s : Sends taken b.clock own x [] = open_sends taken b.clock own h.sending here.halves.sending here.own_clocks in
      led_row terms taken b.clock own theirs (Took tpdu sum) _ x s
      (opened_row terms taken s.own theirs b (record { took = b.clock; acked = b.clock; halves = record h { sending = x.sender } }) tpdu sum
      (record { halves = sent_halves terms taken b.clock here s; own_clocks = s.clocks; their_clocks = here.their_clocks }) k)

  pub ak_wait_row : (w : InAkWait) (tpdu : Tpdu) (sum : Bool) → Here (agreed_format b.agreed) w.halves b.clock own theirs → IsHeard (agreed_format b.agreed) taken tpdu theirs
      → LinesGoOn terms b.clock taken (Took tpdu sum) (ak_wait_tpdu whole b w tpdu) own theirs
  unfolding ak_wait_tpdu
  ak_wait_row w (Ak destination number credit subsequence confirmation) sum here k = opening_row w.halves (Ak destination number credit subsequence confirmation) sum here k
  ak_wait_row w (Dt destination last number text) sum here k = opening_row w.halves (Dt destination last number text) sum here k
  ak_wait_row w (Ed destination last number text) sum here k = opening_row w.halves (Ed destination last number text) sum here k
  ak_wait_row w (Ea destination number) sum here k = opening_row w.halves (Ea destination number) sum here k
  ak_wait_row w (Dr destination source reason info text) sum here k = idle terms taken b.clock own theirs _ _ here refl refl tt (dc_sent own theirs b.clock b source)
  ak_wait_row w (Er destination cause rejected) sum here k = idle terms taken b.clock own theirs _ _ here refl refl tt (plain_sent own theirs b.clock b b.own 133 [])
  ak_wait_row w other sum here k = idle terms taken b.clock own theirs _ _ here refl refl here.halves tt

  pub ak_tick_row : (w : InAkWait) → Here (agreed_format b.agreed) w.halves b.clock own theirs → LinesGoOn terms b.clock taken Ticked (ak_wait_tick b w) own theirs
  unfolding ak_wait_tick
  ak_tick_row w here = if_kept (λ (m : Moved). LinesGoOn terms b.clock taken Ticked m own theirs) (nat_lt b.clock (w.tries.last + b.timers.t1)) _ _
      (λ _. idle terms taken b.clock own theirs Ticked _ here refl refl here.halves tt)
      (λ _. if_kept (λ (m : Moved). LinesGoOn terms b.clock taken Ticked m own theirs) (nat_lt w.tries.count b.timers.sendings) _ _
      (λ _. idle terms taken b.clock own theirs Ticked _ here refl refl here.halves (cc_sent own theirs b.clock b b.agreed w.octets))
      (λ _. idle terms taken b.clock own theirs Ticked _ here refl refl tt tt))

  -- a call
  unit_some : (s : FlowSender) (octets : ℕ) → unit_refusal (refusal s octets) ≡ None → 0 < octets
  unit_some s octets e = by (octets == 0) refl e
    where
      by : (none : Bool) → (octets == 0) ≡ none
          → unit_refusal (if none then Some submits.EmptyUnit else if nat_lt 16384 octets then Some submits.TooLong else if nat_le 64 (length s.queue.units) || nat_lt 131072 (sum_by length s.queue.units + octets) then Some submits.QueueFull else None) ≡ None
          → 0 < octets
      by true z k = absurd (none-some _ (sym k))
      by false z k = omega (arith, eqb-false octets 0 z)

  grant_row : (o : InOpened) (credit : ℕ) → Here (agreed_format b.agreed) o.halves b.clock own theirs
      → LinesGoOn terms b.clock taken (Called (calls.Window credit)) (granting b o (half_granted o.halves.receiving credit)) own theirs
  grant_row o credit here =
      let h = o.halves.receiving in
      let r = grant_takes taken b.clock theirs h here.halves.receiving here.their_clocks credit in
      let a = grant_acks taken b.clock theirs h here.halves.receiving here.their_clocks credit in
      if_kept (λ (m : Moved). LinesGoOn terms b.clock taken (Called (calls.Window credit)) m own theirs) ((half_granted h credit).receiver.inbox.credit == h.receiver.inbox.credit) _ _
      (λ _. takes_row terms taken b.clock own theirs _ b _ _ _ here refl refl r (took_halves terms taken b.clock here r))
      (λ _. takes_row terms taken b.clock own theirs _ b _ _ _ here refl refl a (took_halves terms taken b.clock here a))

  pub opened_call : (o : InOpened) (call : UserCall) → Here (agreed_format b.agreed) o.halves b.clock own theirs → call_refusal b (Opened o) call ≡ None
      → LinesGoOn terms b.clock taken (Called call) (on_call b (Opened o) call) own theirs
  opened_call o (calls.Normal unit) here e =
      let s = submit_sends taken b.clock own o.halves.sending here.halves.sending here.own_clocks unit (unit_some o.halves.sending (length unit) e) in
      sends_row terms taken b.clock own theirs _ b _ _ here s (sent_halves terms taken b.clock here s)
  opened_call o (calls.Urgent unit) here e =
      let s = urge_sends taken b.clock own o.halves.sending here.halves.sending here.own_clocks unit in
      sends_row terms taken b.clock own theirs _ b _ _ here s (sent_halves terms taken b.clock here s)
  opened_call o (calls.Window credit) here e = grant_row o credit here
  opened_call o (calls.Disconnect octets) here e = idle terms taken b.clock own theirs _ _ here refl refl tt (plain_sent own theirs b.clock b b.own 128 octets)
  opened_call o other here e = idle terms taken b.clock own theirs _ _ here refl refl here.halves tt

  pub ak_wait_call : (w : InAkWait) (call : UserCall) → Here (agreed_format b.agreed) w.halves b.clock own theirs → call_refusal b (AkWait w) call ≡ None
      → LinesGoOn terms b.clock taken (Called call) (on_call b (AkWait w) call) own theirs
  ak_wait_call w (calls.Normal unit) here e =
      let s = submit_sends taken b.clock own w.halves.sending here.halves.sending here.own_clocks unit (unit_some w.halves.sending (length unit) e) in
      sends_row terms taken b.clock own theirs _ b _ _ here s (sent_halves terms taken b.clock here s)
  ak_wait_call w (calls.Urgent unit) here e =
      let s = urge_sends taken b.clock own w.halves.sending here.halves.sending here.own_clocks unit in
      sends_row terms taken b.clock own theirs _ b _ _ here s (sent_halves terms taken b.clock here s)
  ak_wait_call w (calls.Disconnect octets) here e = idle terms taken b.clock own theirs _ _ here refl refl tt (plain_sent own theirs b.clock b b.own 128 octets)
  ak_wait_call w other here e = idle terms taken b.clock own theirs _ _ here refl refl here.halves tt
