-- Every row of the state table, by state and event. Lines begin as the user of the called end accepts; they go on in AkWait and Opened, and
-- at the CC that opens a calling end; all other rows leave them.
use Rattle.std.proofs.Common.{◌≡◌, ℕ, ◌+◌, ◌-◌, ◌<◌, ◌≤◌, ◌==◌, ◌&&◌, not, nat_lt, nat_le, Bool, true, false, if◌then◌else◌, List, [], ◌∷◌, ◌++◌, Option, Some, None, refl, sym, ◌∙◌, ap, subst, arith}
use Rattle.std.proofs.lemmas.Bool.{true≢false}
use Rattle.std.proofs.lemmas.Option.{none-some}
use Rattle.tpdu.specs.declared.tpdu.Format.{Format}
use Rattle.tpdu.specs.declared.tpdu.Format.TheVariants as formats
use Rattle.tpdu.specs.declared.tpdu.Tpdu.{Tpdu}
use Rattle.tpdu.specs.declared.tpdu.Tpdu.TheVariants.{Cc, Dr, Dc}
use Rattle.tpdu.specs.Writing.{IsAllowed}
use Rattle.script_journal.specs.Lawful.{Marked}
use Rattle.tp4_number.specs.Formats.{block_of, most_of}
use Rattle.tp4_number.specs.Number.{whole}
use Rattle.tp4_number.specs.Traffic.{Rules}
use Rattle.tp4_number.proofs.Past.{if_kept}
use Rattle.tp4_flow.specs.ReceivingHalf.{empty, ak}
use Rattle.tpdu.specs.declared.service.Options.{Options}
use Rattle.tp4_sending.specs.SendingHalf.{at, fresh, opened}
use Rattle.tp4_conn.specs.declared.end_record.EndRecord.{EndRecord}
use Rattle.tp4_conn.specs.declared.call.UserCall.{UserCall}
use Rattle.tp4_conn.specs.declared.call.UserCall.TheVariants as calls
use Rattle.tp4_conn.specs.declared.halves.Halves.{Halves}
use Rattle.tp4_conn.specs.declared.states.InWaitBeforeClose.{InWaitBeforeClose}
use Rattle.tp4_conn.specs.declared.states.InClosing.{InClosing}
use Rattle.tp4_conn.specs.declared.states.InCrWait.{InCrWait}
use Rattle.tp4_conn.specs.declared.states.StateData.{StateData}
use Rattle.tp4_conn.specs.declared.states.StateData.TheVariants.{CrWait, WaitBeforeClose, UserWait, AkWait, Opened, Closing, Frozen}
use Rattle.tp4_conn.specs.declared.timers.Timers.{Timers}
use Rattle.tp4_conn.specs.Agreeing.{options_in, is_within, is_extended, agreed_by, header_of, flow_rules}
use Rattle.tp4_conn.specs.Calls.{IsCall, call_refusal}
use Rattle.tp4_conn.specs.Closing.{closing_tpdu, closing_tick}
use Rattle.tp4_conn.specs.CrWait.{cr_wait_tpdu, cr_wait_tick, confirmed}
use Rattle.tp4_conn.specs.End.{End, Moved, IsTimed, IsProposal, IsSized, agreed_format, confirms, in_use, span}
use Rattle.tp4_conn.specs.Matching.{wants_sum}
use Rattle.tp4_conn.specs.Opened.{hearing}
use Rattle.tp4_conn.specs.Proper.{IsProper, IsProperEvent}
use Rattle.tp4_conn.specs.Table.{Event, Called, Took, Ticked, on_tpdu, on_tick, on_call, stepped, at as base_at}
use Rattle.tp4_conn.specs.UserWait.{user_wait_accept, user_wait_refuse, user_wait_tick}
use Rattle.tp4_conn.specs.WaitBeforeClose.{wait_before_close_tpdu, wait_before_close_tick}
use Rattle.tp4_conn.proofs.Sizes.{agreed_sized, sized_least}
use Rattle.law_tp4_history.specs.Ends.{Times, Terms, Offer}
use Rattle.law_tp4_history.specs.Line.{empty as empty_line}
use Rattle.law_tp4_history.specs.Tracks.{Track, Starts, CanOut, CanIn}
use Rattle.law_tp4_history.specs.Seen.{terms_of}
use Rattle.law_tp4_history.specs.Lines.{IsSendingAt, IsReceivingAt, AreHalvesAt, AreUntouched, Stands, IsTimely, Confirms, IsKnownTpdu, IsKnownEvent, given, shown_in, ArePlain, Flowed, Still, Begun, Going}
use Rattle.law_tp4_history.proofs.FlowGoes.{rules_on}
use Rattle.law_tp4_history.proofs.FlowLines.{sent_both}
use Rattle.law_tp4_history.proofs.FlowOpened.{Here, opened_row, tick_row, ak_wait_row, ak_tick_row, opened_call, ak_wait_call}
use Rattle.law_tp4_history.proofs.FlowReceiving.{ack_takes}
use Rattle.law_tp4_history.proofs.FlowSending.{Sends, credit_sends}

-- what is agreed says the terms, and is said by them but for whether the size is a preferred one
pub same_format : (one other : Format) → is_extended one ≡ is_extended other → one ≡ other
same_format formats.Normal formats.Normal e = refl
same_format formats.Normal formats.Extended e = absurd (true≢false (sym e))
same_format formats.Extended formats.Normal e = absurd (true≢false e)
same_format formats.Extended formats.Extended e = refl

pub same_options : (one other : Options) → terms_of one ≡ terms_of other → record one { preferred = other.preferred } ≡ other
same_options one other e =
    let format = same_format one.format other.format (ap (λ (t : Terms). t.is_extended) e) in
    λ i. record { format = format i; size = (ap (λ (t : Terms). t.size) e) i; expedited = (ap (λ (t : Terms). t.has_expedited) e) i; sum = (ap (λ (t : Terms). t.is_summed) e) i; preferred = other.preferred }

block_some : (format : Format) → 0 < block_of format
block_some formats.Normal = omega arith
block_some formats.Extended = omega arith

credit_low : (format : Format) (credit : ℕ) → credit ≤ 15 → credit < block_of format
credit_low formats.Normal credit low = omega arith
credit_low formats.Extended credit low = omega arith

-- without a number
dc_plain : (b : EndRecord) (source : ℕ) → ArePlain (confirms b source)
dc_plain b source = if_kept ArePlain (source == 0) _ _ (λ _. tt) (λ _. ((λ n. refl), tt))

-- the same end at another tick, or with its partner known
sending_on : (b c : EndRecord) (o : Options) (credit : ℕ) (t : Track) → c.timers ≡ b.timers → IsSendingAt (fresh (flow_rules b o) credit) t → IsSendingAt (fresh (flow_rules c o) credit) t
sending_on b c o credit t same s = record {
  begun = s.begun;
  block = s.block;
  limit = s.limit ∙ ap in_use (sym same);
  size = s.size;
  numbers = s.numbers;
  window = s.window;
  first = s.first;
  acknowledged = s.acknowledged;
  normal = s.normal;
  pieces = s.pieces;
  next = s.next;
  blocks = s.blocks;
  base = s.base;
  answered = s.answered;
  expedited = s.expedited;
  answers = s.answers;
  sent = s.sent;
}

receiving_on : (b c : EndRecord) (o : Options) (t : Track) → c.timers ≡ b.timers → IsReceivingAt (empty (flow_rules b o) b.timers.credit) t → IsReceivingAt (empty (flow_rules c o) c.timers.credit) t
receiving_on b c o t same r = record {
  begun = r.begun;
  block = r.block;
  expected = r.expected;
  inbox = r.inbox ∙ ap (λ (u : Timers). (empty (flow_rules b o) u.credit).receiver.inbox) (sym same);
  urgent = r.urgent;
}

untouched_on : (terms : Terms) (b c : EndRecord) (own theirs : Track) → c.timers ≡ b.timers → AreUntouched terms b own theirs → AreUntouched terms c own theirs
untouched_on terms b c own theirs same u = record {
  options = u.options;
  terms_are = u.terms_are;
  credit = u.credit;
  sending = sending_on b c u.options u.credit own same u.sending;
  receiving = receiving_on b c u.options theirs same u.receiving;
}

-- a calling end takes a CC
abbrev knowing : ℕ → EndRecord → ℕ → ℕ → Options → EndRecord
knowing now b source credit o = record (base_at now b) { partner = source; credit = credit; agreed = Some o }

-- both lines as they begin
abbrev begun_track : ℕ → Timers → Options → ℕ → Track
begun_track now t o credit = record {
  is_begun = true;
  rules = record { block = block_of o.format; life = t.life; limit = in_use t };
  size = o.size - header_of o;
  tick = now;
  credit = credit;
  places = most_of o.format;
  room = t.credit;
  line = empty_line now credit (most_of o.format) t.credit;
}

sending_begun : (now : ℕ) (t : Timers) (b : EndRecord) (o : Options) (credit : ℕ) → t ≡ b.timers → IsSendingAt (fresh (flow_rules b o) credit) (begun_track now t o credit)
sending_begun now t b o credit same = record {
  begun = refl;
  block = refl;
  limit = ap in_use same;
  size = refl;
  numbers = refl;
  window = refl;
  first = omega arith;
  acknowledged = [];
  normal = refl;
  pieces = refl;
  next = refl;
  blocks = refl;
  base = refl;
  answered = [];
  expedited = refl;
  answers = refl;
  sent = omega arith;
}

receiving_begun : (now : ℕ) (t : Timers) (b : EndRecord) (o : Options) (credit : ℕ) → t ≡ b.timers → IsReceivingAt (empty (flow_rules b o) b.timers.credit) (begun_track now t o credit)
receiving_begun now t b o credit same = record {
  begun = refl;
  block = refl;
  expected = refl;
  inbox = ap (λ (u : Timers). (empty (flow_rules b o) u.credit).receiver.inbox) same;
  urgent = refl;
}

starts : (times : Times) (now : ℕ) (t : Timers) (o : Options) (credit : ℕ) → times.life ≡ t.life → IsTimed t → IsSized o → credit ≤ 15 → Starts times now (begun_track now t o credit)
starts times now t o credit life timed size low = record {
  begun = refl;
  long = record { some = block_some o.format; long = omega arith };
  life = sym life;
  some = by (is_extended o.format) o.sum;
  credit_low = credit_low o.format credit low;
  room_low = credit_low o.format t.credit timed.credit;
  tick = refl;
  line = refl;
}
  where
    least : 128 ≤ o.size
    least = sized_least o size

    by : (extended sum : Bool) → 0 < o.size - ((if extended then 8 else 5) + (if sum then 4 else 0))
    by true true = omega (arith, least)
    by true false = omega (arith, least)
    by false true = omega (arith, least)
    by false false = omega (arith, least)

module _ (times : Times) (terms : Terms) (now : ℕ) (taken : Option Offer) (own theirs : Track) where
  abbrev Flows : StateData → Event → Moved → Type 0
  Flows old event m = Flowed times terms now taken old event m own theirs

  -- nothing happens in the lines
  still : {old : StateData} (event : Event) (m : Moved) → Stands terms m.base m.stage own theirs → given event ≡ [] → shown_in m.events ≡ [] → ArePlain m.tpdus → Flows old event m
  still event m stands gave showed plain = Still (record { stands = stands; gave = gave; showed = showed; plain = plain })

  -- CrWait
  waiting : (b : EndRecord) (w : InCrWait) → Stands terms b (CrWait w) own theirs → Stands terms (base_at now b) (CrWait w) own theirs
  waiting b w s begun = untouched_on terms b (base_at now b) own theirs refl (s begun)

  cr_wait_call : (b : EndRecord) (w : InCrWait) (call : UserCall) → call_refusal b (CrWait w) call ≡ None → Flows (CrWait w) (Called call) (on_call (base_at now b) (CrWait w) call)
  cr_wait_call b w (calls.Disconnect octets) e = still _ _ tt refl refl tt
  cr_wait_call b w other e = absurd (none-some _ (sym e))

  cr_wait_ticks : (b : EndRecord) (w : InCrWait) → Stands terms b (CrWait w) own theirs → Flows (CrWait w) Ticked (cr_wait_tick b w)
  unfolding cr_wait_tick
  cr_wait_ticks b w s =
      if_kept (Flows (CrWait w) Ticked) (nat_lt b.clock (w.tries.last + b.timers.t1)) _ _
      (λ _. still _ _ s refl refl tt)
      (λ _. if_kept (Flows (CrWait w) Ticked) (nat_lt w.tries.count b.timers.sendings) _ _ (λ _. still _ _ s refl refl ((λ n. refl), tt)) (λ _. still _ _ tt refl refl tt))

  -- the CC
  confirmed_row : (old : StateData) (b : EndRecord) (source credit : ℕ) (o : Options) (octets : List ℕ) (event : Event) → credit ≤ 15 → given event ≡ [] → terms_of o ≡ terms → AreUntouched terms b own theirs → IsTimely now own → IsTimely now theirs
      → Flows old event (confirmed (knowing now b source credit o) o octets)
  confirmed_row old b source credit o octets event low gave is u own_clock their_clock =
      let c = knowing now b source credit o in
      let same = same_options u.options o (u.terms_are ∙ sym is) in
      let there : IsSendingAt (fresh (flow_rules c o) u.credit) own = subst (λ (p : Options). IsSendingAt (fresh (flow_rules c p) u.credit) own) same (sending_on b c u.options u.credit own refl u.sending) in
      let here : IsReceivingAt (empty (flow_rules c o) c.timers.credit) theirs = subst (λ (p : Options). IsReceivingAt (empty (flow_rules c p) c.timers.credit) theirs) same (receiving_on b c u.options theirs refl u.receiving) in
      let x : Sends taken now own (opened (at now (fresh (flow_rules c o) credit))) [] =
      credit_sends taken now own (fresh (flow_rules c o) u.credit) there (own_clock there.begun) credit refl (credit_low o.format credit low) in
      let r = ack_takes taken now theirs (empty (flow_rules c o) c.timers.credit) here (their_clock here.begun) in
      Going (record {
        own = x.own;
        theirs = r.theirs;
        own_goes = x.goes;
        they_go = r.goes;
        stands = record {
          sending = x.stands;
          receiving = r.stands;
          own_block = ap (λ (s : Rules). s.block) (rules_on (CanOut taken) own x.own x.goes) ∙ there.block;
          their_block = ap (λ (s : Rules). s.block) (rules_on (CanIn taken) theirs r.theirs r.goes) ∙ here.block;
        };
        own_clocks = x.clocks;
        their_clocks = r.clocks;
        gave = x.gave ∙ ap (λ (us : List Marked). own.line.submitted ++ us) (sym gave);
        showed = r.showed ∙ ap (λ (us : List Marked). theirs.line.shown ++ us) (sym x.quiet);
        sent = sent_both x.own r.theirs now (opened (at now (fresh (flow_rules c o) credit))).tpdus (ak (empty (flow_rules c o) c.timers.credit) ∷ []) (x.sent r.theirs) (r.sent x.own);
      })

  cr_wait_row : (b : EndRecord) (w : InCrWait) (tpdu : Tpdu) (sum : Bool) → IsAllowed (agreed_format b.agreed) tpdu → Stands terms b (CrWait w) own theirs → Confirms terms tpdu own → IsTimely now own → IsTimely now theirs
      → Flows (CrWait w) (Took tpdu sum) (cr_wait_tpdu (base_at now b) w tpdu)
  unfolding cr_wait_tpdu
  cr_wait_row b w (Cc credit destination source width calling called size preferred extra version classes ack_time text) sum a s k own_clock their_clock =
      if_kept (Flows (CrWait w) (Took (Cc credit destination source width calling called size preferred extra version classes ack_time text) sum)) (is_within b.proposed width size preferred extra) _ _
      (λ _. confirmed_row (CrWait w) b source credit (options_in width size preferred extra) text _ (omega (arith, a.few_credits)) refl k.1 (s k.0) own_clock their_clock)
      (λ _. still _ _ tt refl refl ((λ n. refl), tt))
  cr_wait_row b w (Dr destination source reason info text) sum a s k own_clock their_clock = still _ _ tt refl refl (dc_plain (base_at now b) source)
  cr_wait_row b w other sum a s k own_clock their_clock = still _ _ (waiting b w s) refl refl tt

  -- UserWait
  accepted_row : (since : ℕ) (b : EndRecord) (asked : Options) (octets : List ℕ) → times.life ≡ b.timers.life → IsTimed b.timers → IsProposal b.proposed → IsSized asked → b.credit ≤ 15
      → Flows (UserWait since) (Called (calls.Accept asked octets)) (user_wait_accept (base_at now b) asked octets)
  unfolding user_wait_accept
  accepted_row since b asked octets life timed size also low =
      let o = agreed_by b.proposed asked in
      let all : IsSized o = agreed_sized b.proposed asked size also in
      Begun (record {
        since = since;
        waited = refl;
        own = begun_track now b.timers o b.credit;
        theirs = begun_track now b.timers o b.timers.credit;
        own_starts = starts times now b.timers o b.credit life timed all low;
        they_start = starts times now b.timers o b.timers.credit life timed all timed.credit;
        stands = record {
          sending = sending_begun now b.timers b o b.credit refl;
          receiving = receiving_begun now b.timers b o b.timers.credit refl;
          own_block = refl;
          their_block = refl;
        };
        options = o;
        agreed = refl;
        untouched = λ c same. record {
          options = o;
          terms_are = refl;
          credit = b.timers.credit;
          sending = sending_begun now b.timers c o b.timers.credit (sym same);
          receiving = receiving_begun now b.timers c o b.credit (sym same);
        };
        own_clocks = record { world = refl; urgent = refl };
        their_clocks = record { world = refl; urgent = refl };
        gave = refl;
        showed = refl;
        plain = ((λ n. refl), tt);
      })

  user_wait_call : (b : EndRecord) (since : ℕ) (call : UserCall) → times.life ≡ b.timers.life → IsTimed b.timers → IsProposal b.proposed → b.credit ≤ 15 → call_refusal b (UserWait since) call ≡ None → IsCall call
      → Flows (UserWait since) (Called call) (on_call (base_at now b) (UserWait since) call)
  unfolding user_wait_refuse
  user_wait_call b since (calls.Accept asked octets) life timed size low e c = accepted_row since b asked octets life timed size c low
  user_wait_call b since (calls.Refuse octets) life timed size low e c = still _ _ tt refl refl ((λ n. refl), tt)
  user_wait_call b since other life timed size low e c = absurd (none-some _ (sym e))

  user_wait_ticks : (b : EndRecord) (since : ℕ) → b.credit ≤ 15 → Flows (UserWait since) Ticked (user_wait_tick b since)
  unfolding user_wait_tick
  user_wait_ticks b since low = if_kept (Flows (UserWait since) Ticked) (nat_lt b.clock (since + b.timers.inactive)) _ _ (λ _. still _ _ low refl refl tt) (λ _. still _ _ tt refl refl ((λ n. refl), tt))

  -- states without halves: no call is listed, and nothing has a number
  wait_row : (b : EndRecord) (w : InWaitBeforeClose) (tpdu : Tpdu) (sum : Bool) → Flows (WaitBeforeClose w) (Took tpdu sum) (wait_before_close_tpdu b w tpdu)
  unfolding wait_before_close_tpdu
  wait_row b w (Cc credit destination source width calling called size preferred extra version classes ack_time text) sum = still _ _ tt refl refl ((λ n. refl), tt)
  wait_row b w (Dr destination source reason info text) sum = still _ _ tt refl refl (dc_plain b source)
  wait_row b w other sum = still _ _ tt refl refl tt

  wait_ticks : (b : EndRecord) (w : InWaitBeforeClose) → Flows (WaitBeforeClose w) Ticked (wait_before_close_tick b w)
  unfolding wait_before_close_tick
  wait_ticks b w =
      if_kept (Flows (WaitBeforeClose w) Ticked) (nat_lt b.clock (w.request.tries.last + b.timers.t1)) _ _
      (λ _. still _ _ tt refl refl tt)
      (λ _. if_kept (Flows (WaitBeforeClose w) Ticked) (nat_lt w.request.tries.count b.timers.sendings) _ _ (λ _. still _ _ tt refl refl ((λ n. refl), tt)) (λ _. still _ _ tt refl refl tt))

  closing_row : (b : EndRecord) (c : InClosing) (tpdu : Tpdu) (sum : Bool) → Flows (Closing c) (Took tpdu sum) (closing_tpdu b c tpdu)
  unfolding closing_tpdu
  closing_row b c (Dc destination source) sum = still _ _ tt refl refl tt
  closing_row b c other sum = still _ _ tt refl refl tt

  closing_ticks : (b : EndRecord) (c : InClosing) → Flows (Closing c) Ticked (closing_tick b c)
  unfolding closing_tick
  closing_ticks b c =
      if_kept (Flows (Closing c) Ticked) (nat_le (c.from + span b.timers) b.clock) _ _
      (λ _. still _ _ tt refl refl tt)
      (λ _. if_kept (Flows (Closing c) Ticked) (nat_lt b.clock (c.last + b.timers.t1)) _ _ (λ _. still _ _ tt refl refl tt) (λ _. still _ _ tt refl refl ((λ n. refl), tt)))

  -- a call, a TPDU, a tick
  here_at : {format : Format} {h : Halves} → AreHalvesAt format h own theirs → IsTimely now own → IsTimely now theirs → Here format h now own theirs
  here_at s own_clock their_clock = record { halves = s; own_clocks = own_clock s.sending.begun; their_clocks = their_clock s.receiving.begun }

  call_flows : (b : EndRecord) (stage : StateData) (call : UserCall) → times.life ≡ b.timers.life → IsProper b stage → call_refusal b stage call ≡ None → IsCall call → Stands terms b stage own theirs → IsTimely now own → IsTimely now theirs
      → Flows stage (Called call) (on_call (base_at now b) stage call)
  call_flows b (CrWait w) call life p e c s own_clock their_clock = cr_wait_call b w call e
  call_flows b (UserWait since) call life p e c s own_clock their_clock = user_wait_call b since call life p.timers p.size s e c
  call_flows b (AkWait w) call life p e c s own_clock their_clock = Going (ak_wait_call terms taken own theirs (base_at now b) w call (here_at s own_clock their_clock) e)
  call_flows b (Opened o) call life p e c s own_clock their_clock = Going (opened_call terms taken own theirs (base_at now b) o call (here_at s own_clock their_clock) e)
  call_flows b other call life p e c s own_clock their_clock = absurd (none-some _ (sym e))

  tpdu_flows : (b : EndRecord) (stage : StateData) (tpdu : Tpdu) (sum : Bool) → IsAllowed (agreed_format b.agreed) tpdu → Stands terms b stage own theirs → IsKnownTpdu terms b stage taken tpdu own theirs → IsTimely now own → IsTimely now theirs
      → Flows stage (Took tpdu sum) (on_tpdu whole (base_at now b) stage tpdu)
  tpdu_flows b (CrWait w) tpdu sum a s k own_clock their_clock = cr_wait_row b w tpdu sum a s k own_clock their_clock
  tpdu_flows b (WaitBeforeClose w) tpdu sum a s k own_clock their_clock = wait_row (base_at now b) w tpdu sum
  tpdu_flows b (UserWait since) tpdu sum a s k own_clock their_clock = still _ _ s refl refl tt
  tpdu_flows b (AkWait w) tpdu sum a s k own_clock their_clock = Going (ak_wait_row terms taken own theirs (base_at now b) w tpdu sum (here_at s own_clock their_clock) k)
  tpdu_flows b (Opened o) tpdu sum a s k own_clock their_clock = Going (opened_row terms taken own theirs (base_at now b) (hearing (base_at now b) o) tpdu sum (here_at s own_clock their_clock) k)
  tpdu_flows b (Closing c) tpdu sum a s k own_clock their_clock = closing_row (base_at now b) c tpdu sum
  tpdu_flows b (Frozen when) tpdu sum a s k own_clock their_clock = still _ _ tt refl refl tt

  tick_flows : (b : EndRecord) (stage : StateData) → Stands terms b stage own theirs → IsTimely now own → IsTimely now theirs → Flows stage Ticked (on_tick (base_at now b) stage)
  tick_flows b (CrWait w) s own_clock their_clock = cr_wait_ticks (base_at now b) w (waiting b w s)
  tick_flows b (WaitBeforeClose w) s own_clock their_clock = wait_ticks (base_at now b) w
  tick_flows b (UserWait since) s own_clock their_clock = user_wait_ticks (base_at now b) since s
  tick_flows b (AkWait w) s own_clock their_clock = Going (ak_tick_row terms taken own theirs (base_at now b) w (here_at s own_clock their_clock))
  tick_flows b (Opened o) s own_clock their_clock = Going (tick_row terms taken own theirs (base_at now b) o (here_at s own_clock their_clock))
  tick_flows b (Closing c) s own_clock their_clock = closing_ticks (base_at now b) c
  tick_flows b (Frozen when) s own_clock their_clock = still _ _ tt refl refl tt

  -- each event
  pub step_flows : (old : End) (event : Event) → times.life ≡ old.base.timers.life → IsProper old.base old.stage → IsProperEvent old event → Stands terms old.base old.stage own theirs
      → IsKnownEvent terms old.base old.stage taken event own theirs → IsTimely now own → IsTimely now theirs → Flows old.stage event (stepped whole now old event)
  step_flows old (Called call) life p may s k own_clock their_clock = call_flows old.base old.stage call life p may.0 may.1 s own_clock their_clock
  step_flows old (Took tpdu sum) life p may s k own_clock their_clock =
      if_kept (Flows old.stage (Took tpdu sum)) (wants_sum old.base old.stage tpdu && not sum) _ _
      (λ _. still _ _ s refl refl tt)
      (λ _. tpdu_flows old.base old.stage tpdu sum may s k own_clock their_clock)
  step_flows old Ticked life p may s k own_clock their_clock = tick_flows old.base old.stage s own_clock their_clock
