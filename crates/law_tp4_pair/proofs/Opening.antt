-- Both ends become Opened: the calling end by the CC, the called end by the first AK. No number was used, and each knows the credit of the other.
use Rattle.std.proofs.Common.{◌≡◌, ℕ, ◌+◌, ◌-◌, ◌/◌, ◌%◌, ◌≤◌, ◌<◌, ◌==◌, ◌&&◌, not, Bool, true, false, if◌then◌else◌, List, [], ◌∷◌, Some, refl, sym, ◌∙◌, ap, subst, arith, inl, inr}
use Rattle.tpdu.specs.declared.tpdu.Format.{Format}
use Rattle.tpdu.specs.declared.tpdu.Format.TheVariants.{Normal, Extended}
use Rattle.tp4_flow.specs.ReceivingHalf.{ak, empty}
use Rattle.tp4_flow.specs.declared.rules.FlowRules.{FlowRules}
use Rattle.tpdu.specs.declared.service.Options.{Options}
use Rattle.tp4_flow.specs.declared.step.EndEvent.{EndEvent}
use Rattle.tp4_flow.specs.declared.step.Sent.{Sent}
use Rattle.tp4_number.specs.Formats.{most_of}
use Rattle.tp4_number.specs.Number.{whole}
use Rattle.tp4_sending.specs.SendingHalf.{Sendings, at, fresh, opened}
use Rattle.tp4_sending.proofs.Settles.{new_settled}
use Rattle.tp4_conn.specs.declared.end_record.EndRecord.{EndRecord}
use Rattle.tp4_conn.specs.declared.halves.Halves.{Halves}
use Rattle.tp4_conn.specs.declared.states.InAkWait.{InAkWait}
use Rattle.tp4_conn.specs.declared.states.InOpened.{InOpened}
use Rattle.tp4_conn.specs.declared.states.InCrWait.{InCrWait}
use Rattle.tp4_conn.specs.declared.states.StateData.TheVariants.{CrWait, AkWait, Opened}
use Rattle.tp4_conn.specs.Agreeing.{confirm, extra_of, flow_rules, halves_of, header_of, is_confirmed, is_extended}
use Rattle.tp4_conn.specs.AkWait.{ak_wait_tpdu, opening}
use Rattle.tp4_conn.specs.CrWait.{confirmed, cr_wait_tpdu}
use Rattle.tp4_conn.proofs.Agreed.{options_back}
use Rattle.tp4_conn.proofs.Sizes.{sized_least}
use Rattle.tp4_conn.specs.End.{IsSized, Moved, agreed_sum, closing, gone, led_by}
use Rattle.tp4_conn.specs.Matching.{wants_sum}
use Rattle.tp4_conn.specs.Opened.{opened_tpdu}
use Rattle.tp4_conn.specs.Table.{at as now_at, on_tpdu, takes, untaken}
use Rattle.tpdu.specs.declared.service.GoneCause.TheVariants.{Protocol}
use Rattle.law_tp4_history.specs.Lines.{shown_in}
use Rattle.law_tp4_pair.specs.Pair.{Account}
use Rattle.law_tp4_pair.proofs.Carried.{fresh_carries}
use Rattle.law_tp4_pair.specs.Waiting.{aks_in}
use Rattle.law_tp4_pair.specs.Flowing.{IsCalm}
use Rattle.law_tp4_pair.specs.Standing.{HasLeft, AreBoth, IsFirst, Party, party}
use Rattle.law_tp4_pair.proofs.Acting.{Continues}
use Rattle.law_tp4_pair.proofs.Granting.{ak_repeated}
use Rattle.law_tp4_pair.proofs.Handing.{data_goes, has_sum}

-- ---- fresh halves

pub begins_calm : (rules other : FlowRules) (credit now : ℕ) → other.format ≡ rules.format → credit ≤ most_of other.format
    → IsCalm (opened (at now (fresh rules credit))).sender (empty other credit) [] [] [] []
begins_calm rules other credit now format low = record {
  flows = record {
    format = format;
    ordered = record { is_open = refl; first = omega arith; window = refl; high = omega arith; edge = omega arith; unit = tt };
    in_order = record { held = refl; credit = low };
    pending = record { count = 0; next = refl; dts_are = refl; within = omega arith };
    waiting = [];
    aks_are = refl;
    view = refl;
    answering = record { eds_are = refl; eas_are = refl; expected = refl };
  };
  credit = inl (record { known = refl; waiting_are = tt });
  settled = new_settled (record (fresh rules credit) { clock = now; is_open = true }) refl;
}

least_most : (format : Format) → 15 ≤ most_of format
least_most Normal = omega arith
least_most Extended = omega arith

-- ---- the CC

-- it has its checksum where one is agreed
pub confirm_sum : (o : Options) → ((extra_of o / 2 % 2 == 0) && not o.sum) ≡ false
confirm_sum o = by o.expedited o.sum
  where
    by : (expedited sum : Bool) → ((((if expedited then 1 else 0) + (if sum then 0 else 2)) / 2 % 2 == 0) && not sum) ≡ false
    by true true = refl
    by true false = refl
    by false true = refl
    by false false = refl

-- no unit was submitted or shown
abbrev pub no_units : Account
no_units = record { gave = []; showed = [] }

-- a DT has room for octets
has_room : (o : Options) → 12 < o.size → 0 < o.size - header_of o
has_room o size = by o.format o.sum
  where
    by : (format : Format) (sum : Bool) → 0 < o.size - ((if is_extended format then 8 else 5) + (if sum then 4 else 0))
    by Normal true = omega (arith, size)
    by Normal false = omega (arith, size)
    by Extended true = omega (arith, size)
    by Extended false = omega (arith, size)

-- the calling end after it: it has left, or the first AK waits
pub data Opens (c : EndRecord) (k : Halves) (m : Moved) : Type 0 where
  Gone : HasLeft m.stage → Opens c k m
  Opened_by : (o : InOpened) → m.stage ≡ Opened o → shown_in m.events ≡ [] → IsFirst m.base c o.halves k m.tpdus [] no_units no_units → Opens c k m

opens_as : (b c : EndRecord) (options : Options) (octets : List ℕ) → c.agreed ≡ Some options → c.credit ≡ b.timers.credit → b.timers.credit ≤ 15 → c.timers.credit ≤ 15 → 12 < options.size → c.partner ≡ b.own → b.partner ≡ c.own
    → b.agreed ≡ Some options → b.credit ≡ c.timers.credit → Opens c (halves_of c options) (confirmed b options octets)
opens_as b c options octets agreed known low low_there size named partner mine theirs =
    let least = least_most options.format in
    let k : Halves = halves_of c options in
    let h : Halves = record { sending = (opened (at b.clock (fresh (flow_rules b options) b.credit))).sender; receiving = empty (flow_rules b options) b.timers.credit } in
    Opened_by (record { took = b.clock; acked = b.clock; halves = h }) refl refl (record {
      both = λ now. record {
        options = options;
        one_rules = flow_rules b options;
        other_rules = flow_rules c options;
        one = record { agreed_is = mine; sending = refl; receiving = refl; sum = refl; format = refl; to = refl; partner = refl };
        other = record { agreed_is = agreed; sending = refl; receiving = refl; sum = refl; format = refl; to = refl; partner = refl };
        partner = partner;
        partner_back = named;
        forth_are = (record { to = refl; format = refl; sum = refl; kind = refl }, tt);
        back_are = tt;
        there = subst (λ (n : ℕ). IsCalm (opened (at b.clock (fresh (flow_rules b options) n))).sender k.receiving [] [] [] []) (sym theirs)
            (begins_calm (flow_rules b options) (flow_rules c options) c.timers.credit b.clock refl (omega (arith, low_there, least)));
        here = subst (λ (n : ℕ). IsCalm (opened (at now (fresh (flow_rules c options) n))).sender h.receiving [] [] (aks_in (ak h.receiving ∷ [])) []) (sym known)
            (ak_repeated (opened (at now (fresh (flow_rules c options) b.timers.credit))).sender h.receiving [] [] []
            (begins_calm (flow_rules c options) (flow_rules b options) b.timers.credit now refl (omega (arith, low, least))));
        carried_there = fresh_carries (flow_rules b options) (flow_rules c options) b.credit c.timers.credit b.clock (has_room options size);
        carried_here = fresh_carries (flow_rules c options) (flow_rules b options) c.credit b.timers.credit now (has_room options size);
      };
      sent = λ now. refl;
      quiet = λ now. refl;
      forth_is = refl;
      back_is = refl;
    })

cc_opens : (b c : EndRecord) (r : InCrWait) (options : Options) (octets : List ℕ) (sum : Bool) → c.agreed ≡ Some options → c.credit ≡ b.timers.credit → b.timers.credit ≤ 15 → c.timers.credit ≤ 15 → IsSized options → c.partner ≡ b.own
    → Opens c (halves_of c options) (cr_wait_tpdu b r (confirm c options octets).tpdu)
unfolding cr_wait_tpdu
cc_opens b c r options octets sum agreed known low low_there size named =
    subst (λ (o : Options). Opens c (halves_of c options) (if is_confirmed b.proposed options
    then confirmed (record b { partner = c.own; credit = c.timers.credit; agreed = Some o }) o octets
    else closing (record b { partner = c.own }) (gone b Protocol []) 133 [] b.clock)) (sym (options_back options size))
    (by (is_confirmed b.proposed options))
  where
    by : (within : Bool) → Opens c (halves_of c options) (if within
        then confirmed (record b { partner = c.own; credit = c.timers.credit; agreed = Some options }) options octets
        else closing (record b { partner = c.own }) (gone b Protocol []) 133 [] b.clock)
    by true = opens_as (record b { partner = c.own; credit = c.timers.credit; agreed = Some options }) c options octets agreed known low low_there (let least = sized_least options size in omega (arith, least)) named refl refl refl
    by false = Gone tt

-- the row of the calling end
pub confirmed_opens : (b c : EndRecord) (r : InCrWait) (options : Options) (octets : List ℕ) (now : ℕ) → c.agreed ≡ Some options → c.credit ≡ b.timers.credit → b.timers.credit ≤ 15 → c.timers.credit ≤ 15 → IsSized options → c.partner ≡ b.own
    → Opens c (halves_of c options) (takes whole now b (CrWait r) (confirm c options octets).tpdu (confirm c options octets).sum)
confirmed_opens b c r options octets now agreed known low low_there size named =
    let sum : agreed_sum c.agreed ≡ options.sum = ap agreed_sum agreed in
    let taken : (wants_sum b (CrWait r) (confirm c options octets).tpdu && not (agreed_sum c.agreed)) ≡ false =
    ap (λ (s : Bool). (extra_of options / 2 % 2 == 0) && not s) sum ∙ confirm_sum options in
    subst (λ (wants : Bool). Opens c (halves_of c options) (if wants then untaken b (CrWait r) else on_tpdu whole (now_at now b) (CrWait r) (confirm c options octets).tpdu)) (sym taken)
    (cc_opens (now_at now b) c r options octets (agreed_sum c.agreed) agreed known low low_there size named)

-- ---- the first AK

-- what the opening sends is nothing
led_none : (first : Party) (h : Halves) (m : Moved) (rest : List Sent) (u v : Account) → Continues first h m rest [] u v → Continues first h (led_by [] [] m) rest [] u v
led_none first h m rest u v (inl left) = inl left
led_none first h m rest u v (inr g) = inr (record { after = g.after; stage = g.stage; both = g.both })

first_ak : (b c : EndRecord) (h k : Halves) (sent : Sent) (u v : Account) → ((now : ℕ) → AreBoth (party b) (party c) h (record k { sending = (opened (at now k.sending)).sender }) (sent ∷ []) [] u v)
    → ((now : ℕ) → (opened (at now k.sending)).tpdus ≡ []) → ((now : ℕ) → (opened (at now k.sending)).events ≡ []) → Continues (party b) h (opening whole c k sent.tpdu) [] [] u v
first_ak b c h k sent u v both none quiet =
    let s : Sendings = opened (at c.clock k.sending) in
    let o : InOpened = record { took = c.clock; acked = c.clock; halves = record k { sending = s.sender } } in
    subst (λ (l : List Sent). Continues (party b) h (led_by s.events l (opened_tpdu whole c o sent.tpdu)) [] [] u v) (sym (none c.clock))
    (subst (λ (l : List EndEvent). Continues (party b) h (led_by l [] (opened_tpdu whole c o sent.tpdu)) [] [] u v) (sym (quiet c.clock))
    (led_none (party b) h (opened_tpdu whole c o sent.tpdu) [] u v
    (data_goes (party b) h c o sent.to sent.format sent.sum [] [] u v sent.tpdu (both c.clock))))

-- the row of the called end
pub first_opens : (b c : EndRecord) (h : Halves) (w : InAkWait) (now : ℕ) (u v : Account) → IsFirst b c h w.halves (ak h.receiving ∷ []) [] u v
    → Continues (party b) h (takes whole now c (AkWait w) (ak h.receiving).tpdu (ak h.receiving).sum) [] [] u v
unfolding ak_wait_tpdu
first_opens b c h w now u v f =
    let both = f.both now in
    subst (λ (wants : Bool). Continues (party b) h (if wants then untaken c (AkWait w) else on_tpdu whole (now_at now c) (AkWait w) (ak h.receiving).tpdu) [] [] u v)
    (sym (has_sum both.options c.agreed (ak h.receiving).sum both.other.agreed_is (both.forth_are.0.sum ∙ both.one.sum)))
    (first_ak b (now_at now c) h w.halves (ak h.receiving) u v f.both f.sent f.quiet)
