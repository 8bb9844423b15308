-- A call has one list of events and leads to one state: the carrier is asked alike, so it answers alike and leads to one state, what waits
-- there is taken up in one way, and each unit among it gives one event.
use Rattle.std.proofs.Common.{◌≡◌, ℕ, ◌+◌, Bool, true, false, nat_lt, List, [], ◌∷◌, ◌++◌, length, Some, refl, sym, ◌∙◌, ap, subst, arith}
use Rattle.osi_base.specs.declared.unit.Offered.{Offered}
use Rattle.osi_base.specs.declared.unit.Picked.{Picked}
use Rattle.osi_base.specs.declared.unit.Picked.TheVariants.{Taken as WasPicked}
use Rattle.osi_base.specs.declared.unit.Unit.{Unit as CarriedUnit}
use Rattle.osi_base.specs.declared.unit.Up.{Up}
use Rattle.osi_base.specs.declared.unit.Up.TheVariants.{Unit as Came, Note as Noted}
use Rattle.osi_base.specs.Link.{Link}
use Rattle.osi_base.specs.Calls.{Call, Offer, Choose, Tick}
use Rattle.script_journal.specs.declared.cause.Settled.{Settled}
use Rattle.script_journal.specs.declared.cause.Settled.TheVariants as settled
use Rattle.law_carrier_answers.specs.Answers.{OneStep, OneGathering, asked_of, Offering}
use Rattle.net_world.specs.Told.{told, picked_event}
use Rattle.net_world.proofs.OneRun.{Same, least_none, least_one}
use Rattle.script_journal.specs.declared.event.Event.{Event}
use Rattle.script_journal.specs.declared.event.Event.TheVariants as events
use Rattle.cltp.specs.declared.sending.Request.{Request}
use Rattle.cltp.specs.declared.sending.ClAnswer.{ClAnswer}
use Rattle.cltp.specs.declared.system.ClSystem.{ClSystem}
use Rattle.cltp.specs.Hearing.{HearsAll}
use Rattle.cltp.specs.Laws.{OneRun, OneStart}
use Rattle.cltp.specs.Run.{Arrives, ClCall, Sending, Delivering, Ticking, Settling, Delivers, NoneLeft, OneMore, RunsCall, SendsIf, Settles, TakesUp, TooMany}
use Rattle.cltp.specs.Sending.{send_event, ud_for, ud_wish}
use Rattle.cltp.specs.Systems.{World}
use Rattle.cltp.proofs.Hearings.{one_hearing}
use Rattle.cltp.proofs.Written.{one_writing}

-- ---- what came up

heard_one : (systems : List ClSystem) (ups : List (Up (List ℕ))) (heard other : List Event) → HearsAll systems ups heard → HearsAll systems ups other → heard ≡ other
heard_one systems [] heard other h k = h ∙ sym k
heard_one systems (Noted note ∷ ups) heard other h k = heard_one systems ups heard other h k
heard_one systems (Came arrival ∷ ups) heard other h k =
    let here = one_hearing.one systems arrival h.0 k.0 h.2 k.2 in
    let rest = heard_one systems ups h.1 k.1 h.3 k.3 in
    h.4 ∙ (λ i. here i ++ rest i) ∙ sym k.4

module _ {C : Type 0} (link : C → Link (List ℕ)) (steps : C → Call (List ℕ) → C → Type 0) (once : OneStep steps) (gathers : OneGathering link steps) where
  takes_one : (systems : List ClSystem) (old : C) (made other : List Event) (new next : C) → TakesUp link steps systems old made new → TakesUp link steps systems old other next → Same made other new next
  takes_one systems old made other new next a b =
      let up = gathers old a.ups b.ups new next a.gathers b.gathers in
      let heard = heard_one systems b.ups a.heard b.heard (subst (λ (us : List (Up (List ℕ))). HearsAll systems us a.heard) up.0 a.hears) b.hears in
      record { events = a.made_is ∙ (λ i. told (up.0 i) ++ heard i) ∙ sym b.made_is; state = up.1 }

  -- two calls that are asked alike
  record SameCall (call other : Call (List ℕ)) (own likewise : Event) (made also : List Event) (new next : World C) : Type 0 where
    calls : call ≡ other
    events : own ≡ likewise → made ≡ also
    state : new ≡ next

  arrives_one : (old : World C) (call other : Call (List ℕ)) (own likewise : Event) (made also : List Event) (new next : World C) → asked_of call ≡ asked_of other
      → Arrives link steps old call own made new → Arrives link steps old other likewise also next → SameCall call other own likewise made also new next
  arrives_one old call other own likewise made also new next asked a b =
      let same = once old.carrier call other a.called b.called asked a.steps_to b.steps_to in
      let there = subst (λ (c : C). TakesUp link steps old.systems c a.later new.carrier) same.1 a.takes_up in
      let up = takes_one old.systems b.called a.later b.later new.carrier next.carrier there b.takes_up in
      let systems = a.same ∙ sym b.same in
      record {
        calls = same.0;
        events = λ e. a.made_is ∙ (λ i. e i ∷ up.events i) ∙ sym b.made_is;
        state = λ i. record { carrier = up.state i; systems = systems i };
      }

  offer_answer : (unit other : CarriedUnit (List ℕ)) (answer likewise : Offered) → Offer unit ud_wish answer ≡ Offer other ud_wish likewise → answer ≡ likewise
  offer_answer unit other answer likewise e = cc

  choose_answer : (number system : ℕ) (answer likewise : Picked) → (let call : Call (List ℕ) = Choose number system answer in call) ≡ Choose number system likewise → answer ≡ likewise
  choose_answer number system answer likewise e = cc

  some_same : {X : Type 0} (x y : X) → Some x ≡ Some y → x ≡ y
  some_same x y e = cc

  send_one : (long : Bool) (old : World C) (system : ℕ) (request : Request) (answer reply : ClAnswer) (made other : List Event) (new next : World C)
      → SendsIf link steps long old system request answer made new → SendsIf link steps long old system request reply other next → Same made other new next
  send_one true old system request answer reply made other new next a b = record { events = a.1 ∙ sym b.1; state = a.2 ∙ sym b.2 }
  send_one false old system request answer reply made other new next a b =
      let own : a.own ≡ b.own = some_same a.own b.own (sym a.own_is ∙ b.own_is) in
      let octets = one_writing (ud_for request) a.octets b.octets a.written b.written in
      let unit : CarriedUnit (List ℕ) = record { from = a.own.own; to = request.to; octets = a.octets } in
      let likewise : CarriedUnit (List ℕ) = record { from = b.own.own; to = request.to; octets = b.octets } in
      let units : unit ≡ likewise = λ i. record { from = (own i).own; to = request.to; octets = octets i } in
      let same = arrives_one old (Offer unit ud_wish a.offered) (Offer likewise ud_wish b.offered) (send_event system request a.offered) (send_event system request b.offered) made other new next
      (ap (λ (u : CarriedUnit (List ℕ)). Offering u ud_wish) units) a.arrives b.arrives in
      record { events = same.events (ap (send_event system request) (offer_answer unit likewise a.offered b.offered same.calls)); state = same.state }

  deliver_one : (old : World C) (number system : ℕ) (answer reply : Picked) (made other : List Event) (new next : World C)
      → Delivers link steps old number system answer made new → Delivers link steps old number system reply other next → Same made other new next
  deliver_one old number system answer reply made other new next a b =
      let same = arrives_one old (Choose number system answer) (Choose number system reply) (picked_event number system answer) (picked_event number system reply) made other new next refl a b in
      record {
        events = same.events (ap (λ (p : Picked). picked_event number system p) (choose_answer number system answer reply same.calls));
        state = same.state;
      }

  -- ---- settling

  ends_one : (old : World C) (answer reply said : Settled) (made other : List Event) (new next : World C) → answer ≡ said → reply ≡ said
      → made ≡ events.Settle answer ∷ [] → other ≡ events.Settle reply ∷ [] → new ≡ old → next ≡ old → Same made other new next
  ends_one old answer reply said made other new next a b c d e f =
      record { events = c ∙ ap (λ (s : Settled). events.Settle s ∷ []) (a ∙ sym b) ∙ sym d; state = e ∙ sym f }

  settle_one : (count : ℕ) (old : World C) (answer : Settled) (made : List Event) (new : World C) → Settles link steps count old answer made new
      → (reply : Settled) (other : List Event) (next : World C) → Settles link steps count old reply other next → Same made other new next
  settle_one count old answer made new (NoneLeft n o a m l fresh says is same) reply other next (NoneLeft n2 o2 a2 m2 l2 fresh2 says2 is2 same2) =
      ends_one old answer reply (settled.Settled count) made other new next says says2 is is2 same same2
  settle_one count old answer made new (NoneLeft n o a m l fresh says is same) reply other next (TooMany n2 o2 a2 m2 l2 pair2 fresh2 all2 says2 is2 same2) =
      absurd (least_none (link old.carrier) pair2 fresh fresh2)
  settle_one count old answer made new (NoneLeft n o a m l fresh says is same) reply other next (OneMore n2 o2 a2 m2 l2 pair2 mid2 here2 rest2 fresh2 low2 delivers2 others2 is2) =
      absurd (least_none (link old.carrier) pair2 fresh fresh2)
  settle_one count old answer made new (TooMany n o a m l pair fresh all says is same) reply other next (NoneLeft n2 o2 a2 m2 l2 fresh2 says2 is2 same2) =
      absurd (least_none (link old.carrier) pair fresh2 fresh)
  settle_one count old answer made new (TooMany n o a m l pair fresh all says is same) reply other next (TooMany n2 o2 a2 m2 l2 pair2 fresh2 all2 says2 is2 same2) =
      ends_one old answer reply (settled.Stopped count) made other new next says says2 is is2 same same2
  settle_one count old answer made new (TooMany n o a m l pair fresh all says is same) reply other next (OneMore n2 o2 a2 m2 l2 pair2 mid2 here2 rest2 fresh2 low2 delivers2 others2 is2) =
      absurd (omega (arith, low2, all))
  settle_one count old answer made new (OneMore n o a m l pair mid here rest fresh low delivers others is) reply other next (NoneLeft n2 o2 a2 m2 l2 fresh2 says2 is2 same2) =
      absurd (least_none (link old.carrier) pair fresh2 fresh)
  settle_one count old answer made new (OneMore n o a m l pair mid here rest fresh low delivers others is) reply other next (TooMany n2 o2 a2 m2 l2 pair2 fresh2 all2 says2 is2 same2) =
      absurd (omega (arith, low, all2))
  settle_one count old answer made new (OneMore n o a m l pair mid here rest fresh low delivers others is) reply other next (OneMore n2 o2 a2 m2 l2 pair2 mid2 here2 rest2 fresh2 low2 delivers2 others2 is2) =
      let pairs : pair ≡ pair2 = least_one (link old.carrier) pair pair2 fresh fresh2 in
      let first = deliver_one old pair2.0 pair2.1 WasPicked WasPicked here here2 mid mid2 (subst (λ (p : ℕ × ℕ). Delivers link steps old p.0 p.1 WasPicked here mid) pairs delivers) delivers2 in
      let then = settle_one (count + 1) mid answer rest new others reply rest2 next (subst (λ (w : World C). Settles link steps (count + 1) w reply rest2 next) (sym first.state) others2) in
      record { events = is ∙ (λ i. first.events i ++ then.events i) ∙ sym is2; state = then.state }

  call_one : (old : World C) (call : ClCall) (made other : List Event) (new next : World C) → RunsCall link steps old call made new → RunsCall link steps old call other next → Same made other new next
  call_one old (Sending system request) made other new next a b = send_one (nat_lt 16000 (length request.octets)) old system request a.2.0 b.2.0 made other new next a.2.1 b.2.1
  call_one old (Delivering number system) made other new next a b = deliver_one old number system a.0 b.0 made other new next a.1 b.1
  call_one old Ticking made other new next a b =
      let event : Event = events.Tick ((link old.carrier).clock + 1) in
      let same = arrives_one old Tick Tick event event made other new next refl a b in
      record { events = same.events refl; state = same.state }
  call_one old Settling made other new next a b = settle_one 0 old a.0 made new a.1 b.0 other next b.1

pub one_run : {C : Type 0} (link : C → Link (List ℕ)) (steps : C → Call (List ℕ) → C → Type 0) → (OneStep steps → OneGathering link steps) → OneRun link steps
one_run link steps gathers once old call made other new next a b =
    let same = call_one link steps once (gathers once) old call made other new next a b in
    (same.events, same.state)

pub one_start : {C : Type 0} (link : C → Link (List ℕ)) (steps : C → Call (List ℕ) → C → Type 0) → (OneStep steps → OneGathering link steps) → OneStart link steps
one_start link steps gathers once first systems made other new next a b =
    let up = takes_one link steps once (gathers once) systems first a.later b.later new.carrier next.carrier a.takes_up b.takes_up in
    let same = a.same ∙ sym b.same in
    (a.made_is ∙ ap (λ (es : List Event). events.Tick 0 ∷ es) up.events ∙ sym b.made_is, λ i. record { carrier = up.state i; systems = same i })
