-- A call of a network of users leaves the systems, and moves the clock by one tick at most.
use Rattle.std.proofs.Common.{◌≡◌, ℕ, ◌+◌, ◌≤◌, Bool, true, false, nat_lt, List, length, ◌∙◌, ap, arith}
use Rattle.osi_base.specs.declared.unit.Picked.TheVariants.{Taken as WasPicked}
use Rattle.osi_base.specs.Link.{Link}
use Rattle.osi_base.specs.Calls.{Call, Choose, Keeps, Offer, Tick}
use Rattle.script_journal.specs.declared.cause.Settled.{Settled}
use Rattle.script_journal.specs.declared.event.Event.{Event}
use Rattle.cltp.specs.declared.sending.ClAnswer.{ClAnswer}
use Rattle.cltp.specs.declared.sending.Request.{Request}
use Rattle.cltp.specs.declared.system.ClSystem.{ClSystem}
use Rattle.cltp.specs.Run.{Arrives, ClCall, Sending, Delivering, Ticking, Settling, NoneLeft, OneMore, RunsCall, SendsIf, Settles, Starts, TooMany}
use Rattle.cltp.specs.Sending.{ud_wish}
use Rattle.cltp.specs.Systems.{World}

module _ {N : Type 0} (link : N → Link (List ℕ)) (steps : N → Call (List ℕ) → N → Type 0) (keeps : (old : N) (call : Call (List ℕ)) (new : N) → steps old call new → Keeps (link old) call (link new)) where
  pub record Near (old new : World N) : Type 0 where
    pub clock : (link new.carrier).clock ≤ (link old.carrier).clock + 1
    pub systems : new.systems ≡ old.systems

  record Stays (old new : World N) : Type 0 where
    clock : (link new.carrier).clock ≡ (link old.carrier).clock
    systems : new.systems ≡ old.systems

  same : (old new : World N) → new ≡ old → Stays old new
  same old new is = record { clock = ap (λ (w : World N). (link w.carrier).clock) is; systems = ap (λ (w : World N). w.systems) is }

  near : (old new : World N) → Stays old new → Near old new
  near old new s = let clock = s.clock in record { clock = omega arith; systems = s.systems }

  sent : (long : Bool) (old : World N) (system : ℕ) (request : Request) (answer : ClAnswer) (made : List Event) (new : World N) → SendsIf link steps long old system request answer made new → Stays old new
  sent true old system request answer made new h = same old new h.2
  sent false old system request answer made new h =
      let a = h.arrives in
      let k = keeps old.carrier (Offer (record { from = h.own.own; to = request.to; octets = h.octets }) ud_wish h.offered) a.called a.steps_to in
      record { clock = a.takes_up.gathers.stands.clock ∙ k.clock; systems = a.same }

  delivered : (old : World N) (number system : ℕ) (call : Call (List ℕ)) (own : Event) (made : List Event) (new : World N) → ((called : N) → steps old.carrier call called → (link called).clock ≡ (link old.carrier).clock)
      → Arrives link steps old call own made new → Stays old new
  delivered old number system call own made new still a = record { clock = a.takes_up.gathers.stands.clock ∙ still a.called a.steps_to; systems = a.same }

  settled : (count : ℕ) (old : World N) (answer : Settled) (made : List Event) (new : World N) → Settles link steps count old answer made new → Stays old new
  settled count old answer made new (NoneLeft n o a m l fresh says is ends) = same old new ends
  settled count old answer made new (TooMany n o a m l pair fresh all says is ends) = same old new ends
  settled count old answer made new (OneMore n o a m l pair mid here rest fresh low delivers others is) =
      let first = delivered old pair.0 pair.1 (Choose pair.0 pair.1 WasPicked) _ here mid (λ called s. (keeps old.carrier (Choose pair.0 pair.1 WasPicked) called s).clock) delivers in
      let then = settled (count + 1) mid answer rest new others in
      record { clock = then.clock ∙ first.clock; systems = then.systems ∙ first.systems }

  pub call_near : (old : World N) (call : ClCall) (made : List Event) (new : World N) → RunsCall link steps old call made new → Near old new
  call_near old (Sending system request) made new h = near old new (sent (nat_lt 16000 (length request.octets)) old system request h.2.0 made new h.2.1)
  call_near old (Delivering number system) made new h =
      near old new (delivered old number system (Choose number system h.0) _ made new (λ called s. (keeps old.carrier (Choose number system h.0) called s).clock) h.1)
  call_near old Ticking made new h =
      let k = keeps old.carrier Tick h.called h.steps_to in
      let after = h.takes_up.gathers.stands.clock in
      let tick = k.clock in
      record { clock = omega arith; systems = h.same }
  call_near old Settling made new h = near old new (settled 0 old h.0 made new h.1)

  pub start_clock : (net : N) (systems : List ClSystem) (made : List Event) (new : World N) → Starts link steps net systems made new → (link new.carrier).clock ≡ (link net).clock
  start_clock net systems made new s = s.takes_up.gathers.stands.clock
