-- Each unit that comes up gives exactly one event, at the users of its system (X.234, unit data transfer).
use Rattle.std.specs.Prelude.{◌≡◌, ℕ, ◌+◌, Bool, true, false, nat_lt, List, [], ◌∷◌, length, Some}
use Rattle.osi_base.specs.declared.unit.Up.{Up}
use Rattle.osi_base.specs.declared.unit.Up.TheVariants.{Unit as Came, Note as Noted}
use Rattle.osi_base.specs.Link.{Link}
use Rattle.osi_base.specs.Calls.{Call}
use Rattle.script_journal.specs.declared.cause.Settled.{Settled}
use Rattle.script_journal.specs.declared.event.Event.{Event}
use Rattle.cltp.specs.declared.sending.Request.{Request}
use Rattle.cltp.specs.declared.sending.ClAnswer.{ClAnswer}
use Rattle.cltp.specs.declared.system.ClSystem.{ClSystem}
use Rattle.cltp.specs.Hearing.{TellsOf}
use Rattle.cltp.specs.Run.{Arrives, ClCall, Sending, Delivering, Ticking, Settling, NoneLeft, OneMore, RunsCall, SendsIf, Settles, TooMany}
use Rattle.cltp.specs.Systems.{World, system_at}

-- of what came up each unit has one event, in order, and there is no other: that it is no UD, that its selector has no user, or the datagram
abbrev pub GivesEach : List ClSystem → List (Up (List ℕ)) → List Event → Type 0
GivesEach systems [] heard = heard ≡ []
GivesEach systems (Noted note ∷ ups) heard = GivesEach systems ups heard
GivesEach systems (Came arrival ∷ ups) heard =
    (own : ClSystem) × (event : Event) × (rest : List Event) × (system_at systems arrival.system ≡ Some own) × TellsOf own arrival.unit event × (heard ≡ event ∷ rest)
    × GivesEach systems ups rest

module _ {C : Type 0} (link : C → Link (List ℕ)) (steps : C → Call (List ℕ) → C → Type 0) where
  -- so it is of what comes up after a call of the carrier
  abbrev pub ArrivesEach : (old : World C) (call : Call (List ℕ)) (own : Event) (made : List Event) (new : World C) → Arrives link steps old call own made new → Type 0
  ArrivesEach old call own made new arrives = GivesEach old.systems arrives.takes_up.ups arrives.takes_up.heard

  abbrev pub SendsEach : (long : Bool) (old : World C) (system : ℕ) (request : Request) (answer : ClAnswer) (made : List Event) (new : World C) → SendsIf link steps long old system request answer made new → Type 0
  SendsEach true old system request answer made new sends = Unit {0}
  SendsEach false old system request answer made new sends = ArrivesEach old _ _ made new sends.arrives

  -- of each delivery of a settling
  abbrev pub SettlesEach : (count : ℕ) (old : World C) (answer : Settled) (made : List Event) (new : World C) → Settles link steps count old answer made new → Type 0
  SettlesEach count old answer made new (NoneLeft n o a m l fresh says is same) = Unit {0}
  SettlesEach count old answer made new (TooMany n o a m l pair fresh all says is same) = Unit {0}
  SettlesEach count old answer made new (OneMore n o a m l pair mid here rest fresh low delivers others is) = ArrivesEach old _ _ here mid delivers × SettlesEach (count + 1) mid answer rest new others

  -- of all that comes up in a call
  abbrev pub CallGivesEach : (old : World C) (call : ClCall) (made : List Event) (new : World C) → RunsCall link steps old call made new → Type 0
  CallGivesEach old (Sending system request) made new runs = SendsEach (nat_lt 16000 (length request.octets)) old system request runs.2.0 made new runs.2.1
  CallGivesEach old (Delivering number system) made new runs = ArrivesEach old _ _ made new runs.1
  CallGivesEach old Ticking made new runs = ArrivesEach old _ _ made new runs
  CallGivesEach old Settling made new runs = SettlesEach 0 old runs.0 made new runs.1
