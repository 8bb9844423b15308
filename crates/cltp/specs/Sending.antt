-- Datagrams that go out (X.234, unit data transfer).
use Rattle.std.specs.Prelude.{ℕ, true, false}
use Rattle.osi_base.specs.declared.unit.Offered.{Offered}
use Rattle.osi_base.specs.declared.unit.Offered.TheVariants.{Taken as WasTaken, Dropped}
use Rattle.osi_base.specs.declared.unit.Wish.{Wish}
use Rattle.net_world.specs.Told.{refusal}
use Rattle.script_journal.specs.declared.event.Event.{Event}
use Rattle.script_journal.specs.declared.event.Event.TheVariants as events
use Rattle.cltp.specs.declared.sending.Request.{Request}
use Rattle.cltp.specs.declared.sending.ClAnswer.{ClAnswer}
use Rattle.cltp.specs.declared.sending.ClAnswer.TheVariants as answers
use Rattle.cltp.specs.Ud.{Ud}

-- the UD of a request
abbrev pub ud_for : Request → Ud
ud_for request = record { from = request.from_selector; to = request.to_selector; octets = request.octets }

-- its unit may be cut, and asks for nothing else
abbrev pub ud_wish : Wish
ud_wish = record { cut = true; report = false; trace = false; path = 0 }

-- the answer, and the event, by the network's answer
abbrev pub answer_of : Offered → ClAnswer
answer_of WasTaken = answers.Done
answer_of (Dropped cause) = answers.Dropped cause

abbrev pub send_event : ℕ → Request → Offered → Event
send_event system request WasTaken = events.Send system request.from_selector request.to request.to_selector request.octets
send_event system request (Dropped cause) = events.No (refusal cause)
