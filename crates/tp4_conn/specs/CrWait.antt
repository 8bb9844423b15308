-- CrWait: a CR was sent (X.224, class 4 state tables).
use Rattle.std.specs.Prelude.{ℕ, ◌+◌, nat_lt, List, [], ◌∷◌, ◌++◌, Some, if◌then◌else◌}
use Rattle.tpdu.specs.declared.tpdu.Tpdu.{Tpdu}
use Rattle.tpdu.specs.declared.tpdu.Tpdu.TheVariants.{Cc, Dr}
use Rattle.tp4_flow.specs.ReceivingHalf.{ak}
use Rattle.tpdu.specs.declared.service.Options.{Options}
use Rattle.tpdu.specs.declared.service.GoneCause.TheVariants.{Reason, Protocol, Exhausted}
use Rattle.tpdu.specs.declared.service.EndTold.TheVariants.{Confirm}
use Rattle.tp4_sending.specs.SendingHalf.{at, opened}
use Rattle.tp4_sending.specs.Pieces.{again}
use Rattle.tp4_conn.specs.declared.end_record.EndRecord.{EndRecord}
use Rattle.tp4_conn.specs.declared.halves.Halves.{Halves}
use Rattle.tp4_conn.specs.declared.states.InCrWait.{InCrWait}
use Rattle.tp4_conn.specs.declared.states.StateData.TheVariants.{CrWait, WaitBeforeClose, Opened}
use Rattle.tp4_conn.specs.Agreeing.{options_in, is_within, halves_of, request}
use Rattle.tp4_conn.specs.End.{Moved, stays, tell, gone, confirms, closing, frozen}

-- confirm; AK; Opened
abbrev pub confirmed_with : EndRecord → Options → List ℕ → Halves → Moved
confirmed_with b o octets h = let s = opened (at b.clock h.sending) in record {
  base = b;
  stage = Opened (record { took = b.clock; acked = b.clock; halves = record h { sending = s.sender } });
  events = tell b (Confirm o octets) ∷ s.events;
  tpdus = s.tpdus ++ ak h.receiving ∷ [];
}

abbrev pub confirmed : EndRecord → Options → List ℕ → Moved
confirmed b o octets = confirmed_with b o octets (halves_of b o)

unfoldable pub cr_wait_tpdu : EndRecord → InCrWait → Tpdu → Moved
-- CC: partner reference set; where it is within what was proposed, confirm, AK, Opened; else gone protocol, DR 133, Closing
cr_wait_tpdu b w (Cc credit destination source width calling called size preferred extra version classes ack_time text) =
    if is_within b.proposed width size preferred extra
    then confirmed (record b { partner = source; credit = credit; agreed = Some (options_in width size preferred extra) }) (options_in width size preferred extra) text
    else closing (record b { partner = source }) (gone b Protocol []) 133 [] b.clock
-- DR: gone with its reason and data; DC where its source is not 0; Frozen
cr_wait_tpdu b w (Dr destination source reason info text) = frozen b (gone b (Reason reason) text) (confirms b source)
cr_wait_tpdu b w other = stays b (CrWait w)

-- T1 since the last sending: CR again; after N sendings gone exhausted, Frozen
unfoldable pub cr_wait_tick : EndRecord → InCrWait → Moved
cr_wait_tick b w =
    if nat_lt b.clock (w.tries.last + b.timers.t1) then stays b (CrWait w)
    else if nat_lt w.tries.count b.timers.sendings
    then record { base = b; stage = CrWait (record w { tries = again b.clock w.tries }); events = []; tpdus = request b w.octets ∷ [] }
    else frozen b (gone b Exhausted []) []

-- disconnect: WaitBeforeClose
abbrev pub cr_wait_disconnect : EndRecord → InCrWait → List ℕ → Moved
cr_wait_disconnect b w octets = stays b (WaitBeforeClose (record { request = w; octets = octets }))
