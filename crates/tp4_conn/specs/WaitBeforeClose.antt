-- WaitBeforeClose: a CR was sent, and the user disconnected (X.224, class 4 state tables).
use Rattle.std.specs.Prelude.{◌+◌, nat_lt, [], ◌∷◌, if◌then◌else◌}
use Rattle.tpdu.specs.declared.tpdu.Tpdu.{Tpdu}
use Rattle.tpdu.specs.declared.tpdu.Tpdu.TheVariants.{Cc, Dr}
use Rattle.tp4_sending.specs.Pieces.{again}
use Rattle.tp4_conn.specs.declared.end_record.EndRecord.{EndRecord}
use Rattle.tp4_conn.specs.declared.states.InWaitBeforeClose.{InWaitBeforeClose}
use Rattle.tp4_conn.specs.declared.states.StateData.TheVariants.{WaitBeforeClose}
use Rattle.tp4_conn.specs.Agreeing.{request}
use Rattle.tp4_conn.specs.End.{Moved, stays, confirms, closing, frozen}

unfoldable pub wait_before_close_tpdu : EndRecord → InWaitBeforeClose → Tpdu → Moved
-- CC: partner reference set; DR 128 with the user's octets; Closing
wait_before_close_tpdu b w (Cc credit destination source width calling called size preferred extra version classes ack_time text) =
    closing (record b { partner = source }) [] 128 w.octets b.clock
-- DR: DC where its source is not 0; Frozen
wait_before_close_tpdu b w (Dr destination source reason info text) = frozen b [] (confirms b source)
wait_before_close_tpdu b w other = stays b (WaitBeforeClose w)

-- the request was sent again
abbrev pub again_parting : EndRecord → InWaitBeforeClose → InWaitBeforeClose
again_parting b w = record w { request = record w.request { tries = again b.clock w.request.tries } }

-- T1: CR again; after N sendings Frozen
unfoldable pub wait_before_close_tick : EndRecord → InWaitBeforeClose → Moved
wait_before_close_tick b w =
    if nat_lt b.clock (w.request.tries.last + b.timers.t1) then stays b (WaitBeforeClose w)
    else if nat_lt w.request.tries.count b.timers.sendings
    then record { base = b; stage = WaitBeforeClose (again_parting b w); events = []; tpdus = request b w.request.octets ∷ [] }
    else frozen b [] []
