-- Closing: a DR was sent (X.224, class 4 state tables).
use Rattle.std.specs.Prelude.{◌+◌, nat_lt, nat_le, [], ◌∷◌, if◌then◌else◌}
use Rattle.tpdu.specs.declared.tpdu.Tpdu.{Tpdu}
use Rattle.tpdu.specs.declared.tpdu.Tpdu.TheVariants.{Dr, Dc}
use Rattle.tp4_conn.specs.declared.end_record.EndRecord.{EndRecord}
use Rattle.tp4_conn.specs.declared.states.InClosing.{InClosing}
use Rattle.tp4_conn.specs.declared.states.StateData.TheVariants.{Closing}
use Rattle.tp4_conn.specs.End.{Moved, stays, release, frozen, span}

unfoldable pub closing_tpdu : EndRecord → InClosing → Tpdu → Moved
-- DC, DR: Frozen
closing_tpdu b c (Dc destination source) = frozen b [] []
closing_tpdu b c (Dr destination source cause info text) = frozen b [] []
closing_tpdu b c other = stays b (Closing c)

-- its last tick, N T1 after its beginning: Frozen. T1, before it: DR again
unfoldable pub closing_tick : EndRecord → InClosing → Moved
closing_tick b c =
    if nat_le (c.from + span b.timers) b.clock then frozen b [] []
    else if nat_lt b.clock (c.last + b.timers.t1) then stays b (Closing c)
    else record { base = b; stage = Closing (record c { last = b.clock }); events = []; tpdus = release b c.reason c.octets ∷ [] }
