use Rattle.std.proofs.Common.{ap, arith, length}
use Rattle.esis_tables.proofs.Placing.{added, last_place, no_place, some_place, table_push, there_already}
use Rattle.esis_tables.proofs.room.place_of.Goals as goal

pub returns-in-Some-clause-ok : goal.returns-in-Some-clause-ok
returns-in-Some-clause-ok c = there_already c.args.rows.now c.args.name.now c.args.heard.now c.in-Some.place
    (some_place c.args.rows.now c.args.name.now c.in-Some.place (record { address = c.args.name.now; heard = c.args.heard.now }) (cc))

pub returns-in-Some-clause-place : goal.returns-in-Some-clause-place
returns-in-Some-clause-place c = some_place c.args.rows.now c.args.name.now c.in-Some.place
    (record { address = c.args.name.now; heard = c.args.heard.now }) (cc)

pub returns-then-len-ge-MOST_ROWS-clause-full : goal.returns-then-len-ge-MOST_ROWS-clause-full
returns-then-len-ge-MOST_ROWS-clause-full c is = (omega (arith, ap length c.ring.ensures), no_place c.args.rows.now c.args.name.now (cc))

pub returns-clause-table : goal.returns-clause-table
returns-clause-table c = table_push c.args.rows.now c.put.new.self (record { address = c.args.name.now; heard = c.args.heard.now }) c.requires
    (no_place c.args.rows.now c.args.name.now (cc)) (omega (arith, ap length c.ring.ensures)) c.in_ok-put.ensures.ok

pub returns-clause-ok : goal.returns-clause-ok
returns-clause-ok c = added c.args.rows.now c.put.new.self c.args.name.now c.args.heard.now (no_place c.args.rows.now c.args.name.now (cc))
    c.in_ok-put.ensures.ok

pub returns-clause-place : goal.returns-clause-place
returns-clause-place c = last_place c.args.rows.now c.put.new.self (record { address = c.args.name.now; heard = c.args.heard.now }) c.len-2.result
    c.in_ok-put.ensures.ok (omega (arith, ap length c.ring-2.ensures))
