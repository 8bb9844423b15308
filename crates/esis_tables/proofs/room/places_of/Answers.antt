use Rattle.std.proofs.Common.{◌≡◌, ◌≤◌, length, false, ap, Err}
use Rattle.esis_tables.specs.declared.address_table.HearRefusal.TheVariants.{Full}
use Rattle.esis_tables.specs.Rows.{has_row}
use Rattle.esis_tables.proofs.Placing.{placing_full, placing_more}
use Rattle.esis_tables.proofs.room.places_of.Goals as goal

pub returns-in-Err-clause-full : goal.returns-in-Err-clause-full
returns-in-Err-clause-full c is =
    let e : c.in-Err.refusal ≡ Full = cc in
    let full : (256 ≤ length c.loop-name.rows) × (has_row c.loop-name.rows c.name-item.result ≡ false) = c.in-Err.ensures.full (ap Err e) in
    placing_full c.args.rows.now c.args.names.now c.args.heard.now c.loop-name.rows c.loop-name.places.items c.loop-name.name-index c.name-item.result
    c.loop-name-test.true c.name-item.is c.loop-name.invariant full.0 full.1

pub loop-name-preserved : goal.loop-name-preserved
loop-name-preserved c = placing_more c.args.rows.now c.args.names.now c.args.heard.now c.loop-name.rows c.place_of.new.rows
    c.loop-name.places.items c.note.new.places.items c.loop-name.name-index c.in-Ok.place c.name-item.result
    c.loop-name-test.true c.name-item.is c.loop-name.invariant c.in-Ok.ensures.ok c.in-Ok.ensures.table c.in-Ok.ensures.place c.in_ok-note-in-Ok.ensures
