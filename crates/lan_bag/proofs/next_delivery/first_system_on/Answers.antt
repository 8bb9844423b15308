use Rattle.std.proofs.Common.{◌≡◌, List, Option, Some, ℕ, true, ap, sym, subst, ◌∙◌, ◌+◌, take, arith}
use Rattle.nsap.specs.declared.port.Port.{Port}
use Rattle.lan_step.specs.declared.row.PortRow.{PortRow}
use Rattle.lan_step.specs.Receivers.{is_one_of}
use Rattle.lan_bag.specs.steps.Openings.{is_free_to, is_open_to, is_open_at}
use Rattle.lan_bag.specs.steps.Setting.{rows_on}
use Rattle.lan_bag.proofs.LanLists.{first_shut, least_on, open_free}
use Rattle.lan_bag.proofs.Openings.{IsLeastAmong}
use Rattle.lan_bag.proofs.Openings.{among_more, among_same, least_open, take_rows}
use Rattle.lan_bag.proofs.next_delivery.first_system_on.Goals as goal
use Rattle.lan_bag.proofs.next_delivery.first_system_on.Goals.{then-is_one_of+then-is_free, else-is_one_of, else-is_one_of-via-then-is_one_of+else-is_free, else-is_one_of-via-else-is_one_of}

pub loop-row-preserved : goal.loop-row-preserved
loop-row-preserved c =
    let frame = c.args.sent.now in
    let row = c.row-item.result in
    let one : is_one_of frame.unit.to row ≡ c.is_one_of.result = sym (c.is_one_of.ensures ∙ ap (λ (to : Port). is_one_of to row) c.to-to.ensures) in
    let free : is_one_of frame.unit.to row ≡ true → is_open_at c.args.clock c.args.setup.now.lans c.args.setup.now.rows frame row ≡ is_free_to c.args.setup.now.rows frame row.system =
    open_free c.args.clock c.args.setup.now.lans c.args.setup.now.rows frame c.rows_on-row-items.result.now c.loop-row.row-index row
    (subst (λ (port : Port). rows_on c.rows_on-row-items.result.now port.lan ≡ rows_on c.args.setup.now.rows port.lan) c.to-to.ensures c.rows_on-row-items.ensures)
    c.loop-row-test.true c.row-item.is (sym c.is_live.ensures ∙ c.if-not-is_live.false) in
    elim c.if-is_one_of.branch [
      | then-is_one_of+then-is_free w ↦
          subst (λ (o : Option ℕ). IsLeastAmong c.args.clock c.args.setup.now.lans c.args.setup.now.rows frame (take (c.loop-row.row-index + 1) c.rows_on-row-items.result.now) o) (sym (w.least-is ∙ ap (λ (s : ℕ). Some s) w.lesser.ensures))
          (among_more c.args.clock c.args.setup.now.lans c.args.setup.now.rows frame c.rows_on-row-items.result.now c.loop-row.row-index row c.loop-row.least
          c.loop-row-test.true c.row-item.is c.loop-row.invariant (free (one ∙ w.if-is_one_of.true) ∙ (sym w.is_free.ensures ∙ w.if-is_free.true)))
      | else-is_one_of w ↦
          subst (λ (o : Option ℕ). IsLeastAmong c.args.clock c.args.setup.now.lans c.args.setup.now.rows frame (take (c.loop-row.row-index + 1) c.rows_on-row-items.result.now) o) (sym w.least-is)
          (among_same c.args.clock c.args.setup.now.lans c.args.setup.now.rows frame c.rows_on-row-items.result.now c.loop-row.row-index row c.loop-row.least
          c.loop-row-test.true c.row-item.is c.loop-row.invariant
          (elim w.else-is_one_of.branch [
            | else-is_one_of-via-then-is_one_of+else-is_free v ↦ free (one ∙ v.if-is_one_of.true) ∙ (sym v.is_free.ensures ∙ v.if-is_free.false)
            | else-is_one_of-via-else-is_one_of v ↦
                first_shut (is_one_of frame.unit.to row) (is_open_to c.args.clock c.args.setup.now.lans c.args.setup.now.rows frame row.system) (one ∙ v.if-is_one_of.false)
          ]))
    ]

pub returns : goal.returns
returns c =
    let frame = c.args.sent.now in
    least_open c.args.clock c.args.setup.now.lans c.args.setup.now.rows frame c.loop-row.least
    (least_on c.args.clock c.args.setup.now.lans c.args.setup.now.rows frame c.rows_on-row-items.result.now c.loop-row.least
    (subst (λ (lan : ℕ). rows_on c.rows_on-row-items.result.now lan ≡ rows_on c.args.setup.now.rows lan) (ap (λ (port : Port). port.lan) c.to-to.ensures) c.rows_on-row-items.ensures)
    (subst (λ (rows : List PortRow). IsLeastAmong c.args.clock c.args.setup.now.lans c.args.setup.now.rows frame rows c.loop-row.least)
    (take_rows c.rows_on-row-items.result.now c.loop-row.row-index (omega arith)) c.loop-row.invariant))
