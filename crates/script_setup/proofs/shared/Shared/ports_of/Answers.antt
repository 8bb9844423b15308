use Rattle.std.proofs.Common.{◌≡◌, ◌∙◌, ◌+◌, ◌++◌, ◌∷◌, [], List, take, ap, sym, subst}
use Rattle.std.proofs.lemmas.List.{append-nil, take_more}
use Rattle.nsap.specs.declared.port.Port.{Port}
use Rattle.lan_step.specs.declared.row.PortRow.{PortRow}
use Rattle.script_setup.specs.SetUp.{SetUp}
use Rattle.script_setup.proofs.Adding.{ports_next}
use Rattle.script_setup.proofs.Ports.{own_is, own_none}
use Rattle.script_setup.proofs.shared.Shared.ports_of.Goals.{then-row-number+in_ok-push, else-row-number}
use Rattle.script_setup.proofs.shared.Shared.ports_of.Goals as goal

pub loop-row-preserved : goal.loop-row-preserved
loop-row-preserved c =
    let rows : c.deref-row-items.result.now ≡ c.args.self.now.ports = c.deref-row-items.ensures.value ∙ ap (λ (s : SetUp). s.ports) c.self.view_is in
    let here : take (c.loop-row.row-index + 1) c.deref-row-items.result.now ≡ take c.loop-row.row-index c.deref-row-items.result.now ++ c.row-item.result ∷ [] =
    take_more c.deref-row-items.result.now c.loop-row.row-index c.row-item.result c.loop-row-test.true
    ∙ ap (λ (row : PortRow). take c.loop-row.row-index c.deref-row-items.result.now ++ row ∷ []) (sym c.row-item.is) in
    let more : take (c.loop-row.row-index + 1) c.args.self.now.ports ≡ take c.loop-row.row-index c.args.self.now.ports ++ c.row-item.result ∷ [] =
    subst (λ (all : List PortRow). take (c.loop-row.row-index + 1) all ≡ take c.loop-row.row-index all ++ c.row-item.result ∷ []) rows here in
    elim c.if-row-number.branch [
      | then-row-number+in_ok-push w ↦
          ports_next c.args.self.now.ports c.loop-row.row-index c.row-item.result c.args.number c.loop-row.ports.items c.if-row-number.ports.items more c.loop-row.invariant
          (ap (λ ports. ports.items) w.ports-is ∙ w.in_ok-push.ensures.items
          ∙ ap (λ (ports : List Port). c.loop-row.ports.items ++ ports) (sym (own_is c.row-item.result c.args.number w.if-row-number.true)))
      | else-row-number w ↦
          ports_next c.args.self.now.ports c.loop-row.row-index c.row-item.result c.args.number c.loop-row.ports.items c.if-row-number.ports.items more c.loop-row.invariant
          (ap (λ ports. ports.items) w.ports-is ∙ sym (append-nil c.loop-row.ports.items)
          ∙ ap (λ (ports : List Port). c.loop-row.ports.items ++ ports) (sym (own_none c.row-item.result c.args.number w.if-row-number.false)))
    ]
