use Rattle.std.proofs.Common.{◌≡◌, ◌++◌, ◌∷◌, ◌∙◌, [], ap, sym, List, length, length-append, arith}
use Rattle.clnp_system.specs.Node.{Node}
use Rattle.esis_tables.specs.Rows.{Rows}
use Rattle.script_setup.specs.SetUp.{System, nodes_from}
use Rattle.script_setup.proofs.Starting.{more_front, next_node, next_setting}
use Rattle.script_setup.proofs.setup.nodes.Goals as goal

pub new-requires : goal.new-requires
new-requires c =
    let all : c.args.systems.items ≡ c.loop-system.invariant.front ++ c.in-Some.system ∷ c.pop_front.new.self.items =
    c.loop-system.invariant.all ∙ ap (λ (left : List System). c.loop-system.invariant.front ++ left) c.in-Some.ensures.items in
    next_setting c.args.shared.now c.args.systems.items c.loop-system.invariant.front c.pop_front.new.self.items c.in-Some.system all
    (length c.as_slice.result.now) c.in_ok-setup.setup c.requires
    (c.loop-system.invariant.count ∙ ap (λ (nodes : List (Node Rows)). length nodes) (sym c.as_slice.ensures.value)) c.in_ok-setup.ensures

pub loop-system-preserved : goal.loop-system-preserved
loop-system-preserved c =
    let all : c.args.systems.items ≡ c.loop-system.invariant.front ++ c.in-Some.system ∷ c.pop_front.new.self.items =
    c.loop-system.invariant.all ∙ ap (λ (left : List System). c.loop-system.invariant.front ++ left) c.in-Some.ensures.items in
    let made : c.loop-system.nodes.items ++ nodes_from c.args.shared.now (length c.loop-system.nodes.items) (c.in-Some.system ∷ c.pop_front.new.self.items) ≡ nodes_from c.args.shared.now 0 c.args.systems.items =
    ap (λ (left : List System). c.loop-system.nodes.items ++ nodes_from c.args.shared.now (length c.loop-system.nodes.items) left) (sym c.in-Some.ensures.items) ∙ c.loop-system.invariant.made in
    let count = c.loop-system.invariant.count in
    record {
      front = c.loop-system.invariant.front ++ c.in-Some.system ∷ [];
      all = more_front c.args.shared.now c.args.systems.items c.loop-system.invariant.front c.pop_front.new.self.items c.in-Some.system all;
      count = omega (
        arith,
        length-append c.loop-system.invariant.front (c.in-Some.system ∷ []),
        length-append c.loop-system.nodes.items (c.in_ok-new.field-0 ∷ []),
        ap (λ (nodes : List (Node Rows)). length nodes) c.in_ok-push.ensures.items,
      );
      made = next_node c.args.shared.now c.args.systems.items c.pop_front.new.self.items c.in-Some.system c.loop-system.nodes.items c.push.new.self.items c.in_ok-new.field-0 c.in_ok-setup.setup
          (length c.as_slice.result.now) (ap (λ (nodes : List (Node Rows)). length nodes) c.as_slice.ensures.value) c.in_ok-setup.ensures c.in_ok-new.ensures c.in_ok-push.ensures.items made;
    }
