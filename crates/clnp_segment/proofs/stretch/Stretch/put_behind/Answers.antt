use Rattle.std.proofs.Common.{◌≡◌, ◌+◌, ◌-◌, ◌++◌, ◌∙◌, ℕ, List, ap, length, min, take, arith}
use Rattle.std.proofs.lemmas.Result.{on_ok_weaker}
use Rattle.clnp_segment.proofs.Stretches.{behind}
use Rattle.clnp_segment.proofs.stretch.Stretch.put_behind.Goals as goal

pub returns-clause-ok : goal.returns-clause-ok
returns-clause-ok c =
    let front : c.self.inside.room + c.min.result ≡ c.self.inside.room + min c.args.kept (length c.self.inside.buffer.items - c.self.inside.room) =
    omega (arith, c.min.ensures, c.len.ensures) in
    on_ok_weaker c.extend.result
    (λ is. behind c.self.inside.room c.args.kept (c.self.inside.room + c.min.result) c.self.inside.buffer.items c.extend.new.whole.items
    (c.args.octets.now ++ c.args.back.now) c.self.invariant front is
    ∙ ap (λ (xs : List ℕ). take c.args.kept xs ++ (c.args.octets.now ++ c.args.back.now)) c.self.view_is)
    c.extend.ensures.ok
