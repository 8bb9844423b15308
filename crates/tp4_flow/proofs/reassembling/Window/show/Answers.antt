use Rattle.std.proofs.Common.{◌≡◌, ◌<◌, ◌+◌, sym, ap, arith, length, false, Some, None, get_or}
use Rattle.std.proofs.lemmas.Bool.Decides.{nat_tests}
use Rattle.tp4_number.specs.Window.{Held, joined, is_larger}
use Rattle.tp4_flow.proofs.Joinings.{Joining, joined_count, joining_on}
use Rattle.tp4_flow.proofs.reassembling.Window.show.Goals as goal
use Rattle.tp4_flow.proofs.reassembling.Window.show.Goals.{In_ok-pass}

next : (c : In_ok-pass) → Joining c.args.own c.args.self.now c.args.out.now (c.loop-piece.count + 1) c.pass.new.self c.pass.new.out
    × ((joined c.pass.new.self.begun c.pass.new.self.places).count < (joined c.loop-piece.self.begun c.loop-piece.self.places).count)
next c =
    let first : Some c.in-Some.piece.now ≡ get_or c.loop-piece.self.places 0 None = cc in
    let fits : is_larger c.loop-piece.self.begun c.in-Some.piece.now ≡ false = grind (arith, nat_tests) in
    joining_on c.args.own c.args.self.now c.args.out.now c.loop-piece.count c.loop-piece.self c.loop-piece.out c.in-Some.piece.now c.pass.new.self c.pass.new.out
    c.loop-piece.invariant first fits (c.in_ok-pass.ensures.ok c.in-Some.piece.now (sym first)) c.in_ok-pass.ensures.room

pub overflow_add-count : goal.overflow_add-count
overflow_add-count c = omega (arith, (next c).0.counted, joined_count c.args.self.now.begun c.args.self.now.places, c.self.invariant, ap (λ (h : Held). length h.places) c.self.view_is)

pub loop-piece-smaller : goal.loop-piece-smaller
loop-piece-smaller c = (next c).1

pub loop-piece-preserved : goal.loop-piece-preserved
loop-piece-preserved c = (next c).0
